-- What ends next in a bank.
use Rattle.std.proofs.Common.{◌≡◌, ℕ, ◌+◌, ◌-◌, ◌<◌, ◌≤◌, ◌&&◌, Bool, true, false, List, [], ◌∷◌, ◌++◌, length, length-append, Option, refl, sym, ap, ◌∙◌, cond, subst, arith}
use Rattle.std.{specs.List.{list_all, list_any}, specs.Prelude.{filter, nat_le, nat_lt, not, min}, proofs.Math.Nat.{min-le_left, min-le_right}}
use Rattle.std.proofs.{lemmas.Bool.{leb-true, le-leb, lt-ltb, lt-leb}, lemmas.List.Folds.list_all-append}
use Rattle.masked_bytes.proofs.{Counting.one_if, Truth.{and_first, and_second}}
use Rattle.result_rows.specs.declared.Outcome.{Outcome}
use Rattle.result_rows.specs.declared.Outcome.TheVariants as out
use Rattle.check_judging.specs.Distances.{later_of}
use Rattle.check_verdict.specs.{Fitting.{is_of, twins_in}, Joined.stays_beside, Kept.{ended, least_end}, Members.never, States.{Facts, settled, after_write, after_read}}
use Rattle.check_verdict.{specs.declared.members.Member.Member, proofs.Twins.{none_leaves, twins-few, twins-joined}}
use Rattle.result_check.specs.Watching.{NoneEndsBelow, IsWatched, least_of, read_at}

-- a bound on some numbers
module _ {A : Type 0} (f : A → ℕ) where
  pub bound_less : (first next : ℕ) (xs : List A) → nat_le next first ≡ true → list_all (λ y. nat_le first (f y)) xs ≡ true → list_all (λ y. nat_le next (f y)) xs ≡ true
  bound_less first next [] le h = refl
  bound_less first next (y ∷ xs) le h =
      let a = leb-true first (f y) (and_first _ _ h) in
      let b = leb-true next first le in
      let own : nat_le next (f y) ≡ true = le-leb next (f y) (omega (arith, a, b)) in
      ap (λ c. c && list_all (λ y. nat_le next (f y)) xs) own ∙ bound_less first next xs le (and_second _ _ h)

-- the least of some ticks is at most each
end_below : (first : ℕ) (ms : List Member) → least_end first ms ≤ first
end_below first [] = omega arith
end_below first (m ∷ ms) = let h = end_below (min first m.end) ms in let k = min-le_left first m.end in omega (arith, h, k)

wait_below : (first : ℕ) (vs : List ℕ) → least_of first vs ≤ first
wait_below first [] = omega arith
wait_below first (v ∷ vs) = let h = wait_below (min first v) vs in let k = min-le_left first v in omega (arith, h, k)

pub end_least : (first : ℕ) (ms : List Member) → list_all (λ m. nat_le (least_end first ms) m.end) ms ≡ true
end_least first [] = refl
end_least first (m ∷ ms) =
    let h = end_below (min first m.end) ms in let k = min-le_right first m.end in
    ap (λ b. b && list_all (λ m'. nat_le (least_end first (m ∷ ms)) m'.end) ms) (le-leb (least_end (min first m.end) ms) m.end (omega (arith, h, k)))
    ∙ end_least (min first m.end) ms

pub wait_least : (first : ℕ) (vs : List ℕ) → list_all (λ v. nat_le (least_of first vs) v) vs ≡ true
wait_least first [] = refl
wait_least first (v ∷ vs) =
    let h = wait_below (min first v) vs in let k = min-le_right first v in
    ap (λ b. b && list_all (λ w. nat_le (least_of first (v ∷ vs)) w) vs) (le-leb (least_of (min first v) vs) v (omega (arith, h, k)))
    ∙ wait_least (min first v) vs

-- the least of both is one for a bank
pub none_below_least : (f : Facts) (ends waits : ℕ) → ends ≡ least_end never f.members → waits ≡ least_of never f.waits → NoneEndsBelow (min ends waits) f
none_below_least f ends waits is are = record {
  stores = bound_less (λ (m : Member). m.end) ends (min ends waits) f.members (le-leb _ _ (min-le_left ends waits)) (ap (λ k. list_all (λ m. nat_le k m.end) f.members) is ∙ end_least never f.members);
  reads = bound_less (λ (v : ℕ). v) waits (min ends waits) f.waits (le-leb _ _ (min-le_right ends waits)) (ap (λ k. list_all (λ v. nat_le k v) f.waits) are ∙ wait_least never f.waits);
}

module _ (tick next : ℕ) (lt : tick < next) where
  members_stay : (ms : List Member) → list_all (λ m. nat_le next m.end) ms ≡ true → filter (λ m. not (nat_le m.end tick)) ms ≡ ms
  members_stay [] h = refl
  members_stay (m ∷ ms) h =
      let a = leb-true next m.end (and_first _ _ h) in
      ap (λ b. cond (not b) (m ∷ filter (λ m. not (nat_le m.end tick)) ms) (filter (λ m. not (nat_le m.end tick)) ms)) (lt-leb m.end tick (omega (arith, a, lt)))
      ∙ ap (λ xs. m ∷ xs) (members_stay ms (and_second _ _ h))

  waits_stay : (vs : List ℕ) → list_all (λ v. nat_le next v) vs ≡ true → filter (λ v. nat_lt tick v) vs ≡ vs
  waits_stay [] h = refl
  waits_stay (v ∷ vs) h =
      let a = leb-true next v (and_first _ _ h) in
      ap (λ b. cond b (v ∷ filter (λ v. nat_lt tick v) vs) (filter (λ v. nat_lt tick v) vs)) (lt-ltb tick v (omega (arith, a, lt)))
      ∙ ap (λ xs. v ∷ xs) (waits_stay vs (and_second _ _ h))

  none_ended : (ms : List Member) (last : Option ℕ) → list_all (λ m. nat_le next m.end) ms ≡ true → ended tick ms last ≡ last
  none_ended [] last h = refl
  none_ended (m ∷ ms) last h =
      let a = leb-true next m.end (and_first _ _ h) in
      ap (λ b. ended tick ms (cond b (later_of m.end last) last)) (lt-leb m.end tick (omega (arith, a, lt)))
      ∙ none_ended ms last (and_second _ _ h)

  -- a bank that nothing leaves is settled
  pub settled_already : (f : Facts) → NoneEndsBelow next f → f ≡ settled tick f
  settled_already f none = sym (
      ap (λ ms. let g : Facts = record f { members = ms; waits = filter (λ v. nat_lt tick v) f.waits; last_store = ended tick f.members f.last_store } in g) (members_stay f.members none.stores)
      ∙ ap (λ vs. let g : Facts = record f { waits = vs; last_store = ended tick f.members f.last_store } in g) (waits_stay f.waits none.reads)
      ∙ ap (λ last. let g : Facts = record f { last_store = last } in g) (none_ended f.members f.last_store none.stores))

-- As rows pass

all-filter : {A : Type 0} (q p : A → Bool) (xs : List A) → list_all q xs ≡ true → list_all q (filter p xs) ≡ true
all-filter q p [] h = refl
all-filter q p (x ∷ xs) h = by (p x) (all-filter q p xs (and_second _ _ h))
  where
    by : (b : Bool) → list_all q (filter p xs) ≡ true → list_all q (cond b (x ∷ filter p xs) (filter p xs)) ≡ true
    by true ih = ap (λ c. c && list_all q (filter p xs)) (and_first _ _ h) ∙ ih
    by false ih = ih

-- a bound on some numbers is one with another number that it is at most
all-last : {A : Type 0} (q : A → Bool) (xs : List A) (y : A) → list_all q xs ≡ true → q y ≡ true → list_all q (xs ++ y ∷ []) ≡ true
all-last q xs y h own = list_all-append q xs (y ∷ []) ∙ ap (λ b. b && (q y && true)) h ∙ ap (λ b. b && true) own

-- nothing ends below an earlier tick
sooner_none : (next other : ℕ) (f : Facts) → NoneEndsBelow next f → NoneEndsBelow (min next other) f
sooner_none next other f none = record {
  stores = bound_less (λ (m : Member). m.end) next (min next other) f.members (le-leb _ _ (min-le_left next other)) none.stores;
  reads = bound_less (λ (v : ℕ). v) next (min next other) f.waits (le-leb _ _ (min-le_left next other)) none.reads;
}

module _ (next : ℕ) (f : Facts) (none : NoneEndsBelow next f) (line : ℕ) (m : Member) where
  sooner : NoneEndsBelow (min next m.end) f
  sooner = sooner_none next m.end f none

  joined_none : list_all (λ o. nat_le (min next m.end) o.end) (filter (stays_beside line) f.members ++ m ∷ []) ≡ true
  joined_none =
      all-last (λ o. nat_le (min next m.end) o.end) (filter (stays_beside line) f.members) m
      (all-filter (λ o. nat_le (min next m.end) o.end) (stays_beside line) f.members sooner.stores) (le-leb _ _ (min-le_right next m.end))

  -- behind a write
  none_written : {n : ℕ} (o : Outcome n) → NoneEndsBelow (min next m.end) (after_write line m o f)
  none_written (out.Stored u place) = record { stores = joined_none; reads = sooner.reads }
  none_written (out.Merged u) = record { stores = joined_none; reads = sooner.reads }
  none_written (out.Queued u) = record { stores = joined_none; reads = sooner.reads }
  none_written (out.Worn u) = record { stores = sooner.stores; reads = sooner.reads }
  none_written _ = sooner

module _ {n : ℕ} (next : ℕ) (f : Facts) (none : NoneEndsBelow next f) where
  -- behind a read
  none_read : (tick : ℕ) (o : Outcome n) → NoneEndsBelow (min next (read_at o)) (after_read tick o f)
  none_read tick (out.Read u place bytes) =
      let sooner = sooner_none next u f none in
      record { stores = sooner.stores; reads = all-last (λ v. nat_le (min next u) v) f.waits u sooner.reads (le-leb _ _ (min-le_right next u)) }
  none_read tick (out.Lost u) = let sooner = sooner_none next never f none in record { stores = sooner.stores; reads = sooner.reads }
  none_read tick _ = sooner_none next never f none

module _ {n : ℕ} (twins : ℕ) (f : Facts) (is : twins ≡ twins_in f.members) where
  -- behind a write whose line has members as many lines have members as before
  twins_paired : (line : ℕ) (m : Member) (o : Outcome n) → m.line ≡ line → list_any (is_of line) f.members ≡ true
      → twins_in (after_write line m o f).members + length f.members ≡ twins + length (after_write line m o f).members
  twins_paired line m o of mates = by o
    where
      joins : twins_in (filter (stays_beside line) f.members ++ (m ∷ [])) + length f.members ≡ twins + length (filter (stays_beside line) f.members ++ (m ∷ []))
      joins =
          let k = twins-joined line m of f.members in
          let i : one_if (list_any (is_of line) f.members) ≡ 1 = ap one_if mates in
          let l : length (filter (stays_beside line) f.members ++ (m ∷ [])) ≡ length (filter (stays_beside line) f.members) + 1 =
          length-append (filter (stays_beside line) f.members) (m ∷ []) in
          omega (arith, k, i, l, is)

      by : (o : Outcome n) → twins_in (after_write line m o f).members + length f.members ≡ twins + length (after_write line m o f).members
      by (out.Stored u place) = joins
      by (out.Merged u) = joins
      by (out.Queued u) = joins
      by _ = omega (arith, is)

  -- and behind one whose line has none
  twins_apart : (line : ℕ) (m : Member) (o : Outcome n) → m.line ≡ line → list_any (is_of line) f.members ≡ false
      → twins ≡ twins_in (after_write line m o f).members
  twins_apart line m o of none = by o
    where
      joins : twins ≡ twins_in (filter (stays_beside line) f.members ++ m ∷ [])
      joins =
          let k = twins-joined line m of f.members in
          let i : one_if (list_any (is_of line) f.members) ≡ 0 = ap one_if none in
          let l : length f.members ≡ length (filter (stays_beside line) f.members) = ap length (none_leaves line f.members none) in
          omega (arith, k, i, l, is)

      by : (o : Outcome n) → twins ≡ twins_in (after_write line m o f).members
      by (out.Stored u place) = joins
      by (out.Merged u) = joins
      by (out.Queued u) = joins
      by _ = is

  -- behind a read
  twins_read : (tick : ℕ) (o : Outcome n) → twins ≡ twins_in (after_read tick o f).members
  twins_read tick out.Unset = is
  twins_read tick _ = is

-- behind a write whose line has members, behind one whose line has none, and behind a read
module _ {n : ℕ} (next twins : ℕ) (f g : Facts) (had : IsWatched next twins f) where
  module _ (line : ℕ) (m : Member) (o : Outcome n) (of : m.line ≡ line) (is : g ≡ after_write line m o f) where
    pub lines_stay : list_any (is_of line) f.members ≡ true → (twins ≤ length f.members) × (twins_in g.members + length f.members ≡ twins + length g.members)
    lines_stay mates = (
      subst (λ k. k ≤ length f.members) (sym had.pairs) (twins-few f.members),
      subst (λ (h : Facts). twins_in h.members + length f.members ≡ twins + length h.members) (sym is) (twins_paired twins f had.pairs line m o of mates),
    )

    pub watched_paired : list_any (is_of line) f.members ≡ true → IsWatched (min next m.end) (length g.members - (length f.members - twins)) g
    watched_paired mates = record {
      ends = subst (λ h. NoneEndsBelow (min next m.end) h) (sym is) (none_written next f had.ends line m o);
      pairs = let k = lines_stay mates in omega (arith, k.0, k.1);
    }

    pub watched_apart : list_any (is_of line) f.members ≡ false → IsWatched (min next m.end) twins g
    watched_apart none =
        subst (λ f'. IsWatched (min next m.end) twins f') (sym is)
        (record { ends = none_written next f had.ends line m o; pairs = twins_apart twins f had.pairs line m o of none })

  pub watched_read : (tick : ℕ) (o : Outcome n) → g ≡ after_read tick o f → IsWatched (min next (read_at o)) twins g
  watched_read tick o is =
      subst (λ f'. IsWatched (min next (read_at o)) twins f') (sym is)
      (record { ends = none_read next f had.ends tick o; pairs = twins_read twins f had.pairs tick o })
