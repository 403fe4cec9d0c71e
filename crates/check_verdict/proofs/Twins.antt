-- Members with a later one of their line.
use Rattle.std.proofs.Common.{◌≡◌, ℕ, suc, ◌+◌, ◌<◌, ◌≤◌, ◌==◌, ◌&&◌, ◌||◌, ◌⊎◌, inl, inr, Bool, true, false, List, [], ◌∷◌, ◌++◌, refl, sym, ap, ◌∙◌, cond, length, get_or, append_assoc, append-nil, arith}
use Rattle.std.specs.{List.{list_all, list_any}, Prelude.{nat_le, nat_lt, not, filter, take, drop, count_by}}
use Rattle.std.proofs.{lemmas.Bool.{lt-leb, lt-ltb, ltb-false, eq-eqb, ne_eqb, eqb-true, cases_eq, cases_lt, or_right}, lemmas.List.drop_more, lemmas.List.Elements.filter_more}
use Rattle.std.proofs.lemmas.List.Folds.{list_any-append}
use Rattle.masked_bytes.proofs.{Counting.{count-cons, one_if}, Truth.{and_second, and_true, and_false, or_false, differ_sym, neither_first, neither_second}}
use Rattle.check_judging.specs.Few.{few_by}
use Rattle.check_verdict.specs.{Fitting.{is_of, has_twins, twins_in, follows}, Joined.stays_beside, declared.members.Member.Member}

-- whether one of a kind is there, by the number of these
any-count : {X : Type 0} (p : X → Bool) (xs : List X) → list_any p xs ≡ nat_lt 0 (count_by p xs)
any-count p [] = refl
any-count p (x ∷ xs) = by (p x) (any-count p xs) ∙ ap (nat_lt 0) (sym (count-cons p x xs))
  where
    by : (b : Bool) → list_any p xs ≡ nat_lt 0 (count_by p xs) → (b || list_any p xs) ≡ nat_lt 0 (cond b 1 0 + count_by p xs)
    by true ih = sym (lt-ltb 0 (1 + count_by p xs) (omega arith))
    by false ih = ih ∙ ap (nat_lt 0) (omega arith)

-- where none is of a kind, each passes a test of that kind
few-none : {X : Type 0} (own one : X → Bool) (xs : List X) → count_by own xs ≡ 0 → list_all (λ x. not (own x) || one x) xs ≡ true
few-none own one [] h = refl
few-none own one (x ∷ xs) h = by (own x) (count-cons own x xs) (few-none own one xs)
  where
    by : (b : Bool) → count_by own (x ∷ xs) ≡ cond b 1 0 + count_by own xs → (count_by own xs ≡ 0 → list_all (λ x. not (own x) || one x) xs ≡ true)
        → ((not b || one x) && list_all (λ x. not (own x) || one x) xs) ≡ true
    by true i ih = absurd (omega (arith, i, h))
    by false i ih = ih (omega (arith, i, h))

few_of_none : {X : Type 0} (own one : X → Bool) (xs : List X) → count_by own xs ≡ 0 → few_by own one xs ≡ true
few_of_none own one xs h = ap (λ k. nat_le k 1 && list_all (λ x. not (own x) || one x) xs) h ∙ ap (λ b. nat_le 0 1 && b) (few-none own one xs h)

-- two of one line stand where a member has a later one
twins-counted : (ms : List Member) → has_twins ms ≡ nat_lt 0 (twins_in ms)
twins-counted [] = refl
twins-counted (m ∷ ms) = by (list_any (is_of m.line) ms) (twins-counted ms)
  where
    by : (b : Bool) → has_twins ms ≡ nat_lt 0 (twins_in ms) → (b || has_twins ms) ≡ nat_lt 0 (cond b 1 0 + twins_in ms)
    by true ih = sym (lt-ltb 0 (1 + twins_in ms) (omega arith))
    by false ih = ih ∙ ap (nat_lt 0) (omega arith)

-- no more have one than stand
pub twins-few : (ms : List Member) → twins_in ms ≤ length ms
twins-few [] = omega arith
twins-few (m ∷ ms) = by (list_any (is_of m.line) ms) (twins-few ms)
  where
    by : (b : Bool) → twins_in ms ≤ length ms → cond b 1 0 + twins_in ms ≤ suc (length ms)
    by true ih = omega (arith, ih)
    by false ih = omega (arith, ih)

-- with one member less
twins-without : (ps : List Member) (x : Member) (rs : List Member)
    → twins_in (ps ++ (x ∷ rs)) ≡ one_if (list_any (is_of x.line) ps || list_any (is_of x.line) rs) + twins_in (ps ++ rs)
twins-without [] x rs = refl
twins-without (p ∷ ps) x rs = by (cases_eq p.line x.line) (twins-without ps x rs)
  where
    -- those of a line, where this member stands among them
    any : (line : ℕ) → list_any (is_of line) (ps ++ (x ∷ rs)) ≡ (list_any (is_of line) ps || ((x.line == line) || list_any (is_of line) rs))
    any line = list_any-append (is_of line) ps (x ∷ rs)

    by : (p.line ≡ x.line) ⊎ (p.line ≡ x.line → ⊥)
        → twins_in (ps ++ (x ∷ rs)) ≡ one_if (list_any (is_of x.line) ps || list_any (is_of x.line) rs) + twins_in (ps ++ rs)
        → one_if (list_any (is_of p.line) (ps ++ (x ∷ rs))) + twins_in (ps ++ (x ∷ rs))
        ≡ one_if (((p.line == x.line) || list_any (is_of x.line) ps) || list_any (is_of x.line) rs) + (one_if (list_any (is_of p.line) (ps ++ rs)) + twins_in (ps ++ rs))
    by (inl same) ih =
        let own : one_if (list_any (is_of p.line) (ps ++ (x ∷ rs))) ≡ 1 =
        ap one_if (any p.line ∙ or_right (list_any (is_of p.line) ps) _ (ap (λ b. b || list_any (is_of p.line) rs) (eq-eqb x.line p.line (sym same)))) in
        let its : one_if (((p.line == x.line) || list_any (is_of x.line) ps) || list_any (is_of x.line) rs) ≡ 1 =
        ap (λ b. one_if ((b || list_any (is_of x.line) ps) || list_any (is_of x.line) rs)) (eq-eqb p.line x.line same) in
        let rest : one_if (list_any (is_of p.line) (ps ++ rs)) ≡ one_if (list_any (is_of x.line) ps || list_any (is_of x.line) rs) =
        ap (λ l. one_if (list_any (is_of l) (ps ++ rs))) same ∙ ap one_if (list_any-append (is_of x.line) ps rs) in
        omega (arith, own, its, rest, ih)
    by (inr other) ih =
        let own : one_if (list_any (is_of p.line) (ps ++ (x ∷ rs))) ≡ one_if (list_any (is_of p.line) (ps ++ rs)) =
        ap one_if (any p.line ∙ ap (λ b. list_any (is_of p.line) ps || (b || list_any (is_of p.line) rs)) (ne_eqb x.line p.line (λ e. other (sym e)))
        ∙ sym (list_any-append (is_of p.line) ps rs)) in
        let its : one_if (((p.line == x.line) || list_any (is_of x.line) ps) || list_any (is_of x.line) rs) ≡ one_if (list_any (is_of x.line) ps || list_any (is_of x.line) rs) =
        ap (λ b. one_if ((b || list_any (is_of x.line) ps) || list_any (is_of x.line) rs)) (ne_eqb p.line x.line other) in
        omega (arith, own, its, ih)

-- As members leave

-- some of a kind that pass a test are among those that pass it
any-filter : (q p : Member → Bool) (ms : List Member) → list_any (λ m. q m && p m) ms ≡ list_any q (filter p ms)
any-filter q p [] = refl
any-filter q p (m ∷ ms) = by (p m) (any-filter q p ms)
  where
    by : (b : Bool) → list_any (λ m. q m && p m) ms ≡ list_any q (filter p ms)
        → ((q m && b) || list_any (λ m. q m && p m) ms) ≡ list_any q (cond b (m ∷ filter p ms) (filter p ms))
    by true ih = ap (λ c. c || list_any (λ m. q m && p m) ms) (and_true (q m)) ∙ ap (λ c. q m || c) ih
    by false ih = ap (λ c. c || list_any (λ m. q m && p m) ms) (and_false (q m)) ∙ ih

module _ (p : Member → Bool) where
  any-less : (line : ℕ) (ms : List Member) → one_if (list_any (is_of line) (filter p ms)) ≤ one_if (list_any (is_of line) ms)
  any-less line [] = omega arith
  any-less line (m ∷ ms) = by (p m) (any-less line ms)
    where
      either : (own a b : Bool) → one_if a ≤ one_if b → one_if (own || a) ≤ one_if (own || b)
      either true a b le = omega arith
      either false a b le = le

      late : (own a b : Bool) → one_if a ≤ one_if b → one_if a ≤ one_if (own || b)
      late true true b le = omega arith
      late true false b le = omega arith
      late false a b le = le

      by : (b : Bool) → one_if (list_any (is_of line) (filter p ms)) ≤ one_if (list_any (is_of line) ms)
          → one_if (list_any (is_of line) (cond b (m ∷ filter p ms) (filter p ms))) ≤ one_if ((m.line == line) || list_any (is_of line) ms)
      by true le = either (m.line == line) (list_any (is_of line) (filter p ms)) (list_any (is_of line) ms) le
      by false le = late (m.line == line) (list_any (is_of line) (filter p ms)) (list_any (is_of line) ms) le

  -- of some members no more have one than of all
  pub twins-less : (ms : List Member) → twins_in (filter p ms) ≤ twins_in ms
  twins-less [] = omega arith
  twins-less (m ∷ ms) = by (p m) (any-less m.line ms) (twins-less ms)
    where
      by : (b : Bool) → one_if (list_any (is_of m.line) (filter p ms)) ≤ one_if (list_any (is_of m.line) ms) → twins_in (filter p ms) ≤ twins_in ms
          → twins_in (cond b (m ∷ filter p ms) (filter p ms)) ≤ one_if (list_any (is_of m.line) ms) + twins_in ms
      by true less ih = omega (arith, less, ih)
      by false less ih = omega (arith, ih)

  -- past one of them, the member at an index
  module _ (ms : List Member) (i : ℕ) (d : Member) (within : i < length ms) where
    abbrev front : List Member
    front = filter p (take i ms)

    abbrev here : Member
    here = get_or ms i d

    abbrev rest : List Member
    rest = drop (i + 1) ms

    passed : (b : Bool) → p here ≡ b → twins_in (filter p (take (i + 1) ms) ++ rest) ≡ twins_in ((front ++ cond b (here ∷ []) []) ++ rest)
    passed b is = ap (λ xs. twins_in (xs ++ rest)) (filter_more p ms i d within ∙ ap (λ b. front ++ cond b (here ∷ []) []) is)

    unpassed : twins_in (front ++ (here ∷ rest)) ≡ twins_in (front ++ drop i ms)
    unpassed = ap (λ xs. twins_in (front ++ xs)) (sym (drop_more ms i d within))

    pub twins-stay : p here ≡ true → twins_in (filter p (take (i + 1) ms) ++ rest) ≡ twins_in (front ++ drop i ms)
    twins-stay stays = passed true stays ∙ ap twins_in (append_assoc front (here ∷ []) rest) ∙ unpassed

    pub twins-leave : p here ≡ false
        → one_if (list_any (λ m. is_of here.line m && p m) (take i ms) || list_any (is_of here.line) rest) + twins_in (filter p (take (i + 1) ms) ++ rest)
        ≡ twins_in (front ++ drop i ms)
    twins-leave leaves =
        ap (λ b. one_if (b || list_any (is_of here.line) rest) + twins_in (filter p (take (i + 1) ms) ++ rest)) (any-filter (is_of here.line) p (take i ms))
        ∙ ap (λ k. one_if (list_any (is_of here.line) front || list_any (is_of here.line) rest) + k) (passed false leaves ∙ ap (λ xs. twins_in (xs ++ rest)) (append-nil front))
        ∙ sym (twins-without front here rest)
        ∙ unpassed

-- As a write joins

-- of a line without members none leaves as a write of it joins
pub none_leaves : (line : ℕ) (ms : List Member) → list_any (is_of line) ms ≡ false → ms ≡ filter (stays_beside line) ms
none_leaves line [] h = refl
none_leaves line (m ∷ ms) h =
    ap (λ xs. m ∷ xs) (none_leaves line ms (neither_second _ _ h))
    ∙ ap (λ b. cond (not b) (m ∷ filter (stays_beside line) ms) (filter (stays_beside line) ms))
    (sym (ap (λ b. m.merged && b) (differ_sym m.line line (neither_first _ _ h)) ∙ and_false m.merged))

module _ (line : ℕ) (new : Member) (of : new.line ≡ line) where
  -- as those leave that are merged into it, behind some members
  joined : (ps ms : List Member) → twins_in (ps ++ (ms ++ (new ∷ []))) + length (filter (stays_beside line) ms)
      ≡ twins_in (ps ++ (filter (stays_beside line) ms ++ (new ∷ []))) + length ms
  joined ps [] = refl
  joined ps (m ∷ ms) = by (stays_beside line m) refl (λ qs. joined qs ms)
    where
      not_false : (b : Bool) → not b ≡ false → b ≡ true
      not_false true h = refl
      not_false false h = absurd (cc)

      by : (b : Bool) → stays_beside line m ≡ b
          → ((qs : List Member) → twins_in (qs ++ (ms ++ (new ∷ []))) + length (filter (stays_beside line) ms)
          ≡ twins_in (qs ++ (filter (stays_beside line) ms ++ (new ∷ []))) + length ms)
          → twins_in (ps ++ (m ∷ (ms ++ (new ∷ [])))) + length (cond b (m ∷ filter (stays_beside line) ms) (filter (stays_beside line) ms))
          ≡ twins_in (ps ++ (cond b (m ∷ filter (stays_beside line) ms) (filter (stays_beside line) ms) ++ (new ∷ []))) + suc (length ms)
      by true stays rest =
          let ih = rest (ps ++ (m ∷ [])) in
          let a = ap twins_in (append_assoc ps (m ∷ []) (ms ++ (new ∷ []))) in
          let b = ap twins_in (append_assoc ps (m ∷ []) (filter (stays_beside line) ms ++ (new ∷ []))) in
          omega (arith, ih, a, b)
      by false leaves rest =
          let own : m.line ≡ line = sym (eqb-true line m.line (and_second m.merged _ (not_false (m.merged && (line == m.line)) leaves))) in
          let mate : list_any (is_of m.line) (ms ++ (new ∷ [])) ≡ true =
          list_any-append (is_of m.line) ms (new ∷ []) ∙ or_right (list_any (is_of m.line) ms) _ (ap (λ b. b || false) (eq-eqb new.line m.line (of ∙ sym own))) in
          let one : one_if (list_any (is_of m.line) ps || list_any (is_of m.line) (ms ++ (new ∷ []))) ≡ 1 = ap one_if (or_right (list_any (is_of m.line) ps) _ mate) in
          let less = twins-without ps m (ms ++ (new ∷ [])) in
          let ih = rest ps in
          omega (arith, one, less, ih)

  -- behind it one member more has a later one where its line had members, and one less for each that left
  pub twins-joined : (ms : List Member) → twins_in (filter (stays_beside line) ms ++ (new ∷ [])) + length ms
      ≡ one_if (list_any (is_of line) ms) + twins_in ms + length (filter (stays_beside line) ms)
  twins-joined ms =
      let all = joined [] ms in
      let last = twins-without ms new [] in
      let none = ap twins_in (append-nil ms) in
      let its : one_if (list_any (is_of new.line) ms || false) ≡ one_if (list_any (is_of line) ms) =
      ap one_if (or_false (list_any (is_of new.line) ms)) ∙ ap (λ l. one_if (list_any (is_of l) ms)) of in
      omega (arith, all, last, none, its)

-- The newest member and the others, where so many have a later one

module _ (one : Member → Bool) (others : List Member) (new : Member) (twins : ℕ) (is : twins ≡ twins_in (others ++ (new ∷ []))) where
  split : twins ≡ one_if (list_any (is_of new.line) others) + twins_in others
  split =
      let last = twins-without others new [] in
      let none = ap twins_in (append-nil others) in
      let its : one_if (list_any (is_of new.line) others || false) ≡ one_if (list_any (is_of new.line) others) = ap one_if (or_false (list_any (is_of new.line) others)) in
      omega (arith, is, last, none, its)

  one_if-none : (b : Bool) → one_if b ≡ 0 → b ≡ false
  one_if-none true h = absurd (omega (arith, h))
  one_if-none false h = refl

  -- where none has
  pub joins-apart : twins ≡ 0 → true ≡ (few_by (is_of new.line) one others && (follows new others || not (has_twins others)))
  joins-apart h =
      let k = split in
      let own : list_any (is_of new.line) others ≡ false = one_if-none (list_any (is_of new.line) others) (omega (arith, k, h)) in
      let number : count_by (is_of new.line) others ≡ 0 =
      (let c = ltb-false 0 (count_by (is_of new.line) others) (sym (any-count (is_of new.line) others) ∙ own) in omega (arith, c)) in
      let none : twins_in others ≡ 0 = omega (arith, k, h) in
      sym (ap (λ b. b && (follows new others || not (has_twins others))) (few_of_none (is_of new.line) one others number)
      ∙ ap (λ b. follows new others || not b) (twins-counted others ∙ ap (nat_lt 0) none)
      ∙ or_right (follows new others) true refl)

  -- where the newest is the only one of its line
  pub joins-alone : count_by (is_of new.line) others ≡ 0 → (twins ≡ 0 → ⊥) → follows new others ≡ (few_by (is_of new.line) one others && (follows new others || not (has_twins others)))
  joins-alone number some =
      let k = split in
      let own : one_if (list_any (is_of new.line) others) ≡ 0 = ap one_if (any-count (is_of new.line) others ∙ ap (nat_lt 0) number) in
      let more : has_twins others ≡ true = twins-counted others ∙ lt-ltb 0 (twins_in others) (positive (twins_in others) (λ e. some (omega (arith, e, k, own)))) in
      sym (ap (λ b. b && (follows new others || not (has_twins others))) (few_of_none (is_of new.line) one others number)
      ∙ ap (λ b. follows new others || not b) more
      ∙ or_false (follows new others))
    where
      positive : (k : ℕ) → (k ≡ 0 → ⊥) → 0 < k
      positive k ne = by (cases_lt 0 k)
        where
          by : (0 < k) ⊎ (k ≤ 0) → 0 < k
          by (inl l) = l
          by (inr l) = absurd (ne (omega (arith, l)))

  -- where one other is of its line
  pub joins-paired : count_by (is_of new.line) others ≡ 1
      → (list_all (λ o. not (is_of new.line o) || one o) others && ((twins == 1) || follows new others))
      ≡ (few_by (is_of new.line) one others && (follows new others || not (has_twins others)))
  joins-paired number =
      ap (λ b. list_all (λ o. not (is_of new.line o) || one o) others && b) (ap (λ b. b || follows new others) (by (cases_lt 0 (twins_in others))) ∙ or_turn (not (has_twins others)) (follows new others))
      ∙ sym (ap (λ k. (nat_le k 1 && list_all (λ o. not (is_of new.line o) || one o) others) && (follows new others || not (has_twins others))) number)
    where
      k : twins ≡ 1 + twins_in others
      k =
          let s = split in
          let own : one_if (list_any (is_of new.line) others) ≡ 1 = ap one_if (any-count (is_of new.line) others ∙ ap (nat_lt 0) number) in
          omega (arith, s, own)

      by : (0 < twins_in others) ⊎ (twins_in others ≤ 0) → (twins == 1) ≡ not (has_twins others)
      by (inl l) = ne_eqb twins 1 (λ e. omega (arith, e, k, l)) ∙ sym (ap not (twins-counted others ∙ lt-ltb 0 (twins_in others) l))
      by (inr l) =
          let none : twins_in others ≡ 0 = omega (arith, l) in
          eq-eqb twins 1 (omega (arith, k, l)) ∙ sym (ap not (twins-counted others ∙ ap (nat_lt 0) none))

      or_turn : (a b : Bool) → (a || b) ≡ (b || a)
      or_turn true true = refl
      or_turn true false = refl
      or_turn false true = refl
      or_turn false false = refl

  -- and where more are
  pub joins-many : 1 < count_by (is_of new.line) others → false ≡ (few_by (is_of new.line) one others && (follows new others || not (has_twins others)))
  joins-many more =
      sym (ap (λ b. (b && list_all (λ o. not (is_of new.line o) || one o) others) && (follows new others || not (has_twins others))) (lt-leb (count_by (is_of new.line) others) 1 more))
