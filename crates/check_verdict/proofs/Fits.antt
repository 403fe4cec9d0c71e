-- The queue's rule, by what is kept of a bank.
use Rattle.std.proofs.Common.{◌≡◌, ℕ, suc, ◌+◌, ◌-◌, ◌<◌, ◌≤◌, ◌==◌, ◌&&◌, ◌||◌, ◌⊎◌, inl, inr, Bool, true, false, List, [], ◌∷◌, ◌++◌, Option, Some, None, length, refl, sym, ap, ◌∙◌, cond, arith}
use Rattle.std.specs.{List.{list_all, list_any}, Prelude.{nat_le, nat_lt, not, reverse, map, filter, drop, take, slice_get, count_by}}
use Rattle.std.proofs.{lemmas.Bool.{lt-leb, lt-ltb, ltb-true, eq-eqb, ne_eqb, cases_eq}, lemmas.List.{reverse-append, reverse-reverse, map-append}}
use Rattle.std.proofs.{lemmas.List.Folds.{list_any-append, list_all-map}, lemmas.List.Sorted.IsPermutation-reverse}
use Rattle.masked_bytes.proofs.{Counting.{count-cons, one_if}, Truth.{and_first, and_second, and_true}}
use Rattle.result_rows.specs.declared.Outcome.{Outcome}
use Rattle.result_rows.specs.declared.Outcome.TheVariants as out
use Rattle.row_rules.specs.{Answers.{accepts, is_merged, stored_by}, Queueing.{stands, pending, waiting, none_before, is_older, has_few, pairs_few, is_refused, has_room}}
use Rattle.row_rules.specs.{Rows.{asks_write, asks_write_of, accepted, accepted_of, write_of, line_of}, declared.Asks.Asks, declared.Asks.TheVariants.{Reads, Writes, Cuts}}
use Rattle.row_rules.specs.{declared.Row.Row, declared.Rules.Rules}
use Rattle.check_judging.specs.{Few.few_by, Heads.{end_of, leave_of, stored_below, all_stored_below}, Joining.{has_pair, comes_behind}, Keys.reach, Near.NearRoom}
use Rattle.check_judging.proofs.{Counts.{count-same, count-permuted}, Fews.{few_is, refused_is}, Joins.join_law, LeastEnd.none_before_all}
use Rattle.check_verdict.specs.Fitting.{is_of, leaves_first, precedes, has_twins, follows, joins_well, newest_fits, in_order, room_kept, refused_kept, is_brief, all_brief}
use Rattle.check_verdict.{specs.Kept.{Sight, sight, sight_of, Shows, KeptBank}, specs.Members.never, specs.declared.members.Member.Member, proofs.Apart.{all-reverse, all-same}}
use Rattle.check_verdict.proofs.Numbers.{numbers_law}

-- Tests of lists in either order

pub any-same : {X : Type 0} (p q : X → Bool) → ((x : X) → p x ≡ q x) → (xs : List X) → list_any p xs ≡ list_any q xs
any-same p q same [] = refl
any-same p q same (x ∷ xs) = ap (λ b. b || list_any p xs) (same x) ∙ ap (λ b. q x || b) (any-same p q same xs)

or_swap : (a b : Bool) → (a || (b || false)) ≡ (b || a)
or_swap true true = refl
or_swap true false = refl
or_swap false true = refl
or_swap false false = refl

pub any-reverse : {X : Type 0} (p : X → Bool) (xs : List X) → list_any p (reverse xs) ≡ list_any p xs
any-reverse p [] = refl
any-reverse p (x ∷ xs) =
    ap (list_any p) (reverse-append (x ∷ []) xs) ∙ list_any-append p (reverse xs) (x ∷ []) ∙ ap (λ b. b || (p x || false)) (any-reverse p xs) ∙ or_swap (list_any p xs) (p x)

any-map : {X Y : Type 0} (p : Y → Bool) (f : X → Y) (xs : List X) → list_any p (map f xs) ≡ list_any (λ x. p (f x)) xs
any-map p f [] = refl
any-map p f (x ∷ xs) = ap (λ b. p (f x) || b) (any-map p f xs)

count-map : {X Y : Type 0} (p : Y → Bool) (f : X → Y) (xs : List X) → count_by p (map f xs) ≡ count_by (λ x. p (f x)) xs
count-map p f [] = refl
count-map p f (x ∷ xs) =
    let i = count-cons p (f x) (map f xs) in
    let j = count-cons (λ y. p (f y)) x xs in
    let r = count-map p f xs in
    omega (arith, i, j, r)

pub count-reverse : {X : Type 0} (p : X → Bool) (xs : List X) → count_by p (reverse xs) ≡ count_by p xs
count-reverse p xs = count-permuted p xs (reverse xs) (IsPermutation-reverse xs)

map-map : {X Y Z : Type 0} (f : Y → Z) (g : X → Y) (xs : List X) → map f (map g xs) ≡ map (λ x. f (g x)) xs
map-map f g [] = refl
map-map f g (x ∷ xs) = ap (λ ys. f (g x) ∷ ys) (map-map f g xs)

map-reverse : {X Y : Type 0} (f : X → Y) (xs : List X) → map f (reverse xs) ≡ reverse (map f xs)
map-reverse f [] = refl
map-reverse f (x ∷ xs) =
    ap (map f) (reverse-append (x ∷ []) xs) ∙ map-append f (reverse xs) (x ∷ []) ∙ ap (λ ys. ys ++ f x ∷ []) (map-reverse f xs) ∙ sym (reverse-append (f x ∷ []) (map f xs))

-- Tests where all elements pass another

pub all-where : {X : Type 0} (w p q : X → Bool) → ((x : X) → w x ≡ true → p x ≡ q x) → (xs : List X) → list_all w xs ≡ true → list_all p xs ≡ list_all q xs
all-where w p q same [] h = refl
all-where w p q same (x ∷ xs) h =
    ap (λ b. b && list_all p xs) (same x (and_first (w x) _ h)) ∙ ap (λ b. q x && b) (all-where w p q same xs (and_second (w x) _ h))

pub any-where : {X : Type 0} (w p q : X → Bool) → ((x : X) → w x ≡ true → p x ≡ q x) → (xs : List X) → list_all w xs ≡ true → list_any p xs ≡ list_any q xs
any-where w p q same [] h = refl
any-where w p q same (x ∷ xs) h =
    ap (λ b. b || list_any p xs) (same x (and_first (w x) _ h)) ∙ ap (λ b. q x || b) (any-where w p q same xs (and_second (w x) _ h))

count-where : {X : Type 0} (w p q : X → Bool) → ((x : X) → w x ≡ true → p x ≡ q x) → (xs : List X) → list_all w xs ≡ true → count_by p xs ≡ count_by q xs
count-where w p q same [] h = refl
count-where w p q same (x ∷ xs) h =
    let i = count-cons p x xs in
    let j = count-cons q x xs in
    let k : one_if (p x) ≡ one_if (q x) = ap one_if (same x (and_first (w x) _ h)) in
    let r = count-where w p q same xs (and_second (w x) _ h) in
    omega (arith, i, j, k, r)

-- Twins

abbrev twins : List ℕ → Bool
twins [] = false
twins (x ∷ xs) = list_any (λ y. y == x) xs || twins xs

turn : (a e b c : Bool) → ((a || (e || false)) || (b || c)) ≡ ((e || b) || (a || c))
turn true false true c = refl
turn false false true true = refl
turn _ _ _ _ = refl

same_sides : (x y : ℕ) → (x == y) ≡ (y == x)
same_sides x y = by (cases_eq x y)
  where
    by : (x ≡ y) ⊎ (x ≡ y → ⊥) → (x == y) ≡ (y == x)
    by (inl e) = eq-eqb x y e ∙ sym (eq-eqb y x (sym e))
    by (inr ne) = ne_eqb x y ne ∙ sym (ne_eqb y x (λ e. ne (sym e)))

twins-last : (xs : List ℕ) (x : ℕ) → twins (xs ++ x ∷ []) ≡ (list_any (λ y. y == x) xs || twins xs)
twins-last [] x = refl
twins-last (z ∷ zs) x =
    ap (λ b. b || twins (zs ++ x ∷ [])) (list_any-append (λ y. y == z) zs (x ∷ []))
    ∙ ap (λ b. (list_any (λ y. y == z) zs || ((x == z) || false)) || b) (twins-last zs x)
    ∙ turn (list_any (λ y. y == z) zs) (x == z) (list_any (λ y. y == x) zs) (twins zs)
    ∙ ap (λ b. (b || list_any (λ y. y == x) zs) || (list_any (λ y. y == z) zs || twins zs)) (same_sides x z)

twins-reverse : (xs : List ℕ) → twins (reverse xs) ≡ twins xs
twins-reverse [] = refl
twins-reverse (x ∷ xs) =
    ap twins (reverse-append (x ∷ []) xs) ∙ twins-last (reverse xs) x ∙ ap (λ b. b || twins (reverse xs)) (any-reverse (λ y. y == x) xs) ∙ ap (λ b. list_any (λ y. y == x) xs || b) (twins-reverse xs)

twins-members : (ms : List Member) → has_twins ms ≡ twins (map (λ m. m.line) ms)
twins-members [] = refl
twins-members (m ∷ ms) = ap (λ b. b || has_twins ms) (sym (any-map (λ y. y == m.line) (λ m. m.line) ms)) ∙ ap (λ b. list_any (λ y. y == m.line) (map (λ m. m.line) ms) || b) (twins-members ms)

pub has_twins-reverse : (ms : List Member) → has_twins (reverse ms) ≡ has_twins ms
has_twins-reverse [] = refl
has_twins-reverse (m ∷ ms) =
    twins-members (reverse (m ∷ ms))
    ∙ ap (λ xs. twins (map (λ m. m.line) xs)) (reverse-append (m ∷ []) ms)
    ∙ ap twins (map-append (λ m. m.line) (reverse ms) (m ∷ []))
    ∙ twins-last (map (λ m. m.line) (reverse ms)) m.line
    ∙ ap (λ b. b || twins (map (λ m. m.line) (reverse ms))) (any-map (λ y. y == m.line) (λ m. m.line) (reverse ms) ∙ any-reverse (is_of m.line) ms)
    ∙ ap (λ b. list_any (is_of m.line) ms || b) (sym (twins-members (reverse ms)) ∙ has_twins-reverse ms)

below_never : (u : ℕ) → nat_lt u reach ≡ true → u ≤ never
below_never u h = let k : u < reach = ltb-true u reach h in omega (arith, k)

module _ {n : ℕ} where
  -- what stands was accepted
  pub stands_accepted : (t : ℕ) (between rows : List (Row n)) → list_all accepted (pending t between rows) ≡ true
  stands_accepted t between [] = refl
  stands_accepted t between (q ∷ rows) = by (accepted q) _ refl (stands_accepted t (q ∷ between) rows)
    where
      by : (a b : Bool) → accepted q ≡ a → list_all accepted (pending t (q ∷ between) rows) ≡ true
          → list_all accepted (cond (a && b) (q ∷ pending t (q ∷ between) rows) (pending t (q ∷ between) rows)) ≡ true
      by true true is ih = ap (λ c. c && list_all accepted (pending t (q ∷ between) rows)) is ∙ ih
      by true false is ih = ih
      by false b is ih = ih

  -- a test of all rows is one of all that stand
  pub stands_all : (p : Row n → Bool) (t : ℕ) (between rows : List (Row n)) → list_all p rows ≡ true → list_all p (pending t between rows) ≡ true
  stands_all p t between [] h = refl
  stands_all p t between (q ∷ rows) h = by (stands t between q) (stands_all p t (q ∷ between) rows (and_second (p q) _ h))
    where
      by : (b : Bool) → list_all p (pending t (q ∷ between) rows) ≡ true → list_all p (cond b (q ∷ pending t (q ∷ between) rows) (pending t (q ∷ between) rows)) ≡ true
      by true ih = ap (λ c. c && list_all p (pending t (q ∷ between) rows)) (and_first (p q) _ h) ∙ ih
      by false ih = ih

  pub of_line : (line : ℕ) (q : Row n) → accepted q ≡ true → accepted_of line q ≡ (line_of q.asks == line)
  of_line line q is = by q.asks is
    where
      by : (asks : Asks n) → (asks_write asks && accepts q.outcome) ≡ true → (asks_write_of line asks && accepts q.outcome) ≡ (line_of asks == line)
      by (Reads at) k = absurd (cc)
      by (Writes at bytes given) k = ap (λ b. (at == line) && b) k ∙ and_true (at == line)
      by Cuts k = absurd (cc)

  pub write_of_line : (line : ℕ) (q : Row n) → accepted q ≡ true → write_of line q ≡ (line_of q.asks == line)
  write_of_line line q is = by q.asks is
    where
      by : (asks : Asks n) → (asks_write asks && accepts q.outcome) ≡ true → asks_write_of line asks ≡ (line_of asks == line)
      by (Reads at) k = absurd (cc)
      by (Writes at bytes given) k = refl
      by Cuts k = absurd (cc)

  -- these members are these rows, in the same order
  abbrev pub Flat : List Member → List (Row n) → Type 0
  Flat members rows = map sight members ≡ map sight_of rows

  -- a test of all members, of some member, and the number of those that pass
  pub flat_all : (g : Sight → Bool) (f : Row n → Bool) (members : List Member) (rows : List (Row n)) → ((q : Row n) → f q ≡ g (sight_of q)) → Flat members rows
      → list_all f rows ≡ list_all (λ m. g (sight m)) members
  flat_all g f members rows same flat =
      all-same f (λ q. g (sight_of q)) same rows ∙ sym (list_all-map g sight_of rows) ∙ ap (list_all g) (sym flat) ∙ list_all-map g sight members

  pub flat_any : (g : Sight → Bool) (f : Row n → Bool) (members : List Member) (rows : List (Row n)) → ((q : Row n) → f q ≡ g (sight_of q)) → Flat members rows
      → list_any f rows ≡ list_any (λ m. g (sight m)) members
  flat_any g f members rows same flat =
      any-same f (λ q. g (sight_of q)) same rows ∙ sym (any-map g sight_of rows) ∙ ap (list_any g) (sym flat) ∙ any-map g sight members

  pub flat_count : (g : Sight → Bool) (f : Row n → Bool) (members : List Member) (rows : List (Row n)) → ((q : Row n) → f q ≡ g (sight_of q)) → Flat members rows
      → count_by f rows ≡ count_by (λ m. g (sight m)) members
  flat_count g f members rows same flat =
      count-same f (λ q. g (sight_of q)) same rows ∙ sym (count-map g sight_of rows) ∙ ap (count_by g) (sym flat) ∙ count-map g sight members

  -- Leaving

  pub brief_leave : (o : Outcome n) → is_brief o ≡ true → leave_of never o ≤ never
  brief_leave (out.Stored v place) h = below_never v h
  brief_leave (out.Merged v) h = below_never v h
  brief_leave _ h = omega arith

  brief_below : (o : Outcome n) → is_brief o ≡ true → stored_below never o ≡ true
  brief_below (out.Stored v place) h = let k : v < reach = ltb-true v reach h in lt-ltb v never (omega (arith, k))
  brief_below _ h = refl

  all_below : (rows : List (Row n)) → all_brief rows ≡ true → all_stored_below never rows ≡ true
  all_below [] h = refl
  all_below (q ∷ rows) h =
      ap (λ b. b && all_stored_below never rows) (brief_below q.outcome (and_first (is_brief q.outcome) _ h)) ∙ all_below rows (and_second (is_brief q.outcome) _ h)

  -- whether a row leaves first, by the members
  leaves_shown : (members : List Member) (rows : List (Row n)) → Flat members rows → all_brief rows ≡ true → (q : Row n) → is_brief q.outcome ≡ true
      → none_before q.outcome rows ≡ list_all (λ m. nat_le (leave_of never q.outcome) m.end) members
  leaves_shown members rows shows brief q own =
      none_before_all never q.outcome rows (brief_leave q.outcome own) (all_below rows brief)
      ∙ flat_all (λ s. nat_le (leave_of never q.outcome) s.end) (λ p. nat_le (leave_of never q.outcome) (end_of never p.outcome)) members rows (λ p. refl) shows

  -- what both tests ask of a row
  abbrev Fine : Row n → Bool
  Fine q = accepted q && is_brief q.outcome

  fine : (rows : List (Row n)) → list_all accepted rows ≡ true → all_brief rows ≡ true → list_all Fine rows ≡ true
  fine [] h k = refl
  fine (q ∷ rows) h k =
      ap (λ b. (b && is_brief q.outcome) && list_all Fine rows) (and_first (accepted q) _ h)
      ∙ ap (λ b. b && list_all Fine rows) (and_first (is_brief q.outcome) _ k)
      ∙ fine rows (and_second (accepted q) _ h) (and_second (is_brief q.outcome) _ k)

  -- at most one of a line, by the members
  few_shown : (line : ℕ) (own one : Row n → Bool) (g : Sight → Bool) (others : List Member) (rows : List (Row n)) → Flat others rows
      → list_all Fine rows ≡ true
      → ((q : Row n) → Fine q ≡ true → own q ≡ (line_of q.asks == line))
      → ((q : Row n) → Fine q ≡ true → one q ≡ g (sight_of q))
      → few_by own one rows ≡ few_by (is_of line) (λ m. g (sight m)) others
  few_shown line own one g others rows shows all owned tested =
      ap (λ k. nat_le k 1 && list_all (λ q. not (own q) || one q) rows)
      (count-where Fine own (λ q. line_of q.asks == line) owned rows all ∙ flat_count (λ s. s.line == line) (λ q. line_of q.asks == line) others rows (λ q. refl) shows)
      ∙ ap (λ b. nat_le (count_by (is_of line) others) 1 && b)
      (all-where Fine (λ q. not (own q) || one q) (λ q. not (line_of q.asks == line) || g (sight_of q))
      (λ q w. ap (λ b. not b || one q) (owned q w) ∙ ap (λ b. not (line_of q.asks == line) || b) (tested q w)) rows all
      ∙ flat_all (λ s. not (s.line == line) || g s) (λ q. not (line_of q.asks == line) || g (sight_of q)) others rows (λ q. refl) shows)

  pub refused_shown : (tick line : ℕ) (members : List Member) (rows : List (Row n)) → Flat members rows → list_all accepted rows ≡ true → all_brief rows ≡ true
      → is_refused tick rows (filter (write_of line) rows) ≡ refused_kept tick line members
  refused_shown tick line members rows shows acc brief =
      refused_is tick rows (write_of line) rows
      ∙ few_shown line (write_of line) (λ q. nat_lt q.tick tick && none_before q.outcome rows) (λ s. nat_lt s.arrived tick && list_all (λ m. nat_le s.leave m.end) members) members rows shows
      (fine rows acc brief)
      (λ q w. write_of_line line q (and_first (accepted q) _ w))
      (λ q w. ap (λ b. nat_lt q.tick tick && b) (leaves_shown members rows shows brief q (and_second (accepted q) _ w)))

  -- Pairs

  pairs_shown : (members : List Member) (rows : List (Row n)) → Flat members rows → list_all accepted rows ≡ true → has_pair rows ≡ has_twins members
  pairs_shown members rows flat acc = lines rows acc ∙ ap twins (sym whole) ∙ sym (twins-members members)
    where
      lines : (rows : List (Row n)) → list_all accepted rows ≡ true → has_pair rows ≡ twins (map (λ q. line_of q.asks) rows)
      lines [] h = refl
      lines (q ∷ rows) h =
          ap (λ b. b || has_pair rows)
          (any-where accepted (accepted_of (line_of q.asks)) (λ p. line_of p.asks == line_of q.asks) (λ p w. of_line (line_of q.asks) p w) rows (and_second (accepted q) _ h)
          ∙ sym (any-map (λ y. y == line_of q.asks) (λ p. line_of p.asks) rows))
          ∙ ap (λ b. list_any (λ y. y == line_of q.asks) (map (λ p. line_of p.asks) rows) || b) (lines rows (and_second (accepted q) _ h))

      whole : map (λ m. m.line) members ≡ map (λ q. line_of q.asks) rows
      whole = sym (map-map (λ s. s.line) sight members) ∙ ap (map (λ s. s.line)) flat ∙ map-map (λ s. s.line) sight_of rows

  follows_shown : (m : Member) (new : Row n) (others : List Member) (rows : List (Row n)) → Flat others rows → is_brief new.outcome ≡ true → sight m ≡ sight_of new
      → all_brief rows ≡ true → comes_behind new.outcome rows ≡ follows m others
  follows_shown m new others rows shows own is brief =
      by new.outcome own
      ∙ ap (λ k. (k == never) || list_any (λ o. nat_le o.end k) others) (sym (ap (λ s. s.end) is))
    where
      stored : (u : ℕ) → u ≤ never → u < never → list_any (λ q. stored_by u q.outcome) rows ≡ list_any (λ o. nat_le o.end u) others
      stored u le lt = flat_any (λ s. nat_le s.end u) (λ q. stored_by u q.outcome) others rows (λ q. one q.outcome) shows
        where
          one : (o : Outcome n) → stored_by u o ≡ nat_le (end_of never o) u
          one (out.Stored v place) = refl
          one _ = sym (lt-leb never u lt)

      by : (o : Outcome n) → is_brief o ≡ true → comes_behind o rows ≡ ((end_of never o == never) || list_any (λ p. nat_le p.end (end_of never o)) others)
      by (out.Stored u place) k =
          let lt : u < reach = ltb-true u reach k in
          stored u (omega (arith, lt)) (omega (arith, lt)) ∙ ap (λ b. b || list_any (λ p. nat_le p.end u) others) (sym (ne_eqb u never (λ e. omega (arith, e, lt))))
      by _ k = refl

  -- the newest row, and the newest member
  pub joins_shown : (m : Member) (new : Row n) (others all : List Member) (rows : List (Row n)) → Flat others rows → Flat all (new ∷ rows) → sight m ≡ sight_of new
      → list_all accepted (new ∷ rows) ≡ true → all_brief (new ∷ rows) ≡ true → pairs_few rows rows ≡ true
      → pairs_few (new ∷ rows) (new ∷ rows) ≡ joins_well all m others
  joins_shown m new others all rows shows whole is acc brief fair =
      join_law n new rows fair
      ∙ ap (λ b. b && (not (has_pair rows) || comes_behind new.outcome rows)) few
      ∙ ap (λ b. few_by (is_of m.line) (precedes all m) others && (not b || comes_behind new.outcome rows)) (pairs_shown others rows shows (and_second (accepted new) _ acc))
      ∙ ap (λ b. few_by (is_of m.line) (precedes all m) others && (not (has_twins others) || b))
      (follows_shown m new others rows shows (and_first (is_brief new.outcome) _ brief) is (and_second (is_brief new.outcome) _ brief))
      ∙ ap (λ b. few_by (is_of m.line) (precedes all m) others && b) (or_turn (not (has_twins others)) (follows m others))
    where
      or_turn : (a b : Bool) → (a || b) ≡ (b || a)
      or_turn true true = refl
      or_turn true false = refl
      or_turn false true = refl
      or_turn false false = refl

      few : has_few (new ∷ rows) new (filter (accepted_of (line_of new.asks)) rows) ≡ few_by (is_of m.line) (precedes all m) others
      few =
          few_is (new ∷ rows) new (accepted_of (line_of new.asks)) rows
          ∙ few_shown (line_of new.asks) (accepted_of (line_of new.asks)) (λ o. is_older (new ∷ rows) new o)
          (λ s. nat_lt s.arrived new.tick && (not s.merged && list_all (λ p. nat_le s.leave p.end) all)) others rows shows
          (fine rows (and_second (accepted new) _ acc) (and_second (is_brief new.outcome) _ brief))
          (λ q w. of_line (line_of new.asks) q (and_first (accepted q) _ w))
          (λ q w. ap (λ b. nat_lt q.tick new.tick && (not (is_merged q.outcome) && b)) (leaves_shown all (new ∷ rows) whole brief q (and_second (accepted q) _ w)))
          ∙ ap (λ s. few_by (is_of s.line) (λ o. nat_lt o.arrived s.arrived && (not o.merged && leaves_first all o)) others) (sym is)

-- Room

abbrev head_of : Sight → List Sight → Sight
head_of d [] = d
head_of d (s ∷ ss) = s

abbrev tail_of : List Sight → List Sight
tail_of [] = []
tail_of (s ∷ ss) = ss

few_by-same : {X : Type 0} (own one two : X → Bool) (xs : List X) → ((x : X) → one x ≡ two x) → few_by own one xs ≡ few_by own two xs
few_by-same own one two xs same = ap (λ b. nat_le (count_by own xs) 1 && b) (all-same (λ x. not (own x) || one x) (λ x. not (own x) || two x) (λ x. ap (λ b. not (own x) || b) (same x)) xs)

pub few_by-reverse : {X : Type 0} (own one : X → Bool) (xs : List X) → few_by own one (reverse xs) ≡ few_by own one xs
few_by-reverse own one xs =
    ap (λ k. nat_le k 1 && list_all (λ x. not (own x) || one x) (reverse xs)) (count-reverse own xs)
    ∙ ap (λ b. nat_le (count_by own xs) 1 && b) (all-reverse (λ x. not (own x) || one x) xs)

module _ {n : ℕ} where
  pub turned : (members : List Member) (rows : List (Row n)) → Shows members rows → Flat (reverse members) rows
  turned members rows shows = map-reverse sight members ∙ ap reverse shows ∙ reverse-reverse (map sight_of rows)

  pub order_shown : (members : List Member) (rows : List (Row n)) → Shows members rows → list_all accepted rows ≡ true → all_brief rows ≡ true
      → pairs_few (drop 1 rows) (drop 1 rows) ≡ true → pairs_few rows rows ≡ in_order members
  order_shown members rows shows acc brief near = by (reverse members) rows (turned members rows shows) acc brief near
    where
      by : (ms : List Member) (qs : List (Row n)) → Flat ms qs → list_all accepted qs ≡ true → all_brief qs ≡ true
          → pairs_few (drop 1 qs) (drop 1 qs) ≡ true → pairs_few qs qs ≡ newest_fits ms
      by [] [] same acc brief near = refl
      by [] (q ∷ qs) same acc brief near = absurd (cc)
      by (m ∷ ms) [] same acc brief near = absurd (cc)
      by (m ∷ ms) (q ∷ qs) same acc brief near =
          joins_shown m q ms (m ∷ ms) qs (ap tail_of same) same (ap (head_of (sight m)) same) acc brief near

  pub refusal_shown : (tick line : ℕ) (members : List Member) (rows : List (Row n)) → Shows members rows → list_all accepted rows ≡ true → all_brief rows ≡ true
      → is_refused tick rows (filter (write_of line) rows) ≡ refused_kept tick line members
  refusal_shown tick line members rows shows acc brief =
      refused_shown tick line (reverse members) rows (turned members rows shows) acc brief
      ∙ few_by-same (is_of line) (λ m. nat_lt m.arrived tick && leaves_first (reverse members) m) (λ m. nat_lt m.arrived tick && leaves_first members m) (reverse members)
      (λ m. ap (λ b. nat_lt m.arrived tick && b) (all-reverse (λ o. nat_le m.leave o.end) members))
      ∙ few_by-reverse (is_of line) (λ m. nat_lt m.arrived tick && leaves_first members m) members

-- Room is told by what is kept
pub room_shown : {n : ℕ} (rules : Rules) (t : ℕ) (rows : List (Row n)) (members : List Member) (waits : List ℕ) (lost : ℕ) (last_answer last_store : Option ℕ)
    → KeptBank t rows members waits lost last_answer last_store → all_brief rows ≡ true → NearRoom t rows
    → has_room rules t rows ≡ room_kept rules.writes rules.reads members waits lost
room_shown {n} rules t rows members waits lost last_answer last_store kept brief near =
    let numbers = numbers_law n t rows members waits lost last_answer last_store kept in
    ap (λ k. nat_le k rules.writes && (nat_le (length (waiting t [] rows)) rules.reads && pairs_few (pending t [] rows) (pending t [] rows))) numbers.writes
    ∙ ap (λ k. nat_le (length members) rules.writes && (nat_le k rules.reads && pairs_few (pending t [] rows) (pending t [] rows))) numbers.reads
    ∙ ap (λ b. nat_le (length members) rules.writes && (nat_le (length waits + lost) rules.reads && b))
    (order_shown members (pending t [] rows) kept.writes (stands_accepted t [] rows) (stands_all (λ q. is_brief q.outcome) t [] rows brief) near)

or_both : (a b c d : Bool) → a ≡ c → b ≡ d → (a || b) ≡ (c || d)
or_both a b c d is are = ap (λ x. x || b) is ∙ ap (λ x. c || x) are

-- the newest member and the others, the oldest first
pub order_split : (others : List Member) (new : Member) → joins_well (others ++ new ∷ []) new others ≡ in_order (others ++ new ∷ [])
order_split others new =
    ap (λ b. b && (follows new others || not (has_twins others)))
    (sym (few_by-reverse (is_of new.line) (precedes (others ++ new ∷ []) new) others)
    ∙ few_by-same (is_of new.line) (precedes (others ++ new ∷ []) new) (precedes (new ∷ reverse others) new) (reverse others)
    (λ o. ap (λ b. nat_lt o.arrived new.arrived && (not o.merged && b))
    (sym (all-reverse (λ m. nat_le o.leave m.end) (others ++ new ∷ [])) ∙ ap (list_all (λ m. nat_le o.leave m.end)) (reverse-append others (new ∷ [])))))
    ∙ ap (λ b. few_by (is_of new.line) (precedes (new ∷ reverse others) new) (reverse others) && b)
    (or_both (follows new others) (not (has_twins others)) (follows new (reverse others)) (not (has_twins (reverse others)))
    (ap (λ b. (new.end == never) || b) (sym (any-reverse (λ m. nat_le m.end new.end) others)))
    (ap not (sym (has_twins-reverse others))))
    ∙ ap newest_fits (sym (reverse-append others (new ∷ [])))

-- a list is its last element behind the others
pub last_split : {X : Type 0} (xs : List X) (x : X) → Some x ≡ slice_get xs (length xs - 1) → take (length xs - 1) xs ++ x ∷ [] ≡ xs
last_split [] x is = absurd (cc)
last_split {X} (y ∷ []) x is = ap (λ o. some_or o) is
  where
    some_or : Option X → List X
    some_or None = []
    some_or (Some z) = z ∷ []
last_split (y ∷ z ∷ xs) x is =
    let e : length (y ∷ z ∷ xs) - 1 ≡ suc (length (z ∷ xs) - 1) = omega arith in
    ap (λ k. take k (y ∷ z ∷ xs) ++ x ∷ []) e ∙ ap (λ zs. y ∷ zs) (last_split (z ∷ xs) x (is ∙ ap (slice_get (y ∷ z ∷ xs)) e))
