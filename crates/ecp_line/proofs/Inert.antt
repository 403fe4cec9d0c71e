-- Which stuck cells no longer matter, and how each entry is charged to one of its own.
use Rattle.std.proofs.Common.{◌≡◌, ℕ, zero, suc, ◌+◌, ◌*◌, ◌^◌, ◌<◌, ◌≤◌, ◌⊎◌, ◌&&◌, ◌||◌, Bool, true, false, refl, sym, ap, ◌∙◌, subst, inl, inr, arith, eqb, ltb, leb}
use Rattle.std.proofs.lemmas.Bool.{eqb-true, eq-eqb, cases_eq, cases_order, false≢true, and_parts, and_from, or_cases, or_left, or_right, ltb-true, leb-true, lt-ltb, le-leb}
use Rattle.std.proofs.lemmas.Bool.{both_ways, false_from_ne_true}
use Rattle.cell_rows.specs.Rows.{members}
use Rattle.ecp_line.specs.Layout.{source_below, some_below, is_inert, is_pointer_cell, is_repeated, pointer, pointer_cell, replacement_cell, width, Prefix}
use Rattle.ecp_line.proofs.{Counts.{members-more, members-strict}, Places.{entry-order, replacement-same, pointer-lt}, Sources.{SourceCase, source-case, source-lt}}
use Rattle.ecp_line.proofs.Sources.SourceCase.{own, replaced}

pub some-from : (p : ℕ → Bool) (j : ℕ) → some_below p j ≡ true → (i : ℕ) × (i < j) × (p i ≡ true)
unfolding some_below
some-from p zero h = absurd (false≢true h)
some-from p (suc j) h =
    elim (or_cases (p j) (some_below p j) h) as (λ _. (i : ℕ) × (i < suc j) × (p i ≡ true)) [
      | inl at ↦ (j, omega arith, at)
      | inr below ↦ let (i, l, at) = some-from p j below in (i, omega arith, at)
    ]

pub some-to : (p : ℕ → Bool) (j i : ℕ) → i < j → p i ≡ true → some_below p j ≡ true
unfolding some_below
some-to p zero i l at = absurd (omega arith)
some-to p (suc j) i l at =
    elim (cases_eq i j) as (λ _. (p j || some_below p j) ≡ true) [
      | inl e ↦ or_left (p j) (some_below p j) (ap p (sym e) ∙ at)
      | inr ne ↦ or_right (p j) (some_below p j) (some-to p j i (omega arith) at)
    ]

-- why a stuck cell is inert for the first j entries
pub data InertBy (B : ℕ) (f : ℕ → Bool) (j n : ℕ) : Type 0 where
  points_by : (i : ℕ) → i < j → pointer_cell B i ≤ n → n < replacement_cell B i → InertBy B f j n
  pointed_by : (i : ℕ) → i < j → n ≡ pointer B f i → InertBy B f j n
  passed_by : (i h : ℕ) → i < h → h < j → n ≡ replacement_cell B i → pointer B f h ≡ pointer B f i → InertBy B f j n

inert-pointer : (B : ℕ) (f : ℕ → Bool) (j n : ℕ) → some_below (λ i. is_pointer_cell B i n) j ≡ true → InertBy B f j n
inert-pointer B f j n h =
    let (i, l, at) = some-from (λ i. is_pointer_cell B i n) j h in
    let (low, high) = and_parts (leb (pointer_cell B i) n) (ltb n (replacement_cell B i)) at in
    points_by i l (leb-true _ _ low) (ltb-true _ _ high)

inert-pointed : (B : ℕ) (f : ℕ → Bool) (j n : ℕ) → some_below (λ i. eqb n (pointer B f i)) j ≡ true → InertBy B f j n
inert-pointed B f j n h =
    let (i, l, at) = some-from (λ i. eqb n (pointer B f i)) j h in pointed_by i l (eqb-true _ _ at)

inert-passed : (B : ℕ) (f : ℕ → Bool) (j n : ℕ) → some_below (λ i. eqb n (replacement_cell B i) && is_repeated B f j i) j ≡ true → InertBy B f j n
inert-passed B f j n h =
    let (i, l, at) = some-from (λ i. eqb n (replacement_cell B i) && is_repeated B f j i) j h in
    let (cell, repeated) = and_parts (eqb n (replacement_cell B i)) (is_repeated B f j i) at in
    let (k, m, there) = some-from (λ k. ltb i k && eqb (pointer B f k) (pointer B f i)) j repeated in
    let (after, same) = and_parts (ltb i k) (eqb (pointer B f k) (pointer B f i)) there in
    passed_by i k (ltb-true _ _ after) m (eqb-true _ _ cell) (eqb-true _ _ same)

pub inert-from : (B : ℕ) (f stuck : ℕ → Bool) (j n : ℕ) → is_inert B f stuck j n ≡ true → (stuck n ≡ true) × InertBy B f j n
unfolding is_inert
inert-from B f stuck j n h =
    let parts = and_parts (stuck n) _ h in (
      parts.0,
      elim (or_cases (some_below (λ i. is_pointer_cell B i n) j) _ parts.1) as (λ _. InertBy B f j n) [
        | inl a ↦ inert-pointer B f j n a
        | inr rest ↦ elim (or_cases (some_below (λ i. eqb n (pointer B f i)) j) _ rest) as (λ _. InertBy B f j n) [
          | inl b ↦ inert-pointed B f j n b
          | inr c ↦ inert-passed B f j n c
        ]
      ],
    )

pub inert-to : (B : ℕ) (f stuck : ℕ → Bool) (j n : ℕ) → stuck n ≡ true → InertBy B f j n → is_inert B f stuck j n ≡ true
unfolding is_inert
inert-to B f stuck j n at (points_by i l low high) =
    and_from (stuck n) _ at (or_left (some_below (λ i. is_pointer_cell B i n) j) _ (some-to (λ i. is_pointer_cell B i n) j i l (and_from _ _ (le-leb _ _ low) (lt-ltb _ _ high))))
inert-to B f stuck j n at (pointed_by i l e) =
    and_from (stuck n) _ at (or_right (some_below (λ i. is_pointer_cell B i n) j) _ (or_left (some_below (λ i. eqb n (pointer B f i)) j) _ (some-to (λ i. eqb n (pointer B f i)) j i l (eq-eqb _ _ e))))
inert-to B f stuck j n at (passed_by i h l m e same) =
    and_from (stuck n) _ at (or_right (some_below (λ i. is_pointer_cell B i n) j) _ (or_right (some_below (λ i. eqb n (pointer B f i)) j) _
    (some-to (λ i. eqb n (replacement_cell B i) && is_repeated B f j i) j i (omega arith)
    (and_from _ _ (eq-eqb _ _ e) (some-to (λ h. ltb i h && eqb (pointer B f h) (pointer B f i)) j h m (and_from _ _ (lt-ltb _ _ l) (eq-eqb _ _ same)))))))

inert_by-kept : (B : ℕ) (f g : ℕ → Bool) (j k n : ℕ) → j ≤ k → ((i : ℕ) → i < j → pointer B f i ≡ pointer B g i) → InertBy B f j n → InertBy B g k n
inert_by-kept B f g j k n le same (points_by i l low high) = points_by i (omega arith) low high
inert_by-kept B f g j k n le same (pointed_by i l e) = pointed_by i (omega arith) (e ∙ same i l)
inert_by-kept B f g j k n le same (passed_by i h l m e again) = passed_by i h l (omega arith) e (sym (same h m) ∙ again ∙ same i (omega arith))

-- what is inert stays so, where the pointers stay and stuck cells stay stuck
pub inert-kept : (B : ℕ) (f g stuck later : ℕ → Bool) (j k n : ℕ) → j ≤ k → ((i : ℕ) → i < j → pointer B f i ≡ pointer B g i) → ((n : ℕ) → stuck n ≡ true → later n ≡ true)
    → is_inert B f stuck j n ≡ true → is_inert B g later k n ≡ true
inert-kept B f g stuck later j k n le same more h =
    let (at, why) = inert-from B f stuck j n h in inert-to B g later k n (more n at) (inert_by-kept B f g j k n le same why)

pub Prefix-kept : (B M : ℕ) (f g stuck later : ℕ → Bool) (w : ℕ) → ((i : ℕ) → i < w → pointer B f i ≡ pointer B g i) → ((n : ℕ) → stuck n ≡ true → later n ≡ true)
    → Prefix B M f stuck w → Prefix B M g later w
Prefix-kept B M f g stuck later w same more before j le =
    let t = members-more (is_inert B f stuck j) (is_inert B g later j) (8 * (B + M)) (λ n. inert-kept B f g stuck later j j n (omega arith) (λ i l. same i (omega arith)) more) in
    let e = before j le in omega arith

-- the source of a bit is not inert
pub source-live : (B : ℕ) (f stuck : ℕ → Bool) (x k : ℕ) → 2 ^ width B ≡ 8 * B → x < 8 * B → is_inert B f stuck k (source_below B f x k) ≡ false
source-live B f stuck x k digits low =
    false_from_ne_true _ (λ h. let (at, why) = inert-from B f stuck k (source_below B f x k) h in go _ (source-case B f x k) why)
  where
    go : (s : ℕ) → SourceCase B f x k s → InertBy B f k s → ⊥
    go s (own e none) (points_by i l from to) = absurd (omega arith)
    go s (own e none) (pointed_by i l at) = none i l (sym e ∙ at)
    go s (own e none) (passed_by i h l m at again) = absurd (omega arith)
    go s (replaced i l e x_at last) (points_by h m from to) =
        elim (cases_order i h) as (λ _. ⊥) [
          | inl same ↦ let p = ap (λ (n : ℕ). replacement_cell B n) same in absurd (omega arith)
          | inr (inl less) ↦ let t = entry-order B i h less in absurd (omega arith)
          | inr (inr more) ↦ let t = entry-order B h i more in absurd (omega arith)
        ]
    go s (replaced i l e x_at last) (pointed_by h m at) = let t = pointer-lt B f h digits in absurd (omega arith)
    go s (replaced i l e x_at last) (passed_by j h m n at again) =
        let same : j ≡ i = replacement-same B j i (sym at ∙ e) in
        last h (subst (λ (n : ℕ). n < h) same m) n (x_at ∙ ap (λ (n : ℕ). pointer B f n) (sym same) ∙ sym again)

-- one more cell is inert for one more entry
one_more : (B M : ℕ) (f stuck : ℕ → Bool) (k n : ℕ) → n < 8 * (B + M) → stuck n ≡ true → (InertBy B f k n → ⊥) → InertBy B f (k + 1) n
    → k ≤ members (is_inert B f stuck k) (8 * (B + M)) → k + 1 ≤ members (is_inert B f stuck (k + 1)) (8 * (B + M))
one_more B M f stuck k n room at new why before =
    let t = members-strict (is_inert B f stuck k) (is_inert B f stuck (k + 1)) (8 * (B + M)) n
    (λ i. inert-kept B f f stuck stuck k (k + 1) i (omega arith) (λ i l. refl) (λ n h. h)) room
    (false_from_ne_true _ (λ h. new ((inert-from B f stuck k n h).1))) (inert-to B f stuck (k + 1) n at why) in omega arith

pointed-new : (B : ℕ) (f : ℕ → Bool) (x k s : ℕ) → x ≡ pointer B f k → SourceCase B f x k s → InertBy B f (k + 1) s
pointed-new B f x k s at (own e none) = pointed_by k (omega arith) (e ∙ at)
pointed-new B f x k s at (replaced i l e x_at last) = passed_by i k l (omega arith) e (sym at ∙ x_at)

pointer-new : (B : ℕ) (f : ℕ → Bool) (k n : ℕ) → 2 ^ width B ≡ 8 * B → pointer_cell B k ≤ n → InertBy B f k n → ⊥
pointer-new B f k n digits low (points_by i l from to) = let t = entry-order B i k l in absurd (omega arith)
pointer-new B f k n digits low (pointed_by i l e) = let t = pointer-lt B f i digits in absurd (omega arith)
pointer-new B f k n digits low (passed_by i h l m e again) = let t = entry-order B i k (omega arith) in absurd (omega arith)

-- an entry that points to a bit whose source is stuck, or has a stuck pointer cell, makes one more cell inert
charged : (B M : ℕ) (f stuck : ℕ → Bool) (k x : ℕ) → 2 ^ width B ≡ 8 * B → pointer_cell B k + width B ≤ 8 * (B + M) → x < 8 * B
    → k ≤ members (is_inert B f stuck k) (8 * (B + M)) → stuck (source_below B f x k) ≡ true
    → (pointer B f k ≡ x) ⊎ ((n : ℕ) × (pointer_cell B k ≤ n) × (n < replacement_cell B k) × (stuck n ≡ true))
    → k + 1 ≤ members (is_inert B f stuck (k + 1)) (8 * (B + M))
charged B M f stuck k x digits room low before at (inl e) =
    let t = source-lt B f x k low in
    one_more B M f stuck k (source_below B f x k) (omega arith) at
    (λ why. both_ways _ (source-live B f stuck x k digits low) (inert-to B f stuck k (source_below B f x k) at why))
    (pointed-new B f x k (source_below B f x k) (sym e) (source-case B f x k)) before
charged B M f stuck k x digits room low before at (inr (n, from, to, there)) =
    one_more B M f stuck k n (omega arith) there (pointer-new B f k n digits from) (points_by k (omega arith) from to) before

-- so one more entry can be relied on
pub Prefix-more : (B M : ℕ) (f stuck : ℕ → Bool) (k x : ℕ) → 2 ^ width B ≡ 8 * B → pointer_cell B k + width B ≤ 8 * (B + M) → x < 8 * B
    → Prefix B M f stuck k → stuck (source_below B f x k) ≡ true
    → (pointer B f k ≡ x) ⊎ ((n : ℕ) × (pointer_cell B k ≤ n) × (n < replacement_cell B k) × (stuck n ≡ true))
    → Prefix B M f stuck (k + 1)
Prefix-more B M f stuck k x digits room low before at reason j le =
    elim (cases_eq j (k + 1)) as (λ _. j ≤ members (is_inert B f stuck j) (8 * (B + M))) [
      | inl e ↦ subst (λ (n : ℕ). n ≤ members (is_inert B f stuck n) (8 * (B + M))) (sym e) (charged B M f stuck k x digits room low (before k (omega arith)) at reason)
      | inr ne ↦ before j (omega arith)
    ]

-- a stuck source leaves more cells stuck than there are entries
pub too_many : (B M : ℕ) (f stuck : ℕ → Bool) (k x : ℕ) → 2 ^ width B ≡ 8 * B → pointer_cell B k ≤ 8 * (B + M) → x < 8 * B
    → Prefix B M f stuck k → stuck (source_below B f x k) ≡ true → k < members stuck (8 * (B + M))
too_many B M f stuck k x digits room low before at =
    let t = source-lt B f x k low in
    let e = before k (omega arith) in
    let more = members-strict (is_inert B f stuck k) stuck (8 * (B + M)) (source_below B f x k) (λ n h. (inert-from B f stuck k n h).0) (omega arith) (source-live B f stuck x k digits low) at in
    omega arith
