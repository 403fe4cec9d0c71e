-- That the values of all items determine what is kept.
use Rattle.std.proofs.Common.{◌≡◌, ℕ, ◌+◌, ◌-◌, ◌<◌, ◌≤◌, Bool, true, false, List, [], ◌∷◌, zero, suc, length, get_or, slice_get, Option, Some, None, refl, sym, ap, subst, ◌∙◌, arith, inl, inr, ext_get_or}
use Rattle.std.proofs.lemmas.Bool.{cases_lt}
use Rattle.masked_bytes.specs.declared.entry.Entry.{Entry}
use Rattle.region_regs.specs.Region.{RegionState}
use Rattle.bank_shape.specs.{Shape.{if_array, slots_of, controls_of}, declared.BankShape.BankShape, declared.Home.Home}
use Rattle.power_recovery.specs.Kept.{KeptState, IsKept, IsRegionOf, no_region, region_at}
use Rattle.register_laws.specs.{Items.{region_values, spare_values, mark_values, items_of, item_values}, Recovering.DeterminedLaw}
use Rattle.register_laws.proofs.Items.{item-region, item-spare, item-mark}

-- the values of a region determine it
region-same : (shape : BankShape) (a b : RegionState) → IsRegionOf shape a → IsRegionOf shape b → region_values a ≡ region_values b → a ≡ b
region-same shape a b own_a own_b same =
    let start : a.rotation.start ≡ b.rotation.start = ap (λ (xs : List ℕ). get_or xs 0 0) same in
    let moved : a.rotation.lines - a.rotation.gap ≡ b.rotation.lines - b.rotation.gap = ap (λ (xs : List ℕ). get_or xs 1 0) same in
    let counter : a.counter ≡ b.counter = ap (λ (xs : List ℕ). get_or xs 2 0) same in
    let lines : a.rotation.lines ≡ b.rotation.lines = own_a.rotates ∙ sym own_b.rotates in
    let psi : a.psi ≡ b.psi = own_a.stores ∙ sym own_b.stores in
    let gap : a.rotation.gap ≡ b.rotation.gap = omega (arith, moved, lines, own_a.in_range.rotates.gap_within, own_b.in_range.rotates.gap_within) in
    ap (λ (x : ℕ). record { rotation = record { lines = x; start = a.rotation.start; gap = a.rotation.gap }; psi = a.psi; counter = a.counter }) lines
    ∙ ap (λ (x : ℕ). record { rotation = record { lines = b.rotation.lines; start = x; gap = a.rotation.gap }; psi = a.psi; counter = a.counter }) start
    ∙ ap (λ (x : ℕ). record { rotation = record { lines = b.rotation.lines; start = b.rotation.start; gap = x }; psi = a.psi; counter = a.counter }) gap
    ∙ ap (λ (x : ℕ). record { rotation = b.rotation; psi = x; counter = a.counter }) psi
    ∙ ap (λ (x : ℕ). record { rotation = b.rotation; psi = b.psi; counter = x }) counter

-- those of a spare the slot that it was given
spare-same : (a b : Option ℕ) → spare_values a ≡ spare_values b → a ≡ b
spare-same None None same = refl
spare-same None (Some y) same = let no : 0 ≡ y + 1 = ap (λ (xs : List ℕ). get_or xs 0 0) same in absurd (omega (arith, no))
spare-same (Some x) None same = let no : x + 1 ≡ 0 = ap (λ (xs : List ℕ). get_or xs 0 0) same in absurd (omega (arith, no))
spare-same (Some x) (Some y) same =
    let more : x + 1 ≡ y + 1 = ap (λ (xs : List ℕ). get_or xs 0 0) same in
    let equal : x ≡ y = omega (arith, more) in
    ap (λ (k : ℕ). Some k) equal

-- those of the mark the mark
mark-same : (a b : Bool) → mark_values a ≡ mark_values b → a ≡ b
mark-same false false same = refl
mark-same true true same = refl
mark-same false true same = let no : 0 ≡ 1 = ap (λ (xs : List ℕ). get_or xs 0 0) same in absurd (omega (arith, no))
mark-same true false same = let no : 1 ≡ 0 = ap (λ (xs : List ℕ). get_or xs 0 0) same in absurd (omega (arith, no))

-- two lists that are read alike are one
same-gets : (xs ys : List ℕ) → ((i : ℕ) → slice_get xs i ≡ slice_get ys i) → xs ≡ ys
same-gets [] [] same = refl
same-gets [] (y ∷ ys) same = let no = same 0 in cc
same-gets (x ∷ xs) [] same = let no = same 0 in cc
same-gets (x ∷ xs) (y ∷ ys) same =
    let first = same 0 in
    let equal : x ≡ y = cc in
    ap (λ (z : ℕ). z ∷ xs) equal ∙ ap (λ (zs : List ℕ). y ∷ zs) (same-gets xs ys (λ i. same (suc i)))

-- behind its end a list has nothing
get-past : (xs : List ℕ) (i : ℕ) → length xs ≤ i → slice_get xs i ≡ None
get-past [] i far = refl
get-past (x ∷ xs) zero far = absurd (omega (arith, far))
get-past (x ∷ xs) (suc i) far = get-past xs i (omega (arith, far))

module _ {n : ℕ} where
  same-kept : (a b : KeptState n) → a.shape ≡ b.shape → a.entries ≡ b.entries → a.table.slots ≡ b.table.slots → a.table.spares ≡ b.table.spares
      → a.table.replaced ≡ b.table.replaced → a.regions ≡ b.regions → a.exhausted ≡ b.exhausted → a ≡ b
  same-kept a b shape entries slots spares replaced regions exhausted =
      ap (λ (x : BankShape). record { shape = x; entries = a.entries; table = a.table; regions = a.regions; exhausted = a.exhausted }) shape
      ∙ ap (λ (x : List (Entry n)). record { shape = b.shape; entries = x; table = a.table; regions = a.regions; exhausted = a.exhausted }) entries
      ∙ ap (λ (x : ℕ). record { shape = b.shape; entries = b.entries; table = record { slots = x; spares = a.table.spares; replaced = a.table.replaced }; regions = a.regions; exhausted = a.exhausted }) slots
      ∙ ap (λ (x : ℕ). record { shape = b.shape; entries = b.entries; table = record { slots = b.table.slots; spares = x; replaced = a.table.replaced }; regions = a.regions; exhausted = a.exhausted }) spares
      ∙ ap (λ (x : List ℕ). record { shape = b.shape; entries = b.entries; table = record { slots = b.table.slots; spares = b.table.spares; replaced = x }; regions = a.regions; exhausted = a.exhausted }) replaced
      ∙ ap (λ (x : List RegionState). record { shape = b.shape; entries = b.entries; table = b.table; regions = x; exhausted = a.exhausted }) regions
      ∙ ap (λ (x : Bool). record { shape = b.shape; entries = b.entries; table = b.table; regions = b.regions; exhausted = x }) exhausted

  -- two states with one queue and one shape, whose items have the same values, are one
  pub items-determine : (a b : KeptState n) → IsKept a → IsKept b → a.shape ≡ b.shape → a.entries ≡ b.entries
      → ((item : ℕ) → item < items_of a.shape → item_values a item ≡ item_values b item) → a ≡ b
  items-determine a b range_a range_b shape entries same =
      same-kept a b shape entries
      (range_a.slots ∙ ap (λ s. slots_of s) shape ∙ sym range_b.slots) spares replaced regions
      (mark-same a.exhausted b.exhausted
      (sym (item-mark a) ∙ same (a.shape.regions + a.shape.spares) (omega arith) ∙ ap (λ (s : BankShape). item_values b (s.regions + s.spares)) shape ∙ item-mark b))
    where
      spares : a.table.spares ≡ b.table.spares
      spares = range_a.spares ∙ ap (λ (s : BankShape). s.spares) shape ∙ sym range_b.spares

      replaced : a.table.replaced ≡ b.table.replaced
      replaced = same-gets a.table.replaced b.table.replaced (λ i. elim (cases_lt i a.shape.spares) [
        | inl few ↦
            let few_b : i < b.shape.spares = subst (λ (s : BankShape). i < s.spares) shape few in
            spare-same (slice_get a.table.replaced i) (slice_get b.table.replaced i)
            (sym (item-spare a i few) ∙ same (a.shape.regions + i) (omega (arith, few)) ∙ ap (λ (s : BankShape). item_values b (s.regions + i)) shape ∙ item-spare b i few_b)
        | inr far ↦
            let far_b : b.shape.spares ≤ i = subst (λ (s : BankShape). s.spares ≤ i) shape far in
            get-past a.table.replaced i (omega (arith, far, range_a.table.within, range_a.spares))
            ∙ sym (get-past b.table.replaced i (omega (arith, far_b, range_b.table.within, range_b.spares)))
      ])

      regions : a.regions ≡ b.regions
      regions = ext_get_or no_region a.regions b.regions (range_a.all_regions ∙ ap (λ (s : BankShape). s.regions) shape ∙ sym range_b.all_regions)
          (λ i below.
          let few : i < a.shape.regions = omega (arith, below, range_a.all_regions) in
          let few_b : i < b.shape.regions = subst (λ (s : BankShape). i < s.regions) shape few in
          region-same b.shape (region_at a i) (region_at b i) (subst (λ (s : BankShape). IsRegionOf s (region_at a i)) shape (range_a.regions i few)) (range_b.regions i few_b)
          (sym (item-region a i few) ∙ same i (omega (arith, few)) ∙ item-region b i few_b))

-- with home Array there are as many control lines as items
pub all-items : (shape : BankShape) (home : Home) → shape.home ≡ home → controls_of shape ≡ if_array home (items_of shape)
all-items shape home is = ap (λ (h : Home). if_array h (items_of shape)) is

pub determined_law : DeterminedLaw
determined_law n m e kept other now regs array one two =
    items-determine kept other one.lines.in_range two.lines.in_range shape entries
    (λ item below.
    let there : item < controls_of kept.shape = subst (λ (k : ℕ). item < k) (sym (all-items kept.shape _ one.lines.home)) below in
    let there_other : item < controls_of other.shape = subst (λ (s : BankShape). item < controls_of s) shape there in
    one.lines.values item there ∙ sym (two.lines.values item there_other))
  where
    shape : kept.shape ≡ other.shape
    shape = sym (ap (λ (k : KeptState n). k.shape) one.stripped) ∙ ap (λ (k : KeptState n). k.shape) two.stripped

    entries : kept.entries ≡ other.entries
    entries = sym (ap (λ (k : KeptState n). k.entries) one.stripped) ∙ ap (λ (k : KeptState n). k.entries) two.stripped
