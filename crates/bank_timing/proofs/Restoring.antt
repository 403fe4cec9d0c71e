-- That each item that is read back brings what was kept one step nearer.
use Rattle.std.proofs.Common.{◌≡◌, ◌≢◌, ℕ, ◌+◌, ◌-◌, ◌<◌, ◌≤◌, Bool, true, false, List, [], ◌∷◌, ◌++◌, zero, suc, length, take, replicate, slice_get, slice_set, Option, Some, None, refl, sym, ap, subst, ◌∙◌, arith, inl, inr, add-one}
use Rattle.std.{specs.Prelude.slice_index, proofs.lemmas.Bool.cases_lt, proofs.lemmas.List.{length-replicate, get_or-replicate}}
use Rattle.std.proofs.lemmas.Option.{get_or_from_slice_get, slice_get_within}
use Rattle.region_regs.specs.Region.{RegionState, first_region}
use Rattle.spare_pool.specs.Table.{used_by}
use Rattle.bank_shape.specs.Shape.{slots_of}
use Rattle.power_recovery.specs.{Events.{with_regions, retired_kept, exhausted_kept}, Kept.{KeptState, IsKept, no_region, region_at}}
use Rattle.power_recovery.specs.Restoring.{IsOneDue, stripped_kept, region_with, region_restored}
use Rattle.register_laws.specs.Items.{region_values, spare_values, mark_values}
use Rattle.bank_timing.{specs.Reading.{merged, regions_back, spares_back, mark_back}, proofs.Merging.{merged-all, merged-more, merged-low, merged-high}}

-- Lists

take-more : (xs : List ℕ) (j slot : ℕ) → slice_get xs j ≡ Some slot → take j xs ++ slot ∷ [] ≡ take (suc j) xs
take-more [] j slot is = cc
take-more (x ∷ xs) zero slot is = let same : x ≡ slot = cc in ap (λ (y : ℕ). y ∷ []) (sym same)
take-more (x ∷ xs) (suc j) slot is = ap (λ (ys : List ℕ). x ∷ ys) (take-more xs j slot is)

take-past : (xs : List ℕ) (j : ℕ) → slice_get xs j ≡ None → take j xs ≡ take (suc j) xs
take-past [] zero is = refl
take-past [] (suc j) is = refl
take-past (x ∷ xs) zero is = cc
take-past (x ∷ xs) (suc j) is = ap (λ (ys : List ℕ). x ∷ ys) (take-past xs j is)

take-few : (xs : List ℕ) (j slot : ℕ) → slice_get xs j ≡ Some slot → length (take j xs) < length xs
take-few [] j slot is = cc
take-few (x ∷ xs) zero slot is = omega arith
take-few (x ∷ xs) (suc j) slot is = let fewer = take-few xs j slot is in omega (arith, fewer)

take-all : (xs : List ℕ) (k : ℕ) → length xs ≤ k → take k xs ≡ xs
take-all [] zero few = refl
take-all [] (suc k) few = refl
take-all (x ∷ xs) zero few = absurd (omega (arith, few))
take-all (x ∷ xs) (suc k) few = ap (λ (ys : List ℕ). x ∷ ys) (take-all xs k (omega (arith, few)))

module _ {n : ℕ} (kept : KeptState n) (range : IsKept kept) where
  long : length kept.regions ≡ length (replicate kept.shape.regions (first_region kept.shape.lines kept.shape.psi))
  long = range.all_regions ∙ sym (length-replicate kept.shape.regions (first_region kept.shape.lines kept.shape.psi))

  -- Regions

  -- a region that is due was read back, since at first none is
  due-back : (i region : ℕ) → region < kept.shape.regions → (region_at (regions_back i kept) region).counter ≡ kept.shape.psi
      → (region_at kept region).counter ≡ kept.shape.psi
  due-back i region below due =
      elim (cases_lt region i) [
        | inl low ↦ sym (ap (λ (r : RegionState). r.counter) (merged-low i region kept.regions _ no_region low long)) ∙ due
        | inr high ↦
            let zero : 0 ≡ kept.shape.psi =
            sym (ap (λ (r : RegionState). r.counter) (merged-high i region kept.regions _ no_region high long
            ∙ get_or-replicate kept.shape.regions region (first_region kept.shape.lines kept.shape.psi) no_region below)) ∙ due in
            absurd (omega (arith, zero, range.shape.some_psi))
      ]

  one-due-back : (i : ℕ) → IsOneDue (regions_back i kept)
  one-due-back i region other below below_other due due_other =
      range.one_due region other below below_other (due-back i region below due) (due-back i other below_other due_other)

  -- a region with the numbers that were kept is the one that was kept
  region-read : (i : ℕ) → i < kept.shape.regions
      → region_with kept.shape (region_at kept i).rotation.start (kept.shape.lines - ((region_at kept i).rotation.lines - (region_at kept i).rotation.gap)) (region_at kept i).counter ≡ region_at kept i
  region-read i below =
      let r : RegionState = region_at kept i in
      let own = range.regions i below in
      let gap : kept.shape.lines - (r.rotation.lines - r.rotation.gap) ≡ r.rotation.gap = omega (arith, own.rotates, own.in_range.rotates.gap_within) in
      ap (λ (g : ℕ). record { rotation = record { lines = kept.shape.lines; start = r.rotation.start; gap = g }; psi = kept.shape.psi; counter = r.counter }) gap
      ∙ ap (λ (x : ℕ). record { rotation = record { lines = x; start = r.rotation.start; gap = r.rotation.gap }; psi = kept.shape.psi; counter = r.counter }) (sym own.rotates)
      ∙ ap (λ (x : ℕ). record { rotation = r.rotation; psi = x; counter = r.counter }) (sym own.stores)

  -- what restoring a region asks and leaves
  pub record RestoresRegion (now : KeptState n) (i : ℕ) (values : List ℕ) : Type 0 where
    pub exists : i < now.shape.regions
    pub start : slice_index values 0 < now.shape.lines
    pub moved : slice_index values 1 ≤ now.shape.lines
    pub gap : now.shape.lines - slice_index values 1 ≤ now.shape.lines
    pub counter : slice_index values 2 ≤ now.shape.psi
    pub leaves : region_restored i (slice_index values 0) (now.shape.lines - slice_index values 1) (slice_index values 2) now ≡ regions_back (i + 1) kept
    pub one_due : IsOneDue (region_restored i (slice_index values 0) (now.shape.lines - slice_index values 1) (slice_index values 2) now)

  region-leaves : (i : ℕ) → i < kept.shape.regions
      → region_restored i (region_at kept i).rotation.start (kept.shape.lines - ((region_at kept i).rotation.lines - (region_at kept i).rotation.gap)) (region_at kept i).counter (regions_back i kept)
      ≡ regions_back (i + 1) kept
  region-leaves i below =
      let there : i < length kept.regions = omega (arith, below, range.all_regions) in
      ap (λ (r : RegionState). with_regions (stripped_kept kept) (slice_set (merged i kept.regions (replicate kept.shape.regions (first_region kept.shape.lines kept.shape.psi))) i r)) (region-read i below)
      ∙ ap (λ (rs : List RegionState). with_regions (stripped_kept kept) rs) (merged-more i kept.regions _ no_region there long)
      ∙ ap (λ (k : ℕ). regions_back k kept) (sym (add-one i))

  restores-now : (i : ℕ) → i < kept.shape.regions → RestoresRegion (regions_back i kept) i (region_values (region_at kept i))
  restores-now i below =
      let own = range.regions i below in
      let leaves = region-leaves i below in
      record {
        exists = below;
        start = omega (arith, own.in_range.rotates.start_below, own.rotates);
        moved = omega (arith, own.rotates);
        gap = omega arith;
        counter = omega (arith, own.in_range.counted, own.stores);
        leaves = leaves;
        one_due = subst (λ (k : KeptState n). IsOneDue k) (sym leaves) (one-due-back (i + 1));
      }

  pub restores-region : (now : KeptState n) (i : ℕ) (values : List ℕ) → now ≡ regions_back i kept → i < kept.shape.regions → values ≡ region_values (region_at kept i)
      → RestoresRegion now i values
  restores-region now i values is below read =
      subst (λ (k : KeptState n). RestoresRegion k i values) (sym is) (subst (λ (xs : List ℕ). RestoresRegion (regions_back i kept) i xs) (sym read) (restores-now i below))

  -- with all regions read back, no spare is
  pub regions-all : regions_back kept.shape.regions kept ≡ spares_back 0 kept
  regions-all =
      ap (λ (k : ℕ). with_regions (stripped_kept kept) (merged k kept.regions (replicate kept.shape.regions (first_region kept.shape.lines kept.shape.psi)))) (sym range.all_regions)
      ∙ ap (λ (rs : List RegionState). with_regions (stripped_kept kept) rs) (merged-all kept.regions _ long)
      ∙ ap (λ (x : ℕ). record { shape = kept.shape; entries = kept.entries; table = record { slots = x; spares = kept.shape.spares; replaced = [] }; regions = kept.regions; exhausted = false }) (sym range.slots)
      ∙ ap (λ (x : ℕ). record { shape = kept.shape; entries = kept.entries; table = record { slots = kept.table.slots; spares = x; replaced = [] }; regions = kept.regions; exhausted = false }) (sym range.spares)

  -- Spares

  -- what giving a spare back asks and leaves
  pub record RestoresSpare (now : KeptState n) (j : ℕ) (values : List ℕ) : Type 0 where
    pub exists : slice_index values 0 - 1 < slots_of now.shape
    pub free : used_by now.table < now.shape.spares
    pub leaves : retired_kept (slice_index values 0 - 1) now ≡ spares_back (j + 1) kept

  spare-now : (j : ℕ) (o : Option ℕ) → slice_get kept.table.replaced j ≡ o → slice_index (spare_values o) 0 ≢ 0 → RestoresSpare (spares_back j kept) j (spare_values o)
  spare-now j None is some = absurd (some refl)
  spare-now j (Some slot) is some =
      let within = slice_get_within kept.table.replaced j slot is in
      let known : slice_index kept.table.replaced j < kept.table.slots = range.table.known j within in
      let same : slice_index kept.table.replaced j ≡ slot = get_or_from_slice_get kept.table.replaced j slot _ is in
      let back : slot + 1 - 1 ≡ slot = omega arith in
      record {
        exists = omega (arith, known, same, range.slots);
        free = omega (arith, take-few kept.table.replaced j slot is, range.table.within, range.spares);
        leaves = ap (λ (s : ℕ). retired_kept s (spares_back j kept)) back
            ∙ ap (λ (xs : List ℕ). record { shape = kept.shape; entries = kept.entries; table = record { slots = kept.table.slots; spares = kept.table.spares; replaced = xs }; regions = kept.regions; exhausted = false })
            (take-more kept.table.replaced j slot is)
            ∙ ap (λ (k : ℕ). spares_back k kept) (sym (add-one j));
      }

  pub restores-spare : (now : KeptState n) (j : ℕ) (values : List ℕ) → now ≡ spares_back j kept → values ≡ spare_values (slice_get kept.table.replaced j) → slice_index values 0 ≢ 0
      → RestoresSpare now j values
  restores-spare now j values is read some =
      subst (λ (k : KeptState n). RestoresSpare k j values) (sym is)
      (subst (λ (xs : List ℕ). RestoresSpare (spares_back j kept) j xs) (sym read)
      (spare-now j (slice_get kept.table.replaced j) refl (subst (λ (xs : List ℕ). slice_index xs 0 ≢ 0) read some)))

  free-now : (j : ℕ) (o : Option ℕ) → slice_get kept.table.replaced j ≡ o → slice_index (spare_values o) 0 ≡ 0 → spares_back j kept ≡ spares_back (j + 1) kept
  free-now j None is none =
      ap (λ (xs : List ℕ). record { shape = kept.shape; entries = kept.entries; table = record { slots = kept.table.slots; spares = kept.table.spares; replaced = xs }; regions = kept.regions; exhausted = false })
      (take-past kept.table.replaced j is)
      ∙ ap (λ (k : ℕ). spares_back k kept) (sym (add-one j))
  free-now j (Some slot) is none = let no : slot + 1 ≡ 0 = none in absurd (omega (arith, no))

  -- a free spare is passed over
  pub passes-spare : (now : KeptState n) (j : ℕ) (values : List ℕ) → now ≡ spares_back j kept → values ≡ spare_values (slice_get kept.table.replaced j) → slice_index values 0 ≡ 0
      → now ≡ spares_back (j + 1) kept
  passes-spare now j values is read none =
      is ∙ free-now j (slice_get kept.table.replaced j) refl (subst (λ (xs : List ℕ). slice_index xs 0 ≡ 0) read none)

  -- with all spares read back, only the mark is left
  pub spares-all : spares_back kept.shape.spares kept ≡ mark_back kept
  spares-all =
      ap (λ (xs : List ℕ). record { shape = kept.shape; entries = kept.entries; table = record { slots = kept.table.slots; spares = kept.table.spares; replaced = xs }; regions = kept.regions; exhausted = false })
      (take-all kept.table.replaced kept.shape.spares (omega (arith, range.table.within, range.spares)))

  -- The mark

  mark-is : (b : Bool) → kept.exhausted ≡ b → slice_index (mark_values b) 0 ≢ 0 → kept.exhausted ≡ true
  mark-is false is some = absurd (some refl)
  mark-is true is some = is

  no-mark : (b : Bool) → kept.exhausted ≡ b → slice_index (mark_values b) 0 ≡ 0 → kept.exhausted ≡ false
  no-mark false is none = is
  no-mark true is none = let no : 1 ≡ 0 = none in absurd (omega (arith, no))

  -- a mark that stood is set, when all spares are used
  pub restores-mark : (now : KeptState n) (values : List ℕ) → now ≡ mark_back kept → values ≡ mark_values kept.exhausted → slice_index values 0 ≢ 0
      → (used_by now.table ≡ now.shape.spares) × (exhausted_kept now ≡ kept)
  restores-mark now values is read some =
      let mark : kept.exhausted ≡ true = mark-is kept.exhausted refl (subst (λ (xs : List ℕ). slice_index xs 0 ≢ 0) read some) in
      let used : used_by kept.table ≡ kept.shape.spares = range.all_used mark ∙ range.spares in
      rw is (used, ap (λ (b : Bool). record { shape = kept.shape; entries = kept.entries; table = kept.table; regions = kept.regions; exhausted = b }) (sym mark))

  -- and where none stood all is read back
  pub passes-mark : (now : KeptState n) (values : List ℕ) → now ≡ mark_back kept → values ≡ mark_values kept.exhausted → slice_index values 0 ≡ 0 → now ≡ kept
  passes-mark now values is read none =
      is ∙ ap (λ (b : Bool). record { shape = kept.shape; entries = kept.entries; table = kept.table; regions = kept.regions; exhausted = b })
      (sym (no-mark kept.exhausted refl (subst (λ (xs : List ℕ). slice_index xs 0 ≡ 0) read none)))
