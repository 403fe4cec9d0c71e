-- The values of each item.
use Rattle.std.proofs.Common.{◌≡◌, ℕ, ◌+◌, ◌-◌, ◌<◌, nat_lt, Bool, true, false, slice_get, Option, Some, None, refl, sym, subst, arith, inl, inr}
use Rattle.std.{specs.Prelude.{◌⊎◌, slice_index}, proofs.lemmas.Bool.{lt-ltb, le-ltb, ltb-true, ltb-false}, proofs.lemmas.Option.{get_or_from_slice_get, slice_get_within}}
use Rattle.region_regs.specs.Region.{RegionState}
use Rattle.spare_pool.specs.Table.{Table, IsTable}
use Rattle.bank_shape.specs.declared.BankShape.{BankShape}
use Rattle.power_recovery.specs.Kept.{KeptState, IsKept, IsRegionOf, region_at}
use Rattle.register_laws.{specs.Items.{region_values, spare_values, mark_values, items_of, item_values}, proofs.Numbers.AreShort}

module _ {n : ℕ} (kept : KeptState n) where
  -- of a region
  pub item-region : (item : ℕ) → item < kept.shape.regions → item_values kept item ≡ region_values (region_at kept item)
  item-region item below = rw (lt-ltb item kept.shape.regions below) refl

  -- of a spare
  pub item-spare : (spare : ℕ) → spare < kept.shape.spares → item_values kept (kept.shape.regions + spare) ≡ spare_values (slice_get kept.table.replaced spare)
  item-spare spare below =
      let back : kept.shape.regions + spare - kept.shape.regions ≡ spare = omega arith in
      rw (le-ltb (kept.shape.regions + spare) kept.shape.regions (omega arith), lt-ltb (kept.shape.regions + spare) (kept.shape.regions + kept.shape.spares) (omega (arith, below)), back) refl

  -- of the mark
  pub item-mark : item_values kept (kept.shape.regions + kept.shape.spares) ≡ mark_values kept.exhausted
  item-mark =
      rw (le-ltb (kept.shape.regions + kept.shape.spares) kept.shape.regions (omega arith), le-ltb (kept.shape.regions + kept.shape.spares) (kept.shape.regions + kept.shape.spares) (omega arith)) refl

-- an item is a region, a spare, or the mark
abbrev pub IsItem : BankShape → ℕ → Type 0
IsItem shape item = (item < shape.regions) ⊎ (((spare : ℕ) × (spare < shape.spares) × (item ≡ shape.regions + spare)) ⊎ (item ≡ shape.regions + shape.spares))

pub item-is : (shape : BankShape) (item : ℕ) → item < items_of shape → IsItem shape item
item-is shape item below = by (nat_lt item shape.regions) (nat_lt item (shape.regions + shape.spares)) refl refl
  where
    by : (first second : Bool) → nat_lt item shape.regions ≡ first → nat_lt item (shape.regions + shape.spares) ≡ second → IsItem shape item
    by true second is is_second = inl (ltb-true item shape.regions is)
    by false true is is_second =
        let low = ltb-false item shape.regions is in
        let high = ltb-true item (shape.regions + shape.spares) is_second in
        inr (inl (item - shape.regions, omega (arith, low, high), omega (arith, low)))
    by false false is is_second = let low = ltb-false item (shape.regions + shape.spares) is_second in inr (inr (omega (arith, low, below)))

-- the numbers of each item are short

region-short : (shape : BankShape) (region : RegionState) → IsRegionOf shape region → AreShort (region_values region)
region-short shape region own =
    let range = own.in_range in
    record {
      first = region.rotation.start;
      second = region.rotation.lines - region.rotation.gap;
      third = region.counter;
      is = refl;
      few_first = omega (arith, range.rotates.start_below, range.rotates.few_lines);
      few_second = omega (arith, range.rotates.few_lines);
      few_third = omega (arith, range.counted, range.few_writes);
    }

spare-short : (table : Table) (spare : ℕ) → IsTable table → AreShort (spare_values (slice_get table.replaced spare))
spare-short table spare range = by (slice_get table.replaced spare) refl
  where
    by : (o : Option ℕ) → slice_get table.replaced spare ≡ o → AreShort (spare_values o)
    by None is = record { first = 0; second = 0; third = 0; is = refl; few_first = omega arith; few_second = omega arith; few_third = omega arith }
    by (Some slot) is =
        let below : slice_index table.replaced spare < table.slots = range.known spare (slice_get_within table.replaced spare slot is) in
        let same : slice_index table.replaced spare ≡ slot = get_or_from_slice_get table.replaced spare slot _ is in
        record { first = slot + 1; second = 0; third = 0; is = refl; few_first = omega (arith, below, same, range.fits); few_second = omega arith; few_third = omega arith }

mark-short : (mark : Bool) → AreShort (mark_values mark)
mark-short false = record { first = 0; second = 0; third = 0; is = refl; few_first = omega arith; few_second = omega arith; few_third = omega arith }
mark-short true = record { first = 1; second = 0; third = 0; is = refl; few_first = omega arith; few_second = omega arith; few_third = omega arith }

pub item-short : {n : ℕ} (kept : KeptState n) (item : ℕ) → IsKept kept → item < items_of kept.shape → AreShort (item_values kept item)
item-short kept item range below =
    elim (item-is kept.shape item below) [
      | inl region ↦ subst AreShort (sym (item-region kept item region)) (region-short kept.shape (region_at kept item) (range.regions item region))
      | inr (inl (spare, few, is)) ↦ rw is (subst AreShort (sym (item-spare kept spare few)) (spare-short kept.table spare range.table))
      | inr (inr is) ↦ rw is (subst AreShort (sym (item-mark kept)) (mark-short kept.exhausted))
    ]
