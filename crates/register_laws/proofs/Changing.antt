-- That an event changes one item, and that its change then stands for it.
use Rattle.std.proofs.Common.{◌≡◌, ◌≢◌, ℕ, ◌+◌, ◌-◌, ◌/◌, ◌<◌, nat_lt, Bool, true, false, List, [], ◌∷◌, ◌++◌, zero, suc, length, slice_get, slice_set, Option, Some, None, refl, ap, arith, get_or-set_other}
use Rattle.std.{specs.Prelude.{if◌then◌else◌}, proofs.lemmas.Bool.ltb-false}
use Rattle.masked_bytes.specs.Entries.{head_line}
use Rattle.region_regs.specs.Region.{RegionState, after_store, after_move}
use Rattle.spare_pool.specs.Table.{used_by}
use Rattle.power_recovery.specs.{Events.{with_regions, regions_moved, retired_kept, exhausted_kept}, Kept.{KeptState, no_region, region_at, due_region}}
use Rattle.power_recovery.proofs.Bundle.{head_region-exists, due_region-Some}
use Rattle.register_laws.specs.{Changing.{ChangesItem, ChangesLaw}, Items.{region_values, spare_values, mark_values, items_of, item_values}}

-- a spare that is given is behind those that were
get-other : (xs : List ℕ) (x k : ℕ) → k ≢ length xs → slice_get (xs ++ x ∷ []) k ≡ slice_get xs k
get-other [] x zero ne = absurd (ne refl)
get-other [] x (suc k) ne = refl
get-other (y ∷ xs) x zero ne = refl
get-other (y ∷ xs) x (suc k) ne = get-other xs x k (λ same. ne (ap (λ i. suc i) same))

module _ {n : ℕ} where
  -- one region changes
  region-changes : (kept : KeptState n) (at : ℕ) (new : RegionState) → at < kept.shape.regions
      → ChangesItem at kept (with_regions kept (slice_set kept.regions at new))
  region-changes kept at new exists = record {
    exists = omega (arith, exists);
    shape = refl;
    others = λ other below ne.
        ap (λ (r : RegionState). if nat_lt other kept.shape.regions then region_values r
        else (if nat_lt other (kept.shape.regions + kept.shape.spares) then spare_values (slice_get kept.table.replaced (other - kept.shape.regions))
        else mark_values kept.exhausted)) (get_or-set_other kept.regions at other new no_region ne);
  }

  moved-changes : (kept : KeptState n) (due : Option ℕ) (region : ℕ) → due ≡ Some region → region < kept.shape.regions
      → ChangesItem region kept (with_regions kept (regions_moved due kept))
  moved-changes kept None region is exists = cc
  moved-changes kept (Some at) region is exists =
      let same : at ≡ region = cc in
      rw same (region-changes kept region (after_move (region_at kept region)) exists)

  retired-other : (kept : KeptState n) (slot other : ℕ) (first : Bool) → nat_lt other kept.shape.regions ≡ first → other ≢ kept.shape.regions + used_by kept.table
      → item_values (retired_kept slot kept) other ≡ item_values kept other
  retired-other kept slot other true is ne = rw is refl
  retired-other kept slot other false is ne =
      let low = ltb-false other kept.shape.regions is in
      let apart : other - kept.shape.regions ≢ used_by kept.table = λ same. ne (omega (arith, same, low)) in
      rw (is, get-other kept.table.replaced slot (other - kept.shape.regions) apart) refl

  exhausted-other : (kept : KeptState n) (other : ℕ) (second : Bool) → nat_lt other (kept.shape.regions + kept.shape.spares) ≡ second → other < items_of kept.shape
      → other ≢ kept.shape.regions + kept.shape.spares → item_values (exhausted_kept kept) other ≡ item_values kept other
  exhausted-other kept other true is below ne = rw is refl
  exhausted-other kept other false is below ne = let low = ltb-false other (kept.shape.regions + kept.shape.spares) is in absurd (ne (omega (arith, low, below)))

pub changes_law : ChangesLaw
changes_law n kept range = record {
  stored = λ some.
      let change = region-changes kept (head_line kept.entries / kept.shape.lines) (after_store (region_at kept (head_line kept.entries / kept.shape.lines))) (head_region-exists kept range some) in
      record { exists = change.exists; shape = refl; others = change.others };
  moved = λ region is. moved-changes kept (due_region kept) region is (due_region-Some kept region range is).0;
  retired = λ slot left. record {
    exists = omega (arith, left);
    shape = refl;
    others = λ other below ne. retired-other kept slot other (nat_lt other kept.shape.regions) refl ne;
  };
  exhausted = record {
    exists = omega arith;
    shape = refl;
    others = λ other below ne. exhausted-other kept other (nat_lt other (kept.shape.regions + kept.shape.spares)) refl below ne;
  };
}
