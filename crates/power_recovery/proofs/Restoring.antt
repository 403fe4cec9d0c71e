-- That stripping and restoring leave a bundle in range.
use Rattle.std.proofs.Common.{◌≡◌, ℕ, ◌+◌, ◌<◌, inl, inr, List, length, get_or, replicate, slice_set, sym, ◌∙◌, arith, get_or-set_other, ext_get_or}
use Rattle.std.proofs.{lemmas.Bool.cases_eq, lemmas.Grind.get_or-set_at, lemmas.List.{length-set, length-replicate, get_or-replicate}}
use Rattle.region_regs.specs.Region.{RegionState}
use Rattle.power_recovery.specs.Kept.{no_region}

-- one region more is as at first
pub first-set : (rs : List RegionState) (i : ℕ) (r : RegionState) → i < length rs → ((k : ℕ) → k < i → get_or rs k no_region ≡ r)
    → (length (slice_set rs i r) ≡ length rs) × ((k : ℕ) → k < i + 1 → get_or (slice_set rs i r) k no_region ≡ r)
first-set rs i r below each = (length-set rs i r, by)
  where
    by : (k : ℕ) → k < i + 1 → get_or (slice_set rs i r) k no_region ≡ r
    by k few =
        elim (cases_eq k i) [
          | inl same ↦ get_or-set_at rs i k r no_region same below
          | inr ne ↦ get_or-set_other rs i k r no_region ne ∙ each k (omega (arith, few, ne))
        ]

-- and in the end all are
pub all-first : (rs : List RegionState) (count : ℕ) (r : RegionState) → length rs ≡ count → ((k : ℕ) → k < count → get_or rs k no_region ≡ r) → rs ≡ replicate count r
all-first rs count r long each =
    ext_get_or no_region rs (replicate count r) (long ∙ sym (length-replicate count r))
    (λ k below. let few : k < count = omega (arith, below, long) in each k few ∙ sym (get_or-replicate count k r no_region few))
