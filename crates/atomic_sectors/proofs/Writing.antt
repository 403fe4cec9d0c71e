-- That a write of a sector is whole or not made at each moment.
use Rattle.std.proofs.Common.{◌≡◌, ℕ, ◌+◌, ◌*◌, ◌<◌, List, ◌∷◌, length, subst, inl, inr}
use Rattle.atomic_sectors.specs.{Lines.{Write, stand}, Moments.AtEachMoment, Sectors.{word_write, Fits, block_of, IsMapped, KeepsOthers, StandFrom, IsBeforeOrAfter}}
use Rattle.atomic_sectors.{specs.declared.layout.Layout.Layout, proofs.Making.{so_too, at_end}, proofs.Mapping.{have-kept, mapped-kept, have-written, mapped-written}}

module _ (n : ℕ) (layout : Layout) (lines : ℕ) (fits : Fits n layout lines) (old : List Write) (free : ℕ) (mapped : IsMapped n layout (stand n old) free) where
  -- while the free block is written
  pub before : (sector : ℕ) (from : List (List ℕ)) (mid : List Write) → KeepsOthers n (free * layout.block) layout.block old mid
      → IsBeforeOrAfter n layout sector from old mid
  before sector from mid kept = record {
    whole = (free, mapped-kept n layout lines fits old free mapped mid kept);
    either = inl (have-kept n layout lines fits old free mapped mid kept);
  }

  -- behind the write of the word
  pub behind : (sector : ℕ) (from : List (List ℕ)) (mid : List Write) → sector < layout.sectors → length from ≡ layout.block
      → KeepsOthers n (free * layout.block) layout.block old mid → StandFrom n (free * layout.block) from mid
      → IsBeforeOrAfter n layout sector from old (word_write n layout sector (free + 1) ∷ mid)
  behind sector from mid is_one long kept stands = record {
    whole = (block_of n layout (stand n old) sector, mapped-written n layout lines fits old free mapped mid kept sector is_one);
    either = inr (have-written n layout lines fits old free mapped mid kept sector is_one from long stands);
  }

  module _ (from_old : List Write) (count : ℕ) (mid : List Write) (same : from_old ≡ old) (long : count ≡ layout.block)
      (m : AtEachMoment (KeepsOthers n (free * layout.block) count from_old) from_old mid) where
    filled : AtEachMoment (KeepsOthers n (free * layout.block) layout.block old) old mid
    filled =
        subst (λ k. AtEachMoment (KeepsOthers n (free * layout.block) k old) old mid) long
        (subst (λ (ws : List Write). AtEachMoment (KeepsOthers n (free * layout.block) count ws) ws mid) same m)

    pub kept : KeepsOthers n (free * layout.block) layout.block old mid
    kept = at_end (KeepsOthers n (free * layout.block) layout.block old) old mid filled

    -- at each moment up to the end of a fill
    pub filling : (sector : ℕ) (from : List (List ℕ)) → AtEachMoment (IsBeforeOrAfter n layout sector from old) old mid
    filling sector from = so_too (KeepsOthers n (free * layout.block) layout.block old) (IsBeforeOrAfter n layout sector from old) old mid (before sector from) filled
