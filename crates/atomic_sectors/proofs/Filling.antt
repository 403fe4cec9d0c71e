-- A block that is written line by line, and a sum of blocks.
use Rattle.std.proofs.Common.{◌≡◌, ℕ, ◌+◌, ◌-◌, ◌<◌, ◌≤◌, List, [], ◌∷◌, length, get_or, refl, ◌∙◌, subst, arith, inl, inr, below_more}
use Rattle.masked_bytes.specs.Masked.{all_given}
use Rattle.atomic_sectors.specs.{Lines.{Write, stand}, Sectors.{KeepsOthers, IsMapped, total, block_of}, declared.layout.Layout.Layout}
use Rattle.atomic_sectors.proofs.Standing.{stand-other, stand-whole}

module _ (n first count : ℕ) (old : List Write) where
  pub keeps_none : KeepsOthers n first count old old
  keeps_none line apart = refl

  pub keeps_more : (w : Write) (mid : List Write) → first ≤ w.line → w.line < first + count → KeepsOthers n first count old mid → KeepsOthers n first count old (w ∷ mid)
  keeps_more w mid from to kept line (inl lower) = stand-other n w mid line (λ same. absurd (omega (arith, same))) ∙ kept line (inl lower)
  keeps_more w mid from to kept line (inr higher) = stand-other n w mid line (λ same. absurd (omega (arith, same))) ∙ kept line (inr higher)

module _ (n first : ℕ) (lines : List (List ℕ)) where
  -- one line more stands
  pub stand_more : (i : ℕ) (w : Write) (mid : List Write) → w.line ≡ first + i → w.given ≡ all_given n → length w.bytes ≡ n → w.bytes ≡ get_or lines i []
      → ((j : ℕ) → j < i → stand n mid (first + j) ≡ get_or lines j []) → (j : ℕ) → j < i + 1 → stand n (w ∷ mid) (first + j) ≡ get_or lines j []
  stand_more i w mid line given long is below =
      below_more _ _ (λ j h. stand-other n w mid (first + j) (λ same. absurd (omega (arith, same, line, h))) ∙ below j h)
      (stand-whole n w mid (first + i) line given long ∙ is)

-- the free block's number is what is missing
module _ (n : ℕ) (layout : Layout) (lines : ℕ → List ℕ) where
  pub is_free : (all used : ℕ) → ((free : ℕ) × IsMapped n layout lines free) → all ≡ total layout.sectors (λ block. block) → used ≡ total layout.sectors (block_of n layout lines)
      → IsMapped n layout lines (all + layout.sectors - used)
  is_free all used whole all_is used_is =
      let same : whole.0 ≡ all + layout.sectors - used = omega (arith, whole.1.all, all_is, used_is) in
      subst (λ free. IsMapped n layout lines free) same whole.1
