-- What stands in a line after one more write.
use Rattle.std.proofs.Common.{◌≡◌, ◌≢◌, ℕ, List, [], ◌∷◌, length, ◌∙◌, ap, inl, inr}
use Rattle.std.proofs.{lemmas.Bool.{cases_eq, eq-eqb, ne_eqb, cond-true, cond-false}, lemmas.List.length-replicate}
use Rattle.masked_bytes.{specs.Masked.{laid, all_given}, proofs.Layering.{length-laid, laid-all_given}}
use Rattle.atomic_sectors.specs.Lines.{Write, stand}

module _ (n : ℕ) where
  -- a write of another line
  pub stand-other : (w : Write) (before : List Write) (line : ℕ) → w.line ≢ line → stand n (w ∷ before) line ≡ stand n before line
  stand-other w before line other = cond-false _ _ _ (ne_eqb w.line line other)

  -- a write of this one
  pub stand-same : (w : Write) (before : List Write) (line : ℕ) → w.line ≡ line → stand n (w ∷ before) line ≡ laid w.bytes w.given (stand n before line)
  stand-same w before line same = cond-true _ _ _ (eq-eqb w.line line same)

  pub length-stand : (writes : List Write) (line : ℕ) → length (stand n writes line) ≡ n
  length-stand [] line = length-replicate n 0
  length-stand (w ∷ before) line = elim (cases_eq w.line line) [
    | inl same ↦ ap length (stand-same w before line same) ∙ length-laid w.bytes w.given (stand n before line) ∙ length-stand before line
    | inr other ↦ ap length (stand-other w before line other) ∙ length-stand before line
  ]

  -- a write of a whole line
  pub stand-whole : (w : Write) (before : List Write) (line : ℕ) → w.line ≡ line → w.given ≡ all_given n → length w.bytes ≡ n → stand n (w ∷ before) line ≡ w.bytes
  stand-whole w before line same given long =
      stand-same w before line same ∙ ap (λ g. laid w.bytes g (stand n before line)) given
      ∙ laid-all_given n w.bytes (stand n before line) long (length-stand before line)
