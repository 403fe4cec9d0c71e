-- Whether an outcome was told since a printer listens.
use Rattle.std.proofs.Common.{◌≡◌, ◌≢◌, ℕ, suc, ◌||◌, ◌<◌, Bool, true, false, List, [], ◌∷◌, ◌++◌, length, Option, Some, refl, sym, ap, ◌∙◌, arith}
use Rattle.std.{specs.Prelude.All, proofs.lemmas.List.length-append}
use Rattle.result_rows.specs.{Outcomes.tick_of, declared.Outcome.Outcome}
use Rattle.row_printer.specs.{Printing.{Printing, PrintsOn}, Telling.{became, some_told}, declared.told.Told.Told}
use Rattle.row_stream.{specs.Reaching.CameBetween, proofs.Order.ToldSo}

module _ {n : ℕ} where
  length-became : (xs : List (ℕ × Outcome n)) → length (became xs) ≡ length xs
  length-became [] = refl
  length-became (x ∷ xs) = ap suc (length-became xs)

  -- the same lines tell of an outcome
  as-told : (old : List (Told n)) (xs ys : List (ℕ × Outcome n)) → old ++ became xs ≡ old ++ became ys → some_told xs ≡ some_told ys
  as-told old xs ys same = by xs ys size
    where
      size : length xs ≡ length ys
      size =
          let both = ap length same in
          omega (arith, both, length-append old (became xs), length-append old (became ys), length-became xs, length-became ys)

      by : (xs ys : List (ℕ × Outcome n)) → length xs ≡ length ys → some_told xs ≡ some_told ys
      by [] [] s = refl
      by [] (y ∷ ys) s = absurd (omega (arith, s))
      by (x ∷ xs) [] s = absurd (omega (arith, s))
      by (x ∷ xs) (y ∷ ys) s = refl

  -- none was told where none was heard, and one where one was
  pub none-told : (outcomes : List (ℕ × Outcome n)) → some_told outcomes ≡ false → outcomes ≡ []
  none-told [] is = refl
  none-told (one ∷ outcomes) is = absurd (cc is)

  pub told-some : (outcomes : List (ℕ × Outcome n)) → some_told outcomes ≡ true → outcomes ≢ []
  told-some outcomes is none = let clash : false ≡ true = sym (ap some_told none) ∙ is in absurd (cc clash)

  -- outcomes behind others
  pub some-more : (xs ys : List (ℕ × Outcome n)) → some_told xs ≡ false → some_told ys ≡ some_told (xs ++ ys)
  some-more [] ys is = refl
  some-more (x ∷ xs) ys is = absurd (cc is)

  pub all-behind : (P : Outcome n → Type 0) (xs ys : List (ℕ × Outcome n)) → some_told xs ≡ false → All (λ one. P one.1) ys → All (λ one. P one.1) (xs ++ ys)
  all-behind P [] ys is all = all
  all-behind P (x ∷ xs) ys is all = absurd (cc is)

  -- what came at a tick came behind an earlier one
  pub at-between : (low tick : ℕ) → low < tick → (o : Outcome n) → tick_of o ≡ Some tick → CameBetween low tick o
  at-between low tick rises o is = (tick, (rises, omega arith), is)

  module _ {S : Type 0} (written : S → Option (List ℕ)) (faults : S → ℕ) (old new : Printing n S) (on : PrintsOn written faults old new) where
    -- a printer that had heard none has heard one exactly where one was told
    pub heard-told : (Are : List (ℕ × Outcome n) → Type 0) (so : ToldSo Are old.told new.told) → old.heard ≡ false → new.heard ≡ some_told so.outcomes
    heard-told Are so none =
        on.heard ∙ ap (λ (b : Bool). b || some_told on.added) none ∙ as-told old.told on.added so.outcomes (sym on.told ∙ so.told)
