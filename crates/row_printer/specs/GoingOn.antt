-- A printer goes on where nothing more is told, and as far as two that follow each other: what the code of its trait cites.
use Rattle.std.proofs.Common.{◌≡◌, ℕ, ◌||◌, Bool, true, false, List, [], ◌∷◌, ◌++◌, Option, append_assoc, refl, ap, sym, ◌∙◌}
use Rattle.std.proofs.lemmas.List.{append-nil}
use Rattle.result_rows.specs.declared.Outcome.{Outcome}
use Rattle.row_printer.specs.{Printing.{Printing, PrintsOn}, Telling.{became, some_told}, declared.told.Told.TheVariants.Became}

became-more : {n : ℕ} (xs ys : List (ℕ × Outcome n)) → became (xs ++ ys) ≡ became xs ++ became ys
became-more [] ys = refl
became-more (x ∷ xs) ys = ap (λ t. Became x.0 x.1 ∷ t) (became-more xs ys)

-- an outcome is among two lists where it is among one of them
heard-more : {n : ℕ} (heard : Bool) (xs ys : List (ℕ × Outcome n)) → ((heard || some_told xs) || some_told ys) ≡ (heard || some_told (xs ++ ys))
heard-more true xs ys = refl
heard-more false [] ys = refl
heard-more false (x ∷ xs) ys = refl

heard-none : (heard : Bool) → heard ≡ (heard || false)
heard-none true = refl
heard-none false = refl

module _ {n : ℕ} {S : Type 0} (written : S → Option (List ℕ)) (faults : S → ℕ) where
  pub stands-on : (one : Printing n S) → PrintsOn written faults one one
  stands-on one = record { added = []; told = sym (append-nil one.told); snapshots = refl; rows = refl; prints = refl; heard = heard-none one.heard; printing = λ before first h. h }

  pub follows-on : (one two three : Printing n S) → PrintsOn written faults one two → PrintsOn written faults two three → PrintsOn written faults one three
  follows-on one two three a b = record {
    added = a.added ++ b.added;
    told = b.told ∙ ap (λ t. t ++ became b.added) a.told ∙ append_assoc one.told (became a.added) (became b.added) ∙ ap (λ t. one.told ++ t) (sym (became-more a.added b.added));
    snapshots = b.snapshots ∙ a.snapshots;
    rows = b.rows ∙ a.rows;
    prints = b.prints ∙ a.prints;
    heard = b.heard ∙ ap (λ h. h || some_told b.added) a.heard ∙ heard-more one.heard a.added b.added;
    printing = λ before first h. b.printing before first (a.printing before first h);
  }
