-- What telling one line more adds.
use Rattle.std.proofs.Common.{◌≡◌, ℕ, ◌||◌, Bool, true, false, List, [], ◌∷◌, ◌++◌, length, append_assoc, refl, ap, sym, ◌∙◌}
use Rattle.std.proofs.lemmas.List.{append-nil}
use Rattle.result_rows.{specs.Table.with_outcome, specs.declared.Outcome.Outcome, proofs.TableLemmas.length-with_outcome}
use Rattle.row_printer.specs.{Snapshots.{snapshot_line, snapshots_text}, Telling.{told_line, told_text, outcomes_in, recorded}, declared.snapshot.Snapshot.Snapshot}
use Rattle.row_printer.specs.{declared.told.Told.Told, declared.told.Told.TheVariants.Became}

-- the text of snapshots has the last line at the end
pub snapshots_text-more : (snapshots : List Snapshot) (one : Snapshot) → snapshots_text (snapshots ++ one ∷ []) ≡ snapshots_text snapshots ++ snapshot_line one
snapshots_text-more [] one = append-nil (snapshot_line one)
snapshots_text-more (first ∷ rest) one =
    ap (λ (text : List ℕ). snapshot_line first ++ text) (snapshots_text-more rest one)
    ∙ sym (append_assoc (snapshot_line first) (snapshots_text rest) (snapshot_line one))

module _ {n : ℕ} where
  -- the text has its line at the end
  pub told_text-more : (told : List (Told n)) (line : Told n) → told_text (told ++ line ∷ []) ≡ told_text told ++ told_line line
  told_text-more [] line = append-nil (told_line line)
  told_text-more (one ∷ told) line =
      ap (λ (rest : List ℕ). told_line one ++ rest) (told_text-more told line)
      ∙ sym (append_assoc (told_line one) (told_text told) (told_line line))

  -- the outcomes have its own, if it is one
  pub outcomes-more : (told : List (Told n)) (row : ℕ) (outcome : Outcome n) → outcomes_in (told ++ Became row outcome ∷ []) ≡ outcomes_in told ++ (row, outcome) ∷ []
  outcomes-more [] row outcome = refl
  outcomes-more (Became at one ∷ told) row outcome = ap (λ (rest : List (ℕ × Outcome n)). (at, one) ∷ rest) (outcomes-more told row outcome)
  outcomes-more (_ ∷ told) row outcome = outcomes-more told row outcome

  -- and none more where they tell none
  pub outcomes-same : (told lines : List (Told n)) → outcomes_in lines ≡ [] → outcomes_in (told ++ lines) ≡ outcomes_in told
  outcomes-same [] lines none = none
  outcomes-same (Became at one ∷ told) lines none = ap (λ (rest : List (ℕ × Outcome n)). (at, one) ∷ rest) (outcomes-same told lines none)
  outcomes-same (_ ∷ told) lines none = outcomes-same told lines none

  -- the table has its outcome
  pub recorded-more : (outcomes : List (ℕ × Outcome n)) (table : List (Outcome n)) (row : ℕ) (outcome : Outcome n)
      → recorded (outcomes ++ (row, outcome) ∷ []) table ≡ with_outcome (recorded outcomes table) row outcome
  recorded-more [] table row outcome = refl
  recorded-more (one ∷ outcomes) table row outcome = recorded-more outcomes (with_outcome table one.0 one.1) row outcome

  -- and as many rows as before
  pub length-recorded : (outcomes : List (ℕ × Outcome n)) (table : List (Outcome n)) → length (recorded outcomes table) ≡ length table
  length-recorded [] table = refl
  length-recorded (one ∷ outcomes) table = length-recorded outcomes (with_outcome table one.0 one.1) ∙ length-with_outcome table one.0 one.1

-- an outcome that is told is heard, whatever was heard before
pub heard-one : (heard : Bool) → true ≡ (heard || true)
heard-one true = refl
heard-one false = refl
