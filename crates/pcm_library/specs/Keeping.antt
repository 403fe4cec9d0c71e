-- What contracts see of a keeper of outcomes.
use Rattle.std.proofs.Common.{refl, ◌∙◌}
use Rattle.std.specs.Prelude.{◌≡◌, ℕ, ◌+◌, ◌-◌, ◌≤◌, List, [], ◌∷◌, ◌++◌, length, Option, None}
use Rattle.result_rows.specs.declared.Outcome.{Outcome}
use Rattle.row_printer.specs.{Printing.{Printing, PrintsOn}, Telling.{outcomes_in, TellsOnce}, declared.told.Told.Told}
use Rattle.row_printer.specs.GoingOn as on
use Rattle.pcm_library.specs.declared.keeper.KeptOutcome.{KeptOutcome}

-- the outcomes that were taken and those that wait, in order, and how many have room from the beginning
pub record Waiting (n : ℕ) : Type 0 where
  pub taken : List (KeptOutcome n)
  pub waiting : List (KeptOutcome n)
  pub room : ℕ

-- an outcome that is kept
abbrev pub kept_of : {n : ℕ} → ℕ → Outcome n → KeptOutcome n
kept_of row outcome = record { row = row; outcome = outcome }

-- outcomes, each with its row
abbrev pub kept_pairs : {n : ℕ} → List (KeptOutcome n) → List (ℕ × Outcome n)
kept_pairs [] = []
kept_pairs (kept ∷ more) = (kept.row, kept.outcome) ∷ kept_pairs more

-- what was told is what was taken and behind it what waits
abbrev pub IsToldTo : {n : ℕ} → List (Told n) → Waiting n → Type 0
IsToldTo told sink = outcomes_in told ≡ kept_pairs sink.taken ++ kept_pairs sink.waiting

-- lines are short; each row was told once, but for those that are open, for each of which there is room; and what was told was taken or waits
pub record IsKept {n : ℕ} (capacity open_rows rows : ℕ) (told : List (Told n)) (sink : Waiting n) : Type 0 where
  pub few : n ≤ 128
  pub once : TellsOnce rows (outcomes_in told)
  pub counted : length (outcomes_in told) + open_rows ≡ rows
  pub fits : length sink.waiting + open_rows ≤ capacity
  pub least : sink.room ≤ capacity
  pub whole : IsToldTo told sink

-- nothing is written where outcomes are kept, and no write fails
abbrev pub unwritten : {n : ℕ} → Waiting n → Option (List ℕ)
unwritten sink = None

abbrev pub unfailing : {n : ℕ} → Waiting n → ℕ
unfailing sink = 0

module _ {n : ℕ} where
  -- how many rows have no outcome
  abbrev pub open_in : Printing n (Waiting n) → ℕ
  open_in kept = kept.rows - length (outcomes_in kept.told)

  -- one became the other by outcomes that it was told; none was taken
  pub record KeepsOn (old new : Printing n (Waiting n)) : Type 0 where
    pub prints : PrintsOn unwritten unfailing old new
    pub taken : new.sink.taken ≡ old.sink.taken
    pub room : new.sink.room ≡ old.sink.room

  pub stands-on : (one : Printing n (Waiting n)) → KeepsOn one one
  stands-on one = record { prints = on.stands-on unwritten unfailing one; taken = refl; room = refl }

  pub follows-on : (one two three : Printing n (Waiting n)) → KeepsOn one two → KeepsOn two three → KeepsOn one three
  follows-on one two three a b = record { prints = on.follows-on unwritten unfailing one two three a.prints b.prints; taken = b.taken ∙ a.taken; room = b.room ∙ a.room }
