-- What the mark of a bank that a query tells says of rows that come later.
use Rattle.std.specs.Prelude.{◌≡◌, ◌≢◌, ℕ, ◌<◌, Bool, IsFalse, IsTrue, List, [], ◌∷◌, All, length}
use Rattle.cell_rows.specs.Device.{ArrayState}
use Rattle.result_rows.specs.{declared.Outcome.Outcome, declared.Outcome.TheVariants.Unset}
use Rattle.row_rules.specs.Answers.{accepts, is_stored, is_worn}
use Rattle.bank_model.specs.Timing.{TimedEvent}
use Rattle.bank_timing.specs.Extending.{outcome_in}
use Rattle.module_shape.specs.{Limits.IsShape, declared.raw.RawShape.RawShape}
use Rattle.pcm_module.specs.State.{ModuleState}
use Rattle.row_printer.specs.{Printing.table_of, declared.told.Mark.TheVariants.{Exhausted, Going, Halted}, declared.told.Told.Told}
use Rattle.row_printer.specs.declared.told.Told.TheVariants.{Became, Bank, Looked, Peeked, Settled}
use Rattle.trace_stream.specs.{Asked.events_in, declared.asked.Asked.Asked}
use Rattle.row_stream.specs.{Ending.HasEnded, Serving.{HasServed, TellsAlong, lines_of}}
use Rattle.settle_laws.specs.Turns.{is_in_bank}

-- behind so many rows of these, of which this was known, a line: a bank that it marks stores nothing any more, neither what has no outcome yet nor what comes later. Of one that it tells
-- as exhausted no write that comes later is accepted, and of one that it tells as halted none is refused for wear
abbrev pub IsTrueMark : {n : ℕ} (raw : RawShape) (seed : ℕ) (whole : List (Asked n)) (by_then in_the_end : ℕ → Outcome n) → ℕ → Told n → Type 0
IsTrueMark raw seed whole by_then in_the_end rows (Bank tick backlog) =
    backlog.bank < raw.banks
    → (backlog.mark ≢ Going → (number : ℕ) → IsTrue (is_in_bank raw seed whole backlog.bank number) → by_then number ≡ Unset → IsFalse (is_stored (in_the_end number)))
    × (backlog.mark ≡ Exhausted → (number : ℕ) → rows < number → IsTrue (is_in_bank raw seed whole backlog.bank number) → IsFalse (accepts (in_the_end number)))
    × (backlog.mark ≡ Halted → (number : ℕ) → rows < number → IsTrue (is_in_bank raw seed whole backlog.bank number) → IsFalse (is_worn (in_the_end number)))
IsTrueMark raw seed whole by_then in_the_end rows (Became row outcome) = Unit {0}
IsTrueMark raw seed whole by_then in_the_end rows (Looked tick wear) = Unit {0}
IsTrueMark raw seed whole by_then in_the_end rows (Peeked tick newest) = Unit {0}
IsTrueMark raw seed whole by_then in_the_end rows (Settled tick) = Unit {0}

-- so it is of each line that answered one of these rows, which were told so
abbrev pub AreMarksTrue : {n m : ℕ} (e : ℕ) (raw : RawShape) (seed : ℕ) (whole : List (Asked n)) (in_the_end : ℕ → Outcome n) (asked : List (Asked n)) (h : ℕ → List (TimedEvent n m)) (told : List (Told n))
    → TellsAlong e raw seed asked h told → Type 0
AreMarksTrue e raw seed whole in_the_end [] h told along = Unit {0}
AreMarksTrue e raw seed whole in_the_end (row ∷ before) h told along =
    AreMarksTrue e raw seed whole in_the_end before along.0 along.1 along.2
    × All (IsTrueMark raw seed whole (outcome_in (table_of (length (events_in (row ∷ before))) told)) in_the_end (length (events_in (row ∷ before)))) (lines_of row along.7.module_ along.7.array)

-- of every stream that has ended
abbrev pub EndedMarkLaw : Type 0
EndedMarkLaw =
    (n m e : ℕ) (raw : RawShape) (seed : ℕ) (off : Bool) (asked : List (Asked n)) (module_ : ModuleState n m e) (array : ArrayState n m) (places : ℕ) (told : List (Told n))
    → IsShape raw → (ended : HasEnded raw seed off asked module_ array places told)
    → AreMarksTrue e raw seed asked (outcome_in (table_of places told)) asked ended.history ended.said ended.along

-- and of every one that goes on, by what is known now
abbrev pub MarkLaw : Type 0
MarkLaw =
    (n m e : ℕ) (raw : RawShape) (seed : ℕ) (asked : List (Asked n)) (h : ℕ → List (TimedEvent n m)) (module_ : ModuleState n m e) (array : ArrayState n m) (told : List (Told n))
    → IsShape raw → (along : TellsAlong e raw seed asked h told) → HasServed raw seed (events_in asked) h module_ array (table_of (length (events_in asked)) told)
    → AreMarksTrue e raw seed asked (outcome_in (table_of (length (events_in asked)) told)) asked h told along
