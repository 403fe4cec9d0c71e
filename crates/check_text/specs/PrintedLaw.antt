-- What a run prints of its results is read as these.
use Rattle.std.specs.Prelude.{ℕ, List}
use Rattle.trace_reader.specs.declared.event.Event.{Event}
use Rattle.result_rows.specs.declared.Outcome.{Outcome}
use Rattle.check_reader.specs.ResultRows.{AreResults, EachMayStand}
use Rattle.run_text.specs.ResultText.{results_text}
use Rattle.check_text.specs.Checked.{asks_in}

-- the text that a run prints of events and outcomes that their rows may have is read as these outcomes
abbrev pub PrintedLaw : Type 0
PrintedLaw =
    (n : ℕ) (events : List (Event n)) (outcomes : List (Outcome n))
    → EachMayStand (asks_in events) outcomes → AreResults (asks_in events) (results_text events outcomes) outcomes
