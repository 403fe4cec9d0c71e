-- What `check` may be asked.
use Rattle.std.specs.Prelude.{◌≡◌, ℕ, ◌<◌, ◌≤◌, ◌^◌, List, All, length, Some}
use Rattle.trace_reader.specs.{Events.AreEventsFor, Trace.most_rows, declared.event.Event.Event}
use Rattle.result_rows.specs.{Outcomes.tick_of, declared.Outcome.Outcome}
use Rattle.row_rules.specs.declared.Rules.{Rules}
use Rattle.check_verdict.specs.Within.{AreWithin}

-- an outcome is set, and its tick has at most 15 digits
pub record IsTimed {n : ℕ} (outcome : Outcome n) : Type 0 where
  pub tick : ℕ
  pub at : tick_of outcome ≡ Some tick
  pub short : tick < 10 ^ 15

-- events of a trace over lines that these banks have, with one outcome for each, and rules of a module
pub record IsCheckable {n : ℕ} (events : List (Event n)) (outcomes : List (Outcome n)) (banks : List ℕ) (rules : Rules) : Type 0 where
  pub within : AreWithin rules
  pub lawful : AreEventsFor (length banks) 0 events
  pub few : length events ≤ most_rows
  pub rows : length outcomes ≡ length events
  pub timed : All (λ outcome. IsTimed outcome) outcomes
