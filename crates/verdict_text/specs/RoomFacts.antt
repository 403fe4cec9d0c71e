-- What a bank holds that holds more than it may.
use Rattle.std.specs.Prelude.{ℕ, List, ◌++◌, codes, decimal, Option, Some, None}
use Rattle.trace_reader.specs.declared.event.Event.{Event}
use Rattle.result_rows.specs.declared.Outcome.{Outcome}
use Rattle.row_rules.specs.declared.Rules.{Rules}
use Rattle.check_telling.specs.declared.facts.RowAt.{RowAt}
use Rattle.clause_telling.specs.declared.room.Crowd.{Crowd}
use Rattle.verdict_text.specs.RowWords.{row_line, stand_on, waits_on}

module _ {n : ℕ} (events : List (Event n)) (outcomes : List (Outcome n)) where
  -- the first write that finds others of its line there with which it may not stand
  abbrev pub newer_on : List ℕ → Option RowAt → List ℕ
  newer_on text None = text
  newer_on text (Some newer) =
      row_line text (codes "         newer  ") events outcomes (Some newer.row)
      ++ codes "         why    beside it only one write of its line may stand, in flight as it came\n"

  -- the bank, the writes that stand there, and the reads that wait
  abbrev pub crowd_on : List ℕ → Rules → Crowd n → List ℕ
  crowd_on text rules crowd =
      newer_on (waits_on (stand_on (text ++ codes "         bank   " ++ decimal crowd.bank ++ codes "\n")
      rules.writes crowd.standing.items) rules.reads crowd.waiting.items) crowd.newer
