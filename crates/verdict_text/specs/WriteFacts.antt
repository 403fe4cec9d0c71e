-- What breaks a clause of a write.
use Rattle.std.specs.Prelude.{ℕ, List, ◌++◌, codes, decimal, Option, Some, None}
use Rattle.trace_reader.specs.declared.event.Event.{Event}
use Rattle.result_rows.specs.declared.Outcome.{Outcome}
use Rattle.row_rules.specs.declared.Rules.{Rules}
use Rattle.check_telling.specs.{declared.Clause.Clause, declared.facts.RowAt.RowAt, declared.facts.StoreCounts.StoreCounts, declared.writes.WriteGrounds.WriteGrounds}
use Rattle.check_telling.specs.declared.Clause.TheVariants as clause
use Rattle.verdict_text.specs.{ReadFacts.{least_on, other_on, own_on}, RowWords.{row_line, stand_on}}

-- by when a write would have to be stored, with what its bank did by then
abbrev pub counts_on : List ℕ → Option StoreCounts → List ℕ
counts_on text None = text
counts_on text (Some counts) =
    text ++ codes "         latest " ++ decimal counts.latest ++ codes ": " ++ decimal counts.stores ++ codes " stored, "
    ++ decimal counts.reads ++ codes " read and " ++ decimal counts.cuts ++ codes " cuts by then\n"

module _ {n : ℕ} (events : List (Event n)) (outcomes : List (Outcome n)) where
  -- the next accepted write of a line
  abbrev pub next_on : List ℕ → Option RowAt → List ℕ
  next_on text None = text ++ codes "         next   no later write of the line is accepted\n"
  next_on text (Some next) = row_line text (codes "         next   ") events outcomes (Some next.row)

  -- a worn row
  abbrev pub worn_on : List ℕ → Option RowAt → List ℕ
  worn_on text None = text
  worn_on text (Some worn) = row_line text (codes "         first  ") events outcomes (Some worn.row)

  module _ (rules : Rules) (tick : ℕ) (w : WriteGrounds n) where
    -- what breaks a clause
    abbrev pub write_facts_on : List ℕ → Clause → Option RowAt → Option StoreCounts → List ℕ
    write_facts_on text clause.AtItsTick near counts = own_on text tick
    write_facts_on text clause.FullWhereFull near counts = stand_on text rules.writes w.standing.items
    write_facts_on text clause.FullWhereAlone near counts = stand_on text rules.writes w.standing.items
    write_facts_on text clause.MergedIntoNext near counts = next_on text w.next
    write_facts_on text clause.WornBehindWorn near counts = worn_on text w.worn_before
    write_facts_on text clause.StoredBeforeWorn near counts = worn_on (worn_on text w.worn_before) w.worn_behind
    write_facts_on text clause.NotTooEarly near counts = least_on text tick 1
    write_facts_on text clause.NotTooLate near counts = counts_on text counts
    write_facts_on text clause.Apart near counts = other_on events outcomes text near
    write_facts_on text _ near counts = text
