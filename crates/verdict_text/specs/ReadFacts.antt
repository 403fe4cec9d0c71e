-- What breaks a clause of a read.
use Rattle.std.specs.Prelude.{ℕ, ◌+◌, ◌==◌, List, [], ◌∷◌, ◌++◌, codes, decimal, Bool, true, false, not, if◌then◌else◌, Option, Some, None, length}
use Rattle.hex.specs.Hex.{encode_lower}
use Rattle.trace_reader.specs.declared.event.Event.{Event}
use Rattle.result_rows.specs.declared.Outcome.{Outcome}
use Rattle.row_rules.specs.declared.Rules.{Rules}
use Rattle.check_telling.specs.{declared.Clause.Clause, declared.facts.RowAt.RowAt, declared.grounds.Grounds.Grounds}
use Rattle.check_telling.specs.declared.Clause.TheVariants as clause
use Rattle.verdict_text.specs.RowWords.{named_on, row_line, waits_on}

-- the tick at which a row came
abbrev pub own_on : List ℕ → ℕ → List ℕ
own_on text tick = text ++ codes "         own    tick " ++ decimal tick ++ codes "\n"

-- whether a number is another one than that before it, if there was one
abbrev pub is_new : Option ℕ → ℕ → Bool
is_new None number = true
is_new (Some last) number = not (last == number)

-- the row before which other bytes were the newest
abbrev pub stale_on : List ℕ → Option RowAt → List ℕ
stale_on text None = text
stale_on text (Some one) = text ++ codes "         stale  what is told was newest before row " ++ decimal one.row ++ codes "\n"

-- whether the queue gives every byte
abbrev pub queue_on : List ℕ → Bool → List ℕ
queue_on text true = text ++ codes "         queue  gives every byte of the line\n"
queue_on text false = text ++ codes "         queue  gives not every byte of the line\n"

-- the first tick at which a row may end
abbrev pub least_on : List ℕ → ℕ → ℕ → List ℕ
least_on text tick more = text ++ codes "         least  " ++ decimal tick ++ codes " + " ++ decimal more ++ codes "\n"

-- by when a read is read: its tick, how long its bank may be busy otherwise, and a read's time for each that waits and for itself
abbrev pub begun_on : List ℕ → ℕ → ℕ → ℕ → List ℕ
begun_on text by tick delay = text ++ codes "         bound  " ++ decimal by ++ codes ": " ++ decimal tick ++ codes " + " ++ decimal delay

abbrev pub times_on : List ℕ → ℕ → ℕ → List ℕ
times_on text waits read = text ++ codes " + (" ++ decimal waits ++ codes " + 1) * " ++ decimal read ++ codes "\n"

-- the same, and the reads that wait
abbrev pub bound_on : {n : ℕ} → List ℕ → Rules → ℕ → Grounds n → List ℕ
bound_on text rules tick g =
    waits_on (times_on (begun_on text g.by tick g.delay) (length g.waiting.items) rules.read_ticks) rules.reads g.waiting.items

module _ {n : ℕ} (events : List (Event n)) (outcomes : List (Outcome n)) where
  -- which row gave a byte and those behind it; 0 stands for none
  abbrev pub giver_on : List ℕ → ℕ → ℕ → List ℕ
  giver_on text at number =
      if number == 0 then text ++ codes "         from   byte " ++ decimal at ++ codes ": no write\n"
      else named_on (text ++ codes "         from   byte " ++ decimal at ++ codes ": ") events outcomes number ++ codes "\n"

  -- which rows gave these bytes, of which the first has this number and follows one of that row
  abbrev pub givers_on : List ℕ → ℕ → Option ℕ → List ℕ → List ℕ
  givers_on text at last [] = text
  givers_on text at last (number ∷ rest) = givers_on (if is_new last number then giver_on text at number else text) (at + 1) (Some number) rest

  -- a write that leaves the queue before the line's next store, or that the line has none there
  abbrev pub ahead_on : List ℕ → Option RowAt → List ℕ
  ahead_on text None = text ++ codes "         ahead  no write of the line stands\n"
  ahead_on text (Some ahead) = row_line text (codes "         ahead  ") events outcomes (Some ahead.row)

  -- the first cut behind a row
  abbrev pub cut_on : List ℕ → Option RowAt → List ℕ
  cut_on text None = text ++ codes "         cut    none comes behind it\n"
  cut_on text (Some cut) = row_line text (codes "         cut    ") events outcomes (Some cut.row)

  -- the row from which an action doesn't lie apart
  abbrev pub other_on : List ℕ → Option RowAt → List ℕ
  other_on text None = text
  other_on text (Some other) = row_line text (codes "         other  ") events outcomes (Some other.row)

  -- the newest bytes of a line, and which rows gave them
  abbrev pub newest_on : List ℕ → Grounds n → List ℕ
  newest_on text g = givers_on (text ++ codes "         newest " ++ encode_lower g.newest.bytes ++ codes "\n") 0 None g.newest.givers

  -- that the queue gives not every byte, nor is the line at its head
  abbrev pub forwarded_only_on : List ℕ → Rules → Grounds n → List ℕ
  forwarded_only_on text rules g = ahead_on (waits_on (queue_on text g.covered) rules.reads g.waiting.items) g.ahead

  module _ (rules : Rules) (tick : ℕ) (g : Grounds n) where
    -- what breaks a clause
    abbrev pub read_facts_on : List ℕ → Clause → Option RowAt → Option RowAt → List ℕ
    read_facts_on text clause.AtItsTick near stale = own_on text tick
    read_facts_on text clause.NewestBytes near stale = stale_on (newest_on text g) stale
    read_facts_on text clause.Forwarded near stale = queue_on text g.covered
    read_facts_on text clause.ForwardedOnly near stale = forwarded_only_on text rules g
    read_facts_on text clause.Busy near stale = waits_on text rules.reads g.waiting.items
    read_facts_on text clause.BusyOnly near stale = waits_on text rules.reads g.waiting.items
    read_facts_on text clause.NotTooEarly near stale = least_on text tick rules.read_ticks
    read_facts_on text clause.NotTooLate near stale = bound_on text rules tick g
    read_facts_on text clause.LostInTime near stale = bound_on text rules tick g
    read_facts_on text clause.ReadBeforeCut near stale = cut_on text g.cut
    read_facts_on text clause.LostAtCut near stale = cut_on text g.cut
    read_facts_on text clause.Apart near stale = other_on text near
    read_facts_on text _ near stale = text
