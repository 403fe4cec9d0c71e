-- What was heard of the rows of a module, the newest first.
use Rattle.std.proofs.Common.{refl, ◌∙◌, arith}
use Rattle.std.specs.Prelude.{◌≡◌, ℕ, ◌+◌, ◌≤◌, List, [], ◌∷◌, ◌++◌, length}
use Rattle.result_rows.specs.{Table.with_outcome, declared.Outcome.Outcome}
use Rattle.result_rows.specs.declared.Outcome.TheVariants as out
use Rattle.trace_reader.specs.{declared.event.Event.Event, declared.event.EventOp.EventOp, declared.event.EventOp.TheVariants.{Read, Write, Mask, Cut}}
use Rattle.bank_timing.specs.Extending.{outcome_in}
use Rattle.disk_lines.specs.{declared.watch.Heard.Heard, declared.watch.Heard.TheVariants.{Came, Became}}

module _ {n : ℕ} where
  -- the rows that came
  abbrev pub events_in : List (Heard n) → List (Event n)
  events_in [] = []
  events_in (Came event ∷ before) = event ∷ events_in before
  events_in (Became row outcome ∷ before) = events_in before

  -- what is known of each: the table has a place for each row that came, the first one's first
  abbrev pub table_in : List (Heard n) → List (Outcome n)
  table_in [] = []
  table_in (Came event ∷ before) = table_in before ++ out.Unset ∷ []
  table_in (Became row outcome ∷ before) = with_outcome (table_in before) row outcome

  -- 1 of a power cut, and else 0
  abbrev pub cuts_by : EventOp n → ℕ
  cuts_by (Read line) = 0
  cuts_by (Write line bytes) = 0
  cuts_by (Mask line bytes given) = 0
  cuts_by Cut = 1

  -- 1 of a write that was refused, and else 0
  abbrev pub refuses_by : Outcome n → ℕ
  refuses_by (out.Full tick) = 1
  refuses_by (out.Worn tick) = 1
  refuses_by _ = 0

  -- how many of these rows are power cuts
  abbrev pub cuts_in : List (Event n) → ℕ
  cuts_in [] = 0
  cuts_in (event ∷ before) = cuts_by event.op + cuts_in before

  -- how many writes were refused
  abbrev pub refusals_in : List (Heard n) → ℕ
  refusals_in [] = 0
  refusals_in (Came event ∷ before) = refusals_in before
  refusals_in (Became row outcome ∷ before) = refuses_by outcome + refusals_in before

-- what hears of a module's rows: how many came, what became of the last one so far, and all that was heard
pub record Hearing (n : ℕ) : Type 0 where
  pub rows : ℕ
  pub last : Outcome n
  pub heard : List (Heard n)

-- lines are short, the rows are counted, and the last one's outcome is that of the table
pub record IsHearing {n : ℕ} (rows : ℕ) (last : Outcome n) (heard : List (Heard n)) : Type 0 where
  pub few : n ≤ 128
  pub counted : length (events_in heard) ≡ rows
  pub size : length (table_in heard) ≡ rows
  pub newest : outcome_in (table_in heard) rows ≡ last

-- outcomes were heard, and no row came: no refusal was taken back, and where the last row was refused meanwhile, that is one more
pub record HearsOn {n : ℕ} (old new : Hearing n) : Type 0 where
  pub rows : new.rows ≡ old.rows
  pub events : events_in new.heard ≡ events_in old.heard
  pub rises : refusals_in old.heard ≤ refusals_in new.heard
  pub refused : refusals_in old.heard + refuses_by new.last ≤ refusals_in new.heard + refuses_by old.last

module _ {n : ℕ} where
  pub stands-on : (one : Hearing n) → HearsOn one one
  stands-on one = record { rows = refl; events = refl; rises = omega arith; refused = omega arith }

  pub follows-on : (one two three : Hearing n) → HearsOn one two → HearsOn two three → HearsOn one three
  follows-on one two three a b = record {
    rows = b.rows ∙ a.rows;
    events = b.events ∙ a.events;
    rises = omega (arith, a.rises, b.rises);
    refused = omega (arith, a.refused, b.refused);
  }
