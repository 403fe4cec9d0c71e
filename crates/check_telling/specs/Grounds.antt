-- What the code finds for a read, as the laws know it.
use Rattle.std.specs.Prelude.{◌≡◌, ℕ, ◌+◌, ◌++◌, List, [], length, reverse}
use Rattle.row_rules.specs.{Queueing.{pending, waiting, next_store}, Rows.is_cut, Ticking.delay, declared.Row.Row, declared.Rules.Rules}
use Rattle.check_verdict.specs.{Judged.beside, Verdicts.bank_in}
use Rattle.check_telling.specs.{Givers.givers, Right.{ReadGrounds, grounds_on, read_grounds}, Standing.{first_at, mates_of, rows_of, tick_at, AreNumbered}, Steps.is_ahead}
use Rattle.check_telling.specs.{declared.grounds.Grounds.Grounds, declared.mates.Numbered.Numbered, declared.newest.Newest.Newest}

abbrev pub grounds_of : {n : ℕ} → Grounds n → ReadGrounds
grounds_of g = record {
  newest_bytes = g.newest.bytes;
  covered = g.covered;
  at_head = g.at_head;
  full = g.full;
  from = g.from;
  by = g.by;
  cut = tick_at g.cut;
  taken = g.taken.items;
}

-- it is what a read of a line finds among a bank's rows, with the rows that say so
pub record IsOfBank {n : ℕ} (rules : Rules) (tick line : ℕ) (newest : Newest n) (past later : List (Numbered n)) (g : Grounds n) : Type 0 where
  pub grounds : grounds_of g ≡ grounds_on rules tick line newest.bytes (reverse (rows_of past)) (rows_of later)
  pub newest_is : g.newest ≡ newest
  pub stand : rows_of g.standing.items ≡ reverse (pending tick [] (reverse (rows_of past)))
  pub wait : rows_of g.waiting.items ≡ reverse (waiting tick [] (reverse (rows_of past)))
  pub stand_numbers : (above : ℕ) (table : List (Row n)) → AreNumbered above table past → AreNumbered above table g.standing.items
  pub wait_numbers : (above : ℕ) (table : List (Row n)) → AreNumbered above table past → AreNumbered above table g.waiting.items
  pub ahead_is : g.ahead ≡ first_at (is_ahead line (next_store tick line (reverse (rows_of past) ++ rows_of later))) g.standing.items
  pub delay_is : g.delay ≡ delay rules rules.policy tick (reverse (rows_of past)) (rows_of later)
  pub cut_is : g.cut ≡ first_at is_cut later

-- the same of a whole table around the read, the oldest row first: each row that is told is one of the table, by its number
pub record TellsRead {n : ℕ} (rules : Rules) (banks : List ℕ) (tick line : ℕ) (before after : List (Row n)) (g : Grounds n) : Type 0 where
  pub grounds : grounds_of g ≡ read_grounds rules banks tick line (reverse before) after
  pub givers_are : g.newest.givers ≡ givers (reverse before) line
  pub stand : rows_of g.standing.items ≡ reverse (pending tick [] (beside banks line (reverse before)))
  pub wait : rows_of g.waiting.items ≡ reverse (waiting tick [] (beside banks line (reverse before)))
  pub stand_numbers : AreNumbered 0 before g.standing.items
  pub wait_numbers : AreNumbered 0 before g.waiting.items
  pub ahead_is : g.ahead ≡ first_at (is_ahead line (next_store tick line (beside banks line (reverse before) ++ beside banks line after))) g.standing.items
  pub delay_is : g.delay ≡ delay rules rules.policy tick (beside banks line (reverse before)) (beside banks line after)
  pub cut_is : g.cut ≡ first_at is_cut (mates_of (bank_in banks) (bank_in banks line) (length before + 1) after)
