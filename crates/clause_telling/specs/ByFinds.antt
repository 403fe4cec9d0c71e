-- The first clause of a rule that a row breaks, where it breaks the rule, by what it finds.
use Rattle.std.specs.{List.list_any, Prelude.{◌≡◌, ℕ, ◌+◌, ◌==◌, ◌||◌, not, Bool, false, if◌then◌else◌, IsTrue, List, [], Option, Some, nat_le, nat_lt, length, filter}}
use Rattle.result_rows.specs.declared.Outcome.{Outcome}
use Rattle.result_rows.specs.declared.Outcome.TheVariants as out
use Rattle.row_rules.specs.{Answers.{is_full, is_worn}, Queueing.{pending, is_refused}, Rows.write_of, Wearing.worn_row, declared.Asks.TheVariants.{Reads, Writes, Cuts}}
use Rattle.row_rules.specs.{declared.Row.Row, declared.Rules.Rules}
use Rattle.check_judging.specs.Rising.{rising}
use Rattle.check_verdict.specs.{Judged.{beside, a_read, a_write, a_cut}, Keeping.{before_cut, at_cut}, Verdicts.keeps, declared.Rule.Rule}
use Rattle.check_verdict.specs.declared.Rule.TheVariants as rule
use Rattle.check_telling.specs.{Clauses.{has_own_tick, holds, is_of_op, forwards, forwards_only, refuses, latest}, Right.{ReadGrounds, read_grounds}, declared.Clause.Clause}
use Rattle.check_telling.specs.declared.Clause.TheVariants as clause
use Rattle.clause_telling.specs.Broken.{first_clause}

-- of the rule on ticks, for a read that is read at a tick, and for one that is lost at one
abbrev pub answered_clause : ℕ → ℕ → Option ℕ → ℕ → Clause
answered_clause soonest by cut u =
    if nat_le soonest u then (if nat_le u by then (if before_cut u cut then clause.Apart else clause.ReadBeforeCut) else clause.NotTooLate) else clause.NotTooEarly

abbrev pub lost_clause : ℕ → Option ℕ → ℕ → Clause
lost_clause by cut u = if at_cut u cut then (if nat_lt u by then clause.Apart else clause.LostInTime) else clause.LostAtCut

module _ {n : ℕ} where
  -- an outcome of a read, of a write and of a cut
  abbrev pub is_of_read : Outcome n → Bool
  is_of_read o = is_of_op (Reads 0) o

  abbrev pub is_of_write : Outcome n → Bool
  is_of_write o = is_of_op (Writes 0 [] []) o

  abbrev pub is_of_cut : Outcome n → Bool
  is_of_cut o = is_of_op Cuts o

  -- of the first rule, where it is or isn't of its operation
  abbrev pub serves_clause : Bool → ℕ → Outcome n → Clause
  serves_clause of_op tick o = if of_op then (if has_own_tick tick o then clause.NewestBytes else clause.AtItsTick) else clause.OfItsOperation

  -- of a read's rule on the queue, where the banks have room or not
  abbrev pub read_queue_clause : Bool → Bool → Bool → Bool → Outcome n → Clause
  read_queue_clause room covered at_head full o =
      if room then (if forwards covered at_head full o then (if forwards_only covered at_head full o then (if refuses covered at_head full o then clause.BusyOnly else clause.Busy)
      else clause.ForwardedOnly) else clause.Forwarded) else clause.Room

  -- of a read's rule on ticks
  abbrev pub read_tick_clause : ℕ → ℕ → Option ℕ → Outcome n → Clause
  read_tick_clause soonest by cut (out.Read u place bytes) = answered_clause soonest by cut u
  read_tick_clause soonest by cut (out.Lost u) = lost_clause by cut u
  read_tick_clause soonest by cut _ = clause.Apart

  abbrev pub read_clause : Rules → ℕ → ReadGrounds → Bool → Outcome n → Rule → Clause
  read_clause rules tick g room o rule.Serves = serves_clause (is_of_read o) tick o
  read_clause rules tick g room o rule.Queue = read_queue_clause room g.covered g.at_head g.full o
  read_clause rules tick g room o rule.Worn = clause.StoredBeforeWorn
  read_clause rules tick g room o rule.Tick = read_tick_clause (tick + rules.read_ticks) g.by g.cut o

  -- of a write's rule on the queue
  abbrev pub write_queue_clause : Bool → Bool → Bool → Outcome n → Clause
  write_queue_clause room full alone o =
      if room then (if not (is_full o) || full then (if not (is_full o) || alone then clause.MergedIntoNext else clause.FullWhereAlone) else clause.FullWhereFull) else clause.Room

  -- of that on worn rows
  abbrev pub write_worn_clause : Bool → Outcome n → Clause
  write_worn_clause worn_out o = if not worn_out || is_worn o then clause.StoredBeforeWorn else clause.WornBehindWorn

  -- of that on ticks, where it could be stored up to a latest one
  abbrev pub write_tick_clause : ℕ → ℕ → Outcome n → Clause
  write_tick_clause tick late (out.Stored u place) = if nat_lt tick u then (if nat_le u late then clause.Apart else clause.NotTooLate) else clause.NotTooEarly
  write_tick_clause tick late _ = clause.Apart

  abbrev pub write_clause : ℕ → Bool → Bool → Bool → Bool → ℕ → Outcome n → Rule → Clause
  write_clause tick room full alone worn_out late o rule.Serves = serves_clause (is_of_write o) tick o
  write_clause tick room full alone worn_out late o rule.Queue = write_queue_clause room full alone o
  write_clause tick room full alone worn_out late o rule.Worn = write_worn_clause worn_out o
  write_clause tick room full alone worn_out late o rule.Tick = write_tick_clause tick late o

  -- of a cut
  abbrev pub cut_clause : ℕ → Outcome n → Rule → Clause
  cut_clause tick o rule.Serves = serves_clause (is_of_cut o) tick o
  cut_clause tick o rule.Queue = clause.Room
  cut_clause tick o rule.Worn = clause.StoredBeforeWorn
  cut_clause tick o rule.Tick = clause.Apart

-- it is the first clause that is broken
abbrev pub ReadClauseLaw : Type 0
ReadClauseLaw =
    (n tick line : ℕ) (o : Outcome n) (rules : Rules) (banks : List ℕ) (one : Rule) (before after : List (Row n))
    → IsTrue (rising tick (beside banks line after)) → keeps banks rules one before (a_read tick line o) after ≡ false
    → first_clause rules banks one before (a_read tick line o) after
    ≡ Some (read_clause rules tick (read_grounds rules banks tick line before after) (holds rules banks clause.Room before (a_read tick line o) after) o one)

abbrev pub WriteClauseLaw : Type 0
WriteClauseLaw =
    (n tick line : ℕ) (bytes : List ℕ) (given : List Bool) (o : Outcome n) (late : ℕ) (rules : Rules) (banks : List ℕ) (one : Rule) (before after : List (Row n))
    → let r = a_write tick line bytes given o in
    let ps = pending tick [] (beside banks line before) in
    ((u place : ℕ) → o ≡ out.Stored u place → IsTrue (nat_lt tick u) → late ≡ latest rules u r (beside banks line before) (beside banks line after))
    → keeps banks rules one before r after ≡ false
    → first_clause rules banks one before r after
    ≡ Some (write_clause tick (holds rules banks clause.Room before r after) (length ps == rules.writes) (is_refused tick ps (filter (write_of line) ps))
    (list_any worn_row (beside banks line before)) late o one)

abbrev pub CutClauseLaw : Type 0
CutClauseLaw =
    (n tick : ℕ) (o : Outcome n) (rules : Rules) (banks : List ℕ) (one : Rule) (before after : List (Row n))
    → keeps banks rules one before (a_cut tick o) after ≡ false → first_clause rules banks one before (a_cut tick o) after ≡ Some (cut_clause tick o one)
