-- What each call does to the change that stands and to its writing.
use Rattle.std.specs.Prelude.{◌≡◌, ℕ, ◌+◌, ◌<◌, ◌≤◌, Bool, true, false, List, [], ◌∷◌, Option, Some, None}
use Rattle.cell_rows.specs.Device.{ArrayState}
use Rattle.program_verify.specs.{Programming.{IsRound, IsTear}, declared.prog.Prog.Prog}
use Rattle.ecp_line.specs.Reading.{IsSoundLine, IsWornLine}
use Rattle.line_writer.specs.{Untouched.LeavesUnused, Writing.{Writes, HasBegun, IsWorn, steps_left, most_steps}, declared.writer.LineWriter.LineWriter}
use Rattle.line_writer.specs.declared.writer.Progress.{Progress}
use Rattle.line_writer.specs.declared.writer.Progress.TheVariants as progress
use Rattle.bank_shape.specs.declared.answer.Keep.{Keep}
use Rattle.bank_shape.specs.declared.answer.Keep.TheVariants as keep
use Rattle.reg_lines.specs.{Regs.RegsState, Values.encoded, declared.Change.Change}

-- the answer where a step of the line write comes so far
abbrev pub keep_from : Progress → Keep
keep_from progress.More = keep.More
keep_from progress.Stored = keep.Done
keep_from (progress.Worn cause) = keep.Halted

module _ {n m e : ℕ} where
  -- with this change put
  abbrev pub with_change : Change → RegsState n m e → RegsState n m e
  with_change change regs = record { base = regs.base; items = regs.items; change = Some change; halted = regs.halted; writer = regs.writer }

  -- after a step that is answered so: the line write goes on, or it is done and the change is gone, or it has halted and the change stays
  abbrev pub kept_on : Keep → LineWriter n m e → RegsState n m e → RegsState n m e
  kept_on keep.More writer regs = record { base = regs.base; items = regs.items; change = regs.change; halted = regs.halted; writer = Some writer }
  kept_on keep.Done writer regs = record { base = regs.base; items = regs.items; change = None; halted = regs.halted; writer = None }
  kept_on keep.Halted writer regs = record { base = regs.base; items = regs.items; change = regs.change; halted = true; writer = None }

  -- after a cut: the line write is gone, and all else stays
  abbrev pub broken_off : RegsState n m e → RegsState n m e
  broken_off regs = record { base = regs.base; items = regs.items; change = regs.change; halted = regs.halted; writer = None }

  -- the control line that is written
  abbrev pub line_of : RegsState n m e → Option Change → List ℕ
  line_of regs None = []
  line_of regs (Some change) = (regs.base + change.item) ∷ []

  abbrev pub target_of : RegsState n m e → Option Change → Option ℕ
  target_of regs None = None
  target_of regs (Some change) = Some (regs.base + change.item)

  -- the one that a cut tears
  abbrev pub torn_line : Bool → RegsState n m e → Option ℕ
  torn_line true regs = target_of regs regs.change
  torn_line false regs = None

  -- the begin of the writing of a change: a line write of its bytes to its own line, which then has a step left or is read as them; by how
  -- far that has come, the answer and what stands then go
  pub record IsBegin (old new : RegsState n m e) (answer : Keep) (after : ArrayState n m) : Type 0 where
    pub change : Change
    pub stands : old.change ≡ Some change
    pub writer : LineWriter n m e
    pub bytes : writer.bytes ≡ encoded n change.values
    pub writes : Writes writer (after.line (old.base + change.item))
    pub begun : HasBegun writer.progress
    pub few : steps_left writer ≤ most_steps e
    pub is : answer ≡ keep_from writer.progress
    pub leaves : new ≡ kept_on answer writer old

  -- a step of a line write on this line: one pulse of exactly its wrong cells, of no unused check cell, and one sense of the line, after
  -- which the writer is this
  pub record IsWriterStep (line tick : ℕ) (old new : LineWriter n m e) (before after : ArrayState n m) : Type 0 where
    pub round : (prog : Prog n m) × IsRound line tick old.prog prog before after × ((after.line line).held ≡ prog.seen)
    pub unused : LeavesUnused e old.prog
    pub writes : Writes new (after.line line)
    pub sound : IsSoundLine e (after.line line)
    pub worn : IsWorn new.progress → IsWornLine e (after.line line)
    pub bytes : new.bytes ≡ old.bytes
    pub fewer : steps_left new < steps_left old

  -- an iteration of the writing of a change: one step of its line write on its own line, by which the answer and what stands then go
  pub record IsIteration (tick : ℕ) (old new : RegsState n m e) (answer : Keep) (before after : ArrayState n m) : Type 0 where
    pub change : Change
    pub stands : old.change ≡ Some change
    pub writer : LineWriter n m e
    pub runs : old.writer ≡ Some writer
    pub bytes : writer.bytes ≡ encoded n change.values
    pub now : LineWriter n m e
    pub step : IsWriterStep (old.base + change.item) tick writer now before after
    pub is : answer ≡ keep_from now.progress
    pub leaves : new ≡ kept_on answer now old

  -- a tear of the writing of a change: one pulse that breaks off, of the cells that its step would pulse, none of which is an unused check
  -- cell; its line is sound
  pub record IsTorn (regs : RegsState n m e) (before after : ArrayState n m) : Type 0 where
    pub change : Change
    pub stands : regs.change ≡ Some change
    pub writer : LineWriter n m e
    pub runs : regs.writer ≡ Some writer
    pub tear : IsTear (regs.base + change.item) writer.prog before after
    pub unused : LeavesUnused e writer.prog
    pub sound : IsSoundLine e (after.line (regs.base + change.item))
