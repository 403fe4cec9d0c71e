-- What contracts see of the control lines of a bank and of the change that stands, and what ties them to the array.
use Rattle.std.specs.Prelude.{◌≡◌, ℕ, ◌+◌, ◌^◌, ◌<◌, ◌≤◌, ◌==◌, Bool, if◌then◌else◌, IsTrue, List, Option, Some, None, IfSome, IsSomeAnd, is_some}
use Rattle.cell_rows.specs.{Device.{ArrayState, LineState}, Rows.cell}
use Rattle.ecp_line.specs.{Layout.{IsLayout, Sound}, Reading.{decode, is_worn_line}, Untouched.AreUntouched}
use Rattle.line_writer.specs.{Writing.Writes, declared.writer.LineWriter.LineWriter}
use Rattle.line_writer.specs.declared.writer.Progress.TheVariants as progress
use Rattle.reg_lines.specs.{Values.{encoded, values_in}, declared.Change.Change}

-- the first control line, how many there are, the change that stands, whether its writing has ended at a worn control line, and the
-- line write that goes on
pub record RegsState (n m e : ℕ) : Type 0 where
  pub base : ℕ
  pub items : ℕ
  pub change : Option Change
  pub halted : Bool
  pub writer : Option (LineWriter n m e)

-- what is true of every one: a change is of an item; what is written is a change that isn't halted
pub record AreRegs {n m e : ℕ} (regs : RegsState n m e) : Type 0 where
  pub layout : IsLayout n m e
  pub room : 0 < regs.items → 16 ≤ n
  pub fits : regs.base + regs.items ≤ 2 ^ 32
  pub item : IfSome regs.change (λ change. change.item < regs.items)
  pub written : IfSome regs.writer (λ writer. IsTrue (is_some regs.change))
  pub idle : IsTrue regs.halted → regs.writer ≡ None

-- the values of an item: those of the change, if one of it stands, and else these
abbrev pub values_by : Option Change → ℕ → List ℕ → List ℕ
values_by None item held = held
values_by (Some change) item held = if change.item == item then change.values else held

module _ {n m e : ℕ} where
  -- so with those that its control line is read as
  abbrev pub values_held : RegsState n m e → ArrayState n m → ℕ → List ℕ
  values_held regs array item = values_by regs.change item (values_in (decode e (array.line (regs.base + item)).held))

  -- a writer has a step left, and writes this change to its line
  pub record IsWritingOf (writer : LineWriter n m e) (line : LineState n m) (change : Change) : Type 0 where
    pub bytes : writer.bytes ≡ encoded n change.values
    pub more : writer.progress ≡ progress.More
    pub writes : Writes writer line

  -- the control lines are sound, and their unused check cells untouched; what is written is the change, and where it has halted its
  -- control line is worn
  pub record AreHeld (regs : RegsState n m e) (array : ArrayState n m) : Type 0 where
    pub exist : regs.base + regs.items ≤ array.lines
    pub sound : (item : ℕ) → item < regs.items → Sound n m e (cell (array.line (regs.base + item)).held) (array.line (regs.base + item)).stuck
    pub unused : AreUntouched e array regs.base regs.items
    pub writing : IfSome regs.writer (λ writer. IsSomeAnd regs.change (λ change. IsWritingOf writer (array.line (regs.base + change.item)) change))
    pub halted : IsTrue regs.halted
        → IsSomeAnd regs.change (λ change. IsTrue (is_worn_line e (array.line (regs.base + change.item)).held (array.line (regs.base + change.item)).stuck))
