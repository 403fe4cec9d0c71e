-- What a power cut does to a bank and to its array.
use Rattle.std.specs.Prelude.{ℕ, Bool, true, false, [], ◌++◌, map, Option, None, Some}
use Rattle.cell_rows.specs.Device.{ArrayState}
use Rattle.program_verify.specs.Programming.{IsTear}
use Rattle.line_writer.specs.Untouched.{LeavesUnused}
use Rattle.bank_invariant.specs.State.{BankState, Operation}
use Rattle.ecp_line.specs.Reading.{IsSoundLine}

module _ {n m e : ℕ} where
  -- the bank with no line write in progress
  abbrev pub stopped : BankState n m e → BankState n m e
  stopped bank = record { kept = bank.kept; running = None; waiting = bank.waiting; lost = bank.lost; rows_below = bank.rows_below }

  -- the bank once no read waits: their rows are lost, behind those that are lost already
  abbrev pub reads_lost : BankState n m e → BankState n m e
  reads_lost bank = record { kept = bank.kept; running = bank.running; waiting = []; lost = bank.lost ++ map (λ w. w.row) bank.waiting; rows_below = bank.rows_below }

  -- the array line that a cut tears: that of the line write in progress, if the cut falls in its next pulse
  abbrev pub torn_line : Bool → Option (Operation n m e) → Option ℕ
  torn_line true (Some op) = Some op.target
  torn_line true None = None
  torn_line false running = None

  -- a tear of the line write: one pulse that breaks off, of the cells that its step would pulse, none of which is an unused check cell;
  -- its line is sound
  pub record IsTorn (op : Operation n m e) (before after : ArrayState n m) : Type 0 where
    pub tear : IsTear op.target op.writer.prog before after
    pub unused : LeavesUnused e op.writer.prog
    pub sound : IsSoundLine e (after.line op.target)
