-- What a call of the program was given, and what it left.
use Rattle.std.specs.Prelude.{Result}
use Rattle.cell_rows.specs.Device.{ArrayState}
use Rattle.command_line.specs.{declared.job.Job.Job, declared.job.Refusal.Refusal}
use Rattle.program_calls.specs.Calls.{IsUntouched, Lent, SinkChange, SourceChange}

-- what became of all that a job may change: the source, the arrays of lines of 64 and of 128 bytes, and the
-- output
pub record Deed : Type 0 where
  pub source : SourceChange
  pub array : ArrayState 64 8
  pub wide : ArrayState 128 16
  pub out : SinkChange

-- a call: what was asked for, and what was lent to do it, the arrays of lines of 64 and of 128 bytes, the
-- source and the output
pub record Call (A V S K : Type 0) : Type 0 where
  pub asked : Result Job Refusal
  pub array : Lent A (ArrayState 64 8)
  pub wide : Lent V (ArrayState 128 16)
  pub source : Lent S SourceChange
  pub out : Lent K SinkChange

module _ {A V S K : Type 0} (call : Call A V S K) where
  -- what became of all that was lent to a call
  abbrev pub deed_of : Deed
  deed_of = record {
    source = call.source.seen;
    array = call.array.seen;
    wide = call.wide.seen;
    out = call.out.seen;
  }

  -- a call left both arrays as they were
  abbrev pub AreArraysUntouched : Type 0
  AreArraysUntouched = IsUntouched call.array × IsUntouched call.wide
