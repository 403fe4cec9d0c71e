use Rattle.std.proofs.Common.{◌≡◌, ℕ, ◌++◌, ◌≤◌, List, Option}
use Rattle.row_printer.specs.Printing.{IsPrinting}
use Rattle.row_stream.specs.Answering.{banks_told}
use Rattle.row_stream.proofs.answering.tell_banks.Given as goal

-- the banks so far are told, and nothing else
abbrev pub invariant-loop-bank : goal.invariant-loop-bank
invariant-loop-bank g l = record {
  told : l.out.told ≡ l.fn.out.told ++ banks_told l.pcm l.tick l.bank;
  rows : l.out.rows ≡ l.fn.out.rows;
  snapshots : l.out.snapshots ≡ l.fn.out.snapshots;
  prints : l.out.prints ≡ l.fn.out.prints;
  printing : (before : Option (List ℕ)) (first : ℕ) → IsPrinting g.K.Sink.written g.K.Sink.faults before first l.fn.out → IsPrinting g.K.Sink.written g.K.Sink.faults before first l.out;
  within : l.bank ≤ l.pcm.shape.banks;
}
