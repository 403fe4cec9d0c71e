-- A worked run of a small module with lines of two bytes and one check byte: two banks of two regions of four lines and one spare.
-- Seed 0 puts line 8 into bank 1 and line 0 into bank 0, each as number 5 there, which stands in its bank's seventh array line.
use Rattle.std.specs.Prelude.{ℕ, ◌+◌, ◌*◌, ◌==◌, false, if◌then◌else◌, List, [], ◌∷◌, Some, None}
use Rattle.cell_rows.specs.{Device.{CellBounds, ArrayState, LineState}, declared.array.Sense.Sense}
use Rattle.result_rows.specs.declared.Outcome.TheVariants as out
use Rattle.row_rules.specs.declared.Row.{Row}
use Rattle.worked_tables.specs.{HistoryExamples.{both, first, holds}, TableExamples.{C, M, W, R, whole}}
use Rattle.bank_shape.specs.{declared.Home.TheVariants.Guarded, declared.pace.Policy.TheVariants.Pause}
use Rattle.module_shape.specs.declared.raw.RawShape.{RawShape}
use Rattle.right_runs.specs.{Ends.BankEnd, Queued.QueueEntry, Runs.RunsRight}

abbrev pub small : RawShape
small = record {
  banks = 2;
  regions = 2;
  lines = 4;
  spares = 1;
  writes = 4;
  reads = 4;
  psi = 100;
  read_ticks = 5;
  iter_ticks = 10;
  policy = Pause;
  home = Guarded;
}

-- line 8 is written; then it and line 0 are read with these bytes, the newest row first
abbrev pub reading : ℕ → ℕ → List (Row 2)
reading written other = R 100 0 (out.Read 105 6 (whole other)) ∷ R 100 8 (out.Read 105 17 (whole written)) ∷ W 0 8 0x11 (out.Stored 15 17) ∷ []

-- the read of line 0 says that its line stood where line 8 stands
abbrev pub misplaced : List (Row 2)
misplaced = R 100 0 (out.Read 105 17 (whole 0)) ∷ R 100 8 (out.Read 105 17 (whole 0x11)) ∷ W 0 8 0x11 (out.Stored 15 17) ∷ []

-- the rows of one bank, by the numbers of its lines
abbrev pub first_bank : ℕ → List (Row 2)
first_bank other = R 100 5 (out.Read 105 6 (whole other)) ∷ []

abbrev pub second_bank : ℕ → List (Row 2)
second_bank written = R 100 5 (out.Read 105 17 (whole written)) ∷ W 0 5 0x11 (out.Stored 15 17) ∷ []

-- a line that holds these bytes, with no cell stuck, after so many pulses, each of which changed every cell
abbrev pub holding : ℕ → ℕ → LineState 2 1
holding b pulses =
    record { held = record { bits = whole b; meta = 0 ∷ [] }; stuck = λ n. false; misses = λ n. 0; spent = λ n. pulses; pulses = pulses }

-- the senses of the run, the oldest first
abbrev pub senses : List (Sense 2 1)
senses = holds 5 17 (whole 0) 0 ∷ holds 15 17 (whole 0x11) 1 ∷ holds 105 17 (whole 0x11) 1 ∷ holds 105 6 (whole 0) 0 ∷ []

-- its cells never miss
abbrev pub never_missing : CellBounds
never_missing = record { endures = 0; misses = 0 }

-- the array in the end
abbrev pub ended : ArrayState 2 1
ended = record { line = λ line. if line == 17 then holding 0x11 1 else holding 0 0; lines = 22; tears = 0; log = Some senses; wear = None; bounds = never_missing; energy = λ line. None }

-- the same, but that the second last check cell of line 3, an unused one, holds 1
abbrev pub touched_line : LineState 2 1
touched_line = record (holding 0 1) { held = record { bits = whole 0; meta = 64 ∷ [] } }

abbrev pub touched : ArrayState 2 1
touched = record ended { line = λ line. if line == 3 then touched_line else ended.line line }

-- the same, but that what was written is gone
abbrev pub forgotten : ArrayState 2 1
forgotten = record { line = λ line. if line == 17 then holding 0 1 else holding 0 0; lines = 22; tears = 0; log = Some senses; wear = None; bounds = never_missing; energy = λ line. None }

-- the same rows over an array that tells no log, one of whose lines was pulsed 100 times
abbrev pub hammered : ArrayState 2 1
hammered = record { line = λ line. if line == 17 then holding 0x11 100 else holding 0 0; lines = 22; tears = 0; log = None; wear = None; bounds = never_missing; energy = λ line. None }

-- and 10 times, each a change of every cell, as a line may be with cells that stick, but not with none of them stuck
abbrev pub strained : ArrayState 2 1
strained = record hammered { line = λ line. if line == 17 then holding 0x11 10 else holding 0 0 }

-- over no array and by no ends are these rows right
abbrev pub NeverRight : List (Row 2) → Type 0
NeverRight rows = (m e : ℕ) (array : ArrayState 2 m) (ends : ℕ → BankEnd) → RunsRight e small 0 rows array ends → ⊥

-- each bank's slots have the array lines of their numbers, and no gap has moved
abbrev pub unmoved : ℕ → BankEnd
unmoved bank = record { table = λ slot. bank * 11 + slot; moves = λ region. 0; queue = [] }

-- line 8 is stored, its first byte is written anew, and then the power goes for good
abbrev pub cut_short : List (Row 2)
cut_short = C 207 ∷ M 200 8 0xee (out.Queued 200) ∷ W 0 8 0x11 (out.Stored 15 17) ∷ []

-- an array whose line 17, which was pulsed twice, is read as zeros
abbrev pub emptied : ArrayState 2 1
emptied = record { line = λ line. if line == 17 then holding 0 2 else holding 0 0; lines = 22; tears = 1; log = None; wear = None; bounds = never_missing; energy = λ line. None }

-- the same ends, but that the second bank's queue gives this
abbrev pub queueing : List QueueEntry → ℕ → BankEnd
queueing queue bank = record (unmoved bank) { queue = if bank == 1 then queue else [] }

-- of line 8, number 5 of that bank, the first byte; and both
abbrev pub first_byte : List QueueEntry
first_byte = record { line = 5; gives = record { bytes = 0xee ∷ 0 ∷ []; given = first } } ∷ []

abbrev pub both_bytes : List QueueEntry
both_bytes = record { line = 5; gives = record { bytes = 0xee ∷ 0x11 ∷ []; given = both } } ∷ []

-- line 8 is stored, and more may come
abbrev pub stored_so_far : List (Row 2)
stored_so_far = W 0 8 0x11 (out.Stored 15 17) ∷ []

-- an array of which no line was ever pulsed
abbrev pub unpulsed : ArrayState 2 1
unpulsed = record { line = λ line. holding 0 0; lines = 22; tears = 0; log = None; wear = None; bounds = never_missing; energy = λ line. None }
