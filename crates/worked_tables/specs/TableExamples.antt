-- Worked tables of lines of two bytes, the oldest row first. A sense takes 5 ticks and an iteration 10.
use Rattle.std.specs.Prelude.{ℕ, List, [], ◌∷◌, Bool, true, false}
use Rattle.result_rows.specs.declared.Outcome.{Outcome}
use Rattle.result_rows.specs.declared.Outcome.TheVariants as out
use Rattle.bank_shape.specs.{declared.pace.Policy.Policy, declared.pace.Policy.TheVariants.Pause}
use Rattle.row_rules.specs.{declared.Asks.TheVariants.{Reads, Writes, Cuts}, declared.Row.Row, declared.Rules.Rules}

-- a bank with room for so many writes and reads
abbrev pub holding : ℕ → ℕ → Policy → Rules
holding writes reads policy =
    record { writes = writes; reads = reads; spares = 2; read_ticks = 5; iter_ticks = 10; steps = 160; policy = policy; twice = false }

-- the small bank: four writes, four reads, two spares
abbrev pub small : Policy → Rules
small policy = holding 4 4 policy

-- a bank that holds one write
abbrev pub narrow : Rules
narrow = holding 1 4 Pause

-- both bytes of a line, alike
abbrev pub whole : ℕ → List ℕ
whole b = b ∷ b ∷ []

abbrev pub both : List Bool
both = true ∷ true ∷ []

-- a write of both bytes, of the first byte alone, a read and a cut
abbrev pub W : ℕ → ℕ → ℕ → Outcome 2 → Row 2
W tick line b outcome = record { tick = tick; asks = Writes line (whole b) both; outcome = outcome }

abbrev pub M : ℕ → ℕ → ℕ → Outcome 2 → Row 2
M tick line b outcome = record { tick = tick; asks = Writes line (b ∷ 0 ∷ []) (true ∷ false ∷ []); outcome = outcome }

abbrev pub R : ℕ → ℕ → Outcome 2 → Row 2
R tick line outcome = record { tick = tick; asks = Reads line; outcome = outcome }

abbrev pub C : ℕ → Row 2
C tick = record { tick = tick; asks = Cuts; outcome = out.Cut tick }

-- a queue of one entry: the second write finds it full, the third merges into the first, which isn't begun yet
abbrev pub one_entry : List (Row 2)
one_entry = W 0 0 0xaa (out.Merged 0) ∷ W 0 1 0x11 (out.Full 0) ∷ W 0 0 0xbb (out.Stored 15 3) ∷ W 6 0 0xcc (out.Full 6) ∷ []

-- a worn line found no spare: its write stays in the queue, from which it is read, and later writes are refused
abbrev pub no_spare : List (Row 2)
no_spare =
    W 0 0 0xff (out.Queued 0) ∷ W 700 1 0x11 (out.Worn 700)
    ∷ R 700 0 (out.Forwarded 700 (whole 0xff)) ∷ R 700 1 (out.Read 705 1 (whole 0)) ∷ []

-- a read that comes during a write of two iterations is served between them; or after the write
abbrev pub paused : List (Row 2)
paused = W 0 0 0xff (out.Stored 30 3) ∷ R 7 1 (out.Read 20 1 (whole 0)) ∷ []

abbrev pub not_paused : List (Row 2)
not_paused = W 0 0 0xff (out.Stored 25 3) ∷ R 7 1 (out.Read 30 1 (whole 0)) ∷ []

-- a cut during the serve loses the read; at its end it doesn't
abbrev pub lost_read : List (Row 2)
lost_read = W 0 0 0xff (out.Stored 34 3) ∷ R 7 1 (out.Lost 19) ∷ C 19 ∷ []

abbrev pub saved_read : List (Row 2)
saved_read = W 0 0 0xff (out.Stored 35 3) ∷ R 7 1 (out.Read 20 1 (whole 0)) ∷ C 20 ∷ []

-- two entries of one line stand after a cut, and the newer one is merged into
abbrev pub two_entries : List (Row 2)
two_entries =
    W 0 0 0x11 (out.Stored 15 3) ∷ W 6 0 0x22 (out.Merged 10) ∷ C 10 ∷ W 10 0 0x33 (out.Stored 30 3)
    ∷ R 10 0 (out.Forwarded 10 (whole 0x33)) ∷ []

-- a write of the first byte over a line of 0x11
abbrev pub laid_over : List ℕ
laid_over = 0xee ∷ 0x11 ∷ []

-- a read finds the first byte in the queue and the second in the array
abbrev pub half_queued : List (Row 2)
half_queued =
    W 0 0 0x11 (out.Stored 15 3) ∷ M 100 0 0xee (out.Stored 120 3)
    ∷ R 100 0 (out.Read 105 3 laid_over) ∷ R 200 0 (out.Read 205 3 laid_over) ∷ []

-- a cut after the begin, which has given the entry all bytes: it is forwarded; a cut before its end leaves one byte
abbrev pub completed_entry : List (Row 2)
completed_entry = W 0 0 0x11 (out.Stored 15 3) ∷ M 100 0 0xee (out.Stored 115 3) ∷ C 110 ∷ R 110 0 (out.Forwarded 110 laid_over) ∷ []

abbrev pub cut_begin : List (Row 2)
cut_begin = W 0 0 0x11 (out.Stored 15 3) ∷ M 100 0 0xee (out.Stored 122 3) ∷ C 102 ∷ R 102 0 (out.Read 107 3 laid_over) ∷ []

-- a read that waits on the line of a write drops its begin
abbrev pub dropped_begin : List (Row 2)
dropped_begin = W 0 0 0x11 (out.Stored 15 3) ∷ M 100 0 0xee (out.Stored 122 3) ∷ R 102 0 (out.Read 107 3 laid_over) ∷ []

-- a read cancels an iteration, and a begin; and the fifth read of one write cancels no more
abbrev pub cancelled : List (Row 2)
cancelled = W 0 0 0xff (out.Stored 27 3) ∷ R 7 1 (out.Read 12 1 (whole 0)) ∷ []

abbrev pub cancelled_begin : List (Row 2)
cancelled_begin = W 0 0 0xff (out.Stored 33 3) ∷ R 3 1 (out.Read 8 1 (whole 0)) ∷ []

abbrev pub cancelled_often : List (Row 2)
cancelled_often =
    W 0 0 0xff (out.Stored 45 3) ∷ R 2 1 (out.Read 7 1 (whole 0)) ∷ R 8 1 (out.Read 13 1 (whole 0))
    ∷ R 14 1 (out.Read 19 1 (whole 0)) ∷ R 20 1 (out.Read 25 1 (whole 0)) ∷ R 26 1 (out.Read 35 1 (whole 0)) ∷ []
