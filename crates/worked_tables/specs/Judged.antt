-- Worked tables of lines of two bytes, beside those of row_rules.
use Rattle.std.specs.Prelude.{ℕ, List, [], ◌∷◌, true}
use Rattle.result_rows.specs.declared.Outcome.TheVariants as out
use Rattle.bank_shape.specs.declared.pace.Policy.{Policy}
use Rattle.row_rules.specs.{declared.Row.Row, declared.Rules.Rules}
use Rattle.worked_tables.specs.TableExamples.{W, R, C, whole}

-- four lines of one bank
abbrev pub one_bank : List ℕ
one_bank = 0 ∷ 0 ∷ 0 ∷ 0 ∷ []

-- the small bank with its registers in the array
abbrev pub with_registers : Policy → Rules
with_registers policy =
    record { writes = 4; reads = 4; spares = 2; read_ticks = 5; iter_ticks = 10; steps = 160; policy = policy; twice = true }

-- a write, and a read of it that is read at this tick with these bytes
abbrev pub read_back : ℕ → List ℕ → List (Row 2)
read_back tick bytes = W 0 0 0xff (out.Stored 15 3) ∷ R 100 0 (out.Read tick 3 bytes) ∷ []

-- a write that is stored at this tick
abbrev pub stored_at : ℕ → List (Row 2)
stored_at tick = W 0 0 0xff (out.Stored tick 3) ∷ []

-- two writes where one fits, and a cut
abbrev pub one_too_many : ℕ → List (Row 2)
one_too_many tick = W 0 0 0xff (out.Stored 15 3) ∷ W 0 1 0x11 (out.Stored 30 1) ∷ C tick ∷ []

-- a write is stored behind the tick of a worn row that comes later
abbrev pub stored_behind_worn : List (Row 2)
stored_behind_worn = W 0 0 0xff (out.Stored 15 3) ∷ W 10 1 0x11 (out.Worn 10) ∷ []

-- a pair of writes of one line that is gone before the next write comes
abbrev pub pair_that_left : List (Row 2)
pair_that_left =
    W 0 0 0xff (out.Queued 0) ∷ W 1 0 0x11 (out.Merged 2) ∷ W 2 0 0x22 (out.Stored 15 3) ∷ W 20 1 0x33 (out.Stored 35 1)
    ∷ R 21 2 (out.Read 26 2 (whole 0)) ∷ []

-- the later row's store lies too near the earlier row's
abbrev pub too_near : List (Row 2)
too_near = W 0 0 0xff (out.Stored 19 3) ∷ W 0 1 0x11 (out.Stored 15 1) ∷ []
