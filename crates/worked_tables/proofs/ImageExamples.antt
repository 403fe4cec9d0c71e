-- Worked queues of a small bank, whose lines have two bytes, by their rows, the newest of them first.
use Rattle.std.proofs.Common.{◌≡◌, true, false, List, [], ◌∷◌, refl}
use Rattle.result_rows.specs.declared.Outcome.TheVariants as out
use Rattle.row_rules.specs.{declared.Asks.TheVariants.Writes, declared.Row.Row}
use Rattle.worked_tables.specs.TableExamples.{W, M, whole, both}
use Rattle.right_runs.specs.Queued.{entries_by, queued_writes}

-- the write of line 1 at tick 6 was merged into that of tick 9, whose entry stands in its place
abbrev merged_rows : List (Row 2)
merged_rows =
    W 9 1 0x33 (out.Queued 9) ∷ W 8 0 0x22 (out.Queued 8) ∷ M 7 2 0xee (out.Queued 7) ∷ W 6 1 0x11 (out.Merged 9) ∷ W 0 0 0xff (out.Queued 0) ∷ []

merged_queue : entries_by true (queued_writes merged_rows)
    ≡ record { line = 0; gives = record { bytes = whole 0xff; given = both } }
    ∷ record { line = 1; gives = record { bytes = whole 0x33; given = both } }
    ∷ record { line = 2; gives = record { bytes = 0xee ∷ 0 ∷ []; given = true ∷ false ∷ [] } }
    ∷ record { line = 0; gives = record { bytes = whole 0x22; given = both } } ∷ []
merged_queue = refl

-- a write of the first byte over one that was stored
abbrev half_rows : List (Row 2)
half_rows = M 200 0 0xee (out.Queued 200) ∷ W 0 0 0x11 (out.Stored 15 3) ∷ []

-- its entry gives that byte; and both, once a store of it was begun
half_queue : entries_by false (queued_writes half_rows) ≡ record { line = 0; gives = record { bytes = 0xee ∷ 0 ∷ []; given = true ∷ false ∷ [] } } ∷ []
half_queue = refl

begun_queue : entries_by true (queued_writes half_rows) ≡ record { line = 0; gives = record { bytes = 0xee ∷ 0x11 ∷ []; given = both } } ∷ []
begun_queue = refl

-- a write of the first byte that was merged into one of the second
abbrev joined_rows : List (Row 2)
joined_rows =
    record { tick = 3; asks = Writes 0 (0 ∷ 0x22 ∷ []) (false ∷ true ∷ []); outcome = out.Queued 3 } ∷ M 2 0 0xee (out.Merged 3) ∷ []

joined_queue : entries_by false (queued_writes joined_rows) ≡ record { line = 0; gives = record { bytes = 0xee ∷ 0x22 ∷ []; given = both } } ∷ []
joined_queue = refl
