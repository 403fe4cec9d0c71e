-- Tables of lines of two bytes that no bank leaves, the oldest row first, each with the law that it breaks.
use Rattle.std.specs.Prelude.{ℕ, List, [], ◌∷◌, Option, Some}
use Rattle.result_rows.specs.declared.Outcome.TheVariants as out
use Rattle.row_rules.specs.declared.Row.{Row}
use Rattle.worked_tables.specs.{Faults.{Law, Fault}, TableExamples.{W, M, R, C, whole, laid_over}}

-- the table's first fault is that of this row, which breaks this law
abbrev pub breaks : ℕ → Law → Option Fault
breaks row law = Some (record { row = row; law = law })

-- What is served.

abbrev pub read_of_old_bytes : List (Row 2)
read_of_old_bytes = W 0 0 0x11 (out.Stored 15 3) ∷ W 100 0 0xee (out.Stored 115 3) ∷ R 200 0 (out.Read 205 3 (whole 0x11)) ∷ []

abbrev pub read_of_bytes_not_given : List (Row 2)
read_of_bytes_not_given = W 0 0 0x11 (out.Stored 15 3) ∷ M 100 0 0xee (out.Stored 115 3) ∷ R 200 0 (out.Read 205 3 (0xee ∷ 0 ∷ [])) ∷ []

abbrev pub read_of_refused_bytes : List (Row 2)
read_of_refused_bytes = W 0 0 0x11 (out.Stored 15 3) ∷ W 0 1 0x22 (out.Full 0) ∷ R 100 1 (out.Read 105 1 (whole 0x22)) ∷ []

abbrev pub forwarded_old_bytes : List (Row 2)
forwarded_old_bytes = W 0 0 0x11 (out.Stored 15 3) ∷ W 6 0 0x22 (out.Stored 30 3) ∷ R 7 0 (out.Forwarded 7 (whole 0x11)) ∷ []

abbrev pub forwarded_later : List (Row 2)
forwarded_later = W 0 0 0x11 (out.Stored 15 3) ∷ R 7 0 (out.Forwarded 8 (whole 0x11)) ∷ []

abbrev pub write_that_is_read : List (Row 2)
write_that_is_read = W 0 0 0x11 (out.Read 5 3 (whole 0)) ∷ []

-- What the queue and the waiting reads hold.

abbrev pub merged_into_nothing : List (Row 2)
merged_into_nothing = W 0 0 0x11 (out.Merged 0) ∷ W 0 1 0x22 (out.Stored 15 1) ∷ []

abbrev pub merged_at_another_tick : List (Row 2)
merged_at_another_tick = W 0 0 0xaa (out.Merged 6) ∷ W 0 0 0xbb (out.Stored 15 3) ∷ W 6 0 0xcc (out.Stored 30 3) ∷ []

abbrev pub full_with_room : List (Row 2)
full_with_room = W 0 0 0x11 (out.Stored 15 3) ∷ W 0 1 0x22 (out.Full 0) ∷ []

abbrev pub refused_where_it_merges : List (Row 2)
refused_where_it_merges = W 0 0 0x11 (out.Stored 15 3) ∷ W 0 0 0x22 (out.Full 0) ∷ []

abbrev pub two_in_a_queue_of_one : List (Row 2)
two_in_a_queue_of_one = W 0 0 0x11 (out.Stored 15 3) ∷ W 0 1 0x22 (out.Stored 30 1) ∷ W 0 2 0x33 (out.Full 0) ∷ []

abbrev pub never_merged : List (Row 2)
never_merged = W 0 0 0x11 (out.Stored 15 3) ∷ W 0 0 0x22 (out.Stored 30 3) ∷ R 0 1 (out.Read 5 1 (whole 0)) ∷ []

abbrev pub three_of_one_line : List (Row 2)
three_of_one_line =
    W 0 0 0x11 (out.Stored 15 3) ∷ W 6 0 0x22 (out.Stored 30 3) ∷ W 7 0 0x33 (out.Stored 45 3) ∷ R 8 1 (out.Read 20 1 (whole 0)) ∷ []

abbrev pub in_flight_behind_another : List (Row 2)
in_flight_behind_another =
    W 0 1 0x22 (out.Stored 15 1) ∷ W 0 0 0x11 (out.Stored 30 3) ∷ W 6 0 0x33 (out.Stored 45 3) ∷ R 7 2 (out.Read 20 2 (whole 0)) ∷ []

abbrev pub read_past_the_queue : List (Row 2)
read_past_the_queue = W 0 0 0xff (out.Stored 30 3) ∷ R 7 0 (out.Read 20 3 (whole 0xff)) ∷ []

abbrev pub forwarded_in_part : List (Row 2)
forwarded_in_part =
    W 0 0 0x11 (out.Stored 15 3) ∷ W 100 1 0x22 (out.Stored 115 1) ∷ M 100 0 0xee (out.Stored 130 3)
    ∷ R 100 0 (out.Forwarded 100 laid_over) ∷ []

abbrev pub busy_with_room : List (Row 2)
busy_with_room = R 0 0 (out.Busy 0) ∷ []

abbrev pub two_where_one_waits : List (Row 2)
two_where_one_waits = R 0 0 (out.Read 5 3 (whole 0)) ∷ R 0 1 (out.Read 10 1 (whole 0)) ∷ []

-- What follows from a worn line, and what goes before it.

abbrev pub accepted_after_worn : List (Row 2)
accepted_after_worn = W 0 0 0xff (out.Queued 0) ∷ W 700 1 0x11 (out.Worn 700) ∷ W 800 1 0x11 (out.Queued 800) ∷ []

abbrev pub stored_after_worn : List (Row 2)
stored_after_worn = W 0 0 0xff (out.Stored 710 3) ∷ W 700 1 0x11 (out.Worn 700) ∷ []

abbrev pub worn_without_a_write : List (Row 2)
worn_without_a_write = W 0 0 0xff (out.Worn 0) ∷ []

-- The times.

abbrev pub read_too_early : List (Row 2)
read_too_early = R 7 1 (out.Read 11 1 (whole 0)) ∷ []

-- a read of line 1 during a write, read at this tick
abbrev pub read_at : ℕ → List (Row 2)
read_at u = W 0 0 0xff (out.Stored 40 3) ∷ R 7 1 (out.Read u 1 (whole 0)) ∷ []

abbrev pub read_behind_a_cut : List (Row 2)
read_behind_a_cut = R 7 1 (out.Read 20 1 (whole 0)) ∷ C 19 ∷ []

abbrev pub lost_without_a_cut : List (Row 2)
lost_without_a_cut = R 7 1 (out.Lost 12) ∷ []

abbrev pub lost_at_another_tick : List (Row 2)
lost_at_another_tick = R 7 1 (out.Lost 10) ∷ C 11 ∷ []

-- a write that is stored at this tick
abbrev pub stored_at : ℕ → List (Row 2)
stored_at u = W 5 0 0xff (out.Stored u 3) ∷ []

abbrev pub stores_too_near : List (Row 2)
stores_too_near = W 0 0 0x11 (out.Stored 15 3) ∷ W 0 1 0x22 (out.Stored 19 1) ∷ []

abbrev pub reads_out_of_order : List (Row 2)
reads_out_of_order = R 0 0 (out.Read 10 3 (whole 0)) ∷ R 0 1 (out.Read 5 1 (whole 0)) ∷ []

abbrev pub read_as_one_is_stored : List (Row 2)
read_as_one_is_stored = W 0 0 0x11 (out.Stored 15 3) ∷ R 5 1 (out.Read 15 1 (whole 0)) ∷ []

-- two writes in a queue of one, which shows only where a later row looks: that of line 2 is another bank's
abbrev pub two_writes : List (Row 2)
two_writes = W 0 0 0x11 (out.Stored 15 3) ∷ W 0 1 0x22 (out.Stored 30 1) ∷ []

abbrev pub two_writes_and_another : List (Row 2)
two_writes_and_another = W 0 0 0x11 (out.Stored 15 3) ∷ W 0 1 0x22 (out.Stored 30 1) ∷ R 0 2 (out.Read 5 2 (whole 0)) ∷ []
