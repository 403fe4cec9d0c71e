-- Histories of the small bank that no bank has, the newest event first: what is wrong is the newest event.
use Rattle.std.specs.Prelude.{List, [], ◌∷◌, true, false, Some, None}
use Rattle.bank_shape.specs.{declared.answer.ReadAnswer.TheVariants.{Waiting, Forwarded}, declared.answer.Step.TheVariants.{More, Stored, Exhausted}}
use Rattle.bank_shape.specs.declared.answer.WriteAnswer.TheVariants.{Accepted, Merged, Full}
use Rattle.bank_shape.specs.declared.answer.Keep.TheVariants as keep
use Rattle.bank_model.specs.{Events.{Write, Read, Begin, Iterate, Cut}, Timing.{TimedEvent, Core, KeepBegin, KeepIterate}}
use Rattle.worked_tables.specs.HistoryExamples.{kept, kept_on, kept_begun, read_controls, at, sensed, pulsed, holds, cancel, whole, both, begun, in_flight, zeros, stored}

-- Times.

abbrev pub iterates_too_long : List (TimedEvent 2 1)
iterates_too_long = pulsed 5 16 (Iterate (Stored 1 3)) 3 (holds 16 3 (whole 0x11) 1 ∷ []) ∷ begun 0x11

-- under Pause a read that waits is served between two iterations; under Plain it is not
abbrev pub iterates_again : List (TimedEvent 2 1)
iterates_again =
    pulsed 15 25 (Iterate (Stored 1 3)) 3 (holds 25 3 (whole 0xff) 2 ∷ [])
    ∷ pulsed 5 15 (Iterate More) 3 (holds 15 3 (0xfe ∷ 0xff ∷ []) 1 ∷ []) ∷ in_flight

abbrev pub serves_between : List (TimedEvent 2 1)
serves_between =
    sensed 15 20 (zeros 2 1) (holds 20 1 (whole 0) 0 ∷ [])
    ∷ pulsed 5 15 (Iterate More) 3 (holds 15 3 (0xfe ∷ 0xff ∷ []) 1 ∷ []) ∷ in_flight

abbrev pub begins_though_dropped : List (TimedEvent 2 1)
begins_though_dropped =
    sensed 100 105 (Begin More) (holds 105 3 (whole 0x11) 1 ∷ []) ∷ at 102 (Read 3 3 Waiting)
    ∷ at 100 (Write 2 3 (0xee ∷ 0 ∷ []) (true ∷ false ∷ []) Accepted) ∷ stored

abbrev pub arrives_before_the_last : List (TimedEvent 2 1)
arrives_before_the_last = at 4 (Read 2 1 Waiting) ∷ begun 0xff

-- Cuts and cancels.

abbrev pub cuts_without_a_tear : List (TimedEvent 2 1)
cuts_without_a_tear = at 7 (Cut false) ∷ begun 0xff

abbrev pub tears_a_begin : List (TimedEvent 2 1)
tears_a_begin = record { happens = Core (Cut true); tick = 3; first = 3; senses = []; pulsed = Some 3; cancels = false } ∷ at 0 (Write 1 3 (whole 0xff) both Accepted) ∷ []

abbrev pub cancels_without_its_read : List (TimedEvent 2 1)
cancels_without_its_read = at 7 (Write 2 1 (whole 0x22) both Accepted) ∷ cancel 7 3 ∷ begun 0xff

-- Answers.

abbrev pub merges_into_the_busy_head : List (TimedEvent 2 1)
merges_into_the_busy_head = at 6 (Write 2 3 (whole 0x22) both (Merged 1)) ∷ begun 0x11

abbrev pub refuses_with_room : List (TimedEvent 2 1)
refuses_with_room = at 6 (Write 2 1 (whole 0x22) both Full) ∷ begun 0x11

abbrev pub waits_though_queued : List (TimedEvent 2 1)
waits_though_queued = at 6 (Read 2 3 Waiting) ∷ begun 0x11

abbrev pub forwards_other_bytes : List (TimedEvent 2 1)
forwards_other_bytes = at 6 (Read 2 3 (Forwarded (whole 0))) ∷ begun 0x11

abbrev pub repeats_a_row : List (TimedEvent 2 1)
repeats_a_row = at 6 (Read 1 1 Waiting) ∷ begun 0x11

abbrev pub stores_another_row : List (TimedEvent 2 1)
stores_another_row = pulsed 5 15 (Iterate (Stored 2 3)) 3 (holds 15 3 (whole 0x11) 1 ∷ []) ∷ begun 0x11

abbrev pub exhausts_with_spares : List (TimedEvent 2 1)
exhausts_with_spares = pulsed 5 15 (Iterate Exhausted) 3 (holds 15 3 (whole 0x11) 1 ∷ []) ∷ begun 0x11

-- Senses and pulses.

abbrev pub stores_other_bytes : List (TimedEvent 2 1)
stores_other_bytes = pulsed 5 15 (Iterate (Stored 1 3)) 3 (holds 15 3 (0x10 ∷ 0x11 ∷ []) 1 ∷ []) ∷ begun 0x11

abbrev pub serves_what_was_not_sensed : List (TimedEvent 2 1)
serves_what_was_not_sensed = sensed 0 5 (zeros 1 1) (holds 5 1 (whole 1) 0 ∷ []) ∷ at 0 (Read 1 1 Waiting) ∷ []

abbrev pub senses_another_line : List (TimedEvent 2 1)
senses_another_line = sensed 0 5 (zeros 1 1) (holds 5 2 (whole 0) 0 ∷ []) ∷ at 0 (Read 1 1 Waiting) ∷ []

abbrev pub pulses_twice : List (TimedEvent 2 1)
pulses_twice = pulsed 5 15 (Iterate (Stored 1 3)) 3 (holds 15 3 (whole 0x11) 2 ∷ []) ∷ begun 0x11

abbrev pub pulses_another_line : List (TimedEvent 2 1)
pulses_another_line = pulsed 5 15 (Iterate (Stored 1 3)) 2 (holds 15 3 (whole 0x11) 0 ∷ []) ∷ begun 0x11

-- Registers in the array

-- a write is begun while a change stands
abbrev pub begins_with_a_change : List (TimedEvent 2 1)
begins_with_a_change = sensed 20 25 (Begin More) (holds 25 1 (whole 0) 0 ∷ []) ∷ at 20 (Write 2 1 (whole 0x22) both Accepted) ∷ kept_begun

-- a cut that reads no control line, and one that tears the change without saying so
abbrev pub cuts_unread : List (TimedEvent 2 1)
cuts_unread = at 17 (Cut false) ∷ stored

abbrev pub cuts_unpulsed : List (TimedEvent 2 1)
cuts_unpulsed = record { happens = Core (Cut false); tick = 25; first = 25; senses = read_controls 25 0; pulsed = None; cancels = false } ∷ kept_begun

-- the writing goes on after it has halted
abbrev pub keeps_on_halted : List (TimedEvent 2 1)
keeps_on_halted =
    kept 30 35 (KeepBegin keep.More) (holds 35 7 (whole 0) 1 ∷ []) ∷ kept_on 20 30 (KeepIterate keep.Halted) 7 (holds 30 7 (whole 0) 1 ∷ []) ∷ kept_begun

-- another item's line is written
abbrev pub keeps_another : List (TimedEvent 2 1)
keeps_another = kept_on 20 30 (KeepIterate keep.Done) 8 (holds 30 8 (whole 0) 1 ∷ []) ∷ kept_begun
