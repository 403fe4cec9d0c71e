-- Worked histories of a small bank with lines of two bytes and one check byte, the newest event first.
-- A sense takes 5 ticks and an iteration 10; bank line 3 stands in array line 3.
use Rattle.std.specs.Prelude.{ℕ, List, [], ◌∷◌, Bool, true, false, Some, None}
use Rattle.cell_rows.specs.declared.array.Sense.{Sense}
use Rattle.bank_shape.specs.{declared.BankShape.BankShape, declared.Home.Home, declared.answer.ReadAnswer.TheVariants.{Waiting, Forwarded}}
use Rattle.bank_shape.specs.{declared.answer.Step.TheVariants.{More, Stored, Moved}, declared.answer.WriteAnswer.TheVariants.{Accepted, Merged}, declared.pace.Pace.Pace}
use Rattle.bank_shape.specs.declared.pace.Policy.{Policy}
use Rattle.bank_shape.specs.declared.Home.TheVariants as home
use Rattle.bank_shape.specs.declared.answer.Keep.TheVariants as keep
use Rattle.bank_model.specs.{Events.{BankEvent, Write, Read, Serve, Begin, Iterate, Cut}, Timing.{TimedEvent, Core, Regs, Keeping, KeepBegin, KeepIterate, KeepCut}}

-- four lines, two spares, registers kept so, and a gap move after so many stores
abbrev pub keeping : Home → ℕ → BankShape
keeping where_ psi = record { base = 0; regions = 1; lines = 4; spares = 2; writes = 4; reads = 4; psi = psi; home = where_ }

abbrev pub moving : ℕ → BankShape
moving psi = keeping home.Guarded psi

abbrev pub small : BankShape
small = moving 100

abbrev pub pace : Policy → Pace
pace policy = record { read = 5; iter = 10; policy = policy }

abbrev pub whole : ℕ → List ℕ
whole b = b ∷ b ∷ []

abbrev pub both : List Bool
both = true ∷ true ∷ []

abbrev pub first : List Bool
first = true ∷ false ∷ []

-- an arrival at a tick
abbrev pub at : ℕ → BankEvent 2 → TimedEvent 2 1
at tick event = record { happens = Core event; tick = tick; first = tick; senses = []; pulsed = None; cancels = false }

-- the end of a sense, and of an iteration of an array line
abbrev pub sensed : ℕ → ℕ → BankEvent 2 → List (Sense 2 1) → TimedEvent 2 1
sensed from tick event senses =
    record { happens = Core event; tick = tick; first = from; senses = senses; pulsed = None; cancels = false }

abbrev pub pulsed : ℕ → ℕ → BankEvent 2 → ℕ → List (Sense 2 1) → TimedEvent 2 1
pulsed from tick event line senses =
    record { happens = Core event; tick = tick; first = from; senses = senses; pulsed = Some line; cancels = false }

-- a cut that tears an array line; and a cancel that does
abbrev pub torn : ℕ → ℕ → TimedEvent 2 1
torn tick line = record { happens = Core (Cut true); tick = tick; first = tick; senses = []; pulsed = Some line; cancels = false }

abbrev pub cancel : ℕ → ℕ → TimedEvent 2 1
cancel tick line = record { happens = Core (Cut true); tick = tick; first = tick; senses = []; pulsed = Some line; cancels = true }

-- a sense of a line that holds two bytes, after so many pulses
abbrev pub holds : ℕ → ℕ → List ℕ → ℕ → Sense 2 1
holds tick line bytes pulses = record { line = line; tick = tick; cells = record { bits = bytes; meta = 0 ∷ [] }; pulses = pulses }

-- a write of line 3 that is begun
abbrev pub begun : ℕ → List (TimedEvent 2 1)
begun b = sensed 0 5 (Begin More) (holds 5 3 (whole 0) 0 ∷ []) ∷ at 0 (Write 1 3 (whole b) both Accepted) ∷ []

-- a read of line 1 comes in its first iteration
abbrev pub in_flight : List (TimedEvent 2 1)
in_flight = at 7 (Read 2 1 Waiting) ∷ begun 0xff

abbrev pub zeros : ℕ → ℕ → BankEvent 2
zeros row place = Serve (record { row = row; place = place; bytes = whole 0 })

-- under Pause it is served between the iterations; under Plain behind them
abbrev pub paused : List (TimedEvent 2 1)
paused =
    pulsed 20 30 (Iterate (Stored 1 3)) 3 (holds 30 3 (whole 0xff) 2 ∷ []) ∷ sensed 15 20 (zeros 2 1) (holds 20 1 (whole 0) 0 ∷ [])
    ∷ pulsed 5 15 (Iterate More) 3 (holds 15 3 (0xfe ∷ 0xff ∷ []) 1 ∷ []) ∷ in_flight

abbrev pub not_paused : List (TimedEvent 2 1)
not_paused =
    sensed 25 30 (zeros 2 1) (holds 30 1 (whole 0) 0 ∷ []) ∷ pulsed 15 25 (Iterate (Stored 1 3)) 3 (holds 25 3 (whole 0xff) 2 ∷ [])
    ∷ pulsed 5 15 (Iterate More) 3 (holds 15 3 (0xfe ∷ 0xff ∷ []) 1 ∷ []) ∷ in_flight

-- under Cancel it tears the iteration
abbrev pub cancelled : List (TimedEvent 2 1)
cancelled =
    pulsed 17 27 (Iterate (Stored 1 3)) 3 (holds 27 3 (whole 0xff) 2 ∷ []) ∷ sensed 12 17 (Begin More) (holds 17 3 (0xab ∷ 0xff ∷ []) 1 ∷ [])
    ∷ sensed 7 12 (zeros 2 1) (holds 12 1 (whole 0) 0 ∷ []) ∷ at 7 (Read 2 1 Waiting) ∷ cancel 7 3 ∷ begun 0xff

-- two entries of one line stand after a cut, and the newer one is merged into. The torn line already holds the older one's bytes
abbrev pub two_entries : List (TimedEvent 2 1)
two_entries =
    pulsed 20 30 (Iterate (Stored 4 3)) 3 (holds 30 3 (whole 0x33) 2 ∷ []) ∷ sensed 15 20 (Begin More) (holds 20 3 (whole 0x11) 1 ∷ [])
    ∷ sensed 10 15 (Begin (Stored 1 3)) (holds 15 3 (whole 0x11) 1 ∷ []) ∷ at 10 (Read 5 3 (Forwarded (whole 0x33)))
    ∷ at 10 (Write 4 3 (whole 0x33) both (Merged 2)) ∷ torn 10 3 ∷ at 6 (Write 2 3 (whole 0x22) both Accepted) ∷ begun 0x11

-- a write of line 3 is stored
abbrev pub stored : List (TimedEvent 2 1)
stored = pulsed 5 15 (Iterate (Stored 1 3)) 3 (holds 15 3 (whole 0x11) 1 ∷ []) ∷ begun 0x11

-- a write of the first byte is being begun as a read comes, which waits on the same line and drops the begin
abbrev pub dropped_begin : List (TimedEvent 2 1)
dropped_begin =
    pulsed 112 122 (Iterate (Stored 2 3)) 3 (holds 122 3 (0xee ∷ 0x11 ∷ []) 2 ∷ []) ∷ sensed 107 112 (Begin More) (holds 112 3 (whole 0x11) 1 ∷ [])
    ∷ sensed 102 107 (Serve (record { row = 3; place = 3; bytes = 0xee ∷ 0x11 ∷ [] })) (holds 107 3 (whole 0x11) 1 ∷ [])
    ∷ at 102 (Read 3 3 Waiting) ∷ at 100 (Write 2 3 (0xee ∷ 0 ∷ []) first Accepted) ∷ stored

-- a store makes a gap move due: line 3 goes from place 3 to the gap, place 4
abbrev pub copied_as : List ℕ → List (TimedEvent 2 1)
copied_as bytes =
    pulsed 20 30 (Iterate (Moved (record { line = 3; from = 3; to = 4 }))) 4 (holds 30 4 bytes 1 ∷ [])
    ∷ sensed 15 20 (Begin More) (holds 20 3 (whole 0x11) 1 ∷ holds 20 4 (whole 0) 0 ∷ []) ∷ stored

-- Registers in the array: control lines 7 to 10 of the region, the two spares and the mark

abbrev pub in_array : BankShape
in_array = keeping home.Array 100

-- the end of a sense, and of an iteration, of a change's control line; and a cancel of its iteration
abbrev pub kept : ℕ → ℕ → Keeping → List (Sense 2 1) → TimedEvent 2 1
kept from tick event senses = record { happens = Regs event; tick = tick; first = from; senses = senses; pulsed = None; cancels = false }

abbrev pub kept_on : ℕ → ℕ → Keeping → ℕ → List (Sense 2 1) → TimedEvent 2 1
kept_on from tick event line senses = record { happens = Regs event; tick = tick; first = from; senses = senses; pulsed = Some line; cancels = false }

abbrev pub kept_cancel : ℕ → ℕ → TimedEvent 2 1
kept_cancel tick line = record { happens = Regs (KeepCut true); tick = tick; first = tick; senses = []; pulsed = Some line; cancels = true }

-- a power cut reads every control line; one that tears a control line is no tear of the bank's
abbrev pub read_controls : ℕ → ℕ → List (Sense 2 1)
read_controls tick pulses = holds tick 7 (whole 0) pulses ∷ holds tick 8 (whole 0) 0 ∷ holds tick 9 (whole 0) 0 ∷ holds tick 10 (whole 0) 0 ∷ []

abbrev pub cut_of_control : ℕ → TimedEvent 2 1
cut_of_control tick = record { happens = Core (Cut false); tick = tick; first = tick; senses = read_controls tick 1; pulsed = Some 7; cancels = false }

abbrev pub cut_of_bank : ℕ → TimedEvent 2 1
cut_of_bank tick = record { happens = Core (Cut true); tick = tick; first = tick; senses = read_controls tick 0; pulsed = Some 3; cancels = false }

-- the region's item is written after the store; a read that comes meanwhile is served between
abbrev pub kept_begun : List (TimedEvent 2 1)
kept_begun = kept 15 20 (KeepBegin keep.More) (holds 20 7 (whole 0) 0 ∷ []) ∷ stored

abbrev pub kept_done : List (TimedEvent 2 1)
kept_done =
    kept_on 35 45 (KeepIterate keep.Done) 7 (holds 45 7 (0 ∷ 1 ∷ []) 2 ∷ []) ∷ sensed 30 35 (zeros 2 1) (holds 35 1 (whole 0) 0 ∷ [])
    ∷ kept_on 20 30 (KeepIterate keep.More) 7 (holds 30 7 (whole 0) 1 ∷ []) ∷ at 25 (Read 2 1 Waiting) ∷ kept_begun

-- two writes; the writing of the first one's item is torn, and done again, before the second is begun
abbrev pub kept_torn : List (TimedEvent 2 1)
kept_torn =
    pulsed 45 55 (Iterate (Stored 2 1)) 1 (holds 55 1 (whole 0x22) 1 ∷ []) ∷ sensed 40 45 (Begin More) (holds 45 1 (whole 0) 0 ∷ [])
    ∷ kept_on 30 40 (KeepIterate keep.Done) 7 (holds 40 7 (0 ∷ 1 ∷ []) 2 ∷ []) ∷ kept 25 30 (KeepBegin keep.More) (holds 30 7 (whole 0) 1 ∷ [])
    ∷ cut_of_control 25 ∷ kept_begun_two
  where
    kept_begun_two : List (TimedEvent 2 1)
    kept_begun_two =
        kept 15 20 (KeepBegin keep.More) (holds 20 7 (whole 0) 0 ∷ []) ∷ pulsed 5 15 (Iterate (Stored 1 3)) 3 (holds 15 3 (whole 0x11) 1 ∷ [])
        ∷ sensed 0 5 (Begin More) (holds 5 3 (whole 0) 0 ∷ []) ∷ at 0 (Write 2 1 (whole 0x22) both Accepted) ∷ at 0 (Write 1 3 (whole 0x11) both Accepted) ∷ []

-- the second write is of the line that is being written back; the control line is worn, and the second write stays
abbrev pub kept_halted : List (TimedEvent 2 1)
kept_halted = at 40 (Write 2 1 (whole 0x22) both Accepted) ∷ kept_on 20 30 (KeepIterate keep.Halted) 7 (holds 30 7 (whole 0) 1 ∷ []) ∷ kept_begun

-- a cut tears the bank's line write, and reads every control line
abbrev pub bank_torn : List (TimedEvent 2 1)
bank_torn = cut_of_bank 7 ∷ begun 0x11

-- under Cancel a read breaks off the writing of the item
abbrev pub kept_cancelled : List (TimedEvent 2 1)
kept_cancelled =
    kept 27 32 (KeepBegin keep.Done) (holds 32 7 (0 ∷ 1 ∷ []) 1 ∷ []) ∷ sensed 22 27 (zeros 2 1) (holds 27 1 (whole 0) 0 ∷ []) ∷ at 22 (Read 2 1 Waiting) ∷ kept_cancel 22 7 ∷ kept_begun
