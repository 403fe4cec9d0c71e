-- What the rows that are drawn for some banks of a module have to do with all that are drawn.
use Rattle.std.specs.Prelude.{◌≡◌, ℕ, List}
use Rattle.trace_reader.specs.{Events.AreEventsFor, declared.event.Event.Event}
use Rattle.module_shape.specs.{Limits.{IsShape, total_of}, declared.raw.RawShape.RawShape}
use Rattle.drawn_parts.specs.{Parts.drawn_for, declared.Banks.Banks}

-- every bank that a module may have
abbrev pub every_bank : Banks
every_bank = record { first = 0; last = 63 }

-- what is drawn for every bank is all that is drawn
abbrev pub EveryBankLaw : Type 0
EveryBankLaw = (n seed before : ℕ) (raw : RawShape) (events : List (Event n)) → IsShape raw → AreEventsFor (total_of raw) before events
    → drawn_for raw seed every_bank events ≡ events
