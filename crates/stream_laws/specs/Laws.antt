-- What the text of events means as a streamed trace.
use Rattle.std.specs.Prelude.{◌≡◌, ℕ, ◌≤◌, List, length, Ok}
use Rattle.trace_reader.specs.{Events.AreEventsFor, declared.event.Event.Event}
use Rattle.trace_gen.specs.{EventText.trace_text, Generated.{IsLongMix, generated}, Laws.{AllHaveBytes, numbered_lines}, declared.mix.Mix.Mix}
use Rattle.trace_stream.specs.{Laws.all_events, Stream.{most_streamed, stream_of}}

-- the text of events is read as these events
abbrev pub TextLaw : Type 0
TextLaw = (n lines : ℕ) (events : List (Event n)) → lines ≤ numbered_lines → AreEventsFor lines 0 events → AllHaveBytes events → length events ≤ most_streamed
    → stream_of n lines (trace_text events) ≡ Ok (all_events events)

-- the text of a drawn trace is read as the events that were drawn
abbrev pub DrawnLaw : Type 0
DrawnLaw = (n seed lines : ℕ) (mix : Mix) → 1 ≤ lines → lines ≤ 67108864 → IsLongMix mix
    → stream_of n lines (trace_text (generated n seed lines mix)) ≡ Ok (all_events (generated n seed lines mix))
