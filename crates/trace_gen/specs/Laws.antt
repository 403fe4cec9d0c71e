-- The laws of printed and of generated traces.
use Rattle.std.specs.Prelude.{◌≡◌, ℕ, ◌+◌, ◌*◌, ◌≤◌, Bool, true, false, List, [], ◌∷◌, ◌++◌, length, count_by, Some, Ok}
use Rattle.rand_core.specs.Stream.{fill_bytes}
use Rattle.hex.specs.Hex.{IsBytes}
use Rattle.csv.specs.{Machine.next_record, Reading.default_config}
use Rattle.csv.specs.declared.parser.State.TheVariants as st
use Rattle.trace_reader.specs.{Events.{AreEventsFor, IsEventFor}, Rows.event_of, Trace.{most_rows, trace_of}, declared.event.Event.Event, declared.event.EventOp.EventOp}
use Rattle.trace_reader.specs.declared.event.EventOp.TheVariants.{Read, Write, Mask, Cut}
use Rattle.trace_gen.specs.{EventText.{event_fields, event_row, trace_text}, Generated.{IsLongMix, IsMix, bytes_of_words, generated, stream_lines, whole_lines, words_left}}
use Rattle.trace_gen.specs.declared.mix.Mix.{Mix}

-- the line numbers of a trace have at most eight digits
abbrev pub numbered_lines : ℕ
numbered_lines = 100000000

module _ {n : ℕ} where
  -- what an operation gives are bytes
  abbrev pub HasBytes : EventOp n → Type 0
  HasBytes (Read line) = Unit {0}
  HasBytes (Write line bytes) = IsBytes bytes
  HasBytes (Mask line bytes given) = IsBytes bytes
  HasBytes Cut = Unit {0}

  -- the same of each event
  unfoldable pub AllHaveBytes : List (Event n) → Type 0
  AllHaveBytes [] = Unit {0}
  AllHaveBytes (event ∷ rest) = HasBytes event.op × AllHaveBytes rest

  -- no event has a tick above this
  unfoldable pub AllWithin : ℕ → List (Event n) → Type 0
  AllWithin most [] = Unit {0}
  AllWithin most (event ∷ rest) = (event.tick ≤ most) × AllWithin most rest

  -- whether an event is a cut of the power
  abbrev pub is_cut : EventOp n → Bool
  is_cut (Read line) = false
  is_cut (Write line bytes) = false
  is_cut (Mask line bytes given) = false
  is_cut Cut = true

  -- how many cuts there are
  abbrev pub cuts_among : List (Event n) → ℕ
  cuts_among events = count_by (λ event. is_cut event.op) events

  -- a printed row is read as the fields that it was printed of, and these as the event
  pub record RowReadsBack (lines before : ℕ) (event : Event n) (behind : List ℕ) : Type 0 where
    pub fields : next_record default_config st.StartRecord [] [] (event_row event ++ behind) ≡ Some (event_fields event, st.StartRecord, behind)
    pub reads : event_of n lines before (event_fields event) ≡ Ok event

-- every event for the lines of a module, whatever stands behind its row
abbrev pub RowLaw : Type 0
RowLaw = (n lines before : ℕ) (event : Event n) (behind : List ℕ) → lines ≤ numbered_lines → IsEventFor lines before event → HasBytes event.op → RowReadsBack lines before event behind

-- the text of any trace's events is read as these events
abbrev pub TextLaw : Type 0
TextLaw = (n lines : ℕ) (events : List (Event n)) → lines ≤ numbered_lines → AreEventsFor lines 0 events → AllHaveBytes events → length events ≤ most_rows
    → trace_of n lines (trace_text events) ≡ Ok events

-- the text of a generated trace is read as the events that were drawn
abbrev pub GeneratedTextLaw : Type 0
GeneratedTextLaw = (n seed lines : ℕ) (mix : Mix) → 1 ≤ lines → lines ≤ whole_lines → IsMix mix
    → trace_of n lines (trace_text (generated n seed lines mix)) ≡ Ok (generated n seed lines mix)

-- what the events of a generated trace are like
pub record IsGenerated {n : ℕ} (lines : ℕ) (mix : Mix) (events : List (Event n)) : Type 0 where
  pub lawful : AreEventsFor lines 0 events
  pub bytes : AllHaveBytes events
  pub rows : length events ≡ mix.rows
  pub cuts : cuts_among events ≡ mix.cuts
  pub ticks : AllWithin (mix.rows * mix.step) events

-- of as many rows as their ticks allow
abbrev pub LongGeneratedLaw : Type 0
LongGeneratedLaw = (n seed lines : ℕ) (mix : Mix) → 1 ≤ lines → lines ≤ stream_lines → IsLongMix mix → IsGenerated lines mix (generated n seed lines mix)

-- a mix for a whole trace is one for a long one
abbrev pub LongMixLaw : Type 0
LongMixLaw = (mix : Mix) → IsMix mix → IsLongMix mix

abbrev pub GeneratedLaw : Type 0
GeneratedLaw = (n seed lines : ℕ) (mix : Mix) → 1 ≤ lines → lines ≤ whole_lines → IsMix mix → IsGenerated lines mix (generated n seed lines mix)

-- the bytes of a write are those of the next words, eight of each, lowest byte first
abbrev pub PayloadLaw : Type 0
PayloadLaw = (words : ℕ) (state : List ℕ) → fill_bytes (8 * words) (words_left state) ≡ bytes_of_words words (words_left state)

-- a generated trace takes at most 17 bytes for its header, and for each row 21 bytes and two for each byte of a line
abbrev pub GeneratedSizeLaw : Type 0
GeneratedSizeLaw = (n seed lines : ℕ) (mix : Mix) → 1 ≤ lines → lines ≤ whole_lines → IsMix mix
    → length (trace_text (generated n seed lines mix)) ≤ 17 + mix.rows * (2 * n + 21)
