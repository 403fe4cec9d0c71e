-- The text of a trace: a header, and one row for each event.
use Rattle.std.specs.{List.join_with_byte, Prelude.{ℕ, List, [], ◌∷◌, ◌++◌, Bool, if◌then◌else◌, codes, decimal}}
use Rattle.hex.specs.Hex.{encode_lower}
use Rattle.trace_reader.specs.{declared.event.Event.Event, declared.event.EventOp.EventOp, declared.event.EventOp.TheVariants.{Read, Write, Mask, Cut}}

-- the first line of a trace
abbrev pub trace_header : List ℕ
trace_header = codes "tick,op,arg,data\n"

-- the two characters of a byte of a masked write: lower-case hexadecimal digits, or `..` where it isn't given
abbrev pub pair_text : ℕ → Bool → List ℕ
pair_text byte given = if given then encode_lower (byte ∷ []) else codes ".."

-- the characters of the bytes of a masked write
unfoldable pub masked_text : List ℕ → List Bool → List ℕ
masked_text [] given = []
masked_text (byte ∷ bytes) [] = []
masked_text (byte ∷ bytes) (g ∷ given) = pair_text byte g ++ masked_text bytes given

module _ {n : ℕ} where
  -- the letter of an operation
  abbrev pub op_letter : EventOp n → List ℕ
  op_letter (Read line) = codes "R"
  op_letter (Write line bytes) = codes "W"
  op_letter (Mask line bytes given) = codes "M"
  op_letter Cut = codes "C"

  -- the number of its line; a cut has none
  abbrev pub line_text : EventOp n → List ℕ
  line_text (Read line) = decimal line
  line_text (Write line bytes) = decimal line
  line_text (Mask line bytes given) = decimal line
  line_text Cut = []

  -- the bytes that a write gives
  abbrev pub data_text : EventOp n → List ℕ
  data_text (Read line) = []
  data_text (Write line bytes) = encode_lower bytes
  data_text (Mask line bytes given) = masked_text bytes given
  data_text Cut = []

  -- the four fields of a row
  abbrev pub event_fields : Event n → List (List ℕ)
  event_fields event = decimal event.tick ∷ op_letter event.op ∷ line_text event.op ∷ data_text event.op ∷ []

  -- one row: the fields with commas between, and LF at the end
  abbrev pub event_row : Event n → List ℕ
  event_row event = join_with_byte 44 (event_fields event) ++ codes "\n"

  -- the rows of events
  unfoldable pub event_rows : List (Event n) → List ℕ
  event_rows [] = []
  event_rows (event ∷ rest) = event_row event ++ event_rows rest

  -- a whole trace
  abbrev pub trace_text : List (Event n) → List ℕ
  trace_text events = trace_header ++ event_rows events
