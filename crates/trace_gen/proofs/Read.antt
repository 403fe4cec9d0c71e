-- A printed row is read as its event.
use Rattle.std.proofs.Common.{◌≡◌, ℕ, zero, suc, ◌+◌, ◌-◌, ◌*◌, ◌/◌, ◌%◌, ◌^◌, ◌<◌, ◌≤◌, ◌==◌, Bool, true, false, if◌then◌else◌, List, [], ◌∷◌, ◌++◌, length, get_or, Some, refl, ap, ◌∙◌, arith, nat_le, nat_lt, lit<, append-nil, map, length-append}
use Rattle.std.specs.{Char.is_ascii_digit, List.{join_with_byte, list_all, list_any}, Prelude.{codes, decimal, Ok}, Result.result_ok, Str.Parse.{AllDigits, digits_value}}
use Rattle.std.proofs.{lemmas.Bool.Decides.nat_tests, lemmas.Fmt.{decimal_is_IsNumeral, length-decimal-le}, lemmas.Str.Parse.digit_from_value}
use Rattle.csv.specs.{Machine.next_record, Reading.{default_config, records, records_from, records_next, strip_bom}, Records.field_at}
use Rattle.csv.{specs.Writing.{default_writer, fields_text, is_blank, needs_byte, row_text}, proofs.RoundTrip.read-write-many}
use Rattle.csv.specs.declared.parser.State.TheVariants as st
use Rattle.hex.specs.Hex.{IsBytes, encode_lower, encode_with, hex_digit_value, lower_digits}
use Rattle.hex.proofs.HexLemmas.{IsDigits-lower_digits, decode_of-encode_lower, decode_sized-twice, length-encode_with}
use Rattle.trace_reader.specs.{Events.{AreEventsFor, IsEventFor, IsOpFor}, Number.number_of, Payload.bytes_of}
use Rattle.trace_reader.specs.Rows.{cut_of, event_of, latest_tick, line_digits, line_of, mask_of, op_of, read_of, tick_of, write_of}
use Rattle.trace_reader.specs.{Trace.{events_of, is_header, most_rows, rows_from, trace_of}, declared.event.Event.Event, declared.event.EventOp.EventOp}
use Rattle.trace_reader.{specs.declared.event.EventOp.TheVariants.{Read, Write, Mask, Cut}, proofs.Numbers.number_of-some}
use Rattle.trace_gen.specs.EventText.{data_text, event_fields, event_row, event_rows, line_text, masked_text, op_letter, pair_text, trace_header, trace_text}
use Rattle.trace_gen.{specs.Laws.{AllHaveBytes, HasBytes, RowLaw, TextLaw, numbered_lines}, proofs.Masks.masked-read}

-- digits are digits
digits-all : (text : List ℕ) → AllDigits 10 text → list_all is_ascii_digit text ≡ true
digits-all [] h = refl
digits-all (c ∷ text) h =
    let range = digit_from_value c h.0 in
    let one : is_ascii_digit c ≡ true = grind (arith, nat_tests, range) in
    rw one (digits-all text h.1)

-- a printed number is read as the number
pub number-read : (width most n : ℕ) → 0 < width → n < 10 ^ width → n < 2 ^ 64 → n ≤ most → number_of width most (decimal n) ≡ Some n
number-read width most n wide short fits small =
    let numeral = decimal_is_IsNumeral n fits in
    let is : digits_value 10 (decimal n) ≡ n = numeral.1 in
    let length_le : length (decimal n) ≤ width = length-decimal-le width n wide short fits in
    number_of-some width most (decimal n) numeral.0.0 length_le (digits-all (decimal n) numeral.0.1) (omega arith) ∙ ap Some is

tick-read : (tick : ℕ) → tick ≤ latest_tick → tick_of (decimal tick) ≡ Some tick
tick-read tick small = number-read 13 latest_tick tick (lit< tt) (omega arith) (omega arith) small

line-read : (lines line : ℕ) → lines ≤ numbered_lines → line < lines → line_of lines (decimal line) ≡ Some line
line-read lines line few below =
    number-read (line_digits lines) (lines - 1) line (some-digits (nat_le lines 100000)) (short (nat_le lines 100000) refl) (omega arith) (omega arith)
  where
    some-digits : (b : Bool) → 0 < (if b then 5 else 8)
    some-digits true = lit< tt
    some-digits false = lit< tt

    short : (b : Bool) → nat_le lines 100000 ≡ b → line < 10 ^ (if b then 5 else 8)
    short true is = let small : lines ≤ 100000 = grind (arith, nat_tests) in omega arith
    short false is = omega arith

-- printed bytes are read as the bytes
bytes-read : (n : ℕ) (bytes : List ℕ) → length bytes ≡ n → IsBytes bytes → bytes_of n (encode_lower bytes) ≡ Some bytes
unfolding bytes_of
bytes-read n bytes size small =
    let digits : length (encode_lower bytes) ≡ 2 * length bytes = length-encode_with lower_digits bytes in
    ap result_ok (decode_sized-twice (encode_lower bytes) n (omega arith) ∙ decode_of-encode_lower bytes small)

-- the fields of an operation are read as the operation
op-read : (n lines : ℕ) (op : EventOp n) → lines ≤ numbered_lines → IsOpFor lines op → HasBytes op
    → op_of n lines (op_letter op) (line_text op) (data_text op) ≡ Ok op
unfolding op_of read_of write_of mask_of cut_of
op-read n lines (Read line) few for has = rw (line-read lines line few for) refl
op-read n lines (Write line bytes) few for has = rw (line-read lines line few for.0, bytes-read n bytes for.1 has) refl
op-read n lines (Mask line bytes given) few for has = rw (line-read lines line few for.0, masked-read n bytes given for.1 has) refl
op-read n lines Cut few for has = refl

-- the fields of a row are read as its event
pub event-read : (n lines before : ℕ) (event : Event n) → lines ≤ numbered_lines → IsEventFor lines before event → HasBytes event.op
    → event_of n lines before (event_fields event) ≡ Ok event
unfolding event_of field_at
event-read n lines before event few for has =
    let rises : before ≤ event.tick = for.rises in
    let order : nat_lt event.tick before ≡ false = grind (arith, nat_tests) in
    rw (tick-read event.tick for.in_time, order, op-read n lines event.op few for.op has) refl

-- no character of a text is below 46: none is a comma, a quote or an end of a line
abbrev High : List ℕ → Type 0
High [] = Unit {0}
High (c ∷ text) = (46 ≤ c) × High text

High-append : (xs ys : List ℕ) → High xs → High ys → High (xs ++ ys)
High-append [] ys hx hy = hy
High-append (x ∷ xs) ys hx hy = (hx.0, High-append xs ys hx.1 hy)

high-plain : (text : List ℕ) → High text → list_any (needs_byte default_writer) text ≡ false
high-plain [] h = refl
high-plain (c ∷ text) h =
    let above : 46 ≤ c = h.0 in
    let comma : (c == 44) ≡ false = grind (arith, nat_tests) in
    let quote : (c == 34) ≡ false = grind (arith, nat_tests) in
    let return : (c == 13) ≡ false = grind (arith, nat_tests) in
    let feed : (c == 10) ≡ false = grind (arith, nat_tests) in
    rw (comma, quote, return, feed) (high-plain text h.1)

digits-high : (text : List ℕ) → AllDigits 10 text → High text
digits-high [] h = tt
digits-high (c ∷ text) h =
    let range = digit_from_value c h.0 in
    (omega arith, digits-high text h.1)

decimal-high : (n : ℕ) → n < 2 ^ 64 → High (decimal n)
decimal-high n fits = digits-high (decimal n) (decimal_is_IsNumeral n fits).0.1

value-high : (c v : ℕ) → hex_digit_value c ≡ Some v → 46 ≤ c
value-high c v h = grind (arith)

digit-high : (d : ℕ) → d < 16 → 46 ≤ get_or lower_digits d 0
digit-high d small = value-high (get_or lower_digits d 0) d (IsDigits-lower_digits d small)

hex-high : (bytes : List ℕ) → IsBytes bytes → High (encode_lower bytes)
unfolding encode_with
hex-high [] small = tt
hex-high (byte ∷ bytes) small =
    let fits : byte < 256 = small 0 in
    (digit-high (byte / 16) (omega arith), (digit-high (byte % 16) (omega arith), hex-high bytes (λ i. small (suc i))))

pair-high : (byte : ℕ) (given : Bool) → byte < 256 → High (pair_text byte given)
unfolding encode_with
pair-high byte true fits = (digit-high (byte / 16) (omega arith), (digit-high (byte % 16) (omega arith), tt))
pair-high byte false fits = (omega arith, (omega arith, tt))

masked-high : (bytes : List ℕ) (given : List Bool) → IsBytes bytes → High (masked_text bytes given)
unfolding masked_text
masked-high [] given small = tt
masked-high (byte ∷ bytes) [] small = tt
masked-high (byte ∷ bytes) (g ∷ given) small = High-append (pair_text byte g) (masked_text bytes given) (pair-high byte g (small 0)) (masked-high bytes given (λ i. small (suc i)))

letter-high : (n : ℕ) (op : EventOp n) → High (op_letter op)
letter-high n (Read line) = (omega arith, tt)
letter-high n (Write line bytes) = (omega arith, tt)
letter-high n (Mask line bytes given) = (omega arith, tt)
letter-high n Cut = (omega arith, tt)

line-high : (n lines : ℕ) (op : EventOp n) → lines ≤ numbered_lines → IsOpFor lines op → High (line_text op)
line-high n lines (Read line) few for = decimal-high line (omega arith)
line-high n lines (Write line bytes) few for =
    let below : line < lines = for.0 in
    decimal-high line (omega arith)
line-high n lines (Mask line bytes given) few for =
    let below : line < lines = for.0 in
    decimal-high line (omega arith)
line-high n lines Cut few for = tt

data-high : (n : ℕ) (op : EventOp n) → HasBytes op → High (data_text op)
data-high n (Read line) has = tt
data-high n (Write line bytes) has = hex-high bytes has
data-high n (Mask line bytes given) has = masked-high bytes given has
data-high n Cut has = tt

-- a row of four fields without marks is what the default writer writes of them
plain-row : (a b c d : List ℕ) → High a → High b → High c → High d
    → row_text default_writer (a ∷ b ∷ c ∷ d ∷ []) ≡ join_with_byte 44 (a ∷ b ∷ c ∷ d ∷ []) ++ codes "\n"
unfolding fields_text is_blank
plain-row a b c d ha hb hc hd = rw (high-plain a ha, high-plain b hb, high-plain c hc, high-plain d hd, append-nil d) refl

-- so it is read as these fields
pub row-fields : (a b c d behind : List ℕ) → High a → High b → High c → High d
    → next_record default_config st.StartRecord [] [] ((join_with_byte 44 (a ∷ b ∷ c ∷ d ∷ []) ++ codes "\n") ++ behind) ≡ Some (a ∷ b ∷ c ∷ d ∷ [], st.StartRecord, behind)
row-fields a b c d behind ha hb hc hd = rw (plain-row a b c d ha hb hc hd) at (read-write-many a b (c ∷ d ∷ []) behind)

pub event-row : (n lines before : ℕ) (event : Event n) (behind : List ℕ) → lines ≤ numbered_lines → IsEventFor lines before event → HasBytes event.op
    → next_record default_config st.StartRecord [] [] (event_row event ++ behind) ≡ Some (event_fields event, st.StartRecord, behind)
event-row n lines before event behind few for has =
    let in_time : event.tick ≤ latest_tick = for.in_time in
    row-fields (decimal event.tick) (op_letter event.op) (line_text event.op) (data_text event.op) behind
    (decimal-high event.tick (omega arith)) (letter-high n event.op) (line-high n lines event.op few for.op) (data-high n event.op has)

pub row_law : RowLaw
row_law n lines before event behind few for has = record {
  fields = event-row n lines before event behind few for has;
  reads = event-read n lines before event few for has;
}

-- the records of rows
rows-records : (n lines before most : ℕ) (events : List (Event n)) → lines ≤ numbered_lines → AreEventsFor lines before events → AllHaveBytes events → length events ≤ most
    → records_from default_config most st.StartRecord (event_rows events) ≡ map event_fields events
unfolding AreEventsFor AllHaveBytes records_from event_rows next_record
rows-records n lines before zero [] few for has fits = refl
rows-records n lines before (suc most) [] few for has fits = refl
rows-records n lines before zero (event ∷ rest) few for has fits = absurd (omega arith)
rows-records n lines before (suc most) (event ∷ rest) few for has fits =
    rw (event-row n lines before event (event_rows rest) few for.0 has.0)
    (ap (λ (rows : List (List (List ℕ))). event_fields event ∷ rows) (rows-records n lines event.tick most rest few for.1 has.1 (omega arith)))

-- the events of these records
records-events : (n lines row before : ℕ) (events : List (Event n)) → lines ≤ numbered_lines → AreEventsFor lines before events → AllHaveBytes events → row + length events ≤ most_rows + 1
    → rows_from n lines row before (map event_fields events) ≡ Ok events
unfolding AreEventsFor AllHaveBytes rows_from
records-events n lines row before [] few for has fits = refl
records-events n lines row before (event ∷ rest) few for has fits =
    let allowed : nat_lt most_rows row ≡ false = grind (arith, nat_tests) in
    let rest_fits : row + 1 + length rest ≤ most_rows + 1 = omega arith in
    rw (allowed, event-read n lines before event few for.0 has.0, records-events n lines (row + 1) event.tick rest few for.1 has.1 rest_fits) refl

-- each row has bytes
rows-longer : {n : ℕ} (events : List (Event n)) → length events ≤ length (event_rows events)
unfolding event_rows
rows-longer [] = omega arith
rows-longer (event ∷ rest) =
    let more = rows-longer rest in
    simp length-append (omega arith)

-- the header, and the rows behind it
header-record : (behind : List ℕ) → next_record default_config st.StartRecord [] [] (trace_header ++ behind)
    ≡ Some (codes "tick" ∷ codes "op" ∷ codes "arg" ∷ codes "data" ∷ [], st.StartRecord, behind)
header-record behind = row-fields (codes "tick") (codes "op") (codes "arg") (codes "data") behind
    (omega arith, (omega arith, (omega arith, (omega arith, tt)))) (omega arith, (omega arith, tt)) (omega arith, (omega arith, (omega arith, tt)))
    (omega arith, (omega arith, (omega arith, (omega arith, tt))))

abbrev pub header_fields : List (List ℕ)
header_fields = codes "tick" ∷ codes "op" ∷ codes "arg" ∷ codes "data" ∷ []

pub text-records : (n lines : ℕ) (events : List (Event n)) → lines ≤ numbered_lines → AreEventsFor lines 0 events → AllHaveBytes events
    → records default_config (trace_text events) ≡ header_fields ∷ map event_fields events
unfolding records_from
text-records n lines events few for has =
    let more : length (trace_text events) + 1 ≡ suc (length (trace_text events)) = omega arith in
    let longer : length events ≤ length (event_rows events) = rows-longer events in
    let enough : length events ≤ length (trace_text events) = omega arith in
    rw more (ap (records_next (records_from default_config (length (trace_text events)))) (header-record (event_rows events))
    ∙ ap (λ (rows : List (List (List ℕ))). header_fields ∷ rows) (rows-records n lines 0 (length (trace_text events)) events few for has enough))

after-header : (n lines : ℕ) (rows : List (List (List ℕ))) → events_of n lines (header_fields ∷ rows) ≡ rows_from n lines 1 0 rows
unfolding events_of is_header field_at
after-header n lines rows = refl

pub no-mark : {n : ℕ} (events : List (Event n)) → strip_bom (trace_text events) ≡ trace_text events
unfolding strip_bom
no-mark events = refl

pub text_law : TextLaw
unfolding trace_of
text_law n lines events few for has fits =
    ap (λ (text : List ℕ). events_of n lines (records default_config text)) (no-mark events)
    ∙ ap (events_of n lines) (text-records n lines events few for has)
    ∙ after-header n lines (map event_fields events)
    ∙ records-events n lines 1 0 events few for has (omega arith)
