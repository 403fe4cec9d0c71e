-- How long the rows of a trace are.
use Rattle.std.proofs.Common.{◌≡◌, ℕ, ◌+◌, ◌*◌, ◌^◌, ◌<◌, ◌≤◌, Bool, true, false, List, [], ◌∷◌, ◌++◌, length, refl, ap, arith, length-append, lit<, lit≤}
use Rattle.std.{specs.List.join_with_byte, specs.Prelude.{codes, decimal}, proofs.Math.Nat.suc-mul, proofs.lemmas.Fmt.length-decimal-le}
use Rattle.hex.{specs.Hex.{encode_lower, encode_with, lower_digits}, proofs.HexLemmas.length-encode_with}
use Rattle.trace_reader.specs.{Events.{AreEventsFor, IsEventFor, IsOpFor}, declared.event.Event.Event, declared.event.EventOp.EventOp}
use Rattle.trace_reader.specs.declared.event.EventOp.TheVariants.{Read, Write, Mask, Cut}
use Rattle.pcm_io.proofs.DigitLemmas.{five_digits}
use Rattle.trace_gen.specs.{EventText.{data_text, event_row, event_rows, line_text, masked_text, op_letter, pair_text}, Generated.{generated, whole_lines}}
use Rattle.trace_gen.{specs.Laws.{AllWithin, GeneratedSizeLaw}, proofs.Lawful.{generated_law, span-small}}

letter-size : (n : ℕ) (op : EventOp n) → length (op_letter op) ≡ 1
letter-size n (Read line) = refl
letter-size n (Write line bytes) = refl
letter-size n (Mask line bytes given) = refl
letter-size n Cut = refl

line-size : (n lines : ℕ) (op : EventOp n) → lines ≤ whole_lines → IsOpFor lines op → length (line_text op) ≤ 5
line-size n lines (Read line) few for = five_digits line (omega arith)
line-size n lines (Write line bytes) few for =
    let below : line < lines = for.0 in
    five_digits line (omega arith)
line-size n lines (Mask line bytes given) few for =
    let below : line < lines = for.0 in
    five_digits line (omega arith)
line-size n lines Cut few for = lit≤ tt

pair-size : (byte : ℕ) (given : Bool) → length (pair_text byte given) ≡ 2
unfolding encode_with
pair-size byte true = refl
pair-size byte false = refl

masked-size : (bytes : List ℕ) (given : List Bool) → length (masked_text bytes given) ≤ 2 * length bytes
unfolding masked_text
masked-size [] given = omega arith
masked-size (byte ∷ bytes) [] = omega arith
masked-size (byte ∷ bytes) (g ∷ given) =
    let two = pair-size byte g in
    let rest = masked-size bytes given in
    simp length-append (omega arith)

data-size : (n lines : ℕ) (op : EventOp n) → IsOpFor lines op → length (data_text op) ≤ 2 * n
data-size n lines (Read line) for = omega arith
data-size n lines (Write line bytes) for =
    let digits : length (encode_lower bytes) ≡ 2 * length bytes = length-encode_with lower_digits bytes in
    let size : length bytes ≡ n = for.1 in
    omega arith
data-size n lines (Mask line bytes given) for =
    let digits = masked-size bytes given in
    let size : length bytes ≡ n = for.1.bytes_len in
    omega arith
data-size n lines Cut for = omega arith

-- four fields, three commas and LF
fields-size : (a b c d : List ℕ) → length (join_with_byte 44 (a ∷ b ∷ c ∷ d ∷ []) ++ codes "\n") ≡ length a + length b + length c + length d + 4
fields-size a b c d = simp length-append (omega arith)

row-size : (n lines before : ℕ) (event : Event n) → lines ≤ whole_lines → event.tick < 10 ^ 11 → IsEventFor lines before event → length (event_row event) ≤ 2 * n + 21
row-size n lines before event few early for =
    let whole = fields-size (decimal event.tick) (op_letter event.op) (line_text event.op) (data_text event.op) in
    let tick : length (decimal event.tick) ≤ 11 = length-decimal-le 11 event.tick (lit< tt) early (omega arith) in
    let letter = letter-size n event.op in
    let line = line-size n lines event.op few for.op in
    let bytes = data-size n lines event.op for.op in
    omega arith

rows-size : (n lines before most : ℕ) (events : List (Event n)) → lines ≤ whole_lines → most < 10 ^ 11 → AreEventsFor lines before events → AllWithin most events
    → length (event_rows events) ≤ length events * (2 * n + 21)
unfolding AreEventsFor AllWithin event_rows
rows-size n lines before most [] few early for within = omega arith
rows-size n lines before most (event ∷ rest) few early for within =
    let tick : event.tick ≤ most = within.0 in
    let first = row-size n lines before event few (omega arith) for.0 in
    let behind = rows-size n lines event.tick most rest few early for.1 within.1 in
    let split = suc-mul (length rest) (2 * n + 21) in
    rw length-append (omega arith)

pub generated_size_law : GeneratedSizeLaw
generated_size_law n seed lines mix some few is =
    let all = generated_law n seed lines mix some few is in
    let small = span-small mix is in
    let rows = rows-size n lines 0 (mix.rows * mix.step) (generated n seed lines mix) few (omega arith) all.lawful all.ticks in
    let many : length (generated n seed lines mix) * (2 * n + 21) ≡ mix.rows * (2 * n + 21) = ap (λ (k : ℕ). k * (2 * n + 21)) all.rows in
    omega arith
