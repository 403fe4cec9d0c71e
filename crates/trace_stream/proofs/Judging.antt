-- What is kept of a record is enough to judge it.
use Rattle.std.proofs.Common.{◌≡◌, ◌≢◌, ℕ, suc, zero, ◌<◌, ◌≤◌, ◌==◌, ◌&&◌, ◌||◌, nat_lt, nat_le, List, [], ◌∷◌, length, take, map, min, not, Bool, true, false, Option, Some, None, inl, inr, unwrap_or, refl, sym, ap, ◌∙◌, arith}
use Rattle.std.{specs.Prelude.{option_map, codes, if◌then◌else◌, Result, Ok, Err}, specs.Str.bytes_eq, proofs.lemmas.Bool.cases_lt, proofs.lemmas.Bool.Decides.nat_tests}
use Rattle.std.proofs.{lemmas.List.{length-map, length-take, length-take-le, take_all}, lemmas.Slice.Eq.bytes_eq-Decides}
use Rattle.csv.specs.Records.{field_at}
use Rattle.trace_reader.specs.{Number.number_of, Payload.{Masked, bytes_of, masked_of}}
use Rattle.trace_reader.specs.{Rows.{cut_of, event_at, event_of, latest_tick, line_digits, line_of, mask_of, op_of, or_fault, read_of, text_at, tick_of, write_of}, Trace.is_header}
use Rattle.trace_reader.specs.{declared.event.Event.Event, declared.event.EventOp.EventOp, declared.event.EventOp.TheVariants.{Read, Write, Mask}, declared.fault.Kind.Kind}
use Rattle.trace_reader.proofs.{Numbers.{line_digits-few, number_of-length}, Pairs.masked_of-length, Table.{bytes_of-odd, bytes_of-other}}
use Rattle.trace_reader.specs.declared.fault.Kind.TheVariants as kind
use Rattle.trace_stream.specs.Asked.{any_of, asked_of, from_one, is_any, is_look, is_peek, is_query, is_settle, is_settle_word, is_until, peek_of, row_of, settle_of, until_of}
use Rattle.trace_stream.specs.{Kept.{kept_field, kept_fields}, declared.asked.Peek.Peek as Peeked, declared.asked.Until.Until as Waited, declared.asked.UntilAny.UntilAny as Awaited}

-- a field is kept whole, or it is too long
short-kept : (field : List ℕ) → length field ≤ 257 → kept_field field ≡ field
unfolding kept_field
short-kept field short = take_all 257 field short

long-kept : (field : List ℕ) → 257 < length field → length (kept_field field) ≡ 257
unfolding kept_field
long-kept field long = length-take-le 257 field (omega arith)

-- a number
too-long : (size width : ℕ) → width < size → (nat_lt 0 size && nat_le size width) ≡ false
too-long size width long = grind (arith, nat_tests)

number-kept : (width most : ℕ) (field : List ℕ) → width < 257 → number_of width most (kept_field field) ≡ number_of width most field
number-kept width most field narrow =
    elim (cases_lt 257 (length field)) [
      | inl long ↦
          let size = long-kept field long in
          number_of-length width most (kept_field field) (too-long (length (kept_field field)) width (omega arith))
          ∙ sym (number_of-length width most field (too-long (length field) width (omega arith)))
      | inr short ↦ ap (number_of width most) (short-kept field short)
    ]

-- a word
other-length : (xs ys : List ℕ) → length xs ≢ length ys → bytes_eq xs ys ≡ false
other-length xs ys other = by (bytes_eq xs ys) refl
  where
    by : (b : Bool) → bytes_eq xs ys ≡ b → b ≡ false
    by true e = absurd (other (ap length ((bytes_eq-Decides xs ys).0 e)))
    by false e = refl

word-kept : (field word : List ℕ) → length word < 257 → bytes_eq (kept_field field) word ≡ bytes_eq field word
word-kept field word few =
    elim (cases_lt 257 (length field)) [
      | inl long ↦
          let size = long-kept field long in
          other-length (kept_field field) word (omega arith) ∙ sym (other-length field word (omega arith))
      | inr short ↦ ap (λ (f : List ℕ). bytes_eq f word) (short-kept field short)
    ]

-- nothing
empty-kept : (field : List ℕ) → (length (kept_field field) == 0) ≡ (length field == 0)
empty-kept field =
    elim (cases_lt 257 (length field)) [
      | inl long ↦
          let size = long-kept field long in
          let a : (length (kept_field field) == 0) ≡ false = grind (arith, nat_tests) in
          let b : (length field == 0) ≡ false = grind (arith, nat_tests) in
          a ∙ sym b
      | inr short ↦ ap (λ (f : List ℕ). length f == 0) (short-kept field short)
    ]

-- bytes
bytes-kept : (n : ℕ) (field : List ℕ) → n ≤ 128 → bytes_of n (kept_field field) ≡ bytes_of n field
bytes-kept n field small =
    elim (cases_lt 257 (length field)) [
      | inl long ↦
          let size = long-kept field long in
          bytes_of-odd n (kept_field field) (omega arith) ∙ sym (bytes_of-other n field (omega arith))
      | inr short ↦ ap (bytes_of n) (short-kept field short)
    ]

masked-kept : (n : ℕ) (field : List ℕ) → n ≤ 128 → masked_of n (kept_field field) ≡ masked_of n field
masked-kept n field small =
    elim (cases_lt 257 (length field)) [
      | inl long ↦
          let size = long-kept field long in
          masked_of-length n (kept_field field) (omega arith) ∙ sym (masked_of-length n field (omega arith))
      | inr short ↦ ap (masked_of n) (short-kept field short)
    ]

-- how many fields there are
five-kept : (size : ℕ) → (min 5 size == 4) ≡ (size == 4)
five-kept size =
    elim (cases_lt 5 size) [
      | inl many ↦
          let a : (min 5 size == 4) ≡ false = grind (arith, nat_tests) in
          let b : (size == 4) ≡ false = grind (arith, nat_tests) in
          a ∙ sym b
      | inr few ↦
          let same : min 5 size ≡ size = omega arith in
          ap (λ (k : ℕ). k == 4) same
    ]

pub four-kept : (fields : List (List ℕ)) → (length (kept_fields fields) == 4) ≡ (length fields == 4)
unfolding kept_fields
four-kept fields =
    let size : length (take 5 (map kept_field fields)) ≡ min 5 (length fields) = length-take 5 (map kept_field fields) ∙ ap (min 5) (length-map fields kept_field) in
    ap (λ (k : ℕ). k == 4) size ∙ five-kept (length fields)

-- the field at a place
field_at-kept : (n i : ℕ) (fields : List (List ℕ)) → i < n → field_at (take n (map kept_field fields)) i ≡ option_map kept_field (field_at fields i)
unfolding field_at
field_at-kept zero i fields below = absurd (omega arith)
field_at-kept (suc n) i [] below = refl
field_at-kept (suc n) zero (field ∷ fields) below = refl
field_at-kept (suc n) (suc i) (field ∷ fields) below = field_at-kept n i fields (omega arith)

or-kept : (o : Option (List ℕ)) → unwrap_or (option_map kept_field o) [] ≡ kept_field (unwrap_or o [])
unfolding kept_field
or-kept None = refl
or-kept (Some field) = refl

text_at-kept : (fields : List (List ℕ)) (i : ℕ) → i < 5 → text_at (kept_fields fields) i ≡ kept_field (text_at fields i)
unfolding kept_fields
text_at-kept fields i below =
    ap (λ (o : Option (List ℕ)). unwrap_or o []) (field_at-kept 5 i fields below) ∙ or-kept (field_at fields i)

-- an operation, by the answers to its tests
module _ (n lines : ℕ) (small : n ≤ 128) where
  abbrev read_by : Option ℕ → Bool → Result (EventOp n) Kind
  read_by line none = or_fault line kind.Line (λ line. if none then Ok (Read line) else Err kind.Payload)

  abbrev write_by : Option ℕ → Option (List ℕ) → Result (EventOp n) Kind
  write_by line bytes = or_fault line kind.Line (λ line. or_fault bytes kind.Payload (λ bytes. Ok (Write line bytes)))

  abbrev mask_by : Option ℕ → Option Masked → Result (EventOp n) Kind
  mask_by line found = or_fault line kind.Line (λ line. or_fault found kind.Payload (λ m. Ok (Mask line m.bytes m.given)))

  line-kept : (line : List ℕ) → line_of lines (kept_field line) ≡ line_of lines line
  line-kept line = number-kept (line_digits lines) _ line (omega (arith, line_digits-few lines))

  read-kept : (line payload : List ℕ) → read_of n lines (kept_field line) (kept_field payload) ≡ read_of n lines line payload
  unfolding read_of
  read-kept line payload =
      ap (λ (o : Option ℕ). read_by o (length (kept_field payload) == 0)) (line-kept line)
      ∙ ap (read_by (line_of lines line)) (empty-kept payload)

  write-kept : (line payload : List ℕ) → write_of n lines (kept_field line) (kept_field payload) ≡ write_of n lines line payload
  unfolding write_of
  write-kept line payload =
      ap (λ (o : Option ℕ). write_by o (bytes_of n (kept_field payload))) (line-kept line)
      ∙ ap (write_by (line_of lines line)) (bytes-kept n payload small)

  mask-kept : (line payload : List ℕ) → mask_of n lines (kept_field line) (kept_field payload) ≡ mask_of n lines line payload
  unfolding mask_of
  mask-kept line payload =
      ap (λ (o : Option ℕ). mask_by o (masked_of n (kept_field payload))) (line-kept line)
      ∙ ap (mask_by (line_of lines line)) (masked-kept n payload small)

  cut-kept : (line payload : List ℕ) → cut_of n lines (kept_field line) (kept_field payload) ≡ cut_of n lines line payload
  unfolding cut_of
  cut-kept line payload = rw (empty-kept line, empty-kept payload) refl

  op-kept : (op line payload : List ℕ) → op_of n lines (kept_field op) (kept_field line) (kept_field payload) ≡ op_of n lines op line payload
  unfolding op_of
  op-kept op line payload =
      rw (
        word-kept op (codes "R") (omega arith),
        word-kept op (codes "W") (omega arith),
        word-kept op (codes "M") (omega arith),
        word-kept op (codes "C") (omega arith),
        read-kept line payload,
        write-kept line payload,
        mask-kept line payload,
        cut-kept line payload,
      ) refl

  -- a row, by its tests
  abbrev event_by : ℕ → Bool → Option ℕ → Result (EventOp n) Kind → Result (Event n) Kind
  event_by before four tick op =
      if not four then Err kind.Fields
      else or_fault tick kind.Tick (λ tick. if nat_lt tick before then Err kind.Order else event_at tick op)

  event-kept : (before : ℕ) (fields : List (List ℕ)) → event_of n lines before (kept_fields fields) ≡ event_of n lines before fields
  unfolding event_of
  event-kept before fields =
      let tick : tick_of (text_at (kept_fields fields) 0) ≡ tick_of (text_at fields 0) = ap tick_of (text_at-kept fields 0 (omega arith)) ∙ number-kept 13 latest_tick (text_at fields 0) (omega arith) in
      let op : op_of n lines (text_at (kept_fields fields) 1) (text_at (kept_fields fields) 2) (text_at (kept_fields fields) 3) ≡ op_of n lines (text_at fields 1) (text_at fields 2) (text_at fields 3)
      = ap (λ (t : List ℕ). op_of n lines t (text_at (kept_fields fields) 2) (text_at (kept_fields fields) 3)) (text_at-kept fields 1 (omega arith))
      ∙ ap (λ (t : List ℕ). op_of n lines (kept_field (text_at fields 1)) t (text_at (kept_fields fields) 3)) (text_at-kept fields 2 (omega arith))
      ∙ ap (λ (t : List ℕ). op_of n lines (kept_field (text_at fields 1)) (kept_field (text_at fields 2)) t) (text_at-kept fields 3 (omega arith))
      ∙ op-kept (text_at fields 1) (text_at fields 2) (text_at fields 3) in
      ap (λ (four : Bool). event_by before four (tick_of (text_at (kept_fields fields) 0)) (op_of n lines (text_at (kept_fields fields) 1) (text_at (kept_fields fields) 2) (text_at (kept_fields fields) 3))) (four-kept fields)
      ∙ ap (λ (o : Option ℕ). event_by before (length fields == 4) o (op_of n lines (text_at (kept_fields fields) 1) (text_at (kept_fields fields) 2) (text_at (kept_fields fields) 3))) tick
      ∙ ap (event_by before (length fields == 4) (tick_of (text_at fields 0))) op

-- a row that settles, by its tests
abbrev settle_by : ℕ → Option ℕ → Bool → Bool → Result ℕ Kind
settle_by before tick line payload =
    or_fault tick kind.Tick (λ tick.
    if nat_lt tick before then Err kind.Order
    else if not line then Err kind.Line
    else if not payload then Err kind.Payload
    else Ok tick)

empty_at-kept : (fields : List (List ℕ)) (i : ℕ) → i < 5 → (length (text_at (kept_fields fields) i) == 0) ≡ (length (text_at fields i) == 0)
empty_at-kept fields i below = ap (λ (t : List ℕ). length t == 0) (text_at-kept fields i below) ∙ empty-kept (text_at fields i)

word_at-kept : (fields : List (List ℕ)) (i : ℕ) (word : List ℕ) → i < 5 → length word < 257 → bytes_eq (text_at (kept_fields fields) i) word ≡ bytes_eq (text_at fields i) word
word_at-kept fields i word below few = ap (λ (t : List ℕ). bytes_eq t word) (text_at-kept fields i below) ∙ word-kept (text_at fields i) word few

settle-kept : (before : ℕ) (fields : List (List ℕ)) → settle_of before (kept_fields fields) ≡ settle_of before fields
unfolding settle_of
settle-kept before fields =
    let tick : tick_of (text_at (kept_fields fields) 0) ≡ tick_of (text_at fields 0) = ap tick_of (text_at-kept fields 0 (omega arith)) ∙ number-kept 13 latest_tick (text_at fields 0) (omega arith) in
    ap (λ (o : Option ℕ). settle_by before o (length (text_at (kept_fields fields) 2) == 0) (length (text_at (kept_fields fields) 3) == 0)) tick
    ∙ ap (λ (b : Bool). settle_by before (tick_of (text_at fields 0)) b (length (text_at (kept_fields fields) 3) == 0)) (empty_at-kept fields 2 (omega arith))
    ∙ ap (settle_by before (tick_of (text_at fields 0)) (length (text_at fields 2) == 0)) (empty_at-kept fields 3 (omega arith))

-- a settle until, by its tests
abbrev until_by : ℕ → Option ℕ → Option ℕ → Bool → Result Waited Kind
until_by before tick row payload =
    or_fault tick kind.Tick (λ tick.
    if nat_lt tick before then Err kind.Order
    else or_fault row kind.Line (λ row.
    if not payload then Err kind.Payload
    else Ok (record { row = row; limit = tick; reached = before })))

until-kept : (rows before : ℕ) (fields : List (List ℕ)) → until_of rows before (kept_fields fields) ≡ until_of rows before fields
unfolding until_of
until-kept rows before fields =
    let tick : tick_of (text_at (kept_fields fields) 0) ≡ tick_of (text_at fields 0) = ap tick_of (text_at-kept fields 0 (omega arith)) ∙ number-kept 13 latest_tick (text_at fields 0) (omega arith) in
    let row : row_of rows (text_at (kept_fields fields) 2) ≡ row_of rows (text_at fields 2) = ap (row_of rows) (text_at-kept fields 2 (omega arith)) ∙ ap from_one (number-kept 10 rows (text_at fields 2) (omega arith)) in
    ap (λ (o : Option ℕ). until_by before o (row_of rows (text_at (kept_fields fields) 2)) (length (text_at (kept_fields fields) 3) == 0)) tick
    ∙ ap (λ (o : Option ℕ). until_by before (tick_of (text_at fields 0)) o (length (text_at (kept_fields fields) 3) == 0)) row
    ∙ ap (until_by before (tick_of (text_at fields 0)) (row_of rows (text_at fields 2))) (empty_at-kept fields 3 (omega arith))

-- one that names no row, by its tests
abbrev any_by : ℕ → Option ℕ → Bool → Result Awaited Kind
any_by before tick payload =
    or_fault tick kind.Tick (λ tick.
    if nat_lt tick before then Err kind.Order
    else if not payload then Err kind.Payload
    else Ok (record { limit = tick; reached = before }))

any-kept : (before : ℕ) (fields : List (List ℕ)) → any_of before (kept_fields fields) ≡ any_of before fields
unfolding any_of
any-kept before fields =
    let tick : tick_of (text_at (kept_fields fields) 0) ≡ tick_of (text_at fields 0) = ap tick_of (text_at-kept fields 0 (omega arith)) ∙ number-kept 13 latest_tick (text_at fields 0) (omega arith) in
    ap (λ (o : Option ℕ). any_by before o (length (text_at (kept_fields fields) 3) == 0)) tick
    ∙ ap (any_by before (tick_of (text_at fields 0))) (empty_at-kept fields 3 (omega arith))

-- a peek, by its tests
abbrev peek_by : ℕ → Option ℕ → Option ℕ → Bool → Result Peeked Kind
peek_by before tick line payload =
    or_fault tick kind.Tick (λ tick.
    if nat_lt tick before then Err kind.Order
    else or_fault line kind.Line (λ line.
    if payload then Ok (record { tick = tick; line = line }) else Err kind.Payload))

peek-kept : (lines before : ℕ) (fields : List (List ℕ)) → peek_of lines before (kept_fields fields) ≡ peek_of lines before fields
unfolding peek_of
peek-kept lines before fields =
    let tick : tick_of (text_at (kept_fields fields) 0) ≡ tick_of (text_at fields 0) = ap tick_of (text_at-kept fields 0 (omega arith)) ∙ number-kept 13 latest_tick (text_at fields 0) (omega arith) in
    let line : line_of lines (text_at (kept_fields fields) 2) ≡ line_of lines (text_at fields 2) = ap (line_of lines) (text_at-kept fields 2 (omega arith)) ∙ line-kept 0 lines (omega arith) (text_at fields 2) in
    ap (λ (o : Option ℕ). peek_by before o (line_of lines (text_at (kept_fields fields) 2)) (length (text_at (kept_fields fields) 3) == 0)) tick
    ∙ ap (λ (o : Option ℕ). peek_by before (tick_of (text_at fields 0)) o (length (text_at (kept_fields fields) 3) == 0)) line
    ∙ ap (peek_by before (tick_of (text_at fields 0)) (line_of lines (text_at fields 2))) (empty_at-kept fields 3 (omega arith))

is_query-kept : (fields : List (List ℕ)) → is_query (kept_fields fields) ≡ is_query fields
is_query-kept fields = word_at-kept fields 1 (codes "Q") (omega arith) (omega arith)

is_look-kept : (fields : List (List ℕ)) → is_look (kept_fields fields) ≡ is_look fields
is_look-kept fields = word_at-kept fields 1 (codes "L") (omega arith) (omega arith)

is_until-kept : (fields : List (List ℕ)) → is_until (kept_fields fields) ≡ is_until fields
is_until-kept fields = word_at-kept fields 1 (codes "U") (omega arith) (omega arith)

is_any-kept : (fields : List (List ℕ)) → is_any (kept_fields fields) ≡ is_any fields
is_any-kept fields =
    ap (λ (b : Bool). b && (length (text_at (kept_fields fields) 2) == 0)) (is_until-kept fields) ∙ ap (λ (b : Bool). is_until fields && b) (empty_at-kept fields 2 (omega arith))

is_peek-kept : (fields : List (List ℕ)) → is_peek (kept_fields fields) ≡ is_peek fields
is_peek-kept fields = word_at-kept fields 1 (codes "P") (omega arith) (omega arith)

pub is_settle-kept : (fields : List (List ℕ)) → is_settle (kept_fields fields) ≡ is_settle fields
is_settle-kept fields =
    ap (λ (b : Bool). b && is_settle_word (text_at (kept_fields fields) 1)) (four-kept fields)
    ∙ ap (λ (b : Bool). (length fields == 4) && (b || is_query (kept_fields fields) || is_look (kept_fields fields) || is_until (kept_fields fields) || is_peek (kept_fields fields))) (word_at-kept fields 1 (codes "S") (omega arith) (omega arith))
    ∙ ap (λ (b : Bool). (length fields == 4) && (bytes_eq (text_at fields 1) (codes "S") || b || is_look (kept_fields fields) || is_until (kept_fields fields) || is_peek (kept_fields fields))) (is_query-kept fields)
    ∙ ap (λ (b : Bool). (length fields == 4) && (bytes_eq (text_at fields 1) (codes "S") || is_query fields || b || is_until (kept_fields fields) || is_peek (kept_fields fields))) (is_look-kept fields)
    ∙ ap (λ (b : Bool). (length fields == 4) && (bytes_eq (text_at fields 1) (codes "S") || is_query fields || is_look fields || b || is_peek (kept_fields fields))) (is_until-kept fields)
    ∙ ap (λ (b : Bool). (length fields == 4) && (bytes_eq (text_at fields 1) (codes "S") || is_query fields || is_look fields || is_until fields || b)) (is_peek-kept fields)

-- a row and the header are judged by what is kept of them
pub asked-kept : (n lines rows before : ℕ) (fields : List (List ℕ)) → n ≤ 128 → asked_of n lines rows before (kept_fields fields) ≡ asked_of n lines rows before fields
unfolding asked_of
asked-kept n lines rows before fields small =
    rw (
      is_settle-kept fields,
      is_any-kept fields,
      is_peek-kept fields,
      is_query-kept fields,
      is_look-kept fields,
      is_until-kept fields,
      settle-kept before fields,
      until-kept rows before fields,
      any-kept before fields,
      peek-kept lines before fields,
      event-kept n lines small before fields,
    ) refl

abbrev header_by : Bool → Bool → Bool → Bool → Bool → Bool
header_by four tick op arg payload = four && tick && op && arg && payload

pub header-kept : (fields : List (List ℕ)) → is_header (kept_fields fields) ≡ is_header fields
unfolding is_header
header-kept fields =
    rw (
      four-kept fields,
      word_at-kept fields 0 (codes "tick") (omega arith) (omega arith),
      word_at-kept fields 1 (codes "op") (omega arith) (omega arith),
      word_at-kept fields 2 (codes "arg") (omega arith) (omega arith),
      word_at-kept fields 3 (codes "data") (omega arith) (omega arith),
    ) refl
