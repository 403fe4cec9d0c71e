-- Each record of a trace has four fields, and no field has an end of a line in it.
use Rattle.std.proofs.Common.{◌≡◌, ℕ, zero, suc, ◌+◌, ◌*◌, ◌<◌, ◌==◌, eqb-true, lit<, ◌&&◌, ◌||◌, Bool, true, false, List, [], ◌∷◌, length, map, Option, Some, None, refl, sym, ap, ◌∙◌, subst, arith, nat_lt, nat_le, unwrap_or, is_some}
use Rattle.std.specs.{Char.is_ascii_digit, List.{list_all, list_any, AllPass}, Option.option_and_then, Prelude.{codes, if◌then◌else◌, not, option_map, Result, Ok, Err}}
use Rattle.std.{specs.Result.result_ok, specs.Str.bytes_eq, specs.Str.Parse.digits_value, proofs.lemmas.Bool.or_from, proofs.lemmas.Bool.Decides.nat_tests}
use Rattle.std.proofs.{lemmas.List.length-map, lemmas.List.Elements.{All-head, All-tail}, lemmas.Slice.Eq.bytes_eq-Decides}
use Rattle.masked_bytes.proofs.Truth.{and_first, and_second}
use Rattle.csv.specs.Records.{field_at}
use Rattle.hex.specs.{Hex.{◌>>=◌, IsBytes, decode_sized, digit_or_error, hex_digit_value, is_hex_digit, pair_value}, declared.error.FromHexError.FromHexError}
use Rattle.hex.proofs.HexLemmas.{decode_of-ok, decode_sized-ok, decode_sized-twice}
use Rattle.check_reader.specs.ResultRows.{AreBytes}
use Rattle.trace_reader.specs.{Number.{is_number, number_of}, Payload.{Masked, bytes_of, masked_by, masked_of, pair_of, pairs_of}}
use Rattle.trace_reader.specs.Rows.{cut_of, event_at, event_of, latest_tick, line_digits, line_of, mask_of, op_of, or_fault, read_of, text_at, tick_of, write_of}
use Rattle.trace_reader.specs.{Trace.{and_then_rows, event_before, events_of, fault_at, is_header, most_rows, rows_from}, declared.event.Event.Event}
use Rattle.trace_reader.specs.{declared.event.EventOp.EventOp, declared.event.EventOp.TheVariants.{Read, Write, Mask, Cut}, declared.fault.Kind.Kind}
use Rattle.trace_reader.{specs.declared.fault.ParseFault.ParseFault, proofs.Lawful.or_fault-ok, proofs.Table.digit-small}
use Rattle.trace_reader.specs.declared.fault.Kind.TheVariants as kind
use Rattle.trace_reader.specs.declared.fault.ParseFault.TheVariants as fault

-- an LF or a CR
abbrev pub is_break : ℕ → Bool
is_break c = (c == 13) || (c == 10)

-- one stands in a text, or in one of some fields
abbrev pub is_broken : List ℕ → Bool
is_broken text = list_any is_break text

abbrev pub any_broken : List (List ℕ) → Bool
any_broken fields = list_any is_broken fields

-- a record of four fields, without one
pub record IsPlain (fields : List (List ℕ)) : Type 0 where
  pub four : length fields ≡ 4
  pub unbroken : any_broken fields ≡ false

abbrev pub ArePlain : List (List (List ℕ)) → Type 0
ArePlain [] = Unit {0}
ArePlain (fields ∷ rows) = IsPlain fields × ArePlain rows

-- ---- texts without one

digit-whole : (c : ℕ) → is_ascii_digit c ≡ true → is_break c ≡ false
digit-whole c h = grind (arith, nat_tests)

digits-whole : (text : List ℕ) → list_all is_ascii_digit text ≡ true → is_broken text ≡ false
digits-whole [] h = refl
digits-whole (c ∷ text) h = or_from (is_break c) (is_broken text) (digit-whole c (and_first _ _ h)) (digits-whole text (and_second (is_ascii_digit c) _ h))

word-whole : (text word : List ℕ) → bytes_eq text word ≡ true → is_broken word ≡ false → is_broken text ≡ false
word-whole text word h whole = ap is_broken ((bytes_eq-Decides text word).0 h) ∙ whole

empty-whole : (text : List ℕ) → (length text == 0) ≡ true → is_broken text ≡ false
empty-whole [] h = refl
empty-whole (c ∷ text) h = absurd (omega (arith, eqb-true (length (c ∷ text)) 0 h))

hex-whole : (c : ℕ) → is_hex_digit c ≡ true → is_break c ≡ false
hex-whole c h = grind (arith, nat_tests)

hexes-whole : (text : List ℕ) → AllPass is_hex_digit text → is_broken text ≡ false
hexes-whole [] all = refl
hexes-whole (c ∷ text) all =
    or_from (is_break c) (is_broken text) (hex-whole c (All-head (λ c. is_hex_digit c ≡ true) c text all)) (hexes-whole text (All-tail (λ c. is_hex_digit c ≡ true) c text all))

-- ---- fields

number-whole : (width most value : ℕ) (text : List ℕ) → number_of width most text ≡ Some value → is_broken text ≡ false
unfolding number_of is_number
number-whole width most value text h = by (is_number width text && nat_le (digits_value 10 text) most) refl h
  where
    by : (b : Bool) → (is_number width text && nat_le (digits_value 10 text) most) ≡ b → (if b then Some (digits_value 10 text) else None) ≡ Some value → is_broken text ≡ false
    by false is q = cc q
    by true is q =
        let number : is_number width text ≡ true = and_first (is_number width text) (nat_le (digits_value 10 text) most) is in
        digits-whole text (and_second (nat_lt 0 (length text) && nat_le (length text) width) (list_all is_ascii_digit text) number)

-- the bytes that hexadecimal digits write, and the digits
payload-ok : (n : ℕ) (text bytes : List ℕ) (r : Result (List ℕ) FromHexError) → decode_sized text n ≡ r → result_ok r ≡ Some bytes
    → AllPass is_hex_digit text × (length bytes ≡ n) × IsBytes bytes
payload-ok n text bytes (Err e) is h = cc h
payload-ok n text bytes (Ok found) is h =
    let size = decode_sized-ok text n found is in
    let whole = decode_of-ok text found (sym (decode_sized-twice text n size) ∙ is) in
    let same : found ≡ bytes = cc in
    rw (← same) (whole.1, omega (arith, whole.2, size), whole.3)

pub bytes-ok : (n : ℕ) (text bytes : List ℕ) → bytes_of n text ≡ Some bytes → AllPass is_hex_digit text × (length bytes ≡ n) × IsBytes bytes
unfolding bytes_of
bytes-ok n text bytes h = payload-ok n text bytes (decode_sized text n) refl h

-- n bytes, one after the other
pub IsBytes-cons : (b : ℕ) (rest : List ℕ) → b < 256 → IsBytes rest → IsBytes (b ∷ rest)
IsBytes-cons b rest h hs zero = h
IsBytes-cons b rest h hs (suc i) = hs i

digit-is : (c v : ℕ) → hex_digit_value c ≡ Some v → is_hex_digit c ≡ true
digit-is c v h = ap is_some h

-- a pair of a masked payload
record PairOk (high low : ℕ) (pair : Option ℕ) : Type 0 where
  first : is_break high ≡ false
  second : is_break low ≡ false
  byte : unwrap_or pair 0 < 256

pair-ok : (high low : ℕ) (pair : Option ℕ) → pair_of high low ≡ Some pair → PairOk high low pair
unfolding pair_of
pair-ok high low pair h = by ((high == 46) && (low == 46)) refl h
  where
    digits : (a b : Option ℕ) → hex_digit_value high ≡ a → hex_digit_value low ≡ b
        → option_map (λ byte. Some byte) (result_ok (digit_or_error high 0 a >>= (λ x. digit_or_error low 1 b >>= (λ y. Ok (x * 16 + y))))) ≡ Some pair → PairOk high low pair
    digits None b is also q = cc q
    digits (Some x) None is also q = cc q
    digits (Some x) (Some y) is also q =
        let same : Some (x * 16 + y) ≡ pair = cc in
        let few = digit-small high x is in
        let small = digit-small low y also in
        record {
          first = hex-whole high (digit-is high x is);
          second = hex-whole low (digit-is low y also);
          byte = rw (← same) (omega (arith, few, small));
        }

    by : (b : Bool) → ((high == 46) && (low == 46)) ≡ b → (if b then Some None else option_map (λ byte. Some byte) (result_ok (pair_value high low 0))) ≡ Some pair → PairOk high low pair
    by true is q =
        let same : None ≡ pair = cc in
        let one : high ≡ 46 = eqb-true high 46 (and_first _ _ is) in
        let other : low ≡ 46 = eqb-true low 46 (and_second (high == 46) _ is) in
        rw (one, other, ← same) record { first = refl; second = refl; byte = lit< tt }
    by false is q = digits (hex_digit_value high) (hex_digit_value low) refl refl q

-- pairs of a masked payload
record PairsOk (text : List ℕ) (pairs : List (Option ℕ)) : Type 0 where
  whole : is_broken text ≡ false
  bytes : IsBytes (map (λ pair. unwrap_or pair 0) pairs)

pairs-ok : (text : List ℕ) (pairs : List (Option ℕ)) → pairs_of text ≡ Some pairs → PairsOk text pairs
unfolding pairs_of
pairs-ok [] pairs h =
    let none : [] ≡ pairs = cc in
    rw (← none) record { whole = refl; bytes = λ i. lit< tt }
pairs-ok (odd ∷ []) pairs h = cc h
pairs-ok (high ∷ low ∷ rest) pairs h = by (pair_of high low) refl (pairs_of rest) refl (λ more is. pairs-ok rest more is) h
  where
    by : (first : Option (Option ℕ)) → pair_of high low ≡ first → (more : Option (List (Option ℕ))) → pairs_of rest ≡ more
        → ((more : List (Option ℕ)) → pairs_of rest ≡ Some more → PairsOk rest more)
        → option_and_then (λ pair. option_map (λ pairs. pair ∷ pairs) more) first ≡ Some pairs → PairsOk (high ∷ low ∷ rest) pairs
    by None is more also ih q = cc q
    by (Some pair) is None also ih q = cc q
    by (Some pair) is (Some more) also ih q =
        let same : pair ∷ more ≡ pairs = cc in
        let here = pair-ok high low pair is in
        let behind = ih more also in
        rw (← same) record {
          whole = or_from (is_break high) (is_broken (low ∷ rest)) here.first (or_from (is_break low) (is_broken rest) here.second behind.whole);
          bytes = IsBytes-cons (unwrap_or pair 0) (map (λ pair. unwrap_or pair 0) more) here.byte behind.bytes;
        }

masked-ok : (n : ℕ) (text : List ℕ) (m : Masked) → masked_of n text ≡ Some m → (is_broken text ≡ false) × AreBytes n m.bytes × (length m.given ≡ n)
unfolding masked_of
masked-ok n text m h = by (pairs_of text) refl h
  where
    made : (pairs : List (Option ℕ)) → PairsOk text pairs → (b : Bool) → ((length pairs == n) && list_any is_some pairs) ≡ b → (if b then Some (masked_by pairs) else None) ≡ Some m
        → (is_broken text ≡ false) × AreBytes n m.bytes × (length m.given ≡ n)
    made pairs ok false is q = cc q
    made pairs ok true is q =
        let same : masked_by pairs ≡ m = cc in
        let size : length pairs ≡ n = eqb-true (length pairs) n (and_first _ _ is) in
        rw (← same) (ok.whole, (length-map pairs _ ∙ size, ok.bytes), length-map pairs _ ∙ size)

    by : (found : Option (List (Option ℕ))) → pairs_of text ≡ found
        → option_and_then (λ pairs. if (length pairs == n) && list_any is_some pairs then Some (masked_by pairs) else None) found ≡ Some m
        → (is_broken text ≡ false) × AreBytes n m.bytes × (length m.given ≡ n)
    by None is q = cc q
    by (Some pairs) is q = made pairs (pairs-ok text pairs is) ((length pairs == n) && list_any is_some pairs) refl q

-- ---- operations

-- what an operation gives are n bytes
abbrev pub GivesBytes : {n : ℕ} → EventOp n → Type 0
GivesBytes (Read line) = Unit {0}
GivesBytes {n} (Write line bytes) = AreBytes n bytes
GivesBytes {n} (Mask line bytes given) = AreBytes n bytes × (length given ≡ n)
GivesBytes Cut = Unit {0}

-- the fields of an operation have no end of a line, and what it gives are bytes
record OpOk {n : ℕ} (line payload : List ℕ) (op : EventOp n) : Type 0 where
  line_whole : is_broken line ≡ false
  payload_whole : is_broken payload ≡ false
  gives : GivesBytes op

if-ok : {U : Type 0} (b : Bool) (r : Result U Kind) (fault : Kind) (u : U) → (if b then r else Err fault) ≡ Ok u → (b ≡ true) × (r ≡ Ok u)
if-ok true r fault u h = (refl, h)
if-ok false r fault u h = cc h

module _ (n lines : ℕ) (line payload : List ℕ) (op : EventOp n) where
  read-ok : read_of n lines line payload ≡ Ok op → OpOk line payload op
  unfolding read_of
  read-ok h =
      let a = or_fault-ok (line_of lines line) kind.Line _ op h in
      let b = if-ok (length payload == 0) (Ok (Read a.0)) kind.Payload op a.2 in
      let same : Read a.0 ≡ op = cc b.1 in
      rw (← same) record { line_whole = number-whole (line_digits lines) _ a.0 line a.1; payload_whole = empty-whole payload b.0; gives = tt }

  write-ok : write_of n lines line payload ≡ Ok op → OpOk line payload op
  unfolding write_of
  write-ok h =
      let a = or_fault-ok (line_of lines line) kind.Line _ op h in
      let b = or_fault-ok (bytes_of n payload) kind.Payload _ op a.2 in
      let same : Write a.0 b.0 ≡ op = cc b.2 in
      let ok = bytes-ok n payload b.0 b.1 in
      rw (← same) record { line_whole = number-whole (line_digits lines) _ a.0 line a.1; payload_whole = hexes-whole payload ok.0; gives = (ok.1, ok.2) }

  mask-ok : mask_of n lines line payload ≡ Ok op → OpOk line payload op
  unfolding mask_of
  mask-ok h =
      let a = or_fault-ok (line_of lines line) kind.Line _ op h in
      let b = or_fault-ok (masked_of n payload) kind.Payload _ op a.2 in
      let same : Mask a.0 b.0.bytes b.0.given ≡ op = cc b.2 in
      let ok = masked-ok n payload b.0 b.1 in
      rw (← same) record { line_whole = number-whole (line_digits lines) _ a.0 line a.1; payload_whole = ok.0; gives = (ok.1, ok.2) }

  cut-ok : cut_of n lines line payload ≡ Ok op → OpOk line payload op
  unfolding cut_of
  cut-ok h = by (length line == 0) refl (length payload == 0) refl h
    where
      by : (a : Bool) → (length line == 0) ≡ a → (b : Bool) → (length payload == 0) ≡ b
          → (if not a then Err kind.Line else if not b then Err kind.Payload else Ok Cut) ≡ Ok op → OpOk line payload op
      by false is b also q = cc q
      by true is false also q = cc q
      by true is true also q =
          let same : Cut ≡ op = cc q in
          rw (← same) record { line_whole = empty-whole line is; payload_whole = empty-whole payload also; gives = tt }

  op-ok : (word : List ℕ) → op_of n lines word line payload ≡ Ok op → (is_broken word ≡ false) × OpOk line payload op
  unfolding op_of
  op-ok word h = by (bytes_eq word (codes "R")) refl (bytes_eq word (codes "W")) refl (bytes_eq word (codes "M")) refl (bytes_eq word (codes "C")) refl h
    where
      by : (r : Bool) → bytes_eq word (codes "R") ≡ r → (w : Bool) → bytes_eq word (codes "W") ≡ w → (m : Bool) → bytes_eq word (codes "M") ≡ m → (c : Bool) → bytes_eq word (codes "C") ≡ c
          → (if r then read_of n lines line payload else if w then write_of n lines line payload else if m then mask_of n lines line payload else if c then cut_of n lines line payload else Err kind.Op) ≡ Ok op
          → (is_broken word ≡ false) × OpOk line payload op
      by true is w isw m ism c isc q = (word-whole word (codes "R") is refl, read-ok q)
      by false is true isw m ism c isc q = (word-whole word (codes "W") isw refl, write-ok q)
      by false is false isw true ism c isc q = (word-whole word (codes "M") ism refl, mask-ok q)
      by false is false isw false ism true isc q = (word-whole word (codes "C") isc refl, cut-ok q)
      by false is false isw false ism false isc q = cc q

-- ---- records

event-op : {n : ℕ} (tick : ℕ) (r : Result (EventOp n) Kind) (event : Event n) → event_at tick r ≡ Ok event → r ≡ Ok event.op
event-op tick (Err e) event h = cc h
event-op {n} tick (Ok op) event h =
    let at : Event n = record { tick = tick; op = op } in
    let same : at ≡ event = cc in
    ap (λ (event : Event n). Ok event.op) same

-- what a record of four fields says
abbrev row_event : (n lines before : ℕ) → List (List ℕ) → Result (Event n) Kind
row_event n lines before fields =
    or_fault (tick_of (text_at fields 0)) kind.Tick (λ tick.
    if nat_lt tick before then Err kind.Order
    else event_at tick (op_of n lines (text_at fields 1) (text_at fields 2) (text_at fields 3)))

-- a record that is an event
event-ok : (n lines before : ℕ) (fields : List (List ℕ)) (event : Event n) → event_of n lines before fields ≡ Ok event → IsPlain fields × GivesBytes event.op
unfolding event_of field_at
event-ok n lines before fields event h = four fields (length fields == 4) refl h
  where
    ordered : (tick : ℕ) (op line payload : List ℕ) (b : Bool) → (if b then Err kind.Order else event_at tick (op_of n lines op line payload)) ≡ Ok event
        → (is_broken op ≡ false) × OpOk line payload event.op
    ordered tick op line payload true q = cc q
    ordered tick op line payload false q = op-ok n lines line payload event.op op (event-op tick (op_of n lines op line payload) event q)

    plain : (a b c d : List ℕ) → row_event n lines before (a ∷ b ∷ c ∷ d ∷ []) ≡ Ok event → IsPlain (a ∷ b ∷ c ∷ d ∷ []) × GivesBytes event.op
    plain a b c d q =
        let s = or_fault-ok (tick_of a) kind.Tick _ event q in
        let rest = ordered s.0 b c d (nat_lt s.0 before) s.2 in (
          record {
            four = refl;
            unbroken =
                or_from (is_broken a) (any_broken (b ∷ c ∷ d ∷ [])) (number-whole 13 latest_tick s.0 a s.1)
                (or_from (is_broken b) (any_broken (c ∷ d ∷ [])) rest.0
                (or_from (is_broken c) (any_broken (d ∷ [])) rest.1.line_whole (or_from (is_broken d) false rest.1.payload_whole refl)));
          },
          rest.1.gives,
        )

    four : (fields : List (List ℕ)) (b : Bool) → (length fields == 4) ≡ b → (if not b then Err kind.Fields else row_event n lines before fields) ≡ Ok event → IsPlain fields × GivesBytes event.op
    four fields false is q = cc q
    four [] true is q = absurd (cc is)
    four (a ∷ []) true is q = absurd (cc is)
    four (a ∷ b ∷ []) true is q = absurd (cc is)
    four (a ∷ b ∷ c ∷ []) true is q = absurd (cc is)
    four (a ∷ b ∷ c ∷ d ∷ []) true is q = plain a b c d q
    four (a ∷ b ∷ c ∷ d ∷ e ∷ more) true is q = absurd (omega (arith, eqb-true (length (a ∷ b ∷ c ∷ d ∷ e ∷ more)) 4 is))

-- each of some events gives bytes
abbrev pub AllGiveBytes : {n : ℕ} → List (Event n) → Type 0
AllGiveBytes [] = Unit {0}
AllGiveBytes (event ∷ events) = GivesBytes event.op × AllGiveBytes events

rows-ok : (n lines row before : ℕ) (rows : List (List (List ℕ))) (events : List (Event n)) → rows_from n lines row before rows ≡ Ok events → ArePlain rows × AllGiveBytes events
unfolding rows_from
rows-ok n lines row before [] events h =
    let none : [] ≡ events = cc in
    (tt, subst AllGiveBytes none tt)
rows-ok n lines row before (fields ∷ rest) events h =
    by (nat_lt most_rows row) (event_of n lines before fields) refl (λ event more is. rows-ok n lines (row + 1) event.tick rest more is) h
  where
    behind : (event : Event n) (more : Result (List (Event n)) ParseFault) → rows_from n lines (row + 1) event.tick rest ≡ more → IsPlain fields × GivesBytes event.op
        → ((more : List (Event n)) → rows_from n lines (row + 1) event.tick rest ≡ Ok more → ArePlain rest × AllGiveBytes more)
        → event_before event more ≡ Ok events → ArePlain (fields ∷ rest) × AllGiveBytes events
    behind event (Err e) is here ih q = cc q
    behind event (Ok more) is here ih q =
        let same : event ∷ more ≡ events = cc in
        let all = ih more is in
        ((here.0, all.0), subst AllGiveBytes same (here.1, all.1))

    by : (b : Bool) (r : Result (Event n) Kind) → event_of n lines before fields ≡ r
        → ((event : Event n) (more : List (Event n)) → rows_from n lines (row + 1) event.tick rest ≡ Ok more → ArePlain rest × AllGiveBytes more)
        → (if b then Err fault.TooMany else and_then_rows row r (λ event. rows_from n lines (row + 1) event.tick rest)) ≡ Ok events → ArePlain (fields ∷ rest) × AllGiveBytes events
    by true r is ih q = cc q
    by false (Err e) is ih q = cc q
    by false (Ok event) is ih q = behind event (rows_from n lines (row + 1) event.tick rest) refl (event-ok n lines before fields event is) (λ more is. ih event more is) q

first-of-five : (a b c d e : Bool) → (a && b && c && d && e) ≡ true → a ≡ true
first-of-five true b c d e h = refl
first-of-five false b c d e h = h

header-plain : (fields : List (List ℕ)) → is_header fields ≡ true → IsPlain fields
unfolding is_header field_at
header-plain [] h = absurd (cc h)
header-plain (a ∷ []) h = absurd (cc h)
header-plain (a ∷ b ∷ []) h = absurd (cc h)
header-plain (a ∷ b ∷ c ∷ []) h = absurd (cc h)
header-plain (a ∷ b ∷ c ∷ d ∷ []) h =
    let tick : Bool = bytes_eq a (codes "tick") in
    let op : Bool = bytes_eq b (codes "op") in
    let arg : Bool = bytes_eq c (codes "arg") in
    let payload : Bool = bytes_eq d (codes "data") in
    let three : (tick && op && arg) ≡ true = and_first (tick && op && arg) payload h in
    let two : (tick && op) ≡ true = and_first (tick && op) arg three in
    let first : tick ≡ true = and_first tick op two in
    let second : op ≡ true = and_second tick op two in
    let third : arg ≡ true = and_second (tick && op) arg three in
    let last : payload ≡ true = and_second (tick && op && arg) payload h in
    record {
      four = refl;
      unbroken =
          or_from (is_broken a) (any_broken (b ∷ c ∷ d ∷ [])) (word-whole a (codes "tick") first refl)
          (or_from (is_broken b) (any_broken (c ∷ d ∷ [])) (word-whole b (codes "op") second refl)
          (or_from (is_broken c) (any_broken (d ∷ [])) (word-whole c (codes "arg") third refl) (or_from (is_broken d) false (word-whole d (codes "data") last refl) refl)));
    }
header-plain (a ∷ b ∷ c ∷ d ∷ e ∷ more) h =
    absurd (omega (
      arith,
      eqb-true (length (a ∷ b ∷ c ∷ d ∷ e ∷ more)) 4
          (first-of-five (length (a ∷ b ∷ c ∷ d ∷ e ∷ more) == 4) (bytes_eq a (codes "tick")) (bytes_eq b (codes "op")) (bytes_eq c (codes "arg")) (bytes_eq d (codes "data")) h),
    ))

pub records-ok : (n lines : ℕ) (rows : List (List (List ℕ))) (events : List (Event n)) → events_of n lines rows ≡ Ok events → ArePlain rows × AllGiveBytes events
unfolding events_of
records-ok n lines [] events h = cc h
records-ok n lines (first ∷ rows) events h = by (is_header first) refl h
  where
    by : (b : Bool) → is_header first ≡ b → (if b then rows_from n lines 1 0 rows else fault_at 0 kind.Header) ≡ Ok events → ArePlain (first ∷ rows) × AllGiveBytes events
    by false is q = cc q
    by true is q =
        let all = rows-ok n lines 1 0 rows events q in
        ((header-plain first is, all.0), all.1)
