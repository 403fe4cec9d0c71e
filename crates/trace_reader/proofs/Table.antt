-- How the digits of a payload are read by what `hex` says of each character.
use Rattle.std.proofs.Common.{◌≡◌, ℕ, zero, suc, ◌+◌, ◌*◌, ◌/◌, ◌%◌, ◌<◌, ◌≤◌, ◌==◌, List, [], ◌∷◌, length, get_or, Bool, true, false, Option, Some, None, refl, sym, ap, ◌∙◌, arith, unwrap_or, max, inl, inr, ◌≢◌}
use Rattle.std.{specs.Prelude.{option_map, if◌then◌else◌, Result, Ok, Err}, specs.Result.result_ok, proofs.lemmas.Bool.cases_lt}
use Rattle.std.proofs.lemmas.Bool.Decides.{nat_tests}
use Rattle.hex.specs.{Hex.{decode_pairs, hex_digit_value, digit_or_error, ◌>>=◌}, declared.error.FromHexError.FromHexError}
use Rattle.hex.specs.declared.error.FromHexError.TheVariants.{InvalidStringLength, OddLength}
use Rattle.trace_reader.specs.Payload.{bytes_of, value_of}

-- the value of a hexadecimal digit
pub digit-small : (c v : ℕ) → hex_digit_value c ≡ Some v → v < 16
digit-small c v h = grind (arith, nat_tests)

-- a digit's value, or 255
abbrev pub or_none : Option ℕ → ℕ
or_none found = unwrap_or found 255

pub value_of_digit : (c : ℕ) → value_of c ≡ or_none (hex_digit_value c)
unfolding value_of
value_of_digit c = go (hex_digit_value c)
  where
    go : (found : Option ℕ) → unwrap_or (result_ok (digit_or_error c 1 found >>= (λ l. Ok (0 * 16 + l)))) 255 ≡ or_none found
    go found = grind arith

-- a byte in front of bytes
abbrev byte_before : ℕ → Option (List ℕ) → Option (List ℕ)
byte_before byte rest = option_map (λ bytes. byte ∷ bytes) rest

-- two digits and what is behind them
pair-read : (high low i : ℕ) (a b : Option ℕ) (rest : Result (List ℕ) FromHexError)
    → ((v : ℕ) → a ≡ Some v → v < 16) → ((v : ℕ) → b ≡ Some v → v < 16) → or_none a < 16 → or_none b < 16
    → result_ok ((digit_or_error high i a >>= (λ h. digit_or_error low (i + 1) b >>= (λ l. Ok (h * 16 + l)))) >>= (λ byte. rest >>= (λ bytes. Ok (byte ∷ bytes))))
    ≡ byte_before (or_none a * 16 + or_none b) (result_ok rest)
pair-read high low i a b rest f g p q = grind arith

pair-bad : (high low i : ℕ) (a b : Option ℕ) (rest : Result (List ℕ) FromHexError)
    → ((v : ℕ) → a ≡ Some v → v < 16) → ((v : ℕ) → b ≡ Some v → v < 16) → 16 ≤ max (or_none a) (or_none b)
    → result_ok ((digit_or_error high i a >>= (λ h. digit_or_error low (i + 1) b >>= (λ l. Ok (h * 16 + l)))) >>= (λ byte. rest >>= (λ bytes. Ok (byte ∷ bytes))))
    ≡ None
pair-bad high low i (Some v) (Some w) rest f g p =
    let small : v < 16 = f v refl in
    let less : w < 16 = g w refl in
    absurd (omega arith)
pair-bad high low i _ _ rest f g p = refl

abbrev pub read_from : ℕ → List ℕ → Option (List ℕ)
read_from i text = result_ok (decode_pairs i text)

next-read : (i high low : ℕ) (rest : List ℕ) → value_of high < 16 → value_of low < 16
    → read_from i (high ∷ low ∷ rest) ≡ byte_before (value_of high * 16 + value_of low) (read_from (i + 2) rest)
unfolding decode_pairs
next-read i high low rest p q =
    let h = value_of_digit high in
    let l = value_of_digit low in
    rw (h, l) (pair-read high low i (hex_digit_value high) (hex_digit_value low) (decode_pairs (i + 2) rest) (digit-small high) (digit-small low) (rw h at p) (rw l at q))

next-bad : (i high low : ℕ) (rest : List ℕ) → 16 ≤ max (value_of high) (value_of low) → read_from i (high ∷ low ∷ rest) ≡ None
unfolding decode_pairs
next-bad i high low rest p =
    let h = value_of_digit high in
    let l = value_of_digit low in
    pair-bad high low i (hex_digit_value high) (hex_digit_value low) (decode_pairs (i + 2) rest) (digit-small high) (digit-small low) (rw (h, l) at p)

-- the first i pairs are digits, and these the bytes that they write
pub record ReadsDigits (text : List ℕ) (i : ℕ) (bytes : List ℕ) : Type 0 where
  pub digits : (k : ℕ) → k < 2 * i → value_of (get_or text k 0) < 16
  pub are : (k : ℕ) → k < i → get_or bytes k 0 ≡ value_of (get_or text (2 * k) 0) * 16 + value_of (get_or text (2 * k + 1) 0)

-- a character that is no digit
bad_from : (i : ℕ) (text : List ℕ) (k : ℕ) → k < length text → 16 ≤ value_of (get_or text k 0) → read_from i text ≡ None
unfolding decode_pairs
bad_from i [] k low bad = absurd (omega arith)
bad_from i (c ∷ []) k low bad = refl
bad_from i (high ∷ digit ∷ rest) zero low bad = next-bad i high digit rest (omega arith)
bad_from i (high ∷ digit ∷ rest) (suc zero) low bad = next-bad i high digit rest (omega arith)
bad_from i (high ∷ digit ∷ rest) (suc (suc k)) low bad =
    elim (cases_lt (max (value_of high) (value_of digit)) 16) [
      | inl good ↦
          next-read i high digit rest (omega arith) (omega arith)
          ∙ ap (byte_before (value_of high * 16 + value_of digit)) (bad_from (i + 2) rest k (omega arith) bad)
      | inr other ↦ next-bad i high digit rest other
    ]

-- digits from first to last
all_from : (i : ℕ) (text bytes : List ℕ) → length text ≡ 2 * length bytes → ((k : ℕ) → k < length text → value_of (get_or text k 0) < 16)
    → ((k : ℕ) → k < length bytes → get_or bytes k 0 ≡ value_of (get_or text (2 * k) 0) * 16 + value_of (get_or text (2 * k + 1) 0))
    → read_from i text ≡ Some bytes
unfolding decode_pairs
all_from i [] [] e digits are = refl
all_from i [] (byte ∷ bytes) e digits are = absurd (omega arith)
all_from i (c ∷ []) bytes e digits are = absurd (omega arith)
all_from i (high ∷ digit ∷ rest) [] e digits are = absurd (omega arith)
all_from i (high ∷ digit ∷ rest) (byte ∷ bytes) e digits are =
    let is : byte ≡ value_of high * 16 + value_of digit = are 0 (omega arith) in
    let more = all_from (i + 2) rest bytes (omega arith) (λ k low. digits (suc (suc k)) (omega arith))
    (λ k low.
    let two : 2 * suc k ≡ suc (suc (2 * k)) = omega arith in
    let three : 2 * suc k + 1 ≡ suc (suc (2 * k + 1)) = omega arith in
    are (suc k) (omega arith)
    ∙ ap (λ j. value_of (get_or (high ∷ digit ∷ rest) j 0) * 16 + value_of (get_or (high ∷ digit ∷ rest) (2 * suc k + 1) 0)) two
    ∙ ap (λ j. value_of (get_or rest (2 * k) 0) * 16 + value_of (get_or (high ∷ digit ∷ rest) j 0)) three) in
    next-read i high digit rest (digits 0 (omega arith)) (digits 1 (omega arith))
    ∙ ap (byte_before (value_of high * 16 + value_of digit)) more ∙ ap (λ b. Some (b ∷ bytes)) (sym is)

-- a text of another length
pub bytes_of-odd : (n : ℕ) (text : List ℕ) → length text % 2 ≢ 0 → bytes_of n text ≡ None
unfolding bytes_of
bytes_of-odd n text odd =
    let is : (length text % 2 == 1) ≡ true = grind (arith, nat_tests) in
    rw is refl

pub bytes_of-other : (n : ℕ) (text : List ℕ) → length text / 2 ≢ n → bytes_of n text ≡ None
unfolding bytes_of
bytes_of-other n text other =
    let is : (length text / 2 == n) ≡ false = grind (arith, nat_tests) in
    go (length text % 2 == 1) (length text / 2 == n) is
  where
    go : (odd same : Bool) → same ≡ false
        → result_ok (if odd then (Err OddLength) else (if same then decode_pairs 0 text else (Err InvalidStringLength))) ≡ None
    go odd same e = grind arith

-- all pairs were read
sized_text : (n : ℕ) (text : List ℕ) → length text ≡ 2 * n → bytes_of n text ≡ read_from 0 text
unfolding bytes_of
sized_text n text e =
    let even : (length text % 2 == 1) ≡ false = grind (arith, nat_tests) in
    let same : (length text / 2 == n) ≡ true = grind (arith, nat_tests) in
    rw (even, same) refl

pub bytes_of-read : (n : ℕ) (text bytes : List ℕ) → length text ≡ 2 * n → length bytes ≡ n → ReadsDigits text n bytes → bytes_of n text ≡ Some bytes
bytes_of-read n text bytes e sized h =
    sized_text n text e ∙ all_from 0 text bytes (omega arith) (λ k low. h.digits k (omega arith)) (λ k low. h.are k (omega arith))

-- not all characters are digits
pub bytes_of-bad : (n : ℕ) (text : List ℕ) (k : ℕ) → length text ≡ 2 * n → k < length text → 16 ≤ value_of (get_or text k 0) → bytes_of n text ≡ None
bytes_of-bad n text k e low bad = sized_text n text e ∙ bad_from 0 text k low bad
