-- How long the parts of a row and a whole row are.
use Rattle.std.proofs.Common.{ℕ, ◌+◌, ◌*◌, ◌^◌, ◌<◌, ◌≤◌, ◌≡◌, List, [], ◌∷◌, ◌++◌, length, Option, None, Some, length-append, append_assoc, add-zero, sym, suc, refl, arith, lit≤}
use Rattle.std.specs.{Fmt.decimal, List.join_with_byte, Option.ForSome, Prelude.codes}
use Rattle.pcm_io.{specs.Reserved.{Reserved, appended}, proofs.DigitLemmas.{five_digits, six_digits, twenty_digits}}
use Rattle.hex.{specs.Hex.{encode_lower, lower_digits}, proofs.HexLemmas.length-encode_with}
use Rattle.result_rows.specs.{Outcomes.{outcome_word, tick_of, place_of, bytes_of}, RowText.{op_letter, line_of, decimal_or_empty, hex_or_empty, row_text, rows_text}}
use Rattle.result_rows.specs.{declared.Op.Op, declared.Outcome.Outcome}
use Rattle.result_rows.specs.declared.Op.TheVariants as op
use Rattle.result_rows.specs.declared.Outcome.TheVariants as out

-- three fields that were pushed one by one, with a comma behind each, and then four more and LF
pub pieces-row : (t : Reserved) (a b c d e f g : List ℕ) →
    appended (appended (appended (appended t (a ++ codes ",")) (b ++ codes ",")) (c ++ codes ",")) (join_with_byte 44 (d ∷ e ∷ f ∷ g ∷ []) ++ codes "\n")
    ≡ appended t (join_with_byte 44 (a ∷ b ∷ c ∷ d ∷ e ∷ f ∷ g ∷ []) ++ codes "\n")
pieces-row t a b c d e f g = simp append_assoc

-- four fields that were pushed one by one, with a comma behind each but the last, and LF at the end
pub pieces-outcome : (t : Reserved) (d e f g : List ℕ) →
    appended (appended (appended (appended (appended t (d ++ codes ",")) (e ++ codes ",")) (f ++ codes ",")) g) (codes "\n")
    ≡ appended t (join_with_byte 44 (d ∷ e ∷ f ∷ g ∷ []) ++ codes "\n")
pieces-outcome t d e f g = simp append_assoc

-- the letter of an operation is one byte
pub length-op_letter : (asked : Op) → length (op_letter asked) ≡ 1
length-op_letter asked = grind arith

-- the word of an outcome is at most nine bytes
pub length-outcome_word-le : {n : ℕ} (outcome : Outcome n) → length (outcome_word outcome) ≤ 9
length-outcome_word-le out.Unset = lit≤ tt
length-outcome_word-le _ = lit≤ tt

-- a number that has at most so many digits, or nothing
pub length-decimal_or_empty-le : (number : Option ℕ) (most : ℕ) → ForSome number (λ n. length (decimal n) ≤ most) → length (decimal_or_empty number) ≤ most
length-decimal_or_empty-le None most short = omega arith
length-decimal_or_empty-le (Some n) most short = short n refl

-- a line's number, or nothing for a cut
pub length-line-le : (asked : Op) (line : ℕ) → line ≤ 65535 → length (decimal_or_empty (line_of asked line)) ≤ 5
length-line-le op.Cut line fits = omega arith
length-line-le _ line fits = five_digits line (omega arith)

-- two digits for each byte, or nothing
pub length-hex_or_empty-le : (bytes : Option (List ℕ)) (most : ℕ) → ForSome bytes (λ bs. length bs ≤ most) → length (hex_or_empty bytes) ≤ 2 * most
length-hex_or_empty-le None most short = omega arith
length-hex_or_empty-le (Some bs) most short =
    let digits : length (encode_lower bs) ≡ 2 * length bs = length-encode_with lower_digits bs in
    let fits : length bs ≤ most = short bs refl in
    omega arith

-- a row within the limits is at most 64 bytes and two for each byte of a line
pub length-row_text-le : {n : ℕ} (row : ℕ) (asked : Op) (line : ℕ) (outcome : Outcome n) → row ≤ 400000 → line ≤ 65535
    → ForSome (tick_of outcome) (λ tick. tick < 2 ^ 64) → ForSome (place_of outcome) (λ place. place ≤ 98831)
    → ForSome (bytes_of outcome) (λ bytes. length bytes ≤ n) → length (row_text row asked line outcome) ≤ 64 + 2 * n
length-row_text-le {n = n} row asked line outcome row_fits line_fits tick_fits place_fits bytes_fit =
    let letter : length (op_letter asked) ≡ 1 = length-op_letter asked in
    let word : length (outcome_word outcome) ≤ 9 = length-outcome_word-le outcome in
    let number : length (decimal row) ≤ 6 = six_digits row (omega arith) in
    let lines : length (decimal_or_empty (line_of asked line)) ≤ 5 = length-line-le asked line line_fits in
    let ticks : length (decimal_or_empty (tick_of outcome)) ≤ 20 =
    length-decimal_or_empty-le (tick_of outcome) 20 (λ tick is. twenty_digits tick (tick_fits tick is)) in
    let places : length (decimal_or_empty (place_of outcome)) ≤ 5 =
    length-decimal_or_empty-le (place_of outcome) 5 (λ place is. five_digits place (let fits : place ≤ 98831 = place_fits place is in omega arith)) in
    let digits : length (hex_or_empty (bytes_of outcome)) ≤ 2 * n = length-hex_or_empty-le (bytes_of outcome) n bytes_fit in
    simp length-append (omega arith)

-- the rows of two lists
pub rows_text-append : {n : ℕ} (row : ℕ) (first second : List (Op × ℕ × Outcome n)) → rows_text row (first ++ second) ≡ rows_text row first ++ rows_text (row + length first) second
rows_text-append row [] second = rw (add-zero row) refl
rows_text-append {n = n} row (r ∷ rest) second =
    let number : (row + 1) + length rest ≡ row + suc (length rest) = omega arith in
    let later : rows_text (row + 1) (rest ++ second) ≡ rows_text (row + 1) rest ++ rows_text (row + suc (length rest)) second =
    rw number at (rows_text-append (row + 1) rest second) in
    rw later (sym (append_assoc (row_text row r.0 r.1 r.2) (rows_text (row + 1) rest) (rows_text (row + suc (length rest)) second)))
