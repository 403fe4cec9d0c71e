-- When a text is a number.
use Rattle.std.proofs.Common.{Bool, if◌then◌else◌, ◌≡◌, ℕ, ◌+◌, ◌-◌, ◌*◌, ◌^◌, ◌<◌, ◌≤◌, List, length, get_or, take, true, false, ◌&&◌, Some, None, refl, sym, ap, ◌∙◌, arith, nat_lt, nat_le}
use Rattle.std.{specs.Char.{is_ascii_digit, digit_value}, specs.List.list_all, specs.Str.Parse.digits_value, proofs.Math.Nat.pow-le-pow_right, proofs.lemmas.Bool.Decides.nat_tests}
use Rattle.std.proofs.{lemmas.Int.Digits.digits_value_more, lemmas.List.take_all, lemmas.List.Folds.{list_all_at, list_all_more}, lemmas.Nat.pow-add, lemmas.Str.digit_value_digit}
use Rattle.std.proofs.lemmas.Str.Parse.{digits_value-take-le}
use Rattle.trace_reader.specs.{Number.{is_number, number_of}, Rows.line_digits}

-- a text that is too short or too long
pub number_of-length : (width most : ℕ) (text : List ℕ) → (nat_lt 0 (length text) && nat_le (length text) width) ≡ false → number_of width most text ≡ None
unfolding number_of is_number
number_of-length width most text h = rw h refl

-- a text with a character that is no digit
pub number_of-not_digit : (width most : ℕ) (text : List ℕ) (i : ℕ) → i < length text → is_ascii_digit (get_or text i 0) ≡ false → number_of width most text ≡ None
unfolding number_of is_number
number_of-not_digit width most text i below other =
    let none = list_all_at is_ascii_digit text i 0 below other in
    grind (arith, none)

-- a text of too great a value
pub number_of-great : (width most : ℕ) (text : List ℕ) → most < digits_value 10 text → number_of width most text ≡ None
unfolding number_of
number_of-great width most text great = grind (arith, nat_tests)

-- the number of a text
pub number_of-some : (width most : ℕ) (text : List ℕ) → 0 < length text → length text ≤ width → list_all is_ascii_digit text ≡ true → digits_value 10 text ≤ most → number_of width most text ≡ Some (digits_value 10 text)
unfolding number_of is_number
number_of-some width most text some short digits small = grind (arith, nat_tests)

-- the first i characters are digits of this value
pub record Reads (text : List ℕ) (i value : ℕ) : Type 0 where
  pub digits : list_all is_ascii_digit (take i text) ≡ true
  pub is : value ≡ digits_value 10 (take i text)

-- the value of one digit more
next_value : (text : List ℕ) (i value digit : ℕ) → i < length text → is_ascii_digit (get_or text i 0) ≡ true → Reads text i value → digit + 48 ≡ get_or text i 0 → digits_value 10 (take (i + 1) text) ≡ value * 10 + digit
next_value text i value digit below is_digit reads e =
    let more = digits_value_more 10 text i below in
    let weighs : digit_value (get_or text i 0) + 48 ≡ get_or text i 0 = digit_value_digit (get_or text i 0) (grind arith) in
    omega (arith, reads.is, ap (λ (n : ℕ). n * 10) reads.is)

pub reads-more : (text : List ℕ) (i value digit : ℕ) → i < length text → is_ascii_digit (get_or text i 0) ≡ true → Reads text i value → digit + 48 ≡ get_or text i 0 → Reads text (i + 1) (value * 10 + digit)
reads-more text i value digit below is_digit reads e = record {
  digits = rw (list_all_more is_ascii_digit text i 0 below, reads.digits) is_digit;
  is = sym (next_value text i value digit below is_digit reads e);
}

-- a value that gets too great
pub number_of-over : (width most : ℕ) (text : List ℕ) (i value digit : ℕ) → i < length text → is_ascii_digit (get_or text i 0) ≡ true → Reads text i value → digit + 48 ≡ get_or text i 0 → most < value * 10 + digit → number_of width most text ≡ None
number_of-over width most text i value digit below is_digit reads e over =
    let next = next_value text i value digit below is_digit reads e in
    let whole = digits_value-take-le 10 text (i + 1) (omega arith) in
    number_of-great width most text (omega arith)

-- all characters were read
pub number_of-all : (width most : ℕ) (text : List ℕ) (i value : ℕ) → 0 < length text → length text ≤ width → length text ≤ i → Reads text i value → value ≤ most → number_of width most text ≡ Some value
number_of-all width most text i value some short all reads small =
    let whole : take i text ≡ text = take_all i text all in
    let digits : list_all is_ascii_digit text ≡ true = rw whole at reads.digits in
    let is : value ≡ digits_value 10 text = rw whole at reads.is in
    number_of-some width most text some short digits (omega arith) ∙ ap Some (sym is)

pub number_of-all_great : (width most : ℕ) (text : List ℕ) (i value : ℕ) → length text ≤ i → Reads text i value → most < value → number_of width most text ≡ None
number_of-all_great width most text i value all reads great =
    let whole : take i text ≡ text = take_all i text all in
    let is : value ≡ digits_value 10 text = rw whole at reads.is in
    number_of-great width most text (omega arith)

pub number_of-over_tens : (width most : ℕ) (text : List ℕ) (i value : ℕ) → i < length text → is_ascii_digit (get_or text i 0) ≡ true → Reads text i value → most < value * 10 → number_of width most text ≡ None
number_of-over_tens width most text i value below is_digit reads over =
    number_of-over width most text i value (digit_value (get_or text i 0)) below is_digit reads
    (digit_value_digit (get_or text i 0) (grind arith)) (omega arith)

-- a digit's code is at least that of `0`
pub digit-back : (c : ℕ) → is_ascii_digit c ≡ true → c - 48 + 48 ≡ c
digit-back c digit = grind arith

-- and at most that of `9`
pub digit-small : (c : ℕ) → is_ascii_digit c ≡ true → c - 48 < 10
digit-small c digit = grind arith

-- i digits write less than 10 to the power i
pub few-next : (i value digit : ℕ) → value < 10 ^ i → digit < 10 → value * 10 + digit < 10 ^ (i + 1)
few-next i value digit small below =
    let tenfold : 10 ^ (i + 1) ≡ 10 ^ i * 10 = pow-add 10 i 1 in
    omega (arith, tenfold)

-- and so 19 digits fit into 64 bits
pub few-fits : (i value : ℕ) → i < 19 → value < 10 ^ i → value * 10 + 9 < 2 ^ 64
few-fits i value few small =
    let most : 10 ^ i ≤ 10 ^ 18 = pow-le-pow_right {n = 10} (omega arith) {i = i} {j = 18} (omega arith) in
    omega (arith, most)

-- a number is at most the greatest that is allowed
pub number_within : (width most value : ℕ) (text : List ℕ) → number_of width most text ≡ Some value → value ≤ most
unfolding number_of
number_within width most value text h = grind (arith, nat_tests)

-- how many digits the number of a line may have
pub line_digits-few : (lines : ℕ) → line_digits lines ≤ 8
line_digits-few lines = by (nat_le lines 100000)
  where
    by : (b : Bool) → (if b then 5 else 8) ≤ 8
    by b = grind arith
