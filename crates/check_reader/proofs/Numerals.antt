-- Numbers without leading zeros are what is printed of their values.
use Rattle.std.proofs.Common.{◌≡◌, ◌≢◌, ℕ, zero, suc, ◌^◌, ◌<◌, ◌≤◌, ◌==◌, lit<, eq-eqb, eqb-true, List, [], ◌∷◌, length, get_or, true, Option, Some, None, refl, sym, ap, ◌∙◌, arith}
use Rattle.std.specs.{Char.is_ascii_digit, List.list_all, Prelude.{decimal, IfSome, IfNone, IsTrue, ◌↔◌}, Str.Parse.digits_value}
use Rattle.std.proofs.lemmas.Bool.Decides.{nat_tests}
use Rattle.std.proofs.lemmas.Fmt.{decimal-digits_value, digits_value-decimal, digits_decimal, decimal_injective, decimal_nonempty, decimal_digit, first_decimal, length-decimal-le}
use Rattle.std.proofs.lemmas.Str.Parse.{IsDigitsTest, IsNumeralModel, numerals_by_value}
use Rattle.trace_reader.{specs.Number.{is_number, number_of}, proofs.Numbers.{number_of-some, number_within}}

-- all characters are digits
abbrev pub AllDigits : List ℕ → Type 0
AllDigits text = list_all is_ascii_digit text ≡ true

tells : IsDigitsTest AllDigits
tells = record {
  empty = refl;
  parts = λ c cs e. let low : 48 ≤ c = grind (arith, nat_tests) in let high : c ≤ 57 = grind (arith, nat_tests) in
      let rest : AllDigits cs = grind (arith, nat_tests) in ((low, high), rest);
  more = λ c cs k e. grind (arith, nat_tests, k.0, k.1);
}

pub own : IsNumeralModel AllDigits (digits_value 10)
own = numerals_by_value AllDigits tells

-- the number that a text is
pub is_printed : (text : List ℕ) (most n : ℕ) → most < 2 ^ 64 → number_of 20 most text ≡ Some n → (get_or text 0 0 ≡ 48 → length text ≡ 1) → text ≡ decimal n
unfolding number_of is_number
is_printed text most n fits h lead =
    let some : 0 < length text = grind (arith, nat_tests) in
    let digits : AllDigits text = grind (arith, nat_tests) in
    let value : digits_value 10 text ≡ n = grind (arith, nat_tests) in
    let small : digits_value 10 text ≤ most = grind (arith, nat_tests) in
    sym (decimal-digits_value own text digits some lead (omega arith)) ∙ ap decimal value

-- what is printed of a number is that number
pub printed_is : (most n : ℕ) → most < 2 ^ 64 → n ≤ most → number_of 20 most (decimal n) ≡ Some n
printed_is most n fits small =
    let own_value : digits_value 10 (decimal n) ≡ n = digits_value-decimal own n (omega arith) in
    number_of-some 20 most (decimal n) (decimal_nonempty n (omega arith)) (length-decimal-le 20 n (lit< tt) (omega arith) (omega arith)) (digits_decimal own n (omega arith)) (omega arith)
    ∙ ap (λ k. Some k) own_value

-- a number that is printed with more than one digit begins with none that is 0
pub leads_not : (n : ℕ) → n < 2 ^ 64 → get_or (decimal n) 0 0 ≡ 48 → length (decimal n) ≡ 1
leads_not zero fits h = ap (λ (ds : List ℕ). length ds) (decimal_digit 0 (omega arith))
leads_not (suc n) fits h = absurd (omega (arith, first_decimal (suc n) (omega arith) fits))

-- a text that begins with 0 only where it is that alone
lead_alone : (text : List ℕ) → (1 < length text → get_or text 0 0 ≢ 48) → get_or text 0 0 ≡ 48 → length text ≡ 1
lead_alone [] h is = absurd (omega arith)
lead_alone (c ∷ []) h is = refl
lead_alone (c ∷ d ∷ text) h is = absurd (h (omega arith) is)

-- what the reading of such a text finds
pub found_is : (text : List ℕ) (most : ℕ) (found : Option ℕ) → most < 2 ^ 64 → (1 < length text → get_or text 0 0 ≢ 48) → found ≡ number_of 20 most text
    → IfSome found (λ n. (n ≤ most) × (text ≡ decimal n))
found_is text most None fits lead h = tt
found_is text most (Some n) fits lead h =
    (number_within 20 most n text (sym h), is_printed text most n fits (sym h) (lead_alone text lead))

pub not_found : (text : List ℕ) (most : ℕ) (found : Option ℕ) → most < 2 ^ 64 → found ≡ number_of 20 most text → IfNone found ((n : ℕ) → n ≤ most → text ≢ decimal n)
not_found text most (Some n) fits h = tt
not_found text most None fits h =
    λ n small is. let printed = printed_is most n fits small in let same = rw is at h in cc

-- one that begins with 0 and goes on isn't printed
pub lead_not_printed : (text : List ℕ) (most : ℕ) → most < 2 ^ 64 → 1 < length text → get_or text 0 0 ≡ 48 → (n : ℕ) → n ≤ most → text ≢ decimal n
lead_not_printed text most fits long lead n small is =
    let one = leads_not n (omega arith) (rw is at lead) in
    omega (arith, ap (λ (ds : List ℕ). length ds) is)

-- a text that is one number is another where the numbers are the same
pub same_number : (text : List ℕ) (m n : ℕ) → m < 2 ^ 64 → n < 2 ^ 64 → text ≡ decimal m → IsTrue (m == n) ↔ (text ≡ decimal n)
same_number text m n fits also is = (
  λ same. is ∙ ap decimal (eqb-true m n same),
  λ other. eq-eqb m n (decimal_injective m n fits also (sym is ∙ other)),
)
