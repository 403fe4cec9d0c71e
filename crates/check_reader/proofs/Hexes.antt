-- Digits are what is printed of the bytes that they decode to, where they are what is printed at all.
use Rattle.std.proofs.Common.{◌≡◌, ◌≢◌, ℕ, ◌<◌, List, length, Option, Some, None, refl, sym, ap, ◌∙◌, arith}
use Rattle.std.specs.{Option.ForSome, Prelude.{IfNone, Result, Ok, Err, MatchResult}, Result.result_ok}
use Rattle.hex.{specs.Hex.{encode_lower, decode_sized}, specs.declared.error.FromHexError.FromHexError, proofs.HexLemmas.decode_sized-encode_lower}
use Rattle.result_rows.specs.RowText.{hex_or_empty}
use Rattle.check_reader.specs.ResultRows.{AreBytes}

-- what holds anyway holds where there is no value
pub if_none : {T : Type 0} (o : Option T) {P : Type 0} → P → IfNone o P
if_none None p = p
if_none (Some x) p = tt

-- digits that aren't printed of any bytes are none of a row
pub none_of : (n : ℕ) (digits : List ℕ) → 0 < length digits → ((bytes : List ℕ) → AreBytes n bytes → digits ≢ encode_lower bytes)
    → (bytes : Option (List ℕ)) → ForSome bytes (AreBytes n) → digits ≢ hex_or_empty bytes
none_of n digits some other None fit is = omega (arith, ap (λ (ds : List ℕ). length ds) is)
none_of n digits some other (Some bytes) fit is = other bytes (fit bytes refl) is

-- digits that don't decode aren't printed of any bytes
pub not_decoded : (n : ℕ) (digits : List ℕ) (e : FromHexError) → decode_sized digits n ≡ Err e → (bytes : List ℕ) → AreBytes n bytes → digits ≢ encode_lower bytes
not_decoded n digits e bad bytes are is =
    let good = decode_sized-encode_lower bytes n are.0 are.1 in
    let same = rw is at bad in
    cc

-- what is printed of bytes decodes to them
pub decoded : (n : ℕ) (digits found bytes : List ℕ) → decode_sized digits n ≡ Ok found → AreBytes n bytes → digits ≡ encode_lower bytes → found ≡ bytes
decoded n digits found bytes good are is =
    let other = decode_sized-encode_lower bytes n are.0 are.1 in
    let same = rw is at good in
    cc

-- what decoding into room for n bytes answers, and leaves there
abbrev pub Decodes : List ℕ → ℕ → Result Unit FromHexError → List ℕ → Type 0
Decodes digits n r out = MatchResult (decode_sized digits n) (λ bytes. (r ≡ Ok tt) × (out ≡ bytes)) (λ e. r ≡ Err e)

by_answer : (digits out : List ℕ) (n : ℕ) (r : Result Unit FromHexError) (d : Result (List ℕ) FromHexError) → decode_sized digits n ≡ d
    → MatchResult d (λ bytes. (r ≡ Ok tt) × (out ≡ bytes)) (λ e. r ≡ Err e) → result_ok r ≡ None → (bytes : List ℕ) → AreBytes n bytes → digits ≢ encode_lower bytes
by_answer digits out n r (Ok found) is h none = cc h.0
by_answer digits out n r (Err e) is h none = not_decoded n digits e is

pub refuses : (digits out : List ℕ) (n : ℕ) (r : Result Unit FromHexError) → Decodes digits n r out → result_ok r ≡ None
    → (bytes : List ℕ) → AreBytes n bytes → digits ≢ encode_lower bytes
refuses digits out n r h none = by_answer digits out n r (decode_sized digits n) refl h none

by_value : (digits out : List ℕ) (n : ℕ) (r : Result Unit FromHexError) (d : Result (List ℕ) FromHexError) → decode_sized digits n ≡ d
    → MatchResult d (λ bytes. (r ≡ Ok tt) × (out ≡ bytes)) (λ e. r ≡ Err e) → result_ok r ≡ Some tt → decode_sized digits n ≡ Ok out
by_value digits out n r (Ok found) is h some = is ∙ ap Ok (sym h.1)
by_value digits out n r (Err e) is h some = cc h

pub decodes : (digits out : List ℕ) (n : ℕ) (r : Result Unit FromHexError) → Decodes digits n r out → result_ok r ≡ Some tt → decode_sized digits n ≡ Ok out
decodes digits out n r h some = by_value digits out n r (decode_sized digits n) refl h some
