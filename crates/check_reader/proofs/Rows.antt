-- A row of results is told by its fields.
use Rattle.std.proofs.Common.{◌≡◌, ℕ, zero, suc, ◌/◌, ◌%◌, ◌^◌, ◌<◌, ◌≤◌, ◌==◌, List, [], ◌∷◌, ◌++◌, true, false, Option, Some, None, refl, ap, ◌∙◌, arith, subst}
use Rattle.std.{specs.Option.ForSome, specs.Prelude.{decimal, slice_index}, proofs.lemmas.Bool.Decides.nat_tests, proofs.lemmas.Fmt.digits_decimal}
use Rattle.hex.specs.Hex.{encode_with, lower_digits}
use Rattle.result_rows.specs.{Outcomes.{outcome_word, tick_of, place_of, bytes_of}, RowText.{op_letter, line_of, decimal_or_empty, hex_or_empty, row_text}, declared.Op.Op}
use Rattle.result_rows.specs.declared.Outcome.{Outcome}
use Rattle.result_rows.specs.declared.Op.TheVariants as op
use Rattle.result_rows.specs.declared.Outcome.TheVariants as out
use Rattle.check_reader.specs.{Fields.{Fields, fields_of}, Parts.{HasHead, Shows}, ResultRows.{MayStand, IsRow, IsNoRow}}
use Rattle.check_reader.proofs.{Cuts.{lacks, joined, fields_of-some, fields_of-text}, Numerals.{AllDigits, own}}

-- printed fields have no comma, and printed bytes no LF
digits_lack : (end : ℕ) (text : List ℕ) → end < 48 → AllDigits text → lacks end text ≡ true
digits_lack end [] low digits = refl
digits_lack end (c ∷ text) low digits =
    let here : (c == end) ≡ false = grind (arith, nat_tests) in
    let there : AllDigits text = grind (arith, nat_tests) in
    rw (here, digits_lack end text low there) refl

decimal_lacks : (n : ℕ) → n < 2 ^ 64 → lacks 44 (decimal n) ≡ true
decimal_lacks n fits = digits_lack 44 (decimal n) (omega arith) (digits_decimal own n fits)

option_lacks : (number : Option ℕ) → ForSome number (λ n. n < 2 ^ 64) → lacks 44 (decimal_or_empty number) ≡ true
option_lacks None fits = refl
option_lacks (Some n) fits = decimal_lacks n (fits n refl)

letter_lacks : (asked : Op) → lacks 44 (op_letter asked) ≡ true
letter_lacks op.Read = refl
letter_lacks op.Write = refl
letter_lacks op.Cut = refl

word_lacks : {n : ℕ} (outcome : Outcome n) → lacks 44 (outcome_word outcome) ≡ true
word_lacks out.Unset = refl
word_lacks (out.Stored tick place) = refl
word_lacks (out.Merged tick) = refl
word_lacks (out.Queued tick) = refl
word_lacks (out.Full tick) = refl
word_lacks (out.Worn tick) = refl
word_lacks (out.Read tick place bytes) = refl
word_lacks (out.Forwarded tick bytes) = refl
word_lacks (out.Busy tick) = refl
word_lacks (out.Lost tick) = refl
word_lacks (out.Cut tick) = refl

entry_lacks : (table : List ℕ) (i : ℕ) → lacks 10 table ≡ true → (slice_index table i == 10) ≡ false
entry_lacks [] i h = refl
entry_lacks (c ∷ table) zero h = grind (arith, nat_tests)
entry_lacks (c ∷ table) (suc i) h =
    let there : lacks 10 table ≡ true = grind (arith, nat_tests) in
    entry_lacks table i there

encoded_lacks : (table bytes : List ℕ) → lacks 10 table ≡ true → lacks 10 (encode_with table bytes) ≡ true
unfolding encode_with
encoded_lacks table [] h = refl
encoded_lacks table (b ∷ bytes) h =
    rw (entry_lacks table (b / 16) h, entry_lacks table (b % 16) h, encoded_lacks table bytes h) refl

hex_lacks : (bytes : Option (List ℕ)) → lacks 10 (hex_or_empty bytes) ≡ true
hex_lacks None = refl
hex_lacks (Some bytes) = encoded_lacks lower_digits bytes refl

line_fits : (asked : Op) (line : ℕ) → line < 2 ^ 64 → ForSome (line_of asked line) (λ n. n < 2 ^ 64)
line_fits op.Read line fits n is = let same : line ≡ n = cc in omega arith
line_fits op.Write line fits n is = let same : line ≡ n = cc in omega arith
line_fits op.Cut line fits n is = cc is

module _ {n : ℕ} where
  -- the fields of a row, and what stands behind it
  abbrev pub row_fields_of : ℕ → Op × ℕ → Outcome n → List ℕ → Fields
  row_fields_of row ask outcome rest = record {
    number = decimal row;
    letter = op_letter ask.0;
    line = decimal_or_empty (line_of ask.0 ask.1);
    word = outcome_word outcome;
    tick = decimal_or_empty (tick_of outcome);
    place = decimal_or_empty (place_of outcome);
    digits = hex_or_empty (bytes_of outcome);
    rest = rest;
  }

  -- bytes that begin with a row have its fields
  pub row_has_fields : (row : ℕ) (ask : Op × ℕ) (bytes : List ℕ) (outcome : Outcome n) (rest : List ℕ) → row < 2 ^ 64 → ask.1 < 2 ^ 64
      → IsRow row ask bytes outcome rest → fields_of bytes ≡ Some (row_fields_of row ask outcome rest)
  row_has_fields row ask bytes outcome rest row_fits line_fit is =
      fields_of-text bytes (row_fields_of row ask outcome rest) (record {
        number = decimal_lacks row row_fits;
        letter = letter_lacks ask.0;
        line = option_lacks (line_of ask.0 ask.1) (line_fits ask.0 ask.1 line_fit);
        word = word_lacks outcome;
        tick = option_lacks (tick_of outcome) (λ t at. let within : t < 10 ^ 15 = is.may.tick t at in omega arith);
        place = option_lacks (place_of outcome) (λ p at. let within : p ≤ 98831 = is.may.place p at in omega arith);
        digits = hex_lacks (bytes_of outcome);
      }) is.text

  -- what fields that are found say of the row with which the bytes begin
  pub record Tells (row : ℕ) (ask : Op × ℕ) (outcome : Outcome n) (rest : List ℕ) (f : Fields) : Type 0 where
    pub head : HasHead row ask f
    pub shows : Shows f outcome
    pub behind : f.rest ≡ rest

  pub row_tells : (row : ℕ) (ask : Op × ℕ) (bytes : List ℕ) (outcome : Outcome n) (rest : List ℕ) (f : Fields) → row < 2 ^ 64 → ask.1 < 2 ^ 64
      → fields_of bytes ≡ Some f → IsRow row ask bytes outcome rest → Tells row ask outcome rest f
  row_tells row ask bytes outcome rest f row_fits line_fit found is =
      let at = row_has_fields row ask bytes outcome rest row_fits line_fit is in
      let same : row_fields_of row ask outcome rest ≡ f = cc in
      subst (Tells row ask outcome rest) same record {
        head = record { number = refl; letter = refl; line = refl };
        shows = record { word = refl; tick = refl; place = refl; digits = refl };
        behind = refl;
      }

  -- bytes with a row's fields begin with it
  joined_is : (row : ℕ) (ask : Op × ℕ) (outcome : Outcome n) (f : Fields) → HasHead row ask f → Shows f outcome → joined f ≡ row_text row ask.0 ask.1 outcome
  joined_is row ask outcome f head shows =
      rw (head.number, head.letter, head.line, shows.word, shows.tick, shows.place, shows.digits) refl

  pub fields_make_row : (row : ℕ) (ask : Op × ℕ) (bytes : List ℕ) (outcome : Outcome n) (f : Fields) → fields_of bytes ≡ Some f
      → HasHead row ask f → MayStand ask.0 outcome → Shows f outcome → IsRow row ask bytes outcome f.rest
  fields_make_row row ask bytes outcome f found head may shows = record {
    may = may;
    text = fields_of-some bytes f found ∙ ap (λ t. t ++ f.rest) (joined_is row ask outcome f head shows);
  }

  -- bytes without seven fields begin with no row
  pub no_fields : (row : ℕ) (ask : Op × ℕ) (bytes : List ℕ) → row < 2 ^ 64 → ask.1 < 2 ^ 64 → fields_of bytes ≡ None → IsNoRow n row ask bytes
  no_fields row ask bytes row_fits line_fit none outcome rest is =
      let at = row_has_fields row ask bytes outcome rest row_fits line_fit is in cc
