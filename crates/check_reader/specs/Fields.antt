-- The fields of the first row of some bytes.
use Rattle.std.specs.{Option.option_and_then, Prelude.{ℕ, ◌==◌, if◌then◌else◌, List, [], ◌∷◌, Option, Some, None, option_map}}
use Rattle.check_reader.specs.declared.fields.ResultFields as code

-- the bytes before the first that is this one, and those behind it
unfoldable pub cut_at : ℕ → List ℕ → Option (List ℕ × List ℕ)
cut_at end [] = None
cut_at end (byte ∷ rest) = if byte == end then Some ([], rest) else option_map (λ cut. (byte ∷ cut.0, cut.1)) (cut_at end rest)

-- the seven fields of a row, and what stands behind its LF
pub record Fields : Type 0 where
  pub number : List ℕ
  pub letter : List ℕ
  pub line : List ℕ
  pub word : List ℕ
  pub tick : List ℕ
  pub place : List ℕ
  pub digits : List ℕ
  pub rest : List ℕ

-- the bytes that the fields point to
abbrev pub seen : code.ResultFields → Fields
seen fields = record {
  number = fields.number.now;
  letter = fields.letter.now;
  line = fields.line.now;
  word = fields.word.now;
  tick = fields.tick.now;
  place = fields.place.now;
  digits = fields.digits.now;
  rest = fields.rest.now;
}

-- six fields end at the next comma, and the last at the next LF
unfoldable pub fields_of : List ℕ → Option Fields
fields_of bytes =
    option_and_then (λ a. option_and_then (λ b. option_and_then (λ c. option_and_then (λ d.
    option_and_then (λ e. option_and_then (λ f. option_map (λ g.
    record { number = a.0; letter = b.0; line = c.0; word = d.0; tick = e.0; place = f.0; digits = g.0; rest = g.1 })
    (cut_at 10 f.1)) (cut_at 44 e.1)) (cut_at 44 d.1)) (cut_at 44 c.1)) (cut_at 44 b.1)) (cut_at 44 a.1)) (cut_at 44 bytes)
