-- What single fields say.
use Rattle.std.specs.Prelude.{◌≡◌, ℕ, List, Option, Some, decimal}
use Rattle.result_rows.specs.{Outcomes.{op_of, outcome_word, tick_of, place_of, bytes_of}, RowText.{op_letter, line_of, decimal_or_empty, hex_or_empty}, declared.Op.Op}
use Rattle.result_rows.specs.declared.Outcome.{Outcome}
use Rattle.check_reader.specs.Fields.{Fields}

-- the first three fields are those of this row
pub record HasHead (row : ℕ) (ask : Op × ℕ) (fields : Fields) : Type 0 where
  pub number : fields.number ≡ decimal row
  pub letter : fields.letter ≡ op_letter ask.0
  pub line : fields.line ≡ decimal_or_empty (line_of ask.0 ask.1)

module _ {n : ℕ} where
  -- the other four are those of this outcome
  pub record Shows (fields : Fields) (outcome : Outcome n) : Type 0 where
    pub word : fields.word ≡ outcome_word outcome
    pub tick : fields.tick ≡ decimal_or_empty (tick_of outcome)
    pub place : fields.place ≡ decimal_or_empty (place_of outcome)
    pub digits : fields.digits ≡ hex_or_empty (bytes_of outcome)

  -- the outcome has this operation, word and tick, and this place and these bytes or none
  pub record HasParts (asked : Op) (word : List ℕ) (tick : ℕ) (place : Option ℕ) (bytes : Option (List ℕ)) (outcome : Outcome n) : Type 0 where
    pub belongs : op_of outcome ≡ Some asked
    pub has_word : outcome_word outcome ≡ word
    pub has_tick : tick_of outcome ≡ Some tick
    pub has_place : place_of outcome ≡ place
    pub has_bytes : bytes_of outcome ≡ bytes
