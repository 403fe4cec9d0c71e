-- What a reader has still to give of the records of a text.
use Rattle.std.specs.{Borrow.Bor, Prelude.{◌≡◌, ◌+◌, ◌≤◌, ℕ, List, [], ◌∷◌, length, Bool, true, false, if◌then◌else◌, Some}}
use Rattle.csv.specs.{Machine.ends_at_end, Reading.{Ready, default_config, is_flexible, reader_config, reader_state, reader_trim, records_from, source_of}}
use Rattle.csv.specs.{declared.parser.State.State, declared.reader.Reader.Reader}
use Rattle.csv.specs.declared.reader.Trim.TheVariants as trim

-- a record that only the end of the text ends counts as one byte more
abbrev pub unended : State → ℕ
unended s = if ends_at_end s then 1 else 0

-- a reader of a slice of bytes, whatever the lengths of its records, that has these left
pub record HasLeft (r : Reader (Bor (List ℕ))) (rows : List (List (List ℕ))) : Type 0 where
  pub ready : Ready r
  pub trim : reader_trim r ≡ trim.None
  pub config : reader_config r ≡ default_config
  pub flexible : is_flexible r ≡ true
  pub text : List ℕ
  pub source : source_of (λ (s : Bor (List ℕ)). Some s.now) r ≡ Some text
  pub most : ℕ
  pub enough : length text + unended (reader_state r) ≤ most
  pub rows_are : rows ≡ records_from default_config most (reader_state r) text

-- a reader of the records of some text
abbrev pub IsOpen : Reader (Bor (List ℕ)) → Type 0
IsOpen r = (rows : List (List (List ℕ))) × HasLeft r rows

-- the reader's next record is the first of these, if there is one
abbrev pub FindsNext : Bool → List (List ℕ) → List (List (List ℕ)) → Reader (Bor (List ℕ)) → Type 0
FindsNext false fields rows new = rows ≡ []
FindsNext true fields rows new = (rest : List (List (List ℕ))) × (rows ≡ fields ∷ rest) × HasLeft new rest
