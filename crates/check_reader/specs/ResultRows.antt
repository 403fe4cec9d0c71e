-- The bytes that a run would print for the rows of a trace, and where others cease to be such bytes.
use Rattle.std.specs.{Option.ForSome, Prelude.{◌≡◌, ◌≢◌, ℕ, ◌+◌, ◌^◌, ◌<◌, ◌≤◌, ◌⊎◌, List, [], ◌∷◌, ◌++◌, length, Some}}
use Rattle.hex.specs.Hex.{IsBytes}
use Rattle.result_rows.specs.{Outcomes.{op_of, tick_of, place_of, bytes_of}, RowText.{header_text, row_text, results_text}, declared.Op.Op, declared.Outcome.Outcome}
use Rattle.check_reader.specs.declared.fault.ResultFault.{ResultFault}
use Rattle.check_reader.specs.declared.fault.ResultFault.TheVariants as fault

-- a tick of at most 15 digits
abbrev pub IsTick : ℕ → Type 0
IsTick tick = tick < 10 ^ 15

-- the number of an array line of the largest module
abbrev pub IsPlace : ℕ → Type 0
IsPlace place = place ≤ 98831

-- n bytes
abbrev pub AreBytes : ℕ → List ℕ → Type 0
AreBytes n bytes = (length bytes ≡ n) × IsBytes bytes

module _ {n : ℕ} where
  -- an outcome that a row of this operation may have
  pub record MayStand (asked : Op) (outcome : Outcome n) : Type 0 where
    pub belongs : op_of outcome ≡ Some asked
    pub tick : ForSome (tick_of outcome) IsTick
    pub place : ForSome (place_of outcome) IsPlace
    pub bytes : ForSome (bytes_of outcome) (AreBytes n)

  -- outcomes that the rows of these operations may have, one for each
  unfoldable pub EachMayStand : List (Op × ℕ) → List (Outcome n) → Type 0
  EachMayStand [] [] = Unit {0}
  EachMayStand [] (outcome ∷ outcomes) = ⊥
  EachMayStand (ask ∷ asks) [] = ⊥
  EachMayStand (ask ∷ asks) (outcome ∷ outcomes) = MayStand ask.0 outcome × EachMayStand asks outcomes

  -- the rows of these operations and lines with these outcomes
  unfoldable pub rows_of : List (Op × ℕ) → List (Outcome n) → List (Op × ℕ × Outcome n)
  rows_of [] outcomes = []
  rows_of (ask ∷ asks) [] = []
  rows_of (ask ∷ asks) (outcome ∷ outcomes) = (ask.0, ask.1, outcome) ∷ rows_of asks outcomes

  -- the bytes are the results of a run in which the rows of these operations and lines had these outcomes
  pub record AreResults (asks : List (Op × ℕ)) (bytes : List ℕ) (outcomes : List (Outcome n)) : Type 0 where
    pub each : EachMayStand asks outcomes
    pub text : bytes ≡ results_text (rows_of asks outcomes)

  -- the bytes begin with this row, of an outcome that it may have, and these stand behind it
  pub record IsRow (row : ℕ) (ask : Op × ℕ) (bytes : List ℕ) (outcome : Outcome n) (rest : List ℕ) : Type 0 where
    pub may : MayStand ask.0 outcome
    pub text : bytes ≡ row_text row ask.0 ask.1 outcome ++ rest

-- no outcome over lines of n bytes gives a row with which the bytes begin
abbrev pub IsNoRow : ℕ → ℕ → Op × ℕ → List ℕ → Type 0
IsNoRow n row ask bytes = (outcome : Outcome n) (rest : List ℕ) → ¬ IsRow row ask bytes outcome rest

-- of the rows of these operations and lines, from this number on, the one called `fault` is the first with which the bytes don't go on;
-- where they have all of them, it is the row behind the last, and bytes stand there
unfoldable pub FailsAt : ℕ → ℕ → List (Op × ℕ) → List ℕ → ℕ → Type 0
FailsAt n row [] bytes fault = (bytes ≢ []) × (fault ≡ row)
FailsAt n row (ask ∷ asks) bytes fault =
    (IsNoRow n row ask bytes × (fault ≡ row))
    ⊎ ((outcome : Outcome n) × (rest : List ℕ) × IsRow row ask bytes outcome rest × FailsAt n (row + 1) asks rest fault)

-- the first row whose bytes aren't such a row; row 0 is the header
pub data IsFault (n : ℕ) (asks : List (Op × ℕ)) (bytes : List ℕ) : ResultFault → Type 0 where
  Header : ((rest : List ℕ) → bytes ≢ header_text ++ rest) → IsFault n asks bytes (fault.Row 0)
  Later : (row : ℕ) (rest : List ℕ) → bytes ≡ header_text ++ rest → FailsAt n 1 asks rest row → IsFault n asks bytes (fault.Row row)
