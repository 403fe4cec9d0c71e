-- What an array is whose first lines were sensed, as they are for an image.
use Rattle.std.specs.{List.range_with_len, Prelude.{ℕ, List, map, ◌≡◌, ◌++◌, Some, nat_lt, if◌then◌else◌}}
use Rattle.cell_rows.specs.{Device.{ArrayState, sense_of}, Energy.with_sense, declared.array.Sense.Sense}

-- what the senses of an array's first lines show, so many, each once and in their order, at tick 0
abbrev pub first_senses : {n m : ℕ} → ArrayState n m → ℕ → List (Sense n m)
first_senses array count = map (λ line. sense_of line 0 (array.line line)) (range_with_len 0 count)

-- the first lines of an array were sensed since, so many, each once and in their order, and nothing else: it is as it was, a log that is
-- told has gained those senses, and each is counted
pub record SensedSince {n m : ℕ} (count : ℕ) (before after : ArrayState n m) : Type 0 where
  pub line : (number : ℕ) → after.line number ≡ before.line number
  pub lines : after.lines ≡ before.lines
  pub tears : after.tears ≡ before.tears
  pub wear : after.wear ≡ before.wear
  pub bounds : after.bounds ≡ before.bounds
  pub log : (log : List (Sense n m)) → after.log ≡ Some log
      → (old : List (Sense n m)) × (before.log ≡ Some old) × (log ≡ old ++ first_senses before count)
  pub energy : (number : ℕ)
      → after.energy number ≡ (if nat_lt number count then with_sense (before.energy number) else before.energy number)
