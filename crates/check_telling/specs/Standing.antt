-- Rows of a bank with their numbers: the writes that stand in its queue, and the reads that wait.
use Rattle.std.specs.Prelude.{◌≡◌, ℕ, ◌+◌, ◌-◌, ◌<◌, Bool, if◌then◌else◌, List, [], ◌∷◌, ◌++◌, filter, map, All, Option, Some, None, slice_get}
use Rattle.row_rules.specs.{Queueing.{stands, awaits}, Table.is_of, declared.Row.Row}
use Rattle.check_judging.specs.Steps.{stays_behind, waits_behind}
use Rattle.check_telling.specs.{declared.facts.RowAt.RowAt, declared.mates.Numbered.Numbered}

module _ {n : ℕ} where
  abbrev pub row_of : Numbered n → Row n
  row_of one = one.row

  abbrev pub numbered : ℕ → Row n → Numbered n
  numbered number row = record { number = number; row = row }

  -- the rows behind these
  abbrev pub rows_of : List (Numbered n) → List (Row n)
  rows_of told = map row_of told

  -- a row by its number and its tick
  abbrev pub row_at : Numbered n → RowAt
  row_at one = record { row = one.number; tick = one.row.tick }

  -- the first of these rows that passes a test
  abbrev pub first_at : (Row n → Bool) → List (Numbered n) → Option RowAt
  first_at test [] = None
  first_at test (one ∷ told) = if test one.row then Some (row_at one) else first_at test told

  -- rows with their numbers, the first of which has the number behind this one
  abbrev pub with_numbers : ℕ → List (Row n) → List (Numbered n)
  with_numbers above [] = []
  with_numbers above (r ∷ rows) = numbered (above + 1) r ∷ with_numbers (above + 1) rows

  -- those of a bank among them
  abbrev pub mates_of : (ℕ → ℕ) → ℕ → ℕ → List (Row n) → List (Numbered n)
  mates_of bank_of bank above rows = filter (λ one. is_of bank_of bank one.row.asks) (with_numbers above rows)

  -- a row of these, the first of which has the number behind this one
  pub record IsNumbered (above : ℕ) (rows : List (Row n)) (one : Numbered n) : Type 0 where
    pub within : above < one.number
    pub at : slice_get rows (one.number - 1 - above) ≡ Some one.row

  -- so are all of these
  abbrev pub AreNumbered : ℕ → List (Row n) → List (Numbered n) → Type 0
  AreNumbered above rows told = All (λ one. IsNumbered above rows one) told

  -- a row joins those of its bank
  abbrev pub with_mate : (ℕ → ℕ) → ℕ → Numbered n → List (Numbered n) → List (Numbered n)
  with_mate bank_of bank new old = if is_of bank_of bank new.row.asks then old ++ new ∷ [] else old

  -- the writes that stand behind a row, of those that stood before it, the oldest first
  abbrev pub with_write : ℕ → Numbered n → List (Numbered n) → List (Numbered n)
  with_write tick new old =
      if stands tick [] new.row then filter (λ one. stays_behind new.row one.row) old ++ new ∷ [] else filter (λ one. stays_behind new.row one.row) old

  -- and the reads that wait
  abbrev pub with_read : ℕ → Numbered n → List (Numbered n) → List (Numbered n)
  with_read tick new old =
      if awaits tick [] new.row then filter (λ one. waits_behind new.row one.row) old ++ new ∷ [] else filter (λ one. waits_behind new.row one.row) old

-- the tick of a row that is told, if one is
abbrev pub tick_at : Option RowAt → Option ℕ
tick_at None = None
tick_at (Some one) = Some one.tick
