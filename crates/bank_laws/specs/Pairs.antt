-- When two entries of the queue have one line.
use Rattle.std.specs.Prelude.{◌≡◌, ℕ, ◌==◌, ◌||◌, Bool, true, false, List, [], ◌∷◌}
use Rattle.masked_bytes.specs.{Masked.gives_all, declared.entry.Entry.Entry}
use Rattle.bank_shape.specs.declared.BankShape.{BankShape}
use Rattle.bank_model.specs.{Answers.MayAll, Events.BankEvent, History.queue}

module _ {n : ℕ} where
  -- whether an entry has this line
  abbrev pub has_line : List (Entry n) → ℕ → Bool
  has_line [] line = false
  has_line (e ∷ es) line = e.line == line || has_line es line

  -- no two entries have one line
  abbrev pub LinesApart : List (Entry n) → Type 0
  LinesApart [] = Unit {0}
  LinesApart (e ∷ es) = (has_line es e.line ≡ false) × LinesApart es

  -- behind the head no two entries have one line, and one has the head's line only where the head gives all bytes
  abbrev pub ArePaired : List (Entry n) → Type 0
  ArePaired [] = Unit {0}
  ArePaired (e ∷ es) = LinesApart es × (has_line es e.line ≡ true → gives_all e.given ≡ true)

-- so it is after any events that a bank allows
abbrev pub PairLaw : Type 0
PairLaw = (n most : ℕ) (shape : BankShape) (h : List (BankEvent n)) → MayAll shape most h → ArePaired (queue shape h)
