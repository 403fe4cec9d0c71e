-- What the entries of a queue give.
use Rattle.std.specs.Prelude.{◌≡◌, ℕ, List, [], ◌∷◌}
use Rattle.masked_bytes.specs.{Masked.laid, declared.entry.Entry.Entry}
use Rattle.bank_shape.specs.declared.BankShape.{BankShape}
use Rattle.bank_model.specs.{Answers.MayAll, Events.{BankEvent, newest, up_to, RowsBelow}, History.queue}

-- each of these entries changes nothing of the newest bytes of its line as of its own write: where it gives a byte, it gives that one
abbrev pub GiveNewest : {n : ℕ} → List (BankEvent n) → List (Entry n) → Type 0
GiveNewest h [] = Unit {0}
GiveNewest h (entry ∷ es) =
    (laid entry.bytes entry.given (newest (up_to entry.row h) entry.line) ≡ newest (up_to entry.row h) entry.line) × GiveNewest h es

-- so it is with those that stand after any events that a bank allows
abbrev pub EntryLaw : Type 0
EntryLaw = (n most bound : ℕ) (shape : BankShape) (h : List (BankEvent n)) → MayAll shape most h → RowsBelow h bound → GiveNewest h (queue shape h)
