-- How a read begins to wait, how it is served, and that the invariant is kept.
use Rattle.std.specs.Prelude.{◌≡◌, ℕ, ◌+◌, ◌*◌, ◌<◌, ◌≤◌, ◌==◌, if◌then◌else◌, List, [], ◌∷◌, ◌++◌, drop, length}
use Rattle.masked_bytes.specs.{Entries.{Layer, layer_of}, Masked.{laid, gives_all}}
use Rattle.cell_rows.specs.Device.{ArrayState}
use Rattle.line_writer.specs.Writing.{most_steps}
use Rattle.power_recovery.specs.Kept.{stands_at}
use Rattle.bank_shape.specs.{declared.answer.ReadAnswer.ReadAnswer, declared.answer.Served.Served, declared.waiting.Waiting.Waiting}
use Rattle.bank_shape.specs.declared.answer.ReadAnswer.TheVariants as came
use Rattle.bank_model.specs.{Answers.MayHappen, Events.{BankEvent, Read, Serve}}
use Rattle.bank_invariant.specs.{Holds.Holds, State.BankState, Tied.StandsAs}
use Rattle.ecp_line.specs.ArrayLines.{decoded}

-- a read of a line, with what the queue gives of it
abbrev pub kept_with : {n : ℕ} → ℕ → ℕ → Layer → Waiting n
kept_with row line layer = record { row = row; line = line; kept = layer.bytes; given = layer.given }

module _ {n m e : ℕ} where
  -- the bank after a read began to wait: it is the last of those that do
  abbrev pub waits_too : BankState n m e → ℕ → ℕ → BankState n m e
  waits_too bank row line = record {
    kept = bank.kept;
    running = bank.running;
    waiting = bank.waiting ++ kept_with row line (layer_of bank.kept.entries line) ∷ [];
    lost = bank.lost;
    rows_below = row + 1;
  }

  -- the bank after a serve: the first read waits no more
  abbrev pub served : BankState n m e → BankState n m e
  served bank = record { kept = bank.kept; running = bank.running; waiting = drop 1 bank.waiting; lost = bank.lost; rows_below = bank.rows_below }

  -- what a serve answers: the bytes kept with the read, over what the array line where its line stands is read as
  abbrev pub served_from : BankState n m e → ArrayState n m → Waiting n → Served n
  served_from bank array w = record {
    row = w.row;
    place = stands_at bank.kept w.line;
    bytes = laid w.kept w.given (decoded e array (stands_at bank.kept w.line));
  }

-- what a read of a line is answered: it is forwarded where the queue gives every byte, and else it waits while fewer wait than may
abbrev pub read_from : {n m e : ℕ} → BankState n m e → ℕ → ReadAnswer n
read_from bank line =
    let layer = layer_of bank.kept.entries line in
    if gives_all layer.given then came.Forwarded layer.bytes
    else (if length bank.waiting == bank.kept.shape.reads then came.Busy else came.Waiting)

-- a read of a line of the bank may be answered so
abbrev pub MayReadLaw : Type 0
MayReadLaw =
    (n m e row line : ℕ) (h : List (BankEvent n)) (bank : BankState n m e) (array : ArrayState n m)
    → Holds h bank array → line < bank.kept.shape.regions * bank.kept.shape.lines
    → MayHappen bank.kept.shape h (most_steps e) (Read row line (read_from bank line))

-- a read that begins to wait keeps the invariant. That it may is what `MayReadLaw` says of its answer
abbrev pub WaitingLaw : Type 0
WaitingLaw =
    (n m e row line : ℕ) (h : List (BankEvent n)) (bank : BankState n m e) (array : ArrayState n m)
    → Holds h bank array → bank.rows_below ≤ row → MayHappen bank.kept.shape h (most_steps e) (Read row line came.Waiting)
    → Holds (Read row line came.Waiting ∷ h) (waits_too bank row line) array

-- an array that stands as it was, as a sense leaves it, keeps the invariant
abbrev pub SensedLaw : Type 0
SensedLaw =
    (n m e : ℕ) (h : List (BankEvent n)) (bank : BankState n m e) (old new : ArrayState n m)
    → Holds h bank old → StandsAs old new → Holds h bank new

-- a serve may answer the first read that waits with the bytes kept with it, over what is read
abbrev pub MayServeLaw : Type 0
MayServeLaw =
    (n m e : ℕ) (h : List (BankEvent n)) (bank : BankState n m e) (array : ArrayState n m) (w : Waiting n) (ws : List (Waiting n))
    → Holds h bank array → bank.waiting ≡ w ∷ ws → MayHappen bank.kept.shape h (most_steps e) (Serve (served_from bank array w))

-- and a serve keeps the invariant, over an array that stands as it was. That it may answer so is what `MayServeLaw` says
abbrev pub ServedLaw : Type 0
ServedLaw =
    (n m e : ℕ) (h : List (BankEvent n)) (bank : BankState n m e) (old new : ArrayState n m) (answer : Served n)
    → Holds h bank old → MayHappen bank.kept.shape h (most_steps e) (Serve answer)
    → StandsAs old new
    → Holds (Serve answer ∷ h) (served bank) new
