-- How much a bank holds.
use Rattle.std.specs.Prelude.{ℕ, ◌≤◌, List, length}
use Rattle.bank_shape.specs.declared.BankShape.{BankShape}
use Rattle.bank_model.specs.{Answers.MayAll, Events.BankEvent, History.{queue, waits}}

-- no more writes stand in the queue, and no more reads wait, than may
pub record HoldsFew {n : ℕ} (shape : BankShape) (h : List (BankEvent n)) : Type 0 where
  pub writes : length (queue shape h) ≤ shape.writes
  pub reads : length (waits shape h) ≤ shape.reads

-- so it is after any events that a bank allows
abbrev pub BoundLaw : Type 0
BoundLaw = (n most : ℕ) (shape : BankShape) (h : List (BankEvent n)) → MayAll shape most h → HoldsFew shape h
