-- That a bank answers a write as its history says.
use Rattle.std.specs.Prelude.{◌≡◌, ℕ, Bool, true, false, List}
use Rattle.cell_rows.specs.Device.{ArrayState}
use Rattle.protected_queue.specs.{declared.accept.Accept.Accept, declared.accept.Accept.TheVariants.{Pushed, Merged, Full}}
use Rattle.protected_queue.specs.Queue as taking
use Rattle.bank_shape.specs.declared.answer.WriteAnswer.{WriteAnswer}
use Rattle.bank_shape.specs.declared.answer.WriteAnswer.TheVariants as wrote
use Rattle.bank_model.specs.{Answers.{write_answer, head_busy_after}, Events.BankEvent}
use Rattle.bank_invariant.specs.{Holds.Holds, State.BankState}

-- the answer of a bank to a write, by that of its queue
abbrev pub written : Accept → WriteAnswer
written Pushed = wrote.Accepted
written (Merged row place) = wrote.Merged row
written Full = wrote.Full

-- a bank that isn't exhausted answers a write as its queue does. That the history tells the same of the head is a law of its own: here a premise
abbrev pub WriteAnswerLaw : Type 0
WriteAnswerLaw =
    (n m e line : ℕ) (busy : Bool) (h : List (BankEvent n)) (bank : BankState n m e) (array : ArrayState n m)
    → Holds h bank array → bank.kept.exhausted ≡ false → busy ≡ head_busy_after bank.kept.shape h
    → written (taking.accept_answer bank.kept.shape.writes busy bank.kept.entries line) ≡ write_answer bank.kept.shape h line

-- and one that is exhausted refuses it
abbrev pub RefusalLaw : Type 0
RefusalLaw =
    (n m e line : ℕ) (h : List (BankEvent n)) (bank : BankState n m e) (array : ArrayState n m)
    → Holds h bank array → bank.kept.exhausted ≡ true → wrote.Exhausted ≡ write_answer bank.kept.shape h line
