-- How many iterations a line write on a line of which no cell is stuck has had, and what each makes of its cells.
use Rattle.std.proofs.Common.{◌≡◌, ◌∙◌, ℕ, ◌≤◌, true, false, List, Option, Some, sym, subst, arith}
use Rattle.std.specs.Prelude.{IfSome}
use Rattle.cell_rows.specs.Device.{ArrayState, LineState}
use Rattle.program_verify.specs.{Programming.{IsRound, IsTear, is_wrong}, declared.prog.Prog.Prog}
use Rattle.power_recovery.specs.Kept.{target_slot}
use Rattle.line_writer.{specs.Orderly.{IsLive, IsOrderly}, proofs.Rounds.going}
use Rattle.bank_model.{specs.Events.BankEvent, specs.History.iterated, specs.Touching.Strikes, proofs.Sticking.{strikes-pulsed, strikes-torn}}
use Rattle.bank_invariant.{specs.Fine.FineWriteLaw, specs.Holds.Holds, specs.State.{BankState, Operation}, proofs.Targets.target-orderly}
use Rattle.bank_invariant.proofs.Tearing.{running_of, target_of_running}

-- a cell of it that is wrong still has missed in each of them
wrong-missed : {n m e : ℕ} (h : List (BankEvent n)) (bank : BankState n m e) (array : ArrayState n m) (op : Operation n m e)
    → Holds h bank array → bank.running ≡ Some op → IsLive (array.line op.target)
    → (c : ℕ) → is_wrong op.writer.prog c ≡ true → iterated h ≤ (array.line op.target).misses c
wrong-missed {n} {m} {e} h bank array op holds runs live c wrong =
    let missed = (running_of h bank array op holds runs).writing.writes.writing.prog.missed c wrong (live c) in
    let made : iterated h ≤ op.writer.prog.rounds =
    subst (λ (r : Option (Operation n m e)). IfSome r (λ op. IsLive (array.line op.target) → iterated h ≤ op.writer.prog.rounds)) runs holds.rounds live in
    omega (arith, made, missed.0)

pub fine_write_law : FineWriteLaw
fine_write_law n m e h bank array op holds runs live =
    let writing = (running_of h bank array op holds runs).writing in
    let goes = going op.writer (array.line op.target) writing.more writing.writes in
    let wrong : ℕ = goes.wrong.0 in
    let missed : iterated h ≤ (array.line op.target).misses wrong = wrong-missed h bank array op holds runs live wrong goes.wrong.2 in
    let orderly : IsOrderly array.bounds.misses (array.line op.target) =
    target-orderly bank.kept bank.waiting op.target (target_slot bank.kept op.work) array holds.kept holds.tied.orderly (target_of_running h bank array op holds runs) in
    omega (arith, missed, orderly.missed wrong (live wrong))

-- so an iteration strikes cells that have missed in each of those before
pub strikes-round : {n m e : ℕ} (tick : ℕ) (after : Prog n m) (h : List (BankEvent n)) (bank : BankState n m e) (old new : ArrayState n m) (op : Operation n m e)
    → Holds h bank old → bank.running ≡ Some op → IsRound op.target tick op.writer.prog after old new → IsLive (old.line op.target)
    → Strikes old.bounds (iterated h) false (old.line op.target) (new.line op.target)
strikes-round {n} {m} tick after h bank old new op holds runs round live =
    subst (λ (l : LineState n m). Strikes old.bounds (iterated h) false (old.line op.target) l) (sym (round.sense.line op.target))
    (strikes-pulsed old.bounds round.mask (old.line op.target) (round.between.line op.target) (iterated h) live
    (λ c on. wrong-missed h bank old op holds runs live c (sym (round.masked c) ∙ on)) op.writer.prog.want round.pulse)

-- and so does a tear
pub strikes-tear : {n m e : ℕ} (h : List (BankEvent n)) (bank : BankState n m e) (old new : ArrayState n m) (op : Operation n m e)
    → Holds h bank old → bank.running ≡ Some op → IsTear op.target op.writer.prog old new → IsLive (old.line op.target)
    → Strikes old.bounds (iterated h) true (old.line op.target) (new.line op.target)
strikes-tear h bank old new op holds runs tear live =
    strikes-torn old.bounds tear.mask (old.line op.target) (new.line op.target) (iterated h) live
    (λ c on. wrong-missed h bank old op holds runs live c (sym (tear.masked c) ∙ on)) tear.tear
