use Rattle.std.proofs.Common.{List, ap, ◌∙◌, sym}
use Rattle.std.proofs.lemmas.Result.{IfOk-weaker}
use Rattle.check_telling.specs.{Standing.rows_of, declared.mates.Numbered.Numbered}
use Rattle.clause_telling.proofs.Rooms.{room_told}
use Rattle.clause_telling.proofs.room.find_room.Goals as goal

pub returns-in_ok-past-in-Some : goal.returns-in_ok-past-in-Some
returns-in_ok-past-in-Some g c =
    IfOk-weaker c.find_crowd.result _ _
    (λ crowd is.
    room_told c.args.rules.now c.args.banks.now c.args.tick c.in-Some.bank c.args.before.now c.deref.result.now crowd (sym c.last_bank.ensures ∙ c.in-Some.is)
    (ap (λ (ms : List (Numbered g.row.B)). rows_of ms) c.deref.ensures.value ∙ c.in_ok-past-in-Some.ensures.rows) is)
    c.find_crowd.ensures
