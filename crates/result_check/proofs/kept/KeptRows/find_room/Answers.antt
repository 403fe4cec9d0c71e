use Rattle.std.proofs.Common.{◌≡◌, ◌<◌, ◌∙◌, Some, length, sym, ap, subst}
use Rattle.std.specs.Prelude.{IfSome}
use Rattle.check_verdict.specs.{Fitting.room_kept, Passing.joined_room, States.Facts, Verdicts.bank_in}
use Rattle.result_check.{specs.Keeping.{facts_in, Knows}, proofs.Keeping.{knows_settled, knows_seen, bank_exists, facts_settled}}
use Rattle.result_check.proofs.kept.KeptRows.find_room.Goals as goal

pub returns-in-Some-clause-knows : goal.returns-in-Some-clause-knows
returns-in-Some-clause-knows g c = λ from before le below k.
    let banks = c.args.banks.now in
    let line : c.in-Some.line < length banks = subst (λ o. IfSome o (λ l. l < length banks)) c.in-Some.is c.requires.line in
    let within = bank_exists banks c.in-Some.line (length c.args.self.now.banks.items) line c.requires.exist in
    knows_settled c.args.rules.now banks from c.args.tick (bank_in banks c.in-Some.line) c.args.self.now.banks.items c.settle.new.self.banks.items c.args.self.now.joined before le below within c.settle.ensures.banks k

pub returns-in-Some-clause-seen : goal.returns-in-Some-clause-seen
returns-in-Some-clause-seen g c = λ from before le below k room.
    let banks = c.args.banks.now in
    let rules = c.args.rules.now in
    let line : c.in-Some.line < length banks = subst (λ o. IfSome o (λ l. l < length banks)) c.in-Some.is c.requires.line in
    let within = bank_exists banks c.in-Some.line (length c.args.self.now.banks.items) line c.requires.exist in
    let is : joined_room rules banks c.args.tick (facts_in c.args.self.now.banks.items) (Some c.in-Some.line) ≡ c.holds_few.result =
    sym (c.holds_few.ensures ∙ ap (λ (f : Facts). room_kept rules.writes rules.reads f.members f.waits f.lost)
    (facts_settled c.args.self.now.banks.items c.settle.new.self.banks.items (bank_in banks c.in-Some.line) _ within c.settle.ensures.banks)) in
    knows_seen rules banks from c.args.tick c.in-Some.line c.args.self.now.banks.items c.settle.new.self.banks.items before le below line within c.settle.ensures.banks
    (subst (λ j. Knows rules banks from c.args.self.now.banks.items j before) c.in-Some.is k) (is ∙ room)
