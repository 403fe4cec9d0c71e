use Rattle.std.proofs.Common.{arith, ◌≡◌, true, false}
use Rattle.masked_bytes.specs.declared.entry.Entry.{Entry}
use Rattle.bank_shape.specs.declared.answer.WriteAnswer.TheVariants as wrote
use Rattle.bank_invariant.specs.State.{BankState}
use Rattle.bank_core.{specs.Running.operation_of, proofs.Sizes.bank_fits, proofs.Writing.{write_law, write_worn, taken_law, taken_holds, taken_tied, merged_there}}
use Rattle.bank_core.proofs.bank.Bank.write.Goals as goal

pub returns-then-exhausted-clause-holds : goal.returns-then-exhausted-clause-holds
returns-then-exhausted-clause-holds g c =
    let bank : BankState g.row.B g.row.M g.row.E = record {
      kept = c.self.inside.kept;
      running = operation_of c.self.inside.running;
      waiting = c.self.inside.waiting.items;
      lost = c.self.inside.lost.items;
      rows_below = c.self.inside.rows_below;
    } in
    let exists = rw (← c.self.view_is) at c.requires.exists in
    let rises = rw (← c.self.view_is) at c.requires.rises in
    let is = c.exhausted.ensures.mark in
    let yes = c.if-exhausted.true in
    let worn : c.self.inside.kept.exhausted ≡ true = cc in
    rw (← c.self.view_is)
    (λ h array holds. write_law c.args.entry.row c.args.entry.line c.args.entry.bytes c.args.entry.given h bank array wrote.Exhausted (write_worn bank c.args.entry.line worn) exists rises c.requires.masked holds)

pub returns-clause-bank : goal.returns-clause-bank
returns-clause-bank g c =
    let bank : BankState g.row.B g.row.M g.row.E = record {
      kept = c.self.inside.kept;
      running = operation_of c.self.inside.running;
      waiting = c.self.inside.waiting.items;
      lost = c.self.inside.lost.items;
      rows_below = c.self.inside.rows_below;
    } in
    let entry : Entry g.row.B = c.args.entry in
    rw (← c.self.view_is, c.arrived_as.ensures.answer, c.accept.ensures.answer, c.accept.ensures.kept, c.storing-busy.ensures) (taken_law bank entry)

pub returns-clause-index : goal.returns-clause-index
returns-clause-index g c =
    rw (c.accept.ensures.kept, c.arrived_as.ensures.is, c.accept.ensures.answer)
    (merged_there c.self.inside.kept.shape.writes c.storing-busy.result c.args.entry c.self.inside.kept.entries)

pub returns-clause-tied : goal.returns-clause-tied
returns-clause-tied g c =
    let bank : BankState g.row.B g.row.M g.row.E = record {
      kept = c.self.inside.kept;
      running = operation_of c.self.inside.running;
      waiting = c.self.inside.waiting.items;
      lost = c.self.inside.lost.items;
      rows_below = c.self.inside.rows_below;
    } in
    let entry : Entry g.row.B = c.args.entry in
    let is = c.exhausted.ensures.mark in
    let no = c.if-exhausted.false in
    let going : c.self.inside.kept.exhausted ≡ false = cc in
    rw (← c.self.view_is, c.accept.ensures.kept, c.storing-busy.ensures) (λ array tied. taken_tied entry bank array going tied)

pub returns-clause-holds : goal.returns-clause-holds
returns-clause-holds g c =
    let bank : BankState g.row.B g.row.M g.row.E = record {
      kept = c.self.inside.kept;
      running = operation_of c.self.inside.running;
      waiting = c.self.inside.waiting.items;
      lost = c.self.inside.lost.items;
      rows_below = c.self.inside.rows_below;
    } in
    let entry : Entry g.row.B = c.args.entry in
    let exists = rw (← c.self.view_is) at c.requires.exists in
    let rises = rw (← c.self.view_is) at c.requires.rises in
    let is = c.exhausted.ensures.mark in
    let no = c.if-exhausted.false in
    let going : c.self.inside.kept.exhausted ≡ false = cc in
    rw (← c.self.view_is, c.arrived_as.ensures.answer, c.accept.ensures.answer, c.accept.ensures.kept, c.storing-busy.ensures)
    (λ h array holds. taken_holds entry h bank array going exists rises c.requires.masked holds)

pub overflow_add-self : goal.overflow_add-self
overflow_add-self g c = grind arith

pub exhausted-requires : goal.exhausted-requires
exhausted-requires g c = grind arith

pub invariant_of-self : goal.invariant_of-self
invariant_of-self g c = grind arith

pub returns-then-exhausted-clause-answer : goal.returns-then-exhausted-clause-answer
returns-then-exhausted-clause-answer g c = grind arith

pub returns-then-exhausted-clause-bank : goal.returns-then-exhausted-clause-bank
returns-then-exhausted-clause-bank g c = grind arith

pub returns-then-exhausted-clause-tied : goal.returns-then-exhausted-clause-tied
returns-then-exhausted-clause-tied g c = grind arith

pub invariant_of-self-2 : goal.invariant_of-self-2
invariant_of-self-2 g c = grind arith

pub accept-requires : goal.accept-requires
accept-requires g c = grind arith

pub arrived_as-requires : goal.arrived_as-requires
arrived_as-requires g c = grind arith

pub invariant_of-self-3 : goal.invariant_of-self-3
invariant_of-self-3 g c = grind arith

pub returns-clause-answer : goal.returns-clause-answer
returns-clause-answer g c = grind arith

pub returns-then-exhausted-clause-index : goal.returns-then-exhausted-clause-index
returns-then-exhausted-clause-index g c = tt

pub storing-busy-requires : goal.storing-busy-requires
storing-busy-requires g c = bank_fits c.self.invariant.layout

pub overflow_cast-self : goal.overflow_cast-self
overflow_cast-self g c = grind arith
