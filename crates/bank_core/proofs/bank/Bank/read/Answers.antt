use Rattle.std.proofs.Common.{◌≡◌, true, false, refl, arith, length, ◌<◌}
use Rattle.masked_bytes.specs.{Entries.layer_of, Masked.gives_all}
use Rattle.bank_shape.specs.declared.answer.ReadAnswer.TheVariants as came
use Rattle.bank_invariant.specs.State.{BankState}
use Rattle.bank_core.{specs.Running.operation_of, proofs.Answering.{read_law, read_tied, from_queue, to_wait, to_refuse, IsBank-push}, proofs.bank.Bank.read.Goals.{in-Ok, in-Err}}
use Rattle.bank_core.proofs.bank.Bank.read.Goals as goal

pub returns-then-has_all-clause-holds : goal.returns-then-has_all-clause-holds
returns-then-has_all-clause-holds g c =
    let bank : BankState g.row.B g.row.M g.row.E = record {
      kept = c.self.inside.kept;
      running = operation_of c.self.inside.running;
      waiting = c.self.inside.waiting.items;
      lost = c.self.inside.lost.items;
      rows_below = c.self.inside.rows_below;
    } in
    let exists = rw (← c.self.view_is) at c.requires.exists in
    let rises = rw (← c.self.view_is) at c.requires.rises in
    let given = c.newest-kept.ensures.given in
    let is = c.has_all.ensures in
    let yes = c.if-has_all.true in
    let all : gives_all (layer_of c.self.inside.kept.entries c.args.line).given ≡ true = cc in
    rw (← c.self.view_is, c.newest-kept.ensures.bytes)
    (λ h array holds. read_law c.args.row c.args.line h bank array (came.Forwarded (layer_of c.self.inside.kept.entries c.args.line).bytes) (from_queue bank c.args.line all) exists rises holds)

pub invariant_of-self-2 : goal.invariant_of-self-2
invariant_of-self-2 g c =
    let exists = rw (← c.self.view_is) at c.requires.exists in
    elim c.match-try_push_back.branch [
      | in-Ok w ↦ rw w.in-Ok.ensures.ok (IsBank-push g.row.M g.row.E c.self.inside.kept c.self.inside.waiting.items _ _ _ (w.in-Ok.ensures.variant.0 refl) exists c.self.invariant)
      | in-Err w ↦ rw w.in-Err.ensures.err.1 c.self.invariant
    ]

pub returns-clause-tied : goal.returns-clause-tied
returns-clause-tied g c =
    let bank : BankState g.row.B g.row.M g.row.E = record {
      kept = c.self.inside.kept;
      running = operation_of c.self.inside.running;
      waiting = c.self.inside.waiting.items;
      lost = c.self.inside.lost.items;
      rows_below = c.self.inside.rows_below;
    } in
    let given = c.newest-kept.ensures.given in
    let is = c.has_all.ensures in
    let no = c.if-has_all.false in
    let none : gives_all (layer_of c.self.inside.kept.entries c.args.line).given ≡ false = cc in
    rw (← c.self.view_is)
    (elim c.match-try_push_back.branch [
      | in-Ok w ↦
          let few = w.in-Ok.ensures.variant.0 refl in
          let room : length c.self.inside.waiting.items < c.self.inside.kept.shape.reads = omega (arith, few, c.self.invariant.room) in
          rw (w.in-Ok.ensures.ok, c.newest-kept.ensures.bytes, c.newest-kept.ensures.given)
          (λ array tied. read_tied c.args.row c.args.line bank array came.Waiting (to_wait bank c.args.line none room) c.self.invariant.in_range.masked tied)
      | in-Err w ↦ rw w.in-Err.ensures.err.1 (λ array tied. tied)
    ])

pub returns-clause-holds : goal.returns-clause-holds
returns-clause-holds g c =
    let bank : BankState g.row.B g.row.M g.row.E = record {
      kept = c.self.inside.kept;
      running = operation_of c.self.inside.running;
      waiting = c.self.inside.waiting.items;
      lost = c.self.inside.lost.items;
      rows_below = c.self.inside.rows_below;
    } in
    let exists = rw (← c.self.view_is) at c.requires.exists in
    let rises = rw (← c.self.view_is) at c.requires.rises in
    let given = c.newest-kept.ensures.given in
    let is = c.has_all.ensures in
    let no = c.if-has_all.false in
    let none : gives_all (layer_of c.self.inside.kept.entries c.args.line).given ≡ false = cc in
    rw (← c.self.view_is)
    (elim c.match-try_push_back.branch [
      | in-Ok w ↦
          let few = w.in-Ok.ensures.variant.0 refl in
          let room : length c.self.inside.waiting.items < c.self.inside.kept.shape.reads = omega (arith, few, c.self.invariant.room) in
          rw (w.result-is, w.in-Ok.ensures.ok, c.newest-kept.ensures.bytes, c.newest-kept.ensures.given)
          (λ h array holds. read_law c.args.row c.args.line h bank array came.Waiting (to_wait bank c.args.line none room) exists rises holds)
      | in-Err w ↦
          rw (w.result-is, w.in-Err.ensures.err.1)
          (λ h array holds. read_law c.args.row c.args.line h bank array came.Busy
          (to_refuse bank c.args.line none c.self.invariant.few_waiting c.self.inside.waiting.capacity c.self.invariant.room w.in-Err.ensures.variant.1) exists rises holds)
    ])

pub newest-kept-requires : goal.newest-kept-requires
newest-kept-requires g c = grind arith

pub overflow_add-self : goal.overflow_add-self
overflow_add-self g c = grind arith

pub has_all-requires : goal.has_all-requires
has_all-requires g c = grind arith

pub invariant_of-self : goal.invariant_of-self
invariant_of-self g c = grind arith

pub returns-then-has_all-clause-answer : goal.returns-then-has_all-clause-answer
returns-then-has_all-clause-answer g c = grind arith

pub returns-then-has_all-clause-bank : goal.returns-then-has_all-clause-bank
returns-then-has_all-clause-bank g c = grind arith

pub returns-then-has_all-clause-tied : goal.returns-then-has_all-clause-tied
returns-then-has_all-clause-tied g c = grind arith

pub returns-clause-answer : goal.returns-clause-answer
returns-clause-answer g c = grind arith

pub returns-clause-bank : goal.returns-clause-bank
returns-clause-bank g c = grind arith
