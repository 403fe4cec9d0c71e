use Rattle.std.proofs.Common.{ℕ, ◌∙◌, sym, ap, subst}
use Rattle.bank_shape.specs.declared.BankShape.{BankShape}
use Rattle.feistel_map.specs.Network.{network_of}
use Rattle.bank_timing.proofs.Sizes.{timed_fits}
use Rattle.pcm_module.proofs.Making.{AreMade, made_none, made_one, made_replays, made_module_is, end_is, next_is}
use Rattle.pcm_module.proofs.side_by_side.Module.new.Goals as goal

pub loop-bank-init : goal.loop-bank-init
loop-bank-init g c = rw c.new-banks.ensures.items (made_none g.row.B g.row.M g.row.E c.args.shape)

pub new-requires : goal.new-requires
new-requires g c = (timed_fits g.row.B g.row.M g.row.E c.requires.layout, (c.requires.layout, (c.bank_shape.ensures.shape, (c.pace.ensures.pace, λ home. c.requires.wide (sym (ap (λ (s : BankShape). s.home) c.bank_shape.ensures.exact) ∙ home)))))

pub drop-banks-requires-room-T-Destruct : goal.drop-banks-requires-room-T-Destruct
drop-banks-requires-room-T-Destruct g c κs = timed_fits g.row.B g.row.M g.row.E c.requires.layout

pub from_residual-requires-in_err-push-room-F-From :
    goal.from_residual-requires-in_err-push-room-F-From
from_residual-requires-in_err-push-room-F-From g c κs = timed_fits g.row.B g.row.M g.row.E c.requires.layout

pub drop-banks-requires-in_err-push-room-T-Destruct :
    goal.drop-banks-requires-in_err-push-room-T-Destruct
drop-banks-requires-in_err-push-room-T-Destruct g c κs = timed_fits g.row.B g.row.M g.row.E c.requires.layout

pub loop-bank-preserved : goal.loop-bank-preserved
loop-bank-preserved g c =
    subst (λ (k : ℕ). AreMade g.row.B g.row.M g.row.E c.args.shape k c.push.new.self.items) (next_is c.loop-bank.bank)
    (made_one g.row.B g.row.M g.row.E c.args.shape c.loop-bank.bank c.loop-bank.banks.items c.push.new.self.items c.in_ok-new.field-0
    c.bank_shape.result c.pace.result c.loop-bank.invariant c.bank_shape.ensures.exact c.bank_shape.ensures.shape c.pace.ensures.exact
    c.in_ok-new.ensures.first c.in_ok-new.ensures.leads c.in_ok-push.ensures.items)

pub invariant_of-result : goal.invariant_of-result
invariant_of-result g c =
    made_module_is g.row.B g.row.M g.row.E c.args.shape c.args.seed c.loop-bank.banks.items
    (subst (λ (k : ℕ). AreMade g.row.B g.row.M g.row.E c.args.shape k c.loop-bank.banks.items) (end_is c.loop-bank.bank c.banks-bank-end.result c.args.shape.banks c.loop-bank.auto.bank-end c.loop-bank-test.false c.banks-bank-end.ensures.number) c.loop-bank.invariant)
    c.new-feistel.result c.address_bits.ensures.in_range c.requires.layout (c.new-feistel.ensures.keys ∙ ap (λ bits. network_of bits c.args.seed) c.address_bits.ensures.exact)

pub returns-clause-banks : goal.returns-clause-banks
returns-clause-banks g c =
    (subst (λ (k : ℕ). AreMade g.row.B g.row.M g.row.E c.args.shape k c.loop-bank.banks.items) (end_is c.loop-bank.bank c.banks-bank-end.result c.args.shape.banks c.loop-bank.auto.bank-end c.loop-bank-test.false c.banks-bank-end.ensures.number) c.loop-bank.invariant).made

pub returns-clause-begins : goal.returns-clause-begins
returns-clause-begins g c array wear results fresh =
    made_replays g.row.B g.row.M g.row.E c.args.shape c.args.seed c.loop-bank.banks.items
    (subst (λ (k : ℕ). AreMade g.row.B g.row.M g.row.E c.args.shape k c.loop-bank.banks.items) (end_is c.loop-bank.bank c.banks-bank-end.result c.args.shape.banks c.loop-bank.auto.bank-end c.loop-bank-test.false c.banks-bank-end.ensures.number) c.loop-bank.invariant)
    array wear results fresh
