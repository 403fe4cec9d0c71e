use Rattle.std.proofs.Common.{[], ◌∷◌, sym, ap, subst, ◌∙◌}
use Rattle.bank_model.specs.Events.{Read}
use Rattle.bank_invariant.specs.{Serving.read_from, State.BankState}
use Rattle.clock_laws.specs.State.{ClockState}
use Rattle.bank_timing.{specs.Cancelling.cancel_by, specs.Extending.Arrives, proofs.Cancels.{CancelsRead, cancels-read, with_bank, cancel-arrives, behind-cancel}}
use Rattle.bank_timing.proofs.{ReadArrivals.read-keeps, Sizes.{bank_fits, read_fits}, Views.clock_of, clocked.Timed.read_cancelled.Given.Over}
use Rattle.bank_timing.proofs.clocked.Timed.read_cancelled.Goals.{After-read}
use Rattle.bank_timing.proofs.clocked.Timed.read_cancelled.Goals as goal

pub read-requires : goal.read-requires
read-requires g c =
    let same = c.self.view_is ∙ c.cancel.ensures.clock in
    let behind = behind-cancel c.args.self.now c.args.line c.requires.cancels c.args.self.now.regs.change in
    let kept = ap (λ (k : ClockState g.row.B g.row.M g.row.E). k.bank.kept) same ∙ behind.kept in
    let bound = ap (λ (k : ClockState g.row.B g.row.M g.row.E). k.bank.rows_below) same ∙ behind.bound in
    (bank_fits c.self.invariant.layout, (read_fits g.row.B g.row.M g.row.E c.self.invariant.layout, (rw kept c.requires.exists, rw bound c.requires.rises)))

-- the read is one that cancels
reads : (g : Over) (c : After-read g) → CancelsRead c.args.row c.args.line c.args.self.now (g.A.CellArray.state c.args.array.now) (g.A.CellArray.state c.cancel.new.array) c.read.new.self
reads g c =
    cancels-read c.args.row c.args.line c.args.self.now (clock_of c.self.inside) (g.A.CellArray.state c.args.array.now) (g.A.CellArray.state c.cancel.new.array) c.read.new.self c.read.result
    (c.self.view_is ∙ c.cancel.ensures.clock) c.requires.cancels c.requires.led c.requires.rises (rw (← c.self.view_is) at c.cancel.ensures.reaches) c.read.ensures.answer c.read.ensures.bank c.read.ensures.holds

pub invariant_of-self : goal.invariant_of-self
invariant_of-self g c =
    let same = c.self.view_is ∙ c.cancel.ensures.clock in
    let behind = behind-cancel c.args.self.now c.args.line c.requires.cancels c.args.self.now.regs.change in
    let none = ap (λ (k : ClockState g.row.B g.row.M g.row.E). k.action) same ∙ behind.none in
    rw none (record { layout = c.self.invariant.layout; paced = c.self.invariant.paced; room = c.self.invariant.room ∙ ap (λ shape. shape.writes) (sym (ap (λ (b : BankState g.row.B g.row.M g.row.E). b.kept.shape) c.read.ensures.bank ∙ (read-keeps c.self.inside.bank c.args.row c.args.line c.read.result).shape)); begun = tt; fit = tt; idle = c.self.invariant.idle })

pub cancel-requires : goal.cancel-requires
cancel-requires g c = (assumption, (c.requires.led, c.requires.cancels))

pub returns : goal.returns
returns g c = record {
  arrives = λ results unset fresh.
      subst (λ (k : ClockState g.row.B g.row.M g.row.E). Arrives c.args.row (Read c.args.row c.args.line (read_from c.args.self.now.bank c.args.line)) (λ xs. cancel_by c.args.self.now.regs.change xs c.args.self.now ∷ [])
      c.args.self.now (with_bank c.read.new.self k) (g.A.CellArray.state c.args.array.now) (g.A.CellArray.state c.cancel.new.array) results results) (sym (c.self.view_is ∙ c.cancel.ensures.clock))
      (cancel-arrives (reads g (goal.at.returns g c).After-read) results unset fresh);
}
