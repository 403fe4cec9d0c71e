use Rattle.std.proofs.Common.{arith, ◌≡◌, ◌∙◌, refl, sym, ap, subst}
use Rattle.bank_shape.specs.declared.Home.TheVariants.{Array, Guarded}
use Rattle.power_recovery.specs.{Kept.KeptState, Restoring.stripped_kept}
use Rattle.bank_invariant.specs.State.{BankState}
use Rattle.bank_core.specs.Stepping.{with_kept}
use Rattle.register_laws.specs.Recovering.{IsReadable}
use Rattle.bank_timing.{specs.Clock.IsClock, proofs.Recovers.clock-back, proofs.Sensing.senses-none, proofs.Sizes.{bank_fits, regs_fits, kept_fits}}
use Rattle.bank_timing.proofs.{clocked.Timed.read_back.Given.Over, clocked.Timed.read_back.Goals.After-recover}
use Rattle.bank_timing.proofs.clocked.Timed.read_back.Goals as goal

pub kept-requires : goal.kept-requires
kept-requires g c = (bank_fits c.self.invariant.layout, kept_fits)

pub strip-requires : goal.strip-requires
strip-requires g c =
    let idle = rw (← c.self.view_is) at c.requires.idle in
    let served = rw (← c.self.view_is) at c.requires.served in
    let taken = rw (← c.self.view_is) at c.requires.taken in
    (bank_fits c.self.invariant.layout, (idle, (served, taken)))

pub recover-requires : goal.recover-requires
recover-requires g c =
    let idle = rw (← c.self.view_is) at c.requires.idle in
    let served = rw (← c.self.view_is) at c.requires.served in
    let taken = rw (← c.self.view_is) at c.requires.taken in
    let held = rw (← c.self.view_is) at c.requires.readable in
    let some = held (rw (c.shape.ensures.shape, c.kept.ensures.kept) at c.in-Array.is) in
    let stripped = ap (λ (b : BankState g.row.B g.row.M g.row.E). b.kept) c.strip.ensures.bank in (
      bank_fits c.self.invariant.layout,
      (
        regs_fits g.row.B g.row.M g.row.E c.self.invariant.layout,
        (
          c.self.invariant.layout,
          (
            rw c.strip.ensures.bank idle,
            (rw c.strip.ensures.bank served, (rw c.strip.ensures.bank taken, (some.0, record { stripped = stripped ∙ some.1.stripped; idle = some.1.idle; lines = some.1.lines }))),
          ),
        ),
      ),
    )

-- the bank keeps what the control lines and the change hold
back : (g : Over) (c : After-recover g) (kept : KeptState g.row.B)
    → IsReadable {n = g.row.B} {m = g.row.M} {e = g.row.E} kept (stripped_kept c.self.inside.bank.kept) c.self.inside.regs (g.A.CellArray.state c.args.array.now)
    → c.recover.new.bank ≡ with_kept c.self.inside.bank kept
back g c kept is =
    let stripped = ap (λ (b : BankState g.row.B g.row.M g.row.E). b.kept) c.strip.ensures.bank in
    c.recover.ensures.kept kept (record { stripped = stripped ∙ is.stripped; idle = is.idle; lines = is.lines })
    ∙ ap (λ (b : BankState g.row.B g.row.M g.row.E). with_kept b kept) c.strip.ensures.bank

pub invariant_of-self : goal.invariant_of-self
invariant_of-self g c =
    let s = c.self.inside in
    let rests = rw (← c.self.view_is) at c.requires.rests in
    let held = rw (← c.self.view_is) at c.requires.readable in
    let some = held (rw (c.shape.ensures.shape, c.kept.ensures.kept) at c.in-Array.is) in
    subst (λ (b : BankState g.row.B g.row.M g.row.E). IsClock b s.regs s.pace s.tick s.action s.arrivals.capacity)
    (sym (back g (goal.at.invariant_of-self g c).After-recover some.0 some.1))
    (clock-back s.bank some.0 s.regs s.pace s.tick s.arrivals.capacity s.action c.self.invariant rests some.1.stripped)

pub returns-in-Array-clause-guarded : goal.returns-in-Array-clause-guarded
returns-in-Array-clause-guarded g c =
    rw (← c.self.view_is)
    (λ is.
    let home : c.self.inside.bank.kept.shape.home ≡ Array = rw (c.shape.ensures.shape, c.kept.ensures.kept) at c.in-Array.is in
    let no : Array ≡ Guarded = sym home ∙ is in
    absurd (cc no))

pub returns-in-Array-clause-back : goal.returns-in-Array-clause-back
returns-in-Array-clause-back g c = rw (← c.self.view_is) (λ home kept is. rw (back g (goal.at.returns-in-Array-clause-back g c).After-recover kept is) refl)

pub returns-in-Guarded-clause-guarded : goal.returns-in-Guarded-clause-guarded
returns-in-Guarded-clause-guarded g c = rw (← c.self.view_is) (λ is. refl)

pub returns-in-Guarded-clause-back : goal.returns-in-Guarded-clause-back
returns-in-Guarded-clause-back g c =
    rw (← c.self.view_is)
    (λ is.
    let home : c.self.inside.bank.kept.shape.home ≡ Guarded = rw (c.shape.ensures.shape, c.kept.ensures.kept) at c.in-Guarded.is in
    let no : Array ≡ Guarded = sym is ∙ home in
    absurd (cc no))

pub shape-requires : goal.shape-requires
shape-requires g c = kept_fits

pub returns-in-Array-clause-touches : goal.returns-in-Array-clause-touches
returns-in-Array-clause-touches g c = grind arith

pub returns-in-Guarded-clause-touches : goal.returns-in-Guarded-clause-touches
returns-in-Guarded-clause-touches g c =
    let shape = rw (c.shape.ensures.shape, c.kept.ensures.kept) at c.in-Guarded.is in
    rw (← c.self.view_is) (senses-none c.self.inside.tick c.self.inside.bank.kept.shape _ shape)
