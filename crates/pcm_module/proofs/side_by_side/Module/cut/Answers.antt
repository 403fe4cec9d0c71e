use Rattle.std.proofs.Common.{arith, false, ◌∙◌, ℕ, ◌≡◌, ◌+◌, ◌++◌, ◌<◌, ◌≤◌, length, Some, refl, sym, ap, subst}
use Rattle.std.specs.Prelude.{slice_get}
use Rattle.row_rules.specs.declared.Asks.TheVariants.{Cuts}
use Rattle.bank_timing.proofs.Sizes.{timed_fits, outcome_fits}
use Rattle.pcm_module.{specs.State.ModuleState, specs.Taking.Takes, specs.Telling.{TellsByBanks, rows_at}, proofs.AsIf.{as_if, opens_back, at_as_if, step_as_if, stays_open}}
use Rattle.pcm_module.proofs.{Cuts.{CutsUpTo, cut_none, cut_replays, cut_one, cut_every, in_list}, Draining.{reached_all, reached_bank}}
use Rattle.pcm_module.proofs.{InOrder.{next_bank, of_bank, step_leaves, tells_own}, Serving.{module_kept, module_at, at_above}}
use Rattle.pcm_module.proofs.side_by_side.Module.cut.Goals as goal
use Rattle.masked_bytes.proofs.Lists.{item-at}
use Rattle.result_rows.specs.declared.Outcome.TheVariants as out
use Rattle.module_laws.specs.Asking.{Asked}

pub set-requires : goal.set-requires
set-requires g c =
    let fresh = c.loop-bank.invariant.0.fresh in
    (outcome_fits g.row.B g.row.M g.row.E c.loop-bank.invariant.0.is.layout, (fresh.exists, (fresh.unset, refl)))

pub loop-bank-init : goal.loop-bank-init
loop-bank-init g c =
    let s = c.self.inside in
    let old : ModuleState g.row.B g.row.M g.row.E = record { shape = s.shape; seed = s.seed; banks = s.banks.items; tick = s.tick; rows_below = s.rows_below; finished = s.finished } in
    let same : old ≡ c.args.self.now = c.self.view_is in
    let rises : s.tick ≤ c.args.tick = subst (λ (o : ModuleState g.row.B g.row.M g.row.E). o.tick ≤ c.args.tick) (sym same) c.requires.may_take.forward in
    let above : s.rows_below ≤ c.args.row = subst (λ (o : ModuleState g.row.B g.row.M g.row.E). o.rows_below ≤ c.args.row) (sym same) c.requires.may_take.rises in (
      rw (← same) (record {
        is = c.self.invariant;
        same = refl;
        cuts = cut_none c.args.row c.args.tick old (g.A.CellArray.state c.args.array.now) (g.R.Outcomes.table c.args.results.now) rises above c.requires.may_take.fresh.exists;
        fresh = c.requires.may_take.fresh;
      }),
      g.met.R.Outcomes.stands c.args.results.now,
      refl,
    )

pub cut_at-requires : goal.cut_at-requires
cut_at-requires g c =
    let old = c.args.self.now in
    let inv = c.loop-bank.invariant.0 in
    let items = c.loop-bank.self-inside.banks.items in
    let ends : c.self.inside.shape.banks ≡ old.shape.banks = ap (λ (o : ModuleState g.row.B g.row.M g.row.E). o.shape.banks) c.self.view_is in
    let banks : c.loop-bank.self-inside.shape.banks ≡ old.shape.banks = ap (λ (o : ModuleState g.row.B g.row.M g.row.E). o.shape.banks) inv.same in
    let exists : c.loop-bank.bank < old.shape.banks = reached_bank c.loop-bank.bank c.banks-banks.result c.self.inside.shape.banks old.shape.banks c.loop-bank-test.true c.banks-banks.ensures.number ends in
    let within : c.loop-bank.bank < length items = in_list c.loop-bank.bank old.shape.banks c.loop-bank.self-inside.shape.banks (length items) exists banks inv.is.count in
    let is : slice_get items c.loop-bank.bank ≡ Some c.index_mut.result.now = item-at items c.loop-bank.bank c.index_mut.result.now within c.index_mut.ensures.value in
    let led = c.requires.may_take.replayed in
    let xs = (inv.cuts.replays led.0 led.1 led.2).0 c.loop-bank.bank ++ led.0 c.loop-bank.bank in
    let f = cut_replays c.args.row c.args.tick old (g.A.CellArray.state c.args.array.now) (g.R.Outcomes.table c.args.results.now) c.requires.may_take.forward c.requires.may_take.rises c.requires.may_take.fresh.exists c.loop-bank.bank items (g.A.CellArray.state c.loop-bank.array) (as_if c.args.row (out.Cut c.args.tick) (g.R.Outcomes.table c.loop-bank.results)) c.index_mut.result.now exists is inv.cuts led.0 led.1 led.2 in (
      timed_fits g.row.B g.row.M g.row.E inv.is.layout,
      record {
        layout = inv.is.layout;
        going = f.going;
        led = (xs, f.leads);
        forward = f.in_time;
        within = c.requires.may_take.within;
        open_rows = opens_back c.args.row (out.Cut c.args.tick) (λ none. cc) c.index_mut.result.now (g.R.Outcomes.table c.loop-bank.results) inv.fresh.exists f.open_rows;
      },
    )

pub loop-bank-preserved : goal.loop-bank-preserved
loop-bank-preserved g c =
    let old = c.args.self.now in
    let inv = c.loop-bank.invariant.0 in
    let items = c.loop-bank.self-inside.banks.items in
    let ends : c.self.inside.shape.banks ≡ old.shape.banks = ap (λ (o : ModuleState g.row.B g.row.M g.row.E). o.shape.banks) c.self.view_is in
    let banks : c.loop-bank.self-inside.shape.banks ≡ old.shape.banks = ap (λ (o : ModuleState g.row.B g.row.M g.row.E). o.shape.banks) inv.same in
    let exists : c.loop-bank.bank < old.shape.banks = reached_bank c.loop-bank.bank c.banks-banks.result c.self.inside.shape.banks old.shape.banks c.loop-bank-test.true c.banks-banks.ensures.number ends in
    let within : c.loop-bank.bank < length items = in_list c.loop-bank.bank old.shape.banks c.loop-bank.self-inside.shape.banks (length items) exists banks inv.is.count in
    let is : slice_get items c.loop-bank.bank ≡ Some c.index_mut.result.now = item-at items c.loop-bank.bank c.index_mut.result.now within c.index_mut.ensures.value in
    let led = c.requires.may_take.replayed in
    let xs = (inv.cuts.replays led.0 led.1 led.2).0 c.loop-bank.bank ++ led.0 c.loop-bank.bank in
    let f = cut_replays c.args.row c.args.tick old (g.A.CellArray.state c.args.array.now) (g.R.Outcomes.table c.args.results.now) c.requires.may_take.forward c.requires.may_take.rises c.requires.may_take.fresh.exists c.loop-bank.bank items (g.A.CellArray.state c.loop-bank.array) (as_if c.args.row (out.Cut c.args.tick) (g.R.Outcomes.table c.loop-bank.results)) c.index_mut.result.now exists is inv.cuts led.0 led.1 led.2 in
    let real = g.R.Outcomes.table c.loop-bank.results in
    let told = g.R.Outcomes.table c.cut_at.new.results in
    let clock = c.index_mut.result.now in
    let next = c.cut_at.new.timed in
    let between = g.A.CellArray.state c.loop-bank.array in
    let after = g.A.CellArray.state c.cut_at.new.array in
    let the_cut : Asked g.row.B = record { row = c.args.row; tick = c.args.tick; asks = Cuts } in
    let below : next.bank.rows_below ≤ c.args.row = omega (arith, c.cut_at.ensures.at.below, f.below) in
    let s = c.cut_at.ensures.step c.args.row xs f.leads in (
      record {
        is = module_kept c.loop-bank.self-inside.shape c.loop-bank.self-inside.seed c.loop-bank.self-inside.feistel items c.loop-bank.self-inside.tick c.loop-bank.self-inside.tick c.loop-bank.bank clock next inv.is inv.is.in_time within is s.1.extends.shape s.1.extends.leads.holds.kept;
        same = inv.same;
        cuts = cut_one c.args.row c.args.tick old (g.A.CellArray.state c.args.array.now) (g.R.Outcomes.table c.args.results.now) c.requires.may_take.forward c.requires.may_take.rises c.requires.may_take.fresh.exists c.loop-bank.bank items between (as_if c.args.row (out.Cut c.args.tick) real) clock exists is inv.cuts
            after (as_if c.args.row (out.Cut c.args.tick) told) next
            (at_as_if c.args.row (out.Cut c.args.tick) xs s.0 clock next between after real told f.leads s.1.extends inv.fresh.exists below c.args.tick c.args.row
            (at_above c.args.tick clock.bank.rows_below c.args.row next told c.cut_at.ensures.at f.below))
            (λ ys leads. let t = c.cut_at.ensures.step c.args.row ys leads in
            (t.0, step_as_if c.args.row (out.Cut c.args.tick) ys t.0 clock next between after real told leads t.1.extends inv.fresh.exists below the_cut t.1)) led;
        fresh = stays_open c.args.row (out.Cut c.args.tick) xs s.0 clock next between after real told f.leads s.1.extends inv.fresh.exists below inv.fresh;
      },
      g.met.R.Outcomes.follows _ _ _ c.loop-bank.invariant.1 c.cut_at.ensures.goes_on,
      next_bank g.R.Outcomes.goes_on g.R.Outcomes.table old false (rows_at old) c.loop-bank.bank _ c.args.results.now c.loop-bank.results c.cut_at.new.results refl c.loop-bank.invariant.2
          (of_bank g.R.Outcomes.goes_on g.R.Outcomes.table old false c.loop-bank.bank clock c.loop-bank.results c.cut_at.new.results (sym (inv.cuts.ahead c.loop-bank.bank (omega arith)) ∙ is) c.cut_at.ensures.goes_on
          (step_leaves xs clock next between after real told (λ row. record { row = row; tick = c.args.tick; asks = Cuts }) (λ row. refl) f.leads (λ row. c.cut_at.ensures.step row xs f.leads)) c.cut_at.ensures.in_turn),
    )

pub invariant_of-self : goal.invariant_of-self
invariant_of-self g c =
    module_at c.loop-bank.self-inside.shape c.loop-bank.self-inside.seed c.loop-bank.self-inside.feistel c.loop-bank.self-inside.banks.items c.loop-bank.self-inside.tick c.args.tick c.loop-bank.invariant.0.is c.requires.may_take.within

pub returns : goal.returns
returns g c =
    let old = c.args.self.now in
    let inv = c.loop-bank.invariant.0 in
    let s = c.loop-bank.self-inside in
    let items = s.banks.items in
    let ends : c.self.inside.shape.banks ≡ old.shape.banks = ap (λ (o : ModuleState g.row.B g.row.M g.row.E). o.shape.banks) c.self.view_is in
    let banks : s.shape.banks ≡ old.shape.banks = ap (λ (o : ModuleState g.row.B g.row.M g.row.E). o.shape.banks) inv.same in
    let all : c.loop-bank.bank ≡ old.shape.banks =
    reached_all c.loop-bank.bank c.banks-banks.result c.self.inside.shape.banks old.shape.banks c.loop-bank.auto.bank-end c.loop-bank-test.false c.banks-banks.ensures.number ends in
    let taken = cut_every c.args.row c.args.tick old (g.A.CellArray.state c.args.array.now) (g.R.Outcomes.table c.args.results.now) c.requires.may_take.forward c.requires.may_take.rises c.requires.may_take.fresh.exists c.loop-bank.bank items (g.A.CellArray.state c.loop-bank.array)
    (g.R.Outcomes.table c.set.new.self) all
    (subst (CutsUpTo (record { row = c.args.row; tick = c.args.tick; asks = Cuts }) old (g.A.CellArray.state c.args.array.now) (g.R.Outcomes.table c.args.results.now) c.loop-bank.bank items (g.A.CellArray.state c.loop-bank.array))
    (sym c.set.ensures.table) inv.cuts) in
    record {
      order = (
        c.loop-bank.results,
        subst (λ (k : ℕ). TellsByBanks g.R.Outcomes.goes_on g.R.Outcomes.table false (rows_at old) k c.args.results.now c.loop-bank.results) all c.loop-bank.invariant.2,
        tells_own g.R.Outcomes.goes_on g.R.Outcomes.table c.args.row c.args.tick (out.Cut c.args.tick) c.loop-bank.results c.set.new.self inv.fresh.exists c.set.ensures.table (record { at = refl; known = refl }) c.set.ensures.goes_on,
      );
      goes_on = g.met.R.Outcomes.follows _ _ _ c.loop-bank.invariant.1 c.set.ensures.goes_on;
      takes =
          subst (λ (new : ModuleState g.row.B g.row.M g.row.E). Takes (record { row = c.args.row; tick = c.args.tick; asks = Cuts }) old new (g.A.CellArray.state c.args.array.now) (g.A.CellArray.state c.loop-bank.array) (g.R.Outcomes.table c.args.results.now) (g.R.Outcomes.table c.set.new.self))
          (sym (ap (λ (o : ModuleState g.row.B g.row.M g.row.E). let new : ModuleState g.row.B g.row.M g.row.E = record o { banks = items; tick = c.args.tick; rows_below = c.args.row + 1 } in new) inv.same)) taken;
    }

pub banks-banks-requires : goal.banks-banks-requires
banks-banks-requires g c = grind arith

pub overflow_cast-bank : goal.overflow_cast-bank
overflow_cast-bank g c = grind arith

pub index_mut-requires : goal.index_mut-requires
index_mut-requires g c = grind arith

pub loop-bank-smaller : goal.loop-bank-smaller
loop-bank-smaller g c = grind arith

pub overflow_add-self : goal.overflow_add-self
overflow_add-self g c = grind arith
