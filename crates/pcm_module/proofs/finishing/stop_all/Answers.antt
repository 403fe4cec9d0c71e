use Rattle.std.proofs.Common.{arith, true, ◌≡◌, ℕ, ◌<◌, [], ◌++◌, length, Some, refl, sym, subst, ◌∙◌}
use Rattle.std.specs.Prelude.{slice_get}
use Rattle.bank_timing.proofs.Sizes.{timed_fits}
use Rattle.pcm_module.{specs.Draining.AreDrained, specs.Telling.{TellsByBanks, rows_at}, proofs.Draining.{drain_none, next_replays, drain_one, reached_bank, reached_all}}
use Rattle.pcm_module.proofs.InOrder.{next_bank, of_bank}
use Rattle.pcm_module.proofs.finishing.stop_all.Goals as goal
use Rattle.masked_bytes.proofs.Lists.{item-at}

pub loop-bank-init : goal.loop-bank-init
loop-bank-init g c = ((λ of array may. drain_none true of array (g.R.Outcomes.table c.args.results.now) c.args.banks.now.items may), g.met.R.Outcomes.stands c.args.results.now, λ of array may. refl)

pub stop-requires : goal.stop-requires
stop-requires g c =
    let of = c.requires.ready.0 in
    let array = c.requires.ready.1 in
    let may = c.requires.ready.2 in
    let bank = c.loop-bank.bank in
    let banks = c.loop-bank.banks.items in
    let clock = c.index_mut.result.now in
    let so_far = c.loop-bank.invariant.0 of array may in
    let exists = reached_bank bank c.len-bank-end.result (length c.args.banks.now.items) of.shape.banks c.loop-bank-test.true (c.len-bank-end.ensures ∙ c.args.banks.now.ok.0) may.count in
    let within : bank < length banks = subst (λ (k : ℕ). bank < k) (sym so_far.count) exists in
    let is : slice_get banks bank ≡ Some clock = item-at banks bank clock within c.index_mut.ensures.value in
    let f = next_replays true of array (g.R.Outcomes.table c.args.results.now) bank banks array (g.R.Outcomes.table c.loop-bank.results) clock so_far exists is may.led.0 may.led.1 may.led.2 may.led.3 in (
      timed_fits g.row.B g.row.M g.row.E c.requires.layout,
      (
        array,
        record {
          running = f.going;
          led = ((so_far.replays may.led.0 may.led.1 may.led.2 may.led.3).0 bank ++ may.led.0 bank, f.leads);
          unset = f.open_rows;
        },
      ),
    )

pub loop-bank-preserved : goal.loop-bank-preserved
loop-bank-preserved g c = (
  (λ of array may.
      let bank = c.loop-bank.bank in
      let banks = c.loop-bank.banks.items in
      let clock = c.index_mut.result.now in
      let so_far = c.loop-bank.invariant.0 of array may in
      let exists = reached_bank bank c.len-bank-end.result (length c.args.banks.now.items) of.shape.banks c.loop-bank-test.true (c.len-bank-end.ensures ∙ c.args.banks.now.ok.0) may.count in
      let within : bank < length banks = subst (λ (k : ℕ). bank < k) (sym so_far.count) exists in
      let is : slice_get banks bank ≡ Some clock = item-at banks bank clock within c.index_mut.ensures.value in
      drain_one true of array (g.R.Outcomes.table c.args.results.now) bank banks array (g.R.Outcomes.table c.loop-bank.results) clock so_far exists is
      array (g.R.Outcomes.table c.stop.new.results) c.stop.new.self may.in_range (λ xs leads cut. ([], c.stop.ensures.stops xs array leads cut)) may.led c.stop.ensures.others),
  g.met.R.Outcomes.follows _ _ _ c.loop-bank.invariant.1 c.stop.ensures.goes_on,
  λ of array may.
      let bank = c.loop-bank.bank in
      let banks = c.loop-bank.banks.items in
      let clock = c.index_mut.result.now in
      let so_far = c.loop-bank.invariant.0 of array may in
      let exists = reached_bank bank c.len-bank-end.result (length c.args.banks.now.items) of.shape.banks c.loop-bank-test.true (c.len-bank-end.ensures ∙ c.args.banks.now.ok.0) may.count in
      let within : bank < length banks = subst (λ (k : ℕ). bank < k) (sym so_far.count) exists in
      let is : slice_get banks bank ≡ Some clock = item-at banks bank clock within c.index_mut.ensures.value in
      next_bank g.R.Outcomes.goes_on g.R.Outcomes.table of true (rows_at of) bank _ c.args.results.now c.loop-bank.results c.stop.new.results refl (c.loop-bank.invariant.2 of array may)
      (of_bank g.R.Outcomes.goes_on g.R.Outcomes.table of true bank clock c.loop-bank.results c.stop.new.results
      (sym (so_far.ahead bank (omega arith)) ∙ is) c.stop.ensures.goes_on c.stop.ensures.others c.stop.ensures.in_turn),
)

pub returns : goal.returns
returns g c = record {
  goes_on = c.loop-bank.invariant.1;
  order = λ of array may.
      let all = reached_all c.loop-bank.bank c.len-bank-end.result (length c.args.banks.now.items) of.shape.banks c.loop-bank.auto.bank-end c.loop-bank-test.false (c.len-bank-end.ensures ∙ c.args.banks.now.ok.0) may.count in
      subst (λ (k : ℕ). TellsByBanks g.R.Outcomes.goes_on g.R.Outcomes.table true (rows_at of) k c.args.results.now c.loop-bank.results) all (c.loop-bank.invariant.2 of array may);
  stopped = λ of array may.
      let all = reached_all c.loop-bank.bank c.len-bank-end.result (length c.args.banks.now.items) of.shape.banks c.loop-bank.auto.bank-end c.loop-bank-test.false (c.len-bank-end.ensures ∙ c.args.banks.now.ok.0) may.count in
      subst (λ (k : ℕ). AreDrained true of k c.loop-bank.banks.items array array (g.R.Outcomes.table c.args.results.now) (g.R.Outcomes.table c.loop-bank.results)) all (c.loop-bank.invariant.0 of array may);
}

pub index_mut-requires : goal.index_mut-requires
index_mut-requires g c = grind arith

pub loop-bank-smaller : goal.loop-bank-smaller
loop-bank-smaller g c = grind arith
