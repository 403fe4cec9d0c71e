use Rattle.std.proofs.Common.{arith, false, ◌≡◌, ℕ, ◌+◌, ◌<◌, ◌++◌, length, Some, refl, sym, subst, ◌∙◌}
use Rattle.std.specs.Prelude.{slice_get}
use Rattle.bank_timing.proofs.{Sizes.timed_fits, Telling.in-turn}
use Rattle.masked_bytes.proofs.Lists.{item-at}
use Rattle.pcm_module.{specs.Settling.AreSettled, specs.Telling.{TellsByBanks, rows_at}, proofs.Draining.{reached_bank, reached_all}, proofs.InOrder.{next_bank, of_bank}}
use Rattle.pcm_module.proofs.Settles.{settle_none, settle_replays, settle_one, next_below, not_next}
use Rattle.pcm_module.proofs.settling.settle_all.Goals as goal

pub loop-bank-init : goal.loop-bank-init
loop-bank-init g c = (
  (λ of may. settle_none c.args.tick of (g.A.CellArray.state c.args.array.now) (g.R.Outcomes.table c.args.results.now) (λ bank. bank < 0) (λ bank none. absurd (omega (arith, none))) c.args.banks.now.items may),
  g.met.R.Outcomes.stands c.args.results.now,
  λ of may. refl,
)

pub advance-requires : goal.advance-requires
advance-requires g c =
    let of = c.requires.ready.0 in
    let may = c.requires.ready.1 in
    let bank = c.loop-bank.bank in
    let banks = c.loop-bank.banks.items in
    let clock = c.index_mut.result.now in
    let so_far = c.loop-bank.invariant.0 of may in
    let exists = reached_bank bank c.len-bank-end.result (length c.args.banks.now.items) of.shape.banks c.loop-bank-test.true (c.len-bank-end.ensures ∙ c.args.banks.now.ok.0) may.count in
    let within : bank < length banks = subst (λ (k : ℕ). bank < k) (sym so_far.count) exists in
    let is : slice_get banks bank ≡ Some clock = item-at banks bank clock within c.index_mut.ensures.value in
    let f = settle_replays c.args.tick of (g.A.CellArray.state c.args.array.now) (g.R.Outcomes.table c.args.results.now) (λ k. k < bank) bank banks (g.A.CellArray.state c.loop-bank.array) (g.R.Outcomes.table c.loop-bank.results) clock so_far exists is may.led.0 may.led.1 may.led.2 in (
      timed_fits g.row.B g.row.M g.row.E c.requires.layout,
      (
        record {
          running = f.going;
          led = ((so_far.replays may.led.0 may.led.1 may.led.2).0 bank ++ may.led.0 bank, f.leads);
          unset = f.open_rows;
        },
        (f.in_time, may.within),
      ),
    )

pub loop-bank-preserved : goal.loop-bank-preserved
loop-bank-preserved g c = (
  (λ of may.
      let bank = c.loop-bank.bank in
      let banks = c.loop-bank.banks.items in
      let clock = c.index_mut.result.now in
      let so_far = c.loop-bank.invariant.0 of may in
      let exists = reached_bank bank c.len-bank-end.result (length c.args.banks.now.items) of.shape.banks c.loop-bank-test.true (c.len-bank-end.ensures ∙ c.args.banks.now.ok.0) may.count in
      let within : bank < length banks = subst (λ (k : ℕ). bank < k) (sym so_far.count) exists in
      let is : slice_get banks bank ≡ Some clock = item-at banks bank clock within c.index_mut.ensures.value in
      let f = settle_replays c.args.tick of (g.A.CellArray.state c.args.array.now) (g.R.Outcomes.table c.args.results.now) (λ k. k < bank) bank banks (g.A.CellArray.state c.loop-bank.array) (g.R.Outcomes.table c.loop-bank.results) clock so_far exists is may.led.0 may.led.1 may.led.2 in
      settle_one c.args.tick of (g.A.CellArray.state c.args.array.now) (g.R.Outcomes.table c.args.results.now) (λ k. k < bank) bank banks (g.A.CellArray.state c.loop-bank.array) (g.R.Outcomes.table c.loop-bank.results) clock so_far exists is
      (g.A.CellArray.state c.advance.new.array) (g.R.Outcomes.table c.advance.new.results) c.advance.new.self
      (record { now = c.advance.ensures.ran.now; going = c.advance.ensures.ran.drained ∙ f.going; below = omega (arith, c.advance.ensures.ran.rows, f.below); open_rows = c.advance.ensures.ran.unset })
      c.advance.ensures.extends (λ k. k < bank + 1) (λ own. absurd (omega (arith, own))) (next_below bank) (not_next bank) may.led c.advance.ensures.ran.others),
  g.met.R.Outcomes.follows _ _ _ c.loop-bank.invariant.1 c.advance.ensures.goes_on,
  λ of may.
      let bank = c.loop-bank.bank in
      let banks = c.loop-bank.banks.items in
      let clock = c.index_mut.result.now in
      let so_far = c.loop-bank.invariant.0 of may in
      let exists = reached_bank bank c.len-bank-end.result (length c.args.banks.now.items) of.shape.banks c.loop-bank-test.true (c.len-bank-end.ensures ∙ c.args.banks.now.ok.0) may.count in
      let within : bank < length banks = subst (λ (k : ℕ). bank < k) (sym so_far.count) exists in
      let is : slice_get banks bank ≡ Some clock = item-at banks bank clock within c.index_mut.ensures.value in
      next_bank g.R.Outcomes.goes_on g.R.Outcomes.table of false (rows_at of) bank _ c.args.results.now c.loop-bank.results c.advance.new.results refl (c.loop-bank.invariant.2 of may)
      (of_bank g.R.Outcomes.goes_on g.R.Outcomes.table of false bank clock c.loop-bank.results c.advance.new.results
      (sym (so_far.ahead bank (λ own. absurd (omega (arith, own)))) ∙ is) c.advance.ensures.goes_on c.advance.ensures.ran.others
      (in-turn g.R.Outcomes.goes_on g.R.Outcomes.table c.args.tick c.loop-bank.results c.advance.new.results c.advance.ensures.in_turn)),
)

pub returns : goal.returns
returns g c = record {
  settled = λ of may.
      let all = reached_all c.loop-bank.bank c.len-bank-end.result (length c.args.banks.now.items) of.shape.banks c.loop-bank.auto.bank-end c.loop-bank-test.false (c.len-bank-end.ensures ∙ c.args.banks.now.ok.0) may.count in
      subst (λ (k : ℕ). AreSettled c.args.tick of (λ bank. bank < k) c.loop-bank.banks.items (g.A.CellArray.state c.args.array.now) (g.A.CellArray.state c.loop-bank.array) (g.R.Outcomes.table c.args.results.now) (g.R.Outcomes.table c.loop-bank.results)) all (c.loop-bank.invariant.0 of may);
  goes_on = c.loop-bank.invariant.1;
  order = λ of may.
      let all = reached_all c.loop-bank.bank c.len-bank-end.result (length c.args.banks.now.items) of.shape.banks c.loop-bank.auto.bank-end c.loop-bank-test.false (c.len-bank-end.ensures ∙ c.args.banks.now.ok.0) may.count in
      subst (λ (k : ℕ). TellsByBanks g.R.Outcomes.goes_on g.R.Outcomes.table false (rows_at of) k c.args.results.now c.loop-bank.results) all (c.loop-bank.invariant.2 of may);
}

pub index_mut-requires : goal.index_mut-requires
index_mut-requires g c = grind arith

pub loop-bank-smaller : goal.loop-bank-smaller
loop-bank-smaller g c = grind arith
