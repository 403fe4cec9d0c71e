use Rattle.std.proofs.Common.{arith, ◌≡◌, ◌∙◌, ◌<◌, ◌++◌, ℕ, false, length, Some, sym, subst, inl}
use Rattle.std.specs.Prelude.{slice_get}
use Rattle.masked_bytes.proofs.Lists.{item-at}
use Rattle.bank_timing.proofs.{Sizes.timed_fits, Telling.in-turn}
use Rattle.pcm_module.{proofs.InOrder.of_bank}
use Rattle.pcm_module.proofs.Settles.{settle_none, settle_replays, settle_one}
use Rattle.pcm_module.proofs.settling.settle_one.Goals as goal

pub advance-requires : goal.advance-requires
advance-requires g c =
    let of = c.requires.ready.0 in
    let may = c.requires.ready.1 in
    let exists = c.requires.ready.2 in
    let bank = c.args.bank in
    let banks = c.args.banks.now.items in
    let clock = c.index_mut.result.now in
    let array = g.A.CellArray.state c.args.array.now in
    let results = g.R.Outcomes.table c.args.results.now in
    let so_far = settle_none c.args.tick of array results (λ other. ⊥) (λ other none. none) banks may in
    let within : bank < length banks = subst (λ (k : ℕ). bank < k) (sym may.count) exists in
    let is : slice_get banks bank ≡ Some clock = item-at banks bank clock within c.index_mut.ensures.value in
    let f = settle_replays c.args.tick of array results (λ other. ⊥) bank banks array results clock so_far exists is may.led.0 may.led.1 may.led.2 in (
      timed_fits g.row.B g.row.M g.row.E c.requires.layout,
      (
        record {
          running = f.going;
          led = ((so_far.replays may.led.0 may.led.1 may.led.2).0 bank ++ may.led.0 bank, f.leads);
          unset = f.open_rows;
        },
        (f.in_time, may.within),
      ),
    )

pub returns : goal.returns
returns g c = record {
  settled = λ of may exists.
      let bank = c.args.bank in
      let banks = c.args.banks.now.items in
      let clock = c.index_mut.result.now in
      let array = g.A.CellArray.state c.args.array.now in
      let results = g.R.Outcomes.table c.args.results.now in
      let so_far = settle_none c.args.tick of array results (λ other. ⊥) (λ other none. none) banks may in
      let within : bank < length banks = subst (λ (k : ℕ). bank < k) (sym may.count) exists in
      let is : slice_get banks bank ≡ Some clock = item-at banks bank clock within c.index_mut.ensures.value in
      let f = settle_replays c.args.tick of array results (λ other. ⊥) bank banks array results clock so_far exists is may.led.0 may.led.1 may.led.2 in
      settle_one c.args.tick of array results (λ other. ⊥) bank banks array results clock so_far exists is
      (g.A.CellArray.state c.advance.new.array) (g.R.Outcomes.table c.advance.new.results) c.advance.new.self
      (record { now = c.advance.ensures.ran.now; going = c.advance.ensures.ran.drained ∙ f.going; below = omega (arith, c.advance.ensures.ran.rows, f.below); open_rows = c.advance.ensures.ran.unset })
      c.advance.ensures.extends (λ other. other ≡ bank) (λ none. none) (λ k same. inl same) (λ k off. (off, λ none. none)) may.led c.advance.ensures.ran.others;
  goes_on = c.advance.ensures.goes_on;
  order = λ of may exists.
      let bank = c.args.bank in
      let banks = c.args.banks.now.items in
      let clock = c.index_mut.result.now in
      let within : bank < length banks = subst (λ (k : ℕ). bank < k) (sym may.count) exists in
      let is : slice_get of.banks bank ≡ Some clock = subst (λ cs. slice_get cs bank ≡ Some clock) (sym may.same) (item-at banks bank clock within c.index_mut.ensures.value) in
      of_bank g.R.Outcomes.goes_on g.R.Outcomes.table of false bank clock c.args.results.now c.advance.new.results is c.advance.ensures.goes_on c.advance.ensures.ran.others
      (in-turn g.R.Outcomes.goes_on g.R.Outcomes.table c.args.tick c.args.results.now c.advance.new.results c.advance.ensures.in_turn);
}

pub index_mut-requires : goal.index_mut-requires
index_mut-requires g c = subst (λ (k : ℕ). c.args.bank < k) (sym c.requires.ready.1.count ∙ sym c.args.banks.now.ok.0) c.requires.ready.2
