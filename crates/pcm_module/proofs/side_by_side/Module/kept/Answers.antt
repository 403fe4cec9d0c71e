use Rattle.std.proofs.Common.{◌≡◌, ℕ, ◌<◌, ◌∙◌, Some, length, sym, ap, subst, arith}
use Rattle.std.specs.Prelude.{slice_get}
use Rattle.power_recovery.specs.Kept.{KeptState, IsKept}
use Rattle.bank_invariant.specs.State.{BankState}
use Rattle.module_shape.specs.Addresses.{module_of, bank_shape}
use Rattle.clock_laws.specs.State.{ClockState}
use Rattle.bank_timing.proofs.Sizes.{timed_fits, bank_fits}
use Rattle.pcm_module.{specs.Shaped.IsBankOf, specs.State.ModuleState, proofs.Banks.from_get, proofs.TakenRows.bank_there}
use Rattle.pcm_module.proofs.side_by_side.Module.kept.Goals as goal
use Rattle.masked_bytes.proofs.Lists.{item-at}

pub bank-requires : goal.bank-requires
bank-requires g c = (timed_fits g.row.B g.row.M g.row.E c.self.invariant.layout, bank_fits c.self.invariant.layout)

pub kept-requires : goal.kept-requires
kept-requires g c = (bank_fits c.self.invariant.layout, omega arith)

pub returns : goal.returns
returns g c =
    let s = c.self.inside in
    let now = c.args.self.now in
    let old : ModuleState g.row.B g.row.M g.row.E = record { shape = s.shape; seed = s.seed; banks = s.banks.items; tick = s.tick; rows_below = s.rows_below; finished = s.finished } in
    let same : old ≡ now = c.self.view_is in
    let bank = c.args.bank in
    let clock = c.index.result.now in
    let exists : bank < s.shape.banks = subst (λ (o : ModuleState g.row.B g.row.M g.row.E). bank < o.shape.banks) (sym same) c.requires in
    let within : bank < length s.banks.items = subst (λ (k : ℕ). bank < k) (sym c.self.invariant.count) exists in
    let there : slice_get s.banks.items bank ≡ Some clock = item-at s.banks.items bank clock within c.index.ensures in
    let is : slice_get now.banks bank ≡ Some clock = subst (λ (o : ModuleState g.row.B g.row.M g.row.E). slice_get o.banks bank ≡ Some clock) same there in
    let kept : c.kept.result.now ≡ clock.bank.kept = c.kept.ensures.kept ∙ ap (λ (b : BankState g.row.B g.row.M g.row.E). b.kept) c.bank.ensures in
    let own : IsBankOf (bank_shape (module_of s.shape) bank) clock
    = from_get (λ (k : ClockState g.row.B g.row.M g.row.E). IsBankOf (bank_shape (module_of s.shape) bank) k) (slice_get s.banks.items bank) clock there (c.self.invariant.of_shape bank exists) in
    record {
      kept = kept ∙ ap (λ (k : ClockState g.row.B g.row.M g.row.E). k.bank.kept) (sym (bank_there now bank clock is));
      shaped = ap (λ (k : KeptState g.row.B). k.shape) kept ∙ own.shaped ∙ ap (λ (o : ModuleState g.row.B g.row.M g.row.E). bank_shape (module_of o.shape) bank) same;
      in_range = subst (λ (k : KeptState g.row.B). IsKept k) (sym kept) own.kept;
    }

pub index-requires : goal.index-requires
index-requires g c = grind arith
