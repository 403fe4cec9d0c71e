use Rattle.std.proofs.Common.{◌≡◌, ℕ, ◌<◌, Some, length, sym, subst, arith}
use Rattle.std.specs.Prelude.{slice_get}
use Rattle.masked_bytes.proofs.Lists.{item-at}
use Rattle.pcm_module.specs.State.{ModuleState}
use Rattle.pcm_module.proofs.side_by_side.Module.timed.Goals as goal

pub index-requires : goal.index-requires
index-requires g c = grind arith

pub returns : goal.returns
returns g c =
    let s = c.self.inside in
    let old : ModuleState g.row.B g.row.M g.row.E = record { shape = s.shape; seed = s.seed; banks = s.banks.items; tick = s.tick; rows_below = s.rows_below; finished = s.finished } in
    let same : old ≡ c.args.self.now = c.self.view_is in
    let bank = c.args.bank in
    let clock = c.index.result.now in
    let exists : bank < s.shape.banks = subst (λ (o : ModuleState g.row.B g.row.M g.row.E). bank < o.shape.banks) (sym same) c.requires in
    let within : bank < length s.banks.items = subst (λ (k : ℕ). bank < k) (sym c.self.invariant.count) exists in
    let there : slice_get s.banks.items bank ≡ Some clock = item-at s.banks.items bank clock within c.index.ensures in
    subst (λ (o : ModuleState g.row.B g.row.M g.row.E). slice_get o.banks bank ≡ Some clock) same there
