use Rattle.std.proofs.Common.{arith, ◌≡◌, ℕ, ◌+◌, ◌*◌, ◌<◌, ◌≤◌, sym, subst, ◌∙◌}
use Rattle.module_shape.specs.Addresses.{module_of, array_lines_of}
use Rattle.right_runs.specs.Banks.{bank_of_line}
use Rattle.run_laws.proofs.Mixing.{lines_law}
use Rattle.pcm_module.{specs.Shaped.IsModule, specs.State.ModuleState, proofs.Translating.{stands_from, stands_to, stands_apart, line_stands}}
use Rattle.pcm_module.proofs.side_by_side.Module.translate.Goals as goal

pub returns : goal.returns
returns g c =
    let s = c.self.inside in
    let now = c.args.self.now in
    let old : ModuleState g.row.B g.row.M g.row.E = record { shape = s.shape; seed = s.seed; banks = s.banks.items; tick = s.tick; rows_below = s.rows_below; finished = s.finished } in
    let same : old ≡ now = c.self.view_is in
    let module_is : IsModule now.shape now.seed s.feistel now.banks now.tick
    = subst (λ (o : ModuleState g.row.B g.row.M g.row.E). IsModule o.shape o.seed s.feistel o.banks o.tick) same c.self.invariant in
    let lines = lines_law now.shape now.seed module_is.in_range in
    let stands = line_stands now s.feistel module_is lines c.args.line c.place-place.result.bank c.place-place.result.line c.slot_of.result c.array_line.result c.kept-kept.result.now
    c.place-place.ensures.bank c.place-place.ensures.line c.kept-kept.ensures.kept c.slot_of.ensures.slot c.array_line.ensures.line in
    record {
      stands = stands;
      bank = subst (λ (k : ℕ). bank_of_line now.shape now.seed c.args.line * array_lines_of (module_of now.shape) ≤ k) (sym stands) (stands_from now s.feistel module_is lines c.args.line c.requires);
      exists = subst (λ (k : ℕ). k < bank_of_line now.shape now.seed c.args.line * array_lines_of (module_of now.shape) + array_lines_of (module_of now.shape)) (sym stands) (stands_to now s.feistel module_is lines c.args.line c.requires);
      apart = λ other below stands_there. stands_apart now s.feistel module_is lines c.args.line other c.requires below (stands_there ∙ stands);
    }

pub place-place-requires : goal.place-place-requires
place-place-requires g c = grind arith

pub kept-kept-requires : goal.kept-kept-requires
kept-kept-requires g c = grind arith

pub slot_of-requires : goal.slot_of-requires
slot_of-requires g c = grind arith

pub array_line-requires : goal.array_line-requires
array_line-requires g c = grind arith
