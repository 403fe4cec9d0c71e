use Rattle.std.proofs.Common.{◌≡◌, ◌<◌, ◌≤◌, ◌+◌, ◌*◌, ℕ, subst, arith}
use Rattle.std.proofs.lemmas.Nat.{mul-le}
use Rattle.module_shape.specs.Addresses.{array_lines_of, module_of}
use Rattle.right_runs.specs.Banks.{bank_of_line}
use Rattle.pcm_module.proofs.side_by_side.Module.newest.Goals as goal

-- a line of one of so many banks is one of all
in-all : (bank banks each at lines : ℕ) → bank < banks → at < bank * each + each → lines ≡ banks * each → at < lines
in-all bank banks each at lines exists within is =
    let all : (bank + 1) * each ≤ banks * each = mul-le (bank + 1) each banks each (omega (arith, exists)) (omega arith) in
    omega (arith, all, within, is)

pub held-cells-requires : goal.held-cells-requires
held-cells-requires g c =
    let module_ = c.args.self.now in
    let there : bank_of_line module_.shape module_.seed c.args.line < module_.shape.banks = subst (λ (b : ℕ). b < module_.shape.banks) c.place-place.ensures.bank c.place-place.ensures.bank_exists in (
      omega arith,
      (
        in-all (bank_of_line module_.shape module_.seed c.args.line) module_.shape.banks (array_lines_of (module_of module_.shape)) c.translate.result (g.A.CellArray.state c.args.array.now).lines there
            c.translate.ensures.exists c.requires.size,
        c.requires.layout.shape,
      ),
    )
