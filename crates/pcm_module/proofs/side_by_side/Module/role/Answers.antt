use Rattle.std.proofs.Common.{arith, ◌≡◌, ℕ, ◌/◌, ◌<◌, ap, subst}
use Rattle.bank_shape.specs.{declared.BankShape.BankShape, declared.Role.TheVariants.Line}
use Rattle.module_shape.specs.{Addresses.{module_of, array_lines_of, bank_shape}, declared.raw.RawShape.RawShape}
use Rattle.right_runs.specs.{Banks.line_named, Roles.IsRole}
use Rattle.pcm_module.{specs.State.ModuleState, proofs.EndRoles.{end_at, same_role, line_role, held_within}, proofs.Sizes.module_fits}
use Rattle.pcm_module.proofs.side_by_side.Module.role.Goals as goal

pub line_of-requires : goal.line_of-requires
line_of-requires g c =
    let same : c.self.inside.shape ≡ c.args.self.now.shape = ap (λ (o : ModuleState g.row.B g.row.M g.row.E). o.shape) c.self.view_is in
    let exists : c.bank_of-bank.result < c.args.self.now.shape.banks = subst (λ (raw : RawShape). c.bank_of-bank.result < raw.banks) same c.bank_of-bank.ensures.exists in
    let kept = c.kept.result.now in
    let raw = c.args.self.now.shape in
    (module_fits, (exists, held_within kept (bank_shape (module_of raw) c.bank_of-bank.result) c.in-Line.own c.args.array_line c.kept.ensures.in_range c.kept.ensures.shaped c.in-Line.ensures))

pub returns-in-Line : goal.returns-in-Line
returns-in-Line g c ends own =
    let same : c.self.inside.shape ≡ c.args.self.now.shape = ap (λ (o : ModuleState g.row.B g.row.M g.row.E). o.shape) c.self.view_is in
    let exists : c.bank_of-bank.result < c.args.self.now.shape.banks = subst (λ (raw : RawShape). c.bank_of-bank.result < raw.banks) same c.bank_of-bank.ensures.exists in
    let number : c.bank_of-bank.result ≡ c.args.array_line / array_lines_of (module_of c.args.self.now.shape)
    = subst (λ (raw : RawShape). c.bank_of-bank.result ≡ c.args.array_line / array_lines_of (module_of raw)) same c.bank_of-bank.ensures.number in
    let now = c.args.self.now in
    let bank = c.bank_of-bank.result in
    let kept = c.kept.result.now in
    let held : IsRole kept.shape (λ own. own) (ends bank) c.args.array_line (Line c.in-Line.own)
    = c.in-Line.ensures (ends bank) (end_at now ends own bank exists kept c.kept.ensures.kept) in
    let placed : IsRole (bank_shape (module_of now.shape) bank) (λ own. own) (ends bank) c.args.array_line (Line c.in-Line.own)
    = subst (λ (s : BankShape). IsRole s (λ own. own) (ends bank) c.args.array_line (Line c.in-Line.own)) c.kept.ensures.shaped held in
    subst (λ (b : ℕ). IsRole (bank_shape (module_of now.shape) b) (line_named now.shape now.seed b) (ends b) c.args.array_line (Line c.line_of.result)) number
    (line_role now.shape now.seed bank c.in-Line.own c.args.array_line c.line_of.result (ends bank) placed c.line_of.ensures)

pub returns-in_default : goal.returns-in_default
returns-in_default g c ends own =
    let same : c.self.inside.shape ≡ c.args.self.now.shape = ap (λ (o : ModuleState g.row.B g.row.M g.row.E). o.shape) c.self.view_is in
    let exists : c.bank_of-bank.result < c.args.self.now.shape.banks = subst (λ (raw : RawShape). c.bank_of-bank.result < raw.banks) same c.bank_of-bank.ensures.exists in
    let number : c.bank_of-bank.result ≡ c.args.array_line / array_lines_of (module_of c.args.self.now.shape)
    = subst (λ (raw : RawShape). c.bank_of-bank.result ≡ c.args.array_line / array_lines_of (module_of raw)) same c.bank_of-bank.ensures.number in
    let now = c.args.self.now in
    let bank = c.bank_of-bank.result in
    let kept = c.kept.result.now in
    let held : IsRole kept.shape (λ own. own) (ends bank) c.args.array_line c.role_in.result
    = c.role_in.ensures (ends bank) (end_at now ends own bank exists kept c.kept.ensures.kept) in
    let placed : IsRole (bank_shape (module_of now.shape) bank) (λ own. own) (ends bank) c.args.array_line c.role_in.result
    = subst (λ (s : BankShape). IsRole s (λ own. own) (ends bank) c.args.array_line c.role_in.result) c.kept.ensures.shaped held in
    subst (λ (b : ℕ). IsRole (bank_shape (module_of now.shape) b) (line_named now.shape now.seed b) (ends b) c.args.array_line c.role_in.result) number
    (same_role (bank_shape (module_of now.shape) bank) (line_named now.shape now.seed bank) (ends bank) c.args.array_line c.role_in.result c.in_default.not-Line placed)

pub bank_of-bank-requires : goal.bank_of-bank-requires
bank_of-bank-requires g c = grind arith

pub kept-requires : goal.kept-requires
kept-requires g c = grind arith

pub role_in-requires : goal.role_in-requires
role_in-requires g c = grind arith
