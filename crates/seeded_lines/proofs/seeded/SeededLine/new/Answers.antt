use Rattle.std.proofs.Common.{◌≡◌, ℕ, ◌+◌, ◌*◌, ◌≤◌, ◌/◌, ◌∙◌, false, length, refl, arith}
use Rattle.cell_rows.{specs.Rows.cell, specs.declared.row.Cells.Cells, proofs.RowLemmas.cell_past}
use Rattle.seeded_lines.proofs.{PlaneLemmas.digit-is, SeededLemmas.told_calm, SizeLemmas.{digits_fit, row_fits}, seeded.SeededLine.new.Given.Over}
use Rattle.seeded_lines.proofs.seeded.SeededLine.new.Goals.{Start}
use Rattle.seeded_lines.proofs.seeded.SeededLine.new.Goals as goal

-- a row of its sizes
abbrev IsSized : {B M : ℕ} → Cells B M → Type 0
IsSized {B} {M} row = (length row.bits ≡ B) × (length row.meta ≡ M)

-- the rows that are handed over have theirs
sized_ends : (g : Over) (c : Start g) → IsSized c.args.ends
sized_ends g c = (omega arith, omega arith)

sized_low : (g : Over) (c : Start g) → IsSized c.args.limits.low
sized_low g c = (omega arith, omega arith)

sized_middle : (g : Over) (c : Start g) → IsSized c.args.limits.middle
sized_middle g c = (omega arith, omega arith)

sized_high : (g : Over) (c : Start g) → IsSized c.args.limits.high
sized_high g c = (omega arith, omega arith)

past_row : {B M : ℕ} (row : Cells B M) (n : ℕ) → IsSized row → 8 * (B + M) ≤ n → cell row n ≡ false
past_row row n (bits, meta) past = cell_past row n bits meta past

pub invariant_of-result : goal.invariant_of-result
invariant_of-result g c = (c.requires.shape, λ n low is live. c.requires.many (told_calm g.row.B (n / 64) c.args.calm is) n low)

pub returns-clause-no_limits : goal.returns-clause-no_limits
returns-clause-no_limits g c n past =
    let was = (goal.at.returns-clause-no_limits g c).Start in
    let limits = c.args.limits in
    digit-is limits n
    ∙ rw (
      past_row limits.low n (sized_low g was) past,
      past_row limits.middle n (sized_middle g was) past,
      past_row limits.high n (sized_high g was) past,
    ) refl

pub returns-clause-no_ends : goal.returns-clause-no_ends
returns-clause-no_ends g c n past =
    past_row c.args.ends n (sized_ends g (goal.at.returns-clause-no_ends g c).Start) past

pub zero-requires : goal.zero-requires
zero-requires g c = row_fits c.requires.shape

pub zero-requires-2 : goal.zero-requires-2
zero-requires-2 g c = digits_fit c.requires.shape

pub zero-requires-3 : goal.zero-requires-3
zero-requires-3 g c = digits_fit c.requires.shape

pub zero-requires-4 : goal.zero-requires-4
zero-requires-4 g c = row_fits c.requires.shape

pub returns-clause-is : goal.returns-clause-is
returns-clause-is g c = grind arith
