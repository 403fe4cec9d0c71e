use Rattle.std.proofs.Common.{◌≡◌, ℕ, ◌+◌, ◌-◌, ◌*◌, ap, subst, ◌∙◌, inl, inr, arith, [], get_or, set, slice_index}
use Rattle.std.proofs.{lemmas.Bool.cases_lt, lemmas.List.length-set}
use Rattle.seeded_lines.{specs.Counts.count_in, specs.Planes.{bit_in, number_of}, proofs.CountLemmas.{Lessens, lessens_none, lessens_row}, proofs.LevelLemmas.number_up}
use Rattle.seeded_lines.proofs.levels.level.Goals as goal

pub loop-pair-init : goal.loop-pair-init
loop-pair-init c =
    let block = c.args.block in
    let less : ℕ → ℕ = λ n. number_of (bit_in c.args.low (n - 64 * block)) (bit_in c.args.middle (n - 64 * block)) (bit_in c.args.high (n - 64 * block)) in
    subst (λ n. Lessens less (64 * block) n c.args.rows.now c.args.rows.now) (omega arith) (lessens_none less (64 * block) c.args.rows.now)

pub loop-pair-preserved : goal.loop-pair-preserved
loop-pair-preserved c =
    let block = c.args.block in
    let pair = c.loop-pair.pair in
    let row : ℕ = 8 * block + 2 * pair in
    let less : ℕ → ℕ = λ n. number_of (bit_in c.args.low (n - 64 * block)) (bit_in c.args.middle (n - 64 * block)) (bit_in c.args.high (n - 64 * block)) in
    let start : Lessens less (64 * block) (8 * row) c.args.rows.now c.loop-pair.rows =
    subst (λ n. Lessens less (64 * block) n c.args.rows.now c.loop-pair.rows) (omega arith) c.loop-pair.invariant in
    let first : Lessens less (64 * block) (8 * row + 8) c.args.rows.now (set c.loop-pair.rows row c.levelled.result) =
    lessens_row less (64 * block) row c.args.rows.now c.loop-pair.rows c.levelled.result (omega arith) (omega arith)
    (λ i low.
    c.levelled.ensures i low
    ∙ ap (λ k. slice_index (get_or c.loop-pair.rows row []) i - k)
    (c.numbers.ensures.first i low ∙ number_up c.args.low c.args.middle c.args.high (16 * pair) i (8 * row + i - 64 * block) (omega arith)))
    start in
    let next : Lessens less (64 * block) (8 * (row + 1)) c.args.rows.now (set c.loop-pair.rows row c.levelled.result) =
    subst (λ n. Lessens less (64 * block) n c.args.rows.now (set c.loop-pair.rows row c.levelled.result)) (omega arith) first in
    let second =
    lessens_row less (64 * block) (row + 1) c.args.rows.now (set c.loop-pair.rows row c.levelled.result) c.levelled-in-loop-pair.result (omega arith)
    (omega (arith, length-set c.loop-pair.rows row c.levelled.result))
    (λ i low.
    c.levelled-in-loop-pair.ensures i low
    ∙ ap (λ k. slice_index (get_or (set c.loop-pair.rows row c.levelled.result) (row + 1) []) i - k)
    (c.numbers.ensures.others i low ∙ number_up c.args.low c.args.middle c.args.high (16 * pair) (8 + i) (8 * (row + 1) + i - 64 * block) (omega arith)))
    next in
    subst (λ n. Lessens less (64 * block) n c.args.rows.now (set (set c.loop-pair.rows row c.levelled.result) (row + 1) c.levelled-in-loop-pair.result)) (omega arith) second

pub returns-clause-here : goal.returns-clause-here
returns-clause-here c i low =
    let n : ℕ = 64 * c.args.block + i in
    let number : n - 64 * c.args.block ≡ i = omega arith in
    c.loop-pair.invariant.done n (omega arith) (omega arith)
    ∙ ap (λ k. count_in c.args.rows.now n - number_of (bit_in c.args.low k) (bit_in c.args.middle k) (bit_in c.args.high k)) number

pub returns-clause-others : goal.returns-clause-others
returns-clause-others c n apart =
    elim (cases_lt n (64 * c.args.block)) [
      | inl before ↦ c.loop-pair.invariant.below n before
      | inr from ↦ c.loop-pair.invariant.above n (omega arith)
    ]
