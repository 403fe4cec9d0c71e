use Rattle.std.proofs.Common.{◌≡◌, ℕ, ◌+◌, ◌*◌, ◌%◌, ◌&&◌, slice_index, true, cond, eqb, refl, sym, ◌∙◌, ap, arith, bit_and}
use Rattle.cell_rows.{specs.Rows.cell, proofs.ByteLemmas.{digit_and, digit_or}}
use Rattle.seeded_lines.{specs.Planes.{bit_in, digit}, specs.Seeded.{LifeLine, left_of, seeded, seeded_cell}, proofs.CalmLemmas.calm_parts, proofs.FollowsLemmas.followed_block}
use Rattle.seeded_lines.proofs.{SeededLemmas.{worn_follows, worn_kept, missing_few, or_false, stuck_before}, SizeLemmas.{digits_fit, line_fits, row_fits}}
use Rattle.seeded_lines.proofs.seeded.SeededLine.wear_block.Goals as goal

pub advance-requires : goal.advance-requires
advance-requires g c =
    let misses : c.self-2.inside.moving.misses ≡ c.self.inside.moving.misses =
    ap (λ s. s.line.misses) c.self-2.view_is ∙ ap (λ l. l.misses) c.spend-last.ensures.line ∙ sym (ap (λ s. s.line.misses) c.self.view_is) in
    let live = bit_in c.without-live.result in (
      digits_fit c.requires.shape,
      (
        c.requires.whole,
        (
          c.requires.exists,
          λ i low h.
              rw misses (missing_few c.self.inside.moving.misses c.self.inside.settled.limits (64 * c.args.block + i) (live i) (bit_in (bit_and c.without-live.result c.below.result) i)
              (digit_and c.without-live.result c.below.result i ∙ ap (λ b. live i && b) (c.below.ensures i low)) h),
        ),
      ),
    )

pub returns-clause-cells : goal.returns-clause-cells
returns-clause-cells g c =
    let block = c.args.block in
    let now = c.spend-last.new.self in
    let new : LifeLine g.row.B g.row.M =
    record {
      line = record { held = c.set_block.new.self; stuck = c.set_block-2.new.self; misses = c.advance.new.self; pulses = c.self-2.inside.pulses };
      left = left_of c.self-2.inside.moving.spent c.self-2.inside.settled.left;
      limits = c.self-2.inside.settled.limits;
      ends = c.self-2.inside.settled.ends;
    } in
    let old : LifeLine g.row.B g.row.M = c.args.self.now in
    let held : c.self-2.inside.moving.held ≡ old.line.held = ap (λ s. s.line.held) c.self-2.view_is ∙ ap (λ l. l.held) c.spend-last.ensures.line in
    let stuck : c.self.inside.settled.stuck ≡ old.line.stuck = ap (λ s. s.line.stuck) c.self.view_is in
    let stuck_2 : c.self-2.inside.settled.stuck ≡ old.line.stuck = ap (λ s. s.line.stuck) c.self-2.view_is ∙ ap (λ l. l.stuck) c.spend-last.ensures.line in
    let misses : c.self.inside.moving.misses ≡ old.line.misses = ap (λ s. s.line.misses) c.self.view_is in
    let misses_2 : c.self-2.inside.moving.misses ≡ old.line.misses = ap (λ s. s.line.misses) c.self-2.view_is ∙ ap (λ l. l.misses) c.spend-last.ensures.line in
    let limits : c.self.inside.settled.limits ≡ old.limits = ap (λ s. s.limits) c.self.view_is in
    let limits_2 : c.self-2.inside.settled.limits ≡ old.limits = ap (λ s. s.limits) c.self-2.view_is ∙ c.spend-last.ensures.limits in
    let ends_2 : c.self-2.inside.settled.ends ≡ old.ends = ap (λ s. s.ends) c.self-2.view_is ∙ c.spend-last.ensures.ends in
    let left : left_of c.self-2.inside.moving.spent c.self-2.inside.settled.left ≡ now.left = ap (λ s. s.left) c.self-2.view_is in
    followed_block block (cell c.args.mask.now) (seeded c.args.tearing (cell c.args.want.now)) (seeded_cell old) (seeded_cell new)
    (λ i low.
    let n : ℕ = 64 * block + i in
    let parity : n % 2 ≡ i % 2 = omega arith in
    worn_follows c.args.mask.now c.args.want.now c.args.tearing old new n
    (bit_in c.without-live.result i) (bit_in (bit_and c.without-live.result c.below.result) i) (bit_in c.without-changing.result i) (bit_in c.spend-last.result i)
    (c.without-live.ensures i ∙ rw (c.block-stuck.ensures i low, c.reached.ensures i low, c.block.ensures i low, parity, stuck) refl)
    (digit_and c.without-live.result c.below.result i ∙ ap (λ b. bit_in c.without-live.result i && b) (c.below.ensures i low ∙ rw (misses, limits) refl))
    (c.without-changing.ensures i)
    (c.spend-last.ensures.last i low)
    (c.set_block.ensures.here i low ∙ c.chosen-held.ensures.bits i ∙ rw (c.chosen-value.ensures.bits i, c.block-2.ensures i low, c.block-3.ensures i low, c.block-4.ensures i low, held, ends_2) refl)
    (c.set_block-2.ensures.here i low ∙ digit_or c.spend-last.result c.block-stuck.result i ∙ ap (λ b. cond (bit_in c.spend-last.result i) true b) (c.block-stuck.ensures i low ∙ ap (λ s. cell s n) stuck))
    (c.advance.ensures.here i low ∙ rw misses_2 refl)
    (ap (λ xs. slice_index xs n) left ∙ c.spend-last.ensures.here i low)
    limits_2 ends_2)
    (λ n apart. worn_kept old new n (c.set_block.ensures.others n apart ∙ ap (λ s. cell s n) held) (c.set_block-2.ensures.others n apart ∙ ap (λ s. cell s n) stuck_2)
    (c.advance.ensures.others n apart ∙ ap (λ d. digit d n) misses_2) (ap (λ xs. slice_index xs n) left ∙ c.spend-last.ensures.others n apart) limits_2 ends_2)

pub invariant_of-self : goal.invariant_of-self
invariant_of-self g c =
    let block = c.args.block in
    let stuck : c.self-2.inside.settled.stuck ≡ c.self.inside.settled.stuck =
    ap (λ s. s.line.stuck) c.self-2.view_is ∙ ap (λ l. l.stuck) c.spend-last.ensures.line ∙ sym (ap (λ s. s.line.stuck) c.self.view_is) in (
      c.self-2.invariant.0,
      λ n low is live.
          c.self-2.invariant.1 n low is
          (stuck_before block (cell c.self-2.inside.settled.stuck) (cell c.set_block-2.new.self)
          (λ i low h. ap (λ s. cell s (64 * block + i)) stuck ∙ sym (c.block-stuck.ensures i low)
          ∙ or_false (bit_in c.spend-last.result i) (bit_in c.block-stuck.result i)
          (sym (c.set_block-2.ensures.here i low ∙ digit_or c.spend-last.result c.block-stuck.result i) ∙ h))
          c.set_block-2.ensures.others n live),
    )

pub block-stuck-requires : goal.block-stuck-requires
block-stuck-requires g c = (row_fits c.requires.shape, (c.requires.whole, c.requires.exists))

pub block-requires : goal.block-requires
block-requires g c = (row_fits c.requires.shape, (c.requires.whole, c.requires.exists))

pub reached-requires : goal.reached-requires
reached-requires g c = tt

pub without-live-requires : goal.without-live-requires
without-live-requires g c = tt

pub below-requires : goal.below-requires
below-requires g c = (digits_fit c.requires.shape, (c.requires.whole, c.requires.exists))

pub without-changing-requires : goal.without-changing-requires
without-changing-requires g c = tt

pub block-requires-2 : goal.block-requires-2
block-requires-2 g c = (row_fits c.requires.shape, (c.requires.whole, c.requires.exists))

pub block-requires-3 : goal.block-requires-3
block-requires-3 g c = (row_fits c.requires.shape, (c.requires.whole, c.requires.exists))

pub chosen-value-requires : goal.chosen-value-requires
chosen-value-requires g c = tt

pub block-requires-4 : goal.block-requires-4
block-requires-4 g c = (row_fits c.requires.shape, (c.requires.whole, c.requires.exists))

pub chosen-held-requires : goal.chosen-held-requires
chosen-held-requires g c = tt

pub set_block-requires : goal.set_block-requires
set_block-requires g c = (row_fits c.requires.shape, (c.requires.whole, c.requires.exists))

pub set_block-requires-2 : goal.set_block-requires-2
set_block-requires-2 g c = (row_fits c.requires.shape, (c.requires.whole, c.requires.exists))

pub returns-clause-pulses : goal.returns-clause-pulses
returns-clause-pulses g c = grind arith

pub spend-last-requires : goal.spend-last-requires
spend-last-requires g c =
    let stuck = c.self.inside.settled.stuck in (
      line_fits c.requires.shape,
      (
        c.requires.exists,
        (
          c.requires.shape,
          (
            c.requires.whole,
            λ i low more.
                rw (← c.self.view_is)
                ((calm_parts (cell stuck (64 * c.args.block + i)) (c.args.tearing && eqb (i % 2) 1) (bit_in c.block.result i)
                (bit_in (bit_and c.without-live.result c.below.result) i) (bit_in c.without-live.result i) (bit_in c.without-changing.result i)
                (c.without-live.ensures i ∙ rw (c.block-stuck.ensures i low, c.reached.ensures i low) refl) (c.without-changing.ensures i) more).0),
          ),
        ),
      ),
    )
