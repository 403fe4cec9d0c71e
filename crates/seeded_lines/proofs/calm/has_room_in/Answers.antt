use Rattle.std.proofs.Common.{◌≡◌, ℕ, ◌+◌, ◌-◌, ◌*◌, ◌<◌, ◌&&◌, false, subst, sym, ◌∙◌, ap, eqb, inl, inr, arith}
use Rattle.std.proofs.{lemmas.Bool.cases_lt, lemmas.Nat.Bits.bit_at-zero}
use Rattle.cell_rows.{specs.Rows.cell, proofs.ByteLemmas.digit_and}
use Rattle.seeded_lines.{specs.Planes.{bit_in, digit}, proofs.CalmLemmas.{or_none_l, or_none_r}, proofs.SeededLemmas.both_false}
use Rattle.seeded_lines.proofs.calm.has_room_in.Goals as goal

pub loop-block-preserved : goal.loop-block-preserved
loop-block-preserved g c none n from to masked =
    let block = c.loop-block.block in
    elim (cases_lt n (64 * block)) as (λ _. digit c.args.spent.now n < 7) [
      | inl before ↦ c.loop-block.invariant (or_none_l _ _ none) n from before masked
      | inr here ↦
          let i : ℕ = n - 64 * block in
          let low : i < 64 = omega arith in
          let number : 64 * block + i ≡ n = omega arith in
          let clear : (bit_in c.full.result i && bit_in c.block.result i) ≡ false =
          sym (digit_and c.full.result c.block.result i) ∙ ap (λ x. bit_in x i) (or_none_r c.loop-block.full _ none) ∙ ap (λ x. eqb x 1) (bit_at-zero i) in
          subst (λ k. digit c.args.spent.now k < 7) number
          (c.full.ensures i low (both_false _ _ clear (c.block.ensures i low ∙ ap (cell c.args.mask.now) number ∙ masked)))
    ]
