use Rattle.std.proofs.Common.{◌≡◌, ℕ, ◌+◌, ◌*◌, ◌<◌, ◌≤◌, ◌∙◌, ap, sym, subst, arith, bit_xor, eqb, refl, Fits, w64}
use Rattle.std.proofs.{lemmas.Bool.leb-true, lemmas.List.length-set, lemmas.Nat.Bits.bit_at-zero}
use Rattle.rand_core.specs.{Steps.{stream_of, steps_u64_high}, Stream.next_u64}
use Rattle.rand_xoshiro.specs.Xoshiro256.{plus_plus}
use Rattle.cell_rows.specs.Rows.{cell}
use Rattle.seeded_lines.specs.{Counts.count, Drawn.{drawn_line, HaveSameLife}, Planes.digit, Seeded.{endurance, miss_limit, stuck_value}}
use Rattle.seeded_lines.proofs.{DrawnLemmas.drawn_alike, LifeLemmas.{limits_more, ends_more, counts_more, group_more}}
use Rattle.seeded_lines.proofs.SizeLemmas.{counts_fit, digits_fit, groups_fit, line_fits, row_fits}
use Rattle.seeded_lines.proofs.seeded.SeededLine.drawn.Goals as goal
use borrow.Author.Count.{falls}
use Rattle.seeded_words.{specs.Words.{xoshiro_of, stream_after, word_at}, proofs.Drawn.{stream_after-zero, stream_after-more, word_at-is}}

none_below : (n : ℕ) {X : Type 0} → n < 0 → X
none_below n h = absurd (omega (arith, h))

offset_few : (n : ℕ) → n < 8 → Fits w64 (n * 4)
offset_few n low = omega (arith, low)

none_more : (n : ℕ) → n + 0 ≡ n
none_more n = omega arith

three_few : 3 < 4
three_few = omega arith

so_far : (n all done : ℕ) → n < all → all ≤ done → n < done
so_far n all done low end = omega (arith, low, end)

pub loop-group-init : goal.loop-group-init
loop-group-init g c = record {
  words = ap (stream_of (steps_u64_high plus_plus)) c.seed_from_u64-words.ensures ∙ sym (stream_after-zero _);
  left = λ n h. none_below n h;
  limits = λ n h. none_below n h;
  ends = λ n h. none_below n h;
}

pub loop-index-preserved : goal.loop-index-preserved
loop-index-preserved g c =
    let i = c.loop-index.invariant in
    let stream = xoshiro_of (bit_xor c.args.wear.seed c.args.number) in
    let first = 8 * c.loop-group.group in
    let index = c.loop-index.index in
    let fits : index < 8 = omega arith in
    let next : first + index + 1 ≡ first + (index + 1) = omega arith in
    let drawn = c.next_u64-word.ensures in
    let word : c.next_u64-word.result ≡ word_at (first + index) stream =
    ap (λ p. p.0) drawn ∙ ap (λ s. (next_u64 s).0) i.words ∙ sym (word_at-is (first + index) stream) in
    record {
      words = ap (λ p. p.1) drawn ∙ ap (λ s. (next_u64 s).1) i.words ∙ sym (stream_after-more (first + index) stream) ∙ ap (λ n. stream_after n stream) next;
      size = length-set c.loop-index.counts index c.endurance.result ∙ i.size;
      left = counts_more c.loop-index.counts (λ j. endurance c.args.wear (word_at (first + j) stream)) index _ (omega (arith, i.size, fits))
          (c.endurance.ensures ∙ ap (endurance c.args.wear) word) i.left;
      limits = limits_more c.loop-index.planes _ c.life.result index (λ j. miss_limit c.args.wear (word_at (first + j) stream)) fits
          c.with_life-planes.ensures.here c.with_life-planes.ensures.kept i.none
          (c.life.ensures.limit ∙ c.miss_limit.ensures.is ∙ ap (miss_limit c.args.wear) word) i.limits;
      ends = ends_more c.loop-index.planes _ c.life.result index (λ j. stuck_value (word_at (first + j) stream)) fits
          c.with_life-planes.ensures.here c.with_life-planes.ensures.kept i.none
          (c.life.ensures.end ∙ ap stuck_value word) i.ends;
      none = λ k h. c.with_life-planes.ensures.kept k (omega arith) ∙ i.none k (omega arith);
    }

pub loop-group-preserved : goal.loop-group-preserved
loop-group-preserved g c =
    let before = c.loop-group.invariant in
    let i = c.loop-index.invariant in
    let stream = xoshiro_of (bit_xor c.args.wear.seed c.args.number) in
    let group = c.loop-group.group in
    let all : 8 * group + c.loop-index.index ≡ 8 * (group + 1) = omega arith in
    record {
      words = i.words ∙ ap (λ n. stream_after n stream) all;
      left = group_more (count c.loop-group.left) _ (λ n. endurance c.args.wear (word_at n stream)) group
          (λ k low. c.set_group.ensures.here k low ∙ i.left k (omega arith)) c.set_group.ensures.others before.left;
      limits = group_more (digit c.loop-group.limits) _ (λ n. miss_limit c.args.wear (word_at n stream)) group
          (λ k low. c.set_group-in-loop-group.ensures.here k low ∙ i.limits k (omega arith)) c.set_group-in-loop-group.ensures.others before.limits;
      ends = group_more (cell c.loop-group.ends) _ (λ n. stuck_value (word_at n stream)) group
          (λ k low. c.set_group-in-loop-group-2.ensures.here k low ∙ c.byte_at.ensures k low ∙ i.ends k (omega arith))
          c.set_group-in-loop-group-2.ensures.others before.ends;
    }

pub new-requires : goal.new-requires
new-requires g c =
    let many : (n : ℕ) → n < 8 * (g.row.B + g.row.M) → 8 ≤ c.args.wear.lo → 8 ≤ count c.loop-group.left n =
    λ n low lo.
    let all = 8 * (g.row.B + g.row.M) in
    omega (arith, c.loop-group.invariant.left n (so_far n all (8 * c.loop-group.group) low (omega arith)), lo) in
    let shape = c.requires.shape in
    (counts_fit shape, (digits_fit shape, (row_fits shape, (line_fits shape, (shape, λ told n low. many n low (leb-true 8 c.args.wear.lo told))))))

pub returns : goal.returns
returns g c =
    let i = c.loop-group.invariant in
    let all = 8 * (g.row.B + g.row.M) in
    let end : all ≤ 8 * c.loop-group.group = omega arith in
    let drawn : (n : ℕ) → n < all → n < 8 * c.loop-group.group = λ n low. so_far n all (8 * c.loop-group.group) low end in
    subst (HaveSameLife (drawn_line g.row.B g.row.M c.args.wear c.args.number)) (sym c.new.ensures.is)
    (drawn_alike c.args.wear c.args.number c.loop-group.left c.loop-group.limits c.loop-group.ends
    (λ n h. i.left n (drawn n h)) (λ n h. i.limits n (drawn n h)) c.new.ensures.no_limits (λ n h. i.ends n (drawn n h)) c.new.ensures.no_ends)

pub seed_from_u64-words-requires : goal.seed_from_u64-words-requires
seed_from_u64-words-requires g c = tt

pub zero-left-requires : goal.zero-left-requires
zero-left-requires g c = counts_fit c.requires.shape

pub zero-limits-requires : goal.zero-limits-requires
zero-limits-requires g c = digits_fit c.requires.shape

pub zero-ends-requires : goal.zero-ends-requires
zero-ends-requires g c = row_fits c.requires.shape

pub overflow_add-group-end : goal.overflow_add-group-end
overflow_add-group-end g c = groups_fit c.requires.shape

pub loop-index-init : goal.loop-index-init
loop-index-init g c = record {
  words = rw none_more c.loop-group.invariant.words;
  size = refl;
  left = λ j h. none_below j h;
  limits = λ j h. none_below j h;
  ends = λ j h. none_below j h;
  none = λ i h. ap (λ x. eqb x 1) (bit_at-zero i);
}

pub next_u64-word-requires : goal.next_u64-word-requires
next_u64-word-requires g c = tt

pub endurance-requires : goal.endurance-requires
endurance-requires g c = c.requires.wear

pub offset_bounds-counts-index : goal.offset_bounds-counts-index
offset_bounds-counts-index g c = offset_few _ c.loop-index-test.true

pub bounds-counts-index : goal.bounds-counts-index
bounds-counts-index g c = c.loop-index-test.true

pub miss_limit-requires : goal.miss_limit-requires
miss_limit-requires g c = tt

pub life-requires : goal.life-requires
life-requires g c = c.miss_limit.ensures.few

pub with_life-planes-requires-clause-fits : goal.with_life-planes-requires-clause-fits
with_life-planes-requires-clause-fits g c = c.loop-index-test.true

pub with_life-planes-requires-clause-small : goal.with_life-planes-requires-clause-small
with_life-planes-requires-clause-small g c = c.life.ensures.small

pub with_life-planes-requires-clause-apart : goal.with_life-planes-requires-clause-apart
with_life-planes-requires-clause-apart g c = c.life.ensures.apart

pub set_group-requires : goal.set_group-requires
set_group-requires g c = (counts_fit c.requires.shape, c.loop-group-test.true)

pub set_group-requires-in-loop-group : goal.set_group-requires-in-loop-group
set_group-requires-in-loop-group g c = (digits_fit c.requires.shape, c.loop-group-test.true)

pub byte_at-requires : goal.byte_at-requires
byte_at-requires g c = three_few

pub set_group-requires-in-loop-group-2 : goal.set_group-requires-in-loop-group-2
set_group-requires-in-loop-group-2 g c = (row_fits c.requires.shape, c.loop-group-test.true)

pub loop-index-smaller : goal.loop-index-smaller
loop-index-smaller g c = falls 8 c.loop-index.index c.loop-index-test.true

pub loop-group-smaller : goal.loop-group-smaller
loop-group-smaller g c = falls _ c.loop-group.group c.loop-group-test.true
