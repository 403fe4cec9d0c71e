-- Lines of which no cell can be near its end.
use Rattle.std.proofs.Common.{◌≡◌, ℕ, ◌+◌, ◌-◌, ◌*◌, ◌%◌, ◌<◌, ◌≤◌, ◌&&◌, Bool, true, false, not, cond, eqb, length, get_or, refl, sym, ◌∙◌, ap, inl, inr, arith, slice_index}
use Rattle.std.{specs.Prelude.{nat_le, nat_lt}, proofs.lemmas.Bool.{cases_lt, lt-leb, ltb-true}, proofs.lemmas.List.get_or_past}
use Rattle.std.proofs.lemmas.List.FromFn.{get_or-map-range_with_len, length-map-range_with_len}
use Rattle.cell_rows.{specs.Rows.{cell, members, zero_row}, specs.Told.most, specs.declared.array.Wear.Wear, specs.declared.row.Cells.Cells, proofs.Most.most-same}
use Rattle.cell_rows.proofs.RowLemmas.{cell-zeros}
use Rattle.seeded_lines.specs.{Counts.count, Drawn.{word_of, drawn_line, HaveSameLife, changes_of}, Follows.Follows, Planes.{PlaneLine, digit, zero_digits}}
use Rattle.seeded_lines.specs.Seeded.{LifeLine, changed, left_of, endurance, miss_limit, stuck_value, pulsed, seeded, seeded_cell}
use Rattle.seeded_lines.specs.{Young.{IsBegun, YoungCell, IsYouth, IsYoung, MayAge, aging, blank_young, changes_in, grown_line, tried, young_cell}, declared.counts.Counts.Counts}
use Rattle.seeded_lines.specs.{declared.digits.Digits.Digits, declared.seeded.SeededCell.SeededCell, declared.young.Young.Young}
use Rattle.seeded_lines.proofs.{DrawnLemmas.{digits_of-digit, row_of-cell}, PlaneLemmas.digit-zeros, SeededLemmas.{left_is, left_size}, WearLemmas.members-none}

pub changes-is : {B M : ℕ} (young : Young B M) (n : ℕ) → changes_in young n ≡ digit young.low n + 8 * digit young.middle n + 64 * digit young.high n
unfolding changes_in
changes-is young n = refl

-- no cell of a new line has changed
pub changes-none : (B M n : ℕ) → changes_in (blank_young B M) n ≡ 0
unfolding changes_in
changes-none B M n = rw (digit-zeros B M n) refl

-- one change more, by the three digits
pub changes_more : (l m h l2 m2 h2 old new : ℕ) (changing carry over none : Bool) → old ≡ l + 8 * m + 64 * h → new ≡ l2 + 8 * m2 + 64 * h2 → old < 511
    → l2 + cond carry 8 0 ≡ l + cond changing 1 0 → m2 + cond over 8 0 ≡ m + cond carry 1 0 → h2 + cond none 8 0 ≡ h + cond over 1 0
    → new ≡ cond changing (old + 1) old
changes_more l m h l2 m2 h2 old new changing carry over true before after few low middle high = absurd (past changing carry over low middle high)
  where
    past : (changing carry over : Bool) → l2 + cond carry 8 0 ≡ l + cond changing 1 0 → m2 + cond over 8 0 ≡ m + cond carry 1 0 → h2 + 8 ≡ h + cond over 1 0 → ⊥
    past true true true a b c = omega arith
    past true true false a b c = omega arith
    past true false true a b c = omega arith
    past true false false a b c = omega arith
    past false true true a b c = omega arith
    past false true false a b c = omega arith
    past false false true a b c = omega arith
    past false false false a b c = omega arith
changes_more l m h l2 m2 h2 old new true true true false before after few low middle high = omega arith
changes_more l m h l2 m2 h2 old new true true false false before after few low middle high = omega arith
changes_more l m h l2 m2 h2 old new true false true false before after few low middle high = omega arith
changes_more l m h l2 m2 h2 old new true false false false before after few low middle high = omega arith
changes_more l m h l2 m2 h2 old new false true true false before after few low middle high = omega arith
changes_more l m h l2 m2 h2 old new false true false false before after few low middle high = omega arith
changes_more l m h l2 m2 h2 old new false false true false before after few low middle high = omega arith
changes_more l m h l2 m2 h2 old new false false false false before after few low middle high = omega arith

-- fewer changes than fill two digits carry nothing into the third
pub no_over : (l m h l2 m2 old : ℕ) (changing carry over : Bool) → old ≡ l + 8 * m + 64 * h → old < 63
    → l2 + cond carry 8 0 ≡ l + cond changing 1 0 → m2 + cond over 8 0 ≡ m + cond carry 1 0 → over ≡ false
no_over l m h l2 m2 old changing carry false before few low middle = refl
no_over l m h l2 m2 old true true true before few low middle = absurd (omega (arith, before, few, low, middle))
no_over l m h l2 m2 old true false true before few low middle = absurd (omega (arith, before, few, low, middle))
no_over l m h l2 m2 old false true true before few low middle = absurd (omega (arith, before, few, low, middle))
no_over l m h l2 m2 old false false true before few low middle = absurd (omega (arith, before, few, low, middle))

-- and by one digit alone, the others being 0
pub changes_first : (l m h l2 old new : ℕ) (changing carry : Bool) → m ≡ 0 → h ≡ 0 → old ≡ l + 8 * m + 64 * h → new ≡ l2 + 8 * m + 64 * h → old < 7
    → l2 + cond carry 8 0 ≡ l + cond changing 1 0 → new ≡ cond changing (old + 1) old
changes_first l m h l2 old new true true no_m no_h before after few low = omega arith
changes_first l m h l2 old new true false no_m no_h before after few low = omega arith
changes_first l m h l2 old new false true no_m no_h before after few low = omega arith
changes_first l m h l2 old new false false no_m no_h before after few low = omega arith

-- one cell of a block is pulsed, from what becomes of its digits and of its value
pub tries_here : {B M : ℕ} (tearing masked missing changing : Bool) (want : ℕ → Bool) (old new : Young B M) (n : ℕ)
    → missing ≡ ((masked && not (tearing && eqb (n % 2) 1)) && nat_lt (digit old.misses n) (digit old.limits n))
    → changing ≡ (not missing && (masked && not (tearing && eqb (n % 2) 1)))
    → cell new.held n ≡ cond changing (want n) (cell old.held n)
    → digit new.misses n ≡ cond changing 0 (cond missing (digit old.misses n + 1) (digit old.misses n))
    → digit new.limits n ≡ digit old.limits n
    → changes_in new n ≡ cond changing (changes_in old n + 1) (changes_in old n)
    → young_cell new n ≡ cond masked (aging tearing want n (young_cell old n)) (young_cell old n)
tries_here {B} {M} tearing masked missing changing want old new n missing_is changing_is value misses limits changes =
    rw (value, misses, limits, changes, changing_is, missing_is) (by masked (tearing && eqb (n % 2) 1) (nat_lt (digit old.misses n) (digit old.limits n)))
  where
    by : (masked torn less : Bool)
        → record {
          value = cond (not ((masked && not torn) && less) && (masked && not torn)) (want n) (cell old.held n);
          misses = cond (not ((masked && not torn) && less) && (masked && not torn)) 0 (cond ((masked && not torn) && less) (digit old.misses n + 1) (digit old.misses n));
          limit = digit old.limits n;
          changes = cond (not ((masked && not torn) && less) && (masked && not torn)) (changes_in old n + 1) (changes_in old n);
        }
        ≡ cond masked (cond torn (young_cell old n) (cond less (record (young_cell old n) { misses = digit old.misses n + 1 }) (record (young_cell old n) { value = want n; misses = 0; changes = changes_in old n + 1 }))) (young_cell old n)
    by true true true = refl
    by true true false = refl
    by true false true = refl
    by true false false = refl
    by false true true = refl
    by false true false = refl
    by false false true = refl
    by false false false = refl

-- a cell that misses has missed less than its limit, which is at most seven
pub missing_few : (reached : Bool) (misses limit : ℕ) → (reached && nat_lt misses limit) ≡ true → limit ≤ 7 → misses < 7
missing_few true misses limit less few = omega (arith, ltb-true misses limit less, few)
missing_few false misses limit less few = absurd (cc less)

-- the same of cells that don't miss
pub ages_here : {B M : ℕ} (tearing masked : Bool) (want : ℕ → Bool) (old new : Young B M) (n : ℕ) (changing : Bool)
    → changing ≡ (masked && not (tearing && eqb (n % 2) 1))
    → digit old.misses n ≡ 0 → digit old.limits n ≡ 0 → digit new.misses n ≡ 0 → digit new.limits n ≡ 0
    → cell new.held n ≡ cond changing (want n) (cell old.held n)
    → changes_in new n ≡ cond changing (changes_in old n + 1) (changes_in old n)
    → young_cell new n ≡ cond masked (aging tearing want n (young_cell old n)) (young_cell old n)
ages_here {B} {M} tearing masked want old new n changing is old_misses old_limits new_misses new_limits value changes =
    let reached : Bool = masked && not (tearing && eqb (n % 2) 1) in
    let sure : (reached && nat_lt (digit old.misses n) (digit old.limits n)) ≡ false = rw (old_misses, old_limits) (none reached) in
    tries_here tearing masked false changing want old new n (sym sure) is value (new_misses ∙ still changing (digit old.misses n) old_misses) (new_limits ∙ sym old_limits) changes
  where
    none : (b : Bool) → (b && nat_lt 0 0) ≡ false
    none true = refl
    none false = refl

    still : (b : Bool) (x : ℕ) → x ≡ 0 → 0 ≡ cond b 0 x
    still true x is = refl
    still false x is = sym is

-- and one that isn't in the block stays
pub stays_here : {B M : ℕ} (old new : Young B M) (n : ℕ) → cell new.held n ≡ cell old.held n → digit new.misses n ≡ digit old.misses n
    → digit new.limits n ≡ digit old.limits n → digit new.low n ≡ digit old.low n → digit new.middle n ≡ digit old.middle n
    → digit new.high n ≡ digit old.high n → young_cell new n ≡ young_cell old n
unfolding changes_in
stays_here old new n value misses limits low middle high = rw (value, misses, limits, low, middle, high) refl

-- a pulse leaves how often a cell misses
keeps_limit : (masked torn want : Bool) (c : YoungCell) → (cond masked (cond torn c (tried want c)) c).limit ≡ c.limit
keeps_limit true true want c = refl
keeps_limit true false want c = by (nat_lt c.misses c.limit)
  where
    by : (less : Bool) → (cond less (record c { misses = c.misses + 1 }) (record c { value = want; misses = 0; changes = c.changes + 1 })).limit ≡ c.limit
    by true = refl
    by false = refl
keeps_limit false true want c = refl
keeps_limit false false want c = refl

-- a cell of a line that stands for a young one
abbrev life_cell : ℕ → Bool → YoungCell → SeededCell
life_cell endures end c = record {
  state = record { value = c.value; stuck = false; misses = c.misses };
  left = endures - c.changes;
  limit = c.limit;
  end = end;
}

grown_cell : {B M : ℕ} (wear : Wear) (line : ℕ) (young : Young B M) (n : ℕ) → n < 8 * (B + M) → digit young.limits n ≡ miss_limit wear (word_of wear line n)
    → seeded_cell (grown_line wear line young) n ≡ life_cell (endurance wear (word_of wear line n)) (stuck_value (word_of wear line n)) (young_cell young n)
unfolding grown_line
grown_cell {B} {M} wear line young n h limit =
    rw (
      cell-zeros B M n,
      get_or-map-range_with_len (λ k. endurance wear (word_of wear line k) - changes_in young k) 0 (8 * (B + M)) n n 0 h (omega arith),
      digits_of-digit B M (λ k. miss_limit wear (word_of wear line k)) n h (omega arith),
      row_of-cell B M (λ k. stuck_value (word_of wear line k)) n h,
      limit,
    )
    refl

grown_past : {B M : ℕ} (wear : Wear) (line : ℕ) (old new : Young B M) (n : ℕ) → 8 * (B + M) ≤ n → young_cell new n ≡ young_cell old n
    → seeded_cell (grown_line wear line new) n ≡ seeded_cell (grown_line wear line old) n
unfolding grown_line
grown_past {B} {M} wear line old new n h same =
    let size_new : length (grown_line wear line new).left ≡ 8 * (B + M) = length-map-range_with_len (λ k. endurance wear (word_of wear line k) - changes_in new k) 0 (8 * (B + M)) in
    let size_old : length (grown_line wear line old).left ≡ 8 * (B + M) = length-map-range_with_len (λ k. endurance wear (word_of wear line k) - changes_in old k) 0 (8 * (B + M)) in
    let value : cell new.held n ≡ cell old.held n = ap (λ (c : YoungCell). c.value) same in
    let misses : digit new.misses n ≡ digit old.misses n = ap (λ (c : YoungCell). c.misses) same in
    rw (
      value,
      misses,
      get_or_past (grown_line wear line new).left n 0 (omega (arith, h, size_new)),
      get_or_past (grown_line wear line old).left n 0 (omega (arith, h, size_old)),
    )
    refl

many_left : (x : ℕ) → 2 ≤ x → nat_le x 1 ≡ false
many_left x h = lt-leb x 1 (omega (arith, h))

life_tried : (less want end : Bool) (endures : ℕ) (old : YoungCell) → 2 ≤ endures - old.changes
    → life_cell endures end (cond less (record old { misses = old.misses + 1 }) (record old { value = want; misses = 0; changes = old.changes + 1 }))
    ≡ cond less (life_cell endures end (record old { misses = old.misses + 1 })) (changed want (life_cell endures end old))
life_tried true want end endures old many = refl
life_tried false want end endures old many =
    let one : endures - (old.changes + 1) ≡ endures - old.changes - 1 = omega arith in
    rw (many_left (endures - old.changes) many, one) refl

life_ages : (masked torn want end : Bool) (endures : ℕ) (old : YoungCell) → 2 ≤ endures - old.changes
    → life_cell endures end (cond masked (cond torn old (tried want old)) old)
    ≡ cond masked (cond torn (life_cell endures end old) (pulsed want (life_cell endures end old))) (life_cell endures end old)
life_ages false torn want end endures old many = refl
life_ages true true want end endures old many = refl
life_ages true false want end endures old many = life_tried (nat_lt old.misses old.limit) want end endures old many

-- a pulse leaves how often the cells of a line miss
same_limit : {B M : ℕ} (wear : Wear) (limit line : ℕ) (tearing : Bool) (mask want : Cells B M) (old new : Young B M) → IsYoung wear limit line old
    → Follows (cell mask) (aging tearing (cell want)) (young_cell old) (young_cell new) → (n : ℕ) → n < 8 * (B + M) → digit new.limits n ≡ miss_limit wear (word_of wear line n)
same_limit wear limit line tearing mask want old new young ages n low =
    ap (λ (c : YoungCell). c.limit) (ages n) ∙ keeps_limit (cell mask n) (tearing && eqb (n % 2) 1) (cell want n) (young_cell old n) ∙ young.limits n low

-- a young line's cells follow the rule of all
pub young_follows : {B M : ℕ} (wear : Wear) (limit line : ℕ) (tearing : Bool) (mask want : Cells B M) (old new : Young B M)
    → IsYouth wear limit → IsYoung wear limit line old → old.pulses < limit → ((n : ℕ) → 8 * (B + M) ≤ n → cell mask n ≡ false)
    → Follows (cell mask) (aging tearing (cell want)) (young_cell old) (young_cell new)
    → Follows (cell mask) (seeded tearing (cell want)) (seeded_cell (grown_line wear line old)) (seeded_cell (grown_line wear line new))
young_follows {B} {M} wear limit line tearing mask want old new youth young few past ages n =
    elim (cases_lt n (8 * (B + M))) as (λ _. seeded_cell (grown_line wear line new) n
    ≡ cond (cell mask n) (seeded tearing (cell want) n (seeded_cell (grown_line wear line old) n)) (seeded_cell (grown_line wear line old) n)) [
      | inl low ↦
          let word : ℕ = word_of wear line n in
          let many : 2 ≤ endurance wear word - changes_in old n = omega (arith, young.changes n, few, youth.early) in
          let was : seeded_cell (grown_line wear line old) n ≡ life_cell (endurance wear word) (stuck_value word) (young_cell old n) =
          grown_cell wear line old n low (young.limits n low) in
          grown_cell wear line new n low (same_limit wear limit line tearing mask want old new young ages n low)
          ∙ ap (life_cell (endurance wear word) (stuck_value word)) (ages n)
          ∙ life_ages (cell mask n) (tearing && eqb (n % 2) 1) (cell want n) (stuck_value word) (endurance wear word) (young_cell old n) many
          ∙ sym (ap (λ (c : SeededCell). cond (cell mask n) (seeded tearing (cell want) n c) c) was)
      | inr high ↦
          rw (past n high)
          (grown_past wear line old new n high (ages n ∙ ap (λ b. cond b (aging tearing (cell want) n (young_cell old n)) (young_cell old n)) (past n high)))
    ]

-- and it stays young
pub young_ages : {B M : ℕ} (wear : Wear) (limit line : ℕ) (tearing : Bool) (mask want : Cells B M) (old new : Young B M) → IsYoung wear limit line old
    → old.pulses < limit → Follows (cell mask) (aging tearing (cell want)) (young_cell old) (young_cell new) → new.pulses ≡ old.pulses + 1 → IsYoung wear limit line new
young_ages {B} {M} wear limit line tearing mask want old new young few ages pulses = record {
  pulses = omega (arith, pulses, few);
  changes = λ n. omega (arith, young.changes n, pulses, grows n);
  limits = same_limit wear limit line tearing mask want old new young ages;
}
  where
    once : (less want : Bool) (c : YoungCell) → (cond less (record c { misses = c.misses + 1 }) (record c { value = want; misses = 0; changes = c.changes + 1 })).changes ≤ c.changes + 1
    once true want c = omega arith
    once false want c = omega arith

    more : (masked torn : Bool) (want : Bool) (c : YoungCell) → (cond masked (cond torn c (tried want c)) c).changes ≤ c.changes + 1
    more true true want c = omega arith
    more true false want c = once (nat_lt c.misses c.limit) want c
    more false true want c = omega arith
    more false false want c = omega arith

    grows : (n : ℕ) → changes_in new n ≤ changes_in old n + 1
    grows n = rw (ap (λ (c : YoungCell). c.changes) (ages n)) (more (cell mask n) (tearing && eqb (n % 2) 1) (cell want n) (young_cell old n))

-- and its digits have room for one change more
pub may_age : {B M : ℕ} (wear : Wear) (limit line : ℕ) (young : Young B M) → IsYouth wear limit → IsYoung wear limit line young → young.pulses < limit → MayAge 511 young
may_age wear limit line young youth is few = record {
  changes = is.changes;
  pulses = omega (arith, few, youth.few);
}

-- a new line of cells that don't miss
pub blank_begins : (B M : ℕ) (wear : Wear) (line : ℕ) → wear.misses ≡ 0 → IsBegun wear line (blank_young B M)
blank_begins B M wear line sure = record {
  held = refl;
  misses = refl;
  changes = changes-none B M;
  limits = λ n low.
      let none : miss_limit wear (word_of wear line n) ≡ 0 = omega (arith, sure) in
      digit-zeros B M n ∙ sym none;
  pulses = refl;
}

-- and one whose limits were drawn
pub begun_of : {B M : ℕ} (wear : Wear) (line : ℕ) (young : Young B M) → young.held ≡ zero_row B M → young.misses ≡ zero_digits B M → young.low ≡ zero_digits B M
    → young.middle ≡ zero_digits B M → young.high ≡ zero_digits B M → young.pulses ≡ 0
    → ((n : ℕ) → n < 8 * (B + M) → digit young.limits n ≡ miss_limit wear (word_of wear line n)) → IsBegun wear line young
unfolding changes_in
begun_of {B} {M} wear line young held misses low middle high pulses limits = record {
  held = held;
  misses = misses;
  changes = λ n. rw (low, middle, high, digit-zeros B M n) refl;
  limits = limits;
  pulses = pulses;
}

-- a new line is young
pub begun_is_young : {B M : ℕ} (wear : Wear) (limit line : ℕ) (young : Young B M) → IsBegun wear line young → IsYoung wear limit line young
begun_is_young wear limit line young begun = record {
  pulses = omega (arith, begun.pulses);
  changes = λ n. omega (arith, begun.changes n);
  limits = begun.limits;
}

-- a line that was never pulsed, as it is drawn and as a young one
pub begun_alike : {B M : ℕ} (wear : Wear) (line : ℕ) (young : Young B M) → IsBegun wear line young → HaveSameLife (drawn_line B M wear line) (grown_line wear line young)
unfolding drawn_line grown_line
begun_alike {B} {M} wear line young begun = record {
  line = rw (begun.held, begun.misses, begun.pulses) refl;
  cells = λ n.
      let size : length (drawn_line B M wear line).left ≡ 8 * (B + M) = length-map-range_with_len (λ k. endurance wear (word_of wear line k)) 0 (8 * (B + M)) in
      let size_new : length (grown_line wear line young).left ≡ 8 * (B + M) = length-map-range_with_len (λ k. endurance wear (word_of wear line k) - changes_in young k) 0 (8 * (B + M)) in
      elim (cases_lt n (8 * (B + M))) as (λ _. seeded_cell (drawn_line B M wear line) n ≡ seeded_cell (grown_line wear line young) n) [
        | inl low ↦
            let whole : endurance wear (word_of wear line n) - changes_in young n ≡ endurance wear (word_of wear line n) = omega (arith, begun.changes n) in
            rw (
              get_or-map-range_with_len (λ k. endurance wear (word_of wear line k)) 0 (8 * (B + M)) n n 0 low (omega arith),
              get_or-map-range_with_len (λ k. endurance wear (word_of wear line k) - changes_in young k) 0 (8 * (B + M)) n n 0 low (omega arith),
              whole,
              begun.held,
              begun.misses,
            )
            refl
        | inr high ↦
            rw (
              get_or_past (drawn_line B M wear line).left n 0 (omega (arith, high, size)),
              get_or_past (grown_line wear line young).left n 0 (omega (arith, high, size_new)),
              begun.held,
              begun.misses,
            )
            refl
      ];
}

-- a line whose words were drawn later
pub aged_alike : {B M : ℕ} (wear : Wear) (line : ℕ) (young : Young B M) (drawn : LifeLine B M) (spent : Digits B M) (old new : Counts B M)
    → HaveSameLife (drawn_line B M wear line) drawn → drawn.left ≡ left_of spent old
    → ((n : ℕ) → n < 8 * (B + M) → count new n ≡ count old n - changes_in young n)
    → HaveSameLife (grown_line wear line young)
    (record { line = record { held = young.held; stuck = drawn.line.stuck; misses = young.misses; pulses = young.pulses }; left = left_of spent new; limits = drawn.limits; ends = drawn.ends })
unfolding drawn_line grown_line
aged_alike {B} {M} wear line young drawn spent old new same left taken = record {
  line = rw (sym (ap (λ (l : PlaneLine B M). l.stuck) same.line)) refl;
  cells = λ n.
      let size : length (grown_line wear line young).left ≡ 8 * (B + M) = length-map-range_with_len (λ k. endurance wear (word_of wear line k) - changes_in young k) 0 (8 * (B + M)) in
      let stuck = sym (ap (λ (c : SeededCell). c.state.stuck) (same.cells n)) in
      let limit = sym (ap (λ (c : SeededCell). c.limit) (same.cells n)) in
      let end = sym (ap (λ (c : SeededCell). c.end) (same.cells n)) in
      elim (cases_lt n (8 * (B + M))) as (λ _. seeded_cell (grown_line wear line young) n
      ≡ seeded_cell (record { line = record { held = young.held; stuck = drawn.line.stuck; misses = young.misses; pulses = young.pulses }; left = left_of spent new; limits = drawn.limits; ends = drawn.ends }) n) [
        | inl low ↦
            let was : endurance wear (word_of wear line n) ≡ count old n - digit spent n =
            sym (get_or-map-range_with_len (λ k. endurance wear (word_of wear line k)) 0 (8 * (B + M)) n n 0 low (omega arith))
            ∙ ap (λ (c : SeededCell). c.left) (same.cells n) ∙ ap (λ xs. get_or xs n 0) left ∙ left_is spent old n low in
            let here : slice_index (left_of spent new) n ≡ endurance wear (word_of wear line n) - changes_in young n =
            left_is spent new n low ∙ omega (arith, taken n low, was) in
            rw (
              get_or-map-range_with_len (λ k. endurance wear (word_of wear line k) - changes_in young k) 0 (8 * (B + M)) n n 0 low (omega arith),
              here,
              stuck,
              limit,
              end,
            )
            refl
        | inr high ↦
            rw (
              get_or_past (grown_line wear line young).left n 0 (omega (arith, high, size)),
              get_or_past (left_of spent new) n 0 (omega (arith, high, left_size spent new)),
              stuck,
              limit,
              end,
            )
            refl
      ];
}

-- how a young line is worn
pub grown_stuck : {B M : ℕ} (wear : Wear) (line : ℕ) (young : Young B M) (row : LifeLine B M) → row ≡ grown_line wear line young
    → members (cell row.line.stuck) (8 * (B + M)) ≡ 0
unfolding grown_line
grown_stuck {B} {M} wear line young row is = rw is (members-none _ (8 * (B + M)) (λ n. cell-zeros B M n))

pub grown_changes : {B M : ℕ} (wear : Wear) (limit line : ℕ) (young : Young B M) (row : LifeLine B M) → IsYouth wear limit → IsYoung wear limit line young → row ≡ grown_line wear line young
    → most (changes_in young) (8 * (B + M)) ≡ most (changes_of wear line row) (8 * (B + M))
unfolding grown_line
grown_changes {B} {M} wear limit line young row youth is_young is =
    rw is (most-same (changes_in young) (changes_of wear line (grown_line wear line young)) (8 * (B + M))
    (λ n low.
    let left = get_or-map-range_with_len (λ k. endurance wear (word_of wear line k) - changes_in young k) 0 (8 * (B + M)) n n 0 low (omega arith) in
    omega (arith, left, is_young.changes n, is_young.pulses, youth.early)))

-- the pulses of a young line
pub grown_pulses : {B M : ℕ} (wear : Wear) (line : ℕ) (young : Young B M) → (grown_line wear line young).line.pulses ≡ young.pulses
unfolding grown_line
grown_pulses wear line young = refl

pub grown_held : {B M : ℕ} (wear : Wear) (line : ℕ) (young : Young B M) → (grown_line wear line young).line.held ≡ young.held
unfolding grown_line
grown_held wear line young = refl

-- the pulses aren't a part of the cells
pub pulsed_same : {B M : ℕ} (young : Young B M) (pulses n : ℕ) → young_cell (record young { pulses = pulses }) n ≡ young_cell young n
unfolding changes_in
pulsed_same young pulses n = refl
