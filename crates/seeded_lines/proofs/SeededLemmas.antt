-- What becomes of the cells of a line in a pulse, from what becomes of their planes.
use Rattle.std.proofs.Common.{◌≡◌, ℕ, ◌+◌, ◌-◌, ◌%◌, ◌≤◌, ◌&&◌, ◌<◌, Bool, true, false, not, true≢false, cond, eqb, slice_index, refl, sym, subst, ◌∙◌, ap, inl, inr, arith, List, zero, suc, ◌*◌, ◌/◌, ◌≢◌, length, replicate, get_or, set, get_or-set_same, get_or-set_other}
use Rattle.std.{specs.Prelude.{nat_lt, nat_le}, proofs.lemmas.Bool.{ltb-true, leb-true, lt-leb, cases_eq, cases_lt, and_parts}, proofs.lemmas.List.get_or_past}
use Rattle.std.proofs.lemmas.List.FromFn.{get_or-map-range_with_len, length-map-range_with_len}
use Rattle.cell_rows.specs.{Rows.cell, Shape.IsWhole, declared.row.Cells.Cells}
use Rattle.seeded_lines.specs.{Counts.count, Planes.digit, Seeded.{LifeLine, left_of, seeded, seeded_cell}, declared.counts.Counts.Counts, declared.digits.Digits.Digits}
use Rattle.seeded_lines.{specs.declared.seeded.SeededCell.SeededCell, proofs.PlaneLemmas.digit_few}

abbrev cell_of : Bool → Bool → ℕ → ℕ → ℕ → Bool → SeededCell
cell_of value stuck misses left limit end = record {
  state = record { value = value; stuck = stuck; misses = misses };
  left = left;
  limit = limit;
  end = end;
}

-- a live masked cell, and one that changes
abbrev is_live : Bool → Bool → Bool → Bool
is_live stuck torn masked = not stuck && (not torn && masked)

abbrev is_changing : Bool → Bool → Bool
is_changing live few = not (live && few) && live

-- what a group of eight makes of one of its cells
worn_cell : (masked torn stuck few last value want end : Bool) (misses left limit : ℕ) → (last ≡ true → left - 1 ≡ 0)
    → cell_of
    (cond (is_changing (is_live stuck torn masked) few) (cond (is_changing (is_live stuck torn masked) few && last) end want) value)
    (cond (is_changing (is_live stuck torn masked) few && last) true stuck)
    (cond (is_changing (is_live stuck torn masked) few) 0 (cond (is_live stuck torn masked && few) (misses + 1) misses))
    (cond (is_changing (is_live stuck torn masked) few) (left - 1) left) limit end
    ≡ cond masked
    (cond torn (cell_of value stuck misses left limit end)
    (cond stuck (cell_of value stuck misses left limit end)
    (cond few (cell_of value stuck (misses + 1) left limit end)
    (cond last (cell_of end true 0 0 limit end) (cell_of want false 0 (left - 1) limit end)))))
    (cell_of value stuck misses left limit end)
worn_cell false true true few last value want end misses left limit spent = refl
worn_cell false false true few last value want end misses left limit spent = refl
worn_cell true true true few last value want end misses left limit spent = refl
worn_cell true false true few last value want end misses left limit spent = refl
worn_cell false true false few last value want end misses left limit spent = refl
worn_cell false false false few last value want end misses left limit spent = refl
worn_cell true true false few last value want end misses left limit spent = refl
worn_cell true false false true last value want end misses left limit spent = refl
worn_cell true false false false false value want end misses left limit spent = refl
worn_cell true false false false true value want end misses left limit spent = ap (λ k. cell_of end true 0 k limit end) (spent refl)

-- one cell follows the rule, from what becomes of each of its planes
pub worn_follows : {B M : ℕ} (mask want : Cells B M) (tearing : Bool) (old new : LifeLine B M) (n : ℕ) (live missing changing last : Bool)
    → live ≡ is_live (cell old.line.stuck n) (tearing && eqb (n % 2) 1) (cell mask n)
    → missing ≡ (live && nat_lt (digit old.line.misses n) (digit old.limits n))
    → changing ≡ (not missing && live)
    → last ≡ (changing && nat_le (slice_index old.left n) 1)
    → cell new.line.held n ≡ cond changing (cond last (cell old.ends n) (cell want n)) (cell old.line.held n)
    → cell new.line.stuck n ≡ cond last true (cell old.line.stuck n)
    → digit new.line.misses n ≡ cond changing 0 (cond missing (digit old.line.misses n + 1) (digit old.line.misses n))
    → slice_index new.left n ≡ cond changing (slice_index old.left n - 1) (slice_index old.left n)
    → new.limits ≡ old.limits → new.ends ≡ old.ends
    → seeded_cell new n ≡ cond (cell mask n) (seeded tearing (cell want) n (seeded_cell old n)) (seeded_cell old n)
worn_follows mask want tearing old new n live missing changing last is_live_is is_missing is_changing_is is_last held stuck misses left limits ends =
    rw (held, stuck, misses, left, limits, ends, is_last, is_changing_is, is_missing, is_live_is)
    (worn_cell (cell mask n) (tearing && eqb (n % 2) 1) (cell old.line.stuck n) (nat_lt (digit old.line.misses n) (digit old.limits n))
    (nat_le (slice_index old.left n) 1) (cell old.line.held n) (cell want n) (cell old.ends n) (digit old.line.misses n)
    (slice_index old.left n) (digit old.limits n) (λ e. omega (arith, leb-true _ _ e)))

-- a cell of which nothing changes
pub worn_kept : {B M : ℕ} (old new : LifeLine B M) (n : ℕ) → cell new.line.held n ≡ cell old.line.held n
    → cell new.line.stuck n ≡ cell old.line.stuck n → digit new.line.misses n ≡ digit old.line.misses n
    → slice_index new.left n ≡ slice_index old.left n → new.limits ≡ old.limits → new.ends ≡ old.ends
    → seeded_cell new n ≡ seeded_cell old n
worn_kept old new n held stuck misses left limits ends = rw (held, stuck, misses, left, limits, ends) refl

-- a cell that misses has fewer than seven misses
pub missing_few : {B M : ℕ} (misses limits : Digits B M) (n : ℕ) (live missing : Bool) → missing ≡ (live && nat_lt (digit misses n) (digit limits n))
    → missing ≡ true → digit misses n < 7
missing_few misses limits n live missing is h =
    omega (arith, ltb-true _ _ ((and_parts live _ (sym is ∙ h)).1), digit_few limits n)

-- what is left of the count of a cell
pub left_is : {B M : ℕ} (spent : Digits B M) (counts : Counts B M) (n : ℕ) → n < 8 * (B + M)
    → slice_index (left_of spent counts) n ≡ count counts n - digit spent n
unfolding left_of
left_is {B} {M} spent counts n h = get_or-map-range_with_len (λ k. count counts k - digit spent k) 0 (8 * (B + M)) n n 0 h (omega arith)

pub left_size : {B M : ℕ} (spent : Digits B M) (counts : Counts B M) → length (left_of spent counts) ≡ 8 * (B + M)
unfolding left_of
left_size {B} {M} spent counts = length-map-range_with_len (λ k. count counts k - digit spent k) 0 (8 * (B + M))

-- it stays where the count and the changes since stay
pub left_kept : {B M : ℕ} (spent spent_new : Digits B M) (counts counts_new : Counts B M) (n : ℕ) → count counts_new n ≡ count counts n
    → digit spent_new n ≡ digit spent n → slice_index (left_of spent_new counts_new) n ≡ slice_index (left_of spent counts) n
left_kept {B} {M} spent spent_new counts counts_new n same spent_same =
    elim (cases_lt n (8 * (B + M))) as (λ _. slice_index (left_of spent_new counts_new) n ≡ slice_index (left_of spent counts) n) [
      | inl low ↦ left_is spent_new counts_new n low ∙ rw (same, spent_same) refl ∙ sym (left_is spent counts n low)
      | inr high ↦
          get_or_past (left_of spent_new counts_new) n 0 (omega (arith, left_size spent_new counts_new))
          ∙ sym (get_or_past (left_of spent counts) n 0 (omega (arith, left_size spent counts)))
    ]

-- a cell of a block is one of the row, and the block's
pub in_row : (B M block i : ℕ) → IsWhole B M → 8 * block < B + M → i < 64 → 64 * block + i < 8 * (B + M)
in_row B M block i (bits, meta) exists low = omega (arith, bits, meta, exists, low)

pub none_few : 0 < 7
none_few = omega arith

pub in_block : (block i : ℕ) → i < 64 → (64 * block + i) / 64 ≡ block
in_block block i low = omega (arith, low)

many_left : (x : ℕ) → 2 ≤ x → nat_le x 1 ≡ false
many_left x h = lt-leb x 1 (omega (arith, h))

-- in a calm block no cell is at its last change
pub calm_last : (changing : Bool) (count spent : ℕ) → (changing ≡ true → 8 ≤ count) → (changing ≡ true → spent < 7)
    → false ≡ (changing && nat_le (count - spent) 1)
calm_last true count spent many few = sym (many_left (count - spent) (omega (arith, many refl, few refl)))
calm_last false count spent many few = refl

-- and one more change is kept in the digits
pub calm_here : (changing : Bool) (count spent new : ℕ) → new ≡ cond changing (spent + 1) spent
    → count - new ≡ cond changing (count - spent - 1) (count - spent)
calm_here true count spent new is = omega (arith, is)
calm_here false count spent new is = omega (arith, is)

pub less_none : (x : ℕ) → x - 0 ≡ x
less_none x = omega arith

-- so it is too where the count was brought up to date first
pub calm_level : (changing : Bool) (count spent levelled none new : ℕ) → levelled ≡ count - spent → none ≡ 0
    → new ≡ cond changing (none + 1) none → levelled - new ≡ cond changing (count - spent - 1) (count - spent)
calm_level true count spent levelled none new before clear is = omega (arith, before, clear, is)
calm_level false count spent levelled none new before clear is = omega (arith, before, clear, is)

-- what is left after the counts were brought up to date, and one taken of those that change
pub level_here : (changing : Bool) (count levelled final spent new : ℕ) → levelled ≡ count - spent
    → final ≡ cond changing (levelled - 1) levelled → new ≡ 0 → final - new ≡ cond changing (count - spent - 1) (count - spent)
level_here true count levelled final spent new before after none = omega (arith, before, after, none)
level_here false count levelled final spent new before after none = omega (arith, before, after, none)

-- a block's word of calm is right where its counts are looked at again, and the others stay
pub calm_kept : (calm : List Bool) (stuck : ℕ → Bool) (old new : ℕ → ℕ) (top block : ℕ) (many : Bool) → block < length calm
    → ((n : ℕ) → n < top → get_or calm (n / 64) false ≡ true → stuck n ≡ false → 8 ≤ old n)
    → (many ≡ true → (i : ℕ) → i < 64 → stuck (64 * block + i) ≡ false → 8 ≤ new (64 * block + i))
    → ((n : ℕ) → n / 64 ≢ block → new n ≡ old n)
    → (n : ℕ) → n < top → get_or (set calm block many) (n / 64) false ≡ true → stuck n ≡ false → 8 ≤ new n
calm_kept calm stuck old new top block many within before here others n low is live =
    elim (cases_eq (n / 64) block) as (λ _. 8 ≤ new n) [
      | inl same ↦
          let number : 64 * block + (n - 64 * block) ≡ n = omega arith in
          let yes : many ≡ true = sym (get_or-set_same calm block many false within) ∙ ap (λ k. get_or (set calm block many) k false) (sym same) ∙ is in
          subst (λ k. 8 ≤ new k) number (here yes (n - 64 * block) (omega arith) (ap stuck number ∙ live))
      | inr apart ↦
          let kept = get_or-set_other calm block (n / 64) many false (λ e. apart (omega arith)) in
          rw (others n apart) (before n low (sym kept ∙ is) live)
    ]

-- of two that aren't both true, the first is false where the second is true
pub both_false : (a b : Bool) → (a && b) ≡ false → b ≡ true → a ≡ false
both_false true b none more = absurd (true≢false (sym more ∙ none))
both_false false b none more = refl

-- where a block of a new line is calm, each is
pub told_calm : (k n : ℕ) (calm : Bool) → get_or (replicate k calm) n false ≡ true → calm ≡ true
told_calm zero zero calm is = absurd (true≢false (sym is))
told_calm zero (suc n) calm is = absurd (true≢false (sym is))
told_calm (suc k) zero calm is = is
told_calm (suc k) (suc n) calm is = told_calm k n calm is

pub or_false : (a b : Bool) → cond a true b ≡ false → b ≡ false
or_false true b h = absurd (true≢false h)
or_false false b h = h

-- a cell that isn't stuck after a block was written was not stuck before
pub stuck_before : (block : ℕ) (old new : ℕ → Bool) → ((i : ℕ) → i < 64 → new (64 * block + i) ≡ false → old (64 * block + i) ≡ false)
    → ((n : ℕ) → n / 64 ≢ block → new n ≡ old n) → (n : ℕ) → new n ≡ false → old n ≡ false
stuck_before block old new here others n live =
    elim (cases_eq (n / 64) block) as (λ _. old n ≡ false) [
      | inl same ↦
          let number : 64 * block + (n - 64 * block) ≡ n = omega arith in
          ap old (sym number) ∙ here (n - 64 * block) (omega arith) (ap new number ∙ live)
      | inr apart ↦ sym (others n apart) ∙ live
    ]
