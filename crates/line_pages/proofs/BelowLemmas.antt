-- Young lines that stay on their pages.
use Rattle.std.proofs.Common.{◌≡◌, ℕ, ◌<◌, ◌≤◌, Bool, List, length, refl, sym, ◌∙◌, ap, subst, arith, get_or-set_same, get_or-set_other, Option, Some, None}
use Rattle.std.proofs.lemmas.Option.{same_Some}
use Rattle.cell_rows.specs.{declared.array.Wear.Wear, declared.row.Cells.Cells}
use Rattle.line_pages.specs.{Begun.{AgesLine, pulses_before}, Below.AgesBelow, PageTable.{AgesPage, page_at}, Paged.AreYoung, Tiers.{by_first, by_later, tier_of}}
use Rattle.line_pages.{specs.declared.first.First.First, specs.declared.later.Later.Later, proofs.TierLemmas.{tier-first, tier-later}}
use Rattle.seeded_lines.specs.declared.young.Young.{Young}

-- a page is pulsed, by which its line is seen
pub below_page : {X : Type 0} {B M : ℕ} (young : X → Young B M) (limit line : ℕ) (tearing : Bool) (mask want : Cells B M) (old new : List (Option X))
    (before after : ℕ → Option (Young B M)) → line < length old
    → ((page : X) → page_at old line ≡ Some page → before line ≡ Some (young page))
    → ((page : X) → page_at new line ≡ Some page → after line ≡ Some (young page))
    → ((n : ℕ) → page_at new n ≡ page_at old n → after n ≡ before n)
    → AgesPage young line tearing mask want old new → (page : X) × (page_at old line ≡ Some page) × ((young page).pulses < limit)
    → AgesBelow limit line tearing mask want before after
below_page young limit line tearing mask want old new before after within was is same ages few = record {
  before = young ages.before;
  after = young ages.after;
  was = was ages.before ages.was;
  few = subst (λ page. (young page).pulses < limit) (same_Some few.0 ages.before (sym few.1 ∙ ages.was)) few.2;
  is = is ages.after (ap (λ xs. page_at xs line) ages.is ∙ get_or-set_same old line (Some ages.after) None within);
  others = λ n apart. same n (ap (λ xs. page_at xs n) ages.is ∙ get_or-set_other old line n (Some ages.after) None apart);
  cells = ages.cells;
  pulses = ages.pulses;
}

-- by its later page
pub below_later : {B M : ℕ} (limit line : ℕ) (tearing : Bool) (mask want : Cells B M) (old new : List (Option (Later B M))) (first : List (Option (First B M))) → line < length old
    → AgesPage by_later line tearing mask want old new → (page : Later B M) × (page_at old line ≡ Some page) × ((by_later page).pulses < limit)
    → AgesBelow limit line tearing mask want (λ n. tier_of (page_at old n) (page_at first n)) (λ n. tier_of (page_at new n) (page_at first n))
below_later limit line tearing mask want old new first within ages few =
    below_page by_later limit line tearing mask want old new _ _ within
    (λ page is. tier-later (page_at old line) (page_at first line) page is)
    (λ page is. tier-later (page_at new line) (page_at first line) page is)
    (λ n same. ap (λ o. tier_of o (page_at first n)) same) ages few

-- and by its first page, where it has no later one
pub below_first : {B M : ℕ} (limit line : ℕ) (tearing : Bool) (mask want : Cells B M) (later : List (Option (Later B M))) (old new : List (Option (First B M))) → line < length old
    → page_at later line ≡ None
    → AgesPage by_first line tearing mask want old new → (page : First B M) × (page_at old line ≡ Some page) × ((by_first page).pulses < limit)
    → AgesBelow limit line tearing mask want (λ n. tier_of (page_at later n) (page_at old n)) (λ n. tier_of (page_at later n) (page_at new n))
below_first limit line tearing mask want later old new within none ages few =
    below_page by_first limit line tearing mask want old new _ _ within
    (λ page is. tier-first (page_at later line) (page_at old line) page none is)
    (λ page is. tier-first (page_at later line) (page_at new line) page none is)
    (λ n same. ap (tier_of (page_at later n)) same) ages few

-- fewer pulses than the less of two numbers are fewer than each
pub below_more : {B M : ℕ} (less limit line : ℕ) (tearing : Bool) (mask want : Cells B M) (old new : ℕ → Option (Young B M)) → less ≤ limit
    → AgesBelow less line tearing mask want old new → AgesBelow limit line tearing mask want old new
below_more less limit line tearing mask want old new order below = record {
  before = below.before;
  after = below.after;
  was = below.was;
  few = omega (arith, order, below.few);
  is = below.is;
  others = below.others;
  cells = below.cells;
  pulses = below.pulses;
}

-- such a line is young before and behind
pub below_ages : {B M : ℕ} (wear : Wear) (limit line : ℕ) (tearing : Bool) (mask want : Cells B M) (old new : ℕ → Option (Young B M))
    → AgesBelow limit line tearing mask want old new → AgesLine wear line tearing mask want old new × (pulses_before (old line) < limit)
below_ages wear limit line tearing mask want old new below = (
  record {
    before = below.before;
    after = below.after;
    was = rw below.was refl;
    is = below.is;
    others = below.others;
    cells = below.cells;
    pulses = below.pulses;
  },
  rw below.was below.few,
)

-- lines stay young that stay as they are
pub young_same : {B M : ℕ} (wear : Wear) (limit : ℕ) (old new : ℕ → Option (Young B M)) → AreYoung wear limit old → ((n : ℕ) → new n ≡ old n) → AreYoung wear limit new
young_same wear limit old new all same = record { each = λ line young is. all.each line young (sym (same line) ∙ is) }
