-- The pages of young lines whose cells don't miss.
use Rattle.std.proofs.Common.{◌≡◌, ◌≢◌, ℕ, ◌<◌, Bool, true, List, length, replicate, refl, sym, ◌∙◌, ap, subst, inl, inr, arith, get_or-set_same, get_or-set_other, Option, Some, None}
use Rattle.std.{specs.Prelude.{IsSome, is_some}, proofs.lemmas.Bool.cases_lt, proofs.lemmas.List.{get_or_past, get_or-replicate, length-replicate}, proofs.lemmas.Option.same_Some}
use Rattle.cell_rows.specs.declared.row.Cells.{Cells}
use Rattle.line_pages.specs.{PageTable.{AgesPage, page_at}, Tiers.{AgesYoung, by_first, by_later, first_or_blank, tier_of, young_or_blank}, declared.first.First.First}
use Rattle.line_pages.specs.declared.later.Later.{Later}
use Rattle.seeded_lines.specs.{Young.MayAge, declared.young.Young.Young}

-- ---- what pages say

pub tier-later : {B M : ℕ} (later : Option (Later B M)) (first : Option (First B M)) (page : Later B M) → later ≡ Some page → tier_of later first ≡ Some (by_later page)
unfolding tier_of
tier-later later first page is = rw is refl

pub tier-first : {B M : ℕ} (later : Option (Later B M)) (first : Option (First B M)) (page : First B M) → later ≡ None → first ≡ Some page
    → tier_of later first ≡ Some (by_first page)
unfolding tier_of
tier-first later first page none is = rw (none, is) refl

pub tier-none : {B M : ℕ} (later : Option (Later B M)) (first : Option (First B M)) → later ≡ None → first ≡ None → tier_of later first ≡ None
unfolding tier_of
tier-none later first none no_first = rw (none, no_first) refl

-- a line without a later page is as its first one says, which is blank before its first pulse
pub tier-starts : {B M : ℕ} (later : Option (Later B M)) (first : Option (First B M)) → later ≡ None → young_or_blank (tier_of later first) ≡ by_first (first_or_blank first)
unfolding tier_of
tier-starts {B} {M} later first none = rw none (by first)
  where
    by : (first : Option (First B M)) → young_or_blank (tier_of None first) ≡ by_first (first_or_blank first)
    by None = refl
    by (Some page) = refl

-- at first no line has a page
pub page-none : {X : Type 0} (pages : List (Option X)) (lines line : ℕ) → pages ≡ replicate lines None → page_at pages line ≡ None
page-none {X} pages lines line none =
    elim (cases_lt line lines) as (λ _. page_at pages line ≡ None) [
      | inl low ↦ ap (λ xs. page_at xs line) none ∙ get_or-replicate lines line None None low
      | inr high ↦ get_or_past pages line None (omega (arith, high, ap length none, length-replicate {A = Option X} lines None))
    ]

pub tiers_blank : {B M : ℕ} (later : List (Option (Later B M))) (first : List (Option (First B M))) (lines : ℕ) → later ≡ replicate lines None → first ≡ replicate lines None
    → (line : ℕ) → tier_of (page_at later line) (page_at first line) ≡ None
tiers_blank later first lines no_later no_first line = tier-none (page_at later line) (page_at first line) (page-none later lines line no_later) (page-none first lines line no_first)

-- a line with a later page is young
pub tier-has : {B M : ℕ} (later : Option (Later B M)) (first : Option (First B M)) → is_some later ≡ true → tier_of later first ≡ Some (young_or_blank (tier_of later first))
unfolding tier_of
tier-has None first has = absurd (cc has)
tier-has (Some later) first has = refl

pub is-there : {X : Type 0} (o : Option X) → is_some o ≡ true → IsSome o
is-there None has = absurd (cc has)
is-there (Some x) has = refl

-- ---- a pulse of a line

-- its first page has room
pub may_first : {B M : ℕ} (later : Option (Later B M)) (old : Option (First B M)) (start : List (Option (First B M))) (line : ℕ) → later ≡ None
    → page_at start line ≡ Some (first_or_blank old) → (first_or_blank old).pulses < 7 → MayAge 511 (young_or_blank (tier_of later old))
    → (page : First B M) → page_at start line ≡ Some page → MayAge 7 (by_first page)
may_first {B} {M} later old start line none made few may page is =
    let own : first_or_blank old ≡ page = same_Some (first_or_blank old) page (sym made ∙ is) in
    let all : MayAge 511 (by_first (first_or_blank old)) = subst (MayAge 511) (tier-starts later old none) may in
    subst (λ (p : First B M). MayAge 7 (by_first p)) own (record { changes = all.changes; pulses = few })

pub ages_first : {B M : ℕ} (line : ℕ) (tearing : Bool) (mask want : Cells B M) (later : List (Option (Later B M))) (old start new : List (Option (First B M)))
    → line < length start → page_at later line ≡ None → page_at start line ≡ Some (first_or_blank (page_at old line))
    → ((n : ℕ) → n ≢ line → page_at start n ≡ page_at old n) → AgesPage by_first line tearing mask want start new
    → AgesYoung line tearing mask want (λ n. tier_of (page_at later n) (page_at old n)) (λ n. tier_of (page_at later n) (page_at new n))
ages_first {B} {M} line tearing mask want later old start new within none made others ages =
    let own : ages.before ≡ first_or_blank (page_at old line) = same_Some ages.before (first_or_blank (page_at old line)) (sym ages.was ∙ made) in
    let before : by_first ages.before ≡ young_or_blank (tier_of (page_at later line) (page_at old line)) = ap by_first own ∙ sym (tier-starts (page_at later line) (page_at old line) none) in
    record {
      after = by_first ages.after;
      is = tier-first (page_at later line) (page_at new line) ages.after none (ap (λ xs. page_at xs line) ages.is ∙ get_or-set_same start line (Some ages.after) None within);
      others = λ n apart. ap (tier_of (page_at later n)) (ap (λ xs. page_at xs n) ages.is ∙ get_or-set_other start line n (Some ages.after) None apart ∙ others n apart);
      cells = rw (← before) ages.cells;
      pulses = rw (← before) ages.pulses;
    }

-- the later page of a line that got one has room
pub may_later : {B M : ℕ} (old : Option (Young B M)) (later : Option (Later B M)) (first : Option (First B M)) → tier_of later first ≡ Some (young_or_blank old)
    → MayAge 511 (young_or_blank old) → (page : Later B M) → later ≡ Some page → MayAge 511 (by_later page)
may_later old later first made may page is =
    subst (MayAge 511) (same_Some (young_or_blank old) (by_later page) (sym made ∙ tier-later later first page is)) may

pub ages_later : {B M : ℕ} (line : ℕ) (tearing : Bool) (mask want : Cells B M) (old : ℕ → Option (Young B M)) (first : List (Option (First B M))) (mid_later new : List (Option (Later B M)))
    → line < length mid_later → tier_of (page_at mid_later line) (page_at first line) ≡ Some (young_or_blank (old line))
    → ((n : ℕ) → n ≢ line → tier_of (page_at mid_later n) (page_at first n) ≡ old n) → AgesPage by_later line tearing mask want mid_later new
    → AgesYoung line tearing mask want old (λ n. tier_of (page_at new n) (page_at first n))
ages_later {B} {M} line tearing mask want old first mid_later new within made others ages =
    let before : by_later ages.before ≡ young_or_blank (old line) =
    same_Some (by_later ages.before) (young_or_blank (old line)) (sym (tier-later (page_at mid_later line) (page_at first line) ages.before ages.was) ∙ made) in
    record {
      after = by_later ages.after;
      is = tier-later (page_at new line) (page_at first line) ages.after (ap (λ xs. page_at xs line) ages.is ∙ get_or-set_same mid_later line (Some ages.after) None within);
      others = λ n apart.
          ap (λ o. tier_of o (page_at first n)) (ap (λ xs. page_at xs n) ages.is ∙ get_or-set_other mid_later line n (Some ages.after) None apart) ∙ others n apart;
      cells = rw (← before) ages.cells;
      pulses = rw (← before) ages.pulses;
    }
