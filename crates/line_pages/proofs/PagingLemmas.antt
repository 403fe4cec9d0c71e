-- Lines and their pages.
use Rattle.std.proofs.Common.{◌≡◌, ◌≢◌, ℕ, ◌<◌, length, replicate, get_or, refl, sym, ◌∙◌, ap, subst, inl, inr, arith, Option, Some, None}
use Rattle.std.{specs.Option.option_map, proofs.lemmas.Bool.cases_lt, proofs.lemmas.List.{get_or_past, length-replicate}}
use Rattle.std.proofs.{lemmas.List.FromFn.{get_or-map-range_with_len, length-map-range_with_len}, lemmas.Option.{none-some, same_Some}}
use Rattle.cell_rows.specs.declared.array.Wear.{Wear}
use Rattle.line_pages.specs.{PageTable.page_at, Paged.{AreYoung, line_seen}, Paging.{seen, lines_seen}, Youths.young_at, declared.pages.Pages.Pages}
use Rattle.line_pages.proofs.TierLemmas.{page-none}
use Rattle.seeded_lines.{specs.Drawn.drawn_line, specs.Seeded.{LifeLine, IsDrawn, lifeless}, specs.Young.grown_line, specs.declared.young.Young.Young, proofs.DrawnLemmas.drawn_is}

-- ---- what pages say

pub seen-grown : {B M : ℕ} (wear : Wear) (line : ℕ) (young : Option (Young B M)) (pages : Option (LifeLine B M)) (grown : LifeLine B M) → pages ≡ Some grown
    → line_seen wear line young pages ≡ grown
unfolding line_seen
seen-grown wear line young pages grown is = rw is refl

pub seen-young : {B M : ℕ} (wear : Wear) (line : ℕ) (youths : Option (Young B M)) (pages : Option (LifeLine B M)) (young : Young B M) → pages ≡ None → youths ≡ Some young
    → line_seen wear line youths pages ≡ grown_line wear line young
unfolding line_seen
seen-young wear line youths pages young none is = rw (none, is) refl

pub seen-drawn : {B M : ℕ} (wear : Wear) (line : ℕ) (youths : Option (Young B M)) (pages : Option (LifeLine B M)) → pages ≡ None → youths ≡ None
    → line_seen wear line youths pages ≡ drawn_line B M wear line
unfolding line_seen
seen-drawn wear line youths pages none no_young = rw (none, no_young) refl

-- ---- young pages

-- at first no line is young
pub none_young : {B M : ℕ} (wear : Wear) (limit : ℕ) (youths : ℕ → Option (Young B M)) → ((line : ℕ) → youths line ≡ None) → AreYoung wear limit youths
none_young wear limit youths none = record { each = λ line young is. absurd (none-some young (sym (none line) ∙ is)) }

-- what is told of a young line is told of the line
pub told-some : {X Y : Type 0} (f : X → Y) (o : Option X) (y : Y) → Some y ≡ option_map f o → (x : X) × (o ≡ Some x) × (y ≡ f x)
told-some f None y is = absurd (none-some y (sym is))
told-some f (Some x) y is = (x, refl, same_Some y (f x) is)

pub told-none : {X Y : Type 0} (f : X → Y) (o : Option X) → None ≡ option_map f o → o ≡ None
told-none f None is = refl
told-none f (Some x) is = absurd (none-some (f x) is)

-- ---- the lines of an array

-- as many lines as the table has
pub lines_size : {B M : ℕ} (p : Pages B M) → length (lines_seen p) ≡ length p.grown
unfolding lines_seen
lines_size p = length-map-range_with_len (seen p) 0 (length p.grown)

-- each as it is seen
pub lines_at : {B M : ℕ} (p : Pages B M) (n : ℕ) (d : LifeLine B M) → n < length p.grown → get_or (lines_seen p) n d ≡ seen p n
unfolding lines_seen
lines_at p n d h = get_or-map-range_with_len (seen p) 0 (length p.grown) n n d h (omega arith)

-- the lines but one are as they were
pub lines_kept : {B M : ℕ} (old new : Pages B M) (line n : ℕ) (d : LifeLine B M) → length new.grown ≡ length old.grown
    → ((k : ℕ) → k ≢ line → seen new k ≡ seen old k) → n ≢ line → get_or (lines_seen new) n d ≡ get_or (lines_seen old) n d
lines_kept old new line n d size others apart =
    elim (cases_lt n (length old.grown)) [
      | inl low ↦ lines_at new n d (omega (arith, low, size)) ∙ others n apart ∙ sym (lines_at old n d low)
      | inr high ↦
          get_or_past (lines_seen new) n d (omega (arith, high, size, lines_size new))
          ∙ sym (get_or_past (lines_seen old) n d (omega (arith, high, lines_size old)))
    ]

-- new lines are drawn
pub blank_drawn : {B M : ℕ} (p : Pages B M) (lines : ℕ) (wear : Wear) → p.wear ≡ wear → ((line : ℕ) → young_at p.young line ≡ None) → p.grown ≡ replicate lines None
    → (l : ℕ) → l < lines → IsDrawn wear l (get_or (lines_seen p) l (lifeless B M))
blank_drawn {B} {M} p lines wear same young grown l h =
    let within : l < length p.grown = omega (arith, h, ap length grown, length-replicate {A = Option (LifeLine B M)} lines None) in
    let is : get_or (lines_seen p) l (lifeless B M) ≡ drawn_line B M wear l =
    lines_at p l (lifeless B M) within
    ∙ seen-drawn p.wear l (young_at p.young l) (page_at p.grown l) (page-none p.grown lines l grown) (young l)
    ∙ ap (λ w. drawn_line B M w l) same in
    subst (IsDrawn wear l) (sym is) (drawn_is B M wear l)
