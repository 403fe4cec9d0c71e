-- A pulse of a line with a young page, and of one with a grown page.
use Rattle.std.proofs.Common.{◌≡◌, ◌≢◌, ℕ, ◌+◌, ◌*◌, ◌<◌, ◌≤◌, Bool, false, cond, List, length, set, refl, sym, ◌∙◌, ap, subst, inl, inr, arith, length-set, get_or-set_same, get_or-set_other, Option, Some, None}
use Rattle.std.{specs.Prelude.is_some, proofs.lemmas.Bool.cases_eq, proofs.lemmas.Option.{none-some, same_Some}}
use Rattle.cell_rows.specs.{Device.counted, Rows.cell, declared.array.Wear.Wear, declared.row.Cells.Cells}
use Rattle.line_pages.specs.{Begun.{AgesLine, Starts, pulses_before}, PageTable.{WearsPage, page_at}, Paged.{AreYoung, line_seen}}
use Rattle.line_pages.proofs.PagingLemmas.{seen-grown, seen-young}
use Rattle.seeded_lines.specs.{Drawn.HaveSameLife, Follows.Follows, Seeded.{LifeLine, seeded, seeded_cell}, Young.{IsYoung, IsYouth, MayAge, grown_line}}
use Rattle.seeded_lines.{specs.declared.young.Young.Young, proofs.YoungLemmas.{begun_alike, begun_is_young, grown_pulses, may_age, young_ages, young_follows}}

-- a line is as the young one that its next pulse finds
young_alike : {B M : ℕ} (wear : Wear) (line : ℕ) (page : Option (Young B M)) (before : Young B M) → Starts wear line page before → HaveSameLife (line_seen wear line page None) (grown_line wear line before)
unfolding line_seen
young_alike wear line None before starts = begun_alike wear line before starts
young_alike wear line (Some young) before starts = rw starts (record { line = refl; cells = λ n. refl })

-- what becomes of the lines where one is pulsed that stays young
pub record Ages {B M : ℕ} (wear : Wear) (limit line : ℕ) (tearing : Bool) (mask want : Cells B M) (old new : ℕ → Option (Young B M))
    (grown : List (Option (LifeLine B M))) : Type 0 where
  pub cells : Follows (cell mask) (seeded tearing (cell want)) (seeded_cell (line_seen wear line (old line) (page_at grown line)))
      (seeded_cell (line_seen wear line (new line) (page_at grown line)))
  pub pulses : (line_seen wear line (new line) (page_at grown line)).line.pulses ≡ counted (line_seen wear line (old line) (page_at grown line)).line.pulses
  pub others : (n : ℕ) → n ≢ line → line_seen wear n (new n) (page_at grown n) ≡ line_seen wear n (old n) (page_at grown n)
  pub young : AreYoung wear limit new

-- a line is young whether or not it has a page
young_there : {B M : ℕ} (wear : Wear) (limit line : ℕ) (page : Option (Young B M)) (before : Young B M) → Starts wear line page before
    → ((young : Young B M) → page ≡ Some young → IsYoung wear limit line young) → pulses_before page < limit → IsYoung wear limit line before × (before.pulses < limit)
young_there wear limit line None before starts each few = (begun_is_young wear limit line before starts, (let none = starts.pulses in omega (arith, none, few)))
young_there {B} {M} wear limit line (Some young) before starts each few = rw starts (each young refl, few)

-- and it may be pulsed
pub may_age_there : {B M : ℕ} (wear : Wear) (limit line : ℕ) (old : ℕ → Option (Young B M)) → IsYouth wear limit → AreYoung wear limit old
    → pulses_before (old line) < limit → (young : Young B M) → old line ≡ Some young → MayAge 511 young
may_age_there wear limit line old youth all few young is =
    may_age wear limit line young youth (all.each line young is) (subst (λ (k : ℕ). k < limit) (ap pulses_before is) few)

pub line_ages : {B M : ℕ} (wear : Wear) (limit line : ℕ) (tearing : Bool) (mask want : Cells B M) (old new : ℕ → Option (Young B M)) (grown : List (Option (LifeLine B M)))
    → IsYouth wear limit → AreYoung wear limit old → page_at grown line ≡ None → pulses_before (old line) < limit
    → ((n : ℕ) → 8 * (B + M) ≤ n → cell mask n ≡ false) → AgesLine wear line tearing mask want old new → Ages wear limit line tearing mask want old new grown
line_ages {B} {M} wear limit line tearing mask want old new grown youth all none few past ages =
    let before : Young B M = ages.before in
    let there = young_there wear limit line (old line) before ages.was (all.each line) few in
    let is_young : IsYoung wear limit line before = there.0 in
    let few_before : before.pulses < limit = there.1 in
    let alike : HaveSameLife (line_seen wear line (old line) (page_at grown line)) (grown_line wear line before) = rw none (young_alike wear line (old line) before ages.was) in
    let after : line_seen wear line (new line) (page_at grown line) ≡ grown_line wear line ages.after =
    seen-young wear line (new line) (page_at grown line) ages.after none ages.is in
    record {
      cells = λ n.
          ap (λ (l : LifeLine B M). seeded_cell l n) after
          ∙ young_follows wear limit line tearing mask want before ages.after youth is_young few_before past ages.cells n
          ∙ ap (λ x. cond (cell mask n) (seeded tearing (cell want) n x) x) (sym (alike.cells n));
      pulses =
          let new_is = ap (λ (l : LifeLine B M). l.line.pulses) after ∙ grown_pulses wear line ages.after ∙ ages.pulses in
          let old_is = ap (λ l. l.pulses) alike.line ∙ grown_pulses wear line before in
          new_is ∙ omega (arith, old_is, few_before, youth.few);
      others = λ n apart. ap (λ o. line_seen wear n o (page_at grown n)) (ages.others n apart);
      young = record {
        each = λ n young at.
            elim (cases_eq n line) as (λ _. IsYoung wear limit n young) [
              | inl here ↦
                  let own : ages.after ≡ young = same_Some ages.after young (sym ages.is ∙ sym (ap new here) ∙ at) in
                  rw here (subst (IsYoung wear limit line) own (young_ages wear limit line tearing mask want before ages.after is_young few_before ages.cells ages.pulses))
              | inr apart ↦ all.each n young (sym (ages.others n apart) ∙ at)
            ];
      };
    }

-- where a line is young no more, the others are
pub young_gone : {B M : ℕ} (wear : Wear) (limit line : ℕ) (old new : ℕ → Option (Young B M)) → AreYoung wear limit old → ((n : ℕ) → n ≢ line → new n ≡ old n)
    → new line ≡ None → AreYoung wear limit new
young_gone wear limit line old new all others gone = record {
  each = λ n young at.
      elim (cases_eq n line) as (λ _. IsYoung wear limit n young) [
        | inl here ↦ absurd (none-some young (sym gone ∙ sym (ap new here) ∙ at))
        | inr apart ↦ all.each n young (sym (others n apart) ∙ at)
      ];
}

-- ---- grown pages

pub none-of : {X : Type 0} (o : Option X) → is_some o ≡ false → o ≡ None
none-of None is = refl
none-of (Some x) is = absurd (cc is)

-- a line gets a grown page: it is as that says, and the others stay
pub grown_seen : {B M : ℕ} (wear : Wear) (line : ℕ) (young : Option (Young B M)) (grown : List (Option (LifeLine B M))) (page : LifeLine B M) → line < length grown
    → line_seen wear line young (page_at (set grown line (Some page)) line) ≡ page
grown_seen wear line young grown page within =
    seen-grown wear line young (page_at (set grown line (Some page)) line) page (get_or-set_same grown line (Some page) None within)

pub grown_others : {B M : ℕ} (wear : Wear) (line n : ℕ) (young : Option (Young B M)) (grown : List (Option (LifeLine B M))) (page : LifeLine B M) → n ≢ line
    → line_seen wear n young (page_at (set grown line (Some page)) n) ≡ line_seen wear n young (page_at grown n)
grown_others wear line n young grown page apart = ap (line_seen wear n young) (get_or-set_other grown line n (Some page) None apart)

-- what becomes of the lines where a grown page is pulsed
pub record Wears {B M : ℕ} (wear : Wear) (line : ℕ) (tearing : Bool) (mask want : Cells B M) (before : LifeLine B M) (young : ℕ → Option (Young B M))
    (old new : List (Option (LifeLine B M))) : Type 0 where
  pub cells : Follows (cell mask) (seeded tearing (cell want)) (seeded_cell before) (seeded_cell (line_seen wear line (young line) (page_at new line)))
  pub pulses : (line_seen wear line (young line) (page_at new line)).line.pulses ≡ counted before.line.pulses
  pub others : (n : ℕ) → n ≢ line → line_seen wear n (young n) (page_at new n) ≡ line_seen wear n (young n) (page_at old n)
  pub lines : length new ≡ length old

pub line_wears : {B M : ℕ} (wear : Wear) (line : ℕ) (tearing : Bool) (mask want : Cells B M) (before : LifeLine B M) (young : ℕ → Option (Young B M)) (old new : List (Option (LifeLine B M)))
    → line < length old → HaveSameLife before (line_seen wear line (young line) (page_at old line)) → WearsPage line tearing mask want old new
    → Wears wear line tearing mask want before young old new
line_wears {B} {M} wear line tearing mask want before young old new within same wears =
    let was : line_seen wear line (young line) (page_at old line) ≡ wears.before = seen-grown wear line (young line) (page_at old line) wears.before wears.was in
    let after : line_seen wear line (young line) (page_at new line) ≡ wears.after =
    ap (λ xs. line_seen wear line (young line) (page_at xs line)) wears.is ∙ grown_seen wear line (young line) old wears.after within in
    record {
      cells = λ n.
          ap (λ (l : LifeLine B M). seeded_cell l n) after ∙ wears.cells n
          ∙ ap (λ x. cond (cell mask n) (seeded tearing (cell want) n x) x) (ap (λ (l : LifeLine B M). seeded_cell l n) (sym was) ∙ sym (same.cells n));
      pulses =
          ap (λ (l : LifeLine B M). l.line.pulses) after ∙ wears.pulses
          ∙ ap counted (ap (λ (l : LifeLine B M). l.line.pulses) (sym was) ∙ ap (λ l. l.pulses) (sym same.line));
      others = λ n apart.
          ap (λ xs. line_seen wear n (young n) (page_at xs n)) wears.is ∙ grown_others wear line n (young n) old wears.after apart;
      lines = ap length wears.is ∙ length-set old line (Some wears.after);
    }
