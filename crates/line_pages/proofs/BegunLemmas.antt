-- Young lines from their first pulse on.
use Rattle.std.proofs.Common.{◌≡◌, ◌≢◌, ℕ, ◌<◌, Bool, List, length, refl, ◌∙◌, ap, arith, get_or-set_same, get_or-set_other, Option, Some, None}
use Rattle.cell_rows.specs.{declared.array.Wear.Wear, declared.row.Cells.Cells}
use Rattle.line_pages.specs.{Begun.{AgesLine, Starts}, PageTable.{AgesPage, page_at}, Tiers.{AgesYoung, young_or_blank}}
use Rattle.seeded_lines.{specs.Young.MayAge, specs.declared.young.Young.Young, proofs.YoungLemmas.{blank_begins, changes-none}}

-- ---- of cells that don't miss

-- a line without a page may be pulsed
pub may_tier : {B M : ℕ} (page : Option (Young B M)) → ((young : Young B M) → page ≡ Some young → MayAge 511 young) → MayAge 511 (young_or_blank page)
may_tier {B} {M} None each = record { changes = λ n. omega (arith, changes-none B M n); pulses = omega arith }
may_tier (Some young) each = each young refl

starts_tier : {B M : ℕ} (wear : Wear) (line : ℕ) (page : Option (Young B M)) → wear.misses ≡ 0 → Starts wear line page (young_or_blank page)
starts_tier {B} {M} wear line None sure = blank_begins B M wear line sure
starts_tier wear line (Some young) sure = refl

pub ages_sure : {B M : ℕ} (wear : Wear) (line : ℕ) (tearing : Bool) (mask want : Cells B M) (old new : ℕ → Option (Young B M)) → wear.misses ≡ 0
    → AgesYoung line tearing mask want old new → AgesLine wear line tearing mask want old new
ages_sure wear line tearing mask want old new sure ages = record {
  before = young_or_blank (old line);
  after = ages.after;
  was = starts_tier wear line (old line) sure;
  is = ages.is;
  others = ages.others;
  cells = ages.cells;
  pulses = ages.pulses;
}

-- ---- of cells that miss

-- a line that begins may be pulsed
pub may_start : {B M : ℕ} (wear : Wear) (line : ℕ) (page : Option (Young B M)) (young : Young B M) → Starts wear line page young
    → ((old : Young B M) → page ≡ Some old → MayAge 511 old) → MayAge 511 young
may_start wear line None young starts each = record {
  changes = λ n. (let none = starts.changes n in omega (arith, none));
  pulses = (let none = starts.pulses in omega (arith, none));
}
may_start wear line (Some old) young starts each = rw starts (each old refl)

pub starts_kept : {B M : ℕ} (wear : Wear) (line : ℕ) (page : Option (Young B M)) (young : Young B M) → page ≡ Some young → Starts wear line page young
starts_kept wear line page young is = rw is refl

pub ages_missing : {B M : ℕ} (wear : Wear) (line : ℕ) (tearing : Bool) (mask want : Cells B M) (old start new : List (Option (Young B M))) → line < length start
    → ((young : Young B M) → page_at start line ≡ Some young → Starts wear line (page_at old line) young)
    → ((n : ℕ) → n ≢ line → page_at start n ≡ page_at old n) → AgesPage (λ y. y) line tearing mask want start new
    → AgesLine wear line tearing mask want (page_at old) (page_at new)
ages_missing wear line tearing mask want old start new within begins others ages = record {
  before = ages.before;
  after = ages.after;
  was = begins ages.before ages.was;
  is = ap (λ xs. page_at xs line) ages.is ∙ get_or-set_same start line (Some ages.after) None within;
  others = λ n apart. ap (λ xs. page_at xs n) ages.is ∙ get_or-set_other start line n (Some ages.after) None apart ∙ others n apart;
  cells = ages.cells;
  pulses = ages.pulses;
}
