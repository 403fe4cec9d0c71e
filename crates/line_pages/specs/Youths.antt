-- The lines of an array that are young.
use Rattle.std.specs.Prelude.{ℕ, ◌≡◌, Bool, true, false, length, Option, IsTrue}
use Rattle.cell_rows.specs.declared.array.Wear.{Wear}
use Rattle.line_pages.specs.{PageTable.page_at, Tiered.tier_at, declared.youths.Youths.Youths, declared.youths.Youths.TheVariants.{Missing, Sure}}
use Rattle.seeded_lines.specs.declared.young.Young.{Young}

-- the young page of the line with this number
abbrev pub young_at : {B M : ℕ} → Youths B M → ℕ → Option (Young B M)
young_at (Sure tiers) line = tier_at tiers line
young_at (Missing pages) line = page_at pages line

-- of how many lines there may be pages
abbrev pub young_lines : {B M : ℕ} → Youths B M → ℕ
young_lines (Sure tiers) = length tiers.first
young_lines (Missing pages) = length pages

-- whether these are the pages of cells that don't miss
abbrev pub are_sure : {B M : ℕ} → Youths B M → Bool
are_sure (Sure tiers) = true
are_sure (Missing pages) = false

-- such pages are kept only where no cell misses
abbrev pub Suits : {B M : ℕ} → Wear → Youths B M → Type 0
Suits wear youths = IsTrue (are_sure youths) → wear.misses ≡ 0
