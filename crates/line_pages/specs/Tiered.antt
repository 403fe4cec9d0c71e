-- The young lines of an array whose cells don't miss.
use Rattle.std.specs.Prelude.{ℕ, Option}
use Rattle.line_pages.specs.{PageTable.page_at, Tiers.tier_of, declared.tiers.Tiers.Tiers}
use Rattle.seeded_lines.specs.declared.young.Young.{Young}

-- the young page of the line with this number
abbrev pub tier_at : {B M : ℕ} → Tiers B M → ℕ → Option (Young B M)
tier_at tiers line = tier_of (page_at tiers.later line) (page_at tiers.first line)
