-- Where the lines of a disk lie in a module: neighbours go round the banks, and then round the regions of a bank.
use Rattle.std.specs.Prelude.{◌≡◌, ℕ, ◌+◌, ◌*◌, ◌/◌, ◌%◌, ◌<◌}
use Rattle.module_shape.specs.{Limits.{IsShape, total_of}, declared.raw.RawShape.RawShape}
use Rattle.right_runs.specs.Banks.{bank_of_line, line_named}

-- the number in its bank of a line of the disk: by its region there, and its offset in the region
abbrev pub own_of : RawShape → ℕ → ℕ
own_of raw line = line / raw.banks % raw.regions * raw.lines + line / raw.banks / raw.regions

-- the line of the module that is a line of the disk
abbrev pub place_of : RawShape → ℕ → ℕ → ℕ
place_of raw seed line = line_named raw seed (line % raw.banks) (own_of raw line)

-- and the line of the disk that lies there, by its bank and its number there
abbrev pub lies_at : RawShape → ℕ → ℕ → ℕ
lies_at raw bank own = (own % raw.lines * raw.regions + own / raw.lines) * raw.banks + bank

-- the lines of the disk and those of the module are each other's, one to one; lines of the disk that follow one another are of banks that do
pub record ArePlaces (raw : RawShape) (seed : ℕ) : Type 0 where
  pub exists : (line : ℕ) → line < total_of raw → place_of raw seed line < total_of raw
  pub round : (line : ℕ) → line < total_of raw → bank_of_line raw seed (place_of raw seed line) ≡ line % raw.banks
  pub apart : (line other : ℕ) → line < total_of raw → other < total_of raw → place_of raw seed line ≡ place_of raw seed other → line ≡ other
  pub each : (place : ℕ) → place < total_of raw → (line : ℕ) × (line < total_of raw) × (place_of raw seed line ≡ place)

abbrev pub PlacesLaw : Type 0
PlacesLaw = (raw : RawShape) (seed : ℕ) → IsShape raw → ArePlaces raw seed
