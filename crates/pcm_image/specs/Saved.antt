-- A saved module: what its banks keep, and what the cells of its array hold.
use Rattle.std.specs.Prelude.{◌≡◌, ℕ, ◌+◌, ◌*◌, ◌^◌, ◌%◌, ◌<◌, ◌≤◌, ◌==◌, ◌&&◌, nat_le, Bool, if◌then◌else◌, List, length, All, IsTrue}
use Rattle.masked_bytes.specs.Masked.{IsMasked}
use Rattle.cell_rows.specs.declared.row.Cells.{Cells}
use Rattle.module_shape.specs.{Limits.{is_power_between, small_limits}, declared.raw.SizeLimits.SizeLimits}
use Rattle.pcm_image.specs.{declared.EntryImage.EntryImage, declared.RegionImage.RegionImage}

-- what is saved of a bank: whether it is exhausted, the slots that were given its spares, in order, the registers of its regions, and
-- the writes of its queue, the oldest first
pub record SavedBank (B : ℕ) : Type 0 where
  pub mark : ℕ
  pub replaced : List ℕ
  pub regions : List RegionImage
  pub entries : List (EntryImage B)

-- the numbers that say how a module is built: of banks, of regions of a bank, of lines of a region and of spares of a bank; the seed
-- of its randomiser; and 1 where the registers of its banks have array lines of their own
pub record Head : Type 0 where
  pub banks : ℕ
  pub regions : ℕ
  pub lines : ℕ
  pub spares : ℕ
  pub seed : ℕ
  pub home : ℕ

-- a saved module: its numbers, its banks, and the cells of each of its array lines
pub record Saved (B M : ℕ) : Type 0 where
  pub head : Head
  pub parts : List (SavedBank B)
  pub cells : List (Cells B M)

-- how many lines the module has
abbrev pub total_in : Head → ℕ
total_in h = h.banks * h.regions * h.lines

-- how many lines a bank has
abbrev pub lines_in : Head → ℕ
lines_in h = h.regions * h.lines

-- how many slots a bank has: a region has a place more than it has lines
abbrev pub slots_in : Head → ℕ
slots_in h = h.regions * (h.lines + 1)

-- how many array lines of a bank keep its registers
abbrev pub controls_in : Head → ℕ
controls_in h = if h.home == 0 then 0 else h.regions + h.spares + 1

-- how many array lines a bank has
abbrev pub array_lines_in : Head → ℕ
array_lines_in h = slots_in h + h.spares + controls_in h

-- whether a region may have so many lines, in a module of so many banks of so many regions, of which there are most sizes
abbrev pub is_lines_in : SizeLimits → ℕ → ℕ → ℕ → Bool
is_lines_in most banks regions n = is_power_between 4 most.lines n && nat_le (banks * regions * n) most.total

-- the numbers are those of a module, of which there are most sizes
pub record IsHeadIn (most : SizeLimits) (h : Head) : Type 0 where
  pub banks : IsTrue (is_power_between 1 most.banks h.banks)
  pub regions : IsTrue (is_power_between 1 most.regions h.regions)
  pub lines : IsTrue (is_lines_in most h.banks h.regions h.lines)
  pub spares : h.spares ≤ 1024
  pub seed : h.seed < 2 ^ 64
  pub home : h.home < 2

-- of a small module
abbrev pub IsHead : Head → Type 0
IsHead h = IsHeadIn small_limits h

-- the registers of a region are in range; how many stores make a gap move due isn't saved
pub record IsSavedRegion (h : Head) (r : RegionImage) : Type 0 where
  pub start : r.start < h.lines
  pub gap : r.gap ≤ h.lines
  pub counter : r.counter < 2 ^ 16

-- a write of the queue is of a line of the bank, and gives some byte; a byte that it doesn't give is 0
pub record IsSavedEntry {B : ℕ} (h : Head) (e : EntryImage B) : Type 0 where
  pub line : e.line < lines_in h
  pub masked : IsMasked B e.bytes e.given

-- the numbers of a bank are in range, and each region has its registers
pub record IsSavedBank {B : ℕ} (h : Head) (b : SavedBank B) : Type 0 where
  pub mark : b.mark < 2
  pub used : length b.replaced ≤ h.spares
  pub slots : All (λ slot. slot < slots_in h) b.replaced
  pub one_each : length b.regions ≡ h.regions
  pub regions : All (IsSavedRegion h) b.regions
  pub few : length b.entries ≤ 256
  pub entries : All (IsSavedEntry h) b.entries

-- a row has as many bytes as its line
pub record IsSavedRow (B M : ℕ) (row : Cells B M) : Type 0 where
  pub bits : length row.bits ≡ B
  pub meta : length row.meta ≡ M

-- a module that can be saved, of which there are most sizes: each number is in range, and there are as many banks, and rows of cells, as
-- the head says
pub record IsSavedIn {B M : ℕ} (most : SizeLimits) (s : Saved B M) : Type 0 where
  pub head : IsHeadIn most s.head
  pub one_each : length s.parts ≡ s.head.banks
  pub parts : All (IsSavedBank s.head) s.parts
  pub all_lines : length s.cells ≡ s.head.banks * array_lines_in s.head
  pub rows : All (IsSavedRow B M) s.cells

-- a small one
abbrev pub IsSaved : {B M : ℕ} → Saved B M → Type 0
IsSaved s = IsSavedIn small_limits s

-- the sizes of a row that an image can have: as many data bytes as fill whole bytes of given bits, and few check bytes
pub record IsSize (B M : ℕ) : Type 0 where
  pub whole : B % 8 ≡ 0
  pub few : B ≤ 128
  pub checks : M ≤ 16
