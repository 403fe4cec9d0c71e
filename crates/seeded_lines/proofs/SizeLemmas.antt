-- A line and what it is made of fit in memory, which each call that is given one asks for; and its blocks are those of its row.
use Rattle.std.proofs.Common.{◌≡◌, ℕ, ◌+◌, ◌*◌, ◌/◌, ◌<◌, ◌≤◌, Fits, w64, arith}
use prog.Memory.{up}
use Rattle.cell_rows.specs.Shape.{IsShape, IsWhole}

-- the sizes of a row, of digits, of counts, of a line's two parts, and of young pages
abbrev row_size : ℕ → ℕ → ℕ
row_size b m = up 1 (up 1 (0 + b * 1) + m * 1)

abbrev digits_size : ℕ → ℕ
digits_size row = up 1 (up 1 (up 1 (0 + row) + row) + row)

abbrev counts_size : ℕ → ℕ → ℕ
counts_size b m = up 4 (up 4 (0 + b * 32) + m * 32)

abbrev moving_size : ℕ → ℕ → ℕ
moving_size row digits = up 1 (up 1 (up 1 (0 + row) + digits) + digits)

abbrev settled_size : ℕ → ℕ → ℕ → ℕ
settled_size row digits counts = up 4 (up 1 (up 1 (up 4 (0 + row) + counts) + digits) + row)

abbrev line_size : ℕ → ℕ → ℕ → ℕ
line_size b moving settled = up 8 (up 1 (up 8 (up 4 (0 + moving) + settled) + 8) + b * 1)

abbrev first_size : ℕ → ℕ → ℕ
first_size row digits = up 8 (up 8 (up 1 (0 + row) + digits) + 8)

abbrev later_size : ℕ → ℕ → ℕ
later_size row digits = up 8 (up 8 (up 1 (up 1 (up 1 (0 + row) + digits) + digits) + digits) + 8)

abbrev young_size : ℕ → ℕ → ℕ
young_size row digits = up 8 (up 8 (up 1 (up 1 (up 1 (up 1 (up 1 (0 + row) + digits) + digits) + digits) + digits) + digits) + 8)

row_few : (b m : ℕ) → b ≤ 128 → m ≤ 16 → row_size b m ≤ 200
row_few b m few_b few_m = omega arith

digits_few : (row : ℕ) → row ≤ 200 → digits_size row ≤ 700
digits_few row few = omega arith

counts_few : (b m : ℕ) → b ≤ 128 → m ≤ 16 → counts_size b m ≤ 5000
counts_few b m few_b few_m = omega arith

moving_few : (row digits : ℕ) → row ≤ 200 → digits ≤ 700 → moving_size row digits ≤ 2000
moving_few row digits few_r few_d = omega arith

settled_few : (row digits counts : ℕ) → row ≤ 200 → digits ≤ 700 → counts ≤ 5000 → settled_size row digits counts ≤ 7000
settled_few row digits counts few_r few_d few_c = omega arith

first_few : (row digits : ℕ) → row ≤ 200 → digits ≤ 700 → first_size row digits ≤ 1000
first_few row digits few_r few_d = omega arith

later_few : (row digits : ℕ) → row ≤ 200 → digits ≤ 700 → later_size row digits ≤ 3000
later_few row digits few_r few_d = omega arith

young_few : (row digits : ℕ) → row ≤ 200 → digits ≤ 700 → young_size row digits ≤ 4000
young_few row digits few_r few_d = omega arith

line_few : (b moving settled : ℕ) → b ≤ 128 → moving ≤ 2000 → settled ≤ 7000 → line_size b moving settled ≤ 10000
line_few b moving settled few_b few_m few_s = omega arith

below : (size : ℕ) → size ≤ 10000 → size < 9223372036854775808
below size few = omega arith

less : (size most : ℕ) → size ≤ most → most ≤ 10000 → size < 9223372036854775808
less size most few least = omega arith

module _ {b m : ℕ} (shape : IsShape b m) where
  row_at_most : row_size b m ≤ 200
  row_at_most = row_few b m shape.1 shape.3

  digits_at_most : digits_size (row_size b m) ≤ 700
  digits_at_most = digits_few _ row_at_most

  counts_at_most : counts_size b m ≤ 5000
  counts_at_most = counts_few b m shape.1 shape.3

  moving_at_most : moving_size (row_size b m) (digits_size (row_size b m)) ≤ 2000
  moving_at_most = moving_few _ _ row_at_most digits_at_most

  settled_at_most : settled_size (row_size b m) (digits_size (row_size b m)) (counts_size b m) ≤ 7000
  settled_at_most = settled_few _ _ _ row_at_most digits_at_most counts_at_most

  pub row_fits : row_size b m < 9223372036854775808
  row_fits = less _ 200 row_at_most (omega arith)

  pub digits_fit : digits_size (row_size b m) < 9223372036854775808
  digits_fit = less _ 700 digits_at_most (omega arith)

  pub counts_fit : counts_size b m < 9223372036854775808
  counts_fit = less _ 5000 counts_at_most (omega arith)

  pub moving_fits : moving_size (row_size b m) (digits_size (row_size b m)) < 9223372036854775808
  moving_fits = less _ 2000 moving_at_most (omega arith)

  pub settled_fits : settled_size (row_size b m) (digits_size (row_size b m)) (counts_size b m) < 9223372036854775808
  settled_fits = less _ 7000 settled_at_most (omega arith)

  pub young_fits : young_size (row_size b m) (digits_size (row_size b m)) < 9223372036854775808
  young_fits = less _ 4000 (young_few _ _ row_at_most digits_at_most) (omega arith)

  pub first_fits : first_size (row_size b m) (digits_size (row_size b m)) < 9223372036854775808
  first_fits = less _ 1000 (first_few _ _ row_at_most digits_at_most) (omega arith)

  pub later_fits : later_size (row_size b m) (digits_size (row_size b m)) < 9223372036854775808
  later_fits = less _ 3000 (later_few _ _ row_at_most digits_at_most) (omega arith)

  pub line_fits : line_size b (moving_size (row_size b m) (digits_size (row_size b m))) (settled_size (row_size b m) (digits_size (row_size b m)) (counts_size b m)) < 9223372036854775808
  line_fits = below _ (line_few b _ _ shape.1 moving_at_most settled_at_most)

  pub calm_fits : b * 1 < 9223372036854775808
  calm_fits = omega (arith, shape.1)

  pub groups_fit : Fits w64 (b + m)
  groups_fit = omega (arith, shape.1, shape.3)

  -- a block's word of calm is one of the line's
  pub block_in : (block words : ℕ) → 8 * block < b + m → words ≡ b → block < words
  block_in block words exists all = omega (arith, shape.0, shape.3, exists, all)

-- the blocks of a row, of which those of data come first
pub block_exists : (b m block : ℕ) → block < (b + m) / 8 → 8 * block < b + m
block_exists b m block low = omega (arith, low)

pub data_within : (b m : ℕ) → 8 * (b / 8) ≤ b + m
data_within b m = omega arith

pub blocks_within : (b m : ℕ) → 8 * ((b + m) / 8) ≤ b + m
blocks_within b m = omega arith

pub data_first : (b m : ℕ) → b / 8 ≤ (b + m) / 8
data_first b m = omega arith

pub from_first : (n : ℕ) → 0 ≤ n
from_first n = omega arith

pub blocks_all : (b m blocks : ℕ) → IsWhole b m → (b + m) / 8 ≤ blocks → blocks ≤ (b + m) / 8 → 64 * blocks ≡ 8 * (b + m)
blocks_all b m blocks whole least most = omega (arith, whole.0, whole.1, least, most)

pub cells_first : (one two : ℕ) → one ≤ two → 64 * one ≤ 64 * two
cells_first one two order = omega (arith, order)
