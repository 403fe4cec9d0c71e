-- A line whose life isn't drawn yet, seen as if it were.
use Rattle.std.specs.{List.range_with_len, Prelude.{ℕ, zero, suc, ◌≡◌, ◌+◌, ◌-◌, ◌*◌, Bool, cond, List, map, Option, None, Some, bit_xor, slice_index}}
use Rattle.cell_rows.specs.{declared.array.Wear.Wear, declared.row.Cells.Cells}
use Rattle.seeded_lines.specs.{Planes.{bit_in, blank_planes}, Seeded.{LifeLine, seeded_cell, endurance, miss_limit, stuck_value}, declared.digits.Digits.Digits}
use Rattle.seeded_words.specs.Words.{xoshiro_of, word_at}

-- the number of so many bits from one on, the first of them lowest
abbrev pub number_from : (ℕ → Bool) → ℕ → ℕ → ℕ
number_from bit k zero = 0
number_from bit k (suc w) = number_from bit (k + 1) w * 2 + cond (bit k) 1 0

-- so many bytes of eight bits each, from one byte on
abbrev pub bytes_from : (ℕ → Bool) → ℕ → ℕ → List ℕ
bytes_from bit from n = map (λ k. number_from bit (8 * k) 8) (range_with_len from n)

-- the row whose cells are these
unfoldable pub row_of : (B M : ℕ) → (ℕ → Bool) → Cells B M
row_of B M bit = record { bits = bytes_from bit 0 B; meta = bytes_from bit B M }

-- the planes of numbers from 0 to 7
unfoldable pub digits_of : (B M : ℕ) → (ℕ → ℕ) → Digits B M
digits_of B M number = record {
  low = row_of B M (λ n. bit_in (number n) 0);
  middle = row_of B M (λ n. bit_in (number n) 1);
  high = row_of B M (λ n. bit_in (number n) 2);
}

-- word n of a line
abbrev pub word_of : Wear → ℕ → ℕ → ℕ
word_of wear line n = word_at n (xoshiro_of (bit_xor wear.seed line))

-- the line before any pulse, whether or not its words were drawn: they depend on the seed and its number alone
unfoldable pub drawn_line : (B M : ℕ) → Wear → ℕ → LifeLine B M
drawn_line B M wear line = record {
  line = blank_planes B M;
  left = map (λ n. endurance wear (word_of wear line n)) (range_with_len 0 (8 * (B + M)));
  limits = digits_of B M (λ n. miss_limit wear (word_of wear line n));
  ends = row_of B M (λ n. stuck_value (word_of wear line n));
}

-- how often a cell of the line changed: of the changes that its word lets it live through, those that it no longer has left
abbrev pub changes_of : {B M : ℕ} → Wear → ℕ → LifeLine B M → ℕ → ℕ
changes_of wear line row n = endurance wear (word_of wear line n) - slice_index row.left n

-- the same of each cell of a line of an array that was powered up
abbrev pub changes_with : {B M : ℕ} → Option Wear → ℕ → LifeLine B M → Option (ℕ → ℕ)
changes_with None line row = None
changes_with (Some wear) line row = Some (changes_of wear line row)

-- two lines that hold the same, and each cell of which has the same life
pub record HaveSameLife {B M : ℕ} (a b : LifeLine B M) : Type 0 where
  pub line : a.line ≡ b.line
  pub cells : (n : ℕ) → seeded_cell a n ≡ seeded_cell b n
