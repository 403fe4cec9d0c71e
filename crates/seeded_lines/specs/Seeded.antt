-- Lines whose cells wear out as a seed says.
use Rattle.std.specs.{Int.bit_at, List.range_with_len}
use Rattle.std.specs.Prelude.{ℕ, ◌≡◌, ◌+◌, ◌≤◌, ◌-◌, ◌*◌, ◌/◌, ◌%◌, ◌^◌, ◌<◌, min, Bool, true, false, ◌&&◌, nat_eq, nat_lt, nat_le, bit_xor, if◌then◌else◌, List, [], map}
use Rattle.std.specs.Prelude.{slice_index, slice_index_or}
use Rattle.cell_rows.specs.{Rows.{cell, zero_row}, declared.array.Wear.Wear, declared.row.Cells.Cells}
use Rattle.seeded_lines.specs.{Counts.count, Planes.{PlaneLine, plane_cell, blank_planes, digit, zero_digits}, declared.calm.Moving.Moving, declared.calm.Settled.Settled}
use Rattle.seeded_lines.specs.{declared.counts.Counts.Counts, declared.digits.Digits.Digits, declared.seeded.SeededCell.SeededCell}
use Rattle.seeded_words.specs.Words.{xoshiro_of, word_at}

-- how many changes a cell with this word lives through; it sticks in the last one
abbrev pub endurance : Wear → ℕ → ℕ
endurance wear word = wear.lo + word % (wear.hi - wear.lo + 1)

-- how often it misses before each change
abbrev pub miss_limit : Wear → ℕ → ℕ
miss_limit wear word = min (word / 2 ^ 32 % 8) wear.misses

-- the value that it sticks at
abbrev pub stuck_value : ℕ → Bool
stuck_value word = nat_eq (bit_at word 63) 1

-- the cell that a word makes, before any pulse
abbrev pub fresh_cell : Wear → ℕ → SeededCell
fresh_cell wear word = record {
  state = record { value = false; stuck = false; misses = 0 };
  left = endurance wear word;
  limit = miss_limit wear word;
  end = stuck_value word;
}

-- a live cell in a pulse that doesn't miss: the last change of its life sticks it at its own value
abbrev pub changed : Bool → SeededCell → SeededCell
changed want old =
    if nat_le old.left 1
    then record old { state = record { value = old.end; stuck = true; misses = 0 }; left = 0 }
    else record old { state = record { value = want; stuck = false; misses = 0 }; left = old.left - 1 }

-- a masked cell in a pulse: a stuck one stays, and one that hasn't missed often enough misses once more
abbrev pub pulsed : Bool → SeededCell → SeededCell
pulsed want old =
    if old.state.stuck then old
    else if nat_lt old.state.misses old.limit then record old { state = record old.state { misses = old.state.misses + 1 } }
    else changed want old

-- a masked cell in a tear or in a pulse: a tear reaches the cells of even number alone
abbrev pub seeded : Bool → (ℕ → Bool) → ℕ → SeededCell → SeededCell
seeded tearing want number old = if tearing && nat_eq (number % 2) 1 then old else pulsed (want number) old

-- a line, with the changes that each cell has left, its misses before each change, and the value that it will stick at
pub record LifeLine (B M : ℕ) : Type 0 where
  pub line : PlaneLine B M
  pub left : List ℕ
  pub limits : Digits B M
  pub ends : Cells B M

-- what is left of each cell's count, where it changed so often since the count was brought up to date
unfoldable pub left_of : {B M : ℕ} → Digits B M → Counts B M → List ℕ
left_of {B} {M} spent counts = map (λ n. count counts n - digit spent n) (range_with_len 0 (8 * (B + M)))

-- a line from what a calm pulse changes and what it leaves, as if it were never pulsed
abbrev pub life_of : {B M : ℕ} → Moving B M → Settled B M → LifeLine B M
life_of moving settled = record {
  line = record { held = moving.held; stuck = settled.stuck; misses = moving.misses; pulses = 0 };
  left = left_of moving.spent settled.left;
  limits = settled.limits;
  ends = settled.ends;
}

-- each live cell of a calm block of the row has a count of at least eight
abbrev pub IsCalm : {B M : ℕ} → List Bool → Cells B M → (ℕ → ℕ) → Type 0
IsCalm {B} {M} calm stuck counts = (n : ℕ) → n < 8 * (B + M) → slice_index_or calm (n / 64) false ≡ true → cell stuck n ≡ false → 8 ≤ counts n

abbrev pub seeded_cell : {B M : ℕ} → LifeLine B M → ℕ → SeededCell
seeded_cell row number = record {
  state = plane_cell row.line number;
  left = slice_index row.left number;
  limit = digit row.limits number;
  end = cell row.ends number;
}

-- a line without cells' lives
abbrev pub lifeless : (B M : ℕ) → LifeLine B M
lifeless B M = record { line = blank_planes B M; left = []; limits = zero_digits B M; ends = zero_row B M }

-- a new line: word n of the generator that the seed and the line's number make belongs to cell n
pub record IsDrawn {B M : ℕ} (wear : Wear) (number : ℕ) (row : LifeLine B M) : Type 0 where
  pub line : row.line ≡ blank_planes B M
  pub cells : (n : ℕ) → n < 8 * (B + M) → seeded_cell row n ≡ fresh_cell wear (word_at n (xoshiro_of (bit_xor wear.seed number)))
