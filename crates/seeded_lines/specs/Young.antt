-- Lines of which no cell can be near its end.
use Rattle.std.specs.{List.range_with_len, Prelude.{ℕ, ◌≡◌, ◌+◌, ◌-◌, ◌*◌, ◌%◌, ◌<◌, ◌≤◌, Bool, ◌&&◌, nat_eq, nat_lt, if◌then◌else◌, map}}
use Rattle.cell_rows.specs.{Rows.{cell, zero_row}, declared.array.Wear.Wear}
use Rattle.seeded_lines.specs.{Drawn.{digits_of, row_of, word_of}, Planes.{digit, zero_digits}, Seeded.{LifeLine, endurance, miss_limit, stuck_value}, declared.young.Young.Young}

-- how often a cell has changed
unfoldable pub changes_in : {B M : ℕ} → Young B M → ℕ → ℕ
changes_in young n = digit young.low n + 8 * digit young.middle n + 64 * digit young.high n

-- a cell of a young line: what it holds, its misses since its last change, how often it misses before each, and how often it has changed
pub record YoungCell : Type 0 where
  pub value : Bool
  pub misses : ℕ
  pub limit : ℕ
  pub changes : ℕ

abbrev pub young_cell : {B M : ℕ} → Young B M → ℕ → YoungCell
young_cell young n = record { value = cell young.held n; misses = digit young.misses n; limit = digit young.limits n; changes = changes_in young n }

-- a masked cell in a pulse: one that hasn't missed often enough misses once more, and each other one changes
abbrev pub tried : Bool → YoungCell → YoungCell
tried want old =
    if nat_lt old.misses old.limit then record old { misses = old.misses + 1 } else record old { value = want; misses = 0; changes = old.changes + 1 }

-- a masked cell in a pulse or in a tear, which reaches the cells of even number alone
abbrev pub aging : Bool → (ℕ → Bool) → ℕ → YoungCell → YoungCell
aging tearing want number old = if tearing && nat_eq (number % 2) 1 then old else tried (want number) old

-- a line that was never pulsed, of cells that don't miss
abbrev pub blank_young : (B M : ℕ) → Young B M
blank_young B M = record {
  held = zero_row B M;
  misses = zero_digits B M;
  limits = zero_digits B M;
  low = zero_digits B M;
  middle = zero_digits B M;
  high = zero_digits B M;
  pulses = 0;
}

-- what stands for a young line, the lives of whose cells its words say
unfoldable pub grown_line : {B M : ℕ} → Wear → ℕ → Young B M → LifeLine B M
grown_line {B} {M} wear line young = record {
  line = record { held = young.held; stuck = zero_row B M; misses = young.misses; pulses = young.pulses };
  left = map (λ n. endurance wear (word_of wear line n) - changes_in young n) (range_with_len 0 (8 * (B + M)));
  limits = digits_of B M (λ n. miss_limit wear (word_of wear line n));
  ends = row_of B M (λ n. stuck_value (word_of wear line n));
}

-- so many pulses a line may have while it is young: no cell sticks before it changed more often
pub record IsYouth (wear : Wear) (limit : ℕ) : Type 0 where
  pub few : limit ≤ 511
  pub early : limit < wear.lo

-- a line is young: no cell changed more often than it was pulsed, and each misses as often as its word says
pub record IsYoung {B M : ℕ} (wear : Wear) (limit line : ℕ) (young : Young B M) : Type 0 where
  pub pulses : young.pulses ≤ limit
  pub changes : (n : ℕ) → changes_in young n ≤ young.pulses
  pub limits : (n : ℕ) → n < 8 * (B + M) → digit young.limits n ≡ miss_limit wear (word_of wear line n)

-- a page that has room for fewer changes of each cell than this may be pulsed once more
pub record MayAge {B M : ℕ} (room : ℕ) (young : Young B M) : Type 0 where
  pub changes : (n : ℕ) → changes_in young n ≤ young.pulses
  pub pulses : young.pulses < room

-- a line that was never pulsed, each cell of which misses as often as its word says
pub record IsBegun {B M : ℕ} (wear : Wear) (line : ℕ) (young : Young B M) : Type 0 where
  pub held : young.held ≡ zero_row B M
  pub misses : young.misses ≡ zero_digits B M
  pub changes : (n : ℕ) → changes_in young n ≡ 0
  pub limits : (n : ℕ) → n < 8 * (B + M) → digit young.limits n ≡ miss_limit wear (word_of wear line n)
  pub pulses : young.pulses ≡ 0
