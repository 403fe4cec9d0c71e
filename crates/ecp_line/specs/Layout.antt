-- Where the entries of a line stand, and from which cell each bit is read. A line is seen as a function from cell numbers to values.
use Rattle.std.specs.{Int.{w64, trailing_zeros}, Prelude.{ℕ, zero, suc, ◌≡◌, ◌+◌, ◌-◌, ◌*◌, ◌^◌, ◌<◌, ◌≤◌, Bool, true, false, cond, nat_eq, nat_le, nat_lt, ◌&&◌, ◌||◌, List}}
use Rattle.cell_rows.specs.{Rows.{members, bit_of}, Shape.IsShape}

-- how many pointer cells an entry has: the number P with `2 ^ P ≡ 8 * B`
unfoldable pub width : ℕ → ℕ
width B = trailing_zeros w64 (8 * B)

-- the sizes that entries fit
pub record IsLayout (B M E : ℕ) : Type 0 where
  pub shape : IsShape B M
  pub digits : 2 ^ width B ≡ 8 * B
  pub two : 2 ≤ E
  pub most : E ≤ width B + 1
  pub room : E * (width B + 1) + 1 ≤ 8 * M

-- the first pointer cell of entry i
abbrev pub pointer_cell : ℕ → ℕ → ℕ
pointer_cell B i = 8 * B + i * (width B + 1)

-- the replacement cell of entry i
abbrev pub replacement_cell : ℕ → ℕ → ℕ
replacement_cell B i = pointer_cell B i + width B

-- the cell that says that every entry is active; the cells behind it are unused
abbrev pub full_cell : ℕ → ℕ → ℕ
full_cell B E = pointer_cell B E

-- the first of the activity cells, which are the first E - 1 pointer cells of the last entry
abbrev pub activity_cell : ℕ → ℕ → ℕ
activity_cell B E = pointer_cell B (E - 1)

-- the number that n cells from a cell on give, lowest binary digit first
unfoldable pub number : (ℕ → Bool) → ℕ → ℕ → ℕ
number f from zero = 0
number f from (suc n) = number f from n + cond (f (from + n)) (2 ^ n) 0

-- how many of n cells from a cell on are 1 before the first that is 0
unfoldable pub leading : (ℕ → Bool) → ℕ → ℕ → ℕ
leading f from zero = 0
leading f from (suc n) = cond (f from) (1 + leading f (from + 1) n) 0

-- the bit to which entry i points
abbrev pub pointer : ℕ → (ℕ → Bool) → ℕ → ℕ
pointer B f i = number f (pointer_cell B i) (width B)

-- how many entries are active
unfoldable pub active : ℕ → ℕ → (ℕ → Bool) → ℕ
active B E f = cond (f (full_cell B E)) E (leading f (activity_cell B E) (E - 1))

-- the source of bit x among the first k entries: the replacement cell of the highest-numbered one that points to x, or data cell x
unfoldable pub source_below : ℕ → (ℕ → Bool) → ℕ → ℕ → ℕ
source_below B f x zero = x
source_below B f x (suc k) = cond (nat_eq x (pointer B f k)) (replacement_cell B k) (source_below B f x k)

-- the source of bit x
abbrev pub source : ℕ → ℕ → (ℕ → Bool) → ℕ → ℕ
source B E f x = source_below B f x (active B E f)

-- what bit x is read as
abbrev pub decoded : ℕ → ℕ → (ℕ → Bool) → ℕ → Bool
decoded B E f x = f (source B E f x)

-- one of the first j numbers has the property
unfoldable pub some_below : (ℕ → Bool) → ℕ → Bool
some_below p zero = false
some_below p (suc j) = p j || some_below p j

-- cell n is a pointer cell of entry i
abbrev pub is_pointer_cell : ℕ → ℕ → ℕ → Bool
is_pointer_cell B i n = nat_le (pointer_cell B i) n && nat_lt n (replacement_cell B i)

-- the pointer of entry i is repeated by a later one of the first j
abbrev pub is_repeated : ℕ → (ℕ → Bool) → ℕ → ℕ → Bool
is_repeated B f j i = some_below (λ h. nat_lt i h && nat_eq (pointer B f h) (pointer B f i)) j

-- cell n is stuck, and is a pointer cell of one of the first j entries, a data cell that one of them points to, or a replacement cell of one whose pointer a later one repeats
unfoldable pub is_inert : ℕ → (ℕ → Bool) → (ℕ → Bool) → ℕ → ℕ → Bool
is_inert B f stuck j n =
    stuck n && (some_below (λ i. is_pointer_cell B i n) j
    || (some_below (λ i. nat_eq n (pointer B f i)) j
    || some_below (λ i. nat_eq n (replacement_cell B i) && is_repeated B f j i) j))

-- for every j up to w, at least j cells are inert for the first j entries
abbrev pub Prefix : ℕ → ℕ → (ℕ → Bool) → (ℕ → Bool) → ℕ → Type 0
Prefix B M f stuck w = (j : ℕ) → j ≤ w → j ≤ members (is_inert B f stuck j) (8 * (B + M))

-- that, for the entries that are active
abbrev pub Sound : ℕ → ℕ → ℕ → (ℕ → Bool) → (ℕ → Bool) → Type 0
Sound B M E f stuck = Prefix B M f stuck (active B E f)

-- with k entries active, the source of each bit is in the mask and wanted at its bit of the bytes; every other cell is wanted as it is
pub record IsWanted (B k : ℕ) (f : ℕ → Bool) (bytes : List ℕ) (want mask : ℕ → Bool) : Type 0 where
  pub sources : (x : ℕ) → x < 8 * B → (mask (source_below B f x k) ≡ true) × (want (source_below B f x k) ≡ bit_of bytes x)
  pub masked : (n : ℕ) → mask n ≡ true → (x : ℕ) × (x < 8 * B) × (n ≡ source_below B f x k)
  pub others : (n : ℕ) → mask n ≡ false → want n ≡ f n

-- an activity cell behind the first that is 0; there is none where every entry is active
abbrev pub is_later : ℕ → ℕ → (ℕ → Bool) → ℕ → Bool
is_later B E f n =
    nat_lt (activity_cell B E + active B E f) n && nat_lt n (activity_cell B E + (E - 1))

-- exactly these cells are in the mask, wanted at 0; every other cell is wanted as it is
pub record WantsZeros (f : ℕ → Bool) (which want mask : ℕ → Bool) : Type 0 where
  pub cells : (n : ℕ) → mask n ≡ which n
  pub zero : (n : ℕ) → mask n ≡ true → want n ≡ false
  pub others : (n : ℕ) → mask n ≡ false → want n ≡ f n

-- the cell that makes an entry active: an activity cell, or the cell `full` for the last entry
abbrev pub switch_cell : ℕ → ℕ → ℕ → ℕ
switch_cell B E i = cond (nat_eq i (E - 1)) (full_cell B E) (activity_cell B E + i)

-- a cell of entry i: a pointer cell, or the replacement cell
abbrev pub is_entry_cell : ℕ → ℕ → ℕ → Bool
is_entry_cell B i n = nat_le (pointer_cell B i) n && nat_le n (replacement_cell B i)

-- n is the lowest number with the property
pub record IsLowest (has : ℕ → Bool) (n : ℕ) : Type 0 where
  pub is : has n ≡ true
  pub below : (k : ℕ) → k < n → has k ≡ false
