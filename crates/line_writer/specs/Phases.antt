-- The phases of a write, on a line seen as functions: what its cells hold, and which are stuck.
use Rattle.std.specs.Prelude.{ℕ, List, ◌≡◌, ◌+◌, ◌-◌, ◌*◌, ◌<◌, ◌≤◌, ◌⊎◌, Bool, true, false, nat_eq}
use Rattle.cell_rows.specs.Rows.{bit_of, xor}
use Rattle.ecp_line.specs.Layout.{active, activity_cell, full_cell, source_below, decoded, pointer, is_pointer_cell, is_later, switch_cell, Prefix, IsWanted}

-- the activity cells behind cell w of them are 0
abbrev pub IsCleared : ℕ → ℕ → (ℕ → Bool) → ℕ → Type 0
IsCleared B E f w = (n : ℕ) → activity_cell B E + w < n → n < activity_cell B E + (E - 1) → f n ≡ false

-- with w entries active, the activity cells behind the first that is 0 are to be 0
pub record IsClearing (B E w : ℕ) (want which f : ℕ → Bool) : Type 0 where
  pub entries : active B E f ≡ w
  pub cells : (n : ℕ) → which n ≡ is_later B E f n
  pub zero : (n : ℕ) → which n ≡ true → want n ≡ false

-- with w entries active, the source of each bit is to hold the bit
pub record IsFilling (B E w : ℕ) (bytes : List ℕ) (want which f : ℕ → Bool) : Type 0 where
  pub entries : active B E f ≡ w
  pub cleared : IsCleared B E f w
  pub wanted : IsWanted B w f bytes want which

-- entry w can be made active next: the activity cells say so, but for the last entry, whose pointer may overwrite them
pub record IsReady (B E w : ℕ) (f : ℕ → Bool) : Type 0 where
  pub entry : w < E
  pub full : f (full_cell B E) ≡ false
  pub most : active B E f ≤ w
  pub entries : w < E - 1 → active B E f ≡ w
  pub cleared : IsCleared B E f w

-- entry w is to point to the lowest bit that is wrong; the source of that bit is stuck
pub record IsPointing (B E w : ℕ) (bytes : List ℕ) (want which f stuck : ℕ → Bool) : Type 0 where
  pub ready : IsReady B E w f
  pub cells : (n : ℕ) → which n ≡ is_pointer_cell B w n
  pub wrong : xor (f (source_below B f (pointer B want w) w)) (bit_of bytes (pointer B want w)) ≡ true
  pub lower : (x : ℕ) → x < pointer B want w → f (source_below B f x w) ≡ bit_of bytes x
  pub charged : stuck (source_below B f (pointer B want w) w) ≡ true

-- entry w is to become active; its pointer has settled
pub record IsSwitching (B M E w : ℕ) (want which f stuck : ℕ → Bool) : Type 0 where
  pub ready : IsReady B E w f
  pub cells : (n : ℕ) → which n ≡ nat_eq n (switch_cell B E w)
  pub one : want (switch_cell B E w) ≡ true
  pub charged : Prefix B M f stuck (w + 1)

-- the last round for entry w is made: where its switch cell is 1, one more entry is active; else it still isn't
pub record IsSwitched (B M E w : ℕ) (want which f stuck : ℕ → Bool) : Type 0 where
  pub entry : w < E
  pub cells : (n : ℕ) → which n ≡ nat_eq n (switch_cell B E w)
  pub one : want (switch_cell B E w) ≡ true
  pub charged : Prefix B M f stuck (w + 1)
  pub on : f (switch_cell B E w) ≡ true → (active B E f ≡ w + 1) × IsCleared B E f (w + 1)
  pub off : f (switch_cell B E w) ≡ false → IsSwitching B M E w want which f stuck

-- a line is read as the bytes
abbrev pub IsReadAs : ℕ → ℕ → (ℕ → Bool) → List ℕ → Type 0
IsReadAs B E f bytes = (x : ℕ) → x < 8 * B → decoded B E f x ≡ bit_of bytes x

-- cell c is stuck, and is `full`, or an activity cell while `full` is 0
pub record IsStuckActivity (B E : ℕ) (f stuck : ℕ → Bool) (c : ℕ) : Type 0 where
  pub is : stuck c ≡ true
  pub activity : (c ≡ full_cell B E) ⊎ ((f (full_cell B E) ≡ false) × (i : ℕ) × (i < E - 1) × (c ≡ activity_cell B E + i))
