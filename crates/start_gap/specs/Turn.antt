-- A full turn: among any n*(n+1) successive moves, each line goes once into each place.
use Rattle.std.specs.Prelude.{◌≡◌, ℕ, ◌+◌, ◌<◌, ◌≤◌}
use Rattle.start_gap.specs.Rotation.{turn, moved_line, gap_after}

-- the move after t moves copies this line into this place
pub record Copies (n line place t : ℕ) : Type 0 where
  pub copied : moved_line n t ≡ line
  pub into : gap_after n t ≡ place

-- the move after t moves is the one in the turn from `first` on that copies this line into this place
pub record IsOnlyMove (n first line place t : ℕ) : Type 0 where
  pub begun : first ≤ t
  pub within : t < first + turn n
  pub copies : Copies n line place t
  pub only : (other : ℕ) → first ≤ other → other < first + turn n → Copies n line place other → other ≡ t

-- any turn of successive moves has each pair of a line and a target place exactly once
abbrev pub HasEachPairOnce : ℕ → ℕ → Type 0
HasEachPairOnce n first = (line place : ℕ) → line < n → place ≤ n → (t : ℕ) × IsOnlyMove n first line place t
