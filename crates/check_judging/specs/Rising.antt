-- Rows whose ticks don't fall.
use Rattle.std.specs.Prelude.{ℕ, ◌&&◌, Bool, true, List, [], ◌∷◌, nat_le}
use Rattle.row_rules.specs.declared.Row.{Row}

module _ {n : ℕ} where
  -- the ticks of these rows, the oldest first, are at least t and don't fall
  abbrev pub rising : ℕ → List (Row n) → Bool
  rising t [] = true
  rising t (q ∷ rows) = nat_le t q.tick && rising q.tick rows

  -- the ticks of these rows, the newest first, are at most t and don't rise
  abbrev pub falling : ℕ → List (Row n) → Bool
  falling t [] = true
  falling t (q ∷ rows) = nat_le q.tick t && falling q.tick rows
