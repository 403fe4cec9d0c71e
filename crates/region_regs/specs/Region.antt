-- What a region keeps: its rotation, and how many writes it stored since its last gap move.
use Rattle.std.specs.Prelude.{ℕ, ◌+◌, ◌≤◌}
use Rattle.start_gap.specs.Rotation.{Rotation, IsRotation, first_rotation, advanced}

-- a region: a gap move is due once `counter` is `psi`
pub record RegionState : Type 0 where
  pub rotation : Rotation
  pub psi : ℕ
  pub counter : ℕ

-- the numbers of a region are in range
pub record IsRegion (r : RegionState) : Type 0 where
  pub rotates : IsRotation r.rotation
  pub some_writes : 1 ≤ r.psi
  pub few_writes : r.psi ≤ 65535
  pub counted : r.counter ≤ r.psi

-- a region of n lines at the beginning
abbrev pub first_region : ℕ → ℕ → RegionState
first_region n psi = record { rotation = first_rotation n; psi = psi; counter = 0 }

-- a region after one more stored write
abbrev pub after_store : RegionState → RegionState
after_store r = record { rotation = r.rotation; psi = r.psi; counter = r.counter + 1 }

-- a region after its gap move
abbrev pub after_move : RegionState → RegionState
after_move r = record { rotation = advanced r.rotation; psi = r.psi; counter = 0 }
