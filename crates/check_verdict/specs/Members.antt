-- The members of a queue, as the checker keeps them.
use Rattle.std.specs.Prelude.{ℕ, ◌+◌, ◌-◌, ◌^◌, ◌==◌, ◌||◌, Bool, not, nat_le}
use Rattle.check_verdict.specs.declared.members.Member.{Member}

-- later than every tick
abbrev pub never : ℕ
never = 2 ^ 64 - 1

-- a member isn't stored at this tick
abbrev pub ends_elsewhere : ℕ → Member → Bool
ends_elsewhere u m = not (u == m.end)

-- it is stored a distance behind or before this tick
abbrev pub ends_apart : ℕ → ℕ → Member → Bool
ends_apart read u m = nat_le (u + read) m.end || nat_le (m.end + read) u
