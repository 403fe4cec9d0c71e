-- How many bits the numbers of a module's lines have, where there are a power of two of them.
use Rattle.std.specs.Prelude.{ℕ, zero, suc, ◌+◌, ◌/◌, nat_lt, if◌then◌else◌}

-- how often a number can be halved before it is below two, of at most so many times
abbrev pub halvings : ℕ → ℕ → ℕ
halvings zero number = 0
halvings (suc most) number = if nat_lt number 2 then 0 else halvings most (number / 2) + 1

-- the binary logarithm, rounded down
abbrev pub log2 : ℕ → ℕ
log2 number = halvings number number
