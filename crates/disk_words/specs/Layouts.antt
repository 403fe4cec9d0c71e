-- How many sectors a module has room for.
use Rattle.std.specs.{Int.is_power_of_two, Prelude.{ℕ, ◌+◌, ◌-◌, ◌*◌, ◌/◌, ◌%◌, nat_le, ◌==◌, ◌||◌, not, if◌then◌else◌, min, Option, Some, None}}
use Rattle.atomic_sectors.specs.declared.layout.Layout.{Layout}
use Rattle.command_line.specs.{declared.job.LineSize.LineSize, declared.job.LineSize.TheVariants.{Bytes64, Bytes128}}

-- how many bytes a line has
abbrev pub line_bytes : LineSize → ℕ
line_bytes Bytes64 = 64
line_bytes Bytes128 = 128

-- how many sectors of so many lines fit into so much room, where a line of the map has so many words: as many as a line has words take their
-- lines and one of the map
abbrev pub fitting : (words block room : ℕ) → ℕ
fitting words block room = room / (words * block + 1) * words + min (room % (words * block + 1) / block) (words - 1)

-- how sectors of so many bytes, a power of two, lie on so many lines of n bytes: one block more, and a line of the map, have their room first
abbrev pub layout_of : (n lines sector : ℕ) → Option Layout
layout_of n lines sector =
    if not (is_power_of_two sector) || ((sector / n == 0) || nat_le lines (2 * (sector / n))) then None
    else Some (record { block = sector / n; sectors = fitting (n / 4) (sector / n) (lines - sector / n - 1) })
