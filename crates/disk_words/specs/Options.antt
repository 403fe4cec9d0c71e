-- What a disk's own options mean.
use Rattle.std.specs.Prelude.{ℕ, List, codes, Option}
use Rattle.clap.specs.Words.{Row, Text}
use Rattle.atomic_sectors.specs.declared.layout.Layout.{Layout}
use Rattle.command_line.specs.{Options.{number_option, one_of_two, with_some}, declared.job.LineSize.LineSize}
use Rattle.disk_server.specs.declared.answering.{OnCut.OnCut, OnCut.TheVariants.{Drop, Ride}}
use Rattle.disk_words.specs.Layouts.{layout_of, line_bytes}

-- how sectors lie on so many lines
abbrev pub sectors_of : LineSize → ℕ → List Row → Option Layout
sectors_of line lines rows = with_some (number_option (codes "sector") 4096 1 16384 rows) (layout_of (line_bytes line) lines)

-- what becomes of a request that a power cut ends
abbrev pub on_cut_of : Option Text → Option OnCut
on_cut_of text = one_of_two (codes "drop") Drop (codes "ride") Ride text
