-- What the options of a stream mean, where it isn't what those of a run mean.
use Rattle.std.specs.{Prelude.{ℕ, ◌*◌, ◌≤◌, nat_le, nat_lt, Bool, ◌&&◌, true, false, if◌then◌else◌, List, codes, Option, Some, None}, Str.bytes_eq}
use Rattle.clap.specs.Words.{Row, Text, first_of}
use Rattle.trace_reader.specs.{Number.number_of, Rows.latest_tick}
use Rattle.trace_gen.specs.{Generated.stream_lines, declared.mix.Mix.Mix}
use Rattle.command_line.specs.{Options.{mix_within, one_of_two, with_some}, declared.job.Input.Input, declared.job.Input.TheVariants.{Source, Drawn}}
use Rattle.drawn_parts.specs.declared.Banks.{Banks}
use Rattle.stream_words.specs.{declared.job.End.End, declared.job.End.TheVariants.{Drain, Off}, declared.job.Skip.Skip, declared.job.StreamPrint.StreamPrint}
use Rattle.stream_words.specs.{declared.job.StreamPrint.TheVariants.{Rows, Summary, Wear, Lines, Map, Energy, Image, Snapshots}, declared.job.Tell.Tell, declared.job.StreamUntil.StreamUntil}
use Rattle.stream_words.specs.declared.job.Skip.TheVariants as skip
use Rattle.stream_words.specs.declared.job.Tell.TheVariants as tell
use Rattle.stream_words.specs.declared.job.StreamUntil.TheVariants as up_to

-- what a stream writes in the end alone
abbrev pub closing_of : Text → Option StreamPrint
closing_of text =
    if bytes_eq text (codes "summary") then Some Summary
    else (if bytes_eq text (codes "wear") then Some (Wear skip.Nothing)
    else (if bytes_eq text (codes "lines") then Some (Lines skip.Nothing)
    else (if bytes_eq text (codes "energy") then Some Energy
    else (if bytes_eq text (codes "image") then Some Image
    else (if bytes_eq text (codes "map") then Some Map else None)))))

-- what is told in front of rows
abbrev pub tell_of : Option Text → Option Tell
tell_of None = Some tell.Nothing
tell_of (Some text) =
    if bytes_eq text (codes "nothing") then Some tell.Nothing
    else (if bytes_eq text (codes "shape") then Some tell.Shape
    else (if bytes_eq text (codes "module") then Some tell.Module else None))

-- rows, and what is told in front of them
abbrev pub told_rows : Option Text → Option StreamPrint
told_rows text = with_some (tell_of text) (λ told. Some (Rows told))

-- of how many rows more each snapshot stands
abbrev pub every_of : Option Text → Option ℕ
every_of None = Some 100000
every_of (Some text) = with_some (number_of 20 4294967295 text) (λ every. if nat_le 1 every then Some every else None)

-- whether snapshots are asked for
abbrev pub asks_snapshots : Option Text → Bool
asks_snapshots None = false
asks_snapshots (Some text) = bytes_eq text (codes "snapshots")

-- what may be asked for where an option isn't given
abbrev pub without : {T : Type 0} → Option Text → Option T → Option T
without None asked = asked
without (Some text) asked = None

-- snapshots: nothing is told in front of them
abbrev pub snapshots_of : List Row → Option StreamPrint
snapshots_of rows = without (first_of (codes "tell") rows) (with_some (every_of (first_of (codes "every") rows)) (λ every. Some (Snapshots every)))

-- what a stream writes but snapshots: rows, or in the end alone, and then nothing is told in front
abbrev pub plain_of : (print tell : Option Text) → Option StreamPrint
plain_of None tell = told_rows tell
plain_of (Some text) tell = if bytes_eq text (codes "rows") then told_rows tell else without tell (closing_of text)

-- what a stream writes that leaves nothing out: `--every` is for snapshots alone, and `--tell` for rows alone
abbrev pub whole_of : List Row → Option StreamPrint
whole_of rows =
    if asks_snapshots (first_of (codes "print") rows) then snapshots_of rows
    else without (first_of (codes "every") rows) (plain_of (first_of (codes "print") rows) (first_of (codes "tell") rows))

-- which array lines a report leaves out
abbrev pub skip_of : Text → Option Skip
skip_of text =
    if bytes_eq text (codes "nothing") then Some skip.Nothing
    else (if bytes_eq text (codes "unpulsed") then Some skip.Unpulsed else None)

-- a report with a row for each array line, but for those
abbrev pub report_of : Skip → Option Text → Option StreamPrint
report_of skipped None = None
report_of skipped (Some text) =
    if bytes_eq text (codes "wear") then Some (Wear skipped)
    else (if bytes_eq text (codes "lines") then Some (Lines skipped) else None)

-- what a stream writes where this stands behind `--skip`, which is for those reports alone
abbrev pub skipping_of : Text → List Row → Option StreamPrint
skipping_of text rows =
    without (first_of (codes "every") rows) (without (first_of (codes "tell") rows)
    (with_some (skip_of text) (λ skipped. report_of skipped (first_of (codes "print") rows))))

-- what a stream writes, by what stands behind `--skip`
abbrev pub print_by : Option Text → List Row → Option StreamPrint
print_by None rows = whole_of rows
print_by (Some text) rows = skipping_of text rows

-- what a stream writes
abbrev pub print_of : List Row → Option StreamPrint
print_of rows = print_by (first_of (codes "skip") rows) rows

-- a snapshot stands of at least one row more
abbrev pub IsPrint : StreamPrint → Type 0
IsPrint (Rows told) = Unit {0}
IsPrint Summary = Unit {0}
IsPrint (Wear skipped) = Unit {0}
IsPrint (Lines skipped) = Unit {0}
IsPrint Map = Unit {0}
IsPrint Energy = Unit {0}
IsPrint Image = Unit {0}
IsPrint (Snapshots every) = 1 ≤ every

-- whether the rows are read
abbrev pub is_read : Input → Bool
is_read Source = true
is_read (Drawn mix) = false

-- whether what a stream writes may have how often lines were sensed and cells driven: among rows that are read there may be a look
abbrev pub tells_energy : StreamPrint → Input → Bool
tells_energy (Rows told) input = is_read input
tells_energy Summary input = false
tells_energy (Wear skipped) input = false
tells_energy (Lines skipped) input = true
tells_energy Map input = false
tells_energy Energy input = true
tells_energy Image input = false
tells_energy (Snapshots every) input = true

-- what becomes of the module behind the last row
abbrev pub end_of : Option Text → Option End
end_of text = one_of_two (codes "drain") Drain (codes "off") Off text

-- up to where the rows are served
abbrev pub until_of : Option Text → Option StreamUntil
until_of text = one_of_two (codes "end") up_to.End (codes "refused") up_to.Refused text

-- a mix whose ticks can't go beyond the latest one
abbrev pub in_time : Mix → Option Mix
in_time mix = if nat_le (mix.rows * mix.step) latest_tick then Some mix else None

-- what the rows are that a stream draws
abbrev pub long_mix_of : List Row → Option Mix
long_mix_of rows = with_some (mix_within 4000000000 stream_lines rows) in_time

-- a bank's number, or this one where none is given
abbrev pub bank_of : Option Text → ℕ → Option ℕ
bank_of None otherwise = Some otherwise
bank_of (Some text) otherwise = number_of 20 63 text

-- the banks from a first one to a last one, where a module of so many has one of them
abbrev pub of_module : ℕ → Banks → Option Banks
of_module banks some = if nat_le some.first some.last && nat_lt some.first banks then Some some else None

-- the banks from a first one to a last one, which are all where none is given
abbrev pub some_banks_of : ℕ → List Row → Option Banks
some_banks_of banks rows =
    with_some (bank_of (first_of (codes "first-bank") rows) 0) (λ first.
    with_some (bank_of (first_of (codes "last-bank") rows) 63) (λ last.
    of_module banks (record { first = first; last = last })))

-- all banks, where neither is given
abbrev pub all_banks_of : List Row → Option Banks
all_banks_of rows =
    without (first_of (codes "first-bank") rows) (without (first_of (codes "last-bank") rows) (Some (record { first = 0; last = 63 })))

-- the banks whose rows are served, of so many: some are asked for only where rows are drawn, and the banks drain
abbrev pub banks_of : Input → End → ℕ → List Row → Option Banks
banks_of Source end banks rows = all_banks_of rows
banks_of (Drawn mix) Drain banks rows = some_banks_of banks rows
banks_of (Drawn mix) Off banks rows = all_banks_of rows
