-- When the power is cut.
use Rattle.std.specs.{List.slice_split, Prelude.{ℕ, zero, suc, ◌+◌, ◌*◌, ◌%◌, ◌≤◌, ◌==◌, nat_lt, if◌then◌else◌, List, [], ◌∷◌, codes, Option, Some, None}}
use Rattle.clap.specs.Words.{Row, Text, first_of}
use Rattle.rand_core.specs.Stream.{Stream, next_u64}
use Rattle.seeded_words.specs.Words.{splitmix_of}
use Rattle.trace_reader.specs.{Number.number_of, Rows.latest_tick}
use Rattle.command_line.specs.Options.{number_option, with_some}
use Rattle.stream_words.specs.Options.{without}
use Rattle.disk_words.specs.declared.cuts.DrawnCuts.{DrawnCuts}

-- the numbers of drawn cuts are in range: the last one's tick is one of 64 bits
pub record IsDrawn (cuts : DrawnCuts) : Type 0 where
  pub few : cuts.count ≤ 1000000
  pub some : 1 ≤ cuts.every
  pub near : cuts.every ≤ 274877906944

-- the ticks of so many cuts more, behind one at this tick: each word draws from 1 to twice the distance
abbrev pub ticks_drawn : (count every before : ℕ) → Stream → List ℕ
ticks_drawn zero every before left = []
ticks_drawn (suc more) every before left =
    (before + (1 + (next_u64 left).0 % (2 * every))) ∷ ticks_drawn more every (before + (1 + (next_u64 left).0 % (2 * every))) (next_u64 left).1

-- the ticks of drawn cuts, by the words of SplitMix64
abbrev pub drawn : DrawnCuts → List ℕ
drawn cuts = ticks_drawn cuts.count cuts.every 0 (splitmix_of cuts.seed)

-- the tick that a text writes, where it is later than another
abbrev pub later : Text → ℕ → Option ℕ
later text before = with_some (number_of 20 latest_tick text) (λ tick. if nat_lt before tick then Some tick else None)

-- the ticks that texts write, each later than the one before
abbrev pub rising : ℕ → List Text → Option (List ℕ)
rising before [] = Some []
rising before (text ∷ more) = with_some (later text before) (λ tick. with_some (rising tick more) (λ ticks. Some (tick ∷ ticks)))

-- those of a list, with commas between them: from 1 on
abbrev pub listed : Text → Option (List ℕ)
listed text = rising 0 (slice_split (λ b. b == 44) text)

-- what the options say of drawn cuts
unfoldable pub drawing_of : List Row → Option DrawnCuts
drawing_of rows =
    with_some (number_option (codes "cuts") 0 0 1000000 rows) (λ count.
    with_some (number_option (codes "cut-every") 10000 1 274877906944 rows) (λ every.
    with_some (number_option (codes "cut-seed") 1 0 18446744073709551615 rows) (λ seed.
    Some (record { count = count; every = every; seed = seed }))))

-- the ticks of the power cuts: drawn ones, or those of a list, beside which no number of cuts is given
abbrev pub cuts_by : DrawnCuts → (cuts ticks : Option Text) → Option (List ℕ)
cuts_by drawing cuts None = Some (drawn drawing)
cuts_by drawing cuts (Some text) = without cuts (listed text)

abbrev pub cuts_of : List Row → Option (List ℕ)
cuts_of rows = with_some (drawing_of rows) (λ drawing. cuts_by drawing (first_of (codes "cuts") rows) (first_of (codes "cut-ticks") rows))
