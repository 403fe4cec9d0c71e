-- The events of a generated trace are those of a trace for its lines.
use Rattle.std.proofs.Common.{◌≡◌, ℕ, zero, suc, ◌+◌, ◌*◌, ◌/◌, ◌%◌, ◌^◌, ◌<◌, ◌≤◌, ◌&&◌, List, [], ◌∷◌, length, min, refl, ap, inl, inr, arith, nat_lt}
use Rattle.std.proofs.{Math.Nat.{mod-lt, mul-le-mul, suc-mul}, lemmas.Bool.cases_Bool, lemmas.Bool.Decides.nat_tests}
use Rattle.rand_core.specs.Stream.{Stream, next_u64}
use Rattle.rand_xoshiro.specs.{SplitMix64.splitmix_seed, Xoshiro256.of_seed}
use Rattle.seeded_words.specs.Words.{xoshiro_of}
use Rattle.trace_reader.specs.{Events.{AreEventsFor, IsEventFor, IsOpFor}, Rows.latest_tick, declared.event.Event.Event, declared.event.EventOp.EventOp}
use Rattle.trace_gen.specs.Generated.{IsMix, access_by, draws_write, event_drawn, events_drawn, generated, is_cut_row, line_drawn, op_drawn, whole_lines}
use Rattle.trace_gen.specs.{Laws.{AllHaveBytes, AllWithin, GeneratedLaw, GeneratedTextLaw, HasBytes, IsGenerated, LongGeneratedLaw, LongMixLaw}, declared.mix.Mix.Mix}
use Rattle.trace_gen.proofs.{Cuts.cuts-all, Read.text_law, Words.{IsWords, after-word, fills}}

-- a line that is drawn exists
line-below : (lines : ℕ) (mix : Mix) (word : ℕ) → 1 ≤ lines → line_drawn lines mix word < lines
unfolding line_drawn
line-below lines mix word some = elim (cases_Bool (nat_lt 0 mix.hot && nat_lt (word / 2 ^ 40 % 10) 9)) [
  | inl hot ↦
      let any : 0 < mix.hot = grind (arith, nat_tests) in
      let few : 0 < min mix.hot lines = omega arith in
      let below : word % min mix.hot lines < min mix.hot lines = mod-lt word few in
      rw hot (omega arith)
  | inr cold ↦ rw cold (mod-lt word some)
]

-- what is drawn for a row
record IsDrawn {n : ℕ} (lines : ℕ) (drawn : EventOp n × Stream) : Type 0 where
  for : IsOpFor lines drawn.0
  has : HasBytes drawn.0
  left : IsWords drawn.1

access-drawn : (n lines : ℕ) (mix : Mix) (word : ℕ) (left : Stream) → 1 ≤ lines → IsWords left → IsDrawn lines (access_by n lines mix word left)
unfolding access_by
access-drawn n lines mix word left some words = elim (cases_Bool (draws_write mix word)) [
  | inl write ↦
      let f = fills n left words in
      rw write (record { for = (line-below lines mix word some, f.size); has = f.bytes; left = f.left })
  | inr read ↦ rw read (record { for = line-below lines mix word some; has = tt; left = words })
]

op-drawn : (n lines : ℕ) (mix : Mix) (row : ℕ) (left : Stream) → 1 ≤ lines → IsWords left → IsDrawn lines (op_drawn n lines mix row left)
unfolding op_drawn
op-drawn n lines mix row left some words = elim (cases_Bool (is_cut_row mix row)) [
  | inl cut ↦ rw cut (record { for = tt; has = tt; left = words })
  | inr other ↦ rw other (access-drawn n lines mix (next_u64 left).0 (next_u64 left).1 some (after-word left words))
]

-- what the events of so many rows are like, no tick of which is above this
record AreDrawn {n : ℕ} (lines before most many : ℕ) (events : List (Event n)) : Type 0 where
  lawful : AreEventsFor lines before events
  bytes : AllHaveBytes events
  rows : length events ≡ many
  ticks : AllWithin most events

none-drawn : (n lines before most : ℕ) → AreDrawn {n = n} lines before most 0 []
unfolding AreEventsFor AllHaveBytes AllWithin
none-drawn n lines before most = record { lawful = tt; bytes = tt; rows = refl; ticks = tt }

one-drawn : (n lines before most many : ℕ) (event : Event n) (rest : List (Event n)) → IsEventFor lines before event → HasBytes event.op → event.tick ≤ most
    → AreDrawn lines event.tick most many rest → AreDrawn lines before most (suc many) (event ∷ rest)
unfolding AreEventsFor AllHaveBytes AllWithin
one-drawn n lines before most many event rest for has early behind =
    record { lawful = (for, behind.lawful); bytes = (has, behind.bytes); rows = ap suc behind.rows; ticks = (early, behind.ticks) }

all-drawn : (n lines : ℕ) (mix : Mix) (more done before most : ℕ) (left : Stream) → 1 ≤ lines → before + more * mix.step ≤ most → most ≤ latest_tick → IsWords left
    → AreDrawn lines before most more (events_drawn n lines mix more done before left)
unfolding events_drawn event_drawn
all-drawn n lines mix zero done before most left some fits early words = none-drawn n lines before most
all-drawn n lines mix (suc more) done before most left some fits early words =
    let op = op-drawn n lines mix (suc done) (next_u64 left).1 some (after-word left words) in
    let rise : (next_u64 left).0 % (mix.step + 1) < mix.step + 1 = mod-lt (next_u64 left).0 (omega arith) in
    let split = suc-mul more mix.step in
    let tick = before + (next_u64 left).0 % (mix.step + 1) in
    let behind : tick + more * mix.step ≤ most = omega arith in
    let rises : before ≤ tick = omega arith in
    let within : tick ≤ most = omega arith in
    let in_time : tick ≤ latest_tick = omega arith in
    one-drawn n lines before most more _ _ (record { rises = rises; in_time = in_time; op = op.for }) op.has within
    (all-drawn n lines mix more (suc done) tick most (op_drawn n lines mix (suc done) (next_u64 left).1).1 some behind early op.left)

-- the ticks of all rows
pub span-small : (mix : Mix) → IsMix mix → mix.rows * mix.step ≤ 26214000000
span-small mix is = mul-le-mul is.few_rows is.small_step

pub long-mix : LongMixLaw
long-mix mix is =
    let small = span-small mix is in
    let rows : mix.rows ≤ 400000 = is.few_rows in
    record { some_rows = is.some_rows; few_rows = omega arith; percent = is.percent; few_cuts = is.few_cuts; small_step = is.small_step; few_hot = omega (arith, is.few_hot); in_time = omega arith }

pub long_generated_law : LongGeneratedLaw
unfolding generated
long_generated_law n seed lines mix some few is =
    let in_time : mix.rows * mix.step ≤ latest_tick = is.in_time in
    let all = all-drawn n lines mix mix.rows 0 0 (mix.rows * mix.step) (xoshiro_of seed) some (omega arith) (omega arith) (record { state = of_seed (splitmix_seed 32 seed); is = refl }) in
    record {
      lawful = all.lawful;
      bytes = all.bytes;
      rows = all.rows;
      cuts = cuts-all n lines mix 0 (xoshiro_of seed) is.few_cuts;
      ticks = all.ticks;
    }

pub generated_law : GeneratedLaw
generated_law n seed lines mix some few is = long_generated_law n seed lines mix some (omega (arith, few)) (long-mix mix is)

-- its text
pub generated_text_law : GeneratedTextLaw
generated_text_law n seed lines mix some few is =
    let all = generated_law n seed lines mix some few is in
    let rows : mix.rows ≤ 400000 = is.few_rows in
    let many : length (generated n seed lines mix) ≡ mix.rows = all.rows in
    text_law n lines (generated n seed lines mix) (omega arith) all.lawful all.bytes (omega arith)

-- the same of a list that has these events
pub generated_as : (n seed lines : ℕ) (mix : Mix) (events : List (Event n)) → 1 ≤ lines → lines ≤ whole_lines → IsMix mix → generated n seed lines mix ≡ events → IsGenerated lines mix events
generated_as n seed lines mix events some few is same = rw (← same) (generated_law n seed lines mix some few is)
