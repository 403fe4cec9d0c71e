-- The verdicts on the worked run and on altered ones, computed.
use Rattle.std.proofs.Common.{◌≡◌, refl}
use Rattle.rand_core.specs.{Steps.stream_of, Stream.next_u64}
use Rattle.seeded_words.specs.Words.{stream_after, word_at}
use Rattle.check_verdict.specs.{Verdicts.no, declared.Rule.TheVariants.{Serves, Tick}, declared.Verdict.TheVariants.Yes}
use Rattle.worked_tables.specs.{Runs.{reading, misplaced}, Verdicts.{verdict_on, read_at}}

pub right : verdict_on (reading 0x11 0) ≡ Yes
unfolding next_u64 stream_of stream_after word_at
right = refl

pub stale : verdict_on (reading 0 0) ≡ no 2 Serves
unfolding next_u64 stream_of stream_after word_at
stale = refl

pub early : verdict_on (read_at 104) ≡ no 2 Tick
unfolding next_u64 stream_of stream_after word_at
early = refl

pub latest : verdict_on (read_at 115) ≡ Yes
unfolding next_u64 stream_of stream_after word_at
latest = refl

pub late : verdict_on (read_at 116) ≡ no 2 Tick
unfolding next_u64 stream_of stream_after word_at
late = refl

pub other_place : verdict_on misplaced ≡ Yes
unfolding next_u64 stream_of stream_after word_at
other_place = refl
