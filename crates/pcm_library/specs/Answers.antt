-- Which answer comes when.
use Rattle.std.specs.Prelude.{◌≡◌, ◌≢◌, ◌⊎◌, ℕ, ◌==◌, ◌||◌, nat_le, nat_lt, Bool, true, false, if◌then◌else◌, List, [], Option, Some, None}
use Rattle.masked_bytes.specs.Masked.{gives_some}
use Rattle.trace_reader.specs.Rows.{latest_tick}
use Rattle.row_stream.specs.{Asking.behind_of, declared.stop.Behind.Behind, declared.stop.Behind.TheVariants.{Nothing, Going, Off}}
use Rattle.pcm_library.specs.{Serving.Serving, declared.session.Answer.Answer, declared.session.Answer.TheVariants.{Done, Late, NoLine, TooMany, Ended, NoMemory, NoRow, NoBytes}}

-- the greatest number of a row
abbrev pub last_row : ℕ
last_row = 4294967294

-- why a module may not come to a tick: it was finished, or the tick is before the one that was reached, or too late; or else what else is in the way
abbrev pub refusal_at : (finished : Bool) (reached tick : ℕ) → Option Answer → Option Answer
refusal_at finished reached tick other =
    if finished then Some Ended
    else if nat_lt tick reached || nat_lt latest_tick tick then Some Late
    else other

-- why no row more may come behind so many
abbrev pub refusal_behind : ℕ → Option Answer
refusal_behind rows = if nat_le last_row rows then Some TooMany else None

-- why none of a line may come: of so many lines there is no such one; or else what else is in the way
abbrev pub refusal_of_line : (lines line : ℕ) → Option Answer → Option Answer
refusal_of_line lines line other = if nat_le lines line then Some NoLine else other

-- why none may come that gives these bytes: it gives none; or else what else is in the way
abbrev pub refusal_of_bytes : List Bool → Option Answer → Option Answer
refusal_of_bytes given other = if gives_some given then other else Some NoBytes

-- why nobody may wait for a row: of so many there is no such one; or else what else is in the way
abbrev pub refusal_to_wait : (rows row : ℕ) → Option Answer → Option Answer
refusal_to_wait rows row other = if row == 0 || nat_lt rows row then Some NoRow else other

-- the answer to a call that needs no memory: the refusal, if there is one
abbrev pub answer_by : Option Answer → Answer
answer_by None = Done
answer_by (Some refusal) = refusal

module _ {n m e : ℕ} {S : Type 0} (s : Serving n m e S) where
  -- why a session may not come to a tick, if so it is
  abbrev pub refusal_of_tick : ℕ → Option Answer
  refusal_of_tick tick = refusal_at s.module_.finished s.module_.tick tick None

  -- why no row may come at a tick, if so it is
  abbrev pub refusal_of_row : ℕ → Option Answer
  refusal_of_row tick = refusal_at s.module_.finished s.module_.tick tick (refusal_behind s.kept.rows)

  -- the answer to a row: the refusal, if there is one; memory for its outcome may be wanting only where outcomes wait that weren't taken
  abbrev pub Answers : Option Answer → Answer → Type 0
  Answers None answer = (answer ≡ Done) ⊎ ((answer ≡ NoMemory) × (s.kept.sink.waiting ≢ []))
  Answers (Some refusal) answer = answer ≡ refusal

  -- the answer to the end with the power off: where a cut is added it is a row more
  abbrev pub EndAnswers : (finished : Bool) → Behind → Answer → Type 0
  EndAnswers true behind answer = answer ≡ Ended
  EndAnswers false Nothing answer = answer ≡ Done
  EndAnswers false Off answer = answer ≡ Done
  EndAnswers false Going answer = Answers (refusal_behind s.kept.rows) answer

  abbrev pub StopAnswers : Answer → Type 0
  StopAnswers answer = EndAnswers s.module_.finished (behind_of s.asked) answer
