-- Which answer comes when.
use Rattle.std.specs.Prelude.{◌≡◌, ◌≢◌, ◌⊎◌, ℕ, ◌==◌, ◌&&◌, nat_le, nat_lt, Bool, if◌then◌else◌, List, [], ◌∷◌, length, Option, Some, None, option_map}
use Rattle.module_shape.specs.Limits.{total_of}
use Rattle.pcm_cells.specs.Seeded.{SeededArray}
use Rattle.pcm_library.specs.{Answers.{answer_by, refusal_of_bytes, refusal_of_line, refusal_of_row, refusal_of_tick, refusal_to_wait}, Serving.Serving}
use Rattle.pcm_library.specs.declared.session.Answer.{Answer}
use Rattle.pcm_library.specs.declared.session.Answer.TheVariants as answer
use Rattle.pcm_c.specs.{declared.held.Held.Held, declared.held.Held.TheVariants.{Narrow, Wide}, declared.status.Status.Status}
use Rattle.pcm_c.specs.declared.status.Status.TheVariants.{Done, Ended, Empty, Late, NoLine, NoBank, NoRow, Size, Mask, TooMany, Options, NoMemory, Closed, Open}

-- the number of a status in c/pcm.h
abbrev pub status_number : Status → ℕ
status_number Done = 0
status_number Ended = 1
status_number Empty = 2
status_number Late = 3
status_number NoLine = 4
status_number NoBank = 5
status_number NoRow = 6
status_number Size = 7
status_number Mask = 8
status_number TooMany = 9
status_number Options = 10
status_number NoMemory = 11
status_number Closed = 12
status_number Open = 13

-- the status that says what a session answered
abbrev pub status_of : Answer → Status
status_of answer.Done = Done
status_of answer.Late = Late
status_of answer.NoLine = NoLine
status_of answer.TooMany = TooMany
status_of answer.Ended = Ended
status_of answer.NoMemory = NoMemory
status_of answer.NoRow = NoRow
status_of answer.NoBytes = Mask

-- a session's refusal as C is told it
abbrev pub refused : Option Answer → Option Status
refused = option_map status_of

-- the status behind a look for an outcome among those that wait
abbrev pub first_status : {K : Type 0} → List K → Status
first_status [] = Empty
first_status (first ∷ more) = Done

module _ {n m e : ℕ} {S : Type 0} (s : Serving n m e S) where
  -- why a cut may not come, if so it is
  abbrev pub refusal_of_cut : (tick : ℕ) → Option Status
  refusal_of_cut tick = refused (refusal_of_row s tick)

  -- why a read may not come: there is no such line; or else what is in the way of every row
  abbrev pub refusal_of_read : (tick line : ℕ) → Option Status
  refusal_of_read tick line = refused (refusal_of_line (total_of s.module_.shape) line (refusal_of_row s tick))

  -- why a write of so many bytes may not come: there is no such line, or a line has more bytes or fewer; or else what is in the way of every row
  abbrev pub refusal_of_write : (tick line size : ℕ) → Option Status
  refusal_of_write tick line size =
      if nat_le (total_of s.module_.shape) line then Some NoLine
      else if size == n then refused (refusal_of_row s tick)
      else Some Size

  -- and one that gives these bytes alone: it gives none, too
  abbrev pub refusal_of_masked : (tick line size : ℕ) → List Bool → Option Status
  refusal_of_masked tick line size given =
      if nat_le (total_of s.module_.shape) line then Some NoLine
      else if size == n && length given == n then refused (refusal_of_bytes given (refusal_of_row s tick))
      else Some Size

  -- the number that a row is answered by: that of the refusal, if there is one; memory for its outcome may be wanting only where outcomes wait that weren't taken
  abbrev pub RowTold : Option Status → (number : ℕ) → Type 0
  RowTold None number = (number ≡ status_number Done) ⊎ ((number ≡ status_number NoMemory) × (s.kept.sink.waiting ≢ []))
  RowTold (Some refusal) number = number ≡ status_number refusal

  -- the answers to calls that need no memory
  abbrev pub settle_status : (tick : ℕ) → Status
  settle_status tick = status_of (answer_by (refusal_of_tick s tick))

  abbrev pub wait_status : (row limit : ℕ) → Status
  wait_status row limit = status_of (answer_by (refusal_to_wait s.kept.rows row (refusal_of_tick s limit)))

  abbrev pub finish_status : Status
  finish_status = if s.module_.finished then Ended else Done

  abbrev pub next_status : Status
  next_status = first_status s.kept.sink.waiting

  abbrev pub bank_status : (bank : ℕ) → Status
  bank_status bank = if nat_lt bank s.module_.shape.banks then Done else NoBank

  -- whether there is such a line, and whether so many bytes are as many as it has
  abbrev pub line_status : (line : ℕ) → Status
  line_status line = if nat_lt line (total_of s.module_.shape) then Done else NoLine

  abbrev pub newest_status : (line size : ℕ) → Status
  newest_status line size =
      if nat_lt line (total_of s.module_.shape)
      then (if size == n then Done else Size)
      else NoLine

-- a refusal, and an answer, by a module with lines of either size
abbrev pub Refusal : Type 0
Refusal = (n m e : ℕ) → Serving n m e (SeededArray n m) → Option Status

abbrev pub Answering : Type 0
Answering = (n m e : ℕ) → Serving n m e (SeededArray n m) → Status

-- a row is answered so by such a module
abbrev pub RowToldOf : Refusal → Held → ℕ → Type 0
RowToldOf refusal (Narrow held) number = RowTold held (refusal 64 8 6 held) number
RowToldOf refusal (Wide held) number = RowTold held (refusal 128 16 8 held) number

abbrev pub status_at : Answering → Held → Status
status_at answering (Narrow held) = answering 64 8 6 held
status_at answering (Wide held) = answering 128 16 8 held

-- and by the one behind a handle; where it is closed all calls are answered alike
abbrev pub RowToldAt : Refusal → Option Held → ℕ → Type 0
RowToldAt refusal (Some held) number = RowToldOf refusal held number
RowToldAt refusal None number = number ≡ status_number Closed

abbrev pub number_at : Answering → Option Held → ℕ
number_at answering (Some held) = status_number (status_at answering held)
number_at answering None = status_number Closed
