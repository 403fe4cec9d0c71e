-- The laws on the ticks of a bank's rows.
use Rattle.std.specs.{List.list_all, Prelude.{◌≡◌, ℕ, ◌+◌, ◌*◌, ◌<◌, ◌≤◌, not, ◌&&◌, ◌||◌, nat_le, nat_lt, Bool, false, if◌then◌else◌, IsTrue, IfSome, List, [], ◌∷◌, ◌++◌, length}}
use Rattle.row_rules.specs.{Rows.{RowTest, each_row, asks_read, asks_write}, Ticking.{no_cut_below, first_cut_at, apart, read_in_time, store_in_time, is_in_time}, declared.Row.Row}
use Rattle.row_rules.specs.declared.Rules.{Rules}
use Rattle.result_rows.specs.declared.Outcome.{Outcome}
use Rattle.result_rows.specs.declared.Outcome.TheVariants as out
use Rattle.bank_shape.specs.{Pausing.is_cancelling, declared.BankShape.BankShape, declared.pace.Pace.Pace}
use Rattle.bank_shape.specs.declared.answer.ReadAnswer.TheVariants as came
use Rattle.bank_model.specs.{Events.Read, History.waits, Lawful.Lawful, Running.{cancels_after, running_at}, Timing.{TimedEvent, Core, core, ends, last_tick}}
use Rattle.bank_laws.specs.{Laws.IsSized, Outcomes.{table_of, outcome_of, row_with}, Resting.IsStill}
use Rattle.right_runs.specs.Banks.{rules_of}

-- a row is read or stored apart from every row before it
abbrev pub is_apart : {n : ℕ} → ℕ → RowTest n
is_apart read before r after = list_all (λ q. apart read r.outcome q.outcome) before

-- a bank does one action at a time, and reads in the order of the rows
abbrev pub ApartLaw : Type 0
ApartLaw =
    (n m e : ℕ) (shape : BankShape) (pace : Pace) (xs : List (TimedEvent n m)) → IsSized shape pace → Lawful shape pace e xs
    → IsTrue (each_row (is_apart pace.read) (table_of shape xs) [])

-- a read is read or lost in time
abbrev pub reads_in_time : {n : ℕ} → Rules → RowTest n
reads_in_time rules before r after = not (asks_read r.asks) || read_in_time rules r.tick r.outcome before after

abbrev pub ReadTimeLaw : Type 0
ReadTimeLaw =
    (n m e : ℕ) (shape : BankShape) (pace : Pace) (xs : List (TimedEvent n m)) → IsSized shape pace → Lawful shape pace e xs
    → IsStill shape xs → IsTrue (each_row (reads_in_time (rules_of e shape pace)) (table_of shape xs) [])

-- a write is stored in time
abbrev pub stores_in_time : {n : ℕ} → Rules → RowTest n
stores_in_time rules before r after = not (asks_write r.asks) || store_in_time rules r r.outcome before after

abbrev pub StoreTimeLaw : Type 0
StoreTimeLaw =
    (n m e : ℕ) (shape : BankShape) (pace : Pace) (xs : List (TimedEvent n m)) → IsSized shape pace → Lawful shape pace e xs
    → IsTrue (each_row (stores_in_time (rules_of e shape pace)) (table_of shape xs) [])

-- each row is read or stored in time, and apart from every row before it
abbrev pub InTimeLaw : Type 0
InTimeLaw =
    (n m e : ℕ) (shape : BankShape) (pace : Pace) (xs : List (TimedEvent n m)) → IsSized shape pace → Lawful shape pace e xs
    → IsStill shape xs → IsTrue (each_row (is_in_time (rules_of e shape pace)) (table_of shape xs) [])

-- how often the present line write was cancelled as a read came, its own cancel not counted
abbrev pub count_found : {n m : ℕ} → List (TimedEvent n m) → ℕ
count_found [] = 0
count_found (y ∷ ys) = if y.cancels then cancels_after ys else cancels_after (y ∷ ys)

-- the rows of these events, the oldest first, where `all` is the whole history
abbrev pub rows_behind : {n m : ℕ} → BankShape → List (TimedEvent n m) → List (TimedEvent n m) → List (Row n)
rows_behind shape all [] = []
rows_behind shape all (x ∷ later) = rows_behind shape all later ++ row_with shape all x.happens x.tick x.cancels

-- a read that came at tick a, behind which stand these rows, was read by a tick, or lost below it at the first cut
abbrev pub ends_by : {n : ℕ} → ℕ → ℕ → ℕ → Outcome n → List (Row n) → Bool
ends_by read a most (out.Read u place bytes) after = nat_le (a + read) u && (nat_le u most && no_cut_below u after)
ends_by read a most (out.Lost u) after = first_cut_at u after && nat_lt u most
ends_by read a most outcome after = false

-- at tick t it has ended so, or it waits still and has time left
abbrev pub ends_or_waits : {n : ℕ} → ℕ → ℕ → ℕ → ℕ → Outcome n → List (Row n) → Bool
ends_or_waits t read a most out.Unset after = nat_lt t most
ends_or_waits t read a most outcome after = ends_by read a most outcome after

-- a read begins to wait where the present line write may still be cancelled: it finds fewer than four cancels
pub record FindsFewCancels {n m : ℕ} (pace : Pace) (row : ℕ) (x : TimedEvent n m) (ys : List (TimedEvent n m)) : Type 0 where
  pub waits : (line : ℕ) × (x.happens ≡ Core (Read row line came.Waiting))
  pub cancelling : IsTrue (is_cancelling pace.policy)
  pub few : count_found ys < 4

-- the tick by which the reads before it and its own are read
abbrev pub by_reads : {n m : ℕ} → BankShape → Pace → TimedEvent n m → List (TimedEvent n m) → ℕ
by_reads shape pace x ys = x.tick + (length (waits shape (core ys)) + 1) * pace.read

-- each read of a history that finds few cancels passes a test of its arrival, of the tick by which it could be read, of its outcome and of
-- the rows behind it
abbrev pub HoldsOfFewCancels : {n m : ℕ} → (ℕ → ℕ → Outcome n → List (Row n) → Bool) → BankShape → Pace → List (TimedEvent n m) → Type 0
HoldsOfFewCancels {n} {m} test shape pace xs =
    (row : ℕ) (later ys : List (TimedEvent n m)) (x : TimedEvent n m) → xs ≡ later ++ x ∷ ys → FindsFewCancels pace row x ys
    → IsTrue (test x.tick (by_reads shape pace x ys) (outcome_of shape xs row) (rows_behind shape xs later))

-- each read that finds few cancels waited for reads alone
abbrev pub WaitsForReads : {n m : ℕ} → BankShape → Pace → List (TimedEvent n m) → Type 0
WaitsForReads shape pace xs = HoldsOfFewCancels (ends_by pace.read) shape pace xs

-- each did until a tick, or waits still and has time left
abbrev pub WaitsForReadsUntil : {n m : ℕ} → ℕ → BankShape → Pace → List (TimedEvent n m) → Type 0
WaitsForReadsUntil t shape pace xs = HoldsOfFewCancels (ends_or_waits t pace.read) shape pace xs

-- a clock may stand at this tick behind a history: it isn't before the last event, and the action that runs has still to end
pub record IsNow {n m : ℕ} (shape : BankShape) (pace : Pace) (xs : List (TimedEvent n m)) (t : ℕ) : Type 0 where
  pub now : last_tick xs ≤ t
  pub to_come : IfSome (running_at shape pace xs t) (λ action. t < ends pace action)

-- a read that begins to wait where the present line write may still be cancelled waits for reads alone
abbrev pub FewCancelsLaw : Type 0
FewCancelsLaw =
    (n m e : ℕ) (shape : BankShape) (pace : Pace) (xs : List (TimedEvent n m)) → IsSized shape pace → Lawful shape pace e xs
    → IsStill shape xs → WaitsForReads shape pace xs

-- so it is at any tick, whatever the bank has still to do
abbrev pub FewCancelsNowLaw : Type 0
FewCancelsNowLaw =
    (n m e t : ℕ) (shape : BankShape) (pace : Pace) (xs : List (TimedEvent n m)) → IsSized shape pace → Lawful shape pace e xs
    → IsNow shape pace xs t → WaitsForReadsUntil t shape pace xs
