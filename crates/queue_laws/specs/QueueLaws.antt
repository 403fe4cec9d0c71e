-- The laws of a bank's queue and of its waiting reads, one by one and together.
use Rattle.std.specs.Prelude.{ℕ, not, ◌&&◌, ◌||◌, length, filter, IsTrue, List, []}
use Rattle.masked_bytes.specs.Masked.{gives_all}
use Rattle.row_rules.specs.{Answers.is_full, Queueing.{pending, waiting, cover, pairs_few, is_refused, is_at_head, read_fits, is_queue_fair}}
use Rattle.row_rules.specs.Rows.{RowTest, each_row, asks_read, asks_write, line_of, write_of}
use Rattle.bank_shape.specs.{declared.BankShape.BankShape, declared.pace.Pace.Pace}
use Rattle.bank_model.specs.{Lawful.Lawful, Timing.TimedEvent}
use Rattle.bank_laws.specs.{Laws.IsSized, Outcomes.table_of, Resting.IsStill}
use Rattle.right_runs.specs.Banks.{rules_of}

-- a test holds of each row of the table that a lawful history leaves at whose end the bank is still. The test may depend on how
-- many entries a line has, on the bank's shape and on its pace
abbrev pub HoldsOfRows : ((n e : ℕ) → BankShape → Pace → RowTest n) → Type 0
HoldsOfRows test =
    (n m e : ℕ) (shape : BankShape) (pace : Pace) (xs : List (TimedEvent n m)) → IsSized shape pace → Lawful shape pace e xs
    → IsStill shape xs → IsTrue (each_row (test n e shape pace) (table_of shape xs) [])

-- of the writes that a row finds in the queue at most two have one line, and then the older one is at the head
abbrev pub finds_pairs_few : {n : ℕ} → RowTest n
finds_pairs_few before r after = pairs_few (pending r.tick [] before) (pending r.tick [] before)

abbrev pub PairsFewLaw : Type 0
PairsFewLaw = HoldsOfRows (λ n e shape pace. finds_pairs_few)

-- a write that is refused as full finds no write of its line in the queue, or one that is at the head and came before
abbrev pub is_refusal_fair : {n : ℕ} → RowTest n
is_refusal_fair before r after =
    not (asks_write r.asks && is_full r.outcome)
    || is_refused r.tick (pending r.tick [] before) (filter (write_of (line_of r.asks)) (pending r.tick [] before))

abbrev pub RefusalLaw : Type 0
RefusalLaw = HoldsOfRows (λ n e shape pace. is_refusal_fair)

-- a read is forwarded where the queue gives all bytes of its line, and otherwise only where an entry of its line is at the head;
-- one that isn't is busy exactly where as many reads wait as may, and else it is read or lost
abbrev pub is_forward_fair : {n : ℕ} → ℕ → RowTest n
is_forward_fair reads before r after =
    not (asks_read r.asks)
    || read_fits reads (length (waiting r.tick [] before)) (gives_all (cover r.tick (line_of r.asks) before after))
    (is_at_head r.tick (line_of r.asks) (pending r.tick [] before) before after) r.outcome

abbrev pub ForwardLaw : Type 0
ForwardLaw = HoldsOfRows (λ n e shape pace. is_forward_fair shape.reads)

-- each row finds a bank that holds no more than it may, and its own answer is the one that follows
abbrev pub QueueFairLaw : Type 0
QueueFairLaw = HoldsOfRows (λ n e shape pace. is_queue_fair (rules_of e shape pace))
