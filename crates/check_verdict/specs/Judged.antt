-- A row's verdict, by what is kept of its bank and known of the rows behind it.
use Rattle.std.specs.{List.list_any, Prelude.{◌≡◌, ℕ, ◌+◌, ◌&&◌, ◌||◌, not, Bool, true, IsTrue, if◌then◌else◌, List, ◌++◌, Option, Some, None, length}}
use Rattle.masked_bytes.specs.Masked.{gives_all}
use Rattle.result_rows.specs.declared.Outcome.{Outcome}
use Rattle.result_rows.specs.declared.Outcome.TheVariants as out
use Rattle.row_rules.specs.{Answers.is_worn, Queueing.{cover, read_fits, has_room}, Rows.newest, Serving.may_have, Table.of_bank, Ticking.bound, Wearing.worn_row}
use Rattle.row_rules.specs.{declared.Asks.Asks, declared.Asks.TheVariants.{Reads, Writes, Cuts}, declared.Row.Row, declared.Rules.Rules}
use Rattle.check_judging.specs.Cutting.{cut_ticks}
use Rattle.check_verdict.specs.{Fitting.{at_head_kept, write_fits}, Keeping.{stored_early, read_timely, write_timely}, Kept.apart_kept, QueueLaws.{Finds, KeysTell, next_accepted}}
use Rattle.check_verdict.specs.{Timely.{FindsTimes, first_of_ticks, latest_store}, Verdicts.{bank_in, all_have_room, all_rules, broken_by}, Worn.first_worn, declared.Rule.Rule}
use Rattle.check_verdict.specs.declared.members.Member.{Member}
use Rattle.check_verdict.specs.declared.Rule.TheVariants as rule

-- the first rule that is broken, by whether a row is served, each bank has room, and the row's answer, wear and times are as they must be
abbrev pub first_broken : Bool → Bool → Bool → Bool → Bool → Option Rule
first_broken served room fits wear timely =
    if served then (if room && fits then (if wear then (if timely then None else Some rule.Tick) else Some rule.Worn) else Some rule.Queue)
    else Some rule.Serves

module _ {n : ℕ} (banks : List ℕ) where
  -- the rows of a line's bank among these
  abbrev pub beside : ℕ → List (Row n) → List (Row n)
  beside line rows = of_bank (bank_in banks) (bank_in banks line) rows

-- a row, and one that is a write, a read or a cut
abbrev pub a_row : {n : ℕ} → ℕ → Asks n → Outcome n → Row n
a_row tick asks outcome = record { tick = tick; asks = asks; outcome = outcome }

abbrev pub a_write : {n : ℕ} → ℕ → ℕ → List ℕ → List Bool → Outcome n → Row n
a_write tick line bytes given outcome = a_row tick (Writes line bytes given) outcome

abbrev pub a_read : {n : ℕ} → ℕ → ℕ → Outcome n → Row n
a_read tick line outcome = a_row tick (Reads line) outcome

abbrev pub a_cut : {n : ℕ} → ℕ → Outcome n → Row n
a_cut tick outcome = a_row tick Cuts outcome

-- each bank has room as a row comes exactly where this is true
pub record RoomIs {n : ℕ} (rules : Rules) (banks : List ℕ) (line : ℕ) (before : List (Row n)) (r : Row n) (after : List (Row n)) (room : Bool) : Type 0 where
  pub all : all_have_room banks rules before r after ≡ room
  pub own : room ≡ true → IsTrue (has_room rules r.tick (beside banks line before))

-- the rule that a write breaks first, by what is kept of its bank and the rows behind it: it is served, fits the queue, keeps to worn rows and is in time
abbrev pub JudgeWriteLaw : Type 0
JudgeWriteLaw =
    (n tick line : ℕ) (bytes : List ℕ) (given : List Bool) (outcome : Outcome n) (rules : Rules) (banks some : List ℕ) (before after : List (Row n))
    (members : List Member) (waits : List ℕ) (lost : ℕ) (last_answer last_store : Option ℕ) (room : Bool) (latest : ℕ)
    → let r = a_write tick line bytes given outcome in
    let past = beside banks line before in
    let later = beside banks line after in
    Finds tick past members waits lost last_answer last_store
    → FindsTimes rules past r later members waits lost last_answer last_store
    → RoomIs rules banks line before r after room
    → ((u place : ℕ) → outcome ≡ out.Stored u place → latest ≡ latest_store rules u r past later)
    → broken_by rules banks all_rules before r after
    ≡ first_broken (may_have tick r.asks some outcome) room
    (write_fits rules.writes tick line members (next_accepted line later) outcome)
    (is_worn outcome || (not (list_any worn_row past) && stored_early (first_worn later) outcome))
    (write_timely tick latest outcome && apart_kept rules.read_ticks members waits last_answer last_store outcome)

-- the rule that a read breaks first: it is served, the queue and the reads that wait allow its answer, and it is in time
abbrev pub JudgeReadLaw : Type 0
JudgeReadLaw =
    (n tick line : ℕ) (outcome : Outcome n) (rules : Rules) (banks : List ℕ) (before after : List (Row n))
    (members : List Member) (waits keys : List ℕ) (lost : ℕ) (last_answer last_store : Option ℕ) (room : Bool)
    → let r = a_read tick line outcome in
    let past = beside banks line before in
    let later = beside banks line after in
    Finds tick past members waits lost last_answer last_store
    → FindsTimes rules past r later members waits lost last_answer last_store
    → RoomIs rules banks line before r after room
    → KeysTell keys line tick (past ++ later)
    → broken_by rules banks all_rules before r after
    ≡ first_broken (may_have tick r.asks (newest before line) outcome) room
    (read_fits rules.reads (length waits + lost) (gives_all (cover tick line past later)) (at_head_kept keys line tick members) outcome)
    true
    (read_timely tick rules.read_ticks (bound rules tick past later) (first_of_ticks (cut_ticks later)) outcome
    && apart_kept rules.read_ticks members waits last_answer last_store outcome)

-- the rule that a cut breaks first: it is served, and each bank has room
abbrev pub JudgeCutLaw : Type 0
JudgeCutLaw =
    (n tick : ℕ) (outcome : Outcome n) (rules : Rules) (banks some : List ℕ) (before after : List (Row n)) (room : Bool)
    → all_have_room banks rules before (a_cut tick outcome) after ≡ room
    → broken_by rules banks all_rules before (a_cut tick outcome) after ≡ first_broken (may_have tick Cuts some outcome) room true true true
