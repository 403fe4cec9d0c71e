-- The times of a row, by what is kept of its bank.
use Rattle.std.specs.Prelude.{◌≡◌, ℕ, ◌+◌, ◌<◌, ◌^◌, ◌&&◌, true, IsTrue, List, [], ◌∷◌, ◌++◌, Option, Some, None}
use Rattle.row_rules.specs.{Rows.{asks_read, asks_write}, Ticking.{bound, longest, stores_in, reads_in, cuts_to, is_in_time}, declared.Row.Row, declared.Rules.Rules}
use Rattle.check_judging.specs.{Cutting.cut_ticks, Keys.is_short, Rising.rising, Standing.is_own}
use Rattle.check_verdict.specs.{Keeping.{read_timely, write_timely}, Kept.{KeptBank, apart_kept}, declared.members.Member.Member}
use Rattle.result_rows.specs.declared.Outcome.TheVariants as out

-- the first of some ticks
abbrev pub first_of_ticks : List ℕ → Option ℕ
first_of_ticks [] = None
first_of_ticks (c ∷ ticks) = Some c

-- the latest tick at which a write may be stored, were it stored at tick u
abbrev pub latest_store : {n : ℕ} → Rules → ℕ → Row n → List (Row n) → List (Row n) → ℕ
latest_store rules u r before after =
    r.tick + longest rules (stores_in r.tick u (before ++ r ∷ after)) (reads_in r.tick u (before ++ r ∷ after)) (cuts_to u after)

-- what a row is judged by: what is kept of its bank as it comes, and what is known of the rows behind it
pub record FindsTimes {n : ℕ} (rules : Rules) (before : List (Row n)) (r : Row n) (after : List (Row n)) (members : List Member) (waits : List ℕ) (lost : ℕ) (last_answer last_store : Option ℕ) : Type 0 where
  pub kept : KeptBank r.tick before members waits lost last_answer last_store
  pub later : IsTrue (rising r.tick after)
  pub short : IsTrue (is_short r.outcome)
  pub some : 0 < rules.read_ticks
  pub small : rules.read_ticks < 2 ^ 32

-- a read's rule on times
abbrev pub ReadTimesLaw : Type 0
ReadTimesLaw =
    (n : ℕ) (rules : Rules) (before : List (Row n)) (r : Row n) (after : List (Row n)) (members : List Member) (waits : List ℕ) (lost : ℕ) (last_answer last_store : Option ℕ)
    → FindsTimes rules before r after members waits lost last_answer last_store
    → IsTrue (is_own r) → asks_read r.asks ≡ true
    → is_in_time rules before r after
    ≡ (read_timely r.tick rules.read_ticks (bound rules r.tick before after) (first_of_ticks (cut_ticks after)) r.outcome && apart_kept rules.read_ticks members waits last_answer last_store r.outcome)

-- a write's, where this is the latest tick for the one at which it is stored
abbrev pub WriteTimesLaw : Type 0
WriteTimesLaw =
    (n : ℕ) (rules : Rules) (before : List (Row n)) (r : Row n) (after : List (Row n)) (members : List Member) (waits : List ℕ) (lost : ℕ) (last_answer last_store : Option ℕ) (latest : ℕ)
    → FindsTimes rules before r after members waits lost last_answer last_store
    → IsTrue (is_own r) → asks_write r.asks ≡ true
    → ((u place : ℕ) → r.outcome ≡ out.Stored u place → latest ≡ latest_store rules u r before after)
    → is_in_time rules before r after ≡ (write_timely r.tick latest r.outcome && apart_kept rules.read_ticks members waits last_answer last_store r.outcome)
