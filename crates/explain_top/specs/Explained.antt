-- What is told of a trace and its results.
use Rattle.std.specs.Prelude.{◌≡◌, ℕ, ◌-◌, Bool, if◌then◌else◌, List, Option, Some, None, slice_get}
use Rattle.trace_reader.specs.{declared.event.Event.Event, declared.event.EventOp.EventOp, declared.event.EventOp.TheVariants.{Read, Write, Mask, Cut}}
use Rattle.trace_rows.specs.Rows.{rows_with}
use Rattle.result_rows.specs.{Table.outcome_at, declared.Outcome.Outcome}
use Rattle.module_shape.specs.declared.raw.RawShape.{RawShape}
use Rattle.right_runs.specs.Banks.{banks_of, rules_in}
use Rattle.row_rules.specs.{declared.Row.Row, declared.Rules.Rules}
use Rattle.check_verdict.specs.{Verdicts.verdict_of, declared.Rule.Rule, declared.Rule.TheVariants.Worn, declared.Verdict.Verdict, declared.Verdict.TheVariants.{Yes, No}}
use Rattle.check_text.specs.{Checked.HasVerdict, VerdictText.verdict_text}
use Rattle.verdict_telling.specs.{Earned.unearned, Explained.TellsOf, declared.row.Explanation.Explanation}
use Rattle.verdict_text.specs.Explained.{explained_on, unearned_on}

-- the bank of the line that is asked for, these being the banks of all lines; a cut asks for none
abbrev pub bank_asked : {n : ℕ} → List ℕ → EventOp n → Option ℕ
bank_asked banks (Read line) = slice_get banks line
bank_asked banks (Write line bytes) = slice_get banks line
bank_asked banks (Mask line bytes given) = slice_get banks line
bank_asked banks Cut = None

-- the lowest row that isn't earned, where that is asked
abbrev pub found_in : {n : ℕ} → Bool → List ℕ → List (Row n) → Option ℕ
found_in strict banks rows = if strict then unearned banks rows else None

-- it breaks the rule on worn rows
abbrev pub by_row : Option ℕ → Verdict
by_row None = Yes
by_row (Some row) = No row Worn

-- the verdict that is told: check's, but where that is ok each worn row must be earned, if that is asked
abbrev pub judged : {n : ℕ} → Bool → List ℕ → List (Row n) → Verdict → Verdict
judged strict banks rows Yes = by_row (found_in strict banks rows)
judged strict banks rows (No row rule) = No row rule

module _ {n : ℕ} (banks : List ℕ) (events : List (Event n)) (outcomes : List (Outcome n)) where
  -- the line of a verdict that names a row which is worn though its bank has accepted no write before it, and what is told of it
  pub record SaysUnearned (row : ℕ) (rule : Rule) (text : List ℕ) : Type 0 where
    pub event : Event n
    pub asked : slice_get events (row - 1) ≡ Some event
    pub outcome : Outcome n
    pub answered : outcome_at outcomes row ≡ Some outcome
    pub is : text ≡ unearned_on (verdict_text (No row rule)) (bank_asked banks event.op) event outcome

  -- the text of a verdict on rows that keep all rules: its line alone where it is ok
  abbrev pub SaysKept : Verdict → List ℕ → Type 0
  SaysKept Yes text = text ≡ verdict_text Yes
  SaysKept (No row rule) text = SaysUnearned row rule text

module _ {n : ℕ} (rules : Rules) (banks : List ℕ) (events : List (Event n)) (outcomes : List (Outcome n)) where
  -- the line of a verdict that names a row, and behind it what is told of that very row, with its own event, outcome and bank
  pub record SaysRow (row : ℕ) (rule : Rule) (text : List ℕ) : Type 0 where
    pub event : Event n
    pub asked : slice_get events (row - 1) ≡ Some event
    pub outcome : Outcome n
    pub answered : outcome_at outcomes row ≡ Some outcome
    pub told : Explanation n
    pub tells : TellsOf rules banks (rows_with events outcomes) row rule told
    pub is : text ≡ explained_on (verdict_text (No row rule)) rules events outcomes (bank_asked banks event.op) event outcome told

  -- the text of a verdict, by what check tells: its line alone where both are ok
  abbrev pub SaysVerdict : Verdict → Verdict → List ℕ → Type 0
  SaysVerdict Yes verdict text = SaysKept banks events outcomes verdict text
  SaysVerdict (No row rule) verdict text = SaysRow row rule text

  -- the verdict on events and outcomes, and its text
  pub record IsExplained (strict : Bool) (verdict : Verdict) (text : List ℕ) : Type 0 where
    pub checked : Verdict
    pub is : checked ≡ verdict_of rules banks (rows_with events outcomes)
    pub judged_is : verdict ≡ judged strict banks (rows_with events outcomes) checked
    pub says : SaysVerdict checked verdict text

-- over lines of n bytes with e error-correcting pointers, for a module of these sizes whose randomiser has this seed: the bytes have a verdict
-- that a check tells of them, from which this one comes, and this is its text, by the rules and the banks of the module
pub record HasExplanation (n e : ℕ) (raw : RawShape) (seed : ℕ) (strict : Bool) (bytes : List ℕ) (verdict : Verdict) (text : List ℕ) : Type 0 where
  pub checked : Verdict
  pub has : HasVerdict n e raw seed bytes checked
  pub judged_is : verdict ≡ judged strict (banks_of raw seed) (rows_with has.events has.outcomes) checked
  pub says : SaysVerdict (rules_in e raw 0) (banks_of raw seed) has.events has.outcomes checked verdict text
