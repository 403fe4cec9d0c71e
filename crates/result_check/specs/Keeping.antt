-- What is kept of the rows that have passed, and what a row that comes leaves.
use Rattle.std.specs.Prelude.{◌≡◌, ◌<◌, ◌≤◌, ◌+◌, max, ℕ, Bool, true, false, IsTrue, List, [], ◌∷◌, Option, Some, None, All, length, slice_get, unwrap_or}
use Rattle.result_rows.specs.declared.Outcome.{Outcome}
use Rattle.row_rules.specs.{Rows.asks_cut, declared.Row.Row, declared.Rules.Rules}
use Rattle.check_judging.specs.{Cutting.cut_ticks, Keys.{reach, is_short}, Rising.rising, Runs.GivesSized}
use Rattle.check_verdict.specs.{Covering.KeptLine, Fitting.is_brief, Judged.beside, Passing.Passed, RowVerdicts.AreUsable, States.{Facts, no_facts}, VerdictLaws.HasKeys}
use Rattle.check_verdict.specs.{Verdicts.{all_rules, broken_by, all_have_room}, Within.AreWithin, declared.Rule.Rule, declared.known.Coming.Coming, declared.known.Keys.Keys}
use Rattle.check_verdict.specs.declared.lines.CheckedLine.{CheckedLine}
use Rattle.result_check.specs.Coming.{coming_at}

-- what is kept of a bank, these being the banks that are kept
abbrev pub facts_in : List Facts → ℕ → Facts
facts_in kept bank = unwrap_or (slice_get kept bank) no_facts

-- how many banks there are: each is below this number or one of these
abbrev pub banks_from : ℕ → List ℕ → ℕ
banks_from number [] = number
banks_from number (bank ∷ banks) = banks_from (max number (bank + 1)) banks

-- this is known of all banks by a tick, the last row having this line, if it has one
pub record Knows {n : ℕ} (rules : Rules) (banks : List ℕ) (tick : ℕ)
    (kept : List Facts) (joined : Option ℕ) (before : List (Row n)) : Type 0 where
  pub at : ℕ → ℕ
  pub passed : Passed rules banks tick at (facts_in kept) joined before

-- this is known of all lines
abbrev pub KnowsLines : {n : ℕ} → List ℕ → ℕ → List (CheckedLine n) → List (Row n) → Type 0
KnowsLines {n} banks tick lines before =
    (l : ℕ) (line : CheckedLine n) → slice_get lines l ≡ Some line
    → KeptLine n tick l (beside banks l before) line.newest line.unclosed line.runs.items

-- a row of a line may be judged: all is within its limits, and its bank and its line are kept
pub record MayTake {n : ℕ} (rules : Rules) (banks : List ℕ) (keys : Keys) (tick line : ℕ) (outcome : Outcome n) (kept : List Facts) (lines : List (CheckedLine n)) : Type 0 where
  pub within : AreWithin rules
  pub usable : AreUsable keys
  pub listed : line < length banks
  pub exist : All (λ bank. bank < length kept) banks
  pub size : length lines ≡ length banks
  pub short : IsTrue (is_short outcome)
  pub arrived : tick < reach

-- a row comes between these rows of a table that has these keys; this is what the rows behind it bring, and these are the cuts among them
pub record ComesAmong {n : ℕ} (banks : List ℕ) (keys : Keys) (before : List (Row n)) (r : Row n) (after : List (Row n)) (coming : Coming) (cuts : List ℕ) : Type 0 where
  pub has : HasKeys banks before r after keys
  pub later : IsTrue (rising r.tick after)
  pub brief : IsTrue (is_brief r.outcome)
  pub sized : All (λ q. GivesSized q) (r ∷ before)
  pub reached : r.tick < reach
  pub few : length before ≤ 400000
  pub brings : coming ≡ coming_at banks r.asks after
  pub cuts_are : asks_cut r.asks ≡ false → cuts ≡ cut_ticks after

-- such a row comes; this is known of the rows before it at its tick, and whether each bank has room
pub record IsNext {n : ℕ} (rules : Rules) (banks : List ℕ) (keys : Keys) (before : List (Row n)) (r : Row n) (after : List (Row n))
    (kept : List Facts) (joined : Option ℕ) (lines : List (CheckedLine n)) (room : Bool) (coming : Coming) (cuts : List ℕ) : Type 0 where
  pub among : ComesAmong banks keys before r after coming cuts
  pub knows : Knows rules banks r.tick kept joined before
  pub seen : room ≡ true → Knows rules banks r.tick kept None before
  pub all : all_have_room banks rules before r after ≡ room
  pub lines_known : KnowsLines banks r.tick lines before

-- such a row comes; this was known behind the last row before it
pub record Meets {n : ℕ} (rules : Rules) (banks : List ℕ) (keys : Keys) (before : List (Row n)) (r : Row n) (after : List (Row n))
    (kept : List Facts) (joined : Option ℕ) (lines : List (CheckedLine n)) (coming : Coming) (cuts : List ℕ) : Type 0 where
  pub among : ComesAmong banks keys before r after coming cuts
  pub from : ℕ
  pub passed_by : from ≤ r.tick
  pub knows : Knows rules banks from kept joined before
  pub lines_known : KnowsLines banks from lines before

-- the rule that the row breaks first, and what is known behind it where it breaks none
pub record HasPassed {n : ℕ} (rules : Rules) (banks : List ℕ) (before : List (Row n)) (r : Row n) (after : List (Row n))
    (broken : Option Rule) (kept : List Facts) (joined : Option ℕ) (lines : List (CheckedLine n)) : Type 0 where
  pub told : broken ≡ broken_by rules banks all_rules before r after
  pub knows : broken ≡ None → Knows rules banks r.tick kept joined (r ∷ before)
  pub lines_known : broken ≡ None → KnowsLines banks r.tick lines (r ∷ before)
