-- The verdict on a text that has a trace and then its results.
use Rattle.std.specs.Prelude.{◌≡◌, ◌⊎◌, ℕ, List, map, take, drop, Result, Ok, Err}
use Rattle.trace_reader.specs.{Trace.trace_of, declared.event.Event.Event, declared.event.EventOp.EventOp, declared.fault.ParseFault.ParseFault}
use Rattle.trace_reader.specs.declared.fault.ParseFault.TheVariants as parsing
use Rattle.result_rows.specs.{declared.Op.Op, declared.Outcome.Outcome}
use Rattle.check_reader.specs.{ResultRows.{AreResults, IsFault}, Splitting.BeginResultsAt}
use Rattle.check_reader.specs.declared.fault.ResultFault.TheVariants as reading
use Rattle.run_text.specs.ResultText.{asked, named_line}
use Rattle.module_shape.specs.{Limits.total_of, declared.raw.RawShape.RawShape}
use Rattle.right_runs.specs.Banks.{rules_in, banks_of}
use Rattle.check_verdict.specs.{Verdicts.verdict_of, declared.Verdict.Verdict}
use Rattle.trace_rows.specs.Rows.{rows_with}
use Rattle.check_text.specs.declared.fault.TextFault.{TextFault}
use Rattle.check_text.specs.declared.fault.TextFault.TheVariants as fault

-- the operation and the line that a row of results has for an event
abbrev pub ask_of : {n : ℕ} → EventOp n → Op × ℕ
ask_of op = (asked op, named_line op)

-- the operation and the line that each row of results has for its event
abbrev pub asks_in : {n : ℕ} → List (Event n) → List (Op × ℕ)
asks_in events = map (λ event. ask_of event.op) events

-- the verdict on these events and outcomes, by the rules that the banks of a run keep
abbrev pub verdict_on : {n : ℕ} → ℕ → RawShape → ℕ → List (Event n) → List (Outcome n) → Verdict
verdict_on e raw seed events outcomes = verdict_of (rules_in e raw 0) (banks_of raw seed) (rows_with events outcomes)

-- why a trace that means this has no events
abbrev pub IsTraceFault : {n : ℕ} → Result (List (Event n)) ParseFault → TextFault → Type 0
IsTraceFault trace (fault.Trace f) = trace ≡ Err (parsing.Trace f)
IsTraceFault trace fault.TooMany = trace ≡ Err parsing.TooMany
IsTraceFault trace (fault.Results row) = ⊥
IsTraceFault trace fault.NoMemory = Unit {0}

-- why bytes are no results of these rows
abbrev pub IsResultsFault : ℕ → List (Op × ℕ) → List ℕ → TextFault → Type 0
IsResultsFault n asks bytes (fault.Trace f) = ⊥
IsResultsFault n asks bytes fault.TooMany = ⊥
IsResultsFault n asks bytes (fault.Results row) = IsFault n asks bytes (reading.Row row)
IsResultsFault n asks bytes fault.NoMemory = Unit {0}

-- over lines of n bytes, for a module of these sizes
module _ (n : ℕ) (raw : RawShape) (bytes : List ℕ) where
  -- the results begin here, and what stands before them is a trace with these events
  pub record HasTrace (at : ℕ) (events : List (Event n)) : Type 0 where
    pub begins : BeginResultsAt bytes at
    pub trace : trace_of n (total_of raw) (take at bytes) ≡ Ok events

  -- why there is no verdict: what stands before the results is no trace; or it is one, and the results are none of it
  abbrev pub IsTextFault : TextFault → Type 0
  IsTextFault one =
      ((at : ℕ) × BeginResultsAt bytes at × IsTraceFault (trace_of n (total_of raw) (take at bytes)) one)
      ⊎ ((at : ℕ) × (events : List (Event n)) × HasTrace at events × IsResultsFault n (asks_in events) (drop at bytes) one)

-- the text has a trace and results of it, and this is the verdict on them; lines have e error-correcting pointers
pub record HasVerdict (n e : ℕ) (raw : RawShape) (seed : ℕ) (bytes : List ℕ) (verdict : Verdict) : Type 0 where
  pub at : ℕ
  pub events : List (Event n)
  pub trace : HasTrace n raw bytes at events
  pub outcomes : List (Outcome n)
  pub results : AreResults (asks_in events) (drop at bytes) outcomes
  pub is : verdict ≡ verdict_on e raw seed events outcomes
