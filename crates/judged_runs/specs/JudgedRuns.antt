-- What the results that a run of a trace printed are read and judged as.
use Rattle.std.specs.Prelude.{◌≡◌, ℕ, ◌+◌, ◌*◌, ◌≤◌, List, ◌++◌, length, reverse, Ok}
use Rattle.cell_rows.specs.Device.{ArrayState}
use Rattle.trace_reader.specs.{Trace.trace_of, declared.event.Event.Event}
use Rattle.result_rows.specs.declared.Outcome.{Outcome}
use Rattle.check_reader.specs.ResultRows.{EachMayStand}
use Rattle.run_text.specs.ResultText.{results_text}
use Rattle.module_shape.specs.{Limits.{IsShape, IsSmall, total_of}, declared.raw.RawShape.RawShape}
use Rattle.right_runs.specs.{Ends.BankEnd, Runs.RunsRight}
use Rattle.check_verdict.specs.{declared.Verdict.Verdict, declared.Verdict.TheVariants.Yes}
use Rattle.trace_rows.specs.Rows.{rows_with}
use Rattle.check_text.specs.{Checked.{HasVerdict, IsTextFault, asks_in}, SplitLaw.EndsItsLine, declared.fault.TextFault.TextFault}
use Rattle.check_text.specs.declared.fault.TextFault.TheVariants as fault

-- these are the events of a trace and the outcomes of a right run of it, over lines with e error-correcting pointers
pub record IsRunOf {n m : ℕ} (e : ℕ) (raw : RawShape) (seed : ℕ) (trace : List ℕ) (events : List (Event n)) (outcomes : List (Outcome n))
    (array : ArrayState n m) (ends : ℕ → BankEnd) : Type 0 where
  pub shape : IsShape raw
  pub small : IsSmall raw
  pub few : e ≤ 8
  pub reads : trace_of n (total_of raw) trace ≡ Ok events
  pub one_each : length outcomes ≡ length events
  pub right : RunsRight e raw seed (reverse (rows_with events outcomes)) array ends

-- they may stand in results: each is of its row's operation, with a tick of at most 15 digits, the number of an array line, and bytes
abbrev pub MayStandLaw : Type 0
MayStandLaw =
    (n m e : ℕ) (raw : RawShape) (seed : ℕ) (trace : List ℕ) (events : List (Event n)) (outcomes : List (Outcome n)) (array : ArrayState n m) (ends : ℕ → BankEnd)
    → IsRunOf e raw seed trace events outcomes array ends → EachMayStand (asks_in events) outcomes

-- the results that are printed of them take at most 36 bytes for their header, and for each row 64 bytes and two for each byte of a line
abbrev pub ShortLaw : Type 0
ShortLaw =
    (n m e : ℕ) (raw : RawShape) (seed : ℕ) (trace : List ℕ) (events : List (Event n)) (outcomes : List (Outcome n)) (array : ArrayState n m) (ends : ℕ → BankEnd)
    → IsRunOf e raw seed trace events outcomes array ends → length (results_text events outcomes) ≤ 36 + length events * (64 + 2 * n)

-- a text is judged ok: it has the verdict Yes and no other, and it has no fault, but that memory may run out
pub record IsJudgedOk (n e : ℕ) (raw : RawShape) (seed : ℕ) (bytes : List ℕ) : Type 0 where
  pub has : HasVerdict n e raw seed bytes Yes
  pub only : (verdict : Verdict) → HasVerdict n e raw seed bytes verdict → verdict ≡ Yes
  pub faultless : (one : TextFault) → IsTextFault n raw bytes one → one ≡ fault.NoMemory

-- so is the trace, where its last line is ended, with these results behind it
abbrev pub JudgedRunsLaw : Type 0
JudgedRunsLaw =
    (n m e : ℕ) (raw : RawShape) (seed : ℕ) (trace : List ℕ) (events : List (Event n)) (outcomes : List (Outcome n)) (array : ArrayState n m) (ends : ℕ → BankEnd)
    → 1 ≤ n → IsRunOf e raw seed trace events outcomes array ends → EndsItsLine trace → IsJudgedOk n e raw seed (trace ++ results_text events outcomes)
