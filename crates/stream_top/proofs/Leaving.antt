-- What a stream leaves that was served to its end.
use Rattle.std.proofs.Common.{ℕ, ◌^◌, ◌<◌, Bool, true, false, List, ◌++◌, Option, Some, None, refl, sym}
use Rattle.std.specs.Prelude.{IsSomeAnd, slice_get, unwrap_or}
use Rattle.cell_rows.specs.Device.{ArrayState}
use Rattle.ecp_line.specs.ArrayLines.{is_worn_at}
use Rattle.bank_timing.specs.Extending.{outcome_in}
use Rattle.module_shape.specs.{Addresses.{module_of, bank_shape}, Limits.IsShape, declared.raw.RawShape.RawShape}
use Rattle.end_laws.specs.{EndLaws.IsEndOf, Roles.RoleLaw}
use Rattle.right_runs.specs.{Banks.line_named, Ends.BankEnd, Runs.RunsRightTo}
use Rattle.run_laws.proofs.Roles.{below_controls, is_bank_shape}
use Rattle.row_rules.specs.declared.Row.{Row}
use Rattle.image_laws.specs.SavedRuns.{IsLeftTo, SavedLaw, SavedToLaw, StaysRightLaw, StaysRightToLaw, StaysStoppedLaw, StoppedSavedLaw}
use Rattle.right_images.specs.{SavesRun.SavesRunTo, Saving.saved_of, SensedSince.SensedSince}
use Rattle.pcm_module.specs.{Asking.asked_for, State.{ModuleState, bank_at, first_bank}}
use Rattle.module_prints.specs.{Images.kept_in, WearReports.HaveRoles}
use Rattle.row_printer.specs.{Printing.table_of, declared.told.Told.Told}
use Rattle.trace_stream.specs.{Asked.events_in, declared.asked.Asked.Asked}
use Rattle.row_stream.{specs.Ending.{HasEnded, rows_of}, proofs.Tables.rows-are}
use Rattle.stream_top.specs.Leaving.{LeavesLaw}

-- the laws of what drained, and of what the power left
stays-by : StaysRightLaw → StaysStoppedLaw → (off : Bool) → StaysRightToLaw off
stays-by drained stopped false = drained
stays-by drained stopped true = stopped

saved-by : SavedLaw → StoppedSavedLaw → (off : Bool) → SavedToLaw off
saved-by drained stopped false = drained
saved-by drained stopped true = stopped

-- ---- roles

have-roles : RoleLaw → {n m : ℕ} (e : ℕ) (raw : RawShape) (seed : ℕ) (off : Bool) (rows : List (Row n)) (array : ArrayState n m) (ends : ℕ → BankEnd)
    → IsShape raw → RunsRightTo e raw seed off rows array ends → HaveRoles raw seed ends
have-roles law e raw seed off rows array ends is right = λ bank at exists.
    law (bank_shape (module_of raw) bank) (line_named raw seed bank) (ends bank) at (is_bank_shape raw bank is exists) (right.end bank exists).lines.apart
    (below_controls (bank_shape (module_of raw) bank) (is_worn_at e array) (ends bank).table (right.end bank exists).lines)

-- ---- what is saved

-- a value that is there
there : {X : Type 0} (P : X → Type 0) (o : Option X) (d : X) → IsSomeAnd o P → P (unwrap_or o d)
there P (Some x) d h = h
there P None d h = absurd h

module _ {n m e : ℕ} (raw : RawShape) (seed : ℕ) (off : Bool) (asked : List (Asked n)) (module_ : ModuleState n m e) (before array : ArrayState n m) (places : ℕ) (told : List (Told n)) (sensed : ℕ)
    (ended : HasEnded raw seed off asked module_ before places told) (since : SensedSince sensed before array) where
  abbrev rows : List (Row n)
  rows = rows_of (events_in asked) (table_of places told)

  left-of : IsLeftTo off e raw seed rows array (saved_of raw seed (kept_in module_) before)
  left-of = record {
    history = λ bank. ended.finished.0 bank ++ ended.history bank;
    trace = asked_for (events_in asked);
    outcome = outcome_in (table_of places told);
    banks = bank_at module_;
    before = before;
    finished = ended.finished.1;
    rows_are = sym (rows-are (events_in asked) (table_of places told) ended.size);
    saved = refl;
    sensed = sensed;
    since = since;
  }

  right-now : StaysRightToLaw off → IsShape raw → RunsRightTo e raw seed off rows array ended.ends
  unfolding left-of
  right-now law is = law n m e raw seed rows array ended.ends (saved_of raw seed (kept_in module_) before) left-of is ended.right

  saves-now : SavedToLaw off → IsShape raw → seed < 2 ^ 64 → RunsRightTo e raw seed off rows array ended.ends
      → SavesRunTo off e raw seed rows array ended.ends (saved_of raw seed (kept_in module_) before)
  unfolding left-of
  saves-now law is low right =
      law n m e raw seed rows array ended.ends (saved_of raw seed (kept_in module_) before) left-of is low right
      (λ bank lt.
      let exists : bank < module_.shape.banks = rw (ended.shape) lt in
      there (λ clock. IsEndOf clock.bank.kept (ended.ends bank)) (slice_get module_.banks bank) (first_bank module_.shape bank) (ended.are bank exists))

pub leaves-law : StaysRightLaw → StaysStoppedLaw → SavedLaw → StoppedSavedLaw → RoleLaw → LeavesLaw
leaves-law stays stays_stopped saved saved_stopped roles n m e raw seed off asked module_ before array places told sensed is low senses ended =
    let right = right-now raw seed off asked module_ before array places told sensed ended senses.since (stays-by stays stays_stopped off) is in (
      record {
        since = senses;
        right = right;
        left = left-of raw seed off asked module_ before array places told sensed ended senses.since;
        saves = saves-now raw seed off asked module_ before array places told sensed ended senses.since (saved-by saved saved_stopped off) is low right;
      },
      have-roles roles e raw seed off (rows_of (events_in asked) (table_of places told)) array ended.ends is right,
    )
