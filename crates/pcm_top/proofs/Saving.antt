-- The image of a run that was made.
use Rattle.std.proofs.Common.{◌≡◌, ℕ, ◌^◌, ◌<◌, List, Option, Some, None, refl, sym, ap, subst, reverse, arith}
use Rattle.std.specs.Prelude.{IsSomeAnd, OnOk, OnErr, Result, Ok, Err, slice_get, unwrap_or}
use Rattle.pcm_top.specs.{Images.senses_for, Played.IsPlayed, Rows.rows_of, RunText.IsRunText}
use Rattle.pcm_module.{specs.Asking.asked_for, specs.State.{AreEndsOf, ModuleState, bank_at, first_bank}, proofs.Tables.rows-forwards}
use Rattle.cell_rows.specs.Device.{ArrayState}
use Rattle.trace_reader.specs.declared.event.Event.{Event}
use Rattle.result_rows.specs.declared.Outcome.{Outcome}
use Rattle.row_rules.specs.declared.Row.{Row}
use Rattle.bank_shape.specs.declared.BankShape.{BankShape}
use Rattle.module_shape.specs.{Limits.{IsShape, IsSmall}, declared.raw.RawShape.RawShape}
use Rattle.bank_timing.specs.Extending.{outcome_in}
use Rattle.end_laws.specs.EndLaws.{IsEndOf}
use Rattle.right_runs.specs.{Ends.BankEnd, Runs.RunsRight}
use Rattle.pcm_image.specs.{Saved.Saved, Spelling.image_bytes}
use Rattle.right_images.specs.{SavesRun.AreRowsTo, Saving.saved_of, SensedSince.SensedSince}
use Rattle.image_laws.specs.SavedRuns.{IsLeft, SavedLaw, StaysRightLaw}
use Rattle.command_line.specs.{declared.job.Print.Print, declared.job.Print.TheVariants.Image}
use Rattle.image_text.{specs.Sensing.SensesRows, proofs.Sensing.senses-none}
use Rattle.module_prints.specs.{Images.{HasImage, kept_in}, WearReports.HaveRoles}

-- of an array nothing was sensed for a text that needs no sense
pub senses-nothing : {n m : ℕ} {T E : Type 0} (r : Result T E) (print : Print) (array : ArrayState n m) → ((lines : ℕ) → senses_for print lines ≡ 0) → OnOk r (SensesRows (senses_for print array.lines) array array)
senses-nothing r print array none = ok-any r _ (subst (λ count. SensesRows count array array) (sym (none array.lines)) (senses-none array))
  where
    ok-any : {T E : Type 0} (r : Result T E) (P : Type 0) → P → OnOk r P
    ok-any (Ok x) P h = h
    ok-any (Err e) P h = tt

-- and of a text that isn't an image nothing is said of rows
pub no-image : {T E : Type 0} (r : Result T E) (print : Print) (P : Type 0) → (print ≡ Image → ⊥) → OnErr r (print ≡ Image → P)
no-image (Ok x) print P other = tt
no-image (Err e) print P other = λ is. absurd (other is)

-- a value that is there
there : {X : Type 0} (P : X → Type 0) (o : Option X) (d : X) → IsSomeAnd o P → P (unwrap_or o d)
there P (Some x) d h = h
there P None d h = absurd h

-- a run that was made leaves a module with an image, where its sizes are those of one on which a whole trace is replayed
pub has-image : {n m e : ℕ} (pcm : ModuleState n m e) (events : List (Event n)) (outcomes : List (Outcome n)) (array : ArrayState n m) → IsSmall pcm.shape → IsPlayed pcm events outcomes array → HasImage pcm
has-image pcm events outcomes array small played = record {
  small = small;
  few_lines = λ bank low. omega (arith, ap (λ (s : BankShape). s.lines) (played.finished.shapes bank low), small.few_lines);
}

-- these ends are of the banks of what is left
abbrev pub AreOfLeft : {n m : ℕ} (e : ℕ) (raw : RawShape) (seed : ℕ) (rows : List (Row n)) (array : ArrayState n m) (saved : Saved n m) → IsLeft e raw seed rows array saved
    → (ℕ → BankEnd) → Type 0
AreOfLeft e raw seed rows array saved left ends = (bank : ℕ) → bank < raw.banks → IsEndOf (left.banks bank).bank.kept (ends bank)

-- what is left of a run by these ends, some of whose array's lines were sensed for its text, each of them a row
abbrev pub LeavesWith : {n m : ℕ} → ℕ → RawShape → ℕ → List (Row n) → ArrayState n m → (ℕ → BankEnd) → (Saved n m → ℕ → Type 0) → Type 0
LeavesWith {n} {m} e raw seed rows array ends Of =
    (saved : Saved n m) × (left : IsLeft e raw seed rows array saved) × AreOfLeft e raw seed rows array saved left ends × AreRowsTo left.sensed array × Of saved left.sensed

-- the ends of a module's banks
own-ends : {n m e : ℕ} (pcm : ModuleState n m e) (ends : ℕ → BankEnd) → AreEndsOf pcm ends → (bank : ℕ) → bank < pcm.shape.banks → IsEndOf (bank_at pcm bank).bank.kept (ends bank)
own-ends pcm ends are bank lt = there (λ clock. IsEndOf clock.bank.kept (ends bank)) (slice_get pcm.banks bank) (first_bank pcm.shape bank) (are bank lt)

module _ {n m e : ℕ} (pcm : ModuleState n m e) (before array : ArrayState n m) (events : List (Event n)) (outcomes : List (Outcome n))
    (played : IsPlayed pcm events outcomes before) (count : ℕ) (since : SensedSince count before array) where
  pub left-of : IsLeft e pcm.shape pcm.seed (rows_of events outcomes) array (saved_of pcm.shape pcm.seed (kept_in pcm) before)
  left-of = record {
    history = played.history;
    trace = asked_for (reverse events);
    outcome = outcome_in outcomes;
    banks = bank_at pcm;
    before = before;
    finished = played.finished;
    rows_are = sym (rows-forwards events outcomes played.one_each);
    saved = refl;
    sensed = count;
    since = since;
  }

  -- and which of its lines were sensed for it
  pub leaves-with : (ends : ℕ → BankEnd) → AreEndsOf pcm ends → (Of : Saved n m → ℕ → Type 0) → AreRowsTo count array → Of (saved_of pcm.shape pcm.seed (kept_in pcm) before) count
      → LeavesWith e pcm.shape pcm.seed (rows_of events outcomes) array ends Of
  unfolding left-of
  leaves-with ends are Of rows is = (saved_of pcm.shape pcm.seed (kept_in pcm) before, left-of, own-ends pcm ends are, rows, is)

  -- what was right of the array before is right of it now
  pub right-now : StaysRightLaw → IsShape pcm.shape → (ends : ℕ → BankEnd)
      → RunsRight e pcm.shape pcm.seed (rows_of events outcomes) before ends → RunsRight e pcm.shape pcm.seed (rows_of events outcomes) array ends
  unfolding left-of
  right-now law is ends had =
      law n m e pcm.shape pcm.seed (rows_of events outcomes) array ends (saved_of pcm.shape pcm.seed (kept_in pcm) before) left-of is had

-- so the text of a run that prints its image is written
pub image-text : {n m e : ℕ} → SavedLaw → (pcm : ModuleState n m e) (seed : ℕ) (before array : ArrayState n m) (events : List (Event n)) (outcomes : List (Outcome n)) (print : Print) (P : List ℕ → Type 0)
    → print ≡ Image → seed ≡ pcm.seed → seed < 2 ^ 64 → IsShape pcm.shape → IsSmall pcm.shape → IsPlayed pcm events outcomes before → (count : ℕ) → SensedSince count before array
    → P (image_bytes (saved_of pcm.shape seed (kept_in pcm) before))
    → (ends : ℕ → BankEnd) → AreEndsOf pcm ends → RunsRight e pcm.shape pcm.seed (rows_of events outcomes) array ends → HaveRoles pcm.shape pcm.seed ends
    → (whole : List ℕ) × IsRunText pcm.shape pcm.seed e events outcomes ends array print whole × P whole
unfolding left-of
image-text {n} {m} {e} law pcm seed before array events outcomes print P is same low shape small played count since writes ends are right roles =
    let s = saved_of pcm.shape pcm.seed (kept_in pcm) before in
    let left = left-of pcm before array events outcomes played count since in
    let Low : ℕ → Type 0 = λ k. k < 2 ^ 64 in
    let Of : Print → Type 0 = λ p. IsRunText pcm.shape pcm.seed e events outcomes ends array p (image_bytes s) in
    let Writes : ℕ → Type 0 = λ k. P (image_bytes (saved_of pcm.shape k (kept_in pcm) before)) in
    let saves = law n m e pcm.shape pcm.seed (rows_of events outcomes) array ends s left shape (subst Low same low) right
    (own-ends pcm ends are) in
    (image_bytes s, subst Of (sym is) ((s, left, saves, small, refl)), subst Writes same writes)
