-- That the unused check cells of a line stay untouched.
use Rattle.std.proofs.Common.{◌≡◌, ◌≢◌, ℕ, ◌+◌, ◌<◌, false, inl, inr, sym, subst, ◌∙◌}
use Rattle.std.proofs.lemmas.Bool.{cases_eq}
use Rattle.cell_rows.specs.{Device.{ArrayState, LineState, IsCellKept, IsBlank}, Rows.cell, declared.row.Cells.Cells}
use Rattle.program_verify.specs.{Programming.{IsRound, IsTear, is_wrong}, declared.prog.Prog.Prog}
use Rattle.ecp_line.specs.Untouched.{IsUntouched, HasUntouched, AreUntouched}
use Rattle.line_writer.specs.Untouched.{LeavesUnused}

module _ {n m : ℕ} (e : ℕ) where
  -- a cell that is kept is as untouched as it was
  untouched-kept : (old new : LineState n m) (number : ℕ) → IsCellKept old new number → IsUntouched old number → IsUntouched new number
  untouched-kept old new number kept own = record {
    held = kept.value ∙ own.held;
    live = kept.stuck ∙ own.live;
    unmissed = kept.misses ∙ own.unmissed;
  }

  untouched-unmasked : (prog : Prog n m) (mask : Cells n m) (old new : LineState n m) → LeavesUnused e prog
      → ((number : ℕ) → cell mask number ≡ is_wrong prog number) → ((number : ℕ) → cell mask number ≡ false → IsCellKept old new number)
      → HasUntouched e old → HasUntouched e new
  untouched-unmasked prog mask old new leaves masked unmasked own number behind =
      untouched-kept old new number (unmasked number (masked number ∙ leaves number behind)) (own number behind)

  -- a round leaves them
  pub untouched-round : (line tick : ℕ) (before after : Prog n m) (old new : ArrayState n m)
      → IsRound line tick before after old new → LeavesUnused e before
      → HasUntouched e (old.line line) → HasUntouched e (new.line line)
  untouched-round line tick before after old new round leaves own =
      subst (λ (l : LineState n m). HasUntouched e l) (sym (round.sense.line line))
      (untouched-unmasked before round.mask (old.line line) (round.between.line line) leaves round.masked round.pulse.unmasked own)

  -- and so does a tear
  pub untouched-tear : (line : ℕ) (prog : Prog n m) (old new : ArrayState n m) → IsTear line prog old new → LeavesUnused e prog
      → HasUntouched e (old.line line) → HasUntouched e (new.line line)
  untouched-tear line prog old new torn leaves own =
      untouched-unmasked prog torn.mask (old.line line) (new.line line) leaves torn.masked torn.tear.unmasked own

  -- a blank line has them
  pub untouched-blank : (line : LineState n m) → IsBlank line → HasUntouched e line
  untouched-blank line blank number behind = record { held = blank.held number; live = blank.stuck number; unmissed = blank.misses number }

  -- Lines of arrays

  pub AreUntouched-same : (old new : ArrayState n m) (from lines : ℕ)
      → ((line : ℕ) → line < lines → new.line (from + line) ≡ old.line (from + line)) → AreUntouched e old from lines → AreUntouched e new from lines
  AreUntouched-same old new from lines same own line below =
      subst (λ (l : LineState n m). HasUntouched e l) (sym (same line below)) (own line below)

  -- where only one line may have changed, whose unused check cells stay untouched
  pub AreUntouched-beside : (old new : ArrayState n m) (target from lines : ℕ) → ((line : ℕ) → line ≢ target → new.line line ≡ old.line line)
      → (HasUntouched e (old.line target) → HasUntouched e (new.line target))
      → AreUntouched e old from lines → AreUntouched e new from lines
  AreUntouched-beside old new target from lines others stays own line below =
      elim (cases_eq (from + line) target) [
        | inl same ↦
            subst (λ (at : ℕ). HasUntouched e (new.line at)) (sym same)
            (stays (subst (λ (at : ℕ). HasUntouched e (old.line at)) same (own line below)))
        | inr off ↦ subst (λ (l : LineState n m). HasUntouched e l) (sym (others (from + line) off)) (own line below)
      ]
