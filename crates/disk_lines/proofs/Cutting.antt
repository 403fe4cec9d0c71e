-- Cuts that have yet to come, a row more or some time later.
use Rattle.std.proofs.Common.{◌≡◌, ℕ, List, ◌∷◌, ◌++◌, replicate, sym, ap, ◌∙◌}
use Rattle.trace_reader.specs.declared.event.Event.{Event}
use Rattle.disk_lines.specs.{Cutting.{come_from, cuts_then}, Hearing.cuts_by}

module _ {n : ℕ} (before now : List (Event n)) (old new : ℕ) (left : List ℕ) where
  -- the next cut came
  pub cuts-came : (event : Event n) (behind : List ℕ) → now ≡ event ∷ before → new ≡ event.tick → cuts_by event.op ≡ 1
      → come_from old left ≡ event.tick ∷ come_from event.tick behind → cuts_then now (come_from new behind) ≡ cuts_then before (come_from old left)
  cuts-came event behind rows at cut next =
      ap (λ (events : List (Event n)). cuts_then events (come_from new behind)) rows
      ∙ ap (λ (t : ℕ). cuts_then before (replicate (cuts_by event.op) event.tick ++ come_from t behind)) at
      ∙ ap (λ (k : ℕ). cuts_then before (replicate k event.tick ++ come_from event.tick behind)) cut
      ∙ ap (cuts_then before) (sym next)

  -- another row came, no later than the next cut
  pub cuts-stand : (event : Event n) → now ≡ event ∷ before → new ≡ event.tick → cuts_by event.op ≡ 0
      → come_from event.tick left ≡ come_from old left → cuts_then now (come_from new left) ≡ cuts_then before (come_from old left)
  cuts-stand event rows at none same =
      ap (λ (events : List (Event n)). cuts_then events (come_from new left)) rows
      ∙ ap (λ (t : ℕ). cuts_then before (replicate (cuts_by event.op) event.tick ++ come_from t left)) at
      ∙ ap (λ (k : ℕ). cuts_then before (replicate k event.tick ++ come_from event.tick left)) none
      ∙ ap (cuts_then before) same

  -- time passed, to a tick no later than that of the next cut
  pub cuts-pass : (tick : ℕ) → now ≡ before → new ≡ tick → come_from tick left ≡ come_from old left → cuts_then now (come_from new left) ≡ cuts_then before (come_from old left)
  cuts-pass tick rows at same =
      ap (λ (events : List (Event n)). cuts_then events (come_from new left)) rows
      ∙ ap (λ (t : ℕ). cuts_then before (come_from t left)) at
      ∙ ap (cuts_then before) same
