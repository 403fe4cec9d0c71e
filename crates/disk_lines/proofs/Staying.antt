-- What no call changes is the same behind a row, and some time later.
use Rattle.std.proofs.Common.{◌≡◌, ℕ, ◌+◌, List, ◌∷◌, ap, refl, ◌∙◌}
use Rattle.std.specs.Prelude.{Option}
use Rattle.cell_rows.specs.{Device.ArrayState, declared.array.Wear.Wear}
use Rattle.trace_reader.specs.declared.event.{Event.Event, EventOp.TheVariants.Cut}
use Rattle.module_shape.specs.declared.raw.RawShape.{RawShape}
use Rattle.pcm_module.specs.State.{ModuleState}
use Rattle.disk_lines.specs.{Asking.{Passes, TakesRow}, Cutting.{all_cuts, come_from, left_behind, left_of}, Hearing.{Hearing, cuts_by, events_in}, Lines.{Kind, kind_at, kind_of}}
use Rattle.disk_lines.{specs.declared.cuts.Cuts.Cuts, proofs.Cutting.{cuts-came, cuts-pass, cuts-stand}}

abbrev own : RawShape → ℕ → Option Wear → List ℕ → Kind
own shape seed wear cuts = record { shape = shape; seed = seed; wear = wear; cuts = cuts }

module _ {n m e : ℕ} (old new : ModuleState n m e) (before after : ArrayState n m) where
  kind-same : (was now : List ℕ) → new.shape ≡ old.shape → new.seed ≡ old.seed → after.wear ≡ before.wear → now ≡ was → kind_of new after now ≡ kind_of old before was
  kind-same was now shape seed wear cuts =
      ap (λ (s : RawShape). own s new.seed after.wear now) shape
      ∙ ap (λ (s : ℕ). own old.shape s after.wear now) seed
      ∙ ap (λ (w : Option Wear). own old.shape old.seed w now) wear
      ∙ ap (own old.shape old.seed before.wear) cuts

  module _ (out now : Hearing n) (cuts also : Cuts) (same : also ≡ cuts) (wear : after.wear ≡ before.wear) where
    -- the next cut came
    pub kind-cut : (tick : ℕ) → TakesRow old new (record { tick = tick; op = Cut }) out now → come_from old.tick (left_of cuts) ≡ tick ∷ come_from tick (left_behind cuts)
        → kind_at new after now.heard (record also { came = also.came + 1 }) ≡ kind_at old before out.heard cuts
    kind-cut tick takes next =
        ap (λ (k : Cuts). kind_at new after now.heard (record k { came = k.came + 1 })) same
        ∙ kind-same (all_cuts old.tick out.heard cuts) (all_cuts new.tick now.heard (record cuts { came = cuts.came + 1 })) takes.later.shape takes.later.seed wear
        (cuts-came (events_in out.heard) (events_in now.heard) old.tick new.tick (left_of cuts) (record { tick = tick; op = Cut }) (left_behind cuts) takes.events takes.tick refl next)

    -- another row came, no later than the next cut
    pub kind-row : (event : Event n) → TakesRow old new event out now → cuts_by event.op ≡ 0 → come_from event.tick (left_of cuts) ≡ come_from old.tick (left_of cuts)
        → kind_at new after now.heard also ≡ kind_at old before out.heard cuts
    kind-row event takes none quiet =
        ap (λ (k : Cuts). kind_at new after now.heard k) same
        ∙ kind-same (all_cuts old.tick out.heard cuts) (all_cuts new.tick now.heard cuts) takes.later.shape takes.later.seed wear
        (cuts-stand (events_in out.heard) (events_in now.heard) old.tick new.tick (left_of cuts) event takes.events takes.tick none quiet)

    -- time passed, to a tick no later than that of the next cut
    pub kind-pass : (tick : ℕ) → Passes old new tick out.heard now.heard → come_from tick (left_of cuts) ≡ come_from old.tick (left_of cuts)
        → kind_at new after now.heard also ≡ kind_at old before out.heard cuts
    kind-pass tick passes quiet =
        ap (λ (k : Cuts). kind_at new after now.heard k) same
        ∙ kind-same (all_cuts old.tick out.heard cuts) (all_cuts new.tick now.heard cuts) passes.later.shape passes.later.seed wear
        (cuts-pass (events_in out.heard) (events_in now.heard) old.tick new.tick (left_of cuts) tick passes.events passes.tick quiet)
