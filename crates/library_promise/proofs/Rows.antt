-- What was served along the histories of the banks was told by rows.
use Rattle.std.proofs.Common.{ℕ, Bool, List, length, subst}
use Rattle.cell_rows.specs.Device.{ArrayState}
use Rattle.bank_timing.specs.Extending.{outcome_in}
use Rattle.module_shape.specs.Limits.{IsShape}
use Rattle.pcm_module.specs.State.{ModuleState, bank_at}
use Rattle.run_laws.specs.FinishedLaws.{ends_of}
use Rattle.row_printer.specs.{Printing.table_of, declared.snapshot.Snapshot.Snapshot, declared.told.Shown.Shown, declared.told.Told.Told}
use Rattle.trace_stream.specs.{Asked.events_in, declared.asked.Asked.Asked}
use Rattle.row_stream.specs.{Ending.HasEnded, Serving.{HasServed, IsServing}}
use Rattle.moment_laws.specs.Moments.{LosesNothing, MomentLaw}
use Rattle.settle_laws.specs.{Settles.{SettledLaw, SoFarLaw}, Turns.{EndedTurnLaw, TurnLaw}}
use Rattle.stream_promise.proofs.Rows.{by-rows, in-turn-by-rows}
use Rattle.library_promise.specs.Rows.{PromisesByRows, PromisesSoFar, StandsNewest}

module _ {n m : ℕ} (e : ℕ) (module_ : ModuleState n m e) (array : ArrayState n m) (asked : List (Asked n)) (places : ℕ) (told : List (Told n)) (moment : MomentLaw) (shape : IsShape module_.shape) where
  lost-none : (shown : Shown) (snaps : List Snapshot) (had : IsServing module_.shape module_.seed asked module_ array places told shown snaps)
      → LosesNothing module_ had.history (events_in asked) array (table_of (length (events_in asked)) told)
  lost-none shown snaps had =
      let Q : ℕ → Type 0 = λ k. HasServed module_.shape module_.seed (events_in asked) had.history module_ array (table_of k told) in
      moment n m e module_.shape module_.seed (events_in asked) had.history module_ array (table_of (length (events_in asked)) told) shape (subst Q had.counted had.served)

  pub stands-newest : (shown : Shown) (snaps : List Snapshot) → IsServing module_.shape module_.seed asked module_ array places told shown snaps → StandsNewest module_ array asked told
  stands-newest shown snaps had = (lost-none shown snaps had).stands

  pub so-far : (shown : Shown) (snaps : List Snapshot) → SoFarLaw → TurnLaw → IsServing module_.shape module_.seed asked module_ array places told shown snaps
      → PromisesSoFar e module_.shape module_.seed asked array told
  so-far shown snaps settled turns had =
      let Q : ℕ → Type 0 = λ k. HasServed module_.shape module_.seed (events_in asked) had.history module_ array (table_of k told) in
      let served : Q (length (events_in asked)) = subst Q had.counted had.served in
      let lost = lost-none shown snaps had in
      record {
        rows = by-rows e module_.shape module_.seed moment shape asked had.history told had.along;
        in_time = settled n m e module_.shape module_.seed asked had.history module_ array told shape had.along served;
        in_turn =
            in-turn-by-rows e module_.shape module_.seed moment shape asked had.history told had.along (outcome_in (table_of (length (events_in asked)) told))
            (turns n m e module_.shape module_.seed asked had.history module_ array told shape had.along served);
        served = lost.reads;
        ends = ends_of had.history (bank_at module_);
        end = lost.ends;
      }

  pub in-the-end : (off : Bool) → SettledLaw → EndedTurnLaw → HasEnded module_.shape module_.seed off asked module_ array places told
      → PromisesByRows e module_.shape module_.seed asked array off places told
  in-the-end off settled turns had = record {
    along = record { told = had.said; rows = by-rows e module_.shape module_.seed moment shape asked had.history had.said had.along };
    rest = had.rest;
    all = had.all;
    order = had.order;
    in_time = settled n m e module_.shape module_.seed off asked module_ array places told shape had;
    in_turn =
        in-turn-by-rows e module_.shape module_.seed moment shape asked had.history had.said had.along (outcome_in (table_of places told))
        (turns n m e module_.shape module_.seed off asked module_ array places told shape had);
    ends = had.ends;
    right = had.right;
  }
