-- A module that has served nothing.
use Rattle.std.proofs.Common.{◌≡◌, ℕ, Bool, List, [], refl, arith, false, subst, sym}
use Rattle.cell_rows.specs.Device.{ArrayState}
use Rattle.result_rows.specs.declared.Outcome.{Outcome}
use Rattle.module_shape.specs.declared.raw.RawShape.{RawShape}
use Rattle.pcm_module.specs.{Replaying.Replays, State.ModuleState}
use Rattle.row_printer.specs.{declared.snapshot.Snapshot.Snapshot, declared.told.Shown.Shown, declared.told.Told.Told}
use Rattle.trace_stream.specs.declared.asked.Asked.{Asked}
use Rattle.row_stream.{specs.Ending.HasEnded, specs.Serving.IsServing, proofs.Alike.told-same}

-- a module to which nothing was handed yet has served nothing
serves-none : {n m e : ℕ} (raw : RawShape) (seed : ℕ) (module_ : ModuleState n m e) (array : ArrayState n m) (shown : Shown) → module_.shape ≡ raw → module_.seed ≡ seed → module_.tick ≡ 0
    → module_.rows_below ≡ 0 → module_.finished ≡ false → ((results : List (Outcome n)) → Replays (λ bank. []) [] module_ array results)
    → IsServing raw seed [] module_ array 0 [] shown []
serves-none raw seed module_ array shown shape seeded tick below going begins = record {
  history = λ bank. [];
  along = (refl, refl);
  snaps = refl;
  now = tt;
  served = record { shape = shape; seeded = seeded; going = going; bound = omega (arith, below); size = refl; replays = begins [] };
  counted = refl;
  tick = tick;
  in_time = omega (arith, tick);
}

-- nor has one with what keeps nothing
pub begins-serving : {n m e : ℕ} (raw : RawShape) (seed : ℕ) (module_ : ModuleState n m e) (array : ArrayState n m) (rows : ℕ) (told : List (Told n)) (shown : Shown) (snaps : List Snapshot)
    → rows ≡ 0 → told ≡ [] → snaps ≡ [] → module_.shape ≡ raw → module_.seed ≡ seed → module_.tick ≡ 0
    → module_.rows_below ≡ 0 → module_.finished ≡ false → ((results : List (Outcome n)) → Replays (λ bank. []) [] module_ array results)
    → IsServing raw seed [] module_ array rows told shown snaps
begins-serving {n} raw seed module_ array rows told shown snaps r t s shape seeded tick below going begins =
    let P : ℕ → List (Told n) → Shown → List Snapshot → Type 0 = λ k said shows taken. IsServing raw seed [] module_ array k said shows taken in
    told-same P 0 rows [] told shown shown [] snaps r t refl s (serves-none raw seed module_ array shown shape seeded tick below going begins)

-- what was served by a module of these sizes was served by one of its own
pub own-serving : {n m e : ℕ} (raw : RawShape) (seed : ℕ) (asked : List (Asked n)) (module_ : ModuleState n m e) (array : ArrayState n m) (rows : ℕ) (told : List (Told n)) (shown : Shown) (snaps : List Snapshot)
    → IsServing raw seed asked module_ array rows told shown snaps → IsServing module_.shape module_.seed asked module_ array rows told shown snaps
own-serving raw seed asked module_ array rows told shown snaps had =
    subst (λ k. IsServing module_.shape k asked module_ array rows told shown snaps) (sym had.served.seeded)
    (subst (λ r. IsServing r seed asked module_ array rows told shown snaps) (sym had.served.shape) had)

pub own-ended : {n m e : ℕ} (raw : RawShape) (seed : ℕ) (off : Bool) (asked : List (Asked n)) (module_ : ModuleState n m e) (array : ArrayState n m) (rows : ℕ) (told : List (Told n))
    → HasEnded raw seed off asked module_ array rows told → HasEnded module_.shape module_.seed off asked module_ array rows told
own-ended raw seed off asked module_ array rows told had =
    subst (λ k. HasEnded module_.shape k off asked module_ array rows told) (sym had.seeded)
    (subst (λ r. HasEnded r seed off asked module_ array rows told) (sym had.shape) had)
