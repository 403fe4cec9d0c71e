-- How a stream is served by a module that is new.
use Rattle.std.proofs.Common.{◌≡◌, ◌&&◌, ◌∙◌, inl, inr, ℕ, ◌<◌, Bool, false, List, [], refl, sym, ap, subst, arith}
use Rattle.cell_rows.specs.Device.{ArrayState}
use Rattle.result_rows.specs.declared.Outcome.{Outcome}
use Rattle.bank_shape.specs.declared.BankShape.{BankShape}
use Rattle.module_shape.specs.{Limits.{IsSmall, total_of}, declared.raw.RawShape.RawShape}
use Rattle.module_prints.specs.Images.{HasImage}
use Rattle.pcm_module.specs.{Replaying.Replays, State.ModuleState}
use Rattle.row_printer.specs.{Printing.table_of, Refusing.any_refused, declared.snapshot.Snapshot.Snapshot, declared.told.Shown.Shown, declared.told.Told.Told}
use Rattle.row_stream.specs.{Asking.{stays_off, with_cut}, Ending.{EndsShowing, HasEnded, told_along, without_cut}, Refusing.{EndsBehind, GoesAsFar, WentOn, tells_refusal}}
use Rattle.row_stream.specs.{Serving.{IsServing, Telling, told_so_far}, Sourcing.HasStopped, declared.stop.Stop.Stop, declared.stop.Stop.TheVariants.{Input, Late, Endless, Output}}
use Rattle.row_stream.proofs.Refusals.{told-refusal}
use Rattle.stream_words.specs.declared.job.StreamJob.{StreamJob}
use Rattle.trace_stream.specs.declared.asked.Asked.{Asked}
use Rattle.trace_stream.specs.declared.fault.StreamFault.TheVariants as from
use Rattle.stream_top.specs.{Calls.LentSource, Streams.{ComeFrom, GoesAsFarAs, HasCause, HasPlayed, has_stopped, is_off, stop_fault, stops_at_refusal, told_of_rows}}
use Rattle.stream_top.specs.declared.fault.StreamRunFault.TheVariants.{Write}

-- a module to which nothing was handed yet has served nothing
pub serves-none : {n m e : ℕ} (raw : RawShape) (seed : ℕ) (module_ : ModuleState n m e) (array : ArrayState n m) (shown : Shown) → module_.shape ≡ raw → module_.seed ≡ seed → module_.tick ≡ 0
    → module_.rows_below ≡ 0 → module_.finished ≡ false → ((results : List (Outcome n)) → Replays (λ bank. []) [] module_ array results)
    → IsServing raw seed [] module_ array 0 [] shown []
serves-none raw seed module_ array shown shape seeded tick below going begins = record {
  history = λ bank. [];
  along = (refl, refl);
  snaps = refl;
  now = tt;
  served = record { shape = shape; seeded = seeded; going = going; bound = omega (arith, below); size = refl; replays = begins [] };
  counted = refl;
  tick = tick;
  in_time = omega (arith, tick);
}

-- a stream that was served to its end leaves a small module with an image
pub has-image : {n m e : ℕ} (job : StreamJob) (off : Bool) (asked : List (Asked n)) (module_ : ModuleState n m e) (array : ArrayState n m) (places : ℕ) (told : List (Told n))
    → HasEnded job.shape job.seed off asked module_ array places told → IsSmall module_.shape → HasImage module_
has-image job off asked module_ array places told ended own =
    let small : IsSmall job.shape = subst IsSmall ended.shape own in record {
      small = own;
      few_lines =
          λ bank low.
          let shaped = ended.finished.1.shapes bank (subst (λ (raw : RawShape). bank < raw.banks) ended.shape low) in
          omega (arith, ap (λ (s : BankShape). s.lines) shaped, small.few_lines);
    }

-- why a stream stops is why the program does
pub stop-cause : {S : Type 0} (n m e : ℕ) (job : StreamJob) (source : LentSource S) (asked : List (Asked n)) (stop : Stop)
    → HasStopped (total_of job.shape) source.left source.taken source.faults source.before source.now asked stop → HasCause n m e job source (stop_fault stop) asked
stop-cause n m e job source asked (Input (from.Trace f)) had = inl had
stop-cause n m e job source asked (Input from.TooMany) had = inl had
stop-cause n m e job source asked (Input from.Read) had = had
stop-cause n m e job source asked (Input from.Endless) had = inr (inl had)
stop-cause n m e job source asked (Input from.NoMemory) had = had
stop-cause n m e job source asked (Late f) had = inr had
stop-cause n m e job source asked Endless had = inr (inr had)
stop-cause n m e job source asked Output had = had

-- only the output's stop is a fault of writing
pub only-output : (stop : Stop) → stop_fault stop ≡ Write → stop ≡ Output
only-output (Input (from.Trace f)) is = absurd (cc is)
only-output (Input from.TooMany) is = absurd (cc is)
only-output (Input from.Read) is = absurd (cc is)
only-output (Input from.Endless) is = absurd (cc is)
only-output (Input from.NoMemory) is = absurd (cc is)
only-output (Late f) is = absurd (cc is)
only-output Endless is = absurd (cc is)
only-output Output is = refl

-- where the rows end, and how far a stream came that stopped, by whether the job is to stop at a refusal
pub ends-by : {n m e : ℕ} {raw : RawShape} {seed : ℕ} (stops stops2 : Bool) → stops ≡ stops2 → (asked : List (Asked n)) (telling : Telling n m e raw seed asked) (All Some : Type 0)
    → EndsBehind stops asked telling All Some → EndsBehind stops2 asked telling All Some
ends-by stops stops2 same asked telling All Some had = subst (λ (b : Bool). EndsBehind b asked telling All Some) same had

pub went-by : {n m e : ℕ} {raw : RawShape} {seed : ℕ} (stops stops2 : Bool) → stops ≡ stops2 → (asked : List (Asked n)) (telling : Telling n m e raw seed asked) → WentOn stops asked telling → WentOn stops2 asked telling
went-by stops stops2 same asked telling had = subst (λ (b : Bool). WentOn b asked telling) same had

module _ {S : Type 0} (n m e : ℕ) (job : StreamJob) (source : LentSource S) (asked : List (Asked n)) (telling : Telling n m e job.shape job.seed asked) where
  far-by : (stop : Stop) → GoesAsFar stop (stops_at_refusal job.until) asked telling → GoesAsFarAs n m e job source (stop_fault stop) asked telling
  far-by (Input (from.Trace f)) far = far
  far-by (Input from.TooMany) far = far
  far-by (Input from.Read) far = far
  far-by (Input from.Endless) far = far
  far-by (Input from.NoMemory) far = far
  far-by (Late f) far = far
  far-by Endless far = far
  far-by Output far = far

  pub goes-as-far : (stops : Bool) → stops ≡ stops_at_refusal job.until → (stop : Stop) → GoesAsFar stop stops asked telling → GoesAsFarAs n m e job source (stop_fault stop) asked telling
  goes-as-far stops same stop far = far-by stop (subst (λ (b : Bool). GoesAsFar stop b asked telling) same far)

module _ {S : Type 0} (n m e : ℕ) (job : StreamJob) (source : LentSource S) (asked : List (Asked n)) {module_ : ModuleState n m e} {array : ArrayState n m} {places : ℕ} {told : List (Told n)} {shown : Shown} {snaps : List Snapshot}
    (had : IsServing job.shape job.seed asked module_ array places told shown snaps) (module2 : ModuleState n m e) (array2 : ArrayState n m) (places2 : ℕ) (told2 : List (Told n)) (shown2 : Shown) (snaps2 : List Snapshot) where
  -- what was served has ended, with the power on or off
  abbrev EndsSo : Bool → Type 0
  EndsSo off = (shows : EndsShowing job.shape job.seed (stays_off off asked) (with_cut off asked) module2 array2 places2 told2 shown2 snaps2) × (without_cut off asked (told_along shows.0) ≡ told_so_far had)

  -- it stopped where the last row was refused
  abbrev HasStoppedBy : Bool → Type 0
  HasStoppedBy stopped =
      (played : HasPlayed n m e job source asked module2 array2 places2 told2 shown2 snaps2) × (stopped ≡ has_stopped n m e job source asked (told_of_rows n m e job source asked played.0.0))

  stopped-so : EndsSo (is_off job.end) → ComeFrom n m e job source job.input asked (told_so_far had) → (stopped : Bool) → stopped ≡ (stops_at_refusal job.until && any_refused (table_of places told)) → HasStoppedBy stopped
  stopped-so all come stopped is =
      let refusal : any_refused (table_of places told) ≡ tells_refusal asked (without_cut (is_off job.end) asked (told_along all.0.0)) =
      sym (told-refusal had) ∙ ap (λ (t : Telling n m e job.shape job.seed asked). tells_refusal asked t) (sym all.1) in
      ((all.0, subst (λ (t : Telling n m e job.shape job.seed asked). ComeFrom n m e job source job.input asked t) (sym all.1) come), is ∙ ap (λ (b : Bool). stops_at_refusal job.until && b) refusal)

  pub stopped-of : (off : Bool) → off ≡ is_off job.end → EndsSo off → ComeFrom n m e job source job.input asked (told_so_far had)
      → (stopped : Bool) → stopped ≡ (stops_at_refusal job.until && any_refused (table_of places told)) → HasStoppedBy stopped
  stopped-of off same all come stopped is = stopped-so (subst EndsSo same all) come stopped is
