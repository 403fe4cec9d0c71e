-- How the events of a trace are handed to a module, one after the other.
use Rattle.std.proofs.Common.{◌≡◌, ℕ, suc, ◌+◌, ◌-◌, ◌<◌, ◌≤◌, false, List, [], ◌∷◌, ◌++◌, length, get_or, take, drop, Some, refl, ap, ◌∙◌, subst, arith, replicate, reverse}
use Rattle.std.{specs.Prelude.slice_get, proofs.Math.Seq.drop-cons}
use Rattle.std.proofs.lemmas.List.{take_more, take_all, reverse-append, length-reverse, length-take-le, length-replicate, get_or-replicate}
use Rattle.std.proofs.lemmas.Option.{get_or_from_slice_get, slice_get-get_or, slice_get_within}
use Rattle.trace_reader.{specs.Events.{AreEventsFor, IsEventFor}, specs.declared.event.Event.Event, proofs.Lawful.lawful-first}
use Rattle.cell_rows.specs.Device.{ArrayState}
use Rattle.result_rows.specs.{declared.Outcome.Outcome, declared.Outcome.TheVariants.Unset}
use Rattle.bank_model.specs.Timing.{TimedEvent}
use Rattle.module_shape.specs.{Limits.total_of, declared.raw.RawShape.RawShape}
use Rattle.module_laws.specs.Asking.{Asked}
use Rattle.bank_timing.specs.Extending.{IsOpen}
use Rattle.pcm_module.specs.{Asking.{asked_by, asked_for}, Replaying.Replays, State.ModuleState}
use Rattle.pcm_top.specs.Ready.{IsReady}

-- the first i events were handed to the module; some histories replay them, the rows behind them are open, and the other events
-- may follow
pub record HasReplayed {n m e : ℕ} (raw : RawShape) (seed : ℕ) (events : List (Event n)) (i : ℕ) (module_ : ModuleState n m e) (array : ArrayState n m) (results : List (Outcome n)) : Type 0 where
  pub shape : module_.shape ≡ raw
  pub seeded : module_.seed ≡ seed
  pub going : module_.finished ≡ false
  pub bound : module_.rows_below ≤ i + 1
  pub size : length results ≡ length events
  pub open_rows : (row : ℕ) → i < row → row ≤ length events → IsOpen results row
  pub led : (h : ℕ → List (TimedEvent n m)) × Replays h (asked_for (reverse (take i events))) module_ array results
  pub left : AreEventsFor (total_of raw) module_.tick (drop i events)

-- a row of a table in which none has an outcome
abbrev none : (n : ℕ) → Outcome n
none n = Unset

unset-row : {n : ℕ} (size row : ℕ) → row < size → slice_get (replicate size (none n)) row ≡ Some Unset
unset-row {n} size row within =
    let whole : row < length (replicate size (none n)) = rw (length-replicate size (none n)) within in
    slice_get-get_or (replicate size (none n)) row (none n) whole ∙ ap Some (get_or-replicate size row (none n) (none n) within)

open-row : {n : ℕ} (size row : ℕ) → 1 ≤ row → row ≤ size → IsOpen (replicate size (none n)) row
open-row {n} size row above within = record {
  exists = record { above = above; within = rw (length-replicate size (none n)) within };
  unset = unset-row size (row - 1) (omega arith);
}

pub replayed-none : {n m e : ℕ} (raw : RawShape) (seed : ℕ) (events : List (Event n)) (module_ : ModuleState n m e) (array : ArrayState n m) (results : List (Outcome n))
    → IsReady raw seed (length events) module_ array results → AreEventsFor (total_of raw) 0 events → HasReplayed raw seed events 0 module_ array results
replayed-none {n} raw seed events module_ array results ready lawful = record {
  shape = ready.shape;
  seeded = ready.seeded;
  going = ready.going;
  bound = omega (arith, ready.bound);
  size = ap length ready.open_rows ∙ length-replicate (length events) (none n);
  open_rows = λ row above within. rw ready.open_rows (open-row (length events) row (omega arith) within);
  led = (λ bank. [], ready.replays);
  left = rw ready.tick lawful;
}

-- one event more was handed on
pub below-more : {n : ℕ} (events : List (Event n)) (i : ℕ) (event : Event n) → slice_get events i ≡ Some event → reverse (take (i + 1) events) ≡ event ∷ reverse (take i events)
below-more events i event at =
    let within = slice_get_within events i event at in
    let value = get_or_from_slice_get events i event event at in
    ap reverse (take_more events i event within) ∙ reverse-append (take i events) (get_or events i event ∷ [])
    ∙ ap (λ e. e ∷ reverse (take i events)) value

-- what it asks has the next number
asked-more : {n : ℕ} (events : List (Event n)) (i : ℕ) (event : Event n) → slice_get events i ≡ Some event
    → asked_by (i + 1) event ∷ asked_for (reverse (take i events)) ≡ asked_for (reverse (take (i + 1) events))
asked-more events i event at =
    let within = slice_get_within events i event at in
    let size : length (reverse (take i events)) ≡ i = length-reverse (take i events) ∙ length-take-le i events (omega arith) in
    rw (below-more events i event at, size) refl

-- the events from a place on begin with the one there
left-next : {n : ℕ} (events : List (Event n)) (i : ℕ) (event : Event n) → slice_get events i ≡ Some event → drop i events ≡ event ∷ drop (i + 1) events
left-next events i event at =
    let within = slice_get_within events i event at in
    let one : i + 1 ≡ suc i = omega arith in
    rw one (drop-cons events i event within ∙ ap (λ e. e ∷ drop (suc i) events) (get_or_from_slice_get events i event event at))

module _ {n m e : ℕ} (raw : RawShape) (seed : ℕ) (events : List (Event n)) (i : ℕ) (event : Event n) (at : slice_get events i ≡ Some event)
    (module_ : ModuleState n m e) (array : ArrayState n m) (results : List (Outcome n)) (had : HasReplayed raw seed events i module_ array results) where
  next-left : IsEventFor (total_of raw) module_.tick event × AreEventsFor (total_of raw) event.tick (drop (i + 1) events)
  next-left = lawful-first (total_of raw) module_.tick event (drop (i + 1) events) (rw (← left-next events i event at) had.left)

  -- it may be handed on
  pub next-event : IsEventFor (total_of module_.shape) module_.tick event
  next-event = rw had.shape (next-left.0)

  pub next-open : IsOpen results (i + 1)
  next-open =
      let within = slice_get_within events i event at in
      had.open_rows (i + 1) (omega arith) (omega arith)

  -- and then it is replayed too
  pub replayed-more : (new : ModuleState n m e) (after : ArrayState n m) (recorded : List (Outcome n))
      → new.shape ≡ module_.shape → new.seed ≡ module_.seed → new.finished ≡ false → new.tick ≡ event.tick → new.rows_below ≡ i + 1 + 1
      → length recorded ≡ length results
      → ((h : ℕ → List (TimedEvent n m)) (asked : List (Asked n)) → Replays h asked module_ array results
      → (added : ℕ → List (TimedEvent n m)) × Replays (λ bank. added bank ++ h bank) (asked_by (i + 1) event ∷ asked) new after recorded)
      → ((other : ℕ) → i + 1 < other → IsOpen results other → IsOpen recorded other)
      → HasReplayed raw seed events (i + 1) new after recorded
  replayed-more new after recorded shape seeded going tick bound size leads open_rows =
      let led = leads had.led.0 (asked_for (reverse (take i events))) had.led.1 in
      let P : List (Asked n) → Type 0 = λ asked. Replays (λ bank. led.0 bank ++ had.led.0 bank) asked new after recorded in
      record {
        shape = shape ∙ had.shape;
        seeded = seeded ∙ had.seeded;
        going = going;
        bound = omega (arith, bound);
        size = size ∙ had.size;
        open_rows = λ row above within. open_rows row above (had.open_rows row (omega arith) within);
        led = (λ bank. led.0 bank ++ had.led.0 bank, subst P (asked-more events i event at) led.1);
        left = rw tick (next-left.1);
      }

-- all events were handed on
pub replayed-all : {n m e : ℕ} (raw : RawShape) (seed : ℕ) (events : List (Event n)) (i : ℕ) (module_ : ModuleState n m e) (array : ArrayState n m) (results : List (Outcome n))
    → length events ≤ i → HasReplayed raw seed events i module_ array results
    → (h : ℕ → List (TimedEvent n m)) × Replays h (asked_for (reverse events)) module_ array results
replayed-all {n} {m} raw seed events i module_ array results all had =
    let P : List (Event n) → Type 0 = λ es. Replays had.led.0 (asked_for (reverse es)) module_ array results in
    (had.led.0, subst P (take_all i events all) had.led.1)
