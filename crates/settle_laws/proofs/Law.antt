-- What is told by a settle was told in time and stays, and the rest comes later: so it is of streams, and of those of a program.
use Rattle.std.proofs.Common.{◌≡◌, ◌≢◌, ℕ, ◌≤◌, Bool, true, false, List, ◌∷◌, ◌++◌, length, refl, sym, ap, subst, ◌∙◌, length-append, arith}
use Rattle.std.specs.Prelude.{All, IfSome, Some}
use Rattle.trace_reader.specs.declared.event.Event.{Event}
use Rattle.result_rows.specs.{Outcomes.tick_of, declared.Outcome.Outcome, declared.Outcome.TheVariants.Unset}
use Rattle.bank_model.specs.Timing.{TimedEvent}
use Rattle.bank_timing.specs.Extending.{outcome_in}
use Rattle.module_shape.specs.{Limits.IsShape, declared.raw.RawShape.RawShape}
use Rattle.pcm_module.specs.{Asking.asked_for, State.{ModuleState, bank_at}}
use Rattle.row_printer.specs.{Printing.table_of, Telling.became, declared.told.Told.Told}
use Rattle.trace_stream.specs.{Asked.events_in, declared.asked.Asked.Asked}
use Rattle.row_stream.specs.{Asking.{stays_off, with_cut}, Serving.TellsAlong}
use Rattle.stream_top.specs.Streams.{is_off}
use Rattle.settle_laws.specs.{Settles.{IsKnownBy, NewsComesLater, SettledLaw, SoFarLaw, known_by, settled_at, settles_in, told_up_to}, Streams.{BegunStreamLaw, WholeStreamLaw}}
use Rattle.settle_laws.proofs.{Along.{WasServed, banks-then, each-served, events-both, events-same, none-sooner, reached-then, told-then, went-on}, Banks.IsRight}
use Rattle.settle_laws.proofs.Rows.{Goes, each-place, goes-finished, goes-so-far, rows-right, rows-set}

-- of a row that settles, the stream as it went on behind it, and what is known of its rows now, or in the end
module _ {n m e : ℕ} (raw : RawShape) (seed : ℕ) (asked : List (Asked n)) (whole : ℕ → List (TimedEvent n m)) (told : List (Told n)) (is : IsShape raw)
    (row : Asked n) (later before : List (Asked n)) (tick : ℕ) (same : asked ≡ later ++ row ∷ before) (at : settled_at row ≡ Some tick) (was : WasServed e raw seed row before whole told)
    (late : All (λ (event : Event n). tick ≤ event.tick) (events_in later))
    (over : Bool) (table : List (Outcome n)) (goes : Goes e over raw seed whole (asked_for (events_in asked)) (outcome_in table)) where
  abbrev stood : ModuleState n m e
  stood = was.known.module_

  abbrev events : List (Event n)
  events = events_in (row ∷ before)

  -- the outcomes by then
  abbrev results : List (Outcome n)
  results = table_of (length events) was.said

  events-all : events_in asked ≡ events_in later ++ events
  events-all = ap events_in same ∙ events-both later (row ∷ before)

  goes-there : Goes e over stood.shape stood.seed whole (asked_for (events_in later ++ events)) (outcome_in table)
  goes-there =
      subst (λ (events : List (Event n)). Goes e over stood.shape stood.seed whole (asked_for events) (outcome_in table)) events-all
      (subst (λ (k : ℕ). Goes e over stood.shape k whole (asked_for (events_in asked)) (outcome_in table)) (sym was.known.served.seeded)
      (subst (λ (r : RawShape). Goes e over r seed whole (asked_for (events_in asked)) (outcome_in table)) (sym was.known.served.shape) goes))

  right : (number : ℕ) → 1 ≤ number → number ≤ length events → IsRight tick (outcome_in results number) (outcome_in table number)
  right =
      rows-right events (events_in later) was.history was.since whole stood was.known.array results (subst IsShape (sym was.known.served.shape) is) was.known.served.replays
      tick (was.known.tick ∙ reached-then row before tick at) (banks-then e raw seed row tick stood at was.known.settled) was.part over (outcome_in table) goes-there late

  abbrev Knows : Outcome n → Outcome n → Type 0
  Knows by_then now = IfSome (tick_of by_then) (λ at. at ≤ tick) × (by_then ≢ Unset → now ≡ by_then)

  each-known : (number : ℕ) → Knows (outcome_in results number) (outcome_in table number)
  each-known =
      each-place results (outcome_in table) Knows refl (λ o. (tt, λ set. absurd (set refl)))
      (λ number least most. (let one = right number least (omega (arith, most, was.known.served.size)) in (one.told, one.stays)))

  -- by the table of what was told by then
  then-same : table_of (length (events_in before)) (told_up_to (settles_in (row ∷ before)) told) ≡ results
  then-same =
      ap (λ (told : List (Told n)). table_of (length (events_in before)) told) (told-then e raw seed row before whole told tick at was)
      ∙ ap (λ (events : List (Event n)). table_of (length events) was.said) (sym (events-same row before tick at))

  pub known-then : IsKnownBy tick (known_by row before told) (outcome_in table)
  known-then =
      subst (λ (results : List (Outcome n)). IsKnownBy tick (outcome_in results) (outcome_in table)) (sym then-same)
      (record { told = λ number. (each-known number).0; stays = λ number. (each-known number).1 })

  pub news-later : NewsComesLater tick (length (events_in before)) (known_by row before told) (outcome_in table)
  news-later =
      subst (λ (results : List (Outcome n)). NewsComesLater tick (length (events_in before)) (outcome_in results) (outcome_in table)) (sym then-same)
      (λ number least most. (right number least (subst (λ (events : List (Event n)). number ≤ length events) (sym (events-same row before tick at)) most)).rest)

pub settled_law : SettledLaw
settled_law n m e raw seed off asked module_ array places told is ended row later before tick same at = (
  known-then raw seed asked whole told is row later before tick same at was late true table goes,
  λ number least most unset.
      news-later raw seed asked whole told is row later before tick same at was late true table goes number least most unset (set number least most),
)
  where
    whole : ℕ → List (TimedEvent n m)
    whole bank = ended.finished.0 bank ++ ended.history bank

    table : List (Outcome n)
    table = table_of places told

    along : TellsAlong e raw seed (later ++ row ∷ before) ended.history ended.said
    along = subst (λ (asked : List (Asked n)). TellsAlong e raw seed asked ended.history ended.said) same ended.along

    was : WasServed e raw seed row before whole told
    was =
        went-on e raw seed row before ended.history whole ended.finished.0 ended.said told (became ended.rest) (λ bank. refl) ended.all
        (each-served e raw seed row later before ended.history ended.said along)

    late : All (λ (event : Event n). tick ≤ event.tick) (events_in later)
    late = (none-sooner e raw seed tick row later before ended.history ended.said along (omega (arith, reached-then row before tick at))).1

    goes : Goes e true raw seed whole (asked_for (events_in asked)) (outcome_in table)
    goes = goes-finished raw seed off whole (asked_for (events_in asked)) (bank_at module_) array (outcome_in table) ended.finished.1

    -- each row has an outcome in the end
    set : (number : ℕ) → 1 ≤ number → number ≤ length (events_in before) → outcome_in table number ≢ Unset
    set number least most =
        let size : length (events_in asked) ≡ length (events_in later ++ events_in before) =
        ap length (ap events_in same ∙ events-both later (row ∷ before) ∙ ap (λ (events : List (Event n)). events_in later ++ events) (events-same row before tick at)) in
        let both = length-append (events_in later) (events_in before) in
        rows-set table e raw seed off (events_in asked) array ended.ends ended.size ended.right number least (omega (arith, size, both, most))

pub so_far_law : SoFarLaw
so_far_law n m e raw seed asked h module_ array told is tells served row later before tick same at = (
  known-then raw seed asked h told is row later before tick same at was late false table goes,
  news-later raw seed asked h told is row later before tick same at was late false table goes,
)
  where
    table : List (Outcome n)
    table = table_of (length (events_in asked)) told

    along : TellsAlong e raw seed (later ++ row ∷ before) h told
    along = subst (λ (asked : List (Asked n)). TellsAlong e raw seed asked h told) same tells

    was : WasServed e raw seed row before h told
    was = each-served e raw seed row later before h told along

    late : All (λ (event : Event n). tick ≤ event.tick) (events_in later)
    late = (none-sooner e raw seed tick row later before h told along (omega (arith, reached-then row before tick at))).1

    goes : Goes e false raw seed h (asked_for (events_in asked)) (outcome_in table)
    goes =
        subst (λ (k : ℕ). Goes e false raw k h (asked_for (events_in asked)) (outcome_in table)) served.seeded
        (subst (λ (r : RawShape). Goes e false r module_.seed h (asked_for (events_in asked)) (outcome_in table)) served.shape
        (goes-so-far h (asked_for (events_in asked)) module_ array table served.replays))

pub whole_law : SettledLaw → {S : Type 0} → WholeStreamLaw S
whole_law law n m e job source array told served =
    law n m e job.shape job.seed (stays_off (is_off job.end) served.asked) (with_cut (is_off job.end) served.asked) served.module_ served.before served.places told served.lawful.shape served.ended

pub begun_law : SoFarLaw → {S : Type 0} → BegunStreamLaw S
begun_law law n m e job source array asked told served =
    law n m e job.shape job.seed asked served.history served.module_ array told served.lawful.shape served.along served.left
