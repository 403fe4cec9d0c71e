-- A stream as it was served behind a row that settles, and as it went on.
use Rattle.std.proofs.Common.{◌≡◌, ℕ, suc, ◌<◌, ◌≤◌, List, [], ◌∷◌, ◌++◌, Some, refl, sym, ap, subst, ◌∙◌, append_assoc, arith}
use Rattle.std.{specs.Prelude.{All, IsSomeAnd, slice_get}, proofs.lemmas.List.append-nil, proofs.lemmas.List.Elements.{All-nil, All-cons}}
use Rattle.trace_reader.specs.declared.event.Event.{Event}
use Rattle.bank_model.specs.Timing.{TimedEvent}
use Rattle.module_shape.specs.declared.raw.RawShape.{RawShape}
use Rattle.pcm_module.specs.{Settling.IsAtTick, State.ModuleState}
use Rattle.row_printer.specs.{Telling.became, declared.told.Told.Told, declared.told.Told.TheVariants.Settled}
use Rattle.trace_stream.specs.{Asked.events_in, declared.asked.Asked.Asked, declared.asked.Asked.TheVariants.{Happens, Settle, Query, Look, Peek, Until, UntilAny}}
use Rattle.row_stream.specs.{Asking.tick_reached, Serving.{AreKnown, HasSettled, TellsAlong, lines_of}}
use Rattle.settle_laws.specs.Settles.{settled_at, settles_in, told_up_to}
use Rattle.settle_laws.proofs.Lines.{became-none, ends-settled, lines-settle, settled-both, settled-lines, settles-more, up-to}

module _ {n : ℕ} where
  pub events-both : (later before : List (Asked n)) → events_in (later ++ before) ≡ events_in later ++ events_in before
  events-both [] before = refl
  events-both (Happens event ∷ later) before = ap (λ events. event ∷ events) (events-both later before)
  events-both (_ ∷ later) before = events-both later before

  -- a row that settles is no event
  pub events-same : (row : Asked n) (before : List (Asked n)) (tick : ℕ) → settled_at row ≡ Some tick → events_in (row ∷ before) ≡ events_in before
  events-same (Happens event) before tick is = absurd (cc is)
  events-same _ before tick is = refl

  -- its tick is the one that is reached by it
  pub reached-then : (row : Asked n) (before : List (Asked n)) (tick : ℕ) → settled_at row ≡ Some tick → tick_reached (row ∷ before) ≡ tick
  reached-then (Happens event) before tick is = absurd (cc is)
  reached-then _ before tick is = cc

  -- one event more that comes no sooner
  one-more : (tick : ℕ) (last : Asked n) (later before : List (Asked n)) → tick ≤ tick_reached (last ∷ before) → All (λ (event : Event n). tick ≤ event.tick) (events_in later)
      → All (λ (event : Event n). tick ≤ event.tick) (events_in (last ∷ later))
  one-more tick (Happens event) later before on late = All-cons (λ (event : Event n). tick ≤ event.tick) event (events_in later) on late
  one-more tick _ later before on late = late

module _ {n m : ℕ} (e : ℕ) (raw : RawShape) (seed : ℕ) where
  -- each bank has come to it
  pub banks-then : (row : Asked n) (tick : ℕ) (module_ : ModuleState n m e) → settled_at row ≡ Some tick → HasSettled e raw seed row module_
      → (bank : ℕ) → bank < module_.shape.banks → IsSomeAnd (slice_get module_.banks bank) (IsAtTick tick)
  banks-then (Happens event) tick module_ is settled = absurd (cc is)
  banks-then (Settle at) tick module_ is settled = λ bank exists.
      (let same : at ≡ tick = cc in subst (λ (t : ℕ). IsSomeAnd (slice_get module_.banks bank) (IsAtTick t)) same (settled bank exists))
  banks-then (Query at) tick module_ is settled = λ bank exists.
      (let same : at ≡ tick = cc in subst (λ (t : ℕ). IsSomeAnd (slice_get module_.banks bank) (IsAtTick t)) same (settled bank exists))
  banks-then (Look at) tick module_ is settled = λ bank exists.
      (let same : at ≡ tick = cc in subst (λ (t : ℕ). IsSomeAnd (slice_get module_.banks bank) (IsAtTick t)) same (settled bank exists))
  banks-then (Peek peek) tick module_ is settled = λ bank exists.
      (let same : peek.tick ≡ tick = cc in subst (λ (t : ℕ). IsSomeAnd (slice_get module_.banks bank) (IsAtTick t)) same (settled.0 bank exists))
  banks-then (Until until) tick module_ is settled = λ bank exists.
      (let same : until.reached ≡ tick = cc in subst (λ (t : ℕ). IsSomeAnd (slice_get module_.banks bank) (IsAtTick t)) same (settled bank exists))
  banks-then (UntilAny until) tick module_ is settled = λ bank exists.
      (let same : until.reached ≡ tick = cc in subst (λ (t : ℕ). IsSomeAnd (slice_get module_.banks bank) (IsAtTick t)) same (settled bank exists))

  -- no event behind a row comes sooner than the tick that it reached
  pub none-sooner : (tick : ℕ) (row : Asked n) (later before : List (Asked n)) (h : ℕ → List (TimedEvent n m)) (told : List (Told n)) → TellsAlong e raw seed (later ++ row ∷ before) h told
      → tick ≤ tick_reached (row ∷ before) → (tick ≤ tick_reached (later ++ row ∷ before)) × All (λ (event : Event n). tick ≤ event.tick) (events_in later)
  none-sooner tick row [] before h told along now = (now, All-nil (λ (event : Event n). tick ≤ event.tick))
  none-sooner tick row (last ∷ later) before h told along now =
      let earlier = none-sooner tick row later before along.0 along.1 along.2 now in
      let rises : tick_reached (later ++ row ∷ before) ≤ tick_reached (last ∷ (later ++ row ∷ before)) = along.7.rises in
      let on : tick ≤ tick_reached (last ∷ (later ++ row ∷ before)) = omega (arith, earlier.0, rises) in
      (on, one-more tick last later (later ++ row ∷ before) on earlier.1)

  -- behind a row parts of the histories had come about, and a first part of what was told had been told: its own lines last
  pub record WasServed (row : Asked n) (before : List (Asked n)) (whole : ℕ → List (TimedEvent n m)) (told : List (Told n)) : Type 0 where
    pub since : ℕ → List (TimedEvent n m)
    pub history : ℕ → List (TimedEvent n m)
    pub part : (bank : ℕ) → whole bank ≡ since bank ++ history bank
    pub said : List (Told n)
    pub rest : List (Told n)
    pub all : told ≡ said ++ rest
    pub known : AreKnown e raw seed row before history said
    pub front : List (Told n)
    pub ends : said ≡ front ++ lines_of row known.module_ known.array
    pub count : settled-lines front ≡ settles_in before

  -- so it was of a stream that went on
  pub went-on : (row : Asked n) (before : List (Asked n)) (whole more added : ℕ → List (TimedEvent n m)) (told all rest : List (Told n))
      → ((bank : ℕ) → more bank ≡ added bank ++ whole bank) → all ≡ told ++ rest → WasServed row before whole told → WasServed row before more all
  went-on row before whole more added told all rest longer further was = record {
    since = λ bank. added bank ++ was.since bank;
    history = was.history;
    part = λ bank.
        longer bank ∙ ap (λ (xs : List (TimedEvent n m)). added bank ++ xs) (was.part bank)
        ∙ sym (append_assoc (added bank) (was.since bank) (was.history bank));
    said = was.said;
    rest = was.rest ++ rest;
    all = further ∙ ap (λ (told : List (Told n)). told ++ rest) was.all ∙ append_assoc was.said was.rest rest;
    known = was.known;
    front = was.front;
    ends = was.ends;
    count = was.count;
  }

  -- with each row that settles a line of a settle is told
  told-settles : (asked : List (Asked n)) (h : ℕ → List (TimedEvent n m)) (told : List (Told n)) → TellsAlong e raw seed asked h told → settled-lines told ≡ settles_in asked
  told-settles [] h told along = ap settled-lines along.1
  told-settles (row ∷ before) h told along =
      let earlier : settled-lines along.1 ≡ settles_in before = told-settles before along.0 along.1 along.2 in
      let both = settled-both (along.1 ++ became along.5) (lines_of row along.7.module_ along.7.array) in
      let first = settled-both along.1 (became along.5) in
      let none = became-none along.5 in
      let own = lines-settle row before along.7.module_ along.7.array in
      ap settled-lines along.8 ∙ omega (arith, earlier, both, first, none, own)

  as-served : (row : Asked n) (before : List (Asked n)) (h : ℕ → List (TimedEvent n m)) (told : List (Told n)) → TellsAlong e raw seed (row ∷ before) h told → WasServed row before h told
  as-served row before h told along = record {
    since = λ bank. [];
    history = h;
    part = λ bank. refl;
    said = told;
    rest = [];
    all = sym (append-nil told);
    known = along.7;
    front = along.1 ++ became along.5;
    ends = along.8;
    count =
        let earlier : settled-lines along.1 ≡ settles_in before = told-settles before along.0 along.1 along.2 in
        let first = settled-both along.1 (became along.5) in
        let none = became-none along.5 in
        omega (arith, earlier, first, none);
  }

  pub each-served : (row : Asked n) (later before : List (Asked n)) (h : ℕ → List (TimedEvent n m)) (told : List (Told n))
      → TellsAlong e raw seed (later ++ row ∷ before) h told → WasServed row before h told
  each-served row [] before h told along = as-served row before h told along
  each-served row (last ∷ later) before h told along =
      went-on row before along.0 h along.3 along.1 told (became along.5 ++ lines_of last along.7.module_ along.7.array)
      (λ bank. ap (λ (h : ℕ → List (TimedEvent n m)). h bank) along.4) (along.8 ∙ append_assoc along.1 (became along.5) (lines_of last along.7.module_ along.7.array))
      (each-served row later before along.0 along.1 along.2)

  -- what had been told behind a row that settles are the lines up to those of so many settles
  pub told-then : (row : Asked n) (before : List (Asked n)) (whole : ℕ → List (TimedEvent n m)) (told : List (Told n)) (tick : ℕ) → settled_at row ≡ Some tick
      → (was : WasServed row before whole told) → told_up_to (settles_in (row ∷ before)) told ≡ was.said
  told-then row before whole told tick is was =
      let last = ends-settled row tick was.known.module_ was.known.array is in
      let front : List (Told n) = was.front ++ last.front in
      let said : was.said ≡ front ++ Settled tick ∷ [] =
      was.ends ∙ ap (λ (lines : List (Told n)). was.front ++ lines) last.whole ∙ sym (append_assoc was.front last.front (Settled tick ∷ [])) in
      let count : settles_in before ≡ settled-lines front = let both = settled-both was.front last.front in omega (arith, both, was.count, last.none) in
      ap (λ (k : ℕ). told_up_to k told) (settles-more row before tick is ∙ ap suc count)
      ∙ ap (told_up_to (suc (settled-lines front))) (was.all ∙ ap (λ (said : List (Told n)). said ++ was.rest) said)
      ∙ up-to front tick was.rest ∙ sym said
