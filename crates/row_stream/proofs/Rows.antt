-- How the rows of a source are served.
use Rattle.std.proofs.Common.{◌≡◌, ◌≢◌, ℕ, ◌<◌, ◌+◌, ◌-◌, ◌*◌, ◌^◌, ◌≤◌, Bool, true, false, List, [], ◌∷◌, ◌++◌, length, reverse, Option, Some, None, refl, sym, ap, ◌∙◌, subst, arith, inl, inr, length-append, append_assoc}
use Rattle.std.{specs.Io.KnownBytes.IsAtEnd, proofs.lemmas.List.reverse-append}
use Prim.Native.Nat.{max}
use prog.Memory.{up}
use Rattle.cell_rows.specs.Device.{ArrayState}
use Rattle.pcm_io.{specs.Faults.Rose, specs.Taking.Takes, proofs.ByteLemmas.{Takes-Takes, Takes-nothing}}
use Rattle.module_shape.specs.{Limits.total_of, declared.raw.RawShape.RawShape}
use Rattle.pcm_module.specs.State.{ModuleState}
use Rattle.row_printer.specs.{Printing.table_of, Refusing.any_refused, declared.snapshot.Snapshot.Snapshot, declared.told.Shown.Shown, declared.told.Told.Told}
use Rattle.trace_reader.specs.declared.fault.TraceFault.{TraceFault}
use Rattle.trace_reader.specs.declared.fault.Kind.TheVariants as kind
use Rattle.trace_stream.specs.{Arrived.StaysEnded, Asked.{IsAskedFor, IsUnreached, events_in, reached_at, rows_after, tick_asked, tick_named}, Kept.{LacksHeader, decides}}
use Rattle.trace_stream.specs.Stream.{AsksNext, HasFault, HasFront, IsOfText, Opens, Standing, asked_from, front_from, front_of, front_rows, records_left, stream_of}
use Rattle.trace_stream.specs.{declared.asked.Asked.Asked, declared.asked.Asked.TheVariants.{Happens, Settle, Query, Look, Peek, Until, UntilAny}, declared.fault.StreamFault.StreamFault}
use Rattle.trace_stream.proofs.Runs.{HasAsked, asked-all, asked-faulty, asked-first, asked-front, asked-more}
use Rattle.trace_stream.specs.declared.fault.StreamFault.TheVariants as fault
use Rattle.row_stream.specs.{Asking.{behind_of, read_of, tick_reached}, Refusing.{GoesAsFar, WentOn}, Serving.{IsServing, told_before, told_so_far}}
use Rattle.row_stream.specs.{Sourcing.{Fronts, GivesNext, HasAllCome, HasCome, HasNoNext, HasStopped, IsFaulty, IsLate, IsRead, IsReadTo, StopsLate}, declared.stop.Behind.Behind}
use Rattle.row_stream.specs.{declared.stop.Behind.TheVariants.Nothing, declared.stop.Stop.Stop, declared.stop.Stop.TheVariants.{Input, Late, Endless, Output}}
use Rattle.row_stream.proofs.{Alike.told-same, Refusals.{may-go-on, went-first, went-on}}

-- of what a source gave, so many rows and settles were served, and the rest is still to read from here on
pub record HasFed {n m e : ℕ} (stops : Bool) (raw : RawShape) (seed : ℕ) (module_ : ModuleState n m e) (array : ArrayState n m) (places : ℕ) (told : List (Told n)) (shown : Shown) (snaps : List Snapshot)
    {S : Type 0} (left : S → Option (List ℕ)) (taken faults : S → ℕ) (old new : S) (stream : Standing) (behind : Behind) (count : ℕ) : Type 0 where
  pub asked : List (Asked n)
  pub serving : IsServing raw seed asked module_ array places told shown snaps
  pub went : WentOn stops asked (told_so_far serving)
  pub stands : behind ≡ behind_of asked
  pub bytes : List ℕ
  pub takes : Takes (left old) (left new) (taken old) (taken new) bytes
  pub has : HasAsked n (total_of raw) bytes (reverse (read_of asked)) stream
  pub lines : stream.lines ≡ total_of raw
  pub tick : stream.tick ≡ tick_reached (read_of asked)
  pub rows : stream.rows ≡ length (events_in asked)
  pub most : stream.rows ≤ 4294967294
  pub calm : faults new ≡ faults old
  pub counted : length asked ≡ count

-- what was asked stands in front of what is still asked
fronts : {n : ℕ} (lines : ℕ) (bytes : List ℕ) (asked : List (Asked n)) (stream : Standing) → HasAsked n lines bytes (reverse asked) stream → Fronts lines bytes stream.arrived.ended asked
fronts {n} lines bytes asked stream has = λ more comes. (front_from n stream more, has.front more comes)

-- an asked row fits in memory
row_le : (a b : ℕ) → a ≤ 136 → b ≤ 128 → up 8 (8 + up 4 (max 8 (max a (max (up 1 a + (b * 1)) 1)))) ≤ 284
row_le a b h k = omega arith

row_below : (event : ℕ) → event ≤ 284 → up 8 (max (8 + event) 32) < 9223372036854775808
row_below event h = omega arith

first_le : (b : ℕ) → b ≤ 128 → 8 + (b * 1) ≤ 136
first_le b h = omega arith

pub asked_fits : (b : ℕ) → b ≤ 128 → up 8 (max (8 + up 8 (8 + up 4 (max 8 (max (8 + (b * 1)) (max (up 1 (8 + (b * 1)) + (b * 1)) 1))))) 32) < 9223372036854775808
asked_fits b h = row_below _ (row_le _ b (first_le b h) h)

-- how a module stands behind a row is the same whatever the row reached
behind-reached : {n : ℕ} (tick : ℕ) (asked : Asked n) (before : List (Asked n)) → behind_of (asked ∷ before) ≡ behind_of (reached_at tick asked ∷ before)
behind-reached tick (Happens event) before = refl
behind-reached tick (Settle at) before = refl
behind-reached tick (Query at) before = refl
behind-reached tick (Look at) before = refl
behind-reached tick (Peek peek) before = refl
behind-reached tick (Until until) before = refl
behind-reached tick (UntilAny until) before = refl

-- a row as it was read, whatever it reached since
reread : {n : ℕ} (stood tick reached : ℕ) → stood ≡ tick → (asked : Asked n) → IsUnreached stood asked → reached_at tick (reached_at reached asked) ≡ asked
reread stood tick reached same (Happens event) is = refl
reread stood tick reached same (Settle at) is = refl
reread stood tick reached same (Query at) is = refl
reread stood tick reached same (Look at) is = refl
reread stood tick reached same (Peek peek) is = refl
reread {n = n} stood tick reached same (UntilAny until) is =
    let again : ℕ → Asked n = λ t. UntilAny (record { limit = until.limit; reached = t }) in
    ap again (sym (is ∙ same))
reread {n = n} stood tick reached same (Until until) is =
    let again : ℕ → Asked n = λ t. Until (record { row = until.row; limit = until.limit; reached = t }) in
    ap again (sym (is ∙ same))

-- what may be asked at a tick may be asked at a later one that it doesn't come before
pub later-asked : {n : ℕ} (lines before now : ℕ) (asked : Asked n) → IsAskedFor lines before asked → now ≤ tick_named asked → IsAskedFor lines now asked
later-asked lines before now (Happens event) lawful named = record { rises = named; in_time = lawful.in_time; op = lawful.op }
later-asked lines before now (Settle at) lawful named = (named, lawful.1)
later-asked lines before now (Query at) lawful named = (named, lawful.1)
later-asked lines before now (Look at) lawful named = (named, lawful.1)
later-asked lines before now (Peek peek) lawful named = (named, lawful.1, lawful.2)
later-asked lines before now (Until until) lawful named = (named, lawful.1)
later-asked lines before now (UntilAny until) lawful named = (named, lawful.1)

-- and so behind the tick 0, of as many lines
pub asked-ever : {n : ℕ} (lines total before : ℕ) (asked : Asked n) → lines ≡ total → IsAskedFor lines before asked → IsAskedFor total 0 asked
asked-ever lines total before asked same lawful = later-asked total before 0 asked (subst (λ (k : ℕ). IsAskedFor k before asked) same lawful) (omega arith)

module _ (n lines : ℕ) {S : Type 0} (left : S → Option (List ℕ)) (taken faults : S → ℕ) (old : S) where
  -- nothing came
  pub come-none : (new : S) → HasCome {n = n} lines left taken faults old new []
  come-none new = record {
    bytes = [];
    between = left old;
    came = (Takes-nothing (left old) 0).first;
    ended = false;
    at_end = λ is. cc is;
    front = λ more comes. (front_of n lines more, refl);
  }

  -- why there is no first row
  pub open-stopped : (new : S) (found : StreamFault)
      → (IsOfText found → (bytes : List ℕ) × (ended : Bool) × Takes (left old) (left new) (taken old) (taken new) bytes × (ended ≡ true → IsAtEnd (left new))
      × ((k : ℕ) → HasFault (stream_of k lines) bytes found ended × HasFront (front_of k lines) bytes [] ended))
      → (found ≡ fault.Read → Rose (faults old) (faults new))
      → (found ≡ fault.Read → (bytes : List ℕ) × Takes (left old) (left new) (taken old) (taken new) bytes × LacksHeader bytes)
      → (found ≡ fault.Endless → (bytes : List ℕ) × Takes (left old) (left new) (taken old) (taken new) bytes × (2 ^ 64 - 1 ≤ length bytes))
      → (found ≢ fault.Read → faults new ≡ faults old)
      → HasStopped {n = n} lines left taken faults old new [] (Input found)
  open-stopped new (fault.Trace f) text fails lacks past calm =
      let of = text ((λ is. cc is), (λ is. cc is), (λ is. cc is)) in
      record { bytes = of.0; takes = of.2; ended = of.1; at_end = of.3; front = (of.4 n).1; fault = (of.4 n).0; calm = calm (λ is. cc is) }
  open-stopped new fault.TooMany text fails lacks past calm =
      let of = text ((λ is. cc is), (λ is. cc is), (λ is. cc is)) in
      record { bytes = of.0; takes = of.2; ended = of.1; at_end = of.3; front = (of.4 n).1; fault = (of.4 n).0; calm = calm (λ is. cc is) }
  open-stopped new fault.Read text fails lacks past calm =
      let came = lacks refl in
      (come-none new, fails refl, inr (record { bytes = came.0; takes = came.1; lacks = came.2; none = refl }))
  open-stopped new fault.Endless text fails lacks past calm = (come-none new, calm (λ is. cc is), past refl)
  open-stopped new fault.NoMemory text fails lacks past calm = (come-none new, calm (λ is. cc is), refl)

module _ {n m e : ℕ} {stops : Bool} (raw : RawShape) (seed : ℕ) {S : Type 0} (left : S → Option (List ℕ)) (taken faults : S → ℕ) (old : S) where
  -- the header was read
  pub fed-first : (module_ : ModuleState n m e) (array : ArrayState n m) (places : ℕ) (told : List (Told n)) (shown : Shown) (snaps : List Snapshot) (new : S) (stream : Standing)
      → IsServing raw seed [] module_ array places told shown snaps
      → (bytes : List ℕ) → Takes (left old) (left new) (taken old) (taken new) bytes → Opens (total_of raw) bytes stream
      → stream.rows ≡ 0 → stream.tick ≡ 0 → stream.lines ≡ total_of raw → faults new ≡ faults old
      → HasFed stops raw seed module_ array places told shown snaps left taken faults old new stream Nothing 0
  fed-first module_ array places told shown snaps new stream serving bytes takes opens rows tick lines calm = record {
    asked = [];
    serving = serving;
    went = went-first stops (told_so_far serving);
    stands = refl;
    bytes = bytes;
    takes = takes;
    has = asked-first n (total_of raw) bytes stream opens;
    lines = lines;
    tick = tick;
    rows = rows;
    most = omega (arith, rows);
    calm = calm;
    counted = refl;
  }

  module _ (module_ : ModuleState n m e) (array : ArrayState n m) (places : ℕ) (told : List (Told n)) (shown : Shown) (snaps : List Snapshot) (mid : S) (stream : Standing) (behind : Behind) (count : ℕ)
      (had : HasFed stops raw seed module_ array places told shown snaps left taken faults old mid stream behind count) where
    -- a row more may be served
    pub next-few : places < 4294967295
    next-few = omega (arith, had.serving.counted, had.rows, had.most)

    rows-next : (tick : ℕ) (asked : Asked n) (rows : ℕ) → rows ≡ rows_after stream.rows asked → rows ≡ length (events_in (reached_at tick asked ∷ had.asked))
    rows-next tick (Happens event) rows is = omega (arith, is, had.rows)
    rows-next tick (Settle at) rows is = omega (arith, is, had.rows)
    rows-next tick (Query at) rows is = omega (arith, is, had.rows)
    rows-next tick (Look at) rows is = omega (arith, is, had.rows)
    rows-next tick (Peek peek) rows is = omega (arith, is, had.rows)
    rows-next tick (Until until) rows is = omega (arith, is, had.rows)
    rows-next tick (UntilAny until) rows is = omega (arith, is, had.rows)

    -- a row more was served
    pub fed-more : (new_module : ModuleState n m e) (after : ArrayState n m) (places2 : ℕ) (told2 : List (Told n)) (shown2 : Shown) (snaps2 : List Snapshot) (new : S) (now : Standing) (asked : Asked n) (stands : Behind)
        → (reached : ℕ) → ((old : IsServing raw seed had.asked module_ array places told shown snaps)
        → (now : IsServing raw seed (reached_at reached asked ∷ had.asked) new_module after places2 told2 shown2 snaps2) × (told_before (reached_at reached asked) had.asked (told_so_far now) ≡ told_so_far old))
        → (stops ≡ true → any_refused (table_of places told) ≡ false)
        → ((before : List (Asked n)) → stands ≡ behind_of (asked ∷ before))
        → (bytes : List ℕ) → Takes (left mid) (left new) (taken mid) (taken new) bytes → StaysEnded stream.arrived.ended bytes now.arrived.ended → AsksNext stream bytes (Some asked) now
        → now.lines ≡ stream.lines → now.rows ≡ rows_after stream.rows asked → now.rows ≤ 4294967294 → now.tick ≡ tick_asked asked → IsUnreached stream.tick asked → faults new ≡ faults mid
        → HasFed stops raw seed new_module after places2 told2 shown2 snaps2 left taken faults old new now stands (count + 1)
    fed-more new_module after places2 told2 shown2 snaps2 new now asked stands reached serves none behinds bytes takes stays asks lines rows most tick unreached calm =
        let turned : reverse (asked ∷ read_of had.asked) ≡ reverse (read_of had.asked) ++ asked ∷ [] = reverse-append (asked ∷ []) (read_of had.asked) in
        let same : read_of (reached_at reached asked ∷ had.asked) ≡ asked ∷ read_of had.asked =
        ap (λ (a : Asked n). a ∷ read_of had.asked) (reread stream.tick (tick_reached (read_of had.asked)) reached had.tick asked unreached) in
        let P : List (Asked n) → Type 0 = λ all. HasAsked n (total_of raw) (had.bytes ++ bytes) all now in
        let Q : List (Asked n) → Type 0 = λ read. P (reverse read) in
        let served = serves had.serving in
        record {
          asked = reached_at reached asked ∷ had.asked;
          serving = served.0;
          went = went-on had.serving served.0 served.1 stops none;
          stands = behinds had.asked ∙ behind-reached reached asked had.asked;
          bytes = had.bytes ++ bytes;
          takes = Takes-Takes _ _ _ _ _ _ _ _ had.takes takes;
          has = subst Q (sym same) (subst P (sym turned) (asked-more n (total_of raw) had.bytes bytes (reverse (read_of had.asked)) asked stream now had.has stays asks));
          lines = lines ∙ had.lines;
          tick = tick ∙ reaches asked (read_of had.asked) ∙ ap tick_reached (sym same);
          rows = rows-next reached asked now.rows rows;
          most = most;
          calm = calm ∙ had.calm;
          counted = omega (arith, had.counted);
        }
      where
        reaches : (asked : Asked n) (before : List (Asked n)) → tick_asked asked ≡ tick_reached (asked ∷ before)
        reaches (Happens event) before = refl
        reaches (Settle at) before = refl
        reaches (Query at) before = refl
        reaches (Look at) before = refl
        reaches (Peek peek) before = refl
        reaches (Until until) before = refl
        reaches (UntilAny until) before = refl

    -- a printer that was told the same
    pub fed-same : (places2 : ℕ) (told2 : List (Told n)) (shown2 : Shown) (snaps2 : List Snapshot) → places2 ≡ places → told2 ≡ told → shown2 ≡ shown → snaps2 ≡ snaps
        → HasFed stops raw seed module_ array places2 told2 shown2 snaps2 left taken faults old mid stream behind count
    fed-same places2 told2 shown2 snaps2 r t p s =
        told-same (λ k t p s. HasFed stops raw seed module_ array k t p s left taken faults old mid stream behind count) places places2 told told2 shown shown2 snaps snaps2 r t p s had

    -- the row that a reader gave was served
    pub fed-given : (new_module : ModuleState n m e) (after : ArrayState n m) (places2 : ℕ) (told2 : List (Told n)) (shown2 : Shown) (snaps2 : List Snapshot) (new : S) (now : Standing) (asked : Asked n) (stands : Behind)
        → (reached : ℕ) → ((old : IsServing raw seed had.asked module_ array places told shown snaps)
        → (now : IsServing raw seed (reached_at reached asked ∷ had.asked) new_module after places2 told2 shown2 snaps2) × (told_before (reached_at reached asked) had.asked (told_so_far now) ≡ told_so_far old))
        → (stops ≡ true → any_refused (table_of places told) ≡ false)
        → ((before : List (Asked n)) → stands ≡ behind_of (asked ∷ before))
        → GivesNext left taken faults mid new stream now (Some asked)
        → HasFed stops raw seed new_module after places2 told2 shown2 snaps2 left taken faults old new now stands (count + 1)
    fed-given new_module after places2 told2 shown2 snaps2 new now asked stands reached serves none behinds given =
        fed-more new_module after places2 told2 shown2 snaps2 new now asked stands reached serves none behinds given.bytes given.takes given.stays given.asks given.lines given.row.0 given.row.1 given.row.2 given.waits.1 given.calm

    -- there is none
    pub fed-all : (new : S) (now : Standing) (bytes : List ℕ) → Takes (left mid) (left new) (taken mid) (taken new) bytes → StaysEnded stream.arrived.ended bytes now.arrived.ended
        → AsksNext {n = n} stream bytes None now → (now.arrived.ended ≡ true → IsAtEnd (left new)) → faults new ≡ faults mid
        → IsRead (total_of raw) left taken faults old new had.asked
    fed-all new now bytes takes stays asks ends calm = record {
      bytes = had.bytes ++ bytes;
      takes = Takes-Takes _ _ _ _ _ _ _ _ had.takes takes;
      ended = ends asks.1;
      stream = asked-all n (total_of raw) had.bytes bytes (reverse (read_of had.asked)) stream now had.has stays asks;
      calm = calm ∙ had.calm;
    }

    -- what came so far, where no more is asked for
    pub fed-so-far : (stream.arrived.ended ≡ true → IsAtEnd (left mid)) → IsReadTo (total_of raw) left taken faults old mid had.asked
    fed-so-far ends = record {
      bytes = had.bytes;
      takes = had.takes;
      ended = stream.arrived.ended;
      at_end = ends;
      front = fronts (total_of raw) had.bytes (read_of had.asked) stream had.has;
      calm = had.calm;
    }

    -- what came so far
    pub fed-come : (new : S) → (stream.arrived.ended ≡ true → IsAtEnd (left mid)) → HasCome (total_of raw) left taken faults old new had.asked
    fed-come new ends = record {
      bytes = had.bytes;
      between = left mid;
      came = had.takes.first;
      ended = stream.arrived.ended;
      at_end = ends;
      front = fronts (total_of raw) had.bytes (read_of had.asked) stream had.has;
    }

    -- the row that a reader gave comes too late
    given-late : (new : S) (now : Standing) (asked : Asked n) → (stream.arrived.ended ≡ true → IsAtEnd (left mid)) → GivesNext left taken faults mid new stream now (Some asked) → tick_named asked < module_.tick
        → (found : TraceFault) → found.row ≡ places + 1 → found.kind ≡ kind.Order → IsLate (total_of raw) left taken faults old new had.asked found
    given-late new now asked ends given below found row is =
        let turned : reverse (asked ∷ read_of had.asked) ≡ reverse (read_of had.asked) ++ asked ∷ [] = reverse-append (asked ∷ []) (read_of had.asked) in
        let P : List (Asked n) → Type 0 = λ all. HasAsked n (total_of raw) (had.bytes ++ given.bytes) all now in
        record {
          bytes = had.bytes ++ given.bytes;
          takes = Takes-Takes _ _ _ _ _ _ _ _ had.takes given.takes;
          ended = now.arrived.ended;
          at_end = given.at_end ends;
          late = asked;
          front =
              fronts (total_of raw) (had.bytes ++ given.bytes) (asked ∷ read_of had.asked) now
              (subst P (sym turned) (asked-more n (total_of raw) had.bytes given.bytes (reverse (read_of had.asked)) asked stream now had.has given.stays given.asks));
          below = subst (λ (t : ℕ). tick_named asked < t) had.serving.tick below;
          row = row ∙ ap (λ (k : ℕ). k + 1) had.serving.counted;
          kind = is;
          calm = given.calm ∙ had.calm;
        }

    -- so the stream stops, once what is known is written
    pub fed-late : (stop : Stop) (new : S) (now : Standing) (asked : Asked n) → (stream.arrived.ended ≡ true → IsAtEnd (left mid)) → GivesNext left taken faults mid new stream now (Some asked)
        → tick_named asked < module_.tick → StopsLate places stop → HasStopped (total_of raw) left taken faults old new had.asked stop
    fed-late (Input found) new now asked ends given below is = absurd is
    fed-late (Late found) new now asked ends given below is = given-late new now asked ends given below found is.0 is.1
    fed-late Output new now asked ends given below is = (fed-come new ends, given.calm ∙ had.calm)
    fed-late Endless new now asked ends given below is = absurd is

    -- and how far it went
    pub far-late : (stop : Stop) → StopsLate places stop → (stops ≡ true → any_refused (table_of places told) ≡ false) → GoesAsFar stop stops had.asked (told_so_far had.serving)
    far-late (Input found) is calm = absurd is
    far-late (Late found) is calm = may-go-on had.serving stops calm
    far-late Output is calm = had.went
    far-late Endless is calm = absurd is

    -- all rows that came whole
    pub fed-whole : (new : S) (bytes : List ℕ) → Takes (left mid) (left new) (taken mid) (taken new) bytes → stream.arrived.ended ≡ false
        → decides stream.state 0 (stream.arrived.bytes ++ bytes) ≡ false → HasAllCome (total_of raw) left taken faults old new had.asked
    unfolding front_from
    fed-whole new bytes takes unended none = record {
      bytes = had.bytes ++ bytes;
      takes = Takes-Takes _ _ _ _ _ _ _ _ had.takes takes;
      at = record { arrived = record { bytes = stream.arrived.bytes ++ bytes; ended = false }; state = stream.state; rows = stream.rows; tick = stream.tick; lines = stream.lines };
      front = λ more.
          let F : List ℕ → List (Asked n) = λ rest. front_rows n stream.lines stream.rows stream.tick (records_left stream.state rest) in
          ap (front_of n (total_of raw)) (append_assoc had.bytes bytes more) ∙ had.has.front (bytes ++ more) (λ is. absurd (cc (is, unended)))
          ∙ ap (λ rest. reverse (read_of had.asked) ++ F rest) (sym (append_assoc stream.arrived.bytes bytes more));
      undecided = none;
    }

    fed-fault : (new : S) (now : Standing) (found : StreamFault) (bytes : List ℕ) → Takes (left mid) (left new) (taken mid) (taken new) bytes → StaysEnded stream.arrived.ended bytes now.arrived.ended
        → (now.arrived.ended ≡ true → IsAtEnd (left new)) → HasFault (asked_from n stream) bytes found now.arrived.ended
        → HasFront (front_from n stream) bytes [] now.arrived.ended → faults new ≡ faults mid
        → IsFaulty (total_of raw) left taken faults old new had.asked found
    fed-fault new now found bytes takes stays ends faulty none calm =
        record {
          bytes = had.bytes ++ bytes;
          takes = Takes-Takes _ _ _ _ _ _ _ _ had.takes takes;
          ended = now.arrived.ended;
          at_end = ends;
          front = asked-front n (total_of raw) had.bytes bytes (reverse (read_of had.asked)) stream now.arrived.ended had.has stays none;
          fault = asked-faulty n (total_of raw) had.bytes bytes (reverse (read_of had.asked)) stream found now.arrived.ended had.has stays faulty;
          calm = calm ∙ had.calm;
        }

    -- why there is no row more
    pub fed-stopped : (new : S) (now : Standing) (found : StreamFault)
        → (IsOfText found → (bytes : List ℕ) × Takes (left mid) (left new) (taken mid) (taken new) bytes × StaysEnded stream.arrived.ended bytes now.arrived.ended
        × ((stream.arrived.ended ≡ true → IsAtEnd (left mid)) → now.arrived.ended ≡ true → IsAtEnd (left new)) × HasFault (asked_from n stream) bytes found now.arrived.ended
        × HasFront (front_from n stream) bytes [] now.arrived.ended)
        → (stream.arrived.ended ≡ true → IsAtEnd (left mid))
        → (found ≡ fault.Read → Rose (faults mid) (faults new))
        → (found ≡ fault.Read → (bytes : List ℕ) × Takes (left mid) (left new) (taken mid) (taken new) bytes × (stream.arrived.ended ≡ false)
        × (decides stream.state 0 (stream.arrived.bytes ++ bytes) ≡ false))
        → (found ≡ fault.Endless → (bytes : List ℕ) × Takes (left mid) (left new) (taken mid) (taken new) bytes × (2 ^ 64 - 1 ≤ length bytes))
        → (found ≢ fault.Read → faults new ≡ faults mid)
        → found ≢ fault.NoMemory
        → HasStopped (total_of raw) left taken faults old new had.asked (Input found)
    fed-stopped new now (fault.Trace f) text ends fails whole past calm memory =
        let of = text ((λ is. cc is), (λ is. cc is), (λ is. cc is)) in
        fed-fault new now (fault.Trace f) of.0 of.1 of.2 (of.3 ends) of.4 of.5 (calm (λ is. cc is))
    fed-stopped new now fault.TooMany text ends fails whole past calm memory =
        let of = text ((λ is. cc is), (λ is. cc is), (λ is. cc is)) in
        fed-fault new now fault.TooMany of.0 of.1 of.2 (of.3 ends) of.4 of.5 (calm (λ is. cc is))
    fed-stopped new now fault.Read text ends fails whole past calm memory =
        let came = whole refl in
        (fed-come new ends, subst (λ k. Rose k (faults new)) had.calm (fails refl), inl (fed-whole new came.0 came.1 came.2 came.3))
    fed-stopped new now fault.Endless text ends fails whole past calm memory =
        let of = past refl in
        let more : length (had.bytes ++ of.0) ≡ length had.bytes + length of.0 = length-append had.bytes of.0 in
        let long : 2 ^ 64 - 1 ≤ length of.0 = of.2 in
        (fed-come new ends, calm (λ is. cc is) ∙ had.calm, (had.bytes ++ of.0, Takes-Takes _ _ _ _ _ _ _ _ had.takes of.1, omega (arith, more, long)))
    fed-stopped new now fault.NoMemory text ends fails whole past calm memory = absurd (memory refl)

    pub fed-ended : (new : S) (now : Standing) → (stream.arrived.ended ≡ true → IsAtEnd (left mid)) → GivesNext {n = n} left taken faults mid new stream now None
        → IsRead (total_of raw) left taken faults old new had.asked
    fed-ended new now ends given = fed-all new now given.bytes given.takes given.stays given.asks (given.at_end ends) given.calm

    -- why there is no next row, and that no output was lost for it
    pub fed-no-next : (stop : Stop) (new : S) (now : Standing) → (stream.arrived.ended ≡ true → IsAtEnd (left mid)) → HasNoNext n left taken faults mid new stream now stop
        → HasStopped (total_of raw) left taken faults old new had.asked stop
    fed-no-next (Input found) new now ends none =
        fed-stopped new now found none.text ends none.fails none.sparing none.endless none.calm none.memory
    fed-no-next (Late found) new now ends none = absurd none
    fed-no-next Output new now ends none = (fed-come new ends, ap faults none ∙ had.calm)
    fed-no-next Endless new now ends none = absurd none

    -- and how far it went
    pub far-no-next : (stop : Stop) (new : S) (now : Standing) → HasNoNext n left taken faults mid new stream now stop → (stops ≡ true → any_refused (table_of places told) ≡ false)
        → GoesAsFar stop stops had.asked (told_so_far had.serving)
    far-no-next (Input found) new now none calm = may-go-on had.serving stops calm
    far-no-next (Late found) new now none calm = absurd none
    far-no-next Output new now none calm = had.went
    far-no-next Endless new now none calm = absurd none
