-- That a source is asked only behind all that is known.
use Rattle.std.proofs.Common.{◌≡◌, ℕ, zero, suc, Bool, List, [], Option, refl, sym, subst, inl, inr}
use Rattle.std.specs.Io.KnownBytes.{Appends}
use Rattle.cell_rows.specs.Device.{ArrayState}
use Rattle.pcm_io.specs.Taking.{Takes}
use Rattle.module_shape.specs.{Limits.total_of, declared.raw.RawShape.RawShape}
use Rattle.pcm_module.specs.State.{ModuleState}
use Rattle.row_printer.specs.{Printing.{IsPrinting, Printing, stream_text, text_told}, declared.snapshot.Snapshot.Snapshot, declared.told.Shown.Shown, declared.told.Told.Told}
use Rattle.trace_stream.{specs.Kept.LacksHeader, specs.Requests.{AsksWhere, LacksRow}, specs.Stream.Standing, proofs.Requests.asks-takes}
use Rattle.row_stream.specs.{Serving.{IsServing, told_so_far}, Stepping.AsksBehind, Waiting.{HasTold, IsTextOf, TellsFirst}, declared.stop.Behind.Behind}
use Rattle.row_stream.proofs.Rows.{HasFed, fed-whole}

module _ (n m e : ℕ) (raw : RawShape) (seed : ℕ) {S K : Type 0} (left : S → Option (List ℕ)) (taken faults : S → ℕ) (first : S) (written : K → Option (List ℕ)) (failed : K → ℕ)
    (before : Option (List ℕ)) (start : ℕ) where
  -- so often it was asked, where this is shown
  abbrev pub Tells : Shown → S → Type 0
  Tells shown source = (times : ℕ) × TellsFirst {n = n} (total_of raw) left taken faults first written before (IsTextOf n m e raw seed shown) times source

  -- a request more each time, where this is told before each
  tells-requests : (shown : Shown) (IsWanting : List ℕ → Type 0) (mid : S)
      → ((earlier : S) (came : List ℕ) → Takes (left mid) (left earlier) (taken mid) (taken earlier) came → IsWanting came
      → HasTold {n = n} (total_of raw) left taken faults first written before (IsTextOf n m e raw seed shown) earlier)
      → (times : ℕ) (bytes : List ℕ) (new : S) → AsksWhere left taken IsWanting mid times bytes new → Tells shown mid → Tells shown new
  tells-requests shown IsWanting mid told zero bytes new asks tells = subst (Tells shown) (sym asks.1) tells
  tells-requests shown IsWanting mid told (suc times) bytes new asks tells =
      let was = tells-requests shown IsWanting mid told times asks.1 asks.0 asks.2 tells in
      (suc was.0, (asks.0, was.1, told asks.0 asks.1 (asks-takes left taken IsWanting mid times asks.1 asks.0 asks.2) asks.3, asks.4, asks.5))

  -- for the header, behind nothing but what is told before the first row
  pub tells-header : (module_ : ModuleState n m e) (array : ArrayState n m) (places : ℕ) (told : List (Told n)) (shown : Shown) (snaps : List Snapshot) (new : S) (sink : K)
      → (times : ℕ) × (bytes : List ℕ) × AsksWhere left taken LacksHeader first times bytes new
      → IsServing raw seed [] module_ array places told shown snaps → Appends before (written sink) (stream_text shown told snaps) → Tells shown new
  tells-header module_ array places told shown snaps new sink asks serving wrote =
      tells-requests shown LacksHeader first
      (λ earlier came takes lacks. record {
        asked = [];
        come = inr (record { bytes = came; takes = takes; lacks = lacks; none = refl });
        text = stream_text shown told snaps;
        told = record { telling = told_so_far serving; snapshots = snaps; snaps = serving.snaps; is = refl };
        sink = sink;
        written = wrote;
      }) asks.0 asks.1 new asks.2 (zero, refl)

  module _ {stops : Bool} (module_ : ModuleState n m e) (array : ArrayState n m) (out : Printing n K) (mid : S) (stream : Standing) (behind : Behind) (count : ℕ)
      (had : HasFed stops raw seed module_ array out.rows out.told out.prints out.snapshots left taken faults first mid stream behind count) where
    -- for a row more, behind those that were served
    pub tells-more : (shown : Shown) → out.prints ≡ shown → (new : S) → IsPrinting written failed before start out
        → AsksBehind left taken written failed mid new stream out → Tells shown mid → Tells shown new
    tells-more shown prints new printing (inl is) tells = subst (Tells shown) (sym is) tells
    tells-more shown prints new printing (inr is) tells =
        let by = is.0 in
        let same = is.1 in
        tells-requests shown (LacksRow stream.state stream.arrived) mid
        (λ earlier came takes lacks. record {
          asked = had.asked;
          come = inl (fed-whole raw seed left taken faults first module_ array out.rows out.told out.prints out.snapshots mid stream behind count had earlier came takes lacks.0 lacks.1);
          text = text_told by;
          told =
              subst (λ (s : Shown). IsTextOf n m e raw seed s had.asked (text_told by)) prints
              (record { telling = told_so_far had.serving; snapshots = out.snapshots; snaps = had.serving.snaps; is = rw (same.prints, same.told, same.snapshots) refl });
          sink = by.sink;
          written = is.2 before start printing;
        }) is.3 is.4 new is.5 tells
