-- What a step of a stream does to what was served before.
use Rattle.std.proofs.Common.{◌≡◌, ◌≢◌, ℕ, ◌<◌, ◌+◌, ◌&&◌, Bool, true, false, List, ◌∷◌, Option, Some, sym, ap, ◌∙◌, subst, inl, inr}
use Rattle.std.specs.Io.KnownBytes.{Appends, IsAtEnd}
use Rattle.cell_rows.specs.Device.{ArrayState}
use Rattle.pcm_io.specs.{Faults.Rose, Giving.AppendsPrefix}
use Rattle.module_shape.specs.{Limits.total_of, declared.raw.RawShape.RawShape}
use Rattle.pcm_module.specs.State.{ModuleState}
use Rattle.row_printer.specs.{Printing.{IsPrinting, Printing, table_told, text_told}, Refusing.any_refused, declared.snapshot.Snapshot.Snapshot, declared.told.Shown.Shown}
use Rattle.row_printer.specs.declared.told.Told.{Told}
use Rattle.trace_stream.specs.{Asked.reached_at, Stream.Standing, declared.asked.Asked.Asked}
use Rattle.row_stream.specs.{Asking.behind_of, Refusing.{EndsBehind, GoesAsFar}, Serving.{IsServing, MayServe, ServesOn, told_before, told_so_far}}
use Rattle.row_stream.specs.{Sourcing.{GivesNext, HasStopped, IsRead, IsReadTo}, Stepping.{GoesOn, IsTaken, Rests, Steps, TakesRow, TellsNoMore, Writes}}
use Rattle.row_stream.specs.{declared.stop.Behind.Behind, declared.stop.StreamStep.StreamStep, declared.stop.StreamStep.TheVariants.{Goes, Ends, Stops}, declared.stop.Stop.Stop}
use Rattle.row_stream.{specs.declared.stop.Stop.TheVariants.Output, proofs.Alike.told-same, proofs.Refusals.{ends-all, ends-there, still-none}}
use Rattle.row_stream.proofs.Rows.{HasFed, far-late, far-no-next, fed-come, fed-ended, fed-given, fed-late, fed-no-next, fed-same, fed-so-far, next-few}

-- rows may be served, too, where a printer was told nothing more
pub may-serve : {n m e : ℕ} {K : Type 0} (module_ : ModuleState n m e) (array : ArrayState n m) (out now : Printing n K) → TellsNoMore out now → MayServe module_ array out → MayServe module_ array now
may-serve module_ array out now same may =
    record {
      raw = may.raw;
      seed = may.seed;
      before = may.before;
      serving = told-same (λ k t p s. IsServing may.raw may.seed may.before module_ array k t p s) out.rows now.rows out.told now.told out.prints now.prints out.snapshots now.snapshots same.rows same.told same.prints same.snapshots may.serving;
    }

module _ {n m e : ℕ} {K : Type 0} (old new : ModuleState n m e) (before after : ArrayState n m) (row : List (Asked n) → Asked n) (out mid now : Printing n K) where
  -- a row was served, and then the printer was told nothing more
  serves-then : ServesOn row old new before after out mid → TellsNoMore mid now → ServesOn row old new before after out now
  serves-then serves same = record {
    serving = λ raw seed asked had.
        let P : ℕ → List (Told n) → Shown → List Snapshot → Type 0 = λ k t p s.
        (has : IsServing raw seed (row asked ∷ asked) new after k t p s) × (told_before (row asked) asked (told_so_far has) ≡ told_so_far had) in
        told-same P mid.rows now.rows mid.told now.told mid.prints now.prints mid.snapshots now.snapshots same.rows same.told same.prints same.snapshots (serves.serving raw seed asked had);
    prints = same.prints ∙ serves.prints;
    wear = serves.wear;
  }

  -- or it was told nothing more before
  serves-behind : TellsNoMore out mid → ServesOn row old new before after mid now → ServesOn row old new before after out now
  serves-behind same serves = record {
    serving = λ raw seed asked.
        let P : ℕ → List (Told n) → Shown → List Snapshot → Type 0 = λ k t p s. (had : IsServing raw seed asked old before k t p s)
        → (has : IsServing raw seed (row asked ∷ asked) new after now.rows now.told now.prints now.snapshots) × (told_before (row asked) asked (told_so_far has) ≡ told_so_far had) in
        told-same P mid.rows out.rows mid.told out.told mid.prints out.prints mid.snapshots out.snapshots (sym same.rows) (sym same.told) (sym same.prints) (sym same.snapshots) (serves.serving raw seed asked);
    prints = serves.prints ∙ same.prints;
    wear = serves.wear;
  }

module _ {n m e : ℕ} {K : Type 0} (stops : Bool) (old new : ModuleState n m e) (before after : ArrayState n m) (out mid now : Printing n K) (row : Asked n) where
  -- a row was served, and then the stream goes on or doesn't
  pub takes-then : (behind : Behind) (step : StreamStep) → ServesOn (λ earlier. reached_at new.tick row) old new before after out mid → TellsNoMore mid now
      → ((earlier : List (Asked n)) → behind ≡ behind_of (row ∷ earlier)) → GoesOn behind (stops && any_refused (table_told now)) step → TakesRow stops old new before after out now row step
  takes-then behind (Goes stands) serves same is goes = record { serves = serves-then old new before after (λ earlier. reached_at new.tick row) out mid now serves same; stands = λ earlier. goes.0 ∙ is earlier; refused = goes.1 }
  takes-then behind (Ends stands) serves same is goes = record { serves = serves-then old new before after (λ earlier. reached_at new.tick row) out mid now serves same; stands = λ earlier. goes.0 ∙ is earlier; refused = goes.1 }
  takes-then behind (Stops stop) serves same is goes =
      inr (goes.0, behind, record { serves = serves-then old new before after (λ earlier. reached_at new.tick row) out mid now serves same; stands = is; refused = goes.1 })

  taken-behind : (behind : Behind) (ended : Bool) → TellsNoMore out mid → IsTaken stops old new before after mid now row behind ended → IsTaken stops old new before after out now row behind ended
  taken-behind behind ended same is = record { serves = serves-behind old new before after (λ earlier. reached_at new.tick row) out mid now same is.serves; stands = is.stands; refused = is.refused }

  -- a row was taken by a printer that had been told nothing more before
  pub takes-behind : (step : StreamStep) → TellsNoMore out mid → TakesRow stops old new before after mid now row step → TakesRow stops old new before after out now row step
  takes-behind (Goes behind) same is = taken-behind behind false same is
  takes-behind (Ends behind) same is = taken-behind behind true same is
  takes-behind (Stops stop) same (inl is) =
      let r = is.rests in
      let p = r.printer in
      inl (record {
        rests = record { same = r.same; array = r.array; printer = record { rows = p.rows ∙ same.rows; told = p.told ∙ same.told; snapshots = p.snapshots ∙ same.snapshots; prints = p.prints ∙ same.prints } };
        below = is.below;
        late = is.late;
      })
  takes-behind (Stops stop) same (inr is) = inr (is.0, is.1, taken-behind is.1 true same is.2)

module _ {n : ℕ} {K : Type 0} (written : K → Option (List ℕ)) (faults : K → ℕ) (out : Printing n K) where
  -- what is printed where a stream stops
  pub writes-stop : (now : Printing n K) (stop : Stop) → now.prints ≡ out.prints
      → ((before : Option (List ℕ)) (first : ℕ) → IsPrinting written faults before first out → IsPrinting written faults before first now)
      → (stop ≢ Output → (before : Option (List ℕ)) (first : ℕ) → IsPrinting written faults before first out → Appends before (written now.sink) (text_told now))
      → (stop ≡ Output → (before : Option (List ℕ)) (first : ℕ) → IsPrinting written faults before first out → AppendsPrefix before (written now.sink) (text_told now) × Rose first (faults now.sink))
      → Writes written faults out now (Stops stop)
  writes-stop now stop prints printing whole part = record {
    prints = prints;
    printing = printing;
    whole = λ is. whole (λ same. is.0 (ap Stops same));
    part = λ is. let same : stop ≡ Output = cc is in part same;
  }

  -- what is printed by a step behind what was printed before it
  pub writes-behind : (mid now : Printing n K) (step : StreamStep) → mid.prints ≡ out.prints
      → ((before : Option (List ℕ)) (first : ℕ) → IsPrinting written faults before first out → IsPrinting written faults before first mid)
      → Writes written faults mid now step → Writes written faults out now step
  writes-behind mid now step prints printing writes = record {
    prints = writes.prints ∙ prints;
    printing = λ before first h. writes.printing before first (printing before first h);
    whole = λ is before first h. writes.whole is before first (printing before first h);
    part = λ is before first h. writes.part is before first (printing before first h);
  }

-- of what a source gave, rows were served, and a step follows
module _ {n m e : ℕ} {stops : Bool} (raw : RawShape) (seed : ℕ) {S K : Type 0} (left : S → Option (List ℕ)) (taken faults : S → ℕ) (first source rest : S)
    (old new : ModuleState n m e) (before after : ArrayState n m) (from onto : Standing) (out now : Printing n K) (was : Behind) (count : ℕ)
    (had : HasFed stops raw seed old before out.rows out.told out.prints out.snapshots left taken faults first source from was count)
    (none : stops ≡ true → any_refused (table_told out) ≡ false) (ends : from.arrived.ended ≡ true → IsAtEnd (left source)) where
  fed-taken : (row : Asked n) (behind : Behind) (ended : Bool) → GivesNext left taken faults source rest from onto (Some row) → IsTaken stops old new before after out now row behind ended
      → HasFed stops raw seed new after now.rows now.told now.prints now.snapshots left taken faults first rest onto behind (count + 1)
  fed-taken row behind ended given is =
      fed-given raw seed left taken faults first old before out.rows out.told out.prints out.snapshots source from was count had new after now.rows now.told now.prints now.snapshots rest onto row behind
      new.tick (λ served. is.serves.serving raw seed had.asked served) none is.stands given

  fed-rests : Rests old new before after out now → HasFed stops raw seed new after now.rows now.told now.prints now.snapshots left taken faults first source from was count
  fed-rests r =
      let p = r.printer in
      let told = fed-same raw seed left taken faults first old before out.rows out.told out.prints out.snapshots source from was count had now.rows now.told now.prints now.snapshots p.rows p.told p.prints p.snapshots in
      subst (λ (x : ModuleState n m e). HasFed stops raw seed x after now.rows now.told now.prints now.snapshots left taken faults first source from was count) (sym r.same)
      (subst (λ (x : ArrayState n m). HasFed stops raw seed old x now.rows now.told now.prints now.snapshots left taken faults first source from was count) (sym r.array) told)

  none-rests : Rests old new before after out now → stops ≡ true → any_refused (table_told now) ≡ false
  none-rests r is = rw (r.printer.rows, r.printer.told) (none is)

  few : (source2 : S) (stream2 : Standing) (behind : Behind) (count2 : ℕ) → HasFed stops raw seed new after now.rows now.told now.prints now.snapshots left taken faults first source2 stream2 behind count2 → now.rows < 4294967295
  few source2 stream2 behind count2 has = next-few raw seed left taken faults first new after now.rows now.told now.prints now.snapshots source2 stream2 behind count2 has

  -- it may go on: a row more was served, none was refused at which it is to stop, and its source ended where it is at its end
  pub step-goes : (behind : Behind) → Steps left taken faults stops old new before after source rest from onto out now was (Goes behind)
      → HasFed stops raw seed new after now.rows now.told now.prints now.snapshots left taken faults first rest onto behind (count + 1)
      × (stops ≡ true → any_refused (table_told now) ≡ false) × (onto.arrived.ended ≡ true → IsAtEnd (left rest))
  step-goes behind (inl is) = (fed-taken is.0 behind false is.1 is.2, still-none stops _ is.2.refused, is.1.at_end ends)
  step-goes behind (inr is) = absurd is.1

  -- it ends
  pub step-ends : (behind : Behind) → Steps left taken faults stops old new before after source rest from onto out now was (Ends behind)
      → (now.rows < 4294967295) × ((asked : List (Asked n)) × (has : IsServing raw seed asked new after now.rows now.told now.prints now.snapshots) × (behind ≡ behind_of asked)
      × EndsBehind stops asked (told_so_far has) (IsRead (total_of raw) left taken faults first rest asked) (IsReadTo (total_of raw) left taken faults first rest asked))
  step-ends behind (inl is) =
      let has = fed-taken is.0 behind true is.1 is.2 in (
        few rest onto behind (count + 1) has,
        (
          has.asked,
          has.serving,
          has.stands,
          ends-there has.serving stops has.went is.2.refused _ _
              (fed-so-far raw seed left taken faults first new after now.rows now.told now.prints now.snapshots rest onto behind (count + 1) has (is.1.at_end ends)),
        ),
      )
  step-ends behind (inr is) =
      let has = fed-rests is.0 in (
        few source from was count has,
        (
          has.asked,
          has.serving,
          is.1.1 ∙ has.stands,
          ends-all has.serving stops (none-rests is.0) _ _
              (fed-ended raw seed left taken faults first new after now.rows now.told now.prints now.snapshots source from was count has rest onto ends is.1.0),
        ),
      )

  -- it stops at a row
  row-stops : (row : Asked n) (stop : Stop) → GivesNext left taken faults source rest from onto (Some row) → TakesRow stops old new before after out now row (Stops stop)
      → (now.rows < 4294967295) × ((asked : List (Asked n)) × (has : IsServing raw seed asked new after now.rows now.told now.prints now.snapshots)
      × HasStopped (total_of raw) left taken faults first rest asked stop × GoesAsFar stop stops asked (told_so_far has))
  row-stops row stop given (inl is) =
      let has = fed-rests is.rests in (
        few source from was count has,
        (
          has.asked,
          has.serving,
          fed-late raw seed left taken faults first new after now.rows now.told now.prints now.snapshots source from was count has stop rest onto row ends given is.below is.late,
          far-late raw seed left taken faults first new after now.rows now.told now.prints now.snapshots source from was count has stop is.late (none-rests is.rests),
        ),
      )
  row-stops row stop given (inr is) =
      let has = fed-taken row is.1 true given is.2 in
      let come = fed-come raw seed left taken faults first new after now.rows now.told now.prints now.snapshots rest onto is.1 (count + 1) has rest (given.at_end ends) in
      let P : Stop → Type 0 = λ why. HasStopped (total_of raw) left taken faults first rest has.asked why × GoesAsFar why stops has.asked (told_so_far has.serving) in
      let stopped : P stop = subst P (sym is.0) ((come, has.calm), has.went) in
      (few rest onto is.1 (count + 1) has, (has.asked, has.serving, stopped.0, stopped.1))

  -- it stops
  pub step-stops : (stop : Stop) → Steps left taken faults stops old new before after source rest from onto out now was (Stops stop)
      → (now.rows < 4294967295) × ((asked : List (Asked n)) × (has : IsServing raw seed asked new after now.rows now.told now.prints now.snapshots)
      × HasStopped (total_of raw) left taken faults first rest asked stop × GoesAsFar stop stops asked (told_so_far has))
  step-stops stop (inl is) = row-stops is.0 stop is.1 is.2
  step-stops stop (inr is) =
      let has = fed-rests is.0 in (
        few source from was count has,
        (
          has.asked,
          has.serving,
          fed-no-next raw seed left taken faults first new after now.rows now.told now.prints now.snapshots source from was count has stop rest onto ends is.1,
          far-no-next raw seed left taken faults first new after now.rows now.told now.prints now.snapshots source from was count has stop rest onto is.1 (none-rests is.0),
        ),
      )
