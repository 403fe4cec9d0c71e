-- That a stream stops behind its first refusal, where it is to stop there.
use Rattle.std.proofs.Common.{◌≡◌, ℕ, Bool, true, false, ◌&&◌, List, [], ◌∷◌, refl, sym, ap, ◌∙◌, subst, inl, inr}
use Rattle.cell_rows.specs.Device.{ArrayState}
use Rattle.module_shape.specs.declared.raw.RawShape.{RawShape}
use Rattle.pcm_module.specs.State.{ModuleState}
use Rattle.row_printer.specs.{Printing.table_of, Refusing.any_refused, declared.snapshot.Snapshot.Snapshot, declared.told.Shown.Shown, declared.told.Told.Told}
use Rattle.trace_stream.specs.declared.asked.Asked.{Asked}
use Rattle.row_stream.specs.{Refusing.{EndsBehind, MayGoOn, NoneBefore, WentOn, tells_refusal}, Serving.{IsServing, Telling, told_before, told_so_far}}

-- nothing was refused before the first row
pub none-first : {n m e : ℕ} {raw : RawShape} {seed : ℕ} {module_ : ModuleState n m e} {array : ArrayState n m} {places : ℕ} {told : List (Told n)} {shown : Shown} {snaps : List Snapshot}
    → IsServing raw seed [] module_ array places told shown snaps → any_refused (table_of places told) ≡ false
none-first {n} {places = places} {told = told} start =
    let P : ℕ → List (Told n) → Type 0 = λ k t. any_refused (table_of k t) ≡ false in
    subst (λ k. P k told) (sym start.counted) (subst (P 0) (sym start.along.1) refl)

-- where no refusal stops a stream, none was told
pub still-none : (stops refused : Bool) → (stops && refused) ≡ false → stops ≡ true → refused ≡ false
still-none false refused on is = absurd (cc is)
still-none true refused on is = on

module _ {n m e : ℕ} {raw : RawShape} {seed : ℕ} {asked : List (Asked n)} {module_ : ModuleState n m e} {array : ArrayState n m} {places : ℕ} {told : List (Told n)} {shown : Shown} {snaps : List Snapshot}
    (had : IsServing raw seed asked module_ array places told shown snaps) where
  pub told-refusal : tells_refusal asked (told_so_far had) ≡ any_refused (table_of places told)
  told-refusal = ap (λ (k : ℕ). any_refused (table_of k told)) (sym had.counted)

  pub may-go-on : (stops : Bool) → (stops ≡ true → any_refused (table_of places told) ≡ false) → MayGoOn stops asked (told_so_far had)
  may-go-on false none = tt
  may-go-on true none = told-refusal ∙ none refl

  pub ends-all : (stops : Bool) → (stops ≡ true → any_refused (table_of places told) ≡ false) → (All Some : Type 0) → All → EndsBehind stops asked (told_so_far had) All Some
  ends-all false none All Some all = all
  ends-all true none All Some all = inl (told-refusal ∙ none refl, all)

  module _ {row : Asked n} {module2 : ModuleState n m e} {array2 : ArrayState n m} {places2 : ℕ} {told2 : List (Told n)} {shown2 : Shown} {snaps2 : List Snapshot}
      (has : IsServing raw seed (row ∷ asked) module2 array2 places2 told2 shown2 snaps2) (follows : told_before row asked (told_so_far has) ≡ told_so_far had) where
    none-before : any_refused (table_of places told) ≡ false → NoneBefore (row ∷ asked) (told_so_far has)
    none-before none = ap (λ t. tells_refusal asked t) follows ∙ told-refusal ∙ none

    pub went-on : (stops : Bool) → (stops ≡ true → any_refused (table_of places told) ≡ false) → WentOn stops (row ∷ asked) (told_so_far has)
    went-on false none = tt
    went-on true none = none-before (none refl)

  pub ends-there : (stops : Bool) → WentOn stops asked (told_so_far had) → (stops && any_refused (table_of places told)) ≡ true → (All Some : Type 0) → Some → EndsBehind stops asked (told_so_far had) All Some
  ends-there false went is All Some some = absurd (cc is)
  ends-there true went is All Some some = inr ((went, told-refusal ∙ is), some)

-- nor was anything before it
pub went-first : {n m e : ℕ} {raw : RawShape} {seed : ℕ} (stops : Bool) (telling : Telling n m e raw seed []) → WentOn stops [] telling
went-first false telling = tt
went-first true telling = tt
