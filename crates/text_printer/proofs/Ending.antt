-- What the end of printing says of bytes that are printed as far as there was no fault.
use Rattle.std.proofs.Common.{◌≡◌, ℕ, ◌≤◌, List, [], ◌++◌, Option, false, subst}
use Rattle.std.specs.{Io.KnownBytes.Appends, Prelude.{Result, Ok, Err, OnOk, OnErr}}
use Rattle.pcm_io.{specs.Faults.Rose, specs.Giving.AppendsPrefix, proofs.ByteLemmas.AppendsPrefix-longer}
use Rattle.text_printer.specs.{Printing.{Ends, Holds, Prints}, declared.printer.Printer.Printer}

-- a fact that follows from what holds of an answer holds of it
pub on_ok : {T E : Type 0} (r : Result T E) (P Q : Type 0) → OnOk r P → (P → Q) → OnOk r Q
on_ok (Ok x) P Q h f = f h
on_ok (Err e) P Q h f = tt

pub on_err : {T E : Type 0} (r : Result T E) (P Q : Type 0) → OnErr r P → (P → Q) → OnErr r Q
on_err (Ok x) P Q h f = tt
on_err (Err e) P Q h f = f h

-- one that holds anyway does
pub on_err_any : {T E : Type 0} (r : Result T E) (P : Type 0) → P → OnErr r P
on_err_any (Ok x) P h = tt
on_err_any (Err e) P h = h

-- and so does one that follows from two of them
on_both : {T E : Type 0} (r : Result T E) (P Q R : Type 0) → OnOk r P → OnOk r Q → (P → Q → R) → OnOk r R
on_both (Ok x) P Q R p q f = f p q
on_both (Err e) P Q R p q f = tt

module _ {K : Type 0} (written : K → Option (List ℕ)) (faults : K → ℕ) {T E : Type 0} (a : Printer K) (out : K) (result : Result T E) (ends : Ends written faults a out result)
    (was : Option (List ℕ)) (since : ℕ) (some whole : List ℕ) (had : Holds written faults was since a some) where
  -- the whole, where what is printed without a fault is the whole
  pub whole-ok : (a.failed ≡ false → some ≡ whole) → OnOk result (Appends was (written out) whole)
  whole-ok same = on_both result _ _ _ ends.first (ends.all was since some had) (λ first sent. subst (λ x. Appends was (written out) x) (same first) sent)

  -- first bytes of the whole, of which what is printed are first bytes
  pub whole-part : (rest : List ℕ) → some ++ rest ≡ whole → OnErr result (AppendsPrefix was (written out) whole)
  whole-part rest is =
      on_err result _ _ (ends.part was since some had) (λ part. subst (λ x. AppendsPrefix was (written out) x) is (AppendsPrefix-longer was (written out) some rest part))

-- what is told at the end of bytes that were all printed
pub tells-whole : {K : Type 0} (written : K → Option (List ℕ)) (faults : K → ℕ) {T E : Type 0} (first last : Printer K) (out now : K) (result : Result T E) (was : Option (List ℕ)) (since : ℕ) (whole : List ℕ)
    → Holds written faults was since first [] → Prints written faults first last whole → Ends written faults last out result → out ≡ now
    → record {
      ok : OnOk result (Appends was (written now) whole);
      prefix : OnErr result (AppendsPrefix was (written now) whole);
      fault : OnErr result (Rose since (faults now));
      never_falls : since ≤ faults now;
    }
tells-whole written faults first last out now result was since whole none printed ends same =
    let had = printed.more was since [] none in
    rw (← same) (record {
      ok = ends.all was since whole had;
      prefix = ends.part was since whole had;
      fault = ends.fault was since whole had;
      never_falls = ends.never_falls was since whole had;
    })
