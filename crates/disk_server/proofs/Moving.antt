-- Bytes that are written in several calls.
use Rattle.std.proofs.Common.{ℕ, List, ◌++◌, Option}
use Rattle.std.specs.{Io.KnownBytes.Appends, Prelude.{OnOk, OnErr, Result, Ok, Err}}
use Rattle.pcm_io.{specs.Giving.AppendsPrefix, specs.declared.fault.WriteFault.WriteFault, proofs.ByteLemmas.{Appends-Appends, Appends-AppendsPrefix}}
use Rattle.disk_server.specs.Answering.{WritesOr}

-- what holds anyway holds of an error, and what follows of one
pub on_err : {T E : Type 0} (result : Result T E) (P : Type 0) → P → OnErr result P
on_err (Ok x) P p = tt
on_err (Err e) P p = p

pub err_so : {T E : Type 0} (result : Result T E) (P Q : Type 0) → (P → Q) → OnErr result P → OnErr result Q
err_so (Ok x) P Q so p = tt
err_so (Err e) P Q so p = so p

pub ok_so : {T E : Type 0} (result : Result T E) (P Q : Type 0) → (P → Q) → OnOk result P → OnOk result Q
ok_so (Ok x) P Q so p = so p
ok_so (Err e) P Q so p = tt

-- the second of two writes
module _ {T E : Type 0} (was mid now : Option (List ℕ)) (first second : List ℕ) (had : Appends was mid first) (result : Result T E) where
  pub then_ok : OnOk result (Appends mid now second) → OnOk result (Appends was now (first ++ second))
  then_ok = ok_so result (Appends mid now second) (Appends was now (first ++ second)) (Appends-Appends was mid now first second had)

  pub then_err : OnErr result (AppendsPrefix mid now second) → OnErr result (AppendsPrefix was now (first ++ second))
  then_err = err_so result (AppendsPrefix mid now second) (AppendsPrefix was now (first ++ second)) (Appends-AppendsPrefix was mid now first second had)

-- all bytes, or some first ones of them
pub writes_or : (result : Result (Unit {0}) WriteFault) (was now : Option (List ℕ)) (bytes : List ℕ) → OnOk result (Appends was now bytes)
    → OnErr result (AppendsPrefix was now bytes) → WritesOr result was now bytes
writes_or (Ok done) was now bytes all first = all
writes_or (Err fault) was now bytes all first = first
