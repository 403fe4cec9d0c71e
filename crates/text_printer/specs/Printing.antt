-- What printing does to a printer.
use Rattle.std.specs.{Io.KnownBytes.Appends, Prelude.{◌≡◌, ℕ, ◌≤◌, List, ◌++◌, Option, Bool, true, false, Result, OnOk, OnErr}}
use Rattle.pcm_io.specs.{Faults.Rose, Giving.AppendsPrefix}
use Rattle.text_printer.specs.declared.printer.Printer.{Printer}

module _ {K : Type 0} (written : K → Option (List ℕ)) (faults : K → ℕ) where
  -- since a sink had these bytes and so many faults, these bytes are printed: what went to it, and behind it what the text still holds; after a
  -- fault the sink has first bytes of them
  pub record Holds (before : Option (List ℕ)) (since : ℕ) (printer : Printer K) (whole : List ℕ) : Type 0 where
    pub sent : printer.failed ≡ false → (gone : List ℕ) × Appends before (written printer.out.now) gone × (gone ++ printer.text.now.bytes ≡ whole)
    pub part : printer.failed ≡ true → AppendsPrefix before (written printer.out.now) whole
    pub fault : printer.failed ≡ true → Rose since (faults printer.out.now)
    pub never_falls : since ≤ faults printer.out.now

  -- these bytes more are printed, behind whatever was printed before
  pub record Prints (old new : Printer K) (piece : List ℕ) : Type 0 where
    pub text : new.text.ghost_name ≡ old.text.ghost_name
    pub out : new.out.ghost_name ≡ old.out.ghost_name
    pub limit : new.text.now.limit ≡ old.text.now.limit
    pub more : (before : Option (List ℕ)) (since : ℕ) (whole : List ℕ) → Holds before since old whole → Holds before since new (whole ++ piece)

  -- the bytes went to a sink where there was no fault before and is none now, and first bytes of them where there is one
  pub record Sends (failed : Bool) (old : K) (bytes : List ℕ) (fails : Bool) (new : K) : Type 0 where
    pub first : fails ≡ false → failed ≡ false
    pub sent : fails ≡ false → Appends (written old) (written new) bytes
    pub part : failed ≡ false → AppendsPrefix (written old) (written new) bytes
    pub kept : failed ≡ true → new ≡ old
    pub fault : fails ≡ true → failed ≡ false → Rose (faults old) (faults new)
    pub never_falls : faults old ≤ faults new

  -- all that was printed is written at the end, or first bytes of it behind a fault
  pub record Ends {T E : Type 0} (printer : Printer K) (out : K) (result : Result T E) : Type 0 where
    pub first : OnOk result (printer.failed ≡ false)
    pub all : (before : Option (List ℕ)) (since : ℕ) (whole : List ℕ) → Holds before since printer whole → OnOk result (Appends before (written out) whole)
    pub part : (before : Option (List ℕ)) (since : ℕ) (whole : List ℕ) → Holds before since printer whole → OnErr result (AppendsPrefix before (written out) whole)
    pub fault : (before : Option (List ℕ)) (since : ℕ) (whole : List ℕ) → Holds before since printer whole → OnErr result (Rose since (faults out))
    pub never_falls : (before : Option (List ℕ)) (since : ℕ) (whole : List ℕ) → Holds before since printer whole → since ≤ faults out
