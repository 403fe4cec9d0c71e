-- That a source is asked only behind all that is known: told, and written.
use Rattle.std.specs.{Io.KnownBytes.Appends, Prelude.{◌≡◌, ◌⊎◌, ℕ, zero, suc, List, Option}}
use Rattle.module_shape.specs.declared.raw.RawShape.{RawShape}
use Rattle.row_printer.specs.{Printing.stream_text, declared.snapshot.Snapshot.Snapshot, declared.told.Shown.Shown}
use Rattle.trace_stream.specs.{Requests.Gives, declared.asked.Asked.Asked}
use Rattle.row_stream.specs.{Serving.{SnapsAlong, Telling}, Sourcing.{HasAllCome, HasNoHeader}}

-- this is the text of what was told of rows that asked this, with the snapshots that were taken of them
pub record IsTextOf (n m e : ℕ) (raw : RawShape) (seed : ℕ) (shown : Shown) (asked : List (Asked n)) (text : List ℕ) : Type 0 where
  pub telling : Telling n m e raw seed asked
  pub snapshots : List Snapshot
  pub snaps : SnapsAlong e raw seed shown asked telling.history telling.told telling.along snapshots
  pub is : text ≡ stream_text shown telling.told snapshots

-- of a source, as it first stood, whose bytes are rows for so many lines; of a sink, which had received this before; and of texts of rows
module _ {n : ℕ} {S K : Type 0} (lines : ℕ) (left : S → Option (List ℕ)) (taken faults : S → ℕ) (first : S) (received : K → Option (List ℕ)) (before : Option (List ℕ))
    (IsText : List (Asked n) → List ℕ → Type 0) where
  -- all rows that had come whole were served, and the sink had received exactly their text
  pub record HasTold (source : S) : Type 0 where
    pub asked : List (Asked n)
    pub come : HasAllCome lines left taken faults first source asked ⊎ HasNoHeader lines left taken faults first source asked
    pub text : List ℕ
    pub told : IsText asked text
    pub sink : K
    pub written : Appends before (received sink) text

  -- the source stands so behind so many requests, each of which gave a piece at most; and before each all that was known had been told and written
  abbrev pub TellsFirst : ℕ → S → Type 0
  TellsFirst zero source = source ≡ first
  TellsFirst (suc times) source = (earlier : S) × TellsFirst times earlier × HasTold earlier × (given : List ℕ) × Gives left taken earlier source given
