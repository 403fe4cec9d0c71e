-- Where a stream stops that is to be served up to the first row that is refused. What was asked stands with the newest first.
use Rattle.std.specs.Prelude.{◌≡◌, ◌⊎◌, ℕ, Bool, true, false, List, [], ◌∷◌, length}
use Rattle.module_shape.specs.declared.raw.RawShape.{RawShape}
use Rattle.row_printer.specs.{Printing.table_of, Refusing.any_refused}
use Rattle.trace_stream.specs.{Asked.events_in, declared.asked.Asked.Asked}
use Rattle.row_stream.specs.{Serving.{Telling, told_before}, declared.stop.Stop.Stop, declared.stop.Stop.TheVariants.{Input, Late, Endless, Output}}

module _ {n m e : ℕ} {raw : RawShape} {seed : ℕ} where
  -- whether some row was refused, by what was told as rows were served that asked this
  abbrev pub tells_refusal : (asked : List (Asked n)) → Telling n m e raw seed asked → Bool
  tells_refusal asked telling = any_refused (table_of (length (events_in asked)) telling.told)

  -- none was, before the last row was served
  abbrev pub NoneBefore : (asked : List (Asked n)) → Telling n m e raw seed asked → Type 0
  NoneBefore [] telling = Unit {0}
  NoneBefore (row ∷ before) telling = tells_refusal before (told_before row before telling) ≡ false

  -- the last row is the first by which one was: it was refused itself
  abbrev pub StopsAt : (asked : List (Asked n)) → Telling n m e raw seed asked → Type 0
  StopsAt asked telling = NoneBefore asked telling × (tells_refusal asked telling ≡ true)

  -- where the rows end: behind all of them; or, where a stream is to stop at a refusal, behind the first row that is refused, and else behind
  -- all of them
  abbrev pub EndsBehind : Bool → (asked : List (Asked n)) → Telling n m e raw seed asked → (All Some : Type 0) → Type 0
  EndsBehind false asked telling All Some = All
  EndsBehind true asked telling All Some = ((tells_refusal asked telling ≡ false) × All) ⊎ (StopsAt asked telling × Some)

  -- where a stream is to stop at a refusal, none was told so far
  abbrev pub MayGoOn : Bool → (asked : List (Asked n)) → Telling n m e raw seed asked → Type 0
  MayGoOn false asked telling = Unit {0}
  MayGoOn true asked telling = tells_refusal asked telling ≡ false

  -- and before its last row none was
  abbrev pub WentOn : Bool → (asked : List (Asked n)) → Telling n m e raw seed asked → Type 0
  WentOn false asked telling = Unit {0}
  WentOn true asked telling = NoneBefore asked telling

  -- so it is where a stream isn't served to its end: as far as the next row was sought, or as the last one was written
  abbrev pub GoesAsFar : Stop → Bool → (asked : List (Asked n)) → Telling n m e raw seed asked → Type 0
  GoesAsFar (Input found) stops asked telling = MayGoOn stops asked telling
  GoesAsFar (Late found) stops asked telling = MayGoOn stops asked telling
  GoesAsFar Endless stops asked telling = MayGoOn stops asked telling
  GoesAsFar Output stops asked telling = WentOn stops asked telling
