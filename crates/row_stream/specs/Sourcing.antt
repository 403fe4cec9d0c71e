-- What the rows that a source gave have to do with its bytes. What was asked stands with the newest first.
use Rattle.std.specs.Io.KnownBytes.{Consumes, IsAtEnd}
use Rattle.std.specs.Prelude.{◌≡◌, ◌≢◌, ◌⊎◌, ℕ, ◌<◌, ◌≤◌, ◌^◌, ◌+◌, ◌-◌, Bool, true, false, List, [], ◌∷◌, ◌++◌, length, reverse, Option, IfSome, Ok}
use Rattle.pcm_io.specs.{Faults.Rose, Taking.Takes}
use Rattle.trace_reader.specs.declared.fault.TraceFault.{TraceFault}
use Rattle.trace_reader.specs.declared.fault.Kind.TheVariants as kind
use Rattle.trace_stream.specs.{Arrived.{Comes, StaysEnded}, Asked.{IsAskedFor, IsUnreached, NamesRow, events_in, rows_after, tick_asked, tick_named}, Kept.{LacksHeader, decides}}
use Rattle.trace_stream.specs.{Stream.{AsksNext, HasFault, HasFront, IsOfText, Standing, asked_from, front_from, front_of, most_streamed, stream_of}, declared.asked.Asked.Asked}
use Rattle.trace_stream.specs.declared.fault.StreamFault.{StreamFault}
use Rattle.trace_stream.specs.declared.fault.StreamFault.TheVariants as fault
use Rattle.row_stream.specs.{Asking.{read_of, tick_reached}, declared.stop.Stop.Stop, declared.stop.Stop.TheVariants.{Input, Late, Endless, Output}}

-- the rows of a text that begins with these bytes, as they are read up to its first fault, begin with these, whatever comes behind
abbrev pub Fronts : {n : ℕ} → ℕ → List ℕ → Bool → List (Asked n) → Type 0
Fronts {n} lines bytes ended asked =
    (more : List ℕ) → Comes ended more → (rest : List (Asked n)) × (front_of n lines (bytes ++ more) ≡ reverse asked ++ rest)

-- of a source before and after, whose bytes are a trace for so many lines
module _ {n : ℕ} (lines : ℕ) {S : Type 0} (left : S → Option (List ℕ)) (taken faults : S → ℕ) (old new : S) (asked : List (Asked n)) where
  -- it was read to its end, no call failed, and its bytes are a stream whose rows ask this
  pub record IsRead : Type 0 where
    pub bytes : List ℕ
    pub takes : Takes (left old) (left new) (taken old) (taken new) bytes
    pub ended : IsAtEnd (left new)
    pub stream : stream_of n lines bytes ≡ Ok (reverse (read_of asked))
    pub calm : faults new ≡ faults old

  -- it gave these bytes and no call failed: their first rows ask this, and stand in front of the first fault, if there is one
  pub record IsReadTo : Type 0 where
    pub bytes : List ℕ
    pub takes : Takes (left old) (left new) (taken old) (taken new) bytes
    pub ended : Bool
    pub at_end : ended ≡ true → IsAtEnd (left new)
    pub front : Fronts lines bytes ended (read_of asked)
    pub calm : faults new ≡ faults old

  -- it gave bytes whose first rows ask this: they stand in front of the first fault, if there is one
  pub record HasCome : Type 0 where
    pub bytes : List ℕ
    pub between : Option (List ℕ)
    pub came : Consumes (left old) between bytes
    pub ended : Bool
    pub at_end : ended ≡ true → IsAtEnd between
    pub front : Fronts lines bytes ended (read_of asked)

  -- all rows that came whole ask this: of its bytes they stand in front, and those behind them decide of no row
  pub record HasAllCome : Type 0 where
    pub bytes : List ℕ
    pub takes : Takes (left old) (left new) (taken old) (taken new) bytes
    pub at : Standing
    pub front : (more : List ℕ) → front_of n lines (bytes ++ more) ≡ reverse (read_of asked) ++ front_from n at more
    pub undecided : decides at.state 0 at.arrived.bytes ≡ false

  -- not even the header came whole, and nothing was asked
  pub record HasNoHeader : Type 0 where
    pub bytes : List ℕ
    pub takes : Takes (left old) (left new) (taken old) (taken new) bytes
    pub lacks : LacksHeader bytes
    pub none : asked ≡ []

  -- its bytes have this fault, and in front of it stand exactly the rows that ask this, whatever may still come; no call failed
  pub record IsFaulty (e : StreamFault) : Type 0 where
    pub bytes : List ℕ
    pub takes : Takes (left old) (left new) (taken old) (taken new) bytes
    pub ended : Bool
    pub at_end : ended ≡ true → IsAtEnd (left new)
    pub front : HasFront (front_of n lines) bytes (reverse (read_of asked)) ended
    pub fault : HasFault (stream_of n lines) bytes e ended
    pub calm : faults new ≡ faults old

  -- behind the rows that ask this stands one that names a tick below the one that was reached, by a settle until: the ticks fall, which is told of
  -- the row that comes next; no call failed
  pub record IsLate (found : TraceFault) : Type 0 where
    pub bytes : List ℕ
    pub takes : Takes (left old) (left new) (taken old) (taken new) bytes
    pub ended : Bool
    pub at_end : ended ≡ true → IsAtEnd (left new)
    pub late : Asked n
    pub front : Fronts lines bytes ended (late ∷ read_of asked)
    pub below : tick_named late < tick_reached asked
    pub row : found.row ≡ length (events_in asked) + 1
    pub kind : found.kind ≡ kind.Order
    pub calm : faults new ≡ faults old

  -- it gave more bytes than can be counted
  abbrev pub TookPast : Type 0
  TookPast = (bytes : List ℕ) × Takes (left old) (left new) (taken old) (taken new) bytes × (2 ^ 64 - 1 ≤ length bytes)

  -- why no more rows were served: the text has a fault or too many rows; or a row comes too late; or a call failed; or a row didn't end within all
  -- bytes that can be counted; or memory ran out before the first row; or so many rows and settles came; or the output failed
  abbrev pub HasStopped : Stop → Type 0
  HasStopped (Input (fault.Trace f)) = IsFaulty (fault.Trace f)
  HasStopped (Input fault.TooMany) = IsFaulty fault.TooMany
  HasStopped (Input fault.Read) = HasCome × Rose (faults old) (faults new) × (HasAllCome ⊎ HasNoHeader)
  HasStopped (Input fault.Endless) = HasCome × (faults new ≡ faults old) × TookPast
  HasStopped (Input fault.NoMemory) = HasCome × (faults new ≡ faults old) × (asked ≡ [])
  HasStopped (Late found) = IsLate found
  HasStopped Endless = HasCome × (faults new ≡ faults old) × (length asked ≡ 2 ^ 64 - 1)
  HasStopped Output = HasCome × (faults new ≡ faults old)

-- of a reader of rows over a source, as both stood before and stand now
module _ {n : ℕ} {S : Type 0} (left : S → Option (List ℕ)) (taken faults : S → ℕ) (old new : S) (from now : Standing) where
  -- the next row asks this, or there is none, by the bytes that came before and those that the source gave meanwhile
  pub record GivesNext (next : Option (Asked n)) : Type 0 where
    pub bytes : List ℕ
    pub takes : Takes (left old) (left new) (taken old) (taken new) bytes
    pub stays : StaysEnded from.arrived.ended bytes now.arrived.ended
    pub asks : AsksNext from bytes next now
    pub lawful : IfSome next (λ asked. IsAskedFor from.lines from.tick asked)
    pub waits : IfSome next (λ asked. NamesRow from.rows asked × IsUnreached from.tick asked)
    pub row : IfSome next (λ asked. (now.rows ≡ rows_after from.rows asked) × (now.rows ≤ most_streamed) × (now.tick ≡ tick_asked asked))
    pub lines : now.lines ≡ from.lines
    pub at_end : (from.arrived.ended ≡ true → IsAtEnd (left old)) → now.arrived.ended ≡ true → IsAtEnd (left new)
    pub calm : faults new ≡ faults old

module _ (n : ℕ) {S : Type 0} (left : S → Option (List ℕ)) (taken faults : S → ℕ) (old new : S) (from now : Standing) where
  -- no next row could be had: the text has a fault; or a call failed, where no row had come whole; or no row came with all bytes that can be counted
  pub record FindsNone (found : StreamFault) : Type 0 where
    pub text :
        IsOfText found
        → (bytes : List ℕ) × Takes (left old) (left new) (taken old) (taken new) bytes × StaysEnded from.arrived.ended bytes now.arrived.ended
        × ((from.arrived.ended ≡ true → IsAtEnd (left old)) → now.arrived.ended ≡ true → IsAtEnd (left new)) × HasFault (asked_from n from) bytes found now.arrived.ended
        × HasFront (front_from n from) bytes [] now.arrived.ended
    pub fails : found ≡ fault.Read → Rose (faults old) (faults new)
    pub sparing :
        found ≡ fault.Read
        → (bytes : List ℕ) × Takes (left old) (left new) (taken old) (taken new) bytes × (from.arrived.ended ≡ false)
        × (decides from.state 0 (from.arrived.bytes ++ bytes) ≡ false)
    pub endless : found ≡ fault.Endless → (bytes : List ℕ) × Takes (left old) (left new) (taken old) (taken new) bytes × (2 ^ 64 - 1 ≤ length bytes)
    pub memory : found ≢ fault.NoMemory
    pub calm : found ≢ fault.Read → faults new ≡ faults old

  -- why there is no next row: none could be had, or the output failed, and the source wasn't asked
  abbrev pub HasNoNext : Stop → Type 0
  HasNoNext (Input found) = FindsNone found
  HasNoNext (Late found) = ⊥
  HasNoNext Output = new ≡ old
  HasNoNext Endless = ⊥

-- why a stream stops at a row that comes too late, behind so many rows with a number: that row, as one whose tick falls, or the output failed
abbrev pub StopsLate : ℕ → Stop → Type 0
StopsLate rows (Input found) = ⊥
StopsLate rows (Late found) = (found.row ≡ rows + 1) × (found.kind ≡ kind.Order)
StopsLate rows Output = Unit {0}
StopsLate rows Endless = ⊥
