-- What a call of a program was given, and what it left.
use Rattle.std.specs.{Io.KnownBytes.Appends, Prelude.{◌≡◌, ◌⊎◌, ◌≤◌, ℕ, List, Option, Result, OnOk, OnErr}}
use Rattle.pcm_io.specs.{Faults.Rose, Giving.AppendsPrefix}
use Rattle.cell_rows.specs.Device.{ArrayState}

-- a sink before and after a call: what it was given, where that is told, and how often it failed
pub record SinkChange : Type 0 where
  pub written_before : Option (List ℕ)
  pub written_now : Option (List ℕ)
  pub faults_before : ℕ
  pub faults_now : ℕ

abbrev pub sink_change : {S : Type 0} → (S → Option (List ℕ)) → (S → ℕ) → S → S → SinkChange
sink_change written faults old new = record {
  written_before = written old;
  written_now = written new;
  faults_before = faults old;
  faults_now = faults new;
}

-- a sink was given exactly this text
abbrev pub Gets : SinkChange → List ℕ → Type 0
Gets s text = Appends s.written_before s.written_now text

-- a sink was given first bytes of this text, maybe none and maybe all
abbrev pub GetsPart : SinkChange → List ℕ → Type 0
GetsPart s text = AppendsPrefix s.written_before s.written_now text

-- a sink's count of faults rose
abbrev pub SinkFails : SinkChange → Type 0
SinkFails s = Rose s.faults_before s.faults_now

-- a line was tried: all of it was written, or first bytes of it and then a fault came
abbrev pub IsTried : SinkChange → List ℕ → Type 0
IsTried err line = Gets err line ⊎ (GetsPart err line × SinkFails err)

-- how a text is written: exactly it, or first bytes of it where the sink fails
pub record Writes {T E : Type 0} (text : List ℕ) (sink : SinkChange) (result : Result T E) : Type 0 where
  pub ok : OnOk result (Gets sink text)
  pub prefix : OnErr result (GetsPart sink text)
  pub fault : OnErr result (SinkFails sink)
  pub never_falls : sink.faults_before ≤ sink.faults_now

-- a source before and after a call: what is left, how much was taken, and how often it failed
pub record SourceChange : Type 0 where
  pub left_before : Option (List ℕ)
  pub left_now : Option (List ℕ)
  pub taken_before : ℕ
  pub taken_now : ℕ
  pub faults_before : ℕ
  pub faults_now : ℕ

abbrev pub source_change : {S : Type 0} → (S → Option (List ℕ)) → (S → ℕ) → (S → ℕ) → S → S → SourceChange
source_change left taken faults old new = record {
  left_before = left old;
  left_now = left new;
  taken_before = taken old;
  taken_now = taken new;
  faults_before = faults old;
  faults_now = faults new;
}

-- a thing that was lent to a call: as it was, as it is now, and what is seen of it
pub record Lent (T U : Type 0) : Type 0 where
  pub before : T
  pub now : T
  pub seen : U

-- a thing that was lent is as it was
abbrev pub IsUntouched : {T U : Type 0} → Lent T U → Type 0
IsUntouched thing = thing.now ≡ thing.before

-- an array of lines of n bytes with m check bytes that was lent: its state now is seen
abbrev pub lent_array : {A : Type 0} {n m : ℕ} → (A → ArrayState n m) → A → A → Lent A (ArrayState n m)
lent_array state before now = record { before = before; now = now; seen = state now }

-- a source that was lent
abbrev pub lent_source : {S : Type 0}
    → (S → Option (List ℕ)) → (S → ℕ) → (S → ℕ) → S → S → Lent S SourceChange
lent_source left taken faults before now = record {
  before = before;
  now = now;
  seen = source_change left taken faults before now;
}

-- a sink that was lent
abbrev pub lent_sink : {K : Type 0} → (K → Option (List ℕ)) → (K → ℕ) → K → K → Lent K SinkChange
lent_sink written faults before now = record {
  before = before;
  now = now;
  seen = sink_change written faults before now;
}
