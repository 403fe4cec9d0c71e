-- What a write in progress has settled of its line, and how many steps it has left.
use Rattle.std.specs.Prelude.{ℕ, List, ◌≡◌, ◌+◌, ◌-◌, ◌*◌, ◌<◌, ◌≤◌, ◌⊎◌, Bool, true, false}
use Rattle.cell_rows.specs.{Device.LineState, Rows.{cell, members, bit_of, xor}, declared.row.Cells.Cells}
use Rattle.program_verify.specs.{Programming.{Programs, IsGoing, is_wrong}, declared.prog.Prog.Prog}
use Rattle.ecp_line.specs.{Layout.{active, source_below, Prefix, IsLowest}, Reading.decode}
pub use Rattle.ecp_line.specs.Steps.{most_steps}
use Rattle.line_writer.specs.Phases.{IsCleared, IsClearing, IsFilling, IsPointing, IsSwitching, IsSwitched, IsReady, IsReadAs, IsStuckActivity}
use Rattle.line_writer.specs.{declared.writer.Cause.TheVariants.{TooMany, Activity}, declared.writer.LineWriter.LineWriter, declared.writer.Phase.Phase}
use Rattle.line_writer.specs.{declared.writer.Phase.TheVariants.{Clear, Fill, Point, Switch}, declared.writer.Progress.Progress}
use Rattle.line_writer.specs.declared.writer.Progress.TheVariants.{More, Stored, Worn}

-- what holds while the present phase has rounds to make
abbrev pub IsInPhase : {B M : ℕ} → ℕ → ℕ → List ℕ → Phase → Prog B M → (ℕ → Bool) → (ℕ → Bool) → Type 0
IsInPhase {B} {M} E w bytes Clear prog f stuck = IsClearing B E w (cell prog.want) (cell prog.which) f
IsInPhase {B} {M} E w bytes Fill prog f stuck = IsFilling B E w bytes (cell prog.want) (cell prog.which) f
IsInPhase {B} {M} E w bytes Point prog f stuck = IsPointing B E w bytes (cell prog.want) (cell prog.which) f stuck
IsInPhase {B} {M} E w bytes Switch prog f stuck = IsSwitching B M E w (cell prog.want) (cell prog.which) f stuck

-- what holds after a round of it
abbrev pub IsAfterRound : {B M : ℕ} → ℕ → ℕ → List ℕ → Phase → Prog B M → (ℕ → Bool) → (ℕ → Bool) → Type 0
IsAfterRound {B} {M} E w bytes Clear prog f stuck = IsClearing B E w (cell prog.want) (cell prog.which) f
IsAfterRound {B} {M} E w bytes Fill prog f stuck = IsFilling B E w bytes (cell prog.want) (cell prog.which) f
IsAfterRound {B} {M} E w bytes Point prog f stuck = IsPointing B E w bytes (cell prog.want) (cell prog.which) f stuck
IsAfterRound {B} {M} E w bytes Switch prog f stuck = IsSwitched B M E w (cell prog.want) (cell prog.which) f stuck

-- no round is left to make in the present phase
abbrev pub IsSettled : {B M : ℕ} → Prog B M → Type 0
IsSettled prog = (8 ≤ prog.rounds) ⊎ ((n : ℕ) → is_wrong prog n ≡ false)

-- what each answer says of the writer and its line
abbrev pub IsProgress : {B M E : ℕ} → LineWriter B M E → LineState B M → Progress → Type 0
IsProgress writer line More = IsGoing writer.prog
IsProgress {B} {M} {E} writer line Stored =
    IsSettled writer.prog × IsReadAs B E (cell line.held) writer.bytes × (decode E line.held ≡ writer.bytes)
IsProgress {B} {M} {E} writer line (Worn TooMany) =
    IsSettled writer.prog × (E < members line.stuck (8 * (B + M)))
IsProgress {B} {M} {E} writer line (Worn (Activity c)) =
    IsSettled writer.prog × IsStuckActivity B E (cell line.held) line.stuck c × IsLowest (is_wrong writer.prog) c

-- how far a programming of a line that wants it to be read as the bytes has come before its first round
abbrev pub IsFirst : {B M : ℕ} → ℕ → Prog B M → List ℕ → Progress → Type 0
IsFirst E prog bytes More = IsGoing prog
IsFirst {B} E prog bytes Stored = IsSettled prog × IsReadAs B E (cell prog.seen) bytes × (decode E prog.seen ≡ bytes)
IsFirst E prog bytes (Worn cause) = ⊥

-- what a writer and its line are to each other in a phase
pub record IsWriting {B M E : ℕ} (writer : LineWriter B M E) (line : LineState B M) : Type 0 where
  pub prog : Programs writer.prog line
  pub most : writer.entries ≤ E
  pub charged : Prefix B M (cell line.held) line.stuck writer.entries
  pub phase : IsInPhase E writer.entries writer.bytes writer.phase writer.prog (cell line.held) line.stuck

-- the same after a round of it
pub record HasRound {B M E : ℕ} (writer : LineWriter B M E) (line : LineState B M) : Type 0 where
  pub prog : Programs writer.prog line
  pub most : writer.entries ≤ E
  pub charged : Prefix B M (cell line.held) line.stuck writer.entries
  pub phase : IsAfterRound E writer.entries writer.bytes writer.phase writer.prog (cell line.held) line.stuck

-- what a write and its line are to each other, before and after each step
pub record Writes {B M E : ℕ} (writer : LineWriter B M E) (line : LineState B M) : Type 0 where
  pub writing : IsWriting writer line
  pub answer : IsProgress writer line writer.progress

-- the present phase has no round left to make, and each cell that it left wrong is stuck
pub record IsDone {B M E : ℕ} (writer : LineWriter B M E) (line : LineState B M) : Type 0 where
  pub round : HasRound writer line
  pub settled : IsSettled writer.prog
  pub stuck : (n : ℕ) → is_wrong writer.prog n ≡ true → line.stuck n ≡ true

-- the line holds these cells, its activity cells are in order, and a stuck cell pays for each of its w active entries
pub record IsInOrder {B M : ℕ} (E : ℕ) (held : Cells B M) (w : ℕ) (line : LineState B M) : Type 0 where
  pub seen : line.held ≡ held
  pub most : w ≤ E
  pub charged : Prefix B M (cell line.held) line.stuck w
  pub entries : active B E (cell line.held) ≡ w
  pub cleared : IsCleared B E (cell line.held) w

-- the line's sources can be filled
abbrev pub IsFillable : {B M E : ℕ} → LineWriter B M E → LineState B M → Type 0
IsFillable {E = E} writer line = IsInOrder E writer.prog.seen writer.entries line

-- the next entry can be pointed at this bit, the lowest that is wrong
pub record IsPointable {B M E : ℕ} (writer : LineWriter B M E) (bit : ℕ) (line : LineState B M) : Type 0 where
  pub seen : line.held ≡ writer.prog.seen
  pub charged : Prefix B M (cell line.held) line.stuck writer.entries
  pub ready : IsReady B E writer.entries (cell line.held)
  pub wrong : xor (cell line.held (source_below B (cell line.held) bit writer.entries)) (bit_of writer.bytes bit) ≡ true
  pub lower : (x : ℕ) → x < bit → cell line.held (source_below B (cell line.held) x writer.entries) ≡ bit_of writer.bytes x
  pub stuck : line.stuck (source_below B (cell line.held) bit writer.entries) ≡ true

-- the next entry can be switched on
pub record IsSwitchable {B M E : ℕ} (writer : LineWriter B M E) (line : LineState B M) : Type 0 where
  pub seen : line.held ≡ writer.prog.seen
  pub charged : Prefix B M (cell line.held) line.stuck (writer.entries + 1)
  pub ready : IsReady B E writer.entries (cell line.held)

-- the greatest number of entries that a phase may rely on
abbrev pub most_entries : ℕ → Phase → ℕ
most_entries E Clear = E
most_entries E Fill = E
most_entries E Point = E - 1
most_entries E Switch = E - 1

-- the greatest number of rounds in the phases behind the present one, by eights
abbrev pub phases_left : ℕ → Phase → ℕ → ℕ
phases_left E Clear w = 3 * E + 1
phases_left E Fill w = 3 * (E - w)
phases_left E Point w = 3 * (E - w) - 1
phases_left E Switch w = 3 * (E - w) - 2

-- the greatest number of steps that a write has left
abbrev pub steps_left : {B M E : ℕ} → LineWriter B M E → ℕ
steps_left {E = E} writer = (8 - writer.prog.rounds) + 8 * phases_left E writer.phase writer.entries

-- a write that has just begun has a step left, or is done
abbrev pub HasBegun : Progress → Type 0
HasBegun More = Unit {0}
HasBegun Stored = Unit {0}
HasBegun (Worn cause) = ⊥

-- the line is worn
abbrev pub IsWorn : Progress → Type 0
IsWorn More = ⊥
IsWorn Stored = ⊥
IsWorn (Worn cause) = Unit {0}
