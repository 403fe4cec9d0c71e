-- What a programming of a line wants, how far it has come, and what a round does.
use Rattle.std.specs.Prelude.{ℕ, ◌≡◌, ◌+◌, ◌*◌, ◌<◌, ◌≤◌, ◌⊎◌, ◌&&◌, Bool, true, false}
use Rattle.cell_rows.specs.{Device.{LineState, ArrayState, DeviceStep, TornStep, ChangesOnly, Senses, counted}, Rows.{cell, xor}, declared.row.Cells.Cells}
use Rattle.program_verify.specs.{declared.prog.Prog.Prog, declared.prog.Turn.Turn, declared.prog.Turn.TheVariants.{Going, Settled}}

-- a wanted cell differs
abbrev pub is_wrong : {B M : ℕ} → Prog B M → ℕ → Bool
is_wrong prog n = cell prog.which n && xor (cell prog.seen n) (cell prog.want n)

-- the line holds what was seen, at most eight rounds were made, and each live cell that is wrong has missed in every one
pub record Programs {B M : ℕ} (prog : Prog B M) (line : LineState B M) : Type 0 where
  pub seen : line.held ≡ prog.seen
  pub most : prog.rounds ≤ 8
  pub missed : (n : ℕ) → is_wrong prog n ≡ true → line.stuck n ≡ false → (prog.rounds ≤ line.misses n) × (prog.rounds ≤ 7)

-- a round is left to make
pub record IsGoing {B M : ℕ} (prog : Prog B M) : Type 0 where
  pub rounds : prog.rounds < 8
  pub wrong : (n : ℕ) × (n < 8 * (B + M)) × (is_wrong prog n ≡ true)

-- Settled exactly where no wanted cell differs or eight rounds were made
abbrev pub IsStatus : {B M : ℕ} → Prog B M → Turn B M → Type 0
IsStatus prog Going = IsGoing prog
IsStatus prog (Settled wrong) = ((n : ℕ) → cell wrong n ≡ is_wrong prog n) × ((8 ≤ prog.rounds) ⊎ ((n : ℕ) → is_wrong prog n ≡ false))

-- each cell that is left wrong is stuck
abbrev pub IsStuckWhereWrong : {B M : ℕ} → LineState B M → Turn B M → Type 0
IsStuckWhereWrong line Going = Unit {0}
IsStuckWhereWrong line (Settled wrong) = (n : ℕ) → cell wrong n ≡ true → line.stuck n ≡ true

-- one round: a pulse of exactly the wrong cells, and a sense of the line
pub record IsRound {B M : ℕ} (line tick : ℕ) (before after : Prog B M) (old new : ArrayState B M) : Type 0 where
  pub mask : Cells B M
  pub between : ArrayState B M
  pub masked : (n : ℕ) → cell mask n ≡ is_wrong before n
  pub pulse : DeviceStep old.bounds mask before.want (old.line line) (between.line line)
  pub others : ChangesOnly line old between
  pub tears : between.tears ≡ old.tears
  pub sense : Senses (record { line = line; tick = tick; cells = after.seen; pulses = (between.line line).pulses }) between new
  pub want : after.want ≡ before.want
  pub which : after.which ≡ before.which
  pub rounds : after.rounds ≡ before.rounds + 1

-- a tear of exactly the wrong cells
pub record IsTear {B M : ℕ} (line : ℕ) (prog : Prog B M) (old new : ArrayState B M) : Type 0 where
  pub mask : Cells B M
  pub masked : (n : ℕ) → cell mask n ≡ is_wrong prog n
  pub tear : TornStep old.bounds mask (old.line line) (new.line line)
  pub others : ChangesOnly line old new
  pub tears : new.tears ≡ counted old.tears
