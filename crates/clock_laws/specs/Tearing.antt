-- What each event makes of the writing of the change that stands, by what the control lines keep.
use Rattle.std.specs.Prelude.{◌≡◌, ℕ, ◌+◌, IsTrue, Option, Some}
use Rattle.cell_rows.specs.Device.{ArrayState}
use Rattle.program_verify.specs.Programming.{IsTear}
use Rattle.line_writer.specs.declared.writer.LineWriter.{LineWriter}
use Rattle.bank_model.specs.{Events.{Write, Read, Serve, Begin, Iterate, Cut}, Sensing.is_at, Timing.{Happens, Core, Regs, KeepBegin, KeepIterate, KeepCut}}
use Rattle.reg_lines.specs.{Keeping.IsIteration, Regs.RegsState, declared.Change.Change}

module _ {n m e : ℕ} where
  -- somewhere between two arrays a line was torn as a line write tears it: its line was before as in the first, and is behind as in the
  -- second
  pub record TearsBetween (line : ℕ) (writer : LineWriter n m e) (old new : ArrayState n m) : Type 0 where
    pub before : ArrayState n m
    pub behind : ArrayState n m
    pub tear : IsTear line writer.prog before behind
    pub first : before.line line ≡ old.line line
    pub last : new.line line ≡ behind.line line
    pub bounds : before.bounds ≡ old.bounds

  -- where the control line of the change that stands is torn, it is torn as the writing of that change tears it
  abbrev pub TearsControl : RegsState n m e → Option ℕ → ArrayState n m → ArrayState n m → Type 0
  TearsControl regs torn old new =
      (change : Change) → regs.change ≡ Some change → IsTrue (is_at torn (regs.base + change.item))
      → (writer : LineWriter n m e) × (regs.writer ≡ Some writer) × TearsBetween (regs.base + change.item) writer old new

  -- arrivals and serves leave the writing as it was, a step of it is one of its line write, and a cut may tear it
  abbrev pub GoesOnWriting : ℕ → RegsState n m e → RegsState n m e → Happens n → Option ℕ → ArrayState n m → ArrayState n m → Type 0
  GoesOnWriting tick regs now (Core (Write row line bytes given answer)) pulsed old new = now ≡ regs
  GoesOnWriting tick regs now (Core (Read row line answer)) pulsed old new = now ≡ regs
  GoesOnWriting tick regs now (Core (Serve answer)) pulsed old new = now ≡ regs
  GoesOnWriting tick regs now (Core (Begin answer)) pulsed old new = Unit {0}
  GoesOnWriting tick regs now (Core (Iterate answer)) pulsed old new = Unit {0}
  GoesOnWriting tick regs now (Core (Cut tearing)) pulsed old new = TearsControl regs pulsed old new
  GoesOnWriting tick regs now (Regs (KeepBegin answer)) pulsed old new = Unit {0}
  GoesOnWriting tick regs now (Regs (KeepIterate answer)) pulsed old new = IsIteration tick regs now answer old new
  GoesOnWriting tick regs now (Regs (KeepCut tearing)) pulsed old new = TearsControl regs pulsed old new
