-- What ties a bank to its array, whatever its history was.
use Rattle.std.specs.Prelude.{◌≡◌, ◌≢◌, ℕ, ◌+◌, ◌<◌, ◌≤◌, IsTrue, List, Option, None, IfSome, IsSomeAnd, slice_get, All}
use Rattle.masked_bytes.specs.Masked.{gives_all}
use Rattle.cell_rows.specs.Device.{ArrayState, LineState}
use Rattle.ecp_line.specs.{ArrayLines.decoded, Reading.{IsSoundLine, IsWornLine}, Untouched.AreUntouched}
use Rattle.spare_pool.specs.Table.{line_by, used_by}
use Rattle.bank_shape.specs.{Shape.{slots_of, lines_in, slot_at}, declared.Work.Work, declared.Work.TheVariants.{Nothing, Store, Copy}, declared.waiting.Waiting.Waiting}
use Rattle.line_writer.specs.{Orderly.AreOrderly, Writing.Writes, declared.writer.LineWriter.LineWriter}
use Rattle.line_writer.specs.declared.writer.Progress.TheVariants as progress
use Rattle.power_recovery.specs.Kept.{KeptState, array_line, due_region, due_work, next_work}
use Rattle.bank_invariant.specs.State.{BankState, Operation, target_of}

-- an array stands as it was: it has as many lines, each of them is as it was, and its cells keep to the same bounds
pub record StandsAs {n m : ℕ} (old new : ArrayState n m) : Type 0 where
  pub lines : new.lines ≡ old.lines
  pub line : (at : ℕ) → new.line at ≡ old.line at
  pub bounds : new.bounds ≡ old.bounds

module _ {n m : ℕ} where
  -- a line write has a step left, and its writer and its line are to each other as the writer says
  pub record IsUnderWay {e : ℕ} (writer : LineWriter n m e) (line : LineState n m) : Type 0 where
    pub more : writer.progress ≡ progress.More
    pub writes : Writes writer line

  -- the bytes of a line write in progress: a store writes the head, which gives every byte, and no read of its line waits;
  -- a copy writes what the line below the gap is read as
  abbrev pub IsOf : ℕ → KeptState n → ArrayState n m → List (Waiting n) → List ℕ → Work → Type 0
  IsOf e kept array waiting bytes Nothing = ⊥
  IsOf e kept array waiting bytes (Store line slot) =
      IsSomeAnd (slice_get kept.entries 0) (λ head. (head.line ≡ line) × (head.bytes ≡ bytes) × IsTrue (gives_all head.given))
      × All (λ w. w.line ≢ line) waiting
  IsOf e kept array waiting bytes (Copy region step) =
      bytes ≡ decoded e array (array_line kept (slot_at kept.shape region step.from))

  -- a line write in progress is that of the next work
  pub record IsRunning {e : ℕ} (kept : KeptState n) (array : ArrayState n m) (waiting : List (Waiting n)) (op : Operation n m e) : Type 0 where
    pub next : op.work ≡ next_work kept
    pub target : op.target ≡ target_of kept op.work
    pub of : IsOf e kept array waiting op.writer.bytes op.work
    pub writing : IsUnderWay op.writer (array.line op.target)

-- no two slots have one array line; every line that a slot has, and every free spare, is sound; free spares were never pulsed;
-- every retired line is worn
pub record AreSound {n m : ℕ} (e : ℕ) (kept : KeptState n) (array : ArrayState n m) : Type 0 where
  pub apart : (slot other : ℕ) → slot < slots_of kept.shape → other < slots_of kept.shape → array_line kept slot ≡ array_line kept other → slot ≡ other
  pub slots : (slot : ℕ) → slot < slots_of kept.shape → IsSoundLine e (array.line (array_line kept slot))
  pub spares : (spare : ℕ) → used_by kept.table ≤ spare → spare < kept.shape.spares
      → IsSoundLine e (array.line (kept.shape.base + slots_of kept.shape + spare)) × ((array.line (kept.shape.base + slots_of kept.shape + spare)).pulses ≡ 0)
  pub worn : (line : ℕ) → line < slots_of kept.shape + used_by kept.table → ((slot : ℕ) → slot < slots_of kept.shape → line_by kept.table slot ≢ line)
      → IsWornLine e (array.line (kept.shape.base + line))

-- a bank that found no spare has used them all, writes nothing, and the line for which it sought one is worn
pub record IsExhausted {n m e : ℕ} (kept : KeptState n) (running : Option (Operation n m e)) (array : ArrayState n m) : Type 0 where
  pub all_used : used_by kept.table ≡ kept.shape.spares
  pub idle : running ≡ None
  pub worn : IsWornLine e (array.line (target_of kept (due_work (due_region kept) kept kept.entries)))

-- what ties a bank to its array, indexed by the parts that it reads; its slots and spares are orderly, and their unused check cells untouched
pub record AreTied {n m e : ℕ} (kept : KeptState n) (running : Option (Operation n m e)) (waiting : List (Waiting n)) (array : ArrayState n m) : Type 0 where
  pub lines : kept.shape.base + lines_in kept.shape ≤ array.lines
  pub sound : AreSound e kept array
  pub unused : AreUntouched e array kept.shape.base (slots_of kept.shape + kept.shape.spares)
  pub orderly : AreOrderly array kept.shape.base (slots_of kept.shape + kept.shape.spares)
  pub operation : IfSome running (IsRunning kept array waiting)
  pub exhausted : IsTrue kept.exhausted → IsExhausted kept running array

abbrev pub IsTied : {n m e : ℕ} → BankState n m e → ArrayState n m → Type 0
IsTied bank array = AreTied bank.kept bank.running bank.waiting array
