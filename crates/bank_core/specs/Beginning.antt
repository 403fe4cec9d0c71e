-- What the begin of a line write senses, writes, answers and leaves.
use Rattle.std.specs.Prelude.{◌≡◌, ℕ, ◌≤◌, List, [], ◌∷◌}
use Rattle.masked_bytes.specs.{Masked.laid, declared.entry.Entry.Entry}
use Rattle.cell_rows.specs.{Device.{ArrayState, LineState}, declared.row.Cells.Cells}
use Rattle.bank_shape.specs.{Shape.slot_at, declared.Work.Work, declared.Work.TheVariants.{Nothing, Store, Copy}, declared.answer.Step.Step}
use Rattle.line_writer.specs.Writing.{Writes, HasBegun, steps_left, most_steps}
use Rattle.power_recovery.specs.{Events.completed_kept, Kept.{KeptState, array_line, next_work}}
use Rattle.bank_invariant.specs.State.{BankState, Operation, target_of}
use Rattle.ecp_line.specs.{ArrayLines.decoded, Reading.IsSoundLine}
use Rattle.bank_core.specs.Stepping.{with_kept, step_from, left_by}

module _ {n : ℕ} where
  -- the bytes that the head gives, over these
  abbrev pub head_over : List (Entry n) → List ℕ → List ℕ
  head_over [] under = under
  head_over (head ∷ rest) under = laid head.bytes head.given under

module _ {n m : ℕ} (e : ℕ) (kept : KeptState n) (array : ArrayState n m) where
  -- the bytes that a work writes: a store those of the head, over what its array line is read as; a copy what its source is read as
  abbrev pub bytes_for : Work → List ℕ
  bytes_for Nothing = []
  bytes_for (Store line slot) = head_over kept.entries (decoded e array (array_line kept slot))
  bytes_for (Copy region step) = decoded e array (array_line kept (slot_at kept.shape region step.from))

  -- what is kept once a work begins: a store completes the head from what its array line is read as
  abbrev pub begun_kept : Work → KeptState n
  begun_kept Nothing = kept
  begun_kept (Store line slot) = completed_kept (decoded e array (array_line kept slot)) kept
  begun_kept (Copy region step) = kept

-- some line that is sound holds these cells
abbrev pub IsOfSoundLine : {n m : ℕ} → ℕ → Cells n m → Type 0
IsOfSoundLine {n} {m} e cells = (line : LineState n m) × (line.held ≡ cells) × IsSoundLine e line

-- the begin of the next work, as this line write: by how far that has come, the answer and the bank then go
pub record IsBegin {n m e : ℕ} (old new : BankState n m e) (answer : Step) (before after : ArrayState n m) : Type 0 where
  pub op : Operation n m e
  pub work : op.work ≡ next_work old.kept
  pub target : op.target ≡ target_of old.kept op.work
  pub bytes : op.writer.bytes ≡ bytes_for e old.kept before op.work
  pub writes : Writes op.writer (after.line op.target)
  pub begun : HasBegun op.writer.progress
  pub few : steps_left op.writer ≤ most_steps e
  pub is : answer ≡ step_from old.kept op op.writer.progress
  pub leaves : new ≡ left_by (with_kept old (begun_kept e old.kept before op.work)) op op op.writer.progress
