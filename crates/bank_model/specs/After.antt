-- What a bank does next after its events, and which array lines that touches.
use Rattle.std.specs.{List.list_any, Prelude.{ℕ, ◌+◌, ◌/◌, ◌==◌, ◌&&◌, not, Bool, true, false, if◌then◌else◌, List, [], ◌∷◌, Option, Some, None}}
use Rattle.masked_bytes.specs.declared.entry.Entry.{Entry}
use Rattle.start_gap.specs.Rotation.{move_after}
use Rattle.spare_pool.specs.Table.{line_from}
use Rattle.bank_shape.specs.{Shape.{slots_of, slot_at, slot_moved}, declared.BankShape.BankShape, declared.Work.Work, declared.Work.TheVariants.{Nothing, Store, Copy}}
use Rattle.bank_model.specs.{Events.BankEvent, History.{Awaited, queue, waits, moved_in, due_after, retired, has_exhausted, in_progress}}

-- whether a work may be begun while these reads wait: a store may not while one of its line waits
abbrev pub is_ready : List Awaited → Work → Bool
is_ready ws Nothing = false
is_ready ws (Store line slot) = not (list_any (λ w. w.line == line) ws)
is_ready ws (Copy region step) = true

-- whether a work is the store of a write of this line
abbrev pub is_store_of : ℕ → Work → Bool
is_store_of at Nothing = false
is_store_of at (Store line slot) = line == at
is_store_of at (Copy region step) = false

-- how many gap moves are due: one, if a region is due to move
abbrev pub due_moves : Option ℕ → ℕ
due_moves None = 0
due_moves (Some region) = 1

module _ {n : ℕ} (shape : BankShape) (h : List (BankEvent n)) where
  -- the slot where a line stands
  abbrev pub slot_after : ℕ → ℕ
  slot_after line = slot_moved shape line (moved_in shape.lines h (line / shape.lines))

  -- the array line of a slot, and the one where a line stands
  abbrev pub array_line_after : ℕ → ℕ
  array_line_after slot = shape.base + line_from (slots_of shape) slot (retired h) slot

  abbrev pub stands_at_after : ℕ → ℕ
  stands_at_after line = array_line_after (slot_after line)

  -- what is due: the copy of a region's gap move, or else the store of the queue's head
  abbrev pub due_work : Option ℕ → List (Entry n) → Work
  due_work (Some region) es = Copy region (move_after shape.lines (moved_in shape.lines h region))
  due_work None [] = Nothing
  due_work None (e ∷ es) = Store e.line (slot_after e.line)

  -- what the bank does next: what is due, and nothing once it is exhausted
  abbrev pub work_after : Work
  work_after = if has_exhausted h then Nothing else due_work (due_after shape h) (queue shape h)

  -- the slot that a work writes: a copy writes the gap
  abbrev pub slot_of_work : Work → ℕ
  slot_of_work Nothing = 0
  slot_of_work (Store line slot) = slot
  slot_of_work (Copy region step) = slot_at shape region step.to

  -- the array line that the next work writes
  abbrev pub target_after : ℕ
  target_after = array_line_after (slot_of_work work_after)

  -- the array line that a work copies
  abbrev pub sources_of : Work → List ℕ
  sources_of Nothing = []
  sources_of (Store line slot) = []
  sources_of (Copy region step) = array_line_after (slot_at shape region step.from) ∷ []

  -- no line write is in progress, and one may be begun
  abbrev pub may_begin_after : Bool
  may_begin_after = not (in_progress h) && is_ready (waits shape h) work_after
