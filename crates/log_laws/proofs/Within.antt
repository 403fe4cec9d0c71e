-- The array lines that a history senses are those of its bank.
use Rattle.std.proofs.Common.{◌≡◌, ℕ, ◌+◌, ◌*◌, ◌/◌, ◌<◌, ◌≤◌, inl, Bool, true, false, cond, List, [], ◌∷◌, Option, Some, None, refl, sym, subst, arith}
use Rattle.std.{specs.Prelude.{zero, suc, All, IfSome, map}, proofs.lemmas.List.Elements.{All-nil, All-cons, All-head, All-tail, All-append}, proofs.lemmas.Nat.div_below}
use Rattle.masked_bytes.specs.declared.entry.Entry.{Entry}
use Rattle.cell_rows.specs.declared.array.Sense.{Sense}
use Rattle.start_gap.{specs.Rotation.{gap_after, move_after}, proofs.Places.below_gap-within}
use Rattle.spare_pool.{specs.Table.Table, proofs.Lines.line_by-within}
use Rattle.bank_shape.specs.{Shape.{slots_of, lines_in, controls_of, controls_from, IsIn}, declared.BankShape.BankShape, declared.Work.Work, declared.Work.TheVariants.Nothing}
use Rattle.bank_shape.proofs.Sizes.{slot_at-within}
use Rattle.bank_model.specs.{Adding.senses_of, After.{due_work, work_after, slot_of_work, slot_after, array_line_after, target_after, sources_of}, Answers.MayAll}
use Rattle.bank_model.specs.{Changes.{change_after, line_of_change, numbers_from}, Events.{BankEvent, Serve, Begin, Iterate, Cut, RowsBelow, line_of_row}}
use Rattle.bank_model.specs.{History.{Awaited, first_or, stores, moved_in, retired, has_exhausted, due_after, queue, waits}, Lawful.MayCome}
use Rattle.bank_model.specs.{Sensing.{most_steps, stand_of, sensed_by, read_again, kept_sensed}, Timing.{Happens, Core, Regs, Keeping, KeepCut, core}}
use Rattle.bank_model.proofs.Within.{line_of_row-known, last_store-known}
use Rattle.bank_laws.proofs.{Asked.{WaitsFor, asked-within, wrote-asked, queue-wrote, waits-asked}, Lines.Stands, Settling.above_all, Waiting.may_all}
use Rattle.place_laws.proofs.{Moves.some-due, Slots.{slot_moved-within, gap-within, retired-few}, WornOut.{change-within, some_product}}
use Rattle.log_laws.specs.Laws.{WithinLaw}

-- so many lines from one on are a bank's where the last is
numbers-in : (shape : BankShape) (from count : ℕ) → shape.base ≤ from → from + count ≤ shape.base + lines_in shape → All (IsIn shape) (numbers_from from count)
numbers-in shape from zero low high = All-nil (IsIn shape)
numbers-in shape from (suc count) low high =
    All-cons (IsIn shape) from (numbers_from (from + 1) count) (low, omega (arith, high)) (numbers-in shape (from + 1) count (omega (arith, low)) (omega (arith, high)))

module _ {n : ℕ} (shape : BankShape) (r : 1 ≤ shape.regions) (l : 1 ≤ shape.lines) (most : ℕ) where
  -- every write is of one of the bank's lines, and so is the last store
  pub row_line-within : (h : List (BankEvent n)) (row : ℕ) → MayAll shape most h → line_of_row row h < shape.regions * shape.lines
  row_line-within h row may = line_of_row-known shape most (some_product shape.regions shape.lines r l) h row may

  pub last-within : (h : List (BankEvent n)) → MayAll shape most h → first_or 0 (stores h) < shape.regions * shape.lines
  last-within h may = last_store-known shape most (some_product shape.regions shape.lines r l) h may

  module _ (h : List (BankEvent n)) (may : MayAll shape most h) where
    -- each slot's array line is one of the bank's
    array_line-in : (slot : ℕ) → slot < slots_of shape → IsIn shape (array_line_after shape h slot)
    array_line-in slot below =
        let table : Table = record { slots = slots_of shape; spares = shape.spares; replaced = retired h } in
        (omega arith, omega (arith, line_by-within table slot below, retired-few shape most h may))

    -- a work writes a slot of the bank, and copies none or one
    abbrev pub IsOwn : Work → Type 0
    IsOwn work = (slot_of_work shape h work < slots_of shape) × All (IsIn shape) (sources_of shape h work)

    pub work-own : (next : ℕ) → RowsBelow h next → IsOwn (work_after shape h)
    work-own next b = by (has_exhausted h) (due_after shape h) (queue shape h) refl refl
      where
        first : 0 < slots_of shape
        first = some_product shape.regions (shape.lines + 1) r (omega arith)

        by : (ex : Bool) (due : Option ℕ) (es : List (Entry n)) → due_after shape h ≡ due → queue shape h ≡ es → IsOwn (cond ex Nothing (due_work shape h due es))
        by false (Some region) es is q =
            let own : first_or 0 (stores h) / shape.lines ≡ region = (some-due shape h region is).own in
            let last : first_or 0 (stores h) / shape.lines < shape.regions = div_below (first_or 0 (stores h)) shape.lines shape.regions (omega (arith, l)) (last-within h may) in
            let exists : region < shape.regions = omega (arith, own, last) in
            let moves : ℕ = moved_in shape.lines h region in
            let gap = gap-within shape.lines moves in
            let from = slot_at-within shape region (move_after shape.lines moves).from exists (below_gap-within shape.lines (gap_after shape.lines moves) gap) in
            (slot_at-within shape region (move_after shape.lines moves).to exists gap, All-cons (IsIn shape) _ [] (array_line-in _ from) (All-nil (IsIn shape)))
        by false None (e ∷ es) is q =
            let stands = subst (λ (q : List (Entry n)). Stands q e.row e.line) (sym q) (inl (refl, refl)) in (
              slot_moved-within shape e.line (moved_in shape.lines h (e.line / shape.lines)) l
                  (asked-within shape most h e.row e.line may (wrote-asked h e.row e.line (queue-wrote shape most h next e.row e.line may b stands))),
              All-nil (IsIn shape),
            )
        by _ _ _ is q = (first, All-nil (IsIn shape))

    -- the line of the first read that waits stands in a slot of the bank
    stand-in : (ws : List Awaited) → waits shape h ≡ ws → All (IsIn shape) (stand_of shape h ws)
    stand-in [] is = All-nil (IsIn shape)
    stand-in (w ∷ ws) is =
        let asked = waits-asked shape h w.row w.line (subst (λ ws. WaitsFor ws w.row w.line) (sym is) (inl (refl, refl))) in
        let exists = slot_moved-within shape w.line (moved_in shape.lines h (w.line / shape.lines)) l (asked-within shape most h w.row w.line may asked) in
        All-cons (IsIn shape) _ [] (array_line-in (slot_after shape h w.line) exists) (All-nil (IsIn shape))

    sensed-in : (next : ℕ) → RowsBelow h next → (cancels : Bool) (event : BankEvent n) → All (IsIn shape) (sensed_by shape h (read_again shape cancels) event)
    sensed-in next b cancels event = by event
      where
        own : IsOwn (work_after shape h)
        own = work-own next b

        target : All (IsIn shape) (target_after shape h ∷ [])
        target = All-cons (IsIn shape) _ [] (array_line-in (slot_of_work shape h (work_after shape h)) own.0) (All-nil (IsIn shape))

        controls : (cancels : Bool) → All (IsIn shape) (read_again shape cancels)
        controls true = All-nil (IsIn shape)
        controls false = numbers-in shape (controls_from shape) (controls_of shape) (omega arith) (omega arith)

        by : (event : BankEvent n) → All (IsIn shape) (sensed_by shape h (read_again shape cancels) event)
        by (Serve answer) = stand-in (waits shape h) refl
        by (Begin answer) = All-append (IsIn shape) (sources_of shape h (work_after shape h)) (target_after shape h ∷ []) own.1 target
        by (Iterate answer) = target
        by (Cut tearing) = controls cancels
        by _ = All-nil (IsIn shape)

-- senses are of lines of a bank where those lines are
senses-in : {n m : ℕ} (shape : BankShape) (ss : List (Sense n m)) → All (IsIn shape) (map (λ s. s.line) ss) → All (λ s. IsIn shape s.line) ss
senses-in {n} {m} shape [] all = All-nil (λ (s : Sense n m). IsIn shape s.line)
senses-in {n} {m} shape (s ∷ ss) all =
    let lines : List ℕ = map (λ (s : Sense n m). s.line) ss in
    All-cons (λ (s : Sense n m). IsIn shape s.line) s ss (All-head (IsIn shape) s.line lines all) (senses-in shape ss (All-tail (IsIn shape) s.line lines all))

pub within_law : WithinLaw
within_law n m e shape pace [] r l lawful = All-nil (λ (s : Sense n m). IsIn shape s.line)
within_law n m e shape pace (x ∷ xs) r l lawful =
    All-append (λ (s : Sense n m). IsIn shape s.line) (senses_of xs) x.senses (within_law n m e shape pace xs r l lawful.1) (by x.happens lawful.0)
  where
    by : (h : Happens n) → MayCome shape pace e xs x h → All (λ s. IsIn shape s.line) x.senses
    by (Core event) may =
        let b = above_all shape pace e xs lawful.1 in
        senses-in shape x.senses
        (subst (λ lines. All (IsIn shape) lines) (sym may.lines) (sensed-in shape r l (most_steps e) (core xs) (may_all shape pace e xs lawful.1) b.0 b.1 x.cancels event))
    by (Regs event) may =
        senses-in shape x.senses
        (subst (λ lines. All (IsIn shape) lines) (sym may.lines) (kept-in (change_after shape xs) (change-within shape pace e xs r l lawful.1) event))
      where
        kept-in : (change : Option ℕ) → IfSome change (λ item. item < controls_of shape) → (event : Keeping) → All (IsIn shape) (kept_sensed (line_of_change shape change) event)
        kept-in None within event = All-nil (IsIn shape)
        kept-in (Some item) within (KeepCut tearing) = All-nil (IsIn shape)
        kept-in (Some item) within _ = All-cons (IsIn shape) _ [] (omega arith, omega (arith, within)) (All-nil (IsIn shape))
