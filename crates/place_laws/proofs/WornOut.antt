-- A bank that is exhausted has more worn lines than spares.
use Rattle.std.proofs.Common.{◌≡◌, ℕ, zero, suc, ◌+◌, ◌*◌, ◌/◌, ◌<◌, ◌≤◌, ◌==◌, ◌&&◌, ◌||◌, not, inl, inr, Bool, true, false, List, [], ◌∷◌, Option, Some, None, length, refl, sym, ap, subst, arith, cond}
use Rattle.std.{specs.Prelude.IfSome, proofs.lemmas.Bool.{eq-eqb, ne_eqb, le-leb, cases_eq, not-false}, proofs.lemmas.Nat.div_below}
use Rattle.masked_bytes.{specs.Entries.has_row, specs.declared.entry.Entry.Entry, proofs.Counting.one_if, proofs.Truth.or_rest}
use Rattle.cell_rows.specs.Device.{ArrayState}
use Rattle.start_gap.specs.Rotation.{move_after}
use Rattle.spare_pool.{specs.Table.{Table, line_from}, proofs.Lines.line_by-within}
use Rattle.bank_shape.specs.{Acting.{Choice, chosen_by}, Pausing.gives_way, Shape.{slots_of, if_array, controls_of, control_line}, declared.BankShape.BankShape, declared.Home.Home}
use Rattle.bank_shape.{specs.declared.Work.TheVariants.Nothing, specs.declared.pace.Pace.Pace, proofs.Sizes.slot_at-within}
use Rattle.bank_shape.specs.declared.Home.TheVariants as home
use Rattle.bank_shape.specs.declared.answer.Keep.TheVariants as keep
use Rattle.bank_shape.specs.declared.answer.Step.TheVariants as did
use Rattle.bank_shape.specs.declared.clock.Doing.TheVariants as doing
use Rattle.bank_model.specs.{After.{due_work, work_after, slot_of_work, is_ready, may_begin_after}, Answers.MayAll}
use Rattle.bank_model.specs.{Changes.{item_if, change_after, change_by, keeping_after, halted_after}, Events.{BankEvent, Write, Read, Begin, Iterate, RowsBelow, line_of_row}}
use Rattle.bank_model.specs.{History.{Awaited, first_or, stores, moved_in, retired, has_exhausted, due_after, queue, waits, in_progress}, Lawful.{Lawful, IsIdle, MayCome}}
use Rattle.bank_model.specs.{Running.{busy_by, ready_by, over_by, busy_after, ready_after, is_over, choice_after}, Sensing.most_steps}
use Rattle.bank_model.specs.Timing.{Happens, Core, Regs, KeepBegin, KeepIterate, TimedEvent, core, is_empty}
use Rattle.bank_laws.{specs.Laws.{IsSized, LeavesArray}, proofs.Asked.{asked-within, wrote-asked, wrote-line, queue-wrote}, proofs.Lines.Stands, proofs.Serves.idle-waits}
use Rattle.bank_laws.proofs.{Settling.above_all, Waiting.may_all}
use Rattle.ecp_line.specs.ArrayLines.{is_worn_at}
use Rattle.right_runs.specs.WornLines.{worn_among, is_worn_out}
use Rattle.place_laws.proofs.{Moves.some-due, Owners.{owners, owners-some, worn-many}, Slots.{slot_moved-within, gap-within, begin-retires_none, begin-exhausts_none}}
use Rattle.place_laws.proofs.Working.{IsStoreOf, done-store}

pub some_product : (a b : ℕ) → 1 ≤ a → 1 ≤ b → 0 < a * b
some_product a b p q = grind (arith, p, q)

module _ {n : ℕ} (shape : BankShape) where
  -- an exhausted bank has used all its spares
  pub exhausted-full : (most : ℕ) (h : List (BankEvent n)) → MayAll shape most h → has_exhausted h ≡ true → length (retired h) ≡ shape.spares
  exhausted-full most [] may ex = absurd (cc)
  exhausted-full most (Begin (did.Retired slot line) ∷ h) may ex = absurd (begin-retires_none shape h (work_after shape h) slot line may.0.1)
  exhausted-full most (Begin did.Exhausted ∷ h) may ex = absurd (begin-exhausts_none shape h (work_after shape h) may.0.1)
  exhausted-full most (Iterate (did.Retired slot line) ∷ h) may ex = absurd (omega (arith, exhausted-full most h may.1 ex, may.0.1.2))
  exhausted-full most (Iterate did.Exhausted ∷ h) may ex = may.0.1
  exhausted-full most (_ ∷ h) may ex = exhausted-full most h may.1 ex

  store_line : (most : ℕ) (h : List (BankEvent n)) (next row place : ℕ) → MayAll shape most h → RowsBelow h next → IsStoreOf shape h row place → line_of_row row h < shape.regions * shape.lines
  store_line most h next row place may b store =
      let w = queue-wrote shape most h next row store.line may b store.stands in
      omega (arith, wrote-line h next row store.line b w, asked-within shape most h row store.line may (wrote-asked h row store.line w))

  -- the last store is of one of the bank's lines
  last_within : (most : ℕ) (h : List (BankEvent n)) (next : ℕ) → 1 ≤ shape.regions → 1 ≤ shape.lines → MayAll shape most h → RowsBelow h next → first_or 0 (stores h) < shape.regions * shape.lines
  last_within most [] next r l may b = some_product shape.regions shape.lines r l
  last_within most (Write row line bytes given answer ∷ h) next r l may b = last_within most h row r l may.1 b.1
  last_within most (Read row line answer ∷ h) next r l may b = last_within most h row r l may.1 b.1
  last_within most (Begin (did.Stored row place) ∷ h) next r l may b = store_line most h next row place may.1 b (done-store shape h row place may.0.1)
  last_within most (Iterate (did.Stored row place) ∷ h) next r l may b = store_line most h next row place may.1 b (done-store shape h row place may.0.1)
  last_within most (_ ∷ h) next r l may b = last_within most h next r l may.1 b

  -- what is due writes a slot of the bank
  pub due-within : (most : ℕ) (h : List (BankEvent n)) (next : ℕ) → 1 ≤ shape.regions → 1 ≤ shape.lines → MayAll shape most h → RowsBelow h next
      → slot_of_work shape h (due_work shape h (due_after shape h) (queue shape h)) < slots_of shape
  due-within most h next r l may b = by (due_after shape h) (queue shape h) refl refl
    where
      some : 0 < shape.lines
      some = omega (arith, l)

      by : (due : Option ℕ) (es : List (Entry n)) → due_after shape h ≡ due → queue shape h ≡ es → slot_of_work shape h (due_work shape h due es) < slots_of shape
      by (Some region) es is q =
          let own : first_or 0 (stores h) / shape.lines ≡ region = (some-due shape h region is).own in
          let within : first_or 0 (stores h) / shape.lines < shape.regions = div_below (first_or 0 (stores h)) shape.lines shape.regions some (last_within most h next r l may b) in
          slot_at-within shape region (move_after shape.lines (moved_in shape.lines h region)).to (omega (arith, own, within)) (gap-within shape.lines (moved_in shape.lines h region))
      by None [] is q = some_product shape.regions (shape.lines + 1) r (omega arith)
      by None (e ∷ es) is q =
          let stands = subst (λ (q : List (Entry n)). Stands q e.row e.line) (sym q) (inl (refl, refl)) in
          slot_moved-within shape e.line (moved_in shape.lines h (e.line / shape.lines)) l
          (asked-within shape most h e.row e.line may (wrote-asked h e.row e.line (queue-wrote shape most h next e.row e.line may b stands)))

-- where nothing is chosen no line write goes on, and none may be begun
pub none-ready : (way reads : Bool) (c : Choice) → chosen_by way reads c ≡ None → (c.busy ≡ false) × (c.ready ≡ false)
none-ready way reads c is = by way reads c.busy c.ready is
  where
    by : (way reads busy ready : Bool) → cond (way && reads) (Some doing.Serving) (cond busy (Some c.going_on) (cond reads (Some doing.Serving) (cond ready (Some c.beginning) None))) ≡ None → (busy ≡ false) × (ready ≡ false)
    by way reads busy ready is = grind arith

-- a bank without work in which something is left to do begins no line write any more: it is exhausted, or the writing of a change has halted
idle-over : {n m : ℕ} (shape : BankShape) (xs : List (TimedEvent n m)) → busy_after shape xs ≡ false → ready_after shape xs ≡ false
    → (in_progress (core xs) ≡ false → may_begin_after shape (core xs) ≡ false → has_exhausted (core xs) ≡ true) → is_over shape xs ≡ true
idle-over shape xs idle none core_over = by (change_after shape xs) idle none
  where
    by : (change : Option ℕ) → busy_by change (keeping_after xs) (in_progress (core xs)) ≡ false
        → ready_by change (keeping_after xs || halted_after xs) (may_begin_after shape (core xs)) ≡ false → over_by change (halted_after xs) (has_exhausted (core xs)) ≡ true
    by None idle none = core_over idle none
    by (Some item) idle none =
        or_rest (keeping_after xs) (halted_after xs) idle
        (not-false (keeping_after xs || halted_after xs) none)

-- in an idle bank no action runs, and none may start
idle-none : {n m : ℕ} (shape : BankShape) (pace : Pace) (xs : List (TimedEvent n m)) → IsIdle shape pace xs
    → (busy_after shape xs ≡ false) × (ready_after shape xs ≡ false)
idle-none shape pace xs idle =
    none-ready (gives_way pace.policy) (not (is_empty (waits shape (core xs))))
    (choice_after shape pace xs) idle.chosen

-- so is one in whose queue a row stands
pub idle-queued : {n m : ℕ} (shape : BankShape) (pace : Pace) (xs : List (TimedEvent n m)) (row : ℕ) → IsIdle shape pace xs → has_row (queue shape (core xs)) row ≡ true → is_over shape xs ≡ true
idle-queued {n} shape pace xs row idle there =
    idle-over shape xs (idle-none shape pace xs idle).0 (idle-none shape pace xs idle).1 (λ still never.
    by (in_progress (core xs)) (has_exhausted (core xs)) (due_after shape (core xs)) (queue shape (core xs)) (waits shape (core xs)) still (idle-waits shape pace xs idle) never there)
  where
    by : (busy ex : Bool) (due : Option ℕ) (es : List (Entry n)) (ws : List Awaited) → busy ≡ false → ws ≡ []
        → (not busy && is_ready ws (cond ex Nothing (due_work shape (core xs) due es))) ≡ false → has_row es row ≡ true → ex ≡ true
    by busy ex due es ws idle empty ready there = grind arith

-- and so is one where a move is due
pub idle-due : {n m : ℕ} (shape : BankShape) (pace : Pace) (xs : List (TimedEvent n m)) (region : ℕ) → IsIdle shape pace xs → due_after shape (core xs) ≡ Some region → is_over shape xs ≡ true
idle-due {n} shape pace xs region idle due =
    idle-over shape xs (idle-none shape pace xs idle).0 (idle-none shape pace xs idle).1 (λ still never.
    by (in_progress (core xs)) (has_exhausted (core xs)) (due_after shape (core xs)) still due never)
  where
    by : (busy ex : Bool) (due : Option ℕ) → busy ≡ false → due ≡ Some region → (not busy && is_ready (waits shape (core xs)) (cond ex Nothing (due_work shape (core xs) due (queue shape (core xs))))) ≡ false → ex ≡ true
    by busy ex due idle is ready = grind arith

module _ {n m : ℕ} (shape : BankShape) (pace : Pace) (e : ℕ) (all : List (TimedEvent n m)) (array : ArrayState n m) (sized : IsSized shape pace) (l : Lawful shape pace e all) (leaves : LeavesArray e shape all array) where
  -- an exhausted bank is worn out
  pub worn_out : has_exhausted (core all) ≡ true → is_worn_out shape (is_worn_at e array) ≡ true
  worn_out ex = le-leb (shape.spares + 1) (worn_among (is_worn_at e array) shape.base (slots_of shape + shape.spares)) many
    where
      may : MayAll shape (most_steps e) (core all)
      may = may_all shape pace e all l

      full : length (retired (core all)) ≡ shape.spares
      full = exhausted-full shape (most_steps e) (core all) may ex

      line_at : ℕ → ℕ
      line_at slot = line_from (slots_of shape) slot (retired (core all)) slot

      target : ℕ
      target = slot_of_work shape (core all) (due_work shape (core all) (due_after shape (core all)) (queue shape (core all)))

      within : target < slots_of shape
      within = let b = above_all shape pace e all l in due-within shape (most_steps e) (core all) b.0 sized.regions sized.lines may b.1

      exists : line_at target < slots_of shape + shape.spares
      exists =
          let table : Table = record { slots = slots_of shape; spares = shape.spares; replaced = retired (core all) } in
          omega (arith, line_by-within table target within, full)

      unowned : (at k : ℕ) → k ≡ slots_of shape → at < slots_of shape + shape.spares → owners line_at at k ≡ 0 → 1 ≤ one_if (is_worn_at e array (shape.base + at))
      unowned at k is lt none =
          let worn : is_worn_at e array (shape.base + at) ≡ true =
          leaves.retired at (omega (arith, lt, full)) (λ slot in_it same. omega (arith, owners-some line_at at k slot (omega (arith, in_it, is)) same, none)) in
          omega (arith, ap one_if worn)

      each : (at : ℕ) → at < slots_of shape + shape.spares → 1 + one_if (line_at target == at) ≤ one_if (is_worn_at e array (shape.base + at)) + owners line_at at (slots_of shape)
      each at lt =
          elim (cases_eq (line_at target) at) [
            | inl is ↦
                let worn : is_worn_at e array (shape.base + at) ≡ true = subst (λ k. is_worn_at e array (shape.base + k) ≡ true) is (leaves.exhausted ex) in
                omega (arith, ap one_if (eq-eqb (line_at target) at is), ap one_if worn, owners-some line_at at (slots_of shape) target within is)
            | inr other ↦ by (owners line_at at (slots_of shape)) refl (ne_eqb (line_at target) at other)
          ]
        where
          by : (k : ℕ) → owners line_at at (slots_of shape) ≡ k → (line_at target == at) ≡ false → 1 + one_if (line_at target == at) ≤ one_if (is_worn_at e array (shape.base + at)) + k
          by zero none ne = omega (arith, ap one_if ne, unowned at (slots_of shape) refl lt none)
          by (suc k) some ne = omega (arith, ap one_if ne)

      many : shape.spares + 1 ≤ worn_among (is_worn_at e array) shape.base (slots_of shape + shape.spares)
      many = worn-many (is_worn_at e array) line_at shape.base (slots_of shape) shape.spares (line_at target) exists each

  -- so is one at whose control line the writing of a change has halted, in its way
  pub worn_control : (item : ℕ) → item < controls_of shape → is_worn_at e array (control_line shape item) ≡ true
      → 0 < worn_among (is_worn_at e array) (shape.base + slots_of shape + shape.spares) (controls_of shape)
  worn_control item exists worn = some (controls_of shape) (shape.base + slots_of shape + shape.spares) item exists worn
    where
      some : (count from item : ℕ) → item < count → is_worn_at e array (from + item) ≡ true → 0 < worn_among (is_worn_at e array) from count
      some zero from item lt worn = absurd (omega (arith, lt))
      some (suc count) from zero lt worn =
          let here : is_worn_at e array from ≡ true = subst (λ k. is_worn_at e array k ≡ true) (omega arith) worn in
          omega (arith, ap one_if here)
      some (suc count) from (suc item) lt worn =
          let next : is_worn_at e array (from + 1 + item) ≡ true = subst (λ k. is_worn_at e array k ≡ true) (omega arith) worn in
          let rest : 0 < worn_among (is_worn_at e array) (from + 1) count = some count (from + 1) item (omega (arith, lt)) next in
          omega (arith, rest)

-- a change is of an item of the bank
pub change-within : {n m : ℕ} (shape : BankShape) (pace : Pace) (e : ℕ) (xs : List (TimedEvent n m)) → 1 ≤ shape.regions → 1 ≤ shape.lines → Lawful shape pace e xs
    → IfSome (change_after shape xs) (λ item. item < controls_of shape)
change-within shape pace e [] r l law = tt
change-within {n} shape pace e (x ∷ xs) r l law = by x.happens law.0 (change-within shape pace e xs r l law.1)
  where
    Within : Option ℕ → Type 0
    Within change = IfSome change (λ item. item < controls_of shape)

    may_be : MayAll shape (most_steps e) (core xs)
    may_be = may_all shape pace e xs law.1

    some : 0 < shape.lines
    some = omega (arith, l)

    there : (item : ℕ) → item < shape.regions + shape.spares + 1 → Within (item_if shape.home item)
    there item lt = own shape.home refl
      where
        own : (where_ : Home) → where_ ≡ shape.home → IfSome (item_if where_ item) (λ item. item < if_array where_ (shape.regions + shape.spares + 1))
        own where_ is = grind arith

    stored : (row place : ℕ) → IsStoreOf shape (core xs) row place → Within (item_if shape.home (line_of_row row (core xs) / shape.lines))
    stored row place store =
        let b = above_all shape pace e xs law.1 in
        let within : line_of_row row (core xs) / shape.lines < shape.regions =
        div_below (line_of_row row (core xs)) shape.lines shape.regions some (store_line shape (most_steps e) (core xs) b.0 row place may_be b.1 store) in
        there _ (omega (arith, within))

    moved : Within (item_if shape.home (first_or 0 (stores (core xs)) / shape.lines))
    moved =
        let b = above_all shape pace e xs law.1 in
        let within : first_or 0 (stores (core xs)) / shape.lines < shape.regions =
        div_below (first_or 0 (stores (core xs))) shape.lines shape.regions some (last_within shape (most_steps e) (core xs) b.0 r l may_be b.1) in
        there _ (omega (arith, within))

    by : (h : Happens n) → MayCome shape pace e xs x h → Within (change_after shape xs) → Within (change_by shape (core xs) h (change_after shape xs))
    by (Core (Begin (did.Stored row place))) may old = stored row place (done-store shape (core xs) row place may.may.1)
    by (Core (Begin (did.Moved step))) may old = moved
    by (Core (Begin (did.Retired slot line))) may old = absurd (begin-retires_none shape (core xs) (work_after shape (core xs)) slot line may.may.1)
    by (Core (Begin did.Exhausted)) may old = absurd (begin-exhausts_none shape (core xs) (work_after shape (core xs)) may.may.1)
    by (Core (Iterate (did.Stored row place))) may old = stored row place (done-store shape (core xs) row place may.may.1)
    by (Core (Iterate (did.Moved step))) may old = moved
    by (Core (Iterate (did.Retired slot line))) may old = there _ (omega (arith, may.may.1.2))
    by (Core (Iterate did.Exhausted)) may old = there _ (omega arith)
    by (Regs (KeepBegin keep.Done)) may old = tt
    by (Regs (KeepIterate keep.Done)) may old = tt
    by _ may old = old
