-- What follows from a bank's kept state is what follows from its history.
use Rattle.std.proofs.Common.{◌≡◌, ◌≢◌, ℕ, ◌+◌, ◌*◌, ◌/◌, ◌<◌, ◌≤◌, ◌==◌, ◌&&◌, ◌||◌, nat_le, not, cond, inl, inr, refl, sym, ap, subst, ◌∙◌, arith, true, false, List, [], ◌∷◌, map, Option, Some, None, is_some, IfSome}
use Rattle.std.{specs.List.list_any, proofs.Math.Nat.mul-le-mul_left, proofs.lemmas.Bool.{cases_eq, le-leb, lt-leb}, proofs.lemmas.Nat.div_below}
use Rattle.masked_bytes.specs.declared.entry.Entry.{Entry}
use Rattle.cell_rows.specs.Device.{ArrayState}
use Rattle.start_gap.{specs.Rotation.move_after, proofs.Turning.move-stands}
use Rattle.spare_pool.specs.Table.{line_by}
use Rattle.bank_shape.specs.{Kinds.is_store, declared.Work.Work, declared.Work.TheVariants.{Nothing, Store, Copy}}
use Rattle.power_recovery.specs.Kept.{AllBelow, region_at, slot_of, array_line, stands_at, due_region, due_work, next_work, target_slot}
use Rattle.power_recovery.proofs.{Bundle.{due_region-Some, due_region-is, due_region-None}, Placing.{region-exists, slot_of-after}}
use Rattle.bank_model.specs.{After.{slot_after, array_line_after, stands_at_after, work_after, slot_of_work, target_after, is_ready, may_begin_after}, Answers.head_busy_after}
use Rattle.bank_model.specs.{Events.BankEvent, History.{Awaited, queue, waits, in_progress, stores, moved_in, stored_in, due_after, has_exhausted, first_or}}
use Rattle.bank_model.proofs.Within.{last_store-known}
use Rattle.bank_model.specs.After as after
use Rattle.bank_invariant.specs.{Bridge.AgreeLaw, Holds.{Holds, waiting_of}, State.{BankState, Operation, target_of, is_free, may_begin, is_storing}, Tied.IsRunning}

-- Counters

-- a counter is at psi exactly where the stores are those of one move more
counter-due : (psi counter moved stored : ℕ) → counter + psi * moved ≡ stored → counter ≡ psi → nat_le (psi * (moved + 1)) stored ≡ true
counter-due psi counter moved stored e f = le-leb (psi * (moved + 1)) stored (omega (arith, e, f))

counter-not_due : (psi counter moved stored : ℕ) → counter + psi * moved ≡ stored → counter ≤ psi → counter ≢ psi → nat_le (psi * (moved + 1)) stored ≡ false
counter-not_due psi counter moved stored e few ne = lt-leb (psi * (moved + 1)) stored (omega (arith, e, few, ne))

-- Works

any_waiting : (n line : ℕ) (ws : List Awaited) → list_any (λ w. w.line == line) (map (waiting_of {n = n}) ws) ≡ list_any (λ w. w.line == line) ws
any_waiting n line [] = refl
any_waiting n line (w ∷ ws) = ap (λ rest. (w.line == line) || rest) (any_waiting n line ws)

same_ready : (n : ℕ) (work : Work) (ws : List Awaited) → is_free (map (waiting_of {n = n}) ws) work ≡ is_ready ws work
same_ready n (Store line slot) ws = ap (λ b. not b) (any_waiting n line ws)
same_ready n _ ws = refl

module _ {n m e : ℕ} (h : List (BankEvent n)) (bank : BankState n m e) (array : ArrayState n m) (holds : Holds h bank array) where
  agree_slots : (line : ℕ) → line < bank.kept.shape.regions * bank.kept.shape.lines → slot_of bank.kept line ≡ slot_after bank.kept.shape h line
  agree_slots line below =
      let region : ℕ = line / bank.kept.shape.lines in
      slot_of-after bank.kept holds.kept line (moved_in bank.kept.shape.lines h region) below (holds.regions region (region-exists bank.kept holds.kept line below)).registers

  agree_lines : (slot : ℕ) → array_line bank.kept slot ≡ array_line_after bank.kept.shape h slot
  agree_lines slot = ap (λ table. bank.kept.shape.base + line_by table slot) holds.table

  agree_stands : (line : ℕ) → line < bank.kept.shape.regions * bank.kept.shape.lines → stands_at bank.kept line ≡ stands_at_after bank.kept.shape h line
  agree_stands line below = ap (λ slot. array_line bank.kept slot) (agree_slots line below) ∙ agree_lines (slot_after bank.kept.shape h line)

  some_lines : 0 < bank.kept.shape.regions * bank.kept.shape.lines
  some_lines =
      let more = mul-le-mul_left bank.kept.shape.regions holds.kept.shape.some_lines in
      omega (arith, more, holds.kept.shape.some_regions)

  -- the region of the last store
  abbrev last_region : ℕ
  last_region = first_or 0 (stores h) / bank.kept.shape.lines

  last_region-exists : last_region < bank.kept.shape.regions
  last_region-exists =
      div_below (first_or 0 (stores h)) bank.kept.shape.lines bank.kept.shape.regions (omega (arith, holds.kept.shape.some_lines))
      (last_store-known bank.kept.shape _ some_lines h holds.past)

  agree_due : due_region bank.kept ≡ due_after bank.kept.shape h
  agree_due =
      let own = holds.kept.regions last_region last_region-exists in
      let counted = (holds.regions last_region last_region-exists).counter in
      let moved : ℕ = moved_in bank.kept.shape.lines h last_region in
      let stored : ℕ = stored_in bank.kept.shape.lines h last_region in
      elim (cases_eq (region_at bank.kept last_region).counter bank.kept.shape.psi) [
        | inl full ↦
            due_region-is bank.kept last_region holds.kept last_region-exists (full ∙ sym own.stores)
            ∙ ap (λ b. cond b (Some last_region) None)
            (sym (counter-due bank.kept.shape.psi (region_at bank.kept last_region).counter moved stored counted full))
        | inr less ↦
            due_region-None bank.kept holds.kept (λ region below at_psi.
            let full : (region_at bank.kept region).counter ≡ bank.kept.shape.psi = at_psi ∙ (holds.kept.regions region below).stores in
            less (subst (λ (r : ℕ). (region_at bank.kept r).counter ≡ bank.kept.shape.psi) (sym (holds.due_last region below full)) full))
            ∙ ap (λ b. cond b (Some last_region) None)
            (sym (counter-not_due bank.kept.shape.psi (region_at bank.kept last_region).counter moved stored counted
            (omega (arith, own.in_range.counted, own.stores)) less))
      ]

  -- what is due, by the kept state and by the history
  same_due : (due : Option ℕ) (es : List (Entry n)) → ((region : ℕ) → due ≡ Some region → region < bank.kept.shape.regions)
      → AllBelow es (bank.kept.shape.regions * bank.kept.shape.lines) → due_work due bank.kept es ≡ after.due_work bank.kept.shape h due es
  same_due (Some region) es exists known =
      let below = exists region refl in
      let own = holds.kept.regions region below in
      let moved : ℕ = moved_in bank.kept.shape.lines h region in
      ap (λ step. Copy region step)
      (move-stands (region_at bank.kept region).rotation moved own.in_range.rotates (holds.regions region below).registers
      ∙ ap (λ lines. move_after lines moved) own.rotates)
  same_due None [] exists known = refl
  same_due None (entry ∷ es) exists known = ap (λ slot. Store entry.line slot) (agree_slots entry.line known.0)

  agree_work : next_work bank.kept ≡ work_after bank.kept.shape h
  agree_work =
      ap (λ work. cond bank.kept.exhausted Nothing work)
      (same_due (due_region bank.kept) bank.kept.entries (λ region is. (due_region-Some bank.kept region holds.kept is).0) holds.kept.known)
      ∙ ap (λ mark. cond mark Nothing (after.due_work bank.kept.shape h (due_region bank.kept) bank.kept.entries)) holds.exhausted
      ∙ ap (λ due. cond (has_exhausted h) Nothing (after.due_work bank.kept.shape h due bank.kept.entries)) agree_due
      ∙ ap (λ es. cond (has_exhausted h) Nothing (after.due_work bank.kept.shape h (due_after bank.kept.shape h) es)) holds.entries

  same_target : (work : Work) → target_slot bank.kept work ≡ slot_of_work bank.kept.shape h work
  same_target work = grind arith

  agree_target : target_of bank.kept (next_work bank.kept) ≡ target_after bank.kept.shape h
  agree_target =
      ap (λ slot. array_line bank.kept slot) (same_target (next_work bank.kept))
      ∙ agree_lines (slot_of_work bank.kept.shape h (next_work bank.kept))
      ∙ ap (λ work. array_line_after bank.kept.shape h (slot_of_work bank.kept.shape h work)) agree_work

  -- the array line that what is due writes, also of a bank that begins nothing since no spare was left
  pub due-target : target_of bank.kept (due_work (due_region bank.kept) bank.kept bank.kept.entries)
      ≡ array_line_after bank.kept.shape h (slot_of_work bank.kept.shape h (after.due_work bank.kept.shape h (due_after bank.kept.shape h) (queue bank.kept.shape h)))
  due-target =
      ap (λ work. target_of bank.kept work)
      (same_due (due_region bank.kept) bank.kept.entries (λ region is. (due_region-Some bank.kept region holds.kept is).0) holds.kept.known
      ∙ ap (λ due. after.due_work bank.kept.shape h due bank.kept.entries) agree_due
      ∙ ap (λ es. after.due_work bank.kept.shape h (due_after bank.kept.shape h) es) holds.entries)
      ∙ ap (λ slot. array_line bank.kept slot) (same_target (after.due_work bank.kept.shape h (due_after bank.kept.shape h) (queue bank.kept.shape h)))
      ∙ agree_lines (slot_of_work bank.kept.shape h (after.due_work bank.kept.shape h (due_after bank.kept.shape h) (queue bank.kept.shape h)))

  storing_by : (running : Option (Operation n m e)) → IfSome running (IsRunning bank.kept array bank.waiting)
      → is_storing running ≡ (is_some running && is_store (next_work bank.kept))
  storing_by None own = refl
  storing_by (Some op) own = ap (λ work. is_store work) own.next

  agree_storing : is_storing bank.running ≡ head_busy_after bank.kept.shape h
  agree_storing =
      storing_by bank.running holds.tied.operation
      ∙ ap (λ b. b && is_store (next_work bank.kept)) holds.running
      ∙ ap (λ b. in_progress h && b) (ap (λ work. is_store work) agree_work)

  agree_ready : may_begin bank ≡ may_begin_after bank.kept.shape h
  agree_ready =
      ap (λ b. not b && is_free bank.waiting (next_work bank.kept)) holds.running
      ∙ ap (λ ws. not (in_progress h) && is_free ws (next_work bank.kept)) holds.waiting
      ∙ ap (λ b. not (in_progress h) && b) (same_ready n (next_work bank.kept) (waits bank.kept.shape h))
      ∙ ap (λ work. not (in_progress h) && is_ready (waits bank.kept.shape h) work) agree_work

pub agree_law : AgreeLaw
agree_law n m e h bank array holds = record {
  slots = agree_slots h bank array holds;
  lines = agree_lines h bank array holds;
  stands = agree_stands h bank array holds;
  due = agree_due h bank array holds;
  work = agree_work h bank array holds;
  target = agree_target h bank array holds;
  storing = agree_storing h bank array holds;
  ready = agree_ready h bank array holds;
}
