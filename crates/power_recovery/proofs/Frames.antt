-- What each event leaves of the slots of lines, the array lines of slots, and the next work.
use Rattle.std.proofs.Common.{◌≡◌, ◌≢◌, ℕ, ◌+◌, ◌-◌, ◌*◌, ◌/◌, ◌%◌, ◌<◌, ◌==◌, inl, inr, Bool, true, false, cond, if◌then◌else◌, nat_lt, List, [], ◌∷◌, zero, suc, length, get_or, slice_get, slice_set, Option, Some, None, refl, sym, ap, ◌∙◌, arith, get_or-set_other}
use Rattle.std.proofs.{Math.Nat.add-mod-mod, lemmas.Bool.{cases_lt, cases_eq, ne_eqb}, lemmas.Grind.get_or-set_at, lemmas.Nat.{mod_below, div-add-mod'}}
use Rattle.masked_bytes.{specs.Entries.{candidate_index, completed, head_line}, specs.declared.entry.Entry.Entry, proofs.Queueing.candidate_index-busy}
use Rattle.start_gap.specs.Rotation.{Rotation, IsRotation, place_by, move_by, below_gap, advanced}
use Rattle.start_gap.proofs.Turning.{remainder, place_by-before, place_by-behind, advanced-end, advanced-further}
use Rattle.region_regs.specs.Region.{RegionState, after_store, after_move}
use Rattle.spare_pool.{specs.Table.{line_by, used_by}, proofs.Lines.line_by-retired}
use Rattle.protected_queue.specs.Queue.{accepted, accepted_by}
use Rattle.bank_shape.specs.{Shape.slot_at, declared.Work.TheVariants.{Nothing, Store}}
use Rattle.power_recovery.specs.Events.{with_entries, with_regions, accepted_kept, completed_kept, stored_kept, regions_moved, moved_kept, retired_kept}
use Rattle.power_recovery.specs.Kept.{KeptState, no_region, region_at, slot_of, array_line, due_region, due_work, next_work, IsKept}

-- Registers

end_moved : (r : Rotation) (line : ℕ) → IsRotation r → r.gap ≡ 0 → (line + r.start) % r.lines + 1 ≡ r.lines → place_by (advanced r) line ≡ 0
end_moved r line range end last =
    let q : ℕ = (line + r.start) / r.lines in
    let sum : q * r.lines + (line + r.start) % r.lines ≡ line + r.start = div-add-mod' (line + r.start) r.lines in
    let turned : (line + (r.start + 1) % r.lines) % r.lines ≡ 0 =
    add-mod-mod line (r.start + 1) r.lines ∙ remainder (q + 1) r.lines 0 (line + (r.start + 1)) (omega (arith, range.some_lines)) (omega (arith, sum, last)) in
    ap (λ x. place_by x line) (advanced-end r end)
    ∙ place_by-before (record { lines = r.lines; start = (r.start + 1) % r.lines; gap = r.lines }) line (omega (arith, turned, range.some_lines)) ∙ turned

end_kept : (r : Rotation) (line : ℕ) → IsRotation r → r.gap ≡ 0 → (line + r.start) % r.lines + 1 < r.lines → place_by (advanced r) line ≡ (line + r.start) % r.lines + 1
end_kept r line range end more =
    let q : ℕ = (line + r.start) / r.lines in
    let sum : q * r.lines + (line + r.start) % r.lines ≡ line + r.start = div-add-mod' (line + r.start) r.lines in
    let turned : (line + (r.start + 1) % r.lines) % r.lines ≡ (line + r.start) % r.lines + 1 =
    add-mod-mod line (r.start + 1) r.lines ∙ remainder q r.lines ((line + r.start) % r.lines + 1) (line + (r.start + 1)) more (omega (arith, sum)) in
    ap (λ x. place_by x line) (advanced-end r end)
    ∙ place_by-before (record { lines = r.lines; start = (r.start + 1) % r.lines; gap = r.lines }) line (omega (arith, turned, more)) ∙ turned

turned_below : (r : Rotation) (line : ℕ) → IsRotation r → (line + r.start) % r.lines < r.lines
turned_below r line range = mod_below (line + r.start) r.lines (omega (arith, range.some_lines))

-- the line that a gap move copies gets the place of the gap
pub place_by-advanced : (r : Rotation) (line : ℕ) → IsRotation r → place_by r line ≡ (move_by r).from → place_by (advanced r) line ≡ r.gap
place_by-advanced r line range from =
    elim (cases_eq r.gap 0) [
      | inl end ↦
          let own : place_by r line ≡ (line + r.start) % r.lines + 1 = place_by-behind r line (omega (arith, end)) in
          let at_end : below_gap r.lines r.gap ≡ r.lines = rw end refl in
          end_moved r line range end (sym own ∙ from ∙ at_end) ∙ sym end
      | inr further ↦ further_moved further
    ]
  where
    further_moved : r.gap ≢ 0 → place_by (advanced r) line ≡ r.gap
    further_moved further =
        let test : (r.gap == 0) ≡ false = ne_eqb r.gap 0 further in
        let under : below_gap r.lines r.gap ≡ r.gap - 1 = rw test refl in
        let at : place_by r line ≡ r.gap - 1 = from ∙ under in
        elim (cases_lt ((line + r.start) % r.lines) r.gap) [
          | inl before ↦
              let own : place_by r line ≡ (line + r.start) % r.lines = place_by-before r line before in
              ap (λ x. place_by x line) (advanced-further r further)
              ∙ place_by-behind (record { lines = r.lines; start = r.start; gap = r.gap - 1 }) line (omega (arith, own, at)) ∙ omega (arith, own, at, before)
          | inr behind ↦
              let own : place_by r line ≡ (line + r.start) % r.lines + 1 = place_by-behind r line behind in
              absurd (omega (arith, own, at, behind))
        ]

-- and every other line keeps its place
pub place_by-advanced_other : (r : Rotation) (line : ℕ) → IsRotation r → place_by r line ≢ (move_by r).from → place_by (advanced r) line ≡ place_by r line
place_by-advanced_other r line range other =
    elim (cases_eq r.gap 0) [
      | inl end ↦
          let own : place_by r line ≡ (line + r.start) % r.lines + 1 = place_by-behind r line (omega (arith, end)) in
          let at_end : below_gap r.lines r.gap ≡ r.lines = rw end refl in
          let off : (line + r.start) % r.lines + 1 ≢ r.lines = λ last. other (own ∙ last ∙ sym at_end) in
          end_kept r line range end (omega (arith, turned_below r line range, off)) ∙ sym own
      | inr further ↦ further_kept further
    ]
  where
    further_kept : r.gap ≢ 0 → place_by (advanced r) line ≡ place_by r line
    further_kept further =
        let test : (r.gap == 0) ≡ false = ne_eqb r.gap 0 further in
        let under : below_gap r.lines r.gap ≡ r.gap - 1 = rw test refl in
        elim (cases_lt ((line + r.start) % r.lines) r.gap) [
          | inl before ↦
              let own : place_by r line ≡ (line + r.start) % r.lines = place_by-before r line before in
              let off : (line + r.start) % r.lines ≢ r.gap - 1 = λ last. other (own ∙ last ∙ sym under) in
              ap (λ x. place_by x line) (advanced-further r further)
              ∙ place_by-before (record { lines = r.lines; start = r.start; gap = r.gap - 1 }) line (omega (arith, before, off)) ∙ sym own
          | inr behind ↦
              let own : place_by r line ≡ (line + r.start) % r.lines + 1 = place_by-behind r line behind in
              ap (λ x. place_by x line) (advanced-further r further)
              ∙ place_by-behind (record { lines = r.lines; start = r.start; gap = r.gap - 1 }) line (omega (arith, behind)) ∙ sym own
        ]

-- a store leaves the registers
rotation-store : (rs : List RegionState) (i j : ℕ) → (get_or (slice_set rs i (after_store (get_or rs i no_region))) j no_region).rotation ≡ (get_or rs j no_region).rotation
rotation-store (r ∷ rs) zero zero = refl
rotation-store (r ∷ rs) (suc i) (suc j) = rotation-store rs i j
rotation-store _ _ _ = refl

module _ {n : ℕ} where
  -- The head, while it is written

  pub head-accepted_busy : (cap : ℕ) (e f : Entry n) (es : List (Entry n)) → slice_get (accepted cap true e (f ∷ es)) 0 ≡ Some f
  head-accepted_busy cap e f es = by (candidate_index true (f ∷ es) e.line) (nat_lt (length (f ∷ es)) cap) (candidate_index-busy (f ∷ es) e.line)
    where
      by : (p : Option ℕ) (room : Bool) → ((i : ℕ) → p ≡ Some i → 0 < i) → slice_get (accepted_by p room e (f ∷ es)) 0 ≡ Some f
      by (Some zero) room behind = let bad : 0 < 0 = behind 0 refl in grind arith
      by None true behind = refl
      by _ _ behind = refl

  -- a write leaves the line of the head
  pub head_line-accepted : (cap : ℕ) (busy : Bool) (e : Entry n) (es : List (Entry n)) → 0 < length es
      → (head_line (accepted cap busy e es) ≡ head_line es) × (0 < length (accepted cap busy e es))
  head_line-accepted cap busy e [] h = grind arith
  head_line-accepted cap busy e (f ∷ es) h = by (candidate_index busy (f ∷ es) e.line) (nat_lt (length (f ∷ es)) cap)
    where
      by : (p : Option ℕ) (room : Bool) → (head_line (accepted_by p room e (f ∷ es)) ≡ f.line) × (0 < length (accepted_by p room e (f ∷ es)))
      by (Some zero) room = (refl, omega arith)
      by None true = (refl, omega arith)
      by _ _ = (refl, omega arith)

  -- The next work

  work-same_head : (kept : KeptState n) (mark : Bool) (due : Option ℕ) (es fs : List (Entry n)) → head_line es ≡ head_line fs → 0 < length es → 0 < length fs
      → cond mark Nothing (due_work due (with_entries kept es) es) ≡ cond mark Nothing (due_work due kept fs)
  work-same_head kept false None (x ∷ es) (y ∷ fs) e h k = ap (λ line. Store line (slot_of kept line)) e
  work-same_head kept false None _ _ e h k = grind arith
  work-same_head kept _ _ es fs e h k = refl

  -- it is the same while the head is of the same line
  pub next_work-same_head : (kept : KeptState n) (es : List (Entry n)) → head_line es ≡ head_line kept.entries → 0 < length es → 0 < length kept.entries
      → next_work (with_entries kept es) ≡ next_work kept
  next_work-same_head kept es e h k = work-same_head kept kept.exhausted (due_region kept) es kept.entries e h k

  pub next_work-accepted : (kept : KeptState n) (busy : Bool) (e : Entry n) → 0 < length kept.entries → next_work (accepted_kept busy e kept) ≡ next_work kept
  next_work-accepted kept busy e h =
      let same = head_line-accepted kept.shape.writes busy e kept.entries h in
      next_work-same_head kept (accepted kept.shape.writes busy e kept.entries) same.0 same.1 h

  pub next_work-completed : (kept : KeptState n) (below : List ℕ) → next_work (completed_kept below kept) ≡ next_work kept
  next_work-completed kept below = by kept.exhausted (due_region kept) kept.entries
    where
      by : (mark : Bool) (due : Option ℕ) (es : List (Entry n)) → cond mark Nothing (due_work due (completed_kept below kept) (completed below es)) ≡ cond mark Nothing (due_work due kept es)
      by mark due es = grind arith

  -- and a move that is due stays due whatever is written
  pub next_work-due : (kept : KeptState n) (es : List (Entry n)) (region : ℕ) → due_region kept ≡ Some region → next_work (with_entries kept es) ≡ next_work kept
  next_work-due kept es region h = by kept.exhausted (due_region kept) h
    where
      by : (mark : Bool) (due : Option ℕ) → due ≡ Some region → cond mark Nothing (due_work due (with_entries kept es) es) ≡ cond mark Nothing (due_work due kept kept.entries)
      by mark due h = grind arith

  -- Slots

  -- a store leaves the slot of every line
  pub slot_of-stored : (kept : KeptState n) (line : ℕ) → slot_of (stored_kept kept) line ≡ slot_of kept line
  slot_of-stored kept line =
      ap (λ r. slot_at kept.shape (line / kept.shape.lines) (place_by r (line % kept.shape.lines)))
      (rotation-store kept.regions (head_line kept.entries / kept.shape.lines) (line / kept.shape.lines))

  -- after the move of this region
  abbrev pub moved_at : KeptState n → ℕ → KeptState n
  moved_at kept region = with_regions kept (slice_set kept.regions region (after_move (region_at kept region)))

  pub moved_kept-at : (kept : KeptState n) (region : ℕ) → due_region kept ≡ Some region → moved_kept kept ≡ moved_at kept region
  moved_kept-at kept region h = ap (λ due. with_regions kept (regions_moved due kept)) h

  region_at-moved : (kept : KeptState n) (region at : ℕ) → region < length kept.regions → at ≡ region → region_at (moved_at kept region) at ≡ after_move (region_at kept region)
  region_at-moved kept region at h e = get_or-set_at kept.regions region at (after_move (region_at kept region)) no_region e h

  -- a move leaves the slots of other regions
  pub slot_of-moved_region : (kept : KeptState n) (region line : ℕ) → line / kept.shape.lines ≢ region → slot_of (moved_at kept region) line ≡ slot_of kept line
  slot_of-moved_region kept region line ne =
      ap (λ r. slot_at kept.shape (line / kept.shape.lines) (place_by r.rotation (line % kept.shape.lines)))
      (get_or-set_other kept.regions region (line / kept.shape.lines) (after_move (region_at kept region)) no_region ne)

  slot_of-moved_own : (kept : KeptState n) (region line : ℕ) → region < length kept.regions → line / kept.shape.lines ≡ region
      → slot_of (moved_at kept region) line ≡ slot_at kept.shape region (place_by (advanced (region_at kept region).rotation) (line % kept.shape.lines))
  slot_of-moved_own kept region line h e =
      ap (λ r. slot_at kept.shape (line / kept.shape.lines) (place_by r.rotation (line % kept.shape.lines))) (region_at-moved kept region (line / kept.shape.lines) h e)
      ∙ ap (λ at. slot_at kept.shape at (place_by (advanced (region_at kept region).rotation) (line % kept.shape.lines))) e

  slot_of-own : (kept : KeptState n) (region line : ℕ) → line / kept.shape.lines ≡ region
      → slot_of kept line ≡ slot_at kept.shape region (place_by (region_at kept region).rotation (line % kept.shape.lines))
  slot_of-own kept region line e = ap (λ at. slot_at kept.shape at (place_by (region_at kept at).rotation (line % kept.shape.lines))) e

  -- the line that is copied gets the slot of the gap
  pub slot_of-moved : (kept : KeptState n) (region line : ℕ) → IsKept kept → region < kept.shape.regions → line / kept.shape.lines ≡ region
      → place_by (region_at kept region).rotation (line % kept.shape.lines) ≡ (move_by (region_at kept region).rotation).from
      → slot_of (moved_at kept region) line ≡ slot_at kept.shape region (region_at kept region).rotation.gap
  slot_of-moved kept region line range h e from =
      slot_of-moved_own kept region line (omega (arith, h, range.all_regions)) e
      ∙ ap (λ place. slot_at kept.shape region place)
      (place_by-advanced (region_at kept region).rotation (line % kept.shape.lines) (range.regions region h).in_range.rotates from)

  -- and the other lines of the region keep theirs
  pub slot_of-moved_other : (kept : KeptState n) (region line : ℕ) → IsKept kept → region < kept.shape.regions → line / kept.shape.lines ≡ region
      → place_by (region_at kept region).rotation (line % kept.shape.lines) ≢ (move_by (region_at kept region).rotation).from
      → slot_of (moved_at kept region) line ≡ slot_of kept line
  slot_of-moved_other kept region line range h e other =
      slot_of-moved_own kept region line (omega (arith, h, range.all_regions)) e
      ∙ ap (λ place. slot_at kept.shape region place)
      (place_by-advanced_other (region_at kept region).rotation (line % kept.shape.lines) (range.regions region h).in_range.rotates other)
      ∙ sym (slot_of-own kept region line e)

  -- Array lines

  -- a retirement gives its slot the next spare line, and leaves the others
  pub array_line-retired : (kept : KeptState n) (slot other : ℕ)
      → array_line (retired_kept slot kept) other ≡ (if slot == other then kept.shape.base + (kept.table.slots + used_by kept.table) else array_line kept other)
  array_line-retired kept slot other =
      ap (λ line. kept.shape.base + line) (line_by-retired kept.table slot other) ∙ by (slot == other)
    where
      by : (b : Bool) → kept.shape.base + (if b then kept.table.slots + used_by kept.table else line_by kept.table other)
          ≡ (if b then kept.shape.base + (kept.table.slots + used_by kept.table) else array_line kept other)
      by b = grind arith
