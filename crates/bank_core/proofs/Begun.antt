-- That the begin of a line write keeps the tie and the invariant.
use Rattle.std.proofs.Common.{◌≡◌, ℕ, ◌<◌, ◌≤◌, not, refl, sym, ap, subst, ◌∙◌, arith, true, false, List, [], ◌∷◌, length, slice_get, Option, Some, None, is_some}
use Rattle.std.{specs.Prelude.{IsSomeAnd, IfSome, IsTrue}, proofs.lemmas.Bool.and_parts}
use Rattle.masked_bytes.specs.{Entries.{completed, head_line, head_row}, Masked.laid, declared.entry.Entry.Entry}
use Rattle.cell_rows.specs.{Device.{ArrayState, LineState}, declared.row.Cells.Cells}
use Rattle.ecp_line.specs.{ArrayLines.decoded, Reading.{decode, IsSoundLine}}
use Rattle.start_gap.specs.{Rotation.move_by, declared.Move.Move}
use Rattle.bank_shape.specs.{Kinds.{is_store, is_copy}, Shape.{slots_of, slot_at}, declared.BankShape.BankShape, declared.Work.Work}
use Rattle.bank_shape.specs.{declared.Work.TheVariants.{Nothing, Store, Copy}, declared.answer.Step.Step, declared.waiting.Waiting.Waiting}
use Rattle.bank_shape.specs.declared.answer.Step.TheVariants as did
use Rattle.line_writer.specs.{Writing.{IsProgress, HasBegun, Writes, steps_left, most_steps}, declared.writer.LineWriter.LineWriter, declared.writer.Progress.Progress}
use Rattle.line_writer.specs.declared.writer.Progress.TheVariants as progress
use Rattle.power_recovery.specs.{Events.{completed_kept, stored_kept}, Kept.{KeptState, IsKept, region_at, slot_of, array_line, due_region, next_work}, Slots.bank_lines}
use Rattle.power_recovery.proofs.{Bundle.{next_work-store, next_work-copy, head-known, due_region-Some}, Frames.next_work-completed, Placing.slot_of-within}
use Rattle.bank_model.specs.Events.{BankEvent, Begin}
use Rattle.bank_invariant.specs.{Beginning.begun_with, Holds.Holds, Retiring.ended, State.{BankState, Operation, target_of, is_free, may_begin}, Storing.resting}
use Rattle.bank_invariant.{specs.Tied.{StandsAs, AreSound, IsOf, IsTied}, proofs.Awaiting.tied_sensed, proofs.Finishing.{begun_stored_law, next_store-line}}
use Rattle.bank_invariant.proofs.{Iterating.from-within, Starting.{begun_store_law, begun_copy_law, whole-completed, free-off, AreSound-completed}}
use Rattle.bank_invariant.proofs.{Targets.{next_store-slot, next_copy-region}, Turned.moved_at_once_law}
use Rattle.bank_core.specs.{Beginning.{head_over, bytes_for, begun_kept, IsBegin}, Stepping.{with_kept, step_from, left_by, done_from, done_kept}}

isn't-some : {A : Type 0} (x : Option A) → not (is_some x) ≡ true → x ≡ None
isn't-some None h = refl
isn't-some (Some x) h = cc

-- the head's bytes over these are what completes it
over_head : {n : ℕ} (es : List (Entry n)) (under bytes : List ℕ) → 0 < length es → bytes ≡ head_over es under
    → IsSomeAnd (slice_get es 0) (λ head. bytes ≡ laid head.bytes head.given under)
over_head [] under bytes some is = let no : ⊥ = omega (arith, some) in absurd no
over_head (head ∷ rest) under bytes some is = is

first_head : {n : ℕ} (es : List (Entry n)) (under : List ℕ) → 0 < length es
    → (head : Entry n) × (slice_get es 0 ≡ Some head) × (head_over es under ≡ laid head.bytes head.given under)
first_head [] under some = let no : ⊥ = omega (arith, some) in absurd no
first_head (head ∷ rest) under some = (head, refl, refl)

-- the bytes of a completed head
head-so : {n : ℕ} (es : List (Entry n)) (under bytes : List ℕ) → 0 < length es → IfSome (slice_get (completed under es) 0) (λ head. bytes ≡ head.bytes) → bytes ≡ head_over es under
head-so [] under bytes some is = let no : ⊥ = omega (arith, some) in absurd no
head-so (head ∷ rest) under bytes some is = is

some-entries : {n : ℕ} (kept : KeptState n) (line slot : ℕ) → next_work kept ≡ Store line slot → 0 < length kept.entries
some-entries kept line slot next = (next_work-store kept (ap is_store next)).2

-- a bank with a work that may be begun takes writes
going : {n : ℕ} (kept : KeptState n) (work : Work) (ws : List (Waiting n)) → next_work kept ≡ work → is_free ws work ≡ true → kept.exhausted ≡ false
going kept Nothing ws next free = cc
going kept (Store line slot) ws next free = (next_work-store kept (ap is_store next)).0
going kept (Copy region step) ws next free = (next_work-copy kept (ap is_copy next)).0

module _ {n m e : ℕ} (bank : BankState n m e) (op : Operation n m e) (before after : ArrayState n m) where
  -- a line write that was just begun for this work, of an array that stands as it was
  pub record IsFor (due : Work) : Type 0 where
    pub may : IsTrue (may_begin bank)
    pub next : next_work bank.kept ≡ due
    pub work : op.work ≡ due
    pub target : op.target ≡ target_of bank.kept due
    pub bytes : op.writer.bytes ≡ bytes_for e bank.kept before due
    pub writes : Writes op.writer (after.line op.target)
    pub few : steps_left op.writer ≤ most_steps e
    pub stands : StandsAs before after

  free-for : (work : Work) → IsFor work → is_free bank.waiting work ≡ true
  free-for work is = ap (λ w. is_free bank.waiting w) (sym is.next) ∙ (and_parts (not (is_some bank.running)) (is_free bank.waiting (next_work bank.kept)) is.may).1

  idle-for : (work : Work) → IsFor work → bank.running ≡ None
  idle-for work is = isn't-some bank.running (and_parts (not (is_some bank.running)) (is_free bank.waiting (next_work bank.kept)) is.may).0

  -- a write that is done as it begins finds its line read as its bytes
  read-so : (work : Work) → IsFor work → op.writer.progress ≡ progress.Stored → decoded e before (target_of bank.kept work) ≡ bytes_for e bank.kept before work
  read-so work is stored =
      let answer = subst (λ (p : Progress). IsProgress op.writer (after.line op.target) p) stored is.writes.answer in
      ap (λ (l : ℕ). decoded e before l) (sym is.target)
      ∙ ap (λ (l : LineState n m). decode e l.held) (sym (is.stands.line op.target))
      ∙ answer.2 ∙ is.bytes

  -- The invariant

  holds-more : (h : List (BankEvent n)) (work : Work) → Holds h bank before → IsFor work → op.writer.progress ≡ progress.More
      → Holds (Begin did.More ∷ h) (begun_with (begun_kept e bank.kept before work) op bank) after
  holds-more h Nothing holds is more = let no : false ≡ true = free-for Nothing is in cc
  holds-more h (Store line slot) holds is more =
      begun_store_law n m e line slot h bank before after op holds is.may is.next is.stands is.work is.target
      (over_head bank.kept.entries (decoded e before (array_line bank.kept slot)) op.writer.bytes (some-entries bank.kept line slot is.next) is.bytes)
      (record { more = more; writes = is.writes }) is.few
  holds-more h (Copy region step) holds is more =
      begun_copy_law n m e region step h bank before after op holds is.may is.next is.stands is.work
      (is.target ∙ ap (λ w. target_of bank.kept w) (sym is.work)) is.bytes
      (record { more = more; writes = is.writes }) is.few

  holds-done : (h : List (BankEvent n)) (work : Work) → Holds h bank before → IsFor work → op.writer.progress ≡ progress.Stored
      → Holds (Begin (done_from bank.kept work op.target) ∷ h) (ended bank (done_kept (begun_kept e bank.kept before work) work)) after
  holds-done h Nothing holds is stored = let no : false ≡ true = free-for Nothing is in cc
  holds-done h (Store line slot) holds is stored =
      let under : List ℕ = decoded e before (array_line bank.kept slot) in
      let first = first_head bank.kept.entries under (some-entries bank.kept line slot is.next) in
      let P : ℕ → Type 0 =
      λ at. Holds (Begin (did.Stored (head_row bank.kept.entries) at) ∷ h) (resting (stored_kept (completed_kept under bank.kept)) bank) after in
      subst P (sym is.target)
      (begun_stored_law n m e line slot h bank before after first.0 holds is.may is.next first.1 is.stands
      (sym first.2 ∙ sym (read-so (Store line slot) is stored)))
  holds-done h (Copy region step) holds is stored =
      moved_at_once_law n m e region step h bank before after holds (idle-for (Copy region step) is) is.next is.stands
      (ap (λ (l : LineState n m). decode e l.held) (is.stands.line (target_of bank.kept (Copy region step))) ∙ read-so (Copy region step) is stored)

  -- The tie

  now-tied : (work : Work) → IsFor work → IsTied bank before → IsTied bank after
  now-tied work is tied = tied_sensed e before after is.stands bank.kept bank.running bank.waiting tied

  not-worn : {A : Type 0} (work : Work) → IsFor work → IsTrue bank.kept.exhausted → A
  not-worn work is mark = let unmarked : bank.kept.exhausted ≡ false = going bank.kept work bank.waiting is.next (free-for work is) in cc

  sound-begun : (work : Work) → AreSound e bank.kept after → AreSound e (begun_kept e bank.kept before work) after
  sound-begun Nothing sound = sound
  sound-begun (Store line slot) sound = AreSound-completed e bank.kept (decoded e before (array_line bank.kept slot)) after sound
  sound-begun (Copy region step) sound = sound

  tied-more : (work : Work) → IsTied bank before → IsFor work → op.writer.progress ≡ progress.More
      → IsTied (begun_with (begun_kept e bank.kept before work) op bank) after
  tied-more Nothing tied is more = let no : false ≡ true = free-for Nothing is in cc
  tied-more (Store line slot) tied is more =
      let now = now-tied (Store line slot) is tied in
      let kept : KeptState n = bank.kept in
      let under : List ℕ = decoded e before (array_line kept slot) in
      let at_head : head_line kept.entries ≡ line = next_store-line kept line slot kept.exhausted (due_region kept) kept.entries (sym is.next) in
      let bytes = over_head kept.entries under op.writer.bytes (some-entries kept line slot is.next) is.bytes in
      record {
        lines = now.lines;
        sound = AreSound-completed e kept under after now.sound;
        unused = now.unused;
        orderly = now.orderly;
        operation = record {
          next = is.work ∙ sym is.next ∙ sym (next_work-completed kept under);
          target = is.target ∙ ap (λ w. target_of (completed_kept under kept) w) (sym is.work);
          of = subst (λ (w : Work). IsOf e (completed_kept under kept) after bank.waiting op.writer.bytes w) (sym is.work)
              (whole-completed kept.entries line under op.writer.bytes at_head bytes, free-off line slot bank.waiting (free-for (Store line slot) is));
          writing = record { more = more; writes = is.writes };
        };
        exhausted = not-worn (Store line slot) is;
      }
  tied-more (Copy region step) tied is more =
      let now = now-tied (Copy region step) is tied in
      let source : ℕ = array_line bank.kept (slot_at bank.kept.shape region step.from) in
      record {
        lines = now.lines;
        sound = now.sound;
        unused = now.unused;
        orderly = now.orderly;
        operation = record {
          next = is.work ∙ sym is.next;
          target = is.target ∙ ap (λ w. target_of bank.kept w) (sym is.work);
          of = subst (λ (w : Work). IsOf e bank.kept after bank.waiting op.writer.bytes w) (sym is.work)
              (is.bytes ∙ ap (λ (l : LineState n m). decode e l.held) (sym (is.stands.line source)));
          writing = record { more = more; writes = is.writes };
        };
        exhausted = not-worn (Copy region step) is;
      }

  tied-done : (work : Work) → IsTied bank before → IsFor work → IsTied (ended bank (done_kept (begun_kept e bank.kept before work) work)) after
  tied-done Nothing tied is = let no : false ≡ true = free-for Nothing is in cc
  tied-done (Store line slot) tied is =
      let now = now-tied (Store line slot) is tied in
      let sound = sound-begun (Store line slot) now.sound in
      record {
        lines = now.lines;
        sound = record { apart = sound.apart; slots = sound.slots; spares = sound.spares; worn = sound.worn };
        unused = now.unused;
        orderly = now.orderly;
        operation = tt;
        exhausted = not-worn (Store line slot) is;
      }
  tied-done (Copy region step) tied is =
      let now = now-tied (Copy region step) is tied in
      record {
        lines = now.lines;
        sound = record { apart = now.sound.apart; slots = now.sound.slots; spares = now.sound.spares; worn = now.sound.worn };
        unused = now.unused;
        orderly = now.orderly;
        operation = tt;
        exhausted = not-worn (Copy region step) is;
      }

  -- By how far the line write has come

  step-holds : (h : List (BankEvent n)) (far : Progress) → Holds h bank before → IsFor op.work → HasBegun far → op.writer.progress ≡ far
      → Holds (Begin (step_from bank.kept op far) ∷ h) (left_by (with_kept bank (begun_kept e bank.kept before op.work)) op op far) after
  step-holds h progress.More holds is begun at = holds-more h op.work holds is at
  step-holds h progress.Stored holds is begun at = holds-done h op.work holds is at
  step-holds h (progress.Worn cause) holds is begun at = absurd begun

  step-tied : (far : Progress) → IsTied bank before → IsFor op.work → HasBegun far → op.writer.progress ≡ far
      → IsTied (left_by (with_kept bank (begun_kept e bank.kept before op.work)) op op far) after
  step-tied progress.More tied is begun at = tied-more op.work tied is at
  step-tied progress.Stored tied is begun at = tied-done op.work tied is
  step-tied (progress.Worn cause) tied is begun at = absurd begun

module _ {n m e : ℕ} (old new : BankState n m e) (answer : Step) (before after : ArrayState n m) where
  is-for : IsTrue (may_begin old) → (b : IsBegin old new answer before after) → StandsAs before after
      → IsFor old b.op before after b.op.work
  is-for may b stands = record {
    may = may;
    next = sym b.work;
    work = refl;
    target = b.target;
    bytes = b.bytes;
    writes = b.writes;
    few = b.few;
    stands = stands;
  }

  -- a begin keeps the invariant
  pub begin-holds : IsTrue (may_begin old) → IsBegin old new answer before after → StandsAs before after
      → (h : List (BankEvent n)) → Holds h old before → Holds (Begin answer ∷ h) new after
  begin-holds may b stands h holds =
      let end = step-holds old b.op before after h b.op.writer.progress holds (is-for may b stands) b.begun refl in
      subst (λ (s : Step). Holds (Begin s ∷ h) new after) (sym b.is)
      (subst (λ (bank : BankState n m e). Holds (Begin (step_from old.kept b.op b.op.writer.progress) ∷ h) bank after) (sym b.leaves) end)

  -- and the tie
  pub begin-tied : IsTrue (may_begin old) → IsBegin old new answer before after → StandsAs before after
      → IsTied old before → IsTied new after
  begin-tied may b stands tied =
      subst (λ (bank : BankState n m e). IsTied bank after) (sym b.leaves)
      (step-tied old b.op before after b.op.writer.progress tied (is-for may b stands) b.begun refl)

-- Where a begin comes from

module _ {n m e : ℕ} where
  -- a line write that was just begun, for a line that holds these cells, with these bytes
  pub record IsStarted (writer : LineWriter n m e) (seen : Cells n m) (written : List ℕ) : Type 0 where
    pub writes : (line : LineState n m) → line.held ≡ seen → IsSoundLine e line → Writes writer line
    pub begun : (line : LineState n m) → line.held ≡ seen → IsSoundLine e line → HasBegun writer.progress
    pub bytes : writer.bytes ≡ written
    pub few : steps_left writer ≤ most_steps e

  begins-so : (bank new : BankState n m e) (answer : Step) (op : Operation n m e) (seen : Cells n m) (bytes : List ℕ) (before after : ArrayState n m)
      → IsStarted op.writer seen bytes → op.work ≡ next_work bank.kept → op.target ≡ target_of bank.kept op.work → bytes ≡ bytes_for e bank.kept before op.work
      → answer ≡ step_from bank.kept op op.writer.progress
      → new ≡ left_by (with_kept bank (begun_kept e bank.kept before op.work)) op op op.writer.progress
      → (before.line op.target).held ≡ seen → IsSoundLine e (before.line op.target) → after.line op.target ≡ before.line op.target
      → IsBegin bank new answer before after
  begins-so bank new answer op seen bytes before after started work target is said leaves held sound same = record {
    op = op;
    work = work;
    target = target;
    bytes = started.bytes ∙ is;
    writes = subst (λ (l : LineState n m). Writes op.writer l) (sym same) (started.writes (before.line op.target) held sound);
    begun = started.begun (before.line op.target) held sound;
    few = started.few;
    is = said;
    leaves = leaves;
  }

  -- the answer doesn't depend on what completes the head
  said-so : (kept : KeptState n) (under : List ℕ) (op : Operation n m e) (work : Work) → done_from (completed_kept under kept) work op.target ≡ done_from kept work op.target
  said-so kept under op Nothing = refl
  said-so kept under op (Store line slot) = ap (λ row. did.Stored row op.target) (row-so kept.entries)
    where
      row-so : (es : List (Entry n)) → head_row (completed under es) ≡ head_row es
      row-so [] = refl
      row-so (e ∷ es) = refl
  said-so kept under op (Copy region step) = refl

  said-completed : (kept : KeptState n) (under : List ℕ) (op : Operation n m e) (far : Progress) → HasBegun far
      → step_from (completed_kept under kept) op far ≡ step_from kept op far
  said-completed kept under op progress.More begun = refl
  said-completed kept under op progress.Stored begun = said-so kept under op op.work
  said-completed kept under op (progress.Worn cause) begun = absurd begun

  pub begins-store : (line slot target : ℕ) (bank new : BankState n m e) (answer : Step) (writer : LineWriter n m e) (kept : KeptState n) (seen : Cells n m) (under bytes : List ℕ)
      (before after : ArrayState n m)
      → let op : Operation n m e = record { work = Store line slot; target = target; writer = writer } in
      next_work bank.kept ≡ Store line slot → target ≡ array_line bank.kept slot → under ≡ decode e seen → kept ≡ completed_kept under bank.kept
      → IfSome (slice_get kept.entries 0) (λ head. bytes ≡ head.bytes) → IsStarted writer seen bytes
      → answer ≡ step_from kept op writer.progress → new ≡ left_by (with_kept bank kept) op op writer.progress
      → (before.line target).held ≡ seen → IsSoundLine e (before.line target) → after.line target ≡ before.line target
      → IsBegin bank new answer before after
  begins-store line slot target bank new answer writer kept seen under bytes before after next place read completes head started said leaves held sound same =
      let op : Operation n m e = record { work = Store line slot; target = target; writer = writer } in
      let shown : decoded e before (array_line bank.kept slot) ≡ under =
      ap (λ (l : ℕ). decoded e before l) (sym place) ∙ ap (λ (cells : Cells n m). decode e cells) held ∙ sym read in
      let head_is : IfSome (slice_get (completed under bank.kept.entries) 0) (λ (h : Entry n). bytes ≡ h.bytes) =
      subst (λ (k : KeptState n). IfSome (slice_get k.entries 0) (λ (h : Entry n). bytes ≡ h.bytes)) completes head in
      let over : bytes ≡ head_over bank.kept.entries under = head-so bank.kept.entries under bytes (some-entries bank.kept line slot next) head_is in
      begins-so bank new answer op seen bytes before after started (sym next) place
      (over ∙ ap (λ (u : List ℕ). head_over bank.kept.entries u) (sym shown))
      (said ∙ ap (λ (k : KeptState n). step_from k op writer.progress) completes
      ∙ said-completed bank.kept under op writer.progress (started.begun (before.line target) held sound))
      (leaves ∙ ap (λ (k : KeptState n). left_by (with_kept bank k) op op writer.progress) (completes ∙ ap (λ (u : List ℕ). completed_kept u bank.kept) (sym shown)))
      held sound same

  pub begins-copy : (region target : ℕ) (step : Move) (bank new : BankState n m e) (answer : Step) (writer : LineWriter n m e) (copied seen : Cells n m) (bytes : List ℕ)
      (before after : ArrayState n m)
      → let op : Operation n m e = record { work = Copy region step; target = target; writer = writer } in
      next_work bank.kept ≡ Copy region step → target ≡ target_of bank.kept (Copy region step) → bytes ≡ decode e copied → IsStarted writer seen bytes
      → answer ≡ step_from bank.kept op writer.progress → new ≡ left_by bank op op writer.progress
      → (before.line (array_line bank.kept (slot_at bank.kept.shape region step.from))).held ≡ copied
      → (before.line target).held ≡ seen → IsSoundLine e (before.line target) → after.line target ≡ before.line target
      → IsBegin bank new answer before after
  begins-copy region target step bank new answer writer copied seen bytes before after next place read started said leaves from held sound same =
      let op : Operation n m e = record { work = Copy region step; target = target; writer = writer } in
      begins-so bank new answer op seen bytes before after started (sym next) place (read ∙ ap (λ (cells : Cells n m). decode e cells) (sym from)) said leaves held sound same

-- Where the next work writes

module _ {n : ℕ} where
  pub store-slot : (kept : KeptState n) (line slot : ℕ) → IsKept kept → next_work kept ≡ Store line slot → slot < slots_of kept.shape
  store-slot kept line slot range next =
      let place : slot ≡ slot_of kept line = next_store-slot kept line slot kept.exhausted (due_region kept) kept.entries (sym next) in
      let at_head : head_line kept.entries ≡ line = next_store-line kept line slot kept.exhausted (due_region kept) kept.entries (sym next) in
      let known : line < bank_lines kept.shape =
      subst (λ (l : ℕ). l < bank_lines kept.shape) at_head (head-known kept.entries (bank_lines kept.shape) range.known (some-entries kept line slot next)) in
      subst (λ (s : ℕ). s < slots_of kept.shape) (sym place) (slot_of-within kept range line known)

  -- a copy is of a region of the bank, from one of its places to another
  pub record IsCopyWithin (kept : KeptState n) (region : ℕ) (step : Move) : Type 0 where
    pub exists : region < kept.shape.regions
    pub from : step.from ≤ kept.shape.lines
    pub to : step.to ≤ kept.shape.lines

  pub copy-within : (kept : KeptState n) (region : ℕ) (step : Move) → IsKept kept → next_work kept ≡ Copy region step → IsCopyWithin kept region step
  copy-within kept region step range next =
      let moves = next_copy-region kept region step kept.exhausted (due_region kept) kept.entries (sym next) in
      let due = due_region-Some kept region range moves.0 in
      let own = range.regions region due.0 in
      let to : step.to ≡ (region_at kept region).rotation.gap = ap (λ s. s.to) moves.1 in
      let from : step.from ≡ (move_by (region_at kept region).rotation).from = ap (λ s. s.from) moves.1 in
      record {
        exists = due.0;
        from = omega (arith, from, own.rotates, from-within (region_at kept region).rotation own.in_range.rotates);
        to = omega (arith, to, own.rotates, own.in_range.rotates.gap_within);
      }

  -- the line of a place of a region
  pub place-so : (kept : KeptState n) (shape : BankShape) (region place slot at : ℕ) → shape ≡ kept.shape → slot ≡ slot_at shape region place → at ≡ array_line kept slot
      → at ≡ array_line kept (slot_at kept.shape region place)
  place-so kept shape region place slot at same exact is =
      is ∙ ap (λ (s : ℕ). array_line kept s) (exact ∙ ap (λ (s : BankShape). slot_at s region place) same)

module _ {n m e : ℕ} where
  pub store-sound : (bank : BankState n m e) (array : ArrayState n m) (line slot target : ℕ) → IsKept bank.kept → IsTied bank array
      → next_work bank.kept ≡ Store line slot → target ≡ array_line bank.kept slot → IsSoundLine e (array.line target)
  store-sound bank array line slot target range tied next place =
      subst (λ (l : ℕ). IsSoundLine e (array.line l)) (sym place) (tied.sound.slots slot (store-slot bank.kept line slot range next))

  pub slot-sound : (bank : BankState n m e) (array : ArrayState n m) (slot at : ℕ) → IsTied bank array
      → slot < slots_of bank.kept.shape → at ≡ array_line bank.kept slot → IsSoundLine e (array.line at)
  slot-sound bank array slot at tied below place = subst (λ (l : ℕ). IsSoundLine e (array.line l)) (sym place) (tied.sound.slots slot below)
