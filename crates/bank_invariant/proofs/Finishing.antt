-- The end of a store.
use Rattle.std.proofs.Common.{◌≡◌, ◌≢◌, ℕ, ◌+◌, ◌/◌, ◌<◌, ◌≤◌, ◌==◌, cond, if◌then◌else◌, inl, inr, Bool, true, false, List, [], ◌∷◌, length, drop, get_or, slice_get, slice_set, Option, Some, None, refl, sym, ap, subst, ◌∙◌, arith, eq-eqb, get_or-set_other}
use Rattle.std.{specs.Prelude.{IsSomeAnd, IsTrue, IfSome}, proofs.lemmas.Bool.{cases_eq, ne_eqb}, proofs.lemmas.Grind.get_or-set_at}
use Rattle.masked_bytes.specs.{Entries.{Layer, layer_of, completed, head_line, head_row, AllMasked}, Masked.{laid, gives_all, IsMasked}, declared.entry.Entry.Entry}
use Rattle.masked_bytes.proofs.{Layering.{laid-all_given, all_given-gives_all}, Standing.{layer_of-head, layer_of-head_other}}
use Rattle.cell_rows.specs.Device.{ArrayState, LineState}
use Rattle.ecp_line.{specs.ArrayLines.decoded, specs.Reading.decode, proofs.Bytes.length-decode}
use Rattle.region_regs.specs.Region.{RegionState, after_store}
use Rattle.line_writer.specs.Writing.{steps_left, most_steps}
use Rattle.bank_shape.specs.{Kinds.is_store, Shape.slots_of, declared.Work.Work, declared.Work.TheVariants.{Nothing, Store}}
use Rattle.bank_shape.specs.declared.answer.Step.TheVariants as did
use Rattle.power_recovery.specs.Events.{with_entries, with_regions, completed_kept, stored_kept}
use Rattle.power_recovery.specs.{Kept.{KeptState, no_region, region_at, slot_of, array_line, stands_at, due_region, due_work, next_work, target_slot}, Slots.bank_lines}
use Rattle.power_recovery.proofs.{Bundle.{next_work-store, none_due, head-known, head_region-exists, IsKept-stored}, Frames.slot_of-stored, Placing.{slot_of-within, slot_of-apart}}
use Rattle.bank_model.specs.{After.work_after, Answers.{IsDone, IsIterated}, Events.{BankEvent, Begin, newest, line_of_row}}
use Rattle.bank_model.specs.History.{Awaited, waits, iterated, stored_in, moved_in}
use Rattle.bank_invariant.specs.{Holds.{Holds, IsRegionAfter, stands_for}, State.{BankState, Operation, target_of}, Storing.{StoredLaw, BegunStoredLaw, resting}, Tearing.DiffersAt}
use Rattle.bank_invariant.{specs.Tied.{AreSound, IsOf}, proofs.Agreeing.agree_law, proofs.Awaiting.sensed_law, proofs.Iterating.{under_way-steps, served-differs}}
use Rattle.bank_invariant.proofs.{Naming.{AreNamed, queue-named, head-named}, Targets.{next_store-slot, decoded-other, AreSound-differs, AreUntouched-differs, AreOrderly-differs}}
use Rattle.bank_invariant.proofs.Tearing.{running_of, target_of_running, in_progress_of}

-- The head

module _ {n : ℕ} where
  head_of : (o : Option (Entry n)) (P : Entry n → Type 0) → IsSomeAnd o P → (head : Entry n) × (o ≡ Some head) × P head
  head_of None P some = absurd some
  head_of (Some head) P some = (head, refl, some)

  head-masked : (es : List (Entry n)) (head : Entry n) → AllMasked es → slice_get es 0 ≡ Some head → IsMasked n head.bytes head.given
  head-masked [] head masked is = cc
  head-masked (x ∷ es) head masked is = let same : x ≡ head = cc in subst (λ (e : Entry n). IsMasked n e.bytes e.given) same masked.0

  head_line-is : (es : List (Entry n)) (head : Entry n) → slice_get es 0 ≡ Some head → head_line es ≡ head.line
  head_line-is [] head is = cc
  head_line-is (x ∷ es) head is = let same : x ≡ head = cc in ap (λ e. e.line) same

  -- a head that gives each byte of its line lies over any bytes as its own
  pub whole-laid : (head : Entry n) (under : List ℕ) → IsMasked n head.bytes head.given → IsTrue (gives_all head.given) → length under ≡ n
      → laid head.bytes head.given under ≡ head.bytes
  whole-laid head under masked all len =
      ap (λ given. laid head.bytes given under) (all_given-gives_all n head.given masked.given_len all) ∙ laid-all_given n head.bytes under masked.bytes_len len

  -- a store that comes next is of the line of the head
  pub next_store-line : (kept : KeptState n) (line slot : ℕ) (mark : Bool) (due : Option ℕ) (es : List (Entry n))
      → Store line slot ≡ cond mark Nothing (due_work due kept es) → head_line es ≡ line
  next_store-line kept line slot false None (x ∷ es) e = let at : line ≡ x.line = cc in sym at
  next_store-line kept line slot _ _ _ e = cc

  -- what the entries behind the head give, over the head, is what all of them give
  dropped-own : (es : List (Entry n)) (head : Entry n) (line : ℕ) (under : List ℕ) → AllMasked es → slice_get es 0 ≡ Some head → head.line ≡ line → length under ≡ n
      → laid (layer_of (drop 1 es) line).bytes (layer_of (drop 1 es) line).given (laid head.bytes head.given under)
      ≡ laid (layer_of es line).bytes (layer_of es line).given under
  dropped-own [] head line under masked is at len = cc
  dropped-own (x ∷ es) head line under masked is at len =
      let same : x ≡ head = cc in
      ap (λ (e : Entry n). laid (layer_of es line).bytes (layer_of es line).given (laid e.bytes e.given under)) (sym same)
      ∙ sym (layer_of-head x es line under masked len (ap (λ e. e.line) same ∙ at))

  dropped-other : (es : List (Entry n)) (line : ℕ) → head_line es ≢ line → layer_of (drop 1 es) line ≡ layer_of es line
  dropped-other [] line off = refl
  dropped-other (x ∷ es) line off = sym (layer_of-head_other x es line (ne_eqb x.line line off))

  -- completing the head doesn't matter once it is gone
  stored-completed : (kept : KeptState n) (under : List ℕ) → stored_kept kept ≡ stored_kept (completed_kept under kept)
  stored-completed kept under =
      ap (λ (es : List (Entry n)). with_entries (stored_kept kept) es) (same_rest kept.entries)
      ∙ ap (λ (at : ℕ). with_regions (with_entries kept (drop 1 (completed under kept.entries))) (slice_set kept.regions (at / kept.shape.lines) (after_store (region_at kept (at / kept.shape.lines)))))
      (same_line kept.entries)
    where
      same_rest : (es : List (Entry n)) → drop 1 es ≡ drop 1 (completed under es)
      same_rest es = grind arith

      same_line : (es : List (Entry n)) → head_line es ≡ head_line (completed under es)
      same_line es = grind arith

-- The end of a store: it is of the next work, and its line reads as the head does over what it read before
record IsEnd {n m : ℕ} (e line slot : ℕ) (kept : KeptState n) (old new : ArrayState n m) (head : Entry n) : Type 0 where
  next : Store line slot ≡ next_work kept
  first : slice_get kept.entries 0 ≡ Some head
  differs : DiffersAt e (array_line kept slot) old new
  reads : decoded e new (array_line kept slot) ≡ laid head.bytes head.given (decoded e old (array_line kept slot))

module _ {n m e : ℕ} (line slot : ℕ) (h : List (BankEvent n)) (bank : BankState n m e) (old new : ArrayState n m) (head : Entry n)
    (holds : Holds h bank old) (end : IsEnd e line slot bank.kept old new head) where
  stores_next : is_store (next_work bank.kept) ≡ true
  stores_next = ap is_store (sym end.next)

  some_entries : 0 < length bank.kept.entries
  some_entries = let next = next_work-store bank.kept stores_next in next.2

  head_at : head_line bank.kept.entries ≡ line
  head_at = next_store-line bank.kept line slot bank.kept.exhausted (due_region bank.kept) bank.kept.entries end.next

  line_known : line < bank_lines bank.kept.shape
  line_known = subst (λ (l : ℕ). l < bank_lines bank.kept.shape) head_at (head-known bank.kept.entries (bank_lines bank.kept.shape) holds.kept.known some_entries)

  slot_is : slot ≡ slot_of bank.kept line
  slot_is = next_store-slot bank.kept line slot bank.kept.exhausted (due_region bank.kept) bank.kept.entries end.next

  named : line_of_row (head_row bank.kept.entries) h ≡ head_line bank.kept.entries
  named =
      head-named (λ row. line_of_row row h) bank.rows_below bank.kept.entries some_entries
      (subst (λ (es : List (Entry n)). AreNamed (λ row. line_of_row row h) bank.rows_below es) (sym holds.entries)
      (queue-named bank.kept.shape (most_steps e) bank.rows_below h holds.past holds.rows))

  -- each line is shown as before
  newest_stored : (at : ℕ) → at < bank_lines bank.kept.shape → stands_for e (stored_kept bank.kept) new at ≡ newest h at
  newest_stored at below =
      let es : List (Entry n) = bank.kept.entries in
      let rest : Layer = layer_of (drop 1 es) at in
      let before : Layer = layer_of es at in
      let target : ℕ = array_line bank.kept slot in
      ap (λ s. laid rest.bytes rest.given (decoded e new (array_line bank.kept s))) (slot_of-stored bank.kept at)
      ∙ elim (cases_eq at line) [
        | inl same ↦
            let there : slot_of bank.kept at ≡ slot = ap (λ l. slot_of bank.kept l) same ∙ sym slot_is in
            ap (λ s. laid rest.bytes rest.given (decoded e new (array_line bank.kept s))) there
            ∙ ap (λ bytes. laid rest.bytes rest.given bytes) end.reads
            ∙ dropped-own es head at (decoded e old target) holds.kept.masked end.first (sym (head_line-is es head end.first) ∙ head_at ∙ sym same)
            (length-decode e (old.line target).held)
            ∙ ap (λ s. laid before.bytes before.given (decoded e old (array_line bank.kept s))) (sym there)
        | inr off ↦
            let apart : stands_at bank.kept at ≢ target = λ same.
            off (slot_of-apart bank.kept holds.kept line at line_known below
            (holds.tied.sound.apart (slot_of bank.kept at) slot (slot_of-within bank.kept holds.kept at below)
            (subst (λ (s : ℕ). s < slots_of bank.kept.shape) (sym slot_is) (slot_of-within bank.kept holds.kept line line_known)) same ∙ slot_is)) in
            ap (λ bytes. laid rest.bytes rest.given bytes) (decoded-other e target (stands_at bank.kept at) old new end.differs apart)
            ∙ ap (λ (l : Layer). laid l.bytes l.given (decoded e old (stands_at bank.kept at))) (dropped-other es at (λ same. off (sym same ∙ head_at)))
      ]
      ∙ holds.newest at below

  abbrev own_region : ℕ
  own_region = head_line bank.kept.entries / bank.kept.shape.lines

  own_exists : own_region < length bank.kept.regions
  own_exists = omega (arith, head_region-exists bank.kept holds.kept some_entries, holds.kept.all_regions)

  -- the region of the head counts one store more
  region_stored : (region : ℕ) → region < bank.kept.shape.regions
      → IsRegionAfter (moved_in bank.kept.shape.lines h region)
      ((if line_of_row (head_row bank.kept.entries) h / bank.kept.shape.lines == region then 1 else 0) + stored_in bank.kept.shape.lines h region)
      bank.kept.shape.psi (region_at (stored_kept bank.kept) region)
  region_stored region below =
      let moved : ℕ = moved_in bank.kept.shape.lines h region in
      let stored : ℕ = stored_in bank.kept.shape.lines h region in
      let psi : ℕ = bank.kept.shape.psi in
      let own : IsRegionAfter moved stored psi (region_at bank.kept region) = holds.regions region below in
      let count : Bool → ℕ = λ b. if b then 1 else 0 in
      let after : RegionState = after_store (region_at bank.kept own_region) in
      subst (λ (l : ℕ). IsRegionAfter moved (count (l / bank.kept.shape.lines == region) + stored) psi (region_at (stored_kept bank.kept) region)) (sym named)
      (elim (cases_eq region own_region) [
        | inl same ↦
            let there : IsRegionAfter moved stored psi (region_at bank.kept own_region) =
            subst (λ (r : ℕ). IsRegionAfter moved stored psi (region_at bank.kept r)) same own in
            let one : count (own_region == region) ≡ 1 = ap count (eq-eqb own_region region (sym same)) in
            subst (λ (r : RegionState). IsRegionAfter moved (count (own_region == region) + stored) psi r)
            (sym (get_or-set_at bank.kept.regions own_region region after no_region same own_exists))
            (record { registers = there.registers; counter = omega (arith, there.counter, one) })
        | inr off ↦
            let none : count (own_region == region) ≡ 0 = ap count (ne_eqb own_region region (λ same. off (sym same))) in
            subst (λ (r : RegionState). IsRegionAfter moved (count (own_region == region) + stored) psi r)
            (sym (get_or-set_other bank.kept.regions own_region region after no_region off))
            (record { registers = own.registers; counter = omega (arith, own.counter, none) })
      ])

  -- only that region may be due now
  due_stored : (region : ℕ) → region < bank.kept.shape.regions → (region_at (stored_kept bank.kept) region).counter ≡ bank.kept.shape.psi
      → line_of_row (head_row bank.kept.entries) h / bank.kept.shape.lines ≡ region
  due_stored region below full =
      let next = next_work-store bank.kept stores_next in
      elim (cases_eq region own_region) [
        | inl same ↦ ap (λ l. l / bank.kept.shape.lines) named ∙ sym same
        | inr off ↦
            absurd (none_due bank.kept holds.kept next.1 region below
            (ap (λ (r : RegionState). r.counter) (sym (get_or-set_other bank.kept.regions own_region region (after_store (region_at bank.kept own_region)) no_region off))
            ∙ full ∙ sym (holds.kept.regions region below).stores))
      ]

  -- the history lets the store end so
  done_stored : (place : ℕ) → place ≡ array_line bank.kept slot → IsDone bank.kept.shape h (work_after bank.kept.shape h) (did.Stored (head_row bank.kept.entries) place)
  done_stored place is =
      let agrees = agree_law n m e h bank old holds in
      subst (λ (work : Work). IsDone bank.kept.shape h work (did.Stored (head_row bank.kept.entries) place)) (end.next ∙ agrees.work)
      (ap (λ es. head_row es) holds.entries, is ∙ agrees.lines slot)

  iterated_stored : (place : ℕ) → place ≡ array_line bank.kept slot → IsIterated bank.kept.shape h (work_after bank.kept.shape h) (did.Stored (head_row bank.kept.entries) place)
  iterated_stored place is = by (work_after bank.kept.shape h) (done_stored place is)
    where
      by : (work : Work) → IsDone bank.kept.shape h work (did.Stored (head_row bank.kept.entries) place) → IsIterated bank.kept.shape h work (did.Stored (head_row bank.kept.entries) place)
      by work done = grind arith

  exhausted_stored : IsTrue bank.kept.exhausted → ⊥
  exhausted_stored mark =
      let next = next_work-store bank.kept stores_next in
      let no : bank.kept.exhausted ≡ true = mark in
      let off : bank.kept.exhausted ≡ false = next.0 in
      cc

AreSound-stored : {n m : ℕ} (e : ℕ) (kept : KeptState n) (array : ArrayState n m) → AreSound e kept array → AreSound e (stored_kept kept) array
AreSound-stored e kept array sound = record { apart = sound.apart; slots = sound.slots; spares = sound.spares; worn = sound.worn }

-- By an iteration

pub stored_law : StoredLaw
stored_law n m e line slot h bank old new op holds is stores differs reads =
    let run = running_of h bank old op holds is in
    let of : IsOf e bank.kept old bank.waiting op.writer.bytes (Store line slot) =
    subst (λ (work : Work). IsOf e bank.kept old bank.waiting op.writer.bytes work) stores run.of in
    let found = head_of (slice_get bank.kept.entries 0) (λ head. (head.line ≡ line) × (head.bytes ≡ op.writer.bytes) × IsTrue (gives_all head.given)) of.0 in
    let head : Entry n = found.0 in
    let masked : IsMasked n head.bytes head.given = head-masked bank.kept.entries head holds.kept.masked found.1 in
    let target : op.target ≡ array_line bank.kept slot = run.target ∙ ap (λ work. target_of bank.kept work) stores in
    let end : IsEnd e line slot bank.kept old new head = record {
      next = sym stores ∙ run.next;
      first = found.1;
      differs = subst (λ (t : ℕ). DiffersAt e t old new) target differs;
      reads = ap (λ t. decoded e new t) (sym target) ∙ reads ∙ sym found.2.1
          ∙ sym (whole-laid head (decoded e old (array_line bank.kept slot)) masked found.2.2 (length-decode e (old.line (array_line bank.kept slot)).held));
    } in
    let at = target_of_running h bank old op holds is in
    let steps : iterated h + steps_left op.writer ≤ most_steps e =
    subst (λ (r : Option (Operation n m e)). IfSome r (λ op. iterated h + steps_left op.writer ≤ most_steps e)) is holds.steps in
    let left : 0 < steps_left op.writer = under_way-steps op.writer (old.line op.target) run.writing in
    record {
      past = ((in_progress_of h bank old op holds is, iterated_stored line slot h bank old new head holds end op.target target, omega (arith, steps, left), λ more. absurd cc), holds.past);
      newest = newest_stored line slot h bank old new head holds end;
      waiting = holds.waiting;
      few_waiting = holds.few_waiting;
      served = λ k d few.
          let w : Awaited = get_or (waits bank.kept.shape h) k d in
          ap (λ s. laid w.kept w.given (decoded e new (array_line bank.kept s))) (slot_of-stored bank.kept w.line)
          ∙ served-differs h bank old new op holds is differs k d few;
      running = refl;
      steps = tt;
      rounds = tt;
      tied = record {
        lines = omega (arith, holds.tied.lines, differs.lines);
        sound = AreSound-stored e bank.kept new
            (AreSound-differs e bank.kept bank.waiting op.target (target_slot bank.kept op.work) old new holds.kept holds.tied.sound at differs);
        unused = AreUntouched-differs e op.target _ _ old new differs holds.tied.unused;
        orderly = AreOrderly-differs e op.target _ _ old new differs holds.tied.orderly;
        operation = tt;
        exhausted = λ mark. absurd (exhausted_stored line slot h bank old new head holds end mark);
      };
      regions = region_stored line slot h bank old new head holds end;
      due_last = due_stored line slot h bank old new head holds end;
      entries = ap (λ es. drop 1 es) holds.entries;
      table = holds.table;
      exhausted = holds.exhausted;
      rows = holds.rows;
      kept = IsKept-stored bank.kept holds.kept (stores_next line slot h bank old new head holds end);
    }

-- As it is begun

pub begun_stored_law : BegunStoredLaw
begun_stored_law n m e line slot h bank old new head holds may next first stands reads =
    let now : Holds h bank new = sensed_law n m e h bank old new holds stands in
    let under : List ℕ = decoded e old (array_line bank.kept slot) in
    let place : slot ≡ slot_of bank.kept line = next_store-slot bank.kept line slot bank.kept.exhausted (due_region bank.kept) bank.kept.entries (sym next) in
    let some = next_work-store bank.kept (ap is_store next) in
    let at : head_line bank.kept.entries ≡ line = next_store-line bank.kept line slot bank.kept.exhausted (due_region bank.kept) bank.kept.entries (sym next) in
    let known : line < bank_lines bank.kept.shape =
    subst (λ (l : ℕ). l < bank_lines bank.kept.shape) at (head-known bank.kept.entries (bank_lines bank.kept.shape) holds.kept.known some.2) in
    let exists : slot < slots_of bank.kept.shape =
    subst (λ (s : ℕ). s < slots_of bank.kept.shape) (sym place) (slot_of-within bank.kept holds.kept line known) in
    let read : decoded e new (array_line bank.kept slot) ≡ under = ap (λ (l : LineState n m). decode e l.held) (stands.line (array_line bank.kept slot)) in
    let end : IsEnd e line slot bank.kept new new head = record {
      next = sym next;
      first = first;
      differs = record {
        others = λ l off. refl;
        lines = refl;
        bounds = refl;
        sound = now.tied.sound.slots slot exists;
        stuck = λ number is. is;
        unused = λ own. own;
        orderly = λ own. own;
      };
      reads = read ∙ sym reads ∙ ap (λ bytes. laid head.bytes head.given bytes) (sym read);
    } in
    let agrees = agree_law n m e h bank new now in
    let row : ℕ = head_row bank.kept.entries in
    let after : Holds (Begin (did.Stored row (array_line bank.kept slot)) ∷ h) (resting (stored_kept bank.kept) bank) new = record {
      past = ((sym agrees.ready ∙ may, done_stored line slot h bank new new head now end (array_line bank.kept slot) refl), now.past);
      newest = newest_stored line slot h bank new new head now end;
      waiting = now.waiting;
      few_waiting = now.few_waiting;
      served = λ k d few.
          let w : Awaited = get_or (waits bank.kept.shape h) k d in
          ap (λ s. laid w.kept w.given (decoded e new (array_line bank.kept s))) (slot_of-stored bank.kept w.line) ∙ now.served k d few;
      running = refl;
      steps = tt;
      rounds = tt;
      tied = record {
        lines = now.tied.lines;
        sound = AreSound-stored e bank.kept new now.tied.sound;
        unused = now.tied.unused;
        orderly = now.tied.orderly;
        operation = tt;
        exhausted = λ mark. absurd (exhausted_stored line slot h bank new new head now end mark);
      };
      regions = region_stored line slot h bank new new head now end;
      due_last = due_stored line slot h bank new new head now end;
      entries = ap (λ es. drop 1 es) now.entries;
      table = now.table;
      exhausted = now.exhausted;
      rows = now.rows;
      kept = IsKept-stored bank.kept now.kept (ap is_store next);
    } in
    subst (λ (kept : KeptState n). Holds (Begin (did.Stored row (array_line bank.kept slot)) ∷ h) (resting kept bank) new) (stored-completed bank.kept under) after
