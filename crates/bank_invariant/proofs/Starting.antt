-- The begin of a line write that goes on.
use Rattle.std.proofs.Common.{◌≡◌, ◌≢◌, ℕ, ◌<◌, ◌==◌, ◌||◌, not, inl, inr, ◌⊎◌, Bool, true, false, List, [], ◌∷◌, zero, suc, length, slice_get, None, is_some, refl, sym, ap, subst, ◌∙◌, arith, eq-eqb}
use Rattle.std.{specs.List.list_any, specs.Prelude.{IsSomeAnd, IsTrue, All}, proofs.lemmas.Bool.{cases_eq, ne_eqb}}
use Rattle.masked_bytes.specs.{Entries.{Layer, layer_of, no_layer, completed, head_line, AllMasked}, Masked.{laid, gives_all, all_given}, declared.entry.Entry.Entry}
use Rattle.masked_bytes.proofs.{Layering.{length-laid, laid-none_given, gives_all-all_given, laid-again}, Standing.{layer_of-head, layer_of-completed, layer_of-completed_other}}
use Rattle.masked_bytes.proofs.Truth.{and_second}
use Rattle.cell_rows.specs.Device.{ArrayState, LineState}
use Rattle.ecp_line.{specs.ArrayLines.decoded, specs.Reading.decode, proofs.Bytes.length-decode}
use Rattle.line_writer.specs.Writing.{most_steps}
use Rattle.bank_shape.specs.{Kinds.{is_store, is_copy}, Shape.slot_at, declared.Work.Work, declared.Work.TheVariants.Store, declared.waiting.Waiting.Waiting}
use Rattle.power_recovery.specs.{Events.completed_kept, Kept.{KeptState, slot_of, array_line, stands_at, due_region, next_work}, Slots.bank_lines}
use Rattle.power_recovery.proofs.{Bundle.{next_work-store, next_work-copy, head-known, IsKept-completed}, Frames.next_work-completed}
use Rattle.bank_model.specs.{Events.newest, History.{begun, due_after}}
use Rattle.bank_invariant.specs.{Beginning.{BegunStoreLaw, BegunCopyLaw}, Holds.Holds, State.{target_of, is_free}, Tied.{AreSound, IsOf}}
use Rattle.bank_invariant.proofs.{Agreeing.agree_law, Alone.{IsHeadAlone, head-alone}, Awaiting.sensed_law, Finishing.{whole-laid, next_store-line}}
use Rattle.bank_invariant.proofs.Targets.{next_store-slot, next_copy-region}

module _ {n : ℕ} where
  -- a store that may begin has no read of its line that waits
  off_by : (line : ℕ) (ws : List (Waiting n)) → list_any (λ w. w.line == line) ws ≡ false → All (λ w. w.line ≢ line) ws
  off_by line [] none k d few = let no : ⊥ = omega (arith, few) in absurd no
  off_by line (w ∷ ws) none zero d few = λ same. let on : (w.line == line) ≡ true = eq-eqb w.line line same in first (w.line == line) on none
    where
      first : (b : Bool) → b ≡ true → (b || list_any (λ w. w.line == line) ws) ≡ false → ⊥
      first b on none = grind arith
  off_by line (w ∷ ws) none (suc k) d few = off_by line ws (rest (w.line == line) none) k d (omega (arith, few))
    where
      rest : (b : Bool) → (b || list_any (λ w. w.line == line) ws) ≡ false → list_any (λ w. w.line == line) ws ≡ false
      rest b none = grind arith

  pub free-off : (line slot : ℕ) (ws : List (Waiting n)) → is_free ws (Store line slot) ≡ true → All (λ w. w.line ≢ line) ws
  free-off line slot ws free = off_by line ws (by (list_any (λ w. w.line == line) ws) free)
    where
      by : (b : Bool) → not b ≡ true → b ≡ false
      by b h = grind arith

  -- a completed head gives each byte
  pub whole-completed : (es : List (Entry n)) (line : ℕ) (under bytes : List ℕ) → head_line es ≡ line
      → IsSomeAnd (slice_get es 0) (λ head. bytes ≡ laid head.bytes head.given under)
      → IsSomeAnd (slice_get (completed under es) 0) (λ head. (head.line ≡ line) × (head.bytes ≡ bytes) × IsTrue (gives_all head.given))
  whole-completed [] line under bytes at some = absurd some
  whole-completed (e ∷ es) line under bytes at some = (at, sym some, gives_all-all_given n)

  -- completing the head changes nothing of what stands for a line over the bytes that it was completed from
  completed-shown : (es : List (Entry n)) (at : ℕ) (below : List ℕ) → AllMasked es → length below ≡ n → (head_line es ≡ at)
      → laid (layer_of (completed below es) at).bytes (layer_of (completed below es) at).given below ≡ laid (layer_of es at).bytes (layer_of es at).given below
  completed-shown [] at below masked len same = refl
  completed-shown (e ∷ es) at below masked len same = layer_of-completed e es at below below masked len len same

  -- the newest bytes of its line complete the head just as its array line does
  same-completed : (es : List (Entry n)) (newest_of : ℕ → List ℕ) (under : List ℕ) → AllMasked es → IsHeadAlone es → length under ≡ n
      → laid (layer_of es (head_line es)).bytes (layer_of es (head_line es)).given under ≡ newest_of (head_line es)
      → completed under es ≡ begun None newest_of es
  same-completed [] newest_of under masked alone len shown = refl
  same-completed (e ∷ es) newest_of under masked alone len shown =
      ap (λ (bytes : List ℕ). record { row = e.row; line = e.line; bytes = bytes; given = all_given n } ∷ es) (by alone)
    where
      shown_len : length (newest_of e.line) ≡ n
      shown_len =
          ap length (sym shown) ∙ length-laid (layer_of (e ∷ es) e.line).bytes (layer_of (e ∷ es) e.line).given under ∙ len

      by : IsTrue (gives_all e.given) ⊎ (layer_of es e.line ≡ no_layer n) → laid e.bytes e.given under ≡ laid e.bytes e.given (newest_of e.line)
      by (inl whole) = whole-laid e under masked.0 whole len ∙ sym (whole-laid e (newest_of e.line) masked.0 whole shown_len)
      by (inr none) =
          sym (laid-again e.bytes e.given under)
          ∙ ap (λ xs. laid e.bytes e.given xs)
          (sym (laid-none_given n (no_layer n).bytes (laid e.bytes e.given under))
          ∙ ap (λ (l : Layer). laid l.bytes l.given (laid e.bytes e.given under)) (sym none)
          ∙ sym (layer_of-head e es e.line under masked len refl) ∙ shown)

pub AreSound-completed : {n m : ℕ} (e : ℕ) (kept : KeptState n) (under : List ℕ) (array : ArrayState n m) → AreSound e kept array → AreSound e (completed_kept under kept) array
AreSound-completed e kept under array sound = record { apart = sound.apart; slots = sound.slots; spares = sound.spares; worn = sound.worn }

pub begun_store_law : BegunStoreLaw
begun_store_law n m e line slot h bank old new op holds may next stands work target bytes under_way few =
    let now : Holds h bank new = sensed_law n m e h bank old new holds stands in
    let kept : KeptState n = bank.kept in
    let under : List ℕ = decoded e old (array_line kept slot) in
    let agrees = agree_law n m e h bank new now in
    let place : slot ≡ slot_of kept line = next_store-slot kept line slot kept.exhausted (due_region kept) kept.entries (sym next) in
    let some = next_work-store kept (ap is_store next) in
    let at_head : head_line kept.entries ≡ line = next_store-line kept line slot kept.exhausted (due_region kept) kept.entries (sym next) in
    let known : line < bank_lines kept.shape =
    subst (λ (l : ℕ). l < bank_lines kept.shape) at_head (head-known kept.entries (bank_lines kept.shape) holds.kept.known some.2) in
    let read : decoded e new (array_line kept slot) ≡ under = ap (λ (l : LineState n m). decode e l.held) (stands.line (array_line kept slot)) in
    let len : length under ≡ n = length-decode e (old.line (array_line kept slot)).held in
    let free : is_free bank.waiting (Store line slot) ≡ true =
    ap (λ work. is_free bank.waiting work) (sym next) ∙ and_second (not (is_some bank.running)) (is_free bank.waiting (next_work kept)) may in
    let shown : laid (layer_of kept.entries (head_line kept.entries)).bytes (layer_of kept.entries (head_line kept.entries)).given under ≡ newest h (head_line kept.entries) =
    ap (λ s. laid (layer_of kept.entries (head_line kept.entries)).bytes (layer_of kept.entries (head_line kept.entries)).given (decoded e old (array_line kept s)))
    (place ∙ ap (λ l. slot_of kept l) (sym at_head))
    ∙ holds.newest (head_line kept.entries) (subst (λ (l : ℕ). l < bank_lines kept.shape) (sym at_head) known) in
    let none : due_region kept ≡ None = some.1 in
    let alone : IsHeadAlone kept.entries =
    subst (λ (es : List (Entry n)). IsHeadAlone es) (sym holds.entries) (head-alone kept.shape (most_steps e) h holds.past) in
    record {
      past = ((sym agrees.ready ∙ may, tt), now.past);
      newest = λ at below.
          let after : Layer = layer_of (completed under kept.entries) at in
          let before : Layer = layer_of kept.entries at in
          elim (cases_eq at line) [
            | inl own ↦
                let there : decoded e new (stands_at kept at) ≡ under =
                ap (λ s. decoded e new (array_line kept s)) (ap (λ l. slot_of kept l) own ∙ sym place) ∙ read in
                ap (λ xs. laid after.bytes after.given xs) there
                ∙ completed-shown kept.entries at under holds.kept.masked len (at_head ∙ sym own)
                ∙ ap (λ xs. laid before.bytes before.given xs) (sym there)
            | inr off ↦
                ap (λ (l : Layer). laid l.bytes l.given (decoded e new (stands_at kept at)))
                (layer_of-completed_other kept.entries at under (ne_eqb (head_line kept.entries) at (λ is. off (sym is ∙ at_head))))
          ]
          ∙ now.newest at below;
      waiting = now.waiting;
      few_waiting = now.few_waiting;
      served = now.served;
      running = refl;
      steps = omega (arith, few);
      rounds = λ live. omega arith;
      tied = record {
        lines = now.tied.lines;
        sound = AreSound-completed e kept under new now.tied.sound;
        unused = now.tied.unused;
        orderly = now.tied.orderly;
        operation = record {
          next = work ∙ sym next ∙ sym (next_work-completed kept under);
          target = target ∙ ap (λ work. target_of (completed_kept under kept) work) (sym work);
          of = subst (λ (w : Work). IsOf e (completed_kept under kept) new bank.waiting op.writer.bytes w) (sym work)
              (whole-completed kept.entries line under op.writer.bytes at_head bytes, free-off line slot bank.waiting free);
          writing = under_way;
        };
        exhausted = λ mark. let no : kept.exhausted ≡ true = mark in let off : kept.exhausted ≡ false = some.0 in absurd cc;
      };
      regions = now.regions;
      due_last = now.due_last;
      entries = same-completed kept.entries (newest h) under holds.kept.masked alone len shown
          ∙ ap (λ due. begun due (newest h) kept.entries) (sym none ∙ agrees.due)
          ∙ ap (λ es. begun (due_after kept.shape h) (newest h) es) now.entries;
      table = now.table;
      exhausted = now.exhausted;
      rows = now.rows;
      kept = IsKept-completed kept under holds.kept len;
    }

pub begun_copy_law : BegunCopyLaw
begun_copy_law n m e region step h bank old new op holds may next stands work target bytes under_way few =
    let now : Holds h bank new = sensed_law n m e h bank old new holds stands in
    let kept : KeptState n = bank.kept in
    let agrees = agree_law n m e h bank new now in
    let some = next_work-copy kept (ap is_copy next) in
    let moves = next_copy-region kept region step kept.exhausted (due_region kept) kept.entries (sym next) in
    let source : ℕ = array_line kept (slot_at kept.shape region step.from) in
    record {
      past = ((sym agrees.ready ∙ may, tt), now.past);
      newest = now.newest;
      waiting = now.waiting;
      few_waiting = now.few_waiting;
      served = now.served;
      running = refl;
      steps = omega (arith, few);
      rounds = λ live. omega arith;
      tied = record {
        lines = now.tied.lines;
        sound = now.tied.sound;
        unused = now.tied.unused;
        orderly = now.tied.orderly;
        operation = record {
          next = work ∙ sym next;
          target = target;
          of = subst (λ (w : Work). IsOf e kept new bank.waiting op.writer.bytes w) (sym work)
              (bytes ∙ ap (λ (l : LineState n m). decode e l.held) (sym (stands.line source)));
          writing = under_way;
        };
        exhausted = λ mark. let no : kept.exhausted ≡ true = mark in let off : kept.exhausted ≡ false = some.0 in absurd cc;
      };
      regions = now.regions;
      due_last = now.due_last;
      entries = ap (λ due. begun due (newest h) kept.entries) (sym moves.0 ∙ agrees.due)
          ∙ ap (λ es. begun (due_after kept.shape h) (newest h) es) now.entries;
      table = now.table;
      exhausted = now.exhausted;
      rows = now.rows;
      kept = now.kept;
    }
