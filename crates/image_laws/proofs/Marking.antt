-- The mark of a bank and what is left to do in it, by its rows and by what is saved of it.
use Rattle.std.proofs.Common.{◌≡◌, ℕ, zero, suc, ◌<◌, ◌==◌, ◌&&◌, ◌||◌, not, ◌⊎◌, inl, inr, Bool, true, false, List, [], ◌∷◌, map, filter, length, get_or, Option, Some, None, refl, sym, ap, ◌∙◌, subst, arith, cond, eqb-true}
use Rattle.std.{specs.List.list_any, proofs.Math.ListN.get_or-map, proofs.lemmas.Bool.{eq-eqb, or_cases, or_left, or_right}, proofs.lemmas.List.length-map}
use Rattle.result_rows.specs.declared.Outcome.{Outcome}
use Rattle.result_rows.specs.declared.Outcome.TheVariants as out
use Rattle.masked_bytes.specs.{Entries.has_row, declared.entry.Entry.Entry}
use Rattle.cell_rows.specs.Device.{ArrayState}
use Rattle.row_rules.specs.{Answers.{accepts, is_merged, is_queued}, Rows.asks_write, declared.Row.Row}
use Rattle.bank_shape.specs.{Shape.{controls_from, controls_of}, declared.BankShape.BankShape, declared.pace.Pace.Pace}
use Rattle.power_recovery.{specs.Kept.{KeptState, region_at, no_region as no_kept}, proofs.Bundle.{due_region-Some, due_region-is}}
use Rattle.bank_model.specs.{History.{queue, due_after, has_exhausted}, Lawful.{Lawful, IsIdle}, Running.is_over, Sensing.most_steps, Timing.{TimedEvent, core}}
use Rattle.bank_laws.{specs.Laws.{IsSized, LeavesArray}, specs.Outcomes.table_of, specs.Resting.EndsIn, proofs.Settling.above_all, proofs.Waiting.may_all}
use Rattle.ecp_line.specs.ArrayLines.{is_worn_at}
use Rattle.right_runs.specs.{Ends.BankEnd, Queued.{QueueEntry, QueuedWrite, coming, entries_by, merging, queued_after, by_order, queued_writes}, WornLines.worn_among}
use Rattle.queue_laws.{specs.EntryLaws.{line_written, given_by, is_head_begun}, proofs.Owned.{AreOwn, queue-own}}
use Rattle.place_laws.proofs.WornOut.{idle-queued, idle-due, worn_out}
use Rattle.bank_invariant.specs.{Bridge.AgreesWith, Holds.Holds, State.BankState}
use Rattle.pcm_image.specs.{Saved.SavedBank, Standing.no_region, declared.EntryImage.EntryImage}
use Rattle.right_images.specs.{Queued.entry_image, SavedBanks.{SavesMarkTo, SavesQueue, has_work, is_due, queued_row}, Saving.{saved_bank, saved_entry, saved_region}}
use Rattle.end_laws.{specs.EndLaws.{IsEndOf, queue_entry}, proofs.Begun.keeps-begun, proofs.Leftover.{over-why, refused}, proofs.Queueing.{Alike, queue-alike, queue-by_rows}}

-- Lists

any-of : {A : Type 0} (p : A → Bool) (xs : List A) (d : A) → list_any p xs ≡ true → (i : ℕ) × (i < length xs) × (p (get_or xs i d) ≡ true)
any-of p [] d is = absurd (cc)
any-of p (x ∷ xs) d is = by (p x) refl (any-of p xs d) is
  where
    by : (b : Bool) → p x ≡ b → (list_any p xs ≡ true → (i : ℕ) × (i < length xs) × (p (get_or xs i d) ≡ true)) → (b || list_any p xs) ≡ true
        → (i : ℕ) × (i < length (x ∷ xs)) × (p (get_or (x ∷ xs) i d) ≡ true)
    by true own go is = (0, omega arith, own)
    by false own go is = let rest = go is in (suc rest.0, omega (arith, rest.1), rest.2)

any-at : {A : Type 0} (p : A → Bool) (xs : List A) (i : ℕ) (d : A) → i < length xs → p (get_or xs i d) ≡ true → list_any p xs ≡ true
any-at p [] i d lt is = absurd (omega (arith, lt))
any-at p (x ∷ xs) zero d lt is = ap (λ b. b || list_any p xs) is
any-at p (x ∷ xs) (suc i) d lt is = by (p x) (any-at p xs i d (omega (arith, lt)) is)
  where
    by : (b : Bool) → list_any p xs ≡ true → (b || list_any p xs) ≡ true
    by true rest = refl
    by false rest = rest

filter-none : {A : Type 0} (p : A → Bool) (xs : List A) → filter p xs ≡ [] → list_any p xs ≡ false
filter-none p [] is = refl
filter-none p (x ∷ xs) is = by (p x) (filter-none p xs) is
  where
    by : (b : Bool) → (filter p xs ≡ [] → list_any p xs ≡ false) → cond b (x ∷ filter p xs) (filter p xs) ≡ [] → (b || list_any p xs) ≡ false
    by true go is = absurd (cc)
    by false go is = go is

filter-some : {A : Type 0} (p : A → Bool) (xs : List A) (y : A) (ys : List A) → filter p xs ≡ y ∷ ys → list_any p xs ≡ true
filter-some p [] y ys is = absurd (cc)
filter-some p (x ∷ xs) y ys is = by (p x) (filter-some p xs y ys) is
  where
    by : (b : Bool) → (filter p xs ≡ y ∷ ys → list_any p xs ≡ true) → cond b (x ∷ filter p xs) (filter p xs) ≡ y ∷ ys → (b || list_any p xs) ≡ true
    by true go is = refl
    by false go is = go is

-- Queued rows

or-swap : (a b c : Bool) → (a || (b || c)) ≡ (b || (a || c))
or-swap true true c = refl
or-swap true false c = refl
or-swap false b c = refl

module _ {n : ℕ} where
  merged-unqueued : (o : Outcome n) → is_merged o ≡ true → is_queued o ≡ false
  merged-unqueued (out.Merged tick) is = refl
  merged-unqueued _ is = absurd (cc)

  refused-unqueued : (o : Outcome n) → accepts o ≡ false → is_queued o ≡ false
  refused-unqueued (out.Queued tick) is = absurd (cc)
  refused-unqueued _ is = refl

  abbrev waits_on : QueuedWrite n → Bool
  waits_on w = is_queued w.outcome

  any-placed : (w : QueuedWrite n) (ws : List (QueuedWrite n)) → list_any waits_on (queued_after w ws) ≡ (waits_on w || list_any waits_on ws)
  any-placed w [] = refl
  any-placed w (old ∷ ws) = by (old.line == w.line) (is_merged old.outcome) refl (any-placed w ws)
    where
      by : (a b : Bool) → is_merged old.outcome ≡ b → list_any waits_on (queued_after w ws) ≡ (waits_on w || list_any waits_on ws)
          → list_any waits_on (cond (a && b) (merging w old ∷ ws) (old ∷ queued_after w ws)) ≡ (waits_on w || (waits_on old || list_any waits_on ws))
      by true true is ih = ap (λ b. waits_on w || (b || list_any waits_on ws)) (sym (merged-unqueued old.outcome is))
      by true false is ih = ap (λ b. waits_on old || b) ih ∙ or-swap (waits_on old) (waits_on w) (list_any waits_on ws)
      by false b is ih = ap (λ b. waits_on old || b) ih ∙ or-swap (waits_on old) (waits_on w) (list_any waits_on ws)

  -- a row is queued where a write by its order is
  any-queued : (rows : List (Row n)) → list_any waits_on (by_order rows) ≡ list_any queued_row rows
  any-queued [] = refl
  any-queued (r ∷ rows) = by (asks_write r.asks) (accepts r.outcome) refl (any-queued rows)
    where
      by : (a b : Bool) → accepts r.outcome ≡ b → list_any waits_on (by_order rows) ≡ list_any queued_row rows
          → list_any waits_on (cond (a && b) (queued_after (coming rows r) (by_order rows)) (by_order rows)) ≡ ((a && is_queued r.outcome) || list_any queued_row rows)
      by true true is ih = any-placed (coming rows r) (by_order rows) ∙ ap (λ b. is_queued r.outcome || b) ih
      by true false is ih = ih ∙ ap (λ b. b || list_any queued_row rows) (sym (refused-unqueued r.outcome is))
      by false b is ih = ih

  any-alike : {m : ℕ} (shape : BankShape) (all : List (TimedEvent n m)) (pace : Pace) (e : ℕ) (l : Lawful shape pace e all) (es : List (Entry n)) (ws : List (QueuedWrite n))
      → Alike shape all pace e l es ws → (es ≡ [] → ws ≡ []) × ((f : Entry n) (fs : List (Entry n)) → es ≡ f ∷ fs → (w : QueuedWrite n) × (rest : List (QueuedWrite n)) × (ws ≡ w ∷ rest))
  any-alike shape all pace e l [] [] a = (λ is. refl, λ f fs is. absurd (cc))
  any-alike shape all pace e l [] (w ∷ ws) a = absurd a
  any-alike shape all pace e l (f ∷ es) [] a = absurd a
  any-alike shape all pace e l (f ∷ es) (w ∷ ws) a = (λ is. absurd (cc), λ g gs is. (w, ws, refl))

module _ {n m : ℕ} (shape : BankShape) (pace : Pace) (e : ℕ) (all : List (TimedEvent n m)) (l : Lawful shape pace e all) where
  -- a row is queued where the queue holds an entry
  pub empty-queue : queue shape (core all) ≡ [] → list_any queued_row (table_of shape all) ≡ false
  empty-queue none =
      sym (any-queued (table_of shape all))
      ∙ filter-none waits_on (by_order (table_of shape all)) ((any-alike shape all pace e l (queue shape (core all)) (queued_writes (table_of shape all)) (queue-alike shape all pace e l)).0 none)

  pub some-queue : (f : Entry n) (fs : List (Entry n)) → queue shape (core all) ≡ f ∷ fs → list_any queued_row (table_of shape all) ≡ true
  some-queue f fs is =
      let some = (any-alike shape all pace e l (queue shape (core all)) (queued_writes (table_of shape all)) (queue-alike shape all pace e l)).1 f fs is in
      sym (any-queued (table_of shape all)) ∙ filter-some waits_on (by_order (table_of shape all)) some.0 some.1 some.2

  queue-some : list_any queued_row (table_of shape all) ≡ true → (f : Entry n) × (fs : List (Entry n)) × (queue shape (core all) ≡ f ∷ fs)
  queue-some is = by (queue shape (core all)) refl
    where
      by : (q : List (Entry n)) → queue shape (core all) ≡ q → (f : Entry n) × (fs : List (Entry n)) × (queue shape (core all) ≡ f ∷ fs)
      by [] none = absurd (cc (empty-queue none, is))
      by (f ∷ fs) some = (f, fs, some)

module _ {n m e : ℕ} (pace : Pace) (all : List (TimedEvent n m)) (bank : BankState n m e) (array : ArrayState n m) (sized : IsSized bank.kept.shape pace)
    (l : Lawful bank.kept.shape pace e all) (off : Bool) (ends : EndsIn off bank.kept.shape pace all) (holds : Holds (core all) bank array) (agrees : AgreesWith (core all) bank)
    (leaves : LeavesArray e bank.kept.shape all array) where
  abbrev kept : KeptState n
  kept = bank.kept

  abbrev shape : BankShape
  shape = bank.kept.shape

  abbrev saved : SavedBank n
  saved = saved_bank bank.kept

  abbrev table : List (Row n)
  table = table_of shape all

  marked : (mark : Bool) → ◌≡◌ {A = ℕ} (cond mark 1 0) 1 → mark ≡ true
  marked true is = refl
  marked false is = absurd (cc)

  mark-exhausted : saved.mark ≡ 1 → has_exhausted (core all) ≡ true
  mark-exhausted is = sym holds.exhausted ∙ marked kept.exhausted is

  exhausted-mark : has_exhausted (core all) ≡ true → saved.mark ≡ 1
  exhausted-mark ex = ap (λ mark. cond mark 1 0) (holds.exhausted ∙ ex)

  -- the gap move that is due, by what is saved
  region-saved : (region : ℕ) → get_or (map saved_region kept.regions) region no_region ≡ saved_region (region_at kept region)
  region-saved region = get_or-map saved_region kept.regions region no_kept

  due-saved : (region : ℕ) → due_after shape (core all) ≡ Some region → is_due shape.psi saved ≡ true
  due-saved region is =
      let due = due_region-Some kept region holds.kept (agrees.due ∙ is) in
      let own = holds.kept.regions region due.0 in
      let counted : (get_or (map saved_region kept.regions) region no_region).counter ≡ shape.psi = ap (λ r. r.counter) (region-saved region) ∙ due.1 ∙ own.stores in
      any-at (λ r. r.counter == shape.psi) (map saved_region kept.regions) region no_region (omega (arith, due.0, length-map kept.regions saved_region, holds.kept.all_regions))
      (eq-eqb _ _ counted)

  saved-due : is_due shape.psi saved ≡ true → (region : ℕ) × (due_after shape (core all) ≡ Some region)
  saved-due is =
      let some = any-of (λ r. r.counter == shape.psi) (map saved_region kept.regions) no_region is in
      let exists : some.0 < shape.regions = omega (arith, some.1, length-map kept.regions saved_region, holds.kept.all_regions) in
      let own = holds.kept.regions some.0 exists in
      let counted : (region_at kept some.0).counter ≡ shape.psi = sym (ap (λ r. r.counter) (region-saved some.0)) ∙ eqb-true _ _ some.2 in
      (some.0, sym agrees.due ∙ due_region-is kept some.0 holds.kept exists (counted ∙ sym own.stores))

  none-saved : due_after shape (core all) ≡ None → is_due shape.psi saved ≡ false
  none-saved none = by (is_due shape.psi saved) refl
    where
      by : (b : Bool) → is_due shape.psi saved ≡ b → b ≡ false
      by false is = refl
      by true is = let some = saved-due is in let no : ◌≡◌ {A = Option ℕ} (Some some.0) None = sym some.1 ∙ none in absurd (cc)

  saved-none : is_due shape.psi saved ≡ false → due_after shape (core all) ≡ None
  saved-none is = by (due_after shape (core all)) refl
    where
      by : (due : Option ℕ) → due_after shape (core all) ≡ due → due ≡ None
      by None none = refl
      by (Some region) some = absurd (cc (due-saved region some, is))

  begun-when : (is_head_begun shape (core all) ≡ true → due_after shape (core all) ≡ None) × (has_exhausted (core all) ≡ true → due_after shape (core all) ≡ None → is_head_begun shape (core all) ≡ true)
  begun-when = let k = keeps-begun shape (most_steps e) (core all) (may_all shape pace e all l) in (k.before, k.exhausted)

  -- its entries are those of its end
  images-same : (es : List (Entry n)) → map saved_entry es ≡ map entry_image (map queue_entry es)
  images-same [] = refl
  images-same (x ∷ es) = ap (λ (rest : List (EntryImage n)). saved_entry x ∷ rest) (images-same es)

  pub saves-queue : (end : BankEnd) → IsEndOf kept end → SavesQueue shape.psi table end saved
  saves-queue end is = record {
    entries = images-same kept.entries ∙ ap (λ (q : List QueueEntry). map entry_image q) (sym is.queue);
    marked = λ mark none.
        is.queue ∙ ap (λ (es : List (Entry n)). map queue_entry es) holds.entries ∙ queue-by_rows shape all pace e l
        ∙ ap (λ (begun : Bool). entries_by begun (queued_writes table)) (begun-when.1 (mark-exhausted mark) (saved-none none));
  }

  left-over : has_exhausted (core all) ≡ true → has_work shape.psi table saved ≡ true
  left-over ex = by (due_after shape (core all)) refl
    where
      begun-some : (q : List (Entry n)) → AreOwn (λ row. line_written row (core all)) (λ row. given_by row (core all)) true q → (f : Entry n) × (fs : List (Entry n)) × (q ≡ f ∷ fs)
      begun-some [] own = absurd (cc own)
      begun-some (f ∷ fs) own = (f, fs, refl)

      by : (due : Option ℕ) → due_after shape (core all) ≡ due → has_work shape.psi table saved ≡ true
      by (Some region) some =
          or_right (list_any queued_row table) (is_due shape.psi saved)
          (due-saved region some)
      by None none =
          let b = above_all shape pace e all l in
          let own = queue-own shape (most_steps e) (core all) b.0 (may_all shape pace e all l) b.1 in
          let some =
          begun-some (queue shape (core all))
          (subst (λ (whole : Bool). AreOwn (λ row. line_written row (core all)) (λ row. given_by row (core all)) whole (queue shape (core all))) (begun-when.1 ex none) own) in
          or_left (list_any queued_row table) (is_due shape.psi saved)
          (some-queue shape pace e all l some.0 some.1 some.2)

  work-why : IsIdle bank.kept.shape pace all → has_work shape.psi table saved ≡ true → is_over shape all ≡ true
  work-why idle is = by (or_cases (list_any queued_row table) (is_due shape.psi saved) is)
    where
      by : (list_any queued_row table ≡ true) ⊎ (is_due shape.psi saved ≡ true) → is_over shape all ≡ true
      by (inl queued) =
          let some = queue-some shape pace e all l queued in
          idle-queued shape pace all some.0.row idle
          (ap (λ (q : List (Entry n)). has_row q some.0.row) some.2 ∙ ap (λ b. b || has_row some.1 some.0.row) (eq-eqb some.0.row some.0.row refl))
      by (inr due) = let some = saved-due due in idle-due shape pace all some.0 idle some.1

  left-why : (off : Bool) → EndsIn off bank.kept.shape pace all → (not off && has_work shape.psi table saved) ≡ true → is_over shape all ≡ true
  left-why true ends is = absurd (cc)
  left-why false idle is = work-why idle is

  pub saves-mark : SavesMarkTo off shape (is_worn_at e array) table saved
  saves-mark = record {
    refused = λ is. exhausted-mark (refused shape pace e all l [] all refl is);
    left = λ mark. left-over (mark-exhausted mark);
    works = λ is. by (over-why shape pace e all l array sized leaves (left-why off ends is));
    full = λ mark. (holds.tied.exhausted (marked kept.exhausted mark)).all_used;
    worn_out = λ mark. worn_out shape pace e all array sized l leaves (mark-exhausted mark);
  }
    where
      by : (has_exhausted (core all) ≡ true) ⊎ (0 < worn_among (is_worn_at e array) (controls_from shape) (controls_of shape))
          → (saved.mark ≡ 1) ⊎ (0 < worn_among (is_worn_at e array) (controls_from shape) (controls_of shape))
      by (inl ex) = inl (exhausted-mark ex)
      by (inr worn) = inr worn
