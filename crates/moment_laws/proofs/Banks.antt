-- At any moment a bank stands as one behind whose last row the power stays off.
use Rattle.std.proofs.Common.{◌≡◌, ℕ, ◌+◌, ◌*◌, ◌/◌, ◌%◌, ◌<◌, ◌≤◌, ◌||◌, inl, inr, Bool, true, false, List, [], ◌∷◌, ◌++◌, Option, Some, None, map, refl, sym, ap, ◌∙◌, subst, arith, append_assoc}
use Rattle.std.{specs.List.list_any, proofs.lemmas.Bool.{and_from, cases_lt, eq-eqb, or_left, or_right}}
use Rattle.cell_rows.specs.Device.{ArrayState}
use Rattle.ecp_line.specs.ArrayLines.{is_worn_at}
use Rattle.row_rules.specs.{Answers.{is_stored, is_worn}, Wearing.worn_row}
use Rattle.bank_shape.specs.{declared.BankShape.BankShape, declared.pace.Pace.Pace}
use Rattle.power_recovery.proofs.Bundle.{due_region-Some}
use Rattle.bank_model.specs.{Events.{Write, Cut}, History.{due_after, has_exhausted, moved_in, queue, stored_in}, Lawful.{Lawful, MayCome}, Sensing.most_steps}
use Rattle.bank_model.specs.Timing.{Happens, Core, TimedEvent, core}
use Rattle.bank_invariant.{specs.Holds.Holds, specs.State.BankState, proofs.Agreeing.agree_law}
use Rattle.bank_laws.{specs.Laws.IsSized, specs.Outcomes.{ended, outcome_of, row_with, rows_from, table_of}, proofs.Ending.{Onwards, write_outcome}}
use Rattle.bank_laws.proofs.{Serves.{may_at, onwards_at}, Settling.opens, Waiting.may_all, Wears.{worn_outcome, refused-exhausted, exhausted_later}}
use Rattle.queue_laws.specs.EntryLaws.{is_head_begun}
use Rattle.place_laws.proofs.{Moved.region_stores-counted, Moves.{KeepsMoves, keeps, none-due, some-due}, Placed.{at_product, between_products}}
use Rattle.right_runs.specs.{Ends.{QueueEndsTo, is_moved_to}, Places.region_stores, Queued.queued_writes}
use Rattle.end_laws.{specs.EndLaws.{KeptLaw, RemappedLaw, StillThereLaw, end_of, queue_entry}, proofs.Begun.{KeepsBegun, begun-again, keeps-begun}}
use Rattle.end_laws.proofs.Queueing.{begun-some, first-again, queue-alike, queue-by_rows}
use Rattle.moment_laws.specs.Banks.{MeanwhileLaw}

module _ {n m : ℕ} (shape : BankShape) (pace : Pace) (e : ℕ) (xs : List (TimedEvent n m)) (psi : 1 ≤ shape.psi) (l : Lawful shape pace e xs) where
  moves : KeepsMoves shape (core xs)
  moves = keeps shape (most_steps e) (core xs) psi (may_all shape pace e xs l)

  begun-keeps : KeepsBegun shape (core xs)
  begun-keeps = keeps-begun shape (most_steps e) (core xs) (may_all shape pace e xs l)

  -- how often a region moved, and how many stores of it the rows tell
  module _ (region : ℕ) where
    abbrev moved : ℕ
    moved = moved_in shape.lines (core xs) region

    abbrev count : ℕ
    count = region_stores is_stored shape region (table_of shape xs)

    counted : count ≡ stored_in shape.lines (core xs) region
    counted = region_stores-counted shape pace e xs region l

    -- so many that none is due
    as-stored : stored_in shape.lines (core xs) region < shape.psi * (moved + 1) → moved ≡ count / shape.psi
    as-stored lt = sym (ap (λ k. k / shape.psi) counted ∙ between_products shape.psi moved (stored_in shape.lines (core xs) region) (moves.few region) lt)

    -- or that one is
    at-due : shape.psi * (moved + 1) ≤ stored_in shape.lines (core xs) region → count ≡ shape.psi * (moved + 1)
    at-due ge = omega (arith, counted, moves.near region, ge)

    one-less : shape.psi * (moved + 1) ≤ stored_in shape.lines (core xs) region → (moved + 1 ≡ count / shape.psi) × (count % shape.psi ≡ 0)
    one-less ge =
        let parts = at_product shape.psi moved psi in
        (sym (ap (λ k. k / shape.psi) (at-due ge) ∙ parts.1), ap (λ k. k % shape.psi) (at-due ge) ∙ parts.0)

    -- it moved for each so many, but for a move that is due
    is-moved : (worn : ℕ → Bool) → is_moved_to true shape worn (table_of shape xs) region moved ≡ true
    is-moved worn =
        elim (cases_lt (stored_in shape.lines (core xs) region) (shape.psi * (moved + 1))) [
          | inl lt ↦ or_left _ _ (eq-eqb moved (count / shape.psi) (as-stored lt))
          | inr ge ↦
              let less = one-less ge in
              or_right _ _ (and_from _ _ (eq-eqb (moved + 1) (count / shape.psi) less.0) (and_from _ _ (eq-eqb (count % shape.psi) 0 less.1) refl))
        ]

    none-left : due_after shape (core xs) ≡ None → moved ≡ count / shape.psi
    none-left none = as-stored (none-due shape (core xs) moves none region)

    some-left : due_after shape (core xs) ≡ Some region → moved ≡ count / shape.psi → ⊥
    some-left some is = let less = one-less ((some-due shape (core xs) region some).enough) in omega (arith, is, less.0)

  -- a write that was refused as worn came when the bank was exhausted
  refused : (later zs : List (TimedEvent n m)) → xs ≡ later ++ zs → list_any worn_row (rows_from shape xs zs) ≡ true → has_exhausted (core xs) ≡ true
  refused later [] same is = absurd (cc)
  refused later (x ∷ zs) same is =
      by x.happens x.cancels (may_at shape pace e xs later x zs l same) (onwards_at shape pace e xs later x zs l same)
      (λ ex. subst (λ (xs : List (TimedEvent n m)). has_exhausted (core xs) ≡ true) (sym before) (exhausted_later shape pace e (later ++ x ∷ []) zs ex))
      (refused (later ++ x ∷ []) zs before) is
    where
      before : xs ≡ (later ++ x ∷ []) ++ zs
      before = same ∙ sym (append_assoc later (x ∷ []) zs)

      by : (h : Happens n) (cancels : Bool) → MayCome shape pace e zs x h → Onwards shape xs zs x.tick h → (has_exhausted (core zs) ≡ true → has_exhausted (core xs) ≡ true)
          → (list_any worn_row (rows_from shape xs zs) ≡ true → has_exhausted (core xs) ≡ true)
          → list_any worn_row (row_with shape xs h x.tick cancels ++ rows_from shape xs zs) ≡ true → has_exhausted (core xs) ≡ true
      by (Core (Write row line bytes given answer)) cancels may on now rest is = own (is_worn (ended x.tick (outcome_of shape xs row))) refl is
        where
          own : (b : Bool) → is_worn (ended x.tick (outcome_of shape xs row)) ≡ b → (b || list_any worn_row (rows_from shape xs zs)) ≡ true → has_exhausted (core xs) ≡ true
          own true worn is =
              now (refused-exhausted shape (core zs) line
              (sym (worn_outcome x.tick answer (ended x.tick (outcome_of shape xs row)) (write_outcome shape pace e xs zs x row line bytes given answer (opens shape pace e xs l) may on) worn) ∙ may.may.2))
          own false worn is = rest is
      by (Core (Cut tearing)) true may on now rest is = rest is
      by _ _ may on now rest is = rest is

module _ {n m e : ℕ} (pace : Pace) (xs : List (TimedEvent n m)) (bank : BankState n m e) (array : ArrayState n m) (sized : IsSized bank.kept.shape pace)
    (l : Lawful bank.kept.shape pace e xs) (holds : Holds (core xs) bank array) where
  abbrev shape : BankShape
  shape = bank.kept.shape

  -- each region has moved as its stores say only where no move is due
  none : ((region : ℕ) → region < shape.regions → moved_in shape.lines (core xs) region ≡ region_stores is_stored shape region (table_of shape xs) / shape.psi)
      → due_after shape (core xs) ≡ None
  none all = by (due_after shape (core xs)) refl
    where
      by : (due : Option ℕ) → due_after shape (core xs) ≡ due → due_after shape (core xs) ≡ None
      by None is = is
      by (Some region) is =
          absurd (some-left shape pace e xs sized.psi l region is
          (all region (due_region-Some bank.kept region holds.kept ((agree_law n m e (core xs) bank array holds).due ∙ is)).0))

  queue-ends : QueueEndsTo true shape (is_worn_at e array) (table_of shape xs) (end_of bank.kept (core xs))
  queue-ends = record {
    begun = is_head_begun shape (core xs);
    entries = ap (λ es. map queue_entry es) holds.entries ∙ queue-by_rows shape xs pace e l;
    some = begun-some shape xs pace e l;
    none_due = λ is region exists. none-left shape pace e xs sized.psi l region ((begun-keeps shape pace e xs sized.psi l).before is);
    again =
        first-again shape xs pace e l (queue shape (core xs)) (queued_writes (table_of shape xs)) (is_head_begun shape (core xs))
        (queue-alike shape xs pace e l) (begun-again shape (most_steps e) (core xs) (may_all shape pace e xs l));
    refused = λ is all. (begun-keeps shape pace e xs sized.psi l).exhausted (refused shape pace e xs sized.psi l [] xs refl is) (none all);
    left = λ on. absurd (cc on);
  }

pub meanwhile_law : RemappedLaw → KeptLaw → StillThereLaw → MeanwhileLaw
meanwhile_law remapped kept still n m e pace xs bank array sized l holds halted = record {
  lines = remapped n m e (core xs) bank array holds;
  moved = λ region exists. is-moved bank.kept.shape pace e xs sized.psi l region (is_worn_at e array);
  queue = queue-ends pace xs bank array sized l holds;
  kept = λ line exists. kept n m e pace xs bank array line l holds exists;
  stored = still n m e pace xs bank array sized l holds halted;
}
