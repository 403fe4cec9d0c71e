-- What the queue of a bank gives in the end, by its rows.
use Rattle.std.proofs.Common.{◌≡◌, ℕ, ◌+◌, ◌*◌, ◌/◌, ◌<◌, ◌≤◌, ◌⊎◌, inl, inr, Bool, true, false, List, [], Option, Some, None, map, refl, sym, ap, ◌∙◌, arith}
use Rattle.cell_rows.specs.Device.{ArrayState}
use Rattle.row_rules.specs.Answers.{is_stored}
use Rattle.bank_shape.specs.{Shape.{controls_from, controls_of}, declared.BankShape.BankShape, declared.pace.Pace.Pace}
use Rattle.power_recovery.proofs.Bundle.{due_region-Some}
use Rattle.bank_model.specs.{History.{due_after, moved_in, queue, stored_in}, Lawful.Lawful, Running.is_over, Sensing.most_steps, Timing.{TimedEvent, core}}
use Rattle.bank_invariant.specs.{Holds.Holds, State.BankState}
use Rattle.bank_laws.{specs.Laws.IsSized, specs.Outcomes.table_of, specs.Resting.EndsIn, proofs.Waiting.may_all}
use Rattle.ecp_line.specs.ArrayLines.{is_worn_at}
use Rattle.queue_laws.specs.EntryLaws.{is_head_begun}
use Rattle.place_laws.proofs.{Moved.region_stores-counted, Moves.{KeepsMoves, keeps, none-due, some-due}, Placed.{at_product, between_products}, WornOut.idle-queued}
use Rattle.right_runs.specs.{Places.region_stores, Queued.queued_writes, WornLines.worn_among}
use Rattle.end_laws.{specs.EndLaws.{IsHaltedWorn, QueueLaw, queue_entry}, proofs.Begun.{KeepsBegun, begun-again, keeps-begun}, proofs.Leaving.{agreeing, leaves, recounted}}
use Rattle.end_laws.proofs.{Leftover.{over-why, refused}, Queueing.{begun-some, first-again, queue-alike, queue-by_rows, queue-first}}

module _ {n m : ℕ} (shape : BankShape) (pace : Pace) (e : ℕ) (xs : List (TimedEvent n m)) (psi : 1 ≤ shape.psi) (l : Lawful shape pace e xs) where
  moves : KeepsMoves shape (core xs)
  moves = keeps shape (most_steps e) (core xs) psi (may_all shape pace e xs l)

  count : (region : ℕ) → region_stores is_stored shape region (table_of shape xs) ≡ stored_in shape.lines (core xs) region
  count region = region_stores-counted shape pace e xs region l

  -- where no move is due each region has moved as its stores say
  all-moved : due_after shape (core xs) ≡ None → (region : ℕ) → moved_in shape.lines (core xs) region ≡ region_stores is_stored shape region (table_of shape xs) / shape.psi
  all-moved none region =
      sym (ap (λ k. k / shape.psi) (count region)
      ∙ between_products shape.psi (moved_in shape.lines (core xs) region) (stored_in shape.lines (core xs) region) (moves.few region) (none-due shape (core xs) moves none region))

  -- and where one is due, its region has not
  some-unmoved : (region : ℕ) → due_after shape (core xs) ≡ Some region
      → moved_in shape.lines (core xs) region ≡ region_stores is_stored shape region (table_of shape xs) / shape.psi → ⊥
  some-unmoved region some is =
      let own : ℕ = moved_in shape.lines (core xs) region in
      let at : region_stores is_stored shape region (table_of shape xs) ≡ shape.psi * (own + 1) =
      omega (arith, count region, moves.near region, (some-due shape (core xs) region some).enough) in
      let next : own + 1 ≡ region_stores is_stored shape region (table_of shape xs) / shape.psi =
      sym (ap (λ k. k / shape.psi) at ∙ (at_product shape.psi own psi).1) in
      omega (arith, is, next)

  begun-keeps : KeepsBegun shape (core xs)
  begun-keeps = keeps-begun shape (most_steps e) (core xs) (may_all shape pace e xs l)

module _ (off : Bool) {n m e : ℕ} (pace : Pace) (xs : List (TimedEvent n m)) (bank : BankState n m e) (array : ArrayState n m) (sized : IsSized bank.kept.shape pace)
    (l : Lawful bank.kept.shape pace e xs) (idle : EndsIn off bank.kept.shape pace xs) (holds : Holds (core xs) bank array) (halted : IsHaltedWorn e bank.kept.shape xs array) where
  abbrev shape : BankShape
  shape = bank.kept.shape

  -- each region has moved as its stores say only where no move is due
  none : ((region : ℕ) → region < shape.regions → moved_in shape.lines (core xs) region ≡ region_stores is_stored shape region (table_of shape xs) / shape.psi)
      → due_after shape (core xs) ≡ None
  none moved = by (due_after shape (core xs)) refl
    where
      by : (due : Option ℕ) → due_after shape (core xs) ≡ due → due_after shape (core xs) ≡ None
      by None is = is
      by (Some region) is =
          absurd (some-unmoved shape pace e xs sized.psi l region is
          (moved region (due_region-Some bank.kept region holds.kept ((agreeing (core xs) bank array holds).due ∙ is)).0))

  -- a write that is left, where the power isn't off, is so for want of a spare or of a control line
  why : (own : Bool) → EndsIn own shape pace xs → own ≡ false → (queued_writes (table_of shape xs) ≡ [] → ⊥) → is_over shape xs ≡ true
  why true ends is some = absurd (cc)
  why false ends is some = let first = queue-first shape xs pace e l some in idle-queued shape pace xs first.0 ends first.1

  left : off ≡ false → (queued_writes (table_of shape xs) ≡ [] → ⊥) → due_after shape (core xs) ≡ None
      → (is_head_begun shape (core xs) ≡ true) ⊎ (0 < worn_among (is_worn_at e array) (controls_from shape) (controls_of shape))
  left on some due =
      elim (over-why shape pace e xs l (recounted e xs bank array holds halted) sized (leaves e xs bank array holds halted) (why off idle on some)) [
        | inl exhausted ↦ inl ((begun-keeps shape pace e xs sized.psi l).exhausted exhausted due)
        | inr worn ↦ inr worn
      ]

pub queue_law : QueueLaw
queue_law off n m e pace xs bank array sized l idle holds halted = record {
  begun = is_head_begun bank.kept.shape (core xs);
  entries = ap (λ es. map queue_entry es) holds.entries ∙ queue-by_rows bank.kept.shape xs pace e l;
  some = begun-some bank.kept.shape xs pace e l;
  none_due = λ is region exists. all-moved bank.kept.shape pace e xs sized.psi l ((begun-keeps bank.kept.shape pace e xs sized.psi l).before is) region;
  again =
      first-again bank.kept.shape xs pace e l (queue bank.kept.shape (core xs)) (queued_writes (table_of bank.kept.shape xs)) (is_head_begun bank.kept.shape (core xs))
      (queue-alike bank.kept.shape xs pace e l) (begun-again bank.kept.shape (most_steps e) (core xs) (may_all bank.kept.shape pace e xs l));
  refused = λ is moved.
      (begun-keeps bank.kept.shape pace e xs sized.psi l).exhausted (refused bank.kept.shape pace e xs l [] xs refl is)
      (none off pace xs bank array sized l idle holds halted moved);
  left = λ on some moved. left off pace xs bank array sized l idle holds halted on some (none off pace xs bank array sized l idle holds halted moved);
}
