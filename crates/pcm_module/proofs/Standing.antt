-- A row that didn't arrive in a history stands nowhere in the bank.
use Rattle.std.proofs.Common.{◌≡◌, ℕ, false, List, [], ◌∷◌, map, refl, ◌∙◌}
use Rattle.masked_bytes.{specs.Entries.has_row, proofs.Truth.{neither_first, neither_second}}
use Rattle.bank_shape.specs.declared.BankShape.{BankShape}
use Rattle.bank_model.specs.{History.{queue, waits}, Timing.{Happens, Core, Regs, TimedEvent, core, core_of}}
use Rattle.bank_laws.specs.Standing.{has_wait}
use Rattle.bank_invariant.specs.Holds.{waiting_of}
use Rattle.clock_laws.{specs.Standing.{has_waiting, is_arrival_of, arrives_with}, proofs.Absent.{queue-lacks, waits-lack}, proofs.Others.same_wait}

module _ {n m : ℕ} (shape : BankShape) (row : ℕ) where
  -- a row that neither stands in the queue nor waits after these events
  pub record StandsNot (xs : List (TimedEvent n m)) : Type 0 where
    pub queued : has_row (queue shape (core xs)) row ≡ false
    pub waiting : has_waiting (map (waiting_of {n = n}) (waits shape (core xs))) row ≡ false

  stands_not_by : (xs : List (TimedEvent n m)) → arrives_with xs row ≡ false
      → (has_row (queue shape (core xs)) row ≡ false) × (has_wait (waits shape (core xs)) row ≡ false)
  stands_not_by [] off = (refl, refl)
  stands_not_by (x ∷ xs) off =
      let rest = stands_not_by xs (neither_second (is_arrival_of x.happens row) _ off) in
      by x.happens (neither_first (is_arrival_of x.happens row) _ off) rest.0 rest.1
    where
      by : (h : Happens n) → is_arrival_of h row ≡ false → has_row (queue shape (core xs)) row ≡ false → has_wait (waits shape (core xs)) row ≡ false
          → (has_row (queue shape (core_of h (core xs))) row ≡ false) × (has_wait (waits shape (core_of h (core xs))) row ≡ false)
      by (Regs event) off none waits_not = (none, waits_not)
      by (Core event) off none waits_not = (queue-lacks shape (core xs) row none event off, waits-lack shape (core xs) row waits_not event off)

  -- it is one that didn't arrive
  pub stands_not : (xs : List (TimedEvent n m)) → arrives_with xs row ≡ false → StandsNot xs
  stands_not xs off =
      let by = stands_not_by xs off in
      record { queued = by.0; waiting = same_wait n (waits shape (core xs)) row ∙ by.1 }
