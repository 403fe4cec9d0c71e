-- The head of a bank whose next work is a store.
use Rattle.std.proofs.Common.{◌≡◌, ◌<◌, ℕ, ap, sym, subst, arith, List, [], ◌∷◌, length}
use Rattle.masked_bytes.specs.{Entries.completed, declared.entry.Entry.Entry}
use Rattle.bank_shape.specs.{Kinds.is_store, declared.Work.TheVariants.Store}
use Rattle.power_recovery.{specs.Events.completed_kept, specs.Kept.{KeptState, next_work}, proofs.Bundle.next_work-store}

module _ {n : ℕ} where
  completed-some : (under : List ℕ) (es : List (Entry n)) → 0 < length es → 0 < length (completed under es)
  completed-some under [] some = some
  completed-some under (e ∷ es) some = omega arith

  -- there is one
  pub store-head : (kept : KeptState n) (line slot : ℕ)
      → next_work kept ≡ Store line slot → 0 < length kept.entries
  store-head kept line slot next = let some = next_work-store kept (ap is_store next) in some.2

  -- and there still is once it was completed
  pub store-head-completed : (kept new : KeptState n) (under : List ℕ) (line slot : ℕ)
      → next_work kept ≡ Store line slot → new ≡ completed_kept under kept → 0 < length new.entries
  store-head-completed kept new under line slot next is =
      subst (λ (k : KeptState n). 0 < length k.entries) (sym is)
      (completed-some under kept.entries (store-head kept line slot next))
