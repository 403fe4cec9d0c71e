-- Reads cancel one line write few times.
use Rattle.std.proofs.Common.{◌≡◌, ℕ, ◌+◌, ◌*◌, ◌<◌, ◌≤◌, ◌&&◌, not, Bool, true, false, List, [], ◌∷◌, refl, sym, subst, arith, cond}
use Rattle.std.{specs.Prelude.nat_lt, proofs.lemmas.Bool.ltb-true}
use Rattle.bank_shape.specs.{Pausing.{is_cancelling, most_cancels}, declared.BankShape.BankShape, declared.pace.Pace.Pace, declared.pace.Policy.Policy}
use Rattle.bank_shape.specs.declared.answer.Step.TheVariants as did
use Rattle.bank_shape.specs.declared.answer.Keep.TheVariants as keep
use Rattle.bank_model.specs.{Changes.{change_after, change_by, halted_after, halted_by}, Events.{Begin, Iterate, Cut}, History.{has_exhausted, waits}}
use Rattle.bank_model.specs.{Lawful.{Lawful, MayCome, would_cancel}, Running.{over_by, is_over, running_at, cancels_with, cancels_after}}
use Rattle.bank_model.specs.Timing.{Happens, Core, Regs, KeepBegin, KeepIterate, KeepCut, TimedEvent, is_writing, is_empty, core, core_of}
use Rattle.masked_bytes.proofs.Counting.{one_if}
use Rattle.place_laws.proofs.{Pulsing.{ends_work, cancels_work, ends_in, cancels_in}, Trying.still_at}

-- a read that would cancel finds a policy that cancels, a line write that runs, and few cancels
cancels-when : (p w empty : Bool) (count : ℕ) → (p && (w && (empty && nat_lt count most_cancels))) ≡ true → (p ≡ true) × (w ≡ true) × (count < most_cancels)
cancels-when true true true count h = (refl, refl, ltb-true count most_cancels h)
cancels-when _ _ _ count h = absurd (cc)

-- after each line write that ended at most four were cancelled, and so for the present one; none once the bank is exhausted, and
-- none where reads don't cancel
pub record KeepsCancels (policy : Policy) (ex : Bool) (cancels ends count : ℕ) : Type 0 where
  pub few : cancels ≤ 4 * ends + count
  pub most : count ≤ 4
  pub calm : ex ≡ true → count ≡ 0
  pub plain : is_cancelling policy ≡ false → cancels ≡ 0

passed : (policy : Policy) (ex : Bool) (cancels ends count : ℕ) → KeepsCancels policy ex cancels ends count → KeepsCancels policy ex (0 + cancels) (0 + ends) count
passed policy ex cancels ends count k = record { few = omega (arith, k.few); most = k.most; calm = k.calm; plain = λ is. omega (arith, k.plain is) }

closed : (policy : Policy) (ex new : Bool) (cancels ends count : ℕ) → KeepsCancels policy ex cancels ends count → KeepsCancels policy new (0 + cancels) (1 + ends) 0
closed policy ex new cancels ends count k = record { few = omega (arith, k.few, k.most); most = omega arith; calm = λ is. refl; plain = λ is. omega (arith, k.plain is) }

module _ {n m : ℕ} (shape : BankShape) (pace : Pace) (e : ℕ) where
  cut_kept : (xs : List (TimedEvent n m)) (tick : ℕ) (by_read : Bool) (cancels ends count : ℕ) → Lawful shape pace e xs
      → (by_read ≡ true → would_cancel shape (core xs) pace.policy (running_at shape pace xs tick) (cancels_after xs) ≡ true) → count ≡ cond by_read (cancels_after xs + 1) 0
      → KeepsCancels pace.policy (is_over shape xs) cancels ends (cancels_after xs)
      → KeepsCancels pace.policy (is_over shape xs) (one_if by_read + cancels) (one_if (not by_read) + ends) count
  cut_kept xs tick true cancels ends count l would is k =
      let w = cancels-when (is_cancelling pace.policy) (is_writing (running_at shape pace xs tick)) (is_empty (waits shape (core xs))) (cancels_after xs) (would refl) in
      record {
        few = omega (arith, k.few, is);
        most = omega (arith, w.2, is);
        calm = λ over. absurd (cc (still_at shape pace e xs tick l over, w.1));
        plain = λ no. absurd (cc (w.0, no));
      }
  cut_kept xs tick false cancels ends count l would is k =
      subst (λ c. KeepsCancels pace.policy (is_over shape xs) (0 + cancels) (1 + ends) c) (sym is) (closed pace.policy (is_over shape xs) (is_over shape xs) cancels ends (cancels_after xs) k)

  pub cancels-kept : (xs : List (TimedEvent n m)) → Lawful shape pace e xs → KeepsCancels pace.policy (is_over shape xs) (cancels_in xs) (ends_in xs) (cancels_after xs)
  cancels-kept [] l = record { few = omega arith; most = omega arith; calm = λ is. refl; plain = λ is. refl }
  cancels-kept (x ∷ xs) l = by x.happens x.cancels refl l.0 (cancels-kept xs l.1)
    where
      before : Lawful shape pace e xs
      before = l.1

      By : Happens n → Bool → Type 0
      By h cancels =
          KeepsCancels pace.policy (over_by (change_by shape (core xs) h (change_after shape xs)) (halted_by h (halted_after xs)) (has_exhausted (core_of h (core xs))))
          (one_if (cancels_work h cancels) + cancels_in xs) (one_if (ends_work h cancels) + ends_in xs) (cancels_with h cancels (cancels_after xs))

      by : (h : Happens n) (cancels : Bool) → x.cancels ≡ cancels → MayCome shape pace e xs x h → KeepsCancels pace.policy (is_over shape xs) (cancels_in xs) (ends_in xs) (cancels_after xs) → By h cancels
      by (Core (Begin did.More)) cancels is may k = passed pace.policy _ _ _ _ k
      by (Core (Begin _)) cancels is may k = closed pace.policy (is_over shape xs) _ _ _ (cancels_after xs) k
      by (Core (Iterate did.More)) cancels is may k = passed pace.policy _ _ _ _ k
      by (Core (Iterate _)) cancels is may k = closed pace.policy (is_over shape xs) _ _ _ (cancels_after xs) k
      by (Core (Cut tearing)) true is may k = cut_kept xs x.tick true _ _ _ before (λ yes. may.on_time.2 is) refl k
      by (Core (Cut tearing)) false is may k = cut_kept xs x.tick false _ _ _ before (λ yes. absurd (cc)) refl k
      by (Core _) cancels is may k = passed pace.policy _ _ _ _ k
      by (Regs (KeepBegin keep.More)) cancels is may k = passed pace.policy _ _ _ _ k
      by (Regs (KeepIterate keep.More)) cancels is may k = passed pace.policy _ _ _ _ k
      by (Regs (KeepCut tearing)) cancels is may k = cut_kept xs x.tick true _ _ _ before (λ yes. may.on_time.3) refl k
      by (Regs _) cancels is may k = closed pace.policy (is_over shape xs) _ _ _ (cancels_after xs) k
