-- How often line writes were cancelled.
use Rattle.std.proofs.Common.{◌≡◌, ℕ, ◌+◌, ◌*◌, ◌<◌, ◌≤◌, ◌&&◌, Bool, true, false, List, [], ◌∷◌, ◌++◌, refl, arith}
use Rattle.std.{specs.Prelude.nat_lt, proofs.lemmas.Bool.ltb-true}
use Rattle.row_rules.specs.Ticking.{tries}
use Rattle.bank_shape.specs.{Pausing.{is_cancelling, most_cancels}, declared.BankShape.BankShape, declared.pace.Pace.Pace, declared.pace.Policy.Policy}
use Rattle.bank_shape.specs.declared.pace.Policy.TheVariants.{Cancel}
use Rattle.bank_shape.specs.declared.answer.Keep.TheVariants as keep
use Rattle.bank_shape.specs.declared.answer.Step.TheVariants as did
use Rattle.bank_model.specs.{Changes.{halted_after, halted_by}, Events.{BankEvent, Begin, Iterate, Cut}, History.{waits, has_exhausted}, Lawful.{Lawful, MayCome, would_cancel}}
use Rattle.bank_model.specs.Running.{running_at, cancels_with, cancels_after}
use Rattle.bank_model.specs.Timing.{Happens, Core, Regs, KeepBegin, KeepIterate, KeepCut, TimedEvent, is_writing, is_empty, core, core_of}
use Rattle.tick_laws.proofs.{Actions.not-cancelled, Tallies.{stores_by, moves_by, others_by, cuts_by, cancelled_by, tally, tally_cuts}}
use Rattle.bank_laws.proofs.{Entries.either, Wears.exhausted-more}

few_of : (a b c d : Bool) → (a && (b && (c && d))) ≡ true → d ≡ true
few_of a b c d h = grind arith

module _ {n : ℕ} where
  pub fine_before : (h : Happens n) (xs : List (BankEvent n)) → has_exhausted (core_of h xs) ≡ false → has_exhausted xs ≡ false
  fine_before (Regs event) xs fine = fine
  fine_before (Core event) xs fine = either (has_exhausted xs) (λ ex. absurd (cc (exhausted-more event xs ex, fine))) (λ is. is)

  pub runs_before : (h : Happens n) (old : Bool) → halted_by h old ≡ false → old ≡ false
  runs_before h old runs = grind arith

module _ {n m : ℕ} (shape : BankShape) (pace : Pace) (e : ℕ) where
  -- the present line write was cancelled at most as often as may be
  pub few_cancels : (zs : List (TimedEvent n m)) → Lawful shape pace e zs → cancels_after zs ≤ 4
  few_cancels [] l = omega arith
  few_cancels (z ∷ zs) l = by z.happens l.0 (few_cancels zs l.1)
    where
      cut : (tearing b : Bool) → (b ≡ true → would_cancel shape (core zs) pace.policy (running_at shape pace zs z.tick) (cancels_after zs) ≡ true) → cancels_after zs ≤ 4
          → cancels_with {n = n} (Core (Cut tearing)) b (cancels_after zs) ≤ 4
      cut tearing true would le =
          let k : cancels_after zs < 4 = ltb-true (cancels_after zs) 4 (few_of (is_cancelling pace.policy) (is_writing (running_at shape pace zs z.tick)) (is_empty (waits shape (core zs))) (nat_lt (cancels_after zs) most_cancels) (would refl)) in
          omega (arith, k)
      cut tearing false would le = omega arith

      by : (h : Happens n) → MayCome shape pace e zs z h → cancels_after zs ≤ 4 → cancels_with h z.cancels (cancels_after zs) ≤ 4
      by (Core (Begin did.More)) may le = le
      by (Core (Begin _)) may le = omega arith
      by (Core (Iterate did.More)) may le = le
      by (Core (Iterate _)) may le = omega arith
      by (Core (Cut tearing)) may le = cut tearing z.cancels may.on_time.2 le
      by (Core _) may le = le
      by (Regs (KeepBegin keep.More)) may le = le
      by (Regs (KeepIterate keep.More)) may le = le
      by (Regs (KeepCut tearing)) may le =
          let k : cancels_after zs < 4 = ltb-true (cancels_after zs) 4 (few_of (is_cancelling pace.policy) (is_writing (running_at shape pace zs z.tick)) (is_empty (waits shape (core zs))) (nat_lt (cancels_after zs) most_cancels) may.on_time.3) in
          omega (arith, k)
      by (Regs _) may le = omega arith

  -- four cancels at most come to each line write that ends, and to the present one
  cancels_few : (mid zs : List (TimedEvent n m)) → Lawful shape pace e (mid ++ zs) → has_exhausted (core (mid ++ zs)) ≡ false → halted_after (mid ++ zs) ≡ false
      → tally_cuts cancelled_by mid ≤ 4 * (tally stores_by mid + tally moves_by mid + tally others_by mid + tally_cuts cuts_by mid) + cancels_after (mid ++ zs)
  cancels_few [] zs l fine runs = omega arith
  cancels_few (y ∷ mid) zs l fine runs =
      by y.happens y.cancels l.0 fine runs (few_cancels (mid ++ zs) l.1) (cancels_few mid zs l.1 (fine_before y.happens (core (mid ++ zs)) fine) (runs_before y.happens (halted_after (mid ++ zs)) runs))
    where
      by : (h : Happens n) (cancels : Bool) → MayCome shape pace e (mid ++ zs) y h → has_exhausted (core_of h (core (mid ++ zs))) ≡ false → halted_by h (halted_after (mid ++ zs)) ≡ false → cancels_after (mid ++ zs) ≤ 4
          → tally_cuts cancelled_by mid ≤ 4 * (tally stores_by mid + tally moves_by mid + tally others_by mid + tally_cuts cuts_by mid) + cancels_after (mid ++ zs)
          → cancelled_by h cancels + tally_cuts cancelled_by mid
          ≤ 4 * ((stores_by h + tally stores_by mid) + (moves_by h + tally moves_by mid) + (others_by h + tally others_by mid) + (cuts_by h cancels + tally_cuts cuts_by mid)) + cancels_with h cancels (cancels_after (mid ++ zs))
      by (Core (Begin (did.Retired slot line))) cancels may fine runs le ih = absurd may.may.1
      by (Core (Begin did.Exhausted)) cancels may fine runs le ih = absurd (cc)
      by (Core (Iterate did.Exhausted)) cancels may fine runs le ih = absurd (cc)
      by (Core (Cut tearing)) true may fine runs le ih = omega (arith, ih)
      by (Regs (KeepBegin keep.Halted)) cancels may fine runs le ih = let k : ⊥ = may.may.2 refl in absurd k
      by (Regs (KeepIterate keep.Halted)) cancels may fine runs le ih = absurd (cc)
      by (Regs (KeepCut tearing)) true may fine runs le ih = omega (arith, ih)
      by _ _ may fine runs le ih = omega (arith, ih, le)

  none_cancelled : (mid zs : List (TimedEvent n m)) → is_cancelling pace.policy ≡ false → Lawful shape pace e (mid ++ zs) → tally_cuts cancelled_by mid ≡ 0
  none_cancelled [] zs none l = refl
  none_cancelled (y ∷ mid) zs none l =
      let before : tally_cuts cancelled_by mid ≡ 0 = none_cancelled mid zs none l.1 in
      let own : cancelled_by y.happens y.cancels ≡ 0 = by y.happens y.cancels (not-cancelled shape pace e (mid ++ zs) y y.happens none l.0) in
      omega (arith, before, own)
    where
      by : (h : Happens n) (cancels : Bool) → cancels ≡ false → cancelled_by h cancels ≡ 0
      by h cancels whole = grind arith

  -- the attempts, with those that were cancelled, where the present line write was not
  pub tried_few : (mid zs : List (TimedEvent n m)) → Lawful shape pace e (mid ++ zs) → has_exhausted (core (mid ++ zs)) ≡ false → halted_after (mid ++ zs) ≡ false → cancels_after (mid ++ zs) ≡ 0
      → (tally stores_by mid + tally moves_by mid + tally others_by mid + tally_cuts cuts_by mid) + tally_cuts cancelled_by mid
      ≤ tries pace.policy * (tally stores_by mid + tally moves_by mid + tally others_by mid + tally_cuts cuts_by mid)
  tried_few mid zs l fine runs whole = by pace.policy (λ none. none_cancelled mid zs none l)
    where
      few : tally_cuts cancelled_by mid ≤ 4 * (tally stores_by mid + tally moves_by mid + tally others_by mid + tally_cuts cuts_by mid) + cancels_after (mid ++ zs)
      few = cancels_few mid zs l fine runs

      by : (p : Policy) → (is_cancelling p ≡ false → tally_cuts cancelled_by mid ≡ 0) → (tally stores_by mid + tally moves_by mid + tally others_by mid + tally_cuts cuts_by mid) + tally_cuts cancelled_by mid
          ≤ tries p * (tally stores_by mid + tally moves_by mid + tally others_by mid + tally_cuts cuts_by mid)
      by Cancel none = omega (arith, few, whole)
      by _ none = let k : tally_cuts cancelled_by mid ≡ 0 = none refl in omega (arith, k)
