-- What comes behind some events: each end of an action is above their last tick, and so is what it stores.
use Rattle.std.proofs.Common.{◌≡◌, ℕ, ◌<◌, ◌≤◌, ◌⊎◌, inl, inr, true, false, List, [], ◌∷◌, ◌++◌, arith}
use Rattle.result_rows.specs.declared.Outcome.TheVariants as out
use Rattle.bank_shape.specs.{declared.BankShape.BankShape, declared.pace.Pace.Pace}
use Rattle.bank_model.specs.{Lawful.Lawful, Timing.{TimedEvent, last_tick}}
use Rattle.bank_laws.{specs.Outcomes.outcome_of, specs.Ticks.ends_action, proofs.Ticks.{last_tick-rises, last-below}, proofs.Wears.stored_by}

-- each end of an action among these events is above a tick
abbrev pub EndsAbove : {n m : ℕ} → ℕ → List (TimedEvent n m) → Type 0
EndsAbove t [] = Unit {0}
EndsAbove t (x ∷ later) = (ends_action x.happens ≡ true → t < x.tick) × EndsAbove t later

module _ {n m : ℕ} (shape : BankShape) (pace : Pace) (e : ℕ) where
  -- the events behind others are such, and the last tick rises
  pub ends_later : (later zs : List (TimedEvent n m)) (t : ℕ) → 1 ≤ pace.read → 1 ≤ pace.iter
      → Lawful shape pace e (later ++ zs)
      → t ≤ last_tick zs → EndsAbove t later × (t ≤ last_tick (later ++ zs))
  ends_later [] zs t r i l le = (tt, le)
  ends_later (x ∷ later) zs t r i l le =
      let before : EndsAbove t later × (t ≤ last_tick (later ++ zs)) = ends_later later zs t r i l.1 le in
      let rises : last_tick (later ++ zs) ≤ x.tick = last_tick-rises shape pace e (later ++ zs) x r i l in (
        (
          (λ is.
              let lt : last_tick (later ++ zs) < x.tick = last-below shape pace e (later ++ zs) x r i l is in
              omega (arith, lt, before.1)),
          before.0,
        ),
        omega (arith, before.1, rises),
      )

  pub last-later : (later zs : List (TimedEvent n m)) → 1 ≤ pace.read → 1 ≤ pace.iter
      → Lawful shape pace e (later ++ zs)
      → last_tick zs ≤ last_tick (later ++ zs)
  last-later later zs r i l = (ends_later later zs (last_tick zs) r i l (omega arith)).1

  pub ends_push : (t : ℕ) (later : List (TimedEvent n m)) (x : TimedEvent n m) → EndsAbove t later
      → (ends_action x.happens ≡ true → t < x.tick)
      → EndsAbove t (later ++ x ∷ [])
  ends_push t [] x above own = (own, tt)
  ends_push t (y ∷ later) x above own = (above.0, ends_push t later x above.1 own)

  -- at a row no action has ended at its tick behind it
  pub ends_at_row : (later ys : List (TimedEvent n m)) (x : TimedEvent n m) → 1 ≤ pace.read
      → 1 ≤ pace.iter → Lawful shape pace e (later ++ x ∷ ys)
      → ends_action x.happens ≡ false → EndsAbove x.tick (later ++ x ∷ [])
  ends_at_row later ys x r i l arrives =
      ends_push x.tick later x (ends_later later (x ∷ ys) x.tick r i l (omega arith)).0
      (λ is. absurd (cc (arrives, is)))

  -- what is stored by events that end above a tick is stored above it
  pub stored_over : (t : ℕ) (later zs : List (TimedEvent n m)) (row u p : ℕ) → EndsAbove t later
      → (outcome_of shape zs row ≡ out.Stored u p → ⊥)
      → Lawful shape pace e (later ++ zs) → outcome_of shape (later ++ zs) row ≡ out.Stored u p → t < u
  stored_over t [] zs row u p ends isnt l s = absurd (isnt s)
  stored_over t (y ∷ later) zs row u p ends isnt l s =
      by (stored_by shape pace e (later ++ zs) y y.happens row u p s)
      (λ s. stored_over t later zs row u p ends.1 isnt l.1 s)
    where
      by : ((ends_action y.happens ≡ true) × (u ≡ y.tick))
          ⊎ (outcome_of shape (later ++ zs) row ≡ out.Stored u p)
          → (outcome_of shape (later ++ zs) row ≡ out.Stored u p → t < u) → t < u
      by (inl now) go = let lt : t < y.tick = ends.0 now.0 in omega (arith, lt, now.1)
      by (inr s) go = go s

  -- what is stored by later events is stored above the last tick
  pub stored_above : (later zs : List (TimedEvent n m)) (row u p : ℕ) → 1 ≤ pace.read → 1 ≤ pace.iter
      → Lawful shape pace e (later ++ zs)
      → (outcome_of shape zs row ≡ out.Stored u p → ⊥) → outcome_of shape
      (later ++ zs) row ≡ out.Stored u p → last_tick zs < u
  stored_above later zs row u p r i l isnt s =
      stored_over (last_tick zs) later zs row u p
      (ends_later later zs (last_tick zs) r i l (omega arith)).0 isnt l s
