-- Events that are picked, and others that are left out.
use Rattle.std.proofs.Common.{◌≡◌, ℕ, ◌≤◌, Bool, true, false, List, [], ◌∷◌, length, subst, ap, cond, ◌∙◌, arith}
use Rattle.trace_reader.specs.{Events.{AreEventsFor}, declared.event.Event.Event}
use Rattle.trace_reader.proofs.Lawful.{lawful-first}
use Rattle.drawn_parts.specs.{Parts.{events_for, is_for}, declared.Banks.Banks}

module _ {n : ℕ} (lines : ℕ) where
  -- events from a tick on are events from an earlier one on
  pub lawful-below : (before tick : ℕ) (events : List (Event n)) → before ≤ tick → AreEventsFor lines tick events → AreEventsFor lines before events
  unfolding AreEventsFor
  lawful-below before tick [] low all = tt
  lawful-below before tick (event ∷ events) low all =
      (record { rises = omega (arith, low, all.0.rises); in_time = all.0.in_time; op = all.0.op }, all.1)

  -- so are those behind the next one
  pub lawful-rest : (before : ℕ) (all rest : List (Event n)) (event : Event n) → all ≡ event ∷ rest → AreEventsFor lines before all → AreEventsFor lines before rest
  lawful-rest before all rest event is lawful =
      let both = lawful-first lines before event rest (subst (λ (events : List (Event n)). AreEventsFor lines before events) is lawful) in
      lawful-below before event.tick rest both.0.rises both.1

module _ {n : ℕ} (home : ℕ → ℕ) (banks : Banks) where
  -- an event of other banks goes to none
  pub for-left : (all rest : List (Event n)) (event : Event n) → all ≡ event ∷ rest → is_for home banks event.op ≡ false
      → events_for home banks all ≡ events_for home banks rest
  for-left all rest event is other =
      ap (λ (events : List (Event n)). events_for home banks events) is
      ∙ ap (λ (own : Bool). cond own (event ∷ events_for home banks rest) (events_for home banks rest)) other

  -- no more are picked than there are
  pub for-few : (events : List (Event n)) → length (events_for home banks events) ≤ length events
  for-few [] = omega arith
  for-few (event ∷ rest) = by (is_for home banks event.op) (for-few rest)
    where
      by : (own : Bool) → length (events_for home banks rest) ≤ length rest
          → length (cond own (event ∷ events_for home banks rest) (events_for home banks rest)) ≤ length (event ∷ rest)
      by true few = omega (arith, few)
      by false few = omega (arith, few)

  -- the events that are picked are events, too, from the same tick on
  pub lawful-for : (lines before : ℕ) (events : List (Event n)) → AreEventsFor lines before events → AreEventsFor lines before (events_for home banks events)
  unfolding AreEventsFor
  lawful-for lines before [] all = tt
  lawful-for lines before (event ∷ rest) all = by (is_for home banks event.op) (lawful-for lines event.tick rest all.1)
    where
      by : (own : Bool) → AreEventsFor lines event.tick (events_for home banks rest)
          → AreEventsFor lines before (cond own (event ∷ events_for home banks rest) (events_for home banks rest))
      by true picked = (all.0, picked)
      by false picked = lawful-below lines before event.tick (events_for home banks rest) all.0.rises picked
