-- Sums of the counts of energy of lines, and how they change with one line.
use Rattle.std.proofs.Common.{◌≡◌, ◌≢◌, ℕ, zero, suc, ◌+◌, ◌<◌, ◌≤◌, inl, inr, Option, None, Some, refl, arith}
use Rattle.std.proofs.lemmas.Bool.{cases_eq}
use Rattle.cell_rows.specs.{Energy.{counted_on, reset_cells, set_cells, with_pulse, with_sense}, declared.array.LineEnergy.LineEnergy, declared.row.Cells.Cells}
use Rattle.energy_report.specs.Sums.{energy_of, together}
use Rattle.wear_totals.specs.Totals.{energy_grown, grown}

-- a part that grew, last in a sum
grown-last : (sum part more : ℕ) → counted_on sum (counted_on part more) ≡ grown (counted_on sum part) part (counted_on part more)
grown-last sum part more = omega arith

-- one that stays
stays-last : (sum part : ℕ) → counted_on sum part ≡ grown (counted_on sum part) part part
stays-last sum part = omega arith

-- one that grew before the last
grown-before : (sum before behind part : ℕ) → counted_on (grown sum before behind) part ≡ grown (counted_on sum part) before behind
grown-before sum before behind part = omega arith

-- two counts are the same, number by number
same-counts : (a a' b b' c c' : ℕ) → a ≡ a' → b ≡ b' → c ≡ c'
    → (λ (o : Option LineEnergy). o) (Some (record { set = a; reset = b; senses = c })) ≡ Some (record { set = a'; reset = b'; senses = c' })
same-counts a a' b b' c c' ha hb hc = rw (ha, hb, hc) refl

-- a line whose cells were driven, last in a sum
pulsed-last : {B M : ℕ} (mask want : Cells B M) (sum own : Option LineEnergy) → together sum (with_pulse mask want own) ≡ energy_grown (together sum own) own (with_pulse mask want own)
pulsed-last mask want None own = refl
pulsed-last mask want (Some sum) None = refl
pulsed-last mask want (Some sum) (Some own) =
    same-counts _ _ _ _ _ _ (grown-last sum.set own.set (set_cells mask want)) (grown-last sum.reset own.reset (reset_cells mask want)) (stays-last sum.senses own.senses)

-- one before the last
pulsed-before : (sum before behind own : Option LineEnergy) → together (energy_grown sum before behind) own ≡ energy_grown (together sum own) before behind
pulsed-before None before behind own = refl
pulsed-before (Some sum) None behind None = refl
pulsed-before (Some sum) None behind (Some own) = refl
pulsed-before (Some sum) (Some before) None None = refl
pulsed-before (Some sum) (Some before) None (Some own) = refl
pulsed-before (Some sum) (Some before) (Some behind) None = refl
pulsed-before (Some sum) (Some before) (Some behind) (Some own) =
    same-counts _ _ _ _ _ _ (grown-before sum.set before.set behind.set own.set) (grown-before sum.reset before.reset behind.reset own.reset)
    (grown-before sum.senses before.senses behind.senses own.senses)

-- a line that was sensed
more-last : (sum part : ℕ) → counted_on sum (counted_on part 1) ≡ counted_on (counted_on sum part) 1
more-last sum part = omega arith

more-before : (sum part : ℕ) → counted_on (counted_on sum 1) part ≡ counted_on (counted_on sum part) 1
more-before sum part = omega arith

sensed-last : (sum own : Option LineEnergy) → together sum (with_sense own) ≡ with_sense (together sum own)
sensed-last None own = refl
sensed-last (Some sum) None = refl
sensed-last (Some sum) (Some own) = rw (more-last sum.senses own.senses) refl

sensed-before : (sum own : Option LineEnergy) → together (with_sense sum) own ≡ with_sense (together sum own)
sensed-before None own = refl
sensed-before (Some sum) None = refl
sensed-before (Some sum) (Some own) = rw (more-before sum.senses own.senses) refl

module _ (old new : ℕ → Option LineEnergy) (line : ℕ) (others : (other : ℕ) → other ≢ line → new other ≡ old other) where
  -- a sum of lines before that one
  energy-below : (lines : ℕ) → lines ≤ line → energy_of new 0 lines ≡ energy_of old 0 lines
  unfolding energy_of
  energy-below zero low = refl
  energy-below (suc k) low =
      let before = energy-below k (omega (arith, low)) in
      let own = others (0 + k) (λ same. absurd (omega (arith, low, same))) in
      rw (before, own) refl

  -- one with it, where its cells were driven
  pub energy-pulsed : {B M : ℕ} (mask want : Cells B M) → new line ≡ with_pulse mask want (old line) → (lines : ℕ) → line < lines
      → energy_of new 0 lines ≡ energy_grown (energy_of old 0 lines) (old line) (new line)
  unfolding energy_of
  energy-pulsed mask want is zero low = absurd (omega (arith, low))
  energy-pulsed mask want is (suc k) low =
      elim (cases_eq line k) as (λ _. together (energy_of new 0 k) (new (0 + k)) ≡ energy_grown (together (energy_of old 0 k) (old (0 + k))) (old line) (new line)) [
        | inl same ↦
            let here : 0 + k ≡ line = omega (arith, same) in
            rw (energy-below k (omega (arith, same)), here, is) (pulsed-last mask want (energy_of old 0 k) (old line))
        | inr apart ↦
            rw (energy-pulsed mask want is k (omega (arith, low, apart)), others (0 + k) (λ same. apart (omega (arith, same))))
            (pulsed-before (energy_of old 0 k) (old line) (new line) (old (0 + k)))
      ]

  -- one with it, where it was sensed
  pub energy-sensed : new line ≡ with_sense (old line) → (lines : ℕ) → line < lines → energy_of new 0 lines ≡ with_sense (energy_of old 0 lines)
  unfolding energy_of
  energy-sensed is zero low = absurd (omega (arith, low))
  energy-sensed is (suc k) low =
      elim (cases_eq line k) as (λ _. together (energy_of new 0 k) (new (0 + k)) ≡ with_sense (together (energy_of old 0 k) (old (0 + k)))) [
        | inl same ↦
            let here : 0 + k ≡ line = omega (arith, same) in
            rw (energy-below k (omega (arith, same)), here, is) (sensed-last (energy_of old 0 k) (old line))
        | inr apart ↦
            rw (energy-sensed is k (omega (arith, low, apart)), others (0 + k) (λ same. apart (omega (arith, same))))
            (sensed-before (energy_of old 0 k) (old (0 + k)))
      ]
