-- Counts over several calls.
use Rattle.std.proofs.Common.{ℕ, ◌+◌, ◌-◌, ◌^◌, ◌<◌, ◌≤◌, ◌≡◌, max, inl, inr, sym, ap, ◌∙◌, arith}
use Rattle.std.proofs.{Math.Nat.add_assoc, lemmas.Bool.cases_lt}
use Rattle.pcm_io.specs.Faults.{raised_by}

-- a count that is raised by nothing
pub raised_by-zero : (count : ℕ) → raised_by count 0 ≡ count
raised_by-zero count = omega arith

-- a count that is raised to less than 2 ^ 64, past it, and from the greatest u64 on
raised_by-within : (count n : ℕ) → count + n < 2 ^ 64 → raised_by count n ≡ count + n
raised_by-within count n below = omega arith

raised_by-past : (count n : ℕ) → 2 ^ 64 ≤ count + n → raised_by count n ≡ max count (2 ^ 64 - 1)
raised_by-past count n past = omega arith

raised_by-stays : (count n : ℕ) → 2 ^ 64 - 1 ≤ count → raised_by count n ≡ count
raised_by-stays count n great = omega arith

-- a count that is raised twice
pub raised_by-raised_by : (count m n : ℕ) → raised_by (raised_by count m) n ≡ raised_by count (m + n)
raised_by-raised_by count m n =
    elim (cases_lt (count + m) (2 ^ 64)) as (λ _. raised_by (raised_by count m) n ≡ raised_by count (m + n)) [
      | inl within ↦ ap (λ c. raised_by c n) (raised_by-within count m within) ∙ (elim (cases_lt (count + m + n) (2 ^ 64)) as (λ _. raised_by (count + m) n ≡ raised_by count (m + n)) [
        | inl both ↦ raised_by-within (count + m) n both ∙ add_assoc count m n ∙ sym (raised_by-within count (m + n) (omega (arith, both)))
        | inr past ↦ raised_by-past (count + m) n past ∙ (omega (arith, within)) ∙ sym (raised_by-past count (m + n) (omega (arith, past)))
      ])
      | inr past ↦
          ap (λ c. raised_by c n) (raised_by-past count m past) ∙ raised_by-stays (max count (2 ^ 64 - 1)) n (omega arith)
          ∙ sym (raised_by-past count (m + n) (omega (arith, past)))
    ]
