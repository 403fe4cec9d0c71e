-- Lines of which no live cell is near its end.
use Rattle.std.proofs.Common.{◌≡◌, ℕ, ◌+◌, ◌-◌, ◌*◌, ◌<◌, ◌&&◌, Bool, true, false, not, true≢false, bit_or, refl, sym, ◌∙◌, ap, arith, ext_get_or}
use Rattle.std.proofs.lemmas.Nat.{le_or_l, le_or_r}
use Rattle.seeded_lines.specs.{Counts.count, Planes.digit, Seeded.left_of, declared.counts.Counts.Counts, declared.digits.Digits.Digits}
use Rattle.seeded_lines.proofs.SeededLemmas.{left_is, left_size}

reached_cell : (stuck torn masked missing : Bool) → (not missing && (not stuck && (not torn && masked))) ≡ true → (stuck ≡ false) × (masked ≡ true)
reached_cell true torn masked true h = absurd (true≢false (sym h))
reached_cell true torn masked false h = absurd (true≢false (sym h))
reached_cell false true masked true h = absurd (true≢false (sym h))
reached_cell false true masked false h = absurd (true≢false (sym h))
reached_cell false false false true h = absurd (true≢false (sym h))
reached_cell false false false false h = absurd (true≢false (sym h))
reached_cell false false true true h = absurd (true≢false (sym h))
reached_cell false false true false h = (refl, refl)

-- a cell that changes is live and masked
pub calm_parts : (stuck torn masked missing live changing : Bool) → live ≡ (not stuck && (not torn && masked)) → changing ≡ (not missing && live)
    → changing ≡ true → (stuck ≡ false) × (masked ≡ true)
calm_parts stuck torn masked missing live changing live_is is h =
    reached_cell stuck torn masked missing (sym (is ∙ ap (λ b. not missing && b) live_is) ∙ h)

-- what is left is the same where each count less its changes is
pub left_same : {B M : ℕ} (spent spent_new : Digits B M) (counts counts_new : Counts B M)
    → ((n : ℕ) → n < 8 * (B + M) → count counts_new n - digit spent_new n ≡ count counts n - digit spent n)
    → left_of spent_new counts_new ≡ left_of spent counts
left_same {B} {M} spent spent_new counts counts_new same =
    ext_get_or 0 (left_of spent_new counts_new) (left_of spent counts) (left_size spent_new counts_new ∙ sym (left_size spent counts))
    (λ k h.
    let within : k < 8 * (B + M) = omega (arith, h, left_size spent_new counts_new) in
    left_is spent_new counts_new k within ∙ same k within ∙ sym (left_is spent counts k within))

-- of two numbers that have no bit together neither has one
pub or_none_l : (a b : ℕ) → bit_or a b ≡ 0 → a ≡ 0
or_none_l a b none = omega (arith, none, le_or_l a b)

pub or_none_r : (a b : ℕ) → bit_or a b ≡ 0 → b ≡ 0
or_none_r a b none = omega (arith, none, le_or_r a b)
