-- Where blocks and words are.
use Rattle.std.proofs.Common.{◌≡◌, ◌≢◌, ◌⊎◌, ℕ, ◌+◌, ◌*◌, ◌/◌, ◌%◌, ◌<◌, ◌≤◌, sym, ◌∙◌, ap, arith, inl, inr}
use Rattle.std.proofs.{Math.Nat.{mul-le-mul_left, mul-le-mul_right, div-mul-le_self}, lemmas.Bool.cases_order, lemmas.Nat.{div-add-mod', div-mul-add, le-div, mod-mul-add, mod_below}}

-- a line of a block is before the end of all blocks
pub in_block : (k last b i : ℕ) → b ≤ last → i < k → b * k + i < (last + 1) * k
in_block k last b i exists within =
    let h : (b + 1) * k ≤ (last + 1) * k = mul-le-mul_right k (omega arith) in
    let e : (b + 1) * k ≡ b * k + k = omega arith in
    omega (arith, h, e)

-- there are no more blocks than lines
pub blocks_few : (k last : ℕ) → 0 < k → last + 1 ≤ (last + 1) * k
blocks_few k last some =
    let h : (last + 1) * 1 ≤ (last + 1) * k = mul-le-mul_left (last + 1) some in
    omega (arith, h)

-- a line has a word at least
pub words_of : (n : ℕ) → 4 ≤ n → 0 < n / 4
words_of n words = omega (arith, words)

-- words of lower sectors are in lower lines, or in the same
pub words_before : (q s last : ℕ) → 0 < q → s ≤ last → s / q ≤ last / q
words_before q s last some below =
    let h : s / q * q ≤ s = div-mul-le_self s q in
    le-div (s / q) last q some (omega (arith, h, below))

-- a word that does not begin a line is in the line of the word before
pub same_line : (q s : ℕ) → 0 < q → 0 < (s + 1) % q → (s + 1) / q ≡ s / q
same_line q s some inside =
    let whole : s / q * q + s % q ≡ s = div-add-mod' s q in
    let rest : s % q < q = mod_below s q some in
    elim (cases_order (s % q + 1) q) [
      | inl last ↦
          let next : s + 1 ≡ (s / q + 1) * q + 0 = next_line (s / q) q s (s % q) whole last in
          let none : (s + 1) % q ≡ 0 = ap (λ x. x % q) next ∙ mod-mul-add (s / q + 1) q 0 some in
          absurd (omega (arith, none, inside))
      | inr (inl within) ↦
          let next : s + 1 ≡ s / q * q + (s % q + 1) = omega (arith, whole) in
          ap (λ x. x / q) next ∙ div-mul-add (s / q) q (s % q + 1) within
      | inr (inr above) ↦ absurd (omega (arith, rest, above))
    ]
  where
    next_line : (a q s r : ℕ) → a * q + r ≡ s → r + 1 ≡ q → s + 1 ≡ (a + 1) * q + 0
    next_line a q s r whole last = let e : (a + 1) * q ≡ a * q + q = omega arith in omega (arith, whole, last, e)

-- and not one of another block
pub blocks_apart : (k a b i : ℕ) → a ≢ b → i < k → (a * k + i < b * k) ⊎ (b * k + k ≤ a * k + i)
blocks_apart k a b i other within = elim (cases_order a b) [
  | inl same ↦ absurd (other same)
  | inr (inl lower) ↦
      let h : (a + 1) * k ≤ b * k = mul-le-mul_right k (omega arith) in
      let e : (a + 1) * k ≡ a * k + k = omega arith in
      inl (omega (arith, h, e))
  | inr (inr higher) ↦
      let h : (b + 1) * k ≤ a * k = mul-le-mul_right k (omega arith) in
      let e : (b + 1) * k ≡ b * k + k = omega arith in
      inr (omega (arith, h, e))
]

-- two words in one line don't share a byte
pub words_apart : (q s t : ℕ) → s ≢ t → s / q ≡ t / q → (4 * (s % q) + 4 ≤ 4 * (t % q)) ⊎ (4 * (t % q) + 4 ≤ 4 * (s % q))
words_apart q s t other line = elim (cases_order (s % q) (t % q)) [
  | inl same ↦
      let whole : s ≡ t = sym (div-add-mod' s q) ∙ ap (λ x. x * q + s % q) line ∙ ap (λ x. t / q * q + x) same ∙ div-add-mod' t q in
      absurd (other whole)
  | inr (inl lower) ↦ inl (omega arith)
  | inr (inr higher) ↦ inr (omega arith)
]
