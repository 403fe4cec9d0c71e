-- The static randomiser keeps the numbers of a module's lines in range, and each line has a bank and a number of its own there.
use Rattle.std.proofs.Common.{◌≡◌, ℕ, ◌+◌, ◌*◌, ◌/◌, ◌%◌, ◌^◌, ◌<◌, ◌≤◌, sym, ap, ◌∙◌, subst, arith}
use Rattle.std.proofs.{Math.Nat.mul_comm, lemmas.Nat.{pow_pos, mod_below, mul-le, mul-add-lt, div_below, div-add-mod', div-mul-add, mod-mul-add}}
use Rattle.feistel_map.specs.Log2.{log2}
use Rattle.feistel_map.specs.Network.{Network, AreHalves, left_bits, right_bits, halves_of, mixed, left_round, right_round, three_rounds, network_of, feistel, unfeistel}
use Rattle.feistel_map.specs.declared.halves.Halves.{Halves}
use Rattle.feistel_map.proofs.Inverse.{halves_of-range, joined-below, left_round-range, right_round-range, feistel-apart, feistel-unfeistel, unfeistel-feistel}
use Rattle.module_shape.{specs.Addresses.{module_of, lines_of}, specs.Limits.{IsShape, total_of}, specs.declared.raw.RawShape.RawShape, proofs.Bounds.total-is}
use Rattle.run_laws.specs.FinishedLaws.{LinesLaw, NamedLaw, AreNamed}
use Rattle.right_runs.specs.Banks.{mixed_line, bank_of_line, line_in_bank, line_named}

left-range : (b key : ℕ) (h : Halves) → AreHalves b h → AreHalves b (left_round b key h)
left-range b key h range = left_round-range b (mixed key h.right % 2 ^ left_bits b) h range (mod_below (mixed key h.right) (2 ^ left_bits b) (pow_pos (left_bits b)))

right-range : (b key : ℕ) (h : Halves) → AreHalves b h → AreHalves b (right_round b key h)
right-range b key h range = right_round-range b (mixed key h.left % 2 ^ right_bits b) h range (mod_below (mixed key h.left) (2 ^ right_bits b) (pow_pos (right_bits b)))

three_rounds-below : (b k1 k2 k3 n : ℕ) → n < 2 ^ b → three_rounds b k1 k2 k3 n < 2 ^ b
three_rounds-below b k1 k2 k3 n h =
    let first : Halves = left_round b k1 (halves_of b n) in
    let second : Halves = right_round b k2 first in
    joined-below b (left_round b k3 second)
    (left-range b k3 second (right-range b k2 first (left-range b k1 (halves_of b n) (halves_of-range b n h))))

-- the network keeps numbers of so many bits
pub feistel-below : (net : Network) (n : ℕ) → n < 2 ^ net.bits → feistel net n < 2 ^ net.bits
feistel-below net n h = three_rounds-below net.bits net.first net.second net.third n h

unfeistel-below : (net : Network) (n : ℕ) → n < 2 ^ net.bits → unfeistel net n < 2 ^ net.bits
unfeistel-below net n h = three_rounds-below net.bits net.third net.second net.first n h

module _ (raw : RawShape) (seed : ℕ) (is : IsShape raw) where
  -- a bank has some lines
  pub lines_some : 1 ≤ lines_of (module_of raw)
  lines_some = mul-le 1 1 raw.regions raw.lines is.some_regions (omega (arith, is.some_lines))

  pub mixed-below : (line : ℕ) → line < total_of raw → mixed_line raw seed line < total_of raw
  mixed-below line h =
      subst (λ (n : ℕ). mixed_line raw seed line < n) is.whole_bits
      (feistel-below (network_of (log2 (total_of raw)) seed) line (subst (λ (n : ℕ). line < n) (sym is.whole_bits) h))

  -- the bank of a line is one of the module
  pub bank-exists : (line : ℕ) → line < total_of raw → bank_of_line raw seed line < raw.banks
  bank-exists line h =
      div_below (mixed_line raw seed line) (lines_of (module_of raw)) raw.banks (omega (arith, lines_some))
      (subst (λ (n : ℕ). mixed_line raw seed line < n) (total-is raw) (mixed-below line h))

  -- its number there is below the lines of a bank
  pub line-exists : (line : ℕ) → line_in_bank raw seed line < raw.regions * raw.lines
  line-exists line = mod_below (mixed_line raw seed line) (lines_of (module_of raw)) (omega (arith, lines_some))

  -- the bank and the number there determine the line
  pub lines-apart : (line other : ℕ) → bank_of_line raw seed line ≡ bank_of_line raw seed other → line_in_bank raw seed line ≡ line_in_bank raw seed other → line ≡ other
  lines-apart line other same also =
      feistel-apart (network_of (log2 (total_of raw)) seed) line other
      (sym (div-add-mod' (mixed_line raw seed line) (lines_of (module_of raw)))
      ∙ ap (λ (bank : ℕ). bank * lines_of (module_of raw) + line_in_bank raw seed line) same
      ∙ ap (λ (own : ℕ). bank_of_line raw seed other * lines_of (module_of raw) + own) also
      ∙ div-add-mod' (mixed_line raw seed other) (lines_of (module_of raw)))

  abbrev net : Network
  net = network_of (log2 (total_of raw)) seed

  -- the number of a line's name is that of its bank and its number there
  mixed_back : (bank own : ℕ) → mixed_line raw seed (line_named raw seed bank own) ≡ bank * lines_of (module_of raw) + own
  mixed_back bank own = feistel-unfeistel net (bank * lines_of (module_of raw) + own)

  name-exists : (bank own : ℕ) → bank < raw.banks → own < lines_of (module_of raw) → line_named raw seed bank own < total_of raw
  name-exists bank own few below =
      let within : bank * lines_of (module_of raw) + own < lines_of (module_of raw) * raw.banks = mul-add-lt bank (lines_of (module_of raw)) own raw.banks few below in
      let all : bank * lines_of (module_of raw) + own < total_of raw = omega (arith, within, total-is raw, mul_comm raw.banks (lines_of (module_of raw))) in
      subst (λ (n : ℕ). line_named raw seed bank own < n) is.whole_bits
      (unfeistel-below net (bank * lines_of (module_of raw) + own) (subst (λ (n : ℕ). bank * lines_of (module_of raw) + own < n) (sym is.whole_bits) all))

  pub are_named : AreNamed raw seed
  are_named = record {
    named = λ line.
        ap (λ (mixed : ℕ). unfeistel net mixed) (div-add-mod' (mixed_line raw seed line) (lines_of (module_of raw))) ∙ unfeistel-feistel net line;
    exists = name-exists;
    bank = λ bank own below.
        ap (λ (mixed : ℕ). mixed / lines_of (module_of raw)) (mixed_back bank own) ∙ div-mul-add bank (lines_of (module_of raw)) own below;
    number = λ bank own below.
        ap (λ (mixed : ℕ). mixed % lines_of (module_of raw)) (mixed_back bank own) ∙ mod-mul-add bank (lines_of (module_of raw)) own below;
  }

pub lines_law : LinesLaw
lines_law raw seed is = record {
  exists = λ line h. bank-exists raw seed is line h;
  apart = λ line other h k same also. lines-apart raw seed is line other same also;
}

pub named_law : NamedLaw
named_law raw seed is = are_named raw seed is
