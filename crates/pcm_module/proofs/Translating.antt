-- Where a line of a module stands in the array: among the array lines of its bank, and no other line stands there.
use Rattle.std.proofs.Common.{◌≡◌, ℕ, ◌+◌, ◌*◌, ◌<◌, ◌≤◌, inl, inr, sym, ap, subst, ◌∙◌, arith}
use Rattle.std.proofs.{lemmas.Bool.cases_lt, lemmas.Nat.{mod_below, mul-le}}
use Rattle.bank_shape.specs.{Shape.{slots_of, lines_in}, declared.BankShape.BankShape}
use Rattle.spare_pool.proofs.Lines.{line_by-within}
use Rattle.power_recovery.{specs.Kept.{KeptState, IsKept, slot_of, array_line, stands_at}, specs.Slots.bank_lines, proofs.Placing.{slot_of-within, slot_of-apart}}
use Rattle.bank_invariant.proofs.Retiring.{array_line-apart}
use Rattle.feistel_map.specs.Network.{Network}
use Rattle.module_shape.{specs.Addresses.{module_of, bank_shape, lines_of, array_lines_of}, specs.Limits.total_of, proofs.Bounds.banks_apart}
use Rattle.module_laws.specs.Serves.{AreLines}
use Rattle.clock_laws.specs.State.{ClockState}
use Rattle.right_runs.specs.Banks.{mixed_line, bank_of_line, line_in_bank}
use Rattle.pcm_module.{specs.Shaped.{IsModule, IsBankOf}, specs.State.{ModuleState, bank_at, stands_in}, proofs.Draining.at_bank}

-- what stands among the array lines of two banks is of one
same_bank : (a b l x : ℕ) → a * l ≤ x → x < a * l + l → b * l ≤ x → x < b * l + l → a ≡ b
same_bank a b l x begin end first last =
    elim (cases_lt a b) [
      | inl before ↦ absurd (omega (arith, end, first, banks_apart a b l before))
      | inr more ↦ elim (cases_lt b a) [
        | inl after ↦ absurd (omega (arith, begin, last, banks_apart b a l after))
        | inr less ↦ omega (arith, more, less)
      ]
    ]

-- a slot's array line is one of its bank
pub array_line-within : {n : ℕ} (kept : KeptState n) (slot : ℕ) → IsKept kept → slot < slots_of kept.shape → array_line kept slot < kept.shape.base + lines_in kept.shape
array_line-within kept slot range h =
    let own : slot < kept.table.slots = subst (λ (k : ℕ). slot < k) (sym range.slots) h in
    let below = line_by-within kept.table slot own in
    omega (arith, below, range.table.within, range.slots, range.spares)

module _ {n m e : ℕ} (module_ : ModuleState n m e) (network : Network) (is : IsModule module_.shape module_.seed network module_.banks module_.tick)
    (lines : AreLines module_.shape.banks (total_of module_.shape) (bank_of_line module_.shape module_.seed) (line_in_bank module_.shape module_.seed)) where
  abbrev home : ℕ → ℕ
  home = bank_of_line module_.shape module_.seed

  abbrev number : ℕ → ℕ
  number = line_in_bank module_.shape module_.seed

  abbrev kept_at : ℕ → KeptState n
  kept_at bank = (bank_at module_ bank).bank.kept

  own_bank : (bank : ℕ) → bank < module_.shape.banks → IsBankOf (bank_shape (module_of module_.shape) bank) (bank_at module_ bank)
  own_bank bank exists = at_bank module_ (λ (c : ClockState n m e). IsBankOf (bank_shape (module_of module_.shape) bank) c) bank (is.of_shape bank exists)

  -- a line's number is one of its bank's lines
  number_within : (line : ℕ) → line < total_of module_.shape → number line < bank_lines (kept_at (home line)).shape
  number_within line exists =
      let some : 1 ≤ module_.shape.regions * module_.shape.lines = mul-le 1 1 module_.shape.regions module_.shape.lines is.in_range.some_regions (omega (arith, is.in_range.some_lines)) in
      subst (λ (s : BankShape). number line < bank_lines s) (sym (own_bank (home line) (lines.exists line exists)).shaped)
      (mod_below (mixed_line module_.shape module_.seed line) (lines_of (module_of module_.shape)) (omega (arith, some)))

  slot_within : (line : ℕ) → line < total_of module_.shape → slot_of (kept_at (home line)) (number line) < slots_of (kept_at (home line)).shape
  slot_within line exists = slot_of-within (kept_at (home line)) (own_bank (home line) (lines.exists line exists)).kept (number line) (number_within line exists)

  -- a line stands among the array lines of its bank
  pub stands_from : (line : ℕ) → line < total_of module_.shape → home line * array_lines_of (module_of module_.shape) ≤ stands_in module_ line
  stands_from line exists =
      let base : (kept_at (home line)).shape.base ≡ home line * array_lines_of (module_of module_.shape)
      = ap (λ (s : BankShape). s.base) (own_bank (home line) (lines.exists line exists)).shaped in
      omega (arith, base)

  pub stands_to : (line : ℕ) → line < total_of module_.shape → stands_in module_ line < home line * array_lines_of (module_of module_.shape) + array_lines_of (module_of module_.shape)
  stands_to line exists =
      let own = own_bank (home line) (lines.exists line exists) in
      subst (λ (s : BankShape). stands_in module_ line < s.base + lines_in s) own.shaped
      (array_line-within (kept_at (home line)) (slot_of (kept_at (home line)) (number line)) own.kept (slot_within line exists))

  -- no two lines stand in one array line
  pub stands_apart : (line other : ℕ) → line < total_of module_.shape → other < total_of module_.shape → stands_in module_ other ≡ stands_in module_ line → other ≡ line
  stands_apart line other exists within same = lines.apart other line within exists homes numbers
    where
      homes : home other ≡ home line
      homes =
          same_bank (home other) (home line) (array_lines_of (module_of module_.shape)) (stands_in module_ line)
          (subst (λ (k : ℕ). home other * array_lines_of (module_of module_.shape) ≤ k) same (stands_from other within))
          (subst (λ (k : ℕ). k < home other * array_lines_of (module_of module_.shape) + array_lines_of (module_of module_.shape)) same (stands_to other within))
          (stands_from line exists) (stands_to line exists)

      there : number other < bank_lines (kept_at (home line)).shape
      there = subst (λ (b : ℕ). number other < bank_lines (kept_at b).shape) homes (number_within other within)

      numbers : number other ≡ number line
      numbers =
          let own = (own_bank (home line) (lines.exists line exists)).kept in
          slot_of-apart (kept_at (home line)) own (number line) (number other) (number_within line exists) there
          (array_line-apart (kept_at (home line)) (slot_of (kept_at (home line)) (number other)) (slot_of (kept_at (home line)) (number line)) own
          (slot_of-within (kept_at (home line)) own (number other) there) (slot_within line exists)
          (ap (λ (b : ℕ). stands_at (kept_at b) (number other)) (sym homes) ∙ same))

  -- the array line that the bank says
  pub line_stands : (line bank at slot result : ℕ) (own : KeptState n) → bank ≡ home line → at ≡ number line → own ≡ kept_at bank
      → slot ≡ slot_of own at → result ≡ array_line own slot → result ≡ stands_in module_ line
  line_stands line bank at slot result own of_bank of_number same its stands =
      stands ∙ ap (λ (s : ℕ). array_line own s) (its ∙ ap (λ (k : ℕ). slot_of own k) of_number)
      ∙ ap (λ (k : KeptState n). stands_at k (number line)) (same ∙ ap (λ (b : ℕ). kept_at b) of_bank)
