-- The greatest spare that a slot has is the last one that was given.
use Rattle.std.proofs.Common.{◌≡◌, ℕ, zero, suc, ◌+◌, ◌<◌, ◌≤◌, ◌⊎◌, inl, inr, List, [], ◌∷◌, ◌++◌, length, length-append, slice_index, cond, refl, ap, sym, ◌∙◌, arith, eq-eqb}
use Rattle.std.proofs.Math.Seq.{get_or-append_seam}
use Rattle.spare_pool.{specs.Table.{line_from, line_by, used_by}, proofs.Lines.{line_from-more, line_by-within}}
use Rattle.bank_shape.specs.{Shape.slots_of, declared.BankShape.BankShape}
use Rattle.power_recovery.specs.Kept.{KeptState, IsKept, array_line}
use Rattle.right_runs.specs.Roles.{used_among, used_spares}
use Rattle.end_laws.{specs.Roles.UsedLaw, proofs.Roles.used-reaches}

-- a list is empty, or has a last item
record HasLast (xs : List ℕ) : Type 0 where
  before : List ℕ
  last : ℕ
  is : xs ≡ before ++ last ∷ []

has_last : (xs : List ℕ) → (xs ≡ []) ⊎ HasLast xs
has_last [] = inl refl
has_last (x ∷ xs) = by (has_last xs)
  where
    by : (xs ≡ []) ⊎ HasLast xs → (x ∷ xs ≡ []) ⊎ HasLast (x ∷ xs)
    by (inl none) = inr (record { before = []; last = x; is = ap (λ rest. x ∷ rest) none })
    by (inr more) = inr (record { before = x ∷ more.before; last = more.last; is = ap (λ rest. x ∷ rest) more.is })

-- no slot has a spare that was not given
few : (shape : BankShape) (table : ℕ → ℕ) (used slots : ℕ) → ((slot : ℕ) → slot < slots → table slot < shape.base + slots_of shape + used)
    → used_among shape table slots ≤ used
few shape table used zero below = omega arith
few shape table used (suc slots) below =
    let rest : used_among shape table slots ≤ used = few shape table used slots (λ slot less. below slot (omega (arith, less))) in
    let own : table slots < shape.base + slots_of shape + used = below slots (omega arith) in
    omega (arith, rest, own)

module _ {n : ℕ} (kept : KeptState n) (range : IsKept kept) (table : ℕ → ℕ)
    (agrees : (slot : ℕ) → slot < slots_of kept.shape → table slot ≡ array_line kept slot) where
  used-few : used_spares kept.shape table ≤ used_by kept.table
  used-few = few kept.shape table (used_by kept.table) (slots_of kept.shape) (λ slot below.
      let within : line_by kept.table slot < kept.table.slots + used_by kept.table = line_by-within kept.table slot (omega (arith, below, range.slots)) in
      omega (arith, within, range.slots, agrees slot below))

  -- the last slot that was given a spare has it still
  used-many : used_by kept.table ≤ used_spares kept.shape table
  used-many = by (has_last kept.table.replaced)
    where
      by : (kept.table.replaced ≡ []) ⊎ HasLast kept.table.replaced → used_by kept.table ≤ used_spares kept.shape table
      by (inl none) = omega (arith, ap length none)
      by (inr l) =
          let count : length kept.table.replaced ≡ length l.before + 1 = ap length l.is ∙ length-append l.before (l.last ∷ []) in
          let item : slice_index kept.table.replaced (length l.before) ≡ l.last =
          ap (λ xs. slice_index xs (length l.before)) l.is ∙ get_or-append_seam l.before l.last [] 0 in
          let known : slice_index kept.table.replaced (length l.before) < kept.table.slots = range.table.known (length l.before) (omega (arith, count)) in
          let exists : l.last < slots_of kept.shape = omega (arith, known, item, range.slots) in
          let line : line_by kept.table l.last ≡ kept.table.slots + length l.before =
          ap (λ xs. line_from kept.table.slots l.last xs l.last) l.is ∙ line_from-more kept.table.slots l.last l.before l.last l.last
          ∙ ap (λ b. cond b (kept.table.slots + length l.before) (line_from kept.table.slots l.last l.before l.last)) (eq-eqb l.last l.last refl) in
          let reached : table l.last < kept.shape.base + slots_of kept.shape + used_spares kept.shape table = used-reaches kept.shape table (slots_of kept.shape) l.last exists in
          omega (arith, reached, agrees l.last exists, line, count, range.slots)

  -- a table that gives each slot its line uses as many spares as were given to slots
  pub used-same : used_by kept.table ≡ used_spares kept.shape table
  used-same = omega (arith, used-few, used-many)

pub used_law : UsedLaw
used_law n m e h bank array holds = sym (used-same bank.kept holds.kept (array_line bank.kept) (λ slot below. refl))
