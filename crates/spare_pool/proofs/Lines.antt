-- Where the lines of the slots come from, and what one more retirement changes.
use Rattle.std.proofs.Common.{◌≡◌, ℕ, ◌+◌, ◌-◌, ◌<◌, ◌≤◌, ◌==◌, true, false, if◌then◌else◌, ◌⊎◌, inl, inr, List, [], ◌∷◌, ◌++◌, length, length-append, slice_index, refl, sym, ◌∙◌, ap, add-one, arith}
use Rattle.std.proofs.{Math.ListN.get_or-append, Math.Seq.get_or-append_seam, lemmas.Bool.{cases_lt, cases_eq}, lemmas.Bool.Decides.nat_tests, lemmas.Grind.common_steps}
use Rattle.spare_pool.specs.Table.{Table, line_from, line_by, used_by, retired_table, IsTable}

-- a slot's line is a spare that it was given
pub record HasSpare (next : ℕ) (replaced : List ℕ) (slot line : ℕ) : Type 0 where
  pub spare : ℕ
  pub given : spare < length replaced
  pub line_is : line ≡ next + spare
  pub slot_is : slice_index replaced spare ≡ slot

next_spare : (next r : ℕ) (rest : List ℕ) (slot line : ℕ) → HasSpare (next + 1) rest slot line → HasSpare next (r ∷ rest) slot line
next_spare next r rest slot line h = record {
  spare = h.spare + 1;
  given = grind (arith, common_steps, h.given);
  line_is = omega (arith, h.line_is);
  slot_is = rw (add-one) h.slot_is;
}

given_first : (next r : ℕ) (rest : List ℕ) (slot line : ℕ) → r ≡ slot → (line ≡ next) ⊎ HasSpare (next + 1) rest slot line
    → HasSpare next (r ∷ rest) slot line
given_first next r rest slot line same (inl e) = record { spare = 0; given = grind (arith, common_steps); line_is = omega (arith, e); slot_is = same }
given_first next r rest slot line same (inr h) = next_spare next r rest slot line h

kept : (next r : ℕ) (rest : List ℕ) (slot first line : ℕ) → (line ≡ first) ⊎ HasSpare (next + 1) rest slot line
    → (line ≡ first) ⊎ HasSpare next (r ∷ rest) slot line
kept next r rest slot first line (inl e) = inl e
kept next r rest slot first line (inr h) = inr (next_spare next r rest slot line h)

-- a slot has its first line, or a spare that it was given
pub line_from-cases : (next line : ℕ) (replaced : List ℕ) (slot : ℕ)
    → (line_from next line replaced slot ≡ line) ⊎ HasSpare next replaced slot (line_from next line replaced slot)
line_from-cases next line [] slot = inl refl
line_from-cases next line (r ∷ rest) slot =
    elim (cases_eq r slot) as (λ _. (line_from next line (r ∷ rest) slot ≡ line) ⊎ HasSpare next (r ∷ rest) slot (line_from next line (r ∷ rest) slot)) [
      | inl same ↦
          let test : (r == slot) ≡ true = grind (arith, nat_tests) in
          rw test (inr (given_first next r rest slot _ same (line_from-cases (next + 1) next rest slot)))
      | inr other ↦
          let test : (r == slot) ≡ false = grind (arith, nat_tests) in
          rw test (kept next r rest slot line _ (line_from-cases (next + 1) line rest slot))
    ]

-- one more retirement changes the line of its slot alone
pub line_from-more : (next line : ℕ) (replaced : List ℕ) (r slot : ℕ)
    → line_from next line (replaced ++ r ∷ []) slot ≡ (if r == slot then next + length replaced else line_from next line replaced slot)
line_from-more next line [] r slot = ap (λ n. if r == slot then n else line) (omega arith)
line_from-more next line (x ∷ rest) r slot =
    line_from-more (next + 1) (if x == slot then next else line) rest r slot
    ∙ ap (λ n. if r == slot then n else line_from (next + 1) (if x == slot then next else line) rest slot) (omega arith)

-- a slot's own line, and its spares
pub line_by-cases : (table : Table) (slot : ℕ) → (line_by table slot ≡ slot) ⊎ HasSpare table.slots table.replaced slot (line_by table slot)
line_by-cases table slot = line_from-cases table.slots slot table.replaced slot

pub line_by-within : (table : Table) (slot : ℕ) → slot < table.slots → line_by table slot < table.slots + used_by table
line_by-within table slot h =
    elim (line_by-cases table slot) [ inl own ↦ omega (arith, own) | inr spare ↦ omega (arith, spare.given, spare.line_is) ]

-- the only slot that a line was ever given to
pub only_own : (table : Table) (line : ℕ) → line < table.slots → (other : ℕ) → line_by table other ≡ line → other ≡ line
only_own table line h other e =
    elim (line_by-cases table other) [ inl own ↦ sym own ∙ e | inr spare ↦ absurd (omega (arith, e, spare.line_is)) ]

pub only_given : (table : Table) (line : ℕ) → table.slots ≤ line → (other : ℕ) → other < table.slots → line_by table other ≡ line
    → other ≡ slice_index table.replaced (line - table.slots)
only_given table line h other w e =
    elim (line_by-cases table other) [
      | inl own ↦ absurd (omega (arith, e, own))
      | inr spare ↦
          let place : spare.spare ≡ line - table.slots = omega (arith, e, spare.line_is) in
          sym spare.slot_is ∙ ap (λ n. slice_index table.replaced n) place
    ]

-- two slots never have one line
pub line_by-apart : (table : Table) (slot other : ℕ) → slot < table.slots → other < table.slots → line_by table other ≡ line_by table slot → other ≡ slot
line_by-apart table slot other p q e =
    elim (cases_lt (line_by table slot) table.slots) [
      | inl own ↦ only_own table (line_by table slot) own other e ∙ sym (only_own table (line_by table slot) own slot refl)
      | inr given ↦
          only_given table (line_by table slot) given other q e ∙ sym (only_given table (line_by table slot) given slot p refl)
    ]

-- one more retirement
pub line_by-retired : (table : Table) (slot other : ℕ)
    → line_by (retired_table table slot) other ≡ (if slot == other then table.slots + used_by table else line_by table other)
line_by-retired table slot other = line_from-more table.slots other table.replaced slot other

IsTable-known : (replaced : List ℕ) (slots slot : ℕ) → ((spare : ℕ) → spare < length replaced → slice_index replaced spare < slots) → slot < slots
    → (spare : ℕ) → spare < length (replaced ++ slot ∷ []) → slice_index (replaced ++ slot ∷ []) spare < slots
IsTable-known replaced slots slot known h spare below =
    elim (cases_lt spare (length replaced)) [
      | inl old ↦ rw (get_or-append replaced (slot ∷ []) 0 spare old) (known spare old)
      | inr last ↦
          let place : spare ≡ length replaced = omega (arith, below, length-append replaced (slot ∷ [])) in
          rw (place, get_or-append_seam replaced slot [] 0) h
    ]

pub IsTable-retired : (table : Table) (slot : ℕ) → IsTable table → slot < table.slots → used_by table < table.spares → IsTable (retired_table table slot)
IsTable-retired table slot range exists left = record {
  fits = range.fits;
  within = omega (arith, length-append table.replaced (slot ∷ []));
  known = IsTable-known table.replaced table.slots slot range.known exists;
}
