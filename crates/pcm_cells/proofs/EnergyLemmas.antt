-- What a pulse drives, and what becomes of the counts.
use Rattle.std.proofs.Common.{◌≡◌, ℕ, zero, suc, ◌+◌, ◌-◌, ◌*◌, ◌^◌, ◌<◌, ◌≤◌, bit_and, ◌&&◌, Bool, true, false, not, cond, List, [], length, length-set, set, replicate, refl, sym, ◌∙◌, ap, arith, Option, Some, None, get_or-set_same, get_or-set_other}
use Rattle.std.{specs.Int.RustNames.count_ones, specs.Option.option_map, specs.Prelude.{IfSome, is_some}, proofs.lemmas.List.{get_or-replicate, length-replicate}}
use Rattle.std.proofs.lemmas.Option.{none-some, same_Some}
use Rattle.cell_rows.specs.{Device.{ArrayState, EnergyChanges}, Energy.no_energy, Rows.{bit_in, members}, declared.array.LineEnergy.LineEnergy}
use Rattle.cell_rows.proofs.{BlockLemmas.count_bits, ByteLemmas.digit_and, RowLemmas.{members_le, members-zero}}
use Rattle.line_pages.specs.Counting.{energy_at, energy_or_none}
use Rattle.pcm_cells.specs.Energies.{energy_told}

abbrev as_one : Bool → ℕ
as_one b = cond b 1 0

-- as many have the one property as the other, where all that have the one have the other
pub members-as : (one other : ℕ → Bool) (n : ℕ) → ((k : ℕ) → one k ≡ other k) → members one n ≡ members other n
unfolding members
members-as one other zero same = refl
members-as one other (suc n) same =
    let before : members one n ≡ members other n = members-as one other n same in
    let last : as_one (one n) ≡ as_one (other n) = ap as_one (same n) in
    omega (arith, before, last)

-- those that have a property have another, too, or they don't
pub members-both : (one other : ℕ → Bool) (n : ℕ) → members one n ≡ members (λ k. one k && other k) n + members (λ k. one k && not (other k)) n
unfolding members
members-both one other zero = refl
members-both one other (suc n) =
    let before = members-both one other n in
    let last = each (one n) (other n) in
    omega (arith, before, last)
  where
    each : (a b : Bool) → as_one a ≡ as_one (a && b) + as_one (a && not b)
    each true true = refl
    each true false = refl
    each false b = refl

-- the members of a block more
pub members_block : (has : ℕ → Bool) (block from total word : ℕ) → word < 2 ^ 64 → ((i : ℕ) → i < 64 → bit_in word i ≡ has (64 * block + i))
    → members has (64 * block) ≡ members has from + total → members has (64 * (block + 1)) ≡ members has from + (total + count_ones word)
members_block has block from total word small bits before =
    let next : 64 * (block + 1) ≡ 64 * block + 64 = omega arith in
    omega (arith, ap (members has) next, count_bits has 64 (64 * block) word small bits, before)

-- the bits of two numbers that both have
pub both_bits : (one other : ℕ → Bool) (a b from : ℕ) → ((i : ℕ) → i < 64 → bit_in a i ≡ one (from + i)) → ((i : ℕ) → i < 64 → bit_in b i ≡ other (from + i))
    → (i : ℕ) → i < 64 → bit_in (bit_and a b) i ≡ (one (from + i) && other (from + i))
both_bits one other a b from first second i low = digit_and a b i ∙ ap (λ x. x && bit_in b i) (first i low) ∙ ap (λ x. one (from + i) && x) (second i low)

-- what a mask drives to 1 and to 0, by the counts of two runs of blocks
pub record Driven (one other : ℕ → Bool) (n all set : ℕ) : Type 0 where
  pub set_is : members (λ k. one k && other k) n ≡ set
  pub reset_is : members (λ k. one k && not (other k)) n ≡ all - set
  pub less : set ≤ all
  pub most : all ≤ n

pub driven : (one other : ℕ → Bool) (middle end n all_first all_then set_first set_then : ℕ) → 64 * end ≡ n
    → members one (64 * middle) ≡ members one (64 * 0) + all_first → members one (64 * end) ≡ members one (64 * middle) + all_then
    → members (λ k. one k && other k) (64 * middle) ≡ members (λ k. one k && other k) (64 * 0) + set_first
    → members (λ k. one k && other k) (64 * end) ≡ members (λ k. one k && other k) (64 * middle) + set_then
    → Driven one other n (all_first + all_then) (set_first + set_then)
driven one other middle end n all_first all_then set_first set_then whole a b c d =
    let both : ℕ → Bool = λ k. one k && other k in
    let all_is : members one n ≡ all_first + all_then = omega (arith, a, b, members-zero one, ap (members one) whole) in
    let set_is : members both n ≡ set_first + set_then = omega (arith, c, d, members-zero both, ap (members both) whole) in
    let split = members-both one other n in
    record {
      set_is = set_is;
      reset_is = omega (arith, all_is, set_is, split);
      less = omega (arith, all_is, set_is, split);
      most = omega (arith, all_is, members_le one n);
    }

-- a line without counts has none
pub energy-none : (lines line : ℕ) (energies : List (Option LineEnergy)) → energies ≡ replicate lines None → line < lines → energy_at energies line ≡ no_energy
energy-none lines line energies none low = ap (λ xs. energy_at xs line) none ∙ ap energy_or_none (get_or-replicate lines line None None low)

-- the counts of one line are written, and told from then on
pub energy-told : {B M : ℕ} (old new : ArrayState B M) (xs ys : List (Option LineEnergy)) (line : ℕ) (told : LineEnergy) → line < length xs
    → ys ≡ set xs line (Some told)
    → ((n : ℕ) → old.energy n ≡ Some (energy_at xs n)) → ((n : ℕ) → new.energy n ≡ Some (energy_at ys n)) → EnergyChanges line (Some told) old new
energy-told old new xs ys line told low is before after = record {
  here = after line ∙ ap (λ zs. Some (energy_at zs line)) is ∙ ap (λ o. Some (energy_or_none o)) (get_or-set_same xs line (Some told) None low);
  others = λ n apart.
      after n ∙ ap (λ zs. Some (energy_at zs n)) is ∙ ap (λ o. Some (energy_or_none o)) (get_or-set_other xs line n (Some told) None apart) ∙ sym (before n);
}

-- the same of an array that may keep no counts, of which it then tells nothing
pub energy-changed : {B M : ℕ} (old new : ArrayState B M) (xs ys : Option (List (Option LineEnergy))) (line : ℕ)
    (told : Option LineEnergy → Option LineEnergy)
    → told None ≡ None → ((energy : LineEnergy) → Some (energy_or_none (told (Some energy))) ≡ told (Some energy))
    → IfSome xs (λ energies. line < length energies)
    → ys ≡ option_map (λ energies. set energies line (told (Some (energy_at energies line)))) xs
    → ((n : ℕ) → old.energy n ≡ energy_told xs n) → ((n : ℕ) → new.energy n ≡ energy_told ys n) → EnergyChanges line (told (energy_told xs line)) old new
energy-changed old new None ys line told none some low is before after = record {
  here = after line ∙ ap (λ zs. energy_told zs line) is ∙ sym none;
  others = λ n apart. after n ∙ ap (λ zs. energy_told zs n) is ∙ sym (before n);
}
energy-changed old new (Some xs) ys line told none some low is before after =
    let energy = energy_at xs line in
    let now = told (Some energy) in record {
      here =
          after line ∙ ap (λ zs. energy_told zs line) is ∙ ap (λ o. Some (energy_or_none o)) (get_or-set_same xs line now None low)
          ∙ some energy;
      others = λ n apart.
          after n ∙ ap (λ zs. energy_told zs n) is ∙ ap (λ o. Some (energy_or_none o)) (get_or-set_other xs line n now None apart) ∙ sym (before n);
    }

-- ---- counts of as many lines as the array has, where it keeps any

-- those of a line are among them
pub counts-line : (kept : Option (List (Option LineEnergy))) (line lines : ℕ) → IfSome kept (λ energies. length energies ≡ lines) → line < lines
    → IfSome kept (λ energies. line < length energies)
counts-line None line lines size low = size
counts-line (Some energies) line lines size low = omega (arith, size, low)

-- the counts of one line are written
pub counts-written : (kept now : Option (List (Option LineEnergy))) (line before after : ℕ) (told : Option LineEnergy → Option LineEnergy)
    → now ≡ option_map (λ energies. set energies line (told (Some (energy_at energies line)))) kept
    → IfSome kept (λ energies. length energies ≡ before) → after ≡ before → IfSome now (λ energies. length energies ≡ after)
counts-written None now line before after told is size same = rw is size
counts-written (Some energies) now line before after told is size same =
    rw is (length-set energies line (told (Some (energy_at energies line))) ∙ size ∙ sym same)

-- the counts of all lines are let go
pub counts-cleared : (kept now : Option (List (Option LineEnergy))) → now ≡ option_map (λ energies. []) kept → IfSome now (λ energies. length energies ≡ 0)
counts-cleared None now is = rw is tt
counts-cleared (Some energies) now is = rw is refl

-- there are new lines
pub counts-renewed : (kept now : Option (List (Option LineEnergy))) (lines : ℕ) → now ≡ option_map (λ energies. replicate lines None) kept
    → IfSome now (λ energies. length energies ≡ lines)
counts-renewed None now lines is = rw is tt
counts-renewed (Some energies) now lines is = rw is (length-replicate {A = Option LineEnergy} lines None)

-- what is told of a new line is that it has no counts
pub renewed-none : (kept now : Option (List (Option LineEnergy))) (lines line : ℕ) (told : LineEnergy) → now ≡ option_map (λ energies. replicate lines None) kept → line < lines
    → energy_told now line ≡ Some told → told ≡ no_energy
renewed-none None now lines line told is low tells = absurd (none-some told (sym (ap (λ o. energy_told o line) is) ∙ tells))
renewed-none (Some energies) now lines line told is low tells =
    same_Some told no_energy (sym tells ∙ ap (λ o. energy_told o line) is ∙ ap Some (energy-none lines line (replicate lines None) refl low))

-- an array that counts goes on counting, and another doesn't
pub counts-as : {X Y : Type 0} (kept : Option X) (now : Option Y) (f : X → Y) → now ≡ option_map f kept → is_some now ≡ is_some kept
counts-as None now f is = rw is refl
counts-as (Some x) now f is = rw is refl
