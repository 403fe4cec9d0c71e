-- The end of a bank by what it keeps, and what that says of the module: its lines by their names, and its used spares.
use Rattle.std.proofs.Common.{◌≡◌, ℕ, ◌+◌, ◌-◌, ◌*◌, ◌%◌, ◌<◌, map, refl, sym, ap, subst, ◌∙◌, arith}
use Rattle.std.proofs.{Math.Nat.mul_comm, lemmas.Nat.{mul-add-lt, mod-mul-add}}
use Rattle.bank_shape.specs.{declared.BankShape.BankShape, declared.Role.Role, declared.Role.TheVariants.{Line, Gap, Free, Retired, Control}}
use Rattle.start_gap.specs.Rotation.{Rotation, IsRotation, StandsFor, turn}
use Rattle.power_recovery.specs.Kept.{KeptState, IsKept, region_at, array_line}
use Rattle.module_shape.specs.{Addresses.{module_of, bank_shape}, declared.raw.RawShape.RawShape}
use Rattle.end_laws.specs.EndLaws.{IsEndOf, queue_entry}
use Rattle.right_runs.specs.{Banks.line_named, Ends.BankEnd, Roles.IsRole}
use Rattle.clock_laws.specs.State.{ClockState}
use Rattle.pcm_module.{specs.State.{ModuleState, bank_at, AreEndsOf}, proofs.Draining.at_bank}

-- registers stand for a number of moves below a full turn
moves_of : Rotation → ℕ
moves_of r = r.start * (r.lines + 1) + (r.lines - r.gap)

stands_own : (r : Rotation) → IsRotation r → StandsFor r (moves_of r)
unfolding moves_of
stands_own r range = record { moves = ap (λ k. k % turn r.lines) whole ∙ mod-mul-add 0 (turn r.lines) (r.start * (r.lines + 1) + (r.lines - r.gap)) below }
  where
    below : r.start * (r.lines + 1) + (r.lines - r.gap) < turn r.lines
    below = omega (arith, mul-add-lt r.start (r.lines + 1) (r.lines - r.gap) r.lines range.start_below (omega arith), mul_comm r.lines (r.lines + 1))

    whole : r.start * (r.lines + 1) + (r.lines - r.gap) ≡ 0 * turn r.lines + (r.start * (r.lines + 1) + (r.lines - r.gap))
    whole = omega arith

-- an end of a bank, by what the bank keeps
pub own_end : {n : ℕ} → KeptState n → BankEnd
own_end kept = record { table = array_line kept; moves = λ region. moves_of (region_at kept region).rotation; queue = map queue_entry kept.entries }

pub own_end-is : {n : ℕ} (kept : KeptState n) → IsKept kept → IsEndOf kept (own_end kept)
unfolding own_end
own_end-is kept range = record {
  table = λ slot exists. refl;
  moves = λ region exists. stands_own (region_at kept region).rotation (range.regions region exists).in_range.rotates;
  queue = refl;
}

-- the end of a bank is that of what it keeps
pub end_at : {n m e : ℕ} (module_ : ModuleState n m e) (ends : ℕ → BankEnd) → AreEndsOf module_ ends → (bank : ℕ) → bank < module_.shape.banks
    → (kept : KeptState n) → kept ≡ (bank_at module_ bank).bank.kept → IsEndOf kept (ends bank)
end_at {n = n} {m = m} {e = e} module_ ends own bank exists kept same =
    subst (λ (k : KeptState n). IsEndOf k (ends bank)) (sym same) (at_bank module_ (λ (c : ClockState n m e). IsEndOf c.bank.kept (ends bank)) bank (own bank exists))

-- a bank's role of an array line that holds no line is one for the module, whatever its lines are named
pub same_role : (shape : BankShape) (named : ℕ → ℕ) (end : BankEnd) (at : ℕ) (role : Role) → ((own : ℕ) → role ≡ Line own → ⊥)
    → IsRole shape (λ own. own) end at role → IsRole shape named end at role
same_role shape named end at (Line own) none is = absurd (none own refl)
same_role shape named end at Gap none is = is
same_role shape named end at Free none is = is
same_role shape named end at Retired none is = is
same_role shape named end at Control none is = is

-- one that holds a line holds it by its name
pub line_role : (raw : RawShape) (seed bank own at line : ℕ) (end : BankEnd) → IsRole (bank_shape (module_of raw) bank) (λ own. own) end at (Line own)
    → line ≡ line_named raw seed bank own → IsRole (bank_shape (module_of raw) bank) (line_named raw seed bank) end at (Line line)
line_role raw seed bank own at line end is named = (is.0, is.1, is.2, named ∙ ap (λ (k : ℕ). line_named raw seed bank k) is.3)

-- the line of a bank that an array line holds is one of the bank's
pub held_within : {n : ℕ} (kept : KeptState n) (shape : BankShape) (own at : ℕ) → IsKept kept → kept.shape ≡ shape
    → ((end : BankEnd) → IsEndOf kept end → IsRole kept.shape (λ own. own) end at (Line own)) → own < shape.regions * shape.lines
held_within kept shape own at range shaped is =
    let held = is (own_end kept) (own_end-is kept range) in
    subst (λ (s : BankShape). own < s.regions * s.lines) shaped (subst (λ (k : ℕ). k < kept.shape.regions * kept.shape.lines) (sym held.3) held.1)
