-- What a history leaves of the array.
use Rattle.std.proofs.Common.{◌≡◌, ℕ, ◌+◌, Option, sym, ap, subst, ◌∙◌, arith}
use Rattle.std.specs.Prelude.{IsTrue, IfSome, IsSomeAnd}
use Rattle.ecp_line.specs.{ArrayLines.is_worn_at, Reading.is_worn_line}
use Rattle.bank_shape.specs.Shape.{control_line}
use Rattle.bank_model.specs.{Changes.change_after, Timing.core}
use Rattle.reg_lines.specs.declared.Change.{Change}
use Rattle.register_laws.specs.Telling.{item_of}
use Rattle.spare_pool.specs.Table.{Table, line_by, used_by}
use Rattle.bank_invariant.proofs.Agreeing.{due-target}
use Rattle.clock_laws.specs.Ending.{LeavingLaw}

pub leaving_law : LeavingLaw
leaving_law n m e xs clock array leads =
    let table = leads.holds.table in
    record {
      pulses = leads.pulses;
      retired = λ line below none.
          leads.holds.tied.sound.worn line (omega (arith, below, ap (λ (t : Table). used_by t) table))
          (λ slot own same. none slot own (ap (λ (t : Table). line_by t slot) (sym table) ∙ same));
      halted = λ is. worn clock.regs.change (change_after clock.bank.kept.shape xs) leads.regs.change (leads.control.held.halted (leads.regs.halted ∙ is));
      exhausted = λ mark.
          let there : IsTrue clock.bank.kept.exhausted = leads.holds.exhausted ∙ mark in
          subst (λ (line : ℕ). IsTrue (is_worn_at e array line)) (due-target (core xs) clock.bank array leads.holds) (leads.holds.tied.exhausted there).worn;
    }
  where
    worn : (change : Option Change) (item : Option ℕ) → item_of change ≡ item
        → IsSomeAnd change (λ change. IsTrue (is_worn_line e (array.line (clock.regs.base + change.item)).held (array.line (clock.regs.base + change.item)).stuck))
        → IfSome item (λ item. IsTrue (is_worn_at e array (control_line clock.bank.kept.shape item)))
    worn change item is own = grind arith
