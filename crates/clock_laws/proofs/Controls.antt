-- The control lines and the change that stands, over arrays and banks that differ elsewhere.
use Rattle.std.proofs.Common.{arith, ◌≡◌, ℕ, ◌+◌, ◌<◌, ◌≤◌, Option, Some, None, sym, ap, subst, ◌∙◌}
use Rattle.std.specs.Prelude.{IfSome, IsSomeAnd, IsTrue}
use Rattle.cell_rows.specs.{Device.{ArrayState, LineState}, Rows.cell}
use Rattle.ecp_line.specs.{Layout.Sound, Reading.{decode, is_worn_line}}
use Rattle.bank_shape.specs.{Shape.{controls_of, controls_from, control_line}, declared.BankShape.BankShape}
use Rattle.line_writer.{specs.declared.writer.LineWriter.LineWriter, proofs.Untouched.AreUntouched-same}
use Rattle.power_recovery.specs.Kept.{KeptState}
use Rattle.reg_lines.specs.{Regs.{RegsState, AreHeld, IsWritingOf, values_by}, Values.values_in, declared.Change.Change}
use Rattle.register_laws.specs.{Control.Control, Items.item_values, Telling.item_of}

-- the change that stands is of an item of the bank
pub change-known : {n m e : ℕ} (kept : KeptState n) (regs : RegsState n m e) {array : ArrayState n m} → Control kept regs array → IfSome (item_of regs.change) (λ item. item < controls_of kept.shape)
change-known kept regs c = by regs.change c.item
  where
    by : (change : Option Change) → IfSome change (λ change. change.item < regs.items) → IfSome (item_of change) (λ item. item < controls_of kept.shape)
    by None known = tt
    by (Some change) known = subst (λ (count : ℕ). change.item < count) c.own.items known

-- a bank that keeps the same of each item
pub control-kept : {n m e : ℕ} (old new : KeptState n) (regs : RegsState n m e) (array : ArrayState n m) → new.shape ≡ old.shape → ((item : ℕ) → item_values new item ≡ item_values old item)
    → Control old regs array → Control new regs array
control-kept old new regs array shape items c = record {
  own = record { base = c.own.base ∙ ap controls_from (sym shape); items = c.own.items ∙ ap controls_of (sym shape) };
  held = c.held;
  item = c.item;
  values = λ item below. items item ∙ c.values item (subst (λ (s : BankShape). item < controls_of s) shape below);
}

module _ {n m e : ℕ} (regs : RegsState n m e) (old new : ArrayState n m) (many : new.lines ≡ old.lines) (held : AreHeld regs old)
    (same : (item : ℕ) → item < regs.items → new.line (regs.base + item) ≡ old.line (regs.base + item)) where
  held-elsewhere : IfSome regs.change (λ change. change.item < regs.items) → AreHeld regs new
  held-elsewhere known = record {
    exist = subst (λ (lines : ℕ). regs.base + regs.items ≤ lines) (sym many) held.exist;
    sound = λ item below. subst (λ (l : LineState n m). Sound n m e (cell l.held) l.stuck) (sym (same item below)) (held.sound item below);
    unused = AreUntouched-same e old new _ _ same held.unused;
    writing = writes regs.writer regs.change known held.writing;
    halted = λ is. worn regs.change known (held.halted is);
  }
    where
      writes : (writer : Option (LineWriter n m e)) (change : Option Change) → IfSome change (λ change. change.item < regs.items)
          → IfSome writer (λ writer. IsSomeAnd change (λ change. IsWritingOf writer (old.line (regs.base + change.item)) change))
          → IfSome writer (λ writer. IsSomeAnd change (λ change. IsWritingOf writer (new.line (regs.base + change.item)) change))
      writes writer change known own = grind arith

      worn : (change : Option Change) → IfSome change (λ change. change.item < regs.items)
          → IsSomeAnd change (λ change. IsTrue (is_worn_line e (old.line (regs.base + change.item)).held (old.line (regs.base + change.item)).stuck))
          → IsSomeAnd change (λ change. IsTrue (is_worn_line e (new.line (regs.base + change.item)).held (new.line (regs.base + change.item)).stuck))
      worn None known own = own
      worn (Some change) known own = subst (λ (l : LineState n m). IsTrue (is_worn_line e l.held l.stuck)) (sym (same change.item known)) own

item-known : (change : Option Change) (count : ℕ) → IfSome (item_of change) (λ item. item < count) → IfSome change (λ change. change.item < count)
item-known change count known = grind arith

-- another array whose control lines are the same
pub control-elsewhere : {n m e : ℕ} (kept : KeptState n) (regs : RegsState n m e) (old new : ArrayState n m) → new.lines ≡ old.lines → Control kept regs old
    → IfSome (item_of regs.change) (λ item. item < controls_of kept.shape)
    → ((item : ℕ) → item < controls_of kept.shape → new.line (control_line kept.shape item) ≡ old.line (control_line kept.shape item)) → Control kept regs new
control-elsewhere {n} {m} {e} kept regs old new many c known same =
    let there : (item : ℕ) → item < regs.items → new.line (regs.base + item) ≡ old.line (regs.base + item) =
    λ item below.
    subst (λ (base : ℕ). new.line (base + item) ≡ old.line (base + item)) (sym c.own.base) (same item (subst (λ (count : ℕ). item < count) c.own.items below)) in
    record {
      own = c.own;
      held = held-elsewhere regs old new many c.held there (item-known regs.change regs.items (subst (λ (count : ℕ). IfSome (item_of regs.change) (λ item. item < count)) (sym c.own.items) known));
      item = c.item;
      values = λ item below.
          c.values item below
          ∙ ap (λ (l : LineState n m). values_by regs.change item (values_in (decode e l.held))) (sym (there item (subst (λ (count : ℕ). item < count) (sym c.own.items) below)));
    }
