-- That the change of an event, once it is put, stands for its item.
use Rattle.std.proofs.Common.{◌≡◌, ◌+◌, ◌<◌, Option, Some, None, sym, ap, subst, ◌∙◌, arith}
use Rattle.std.specs.Prelude.{IfSome, IsSomeAnd, IsTrue}
use Rattle.ecp_line.specs.Reading.{decode, is_worn_line}
use Rattle.line_writer.{specs.declared.writer.LineWriter.LineWriter, proofs.Untouched.AreUntouched-same}
use Rattle.bank_shape.specs.Shape.{controls_of, controls_from}
use Rattle.reg_lines.specs.{Regs.{IsWritingOf, values_by}, Values.values_in, declared.Change.Change}
use Rattle.register_laws.{specs.Changing.PutLaw, specs.Items.item_values, proofs.Holding.{controls-items, values-put, read-same}}

-- the change of an event, put where none stands, keeps what the control lines hold
pub put_law : PutLaw
put_law n m e item old new regs before after change control none changes exists is_item is_values leaves = record {
  own = record { base = control.own.base ∙ ap (λ s. controls_from s) (sym changes.shape); items = items };
  held = record {
    exist = rw leaves.lines control.held.exist;
    sound = λ i below. rw (leaves.controls i below) (control.held.sound i below);
    unused = AreUntouched-same e before after _ _ leaves.controls control.held.unused;
    writing = no-writer regs.writer control.held.writing;
    halted = λ yes. absurd (subst (λ (c : Option Change). IsSomeAnd c (λ change. IsTrue (is_worn_line e (before.line (regs.base + change.item)).held (before.line (regs.base + change.item)).stuck))) none (control.held.halted yes));
  };
  item = omega (arith, is_item, exists, control.own.items);
  values = λ i below.
      let there : i < controls_of old.shape = subst (λ s. i < controls_of s) changes.shape below in
      values-put change i (item_values new item) (item_values new i) _ is_values (λ equal. ap (λ k. item_values new k) (equal ∙ is_item))
      (λ ne. changes.others i (controls-items old.shape i there) (λ equal. ne (equal ∙ sym is_item)) ∙ control.values i there
      ∙ ap (λ (c : Option Change). values_by c i (values_in (decode e (before.line (regs.base + i)).held))) none
      ∙ sym (read-same regs before after i (leaves.controls i (rw control.own.items there))));
}
  where
    items : regs.items ≡ controls_of new.shape
    items = control.own.items ∙ ap (λ s. controls_of s) (sym changes.shape)

    no-writer : (writer : Option (LineWriter n m e))
        → IfSome writer (λ writer. IsSomeAnd regs.change (λ change. IsWritingOf writer (before.line (regs.base + change.item)) change))
        → IfSome writer (λ writer. IsSomeAnd (Some change) (λ change. IsWritingOf writer (after.line (regs.base + change.item)) change))
    no-writer None of = tt
    no-writer (Some writer) of = absurd (subst (λ (c : Option Change). IsSomeAnd c (λ change. IsWritingOf writer (before.line (regs.base + change.item)) change)) none of)
