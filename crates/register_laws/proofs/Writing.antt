-- That the writing of the change that stands keeps what the control lines hold.
use Rattle.std.proofs.Common.{◌≡◌, ℕ, ◌+◌, ◌<◌, Bool, true, false, Option, Some, None, refl, sym, ap, subst, ◌∙◌, arith}
use Rattle.std.{specs.Prelude.IfSome, proofs.lemmas.Bool.ne_eqb}
use Rattle.cell_rows.specs.Device.{ArrayState}
use Rattle.ecp_line.specs.Reading.{decode}
use Rattle.line_writer.specs.declared.writer.LineWriter.{LineWriter}
use Rattle.bank_shape.specs.{Shape.controls_of, declared.answer.Keep.Keep}
use Rattle.bank_shape.specs.declared.answer.Keep.TheVariants as keep
use Rattle.bank_model.specs.Sensing.{is_at}
use Rattle.power_recovery.specs.Kept.{KeptState, IsKept}
use Rattle.reg_lines.specs.{Keeping.{target_of, torn_line, kept_on}, Regs.{RegsState, AreHeld, values_by, values_held}, Values.{values_in, encoded}, declared.Change.Change}
use Rattle.register_laws.specs.{Control.Control, Items.item_values, Writing.{IsWrittenWhole, BegunLaw, IteratedLaw, BrokenLaw}}
use Rattle.register_laws.proofs.{Holding.{IsOther, controls-items, values-stay, values-done, values-own, read-same}, Items.item-short, Numbers.{AreShort, values-encoded}}

module _ {n m e : ℕ} where
  -- the line of another item isn't the change's
  not-target : (regs : RegsState n m e) (change : Option Change) (item : ℕ) → IsOther change item → is_at (target_of regs change) (regs.base + item) ≡ false
  not-target regs None item other = refl
  not-target regs (Some change) item other = ne_eqb (regs.base + change.item) (regs.base + item) (λ same. other (omega (arith, same)))

  not-torn : (tearing : Bool) (regs : RegsState n m e) (item : ℕ) → IsOther regs.change item → is_at (torn_line tearing regs) (regs.base + item) ≡ false
  not-torn true regs item other = not-target regs regs.change item other
  not-torn false regs item other = refl

  -- all control lines but the change's are as they were
  abbrev OthersStay : RegsState n m e → ArrayState n m → ArrayState n m → Type 0
  OthersStay regs before after = (item : ℕ) → IsOther regs.change item → after.line (regs.base + item) ≡ before.line (regs.base + item)

  -- while the change stands
  stays : (kept : KeptState n) (regs : RegsState n m e) (before after : ArrayState n m) → Control kept regs before → OthersStay regs before after
      → (item : ℕ) → item < controls_of kept.shape → item_values kept item ≡ values_held regs after item
  stays kept regs before after control others item below =
      control.values item below ∙ sym (values-stay regs.change item _ _ (λ other. read-same regs before after item (others item other)))

  -- and once it is written
  done : (kept : KeptState n) (regs : RegsState n m e) (before after : ArrayState n m) (change : Option Change) → regs.change ≡ change → IsKept kept → Control kept regs before
      → OthersStay regs before after → IfSome change (λ change. decode e (after.line (regs.base + change.item)).held ≡ encoded n change.values)
      → (item : ℕ) → item < controls_of kept.shape → item_values kept item ≡ values_in (decode e (after.line (regs.base + item)).held)
  done kept regs before after None is range control others whole item below =
      control.values item below
      ∙ ap (λ (c : Option Change). values_by c item (values_in (decode e (before.line (regs.base + item)).held))) is
      ∙ sym (read-same regs before after item (others item (rw is tt)))
  done kept regs before after (Some change) is range control others whole item below =
      own ∙ sym (values-done change item (values_in (decode e (before.line (regs.base + item)).held)) (values_in (decode e (after.line (regs.base + item)).held))
      (λ ne. read-same regs before after item (others item (rw is ne))) mine)
    where
      own : item_values kept item ≡ values_by (Some change) item (values_in (decode e (before.line (regs.base + item)).held))
      own = control.values item below ∙ ap (λ (c : Option Change). values_by c item (values_in (decode e (before.line (regs.base + item)).held))) is

      mine : item ≡ change.item → values_in (decode e (after.line (regs.base + item)).held) ≡ change.values
      mine same =
          let values : item_values kept item ≡ change.values = own ∙ ap (λ (i : ℕ). values_by (Some change) i (values_in (decode e (before.line (regs.base + i)).held))) same ∙ values-own change (values_in (decode e (before.line (regs.base + change.item)).held)) in
          ap (λ (i : ℕ). values_in (decode e (after.line (regs.base + i)).held)) same ∙ ap (λ xs. values_in xs) whole
          ∙ values-encoded n change.values (subst AreShort values (item-short kept item range (controls-items kept.shape item below)))

  -- so after each step
  written : (kept : KeptState n) (regs : RegsState n m e) (before after : ArrayState n m) (answer : Keep) (writer : LineWriter n m e)
      → IsKept kept → Control kept regs before → OthersStay regs before after → IsWrittenWhole regs after answer → AreHeld (kept_on answer writer regs) after
      → Control kept (kept_on answer writer regs) after
  written kept regs before after keep.More writer range control others whole held =
      record { own = record { base = control.own.base; items = control.own.items }; held = held; item = control.item; values = stays kept regs before after control others }
  written kept regs before after keep.Done writer range control others whole held = record {
    own = record { base = control.own.base; items = control.own.items };
    held = held;
    item = tt;
    values = done kept regs before after regs.change refl range control others (whole refl);
  }
  written kept regs before after keep.Halted writer range control others whole held =
      record { own = record { base = control.own.base; items = control.own.items }; held = held; item = control.item; values = stays kept regs before after control others }

pub begun_law : BegunLaw
begun_law n m e tick kept regs new before after answer range control step touches whole held =
    rw step.leaves (written kept regs before after answer step.writer range control (λ item other. touches.others (regs.base + item) refl) whole (rw (sym step.leaves) held))

pub iterated_law : IteratedLaw
iterated_law n m e tick kept regs new before after answer range control step touches whole held =
    rw step.leaves
    (written kept regs before after answer step.now range control (λ item other. touches.others (regs.base + item) (not-target regs regs.change item other)) whole (rw (sym step.leaves) held))

pub broken_law : BrokenLaw
broken_law n m e tick tearing kept regs before after control touches held = record {
  own = record { base = control.own.base; items = control.own.items };
  held = held;
  item = control.item;
  values = stays kept regs before after control (λ item other. touches.others (regs.base + item) (not-torn tearing regs item other));
}
