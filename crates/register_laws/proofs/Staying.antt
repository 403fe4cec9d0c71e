-- That what changes no item keeps what the control lines hold, and that blank ones hold what a bank keeps at first.
use Rattle.std.proofs.Common.{◌≡◌, ℕ, ◌+◌, ◌-◌, ◌<◌, ◌≤◌, false, List, [], ◌∷◌, Option, Some, None, refl, sym, ap, ◌∙◌, arith, inl, inr}
use Rattle.std.{specs.Prelude.IfSome, proofs.lemmas.Bool.ne_eqb, proofs.lemmas.List.get_or-replicate}
use Rattle.ecp_line.proofs.Blank.{Sound-blank, decode-blank}
use Rattle.line_writer.proofs.Untouched.{untouched-blank}
use Rattle.region_regs.specs.Region.{RegionState, first_region}
use Rattle.bank_shape.specs.{Shape.control_line, declared.BankShape.BankShape}
use Rattle.bank_model.specs.Sensing.{is_at}
use Rattle.power_recovery.specs.{Events.first_kept, Kept.{KeptState, no_region}}
use Rattle.reg_lines.{specs.Values.values_in, proofs.Held.held-same}
use Rattle.register_laws.specs.{Items.{region_values, items_of, item_values}, Staying.{QueueLaw, StaysLaw, SlotsLaw, StartLaw}}
use Rattle.register_laws.proofs.{Holding.{controls-items, values-stay, read-same}, Items.{item-is, item-region, item-spare, item-mark}, Numbers.values-zeros}

pub queue_law : QueueLaw
queue_law n m e kept entries regs before after control leaves = record {
  own = record { base = control.own.base; items = control.own.items };
  held = held-same regs before after control.held leaves.lines leaves.controls control.item;
  item = control.item;
  values = λ item below.
      control.values item below ∙ sym (values-stay regs.change item _ _ (λ other. read-same regs before after item (leaves.controls item (rw control.own.items below))));
}

pub stays_law : StaysLaw
stays_law n m e kept regs before after control leaves = record {
  same = queue_law n m e kept kept.entries regs before after control leaves;
  accepted = λ busy entry. queue_law n m e kept _ regs before after control leaves;
  completed = λ under. queue_law n m e kept _ regs before after control leaves;
}

-- a line before the control lines is none of them
not-control : (base item : ℕ) (pulsed : Option ℕ) → IfSome pulsed (λ line. line < base) → is_at pulsed (base + item) ≡ false
not-control base item None below = refl
not-control base item (Some line) below = ne_eqb line (base + item) (λ same. omega (arith, same, below))

pub slots_law : SlotsLaw
slots_law n m e tick sensed pulsed tearing kept regs before after control below touches = record {
  lines = touches.lines;
  controls = λ item exists. touches.others (regs.base + item) (not-control regs.base item pulsed (rw control.own.base below));
}

-- every item is 0 at first
first-zeros : (n : ℕ) (shape : BankShape) (item : ℕ) → item < items_of shape → item_values {n = n} (first_kept shape) item ≡ 0 ∷ 0 ∷ 0 ∷ []
first-zeros n shape item below =
    let kept : KeptState n = first_kept shape in
    elim (item-is shape item below) [
      | inl region ↦
          let none : shape.lines - shape.lines ≡ 0 = omega arith in
          item-region kept item region
          ∙ ap (λ (r : RegionState). region_values r) (get_or-replicate shape.regions item (first_region shape.lines shape.psi) no_region region)
          ∙ ap (λ (x : ℕ). 0 ∷ x ∷ 0 ∷ []) none
      | inr (inl (spare, few, is)) ↦ ap (λ (i : ℕ). item_values kept i) is ∙ item-spare kept spare few
      | inr (inr is) ↦ ap (λ (i : ℕ). item_values kept i) is ∙ item-mark kept
    ]

pub start_law : StartLaw
start_law n m e shape array room exist blank = record {
  own = record { base = refl; items = refl };
  held = record {
    exist = omega (arith, exist);
    sound = λ item below. Sound-blank n m e _ _ (blank item below).held;
    unused = λ item below. untouched-blank e (array.line (control_line shape item)) (blank item below);
    writing = tt;
    halted = λ yes. cc;
  };
  item = tt;
  values = λ item below.
      let some : 16 ≤ n = room (omega (arith, below)) in
      first-zeros n shape item (controls-items shape item below)
      ∙ sym (values-zeros n (omega (arith, some)))
      ∙ sym (ap (λ (xs : List ℕ). values_in xs) (decode-blank e (array.line (control_line shape item)).held (blank item below).held));
}
