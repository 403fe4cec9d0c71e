-- What a bank leaves of the array beyond all banks, and of a log.
use Rattle.std.proofs.Common.{◌≡◌, ℕ, ◌*◌, ◌<◌, List, [], ◌++◌, refl, sym, ap, subst, ◌∙◌, inr, append_assoc, append-nil, arith}
use Rattle.cell_rows.specs.{Device.ArrayState, declared.array.Sense.Sense}
use Rattle.bank_shape.specs.declared.BankShape.{BankShape}
use Rattle.bank_model.specs.{Adding.{Adds, senses_of}, Timing.TimedEvent}
use Rattle.module_shape.{specs.Addresses.{ModuleShape, bank_shape, array_lines_of}, proofs.Bounds.banks_apart}
use Rattle.pcm_module.specs.Taking.{StaysBeyond}

module _ {n m : ℕ} (own : ℕ) where
  pub stays_same : (array : ArrayState n m) → StaysBeyond own array array
  stays_same array = record {
    lines = refl;
    beyond = λ line above. refl;
    log = λ told is. (told, [], is, sym (append-nil told));
    wear = refl;
  }

  pub stays_both : (first between last : ArrayState n m) → StaysBeyond own first between → StaysBeyond own between last → StaysBeyond own first last
  stays_both first between last one two = record {
    lines = two.lines ∙ one.lines;
    beyond = λ line above. two.beyond line above ∙ one.beyond line above;
    log = λ told is.
        let later = two.log told is in
        let earlier = one.log later.0 later.2 in
        (earlier.0, earlier.1 ++ later.1, earlier.2, later.3 ∙ ap (λ (l : List (Sense n m)). l ++ later.1) earlier.3 ∙ append_assoc earlier.0 earlier.1 later.1);
    wear = two.wear ∙ one.wear;
  }

-- a bank of the module has no line beyond those of all banks
pub stays_by : {n m : ℕ} (shape : ModuleShape) (bank : ℕ) (own : BankShape) (added : List (TimedEvent n m)) (before after : ArrayState n m)
    → bank < shape.banks → own ≡ bank_shape shape bank → Adds own added before after → StaysBeyond (shape.banks * array_lines_of shape) before after
stays_by {n = n} {m = m} shape bank own added before after exists is adds =
    let here : Adds (bank_shape shape bank) added before after = subst (λ (s : BankShape). Adds s added before after) is adds in
    let ends = banks_apart bank shape.banks (array_lines_of shape) exists in
    record {
      lines = here.lines;
      beyond = λ line above. here.others line (inr (omega (arith, ends, above)));
      log = λ told told_is. let was = here.log told told_is in (was.0, senses_of added, was.1, was.2);
      wear = here.wear;
    }
