-- That a bank whose kept part changes, but for its shape, stays in range.
use Rattle.std.proofs.Common.{◌≡◌, ◌<◌, ℕ, sym, ap, subst, ◌∙◌, arith, List}
use Rattle.std.specs.Prelude.{All}
use Rattle.bank_shape.specs.{declared.BankShape.BankShape, declared.waiting.Waiting.Waiting}
use Rattle.power_recovery.specs.{Kept.{KeptState, IsKept}, Slots.bank_lines}
use Rattle.bank_core.specs.Bank.{IsBank}

pub IsBank-by_shape : {n : ℕ} (m e : ℕ) (kept new : KeptState n) (waiting : List (Waiting n)) (capacity lost : ℕ)
    → new.shape ≡ kept.shape → IsKept new
    → IsBank m e kept waiting capacity lost → IsBank m e new waiting capacity lost
IsBank-by_shape {n} m e kept new waiting capacity lost same range is =
    let reads : new.shape.reads ≡ kept.shape.reads = ap (λ (s : BankShape). s.reads) same in
    record {
      few_bytes = is.few_bytes;
      layout = is.layout;
      in_range = range;
      room = is.room ∙ sym reads;
      lost_room = is.lost_room ∙ sym reads;
      few_waiting = omega (arith, is.few_waiting, reads);
      known = subst (λ (s : BankShape). All (λ w. w.line < bank_lines s) waiting) (sym same) is.known;
    }
