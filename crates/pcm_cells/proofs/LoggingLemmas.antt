-- A log is told exactly while there are at most `cap` senses.
use Rattle.std.proofs.Common.{◌≡◌, ℕ, ◌<◌, ◌≤◌, List, [], ◌∷◌, ◌++◌, length, cond, refl, ◌∙◌, ap, inl, inr, arith, Some, None}
use Rattle.std.proofs.{lemmas.Bool.{cases_lt, lt-ltb, le-ltb}, lemmas.List.length-append}
use Rattle.cell_rows.specs.declared.array.Sense.{Sense}
use Rattle.pcm_cells.specs.Logging.{logged, log_of}

-- as many senses as it has room for
pub log_told : {B M : ℕ} (cap : ℕ) (history : List (Sense B M)) → length history ≤ cap
    → (log : List (Sense B M)) × (log_of cap history ≡ Some log) × (length log ≡ length history)
log_told {B} {M} cap [] few = ([], refl, refl)
log_told {B} {M} cap (sense ∷ older) few =
    let (log, is, len) = log_told cap older (omega arith) in (
      log ++ sense ∷ [],
      ap (logged cap sense) is ∙ ap (λ b. cond b (Some (log ++ sense ∷ [])) None) (lt-ltb (length log) cap (omega arith)),
      length-append log (sense ∷ []) ∙ omega arith,
    )

-- one sense too many ends it
pub log_untold : {B M : ℕ} (cap : ℕ) (history : List (Sense B M)) → cap < length history → log_of cap history ≡ None
log_untold {B} {M} cap [] many = absurd (omega arith)
log_untold {B} {M} cap (sense ∷ older) many =
    elim (cases_lt cap (length older)) as (λ _. log_of cap (sense ∷ older) ≡ None) [
      | inl more ↦ ap (logged cap sense) (log_untold cap older more)
      | inr full ↦
          let (log, is, len) = log_told cap older full in
          ap (logged cap sense) is ∙ ap (λ b. cond b (Some (log ++ sense ∷ [])) None) (le-ltb (length log) cap (omega arith))
    ]
