-- The bytes that a masked write hands in.
use Rattle.std.proofs.Common.{◌≡◌, ℕ, zero, suc, ◌==◌, ◌&&◌, ◌||◌, Bool, true, false, cond, List, [], ◌∷◌, length, replicate, refl, sym, ap, ◌∙◌, arith}
use Rattle.masked_bytes.{specs.Masked.{gives_all, laid, zero_elsewhere}, proofs.Layering.all_given-gives_all}
use Rattle.result_rows.specs.declared.Outcome.{Outcome}
use Rattle.row_rules.specs.{Answers.accepts, Rows.lay_row}
use Rattle.bank_laws.specs.Outcomes.{ended}
use Rattle.trace_reader.specs.declared.event.EventOp.TheVariants.{Write, Mask}
use Rattle.disk_lines.specs.Asking.{row_standing}

picked : (g : Bool) (b z u : ℕ) → cond g (cond g b z) u ≡ cond g b u
picked true b z u = refl
picked false b z u = refl

-- bytes that were laid over others lay the same where the same are given
pub laid-twice : (bytes : List ℕ) (given : List Bool) (zeros under : List ℕ) → length zeros ≡ length bytes → length under ≡ length bytes
    → laid (laid bytes given zeros) given under ≡ laid bytes given under
laid-twice [] given [] under long also = refl
laid-twice [] given (z ∷ zeros) under long also = absurd (omega arith)
laid-twice (b ∷ bytes) given [] under long also = absurd (omega arith)
laid-twice (b ∷ bytes) given (z ∷ zeros) [] long also = absurd (omega arith)
laid-twice (b ∷ bytes) [] (z ∷ zeros) (u ∷ under) long also = refl
laid-twice (b ∷ bytes) (g ∷ given) (z ∷ zeros) (u ∷ under) long also =
    ap (λ (x : ℕ). x ∷ laid (laid bytes given zeros) given under) (picked g b z u)
    ∙ ap (λ (xs : List ℕ). cond g b u ∷ xs) (laid-twice bytes given zeros under (omega arith) (omega arith))

shown : (g : Bool) (b : ℕ) (rest : Bool) → rest ≡ true → ((g || cond g b 0 == 0) && rest) ≡ true
shown true b rest is = is
shown false b rest is = is

-- over zeros, a byte that isn't given is 0
pub zero-laid : (n : ℕ) (bytes : List ℕ) (given : List Bool) → length bytes ≡ n → zero_elsewhere (laid bytes given (replicate n 0)) given ≡ true
zero-laid zero [] given long = refl
zero-laid zero (b ∷ bytes) given long = absurd (omega arith)
zero-laid (suc n) [] given long = absurd (omega arith)
zero-laid (suc n) (b ∷ bytes) [] long = refl
zero-laid (suc n) (b ∷ bytes) (g ∷ given) long = shown g b (zero_elsewhere (laid bytes given (replicate n 0)) given) (zero-laid n bytes given (omega arith))

module _ {n : ℕ} (place : ℕ) (bytes : List ℕ) (given : List Bool) (long : length bytes ≡ n) (whole : length given ≡ n) where
  pub lays-all : gives_all given ≡ true → (tick line : ℕ) (outcome : Outcome n) (under : List ℕ) → length under ≡ n
      → lay_row line (row_standing (record { tick = tick; op = Write place bytes }) outcome) under
      ≡ cond ((place == line) && accepts (ended tick outcome)) (laid bytes given under) under
  lays-all all tick line outcome under fits =
      ap (λ (g : List Bool). cond ((place == line) && accepts (ended tick outcome)) (laid bytes g under) under) (sym (all_given-gives_all n given whole all))

  pub lays-some : (zeros : List ℕ) → length zeros ≡ n → (tick line : ℕ) (outcome : Outcome n) (under : List ℕ) → length under ≡ n
      → lay_row line (row_standing (record { tick = tick; op = Mask place (laid bytes given zeros) given }) outcome) under
      ≡ cond ((place == line) && accepts (ended tick outcome)) (laid bytes given under) under
  lays-some zeros zeros_long tick line outcome under fits =
      ap (λ (b : List ℕ). cond ((place == line) && accepts (ended tick outcome)) b under) (laid-twice bytes given zeros under (zeros_long ∙ sym long) (fits ∙ sym long))
