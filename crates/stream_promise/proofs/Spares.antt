-- What a module's banks keep says alone how many spares are used.
use Rattle.std.proofs.Common.{◌≡◌, ℕ, zero, suc, ◌<◌, refl, sym, subst, ◌∙◌, arith}
use Rattle.std.specs.Prelude.{IsSomeAnd, Option, None, Some, slice_get, unwrap_or}
use Rattle.bank_shape.specs.{Shape.slots_of, declared.BankShape.BankShape}
use Rattle.module_shape.specs.{Addresses.{module_of, bank_shape}, declared.raw.RawShape.RawShape}
use Rattle.right_runs.specs.{Ends.BankEnd, Roles.{used_among, used_spares}}
use Rattle.clock_laws.specs.State.{ClockState}
use Rattle.end_laws.specs.EndLaws.{IsEndOf}
use Rattle.pcm_module.specs.{Roles.{spares_used, spares_used_in}, State.{AreEndsOf, ModuleState, bank_at, first_bank}}

used-same : (shape : BankShape) (one two : ℕ → ℕ) (slots : ℕ) → ((slot : ℕ) → slot < slots → one slot ≡ two slot) → used_among shape one slots ≡ used_among shape two slots
used-same shape one two zero same = refl
used-same shape one two (suc slots) same =
    let rest = used-same shape one two slots (λ slot below. same slot (omega (arith, below))) in
    rw (same slots (omega arith), rest) refl

spares-same : (raw : RawShape) (one two : ℕ → BankEnd) (banks : ℕ)
    → ((bank : ℕ) → bank < banks → used_spares (bank_shape (module_of raw) bank) (one bank).table ≡ used_spares (bank_shape (module_of raw) bank) (two bank).table)
    → spares_used_in raw one banks ≡ spares_used_in raw two banks
spares-same raw one two zero same = refl
spares-same raw one two (suc banks) same =
    let rest = spares-same raw one two banks (λ bank below. same bank (omega (arith, below))) in
    rw (same banks (omega arith), rest) refl

-- what holds of the bank that is there holds of the bank of that number
there : {X : Type 0} (P : X → Type 0) (o : Option X) (d : X) → IsSomeAnd o P → P (unwrap_or o d)
there P (Some x) d h = h
there P None d h = absurd h

pub used-alike : {n m e : ℕ} (raw : RawShape) (module_ : ModuleState n m e) (one two : ℕ → BankEnd) → module_.shape ≡ raw
    → ((bank : ℕ) → bank < raw.banks → (bank_at module_ bank).bank.kept.shape ≡ bank_shape (module_of raw) bank)
    → AreEndsOf module_ one → AreEndsOf module_ two → spares_used raw one ≡ spares_used raw two
used-alike {n = n} {m = m} {e = e} raw module_ one two is shapes first second =
    spares-same raw one two raw.banks (λ bank below.
    let exists : bank < module_.shape.banks = rw is below in
    let End : BankEnd → ClockState n m e → Type 0 = λ end clock. IsEndOf clock.bank.kept end in
    let a = there (End (one bank)) (slice_get module_.banks bank) (first_bank module_.shape bank) (first bank exists) in
    let b = there (End (two bank)) (slice_get module_.banks bank) (first_bank module_.shape bank) (second bank exists) in
    let Same : BankShape → Type 0 = λ shape. used_spares shape (one bank).table ≡ used_spares shape (two bank).table in
    subst Same (shapes bank below)
    (used-same (bank_at module_ bank).bank.kept.shape (one bank).table (two bank).table (slots_of (bank_at module_ bank).bank.kept.shape) (λ slot lt. a.table slot lt ∙ sym (b.table slot lt))))
