-- How what waits in the banks is told.
use Rattle.std.proofs.Common.{◌≡◌, ℕ, ◌+◌, List, [], ◌∷◌, ◌++◌, Some, append_assoc, add-one, sym, ap, ◌∙◌}
use Rattle.std.{specs.Prelude.{slice_get, unwrap_or}, proofs.lemmas.List.append-nil}
use Rattle.clock_laws.specs.State.{ClockState}
use Rattle.pcm_module.specs.State.{ModuleState, bank_at, first_bank}
use Rattle.row_printer.specs.{declared.told.Backlog.Backlog, declared.told.Told.Told, declared.told.Told.TheVariants.Bank}
use Rattle.row_stream.specs.Answering.{backlog_of, banks_told}

-- lines behind lines
pub lines-both : {n : ℕ} (old between new first second : List (Told n)) → between ≡ old ++ first → new ≡ between ++ second → new ≡ old ++ (first ++ second)
lines-both old between new first second one other = other ∙ ap (λ t. t ++ second) one ∙ append_assoc old first second

module _ {n m e : ℕ} (module_ : ModuleState n m e) (tick : ℕ) (old : List (Told n)) where
  -- none was told yet
  pub told-none : old ≡ old ++ banks_told module_ tick 0
  told-none = sym (append-nil old)

  -- one bank more
  pub told-more : (bank : ℕ) (clock : ClockState n m e) (backlog : Backlog) (so_far now : List (Told n)) → slice_get module_.banks bank ≡ Some clock → backlog ≡ backlog_of bank clock
      → so_far ≡ old ++ banks_told module_ tick bank → now ≡ so_far ++ Bank tick backlog ∷ [] → now ≡ old ++ banks_told module_ tick (bank + 1)
  told-more bank clock backlog so_far now there is before tells =
      let at : bank_at module_ bank ≡ clock = ap (λ o. unwrap_or o (first_bank module_.shape bank)) there in
      lines-both old so_far now (banks_told module_ tick bank) (Bank tick (backlog_of bank (bank_at module_ bank)) ∷ []) before
      (tells ∙ ap (λ (b : Backlog). so_far ++ Bank tick b ∷ []) (is ∙ ap (backlog_of bank) (sym at)))
      ∙ ap (λ (banks : ℕ). old ++ banks_told module_ tick banks) (sym (add-one bank))
