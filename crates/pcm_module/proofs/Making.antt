-- A module that was just made.
use Rattle.std.proofs.Common.{◌≡◌, ℕ, zero, suc, false, ◌+◌, ◌*◌, ◌<◌, ◌≤◌, List, [], ◌∷◌, ◌++◌, length, Some, refl, sym, ap, subst, ◌∙◌, inl, inr, arith}
use Rattle.std.{specs.Prelude.slice_get, proofs.lemmas.Bool.cases_eq, proofs.lemmas.List.Elements.All-nil}
use Rattle.circular_buffer.proofs.Places.{slice_get-append_left, slice_get-last}
use Rattle.cell_rows.specs.{Device.{ArrayState, IsFresh}, declared.array.Wear.Wear}
use Rattle.ecp_line.specs.Layout.{IsLayout}
use Rattle.result_rows.specs.{Table.HasRow, declared.Outcome.Outcome}
use Rattle.feistel_map.specs.{Log2.log2, Network.{Network, network_of}}
use Rattle.bank_shape.specs.{Shape.IsBankShape, declared.BankShape.BankShape, declared.pace.Pace.Pace}
use Rattle.power_recovery.proofs.Bundle.{IsKept-first}
use Rattle.bank_laws.specs.Laws.{log_of}
use Rattle.bank_core.specs.Steps.{IsFreshFor}
use Rattle.module_shape.specs.{Addresses.{ModuleShape, module_of, bank_shape, array_lines_of}, Limits.{IsShape, total_of}, declared.raw.RawShape.RawShape}
use Rattle.module_shape.proofs.Bounds.{banks_apart}
use Rattle.module_laws.specs.Asking.{Asked}
use Rattle.row_rules.specs.Lines.{IsOfLines}
use Rattle.clock_laws.specs.{Leads.Leads, State.ClockState}
use Rattle.bank_timing.specs.Extending.{first_clock, outcome_in}
use Rattle.right_runs.specs.Banks.{pacing_in}
use Rattle.pcm_module.specs.{Replaying.{BankReplays, ReplaysIn, Replays, outcome_so_far}, Shaped.{IsModule, IsBankOf}, State.{ModuleState, first_bank, banks_from}}
use Rattle.pcm_module.proofs.Banks.{at_get}

module _ (n m e : ℕ) (raw : RawShape) where
  abbrev one : ℕ → ClockState n m e
  one bank = first_bank raw bank

  abbrev ones : ℕ → ℕ → List (ClockState n m e)
  ones banks bank = banks_from raw banks bank

  -- one bank more
  banks_more : (banks bank last : ℕ) → last ≡ bank + banks → ones (suc banks) bank ≡ ones banks bank ++ one last ∷ []
  banks_more zero bank last is =
      let same : bank ≡ last = omega (arith, is) in
      ap (λ (k : ℕ). let all : List (ClockState n m e) = one k ∷ [] in all) same
  banks_more (suc banks) bank last is =
      ap (λ (rest : List (ClockState n m e)). one bank ∷ rest) (banks_more banks (suc bank) last (omega (arith, is)))

  pub banks_count : (banks bank : ℕ) → length (ones banks bank) ≡ banks
  banks_count zero bank = refl
  banks_count (suc banks) bank = ap suc (banks_count banks (suc bank))

  -- the bank of each number
  pub bank_made_at : (banks bank : ℕ) → bank < banks → slice_get (ones banks 0) bank ≡ Some (one bank)
  bank_made_at zero bank h = absurd (omega (arith, h))
  bank_made_at (suc banks) bank h =
      ap (λ (cs : List (ClockState n m e)). slice_get cs bank) (banks_more banks 0 banks (omega arith))
      ∙ elim (cases_eq bank banks) [
        | inl last ↦ slice_get-last (ones banks 0) (one banks) bank (last ∙ sym (banks_count banks 0))
            ∙ ap (λ (k : ℕ). let some = Some (one k) in some) (sym last)
        | inr other ↦
            let before : bank < banks = omega (arith, h, other) in
            slice_get-append_left (ones banks 0) (one banks ∷ []) bank (subst (λ k. bank < k) (sym (banks_count banks 0)) before)
            ∙ bank_made_at banks bank before
      ]

  -- a bank that was just made, over fresh lines, and what is true of it
  pub record IsFirst (bank : ℕ) : Type 0 where
    pub leads : (array : ArrayState n m) → IsFreshFor (bank_shape (module_of raw) bank) array → Leads [] (one bank) array
    pub shape : IsBankShape (bank_shape (module_of raw) bank)

  -- so many banks were made
  pub record AreMade (banks : ℕ) (items : List (ClockState n m e)) : Type 0 where
    pub made : items ≡ ones banks 0
    pub first : (bank : ℕ) → bank < banks → IsFirst bank

  pub made_none : AreMade 0 []
  made_none = record { made = refl; first = λ bank h. absurd (omega (arith, h)) }

  pub made_one : (bank : ℕ) (items next : List (ClockState n m e)) (clock : ClockState n m e) (own : BankShape) (its : Pace)
      → AreMade bank items → own ≡ bank_shape (module_of raw) bank → IsBankShape own → its ≡ pacing_in raw → clock ≡ first_clock own its
      → ((array : ArrayState n m) → IsFreshFor own array → Leads [] clock array)
      → next ≡ items ++ clock ∷ [] → AreMade (suc bank) next
  made_one bank items next clock own its were shaped in_range paced is first pushed =
      let same : clock ≡ one bank
      = is ∙ ap (λ (s : BankShape). let c : ClockState n m e = first_clock s its in c) shaped ∙ ap (λ (p : Pace). let c : ClockState n m e = first_clock (bank_shape (module_of raw) bank) p in c) paced in
      record {
        made = pushed ∙ ap (λ (cs : List (ClockState n m e)). cs ++ clock ∷ []) were.made
            ∙ ap (λ (c : ClockState n m e). ones bank 0 ++ c ∷ []) same ∙ sym (banks_more bank 0 bank (omega arith));
        first = λ k h. elim (cases_eq k bank) [
          | inl last ↦ subst IsFirst (sym last) (record {
            leads = λ array fresh. subst (λ (c : ClockState n m e). Leads [] c array) same (first array (subst (λ (s : BankShape). IsFreshFor s array) (sym shaped) fresh));
            shape = subst IsBankShape shaped in_range;
          })
          | inr other ↦ were.first k (omega (arith, h, other))
        ];
      }

-- a bank's lines are fresh, if the whole array is
part_fresh : {n m : ℕ} (shape : ModuleShape) (bank : ℕ) (array : ArrayState n m) (wear : Wear) → bank < shape.banks → IsFresh (shape.banks * array_lines_of shape) wear array
    → IsFreshFor (bank_shape shape bank) array
part_fresh shape bank array wear h fresh =
    let l : ℕ = array_lines_of shape in
    let ends : bank * l + l ≤ shape.banks * l = banks_apart bank shape.banks l h in
    record {
      lines = subst (λ k. bank * l + l ≤ k) (sym fresh.count) ends;
      blank = λ line there. fresh.blank (bank * l + line) (omega (arith, there, ends));
    }

module _ (n m e : ℕ) (raw : RawShape) (seed : ℕ) where
  -- the module with these banks
  abbrev made_module : List (ClockState n m e) → ModuleState n m e
  made_module banks = record { shape = raw; seed = seed; banks = banks; tick = 0; rows_below = 0; finished = false }

  -- a history with no event leads to a bank that was just made
  first_replays : (bank : ℕ) (array : ArrayState n m) (wear : Wear) (results : List (Outcome n)) → bank < raw.banks
      → IsFresh (raw.banks * array_lines_of (module_of raw)) wear array → IsFirst n m e raw bank
      → BankReplays (bank_shape (module_of raw) bank) (pacing_in raw) 0 0 [] [] array results (one n m e raw bank)
  first_replays bank array wear results h fresh first = record {
    shaped = refl;
    paced = refl;
    going = refl;
    in_time = omega arith;
    below = omega arith;
    leads = first.leads array (part_fresh (module_of raw) bank array wear h fresh);
    logged = λ log is. ap (log_of (bank_shape (module_of raw) bank)) (fresh.log log is);
    open_rows = record { queued = λ row there. absurd (cc); waiting = λ row there. absurd (cc) };
    arrived = refl;
    recorded = All-nil (λ (a : Asked n). outcome_in results a.row ≡ outcome_so_far {m = m} (bank_shape (module_of raw) bank) [] a a.asks);
  }

  module _ (banks : List (ClockState n m e)) (made : AreMade n m e raw raw.banks banks) where
    made_at : (bank : ℕ) → bank < raw.banks → slice_get banks bank ≡ Some (one n m e raw bank)
    made_at bank h = ap (λ (cs : List (ClockState n m e)). slice_get cs bank) made.made ∙ bank_made_at n m e raw raw.banks bank h

    pub made_replays : (array : ArrayState n m) (wear : Wear) (results : List (Outcome n))
        → IsFresh (raw.banks * array_lines_of (module_of raw)) wear array → Replays (λ bank. []) [] (made_module banks) array results
    made_replays array wear results fresh = record {
      size = fresh.count;
      banks = λ bank h.
          at_get (ReplaysIn (made_module banks) bank [] [] array results) (slice_get banks bank) (one n m e raw bank) (made_at bank h)
          (first_replays bank array wear results h fresh (made.first bank h));
      exist = All-nil (λ (a : Asked n). IsOfLines (total_of raw) a.asks);
      ticks = tt;
      in_time = All-nil (λ (a : Asked n). a.tick ≤ 0);
      rows = tt;
      below = All-nil (λ (a : Asked n). a.row < 0);
      in_table = All-nil (λ (a : Asked n). HasRow results a.row);
    }

    pub made_module_is : (network : Network) → IsShape raw → IsLayout n m e → network ≡ network_of (log2 (total_of raw)) seed → IsModule raw seed network banks 0
    made_module_is network is layout mixing = record {
      layout = layout;
      in_range = is;
      mixing = mixing;
      count = ap length made.made ∙ banks_count n m e raw raw.banks 0;
      of_shape = λ bank h.
          at_get (λ (clock : ClockState n m e). IsBankOf (bank_shape (module_of raw) bank) clock) (slice_get banks bank) (one n m e raw bank) (made_at bank h)
          (record { shaped = refl; kept = IsKept-first (bank_shape (module_of raw) bank) some few (made.first bank h).shape });
      in_time = omega arith;
    }
      where
        some : 0 < n
        some = omega (arith, layout.shape.0)

        few : n ≤ 128
        few = layout.shape.1

pub end_is : (at end banks : ℕ) → at ≤ end → end ≤ at → end ≡ banks → at ≡ banks
end_is at end banks below above is = omega (arith, below, above, is)

pub next_is : (at : ℕ) → suc at ≡ at + 1
next_is at = omega arith
