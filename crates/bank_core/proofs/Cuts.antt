-- That a cut keeps the tie and the invariant.
use Rattle.std.proofs.Common.{◌≡◌, ℕ, ◌<◌, refl, sym, ap, subst, ◌∙◌, arith, Bool, true, false, List, [], ◌∷◌, ◌++◌, length, map, Option, Some, None, is_some}
use Rattle.std.specs.Prelude.{IfSome, IsTrue, IsFalse}
use Rattle.cell_rows.specs.Device.{ArrayState}
use Rattle.power_recovery.specs.Kept.{IsKept, target_slot}
use Rattle.bank_model.specs.Events.{BankEvent, Cut}
use Rattle.bank_invariant.specs.{Holds.Holds, State.{BankState, Operation}, Steps.cut_off, Tearing.DiffersAt, Tied.{IsTied, IsUnderWay}}
use Rattle.bank_invariant.proofs.{Quiet.cut_law, Targets.{AreSound-differs, AreUntouched-differs, AreOrderly-differs, DiffersAt-tear}, Tearing.torn_law}
use Rattle.bank_core.{specs.Cutting.{IsTorn, stopped, reads_lost}, proofs.Keeping.{tied-running, tied-target, tied-exists, some_running}}

no-rows : (xs : List ℕ) → length xs ≡ 0 → xs ≡ []
no-rows [] none = refl
no-rows (x ∷ xs) none = let no : ⊥ = omega (arith, none) in absurd no

module _ {n m e : ℕ} where
  -- a bank that stops and loses its reads is cut off
  pub cut-is : (bank : BankState n m e) → length bank.lost ≡ 0 → reads_lost (stopped bank) ≡ cut_off bank
  cut-is bank none =
      ap (λ (xs : List ℕ). with-lost bank xs) (no-rows bank.lost none)
    where
      with-lost : BankState n m e → List ℕ → BankState n m e
      with-lost b xs = record { kept = b.kept; running = None; waiting = []; lost = xs ++ map (λ w. w.row) b.waiting; rows_below = b.rows_below }

  -- what a tear asks for
  pub record IsTearable (op : Operation n m e) (array : ArrayState n m) : Type 0 where
    pub exists : op.target < array.lines
    pub writing : IsUnderWay op.writer (array.line op.target)

  pub tearable : (bank view : BankState n m e) (array : ArrayState n m) (op : Operation n m e)
      → bank ≡ view → IsKept view.kept → IsTied bank array → view.running ≡ Some op → IsTearable op array
  tearable bank view array op same range tied is =
      let there : IsTied view array = subst (λ (b : BankState n m e). IsTied b array) same tied in
      record {
        exists = tied-exists view array op range there is;
        writing = (tied-running view array op there is).writing;
      }

  torn-op : (bank : BankState n m e) (before after : ArrayState n m) (op : Operation n m e) → IsTied bank before → bank.running ≡ Some op
      → IfSome bank.running (λ op. IsTorn op before after) → DiffersAt e op.target before after
  torn-op bank before after op tied is torn =
      let by : IsTorn op before after = subst (λ (r : Option (Operation n m e)). IfSome r (λ op. IsTorn op before after)) is torn in
      DiffersAt-tear e op.target op.writer before after (tied-running bank before op tied is).writing by.tear by.sound by.unused

  pub cut_holds : (tearing : Bool) (bank : BankState n m e) (before after : ArrayState n m)
      → (IsTrue tearing → IsTrue (is_some bank.running)) → (IsFalse tearing → after ≡ before)
      → (IsTrue tearing → IfSome bank.running (λ op. IsTorn op before after))
      → (h : List (BankEvent n)) → Holds h bank before → Holds (Cut tearing ∷ h) (cut_off bank) after
  cut_holds false bank before after runs quiet torn h holds =
      subst (λ (a : ArrayState n m). Holds (Cut false ∷ h) (cut_off bank) a) (sym (quiet refl)) (cut_law n m e h bank before holds)
  cut_holds true bank before after runs quiet torn h holds =
      let some = some_running bank.running (runs refl) in
      torn_law n m e h bank before after some.0 holds some.1 (torn-op bank before after some.0 holds.tied some.1 (torn refl))

  quiet_tied : (bank : BankState n m e) (array : ArrayState n m) → IsTied bank array → IsTied (cut_off bank) array
  quiet_tied bank array tied = record {
    lines = tied.lines;
    sound = tied.sound;
    unused = tied.unused;
    orderly = tied.orderly;
    operation = tt;
    exhausted = λ mark. record { all_used = (tied.exhausted mark).all_used; idle = refl; worn = (tied.exhausted mark).worn };
  }

  pub cut_tied : (tearing : Bool) (bank : BankState n m e) (before after : ArrayState n m)
      → IsKept bank.kept → (IsTrue tearing → IsTrue (is_some bank.running)) → (IsFalse tearing → after ≡ before)
      → (IsTrue tearing → IfSome bank.running (λ op. IsTorn op before after)) → IsTied bank before → IsTied (cut_off bank) after
  cut_tied false bank before after range runs quiet torn tied =
      subst (λ (a : ArrayState n m). IsTied (cut_off bank) a) (sym (quiet refl)) (quiet_tied bank before tied)
  cut_tied true bank before after range runs quiet torn tied =
      let some = some_running bank.running (runs refl) in
      let op = some.0 in
      let differs = torn-op bank before after op tied some.1 (torn refl) in
      record {
        lines = omega (arith, tied.lines, differs.lines);
        sound = AreSound-differs e bank.kept bank.waiting op.target (target_slot bank.kept op.work) before after range tied.sound (tied-target bank before op range tied some.1) differs;
        unused = AreUntouched-differs e op.target _ _ before after differs tied.unused;
        orderly = AreOrderly-differs e op.target _ _ before after differs tied.orderly;
        operation = tt;
        exhausted = λ mark. let none : None ≡ Some op = sym (tied.exhausted mark).idle ∙ some.1 in cc;
      }
