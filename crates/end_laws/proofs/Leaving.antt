-- What a history leaves of the array of its bank, and the moves of each region.
use Rattle.std.proofs.Common.{ℕ, List, refl, sym, ap, subst, ◌∙◌, arith}
use Rattle.std.specs.Prelude.{IsTrue}
use Rattle.cell_rows.specs.Device.{ArrayState}
use Rattle.spare_pool.specs.Table.{Table, line_by, used_by}
use Rattle.bank_model.specs.{Events.BankEvent, Sensing.pulses_of, Timing.{TimedEvent, core}}
use Rattle.bank_laws.specs.Laws.{LeavesArray}
use Rattle.ecp_line.specs.ArrayLines.{is_worn_at}
use Rattle.bank_invariant.{specs.Bridge.AgreesWith, specs.Holds.Holds, specs.State.BankState, proofs.Agreeing.{agree_law, due-target}}
use Rattle.place_laws.proofs.Moved.{moved_law}
use Rattle.end_laws.specs.EndLaws.{IsHaltedWorn, GapsLaw}

module _ {n m e : ℕ} (h : List (BankEvent n)) (bank : BankState n m e) (array : ArrayState n m) (holds : Holds h bank array) where
  pub agreeing : AgreesWith h bank
  agreeing = agree_law n m e h bank array holds

module _ {n m : ℕ} (e : ℕ) (xs : List (TimedEvent n m)) (bank : BankState n m e) (array : ArrayState n m) (holds : Holds (core xs) bank array)
    (halted : IsHaltedWorn e bank.kept.shape xs array) where
  -- the array with the pulses that the history counts, whatever it counted itself: its cells are the same
  abbrev pub recounted : ArrayState n m
  recounted = record array { line = λ at. record (array.line at) { pulses = pulses_of xs at } }

  -- that is an array as the history leaves it
  pub leaves : LeavesArray e bank.kept.shape xs recounted
  leaves = record {
    pulses = λ line below. refl;
    retired = λ line below none.
        holds.tied.sound.worn line (omega (arith, below, ap (λ (t : Table). used_by t) holds.table))
        (λ slot own same. none slot own (ap (λ (t : Table). line_by t slot) (sym holds.table) ∙ same));
    halted = halted;
    exhausted = λ mark.
        let there : IsTrue bank.kept.exhausted = holds.exhausted ∙ mark in
        subst (λ (line : ℕ). IsTrue (is_worn_at e array line)) (due-target (core xs) bank array holds) (holds.tied.exhausted there).worn;
  }

pub gaps_law : GapsLaw
gaps_law off n m e pace xs bank array region sized l idle holds halted =
    moved_law off n m e bank.kept.shape pace xs (recounted e xs bank array holds halted) region sized l idle (leaves e xs bank array holds halted)
