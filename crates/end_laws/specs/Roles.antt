-- That each array line of a bank is used for one thing in the end, and how many spares are used.
use Rattle.std.specs.Prelude.{◌≡◌, ℕ, ◌<◌, List}
use Rattle.cell_rows.specs.Device.{ArrayState}
use Rattle.spare_pool.specs.Table.{used_by}
use Rattle.bank_shape.specs.{Shape.{slots_of, controls_from, IsBankShape}, declared.BankShape.BankShape}
use Rattle.power_recovery.specs.Kept.{array_line}
use Rattle.bank_model.specs.Events.{BankEvent}
use Rattle.bank_invariant.specs.{Holds.Holds, State.BankState}
use Rattle.right_runs.specs.{Ends.BankEnd, Roles.{used_spares, HasOneRole}}

-- by an end in which each slot has an array line of its own, which is no control line, each array line has one role
abbrev pub RoleLaw : Type 0
RoleLaw =
    (shape : BankShape) (named : ℕ → ℕ) (end : BankEnd) (at : ℕ)
    → IsBankShape shape → ((slot other : ℕ) → slot < slots_of shape → other < slots_of shape → end.table slot ≡ end.table other → slot ≡ other)
    → ((slot : ℕ) → slot < slots_of shape → end.table slot < controls_from shape)
    → HasOneRole shape named end at

-- the spares that are used by a bank's table are as many as the bank has used
abbrev pub UsedLaw : Type 0
UsedLaw =
    (n m e : ℕ) (h : List (BankEvent n)) (bank : BankState n m e) (array : ArrayState n m)
    → Holds h bank array → used_spares bank.kept.shape (array_line bank.kept) ≡ used_by bank.kept.table
