-- What a snapshot of a stream says, and what a look does.
use Rattle.std.specs.Prelude.{◌≡◌, ℕ, Bool, List}
use Rattle.cell_rows.specs.Device.{ArrayState}
pub use Rattle.wear_totals.specs.Wear.{wear_of}
use Rattle.right_runs.specs.Ends.{BankEnd}
use Rattle.run_text.specs.Counting.{counts_of}
use Rattle.pcm_module.specs.{Roles.spares_used, State.{AreEndsOf, ModuleState}}
use Rattle.row_printer.specs.{Printing.{Printing, table_of}, Snapshots.AddsDue, declared.snapshot.Snapshot.Snapshot, declared.told.Told.Told}

-- a snapshot says what stands at a tick behind so many rows of which this was told: the module, and the array
pub record IsSnapshot {n m e : ℕ} (places at : ℕ) (told : List (Told n)) (module_ : ModuleState n m e) (array : ArrayState n m) (snapshot : Snapshot) : Type 0 where
  pub rows : snapshot.rows ≡ places
  pub tick : snapshot.tick ≡ at
  pub counts : snapshot.counts ≡ counts_of (table_of places told)
  pub retired : (ends : ℕ → BankEnd) × AreEndsOf module_ ends × (snapshot.retired ≡ spares_used module_.shape ends)
  pub wear : snapshot.wear ≡ wear_of e array

-- a look at what stands at a tick: where a snapshot is due, one of it comes behind those before, and nothing else that was told changes
pub record Looks {n m e : ℕ} {S : Type 0} (due : Bool) (at : ℕ) (module_ : ModuleState n m e) (array : ArrayState n m) (old new : Printing n S) : Type 0 where
  pub rows : new.rows ≡ old.rows
  pub told : new.told ≡ old.told
  pub prints : new.prints ≡ old.prints
  pub snapshots : (ends : ℕ → BankEnd) → AreEndsOf module_ ends
      → AddsDue due (IsSnapshot old.rows at old.told module_ array) old.snapshots new.snapshots
