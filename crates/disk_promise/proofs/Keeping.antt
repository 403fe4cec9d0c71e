-- What is a disk by the rows of its module is kept there.
use Rattle.std.proofs.Common.{◌≡◌, ℕ, ◌<◌, List, [], map, refl, sym, ap, ◌∙◌, subst}
use Rattle.std.specs.Prelude.{IfOk, Result, Ok, Err}
use Rattle.cell_rows.specs.Device.{ArrayState}
use Rattle.row_rules.specs.{Rows.newest, declared.Row.Row}
use Rattle.module_shape.specs.Limits.{IsShape, total_of}
use Rattle.pcm_module.specs.State.{ModuleState, stand_now}
use Rattle.read_moments.specs.Reads.{standing}
use Rattle.row_stream.proofs.Tables.{rows-are}
use Rattle.moment_laws.specs.Moments.{MomentLaw}
use Rattle.atomic_sectors.specs.{declared.layout.Layout.Layout, declared.recorded.Put.Put}
use Rattle.disk_rules.specs.Agreeing.{AgreeLaw, NewDiskLaw}
use Rattle.disk_bytes.specs.Serving.{IsServed}
use Rattle.disk_lines.specs.{Asking.{HasHeard, rows_heard}, Hearing.{events_in, table_in}, Lines.writes_of, Places.place_of, Serving.bytes_by_rows, declared.watch.Heard.Heard}
use Rattle.disk_lines.proofs.Placing.{place-exists}
use Rattle.disk_promise.specs.Keeping.{DiskLaw, bytes_kept}

-- what stands for a line is what its rows gave it
module _ (moment : MomentLaw) {n m e : ℕ} (module_ : ModuleState n m e) (array : ArrayState n m) (heard : List (Heard n)) (is : IsShape module_.shape)
    (has : HasHeard module_ array heard) where
  stands-by-rows : (place : ℕ) → place < total_of module_.shape → stand_now module_ array place ≡ newest (rows_heard heard) place
  stands-by-rows place exists =
      (moment n m e module_.shape module_.seed (events_in heard) has.history module_ array (table_in heard) is has.served).stands place exists
      ∙ ap (λ (rows : List (Row n)). newest (map standing rows) place) (sym (rows-are (events_in heard) (table_in heard) has.served.size))

pub disk-law : AgreeLaw → MomentLaw → DiskLaw
disk-law agree moment n m e module_ array heard layout asked is fits has served = record {
  served = served;
  kept = agree n layout (total_of module_.shape) (bytes_by_rows module_ heard) (bytes_kept module_ array) served.writes fits
      (λ line exists.
      stands-by-rows moment module_ array heard is has (place_of module_.shape module_.seed line) (place-exists module_.shape module_.seed is line exists))
      served.rows;
}

-- nothing was asked of a new disk
pub new-served : NewDiskLaw → {n : ℕ} (layout : Layout) (puts : List (Put n)) → puts ≡ [] → IsServed n layout [] (writes_of puts)
new-served law {n} layout puts none =
    subst (λ (ps : List (Put n)). IsServed n layout [] (writes_of ps)) (sym none) ([], record { answers = refl; lines = law n layout })

-- what is there, where it follows
pub ok-so : {T E : Type 0} (P Q : T → Type 0) → ((x : T) → P x → Q x) → (result : Result T E) → IfOk result P → IfOk result Q
ok-so P Q so (Ok x) had = so x had
ok-so P Q so (Err why) had = tt
