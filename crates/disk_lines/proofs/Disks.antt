-- A disk stands by the rows of its module.
use Rattle.std.proofs.Common.{ℕ, List, sym}
use Rattle.std.specs.Prelude.{IfOk, OnErr, Result, Ok, Err}
use Rattle.module_shape.specs.Limits.{total_of}
use Rattle.pcm_module.specs.State.{ModuleState}
use Rattle.atomic_sectors.specs.{Lines.stand, Sectors.Fits, declared.layout.Layout.Layout, declared.recorded.Put.Put}
use Rattle.disk_rules.specs.{Agreeing.AgreeLaw, declared.DiskAnswer.DiskAnswer, declared.DiskRequest.DiskRequest}
use Rattle.disk_bytes.specs.Serving.{IsServed}
use Rattle.disk_lines.specs.{Lines.{StandsByRows, writes_of}, Serving.{IsDiskByRows, bytes_by_rows}, declared.watch.Heard.Heard}

-- what is there, where it follows
pub ok-so : {T E : Type 0} (P Q : T → Type 0) → ((x : T) → P x → Q x) → (result : Result T E) → IfOk result P → IfOk result Q
ok-so P Q so (Ok x) had = so x had
ok-so P Q so (Err why) had = tt

pub disk-by-rows : {n m e : ℕ} (agree : AgreeLaw) (module_ : ModuleState n m e) (heard : List (Heard n)) (puts : List (Put n)) → StandsByRows module_ heard puts
    → (layout : Layout) → Fits n layout (total_of module_.shape) → (asked : List (DiskRequest × DiskAnswer)) → IsServed n layout asked (writes_of puts) → IsDiskByRows module_ heard layout asked
disk-by-rows {n} agree module_ heard puts stands layout fits asked served = record {
  writes = served.0;
  answers = served.1.answers;
  rows = agree n layout (total_of module_.shape) (stand n (writes_of puts)) (bytes_by_rows module_ heard) served.0 fits (λ line exists. sym (stands line exists)) served.1.lines;
}

-- what holds anyway
pub on-err : {T E : Type 0} (result : Result T E) (P : Type 0) → P → OnErr result P
on-err (Ok x) P p = tt
on-err (Err why) P p = p
