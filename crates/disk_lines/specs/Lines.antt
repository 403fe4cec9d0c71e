-- A module's lines as the lines of a disk.
use Rattle.std.specs.Prelude.{◌≡◌, ℕ, ◌<◌, List, Option, map}
use Rattle.cell_rows.specs.{Device.ArrayState, declared.array.Wear.Wear}
use Rattle.ecp_line.specs.Layout.{IsLayout}
use Rattle.row_rules.specs.Rows.{newest}
use Rattle.module_shape.specs.{Limits.{IsShape, total_of}, declared.raw.RawShape.RawShape}
use Rattle.pcm_module.specs.State.{ModuleState}
use Rattle.atomic_sectors.specs.{Lines.{Write, stand}, Recorded.write_of, declared.recorded.Put.Put}
use Rattle.disk_lines.specs.{Asking.{HasHeard, rows_heard}, Cutting.all_cuts, Places.place_of, Placing.Placing, declared.cuts.Cuts.Cuts, declared.watch.Heard.Heard}

-- a module, its array, what was heard of its rows, the writes of the disk's lines that were made, the newest of each first, and when the power is cut in all
pub record OnModule (n m e : ℕ) (S : Type 0) : Type 0 where
  pub module_ : ModuleState n m e
  pub array : S
  pub heard : List (Heard n)
  pub puts : List (Put n)
  pub cuts : List ℕ

-- what no call changes: the sizes and the seed of a module, the wear of its array, and when the power is cut in all
pub record Kind : Type 0 where
  pub shape : RawShape
  pub seed : ℕ
  pub wear : Option Wear
  pub cuts : List ℕ

module _ {n m e : ℕ} where
  abbrev pub kind_of : ModuleState n m e → ArrayState n m → List ℕ → Kind
  kind_of module_ array cuts = record { shape = module_.shape; seed = module_.seed; wear = array.wear; cuts = cuts }

  -- by the rows that came, and the cuts that have yet to come
  abbrev pub kind_at : ModuleState n m e → ArrayState n m → List (Heard n) → Cuts → Kind
  kind_at module_ array heard cuts = kind_of module_ array (all_cuts module_.tick heard cuts)

  -- of a disk's lines
  abbrev pub kind_on : {S : Type 0} → (S → ArrayState n m) → OnModule n m e S → Kind
  kind_on state lines = kind_of lines.module_ (state lines.array) lines.cuts

module _ {n : ℕ} where
  -- the writes that were made
  abbrev pub writes_of : List (Put n) → List Write
  writes_of puts = map write_of puts

module _ {n m e : ℕ} where
  -- each line of the disk has the newest bytes that rows gave its place, and these are what stands behind the writes that were made
  abbrev pub StandsByRows : ModuleState n m e → List (Heard n) → List (Put n) → Type 0
  StandsByRows module_ heard puts =
      (line : ℕ) → line < total_of module_.shape → stand n (writes_of puts) line ≡ newest (rows_heard heard) (place_of module_.shape module_.seed line)

  -- what is true of each: lines are laid out, places are those of its module, the module was handed what was heard of, and its lines stand by these rows
  pub record IsOnModule (places : Placing) (module_ : ModuleState n m e) (array : ArrayState n m) (heard : List (Heard n)) (puts : List (Put n)) : Type 0 where
    pub layout : IsLayout n m e
    pub in_range : IsShape module_.shape
    pub shape : places.shape ≡ module_.shape
    pub seed : places.seed ≡ module_.seed
    pub has : HasHeard module_ array heard
    pub stands : StandsByRows module_ heard puts
