-- What a reader of fields answers, against the definition.
use Rattle.std.specs.Prelude.{◌≡◌, Result, Ok, Err}
use Rattle.pcm_image.specs.{Reading.Cursor, Saved.Head, declared.ImageFault.ImageFault, declared.fields.Fields.Fields, declared.fields.HeadImage.HeadImage}
use Rattle.pcm_image.specs.declared.fields.ReadImage.{ReadImage}
use Rattle.pcm_image.specs.declared.fields.ReadImage.TheVariants as read

abbrev pub cursor : Fields → Cursor
cursor f = record { at = f.at; left = f.left.now }

abbrev pub head_view : HeadImage → Head
head_view h = record { banks = h.banks; regions = h.regions; lines = h.lines; spares = h.spares; seed = h.seed; home = h.home }

-- want of memory is free
abbrev pub Fails : {Y : Type 0} → ReadImage → Result Y ImageFault → Type 0
Fails read.NoMemory is = Unit {0}
Fails (read.Bad f) is = is ≡ Err f

abbrev pub Gives : {X Y : Type 0} → (X → Y) → Result X ReadImage → Result Y ImageFault → Type 0
Gives view (Ok x) is = is ≡ Ok (view x)
Gives view (Err e) is = Fails e is
