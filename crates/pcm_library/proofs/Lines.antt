-- How many lines the array of a session has.
use Rattle.std.proofs.Common.{◌≡◌, ℕ, ◌+◌, ◌*◌, ◌<◌, ◌≤◌, Bool, true, false, List, refl, arith}
use Rattle.std.proofs.lemmas.Nat.{mul-le}
use Rattle.cell_rows.specs.Device.{ArrayState}
use Rattle.module_shape.specs.Addresses.{array_lines_of, module_of}
use Rattle.pcm_module.specs.State.{ModuleState}
use Rattle.row_printer.specs.Printing.{Printing}
use Rattle.trace_stream.specs.declared.asked.Asked.{Asked}
use Rattle.pcm_library.specs.{Keeping.Waiting, Serving.{HasEndedRows, HasServedRows}}

-- it has the lines of its module, finished or not
pub lines-size : {n m e : ℕ} (module_ : ModuleState n m e) (array : ArrayState n m) (kept : Printing n (Waiting n)) (asked : List (Asked n)) (off finished : Bool)
    → (finished ≡ false → HasServedRows module_ array kept asked) → (finished ≡ true → HasEndedRows module_ array kept asked off)
    → array.lines ≡ module_.shape.banks * array_lines_of (module_of module_.shape)
lines-size module_ array kept asked off false serving ended = (serving refl).served.replays.size
lines-size module_ array kept asked off true serving ended = (ended refl).right.size

-- a line of one of so many banks is one of all
pub in-all : (bank banks each at lines : ℕ) → bank < banks → at < bank * each + each → lines ≡ banks * each → at < lines
in-all bank banks each at lines exists within is =
    let all : (bank + 1) * each ≤ banks * each = mul-le (bank + 1) each banks each (omega (arith, exists)) (omega arith) in
    omega (arith, all, within, is)
