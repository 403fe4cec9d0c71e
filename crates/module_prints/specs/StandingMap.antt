-- Where the lines of a module stand, as `map` tells it, by the ends of its banks.
use Rattle.std.specs.Prelude.{◌≡◌, ℕ, ◌+◌, ◌<◌, List, ◌++◌}
use Rattle.bank_shape.specs.Shape.{slots_of}
use Rattle.rotation_reports.specs.{MapText.{map_header, map_text, standing_row}, Rows.rows_from, declared.line_rows.MapOptions.MapOptions}
use Rattle.module_shape.specs.{Addresses.{bank_shape, module_of}, Limits.{IsShape, total_of}, declared.raw.RawShape.RawShape}
use Rattle.right_runs.specs.Ends.{BankEnd}
use Rattle.pcm_module.specs.Standings.{standing_of}

module _ (raw : RawShape) (seed : ℕ) (ends : ℕ → BankEnd) where
  -- the row of a line
  abbrev pub standing_line : ℕ → List ℕ
  standing_line line = let stands = standing_of raw seed ends line in standing_row line stands.address stands.place stands.array

  -- the rows of all lines
  abbrev pub standing_map : List ℕ
  standing_map = map_header ++ rows_from standing_line 0 (total_of raw)

-- the options of `map` for such a module, every region of which made so many gap moves
abbrev pub options_at : RawShape → ℕ → ℕ → MapOptions
options_at raw seed moves =
    record { banks = raw.banks; regions = raw.regions; lines = raw.lines; spares = raw.spares; seed = seed; moves = moves; home = raw.home }

-- where that is so, and no slot has a spare, lines stand as `map` tells it
abbrev pub MapLaw : Type 0
MapLaw =
    (raw : RawShape) (seed moves : ℕ) (ends : ℕ → BankEnd) → IsShape raw
    → ((bank region : ℕ) → bank < raw.banks → region < raw.regions → (ends bank).moves region ≡ moves)
    → ((bank slot : ℕ) → bank < raw.banks → slot < slots_of (bank_shape (module_of raw) bank)
    → (ends bank).table slot ≡ (bank_shape (module_of raw) bank).base + slot)
    → standing_map raw seed ends ≡ map_text (options_at raw seed moves)
