-- The fields of the counts of energy, and their report: a header, a row for each bank, and one for all.
use Rattle.std.specs.{List.join_with_byte, Prelude.{ℕ, zero, suc, ◌*◌, List, [], ◌∷◌, ◌++◌, codes, decimal, Option, None, Some}}
use Rattle.cell_rows.specs.declared.array.LineEnergy.{LineEnergy}
use Rattle.energy_report.specs.Sums.{energy_of}

-- how often was sensed, and how many cells were driven to 1 and to 0, with commas between; three empty fields where nothing is told
abbrev pub energy_text : Option LineEnergy → List ℕ
energy_text None = codes ",,"
energy_text (Some energy) = join_with_byte 44 (decimal energy.senses ∷ decimal energy.set ∷ decimal energy.reset ∷ [])

-- the first line of the report
abbrev pub energy_header : List ℕ
energy_header = codes "bank,senses,set,reset\n"

-- a row: what it stands for, and the counts, with LF at the end
abbrev pub energy_row : List ℕ → Option LineEnergy → List ℕ
energy_row name energy = name ++ codes "," ++ energy_text energy ++ codes "\n"

-- the rows of so many banks, which have so many lines each
unfoldable pub bank_rows : (ℕ → Option LineEnergy) → ℕ → ℕ → List ℕ
bank_rows energy lines zero = []
bank_rows energy lines (suc bank) = bank_rows energy lines bank ++ energy_row (decimal bank) (energy_of energy (bank * lines) lines)

-- the row of all lines
abbrev pub all_row : Option LineEnergy → List ℕ
all_row energy = energy_row (codes "all") energy

-- the whole report, of what is told of each line of banks that have so many lines each
abbrev pub energy_report : (ℕ → Option LineEnergy) → ℕ → ℕ → List ℕ
energy_report energy banks lines = energy_header ++ bank_rows energy lines banks ++ all_row (energy_of energy 0 (banks * lines))
