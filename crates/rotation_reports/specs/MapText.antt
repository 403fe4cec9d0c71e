-- The text of `map`: where each line of a module stands once every region made so many gap moves.
use Rattle.std.specs.Prelude.{◌≡◌, ℕ, ◌+◌, ◌*◌, ◌^◌, ◌≤◌, List, [], ◌∷◌, ◌++◌, codes, decimal}
use Rattle.start_gap.specs.{Rotation.{Rotation, StandsFor, place_after}, Slots.{slots_of, slot_at}}
use Rattle.bank_shape.specs.Shape.{if_array}
use Rattle.feistel_map.specs.{Addresses.address_of, Log2.log2, Network.{Network, network_of, feistel}, declared.address.Address.Address}
use Rattle.rotation_reports.specs.{Rows.{row_of, rows_from}, declared.line_rows.MapOptions.MapOptions}

abbrev pub map_header : List ℕ
map_header = codes "line,bank,region,offset,place,array\n"

-- how many lines the module has, and how many array lines a bank, with those that keep its registers
abbrev pub lines_of : MapOptions → ℕ
lines_of o = o.banks * o.regions * o.lines

abbrev pub array_lines_of : MapOptions → ℕ
array_lines_of o = slots_of o.regions o.lines + o.spares + if_array o.home (o.regions + o.spares + 1)

-- the options are in range, and there are a power of two of lines
pub record IsMapOptions (o : MapOptions) : Type 0 where
  pub some_banks : 1 ≤ o.banks
  pub few_banks : o.banks ≤ 16
  pub some_regions : 1 ≤ o.regions
  pub few_regions : o.regions ≤ 16
  pub some_lines : 4 ≤ o.lines
  pub few_lines : o.lines ≤ 4096
  pub few_spares : o.spares ≤ 1024
  pub few_in_all : lines_of o ≤ 65536
  pub power_of_two : 2 ^ log2 (lines_of o) ≡ lines_of o

-- the network that mixes the lines
abbrev pub map_network : MapOptions → Network
map_network o = network_of (log2 (lines_of o)) o.seed

-- where a line stands: its address, its place in the region, and its array line
abbrev pub map_address : MapOptions → ℕ → Address
map_address o line = address_of o.regions o.lines (feistel (map_network o) line)

abbrev pub map_place : MapOptions → ℕ → ℕ
map_place o line = place_after o.lines (map_address o line).offset o.moves

abbrev pub map_array : MapOptions → ℕ → ℕ
map_array o line =
    (map_address o line).bank * array_lines_of o + slot_at o.lines (map_address o line).region (map_place o line)

-- the row of a line: its number, its address, its place in the region, and its array line
abbrev pub standing_row : ℕ → Address → ℕ → ℕ → List ℕ
standing_row line address place array = row_of
    (decimal line ∷ decimal address.bank ∷ decimal address.region ∷ decimal address.offset ∷ decimal place ∷ decimal array ∷ [])

-- the same, by the options
abbrev pub map_row : MapOptions → ℕ → List ℕ
map_row o line = standing_row line (map_address o line) (map_place o line) (map_array o line)

-- the rows of all lines
abbrev pub map_text : MapOptions → List ℕ
map_text o = map_header ++ rows_from (map_row o) 0 (lines_of o)

-- the network and the registers are those of the options
pub record IsMap (o : MapOptions) (network : Network) (registers : Rotation) : Type 0 where
  pub options : IsMapOptions o
  pub mixes : network ≡ map_network o
  pub rotates : registers.lines ≡ o.lines
  pub stands : StandsFor registers o.moves
