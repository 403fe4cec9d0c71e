-- Where a line of a module stands, by the ends of its banks.
use Rattle.std.specs.Prelude.{ℕ, ◌/◌, ◌%◌}
use Rattle.start_gap.specs.Rotation.{place_after}
use Rattle.feistel_map.specs.declared.address.Address.{Address}
use Rattle.module_shape.specs.{Addresses.{module_of, bank_shape}, declared.raw.RawShape.RawShape}
use Rattle.right_runs.specs.{Banks.{bank_of_line, line_in_bank}, Ends.{BankEnd, place_by_table}}
use Rattle.pcm_module.specs.declared.map.LinePlace.{LinePlace}

module _ (raw : RawShape) (seed : ℕ) where
  -- the bank of a line, its region there, and its offset in the region
  abbrev pub address_in : ℕ → Address
  address_in line = record {
    bank = bank_of_line raw seed line;
    region = line_in_bank raw seed line / raw.lines;
    offset = line_in_bank raw seed line % raw.lines;
  }

  -- where it stands: its place by the moves of its region, and its array line by the table of its bank
  abbrev pub standing_of : (ℕ → BankEnd) → ℕ → LinePlace
  standing_of ends line =
      let end = ends (bank_of_line raw seed line) in
      record {
        address = address_in line;
        place = place_after raw.lines (address_in line).offset (end.moves (address_in line).region);
        array = place_by_table (bank_shape (module_of raw) (bank_of_line raw seed line)) end.moves end.table (line_in_bank raw seed line);
      }
