-- The bytes of each line, by a saved module alone.
use Rattle.std.specs.Prelude.{ℕ, ◌+◌, ◌*◌, ◌/◌, ◌%◌, List, [], map, slice_index_or}
use Rattle.masked_bytes.specs.{Entries.layer_of, Masked.laid, declared.entry.Entry.Entry}
use Rattle.start_gap.specs.{Rotation.{Rotation, place_by}, Slots.slot_at}
use Rattle.spare_pool.specs.Table.{Table, line_by}
use Rattle.feistel_map.specs.{Log2.log2, Network.{network_of, feistel}}
use Rattle.cell_rows.specs.Rows.{zero_row}
use Rattle.ecp_line.specs.Reading.{decode}
use Rattle.pcm_image.specs.{Saved.{Saved, SavedBank, Head, total_in, lines_in, slots_in, array_lines_in}, declared.EntryImage.EntryImage, declared.RegionImage.RegionImage}

-- the registers of a region, the remap table of a bank, and an entry of its queue, whose row isn't saved
abbrev pub rotation_of : Head → RegionImage → Rotation
rotation_of h r = record { lines = h.lines; start = r.start; gap = r.gap }

abbrev pub table_of : {B : ℕ} → Head → SavedBank B → Table
table_of h b = record { slots = slots_in h; spares = h.spares; replaced = b.replaced }

abbrev pub entry_of : {B : ℕ} → EntryImage B → Entry B
entry_of e = record { row = 0; line = e.line; bytes = e.bytes; given = e.given }

-- stand where no bank and no region is
abbrev pub no_bank : (B : ℕ) → SavedBank B
no_bank B = record { mark = 0; replaced = []; regions = []; entries = [] }

abbrev pub no_region : RegionImage
no_region = record { start = 0; gap = 0; counter = 0 }

-- the slot of a line of a bank, by the registers of its region
abbrev pub slot_of : {B : ℕ} → Head → SavedBank B → ℕ → ℕ
slot_of h b own =
    slot_at h.lines (own / h.lines) (place_by (rotation_of h (slice_index_or b.regions (own / h.lines) no_region)) (own % h.lines))

-- the array line where it stands, behind those of the banks before its own
abbrev pub stands_at : {B : ℕ} → Head → SavedBank B → ℕ → ℕ → ℕ
stands_at h b bank own = bank * array_lines_in h + line_by (table_of h b) (slot_of h b own)

-- the bytes of a line of a bank: those that the queue's entries give, over what its array line is read as
abbrev pub own_bytes : {B M : ℕ} → ℕ → Saved B M → SavedBank B → ℕ → ℕ → List ℕ
own_bytes {B} {M} e s b bank own =
    laid (layer_of (map entry_of b.entries) own).bytes (layer_of (map entry_of b.entries) own).given
    (decode e (slice_index_or s.cells (stands_at s.head b bank own) (zero_row B M)))

-- the number that the randomiser gives a line of the module
abbrev pub mixed_in : Head → ℕ → ℕ
mixed_in h line = feistel (network_of (log2 (total_in h)) h.seed) line

-- the bytes of a line of the module
unfoldable pub stands_for : {B M : ℕ} → ℕ → Saved B M → ℕ → List ℕ
stands_for {B} {M} e s line =
    let bank = mixed_in s.head line / lines_in s.head in
    own_bytes e s (slice_index_or s.parts bank (no_bank B)) bank (mixed_in s.head line % lines_in s.head)
