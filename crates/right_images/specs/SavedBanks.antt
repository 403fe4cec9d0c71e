-- What the image of a right run says of a bank, by the bank's rows.
use Rattle.std.specs.{List.list_any, Prelude.{ℕ, slice_index_or, ◌≡◌, ◌≢◌, ◌+◌, ◌*◌, ◌<◌, Bool, IsTrue, List, length, map, true, ◌==◌, IsFalse, ◌&&◌, ◌||◌, ◌⊎◌, not}}
use Rattle.pcm_image.specs.{Saved.{SavedBank, Head}, Standing.{no_region, rotation_of, table_of}, declared.RegionImage.RegionImage}
use Rattle.start_gap.specs.Rotation.{StandsFor}
use Rattle.spare_pool.specs.Table.{line_by}
use Rattle.row_rules.specs.{Answers.{is_stored, is_queued}, Rows.asks_write, Wearing.worn_row, declared.Row.Row}
use Rattle.bank_shape.specs.{Shape.{slots_of, controls_from, controls_of}, declared.BankShape.BankShape}
use Rattle.right_runs.specs.{Ends.BankEnd, Places.region_stores, Queued.{entries_by, queued_writes}, Roles.used_spares, WornLines.{worn_among, is_worn_out}}
use Rattle.right_images.specs.Queued.{entry_image}

-- the saved registers of a region
abbrev pub region_in : {n : ℕ} → SavedBank n → ℕ → RegionImage
region_in b region = slice_index_or b.regions region no_region

-- a saved bank's registers stand for the moves of its regions, and their counters have the stores since; its remap list gives its table,
-- and has as many spares as that uses. Each of its slots' lines and used spares that no slot has any more is worn
pub record SavesEnd {n : ℕ} (head : Head) (shape : BankShape) (worn : ℕ → Bool) (rows : List (Row n)) (end : BankEnd) (b : SavedBank n) : Type 0 where
  pub registers : (region : ℕ) → region < shape.regions → StandsFor (rotation_of head (region_in b region)) (end.moves region)
  pub counters : (region : ℕ) → region < shape.regions
      → (region_in b region).counter + shape.psi * end.moves region ≡ region_stores is_stored shape region rows
  pub slots : (slot : ℕ) → slot < slots_of shape → shape.base + line_by (table_of head b) slot ≡ end.table slot
  pub used : length b.replaced ≡ used_spares shape end.table
  pub retired : (line : ℕ) → line < slots_of shape + length b.replaced → ((slot : ℕ) → slot < slots_of shape → end.table slot ≢ shape.base + line)
      → IsTrue (worn (shape.base + line))

-- whether a gap move is due: the counter of a region stands at psi
abbrev pub is_due : {n : ℕ} → ℕ → SavedBank n → Bool
is_due psi b = list_any (λ region. region.counter == psi) b.regions

-- a saved bank has the entries of its end's queue. Where the bank is marked and no gap move is due, a store of the first of them was begun
pub record SavesQueue {n : ℕ} (psi : ℕ) (rows : List (Row n)) (end : BankEnd) (b : SavedBank n) : Type 0 where
  pub entries : b.entries ≡ map entry_image end.queue
  pub marked : b.mark ≡ 1 → IsFalse (is_due psi b) → end.queue ≡ entries_by true (queued_writes rows)

-- a write that is queued in the end
abbrev pub queued_row : {n : ℕ} → Row n → Bool
queued_row r = asks_write r.asks && is_queued r.outcome

-- whether something is left to do: a write is queued, or a gap move is due
abbrev pub has_work : {n : ℕ} → ℕ → List (Row n) → SavedBank n → Bool
has_work psi rows b = list_any queued_row rows || is_due psi b

-- a saved bank is marked where a write of it was refused as worn, and only where something is left to do, no spare is free, and more of
-- its lines are worn than it has spares. Where something is left to do and the power isn't off, it is marked or has a worn control line
pub record SavesMarkTo {n : ℕ} (off : Bool) (shape : BankShape) (worn : ℕ → Bool) (rows : List (Row n)) (b : SavedBank n) : Type 0 where
  pub refused : IsTrue (list_any worn_row rows) → b.mark ≡ 1
  pub left : b.mark ≡ 1 → IsTrue (has_work shape.psi rows b)
  pub works : IsTrue (not off && has_work shape.psi rows b) → (b.mark ≡ 1) ⊎ (0 < worn_among worn (controls_from shape) (controls_of shape))
  pub full : b.mark ≡ 1 → length b.replaced ≡ shape.spares
  pub worn_out : b.mark ≡ 1 → IsTrue (is_worn_out shape worn)
