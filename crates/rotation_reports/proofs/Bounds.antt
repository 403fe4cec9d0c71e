-- How large the numbers of a row are.
use Rattle.std.proofs.Common.{◌≡◌, ℕ, ◌+◌, ◌*◌, ◌<◌, ◌≤◌, List, [], ◌∷◌, ◌++◌, append_assoc, refl, arith}
use Rattle.std.{specs.Prelude.{codes, decimal}, proofs.lemmas.Nat.mul-le}
use Rattle.pcm_io.specs.Reserved.{Reserved, appended}
use Rattle.start_gap.specs.{Rotation.{place_after, move_after}, Slots.slot_at, declared.Move.Move}
use Rattle.feistel_map.specs.declared.address.Address.{Address}
use Rattle.rotation_reports.specs.{MapText.{map_address, map_row, standing_row, array_lines_of}, MovesText.move_row, Rows.row_of, declared.line_rows.MapOptions.MapOptions}

-- the slots of a bank, those of the regions before, and the array lines of the banks before
pub slots_few : (regions lines : ℕ) → regions ≤ 16 → lines ≤ 4096 → regions * (lines + 1) ≤ 65552
slots_few regions lines p q = mul-le regions (lines + 1) 16 4097 p (omega arith)

pub region_few : (region lines : ℕ) → region < 16 → lines ≤ 4096 → region * (lines + 1) ≤ 61455
region_few region lines p q = mul-le region (lines + 1) 15 4097 (omega arith) (omega arith)

pub bank_few : (bank array_lines : ℕ) → bank < 16 → array_lines ≤ 67617 → bank * array_lines ≤ 1014255
bank_few bank array_lines p q = mul-le bank array_lines 15 67617 (omega arith) q

-- the fields of a row, put behind a text one by one
pub six_fields : (t : Reserved) (a b c d e f : List ℕ) →
    appended (appended (appended (appended (appended (appended t (a ++ codes ",")) (b ++ codes ",")) (c ++ codes ",")) (d ++ codes ","))
    (e ++ codes ",")) (f ++ codes "\n")
    ≡ appended t (row_of (a ∷ b ∷ c ∷ d ∷ e ∷ f ∷ []))
six_fields t a b c d e f = simp append_assoc

pub four_fields : (t : Reserved) (a b c d : List ℕ) →
    appended (appended (appended (appended t (a ++ codes ",")) (b ++ codes ",")) (c ++ codes ",")) (d ++ codes "\n")
    ≡ appended t (row_of (a ∷ b ∷ c ∷ d ∷ []))
four_fields t a b c d = simp append_assoc

-- a row, by the numbers that were computed for it
pub map_row-is : (o : MapOptions) (line : ℕ) (address : Address) (place array : ℕ) → address ≡ map_address o line
    → place ≡ place_after o.lines address.offset o.moves
    → array ≡ address.bank * array_lines_of o + slot_at o.lines address.region place
    → standing_row line address place array ≡ map_row o line
map_row-is o line address place array a p q = rw (q, p, a) refl

pub move_row-is : (n t : ℕ) (move : Move) → move ≡ move_after n t
    → row_of (decimal t ∷ decimal move.line ∷ decimal move.from ∷ decimal move.to ∷ []) ≡ move_row n t
move_row-is n t move m = rw m refl
