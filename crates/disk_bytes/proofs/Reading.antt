-- Bytes that are read sector by sector.
use Rattle.std.proofs.Common.{◌≡◌, ◌⊎◌, ℕ, zero, suc, ◌+◌, ◌-◌, ◌*◌, ◌/◌, ◌%◌, ◌<◌, ◌≤◌, List, [], ◌∷◌, length, get_or, refl, ◌∙◌, ap, subst, arith, inl, inr, min, Result, Ok, Err, OnOk}
use Rattle.std.proofs.lemmas.Bool.{cases_lt}
use Rattle.atomic_sectors.specs.{Lines.{Write, stand}, Sectors.sector_line, declared.layout.Layout.Layout}
use Rattle.disk_rules.specs.{Disk.{Written, bytes_from, byte_at}, Pieces.byte_in, Standing.{HoldsDisk, byte_of, disk_size, sector_size}}
use Rattle.disk_bytes.proofs.Placing.{byte_at_hand, whole, inside}

-- more bytes are read
pub read_more : (was now : List ℕ) (f : ℕ → ℕ) (done size : ℕ) → ((i : ℕ) → i < done → get_or was i 0 ≡ f i)
    → ((i : ℕ) → i < done → get_or now i 0 ≡ get_or was i 0) → ((i : ℕ) → i < size → get_or now (done + i) 0 ≡ f (done + i))
    → (i : ℕ) → i < done + size → get_or now i 0 ≡ f i
read_more was now f done size before kept more i within = elim (cases_lt i done) [
  | inl lower ↦ kept i lower ∙ before i lower
  | inr from ↦
      let is : done + (i - done) ≡ i = omega (arith, from) in
      subst (λ j. get_or now j 0 ≡ f j) is (more (i - done) (omega (arith, from, within)))
]

-- bytes that are those of the disk are those that its writes gave
bytes-are : (writes : List Written) (bytes : List ℕ) (at size : ℕ) → length bytes ≡ size → ((i : ℕ) → i < size → get_or bytes i 0 ≡ byte_at writes (at + i)) → bytes ≡ bytes_from writes at size
bytes-are writes [] at zero long is = refl
bytes-are writes [] at (suc size) long is = absurd (omega (arith, long))
bytes-are writes (b ∷ bytes) at zero long is = absurd (omega (arith, long))
bytes-are writes (b ∷ bytes) at (suc size) long is =
    let first : b ≡ byte_at writes at = is 0 (omega arith) ∙ ap (byte_at writes) (omega arith) in
    let rest : bytes ≡ bytes_from writes (suc at) size =
    bytes-are writes bytes (suc at) size (omega (arith, long)) (λ i within. is (suc i) (omega (arith, within)) ∙ ap (byte_at writes) (omega arith)) in
    ap (λ (x : ℕ). x ∷ bytes) first ∙ ap (λ (xs : List ℕ). byte_at writes at ∷ xs) rest

pub bytes_read : (n : ℕ) (layout : Layout) (stands : ℕ → List ℕ) (bytes : List ℕ) (at size : ℕ) → length bytes ≡ size → at + size ≤ disk_size n layout
    → ((i : ℕ) → i < length bytes → get_or bytes i 0 ≡ byte_of n layout stands (at + i))
    → (writes : List Written) → HoldsDisk n layout stands writes → bytes ≡ bytes_from writes at size
bytes_read n layout stands bytes at size long within is writes held =
    bytes-are writes bytes at size long (λ i below. is i (omega (arith, long, below)) ∙ held.bytes (at + i) (omega (arith, within, below)))

-- where a piece begins
pub lies_at : (n : ℕ) (layout : Layout) (bytes_there : 0 < n) (lines_there : 0 < layout.block) (x sector begin : ℕ) → sector ≡ x / sector_size n layout → begin ≡ x % sector_size n layout
    → sector * sector_size n layout + begin ≡ x
lies_at n layout bytes_there lines_there x sector begin sector_is begin_is =
    ap (λ q. q * sector_size n layout + begin) sector_is ∙ ap (λ r. x / sector_size n layout * sector_size n layout + r) begin_is ∙ whole n layout bytes_there lines_there x

-- and that it ends in its sector
pub ends_there : (n : ℕ) (layout : Layout) (bytes_there : 0 < n) (lines_there : 0 < layout.block) (x begin size left : ℕ) → begin ≡ x % sector_size n layout
    → size ≡ min (sector_size n layout - x % sector_size n layout) left → begin + size ≤ sector_size n layout
ends_there n layout bytes_there lines_there x begin size left begin_is size_is =
    let within = inside n layout bytes_there lines_there x in
    omega (arith, within, begin_is, size_is)

-- the bytes of a piece of which the sector is at hand
pub piece_read : (n : ℕ) (layout its : Layout) (old mid : List Write) (room slice : List (List ℕ)) (x sector begin size left : ℕ)
    → its ≡ layout → 0 < n → 0 < layout.block → mid ≡ old → slice ≡ room
    → sector ≡ x / sector_size n its → begin ≡ x % sector_size n its → size ≡ min (sector_size n its - x % sector_size n its) left
    → ((i : ℕ) → i < its.block → get_or room i [] ≡ sector_line n its (stand n mid) sector i)
    → (i : ℕ) → i < size → byte_in n slice (begin + i) ≡ byte_of n layout (stand n old) (x + i)
piece_read n layout its old mid room slice x sector begin size left layout_is bytes_there lines_there mid_is slice_is sector_is begin_is size_is has i within =
    let S = sector_size n layout in
    let sector_at : sector ≡ x / S = subst (λ (l : Layout). sector ≡ x / sector_size n l) layout_is sector_is in
    let begin_at : begin ≡ x % S = subst (λ (l : Layout). begin ≡ x % sector_size n l) layout_is begin_is in
    let size_at : size ≡ min (S - x % S) left = subst (λ (l : Layout). size ≡ min (sector_size n l - x % sector_size n l) left) layout_is size_is in
    let lines = subst (λ (ws : List Write). (j : ℕ) → j < layout.block → get_or room j [] ≡ sector_line n layout (stand n ws) sector j) mid_is
    (subst (λ (l : Layout). (j : ℕ) → j < l.block → get_or room j [] ≡ sector_line n l (stand n mid) sector j) layout_is has) in
    let lies = lies_at n layout bytes_there lines_there x sector begin sector_at begin_at in
    let ends = ends_there n layout bytes_there lines_there x begin size left begin_at size_at in
    let place : sector * S + (begin + i) ≡ x + i = omega (arith, lies) in
    ap (λ (ls : List (List ℕ)). byte_in n ls (begin + i)) slice_is
    ∙ byte_at_hand n layout bytes_there lines_there (stand n old) sector room lines (begin + i) (omega (arith, ends, within))
    ∙ ap (byte_of n layout (stand n old)) place

-- where a sector is read, what lies beside a piece of it is at hand
pub rest_read : {A F : Type 0} (n : ℕ) (layout : Layout) (stands : ℕ → List ℕ) (room : List (List ℕ)) (sector begin size : ℕ) (result : Result A F) → 0 < n → 0 < layout.block
    → OnOk result ((i : ℕ) → i < layout.block → get_or room i [] ≡ sector_line n layout stands sector i)
    → OnOk result ((y : ℕ) → y < sector_size n layout → (y < begin) ⊎ (begin + size ≤ y) → byte_in n room y ≡ byte_of n layout stands (sector * sector_size n layout + y))
rest_read n layout stands room sector begin size (Err why) bytes_there lines_there has = tt
rest_read n layout stands room sector begin size (Ok done) bytes_there lines_there has = λ y exists beside. byte_at_hand n layout bytes_there lines_there stands sector room has y exists
