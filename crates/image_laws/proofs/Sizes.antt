-- The image of a module within the limits is short.
use Rattle.std.proofs.Common.{◌≡◌, ℕ, ◌+◌, ◌*◌, ◌/◌, ◌≤◌, ◌<◌, List, [], ◌∷◌, ◌++◌, length, refl, ap, arith, length-append}
use Rattle.std.{specs.List.{flat_map, AllByRecursion}, proofs.lemmas.List.Concat.flat_map-cons, proofs.lemmas.Nat.mul-le}
use Rattle.ecp_line.proofs.Bytes.{length-bytes_from}
use Rattle.pcm_image.specs.Saved.{Head, IsHead, IsSavedBank, IsSavedEntry, IsSavedRegion, IsSavedRow, SavedBank, slots_in}
use Rattle.pcm_image.specs.{Spelling.{bank_bytes, cells_bytes, entry_bytes, head_bytes, image_bytes, packed, region_bytes, u16, u32, u8}, declared.EntryImage.EntryImage}
use Rattle.pcm_image.{specs.declared.RegionImage.RegionImage, proofs.Heads.{HeadFits, array_lines-small, head-fits}, proofs.Fronts.all_to}
use Rattle.module_shape.specs.Limits.{small_limits}
use Rattle.cell_rows.specs.declared.row.Cells.{Cells}
use Rattle.image_laws.specs.Sizes.{ShortImageLaw}

-- texts of few bytes each
few-bytes : {X : Type 0} (P : X → Type 0) (text : X → List ℕ) (most : ℕ) → ((x : X) → P x → length (text x) ≤ most) → (xs : List X) → AllByRecursion P xs → length (flat_map text xs) ≤ length xs * most
few-bytes P text most few [] all = omega arith
few-bytes P text most few (x ∷ xs) all =
    let one : length (text x) ≤ most = few x all.0 in
    let rest : length (flat_map text xs) ≤ length xs * most = few-bytes P text most few xs all.1 in
    let joined : length (flat_map text (x ∷ xs)) ≡ length (text x ++ flat_map text xs) = ap length (flat_map-cons text x xs) in
    let both : length (text x ++ flat_map text xs) ≡ length (text x) + length (flat_map text xs) = length-append (text x) (flat_map text xs) in
    let times : (length xs + 1) * most ≡ length xs * most + most = grind arith in
    omega (arith, one, rest, joined, both, times)

-- so are those that are told to be so of each
few-of : {X : Type 0} (P : X → Type 0) (text : X → List ℕ) (most count : ℕ) → ((x : X) → P x → length (text x) ≤ most) → (xs : List X) → AllByRecursion P xs → length xs ≤ count
    → length (flat_map text xs) ≤ count * most
few-of P text most count few xs all size =
    let k : length (flat_map text xs) ≤ length xs * most = few-bytes P text most few xs all in
    let more : length xs * most ≤ count * most = mul-le (length xs) most count most size (omega arith) in
    omega (arith, k, more)

module _ {n : ℕ} (small : n ≤ 128) (h : Head) where
  entry-few : (e : EntryImage n) → IsSavedEntry h e → length (entry_bytes e) ≤ 148
  entry-few e is =
      let mask : length (packed n e.given) ≡ n / 8 = length-bytes_from _ 0 (n / 8) in
      let parts : length (e.bytes ++ packed n e.given) ≡ length e.bytes + length (packed n e.given) = length-append e.bytes (packed n e.given) in
      let whole : length (entry_bytes e) ≡ 4 + length (e.bytes ++ packed n e.given) = length-append (u32 e.line) (e.bytes ++ packed n e.given) in
      let bytes : length e.bytes ≡ n = is.masked.bytes_len in
      omega (arith, small, mask, parts, whole, bytes)

  region-few : (r : RegionImage) → IsSavedRegion h r → length (region_bytes r) ≤ 6
  region-few r is = omega arith

  slot-few : (slot : ℕ) → slot < slots_in h → length (u32 slot) ≤ 4
  slot-few slot is = omega arith

  bank-few : IsHead h → HeadFits small_limits h → (b : SavedBank n) → IsSavedBank h b → length (bank_bytes b) ≤ 42085
  bank-few head fit b is =
      let used : length b.replaced ≤ 1024 = omega (arith, is.used, head.spares) in
      let regions : length b.regions ≤ 16 = omega (arith, is.one_each, fit.regions) in
      let s2 : length (flat_map u32 b.replaced) ≤ 1024 * 4 = few-of (λ slot. slot < slots_in h) u32 4 1024 slot-few b.replaced (all_to (λ slot. slot < slots_in h) b.replaced is.slots) used in
      let s3 : length (flat_map region_bytes b.regions) ≤ 16 * 6 = few-of (IsSavedRegion h) region_bytes 6 16 region-few b.regions (all_to (IsSavedRegion h) b.regions is.regions) regions in
      let s5 : length (flat_map entry_bytes b.entries) ≤ 256 * 148 = few-of (IsSavedEntry h) entry_bytes 148 256 entry-few b.entries (all_to (IsSavedEntry h) b.entries is.entries) is.few in
      let w5 = flat_map entry_bytes b.entries in
      let w4 = u16 (length b.entries) ++ w5 in
      let w3 = flat_map region_bytes b.regions ++ w4 in
      let w2 = flat_map u32 b.replaced ++ w3 in
      let l4 : length w4 ≡ 2 + length w5 = length-append (u16 (length b.entries)) w5 in
      let l3 : length w3 ≡ length (flat_map region_bytes b.regions) + length w4 = length-append (flat_map region_bytes b.regions) w4 in
      let l2 : length w2 ≡ length (flat_map u32 b.replaced) + length w3 = length-append (flat_map u32 b.replaced) w3 in
      let l1 : length (u16 (length b.replaced) ++ w2) ≡ 2 + length w2 = length-append (u16 (length b.replaced)) w2 in
      let l0 : length (bank_bytes b) ≡ 1 + length (u16 (length b.replaced) ++ w2) = length-append (u8 b.mark) (u16 (length b.replaced) ++ w2) in
      omega (arith, s2, s3, s5, l4, l3, l2, l1, l0)

row-few : {n m : ℕ} → n ≤ 128 → m ≤ 16 → (row : Cells n m) → IsSavedRow n m row → length (cells_bytes row) ≤ 144
row-few {n} {m} small checks row is =
    let parts : length (cells_bytes row) ≡ length row.bits + length row.meta = length-append row.bits row.meta in
    omega (arith, small, checks, parts, is.bits, is.meta)

pub short_image_law : ShortImageLaw
unfolding image_bytes
short_image_law n m s small checks is =
    let h = s.head in
    let fit = head-fits small_limits h is.head in
    let parts = flat_map bank_bytes s.parts in
    let cells = flat_map cells_bytes s.cells in
    let banks : length s.parts ≤ 16 = omega (arith, is.one_each, fit.banks) in
    let lines : length s.cells ≤ 98832 = omega (arith, is.all_lines, array_lines-small h is.head) in
    let p : length parts ≤ 16 * 42085 = few-of (IsSavedBank h) bank_bytes 42085 16 (bank-few small h is.head fit) s.parts (all_to (IsSavedBank h) s.parts is.parts) banks in
    let q : length cells ≤ 98832 * 144 = few-of (IsSavedRow n m) cells_bytes 144 98832 (row-few small checks) s.cells (all_to (IsSavedRow n m) s.cells is.rows) lines in
    let head : length (head_bytes n h) ≡ 24 = refl in
    let l1 : length (parts ++ cells) ≡ length parts + length cells = length-append parts cells in
    let l0 : length (head_bytes n h ++ (parts ++ cells)) ≡ length (head_bytes n h) + length (parts ++ cells) = length-append (head_bytes n h) (parts ++ cells) in
    omega (arith, p, q, head, l1, l0)
