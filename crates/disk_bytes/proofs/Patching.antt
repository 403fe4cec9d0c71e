-- The lines of a sector with the bytes of a piece.
use Rattle.std.proofs.Common.{◌≡◌, ◌⊎◌, ℕ, ◌+◌, ◌-◌, ◌*◌, ◌<◌, ◌≤◌, ◌&&◌, ltb, leb, if◌then◌else◌, List, get_or, sym, ◌∙◌, ap, arith, inl, inr}
use Rattle.atomic_sectors.specs.declared.layout.Layout.{Layout}
use Rattle.disk_rules.{specs.Pieces.{IsPatched}, specs.Standing.{byte_of, sector_size}, proofs.Pieces.{within, patch_in, patch_beside}}
use Rattle.disk_bytes.specs.{Parts.Patches, declared.pieces.Piece.Piece}

-- where what lies beside a piece is the same, all is
pub beside_same : (from to y b u v : ℕ) → ((y < from) ⊎ (to ≤ y) → u ≡ v) → (if leb from y && ltb y to then b else u) ≡ (if leb from y && ltb y to then b else v)
beside_same from to y b u v same = elim (within from to y) [
  | inl w ↦ patch_in from to y b u w.0 w.1 ∙ sym (patch_in from to y b v w.0 w.1)
  | inr beside ↦ patch_beside from to y b u beside ∙ same beside ∙ sym (patch_beside from to y b v beside)
]

-- by places in the sector, and by offsets on the disk
pub is_patched : (n : ℕ) (layout : Layout) (old : ℕ → List ℕ) (piece : Piece) (at : ℕ) (bytes : List ℕ) (done : ℕ) (room : List (List ℕ))
    → piece.sector * sector_size n layout + piece.begin ≡ at + done → Patches n layout old piece bytes done room
    → IsPatched n layout old piece.sector at bytes (at + done) (at + done + piece.size) room
is_patched n layout old piece at bytes done room lies patched y exists =
    let x = piece.sector * sector_size n layout + y in
    let u = byte_of n layout old x in
    patched y exists ∙ elim (within piece.begin (piece.begin + piece.size) y) [
      | inl w ↦
          let from : at + done ≤ x = omega (arith, lies, w.0) in
          let to : x < at + done + piece.size = omega (arith, lies, w.1) in
          let same : done + (y - piece.begin) ≡ x - at = omega (arith, lies, w.0) in
          patch_in piece.begin (piece.begin + piece.size) y _ u w.0 w.1 ∙ ap (λ i. get_or bytes i 0) same
          ∙ sym (patch_in (at + done) (at + done + piece.size) x _ u from to)
      | inr (inl lower) ↦
          let far : x < at + done = omega (arith, lies, lower) in
          patch_beside piece.begin (piece.begin + piece.size) y _ u (inl lower) ∙ sym (patch_beside (at + done) (at + done + piece.size) x _ u (inl far))
      | inr (inr higher) ↦
          let far : at + done + piece.size ≤ x = omega (arith, lies, higher) in
          patch_beside piece.begin (piece.begin + piece.size) y _ u (inr higher) ∙ sym (patch_beside (at + done) (at + done + piece.size) x _ u (inr far))
    ]
