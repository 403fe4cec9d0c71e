-- A write of bytes, sector by sector.
use Rattle.std.proofs.Common.{◌≡◌, ℕ, ◌+◌, ◌-◌, ◌*◌, ◌/◌, ◌%◌, ◌<◌, ◌≤◌, ◌&&◌, ltb, leb, if◌then◌else◌, List, ◌∷◌, length, sym, ◌∙◌, ap, arith, inl, inr}
use Rattle.std.proofs.{Math.Nat.mul-mod_left, lemmas.Bool.cases_lt, lemmas.Bool.Decides.nat_tests}
use Rattle.atomic_sectors.specs.{Lines.{Write, stand}, Moments.AtEachMoment, Sectors.{sector_line, with_sector, Have, IsWhole, IsBeforeOrAfter}, declared.layout.Layout.Layout}
use Rattle.atomic_sectors.proofs.Making.{so_too}
use Rattle.disk_rules.specs.{Disk.{Written, IsPart}, Pieces.{PieceLaw}, Standing.{HoldsDisk, sector_size}}
use Rattle.disk_bytes.{specs.Parts.{HasPart, Patches, part, next_part}, specs.declared.pieces.Piece.Piece, proofs.Patching.is_patched, proofs.Placing.{same_bytes, whole}}

-- the end of the next sector
sector_end : (size x : ℕ) → 0 < size → (x / size * size + x % size ≡ x) → x % size < size → (x + (size - x % size)) % size ≡ 0
sector_end size x some is within =
    let end : x + (size - x % size) ≡ (x / size + 1) * size = omega (arith, is, within) in
    ap (λ y. y % size) end ∙ mul-mod_left (x / size + 1) size

-- what is written is a part behind each piece
pub part_next : (size at : ℕ) (bytes : List ℕ) (done : ℕ) → 0 < size → ((at + done) / size * size + (at + done) % size ≡ at + done) → (at + done) % size < size
    → done < length bytes → IsPart size (part at bytes (next_part size at (length bytes) done))
part_next size at bytes done some is within left = elim (cases_lt (size - (at + done) % size) (length bytes - done)) [
  | inl more ↦
      let next : next_part size at (length bytes) done ≡ done + (size - (at + done) % size) = omega (arith, more) in
      let end : (at + (done + (size - (at + done) % size))) % size ≡ 0 = ap (λ y. y % size) (omega arith) ∙ sector_end size (at + done) some is within in
      inr (inl (omega (arith, more), ap (λ d. (at + d) % size) next ∙ end))
  | inr last ↦ inr (inr (omega (arith, last, left)))
]

beside_all : (at x b u : ℕ) → (if leb at x && ltb x (at + 0) then b else u) ≡ u
beside_all at x b u = grind (arith, nat_tests)

-- nothing of it changes no byte
pub none_yet : (n : ℕ) (layout : Layout) (stands : ℕ → List ℕ) (at : ℕ) (bytes : List ℕ) (before : List Written)
    → HoldsDisk n layout stands before → HoldsDisk n layout stands (part at bytes 0 ∷ before)
none_yet n layout stands at bytes before held = record {
  whole = held.whole;
  bytes = λ x exists. held.bytes x exists ∙ sym (beside_all at x _ _);
}

module _ (n : ℕ) (layout : Layout) (bytes_there : 0 < n) (lines_there : 0 < layout.block) (old : List Write) (piece : Piece) (at : ℕ) (bytes : List ℕ) (done : ℕ)
    (room : List (List ℕ)) (before : List Written)
    (lies : piece.sector * sector_size n layout + piece.begin ≡ at + done) (ends : piece.begin + piece.size ≤ sector_size n layout)
    (patched : Patches n layout (stand n old) piece bytes done room) (law : PieceLaw)
    (held : HoldsDisk n layout (stand n old) (part at bytes done ∷ before)) where
  -- behind a piece
  pub piece_made : (new : ℕ → List ℕ) → IsWhole n layout new → Have n layout new (with_sector piece.sector room (sector_line n layout (stand n old)))
      → HoldsDisk n layout new (part at bytes (done + piece.size) ∷ before)
  piece_made new whole have =
      law n layout (stand n old) new piece.sector at bytes done piece.size room before bytes_there lines_there
      (omega (arith, lies)) (omega (arith, lies, ends)) held (is_patched n layout (stand n old) piece at bytes done room lies patched) whole have

  -- before it
  pub piece_not_made : (new : ℕ → List ℕ) → IsWhole n layout new → Have n layout new (sector_line n layout (stand n old))
      → HoldsDisk n layout new (part at bytes done ∷ before)
  piece_not_made new whole have = record {
    whole = whole;
    bytes = λ x exists. same_bytes n layout bytes_there lines_there (stand n old) new have x exists ∙ held.bytes x exists;
  }

  -- at each moment
  pub piece_moments : (new : List Write) → IsPart (sector_size n layout) (part at bytes done) → IsPart (sector_size n layout) (part at bytes (done + piece.size))
      → AtEachMoment (IsBeforeOrAfter n layout piece.sector room old) old new → AtEachMoment (HasPart n layout at bytes before) old new
  piece_moments new now next moments =
      so_too (IsBeforeOrAfter n layout piece.sector room old) (HasPart n layout at bytes before) old new
      (λ writes is. elim is.either [
        | inl not ↦ (done, now, piece_not_made (stand n writes) is.whole not)
        | inr made ↦ (done + piece.size, next, piece_made (stand n writes) is.whole made)
      ]) moments
