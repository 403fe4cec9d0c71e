-- Where the bytes of a sector are, in its lines and on the disk.
use Rattle.std.proofs.Common.{◌≡◌, ℕ, ◌+◌, ◌*◌, ◌/◌, ◌%◌, ◌<◌, List, [], get_or, sym, ◌∙◌, ap}
use Rattle.std.proofs.{Math.Nat.mul-pos, lemmas.Nat.{div-add-mod', mod_below, div-mul-add, mod-mul-add, div_below}}
use Rattle.atomic_sectors.specs.{Sectors.{sector_line, Have}, declared.layout.Layout.Layout}
use Rattle.disk_rules.specs.{Pieces.byte_in, Standing.{byte_of, sector_size, disk_size}}

module _ (n : ℕ) (layout : Layout) (bytes : 0 < n) (lines : 0 < layout.block) where
  abbrev size : ℕ
  size = sector_size n layout

  pub some : 0 < size
  some = mul-pos lines bytes

  -- the line of a byte in its sector
  pub in_sector : (y : ℕ) → y < size → y / n < layout.block
  in_sector y within = div_below y n layout.block bytes within

  -- a byte of a sector
  pub byte_of_sector : (stands : ℕ → List ℕ) (s y : ℕ) → y < size → byte_of n layout stands (s * size + y) ≡ get_or (sector_line n layout stands s (y / n)) (y % n) 0
  byte_of_sector stands s y within =
      ap (λ q. get_or (sector_line n layout stands q ((s * size + y) % size / n)) ((s * size + y) % size % n) 0) (div-mul-add s size y within)
      ∙ ap (λ r. get_or (sector_line n layout stands s (r / n)) (r % n) 0) (mod-mul-add s size y within)

  -- and where its lines are at hand
  pub byte_at_hand : (stands : ℕ → List ℕ) (s : ℕ) (room : List (List ℕ)) → ((i : ℕ) → i < layout.block → get_or room i [] ≡ sector_line n layout stands s i)
      → (y : ℕ) → y < size → byte_in n room y ≡ byte_of n layout stands (s * size + y)
  byte_at_hand stands s room has y within =
      ap (λ (line : List ℕ). get_or line (y % n) 0) (has (y / n) (in_sector y within)) ∙ sym (byte_of_sector stands s y within)

  -- where sectors have the same lines, the disk has the same bytes
  pub same_bytes : (one other : ℕ → List ℕ) → Have n layout other (sector_line n layout one) → (x : ℕ) → x < disk_size n layout → byte_of n layout other x ≡ byte_of n layout one x
  same_bytes one other have x exists =
      ap (λ (line : List ℕ). get_or line (x % size % n) 0)
      (have (x / size) (x % size / n) (div_below x size layout.sectors some exists) (in_sector (x % size) (mod_below x size some)))

  -- an offset is in its sector
  pub whole : (x : ℕ) → x / size * size + x % size ≡ x
  whole x = div-add-mod' x size

  pub inside : (x : ℕ) → x % size < size
  inside x = mod_below x size some

  -- the sector of an offset on the disk is there
  pub sector_there : (x : ℕ) → x < disk_size n layout → x / size < layout.sectors
  sector_there x exists = div_below x size layout.sectors some exists
