-- The bytes of a disk behind one more piece of a write.
use Rattle.std.proofs.Common.{◌≡◌, ◌≢◌, ◌⊎◌, ℕ, ◌+◌, ◌-◌, ◌*◌, ◌/◌, ◌%◌, ◌<◌, ◌≤◌, ◌&&◌, ltb, leb, if◌then◌else◌, List, ◌∷◌, get_or, sym, ◌∙◌, ap, subst, arith, inl, inr}
use Rattle.std.proofs.{Math.Nat.mul-pos, lemmas.Bool.{cases_eq, cases_lt, eq-eqb, ne_eqb, cond-true, cond-false}, lemmas.Bool.Decides.nat_tests}
use Rattle.std.proofs.lemmas.Nat.{div-add-mod', mod_below, div-mul-add, div_below}
use Rattle.atomic_sectors.specs.{Sectors.{sector_line, with_sector, Have, IsWhole}, declared.layout.Layout.Layout}
use Rattle.disk_rules.specs.{Disk.{Written, byte_at}, Pieces.{byte_in, IsPatched, PieceLaw}, Standing.{byte_of, sector_size, disk_size, HoldsDisk}}

-- of a byte, by where it lies: among those of the piece, among those that were written before, or beside the write
in_piece : (at done more x b u : ℕ) → at + done ≤ x → x < at + done + more
    → (if leb at x && ltb x (at + (done + more)) then b else u) ≡ b
in_piece at done more x b u from to = grind (arith, nat_tests)

beside : (at done more x b u : ℕ) → (x < at + done) ⊎ (at + done + more ≤ x)
    → (if leb at x && ltb x (at + (done + more)) then b else u) ≡ (if leb at x && ltb x (at + done) then b else u)
beside at done more x b u (inl lower) = grind (arith, nat_tests)
beside at done more x b u (inr higher) = grind (arith, nat_tests)

pub patch_in : (from to x b u : ℕ) → from ≤ x → x < to → (if leb from x && ltb x to then b else u) ≡ b
patch_in from to x b u a c = grind (arith, nat_tests)

pub patch_beside : (from to x b u : ℕ) → (x < from) ⊎ (to ≤ x) → (if leb from x && ltb x to then b else u) ≡ u
patch_beside from to x b u (inl lower) = grind (arith, nat_tests)
patch_beside from to x b u (inr higher) = grind (arith, nat_tests)

-- whether an offset is within bounds
pub within : (from to x : ℕ) → ((from ≤ x) × (x < to)) ⊎ ((x < from) ⊎ (to ≤ x))
within from to x = elim (cases_lt x from) [
  | inl lower ↦ inr (inl lower)
  | inr a ↦ elim (cases_lt x to) [ inl b ↦ inl (a, b) | inr higher ↦ inr (inr higher) ]
]

-- an offset of another sector isn't in this one
apart : (size sector x : ℕ) → 0 < size → x / size ≢ sector → (x < sector * size) ⊎ (sector * size + size ≤ x)
apart size sector x some other = elim (cases_lt x (sector * size)) [
  | inl lower ↦ inl lower
  | inr from ↦ elim (cases_lt x (sector * size + size)) [
    | inl to ↦
        let rest : x ≡ sector * size + (x - sector * size) = omega (arith, from) in
        let small : x - sector * size < size = omega (arith, from, to) in
        absurd (other (ap (λ y. y / size) rest ∙ div-mul-add sector size (x - sector * size) small))
    | inr higher ↦ inr higher
  ]
]

module _ (n : ℕ) (layout : Layout) (old new : ℕ → List ℕ) (sector at : ℕ) (bytes : List ℕ) (done more : ℕ) (lines : List (List ℕ)) (before : List Written)
    (some_bytes : 0 < n) (some_lines : 0 < layout.block)
    (begins : sector * sector_size n layout ≤ at + done) (ends : at + done + more ≤ sector * sector_size n layout + sector_size n layout)
    (held : HoldsDisk n layout old (record { at = at; bytes = bytes; done = done } ∷ before))
    (patched : IsPatched n layout old sector at bytes (at + done) (at + done + more) lines)
    (have : Have n layout new (with_sector sector lines (sector_line n layout old))) where
  abbrev size : ℕ
  size = sector_size n layout

  some : 0 < size
  some = mul-pos some_lines some_bytes

  abbrev was : Written
  was = record { at = at; bytes = bytes; done = done }

  abbrev now : Written
  now = record { at = at; bytes = bytes; done = done + more }

  -- the line of a byte in its sector
  in_sector : (x : ℕ) → x % size / n < layout.block
  in_sector x = div_below (x % size) n layout.block some_bytes (mod_below x size some)

  of_new : (x : ℕ) → x < disk_size n layout → byte_of n layout new x ≡ get_or (with_sector sector lines (sector_line n layout old) (x / size) (x % size / n)) (x % size % n) 0
  of_new x exists = ap (λ (l : List ℕ). get_or l (x % size % n) 0) (have (x / size) (x % size / n) (div_below x size layout.sectors some exists) (in_sector x))

  -- a byte of this sector
  here : (x : ℕ) → x < disk_size n layout → x / size ≡ sector → byte_of n layout new x ≡ byte_at (now ∷ before) x
  here x exists is =
      let whole : sector * size + x % size ≡ x = ap (λ q. q * size + x % size) (sym is) ∙ div-add-mod' x size in
      let own : byte_of n layout new x ≡ byte_in n lines (x % size) =
      of_new x exists ∙ ap (λ (l : List ℕ). get_or l (x % size % n) 0) (cond-true _ _ _ (eq-eqb (x / size) sector is)) in
      let patch = patched (x % size) (mod_below x size some) in
      let there = subst (λ y. byte_in n lines (x % size) ≡ (if leb (at + done) y && ltb y (at + done + more) then get_or bytes (y - at) 0 else byte_of n layout old y)) whole patch in
      elim (within (at + done) (at + done + more) x) [
        | inl w ↦ own ∙ there ∙ patch_in (at + done) (at + done + more) x _ _ w.0 w.1 ∙ sym (in_piece at done more x _ _ w.0 w.1)
        | inr b ↦ own ∙ there ∙ patch_beside (at + done) (at + done + more) x _ _ b ∙ held.bytes x exists ∙ sym (beside at done more x _ _ b)
      ]

  -- a byte of another
  elsewhere : (x : ℕ) → x < disk_size n layout → x / size ≢ sector → byte_of n layout new x ≡ byte_at (now ∷ before) x
  elsewhere x exists other =
      let far : (x < at + done) ⊎ (at + done + more ≤ x) = elim (apart size sector x some other) [ inl lower ↦ inl (omega (arith, lower, begins)) | inr higher ↦ inr (omega (arith, higher, ends)) ] in
      of_new x exists ∙ ap (λ (l : List ℕ). get_or l (x % size % n) 0) (cond-false _ _ _ (ne_eqb (x / size) sector other))
      ∙ held.bytes x exists ∙ sym (beside at done more x _ _ far)

  pub holds : IsWhole n layout new → HoldsDisk n layout new (now ∷ before)
  holds whole = record {
    whole = whole;
    bytes = λ x exists. elim (cases_eq (x / size) sector) [ inl is ↦ here x exists is | inr other ↦ elsewhere x exists other ];
  }

pub piece_law : PieceLaw
piece_law n layout old new sector at bytes done more lines before some_bytes some_lines begins ends held patched whole have =
    holds n layout old new sector at bytes done more lines before some_bytes some_lines begins ends held patched have whole
