-- How many sectors fit.
use Rattle.std.proofs.Common.{◌≡◌, ◌≢◌, ℕ, ◌+◌, ◌-◌, ◌*◌, ◌/◌, ◌%◌, ◌^◌, ◌<◌, ◌≤◌, inl, inr, min, sym, ap, subst, ◌∙◌, arith}
use Rattle.std.proofs.{Math.Nat.{mul-le-mul_right, div-mul-le_self, min-le_left, min-le_right, le-min}, lemmas.Bool.cases_lt}
use Rattle.std.proofs.lemmas.Nat.{div-add-mod', div-mul-add, mod_below, le-div}
use Rattle.atomic_sectors.specs.Sectors.{Fits}
use Rattle.disk_words.specs.Layouts.{fitting}

-- so many full lines of the map, and so many words of one more
module _ (words block room : ℕ) (some : 0 < words) where
  abbrev full : ℕ
  full = room / (words * block + 1)

  abbrev over : ℕ
  over = room % (words * block + 1)

  abbrev more : ℕ
  more = min (over / block) (words - 1)

  below : more < words
  below = let least : more ≤ words - 1 = min-le_right _ _ in omega (arith, some, least)

  all : full * (words * block + 1) + over ≡ room
  all = div-add-mod' room (words * block + 1)

  -- the map's lines are those that are full
  pub lines-full : fitting words block room / words ≡ full
  lines-full = div-mul-add full words more below

  taken : (q w b r : ℕ) → (q * w + r) * b + q ≡ q * (w * b + 1) + r * b
  taken q w b r = grind arith

  pub within : fitting words block room * block + full ≤ room
  within =
      let few : more * block ≤ over / block * block = mul-le-mul_right block (min-le_left _ _) in
      let left : over / block * block ≤ over = div-mul-le_self over block in
      let sum : fitting words block room * block + full ≡ full * (words * block + 1) + more * block = taken full words block more in
      omega (arith, few, left, sum, all)

  -- a number of sectors that has room isn't above it
  pub most-fit : 0 < block → (sectors : ℕ) → sectors * block + sectors / words ≤ room → sectors ≤ fitting words block room
  most-fit wide sectors fits =
      let own : sectors / words * words + sectors % words ≡ sectors = div-add-mod' sectors words in
      let sum : (sectors / words * words + sectors % words) * block + sectors / words ≡ sectors / words * (words * block + 1) + sectors % words * block =
      taken (sectors / words) words block (sectors % words) in
      let same : (sectors / words * words + sectors % words) * block ≡ sectors * block = ap (λ (k : ℕ). k * block) own in
      let rest : sectors % words < words = mod_below sectors words some in
      let quotient : sectors / words ≤ full = le-div (sectors / words) room (words * block + 1) (omega arith) (omega (arith, sum, same, fits)) in
      elim (cases_lt (sectors / words) full) [
        | inl fewer ↦
            let step : (sectors / words + 1) * words ≤ full * words = mul-le-mul_right words (omega (arith, fewer)) in
            let next : (sectors / words + 1) * words ≡ sectors / words * words + words = grind arith in
            omega (arith, own, rest, step, next)
        | inr not_fewer ↦
            let equal : sectors / words ≡ full = omega (arith, quotient, not_fewer) in
            let lines : sectors / words * (words * block + 1) ≡ full * (words * block + 1) = ap (λ (k : ℕ). k * (words * block + 1)) equal in
            let left : sectors % words * block ≤ over = omega (arith, sum, same, fits, all, lines) in
            let one : sectors % words ≤ over / block = le-div (sectors % words) over block wide left in
            let both : sectors % words ≤ more = le-min one (omega (arith, rest)) in
            let begins : sectors / words * words ≡ full * words = ap (λ (k : ℕ). k * words) equal in
            omega (arith, own, begins, both)
      ]

next-block : (sectors block : ℕ) → (sectors + 1) * block ≡ sectors * block + block
next-block sectors block = grind arith

-- so it is of lines of n bytes
pub fits-by : (n bytes block lines sectors : ℕ) → bytes ≡ n → 64 ≤ bytes → bytes ≤ 128 → block ≢ 0 → 2 * block < lines → lines ≤ 2 ^ 26
    → sectors ≡ fitting (bytes / 4) block (lines - block - 1) → Fits n (record { block = block; sectors = sectors }) lines
fits-by n bytes block lines sectors same least most some room few is =
    let word : 1 ≤ bytes / 4 = le-div 1 bytes 4 (omega arith) (omega (arith, least)) in
    let had : sectors * block + (lines - block - 1) / (bytes / 4 * block + 1) ≤ lines - block - 1 =
    subst (λ (s : ℕ). s * block + (lines - block - 1) / (bytes / 4 * block + 1) ≤ lines - block - 1) (sym is) (within (bytes / 4) block (lines - block - 1) word) in
    let map_lines : sectors / (bytes / 4) ≡ (lines - block - 1) / (bytes / 4 * block + 1) =
    ap (λ (s : ℕ). s / (bytes / 4)) is ∙ lines-full (bytes / 4) block (lines - block - 1) word in
    let all : (sectors + 1) * block ≡ sectors * block + block = next-block sectors block in
    subst (λ (m : ℕ). Fits m (record { block = block; sectors = sectors }) lines) same (record {
      words = omega (arith, least);
      short = most;
      some = omega (arith, some);
      room = omega (arith, had, map_lines, all, room);
      few = few;
    })

pub most-by : (n bytes block lines sectors : ℕ) → bytes ≡ n → 64 ≤ bytes → block ≢ 0 → sectors ≡ fitting (bytes / 4) block (lines - block - 1)
    → (more : ℕ) → Fits n (record { block = block; sectors = more }) lines → more ≤ sectors
most-by n bytes block lines sectors same least some is more fits =
    let word : 1 ≤ bytes / 4 = le-div 1 bytes 4 (omega arith) (omega (arith, least)) in
    let own : Fits bytes (record { block = block; sectors = more }) lines = subst (λ (m : ℕ). Fits m (record { block = block; sectors = more }) lines) (sym same) fits in
    let all : (more + 1) * block ≡ more * block + block = next-block more block in
    let room : (more + 1) * block + more / (bytes / 4) < lines = own.room in
    let below : more ≤ fitting (bytes / 4) block (lines - block - 1) =
    most-fit (bytes / 4) block (lines - block - 1) word (omega (arith, some)) more (omega (arith, room, all)) in
    subst (λ (s : ℕ). more ≤ s) (sym is) below
