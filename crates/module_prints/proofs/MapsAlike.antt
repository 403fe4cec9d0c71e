-- Where every region made as many moves and no slot has a spare, lines stand as `map` tells it.
use Rattle.std.proofs.Common.{◌≡◌, ℕ, zero, suc, ◌+◌, ◌*◌, ◌/◌, ◌%◌, ◌<◌, ◌≤◌, List, ◌++◌, refl, sym, ap, ap₂, ◌∙◌, subst, arith, add-mul, mod-lt, mul_assoc, mul_comm}
use Rattle.std.proofs.lemmas.Nat.{div-add-mod', div-mul-add, mod-mul-add, mul-add-lt}
use Rattle.start_gap.specs.Rotation.{place_after}
use Rattle.bank_shape.specs.Shape.{slot_at, slots_of}
use Rattle.rotation_reports.specs.{MapText.{map_header, map_row, standing_row}, Rows.rows_from}
use Rattle.module_shape.specs.{Addresses.{module_of, bank_shape, array_lines_of}, Limits.{IsShape, total_of}, declared.raw.RawShape.RawShape}
use Rattle.right_runs.specs.{Banks.{bank_of_line, line_in_bank, mixed_line}, Ends.BankEnd}
use Rattle.run_laws.proofs.Mixing.{lines_law}
use Rattle.module_prints.specs.StandingMap.{MapLaw, options_at, standing_line}

-- ---- the address of a line

-- sums of products, each product a number of its own
regrouped : (a b c d e f n : ℕ) → b ≡ a → c ≡ b + d → c ≡ e → e + f ≡ n → a + (d + f) ≡ n
regrouped a b c d e f n turned spread high whole = omega arith

-- a number in rows of R times L: its place in its row
place-in : (R L N : ℕ) → 1 ≤ R → 1 ≤ L → N % (R * L) ≡ (N / L % R) * L + N % L
place-in R L N some each =
    let q : ℕ = N / L in
    let own : ℕ = q % R * L + N % L in
    let high : (q / R * R + q % R) * L ≡ q * L = ap (λ (k : ℕ). k * L) (div-add-mod' q R) in
    let low : N % L < L = mod-lt N (omega (arith, each)) in
    let inside : own < L * R = mul-add-lt (q % R) L (N % L) R (mod-lt q (omega (arith, some))) low in
    let within : own < R * L = subst (λ (k : ℕ). own < k) (mul_comm L R) inside in
    let sum : q / R * (R * L) + own ≡ N =
    regrouped (q / R * (R * L)) (q / R * R * L) ((q / R * R + q % R) * L) (q % R * L) (q * L) (N % L) N (mul_assoc (q / R) R L) (add-mul (q / R * R) (q % R) L) high (div-add-mod' N L) in
    ap (λ (k : ℕ). k % (R * L)) (sym sum) ∙ mod-mul-add (q / R) (R * L) own within

region-same : (R L N : ℕ) → 1 ≤ R → 1 ≤ L → N % (R * L) / L ≡ N / L % R
region-same R L N some each = ap (λ (k : ℕ). k / L) (place-in R L N some each) ∙ div-mul-add (N / L % R) L (N % L) (mod-lt N (omega (arith, each)))

offset-same : (R L N : ℕ) → 1 ≤ R → 1 ≤ L → N % (R * L) % L ≡ N % L
offset-same R L N some each = ap (λ (k : ℕ). k % L) (place-in R L N some each) ∙ mod-mul-add (N / L % R) L (N % L) (mod-lt N (omega (arith, each)))

-- ---- its row

-- the row of a line at this address
abbrev row_at : (line bank region offset place array : ℕ) → List ℕ
row_at line bank region offset place array = standing_row line (record { bank = bank; region = region; offset = offset }) place array

module _ (raw : RawShape) (seed moves : ℕ) (ends : ℕ → BankEnd) (is : IsShape raw)
    (moved : (bank region : ℕ) → bank < raw.banks → region < raw.regions → (ends bank).moves region ≡ moves)
    (own : (bank slot : ℕ) → bank < raw.banks → slot < slots_of (bank_shape (module_of raw) bank) → (ends bank).table slot ≡ (bank_shape (module_of raw) bank).base + slot) where
  -- of a line of this bank, region and offset
  by-address : (line bank region offset region2 offset2 : ℕ) → bank < raw.banks → region < raw.regions → region ≡ region2 → offset ≡ offset2
      → row_at line bank region offset (place_after raw.lines offset ((ends bank).moves region)) ((ends bank).table (slot_at (bank_shape (module_of raw) bank) region (place_after raw.lines offset ((ends bank).moves region))))
      ≡ row_at line bank region2 offset2 (place_after raw.lines offset2 moves) (bank * array_lines_of (module_of raw) + (region2 * (raw.lines + 1) + place_after raw.lines offset2 moves))
  by-address line bank region offset region2 offset2 exists within same alike =
      let place : ℕ = place_after raw.lines offset moves in
      let turned : place < raw.lines + 1 = mod-lt (offset + (moves + offset) / raw.lines) (omega arith) in
      let slot : region * (raw.lines + 1) + place < raw.regions * (raw.lines + 1) =
      subst (λ (k : ℕ). region * (raw.lines + 1) + place < k) (mul_comm (raw.lines + 1) raw.regions) (mul-add-lt region (raw.lines + 1) place raw.regions within turned) in
      ap (λ (m : ℕ). row_at line bank region offset (place_after raw.lines offset m) ((ends bank).table (slot_at (bank_shape (module_of raw) bank) region (place_after raw.lines offset m)))) (moved bank region exists within)
      ∙ ap (λ (a : ℕ). row_at line bank region offset place a) (own bank (region * (raw.lines + 1) + place) exists slot)
      ∙ ap (λ (r : ℕ). row_at line bank r offset place (bank * array_lines_of (module_of raw) + (r * (raw.lines + 1) + place))) same
      ∙ ap (λ (o : ℕ). row_at line bank region2 o (place_after raw.lines o moves) (bank * array_lines_of (module_of raw) + (region2 * (raw.lines + 1) + place_after raw.lines o moves))) alike

  line-alike : (line : ℕ) → line < total_of raw → standing_line raw seed ends line ≡ map_row (options_at raw seed moves) line
  line-alike line below =
      let N : ℕ = mixed_line raw seed line in
      let some : 1 ≤ raw.lines = omega (arith, is.some_lines) in
      let exists : bank_of_line raw seed line < raw.banks = (lines_law raw seed is).exists line below in
      let region : N % (raw.regions * raw.lines) / raw.lines ≡ N / raw.lines % raw.regions = region-same raw.regions raw.lines N is.some_regions some in
      let within : N / raw.lines % raw.regions < raw.regions = mod-lt (N / raw.lines) (omega (arith, is.some_regions)) in
      by-address line (bank_of_line raw seed line) (line_in_bank raw seed line / raw.lines) (line_in_bank raw seed line % raw.lines) (N / raw.lines % raw.regions) (N % raw.lines) exists
      (subst (λ (r : ℕ). r < raw.regions) (sym region) within) region (offset-same raw.regions raw.lines N is.some_regions some)

-- rows that are the same line by line
rows-alike : (row other : ℕ → List ℕ) (count : ℕ) → ((i : ℕ) → i < count → row i ≡ other i) → rows_from row 0 count ≡ rows_from other 0 count
rows-alike row other zero same = refl
rows-alike row other (suc count) same =
    let before : rows_from row 0 count ≡ rows_from other 0 count = rows-alike row other count (λ i below. same i (omega (arith, below))) in
    let here : row (0 + count) ≡ other (0 + count) = same (0 + count) (omega arith) in
    ap₂ (λ (xs ys : List ℕ). xs ++ ys) before here

pub map_law : MapLaw
map_law raw seed moves ends is moved own =
    ap (λ (xs : List ℕ). map_header ++ xs) (rows-alike (standing_line raw seed ends) (map_row (options_at raw seed moves)) (total_of raw) (line-alike raw seed moves ends is moved own))
