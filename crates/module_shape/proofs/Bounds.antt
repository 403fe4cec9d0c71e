-- What sizes within the limits are like.
use Rattle.std.proofs.Common.{◌≡◌, ℕ, ◌+◌, ◌*◌, ◌^◌, ◌<◌, ◌≤◌, Bool, true, false, nat_le, List, [], ◌∷◌, None, refl, ap, ◌∙◌, arith}
use Rattle.std.{specs.Int.is_power_of_two, proofs.Math.Nat.{mul_assoc, mul_comm, mul-add}, proofs.lemmas.Bool.and_parts, proofs.lemmas.Bool.Decides.nat_tests}
use Rattle.std.proofs.lemmas.Nat.{mul-le}
use Rattle.module_shape.specs.Addresses.{module_of, lines_of}
use Rattle.module_shape.specs.Limits.{is_between, total_of, limits, first_broken, large_limits, small_limits, most_array_lines, shape_fault, IsShape, IsSmall}
use Rattle.module_shape.{specs.declared.raw.Field.Field, specs.declared.raw.RawShape.RawShape, specs.declared.raw.SizeLimits.SizeLimits, proofs.Powers.size_of_powers}
use Rattle.feistel_map.specs.Log2.{log2}

between : (least most n : ℕ) → is_between least most n ≡ true → (least ≤ n) × (n ≤ most)
between least most n h =
    let parts = and_parts (nat_le least n) (nat_le n most) h in
    (grind (arith, nat_tests, parts.0), grind (arith, nat_tests, parts.1))

at_most : (most n : ℕ) → nat_le n most ≡ true → n ≤ most
at_most most n h = grind (arith, nat_tests)

-- every limit is kept
abbrev AllKept : List (Field × Bool) → Type 0
AllKept [] = Unit {0}
AllKept (limit ∷ rest) = (limit.1 ≡ true) × AllKept rest

-- where none is broken, each is kept
kept_first : (field : Field) (keeps : Bool) (rest : List (Field × Bool)) → first_broken ((field, keeps) ∷ rest) ≡ None → (keeps ≡ true) × (first_broken rest ≡ None)
kept_first field true rest h = (refl, h)
kept_first field false rest h = absurd (cc h)

all_kept : (limits : List (Field × Bool)) → first_broken limits ≡ None → AllKept limits
all_kept [] h = tt
all_kept (limit ∷ rest) h =
    let first = kept_first limit.0 limit.1 rest h in
    (first.0, all_kept rest first.1)

-- sizes with which nothing is wrong are within the limits
pub record AreWithin (most : SizeLimits) (raw : RawShape) : Type 0 where
  pub banks : (1 ≤ raw.banks) × (raw.banks ≤ most.banks)
  pub regions : (1 ≤ raw.regions) × (raw.regions ≤ most.regions)
  pub lines : (4 ≤ raw.lines) × (raw.lines ≤ most.lines)
  pub total : total_of raw ≤ most.total
  pub whole_bits : 2 ^ log2 (total_of raw) ≡ total_of raw
  pub spares : raw.spares ≤ 1024
  pub writes : (1 ≤ raw.writes) × (raw.writes ≤ 256)
  pub reads : (1 ≤ raw.reads) × (raw.reads ≤ 256)
  pub psi : (1 ≤ raw.psi) × (raw.psi ≤ 65535)
  pub read_ticks : (1 ≤ raw.read_ticks) × (raw.read_ticks ≤ 255)
  pub iter_ticks : (1 ≤ raw.iter_ticks) × (raw.iter_ticks ≤ 255)

pub within_limits : (most : SizeLimits) (raw : RawShape) → shape_fault most raw ≡ None → AreWithin most raw
unfolding shape_fault
within_limits most raw h =
    let banks = all_kept (limits most raw) h in
    let regions = banks.1 in
    let lines = regions.1 in
    let total = lines.1 in
    let spares = total.1 in
    let writes = spares.1 in
    let reads = writes.1 in
    let psi = reads.1 in
    let read_ticks = psi.1 in
    let iter_ticks = read_ticks.1 in
    let some_banks = and_parts (is_power_of_two raw.banks) (is_between 1 most.banks raw.banks) banks.0 in
    let some_regions = and_parts (is_power_of_two raw.regions) (is_between 1 most.regions raw.regions) regions.0 in
    let some_lines = and_parts (is_power_of_two raw.lines) (is_between 4 most.lines raw.lines) lines.0 in
    record {
      banks = between 1 most.banks raw.banks some_banks.1;
      regions = between 1 most.regions raw.regions some_regions.1;
      lines = between 4 most.lines raw.lines some_lines.1;
      total = at_most most.total (total_of raw) total.0;
      whole_bits = size_of_powers raw.banks raw.regions raw.lines some_banks.0 some_regions.0 some_lines.0;
      spares = at_most 1024 raw.spares spares.0;
      writes = between 1 256 raw.writes writes.0;
      reads = between 1 256 raw.reads reads.0;
      psi = between 1 65535 raw.psi psi.0;
      read_ticks = between 1 255 raw.read_ticks read_ticks.0;
      iter_ticks = between 1 255 raw.iter_ticks iter_ticks.0;
    }

-- limits that are within those of a large module
shape-of : (most : SizeLimits) (raw : RawShape) → most.banks ≤ large_limits.banks → most.regions ≤ large_limits.regions → most.lines ≤ large_limits.lines → most.total ≤ large_limits.total → AreWithin most raw → IsShape raw
shape-of most raw banks regions lines total is = record {
  some_banks = is.banks.0;
  few_banks = omega (arith, is.banks.1, banks);
  some_regions = is.regions.0;
  few_regions = omega (arith, is.regions.1, regions);
  some_lines = is.lines.0;
  few_lines = omega (arith, is.lines.1, lines);
  few_in_all = omega (arith, is.total, total);
  whole_bits = is.whole_bits;
  few_spares = is.spares;
  some_writes = is.writes.0;
  few_writes = is.writes.1;
  some_reads = is.reads.0;
  few_reads = is.reads.1;
  some_psi = is.psi.0;
  few_psi = is.psi.1;
  some_read_ticks = is.read_ticks.0;
  few_read_ticks = is.read_ticks.1;
  some_iter_ticks = is.iter_ticks.0;
  few_iter_ticks = is.iter_ticks.1;
}

pub large-shape : (raw : RawShape) → shape_fault large_limits raw ≡ None → IsShape raw
large-shape raw h = shape-of large_limits raw (omega arith) (omega arith) (omega arith) (omega arith) (within_limits large_limits raw h)

pub small-shape : (raw : RawShape) → shape_fault small_limits raw ≡ None → IsShape raw
small-shape raw h = shape-of small_limits raw (omega arith) (omega arith) (omega arith) (omega arith) (within_limits small_limits raw h)

pub is-small : (raw : RawShape) → shape_fault small_limits raw ≡ None → IsSmall raw
is-small raw h =
    let is = within_limits small_limits raw h in
    record { few_banks = is.banks.1; few_regions = is.regions.1; few_lines = is.lines.1; few_in_all = is.total }

-- one bank has no more lines than all
pub bank-few : (banks regions lines most : ℕ) → 1 ≤ banks → banks * regions * lines ≤ most → regions * lines ≤ most
bank-few banks regions lines most some few =
    omega (arith, mul-le 1 (regions * lines) banks (regions * lines) some (let same : regions * lines ≤ regions * lines = omega arith in same), mul_assoc banks regions lines)

-- the array lines of all banks
slots_few : (banks regions lines spares gaps behind total : ℕ) → banks * regions ≤ gaps → banks * spares ≤ behind → banks * regions * lines ≤ total
    → banks * (regions * (lines + 1) + spares) ≤ total + gaps + behind
slots_few banks regions lines spares gaps behind total some rest few =
    let slots = mul-add regions lines 1 in
    let all = mul-add banks (regions * (lines + 1)) spares in
    let in_slots : banks * (regions * (lines + 1)) ≡ banks * (regions * lines) + banks * (regions * 1)
    = ap (λ n. banks * n) slots ∙ mul-add banks (regions * lines) (regions * 1) in
    let places : banks * (regions * 1) ≡ banks * regions = ap (λ n. banks * n) (omega arith) in
    omega (arith, mul_assoc banks regions lines)

pub array_lines_few : (banks regions lines spares controls : ℕ) → banks ≤ 64 → regions ≤ 64 → spares ≤ 1024 → banks * regions * lines ≤ large_limits.total
    → controls ≤ regions + spares + 1 → banks * (regions * (lines + 1) + spares + controls) ≤ most_array_lines
array_lines_few banks regions lines spares controls few also low total most =
    let behind = mul-le banks controls 64 1089 few (omega arith) in
    let slots = slots_few banks regions lines spares 4096 65536 large_limits.total (mul-le banks regions 64 64 few also) (mul-le banks spares 64 1024 few low) total in
    omega (arith, behind, slots, mul-add banks (regions * (lines + 1) + spares) controls)

pub array_lines_small : (banks regions lines spares controls : ℕ) → banks ≤ 16 → regions ≤ 16 → spares ≤ 1024 → banks * regions * lines ≤ 65536
    → controls ≤ regions + spares + 1 → banks * (regions * (lines + 1) + spares + controls) ≤ 98832
array_lines_small banks regions lines spares controls few also low total most =
    let behind = mul-le banks controls 16 1041 few (omega arith) in
    let slots = slots_few banks regions lines spares 256 16384 65536 (mul-le banks regions 16 16 few also) (mul-le banks spares 16 1024 few low) total in
    omega (arith, behind, slots, mul-add banks (regions * (lines + 1) + spares) controls)

-- the array lines of a bank end before those of the next bank begin
pub banks_apart : (bank next array_lines : ℕ) → bank < next → bank * array_lines + array_lines ≤ next * array_lines
banks_apart bank next array_lines before =
    omega (arith, mul-le (bank + 1) array_lines next array_lines (omega arith) (omega arith), mul_add_one bank array_lines)
  where
    mul_add_one : (a b : ℕ) → (a + 1) * b ≡ a * b + b
    mul_add_one a b = mul_comm (a + 1) b ∙ mul-add b a 1 ∙ omega (arith, mul_comm b a)

-- the lines of a module are those of its banks
pub total-is : (raw : RawShape) → total_of raw ≡ raw.banks * lines_of (module_of raw)
total-is raw = mul_assoc raw.banks raw.regions raw.lines

-- a module has at least four lines
pub lines_some : (banks regions lines : ℕ) → 1 ≤ banks → 1 ≤ regions → 4 ≤ lines → 4 ≤ banks * regions * lines
lines_some banks regions lines p q r = mul-le 1 4 (banks * regions) lines (mul-le 1 1 banks regions p q) r
