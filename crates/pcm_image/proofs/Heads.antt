-- What the tests of a head say of its numbers.
use Rattle.std.proofs.Common.{◌≡◌, ℕ, ◌+◌, ◌*◌, ◌^◌, ◌<◌, ◌≤◌, Bool, true, false, cond, eqb, nat_le, sym, ap, ◌∙◌, arith}
use Rattle.std.{specs.Int.is_power_of_two, proofs.Math.Nat.{mul_comm, mul-add}, proofs.lemmas.Bool.and_from, proofs.lemmas.Bool.Decides.nat_tests, proofs.lemmas.Nat.mul-le}
use Rattle.masked_bytes.proofs.Truth.{and_first, and_second}
use Rattle.feistel_map.{specs.Log2.log2, proofs.Powers.log2-between}
use Rattle.module_shape.specs.{Limits.{is_between, is_power_between, large_limits, most_array_lines, small_limits}, declared.raw.SizeLimits.SizeLimits}
use Rattle.module_shape.proofs.{Bounds.{array_lines_few, array_lines_small, bank-few}, Powers.size_of_powers}
use Rattle.pcm_image.specs.{Formats.sizes_of, Saved.{Head, IsHead, IsHeadIn, total_in, slots_in, controls_in, array_lines_in}}
use Rattle.pcm_image.specs.{declared.Format.Format, declared.Format.TheVariants.{Small, Large}}
use Rattle.pcm_image.proofs.Pairs.{limit_of}

le_of : (a b : ℕ) → nat_le a b ≡ true → a ≤ b
le_of a b h = grind (arith, nat_tests)

of_le : (a b : ℕ) → a ≤ b → nat_le a b ≡ true
of_le a b h = grind (arith, nat_tests)

between : (least most n : ℕ) → is_power_between least most n ≡ true → (is_power_of_two n ≡ true) × (least ≤ n) × (n ≤ most)
between least most n h =
    let b = and_second (is_power_of_two n) (is_between least most n) h in
    (and_first (is_power_of_two n) (is_between least most n) h, le_of least n (and_first (nat_le least n) (nat_le n most) b), le_of n most (and_second (nat_le least n) (nat_le n most) b))

-- the numbers of a head, in words of order
pub record HeadFits (most : SizeLimits) (h : Head) : Type 0 where
  pub some_banks : 1 ≤ h.banks
  pub banks : h.banks ≤ most.banks
  pub some_regions : 1 ≤ h.regions
  pub regions : h.regions ≤ most.regions
  pub some_lines : 4 ≤ h.lines
  pub lines : h.lines ≤ most.lines
  pub total : h.banks * h.regions * h.lines ≤ most.total
  pub own : h.regions * h.lines ≤ most.total
  pub power : 2 ^ log2 (total_in h) ≡ total_in h

pub head-fits : (most : SizeLimits) (h : Head) → IsHeadIn most h → HeadFits most h
head-fits most h is =
    let b = between 1 most.banks h.banks is.banks in
    let r = between 1 most.regions h.regions is.regions in
    let l = between 4 most.lines h.lines (and_first (is_power_between 4 most.lines h.lines) (nat_le (h.banks * h.regions * h.lines) most.total) is.lines) in
    let total = le_of (h.banks * h.regions * h.lines) most.total (and_second (is_power_between 4 most.lines h.lines) (nat_le (h.banks * h.regions * h.lines) most.total) is.lines) in
    record {
      some_banks = b.1;
      banks = b.2;
      some_regions = r.1;
      regions = r.2;
      some_lines = l.1;
      lines = l.2;
      total = total;
      own = bank-few h.banks h.regions h.lines most.total b.1 total;
      power = size_of_powers h.banks h.regions h.lines b.0 r.0 l.0;
    }

-- the numbers of a small module are also those of a large one
within : (least most more n : ℕ) → most ≤ more → is_power_between least most n ≡ true → is_power_between least more n ≡ true
within least most more n wider h =
    let b = between least most n h in
    and_from (is_power_of_two n) (is_between least more n) b.0 (and_from (nat_le least n) (nat_le n more) (of_le least n b.1) (of_le n more (omega (arith, b.2, wider))))

small-head : (h : Head) → IsHead h → IsHeadIn large_limits h
small-head h is =
    let fit = head-fits small_limits h is in
    let lines = and_first (is_power_between 4 small_limits.lines h.lines) (nat_le (h.banks * h.regions * h.lines) small_limits.total) is.lines in
    record {
      banks = within 1 small_limits.banks large_limits.banks h.banks (omega arith) is.banks;
      regions = within 1 small_limits.regions large_limits.regions h.regions (omega arith) is.regions;
      lines = and_from (is_power_between 4 large_limits.lines h.lines) (nat_le (h.banks * h.regions * h.lines) large_limits.total)
          (within 4 small_limits.lines large_limits.lines h.lines (omega arith) lines) (of_le (h.banks * h.regions * h.lines) large_limits.total (omega (arith, fit.total)));
      spares = is.spares;
      seed = is.seed;
      home = is.home;
    }

pub large-head : (f : Format) (h : Head) → IsHeadIn (sizes_of f) h → IsHeadIn large_limits h
large-head Small h is = small-head h is
large-head Large h is = is

-- and its number of lines has room in its field
pub lines-fit : (f : Format) (h : Head) → IsHeadIn (sizes_of f) h → h.lines < limit_of f
lines-fit Small h is = omega (arith, (head-fits small_limits h is).lines)
lines-fit Large h is = omega (arith, (head-fits large_limits h is).lines)

controls_few : (none : Bool) (n : ℕ) → cond none 0 n ≤ n
controls_few true n = omega arith
controls_few false n = omega arith

-- the array lines of all banks
pub array_lines-few : (h : Head) → IsHeadIn large_limits h → h.banks * array_lines_in h ≤ most_array_lines
array_lines-few h is =
    let fit = head-fits large_limits h is in
    array_lines_few h.banks h.regions h.lines h.spares (controls_in h) fit.banks fit.regions is.spares fit.total (controls_few (eqb h.home 0) (h.regions + h.spares + 1))

pub array_lines-small : (h : Head) → IsHead h → h.banks * array_lines_in h ≤ 98832
array_lines-small h is =
    let fit = head-fits small_limits h is in
    array_lines_small h.banks h.regions h.lines h.spares (controls_in h) fit.banks fit.regions is.spares fit.total (controls_few (eqb h.home 0) (h.regions + h.spares + 1))

-- the slots of a bank
pub slots-few : (h : Head) → HeadFits large_limits h → slots_in h ≤ 67108928
slots-few h fit =
    let more : h.regions * (h.lines + 1) ≡ h.regions * h.lines + h.regions = omega arith in
    omega (arith, fit.own, fit.regions, more)

-- the logarithm that the code finds
pub is_log : (r n total : ℕ) → 2 ^ r ≤ n → n < 2 * 2 ^ r → n ≡ total → r ≡ log2 total
is_log r n total low high is = sym (log2-between r n low high) ∙ ap log2 is

-- the array line of a bank's line
pub row_below : (bank banks array line : ℕ) → bank < banks → line < array → bank * array + line < banks * array
row_below bank banks array line lt less =
    let more = mul-le (bank + 1) array banks array (omega (arith, lt)) (omega arith) in
    let step : (bank + 1) * array ≡ bank * array + array = mul_comm (bank + 1) array ∙ mul-add array bank 1 ∙ omega (arith, mul_comm array bank) in
    omega (arith, more, step, less)

pub slot_below : (regions n region place : ℕ) → region < regions → place ≤ n → region * (n + 1) + place < regions * (n + 1)
slot_below regions n region place lt le = row_below region regions (n + 1) place lt (omega (arith, le))
