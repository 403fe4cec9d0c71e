-- What is saved of a bank is in range, and has the registers and the table of its end.
use Rattle.std.proofs.Common.{◌≡◌, ℕ, ◌+◌, ◌*◌, ◌^◌, ◌<◌, ◌≤◌, ◌&&◌, Bool, true, false, nat_le, List, [], ◌∷◌, length, get_or, sym, ap, subst, ◌∙◌, arith}
use Rattle.std.{specs.Int.is_power_of_two, specs.Prelude.{All, map, if◌then◌else◌}, proofs.Math.ListN.get_or-map, proofs.lemmas.Bool.{and_from, le-leb}}
use Rattle.std.proofs.{lemmas.List.length-map, lemmas.List.Elements.{All-nil, All-cons, All-from_get_or}}
use Rattle.feistel_map.specs.Log2.{log2}
use Rattle.masked_bytes.specs.{Entries.AllMasked, declared.entry.Entry.Entry}
use Rattle.start_gap.specs.Rotation.{StandsFor}
use Rattle.spare_pool.specs.Table.{line_by, line_from}
use Rattle.bank_shape.specs.{Shape.slots_of, declared.BankShape.BankShape, declared.Home.Home}
use Rattle.bank_shape.specs.declared.Home.TheVariants as home
use Rattle.power_recovery.specs.Kept.{KeptState, IsKept, AllBelow, region_at, no_region as no_kept}
use Rattle.module_shape.specs.{Addresses.{module_of, bank_shape}, Limits.{IsShape, IsSmall, is_power_between, large_limits, small_limits, total_of}, declared.raw.RawShape.RawShape}
use Rattle.module_shape.specs.declared.raw.SizeLimits.{SizeLimits}
use Rattle.end_laws.specs.EndLaws.{IsEndOf}
use Rattle.right_runs.specs.Ends.{BankEnd}
use Rattle.pcm_image.specs.{Saved.{Head, IsHeadIn, IsSavedBank, IsSavedEntry, IsSavedRegion, lines_in, slots_in}, Standing.{rotation_of, table_of, no_region}}
use Rattle.right_images.specs.Saving.{head_of, home_number, saved_bank, saved_entry, saved_region}
use Rattle.image_laws.proofs.Factors.{first-test, second-test, third-test}

within : (least most n : ℕ) → is_power_of_two n ≡ true → least ≤ n → n ≤ most → is_power_between least most n ≡ true
within least most n power low high =
    and_from (is_power_of_two n) (nat_le least n && nat_le n most) power
    (and_from (nat_le least n) (nat_le n most) (le-leb least n low) (le-leb n most high))

home-low : (h : Home) → home_number h < 2
home-low home.Guarded = omega arith
home-low home.Array = omega arith

-- the sizes are within limits
record Within (most : SizeLimits) (raw : RawShape) : Type 0 where
  few_banks : raw.banks ≤ most.banks
  few_regions : raw.regions ≤ most.regions
  few_lines : raw.lines ≤ most.lines
  few_in_all : total_of raw ≤ most.total

head-within : (most : SizeLimits) (raw : RawShape) (seed : ℕ) → IsShape raw → Within most raw → seed < 2 ^ 64 → IsHeadIn most (head_of raw seed)
head-within most raw seed is few low =
    let power : raw.banks * raw.regions * raw.lines ≡ 2 ^ log2 (total_of raw) = sym is.whole_bits in
    record {
      banks = within 1 most.banks raw.banks (first-test _ raw.banks raw.regions raw.lines power) is.some_banks few.few_banks;
      regions = within 1 most.regions raw.regions (second-test _ raw.banks raw.regions raw.lines power) is.some_regions few.few_regions;
      lines = and_from (is_power_between 4 most.lines raw.lines) (nat_le (raw.banks * raw.regions * raw.lines) most.total)
          (within 4 most.lines raw.lines (third-test _ raw.banks raw.regions raw.lines power) is.some_lines few.few_lines)
          (le-leb (raw.banks * raw.regions * raw.lines) most.total few.few_in_all);
      spares = is.few_spares;
      seed = low;
      home = home-low raw.home;
    }

pub head-right : (raw : RawShape) (seed : ℕ) → IsShape raw → IsSmall raw → seed < 2 ^ 64 → IsHeadIn small_limits (head_of raw seed)
head-right raw seed is small low =
    head-within small_limits raw seed is
    (record { few_banks = small.few_banks; few_regions = small.few_regions; few_lines = small.few_lines; few_in_all = small.few_in_all }) low

pub head-large : (raw : RawShape) (seed : ℕ) → IsShape raw → seed < 2 ^ 64 → IsHeadIn large_limits (head_of raw seed)
head-large raw seed is low =
    head-within large_limits raw seed is
    (record { few_banks = is.few_banks; few_regions = is.few_regions; few_lines = is.few_lines; few_in_all = is.few_in_all }) low

entries-right : {n : ℕ} (h : Head) (es : List (Entry n)) (lines : ℕ) → lines ≡ lines_in h → AllMasked es → AllBelow es lines → All (IsSavedEntry h) (map saved_entry es)
entries-right h [] lines same masked below = All-nil (IsSavedEntry h)
entries-right h (e ∷ es) lines same masked below =
    All-cons (IsSavedEntry h) (saved_entry e) (map saved_entry es) (record { line = rw (← same) below.0; masked = masked.0 })
    (entries-right h es lines same masked.1 below.1)

mark-low : (mark : Bool) → (if mark then 1 else 0) < 2
mark-low true = omega arith
mark-low false = omega arith

module _ {n : ℕ} (raw : RawShape) (seed bank : ℕ) (kept : KeptState n) (is : IsKept kept) (shape : kept.shape ≡ bank_shape (module_of raw) bank) where
  lines-same : kept.shape.lines ≡ raw.lines
  lines-same = ap (λ (s : BankShape). s.lines) shape

  regions-same : kept.shape.regions ≡ raw.regions
  regions-same = ap (λ (s : BankShape). s.regions) shape

  slots-same : kept.table.slots ≡ raw.regions * (raw.lines + 1)
  slots-same = is.slots ∙ ap slots_of shape

  region-right : (region : ℕ) → region < length (map saved_region kept.regions)
      → IsSavedRegion (head_of raw seed) (get_or (map saved_region kept.regions) region no_region)
  region-right region lt =
      let some : region < kept.shape.regions = omega (arith, lt, length-map kept.regions saved_region, is.all_regions) in
      let of = is.regions region some in
      let lines : (region_at kept region).rotation.lines ≡ raw.lines = of.rotates ∙ lines-same in
      let at = get_or-map saved_region kept.regions region no_kept in
      subst (λ r. IsSavedRegion (head_of raw seed) r) (sym at)
      (record {
        start = omega (arith, of.in_range.rotates.start_below, lines);
        gap = omega (arith, of.in_range.rotates.gap_within, lines);
        counter = omega (arith, of.in_range.counted, of.in_range.few_writes);
      })

  pub bank-right : IsSavedBank (head_of raw seed) (saved_bank kept)
  bank-right = record {
    mark = mark-low kept.exhausted;
    used = omega (arith, is.table.within, is.spares, ap (λ (s : BankShape). s.spares) shape);
    slots = All-from_get_or (λ slot. slot < slots_in (head_of raw seed)) kept.table.replaced 0 (λ i lt. rw (← slots-same) (is.table.known i lt));
    one_each = length-map kept.regions saved_region ∙ is.all_regions ∙ regions-same;
    regions = All-from_get_or (IsSavedRegion (head_of raw seed)) (map saved_region kept.regions) no_region region-right;
    few = omega (arith, length-map kept.entries saved_entry, is.few_entries, is.shape.few_writes);
    entries = entries-right (head_of raw seed) kept.entries _ (ap (λ (s : BankShape). s.regions * s.lines) shape) is.masked is.known;
  }

  -- its registers, by its end
  pub registers-saved : (end : BankEnd) → IsEndOf kept end → (region : ℕ) → region < raw.regions
      → StandsFor (rotation_of (head_of raw seed) (get_or (map saved_region kept.regions) region no_region)) (end.moves region)
  registers-saved end ends region lt =
      let some : region < kept.shape.regions = omega (arith, lt, regions-same) in
      let lines : (region_at kept region).rotation.lines ≡ raw.lines = (is.regions region some).rotates ∙ lines-same in
      let same = ap (λ r. rotation_of (head_of raw seed) r) (get_or-map saved_region kept.regions region no_kept)
      ∙ ap (λ (l : ℕ). record { lines = l; start = (region_at kept region).rotation.start; gap = (region_at kept region).rotation.gap }) (sym lines) in
      subst (λ q. StandsFor q (end.moves region)) (sym same) (ends.moves region some)

  -- and its table
  pub slots-saved : (end : BankEnd) → IsEndOf kept end → (slot : ℕ) → slot < slots_of (bank_shape (module_of raw) bank)
      → (bank_shape (module_of raw) bank).base + line_by (table_of (head_of raw seed) (saved_bank kept)) slot ≡ end.table slot
  slots-saved end ends slot lt =
      let some : slot < slots_of kept.shape = subst (λ (k : ℕ). slot < k) (sym (ap slots_of shape)) lt in
      let base : (bank_shape (module_of raw) bank).base ≡ kept.shape.base = sym (ap (λ (s : BankShape). s.base) shape) in
      ap (λ b. b + line_from (raw.regions * (raw.lines + 1)) slot kept.table.replaced slot) base
      ∙ ap (λ k. kept.shape.base + line_from k slot kept.table.replaced slot) (sym slots-same) ∙ sym (ends.table slot some)
