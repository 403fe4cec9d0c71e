-- Every event leaves a bundle in range.
use Rattle.std.proofs.Common.{◌≡◌, ◌≢◌, ℕ, ◌+◌, ◌/◌, ◌<◌, ◌≤◌, ◌==◌, inl, inr, Bool, true, false, cond, nat_lt, List, [], ◌∷◌, ◌++◌, zero, suc, length, get_or, drop, replicate, slice_get, slice_set, Option, Some, None, refl, sym, subst, ap, ◌∙◌, arith, length-append, eq-eqb, eqb-true, get_or-set_other}
use Rattle.std.{specs.List.position_from, proofs.lemmas.Bool.{cases_eq, ltb-true}, proofs.lemmas.Grind.get_or-set_at, proofs.lemmas.Iterator.Adapters.position_from-zero}
use Rattle.std.proofs.{lemmas.List.{length-set, length-replicate, get_or-replicate}, lemmas.List.Quantifiers.position-Some}
use Rattle.masked_bytes.specs.{Entries.{AllMasked, merged_at, completed, candidate_index, head_line}, Masked.IsMasked, declared.entry.Entry.Entry}
use Rattle.masked_bytes.proofs.{Queueing.length-merged_at, Standing.{AllMasked-append, AllMasked-merged_at, AllMasked-completed}}
use Rattle.start_gap.proofs.Places.{advanced-range}
use Rattle.region_regs.specs.Region.{RegionState, first_region, after_store, after_move}
use Rattle.spare_pool.{specs.Table.used_by, proofs.Lines.IsTable-retired}
use Rattle.protected_queue.specs.Queue.{accepted_by}
use Rattle.bank_shape.specs.{Kinds.{is_store, is_copy}, Shape.{slots_of, IsBankShape}, declared.BankShape.BankShape, declared.Work.TheVariants.Nothing}
use Rattle.power_recovery.specs.Events.{first_kept, with_entries, with_regions, accepted_kept, completed_kept, stored_kept, regions_moved, moved_kept, retired_kept, exhausted_kept}
use Rattle.power_recovery.specs.{Kept.{KeptState, no_region, AllBelow, IsRegionOf, region_at, due_region, next_work, due_work, IsKept}, Slots.bank_lines}
use Rattle.power_recovery.proofs.Placing.{region-exists}

-- Entries

module _ {n : ℕ} where
  AllBelow-append : (es : List (Entry n)) (e : Entry n) (lines : ℕ) → AllBelow es lines → e.line < lines → AllBelow (es ++ e ∷ []) lines
  AllBelow-append [] e lines h k = (k, tt)
  AllBelow-append (f ∷ es) e lines h k = (h.0, AllBelow-append es e lines h.1 k)

  AllBelow-merged_at : (es : List (Entry n)) (i row : ℕ) (bytes : List ℕ) (given : List Bool) (lines : ℕ) → AllBelow es lines → AllBelow (merged_at i row bytes given es) lines
  AllBelow-merged_at [] i row bytes given lines h = tt
  AllBelow-merged_at (e ∷ es) zero row bytes given lines h = h
  AllBelow-merged_at (e ∷ es) (suc i) row bytes given lines h = (h.0, AllBelow-merged_at es i row bytes given lines h.1)

  AllBelow-completed : (es : List (Entry n)) (below : List ℕ) (lines : ℕ) → AllBelow es lines → AllBelow (completed below es) lines
  AllBelow-completed es below lines h = grind arith

  AllBelow-drop : (es : List (Entry n)) (lines : ℕ) → AllBelow es lines → AllBelow (drop 1 es) lines
  AllBelow-drop es lines h = grind arith

  AllMasked-drop : (es : List (Entry n)) → AllMasked es → AllMasked (drop 1 es)
  AllMasked-drop es h = grind arith

  length-drop_one : (es : List (Entry n)) → length (drop 1 es) ≤ length es
  length-drop_one es = grind arith

  -- what is true of the entries of a bundle
  record AreEntries (cap lines : ℕ) (es : List (Entry n)) : Type 0 where
    few : length es ≤ cap
    masked : AllMasked es
    known : AllBelow es lines

  AreEntries-accepted_by : (cap lines : ℕ) (p : Option ℕ) (room : Bool) (e : Entry n) (es : List (Entry n)) → (room ≡ true → length es < cap)
      → IsMasked n e.bytes e.given → e.line < lines → AreEntries cap lines es → AreEntries cap lines (accepted_by p room e es)
  AreEntries-accepted_by cap lines (Some index) room e es left m k all = record {
    few = omega (arith, length-merged_at es index e.row e.bytes e.given, all.few);
    masked = AllMasked-merged_at es index e.row e.bytes e.given all.masked m;
    known = AllBelow-merged_at es index e.row e.bytes e.given lines all.known;
  }
  AreEntries-accepted_by cap lines None true e es left m k all = record {
    few = omega (arith, length-append es (e ∷ []), left refl);
    masked = AllMasked-append es e all.masked m;
    known = AllBelow-append es e lines all.known k;
  }
  AreEntries-accepted_by cap lines None false e es left m k all = all

  AreEntries-kept : (kept : KeptState n) → IsKept kept → AreEntries kept.shape.writes (bank_lines kept.shape) kept.entries
  AreEntries-kept kept range = record { few = range.few_entries; masked = range.masked; known = range.known }

  with_entries-kept : (kept : KeptState n) (es : List (Entry n)) → IsKept kept → AreEntries kept.shape.writes (bank_lines kept.shape) es → IsKept (with_entries kept es)
  with_entries-kept kept es range all = record {
    some_bytes = range.some_bytes;
    few_bytes = range.few_bytes;
    shape = range.shape;
    few_entries = all.few;
    masked = all.masked;
    known = all.known;
    table = range.table;
    slots = range.slots;
    spares = range.spares;
    all_regions = range.all_regions;
    regions = range.regions;
    one_due = range.one_due;
    all_used = range.all_used;
  }

  pub IsKept-accepted : (kept : KeptState n) (busy : Bool) (e : Entry n) → IsKept kept → IsMasked n e.bytes e.given → e.line < bank_lines kept.shape
      → IsKept (accepted_kept busy e kept)
  IsKept-accepted kept busy e range m k =
      with_entries-kept kept _ range
      (AreEntries-accepted_by kept.shape.writes (bank_lines kept.shape) (candidate_index busy kept.entries e.line) (nat_lt (length kept.entries) kept.shape.writes) e kept.entries
      (ltb-true (length kept.entries) kept.shape.writes) m k (AreEntries-kept kept range))

  pub IsKept-completed : (kept : KeptState n) (below : List ℕ) → IsKept kept → length below ≡ n → IsKept (completed_kept below kept)
  IsKept-completed kept below range h =
      with_entries-kept kept _ range (record {
        few = few kept.entries range.few_entries;
        masked = AllMasked-completed kept.entries below range.some_bytes h range.masked;
        known = AllBelow-completed kept.entries below (bank_lines kept.shape) range.known;
      })
    where
      few : (es : List (Entry n)) → length es ≤ kept.shape.writes → length (completed below es) ≤ kept.shape.writes
      few es p = grind arith

-- Regions

-- no region passes a test that finds none
none_from : (p : RegionState → Bool) (i : ℕ) (rs : List RegionState) → position_from p i rs ≡ None → (k : ℕ) → k < length rs → p (get_or rs k no_region) ≡ false
none_from p i [] h k below = grind arith
none_from p i (r ∷ rs) h k below = by (p r) k refl h (none_from p (i + 1) rs) below
  where
    by : (b : Bool) (k : ℕ) → p r ≡ b → cond b (Some i) (position_from p (i + 1) rs) ≡ None
        → (position_from p (i + 1) rs ≡ None → (j : ℕ) → j < length rs → p (get_or rs j no_region) ≡ false) → k < suc (length rs) → p (get_or (r ∷ rs) k no_region) ≡ false
    by true k e h rest below = cc
    by false zero e h rest below = e
    by false (suc k) e h rest below = rest h k (omega arith)

-- an item that was read is the one at its index
pub read_region : (rs : List RegionState) (i : ℕ) (r : RegionState) → i < length rs → r ≡ get_or rs i r → get_or rs i no_region ≡ r
read_region [] i r h e = grind arith
read_region (x ∷ rs) zero r h e = sym e
read_region (x ∷ rs) (suc i) r h e = read_region rs i r (omega arith) e

-- where no region is due none has counted up to psi
pub none_due : {n : ℕ} (kept : KeptState n) → IsKept kept → due_region kept ≡ None
    → (region : ℕ) → region < kept.shape.regions → (region_at kept region).counter ≢ (region_at kept region).psi
none_due kept range h region below e =
    let from : position_from (λ r. r.counter == r.psi) 0 kept.regions ≡ None = sym (position_from-zero (λ r. r.counter == r.psi) kept.regions) ∙ h in
    let off : ((region_at kept region).counter == (region_at kept region).psi) ≡ false =
    none_from (λ r. r.counter == r.psi) 0 kept.regions from region (omega (arith, range.all_regions)) in
    let on : ((region_at kept region).counter == (region_at kept region).psi) ≡ true = eq-eqb (region_at kept region).counter (region_at kept region).psi e in
    cc

-- the region that is due is one of the bank, and has counted up to psi
pub due_region-Some : {n : ℕ} (kept : KeptState n) (region : ℕ) → IsKept kept → due_region kept ≡ Some region
    → (region < kept.shape.regions) × ((region_at kept region).counter ≡ (region_at kept region).psi)
due_region-Some kept region range h =
    let found = position-Some (λ r. r.counter == r.psi) kept.regions region no_region h in
    (omega (arith, found.0, range.all_regions), eqb-true (region_at kept region).counter (region_at kept region).psi found.1)

-- a region that has counted up to psi is the one that is due
pub due_region-is : {n : ℕ} (kept : KeptState n) (region : ℕ) → IsKept kept → region < kept.shape.regions
    → (region_at kept region).counter ≡ (region_at kept region).psi → due_region kept ≡ Some region
due_region-is kept region range h e =
    by (due_region kept) (λ none. none_due kept range none region h e) (λ at found. due_region-Some kept at range found)
  where
    by : (due : Option ℕ) → (due ≡ None → ⊥)
        → ((at : ℕ) → due ≡ Some at → (at < kept.shape.regions) × ((region_at kept at).counter ≡ (region_at kept at).psi)) → due ≡ Some region
    by None none some = absurd (none refl)
    by (Some at) none some =
        let found = some at refl in
        ap (λ i. Some i) (range.one_due at region found.0 h (found.1 ∙ (range.regions at found.0).stores) (e ∙ (range.regions region h).stores))

-- where no region has, none is
pub due_region-None : {n : ℕ} (kept : KeptState n) → IsKept kept
    → ((region : ℕ) → region < kept.shape.regions → (region_at kept region).counter ≢ (region_at kept region).psi) → due_region kept ≡ None
due_region-None kept range none = by (due_region kept) (λ at found. due_region-Some kept at range found)
  where
    by : (due : Option ℕ) → ((at : ℕ) → due ≡ Some at → (at < kept.shape.regions) × ((region_at kept at).counter ≡ (region_at kept at).psi)) → due ≡ None
    by None some = refl
    by (Some at) some = let found = some at refl in absurd (none at found.0 found.1)

IsRegionOf-stored : (shape : BankShape) (r : RegionState) → IsRegionOf shape r → r.counter ≢ r.psi → IsRegionOf shape (after_store r)
IsRegionOf-stored shape r own ne = record {
  in_range = record { rotates = own.in_range.rotates; some_writes = own.in_range.some_writes; few_writes = own.in_range.few_writes; counted = omega (arith, own.in_range.counted) };
  rotates = own.rotates;
  stores = own.stores;
}

-- what is true of the regions of a bundle
record AreRegions (shape : BankShape) (rs : List RegionState) : Type 0 where
  all : length rs ≡ shape.regions
  each : (region : ℕ) → region < shape.regions → IsRegionOf shape (get_or rs region no_region)
  one : (region other : ℕ) → region < shape.regions → other < shape.regions
      → (get_or rs region no_region).counter ≡ shape.psi → (get_or rs other no_region).counter ≡ shape.psi → region ≡ other

-- one region is replaced, and no other is due
AreRegions-replaced : (shape : BankShape) (rs : List RegionState) (at : ℕ) (new : RegionState) → length rs ≡ shape.regions
    → ((region : ℕ) → region < shape.regions → IsRegionOf shape (get_or rs region no_region)) → IsRegionOf shape new
    → ((region : ℕ) → region < shape.regions → region ≢ at → (get_or rs region no_region).counter ≢ shape.psi)
    → AreRegions shape (slice_set rs at new)
AreRegions-replaced shape rs at new all each own others = record {
  all = length-set rs at new ∙ all;
  each = each_new;
  one = λ region other h k e f. is_at region h e ∙ sym (is_at other k f);
}
  where
    each_new : (region : ℕ) → region < shape.regions → IsRegionOf shape (get_or (slice_set rs at new) region no_region)
    each_new region h =
        elim (cases_eq region at) [
          | inl same ↦
              let there : at < length rs = omega (arith, all, same, h) in
              let P : RegionState → Type 0 = λ r. IsRegionOf shape r in
              subst P (sym (get_or-set_at rs at region new no_region same there)) own
          | inr ne ↦
              let P : RegionState → Type 0 = λ r. IsRegionOf shape r in
              subst P (sym (get_or-set_other rs at region new no_region ne)) (each region h)
        ]

    is_at : (region : ℕ) → region < shape.regions → (get_or (slice_set rs at new) region no_region).counter ≡ shape.psi → region ≡ at
    is_at region h e =
        elim (cases_eq region at) [
          | inl same ↦ same
          | inr ne ↦ absurd (others region h ne (ap (λ r. r.counter) (sym (get_or-set_other rs at region new no_region ne)) ∙ e))
        ]

IsRegionOf-moved : (shape : BankShape) (r : RegionState) → IsRegionOf shape r → IsRegionOf shape (after_move r)
IsRegionOf-moved shape r own = record {
  in_range = record {
    rotates = advanced-range r.rotation own.in_range.rotates;
    some_writes = own.in_range.some_writes;
    few_writes = own.in_range.few_writes;
    counted = omega arith;
  };
  rotates = own.rotates;
  stores = own.stores;
}

IsRegionOf-first : (shape : BankShape) → IsBankShape shape → IsRegionOf shape (first_region shape.lines shape.psi)
IsRegionOf-first shape limits = record {
  in_range = record {
    rotates = record { some_lines = limits.some_lines; few_lines = limits.few_lines; start_below = omega (arith, limits.some_lines); gap_within = omega arith };
    some_writes = limits.some_psi;
    few_writes = limits.few_psi;
    counted = omega arith;
  };
  rotates = refl;
  stores = refl;
}

-- one region more
pub first_regions-more : (i : ℕ) (r : RegionState) → replicate i r ++ r ∷ [] ≡ replicate (suc i) r
first_regions-more zero r = refl
first_regions-more (suc i) r = ap (λ rs. r ∷ rs) (first_regions-more i r)

first_region-at : (shape : BankShape) (region : ℕ) → region < shape.regions
    → get_or (replicate shape.regions (first_region shape.lines shape.psi)) region no_region ≡ first_region shape.lines shape.psi
first_region-at shape region h = get_or-replicate shape.regions region (first_region shape.lines shape.psi) no_region h

first_counter : (shape : BankShape) (region : ℕ) → region < shape.regions
    → (get_or (replicate shape.regions (first_region shape.lines shape.psi)) region no_region).counter ≡ 0
first_counter shape region h = ap (λ r. r.counter) (first_region-at shape region h)

module _ {n : ℕ} where
  with_regions-kept : (kept : KeptState n) (rs : List RegionState) → IsKept kept → AreRegions kept.shape rs → IsKept (with_regions kept rs)
  with_regions-kept kept rs range all = record {
    some_bytes = range.some_bytes;
    few_bytes = range.few_bytes;
    shape = range.shape;
    few_entries = range.few_entries;
    masked = range.masked;
    known = range.known;
    table = range.table;
    slots = range.slots;
    spares = range.spares;
    all_regions = all.all;
    regions = all.each;
    one_due = all.one;
    all_used = range.all_used;
  }

  -- The next work

  store_by : (kept : KeptState n) (mark : Bool) (due : Option ℕ) (es : List (Entry n)) → is_store (cond mark Nothing (due_work due kept es)) ≡ true
      → (mark ≡ false) × (due ≡ None) × (0 < length es)
  store_by kept false None (e ∷ es) h = (refl, refl, omega arith)
  store_by kept _ _ _ h = cc

  -- a store comes next only where no region is due, and a write waits
  pub next_work-store : (kept : KeptState n) → is_store (next_work kept) ≡ true → (kept.exhausted ≡ false) × (due_region kept ≡ None) × (0 < length kept.entries)
  next_work-store kept h = store_by kept kept.exhausted (due_region kept) kept.entries h

  copy_by : (kept : KeptState n) (mark : Bool) (due : Option ℕ) (es : List (Entry n)) → is_copy (cond mark Nothing (due_work due kept es)) ≡ true
      → (mark ≡ false) × ((region : ℕ) × (due ≡ Some region))
  copy_by kept false (Some region) es h = (refl, (region, refl))
  copy_by kept false None [] h = cc
  copy_by kept _ _ _ h = cc

  -- a move comes next only where a region is due
  pub next_work-copy : (kept : KeptState n) → is_copy (next_work kept) ≡ true → (kept.exhausted ≡ false) × ((region : ℕ) × (due_region kept ≡ Some region))
  next_work-copy kept h = copy_by kept kept.exhausted (due_region kept) kept.entries h

  -- Stores and moves

  pub head-known : (es : List (Entry n)) (lines : ℕ) → AllBelow es lines → 0 < length es → head_line es < lines
  head-known es lines h k = grind arith

  head_dropped : (kept : KeptState n) → IsKept kept → IsKept (with_entries kept (drop 1 kept.entries))
  head_dropped kept range = with_entries-kept kept (drop 1 kept.entries) range (record {
    few = omega (arith, length-drop_one kept.entries, range.few_entries);
    masked = AllMasked-drop kept.entries range.masked;
    known = AllBelow-drop kept.entries (bank_lines kept.shape) range.known;
  })

  pub head_region-exists : (kept : KeptState n) → IsKept kept → 0 < length kept.entries → head_line kept.entries / kept.shape.lines < kept.shape.regions
  head_region-exists kept range some = region-exists kept range (head_line kept.entries) (head-known kept.entries (bank_lines kept.shape) range.known some)

  pub IsKept-stored : (kept : KeptState n) → IsKept kept → is_store (next_work kept) ≡ true → IsKept (stored_kept kept)
  IsKept-stored kept range h =
      let next = next_work-store kept h in
      let at : ℕ = head_line kept.entries / kept.shape.lines in
      let exists = head_region-exists kept range next.2 in
      let own = range.regions at exists in
      with_regions-kept (with_entries kept (drop 1 kept.entries)) _ (head_dropped kept range)
      (AreRegions-replaced kept.shape kept.regions at (after_store (region_at kept at)) range.all_regions range.regions
      (IsRegionOf-stored kept.shape (region_at kept at) own (none_due kept range next.1 at exists))
      (λ region below ne e. none_due kept range next.1 region below (e ∙ sym (range.regions region below).stores)))

  -- what the store of this head needs and leaves
  pub record StoresHead (kept : KeptState n) (region : ℕ) : Type 0 where
    pub exists : region < length kept.regions
    pub not_due : (region_at kept region).counter ≢ (region_at kept region).psi
    pub range : IsKept (with_regions (with_entries kept (drop 1 kept.entries)) (slice_set kept.regions region (after_store (region_at kept region))))

  head_line-is : (es : List (Entry n)) (e : Entry n) → Some e ≡ slice_get es 0 → head_line es ≡ e.line
  head_line-is [] e h = cc
  head_line-is (f ∷ es) e h = let same : f ≡ e = cc in ap (λ x. x.line) same

  -- the head is of a line of the bank
  pub head-below : (es : List (Entry n)) (lines : ℕ) (e : Entry n) → AllBelow es lines → Some e ≡ slice_get es 0 → e.line < lines
  head-below [] lines e h k = cc
  head-below (f ∷ es) lines e h k = let same : f ≡ e = cc in subst (λ (x : Entry n). x.line < lines) same h.0

  pub stores_head : (kept : KeptState n) (head : Entry n) → IsKept kept → is_store (next_work kept) ≡ true → Some head ≡ slice_get kept.entries 0
      → StoresHead kept (head.line / kept.shape.lines)
  stores_head kept head range h k =
      let next = next_work-store kept h in
      let exists = head_region-exists kept range next.2 in
      let P : ℕ → Type 0 = λ line. StoresHead kept (line / kept.shape.lines) in
      subst P (head_line-is kept.entries head k)
      (record {
        exists = omega (arith, exists, range.all_regions);
        not_due = none_due kept range next.1 (head_line kept.entries / kept.shape.lines) exists;
        range = IsKept-stored kept range h;
      })

  -- after the move of the region that is due
  pub IsKept-moved_at : (kept : KeptState n) (region : ℕ) → IsKept kept → due_region kept ≡ Some region
      → IsKept (with_regions kept (slice_set kept.regions region (after_move (region_at kept region))))
  IsKept-moved_at kept at range h =
      let due = due_region-Some kept at range h in
      let own = range.regions at due.0 in
      with_regions-kept kept _ range
      (AreRegions-replaced kept.shape kept.regions at (after_move (region_at kept at)) range.all_regions range.regions
      (IsRegionOf-moved kept.shape (region_at kept at) own)
      (λ region below ne e. ne (range.one_due region at below due.0 e (due.1 ∙ own.stores))))

  moved_by : (kept : KeptState n) (due : Option ℕ) (region : ℕ) → due ≡ Some region → IsKept (with_regions kept (slice_set kept.regions region (after_move (region_at kept region))))
      → IsKept (with_regions kept (regions_moved due kept))
  moved_by kept (Some at) region h range =
      let P : ℕ → Type 0 = λ r. IsKept (with_regions kept (slice_set kept.regions r (after_move (region_at kept r)))) in
      let same : at ≡ region = cc in
      subst P (sym same) range
  moved_by kept None region h range = cc

  pub IsKept-moved : (kept : KeptState n) → IsKept kept → is_copy (next_work kept) ≡ true → IsKept (moved_kept kept)
  IsKept-moved kept range h =
      let next = next_work-copy kept h in
      moved_by kept (due_region kept) next.1.0 next.1.1 (IsKept-moved_at kept next.1.0 range next.1.1)

  -- Retirements

  pub IsKept-retired : (kept : KeptState n) (slot : ℕ) → IsKept kept → slot < slots_of kept.shape → used_by kept.table < kept.table.spares → IsKept (retired_kept slot kept)
  IsKept-retired kept slot range exists left = record {
    some_bytes = range.some_bytes;
    few_bytes = range.few_bytes;
    shape = range.shape;
    few_entries = range.few_entries;
    masked = range.masked;
    known = range.known;
    table = IsTable-retired kept.table slot range.table (omega (arith, exists, range.slots)) left;
    slots = range.slots;
    spares = range.spares;
    all_regions = range.all_regions;
    regions = range.regions;
    one_due = range.one_due;
    all_used = λ mark. let none : used_by kept.table ≡ kept.table.spares = range.all_used mark in omega (arith, none, left);
  }

  pub IsKept-exhausted : (kept : KeptState n) → IsKept kept → used_by kept.table ≡ kept.table.spares → IsKept (exhausted_kept kept)
  IsKept-exhausted kept range none = record {
    some_bytes = range.some_bytes;
    few_bytes = range.few_bytes;
    shape = range.shape;
    few_entries = range.few_entries;
    masked = range.masked;
    known = range.known;
    table = range.table;
    slots = range.slots;
    spares = range.spares;
    all_regions = range.all_regions;
    regions = range.regions;
    one_due = range.one_due;
    all_used = λ _. none;
  }

  -- At the beginning

  pub IsKept-first : (shape : BankShape) → 0 < n → n ≤ 128 → IsBankShape shape → IsKept {n = n} (first_kept shape)
  IsKept-first shape some few limits = record {
    some_bytes = some;
    few_bytes = few;
    shape = limits;
    few_entries = omega arith;
    masked = tt;
    known = tt;
    table = record { fits = omega (arith, limits.fits); within = omega arith; known = λ spare below. grind (arith, below) };
    slots = refl;
    spares = refl;
    all_regions = length-replicate shape.regions (first_region shape.lines shape.psi);
    regions = λ region h. let P : RegionState → Type 0 = λ r. IsRegionOf shape r in subst P (sym (first_region-at shape region h)) (IsRegionOf-first shape limits);
    one_due = λ region other h k e f. let none : 0 ≡ shape.psi = sym (first_counter shape region h) ∙ e in omega (arith, none, limits.some_psi);
    all_used = λ mark. cc;
  }
