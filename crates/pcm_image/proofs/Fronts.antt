-- The front of an image of either format, its numbers and its banks: what is read is saved so, and what is saved so is read.
use Rattle.std.proofs.Common.{◌≡◌, ℕ, suc, ◌%◌, ◌^◌, ◌<◌, ◌≤◌, true, ◌==◌, eqb, nat_le, nat_lt, List, [], ◌∷◌, ◌++◌, length, get_or, Ok, All, refl, ap, subst, ◌∙◌, append_assoc, arith}
use Rattle.std.{specs.Int.{w16, w32, w64}, specs.List.{flat_map, AllByRecursion}, proofs.lemmas.Bool.{eqb-true, and_from}}
use Rattle.std.proofs.{lemmas.Bool.Decides.nat_tests, lemmas.List.Elements.{All-from_recursion, All-get_or}}
use Rattle.masked_bytes.proofs.Truth.{and_first, and_second}
use Rattle.module_shape.specs.Limits.{is_power_between, large_limits}
use Rattle.pcm_image.specs.Formats.{magic_of, sizes_of, width_of}
use Rattle.pcm_image.specs.Reading.{Cursor, ◌>>=◌, any, byte_at, number_at, times, is_size, is_size_of, size_at, head_at, region_at, entry_at, bank_at}
use Rattle.pcm_image.specs.Saved.{SavedBank, Head, IsHeadIn, IsSavedBank, IsSavedEntry, IsSavedRegion, slots_in, is_lines_in}
use Rattle.pcm_image.specs.{Spelling.{u8, u16, u32, u64, lines_bytes, head_bytes_in, region_bytes_in, entry_bytes, bank_bytes_in}, declared.EntryImage.EntryImage}
use Rattle.pcm_image.specs.{declared.Format.Format, declared.RegionImage.RegionImage}
use Rattle.pcm_image.proofs.Entries.{le_true, true_le, lt_true, true_lt, all_map, EntryFits, entry_pair, entry_saved, IsSlot, slot_pair, counted, size_takes, size_again, seven}
use Rattle.pcm_image.proofs.{Heads.{HeadFits, head-fits, large-head, lines-fit, slots-few}, Loop.gives_on}
use Rattle.pcm_image.proofs.Pairs.{IsBytes, bind_ok, bound, ok_is, Takes, Takes-then, IsPair, Passes, number_pair, byte_pair, wide16, wide64, wide_of, limit_of, magic-eight}
use Rattle.pcm_image.proofs.Pairs.{times_takes, times_again}
use Rattle.pcm_image.specs.declared.ImageKind.TheVariants as kind

-- a fact of each, by index and by recursion
all_at : {X : Type 0} (P : X → Type 0) (xs : List X) (d : X) → ((i : ℕ) → i < length xs → P (get_or xs i d)) → AllByRecursion P xs
all_at P [] d h = tt
all_at P (x ∷ xs) d h = (h 0 (omega arith), all_at P xs d (λ i lt. h (suc i) (omega (arith, lt))))

pub all_to : {X : Type 0} (P : X → Type 0) (xs : List X) → All P xs → AllByRecursion P xs
all_to P [] h = tt
all_to P (x ∷ xs) h = all_at P (x ∷ xs) x (λ i lt. All-get_or P (x ∷ xs) i x lt h)

module _ (f : Format) where
  -- ---- a region

  abbrev pub RegionFits : Head → RegionImage → Type 0
  RegionFits h r = Passes (limit_of f) (λ n. nat_lt n h.lines) r.start × (Passes (limit_of f) (λ n. nat_le n h.lines) r.gap × Passes (2 ^ 16) any r.counter)

  region_takes : (h : Head) (c : Cursor) (x : RegionImage × Cursor) → IsBytes c.left → region_at f h c ≡ Ok x → Takes c (region_bytes_in f x.0) x.1 × RegionFits h x.0
  unfolding region_at
  region_takes h c x small e =
      let one = number_pair (width_of f) (limit_of f) kind.Bank (λ n. nat_lt n h.lines) (wide_of f) in
      let two = number_pair (width_of f) (limit_of f) kind.Bank (λ n. nat_le n h.lines) (wide_of f) in
      let three = number_pair w16 (2 ^ 16) kind.Bank any wide16 in
      let a = bind_ok (number_at (width_of f) kind.Bank (λ n. nat_lt n h.lines) c) (λ start. number_at (width_of f) kind.Bank (λ n. nat_le n h.lines) start.1 >>= λ gap. number_at w16 kind.Bank any gap.1 >>= λ counter. Ok (record { start = start.0; gap = gap.0; counter = counter.0 }, counter.1)) x e in
      let b = bind_ok (number_at (width_of f) kind.Bank (λ n. nat_le n h.lines) a.0.1) (λ gap. number_at w16 kind.Bank any gap.1 >>= λ counter. Ok (record { start = a.0.0; gap = gap.0; counter = counter.0 }, counter.1)) x a.2 in
      let d = bind_ok (number_at w16 kind.Bank any b.0.1) (λ counter. Ok (record { start = a.0.0; gap = b.0.0; counter = counter.0 }, counter.1)) x b.2 in
      let t0 = one.takes c a.0 small a.1 in
      let t1 = two.takes a.0.1 b.0 t0.0.rest_fits b.1 in
      let t2 = three.takes b.0.1 d.0 t1.0.rest_fits d.1 in
      let e12 = Takes-then a.0.1 (lines_bytes f b.0.0) b.0.1 (u16 d.0.0) d.0.1 t1.0 t2.0 in
      let e02 = Takes-then c (lines_bytes f a.0.0) a.0.1 (lines_bytes f b.0.0 ++ u16 d.0.0) d.0.1 t0.0 e12 in
      let made : RegionImage × Cursor = (record { start = a.0.0; gap = b.0.0; counter = d.0.0 }, d.0.1) in
      subst (λ (y : RegionImage × Cursor). Takes c (region_bytes_in f y.0) y.1 × RegionFits h y.0) {x = made} (ok_is made x d.2) (e02, (t0.1, (t1.1, t2.1)))

  -- the fields of a region, one behind another
  region_read : (h : Head) (r : RegionImage) (c c0 c1 c2 : Cursor) → number_at (width_of f) kind.Bank (λ n. nat_lt n h.lines) c ≡ Ok (r.start, c0)
      → number_at (width_of f) kind.Bank (λ n. nat_le n h.lines) c0 ≡ Ok (r.gap, c1) → number_at w16 kind.Bank any c1 ≡ Ok (r.counter, c2) → region_at f h c ≡ Ok (r, c2)
  unfolding region_at
  region_read h r c c0 c1 c2 p0 p1 p2 = gives_on _ _ _ _ p0 (gives_on _ _ _ _ p1 (gives_on _ _ _ _ p2 refl))

  region_again : (h : Head) (r : RegionImage) (c : Cursor) (rest : List ℕ) → RegionFits h r → c.left ≡ region_bytes_in f r ++ rest → (after : Cursor) × (region_at f h c ≡ Ok (r, after)) × (after.left ≡ rest)
  unfolding region_at
  region_again h r c rest fit e =
      let one = number_pair (width_of f) (limit_of f) kind.Bank (λ n. nat_lt n h.lines) (wide_of f) in
      let two = number_pair (width_of f) (limit_of f) kind.Bank (λ n. nat_le n h.lines) (wide_of f) in
      let three = number_pair w16 (2 ^ 16) kind.Bank any wide16 in
      let a = one.again r.start c (lines_bytes f r.gap ++ (u16 r.counter ++ rest)) fit.0 (e ∙ append_assoc (lines_bytes f r.start) (lines_bytes f r.gap ++ u16 r.counter) rest ∙ ap (λ t. lines_bytes f r.start ++ t) (append_assoc (lines_bytes f r.gap) (u16 r.counter) rest)) in
      let b = two.again r.gap a.0 (u16 r.counter ++ rest) fit.1.0 a.2 in
      let d = three.again r.counter b.0 rest fit.1.1 b.2 in
      (d.0, region_read h r c a.0 b.0 d.0 a.1 b.1 d.1, d.2)

  region_pair : (h : Head) → IsPair (region_at f h) (region_bytes_in f) (RegionFits h)
  region_pair h = record { takes = region_takes h; again = region_again h }

  -- ---- a bank

  pub record BankFits (B : ℕ) (h : Head) (b : SavedBank B) : Type 0 where
    pub mark : Passes 256 (λ n. nat_lt n 2) b.mark
    pub used : Passes (2 ^ 16) (λ n. nat_le n h.spares) (length b.replaced)
    pub slots : AllByRecursion (IsSlot h) b.replaced
    pub ones : length b.regions ≡ h.regions
    pub regions : AllByRecursion (RegionFits h) b.regions
    pub few : Passes (2 ^ 16) (λ n. nat_le n 256) (length b.entries)
    pub entries : AllByRecursion (EntryFits B h) b.entries

  -- the fields of a bank that were read, one behind another
  bank_joined : (B : ℕ) (h : Head) (b : SavedBank B) (used count : ℕ) (c c0 c1 c2 c3 c4 c5 : Cursor)
      → Takes c (u8 b.mark) c0 × Passes 256 (λ n. nat_lt n 2) b.mark
      → Takes c0 (u16 used) c1 × Passes (2 ^ 16) (λ n. nat_le n h.spares) used
      → Takes c1 (flat_map u32 b.replaced) c2 × (length b.replaced ≡ used) × AllByRecursion (IsSlot h) b.replaced
      → Takes c2 (flat_map (region_bytes_in f) b.regions) c3 × (length b.regions ≡ h.regions) × AllByRecursion (RegionFits h) b.regions
      → Takes c3 (u16 count) c4 × Passes (2 ^ 16) (λ n. nat_le n 256) count
      → Takes c4 (flat_map entry_bytes b.entries) c5 × (length b.entries ≡ count) × AllByRecursion (EntryFits B h) b.entries
      → Takes c (bank_bytes_in f b) c5 × BankFits B h b
  bank_joined B h b used count c c0 c1 c2 c3 c4 c5 t0 t1 t2 t3 t4 t5 =
      let s1 = counted (λ n. nat_le n h.spares) c0 c1 used (length b.replaced) t2.1 t1 in
      let s4 = counted (λ n. nat_le n 256) c3 c4 count (length b.entries) t5.1 t4 in
      let m4 = Takes-then c3 _ c4 _ c5 s4.0 t5.0 in
      let m3 = Takes-then c2 _ c3 _ c5 t3.0 m4 in
      let m2 = Takes-then c1 _ c2 _ c5 t2.0 m3 in
      let m1 = Takes-then c0 _ c1 _ c5 s1.0 m2 in
      (Takes-then c _ c0 _ c5 t0.0 m1, record { mark = t0.1; used = s1.1; slots = t2.2; ones = t3.1; regions = t3.2; few = s4.1; entries = t5.2 })

  bank_takes : (B : ℕ) → B % 8 ≡ 0 → (h : Head) (c : Cursor) (x : SavedBank B × Cursor) → IsBytes c.left → bank_at f B h c ≡ Ok x → Takes c (bank_bytes_in f x.0) x.1 × BankFits B h x.0
  unfolding bank_at
  bank_takes B whole h c x small e =
      bound _ _ x _ e (λ x0 e0 n0. bound _ _ x _ n0 (λ x1 e1 n1. bound _ _ x _ n1 (λ x2 e2 n2. bound _ _ x _ n2 (λ x3 e3 n3. bound _ _ x _ n3 (λ x4 e4 n4. bound _ _ x _ n4 (λ x5 e5 n5.
      let t0 = (byte_pair kind.Bank (λ n. nat_lt n 2)).takes c x0 small e0 in
      let t1 = (number_pair w16 (2 ^ 16) kind.Bank (λ n. nat_le n h.spares) wide16).takes x0.1 x1 t0.0.rest_fits e1 in
      let t2 = times_takes (number_at w32 kind.Bank (λ n. nat_lt n (slots_in h))) u32 (IsSlot h) (slot_pair h) x1.0 x1.1 x2 t1.0.rest_fits e2 in
      let t3 = times_takes (region_at f h) (region_bytes_in f) (RegionFits h) (region_pair h) h.regions x2.1 x3 t2.0.rest_fits e3 in
      let t4 = (number_pair w16 (2 ^ 16) kind.Bank (λ n. nat_le n 256) wide16).takes x3.1 x4 t3.0.rest_fits e4 in
      let t5 = times_takes (entry_at B h) entry_bytes (EntryFits B h) (entry_pair B whole h) x4.0 x4.1 x5 t4.0.rest_fits e5 in
      subst (λ (y : SavedBank B × Cursor). Takes c (bank_bytes_in f y.0) y.1 × BankFits B h y.0) (ok_is (record { mark = x0.0; replaced = x2.0; regions = x3.0; entries = x5.0 }, x5.1) x n5)
      (bank_joined B h (record { mark = x0.0; replaced = x2.0; regions = x3.0; entries = x5.0 }) x1.0 x4.0 c x0.1 x1.1 x2.1 x3.1 x4.1 x5.1 t0 t1 t2 t3 t4 t5)))))))

  -- the fields of a bank, one behind another
  bank_read : (B : ℕ) (h : Head) (b : SavedBank B) (c c0 c1 c2 c3 c4 c5 : Cursor) → byte_at kind.Bank (λ n. nat_lt n 2) c ≡ Ok (b.mark, c0)
      → number_at w16 kind.Bank (λ n. nat_le n h.spares) c0 ≡ Ok (length b.replaced, c1)
      → times (length b.replaced) (number_at w32 kind.Bank (λ n. nat_lt n (slots_in h))) c1 ≡ Ok (b.replaced, c2)
      → times h.regions (region_at f h) c2 ≡ Ok (b.regions, c3)
      → number_at w16 kind.Bank (λ n. nat_le n 256) c3 ≡ Ok (length b.entries, c4)
      → times (length b.entries) (entry_at B h) c4 ≡ Ok (b.entries, c5) → bank_at f B h c ≡ Ok (b, c5)
  unfolding bank_at
  bank_read B h b c c0 c1 c2 c3 c4 c5 p0 p1 p2 p3 p4 p5 =
      gives_on _ _ _ _ p0 (gives_on _ _ _ _ p1 (gives_on _ _ _ _ p2 (gives_on _ _ _ _ p3 (gives_on _ _ _ _ p4 (gives_on _ _ _ _ p5 refl)))))

  bank_again : (B : ℕ) → B % 8 ≡ 0 → (h : Head) (b : SavedBank B) (c : Cursor) (rest : List ℕ) → BankFits B h b → c.left ≡ bank_bytes_in f b ++ rest → (after : Cursor) × (bank_at f B h c ≡ Ok (b, after)) × (after.left ≡ rest)
  unfolding bank_at
  bank_again B whole h b c rest fit e =
      let slot = number_at w32 kind.Bank (λ n. nat_lt n (slots_in h)) in
      let p0 = byte_pair kind.Bank (λ n. nat_lt n 2) in
      let p1 = number_pair w16 (2 ^ 16) kind.Bank (λ n. nat_le n h.spares) wide16 in
      let p4 = number_pair w16 (2 ^ 16) kind.Bank (λ n. nat_le n 256) wide16 in
      let w5 = flat_map entry_bytes b.entries in
      let w4 = u16 (length b.entries) in
      let w3 = flat_map (region_bytes_in f) b.regions in
      let w2 = flat_map u32 b.replaced in
      let w1 = u16 (length b.replaced) in
      let regrouped : bank_bytes_in f b ++ rest ≡ u8 b.mark ++ (w1 ++ (w2 ++ (w3 ++ (w4 ++ (w5 ++ rest))))) =
      append_assoc (u8 b.mark) (w1 ++ (w2 ++ (w3 ++ (w4 ++ w5)))) rest
      ∙ ap (λ t. u8 b.mark ++ t) (append_assoc w1 (w2 ++ (w3 ++ (w4 ++ w5))) rest
      ∙ ap (λ t. w1 ++ t) (append_assoc w2 (w3 ++ (w4 ++ w5)) rest
      ∙ ap (λ t. w2 ++ t) (append_assoc w3 (w4 ++ w5) rest
      ∙ ap (λ t. w3 ++ t) (append_assoc w4 w5 rest)))) in
      let a0 = p0.again b.mark c (w1 ++ (w2 ++ (w3 ++ (w4 ++ (w5 ++ rest))))) fit.mark (e ∙ regrouped) in
      let a1 = p1.again (length b.replaced) a0.0 (w2 ++ (w3 ++ (w4 ++ (w5 ++ rest)))) fit.used a0.2 in
      let a2 = times_again slot u32 (IsSlot h) (slot_pair h) b.replaced a1.0 (w3 ++ (w4 ++ (w5 ++ rest))) fit.slots a1.2 in
      let a3 = times_again (region_at f h) (region_bytes_in f) (RegionFits h) (region_pair h) b.regions a2.0 (w4 ++ (w5 ++ rest)) fit.regions a2.2 in
      let read3 = subst (λ (k : ℕ). times k (region_at f h) a2.0 ≡ Ok (b.regions, a3.0)) fit.ones a3.1 in
      let a4 = p4.again (length b.entries) a3.0 (w5 ++ rest) fit.few a3.2 in
      let a5 = times_again (entry_at B h) entry_bytes (EntryFits B h) (entry_pair B whole h) b.entries a4.0 rest fit.entries a4.2 in
      (a5.0, bank_read B h b c a0.0 a1.0 a2.0 a3.0 a4.0 a5.0 a0.1 a1.1 a2.1 read3 a4.1 a5.1, a5.2)

  pub bank_pair : (B : ℕ) → B % 8 ≡ 0 → (h : Head) → IsPair (bank_at f B h) (bank_bytes_in f) (BankFits B h)
  bank_pair B whole h = record { takes = bank_takes B whole h; again = bank_again B whole h }

  -- ---- the head

  -- the fields of a head, one behind another
  head_joined : (B : ℕ) (h : Head) (size : ℕ) (c c0 c1 c2 c3 c4 c5 c6 : Cursor)
      → Takes c (magic_of f ++ u8 size) c0 × Passes 256 (is_size_of B) size
      → Takes c0 (u8 h.banks) c1 × Passes 256 (is_power_between 1 (sizes_of f).banks) h.banks
      → Takes c1 (u8 h.regions) c2 × Passes 256 (is_power_between 1 (sizes_of f).regions) h.regions
      → Takes c2 (lines_bytes f h.lines) c3 × Passes (limit_of f) (is_lines_in (sizes_of f) h.banks h.regions) h.lines
      → Takes c3 (u16 h.spares) c4 × Passes (2 ^ 16) (λ n. nat_le n 1024) h.spares
      → Takes c4 (u64 h.seed) c5 × Passes (2 ^ 64) any h.seed
      → Takes c5 (u8 h.home) c6 × Passes 256 (λ n. nat_lt n 2) h.home
      → Takes c (head_bytes_in f B h) c6 × IsHeadIn (sizes_of f) h × (is_size B ≡ true)
  head_joined B h size c c0 c1 c2 c3 c4 c5 c6 t0 t1 t2 t3 t4 t5 t6 =
      let m = seven c c0 c1 c2 c3 c4 c5 c6 (magic_of f ++ u8 size) (u8 h.banks) (u8 h.regions) (lines_bytes f h.lines) (u16 h.spares) (u64 h.seed) (u8 h.home) t0.0 t1.0 t2.0 t3.0 t4.0 t5.0 t6.0 in
      let same : size ≡ B = eqb-true size B (and_second (is_size size) (size == B) t0.1.1) in
      let others = u8 h.banks ++ (u8 h.regions ++ (lines_bytes f h.lines ++ (u16 h.spares ++ (u64 h.seed ++ u8 h.home)))) in (
        subst (λ (bytes : List ℕ). Takes c bytes c6) (append_assoc (magic_of f) (u8 B) others) (subst (λ (k : ℕ). Takes c ((magic_of f ++ u8 k) ++ others) c6) same m),
        record { banks = t1.1.1; regions = t2.1.1; lines = t3.1.1; spares = true_le h.spares 1024 t4.1.1; seed = t5.1.0; home = true_lt h.home 2 t6.1.1 },
        subst (λ (k : ℕ). is_size k ≡ true) same (and_first (is_size size) (size == B) t0.1.1),
      )

  pub head_takes : (B : ℕ) (c : Cursor) (x : Head × Cursor) → IsBytes c.left → head_at f B c ≡ Ok x → Takes c (head_bytes_in f B x.0) x.1 × IsHeadIn (sizes_of f) x.0 × (is_size B ≡ true)
  unfolding head_at
  head_takes B c x small e =
      bound _ _ x _ e (λ x0 e0 n0. bound _ _ x _ n0 (λ x1 e1 n1. bound _ _ x _ n1 (λ x2 e2 n2. bound _ _ x _ n2 (λ x3 e3 n3. bound _ _ x _ n3 (λ x4 e4 n4. bound _ _ x _ n4 (λ x5 e5 n5. bound _ _ x _ n5 (λ x6 e6 n6.
      let t0 = size_takes (magic_of f) (magic-eight f) (is_size_of B) c x0 small e0 in
      let t1 = (byte_pair kind.Shape (is_power_between 1 (sizes_of f).banks)).takes x0.1 x1 t0.0.rest_fits e1 in
      let t2 = (byte_pair kind.Shape (is_power_between 1 (sizes_of f).regions)).takes x1.1 x2 t1.0.rest_fits e2 in
      let t3 = (number_pair (width_of f) (limit_of f) kind.Shape (is_lines_in (sizes_of f) x1.0 x2.0) (wide_of f)).takes x2.1 x3 t2.0.rest_fits e3 in
      let t4 = (number_pair w16 (2 ^ 16) kind.Shape (λ n. nat_le n 1024) wide16).takes x3.1 x4 t3.0.rest_fits e4 in
      let t5 = (number_pair w64 (2 ^ 64) kind.Shape any wide64).takes x4.1 x5 t4.0.rest_fits e5 in
      let t6 = (byte_pair kind.Shape (λ n. nat_lt n 2)).takes x5.1 x6 t5.0.rest_fits e6 in
      subst (λ (y : Head × Cursor). Takes c (head_bytes_in f B y.0) y.1 × IsHeadIn (sizes_of f) y.0 × (is_size B ≡ true))
      (ok_is (record { banks = x1.0; regions = x2.0; lines = x3.0; spares = x4.0; seed = x5.0; home = x6.0 }, x6.1) x n6)
      (head_joined B (record { banks = x1.0; regions = x2.0; lines = x3.0; spares = x4.0; seed = x5.0; home = x6.0 }) x0.0 c x0.1 x1.1 x2.1 x3.1 x4.1 x5.1 x6.1 t0 t1 t2 t3 t4 t5 t6))))))))

  head_read : (B : ℕ) (h : Head) (c c0 c1 c2 c3 c4 c5 c6 : Cursor) → size_at (magic_of f) (is_size_of B) c ≡ Ok (B, c0)
      → byte_at kind.Shape (is_power_between 1 (sizes_of f).banks) c0 ≡ Ok (h.banks, c1)
      → byte_at kind.Shape (is_power_between 1 (sizes_of f).regions) c1 ≡ Ok (h.regions, c2)
      → number_at (width_of f) kind.Shape (is_lines_in (sizes_of f) h.banks h.regions) c2 ≡ Ok (h.lines, c3)
      → number_at w16 kind.Shape (λ n. nat_le n 1024) c3 ≡ Ok (h.spares, c4)
      → number_at w64 kind.Shape any c4 ≡ Ok (h.seed, c5)
      → byte_at kind.Shape (λ n. nat_lt n 2) c5 ≡ Ok (h.home, c6) → head_at f B c ≡ Ok (h, c6)
  unfolding head_at
  head_read B h c c0 c1 c2 c3 c4 c5 c6 p0 p1 p2 p3 p4 p5 p6 =
      gives_on _ _ _ _ p0 (gives_on _ _ _ _ p1 (gives_on _ _ _ _ p2 (gives_on _ _ _ _ p3 (gives_on _ _ _ _ p4 (gives_on _ _ _ _ p5 (gives_on _ _ _ _ p6 refl))))))

  pub head_again : (B : ℕ) → B ≤ 128 → is_size B ≡ true → (h : Head) (c : Cursor) (rest : List ℕ) → IsHeadIn (sizes_of f) h → c.left ≡ head_bytes_in f B h ++ rest → (after : Cursor) × (head_at f B c ≡ Ok (h, after)) × (after.left ≡ rest)
  unfolding head_at
  head_again B few sized h c rest is e =
      let fit = head-fits large_limits h (large-head f h is) in
      let p1 = byte_pair kind.Shape (is_power_between 1 (sizes_of f).banks) in
      let p2 = byte_pair kind.Shape (is_power_between 1 (sizes_of f).regions) in
      let p3 = number_pair (width_of f) (limit_of f) kind.Shape (is_lines_in (sizes_of f) h.banks h.regions) (wide_of f) in
      let p4 = number_pair w16 (2 ^ 16) kind.Shape (λ n. nat_le n 1024) wide16 in
      let p5 = number_pair w64 (2 ^ 64) kind.Shape any wide64 in
      let p6 = byte_pair kind.Shape (λ n. nat_lt n 2) in
      let last = u16 h.spares ++ (u64 h.seed ++ u8 h.home) in
      let parts : c.left ≡ magic_of f ++ (u8 B ++ (u8 h.banks ++ (u8 h.regions ++ (lines_bytes f h.lines ++ (last ++ rest))))) =
      e ∙ append_assoc (magic_of f) (u8 B ++ (u8 h.banks ++ (u8 h.regions ++ (lines_bytes f h.lines ++ last)))) rest
      ∙ ap (λ (t : List ℕ). magic_of f ++ (u8 B ++ (u8 h.banks ++ (u8 h.regions ++ t)))) (append_assoc (lines_bytes f h.lines) last rest) in
      let a0 = size_again (magic_of f) (magic-eight f) (is_size_of B) B c (u8 h.banks ++ (u8 h.regions ++ (lines_bytes f h.lines ++ (u16 h.spares ++ (u64 h.seed ++ (u8 h.home ++ rest)))))) (omega (arith, few), and_from (is_size B) (B == B) sized (same B)) parts in
      let a1 = p1.again h.banks a0.0 (u8 h.regions ++ (lines_bytes f h.lines ++ (u16 h.spares ++ (u64 h.seed ++ (u8 h.home ++ rest))))) (omega (arith, fit.banks), is.banks) a0.2 in
      let a2 = p2.again h.regions a1.0 (lines_bytes f h.lines ++ (u16 h.spares ++ (u64 h.seed ++ (u8 h.home ++ rest)))) (omega (arith, fit.regions), is.regions) a1.2 in
      let a3 = p3.again h.lines a2.0 (u16 h.spares ++ (u64 h.seed ++ (u8 h.home ++ rest))) (lines-fit f h is, is.lines) a2.2 in
      let a4 = p4.again h.spares a3.0 (u64 h.seed ++ (u8 h.home ++ rest)) (omega (arith, is.spares), le_true _ _ is.spares) a3.2 in
      let a5 = p5.again h.seed a4.0 (u8 h.home ++ rest) (is.seed, refl) a4.2 in
      let a6 = p6.again h.home a5.0 rest (omega (arith, is.home), lt_true _ _ is.home) a5.2 in
      (a6.0, head_read B h c a0.0 a1.0 a2.0 a3.0 a4.0 a5.0 a6.0 a0.1 a1.1 a2.1 a3.1 a4.1 a5.1 a6.1, a6.2)
    where
      same : (n : ℕ) → eqb n n ≡ true
      same n = grind (arith, nat_tests)

  -- ---- what is read is saved so, and what is saved so fits its fields

  region_saved : (h : Head) (r : RegionImage) → RegionFits h r → IsSavedRegion h r
  region_saved h r fit = record { start = true_lt _ _ fit.0.1; gap = true_le _ _ fit.1.0.1; counter = fit.1.1.0 }

  pub bank_saved : (B : ℕ) (h : Head) (b : SavedBank B) → BankFits B h b → IsSavedBank h b
  bank_saved B h b fit = record {
    mark = true_lt _ _ fit.mark.1;
    used = true_le _ _ fit.used.1;
    slots = All-from_recursion (λ slot. slot < slots_in h) b.replaced (all_map (IsSlot h) (λ slot. slot < slots_in h) b.replaced (λ slot k. true_lt _ _ k.1) fit.slots);
    one_each = fit.ones;
    regions = All-from_recursion (IsSavedRegion h) b.regions (all_map (RegionFits h) (IsSavedRegion h) b.regions (region_saved h) fit.regions);
    few = true_le _ _ fit.few.1;
    entries = All-from_recursion (IsSavedEntry h) b.entries (all_map (EntryFits B h) (IsSavedEntry h) b.entries (entry_saved B h) fit.entries);
  }

  region_back : (h : Head) → IsHeadIn (sizes_of f) h → (r : RegionImage) → IsSavedRegion h r → RegionFits h r
  region_back h is r k = ((omega (arith, k.start, lines-fit f h is), lt_true _ _ k.start), ((omega (arith, k.gap, lines-fit f h is), le_true _ _ k.gap), (k.counter, refl)))

  entry_back : (B : ℕ) (h : Head) → HeadFits large_limits h → (e : EntryImage B) → IsSavedEntry h e → EntryFits B h e
  entry_back B h fit e k = ((omega (arith, k.line, fit.own), lt_true _ _ k.line), (k.masked.bytes_len, (k.masked.given_len, (k.masked.some, k.masked.others))))

  pub bank_back : (B : ℕ) (h : Head) → IsHeadIn (sizes_of f) h → (b : SavedBank B) → IsSavedBank h b → BankFits B h b
  bank_back B h is b k =
      let fit = head-fits large_limits h (large-head f h is) in
      record {
        mark = (omega (arith, k.mark), lt_true _ _ k.mark);
        used = (omega (arith, k.used, is.spares), le_true _ _ k.used);
        slots = all_map (λ slot. slot < slots_in h) (IsSlot h) b.replaced (λ slot lt. (omega (arith, lt, slots-few h fit), lt_true _ _ lt)) (all_to (λ slot. slot < slots_in h) b.replaced k.slots);
        ones = k.one_each;
        regions = all_map (IsSavedRegion h) (RegionFits h) b.regions (region_back h is) (all_to (IsSavedRegion h) b.regions k.regions);
        few = (omega (arith, k.few), le_true _ _ k.few);
        entries = all_map (IsSavedEntry h) (EntryFits B h) b.entries (entry_back B h fit) (all_to (IsSavedEntry h) b.entries k.entries);
      }
