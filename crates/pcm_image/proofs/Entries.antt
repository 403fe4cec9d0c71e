-- What images of small and of large modules spell alike: the entries of a queue, slots, counts, and the size of a line; and words for order.
use Rattle.std.proofs.Common.{◌≡◌, ℕ, ◌/◌, ◌%◌, ◌^◌, ◌<◌, ◌≤◌, Bool, true, nat_le, nat_lt, List, [], ◌∷◌, ◌++◌, length, Ok, refl, sym, ap, subst, ◌∙◌, append_assoc, arith}
use Rattle.std.{specs.Int.w32, specs.List.AllByRecursion, specs.Str.bytes_eq, proofs.lemmas.Bool.and_from, proofs.lemmas.Bool.Decides.nat_tests}
use Rattle.std.proofs.lemmas.Slice.Eq.{bytes_eq-Decides}
use Rattle.masked_bytes.{specs.Masked.{gives_some, zero_elsewhere}, proofs.Truth.{and_first, and_second}}
use Rattle.pcm_image.specs.{Reading.{Cursor, ◌>>=◌, field, any, byte_at, number_at, size_at, given_from, is_given, entry_at}, Saved.{Head, IsSavedEntry, lines_in, slots_in}}
use Rattle.pcm_image.{specs.Spelling.{u8, u16, u32, packed, entry_bytes}, specs.declared.EntryImage.EntryImage, proofs.Bits.{length-given_from, packed-given, given-packed}}
use Rattle.pcm_image.proofs.{Loop.gives_on, Pairs.{IsBytes, bind_ok, ok_is, Takes, Takes-then, IsPair, IsField, field_pair, Passes, number_pair, byte_pair, wide32}}
use Rattle.pcm_image.specs.declared.ImageKind.TheVariants as kind
use Rattle.ecp_line.proofs.Bytes.{length-bytes_from}

pub le_true : (a b : ℕ) → a ≤ b → nat_le a b ≡ true
le_true a b h = grind (arith, nat_tests)

pub true_le : (a b : ℕ) → nat_le a b ≡ true → a ≤ b
true_le a b h = grind (arith, nat_tests)

pub lt_true : (a b : ℕ) → a < b → nat_lt a b ≡ true
lt_true a b h = grind (arith, nat_tests)

pub true_lt : (a b : ℕ) → nat_lt a b ≡ true → a < b
true_lt a b h = grind (arith, nat_tests)

pub all_map : {X : Type 0} (P Q : X → Type 0) (xs : List X) → ((x : X) → P x → Q x) → AllByRecursion P xs → AllByRecursion Q xs
all_map P Q [] f h = tt
all_map P Q (x ∷ xs) f h = (f x h.0, all_map P Q xs f h.1)

-- ---- an entry

bytes_field : (B : ℕ) → IsField B any (λ bytes. bytes) (λ bytes. bytes) (λ bytes. length bytes ≡ B)
bytes_field B = record { back = λ bytes len small is. (refl, len); len = λ x fit. fit; passes = λ x fit. refl; same = λ x fit. refl }

abbrev GivenFits : ℕ → List ℕ → List Bool → Type 0
GivenFits B bytes given = (length given ≡ B) × ((gives_some given ≡ true) × (zero_elsewhere bytes given ≡ true))

given_field : (B : ℕ) (bytes : List ℕ) → B % 8 ≡ 0 → IsField (B / 8) (is_given B bytes) (λ bits. given_from bits 0 B) (packed B) (GivenFits B bytes)
given_field B bytes whole = record {
  back = λ bits len small is. (packed-given B bits whole len small, (length-given_from bits 0 B, (and_first (gives_some (given_from bits 0 B)) (zero_elsewhere bytes (given_from bits 0 B)) is, and_second (gives_some (given_from bits 0 B)) (zero_elsewhere bytes (given_from bits 0 B)) is)));
  len = λ g fit. length-bytes_from _ 0 (B / 8);
  passes = λ g fit. rw (given-packed B g whole fit.0) (and_from (gives_some g) (zero_elsewhere bytes g) fit.1.0 fit.1.1);
  same = λ g fit. given-packed B g whole fit.0;
}

abbrev pub EntryFits : (B : ℕ) → Head → EntryImage B → Type 0
EntryFits B h e = Passes (2 ^ 32) (λ n. nat_lt n (lines_in h)) e.line × ((length e.bytes ≡ B) × GivenFits B e.bytes e.given)

entry_takes : (B : ℕ) → B % 8 ≡ 0 → (h : Head) (c : Cursor) (x : EntryImage B × Cursor) → IsBytes c.left → entry_at B h c ≡ Ok x → Takes c (entry_bytes x.0) x.1 × EntryFits B h x.0
unfolding entry_at
entry_takes B whole h c x small e =
    let one = number_pair w32 (2 ^ 32) kind.Entry (λ n. nat_lt n (lines_in h)) wide32 in
    let two = field_pair B kind.Entry any (λ bytes. bytes) (λ bytes. bytes) (λ bytes. length bytes ≡ B) (bytes_field B) in
    let a = bind_ok (number_at w32 kind.Entry (λ n. nat_lt n (lines_in h)) c) (λ line. field B kind.Entry any (λ bytes. bytes) line.1 >>= λ bytes. field (B / 8) kind.Entry (is_given B bytes.0) (λ bits. given_from bits 0 B) bytes.1 >>= λ given. Ok (record { line = line.0; bytes = bytes.0; given = given.0 }, given.1)) x e in
    let b = bind_ok (field B kind.Entry any (λ bytes. bytes) a.0.1) (λ bytes. field (B / 8) kind.Entry (is_given B bytes.0) (λ bits. given_from bits 0 B) bytes.1 >>= λ given. Ok (record { line = a.0.0; bytes = bytes.0; given = given.0 }, given.1)) x a.2 in
    let d = bind_ok (field (B / 8) kind.Entry (is_given B b.0.0) (λ bits. given_from bits 0 B) b.0.1) (λ given. Ok (record { line = a.0.0; bytes = b.0.0; given = given.0 }, given.1)) x b.2 in
    let three = field_pair (B / 8) kind.Entry (is_given B b.0.0) (λ bits. given_from bits 0 B) (packed B) (GivenFits B b.0.0) (given_field B b.0.0 whole) in
    let t0 = one.takes c a.0 small a.1 in
    let t1 = two.takes a.0.1 b.0 t0.0.rest_fits b.1 in
    let t2 = three.takes b.0.1 d.0 t1.0.rest_fits d.1 in
    let e12 = Takes-then a.0.1 b.0.0 b.0.1 (packed B d.0.0) d.0.1 t1.0 t2.0 in
    let e02 = Takes-then c (u32 a.0.0) a.0.1 (b.0.0 ++ packed B d.0.0) d.0.1 t0.0 e12 in
    let made : EntryImage B × Cursor = (record { line = a.0.0; bytes = b.0.0; given = d.0.0 }, d.0.1) in
    subst (λ (y : EntryImage B × Cursor). Takes c (entry_bytes y.0) y.1 × EntryFits B h y.0) {x = made} (ok_is made x d.2) (e02, (t0.1, (t1.1, t2.1)))

-- the fields of an entry, one behind another
entry_read : (B : ℕ) (h : Head) (r : EntryImage B) (c c0 c1 c2 : Cursor) → number_at w32 kind.Entry (λ n. nat_lt n (lines_in h)) c ≡ Ok (r.line, c0)
    → field B kind.Entry any (λ bytes. bytes) c0 ≡ Ok (r.bytes, c1) → field (B / 8) kind.Entry (is_given B r.bytes) (λ bits. given_from bits 0 B) c1 ≡ Ok (r.given, c2)
    → entry_at B h c ≡ Ok (r, c2)
unfolding entry_at
entry_read B h r c c0 c1 c2 p0 p1 p2 = gives_on _ _ _ _ p0 (gives_on _ _ _ _ p1 (gives_on _ _ _ _ p2 refl))

entry_again : (B : ℕ) → B % 8 ≡ 0 → (h : Head) (r : EntryImage B) (c : Cursor) (rest : List ℕ) → EntryFits B h r → c.left ≡ entry_bytes r ++ rest → (after : Cursor) × (entry_at B h c ≡ Ok (r, after)) × (after.left ≡ rest)
unfolding entry_at
entry_again B whole h r c rest fit e =
    let one = number_pair w32 (2 ^ 32) kind.Entry (λ n. nat_lt n (lines_in h)) wide32 in
    let two = field_pair B kind.Entry any (λ bytes. bytes) (λ bytes. bytes) (λ bytes. length bytes ≡ B) (bytes_field B) in
    let three = field_pair (B / 8) kind.Entry (is_given B r.bytes) (λ bits. given_from bits 0 B) (packed B) (GivenFits B r.bytes) (given_field B r.bytes whole) in
    let a = one.again r.line c (r.bytes ++ (packed B r.given ++ rest)) fit.0 (e ∙ append_assoc (u32 r.line) (r.bytes ++ packed B r.given) rest ∙ ap (λ t. u32 r.line ++ t) (append_assoc r.bytes (packed B r.given) rest)) in
    let b = two.again r.bytes a.0 (packed B r.given ++ rest) fit.1.0 a.2 in
    let d = three.again r.given b.0 rest fit.1.1 b.2 in
    (d.0, entry_read B h r c a.0 b.0 d.0 a.1 b.1 d.1, d.2)

pub entry_pair : (B : ℕ) → B % 8 ≡ 0 → (h : Head) → IsPair (entry_at B h) entry_bytes (EntryFits B h)
entry_pair B whole h = record { takes = entry_takes B whole h; again = entry_again B whole h }

pub entry_saved : (B : ℕ) (h : Head) (e : EntryImage B) → EntryFits B h e → IsSavedEntry h e
entry_saved B h e fit = record { line = true_lt _ _ fit.0.1; masked = record { bytes_len = fit.1.0; given_len = fit.1.1.0; some = fit.1.1.1.0; others = fit.1.1.1.1 } }

-- ---- slots and counts

abbrev pub IsSlot : Head → ℕ → Type 0
IsSlot h slot = Passes (2 ^ 32) (λ n. nat_lt n (slots_in h)) slot

pub slot_pair : (h : Head) → IsPair (number_at w32 kind.Bank (λ n. nat_lt n (slots_in h))) u32 (IsSlot h)
slot_pair h = number_pair w32 (2 ^ 32) kind.Bank (λ n. nat_lt n (slots_in h)) wide32

-- a number that was read is how many there are
pub counted : (test : ℕ → Bool) (before after : Cursor) (n size : ℕ) → size ≡ n → Takes before (u16 n) after × Passes (2 ^ 16) test n
    → Takes before (u16 size) after × Passes (2 ^ 16) test size
counted test before after n size is t = subst (λ (k : ℕ). Takes before (u16 k) after × Passes (2 ^ 16) test k) (sym is) t

-- ---- the size of a line

-- the first two fields, of a format whose images begin with these eight bytes
module _ (front : List ℕ) (eight : length front ≡ 8) where
  front_field : IsField 8 (λ bytes. bytes_eq bytes front) any (λ x. front) (λ x. x ≡ true)
  front_field = record { back = λ bytes len small is. (sym ((bytes_eq-Decides bytes front).0 is), refl); len = λ x fit. eight; passes = λ x fit. (bytes_eq-Decides front front).1 refl; same = λ x fit. sym fit }

  pub size_takes : (test : ℕ → Bool) (c : Cursor) (x : ℕ × Cursor) → IsBytes c.left → size_at front test c ≡ Ok x → Takes c (front ++ u8 x.0) x.1 × Passes 256 test x.0
  unfolding size_at
  size_takes test c x small e =
      let m = field_pair 8 kind.Magic (λ bytes. bytes_eq bytes front) any (λ x. front) (λ x. x ≡ true) front_field in
      let a = bind_ok (field 8 kind.Magic (λ bytes. bytes_eq bytes front) any c) (λ m. byte_at kind.Size test m.1) x e in
      let t0 = m.takes c a.0 small a.1 in
      let t1 = (byte_pair kind.Size test).takes a.0.1 x t0.0.rest_fits a.2 in
      (Takes-then c front a.0.1 (u8 x.0) x.1 t0.0 t1.0, t1.1)

  pub size_again : (test : ℕ → Bool) (n : ℕ) (c : Cursor) (rest : List ℕ) → Passes 256 test n → c.left ≡ front ++ (u8 n ++ rest) → (after : Cursor) × (size_at front test c ≡ Ok (n, after)) × (after.left ≡ rest)
  unfolding size_at
  size_again test n c rest fit e =
      let m = field_pair 8 kind.Magic (λ bytes. bytes_eq bytes front) any (λ x. front) (λ x. x ≡ true) front_field in
      let a = m.again true c (u8 n ++ rest) refl e in
      let b = (byte_pair kind.Size test).again n a.0 rest fit a.2 in
      (b.0, rw (a.1, b.1) refl, b.2)

-- seven parts, one behind another
pub seven : (c c0 c1 c2 c3 c4 c5 c6 : Cursor) (x0 x1 x2 x3 x4 x5 x6 : List ℕ) → Takes c x0 c0 → Takes c0 x1 c1 → Takes c1 x2 c2 → Takes c2 x3 c3 → Takes c3 x4 c4 → Takes c4 x5 c5 → Takes c5 x6 c6
    → Takes c (x0 ++ (x1 ++ (x2 ++ (x3 ++ (x4 ++ (x5 ++ x6)))))) c6
seven c c0 c1 c2 c3 c4 c5 c6 x0 x1 x2 x3 x4 x5 x6 t0 t1 t2 t3 t4 t5 t6 =
    Takes-then c x0 c0 (x1 ++ (x2 ++ (x3 ++ (x4 ++ (x5 ++ x6))))) c6 t0
    (Takes-then c0 x1 c1 (x2 ++ (x3 ++ (x4 ++ (x5 ++ x6)))) c6 t1
    (Takes-then c1 x2 c2 (x3 ++ (x4 ++ (x5 ++ x6))) c6 t2
    (Takes-then c2 x3 c3 (x4 ++ (x5 ++ x6)) c6 t3
    (Takes-then c3 x4 c4 (x5 ++ x6) c6 t4
    (Takes-then c4 x5 c5 x6 c6 t5 t6)))))
