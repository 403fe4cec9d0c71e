-- The two laws: what is read is saved so, and what is saved so is read.
use Rattle.std.proofs.Common.{◌≡◌, ℕ, ◌+◌, ◌*◌, ◌%◌, ◌<◌, ◌≤◌, true, eqb, List, [], ◌++◌, length, Result, Ok, Err, refl, sym, ap, subst, ◌∙◌, arith}
use Rattle.std.{specs.List.{flat_map, AllByRecursion}, specs.Prelude.{IfOk, OnOk, IsTrue}, proofs.lemmas.Bool.eqb-true}
use Rattle.std.proofs.lemmas.List.{append-nil, nil_from_length, length-append, length-take, length-drop, take_at, drop_at, take-append-drop}
use Rattle.std.proofs.lemmas.List.Elements.{All-from_recursion}
use Rattle.cell_rows.specs.declared.row.Cells.{Cells}
use Rattle.pcm_image.specs.{Giving.Gives, Reading.{Cursor, any, times, is_size, size_of, size_behind, head_at, bank_at, row_of, cells_at, image_of}}
use Rattle.pcm_image.specs.Saved.{Saved, IsHead, IsSaved, IsSavedBank, IsSavedRow, array_lines_in}
use Rattle.pcm_image.specs.Spelling.{u8, u16, u64, magic, head_bytes, bank_bytes, cells_bytes, image_bytes}
use Rattle.pcm_image.specs.{declared.fields.ReadImage.ReadImage, declared.Format.TheVariants.Small}
use Rattle.pcm_image.proofs.{Entries.{all_map, size_again}, Loop.gives_on, Fronts.{all_to, BankFits, bank_pair, bank_saved, bank_back, head_takes, head_again}}
use Rattle.pcm_image.proofs.Pairs.{IsBytes, bound, passed, Takes, Takes-then, IsPair, IsField, field_pair, times_takes, times_again}
use Rattle.pcm_image.specs.declared.ImageKind.TheVariants as kind

-- ---- a row of cells

abbrev pub RowFits : (B M : ℕ) → Cells B M → Type 0
RowFits B M row = (length row.bits ≡ B) × (length row.meta ≡ M)

cells_field : (B M : ℕ) → IsField (B + M) any (row_of B M) cells_bytes (RowFits B M)
cells_field B M = record {
  back = λ bytes len small is. (take-append-drop B bytes, (omega (arith, length-take B bytes, len), omega (arith, length-drop B bytes, len)));
  len = λ row fit. omega (arith, length-append row.bits row.meta, fit.0, fit.1);
  passes = λ row fit. refl;
  same = λ row fit. rw (take_at row.bits row.meta B fit.0, drop_at row.bits row.meta B fit.0) refl;
}

cells_pair : (B M : ℕ) → IsPair (cells_at B M) cells_bytes (RowFits B M)
unfolding cells_at
cells_pair B M = field_pair (B + M) kind.Short any (row_of B M) cells_bytes (RowFits B M) (cells_field B M)

-- ---- the whole

-- the parts of an image that were read, one behind another
image_joined : {B M : ℕ} (s : Saved B M) (c c0 c1 c2 : Cursor) → eqb (length c2.left) 0 ≡ true → Takes c (head_bytes B s.head) c0 × IsHead s.head
    → Takes c0 (flat_map bank_bytes s.parts) c1 × (length s.parts ≡ s.head.banks) × AllByRecursion (BankFits Small B s.head) s.parts
    → Takes c1 (flat_map cells_bytes s.cells) c2 × (length s.cells ≡ s.head.banks * array_lines_in s.head) × AllByRecursion (RowFits B M) s.cells
    → IsSaved s × (c.left ≡ image_bytes s)
unfolding image_bytes
image_joined {B} {M} s c c0 c1 c2 none t0 t1 t2 =
    let m1 = Takes-then c0 _ c1 _ c2 t1.0 t2.0 in
    let m0 = Takes-then c _ c0 _ c2 t0.0 m1 in
    let nothing : c2.left ≡ [] = nil_from_length c2.left (eqb-true _ _ none) in (
      record {
        head = t0.1;
        one_each = t1.1;
        parts = All-from_recursion (IsSavedBank s.head) s.parts (all_map (BankFits Small B s.head) (IsSavedBank s.head) s.parts (bank_saved Small B s.head) t1.2);
        all_lines = t2.1;
        rows = All-from_recursion (IsSavedRow B M) s.cells (all_map (RowFits B M) (IsSavedRow B M) s.cells (λ row k. record { bits = k.0; meta = k.1 }) t2.2);
      },
      m0.parts ∙ ap (λ (r : List ℕ). image_bytes s ++ r) nothing ∙ append-nil (image_bytes s),
    )

pub image_takes : (B M : ℕ) → B % 8 ≡ 0 → (bytes : List ℕ) (s : Saved B M) → IsBytes bytes → image_of B M bytes ≡ Ok s → IsSaved s × (bytes ≡ image_bytes s) × (is_size B ≡ true)
unfolding image_of
image_takes B M whole bytes s small e =
    bound _ _ s _ e (λ x0 e0 n0. bound _ _ s _ n0 (λ x1 e1 n1. bound _ _ s _ n1 (λ x2 e2 n2.
    let g = passed (eqb (length x2.1.left) 0) (record { at = x2.1.at; kind = kind.Extra }) (record { head = x0.0; parts = x1.0; cells = x2.0 }) s n2 in
    let t0 = head_takes Small B (record { at = 0; left = bytes }) x0 small e0 in
    let t1 = times_takes (bank_at Small B x0.0) bank_bytes (BankFits Small B x0.0) (bank_pair Small B whole x0.0) x0.0.banks x0.1 x1 t0.0.rest_fits e1 in
    let t2 = times_takes (cells_at B M) cells_bytes (RowFits B M) (cells_pair B M) (x0.0.banks * array_lines_in x0.0) x1.1 x2 t1.0.rest_fits e2 in
    let made = image_joined (record { head = x0.0; parts = x1.0; cells = x2.0 }) (record { at = 0; left = bytes }) x0.1 x1.1 x2.1 g.0 (t0.0, t0.1) t1 t2 in
    subst (λ (v : Saved B M). IsSaved v × (bytes ≡ image_bytes v) × (is_size B ≡ true)) g.1 (made.0, made.1, t0.2))))

-- the parts of an image, one behind another
image_read : (B M : ℕ) (bytes : List ℕ) (s : Saved B M) (c0 c1 c2 : Cursor) → head_at Small B (record { at = 0; left = bytes }) ≡ Ok (s.head, c0)
    → times s.head.banks (bank_at Small B s.head) c0 ≡ Ok (s.parts, c1) → times (s.head.banks * array_lines_in s.head) (cells_at B M) c1 ≡ Ok (s.cells, c2)
    → eqb (length c2.left) 0 ≡ true → image_of B M bytes ≡ Ok s
unfolding image_of
image_read B M bytes s c0 c1 c2 p0 p1 p2 none = gives_on _ _ _ _ p0 (gives_on _ _ _ _ p1 (gives_on _ _ _ _ p2 (rw none refl)))

pub image_again : (B M : ℕ) → B % 8 ≡ 0 → B ≤ 128 → is_size B ≡ true → (s : Saved B M) → IsSaved s → image_of B M (image_bytes s) ≡ Ok s
unfolding image_of image_bytes
image_again B M whole few sized s k =
    let h = s.head in
    let w1 = flat_map bank_bytes s.parts in
    let w2 = flat_map cells_bytes s.cells in
    let c : Cursor = record { at = 0; left = head_bytes B h ++ (w1 ++ w2) } in
    let a0 = head_again Small B few sized h c (w1 ++ w2) k.head refl in
    let a1 = times_again (bank_at Small B h) bank_bytes (BankFits Small B h) (bank_pair Small B whole h) s.parts a0.0 w2 (all_map (IsSavedBank h) (BankFits Small B h) s.parts (bank_back Small B h k.head) (all_to (IsSavedBank h) s.parts k.parts)) a0.2 in
    let read1 = subst (λ (n : ℕ). times n (bank_at Small B h) a0.0 ≡ Ok (s.parts, a1.0)) k.one_each a1.1 in
    let a2 = times_again (cells_at B M) cells_bytes (RowFits B M) (cells_pair B M) s.cells a1.0 [] (all_map (IsSavedRow B M) (RowFits B M) s.cells (λ row f. (f.bits, f.meta)) (all_to (IsSavedRow B M) s.cells k.rows)) (a1.2 ∙ sym (append-nil w2)) in
    let read2 = subst (λ (n : ℕ). times n (cells_at B M) a1.0 ≡ Ok (s.cells, a2.0)) k.all_lines a2.1 in
    let none : eqb (length a2.0.left) 0 ≡ true = rw a2.2 refl in
    image_read B M c.left s a0.0 a1.0 a2.0 a0.1 read1 read2 none

pub is_found : {B M : ℕ} (bytes : List ℕ) (r : Result (Saved B M) ReadImage) → B % 8 ≡ 0 → IsBytes bytes → Gives (λ image. image) r (image_of B M bytes) → IfOk r (λ image. IsSaved image × (bytes ≡ image_bytes image))
is_found {B} {M} bytes (Ok s) whole small given = let t = image_takes B M whole bytes s small given in (t.0, t.1)
is_found bytes (Err e) whole small given = tt

-- only lines of a size that an image may have are read
pub is_sized : {B M : ℕ} (bytes : List ℕ) (r : Result (Saved B M) ReadImage) → B % 8 ≡ 0 → IsBytes bytes → Gives (λ image. image) r (image_of B M bytes) → OnOk r (IsTrue (is_size B))
is_sized {B} {M} bytes (Ok s) whole small given = let t = image_takes B M whole bytes s small given in t.2
is_sized bytes (Err e) whole small given = tt

-- the first two fields of what is saved
pub size-is : (B M : ℕ) (s : Saved B M) → is_size B ≡ true → B < 256 → size_of (image_bytes s) ≡ Ok B
unfolding size_behind image_bytes
size-is B M s is lt =
    let h = s.head in
    let c : Cursor = record { at = 0; left = head_bytes B h ++ (flat_map bank_bytes s.parts ++ flat_map cells_bytes s.cells) } in
    let a = size_again magic refl is_size B c (u8 h.banks ++ (u8 h.regions ++ (u16 h.lines ++ (u16 h.spares ++ (u64 h.seed ++ (u8 h.home ++ (flat_map bank_bytes s.parts ++ flat_map cells_bytes s.cells))))))) (lt, is) refl in
    rw (a.1) refl
