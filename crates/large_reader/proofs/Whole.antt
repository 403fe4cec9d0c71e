-- The two laws: what is read is saved so, and what is saved so is read.
use Rattle.std.proofs.Common.{◌≡◌, ℕ, ◌*◌, ◌%◌, ◌<◌, ◌≤◌, true, eqb, List, [], ◌++◌, length, Result, Ok, Err, refl, sym, ap, subst, ◌∙◌, append_assoc, arith}
use Rattle.std.{specs.List.{flat_map, AllByRecursion}, specs.Prelude.{IfOk, OnOk, IsTrue}, proofs.lemmas.Bool.eqb-true}
use Rattle.std.proofs.{lemmas.List.{append-nil, nil_from_length}, lemmas.List.Elements.All-from_recursion}
use Rattle.module_shape.specs.Limits.{large_limits}
use Rattle.pcm_image.specs.{Giving.Gives, Reading.{Cursor, times, is_size, size_behind, head_at, bank_at}, Spelling.{u8, u16, u32, u64}}
use Rattle.pcm_image.specs.Saved.{Saved, IsHeadIn, IsSavedIn, IsSavedBank, IsSavedRow, array_lines_in}
use Rattle.pcm_image.specs.{declared.fields.ReadImage.ReadImage, declared.Format.TheVariants.Large}
use Rattle.pcm_image.proofs.{Entries.{all_map, size_again}, Fronts.{all_to, BankFits, bank_pair, bank_saved, bank_back, head_takes, head_again}, Heads.array_lines-few, Loop.gives_on}
use Rattle.pcm_image.proofs.Pairs.{IsBytes, bound, passed, Takes, Takes-then, times_takes, times_again}
use Rattle.pcm_image.specs.declared.ImageKind.TheVariants as kind
use Rattle.large_image.specs.Spelling.{magic, head_bytes, bank_bytes, rows_bytes, end_mark, large_front, large_bytes}
use Rattle.large_reader.{specs.Reading.{size_of, rows_at, large_of}, proofs.Cells.{RowFits, AreTaken, rows_takes, rows_again}}

-- the parts of an image that were read, one behind another
large_joined : {B M : ℕ} (s : Saved B M) (c c0 c1 c2 : Cursor) → eqb (length c2.left) 0 ≡ true → Takes c (head_bytes B s.head) c0 × IsHeadIn large_limits s.head
    → Takes c0 (flat_map bank_bytes s.parts) c1 × (length s.parts ≡ s.head.banks) × AllByRecursion (BankFits Large B s.head) s.parts
    → AreTaken B M 0 (s.head.banks * array_lines_in s.head) c1 (s.cells, c2) → IsSavedIn large_limits s × (c.left ≡ large_bytes s)
unfolding large_front large_bytes
large_joined {B} {M} s c c0 c1 c2 none t0 t1 t2 =
    let front = head_bytes B s.head in
    let banks = flat_map bank_bytes s.parts in
    let rows = rows_bytes 0 s.cells in
    let m1 = Takes-then c0 banks c1 (rows ++ u32 end_mark) c2 t1.0 t2.0 in
    let m0 = Takes-then c front c0 (banks ++ (rows ++ u32 end_mark)) c2 t0.0 m1 in
    let nothing : c2.left ≡ [] = nil_from_length c2.left (eqb-true _ _ none) in
    let text : front ++ (banks ++ (rows ++ u32 end_mark)) ≡ large_bytes s =
    ap (λ (t : List ℕ). front ++ t) (sym (append_assoc banks rows (u32 end_mark))) ∙ sym (append_assoc front (banks ++ rows) (u32 end_mark)) in (
      record {
        head = t0.1;
        one_each = t1.1;
        parts = All-from_recursion (IsSavedBank s.head) s.parts (all_map (BankFits Large B s.head) (IsSavedBank s.head) s.parts (bank_saved Large B s.head) t1.2);
        all_lines = t2.1;
        rows = All-from_recursion (IsSavedRow B M) s.cells (all_map (RowFits B M) (IsSavedRow B M) s.cells (λ row k. record { bits = k.0; meta = k.1 }) t2.2);
      },
      m0.parts ∙ ap (λ (t : List ℕ). t ++ c2.left) text ∙ ap (λ (r : List ℕ). large_bytes s ++ r) nothing ∙ append-nil (large_bytes s),
    )

large_takes : (B M : ℕ) → B % 8 ≡ 0 → (bytes : List ℕ) (s : Saved B M) → IsBytes bytes → large_of B M bytes ≡ Ok s → IsSavedIn large_limits s × (bytes ≡ large_bytes s) × (is_size B ≡ true)
unfolding large_of
large_takes B M whole bytes s small e =
    bound _ _ s _ e (λ x0 e0 n0. bound _ _ s _ n0 (λ x1 e1 n1. bound _ _ s _ n1 (λ x2 e2 n2.
    let g = passed (eqb (length x2.1.left) 0) (record { at = x2.1.at; kind = kind.Extra }) (record { head = x0.0; parts = x1.0; cells = x2.0 }) s n2 in
    let t0 = head_takes Large B (record { at = 0; left = bytes }) x0 small e0 in
    let t1 = times_takes (bank_at Large B x0.0) bank_bytes (BankFits Large B x0.0) (bank_pair Large B whole x0.0) x0.0.banks x0.1 x1 t0.0.rest_fits e1 in
    let t2 = rows_takes B M (x0.0.banks * array_lines_in x0.0) 0 x1.1 x2 t1.0.rest_fits e2 in
    let made = large_joined (record { head = x0.0; parts = x1.0; cells = x2.0 }) (record { at = 0; left = bytes }) x0.1 x1.1 x2.1 g.0 (t0.0, t0.1) t1 t2 in
    subst (λ (v : Saved B M). IsSavedIn large_limits v × (bytes ≡ large_bytes v) × (is_size B ≡ true)) g.1 (made.0, made.1, t0.2))))

-- the parts of an image, one behind another
large_read : (B M : ℕ) (bytes : List ℕ) (s : Saved B M) (c0 c1 c2 : Cursor) → head_at Large B (record { at = 0; left = bytes }) ≡ Ok (s.head, c0)
    → times s.head.banks (bank_at Large B s.head) c0 ≡ Ok (s.parts, c1) → rows_at B M 0 (s.head.banks * array_lines_in s.head) c1 ≡ Ok (s.cells, c2)
    → eqb (length c2.left) 0 ≡ true → large_of B M bytes ≡ Ok s
unfolding large_of
large_read B M bytes s c0 c1 c2 p0 p1 p2 none = gives_on _ _ _ _ p0 (gives_on _ _ _ _ p1 (gives_on _ _ _ _ p2 (rw none refl)))

pub large_again : (B M : ℕ) → B % 8 ≡ 0 → B ≤ 128 → is_size B ≡ true → (s : Saved B M) → IsSavedIn large_limits s → large_of B M (large_bytes s) ≡ Ok s
unfolding large_front large_bytes
large_again B M whole few sized s k =
    let h = s.head in
    let front = head_bytes B h in
    let banks = flat_map bank_bytes s.parts in
    let rows = rows_bytes 0 s.cells in
    let c : Cursor = record { at = 0; left = large_bytes s } in
    let text : large_bytes s ≡ front ++ (banks ++ (rows ++ u32 end_mark)) =
    append_assoc front (banks ++ rows) (u32 end_mark) ∙ ap (λ (t : List ℕ). front ++ t) (append_assoc banks rows (u32 end_mark)) in
    let a0 = head_again Large B few sized h c (banks ++ (rows ++ u32 end_mark)) k.head text in
    let a1 = times_again (bank_at Large B h) bank_bytes (BankFits Large B h) (bank_pair Large B whole h) s.parts a0.0 (rows ++ u32 end_mark) (all_map (IsSavedBank h) (BankFits Large B h) s.parts (bank_back Large B h k.head) (all_to (IsSavedBank h) s.parts k.parts)) a0.2 in
    let read1 = subst (λ (n : ℕ). times n (bank_at Large B h) a0.0 ≡ Ok (s.parts, a1.0)) k.one_each a1.1 in
    let lines = array_lines-few h k.head in
    let a2 = rows_again B M s.cells 0 a1.0 [] (all_map (IsSavedRow B M) (RowFits B M) s.cells (λ row f. (f.bits, f.meta)) (all_to (IsSavedRow B M) s.cells k.rows)) (omega (arith, lines, k.all_lines))
    (a1.2 ∙ ap (λ (t : List ℕ). rows ++ t) (sym (append-nil (u32 end_mark)))) in
    let read2 = subst (λ (n : ℕ). rows_at B M 0 n a1.0 ≡ Ok (s.cells, a2.0)) k.all_lines a2.1 in
    let none : eqb (length a2.0.left) 0 ≡ true = rw a2.2 refl in
    large_read B M c.left s a0.0 a1.0 a2.0 a0.1 read1 read2 none

pub is_found : {B M : ℕ} (bytes : List ℕ) (r : Result (Saved B M) ReadImage) → B % 8 ≡ 0 → IsBytes bytes → Gives (λ image. image) r (large_of B M bytes) → IfOk r (λ image. IsSavedIn large_limits image × (bytes ≡ large_bytes image))
is_found {B} {M} bytes (Ok s) whole small given = let t = large_takes B M whole bytes s small given in (t.0, t.1)
is_found bytes (Err e) whole small given = tt

-- only lines of a size that an image may have are read
pub is_sized : {B M : ℕ} (bytes : List ℕ) (r : Result (Saved B M) ReadImage) → B % 8 ≡ 0 → IsBytes bytes → Gives (λ image. image) r (large_of B M bytes) → OnOk r (IsTrue (is_size B))
is_sized {B} {M} bytes (Ok s) whole small given = let t = large_takes B M whole bytes s small given in t.2
is_sized bytes (Err e) whole small given = tt

-- the first two fields of what is saved
pub size-is : (B M : ℕ) (s : Saved B M) → is_size B ≡ true → B < 256 → size_of (large_bytes s) ≡ Ok B
unfolding size_behind large_front large_bytes
size-is B M s is lt =
    let h = s.head in
    let rest = flat_map bank_bytes s.parts ++ rows_bytes 0 s.cells in
    let numbers = u8 h.banks ++ (u8 h.regions ++ (u32 h.lines ++ (u16 h.spares ++ (u64 h.seed ++ u8 h.home)))) in
    let a = size_again magic refl is_size B (record { at = 0; left = large_bytes s }) ((numbers ++ rest) ++ u32 end_mark) (lt, is) refl in
    rw a.1 refl
