-- What is read is before the end, wherever a reader stops: what is before it and what is left come to the same number of bytes.
use Rattle.std.proofs.Common.{◌≡◌, ℕ, zero, suc, ◌+◌, ◌/◌, ◌≤◌, Bool, cond, ltb, nat_le, nat_lt, List, [], ◌∷◌, length, take, drop, Ok, sym, ap, ◌∙◌, arith}
use Rattle.std.{specs.Int.{Width, w16, w32, w64, byte_len, from_le_bytes}, specs.Str.bytes_eq, proofs.lemmas.Bool.ltb-false, proofs.lemmas.List.length-drop}
use Rattle.module_shape.specs.Limits.{is_power_between, large_limits}
use Rattle.pcm_image.specs.Reading.{Cursor, Got, fault, field, first_byte, any, byte_at, number_at, times, is_size_of, size_at, head_at, region_at, bank_at, entry_at, is_given, given_from}
use Rattle.pcm_image.specs.{Saved.{Head, SavedBank, is_lines_in, lines_in, slots_in}, declared.EntryImage.EntryImage, declared.ImageKind.ImageKind}
use Rattle.pcm_image.{specs.declared.ImageKind.TheVariants.Short, specs.declared.RegionImage.RegionImage, specs.declared.Format.TheVariants.Large, proofs.Pairs.{bound, failed_not, passed, ok_is}}
use Rattle.pcm_image.specs.declared.ImageKind.TheVariants as kind
use Rattle.large_image.specs.Spelling.{magic}
use Rattle.large_reader.specs.Giving.{end_of}

abbrev pub IsSteady : {T : Type 0} → (Cursor → Got T) → Type 0
IsSteady {T} one = (c : Cursor) (x : T × Cursor) → one c ≡ Ok x → end_of x.1 ≡ end_of c

pub field_steady : {T : Type 0} (n : ℕ) (kind : ImageKind) (test : List ℕ → Bool) (value : List ℕ → T) → IsSteady (field n kind test value)
field_steady {T} n kind test value c x e =
    let made : T × Cursor = (value (take n c.left), record { at = c.at + n; left = drop n c.left }) in
    let g = failed_not (ltb (length c.left) n) (record { at = c.at; kind = Short }) (cond (test (take n c.left)) (Ok made) (fault c kind)) x e in
    let h = passed (test (take n c.left)) (record { at = c.at; kind = kind }) made x g.1 in
    let long : n ≤ length c.left = ltb-false _ _ g.0 in
    let end : end_of made.1 ≡ end_of c = omega (arith, length-drop n c.left, long) in
    ap (λ (y : T × Cursor). end_of y.1) (sym h.1) ∙ end

pub number_steady : (w : Width) (kind : ImageKind) (test : ℕ → Bool) → IsSteady (number_at w kind test)
number_steady w kind test = field_steady (byte_len w) kind (λ bytes. test (from_le_bytes w bytes)) (from_le_bytes w)

byte_steady : (kind : ImageKind) (test : ℕ → Bool) → IsSteady (byte_at kind test)
byte_steady kind test = field_steady 1 kind (λ bytes. test (first_byte bytes)) first_byte

pub times_steady : {T : Type 0} (one : Cursor → Got T) → IsSteady one → (n : ℕ) → IsSteady (times n one)
times_steady {T} one h zero c x e = ap (λ (y : List T × Cursor). end_of y.1) (sym (ok_is ([], c) x e))
times_steady {T} one h (suc n) c x e =
    bound _ _ x _ e (λ x0 e0 n0. bound _ _ x _ n0 (λ x1 e1 n1.
    ap (λ (y : List T × Cursor). end_of y.1) (sym (ok_is (x0.0 ∷ x1.0, x1.1) x n1)) ∙ times_steady one h n x0.1 x1 e1 ∙ h c x0 e0))

size_steady : (test : ℕ → Bool) → IsSteady (size_at magic test)
unfolding size_at
size_steady test c x e = bound _ _ x _ e (λ x0 e0 n0. byte_steady kind.Size test x0.1 x n0 ∙ field_steady 8 kind.Magic (λ bytes. bytes_eq bytes magic) any c x0 e0)

pub head_steady : (B : ℕ) → IsSteady (head_at Large B)
unfolding head_at
head_steady B c x e =
    bound _ _ x _ e (λ x0 e0 n0. bound _ _ x _ n0 (λ x1 e1 n1. bound _ _ x _ n1 (λ x2 e2 n2. bound _ _ x _ n2 (λ x3 e3 n3. bound _ _ x _ n3 (λ x4 e4 n4. bound _ _ x _ n4 (λ x5 e5 n5. bound _ _ x _ n5 (λ x6 e6 n6.
    ap (λ (y : Head × Cursor). end_of y.1) (sym (ok_is (record { banks = x1.0; regions = x2.0; lines = x3.0; spares = x4.0; seed = x5.0; home = x6.0 }, x6.1) x n6))
    ∙ byte_steady kind.Shape (λ n. nat_lt n 2) x5.1 x6 e6
    ∙ number_steady w64 kind.Shape any x4.1 x5 e5
    ∙ number_steady w16 kind.Shape (λ n. nat_le n 1024) x3.1 x4 e4
    ∙ number_steady w32 kind.Shape (is_lines_in large_limits x1.0 x2.0) x2.1 x3 e3
    ∙ byte_steady kind.Shape (is_power_between 1 64) x1.1 x2 e2
    ∙ byte_steady kind.Shape (is_power_between 1 64) x0.1 x1 e1
    ∙ size_steady (is_size_of B) c x0 e0)))))))

region_steady : (h : Head) → IsSteady (region_at Large h)
unfolding region_at
region_steady h c x e =
    bound _ _ x _ e (λ x0 e0 n0. bound _ _ x _ n0 (λ x1 e1 n1. bound _ _ x _ n1 (λ x2 e2 n2.
    ap (λ (y : RegionImage × Cursor). end_of y.1) (sym (ok_is (record { start = x0.0; gap = x1.0; counter = x2.0 }, x2.1) x n2))
    ∙ number_steady w16 kind.Bank any x1.1 x2 e2
    ∙ number_steady w32 kind.Bank (λ n. nat_le n h.lines) x0.1 x1 e1
    ∙ number_steady w32 kind.Bank (λ n. nat_lt n h.lines) c x0 e0)))

entry_steady : (B : ℕ) (h : Head) → IsSteady (entry_at B h)
unfolding entry_at
entry_steady B h c x e =
    bound _ _ x _ e (λ x0 e0 n0. bound _ _ x _ n0 (λ x1 e1 n1. bound _ _ x _ n1 (λ x2 e2 n2.
    ap (λ (y : EntryImage B × Cursor). end_of y.1) (sym (ok_is (record { line = x0.0; bytes = x1.0; given = x2.0 }, x2.1) x n2))
    ∙ field_steady (B / 8) kind.Entry (is_given B x1.0) (λ bits. given_from bits 0 B) x1.1 x2 e2
    ∙ field_steady B kind.Entry any (λ bytes. bytes) x0.1 x1 e1
    ∙ number_steady w32 kind.Entry (λ n. nat_lt n (lines_in h)) c x0 e0)))

pub bank_steady : (B : ℕ) (h : Head) → IsSteady (bank_at Large B h)
unfolding bank_at
bank_steady B h c x e =
    bound _ _ x _ e (λ x0 e0 n0. bound _ _ x _ n0 (λ x1 e1 n1. bound _ _ x _ n1 (λ x2 e2 n2. bound _ _ x _ n2 (λ x3 e3 n3. bound _ _ x _ n3 (λ x4 e4 n4. bound _ _ x _ n4 (λ x5 e5 n5.
    ap (λ (y : SavedBank B × Cursor). end_of y.1) (sym (ok_is (record { mark = x0.0; replaced = x2.0; regions = x3.0; entries = x5.0 }, x5.1) x n5))
    ∙ times_steady (entry_at B h) (entry_steady B h) x4.0 x4.1 x5 e5
    ∙ number_steady w16 kind.Bank (λ n. nat_le n 256) x3.1 x4 e4
    ∙ times_steady (region_at Large h) (region_steady h) h.regions x2.1 x3 e3
    ∙ times_steady (number_at w32 kind.Bank (λ n. nat_lt n (slots_in h))) (number_steady w32 kind.Bank (λ n. nat_lt n (slots_in h))) x1.0 x1.1 x2 e2
    ∙ number_steady w16 kind.Bank (λ n. nat_le n h.spares) x0.1 x1 e1
    ∙ byte_steady kind.Bank (λ n. nat_lt n 2) c x0 e0))))))
