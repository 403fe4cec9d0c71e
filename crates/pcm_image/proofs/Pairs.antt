-- A field that is read is the field that was written, and what was written is read again.
use Rattle.std.proofs.Common.{◌≡◌, ℕ, zero, suc, ◌+◌, ◌^◌, ◌<◌, ◌≤◌, Bool, true, false, cond, ltb, List, [], ◌∷◌, ◌++◌, length, get_or, take, drop, Result, Ok, Err, refl, sym, ap, subst, ◌∙◌, append_assoc, arith, inl, inr}
use Rattle.std.{specs.Int.{Width, w16, w32, w64, byte_len, from_le_bytes, to_le_bytes}, specs.List.{flat_map, AllByRecursion}, proofs.lemmas.Bool.{cases_lt, ltb-false, le-ltb}}
use Rattle.std.proofs.{lemmas.List.{take_at, drop_at, take-append-drop, length-append, length-take, get_or-drop, get_or-take, get_or_past}, lemmas.List.Concat.flat_map-cons}
use Rattle.std.proofs.lemmas.Nat.{le_bytes_2, le_bytes_4, le_bytes_8, from_le_bytes-to_le_bytes_2, from_le_bytes-to_le_bytes_4, from_le_bytes-to_le_bytes_8}
use Rattle.pcm_image.specs.{Reading.{Cursor, Got, ◌>>=◌, fault, field, first_byte, byte_at, number_at, times}, Spelling.u8, declared.ImageFault.ImageFault}
use Rattle.pcm_image.specs.{declared.ImageKind.ImageKind, declared.ImageKind.TheVariants.Short}
use Rattle.pcm_image.specs.{Formats.{magic_of, width_of}, declared.Format.Format, declared.Format.TheVariants.{Small, Large}}

abbrev pub IsBytes : List ℕ → Type 0
IsBytes bytes = (i : ℕ) → get_or bytes i 0 < 256

pub IsBytes-drop : (n : ℕ) (bytes : List ℕ) → IsBytes bytes → IsBytes (drop n bytes)
IsBytes-drop n bytes h i = rw get_or-drop (h (n + i))

pub IsBytes-take : (n : ℕ) (bytes : List ℕ) → IsBytes bytes → IsBytes (take n bytes)
IsBytes-take n bytes h i =
    elim (cases_lt i n) [
      | inl lt ↦ rw (get_or-take n bytes i 0 lt) (h i)
      | inr le ↦ rw (get_or_past (take n bytes) i 0 (omega (arith, length-take n bytes))) (omega arith)
    ]

-- the value of a step that did not fail
pub bind_ok : {A B : Type 0} (r : Result A ImageFault) (f : A → Result B ImageFault) (y : B) → (r >>= f) ≡ Ok y → (x : A) × (r ≡ Ok x) × (f x ≡ Ok y)
bind_ok (Ok x) f y e = (x, refl, e)
bind_ok (Err d) f y e = absurd cc

-- what follows from the value of a step that did not fail
pub bound : {A B : Type 0} (one : Result A ImageFault) (next : A → Result B ImageFault) (y : B) (P : Type 0) → (one >>= next) ≡ Ok y → ((x : A) → one ≡ Ok x → next x ≡ Ok y → P) → P
bound (Ok x) next y P e then = then x refl e
bound (Err d) next y P e then = absurd cc

-- a test that did not fail
pub failed_not : {A : Type 0} (b : Bool) (d : ImageFault) (r : Result A ImageFault) (y : A) → cond b (Err d) r ≡ Ok y → (b ≡ false) × (r ≡ Ok y)
failed_not true d r y e = absurd cc
failed_not false d r y e = (refl, e)

abbrev done : {A : Type 0} → A → Result A ImageFault
done x = Ok x

pub ok_is : {A : Type 0} (x y : A) → done x ≡ done y → x ≡ y
ok_is x y e = cc

pub passed : {A : Type 0} (b : Bool) (d : ImageFault) (x y : A) → cond b (Ok x) (Err d) ≡ Ok y → (b ≡ true) × (x ≡ y)
passed true d x y e = (refl, ok_is x y e)
passed false d x y e = absurd cc

-- what a reader took from the front
pub record Takes (before : Cursor) (text : List ℕ) (after : Cursor) : Type 0 where
  pub parts : before.left ≡ text ++ after.left
  pub rest_fits : IsBytes after.left

pub Takes-then : (a : Cursor) (x : List ℕ) (b : Cursor) (y : List ℕ) (c : Cursor) → Takes a x b → Takes b y c → Takes a (x ++ y) c
Takes-then a x b y c p q = record { parts = p.parts ∙ ap (λ (t : List ℕ). x ++ t) q.parts ∙ sym (append_assoc x y c.left); rest_fits = q.rest_fits }

-- a reader reads what is spelled so, and that alone
pub record IsPair {T : Type 0} (one : Cursor → Got T) (text : T → List ℕ) (fits : T → Type 0) : Type 0 where
  pub takes : (c : Cursor) (x : T × Cursor) → IsBytes c.left → one c ≡ Ok x → Takes c (text x.0) x.1 × fits x.0
  pub again : (x : T) (c : Cursor) (rest : List ℕ) → fits x → c.left ≡ text x ++ rest → (after : Cursor) × (one c ≡ Ok (x, after)) × (after.left ≡ rest)

-- ---- one field

pub record IsField {T : Type 0} (n : ℕ) (test : List ℕ → Bool) (value : List ℕ → T) (text : T → List ℕ) (fits : T → Type 0) : Type 0 where
  pub back : (bytes : List ℕ) → length bytes ≡ n → IsBytes bytes → test bytes ≡ true → (text (value bytes) ≡ bytes) × fits (value bytes)
  pub len : (x : T) → fits x → length (text x) ≡ n
  pub passes : (x : T) → fits x → test (text x) ≡ true
  pub same : (x : T) → fits x → value (text x) ≡ x

field_takes : {T : Type 0} (n : ℕ) (kind : ImageKind) (test : List ℕ → Bool) (value : List ℕ → T) (text : T → List ℕ) (fits : T → Type 0) → IsField n test value text fits
    → (c : Cursor) (x : T × Cursor) → IsBytes c.left → field n kind test value c ≡ Ok x → Takes c (text x.0) x.1 × fits x.0
field_takes {T} n kind test value text fits f c x small e =
    let made : T × Cursor = (value (take n c.left), record { at = c.at + n; left = drop n c.left }) in
    let g = failed_not (ltb (length c.left) n) (record { at = c.at; kind = Short }) (cond (test (take n c.left)) (Ok made) (fault c kind)) x e in
    let h = passed (test (take n c.left)) (record { at = c.at; kind = kind }) made x g.1 in
    let long : n ≤ length c.left = ltb-false _ _ g.0 in
    let b = f.back (take n c.left) (omega (arith, length-take n c.left)) (IsBytes-take n c.left small) h.0 in
    let t : Takes c (text (value (take n c.left))) made.1 = record { parts = rw b.0 (sym (take-append-drop n c.left)); rest_fits = IsBytes-drop n c.left small } in
    subst (λ (y : T × Cursor). Takes c (text y.0) y.1 × fits y.0) h.1 (t, b.1)

field_again : {T : Type 0} (n : ℕ) (kind : ImageKind) (test : List ℕ → Bool) (value : List ℕ → T) (text : T → List ℕ) (fits : T → Type 0) → IsField n test value text fits
    → (x : T) (c : Cursor) (rest : List ℕ) → fits x → c.left ≡ text x ++ rest → (after : Cursor) × (field n kind test value c ≡ Ok (x, after)) × (after.left ≡ rest)
field_again n kind test value text fits f x c rest fit e =
    let len = f.len x fit in
    let long : ltb (length (text x ++ rest)) n ≡ false = le-ltb _ _ (omega (arith, length-append (text x) rest, len)) in
    (record { at = c.at + n; left = rest }, rw (e, long, take_at (text x) rest n len, drop_at (text x) rest n len, f.passes x fit, f.same x fit) refl, refl)

pub field_pair : {T : Type 0} (n : ℕ) (kind : ImageKind) (test : List ℕ → Bool) (value : List ℕ → T) (text : T → List ℕ) (fits : T → Type 0) → IsField n test value text fits
    → IsPair (field n kind test value) text fits
field_pair n kind test value text fits f = record { takes = field_takes n kind test value text fits f; again = field_again n kind test value text fits f }

-- ---- numbers

pub record IsWide (w : Width) (limit : ℕ) : Type 0 where
  pub len : (n : ℕ) → length (to_le_bytes w n) ≡ byte_len w
  pub back : (bytes : List ℕ) → length bytes ≡ byte_len w → IsBytes bytes → to_le_bytes w (from_le_bytes w bytes) ≡ bytes
  pub again : (n : ℕ) → n < limit → from_le_bytes w (to_le_bytes w n) ≡ n
  pub below : (bytes : List ℕ) → IsBytes bytes → from_le_bytes w bytes < limit

pub wide16 : IsWide w16 (2 ^ 16)
wide16 = record {
  len = λ n. refl;
  back = λ bytes len fits. le_bytes_2 bytes _ len fits refl;
  again = λ n lt. from_le_bytes-to_le_bytes_2 n lt;
  below = λ bytes fits. omega (arith, fits 0, fits 1);
}

pub wide32 : IsWide w32 (2 ^ 32)
wide32 = record {
  len = λ n. refl;
  back = λ bytes len fits. le_bytes_4 bytes _ len fits refl;
  again = λ n lt. from_le_bytes-to_le_bytes_4 n lt;
  below = λ bytes fits. omega (arith, fits 0, fits 1, fits 2, fits 3);
}

pub wide64 : IsWide w64 (2 ^ 64)
wide64 = record {
  len = λ n. refl;
  back = λ bytes len fits. le_bytes_8 bytes _ len fits refl;
  again = λ n lt. from_le_bytes-to_le_bytes_8 n lt;
  below = λ bytes fits. omega (arith, fits 0, fits 1, fits 2, fits 3, fits 4, fits 5, fits 6, fits 7);
}

-- a number of lines
abbrev pub limit_of : Format → ℕ
limit_of Small = 2 ^ 16
limit_of Large = 2 ^ 32

pub wide_of : (f : Format) → IsWide (width_of f) (limit_of f)
wide_of Small = wide16
wide_of Large = wide32

pub magic-eight : (f : Format) → length (magic_of f) ≡ 8
magic-eight Small = refl
magic-eight Large = refl

-- a number of a width that passes a test
abbrev pub Passes : ℕ → (ℕ → Bool) → ℕ → Type 0
Passes limit test n = (n < limit) × (test n ≡ true)

pub number_pair : (w : Width) (limit : ℕ) (kind : ImageKind) (test : ℕ → Bool) → IsWide w limit → IsPair (number_at w kind test) (to_le_bytes w) (Passes limit test)
number_pair w limit kind test wide =
    field_pair (byte_len w) kind (λ bytes. test (from_le_bytes w bytes)) (from_le_bytes w) (to_le_bytes w) (Passes limit test) (record {
      back = λ bytes len small is. (wide.back bytes len small, (wide.below bytes small, is));
      len = λ n fit. wide.len n;
      passes = λ n fit. rw (wide.again n fit.0) fit.1;
      same = λ n fit. wide.again n fit.0;
    })

one_byte : (bytes : List ℕ) → length bytes ≡ 1 → u8 (first_byte bytes) ≡ bytes
one_byte [] len = absurd cc
one_byte (b ∷ []) len = refl
one_byte (b ∷ c ∷ bytes) len = absurd (omega (arith, len))

first_small : (bytes : List ℕ) → IsBytes bytes → first_byte bytes < 256
first_small [] small = omega arith
first_small (b ∷ bytes) small = small 0

pub byte_pair : (kind : ImageKind) (test : ℕ → Bool) → IsPair (byte_at kind test) u8 (Passes 256 test)
byte_pair kind test =
    field_pair 1 kind (λ bytes. test (first_byte bytes)) first_byte u8 (Passes 256 test) (record {
      back = λ bytes len small is. (one_byte bytes len, (first_small bytes small, is));
      len = λ n fit. refl;
      passes = λ n fit. fit.1;
      same = λ n fit. refl;
    })

-- ---- one field behind another

pub times_takes : {T : Type 0} (one : Cursor → Got T) (text : T → List ℕ) (fits : T → Type 0) → IsPair one text fits
    → (n : ℕ) (c : Cursor) (x : List T × Cursor) → IsBytes c.left → times n one c ≡ Ok x → Takes c (flat_map text x.0) x.1 × (length x.0 ≡ n) × AllByRecursion fits x.0
times_takes {T} one text fits p zero c x small e =
    subst (λ (y : List T × Cursor). Takes c (flat_map text y.0) y.1 × (length y.0 ≡ 0) × AllByRecursion fits y.0) (ok_is ([], c) x e) (record { parts = refl; rest_fits = small }, refl, tt)
times_takes {T} one text fits p (suc n) c x small e =
    let a = bind_ok (one c) (λ first. times n one first.1 >>= λ others. Ok (first.0 ∷ others.0, others.1)) x e in
    let b = bind_ok (times n one a.0.1) (λ others. Ok (a.0.0 ∷ others.0, others.1)) x a.2 in
    let first = p.takes c a.0 small a.1 in
    let second = times_takes one text fits p n a.0.1 b.0 first.0.rest_fits b.1 in
    let both = Takes-then c (text a.0.0) a.0.1 (flat_map text b.0.0) b.0.1 first.0 second.0 in
    let made : List T × Cursor = (a.0.0 ∷ b.0.0, b.0.1) in
    subst (λ (y : List T × Cursor). Takes c (flat_map text y.0) y.1 × (length y.0 ≡ suc n) × AllByRecursion fits y.0) {x = made} (ok_is made x b.2) (rw flat_map-cons both, ap suc second.1, (first.1, second.2))

pub times_again : {T : Type 0} (one : Cursor → Got T) (text : T → List ℕ) (fits : T → Type 0) → IsPair one text fits
    → (xs : List T) (c : Cursor) (rest : List ℕ) → AllByRecursion fits xs → c.left ≡ flat_map text xs ++ rest → (after : Cursor) × (times (length xs) one c ≡ Ok (xs, after)) × (after.left ≡ rest)
times_again one text fits p [] c rest fit e = (c, refl, e)
times_again one text fits p (x ∷ xs) c rest fit e =
    let regrouped : flat_map text (x ∷ xs) ++ rest ≡ text x ++ (flat_map text xs ++ rest) = ap (λ (t : List ℕ). t ++ rest) (flat_map-cons text x xs) ∙ append_assoc (text x) (flat_map text xs) rest in
    let a = p.again x c (flat_map text xs ++ rest) fit.0 (e ∙ regrouped) in
    let b = times_again one text fits p xs a.0 rest fit.1 a.2 in
    (b.0, rw (a.1, b.1) refl, b.2)
