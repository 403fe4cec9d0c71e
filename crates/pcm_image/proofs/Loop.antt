-- Reading fields one after the other, as a loop does.
use Rattle.std.proofs.Common.{◌≡◌, ℕ, suc, ◌-◌, ◌+◌, ◌≤◌, ◌<◌, List, [], ◌∷◌, ◌++◌, Ok, Err, refl, sym, ap, ◌∙◌, append_assoc, arith}
use Rattle.std.{specs.Prelude.Result, proofs.lemmas.List.append-nil}
use Rattle.pcm_image.specs.{Giving.Fails, Reading.{Cursor, Got, ◌>>=◌, times}, declared.ImageFault.ImageFault, declared.fields.ReadImage.ReadImage}
use Rattle.pcm_image.specs.declared.fields.ReadImage.TheVariants as read

-- a step that fails, here or behind one that did not
pub fails_here : {A B : Type 0} (e : ReadImage) (one : Result A ImageFault) (next : A → Result B ImageFault) → Fails e one → Fails e (one >>= next)
fails_here read.NoMemory one next h = tt
fails_here (read.Bad f) one next h = ap (λ r. r >>= next) h

pub fails_later : {A B : Type 0} (e : ReadImage) (one : Result A ImageFault) (x : A) (next : A → Result B ImageFault) → one ≡ Ok x → Fails e (next x) → Fails e (one >>= next)
fails_later read.NoMemory one x next is h = tt
fails_later (read.Bad f) one x next is h = ap (λ r. r >>= next) is ∙ h

-- a step that gives a value, and what the next one makes of it
pub gives_on : {A B : Type 0} (one : Result A ImageFault) (x : A) (next : A → Result B ImageFault) (y : Result B ImageFault) → one ≡ Ok x → next x ≡ y → (one >>= next) ≡ y
gives_on one x next y is then = ap (λ r. r >>= next) is ∙ then

-- what was read before, and what is still read
abbrev pub with_front : {T : Type 0} → List T → Got (List T) → Got (List T)
with_front front others = others >>= λ x. Ok (front ++ x.0, x.1)

regroup : {T : Type 0} (front : List T) (n : T) (others : Got (List T)) → with_front front (others >>= λ x. Ok (n ∷ x.0, x.1)) ≡ with_front (front ++ n ∷ []) others
regroup front n (Ok x) = ap (λ ns. Ok (ns, x.1)) (simp append_assoc)
regroup front n (Err f) = refl

pub goes_on : {T : Type 0} (one : Cursor → Got T) (front : List T) (count i : ℕ) (c : Cursor) (n : T) (after : Cursor) (total : Got (List T)) → i < count → one c ≡ Ok (n, after)
    → with_front front (times (count - i) one c) ≡ total → with_front (front ++ n ∷ []) (times (count - (i + 1)) one after) ≡ total
goes_on one front count i c n after total lt h so_far =
    let k : count - i ≡ suc (count - (i + 1)) = omega arith in
    let first : with_front front (times (count - i) one c) ≡ with_front (front ++ n ∷ []) (times (count - (i + 1)) one after) = rw (k, h) (regroup front n (times (count - (i + 1)) one after)) in
    sym first ∙ so_far

pub ends : {T : Type 0} (one : Cursor → Got T) (e : ReadImage) (front : List T) (count i : ℕ) (c : Cursor) (total : Got (List T)) → i < count → Fails e (one c)
    → with_front front (times (count - i) one c) ≡ total → Fails e total
ends one read.NoMemory front count i c total lt h so_far = tt
ends one (read.Bad f) front count i c total lt h so_far =
    let k : count - i ≡ suc (count - (i + 1)) = omega arith in
    let first : with_front front (times (count - i) one c) ≡ Err f = rw (k, h) refl in
    sym so_far ∙ first

pub is_done : {T : Type 0} (one : Cursor → Got T) (front : List T) (count i : ℕ) (c : Cursor) (total : Got (List T)) → count ≤ i → with_front front (times (count - i) one c) ≡ total → total ≡ Ok (front, c)
is_done one front count i c total le so_far =
    let k : count - i ≡ 0 = omega arith in
    let first : with_front front (times (count - i) one c) ≡ Ok (front, c) = rw k (ap (λ ns. Ok (ns, c)) (append-nil front)) in
    sym so_far ∙ first
