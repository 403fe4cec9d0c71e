-- One more step of a loop.
use Rattle.std.proofs.Common.{◌≡◌, ℕ, zero, suc, ◌+◌, ◌*◌, ◌<◌, Bool, true, false, ◌||◌, ◌==◌, List, [], ◌∷◌, ◌++◌, length, get_or, drop, refl, ap, ◌∙◌, arith, append_assoc}
use Rattle.masked_bytes.specs.Masked.{zero_elsewhere}
use Rattle.pcm_io.specs.Reserved.{Reserved, appended}
use Rattle.ecp_line.specs.{Layout.number, Reading.bytes_from}

pub zeros_step : (bytes : List ℕ) (given : List Bool) (i : ℕ) → length given ≡ length bytes → i < length bytes → (get_or given i false || get_or bytes i 0 == 0) ≡ true
    → zero_elsewhere (drop (i + 1) bytes) (drop (i + 1) given) ≡ zero_elsewhere (drop i bytes) (drop i given)
zeros_step [] given i len lt h = absurd (omega arith)
zeros_step (b ∷ bytes) [] i len lt h = absurd (omega (arith, len))
zeros_step (b ∷ bytes) (g ∷ given) zero len lt h = rw h refl
zeros_step (b ∷ bytes) (g ∷ given) (suc i) len lt h =
    let e : suc i + 1 ≡ suc (i + 1) = omega arith in
    rw e (zeros_step bytes given i (omega (arith, len)) (omega (arith, lt)) h)

pub zeros_fail : (bytes : List ℕ) (given : List Bool) (i : ℕ) → length given ≡ length bytes → i < length bytes → (get_or given i false || get_or bytes i 0 == 0) ≡ false
    → zero_elsewhere (drop i bytes) (drop i given) ≡ false
zeros_fail [] given i len lt h = absurd (omega arith)
zeros_fail (b ∷ bytes) [] i len lt h = absurd (omega (arith, len))
zeros_fail (b ∷ bytes) (g ∷ given) zero len lt h = rw h refl
zeros_fail (b ∷ bytes) (g ∷ given) (suc i) len lt h = zeros_fail bytes given i (omega (arith, len)) (omega (arith, lt)) h

-- bytes behind bytes behind a text
pub appended_twice : (before between after : Reserved) (a b : List ℕ) → between ≡ appended before a → after ≡ appended between b → after ≡ appended before (a ++ b)
appended_twice before between after a b p q =
    q ∙ ap (λ t. appended t b) p ∙ ap (λ bs. record { bytes = bs; limit = before.limit }) (append_assoc before.bytes a b)

pub bytes_more : (bit : ℕ → Bool) (k n : ℕ) → bytes_from bit k (n + 1) ≡ bytes_from bit k n ++ number bit (8 * (k + n)) 8 ∷ []
bytes_more bit k zero = let e : k + 0 ≡ k = omega arith in rw e refl
bytes_more bit k (suc n) =
    let e : suc n + 1 ≡ suc (n + 1) = omega arith in
    let f : k + 1 + n ≡ k + suc n = omega arith in
    rw e (ap (λ bs. number bit (8 * k) 8 ∷ bs) (bytes_more bit (k + 1) n ∙ ap (λ j. bytes_from bit (k + 1) n ++ number bit (8 * j) 8 ∷ []) f))
