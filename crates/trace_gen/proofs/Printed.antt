-- How the parts of a row are printed one behind the other.
use Rattle.std.proofs.Common.{◌≡◌, ℕ, zero, suc, ◌+◌, ◌<◌, Bool, false, List, [], ◌∷◌, ◌++◌, length, get_or, take, refl, sym, ap, ◌∙◌, arith, append_assoc}
use Rattle.std.proofs.lemmas.List.{append-nil}
use Rattle.pcm_io.specs.Reserved.{Reserved, appended}
use Rattle.trace_reader.specs.declared.event.Event.{Event}
use Rattle.trace_gen.specs.EventText.{event_row, event_rows, masked_text, pair_text}

-- nothing of a masked write
pub masked-none : (bytes : List ℕ) (given : List Bool) → masked_text (take 0 bytes) (take 0 given) ≡ []
unfolding masked_text
masked-none bytes given = refl

-- one byte more of a masked write
pub masked-more : (bytes : List ℕ) (given : List Bool) (i : ℕ) → i < length bytes → i < length given
    → masked_text (take (i + 1) bytes) (take (i + 1) given) ≡ masked_text (take i bytes) (take i given) ++ pair_text (get_or bytes i 0) (get_or given i false)
unfolding masked_text
masked-more [] given i in_bytes in_given = absurd (omega arith)
masked-more (b ∷ bytes) [] i in_bytes in_given = absurd (omega arith)
masked-more (b ∷ bytes) (g ∷ given) zero in_bytes in_given = append-nil (pair_text b g)
masked-more (b ∷ bytes) (g ∷ given) (suc i) in_bytes in_given =
    let next : suc i + 1 ≡ suc (i + 1) = omega arith in
    rw next (ap (λ (x : List ℕ). pair_text b g ++ x) (masked-more bytes given i (omega arith) (omega arith))
    ∙ sym (append_assoc (pair_text b g) (masked_text (take i bytes) (take i given)) (pair_text (get_or bytes i 0) (get_or given i false))))

-- the text with one byte more of a masked write
pub masked-pushed : (t now : Reserved) (bytes : List ℕ) (given : List Bool) (i : ℕ) → i < length bytes → i < length given
    → now ≡ appended t (masked_text (take i bytes) (take i given))
    → appended now (pair_text (get_or bytes i 0) (get_or given i false)) ≡ appended t (masked_text (take (i + 1) bytes) (take (i + 1) given))
masked-pushed t now bytes given i in_bytes in_given so =
    rw (so, masked-more bytes given i in_bytes in_given) (simp append_assoc)

pub masked-nothing : (t : Reserved) (bytes : List ℕ) (given : List Bool) → t ≡ appended t (masked_text (take 0 bytes) (take 0 given))
unfolding masked_text
masked-nothing t bytes given = ap (λ (x : List ℕ). record { bytes = x; limit = t.limit }) (sym (append-nil t.bytes))

-- the rows of a list
pub event_rows-nil : (n : ℕ) → event_rows {n = n} [] ≡ []
unfolding event_rows
event_rows-nil n = refl

pub event_rows-cons : {n : ℕ} (event : Event n) (rest : List (Event n)) → event_rows (event ∷ rest) ≡ event_row event ++ event_rows rest
unfolding event_rows
event_rows-cons event rest = refl

pub event_rows-append : {n : ℕ} (first second : List (Event n)) → event_rows (first ++ second) ≡ event_rows first ++ event_rows second
unfolding event_rows
event_rows-append [] second = refl
event_rows-append (event ∷ rest) second = ap (λ (text : List ℕ). event_row event ++ text) (event_rows-append rest second) ∙ sym (append_assoc (event_row event) (event_rows rest) (event_rows second))
