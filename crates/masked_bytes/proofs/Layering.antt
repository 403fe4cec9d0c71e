-- Laying bytes over others: lengths, single bytes, and what is laid over what is laid.
use Rattle.std.proofs.Common.{◌≡◌, ℕ, ◌<◌, List, [], ◌∷◌, Bool, true, false, ◌||◌, ◌==◌, if◌then◌else◌, cond, zero, suc, length, get_or, take, replicate, refl, ap, ◌∙◌, arith, slice_set, eqb-true, bit_and, bit_xor, ◌+◌, ◌-◌, ◌%◌, ◌^◌, sym}
use Rattle.std.{specs.Int.Bits.{xor_self, xor_assoc, xor_zero_l, xor_zero_r, and_zero_r}, proofs.lemmas.Bool.and_from, proofs.lemmas.List.length-replicate}
use Rattle.std.proofs.lemmas.Nat.{and_mask, xor_lt}
use Rattle.masked_bytes.{specs.Masked.{laid, joined, none_given, all_given, gives_all, gives_some, zero_elsewhere, IsMasked}, proofs.Truth.{and_first, and_second}}

-- Lengths

pub length-laid : (bytes : List ℕ) (given : List Bool) (under : List ℕ) → length (laid bytes given under) ≡ length under
length-laid (b ∷ bytes) (g ∷ given) (u ∷ under) = ap suc (length-laid bytes given under)
length-laid _ _ _ = refl

pub length-joined : (given other : List Bool) → length given ≡ length other → length (joined given other) ≡ length other
length-joined [] other e = refl
length-joined (g ∷ given) [] e = e
length-joined (g ∷ given) (o ∷ other) e = ap suc (length-joined given other (omega arith))

-- Single bytes

pub get_or-laid : (bytes : List ℕ) (given : List Bool) (under : List ℕ) (i : ℕ) → length given ≡ length bytes → length under ≡ length bytes
    → get_or (laid bytes given under) i 0 ≡ (if get_or given i false then get_or bytes i 0 else get_or under i 0)
get_or-laid [] [] under i e h = refl
get_or-laid [] (g ∷ given) under i e h = grind arith
get_or-laid (b ∷ bytes) [] under i e h = grind arith
get_or-laid (b ∷ bytes) (g ∷ given) [] i e h = grind arith
get_or-laid (b ∷ bytes) (true ∷ given) (u ∷ under) zero e h = refl
get_or-laid (b ∷ bytes) (false ∷ given) (u ∷ under) zero e h = refl
get_or-laid (b ∷ bytes) (g ∷ given) (u ∷ under) (suc i) e h = get_or-laid bytes given under i (omega arith) (omega arith)

pub get_or-joined : (given other : List Bool) (i : ℕ) → length other ≡ length given
    → get_or (joined given other) i false ≡ (get_or given i false || get_or other i false)
get_or-joined (g ∷ given) [] i e = grind arith
get_or-joined (g ∷ given) (o ∷ other) (suc i) e = get_or-joined given other i (omega arith)
get_or-joined _ _ _ e = refl

-- All bytes given, and none

pub laid-none_given : (n : ℕ) (bytes under : List ℕ) → laid bytes (none_given n) under ≡ under
laid-none_given n [] under = refl
laid-none_given zero (b ∷ bytes) under = refl
laid-none_given (suc n) (b ∷ bytes) [] = refl
laid-none_given (suc n) (b ∷ bytes) (u ∷ under) = ap (λ xs. u ∷ xs) (laid-none_given n bytes under)

pub laid-all_given : (n : ℕ) (bytes under : List ℕ) → length bytes ≡ n → length under ≡ n → laid bytes (all_given n) under ≡ bytes
laid-all_given n [] [] e h = refl
laid-all_given n [] (u ∷ under) e h = grind arith
laid-all_given zero (b ∷ bytes) under e h = grind arith
laid-all_given (suc n) (b ∷ bytes) [] e h = grind arith
laid-all_given (suc n) (b ∷ bytes) (u ∷ under) e h = ap (λ xs. b ∷ xs) (laid-all_given n bytes under (omega arith) (omega arith))

pub joined-none_given : (n : ℕ) (other : List Bool) → length other ≡ n → joined (none_given n) other ≡ other
joined-none_given zero other e = refl
joined-none_given (suc n) [] e = grind arith
joined-none_given (suc n) (o ∷ other) e = ap (λ xs. o ∷ xs) (joined-none_given n other (omega arith))

pub joined-all_given : (n : ℕ) (given : List Bool) → length given ≡ n → joined given (all_given n) ≡ all_given n
joined-all_given n [] e = refl
joined-all_given zero (g ∷ given) e = grind arith
joined-all_given (suc n) (true ∷ given) e = ap (λ xs. true ∷ xs) (joined-all_given n given (omega arith))
joined-all_given (suc n) (false ∷ given) e = ap (λ xs. true ∷ xs) (joined-all_given n given (omega arith))

pub gives_all-all_given : (n : ℕ) → gives_all (all_given n) ≡ true
gives_all-all_given zero = refl
gives_all-all_given (suc n) = gives_all-all_given n

-- a set that gives every byte is the whole set
pub all_given-gives_all : (n : ℕ) (given : List Bool) → length given ≡ n → gives_all given ≡ true → given ≡ all_given n
all_given-gives_all zero [] e h = refl
all_given-gives_all (suc n) (true ∷ given) e h = ap (λ xs. true ∷ xs) (all_given-gives_all n given (omega arith) h)
all_given-gives_all (suc n) (false ∷ given) e h = cc
all_given-gives_all _ _ e h = grind arith

-- Several layers

-- what lies over a layer over another is what lies over both
pub laid-laid : (top : List ℕ) (given : List Bool) (bytes : List ℕ) (also : List Bool) (under : List ℕ)
    → length given ≡ length top → length bytes ≡ length top → length also ≡ length top → length under ≡ length top
    → laid (laid top given bytes) (joined given also) under ≡ laid top given (laid bytes also under)
laid-laid [] [] [] also under a b c d = refl
laid-laid [] [] (y ∷ bytes) also under a b c d = grind arith
laid-laid [] (g ∷ given) bytes also under a b c d = grind arith
laid-laid (t ∷ top) [] bytes also under a b c d = grind arith
laid-laid (t ∷ top) (g ∷ given) [] also under a b c d = grind arith
laid-laid (t ∷ top) (g ∷ given) (y ∷ bytes) [] under a b c d = grind arith
laid-laid (t ∷ top) (g ∷ given) (y ∷ bytes) (o ∷ also) [] a b c d = grind arith
laid-laid (t ∷ top) (true ∷ given) (y ∷ bytes) (o ∷ also) (u ∷ under) a b c d =
    ap (λ xs. t ∷ xs) (laid-laid top given bytes also under (omega arith) (omega arith) (omega arith) (omega arith))
laid-laid (t ∷ top) (false ∷ given) (y ∷ bytes) (o ∷ also) (u ∷ under) a b c d =
    ap (λ xs. (if o then y else u) ∷ xs) (laid-laid top given bytes also under (omega arith) (omega arith) (omega arith) (omega arith))

pub joined-joined : (given also other : List Bool) → length also ≡ length given → length other ≡ length given
    → joined (joined given also) other ≡ joined given (joined also other)
joined-joined [] also other a b = refl
joined-joined (g ∷ given) [] other a b = grind arith
joined-joined (g ∷ given) (x ∷ also) [] a b = grind arith
joined-joined (true ∷ given) (x ∷ also) (o ∷ other) a b = ap (λ xs. true ∷ xs) (joined-joined given also other (omega arith) (omega arith))
joined-joined (false ∷ given) (x ∷ also) (o ∷ other) a b = ap (λ xs. (x || o) ∷ xs) (joined-joined given also other (omega arith) (omega arith))

-- Bytes that are not given stay 0

pub gives_some-joined : (given other : List Bool) → length other ≡ length given → gives_some given ≡ true → gives_some (joined given other) ≡ true
gives_some-joined [] other e h = cc
gives_some-joined (g ∷ given) [] e h = grind arith
gives_some-joined (true ∷ given) (o ∷ other) e h = refl
gives_some-joined (false ∷ given) (true ∷ other) e h = refl
gives_some-joined (false ∷ given) (false ∷ other) e h = gives_some-joined given other (omega arith) h

pub zero_elsewhere-laid : (bytes : List ℕ) (given : List Bool) (under : List ℕ) (also : List Bool)
    → length given ≡ length bytes → length under ≡ length bytes → length also ≡ length bytes
    → zero_elsewhere under also ≡ true → zero_elsewhere (laid bytes given under) (joined given also) ≡ true
zero_elsewhere-laid [] given [] also a b c h = refl
zero_elsewhere-laid [] given (u ∷ under) also a b c h = grind arith
zero_elsewhere-laid (x ∷ bytes) [] under also a b c h = grind arith
zero_elsewhere-laid (x ∷ bytes) (g ∷ given) [] also a b c h = grind arith
zero_elsewhere-laid (x ∷ bytes) (g ∷ given) (u ∷ under) [] a b c h = grind arith
zero_elsewhere-laid (x ∷ bytes) (true ∷ given) (u ∷ under) (true ∷ also) a b c h =
    zero_elsewhere-laid bytes given under also (omega arith) (omega arith) (omega arith) h
zero_elsewhere-laid (x ∷ bytes) (true ∷ given) (u ∷ under) (false ∷ also) a b c h =
    zero_elsewhere-laid bytes given under also (omega arith) (omega arith) (omega arith) (and_second (u == 0) _ h)
zero_elsewhere-laid (x ∷ bytes) (false ∷ given) (u ∷ under) (true ∷ also) a b c h =
    zero_elsewhere-laid bytes given under also (omega arith) (omega arith) (omega arith) h
zero_elsewhere-laid (x ∷ bytes) (false ∷ given) (u ∷ under) (false ∷ also) a b c h =
    and_from (u == 0) _ (and_first (u == 0) _ h)
    (zero_elsewhere-laid bytes given under also (omega arith) (omega arith) (omega arith) (and_second (u == 0) _ h))

pub zero_elsewhere-all_given : (n : ℕ) (bytes : List ℕ) → length bytes ≡ n → zero_elsewhere bytes (all_given n) ≡ true
zero_elsewhere-all_given n [] e = refl
zero_elsewhere-all_given zero (b ∷ bytes) e = refl
zero_elsewhere-all_given (suc n) (b ∷ bytes) e = zero_elsewhere-all_given n bytes (omega arith)

-- over zeros a masked write stays as it is
pub laid-zeros : (n : ℕ) (bytes : List ℕ) (given : List Bool) → length bytes ≡ n → length given ≡ n → zero_elsewhere bytes given ≡ true
    → laid bytes given (replicate n 0) ≡ bytes
laid-zeros zero [] given e f h = refl
laid-zeros (suc n) [] given e f h = grind arith
laid-zeros zero (b ∷ bytes) given e f h = grind arith
laid-zeros (suc n) (b ∷ bytes) [] e f h = grind arith
laid-zeros (suc n) (b ∷ bytes) (true ∷ given) e f h = ap (λ xs. b ∷ xs) (laid-zeros n bytes given (omega arith) (omega arith) h)
laid-zeros (suc n) (b ∷ bytes) (false ∷ given) e f h =
    two_parts b (eqb-true b 0 (and_first (b == 0) _ h)) (laid-zeros n bytes given (omega arith) (omega arith) (and_second (b == 0) _ h))
  where
    two_parts : {xs ys : List ℕ} (b : ℕ) → b ≡ 0 → xs ≡ ys → 0 ∷ xs ≡ b ∷ ys
    two_parts b e f = rw (e, f)

pub joined-none_right : (n : ℕ) (given : List Bool) → length given ≡ n → joined given (none_given n) ≡ given
joined-none_right zero [] e = refl
joined-none_right (suc n) [] e = grind arith
joined-none_right zero (g ∷ given) e = refl
joined-none_right (suc n) (true ∷ given) e = ap (λ xs. true ∷ xs) (joined-none_right n given (omega arith))
joined-none_right (suc n) (false ∷ given) e = ap (λ xs. false ∷ xs) (joined-none_right n given (omega arith))

-- a masked write over another is a masked write
pub IsMasked-laid : (n : ℕ) (bytes : List ℕ) (given : List Bool) (under : List ℕ) (also : List Bool)
    → IsMasked n bytes given → IsMasked n under also → IsMasked n (laid bytes given under) (joined given also)
IsMasked-laid n bytes given under also top below = record {
  bytes_len = length-laid bytes given under ∙ below.bytes_len;
  given_len = length-joined given also (omega arith) ∙ below.given_len;
  some = gives_some-joined given also (omega arith) top.some;
  others = zero_elsewhere-laid bytes given under also (omega arith) (omega arith) (omega arith) below.others;
}

-- all bytes given
pub IsMasked-all_given : (n : ℕ) (bytes : List ℕ) → 0 < n → length bytes ≡ n → IsMasked n bytes (all_given n)
IsMasked-all_given zero bytes some e = grind arith
IsMasked-all_given (suc n) bytes some e =
    record { bytes_len = e; given_len = length-replicate (suc n) true; some = refl; others = zero_elsewhere-all_given (suc n) bytes e }

-- Loops over the indices

-- one byte more, where the byte itself is untouched so far
pub laid-take_next : (bytes : List ℕ) (given : List Bool) (under : List ℕ) (i : ℕ) → length given ≡ length bytes → length under ≡ length bytes → i < length bytes
    → slice_set (laid (take i bytes) (take i given) under) i (if get_or given i false then get_or bytes i 0 else get_or (laid (take i bytes) (take i given) under) i 0)
    ≡ laid (take (suc i) bytes) (take (suc i) given) under
laid-take_next (b ∷ bytes) (g ∷ given) (u ∷ under) zero e h k = refl
laid-take_next (b ∷ bytes) (g ∷ given) (u ∷ under) (suc i) e h k =
    ap (λ xs. (if g then b else u) ∷ xs) (laid-take_next bytes given under i (omega arith) (omega arith) (omega arith))
laid-take_next _ _ _ i e h k = grind arith

-- the same of joined sets
pub joined-take_next : (given other : List Bool) (i : ℕ) → length other ≡ length given → i < length given
    → slice_set (joined (take i given) other) i (get_or (joined (take i given) other) i false || get_or given i false) ≡ joined (take (suc i) given) other
joined-take_next [] other i e h = grind arith
joined-take_next (g ∷ given) [] i e h = grind arith
joined-take_next (true ∷ given) (true ∷ other) zero e h = refl
joined-take_next (true ∷ given) (false ∷ other) zero e h = refl
joined-take_next (false ∷ given) (true ∷ other) zero e h = refl
joined-take_next (false ∷ given) (false ∷ other) zero e h = refl
joined-take_next (g ∷ given) (o ∷ other) (suc i) e h = ap (λ xs. (g || o) ∷ xs) (joined-take_next given other i (omega arith) (omega arith))

-- One of two bytes by a mask

-- what a mask of ones or of zeros leaves of their difference
pub picked : (given : Bool) (above below bit : ℕ) → (given ≡ true → bit ≡ 1) → (given ≡ false → bit ≡ 0) → above < 2 ^ 8 → below < 2 ^ 8
    → bit_xor below (bit_and (bit_xor below above) ((0 + (2 ^ 8 - bit)) % 2 ^ 8)) ≡ (if given then above else below)
picked false above below bit one none h k = rw (none refl, and_zero_r (bit_xor below above)) (xor_zero_r below)
picked true above below bit one none h k =
    let small : bit_xor below above < 2 ^ 8 = xor_lt 8 below above k h in
    let all : bit_and (bit_xor below above) (2 ^ 8 - 1) ≡ bit_xor below above = and_mask (bit_xor below above) 8 ∙ omega arith in
    rw (one refl) (ap (bit_xor below) all ∙ sym (xor_assoc below below above) ∙ rw (xor_self below) (xor_zero_l above))

-- bytes laid over themselves are those
pub laid-self : (bytes : List ℕ) (given : List Bool) → laid bytes given bytes ≡ bytes
laid-self (b ∷ bytes) (true ∷ given) = ap (λ rest. b ∷ rest) (laid-self bytes given)
laid-self (b ∷ bytes) (false ∷ given) = ap (λ rest. b ∷ rest) (laid-self bytes given)
laid-self _ _ = refl

-- what was made by laying bytes over others, laid over those, is the same
pub laid-over : (bytes : List ℕ) (given : List Bool) (under : List ℕ) → laid (laid bytes given under) given under ≡ laid bytes given under
laid-over [] given under = laid-self under given
laid-over (b ∷ bytes) [] under = laid-self under []
laid-over (b ∷ bytes) (g ∷ given) [] = refl
laid-over (b ∷ bytes) (true ∷ given) (u ∷ under) = ap (λ rest. b ∷ rest) (laid-over bytes given under)
laid-over (b ∷ bytes) (false ∷ given) (u ∷ under) = ap (λ rest. u ∷ rest) (laid-over bytes given under)

-- bytes that are laid over others change nothing of them when they are laid over them again
pub laid-again : (bytes : List ℕ) (given : List Bool) (under : List ℕ) → laid bytes given (laid bytes given under) ≡ laid bytes given under
laid-again [] given under = refl
laid-again (b ∷ bytes) [] under = refl
laid-again (b ∷ bytes) (g ∷ given) [] = refl
laid-again (b ∷ bytes) (true ∷ given) (u ∷ under) = ap (λ xs. b ∷ xs) (laid-again bytes given under)
laid-again (b ∷ bytes) (false ∷ given) (u ∷ under) = ap (λ xs. u ∷ xs) (laid-again bytes given under)

-- bytes that change nothing of others change nothing of those that are laid over these, once they are laid over again
pub laid-between : (bytes : List ℕ) (given : List Bool) (own : List ℕ) (also : List Bool) (under : List ℕ) → laid own also under ≡ under
    → laid bytes given (laid own also (laid bytes given under)) ≡ laid bytes given under
laid-between [] given own also under still = still
laid-between (b ∷ bytes) [] own also under still = still
laid-between (b ∷ bytes) (g ∷ given) [] also under still = laid-again (b ∷ bytes) (g ∷ given) under
laid-between (b ∷ bytes) (g ∷ given) (o ∷ own) [] under still = laid-again (b ∷ bytes) (g ∷ given) under
laid-between (b ∷ bytes) (g ∷ given) (o ∷ own) (a ∷ also) [] still = refl
laid-between (b ∷ bytes) (true ∷ given) (o ∷ own) (a ∷ also) (u ∷ under) still =
    let rest : laid own also under ≡ under = cc in
    ap (λ xs. b ∷ xs) (laid-between bytes given own also under rest)
laid-between (b ∷ bytes) (false ∷ given) (o ∷ own) (a ∷ also) (u ∷ under) still =
    let first : cond a o u ≡ u = cc in
    let rest : laid own also under ≡ under = cc in
    ap (λ x. x ∷ laid bytes given (laid own also (laid bytes given under))) first ∙ ap (λ xs. u ∷ xs) (laid-between bytes given own also under rest)
