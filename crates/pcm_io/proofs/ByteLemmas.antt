-- Bytes that several calls moved.
use Rattle.std.proofs.Common.{ℕ, ◌+◌, ◌≡◌, ◌≤◌, List, [], ◌++◌, length, take, drop, Option, None, Some, refl, sym, append_assoc, length-append, arith}
use Rattle.std.{specs.Io.KnownBytes.{Appends, Consumes}, proofs.Math.Seq.{take-add, take-append-add}, proofs.lemmas.Grind.common_steps}
use Rattle.std.proofs.lemmas.List.{take_at, drop-drop, take-append-drop, take-append-le, append-nil}
use Rattle.pcm_io.{specs.Faults.raised_by, specs.Giving.AppendsPrefix, specs.Taking.Takes, proofs.FaultLemmas.{raised_by-raised_by, raised_by-zero}}

-- bytes that were appended by two calls
pub Appends-Appends : (a b c : Option (List ℕ)) (xs ys : List ℕ) → Appends a b xs → Appends b c ys → Appends a c (xs ++ ys)
Appends-Appends None b c xs ys first second = tt
Appends-Appends (Some s) None c xs ys first second = absurd first
Appends-Appends (Some s) (Some t) None xs ys first second = absurd second
Appends-Appends (Some s) (Some t) (Some u) xs ys first second = rw (second, first) (append_assoc s xs ys)

-- the first bytes of a list that were appended by two calls, the second with what the first left
pub Appends-take : (a b c : Option (List ℕ)) (m n : ℕ) (xs piece : List ℕ) → piece ≡ drop m xs → Appends a b (take m xs) → Appends b c (take n piece) → Appends a c (take (m + n) xs)
Appends-take a b c m n xs piece is first second =
    rw (take-add m n xs) (Appends-Appends a b c (take m xs) (take n (drop m xs)) first (rw is at second))

-- bytes that were taken by two calls
pub Consumes-Consumes : (a b c : Option (List ℕ)) (xs ys : List ℕ) → Consumes a b xs → Consumes b c ys → Consumes a c (xs ++ ys)
Consumes-Consumes None b c xs ys first second = tt
Consumes-Consumes (Some s) None c xs ys first second = absurd first
Consumes-Consumes (Some s) (Some t) None xs ys first second = absurd second
Consumes-Consumes (Some s) (Some t) (Some u) xs ys first second = rw (first, second) (sym (append_assoc xs ys u))

-- no bytes were taken
pub Takes-nothing : (left : Option (List ℕ)) (taken : ℕ) → Takes left left taken taken []
Takes-nothing None taken = record { first = tt; counted = sym (raised_by-zero taken) }
Takes-nothing (Some s) taken = record { first = refl; counted = sym (raised_by-zero taken) }

-- bytes that were taken by two calls, with their counts
pub Takes-Takes : (a b c : Option (List ℕ)) (i j k : ℕ) (xs ys : List ℕ) → Takes a b i j xs → Takes b c j k ys → Takes a c i k (xs ++ ys)
Takes-Takes a b c i j k xs ys earlier later = record {
  first = Consumes-Consumes a b c xs ys earlier.first later.first;
  counted = rw (length-append, later.counted, earlier.counted) (raised_by-raised_by i (length xs) (length ys));
}

-- one more read after others
pub Takes-read : (a b c : Option (List ℕ)) (i j k : ℕ) (xs buffer : List ℕ) (n : ℕ) → Takes a b i j xs → n ≤ length buffer → Consumes b c (take n buffer) → k ≡ raised_by j n → Takes a c i k (xs ++ take n buffer)
Takes-read a b c i j k xs buffer n earlier bound first counted =
    Takes-Takes a b c i j k xs (take n buffer) earlier
    record { first = first; counted = grind (arith, common_steps) }

-- bytes that were moved to the front of a buffer, and what is left
pub front_moved : (bytes copied buffer : List ℕ) (k n : ℕ) → copied ≡ take n (drop k bytes) → length copied ≡ n → drop k bytes ≡ take n (copied ++ buffer) ++ drop (k + n) bytes
front_moved bytes copied buffer k n is len =
    rw (take_at copied buffer n len, is, ← drop-drop n k bytes) (sym (take-append-drop n (drop k bytes)))

-- no bytes were appended
pub Appends-nothing : (a : Option (List ℕ)) → Appends a a []
Appends-nothing None = tt
Appends-nothing (Some s) = sym (append-nil s)

-- bytes that were appended, and then a prefix of others
pub Appends-AppendsPrefix : (a b c : Option (List ℕ)) (xs piece : List ℕ) → Appends a b xs → AppendsPrefix b c piece → AppendsPrefix a c (xs ++ piece)
Appends-AppendsPrefix a b c xs piece first second =
    let short : length xs + second.0 ≤ length (xs ++ piece) = rw length-append (omega (arith, second.1)) in (
      length xs + second.0,
      short,
      rw (take-append-add xs piece second.0) (Appends-Appends a b c xs (take second.0 piece) first second.2),
    )

-- a prefix of some bytes is a prefix of those bytes and more
pub AppendsPrefix-longer : (a b : Option (List ℕ)) (piece more : List ℕ) → AppendsPrefix a b piece → AppendsPrefix a b (piece ++ more)
AppendsPrefix-longer a b piece more prefix =
    let short : prefix.0 ≤ length (piece ++ more) = rw length-append (omega (arith, prefix.1)) in
    let within : prefix.0 ≤ length piece = prefix.1 in
    (prefix.0, short, rw (take-append-le prefix.0 piece more within) prefix.2)
