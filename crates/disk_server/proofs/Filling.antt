-- Bytes that several reads bring into one buffer.
use Rattle.std.proofs.Common.{◌≡◌, ℕ, ◌+◌, ◌<◌, ◌≤◌, List, ◌++◌, length, take, Option, sym, ap, ◌∙◌, subst, length-append, arith}
use Rattle.std.{specs.Prelude.{IfErr, Result, Err}, proofs.Math.Seq.take-append-add, proofs.lemmas.List.{length-take-le, take-append-le}}
use Rattle.disk_server.specs.{Endings.{IsPart, NoneFollows}, Reading.StopsAmid, declared.phase.Ended.Ended, declared.phase.SessionPhase.SessionPhase}
use Rattle.disk_server.specs.declared.phase.Ended.TheVariants as by
use borrow.Rule.Slice.PartMut.{put_mid, post_of}

-- a buffer into which bytes came from a place on
module _ (done n k : ℕ) (old piece : List ℕ) (within : done ≤ length old) (short : n ≤ length piece) where
  front : length (take done old) ≡ done
  front = length-take-le done old within

  pub took_more : take (done + n) (put_mid done k old piece) ≡ take done old ++ take n piece
  took_more =
      let behind = post_of done k old in
      let all : take (length (take done old) + n) (take done old ++ (piece ++ behind)) ≡ take done old ++ take n piece =
      take-append-add (take done old) (piece ++ behind) n ∙ ap (λ (rest : List ℕ). take done old ++ rest) (take-append-le n piece behind short) in
      subst (λ (i : ℕ). take (i + n) (put_mid done k old piece) ≡ take done old ++ take n piece) front all

  pub room_more : done + n ≤ length (put_mid done k old piece)
  room_more = omega (arith, length-append (take done old) (piece ++ post_of done k old), length-append piece (post_of done k old), front)

-- what is said of an error is said of one that is handed on
pub errs : {T : Type 0} (result : Result T Ended) (P : Ended → Type 0) (e : Ended) → (x : Ended) × (result ≡ Err x) × (x ≡ e) → P e → IfErr result P
errs {T} result P e same p =
    subst (λ (r : Result T Ended). IfErr r P) (sym same.1) (subst P (sym same.2) p)

-- and of calls before those that failed
pub amid_before : (ended : Ended) (left : Option (List ℕ)) (before mid now : ℕ) → before ≤ mid → StopsAmid ended left mid now → StopsAmid ended left before now
amid_before by.Left left before mid now le stops = absurd stops
amid_before by.Closed left before mid now le stops = absurd stops
amid_before by.Broken left before mid now le stops = stops
amid_before by.Strange left before mid now le stops = absurd stops
amid_before by.Unread left before mid now le stops = omega (arith, le, stops)
amid_before by.Unwritten left before mid now le stops = absurd stops
amid_before by.Endless left before mid now le stops = absurd stops

-- a message that isn't whole is followed by none
pub amid_none : (ended : Ended) (phase : SessionPhase) (bytes : List ℕ) (left : Option (List ℕ)) (before now : ℕ) → 0 < length bytes → IsPart phase bytes
    → StopsAmid ended left before now → NoneFollows ended phase bytes left before now
amid_none by.Left phase bytes left before now some part stops = absurd stops
amid_none by.Closed phase bytes left before now some part stops = absurd stops
amid_none by.Broken phase bytes left before now some part stops = (some, part, stops)
amid_none by.Strange phase bytes left before now some part stops = absurd stops
amid_none by.Unread phase bytes left before now some part stops = (part, stops)
amid_none by.Unwritten phase bytes left before now some part stops = absurd stops
amid_none by.Endless phase bytes left before now some part stops = absurd stops
