-- That no count of outcomes falls as rows come and outcomes of open rows are told.
use Rattle.std.proofs.Common.{◌≡◌, ◌≢◌, ℕ, zero, suc, ◌+◌, ◌-◌, ◌≤◌, ◌==◌, ◌||◌, Bool, true, false, cond, List, [], ◌∷◌, ◌++◌, replicate, set, slice_get, Option, Some, None, refl, sym, ap, subst, ◌∙◌, eqb-true, eq-eqb, arith}
use Rattle.std.{specs.Prelude.{IfSome, count_by}, proofs.lemmas.Bool.or_from}
use Rattle.masked_bytes.proofs.{Counting.count-append, Truth.{neither_first, neither_second}}
use Rattle.result_rows.specs.{Table.{outcome_at, with_outcome}, declared.Outcome.Outcome}
use Rattle.result_rows.specs.declared.Outcome.TheVariants as out
use Rattle.row_rules.specs.Answers.{is_stored, is_merged, is_queued, is_full, is_worn, is_answered, is_forwarded, is_busy, is_lost}
use Rattle.run_text.specs.{Counting.{is_cut, counts_of, with_one}, declared.counts.OutcomeCounts.OutcomeCounts}
use Rattle.row_printer.{specs.Telling.{recorded, tells, TellsOnce}, proofs.Counted.counts-more}
use Rattle.snapshot_laws.specs.Rising.{CountsRise}

-- ---- counts

pub counts-stand : (one : OutcomeCounts) → CountsRise one one
counts-stand one = record {
  stored = omega arith;
  merged = omega arith;
  queued = omega arith;
  full = omega arith;
  worn = omega arith;
  read = omega arith;
  forwarded = omega arith;
  busy = omega arith;
  lost = omega arith;
  cut = omega arith;
}

pub counts-on : (one two three : OutcomeCounts) → CountsRise one two → CountsRise two three → CountsRise one three
counts-on one two three first second = record {
  stored = omega (arith, first.stored, second.stored);
  merged = omega (arith, first.merged, second.merged);
  queued = omega (arith, first.queued, second.queued);
  full = omega (arith, first.full, second.full);
  worn = omega (arith, first.worn, second.worn);
  read = omega (arith, first.read, second.read);
  forwarded = omega (arith, first.forwarded, second.forwarded);
  busy = omega (arith, first.busy, second.busy);
  lost = omega (arith, first.lost, second.lost);
  cut = omega (arith, first.cut, second.cut);
}

up : (b : Bool) (count : ℕ) → count ≤ cond b (count + 1) count
up true count = omega arith
up false count = omega arith

one-up : {n : ℕ} (counts : OutcomeCounts) (o : Outcome n) → CountsRise counts (with_one counts o)
one-up counts o = record {
  stored = up (is_stored o) counts.stored;
  merged = up (is_merged o) counts.merged;
  queued = up (is_queued o) counts.queued;
  full = up (is_full o) counts.full;
  worn = up (is_worn o) counts.worn;
  read = up (is_answered o) counts.read;
  forwarded = up (is_forwarded o) counts.forwarded;
  busy = up (is_busy o) counts.busy;
  lost = up (is_lost o) counts.lost;
  cut = up (is_cut o) counts.cut;
}

count-front : {X : Type 0} (p : X → Bool) (xs ys : List X) → count_by p xs ≤ count_by p (xs ++ ys)
count-front p xs ys = omega (arith, count-append p xs ys)

pub counts-front : {n : ℕ} (xs ys : List (Outcome n)) → CountsRise (counts_of xs) (counts_of (xs ++ ys))
counts-front xs ys = record {
  stored = count-front is_stored xs ys;
  merged = count-front is_merged xs ys;
  queued = count-front is_queued xs ys;
  full = count-front is_full xs ys;
  worn = count-front is_worn xs ys;
  read = count-front is_answered xs ys;
  forwarded = count-front is_forwarded xs ys;
  busy = count-front is_busy xs ys;
  lost = count-front is_lost xs ys;
  cut = count-front is_cut xs ys;
}

-- ---- lists

get-other : {X : Type 0} (xs : List X) (i k : ℕ) (x : X) → k ≢ i → slice_get (set xs i x) k ≡ slice_get xs k
get-other [] i k x off = refl
get-other (y ∷ xs) zero zero x off = absurd (off refl)
get-other (y ∷ xs) zero (suc k) x off = refl
get-other (y ∷ xs) (suc i) zero x off = refl
get-other (y ∷ xs) (suc i) (suc k) x off = get-other xs i k x (λ same. off (ap suc same))

set-none : {X : Type 0} (xs : List X) (i : ℕ) (x : X) → slice_get xs i ≡ None → set xs i x ≡ xs
set-none [] i x none = refl
set-none (y ∷ xs) zero x none = absurd (cc none)
set-none {X} (y ∷ xs) (suc i) x none = ap (λ (rest : List X). y ∷ rest) (set-none xs i x none)

set-front : {X : Type 0} (xs ys : List X) (i : ℕ) (x : X) → (zs : List X) × (set (xs ++ ys) i x ≡ set xs i x ++ zs)
set-front [] ys i x = (set ys i x, refl)
set-front (y ∷ xs) ys zero x = (ys, refl)
set-front {X} (y ∷ xs) ys (suc i) x =
    let rest = set-front xs ys i x in
    (rest.0, ap (λ (more : List X). y ∷ more) rest.1)

replicate-front : {X : Type 0} (few most rest : ℕ) (x : X) → most ≡ few + rest → replicate most x ≡ replicate few x ++ replicate rest x
replicate-front zero most rest x is =
    let same : most ≡ rest = omega (arith, is) in
    ap (λ (k : ℕ). replicate k x) same
replicate-front (suc few) zero rest x is = absurd (omega (arith, is))
replicate-front {X} (suc few) (suc most) rest x is =
    let fewer : most ≡ few + rest = omega (arith, is) in
    ap (λ (more : List X). x ∷ more) (replicate-front few most rest x fewer)

in-rest : (a b : Bool) → b ≡ true → (a || b) ≡ true
in-rest true b is = refl
in-rest false b is = is

apart : (one row : ℕ) → 1 ≤ one → 1 ≤ row → one ≢ row → row - 1 ≢ one - 1
apart one row first second off = λ same. off (omega (arith, first, second, same))

blank-open : {X : Type 0} (x : X) (places at : ℕ) → IfSome (slice_get (replicate places x) at) (λ o. o ≡ x)
blank-open x zero at = tt
blank-open x (suc places) zero = refl
blank-open x (suc places) (suc at) = blank-open x places at

-- ---- tables

module _ {n : ℕ} where
  abbrev none : Outcome n
  none = out.Unset

  -- a row of a table is open where it is there
  abbrev IsOpenAt : List (Outcome n) → ℕ → Type 0
  IsOpenAt table row = IfSome (outcome_at table row) (λ o. o ≡ out.Unset)

  one-told : (table : List (Outcome n)) (row : ℕ) (o : Outcome n) → IsOpenAt table row → CountsRise (counts_of table) (counts_of (with_outcome table row o))
  one-told table row o open_row = by (outcome_at table row) refl open_row
    where
      by : (was : Option (Outcome n)) → outcome_at table row ≡ was → IfSome was (λ o. o ≡ out.Unset) → CountsRise (counts_of table) (counts_of (with_outcome table row o))
      by None none is = subst (λ (t : List (Outcome n)). CountsRise (counts_of table) (counts_of t)) (sym (set-none table (row - 1) o none)) (counts-stand (counts_of table))
      by (Some was) some is =
          let unset : outcome_at table row ≡ Some out.Unset = some ∙ ap Some is in
          subst (λ (c : OutcomeCounts). CountsRise (counts_of table) c) (sym (counts-more table row o unset)) (one-up (counts_of table) o)

  -- a row that is told is one of at least 1
  told-above : (most : ℕ) (told : List (ℕ × Outcome n)) (row : ℕ) → TellsOnce most told → tells told row ≡ true → 1 ≤ row
  told-above most [] row once is = absurd (cc is)
  told-above most (one ∷ told) row once is = by (one.0 == row) (eqb-true one.0 row) (told-above most told row once.4) is
    where
      by : (b : Bool) → (b ≡ true → one.0 ≡ row) → (tells told row ≡ true → 1 ≤ row) → (b || tells told row) ≡ true → 1 ≤ row
      by true same rest is = subst (λ (r : ℕ). 1 ≤ r) (same refl) once.0
      by false same rest is = rest is

  -- rows that are open are told, each once: no count falls
  told-rises : (most : ℕ) (told : List (ℕ × Outcome n)) (table : List (Outcome n)) → TellsOnce most told → ((row : ℕ) → tells told row ≡ true → IsOpenAt table row)
      → CountsRise (counts_of table) (counts_of (recorded told table))
  told-rises most [] table once open_rows = counts-stand (counts_of table)
  told-rises most (one ∷ told) table once open_rows =
      let own : IsOpenAt table one.0 = open_rows one.0 (ap (λ b. b || tells told one.0) (eq-eqb one.0 one.0 refl)) in
      counts-on (counts_of table) (counts_of (with_outcome table one.0 one.1)) (counts_of (recorded told (with_outcome table one.0 one.1)))
      (one-told table one.0 one.1 own)
      (told-rises most told (with_outcome table one.0 one.1) once.4 (λ row is.
      let off : one.0 ≢ row = λ same. (let no : true ≡ false = sym (subst (λ (r : ℕ). tells told r ≡ true) (sym same) is) ∙ once.3 in cc no) in
      let same : outcome_at (with_outcome table one.0 one.1) row ≡ outcome_at table row = get-other table (one.0 - 1) (row - 1) one.1 (apart one.0 row once.0 (told-above most told row once.4 is) off) in
      subst (λ (o : Option (Outcome n)). IfSome o (λ o. o ≡ out.Unset)) (sym same) (open_rows row (in-rest (one.0 == row) (tells told row) is))))

  -- a row that isn't told stays open
  stays-open : (most : ℕ) (told : List (ℕ × Outcome n)) (table : List (Outcome n)) (row : ℕ) → TellsOnce most told → 1 ≤ row → tells told row ≡ false → IsOpenAt table row
      → IsOpenAt (recorded told table) row
  stays-open most [] table row once above untold is = is
  stays-open most (one ∷ told) table row once above untold is =
      let other : (one.0 == row) ≡ false = neither_first (one.0 == row) (tells told row) untold in
      let off : one.0 ≢ row = λ same. (let no : true ≡ false = sym (eq-eqb one.0 row same) ∙ other in cc no) in
      let same : outcome_at (with_outcome table one.0 one.1) row ≡ outcome_at table row = get-other table (one.0 - 1) (row - 1) one.1 (apart one.0 row once.0 above off) in
      stays-open most told (with_outcome table one.0 one.1) row once.4 above (neither_second (one.0 == row) (tells told row) untold)
      (subst (λ (o : Option (Outcome n)). IfSome o (λ o. o ≡ out.Unset)) (sym same) is)

  recorded-both : (first more : List (ℕ × Outcome n)) (table : List (Outcome n)) → recorded (first ++ more) table ≡ recorded more (recorded first table)
  recorded-both [] more table = refl
  recorded-both (one ∷ first) more table = recorded-both first more (with_outcome table one.0 one.1)

  recorded-front : (told : List (ℕ × Outcome n)) (xs ys : List (Outcome n)) → (zs : List (Outcome n)) × (recorded told (xs ++ ys) ≡ recorded told xs ++ zs)
  recorded-front [] xs ys = (ys, refl)
  recorded-front (one ∷ told) xs ys =
      let own = set-front xs ys (one.0 - 1) one.1 in
      let rest = recorded-front told (with_outcome xs one.0 one.1) own.0 in
      (rest.0, ap (λ (t : List (Outcome n)). recorded told t) own.1 ∙ rest.1)

  -- of what was told in two parts, each is told once, and no row of the second is one of the first
  tells-left : (first more : List (ℕ × Outcome n)) (row : ℕ) → tells first row ≡ true → tells (first ++ more) row ≡ true
  tells-left [] more row is = absurd (cc is)
  tells-left (one ∷ first) more row is = by (one.0 == row) (tells-left first more row) is
    where
      by : (b : Bool) → (tells first row ≡ true → tells (first ++ more) row ≡ true) → (b || tells first row) ≡ true → (b || tells (first ++ more) row) ≡ true
      by true rest is = refl
      by false rest is = rest is

  tells-right : (first more : List (ℕ × Outcome n)) (row : ℕ) → tells more row ≡ true → tells (first ++ more) row ≡ true
  tells-right [] more row is = is
  tells-right (one ∷ first) more row is = in-rest (one.0 == row) (tells (first ++ more) row) (tells-right first more row is)

  untold-left : (first more : List (ℕ × Outcome n)) (row : ℕ) → tells (first ++ more) row ≡ false → tells first row ≡ false
  untold-left first more row none = by (tells first row) refl
    where
      by : (b : Bool) → tells first row ≡ b → b ≡ false
      by true is = (let no : true ≡ false = sym (tells-left first more row is) ∙ none in absurd (cc no))
      by false is = refl

  pub once-left : (most : ℕ) (first more : List (ℕ × Outcome n)) → TellsOnce most (first ++ more) → TellsOnce most first
  once-left most [] more once = tt
  once-left most (one ∷ first) more once = (once.0, once.1, once.2, untold-left first more one.0 once.3, once-left most first more once.4)

  once-right : (most : ℕ) (first more : List (ℕ × Outcome n)) → TellsOnce most (first ++ more) → TellsOnce most more
  once-right most [] more once = once
  once-right most (one ∷ first) more once = once-right most first more once.4

  untold-before : (most : ℕ) (first more : List (ℕ × Outcome n)) (row : ℕ) → TellsOnce most (first ++ more) → tells more row ≡ true → tells first row ≡ false
  untold-before most [] more row once is = refl
  untold-before most (one ∷ first) more row once is = or_from (one.0 == row) (tells first row) (by (one.0 == row) (eqb-true one.0 row)) (untold-before most first more row once.4 is)
    where
      by : (b : Bool) → (b ≡ true → one.0 ≡ row) → b ≡ false
      by true same =
          let no : false ≡ true = sym once.3 ∙ subst (λ (r : ℕ). tells (first ++ more) r ≡ true) (sym (same refl)) (tells-right first more row is) in
          absurd (cc no)
      by false same = refl

  abbrev table : ℕ → List (ℕ × Outcome n) → List (Outcome n)
  table places told = recorded told (replicate places out.Unset)

  -- with more rows, and more of them told, no count falls
  pub table-rises : (most few places : ℕ) (first more : List (ℕ × Outcome n)) → few ≤ places → TellsOnce most (first ++ more)
      → CountsRise (counts_of (table few first)) (counts_of (table places (first ++ more)))
  table-rises most few places first more le once =
      let rest : places ≡ few + (places - few) = omega (arith, le) in
      let front = recorded-front first (replicate few out.Unset) (replicate (places - few) out.Unset) in
      let longer : table places first ≡ table few first ++ front.0 = ap (λ (t : List (Outcome n)). recorded first t) (replicate-front few places (places - few) out.Unset rest) ∙ front.1 in
      let open_rows : (row : ℕ) → tells more row ≡ true → IsOpenAt (table places first) row = λ row is.
      stays-open most first (replicate places out.Unset) row (once-left most first more once) (told-above most more row (once-right most first more once) is)
      (untold-before most first more row once is) (blank-open none places (row - 1)) in
      counts-on (counts_of (table few first)) (counts_of (table places first)) (counts_of (table places (first ++ more)))
      (subst (λ (t : List (Outcome n)). CountsRise (counts_of (table few first)) (counts_of t)) (sym longer) (counts-front (table few first) front.0))
      (subst (λ (t : List (Outcome n)). CountsRise (counts_of (table places first)) (counts_of t)) (sym (recorded-both first more (replicate places out.Unset)))
      (told-rises most more (table places first) (once-right most first more once) open_rows))
