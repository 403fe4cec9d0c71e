-- The last four fields show one outcome.
use Rattle.std.proofs.Common.{◌≡◌, ◌≢◌, ℕ, ◌^◌, ◌<◌, ◌≤◌, List, [], length, Option, Some, None, refl, sym, ap, ◌∙◌, arith}
use Rattle.std.{specs.Option.ForSome, specs.Prelude.{IfNone, decimal, codes, if◌then◌else◌, unwrap_or}, specs.Str.bytes_eq, proofs.lemmas.Fmt.{decimal_injective, decimal_nonempty}}
use Rattle.hex.{specs.Hex.{encode_lower, lower_digits}, proofs.HexLemmas.{length-encode_with, decode_of-encode_lower, decode_of-same}}
use Rattle.result_rows.specs.{Outcomes.{op_of, outcome_word, tick_of, place_of, bytes_of}, RowText.{decimal_or_empty, hex_or_empty}, declared.Op.Op, declared.Outcome.Outcome}
use Rattle.result_rows.specs.declared.Outcome.TheVariants as out
use Rattle.check_reader.specs.{Fields.Fields, Parts.{HasParts, Shows}, ResultRows.{MayStand, IsPlace, AreBytes}}

-- what is known where there is no value
pub if_none_then : {T : Type 0} (o : Option T) {P Q : Type 0} → IfNone o P → (P → Q) → IfNone o Q
if_none_then None p f = f p
if_none_then (Some x) p f = tt

-- numbers, or none, that are printed alike are the same
same_place : (text : List ℕ) (one other : Option ℕ) → ForSome one IsPlace → ForSome other IsPlace → text ≡ decimal_or_empty one → text ≡ decimal_or_empty other → one ≡ other
same_place text None None fit also is same = refl
same_place text None (Some n) fit also is same =
    let within = also n refl in absurd (omega (arith, decimal_nonempty n (omega arith), ap (λ (ds : List ℕ). length ds) (sym is ∙ same)))
same_place text (Some m) None fit also is same =
    let within = fit m refl in absurd (omega (arith, decimal_nonempty m (omega arith), ap (λ (ds : List ℕ). length ds) (sym is ∙ same)))
same_place text (Some m) (Some n) fit also is same =
    let low = fit m refl in
    let high = also n refl in
    ap (λ k. Some k) (decimal_injective m n (omega arith) (omega arith) (sym is ∙ same))

-- bytes, or none, that are printed alike are the same
some_digits : (n : ℕ) (bytes : List ℕ) → 1 ≤ n → AreBytes n bytes → [] ≢ encode_lower bytes
some_digits n bytes some are is =
    omega (arith, are.0, length-encode_with lower_digits bytes, ap (λ (ds : List ℕ). length ds) is)

same_bytes : (n : ℕ) (text : List ℕ) (one other : Option (List ℕ)) → 1 ≤ n → ForSome one (AreBytes n) → ForSome other (AreBytes n)
    → text ≡ hex_or_empty one → text ≡ hex_or_empty other → one ≡ other
same_bytes n text None None some fit also is same = refl
same_bytes n text None (Some bytes) some fit also is same = absurd (some_digits n bytes some (also bytes refl) (sym is ∙ same))
same_bytes n text (Some bytes) None some fit also is same = absurd (some_digits n bytes some (fit bytes refl) (sym same ∙ is))
same_bytes n text (Some bytes) (Some others) some fit also is same =
    let one = decode_of-encode_lower bytes (fit bytes refl).1 in
    let other = decode_of-encode_lower others (also others refl).1 in
    let alike : encode_lower others ≡ encode_lower bytes = sym same ∙ is in
    ap (λ bs. Some bs) (decode_of-same (encode_lower bytes) bytes others one (rw alike at other))

module _ {n : ℕ} where
  -- an outcome of an operation has a tick
  some_tick : (outcome : Outcome n) (asked : Op) → op_of outcome ≡ Some asked → (tick : ℕ) × (tick_of outcome ≡ Some tick)
  some_tick out.Unset asked h = cc h
  some_tick (out.Stored tick place) asked h = (tick, refl)
  some_tick (out.Merged tick) asked h = (tick, refl)
  some_tick (out.Queued tick) asked h = (tick, refl)
  some_tick (out.Full tick) asked h = (tick, refl)
  some_tick (out.Worn tick) asked h = (tick, refl)
  some_tick (out.Read tick place bytes) asked h = (tick, refl)
  some_tick (out.Forwarded tick bytes) asked h = (tick, refl)
  some_tick (out.Busy tick) asked h = (tick, refl)
  some_tick (out.Lost tick) asked h = (tick, refl)
  some_tick (out.Cut tick) asked h = (tick, refl)

  -- what the fields were read as is what the outcome has that they show
  pub shown_parts : (asked : Op) (f : Fields) (tick : ℕ) (place : Option ℕ) (bytes : Option (List ℕ)) (outcome : Outcome n) → 1 ≤ n
      → tick ≤ 999999999999999 → f.tick ≡ decimal tick → ForSome place IsPlace → f.place ≡ decimal_or_empty place
      → ForSome bytes (AreBytes n) → f.digits ≡ hex_or_empty bytes
      → MayStand asked outcome → Shows f outcome → HasParts asked f.word tick place bytes outcome
  shown_parts asked f tick place bytes outcome some fits is place_fits place_is bytes_fit bytes_are may shows =
      let t = some_tick outcome asked may.belongs in
      let within : t.0 < 10 ^ 15 = may.tick t.0 t.1 in
      let printed : f.tick ≡ decimal t.0 = shows.tick ∙ ap decimal_or_empty t.1 in
      let same : t.0 ≡ tick = decimal_injective t.0 tick (omega arith) (omega arith) (sym printed ∙ is) in
      record {
        belongs = may.belongs;
        has_word = sym shows.word;
        has_tick = t.1 ∙ ap (λ k. Some k) same;
        has_place = same_place f.place (place_of outcome) place may.place place_fits shows.place place_is;
        has_bytes = same_bytes n f.digits (bytes_of outcome) bytes some may.bytes bytes_fit shows.digits bytes_are;
      }

  -- the outcome of a word, a tick, a place and bytes
  rebuilt : List ℕ → Option ℕ → Option ℕ → Option (List ℕ) → Outcome n
  rebuilt word tick place bytes =
      if bytes_eq word (codes "stored") then out.Stored (unwrap_or tick 0) (unwrap_or place 0)
      else if bytes_eq word (codes "merged") then out.Merged (unwrap_or tick 0)
      else if bytes_eq word (codes "queued") then out.Queued (unwrap_or tick 0)
      else if bytes_eq word (codes "full") then out.Full (unwrap_or tick 0)
      else if bytes_eq word (codes "worn") then out.Worn (unwrap_or tick 0)
      else if bytes_eq word (codes "read") then out.Read (unwrap_or tick 0) (unwrap_or place 0) (unwrap_or bytes [])
      else if bytes_eq word (codes "forwarded") then out.Forwarded (unwrap_or tick 0) (unwrap_or bytes [])
      else if bytes_eq word (codes "busy") then out.Busy (unwrap_or tick 0)
      else if bytes_eq word (codes "lost") then out.Lost (unwrap_or tick 0)
      else if bytes_eq word (codes "cut") then out.Cut (unwrap_or tick 0)
      else out.Unset

  rebuilt-self : (outcome : Outcome n) → rebuilt (outcome_word outcome) (tick_of outcome) (place_of outcome) (bytes_of outcome) ≡ outcome
  unfolding rebuilt
  rebuilt-self out.Unset = refl
  rebuilt-self (out.Stored tick place) = refl
  rebuilt-self (out.Merged tick) = refl
  rebuilt-self (out.Queued tick) = refl
  rebuilt-self (out.Full tick) = refl
  rebuilt-self (out.Worn tick) = refl
  rebuilt-self (out.Read tick place bytes) = refl
  rebuilt-self (out.Forwarded tick bytes) = refl
  rebuilt-self (out.Busy tick) = refl
  rebuilt-self (out.Lost tick) = refl
  rebuilt-self (out.Cut tick) = refl

  -- an outcome is told by its word, tick, place and bytes
  told_by_parts : (asked : Op) (word : List ℕ) (tick : ℕ) (place : Option ℕ) (bytes : Option (List ℕ)) (one other : Outcome n)
      → HasParts asked word tick place bytes one → HasParts asked word tick place bytes other → one ≡ other
  told_by_parts asked word tick place bytes one other h k =
      sym (rebuilt-self one) ∙ rw (h.has_word, h.has_tick, h.has_place, h.has_bytes, ← k.has_word, ← k.has_tick, ← k.has_place, ← k.has_bytes) (rebuilt-self other)

  -- fields show one outcome
  pub shown_once : (asked : Op) (f : Fields) (one other : Outcome n) → 1 ≤ n → MayStand asked one → Shows f one → MayStand asked other → Shows f other → one ≡ other
  shown_once asked f one other some may shows also same =
      let t = some_tick other asked also.belongs in
      let within : t.0 < 10 ^ 15 = also.tick t.0 t.1 in
      let printed : f.tick ≡ decimal t.0 = same.tick ∙ ap decimal_or_empty t.1 in
      let parts = shown_parts asked f t.0 (place_of other) (bytes_of other) one some (omega arith) printed also.place same.place also.bytes same.digits may shows in
      told_by_parts asked f.word t.0 (place_of other) (bytes_of other) one other parts
      record { belongs = also.belongs; has_word = sym same.word; has_tick = t.1; has_place = refl; has_bytes = refl }
