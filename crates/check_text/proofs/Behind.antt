-- Results that stand behind a trace begin where it ends.
use Rattle.std.proofs.Common.{◌≡◌, ◌≢◌, ℕ, ◌+◌, ◌-◌, ◌<◌, ◌≤◌, ◌||◌, Bool, true, false, inl, inr, List, [], ◌∷◌, ◌++◌, length, take, drop, refl, sym, ap, ◌∙◌, subst, arith, append_assoc, length-append, cond}
use Rattle.std.{specs.Prelude.{Ok, slice_index}, proofs.lemmas.Bool.{cases_eq, cases_lt}, proofs.lemmas.Bool.Decides.nat_tests}
use Rattle.std.proofs.lemmas.List.{drop-append-le, drop_at, get_or_append_left, take-append-drop, take-append-le, take_more, take_all}
use Rattle.csv.specs.Reading.{default_config, is_bom, records, strip_bom}
use Rattle.trace_reader.specs.{Trace.trace_of, declared.event.Event.Event}
use Rattle.check_reader.specs.Splitting.{BeginsLine, BeginsWithHeader, EndsLine, IsHeaderAt, header_line}
use Rattle.check_text.{specs.SplitLaw.{EndsItsLine, SplitLaw}, proofs.Breaking.{IsBreak, header-behind, header-first}, proofs.Plain.{ArePlain, is_broken, is_break, records-ok}}
use Rattle.masked_bytes.proofs.Truth.{neither_second}

-- ---- a line that ends

-- a text that ends a line
record Ended (text : List ℕ) : Type 0 where
  front : List ℕ
  last : ℕ
  break : IsBreak last
  is : text ≡ front ++ last ∷ []

-- a line begins behind some of its bytes
ended-at : (bytes : List ℕ) (at : ℕ) → 0 < at → at ≤ length bytes → BeginsLine bytes at → Ended (take at bytes)
ended-at bytes at some within (inl none) = absurd (omega (arith, some, none))
ended-at bytes at some within (inr break) = record {
  front = take (at - 1) bytes;
  last = slice_index bytes (at - 1);
  break = break;
  is =
      let next : at ≡ at - 1 + 1 = omega arith in
      ap (λ (n : ℕ). take n bytes) next ∙ take_more bytes (at - 1) 0 (omega arith);
}

-- ---- the header in a text of two

-- a text without an end of a line, at the front of one that ends a line and another, stands in the first
within-first : (h front : List ℕ) (last : ℕ) (results behind : List ℕ) → IsBreak last → is_broken h ≡ false → (front ++ last ∷ []) ++ results ≡ h ++ behind
    → (rest : List ℕ) × (front ≡ h ++ rest) × ((rest ++ last ∷ []) ++ results ≡ behind)
within-first [] front last results behind break whole same = (front, refl, same)
within-first (x ∷ h) [] last results behind break whole same =
    let first : last ≡ x = cc in
    absurd (by break)
  where
    by : IsBreak last → ⊥
    by (inl feed) =
        let first : last ≡ x = cc same in
        let ten : x ≡ 10 = sym first ∙ feed in
        cc (subst (λ (x : ℕ). (is_break x || is_broken h) ≡ false) ten whole)
    by (inr return) =
        let first : last ≡ x = cc same in
        let thirteen : x ≡ 13 = sym first ∙ return in
        cc (subst (λ (x : ℕ). (is_break x || is_broken h) ≡ false) thirteen whole)
within-first (x ∷ h) (y ∷ front) last results behind break whole same =
    let first : y ≡ x = cc in
    let others : (front ++ last ∷ []) ++ results ≡ h ++ behind = cc in
    let rest = within-first h front last results behind break
    (neither_second (is_break x) (is_broken h) whole) others in
    (rest.0, ap (λ (c : ℕ). c ∷ front) first ∙ ap (λ (text : List ℕ). x ∷ text) rest.1, rest.2)

filled : (rest : List ℕ) (last : ℕ) (results : List ℕ) → (rest ++ last ∷ []) ++ results ≢ []
filled [] last results same = cc same
filled (x ∷ rest) last results same = cc same

-- the header's line stands in the first text with its LF
header-within : (front : List ℕ) (last : ℕ) (results : List ℕ) → IsBreak last → BeginsWithHeader ((front ++ last ∷ []) ++ results)
    → (tail : List ℕ) × (front ++ last ∷ [] ≡ header_line ++ 10 ∷ tail)
header-within front last results break header =
    let found = within-first header_line front last results header.0 break refl header.1 in
    by found.0 found.1 found.2 header.2
  where
    by : (rest : List ℕ) → front ≡ header_line ++ rest → (rest ++ last ∷ []) ++ results ≡ header.0 → EndsLine header.0 → (tail : List ℕ) × (front ++ last ∷ [] ≡ header_line ++ 10 ∷ tail)
    by rest is text (inl none) = absurd (filled rest last results (text ∙ none))
    by [] is text (inr feed) =
        let ten : last ≡ 10 = cc (text ∙ feed.1) in
        ([], ap (λ (front : List ℕ). front ++ last ∷ []) is ∙ ap (λ (c : ℕ). (header_line ++ []) ++ c ∷ []) ten)
    by (x ∷ rest) is text (inr feed) =
        let ten : x ≡ 10 = cc (text ∙ feed.1) in
        (rest ++ last ∷ [], ap (λ (front : List ℕ). front ++ last ∷ []) is ∙ ap (λ (c : ℕ). (header_line ++ c ∷ rest) ++ last ∷ []) ten ∙ append_assoc header_line (10 ∷ rest) (last ∷ []))

-- ---- a mark of the order of bytes

-- a mark has none of these bytes
no-mark : (x y z : ℕ) → (x ≡ 0xEF → y ≡ 0xBB → z ≢ 0xBF) → is_bom x y z ≡ false
no-mark x y z none =
    elim (cases_eq x 0xEF) [
      | inr other ↦ grind (arith, nat_tests)
      | inl one ↦ elim (cases_eq y 0xBB) [
        | inr other ↦ grind (arith, nat_tests)
        | inl two ↦
            let three = none one two in
            grind (arith, nat_tests)
      ]
    ]

break-small : (c : ℕ) → IsBreak c → c ≤ 13
break-small c (inl feed) = omega (arith, feed)
break-small c (inr return) = omega (arith, return)

-- what stands behind the end of a line stays behind it
unmarked : (front : List ℕ) (last : ℕ) (tail : List ℕ) → IsBreak last
    → (kept : List ℕ) × (strip_bom (front ++ last ∷ (header_line ++ 10 ∷ tail)) ≡ kept ++ last ∷ (header_line ++ 10 ∷ tail))
unfolding strip_bom
unmarked [] last tail break =
    let text : List ℕ = last ∷ (header_line ++ 10 ∷ tail) in
    let other : is_bom last 114 111 ≡ false = no-mark last 114 111 (λ one two three. absurd (omega (arith, two))) in
    ([], ap (λ (b : Bool). cond b (drop 3 text) text) other)
unmarked (x ∷ []) last tail break =
    let text : List ℕ = x ∷ last ∷ (header_line ++ 10 ∷ tail) in
    let other : is_bom x last 114 ≡ false = no-mark x last 114 (λ one two three. absurd (omega (arith, three))) in
    (x ∷ [], ap (λ (b : Bool). cond b (drop 3 text) text) other)
unmarked (x ∷ y ∷ []) last tail break =
    let text : List ℕ = x ∷ y ∷ last ∷ (header_line ++ 10 ∷ tail) in
    let other : is_bom x y last ≡ false = no-mark x y last (λ one two three. absurd (omega (arith, three, break-small last break))) in
    (x ∷ y ∷ [], ap (λ (b : Bool). cond b (drop 3 text) text) other)
unmarked (x ∷ y ∷ z ∷ front) last tail break = by (is_bom x y z)
  where
    text : List ℕ
    text = front ++ last ∷ (header_line ++ 10 ∷ tail)

    by : (b : Bool) → (kept : List ℕ) × (cond b (front ++ last ∷ (header_line ++ 10 ∷ tail)) (x ∷ y ∷ z ∷ front ++ last ∷ (header_line ++ 10 ∷ tail)) ≡ kept ++ last ∷ (header_line ++ 10 ∷ tail))
    by true = (front, refl)
    by false = (x ∷ y ∷ z ∷ front, refl)

unmarked-first : (tail : List ℕ) → strip_bom (header_line ++ 10 ∷ tail) ≡ header_line ++ 10 ∷ tail
unfolding strip_bom
unmarked-first tail = refl

-- ---- no line of a trace is the header

plain : (n lines : ℕ) (trace : List ℕ) (events : List (Event n)) → trace_of n lines trace ≡ Ok events → ArePlain (records default_config (strip_bom trace))
unfolding trace_of
plain n lines trace events is = (records-ok n lines (records default_config (strip_bom trace)) events is).0

none-first : (n lines : ℕ) (trace : List ℕ) (events : List (Event n)) (tail : List ℕ) → trace_of n lines trace ≡ Ok events → trace ≢ header_line ++ 10 ∷ tail
none-first n lines trace events tail is same =
    header-first tail
    (subst (λ (text : List ℕ). ArePlain (records default_config text)) (unmarked-first tail)
    (subst (λ (text : List ℕ). ArePlain (records default_config (strip_bom text))) same (plain n lines trace events is)))

none-behind : (n lines : ℕ) (trace : List ℕ) (events : List (Event n)) (front : List ℕ) (last : ℕ) (tail : List ℕ) → trace_of n lines trace ≡ Ok events → IsBreak last
    → trace ≢ front ++ last ∷ (header_line ++ 10 ∷ tail)
none-behind n lines trace events front last tail is break same =
    let kept = unmarked front last tail break in
    header-behind kept.0 last tail break
    (subst (λ (text : List ℕ). ArePlain (records default_config text)) kept.1
    (subst (λ (text : List ℕ). ArePlain (records default_config (strip_bom text))) same (plain n lines trace events is)))

module _ (n lines : ℕ) (trace results : List ℕ) (events : List (Event n)) (is : trace_of n lines trace ≡ Ok events) (ended : EndsItsLine trace) where
  none-before : (before : ℕ) → before < length trace → ¬ IsHeaderAt (trace ++ results) before
  none-before before within header =
      let whole : take (length trace) trace ≡ trace = take_all (length trace) trace (omega arith) in
      let line = ended-at trace (length trace) (omega (arith, within)) (omega arith) ended in
      let same : trace ≡ line.front ++ line.last ∷ [] = sym whole ∙ line.is in
      let size : length trace ≡ length line.front + 1 = ap length same ∙ length-append line.front (line.last ∷ []) in
      let rest : drop before trace ≡ drop before line.front ++ line.last ∷ [] =
      ap (drop before) same ∙ drop-append-le before line.front (line.last ∷ []) (omega (arith, within, size)) in
      let text : drop before (trace ++ results) ≡ (drop before line.front ++ line.last ∷ []) ++ results =
      drop-append-le before trace results (omega (arith, within)) ∙ ap (λ (rest : List ℕ). rest ++ results) rest in
      let found = header-within (drop before line.front) line.last results line.break (subst BeginsWithHeader text header.header) in
      let all : trace ≡ take before trace ++ (header_line ++ 10 ∷ found.0) =
      sym (take-append-drop before trace) ∙ ap (λ (rest : List ℕ). take before trace ++ rest) (rest ∙ found.1) in
      elim (cases_lt 0 before) [
        | inl some ↦
            let front = ended-at (trace ++ results) before some (omega (arith, within, length-append trace results)) header.begins in
            let own : take before trace ≡ front.front ++ front.last ∷ [] = sym (take-append-le before trace results (omega (arith, within))) ∙ front.is in
            none-behind n lines trace events front.front front.last found.0 is front.break
            (all ∙ ap (λ (front : List ℕ). front ++ (header_line ++ 10 ∷ found.0)) own ∙ append_assoc front.front (front.last ∷ []) (header_line ++ 10 ∷ found.0))
        | inr none ↦
            let zero_is : before ≡ 0 = omega (arith, none) in
            none-first n lines trace events found.0 is
            (subst (λ (before : ℕ). trace ≡ take before trace ++ (header_line ++ 10 ∷ found.0)) zero_is all)
      ]

  -- the results' own header stands behind it
  begins-there : BeginsWithHeader results → BeginsLine (trace ++ results) (length trace) → IsHeaderAt (trace ++ results) (length trace)
  begins-there header begins = record {
    within =
        let size = ap length header.1 ∙ length-append header_line header.0 in
        omega (arith, size, length-append trace results);
    begins = begins;
    header = subst BeginsWithHeader (sym (drop_at trace results (length trace) refl)) header;
  }

  begins-line : BeginsLine (trace ++ results) (length trace)
  begins-line =
      elim (cases_lt 0 (length trace)) [
        | inl some ↦ by some ended
        | inr none ↦ inl (omega (arith, none))
      ]
    where
      own : 0 < length trace → slice_index (trace ++ results) (length trace - 1) ≡ slice_index trace (length trace - 1)
      own some = get_or_append_left trace results 0 (length trace - 1) (omega (arith, some))

      by : 0 < length trace → EndsItsLine trace → BeginsLine (trace ++ results) (length trace)
      by some (inl none) = inl none
      by some (inr (inl feed)) = inr (inl (own some ∙ feed))
      by some (inr (inr return)) = inr (inr (own some ∙ return))

pub split_law : SplitLaw
split_law n lines trace results events is ended header = record {
  header = inr (begins-there n lines trace results events is ended header (begins-line n lines trace results events is ended));
  within = omega (arith, length-append trace results);
  first = none-before n lines trace results events is ended;
}
