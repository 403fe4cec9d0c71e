-- Rows of plain bytes as `csv` reads them.
use Rattle.std.proofs.Common.{◌≡◌, ℕ, zero, suc, ◌+◌, ◌-◌, ◌≤◌, ◌==◌, ◌&&◌, List, [], ◌∷◌, ◌++◌, length, drop, get_or, Bool, true, false, Option, Some, None, refl, sym, ap, subst, ◌∙◌, arith, append_assoc}
use Rattle.std.{specs.List.list_all, specs.Prelude.{if◌then◌else◌, codes}, specs.Str.bytes_eq, proofs.Math.Seq.drop-cons, proofs.lemmas.Bool.Decides.nat_tests}
use Rattle.std.proofs.{lemmas.List.{append-nil, drop-drop, get_or-drop, get_or-take, length-drop, length-take-le, take-append-drop}, lemmas.List.Elements.All-from_get_or}
use Rattle.std.proofs.lemmas.List.Sums.{list_all-from_AllPass}
use Rattle.csv.specs.{Machine.{Read, field_after, fields_after, is_end, next_record, step}, Reading.{default_config, records, records_from, records_next, strip_bom}}
use Rattle.csv.specs.{Records.field_at, declared.parser.Action.Action, declared.parser.State.State}
use Rattle.csv.specs.declared.parser.State.TheVariants as st
use Rattle.csv.specs.declared.parser.Action.TheVariants as act
use Rattle.trace_reader.specs.{Plain.{IsField, IsPlainRow, fields_in, is_plain, piece}, Records.unended, Rows.{event_of, row_of}, Trace.is_header, declared.plain.PlainRow.PlainRow}
use Rattle.trace_reader.proofs.Reading.{records_from-none, records_from-some, shorter}

-- whether plain bytes join a field in this state
abbrev joins : State → Bool
joins st.StartRecord = true
joins st.StartField = true
joins st.InField = true
joins st.AfterCr = false
joins st.InQuoted = false
joins st.AfterQuote = false
joins st.InEscape = false
joins st.InComment = false

-- a plain byte joins the field at hand
plain-step : (s : State) (byte : ℕ) → joins s ≡ true → is_plain byte ≡ true → step default_config s byte ≡ (st.InField, act.Copy)
plain-step s byte takes plain =
    let a : (byte == 34) ≡ false = grind (arith, nat_tests) in
    let b : (byte == 44) ≡ false = grind (arith, nat_tests) in
    let c : (byte == 13) ≡ false = grind (arith, nat_tests) in
    let d : (byte == 10) ≡ false = grind (arith, nat_tests) in
    by s takes a b c d
  where
    by : (s : State) → joins s ≡ true → (byte == 34) ≡ false → (byte == 44) ≡ false → (byte == 13) ≡ false → (byte == 10) ≡ false → step default_config s byte ≡ (st.InField, act.Copy)
    by st.StartRecord t a b c d = rw (a, b, c, d) refl
    by st.StartField t a b c d = rw (a, b, c, d) refl
    by st.InField t a b c d = rw (b, c, d) refl
    by _ t a b c d = cc t

step-is : (s : State) (fields : List (List ℕ)) (field : List ℕ) (byte : ℕ) (rest : List ℕ) (s2 : State) (a : Action) → (s2, a) ≡ step default_config s byte
    → next_record default_config s fields field (byte ∷ rest)
    ≡ (if is_end a then Some (fields_after a fields field, s2, rest) else next_record default_config s2 (fields_after a fields field) (field_after a byte field) rest)
unfolding next_record
step-is s fields field byte rest s2 a e =
    let first : s2 ≡ (step default_config s byte).0 = ap (λ (q : State × Action). q.0) e in
    let second : a ≡ (step default_config s byte).1 = ap (λ (q : State × Action). q.1) e in
    rw (first, second) refl

and-first : (p q : Bool) → (p && q) ≡ true → p ≡ true
and-first p q h = grind arith

and-second : (p q : Bool) → (p && q) ≡ true → q ≡ true
and-second p q h = grind arith

-- a comma ends a field
comma-step : (s : State) → joins s ≡ true → (st.StartField, act.EndField) ≡ step default_config s 44
comma-step s t = grind arith

-- plain bytes and a comma
field-ends : (s : State) (fields : List (List ℕ)) (field run tail : List ℕ) → joins s ≡ true → list_all is_plain run ≡ true
    → next_record default_config s fields field (run ++ 44 ∷ tail) ≡ next_record default_config st.StartField (fields ++ ((field ++ run) ∷ [])) [] tail
field-ends s fields field [] tail joins_it plain =
    step-is s fields field 44 tail st.StartField act.EndField (comma-step s joins_it) ∙ rw (append-nil field) refl
field-ends s fields field (byte ∷ run) tail joins_it plain =
    step-is s fields field byte (run ++ 44 ∷ tail) st.InField act.Copy (sym (plain-step s byte joins_it (and-first (is_plain byte) (list_all is_plain run) plain)))
    ∙ field-ends st.InField fields (field ++ (byte ∷ [])) run tail refl (and-second (is_plain byte) (list_all is_plain run) plain)
    ∙ ap (λ f. next_record default_config st.StartField (fields ++ (f ∷ [])) [] tail) (append_assoc field (byte ∷ []) run)

-- plain bytes and a line feed
last-ends : (s : State) (fields : List (List ℕ)) (field run tail : List ℕ) → (st.StartRecord, act.EndRecord) ≡ step default_config s 10 → joins s ≡ true → list_all is_plain run ≡ true
    → next_record default_config s fields field (run ++ 10 ∷ tail) ≡ Some (fields ++ ((field ++ run) ∷ []), st.StartRecord, tail)
last-ends s fields field [] tail ends joins_it plain =
    step-is s fields field 10 tail st.StartRecord act.EndRecord ends ∙ rw (append-nil field) refl
last-ends s fields field (byte ∷ run) tail ends joins_it plain =
    step-is s fields field byte (run ++ 10 ∷ tail) st.InField act.Copy (sym (plain-step s byte joins_it (and-first (is_plain byte) (list_all is_plain run) plain)))
    ∙ last-ends st.InField fields (field ++ (byte ∷ [])) run tail refl refl (and-second (is_plain byte) (list_all is_plain run) plain)
    ∙ ap (λ f. Some (fields ++ (f ∷ []), st.StartRecord, tail)) (append_assoc field (byte ∷ []) run)

row-is : (f0 f1 f2 f3 rest : List ℕ) → list_all is_plain f0 ≡ true → list_all is_plain f1 ≡ true → list_all is_plain f2 ≡ true → list_all is_plain f3 ≡ true
    → next_record default_config st.StartRecord [] [] (f0 ++ 44 ∷ (f1 ++ 44 ∷ (f2 ++ 44 ∷ (f3 ++ 10 ∷ rest)))) ≡ Some (f0 ∷ f1 ∷ f2 ∷ f3 ∷ [], st.StartRecord, rest)
row-is f0 f1 f2 f3 rest p0 p1 p2 p3 =
    field-ends st.StartRecord [] [] f0 (f1 ++ 44 ∷ (f2 ++ 44 ∷ (f3 ++ 10 ∷ rest))) refl p0
    ∙ field-ends st.StartField (f0 ∷ []) [] f1 (f2 ++ 44 ∷ (f3 ++ 10 ∷ rest)) refl p1
    ∙ field-ends st.StartField (f0 ∷ f1 ∷ []) [] f2 (f3 ++ 10 ∷ rest) refl p2
    ∙ last-ends st.StartField (f0 ∷ f1 ∷ f2 ∷ []) [] f3 rest refl refl p3

pub piece-plain : (bytes : List ℕ) (from at end : ℕ) → IsField bytes from at end → list_all is_plain (piece bytes from at) ≡ true
piece-plain bytes from at end field =
    let left : length (drop from bytes) ≡ length bytes - from = length-drop from bytes in
    let size : length (piece bytes from at) ≡ at - from = length-take-le (at - from) (drop from bytes) (omega (arith, left, field.within)) in
    list_all-from_AllPass is_plain (piece bytes from at)
    (All-from_get_or (λ x. is_plain x ≡ true) (piece bytes from at) 0
    (λ k low.
    let is : get_or (piece bytes from at) k 0 ≡ get_or bytes (from + k) 0 = get_or-take (at - from) (drop from bytes) k 0 (omega (arith, low, size)) ∙ get_or-drop from bytes k 0 in
    subst (λ x. is_plain x ≡ true) (sym is) (field.plain (from + k) (omega arith) (omega (arith, low, size, field.order)))))

pub piece-ends : (bytes : List ℕ) (from at end : ℕ) → IsField bytes from at end → drop from bytes ≡ piece bytes from at ++ end ∷ drop (at + 1) bytes
piece-ends bytes from at end field =
    let whole : from + (at - from) ≡ at = omega (arith, field.order) in
    let next : suc at ≡ at + 1 = omega arith in
    sym (take-append-drop (at - from) (drop from bytes))
    ∙ ap (λ xs. piece bytes from at ++ xs)
    (drop-drop (at - from) from bytes ∙ ap (λ k. drop k bytes) whole ∙ drop-cons bytes at 0 field.within
    ∙ ap (λ x. x ∷ drop (suc at) bytes) field.ends ∙ ap (λ k. end ∷ drop k bytes) next)

pub plain-next : (bytes : List ℕ) (from : ℕ) (row : PlainRow) → IsPlainRow bytes from row
    → next_record default_config st.StartRecord [] [] (drop from bytes) ≡ Some (fields_in bytes from row, st.StartRecord, drop (row.payload + 1) bytes)
plain-next bytes from row plain =
    let text = piece-ends bytes from row.tick 44 plain.tick
    ∙ ap (λ xs. piece bytes from row.tick ++ 44 ∷ xs) (piece-ends bytes (row.tick + 1) row.op 44 plain.op
    ∙ ap (λ xs. piece bytes (row.tick + 1) row.op ++ 44 ∷ xs) (piece-ends bytes (row.op + 1) row.line 44 plain.line
    ∙ ap (λ xs. piece bytes (row.op + 1) row.line ++ 44 ∷ xs) (piece-ends bytes (row.line + 1) row.payload 10 plain.payload))) in
    ap (next_record default_config st.StartRecord [] []) text
    ∙ row-is (piece bytes from row.tick) (piece bytes (row.tick + 1) row.op) (piece bytes (row.op + 1) row.line) (piece bytes (row.line + 1) row.payload) (drop (row.payload + 1) bytes)
    (piece-plain bytes from row.tick 44 plain.tick) (piece-plain bytes (row.tick + 1) row.op 44 plain.op)
    (piece-plain bytes (row.op + 1) row.line 44 plain.line) (piece-plain bytes (row.line + 1) row.payload 10 plain.payload)

-- where no byte is left to read, there is no record
none-left : (s : State) (text : List ℕ) → length text + unended s ≤ 0 → next_record default_config s [] [] text ≡ None
none-left s text none = by (next_record default_config s [] [] text) refl
  where
    by : (r : Option Read) → next_record default_config s [] [] text ≡ r → next_record default_config s [] [] text ≡ None
    by None e = e
    by (Some p) e = let less = shorter s [] [] text p e in absurd (omega arith)

-- how many records may be read at most changes nothing where it is enough
pub enough-same : (m n : ℕ) (s : State) (text : List ℕ) → length text + unended s ≤ m → length text + unended s ≤ n
    → records_from default_config m s text ≡ records_from default_config n s text
unfolding records_from
enough-same zero n s text a b =
    records_from-none zero s text (none-left s text a) ∙ sym (records_from-none n s text (none-left s text a))
enough-same (suc m) zero s text a b =
    records_from-none (suc m) s text (none-left s text b) ∙ sym (records_from-none zero s text (none-left s text b))
enough-same (suc m) (suc n) s text a b = by (enough-same m n) (next_record default_config s [] [] text) refl
  where
    by : ((s2 : State) (text2 : List ℕ) → length text2 + unended s2 ≤ m → length text2 + unended s2 ≤ n → records_from default_config m s2 text2 ≡ records_from default_config n s2 text2)
        → (r : Option Read) → next_record default_config s [] [] text ≡ r
        → records_next (records_from default_config m) (next_record default_config s [] [] text) ≡ records_next (records_from default_config n) (next_record default_config s [] [] text)
    by more None e = ap (records_next (records_from default_config m)) e ∙ sym (ap (records_next (records_from default_config n)) e)
    by more (Some p) e =
        let less = shorter s [] [] text p e in
        ap (records_next (records_from default_config m)) e ∙ ap (λ rows. p.0 ∷ rows) (more p.1 p.2 (omega arith) (omega arith))
        ∙ sym (ap (records_next (records_from default_config n)) e)

-- a plain row and the records behind it
pub records-plain : (bytes : List ℕ) (from : ℕ) (row : PlainRow) → IsPlainRow bytes from row
    → records default_config (drop from bytes) ≡ fields_in bytes from row ∷ records default_config (drop (row.payload + 1) bytes)
records-plain bytes from row plain =
    let text : List ℕ = drop from bytes in
    let rest : List ℕ = drop (row.payload + 1) bytes in
    let some = records_from-some (length text + 1) st.StartRecord text _ (plain-next bytes from row plain) (omega arith) in
    some.1 ∙ ap (λ rows. fields_in bytes from row ∷ rows) (enough-same some.0 (length rest + 1) st.StartRecord rest some.2 (omega arith))

-- a line feed in front of a text
skip-next : (rest : List ℕ) → next_record default_config st.StartRecord [] [] (10 ∷ rest) ≡ next_record default_config st.StartRecord [] [] rest
skip-next rest = step-is st.StartRecord [] [] 10 rest st.StartRecord act.Skip refl

pub strip-feed : (rest : List ℕ) → strip_bom (10 ∷ rest) ≡ 10 ∷ rest
unfolding strip_bom
strip-feed [] = refl
strip-feed (b ∷ []) = refl
strip-feed (b ∷ c ∷ rest) = refl

pub records-feed : (rest : List ℕ) → records default_config (10 ∷ rest) ≡ records default_config rest
unfolding records_from
records-feed rest =
    let one : length (10 ∷ rest) + 1 ≡ suc (length rest + 1) = omega arith in
    ap (λ k. records_from default_config k st.StartRecord (10 ∷ rest)) one
    ∙ ap (records_next (records_from default_config (length rest + 1))) (skip-next rest)
    ∙ enough-same (suc (length rest + 1)) (length rest + 1) st.StartRecord rest (omega arith) (omega arith)

-- the header by its four fields
pub header_is : (a b c d : List ℕ) → is_header (a ∷ b ∷ c ∷ d ∷ []) ≡ (bytes_eq a (codes "tick") && bytes_eq b (codes "op") && bytes_eq c (codes "arg") && bytes_eq d (codes "data"))
unfolding is_header field_at
header_is a b c d = refl

-- a row by its four fields
pub event_is : (n lines before : ℕ) (a b c d : List ℕ) → event_of n lines before (a ∷ b ∷ c ∷ d ∷ []) ≡ row_of n lines before a b c d
unfolding event_of field_at
event_is n lines before a b c d = refl

-- a text whose first byte begins no byte order mark
pub strip-none : (text : List ℕ) → (get_or text 0 0 == 239) ≡ false → strip_bom text ≡ text
unfolding strip_bom
strip-none [] h = refl
strip-none (a ∷ []) h = refl
strip-none (a ∷ b ∷ []) h = refl
strip-none (a ∷ b ∷ c ∷ rest) h = rw h refl
