-- How a record is read, one byte or one run of bytes after the other.
use Rattle.std.proofs.Common.{◌≡◌, ℕ, suc, zero, ◌+◌, ◌<◌, ◌≤◌, ◌==◌, ◌&&◌, ◌||◌, List, [], ◌∷◌, ◌++◌, length, get_or, take, drop, min, Bool, true, false, Option, Some, None, inl, inr, refl, sym, ap, subst, ◌∙◌, append_assoc, arith}
use Rattle.std.{specs.List.list_all, specs.Prelude.{if◌then◌else◌, IsSomeAnd}, proofs.lemmas.Bool.Decides.nat_tests}
use Rattle.std.proofs.lemmas.List.{take-append-drop, append-nil, length-take, length-take-le, length_push}
use Rattle.csv.specs.{Machine.{Read, ends_at_end, ends_with, in_field, is_end, step}, Reading.default_config, declared.parser.Action.Action, declared.parser.State.State}
use Rattle.csv.specs.declared.parser.State.TheVariants as st
use Rattle.csv.specs.declared.parser.Terminator.TheVariants as term
use Rattle.csv.specs.declared.parser.Action.TheVariants as act
use Rattle.trace_stream.specs.Arrived.{Arrived, Comes, StaysEnded}
use Rattle.trace_stream.specs.Kept.{Decided, FindsKept, GoesOn, IsKeptOf, decides, fields_then, field_then, most_bytes, most_fields, next_kept, whole_then, with_bytes, with_field}
use Rattle.trace_stream.specs.Machine.{takes_plain}
use Rattle.trace_reader.specs.Plain.{is_plain}

-- steps one behind the other
pub goes-goes : (s0 s1 s2 : State) (fs0 fs1 fs2 : List (List ℕ)) (f0 f1 f2 t0 t1 t2 : List ℕ) → length fs1 < most_fields
    → GoesOn s0 fs0 f0 t0 s1 fs1 f1 t1 → GoesOn s1 fs1 f1 t1 s2 fs2 f2 t2 → GoesOn s0 fs0 f0 t0 s2 fs2 f2 t2
goes-goes s0 s1 s2 fs0 fs1 fs2 f0 f1 f2 t0 t1 t2 few a b =
    record { same = λ more. a.same more ∙ b.same more; decided = λ few2 more. a.decided few more ∙ b.decided few2 more }

pub goes-decides : (s0 s1 s2 : State) (fs0 fs1 fs2 : List (List ℕ)) (f0 f1 t0 t1 t2 : List ℕ)
    → GoesOn s0 fs0 f0 t0 s1 fs1 f1 t1 → Decided s1 fs1 f1 t1 fs2 s2 t2 → Decided s0 fs0 f0 t0 fs2 s2 t2
goes-decides s0 s1 s2 fs0 fs1 fs2 f0 f1 t0 t1 t2 a b =
    record { same = λ more. subst (λ (o : Option Read). IsKeptOf o fs2 s2 (t2 ++ more)) (sym (a.same more)) (b.same more) }

-- before any step
pub goes-first : (s : State) (fields : List (List ℕ)) (field text : List ℕ) → fields ≡ [] → field ≡ [] → GoesOn s [] [] (text ++ []) s fields field text
goes-first s fields field text none empty = record {
  same = λ more. rw (none, empty, append-nil text) refl;
  decided = λ few more. rw (none, append-nil text) refl;
}

-- more bytes, where all that arrived were read
pub goes-more : (s0 s : State) (fs0 fs : List (List ℕ)) (f0 f t0 t x : List ℕ) → t ≡ []
    → GoesOn s0 fs0 f0 t0 s fs f t → GoesOn s0 fs0 f0 (t0 ++ x) s fs f x
goes-more s0 s fs0 fs f0 f t0 t x none a = record {
  same = λ more. rw (append_assoc t0 x more) (a.same (x ++ more) ∙ rw none refl);
  decided = λ few more. rw (append_assoc t0 x more) (a.decided few (x ++ more) ∙ rw none refl);
}

-- one byte
next_kept-step : (s : State) (fields : List (List ℕ)) (field : List ℕ) (byte : ℕ) (rest : List ℕ) (s2 : State) (a : Action) → (s2, a) ≡ step default_config s byte
    → next_kept s fields field (byte ∷ rest)
    ≡ (if is_end a then Some (fields_then a fields field, s2, rest) else next_kept s2 (fields_then a fields field) (field_then a byte field) rest)
unfolding next_kept
next_kept-step s fields field byte rest s2 a e =
    let first : s2 ≡ (step default_config s byte).0 = ap (λ (q : State × Action). q.0) e in
    let second : a ≡ (step default_config s byte).1 = ap (λ (q : State × Action). q.1) e in
    rw (first, second) refl

decides-step : (s : State) (whole byte : ℕ) (rest : List ℕ) (s2 : State) (a : Action) → (s2, a) ≡ step default_config s byte
    → decides s whole (byte ∷ rest) ≡ (is_end a || ((whole_then a whole == most_fields) || decides s2 (whole_then a whole) rest))
unfolding decides
decides-step s whole byte rest s2 a e =
    let first : s2 ≡ (step default_config s byte).0 = ap (λ (q : State × Action). q.0) e in
    let second : a ≡ (step default_config s byte).1 = ap (λ (q : State × Action). q.1) e in
    rw (first, second) refl

-- a field more of few
with_field-few : (fields : List (List ℕ)) (field : List ℕ) → length fields < most_fields → length (with_field fields field) ≡ length fields + 1
with_field-few fields field few =
    let size : length (fields ++ (field ∷ [])) ≡ length fields + 1 = length_push fields field in
    length-take most_fields (fields ++ (field ∷ [])) ∙ ap (min most_fields) size ∙ least
  where
    least : min most_fields (length fields + 1) ≡ length fields + 1
    least = omega (arith, few)

whole-of : (a : Action) (fields : List (List ℕ)) (field : List ℕ) → is_end a ≡ false → length fields < most_fields → length (fields_then a fields field) ≡ whole_then a (length fields)
whole-of act.EndField fields field going few = with_field-few fields field few
whole-of act.EndRecord fields field going few = cc going
whole-of act.Skip fields field going few = refl
whole-of act.Copy fields field going few = refl

few-differs : (whole : ℕ) → whole < most_fields → (whole == most_fields) ≡ false
few-differs whole few = grind (arith, nat_tests)

pub goes-byte : (s s2 : State) (a : Action) (fields fields2 : List (List ℕ)) (field field2 text rest : List ℕ) (byte : ℕ) → text ≡ byte ∷ rest → (s2, a) ≡ step default_config s byte
    → is_end a ≡ false → fields2 ≡ fields_then a fields field → field2 ≡ field_then a byte field → length fields < most_fields → GoesOn s fields field text s2 fields2 field2 rest
goes-byte s s2 a fields fields2 field field2 text rest byte is e going f g few = record {
  same = λ more. rw (is, f, g) (next_kept-step s fields field byte (rest ++ more) s2 a e ∙ rw going refl);
  decided = λ few2 more.
      let whole : whole_then a (length fields) ≡ length fields2 = sym (whole-of a fields field going few) ∙ ap length (sym f) in
      rw is (decides-step s (length fields) byte (rest ++ more) s2 a e ∙ rw (going, whole, few-differs (length fields2) few2) refl);
}

pub ends-byte : (s s2 : State) (a : Action) (fields fields2 : List (List ℕ)) (field text rest : List ℕ) (byte : ℕ) → text ≡ byte ∷ rest → (s2, a) ≡ step default_config s byte
    → is_end a ≡ true → fields2 ≡ fields_then a fields field → Decided s fields field text fields2 s2 rest
ends-byte s s2 a fields fields2 field text rest byte is e ending f = record {
  same = λ more. inl (rw (is, f) (next_kept-step s fields field byte (rest ++ more) s2 a e ∙ rw ending refl));
}

-- a plain byte joins the field at hand
plain-step : (s : State) (byte : ℕ) → takes_plain s ≡ true → is_plain byte ≡ true → step default_config s byte ≡ (st.InField, act.Copy)
plain-step s byte takes plain =
    let a : (byte == 34) ≡ false = grind (arith, nat_tests) in
    let b : (byte == 44) ≡ false = grind (arith, nat_tests) in
    let c : (byte == 13) ≡ false = grind (arith, nat_tests) in
    let d : (byte == 10) ≡ false = grind (arith, nat_tests) in
    by s takes a b c d
  where
    by : (s : State) → takes_plain s ≡ true → (byte == 34) ≡ false → (byte == 44) ≡ false → (byte == 13) ≡ false → (byte == 10) ≡ false → step default_config s byte ≡ (st.InField, act.Copy)
    by st.StartRecord t a b c d = rw (a, b, c, d) refl
    by st.StartField t a b c d = rw (a, b, c, d) refl
    by st.InField t a b c d = rw (b, c, d) refl
    by st.AfterCr t a b c d = rw (a, b, c, d) refl
    by st.InQuoted t a b c d = cc t
    by st.AfterQuote t a b c d = cc t
    by st.InEscape t a b c d = cc t
    by st.InComment t a b c d = cc t

-- the first bytes of what was kept, and more
take-join : (n : ℕ) (xs ys zs : List ℕ) → take n (take n (xs ++ ys) ++ zs) ≡ take n (xs ++ (ys ++ zs))
take-join zero xs ys zs = refl
take-join (suc n) [] [] zs = refl
take-join (suc n) [] (y ∷ ys) zs = ap (λ (t : List ℕ). y ∷ t) (take-join n [] ys zs)
take-join (suc n) (x ∷ xs) ys zs = ap (λ (t : List ℕ). x ∷ t) (take-join n xs ys zs)

and-first : (p q : Bool) → (p && q) ≡ true → p ≡ true
and-first true q h = refl
and-first false q h = cc h

and-second : (p q : Bool) → (p && q) ≡ true → q ≡ true
and-second true q h = h
and-second false q h = cc h

-- a run of plain bytes joins the field at hand
run-joins : (s : State) (fields : List (List ℕ)) (field : List ℕ) (byte : ℕ) (run tail : List ℕ) → takes_plain s ≡ true → list_all is_plain (byte ∷ run) ≡ true
    → next_kept s fields field ((byte ∷ run) ++ tail) ≡ next_kept st.InField fields (with_bytes field (byte ∷ run)) tail
run-joins s fields field byte [] tail takes plain =
    let this : is_plain byte ≡ true = and-first (is_plain byte) _ plain in
    next_kept-step s fields field byte tail st.InField act.Copy (sym (plain-step s byte takes this))
run-joins s fields field byte (next ∷ run) tail takes plain =
    let this : is_plain byte ≡ true = and-first (is_plain byte) _ plain in
    let rest : list_all is_plain (next ∷ run) ≡ true = and-second (is_plain byte) _ plain in
    next_kept-step s fields field byte ((next ∷ run) ++ tail) st.InField act.Copy (sym (plain-step s byte takes this))
    ∙ run-joins st.InField fields (with_bytes field (byte ∷ [])) next run tail refl rest
    ∙ ap (λ (f : List ℕ). next_kept st.InField fields f tail) (take-join most_bytes field (byte ∷ []) (next ∷ run))

plain-decides : (s : State) (whole byte : ℕ) (rest : List ℕ) → takes_plain s ≡ true → is_plain byte ≡ true → whole < most_fields → decides s whole (byte ∷ rest) ≡ decides st.InField whole rest
plain-decides s whole byte rest takes plain few =
    decides-step s whole byte rest st.InField act.Copy (sym (plain-step s byte takes plain)) ∙ rw (few-differs whole few) refl

run-decides : (s : State) (whole byte : ℕ) (run tail : List ℕ) → takes_plain s ≡ true → list_all is_plain (byte ∷ run) ≡ true → whole < most_fields
    → decides s whole ((byte ∷ run) ++ tail) ≡ decides st.InField whole tail
run-decides s whole byte [] tail takes plain few = plain-decides s whole byte tail takes (and-first (is_plain byte) _ plain) few
run-decides s whole byte (next ∷ run) tail takes plain few =
    plain-decides s whole byte ((next ∷ run) ++ tail) takes (and-first (is_plain byte) _ plain) few
    ∙ run-decides st.InField whole next run tail refl (and-second (is_plain byte) _ plain) few

decides-of : (s : State) (whole : ℕ) (run tail : List ℕ) → takes_plain s ≡ true → list_all is_plain run ≡ true → 0 < length run → whole < most_fields
    → decides s whole (run ++ tail) ≡ decides st.InField whole tail
decides-of s whole [] tail takes plain some few = absurd (omega arith)
decides-of s whole (byte ∷ run) tail takes plain some few = run-decides s whole byte run tail takes plain few

run-of : (s : State) (fields : List (List ℕ)) (field : List ℕ) (run tail : List ℕ) → takes_plain s ≡ true → list_all is_plain run ≡ true → 0 < length run
    → next_kept s fields field (run ++ tail) ≡ next_kept st.InField fields (with_bytes field run) tail
run-of s fields field [] tail takes plain some = absurd (omega arith)
run-of s fields field (byte ∷ run) tail takes plain some = run-joins s fields field byte run tail takes plain

pub goes-run : (s : State) (fields fields2 : List (List ℕ)) (field field2 text text2 : List ℕ) (count : ℕ) → takes_plain s ≡ true → list_all is_plain (take count text) ≡ true → 0 < count → count ≤ length text
    → fields2 ≡ fields → field2 ≡ with_bytes field (take count text) → text2 ≡ drop count text
    → GoesOn s fields field text st.InField fields2 field2 text2
goes-run s fields fields2 field field2 text text2 count takes plain some within f g t =
    let size : 0 < length (take count text) = omega (arith, length-take-le count text within) in
    record {
      same = λ more.
          rw (f, g, t) (ap (next_kept s fields field) (split more) ∙ run-of s fields field (take count text) (drop count text ++ more) takes plain size);
      decided = λ few more.
          rw (f, t) (ap (decides s (length fields)) (split more) ∙ decides-of s (length fields) (take count text) (drop count text ++ more) takes plain size (rw f at few));
    }
  where
    split : (more : List ℕ) → text ++ more ≡ take count text ++ (drop count text ++ more)
    split more = ap (λ (t : List ℕ). t ++ more) (sym (take-append-drop count text)) ∙ append_assoc (take count text) (drop count text) more

-- the end of the text
pub end-ends : (s : State) (fields fields2 : List (List ℕ)) (field : List ℕ) → ends_at_end s ≡ true → fields2 ≡ with_field fields field → next_kept s fields field [] ≡ Some (fields2, st.StartRecord, [])
unfolding next_kept
end-ends s fields fields2 field ends is = rw (ends, is) refl

pub end-none : (s : State) (fields : List (List ℕ)) (field : List ℕ) → ends_at_end s ≡ false → next_kept s fields field [] ≡ None
unfolding next_kept
end-none s fields field ends = rw ends refl

-- what the machine does at a byte, by its tests
by-test : (P : State × Action → Type 0) (b : Bool) (x y : State × Action) → P x → P y → P (if b then x else y)
by-test P true x y p q = p
by-test P false x y p q = q

-- a record that has begun a field has one wherever the text ends
abbrev is_within : State → Bool
is_within st.StartRecord = false
is_within st.AfterCr = false
is_within st.InComment = false
is_within st.StartField = true
is_within st.InField = true
is_within st.InQuoted = true
is_within st.AfterQuote = true
is_within st.InEscape = true

abbrev StaysWithin : State × Action → Type 0
StaysWithin m = is_end m.1 ≡ false → is_within m.0 ≡ true

within-in : (byte : ℕ) → StaysWithin (in_field default_config byte)
within-in byte =
    by-test StaysWithin (byte == 44) _ _ (λ going. refl)
    (by-test StaysWithin (ends_with term.CRLF byte) _ _ (λ going. cc going) (λ going. refl))

stays-within : (s : State) (byte : ℕ) → is_within s ≡ true → StaysWithin (step default_config s byte)
stays-within st.StartRecord byte within = cc within
stays-within st.AfterCr byte within = cc within
stays-within st.InComment byte within = cc within
stays-within st.StartField byte within = by-test StaysWithin (byte == 34) _ _ (λ going. refl) (within-in byte)
stays-within st.InField byte within = within-in byte
stays-within st.InQuoted byte within = by-test StaysWithin (byte == 34) _ _ (λ going. refl) (λ going. refl)
stays-within st.AfterQuote byte within = by-test StaysWithin (byte == 34) _ _ (λ going. refl) (within-in byte)
stays-within st.InEscape byte within = λ going. refl

ends-within : (s : State) → is_within s ≡ true → ends_at_end s ≡ true
ends-within st.StartRecord within = cc within
ends-within st.AfterCr within = cc within
ends-within st.InComment within = cc within
ends-within st.StartField within = refl
ends-within st.InField within = refl
ends-within st.InQuoted within = refl
ends-within st.AfterQuote within = refl
ends-within st.InEscape within = refl

-- five fields stay five
five-more : (fields : List (List ℕ)) (field : List ℕ) → length fields ≡ most_fields → length (with_field fields field) ≡ most_fields
five-more fields field five =
    let size : length (fields ++ (field ∷ [])) ≡ length fields + 1 = length_push fields field in
    length-take most_fields (fields ++ (field ∷ [])) ∙ ap (min most_fields) (size ∙ ap (λ (k : ℕ). k + 1) five)

five-then : (a : Action) (fields : List (List ℕ)) (field : List ℕ) → length fields ≡ most_fields → length (fields_then a fields field) ≡ most_fields
five-then act.EndField fields field five = five-more fields field five
five-then act.EndRecord fields field five = five-more fields field five
five-then act.Skip fields field five = five
five-then act.Copy fields field five = five

-- a record with five whole fields that goes on is there, with five at least
abbrev HasFive : Option Read → Type 0
HasFive next = IsSomeAnd next (λ p. length p.0 ≡ most_fields)

has-five : (s : State) (fields : List (List ℕ)) (field text : List ℕ) → length fields ≡ most_fields → is_within s ≡ true → HasFive (next_kept s fields field text)
unfolding next_kept
has-five s fields field [] five within = rw (ends-within s within) (five-more fields field five)
has-five s fields field (byte ∷ rest) five within =
    by (is_end (step default_config s byte).1) refl
    (λ going. has-five (step default_config s byte).0 (fields_then (step default_config s byte).1 fields field) (field_then (step default_config s byte).1 byte field) rest
    (five-then (step default_config s byte).1 fields field five) (stays-within s byte within going))
  where
    by : (b : Bool) → is_end (step default_config s byte).1 ≡ b
        → (is_end (step default_config s byte).1 ≡ false → HasFive (next_kept (step default_config s byte).0 (fields_then (step default_config s byte).1 fields field) (field_then (step default_config s byte).1 byte field) rest))
        → HasFive (if b then Some (fields_then (step default_config s byte).1 fields field, (step default_config s byte).0, rest)
        else next_kept (step default_config s byte).0 (fields_then (step default_config s byte).1 fields field) (field_then (step default_config s byte).1 byte field) rest)
    by true is more = five-then (step default_config s byte).1 fields field five
    by false is more = more is

pub five-decide : (s : State) (fields : List (List ℕ)) (field text : List ℕ) → length fields ≡ most_fields → s ≡ st.StartField → Decided s fields field text fields s text
five-decide s fields field text five is = record {
  same = λ more. inr (five, has-five s fields field (text ++ more) five (rw is refl));
}

finds-last : (s0 s1 s : State) (text : List ℕ) (fields1 fields : List (List ℕ)) (field1 t : List ℕ) (new : Arrived) → GoesOn s0 [] [] text s1 fields1 field1 t → t ≡ [] → new.bytes ≡ [] → new.ended ≡ true
    → next_kept s1 fields1 field1 [] ≡ Some (fields, s, []) → FindsKept true s0 text fields s new
finds-last s0 s1 s text fields1 fields field1 t new h spent none ended last =
    λ more comes.
    let nothing : more ≡ [] = comes ended in
    inl (rw (nothing, none) (h.same [] ∙ rw spent last))

finds-none : (s0 s1 s : State) (text : List ℕ) (fields1 fields : List (List ℕ)) (field1 t : List ℕ) (new : Arrived) → GoesOn s0 [] [] text s1 fields1 field1 t → t ≡ [] → new.ended ≡ true
    → next_kept s1 fields1 field1 [] ≡ None → FindsKept false s0 text fields s new
finds-none s0 s1 s text fields1 fields field1 t new h spent ended none =
    (ap (next_kept s0 [] []) (sym (append-nil text)) ∙ h.same [] ∙ rw spent none, ended)

-- the first byte of some
pub first-byte : (text : List ℕ) → 0 < length text → text ≡ get_or text 0 0 ∷ drop 1 text
first-byte [] some = absurd (omega arith)
first-byte (byte ∷ rest) some = refl

pub finds-finished : (found : Bool) (s0 s1 s : State) (text : List ℕ) (fields1 fields : List (List ℕ)) (field1 t : List ℕ) (new : Arrived) → GoesOn s0 [] [] text s1 fields1 field1 t → t ≡ [] → new.bytes ≡ [] → new.ended ≡ true
    → (found ≡ true → next_kept s1 fields1 field1 [] ≡ Some (fields, s, [])) → (found ≡ false → next_kept s1 fields1 field1 [] ≡ None)
    → FindsKept found s0 text fields s new
finds-finished true s0 s1 s text fields1 fields field1 t new h spent none ended some other = finds-last s0 s1 s text fields1 fields field1 t new h spent none ended (some refl)
finds-finished false s0 s1 s text fields1 fields field1 t new h spent none ended some other = finds-none s0 s1 s text fields1 fields field1 t new h spent ended (other refl)

-- the end stays, and what comes behind it
pub stays-stays : (a b c : Bool) (xs ys : List ℕ) → StaysEnded a xs b → StaysEnded b ys c → StaysEnded a (xs ++ ys) c
stays-stays a b c xs ys first second = λ ended.
    let mid = first ended in
    let last = second mid.1 in
    (rw (mid.0, last.0) refl, last.1)

pub comes-back : (old new : Bool) (bytes more : List ℕ) → StaysEnded old bytes new → Comes new more → Comes old (bytes ++ more)
comes-back old new bytes more stays comes = λ ended.
    let last = stays ended in
    let none : more ≡ [] = comes last.1 in
    rw (last.0, none) refl

-- the bytes that arrived don't decide
pub none-decides : (s0 s : State) (fs0 fs : List (List ℕ)) (f0 f t0 t : List ℕ) → GoesOn s0 fs0 f0 t0 s fs f t → length fs < most_fields → t ≡ [] → decides s0 (length fs0) t0 ≡ false
unfolding decides
none-decides s0 s fs0 fs f0 f t0 t h few none = ap (decides s0 (length fs0)) (sym (append-nil t0)) ∙ h.decided few [] ∙ rw none refl

-- what hasn't ended now hadn't before
pub still-open : (old : Bool) (bytes : List ℕ) (new : Bool) → StaysEnded old bytes new → new ≡ false → old ≡ false
still-open false bytes new stays is = refl
still-open true bytes new stays is = absurd (cc ((stays refl).1, is))
