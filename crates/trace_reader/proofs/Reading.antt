-- The records that a reader has left, as it reads them one after the other.
use Rattle.std.proofs.Common.{◌≡◌, ℕ, zero, suc, ◌+◌, ◌<◌, ◌≤◌, ◌==◌, ◌||◌, List, [], ◌∷◌, ◌++◌, length, Bool, true, false, Option, Some, None, Bor, refl, ap, inl, ◌∙◌, arith}
use Rattle.std.specs.Prelude.{if◌then◌else◌}
use Rattle.csv.specs.Machine.{Read, ends_at_end, field_after, fields_after, in_field, is_end, next_record, start_field, start_record, step}
use Rattle.csv.specs.{Reading.{ReadRecord, Reached, default_config, is_flexible, reader_state, records_from, records_next, took_first}, declared.parser.Action.Action}
use Rattle.csv.{specs.declared.parser.State.State, specs.declared.reader.Reader.Reader, proofs.ReadFacts.{rows-end, rows-more}}
use Rattle.csv.specs.declared.parser.State.TheVariants as st
use Rattle.csv.specs.declared.parser.Action.TheVariants as act
use Rattle.trace_reader.specs.Records.{FindsNext, HasLeft, unended}

-- an action that ends a record leaves a state in which no record is begun
abbrev EndsClean : State × Action → Type 0
EndsClean r = is_end r.1 ≡ true → unended r.0 ≡ 0

in_field-clean : (a b d : Bool) → EndsClean (if a then (st.StartField, act.EndField) else if b then (if d then st.AfterCr else st.StartRecord, act.EndRecord) else (st.InField, act.Copy))
in_field-clean x0 b d h = grind arith

skip-clean : (q : Bool) (s : State) (r : State × Action) → EndsClean r → EndsClean (if q then (s, act.Skip) else r)
skip-clean true s r clean h = cc h
skip-clean false s r clean h = clean h

copy-clean : (q : Bool) (s : State) (r : State × Action) → EndsClean r → EndsClean (if q then (s, act.Copy) else r)
copy-clean true s r clean h = cc h
copy-clean false s r clean h = clean h

skipped-clean : (s : State) → EndsClean (s, act.Skip)
skipped-clean s h = cc h

copies-clean : (s : State) → EndsClean (s, act.Copy)
copies-clean s h = cc h

-- whether a byte ends a line
abbrev ends_line : ℕ → Bool
ends_line c = (c == 13) || (c == 10)

field-clean : (c : ℕ) → EndsClean (in_field default_config c)
field-clean c = in_field-clean (c == 44) (ends_line c) (c == 13)

quote-clean : (c : ℕ) → EndsClean (start_field default_config c)
quote-clean c = skip-clean (c == 34) st.InQuoted (in_field default_config c) (field-clean c)

record-clean : (c : ℕ) → EndsClean (start_record default_config c)
record-clean c = skip-clean (ends_line c) st.StartRecord (start_field default_config c) (quote-clean c)

step-clean : (s : State) (c : ℕ) → EndsClean (step default_config s c)
step-clean st.StartRecord c = record-clean c
step-clean st.StartField c = quote-clean c
step-clean st.InField c = field-clean c
step-clean st.InQuoted c = skip-clean (c == 34) st.AfterQuote (st.InQuoted, act.Copy) (copies-clean st.InQuoted)
step-clean st.InEscape c = copies-clean st.InQuoted
step-clean st.AfterQuote c = copy-clean (c == 34) st.InQuoted (in_field default_config c) (field-clean c)
step-clean st.InComment c = skip-clean (c == 10) st.StartRecord (st.InComment, act.Skip) (skipped-clean st.InComment)
step-clean st.AfterCr c = skip-clean (c == 10) st.StartRecord (start_record default_config c) (record-clean c)

pub unended-le : (s : State) → unended s ≤ 1
unended-le s = le-one (ends_at_end s)
  where
    le-one : (b : Bool) → (if b then 1 else 0) ≤ 1
    le-one b = grind arith

-- each record takes a byte, or the end of the text
pub shorter : (s : State) (fields : List (List ℕ)) (field text : List ℕ) (p : Read) → next_record default_config s fields field text ≡ Some p
    → length p.2 + unended p.1 < length text + unended s
unfolding next_record
shorter s fields field [] p h = by (ends_at_end s) refl h
  where
    by : (b : Bool) → ends_at_end s ≡ b → (if b then Some (fields ++ (field ∷ []), st.StartRecord, []) else None) ≡ Some p → length p.2 + unended p.1 < 0 + unended s
    by true e q =
        let is : (fields ++ (field ∷ []), st.StartRecord, []) ≡ p = cc in
        rw (← is, e) (omega arith)
    by false e q = cc q
shorter s fields field (c ∷ rest) p h = by (is_end (step default_config s c).1) refl h (shorter (step default_config s c).0 _ _ rest p)
  where
    by : (b : Bool) → is_end (step default_config s c).1 ≡ b
        → (if b then Some (fields_after (step default_config s c).1 fields field, (step default_config s c).0, rest)
        else next_record default_config (step default_config s c).0 (fields_after (step default_config s c).1 fields field) (field_after (step default_config s c).1 c field) rest) ≡ Some p
        → (next_record default_config (step default_config s c).0 (fields_after (step default_config s c).1 fields field) (field_after (step default_config s c).1 c field) rest ≡ Some p → length p.2 + unended p.1 < length rest + unended (step default_config s c).0)
        → length p.2 + unended p.1 < suc (length rest) + unended s
    by true e q more =
        let is : (fields_after (step default_config s c).1 fields field, (step default_config s c).0, rest) ≡ p = cc in
        let clean : unended (step default_config s c).0 ≡ 0 = step-clean s c e in
        rw (← is) (omega arith)
    by false e q more =
        let small = unended-le (step default_config s c).0 in
        let less = more q in
        omega arith

-- one record more
pub records_from-some : (most : ℕ) (s : State) (text : List ℕ) (p : Read) → next_record default_config s [] [] text ≡ Some p → length text + unended s ≤ most
    → (less : ℕ) × (records_from default_config most s text ≡ p.0 ∷ records_from default_config less p.1 p.2) × (length p.2 + unended p.1 ≤ less)
unfolding records_from
records_from-some zero s text p h enough =
    let less = shorter s [] [] text p h in
    absurd (omega arith)
records_from-some (suc most) s text p h enough =
    let less = shorter s [] [] text p h in
    (most, ap (records_next (records_from default_config most)) h, omega arith)

-- no record more
pub records_from-none : (most : ℕ) (s : State) (text : List ℕ) → next_record default_config s [] [] text ≡ None → records_from default_config most s text ≡ []
unfolding records_from
records_from-none zero s text h = refl
records_from-none (suc most) s text h = ap (records_next (records_from default_config most)) h

-- what a slice has left
abbrev slice_left : Bor (List ℕ) → Option (List ℕ)
slice_left s = Some s.now

-- one record more, by what a read says of it
records_from-step : (most : ℕ) (s s2 : State) (text z : List ℕ) (fields : List (List ℕ)) (p : Read)
    → next_record default_config s [] [] text ≡ Some p → fields ≡ p.0 → p.1 ≡ s2 → p.2 ≡ z → length text + unended s ≤ most
    → (less : ℕ) × (records_from default_config most s text ≡ fields ∷ records_from default_config less s2 z) × (length z + unended s2 ≤ less)
records_from-step most s s2 text z fields p next a b d enough = rw (a, ← b, ← d) (records_from-some most s text p next enough)

-- a read finds the first of the records that are left
pub finds-next : (found : Bool) (old new : Reader (Bor (List ℕ))) (fields : List (List ℕ)) (rows : List (List (List ℕ)))
    → HasLeft old rows → ReadRecord slice_left old new found fields → took_first new ≡ true → is_flexible new ≡ is_flexible old
    → FindsNext found fields rows new
unfolding Reached
finds-next true old new fields rows h r first same =
    let m = rows-more slice_left old new fields default_config (reader_state old) h.text h.text [] h.config h.source (refl, refl) r in
    let one = records_from-step h.most (reader_state old) (reader_state new) h.text m.0 fields m.2.0 m.2.1 m.2.2 m.2.3.0 m.2.3.1 h.enough in (
      records_from default_config one.0 (reader_state new) m.0,
      h.rows_are ∙ one.1,
      record {
        ready = inl first;
        trim = r.3 ∙ h.trim;
        config = r.2 ∙ h.config;
        flexible = same ∙ h.flexible;
        text = m.0;
        source = m.1;
        most = one.0;
        enough = one.2;
        rows_are = refl;
      },
    )
finds-next false old new fields rows h r first same =
    h.rows_are ∙ records_from-none h.most (reader_state old) h.text (rows-end slice_left old new fields default_config h.text h.config h.source r)
