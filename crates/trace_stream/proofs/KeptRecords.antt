-- What is kept of a record is what is kept of the record as `csv` reads it.
use Rattle.std.proofs.Common.{◌≡◌, ℕ, suc, zero, List, [], ◌∷◌, ◌++◌, take, map, Bool, true, false, Option, Some, None, refl, sym, ap, ◌∙◌}
use Rattle.std.{specs.Prelude.{option_map, if◌then◌else◌}, proofs.lemmas.List.map-append}
use Rattle.csv.specs.{Machine.{Read, ends_at_end, field_after, fields_after, is_end, next_record, step}, Reading.default_config, declared.parser.Action.Action}
use Rattle.csv.specs.declared.parser.State.{State}
use Rattle.csv.specs.declared.parser.State.TheVariants as st
use Rattle.csv.specs.declared.parser.Action.TheVariants as act
use Rattle.trace_stream.specs.Kept.{fields_then, field_then, kept_field, kept_fields, most_bytes, most_fields, next_kept, with_bytes, with_field}

-- the first of the first, and more
take-again : {A : Type 0} → (n : ℕ) (xs ys : List A) → take n (take n xs ++ ys) ≡ take n (xs ++ ys)
take-again {A = A} zero xs ys = refl
take-again {A = A} (suc n) [] ys = refl
take-again {A = A} (suc n) (x ∷ xs) ys = ap (λ (t : List A). x ∷ t) (take-again n xs ys)

-- a byte more, and a field more
kept-bytes : (field run : List ℕ) → with_bytes (kept_field field) run ≡ kept_field (field ++ run)
unfolding kept_field
kept-bytes field run = take-again most_bytes field run

kept-field : (fields : List (List ℕ)) (field : List ℕ) → with_field (kept_fields fields) (kept_field field) ≡ kept_fields (fields ++ (field ∷ []))
unfolding kept_fields
kept-field fields field =
    take-again most_fields (map kept_field fields) (kept_field field ∷ [])
    ∙ ap (take most_fields) (sym (map-append kept_field fields (field ∷ [])))

kept-nothing : kept_field [] ≡ []
unfolding kept_field
kept-nothing = refl

kept-none : kept_fields [] ≡ []
unfolding kept_fields
kept-none = refl

fields-then : (a : Action) (fields : List (List ℕ)) (field : List ℕ) → fields_then a (kept_fields fields) (kept_field field) ≡ kept_fields (fields_after a fields field)
fields-then act.EndField fields field = kept-field fields field
fields-then act.EndRecord fields field = kept-field fields field
fields-then act.Skip fields field = refl
fields-then act.Copy fields field = refl

field-then : (a : Action) (byte : ℕ) (field : List ℕ) → field_then a byte (kept_field field) ≡ kept_field (field_after a byte field)
field-then act.Copy byte field = kept-bytes field (byte ∷ [])
field-then act.EndField byte field = sym kept-nothing
field-then act.EndRecord byte field = sym kept-nothing
field-then act.Skip byte field = refl

-- what is kept of a record that was read
abbrev pub kept_read : Read → Read
kept_read p = (kept_fields p.0, p.1, p.2)

end-is : (b : Bool) (fields : List (List ℕ)) (field : List ℕ)
    → (if b then Some (with_field (kept_fields fields) (kept_field field), st.StartRecord, []) else None) ≡ option_map kept_read (if b then Some (fields ++ (field ∷ []), st.StartRecord, []) else None)
end-is true fields field = ap (λ (fs : List (List ℕ)). Some (fs, st.StartRecord, [])) (kept-field fields field)
end-is false fields field = refl

step-is : (a : Action) (s2 : State) (fields : List (List ℕ)) (field : List ℕ) (byte : ℕ) (rest : List ℕ)
    → next_kept s2 (kept_fields (fields_after a fields field)) (kept_field (field_after a byte field)) rest ≡ option_map kept_read (next_record default_config s2 (fields_after a fields field) (field_after a byte field) rest)
    → (b : Bool) → is_end a ≡ b
    → (if b then Some (fields_then a (kept_fields fields) (kept_field field), s2, rest) else next_kept s2 (fields_then a (kept_fields fields) (kept_field field)) (field_then a byte (kept_field field)) rest)
    ≡ option_map kept_read (if b then Some (fields_after a fields field, s2, rest) else next_record default_config s2 (fields_after a fields field) (field_after a byte field) rest)
step-is a s2 fields field byte rest more true e = ap (λ (fs : List (List ℕ)). Some (fs, s2, rest)) (fields-then a fields field)
step-is a s2 fields field byte rest more false e = rw (fields-then a fields field, field-then a byte field) more

next-is : (s : State) (fields : List (List ℕ)) (field text : List ℕ) → next_kept s (kept_fields fields) (kept_field field) text ≡ option_map kept_read (next_record default_config s fields field text)
unfolding next_kept next_record
next-is s fields field [] = end-is (ends_at_end s) fields field
next-is s fields field (byte ∷ rest) =
    step-is (step default_config s byte).1 (step default_config s byte).0 fields field byte rest
    (next-is (step default_config s byte).0 (fields_after (step default_config s byte).1 fields field) (field_after (step default_config s byte).1 byte field) rest)
    (is_end (step default_config s byte).1) refl

-- the next record of a text, as far as it is kept
pub next_kept-is : (s : State) (text : List ℕ) → next_kept s [] [] text ≡ option_map kept_read (next_record default_config s [] [] text)
next_kept-is s text =
    ap (λ (fs : List (List ℕ)). next_kept s fs [] text) (sym kept-none)
    ∙ ap (λ (f : List ℕ). next_kept s (kept_fields []) f text) (sym kept-nothing)
    ∙ next-is s [] [] text

pub some-is : (p q : Read) → Some p ≡ Some q → p ≡ q
some-is p q h = cc h

-- the record of which this was kept
pub some-kept : (o : Option Read) (fields : List (List ℕ)) (s : State) (rest : List ℕ) → option_map kept_read o ≡ Some (fields, s, rest)
    → (whole : List (List ℕ)) × (o ≡ Some (whole, s, rest)) × (kept_fields whole ≡ fields)
some-kept None fields s rest h = cc h
some-kept (Some p) fields s rest h =
    let same : (kept_fields p.0, p.1, p.2) ≡ (fields, s, rest) = cc in
    let first : kept_fields p.0 ≡ fields = ap (λ (q : Read). q.0) same in
    let second : p.1 ≡ s = ap (λ (q : Read). q.1) same in
    let third : p.2 ≡ rest = ap (λ (q : Read). q.2) same in
    (p.0, ap (λ (t : State). Some (p.0, t, p.2)) second ∙ ap (λ (t : List ℕ). Some (p.0, s, t)) third, first)

pub none-kept : (o : Option Read) → option_map kept_read o ≡ None → o ≡ None
none-kept None h = refl
none-kept (Some p) h = cc h
