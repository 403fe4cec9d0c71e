-- Behind the end of a line of a trace a record begins.
use Rattle.std.proofs.Common.{◌≡◌, ℕ, zero, suc, ◌+◌, ◌≤◌, ◌==◌, ◌||◌, Bool, true, false, inl, inr, List, [], ◌∷◌, ◌++◌, length, Some, refl, sym, ap, ◌∙◌, subst, cond, arith}
use Rattle.std.{specs.Prelude.{◌⊎◌}, proofs.lemmas.Bool.{or_left, or_right, or_cases}, proofs.lemmas.List.Folds.list_any-append}
use Rattle.csv.specs.{Machine.{field_after, fields_after, is_end, next_record, step}, Reading.{default_config, records, records_from, records_next}, declared.parser.Action.Action}
use Rattle.csv.specs.declared.parser.State.{State}
use Rattle.csv.specs.declared.parser.Action.TheVariants as act
use Rattle.csv.specs.declared.parser.State.TheVariants as st
use Rattle.check_reader.specs.Splitting.{header_line}
use Rattle.masked_bytes.proofs.Truth.{or_false}
use Rattle.check_text.proofs.Plain.{IsPlain, ArePlain, any_broken, is_break, is_broken}

-- between records, and within one; the other states are never met
abbrev IsBetween : State → Type 0
IsBetween st.StartRecord = Unit {0}
IsBetween st.AfterCr = Unit {0}
IsBetween st.StartField = ⊥
IsBetween st.InField = ⊥
IsBetween st.InQuoted = ⊥
IsBetween st.AfterQuote = ⊥
IsBetween st.InEscape = ⊥
IsBetween st.InComment = ⊥

abbrev IsWithin : State → Type 0
IsWithin st.StartRecord = ⊥
IsWithin st.AfterCr = ⊥
IsWithin st.StartField = Unit {0}
IsWithin st.InField = Unit {0}
IsWithin st.InQuoted = Unit {0}
IsWithin st.AfterQuote = Unit {0}
IsWithin st.InEscape = ⊥
IsWithin st.InComment = ⊥

-- ---- steps

-- a step ends a record, or leads into one or on in it
abbrev Leads : State × Action → Type 0
Leads p = ((p.1 ≡ act.EndRecord) × IsBetween p.0) ⊎ ((is_end p.1 ≡ false) × IsWithin p.0)

-- or it skips a byte between records
abbrev Skips : State × Action → Type 0
Skips p = (p.1 ≡ act.Skip) × IsBetween p.0

-- behind a byte that ends a record
abbrev after : ℕ → State
after c = cond (c == 13) st.AfterCr st.StartRecord

after-end : (c : ℕ) → IsBetween (after c)
after-end c = by (c == 13)
  where
    by : (b : Bool) → IsBetween (cond b st.AfterCr st.StartRecord)
    by true = tt
    by false = tt

-- within a field without quotes
field-step : (comma broken : Bool) (next : State) → IsBetween next
    → Leads (cond comma (st.StartField, act.EndField) (cond broken (next, act.EndRecord) (st.InField, act.Copy)))
field-step true broken next is = inr (refl, tt)
field-step false true next is = inl (refl, is)
field-step false false next is = inr (refl, tt)

quote-step : (quote comma broken : Bool) (next : State) → IsBetween next
    → Leads (cond quote (st.InQuoted, act.Skip) (cond comma (st.StartField, act.EndField) (cond broken (next, act.EndRecord) (st.InField, act.Copy))))
quote-step true comma broken next is = inr (refl, tt)
quote-step false comma broken next is = field-step comma broken next is

within-step : (s : State) (c : ℕ) → IsWithin s → Leads (step default_config s c)
within-step st.StartRecord c is = absurd is
within-step st.AfterCr c is = absurd is
within-step st.InEscape c is = absurd is
within-step st.InComment c is = absurd is
within-step st.StartField c is = quote-step (c == 34) (c == 44) (is_break c) (after c) (after-end c)
within-step st.InField c is = field-step (c == 44) (is_break c) (after c) (after-end c)
within-step st.InQuoted c is = by (c == 34)
  where
    by : (b : Bool) → Leads (cond b (st.AfterQuote, act.Skip) (st.InQuoted, act.Copy))
    by true = inr (refl, tt)
    by false = inr (refl, tt)
within-step st.AfterQuote c is = by (c == 34)
  where
    by : (b : Bool) → Leads (cond b (st.InQuoted, act.Copy) (cond (c == 44) (st.StartField, act.EndField) (cond (is_break c) (after c, act.EndRecord) (st.InField, act.Copy))))
    by true = inr (refl, tt)
    by false = field-step (c == 44) (is_break c) (after c) (after-end c)

abbrev from_start : ℕ → State × Action
from_start c =
    cond (is_break c) (st.StartRecord, act.Skip)
    (cond (c == 34) (st.InQuoted, act.Skip) (cond (c == 44) (st.StartField, act.EndField) (cond (is_break c) (after c, act.EndRecord) (st.InField, act.Copy))))

start-step : (quote comma broken : Bool) (next : State) → IsBetween next → (p : State × Action)
    → p ≡ cond broken (st.StartRecord, act.Skip) (cond quote (st.InQuoted, act.Skip) (cond comma (st.StartField, act.EndField) (cond broken (next, act.EndRecord) (st.InField, act.Copy))))
    → Leads p ⊎ Skips p
start-step quote comma true next is p same = inr (subst Skips (sym same) (refl, tt))
start-step quote comma false next is p same = inl (subst Leads (sym same) (quote-step quote comma false next is))

between-step : (s : State) (c : ℕ) → IsBetween s → Leads (step default_config s c) ⊎ Skips (step default_config s c)
between-step st.StartRecord c is = start-step (c == 34) (c == 44) (is_break c) (after c) (after-end c) (step default_config st.StartRecord c) refl
between-step st.AfterCr c is = by (c == 10)
  where
    by : (b : Bool) → Leads (cond b (st.StartRecord, act.Skip) (from_start c)) ⊎ Skips (cond b (st.StartRecord, act.Skip) (from_start c))
    by true = inr (refl, tt)
    by false = start-step (c == 34) (c == 44) (is_break c) (after c) (after-end c) (from_start c) refl
between-step st.StartField c is = absurd is
between-step st.InField c is = absurd is
between-step st.InQuoted c is = absurd is
between-step st.AfterQuote c is = absurd is
between-step st.InEscape c is = absurd is
between-step st.InComment c is = absurd is

-- ---- a broken field stays

-- an end of a line stands in a field so far
abbrev breaks : List (List ℕ) → List ℕ → Bool
breaks fields field = any_broken fields || is_broken field

-- in the record that is ended
ended-breaks : (fields : List (List ℕ)) (field : List ℕ) → breaks fields field ≡ true → any_broken (fields ++ field ∷ []) ≡ true
ended-breaks fields field h =
    list_any-append is_broken fields (field ∷ [])
    ∙ ap (λ (b : Bool). any_broken fields || b) (or_false (is_broken field)) ∙ h

still-breaks : (a : Action) (c : ℕ) (fields : List (List ℕ)) (field : List ℕ) → is_end a ≡ false → breaks fields field ≡ true
    → breaks (fields_after a fields field) (field_after a c field) ≡ true
still-breaks act.EndRecord c fields field on h = cc on
still-breaks act.Skip c fields field on h = h
still-breaks act.EndField c fields field on h = or_left (any_broken (fields ++ field ∷ [])) false (ended-breaks fields field h)
still-breaks act.Copy c fields field on h =
    elim (or_cases (any_broken fields) (is_broken field) h) [
      | inl one ↦ or_left (any_broken fields) (is_broken (field ++ c ∷ [])) one
      | inr here ↦ or_right (any_broken fields) (is_broken (field ++ c ∷ []))
          (list_any-append is_break field (c ∷ []) ∙ or_left (is_broken field) (is_broken (c ∷ [])) here)
    ]

-- ---- records

-- what a text holds from a state on, with the fields and the field so far
abbrev left : ℕ → State → List (List ℕ) → List ℕ → List ℕ → List (List (List ℕ))
left most s fields field text = records_next (records_from default_config most) (next_record default_config s fields field text)

goes-on : (most : ℕ) (s : State) (fields : List (List ℕ)) (field : List ℕ) (c : ℕ) (rest : List ℕ) → is_end (step default_config s c).1 ≡ false
    → left most s fields field (c ∷ rest)
    ≡ left most (step default_config s c).0 (fields_after (step default_config s c).1 fields field) (field_after (step default_config s c).1 c field) rest
unfolding next_record
goes-on most s fields field c rest on =
    ap (λ (b : Bool). records_next (records_from default_config most)
    (cond b (Some (fields_after (step default_config s c).1 fields field, (step default_config s c).0, rest))
    (next_record default_config (step default_config s c).0 (fields_after (step default_config s c).1 fields field) (field_after (step default_config s c).1 c field) rest))) on

ends-here : (most : ℕ) (s : State) (fields : List (List ℕ)) (field : List ℕ) (c : ℕ) (rest : List ℕ) → is_end (step default_config s c).1 ≡ true
    → left most s fields field (c ∷ rest) ≡ fields_after (step default_config s c).1 fields field ∷ records_from default_config most (step default_config s c).0 rest
unfolding next_record
ends-here most s fields field c rest ends =
    ap (λ (b : Bool). records_next (records_from default_config most)
    (cond b (Some (fields_after (step default_config s c).1 fields field, (step default_config s c).0, rest))
    (next_record default_config (step default_config s c).0 (fields_after (step default_config s c).1 fields field) (field_after (step default_config s c).1 c field) rest))) ends

-- a step that ends a record
ends-record : (most : ℕ) (s : State) (fields : List (List ℕ)) (field : List ℕ) (c : ℕ) (rest : List ℕ) → (step default_config s c).1 ≡ act.EndRecord
    → left most s fields field (c ∷ rest) ≡ (fields ++ field ∷ []) ∷ records_from default_config most (step default_config s c).0 rest
ends-record most s fields field c rest is =
    ends-here most s fields field c rest (ap is_end is)
    ∙ ap (λ (a : Action). fields_after a fields field ∷ records_from default_config most (step default_config s c).0 rest) is

-- a broken field comes to stand in a record
never-plain : (most : ℕ) (s : State) (fields : List (List ℕ)) (field text : List ℕ) → IsWithin s → breaks fields field ≡ true → ArePlain (left most s fields field text) → ⊥
unfolding next_record
never-plain most s fields field [] is broken plain = at s is plain
  where
    ended : IsPlain (fields ++ field ∷ []) → ⊥
    ended one =
        let here = ended-breaks fields field broken in
        let none = one.unbroken in
        cc

    at : (s : State) → IsWithin s → ArePlain (left most s fields field []) → ⊥
    at st.StartRecord is plain = is
    at st.AfterCr is plain = is
    at st.InEscape is plain = is
    at st.InComment is plain = is
    at st.StartField is plain = ended plain.0
    at st.InField is plain = ended plain.0
    at st.InQuoted is plain = ended plain.0
    at st.AfterQuote is plain = ended plain.0
never-plain most s fields field (c ∷ rest) is broken plain =
    elim (within-step s c is) [
      | inl ends ↦
          let all = subst ArePlain (ends-record most s fields field c rest ends.0) plain in
          let here = ended-breaks fields field broken in
          let none = all.0.unbroken in
          cc
      | inr on ↦
          never-plain most (step default_config s c).0 (fields_after (step default_config s c).1 fields field) (field_after (step default_config s c).1 c field) rest on.1
          (still-breaks (step default_config s c).1 c fields field on.0 broken) (subst ArePlain (goes-on most s fields field c rest on.0) plain)
    ]

-- ---- behind the end of a line

-- a reader stands before a record, of whose text all records are plain
pub record Restarts (text : List ℕ) : Type 0 where
  pub state : State
  pub between : IsBetween state
  pub most : ℕ
  pub enough : length text ≤ most
  pub plain : ArePlain (left most state [] [] text)

-- behind a record that was read
restarted : (most : ℕ) (s : State) (text : List ℕ) → IsBetween s → suc (length text) ≤ most → ArePlain (records_from default_config most s text) → Restarts text
unfolding records_from
restarted zero s text is enough plain = absurd (omega (arith, enough))
restarted (suc most) s text is enough plain = record { state = s; between = is; most = most; enough = omega (arith, enough); plain = plain }

-- an LF or a CR
abbrev pub IsBreak : ℕ → Type 0
IsBreak c = (c ≡ 10) ⊎ (c ≡ 13)

-- it ends a record, or joins a field within quotes
feed-within : (s : State) → IsWithin s
    → (((step default_config s 10).1 ≡ act.EndRecord) × IsBetween (step default_config s 10).0) ⊎ (((step default_config s 10).1 ≡ act.Copy) × IsWithin (step default_config s 10).0)
feed-within st.StartRecord is = absurd is
feed-within st.AfterCr is = absurd is
feed-within st.InEscape is = absurd is
feed-within st.InComment is = absurd is
feed-within st.StartField is = inl (refl, tt)
feed-within st.InField is = inl (refl, tt)
feed-within st.InQuoted is = inr (refl, tt)
feed-within st.AfterQuote is = inl (refl, tt)

return-within : (s : State) → IsWithin s
    → (((step default_config s 13).1 ≡ act.EndRecord) × IsBetween (step default_config s 13).0) ⊎ (((step default_config s 13).1 ≡ act.Copy) × IsWithin (step default_config s 13).0)
return-within st.StartRecord is = absurd is
return-within st.AfterCr is = absurd is
return-within st.InEscape is = absurd is
return-within st.InComment is = absurd is
return-within st.StartField is = inl (refl, tt)
return-within st.InField is = inl (refl, tt)
return-within st.InQuoted is = inr (refl, tt)
return-within st.AfterQuote is = inl (refl, tt)

-- between records it is skipped
feed-between : (s : State) → IsBetween s → Skips (step default_config s 10)
feed-between st.StartRecord is = (refl, tt)
feed-between st.AfterCr is = (refl, tt)
feed-between st.StartField is = absurd is
feed-between st.InField is = absurd is
feed-between st.InQuoted is = absurd is
feed-between st.AfterQuote is = absurd is
feed-between st.InEscape is = absurd is
feed-between st.InComment is = absurd is

return-between : (s : State) → IsBetween s → Skips (step default_config s 13)
return-between st.StartRecord is = (refl, tt)
return-between st.AfterCr is = (refl, tt)
return-between st.StartField is = absurd is
return-between st.InField is = absurd is
return-between st.InQuoted is = absurd is
return-between st.AfterQuote is = absurd is
return-between st.InEscape is = absurd is
return-between st.InComment is = absurd is

-- so behind it a record begins: within quotes it is never read
break-within : (most : ℕ) (s : State) (fields : List (List ℕ)) (field text : List ℕ) (c : ℕ) → is_break c ≡ true
    → (((step default_config s c).1 ≡ act.EndRecord) × IsBetween (step default_config s c).0) ⊎ (((step default_config s c).1 ≡ act.Copy) × IsWithin (step default_config s c).0)
    → length (c ∷ text) ≤ most → ArePlain (left most s fields field (c ∷ text)) → Restarts text
break-within most s fields field text c break (inl ends) enough plain =
    restarted most (step default_config s c).0 text ends.1 (omega (arith, enough)) (subst ArePlain (ends-record most s fields field c text ends.0) plain).1
break-within most s fields field text c break (inr copied) enough plain =
    let joins : left most s fields field (c ∷ text) ≡ left most (step default_config s c).0 fields (field ++ c ∷ []) text =
    goes-on most s fields field c text (ap is_end copied.0)
    ∙ ap (λ (a : Action). left most (step default_config s c).0 (fields_after a fields field) (field_after a c field) text) copied.0 in
    let broken : breaks fields (field ++ c ∷ []) ≡ true =
    or_right (any_broken fields) (is_broken (field ++ c ∷ []))
    (list_any-append is_break field (c ∷ [])
    ∙ or_right (is_broken field) (is_broken (c ∷ [])) (or_left (is_break c) false break)) in
    absurd (never-plain most (step default_config s c).0 fields (field ++ c ∷ []) text copied.1 broken (subst ArePlain joins plain))

break-between : (most : ℕ) (s : State) (text : List ℕ) (c : ℕ) → Skips (step default_config s c) → length (c ∷ text) ≤ most → ArePlain (left most s [] [] (c ∷ text)) → Restarts text
break-between most s text c skips enough plain =
    let skipped : left most s [] [] (c ∷ text) ≡ left most (step default_config s c).0 [] [] text =
    goes-on most s [] [] c text (ap is_end skips.0)
    ∙ ap (λ (a : Action). left most (step default_config s c).0 (fields_after a [] []) (field_after a c []) text) skips.0 in
    record { state = (step default_config s c).0; between = skips.1; most = most; enough = omega (arith, enough); plain = subst ArePlain skipped plain }

-- a reader stands within a record, or between two
abbrev Stands : State → List (List ℕ) → List ℕ → Type 0
Stands s fields field = IsWithin s ⊎ (IsBetween s × (fields ≡ []) × (field ≡ []))

module _ (c : ℕ) (text : List ℕ) where
  abbrev Holds : ℕ → State → List (List ℕ) → List ℕ → List ℕ → Type 0
  Holds most s fields field front = ArePlain (left most s fields field (front ++ c ∷ text))

  -- from a front on
  abbrev Later : List ℕ → Type 0
  Later front =
      (most : ℕ) (s : State) (fields : List (List ℕ)) (field : List ℕ) → Stands s fields field → length (front ++ c ∷ text) ≤ most
      → Holds most s fields field front → Restarts text

  here-within : (most : ℕ) (s : State) (fields : List (List ℕ)) (field : List ℕ) → IsBreak c → IsWithin s → length (c ∷ text) ≤ most → Holds most s fields field [] → Restarts text
  here-within most s fields field (inl feed) is enough plain =
      break-within most s fields field text c (ap is_break feed)
      (subst (λ (c : ℕ). (((step default_config s c).1 ≡ act.EndRecord) × IsBetween (step default_config s c).0) ⊎ (((step default_config s c).1 ≡ act.Copy) × IsWithin (step default_config s c).0)) (sym feed) (feed-within s is))
      enough plain
  here-within most s fields field (inr return) is enough plain =
      break-within most s fields field text c (ap is_break return)
      (subst (λ (c : ℕ). (((step default_config s c).1 ≡ act.EndRecord) × IsBetween (step default_config s c).0) ⊎ (((step default_config s c).1 ≡ act.Copy) × IsWithin (step default_config s c).0)) (sym return) (return-within s is))
      enough plain

  here-between : (most : ℕ) (s : State) → IsBreak c → IsBetween s → length (c ∷ text) ≤ most → Holds most s [] [] [] → Restarts text
  here-between most s (inl feed) is enough plain = break-between most s text c (subst (λ (c : ℕ). Skips (step default_config s c)) (sym feed) (feed-between s is)) enough plain
  here-between most s (inr return) is enough plain = break-between most s text c (subst (λ (c : ℕ). Skips (step default_config s c)) (sym return) (return-between s is)) enough plain

  -- behind it a record begins, whatever stands before it
  behind : IsBreak c → (front : List ℕ) (most : ℕ) (s : State) (fields : List (List ℕ)) (field : List ℕ) → Stands s fields field → length (front ++ c ∷ text) ≤ most
      → Holds most s fields field front → Restarts text
  behind break [] most s fields field (inl within) enough plain = here-within most s fields field break within enough plain
  behind break [] most s fields field (inr between) enough plain =
      here-between most s break between.0 enough
      (subst (λ (field : List ℕ). ArePlain (left most s [] field (c ∷ text))) between.2 (subst (λ (fields : List (List ℕ)). ArePlain (left most s fields field (c ∷ text))) between.1 plain))
  behind break (b ∷ front) most s fields field stands enough plain =
      by (λ most s fields field stands enough plain. behind break front most s fields field stands enough plain) stands
    where
      led : Later front → Leads (step default_config s b) → Restarts text
      led later (inl ends) =
          let all = subst ArePlain (ends-record most s fields field b (front ++ c ∷ text) ends.0) plain in
          let begun = restarted most (step default_config s b).0 (front ++ c ∷ text) ends.1 enough all.1 in
          later begun.most begun.state [] [] (inr (begun.between, refl, refl)) begun.enough begun.plain
      led later (inr on) =
          later most (step default_config s b).0 (fields_after (step default_config s b).1 fields field) (field_after (step default_config s b).1 b field) (inl on.1) (omega (arith, enough))
          (subst ArePlain (goes-on most s fields field b (front ++ c ∷ text) on.0) plain)

      skipped : Later front → fields ≡ [] → field ≡ [] → Skips (step default_config s b) → Restarts text
      skipped later empty none skips =
          later most (step default_config s b).0 (fields_after (step default_config s b).1 fields field) (field_after (step default_config s b).1 b field)
          (inr (skips.1, ap (λ (a : Action). fields_after a fields field) skips.0 ∙ empty, ap (λ (a : Action). field_after a b field) skips.0 ∙ none)) (omega (arith, enough))
          (subst ArePlain (goes-on most s fields field b (front ++ c ∷ text) (ap is_end skips.0)) plain)

      by : Later front → Stands s fields field → Restarts text
      by later (inl within) = led later (within-step s b within)
      by later (inr between) =
          elim (between-step s b between.0) [
            | inl leads ↦ led later leads
            | inr skips ↦ skipped later between.1 between.2 skips
          ]

-- ---- the header of results is no record of a trace

-- the record that the header is read as
no-header : (tail : List ℕ) → ¬ Restarts (header_line ++ 10 ∷ tail)
unfolding next_record
no-header tail begun = by begun.state begun.between begun.plain
  where
    by : (s : State) → IsBetween s → ArePlain (left begun.most s [] [] (header_line ++ 10 ∷ tail)) → ⊥
    by st.StartRecord is plain = absurd (cc plain.0.four)
    by st.AfterCr is plain = absurd (cc plain.0.four)
    by st.StartField is plain = is
    by st.InField is plain = is
    by st.InQuoted is plain = is
    by st.AfterQuote is plain = is
    by st.InEscape is plain = is
    by st.InComment is plain = is

-- all records of a text, none of which is plain where the header of results stands behind the end of a line, or first
pub header-behind : (front : List ℕ) (c : ℕ) (tail : List ℕ) → IsBreak c → ¬ ArePlain (records default_config (front ++ c ∷ (header_line ++ 10 ∷ tail)))
unfolding records_from
header-behind front c tail break plain =
    let text : List ℕ = front ++ c ∷ (header_line ++ 10 ∷ tail) in
    let more : length text + 1 ≡ suc (length text) = omega arith in
    no-header tail
    (behind c (header_line ++ 10 ∷ tail) break front (length text) st.StartRecord [] [] (inr (tt, refl, refl)) (omega arith)
    (subst (λ (n : ℕ). ArePlain (records_from default_config n st.StartRecord text)) more plain))

pub header-first : (tail : List ℕ) → ¬ ArePlain (records default_config (header_line ++ 10 ∷ tail))
unfolding records_from
header-first tail plain =
    let text : List ℕ = header_line ++ 10 ∷ tail in
    let more : length text + 1 ≡ suc (length text) = omega arith in
    no-header tail
    (record {
      state = st.StartRecord;
      between = tt;
      most = length text;
      enough = omega arith;
      plain = subst (λ (n : ℕ). ArePlain (records_from default_config n st.StartRecord text)) more plain;
    })
