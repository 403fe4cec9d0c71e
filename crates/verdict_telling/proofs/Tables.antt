-- The rows of a table, one after another.
use Rattle.std.proofs.Common.{◌≡◌, ℕ, zero, suc, ◌+◌, ◌-◌, ◌^◌, ◌<◌, ◌≤◌, ◌&&◌, true, List, [], ◌∷◌, ◌++◌, Some, length, take, drop, refl, sym, ap, ◌∙◌, subst, append_assoc, append-nil, arith}
use Rattle.std.{specs.Prelude.{All, slice_get}, proofs.lemmas.Bool.lt-ltb, proofs.lemmas.List.length-append}
use Rattle.std.proofs.lemmas.List.Elements.{All-cons, All-drop, All-head, All-same, All-tail}
use Rattle.result_rows.specs.{Table.outcome_at, declared.Outcome.Outcome}
use Rattle.result_rows.specs.declared.Outcome.TheVariants as out
use Rattle.masked_bytes.proofs.{Queueing.some_same, Truth.{and_first, and_second}}
use Rattle.trace_reader.{specs.Events.AreEventsFor, specs.declared.event.Event.Event, proofs.Lawful.lawful-first}
use Rattle.check_judging.specs.Keys.{reach}
use Rattle.check_verdict.specs.{Fitting.{is_brief, all_brief}, Verdicts.verdict_of, declared.Rule.Rule, declared.Verdict.TheVariants.No}
use Rattle.check_verdict.proofs.Lowest.{verdict_law}
use Rattle.result_check.specs.Checkable.{IsTimed}
use Rattle.row_rules.specs.{declared.Row.Row, declared.Rules.Rules}
use Rattle.trace_rows.{specs.Rows.{rows_with, row_of}, proofs.Lines.row-at}

pub next_of : {A : Type 0} (xs : List A) (i : ℕ) (x : A) → slice_get xs i ≡ Some x → drop i xs ≡ x ∷ drop (suc i) xs
next_of [] i x at = absurd (cc)
next_of (y ∷ xs) zero x at = let same : y ≡ x = cc in ap (λ z. z ∷ xs) same
next_of (y ∷ xs) (suc i) x at = next_of xs i x at

pub none_left : {A : Type 0} (i : ℕ) (xs : List A) → length xs ≤ i → drop i xs ≡ []
none_left zero [] le = refl
none_left (suc i) [] le = refl
none_left zero (x ∷ xs) le = absurd (omega (arith, le))
none_left (suc i) (x ∷ xs) le = none_left i xs (omega (arith, le))

pub rows_long : {n : ℕ} (events : List (Event n)) (outcomes : List (Outcome n)) → length outcomes ≡ length events → length (rows_with events outcomes) ≡ length events
rows_long [] outcomes is = refl
rows_long (e ∷ events) [] is = absurd (omega (arith, is))
rows_long (e ∷ events) (o ∷ outcomes) is = let h = rows_long events outcomes (omega (arith, is)) in omega (arith, h)

pub one_more : {n : ℕ} (events : List (Event n)) (outcomes : List (Outcome n)) (i : ℕ) (event : Event n) (outcome : Outcome n) (old new : List (Row n))
    → slice_get events i ≡ Some event → outcome_at outcomes (i + 1) ≡ Some outcome → old ++ drop i (rows_with events outcomes) ≡ rows_with events outcomes
    → new ≡ old ++ row_of event outcome ∷ [] → new ++ drop (i + 1) (rows_with events outcomes) ≡ rows_with events outcomes
one_more events outcomes i event outcome old new at of had is =
    let place : i + 1 - 1 ≡ i = omega arith in
    let one : suc i ≡ i + 1 = omega arith in
    let there : slice_get outcomes i ≡ Some outcome = subst (λ k. slice_get outcomes k ≡ Some outcome) place of in
    let here = next_of (rows_with events outcomes) i (row_of event outcome) (row-at events outcomes i event outcome at there) in
    ap (λ xs. xs ++ drop (i + 1) (rows_with events outcomes)) is ∙ append_assoc old (row_of event outcome ∷ []) (drop (i + 1) (rows_with events outcomes))
    ∙ ap (λ k. old ++ row_of event outcome ∷ drop k (rows_with events outcomes)) (sym one) ∙ ap (λ xs. old ++ xs) (sym here) ∙ had

pub all_made : {n : ℕ} (events : List (Event n)) (outcomes : List (Outcome n)) (i : ℕ) (made : List (Row n)) → length outcomes ≡ length events → length events ≤ i
    → made ++ drop i (rows_with events outcomes) ≡ rows_with events outcomes → made ≡ rows_with events outcomes
all_made events outcomes i made is le had =
    let long = rows_long events outcomes is in
    sym (append-nil made) ∙ ap (λ xs. made ++ xs) (sym (none_left i (rows_with events outcomes) (omega (arith, long, le)))) ∙ had

-- what may be checked is a table of rows whose ticks lie below the reach, over lines that exist
timed_brief : {n : ℕ} (o : Outcome n) → IsTimed o → is_brief o ≡ true
timed_brief out.Unset h = refl
timed_brief (out.Stored u place) h = let e = some_same u h.tick h.at in let s = h.short in lt-ltb u reach (omega (arith, e, s))
timed_brief (out.Merged u) h = let e = some_same u h.tick h.at in let s = h.short in lt-ltb u reach (omega (arith, e, s))
timed_brief (out.Queued u) h = let e = some_same u h.tick h.at in let s = h.short in lt-ltb u reach (omega (arith, e, s))
timed_brief (out.Full u) h = let e = some_same u h.tick h.at in let s = h.short in lt-ltb u reach (omega (arith, e, s))
timed_brief (out.Worn u) h = let e = some_same u h.tick h.at in let s = h.short in lt-ltb u reach (omega (arith, e, s))
timed_brief (out.Read u place bytes) h = let e = some_same u h.tick h.at in let s = h.short in lt-ltb u reach (omega (arith, e, s))
timed_brief (out.Forwarded u bytes) h = let e = some_same u h.tick h.at in let s = h.short in lt-ltb u reach (omega (arith, e, s))
timed_brief (out.Busy u) h = let e = some_same u h.tick h.at in let s = h.short in lt-ltb u reach (omega (arith, e, s))
timed_brief (out.Lost u) h = let e = some_same u h.tick h.at in let s = h.short in lt-ltb u reach (omega (arith, e, s))
timed_brief (out.Cut u) h = let e = some_same u h.tick h.at in let s = h.short in lt-ltb u reach (omega (arith, e, s))

pub brief_rows : {n : ℕ} (events : List (Event n)) (outcomes : List (Outcome n)) → All (λ o. IsTimed o) outcomes → all_brief (rows_with events outcomes) ≡ true
brief_rows [] outcomes h = refl
brief_rows (e ∷ events) [] h = refl
brief_rows {n} (e ∷ events) (o ∷ outcomes) h =
    ap (λ b. b && all_brief (rows_with events outcomes)) (timed_brief o (h 0 o (omega arith))) ∙ brief_rows events outcomes (All-tail (λ (x : Outcome n). IsTimed x) o outcomes h)

pub ticks_below : {n : ℕ} (lines before : ℕ) (events : List (Event n)) (outcomes : List (Outcome n)) → AreEventsFor lines before events → All (λ r. r.tick < 2 ^ 50) (rows_with events outcomes)
ticks_below lines before [] outcomes h = λ i d lt. absurd (omega (arith, lt))
ticks_below lines before (e ∷ events) [] h = λ i d lt. absurd (omega (arith, lt))
ticks_below {n} lines before (e ∷ events) (o ∷ outcomes) h =
    let f = lawful-first lines before e events h in
    let late = f.0.in_time in
    All-cons (λ (r : Row n). r.tick < 2 ^ 50) (row_of e o) (rows_with events outcomes) (omega (arith, late)) (ticks_below lines e.tick events outcomes f.1)

-- the row that a verdict names is one of the table
pub row_within : {n : ℕ} (rules : Rules) (banks : List ℕ) (rows : List (Row n)) (row : ℕ) (one : Rule) → verdict_of rules banks rows ≡ No row one → (1 ≤ row) × (row ≤ length rows)
row_within {n} rules banks rows row one is =
    let low = (verdict_law n rules banks rows).1 row one is in
    let long = ap length low.split ∙ length-append low.below (low.broken ∷ low.above) in
    let number = low.number in
    (omega (arith, number), omega (arith, number, long))

-- a row and those before it and behind it
pub behind : {A : Type 0} (xs : List A) (i : ℕ) (x : A) (rest : List A) → drop i xs ≡ x ∷ rest → drop (suc i) xs ≡ rest
behind [] zero x rest is = absurd (cc)
behind [] (suc i) x rest is = absurd (cc)
behind (y ∷ xs) zero x rest is = cc
behind (y ∷ xs) (suc i) x rest is = behind xs i x rest is

pub there : {A : Type 0} (xs : List A) (i : ℕ) (x : A) (rest : List A) → drop i xs ≡ x ∷ rest → slice_get xs i ≡ Some x
there [] zero x rest is = absurd (cc)
there [] (suc i) x rest is = absurd (cc)
there (y ∷ xs) zero x rest is = let same : y ≡ x = cc in ap Some same
there (y ∷ xs) (suc i) x rest is = there xs i x rest is

-- behind as many as stand before a row there is that row
some_left : {A : Type 0} (i : ℕ) (xs : List A) → i < length xs → length (drop i xs) ≡ 0 → ⊥
some_left i [] lt is = absurd (omega (arith, lt))
some_left zero (x ∷ xs) lt is = absurd (omega (arith, is))
some_left (suc i) (x ∷ xs) lt is = some_left i xs (omega (arith, lt)) is

pub row_left : {A : Type 0} (row : ℕ) (xs rest : List A) → (1 ≤ row) × (row ≤ length xs) → rest ≡ drop (row - 1) xs → length rest ≡ 0 → ⊥
row_left row xs rest within is none =
    let some = within.0 in
    let most = within.1 in
    some_left (row - 1) xs (omega (arith, some, most)) (ap length (sym is) ∙ none)

pub before_it : (row long : ℕ) → (1 ≤ row) × (row ≤ long) → row - 1 ≤ long
before_it row long within = let most = within.1 in omega (arith, most)

-- what is true of each row is true of one, and of those before and behind it
pub parts_long : {A : Type 0} (xs : List A) (i : ℕ) (x : A) (rest : List A) → drop i xs ≡ x ∷ rest → length (take i xs) + 1 + length rest ≡ length xs
parts_long [] zero x rest is = absurd (cc)
parts_long [] (suc i) x rest is = absurd (cc)
parts_long (y ∷ xs) zero x rest is = let same = ap length is in omega (arith, same)
parts_long (y ∷ xs) (suc i) x rest is = let h = parts_long xs i x rest is in omega (arith, h)

pub one_of : {A : Type 0} (P : A → Type 0) (xs : List A) (i : ℕ) (x : A) (rest : List A) → drop i xs ≡ x ∷ rest → All P xs → P x
one_of P xs i x rest is all = All-head P x rest (All-same P (x ∷ rest) (drop i xs) (sym is) (All-drop P i xs all))

pub rest_of : {A : Type 0} (P : A → Type 0) (xs : List A) (i : ℕ) (x : A) (rest : List A) → drop i xs ≡ x ∷ rest → All P xs → All P rest
rest_of P xs i x rest is all = All-tail P x rest (All-same P (x ∷ rest) (drop i xs) (sym is) (All-drop P i xs all))

pub brief_front : {n : ℕ} (i : ℕ) (rows : List (Row n)) → all_brief rows ≡ true → all_brief (take i rows) ≡ true
brief_front zero [] h = refl
brief_front zero (q ∷ rows) h = refl
brief_front (suc i) [] h = refl
brief_front (suc i) (q ∷ rows) h = ap (λ b. b && all_brief (take i rows)) (and_first _ _ h) ∙ brief_front i rows (and_second _ _ h)

pub same_one : {A : Type 0} (x y : A) → Some x ≡ Some y → y ≡ x
same_one x y is = cc
