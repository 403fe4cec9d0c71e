-- The table of events with outcomes, by its numbered rows and by its events.
use Rattle.std.proofs.Common.{◌≡◌, ℕ, ◌+◌, ◌-◌, List, [], ◌∷◌, ◌++◌, length, map, reverse, refl, sym, ap, ◌∙◌, arith, append_assoc}
use Rattle.std.{specs.Prelude.{slice_get, unwrap_or}, proofs.lemmas.List.{append-nil, length_push}}
use Rattle.masked_bytes.proofs.Lists.{turned}
use Rattle.trace_reader.specs.declared.event.Event.{Event}
use Rattle.result_rows.specs.{declared.Outcome.Outcome, declared.Outcome.TheVariants.Unset}
use Rattle.row_rules.specs.declared.Row.{Row}
use Rattle.trace_rows.specs.Rows.{row_of, rows_with}
use Rattle.module_laws.specs.Asking.{Asked, row_with}
use Rattle.bank_timing.specs.Extending.{outcome_in}
use Rattle.pcm_module.specs.Asking.{asked_by, asked_for}

map-reverse : {A B : Type 0} (f : A → B) (xs ys : List A) → map f (reverse xs ++ ys) ≡ reverse (map f xs) ++ map f ys
map-reverse f [] ys = refl
map-reverse f (x ∷ xs) ys = ap (map f) (turned x xs ys) ∙ map-reverse f xs (x ∷ ys) ∙ sym (turned (f x) (map f xs) (map f ys))

module _ {n : ℕ} where
  -- what events ask, numbered from this row on
  abbrev numbered : ℕ → List (Event n) → List (Asked n)
  numbered row [] = []
  numbered row (event ∷ events) = asked_by row event ∷ numbered (row + 1) events

  asked-forwards : (events below : List (Event n)) → asked_for (reverse events ++ below) ≡ reverse (numbered (length below + 1) events) ++ asked_for below
  asked-forwards [] below = refl
  asked-forwards (event ∷ events) below =
      let next : length (event ∷ below) + 1 ≡ length below + 1 + 1 = omega arith in
      ap asked_for (turned event events below) ∙ asked-forwards events (event ∷ below)
      ∙ ap (λ (row : ℕ). reverse (numbered row events) ++ asked_for (event ∷ below)) next
      ∙ sym (turned (asked_by (length below + 1) event) (numbered (length below + 1 + 1) events) (asked_for below))

  own-outcome : (before : List (Outcome n)) (outcome : Outcome n) (rest : List (Outcome n)) → outcome_in (before ++ outcome ∷ rest) (length before + 1) ≡ outcome
  own-outcome before outcome rest =
      let back : length before + 1 - 1 ≡ length before = omega arith in
      ap (λ (i : ℕ). unwrap_or (slice_get (before ++ outcome ∷ rest) i) Unset) back ∙ at before
    where
      at : (before : List (Outcome n)) → unwrap_or (slice_get (before ++ outcome ∷ rest) (length before)) Unset ≡ outcome
      at [] = refl
      at (first ∷ before) = at before

  with-outcomes : (before : List (Outcome n)) (events : List (Event n)) (outcomes : List (Outcome n)) → length outcomes ≡ length events
      → map (row_with (outcome_in (before ++ outcomes))) (numbered (length before + 1) events) ≡ rows_with events outcomes
  with-outcomes before [] [] size = refl
  with-outcomes before [] (outcome ∷ outcomes) size = absurd (omega (arith, size))
  with-outcomes before (event ∷ events) [] size = absurd (omega (arith, size))
  with-outcomes before (event ∷ events) (outcome ∷ outcomes) size =
      let all : List (Outcome n) = before ++ outcome ∷ outcomes in
      let next : (before ++ outcome ∷ []) ++ outcomes ≡ all = append_assoc before (outcome ∷ []) outcomes in
      ap (λ (o : Outcome n). row_of event o ∷ map (row_with (outcome_in all)) (numbered (length before + 1 + 1) events)) (own-outcome before outcome outcomes)
      ∙ ap (λ (rest : List (Row n)). row_of event outcome ∷ rest)
      (ap (λ (row : ℕ). map (row_with (outcome_in all)) (numbered (row + 1) events)) (sym (length_push before outcome))
      ∙ ap (λ (all : List (Outcome n)). map (row_with (outcome_in all)) (numbered (length (before ++ outcome ∷ []) + 1) events)) (sym next)
      ∙ with-outcomes (before ++ outcome ∷ []) events outcomes (omega (arith, size)))

  -- the numbered rows of events, the newest first, are their table
  pub rows-forwards : (events : List (Event n)) (outcomes : List (Outcome n)) → length outcomes ≡ length events
      → map (row_with (outcome_in outcomes)) (asked_for (reverse events)) ≡ reverse (rows_with events outcomes)
  rows-forwards events outcomes size =
      ap (λ (es : List (Event n)). map (row_with (outcome_in outcomes)) (asked_for es)) (sym (append-nil (reverse events)))
      ∙ ap (map (row_with (outcome_in outcomes))) (asked-forwards events [])
      ∙ map-reverse (row_with (outcome_in outcomes)) (numbered 1 events) []
      ∙ append-nil (reverse (map (row_with (outcome_in outcomes)) (numbered 1 events)))
      ∙ ap reverse (with-outcomes [] events outcomes size)
