-- The lines of a stream, sorted, are those of a run's results.
use Rattle.std.proofs.Common.{◌≡◌, ◌≢◌, ℕ, zero, suc, ◌+◌, ◌-◌, ◌<◌, ◌≤◌, ◌==◌, Bool, true, false, List, [], ◌∷◌, length, map, replicate, Some, refl, sym, ap, ◌∙◌, arith, nat_lt}
use Rattle.std.{specs.Prelude.{is_some, slice_get, slice_set}, proofs.lemmas.Bool.Decides.nat_tests, proofs.lemmas.List.{length-replicate, get_or-replicate}}
use Rattle.std.proofs.lemmas.Option.{slice_get-get_or}
use Rattle.trace_reader.specs.declared.event.Event.{Event}
use Rattle.result_rows.{specs.Outcomes.op_of, specs.Table.{HasRow, outcome_at, with_outcome}, specs.declared.Outcome.Outcome, proofs.TableLemmas.length-with_outcome}
use Rattle.result_rows.specs.declared.Outcome.TheVariants as out
use Rattle.run_text.specs.ResultText.{rows_text}
use Rattle.row_printer.specs.{Printing.table_of, Telling.{became, outcomes_in, recorded, tells, told_text, TellsOnce}}
use Rattle.row_printer.proofs.Once.{differs, open-untold, or_false, stays-told}
use Rattle.stream_laws.specs.Lines.{LineLaw, ResultLaw, SortedLaw, in_order, lines_text, put_in, result_fields, without_op_and_line}

pub one-line : LineLaw
one-line n row line op outcome = (refl, refl)

pub result-lines : ResultLaw
unfolding rows_text
result-lines n row [] outcomes = refl
result-lines n row (event ∷ events) [] = refl
result-lines n row (event ∷ events) (outcome ∷ outcomes) = rw (result-lines n (row + 1) events outcomes) refl

below : (a b : ℕ) → a < b → nat_lt a b ≡ true
below a b less = grind (arith, nat_tests)

not-below : (a b : ℕ) → b ≤ a → nat_lt a b ≡ false
not-below a b less = grind (arith, nat_tests)

set-set : {A : Type 0} (xs : List A) (i j : ℕ) (x y : A) → i ≢ j → slice_set (slice_set xs i x) j y ≡ slice_set (slice_set xs j y) i x
set-set [] i j x y other = refl
set-set (z ∷ xs) zero zero x y other = absurd (other refl)
set-set (z ∷ xs) zero (suc j) x y other = refl
set-set (z ∷ xs) (suc i) zero x y other = refl
set-set (z ∷ xs) (suc i) (suc j) x y other = ap (λ rest. z ∷ rest) (set-set xs i j x y (λ same. other (ap suc same)))

module _ {n : ℕ} where
  abbrev is_told : Outcome n → Bool
  is_told outcome = is_some (op_of outcome)

  -- the outcomes of a table that are set, and all of them, numbered from this row on
  abbrev if_told : Bool → ℕ × Outcome n → List (ℕ × Outcome n) → List (ℕ × Outcome n)
  if_told false one rest = rest
  if_told true one rest = one ∷ rest

  abbrev listed : ℕ → List (Outcome n) → List (ℕ × Outcome n)
  listed row [] = []
  listed row (outcome ∷ table) = if_told (is_told outcome) (row, outcome) (listed (row + 1) table)

  abbrev numbered : ℕ → List (Outcome n) → List (ℕ × Outcome n)
  numbered row [] = []
  numbered row (outcome ∷ table) = (row, outcome) ∷ numbered (row + 1) table

  put-first : (k row : ℕ) (outcome : Outcome n) (table : List (Outcome n)) → k < row → put_in (k, outcome) (listed row table) ≡ (k, outcome) ∷ listed row table
  put-first k row outcome [] less = refl
  put-first k row outcome (first ∷ table) less = by (is_told first) (put-first k (row + 1) outcome table (omega arith))
    where
      by : (told : Bool) → put_in (k, outcome) (listed (row + 1) table) ≡ (k, outcome) ∷ listed (row + 1) table
          → put_in (k, outcome) (if_told told (row, first) (listed (row + 1) table)) ≡ (k, outcome) ∷ if_told told (row, first) (listed (row + 1) table)
      by false more = more
      by true more = rw (below k row less) refl

  put-listed : (k row i : ℕ) (outcome : Outcome n) (table : List (Outcome n)) → k ≡ row + i → is_told outcome ≡ true → slice_get table i ≡ Some out.Unset
      → put_in (k, outcome) (listed row table) ≡ listed row (slice_set table i outcome)
  put-listed k row i outcome [] at is blank_is = absurd (cc blank_is)
  put-listed k row zero outcome (first ∷ table) at is blank_is =
      let unset : first ≡ out.Unset = cc blank_is in
      let here : k ≡ row = omega (arith, at) in
      let none : is_told first ≡ false = rw unset refl in
      let one : put_in (k, outcome) (listed (row + 1) table) ≡ (row, outcome) ∷ listed (row + 1) table = put-first k (row + 1) outcome table (omega (arith, here)) ∙ ap (λ (j : ℕ). (j, outcome) ∷ listed (row + 1) table) here in
      rw (none, is) one
  put-listed k row (suc i) outcome (first ∷ table) at is blank_is = by (is_told first) (put-listed k (row + 1) i outcome table (omega (arith, at)) is blank_is)
    where
      by : (told : Bool) → put_in (k, outcome) (listed (row + 1) table) ≡ listed (row + 1) (slice_set table i outcome)
          → put_in (k, outcome) (if_told told (row, first) (listed (row + 1) table)) ≡ if_told told (row, first) (listed (row + 1) (slice_set table i outcome))
      by false more = more
      by true more = rw (not-below k row (omega (arith, at))) (ap (λ rest. (row, first) ∷ rest) more)

  listed-blank : (row most : ℕ) → listed row (replicate most out.Unset) ≡ []
  listed-blank row zero = refl
  listed-blank row (suc most) = listed-blank (row + 1) most

  -- an outcome of a row that none of these is of may as well be set behind them
  set-last : (most k : ℕ) (outcome : Outcome n) (told : List (ℕ × Outcome n)) (table : List (Outcome n)) → 1 ≤ k → TellsOnce most told → tells told k ≡ false
      → recorded told (with_outcome table k outcome) ≡ with_outcome (recorded told table) k outcome
  set-last most k outcome [] table above once none = refl
  set-last most k outcome (one ∷ told) table above once none =
      let parts = or_false (one.0 == k) (tells told k) none in
      let apart : k - 1 ≢ one.0 - 1 = λ same. differs one.0 k parts.0 (omega (arith, above, once.0, same)) in
      ap (recorded told) (set-set table (k - 1) (one.0 - 1) outcome one.1 apart) ∙ set-last most k outcome told (with_outcome table one.0 one.1) above once.4 parts.1

  sorted-listed : (most : ℕ) (told : List (ℕ × Outcome n)) → TellsOnce most told → in_order told ≡ listed 1 (recorded told (replicate most out.Unset))
  sorted-listed most [] once = sym (listed-blank 1 most)
  sorted-listed most (one ∷ told) once =
      let blank : List (Outcome n) = replicate most out.Unset in
      let size : length blank ≡ most = length-replicate most out.Unset in
      let there : HasRow blank one.0 = record { above = once.0; within = rw size once.1 } in
      let index : one.0 - 1 < most = omega (arith, once.0, once.1) in
      let here : one.0 - 1 < length blank = rw size index in
      let was : slice_get blank (one.0 - 1) ≡ Some out.Unset = slice_get-get_or blank (one.0 - 1) out.Unset here ∙ ap Some (get_or-replicate most (one.0 - 1) out.Unset out.Unset index) in
      let blank_is : slice_get (recorded told blank) (one.0 - 1) ≡ Some out.Unset = stays-told most told blank one.0 once.4 size there once.3 ∙ was in
      let number : one.0 ≡ 1 + (one.0 - 1) = omega (arith, once.0) in
      ap (put_in one) (sorted-listed most told once.4)
      ∙ put-listed one.0 1 (one.0 - 1) one.1 (recorded told blank) number once.2 blank_is
      ∙ ap (listed 1) (sym (set-last most one.0 one.1 told blank once.0 once.4 once.3))

  length-recorded : (told : List (ℕ × Outcome n)) (table : List (Outcome n)) → length (recorded told table) ≡ length table
  length-recorded [] table = refl
  length-recorded (one ∷ told) table = length-recorded told (with_outcome table one.0 one.1) ∙ length-with_outcome table one.0 one.1

  told-or-unset : (outcome : Outcome n) → (outcome ≢ out.Unset) → is_told outcome ≡ true
  told-or-unset out.Unset set = absurd (set refl)
  told-or-unset (out.Stored tick place) set = refl
  told-or-unset (out.Merged tick) set = refl
  told-or-unset (out.Queued tick) set = refl
  told-or-unset (out.Full tick) set = refl
  told-or-unset (out.Worn tick) set = refl
  told-or-unset (out.Read tick place bytes) set = refl
  told-or-unset (out.Forwarded tick bytes) set = refl
  told-or-unset (out.Busy tick) set = refl
  told-or-unset (out.Lost tick) set = refl
  told-or-unset (out.Cut tick) set = refl

  -- where all are set, all are listed
  all-listed : (row : ℕ) (table : List (Outcome n)) → ((i : ℕ) → i < length table → slice_get table i ≢ Some out.Unset) → listed row table ≡ numbered row table
  all-listed row [] set = refl
  all-listed row (first ∷ table) set =
      let here : is_told first ≡ true = told-or-unset first (λ unset. set 0 (omega arith) (ap Some unset)) in
      rw here (ap (λ rest. (row, first) ∷ rest) (all-listed (row + 1) table (λ i less. set (suc i) (omega (arith, less)))))

  numbered-lines : (row : ℕ) (events : List (Event n)) (table : List (Outcome n)) → length table ≡ length events
      → told_text (became (numbered row table)) ≡ lines_text (map without_op_and_line (result_fields row events table))
  numbered-lines row [] [] size = refl
  numbered-lines row [] (outcome ∷ table) size = absurd (omega (arith, size))
  numbered-lines row (event ∷ events) [] size = absurd (omega (arith, size))
  numbered-lines row (event ∷ events) (outcome ∷ table) size = rw (numbered-lines (row + 1) events table (omega (arith, size))) refl

pub sorted-lines : SortedLaw
sorted-lines n events told once each =
    let most : ℕ = length events in
    let outcomes : List (ℕ × Outcome n) = outcomes_in told in
    let blank : List (Outcome n) = replicate most out.Unset in
    let table : List (Outcome n) = table_of most told in
    let wide : length blank ≡ most = length-replicate most out.Unset in
    let size : length table ≡ most = length-recorded outcomes blank ∙ wide in
    ap (λ list. told_text (became list)) (sorted-listed most outcomes once ∙ all-listed 1 table (λ i less blank_is. set i (omega (arith, less, size)) blank_is))
    ∙ numbered-lines 1 events table size
  where
    set : (i : ℕ) → i < length events → slice_get (table_of (length events) told) i ≡ Some out.Unset → ⊥
    set i less blank_is =
        let blank : List (Outcome n) = replicate (length events) out.Unset in
        let wide : length blank ≡ length events = length-replicate (length events) out.Unset in
        let there : HasRow blank (i + 1) = record { above = omega arith; within = omega (arith, wide, less) } in
        let back : i + 1 - 1 ≡ i = omega arith in
        let here : outcome_at (table_of (length events) told) (i + 1) ≡ Some out.Unset = ap (slice_get (table_of (length events) told)) back ∙ blank_is in
        let untold : tells (outcomes_in told) (i + 1) ≡ false = open-untold (length events) (outcomes_in told) blank (i + 1) once wide there here in
        let clash : true ≡ false = sym (each (i + 1) (omega arith) (omega (arith, less))) ∙ untold in
        cc clash
