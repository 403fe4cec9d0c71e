-- What one line more makes of a printer.
use Rattle.std.proofs.Common.{◌≡◌, ℕ, ◌^◌, ◌<◌, ◌≤◌, List, [], ◌∷◌, ◌++◌, Option, true, false, Some, length, replicate, append_assoc, refl, ap, sym, subst, ◌∙◌, arith}
use Rattle.std.{specs.Prelude.{IsTrue, is_some}, proofs.lemmas.List.length-replicate}
use Rattle.pcm_io.{specs.Faults.Rose, specs.Giving.AppendsPrefix, specs.Reserved.{Reserved, appended}, proofs.ByteLemmas.AppendsPrefix-longer}
use Rattle.result_rows.specs.{Outcomes.op_of, Table.{HasRow, outcome_at, with_outcome}, declared.Outcome.Outcome, declared.Outcome.TheVariants.Unset}
use Rattle.run_text.{specs.Counting.{counts_of, with_one}, specs.Gathering.Printed, specs.Laws.rows_counted, specs.declared.counts.OutcomeCounts.OutcomeCounts, proofs.Gathered.printed-more}
use Rattle.row_printer.specs.{Printing.{Prints, stream_text, table_of}, Snapshots.{snapshot_line, snapshots_header, snapshots_text}}
use Rattle.row_printer.specs.{Telling.{told_head, told_line, told_text, outcomes_in, recorded, TellsOnce}, declared.snapshot.Snapshot.Snapshot, declared.told.Shown.Shown}
use Rattle.row_printer.specs.{declared.told.Shown.TheVariants.{Rows, Snapshots}, declared.told.Told.Told, declared.told.Told.TheVariants.Became, declared.told.ToldShape.ToldShape}
use Rattle.row_printer.proofs.{Counted.{counts-more, counted-below}, Once.{once-more, open-untold}}
use Rattle.row_printer.proofs.Telling.{told_text-more, snapshots_text-more, outcomes-more, recorded-more, length-recorded}

-- a later count rose too
rose-later : (first faults left : ℕ) → first ≤ faults → Rose faults left → Rose first left
rose-later first faults left falls rose = omega (arith, falls, rose)

module _ (before : Option (List ℕ)) (first : ℕ) where
  -- once a write failed nothing is printed
  still-broken : (written : Option (List ℕ)) (faults : ℕ) (text : Reserved) (whole more : List ℕ) → Prints before first written faults text whole true
      → Prints before first written faults text (whole ++ more) true
  still-broken written faults text whole more h = record {
    printed = λ is. absurd (cc is);
    part = λ is. AppendsPrefix-longer before written whole more (h.part refl);
    fault = h.fault;
    never_falls = h.never_falls;
  }

  -- a write fails
  breaks : (was now : Option (List ℕ)) (faults left : ℕ) (text new : Reserved) (whole more : List ℕ) → Prints before first was faults text whole false
      → AppendsPrefix before now whole → Rose faults left → faults ≤ left → Prints before first now left new (whole ++ more) true
  breaks was now faults left text new whole more h part rose falls = record {
    printed = λ is. absurd (cc is);
    part = λ is. AppendsPrefix-longer before now whole more part;
    fault = λ is. rose-later first faults left h.never_falls rose;
    never_falls = omega (arith, h.never_falls, falls);
  }

  -- more is printed
  goes : (was now : Option (List ℕ)) (faults left : ℕ) (text new : Reserved) (whole more : List ℕ) → Prints before first was faults text whole false
      → Printed before now new whole → faults ≤ left → Prints before first now left (appended new more) (whole ++ more) false
  goes was now faults left text new whole more h printed falls = record {
    printed = λ is. printed-more before now new whole more printed;
    part = λ is. absurd (cc is);
    fault = λ is. absurd (cc is);
    never_falls = omega (arith, h.never_falls, falls);
  }

  -- a line more, wherever it stands
  module _ (one two more : List ℕ) (is : one ++ more ≡ two) where
    pub more-broken : (written : Option (List ℕ)) (faults : ℕ) (text : Reserved) → Prints before first written faults text one true
        → Prints before first written faults text two true
    more-broken written faults text h =
        subst (λ (whole : List ℕ). Prints before first written faults text whole true) is (still-broken written faults text one more h)

    pub more-breaks : (was now : Option (List ℕ)) (faults left : ℕ) (text new : Reserved) → Prints before first was faults text one false
        → AppendsPrefix before now one → Rose faults left → faults ≤ left → Prints before first now left new two true
    more-breaks was now faults left text new h part rose falls =
        subst (λ (whole : List ℕ). Prints before first now left new whole true) is (breaks was now faults left text new one more h part rose falls)

    pub more-goes : (was now : Option (List ℕ)) (faults left : ℕ) (text new : Reserved) → Prints before first was faults text one false
        → Printed before now new one → faults ≤ left
        → Prints before first now left (appended new more) two false
    more-goes was now faults left text new h printed falls =
        subst (λ (whole : List ℕ). Prints before first now left (appended new more) whole false) is
        (goes was now faults left text new one more h printed falls)

module _ {n : ℕ} (told : List (Told n)) (line : Told n) (snapshots : List Snapshot) where
  -- the text of a stream that told one line more
  pub rows-more : (shape : Option ToldShape) → stream_text (Rows shape) told snapshots ++ told_line line ≡ stream_text (Rows shape) (told ++ line ∷ []) snapshots
  rows-more shape =
      append_assoc (told_head n shape) (told_text told) (told_line line)
      ∙ ap (λ (rest : List ℕ). told_head n shape ++ rest) (sym (told_text-more told line))

  -- once a write failed none is printed, and none where others are
  pub rows-broken : (before : Option (List ℕ)) (first : ℕ) (prints : Shown) (written : Option (List ℕ)) (faults : ℕ) (text : Reserved)
      → Prints before first written faults text (stream_text prints told snapshots) true
      → Prints before first written faults text (stream_text prints (told ++ line ∷ []) snapshots) true
  rows-broken before first (Rows shape) written faults text h =
      more-broken before first (stream_text (Rows shape) told snapshots) (stream_text (Rows shape) (told ++ line ∷ []) snapshots) (told_line line) (rows-more shape) written faults text h
  rows-broken before first _ written faults text h = h

module _ {n : ℕ} (told : List (Told n)) (snapshots : List Snapshot) (one : Snapshot) where
  -- the text of one that took one snapshot more
  pub snapshots-more : (every : ℕ) → stream_text (Snapshots every) told snapshots ++ snapshot_line one ≡ stream_text (Snapshots every) told (snapshots ++ one ∷ [])
  snapshots-more every =
      append_assoc snapshots_header (snapshots_text snapshots) (snapshot_line one)
      ∙ ap (λ (rest : List ℕ). snapshots_header ++ rest) (sym (snapshots_text-more snapshots one))

  pub snapshots-broken : (before : Option (List ℕ)) (first : ℕ) (prints : Shown) (written : Option (List ℕ)) (faults : ℕ) (text : Reserved)
      → Prints before first written faults text (stream_text prints told snapshots) true
      → Prints before first written faults text (stream_text prints told (snapshots ++ one ∷ [])) true
  snapshots-broken before first (Snapshots every) written faults text h =
      more-broken before first (stream_text (Snapshots every) told snapshots) (stream_text (Snapshots every) told (snapshots ++ one ∷ [])) (snapshot_line one) (snapshots-more every) written faults text h
  snapshots-broken before first _ written faults text h = h

-- a row that was open is told once
pub tells-next : {n : ℕ} (most : ℕ) (outcomes : List (ℕ × Outcome n)) (row : ℕ) (outcome : Outcome n) → TellsOnce most outcomes → HasRow (recorded outcomes (replicate most Unset)) row
    → outcome_at (recorded outcomes (replicate most Unset)) row ≡ Some Unset → IsTrue (is_some (op_of outcome)) → TellsOnce most (outcomes ++ (row, outcome) ∷ [])
tells-next {n} most outcomes row outcome once exists unset is =
    let none : List (Outcome n) = replicate most Unset in
    let size : length none ≡ most = length-replicate most Unset in
    let within : row ≤ most = rw (length-recorded outcomes none ∙ size) at exists.within in
    let there : HasRow none row = record { above = exists.above; within = rw size within } in
    once-more most outcomes row outcome exists.above within is (open-untold most outcomes none row once size there unset) once

-- the table has the outcome of a row that was told
pub table-set : {n : ℕ} (rows : ℕ) (told : List (Told n)) (row : ℕ) (outcome : Outcome n) → table_of rows (told ++ Became row outcome ∷ []) ≡ with_outcome (table_of rows told) row outcome
table-set {n = n} rows told row outcome =
    ap (λ (outcomes : List (ℕ × Outcome n)). recorded outcomes (replicate rows Unset)) (outcomes-more told row outcome)
    ∙ recorded-more (outcomes_in told) (replicate rows Unset) row outcome

-- and it is counted
pub set-counted : {n : ℕ} (rows : ℕ) (told : List (Told n)) (row : ℕ) (outcome : Outcome n) (counts now : OutcomeCounts) → counts ≡ counts_of (table_of rows told)
    → now ≡ with_one counts outcome → outcome_at (table_of rows told) row ≡ Some Unset → now ≡ counts_of (table_of rows (told ++ Became row outcome ∷ []))
set-counted {n = n} rows told row outcome counts now is one unset =
    one ∙ ap (λ (c : OutcomeCounts). with_one c outcome) is ∙ sym (counts-more (table_of rows told) row outcome unset)
    ∙ ap (λ (table : List (Outcome n)). counts_of table) (sym (table-set rows told row outcome))

-- where a row is open, not all that there may be are counted
pub few-counted : {n : ℕ} (rows : ℕ) (told : List (Told n)) (row : ℕ) (counts : OutcomeCounts) → rows < 2 ^ 32 → counts ≡ counts_of (table_of rows told)
    → outcome_at (table_of rows told) row ≡ Some Unset → rows_counted counts < 4294967295
few-counted {n = n} rows told row counts fits is unset =
    let none : List (Outcome n) = replicate rows Unset in
    let size : length (table_of rows told) ≡ rows = length-recorded (outcomes_in told) none ∙ length-replicate rows Unset in
    rw is (counted-below (table_of rows told) row 4294967295 unset (omega (arith, size, fits)))
