-- Banks that accepted a write, and rows that are worn.
use Rattle.std.proofs.Common.{◌≡◌, ℕ, ◌+◌, ◌-◌, ◌≤◌, ◌&&◌, ◌||◌, ◌==◌, not, Bool, true, false, List, [], ◌∷◌, Some, None, drop, length, refl, sym, ap, ◌∙◌, cond, subst, suc, arith}
use Rattle.std.specs.{List.list_any, Prelude.{filter, slice_get}}
use Rattle.masked_bytes.proofs.Truth.{and_false}
use Rattle.row_rules.specs.{Answers.accepts, Lines.IsOfLines, Rows.{accepted, line_of}, Table.is_of, Wearing.{is_wear_earned, worn_row}, declared.Asks.Asks}
use Rattle.row_rules.specs.{declared.Asks.TheVariants.{Reads, Writes, Cuts}, declared.Row.Row}
use Rattle.check_verdict.specs.{Judged.a_row, Verdicts.{bank_in, in_bank, mates}}
use Rattle.result_rows.specs.{Table.outcome_at, declared.Outcome.Outcome}
use Rattle.trace_reader.specs.{Events.AreEventsFor, declared.event.Event.Event}
use Rattle.trace_rows.{specs.Rows.{row_of, rows_with}, proofs.Lines.{lines-exist, row-at}}
use Rattle.verdict_telling.{specs.Earned.{has_bank, takes, unearned, unearned_from}, proofs.Tables.{next_of, one_of, rows_long}}

module _ {n : ℕ} (banks : List ℕ) where
  -- an accepted write of a line is one of its bank
  pub takes_of : (bank : ℕ) (r : Row n) (line : ℕ) (bytes : List ℕ) (given : List Bool) → r.asks ≡ Writes line bytes given → accepts r.outcome ≡ true
      → takes banks bank r ≡ (bank_in banks line == bank)
  takes_of bank r line bytes given asks accepts_it = rw (asks, accepts_it) (by (bank_in banks line == bank))
    where
      by : (b : Bool) → (b && true) ≡ b
      by true = refl
      by false = refl

  pub takes_none : (bank : ℕ) (r : Row n) → accepted r ≡ false → takes banks bank r ≡ false
  takes_none bank r none = ap (λ b. is_of (bank_in banks) bank r.asks && b) none ∙ and_false (is_of (bank_in banks) bank r.asks)

  any_filter : (p q : Row n → Bool) (rows : List (Row n)) → list_any p (filter q rows) ≡ list_any (λ r. q r && p r) rows
  any_filter p q [] = refl
  any_filter p q (r ∷ rows) = by (q r) (any_filter p q rows)
    where
      by : (b : Bool) → list_any p (filter q rows) ≡ list_any (λ r. q r && p r) rows
          → list_any p (cond b (r ∷ filter q rows) (filter q rows)) ≡ ((b && p r) || list_any (λ r. q r && p r) rows)
      by true h = ap (λ b. p r || b) h
      by false h = h

  -- what is known of the rows so far: the banks that accepted a write
  pub record Knows (before : List (Row n)) (some : List ℕ) : Type 0 where
    pub has : (bank : ℕ) → has_bank bank some ≡ list_any (takes banks bank) before

  -- a row is earned exactly where it isn't worn, or its bank accepted a write
  pub earned_is : (before after : List (Row n)) (some : List ℕ) (r : Row n) → Knows before some
      → in_bank banks is_wear_earned before r after ≡ (not (worn_row r) || has_bank (bank_in banks (line_of r.asks)) some)
  earned_is before after some r knows = by r.asks
    where
      by : (asks : Asks n) → is_wear_earned (mates banks asks before) (a_row r.tick asks r.outcome) (mates banks asks after)
          ≡ (not (worn_row (a_row r.tick asks r.outcome)) || has_bank (bank_in banks (line_of asks)) some)
      by (Reads line) = refl
      by (Writes line bytes given) =
          ap (λ b. not (worn_row (a_row r.tick (Writes line bytes given) r.outcome)) || b)
          (any_filter accepted (λ q. is_of (bank_in banks) (bank_in banks line) q.asks) before ∙ sym (knows.has (bank_in banks line)))
      by Cuts = refl

  -- one row more
  pub knows_more : (before : List (Row n)) (old new : List ℕ) (r : Row n) → Knows before old → ((bank : ℕ) → has_bank bank new ≡ (takes banks bank r || has_bank bank old))
      → Knows (r ∷ before) new
  knows_more before old new r knows is = record { has = λ bank. is bank ∙ ap (λ b. takes banks bank r || b) (knows.has bank) }

  -- none of the rows so far is unearned
  pub record Passed (rows : List (Row n)) (row : ℕ) (rest : List (Row n)) (some : List ℕ) : Type 0 where
    pub before : List (Row n)
    pub knows : Knows before some
    pub same : unearned_from banks row before rest ≡ unearned banks rows

  pub passed_none : (rows : List (Row n)) → Passed rows 1 rows []
  passed_none rows = record { before = []; knows = record { has = λ bank. refl }; same = refl }

  pub passed_more : (rows : List (Row n)) (row : ℕ) (r : Row n) (rest : List (Row n)) (old new : List ℕ) → Passed rows row (r ∷ rest) old
      → (not (worn_row r) || has_bank (bank_in banks (line_of r.asks)) old) ≡ true → ((bank : ℕ) → has_bank bank new ≡ (takes banks bank r || has_bank bank old))
      → Passed rows (row + 1) rest new
  passed_more rows row r rest old new passed earned is = record {
    before = r ∷ passed.before;
    knows = knows_more passed.before old new r passed.knows is;
    same =
        sym (ap (λ b. cond b (unearned_from banks (row + 1) (r ∷ passed.before) rest) (Some row)) (earned_is passed.before rest old r passed.knows ∙ earned))
        ∙ passed.same;
  }

  pub found_one : (rows : List (Row n)) (row : ℕ) (r : Row n) (rest : List (Row n)) (some : List ℕ) → Passed rows row (r ∷ rest) some
      → (not (worn_row r) || has_bank (bank_in banks (line_of r.asks)) some) ≡ false → Some row ≡ unearned banks rows
  found_one rows row r rest some passed not_earned =
      sym (ap (λ b. cond b (unearned_from banks (row + 1) (r ∷ passed.before) rest) (Some row)) (earned_is passed.before rest some r passed.knows ∙ not_earned))
      ∙ passed.same

  pub found_none : (rows : List (Row n)) (row : ℕ) (rest : List (Row n)) (some : List ℕ) → Passed rows row rest some → rest ≡ [] → None ≡ unearned banks rows
  found_none rows row rest some passed none = sym (ap (λ xs. unearned_from banks row passed.before xs) none) ∙ passed.same

-- the row of a table at an index
pub row_here : {n : ℕ} (events : List (Event n)) (outcomes : List (Outcome n)) (i : ℕ) (event : Event n) (outcome : Outcome n) (r : Row n) → slice_get events i ≡ Some event
    → outcome_at outcomes (i + 1) ≡ Some outcome → r ≡ row_of event outcome → drop i (rows_with events outcomes) ≡ r ∷ drop (i + 1) (rows_with events outcomes)
row_here events outcomes i event outcome r at of is =
    let place : i + 1 - 1 ≡ i = omega arith in
    let one : suc i ≡ i + 1 = omega arith in
    next_of (rows_with events outcomes) i (row_of event outcome) (row-at events outcomes i event outcome at (subst (λ k. slice_get outcomes k ≡ Some outcome) place of))
    ∙ ap (λ k. row_of event outcome ∷ drop k (rows_with events outcomes)) one ∙ ap (λ q. q ∷ drop (i + 1) (rows_with events outcomes)) (sym is)

-- it is of a line that there is
pub of_lines : {n : ℕ} (lines : ℕ) (events : List (Event n)) (outcomes : List (Outcome n)) (i : ℕ) (r : Row n) (rest : List (Row n)) → AreEventsFor lines 0 events
    → drop i (rows_with events outcomes) ≡ r ∷ rest → IsOfLines lines r.asks
of_lines {n} lines events outcomes i r rest lawful here = one_of (λ (q : Row n). IsOfLines lines q.asks) (rows_with events outcomes) i r rest here (lines-exist lines 0 events outcomes lawful)

pub few_rows : {n : ℕ} (events : List (Event n)) (outcomes : List (Outcome n)) (i : ℕ) → length outcomes ≡ length events → length events ≤ i → length (rows_with events outcomes) ≤ i
few_rows events outcomes i same le = let long = rows_long events outcomes same in omega (arith, long, le)
