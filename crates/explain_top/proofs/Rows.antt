-- The row that a verdict names.
use Rattle.std.proofs.Common.{◌≡◌, ℕ, ◌-◌, ◌<◌, ◌≤◌, Bool, List, [], ◌∷◌, Option, Some, length, ap, ◌∙◌, refl, subst, sym, arith}
use Rattle.std.{specs.Prelude.slice_get, proofs.lemmas.List.length-append}
use Rattle.trace_reader.specs.declared.event.Event.{Event}
use Rattle.trace_rows.specs.Rows.{rows_with}
use Rattle.result_rows.specs.{Table.{HasRow, outcome_at}, declared.Outcome.Outcome}
use Rattle.row_rules.specs.declared.Rules.{Rules}
use Rattle.check_verdict.specs.{Verdicts.verdict_of, declared.Rule.Rule, declared.Rule.TheVariants.Worn, declared.Verdict.Verdict, declared.Verdict.TheVariants.{Yes, No}}
use Rattle.check_verdict.proofs.Lowest.{verdict_law}
use Rattle.check_text.specs.VerdictText.{verdict_text}
use Rattle.verdict_telling.specs.{Explained.TellsOf, declared.row.Explanation.Explanation}
use Rattle.verdict_text.specs.Explained.{explained_on, unearned_on}
use Rattle.explain_top.specs.Explained.{IsExplained, SaysKept, SaysRow, SaysUnearned, bank_asked, by_row, found_in, judged}

rows_long : {n : ℕ} (events : List (Event n)) (outcomes : List (Outcome n)) → length outcomes ≡ length events → length (rows_with events outcomes) ≡ length events
rows_long [] outcomes is = refl
rows_long (e ∷ events) [] is = absurd (omega (arith, is))
rows_long (e ∷ events) (o ∷ outcomes) is = let h = rows_long events outcomes (omega (arith, is)) in omega (arith, h)

-- it is one of the table
pub row_within : {n : ℕ} (rules : Rules) (banks : List ℕ) (events : List (Event n)) (outcomes : List (Outcome n)) (row : ℕ) (one : Rule) → length outcomes ≡ length events
    → verdict_of rules banks (rows_with events outcomes) ≡ No row one → (1 ≤ row) × (row ≤ length events)
row_within {n} rules banks events outcomes row one same is =
    let low = (verdict_law n rules banks (rows_with events outcomes)).1 row one is in
    let long = ap length low.split ∙ length-append low.below (low.broken ∷ low.above) in
    let all = rows_long events outcomes same in
    let number = low.number in
    (omega (arith, number), omega (arith, number, long, all))

pub index_most : (row long : ℕ) → (1 ≤ row) × (row ≤ long) → row - 1 ≤ long
index_most row long within = let most = within.1 in omega (arith, most)

pub index_below : (row long : ℕ) → (1 ≤ row) × (row ≤ long) → row - 1 < long
index_below row long within =
    let some = within.0 in
    let most = within.1 in
    omega (arith, some, most)

-- and has an outcome
pub has_row : {A : Type 0} (outcomes : List A) (row long : ℕ) → length outcomes ≡ long → (1 ≤ row) × (row ≤ long) → HasRow outcomes row
has_row outcomes row long same within =
    let most = within.1 in
    record { above = within.0; within = omega (arith, most, same) }

-- what is said of it, behind the line of the verdict
pub says_row : {n : ℕ} (rules : Rules) (banks : List ℕ) (events : List (Event n)) (outcomes : List (Outcome n)) (row : ℕ) (rule : Rule) (event : Event n) (outcome : Outcome n)
    (told : Explanation n) (line text : List ℕ) (bank : Option ℕ) → slice_get events (row - 1) ≡ Some event → outcome_at outcomes row ≡ Some outcome
    → TellsOf rules banks (rows_with events outcomes) row rule told → line ≡ verdict_text (No row rule) → bank ≡ bank_asked banks event.op
    → text ≡ explained_on line rules events outcomes bank event outcome told → SaysRow rules banks events outcomes row rule text
says_row rules banks events outcomes row rule event outcome told line text bank at of tells begun home is = record {
  event = event;
  asked = at;
  outcome = outcome;
  answered = of;
  told = told;
  tells = tells;
  is =
      is ∙ ap (λ (xs : List ℕ). explained_on xs rules events outcomes bank event outcome told) begun
      ∙ ap (λ (b : Option ℕ). explained_on (verdict_text (No row rule)) rules events outcomes b event outcome told) home;
}

-- the same of a row that isn't earned
pub says_unearned : {n : ℕ} (banks : List ℕ) (events : List (Event n)) (outcomes : List (Outcome n)) (row : ℕ) (event : Event n) (outcome : Outcome n)
    (line text : List ℕ) (bank : Option ℕ) → slice_get events (row - 1) ≡ Some event → outcome_at outcomes row ≡ Some outcome
    → line ≡ verdict_text (No row Worn) → bank ≡ bank_asked banks event.op → text ≡ unearned_on line bank event outcome → SaysUnearned banks events outcomes row Worn text
says_unearned banks events outcomes row event outcome line text bank at of begun home is = record {
  event = event;
  asked = at;
  outcome = outcome;
  answered = of;
  is = is ∙ ap (λ (xs : List ℕ). unearned_on xs bank event outcome) begun ∙ ap (λ (b : Option ℕ). unearned_on (verdict_text (No row Worn)) b event outcome) home;
}

-- what is told of rows that keep all rules, where one isn't earned
pub kept_row : {n : ℕ} (strict : Bool) (banks : List ℕ) (events : List (Event n)) (outcomes : List (Outcome n)) (row : ℕ) (verdict : Verdict) (text : List ℕ)
    → Some row ≡ found_in strict banks (rows_with events outcomes) → verdict ≡ No row Worn → SaysUnearned banks events outcomes row Worn text
    → (verdict ≡ judged strict banks (rows_with events outcomes) Yes) × SaysKept banks events outcomes verdict text
kept_row strict banks events outcomes row verdict text found is says = (is ∙ ap by_row found, subst (λ v. SaysKept banks events outcomes v text) (sym is) says)

pub told_kept : {n : ℕ} (rules bound : Rules) (banks first other : List ℕ) (events : List (Event n)) (outcomes : List (Outcome n)) (strict : Bool) (verdict : Verdict) (text : List ℕ)
    → rules ≡ bound → first ≡ banks → other ≡ banks → verdict_of rules first (rows_with events outcomes) ≡ Yes
    → (verdict ≡ judged strict other (rows_with events outcomes) Yes) × SaysKept other events outcomes verdict text → IsExplained bound banks events outcomes strict verdict text
told_kept rules bound banks first other events outcomes strict verdict text ruled begun are kept told =
    let mine = subst (λ (xs : List ℕ). (verdict ≡ judged strict xs (rows_with events outcomes) Yes) × SaysKept xs events outcomes verdict text) are told in
    record {
      checked = Yes;
      is = sym kept ∙ ap (λ r. verdict_of r first (rows_with events outcomes)) ruled ∙ ap (λ xs. verdict_of bound xs (rows_with events outcomes)) begun;
      judged_is = mine.0;
      says = mine.1;
    }

pub told_row : {n : ℕ} (rules bound : Rules) (banks first other : List ℕ) (events : List (Event n)) (outcomes : List (Outcome n)) (strict : Bool) (row : ℕ) (rule : Rule) (verdict : Verdict)
    (text : List ℕ) → rules ≡ bound → first ≡ banks → other ≡ banks → verdict_of rules first (rows_with events outcomes) ≡ No row rule
    → (verdict ≡ No row rule) × SaysRow rules other events outcomes row rule text → IsExplained bound banks events outcomes strict verdict text
told_row rules bound banks first other events outcomes strict row rule verdict text ruled begun are named told = record {
  checked = No row rule;
  is = sym named ∙ ap (λ r. verdict_of r first (rows_with events outcomes)) ruled ∙ ap (λ xs. verdict_of bound xs (rows_with events outcomes)) begun;
  judged_is = told.0;
  says = subst (λ (xs : List ℕ). SaysRow bound xs events outcomes row rule text) are (subst (λ r. SaysRow r other events outcomes row rule text) ruled told.1);
}
