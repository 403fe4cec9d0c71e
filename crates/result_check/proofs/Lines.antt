-- What is kept of a line, behind a row.
use Rattle.std.proofs.Common.{◌≡◌, ℕ, ◌<◌, ◌==◌, ◌&&◌, ◌⊎◌, inl, inr, Bool, true, false, List, ◌∷◌, length, Some, refl, sym, ap, ◌∙◌, cond, subst, arith}
use Rattle.std.{specs.Prelude.slice_get, proofs.lemmas.Bool.{cases_eq, eq-eqb, ne_eqb}}
use Rattle.masked_bytes.{specs.Masked.{joined, laid}, proofs.Truth.and_false}
use Rattle.result_rows.specs.declared.Outcome.{Outcome}
use Rattle.result_rows.specs.declared.Outcome.TheVariants as out
use Rattle.row_rules.specs.{Answers.accepts, Rows.accepted_of, Table.is_of, declared.Row.Row}
use Rattle.check_verdict.specs.{Covering.{KeptLine, unclosed_behind, runs_behind}, Judged.{beside, a_write}, Verdicts.bank_in, declared.lines.CheckedLine.CheckedLine, declared.lines.Run.Run}
use Rattle.check_verdict.proofs.Covering.{line_stays_law, line_joins_law}
use Rattle.result_check.{specs.Keeping.KnowsLines, specs.Lines.{IsLineBehind, LinePasses}, specs.Outcomes.stored_at, proofs.Lists.{get_set_same, get_set_other, some_same}}

module _ {n : ℕ} (tick line : ℕ) (rows : List (Row n)) where
  -- the same line
  same_line : (a b : List ℕ) (c d : List Bool) (e f : List (Run n)) → a ≡ b → c ≡ d → e ≡ f → KeptLine n tick line rows a c e → KeptLine n tick line rows b d f
  same_line a b c d e f p q r k =
      subst (λ x. KeptLine n tick line rows b d x) r (subst (λ x. KeptLine n tick line rows b x e) q (subst (λ x. KeptLine n tick line rows x c e) p k))

module _ {n : ℕ} (tick line : ℕ) (bytes : List ℕ) (given : List Bool) (rows : List (Row n)) (old : CheckedLine n) (k : KeptLine n tick line rows old.newest old.unclosed old.runs.items) where
  -- an accepted write
  joins : (o : Outcome n) → accepts o ≡ true
      → KeptLine n tick line (a_write tick line bytes given o ∷ rows) (laid bytes given old.newest) (unclosed_behind n (stored_at o) given old.unclosed)
      (runs_behind tick (stored_at o) (joined given old.unclosed) old.runs.items)
  joins (out.Stored u place) is =
      (line_joins_law n tick line (a_write tick line bytes given (out.Stored u place)) rows old.newest old.unclosed old.runs.items k (own (out.Stored u place) is)).0 u place
      (record { end = u; given = joined given old.unclosed }) refl refl refl
    where
      own : (o : Outcome n) → accepts o ≡ true → accepted_of line (a_write tick line bytes given o) ≡ true
      own o is = ap (λ b. b && accepts o) (eq-eqb line line refl) ∙ is
  joins (out.Merged u) is =
      (line_joins_law n tick line (a_write tick line bytes given (out.Merged u)) rows old.newest old.unclosed old.runs.items k (ap (λ b. b && true) (eq-eqb line line refl))).1 (λ v place e. absurd (cc))
  joins (out.Queued u) is =
      (line_joins_law n tick line (a_write tick line bytes given (out.Queued u)) rows old.newest old.unclosed old.runs.items k (ap (λ b. b && true) (eq-eqb line line refl))).1 (λ v place e. absurd (cc))
  joins _ is = absurd (cc)

  own_line : (o : Outcome n) (new : CheckedLine n) → IsLineBehind n tick bytes given o old new
      → KeptLine n tick line (a_write tick line bytes given o ∷ rows) new.newest new.unclosed new.runs.items
  own_line o new behind = by (accepts o) refl
    where
      by : (b : Bool) → accepts o ≡ b → KeptLine n tick line (a_write tick line bytes given o ∷ rows) new.newest new.unclosed new.runs.items
      by true is =
          same_line tick line (a_write tick line bytes given o ∷ rows) _ _ _ _ _ _ (sym (behind.newest is)) (sym (behind.unclosed is)) (sym (behind.runs is)) (joins o is)
      by false is =
          subst (λ (ln : CheckedLine n). KeptLine n tick line (a_write tick line bytes given o ∷ rows) ln.newest ln.unclosed ln.runs.items) (sym (behind.refused is))
          (line_stays_law n tick tick line (a_write tick line bytes given o) rows old.newest old.unclosed old.runs.items k (omega arith) (ap (λ b. (line == line) && b) is ∙ and_false (line == line)))

-- a line behind a row that isn't an accepted write of it
line_beside : {n : ℕ} (banks : List ℕ) (tick l : ℕ) (r : Row n) (before : List (Row n)) (ln : CheckedLine n) → accepted_of l r ≡ false
    → KeptLine n tick l (beside banks l before) ln.newest ln.unclosed ln.runs.items → KeptLine n tick l (beside banks l (r ∷ before)) ln.newest ln.unclosed ln.runs.items
line_beside {n} banks tick l r before ln off k = by (is_of (bank_in banks) (bank_in banks l) r.asks)
  where
    by : (b : Bool) → KeptLine n tick l (cond b (r ∷ beside banks l before) (beside banks l before)) ln.newest ln.unclosed ln.runs.items
    by true = line_stays_law n tick tick l r (beside banks l before) ln.newest ln.unclosed ln.runs.items k (omega arith) off
    by false = k

-- no line changes behind a row that is no write
pub lines_stay : {n : ℕ} (banks : List ℕ) (tick : ℕ) (r : Row n) (before : List (Row n)) (lines new : List (CheckedLine n)) → ((l : ℕ) → accepted_of l r ≡ false) → new ≡ lines
    → KnowsLines banks tick lines before → KnowsLines banks tick new (r ∷ before)
lines_stay banks tick r before lines new off same k = λ l ln is. line_beside banks tick l r before ln (off l) (k l ln (ap (λ xs. slice_get xs l) (sym same) ∙ is))

-- a line changes behind a write of it
pub lines_pass : {n : ℕ} (banks : List ℕ) (tick line : ℕ) (bytes : List ℕ) (given : List Bool) (o : Outcome n) (before : List (Row n)) (lines new : List (CheckedLine n)) (old : CheckedLine n)
    → line < length lines → slice_get lines line ≡ Some old → LinePasses n tick bytes given o line lines old new
    → KnowsLines banks tick lines before → KnowsLines banks tick new (a_write tick line bytes given o ∷ before)
lines_pass {n} banks tick line bytes given o before lines new old lt there passes k = λ l ln is. by l ln is (cases_eq l line)
  where
    r : Row n
    r = a_write tick line bytes given o

    by : (l : ℕ) (ln : CheckedLine n) → slice_get new l ≡ Some ln → (l ≡ line) ⊎ (l ≡ line → ⊥) → KeptLine n tick l (beside banks l (r ∷ before)) ln.newest ln.unclosed ln.runs.items
    by l ln is (inl e) =
        let same : passes.new ≡ ln = some_same passes.new ln (sym (ap (λ xs. slice_get xs line) passes.all ∙ get_set_same lines line passes.new lt) ∙ ap (slice_get new) (sym e) ∙ is) in
        subst (λ j. KeptLine n tick j (beside banks j (r ∷ before)) ln.newest ln.unclosed ln.runs.items) (sym e)
        (subst (λ (x : CheckedLine n). KeptLine n tick line (beside banks line (r ∷ before)) x.newest x.unclosed x.runs.items) same
        (subst (λ rows. KeptLine n tick line rows passes.new.newest passes.new.unclosed passes.new.runs.items) (sym front)
        (own_line tick line bytes given (beside banks line before) old (k line old there) o passes.new passes.own)))
      where
        front : beside banks line (r ∷ before) ≡ r ∷ beside banks line before
        front = ap (λ b. cond b (r ∷ beside banks line before) (beside banks line before)) (eq-eqb (bank_in banks line) (bank_in banks line) refl)
    by l ln is (inr off) =
        line_beside banks tick l r before ln (ap (λ b. b && accepts o) (ne_eqb line l (λ e. off (sym e))))
        (k l ln (sym (get_set_other lines line l passes.new off) ∙ ap (λ xs. slice_get xs l) (sym passes.all) ∙ is))
