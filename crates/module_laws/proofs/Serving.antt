-- A bank's newest bytes of a line are the module's, so an answered read of the module is served as its bank serves it.
use Rattle.std.proofs.Common.{◌≡◌, ℕ, ◌<◌, ◌==◌, ◌&&◌, Bool, true, false, List, [], ◌∷◌, map, refl, sym, ap, ◌∙◌, subst, cond, eqb-true, eq-eqb}
use Rattle.std.{specs.Prelude.All, proofs.lemmas.Bool.{ne_eqb, and_from}, proofs.lemmas.List.Elements.{All-head, All-tail}}
use Rattle.masked_bytes.{specs.Masked.laid, proofs.Truth.{and_first, and_second}}
use Rattle.result_rows.specs.declared.Outcome.{Outcome}
use Rattle.result_rows.specs.declared.Outcome.TheVariants as out
use Rattle.row_rules.specs.{Answers.accepts, Lines.IsOfLines, Rows.{each_row, newest, asks_cut}, Serving.{is_served, may_have, owed}, Table.{is_of, of_bank}, declared.Asks.Asks}
use Rattle.row_rules.specs.{declared.Asks.TheVariants.{Reads, Writes, Cuts}, declared.Row.Row}
use Rattle.right_runs.specs.Tables.{row_in, bank_table, asks_in}
use Rattle.module_laws.specs.Serves.{AreLines, ServedByBanksLaw}

module _ {n : ℕ} where
  -- what a row may have doesn't go by the number of its line
  may_read : (tick line other : ℕ) (newest : List ℕ) (o : Outcome n) → may_have tick (Reads other) newest o ≡ may_have tick (Reads line) newest o
  may_read tick line other newest out.Unset = refl
  may_read tick line other newest _ = refl

  may_write : (tick line other : ℕ) (bytes : List ℕ) (given : List Bool) (newest : List ℕ) (o : Outcome n)
      → may_have tick (Writes other bytes given) newest o ≡ may_have tick (Writes line bytes given) newest o
  may_write tick line other bytes given newest out.Unset = refl
  may_write tick line other bytes given newest _ = refl

module _ {n : ℕ} (bank_of line_in : ℕ → ℕ) where
  -- in its bank's words a row is a cut where it is one
  pub cuts-named : (asks : Asks n) → asks_cut (asks_in bank_of line_in asks) ≡ asks_cut asks
  cuts-named (Reads line) = refl
  cuts-named (Writes line bytes given) = refl
  cuts-named Cuts = refl

module _ (banks lines : ℕ) (bank_of line_in : ℕ → ℕ) (known : AreLines banks lines bank_of line_in) where
  -- two lines of one bank are one exactly where their numbers there are
  pub same_line : (at line : ℕ) → at < lines → line < lines → bank_of at ≡ bank_of line
      → (line_in at == line_in line) ≡ (at == line)
  same_line at line a l same = by (at == line) refl
    where
      by : (b : Bool) → (at == line) ≡ b → (line_in at == line_in line) ≡ b
      by true is = eq-eqb (line_in at) (line_in line) (ap line_in (eqb-true at line is))
      by false is =
          ne_eqb (line_in at) (line_in line)
          (λ e. let yes : (at == line) ≡ true = eq-eqb at line (known.apart at line a l same e) in absurd (cc))

module _ {n : ℕ} (banks lines : ℕ) (bank_of line_in : ℕ → ℕ) (known : AreLines banks lines bank_of line_in) where
  abbrev IsOf : Row n → Type 0
  IsOf r = IsOfLines lines r.asks

  module _ (line : ℕ) (exists : line < lines) (rows : List (Row n)) where
    abbrev kept : List (Row n)
    kept = bank_table bank_of line_in (bank_of line) rows

    abbrev rest : List (Row n)
    rest = of_bank bank_of (bank_of line) rows

    abbrev asking : ℕ → Outcome n → Asks n → Row n
    asking tick outcome asks = record { tick = tick; asks = asks; outcome = outcome }

    -- of a read the newest bytes stay as they are
    newest_read : (tick at : ℕ) (outcome : Outcome n) (own : Bool) → newest kept (line_in line) ≡ newest rows line
        → newest (map (row_in bank_of line_in) (cond own (asking tick outcome (Reads at) ∷ rest) rest)) (line_in line) ≡ newest rows line
    newest_read tick at outcome true ih = ih
    newest_read tick at outcome false ih = ih

    newest_written : (tick at : ℕ) (bytes : List ℕ) (given : List Bool) (outcome : Outcome n) → at < lines → newest kept (line_in line) ≡ newest rows line
        → (own : Bool) → (bank_of at == bank_of line) ≡ own
        → newest (map (row_in bank_of line_in) (cond own (asking tick outcome (Writes at bytes given) ∷ rest) rest)) (line_in line)
        ≡ cond ((at == line) && accepts outcome) (laid bytes given (newest rows line)) (newest rows line)
    newest_written tick at bytes given outcome a ih true is =
        ap (λ (b : Bool). cond (b && accepts outcome) (laid bytes given (newest kept (line_in line))) (newest kept (line_in line)))
        (same_line banks lines bank_of line_in known at line a exists (eqb-true (bank_of at) (bank_of line) is))
        ∙ ap (λ (u : List ℕ). cond ((at == line) && accepts outcome) (laid bytes given u) u) ih
    newest_written tick at bytes given outcome a ih false is =
        ih ∙ sym (ap (λ (b : Bool). cond (b && accepts outcome) (laid bytes given (newest rows line)) (newest rows line)) other)
      where
        other : (at == line) ≡ false
        other = ne_eqb at line (λ e. let yes : (bank_of at == bank_of line) ≡ true = eq-eqb (bank_of at) (bank_of line) (ap bank_of e) in absurd (cc))

    newest_more : (tick : ℕ) (outcome : Outcome n) (asks : Asks n) → IsOfLines lines asks → newest kept (line_in line) ≡ newest rows line
        → newest (bank_table bank_of line_in (bank_of line) (asking tick outcome asks ∷ rows)) (line_in line) ≡ newest (asking tick outcome asks ∷ rows) line
    newest_more tick outcome (Reads at) of ih = newest_read tick at outcome (bank_of at == bank_of line) ih
    newest_more tick outcome (Writes at bytes given) of ih = newest_written tick at bytes given outcome of ih (bank_of at == bank_of line) refl
    newest_more tick outcome Cuts of ih = ih

  -- the newest bytes of a line, by the rows of its bank alone
  pub newest_in_bank : (line : ℕ) → line < lines → (rows : List (Row n)) → All IsOf rows
      → newest (bank_table bank_of line_in (bank_of line) rows) (line_in line) ≡ newest rows line
  newest_in_bank line exists [] all = refl
  newest_in_bank line exists (r ∷ rows) all =
      newest_more line exists rows r.tick r.outcome r.asks (All-head IsOf r rows all) (newest_in_bank line exists rows (All-tail IsOf r rows all))

  -- that each row is served looks at no later row
  served_before : (rows after other : List (Row n)) → each_row is_served rows after ≡ true → each_row is_served rows other ≡ true
  served_before [] after other h = refl
  served_before (r ∷ rows) after other h =
      and_from _ _ (and_first _ _ h) (served_before rows (r ∷ after) (r ∷ other) (and_second (is_served rows r after) _ h))

  -- a bank's table without its last row is served too
  served_rest : (bank : ℕ) (r : Row n) (rows : List (Row n)) (own : Bool)
      → each_row is_served (map (row_in bank_of line_in) (cond own (r ∷ of_bank bank_of bank rows) (of_bank bank_of bank rows))) [] ≡ true
      → each_row is_served (bank_table bank_of line_in bank rows) [] ≡ true
  served_rest bank r rows true h =
      served_before (bank_table bank_of line_in bank rows) (row_in bank_of line_in r ∷ []) []
      (and_second (is_served (bank_table bank_of line_in bank rows) (row_in bank_of line_in r) []) _ h)
  served_rest bank r rows false h = h

  -- the last row of a module's table is served as its bank serves it
  served_row : (tick : ℕ) (outcome : Outcome n) (asks : Asks n) (rows : List (Row n)) → 0 < banks → All IsOf rows → IsOfLines lines asks
      → ((bank : ℕ) → bank < banks → each_row is_served (bank_table bank_of line_in bank (record { tick = tick; asks = asks; outcome = outcome } ∷ rows)) [] ≡ true)
      → may_have tick asks (owed rows asks) outcome ≡ true
  served_row tick outcome (Reads line) rows some all of h =
      by (eq-eqb (bank_of line) (bank_of line) refl) (h (bank_of line) (known.exists line of))
    where
      row : Row n
      row = record { tick = tick; asks = Reads line; outcome = outcome }

      by : (bank_of line == bank_of line) ≡ true → each_row is_served (bank_table bank_of line_in (bank_of line) (row ∷ rows)) [] ≡ true
          → may_have tick (Reads line) (newest rows line) outcome ≡ true
      by own h =
          ap (λ (u : List ℕ). may_have tick (Reads line) u outcome) (sym (newest_in_bank line of rows all))
          ∙ (sym (may_read tick line (line_in line) (newest (bank_table bank_of line_in (bank_of line) rows) (line_in line)) outcome)
          ∙ and_first _ _
          (subst (λ (b : Bool). each_row is_served (map (row_in bank_of line_in) (cond b (row ∷ of_bank bank_of (bank_of line) rows) (of_bank bank_of (bank_of line) rows))) [] ≡ true) own h))
  served_row tick outcome (Writes line bytes given) rows some all of h =
      by (eq-eqb (bank_of line) (bank_of line) refl) (h (bank_of line) (known.exists line of))
    where
      row : Row n
      row = record { tick = tick; asks = Writes line bytes given; outcome = outcome }

      by : (bank_of line == bank_of line) ≡ true → each_row is_served (bank_table bank_of line_in (bank_of line) (row ∷ rows)) [] ≡ true
          → may_have tick (Writes line bytes given) [] outcome ≡ true
      by own h =
          sym (may_write tick line (line_in line) bytes given [] outcome)
          ∙ and_first _ _
          (subst (λ (b : Bool). each_row is_served (map (row_in bank_of line_in) (cond b (row ∷ of_bank bank_of (bank_of line) rows) (of_bank bank_of (bank_of line) rows))) [] ≡ true) own h)
  served_row tick outcome Cuts rows some all of h = and_first _ _ (h 0 some)

  pub served_by_banks : (rows : List (Row n)) → 0 < banks → All IsOf rows
      → ((bank : ℕ) → bank < banks → each_row is_served (bank_table bank_of line_in bank rows) [] ≡ true) → each_row is_served rows [] ≡ true
  served_by_banks [] some all h = refl
  served_by_banks (r ∷ rows) some all h =
      and_from _ _ (served_row r.tick r.outcome r.asks rows some (All-tail IsOf r rows all) (All-head IsOf r rows all) h)
      (served_before rows [] (r ∷ [])
      (served_by_banks rows some (All-tail IsOf r rows all) (λ bank few. served_rest bank r rows (is_of bank_of bank r.asks) (h bank few))))

pub served_by_banks_law : ServedByBanksLaw
served_by_banks_law n banks lines bank_of line_in rows known some all h = served_by_banks banks lines bank_of line_in known rows some all h
