-- The rows of a module's table as a part of the run has them.
use Rattle.std.proofs.Common.{◌≡◌, ℕ, ◌≤◌, Bool, true, false, List, [], ◌∷◌, map, drop, refl, sym, ap, subst, ◌∙◌, cond}
use Rattle.std.{specs.Prelude.{All}, proofs.lemmas.Bool.and_from, proofs.lemmas.List.Elements.{All-head, All-tail, All-nil, All-cons}}
use Rattle.masked_bytes.proofs.Truth.{and_first, and_second}
use Rattle.result_rows.specs.declared.Outcome.{Outcome}
use Rattle.row_rules.specs.{Queueing.has_room, Rows.each_row, Table.{is_of, of_bank}, declared.Asks.Asks, declared.Row.Row, declared.Rules.Rules}
use Rattle.right_runs.specs.Tables.{bank_table, finds_room_in, row_in}
use Rattle.module_laws.specs.{Asking.{Asked, row_with}, Serves.TicksFall}
use Rattle.parted_laws.specs.Parted.{AreRowsOf, RowTicksFall}

module _ {n : ℕ} where
  -- a tick that no row is above is above none of what was asked
  all_below : (tick : ℕ) (asked : List (Asked n)) (rows : List (Row n)) → AreRowsOf asked rows → All (λ q. q.tick ≤ tick) rows
      → All (λ b. b.tick ≤ tick) asked
  all_below tick [] [] are all = All-nil (λ (b : Asked n). b.tick ≤ tick)
  all_below tick [] (r ∷ rows) are all = absurd are
  all_below tick (a ∷ asked) [] are all = absurd are
  all_below tick (a ∷ asked) (r ∷ rows) are all =
      All-cons (λ (b : Asked n). b.tick ≤ tick) a asked
      (subst (λ (t : ℕ). t ≤ tick) (sym are.0) (All-head (λ (q : Row n). q.tick ≤ tick) r rows all))
      (all_below tick asked rows are.2 (All-tail (λ (q : Row n). q.tick ≤ tick) r rows all))

  -- where the ticks of the rows never fall, those of what was asked don't
  pub ticks_fall : (asked : List (Asked n)) (rows : List (Row n)) → AreRowsOf asked rows → RowTicksFall rows → TicksFall asked
  ticks_fall [] [] are falls = tt
  ticks_fall [] (r ∷ rows) are falls = absurd are
  ticks_fall (a ∷ asked) [] are falls = absurd are
  ticks_fall (a ∷ asked) (r ∷ rows) are falls = (
    subst (λ (t : ℕ). All (λ (b : Asked n). b.tick ≤ t) asked) (sym are.0) (all_below r.tick asked rows are.2 falls.0),
    ticks_fall asked rows are.2 falls.1,
  )

module _ {n : ℕ} (home number : ℕ → ℕ) (bank : ℕ) (outcome : ℕ → Outcome n) where
  -- two tables of a bank are the same without their last rows, where both or none are of the bank
  tables_rest : (a : Asked n) (asked : List (Asked n)) (r : Row n) (rows : List (Row n)) → a.asks ≡ r.asks
      → bank_table home number bank (r ∷ rows) ≡ bank_table home number bank (map (row_with outcome) (a ∷ asked))
      → bank_table home number bank rows ≡ bank_table home number bank (map (row_with outcome) asked)
  tables_rest a asked r rows same =
      by (is_of home bank r.asks) (is_of home bank a.asks) (ap (λ (asks : Asks n). is_of home bank asks) same)
    where
      table : List (Row n)
      table = of_bank home bank rows

      other : List (Row n)
      other = of_bank home bank (map (row_with outcome) asked)

      by : (own own' : Bool) → own' ≡ own
          → map (row_in home number) (cond own (r ∷ table) table) ≡ map (row_in home number) (cond own' (row_with outcome a ∷ other) other)
          → map (row_in home number) table ≡ map (row_in home number) other
      by true true is h = ap (λ (rs : List (Row n)). drop 1 rs) h
      by false false is h = h
      by true false is h = absurd (cc)
      by false true is h = absurd (cc)

  -- as each row comes the bank has room, where it has room as each comes in the part's table
  pub rooms : (rules : Rules) (asked : List (Asked n)) (rows after other : List (Row n)) → AreRowsOf asked rows
      → bank_table home number bank rows ≡ bank_table home number bank (map (row_with outcome) asked)
      → each_row (finds_room_in home number rules bank) (map (row_with outcome) asked) other ≡ true
      → each_row (finds_room_in home number rules bank) rows after ≡ true
  rooms rules [] [] after other are same h = refl
  rooms rules [] (r ∷ rows) after other are same h = absurd are
  rooms rules (a ∷ asked) [] after other are same h = absurd are
  rooms rules (a ∷ asked) (r ∷ rows) after other are same h =
      let rest = tables_rest a asked r rows are.1 same in
      and_from _ _
      (ap (λ (table : List (Row n)). has_room rules r.tick table) rest
      ∙ (ap (λ (tick : ℕ). has_room rules tick (bank_table home number bank (map (row_with outcome) asked))) (sym are.0) ∙ and_first _ _ h))
      (rooms rules asked rows (r ∷ after) (row_with outcome a ∷ other) are.2 rest
      (and_second (finds_room_in home number rules bank (map (row_with outcome) asked) (row_with outcome a) other) _ h))
