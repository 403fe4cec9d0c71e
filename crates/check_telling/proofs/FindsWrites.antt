-- What a write finds in its bank, told of a whole table.
use Rattle.std.proofs.Common.{◌≡◌, ℕ, suc, ◌+◌, ◌&&◌, ◌||◌, not, Bool, true, false, List, [], ◌∷◌, Option, Some, None, length, refl, sym, ap, ◌∙◌, cond, subst, arith}
use Rattle.std.{specs.List.{list_all, list_any}, specs.Prelude.{filter, nat_lt, reverse}, proofs.lemmas.List.length-reverse}
use Rattle.masked_bytes.proofs.Truth.{and_true}
use Rattle.result_rows.specs.declared.Outcome.{Outcome}
use Rattle.result_rows.specs.declared.Outcome.TheVariants as out
use Rattle.row_rules.specs.{Queueing.{is_refused, none_before}, Rows.{accepted_of, write_of}, Table.{is_of, of_bank}, Wearing.worn_row, declared.Row.Row, declared.Rules.Rules}
use Rattle.check_verdict.{specs.Judged.beside, specs.Verdicts.bank_in, proofs.Apart.all-reverse, proofs.Settles.filter-reverse}
use Rattle.check_telling.specs.{Standing.{first_at, mates_of, row_at, rows_of, AreNumbered}, Steps.{leave_of, leaves_later, is_stored_first, is_other_or_first, has_one}}
use Rattle.check_telling.specs.{WriteGrounds.{FindsWrite, IsWriteOfBank, TellsWrite}, declared.facts.RowAt.RowAt, declared.mates.Numbered.Numbered}
use Rattle.check_telling.specs.declared.writes.WriteGrounds.{WriteGrounds}

pub write_of_all : {n : ℕ} (rules : Rules) (banks : List ℕ) (tick line bank : ℕ) (before after : List (Row n)) (past later : List (Numbered n)) (g : WriteGrounds n)
    → bank ≡ bank_in banks line → rows_of past ≡ of_bank (bank_in banks) bank before → past ≡ mates_of (bank_in banks) bank 0 before
    → later ≡ mates_of (bank_in banks) bank (length before + 1) after
    → AreNumbered 0 before past → IsWriteOfBank rules tick line past later g → TellsWrite rules banks tick line before after g
write_of_all {n} rules banks tick line bank before after past later g at p e l numbered is =
    let earlier : reverse (rows_of past) ≡ beside banks line (reverse before)
    = ap reverse (p ∙ ap (λ b. of_bank (bank_in banks) b before) at) ∙ sym (filter-reverse (λ (r : Row n). is_of (bank_in banks) (bank_in banks line) r.asks) before) in
    let first : past ≡ mates_of (bank_in banks) (bank_in banks line) 0 before = e ∙ ap (λ b. mates_of (bank_in banks) b 0 before) at in
    let behind : later ≡ mates_of (bank_in banks) (bank_in banks line) (length before + 1) after = l ∙ ap (λ b. mates_of (bank_in banks) b (length before + 1) after) at in
    record {
      finds = subst (λ xs. FindsWrite rules tick line xs g) earlier is.finds;
      stand_numbers = is.stand_numbers 0 before numbered;
      before_is = is.before_is ∙ ap (first_at worn_row) first;
      behind_is = is.behind_is ∙ ap (first_at worn_row) behind;
      next_is = is.next_is ∙ ap (first_at (accepted_of line)) behind;
    }

abbrev pub is_some_at : Option RowAt → Bool
is_some_at None = false
is_some_at (Some one) = true

module _ {n : ℕ} where
  -- none is stored before one leaves, exactly where the first such is none
  none_of : (o : Outcome n) (told : List (Numbered n)) → none_before o (rows_of told) ≡ list_all (λ q. leaves_later (leave_of o) q.outcome) (rows_of told)
  none_of (out.Stored u place) told = refl
  none_of (out.Merged u) told = refl
  none_of out.Unset told = refl
  none_of (out.Queued u) told = refl
  none_of (out.Full u) told = refl
  none_of (out.Worn u) told = refl
  none_of (out.Read u place bytes) told = refl
  none_of (out.Forwarded u bytes) told = refl
  none_of (out.Busy u) told = refl
  none_of (out.Lost u) told = refl
  none_of (out.Cut u) told = refl

  first_none : (p : Row n → Bool) (told : List (Numbered n)) → is_some_at (first_at (λ q. not (p q)) told) ≡ not (list_all p (rows_of told))
  first_none p [] = refl
  first_none p (one ∷ told) = by (p one.row) (first_none p told)
    where
      by : (b : Bool) → is_some_at (first_at (λ q. not (p q)) told) ≡ not (list_all p (rows_of told))
          → is_some_at (cond (not b) (Some (row_at one)) (first_at (λ q. not (p q)) told)) ≡ not (b && list_all p (rows_of told))
      by true h = h
      by false h = refl

  none_stored : (o : Outcome n) (told : List (Numbered n)) → is_some_at (first_at (is_stored_first o) told) ≡ not (none_before o (rows_of told))
  none_stored o told = first_none (λ q. leaves_later (leave_of o) q.outcome) told ∙ ap not (sym (none_of o told))

  -- where none of these is a write of a line
  none_left : (line : ℕ) (rows : List (Row n)) → list_any (write_of line) rows ≡ false → filter (write_of line) rows ≡ []
  none_left line [] h = refl
  none_left line (q ∷ rows) h = step (write_of line q) (none_left line rows) h
    where
      step : (b : Bool) → (list_any (write_of line) rows ≡ false → filter (write_of line) rows ≡ []) → (b || list_any (write_of line) rows) ≡ false
          → cond b (q ∷ filter (write_of line) rows) (filter (write_of line) rows) ≡ []
      step true k h = absurd (cc)
      step false k h = k h

  all_others : (tick line : ℕ) (all rows : List (Row n)) → list_any (write_of line) rows ≡ false → list_all (is_other_or_first all tick line) rows ≡ true
  all_others tick line all [] h = refl
  all_others tick line all (q ∷ rows) h = step (write_of line q) (all_others tick line all rows) h
    where
      step : (b : Bool) → (list_any (write_of line) rows ≡ false → list_all (is_other_or_first all tick line) rows ≡ true) → (b || list_any (write_of line) rows) ≡ false
          → ((not b || (nat_lt q.tick tick && none_before q.outcome all)) && list_all (is_other_or_first all tick line) rows) ≡ true
      step true k h = absurd (cc)
      step false k h = k h

  two_of_line : (tick line : ℕ) (all : List (Row n)) (first : Row n) (rows : List (Row n)) → list_any (write_of line) rows ≡ true
      → is_refused tick all (first ∷ filter (write_of line) rows) ≡ false
  two_of_line tick line all first [] h = absurd (cc)
  two_of_line tick line all first (q ∷ rows) h = step (write_of line q) (two_of_line tick line all first rows) h
    where
      step : (b : Bool) → (list_any (write_of line) rows ≡ true → is_refused tick all (first ∷ filter (write_of line) rows) ≡ false) → (b || list_any (write_of line) rows) ≡ true
          → is_refused tick all (first ∷ cond b (q ∷ filter (write_of line) rows) (filter (write_of line) rows)) ≡ false
      step true k h = refl
      step false k h = k h

  with_first : (tick line : ℕ) (all : List (Row n)) (q : Row n) (rows : List (Row n)) (any : Bool) → list_any (write_of line) rows ≡ any
      → is_refused tick all (q ∷ filter (write_of line) rows)
      ≡ (not any && ((nat_lt q.tick tick && none_before q.outcome all) && list_all (is_other_or_first all tick line) rows))
  with_first tick line all q rows true is = two_of_line tick line all q rows is
  with_first tick line all q rows false is =
      ap (λ xs. is_refused tick all (q ∷ xs)) (none_left line rows is)
      ∙ sym (ap (λ b. (nat_lt q.tick tick && none_before q.outcome all) && b) (all_others tick line all rows is) ∙ and_true (nat_lt q.tick tick && none_before q.outcome all))

  -- of the writes of a line there is at most one, and that is in flight
  one_at_most : (tick line : ℕ) (all rows : List (Row n)) → is_refused tick all (filter (write_of line) rows) ≡ (has_one line rows && list_all (is_other_or_first all tick line) rows)
  one_at_most tick line all [] = refl
  one_at_most tick line all (q ∷ rows) = step (write_of line q) (one_at_most tick line all rows) (with_first tick line all q rows (list_any (write_of line) rows) refl)
    where
      step : (b : Bool) → is_refused tick all (filter (write_of line) rows) ≡ (has_one line rows && list_all (is_other_or_first all tick line) rows)
          → is_refused tick all (q ∷ filter (write_of line) rows)
          ≡ (not (list_any (write_of line) rows) && ((nat_lt q.tick tick && none_before q.outcome all) && list_all (is_other_or_first all tick line) rows))
          → is_refused tick all (cond b (q ∷ filter (write_of line) rows) (filter (write_of line) rows))
          ≡ (cond b (not (list_any (write_of line) rows)) (has_one line rows) && ((not b || (nat_lt q.tick tick && none_before q.outcome all)) && list_all (is_other_or_first all tick line) rows))
      step true h f = f
      step false h f = h

  pub alone_then : (tick line : ℕ) (rows : List (Row n)) (all : Bool) → has_one line rows ≡ true → all ≡ list_all (is_other_or_first rows tick line) rows
      → all ≡ is_refused tick rows (filter (write_of line) rows)
  alone_then tick line rows all h is = is ∙ ap (λ b. b && list_all (is_other_or_first rows tick line) rows) (sym h) ∙ sym (one_at_most tick line rows rows)

  pub alone_else : (tick line : ℕ) (rows : List (Row n)) → has_one line rows ≡ false → false ≡ is_refused tick rows (filter (write_of line) rows)
  alone_else tick line rows h = ap (λ b. b && list_all (is_other_or_first rows tick line) rows) (sym h) ∙ sym (one_at_most tick line rows rows)

  pub none_then : (o : Outcome n) (told : List (Numbered n)) (found : Option RowAt) → found ≡ first_at (is_stored_first o) told → found ≡ None → true ≡ none_before o (rows_of told)
  none_then o told found is none = turned (none_before o (rows_of told)) (sym (ap is_some_at (sym is ∙ none)) ∙ none_stored o told)
    where
      turned : (b : Bool) → false ≡ not b → true ≡ b
      turned true h = refl
      turned false h = absurd (cc)

  pub some_then : (o : Outcome n) (told : List (Numbered n)) (found : Option RowAt) (one : RowAt) → found ≡ first_at (is_stored_first o) told → found ≡ Some one
      → false ≡ none_before o (rows_of told)
  some_then o told found one is some = turned (none_before o (rows_of told)) (sym (ap is_some_at (sym is ∙ some)) ∙ none_stored o told)
    where
      turned : (b : Bool) → true ≡ not b → false ≡ b
      turned true h = absurd (cc)
      turned false h = refl

  -- in either order
  pub none_turned : (o : Outcome n) (rows : List (Row n)) → none_before o (reverse rows) ≡ none_before o rows
  none_turned (out.Stored u place) rows = all-reverse _ rows
  none_turned (out.Merged u) rows = all-reverse _ rows
  none_turned out.Unset rows = all-reverse _ rows
  none_turned (out.Queued u) rows = all-reverse _ rows
  none_turned (out.Full u) rows = all-reverse _ rows
  none_turned (out.Worn u) rows = all-reverse _ rows
  none_turned (out.Read u place bytes) rows = all-reverse _ rows
  none_turned (out.Forwarded u bytes) rows = all-reverse _ rows
  none_turned (out.Busy u) rows = all-reverse _ rows
  none_turned (out.Lost u) rows = all-reverse _ rows
  none_turned (out.Cut u) rows = all-reverse _ rows

  refused_turned : (tick : ℕ) (all found : List (Row n)) → is_refused tick (reverse all) (reverse found) ≡ is_refused tick all found
  refused_turned tick all [] = refl
  refused_turned tick all (q ∷ []) = ap (λ b. nat_lt q.tick tick && b) (none_turned q.outcome all)
  refused_turned tick all (q ∷ another ∷ rest) = long (reverse (q ∷ another ∷ rest)) (length-reverse (q ∷ another ∷ rest))
    where
      long : (xs : List (Row n)) → length xs ≡ suc (suc (length rest)) → is_refused tick (reverse all) xs ≡ false
      long [] h = absurd (omega (arith, h))
      long (x ∷ []) h = absurd (omega (arith, h))
      long (x ∷ y ∷ xs) h = refl

  pub alone_turned : (tick line : ℕ) (ps : List (Row n)) → is_refused tick (reverse ps) (filter (write_of line) (reverse ps)) ≡ is_refused tick ps (filter (write_of line) ps)
  alone_turned tick line ps = ap (is_refused tick (reverse ps)) (filter-reverse (write_of line) ps) ∙ refused_turned tick ps (filter (write_of line) ps)
