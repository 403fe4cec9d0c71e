-- What the rows behind each row bring.
use Rattle.std.proofs.Common.{◌≡◌, ℕ, suc, ◌-◌, ◌<◌, ◌≤◌, ◌==◌, ◌&&◌, ◌⊎◌, inl, inr, Bool, true, false, List, [], ◌∷◌, ◌++◌, length, drop, replicate, Option, Some, None, refl, sym, ap, ◌∙◌, cond, subst, arith}
use Rattle.std.{specs.Prelude.{slice_get, slice_set, min}, proofs.Math.ListN.length-set, proofs.lemmas.Bool.{eq-eqb, eqb-true, ne_eqb, cases_eq, and_right}}
use Rattle.std.proofs.{lemmas.List.{length-replicate, get_or-replicate}, lemmas.Option.{slice_get_within, get_or_from_slice_get}}
use Rattle.result_check.{specs.Coming.{IsOutlook, sooner_of, coming_of, coming_at}, specs.Finding.{line_asked, line_written}, proofs.Finding.none_left}
use Rattle.result_check.proofs.Lists.{get_set_same, get_set_other, some_same}
use Rattle.result_rows.specs.declared.Outcome.{Outcome}
use Rattle.result_rows.specs.declared.Outcome.TheVariants as out
use Rattle.row_rules.specs.{Answers.{accepts, is_worn}, Lines.IsOfLines, Rows.{asks_write_of, asks_write, accepted_of}, Table.{is_of, of_bank}, Wearing.worn_row}
use Rattle.row_rules.specs.{declared.Asks.Asks, declared.Asks.TheVariants.{Reads, Writes, Cuts}, declared.Row.Row}
use Rattle.check_verdict.specs.{Covering.{sooner, soonest}, Judged.beside, QueueLaws.next_accepted, RowVerdicts.coming_to, Verdicts.bank_in, Worn.first_worn}
use Rattle.check_verdict.specs.declared.known.Coming.{Coming}

module _ {n : ℕ} (banks : List ℕ) (rows : List (Row n)) where
  abbrev Next : List (Row n) → List (Option ℕ) → Type 0
  Next rs next = (line : ℕ) (found : Option ℕ) → slice_get next line ≡ Some found → found ≡ next_accepted line rs

  abbrev Soonest : List (Row n) → List (Option ℕ) → Type 0
  Soonest rs soon = (line : ℕ) (found : Option ℕ) → slice_get soon line ≡ Some found → found ≡ soonest line rs

  abbrev FirstWorn : List (Row n) → List (Option ℕ) → Type 0
  FirstWorn rs worn = (bank : ℕ) (found : Option ℕ) → slice_get worn bank ≡ Some found → found ≡ first_worn (of_bank (bank_in banks) bank rs)

  module _ (tick : ℕ) (asks : Asks n) (outcome : Outcome n) where
    abbrev r : Row n
    r = record { tick = tick; asks = asks; outcome = outcome }

    -- a row that is not an accepted write
    next_same : accepts outcome ≡ false → (next : List (Option ℕ)) → Next rows next → Next (r ∷ rows) next
    next_same fails next h line found is = h line found is ∙ sym (ap (λ b. cond b (Some tick) (next_accepted line rows)) (and_right (asks_write_of line asks) (accepts outcome) fails))

    soonest_same : ((line : ℕ) (found : Option ℕ) → sooner line r outcome found ≡ found) → (soon : List (Option ℕ)) → Soonest rows soon → Soonest (r ∷ rows) soon
    soonest_same fails soon h line found is = h line found is ∙ sym (fails line (soonest line rows))

    worn_same : worn_row r ≡ false → (worn : List (Option ℕ)) → FirstWorn rows worn → FirstWorn (r ∷ rows) worn
    worn_same fails worn h bank found is = h bank found is ∙ sym (by (is_of (bank_in banks) bank asks))
      where
        by : (b : Bool) → first_worn (cond b (r ∷ of_bank (bank_in banks) bank rows) (of_bank (bank_in banks) bank rows)) ≡ first_worn (of_bank (bank_in banks) bank rows)
        by true = ap (λ c. cond c (Some tick) (first_worn (of_bank (bank_in banks) bank rows))) fails
        by false = refl

    -- a write of a line
    module _ (own : ℕ) (bytes : List ℕ) (given : List Bool) (is_write : asks ≡ Writes own bytes given) where
      next_set : accepts outcome ≡ true → (next : List (Option ℕ)) → own < length next → Next rows next → Next (r ∷ rows) (slice_set next own (Some tick))
      next_set holds next lt h line found is = by (cases_eq line own)
        where
          by : (line ≡ own) ⊎ (line ≡ own → ⊥) → found ≡ next_accepted line (r ∷ rows)
          by (inl e) =
              some_same found (Some tick) (sym is ∙ ap (slice_get (slice_set next own (Some tick))) e ∙ get_set_same next own (Some tick) lt)
              ∙ sym (ap (λ b. cond b (Some tick) (next_accepted line rows)) (ap (λ a. asks_write_of line a && accepts outcome) is_write ∙ ap (λ b. b && accepts outcome) (eq-eqb own line (sym e)) ∙ holds))
          by (inr off) =
              h line found (sym (get_set_other next own line (Some tick) off) ∙ is)
              ∙ sym (ap (λ b. cond b (Some tick) (next_accepted line rows)) (ap (λ a. asks_write_of line a && accepts outcome) is_write ∙ ap (λ b. b && accepts outcome) (ne_eqb own line (λ e. off (sym e)))))

      soonest_set : (u place : ℕ) → outcome ≡ out.Stored u place → (soon : List (Option ℕ)) (old : Option ℕ) → slice_get soon own ≡ Some old → own < length soon → Soonest rows soon
          → Soonest (r ∷ rows) (slice_set soon own (sooner_of u old))
      soonest_set u place stored soon old there lt h line found is = by (cases_eq line own)
        where
          at_own : (b : Bool) → asks_write_of line asks ≡ b → (some : Option ℕ) → b ≡ true → sooner line r (out.Stored u place) some ≡ sooner_of u some
          at_own b same None holds = ap (λ c. cond c (Some u) None) (same ∙ holds)
          at_own b same (Some v) holds = ap (λ c. cond c (Some (min u v)) (Some v)) (same ∙ holds)

          off_own : (b : Bool) → asks_write_of line asks ≡ b → (some : Option ℕ) → b ≡ false → sooner line r (out.Stored u place) some ≡ some
          off_own b same None fails = ap (λ c. cond c (Some u) None) (same ∙ fails)
          off_own b same (Some v) fails = ap (λ c. cond c (Some (min u v)) (Some v)) (same ∙ fails)

          by : (line ≡ own) ⊎ (line ≡ own → ⊥) → found ≡ soonest line (r ∷ rows)
          by (inl e) =
              some_same found (sooner_of u old) (sym is ∙ ap (slice_get (slice_set soon own (sooner_of u old))) e ∙ get_set_same soon own (sooner_of u old) lt)
              ∙ ap (sooner_of u) (h line old (ap (slice_get soon) e ∙ there))
              ∙ sym (ap (λ o. sooner line r o (soonest line rows)) stored ∙ at_own (own == line) (ap (asks_write_of line) is_write) (soonest line rows) (eq-eqb own line (sym e)))
          by (inr off) =
              h line found (sym (get_set_other soon own line (sooner_of u old) off) ∙ is)
              ∙ sym (ap (λ o. sooner line r o (soonest line rows)) stored ∙ off_own (own == line) (ap (asks_write_of line) is_write) (soonest line rows) (ne_eqb own line (λ e. off (sym e))))

      worn_set : is_worn outcome ≡ true → (worn : List (Option ℕ)) (bank : ℕ) → bank ≡ bank_in banks own → bank < length worn → FirstWorn rows worn
          → FirstWorn (r ∷ rows) (slice_set worn bank (Some tick))
      worn_set holds worn bank here lt h other found is = by (cases_eq other bank)
        where
          worn_one : worn_row r ≡ true
          worn_one = ap (λ a. asks_write a && is_worn outcome) is_write ∙ holds

          by : (other ≡ bank) ⊎ (other ≡ bank → ⊥) → found ≡ first_worn (of_bank (bank_in banks) other (r ∷ rows))
          by (inl e) =
              some_same found (Some tick) (sym is ∙ ap (slice_get (slice_set worn bank (Some tick))) e ∙ get_set_same worn bank (Some tick) lt)
              ∙ sym (ap (λ b. first_worn (cond b (r ∷ of_bank (bank_in banks) other rows) (of_bank (bank_in banks) other rows))) (ap (is_of (bank_in banks) other) is_write ∙ eq-eqb (bank_in banks own) other (sym here ∙ sym e))
              ∙ ap (λ c. cond c (Some tick) (first_worn (of_bank (bank_in banks) other rows))) worn_one)
          by (inr off) =
              h other found (sym (get_set_other worn bank other (Some tick) off) ∙ is)
              ∙ sym (ap (λ b. first_worn (cond b (r ∷ of_bank (bank_in banks) other rows) (of_bank (bank_in banks) other rows))) (ap (is_of (bank_in banks) other) is_write ∙ ne_eqb (bank_in banks own) other (λ e. off (sym e ∙ sym here))))

    -- a row that is not a write
    module _ (no_write : asks_write asks ≡ false) where
      none_of : (a : Asks n) → asks_write a ≡ false → (line : ℕ) → asks_write_of line a ≡ false
      none_of (Reads at) fails line = refl
      none_of (Writes at bytes given) fails line = absurd (cc)
      none_of Cuts fails line = refl

      not_sooner : (o : Outcome n) (line : ℕ) (found : Option ℕ) → sooner line r o found ≡ found
      not_sooner (out.Stored u place) line None = ap (λ b. cond b (Some u) None) (none_of asks no_write line)
      not_sooner (out.Stored u place) line (Some v) = ap (λ b. cond b (Some (min u v)) (Some v)) (none_of asks no_write line)
      not_sooner _ line found = refl

      pub outlook_other : (next soon worn : List (Option ℕ)) → IsOutlook banks rows next soon worn → IsOutlook banks (r ∷ rows) next soon worn
      outlook_other next soon worn h = record {
        next_is = λ line found is. h.next_is line found is ∙ sym (ap (λ b. cond (b && accepts outcome) (Some tick) (next_accepted line rows)) (none_of asks no_write line));
        soonest_is = soonest_same (not_sooner outcome) soon h.soonest_is;
        worn_is = worn_same (ap (λ b. b && is_worn outcome) no_write) worn h.worn_is;
        next_size = h.next_size;
        soonest_size = h.soonest_size;
        worn_size = h.worn_size;
      }

-- a write of a line, by its outcome
module _ {n : ℕ} (banks : List ℕ) (rows : List (Row n)) (tick : ℕ) (asks : Asks n) (own : ℕ) (bytes : List ℕ) (given : List Bool) (is_write : asks ≡ Writes own bytes given)
    (next soon worn : List (Option ℕ)) (h : IsOutlook banks rows next soon worn) (lt : own < length banks) where
  pub outlook_stored : (u place : ℕ) (old : Option ℕ) → slice_get soon own ≡ Some old
      → IsOutlook banks (record { tick = tick; asks = asks; outcome = out.Stored u place } ∷ rows) (slice_set next own (Some tick)) (slice_set soon own (sooner_of u old)) worn
  outlook_stored u place old there = let a = h.next_size in let b = h.soonest_size in record {
    next_is = next_set banks rows tick asks (out.Stored u place) own bytes given is_write refl next (omega (arith, a, lt)) h.next_is;
    soonest_is = soonest_set banks rows tick asks (out.Stored u place) own bytes given is_write u place refl soon old there (omega (arith, b, lt)) h.soonest_is;
    worn_is = worn_same banks rows tick asks (out.Stored u place) (ap (λ a. asks_write a && false) is_write) worn h.worn_is;
    next_size = length-set next own (Some tick) ∙ a;
    soonest_size = length-set soon own (sooner_of u old) ∙ b;
    worn_size = h.worn_size;
  }

  pub outlook_accepted : (outcome : Outcome n) → accepts outcome ≡ true → is_worn outcome ≡ false → ((line : ℕ) (found : Option ℕ) → sooner line (record { tick = tick; asks = asks; outcome = outcome }) outcome found ≡ found)
      → IsOutlook banks (record { tick = tick; asks = asks; outcome = outcome } ∷ rows) (slice_set next own (Some tick)) soon worn
  outlook_accepted outcome holds fails same = let a = h.next_size in record {
    next_is = next_set banks rows tick asks outcome own bytes given is_write holds next (omega (arith, a, lt)) h.next_is;
    soonest_is = soonest_same banks rows tick asks outcome same soon h.soonest_is;
    worn_is = worn_same banks rows tick asks outcome (ap (λ a. asks_write a && is_worn outcome) is_write ∙ fails) worn h.worn_is;
    next_size = length-set next own (Some tick) ∙ a;
    soonest_size = h.soonest_size;
    worn_size = h.worn_size;
  }

  pub outlook_worn : (u bank : ℕ) → bank ≡ bank_in banks own → bank < 256
      → IsOutlook banks (record { tick = tick; asks = asks; outcome = out.Worn u } ∷ rows) next soon (slice_set worn bank (Some tick))
  outlook_worn u bank here below = let c = h.worn_size in record {
    next_is = next_same banks rows tick asks (out.Worn u) refl next h.next_is;
    soonest_is = soonest_same banks rows tick asks (out.Worn u) (λ line found. refl) soon h.soonest_is;
    worn_is = worn_set banks rows tick asks (out.Worn u) own bytes given is_write refl worn bank here (omega (arith, c, below)) h.worn_is;
    next_size = h.next_size;
    soonest_size = h.soonest_size;
    worn_size = length-set worn bank (Some tick) ∙ c;
  }

  -- it is refused in another way, or has another operation's outcome
  pub outlook_refused : (outcome : Outcome n) → accepts outcome ≡ false → is_worn outcome ≡ false → ((line : ℕ) (found : Option ℕ) → sooner line (record { tick = tick; asks = asks; outcome = outcome }) outcome found ≡ found)
      → IsOutlook banks (record { tick = tick; asks = asks; outcome = outcome } ∷ rows) next soon worn
  outlook_refused outcome fails not_worn same = record {
    next_is = next_same banks rows tick asks outcome fails next h.next_is;
    soonest_is = soonest_same banks rows tick asks outcome same soon h.soonest_is;
    worn_is = worn_same banks rows tick asks outcome (ap (λ a. asks_write a && is_worn outcome) is_write ∙ not_worn) worn h.worn_is;
    next_size = h.next_size;
    soonest_size = h.soonest_size;
    worn_size = h.worn_size;
  }

-- what is written has bytes
pub written_is : {n : ℕ} (asks : Asks n) (line : ℕ) → line_written asks ≡ Some line → (bytes : List ℕ) × (given : List Bool) × (asks ≡ Writes line bytes given)
written_is (Reads at) line is = absurd (cc)
written_is {n} (Writes at bytes given) line is = (bytes, given, ap (λ k. let w : Asks n = Writes k bytes given in w) (some_same at line is))
written_is Cuts line is = absurd (cc)

pub asked_below : {n : ℕ} (asks : Asks n) (line lines : ℕ) → line_asked asks ≡ Some line → IsOfLines lines asks → line < lines
asked_below (Reads at) line lines is h = let e = some_same at line is in omega (arith, e, h)
asked_below (Writes at bytes given) line lines is h = let e = some_same at line is in omega (arith, e, h)
asked_below Cuts line lines is h = absurd (cc)

pub not_written : {n : ℕ} (asks : Asks n) → line_written asks ≡ None → asks_write asks ≡ false
not_written (Reads at) is = refl
not_written (Writes at bytes given) is = absurd (cc)
not_written Cuts is = refl

-- the rows of a line's bank have all rows of the line
apart_of : {n : ℕ} (bank_of : ℕ → ℕ) (line : ℕ) (asks : Asks n) → is_of bank_of (bank_of line) asks ≡ false → asks_write_of line asks ≡ false
apart_of bank_of line (Reads at) differs = refl
apart_of bank_of line Cuts differs = refl
apart_of bank_of line (Writes at bytes given) differs = which (at == line) refl
  where
    which : (b : Bool) → (at == line) ≡ b → b ≡ false
    which true is = let k : true ≡ false = sym (eq-eqb (bank_of at) (bank_of line) (ap bank_of (eqb-true at line is))) ∙ differs in absurd (cc)
    which false is = refl

sooner_not : {n : ℕ} (line : ℕ) (q : Row n) → asks_write_of line q.asks ≡ false → (o : Outcome n) (found : Option ℕ) → sooner line q o found ≡ found
sooner_not line q off (out.Stored u place) None = ap (λ b. cond b (Some u) None) off
sooner_not line q off (out.Stored u place) (Some v) = ap (λ b. cond b (Some (min u v)) (Some v)) off
sooner_not line q off _ found = refl

next_beside : {n : ℕ} (bank_of : ℕ → ℕ) (line : ℕ) (rows : List (Row n)) → next_accepted line (of_bank bank_of (bank_of line) rows) ≡ next_accepted line rows
next_beside bank_of line [] = refl
next_beside {n} bank_of line (q ∷ rows) = by (is_of bank_of (bank_of line) q.asks) refl (next_beside bank_of line rows)
  where
    by : (b : Bool) → is_of bank_of (bank_of line) q.asks ≡ b → next_accepted line (of_bank bank_of (bank_of line) rows) ≡ next_accepted line rows
        → next_accepted line (cond b (q ∷ of_bank bank_of (bank_of line) rows) (of_bank bank_of (bank_of line) rows)) ≡ next_accepted line (q ∷ rows)
    by true is ih = ap (cond (accepted_of line q) (Some q.tick)) ih
    by false is ih = ih ∙ sym (ap (λ b. cond (b && accepts q.outcome) (Some q.tick) (next_accepted line rows)) (apart_of bank_of line q.asks is))

soonest_beside : {n : ℕ} (bank_of : ℕ → ℕ) (line : ℕ) (rows : List (Row n)) → soonest line (of_bank bank_of (bank_of line) rows) ≡ soonest line rows
soonest_beside bank_of line [] = refl
soonest_beside {n} bank_of line (q ∷ rows) = by (is_of bank_of (bank_of line) q.asks) refl (soonest_beside bank_of line rows)
  where
    by : (b : Bool) → is_of bank_of (bank_of line) q.asks ≡ b → soonest line (of_bank bank_of (bank_of line) rows) ≡ soonest line rows
        → soonest line (cond b (q ∷ of_bank bank_of (bank_of line) rows) (of_bank bank_of (bank_of line) rows)) ≡ soonest line (q ∷ rows)
    by true is ih = ap (sooner line q q.outcome) ih
    by false is ih = ih ∙ sym (sooner_not line q (apart_of bank_of line q.asks is) q.outcome (soonest line rows))

-- what is looked up
pub looked_up : {n : ℕ} (banks : List ℕ) (rows : List (Row n)) (next soon worn : List (Option ℕ)) (line bank : ℕ) (a b c : Option ℕ) → IsOutlook banks rows next soon worn
    → slice_get next line ≡ Some a → slice_get soon line ≡ Some b → slice_get worn bank ≡ Some c → bank ≡ bank_in banks line
    → record { next = a; soonest = b; worn = c } ≡ coming_to banks line rows
looked_up {n} banks rows next soon worn line bank a b c h at_next at_soon at_worn here =
    ap (λ x. let w : Coming = record { next = x; soonest = b; worn = c } in w) (h.next_is line a at_next ∙ sym (next_beside (bank_in banks) line rows))
    ∙ ap (λ x. let w : Coming = record { next = next_accepted line (beside banks line rows); soonest = x; worn = c } in w) (h.soonest_is line b at_soon ∙ sym (soonest_beside (bank_in banks) line rows))
    ∙ ap (λ x. let w : Coming = record { next = next_accepted line (beside banks line rows); soonest = soonest line (beside banks line rows); worn = x } in w)
    (h.worn_is bank c at_worn ∙ ap (λ k. first_worn (of_bank (bank_in banks) k rows)) here)

-- the rows from an index on were looked at
pub record LooksFrom {n : ℕ} (banks : List ℕ) (rows : List (Row n)) (row size : ℕ) (next soon worn : List (Option ℕ)) (coming : List Coming) : Type 0 where
  pub outlook : IsOutlook banks (drop row rows) next soon worn
  pub coming_is : coming ≡ coming_of banks (drop row rows)
  pub within : row ≤ size

pub looks_none : {n : ℕ} (banks : List ℕ) (rows : List (Row n)) (size : ℕ) (next soon worn : List (Option ℕ)) (coming : List Coming) → length rows ≤ size
    → next ≡ replicate (length banks) None → soon ≡ replicate (length banks) None → worn ≡ replicate 256 None → coming ≡ []
    → LooksFrom banks rows size size next soon worn coming
looks_none {n} banks rows size next soon worn coming le next_is soon_is worn_is empty = record {
  outlook = subst (λ (rs : List (Row n)). IsOutlook banks rs next soon worn) (sym (none_left size rows le)) (record {
    next_is = λ line found is. nothing (length banks) line found (ap (λ xs. slice_get xs line) (sym next_is) ∙ is);
    soonest_is = λ line found is. nothing (length banks) line found (ap (λ xs. slice_get xs line) (sym soon_is) ∙ is);
    worn_is = λ bank found is. nothing 256 bank found (ap (λ xs. slice_get xs bank) (sym worn_is) ∙ is);
    next_size = ap length next_is ∙ length-replicate (length banks) none_yet;
    soonest_size = ap length soon_is ∙ length-replicate (length banks) none_yet;
    worn_size = ap length worn_is ∙ length-replicate 256 none_yet;
  });
  coming_is = empty ∙ sym (ap (coming_of banks) (none_left size rows le));
  within = omega arith;
}
  where
    none_yet : Option ℕ
    none_yet = None

    nothing : (k i : ℕ) (found : Option ℕ) → slice_get (replicate k none_yet) i ≡ Some found → found ≡ None
    nothing k i found is =
        let within = slice_get_within (replicate k none_yet) i found is in
        sym (get_or_from_slice_get (replicate k none_yet) i found none_yet is)
        ∙ get_or-replicate k i none_yet none_yet (let size = length-replicate k none_yet in omega (arith, within, size))

pub looks_more : {n : ℕ} (banks : List ℕ) (rows : List (Row n)) (row size : ℕ) (r : Row n) (next soon worn next' soon' worn' : List (Option ℕ)) (coming coming' : List Coming) (one : Coming)
    → 0 < row → drop (row - 1) rows ≡ r ∷ drop (suc (row - 1)) rows → LooksFrom banks rows row size next soon worn coming
    → ((rs : List (Row n)) → IsOutlook banks rs next soon worn → one ≡ coming_at banks r.asks rs)
    → ((rs : List (Row n)) → IsOutlook banks rs next soon worn → IsOutlook banks (r ∷ rs) next' soon' worn')
    → coming' ≡ coming ++ one ∷ []
    → LooksFrom banks rows (row - 1) size next' soon' worn' coming'
looks_more {n} banks rows row size r next soon worn next' soon' worn' coming coming' one some here had at_row add pushed =
    let same : suc (row - 1) ≡ row = omega (arith, some) in
    let first : drop (row - 1) rows ≡ r ∷ drop row rows = here ∙ ap (λ k. r ∷ drop k rows) same in
    let le = had.within in
    record {
      outlook = subst (λ (rs : List (Row n)). IsOutlook banks rs next' soon' worn') (sym first) (add (drop row rows) had.outlook);
      coming_is = pushed ∙ ap (λ xs. xs ++ one ∷ []) had.coming_is ∙ ap (λ x. coming_of banks (drop row rows) ++ x ∷ []) (at_row (drop row rows) had.outlook) ∙ sym (ap (coming_of banks) first);
      within = omega (arith, le);
    }
