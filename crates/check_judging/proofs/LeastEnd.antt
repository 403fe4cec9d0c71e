-- Whether a write is first to leave the queue, by the least tick at which one is stored.
use Rattle.std.proofs.Common.{◌≡◌, ℕ, ◌<◌, ◌≤◌, ◌&&◌, ◌||◌, ◌⊎◌, inl, inr, Bool, true, false, List, [], ◌∷◌, Option, Some, None, sym, ap, ◌∙◌, cond, arith}
use Rattle.std.{specs.List.list_all, specs.Prelude.{nat_le, not, min}, proofs.lemmas.Bool.{le-leb, lt-leb, ltb-true, cases_lt}}
use Rattle.masked_bytes.proofs.Truth.{and_first, and_second}
use Rattle.result_rows.specs.declared.Outcome.{Outcome}
use Rattle.result_rows.specs.declared.Outcome.TheVariants as out
use Rattle.row_rules.specs.{Answers.{is_stored, stored_before}, Queueing.{none_before, is_first}, Rows.write_of, declared.Row.Row}
use Rattle.check_judging.{specs.Heads.{end_of, leave_of, least_end, least_other, next_of, stored_below, all_stored_below, NoneBeforeLaw, FirstLaw}, proofs.Counts.before_next}

-- at most the lesser of two is at most both
under_both : (u v w : ℕ) → nat_le u (min v w) ≡ (nat_le u v && nat_le u w)
under_both u v w = by (cases_lt v u) (cases_lt w u)
  where
    by : (v < u) ⊎ (u ≤ v) → (w < u) ⊎ (u ≤ w) → nat_le u (min v w) ≡ (nat_le u v && nat_le u w)
    by (inl a) k = lt-leb u (min v w) (omega (arith, a)) ∙ sym (ap (λ b. b && nat_le u w) (lt-leb u v a))
    by (inr a) (inl b) = lt-leb u (min v w) (omega (arith, b)) ∙ sym (ap (λ c. c && nat_le u w) (le-leb u v a) ∙ lt-leb u w b)
    by (inr a) (inr b) = le-leb u (min v w) (omega (arith, a, b)) ∙ sym (ap (λ c. c && nat_le u w) (le-leb u v a) ∙ le-leb u w b)

module _ {n : ℕ} (never : ℕ) where
  -- a tick up to never
  before_one : (u : ℕ) → u ≤ never → (o : Outcome n) → not (stored_before u o) ≡ nat_le u (end_of never o)
  before_one u le (out.Stored v place) = before_next u v
  before_one u le _ = sym (le-leb u never le)

  at_all : (o : Outcome n) → stored_below never o ≡ true → not (is_stored o) ≡ nat_le never (end_of never o)
  at_all (out.Stored v place) h = sym (lt-leb never v (ltb-true v never h))
  at_all _ h = sym (le-leb never never (omega arith))

  before_all : (u : ℕ) → u ≤ never → (rows : List (Row n)) → list_all (λ q. not (stored_before u q.outcome)) rows ≡ nat_le u (least_end never rows)
  before_all u le [] = sym (le-leb u never le)
  before_all u le (q ∷ rows) =
      ap (λ b. b && list_all (λ q. not (stored_before u q.outcome)) rows) (before_one u le q.outcome)
      ∙ ap (λ b. nat_le u (end_of never q.outcome) && b) (before_all u le rows)
      ∙ sym (under_both u (end_of never q.outcome) (least_end never rows))

  none_stored : (rows : List (Row n)) → all_stored_below never rows ≡ true → list_all (λ q. not (is_stored q.outcome)) rows ≡ nat_le never (least_end never rows)
  none_stored [] h = sym (le-leb never never (omega arith))
  none_stored (q ∷ rows) h =
      ap (λ b. b && list_all (λ q. not (is_stored q.outcome)) rows) (at_all q.outcome (and_first (stored_below never q.outcome) _ h))
      ∙ ap (λ b. nat_le never (end_of never q.outcome) && b) (none_stored rows (and_second (stored_below never q.outcome) _ h))
      ∙ sym (under_both never (end_of never q.outcome) (least_end never rows))

  -- of those that are no writes of the line
  others_before : (line u : ℕ) → u ≤ never → (rows : List (Row n)) → list_all (λ q. write_of line q || not (stored_before u q.outcome)) rows ≡ nat_le u (least_other never line rows)
  others_before line u le [] = sym (le-leb u never le)
  others_before line u le (q ∷ rows) = by (write_of line q) (others_before line u le rows)
    where
      by : (b : Bool) → list_all (λ q. write_of line q || not (stored_before u q.outcome)) rows ≡ nat_le u (least_other never line rows)
          → ((b || not (stored_before u q.outcome)) && list_all (λ q. write_of line q || not (stored_before u q.outcome)) rows)
          ≡ nat_le u (cond b (least_other never line rows) (min (end_of never q.outcome) (least_other never line rows)))
      by true ih = ih
      by false ih =
          ap (λ b. b && list_all (λ q. write_of line q || not (stored_before u q.outcome)) rows) (before_one u le q.outcome)
          ∙ ap (λ b. nat_le u (end_of never q.outcome) && b) ih
          ∙ sym (under_both u (end_of never q.outcome) (least_other never line rows))

  others_stored : (line : ℕ) (rows : List (Row n)) → all_stored_below never rows ≡ true
      → list_all (λ q. write_of line q || not (is_stored q.outcome)) rows ≡ nat_le never (least_other never line rows)
  others_stored line [] h = sym (le-leb never never (omega arith))
  others_stored line (q ∷ rows) h =
      by (write_of line q) (and_first (stored_below never q.outcome) _ h) (others_stored line rows (and_second (stored_below never q.outcome) _ h))
    where
      by : (b : Bool) → stored_below never q.outcome ≡ true → list_all (λ q. write_of line q || not (is_stored q.outcome)) rows ≡ nat_le never (least_other never line rows)
          → ((b || not (is_stored q.outcome)) && list_all (λ q. write_of line q || not (is_stored q.outcome)) rows)
          ≡ nat_le never (cond b (least_other never line rows) (min (end_of never q.outcome) (least_other never line rows)))
      by true k ih = ih
      by false k ih =
          ap (λ b. b && list_all (λ q. write_of line q || not (is_stored q.outcome)) rows) (at_all q.outcome k)
          ∙ ap (λ b. nat_le never (end_of never q.outcome) && b) ih
          ∙ sym (under_both never (end_of never q.outcome) (least_other never line rows))

  leaves : (o : Outcome n) (rows : List (Row n)) → leave_of never o ≤ never → all_stored_below never rows ≡ true → none_before o rows ≡ nat_le (leave_of never o) (least_end never rows)
  leaves (out.Stored u place) rows le h = before_all u le rows
  leaves (out.Merged u) rows le h = before_all u le rows
  leaves _ rows le h = none_stored rows h

  firsts : (line : ℕ) (next : Option ℕ) (rows : List (Row n)) → next_of never next ≤ never → all_stored_below never rows ≡ true
      → is_first line next rows ≡ nat_le (next_of never next) (least_other never line rows)
  firsts line (Some u) rows le h = others_before line u le rows
  firsts line None rows le h = others_stored line rows h

pub none_before_law : NoneBeforeLaw
none_before_law n never o rows le h = leaves never o rows le h

pub first_law : FirstLaw
first_law n never line next rows le h = firsts never line next rows le h

least_all : {n : ℕ} (never u : ℕ) → u ≤ never → (rows : List (Row n)) → nat_le u (least_end never rows) ≡ list_all (λ q. nat_le u (end_of never q.outcome)) rows
least_all never u le [] = le-leb u never le
least_all never u le (q ∷ rows) = under_both u (end_of never q.outcome) (least_end never rows) ∙ ap (λ b. nat_le u (end_of never q.outcome) && b) (least_all never u le rows)

-- none is stored before one leaves the queue exactly where each is stored at its leaving or later
pub none_before_all : {n : ℕ} (never : ℕ) (o : Outcome n) (rows : List (Row n)) → leave_of never o ≤ never → all_stored_below never rows ≡ true
    → none_before o rows ≡ list_all (λ q. nat_le (leave_of never o) (end_of never q.outcome)) rows
none_before_all never o rows le h = leaves never o rows le h ∙ least_all never (leave_of never o) le rows
