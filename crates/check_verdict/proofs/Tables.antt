-- What sorted keys of a whole table tell of a row of it.
use Rattle.std.proofs.Common.{◌≡◌, ℕ, ◌+◌, ◌<◌, ◌≤◌, ◌==◌, ◌&&◌, ◌||◌, ◌⊎◌, inl, inr, Bool, true, false, List, [], ◌∷◌, ◌++◌, Option, Some, None, refl, sym, ap, ◌∙◌, cond, arith}
use Rattle.std.{specs.Prelude.{nat_le, nat_lt, not, reverse, filter, count_by, max, slice_get}, proofs.lemmas.Bool.{lt-ltb, le-ltb, eq-eqb, eqb-true, cases_lt}}
use Rattle.masked_bytes.proofs.{Counting.{count-append, count-cons, one_if}, Truth.and_false}
use Rattle.result_rows.specs.declared.Outcome.{Outcome}
use Rattle.result_rows.specs.declared.Outcome.TheVariants as out
use Rattle.row_rules.specs.{Answers.{is_stored, is_answered, stored_after, stored_by, read_after, read_by}, Rows.{asks_write, asks_read, asks_write_of, write_of}, Serving.may_have}
use Rattle.row_rules.specs.{Table.{is_of, of_bank}, Ticking.{stores_in, delay, last_store}, declared.Asks.Asks, declared.Asks.TheVariants.{Reads, Writes, Cuts}, declared.Row.Row}
use Rattle.bank_shape.specs.{declared.pace.Policy.Policy, declared.pace.Policy.TheVariants.{Pause, Plain, Cancel}}
use Rattle.check_judging.specs.{Coming.{came, fourth_from}, Counting.line_stores, Keys.{key, up_to, store_keys, read_keys}}
use Rattle.check_judging.proofs.{Counts.{count-same, count-filter, count-permuted, count-turned, last_by_count_law}, Fourth.fourth_law, SortedKeys.count_law}
use Rattle.check_verdict.specs.{Keeping.delay_by, Tables.{around, CountsToldLaw, LineKeysLaw, OwnLaw, four_came, DelayLaw, FourLaw}}

-- the fourth came at v or later
abbrev at_fourth : ℕ → Option ℕ → Bool
at_fourth v None = false
at_fourth v (Some d) = nat_le v d

-- rows that pass a test, before and behind
both_sides : {A : Type 0} (f p : A → Bool) (before after : List A) → count_by p (filter f (reverse before ++ after)) ≡ count_by p (filter f before ++ filter f after)
both_sides f p before after =
    count-filter f p (reverse before ++ after)
    ∙ count-turned (λ x. f x && p x) before after
    ∙ count-append (λ x. f x && p x) before after
    ∙ (let i = count-filter f p before in let j = count-filter f p after in let k = count-append p (filter f before) (filter f after) in omega (arith, i, j, k))

pub counts_told_law : CountsToldLaw
counts_told_law n bank_of bank a u before r after stores reads same other le below short =
    let counts = count_law n bank_of bank a u (around before r after) le below short in
    let stored = counts.stores in
    let read = counts.reads in
    let s = both_sides (λ q. is_of bank_of bank q.asks) (λ q. asks_write q.asks && (stored_after a q.outcome && stored_by u q.outcome)) before (r ∷ after) in
    let w = both_sides (λ q. is_of bank_of bank q.asks) (λ q. asks_read q.asks && (read_after a q.outcome && read_by u q.outcome)) before (r ∷ after) in
    let s_a = count-permuted (λ x. nat_le x (key bank a)) (store_keys bank_of (around before r after)) stores same in
    let s_u = count-permuted (λ x. nat_le x (key bank u)) (store_keys bank_of (around before r after)) stores same in
    let r_a = count-permuted (λ x. nat_le x (key bank a)) (read_keys bank_of (around before r after)) reads other in
    let r_u = count-permuted (λ x. nat_le x (key bank u)) (read_keys bank_of (around before r after)) reads other in
    record { stored = omega (arith, stored, s, s_a, s_u); read = omega (arith, read, w, r_a, r_u) }

-- A line's stores

module _ {n : ℕ} (line : ℕ) where
  -- the rows of a line, as if it were a bank
  own_line : (p : Bool) (asks : Asks n) → (is_of (λ l. l) line asks && (asks_write asks && p)) ≡ (asks_write_of line asks && p)
  own_line p (Reads at) = and_false (at == line)
  own_line p (Writes at bytes given) = refl
  own_line p Cuts = refl

  -- a line's rows are its bank's
  own_bank : (bank_of : ℕ → ℕ) (p : Bool) (asks : Asks n) → (is_of bank_of (bank_of line) asks && (asks_write_of line asks && p)) ≡ (asks_write_of line asks && p)
  own_bank bank_of p (Reads at) = and_false (bank_of at == bank_of line)
  own_bank bank_of p Cuts = refl
  own_bank bank_of p (Writes at bytes given) = by (at == line) refl
    where
      by : (b : Bool) → (at == line) ≡ b → ((bank_of at == bank_of line) && (b && p)) ≡ (b && p)
      by true is = ap (λ b. b && p) (eq-eqb (bank_of at) (bank_of line) (ap bank_of (eqb-true at line is)))
      by false is = and_false (bank_of at == bank_of line)

  no_write : (p : Bool) (asks : Asks n) → asks_write asks ≡ false → (asks_write_of line asks && p) ≡ false
  no_write p (Reads at) h = refl
  no_write p (Writes at bytes given) h = absurd (cc)
  no_write p Cuts h = refl

pub line_keys_law : LineKeysLaw
line_keys_law n bank_of line t before r after keys same short reads e le below =
    let counts = (count_law n (λ l. l) line t e (around before r after) le below short).stores in
    let k_t = count-permuted (λ x. nat_le x (key line t)) (store_keys (λ l. l) (around before r after)) keys same in
    let k_e = count-permuted (λ x. nat_le x (key line e)) (store_keys (λ l. l) (around before r after)) keys same in
    more (up_to (key line t) keys) (up_to (key line e) keys) (stores_in t e (of_bank (λ l. l) line (around before r after)))
    (line_stores line t e (of_bank bank_of (bank_of line) before ++ of_bank bank_of (bank_of line) after)) (omega (arith, counts, k_t, k_e)) whole
  where
    more : (a b c d : ℕ) → a + c ≡ b → c ≡ d → nat_lt a b ≡ nat_lt 0 d
    more a b c d is are = by (cases_lt 0 d)
      where
        by : (0 < d) ⊎ (d ≤ 0) → nat_lt a b ≡ nat_lt 0 d
        by (inl l) = lt-ltb a b (omega (arith, is, are, l)) ∙ sym (lt-ltb 0 d l)
        by (inr l) = le-ltb a b (omega (arith, is, are, l)) ∙ sym (le-ltb 0 d l)

    whole : stores_in t e (of_bank (λ l. l) line (around before r after)) ≡ line_stores line t e (of_bank bank_of (bank_of line) before ++ of_bank bank_of (bank_of line) after)
    whole =
        let p = λ (q : Row n). write_of line q && (stored_after t q.outcome && stored_by e q.outcome) in
        let i : stores_in t e (of_bank (λ l. l) line (around before r after)) ≡ count_by (λ (q : Row n). write_of line q && (stored_after t q.outcome && stored_by e q.outcome)) (around before r after) =
        count-filter (λ (q : Row n). is_of (λ l. l) line q.asks) (λ (q : Row n). asks_write q.asks && (stored_after t q.outcome && stored_by e q.outcome)) (around before r after)
        ∙ count-same (λ (q : Row n). is_of (λ l. l) line q.asks && (asks_write q.asks && (stored_after t q.outcome && stored_by e q.outcome))) p (λ q. own_line line (stored_after t q.outcome && stored_by e q.outcome) q.asks) (around before r after) in
        let j = count-turned p before (r ∷ after) in
        let k = count-append p before (r ∷ after) in
        let l = count-cons p r after in
        let z : one_if (write_of line r && (stored_after t r.outcome && stored_by e r.outcome)) ≡ 0 = ap one_if (no_write line (stored_after t r.outcome && stored_by e r.outcome) r.asks reads) in
        let f = part before in
        let g = part after in
        let m = count-append p (of_bank bank_of (bank_of line) before) (of_bank bank_of (bank_of line) after) in
        omega (arith, i, j, k, l, z, f, g, m)
      where
        part : (rows : List (Row n)) → line_stores line t e (of_bank bank_of (bank_of line) rows) ≡ line_stores line t e rows
        part rows =
            count-filter (λ (q : Row n). is_of bank_of (bank_of line) q.asks) (λ (q : Row n). write_of line q && (stored_after t q.outcome && stored_by e q.outcome)) rows
            ∙ count-same (λ (q : Row n). is_of bank_of (bank_of line) q.asks && (write_of line q && (stored_after t q.outcome && stored_by e q.outcome)))
            (λ (q : Row n). write_of line q && (stored_after t q.outcome && stored_by e q.outcome)) (λ q. own_bank line bank_of (stored_after t q.outcome && stored_by e q.outcome) q.asks) rows

pub own_law : OwnLaw
own_law n r bytes h = by r.asks r.outcome h
  where
    by : (asks : Asks n) (o : Outcome n) → may_have r.tick asks bytes o ≡ true → ((not (is_stored o) || asks_write asks) && (not (is_answered o) || asks_read asks)) ≡ true
    by (Reads line) (out.Stored v place) h = absurd (cc)
    by (Writes line some given) (out.Read v place bytes) h = absurd (cc)
    by Cuts (out.Stored v place) h = absurd (cc)
    by Cuts (out.Read v place bytes) h = absurd (cc)
    by _ _ h = refl

-- The reads that came

fourth_is : (v : ℕ) (ticks : List ℕ) (fourth : Option ℕ) → fourth ≡ slice_get ticks 3 → fourth_from v ticks ≡ at_fourth v fourth
fourth_is v (a ∷ b ∷ c ∷ []) fourth is = ap (at_fourth v) (sym is)
fourth_is v _ fourth is = ap (at_fourth v) (sym is)

pub delay_law : DelayLaw
delay_law n t a rules before after first second third fourth kept h = by rules.policy
  where
    since : (fourth : Option ℕ) → at_fourth (last_store a (before ++ after)) fourth ≡ four_came a fourth (before ++ after)
    since None = refl
    since (Some d) = last_by_count_law n a d (before ++ after)

    turn : (b : Bool) (m : ℕ) → cond (not b) 0 m ≡ cond b m 0
    turn true m = refl
    turn false m = refl

    by : (policy : Policy) → delay rules policy a before after ≡ delay_by rules policy (four_came a fourth (before ++ after))
    by Pause = refl
    by Plain = refl
    by Cancel =
        ap (λ b. cond b 0 (max rules.read_ticks rules.iter_ticks)) (fourth_law n t (last_store a (before ++ after)) before h)
        ∙ turn (fourth_from (last_store a (before ++ after)) (came before)) (max rules.read_ticks rules.iter_ticks)
        ∙ ap (λ b. cond b (max rules.read_ticks rules.iter_ticks) 0) (fourth_is (last_store a (before ++ after)) (came before) fourth kept.at_4 ∙ since fourth)

pub four_law : FourLaw
four_law n r rows first second third fourth kept = (
  λ is. record {
    at_1 = ap (λ ticks. slice_get ticks 0) (sym is);
    at_2 = kept.at_1 ∙ ap (λ ticks. slice_get ticks 1) (sym is);
    at_3 = kept.at_2 ∙ ap (λ ticks. slice_get ticks 2) (sym is);
    at_4 = kept.at_3 ∙ ap (λ ticks. slice_get ticks 3) (sym is);
  },
  λ is. record {
    at_1 = kept.at_1 ∙ ap (λ ticks. slice_get ticks 0) (sym is);
    at_2 = kept.at_2 ∙ ap (λ ticks. slice_get ticks 1) (sym is);
    at_3 = kept.at_3 ∙ ap (λ ticks. slice_get ticks 2) (sym is);
    at_4 = kept.at_4 ∙ ap (λ ticks. slice_get ticks 3) (sym is);
  },
)
