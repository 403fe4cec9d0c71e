-- A row's verdict in the words of the code.
use Rattle.std.proofs.Common.{◌≡◌, ℕ, zero, suc, ◌+◌, ◌-◌, ◌*◌, ◌<◌, ◌≤◌, ◌==◌, ◌&&◌, ◌||◌, ◌⊎◌, inl, inr, Bool, true, false, List, [], ◌∷◌, ◌++◌, Option, Some, None, length, refl, sym, ap, ◌∙◌, subst, cond, arith}
use Rattle.std.{specs.Prelude.{nat_le, nat_lt, not, slice_get, unwrap_or, count_by}, proofs.lemmas.Bool.{leb-true, ltb-true, le-ltb, eq-eqb, eqb-true, ne_eqb, cases_lt, cases_eq}}
use Rattle.masked_bytes.{specs.Masked.{gives_all, laid}, proofs.Counting.{count-append, count-cons, one_if}, proofs.Truth.{and_first, and_second}}
use Rattle.result_rows.specs.declared.Outcome.{Outcome}
use Rattle.result_rows.specs.declared.Outcome.TheVariants as out
use Rattle.row_rules.specs.{Answers.{accepts, is_worn, is_answered, is_lost, stored_after, stored_by}, Queueing.{waiting, cover, read_fits}}
use Rattle.row_rules.specs.{Rows.{newest, asks_write, asks_read, asks_write_of, lay_row, bytes_of, given_of}, Serving.may_have, Table.{is_of, of_bank}}
use Rattle.row_rules.specs.{Ticking.{bound, delay, longest, stores_in, reads_in, cuts_to}, declared.Asks.Asks, declared.Asks.TheVariants.{Reads, Writes, Cuts}, declared.Row.Row}
use Rattle.row_rules.specs.declared.Rules.{Rules}
use Rattle.check_judging.{specs.Coming.came, specs.Cutting.cut_ticks, specs.Keys.{reach, is_short, key, up_to}, specs.Rising.falling, proofs.Cuts.{first_cut_law, cuts_of_bank_law}}
use Rattle.check_verdict.specs.{Ahead.{four_kept, latest_kept, at_store}, Covering.{soonest, cover_kept}, Fitting.{at_head_kept, write_fits}}
use Rattle.check_verdict.specs.{Judged.{first_broken, beside, a_write, a_read}, Keeping.{stored_early, read_timely, write_timely, delay_kept}, Kept.apart_kept}
use Rattle.check_verdict.specs.{QueueLaws.next_accepted, RowVerdicts.read_by, States.Facts, Tables.four_came, Timely.{FindsTimes, first_of_ticks, latest_store}}
use Rattle.check_verdict.specs.{VerdictLaws.{HasKeys, Comes, WriteVerdictLaw, ReadVerdictLaw}, Verdicts.bank_in, Worn.first_worn, declared.Rule.Rule, declared.known.Keys.Keys}
use Rattle.check_verdict.proofs.{Covering.cover_kept_law, Judged.{judge_write_law, judge_read_law}, Numbers.numbers_law, Tables.{counts_told_law, line_keys_law, delay_law}}

-- a row stands among those of its line's bank
own : {A : Type 0} (b : ℕ) (x : A) (xs : List A) → cond (b == b) (x ∷ xs) xs ≡ x ∷ xs
own b x xs = ap (λ c. cond c (x ∷ xs) xs) (eq-eqb b b refl)

module _ {n : ℕ} (rules : Rules) (banks : List ℕ) (line : ℕ) (before : List (Row n)) (r : Row n) (after : List (Row n)) (f : Facts) (comes : Comes rules banks line before r after f) where
  abbrev bank : ℕ
  bank = bank_in banks line

  abbrev past : List (Row n)
  past = beside banks line before

  abbrev later : List (Row n)
  later = beside banks line after

  times : FindsTimes rules past r later f.members f.waits f.lost f.last_answer f.last_store
  times = record { kept = comes.stands.finds.kept; later = comes.later; short = comes.short; some = comes.some; small = comes.small }

  cuts : (u : ℕ) → cuts_to u later ≡ up_to u (cut_ticks after)
  cuts u = (first_cut_law n r.tick u later comes.later).number ∙ ap (λ ticks. count_by (λ c. nat_le c u) ticks) (cuts_of_bank_law n (bank_in banks) bank after)

  module _ (keys : Keys) (has : HasKeys banks before r after keys) (mine : of_bank (bank_in banks) bank (r ∷ after) ≡ r ∷ later) where
    abbrev stored_to : ℕ → ℕ
    stored_to u = up_to (key bank u) keys.stores.items

    abbrev read_to : ℕ → ℕ
    read_to u = up_to (key bank u) keys.reads.items

    latest : (u : ℕ) → r.tick < u → u < reach
        → latest_kept rules keys.stores.items keys.reads.items (cut_ticks after) bank r.tick u ≡ latest_store rules u r past later
    latest u lt below =
        let c = counts_told_law n (bank_in banks) bank r.tick u before r after keys.stores.items keys.reads.items has.of_stores has.of_reads (omega (arith, lt)) below has.short in
        let s : stored_to r.tick + stores_in r.tick u (past ++ r ∷ later) ≡ stored_to u = subst (λ rows. stored_to r.tick + stores_in r.tick u (past ++ rows) ≡ stored_to u) mine c.stored in
        let d : read_to r.tick + reads_in r.tick u (past ++ r ∷ later) ≡ read_to u = subst (λ rows. read_to r.tick + reads_in r.tick u (past ++ rows) ≡ read_to u) mine c.read in
        let w : stored_to u - stored_to r.tick ≡ stores_in r.tick u (past ++ r ∷ later) = omega (arith, s) in
        let v : read_to u - read_to r.tick ≡ reads_in r.tick u (past ++ r ∷ later) = omega (arith, d) in
        ap (λ k. r.tick + longest rules k (read_to u - read_to r.tick) (up_to u (cut_ticks after))) w
        ∙ ap (λ k. r.tick + longest rules (stores_in r.tick u (past ++ r ∷ later)) k (up_to u (cut_ticks after))) v
        ∙ ap (λ k. r.tick + longest rules (stores_in r.tick u (past ++ r ∷ later)) (reads_in r.tick u (past ++ r ∷ later)) k) (sym (cuts u))

    -- four reads came
    four : asks_write r.asks ≡ false → (fourth : Option ℕ) → ((d : ℕ) → fourth ≡ Some d → d ≤ r.tick) → r.tick < reach
        → four_came r.tick fourth (past ++ later) ≡ four_kept keys.stores.items bank r.tick fourth
    four reading None le below = refl
    four reading (Some d) le below =
        let c = counts_told_law n (bank_in banks) bank d r.tick before r after keys.stores.items keys.reads.items has.of_stores has.of_reads (le d refl) below has.short in
        let s : stored_to d + stores_in d r.tick (past ++ r ∷ later) ≡ stored_to r.tick = subst (λ rows. stored_to d + stores_in d r.tick (past ++ rows) ≡ stored_to r.tick) mine c.stored in
        let i = count-append (λ (q : Row n). asks_write q.asks && (stored_after d q.outcome && stored_by r.tick q.outcome)) past (r ∷ later) in
        let j = count-append (λ (q : Row n). asks_write q.asks && (stored_after d q.outcome && stored_by r.tick q.outcome)) past later in
        let k = count-cons (λ (q : Row n). asks_write q.asks && (stored_after d q.outcome && stored_by r.tick q.outcome)) r later in
        let z : one_if (asks_write r.asks && (stored_after d r.outcome && stored_by r.tick r.outcome)) ≡ one_if false = ap one_if (ap (λ b. b && (stored_after d r.outcome && stored_by r.tick r.outcome)) reading) in
        same (stores_in d r.tick (past ++ later)) (stored_to d) (stored_to r.tick) (omega (arith, s, i, j, k, z))
      where
        same : (c a b : ℕ) → a + c ≡ b → (c == 0) ≡ (a == b)
        same c a b is = by (cases_eq c 0)
          where
            by : (c ≡ 0) ⊎ (c ≡ 0 → ⊥) → (c == 0) ≡ (a == b)
            by (inl e) = eq-eqb c 0 e ∙ sym (eq-eqb a b (omega (arith, is, e)))
            by (inr ne) = ne_eqb c 0 ne ∙ sym (ne_eqb a b (λ e. ne (omega (arith, is, e))))

-- a read that came did so no later than the last row
pub came_below : {n : ℕ} (t : ℕ) (rows : List (Row n)) → falling t rows ≡ true → (k d : ℕ) → slice_get (came rows) k ≡ Some d → d ≤ t
came_below t [] h k d is = absurd (cc)
came_below {n} t (q ∷ rows) h k d is =
    by (asks_read q.asks && (is_answered q.outcome || is_lost q.outcome)) k is
    (λ k is. came_below q.tick rows (and_second (nat_le q.tick t) _ h) k d is)
  where
    tick : q.tick ≤ t
    tick = leb-true q.tick t (and_first (nat_le q.tick t) _ h)

    by : (c : Bool) (k : ℕ) → slice_get (cond c (q.tick ∷ came rows) (came rows)) k ≡ Some d → ((k : ℕ) → slice_get (came rows) k ≡ Some d → d ≤ q.tick) → d ≤ t
    by true zero is rest = let e : q.tick ≡ d = ap (λ o. unwrap_or o 0) is in omega (arith, e, tick)
    by true (suc k) is rest = let e = rest k is in omega (arith, e, tick)
    by false k is rest = let e = rest k is in omega (arith, e, tick)

-- only a tick above its arrival counts
same_timely : {n : ℕ} (tick : ℕ) (o : Outcome n) (f g : ℕ → ℕ) → ((u : ℕ) → tick < u → u < reach → f u ≡ g u) → is_short o ≡ true
    → write_timely tick (at_store f o) o ≡ write_timely tick (at_store g o) o
same_timely tick (out.Stored u place) f g same short = by (cases_lt tick u)
  where
    by : (tick < u) ⊎ (u ≤ tick) → (nat_lt tick u && nat_le u (f u)) ≡ (nat_lt tick u && nat_le u (g u))
    by (inl lt) = ap (λ k. nat_lt tick u && nat_le u k) (same u lt (ltb-true u reach short))
    by (inr le) = ap (λ b. b && nat_le u (f u)) (le-ltb tick u le) ∙ ap (λ b. b && nat_le u (g u)) (sym (le-ltb tick u le))
same_timely tick _ f g same short = refl

pub write_verdict_law : WriteVerdictLaw
write_verdict_law n tick line bytes given outcome rules banks some before after f room keys comes room_is has =
    judge_write_law n tick line bytes given outcome rules banks some before after f.members f.waits f.lost f.last_answer f.last_store room
    (at_store latest_at outcome) comes.stands.finds (times rules banks line before r after f comes) room_is (λ u place is. ap (at_store latest_at) is)
    ∙ ap (λ worn. Told worn (write_timely tick (at_store latest_at outcome) outcome)) (sym comes.stands.worn_is)
    ∙ ap (Told f.worn) (sym (same_timely tick outcome (latest_kept rules keys.stores.items keys.reads.items (cut_ticks after) (bank_in banks line) tick) latest_at
    (latest rules banks line before r after f comes keys has (own (bank_in banks line) r (beside banks line after))) comes.short))
  where
    r : Row n
    r = a_write tick line bytes given outcome

    latest_at : ℕ → ℕ
    latest_at u = latest_store rules u r (beside banks line before) (beside banks line after)

    -- by whether a worn row came before it, and whether it is in time
    Told : Bool → Bool → Option Rule
    Told worn timely =
        first_broken (may_have tick (Writes line bytes given) some outcome) room
        (write_fits rules.writes tick line f.members (next_accepted line (beside banks line after)) outcome)
        (is_worn outcome || (not worn && stored_early (first_worn (beside banks line after)) outcome))
        (timely && apart_kept rules.read_ticks f.members f.waits f.last_answer f.last_store outcome)

pub read_verdict_law : ReadVerdictLaw
read_verdict_law n now tick line outcome rules banks before after f room keys kept comes room_is has line_kept le sized is =
    judge_read_law n tick line outcome rules banks before after f.members f.waits keys.lines.items f.lost f.last_answer f.last_store room
    comes.stands.finds (times rules banks line before r after f comes) room_is
    (line_keys_law n (bank_in banks) line tick before r after keys.lines.items has.of_lines has.short refl)
    ∙ ap (λ newest. Told newest (cover tick line past later) (bound rules tick past later) (cut_ticks later)) (sym is)
    ∙ ap (λ given. Told kept.newest given (bound rules tick past later) (cut_ticks later))
    (cover_kept_law n now tick line past later kept.newest kept.unclosed kept.runs.items line_kept le sized)
    ∙ ap (λ by. Told kept.newest given by (cut_ticks later)) bounds
    ∙ ap (Told kept.newest given (read_by rules (bank_in banks line) f keys tick)) (cuts_of_bank_law n (bank_in banks) (bank_in banks line) after)
  where
    r : Row n
    r = a_read tick line outcome

    past : List (Row n)
    past = beside banks line before

    later : List (Row n)
    later = beside banks line after

    given : List Bool
    given = cover_kept n tick (soonest line later) kept.unclosed kept.runs.items

    -- by the newest bytes, those that the queue gives, the tick by which it has ended, and the cuts to come
    Told : List ℕ → List Bool → ℕ → List ℕ → Option Rule
    Told newest given by ticks =
        first_broken (may_have tick (Reads line) newest outcome) room
        (read_fits rules.reads (length f.waits + f.lost) (gives_all given) (at_head_kept keys.lines.items line tick f.members) outcome) true
        (read_timely tick rules.read_ticks by (first_of_ticks ticks) outcome
        && apart_kept rules.read_ticks f.members f.waits f.last_answer f.last_store outcome)

    numbers : length (waiting tick [] past) ≡ length f.waits + f.lost
    numbers = (numbers_law n tick past f.members f.waits f.lost f.last_answer f.last_store comes.stands.finds.kept).reads

    delays : delay rules rules.policy tick past later ≡ delay_kept rules (four_kept keys.stores.items (bank_in banks line) tick f.fourth)
    delays =
        delay_law n tick tick rules past later f.first f.second f.third f.fourth comes.stands.four comes.stands.passed
        ∙ ap (delay_kept rules) (four rules banks line before r after f comes keys has (own (bank_in banks line) r later) refl f.fourth
        (λ d is. came_below tick past comes.stands.passed 3 d (sym comes.stands.four.at_4 ∙ is)) comes.reached)

    bounds : bound rules tick past later ≡ read_by rules (bank_in banks line) f keys tick
    bounds =
        ap (λ k. tick + delay rules rules.policy tick past later + (k + 1) * rules.read_ticks) numbers
        ∙ ap (λ k. tick + k + (length f.waits + f.lost + 1) * rules.read_ticks) delays

-- the newest bytes of a line are told by its bank's rows
pub newest_beside : {n : ℕ} (bank_of : ℕ → ℕ) (line : ℕ) (rows : List (Row n)) → newest (of_bank bank_of (bank_of line) rows) line ≡ newest rows line
newest_beside bank_of line [] = refl
newest_beside {n} bank_of line (q ∷ rows) = by (is_of bank_of (bank_of line) q.asks) refl (newest_beside bank_of line rows)
  where
    apart : (asks : Asks n) → is_of bank_of (bank_of line) asks ≡ false → (asks_write_of line asks && accepts q.outcome) ≡ false
    apart (Reads at) differs = refl
    apart Cuts differs = refl
    apart (Writes at bytes given) differs = which (at == line) refl
      where
        which : (b : Bool) → (at == line) ≡ b → (b && accepts q.outcome) ≡ false
        which true is = let k : true ≡ false = sym (eq-eqb (bank_of at) (bank_of line) (ap bank_of (eqb-true at line is))) ∙ differs in absurd (cc)
        which false is = refl

    by : (b : Bool) → is_of bank_of (bank_of line) q.asks ≡ b → newest (of_bank bank_of (bank_of line) rows) line ≡ newest rows line
        → newest (cond b (q ∷ of_bank bank_of (bank_of line) rows) (of_bank bank_of (bank_of line) rows)) line ≡ newest (q ∷ rows) line
    by true is ih = ap (lay_row line q) ih
    by false is ih = ih ∙ ap (λ b. cond b (laid (bytes_of q.asks) (given_of q.asks) (newest rows line)) (newest rows line)) (sym (apart q.asks is))
