-- By when the outcomes of rows that keep the rules have come.
use Rattle.std.proofs.Common.{◌≡◌, ℕ, ◌+◌, ◌*◌, ◌≤◌, ◌==◌, Bool, true, false, List, [], ◌∷◌, ◌++◌, length, refl, ◌∙◌, subst, cond, arith, eqb-true}
use Rattle.std.{specs.Option.ForSome, specs.Prelude.{All, filter, max, nat_le, nat_lt, reverse}, proofs.lemmas.Bool.leb-true}
use Rattle.std.proofs.lemmas.List.{length-append, length-reverse, reverse-append, reverse-reverse}
use Rattle.std.proofs.{lemmas.List.Elements.{All-nil, All-cons, All-head, All-tail, All-push, All-same}, lemmas.List.Sums.count_by-le-length, lemmas.Nat.mul-le}
use Rattle.masked_bytes.proofs.Truth.{and_first, and_second}
use Rattle.bank_shape.specs.{declared.pace.Policy.Policy, declared.pace.Policy.TheVariants.{Pause, Plain, Cancel}}
use Rattle.result_rows.specs.{Outcomes.tick_of, declared.Outcome.Outcome}
use Rattle.result_rows.specs.declared.Outcome.TheVariants as out
use Rattle.row_rules.specs.{Queueing.{awaits, has_room, merges_at, pending, queue_fits, waiting}, Rows.{each_row, is_cut, accepted_of}, Serving.{is_served, may_have, owed}}
use Rattle.row_rules.specs.Table.{of_bank, is_of}
use Rattle.row_rules.specs.Ticking.{asks_in_time, attempt, bound, came_since, cuts_to, delay, first_cut_at, last_store, longest, reads_in, stores_in, tries, writings}
use Rattle.row_rules.specs.{declared.Asks.Asks, declared.Asks.TheVariants.{Reads, Writes, Cuts}, declared.Row.Row, declared.Rules.Rules}
use Rattle.check_verdict.specs.Verdicts.{all_have_room, bank_in, keeps, keeps_all}
use Rattle.check_verdict.specs.declared.Rule.TheVariants as rule
use Rattle.check_laws.specs.Ticks.{longest_among, SoonLaw}

-- ---- numbers

longest-more : (rules : Rules) (w s c count : ℕ) → w ≤ count → s ≤ count → c ≤ count → longest rules w s c ≤ longest rules count count count
longest-more rules w s c count fw fs fc =
    let stores : writings rules.twice * (2 * w + rules.spares) ≤ writings rules.twice * (2 * count + rules.spares) = mul-le _ _ _ _ (omega arith) (omega (arith, fw)) in
    let works : tries rules.policy * attempt rules * (writings rules.twice * (2 * w + rules.spares) + c) ≤ tries rules.policy * attempt rules * (writings rules.twice * (2 * count + rules.spares) + count) =
    mul-le _ _ _ _ (omega arith) (omega (arith, stores, fc)) in
    let serves : rules.read_ticks * (2 * s + c) ≤ rules.read_ticks * (2 * count + count) = mul-le _ _ _ _ (omega arith) (omega (arith, fs, fc)) in
    omega (arith, works, serves)

module _ {n : ℕ} where
  filter-few : (test : Row n → Bool) (rows : List (Row n)) → length (filter test rows) ≤ length rows
  filter-few test [] = omega arith
  filter-few test (q ∷ rows) = by (test q) (filter-few test rows)
    where
      by : (b : Bool) → length (filter test rows) ≤ length rows → length (cond b (q ∷ filter test rows) (filter test rows)) ≤ length (q ∷ rows)
      by true ih = omega (arith, ih)
      by false ih = omega (arith, ih)

  waiting-few : (t : ℕ) (between rows : List (Row n)) → length (waiting t between rows) ≤ length rows
  waiting-few t between [] = omega arith
  waiting-few t between (q ∷ rows) = by (awaits t between q) (waiting-few t (q ∷ between) rows)
    where
      by : (b : Bool) → length (waiting t (q ∷ between) rows) ≤ length rows
          → length (cond b (q ∷ waiting t (q ∷ between) rows) (waiting t (q ∷ between) rows)) ≤ length (q ∷ rows)
      by true ih = omega (arith, ih)
      by false ih = omega (arith, ih)

  -- ---- rows up to a tick

  module _ (last : ℕ) where
    abbrev AreEarly : List (Row n) → Type 0
    AreEarly [] = Unit {0}
    AreEarly (q ∷ rows) = (q.tick ≤ last) × AreEarly rows

    early-all : (rows : List (Row n)) → All (λ r. r.tick ≤ last) rows → AreEarly rows
    early-all [] all = tt
    early-all (q ∷ rows) all = (All-head (λ (r : Row n). r.tick ≤ last) q rows all, early-all rows (All-tail (λ (r : Row n). r.tick ≤ last) q rows all))

    early-of : (test : Row n → Bool) (rows : List (Row n)) → AreEarly rows → AreEarly (filter test rows)
    early-of test [] early = tt
    early-of test (q ∷ rows) early = by (test q) early.0 (early-of test rows early.1)
      where
        by : (b : Bool) → q.tick ≤ last → AreEarly (filter test rows) → AreEarly (cond b (q ∷ filter test rows) (filter test rows))
        by true here ih = (here, ih)
        by false here ih = ih

    -- the tick of a merged write is that of a row, and so is that of a lost read
    merged-early : (line tick : ℕ) (after : List (Row n)) → AreEarly after → merges_at line tick after ≡ true → tick ≤ last
    merged-early line tick [] early h = absurd (cc)
    merged-early line tick (q ∷ after) early h = by (accepted_of line q) h (λ k. merged-early line tick after early.1 k)
      where
        by : (b : Bool) → cond b (q.tick == tick) (merges_at line tick after) ≡ true → (merges_at line tick after ≡ true → tick ≤ last) → tick ≤ last
        by true h ih = omega (arith, eqb-true q.tick tick h, early.0)
        by false h ih = ih h

    lost-early : (tick : ℕ) (after : List (Row n)) → AreEarly after → first_cut_at tick after ≡ true → tick ≤ last
    lost-early tick [] early h = absurd (cc)
    lost-early tick (q ∷ after) early h = by (is_cut q) h (λ k. lost-early tick after early.1 k)
      where
        by : (b : Bool) → cond b (q.tick == tick) (first_cut_at tick after) ≡ true → (first_cut_at tick after ≡ true → tick ≤ last) → tick ≤ last
        by true h ih = omega (arith, eqb-true q.tick tick h, early.0)
        by false h ih = ih h

  -- ---- one row

  delay-short : (rules : Rules) (policy : Policy) (a : ℕ) (before after : List (Row n)) → delay rules policy a before after ≤ attempt rules + max rules.read_ticks rules.iter_ticks
  delay-short rules Pause a before after = omega arith
  delay-short rules Plain a before after = omega arith
  delay-short rules Cancel a before after = by (nat_lt (came_since (last_store a (before ++ after)) before) 4)
    where
      by : (b : Bool) → cond b 0 (max rules.read_ticks rules.iter_ticks) ≤ attempt rules + max rules.read_ticks rules.iter_ticks
      by true = omega arith
      by false = omega arith

  module _ (rules : Rules) (banks : List ℕ) (last count : ℕ) (before : List (Row n)) (tick : ℕ) (after : List (Row n))
      (few : length before + (1 + length after) ≤ count) (early : AreEarly last after) (here : tick ≤ last) where
    abbrev latest : ℕ
    latest = last + longest_among rules count

    abbrev row : Asks n → Outcome n → Row n
    row asks o = record { tick = tick; asks = asks; outcome = o }

    -- the rows of a bank
    abbrev of : ℕ → List (Row n) → List (Row n)
    of bank rows = of_bank (bank_in banks) bank rows

    few-of : (bank : ℕ) (rows : List (Row n)) → length (of bank rows) ≤ length rows
    few-of bank rows = filter-few (λ r. is_of (bank_in banks) bank r.asks) rows

    own-soon : (u : ℕ) → (u == tick) ≡ true → u ≤ latest
    own-soon u h = omega (arith, eqb-true u tick h, here)

    read-soon : (bank u : ℕ) → nat_le u (bound rules tick (of bank before) (of bank after)) ≡ true → u ≤ latest
    read-soon bank u h =
        let most : u ≤ bound rules tick (of bank before) (of bank after) = leb-true u _ h in
        let wait : length (waiting tick [] (of bank before)) ≤ length (of bank before) = waiting-few tick [] (of bank before) in
        let queue : (length (waiting tick [] (of bank before)) + 1) * rules.read_ticks ≤ (count + 1) * rules.read_ticks = mul-le _ _ _ _ (omega (arith, wait, few-of bank before, few)) (omega arith) in
        omega (arith, most, queue, here, delay-short rules rules.policy tick (of bank before) (of bank after))

    stored-soon : (bank u : ℕ) (o : Outcome n) (asks : Asks n) (w s c : ℕ) → w ≤ length (of bank before ++ row asks o ∷ of bank after) → s ≤ length (of bank before ++ row asks o ∷ of bank after)
        → c ≤ length (of bank after) → nat_le u (tick + longest rules w s c) ≡ true → u ≤ latest
    stored-soon bank u o asks w s c fw fs fc h =
        let most : u ≤ tick + longest rules w s c = leb-true u _ h in
        let size : length (of bank before ++ row asks o ∷ of bank after) ≡ length (of bank before) + (1 + length (of bank after)) = length-append (of bank before) (row asks o ∷ of bank after) ∙ omega arith in
        let fewer : length (of bank before) + (1 + length (of bank after)) ≤ count = omega (arith, few-of bank before, few-of bank after, few) in
        let more : longest rules w s c ≤ longest rules count count count = longest-more rules w s c count (omega (arith, fw, size, fewer)) (omega (arith, fs, size, fewer)) (omega (arith, fc, fewer)) in
        omega (arith, most, more, here)

    -- the rules as they look at a row of a bank
    soon : (bank : ℕ) (asks : Asks n) (o : Outcome n) (bytes : List ℕ) → may_have tick asks bytes o ≡ true
        → queue_fits rules (pending tick [] (of bank before)) (waiting tick [] (of bank before)) (row asks o) asks (of bank before) (of bank after) ≡ true
        → asks_in_time rules (row asks o) asks (of bank before) (of bank after) ≡ true
        → ForSome (tick_of o) (λ u. u ≤ latest)
    soon bank (Reads line) (out.Read u place some) bytes served queue ticks =
        λ v at. let same : u ≡ v = cc in
        subst (λ (v : ℕ). v ≤ latest) same (read-soon bank u (and_first _ _ (and_second (nat_le (tick + rules.read_ticks) u) _ ticks)))
    soon bank (Reads line) (out.Forwarded u some) bytes served queue ticks =
        λ v at. let same : u ≡ v = cc in
        subst (λ (v : ℕ). v ≤ latest) same (own-soon u (and_first _ _ served))
    soon bank (Reads line) (out.Busy u) bytes served queue ticks =
        λ v at. let same : u ≡ v = cc in
        subst (λ (v : ℕ). v ≤ latest) same (own-soon u served)
    soon bank (Reads line) (out.Lost u) bytes served queue ticks =
        λ v at. let same : u ≡ v = cc in
        let lost : u ≤ last = lost-early last u (of bank after) (early-of last (λ r. is_of (bank_in banks) bank r.asks) after early) (and_first _ _ ticks) in
        omega (arith, lost, same)
    soon bank (Writes line given some) (out.Stored u place) bytes served queue ticks =
        λ v at. let same : u ≡ v = cc in
        let o : Outcome n = out.Stored u place in
        let asks : Asks n = Writes line given some in
        let all : List (Row n) = of bank before ++ row asks o ∷ of bank after in
        subst (λ (v : ℕ). v ≤ latest) same
        (stored-soon bank u o asks (stores_in tick u all) (reads_in tick u all) (cuts_to u (of bank after))
        (count_by-le-length _ all) (count_by-le-length _ all) (count_by-le-length _ (of bank after)) (and_second (nat_lt tick u) _ ticks))
    soon bank (Writes line given some) (out.Merged u) bytes served queue ticks =
        λ v at. let same : u ≡ v = cc in
        let ps : List (Row n) = pending tick [] (of bank before) in
        let merged : u ≤ last = merged-early last line u (of bank after) (early-of last (λ r. is_of (bank_in banks) bank r.asks) after early) queue in
        omega (arith, merged, same)
    soon bank (Writes line given some) (out.Queued u) bytes served queue ticks =
        λ v at. let same : u ≡ v = cc in
        subst (λ (v : ℕ). v ≤ latest) same (own-soon u served)
    soon bank (Writes line given some) (out.Full u) bytes served queue ticks =
        λ v at. let same : u ≡ v = cc in
        subst (λ (v : ℕ). v ≤ latest) same (own-soon u served)
    soon bank (Writes line given some) (out.Worn u) bytes served queue ticks =
        λ v at. let same : u ≡ v = cc in
        subst (λ (v : ℕ). v ≤ latest) same (own-soon u served)
    soon bank Cuts (out.Cut u) bytes served queue ticks =
        λ v at. let same : u ≡ v = cc in
        subst (λ (v : ℕ). v ≤ latest) same (own-soon u served)
    soon bank (Reads line) _ bytes served queue ticks = absurd (cc served)
    soon bank (Writes line given some) _ bytes served queue ticks = absurd (cc served)
    soon bank Cuts _ bytes served queue ticks = absurd (cc served)

    -- a row that keeps all rules
    row_soon : (asks : Asks n) (o : Outcome n) → keeps_all rules banks before (row asks o) after ≡ true → ForSome (tick_of o) (λ u. u ≤ latest)
    row_soon (Reads line) o h =
        let rest = and_second (is_served before (row (Reads line) o) after) _ h in
        let queue = and_second (all_have_room banks rules before (row (Reads line) o) after) _ (and_first _ _ rest) in
        let later = and_second (keeps banks rules rule.Queue before (row (Reads line) o) after) _ rest in
        let ticks = and_second (keeps banks rules rule.Worn before (row (Reads line) o) after) _ later in
        soon (bank_in banks line) (Reads line) o (owed before (Reads line)) (and_first _ _ h)
        (and_second (has_room rules tick (of (bank_in banks line) before)) _ queue) (and_first _ _ (and_first _ _ ticks))
    row_soon (Writes line given some) o h =
        let rest = and_second (is_served before (row (Writes line given some) o) after) _ h in
        let queue = and_second (all_have_room banks rules before (row (Writes line given some) o) after) _ (and_first _ _ rest) in
        let later = and_second (keeps banks rules rule.Queue before (row (Writes line given some) o) after) _ rest in
        let ticks = and_second (keeps banks rules rule.Worn before (row (Writes line given some) o) after) _ later in
        soon (bank_in banks line) (Writes line given some) o (owed before (Writes line given some)) (and_first _ _ h)
        (and_second (has_room rules tick (of (bank_in banks line) before)) _ queue) (and_first _ _ (and_first _ _ ticks))
    row_soon Cuts o h = soon 0 Cuts o [] (and_first _ _ h) refl refl

module _ {n : ℕ} (rules : Rules) (banks : List ℕ) (last count : ℕ) where
  rows_soon : (rows after : List (Row n)) → length rows + length after ≤ count → AreEarly last rows → AreEarly last after → each_row (keeps_all rules banks) rows after ≡ true
      → All (λ r. ForSome (tick_of r.outcome) (λ tick. tick ≤ last + longest_among rules count)) rows
  rows_soon [] after few early later h = All-nil (λ (r : Row n). ForSome (tick_of r.outcome) (λ tick. tick ≤ last + longest_among rules count))
  rows_soon (r ∷ before) after few early later h =
      All-cons (λ (r : Row n). ForSome (tick_of r.outcome) (λ tick. tick ≤ last + longest_among rules count)) r before
      (row_soon rules banks last count before r.tick after (omega (arith, few)) later early.0 r.asks r.outcome (and_first _ _ h))
      (rows_soon before (r ∷ after) (omega (arith, few)) early.1 (early.0, later) (and_second (keeps_all rules banks before r after) _ h))

-- what holds of each holds of each the other way round
pub All-reverse : {X : Type 0} (P : X → Type 0) (xs : List X) → All P xs → All P (reverse xs)
All-reverse P [] all = all
All-reverse P (x ∷ xs) all =
    All-same P (reverse (x ∷ xs)) (reverse xs ++ x ∷ []) (reverse-append (x ∷ []) xs) (All-push P (reverse xs) x (All-reverse P xs (All-tail P x xs all)) (All-head P x xs all))

pub soon_law : SoonLaw
soon_law n rules banks rows last ok early =
    let P : Row n → Type 0 = λ r. ForSome (tick_of r.outcome) (λ tick. tick ≤ last + longest_among rules (length rows)) in
    subst (λ (rs : List (Row n)). All P rs) (reverse-reverse rows)
    (All-reverse P (reverse rows)
    (rows_soon rules banks last (length rows) (reverse rows) [] (omega (arith, length-reverse rows))
    (early-all last (reverse rows) (All-reverse (λ (r : Row n). r.tick ≤ last) rows early)) tt ok))
