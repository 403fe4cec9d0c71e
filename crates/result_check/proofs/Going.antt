-- The pass over all rows.
use Rattle.std.proofs.Common.{◌≡◌, ℕ, zero, suc, ◌+◌, ◌<◌, ◌≤◌, ◌&&◌, Bool, true, false, List, [], ◌∷◌, ◌++◌, length, take, drop, get_or, reverse, Option, Some, None, refl, sym, ap, ◌∙◌, cond, subst, arith}
use Rattle.std.{specs.List.Sorted.IsNonDecreasing, specs.Prelude.{All, IsPermutation, slice_get, nat_le, max, replicate}, proofs.Math.ListN.get_or-append}
use Rattle.std.proofs.{Math.Nat.{le-max_left, le-max_right}, Math.Seq.get_or-append_seam, lemmas.Bool.{leb-true, le-leb}}
use Rattle.std.proofs.lemmas.List.{length-drop, reverse-reverse, length-append, reverse-append, length-reverse, length-take, take-append-drop}
use Rattle.std.proofs.{lemmas.List.Elements.{All-take, All-cons}, lemmas.List.Sorted.{All-permutation, IsPermutation-reverse, IsNonDecreasingBy-drop, length_permutation}}
use Rattle.std.proofs.lemmas.Option.{get_or_from_slice_get}
use Rattle.masked_bytes.{specs.Masked.none_given, proofs.Truth.{and_first, and_second}}
use Rattle.result_rows.specs.declared.Outcome.{Outcome}
use Rattle.result_rows.specs.declared.Outcome.TheVariants as out
use Rattle.row_rules.specs.{Rows.{asks_cut, asks_read, asks_write, is_cut, line_of}, declared.Row.Row, declared.Rules.Rules}
use Rattle.check_judging.specs.{Cutting.cut_ticks, Keys.{key, store_key, store_keys, read_key, read_keys, all_short}, Rising.rising, Runs.GivesSized}
use Rattle.check_verdict.specs.{Covering.KeptLine, RowVerdicts.AreUsable, States.{Facts, Stands, no_facts}, Tables.around}
use Rattle.check_verdict.specs.{Verdicts.{bank_in, all_rules, broken_by, or_later, verdict_from, verdict_of, no}, declared.Rule.Rule, declared.known.Coming.Coming}
use Rattle.check_verdict.specs.{declared.lines.CheckedLine.CheckedLine, declared.lines.Run.Run}
use Rattle.result_check.specs.{Coming.{coming_at, coming_of}, Going.GoesOn, Keeping.{banks_from, facts_in, Knows, KnowsLines, HasPassed, Meets}, Lines.AreFresh}
use Rattle.result_check.{specs.Tables.{IsTable, IsRowOf, IsFound}, specs.declared.found.Found.Found, proofs.Finding.none_left}
use Rattle.result_check.proofs.Rows.{one_of_all, one_of_every, all_short_of_brief}

-- Keys and cuts

-- ticks of cuts don't fall
cut_bound : {n : ℕ} (t : ℕ) (rows : List (Row n)) → rising t rows ≡ true → (k d : ℕ) → k < length (cut_ticks rows) → t ≤ get_or (cut_ticks rows) k d
cut_bound t [] h k d lt = absurd (omega (arith, lt))
cut_bound {n} t (q ∷ rows) h k d lt = by (is_cut q) k lt (λ j less. cut_bound q.tick rows (and_second _ _ h) j d less)
  where
    le : t ≤ q.tick
    le = leb-true t q.tick (and_first _ _ h)

    by : (b : Bool) (k : ℕ) → k < length (cond b (q.tick ∷ cut_ticks rows) (cut_ticks rows)) → ((j : ℕ) → j < length (cut_ticks rows) → q.tick ≤ get_or (cut_ticks rows) j d)
        → t ≤ get_or (cond b (q.tick ∷ cut_ticks rows) (cut_ticks rows)) k d
    by true zero lt ih = le
    by true (suc k) lt ih = let a = ih k (omega (arith, lt)) in omega (arith, a, le)
    by false k lt ih = let a = ih k lt in omega (arith, a, le)

sorted_front : (x : ℕ) (xs : List ℕ) → ((k d : ℕ) → k < length xs → x ≤ get_or xs k d) → IsNonDecreasing xs → IsNonDecreasing (x ∷ xs)
sorted_front x xs low h zero zero d le lt = omega arith
sorted_front x xs low h zero (suc j) d le lt = low j d (omega (arith, lt))
sorted_front x xs low h (suc i) zero d le lt = absurd (omega (arith, le))
sorted_front x xs low h (suc i) (suc j) d le lt = h i j d (omega (arith, le)) (omega (arith, lt))

pub cuts_sorted : {n : ℕ} (t : ℕ) (rows : List (Row n)) → rising t rows ≡ true → IsNonDecreasing (cut_ticks rows)
cuts_sorted t [] h = λ i j d le lt. absurd (omega (arith, lt))
cuts_sorted {n} t (q ∷ rows) h = by (is_cut q) (cuts_sorted q.tick rows (and_second _ _ h))
  where
    by : (b : Bool) → IsNonDecreasing (cut_ticks rows) → IsNonDecreasing (cond b (q.tick ∷ cut_ticks rows) (cut_ticks rows))
    by true ih = sorted_front q.tick (cut_ticks rows) (λ k d lt. cut_bound q.tick rows (and_second _ _ h) k d lt) ih
    by false ih = ih

-- what the rows behind a row bring, by its index
pub coming_length : {n : ℕ} (banks : List ℕ) (rows : List (Row n)) → length (coming_of banks rows) ≡ length rows
coming_length banks [] = refl
coming_length banks (q ∷ rows) = let h = coming_length banks rows in omega (arith, h, length-append (coming_of banks rows) (coming_at banks q.asks rows ∷ []))

pub coming_there : {n : ℕ} (banks : List ℕ) (rows : List (Row n)) (i : ℕ) (r : Row n) → drop i rows ≡ r ∷ drop (suc i) rows → (k : ℕ) (d : Coming) → k + 1 + i ≡ length rows
    → get_or (coming_of banks rows) k d ≡ coming_at banks r.asks (drop (suc i) rows)
coming_there banks [] i r here k d is = absurd (omega (arith, is))
coming_there {n} banks (q ∷ rows) zero r here k d is =
    let same : q ≡ r = cc in
    let size = coming_length banks rows in
    let last : k ≡ length (coming_of banks rows) = omega (arith, size, is) in
    ap (λ j. get_or (coming_of banks (q ∷ rows)) j d) last ∙ get_or-append_seam (coming_of banks rows) (coming_at banks q.asks rows) [] d
    ∙ ap (λ (x : Row n). coming_at banks x.asks rows) same
coming_there {n} banks (q ∷ rows) (suc i) r here k d is =
    let size = coming_length banks rows in
    get_or-append (coming_of banks rows) (coming_at banks q.asks rows ∷ []) d k (omega (arith, size, is)) ∙ coming_there banks rows i r here k d (omega (arith, is))

pub coming_got : {n : ℕ} (banks : List ℕ) (rows : List (Row n)) (i : ℕ) (r : Row n) → drop i rows ≡ r ∷ drop (suc i) rows → (coming : List Coming) → coming ≡ coming_of banks rows → (k : ℕ) (x : Coming)
    → k + 1 + i ≡ length rows → slice_get coming k ≡ Some x → x ≡ coming_at banks r.asks (drop (suc i) rows)
coming_got banks rows i r here coming is k x at there =
    sym (get_or_from_slice_get coming k x x there) ∙ ap (λ xs. get_or xs k x) is ∙ coming_there banks rows i r here k x at

-- few keys
store_key_few : {n : ℕ} (bank_of : ℕ → ℕ) (rows : List (Row n)) → length (store_keys bank_of rows) ≤ length rows
store_key_few bank_of [] = omega arith
store_key_few {n} bank_of (q ∷ rows) = by q.outcome (store_key_few bank_of rows)
  where
    by : (o : Outcome n) → length (store_keys bank_of rows) ≤ length rows → length (store_key bank_of q o (store_keys bank_of rows)) ≤ suc (length rows)
    by (out.Stored u place) le = one (asks_write q.asks)
      where
        one : (b : Bool) → length (cond b (key (bank_of (line_of q.asks)) u ∷ store_keys bank_of rows) (store_keys bank_of rows)) ≤ suc (length rows)
        one true = omega (arith, le)
        one false = omega (arith, le)
    by _ le = omega (arith, le)

read_key_few : {n : ℕ} (bank_of : ℕ → ℕ) (rows : List (Row n)) → length (read_keys bank_of rows) ≤ length rows
read_key_few bank_of [] = omega arith
read_key_few {n} bank_of (q ∷ rows) = by q.outcome (read_key_few bank_of rows)
  where
    by : (o : Outcome n) → length (read_keys bank_of rows) ≤ length rows → length (read_key bank_of q o (read_keys bank_of rows)) ≤ suc (length rows)
    by (out.Read u place bytes) le = one (asks_read q.asks)
      where
        one : (b : Bool) → length (cond b (key (bank_of (line_of q.asks)) u ∷ read_keys bank_of rows) (read_keys bank_of rows)) ≤ suc (length rows)
        one true = omega (arith, le)
        one false = omega (arith, le)
    by _ le = omega (arith, le)

pub cuts_few : {n : ℕ} (rows : List (Row n)) → length (cut_ticks rows) ≤ length rows
cuts_few [] = omega arith
cuts_few {n} (q ∷ rows) = by (is_cut q) (cuts_few rows)
  where
    by : (b : Bool) → length (cut_ticks rows) ≤ length rows → length (cond b (q.tick ∷ cut_ticks rows) (cut_ticks rows)) ≤ suc (length rows)
    by true le = omega (arith, le)
    by false le = omega (arith, le)

pub usable : {n : ℕ} (banks : List ℕ) (rows : List (Row n)) (found : Found) → length rows ≤ 400000 → IsFound banks rows found → AreUsable found.keys
usable banks rows found few f = record {
  stores_sorted = f.stores_sorted;
  reads_sorted = f.reads_sorted;
  lines_sorted = f.lines_sorted;
  few_stores = let a = store_key_few (bank_in banks) rows in let b = length_permutation (store_keys (bank_in banks) rows) found.keys.stores.items f.stores in omega (arith, a, b, few);
  few_reads = let a = read_key_few (bank_in banks) rows in let b = length_permutation (read_keys (bank_in banks) rows) found.keys.reads.items f.reads in omega (arith, a, b, few);
}

-- The loop

-- one tick more
drop_one : (xs : List ℕ) (k x : ℕ) (rest : List ℕ) → drop k xs ≡ x ∷ rest → (drop (suc k) xs ≡ rest) × (suc k ≤ length xs)
drop_one [] zero x rest is = absurd (cc)
drop_one [] (suc k) x rest is = absurd (cc)
drop_one (y ∷ ys) zero x rest is = (cc, omega arith)
drop_one (y ∷ ys) (suc k) x rest is = let d = drop_one ys k x rest is in (d.0, let le = d.1 in omega (arith, le))

-- the rows before one
pub before_more : {n : ℕ} (rows : List (Row n)) (i : ℕ) (r : Row n) → drop i rows ≡ r ∷ drop (suc i) rows → reverse (take (suc i) rows) ≡ r ∷ reverse (take i rows)
before_more {n} rows i r here = ap reverse (taken rows i here) ∙ reverse-append (take i rows) (r ∷ [])
  where
    taken : (rows : List (Row n)) (i : ℕ) → drop i rows ≡ r ∷ drop (suc i) rows → take (suc i) rows ≡ take i rows ++ r ∷ []
    taken [] zero is = absurd (cc)
    taken [] (suc i) is = absurd (cc)
    taken (q ∷ rows) zero is = let same : q ≡ r = cc in ap (λ x. x ∷ []) same
    taken (q ∷ rows) (suc i) is = ap (λ xs. q ∷ xs) (taken rows i is)

module _ {n : ℕ} (rules : Rules) (banks : List ℕ) (rows : List (Row n)) (table : IsTable (length banks) rows) (found : Found) (finds : IsFound banks rows found)
    (i : ℕ) (r : Row n) (here : drop i rows ≡ r ∷ drop (suc i) rows) (cuts : ℕ) (kept : List Facts) (joined : Option ℕ) (lines : List (CheckedLine n)) (h : GoesOn rules banks rows i found cuts kept joined lines) where
  abbrev before : List (Row n)
  before = reverse (take i rows)

  abbrev after : List (Row n)
  after = drop (suc i) rows

  whole : around before r after ≡ rows
  whole = ap (λ xs. xs ++ r ∷ after) (reverse-reverse (take i rows)) ∙ ap (λ xs. take i rows ++ xs) (sym here) ∙ take-append-drop i rows

  rises_here : rising h.from (r ∷ after) ≡ true
  rises_here = ap (rising h.from) (sym here) ∙ h.rises

  pub passed_by : h.from ≤ r.tick
  passed_by = leb-true h.from r.tick (and_first _ _ rises_here)

  rises_after : rising r.tick after ≡ true
  rises_after = and_second _ _ rises_here

  sized_before : All (λ (q : Row n). GivesSized q) before
  sized_before = All-permutation (λ (q : Row n). GivesSized q) (take i rows) before (IsPermutation-reverse (take i rows)) (All-take (λ (q : Row n). GivesSized q) i rows table.sized)

  pub next_cuts : (next : ℕ) → next ≡ cond (asks_cut r.asks) (cuts + 1) cuts → (drop next found.cuts.items ≡ cut_ticks after) × (next ≤ length found.cuts.items)
  next_cuts next is = by (asks_cut r.asks) (ap cut_ticks here) is
    where
      by : (b : Bool) → cut_ticks (drop i rows) ≡ cond b (r.tick ∷ cut_ticks after) (cut_ticks after) → next ≡ cond b (cuts + 1) cuts → (drop next found.cuts.items ≡ cut_ticks after) × (next ≤ length found.cuts.items)
      by true front is =
          let d = drop_one found.cuts.items cuts r.tick (cut_ticks after) (h.cuts_left ∙ front) in
          (let same : next ≡ suc cuts = omega (arith, is) in ap (λ k. drop k found.cuts.items) same ∙ d.0, let le = d.1 in omega (arith, is, le))
      by false front is = (ap (λ k. drop k found.cuts.items) is ∙ h.cuts_left ∙ front, let le = h.cuts_within in omega (arith, is, le))

  pub meets : (next : ℕ) (piece : List ℕ) (coming : Coming) → next ≡ cond (asks_cut r.asks) (cuts + 1) cuts → piece ≡ drop next found.cuts.items → coming ≡ coming_at banks r.asks after
      → Meets rules banks found.keys before r after kept joined lines coming piece
  meets next piece coming is piece_is brings = record {
    among = record {
      has = record {
        of_stores = subst (λ rs. IsPermutation (store_keys (bank_in banks) rs) found.keys.stores.items) (sym whole) finds.stores;
        of_reads = subst (λ rs. IsPermutation (read_keys (bank_in banks) rs) found.keys.reads.items) (sym whole) finds.reads;
        of_lines = subst (λ rs. IsPermutation (store_keys (λ line. line) rs) found.keys.lines.items) (sym whole) finds.lines;
        short = ap all_short whole ∙ all_short_of_brief rows table.brief;
      };
      later = rises_after;
      brief = one_of_all _ rows i r after here table.brief;
      sized = All-cons (λ (q : Row n). GivesSized q) r before (one_of_every (λ (q : Row n). GivesSized q) rows i r after here table.sized) sized_before;
      reached = (one_of_every (IsRowOf (length banks)) rows i r after here table.each).reached;
      few = let a = length-reverse (take i rows) in let b = length-take i rows in let few_rows = table.few in omega (arith, a, b, few_rows);
      brings = brings;
      cuts_are = λ not_cut. piece_is ∙ (next_cuts next is).0;
    };
    from = h.from;
    passed_by = passed_by;
    knows = h.knows;
    lines_known = h.lines_known;
  }

  -- the row breaks a rule
  pub goes_no : (one : Rule) → Some one ≡ broken_by rules banks all_rules before r after → no (i + 1) one ≡ verdict_of rules banks rows
  goes_no one is =
      ap (λ o. or_later (i + 1) o (verdict_from rules banks (i + 1 + 1) (r ∷ before) after)) is
      ∙ sym (h.so_far ∙ ap (verdict_from rules banks (i + 1) before) here)

  -- it breaks none
  pub goes_on : (next : ℕ) (broken : Option Rule) (kept2 : List Facts) (joined2 : Option ℕ) (lines2 : List (CheckedLine n)) → next ≡ cond (asks_cut r.asks) (cuts + 1) cuts
      → HasPassed rules banks before r after broken kept2 joined2 lines2 → broken ≡ None → length kept2 ≡ length kept → length lines2 ≡ length lines
      → GoesOn rules banks rows (i + 1) found next kept2 joined2 lines2
  goes_on next broken kept2 joined2 lines2 is p none size long =
      let one : i + 1 ≡ suc i = omega arith in
      let back : reverse (take (i + 1) rows) ≡ r ∷ before = ap (λ k. reverse (take k rows)) one ∙ before_more rows i r here in
      let rest : drop (i + 1) rows ≡ after = ap (λ k. drop k rows) one in
      record {
        from = r.tick;
        rises = ap (rising r.tick) rest ∙ rises_after;
        knows = subst (λ rs. Knows rules banks r.tick kept2 joined2 rs) (sym back) (p.knows none);
        lines_known = subst (λ rs. KnowsLines banks r.tick lines2 rs) (sym back) (p.lines_known none);
        exist = λ k d lt. let e = h.exist k d lt in omega (arith, e, size);
        size = long ∙ h.size;
        cuts_left = (next_cuts next is).0 ∙ ap cut_ticks (sym rest);
        cuts_within = (next_cuts next is).1;
        so_far =
            h.so_far ∙ ap (verdict_from rules banks (i + 1) before) here
            ∙ ap (λ o. or_later (i + 1) o (verdict_from rules banks (i + 1 + 1) (r ∷ before) after)) (sym p.told ∙ none)
            ∙ ap (λ rs. verdict_from rules banks (i + 1 + 1) rs after) (sym back)
            ∙ ap (verdict_from rules banks (i + 1 + 1) (reverse (take (i + 1) rows))) (sym rest);
      }

-- no row is left
pub goes_yes : {n : ℕ} (rules : Rules) (banks : List ℕ) (rows : List (Row n)) (i : ℕ) (found : Found) (cuts : ℕ) (kept : List Facts) (joined : Option ℕ) (lines : List (CheckedLine n))
    → length rows ≤ i → GoesOn rules banks rows i found cuts kept joined lines → verdict_from rules banks (i + 1) (reverse (take i rows)) [] ≡ verdict_of rules banks rows
goes_yes rules banks rows i found cuts kept joined lines le h = sym (h.so_far ∙ ap (verdict_from rules banks (i + 1) (reverse (take i rows))) (none_left i rows le))

-- Before the first row

pub facts_push : (kept : List Facts) → ((bank : ℕ) → facts_in kept bank ≡ no_facts) → (bank : ℕ) → facts_in (kept ++ no_facts ∷ []) bank ≡ no_facts
facts_push [] h zero = refl
facts_push [] h (suc bank) = refl
facts_push (f ∷ kept) h zero = h 0
facts_push (f ∷ kept) h (suc bank) = facts_push kept (λ k. h (suc k)) bank

pub record AreNew (counter : ℕ) (kept : List Facts) : Type 0 where
  pub number : length kept ≡ counter
  pub facts : (bank : ℕ) → facts_in kept bank ≡ no_facts

pub record AreNewLines (n counter : ℕ) (lines : List (CheckedLine n)) : Type 0 where
  pub number : length lines ≡ counter
  pub fresh : AreFresh n lines

-- each bank is below the number of banks
banks_least : (number : ℕ) (banks : List ℕ) → number ≤ banks_from number banks
banks_least number [] = omega arith
banks_least number (b ∷ banks) = let h = banks_least (max number (b + 1)) banks in let k = le-max_left number (b + 1) in omega (arith, h, k)

banks_below : (number : ℕ) (banks : List ℕ) → All (λ bank. bank < banks_from number banks) banks
banks_below number [] = λ i d lt. absurd (omega (arith, lt))
banks_below number (b ∷ banks) = All-cons (λ bank. bank < banks_from number (b ∷ banks)) b banks
    (let h = banks_least (max number (b + 1)) banks in let k = le-max_right number (b + 1) in omega (arith, h, k)) (banks_below (max number (b + 1)) banks)

-- no row has passed
pub goes_first : {n : ℕ} (rules : Rules) (banks : List ℕ) (rows : List (Row n)) (found : Found) (kept : List Facts) (joined : Option ℕ) (lines : List (CheckedLine n)) → IsTable (length banks) rows → IsFound banks rows found
    → length kept ≡ banks_from 0 banks → ((bank : ℕ) → facts_in kept bank ≡ no_facts) → length lines ≡ length banks → AreFresh n lines → joined ≡ None
    → GoesOn rules banks rows 0 found 0 kept joined lines
goes_first {n} rules banks rows found kept joined lines table finds number facts long fresh none = record {
  from = 0;
  rises = table.rises;
  knows = subst (λ j. Knows {n = n} rules banks 0 kept j []) (sym none) (record {
    at = λ bank. 0;
    passed = record {
      stand = λ bank. subst (λ f. Stands {n = n} 0 [] f) (sym (facts bank)) nothing;
      by = λ bank. omega arith;
      room = λ bank differs. ap (λ b. b && (nat_le 0 rules.reads && true)) (le-leb 0 rules.writes (omega arith)) ∙ ap (λ b. b && true) (le-leb 0 rules.reads (omega arith));
      known = λ line is. absurd (cc);
    };
  });
  lines_known = λ l line is. let f = fresh l line is in
      subst (λ x. KeptLine n 0 l [] x line.unclosed line.runs.items) (sym f.newest)
      (subst (λ x. KeptLine n 0 l [] (replicate n 0) x line.runs.items) (sym f.unclosed)
      (subst (λ (x : List (Run n)). KeptLine n 0 l [] (replicate n 0) (none_given n) x) (sym f.runs) (record { newest_is = refl; open_is = refl; held_is = λ t le. refl })));
  exist = λ i d lt. let e = banks_below 0 banks i d lt in omega (arith, e, number);
  size = long;
  cuts_left = finds.cuts;
  cuts_within = omega arith;
  so_far = refl;
}
  where
    nothing : Stands {n = n} 0 [] no_facts
    nothing = record {
      finds = record { kept = record { own = refl; writes = refl; to_come = refl; losing = refl; answered = λ read u. refl; stored = λ read u. refl }; brief = refl };
      near = refl;
      worn_is = refl;
      four = record { at_1 = refl; at_2 = refl; at_3 = refl; at_4 = refl };
      passed = refl;
    }

-- few cuts have come
pub cuts_below : {n : ℕ} (banks : List ℕ) (rows : List (Row n)) (found : Found) (cuts : ℕ) → length rows ≤ 400000 → IsFound banks rows found → cuts ≤ length found.cuts.items → cuts ≤ 400000
cuts_below banks rows found cuts few f le = let a = cuts_few rows in let b = ap length f.cuts in omega (arith, a, b, few, le)

-- the cuts behind a row are sorted and few
pub piece_sorted : {n : ℕ} (banks : List ℕ) (rows : List (Row n)) (found : Found) (next : ℕ) (piece : List ℕ) → rising 0 rows ≡ true → IsFound banks rows found → piece ≡ drop next found.cuts.items → IsNonDecreasing piece
piece_sorted banks rows found next piece h f is =
    subst (λ xs. IsNonDecreasing xs) (sym is)
    (IsNonDecreasingBy-drop (λ (x : ℕ). x) next found.cuts.items (subst (λ xs. IsNonDecreasing xs) (sym f.cuts) (cuts_sorted 0 rows h)))

pub piece_few : {n : ℕ} (banks : List ℕ) (rows : List (Row n)) (found : Found) (next : ℕ) (piece : List ℕ) → length rows ≤ 400000 → IsFound banks rows found → piece ≡ drop next found.cuts.items → length piece ≤ 400000
piece_few banks rows found next piece few f is =
    let a = cuts_few rows in let b = ap length f.cuts in let d = length-drop next found.cuts.items in let e = ap length is in omega (arith, a, b, d, e, few)
