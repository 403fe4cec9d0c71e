-- What a bank's rows show of its queue and of its waiting reads doesn't go by the numbers of its lines.
use Rattle.std.proofs.Common.{◌≡◌, ℕ, ◌==◌, ◌&&◌, ◌||◌, Bool, true, false, List, [], ◌∷◌, ◌++◌, Option, Some, None, map, length, refl, sym, ap, ◌∙◌, cond}
use Rattle.std.{specs.List.{list_all, list_any}, specs.Prelude.{filter, nat_lt, nat_le, not}, proofs.lemmas.List.{length-map, map-append}}
use Rattle.masked_bytes.specs.Masked.{joined, none_given, gives_all}
use Rattle.result_rows.specs.declared.Outcome.{Outcome}
use Rattle.result_rows.specs.declared.Outcome.TheVariants as out
use Rattle.row_rules.specs.Answers.{accepts, is_merged, is_queued, is_stored, is_full, is_lost, stored_after, stored_by, stored_before, read_after}
use Rattle.row_rules.specs.Queueing.{stands, pending, awaits, waiting, unstored, cover, none_before, is_older, has_few, pairs_few, is_refused, merges_at, store_of, next_store}
use Rattle.row_rules.specs.Queueing.{is_first, is_at_head, read_fits, merge_fits, queue_fits, has_room, is_queue_fair}
use Rattle.row_rules.specs.{Rows.{asks_read, asks_write, asks_write_of, line_of, given_of, accepted_of, write_of, is_cut}, declared.Asks.Asks}
use Rattle.row_rules.specs.{declared.Asks.TheVariants.{Reads, Writes, Cuts}, declared.Row.Row, declared.Rules.Rules}
use Rattle.row_rules.specs.Queueing as queue
use Rattle.right_runs.specs.Tables.{asks_in, row_in}
use Rattle.module_laws.proofs.Serving.{cuts-named}

module _ {n : ℕ} where
  -- a test of the rows with other numbers is a test of the rows
  pub any-same : (f : Row n → Row n) (test other : Row n → Bool) → ((q : Row n) → test (f q) ≡ other q) → (rows : List (Row n)) → list_any test (map f rows) ≡ list_any other rows
  any-same f test other same [] = refl
  any-same f test other same (q ∷ rows) =
      ap (λ (b : Bool). b || list_any test (map f rows)) (same q) ∙ ap (λ (b : Bool). other q || b) (any-same f test other same rows)

  pub all-same : (f : Row n → Row n) (test other : Row n → Bool) → ((q : Row n) → test (f q) ≡ other q) → (rows : List (Row n)) → list_all test (map f rows) ≡ list_all other rows
  all-same f test other same [] = refl
  all-same f test other same (q ∷ rows) =
      ap (λ (b : Bool). b && list_all test (map f rows)) (same q) ∙ ap (λ (b : Bool). other q && b) (all-same f test other same rows)

module _ {n : ℕ} (bank_of line_in : ℕ → ℕ) where
  -- a row with the number that its line has in its bank asks for the same
  pub reads-named : (asks : Asks n) → asks_read (asks_in bank_of line_in asks) ≡ asks_read asks
  reads-named (Reads line) = refl
  reads-named (Writes line bytes given) = refl
  reads-named Cuts = refl

  pub writes-named : (asks : Asks n) → asks_write (asks_in bank_of line_in asks) ≡ asks_write asks
  writes-named (Reads line) = refl
  writes-named (Writes line bytes given) = refl
  writes-named Cuts = refl

  given-named : (asks : Asks n) → given_of (asks_in bank_of line_in asks) ≡ given_of asks
  given-named (Reads line) = refl
  given-named (Writes line bytes given) = refl
  given-named Cuts = refl

  -- ---- waiting reads

  abbrev named : Row n → Row n
  named = row_in bank_of line_in

  awaits-named : (t : ℕ) (between : List (Row n)) (q : Row n) → awaits t (map named between) (named q) ≡ awaits t between q
  awaits-named t between q =
      ap (λ (b : Bool). b && (read_after t q.outcome || (is_lost q.outcome && not (list_any is_cut (map named between))))) (reads-named q.asks)
      ∙ ap (λ (b : Bool). asks_read q.asks && (read_after t q.outcome || (is_lost q.outcome && not b)))
      (any-same named is_cut is_cut (λ q. cuts-named bank_of line_in q.asks) between)

  -- one row more, if it is picked
  picked : (b c : Bool) (q : Row n) (some others : List (Row n)) → b ≡ c → some ≡ map named others → cond b (named q ∷ some) some ≡ map named (cond c (q ∷ others) others)
  picked b true q some others is rest = ap (λ (b : Bool). cond b (named q ∷ some) some) is ∙ ap (λ (rows : List (Row n)). named q ∷ rows) rest
  picked b false q some others is rest = ap (λ (b : Bool). cond b (named q ∷ some) some) is ∙ rest

  pub waiting-named : (t : ℕ) (between before : List (Row n)) → waiting t (map named between) (map named before) ≡ map named (waiting t between before)
  waiting-named t between [] = refl
  waiting-named t between (q ∷ before) =
      picked (awaits t (map named between) (named q)) (awaits t between q) q _ (waiting t (q ∷ between) before) (awaits-named t between q) (waiting-named t (q ∷ between) before)

  -- ---- what doesn't look at lines

  none_before-named : (o : Outcome n) (rows : List (Row n)) → none_before o (map named rows) ≡ none_before o rows
  none_before-named (out.Stored tick place) rows = all-same named _ (λ q. not (stored_before tick q.outcome)) (λ q. refl) rows
  none_before-named (out.Merged tick) rows = all-same named _ (λ q. not (stored_before tick q.outcome)) (λ q. refl) rows
  none_before-named _ rows = all-same named _ (λ q. not (is_stored q.outcome)) (λ q. refl) rows

  is_older-named : (all : List (Row n)) (newer older : Row n) → is_older (map named all) (named newer) (named older) ≡ is_older all newer older
  is_older-named all newer older =
      ap (λ (b : Bool). nat_lt older.tick newer.tick && (not (is_merged older.outcome) && b)) (none_before-named older.outcome all)

  has_few-named : (all : List (Row n)) (newer : Row n) (rows : List (Row n)) → has_few (map named all) (named newer) (map named rows) ≡ has_few all newer rows
  has_few-named all newer [] = refl
  has_few-named all newer (older ∷ []) = is_older-named all newer older
  has_few-named all newer (older ∷ another ∷ rest) = refl

  is_refused-named : (tick : ℕ) (all rows : List (Row n)) → is_refused tick (map named all) (map named rows) ≡ is_refused tick all rows
  is_refused-named tick all [] = refl
  is_refused-named tick all (q ∷ []) = ap (λ (b : Bool). nat_lt q.tick tick && b) (none_before-named q.outcome all)
  is_refused-named tick all (q ∷ another ∷ rest) = refl

-- ---- lines

module _ {n : ℕ} (In : ℕ → Type 0) where
  -- a row's line is one of these
  abbrev pub IsIn : Asks n → Type 0
  IsIn (Reads line) = In line
  IsIn (Writes line bytes given) = In line
  IsIn Cuts = Unit {0}

  abbrev pub AreIn : List (Row n) → Type 0
  AreIn [] = Unit {0}
  AreIn (q ∷ rows) = IsIn q.asks × AreIn rows

  AreIn-append : (before after : List (Row n)) → AreIn before → AreIn after → AreIn (before ++ after)
  AreIn-append [] after h k = k
  AreIn-append (q ∷ before) after h k = (h.0, AreIn-append before after h.1 k)

  -- each is a write
  abbrev IsWriteIn : Asks n → Type 0
  IsWriteIn (Reads line) = ⊥
  IsWriteIn (Writes line bytes given) = In line
  IsWriteIn Cuts = ⊥

  abbrev AreWritesIn : List (Row n) → Type 0
  AreWritesIn [] = Unit {0}
  AreWritesIn (q ∷ rows) = IsWriteIn q.asks × AreWritesIn rows

  asks-in : (asks : Asks n) → IsWriteIn asks → IsIn asks
  asks-in (Reads line) h = absurd h
  asks-in (Writes line bytes given) h = h
  asks-in Cuts h = absurd h

  all-in : (rows : List (Row n)) → AreWritesIn rows → AreIn rows
  all-in [] h = tt
  all-in (q ∷ rows) h = (asks-in q.asks h.0, all-in rows h.1)

-- no two of which have one number
module _ {n : ℕ} (bank_of line_in : ℕ → ℕ) (In : ℕ → Type 0) (apart : (at line : ℕ) → In at → In line → (line_in at == line_in line) ≡ (at == line)) where
  abbrev to : Row n → Row n
  to = row_in bank_of line_in

  -- a write of a line is one of the line's number
  write_of-named : (line : ℕ) → In line → (asks : Asks n) → IsIn In asks → asks_write_of (line_in line) (asks_in bank_of line_in asks) ≡ asks_write_of line asks
  write_of-named line l (Reads at) of = refl
  write_of-named line l (Writes at bytes given) of = apart at line of l
  write_of-named line l Cuts of = refl

  accepted_of-named : (line : ℕ) → In line → (q : Row n) → IsIn In q.asks → accepted_of (line_in line) (to q) ≡ accepted_of line q
  accepted_of-named line l q of = ap (λ (b : Bool). b && accepts q.outcome) (write_of-named line l q.asks of)

  any-named : (test other : Row n → Bool) → ((q : Row n) → IsIn In q.asks → test (to q) ≡ other q) → (rows : List (Row n)) → AreIn In rows → list_any test (map to rows) ≡ list_any other rows
  any-named test other same [] are = refl
  any-named test other same (q ∷ rows) are =
      ap (λ (b : Bool). b || list_any test (map to rows)) (same q are.0) ∙ ap (λ (b : Bool). other q || b) (any-named test other same rows are.1)

  all-named : (test other : Row n → Bool) → ((q : Row n) → IsIn In q.asks → test (to q) ≡ other q) → (rows : List (Row n)) → AreIn In rows → list_all test (map to rows) ≡ list_all other rows
  all-named test other same [] are = refl
  all-named test other same (q ∷ rows) are =
      ap (λ (b : Bool). b && list_all test (map to rows)) (same q are.0) ∙ ap (λ (b : Bool). other q && b) (all-named test other same rows are.1)

  filter-named : (test other : Row n → Bool) → ((q : Row n) → IsIn In q.asks → test (to q) ≡ other q) → (rows : List (Row n)) → AreIn In rows → filter test (map to rows) ≡ map to (filter other rows)
  filter-named test other same [] are = refl
  filter-named test other same (q ∷ rows) are =
      picked bank_of line_in (test (to q)) (other q) q _ (filter other rows) (same q are.0) (filter-named test other same rows are.1)

  -- ---- writes that stand

  stands-named : (t : ℕ) (between : List (Row n)) (q : Row n) → AreIn In between → IsIn In q.asks → stands t (map to between) (to q) ≡ stands t between q
  stands-named t between q are of = by q.asks of
    where
      by : (asks : Asks n) → IsIn In asks → stands t (map to between) (to (record { tick = q.tick; asks = asks; outcome = q.outcome })) ≡ stands t between (record { tick = q.tick; asks = asks; outcome = q.outcome })
      by (Reads line) of = refl
      by (Writes line bytes given) of =
          ap (λ (b : Bool). accepts q.outcome && (stored_after t q.outcome || (is_queued q.outcome || (is_merged q.outcome && not b))))
          (any-named (accepted_of (line_in line)) (accepted_of line) (accepted_of-named line of) between are)
      by Cuts of = refl

  pub pending-named : (t : ℕ) (between before : List (Row n)) → AreIn In between → AreIn In before → pending t (map to between) (map to before) ≡ map to (pending t between before)
  pending-named t between [] are all = refl
  pending-named t between (q ∷ before) are all =
      picked bank_of line_in (stands t (map to between) (to q)) (stands t between q) q _ (pending t (q ∷ between) before) (stands-named t between q are all.0)
      (pending-named t (q ∷ between) before (all.0, are) all.1)

  pending-writes : (t : ℕ) (between before : List (Row n)) → AreIn In before → AreWritesIn In (pending t between before)
  pending-writes t between [] all = tt
  pending-writes t between (q ∷ before) all = by q.asks all.0 (pending-writes t (q ∷ between) before all.1)
    where
      row : Asks n → Row n
      row asks = record { tick = q.tick; asks = asks; outcome = q.outcome }

      kept : (b : Bool) (line : ℕ) (bytes : List ℕ) (given : List Bool) → In line → AreWritesIn In (pending t (q ∷ between) before)
          → AreWritesIn In (cond b (row (Writes line bytes given) ∷ pending t (q ∷ between) before) (pending t (q ∷ between) before))
      kept true line bytes given l ih = (l, ih)
      kept false line bytes given l ih = ih

      by : (asks : Asks n) → IsIn In asks → AreWritesIn In (pending t (q ∷ between) before)
          → AreWritesIn In (cond (stands t between (row asks)) (row asks ∷ pending t (q ∷ between) before) (pending t (q ∷ between) before))
      by (Reads line) of ih = ih
      by (Writes line bytes given) of ih = kept (stands t between (row (Writes line bytes given))) line bytes given of ih
      by Cuts of ih = ih

  pairs_few-named : (all rows : List (Row n)) → AreWritesIn In rows → pairs_few (map to all) (map to rows) ≡ pairs_few all rows
  pairs_few-named all [] are = refl
  pairs_few-named all (q ∷ older) are =
      ap (λ (b : Bool). b && pairs_few (map to all) (map to older)) (by q.asks are.0)
      ∙ ap (λ (b : Bool). has_few all q (filter (accepted_of (line_of q.asks)) older) && b) (pairs_few-named all older are.1)
    where
      by : (asks : Asks n) → IsWriteIn In asks
          → has_few (map to all) (to q) (filter (accepted_of (line_of (asks_in bank_of line_in asks))) (map to older)) ≡ has_few all q (filter (accepted_of (line_of asks)) older)
      by (Reads line) of = absurd of
      by (Writes line bytes given) of =
          ap (has_few (map to all) (to q)) (filter-named (accepted_of (line_in line)) (accepted_of line) (accepted_of-named line of) older (all-in In older are.1))
          ∙ has_few-named bank_of line_in all q (filter (accepted_of line) older)
      by Cuts of = absurd of

  -- a bank's room
  pub room-named : (rules : Rules) (t : ℕ) (before : List (Row n)) → AreIn In before → has_room rules t (map to before) ≡ has_room rules t before
  room-named rules t before all =
      let ps : List (Row n) = pending t [] before in
      let ws : List (Row n) = waiting t [] before in
      ap (λ (rows : List (Row n)). nat_le (length rows) rules.writes && (nat_le (length (waiting t [] (map to before))) rules.reads && pairs_few rows rows)) (pending-named t [] before tt all)
      ∙ ap (λ (rows : List (Row n)). nat_le (length (map to ps)) rules.writes && (nat_le (length rows) rules.reads && pairs_few (map to ps) (map to ps))) (waiting-named bank_of line_in t [] before)
      ∙ ap (λ (count : ℕ). nat_le count rules.writes && (nat_le (length (map to ws)) rules.reads && pairs_few (map to ps) (map to ps))) (length-map ps to)
      ∙ ap (λ (count : ℕ). nat_le (length ps) rules.writes && (nat_le count rules.reads && pairs_few (map to ps) (map to ps))) (length-map ws to)
      ∙ ap (λ (b : Bool). nat_le (length ps) rules.writes && (nat_le (length ws) rules.reads && b)) (pairs_few-named ps ps (pending-writes t [] before all))

  -- ---- what the queue gives of a line

  unstored-named : (is_out : Outcome n → Bool) (line : ℕ) → In line → (before : List (Row n)) → AreIn In before → unstored is_out (line_in line) (map to before) ≡ unstored is_out line before
  unstored-named is_out line l [] all = refl
  unstored-named is_out line l (q ∷ before) all =
      let rest : List Bool = unstored is_out (line_in line) (map to before) in
      ap (λ (b : Bool). cond (b && is_out q.outcome) (none_given n) (cond (accepted_of (line_in line) (to q)) (joined (given_of (to q).asks) rest) rest)) (write_of-named line l q.asks all.0)
      ∙ ap (λ (b : Bool). cond (write_of line q && is_out q.outcome) (none_given n) (cond b (joined (given_of (to q).asks) rest) rest)) (accepted_of-named line l q all.0)
      ∙ ap (λ (given : List Bool). cond (write_of line q && is_out q.outcome) (none_given n) (cond (accepted_of line q) (joined given rest) rest)) (given-named bank_of line_in q.asks)
      ∙ ap (λ (rest : List Bool). cond (write_of line q && is_out q.outcome) (none_given n) (cond (accepted_of line q) (joined (given_of q.asks) rest) rest)) (unstored-named is_out line l before all.1)

  cover-named : (t line : ℕ) → In line → (before after : List (Row n)) → AreIn In before → AreIn In after → cover t (line_in line) (map to before) (map to after) ≡ cover t line before after
  cover-named t line l before after all later =
      ap (λ (b : Bool). cond b (none_given n) (unstored (stored_by t) (line_in line) (map to before)))
      (any-named (λ q. write_of (line_in line) q && stored_by t q.outcome) (λ q. write_of line q && stored_by t q.outcome)
      (λ q of. ap (λ (b : Bool). b && stored_by t q.outcome) (write_of-named line l q.asks of)) after later)
      ∙ ap (λ (given : List Bool). cond (list_any (λ q. write_of line q && stored_by t q.outcome) after) (none_given n) given) (unstored-named (stored_by t) line l before all)

  -- ---- the head of the queue

  store_of-named : (t line : ℕ) → In line → (q : Row n) → IsIn In q.asks → (o : Outcome n) (found : Option ℕ) → store_of t (line_in line) (to q) o found ≡ store_of t line q o found
  store_of-named t line l q of (out.Stored tick place) found = ap (λ (b : Bool). cond (b && nat_lt t tick) (queue.least found tick) found) (write_of-named line l q.asks of)
  store_of-named t line l q of _ found = refl

  next_store-named : (t line : ℕ) → In line → (rows : List (Row n)) → AreIn In rows → next_store t (line_in line) (map to rows) ≡ next_store t line rows
  next_store-named t line l [] are = refl
  next_store-named t line l (q ∷ rows) are =
      store_of-named t line l q are.0 q.outcome (next_store t (line_in line) (map to rows)) ∙ ap (store_of t line q q.outcome) (next_store-named t line l rows are.1)

  is_first-named : (line : ℕ) → In line → (next : Option ℕ) (rows : List (Row n)) → AreIn In rows → is_first (line_in line) next (map to rows) ≡ is_first line next rows
  is_first-named line l (Some u) rows are =
      all-named _ (λ q. write_of line q || not (stored_before u q.outcome)) (λ q of. ap (λ (b : Bool). b || not (stored_before u q.outcome)) (write_of-named line l q.asks of)) rows are
  is_first-named line l None rows are =
      all-named _ (λ q. write_of line q || not (is_stored q.outcome)) (λ q of. ap (λ (b : Bool). b || not (is_stored q.outcome)) (write_of-named line l q.asks of)) rows are

  at_head-named : (t line : ℕ) → In line → (all before after : List (Row n)) → AreIn In all → AreIn In before → AreIn In after
      → is_at_head t (line_in line) (map to all) (map to before) (map to after) ≡ is_at_head t line all before after
  at_head-named t line l all before after are earlier later =
      ap (λ (b : Bool). b && is_first (line_in line) (next_store t (line_in line) (map to before ++ map to after)) (map to all))
      (any-named (write_of (line_in line)) (write_of line) (λ q of. write_of-named line l q.asks of) all are)
      ∙ ap (λ (rows : List (Row n)). list_any (write_of line) all && is_first (line_in line) (next_store t (line_in line) rows) (map to all)) (sym (map-append to before after))
      ∙ ap (λ (next : Option ℕ). list_any (write_of line) all && is_first (line_in line) next (map to all))
      (next_store-named t line l (before ++ after) (AreIn-append In before after earlier later))
      ∙ ap (λ (b : Bool). list_any (write_of line) all && b) (is_first-named line l (next_store t line (before ++ after)) all are)

  -- ---- merged writes

  merges_at-named : (line tick : ℕ) → In line → (after : List (Row n)) → AreIn In after → merges_at (line_in line) tick (map to after) ≡ merges_at line tick after
  merges_at-named line tick l [] are = refl
  merges_at-named line tick l (q ∷ after) are =
      ap (λ (b : Bool). cond b (q.tick == tick) (merges_at (line_in line) tick (map to after))) (accepted_of-named line l q are.0)
      ∙ ap (λ (b : Bool). cond (accepted_of line q) (q.tick == tick) b) (merges_at-named line tick l after are.1)

  merge_fits-named : (line : ℕ) → In line → (o : Outcome n) (after : List (Row n)) → AreIn In after → merge_fits (line_in line) o (map to after) ≡ merge_fits line o after
  merge_fits-named line l (out.Merged tick) after are = merges_at-named line tick l after are
  merge_fits-named line l _ after are = refl

  -- ---- the queue's rule

  fits-named : (rules : Rules) (ps ws : List (Row n)) (r : Row n) (asks : Asks n) (before after : List (Row n)) → AreIn In ps → IsIn In asks → AreIn In before → AreIn In after
      → queue_fits rules (map to ps) (map to ws) (to r) (asks_in bank_of line_in asks) (map to before) (map to after) ≡ queue_fits rules ps ws r asks before after
  fits-named rules ps ws r (Reads line) before after are l earlier later =
      ap (λ (count : ℕ). read_fits rules.reads count (gives_all (cover r.tick (line_in line) (map to before) (map to after))) (is_at_head r.tick (line_in line) (map to ps) (map to before) (map to after)) r.outcome) (length-map ws to)
      ∙ ap (λ (given : List Bool). read_fits rules.reads (length ws) (gives_all given) (is_at_head r.tick (line_in line) (map to ps) (map to before) (map to after)) r.outcome) (cover-named r.tick line l before after earlier later)
      ∙ ap (λ (b : Bool). read_fits rules.reads (length ws) (gives_all (cover r.tick line before after)) b r.outcome) (at_head-named r.tick line l ps before after are earlier later)
  fits-named rules ps ws r (Writes line bytes given) before after are l earlier later =
      ap (λ (count : ℕ). (not (is_full r.outcome) || ((count == rules.writes) && is_refused r.tick (map to ps) (filter (write_of (line_in line)) (map to ps)))) && merge_fits (line_in line) r.outcome (map to after)) (length-map ps to)
      ∙ ap (λ (rows : List (Row n)). (not (is_full r.outcome) || ((length ps == rules.writes) && is_refused r.tick (map to ps) rows)) && merge_fits (line_in line) r.outcome (map to after))
      (filter-named (write_of (line_in line)) (write_of line) (λ q of. write_of-named line l q.asks of) ps are)
      ∙ ap (λ (b : Bool). (not (is_full r.outcome) || ((length ps == rules.writes) && b)) && merge_fits (line_in line) r.outcome (map to after)) (is_refused-named bank_of line_in r.tick ps (filter (write_of line) ps))
      ∙ ap (λ (b : Bool). (not (is_full r.outcome) || ((length ps == rules.writes) && is_refused r.tick ps (filter (write_of line) ps))) && b) (merge_fits-named line l r.outcome after later)
  fits-named rules ps ws r Cuts before after are l earlier later = refl

  pub queue-named : (rules : Rules) (before : List (Row n)) (r : Row n) (after : List (Row n)) → AreIn In before → IsIn In r.asks → AreIn In after
      → is_queue_fair rules (map to before) (to r) (map to after) ≡ is_queue_fair rules before r after
  queue-named rules before r after earlier of later =
      let ps : List (Row n) = pending r.tick [] before in
      let ws : List (Row n) = waiting r.tick [] before in
      ap (λ (b : Bool). b && queue_fits rules (pending r.tick [] (map to before)) (waiting r.tick [] (map to before)) (to r) (asks_in bank_of line_in r.asks) (map to before) (map to after)) (room-named rules r.tick before earlier)
      ∙ ap (λ (rows : List (Row n)). has_room rules r.tick before && queue_fits rules rows (waiting r.tick [] (map to before)) (to r) (asks_in bank_of line_in r.asks) (map to before) (map to after)) (pending-named r.tick [] before tt earlier)
      ∙ ap (λ (rows : List (Row n)). has_room rules r.tick before && queue_fits rules (map to ps) rows (to r) (asks_in bank_of line_in r.asks) (map to before) (map to after)) (waiting-named bank_of line_in r.tick [] before)
      ∙ ap (λ (b : Bool). has_room rules r.tick before && b) (fits-named rules ps ws r r.asks before after (all-in In ps (pending-writes r.tick [] before earlier)) of earlier later)
