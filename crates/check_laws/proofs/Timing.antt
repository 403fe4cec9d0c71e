-- What a bank's rows show of its times and of its wear doesn't look at lines.
use Rattle.std.proofs.Common.{◌≡◌, ℕ, ◌+◌, ◌*◌, ◌==◌, ◌&&◌, ◌||◌, Bool, List, [], ◌∷◌, ◌++◌, map, length, refl, sym, ap, ◌∙◌, cond}
use Rattle.std.{specs.List.{list_all, list_any}, specs.Prelude.{count_by, max, nat_lt, nat_le, not}, proofs.lemmas.List.{length-map, map-append}}
use Rattle.std.proofs.lemmas.List.Sums.{sum_by-cons}
use Rattle.bank_shape.specs.{declared.pace.Policy.Policy, declared.pace.Policy.TheVariants.{Pause, Plain, Cancel}}
use Rattle.result_rows.specs.declared.Outcome.{Outcome}
use Rattle.result_rows.specs.declared.Outcome.TheVariants as out
use Rattle.row_rules.specs.{Answers.{is_answered, is_lost, is_worn, stored_after, stored_by, read_after, read_by}, Queueing.waiting, Rows.{asks_read, asks_write, is_cut}}
use Rattle.row_rules.specs.Ticking.{longest, store_up_to, last_store, came_since, delay, bound, no_cut_below, first_cut_at, read_in_time, stores_in, reads_in, cuts_to}
use Rattle.row_rules.specs.{Ticking.{store_in_time, apart, asks_in_time, is_in_time}, Wearing.{worn_row, worn_by, store_fits, is_wear_final}, declared.Asks.Asks}
use Rattle.row_rules.specs.{declared.Asks.TheVariants.{Reads, Writes, Cuts}, declared.Row.Row, declared.Rules.Rules}
use Rattle.right_runs.specs.Tables.{asks_in, row_in}
use Rattle.module_laws.proofs.Serving.{cuts-named}
use Rattle.check_laws.proofs.Renaming.{any-same, all-same, reads-named, writes-named, waiting-named}

count-same : {n : ℕ} (f : Row n → Row n) (test other : Row n → Bool) → ((q : Row n) → test (f q) ≡ other q) → (rows : List (Row n)) → count_by test (map f rows) ≡ count_by other rows
count-same f test other same [] = refl
count-same {n = n} f test other same (q ∷ rows) =
    sum_by-cons (λ (q : Row n). cond (test q) 1 0) (f q) (map f rows)
    ∙ ap (λ (b : Bool). cond b 1 0 + count_by test (map f rows)) (same q)
    ∙ ap (λ (count : ℕ). cond (other q) 1 0 + count) (count-same f test other same rows)
    ∙ sym (sum_by-cons (λ (q : Row n). cond (other q) 1 0) q rows)

module _ {n : ℕ} (bank_of line_in : ℕ → ℕ) where
  abbrev to : Row n → Row n
  to = row_in bank_of line_in

  cut-named : (q : Row n) → is_cut (to q) ≡ is_cut q
  cut-named q = cuts-named bank_of line_in q.asks

  -- ---- wear

  worn-named : (q : Row n) → worn_row (to q) ≡ worn_row q
  worn-named q = ap (λ (b : Bool). b && is_worn q.outcome) (writes-named bank_of line_in q.asks)

  worn_by-named : (tick : ℕ) (rows : List (Row n)) → worn_by tick (map to rows) ≡ worn_by tick rows
  worn_by-named tick rows = any-same to _ (λ q. worn_row q && nat_le q.tick tick) (λ q. ap (λ (b : Bool). b && nat_le q.tick tick) (worn-named q)) rows

  store_fits-named : (o : Outcome n) (before after : List (Row n)) → store_fits o (map to before) (map to after) ≡ store_fits o before after
  store_fits-named (out.Stored tick place) before after =
      ap (λ (b : Bool). not b && not (worn_by tick (map to after))) (worn_by-named tick before) ∙ ap (λ (b : Bool). not (worn_by tick before) && not b) (worn_by-named tick after)
  store_fits-named _ before after = refl

  pub wear-named : (before : List (Row n)) (r : Row n) (after : List (Row n)) → is_wear_final (map to before) (to r) (map to after) ≡ is_wear_final before r after
  wear-named before r after =
      ap (λ (b : Bool). not b || ((not (list_any worn_row (map to before)) || is_worn r.outcome) && store_fits r.outcome (map to before) (map to after))) (writes-named bank_of line_in r.asks)
      ∙ ap (λ (b : Bool). not (asks_write r.asks) || ((not b || is_worn r.outcome) && store_fits r.outcome (map to before) (map to after))) (any-same to worn_row worn_row worn-named before)
      ∙ ap (λ (b : Bool). not (asks_write r.asks) || ((not (list_any worn_row before) || is_worn r.outcome) && b)) (store_fits-named r.outcome before after)

  -- ---- reads

  last_store-named : (a : ℕ) (rows : List (Row n)) → last_store a (map to rows) ≡ last_store a rows
  last_store-named a [] = refl
  last_store-named a (q ∷ rows) =
      ap (λ (b : Bool). cond b (store_up_to a q.outcome (last_store a (map to rows))) (last_store a (map to rows))) (writes-named bank_of line_in q.asks)
      ∙ ap (λ (last : ℕ). cond (asks_write q.asks) (store_up_to a q.outcome last) last) (last_store-named a rows)

  came_since-named : (v : ℕ) (rows : List (Row n)) → came_since v (map to rows) ≡ came_since v rows
  came_since-named v rows =
      count-same to _ (λ q. asks_read q.asks && (nat_le v q.tick && (is_answered q.outcome || is_lost q.outcome)))
      (λ q. ap (λ (b : Bool). b && (nat_le v q.tick && (is_answered q.outcome || is_lost q.outcome))) (reads-named bank_of line_in q.asks)) rows

  delay-named : (rules : Rules) (policy : Policy) (a : ℕ) (before after : List (Row n)) → delay rules policy a (map to before) (map to after) ≡ delay rules policy a before after
  delay-named rules Pause a before after = refl
  delay-named rules Plain a before after = refl
  delay-named rules Cancel a before after =
      ap (λ (rows : List (Row n)). cond (nat_lt (came_since (last_store a rows) (map to before)) 4) 0 (max rules.read_ticks rules.iter_ticks)) (sym (map-append to before after))
      ∙ ap (λ (v : ℕ). cond (nat_lt (came_since v (map to before)) 4) 0 (max rules.read_ticks rules.iter_ticks)) (last_store-named a (before ++ after))
      ∙ ap (λ (count : ℕ). cond (nat_lt count 4) 0 (max rules.read_ticks rules.iter_ticks)) (came_since-named (last_store a (before ++ after)) before)

  bound-named : (rules : Rules) (a : ℕ) (before after : List (Row n)) → bound rules a (map to before) (map to after) ≡ bound rules a before after
  bound-named rules a before after =
      ap (λ (d : ℕ). a + d + (length (waiting a [] (map to before)) + 1) * rules.read_ticks) (delay-named rules rules.policy a before after)
      ∙ ap (λ (rows : List (Row n)). a + delay rules rules.policy a before after + (length rows + 1) * rules.read_ticks) (waiting-named bank_of line_in a [] before)
      ∙ ap (λ (count : ℕ). a + delay rules rules.policy a before after + (count + 1) * rules.read_ticks) (length-map (waiting a [] before) to)

  no_cut-named : (u : ℕ) (rows : List (Row n)) → no_cut_below u (map to rows) ≡ no_cut_below u rows
  no_cut-named u rows = all-same to _ (λ q. not (is_cut q) || nat_le u q.tick) (λ q. ap (λ (b : Bool). not b || nat_le u q.tick) (cut-named q)) rows

  first_cut-named : (u : ℕ) (rows : List (Row n)) → first_cut_at u (map to rows) ≡ first_cut_at u rows
  first_cut-named u [] = refl
  first_cut-named u (q ∷ rows) =
      ap (λ (b : Bool). cond b (q.tick == u) (first_cut_at u (map to rows))) (cut-named q) ∙ ap (λ (b : Bool). cond (is_cut q) (q.tick == u) b) (first_cut-named u rows)

  read-named : (rules : Rules) (a : ℕ) (o : Outcome n) (before after : List (Row n)) → read_in_time rules a o (map to before) (map to after) ≡ read_in_time rules a o before after
  read-named rules a (out.Read u place bytes) before after =
      ap (λ (most : ℕ). nat_le (a + rules.read_ticks) u && (nat_le u most && no_cut_below u (map to after))) (bound-named rules a before after)
      ∙ ap (λ (b : Bool). nat_le (a + rules.read_ticks) u && (nat_le u (bound rules a before after) && b)) (no_cut-named u after)
  read-named rules a (out.Lost u) before after =
      ap (λ (b : Bool). b && nat_lt u (bound rules a (map to before) (map to after))) (first_cut-named u after)
      ∙ ap (λ (most : ℕ). first_cut_at u after && nat_lt u most) (bound-named rules a before after)
  read-named rules a _ before after = refl

  -- ---- writes

  stores-named : (a u : ℕ) (rows : List (Row n)) → stores_in a u (map to rows) ≡ stores_in a u rows
  stores-named a u rows =
      count-same to _ (λ q. asks_write q.asks && (stored_after a q.outcome && stored_by u q.outcome))
      (λ q. ap (λ (b : Bool). b && (stored_after a q.outcome && stored_by u q.outcome)) (writes-named bank_of line_in q.asks)) rows

  reads_in-named : (a u : ℕ) (rows : List (Row n)) → reads_in a u (map to rows) ≡ reads_in a u rows
  reads_in-named a u rows =
      count-same to _ (λ q. asks_read q.asks && (read_after a q.outcome && read_by u q.outcome))
      (λ q. ap (λ (b : Bool). b && (read_after a q.outcome && read_by u q.outcome)) (reads-named bank_of line_in q.asks)) rows

  cuts_to-named : (u : ℕ) (rows : List (Row n)) → cuts_to u (map to rows) ≡ cuts_to u rows
  cuts_to-named u rows = count-same to _ (λ q. is_cut q && nat_le q.tick u) (λ q. ap (λ (b : Bool). b && nat_le q.tick u) (cut-named q)) rows

  store-named : (rules : Rules) (r : Row n) (o : Outcome n) (before after : List (Row n)) → store_in_time rules (to r) o (map to before) (map to after) ≡ store_in_time rules r o before after
  store-named rules r (out.Stored u place) before after =
      let all : List (Row n) = before ++ r ∷ after in
      ap (λ (rows : List (Row n)). nat_lt r.tick u && nat_le u (r.tick + longest rules (stores_in r.tick u rows) (reads_in r.tick u rows) (cuts_to u (map to after)))) (sym (map-append to before (r ∷ after)))
      ∙ ap (λ (w : ℕ). nat_lt r.tick u && nat_le u (r.tick + longest rules w (reads_in r.tick u (map to all)) (cuts_to u (map to after)))) (stores-named r.tick u all)
      ∙ ap (λ (s : ℕ). nat_lt r.tick u && nat_le u (r.tick + longest rules (stores_in r.tick u all) s (cuts_to u (map to after)))) (reads_in-named r.tick u all)
      ∙ ap (λ (c : ℕ). nat_lt r.tick u && nat_le u (r.tick + longest rules (stores_in r.tick u all) (reads_in r.tick u all) c)) (cuts_to-named u after)
  store-named rules r _ before after = refl

  asks-named : (rules : Rules) (r : Row n) (asks : Asks n) (before after : List (Row n))
      → asks_in_time rules (to r) (asks_in bank_of line_in asks) (map to before) (map to after) ≡ asks_in_time rules r asks before after
  asks-named rules r (Reads line) before after = read-named rules r.tick r.outcome before after
  asks-named rules r (Writes line bytes given) before after = store-named rules r r.outcome before after
  asks-named rules r Cuts before after = refl

  pub ticks-named : (rules : Rules) (before : List (Row n)) (r : Row n) (after : List (Row n)) → is_in_time rules (map to before) (to r) (map to after) ≡ is_in_time rules before r after
  ticks-named rules before r after =
      ap (λ (b : Bool). b && list_all (λ q. apart rules.read_ticks r.outcome q.outcome) (map to before)) (asks-named rules r r.asks before after)
      ∙ ap (λ (b : Bool). asks_in_time rules r r.asks before after && b) (all-same to _ (λ q. apart rules.read_ticks r.outcome q.outcome) (λ q. refl) before)
