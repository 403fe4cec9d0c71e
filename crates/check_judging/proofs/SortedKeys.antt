-- Counts of a bank's rows by sorted keys.
use Rattle.std.proofs.Common.{◌≡◌, ℕ, zero, suc, ◌+◌, ◌<◌, ◌≤◌, ◌==◌, ◌&&◌, ◌⊎◌, inl, inr, Bool, true, false, List, [], ◌∷◌, length, refl, ap, ◌∙◌, cond, arith}
use Rattle.std.{specs.Prelude.{nat_le, nat_lt, count_by, slice_index_or}, proofs.lemmas.Bool.{le-leb, lt-leb, lt-ltb, ltb-true, le-ltb, cases_lt, cases_order, eq-eqb, ne_eqb}}
use Rattle.std.proofs.lemmas.List.Sorted.{sum_by-IsPermutation}
use Rattle.masked_bytes.proofs.{Counting.{count-cons, one_if}, Truth.{and_first, and_second, and_false}}
use Rattle.result_rows.specs.declared.Outcome.{Outcome}
use Rattle.result_rows.specs.declared.Outcome.TheVariants as out
use Rattle.row_rules.specs.{Answers.{stored_after, stored_by, read_after, read_by}, Rows.{asks_read, asks_write}, Table.{is_of, of_bank}, Ticking.{stores_in, reads_in}}
use Rattle.row_rules.specs.{declared.Asks.Asks, declared.Asks.TheVariants.{Reads, Writes, Cuts}, declared.Row.Row}
use Rattle.check_judging.specs.Keys.{reach, key, up_to, is_short, all_short, store_key, store_keys, read_key, read_keys, IndexLaw, CountLaw}

-- behind the first index that fails, none passes
none_passes : (p : ℕ → Bool) (keys : List ℕ) → ((k d : ℕ) → k < length keys → p (slice_index_or keys k d) ≡ false) → count_by p keys ≡ 0
none_passes p [] fails = refl
none_passes p (x ∷ keys) fails =
    let i = count-cons p x keys in
    let j : one_if (p x) ≡ 0 = ap one_if (fails 0 0 (omega arith)) in
    let r = none_passes p keys (λ k d lt. fails (suc k) d (omega (arith, lt))) in
    omega (arith, i, j, r)

pub at_index : (p : ℕ → Bool) (index : ℕ) (keys : List ℕ) → index ≤ length keys
    → ((k d : ℕ) → k < index → p (slice_index_or keys k d) ≡ true) → ((k d : ℕ) → index ≤ k → k < length keys → p (slice_index_or keys k d) ≡ false)
    → index ≡ count_by p keys
at_index p index [] le pass fail = omega (arith, le)
at_index p zero (x ∷ keys) le pass fail =
    let i = none_passes p (x ∷ keys) (λ k d l. fail k d (omega arith) l) in
    omega (arith, i)
at_index p (suc index) (x ∷ keys) le pass fail =
    let i = count-cons p x keys in
    let j : one_if (p x) ≡ 1 = ap one_if (pass 0 0 (omega arith)) in
    let r : index ≡ count_by p keys =
    at_index p index keys (omega (arith, le)) (λ k d l. pass (suc k) d (omega (arith, l))) (λ k d g l. fail (suc k) d (omega (arith, g)) (omega (arith, l))) in
    omega (arith, i, j, r)

pub index_law : IndexLaw
index_law k index keys some same point le =
    at_index (λ x. nat_le x k) index keys le (λ i d l. point.0 i d (omega arith) l) (λ i d g l. point.1 i d g l)
    ∙ sum_by-IsPermutation (λ x. cond (nat_le x k) 1 0) some keys same

-- fewer keys are at most the lesser
pub up_to-more : (j k : ℕ) (keys : List ℕ) → j ≤ k → up_to j keys ≤ up_to k keys
up_to-more j k [] le = omega arith
up_to-more j k (x ∷ keys) le =
    let a = count-cons (λ x. nat_le x j) x keys in
    let b = count-cons (λ x. nat_le x k) x keys in
    let r = up_to-more j k keys le in
    by (cases_lt j x) a b r
  where
    by : (j < x) ⊎ (x ≤ j) → up_to j (x ∷ keys) ≡ one_if (nat_le x j) + up_to j keys → up_to k (x ∷ keys) ≡ one_if (nat_le x k) + up_to k keys → up_to j keys ≤ up_to k keys
        → up_to j (x ∷ keys) ≤ up_to k (x ∷ keys)
    by (inl l) a b r = let i : one_if (nat_le x j) ≡ 0 = ap one_if (lt-leb x j l) in omega (arith, a, b, r, i)
    by (inr l) a b r =
        let i : one_if (nat_le x j) ≡ 1 = ap one_if (le-leb x j l) in
        let h : one_if (nat_le x k) ≡ 1 = ap one_if (le-leb x k (omega (arith, l, le))) in
        omega (arith, a, b, r, i, h)

-- what a key adds to the count up to u over that up to a, of its own bank and of another
step : (bank other a u v : ℕ) → a ≤ u → u < reach → v < reach
    → one_if (nat_le (key other v) (key bank a)) + one_if ((other == bank) && (nat_lt a v && nat_le v u)) ≡ one_if (nat_le (key other v) (key bank u))
step bank other a u v le us vs = by (cases_order other bank)
  where
    by : (other ≡ bank) ⊎ ((other < bank) ⊎ (bank < other))
        → one_if (nat_le (key other v) (key bank a)) + one_if ((other == bank) && (nat_lt a v && nat_le v u)) ≡ one_if (nat_le (key other v) (key bank u))
    by (inl same) = own (cases_lt a v) (cases_lt u v)
      where
        own : (a < v) ⊎ (v ≤ a) → (u < v) ⊎ (v ≤ u)
            → one_if (nat_le (key other v) (key bank a)) + one_if ((other == bank) && (nat_lt a v && nat_le v u)) ≡ one_if (nat_le (key other v) (key bank u))
        own (inl k) (inl l) =
            let x : one_if (nat_le (key other v) (key bank a)) ≡ 0 = ap one_if (lt-leb (key other v) (key bank a) (omega (arith, same, k))) in
            let y : one_if ((other == bank) && (nat_lt a v && nat_le v u)) ≡ 0 =
            ap (λ b. one_if ((other == bank) && (nat_lt a v && b))) (lt-leb v u l) ∙ ap (λ b. one_if ((other == bank) && b)) (and_false (nat_lt a v)) ∙ ap one_if (and_false (other == bank)) in
            let z : one_if (nat_le (key other v) (key bank u)) ≡ 0 = ap one_if (lt-leb (key other v) (key bank u) (omega (arith, same, l))) in
            omega (arith, x, y, z)
        own (inl k) (inr l) =
            let x : one_if (nat_le (key other v) (key bank a)) ≡ 0 = ap one_if (lt-leb (key other v) (key bank a) (omega (arith, same, k))) in
            let y : one_if ((other == bank) && (nat_lt a v && nat_le v u)) ≡ 1 =
            ap (λ b. one_if (b && (nat_lt a v && nat_le v u))) (eq-eqb other bank same) ∙ ap (λ b. one_if (b && nat_le v u)) (lt-ltb a v k) ∙ ap one_if (le-leb v u l) in
            let z : one_if (nat_le (key other v) (key bank u)) ≡ 1 = ap one_if (le-leb (key other v) (key bank u) (omega (arith, same, l))) in
            omega (arith, x, y, z)
        own (inr k) l =
            let x : one_if (nat_le (key other v) (key bank a)) ≡ 1 = ap one_if (le-leb (key other v) (key bank a) (omega (arith, same, k))) in
            let y : one_if ((other == bank) && (nat_lt a v && nat_le v u)) ≡ 0 =
            ap (λ b. one_if ((other == bank) && (b && nat_le v u))) (le-ltb a v k) ∙ ap one_if (and_false (other == bank)) in
            let z : one_if (nat_le (key other v) (key bank u)) ≡ 1 = ap one_if (le-leb (key other v) (key bank u) (omega (arith, same, k, le))) in
            omega (arith, x, y, z)
    by (inr (inl lower)) =
        let x : one_if (nat_le (key other v) (key bank a)) ≡ 1 = ap one_if (le-leb (key other v) (key bank a) (omega (arith, lower, vs))) in
        let y : one_if ((other == bank) && (nat_lt a v && nat_le v u)) ≡ 0 = ap (λ b. one_if (b && (nat_lt a v && nat_le v u))) (ne_eqb other bank (λ e. omega (arith, e, lower))) in
        let z : one_if (nat_le (key other v) (key bank u)) ≡ 1 = ap one_if (le-leb (key other v) (key bank u) (omega (arith, lower, vs))) in
        omega (arith, x, y, z)
    by (inr (inr higher)) =
        let x : one_if (nat_le (key other v) (key bank a)) ≡ 0 = ap one_if (lt-leb (key other v) (key bank a) (omega (arith, higher, us, le))) in
        let y : one_if ((other == bank) && (nat_lt a v && nat_le v u)) ≡ 0 = ap (λ b. one_if (b && (nat_lt a v && nat_le v u))) (ne_eqb other bank (λ e. omega (arith, e, higher))) in
        let z : one_if (nat_le (key other v) (key bank u)) ≡ 0 = ap one_if (lt-leb (key other v) (key bank u) (omega (arith, higher, us))) in
        omega (arith, x, y, z)

-- what one row more adds to a count over a bank's rows
filtered : {X : Type 0} (own test : X → Bool) (x : X) (k : ℕ) (rest : List X) → count_by test rest ≡ k
    → count_by test (cond (own x) (x ∷ rest) rest) ≡ one_if (own x && test x) + k
filtered own test x k rest is = by (own x)
  where
    by : (b : Bool) → count_by test (cond b (x ∷ rest) rest) ≡ one_if (b && test x) + k
    by true = let i = count-cons test x rest in omega (arith, i, is)
    by false = omega (arith, is)

skip : (own test : Bool) (x k z : ℕ) → test ≡ false → x + k ≡ z → x + (one_if (own && test) + k) ≡ z
skip own test x k z none is = let j : one_if (own && test) ≡ 0 = ap (λ b. one_if (own && b)) none ∙ ap one_if (and_false own) in omega (arith, j, is)

module _ {n : ℕ} (bank_of : ℕ → ℕ) (bank a u : ℕ) (le : a ≤ u) (us : u < reach) where
  -- a row's key, and what it adds to the count
  store_step : (tick : ℕ) (asks : Asks n) (old o : Outcome n) (keys : List ℕ) (k : ℕ) → is_short o ≡ true → up_to (key bank a) keys + k ≡ up_to (key bank u) keys
      → up_to (key bank a) (store_key bank_of (record { tick = tick; asks = asks; outcome = old }) o keys) + (one_if (is_of bank_of bank asks && (asks_write asks && (stored_after a o && stored_by u o))) + k)
      ≡ up_to (key bank u) (store_key bank_of (record { tick = tick; asks = asks; outcome = old }) o keys)
  store_step tick asks old out.Unset keys k short is = skip (is_of {n = n} bank_of bank asks) _ _ k _ (and_false (asks_write asks)) is
  store_step tick (Reads line) old (out.Stored v index) keys k short is = skip (is_of {n = n} bank_of bank (Reads line)) _ _ k _ refl is
  store_step tick (Writes line some given) old (out.Stored v index) keys k short is =
      let i = count-cons (λ x. nat_le x (key bank a)) (key (bank_of line) v) keys in
      let j = count-cons (λ x. nat_le x (key bank u)) (key (bank_of line) v) keys in
      let s = step bank (bank_of line) a u v le us (ltb-true v reach short) in
      omega (arith, i, j, s, is)
  store_step tick Cuts old (out.Stored v index) keys k short is = skip (is_of {n = n} bank_of bank Cuts) _ _ k _ refl is
  store_step tick asks old (out.Merged v) keys k short is = skip (is_of {n = n} bank_of bank asks) _ _ k _ (and_false (asks_write asks)) is
  store_step tick asks old (out.Queued v) keys k short is = skip (is_of {n = n} bank_of bank asks) _ _ k _ (and_false (asks_write asks)) is
  store_step tick asks old (out.Full v) keys k short is = skip (is_of {n = n} bank_of bank asks) _ _ k _ (and_false (asks_write asks)) is
  store_step tick asks old (out.Worn v) keys k short is = skip (is_of {n = n} bank_of bank asks) _ _ k _ (and_false (asks_write asks)) is
  store_step tick asks old (out.Read v index bytes) keys k short is = skip (is_of {n = n} bank_of bank asks) _ _ k _ (and_false (asks_write asks)) is
  store_step tick asks old (out.Forwarded v bytes) keys k short is = skip (is_of {n = n} bank_of bank asks) _ _ k _ (and_false (asks_write asks)) is
  store_step tick asks old (out.Busy v) keys k short is = skip (is_of {n = n} bank_of bank asks) _ _ k _ (and_false (asks_write asks)) is
  store_step tick asks old (out.Lost v) keys k short is = skip (is_of {n = n} bank_of bank asks) _ _ k _ (and_false (asks_write asks)) is
  store_step tick asks old (out.Cut v) keys k short is = skip (is_of {n = n} bank_of bank asks) _ _ k _ (and_false (asks_write asks)) is

  -- a row's key, and what it adds to the count
  read_step : (tick : ℕ) (asks : Asks n) (old o : Outcome n) (keys : List ℕ) (k : ℕ) → is_short o ≡ true → up_to (key bank a) keys + k ≡ up_to (key bank u) keys
      → up_to (key bank a) (read_key bank_of (record { tick = tick; asks = asks; outcome = old }) o keys) + (one_if (is_of bank_of bank asks && (asks_read asks && (read_after a o && read_by u o))) + k)
      ≡ up_to (key bank u) (read_key bank_of (record { tick = tick; asks = asks; outcome = old }) o keys)
  read_step tick asks old out.Unset keys k short is = skip (is_of {n = n} bank_of bank asks) _ _ k _ (and_false (asks_read asks)) is
  read_step tick asks old (out.Stored v index) keys k short is = skip (is_of {n = n} bank_of bank asks) _ _ k _ (and_false (asks_read asks)) is
  read_step tick asks old (out.Merged v) keys k short is = skip (is_of {n = n} bank_of bank asks) _ _ k _ (and_false (asks_read asks)) is
  read_step tick asks old (out.Queued v) keys k short is = skip (is_of {n = n} bank_of bank asks) _ _ k _ (and_false (asks_read asks)) is
  read_step tick asks old (out.Full v) keys k short is = skip (is_of {n = n} bank_of bank asks) _ _ k _ (and_false (asks_read asks)) is
  read_step tick asks old (out.Worn v) keys k short is = skip (is_of {n = n} bank_of bank asks) _ _ k _ (and_false (asks_read asks)) is
  read_step tick (Reads line) old (out.Read v index bytes) keys k short is =
      let i = count-cons (λ x. nat_le x (key bank a)) (key (bank_of line) v) keys in
      let j = count-cons (λ x. nat_le x (key bank u)) (key (bank_of line) v) keys in
      let s = step bank (bank_of line) a u v le us (ltb-true v reach short) in
      omega (arith, i, j, s, is)
  read_step tick (Writes line some given) old (out.Read v index bytes) keys k short is = skip (is_of {n = n} bank_of bank (Writes line some given)) _ _ k _ refl is
  read_step tick Cuts old (out.Read v index bytes) keys k short is = skip (is_of {n = n} bank_of bank Cuts) _ _ k _ refl is
  read_step tick asks old (out.Forwarded v bytes) keys k short is = skip (is_of {n = n} bank_of bank asks) _ _ k _ (and_false (asks_read asks)) is
  read_step tick asks old (out.Busy v) keys k short is = skip (is_of {n = n} bank_of bank asks) _ _ k _ (and_false (asks_read asks)) is
  read_step tick asks old (out.Lost v) keys k short is = skip (is_of {n = n} bank_of bank asks) _ _ k _ (and_false (asks_read asks)) is
  read_step tick asks old (out.Cut v) keys k short is = skip (is_of {n = n} bank_of bank asks) _ _ k _ (and_false (asks_read asks)) is

  stores : (rows : List (Row n)) → all_short rows ≡ true → up_to (key bank a) (store_keys bank_of rows) + stores_in a u (of_bank bank_of bank rows) ≡ up_to (key bank u) (store_keys bank_of rows)
  stores [] short = refl
  stores (q ∷ rows) short =
      let k = filtered (λ r. is_of bank_of bank r.asks) (λ r. asks_write r.asks && (stored_after a r.outcome && stored_by u r.outcome)) q
      (stores_in a u (of_bank bank_of bank rows)) (of_bank bank_of bank rows) refl in
      let s = store_step q.tick q.asks q.outcome q.outcome (store_keys bank_of rows) (stores_in a u (of_bank bank_of bank rows)) (and_first (is_short q.outcome) _ short)
      (stores rows (and_second (is_short q.outcome) _ short)) in
      ap (λ c. up_to (key bank a) (store_keys bank_of (q ∷ rows)) + c) k ∙ s

  reads : (rows : List (Row n)) → all_short rows ≡ true → up_to (key bank a) (read_keys bank_of rows) + reads_in a u (of_bank bank_of bank rows) ≡ up_to (key bank u) (read_keys bank_of rows)
  reads [] short = refl
  reads (q ∷ rows) short =
      let k = filtered (λ r. is_of bank_of bank r.asks) (λ r. asks_read r.asks && (read_after a r.outcome && read_by u r.outcome)) q
      (reads_in a u (of_bank bank_of bank rows)) (of_bank bank_of bank rows) refl in
      let s = read_step q.tick q.asks q.outcome q.outcome (read_keys bank_of rows) (reads_in a u (of_bank bank_of bank rows)) (and_first (is_short q.outcome) _ short)
      (reads rows (and_second (is_short q.outcome) _ short)) in
      ap (λ c. up_to (key bank a) (read_keys bank_of (q ∷ rows)) + c) k ∙ s

pub count_law : CountLaw
count_law n bank_of bank a u rows le us short = record {
  stores = stores bank_of bank a u le us rows short;
  reads = reads bank_of bank a u le us rows short;
}
