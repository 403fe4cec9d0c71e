-- What a bank did by a tick, counted.
use Rattle.std.proofs.Common.{◌≡◌, ℕ, suc, ◌+◌, ◌&&◌, ◌<◌, ◌≤◌, ◌++◌, ◌∷◌, Bool, true, false, List, [], length, refl, sym, ap, ◌∙◌, cond, subst, arith}
use Rattle.std.{specs.Prelude.{count_by, nat_le, reverse}, proofs.lemmas.Bool.{le-leb, lt-ltb}}
use Rattle.masked_bytes.proofs.Counting.{count-append, count-cons}
use Rattle.result_rows.specs.declared.Outcome.{Outcome}
use Rattle.result_rows.specs.declared.Outcome.TheVariants as out
use Rattle.row_rules.specs.{Table.{is_of, of_bank}, declared.Row.Row, declared.Rules.Rules}
use Rattle.row_rules.specs.Ticking as ticking
use Rattle.check_verdict.{specs.Judged.{a_write, beside}, specs.Verdicts.bank_in, proofs.Settles.filter-reverse}
use Rattle.check_telling.specs.{Standing.{mates_of, numbered, rows_of}, declared.facts.StoreCounts.StoreCounts, declared.mates.Numbered.Numbered}
use Rattle.check_telling.proofs.Folds.{count_told}
use Rattle.clause_telling.specs.Counts.{Counts, is_stored_in, is_read_in, is_cut_to}

module _ {n : ℕ} where
  count_forth : (p : Row n → Bool) (told : List (Numbered n)) → count_by p (rows_of told) ≡ count_by (λ one. p one.row) told
  count_forth p [] = refl
  count_forth p (one ∷ told) =
      let a = count_forth p told in
      let b = count-cons p one.row (rows_of told) in
      let c = count-cons (λ (other : Numbered n). p other.row) one told in
      omega (arith, a, b, c)

  around : (p : Row n → Bool) (past later : List (Numbered n)) (r : Row n)
      → count_by p (reverse (rows_of past) ++ r ∷ rows_of later) ≡ count_by (λ one. p one.row) past + count_by (λ one. p one.row) later + cond (p r) 1 0
  around p past later r =
      let a = count-append p (reverse (rows_of past)) (r ∷ rows_of later) in
      let b = count-cons p r (rows_of later) in
      let c = count_told p past in
      let d = count_forth p later in
      omega (arith, a, b, c, d)

  pub counted : (rules : Rules) (past later : List (Numbered n)) (tick to line place : ℕ) (bytes : List ℕ) (given : List Bool) (stores reads cuts late : ℕ)
      → tick < to
      → stores ≡ count_by (λ one. is_stored_in tick to one.row) past + count_by (λ one. is_stored_in tick to one.row) later + 1
      → reads ≡ count_by (λ one. is_read_in tick to one.row) past + count_by (λ one. is_read_in tick to one.row) later
      → cuts ≡ count_by (λ one. is_cut_to to one.row) later → late ≡ tick + ticking.longest rules stores reads cuts
      → Counts rules (a_write tick line bytes given (out.Stored to place)) to (reverse (rows_of past)) (rows_of later)
      (record { stores = stores; reads = reads; cuts = cuts; latest = late })
  counted rules past later tick to line place bytes given stores reads cuts late lt s r c l =
      let row : Row n = a_write tick line bytes given (out.Stored to place) in
      let own : is_stored_in tick to row ≡ true = ap (λ b. b && nat_le to to) (lt-ltb tick to lt) ∙ le-leb to to (omega arith) in
      let a = around (is_stored_in tick to) past later row in
      let b = around (is_read_in tick to) past later row in
      let one : cond (is_stored_in tick to row) 1 0 ≡ 1 = ap (λ b. cond b 1 0) own in
      let ss : stores ≡ ticking.stores_in tick to (reverse (rows_of past) ++ row ∷ rows_of later) = s ∙ sym (a ∙ ap (λ k. count_by (λ one. is_stored_in tick to one.row) past + count_by (λ one. is_stored_in tick to one.row) later + k) one) in
      let rr : reads ≡ ticking.reads_in tick to (reverse (rows_of past) ++ row ∷ rows_of later) = r ∙ sym (b ∙ omega arith) in
      let cs : cuts ≡ ticking.cuts_to to (rows_of later) = c ∙ sym (count_forth (is_cut_to to) later) in
      record {
        stores = ss;
        reads = rr;
        cuts = cs;
        latest_is =
            l ∙ ap (λ k. tick + ticking.longest rules k reads cuts) ss
            ∙ ap (λ k. tick + ticking.longest rules (ticking.stores_in tick to (reverse (rows_of past) ++ row ∷ rows_of later)) k cuts) rr
            ∙ ap (λ k. tick + ticking.longest rules (ticking.stores_in tick to (reverse (rows_of past) ++ row ∷ rows_of later)) (ticking.reads_in tick to (reverse (rows_of past) ++ row ∷ rows_of later)) k) cs;
      }

  pub mates_few : (bank_of : ℕ → ℕ) (bank above : ℕ) (rows : List (Row n)) → length (mates_of bank_of bank above rows) ≤ length rows
  mates_few bank_of bank above [] = omega arith
  mates_few bank_of bank above (q ∷ rows) = by (is_of bank_of bank q.asks) (mates_few bank_of bank (above + 1) rows)
    where
      by : (b : Bool) → length (mates_of bank_of bank (above + 1) rows) ≤ length rows
          → length (cond b (numbered (above + 1) q ∷ mates_of bank_of bank (above + 1) rows) (mates_of bank_of bank (above + 1) rows)) ≤ suc (length rows)
      by true h = omega (arith, h)
      by false h = omega (arith, h)

  -- when a write is stored
  abbrev ticked : Outcome n → ℕ
  ticked (out.Stored u place) = u
  ticked _ = 0

  pub counts_of : (rules : Rules) (banks : List ℕ) (tick line bank at first u place : ℕ) (bytes : List ℕ) (given : List Bool) (o : Outcome n) (before after : List (Row n))
      (past later : List (Numbered n)) (c : StoreCounts) → bank ≡ bank_in banks line → rows_of past ≡ of_bank (bank_in banks) bank before
      → rows_of later ≡ of_bank (bank_in banks) bank after → o ≡ out.Stored at first → o ≡ out.Stored u place
      → Counts rules (a_write tick line bytes given (out.Stored at first)) at (reverse (rows_of past)) (rows_of later) c
      → Counts rules (a_write tick line bytes given o) u (beside banks line (reverse before)) (beside banks line after) c
  counts_of rules banks tick line bank at first u place bytes given o before after past later c b p l is other h =
      let earlier : reverse (rows_of past) ≡ beside banks line (reverse before)
      = ap reverse (p ∙ ap (λ k. of_bank (bank_in banks) k before) b) ∙ sym (filter-reverse (λ (r : Row n). is_of (bank_in banks) (bank_in banks line) r.asks) before) in
      let behind : rows_of later ≡ beside banks line after = l ∙ ap (λ k. of_bank (bank_in banks) k after) b in
      let same : at ≡ u = ap ticked (sym is ∙ other) in
      subst (λ k. Counts rules (a_write tick line bytes given o) k (beside banks line (reverse before)) (beside banks line after) c) same
      (subst (λ x. Counts rules (a_write tick line bytes given x) at (beside banks line (reverse before)) (beside banks line after) c) (sym is)
      (subst (λ xs. Counts rules (a_write tick line bytes given (out.Stored at first)) at xs (beside banks line after) c) earlier
      (subst (λ xs. Counts rules (a_write tick line bytes given (out.Stored at first)) at (reverse (rows_of past)) xs c) behind h)))

pub sums : (a b x y : ℕ) → a ≡ x → b ≡ y → a + b ≡ x + y
sums a b x y e f = omega (arith, e, f)
