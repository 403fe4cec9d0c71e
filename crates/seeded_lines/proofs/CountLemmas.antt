-- Numbers of cells in rows of eight.
use Rattle.std.proofs.Common.{◌≡◌, ◌≢◌, ℕ, suc, ◌+◌, ◌-◌, ◌*◌, ◌/◌, ◌%◌, ◌<◌, ◌≤◌, List, [], ◌∷◌, ◌++◌, length, get_or, set, refl, sym, ◌∙◌, ap, inl, inr, arith, get_or-set_same, get_or-set_other}
use Rattle.std.{specs.List.flat_map, proofs.Math.ListN.get_or-append, proofs.lemmas.Bool.cases_lt, proofs.lemmas.List.{get_or-append_right, get_or_past}}
use Rattle.seeded_lines.specs.{Counts.{count, count_in}, declared.counts.Counts.Counts}

-- the rows one after another
pub flat_at : (rows : List (List ℕ)) (n : ℕ) → ((k : ℕ) → k < length rows → length (get_or rows k []) ≡ 8)
    → get_or (flat_map (λ row. row) rows) n 0 ≡ count_in rows n
flat_at [] n eights = get_or_past [] n 0 (omega arith) ∙ sym (ap (λ row. get_or row (n % 8) 0) (get_or_past [] (n / 8) [] (omega arith)) ∙ get_or_past [] (n % 8) 0 (omega arith))
flat_at (row ∷ rows) n eights =
    let eight : length row ≡ 8 = eights 0 (omega arith) in
    elim (cases_lt n 8) as (λ _. get_or (row ++ flat_map (λ x. x) rows) n 0 ≡ count_in (row ∷ rows) n) [
      | inl low ↦
          let index : n / 8 ≡ 0 = omega arith in
          let number : n % 8 ≡ n = omega arith in
          get_or-append row (flat_map (λ x. x) rows) 0 n (omega (arith, eight)) ∙ rw (index, number) refl
      | inr high ↦
          let index : n / 8 ≡ suc ((n - 8) / 8) = omega arith in
          let number : n % 8 ≡ (n - 8) % 8 = omega arith in
          get_or-append_right row (flat_map (λ x. x) rows) 8 n 0 eight high
          ∙ flat_at rows (n - 8) (λ k h. eights (suc k) (omega (arith, h)))
          ∙ rw (index, number) refl
    ]

-- the numbers of the first rows come first
pub count_in-append : (a b : List (List ℕ)) (n : ℕ) → n < 8 * length a → count_in (a ++ b) n ≡ count_in a n
count_in-append a b n h = ap (λ row. get_or row (n % 8) 0) (get_or-append a b [] (n / 8) (omega arith))

-- and then those of the others
pub count_in-append_right : (a b : List (List ℕ)) (size n : ℕ) → length a ≡ size → 8 * size ≤ n → count_in (a ++ b) n ≡ count_in b (n - 8 * size)
count_in-append_right a b size n e h =
    let index : n / 8 - size ≡ (n - 8 * size) / 8 = omega arith in
    let low : n % 8 ≡ (n - 8 * size) % 8 = omega arith in
    ap (λ row. get_or row (n % 8) 0) (get_or-append_right a b size (n / 8) [] e (omega arith) ∙ ap (λ i. get_or b i []) index)
    ∙ ap (λ i. get_or (get_or b ((n - 8 * size) / 8) []) i 0) low

pub count-bits : {B M : ℕ} (counts : Counts B M) (n : ℕ) → length counts.bits ≡ B → n < 8 * B → count counts n ≡ count_in counts.bits n
unfolding count
count-bits counts n len h = count_in-append counts.bits counts.meta n (omega arith)

pub count-meta : {B M : ℕ} (counts : Counts B M) (n : ℕ) → length counts.bits ≡ B → 8 * B ≤ n → count counts n ≡ count_in counts.meta (n - 8 * B)
unfolding count
count-meta {B} {M} counts n len h = count_in-append_right counts.bits counts.meta B n len h

-- a block of the data cells and one of the check cells
pub block_count-bits : {B M : ℕ} (counts : Counts B M) (block i : ℕ) → length counts.bits ≡ B → B % 8 ≡ 0 → 8 * block < B → i < 64
    → count counts (64 * block + i) ≡ count_in counts.bits (64 * block + i)
block_count-bits counts block i len whole within low = count-bits counts (64 * block + i) len (omega arith)

pub block_count-meta : {B M : ℕ} (counts : Counts B M) (block i : ℕ) → length counts.bits ≡ B → B % 8 ≡ 0 → B ≤ 8 * block
    → count counts (64 * block + i) ≡ count_in counts.meta (64 * (block - B / 8) + i)
block_count-meta {B} {M} counts block i len whole from =
    let index : 64 * block + i - 8 * B ≡ 64 * (block - B / 8) + i = omega arith in
    count-meta counts (64 * block + i) len (omega arith) ∙ ap (count_in counts.meta) index

-- the other blocks stay where a block of the data cells is written
pub kept_count-bits : {B M : ℕ} (old new : Counts B M) (block n : ℕ) → length old.bits ≡ B → length new.bits ≡ B → new.meta ≡ old.meta
    → ((k : ℕ) → k / 64 ≢ block → count_in new.bits k ≡ count_in old.bits k) → n / 64 ≢ block → count new n ≡ count old n
kept_count-bits {B} {M} old new block n len len_new meta others apart =
    elim (cases_lt n (8 * B)) as (λ _. count new n ≡ count old n) [
      | inl low ↦ count-bits new n len_new low ∙ others n apart ∙ sym (count-bits old n len low)
      | inr high ↦ count-meta new n len_new high ∙ ap (λ x. count_in x (n - 8 * B)) meta ∙ sym (count-meta old n len high)
    ]

pub kept_count-meta : {B M : ℕ} (old new : Counts B M) (block n : ℕ) → length old.bits ≡ B → length new.bits ≡ B → new.bits ≡ old.bits
    → B % 8 ≡ 0 → B ≤ 8 * block
    → ((k : ℕ) → k / 64 ≢ block - B / 8 → count_in new.meta k ≡ count_in old.meta k) → n / 64 ≢ block → count new n ≡ count old n
kept_count-meta {B} {M} old new block n len len_new bits whole from others apart =
    elim (cases_lt n (8 * B)) as (λ _. count new n ≡ count old n) [
      | inl low ↦ count-bits new n len_new low ∙ ap (λ x. count_in x n) bits ∙ sym (count-bits old n len low)
      | inr high ↦
          let index : (n - 8 * B) / 64 ≢ block - B / 8 = λ e. apart (omega arith) in
          count-meta new n len_new high ∙ others (n - 8 * B) index ∙ sym (count-meta old n len high)
    ]

-- a row of eight is written
pub count_in_written : (rows : List (List ℕ)) (group i : ℕ) (row : List ℕ) → group < length rows → i < 8
    → count_in (set rows group row) (8 * group + i) ≡ get_or row i 0
count_in_written rows group i row within low =
    let index : (8 * group + i) / 8 ≡ group = omega arith in
    let digit : (8 * group + i) % 8 ≡ i = omega arith in
    ap (λ k. get_or (get_or (set rows group row) k []) ((8 * group + i) % 8) 0) index
    ∙ ap (λ xs. get_or xs ((8 * group + i) % 8) 0) (get_or-set_same rows group row [] within) ∙ ap (λ k. get_or row k 0) digit

pub count_in_kept : (rows : List (List ℕ)) (group n : ℕ) (row : List ℕ) → n / 8 ≢ group → count_in (set rows group row) n ≡ count_in rows n
count_in_kept rows group n row apart = ap (λ xs. get_or xs (n % 8) 0) (get_or-set_other rows group (n / 8) row [] (λ e. apart (omega arith)))

pub kept_row-bits : {B M : ℕ} (old new : Counts B M) (group n : ℕ) → length old.bits ≡ B → length new.bits ≡ B → new.meta ≡ old.meta
    → ((k : ℕ) → k / 8 ≢ group → count_in new.bits k ≡ count_in old.bits k) → n / 8 ≢ group → count new n ≡ count old n
kept_row-bits {B} {M} old new group n len len_new meta others apart =
    elim (cases_lt n (8 * B)) as (λ _. count new n ≡ count old n) [
      | inl low ↦ count-bits new n len_new low ∙ others n apart ∙ sym (count-bits old n len low)
      | inr high ↦ count-meta new n len_new high ∙ ap (λ x. count_in x (n - 8 * B)) meta ∙ sym (count-meta old n len high)
    ]

pub kept_row-meta : {B M : ℕ} (old new : Counts B M) (group n : ℕ) → length old.bits ≡ B → length new.bits ≡ B → new.bits ≡ old.bits
    → B ≤ group → ((k : ℕ) → k / 8 ≢ group - B → count_in new.meta k ≡ count_in old.meta k) → n / 8 ≢ group → count new n ≡ count old n
kept_row-meta {B} {M} old new group n len len_new bits from others apart =
    elim (cases_lt n (8 * B)) as (λ _. count new n ≡ count old n) [
      | inl low ↦ count-bits new n len_new low ∙ ap (λ x. count_in x n) bits ∙ sym (count-bits old n len low)
      | inr high ↦
          let index : (n - 8 * B) / 8 ≢ group - B = λ e. apart (omega arith) in
          count-meta new n len_new high ∙ others (n - 8 * B) index ∙ sym (count-meta old n len high)
    ]

-- of the rows the numbers from one on, up to another, are less by so much, and the others are as they were
pub record Lessens (less : ℕ → ℕ) (from to : ℕ) (old now : List (List ℕ)) : Type 0 where
  pub done : (n : ℕ) → from ≤ n → n < to → count_in now n ≡ count_in old n - less n
  pub below : (n : ℕ) → n < from → count_in now n ≡ count_in old n
  pub above : (n : ℕ) → to ≤ n → count_in now n ≡ count_in old n

pub lessens_none : (less : ℕ → ℕ) (from : ℕ) (rows : List (List ℕ)) → Lessens less from from rows rows
lessens_none less from rows = record { done = λ n high low. absurd (omega arith); below = λ n h. refl; above = λ n h. refl }

-- a row more
pub lessens_row : (less : ℕ → ℕ) (from row : ℕ) (old now : List (List ℕ)) (new : List ℕ) → from ≤ 8 * row → row < length now
    → ((i : ℕ) → i < 8 → get_or new i 0 ≡ get_or (get_or now row []) i 0 - less (8 * row + i))
    → Lessens less from (8 * row) old now → Lessens less from (8 * row + 8) old (set now row new)
lessens_row less from row old now new first within here lessens = record {
  done = λ n high low.
      elim (cases_lt n (8 * row)) as (λ _. count_in (set now row new) n ≡ count_in old n - less n) [
        | inl before ↦ count_in_kept now row n new (λ e. absurd (omega arith)) ∙ lessens.done n high before
        | inr from_row ↦
            let i : ℕ = n - 8 * row in
            let few : i < 8 = omega arith in
            let number : 8 * row + i ≡ n = omega arith in
            let index : n / 8 ≡ row = omega arith in
            let digit : n % 8 ≡ i = omega arith in
            ap (count_in (set now row new)) (sym number) ∙ count_in_written now row i new within few ∙ here i few
            ∙ ap (λ k. k - less (8 * row + i))
            (ap (λ k. get_or (get_or now k []) i 0) (sym index) ∙ ap (λ k. get_or (get_or now (n / 8) []) k 0) (sym digit) ∙ lessens.above n (omega arith))
            ∙ ap (λ k. count_in old n - less k) number
      ];
  below = λ n low. count_in_kept now row n new (λ e. absurd (omega arith)) ∙ lessens.below n low;
  above = λ n high. count_in_kept now row n new (λ e. absurd (omega arith)) ∙ lessens.above n (omega arith);
}
