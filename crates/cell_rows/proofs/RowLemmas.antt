-- Rows of cells, by their data bytes and their check bytes.
use Rattle.std.proofs.Common.{◌≡◌, ℕ, ◌+◌, ◌-◌, ◌*◌, ◌/◌, ◌%◌, ◌<◌, ◌≤◌, Bool, true, false, cond, eqb, length, replicate, ◌≢◌, refl, sym, ◌∙◌, ap, inl, inr, arith, eq-eqb, ne_eqb, add-one, add-zero, subst, zero, suc}
use Rattle.std.{specs.Int.bit_at, proofs.lemmas.Bool.{cases_eq, cases_lt}, proofs.lemmas.List.{get_or-replicate, length-replicate}, proofs.lemmas.Nat.Bits.bit_at-zero}
use Rattle.cell_rows.{specs.Rows.{bit_of, cell, members}, specs.declared.row.Cells.Cells, proofs.ByteLemmas.{bit_of-append, bit_of-append_right, bit_of_past}}

-- a data cell is a bit of the data bytes
pub cell-bits : {B M : ℕ} (row : Cells B M) (n : ℕ) → length row.bits ≡ B → n < 8 * B → cell row n ≡ bit_of row.bits n
unfolding cell
cell-bits row n len h = bit_of-append row.bits row.meta n (omega arith)

-- a check cell is a bit of the check bytes
pub cell-meta : {B M : ℕ} (row : Cells B M) (n : ℕ) → length row.bits ≡ B → 8 * B ≤ n → cell row n ≡ bit_of row.meta (n - 8 * B)
unfolding cell
cell-meta {B} {M} row n len h = bit_of-append_right row.bits row.meta B n len h

-- past the end a row is false
pub cell_past : {B M : ℕ} (row : Cells B M) (n : ℕ) → length row.bits ≡ B → length row.meta ≡ M → 8 * (B + M) ≤ n → cell row n ≡ false
cell_past {B} {M} row n len_bits len_meta h =
    cell-meta row n len_bits (omega arith) ∙ bit_of_past row.meta (n - 8 * B) (omega arith)

bit_of_zeros : (size n : ℕ) → bit_of (replicate size 0) n ≡ false
bit_of_zeros size n =
    elim (cases_lt (n / 8) size) as (λ _. bit_of (replicate size 0) n ≡ false) [
      | inl low ↦
          ap (λ x. eqb (bit_at x (n % 8)) 1) (get_or-replicate size (n / 8) 0 0 low) ∙ ap (λ x. eqb x 1) (bit_at-zero (n % 8))
      | inr high ↦ bit_of_past (replicate size 0) n (omega (arith, length-replicate {A = ℕ} size 0))
    ]

-- a row of zeros has no cell
pub cell-zeros : (B M n : ℕ) → cell {B = B} {M = M} (record { bits = replicate B 0; meta = replicate M 0 }) n ≡ false
cell-zeros B M n =
    let row : Cells B M = record { bits = replicate B 0; meta = replicate M 0 } in
    let len : length row.bits ≡ B = length-replicate B 0 in
    elim (cases_lt n (8 * B)) as (λ _. cell row n ≡ false) [
      | inl low ↦ cell-bits row n len low ∙ bit_of_zeros B n
      | inr high ↦ cell-meta row n len high ∙ bit_of_zeros M (n - 8 * B)
    ]

-- what two rows make bit by bit they make cell by cell
pub cells_by_bits : {B M : ℕ} (f : Bool → Bool → Bool) (a b c : Cells B M) → length a.bits ≡ B → length b.bits ≡ B → length c.bits ≡ B
    → ((n : ℕ) → bit_of c.bits n ≡ f (bit_of a.bits n) (bit_of b.bits n))
    → ((n : ℕ) → bit_of c.meta n ≡ f (bit_of a.meta n) (bit_of b.meta n))
    → (n : ℕ) → cell c n ≡ f (cell a n) (cell b n)
cells_by_bits {B} {M} f a b c len_a len_b len_c bits meta n =
    elim (cases_lt n (8 * B)) as (λ _. cell c n ≡ f (cell a n) (cell b n)) [
      | inl low ↦
          rw (cell-bits c n len_c low, cell-bits a n len_a low, cell-bits b n len_b low) (bits n)
      | inr high ↦
          rw (cell-meta c n len_c high, cell-meta a n len_a high, cell-meta b n len_b high) (meta (n - 8 * B))
    ]

-- bit n of the data bytes is cell n where it is one of theirs, and else false
pub bits_from_cells : {B M : ℕ} (row : Cells B M) → length row.bits ≡ B → ((n : ℕ) → cell row n ≡ false) → (n : ℕ) → bit_of row.bits n ≡ false
bits_from_cells {B} {M} row len none n =
    elim (cases_lt n (8 * B)) as (λ _. bit_of row.bits n ≡ false) [
      | inl low ↦ sym (cell-bits row n len low) ∙ none n
      | inr high ↦ bit_of_past row.bits n (omega arith)
    ]

pub meta_from_cells : {B M : ℕ} (row : Cells B M) → length row.bits ≡ B → ((n : ℕ) → cell row n ≡ false) → (n : ℕ) → bit_of row.meta n ≡ false
meta_from_cells {B} {M} row len none n =
    let here : 8 * B + n - 8 * B ≡ n = omega arith in
    ap (bit_of row.meta) (sym here) ∙ sym (cell-meta row (8 * B + n) len (omega arith)) ∙ none (8 * B + n)

-- rows with the same bytes are equal
pub same_rows : {B M : ℕ} (a b : Cells B M) → a.bits ≡ b.bits → a.meta ≡ b.meta → a ≡ b
same_rows a b bits meta = subst (λ x. a ≡ record b { bits = x }) bits (subst (λ x. a ≡ record a { meta = x }) meta refl)

-- one data cell is set
pub cells_set-bits : {B M : ℕ} (old new : Cells B M) (number : ℕ) (value : Bool) → length old.bits ≡ B → length new.bits ≡ B → number < 8 * B
    → ((n : ℕ) → bit_of new.bits n ≡ cond (eqb n number) value (bit_of old.bits n)) → new.meta ≡ old.meta
    → (n : ℕ) → cell new n ≡ cond (eqb n number) value (cell old n)
cells_set-bits {B} {M} old new number value len_old len_new within bits meta n =
    elim (cases_lt n (8 * B)) as (λ _. cell new n ≡ cond (eqb n number) value (cell old n)) [
      | inl low ↦ rw (cell-bits new n len_new low, cell-bits old n len_old low) (bits n)
      | inr high ↦
          rw (ne_eqb n number (omega arith))
          (cell-meta new n len_new high ∙ ap (λ x. bit_of x (n - 8 * B)) meta ∙ sym (cell-meta old n len_old high))
    ]

-- one check cell is set
pub cells_set-meta : {B M : ℕ} (old new : Cells B M) (number : ℕ) (value : Bool) → length old.bits ≡ B → length new.bits ≡ B → 8 * B ≤ number
    → ((n : ℕ) → bit_of new.meta n ≡ cond (eqb n (number - 8 * B)) value (bit_of old.meta n)) → new.bits ≡ old.bits
    → (n : ℕ) → cell new n ≡ cond (eqb n number) value (cell old n)
cells_set-meta {B} {M} old new number value len_old len_new within meta bits n =
    elim (cases_lt n (8 * B)) as (λ _. cell new n ≡ cond (eqb n number) value (cell old n)) [
      | inl low ↦
          rw (ne_eqb n number (omega arith))
          (cell-bits new n len_new low ∙ ap (λ x. bit_of x n) bits ∙ sym (cell-bits old n len_old low))
      | inr high ↦
          let e : eqb (n - 8 * B) (number - 8 * B) ≡ eqb n number =
          (elim (cases_eq n number) as (λ _. eqb (n - 8 * B) (number - 8 * B) ≡ eqb n number) [
            | inl same ↦ eq-eqb _ _ (omega arith) ∙ sym (eq-eqb _ _ same)
            | inr apart ↦ ne_eqb _ _ (omega arith) ∙ sym (ne_eqb _ _ apart)
          ]) in
          rw (cell-meta new n len_new high, cell-meta old n len_old high) (meta (n - 8 * B) ∙ ap (λ t. cond t value (bit_of old.meta (n - 8 * B))) e)
    ]

-- a row without a cell, from its bytes
pub cells_none : {B M : ℕ} (row : Cells B M) → length row.bits ≡ B → ((n : ℕ) → bit_of row.bits n ≡ false)
    → ((n : ℕ) → bit_of row.meta n ≡ false) → (n : ℕ) → cell row n ≡ false
cells_none {B} {M} row len bits meta n =
    elim (cases_lt n (8 * B)) as (λ _. cell row n ≡ false) [
      | inl low ↦ cell-bits row n len low ∙ bits n
      | inr high ↦ cell-meta row n len high ∙ meta (n - 8 * B)
    ]

-- a cell from a bit of the data bytes
pub cells_some-bits : {B M : ℕ} (row : Cells B M) → length row.bits ≡ B → ((n : ℕ) × (n < 8 * length row.bits) × (bit_of row.bits n ≡ true))
    → (n : ℕ) × (n < 8 * (B + M)) × (cell row n ≡ true)
cells_some-bits {B} {M} row len (n, h, e) = (n, omega arith, cell-bits row n len (omega arith) ∙ e)

-- a cell from a bit of the check bytes
pub cells_some-meta : {B M : ℕ} (row : Cells B M) → length row.bits ≡ B → length row.meta ≡ M
    → ((n : ℕ) × (n < 8 * length row.meta) × (bit_of row.meta n ≡ true)) → (n : ℕ) × (n < 8 * (B + M)) × (cell row n ≡ true)
cells_some-meta {B} {M} row len_bits len_meta (n, h, e) =
    let here : 8 * B + n - 8 * B ≡ n = omega arith in
    (8 * B + n, omega arith, cell-meta row (8 * B + n) len_bits (omega arith) ∙ ap (bit_of row.meta) here ∙ e)

-- one more number is looked at
pub members-suc : (has : ℕ → Bool) (n : ℕ) → members has (n + 1) ≡ members has n + cond (has n) 1 0
unfolding members
members-suc has n = rw add-one refl

one_le : (b : Bool) → cond b 1 0 ≤ 1
one_le b = grind arith

pub members_le : (has : ℕ → Bool) (n : ℕ) → members has n ≤ n
unfolding members
members_le has zero = omega arith
members_le has (suc n) = omega (arith, members_le has n, one_le (has n))

pub members-zero : (has : ℕ → Bool) → members has 0 ≡ 0
unfolding members
members-zero has = refl

-- one more number that has the property
pub members-more : (has : ℕ → Bool) (n : ℕ) → has n ≡ true → members has (n + 1) ≡ members has n + 1
members-more has n is = members-suc has n ∙ ap (λ b. members has n + cond b 1 0) is

members_same : (has other : ℕ → Bool) (n : ℕ) → ((k : ℕ) → k < n → has k ≡ other k) → members has n ≡ members other n
unfolding members
members_same has other zero same = refl
members_same has other (suc n) same =
    ap (λ k. k + cond (has n) 1 0) (members_same has other n (λ k low. same k (omega arith)))
    ∙ ap (λ b. members other n + cond b 1 0) (same n (omega arith))

-- those below n, and those from n on
members_split : (has : ℕ → Bool) (n m : ℕ) → members has (n + m) ≡ members has n + members (λ k. has (n + k)) m
unfolding members
members_split has n zero = omega (arith, ap (members has) (add-zero n))
members_split has n (suc m) =
    let next : n + suc m ≡ n + m + 1 = omega arith in
    omega (arith, ap (members has) next, members-suc has (n + m), members_split has n m)

-- the cells of a row are those of its data bytes and those of its check bytes
pub members_parts : {B M : ℕ} (row : Cells B M) → length row.bits ≡ B
    → members (cell row) (8 * (B + M)) ≡ members (bit_of row.bits) (8 * B) + members (bit_of row.meta) (8 * M)
members_parts {B} {M} row len =
    let size : 8 * (B + M) ≡ 8 * B + 8 * M = omega arith in
    ap (members (cell row)) size ∙ members_split (cell row) (8 * B) (8 * M)
    ∙ ap (λ k. k + members (λ n. cell row (8 * B + n)) (8 * M)) (members_same (cell row) (bit_of row.bits) (8 * B) (λ n low. cell-bits row n len low))
    ∙ ap (λ k. members (bit_of row.bits) (8 * B) + k)
    (members_same (λ n. cell row (8 * B + n)) (bit_of row.meta) (8 * M)
    (λ n low. cell-meta row (8 * B + n) len (omega arith) ∙ ap (bit_of row.meta) (omega arith)))

-- a data block and a check block, as bits of their bytes
pub block-bits : {B M : ℕ} (row : Cells B M) (block i : ℕ) → length row.bits ≡ B → B % 8 ≡ 0 → 8 * block < B → i < 64
    → cell row (64 * block + i) ≡ bit_of row.bits (64 * block + i)
block-bits row block i len whole within low = cell-bits row (64 * block + i) len (omega arith)

pub block-meta : {B M : ℕ} (row : Cells B M) (block i : ℕ) → length row.bits ≡ B → B % 8 ≡ 0 → B ≤ 8 * block
    → cell row (64 * block + i) ≡ bit_of row.meta (64 * (block - B / 8) + i)
block-meta {B} {M} row block i len whole from =
    let index : 64 * block + i - 8 * B ≡ 64 * (block - B / 8) + i = omega arith in
    cell-meta row (64 * block + i) len (omega arith) ∙ ap (bit_of row.meta) index

-- a block of data bytes is written
pub kept-bits : {B M : ℕ} (old new : Cells B M) (block n : ℕ) → length old.bits ≡ B → length new.bits ≡ B → new.meta ≡ old.meta
    → ((k : ℕ) → k / 64 ≢ block → bit_of new.bits k ≡ bit_of old.bits k) → n / 64 ≢ block → cell new n ≡ cell old n
kept-bits {B} {M} old new block n len len_new meta others apart =
    elim (cases_lt n (8 * B)) as (λ _. cell new n ≡ cell old n) [
      | inl low ↦ cell-bits new n len_new low ∙ others n apart ∙ sym (cell-bits old n len low)
      | inr high ↦ cell-meta new n len_new high ∙ ap (λ bytes. bit_of bytes (n - 8 * B)) meta ∙ sym (cell-meta old n len high)
    ]

-- a block of check bytes is written
pub kept-meta : {B M : ℕ} (old new : Cells B M) (block n : ℕ) → length old.bits ≡ B → length new.bits ≡ B → new.bits ≡ old.bits
    → B % 8 ≡ 0 → B ≤ 8 * block
    → ((k : ℕ) → k / 64 ≢ block - B / 8 → bit_of new.meta k ≡ bit_of old.meta k) → n / 64 ≢ block → cell new n ≡ cell old n
kept-meta {B} {M} old new block n len len_new bits whole from others apart =
    elim (cases_lt n (8 * B)) as (λ _. cell new n ≡ cell old n) [
      | inl low ↦ cell-bits new n len_new low ∙ ap (λ bytes. bit_of bytes n) bits ∙ sym (cell-bits old n len low)
      | inr high ↦
          let index : (n - 8 * B) / 64 ≢ block - B / 8 = λ e. apart (omega arith) in
          cell-meta new n len_new high ∙ others (n - 8 * B) index ∙ sym (cell-meta old n len high)
    ]

-- a group of data bytes is written, and one of check bytes
pub kept_group-bits : {B M : ℕ} (old new : Cells B M) (group n : ℕ) → length old.bits ≡ B → length new.bits ≡ B → new.meta ≡ old.meta
    → ((k : ℕ) → k / 8 ≢ group → bit_of new.bits k ≡ bit_of old.bits k) → n / 8 ≢ group → cell new n ≡ cell old n
kept_group-bits {B} {M} old new group n len len_new meta others apart =
    elim (cases_lt n (8 * B)) as (λ _. cell new n ≡ cell old n) [
      | inl low ↦ cell-bits new n len_new low ∙ others n apart ∙ sym (cell-bits old n len low)
      | inr high ↦ cell-meta new n len_new high ∙ ap (λ bytes. bit_of bytes (n - 8 * B)) meta ∙ sym (cell-meta old n len high)
    ]

pub kept_group-meta : {B M : ℕ} (old new : Cells B M) (group n : ℕ) → length old.bits ≡ B → length new.bits ≡ B → new.bits ≡ old.bits
    → B ≤ group → ((k : ℕ) → k / 8 ≢ group - B → bit_of new.meta k ≡ bit_of old.meta k) → n / 8 ≢ group → cell new n ≡ cell old n
kept_group-meta {B} {M} old new group n len len_new bits from others apart =
    elim (cases_lt n (8 * B)) as (λ _. cell new n ≡ cell old n) [
      | inl low ↦ cell-bits new n len_new low ∙ ap (λ bytes. bit_of bytes n) bits ∙ sym (cell-bits old n len low)
      | inr high ↦
          let index : (n - 8 * B) / 8 ≢ group - B = λ e. apart (omega arith) in
          cell-meta new n len_new high ∙ others (n - 8 * B) index ∙ sym (cell-meta old n len high)
    ]
