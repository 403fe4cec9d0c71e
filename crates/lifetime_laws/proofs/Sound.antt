-- A bank none of whose slots' own lines is worn.
use Rattle.std.proofs.Common.{◌≡◌, ◌⊎◌, inl, inr, ℕ, zero, suc, ◌+◌, ◌-◌, ◌<◌, ◌≤◌, ◌&&◌, ◌||◌, not, Bool, true, false, List, [], ◌∷◌, refl, ap, ◌∙◌, arith}
use Rattle.std.{specs.Prelude.{nat_lt, IsTrue}, proofs.lemmas.Bool.{and_parts, and_from, false_from_ne_true, leb-true}}
use Rattle.row_rules.specs.{Answers.is_queued, Rows.{each_row, asks_write}, Wearing.worn_row, declared.Row.Row}
use Rattle.bank_shape.specs.{Shape.{slots_of, controls_of}, declared.BankShape.BankShape}
use Rattle.ecp_line.specs.ArrayLines.{is_worn_at}
use Rattle.right_runs.specs.{Roles.used_among, WornLines.{worn_among, is_worn_out, may_leave, is_wear_true}}
use Rattle.lifetime_laws.{specs.Endurance.{is_unrefused, is_unqueued, KeepsControls, SoundRowsLaw, NoneRetiredLaw}, proofs.Counting.one-few}
use Rattle.masked_bytes.proofs.Counting.{one_if}

worn-few : (worn : ℕ → Bool) (from n : ℕ) → worn_among worn from n ≤ n
worn-few worn from zero = omega arith
worn-few worn from (suc n) = omega (arith, one-few (worn from), worn-few worn (from + 1) n)

worn-at : (worn : ℕ → Bool) (a b n : ℕ) → a ≡ b → worn_among worn a n ≡ worn_among worn b n
worn-at worn a b n same = ap (λ from. worn_among worn from n) same

-- where the first lines aren't worn, at most the others are
worn-rest : (worn : ℕ → Bool) (base from slots rest : ℕ) → ((slot : ℕ) → from ≤ slot → slot < from + slots → worn (base + slot) ≡ false) → worn_among worn (base + from) (slots + rest) ≤ rest
worn-rest worn base from zero rest none =
    let same : worn_among worn (base + from) (zero + rest) ≡ worn_among worn (base + from) rest = ap (worn_among worn (base + from)) (omega arith) in
    omega (arith, same, worn-few worn (base + from) rest)
worn-rest worn base from (suc slots) rest none =
    let same : worn_among worn (base + from) (suc slots + rest) ≡ worn_among worn (base + from) (suc (slots + rest)) = worn-count (suc slots + rest) (suc (slots + rest)) (omega arith) in
    let here : one_if (worn (base + from)) ≡ 0 = ap one_if (none from (omega arith) (omega arith)) in
    let next : worn_among worn (base + from + 1) (slots + rest) ≡ worn_among worn (base + (from + 1)) (slots + rest) = worn-at worn (base + from + 1) (base + (from + 1)) (slots + rest) (omega arith) in
    let ih : worn_among worn (base + (from + 1)) (slots + rest) ≤ rest = worn-rest worn base (from + 1) slots rest (λ slot le lt. none slot (omega (arith, le)) (omega (arith, lt))) in
    omega (arith, same, here, next, ih)
  where
    worn-count : (a b : ℕ) → a ≡ b → worn_among worn (base + from) a ≡ worn_among worn (base + from) b
    worn-count a b same = ap (worn_among worn (base + from)) same

not-worn_out : (shape : BankShape) (worn : ℕ → Bool) → ((slot : ℕ) → slot < slots_of shape → worn (shape.base + slot) ≡ false) → is_worn_out shape worn ≡ false
not-worn_out shape worn none =
    let zero_first : worn_among worn shape.base (slots_of shape + shape.spares) ≡ worn_among worn (shape.base + 0) (slots_of shape + shape.spares) = worn-at worn shape.base (shape.base + 0) (slots_of shape + shape.spares) (omega arith) in
    let few : worn_among worn (shape.base + 0) (slots_of shape + shape.spares) ≤ shape.spares =
    worn-rest worn shape.base 0 (slots_of shape) shape.spares (λ slot le lt. none slot (omega (arith, lt))) in
    false_from_ne_true (is_worn_out shape worn)
    (λ is. let le : shape.spares + 1 ≤ worn_among worn shape.base (slots_of shape + shape.spares) = leb-true _ _ is in absurd (omega (arith, le, few, zero_first)))

-- nor is one of control lines that aren't
none-worn : (worn : ℕ → Bool) (from count : ℕ) → ((k : ℕ) → k < count → worn (from + k) ≡ false) → worn_among worn from count ≡ 0
none-worn worn from zero none = refl
none-worn worn from (suc count) none =
    let here : one_if (worn (from + 0)) ≡ 0 = ap one_if (none 0 (omega arith)) in
    let first : one_if (worn (from + 0)) ≡ one_if (worn from) = ap (λ k. one_if (worn k)) (omega arith) in
    let rest : worn_among worn (from + 1) count ≡ 0 = none-worn worn (from + 1) count (λ k lt. ap worn (omega arith) ∙ none (k + 1) (omega (arith, lt))) in
    omega (arith, here, first, rest)

leaves-none : (shape : BankShape) (worn : ℕ → Bool) → is_worn_out shape worn ≡ false → KeepsControls shape worn → may_leave shape worn ≡ false
leaves-none shape worn none controls =
    let few : nat_lt 0 (worn_among worn (shape.base + slots_of shape + shape.spares) (controls_of shape)) ≡ false =
    ap (nat_lt 0) (none-worn worn (shape.base + slots_of shape + shape.spares) (controls_of shape) controls) in
    ap (λ b. b || nat_lt 0 (worn_among worn (shape.base + slots_of shape + shape.spares) (controls_of shape))) none ∙ few

pub sound_rows_law : SoundRowsLaw
sound_rows_law n m e shape array rules rows k none = record {
  taken = refused rows [] k.worn;
  finished = λ controls. queued (leaves-none shape worn out controls) rows [] k.worn;
  leaves = λ controls. leaves-none shape worn out controls;
}
  where
    worn : ℕ → Bool
    worn = is_worn_at e array

    out : is_worn_out shape worn ≡ false
    out = not-worn_out shape worn none

    by_wear : (w o : Bool) → o ≡ false → (not w || o) ≡ true → not w ≡ true
    by_wear true true off h = absurd (cc (off))
    by_wear true false off h = h
    by_wear false o off h = refl

    refused : (rows after : List (Row n)) → each_row (is_wear_true shape worn) rows after ≡ true → each_row is_unrefused rows after ≡ true
    refused [] after h = refl
    refused (r ∷ rows) after h =
        let parts = and_parts (is_wear_true shape worn rows r after) (each_row (is_wear_true shape worn) rows (r ∷ after)) h in
        let own = and_parts (not (worn_row r) || is_worn_out shape worn) (not (asks_write r.asks && is_queued r.outcome) || may_leave shape worn) parts.0 in
        and_from (is_unrefused rows r after) (each_row is_unrefused rows (r ∷ after)) (by_wear (worn_row r) (is_worn_out shape worn) out own.0) (refused rows (r ∷ after) parts.1)

    queued : may_leave shape worn ≡ false → (rows after : List (Row n)) → each_row (is_wear_true shape worn) rows after ≡ true → each_row is_unqueued rows after ≡ true
    queued leave [] after h = refl
    queued leave (r ∷ rows) after h =
        let parts = and_parts (is_wear_true shape worn rows r after) (each_row (is_wear_true shape worn) rows (r ∷ after)) h in
        let own = and_parts (not (worn_row r) || is_worn_out shape worn) (not (asks_write r.asks && is_queued r.outcome) || may_leave shape worn) parts.0 in
        and_from (is_unqueued rows r after) (each_row is_unqueued rows (r ∷ after)) (by_wear (asks_write r.asks && is_queued r.outcome) (may_leave shape worn) leave own.1) (queued leave rows (r ∷ after) parts.1)

none-used : (shape : BankShape) (table : ℕ → ℕ) (slots : ℕ) → slots ≤ slots_of shape → ((slot : ℕ) → slot < slots_of shape → table slot ≡ shape.base + slot) → used_among shape table slots ≡ 0
none-used shape table zero le own = refl
none-used shape table (suc slots) le own =
    let here : table slots + 1 - (shape.base + slots_of shape) ≡ 0 = omega (arith, own slots (omega (arith, le)), le) in
    let rest : used_among shape table slots ≡ 0 = none-used shape table slots (omega (arith, le)) own in
    omega (arith, here, rest)

pub none_retired_law : NoneRetiredLaw
none_retired_law n shape worn held rows end ends none = (own, none-used shape end.table (slots_of shape) (omega arith) own)
  where
    own : (slot : ℕ) → slot < slots_of shape → end.table slot ≡ shape.base + slot
    own slot lt = by (ends.lines.lines slot lt)
      where
        by : (end.table slot ≡ shape.base + slot) ⊎ ((shape.base + slots_of shape ≤ end.table slot) × (end.table slot < shape.base + slots_of shape + shape.spares) × IsTrue (worn (shape.base + slot))) → end.table slot ≡ shape.base + slot
        by (inl is) = is
        by (inr away) = absurd (cc (away.2, none slot lt))
