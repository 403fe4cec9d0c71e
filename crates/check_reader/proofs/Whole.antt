-- The rows of results, one after the other.
use Rattle.std.proofs.Common.{◌≡◌, ◌≢◌, ℕ, zero, suc, ◌+◌, ◌-◌, ◌<◌, ◌≤◌, inl, inr, List, [], ◌∷◌, ◌++◌, length, take, drop, get_or, true, false, Some, refl, sym, ◌∙◌, arith, append_assoc, append-nil, replicate}
use Rattle.std.{specs.Prelude.slice_get, specs.Str.bytes_eq, proofs.Math.Seq.{drop-cons, take-append_seam}}
use Rattle.std.proofs.{lemmas.List.{take_all, take-append-drop, take_more_set, drop_all}, lemmas.Slice.Eq.bytes_eq-Decides}
use Rattle.result_rows.specs.{RowText.rows_text, Table.{outcome_at, with_outcome}, declared.Op.Op, declared.Outcome.Outcome}
use Rattle.result_rows.proofs.TableLemmas.{length-with_outcome, outcome_at-other}
use Rattle.result_rows.specs.declared.Outcome.TheVariants as out
use Rattle.check_reader.specs.ResultRows.{EachMayStand, rows_of, IsRow, IsNoRow, FailsAt}

-- the prefix stands there, or nothing that begins with it does
pub begins_with : (prefix bytes rest : List ℕ) → bytes_eq (take (length prefix) bytes) prefix ≡ true → rest ≡ drop (length prefix) bytes → bytes ≡ prefix ++ rest
begins_with prefix bytes rest same is =
    let front = (bytes_eq-Decides (take (length prefix) bytes) prefix).0 same in
    sym (take-append-drop (length prefix) bytes) ∙ rw (front, is) refl

pub begins_not : (prefix bytes : List ℕ) → bytes_eq (take (length prefix) bytes) prefix ≡ false → (rest : List ℕ) → bytes ≢ prefix ++ rest
begins_not prefix bytes other rest is =
    let front : take (length prefix) bytes ≡ prefix = rw is (take-append_seam prefix rest) in
    let same = (bytes_eq-Decides (take (length prefix) bytes) prefix).1 front in
    cc

-- the first i rows of these operations and lines were read: what the rest is says what the whole is
pub record HasRead (n : ℕ) (asks : List (Op × ℕ)) (whole rest : List ℕ) (outcomes : List (Outcome n)) (i : ℕ) : Type 0 where
  pub size : length outcomes ≡ length asks
  pub unset : (row : ℕ) → i < row → row ≤ length asks → outcome_at outcomes row ≡ Some out.Unset
  pub rows : (later : List (Outcome n)) → EachMayStand (drop i asks) later → rest ≡ rows_text (i + 1) (rows_of (drop i asks) later)
      → EachMayStand asks (take i outcomes ++ later) × (whole ≡ rows_text 1 (rows_of asks (take i outcomes ++ later)))
  pub fails : (row : ℕ) → FailsAt n (i + 1) (drop i asks) rest row → FailsAt n 1 asks whole row

-- no row yet
replicate-at : {A : Type 0} (k i : ℕ) (a : A) → i < k → slice_get (replicate k a) i ≡ Some a
replicate-at zero i a h = absurd (omega arith)
replicate-at (suc k) zero a h = refl
replicate-at (suc k) (suc i) a h = replicate-at k i a (omega arith)

-- the next row's operation and line
next_ask : {A : Type 0} (asks : List A) (i : ℕ) (ask d : A) → i < length asks → get_or asks i d ≡ ask → drop i asks ≡ ask ∷ drop (i + 1) asks
next_ask asks i ask d within at =
    let one : i + 1 ≡ suc i = omega arith in
    rw (one, drop-cons asks i d within, at) refl

-- one row more
pub has_read_more : (n : ℕ) (asks : List (Op × ℕ)) (whole rest behind : List ℕ) (outcomes : List (Outcome n)) (i : ℕ) (ask d : Op × ℕ) (outcome : Outcome n)
    → i < length asks → get_or asks i d ≡ ask → HasRead n asks whole rest outcomes i → IsRow (i + 1) ask rest outcome behind
    → HasRead n asks whole behind (with_outcome outcomes (i + 1) outcome) (i + 1)
unfolding EachMayStand rows_of FailsAt
has_read_more n asks whole rest behind outcomes i ask d outcome within at h is =
    let here : drop i asks ≡ ask ∷ drop (i + 1) asks = next_ask asks i ask d within at in
    let index : i + 1 - 1 ≡ i = omega arith in
    let next : take (i + 1) (with_outcome outcomes (i + 1) outcome) ≡ take i outcomes ++ (outcome ∷ []) = rw index (take_more_set outcomes i outcome (omega (arith, h.size))) in
    record {
      size = length-with_outcome outcomes (i + 1) outcome ∙ h.size;
      unset = λ row above below. outcome_at-other outcomes (i + 1) row outcome (record { above = omega arith; within = omega (arith, h.size) })
          (record { above = omega arith; within = omega (arith, h.size) }) (omega arith) ∙ h.unset row (omega arith) below;
      rows = λ later may same.
          let more = h.rows (outcome ∷ later) (rw here (is.may, may)) (rw (here, is.text, same) refl) in
          let joined : take (i + 1) (with_outcome outcomes (i + 1) outcome) ++ later ≡ take i outcomes ++ (outcome ∷ later) = rw next (append_assoc (take i outcomes) (outcome ∷ []) later) in
          rw joined more;
      fails = λ row k. h.fails row (rw here (inr (outcome, behind, is, k)));
    }

-- a row that isn't there
pub fails_here : (n : ℕ) (asks : List (Op × ℕ)) (whole rest : List ℕ) (outcomes : List (Outcome n)) (i : ℕ) (ask d : Op × ℕ)
    → i < length asks → get_or asks i d ≡ ask → HasRead n asks whole rest outcomes i → IsNoRow n (i + 1) ask rest → FailsAt n 1 asks whole (i + 1)
unfolding FailsAt
fails_here n asks whole rest outcomes i ask d within at h none =
    let here : drop i asks ≡ ask ∷ drop (i + 1) asks = next_ask asks i ask d within at in
    h.fails (i + 1) (rw here (inl (none, refl)))

-- all rows
pub all_read : (n : ℕ) (asks : List (Op × ℕ)) (whole rest : List ℕ) (outcomes : List (Outcome n)) (i : ℕ) → length asks ≤ i → HasRead n asks whole rest outcomes i
    → rest ≡ [] → EachMayStand asks outcomes × (whole ≡ rows_text 1 (rows_of asks outcomes))
unfolding EachMayStand rows_of
all_read n asks whole rest outcomes i all h none =
    let end : drop i asks ≡ [] = drop_all i asks all in
    let every : take i outcomes ++ [] ≡ outcomes = append-nil (take i outcomes) ∙ take_all i outcomes (omega (arith, h.size)) in
    let done = h.rows [] (rw end tt) (rw end none) in
    rw every at done

pub fails_behind : (n : ℕ) (asks : List (Op × ℕ)) (whole rest : List ℕ) (outcomes : List (Outcome n)) (i : ℕ) → length asks ≤ i → HasRead n asks whole rest outcomes i
    → rest ≢ [] → FailsAt n 1 asks whole (i + 1)
unfolding FailsAt
fails_behind n asks whole rest outcomes i all h some =
    let end : drop i asks ≡ [] = drop_all i asks all in
    h.fails (i + 1) (rw end (some, refl))

-- a text without bytes
pub no_bytes : {A : Type 0} (xs : List A) → length xs ≡ 0 → xs ≡ []
no_bytes [] h = refl
no_bytes (x ∷ xs) h = absurd (omega arith)
