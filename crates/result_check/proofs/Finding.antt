-- A first look at a table.
use Rattle.std.proofs.Common.{◌≡◌, ℕ, zero, suc, ◌+◌, ◌-◌, ◌≤◌, Bool, true, false, List, [], ◌∷◌, ◌++◌, length, drop, Some, refl, sym, ap, ◌∙◌, cond, subst, append_assoc, append-nil, arith}
use Rattle.std.specs.Prelude.{slice_get}
use Rattle.result_rows.specs.{Table.outcome_at, declared.Outcome.Outcome}
use Rattle.result_rows.specs.declared.Outcome.TheVariants as out
use Rattle.trace_reader.specs.declared.event.Event.{Event}
use Rattle.row_rules.specs.{Rows.{asks_read, asks_write, is_cut, line_of}, declared.Row.Row}
use Rattle.check_judging.specs.{Cutting.cut_ticks, Keys.{key, store_key, store_keys, read_key, read_keys}}
use Rattle.check_verdict.specs.Verdicts.{bank_in}
use Rattle.trace_rows.specs.Rows.{rows_with, row_of}
use Rattle.result_check.specs.declared.found.Found.{Found}

-- the rows of the events from an index on begin with that of the one there
pub rows_next : {n : ℕ} (events : List (Event n)) (outcomes : List (Outcome n)) (i : ℕ) (event : Event n) (outcome : Outcome n)
    → slice_get events i ≡ Some event → slice_get outcomes i ≡ Some outcome
    → drop i (rows_with events outcomes) ≡ row_of event outcome ∷ drop (suc i) (rows_with events outcomes)
rows_next [] outcomes i event outcome at of = absurd (cc)
rows_next (e ∷ events) [] i event outcome at of = absurd (cc)
rows_next (e ∷ events) (o ∷ outcomes) zero event outcome at of =
    let same : e ≡ event = cc in let like : o ≡ outcome = cc in
    ap (λ x. row_of x o ∷ rows_with events outcomes) same ∙ ap (λ x. row_of event x ∷ rows_with events outcomes) like
rows_next (e ∷ events) (o ∷ outcomes) (suc i) event outcome at of = rows_next events outcomes i event outcome at of

-- the outcome of a row, by its number
pub outcome_there : {n : ℕ} (outcomes : List (Outcome n)) (i : ℕ) (outcome : Outcome n) → outcome_at outcomes (i + 1) ≡ Some outcome → slice_get outcomes i ≡ Some outcome
outcome_there outcomes i outcome is = let same : i + 1 - 1 ≡ i = omega arith in subst (λ k. slice_get outcomes k ≡ Some outcome) same is

pub rows_length : {n : ℕ} (events : List (Event n)) (outcomes : List (Outcome n)) → length outcomes ≡ length events → length (rows_with events outcomes) ≡ length events
rows_length [] outcomes is = refl
rows_length (e ∷ events) [] is = absurd (omega (arith, is))
rows_length (e ∷ events) (o ∷ outcomes) is = let h = rows_length events outcomes (omega (arith, is)) in omega (arith, h)

-- the keys of a row, and those of the rows behind it
module _ {n : ℕ} (bank_of : ℕ → ℕ) (q : Row n) (rows : List (Row n)) where
  store_front : (o : Outcome n) → store_key bank_of q o (store_keys bank_of rows) ≡ store_key bank_of q o [] ++ store_keys bank_of rows
  store_front (out.Stored u place) = by (asks_write q.asks)
    where
      by : (b : Bool) → cond b (key (bank_of (line_of q.asks)) u ∷ store_keys bank_of rows) (store_keys bank_of rows) ≡ cond b (key (bank_of (line_of q.asks)) u ∷ []) [] ++ store_keys bank_of rows
      by true = refl
      by false = refl
  store_front _ = refl

  read_front : (o : Outcome n) → read_key bank_of q o (read_keys bank_of rows) ≡ read_key bank_of q o [] ++ read_keys bank_of rows
  read_front (out.Read u place bytes) = by (asks_read q.asks)
    where
      by : (b : Bool) → cond b (key (bank_of (line_of q.asks)) u ∷ read_keys bank_of rows) (read_keys bank_of rows) ≡ cond b (key (bank_of (line_of q.asks)) u ∷ []) [] ++ read_keys bank_of rows
      by true = refl
      by false = refl
  read_front _ = refl

cut_front : {n : ℕ} (q : Row n) (rows : List (Row n)) → cut_ticks (q ∷ rows) ≡ cut_ticks (q ∷ []) ++ cut_ticks rows
cut_front q rows = by (is_cut q)
  where
    by : (b : Bool) → cond b (q.tick ∷ cut_ticks rows) (cut_ticks rows) ≡ cond b (q.tick ∷ []) [] ++ cut_ticks rows
    by true = refl
    by false = refl

-- what was found in some rows: with what is in those behind, it is what is in all
pub record IsFoundTo {n : ℕ} (banks : List ℕ) (rows : List (Row n)) (i : ℕ) (found : Found) : Type 0 where
  pub stores : found.keys.stores.items ++ store_keys (bank_in banks) (drop i rows) ≡ store_keys (bank_in banks) rows
  pub reads : found.keys.reads.items ++ read_keys (bank_in banks) (drop i rows) ≡ read_keys (bank_in banks) rows
  pub lines : found.keys.lines.items ++ store_keys (λ line. line) (drop i rows) ≡ store_keys (λ line. line) rows
  pub cuts : found.cuts.items ++ cut_ticks (drop i rows) ≡ cut_ticks rows

-- one row more
more : {n : ℕ} (f : List (Row n) → List ℕ) → ((q : Row n) (rows : List (Row n)) → f (q ∷ rows) ≡ f (q ∷ []) ++ f rows)
    → (r : Row n) (rows : List (Row n)) (i : ℕ) → drop i rows ≡ r ∷ drop (suc i) rows
    → (items new : List ℕ) → items ++ f (drop i rows) ≡ f rows → new ≡ items ++ f (r ∷ []) → new ++ f (drop (suc i) rows) ≡ f rows
more f front r rows i here items new had is =
    ap (λ xs. xs ++ f (drop (suc i) rows)) is ∙ append_assoc items (f (r ∷ [])) (f (drop (suc i) rows))
    ∙ ap (λ xs. items ++ xs) (sym (front r (drop (suc i) rows)) ∙ ap f (sym here)) ∙ had

pub found_more : {n : ℕ} (banks : List ℕ) (rows : List (Row n)) (i : ℕ) (r : Row n) (old new : Found) → drop i rows ≡ r ∷ drop (suc i) rows
    → IsFoundTo banks rows i old
    → new.keys.stores.items ≡ old.keys.stores.items ++ store_keys (bank_in banks) (r ∷ []) → new.keys.reads.items ≡ old.keys.reads.items ++ read_keys (bank_in banks) (r ∷ [])
    → new.keys.lines.items ≡ old.keys.lines.items ++ store_keys (λ line. line) (r ∷ []) → new.cuts.items ≡ old.cuts.items ++ cut_ticks (r ∷ [])
    → IsFoundTo banks rows (suc i) new
found_more banks rows i r old new here had s d l c = record {
  stores = more (store_keys (bank_in banks)) (λ q rest. store_front (bank_in banks) q rest q.outcome) r rows i here old.keys.stores.items new.keys.stores.items had.stores s;
  reads = more (read_keys (bank_in banks)) (λ q rest. read_front (bank_in banks) q rest q.outcome) r rows i here old.keys.reads.items new.keys.reads.items had.reads d;
  lines = more (store_keys (λ line. line)) (λ q rest. store_front (λ line. line) q rest q.outcome) r rows i here old.keys.lines.items new.keys.lines.items had.lines l;
  cuts = more cut_ticks cut_front r rows i here old.cuts.items new.cuts.items had.cuts c;
}

pub none_left : {A : Type 0} (i : ℕ) (xs : List A) → length xs ≤ i → drop i xs ≡ []
none_left zero [] le = refl
none_left (suc i) [] le = refl
none_left zero (x ∷ xs) le = absurd (omega (arith, le))
none_left (suc i) (x ∷ xs) le = none_left i xs (omega (arith, le))

all : {n : ℕ} (f : List (Row n) → List ℕ) → f [] ≡ [] → (rows : List (Row n)) (i : ℕ) → length rows ≤ i → (items : List ℕ) → items ++ f (drop i rows) ≡ f rows → f rows ≡ items
all f empty rows i le items had = sym had ∙ ap (λ xs. items ++ xs) (ap f (none_left i rows le) ∙ empty) ∙ append-nil items

pub found_all : {n : ℕ} (banks : List ℕ) (rows : List (Row n)) (i : ℕ) (found : Found) → length rows ≤ i → IsFoundTo banks rows i found
    → (store_keys (bank_in banks) rows ≡ found.keys.stores.items) × (read_keys (bank_in banks) rows ≡ found.keys.reads.items) × (store_keys (λ line. line) rows ≡ found.keys.lines.items) × (cut_ticks rows ≡ found.cuts.items)
found_all banks rows i found le had = (
  all (store_keys (bank_in banks)) refl rows i le found.keys.stores.items had.stores,
  all (read_keys (bank_in banks)) refl rows i le found.keys.reads.items had.reads,
  all (store_keys (λ line. line)) refl rows i le found.keys.lines.items had.lines,
  all cut_ticks refl rows i le found.cuts.items had.cuts,
)
