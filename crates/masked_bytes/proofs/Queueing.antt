-- What the entries of a queue stand for, before and after each change of the queue.
use Rattle.std.proofs.Common.{◌≡◌, ℕ, ◌<◌, List, [], ◌∷◌, ◌++◌, Bool, true, false, ◌||◌, ◌&&◌, ◌==◌, not, if◌then◌else◌, zero, suc, length, replicate, refl, sym, ap, ◌∙◌, arith, slice_get, slice_set, Option, Some, None, eq-eqb, eqb-true}
use Rattle.std.proofs.lemmas.List.{length-replicate}
use Rattle.masked_bytes.specs.Entries.{Layer, no_layer, stacked, or_this, one_further, layer_by, layer_of, newest_row, newest_index, candidate, candidate_index, laid_on, merged}
use Rattle.masked_bytes.specs.{Entries.{merged_at, row_at, has_row, RowsApart, AllMasked}, Masked.IsMasked, declared.entry.Entry.Entry}
use Rattle.masked_bytes.proofs.Layering.{length-laid, length-joined, laid-none_given, joined-none_given, laid-laid, joined-joined, laid-zeros, joined-none_right}

-- n bytes, and as many marks
pub record IsLayer (n : ℕ) (layer : Layer) : Type 0 where
  pub bytes_len : length layer.bytes ≡ n
  pub given_len : length layer.given ≡ n

pub IsLayer-no_layer : (n : ℕ) → IsLayer n (no_layer n)
IsLayer-no_layer n = record { bytes_len = length-replicate n 0; given_len = length-replicate n false }

pub IsLayer-stacked : (n : ℕ) (top below : Layer) → IsLayer n top → IsLayer n below → IsLayer n (stacked top below)
IsLayer-stacked n top below t b = record {
  bytes_len = length-laid top.bytes top.given below.bytes ∙ b.bytes_len;
  given_len = length-joined top.given below.given (omega arith) ∙ b.given_len;
}

same_layer : (a b : Layer) → a.bytes ≡ b.bytes → a.given ≡ b.given → a ≡ b
same_layer a b e f =
    let layer : List ℕ → List Bool → Layer = λ bytes given. record { bytes = bytes; given = given } in
    ap (λ bytes. layer bytes a.given) e ∙ ap (λ given. layer b.bytes given) f

pub stacked-stacked : (n : ℕ) (a b c : Layer) → IsLayer n a → IsLayer n b → IsLayer n c → stacked (stacked a b) c ≡ stacked a (stacked b c)
stacked-stacked n a b c x y z =
    same_layer _ _ (laid-laid a.bytes a.given b.bytes b.given c.bytes (omega arith) (omega arith) (omega arith) (omega arith))
    (joined-joined a.given b.given c.given (omega arith) (omega arith))

pub stacked-no_layer : (n : ℕ) (a : Layer) → IsLayer n a → stacked (no_layer n) a ≡ a
stacked-no_layer n a x = same_layer _ _ (laid-none_given n (replicate n 0) a.bytes) (joined-none_given n a.given x.given_len)

-- a masked write over no layer
pub stacked-on_none : (n : ℕ) (bytes : List ℕ) (given : List Bool) → IsMasked n bytes given
    → let top : Layer = record { bytes = bytes; given = given } in stacked top (no_layer n) ≡ top
stacked-on_none n bytes given m = same_layer _ _ (laid-zeros n bytes given m.bytes_len m.given_len m.others) (joined-none_right n given m.given_len)

pub some_same : (a b : ℕ) → Some a ≡ Some b → a ≡ b
some_same a b h = cc

module _ {n : ℕ} where
  pub IsLayer-layer_by : (e : Entry n) → IsMasked n e.bytes e.given → IsLayer n (layer_by e)
  IsLayer-layer_by e m = record { bytes_len = m.bytes_len; given_len = m.given_len }

  IsLayer-if : (b : Bool) (top below : Layer) → IsLayer n top → IsLayer n below → IsLayer n (if b then stacked top below else top)
  IsLayer-if true top below t u = IsLayer-stacked n top below t u
  IsLayer-if false top below t u = t

  pub IsLayer-layer_of : (es : List (Entry n)) (line : ℕ) → AllMasked es → IsLayer n (layer_of es line)
  IsLayer-layer_of [] line m = IsLayer-no_layer n
  IsLayer-layer_of (e ∷ es) line m =
      IsLayer-if (e.line == line) (layer_of es line) (layer_by e) (IsLayer-layer_of es line m.1) (IsLayer-layer_by e m.0)

  -- a layer under all of a queue, or none
  pub append_under : (b : Bool) (top rest below : Layer) → IsLayer n top → IsLayer n rest → IsLayer n below
      → (if b then stacked (stacked top rest) below else stacked top rest) ≡ stacked top (if b then stacked rest below else rest)
  append_under true top rest below t r u = stacked-stacked n top rest below t r u
  append_under false top rest below t r u = refl

  -- one more entry of the line
  pub layer_of-append : (es : List (Entry n)) (e : Entry n) (line : ℕ) → AllMasked es → IsMasked n e.bytes e.given → e.line ≡ line
      → layer_of (es ++ e ∷ []) line ≡ stacked (layer_by e) (layer_of es line)
  layer_of-append [] e line m k h =
      rw (eq-eqb e.line line h, stacked-on_none n e.bytes e.given k) (stacked-no_layer n (layer_by e) (IsLayer-layer_by e k))
  layer_of-append (f ∷ es) e line m k h =
      rw (layer_of-append es e line m.1 k h)
      (append_under (f.line == line) (layer_by e) (layer_of es line) (layer_by f) (IsLayer-layer_by e k) (IsLayer-layer_of es line m.1) (IsLayer-layer_by f m.0))

  -- one more entry of another line
  pub layer_of-append_other : (es : List (Entry n)) (e : Entry n) (line : ℕ) → (e.line == line) ≡ false → layer_of (es ++ e ∷ []) line ≡ layer_of es line
  layer_of-append_other [] e line h = rw h
  layer_of-append_other (f ∷ es) e line h = rw (layer_of-append_other es e line h)

  -- a line with no entry has no layer
  pub layer_of-none : (es : List (Entry n)) (line : ℕ) → newest_index es line ≡ None → layer_of es line ≡ no_layer n
  layer_of-none [] line h = refl
  layer_of-none (e ∷ es) line h = by (newest_index es line) (e.line == line) (layer_of-none es line) h
    where
      by : (p : Option ℕ) (b : Bool) → (p ≡ None → layer_of es line ≡ no_layer n)
          → or_this (one_further p) (if b then Some 0 else None) ≡ None → (if b then stacked (layer_of es line) (layer_by e) else layer_of es line) ≡ no_layer n
      by p b ih h = grind arith

  -- Indices

  -- the newest entry of a line is there, and is of that line
  pub newest_index-within : (es : List (Entry n)) (line i : ℕ) → newest_index es line ≡ Some i → i < length es
  newest_index-within [] line i h = cc
  newest_index-within (e ∷ es) line i h = by (newest_index es line) (e.line == line) i (newest_index-within es line) h
    where
      by : (p : Option ℕ) (b : Bool) (i : ℕ) → ((j : ℕ) → p ≡ Some j → j < length es)
          → or_this (one_further p) (if b then Some 0 else None) ≡ Some i → i < suc (length es)
      by p b i ih h = grind arith

  -- the candidate is the newest entry of its line
  pub candidate_index-newest : (busy : Bool) (es : List (Entry n)) (line i : ℕ) → candidate_index busy es line ≡ Some i → newest_index es line ≡ Some i
  candidate_index-newest busy [] line i h = cc
  candidate_index-newest busy (e ∷ es) line i h = by busy (newest_index es line) (e.line == line) h
    where
      by : (busy : Bool) (p : Option ℕ) (b : Bool)
          → or_this (one_further p) (if not busy && b then Some 0 else None) ≡ Some i → or_this (one_further p) (if b then Some 0 else None) ≡ Some i
      by busy p b h = grind arith

  -- a busy head is no candidate
  pub candidate_index-busy : (es : List (Entry n)) (line i : ℕ) → candidate_index true es line ≡ Some i → 0 < i
  candidate_index-busy [] line i h = cc
  candidate_index-busy (e ∷ es) line i h = by (newest_index es line) h
    where
      by : (p : Option ℕ) → or_this (one_further p) None ≡ Some i → 0 < i
      by (Some j) h = let step : suc j ≡ i = some_same (suc j) i h in omega arith
      by None h = cc

  newest_row-step : (e : Entry n) (es : List (Entry n)) (p q : Option ℕ) (b : Bool) (i : ℕ) → ((j : ℕ) → p ≡ Some j → q ≡ Some (row_at es j)) → (p ≡ None → q ≡ None)
      → or_this (one_further p) (if b then Some 0 else None) ≡ Some i → or_this q (if b then Some e.row else None) ≡ Some (row_at (e ∷ es) i)
  newest_row-step e es p q b i some none h = grind arith

  pub newest_row-none : (es : List (Entry n)) (line : ℕ) → newest_index es line ≡ None → newest_row es line ≡ None
  newest_row-none [] line h = refl
  newest_row-none (e ∷ es) line h = by (newest_index es line) (newest_row es line) (e.line == line) (newest_row-none es line) h
    where
      by : (p q : Option ℕ) (b : Bool) → (p ≡ None → q ≡ None)
          → or_this (one_further p) (if b then Some 0 else None) ≡ None → or_this q (if b then Some e.row else None) ≡ None
      by p q b none h = grind arith

  pub newest_row-index : (es : List (Entry n)) (line i : ℕ) → newest_index es line ≡ Some i → newest_row es line ≡ Some (row_at es i)
  newest_row-index [] line i h = cc
  newest_row-index (e ∷ es) line i h =
      newest_row-step e es (newest_index es line) (newest_row es line) (e.line == line) i (newest_row-index es line) (newest_row-none es line) h

  pub candidate-index : (busy : Bool) (es : List (Entry n)) (line i : ℕ) → candidate_index busy es line ≡ Some i → candidate busy es line ≡ Some (row_at es i)
  candidate-index busy [] line i h = cc
  candidate-index busy (e ∷ es) line i h =
      newest_row-step e es (newest_index es line) (newest_row es line) (not busy && e.line == line) i (newest_row-index es line) (newest_row-none es line) h

  -- the entry that a write is merged into is the newest of its line
  pub candidate-newest : (busy : Bool) (es : List (Entry n)) (line old : ℕ) → candidate busy es line ≡ Some old → newest_row es line ≡ Some old
  candidate-newest busy [] line old is = cc
  candidate-newest busy (e ∷ es) line old is = by (newest_row es line) busy (e.line == line) is
    where
      by : (rest : Option ℕ) (busy at : Bool) → or_this rest (if not busy && at then Some e.row else None) ≡ Some old
          → or_this rest (if at then Some e.row else None) ≡ Some old
      by rest busy at is = grind arith

  pub candidate-none : (busy : Bool) (es : List (Entry n)) (line : ℕ) → candidate_index busy es line ≡ None → candidate busy es line ≡ None
  candidate-none busy [] line h = refl
  candidate-none busy (e ∷ es) line h = by (newest_index es line) (newest_row es line) (not busy && e.line == line) (newest_row-none es line) h
    where
      by : (p q : Option ℕ) (b : Bool) → (p ≡ None → q ≡ None)
          → or_this (one_further p) (if b then Some 0 else None) ≡ None → or_this q (if b then Some e.row else None) ≡ None
      by p q b none h = grind arith

  pub row_at-slice_get : (es : List (Entry n)) (i : ℕ) (e : Entry n) → slice_get es i ≡ Some e → row_at es i ≡ e.row
  row_at-slice_get [] i e h = cc
  row_at-slice_get (f ∷ es) zero e h = let same : f ≡ e = cc in ap (λ x. x.row) same
  row_at-slice_get (f ∷ es) (suc i) e h = row_at-slice_get es i e h

  -- Merging

  pub length-merged_at : (es : List (Entry n)) (i row : ℕ) (bytes : List ℕ) (given : List Bool) → length (merged_at i row bytes given es) ≡ length es
  length-merged_at (e ∷ es) (suc i) row bytes given = ap suc (length-merged_at es i row bytes given)
  length-merged_at _ _ row bytes given = refl

  -- an entry is written at its index
  pub merged_at-slice_set : (es : List (Entry n)) (i row : ℕ) (bytes : List ℕ) (given : List Bool) (e : Entry n) → slice_get es i ≡ Some e
      → slice_set es i (laid_on row bytes given e) ≡ merged_at i row bytes given es
  merged_at-slice_set [] i row bytes given e h = cc
  merged_at-slice_set (f ∷ es) zero row bytes given e h = let same : f ≡ e = cc in ap (λ x. laid_on row bytes given x ∷ es) (sym same)
  merged_at-slice_set (f ∷ es) (suc i) row bytes given e h = ap (λ xs. f ∷ xs) (merged_at-slice_set es i row bytes given e h)

  has_row-row_at : (es : List (Entry n)) (i : ℕ) → i < length es → has_row es (row_at es i) ≡ true
  has_row-row_at [] i h = grind arith
  has_row-row_at (e ∷ es) zero h = rw (eq-eqb e.row e.row refl)
  has_row-row_at (e ∷ es) (suc i) h = by (e.row == row_at es i) (has_row-row_at es i (omega arith))
    where
      by : (b : Bool) → has_row es (row_at es i) ≡ true → (b || has_row es (row_at es i)) ≡ true
      by b h = grind arith

  not_row : (es : List (Entry n)) (row i : ℕ) → has_row es row ≡ false → i < length es → (row == row_at es i) ≡ false
  not_row es row i none within = by (row == row_at es i) (eqb-true row (row_at es i))
    where
      by : (b : Bool) → (b ≡ true → row ≡ row_at es i) → b ≡ false
      by false f = refl
      by true f = let same : row ≡ row_at es i = f refl in let there : has_row es row ≡ true = rw same (has_row-row_at es i within) in cc

  -- where no two entries have one row, the row says the index
  pub merged-row_at : (es : List (Entry n)) (i row : ℕ) (bytes : List ℕ) (given : List Bool) → RowsApart es → i < length es
      → merged (row_at es i) row bytes given es ≡ merged_at i row bytes given es
  merged-row_at [] i row bytes given apart h = refl
  merged-row_at (e ∷ es) zero row bytes given apart h = rw (eq-eqb e.row e.row refl)
  merged-row_at (e ∷ es) (suc i) row bytes given apart h =
      rw (not_row es e.row i apart.0 (omega arith)) (ap (λ xs. e ∷ xs) (merged-row_at es i row bytes given apart.1 (omega arith)))
