-- What each change of a queue leaves of what its entries stand for.
use Rattle.std.proofs.Common.{◌≡◌, ℕ, ◌<◌, List, [], ◌∷◌, ◌++◌, Bool, true, false, ◌==◌, if◌then◌else◌, zero, suc, length, refl, sym, subst, ap, ◌∙◌, arith, Option, Some, None, eq-eqb}
use Rattle.std.proofs.lemmas.List.{length-replicate}
use Rattle.masked_bytes.specs.Entries.{Layer, no_layer, stacked, or_this, one_further, layer_by, layer_of, newest_index, laid_on, merged_at, completed, head_line, AllMasked}
use Rattle.masked_bytes.specs.{Masked.{laid, all_given, IsMasked}, declared.entry.Entry.Entry}
use Rattle.masked_bytes.proofs.Layering.{length-laid, laid-all_given, laid-laid, IsMasked-laid, IsMasked-all_given}
use Rattle.masked_bytes.proofs.Queueing.{IsLayer, IsLayer-layer_of, stacked-no_layer, append_under, layer_of-none, some_same, IsLayer-layer_by}

module _ {n : ℕ} where
  merged_head : (e : Entry n) (es : List (Entry n)) (line i row : ℕ) (bytes : List ℕ) (given : List Bool) (b : Bool)
      → IsMasked n e.bytes e.given → IsMasked n bytes given → layer_of es line ≡ no_layer n → (e.line == line) ≡ b
      → (if b then Some 0 else None) ≡ Some i
      → let top : Layer = record { bytes = bytes; given = given } in layer_of (merged_at i row bytes given (e ∷ es)) line ≡ stacked top (layer_of (e ∷ es) line)
  merged_head e es line i row bytes given false m k none same h = cc
  merged_head e es line (suc i) row bytes given true m k none same h = let step : 0 ≡ suc i = some_same 0 (suc i) h in grind arith
  merged_head e es line zero row bytes given true m k none same h =
      let top : Layer = record { bytes = bytes; given = given } in
      let on : Entry n = laid_on row bytes given e in
      rw (same, none) (stacked-no_layer n (layer_by on) (IsLayer-layer_by on (IsMasked-laid n bytes given e.bytes e.given k m))
      ∙ ap (λ below. stacked top below) (sym (stacked-no_layer n (layer_by e) (IsLayer-layer_by e m))))

  merged_behind : (e : Entry n) (es : List (Entry n)) (line j i row : ℕ) (bytes : List ℕ) (given : List Bool)
      → AllMasked (e ∷ es) → IsMasked n bytes given → suc j ≡ i
      → let top : Layer = record { bytes = bytes; given = given } in layer_of (merged_at j row bytes given es) line ≡ stacked top (layer_of es line)
      → layer_of (merged_at i row bytes given (e ∷ es)) line ≡ stacked top (layer_of (e ∷ es) line)
  merged_behind e es line j zero row bytes given m k step rest = grind arith
  merged_behind e es line j (suc i) row bytes given m k step rest =
      let top : Layer = record { bytes = bytes; given = given } in
      let same : j ≡ i = omega arith in
      let there : layer_of (merged_at i row bytes given es) line ≡ stacked top (layer_of es line) =
      subst (λ (p : ℕ). layer_of (merged_at p row bytes given es) line ≡ stacked top (layer_of es line)) same rest in
      rw there (append_under (e.line == line) top (layer_of es line) (layer_by e)
      (record { bytes_len = k.bytes_len; given_len = k.given_len }) (IsLayer-layer_of es line m.1) (IsLayer-layer_by e m.0))

  -- A write merged into the newest entry of its line lies over all that the line's entries give.
  pub layer_of-merged_at : (es : List (Entry n)) (line i row : ℕ) (bytes : List ℕ) (given : List Bool)
      → AllMasked es → IsMasked n bytes given → newest_index es line ≡ Some i
      → let top : Layer = record { bytes = bytes; given = given } in layer_of (merged_at i row bytes given es) line ≡ stacked top (layer_of es line)
  layer_of-merged_at [] line i row bytes given m k h = cc
  layer_of-merged_at (e ∷ es) line i row bytes given m k h =
      by (newest_index es line) (λ j. layer_of-merged_at es line j row bytes given m.1 k) (layer_of-none es line) h
    where
      top : Layer
      top = record { bytes = bytes; given = given }

      by : (p : Option ℕ) → ((j : ℕ) → p ≡ Some j → layer_of (merged_at j row bytes given es) line ≡ stacked top (layer_of es line))
          → (p ≡ None → layer_of es line ≡ no_layer n)
          → or_this (one_further p) (if e.line == line then Some 0 else None) ≡ Some i
          → layer_of (merged_at i row bytes given (e ∷ es)) line ≡ stacked top (layer_of (e ∷ es) line)
      by (Some j) some none h = merged_behind e es line j i row bytes given m k (some_same (suc j) i h) (some j refl)
      by None some none h = merged_head e es line i row bytes given (e.line == line) m.0 k (none refl) refl h

  other_head : (e : Entry n) (es : List (Entry n)) (line other i row : ℕ) (bytes : List ℕ) (given : List Bool) (b : Bool)
      → (line == other) ≡ false → (e.line == line) ≡ b → (if b then Some 0 else None) ≡ Some i
      → layer_of (merged_at i row bytes given (e ∷ es)) other ≡ layer_of (e ∷ es) other
  other_head e es line other i row bytes given b apart same h = grind arith

  other_behind : (e : Entry n) (es : List (Entry n)) (other j i row : ℕ) (bytes : List ℕ) (given : List Bool) → suc j ≡ i
      → layer_of (merged_at j row bytes given es) other ≡ layer_of es other
      → layer_of (merged_at i row bytes given (e ∷ es)) other ≡ layer_of (e ∷ es) other
  other_behind e es other j i row bytes given step rest = grind arith

  -- a merge leaves the other lines
  pub layer_of-merged_other : (es : List (Entry n)) (line other i row : ℕ) (bytes : List ℕ) (given : List Bool)
      → newest_index es line ≡ Some i → (line == other) ≡ false → layer_of (merged_at i row bytes given es) other ≡ layer_of es other
  layer_of-merged_other [] line other i row bytes given h apart = cc
  layer_of-merged_other (e ∷ es) line other i row bytes given h apart =
      by (newest_index es line) (λ j k. layer_of-merged_other es line other j row bytes given k apart) h
    where
      by : (p : Option ℕ) → ((j : ℕ) → p ≡ Some j → layer_of (merged_at j row bytes given es) other ≡ layer_of es other)
          → or_this (one_further p) (if e.line == line then Some 0 else None) ≡ Some i
          → layer_of (merged_at i row bytes given (e ∷ es)) other ≡ layer_of (e ∷ es) other
      by (Some j) some h = other_behind e es other j i row bytes given (some_same (suc j) i h) (some j refl)
      by None some h = other_head e es line other i row bytes given (e.line == line) apart refl h

  -- Completing the head

  -- what a line stands for over the bytes that its head was completed from
  pub layer_of-completed : (e : Entry n) (es : List (Entry n)) (line : ℕ) (below any : List ℕ) → AllMasked (e ∷ es) → length below ≡ n → length any ≡ n → e.line ≡ line
      → let after : Layer = layer_of (completed below (e ∷ es)) line in let before : Layer = layer_of (e ∷ es) line in
      laid after.bytes after.given any ≡ laid before.bytes before.given below
  layer_of-completed e es line below any m h k same =
      let top : Layer = layer_of es line in
      let sized : IsLayer n top = IsLayer-layer_of es line m.1 in
      let own : length e.bytes ≡ n = m.0.bytes_len in
      let given : length e.given ≡ n = m.0.given_len in
      let filled : length (laid e.bytes e.given below) ≡ n = length-laid e.bytes e.given below ∙ h in
      let all : length (all_given n) ≡ n = length-replicate n true in
      rw (eq-eqb e.line line same)
      (laid-laid top.bytes top.given (laid e.bytes e.given below) (all_given n) any (omega arith) (omega arith) (omega arith) (omega arith)
      ∙ ap (λ xs. laid top.bytes top.given xs) (laid-all_given n (laid e.bytes e.given below) any filled k)
      ∙ sym (laid-laid top.bytes top.given e.bytes e.given below (omega arith) (omega arith) (omega arith) (omega arith)))

  pub layer_of-completed_other : (es : List (Entry n)) (line : ℕ) (below : List ℕ) → (head_line es == line) ≡ false
      → layer_of (completed below es) line ≡ layer_of es line
  layer_of-completed_other [] line below h = refl
  layer_of-completed_other (e ∷ es) line below h = rw h

  -- Taking the head away

  -- what a line stands for over any bytes is what the entries behind the head stand for over the head
  pub layer_of-head : (e : Entry n) (es : List (Entry n)) (line : ℕ) (any : List ℕ) → AllMasked (e ∷ es) → length any ≡ n → e.line ≡ line
      → let before : Layer = layer_of (e ∷ es) line in let after : Layer = layer_of es line in
      laid before.bytes before.given any ≡ laid after.bytes after.given (laid e.bytes e.given any)
  layer_of-head e es line any m h same =
      let top : Layer = layer_of es line in
      let sized : IsLayer n top = IsLayer-layer_of es line m.1 in
      let own : length e.bytes ≡ n = m.0.bytes_len in
      let given : length e.given ≡ n = m.0.given_len in
      rw (eq-eqb e.line line same)
      (laid-laid top.bytes top.given e.bytes e.given any (omega arith) (omega arith) (omega arith) (omega arith))

  pub layer_of-head_other : (e : Entry n) (es : List (Entry n)) (line : ℕ) → (e.line == line) ≡ false → layer_of (e ∷ es) line ≡ layer_of es line
  layer_of-head_other e es line h = rw h

  -- Masked entries stay masked

  pub AllMasked-append : (es : List (Entry n)) (e : Entry n) → AllMasked es → IsMasked n e.bytes e.given → AllMasked (es ++ e ∷ [])
  AllMasked-append [] e m k = (k, tt)
  AllMasked-append (f ∷ es) e m k = (m.0, AllMasked-append es e m.1 k)

  pub AllMasked-merged_at : (es : List (Entry n)) (i row : ℕ) (bytes : List ℕ) (given : List Bool) → AllMasked es → IsMasked n bytes given
      → AllMasked (merged_at i row bytes given es)
  AllMasked-merged_at [] i row bytes given m k = tt
  AllMasked-merged_at (e ∷ es) zero row bytes given m k = (IsMasked-laid n bytes given e.bytes e.given k m.0, m.1)
  AllMasked-merged_at (e ∷ es) (suc i) row bytes given m k = (m.0, AllMasked-merged_at es i row bytes given m.1 k)

  pub AllMasked-completed : (es : List (Entry n)) (below : List ℕ) → 0 < n → length below ≡ n → AllMasked es → AllMasked (completed below es)
  AllMasked-completed [] below some h m = tt
  AllMasked-completed (e ∷ es) below some h m = (IsMasked-all_given n (laid e.bytes e.given below) some (length-laid e.bytes e.given below ∙ h), m.1)
