-- A queue stays a queue, and what a search from its end has found.
use Rattle.std.proofs.Common.{◌≡◌, ◌≢◌, ℕ, ◌<◌, ◌≤◌, List, [], ◌∷◌, ◌++◌, Bool, true, false, ◌==◌, if◌then◌else◌, zero, suc, length, drop, refl, sym, ap, ◌∙◌, arith, slice_get, slice_set, Option, Some, None, eq-eqb, length-append, ◌⊎◌, inl, inr}
use Rattle.std.proofs.lemmas.Bool.{ne_eqb, lt-ltb, le-ltb, cases_lt}
use Rattle.masked_bytes.specs.Entries.{stacked, or_this, one_further, layer_by, layer_of, newest_index, candidate_index, laid_on, merged_at, completed_by, completed, row_at}
use Rattle.masked_bytes.{specs.Entries.AllMasked, specs.Masked.{joined, none_given, gives_some, IsMasked}, specs.declared.entry.Entry.Entry, proofs.Layering.gives_some-joined}
use Rattle.masked_bytes.proofs.{Queueing.{IsLayer, IsLayer-layer_of, length-merged_at, merged_at-slice_set}, Standing.{AllMasked-append, AllMasked-merged_at, AllMasked-completed}}
use Rattle.protected_queue.specs.{Queue.{IsQueue, accept_answer}, declared.accept.Accept.TheVariants.{Pushed, Merged, Full}}

gives_some-right : (given other : List Bool) → length other ≡ length given → gives_some other ≡ true → gives_some (joined given other) ≡ true
gives_some-right [] other e h = h
gives_some-right (g ∷ given) [] e h = cc
gives_some-right (true ∷ given) (o ∷ other) e h = refl
gives_some-right (false ∷ given) (true ∷ other) e h = refl
gives_some-right (false ∷ given) (false ∷ other) e h = gives_some-right given other (omega arith) h

gives_some-none_given : (n : ℕ) → gives_some (none_given n) ≡ false
gives_some-none_given zero = refl
gives_some-none_given (suc n) = gives_some-none_given n

no_room : (a b : ℕ) → (a < b → false ≡ true) → b ≤ a
no_room a b full = by (cases_lt a b)
  where
    by : (a < b) ⊎ (b ≤ a) → b ≤ a
    by (inl h) = let bad : false ≡ true = full h in cc
    by (inr h) = h

module _ {n : ℕ} where
  -- Indices

  pub drop-slice_get : (es : List (Entry n)) (i : ℕ) (e : Entry n) → slice_get es i ≡ Some e → drop i es ≡ e ∷ drop (suc i) es
  drop-slice_get [] i e h = cc
  drop-slice_get (f ∷ es) zero e h = let same : f ≡ e = cc in ap (λ x. x ∷ es) same
  drop-slice_get (f ∷ es) (suc i) e h = drop-slice_get es i e h

  -- the newest entry of a line is the first one found from the end
  pub newest_index-found : (es : List (Entry n)) (line i : ℕ) (e : Entry n) → slice_get es i ≡ Some e → e.line ≡ line
      → newest_index (drop (suc i) es) line ≡ None → newest_index es line ≡ Some i
  newest_index-found [] line i e h k none = cc
  newest_index-found (f ∷ es) line zero e h k none =
      let same : f ≡ e = cc in let is : f.line ≡ line = ap (λ x. x.line) same ∙ k in rw (none, eq-eqb f.line line is)
  newest_index-found (f ∷ es) line (suc i) e h k none = rw (newest_index-found es line i e h k none)

  pub newest_index-passed : (es : List (Entry n)) (line i : ℕ) (e : Entry n) → slice_get es i ≡ Some e → e.line ≢ line
      → newest_index (drop (suc i) es) line ≡ None → newest_index (drop i es) line ≡ None
  newest_index-passed es line i e h k none = rw (drop-slice_get es i e h, none, ne_eqb e.line line k)

  -- one more entry under those that were gathered
  pub layer_of-more : (es : List (Entry n)) (line i : ℕ) (e : Entry n) → slice_get es i ≡ Some e → e.line ≡ line
      → layer_of (drop i es) line ≡ stacked (layer_of (drop (suc i) es) line) (layer_by e)
  layer_of-more es line i e h k = rw (drop-slice_get es i e h, eq-eqb e.line line k)

  pub layer_of-passed : (es : List (Entry n)) (line i : ℕ) (e : Entry n) → slice_get es i ≡ Some e → e.line ≢ line
      → layer_of (drop i es) line ≡ layer_of (drop (suc i) es) line
  layer_of-passed es line i e h k = rw (drop-slice_get es i e h, ne_eqb e.line line k)

  some_given : (es : List (Entry n)) (e : Entry n) (line : ℕ) (p : Option ℕ) (b : Bool) (i : ℕ) → AllMasked (e ∷ es)
      → ((j : ℕ) → p ≡ Some j → gives_some (layer_of es line).given ≡ true)
      → or_this (one_further p) (if b then Some 0 else None) ≡ Some i
      → gives_some (if b then stacked (layer_of es line) (layer_by e) else layer_of es line).given ≡ true
  some_given es e line (Some j) false i m some h = some j refl
  some_given es e line (Some j) true i m some h =
      let sized : IsLayer n (layer_of es line) = IsLayer-layer_of es line m.1 in
      let own : length e.given ≡ n = m.0.given_len in
      gives_some-joined (layer_of es line).given e.given (omega arith) (some j refl)
  some_given es e line None true i m some h =
      let sized : IsLayer n (layer_of es line) = IsLayer-layer_of es line m.1 in
      let own : length e.given ≡ n = m.0.given_len in
      gives_some-right (layer_of es line).given e.given (omega arith) m.0.some
  some_given es e line None false i m some h = cc

  -- a line with an entry has a byte that is given
  pub gives_some-layer_of : (es : List (Entry n)) (line i : ℕ) → AllMasked es → newest_index es line ≡ Some i → gives_some (layer_of es line).given ≡ true
  gives_some-layer_of [] line i m h = cc
  gives_some-layer_of (e ∷ es) line i m h =
      some_given es e line (newest_index es line) (e.line == line) i m (λ j k. gives_some-layer_of es line j m.1 k) h

  -- no byte is given exactly where the line has no entry
  pub newest_index-None : (es : List (Entry n)) (line : ℕ) → AllMasked es → (layer_of es line).given ≡ none_given n → newest_index es line ≡ None
  newest_index-None es line m h = by (newest_index es line) (λ i k. gives_some-layer_of es line i m k)
    where
      by : (p : Option ℕ) → ((i : ℕ) → p ≡ Some i → gives_some (layer_of es line).given ≡ true) → p ≡ None
      by None some = refl
      by (Some i) some =
          let is : gives_some (layer_of es line).given ≡ true = some i refl in
          let is_not : gives_some (layer_of es line).given ≡ false = ap (λ xs. gives_some xs) h ∙ gives_some-none_given n in
          cc

  -- What is written at an index

  pub completed-written : (es : List (Entry n)) (below : List ℕ) (e new : Entry n) → Some e ≡ slice_get es 0 → new ≡ completed_by below e
      → slice_set es 0 new ≡ completed below es
  completed-written [] below e new h k = cc
  completed-written (f ∷ es) below e new h k = let same : f ≡ e = cc in rw (k, same)

  pub merged-written : (es : List (Entry n)) (i row : ℕ) (bytes : List ℕ) (given : List Bool) (e new : Entry n) → Some e ≡ slice_get es i
      → new ≡ laid_on row bytes given e → slice_set es i new ≡ merged_at i row bytes given es
  merged-written es i row bytes given e new h k = rw k (merged_at-slice_set es i row bytes given e (sym h))

  -- A queue stays a queue

  length-completed : (es : List (Entry n)) (below : List ℕ) → length (completed below es) ≡ length es
  length-completed [] below = refl
  length-completed (e ∷ es) below = refl

  pub IsQueue-completed : (es : List (Entry n)) (cap : ℕ) (below : List ℕ) → length below ≡ n → IsQueue n es cap → IsQueue n (completed below es) cap
  IsQueue-completed es cap below h q = record {
    some_bytes = q.some_bytes;
    few_bytes = q.few_bytes;
    some_room = q.some_room;
    small = q.small;
    within = omega (arith, length-completed es below, q.within);
    masked = AllMasked-completed es below q.some_bytes h q.masked;
  }

  pub IsQueue-merged_at : (es : List (Entry n)) (cap i row : ℕ) (bytes : List ℕ) (given : List Bool) → IsMasked n bytes given → IsQueue n es cap
      → IsQueue n (merged_at i row bytes given es) cap
  IsQueue-merged_at es cap i row bytes given m q = record {
    some_bytes = q.some_bytes;
    few_bytes = q.few_bytes;
    some_room = q.some_room;
    small = q.small;
    within = omega (arith, length-merged_at es i row bytes given, q.within);
    masked = AllMasked-merged_at es i row bytes given q.masked m;
  }

  -- the queue after a write that was merged or went last
  pub IsQueue-append : (es : List (Entry n)) (cap : ℕ) (e : Entry n) → IsMasked n e.bytes e.given → length es < cap → IsQueue n es cap → IsQueue n (es ++ e ∷ []) cap
  IsQueue-append es cap e m room q = record {
    some_bytes = q.some_bytes;
    few_bytes = q.few_bytes;
    some_room = q.some_room;
    small = q.small;
    within = omega (arith, length-append es (e ∷ []), room);
    masked = AllMasked-append es e q.masked m;
  }

  -- What accept answers

  pub accept_answer-Some : (cap : ℕ) (busy : Bool) (es : List (Entry n)) (line i : ℕ) → candidate_index busy es line ≡ Some i
      → accept_answer cap busy es line ≡ Merged (row_at es i) i
  accept_answer-Some cap busy es line i h = rw h

  -- with no candidate, and room for one more
  pub accept_answer-room : (cap : ℕ) (busy : Bool) (es : List (Entry n)) (line : ℕ) → candidate_index busy es line ≡ None → length es < cap
      → accept_answer cap busy es line ≡ Pushed
  accept_answer-room cap busy es line h room = rw (h, lt-ltb (length es) cap room)

  -- and with none
  pub accept_answer-full : (cap : ℕ) (busy : Bool) (es : List (Entry n)) (line : ℕ) → candidate_index busy es line ≡ None → (length es < cap → false ≡ true)
      → accept_answer cap busy es line ≡ Full
  accept_answer-full cap busy es line h full = rw (h, le-ltb (length es) cap (no_room (length es) cap full))
