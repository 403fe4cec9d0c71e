-- Each of a line's newest bytes comes from the row that is told for it.
use Rattle.std.proofs.Common.{◌≡◌, ◌≢◌, ℕ, zero, suc, ◌+◌, ◌-◌, ◌≤◌, ◌⊎◌, inl, inr, Bool, true, false, List, [], ◌∷◌, ◌++◌, Some, length, refl, sym, ap, ◌∙◌, cond, subst, arith}
use Rattle.std.{specs.List.AllByRecursion, specs.Prelude.{replicate, reverse, slice_get}, proofs.lemmas.List.{reverse-append, length-reverse, length-replicate}}
use Rattle.masked_bytes.{specs.Masked.laid, proofs.Truth.and_first}
use Rattle.row_rules.specs.{Rows.{newest, accepted_of, asks_write, asks_write_of, bytes_of, given_of}, declared.Asks.Asks, declared.Asks.TheVariants.{Reads, Writes, Cuts}}
use Rattle.row_rules.specs.declared.Row.{Row}
use Rattle.check_telling.specs.Givers.{givers, Gives, NoneGives, IsSized, GiverLaw}

-- an item behind a list, and one of the list
at_end : {A : Type 0} (xs : List A) (x : A) → slice_get (xs ++ x ∷ []) (length xs) ≡ Some x
at_end [] x = refl
at_end (y ∷ xs) x = at_end xs x

before_end : {A : Type 0} (xs : List A) (x y : A) (i : ℕ) → slice_get xs i ≡ Some y → slice_get (xs ++ x ∷ []) i ≡ Some y
before_end [] x y i at = absurd (cc)
before_end (z ∷ xs) x y zero at = at
before_end (z ∷ xs) x y (suc i) at = before_end xs x y i at

-- what stands in a list with one item more is the item, or stood there before
of_end : {A : Type 0} (xs : List A) (x y : A) (i : ℕ) → slice_get (xs ++ x ∷ []) i ≡ Some y → (x ≡ y) ⊎ (slice_get xs i ≡ Some y)
of_end [] x y zero at = inl (cc)
of_end [] x y (suc i) at = absurd (cc)
of_end (z ∷ xs) x y zero at = inr at
of_end (z ∷ xs) x y (suc i) at = of_end xs x y i at

past_end : {A : Type 0} (xs : List A) (x y : A) (i : ℕ) → length xs + 1 ≤ i → slice_get (xs ++ x ∷ []) i ≡ Some y → ⊥
past_end [] x y zero le at = omega (arith, le)
past_end [] x y (suc i) le at = absurd (cc)
past_end (z ∷ xs) x y zero le at = omega (arith, le)
past_end (z ∷ xs) x y (suc i) le at = past_end xs x y i (omega (arith, le)) at

-- an item of a list that is laid over another comes from the one or the other
laid_from : (bytes : List ℕ) (given : List Bool) (under : List ℕ) (k value : ℕ) → length bytes ≡ length given → slice_get (laid bytes given under) k ≡ Some value
    → length under ≡ length given
    → ((slice_get given k ≡ Some true) × (slice_get bytes k ≡ Some value)) ⊎ ((slice_get given k ≡ Some false) × (slice_get under k ≡ Some value))
laid_from [] [] [] k value same at like = absurd (cc)
laid_from [] [] (u ∷ under) k value same at like = absurd (omega (arith, like))
laid_from [] (g ∷ given) under k value same at like = absurd (omega (arith, same))
laid_from (b ∷ bytes) [] under k value same at like = absurd (omega (arith, same))
laid_from (b ∷ bytes) (g ∷ given) [] k value same at like = absurd (omega (arith, like))
laid_from (b ∷ bytes) (true ∷ given) (u ∷ under) zero value same at like = inl (refl, at)
laid_from (b ∷ bytes) (false ∷ given) (u ∷ under) zero value same at like = inr (refl, at)
laid_from (b ∷ bytes) (g ∷ given) (u ∷ under) (suc k) value same at like = laid_from bytes given under k value (omega (arith, same)) at (omega (arith, like))

laid_long : (bytes : List ℕ) (given : List Bool) (under : List ℕ) → length bytes ≡ length given → length under ≡ length given → length (laid bytes given under) ≡ length given
laid_long [] [] under same like = like
laid_long [] (g ∷ given) under same like = absurd (omega (arith, same))
laid_long (b ∷ bytes) [] under same like = absurd (omega (arith, same))
laid_long (b ∷ bytes) (g ∷ given) [] same like = absurd (omega (arith, like))
laid_long (b ∷ bytes) (g ∷ given) (u ∷ under) same like = let h = laid_long bytes given under (omega (arith, same)) (omega (arith, like)) in omega (arith, h)

all_one : (n x k y : ℕ) → slice_get (replicate n x) k ≡ Some y → y ≡ x
all_one zero x k y at = absurd (cc)
all_one (suc n) x zero y at = cc
all_one (suc n) x (suc k) y at = all_one n x k y at

module _ {n : ℕ} (line k : ℕ) where
  is_write : (asks : Asks n) → asks_write_of line asks ≡ true → asks_write asks ≡ true
  is_write (Reads at) h = absurd (cc)
  is_write (Writes at bytes given) h = refl
  is_write Cuts h = absurd (cc)

  writes : (r : Row n) → accepted_of line r ≡ true → asks_write r.asks ≡ true
  writes r h = is_write r.asks (and_first _ _ h)

  none_more : (rows : List (Row n)) (r : Row n) → NoneGives rows line k → (accepted_of line r ≡ true → slice_get (given_of r.asks) k ≡ Some false)
      → NoneGives (rows ++ r ∷ []) line k
  none_more rows r none here i q at accepts = by (of_end rows r q i at)
    where
      by : (r ≡ q) ⊎ (slice_get rows i ≡ Some q) → slice_get (given_of q.asks) k ≡ Some false
      by (inl same) = subst (λ (p : Row n). slice_get (given_of p.asks) k ≡ Some false) same (here (ap (accepted_of line) same ∙ accepts))
      by (inr there) = none i q there accepts

  gives_more : (rows : List (Row n)) (r : Row n) (number value : ℕ) → Gives rows line k number value
      → (accepted_of line r ≡ true → slice_get (given_of r.asks) k ≡ Some false) → Gives (rows ++ r ∷ []) line k number value
  gives_more rows r number value g here = record {
    row = g.row;
    at = before_end rows r g.row (number - 1) g.at;
    accepts = g.accepts;
    gives = g.gives;
    value_is = g.value_is;
    last = λ i q le at accepts. by i q le accepts (of_end rows r q i at);
  }
    where
      by : (i : ℕ) (q : Row n) → number ≤ i → accepted_of line q ≡ true → (r ≡ q) ⊎ (slice_get rows i ≡ Some q) → slice_get (given_of q.asks) k ≡ Some false
      by i q le accepts (inl same) = subst (λ (p : Row n). slice_get (given_of p.asks) k ≡ Some false) same (here (ap (accepted_of line) same ∙ accepts))
      by i q le accepts (inr there) = g.last i q le there accepts

  gives_here : (rows : List (Row n)) (r : Row n) (number value : ℕ) → number ≡ length rows + 1 → accepted_of line r ≡ true → slice_get (given_of r.asks) k ≡ Some true
      → slice_get (bytes_of r.asks) k ≡ Some value → Gives (rows ++ r ∷ []) line k number value
  gives_here rows r number value is accepts gives value_is =
      let place : length rows ≡ number - 1 = omega (arith, is) in
      record {
        row = r;
        at = subst (λ i. slice_get (rows ++ r ∷ []) i ≡ Some r) place (at_end rows r);
        accepts = accepts;
        gives = gives;
        value_is = value_is;
        last = λ i q le at more. absurd (past_end rows r q i (omega (arith, le, is)) at);
      }

  newest_long : (before : List (Row n)) → AllByRecursion (λ r. IsSized r) before → length (newest before line) ≡ n
  newest_long [] sized = length-replicate n 0
  newest_long (r ∷ before) sized = by (accepted_of line r) refl (newest_long before sized.1)
    where
      by : (b : Bool) → accepted_of line r ≡ b → length (newest before line) ≡ n → length (cond b (laid (bytes_of r.asks) (given_of r.asks) (newest before line)) (newest before line)) ≡ n
      by true is h =
          let w = writes r is in
          laid_long (bytes_of r.asks) (given_of r.asks) (newest before line) (sized.0.bytes_len w ∙ sym (sized.0.given_len w)) (h ∙ sym (sized.0.given_len w)) ∙ sized.0.given_len w
      by false is h = h

  givers_long : (before : List (Row n)) → AllByRecursion (λ r. IsSized r) before → length (givers before line) ≡ n
  givers_long [] sized = length-replicate n 0
  givers_long (r ∷ before) sized = by (accepted_of line r) refl (givers_long before sized.1)
    where
      by : (b : Bool) → accepted_of line r ≡ b → length (givers before line) ≡ n
          → length (cond b (laid (replicate n (length before + 1)) (given_of r.asks) (givers before line)) (givers before line)) ≡ n
      by true is h =
          let w = writes r is in
          laid_long (replicate n (length before + 1)) (given_of r.asks) (givers before line) (length-replicate n (length before + 1) ∙ sym (sized.0.given_len w)) (h ∙ sym (sized.0.given_len w)) ∙ sized.0.given_len w
      by false is h = h

  abbrev Told : ℕ → ℕ → List (Row n) → Type 0
  Told number value rows = ((number ≡ 0) × (value ≡ 0) × NoneGives rows line k) ⊎ ((number ≢ 0) × Gives rows line k number value)

  told_more : (rows : List (Row n)) (r : Row n) (number value : ℕ) → Told number value rows → (accepted_of line r ≡ true → slice_get (given_of r.asks) k ≡ Some false)
      → Told number value (rows ++ r ∷ [])
  told_more rows r number value (inl h) here = inl (h.0, h.1, none_more rows r h.2 here)
  told_more rows r number value (inr h) here = inr (h.0, gives_more rows r number value h.1 here)

  told : (before : List (Row n)) (number value : ℕ) → AllByRecursion (λ r. IsSized r) before
      → slice_get (givers before line) k ≡ Some number → slice_get (newest before line) k ≡ Some value → Told number value (reverse before)
  told [] number value sized at is = inl (all_one n 0 k number at, all_one n 0 k value is, λ i q there accepts. absurd (cc))
  told (r ∷ before) number value sized at is =
      subst (Told number value) (sym (reverse-append (r ∷ []) before)) (by (accepted_of line r) refl (λ x y a b. told before x y sized.1 a b) at is)
    where
      by : (b : Bool) → accepted_of line r ≡ b
          → ((x y : ℕ) → slice_get (givers before line) k ≡ Some x → slice_get (newest before line) k ≡ Some y → Told x y (reverse before))
          → slice_get (cond b (laid (replicate n (length before + 1)) (given_of r.asks) (givers before line)) (givers before line)) k ≡ Some number
          → slice_get (cond b (laid (bytes_of r.asks) (given_of r.asks) (newest before line)) (newest before line)) k ≡ Some value
          → Told number value (reverse before ++ r ∷ [])
      by false off ih at is = told_more (reverse before) r number value (ih number value at is) (λ on. absurd (cc))
      by true on ih at is =
          let w = writes r on in
          let long = sized.0.given_len w in
          choose
          (laid_from (replicate n (length before + 1)) (given_of r.asks) (givers before line) k number (length-replicate n (length before + 1) ∙ sym long) at (givers_long before sized.1 ∙ sym long))
          (laid_from (bytes_of r.asks) (given_of r.asks) (newest before line) k value (sized.0.bytes_len w ∙ sym long) is (newest_long before sized.1 ∙ sym long))
        where
          choose : ((slice_get (given_of r.asks) k ≡ Some true) × (slice_get (replicate n (length before + 1)) k ≡ Some number))
              ⊎ ((slice_get (given_of r.asks) k ≡ Some false) × (slice_get (givers before line) k ≡ Some number))
              → ((slice_get (given_of r.asks) k ≡ Some true) × (slice_get (bytes_of r.asks) k ≡ Some value))
              ⊎ ((slice_get (given_of r.asks) k ≡ Some false) × (slice_get (newest before line) k ≡ Some value))
              → Told number value (reverse before ++ r ∷ [])
          choose (inl a) (inl b) =
              let size = length-reverse before in
              let same : number ≡ length before + 1 = all_one n (length before + 1) k number a.1 in
              inr (λ none. omega (arith, none, same), gives_here (reverse before) r number value (omega (arith, same, size)) on a.0 b.1)
          choose (inl a) (inr b) = absurd (cc)
          choose (inr a) (inl b) = absurd (cc)
          choose (inr a) (inr b) = told_more (reverse before) r number value (ih number value a.1 b.1) (λ more. a.0)

pub giver_law : GiverLaw
giver_law n line k number value before sized at is = told line k before number value sized at is
