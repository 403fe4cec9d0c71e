-- That no more rows are told than there are, where each is told once.
use Rattle.std.proofs.Common.{◌≡◌, ◌≢◌, ℕ, zero, suc, ◌+◌, ◌≤◌, ◌==◌, ◌||◌, Bool, true, false, List, [], ◌∷◌, ◌++◌, length, refl, sym, ap, subst, ◌∙◌, eqb-true, eq-eqb, arith}
use Rattle.std.proofs.lemmas.List.{length_push}
use Rattle.result_rows.specs.declared.Outcome.{Outcome}
use Rattle.row_printer.specs.Telling.{tells, TellsOnce}

abbrev one_if : Bool → ℕ
one_if true = 1
one_if false = 0

one-most : (b : Bool) → one_if b ≤ 1
one-most true = omega arith
one-most false = omega arith

one-either : (a b : Bool) → one_if b ≤ one_if (a || b)
one-either true true = omega arith
one-either true false = omega arith
one-either false b = omega arith

module _ {n : ℕ} where
  -- how many of the first rows are told
  abbrev told_among : ℕ → List (ℕ × Outcome n) → ℕ
  told_among zero told = 0
  told_among (suc row) told = told_among row told + one_if (tells told (suc row))

  among-most : (rows : ℕ) (told : List (ℕ × Outcome n)) → told_among rows told ≤ rows
  among-most zero told = omega arith
  among-most (suc row) told =
      let before = among-most row told in
      let one = one-most (tells told (suc row)) in
      omega (arith, before, one)

  -- one that is told more leaves none out
  among-more : (rows : ℕ) (one : ℕ × Outcome n) (told : List (ℕ × Outcome n)) → told_among rows told ≤ told_among rows (one ∷ told)
  among-more zero one told = omega arith
  among-more (suc row) one told =
      let before = among-more row one told in
      let either = one-either (one.0 == suc row) (tells told (suc row)) in
      omega (arith, before, either)

  among-step : (row : ℕ) (one : ℕ × Outcome n) (told : List (ℕ × Outcome n)) → one.0 ≤ suc row → tells told one.0 ≡ false
      → (one.0 ≤ row → told_among row told + 1 ≤ told_among row (one ∷ told)) → (b : Bool) → (one.0 == suc row) ≡ b
      → told_among row told + one_if (tells told (suc row)) + 1 ≤ told_among row (one ∷ told) + one_if ((one.0 == suc row) || tells told (suc row))
  among-step row one told within none before true is =
      let same = among-more row one told in
      let was : one_if (tells told (suc row)) ≡ 0 = ap one_if (subst (λ (r : ℕ). tells told r ≡ false) (eqb-true one.0 (suc row) is) none) in
      let now : one_if ((one.0 == suc row) || tells told (suc row)) ≡ 1 = ap (λ (b : Bool). one_if (b || tells told (suc row))) is in
      omega (arith, same, was, now)
  among-step row one told within none before false is =
      let other : one.0 ≢ suc row = λ same. let both : true ≡ false = sym (eq-eqb one.0 (suc row) same) ∙ is in cc both in
      let earlier = before (omega (arith, within, other)) in
      let now : one_if ((one.0 == suc row) || tells told (suc row)) ≡ one_if (tells told (suc row)) = ap (λ (b : Bool). one_if (b || tells told (suc row))) is in
      omega (arith, earlier, now)

  -- and counts, where it wasn't told
  among-next : (rows : ℕ) (one : ℕ × Outcome n) (told : List (ℕ × Outcome n)) → 1 ≤ one.0 → one.0 ≤ rows → tells told one.0 ≡ false → told_among rows told + 1 ≤ told_among rows (one ∷ told)
  among-next zero one told above within none = absurd (omega (arith, above, within))
  among-next (suc row) one told above within none =
      among-step row one told within none (λ below. among-next row one told above below none) (one.0 == suc row) refl

  among-all : (rows : ℕ) (told : List (ℕ × Outcome n)) → TellsOnce rows told → length told ≤ told_among rows told
  among-all rows [] once = omega arith
  among-all rows (one ∷ told) once =
      let before = among-all rows told once.4 in
      let next = among-next rows one told once.0 once.1 once.3 in
      omega (arith, before, next)

  -- each row was told once, so no more were told than there are
  pub once-few : (rows : ℕ) (told : List (ℕ × Outcome n)) → TellsOnce rows told → length told ≤ rows
  once-few rows told once =
      let all = among-all rows told once in
      let most = among-most rows told in
      omega (arith, all, most)

  -- where one more may be told, one isn't told yet
  pub some-untold : (rows untold : ℕ) (told : List (ℕ × Outcome n)) (one : ℕ × Outcome n) → length told + untold ≡ rows → TellsOnce rows (told ++ one ∷ []) → 1 ≤ untold
  some-untold rows untold told one counted once =
      let few = once-few rows (told ++ one ∷ []) once in
      let size : length (told ++ one ∷ []) ≡ length told + 1 = length_push told one in
      omega (arith, few, size, counted)
