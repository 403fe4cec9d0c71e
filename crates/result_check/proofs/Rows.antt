-- What is known of a row of a table.
use Rattle.std.proofs.Common.{◌≡◌, ℕ, zero, suc, ◌&&◌, Bool, true, List, [], ◌∷◌, drop, refl, sym, ap, ◌∙◌, subst, arith}
use Rattle.std.{specs.List.list_all, specs.Prelude.All, proofs.lemmas.List.Elements.All-tail}
use Rattle.masked_bytes.proofs.Truth.{and_first, and_second}
use Rattle.result_rows.specs.declared.Outcome.{Outcome}
use Rattle.result_rows.specs.declared.Outcome.TheVariants as out
use Rattle.row_rules.specs.declared.Row.{Row}
use Rattle.check_judging.specs.Keys.{is_short, all_short}
use Rattle.check_verdict.specs.Fitting.{is_brief, all_brief}

-- what a test says of all rows, it says of one
pub one_of_all : {A : Type 0} (p : A → Bool) (xs : List A) (i : ℕ) (x : A) (rest : List A) → drop i xs ≡ x ∷ rest → list_all p xs ≡ true → p x ≡ true
one_of_all p [] zero x rest is h = absurd (cc)
one_of_all p [] (suc i) x rest is h = absurd (cc)
one_of_all p (y ∷ ys) zero x rest is h = let same : y ≡ x = cc in ap p (sym same) ∙ and_first _ _ h
one_of_all p (y ∷ ys) (suc i) x rest is h = one_of_all p ys i x rest is (and_second _ _ h)

pub one_of_every : {A : Type 0} (P : A → Type 0) (xs : List A) (i : ℕ) (x : A) (rest : List A) → drop i xs ≡ x ∷ rest → All P xs → P x
one_of_every P [] zero x rest is h = absurd (cc)
one_of_every P [] (suc i) x rest is h = absurd (cc)
one_of_every P (y ∷ ys) zero x rest is h = let same : y ≡ x = cc in subst P same (h 0 y (omega arith))
one_of_every P (y ∷ ys) (suc i) x rest is h = one_of_every P ys i x rest is (All-tail P y ys h)

-- what is brief is short
pub short_of_brief : {n : ℕ} (o : Outcome n) → is_brief o ≡ true → is_short o ≡ true
short_of_brief (out.Stored u place) h = h
short_of_brief (out.Read u place bytes) h = h
short_of_brief _ h = refl

pub all_short_of_brief : {n : ℕ} (rows : List (Row n)) → all_brief rows ≡ true → all_short rows ≡ true
all_short_of_brief [] h = refl
all_short_of_brief (q ∷ rows) h = ap (λ b. b && all_short rows) (short_of_brief q.outcome (and_first _ _ h)) ∙ all_short_of_brief rows (and_second _ _ h)
