-- What stands in a list, and a list that is turned round; for the crates above.
use Rattle.std.proofs.Common.{◌≡◌, ℕ, ◌<◌, List, [], ◌∷◌, ◌++◌, length, reverse, get_or, Some, sym, ap, ◌∙◌, append_assoc}
use Rattle.std.{specs.Prelude.slice_get, proofs.lemmas.List.reverse-append, proofs.lemmas.Option.slice_get-get_or}

-- what was read at an index stands there
pub item-at : {A : Type 0} (xs : List A) (i : ℕ) (x : A) → i < length xs → x ≡ get_or xs i x → slice_get xs i ≡ Some x
item-at xs i x within is = slice_get-get_or xs i x within ∙ ap Some (sym is)

-- a list turned round before another, by its first
pub turned : {A : Type 0} (x : A) (xs ys : List A) → reverse (x ∷ xs) ++ ys ≡ reverse xs ++ x ∷ ys
turned x xs ys = ap (λ zs. zs ++ ys) (reverse-append (x ∷ []) xs) ∙ append_assoc (reverse xs) (x ∷ []) ys
