-- Pairs that are in order stay so as time passes and, but for the newest, behind one row more.
use Rattle.std.proofs.Common.{◌≡◌, ℕ, ◌≤◌, Bool, true, false, List, [], ◌∷◌, inl, inr, refl, sym, ap, subst, cond}
use Rattle.std.specs.Prelude.{drop, filter}
use Rattle.masked_bytes.proofs.Truth.{and_second}
use Rattle.row_rules.specs.{Queueing.{stands, pending, pairs_few, has_room}, declared.Row.Row, declared.Rules.Rules}
use Rattle.check_judging.{specs.Near.NearRoom, specs.Steps.stays_behind, proofs.Steps.step_law, proofs.Sublists.{Sub, pairs-sub, pending-later}}

sub-whole : {A : Type 0} (xs : List A) → Sub xs xs
sub-whole [] = refl
sub-whole (x ∷ xs) = inr (xs, refl, sub-whole xs)

-- some of these by a test
sub-some : {A : Type 0} (f : A → Bool) (xs : List A) → Sub xs (filter f xs)
sub-some f [] = refl
sub-some f (x ∷ xs) = by (f x) (sub-some f xs)
  where
    by : (b : Bool) → Sub xs (filter f xs) → Sub (x ∷ xs) (cond b (x ∷ filter f xs) (filter f xs))
    by true ih = inr (filter f xs, refl, ih)
    by false ih = inl ih

sub-less : {A : Type 0} (xs ys : List A) → Sub xs ys → Sub xs (drop 1 ys)
sub-less [] ys s = ap (drop 1) s
sub-less (x ∷ xs) ys (inl s) = inl (sub-less xs ys s)
sub-less (x ∷ xs) ys (inr s) = inl (subst (λ zs. Sub xs (drop 1 zs)) (sym s.1) s.2)

sub-drop : {A : Type 0} (xs ys : List A) → Sub xs ys → Sub (drop 1 xs) (drop 1 ys)
sub-drop [] ys s = ap (drop 1) s
sub-drop (x ∷ xs) ys (inl s) = sub-less xs ys s
sub-drop (x ∷ xs) ys (inr s) = subst (λ zs. Sub xs (drop 1 zs)) (sym s.1) s.2

pairs-less : {n : ℕ} (ps qs : List (Row n)) → Sub ps qs → pairs_few ps ps ≡ true → pairs_few qs qs ≡ true
pairs-less ps qs s h = pairs-sub ps qs ps qs s s h

-- as time passes
pub near_stays : {n : ℕ} (t u : ℕ) (rows : List (Row n)) → t ≤ u → NearRoom t rows → NearRoom u rows
near_stays t u rows le h = pairs-less (drop 1 (pending t [] rows)) (drop 1 (pending u [] rows)) (sub-drop (pending t [] rows) (pending u [] rows) (pending-later t u le [] rows)) h

pub room_pairs : {n : ℕ} (rules : Rules) (t : ℕ) (rows : List (Row n)) → has_room rules t rows ≡ true → pairs_few (pending t [] rows) (pending t [] rows) ≡ true
room_pairs rules t rows h = and_second _ _ (and_second _ _ h)

-- behind one row more
pub near_behind : {n : ℕ} (rules : Rules) (t : ℕ) (r : Row n) (rows : List (Row n)) → has_room rules t rows ≡ true → NearRoom t (r ∷ rows)
near_behind {n} rules t r rows h =
    subst (λ qs. pairs_few (drop 1 qs) (drop 1 qs) ≡ true) (sym (step_law n t r rows).writes)
    (by (stands t [] r))
  where
    less : List (Row n)
    less = filter (stays_behind r) (pending t [] rows)

    fine : pairs_few less less ≡ true
    fine = pairs-less (pending t [] rows) less (sub-some (stays_behind r) (pending t [] rows)) (room_pairs rules t rows h)

    by : (b : Bool) → pairs_few (drop 1 (cond b (r ∷ less) less)) (drop 1 (cond b (r ∷ less) less)) ≡ true
    by true = fine
    by false = pairs-less less (drop 1 less) (sub-less less less (sub-whole less)) fine
