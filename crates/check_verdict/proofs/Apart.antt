-- The distances of a row from those before it, by what is kept.
use Rattle.std.proofs.Common.{◌≡◌, ℕ, ◌+◌, ◌^◌, ◌<◌, ◌==◌, ◌&&◌, ◌||◌, Bool, true, false, List, [], ◌∷◌, Option, refl, sym, ap, ◌∙◌, arith}
use Rattle.std.{specs.List.list_all, specs.Prelude.{nat_le, not, reverse, map}, proofs.lemmas.Bool.{le-leb, ltb-true, ne_eqb}, proofs.lemmas.List.reverse-append}
use Rattle.std.proofs.lemmas.List.Folds.{list_all-append, list_all-map}
use Rattle.result_rows.specs.declared.Outcome.{Outcome}
use Rattle.result_rows.specs.declared.Outcome.TheVariants as out
use Rattle.row_rules.specs.{Queueing.pending, declared.Row.Row}
use Rattle.check_judging.specs.{Distances.{is_far_below, ends_above, waits_above, is_apart}, Heads.end_of, Keys.{reach, is_short}, Standing.at_end}
use Rattle.check_judging.proofs.{Apart.apart_law, Stands.stand_law}
use Rattle.check_verdict.specs.{Kept.{Sight, sight, sight_of, Shows, KeptBank, apart_kept, ApartKeptLaw}, Members.{never, ends_apart}, declared.members.Member.Member}

and_swap : (a b : Bool) → (a && (b && true)) ≡ (b && a)
and_swap true true = refl
and_swap true false = refl
and_swap false true = refl
and_swap false false = refl

pub all-reverse : {X : Type 0} (p : X → Bool) (xs : List X) → list_all p (reverse xs) ≡ list_all p xs
all-reverse p [] = refl
all-reverse p (x ∷ xs) =
    ap (list_all p) (reverse-append (x ∷ []) xs) ∙ list_all-append p (reverse xs) (x ∷ []) ∙ ap (λ b. b && (p x && true)) (all-reverse p xs) ∙ and_swap (list_all p xs) (p x)

pub all-same : {X : Type 0} (p q : X → Bool) → ((x : X) → p x ≡ q x) → (xs : List X) → list_all p xs ≡ list_all q xs
all-same p q same [] = refl
all-same p q same (x ∷ xs) = ap (λ b. b && list_all p xs) (same x) ∙ ap (λ b. q x && b) (all-same p q same xs)

module _ {n : ℕ} where
  -- a test of all members is one of all rows that they show
  pub shown : (g : Sight → Bool) (f : Row n → Bool) (members : List Member) (rows : List (Row n)) → ((q : Row n) → f q ≡ g (sight_of q)) → Shows members rows
      → list_all f rows ≡ list_all (λ m. g (sight m)) members
  shown g f members rows same shows =
      all-same f (λ q. g (sight_of q)) same rows
      ∙ sym (list_all-map g sight_of rows)
      ∙ sym (all-reverse g (map sight_of rows))
      ∙ ap (list_all g) (sym shows)
      ∙ list_all-map g sight members

  by_end : (test : ℕ → Bool) → test never ≡ true → (o : Outcome n) → at_end test o ≡ test (end_of never o)
  by_end test passes (out.Stored u place) = refl
  by_end test passes _ = sym passes

  module _ (t : ℕ) (rows : List (Row n)) (members : List Member) (waits : List ℕ) (lost : ℕ) (last_answer last_store : Option ℕ)
      (kept : KeptBank t rows members waits lost last_answer last_store) where
    pub by_members : (test : ℕ → Bool) → test never ≡ true → list_all test (ends_above t rows) ≡ list_all (λ m. test m.end) members
    by_members test passes =
        (stand_law n t test rows kept.own).writes
        ∙ shown (λ s. test s.end) (λ q. at_end test q.outcome) members (pending t [] rows) (λ q. by_end test passes q.outcome) kept.writes

    by_waits : (test : ℕ → Bool) → list_all test (waits_above t rows) ≡ list_all test waits
    by_waits test = sym (all-reverse test (waits_above t rows)) ∙ ap (list_all test) (sym kept.to_come)

    told : (read : ℕ) (o : Outcome n) → is_short o ≡ true → read < 2 ^ 32 → is_apart read t o rows ≡ apart_kept read members waits last_answer last_store o
    told read (out.Stored u place) short small =
        let k : u < reach = ltb-true u reach short in
        ap (λ b. b && (list_all (λ v. nat_le (u + read) v || nat_le (v + read) u) (ends_above t rows) && list_all (λ v. not (u == v)) (waits_above t rows))) (sym (kept.stored read u))
        ∙ ap (λ b. is_far_below read u last_store && (b && list_all (λ v. not (u == v)) (waits_above t rows)))
        (by_members (λ v. nat_le (u + read) v || nat_le (v + read) u) (ap (λ b. b || nat_le (never + read) u) (le-leb (u + read) never (omega (arith, k, small)))))
        ∙ ap (λ b. is_far_below read u last_store && (list_all (λ m. ends_apart read u m) members && b)) (by_waits (λ v. not (u == v)))
    told read (out.Read u place bytes) short small =
        let k : u < reach = ltb-true u reach short in
        ap (λ b. b && list_all (λ v. not (u == v)) (ends_above t rows)) (sym (kept.answered read u))
        ∙ ap (λ b. is_far_below read u last_answer && b) (by_members (λ v. not (u == v)) (ap not (ne_eqb u never (λ e. omega (arith, e, k)))))
    told read _ short small = refl

pub apart_kept_law : ApartKeptLaw
apart_kept_law n read t o rows members waits lost last_answer last_store kept short small above =
    apart_law n read t o rows above ∙ told t rows members waits lost last_answer last_store kept read o short small
