-- A verdict names the lowest row that breaks a rule.
use Rattle.std.proofs.Common.{◌≡◌, ℕ, ◌+◌, ◌&&◌, Bool, true, false, List, [], ◌∷◌, ◌++◌, length, Option, Some, None, refl, sym, ap, ◌∙◌, subst, cond, arith}
use Rattle.std.{specs.List.list_all, specs.Prelude.reverse, proofs.lemmas.Bool.and_from, proofs.lemmas.List.append-nil}
use Rattle.masked_bytes.proofs.{Lists.turned, Truth.{and_first, and_second, and_true}, Turning.and_mid}
use Rattle.row_rules.specs.{Rows.{RowTest, each_row}, declared.Row.Row, declared.Rules.Rules}
use Rattle.check_verdict.specs.{Judging.VerdictLaw, Verdicts.{keeps, all_rules, broken_by, or_later, verdict_from, keeps_all}, declared.Rule.Rule, declared.Verdict.Verdict}
use Rattle.check_verdict.specs.declared.Verdict.TheVariants.{Yes, No}

module _ {n : ℕ} (test : RowTest n) where
  -- each of these rows, the oldest first, passes behind those before them
  abbrev forward : List (Row n) → List (Row n) → Bool
  forward before [] = true
  forward before (r ∷ rest) = test before r rest && forward (r ∷ before) rest

  all_rows : (rest before : List (Row n)) → each_row test (reverse rest ++ before) [] ≡ (each_row test before rest && forward before rest)
  all_rows [] before = sym (and_true (each_row test before []))
  all_rows (r ∷ rest) before =
      ap (λ rows. each_row test rows []) (turned r rest before)
      ∙ all_rows rest (r ∷ before)
      ∙ and_mid (test before r rest) (each_row test before (r ∷ rest)) (forward (r ∷ before) rest)

module _ {n : ℕ} (rules : Rules) (banks : List ℕ) where
  -- none of some rules is broken exactly where all are kept
  unbroken : (some : List Rule) (before : List (Row n)) (r : Row n) (after : List (Row n)) → broken_by rules banks some before r after ≡ None
      → list_all (λ one. keeps banks rules one before r after) some ≡ true
  unbroken [] before r after h = refl
  unbroken (one ∷ some) before r after h = by (keeps banks rules one before r after) h (λ k. unbroken some before r after k)
    where
      by : (b : Bool) → cond b (broken_by rules banks some before r after) (Some one) ≡ None
          → (broken_by rules banks some before r after ≡ None → list_all (λ one. keeps banks rules one before r after) some ≡ true)
          → (b && list_all (λ one. keeps banks rules one before r after) some) ≡ true
      by true h ih = ih h
      by false h ih = absurd (cc)

  kept : (some : List Rule) (before : List (Row n)) (r : Row n) (after : List (Row n)) → list_all (λ one. keeps banks rules one before r after) some ≡ true
      → broken_by rules banks some before r after ≡ None
  kept [] before r after h = refl
  kept (one ∷ some) before r after h = by (keeps banks rules one before r after) h (λ k. kept some before r after k)
    where
      by : (b : Bool) → (b && list_all (λ one. keeps banks rules one before r after) some) ≡ true
          → (list_all (λ one. keeps banks rules one before r after) some ≡ true → broken_by rules banks some before r after ≡ None)
          → cond b (broken_by rules banks some before r after) (Some one) ≡ None
      by true h ih = ih h
      by false h ih = absurd (cc)

  ok_forward : (rest before : List (Row n)) (row : ℕ) → verdict_from rules banks row before rest ≡ Yes → forward (keeps_all rules banks) before rest ≡ true
  ok_forward [] before row h = refl
  ok_forward (r ∷ rest) before row h = by (broken_by rules banks all_rules before r rest) refl h (λ k. ok_forward rest (r ∷ before) (row + 1) k)
    where
      by : (o : Option Rule) → broken_by rules banks all_rules before r rest ≡ o → or_later row o (verdict_from rules banks (row + 1) (r ∷ before) rest) ≡ Yes
          → (verdict_from rules banks (row + 1) (r ∷ before) rest ≡ Yes → forward (keeps_all rules banks) (r ∷ before) rest ≡ true)
          → forward (keeps_all rules banks) before (r ∷ rest) ≡ true
      by (Some one) is h ih = absurd (cc)
      by None is h ih = and_from (keeps_all rules banks before r rest) _ (unbroken all_rules before r rest is) (ih h)

  yes_forward : (rest before : List (Row n)) (row : ℕ) → forward (keeps_all rules banks) before rest ≡ true → verdict_from rules banks row before rest ≡ Yes
  yes_forward [] before row h = refl
  yes_forward (r ∷ rest) before row h =
      ap (λ o. or_later row o (verdict_from rules banks (row + 1) (r ∷ before) rest)) (kept all_rules before r rest (and_first (keeps_all rules banks before r rest) _ h))
      ∙ yes_forward rest (r ∷ before) (row + 1) (and_second (keeps_all rules banks before r rest) _ h)

  -- the lowest of the rows that stand behind some that keep all rules
  record Found (before rest : List (Row n)) (row at : ℕ) (one : Rule) : Type 0 where
    below : List (Row n)
    broken : Row n
    above : List (Row n)
    split : rest ≡ below ++ broken ∷ above
    number : at ≡ row + length below
    fine : each_row (keeps_all rules banks) (reverse below ++ before) (broken ∷ above) ≡ true
    first : broken_by rules banks all_rules (reverse below ++ before) broken above ≡ Some one

  found : (rest before : List (Row n)) (row at : ℕ) (one : Rule) → each_row (keeps_all rules banks) before rest ≡ true
      → verdict_from rules banks row before rest ≡ No at one → Found before rest row at one
  found [] before row at one fine h = absurd (cc)
  found (r ∷ rest) before row at one fine h =
      by (broken_by rules banks all_rules before r rest) refl h (λ k l. found rest (r ∷ before) (row + 1) at one k l)
    where
      no_row : Verdict → ℕ
      no_row Yes = 0
      no_row (No at one) = at

      no_rule : Verdict → Rule → Rule
      no_rule Yes other = other
      no_rule (No at one) other = one

      by : (o : Option Rule) → broken_by rules banks all_rules before r rest ≡ o → or_later row o (verdict_from rules banks (row + 1) (r ∷ before) rest) ≡ No at one
          → (each_row (keeps_all rules banks) (r ∷ before) rest ≡ true → verdict_from rules banks (row + 1) (r ∷ before) rest ≡ No at one → Found (r ∷ before) rest (row + 1) at one)
          → Found before (r ∷ rest) row at one
      by (Some other) is h ih = record {
        below = [];
        broken = r;
        above = rest;
        split = refl;
        number = let k : row ≡ at = ap no_row h in omega (arith, k);
        fine = fine;
        first = is ∙ ap (λ v. Some (no_rule v other)) h;
      }
      by None is h ih =
          let f = ih (and_from (keeps_all rules banks before r rest) _ (unbroken all_rules before r rest is) fine) h in
          let same = sym (turned r f.below before) in
          record {
            below = r ∷ f.below;
            broken = f.broken;
            above = f.above;
            split = ap (λ rows. r ∷ rows) f.split;
            number = let k = f.number in omega (arith, k);
            fine = subst (λ rows. each_row (keeps_all rules banks) rows (f.broken ∷ f.above) ≡ true) same f.fine;
            first = subst (λ rows. broken_by rules banks all_rules rows f.broken f.above ≡ Some one) same f.first;
          }

pub verdict_law : VerdictLaw
verdict_law n rules banks rows = (
  record {
    ok = λ h. whole ∙ ok_forward rules banks rows [] 1 h;
    yes = λ h. yes_forward rules banks rows [] 1 (sym whole ∙ h);
  },
  λ row one h.
      let f = found rules banks rows [] 1 row one refl h in
      record {
        below = f.below;
        broken = f.broken;
        above = f.above;
        split = f.split;
        number = let k = f.number in omega (arith, k);
        kept = subst (λ before. each_row (keeps_all rules banks) before (f.broken ∷ f.above) ≡ true) (append-nil (reverse f.below)) f.fine;
        first = subst (λ before. broken_by rules banks all_rules before f.broken f.above ≡ Some one) (append-nil (reverse f.below)) f.first;
      },
)
  where
    whole : each_row (keeps_all rules banks) (reverse rows) [] ≡ forward (keeps_all rules banks) [] rows
    whole = ap (λ rs. each_row (keeps_all rules banks) rs []) (sym (append-nil (reverse rows))) ∙ all_rows (keeps_all rules banks) rows []
