-- A law of rows, proved event by event.
use Rattle.std.proofs.Common.{◌≡◌, ℕ, Bool, true, false, List, [], ◌∷◌, ◌++◌, refl, sym, ap, ◌∙◌, subst, append_assoc}
use Rattle.std.proofs.{lemmas.Bool.and_from, lemmas.List.append-nil}
use Rattle.row_rules.specs.{Rows.{RowTest, each_row}, declared.Row.Row}
use Rattle.bank_shape.specs.declared.BankShape.{BankShape}
use Rattle.bank_model.specs.{Events.{Write, Read, Cut}, Timing.{Happens, Core, TimedEvent}}
use Rattle.bank_laws.specs.Outcomes.{row_with, rows_from}

-- the row of an event, if it has one, passes a test
abbrev pub Passes : {n : ℕ} → RowTest n → List (Row n) → List (Row n) → List (Row n) → Type 0
Passes test before [] after = Unit {0}
Passes test before (r ∷ rows) after = test before r after ≡ true

module _ {n m : ℕ} (shape : BankShape) (all : List (TimedEvent n m)) where
  -- the rows of later events, the oldest first
  abbrev pub rows_after : List (TimedEvent n m) → List (Row n)
  rows_after [] = []
  rows_after (x ∷ later) = rows_after later ++ row_with shape all x.happens x.tick x.cancels

  pub rows_after-more : (later : List (TimedEvent n m)) (x : TimedEvent n m) → rows_after (later ++ x ∷ []) ≡ row_with shape all x.happens x.tick x.cancels ++ rows_after later
  rows_after-more [] x = sym (append-nil (row_with shape all x.happens x.tick x.cancels))
  rows_after-more (y ∷ later) x =
      ap (λ rows. rows ++ row_with shape all y.happens y.tick y.cancels) (rows_after-more later x)
      ∙ append_assoc (row_with shape all x.happens x.tick x.cancels) (rows_after later) (row_with shape all y.happens y.tick y.cancels)

  one_row : (test : RowTest n) (h : Happens n) (tick : ℕ) (cancels : Bool) (before after : List (Row n)) → Passes test before (row_with shape all h tick cancels) after
      → each_row test before (row_with shape all h tick cancels ++ after) ≡ true → each_row test (row_with shape all h tick cancels ++ before) after ≡ true
  one_row test (Core (Write row line bytes given answer)) tick cancels before after p rest = and_from _ _ p rest
  one_row test (Core (Read row line answer)) tick cancels before after p rest = and_from _ _ p rest
  one_row test (Core (Cut tearing)) tick false before after p rest = and_from _ _ p rest
  one_row test _ tick _ before after p rest = rest

  -- where the row of each event passes between those before it and those after it, every row passes
  pub walk : (test : RowTest n) (later xs : List (TimedEvent n m)) → all ≡ later ++ xs
      → ((later : List (TimedEvent n m)) (x : TimedEvent n m) (ys : List (TimedEvent n m)) → all ≡ later ++ x ∷ ys
      → Passes test (rows_from shape all ys) (row_with shape all x.happens x.tick x.cancels) (rows_after later))
      → each_row test (rows_from shape all xs) (rows_after later) ≡ true
  walk test later [] same pass = refl
  walk test later (x ∷ xs) same pass =
      one_row test x.happens x.tick x.cancels (rows_from shape all xs) (rows_after later) (pass later x xs same)
      (subst (λ (rows : List (Row n)). each_row test (rows_from shape all xs) rows ≡ true) (rows_after-more later x)
      (walk test (later ++ x ∷ []) xs (same ∙ sym (append_assoc later (x ∷ []) xs)) pass))
