-- A bank's table is that of its history.
use Rattle.std.proofs.Common.{◌≡◌, ℕ, Bool, true, false, List, [], ◌∷◌, ◌++◌, map, refl, sym, ap, ◌∙◌, cond}
use Rattle.std.{specs.Prelude.filter, proofs.lemmas.List.Elements.{All-head, All-tail}}
use Rattle.result_rows.specs.declared.Outcome.{Outcome}
use Rattle.result_rows.specs.declared.Outcome.TheVariants as out
use Rattle.row_rules.specs.{Table.{is_of, of_bank}, declared.Asks.Asks, declared.Asks.TheVariants.{Reads, Writes, Cuts}, declared.Row.Row}
use Rattle.bank_shape.specs.declared.BankShape.{BankShape}
use Rattle.bank_model.specs.{Events.{Write, Read, Cut}, Timing.{Happens, Core, TimedEvent}}
use Rattle.bank_laws.specs.Outcomes.{outcome_of, ended, row_with as row_of, rows_from}
use Rattle.module_laws.specs.{Asking.{Asked, row_with, asked_in, asked_of, AreAsked, IsAsked}, Serves.{last_outcome, AreRecorded, BankTableLaw}}
use Rattle.right_runs.specs.Tables.{row_in, bank_table}

module _ {n : ℕ} (bank_of line_in : ℕ → ℕ) (bank : ℕ) (outcome : ℕ → Outcome n) where
  -- the rows of a bank are those of what was asked of it
  pub rows_of_asked : (asked : List (Asked n)) → bank_table bank_of line_in bank (map (row_with outcome) asked) ≡ map (row_with outcome) (asked_of bank_of line_in bank asked)
  rows_of_asked [] = refl
  rows_of_asked (a ∷ asked) = by (is_of bank_of bank a.asks) (rows_of_asked asked)
    where
      rows : List (Row n)
      rows = of_bank bank_of bank (map (row_with outcome) asked)

      rest : List (Asked n)
      rest = filter (λ a. is_of bank_of bank a.asks) asked

      by : (own : Bool) → map (row_in bank_of line_in) rows ≡ map (row_with outcome) (map (asked_in bank_of line_in) rest)
          → map (row_in bank_of line_in) (cond own (row_with outcome a ∷ rows) rows) ≡ map (row_with outcome) (map (asked_in bank_of line_in) (cond own (a ∷ rest) rest))
      by true ih = ap (λ (rs : List (Row n)). row_with outcome (asked_in bank_of line_in a) ∷ rs) ih
      by false ih = ih

module _ {n m : ℕ} (shape : BankShape) (all : List (TimedEvent n m)) (outcome : ℕ → Outcome n) where
  abbrev IsRight : Asked n → Type 0
  IsRight a = outcome a.row ≡ last_outcome shape all a a.asks

  row_written : (tick row line : ℕ) (bytes : List ℕ) (given : List Bool) (a : Asked n)
      → a ≡ record { row = row; tick = tick; asks = Writes line bytes given } → outcome a.row ≡ last_outcome shape all a a.asks
      → row_with outcome a ≡ record { tick = tick; asks = Writes line bytes given; outcome = ended tick (outcome_of shape all row) }
  row_written tick row line bytes given a is rec =
      ap (row_with outcome) is
      ∙ ap (λ (o : Outcome n). record { tick = tick; asks = Writes line bytes given; outcome = o })
      (ap (λ (a : Asked n). outcome a.row) (sym is) ∙ rec ∙ ap (λ (a : Asked n). last_outcome shape all a a.asks) is)

  row_read : (tick row line : ℕ) (a : Asked n)
      → a ≡ record { row = row; tick = tick; asks = Reads line } → outcome a.row ≡ last_outcome shape all a a.asks
      → row_with outcome a ≡ record { tick = tick; asks = Reads line; outcome = outcome_of shape all row }
  row_read tick row line a is rec =
      ap (row_with outcome) is
      ∙ ap (λ (o : Outcome n). record { tick = tick; asks = Reads line; outcome = o })
      (ap (λ (a : Asked n). outcome a.row) (sym is) ∙ rec ∙ ap (λ (a : Asked n). last_outcome shape all a a.asks) is)

  row_cut : (tick : ℕ) (a : Asked n) → a.tick ≡ tick → a.asks ≡ Cuts → outcome a.row ≡ last_outcome shape all a a.asks
      → row_with outcome a ≡ record { tick = tick; asks = Cuts; outcome = out.Cut tick }
  row_cut tick a at is rec =
      ap (λ (o : Outcome n). record { tick = a.tick; asks = a.asks; outcome = o }) (rec ∙ ap (last_outcome shape all a) is)
      ∙ ap (λ (asks : Asks n). record { tick = a.tick; asks = asks; outcome = out.Cut a.tick }) is
      ∙ ap (λ (t : ℕ). record { tick = t; asks = Cuts; outcome = out.Cut t }) at

  pub rows_are : (xs : List (TimedEvent n m)) (asked : List (Asked n)) → AreAsked xs asked → AreRecorded shape all outcome asked
      → map (row_with outcome) asked ≡ rows_from shape all xs
  rows_are [] asked none rec = ap (map (row_with outcome)) none
  rows_are (x ∷ xs) asked is rec =
      by x.happens x.cancels asked is rec (λ rest are r. rows_are xs rest are r)
    where
      by : (h : Happens n) (cancels : Bool) (asked : List (Asked n)) → IsAsked h cancels x.tick (AreAsked xs) asked → AreRecorded shape all outcome asked
          → ((rest : List (Asked n)) → AreAsked xs rest → AreRecorded shape all outcome rest → map (row_with outcome) rest ≡ rows_from shape all xs)
          → map (row_with outcome) asked ≡ row_of shape all h x.tick cancels ++ rows_from shape all xs
      by (Core (Write row line bytes given answer)) cancels [] is rec ih = absurd is
      by (Core (Write row line bytes given answer)) cancels (a ∷ asked) is rec ih =
          ap (λ (r : Row n). r ∷ map (row_with outcome) asked) (row_written x.tick row line bytes given a is.0 (All-head IsRight a asked rec))
          ∙ ap (λ (rs : List (Row n)). record { tick = x.tick; asks = Writes line bytes given; outcome = ended x.tick (outcome_of shape all row) } ∷ rs) (ih asked is.1 (All-tail IsRight a asked rec))
      by (Core (Read row line answer)) cancels [] is rec ih = absurd is
      by (Core (Read row line answer)) cancels (a ∷ asked) is rec ih =
          ap (λ (r : Row n). r ∷ map (row_with outcome) asked) (row_read x.tick row line a is.0 (All-head IsRight a asked rec))
          ∙ ap (λ (rs : List (Row n)). record { tick = x.tick; asks = Reads line; outcome = outcome_of shape all row } ∷ rs) (ih asked is.1 (All-tail IsRight a asked rec))
      by (Core (Cut tearing)) false [] is rec ih = absurd is
      by (Core (Cut tearing)) false (a ∷ asked) is rec ih =
          ap (λ (r : Row n). r ∷ map (row_with outcome) asked) (row_cut x.tick a is.0 is.1 (All-head IsRight a asked rec))
          ∙ ap (λ (rs : List (Row n)). record { tick = x.tick; asks = Cuts; outcome = out.Cut x.tick } ∷ rs) (ih asked is.2 (All-tail IsRight a asked rec))
      by _ _ asked is rec ih = ih asked is rec

pub bank_table_law : BankTableLaw
bank_table_law n m shape bank_of line_in bank xs asked outcome are rec =
    rows_of_asked bank_of line_in bank outcome asked
    ∙ rows_are shape xs outcome xs (asked_of bank_of line_in bank asked) are rec
