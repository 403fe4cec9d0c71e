-- Which rows arrive in which bank: a row is of one bank, since the numbers of rows fall.
use Rattle.std.proofs.Common.{◌≡◌, ◌≢◌, ℕ, ◌<◌, ◌==◌, ◌||◌, ◌&&◌, Bool, true, false, cond, List, [], ◌∷◌, map, refl, sym, ap, subst, ◌∙◌, eqb-true, arith}
use Rattle.std.{specs.Prelude.{filter, All}, proofs.lemmas.Bool.{ne_eqb, and_right, or_from}}
use Rattle.std.proofs.lemmas.List.Elements.{All-head, All-tail, All-nil, All-cons, All-map, All-filter}
use Rattle.masked_bytes.proofs.Truth.{neither_first, neither_second}
use Rattle.row_rules.specs.{Table.is_of, declared.Asks.Asks, declared.Asks.TheVariants.{Reads, Writes, Cuts}}
use Rattle.bank_model.specs.{Events.{Write, Read, Serve, Begin, Iterate, Cut}, Timing.{Happens, Core, Regs, TimedEvent}}
use Rattle.module_laws.specs.Asking.{Asked, asked_in, asked_of, AreAsked, IsAsked}
use Rattle.clock_laws.specs.Standing.{is_arrival_of, arrives_with}
use Rattle.pcm_module.specs.Replaying.{RowsFall}

-- whether a row with this operation has a number in a bank's history: a cut has none there
abbrev pub is_numbered : {n : ℕ} → Asks n → Bool
is_numbered (Reads line) = true
is_numbered (Writes line bytes given) = true
is_numbered Cuts = false

-- whether one of these rows has this number in a bank's history
abbrev pub names : {n : ℕ} → List (Asked n) → ℕ → Bool
names [] row = false
names (a ∷ own) row = (is_numbered a.asks && a.row == row) || names own row

-- two facts of each element together give a third
pub All-both : {X : Type 0} (P Q R : X → Type 0) → ((x : X) → P x → Q x → R x) → (xs : List X) → All P xs → All Q xs → All R xs
All-both P Q R both [] p q = All-nil R
All-both P Q R both (x ∷ xs) p q =
    All-cons R x xs (both x (All-head P x xs p) (All-head Q x xs q)) (All-both P Q R both xs (All-tail P x xs p) (All-tail Q x xs q))

module _ {n m : ℕ} (row : ℕ) where
  -- a row that isn't among those that were asked for didn't arrive
  pub not_named : (xs : List (TimedEvent n m)) (own : List (Asked n)) → AreAsked xs own → names own row ≡ false → arrives_with xs row ≡ false
  not_named [] own is off = refl
  not_named (x ∷ xs) own is off = by x.happens x.cancels own is off (λ rest are none. not_named xs rest are none)
    where
      by : (h : Happens n) (cancels : Bool) (own : List (Asked n)) → IsAsked h cancels x.tick (AreAsked xs) own → names own row ≡ false
          → ((rest : List (Asked n)) → AreAsked xs rest → names rest row ≡ false → arrives_with xs row ≡ false)
          → (is_arrival_of h row || arrives_with xs row) ≡ false
      by (Core (Write at line bytes given answer)) cancels [] is off rec = absurd is
      by (Core (Write at line bytes given answer)) cancels (a ∷ own) is off rec =
          or_from (at == row) _
          (sym (ap (λ (a : Asked n). is_numbered a.asks && a.row == row) is.0) ∙ neither_first (is_numbered a.asks && a.row == row) _ off)
          (rec own is.1 (neither_second (is_numbered a.asks && a.row == row) _ off))
      by (Core (Read at line answer)) cancels [] is off rec = absurd is
      by (Core (Read at line answer)) cancels (a ∷ own) is off rec =
          or_from (at == row) _
          (sym (ap (λ (a : Asked n). is_numbered a.asks && a.row == row) is.0) ∙ neither_first (is_numbered a.asks && a.row == row) _ off)
          (rec own is.1 (neither_second (is_numbered a.asks && a.row == row) _ off))
      by (Core (Serve answer)) cancels own is off rec = rec own is off
      by (Core (Begin answer)) cancels own is off rec = rec own is off
      by (Core (Iterate answer)) cancels own is off rec = rec own is off
      by (Core (Cut tearing)) true own is off rec = rec own is off
      by (Core (Cut tearing)) false [] is off rec = absurd is
      by (Core (Cut tearing)) false (a ∷ own) is off rec = rec own is.2 (neither_second (is_numbered a.asks && a.row == row) _ off)
      by (Regs event) cancels own is off rec = rec own is off

module _ {n : ℕ} where
  -- what holds of the rows that were asked for holds of one that arrived
  pub of_named : (P : ℕ → Type 0) (own : List (Asked n)) (row : ℕ) → All (λ a. P a.row) own → names own row ≡ true → P row
  of_named P [] row all there = cc
  of_named P (a ∷ own) row all there =
      by (is_numbered a.asks) (a.row == row) (eqb-true a.row row) there (of_named P own row (All-tail (λ (a : Asked n). P a.row) a own all))
    where
      by : (numbered same : Bool) → (same ≡ true → a.row ≡ row) → ((numbered && same) || names own row) ≡ true → (names own row ≡ true → P row) → P row
      by true true is there rest = subst P (is refl) (All-head (λ (a : Asked n). P a.row) a own all)
      by true false is there rest = rest there
      by false true is there rest = rest there
      by false false is there rest = rest there

  module _ (home number : ℕ → ℕ) where
    -- what holds of all rows holds of those of a bank
    pub rows_of_bank_all : (P : ℕ → Type 0) (bank : ℕ) (asked : List (Asked n)) → All (λ a. P a.row) asked → All (λ a. P a.row) (asked_of home number bank asked)
    rows_of_bank_all P bank asked all =
        All-map (λ (a : Asked n). P a.row) (asked_in home number) (filter (λ a. is_of home bank a.asks) asked)
        (All-filter (λ a. is_of home bank a.asks) (λ (a : Asked n). P a.row) asked all)

    -- a row above all these isn't one of them
    pub above_all : (bank : ℕ) (asked : List (Asked n)) (row : ℕ) → All (λ a. a.row < row) asked → names (asked_of home number bank asked) row ≡ false
    above_all bank asked row all = by (asked_of home number bank asked) (rows_of_bank_all (λ r. r < row) bank asked all)
      where
        by : (own : List (Asked n)) → All (λ a. a.row < row) own → names own row ≡ false
        by [] all = refl
        by (a ∷ own) all =
            let lower : a.row < row = All-head (λ (a : Asked n). a.row < row) a own all in
            or_from (is_numbered a.asks && a.row == row) _
            (and_right (is_numbered a.asks) (a.row == row) (ne_eqb a.row row (λ e. absurd (omega arith))))
            (by own (All-tail (λ (a : Asked n). a.row < row) a own all))

    -- the head of what was asked gives a bank another row, or none
    pub head_names : (bank row : ℕ) (a : Asked n) (asked : List (Asked n)) → (a.row == row) ≡ false
        → names (asked_of home number bank asked) row ≡ false → names (asked_of home number bank (a ∷ asked)) row ≡ false
    head_names bank row a asked off rest = by (is_of home bank a.asks)
      where
        by : (own : Bool) → names (map (asked_in home number) (cond own (a ∷ filter (λ a. is_of home bank a.asks) asked) (filter (λ a. is_of home bank a.asks) asked))) row ≡ false
        by true = or_from (is_numbered (asked_in home number a).asks && a.row == row) _ (and_right (is_numbered (asked_in home number a).asks) (a.row == row) off) rest
        by false = rest

    -- the head of what was asked is of no two banks, unless it is a cut, which has no number
    head_elsewhere : (bank other : ℕ) → bank ≢ other → (a : Asked n) (asked : List (Asked n)) → is_of home other a.asks ≡ true
        → names (asked_of home number bank asked) a.row ≡ false → names (asked_of home number bank (a ∷ asked)) a.row ≡ false
    head_elsewhere bank other apart a asked own rest = by a.asks own
      where
        cases : (row tick line : ℕ) (asks : Asks n) → (home line == bank) ≡ false
            → names (map (asked_in home number) (cond (home line == bank) (record { row = row; tick = tick; asks = asks } ∷ filter (λ a. is_of home bank a.asks) asked) (filter (λ a. is_of home bank a.asks) asked))) a.row ≡ false
        cases row tick line asks off =
            ap (λ b. names (map (asked_in home number) (cond b (record { row = row; tick = tick; asks = asks } ∷ filter (λ a. is_of home bank a.asks) asked) (filter (λ a. is_of home bank a.asks) asked))) a.row) off ∙ rest

        by : (asks : Asks n) → is_of home other asks ≡ true → names (asked_of home number bank (record { row = a.row; tick = a.tick; asks = asks } ∷ asked)) a.row ≡ false
        by (Reads line) own = cases a.row a.tick line (Reads line) (ne_eqb (home line) bank (λ e. apart (sym e ∙ eqb-true (home line) other own)))
        by (Writes line bytes given) own = cases a.row a.tick line (Writes line bytes given) (ne_eqb (home line) bank (λ e. apart (sym e ∙ eqb-true (home line) other own)))
        by Cuts own = rest

    -- no row of one bank arrives in another
    pub apart_rows : (bank other : ℕ) → bank ≢ other → (asked : List (Asked n)) → RowsFall asked
        → All (λ a. names (asked_of home number bank asked) a.row ≡ false) (asked_of home number other asked)
    apart_rows bank other apart [] falls = All-nil (λ (a : Asked n). names {n = n} [] a.row ≡ false)
    apart_rows bank other apart (a ∷ asked) falls = by (apart_rows bank other apart asked falls.1) (is_of home other a.asks) refl
      where
        P : Asked n → Type 0
        P c = names (asked_of home number bank (a ∷ asked)) c.row ≡ false

        tail : All (λ c. names (asked_of home number bank asked) c.row ≡ false) (asked_of home number other asked) → All P (asked_of home number other asked)
        tail rest =
            All-both (λ (c : Asked n). names (asked_of home number bank asked) c.row ≡ false) (λ (c : Asked n). c.row < a.row) P
            (λ c rest lower. head_names bank c.row a asked (ne_eqb a.row c.row (λ e. absurd (omega arith))) rest)
            (asked_of home number other asked)
            rest
            (rows_of_bank_all (λ r. r < a.row) other asked falls.0)

        by : All (λ c. names (asked_of home number bank asked) c.row ≡ false) (asked_of home number other asked) → (own : Bool) → is_of home other a.asks ≡ own
            → All P (map (asked_in home number) (cond own (a ∷ filter (λ a. is_of home other a.asks) asked) (filter (λ a. is_of home other a.asks) asked)))
        by rest true is =
            All-cons P (asked_in home number a) (asked_of home number other asked)
            (head_elsewhere bank other apart a asked is (above_all bank asked a.row falls.0)) (tail rest)
        by rest false is = tail rest
