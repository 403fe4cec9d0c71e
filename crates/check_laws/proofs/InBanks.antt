-- What each row of each bank's table keeps, the row of the module keeps in the table of its bank.
use Rattle.std.proofs.Common.{◌≡◌, ℕ, ◌<◌, ◌==◌, Bool, true, false, List, [], ◌∷◌, map, refl, sym, ap, ◌∙◌, subst, cond, eqb-true, eq-eqb}
use Rattle.std.{specs.List.list_all, specs.Prelude.All, proofs.lemmas.Bool.and_from, proofs.lemmas.List.Elements.{All-head, All-tail}}
use Rattle.masked_bytes.proofs.Truth.{and_first, and_second}
use Rattle.result_rows.specs.declared.Outcome.{Outcome}
use Rattle.row_rules.specs.{Lines.IsOfLines, Queueing.has_room, Rows.{RowTest, each_row}, Table.{is_of, of_bank}, declared.Asks.Asks}
use Rattle.row_rules.specs.{declared.Asks.TheVariants.{Reads, Writes, Cuts}, declared.Row.Row, declared.Rules.Rules}
use Rattle.check_verdict.specs.Verdicts.{bank_in, in_bank, all_have_room}
use Rattle.right_runs.specs.Tables.{row_in, bank_table, finds_room_in}
use Rattle.module_laws.{specs.Serves.AreLines, proofs.Serving.same_line}
use Rattle.check_laws.proofs.Renaming.{IsIn, AreIn, room-named}

-- a line of a bank
abbrev pub IsOfBank : ℕ → (ℕ → ℕ) → ℕ → ℕ → Type 0
IsOfBank lines bank_of bank line = (line < lines) × (bank_of line ≡ bank)

-- rows of so many lines
abbrev pub Exist : {n : ℕ} → ℕ → List (Row n) → Type 0
Exist lines [] = Unit {0}
Exist lines (q ∷ rows) = IsOfLines lines q.asks × Exist lines rows

pub exist-all : {n : ℕ} (lines : ℕ) (rows : List (Row n)) → All (λ r. IsOfLines lines r.asks) rows → Exist lines rows
exist-all lines [] all = tt
exist-all {n = n} lines (r ∷ rows) all =
    (All-head (λ (r : Row n). IsOfLines lines r.asks) r rows all, exist-all lines rows (All-tail (λ (r : Row n). IsOfLines lines r.asks) r rows all))

-- some of so many banks
abbrev pub AreBanks : ℕ → List ℕ → Type 0
AreBanks banks [] = Unit {0}
AreBanks banks (bank ∷ some) = (bank < banks) × AreBanks banks some

module _ (banks lines : ℕ) (bank_of line_in : ℕ → ℕ) (known : AreLines banks lines bank_of line_in) where
  -- no two lines of one bank have one number there
  pub apart : (bank at line : ℕ) → IsOfBank lines bank_of bank at → IsOfBank lines bank_of bank line → (line_in at == line_in line) ≡ (at == line)
  apart bank at line a l = same_line banks lines bank_of line_in known at line a.0 l.0 (a.1 ∙ sym l.1)

-- the lines of a module, each of which has a bank by the list of banks
module _ {n : ℕ} (banks lines : ℕ) (bank_of line_in : ℕ → ℕ) (known : AreLines banks lines bank_of line_in)
    (list : List ℕ) (listed : (line : ℕ) → line < lines → bank_in list line ≡ bank_of line) where
  abbrev AreInBank : ℕ → List (Row n) → Type 0
  AreInBank bank rows = AreIn (IsOfBank lines bank_of bank) rows

  -- the rows of a bank are of its lines
  of_bank-in : (bank : ℕ) (rows : List (Row n)) → Exist lines rows → AreInBank bank (of_bank bank_of bank rows)
  of_bank-in bank [] exist = tt
  of_bank-in bank (q ∷ rows) exist = by q.asks exist.0 (of_bank-in bank rows exist.1)
    where
      row : Asks n → Row n
      row asks = record { tick = q.tick; asks = asks; outcome = q.outcome }

      rest : List (Row n)
      rest = of_bank bank_of bank rows

      read : (line : ℕ) (own : Bool) → (bank_of line == bank) ≡ own → line < lines → AreInBank bank rest → AreInBank bank (cond own (row (Reads line) ∷ rest) rest)
      read line true is of ih = ((of, eqb-true (bank_of line) bank is), ih)
      read line false is of ih = ih

      written : (line : ℕ) (bytes : List ℕ) (given : List Bool) (own : Bool) → (bank_of line == bank) ≡ own → line < lines → AreInBank bank rest
          → AreInBank bank (cond own (row (Writes line bytes given) ∷ rest) rest)
      written line bytes given true is of ih = ((of, eqb-true (bank_of line) bank is), ih)
      written line bytes given false is of ih = ih

      by : (asks : Asks n) → IsOfLines lines asks → AreInBank bank rest → AreInBank bank (cond (is_of bank_of bank asks) (row asks ∷ rest) rest)
      by (Reads line) of ih = read line (bank_of line == bank) refl of ih
      by (Writes line bytes given) of ih = written line bytes given (bank_of line == bank) refl of ih
      by Cuts of ih = (tt, ih)

  -- by the list of banks they are the same
  own-same : (bank : ℕ) (asks : Asks n) → IsOfLines lines asks → is_of (bank_in list) bank asks ≡ is_of bank_of bank asks
  own-same bank (Reads line) of = ap (λ (own : ℕ). own == bank) (listed line of)
  own-same bank (Writes line bytes given) of = ap (λ (own : ℕ). own == bank) (listed line of)
  own-same bank Cuts of = refl

  of_bank-same : (bank : ℕ) (rows : List (Row n)) → Exist lines rows → of_bank (bank_in list) bank rows ≡ of_bank bank_of bank rows
  of_bank-same bank [] exist = refl
  of_bank-same bank (q ∷ rows) exist =
      ap (λ (own : Bool). cond own (q ∷ of_bank (bank_in list) bank rows) (of_bank (bank_in list) bank rows)) (own-same bank q.asks exist.0)
      ∙ ap (λ (rest : List (Row n)). cond (is_of bank_of bank q.asks) (q ∷ rest) rest) (of_bank-same bank rows exist.1)

  -- ---- room

  module _ (rules : Rules) where
    room_here : (before : List (Row n)) (r : Row n) (after : List (Row n)) → Exist lines before → (bank : ℕ)
        → finds_room_in bank_of line_in rules bank before r after ≡ true → has_room rules r.tick (of_bank (bank_in list) bank before) ≡ true
    room_here before r after exist bank h =
        ap (has_room rules r.tick) (of_bank-same bank before exist)
        ∙ sym (room-named bank_of line_in (IsOfBank lines bank_of bank) (apart banks lines bank_of line_in known bank) rules r.tick (of_bank bank_of bank before) (of_bank-in bank before exist)) ∙ h

    rooms_here : (before : List (Row n)) (r : Row n) (after : List (Row n)) → Exist lines before
        → ((bank : ℕ) → bank < banks → finds_room_in bank_of line_in rules bank before r after ≡ true) → (some : List ℕ) → AreBanks banks some
        → list_all (λ bank. has_room rules r.tick (of_bank (bank_in list) bank before)) some ≡ true
    rooms_here before r after exist h [] are = refl
    rooms_here before r after exist h (bank ∷ some) are =
        and_from _ _ (room_here before r after exist bank (h bank are.0)) (rooms_here before r after exist h some are.1)

    -- each row finds room in all banks, where it does in each
    pub all_rooms : AreBanks banks list → (rows after : List (Row n)) → Exist lines rows
        → ((bank : ℕ) → bank < banks → each_row (finds_room_in bank_of line_in rules bank) rows after ≡ true) → each_row (all_have_room list rules) rows after ≡ true
    all_rooms are [] after exist h = refl
    all_rooms are (r ∷ before) after exist h =
        and_from _ _ (rooms_here before r after exist.1 (λ bank few. and_first _ _ (h bank few)) list are)
        (all_rooms are before (r ∷ after) exist.1 (λ bank few. and_second (finds_room_in bank_of line_in rules bank before r after) _ (h bank few)))

  -- ---- tests of a bank's table

  -- a test that doesn't go by the numbers of lines, and asks nothing of a cut among no rows
  pub record IsOfTables (test : RowTest n) : Type 0 where
    pub named : (bank : ℕ) (before : List (Row n)) (r : Row n) (after : List (Row n)) → AreInBank bank before → IsIn (IsOfBank lines bank_of bank) r.asks → AreInBank bank after
        → test (map (row_in bank_of line_in) before) (row_in bank_of line_in r) (map (row_in bank_of line_in) after) ≡ test before r after
    pub cut : (tick : ℕ) (o : Outcome n) → test [] (record { tick = tick; asks = Cuts; outcome = o }) [] ≡ true

  module _ (test : RowTest n) (is : IsOfTables test) where
    abbrev table : ℕ → List (Row n) → List (Row n)
    table bank rows = bank_table bank_of line_in bank rows

    -- a row of a bank passes in its bank's table
    in_table : (bank : ℕ) (r : Row n) (before after : List (Row n)) → is_of bank_of bank r.asks ≡ true → each_row test (table bank (r ∷ before)) (table bank after) ≡ true
        → test (table bank before) (row_in bank_of line_in r) (table bank after) ≡ true
    in_table bank r before after own h =
        and_first _ _
        (subst (λ (b : Bool). each_row test (map (row_in bank_of line_in) (cond b (r ∷ of_bank bank_of bank before) (of_bank bank_of bank before))) (table bank after) ≡ true) own h)

    -- so does each older one
    rest_in_table : (bank : ℕ) (r : Row n) (before after : List (Row n)) (own : Bool) → is_of bank_of bank r.asks ≡ own
        → each_row test (map (row_in bank_of line_in) (cond own (r ∷ of_bank bank_of bank before) (of_bank bank_of bank before))) (table bank after) ≡ true
        → each_row test (table bank before) (map (row_in bank_of line_in) (cond own (r ∷ of_bank bank_of bank after) (of_bank bank_of bank after))) ≡ true
    rest_in_table bank r before after true own h = and_second (test (table bank before) (row_in bank_of line_in r) (table bank after)) _ h
    rest_in_table bank r before after false own h = h

    -- by the module's numbers of lines and the list of banks
    own_row : (line : ℕ) → line < lines → (r : Row n) (before after : List (Row n)) → IsIn (IsOfBank lines bank_of (bank_of line)) r.asks → Exist lines before → Exist lines after
        → test (table (bank_of line) before) (row_in bank_of line_in r) (table (bank_of line) after) ≡ true
        → test (of_bank (bank_in list) (bank_in list line) before) r (of_bank (bank_in list) (bank_in list line) after) ≡ true
    own_row line of r before after mine earlier later h =
        ap (λ (bank : ℕ). test (of_bank (bank_in list) bank before) r (of_bank (bank_in list) bank after)) (listed line of)
        ∙ ap (λ (rows : List (Row n)). test rows r (of_bank (bank_in list) (bank_of line) after)) (of_bank-same (bank_of line) before earlier)
        ∙ ap (λ (rows : List (Row n)). test (of_bank bank_of (bank_of line) before) r rows) (of_bank-same (bank_of line) after later)
        ∙ sym (is.named (bank_of line) (of_bank bank_of (bank_of line) before) r (of_bank bank_of (bank_of line) after)
        (of_bank-in (bank_of line) before earlier) mine (of_bank-in (bank_of line) after later))
        ∙ h

    row_here : (r : Row n) (before after : List (Row n)) → IsOfLines lines r.asks → Exist lines before → Exist lines after
        → ((bank : ℕ) → bank < banks → each_row test (table bank (r ∷ before)) (table bank after) ≡ true) → in_bank list test before r after ≡ true
    row_here r before after of earlier later h = by r.asks of h
      where
        row : Asks n → Row n
        row asks = record { tick = r.tick; asks = asks; outcome = r.outcome }

        by : (asks : Asks n) → IsOfLines lines asks
            → ((bank : ℕ) → bank < banks → each_row test (table bank (row asks ∷ before)) (table bank after) ≡ true) → in_bank list test before (row asks) after ≡ true
        by (Reads line) of h =
            own_row line of (row (Reads line)) before after (of, refl) earlier later
            (in_table (bank_of line) (row (Reads line)) before after (eq-eqb (bank_of line) (bank_of line) refl) (h (bank_of line) (known.exists line of)))
        by (Writes line bytes given) of h =
            own_row line of (row (Writes line bytes given)) before after (of, refl) earlier later
            (in_table (bank_of line) (row (Writes line bytes given)) before after (eq-eqb (bank_of line) (bank_of line) refl) (h (bank_of line) (known.exists line of)))
        by Cuts of h = is.cut r.tick r.outcome

    pub in_tables : (rows after : List (Row n)) → Exist lines rows → Exist lines after
        → ((bank : ℕ) → bank < banks → each_row test (table bank rows) (table bank after) ≡ true) → each_row (in_bank list test) rows after ≡ true
    in_tables [] after exist later h = refl
    in_tables (r ∷ before) after exist later h =
        and_from _ _ (row_here r before after exist.0 exist.1 later h)
        (in_tables before (r ∷ after) exist.1 (exist.0, later) (λ bank few. rest_in_table bank r before after (is_of bank_of bank r.asks) refl (h bank few)))
