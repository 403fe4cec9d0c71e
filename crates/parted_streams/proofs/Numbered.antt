-- The rows of a trace as they are numbered in a part.
use Rattle.std.proofs.Common.{◌≡◌, ℕ, ◌+◌, ◌≤◌, Bool, true, false, List, [], ◌∷◌, length, map, refl, sym, ap, ◌∙◌, cond}
use Rattle.std.proofs.Common.{eqb-true, eq-eqb}
use Rattle.std.{specs.Prelude.{All, filter}, proofs.lemmas.List.Elements.{All-head, All-tail, All-nil, All-cons}}
use Rattle.trace_reader.specs.{declared.event.Event.Event, declared.event.EventOp.EventOp, declared.event.EventOp.TheVariants.{Read, Write, Mask, Cut}}
use Rattle.result_rows.specs.declared.Outcome.{Outcome}
use Rattle.result_rows.specs.declared.Outcome.TheVariants as out
use Rattle.row_rules.specs.{Lines.IsOfLines, Table.{is_of, of_bank}, declared.Row.Row}
use Rattle.trace_rows.specs.Rows.{asks_of, row_of}
use Rattle.bank_shape.specs.declared.BankShape.{BankShape}
use Rattle.bank_model.specs.Timing.{TimedEvent}
use Rattle.right_runs.specs.Tables.{asks_in, bank_table, row_in}
use Rattle.module_laws.specs.{Asking.{Asked, asked_in, asked_of, row_with}, Serves.{AreRecorded, last_outcome}}
use Rattle.pcm_module.specs.Asking.{asked_by, asked_for}
use Rattle.parted_laws.specs.Parted.{AreRowsOf, RowTicksFall}
use Rattle.parted_streams.specs.Streamed.{EventTicksFall, Streamed, events_of, is_for, outcome_for, outcome_told, rows_joined}

module _ {n : ℕ} (home part_of : ℕ → ℕ) where
  -- each row with the number that it has in a part, or that the part's next row has, where it is none of the part's
  abbrev pub numbered : ℕ → List (Event n) → List (Asked n)
  numbered part [] = []
  numbered part (event ∷ below) = asked_by (length (events_of home part_of part below) + 1) event ∷ numbered part below

  -- what is one of a bank's is one of its part's
  own_part : (bank : ℕ) (op : EventOp n) → is_of home bank (asks_of op) ≡ true → is_for home part_of (part_of bank) op ≡ true
  own_part bank (Read line) is = eq-eqb (part_of (home line)) (part_of bank) (ap part_of (eqb-true (home line) bank is))
  own_part bank (Write line bytes) is = eq-eqb (part_of (home line)) (part_of bank) (ap part_of (eqb-true (home line) bank is))
  own_part bank (Mask line bytes given) is = eq-eqb (part_of (home line)) (part_of bank) (ap part_of (eqb-true (home line) bank is))
  own_part bank Cut is = refl

  -- what comes to a bank is what comes to it in its part
  pub came_there : (number : ℕ → ℕ) (bank : ℕ) (events : List (Event n))
      → asked_of home number bank (numbered (part_of bank) events) ≡ asked_of home number bank (asked_for (events_of home part_of (part_of bank) events))
  came_there number bank [] = refl
  came_there number bank (event ∷ below) =
      by (is_for home part_of (part_of bank) event.op) (own_part bank event.op) (came_there number bank below)
    where
      rest : List (Event n)
      rest = events_of home part_of (part_of bank) below

      a : Asked n
      a = asked_by (length rest + 1) event

      whole : List (Asked n)
      whole = filter (λ a. is_of home bank a.asks) (numbered (part_of bank) below)

      own : List (Asked n)
      own = filter (λ a. is_of home bank a.asks) (asked_for rest)

      with_it : (is : Bool) → map (asked_in home number) whole ≡ map (asked_in home number) own
          → map (asked_in home number) (cond is (a ∷ whole) whole) ≡ map (asked_in home number) (cond is (a ∷ own) own)
      with_it true same = ap (λ (rest : List (Asked n)). asked_in home number a ∷ rest) same
      with_it false same = same

      without_it : (is : Bool) → (is ≡ true → false ≡ true) → map (asked_in home number) whole ≡ map (asked_in home number) own
          → map (asked_in home number) (cond is (a ∷ whole) whole) ≡ map (asked_in home number) own
      without_it true none same = let no : false ≡ true = none refl in absurd (cc)
      without_it false none same = same

      by : (mine : Bool) → (is_of home bank (asks_of event.op) ≡ true → mine ≡ true) → map (asked_in home number) whole ≡ map (asked_in home number) own
          → asked_of home number bank (a ∷ numbered (part_of bank) below) ≡ asked_of home number bank (asked_for (cond mine (event ∷ rest) rest))
      by true mine same = with_it (is_of home bank (asks_of event.op)) same
      by false mine same = without_it (is_of home bank (asks_of event.op)) mine same

module _ {n m e : ℕ} (home part_of : ℕ → ℕ) (streams : ℕ → Streamed n m e) where
  -- the rows of the whole trace are these, whichever numbers they have
  pub rows_of_events : (part : ℕ) (events : List (Event n)) → AreRowsOf (numbered home part_of part events) (rows_joined home part_of streams events)
  rows_of_events part [] = tt
  rows_of_events part (event ∷ below) = (refl, refl, rows_of_events part below)

  pub rows_exist : (lines : ℕ) (events : List (Event n)) → All (λ event. IsOfLines lines (asks_of event.op)) events
      → All (λ r. IsOfLines lines r.asks) (rows_joined home part_of streams events)
  rows_exist lines [] all = All-nil (λ (r : Row n). IsOfLines lines r.asks)
  rows_exist lines (event ∷ below) all =
      All-cons (λ (r : Row n). IsOfLines lines r.asks) (row_of event (outcome_for home part_of streams below event.tick event.op))
      (rows_joined home part_of streams below)
      (All-head (λ (event : Event n). IsOfLines lines (asks_of event.op)) event below all)
      (rows_exist lines below (All-tail (λ (event : Event n). IsOfLines lines (asks_of event.op)) event below all))

  rows_below : (tick : ℕ) (events : List (Event n)) → All (λ other. other.tick ≤ tick) events
      → All (λ q. q.tick ≤ tick) (rows_joined home part_of streams events)
  rows_below tick [] all = All-nil (λ (q : Row n). q.tick ≤ tick)
  rows_below tick (event ∷ below) all =
      All-cons (λ (q : Row n). q.tick ≤ tick) (row_of event (outcome_for home part_of streams below event.tick event.op))
      (rows_joined home part_of streams below)
      (All-head (λ (other : Event n). other.tick ≤ tick) event below all)
      (rows_below tick below (All-tail (λ (other : Event n). other.tick ≤ tick) event below all))

  pub rows_fall : (events : List (Event n)) → EventTicksFall events → RowTicksFall (rows_joined home part_of streams events)
  rows_fall [] falls = tt
  rows_fall (event ∷ below) falls = (rows_below event.tick below falls.0, rows_fall below falls.1)

  module _ (number : ℕ → ℕ) (bank : ℕ) (shape : BankShape) (xs : List (TimedEvent n m)) where
    abbrev told : ℕ → Outcome n
    told = outcome_told (streams (part_of bank))

    -- a row of a line of the bank has the outcome that its part told
    of_line : (below : List (Event n)) (line : ℕ) → home line ≡ bank
        → outcome_told (streams (part_of (home line))) (length (events_of home part_of (part_of (home line)) below) + 1)
        ≡ told (length (events_of home part_of (part_of bank) below) + 1)
    of_line below line is =
        ap (λ (at : ℕ). outcome_told (streams (part_of at)) (length (events_of home part_of (part_of at) below) + 1)) is

    -- so has a power cut, of which each part tells that it is cut at its tick
    same_outcome : (below : List (Event n)) (tick : ℕ) (op : EventOp n) (a : Asked n) → is_of home bank (asks_of op) ≡ true → a.tick ≡ tick
        → told (length (events_of home part_of (part_of bank) below) + 1) ≡ last_outcome shape xs a (asks_in home number (asks_of op))
        → outcome_for home part_of streams below tick op ≡ told (length (events_of home part_of (part_of bank) below) + 1)
    same_outcome below tick (Read line) a is at rec = of_line below line (eqb-true (home line) bank is)
    same_outcome below tick (Write line bytes) a is at rec = of_line below line (eqb-true (home line) bank is)
    same_outcome below tick (Mask line bytes given) a is at rec = of_line below line (eqb-true (home line) bank is)
    same_outcome below tick Cut a is at rec = sym (rec ∙ ap (λ (t : ℕ). out.Cut t) at)

    -- the bank's table is that of its part
    pub tables_same : (events : List (Event n)) → AreRecorded shape xs told (asked_of home number bank (numbered home part_of (part_of bank) events))
        → bank_table home number bank (rows_joined home part_of streams events)
        ≡ bank_table home number bank (map (row_with told) (numbered home part_of (part_of bank) events))
    tables_same [] rec = refl
    tables_same (event ∷ below) rec = by (is_of home bank (asks_of event.op)) refl rec (λ r. tables_same below r)
      where
        a : Asked n
        a = asked_by (length (events_of home part_of (part_of bank) below) + 1) event

        row : Row n
        row = row_of event (outcome_for home part_of streams below event.tick event.op)

        rest : List (Asked n)
        rest = filter (λ a. is_of home bank a.asks) (numbered home part_of (part_of bank) below)

        table : List (Row n)
        table = of_bank home bank (rows_joined home part_of streams below)

        other : List (Row n)
        other = of_bank home bank (map (row_with told) (numbered home part_of (part_of bank) below))

        by : (own : Bool) → is_of home bank (asks_of event.op) ≡ own → AreRecorded shape xs told (map (asked_in home number) (cond own (a ∷ rest) rest))
            → (AreRecorded shape xs told (map (asked_in home number) rest) → map (row_in home number) table ≡ map (row_in home number) other)
            → map (row_in home number) (cond own (row ∷ table) table) ≡ map (row_in home number) (cond own (row_with told a ∷ other) other)
        by true is rec same =
            ap (λ (o : Outcome n). row_in home number (row_of event o) ∷ map (row_in home number) table)
            (same_outcome below event.tick event.op (asked_in home number a) is refl
            (All-head (λ (b : Asked n). told b.row ≡ last_outcome shape xs b b.asks) (asked_in home number a) (map (asked_in home number) rest) rec))
            ∙ ap (λ (rs : List (Row n)). row_in home number (row_with told a) ∷ rs)
            (same (All-tail (λ (b : Asked n). told b.row ≡ last_outcome shape xs b b.asks) (asked_in home number a) (map (asked_in home number) rest) rec))
        by false is rec same = same rec
