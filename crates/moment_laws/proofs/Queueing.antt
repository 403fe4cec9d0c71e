-- A write that has no outcome yet stands in the queue.
use Rattle.std.proofs.Common.{◌≡◌, inl, inr, ℕ, ◌<◌, ◌==◌, Bool, true, false, List, [], ◌∷◌, ◌++◌, map, refl, sym, ap, ◌∙◌, subst, cond, append_assoc, eq-eqb}
use Rattle.std.{specs.Prelude.{All, IsTrue, filter}, proofs.lemmas.List.Elements.{All-head, All-tail, All-nil, All-cons}}
use Rattle.masked_bytes.specs.Entries.{has_row}
use Rattle.result_rows.specs.declared.Outcome.{Outcome}
use Rattle.result_rows.specs.declared.Outcome.TheVariants as out
use Rattle.row_rules.specs.{Lines.IsOfLines, Rows.{asks_write, line_of}, Table.is_of, declared.Asks.Asks, declared.Asks.TheVariants.{Reads, Writes, Cuts}}
use Rattle.bank_shape.specs.{declared.BankShape.BankShape, declared.answer.WriteAnswer.WriteAnswer, declared.pace.Pace.Pace}
use Rattle.bank_shape.specs.declared.answer.WriteAnswer.TheVariants as wrote
use Rattle.bank_model.specs.{Events.{Write, Read, Cut}, History.queue, Lawful.{Lawful, MayCome}, Timing.{Happens, Core, TimedEvent, core}}
use Rattle.bank_laws.{specs.Outcomes.{outcome_of, ended}, specs.Settling.AreOpen, proofs.Answering.merged-there, proofs.Ending.{Onwards, write_outcome}}
use Rattle.bank_laws.proofs.{Fates.{IsLeft, WriteFate, new-push, new-merged}, Serves.{may_at, onwards_at}}
use Rattle.module_laws.specs.Asking.{Asked, asked_in, asked_of, AreAsked, IsAsked}
use Rattle.pcm_module.specs.Replaying.{outcome_so_far}
use Rattle.read_moments.proofs.Rows.{IsRight}

module _ {n m : ℕ} (shape : BankShape) (pace : Pace) (e : ℕ) (all : List (TimedEvent n m)) (outcome : ℕ → Outcome n) where
  abbrev IsRecorded : Asked n → Type 0
  IsRecorded a = IsRight shape all outcome a

  -- a write without an outcome stands in the queue
  abbrev pub IsQueuedBy : Asked n → Type 0
  IsQueuedBy a = IsTrue (asks_write a.asks) → outcome a.row ≡ out.Unset → IsTrue (has_row (queue shape (core all)) a.row)

  no_write : (a : Asked n) (asks : Asks n) → a.asks ≡ asks → asks_write asks ≡ false → IsQueuedBy a
  no_write a asks is none asked unset = let off : asks_write a.asks ≡ false = ap asks_write is ∙ none in absurd (cc)

  by_fate : (row : ℕ) → WriteFate shape all row → outcome_of shape all row ≡ out.Unset → has_row (queue shape (core all)) row ≡ true
  by_fate row (inl there) unset = there
  by_fate row (inr left) unset = absurd (subst (λ (o : Outcome n). IsLeft o) unset left)

  by_answer : (ys : List (TimedEvent n m)) (x : TimedEvent n m) (row line : ℕ) (bytes : List ℕ) (given : List Bool) (answer : WriteAnswer)
      → AreOpen shape all → MayCome shape pace e ys x (Core (Write row line bytes given answer))
      → Onwards shape all ys x.tick (Core (Write row line bytes given answer))
      → outcome_of shape all row ≡ out.Unset → has_row (queue shape (core all)) row ≡ true
  by_answer ys x row line bytes given wrote.Accepted o may on unset =
      by_fate row (on.writes row (inl (new-push (queue shape (core ys)) (record { row = row; line = line; bytes = bytes; given = given })))) unset
  by_answer ys x row line bytes given (wrote.Merged old) o may on unset =
      by_fate row (on.writes row (inl (new-merged old row bytes given (queue shape (core ys)) (merged-there shape (core ys) line old may.may.2)))) unset
  by_answer ys x row line bytes given wrote.Full o may on unset =
      let is : ended x.tick (outcome_of shape all row) ≡ out.Full x.tick = write_outcome shape pace e all ys x row line bytes given wrote.Full o may on in
      let other : ended x.tick (outcome_of shape all row) ≡ out.Queued x.tick = ap (ended x.tick) unset in
      absurd (cc)
  by_answer ys x row line bytes given wrote.Exhausted o may on unset =
      let is : ended x.tick (outcome_of shape all row) ≡ out.Worn x.tick = write_outcome shape pace e all ys x row line bytes given wrote.Exhausted o may on in
      let other : ended x.tick (outcome_of shape all row) ≡ out.Queued x.tick = ap (ended x.tick) unset in
      absurd (cc)

  written : (ys : List (TimedEvent n m)) (x : TimedEvent n m) (row line : ℕ) (bytes : List ℕ) (given : List Bool) (answer : WriteAnswer) (a : Asked n)
      → AreOpen shape all → MayCome shape pace e ys x (Core (Write row line bytes given answer))
      → Onwards shape all ys x.tick (Core (Write row line bytes given answer))
      → a ≡ record { row = row; tick = x.tick; asks = Writes line bytes given } → IsRecorded a → IsQueuedBy a
  written ys x row line bytes given answer a o may on is rec asked unset =
      let same : outcome a.row ≡ outcome_of shape all row = rec ∙ ap (λ (a : Asked n). outcome_so_far shape all a a.asks) is in
      ap (has_row (queue shape (core all))) (ap (λ (a : Asked n). a.row) is)
      ∙ by_answer ys x row line bytes given answer o may on (sym same ∙ unset)

  -- so it is of each row that was asked of a bank
  pub queued-so-far : (later ys : List (TimedEvent n m)) (asked : List (Asked n)) → Lawful shape pace e all → AreOpen shape all → all ≡ later ++ ys
      → AreAsked ys asked → All IsRecorded asked → All IsQueuedBy asked
  queued-so-far later [] asked l o same none rec = subst (λ (rest : List (Asked n)). All IsQueuedBy rest) (sym none) (All-nil IsQueuedBy)
  queued-so-far later (x ∷ ys) asked l o same is rec =
      by x.happens x.cancels asked (may_at shape pace e all later x ys l same) (onwards_at shape pace e all later x ys l same) is rec
      (λ rest are r. queued-so-far (later ++ x ∷ []) ys rest l o (same ∙ sym (append_assoc later (x ∷ []) ys)) are r)
    where
      by : (h : Happens n) (cancels : Bool) (asked : List (Asked n)) → MayCome shape pace e ys x h → Onwards shape all ys x.tick h
          → IsAsked h cancels x.tick (AreAsked ys) asked → All IsRecorded asked
          → ((rest : List (Asked n)) → AreAsked ys rest → All IsRecorded rest → All IsQueuedBy rest) → All IsQueuedBy asked
      by (Core (Write row line bytes given answer)) cancels [] may on is rec ih = absurd is
      by (Core (Write row line bytes given answer)) cancels (a ∷ asked) may on is rec ih =
          All-cons IsQueuedBy a asked (written ys x row line bytes given answer a o may on is.0 (All-head IsRecorded a asked rec)) (ih asked is.1 (All-tail IsRecorded a asked rec))
      by (Core (Read row line answer)) cancels [] may on is rec ih = absurd is
      by (Core (Read row line answer)) cancels (a ∷ asked) may on is rec ih =
          All-cons IsQueuedBy a asked (no_write a (Reads line) (ap (λ (a : Asked n). a.asks) is.0) refl) (ih asked is.1 (All-tail IsRecorded a asked rec))
      by (Core (Cut tearing)) false [] may on is rec ih = absurd is
      by (Core (Cut tearing)) false (a ∷ asked) may on is rec ih =
          All-cons IsQueuedBy a asked (no_write a Cuts is.1 refl) (ih asked is.2 (All-tail IsRecorded a asked rec))
      by _ _ asked may on is rec ih = ih asked is rec

-- what holds of each row that was asked of each bank, in its bank's words, holds of each that was asked of the module
module _ {n : ℕ} (bank_of line_in : ℕ → ℕ) (banks lines : ℕ) (exists : (line : ℕ) → line < lines → bank_of line < banks) (P : ℕ → ℕ → Type 0) where
  abbrev pub ByBank : ℕ → Asked n → Type 0
  ByBank bank a = IsTrue (asks_write a.asks) → P bank a.row

  abbrev pub ByLine : Asked n → Type 0
  ByLine a = IsTrue (asks_write a.asks) → P (bank_of (line_of a.asks)) a.row

  abbrev IsOf : Asked n → Type 0
  IsOf a = IsOfLines lines a.asks

  later_rows : (bank : ℕ) (a : Asked n) (rest : List (Asked n)) (own : Bool)
      → All (ByBank bank) (map (asked_in bank_of line_in) (cond own (a ∷ rest) rest)) → All (ByBank bank) (map (asked_in bank_of line_in) rest)
  later_rows bank a rest true all = All-tail (ByBank bank) (asked_in bank_of line_in a) (map (asked_in bank_of line_in) rest) all
  later_rows bank a rest false all = all

  own_row : (row tick : ℕ) (asks : Asks n) (asked : List (Asked n)) → IsOfLines lines asks
      → ((bank : ℕ) → bank < banks → All (ByBank bank) (asked_of bank_of line_in bank (record { row = row; tick = tick; asks = asks } ∷ asked)))
      → ByLine (record { row = row; tick = tick; asks = asks })
  own_row row tick (Reads line) asked of all = λ asks. absurd (cc)
  own_row row tick Cuts asked of all = λ asks. absurd (cc)
  own_row row tick (Writes line bytes given) asked of all =
      by (bank_of line == bank_of line) (eq-eqb (bank_of line) (bank_of line) refl) (all (bank_of line) (exists line of))
    where
      a : Asked n
      a = record { row = row; tick = tick; asks = Writes line bytes given }

      rest : List (Asked n)
      rest = filter (λ b. is_of bank_of (bank_of line) b.asks) asked

      by : (own : Bool) → own ≡ true → All (ByBank (bank_of line)) (map (asked_in bank_of line_in) (cond own (a ∷ rest) rest)) → ByLine a
      by true is all = All-head (ByBank (bank_of line)) (asked_in bank_of line_in a) (map (asked_in bank_of line_in) rest) all
      by false is all = absurd (cc)

  pub by_lines : (asked : List (Asked n)) → All IsOf asked → ((bank : ℕ) → bank < banks → All (ByBank bank) (asked_of bank_of line_in bank asked)) → All ByLine asked
  by_lines [] of all = All-nil ByLine
  by_lines (a ∷ asked) of all =
      All-cons ByLine a asked (own_row a.row a.tick a.asks asked (All-head IsOf a asked of) all)
      (by_lines asked (All-tail IsOf a asked of)
      (λ bank lt. later_rows bank a (filter (λ b. is_of bank_of bank b.asks) asked) (is_of bank_of bank a.asks) (all bank lt)))
