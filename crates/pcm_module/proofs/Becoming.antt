-- What has become of a bank's rows: a write has arrived, and a read stands in no queue.
use Rattle.std.proofs.Common.{◌≡◌, ◌≢◌, ℕ, ◌<◌, ◌==◌, ◌||◌, ◌&&◌, Bool, true, false, cond, if◌then◌else◌, List, [], ◌∷◌, map, refl, sym, ap, subst, ◌∙◌, eq-eqb, arith}
use Rattle.std.{specs.Prelude.{filter, All}, proofs.lemmas.Bool.{ne_eqb, and_right, or_from, or_right}}
use Rattle.std.proofs.lemmas.List.Elements.{All-head, All-tail, All-nil, All-cons, All-weaker}
use Rattle.masked_bytes.specs.Entries.{has_row}
use Rattle.result_rows.specs.declared.Outcome.{Outcome}
use Rattle.result_rows.specs.declared.Outcome.TheVariants as out
use Rattle.row_rules.specs.{Table.is_of, declared.Asks.Asks, declared.Asks.TheVariants.{Reads, Writes, Cuts}}
use Rattle.bank_shape.specs.{declared.BankShape.BankShape, declared.answer.WriteAnswer.WriteAnswer}
use Rattle.bank_model.specs.{Events.{Write, Read, Serve, Begin, Iterate, Cut}, History.queue, Timing.{Happens, Core, Regs, TimedEvent, core, core_of}, Told.{tick_by, tick_of_row}}
use Rattle.bank_laws.specs.Outcomes.{ended}
use Rattle.clock_laws.{specs.Standing.{is_arrival_of, arrives_with}, proofs.Absent.queue-lacks}
use Rattle.module_laws.specs.Asking.{Asked, asked_in, asked_of, AreAsked, IsAsked}
use Rattle.pcm_module.{specs.Replaying.RowsFall, proofs.Naming.{names, not_named, is_numbered, rows_of_bank_all, All-both}, proofs.Standing.stands_not}

module _ {n : ℕ} where
  pub ended_set : (tick : ℕ) (o : Outcome n) → o ≢ out.Unset → ended tick o ≡ o
  ended_set tick out.Unset set = absurd (set refl)
  ended_set tick (out.Stored at place) set = refl
  ended_set tick (out.Merged at) set = refl
  ended_set tick (out.Queued at) set = refl
  ended_set tick (out.Full at) set = refl
  ended_set tick (out.Worn at) set = refl
  ended_set tick (out.Read at place bytes) set = refl
  ended_set tick (out.Forwarded at bytes) set = refl
  ended_set tick (out.Busy at) set = refl
  ended_set tick (out.Lost at) set = refl
  ended_set tick (out.Cut at) set = refl

  -- a row above all these isn't one of them
  pub names_above : (row : ℕ) (own : List (Asked n)) → All (λ a. a.row < row) own → names own row ≡ false
  names_above row [] all = refl
  names_above row (a ∷ own) all =
      let lower : a.row < row = All-head (λ (a : Asked n). a.row < row) a own all in
      or_from (is_numbered a.asks && a.row == row) _
      (and_right (is_numbered a.asks) (a.row == row) (ne_eqb a.row row (λ e. absurd (omega (arith, lower, e)))))
      (names_above row own (All-tail (λ (a : Asked n). a.row < row) a own all))

  -- the rows of a bank fall, where all rows do
  pub own_falls : (home number : ℕ → ℕ) (bank : ℕ) (asked : List (Asked n)) → RowsFall asked → RowsFall (asked_of home number bank asked)
  own_falls home number bank [] falls = tt
  own_falls home number bank (a ∷ asked) falls = by (is_of home bank a.asks) (own_falls home number bank asked falls.1)
    where
      by : (own : Bool) → RowsFall (asked_of home number bank asked)
          → RowsFall (map (asked_in home number) (cond own (a ∷ filter (λ a. is_of home bank a.asks) asked) (filter (λ a. is_of home bank a.asks) asked)))
      by true rest = (rows_of_bank_all home number (λ r. r < a.row) bank asked falls.0, rest)
      by false rest = rest

module _ {n : ℕ} where
  tick_off : (h : Happens n) (tick older row : ℕ) → is_arrival_of h row ≡ false → tick_by row h tick older ≡ older
  tick_off (Core (Write at line bytes given answer)) tick older row off = ap (λ b. if b then tick else older) off
  tick_off (Core (Read at line answer)) tick older row off = refl
  tick_off (Core (Serve answer)) tick older row off = refl
  tick_off (Core (Begin answer)) tick older row off = refl
  tick_off (Core (Iterate answer)) tick older row off = refl
  tick_off (Core (Cut tearing)) tick older row off = refl
  tick_off (Regs event) tick older row off = refl

module _ {n m : ℕ} (shape : BankShape) where
  -- what has become of a row that asks this, by one event after others: a write has arrived, at its tick; a read doesn't stand in the queue
  abbrev pub BecomesBy : List (TimedEvent n m) → Happens n → ℕ → Asked n → Asks n → Type 0
  BecomesBy xs h tick c (Reads line) = has_row (queue shape (core_of h (core xs))) c.row ≡ false
  BecomesBy xs h tick c (Writes line bytes given) =
      (tick_by c.row h tick (tick_of_row c.row xs) ≡ c.tick) × ((is_arrival_of h c.row || arrives_with xs c.row) ≡ true)
  BecomesBy xs h tick c Cuts = Unit {0}

  -- what has become of it by all events
  abbrev pub Becomes : List (TimedEvent n m) → Asked n → Asks n → Type 0
  Becomes xs c (Reads line) = has_row (queue shape (core xs)) c.row ≡ false
  Becomes xs c (Writes line bytes given) = (tick_of_row c.row xs ≡ c.tick) × (arrives_with xs c.row ≡ true)
  Becomes xs c Cuts = Unit {0}

  lacks_step : (xs : List (TimedEvent n m)) (h : Happens n) (row : ℕ) → is_arrival_of h row ≡ false → has_row (queue shape (core xs)) row ≡ false
      → has_row (queue shape (core_of h (core xs))) row ≡ false
  lacks_step xs (Core event) row off none = queue-lacks shape (core xs) row none event off
  lacks_step xs (Regs event) row off none = none

  -- an event that isn't the row's arrival
  becomes_step : (xs : List (TimedEvent n m)) (x : TimedEvent n m) (c : Asked n) → is_arrival_of x.happens c.row ≡ false
      → Becomes xs c c.asks → BecomesBy xs x.happens x.tick c c.asks
  becomes_step xs x c off = by c.asks
    where
      by : (asks : Asks n) → Becomes xs c asks → BecomesBy xs x.happens x.tick c asks
      by (Reads line) was = lacks_step xs x.happens c.row off was
      by (Writes line bytes given) was =
          (tick_off x.happens x.tick (tick_of_row c.row xs) c.row off ∙ was.0, or_right (is_arrival_of x.happens c.row) (arrives_with xs c.row) was.1)
      by Cuts was = tt

  -- a write that has just arrived
  written : (xs : List (TimedEvent n m)) (tick at line : ℕ) (bytes : List ℕ) (given : List Bool) (answer : WriteAnswer)
      → BecomesBy xs (Core (Write at line bytes given answer)) tick (record { row = at; tick = tick; asks = Writes line bytes given }) (Writes line bytes given)
  written xs tick at line bytes given answer =
      (ap (λ b. if b then tick else tick_of_row at xs) (eq-eqb at at refl), ap (λ b. b || arrives_with xs at) (eq-eqb at at refl))

  -- so it is with each row that was asked of a bank
  pub all_become : (xs : List (TimedEvent n m)) (own : List (Asked n)) → AreAsked xs own → RowsFall own → All (λ c. Becomes xs c c.asks) own
  all_become [] own are falls = subst (λ (own : List (Asked n)). All (λ c. Becomes [] c c.asks) own) (sym are) (All-nil (λ (c : Asked n). Becomes [] c c.asks))
  all_become (x ∷ xs) own are falls =
      by x.happens x.cancels (becomes_step xs x) own are falls (λ rest is rest_falls. all_become xs rest is rest_falls)
    where
      Was : Asked n → Type 0
      Was c = Becomes xs c c.asks

      by : (h : Happens n) (cancels : Bool) → ((c : Asked n) → is_arrival_of h c.row ≡ false → Becomes xs c c.asks → BecomesBy xs h x.tick c c.asks)
          → (own : List (Asked n)) → IsAsked h cancels x.tick (AreAsked xs) own → RowsFall own
          → ((rest : List (Asked n)) → AreAsked xs rest → RowsFall rest → All Was rest)
          → All (λ c. BecomesBy xs h x.tick c c.asks) own
      by (Core (Write at line bytes given answer)) cancels step [] are falls rec = absurd are
      by (Core (Write at line bytes given answer)) cancels step (a ∷ own) are falls rec =
          let at_row : a.row ≡ at = ap (λ (a : Asked n). a.row) are.0 in
          All-cons (λ (c : Asked n). BecomesBy xs (Core (Write at line bytes given answer)) x.tick c c.asks) a own
          (subst (λ (c : Asked n). BecomesBy xs (Core (Write at line bytes given answer)) x.tick c c.asks) (sym are.0) (written xs x.tick at line bytes given answer))
          (All-both (λ (c : Asked n). c.row < a.row) Was (λ (c : Asked n). BecomesBy xs (Core (Write at line bytes given answer)) x.tick c c.asks)
          (λ c lower was. step c (ne_eqb at c.row (λ e. absurd (omega (arith, lower, at_row, e)))) was) own falls.0 (rec own are.1 falls.1))
      by (Core (Read at line answer)) cancels step [] are falls rec = absurd are
      by (Core (Read at line answer)) cancels step (a ∷ own) are falls rec =
          let at_row : a.row ≡ at = ap (λ (a : Asked n). a.row) are.0 in
          All-cons (λ (c : Asked n). BecomesBy xs (Core (Read at line answer)) x.tick c c.asks) a own
          (subst (λ (c : Asked n). BecomesBy xs (Core (Read at line answer)) x.tick c c.asks) (sym are.0)
          (let none = stands_not shape at xs (not_named at xs own are.1 (names_above at own (subst (λ r. All (λ (b : Asked n). b.row < r) own) at_row falls.0))) in none.queued))
          (All-both (λ (c : Asked n). c.row < a.row) Was (λ (c : Asked n). BecomesBy xs (Core (Read at line answer)) x.tick c c.asks)
          (λ c lower was. step c (ne_eqb at c.row (λ e. absurd (omega (arith, lower, at_row, e)))) was) own falls.0 (rec own are.1 falls.1))
      by (Core (Serve answer)) cancels step own are falls rec =
          All-weaker Was (λ (c : Asked n). BecomesBy xs (Core (Serve answer)) x.tick c c.asks) (λ c was. step c refl was) own (rec own are falls)
      by (Core (Begin answer)) cancels step own are falls rec =
          All-weaker Was (λ (c : Asked n). BecomesBy xs (Core (Begin answer)) x.tick c c.asks) (λ c was. step c refl was) own (rec own are falls)
      by (Core (Iterate answer)) cancels step own are falls rec =
          All-weaker Was (λ (c : Asked n). BecomesBy xs (Core (Iterate answer)) x.tick c c.asks) (λ c was. step c refl was) own (rec own are falls)
      by (Core (Cut tearing)) true step own are falls rec =
          All-weaker Was (λ (c : Asked n). BecomesBy xs (Core (Cut tearing)) x.tick c c.asks) (λ c was. step c refl was) own (rec own are falls)
      by (Core (Cut tearing)) false step [] are falls rec = absurd are
      by (Core (Cut tearing)) false step (a ∷ own) are falls rec =
          All-cons (λ (c : Asked n). BecomesBy xs (Core (Cut tearing)) x.tick c c.asks) a own
          (subst (λ (asks : Asks n). BecomesBy xs (Core (Cut tearing)) x.tick a asks) (sym are.1) tt)
          (All-weaker Was (λ (c : Asked n). BecomesBy xs (Core (Cut tearing)) x.tick c c.asks) (λ c was. step c refl was) own (rec own are.2 falls.1))
      by (Regs event) cancels step own are falls rec =
          All-weaker Was (λ (c : Asked n). BecomesBy xs (Regs event) x.tick c c.asks) (λ c was. step c refl was) own (rec own are falls)
