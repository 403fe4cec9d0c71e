-- What was known of a bank's rows at the tick to which it had come, and what is known of them in the end.
use Rattle.std.proofs.Common.{◌≡◌, ◌≢◌, ℕ, ◌≤◌, Bool, true, false, List, ◌++◌, get_or, inl, inr, refl, sym, ap, subst, ◌∙◌, arith}
use Rattle.std.{specs.Prelude.{All, IfSome, IsSomeAnd}, proofs.lemmas.List.Elements.All-weaker}
use Rattle.cell_rows.specs.Device.{ArrayState}
use Rattle.result_rows.specs.{Outcomes.tick_of, declared.Outcome.Outcome}
use Rattle.result_rows.specs.declared.Outcome.TheVariants as out
use Rattle.row_rules.specs.{declared.Asks.Asks, declared.Asks.TheVariants.{Reads, Writes, Cuts}}
use Rattle.bank_shape.specs.{declared.BankShape.BankShape, declared.pace.Pace.Pace}
use Rattle.bank_model.specs.{Lawful.Lawful, Timing.{TimedEvent, last_tick}, Told.IsWhole}
use Rattle.bank_laws.{specs.Outcomes.{ended, outcome_of}, proofs.Settling.{lawful_before, set_once_law}, proofs.Ticks.ticks-up_to}
use Rattle.module_laws.specs.{Asking.{Asked, AreAsked}, Serves.last_outcome}
use Rattle.clock_laws.specs.State.{ClockState}
use Rattle.bank_timing.specs.Extending.{outcome_in}
use Rattle.pcm_module.specs.Replaying.{BankReplays, outcome_so_far}
use Rattle.settle_laws.{specs.Settles.IsFrom, proofs.Later.{all-from, whole-first}, proofs.Outcomes.{since-then, so-far}, proofs.Parting.later-rows}

-- what was known of a row at a tick came by then and stays; and where nothing was, it comes later
pub record IsRight {n : ℕ} (tick : ℕ) (by_then in_the_end : Outcome n) : Type 0 where
  pub told : IfSome (tick_of by_then) (λ at. at ≤ tick)
  pub stays : by_then ≢ out.Unset → in_the_end ≡ by_then
  pub rest : by_then ≡ out.Unset → in_the_end ≢ out.Unset → IsFrom tick in_the_end

module _ {n : ℕ} where
  pub right-so : (tick at : ℕ) (o p was is : Outcome n) → tick ≡ at → o ≡ was → p ≡ is → IsRight tick was is → IsRight at o p
  right-so tick at o p was is same before after right =
      subst (λ (t : ℕ). IsRight t o p) same
      (subst (λ (o : Outcome n). IsRight tick o p) (sym before) (subst (λ (p : Outcome n). IsRight tick was p) (sym after) right))

  is-from : (tick : ℕ) (o : Outcome n) → IsSomeAnd (tick_of o) (λ at. tick ≤ at) → IsFrom tick o
  is-from tick out.Unset from = absurd from
  is-from tick (out.Queued at) from = tt
  is-from tick _ from = from

  -- a write that has an outcome has it in the end, and one that has none is queued
  ended-set : (came : ℕ) (o : Outcome n) → o ≢ out.Unset → ended came o ≡ o
  ended-set came out.Unset set = absurd (set refl)
  ended-set came _ set = refl

  ended-from : (tick came : ℕ) (o : Outcome n) → (o ≢ out.Unset → IsFrom tick o) → IsFrom tick (ended came o)
  ended-from tick came out.Unset from = tt
  ended-from tick came (out.Queued at) from = tt
  ended-from tick came _ from = from (λ is. cc is)

  right-ended : (tick came : ℕ) (o p : Outcome n) → IsRight tick o p → IsRight tick o (ended came p)
  right-ended tick came o p right = record {
    told = right.told;
    stays = λ set. ap (ended came) (right.stays set) ∙ ended-set came o set;
    rest = λ unset set. ended-from tick came p (right.rest unset);
  }

-- the outcome of a row that asks this, where its bank's history is over, or so far
abbrev pub known_of : {n m : ℕ} → Bool → BankShape → List (TimedEvent n m) → Asked n → Asks n → Outcome n
known_of true shape xs a asks = last_outcome shape xs a asks
known_of false shape xs a asks = outcome_so_far shape xs a asks

-- of a history and one that it goes on to, with a tick between them
module _ {n m : ℕ} (e : ℕ) (shape : BankShape) (pace : Pace) (xs since : List (TimedEvent n m)) (lawful : Lawful shape pace e (since ++ xs)) (tick : ℕ)
    (up-to-now : All (λ (x : TimedEvent n m). x.tick ≤ tick) xs) (since-from : All (λ (x : TimedEvent n m). tick ≤ x.tick) since) where
  by-events : (row : ℕ) → IsRight tick (outcome_of shape xs row) (outcome_of shape (since ++ xs) row)
  by-events row = record {
    told = so-far shape row (λ t. t ≤ tick) xs up-to-now;
    stays = λ set. set_once_law n m e shape pace since xs row lawful set;
    rest = λ unset set. elim (since-then shape row (λ t. tick ≤ t) since xs since-from) [
      | inl same ↦ absurd (set (same ∙ unset))
      | inr from ↦ is-from tick (outcome_of shape (since ++ xs) row) from
    ];
  }

  by-asks : (over : Bool) (a : Asked n) (asks : Asks n) → a.tick ≤ tick
      → IsRight tick (outcome_so_far shape xs a asks) (known_of over shape (since ++ xs) a asks)
  by-asks true a (Reads line) low = by-events a.row
  by-asks true a (Writes line bytes given) low =
      right-ended tick a.tick (outcome_of shape xs a.row) (outcome_of shape (since ++ xs) a.row) (by-events a.row)
  by-asks true a Cuts low = record { told = low; stays = λ set. refl; rest = λ unset set. absurd (cc unset) }
  by-asks false a (Reads line) low = by-events a.row
  by-asks false a (Writes line bytes given) low = by-events a.row
  by-asks false a Cuts low = record { told = low; stays = λ set. refl; rest = λ unset set. absurd (cc unset) }

  -- so it is of each row that was asked of the bank by then
  pub each-right : (over : Bool) (asked : List (Asked n)) (by_then in_the_end : ℕ → Outcome n)
      → All (λ (a : Asked n). by_then a.row ≡ outcome_so_far shape xs a a.asks) asked
      → All (λ (a : Asked n). in_the_end a.row ≡ known_of over shape (since ++ xs) a a.asks) asked
      → All (λ (a : Asked n). a.tick ≤ tick) asked → All (λ (a : Asked n). IsRight tick (by_then a.row) (in_the_end a.row)) asked
  each-right over asked by_then in_the_end before after low = λ k d below.
      by (get_or asked k d) (low k d below) (before k d below) (after k d below)
    where
      by : (a : Asked n) → a.tick ≤ tick → by_then a.row ≡ outcome_so_far shape xs a a.asks → in_the_end a.row ≡ known_of over shape (since ++ xs) a a.asks
          → IsRight tick (by_then a.row) (in_the_end a.row)
      by a low before after =
          right-so tick tick (by_then a.row) (in_the_end a.row) (outcome_so_far shape xs a a.asks) (known_of over shape (since ++ xs) a a.asks)
          refl before after (by-asks over a a.asks low)

-- of a bank that stands at a tick, what it is asked from now on, and the history that this leaves
module _ {n m e : ℕ} (shape : BankShape) (pace : Pace) (now rows : ℕ) (xs : List (TimedEvent n m)) (asked : List (Asked n)) (array : ArrayState n m) (results : List (Outcome n))
    (clock : ClockState n m e) (had : BankReplays shape pace now rows xs asked array results clock) (read : 1 ≤ pace.read) (iter : 1 ≤ pace.iter)
    (since : List (TimedEvent n m)) (later : List (Asked n)) (outcome : ℕ → Outcome n) (lawful : Lawful shape pace e (since ++ xs)) (whole : IsWhole (since ++ xs))
    (all-asked : AreAsked (since ++ xs) (later ++ asked)) (over : Bool) (recorded : All (λ (a : Asked n). outcome a.row ≡ known_of over shape (since ++ xs) a a.asks) asked)
    (late : All (λ (a : Asked n). clock.tick ≤ a.tick) later) where
  since-from : All (λ (x : TimedEvent n m). clock.tick ≤ x.tick) since
  since-from =
      all-from xs clock array (subst (λ (p : Pace). 1 ≤ p.read) (sym had.paced) read) (subst (λ (p : Pace). 1 ≤ p.iter) (sym had.paced) iter) had.leads since
      (subst (λ (s : BankShape). Lawful s clock.pace e (since ++ xs)) (sym had.shaped) (subst (λ (p : Pace). Lawful shape p e (since ++ xs)) (sym had.paced) lawful))
      (whole-first since xs whole) (later-rows clock.tick since xs later asked all-asked had.arrived late)

  up-to-now : All (λ (x : TimedEvent n m). x.tick ≤ clock.tick) xs
  up-to-now =
      All-weaker (λ (x : TimedEvent n m). x.tick ≤ last_tick xs) (λ (x : TimedEvent n m). x.tick ≤ clock.tick) (λ x low. omega (arith, low, had.leads.told.now)) xs
      (ticks-up_to shape pace e xs read iter (lawful_before shape pace e since xs lawful))

  -- so it is of each row that was asked of the bank so far
  pub asked-right : All (λ (a : Asked n). a.tick ≤ clock.tick) asked → All (λ (a : Asked n). IsRight clock.tick (outcome_in results a.row) (outcome a.row)) asked
  asked-right in_time =
      each-right e shape pace xs since lawful clock.tick up-to-now since-from over asked (outcome_in results) outcome had.recorded recorded in_time
