-- A read cancels what runs of a line write, and then waits: what becomes of the clock and of the array.
use Rattle.std.proofs.Common.{◌≡◌, ℕ, ◌+◌, ◌<◌, ◌≤◌, ◌&&◌, ◌==◌, not, nat_lt, Bool, true, false, List, [], ◌∷◌, length, map, Option, Some, None, is_some, refl, sym, ap, subst, ◌∙◌, arith, ltb-true}
use Rattle.std.{specs.Prelude.{unwrap_or, IsTrue, IfSome, if◌then◌else◌}, proofs.lemmas.Bool.{false≢true, ne_eqb, lt-ltb, not-true}}
use Rattle.masked_bytes.{specs.Entries.{layer_of, has_row}, specs.Masked.gives_all, proofs.Truth.{and_first, and_second}}
use Rattle.cell_rows.specs.Device.{ArrayState}
use Rattle.result_rows.specs.declared.Outcome.{Outcome}
use Rattle.bank_shape.specs.{Pausing.{is_cancelling, most_cancels}, declared.answer.ReadAnswer.ReadAnswer, declared.clock.Action.Action, declared.clock.Doing.TheVariants.Iterating}
use Rattle.bank_shape.specs.declared.waiting.Waiting.{Waiting}
use Rattle.bank_shape.specs.declared.answer.ReadAnswer.TheVariants as came
use Rattle.bank_model.specs.{Events.{BankEvent, Read, Cut}, History.{Awaited, waits}, Timing.{TimedEvent, core, is_doing, is_writing}, Touching.{Touches, AreStruck}}
use Rattle.bank_model.proofs.Rising.{RowsBelow-more}
use Rattle.bank_laws.specs.Outcomes.{outcome_with}
use Rattle.reg_lines.specs.{Keeping.{broken_off, torn_line as regs_torn, IsTorn as IsTornControl}, Regs.AreHeld, declared.Change.Change}
use Rattle.register_laws.proofs.{Staying.stays_law, Writing.broken_law}
use Rattle.power_recovery.specs.Kept.{KeptState}
use Rattle.bank_invariant.specs.{Holds.{Holds, waiting_of}, Serving.{read_from, waits_too}, State.BankState, Steps.cut_off}
use Rattle.bank_core.specs.{Cutting.{torn_line, IsTorn}, Steps.after_read as bank_after_read}
use Rattle.clock_laws.specs.{Actions.{ReachesBy, torn_line as line_torn}, Arriving.{cancels_for, arrival, after_read, action_after_read, drops, KeepsWork}, Cutting.after_cancel}
use Rattle.clock_laws.{specs.Fitting.IsFit, specs.Leads.Leads, specs.Standing.has_waiting, specs.State.ClockState, proofs.Cutting.cancelled_read_law}
use Rattle.clock_laws.proofs.{Extending.{arrival_added_law, both_added_law}, Fitting.needs_law, Tearing.{cancel_ends_law, keep_cancel_ends_law, tears-control}}
use Rattle.bank_timing.specs.{Cancelling.{cancel_by, cancelled_by, cancel_first}, Extending.{Extends, Arrives, AreOpen, IsOpen, outcome_in}}
use Rattle.bank_timing.proofs.{Losses.{iterating-fits, work-leaves, work-struck, same_torn}, ReadArrivals.{read-keeps, waits-unset}}

module _ {n m e : ℕ} (clock : ClockState n m e) (line : ℕ) (would : IsTrue (cancels_for clock line)) where
  -- what a read that cancels finds: a begin or an iteration runs, no read waits, the count is below the most, and the queue lacks a byte
  rest-one : (is_writing clock.action && (not (nat_lt 0 (length clock.bank.waiting)) && (nat_lt clock.cancels most_cancels && not (gives_all (layer_of clock.bank.kept.entries line).given)))) ≡ true
  rest-one = and_second (is_cancelling clock.pace.policy) _ would

  rest-two : (not (nat_lt 0 (length clock.bank.waiting)) && (nat_lt clock.cancels most_cancels && not (gives_all (layer_of clock.bank.kept.entries line).given))) ≡ true
  rest-two = and_second (is_writing clock.action) _ rest-one

  rest-three : (nat_lt clock.cancels most_cancels && not (gives_all (layer_of clock.bank.kept.entries line).given)) ≡ true
  rest-three = and_second (not (nat_lt 0 (length clock.bank.waiting))) _ rest-two

  pub none-waits : clock.bank.waiting ≡ []
  none-waits = by clock.bank.waiting (and_first (not (nat_lt 0 (length clock.bank.waiting))) _ rest-two)
    where
      by : (ws : List (Waiting n)) → not (nat_lt 0 (length ws)) ≡ true → ws ≡ []
      by [] is = refl
      by (w ∷ ws) is = absurd (false≢true (ap not (sym (lt-ltb 0 (length (w ∷ ws)) (omega arith))) ∙ is))

  pub few-cancels : clock.cancels < 4
  few-cancels = ltb-true clock.cancels 4 (and_first (nat_lt clock.cancels most_cancels) _ rest-three)

  pub lacks-byte : gives_all (layer_of clock.bank.kept.entries line).given ≡ false
  lacks-byte =
      not-true (gives_all (layer_of clock.bank.kept.entries line).given)
      (and_second (nat_lt clock.cancels most_cancels) _ rest-three)

  module _ (fit : IsFit clock.bank clock.regs clock.action) (tearing : Bool) (tears : tearing ≡ is_doing Iterating clock.action) where
    pub cancel-ready : clock.regs.change ≡ None → IsTrue tearing → IsTrue (is_some clock.bank.running)
    cancel-ready none torn = (needs_law n m e clock.bank clock.regs).iterates none (iterating-fits clock.bank clock.regs clock.action fit (sym tears ∙ torn))

    pub cancel-change-ready : IsTrue (is_some clock.regs.change) → IsTrue tearing → IsTrue (is_some clock.regs.writer)
    cancel-change-ready stands torn = (needs_law n m e clock.bank clock.regs).iterates_change stands (iterating-fits clock.bank clock.regs clock.action fit (sym tears ∙ torn))

    module _ (old new : ArrayState n m) where
      -- a cancel of the bank's line write
      pub cancels-work : clock.regs.change ≡ None → Touches clock.tick [] (torn_line tearing clock.bank.running) tearing old new
          → ((h : List (BankEvent n)) → Holds h clock.bank old → Holds (Cut tearing ∷ h) (cut_off clock.bank) new)
          → (IsTrue tearing → IfSome clock.bank.running (λ op. IsTorn op old new))
          → (xs : List (TimedEvent n m)) → Leads xs clock old → ReachesBy clock.bank.kept.shape xs (cancel_by clock.regs.change xs clock) (after_cancel clock (cut_off clock.bank) clock.regs) old new
      cancels-work none touches holds torn xs leads =
          subst (λ (change : Option Change). ReachesBy clock.bank.kept.shape xs (cancel_by change xs clock) (after_cancel clock (cut_off clock.bank) clock.regs) old new) (sym none)
          (cancel_ends_law n m e line tearing xs clock (cut_off clock.bank) old new leads would none tears (holds (core xs) leads.holds) refl refl
          (ap (λ (ws : List (Waiting n)). map (λ w. w.row) ws) none-waits)
          (stays_law n m e clock.bank.kept clock.regs old new leads.control (work-leaves xs clock old new clock.tick tearing leads touches)).same
          (subst (λ (change : Option Change). Touches clock.tick [] (line_torn tearing clock.regs change clock.bank.running) tearing old new) (sym none)
          (subst (λ (pulsed : Option ℕ). Touches clock.tick [] pulsed tearing old new) (same_torn tearing clock.regs clock.bank.running) touches))
          (subst (λ (change : Option Change). AreStruck clock.bank.kept.shape (core xs) (Cut tearing) (line_torn tearing clock.regs change clock.bank.running) old new) (sym none)
          (subst (λ (pulsed : Option ℕ). AreStruck clock.bank.kept.shape (core xs) (Cut tearing) pulsed old new) (same_torn tearing clock.regs clock.bank.running)
          (work-struck (core xs) clock.bank old new tearing leads.holds torn))))

      -- one of the change's
      pub cancels-change : (change : Change) → clock.regs.change ≡ Some change → Touches clock.tick [] (regs_torn tearing clock.regs) tearing old new → AreHeld (broken_off clock.regs) new
          → (IsTrue tearing → IsTornControl clock.regs old new)
          → (xs : List (TimedEvent n m)) → Leads xs clock old → ReachesBy clock.bank.kept.shape xs (cancel_by clock.regs.change xs clock) (after_cancel clock clock.bank (broken_off clock.regs)) old new
      cancels-change change is touches held torn xs leads =
          subst (λ (change : Option Change). ReachesBy clock.bank.kept.shape xs (cancel_by change xs clock) (after_cancel clock clock.bank (broken_off clock.regs)) old new) (sym is)
          (keep_cancel_ends_law n m e line tearing xs clock old new leads would (ap (λ (change : Option Change). is_some change) is) fit tears
          (broken_law n m e clock.tick tearing clock.bank.kept clock.regs old new leads.control touches held)
          (subst (λ (pulsed : Option ℕ). Touches clock.tick [] pulsed tearing old new) (torn-same tearing) touches)
          (tears-control tearing clock.regs clock.bank.running old old new new leads.control.item (λ on some. torn on) (λ item below. refl) refl (λ line. refl)))
        where
          torn-same : (b : Bool) → regs_torn b clock.regs ≡ line_torn b clock.regs clock.regs.change clock.bank.running
          torn-same false = refl
          torn-same true = rw is refl

module _ {n m e : ℕ} where
  -- what is true of the clock behind a cancel
  pub record IsBehind (clock behind : ClockState n m e) (line : ℕ) : Type 0 where
    pub tick : behind.tick ≡ clock.tick
    pub pace : behind.pace ≡ clock.pace
    pub drained : behind.drained ≡ clock.drained
    pub none : behind.action ≡ None
    pub kept : behind.bank.kept ≡ clock.bank.kept
    pub waiting : behind.bank.waiting ≡ []
    pub bound : behind.bank.rows_below ≡ clock.bank.rows_below

  pub behind-cancel : (clock : ClockState n m e) (line : ℕ) → IsTrue (cancels_for clock line) → (change : Option Change) → IsBehind clock (cancelled_by change clock) line
  behind-cancel clock line would None = record { tick = refl; pace = refl; drained = refl; none = refl; kept = refl; waiting = refl; bound = refl }
  behind-cancel clock line would (Some change) = record { tick = refl; pace = refl; drained = refl; none = refl; kept = refl; waiting = none-waits clock line would; bound = refl }

abbrev no_action : Option Action
no_action = None

module _ {n : ℕ} where
  abbrev picked : List ℕ → Bool → Bool → ReadAnswer n
  picked bytes all full = if all then came.Forwarded bytes else (if full then came.Busy else came.Waiting)

  after-none : (kept : KeptState n) (change : Option Change) (line : ℕ) → action_after_read kept change line came.Waiting no_action ≡ no_action
  after-none kept change line = by (drops kept change line no_action)
    where
      by : (b : Bool) → (if b then no_action else no_action) ≡ no_action
      by true = refl
      by false = refl

-- a read of the line waits there
read-waits : {n m e : ℕ} (bank : BankState n m e) (line : ℕ) → gives_all (layer_of bank.kept.entries line).given ≡ false → bank.waiting ≡ [] → 1 ≤ bank.kept.shape.reads → read_from bank line ≡ came.Waiting
read-waits {n} bank line lacks none some = by (gives_all (layer_of bank.kept.entries line).given) lacks bank.waiting none bank.kept.shape.reads some
  where
    by : (b : Bool) → b ≡ false → (ws : List (Waiting n)) → ws ≡ [] → (reads : ℕ) → 1 ≤ reads → picked {n = n} (layer_of bank.kept.entries line).bytes b (length ws == reads) ≡ came.Waiting
    by true is ws none reads some = absurd (cc)
    by false is (w ∷ ws) none reads some = absurd (cc)
    by false is [] none reads some = ap (λ (full : Bool). picked {n = n} (layer_of bank.kept.entries line).bytes false full) (ne_eqb 0 reads (λ same. above reads same some))
      where
        above : (reads : ℕ) → 0 ≡ reads → 1 ≤ reads → ⊥
        above reads same some = omega (arith, same, some)

module _ {n m e : ℕ} where
  -- a cancel makes no outcome
  cancel-quiet : (change : Option Change) (clock : ClockState n m e) (xs : List (TimedEvent n m)) (row : ℕ) → waits clock.bank.kept.shape (core xs) ≡ []
      → outcome_with clock.bank.kept.shape xs (cancel_by change xs clock).happens (cancel_by change xs clock).tick row ≡ None
  cancel-quiet None clock xs row none = rw none refl
  cancel-quiet (Some change) clock xs row none = refl

-- a read cancels what runs: what is true of the clock before, and what the cancel and the read leave
pub record CancelsRead {n m e : ℕ} (row line : ℕ) (clock : ClockState n m e) (old new : ArrayState n m) (bank : BankState n m e) : Type 0 where
  pub would : IsTrue (cancels_for clock line)
  pub led : (xs : List (TimedEvent n m)) × Leads xs clock old
  pub rises : clock.bank.rows_below ≤ row
  pub reaches : (xs : List (TimedEvent n m)) → Leads xs clock old → ReachesBy clock.bank.kept.shape xs (cancel_by clock.regs.change xs clock) (cancelled_by clock.regs.change clock) old new
  pub left : bank ≡ bank_after_read (cancelled_by clock.regs.change clock).bank row line (read_from (cancelled_by clock.regs.change clock).bank line)
  pub holds : (h : List (BankEvent n)) (array : ArrayState n m) → Holds h (cancelled_by clock.regs.change clock).bank array
      → Holds (Read row line (read_from (cancelled_by clock.regs.change clock).bank line) ∷ h) bank array

-- the calls say so: the cancel leaves this clock, and its bank then takes the read
pub cancels-read : {n m e : ℕ} (row line : ℕ) (clock now : ClockState n m e) (old new : ArrayState n m) (bank : BankState n m e) (answer : ReadAnswer n)
    → now ≡ cancelled_by clock.regs.change clock → IsTrue (cancels_for clock line) → (xs : List (TimedEvent n m)) × Leads xs clock old → clock.bank.rows_below ≤ row
    → ((xs : List (TimedEvent n m)) → Leads xs clock old → ReachesBy clock.bank.kept.shape xs (cancel_by clock.regs.change xs clock) now old new)
    → answer ≡ read_from now.bank line → bank ≡ bank_after_read now.bank row line answer
    → ((h : List (BankEvent n)) (array : ArrayState n m) → Holds h now.bank array → Holds (Read row line answer ∷ h) bank array)
    → CancelsRead row line clock old new bank
cancels-read {n} {m} {e} row line clock now old new bank answer same would led rises reaches answered left holds = record {
  would = would;
  led = led;
  rises = rises;
  reaches = λ xs leads. subst (λ (k : ClockState n m e). ReachesBy clock.bank.kept.shape xs (cancel_by clock.regs.change xs clock) k old new) same (reaches xs leads);
  left = subst (λ (k : ClockState n m e). bank ≡ bank_after_read k.bank row line (read_from k.bank line)) same (left ∙ ap (λ (a : ReadAnswer n). bank_after_read now.bank row line a) answered);
  holds = subst (λ (k : ClockState n m e). (h : List (BankEvent n)) (array : ArrayState n m) → Holds h k.bank array → Holds (Read row line (read_from k.bank line) ∷ h) bank array) same
      (λ h array was. subst (λ (a : ReadAnswer n). Holds (Read row line a ∷ h) bank array) answered (holds h array was));
}

-- the clock with this bank
abbrev pub with_bank : {n m e : ℕ} → BankState n m e → ClockState n m e → ClockState n m e
with_bank bank k = record { bank = bank; regs = k.regs; pace = k.pace; tick = k.tick; action = k.action; arrivals = k.arrivals; cancels = k.cancels; drained = k.drained }

module _ {n m e row line : ℕ} {clock : ClockState n m e} {old new : ArrayState n m} {bank : BankState n m e} (c : CancelsRead row line clock old new bank) where
  abbrev pub behind : ClockState n m e
  behind = cancelled_by clock.regs.change clock

  is_behind : IsBehind clock behind line
  is_behind = behind-cancel clock line c.would clock.regs.change

  some-reads : 1 ≤ clock.bank.kept.shape.reads
  some-reads = c.led.1.holds.kept.shape.some_reads

  pub waits-then : read_from behind.bank line ≡ came.Waiting
  waits-then =
      read-waits behind.bank line (subst (λ (kept : _). gives_all (layer_of kept.entries line).given ≡ false) (sym is_behind.kept) (lacks-byte clock line c.would)) is_behind.waiting
      (subst (λ (kept : _). 1 ≤ kept.shape.reads) (sym is_behind.kept) some-reads)

  waits-before : read_from clock.bank line ≡ came.Waiting
  waits-before = read-waits clock.bank line (lacks-byte clock line c.would) (none-waits clock line c.would) some-reads

  left-so : bank ≡ waits_too behind.bank row line
  left-so = c.left ∙ ap (λ (a : ReadAnswer n). bank_after_read behind.bank row line a) waits-then

  -- the clock in the end
  abbrev pub ended : ClockState n m e
  ended = with_bank bank behind

  -- each history that led to the clock goes on with the cancel and its read
  cancel-extends : (results : List (Outcome n)) → (xs : List (TimedEvent n m)) → Leads xs clock old
      → Extends xs (arrival clock.tick (Read row line (read_from clock.bank line)) ∷ cancel_by clock.regs.change xs clock ∷ []) clock ended old new results results
  cancel-extends results xs leads =
      subst (λ (a : ReadAnswer n). Extends xs (arrival clock.tick (Read row line a) ∷ x ∷ []) clock ended old new results results) (sym waits-before)
      (record {
        leads = subst (λ (tick : ℕ). Leads (arrival tick (Read row line came.Waiting) ∷ x ∷ xs) ended new) is_behind.tick
            (subst (λ (a : Option Action). Leads (arrival behind.tick (Read row line came.Waiting) ∷ x ∷ xs) (with_action a) new) (acts ∙ sym is_behind.none) arrived);
        shape = ap (λ (b : BankState n m e). b.kept.shape) left-so ∙ ap (λ (kept : _). kept.shape) is_behind.kept;
        pace = is_behind.pace;
        adds = both_added_law n m clock.bank.kept.shape (arrival clock.tick (Read row line came.Waiting) ∷ []) (x ∷ []) old new new by-cancel.adds
            (arrival_added_law n m clock.tick clock.bank.kept.shape (Read row line came.Waiting) new);
        rows = refl;
        outcomes = λ at there. ap (λ (o : Option (Outcome n)). unwrap_or o (outcome_in results at)) (sym (cancel-quiet clock.regs.change clock xs at (waits-none (sym leads.holds.waiting ∙ none-waits clock line c.would))));
      })
    where
      x : TimedEvent n m
      x = cancel_by clock.regs.change xs clock

      by-cancel : ReachesBy clock.bank.kept.shape xs x behind old new
      by-cancel = c.reaches xs leads

      keeps : KeepsWork behind.bank bank
      keeps = subst (λ (b : BankState n m e). KeepsWork behind.bank b) (sym left-so) (read-keeps behind.bank row line came.Waiting)

      with_action : Option Action → ClockState n m e
      with_action action = record { bank = bank; regs = behind.regs; pace = behind.pace; tick = behind.tick; action = action; arrivals = behind.arrivals; cancels = behind.cancels; drained = behind.drained }

      acts : action_after_read behind.bank.kept behind.regs.change line came.Waiting behind.action ≡ None
      acts = ap (λ (a : Option Action). action_after_read behind.bank.kept behind.regs.change line came.Waiting a) is_behind.none ∙ after-none behind.bank.kept behind.regs.change line

      same-tick : (change : Option Change) → (cancelled_by change clock).tick ≡ (cancel_by change xs clock).tick
      same-tick None = refl
      same-tick (Some change) = refl

      arrived : Leads (arrival behind.tick (Read row line came.Waiting) ∷ x ∷ xs) (after_read behind bank line came.Waiting) new
      arrived =
          cancelled_read_law n m e row line x xs behind bank new by-cancel.reaches is_behind.none (same-tick clock.regs.change)
          (RowsBelow-more (core (x ∷ xs)) behind.bank.rows_below row (subst (λ (bound : ℕ). bound ≤ row) (sym is_behind.bound) c.rises) by-cancel.reaches.holds.rows) keeps
          (subst (λ (a : ReadAnswer n). Holds (Read row line a ∷ core (x ∷ xs)) bank new) waits-then (c.holds (core (x ∷ xs)) new by-cancel.reaches.holds))

      waits-none : map (waiting_of {n = n}) (waits clock.bank.kept.shape (core xs)) ≡ [] → waits clock.bank.kept.shape (core xs) ≡ []
      waits-none = by (waits clock.bank.kept.shape (core xs))
        where
          by : (ws : List Awaited) → map (waiting_of {n = n}) ws ≡ [] → ws ≡ []
          by [] is = refl
          by (w ∷ ws) is = absurd (cc)

  cancel-bound : bank.rows_below ≡ row + 1
  cancel-bound = ap (λ (b : BankState n m e). b.rows_below) left-so

  cancel-unset : (results : List (Outcome n)) → AreOpen clock.bank results → IsOpen results row → AreOpen bank results
  cancel-unset results unset fresh =
      subst (λ (b : BankState n m e). AreOpen b results) (sym left-so) (waits-unset behind.bank row line results stand fresh)
    where
      stand : AreOpen behind.bank results
      stand = record {
        queued = λ at there. unset.queued at (subst (λ (kept : _). has_row kept.entries at ≡ true) is_behind.kept there);
        waiting = λ at there. absurd (false≢true (ap (λ (ws : List (Waiting n)). has_waiting ws at) (sym is_behind.waiting) ∙ there));
      }

  -- all that both promise
  pub cancel-arrives : (results : List (Outcome n)) → AreOpen clock.bank results → IsOpen results row
      → Arrives row (Read row line (read_from clock.bank line)) (λ xs. cancel_by clock.regs.change xs clock ∷ []) clock ended old new results results
  cancel-arrives results unset fresh = record {
    now = is_behind.tick;
    drained = is_behind.drained;
    rows = cancel-bound;
    extends = λ xs leads. cancel-extends results xs leads;
    unset = cancel-unset results unset fresh;
    others = λ row there other queued waits. refl;
  }

-- whether a cancel comes first
pub first-then : {n m e : ℕ} (xs : List (TimedEvent n m)) (clock : ClockState n m e) (line : ℕ) → cancels_for clock line ≡ true → cancel_first xs clock line ≡ cancel_by clock.regs.change xs clock ∷ []
first-then {n} {m} xs clock line would = ap (λ (b : Bool). if b then cancel_by clock.regs.change xs clock ∷ [] else []) would

pub first-else : {n m e : ℕ} (xs : List (TimedEvent n m)) (clock : ClockState n m e) (line : ℕ) → cancels_for clock line ≡ false → cancel_first xs clock line ≡ []
first-else {n} {m} xs clock line quiet = ap (λ (b : Bool). if b then cancel_by clock.regs.change xs clock ∷ [] else []) quiet

-- what comes first, told in other words
pub arrives-first : {n m e : ℕ} {row : ℕ} {event : BankEvent n} {first other : List (TimedEvent n m) → List (TimedEvent n m)} {clock new : ClockState n m e} {before after : ArrayState n m} {results recorded : List (Outcome n)}
    → ((xs : List (TimedEvent n m)) → other xs ≡ first xs) → Arrives row event first clock new before after results recorded → Arrives row event other clock new before after results recorded
arrives-first {n} {m} {e} {row} {event} {first} {other} {clock} {new} {before} {after} {results} {recorded} same a = record {
  now = a.now;
  drained = a.drained;
  rows = a.rows;
  extends = λ xs leads. subst (λ (f : List (TimedEvent n m)). Extends xs (arrival clock.tick event ∷ f) clock new before after results recorded) (sym (same xs)) (a.extends xs leads);
  unset = a.unset;
  others = a.others;
}
