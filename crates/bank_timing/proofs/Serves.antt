-- An action ends: what becomes of the clock, the array and the results.
use Rattle.std.proofs.Common.{◌≡◌, ℕ, ◌+◌, ◌<◌, ◌≤◌, true, false, List, [], ◌∷◌, length, drop, Some, None, refl, sym, ap, subst, arith}
use Rattle.std.{specs.Prelude.{unwrap_or, IfSome, slice_get}, proofs.lemmas.List.Elements.{All-nil, All-cons}}
use Rattle.cell_rows.specs.Device.{ArrayState}
use Rattle.result_rows.specs.{Table.{HasRow, with_outcome}, declared.Outcome.Outcome}
use Rattle.result_rows.specs.declared.Outcome.TheVariants as out
use Rattle.bank_shape.specs.{declared.answer.Served.Served, declared.clock.Action.Action, declared.clock.Doing.Doing, declared.clock.Doing.TheVariants.Serving}
use Rattle.bank_shape.specs.declared.waiting.Waiting.{Waiting}
use Rattle.bank_model.specs.{Events.{BankEvent, Serve}, History.waits, Timing.{TimedEvent, core, ends}, Touching.Touches}
use Rattle.bank_laws.specs.Outcomes.{outcome_by}
use Rattle.bank_invariant.specs.{Holds.Holds, Serving.{served, served_from}, State.BankState}
use Rattle.reg_lines.specs.Regs.{RegsState}
use Rattle.register_laws.proofs.Staying.{stays_law}
use Rattle.clock_laws.specs.{Actions.{IsCompletion, GoesOn}, Completing.{completed as completed_event, after_action}, Fitting.{Fits, IsFit}, Leads.Leads}
use Rattle.clock_laws.{specs.Standing.{AreApart, has_waiting}, specs.State.{ClockState, next_action}, proofs.Ending.serve_ends_law, proofs.Others.apart_law}
use Rattle.clock_laws.proofs.Remaining.{falling_law}
use Rattle.bank_timing.{specs.Completing.Completes, specs.Extending.{Extends, outcome_in, IsOpen, StandOpen, AreOpen, EndsAction}, proofs.Acting.{next-fits, next-ends}}
use Rattle.bank_timing.proofs.{Rows.{rows-set, in-set}, Standing.{waits-head, served-unset}}

module _ {n m e : ℕ} (xs : List (TimedEvent n m)) (clock : ClockState n m e) (bank : BankState n m e) (regs : RegsState n m e) (action : Action) (event : BankEvent n) (old new : ArrayState n m) (results recorded : List (Outcome n)) where
  -- the event that ends an action, with the outcome that it makes
  pub end-extends : GoesOn xs clock bank regs event action old new → bank.kept.shape ≡ clock.bank.kept.shape → length recorded ≡ length results
      → ((row : ℕ) → HasRow results row
      → outcome_in recorded row ≡ unwrap_or (outcome_by (waits clock.bank.kept.shape (core xs)) event (ends clock.pace action) row) (outcome_in results row))
      → Extends xs (completed_event xs clock action event new ∷ []) clock (after_action clock bank regs action event) old new results recorded
  end-extends goes shape rows outcomes = record { leads = goes.leads; shape = shape; pace = refl; adds = goes.adds; rows = rows; outcomes = outcomes }

-- Serves

module _ {n m e : ℕ} (clock : ClockState n m e) (action : Action) (old new : ArrayState n m) (results : List (Outcome n)) (w : Waiting n) (ws : List (Waiting n)) where
  abbrev answer_of : Served n
  answer_of = served_from clock.bank old w

  abbrev outcome_served : Outcome n
  outcome_served = out.Read (ends clock.pace action) answer_of.place answer_of.bytes

  pub served-open : (xs : List (TimedEvent n m)) → Leads xs clock old → clock.bank.waiting ≡ w ∷ ws → AreOpen clock.bank results
      → StandOpen clock.bank.kept.entries (drop 1 clock.bank.waiting) (with_outcome results w.row outcome_served)
  served-open xs leads first unset =
      by clock.bank.waiting first (apart_law n m e xs clock old leads) unset
    where
      by : (all : List (Waiting n)) → all ≡ w ∷ ws → AreApart clock.bank.kept.entries all clock.bank.rows_below → StandOpen clock.bank.kept.entries all results
          → StandOpen clock.bank.kept.entries (drop 1 all) (with_outcome results w.row outcome_served)
      by [] is apart unset = absurd (cc)
      by (v ∷ vs) is apart unset =
          let same : v ≡ w = cc in
          subst (λ (u : Waiting n). StandOpen clock.bank.kept.entries vs (with_outcome results u.row outcome_served)) same
          (served-unset clock.bank.kept.entries v vs clock.bank.rows_below results outcome_served apart unset)

  pub serve-completes : (first : List (TimedEvent n m)) → Leads first clock old → next_action clock ≡ Some action → action.doing ≡ Serving → clock.tick < ends clock.pace action
      → clock.bank.waiting ≡ w ∷ ws → Touches (ends clock.pace action) (answer_of.place ∷ []) None false old new
      → ((h : List (BankEvent n)) → Holds h clock.bank old → Holds (Serve answer_of ∷ h) (served clock.bank) new) → AreOpen clock.bank results
      → Completes clock (after_action clock (served clock.bank) clock.regs action (Serve answer_of)) action old new results (with_outcome results w.row outcome_served)
  serve-completes first led next doing later waiting touches holds unset = record {
    now = refl;
    later = later;
    pace = refl;
    drained = refl;
    none = refl;
    extends = λ xs leads. (
      completed_event xs clock action (Serve answer_of) new,
      extended xs leads,
      All-cons (λ (x : TimedEvent n m). EndsAction x) (completed_event xs clock action (Serve answer_of) new) [] refl (All-nil (λ (x : TimedEvent n m). EndsAction x)),
    );
    unset = served-open first led waiting unset;
    bound = refl;
    less = (falling_law n m e clock.bank clock.regs).after_serve (some clock.bank.waiting waiting);
  }
    where
      some : (all : List (Waiting n)) → all ≡ w ∷ ws → 0 < length all
      some [] is = absurd (cc)
      some (v ∷ vs) is = omega arith

      has : HasRow results w.row
      has = (unset.waiting w.row (subst (λ (all : List (Waiting n)). has_waiting all w.row ≡ true) (sym waiting) (waits-head w ws))).exists

      extended : (xs : List (TimedEvent n m)) → Leads xs clock old
          → Extends xs (completed_event xs clock action (Serve answer_of) new ∷ []) clock (after_action clock (served clock.bank) clock.regs action (Serve answer_of)) old new results (with_outcome results w.row outcome_served)
      extended xs leads =
          let end : IsCompletion xs clock (served clock.bank) clock.regs (Serve answer_of) action (answer_of.place ∷ []) None old new =
          record { next = next; doing = doing; later = later; alone = tt; holds = holds (core xs) leads.holds; shape = refl; taken = leads.taken; touches = touches; struck = λ line below is live. cc; put = refl; control = (stays_law n m e clock.bank.kept clock.regs old new leads.control (record { lines = touches.lines; controls = λ item below. touches.others (clock.regs.base + item) refl })).same } in
          end-extends xs clock (served clock.bank) clock.regs action (Serve answer_of) old new results (with_outcome results w.row outcome_served)
          (serve_ends_law n m e answer_of action w ws xs clock (served clock.bank) clock.regs old new leads waiting end refl refl) refl (rows-set results w.row outcome_served)
          (λ row there. in-set results w.row outcome_served row has there)

module _ {n m e : ℕ} (clock : ClockState n m e) (action : Action) (next : next_action clock ≡ Some action) (doing : action.doing ≡ Serving) (fit : IsFit clock.bank clock.regs clock.action) where
  -- a read waits where an action that serves runs
  pub serve-ready : 0 < length clock.bank.waiting
  serve-ready = subst (λ (d : Doing). Fits clock.bank clock.regs d) doing (next-fits clock action next fit)

  module _ (old new : ArrayState n m) (results : List (Outcome n)) (answer : Served n) (is : IfSome (slice_get clock.bank.waiting 0) (λ w. answer ≡ served_from clock.bank old w))
      (unset : AreOpen clock.bank results) where
    pub serve-unset : IsOpen results answer.row
    serve-unset = by clock.bank.waiting serve-ready is unset.waiting
      where
        by : (all : List (Waiting n)) → 0 < length all → IfSome (slice_get all 0) (λ w. answer ≡ served_from clock.bank old w)
            → ((row : ℕ) → has_waiting all row ≡ true → IsOpen results row) → IsOpen results answer.row
        by [] some is unset = absurd (omega arith)
        by (w ∷ ws) some is unset = subst (λ (row : ℕ). IsOpen results row) (sym (ap (λ (a : Served n). a.row) is)) (unset w.row (waits-head w ws))

    pub serve-whole : (bank : BankState n m e) (led : (xs : List (TimedEvent n m)) × Leads xs clock old) → 1 ≤ clock.pace.read → 1 ≤ clock.pace.iter
        → bank ≡ served clock.bank → Touches (ends clock.pace action) (answer.place ∷ []) None false old new
        → ((h : List (BankEvent n)) → Holds h clock.bank old → Holds (Serve answer ∷ h) bank new)
        → Completes clock (after_action clock bank clock.regs action (Serve answer)) action old new results (with_outcome results answer.row (out.Read (ends clock.pace action) answer.place answer.bytes))
    serve-whole bank led read iter left touches holds = by clock.bank.waiting refl serve-ready is
      where
        Goal : Served n → BankState n m e → Type 0
        Goal answer bank =
            Touches (ends clock.pace action) (answer.place ∷ []) None false old new
            → ((h : List (BankEvent n)) → Holds h clock.bank old → Holds (Serve answer ∷ h) bank new)
            → Completes clock (after_action clock bank clock.regs action (Serve answer)) action old new results (with_outcome results answer.row (out.Read (ends clock.pace action) answer.place answer.bytes))

        by : (all : List (Waiting n)) → clock.bank.waiting ≡ all → 0 < length all → IfSome (slice_get all 0) (λ w. answer ≡ served_from clock.bank old w)
            → Completes clock (after_action clock bank clock.regs action (Serve answer)) action old new results (with_outcome results answer.row (out.Read (ends clock.pace action) answer.place answer.bytes))
        by [] at some is = absurd (omega arith)
        by (w ∷ ws) at some is =
            subst (λ (b : BankState n m e). Goal answer b) (sym left)
            (subst (λ (a : Served n). Goal a (served clock.bank)) (sym is)
            (λ touches holds. serve-completes clock action old new results w ws led.0 led.1 next doing (next-ends clock action next led.0 old led.1 read iter) at touches holds unset))
            touches holds
