-- What a bank with its clock and its history say of each other.
use Rattle.std.proofs.Common.{◌≡◌, ℕ, ◌<◌, ◌≤◌, ◌||◌, not, nat_lt, Bool, true, false, cond, List, [], ◌∷◌, length, map, Option, Some, None, is_some, refl, sym, ap, ◌∙◌, arith, lt-ltb, ltb-false}
use Rattle.std.specs.Prelude.{IfSome}
use Rattle.cell_rows.specs.Device.{ArrayState}
use Rattle.bank_shape.specs.{Acting.{choice, chosen_by}, Pausing.gives_way, declared.clock.Action.Action, declared.clock.Doing.Doing}
use Rattle.bank_model.specs.{Changes.{change_after, keeping_after, halted_after}, History.{Awaited, waits}}
use Rattle.bank_model.specs.{Running.{busy_by, ready_by, busy_after, ready_after, started, chosen_after, running, running_at}, Timing.{TimedEvent, ends, core, is_empty, last_tick}}
use Rattle.bank_invariant.{specs.Bridge.AgreesWith, specs.Holds.waiting_of, specs.State.may_begin, proofs.Agreeing.agree_law}
use Rattle.clock_laws.specs.{Leads.Leads, State.{ClockState, is_busy, may_start, started_at, or_else, chosen, next_action}}

-- Ticks

-- no action is chosen at a tick before its events
pub started-same : (r : Option Action) (d : Option Doing) (tick : ℕ) → started r d tick tick ≡ r
started-same r d tick = grind arith

-- the action that runs from now on is the one that runs at each later tick
next-started : (r : Option Action) (d : Option Doing) (last now to : ℕ) → last ≤ now → now < to
    → or_else (started r d last now) (started_at now d) ≡ started r d last to
next-started (Some action) d last now to before later = refl
next-started None None last now to before later = refl
next-started None (Some doing) last now to before later =
    by (nat_lt last now) (ltb-false last now)
    ∙ ap (λ b. cond b (Some (record { doing = doing; first = last })) None) (sym (lt-ltb last to (omega arith)))
  where
    by : (b : Bool) → (b ≡ false → now ≤ last)
        → or_else (cond b (Some (record { doing = doing; first = last })) None) (Some (record { doing = doing; first = now })) ≡ Some (record { doing = doing; first = last })
    by true none = refl
    by false none = let same : now ≡ last = omega (arith, before, none refl) in ap (λ (tick : ℕ). Some (record { doing = doing; first = tick })) same

-- where none runs from now on, none ran and none was chosen
none-started : (r : Option Action) (d : Option Doing) (last now : ℕ) → or_else (started r d last now) (started_at now d) ≡ None → (r ≡ None) × (d ≡ None)
none-started (Some action) d last now none = cc
none-started None None last now none = (refl, refl)
none-started None (Some doing) last now none = absurd (by (nat_lt last now) none)
  where
    by : (b : Bool) → or_else (cond b (Some (record { doing = doing; first = last })) None) (Some (record { doing = doing; first = now })) ≡ None → ⊥
    by b none = grind arith

-- What is chosen

pub same_reads : (n : ℕ) (ws : List Awaited) → nat_lt 0 (length (map (waiting_of {n = n}) ws)) ≡ not (is_empty ws)
same_reads n [] = refl
same_reads n (w ∷ ws) = lt-ltb 0 (length (map (waiting_of {n = n}) (w ∷ ws))) (omega arith)

module _ {n m e : ℕ} (xs : List (TimedEvent n m)) (clock : ClockState n m e) (array : ArrayState n m) (leads : Leads xs clock array) where
  -- the bank is that of its history
  pub agrees : AgreesWith (core xs) clock.bank
  agrees = agree_law n m e (core xs) clock.bank array leads.holds

  -- whether a line write is in progress, or may be begun, is what the history says
  pub busy-same : is_busy clock.bank clock.regs ≡ busy_after clock.bank.kept.shape xs
  busy-same =
      ap (λ change. busy_by change (is_some clock.regs.writer) (is_some clock.bank.running)) leads.regs.change
      ∙ ap (λ keeping. busy_by (change_after clock.bank.kept.shape xs) keeping (is_some clock.bank.running)) leads.regs.writing
      ∙ ap (λ busy. busy_by (change_after clock.bank.kept.shape xs) (keeping_after xs) busy) leads.holds.running

  pub ready-same : may_start clock.bank clock.regs ≡ ready_after clock.bank.kept.shape xs
  ready-same =
      ap (λ change. ready_by change (is_some clock.regs.writer || clock.regs.halted) (may_begin clock.bank)) leads.regs.change
      ∙ ap (λ keeping. ready_by (change_after clock.bank.kept.shape xs) (keeping || clock.regs.halted) (may_begin clock.bank)) leads.regs.writing
      ∙ ap (λ halted. ready_by (change_after clock.bank.kept.shape xs) (keeping_after xs || halted) (may_begin clock.bank)) leads.regs.halted
      ∙ ap (λ ready. ready_by (change_after clock.bank.kept.shape xs) (keeping_after xs || halted_after xs) ready) agrees.ready

  pub chosen-after : chosen clock ≡ chosen_after clock.bank.kept.shape clock.pace xs
  chosen-after =
      let gives : Bool = gives_way clock.pace.policy in
      let reads : Bool = not (is_empty (waits clock.bank.kept.shape (core xs))) in
      ap (λ reads. chosen_by gives reads (choice (is_busy clock.bank clock.regs) (may_start clock.bank clock.regs)))
      (ap (λ ws. nat_lt 0 (length ws)) leads.holds.waiting ∙ same_reads n (waits clock.bank.kept.shape (core xs)))
      ∙ ap (λ busy. chosen_by gives reads (choice busy (may_start clock.bank clock.regs))) busy-same
      ∙ ap (λ ready. chosen_by gives reads (choice (busy_after clock.bank.kept.shape xs) ready)) ready-same

  same_action : next_action clock
      ≡ or_else (started (running clock.bank.kept.shape clock.pace xs) (chosen_after clock.bank.kept.shape clock.pace xs) (last_tick xs) clock.tick)
      (started_at clock.tick (chosen_after clock.bank.kept.shape clock.pace xs))
  same_action =
      ap (λ action. or_else action (started_at clock.tick (chosen clock))) leads.told.runs
      ∙ ap (λ doing. or_else (running_at clock.bank.kept.shape clock.pace xs clock.tick) (started_at clock.tick doing)) chosen-after

  -- the action that runs from now on is the one that runs at each later tick
  pub next-runs : (to : ℕ) → clock.tick < to → next_action clock ≡ running_at clock.bank.kept.shape clock.pace xs to
  next-runs to later =
      same_action
      ∙ next-started (running clock.bank.kept.shape clock.pace xs) (chosen_after clock.bank.kept.shape clock.pace xs) (last_tick xs) clock.tick to leads.told.now later

  -- where none runs from now on, the history leaves none and chooses none
  pub next-none : next_action clock ≡ None
      → (running clock.bank.kept.shape clock.pace xs ≡ None) × (chosen_after clock.bank.kept.shape clock.pace xs ≡ None)
  next-none none =
      none-started (running clock.bank.kept.shape clock.pace xs) (chosen_after clock.bank.kept.shape clock.pace xs) (last_tick xs) clock.tick (sym same_action ∙ none)

-- Ends

-- the action that runs from now on ends later, where each lasts
pub ends-later : {n m e : ℕ} (clock : ClockState n m e) → IfSome clock.action (λ a. clock.tick < ends clock.pace a) → 1 ≤ clock.pace.read → 1 ≤ clock.pace.iter
    → IfSome (next_action clock) (λ a. clock.tick < ends clock.pace a)
ends-later clock above some some_iter = by clock.action (chosen clock) above
  where
    by : (r : Option Action) (d : Option Doing) → IfSome r (λ a. clock.tick < ends clock.pace a) → IfSome (or_else r (started_at clock.tick d)) (λ a. clock.tick < ends clock.pace a)
    by r d above = grind arith
