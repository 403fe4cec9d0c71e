-- How a bank runs on to which nothing comes: at which ticks its actions end, and what its registers stand for where none is left.
use Rattle.std.specs.Prelude.{◌≡◌, ℕ, ◌+◌, ◌<◌, ◌≤◌, IsTrue, List, [], ◌∷◌, ◌++◌, None, IsSomeAnd, All}
use Rattle.cell_rows.specs.Device.{ArrayState}
use Rattle.start_gap.specs.Rotation.{StandsFor}
use Rattle.power_recovery.specs.Kept.{region_at}
use Rattle.bank_model.specs.{Events.{Serve, Begin, Iterate}, Lawful.Lawful, Timing.{Happens, Core, Regs, KeepBegin, KeepIterate, TimedEvent}}
use Rattle.bank_shape.specs.declared.pace.Pace.{Pace}
use Rattle.ecp_line.specs.ArrayLines.{is_worn_at}
use Rattle.bank_laws.specs.{Outcomes.table_of, Ticks.ends_action}
use Rattle.right_runs.specs.Ends.{is_moved}
use Rattle.clock_laws.specs.{Leads.Leads, State.{ClockState, next_action}}

-- how many ticks the action lasted that this ended; an arrival or a cut ends none
abbrev pub ticks_of : {n : ℕ} → Pace → Happens n → ℕ
ticks_of pace (Core (Serve answer)) = pace.read
ticks_of pace (Core (Begin answer)) = pace.read
ticks_of pace (Core (Iterate answer)) = pace.iter
ticks_of pace (Regs (KeepBegin answer)) = pace.read
ticks_of pace (Regs (KeepIterate answer)) = pace.iter
ticks_of pace _ = 0

-- how many ticks the actions lasted together that these events ended
abbrev pub ticks_in : {n m : ℕ} → Pace → List (TimedEvent n m) → ℕ
ticks_in pace [] = 0
ticks_in pace (x ∷ xs) = ticks_of pace x.happens + ticks_in pace xs

-- events that all end actions come without a gap behind a history that leads to a clock: the last one comes as many ticks after the
-- begin of the action that runs from now on as their actions last together
abbrev pub NoGapLaw : Type 0
NoGapLaw =
    (n m e : ℕ) (x : TimedEvent n m) (added xs : List (TimedEvent n m)) (clock : ClockState n m e) (array : ArrayState n m)
    → 1 ≤ clock.pace.read → 1 ≤ clock.pace.iter → Leads xs clock array
    → Lawful clock.bank.kept.shape clock.pace e (x ∷ (added ++ xs)) → All (λ y. IsTrue (ends_action y.happens)) (x ∷ added)
    → IsSomeAnd (next_action clock) (λ a. x.tick ≡ a.first + ticks_in clock.pace (x ∷ added))

-- a region's registers stand for one move for each psi of its stores; or for one less, where one more is due and too many lines are
-- worn, or a control line
abbrev pub FollowsStores : {n m e : ℕ} → List (TimedEvent n m) → ClockState n m e → ArrayState n m → ℕ → Type 0
FollowsStores {e = e} xs clock array region =
    (moves : ℕ) × StandsFor (region_at clock.bank.kept region).rotation moves
    × IsTrue (is_moved clock.bank.kept.shape (is_worn_at e array) (table_of clock.bank.kept.shape xs) region moves)

-- so do those of each region where no action runs and none is chosen
abbrev pub RestingRegistersLaw : Type 0
RestingRegistersLaw =
    (n m e region : ℕ) (xs : List (TimedEvent n m)) (clock : ClockState n m e) (array : ArrayState n m)
    → 1 ≤ clock.pace.read → 1 ≤ clock.pace.iter → Leads xs clock array → next_action clock ≡ None → region < clock.bank.kept.shape.regions
    → FollowsStores xs clock array region
