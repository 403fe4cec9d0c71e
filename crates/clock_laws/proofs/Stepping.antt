-- One more event.
use Rattle.std.proofs.Common.{◌≡◌, ℕ, ◌<◌, Bool, true, false, List, [], ◌∷◌, map, Option, is_some, refl, sym, ap, subst, ◌∙◌, arith}
use Rattle.std.specs.Prelude.{All, IfSome, IsTrue}
use Rattle.cell_rows.specs.Device.{ArrayState}
use Rattle.bank_shape.specs.{Shape.controls_of, declared.BankShape.BankShape, declared.clock.Action.Action, declared.pace.Pace.Pace}
use Rattle.bank_model.specs.{Answers.MayAll, Changes.{change_after, line_of_change}, Events.BankEvent, History.queue}
use Rattle.bank_model.specs.Lawful.{IsAsked, IsOnTime, IsKeptOnTime, IsUncancelled, MayKeep, MayCome, Lawful, FollowsCancel}
use Rattle.bank_model.specs.Running.{left_by, running_at, running, chosen_after, cancels_with}
use Rattle.bank_model.specs.Sensing.{most_steps, pulses_of, sensed_by, pulsed_by, read_again, torn_control, kept_sensed, kept_pulsed, IsReadRight}
use Rattle.bank_model.specs.{Timing.{TimedEvent, Happens, Core, Regs, Keeping, ends, core}, Told.{IsWhole, tick_of_row}, Touching.{Touches, AreStruck, shown}}
use Rattle.reg_lines.specs.{Regs.RegsState, declared.Change.Change}
use Rattle.register_laws.specs.{Control.Control, Telling.{AreTold, item_of}}
use Rattle.bank_invariant.specs.{Holds.Holds, State.BankState}
use Rattle.clock_laws.{specs.Leads.{Leads, Reaches, HasAged, CopiesWhatItSensed}, specs.State.ClockState, specs.Tearing.GoesOnWriting, proofs.Aging.{IsStruckBy, aged-next}}
use Rattle.clock_laws.proofs.{Controls.change-known, Ranges.{AreIn, ArePulses, controls-in, sensed-in, kept-sensed-in, change-in, pulses-at, pulses-next, shown-all, shown-lines}}
use Rattle.clock_laws.proofs.{Ties.started-same, Wearing.has-aged-next}

-- the last event is no cancel, so nothing has to follow it
pub follows : {n m : ℕ} (shape : BankShape) (pace : Pace) (xs : List (TimedEvent n m)) (tick : ℕ) (event : BankEvent n) → IsWhole xs → FollowsCancel shape pace xs tick event
follows shape pace [] tick event whole = tt
follows shape pace (x ∷ xs) tick event whole = λ is. absurd (cc)

pub uncancelled : {n m : ℕ} (shape : BankShape) (pace : Pace) (xs : List (TimedEvent n m)) → IsWhole xs → IsUncancelled shape pace xs
uncancelled shape pace xs whole = grind arith

-- what happens, with the lines that it sensed and pulsed
abbrev pub stepped_as : {n m : ℕ} → Bool → Happens n → ℕ → ℕ → List ℕ → Option ℕ → ArrayState n m → TimedEvent n m
stepped_as cancels happens first tick sensed pulsed array =
    record { happens = happens; tick = tick; first = first; senses = shown tick sensed array; pulsed = pulsed; cancels = cancels }

-- that is no cancel
abbrev pub stepped : {n m : ℕ} → Happens n → ℕ → ℕ → List ℕ → Option ℕ → ArrayState n m → TimedEvent n m
stepped happens first tick sensed pulsed array = stepped_as false happens first tick sensed pulsed array

-- what is sensed shows the pulses that the history then counts
senses-all : {n m : ℕ} (shape : BankShape) (xs : List (TimedEvent n m)) (x : TimedEvent n m) (sensed : List ℕ) (array : ArrayState n m) → AreIn shape sensed → ArePulses shape (x ∷ xs) array
    → All (λ s. (s.tick ≡ x.tick) × (s.pulses ≡ pulses_of (x ∷ xs) s.line)) (shown x.tick sensed array)
senses-all shape xs x sensed array own pulses =
    shown-all shape x.tick sensed array (λ sense. (sense.tick ≡ x.tick) × (sense.pulses ≡ pulses_of (x ∷ xs) sense.line)) own
    (λ line is. (refl, pulses-at shape (x ∷ xs) array line pulses is))

-- a change that stands is of an item
pub some_item : (change : Option Change) → is_some change ≡ true → is_some (item_of change) ≡ true
some_item change is = grind arith

module _ {n m e : ℕ} where
  -- the clock after it, with this bank and these control lines
  abbrev pub clock_at : ClockState n m e → BankState n m e → RegsState n m e → ℕ → Option Action → List ℕ → ℕ → ClockState n m e
  clock_at clock bank regs tick action arrivals count =
      record { bank = bank; regs = regs; pace = clock.pace; tick = tick; action = action; arrivals = arrivals; cancels = count; drained = clock.drained }

  -- what has to be known of any event
  pub record Steps (xs : List (TimedEvent n m)) (clock : ClockState n m e) (bank : BankState n m e) (regs : RegsState n m e) (x : TimedEvent n m) (action : Option Action)
      (arrivals : List ℕ) (count : ℕ) (new : ArrayState n m) : Type 0 where
    pub holds : Holds (core (x ∷ xs)) bank new
    pub shape : bank.kept.shape ≡ clock.bank.kept.shape
    pub taken : bank.lost ≡ []
    pub runs : action ≡ left_by clock.bank.kept.shape (core xs) (change_after clock.bank.kept.shape xs) x.happens (running_at clock.bank.kept.shape clock.pace xs x.tick)
    pub to_come : IfSome action (λ a. x.tick < ends clock.pace a)
    pub arrived : arrivals ≡ map (λ entry. tick_of_row entry.row (x ∷ xs)) (queue clock.bank.kept.shape (core (x ∷ xs)))
    pub cancels : count ≡ cancels_with x.happens x.cancels clock.cancels
    pub copying : IfSome bank.running (CopiesWhatItSensed (x ∷ xs))
    pub told : AreTold clock.bank.kept.shape (x ∷ xs) regs
    pub control : Control bank.kept regs new

  -- of an event of the bank
  pub record StepsBank (xs : List (TimedEvent n m)) (clock : ClockState n m e) (event : BankEvent n) (first tick : ℕ) (flag tearing : Bool) (sensed : List ℕ) (pulsed : Option ℕ)
      (old new : ArrayState n m) : Type 0 where
    pub asked : IsAsked (core xs) event
    pub on_time : IsOnTime clock.bank.kept.shape clock.pace (running_at clock.bank.kept.shape clock.pace xs tick) xs (stepped_as flag (Core event) first tick sensed pulsed new) event
    pub behind : FollowsCancel clock.bank.kept.shape clock.pace xs tick event
    pub senses : sensed ≡ sensed_by clock.bank.kept.shape (core xs) (read_again clock.bank.kept.shape flag) event
    pub pulses : pulsed
        ≡ pulsed_by clock.bank.kept.shape (core xs)
        (torn_control clock.bank.kept.shape (change_after clock.bank.kept.shape xs) (running_at clock.bank.kept.shape clock.pace xs tick)) event
    pub right : IsReadRight e clock.bank.kept.shape xs event (shown tick sensed new)
    pub touches : Touches tick sensed pulsed tearing old new
    pub struck : AreStruck clock.bank.kept.shape (core xs) event pulsed old new

  -- of an event of the change that stands
  pub record StepsKept (xs : List (TimedEvent n m)) (clock : ClockState n m e) (event : Keeping) (first tick : ℕ) (flag tearing : Bool) (sensed : List ℕ) (pulsed : Option ℕ)
      (old new : ArrayState n m) : Type 0 where
    pub stands : IsTrue (is_some clock.regs.change)
    pub may : MayKeep clock.bank.kept.shape clock.pace (most_steps e) xs event
    pub on_time : IsKeptOnTime clock.bank.kept.shape clock.pace (running_at clock.bank.kept.shape clock.pace xs tick) xs (stepped_as flag (Regs event) first tick sensed pulsed new) event
    pub behind : IsUncancelled clock.bank.kept.shape clock.pace xs
    pub senses : sensed ≡ kept_sensed (line_of_change clock.bank.kept.shape (item_of clock.regs.change)) event
    pub pulses : pulsed ≡ kept_pulsed (line_of_change clock.bank.kept.shape (item_of clock.regs.change)) event
    pub touches : Touches tick sensed pulsed tearing old new

  module _ (xs : List (TimedEvent n m)) (clock : ClockState n m e) (old new : ArrayState n m) (reached : Reaches xs clock old) where
    change_known : IfSome (item_of clock.regs.change) (λ item. item < controls_of clock.bank.kept.shape)
    change_known = change-known clock.bank.kept clock.regs reached.control

    -- an event of the bank may come
    pub bank-comes : (bank : BankState n m e) (event : BankEvent n) (first tick : ℕ) (flag tearing : Bool) (sensed : List ℕ) (pulsed : Option ℕ)
        → Holds (event ∷ core xs) bank new → bank.kept.shape ≡ clock.bank.kept.shape → StepsBank xs clock event first tick flag tearing sensed pulsed old new
        → MayCome clock.bank.kept.shape clock.pace e xs (stepped_as flag (Core event) first tick sensed pulsed new) (Core event)
    bank-comes bank event first tick flag tearing sensed pulsed holds same s =
        let x : TimedEvent n m = stepped_as flag (Core event) first tick sensed pulsed new in
        let past : MayAll clock.bank.kept.shape (most_steps e) (event ∷ core xs) = subst (λ (shape : BankShape). MayAll shape (most_steps e) (event ∷ core xs)) same holds.past in
        let own : AreIn clock.bank.kept.shape sensed =
        subst (λ (lines : List ℕ). AreIn clock.bank.kept.shape lines) (sym s.senses)
        (sensed-in (core xs) clock.bank old reached.holds (read_again clock.bank.kept.shape flag) event (controls-in clock.bank.kept.shape flag)) in
        record {
          asked = s.asked;
          may = past.0;
          on_time = s.on_time;
          behind = s.behind;
          lines = shown-lines tick sensed new ∙ s.senses;
          senses = senses-all clock.bank.kept.shape xs x sensed new own (pulses-next clock.bank.kept.shape xs x sensed tearing old new reached.pulses s.touches);
          pulsed = s.pulses;
          right = s.right;
        }

    -- an event of the change that stands may come
    pub kept-comes : (event : Keeping) (first tick : ℕ) (flag tearing : Bool) (sensed : List ℕ) (pulsed : Option ℕ) → StepsKept xs clock event first tick flag tearing sensed pulsed old new
        → MayCome clock.bank.kept.shape clock.pace e xs (stepped_as flag (Regs event) first tick sensed pulsed new) (Regs event)
    kept-comes event first tick flag tearing sensed pulsed s =
        let x : TimedEvent n m = stepped_as flag (Regs event) first tick sensed pulsed new in
        let own : AreIn clock.bank.kept.shape sensed =
        subst (λ (lines : List ℕ). AreIn clock.bank.kept.shape lines) (sym s.senses)
        (kept-sensed-in clock.bank.kept.shape (line_of_change clock.bank.kept.shape (item_of clock.regs.change)) event
        (change-in clock.bank.kept.shape (item_of clock.regs.change) change_known)) in
        record {
          stands =
              ap (λ change. is_some change) (sym reached.regs.change) ∙ some_item clock.regs.change s.stands;
          may = s.may;
          on_time = s.on_time;
          behind = s.behind;
          lines = shown-lines tick sensed new ∙ s.senses ∙ ap (λ change. kept_sensed (line_of_change clock.bank.kept.shape change) event) reached.regs.change;
          senses = senses-all clock.bank.kept.shape xs x sensed new own (pulses-next clock.bank.kept.shape xs x sensed tearing old new reached.pulses s.touches);
          pulsed = s.pulses ∙ ap (λ change. kept_pulsed (line_of_change clock.bank.kept.shape change) event) reached.regs.change;
        }

    -- the lines of the bank age on
    pub still-aged : (x : TimedEvent n m) (regs : RegsState n m e) (sensed : List ℕ) (tearing : Bool) → MayCome clock.bank.kept.shape clock.pace e xs x x.happens
        → Touches x.tick sensed x.pulsed tearing old new → IsStruckBy clock.bank.kept.shape (core xs) x.happens x.pulsed old new
        → GoesOnWriting x.tick clock.regs regs x.happens x.pulsed old new → HasAged clock.bank.kept.shape (x ∷ xs) regs new
    still-aged x regs sensed tearing comes touches struck goes =
        has-aged-next xs clock x regs sensed tearing old new reached touches comes goes
        (aged-next clock.bank.kept.shape clock.pace e xs x sensed tearing old new reached.holds.past reached.pulses touches comes struck reached.aged.lines)

  module _ (xs : List (TimedEvent n m)) (clock : ClockState n m e) (bank : BankState n m e) (regs : RegsState n m e) (x : TimedEvent n m) (action : Option Action) (arrivals : List ℕ) (count : ℕ)
      (old new : ArrayState n m) (reached : Reaches xs clock old) (comes : MayCome clock.bank.kept.shape clock.pace e xs x x.happens) (pulses : ArePulses clock.bank.kept.shape (x ∷ xs) new)
      (aged : HasAged clock.bank.kept.shape (x ∷ xs) regs new)
      (s : Steps xs clock bank regs x action arrivals count new) where
    -- what depends on the shape
    record After (shape : BankShape) : Type 0 where
      lawful : Lawful shape clock.pace e (x ∷ xs)
      runs : action ≡ running_at shape clock.pace (x ∷ xs) x.tick
      arrived : arrivals ≡ map (λ entry. tick_of_row entry.row (x ∷ xs)) (queue shape (core (x ∷ xs)))
      counted : ArePulses shape (x ∷ xs) new
      aging : HasAged shape (x ∷ xs) regs new
      told : AreTold shape (x ∷ xs) regs

    after : After clock.bank.kept.shape
    after = record {
      lawful = (comes, reached.lawful);
      runs =
          s.runs
          ∙ sym (started-same (running clock.bank.kept.shape clock.pace (x ∷ xs)) (chosen_after clock.bank.kept.shape clock.pace (x ∷ xs)) x.tick);
      arrived = s.arrived;
      counted = pulses;
      aging = aged;
      told = s.told;
    }

    -- the history goes on with the event
    pub stepped-reaches : Reaches (x ∷ xs) (clock_at clock bank regs x.tick action arrivals count) new
    stepped-reaches =
        let all : After bank.kept.shape = subst (λ (shape : BankShape). After shape) (sym s.shape) after in
        record {
          lawful = all.lawful;
          holds = s.holds;
          now = omega arith;
          runs = all.runs;
          to_come = s.to_come;
          arrived = all.arrived;
          cancels = s.cancels ∙ ap (cancels_with x.happens x.cancels) reached.cancels;
          regs = all.told;
          control = s.control;
          pulses = all.counted;
          aged = all.aging;
          copying = s.copying;
          taken = s.taken;
        }

  -- what leads somewhere reaches it
  pub leads-reaches : (xs : List (TimedEvent n m)) (clock : ClockState n m e) (array : ArrayState n m) → Leads xs clock array → Reaches xs clock array
  leads-reaches xs clock array leads = record {
    lawful = leads.lawful;
    holds = leads.holds;
    now = leads.told.now;
    runs = leads.told.runs;
    to_come = leads.told.to_come;
    arrived = leads.told.arrived;
    cancels = leads.told.cancels;
    regs = leads.regs;
    control = leads.control;
    pulses = leads.pulses;
    aged = leads.aged;
    copying = leads.copying;
    taken = leads.taken;
  }

  -- and what reaches it whole leads there
  pub reaches-leads : (xs : List (TimedEvent n m)) (clock : ClockState n m e) (array : ArrayState n m) → Reaches xs clock array → IsWhole xs → Leads xs clock array
  reaches-leads xs clock array r whole = record {
    lawful = r.lawful;
    holds = r.holds;
    told = record { now = r.now; runs = r.runs; to_come = r.to_come; arrived = r.arrived; cancels = r.cancels; whole = whole };
    regs = r.regs;
    control = r.control;
    pulses = r.pulses;
    aged = r.aged;
    copying = r.copying;
    taken = r.taken;
  }

  -- an event of the bank
  pub bank-reaches : (xs : List (TimedEvent n m)) (clock : ClockState n m e) (bank : BankState n m e) (regs : RegsState n m e) (event : BankEvent n) (first tick : ℕ) (action : Option Action)
      (arrivals : List ℕ) (count : ℕ) (flag tearing : Bool) (sensed : List ℕ) (pulsed : Option ℕ) (old new : ArrayState n m) → Reaches xs clock old
      → StepsBank xs clock event first tick flag tearing sensed pulsed old new
      → GoesOnWriting tick clock.regs regs (Core event) pulsed old new
      → Steps xs clock bank regs (stepped_as flag (Core event) first tick sensed pulsed new) action arrivals count new
      → Reaches (stepped_as flag (Core event) first tick sensed pulsed new ∷ xs) (clock_at clock bank regs tick action arrivals count) new
  bank-reaches xs clock bank regs event first tick action arrivals count flag tearing sensed pulsed old new reached b goes s =
      stepped-reaches xs clock bank regs (stepped_as flag (Core event) first tick sensed pulsed new) action arrivals count old new reached
      (bank-comes xs clock old new reached bank event first tick flag tearing sensed pulsed s.holds s.shape b)
      (pulses-next clock.bank.kept.shape xs (stepped_as flag (Core event) first tick sensed pulsed new) sensed tearing old new reached.pulses b.touches)
      (still-aged xs clock old new reached (stepped_as flag (Core event) first tick sensed pulsed new) regs sensed tearing
      (bank-comes xs clock old new reached bank event first tick flag tearing sensed pulsed s.holds s.shape b) b.touches b.struck goes) s

  pub bank-leads : (xs : List (TimedEvent n m)) (clock : ClockState n m e) (bank : BankState n m e) (regs : RegsState n m e) (event : BankEvent n) (first tick : ℕ) (action : Option Action)
      (arrivals : List ℕ) (count : ℕ) (tearing : Bool) (sensed : List ℕ) (pulsed : Option ℕ) (old new : ArrayState n m) → Reaches xs clock old
      → StepsBank xs clock event first tick false tearing sensed pulsed old new
      → GoesOnWriting tick clock.regs regs (Core event) pulsed old new
      → Steps xs clock bank regs (stepped (Core event) first tick sensed pulsed new) action arrivals count new
      → Leads (stepped (Core event) first tick sensed pulsed new ∷ xs) (clock_at clock bank regs tick action arrivals count) new
  bank-leads xs clock bank regs event first tick action arrivals count tearing sensed pulsed old new reached b goes s =
      reaches-leads (stepped (Core event) first tick sensed pulsed new ∷ xs) (clock_at clock bank regs tick action arrivals count) new
      (bank-reaches xs clock bank regs event first tick action arrivals count false tearing sensed pulsed old new reached b goes s) refl

  -- an event of the change that stands
  pub kept-reaches : (xs : List (TimedEvent n m)) (clock : ClockState n m e) (bank : BankState n m e) (regs : RegsState n m e) (event : Keeping) (first tick : ℕ) (action : Option Action)
      (arrivals : List ℕ) (count : ℕ) (flag tearing : Bool) (sensed : List ℕ) (pulsed : Option ℕ) (old new : ArrayState n m) → Reaches xs clock old
      → StepsKept xs clock event first tick flag tearing sensed pulsed old new
      → GoesOnWriting tick clock.regs regs (Regs event) pulsed old new
      → Steps xs clock bank regs (stepped_as flag (Regs event) first tick sensed pulsed new) action arrivals count new
      → Reaches (stepped_as flag (Regs event) first tick sensed pulsed new ∷ xs) (clock_at clock bank regs tick action arrivals count) new
  kept-reaches xs clock bank regs event first tick action arrivals count flag tearing sensed pulsed old new reached k goes s =
      stepped-reaches xs clock bank regs (stepped_as flag (Regs event) first tick sensed pulsed new) action arrivals count old new reached
      (kept-comes xs clock old new reached event first tick flag tearing sensed pulsed k)
      (pulses-next clock.bank.kept.shape xs (stepped_as flag (Regs event) first tick sensed pulsed new) sensed tearing old new reached.pulses k.touches)
      (still-aged xs clock old new reached (stepped_as flag (Regs event) first tick sensed pulsed new) regs sensed tearing
      (kept-comes xs clock old new reached event first tick flag tearing sensed pulsed k) k.touches tt goes) s
