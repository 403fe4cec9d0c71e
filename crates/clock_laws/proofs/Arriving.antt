-- A write or a read that arrives.
use Rattle.std.proofs.Common.{◌≡◌, ℕ, ◌<◌, ◌==◌, ◌&&◌, nat_lt, Bool, true, false, cond, if◌then◌else◌, List, [], ◌∷◌, ◌++◌, zero, suc, map, slice_get, slice_set, Option, Some, None, refl, sym, ap, subst, ◌∙◌, arith, eq-eqb, append-nil}
use Rattle.std.{specs.Prelude.{IfSome, IsSomeAnd, not, length}, proofs.lemmas.List.map_push}
use Rattle.masked_bytes.specs.{Entries.{has_row, merged, laid_on, layer_of}, Masked.gives_all, declared.entry.Entry.Entry}
use Rattle.masked_bytes.proofs.Truth.{neither_first, neither_second, differ_sym}
use Rattle.cell_rows.specs.Device.{ArrayState}
use Rattle.bank_shape.specs.{Pausing.{is_cancelling, most_cancels}, declared.BankShape.BankShape, declared.answer.ReadAnswer.ReadAnswer, declared.answer.WriteAnswer.WriteAnswer}
use Rattle.bank_shape.specs.{declared.clock.Action.Action, declared.clock.Doing.TheVariants.Beginning}
use Rattle.bank_shape.specs.declared.answer.WriteAnswer.TheVariants as wrote
use Rattle.bank_shape.specs.declared.answer.ReadAnswer.TheVariants as came
use Rattle.power_recovery.specs.Kept.{KeptState}
use Rattle.bank_model.specs.{After.is_store_of, Changes.change_after, Events.{BankEvent, Write, Read, RowsBelow}, History.{queue, waits}}
use Rattle.bank_model.specs.{Lawful.{IsArrival, IsForwarded, would_cancel}, Running.{drops_begin, left, running_at, cancels_after}}
use Rattle.bank_model.specs.{Timing.{TimedEvent, Core, ends, is_doing, is_writing, is_empty, core, last_tick}, Told.tick_of_row, Touching.Touches}
use Rattle.bank_laws.proofs.Standing.{stand_apart}
use Rattle.bank_invariant.specs.{Serving.read_from, State.{BankState, Operation}}
use Rattle.reg_lines.specs.declared.Change.{Change}
use Rattle.register_laws.specs.{Control.Control, Telling.item_of}
use Rattle.clock_laws.specs.{Arriving.{WriteLaw, ReadLaw, KeepsWork, arrivals_after, IsIndexOf, drops, action_after_read, cancels_for}, Leads.{Leads, CopiesWhatItSensed}}
use Rattle.clock_laws.{specs.State.ClockState, proofs.Controls.control-kept, proofs.Putting.told-on, proofs.Stepping.{follows, stepped, leads-reaches, bank-leads}}
use Rattle.clock_laws.proofs.Ties.{agrees, same_reads}

-- Arrival ticks

-- the arrival tick of a row, where this row arrives at this tick
abbrev with_row : ℕ → ℕ → (ℕ → ℕ) → ℕ → ℕ
with_row row tick ticks at = if row == at then tick else ticks at

module _ {n : ℕ} (row tick : ℕ) (ticks : ℕ → ℕ) where
  -- other entries keep theirs
  ticks-others : (es : List (Entry n)) → has_row es row ≡ false → map (λ entry. ticks entry.row) es ≡ map (λ entry. with_row row tick ticks entry.row) es
  ticks-others [] none = refl
  ticks-others (entry ∷ es) none =
      let off : (row == entry.row) ≡ false = differ_sym entry.row row (neither_first (entry.row == row) (has_row es row) none) in
      ap (λ b. cond b tick (ticks entry.row) ∷ map (λ entry. ticks entry.row) es) (sym off)
      ∙ ap (λ rest. with_row row tick ticks entry.row ∷ rest) (ticks-others es (neither_second (entry.row == row) (has_row es row) none))

  -- an entry that comes last
  ticks-accepted : (es : List (Entry n)) (entry : Entry n) → entry.row ≡ row → has_row es row ≡ false
      → map (λ entry. ticks entry.row) es ++ tick ∷ [] ≡ map (λ entry. with_row row tick ticks entry.row) (es ++ entry ∷ [])
  ticks-accepted es entry is none =
      ap (λ rest. rest ++ tick ∷ []) (ticks-others es none)
      ∙ ap (λ b. map (λ entry. with_row row tick ticks entry.row) es ++ cond b tick (ticks entry.row) ∷ []) (sym (eq-eqb row entry.row (sym is)))
      ∙ sym (map_push (λ entry. with_row row tick ticks entry.row) es entry)

  -- a list of entries has an entry of a row at an index
  abbrev HasAt : List (Entry n) → ℕ → ℕ → Type 0
  HasAt es index at = IsSomeAnd (slice_get es index) (λ entry. entry.row ≡ at)

  not-at : (es : List (Entry n)) (index : ℕ) → has_row es row ≡ false → HasAt es index row → ⊥
  not-at [] index none has = has
  not-at (entry ∷ es) zero none has =
      let is : (entry.row == row) ≡ true = eq-eqb entry.row row has in
      let off : (entry.row == row) ≡ false = neither_first (entry.row == row) (has_row es row) none in
      cc
  not-at (entry ∷ es) (suc index) none has = not-at es index (neither_second (entry.row == row) (has_row es row) none) has

  -- one that another is merged into
  ticks-merged : (old : ℕ) (bytes : List ℕ) (given : List Bool) (es : List (Entry n)) (index : ℕ) → has_row es row ≡ false → HasAt (merged old row bytes given es) index row
      → slice_set (map (λ entry. ticks entry.row) es) index tick ≡ map (λ entry. with_row row tick ticks entry.row) (merged old row bytes given es)
  ticks-merged old bytes given [] index none has = absurd has
  ticks-merged old bytes given (entry ∷ es) index none has =
      by (entry.row == old) index (λ at. ticks-merged old bytes given es at rest) has
    where
      rest : has_row es row ≡ false
      rest = neither_second (entry.row == row) (has_row es row) none

      off : (entry.row == row) ≡ false
      off = neither_first (entry.row == row) (has_row es row) none

      by : (b : Bool) (index : ℕ)
          → ((at : ℕ) → HasAt (merged old row bytes given es) at row → slice_set (map (λ entry. ticks entry.row) es) at tick ≡ map (λ entry. with_row row tick ticks entry.row) (merged old row bytes given es))
          → HasAt (if b then laid_on row bytes given entry ∷ es else entry ∷ merged old row bytes given es) index row
          → slice_set (ticks entry.row ∷ map (λ entry. ticks entry.row) es) index tick
          ≡ map (λ entry. with_row row tick ticks entry.row) (if b then laid_on row bytes given entry ∷ es else entry ∷ merged old row bytes given es)
      by true zero next has =
          ap (λ rest. tick ∷ rest) (ticks-others es rest)
          ∙ ap (λ b. cond b tick (ticks row) ∷ map (λ entry. with_row row tick ticks entry.row) es) (sym (eq-eqb row row refl))
      by true (suc index) next has = absurd (not-at es index rest has)
      by false zero next has = let is : (entry.row == row) ≡ true = eq-eqb entry.row row has in absurd (cc)
      by false (suc index) next has =
          ap (λ b. cond b tick (ticks entry.row) ∷ slice_set (map (λ entry. ticks entry.row) es) index tick) (sym (differ_sym entry.row row off))
          ∙ ap (λ rest. with_row row tick ticks entry.row ∷ rest) (next index has)

-- Writes and reads

-- nothing is touched
pub untouched : {n m : ℕ} (tick : ℕ) (array : ArrayState n m) → Touches tick [] None false array array
untouched tick array = record {
  lines = refl;
  others = λ line off. refl;
  pulses = λ line is. absurd (cc);
  sticks = λ line is. absurd (cc);
  tears = refl;
  wear = refl;
  bounds = refl;
  log = λ after is. (after, is, sym (append-nil after));
}

module _ {n m e : ℕ} (xs : List (TimedEvent n m)) (clock : ClockState n m e) (array : ArrayState n m) (leads : Leads xs clock array) where
  pub arrives : (x : TimedEvent n m) → x.first ≡ clock.tick → x.tick ≡ clock.tick → IsArrival clock.pace (running_at clock.bank.kept.shape clock.pace xs clock.tick) (last_tick xs) x
  arrives x first is = (
    first ∙ sym is,
    omega (arith, leads.told.now, is),
    subst (λ (runs : Option Action). IfSome runs (λ a. x.tick < ends clock.pace a)) leads.told.runs
        (subst (λ (tick : ℕ). IfSome clock.action (λ a. tick < ends clock.pace a)) (sym is) leads.told.to_come),
  )

  none-stands : (row : ℕ) → RowsBelow (core xs) row → has_row (queue clock.bank.kept.shape (core xs)) row ≡ false
  none-stands row below = (stand_apart clock.bank.kept.shape (core xs) row below).queued_below row (omega arith)

  -- what the bank then keeps of each item is the same
  pub arrived-control : (bank : BankState n m e) → KeepsWork clock.bank bank → Control bank.kept clock.regs array
  arrived-control bank keeps = control-kept clock.bank.kept bank.kept clock.regs array keeps.shape keeps.items leads.control

pub copies-on : {n m e : ℕ} (xs : List (TimedEvent n m)) (old running : Option (Operation n m e)) (x : TimedEvent n m) → running ≡ old → IfSome old (CopiesWhatItSensed xs)
    → ((op : Operation n m e) → CopiesWhatItSensed xs op → CopiesWhatItSensed (x ∷ xs) op) → IfSome running (CopiesWhatItSensed (x ∷ xs))
copies-on {n} {m} {e} xs old running x is copying still = by running (subst (λ (r : Option (Operation n m e)). IfSome r (CopiesWhatItSensed xs)) (sym is) copying)
  where
    by : (r : Option (Operation n m e)) → IfSome r (CopiesWhatItSensed xs) → IfSome r (CopiesWhatItSensed (x ∷ xs))
    by None own = tt
    by (Some op) own = still op own

-- the arrival ticks of the queue after a write
write-arrived : {n m : ℕ} (shape : BankShape) (xs : List (TimedEvent n m)) (kept : KeptState n) (array : ArrayState n m) (row line index tick : ℕ) (bytes : List ℕ) (given : List Bool) (answer : WriteAnswer) (arrivals : List ℕ)
    → kept.entries ≡ queue shape (Write row line bytes given answer ∷ core xs) → IsIndexOf kept row index answer → has_row (queue shape (core xs)) row ≡ false
    → arrivals ≡ map (λ entry. tick_of_row entry.row xs) (queue shape (core xs))
    → arrivals_after tick index answer arrivals
    ≡ map (λ entry. tick_of_row entry.row (stepped (Core (Write row line bytes given answer)) tick tick [] None array ∷ xs)) (queue shape (Write row line bytes given answer ∷ core xs))
write-arrived shape xs kept array row line index tick bytes given wrote.Accepted arrivals entries is_index none before =
    ap (λ ticks. ticks ++ tick ∷ []) before
    ∙ ticks-accepted row tick (λ at. tick_of_row at xs) (queue shape (core xs)) (record { row = row; line = line; bytes = bytes; given = given }) refl none
write-arrived {n = n} shape xs kept array row line index tick bytes given (wrote.Merged old) arrivals entries is_index none before =
    ap (λ ticks. slice_set ticks index tick) before
    ∙ ticks-merged row tick (λ at. tick_of_row at xs) old bytes given (queue shape (core xs)) index none
    (subst (λ (es : List (Entry n)). IsSomeAnd (slice_get es index) (λ entry. entry.row ≡ row)) entries is_index)
write-arrived shape xs kept array row line index tick bytes given wrote.Full arrivals entries is_index none before =
    before ∙ ticks-others row tick (λ at. tick_of_row at xs) (queue shape (core xs)) none
write-arrived shape xs kept array row line index tick bytes given wrote.Exhausted arrivals entries is_index none before =
    before ∙ ticks-others row tick (λ at. tick_of_row at xs) (queue shape (core xs)) none

-- the action that runs behind a read
drops-same : {n m e : ℕ} (xs : List (TimedEvent n m)) (clock : ClockState n m e) (array : ArrayState n m) (line : ℕ) (action : Option Action) → Leads xs clock array
    → drops clock.bank.kept clock.regs.change line action ≡ drops_begin clock.bank.kept.shape (core xs) (change_after clock.bank.kept.shape xs) line action
drops-same xs clock array line action leads = by clock.regs.change (change_after clock.bank.kept.shape xs) leads.regs.change
  where
    by : (change : Option Change) (item : Option ℕ) → item_of change ≡ item → drops clock.bank.kept change line action ≡ drops_begin clock.bank.kept.shape (core xs) item line action
    by None None is = ap (λ work. is_doing Beginning action && is_store_of line work) (agrees xs clock array leads).work
    by (Some change) (Some item) is = refl
    by _ _ is = absurd (cc)

read-left : {n m e : ℕ} (xs : List (TimedEvent n m)) (clock : ClockState n m e) (array : ArrayState n m) (row line : ℕ) (answer : ReadAnswer n) → Leads xs clock array
    → action_after_read clock.bank.kept clock.regs.change line answer clock.action
    ≡ left clock.bank.kept.shape (core xs) (change_after clock.bank.kept.shape xs) (Read row line answer) (running_at clock.bank.kept.shape clock.pace xs clock.tick)
read-left xs clock array row line came.Waiting leads =
    ap (λ b. cond b None clock.action) (drops-same xs clock array line clock.action leads)
    ∙ ap (λ runs. cond (drops_begin clock.bank.kept.shape (core xs) (change_after clock.bank.kept.shape xs) line runs) None runs) leads.told.runs
read-left xs clock array row line _ leads = leads.told.runs

pub read-to_come : {n : ℕ} (kept : KeptState n) (change : Option Change) (line : ℕ) (answer : ReadAnswer n) (action : Option Action) (P : Action → Type 0) → IfSome action P
    → IfSome (action_after_read kept change line answer action) P
read-to_come kept change line came.Waiting action P own = by (drops kept change line action)
  where
    by : (b : Bool) → IfSome (cond b None action) P
    by b = grind arith
read-to_come kept change line came.Busy action P own = own
read-to_come kept change line (came.Forwarded bytes) action P own = own

-- Whether a read would cancel

off_without : (a b c d g : Bool) → (a && (b && (c && (d && not g)))) ≡ false → g ≡ false → (a && (b && (c && d))) ≡ false
off_without a b c d g h k = grind arith

on_with : (a b c d g : Bool) → (a && (b && (c && (d && g)))) ≡ true → (a && (b && (c && d))) ≡ true
on_with a b c d g h = grind arith

pub off_idle : (a c : Bool) → (a && (false && c)) ≡ false
off_idle a c = grind arith

twice_not : (a : Bool) → not (not a) ≡ a
twice_not a = grind arith

module _ {n m e : ℕ} (xs : List (TimedEvent n m)) (clock : ClockState n m e) (array : ArrayState n m) (leads : Leads xs clock array) where
  -- what the bank and its clock say of it is what the history says
  would-same : (is_cancelling clock.pace.policy && (is_writing clock.action && (not (nat_lt 0 (length clock.bank.waiting)) && nat_lt clock.cancels most_cancels)))
      ≡ would_cancel clock.bank.kept.shape (core xs) clock.pace.policy (running_at clock.bank.kept.shape clock.pace xs clock.tick) (cancels_after xs)
  would-same =
      ap (λ runs. is_cancelling clock.pace.policy && (is_writing runs && (not (nat_lt 0 (length clock.bank.waiting)) && nat_lt clock.cancels most_cancels))) leads.told.runs
      ∙ ap (λ b. is_cancelling clock.pace.policy && (is_writing (running_at clock.bank.kept.shape clock.pace xs clock.tick) && (b && nat_lt clock.cancels most_cancels)))
      (ap not (ap (λ ws. nat_lt 0 (length ws)) leads.holds.waiting ∙ same_reads n (waits clock.bank.kept.shape (core xs))) ∙ twice_not (is_empty (waits clock.bank.kept.shape (core xs))))
      ∙ ap (λ count. is_cancelling clock.pace.policy && (is_writing (running_at clock.bank.kept.shape clock.pace xs clock.tick) && (is_empty (waits clock.bank.kept.shape (core xs)) && nat_lt count most_cancels))) leads.told.cancels

  stays_off : (line : ℕ) → gives_all (layer_of clock.bank.kept.entries line).given ≡ false → cancels_for clock line ≡ false
      → would_cancel clock.bank.kept.shape (core xs) clock.pace.policy (running_at clock.bank.kept.shape clock.pace xs clock.tick) (cancels_after xs) ≡ false
  stays_off line gives none =
      sym would-same
      ∙ off_without (is_cancelling clock.pace.policy) (is_writing clock.action) (not (nat_lt 0 (length clock.bank.waiting))) (nat_lt clock.cancels most_cancels) (gives_all (layer_of clock.bank.kept.entries line).given) none gives

  pub goes_on_with : (line : ℕ) → cancels_for clock line ≡ true
      → would_cancel clock.bank.kept.shape (core xs) clock.pace.policy (running_at clock.bank.kept.shape clock.pace xs clock.tick) (cancels_after xs) ≡ true
  goes_on_with line is =
      sym would-same
      ∙ on_with (is_cancelling clock.pace.policy) (is_writing clock.action) (not (nat_lt 0 (length clock.bank.waiting))) (nat_lt clock.cancels most_cancels) (not (gives_all (layer_of clock.bank.kept.entries line).given)) is

-- a read that isn't forwarded finds bytes of its line that the queue doesn't give
answered_not : {n m e : ℕ} (bank : BankState n m e) (line : ℕ) (answer : ReadAnswer n) → answer ≡ read_from bank line → (IsForwarded answer → ⊥) → gives_all (layer_of bank.kept.entries line).given ≡ false
answered_not {n = n} bank line answer is off = by (gives_all (layer_of bank.kept.entries line).given) refl
  where
    by : (b : Bool) → gives_all (layer_of bank.kept.entries line).given ≡ b → b ≡ false
    by b same = grind arith

pub write_law : WriteLaw
write_law n m e row line index bytes given answer xs clock bank array leads below keeps holds is_index =
    let event : BankEvent n = Write row line bytes given answer in
    let x : TimedEvent n m = stepped (Core event) clock.tick clock.tick [] None array in
    bank-leads xs clock bank clock.regs event clock.tick clock.tick clock.action (arrivals_after clock.tick index answer clock.arrivals) clock.cancels false [] None array array (leads-reaches xs clock array leads)
    (record {
      asked = below;
      on_time = (arrives xs clock array leads x refl refl, refl);
      behind = follows clock.bank.kept.shape clock.pace xs clock.tick event leads.told.whole;
      senses = refl;
      pulses = refl;
      right = tt;
      touches = untouched clock.tick array;
      struck = λ line below is live. cc;
    })
    refl
    (record {
      holds = holds;
      shape = keeps.shape;
      taken = keeps.lost ∙ leads.taken;
      runs = leads.told.runs;
      to_come = leads.told.to_come;
      arrived = write-arrived clock.bank.kept.shape xs bank.kept array row line index clock.tick bytes given answer clock.arrivals
          (holds.entries ∙ ap (λ (shape : BankShape). queue shape (event ∷ core xs)) keeps.shape) is_index
          (none-stands xs clock array leads row below) leads.told.arrived;
      cancels = refl;
      copying = copies-on xs clock.bank.running bank.running x keeps.running leads.copying (λ op own. own);
      told = told-on clock.bank.kept.shape xs x clock.regs (Core event) refl refl refl refl refl leads.regs;
      control = arrived-control xs clock array leads bank keeps;
    })

pub read_law : ReadLaw
read_law n m e row line answer xs clock bank array leads going answered below keeps holds =
    let event : BankEvent n = Read row line answer in
    let x : TimedEvent n m = stepped (Core event) clock.tick clock.tick [] None array in
    bank-leads xs clock bank clock.regs event clock.tick clock.tick (action_after_read clock.bank.kept clock.regs.change line answer clock.action) clock.arrivals clock.cancels false [] None array array
    (leads-reaches xs clock array leads)
    (record {
      asked = below;
      on_time = (arrives xs clock array leads x refl refl, refl, λ not_forwarded. stays_off xs clock array leads line (answered_not clock.bank line answer answered not_forwarded) going);
      behind = follows clock.bank.kept.shape clock.pace xs clock.tick event leads.told.whole;
      senses = refl;
      pulses = refl;
      right = tt;
      touches = untouched clock.tick array;
      struck = λ line below is live. cc;
    })
    refl
    (record {
      holds = holds;
      shape = keeps.shape;
      taken = keeps.lost ∙ leads.taken;
      runs = read-left xs clock array row line answer leads;
      to_come = read-to_come clock.bank.kept clock.regs.change line answer clock.action (λ a. clock.tick < ends clock.pace a) leads.told.to_come;
      arrived = leads.told.arrived;
      cancels = refl;
      copying = copies-on xs clock.bank.running bank.running x keeps.running leads.copying (λ op own. own);
      told = told-on clock.bank.kept.shape xs x clock.regs (Core event) refl refl refl refl refl leads.regs;
      control = arrived-control xs clock array leads bank keeps;
    })
