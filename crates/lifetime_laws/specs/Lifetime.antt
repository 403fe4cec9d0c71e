-- How long a module lives under the rotation: a bank whose hot lines are few keeps every slot's own line.
use Rattle.std.specs.{List.list_any, Prelude.{ℕ, ◌+◌, ◌*◌, ◌/◌, ◌<◌, ◌≤◌, ◌==◌, ◌&&◌, not, nat_lt, Bool, if◌then◌else◌, IsTrue, IsFalse, List, [], ◌∷◌, length, count_by}}
use Rattle.cell_rows.specs.Device.{CellBounds, ArrayState}
use Rattle.ecp_line.specs.{ArrayLines.is_worn_at, Layout.IsLayout}
use Rattle.row_rules.specs.{Answers.is_stored, Rows.{each_row, asks_write, asks_write_of, line_of, is_cut}, Table.KeepsRows, Ticking.{is_in_time, tries}, declared.Row.Row}
use Rattle.row_rules.specs.declared.Rules.{Rules}
use Rattle.bank_shape.specs.{Shape.{slots_of, controls_of}, declared.BankShape.BankShape, declared.pace.Pace.Pace}
use Rattle.bank_model.specs.{Aging.{AreAged, AreControlsAged}, Lawful.Lawful, Timing.{TimedEvent, core}}
use Rattle.bank_laws.specs.{Laws.{IsSized, LeavesArray}, Outcomes.table_of, Resting.IsStill}
use Rattle.right_runs.specs.{Banks.rules_of, KeepsLines.KeepsLines, KeepsPlaces.KeepsPlaces, LineWrites.{most_moves, most_kept, stores_at}, Places.{region_stores, is_placed}}
use Rattle.right_runs.specs.WornLines.{may_leave}
use Rattle.lifetime_laws.specs.{Endurance.{KeepsControls, is_unrefused, is_unqueued}, Spread.{most_at, stay, stores_on}}

-- the stores of a region that are of none of these lines
abbrev pub other_stores : {n : ℕ} → BankShape → ℕ → List ℕ → List (Row n) → ℕ
other_stores shape region hot rows =
    count_by (λ q. asks_write q.asks && (line_of q.asks / shape.lines == region
    && (not (list_any (λ h. h == line_of q.asks) hot) && is_stored q.outcome))) rows

-- the stores on a slot's own array line: of each hot line at most its share, and of the others at most all
abbrev pub HotLinesLaw : Type 0
HotLinesLaw =
    (n : ℕ) (rules : Rules) (shape : BankShape) (worn : ℕ → Bool) (rows : List (Row n)) (hot : List ℕ) (slot : ℕ)
    → 1 ≤ shape.lines → 1 ≤ shape.psi → 1 ≤ rules.read_ticks → slot < slots_of shape
    → IsTrue (each_row (is_in_time rules) rows []) → IsTrue (each_row (is_placed shape worn) rows [])
    → stores_at (shape.base + slot) rows
    ≤ length hot * most_at shape.lines shape.psi (region_stores is_stored shape (slot / (shape.lines + 1)) rows)
    + other_stores shape (slot / (shape.lines + 1)) hot rows

-- the stores of a line
abbrev pub own_stores : {n : ℕ} → ℕ → List (Row n) → ℕ
own_stores line rows = count_by (λ q. asks_write_of line q.asks && is_stored q.outcome) rows

-- an attack on one line: N + 1 times its stores on one slot's own array line are at most all its stores, those of other lines of its
-- region, and N stays more
abbrev pub AttackLaw : Type 0
AttackLaw =
    (n : ℕ) (rules : Rules) (shape : BankShape) (worn : ℕ → Bool) (rows : List (Row n)) (line slot : ℕ)
    → 1 ≤ shape.lines → 1 ≤ shape.psi → 1 ≤ rules.read_ticks → slot < slots_of shape
    → IsTrue (each_row (is_in_time rules) rows []) → IsTrue (each_row (is_placed shape worn) rows [])
    → (shape.lines + 1) * stores_on line (shape.base + slot) rows
    ≤ own_stores line rows + other_stores shape (line / shape.lines) (line ∷ []) rows + shape.lines * stay shape.lines shape.psi

-- so it is for every history of a bank, and the array that it leaves
abbrev pub KeptLinesLaw : Type 0
KeptLinesLaw =
    (n m e : ℕ) (shape : BankShape) (pace : Pace) (xs : List (TimedEvent n m)) (array : ArrayState n m)
    → IsSized shape pace → Lawful shape pace e xs → IsStill shape xs → LeavesArray e shape xs array
    → AreAged shape (core xs) array → AreControlsAged shape xs array
    → KeepsLines shape array (rules_of e shape pace) (table_of shape xs)

-- the most line writes of any one slot's own line of a region, each begun once, by numbers: each of the hot lines brings at most its share
-- of the region's stores, the other lines all of theirs; and there are the gap moves into it, one that gives it up, and one for each cut
abbrev pub most_works_by : (lines psi hot stores others cuts : ℕ) → ℕ
most_works_by lines psi hot stores others cuts =
    hot * most_at lines psi stores + others + most_moves lines (stores / psi) + 1 + cuts

-- so by the rows of a bank's table and a list of hot lines
abbrev pub most_hot_works : {n : ℕ} → BankShape → ℕ → List ℕ → List (Row n) → ℕ
most_hot_works shape region hot rows =
    most_works_by shape.lines shape.psi (length hot) (region_stores is_stored shape region rows) (other_stores shape region hot rows)
    (count_by is_cut rows)

-- the writes of a region that a trace asks for, and those that are of none of these lines
abbrev pub asked_writes : {n : ℕ} → BankShape → ℕ → List (Row n) → ℕ
asked_writes shape region rows = count_by (λ q. asks_write q.asks && line_of q.asks / shape.lines == region) rows

abbrev pub other_asked : {n : ℕ} → BankShape → ℕ → List ℕ → List (Row n) → ℕ
other_asked shape region hot rows =
    count_by (λ q. asks_write q.asks && (line_of q.asks / shape.lines == region && not (list_any (λ h. h == line_of q.asks) hot))) rows

-- the same bounds by what a trace asks for, whatever becomes of it
abbrev pub most_asked_works : {n : ℕ} → BankShape → ℕ → List ℕ → List (Row n) → ℕ
most_asked_works shape region hot rows =
    most_works_by shape.lines shape.psi (length hot) (asked_writes shape region rows) (other_asked shape region hot rows)
    (count_by is_cut rows)

abbrev pub most_asked_kept : {n : ℕ} → BankShape → List (Row n) → ℕ → ℕ
most_asked_kept shape rows item =
    (if nat_lt item shape.regions then asked_writes shape item rows + asked_writes shape item rows / shape.psi else 1)
    + count_by is_cut rows

pub record AsksNoLess {n : ℕ} (shape : BankShape) (rows : List (Row n)) : Type 0 where
  pub works : (region : ℕ) (hot : List ℕ) → most_hot_works shape region hot rows ≤ most_asked_works shape region hot rows
  pub kept : (item : ℕ) → most_kept shape rows item ≤ most_asked_kept shape rows item

abbrev pub AskedLaw : Type 0
AskedLaw = (n : ℕ) (shape : BankShape) (rows : List (Row n)) → 1 ≤ shape.lines → 1 ≤ shape.psi → AsksNoLess shape rows

-- cells endure more changes than any slot's own line may take line writes, each as often as it may be begun: in each region of a bank, by
-- that region's own hot lines
abbrev pub BearsWorks : {n : ℕ} → CellBounds → BankShape → Rules → List (Row n) → (ℕ → List ℕ) → Type 0
BearsWorks bounds shape rules rows hot =
    (region : ℕ) → region < shape.regions → tries rules.policy * most_hot_works shape region (hot region) rows < bounds.endures

-- the same by what a trace asks for, whatever becomes of it
abbrev pub BearsAskedWorks : {n : ℕ} → CellBounds → BankShape → Rules → List (Row n) → (ℕ → List ℕ) → Type 0
BearsAskedWorks bounds shape rules rows hot =
    (region : ℕ) → region < shape.regions → tries rules.policy * most_asked_works shape region (hot region) rows < bounds.endures

-- cells endure more changes than each item's control line may take line writes, each as often as it may be begun. A bank whose registers
-- are guarded has none; where they are kept in the array, that of a region is written for each of its stores and moves, and no gap moves it
abbrev pub BearsControls : {n : ℕ} → CellBounds → BankShape → Rules → List (Row n) → Type 0
BearsControls bounds shape rules rows = (item : ℕ) → item < controls_of shape → tries rules.policy * most_kept shape rows item < bounds.endures

-- then no control line is worn
abbrev pub ControlsLaw : Type 0
ControlsLaw =
    (n m e : ℕ) (shape : BankShape) (array : ArrayState n m) (rules : Rules) (rows : List (Row n))
    → IsLayout n m e → KeepsLines shape array rules rows → BearsControls array.bounds shape rules rows
    → KeepsControls shape (is_worn_at e array)

-- what a bank shows in which no cell of a slot's own line is stuck, and so no such line is worn: no row is refused for want of a spare;
-- and where cells bear its control lines too, none is left in the queue, nor has the bank a reason to leave one
pub record LivesOn {n m : ℕ} (e : ℕ) (shape : BankShape) (array : ArrayState n m) (rules : Rules) (rows : List (Row n)) : Type 0 where
  pub live : (slot c : ℕ) → slot < slots_of shape → IsFalse ((array.line (shape.base + slot)).stuck c)
  pub unworn : (slot : ℕ) → slot < slots_of shape → IsFalse (is_worn_at e array (shape.base + slot))
  pub taken : IsTrue (each_row is_unrefused rows [])
  pub finished : BearsControls array.bounds shape rules rows → IsTrue (each_row is_unqueued rows [])
  pub leaves : BearsControls array.bounds shape rules rows → IsFalse (may_leave shape (is_worn_at e array))

-- over such cells none of a slot's own line sticks, however often cells miss; any lists of lines may be taken as the regions' hot ones
abbrev pub LifetimeLaw : Type 0
LifetimeLaw =
    (n m e : ℕ) (shape : BankShape) (array : ArrayState n m) (rules : Rules) (rows : List (Row n)) (hot : ℕ → List ℕ)
    → IsLayout n m e → 1 ≤ shape.lines → 1 ≤ shape.psi → 1 ≤ rules.read_ticks
    → KeepsRows rules rows → KeepsPlaces e shape array rules rows → KeepsLines shape array rules rows
    → BearsWorks array.bounds shape rules rows hot
    → LivesOn e shape array rules rows
