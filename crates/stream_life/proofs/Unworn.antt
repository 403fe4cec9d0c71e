-- A bank behind whose last row the power stays off, over cells that endure.
use Rattle.std.proofs.Common.{◌≡◌, ◌⊎◌, inl, inr, ℕ, zero, suc, ◌+◌, ◌-◌, ◌*◌, ◌/◌, ◌<◌, ◌≤◌, ◌&&◌, ◌||◌, not, Bool, true, false, List, [], ◌∷◌, refl, arith}
use Rattle.std.{specs.Prelude.IsTrue, proofs.Math.Nat.mul-le-mul_left, proofs.lemmas.Bool.{and_parts, and_from, false_from_ne_true}, proofs.lemmas.Nat.div_below}
use Rattle.cell_rows.specs.Device.{ArrayState}
use Rattle.ecp_line.specs.{ArrayLines.is_worn_at, Layout.IsLayout}
use Rattle.row_rules.specs.{Answers.is_queued, Rows.{each_row, asks_write}, Table.KeepsRows, Ticking.tries, Wearing.worn_row, declared.Row.Row, declared.Rules.Rules}
use Rattle.bank_shape.specs.{Shape.{slots_of, lines_in}, declared.BankShape.BankShape}
use Rattle.bank_shape.specs.declared.Home.TheVariants as home
use Rattle.module_shape.specs.Addresses.{module_of, bank_shape}
use Rattle.right_runs.specs.{Banks.rules_in, Ends.IsRemapped, KeepsLines.KeepsLines, KeepsPlaces.{KeepsPlaces, KeepsPlacesTo, pulses_among}, LineWrites.most_works}
use Rattle.right_runs.specs.{Roles.used_among, Tables.table_in, WornLines.{is_worn_out, may_leave, is_wear_true_to}}
use Rattle.lifetime_laws.specs.{Endurance.{KeepsControls, SoundRowsLaw, UnwornLaw, is_unrefused}, Lifetime.{BearsWorks, ControlsLaw, HotLinesLaw, most_hot_works}}
use Rattle.stream_life.specs.CutOff.{CutOffLaw}

-- ---- the lines

module _ {n m : ℕ} (hot_lines : HotLinesLaw) (spared : UnwornLaw) (e : ℕ) (shape : BankShape) (array : ArrayState n m) (rules : Rules)
    (rows : List (Row n)) (hot : ℕ → List ℕ) (layout : IsLayout n m e) (some : 1 ≤ shape.lines) (each : 1 ≤ shape.psi) (read : 1 ≤ rules.read_ticks)
    (keeps : KeepsRows rules rows) (places : KeepsPlacesTo e shape array true rules rows) (lines : KeepsLines shape array rules rows)
    (few : BearsWorks array.bounds shape rules rows hot) where
  abbrev a_write : ℕ
  a_write = tries rules.policy

  -- what a slot's own line has aged by is below what cells endure
  few-works : (slot : ℕ) → slot < slots_of shape → a_write * most_works shape rows slot < array.bounds.endures
  few-works slot exists =
      let r : ℕ = slot / (shape.lines + 1) in
      let there : r < shape.regions = div_below slot (shape.lines + 1) shape.regions (omega arith) exists in
      let stores = hot_lines n rules shape (is_worn_at e array) rows (hot r) slot some each read exists keeps.ticks places.placed in
      let works : most_works shape rows slot ≤ most_hot_works shape r (hot r) rows = omega (arith, stores) in
      let bound : a_write * most_works shape rows slot ≤ a_write * most_hot_works shape r (hot r) rows = mul-le-mul_left a_write works in
      omega (arith, bound, few r there)

  pub live : (slot c : ℕ) → slot < slots_of shape → (array.line (shape.base + slot)).stuck c ≡ false
  live slot c exists =
      false_from_ne_true ((array.line (shape.base + slot)).stuck c)
      (λ is. let early : array.bounds.endures ≤ a_write * most_works shape rows slot = (lines.ages slot exists).stuck c is in absurd (omega (arith, early, few-works slot exists)))

  pub unworn : (slot : ℕ) → slot < slots_of shape → is_worn_at e array (shape.base + slot) ≡ false
  unworn slot exists = spared n m e array (a_write * most_works shape rows slot) (shape.base + slot) layout (lines.ages slot exists).stuck (few-works slot exists)

-- ---- the rows

-- an array that is worn alike, and was never pulsed
abbrev unpulsed : {n m : ℕ} → ArrayState n m → ArrayState n m
unpulsed array = record array { line = λ at. record (array.line at) { pulses = 0 } }

no-pulses : (from count : ℕ) → pulses_among (λ line. 0) from count ≡ 0
no-pulses from zero = refl
no-pulses from (suc count) = omega (arith, no-pulses (from + 1) count)

module _ {n m : ℕ} (sound : SoundRowsLaw) (e : ℕ) (shape : BankShape) (array : ArrayState n m) (rules : Rules)
    (none : (slot : ℕ) → slot < slots_of shape → is_worn_at e array (shape.base + slot) ≡ false) where
  -- where no slot's own line is worn, a bank has no reason of its own to leave a write: that needs no row
  pub no_reason : KeepsControls shape (is_worn_at e array) → may_leave shape (is_worn_at e array) ≡ false
  no_reason controls = (sound n m e shape (unpulsed array) rules [] bare none).leaves controls
    where
      bare : KeepsPlaces e shape (unpulsed array) rules []
      bare =
          let zero_pulses : pulses_among (λ line. ((unpulsed array).line line).pulses) shape.base (lines_in shape) ≡ 0 = no-pulses shape.base (lines_in shape) in
          record { worn = refl; pulses = omega (arith, zero_pulses); placed = refl; taken = refl }

-- a bank with the same slots and spares, and without control lines
abbrev guarded : BankShape → BankShape
guarded shape = record shape { home = home.Guarded }

-- nor is it worn out
pub not_worn_out : {n m : ℕ} (sound : SoundRowsLaw) (e : ℕ) (shape : BankShape) (array : ArrayState n m) (rules : Rules)
    → ((slot : ℕ) → slot < slots_of shape → is_worn_at e array (shape.base + slot) ≡ false) → is_worn_out shape (is_worn_at e array) ≡ false
not_worn_out sound e shape array rules none =
    first (is_worn_out shape (is_worn_at e array)) _ (no_reason sound e (guarded shape) array rules none (λ item lt. absurd (omega (arith, lt))))
  where
    first : (a b : Bool) → (a || b) ≡ false → a ≡ false
    first true b is = is
    first false b is = refl

-- so no row is refused
pub unrefused : {n : ℕ} (off : Bool) (shape : BankShape) (worn : ℕ → Bool) → is_worn_out shape worn ≡ false → (rows after : List (Row n))
    → each_row (is_wear_true_to off shape worn) rows after ≡ true → each_row is_unrefused rows after ≡ true
unrefused off shape worn out [] after h = refl
unrefused off shape worn out (r ∷ rows) after h =
    let parts = and_parts (is_wear_true_to off shape worn rows r after) (each_row (is_wear_true_to off shape worn) rows (r ∷ after)) h in
    let own = and_parts (not (worn_row r) || is_worn_out shape worn) (not (asks_write r.asks && is_queued r.outcome) || (off || may_leave shape worn)) parts.0 in
    and_from (is_unrefused rows r after) (each_row is_unrefused rows (r ∷ after)) (by (worn_row r) (is_worn_out shape worn) out own.0)
    (unrefused off shape worn out rows (r ∷ after) parts.1)
  where
    by : (w o : Bool) → o ≡ false → (not w || o) ≡ true → not w ≡ true
    by true true out h = absurd (cc (out))
    by true false out h = h
    by false o out h = refl

-- ---- the slots

own-line : (shape : BankShape) (worn : ℕ → Bool) (table : ℕ → ℕ) → IsRemapped shape worn table
    → ((slot : ℕ) → slot < slots_of shape → worn (shape.base + slot) ≡ false) → (slot : ℕ) → slot < slots_of shape → table slot ≡ shape.base + slot
own-line shape worn table remapped none slot lt = by (remapped.lines slot lt)
  where
    by : (table slot ≡ shape.base + slot) ⊎ ((shape.base + slots_of shape ≤ table slot) × (table slot < shape.base + slots_of shape + shape.spares) × IsTrue (worn (shape.base + slot))) → table slot ≡ shape.base + slot
    by (inl is) = is
    by (inr away) = absurd (cc (away.2, none slot lt))

none-used : (shape : BankShape) (table : ℕ → ℕ) (slots : ℕ) → slots ≤ slots_of shape → ((slot : ℕ) → slot < slots_of shape → table slot ≡ shape.base + slot) → used_among shape table slots ≡ 0
none-used shape table zero le own = refl
none-used shape table (suc slots) le own =
    let here : table slots + 1 - (shape.base + slots_of shape) ≡ 0 = omega (arith, own slots (omega (arith, le)), le) in
    let rest : used_among shape table slots ≡ 0 = none-used shape table slots (omega (arith, le)) own in
    omega (arith, here, rest)

-- ---- the bank

pub cut_off_law : HotLinesLaw → UnwornLaw → ControlsLaw → SoundRowsLaw → CutOffLaw
cut_off_law hot_lines spared controls sound n m e raw seed rows array ends hot bank is layout right exists few = record {
  live = live hot_lines spared e shape array rules table hot layout some each read keeps places lines few;
  unworn = none;
  taken = unrefused true shape (is_worn_at e array) (not_worn_out sound e shape array rules none) table [] places.worn;
  leaves = λ bears. no_reason sound e shape array rules none (controls n m e shape array rules table layout lines bears);
  own = own;
  unused = none-used shape (ends bank).table (slots_of shape) (omega arith) own;
}
  where
    shape : BankShape
    shape = bank_shape (module_of raw) bank

    rules : Rules
    rules = rules_in e raw bank

    table : List (Row n)
    table = table_in raw seed bank rows

    some : 1 ≤ raw.lines
    some = omega (arith, is.some_lines)

    each : 1 ≤ raw.psi
    each = omega (arith, is.some_psi)

    read : 1 ≤ raw.read_ticks
    read = omega (arith, is.some_read_ticks)

    keeps : KeepsRows rules table
    keeps = right.serves.banks bank exists

    places : KeepsPlacesTo e shape array true rules table
    places = right.serves.places bank exists

    lines : KeepsLines shape array rules table
    lines = right.serves.lines bank exists

    none : (slot : ℕ) → slot < slots_of shape → is_worn_at e array (shape.base + slot) ≡ false
    none = unworn hot_lines spared e shape array rules table hot layout some each read keeps places lines few

    own : (slot : ℕ) → slot < slots_of shape → (ends bank).table slot ≡ shape.base + slot
    own = own-line shape (is_worn_at e array) (ends bank).table (right.end bank exists).lines none
