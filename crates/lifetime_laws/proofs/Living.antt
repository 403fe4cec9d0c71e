-- A bank whose hot lines are few, over cells that endure.
use Rattle.std.proofs.Common.{◌≡◌, inl, inr, ℕ, ◌+◌, ◌*◌, ◌/◌, ◌%◌, ◌<◌, ◌≤◌, ◌==◌, ◌&&◌, ◌||◌, not, Bool, true, false, List, [], ◌∷◌, Option, length, refl, sym, ap, ◌∙◌, subst, arith}
use Rattle.std.{specs.List.list_any, specs.Prelude.{count_by, is_some}, proofs.Math.Nat.mul-le-mul_left}
use Rattle.std.proofs.{lemmas.Bool.{eqb-true, eq-eqb, false_from_ne_true, cases_eq, ne_eqb}, lemmas.Nat.{div-mul-add, div_below, mod_below}}
use Rattle.result_rows.specs.declared.Outcome.{Outcome}
use Rattle.result_rows.specs.declared.Outcome.TheVariants as out
use Rattle.start_gap.specs.Rotation.{place_after}
use Rattle.row_rules.specs.{Answers.{is_stored, stored_before}, Rows.{each_row, asks_write, asks_write_of, line_of}, Ticking.{is_in_time, tries}, declared.Asks.Asks}
use Rattle.row_rules.specs.{declared.Asks.TheVariants.{Reads, Writes, Cuts}, declared.Row.Row, declared.Rules.Rules}
use Rattle.bank_shape.specs.{Shape.{slots_of, slot_moved}, declared.BankShape.BankShape, declared.pace.Pace.Pace}
use Rattle.bank_model.specs.{Changes.{change_after, keeping_after}, History.in_progress, Lawful.Lawful, Running.{busy_by, busy_after}, Sensing.{most_steps, pulses_of}}
use Rattle.bank_model.specs.{Timing.{TimedEvent, core}, Works.{works_on, held_on}}
use Rattle.ecp_line.specs.ArrayLines.{is_worn_at}
use Rattle.bank_laws.{specs.Outcomes.table_of, specs.Resting.IsStill, proofs.Changing.changed-idle, proofs.Works.idle-held}
use Rattle.right_runs.specs.{LineWrites.{is_stored_on, stores_at, most_works}, Places.{region_stores, is_place_after, is_placed}}
use Rattle.lifetime_laws.specs.{Endurance.KeepsControls, Lifetime.{BearsControls, own_stores, other_stores, most_hot_works, AttackLaw, HotLinesLaw, KeptLinesLaw, LifetimeLaw}}
use Rattle.lifetime_laws.{specs.Spread.{stores_on, most_at, finding_at, stay}, specs.Works.{LinePulsesLaw, LineAgesLaw}, proofs.Broken.works_law}
use Rattle.lifetime_laws.proofs.{Changed.{control_pulses_law, control_ages_law}, Counting.passing-none, Enduring.{unworn_law, controls_law}, Ranks.{count-sum, Each}}
use Rattle.lifetime_laws.proofs.{Sound.sound_rows_law, Spreading.{IsPlacedBy, placed-each, home-placed, found_law, spread_law}, Stays.{stay_law, even_law}, Writing.pulses_on_law}
use Rattle.place_laws.proofs.Pulses.{bounded}
use Rattle.masked_bytes.proofs.Counting.{one_if, count-cons}

-- a bank that rests has no line write of its own in progress: while a change stands none is
core-rests : (change : Option ℕ) (keeping busy : Bool) → (is_some change ≡ true → busy ≡ false) → busy_by change keeping busy ≡ false → busy ≡ false
core-rests change keeping busy changed rests = grind arith

-- so no line has had an iteration of one
rests-held : {n m : ℕ} (e : ℕ) (shape : BankShape) (pace : Pace) (xs : List (TimedEvent n m)) (at : ℕ) → Lawful shape pace e xs → IsStill shape xs → held_on shape at (core xs) ≡ 0
rests-held e shape pace xs at l idle =
    let resting : busy_after shape xs ≡ false = idle.rests in
    let stopped : in_progress (core xs) ≡ false = core-rests (change_after shape xs) (keeping_after xs) (in_progress (core xs)) (changed-idle shape pace e xs l) resting in
    idle-held shape at (core xs) stopped

-- the pulses of a slot's own array line
pub line_pulses_law : LinePulsesLaw
line_pulses_law n m e shape pace xs array slot sized l idle leaves exists =
    let none : held_on shape (shape.base + slot) (core xs) ≡ 0 = rests-held e shape pace xs (shape.base + slot) l idle in
    let few = pulses_on_law n m e shape pace xs (shape.base + slot) l (omega (arith, exists)) in
    let more : most_steps e * works_on shape (shape.base + slot) (core xs) ≤ tries pace.policy * most_steps e * most_works shape (table_of shape xs) slot =
    bounded (most_steps e) (tries pace.policy) (works_on shape (shape.base + slot) (core xs))
    (most_works shape (table_of shape xs) slot) (works_law n m e shape pace xs slot sized l exists) in
    let same : (array.line (shape.base + slot)).pulses ≡ pulses_of xs (shape.base + slot) = leaves.pulses slot (omega (arith, exists)) in
    omega (arith, few, none, more, same)

-- and how it ages
pub line_ages_law : LineAgesLaw
line_ages_law n m e shape pace xs array slot sized l idle aged exists =
    let none : held_on shape (shape.base + slot) (core xs) ≡ 0 = rests-held e shape pace xs (shape.base + slot) l idle in
    let more = works_law n m e shape pace xs slot sized l exists in
    let ages = aged.age slot (omega (arith, exists)) in
    record { live = λ fine c. omega (arith, ages.live fine c, none, more); stuck = λ c is. omega (arith, ages.stuck c is, none, more) }

pub kept_lines_law : KeptLinesLaw
kept_lines_law n m e shape pace xs array sized l idle leaves aged written = record {
  pulses = λ slot exists. line_pulses_law n m e shape pace xs array slot sized l idle leaves exists;
  ages = λ slot exists. line_ages_law n m e shape pace xs array slot sized l idle aged exists;
  controls = λ item exists. control_pulses_law n m e shape pace xs array item sized l idle leaves exists;
  control_ages = λ item exists. control_ages_law n m e shape pace xs array item sized l idle written exists;
}

-- a slot's line is of the slot's region
slot-region : (shape : BankShape) (line slot moves : ℕ) → (slot_moved shape line moves == slot) ≡ true → line / shape.lines ≡ slot / (shape.lines + 1)
slot-region shape line slot moves is =
    let e : slot_moved shape line moves ≡ slot = eqb-true (slot_moved shape line moves) slot is in
    let few : place_after shape.lines (line % shape.lines) moves < shape.lines + 1 = mod_below (line % shape.lines + (moves + line % shape.lines) / shape.lines) (shape.lines + 1) (omega arith) in
    sym (ap (λ x. x / (shape.lines + 1)) (sym e) ∙ div-mul-add (line / shape.lines) (shape.lines + 1) (place_after shape.lines (line % shape.lines) moves) few)

module _ {n : ℕ} (rules : Rules) (shape : BankShape) (worn : ℕ → Bool) (rows : List (Row n)) (slot : ℕ) (some : 1 ≤ shape.lines) (each : 1 ≤ shape.psi) (read : 1 ≤ rules.read_ticks) (exists : slot < slots_of shape)
    (in_time : each_row (is_in_time rules) rows [] ≡ true) (placed : each_row (is_placed shape worn) rows [] ≡ true) where
  abbrev share : ℕ
  share = most_at shape.lines shape.psi (region_stores is_stored shape (slot / (shape.lines + 1)) rows)

  -- a line takes its share of the slot, or none of it
  one-line : (line : ℕ) → stores_on line (shape.base + slot) rows ≤ share
  one-line line =
      let found = found_law n rules shape worn rows line slot read exists in_time placed in
      elim (cases_eq (line / shape.lines) (slot / (shape.lines + 1))) [
        | inl same ↦
            let stays = stay_law shape line slot (region_stores is_stored shape (line / shape.lines) rows) some each in
            subst (λ r. stores_on line (shape.base + slot) rows ≤ most_at shape.lines shape.psi (region_stores is_stored shape r rows)) same (omega (arith, found, stays))
        | inr other ↦
            let none : finding_at shape line slot (region_stores is_stored shape (line / shape.lines) rows) ≡ 0 =
            passing-none (λ k. slot_moved shape line (k / shape.psi) == slot) (region_stores is_stored shape (line / shape.lines) rows)
            (λ k lt. false_from_ne_true (slot_moved shape line (k / shape.psi) == slot) (λ is. other (slot-region shape line slot (k / shape.psi) is))) in
            omega (arith, found, none)
      ]

-- one row more: it is of a hot line, or of another of the region
module _ {n : ℕ} (shape : BankShape) (slot : ℕ) where
  abbrev is_other : List ℕ → Row n → Bool
  is_other hot q = asks_write q.asks && (line_of q.asks / shape.lines == slot / (shape.lines + 1) && (not (list_any (λ h. h == line_of q.asks) hot) && is_stored q.outcome))

  abbrev hot_one : List ℕ → Row n → ℕ
  hot_one [] q = 0
  hot_one (h ∷ hot) q = one_if (asks_write_of h q.asks && is_stored_on (shape.base + slot) q.outcome) + hot_one hot q

  abbrev hot_all : List ℕ → List (Row n) → ℕ
  hot_all [] qs = 0
  hot_all (h ∷ hot) qs = stores_on h (shape.base + slot) qs + hot_all hot qs

  hot-cons : (hot : List ℕ) (q : Row n) (qs : List (Row n)) → hot_all hot (q ∷ qs) ≡ hot_one hot q + hot_all hot qs
  hot-cons [] q qs = refl
  hot-cons (h ∷ hot) q qs = omega (arith, count-cons (λ (q : Row n). asks_write_of h q.asks && is_stored_on (shape.base + slot) q.outcome) q qs, hot-cons hot q qs)

  -- a store of a hot line counts among these
  hot-there : (hot : List ℕ) (tick at : ℕ) (bytes : List ℕ) (given : List Bool) (o : Outcome n) → is_stored_on (shape.base + slot) o ≡ true → list_any (λ h. h == at) hot ≡ true
      → 1 ≤ hot_one hot (record { tick = tick; asks = Writes at bytes given; outcome = o })
  hot-there [] tick at bytes given o on is = absurd (cc (is))
  hot-there (h ∷ hot) tick at bytes given o on is = by (h == at) refl (hot-there hot tick at bytes given o on) is
    where
      by : (b : Bool) → (h == at) ≡ b
          → (list_any (λ h. h == at) hot ≡ true → 1 ≤ hot_one hot (record { tick = tick; asks = Writes at bytes given; outcome = o }))
          → (b || list_any (λ h. h == at) hot) ≡ true
          → 1 ≤ one_if (at == h && is_stored_on (shape.base + slot) o) + hot_one hot (record { tick = tick; asks = Writes at bytes given; outcome = o })
      by true same rest is =
          let here : one_if (at == h && is_stored_on (shape.base + slot) o) ≡ 1 =
          ap (λ b. one_if (b && is_stored_on (shape.base + slot) o)) (eq-eqb at h (sym (eqb-true h at same))) ∙ ap one_if on in
          omega (arith, here)
      by false same rest is = omega (arith, rest is)

  row-split : (hot : List ℕ) (q : Row n)
      → (asks_write q.asks ≡ true → is_stored_on (shape.base + slot) q.outcome ≡ true → line_of q.asks / shape.lines ≡ slot / (shape.lines + 1))
      → one_if (asks_write q.asks && is_stored_on (shape.base + slot) q.outcome) ≤ hot_one hot q + one_if (is_other hot q)
  row-split hot q own = by q.asks q.outcome own
    where
      by : (a : Asks n) (o : Outcome n) → (asks_write a ≡ true → is_stored_on (shape.base + slot) o ≡ true → line_of a / shape.lines ≡ slot / (shape.lines + 1))
          → one_if (asks_write a && is_stored_on (shape.base + slot) o) ≤ hot_one hot (record { tick = q.tick; asks = a; outcome = o })
          + one_if (asks_write a && (line_of a / shape.lines == slot / (shape.lines + 1) && (not (list_any (λ h. h == line_of a) hot) && is_stored o)))
      by (Reads at) o own = omega arith
      by Cuts o own = omega arith
      by (Writes at bytes given) (out.Stored u p) own = on (p == shape.base + slot) refl (list_any (λ h. h == at) hot) refl
        where
          on : (b : Bool) → (p == shape.base + slot) ≡ b → (c : Bool) → list_any (λ h. h == at) hot ≡ c
              → one_if b ≤ hot_one hot (record { tick = q.tick; asks = Writes at bytes given; outcome = out.Stored u p })
              + one_if (at / shape.lines == slot / (shape.lines + 1) && (not c && true))
          on false is c hots = omega arith
          on true is true hots = omega (arith, hot-there hot q.tick at bytes given (out.Stored u p) is hots)
          on true is false hots =
              let same : one_if (at / shape.lines == slot / (shape.lines + 1) && true) ≡ 1 = ap (λ b. one_if (b && true)) (eq-eqb (at / shape.lines) (slot / (shape.lines + 1)) (own refl is)) in
              omega (arith, same)
      by (Writes at bytes given) _ own = omega arith

  rows-split : (worn : ℕ → Bool) (total : ℕ → ℕ → ℕ) (hot : List ℕ) (qs : List (Row n)) → slot < slots_of shape → Each (IsPlacedBy shape worn total) qs
      → stores_at (shape.base + slot) qs ≤ hot_all hot qs + count_by (is_other hot) qs
  rows-split worn total hot [] exists placed = omega arith
  rows-split worn total hot (q ∷ qs) exists placed =
      let ih : stores_at (shape.base + slot) qs ≤ hot_all hot qs + count_by (is_other hot) qs = rows-split worn total hot qs exists placed.1 in
      let here = row-split hot q (λ writes on. own q.asks q.outcome placed.0 on) in
      omega (arith, ih, here, hot-cons hot q qs, count-cons (λ (q : Row n). asks_write q.asks && is_stored_on (shape.base + slot) q.outcome) q qs, count-cons (is_other hot) q qs)
    where
      own : (a : Asks n) (o : Outcome n) → ((t p : ℕ) → o ≡ out.Stored t p → is_place_after shape worn (line_of a) p (total (line_of a / shape.lines) t / shape.psi) ≡ true)
          → is_stored_on (shape.base + slot) o ≡ true → line_of a / shape.lines ≡ slot / (shape.lines + 1)
      own a (out.Stored u p) right on =
          slot-region shape (line_of a) slot (total (line_of a / shape.lines) u / shape.psi)
          (home-placed shape worn (line_of a) slot p (total (line_of a / shape.lines) u / shape.psi) exists (eqb-true p (shape.base + slot) on) (right u p refl))
      own a _ right on = absurd (cc (on))

hot-same : {n : ℕ} (rules : Rules) (shape : BankShape) (worn : ℕ → Bool) (rows : List (Row n)) (slot : ℕ) (share : ℕ) (hot : List ℕ)
    → ((line : ℕ) → stores_on line (shape.base + slot) rows ≤ share) → hot_all shape slot hot rows ≤ length hot * share
hot-same rules shape worn rows slot share [] each = omega arith
hot-same rules shape worn rows slot share (h ∷ hot) each =
    let ih : hot_all shape slot hot rows ≤ length hot * share = hot-same rules shape worn rows slot share hot each in
    let more : length (h ∷ hot) * share ≡ length hot * share + share = omega arith in
    omega (arith, ih, each h, more)

pub hot_lines_law : HotLinesLaw
hot_lines_law n rules shape worn rows hot slot some each read exists in_time placed =
    let by = placed-each shape worn (λ region t. region_stores (stored_before t) shape region rows) rows [] (λ region t. omega arith) placed in
    let split = rows-split shape slot worn (λ region t. region_stores (stored_before t) shape region rows) hot rows exists by in
    let few = hot-same rules shape worn rows slot (most_at shape.lines shape.psi (region_stores is_stored shape (slot / (shape.lines + 1)) rows)) hot
    (one-line rules shape worn rows slot some each read exists in_time placed) in
    omega (arith, split, few)

-- a region's stores are those of a line of it and the others
one-split : (a b c d : Bool) → (a ≡ true → b ≡ true) → one_if (b && d) ≡ one_if (a && d) + one_if (b && (not (a || false) && d))
one-split true true c d h = by d
  where
    by : (d : Bool) → one_if (true && d) ≡ one_if (true && d) + one_if (true && (not (true || false) && d))
    by d = grind arith
one-split true false c d h = absurd (cc (h refl))
one-split false true c d h = by d
  where
    by : (d : Bool) → one_if (true && d) ≡ one_if (false && d) + one_if (true && (not (false || false) && d))
    by d = grind arith
one-split false false c d h = refl

own-split : {n : ℕ} (shape : BankShape) (line : ℕ) (rows : List (Row n))
    → region_stores is_stored shape (line / shape.lines) rows ≡ own_stores line rows + other_stores shape (line / shape.lines) (line ∷ []) rows
own-split {n} shape line rows =
    count-sum (λ q. asks_write q.asks && (line_of q.asks / shape.lines == line / shape.lines && is_stored q.outcome))
    (λ q. asks_write_of line q.asks && is_stored q.outcome)
    (λ q. asks_write q.asks && (line_of q.asks / shape.lines == line / shape.lines && (not (list_any (λ h. h == line_of q.asks) (line ∷ [])) && is_stored q.outcome))) rows
    (λ q. by q.asks (is_stored q.outcome))
  where
    by : (a : Asks n) (d : Bool)
        → one_if (asks_write a && (line_of a / shape.lines == line / shape.lines && d))
        ≡ one_if (asks_write_of line a && d) + one_if (asks_write a && (line_of a / shape.lines == line / shape.lines && (not (list_any (λ h. h == line_of a) (line ∷ [])) && d)))
    by (Reads at) d = refl
    by Cuts d = refl
    by (Writes at bytes given) d =
        let same : (line == at) ≡ (at == line) = eq-turned line at in
        one-split (at == line) (at / shape.lines == line / shape.lines) true d (λ is. eq-eqb (at / shape.lines) (line / shape.lines) (ap (λ x. x / shape.lines) (eqb-true at line is)))
        ∙ ap (λ b. one_if (at == line && d) + one_if (at / shape.lines == line / shape.lines && (not (b || false) && d))) (sym same)
      where
        eq-turned : (a b : ℕ) → (a == b) ≡ (b == a)
        eq-turned a b = elim (cases_eq a b) [
          | inl is ↦ eq-eqb a b is ∙ sym (eq-eqb b a (sym is))
          | inr isnt ↦ ne_eqb a b isnt ∙ sym (ne_eqb b a (λ e. isnt (sym e)))
        ]

pub attack_law : AttackLaw
attack_law n rules shape worn rows line slot some each read exists in_time placed =
    let r : ℕ = region_stores is_stored shape (line / shape.lines) rows in
    let spread : stores_on line (shape.base + slot) rows ≤ most_at shape.lines shape.psi r = spread_law n rules shape worn rows line slot some each read exists in_time placed in
    let even : (shape.lines + 1) * most_at shape.lines shape.psi r ≤ r + shape.lines * stay shape.lines shape.psi = even_law shape.lines shape.psi r some each in
    let times : (shape.lines + 1) * stores_on line (shape.base + slot) rows ≤ (shape.lines + 1) * most_at shape.lines shape.psi r = mul-le-mul_left (shape.lines + 1) spread in
    omega (arith, times, even, own-split shape line rows)

pub lifetime_law : LifetimeLaw
lifetime_law n m e shape array rules rows hot layout some each read keeps places lines few =
    let tells = sound_rows_law n m e shape array rules rows places unworn in
    record {
      live = live;
      unworn = unworn;
      taken = tells.taken;
      finished = λ bears. tells.finished (unworn_controls bears);
      leaves = λ bears. tells.leaves (unworn_controls bears);
    }
  where
    unworn_controls : BearsControls array.bounds shape rules rows → KeepsControls shape (is_worn_at e array)
    unworn_controls bears = controls_law n m e shape array rules rows layout lines bears

    a_write : ℕ
    a_write = tries rules.policy

    -- what it has aged by is below what cells endure
    few-works : (slot : ℕ) → slot < slots_of shape → a_write * most_works shape rows slot < array.bounds.endures
    few-works slot exists =
        let r : ℕ = slot / (shape.lines + 1) in
        let there : r < shape.regions = div_below slot (shape.lines + 1) shape.regions (omega arith) exists in
        let stores = hot_lines_law n rules shape (is_worn_at e array) rows (hot r) slot some each read exists keeps.ticks places.placed in
        let works : most_works shape rows slot ≤ most_hot_works shape r (hot r) rows = omega (arith, stores) in
        let bound : a_write * most_works shape rows slot ≤ a_write * most_hot_works shape r (hot r) rows = mul-le-mul_left a_write works in
        omega (arith, bound, few r there)

    live : (slot c : ℕ) → slot < slots_of shape → (array.line (shape.base + slot)).stuck c ≡ false
    live slot c exists =
        false_from_ne_true ((array.line (shape.base + slot)).stuck c)
        (λ is. let early : array.bounds.endures ≤ a_write * most_works shape rows slot = (lines.ages slot exists).stuck c is in absurd (omega (arith, early, few-works slot exists)))

    unworn : (slot : ℕ) → slot < slots_of shape → is_worn_at e array (shape.base + slot) ≡ false
    unworn slot exists = unworn_law n m e array (a_write * most_works shape rows slot) (shape.base + slot) layout (lines.ages slot exists).stuck (few-works slot exists)
