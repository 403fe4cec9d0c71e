-- Each row carries the array line where its line stood.
use Rattle.std.proofs.Common.{◌≡◌, ℕ, ◌+◌, ◌*◌, ◌/◌, ◌%◌, ◌-◌, ◌<◌, ◌≤◌, ◌==◌, ◌&&◌, ◌⊎◌, inl, inr, not, Bool, true, false, List, [], ◌∷◌, ◌++◌, length, refl, sym, ap, ◌∙◌, subst, arith, sum_by, append_assoc}
use Rattle.std.proofs.{lemmas.Bool.{eq-eqb, ne_eqb, lt-ltb, le-leb, cases_lt, or_left, or_right, and_from}, lemmas.Nat.{div-mul-add, mod-mul-add}}
use Rattle.result_rows.specs.declared.Outcome.{Outcome}
use Rattle.result_rows.specs.declared.Outcome.TheVariants as out
use Rattle.cell_rows.specs.Device.{ArrayState}
use Rattle.spare_pool.{specs.Table.{Table, line_from}, proofs.Lines.{line_from-cases, HasSpare, only_own}}
use Rattle.row_rules.specs.{Answers.stored_before, Rows.{asks_write, line_of}, declared.Row.Row}
use Rattle.bank_shape.specs.{Shape.slots_of, declared.BankShape.BankShape, declared.pace.Pace.Pace}
use Rattle.bank_model.specs.{After.{slot_after, stands_at_after}, Events.{Write, Read, Cut}, History.{retired, moved_in, stored_in}, Lawful.Lawful, Sensing.most_steps}
use Rattle.bank_model.specs.Timing.{Happens, Core, TimedEvent, core, core_of}
use Rattle.bank_laws.specs.{Laws.{IsSized, LeavesArray}, Outcomes.{outcome_of, ended, row_with, rows_from, table_of}, Ticks.ends_action}
use Rattle.bank_laws.proofs.{Asked.{Asked, asked-one, asked-within, wrote-asked, queue-wrote, waits-asked}, Settling.{lawful_before, above_all}, Waiting.may_all}
use Rattle.bank_laws.proofs.Walking.{Passes, walk, rows_after}
use Rattle.ecp_line.specs.ArrayLines.{is_worn_at}
use Rattle.right_runs.specs.Places.{region_stores, is_place_after, is_place_about, outcome_placed, is_placed}
use Rattle.place_laws.{specs.PlaceLaws.PlacedLaw, proofs.Moves.{keeps, none-due, next_product}, proofs.Slots.{slot_moved-within, retired-few, IsAway, away-later}}
use Rattle.place_laws.proofs.{Splits.{IsStoredAt, stored-at, IsReadAt, read-at}, Storing.{before-counted, region-stored}, Tables.{region-counted, between}}
use Rattle.masked_bytes.proofs.Counting.{one_if}

-- a number from a product up to the next has the quotient
pub between_products : (psi k s : ℕ) → psi * k ≤ s → s < psi * (k + 1) → s / psi ≡ k
between_products psi k s le lt =
    let next : psi * (k + 1) ≡ psi * k + psi = next_product psi k in
    let swap : k * psi ≡ psi * k = grind arith in
    let sum : s ≡ k * psi + (s - psi * k) = omega (arith, le, swap) in
    ap (λ s. s / psi) sum ∙ div-mul-add k psi (s - psi * k) (omega (arith, le, lt, next))

pub at_product : (psi k : ℕ) → 1 ≤ psi → (psi * (k + 1) % psi ≡ 0) × (psi * (k + 1) / psi ≡ k + 1)
at_product psi k some =
    let sum : psi * (k + 1) ≡ (k + 1) * psi + 0 = grind arith in
    (ap (λ s. s % psi) sum ∙ mod-mul-add (k + 1) psi 0 (omega (arith, some)), ap (λ s. s / psi) sum ∙ div-mul-add (k + 1) psi 0 (omega (arith, some)))

not_zero : (k : ℕ) → 1 ≤ k → not (k == 0) ≡ true
not_zero k some = ap not (ne_eqb k 0 (λ is. omega (arith, some, is)))

-- near a product: a read's place is that of the moves, or that of one move less just at the product
about : (shape : BankShape) (worn : ℕ → Bool) (line place s k : ℕ) → 1 ≤ shape.psi → shape.psi * k ≤ s → s ≤ shape.psi * (k + 1) → is_place_after shape worn line place k ≡ true
    → is_place_about shape worn line place s ≡ true
about shape worn line place s k some le near is =
    elim (cases_lt s (shape.psi * (k + 1))) [
      | inl lt ↦ or_left _ _ (ap (is_place_after shape worn line place) (between_products shape.psi k s le lt) ∙ is)
      | inr ge ↦
          let at : s ≡ shape.psi * (k + 1) = omega (arith, near, ge) in
          let next : shape.psi * (k + 1) ≡ shape.psi * k + shape.psi = next_product shape.psi k in
          let parts = at_product shape.psi k some in
          let quotient : s / shape.psi ≡ k + 1 = ap (λ s. s / shape.psi) at ∙ parts.1 in
          let less : s / shape.psi - 1 ≡ k = omega (arith, quotient) in
          or_right _ _ (and_from _ _ (eq-eqb (s % shape.psi) 0 (ap (λ s. s % shape.psi) at ∙ parts.0))
          (and_from _ _ (not_zero s (omega (arith, ge, next, some))) (ap (is_place_after shape worn line place) less ∙ is)))
    ]

module _ {n m : ℕ} (shape : BankShape) where
  -- what an event asks for, later events still do
  asked-more : (h : Happens n) (zs : List (TimedEvent n m)) (row line : ℕ) → Asked (core zs) row line → Asked (core_of h (core zs)) row line
  asked-more (Core (Write at of bytes given answer)) zs row line a = inr a
  asked-more (Core (Read at of answer)) zs row line a = inr a
  asked-more _ zs row line a = a

  pub asked-later : (later zs : List (TimedEvent n m)) (row line : ℕ) → Asked (core zs) row line → Asked (core (later ++ zs)) row line
  asked-later [] zs row line a = a
  asked-later (x ∷ later) zs row line a = asked-more x.happens (later ++ zs) row line (asked-later later zs row line a)

module _ {n m : ℕ} (shape : BankShape) (pace : Pace) (e : ℕ) (all : List (TimedEvent n m)) (array : ArrayState n m) (sized : IsSized shape pace) (l : Lawful shape pace e all) (leaves : LeavesArray e shape all array) where
  -- a slot that was given a spare had a line that is worn in the end
  home_worn : (slot : ℕ) → slot < slots_of shape → IsAway shape (core all) slot → is_worn_at e array (shape.base + slot) ≡ true
  home_worn slot exists away =
      leaves.retired slot (omega (arith, exists)) (λ other in_it is.
      let table : Table = record { slots = slots_of shape; spares = shape.spares; replaced = retired (core all) } in
      let same : other ≡ slot = only_own table slot exists other is in
      let own : line_from (slots_of shape) slot (retired (core all)) slot ≡ slot = subst (λ s. line_from (slots_of shape) s (retired (core all)) s ≡ slot) same is in
      omega (arith, away, own, exists))

  -- where a line stands is its place after the moves so far, or a spare
  stands-placed : (later zs : List (TimedEvent n m)) (line : ℕ) → all ≡ later ++ zs → line < shape.regions * shape.lines
      → is_place_after shape (is_worn_at e array) line (stands_at_after shape (core zs) line) (moved_in shape.lines (core zs) (line / shape.lines)) ≡ true
  stands-placed later zs line same exists = by (line_from-cases (slots_of shape) slot (retired (core zs)) slot)
    where
      slot : ℕ
      slot = slot_after shape (core zs) line

      before : Lawful shape pace e zs
      before = lawful_before shape pace e later zs (subst (λ (xs : List (TimedEvent n m)). Lawful shape pace e xs) same l)

      within : slot < slots_of shape
      within = slot_moved-within shape line (moved_in shape.lines (core zs) (line / shape.lines)) sized.lines exists

      few : length (retired (core zs)) ≤ shape.spares
      few = retired-few shape (most_steps e) (core zs) (may_all shape pace e zs before)

      by : (line_from (slots_of shape) slot (retired (core zs)) slot ≡ slot) ⊎ HasSpare (slots_of shape) (retired (core zs)) slot (line_from (slots_of shape) slot (retired (core zs)) slot)
          → is_place_after shape (is_worn_at e array) line (stands_at_after shape (core zs) line) (moved_in shape.lines (core zs) (line / shape.lines)) ≡ true
      by (inl own) = or_left _ _ (eq-eqb (shape.base + line_from (slots_of shape) slot (retired (core zs)) slot) (shape.base + slot) (ap (λ k. shape.base + k) own))
      by (inr spare) =
          let away : IsAway shape (core all) slot =
          subst (λ (xs : List (TimedEvent n m)). IsAway shape (core xs) slot) (sym same) (away-later shape later zs slot (omega (arith, spare.line_is))) in
          or_right _ _ (and_from _ _ (home_worn slot within away)
          (and_from _ _ (le-leb (shape.base + slots_of shape) (shape.base + line_from (slots_of shape) slot (retired (core zs)) slot) (omega (arith, spare.line_is)))
          (lt-ltb (shape.base + line_from (slots_of shape) slot (retired (core zs)) slot) (shape.base + slots_of shape + shape.spares) (omega (arith, spare.line_is, spare.given, few)))))

  -- these rows sum up as the table does
  abbrev pub SumsUp : List (Row n) → Type 0
  SumsUp rows = (f : Row n → ℕ) → sum_by f rows ≡ sum_by f (table_of shape all)

  -- the stores of a region by the rows below the end of an action
  pub stores-below : (rows : List (Row n)) (later : List (TimedEvent n m)) (z : TimedEvent n m) (zs : List (TimedEvent n m)) (region : ℕ) → SumsUp rows → all ≡ later ++ z ∷ zs → ends_action z.happens ≡ true
      → region_stores (stored_before z.tick) shape region rows ≡ stored_in shape.lines (core zs) region
  stores-below rows later z zs region sums same ends =
      sums (λ q. one_if (asks_write q.asks && (line_of q.asks / shape.lines == region && stored_before z.tick q.outcome)))
      ∙ region-counted shape all z.tick region
      ∙ before-counted shape pace e all later z zs sized.read sized.iter l same ends (λ line. line / shape.lines == region)
      ∙ region-stored shape.lines (core zs) region

  pub same_line : (later : List (TimedEvent n m)) (z : TimedEvent n m) (zs : List (TimedEvent n m)) (row one other : ℕ) → all ≡ later ++ z ∷ zs → Asked (core zs) row one → Asked (core all) row other → one ≡ other
  same_line later z zs row one other same a b =
      let bound = above_all shape pace e all l in
      asked-one (core all) bound.0 row one other bound.1
      (subst (λ (xs : List (TimedEvent n m)). Asked (core xs) row one) (append_assoc later (z ∷ []) zs ∙ sym same) (asked-later shape (later ++ z ∷ []) zs row one a)) b

  store_placed : (rows : List (Row n)) (row line u p : ℕ) → SumsUp rows → Asked (core all) row line → IsStoredAt shape all row u p
      → is_place_after shape (is_worn_at e array) line p (region_stores (stored_before u) shape (line / shape.lines) rows / shape.psi) ≡ true
  store_placed rows row line u p sums asked s =
      let whole : Lawful shape pace e (s.later ++ s.event ∷ s.before) = subst (λ (xs : List (TimedEvent n m)). Lawful shape pace e xs) s.same l in
      let before : Lawful shape pace e s.before = (lawful_before shape pace e s.later (s.event ∷ s.before) whole).1 in
      let may = may_all shape pace e s.before before in
      let bound = above_all shape pace e s.before before in
      let own : s.store.line ≡ line =
      same_line s.later s.event s.before row s.store.line line s.same
      (wrote-asked (core s.before) row s.store.line (queue-wrote shape (most_steps e) (core s.before) bound.0 row s.store.line may bound.1 s.store.stands)) asked in
      let exists : line < shape.regions * shape.lines = asked-within shape (most_steps e) (core all) row line (may_all shape pace e all l) asked in
      let moves = keeps shape (most_steps e) (core s.before) sized.psi may in
      let count : region_stores (stored_before u) shape (line / shape.lines) rows ≡ stored_in shape.lines (core s.before) (line / shape.lines) =
      subst (λ t. region_stores (stored_before t) shape (line / shape.lines) rows ≡ stored_in shape.lines (core s.before) (line / shape.lines)) s.tick
      (stores-below rows s.later s.event s.before (line / shape.lines) sums s.same s.ends) in
      let quotient : stored_in shape.lines (core s.before) (line / shape.lines) / shape.psi ≡ moved_in shape.lines (core s.before) (line / shape.lines) =
      between_products shape.psi _ _ (moves.few (line / shape.lines)) (none-due shape (core s.before) moves s.store.due (line / shape.lines)) in
      ap (is_place_after shape (is_worn_at e array) line p) (ap (λ k. k / shape.psi) count ∙ quotient)
      ∙ ap (λ p. is_place_after shape (is_worn_at e array) line p (moved_in shape.lines (core s.before) (line / shape.lines))) (s.store.place_is ∙ ap (stands_at_after shape (core s.before)) own)
      ∙ stands-placed (s.later ++ s.event ∷ []) s.before line (s.same ∙ sym (append_assoc s.later (s.event ∷ []) s.before)) exists

  read_placed : (rows : List (Row n)) (row line u p : ℕ) → SumsUp rows → Asked (core all) row line → IsReadAt shape all row u p
      → is_place_about shape (is_worn_at e array) line p (region_stores (stored_before u) shape (line / shape.lines) rows) ≡ true
  read_placed rows row line u p sums asked s =
      let whole : Lawful shape pace e (s.later ++ s.event ∷ s.before) = subst (λ (xs : List (TimedEvent n m)). Lawful shape pace e xs) s.same l in
      let before : Lawful shape pace e s.before = (lawful_before shape pace e s.later (s.event ∷ s.before) whole).1 in
      let may = may_all shape pace e s.before before in
      let own : s.serve.line ≡ line =
      same_line s.later s.event s.before row s.serve.line line s.same (waits-asked shape (core s.before) row s.serve.line s.serve.waits_for) asked in
      let exists : line < shape.regions * shape.lines = asked-within shape (most_steps e) (core all) row line (may_all shape pace e all l) asked in
      let moves = keeps shape (most_steps e) (core s.before) sized.psi may in
      let count : region_stores (stored_before u) shape (line / shape.lines) rows ≡ stored_in shape.lines (core s.before) (line / shape.lines) =
      subst (λ t. region_stores (stored_before t) shape (line / shape.lines) rows ≡ stored_in shape.lines (core s.before) (line / shape.lines)) s.tick
      (stores-below rows s.later s.event s.before (line / shape.lines) sums s.same s.ends) in
      ap (is_place_about shape (is_worn_at e array) line p) count
      ∙ about shape (is_worn_at e array) line p _ (moved_in shape.lines (core s.before) (line / shape.lines)) sized.psi (moves.few (line / shape.lines)) (moves.near (line / shape.lines))
      (ap (λ p. is_place_after shape (is_worn_at e array) line p (moved_in shape.lines (core s.before) (line / shape.lines))) (s.serve.place_is ∙ ap (stands_at_after shape (core s.before)) own)
      ∙ stands-placed (s.later ++ s.event ∷ []) s.before line (s.same ∙ sym (append_assoc s.later (s.event ∷ []) s.before)) exists)

  -- whatever becomes of a row, its place is right
  outcome-placed : (rows : List (Row n)) (row line : ℕ) → SumsUp rows → Asked (core all) row line → outcome_placed shape (is_worn_at e array) line rows (outcome_of shape all row) ≡ true
  outcome-placed rows row line sums asked = by (outcome_of shape all row) refl
    where
      by : (o : Outcome n) → outcome_of shape all row ≡ o → outcome_placed shape (is_worn_at e array) line rows o ≡ true
      by (out.Stored u p) is = store_placed rows row line u p sums asked (stored-at shape pace e all row u p l is)
      by (out.Read u p bytes) is = read_placed rows row line u p sums asked (read-at shape pace e all row u p bytes l is)
      by _ is = refl

  ended-placed : (tick line : ℕ) (rows : List (Row n)) (o : Outcome n) → outcome_placed shape (is_worn_at e array) line rows o ≡ true → outcome_placed shape (is_worn_at e array) line rows (ended tick o) ≡ true
  ended-placed tick line rows o is = grind arith

  placed_at : (later : List (TimedEvent n m)) (x : TimedEvent n m) (ys : List (TimedEvent n m)) → all ≡ later ++ x ∷ ys
      → Passes (is_placed shape (is_worn_at e array)) (rows_from shape all ys) (row_with shape all x.happens x.tick x.cancels) (rows_after shape all later)
  placed_at later x ys same = by x.happens x.cancels (λ f. between shape all f later x ys same) (λ row line a. subst (λ (xs : List (TimedEvent n m)). Asked (core xs) row line) (sym same) (asked-later shape later (x ∷ ys) row line a))
    where
      by : (h : Happens n) (cancels : Bool) → SumsUp (rows_from shape all ys ++ (row_with shape all h x.tick cancels ++ rows_after shape all later))
          → ((row line : ℕ) → Asked (core_of h (core ys)) row line → Asked (core all) row line)
          → Passes (is_placed shape (is_worn_at e array)) (rows_from shape all ys) (row_with shape all h x.tick cancels) (rows_after shape all later)
      by (Core (Write row line bytes given answer)) cancels sums asked = ended-placed x.tick line (rows_from shape all ys ++ (row_with shape all (Core (Write row line bytes given answer)) x.tick cancels ++ rows_after shape all later)) (outcome_of shape all row)
          (outcome-placed (rows_from shape all ys ++ (row_with shape all (Core (Write row line bytes given answer)) x.tick cancels ++ rows_after shape all later)) row line sums (asked row line (inl (refl, refl))))
      by (Core (Read row line answer)) cancels sums asked = outcome-placed (rows_from shape all ys ++ (row_with shape all (Core (Read row line answer)) x.tick cancels ++ rows_after shape all later)) row line sums (asked row line (inl (refl, refl)))
      by (Core (Cut tearing)) false sums asked = refl
      by _ _ sums asked = tt

pub placed_law : PlacedLaw
placed_law n m e shape pace xs array sized l leaves =
    walk shape xs (is_placed shape (is_worn_at e array)) [] xs refl (placed_at shape pace e xs array sized l leaves)
