-- What becomes of the line that a slot had: the slot has it still, or a later spare, and then it is worn.
use Rattle.std.proofs.Common.{◌≡◌, ℕ, ◌+◌, ◌*◌, ◌/◌, ◌<◌, ◌≤◌, ◌==◌, ◌⊎◌, inl, inr, Bool, true, false, List, [], ◌∷◌, ◌++◌, length, length-append, refl, sym, ap, ◌∙◌, subst, arith, cond, append_assoc}
use Rattle.std.proofs.lemmas.Bool.{eq-eqb, le-leb, lt-ltb, and_from, or_left, or_right}
use Rattle.result_rows.specs.declared.Outcome.{Outcome}
use Rattle.result_rows.specs.declared.Outcome.TheVariants as out
use Rattle.cell_rows.specs.Device.{ArrayState}
use Rattle.spare_pool.{specs.Table.{Table, line_from}, proofs.Lines.{line_from-more, line_by-within, line_by-apart}}
use Rattle.row_rules.specs.{Answers.stored_before, declared.Row.Row}
use Rattle.bank_shape.specs.{Shape.{slots_of, slot_moved}, declared.BankShape.BankShape, declared.pace.Pace.Pace}
use Rattle.bank_shape.specs.declared.answer.Step.TheVariants as did
use Rattle.power_recovery.specs.Kept.{array_line}
use Rattle.bank_model.specs.{After.{slot_after, array_line_after, stands_at_after}, Events.{BankEvent, Write, Read, Begin, Iterate, Cut}, History.{retired, moved_in, stored_in}}
use Rattle.bank_model.specs.{Lawful.Lawful, Sensing.most_steps, Timing.{Happens, Core, Regs, TimedEvent, core, core_of}}
use Rattle.bank_laws.{specs.Laws.{IsSized, LeavesArray}, specs.Outcomes.{outcome_of, ended, row_with, rows_from}, proofs.Asked.{Asked, asked-within, wrote-asked, queue-wrote}}
use Rattle.bank_laws.proofs.{Settling.{lawful_before, above_all}, Waiting.may_all, Walking.{Passes, walk, rows_after}}
use Rattle.ecp_line.specs.ArrayLines.{is_worn_at}
use Rattle.right_runs.specs.{Ends.{has_place, outcome_ends, is_still_there}, Places.region_stores}
use Rattle.place_laws.proofs.{Moves.{keeps, none-due}, Placed.{between_products, asked-later, SumsUp, stores-below, same_line}, Slots.slot_moved-within}
use Rattle.place_laws.proofs.{Splits.{IsStoredAt, stored-at}, Tables.between}
use Rattle.end_laws.{specs.EndLaws.StillThereLaw, proofs.Leaving.{agreeing, recounted, leaves}}

-- after more retirements a slot has the line that it had, or a greater one, which is a spare; and no other slot has that line
pub record Follows (slots slot : ℕ) (before now : List ℕ) : Type 0 where
  pub own : (line_from slots slot now slot ≡ line_from slots slot before slot)
      ⊎ ((line_from slots slot before slot < line_from slots slot now slot) × (slots ≤ line_from slots slot now slot))
  pub only : (other : ℕ) → other < slots → line_from slots other now other ≡ line_from slots slot before slot → other ≡ slot
  pub more : length before ≤ length now

abbrev table_with : ℕ → List ℕ → Table
table_with slots replaced = record { slots = slots; spares = 0; replaced = replaced }

module _ (slots slot : ℕ) (before : List ℕ) (exists : slot < slots) where
  follows-same : Follows slots slot before before
  follows-same = record {
    own = inl refl;
    only = λ other below same. line_by-apart (table_with slots before) slot other exists below same;
    more = omega arith;
  }

  within : line_from slots slot before slot < slots + length before
  within = line_by-within (table_with slots before) slot exists

  follows-retired : (now : List ℕ) (at : ℕ) → Follows slots slot before now → Follows slots slot before (now ++ at ∷ [])
  follows-retired now at f = record {
    own = subst (λ k. (k ≡ line_from slots slot before slot) ⊎ ((line_from slots slot before slot < k) × (slots ≤ k))) (sym (line_from-more slots slot now at slot)) (owned (at == slot));
    only = λ other below same. alone other (at == other) below (sym (line_from-more slots other now at other) ∙ same);
    more = omega (arith, length-append now (at ∷ []), f.more);
  }
    where
      owned : (b : Bool) → (cond b (slots + length now) (line_from slots slot now slot) ≡ line_from slots slot before slot)
          ⊎ ((line_from slots slot before slot < cond b (slots + length now) (line_from slots slot now slot)) × (slots ≤ cond b (slots + length now) (line_from slots slot now slot)))
      owned true = inr (omega (arith, within, f.more), omega arith)
      owned false = f.own

      alone : (other : ℕ) (b : Bool) → other < slots → cond b (slots + length now) (line_from slots other now other) ≡ line_from slots slot before slot → other ≡ slot
      alone other true below same = absurd (omega (arith, within, f.more, same))
      alone other false below same = f.only other below same

  module _ {n : ℕ} where
    follows-event : (event : BankEvent n) (h : List (BankEvent n)) → Follows slots slot before (retired h) → Follows slots slot before (retired (event ∷ h))
    follows-event (Begin (did.Retired at line)) h f = follows-retired (retired h) at f
    follows-event (Iterate (did.Retired at line)) h f = follows-retired (retired h) at f
    follows-event _ h f = f

pub follows-later : {n m : ℕ} (slots slot : ℕ) (later zs : List (TimedEvent n m)) → slot < slots → Follows slots slot (retired (core zs)) (retired (core (later ++ zs)))
follows-later slots slot [] zs exists = follows-same slots slot (retired (core zs)) exists
follows-later {n} slots slot (x ∷ later) zs exists = by x.happens (follows-later slots slot later zs exists)
  where
    by : (h : Happens n) → Follows slots slot (retired (core zs)) (retired (core (later ++ zs))) → Follows slots slot (retired (core zs)) (retired (core_of h (core (later ++ zs))))
    by (Core event) f = follows-event slots slot (retired (core zs)) exists event (core (later ++ zs)) f
    by (Regs event) f = f

module _ {n m : ℕ} (shape : BankShape) (pace : Pace) (e : ℕ) (all : List (TimedEvent n m)) (array : ArrayState n m) (sized : IsSized shape pace) (l : Lawful shape pace e all) (left : LeavesArray e shape all array)
    (table : ℕ → ℕ) (is_table : (slot : ℕ) → table slot ≡ array_line_after shape (core all) slot) where
  -- the line that a slot had at some time has its place by the table of the end
  had_place : (later zs : List (TimedEvent n m)) (slot : ℕ) → all ≡ later ++ zs → slot < slots_of shape
      → has_place (shape.base + slots_of shape) (is_worn_at e array) (table slot) (array_line_after shape (core zs) slot) ≡ true
  had_place later zs slot same exists =
      ap (λ now. has_place (shape.base + slots_of shape) (is_worn_at e array) now (array_line_after shape (core zs) slot)) (is_table slot) ∙ by f.own
    where
      slots : ℕ
      slots = slots_of shape

      f : Follows slots slot (retired (core zs)) (retired (core all))
      f = subst (λ (xs : List (TimedEvent n m)). Follows slots slot (retired (core zs)) (retired (core xs))) (sym same) (follows-later slots slot later zs exists)

      was : ℕ
      was = line_from slots slot (retired (core zs)) slot

      now : ℕ
      now = line_from slots slot (retired (core all)) slot

      -- a line that the slot has no more is retired, so it is worn
      gone : was < now → is_worn_at e array (shape.base + was) ≡ true
      gone less =
          left.retired was (omega (arith, within slots slot (retired (core zs)) exists, f.more)) (λ other below same_line.
          let own : other ≡ slot = f.only other below same_line in
          let here : now ≡ was = subst (λ k. line_from slots k (retired (core all)) k ≡ was) own same_line in
          omega (arith, here, less))

      by : (now ≡ was) ⊎ ((was < now) × (slots ≤ now)) → has_place (shape.base + slots) (is_worn_at e array) (shape.base + now) (shape.base + was) ≡ true
      by (inl is) = or_left _ _ (eq-eqb (shape.base + now) (shape.base + was) (ap (λ k. shape.base + k) is))
      by (inr up) =
          or_right _ _ (and_from _ _ (lt-ltb (shape.base + was) (shape.base + now) (omega (arith, up.0)))
          (and_from _ _ (le-leb (shape.base + slots) (shape.base + now) (omega (arith, up.1))) (gone up.0)))

  still_there : (rows : List (Row n)) (row line u p : ℕ) → SumsUp shape pace e all array sized l left rows → Asked (core all) row line → IsStoredAt shape all row u p
      → has_place (shape.base + slots_of shape) (is_worn_at e array) (table (slot_moved shape line (region_stores (stored_before u) shape (line / shape.lines) rows / shape.psi))) p ≡ true
  still_there rows row line u p sums asked s =
      let whole : Lawful shape pace e (s.later ++ s.event ∷ s.before) = subst (λ (xs : List (TimedEvent n m)). Lawful shape pace e xs) s.same l in
      let before : Lawful shape pace e s.before = (lawful_before shape pace e s.later (s.event ∷ s.before) whole).1 in
      let may = may_all shape pace e s.before before in
      let bound = above_all shape pace e s.before before in
      let own : s.store.line ≡ line =
      same_line shape pace e all array sized l left s.later s.event s.before row s.store.line line s.same
      (wrote-asked (core s.before) row s.store.line (queue-wrote shape (most_steps e) (core s.before) bound.0 row s.store.line may bound.1 s.store.stands)) asked in
      let exists : line < shape.regions * shape.lines = asked-within shape (most_steps e) (core all) row line (may_all shape pace e all l) asked in
      let moves = keeps shape (most_steps e) (core s.before) sized.psi may in
      let count : region_stores (stored_before u) shape (line / shape.lines) rows ≡ stored_in shape.lines (core s.before) (line / shape.lines) =
      subst (λ t. region_stores (stored_before t) shape (line / shape.lines) rows ≡ stored_in shape.lines (core s.before) (line / shape.lines)) s.tick
      (stores-below shape pace e all array sized l left rows s.later s.event s.before (line / shape.lines) sums s.same s.ends) in
      let quotient : stored_in shape.lines (core s.before) (line / shape.lines) / shape.psi ≡ moved_in shape.lines (core s.before) (line / shape.lines) =
      between_products shape.psi _ _ (moves.few (line / shape.lines)) (none-due shape (core s.before) moves s.store.due (line / shape.lines)) in
      ap (λ k. has_place (shape.base + slots_of shape) (is_worn_at e array) (table (slot_moved shape line k)) p) (ap (λ k. k / shape.psi) count ∙ quotient)
      ∙ ap (λ place. has_place (shape.base + slots_of shape) (is_worn_at e array) (table (slot_after shape (core s.before) line)) place) (s.store.place_is ∙ ap (stands_at_after shape (core s.before)) own)
      ∙ had_place (s.later ++ s.event ∷ []) s.before (slot_after shape (core s.before) line) (s.same ∙ sym (append_assoc s.later (s.event ∷ []) s.before))
      (slot_moved-within shape line (moved_in shape.lines (core s.before) (line / shape.lines)) sized.lines exists)

  -- whatever became of a row, a place that it has is still there
  outcome-ends : (rows : List (Row n)) (row line : ℕ) → SumsUp shape pace e all array sized l left rows → Asked (core all) row line
      → outcome_ends shape (is_worn_at e array) table line rows (outcome_of shape all row) ≡ true
  outcome-ends rows row line sums asked = by (outcome_of shape all row) refl
    where
      by : (o : Outcome n) → outcome_of shape all row ≡ o → outcome_ends shape (is_worn_at e array) table line rows o ≡ true
      by (out.Stored u p) is = still_there rows row line u p sums asked (stored-at shape pace e all row u p l is)
      by _ is = refl

  ended-ends : (tick line : ℕ) (rows : List (Row n)) (o : Outcome n) → outcome_ends shape (is_worn_at e array) table line rows o ≡ true → outcome_ends shape (is_worn_at e array) table line rows (ended tick o) ≡ true
  ended-ends tick line rows out.Unset is = refl
  ended-ends tick line rows (out.Stored u p) is = is
  ended-ends tick line rows _ is = refl

  pub still_at : (later : List (TimedEvent n m)) (x : TimedEvent n m) (ys : List (TimedEvent n m)) → all ≡ later ++ x ∷ ys
      → Passes (is_still_there shape (is_worn_at e array) table) (rows_from shape all ys) (row_with shape all x.happens x.tick x.cancels) (rows_after shape all later)
  still_at later x ys same = by x.happens x.cancels (λ f. between shape all f later x ys same) (λ row line a. subst (λ (xs : List (TimedEvent n m)). Asked (core xs) row line) (sym same) (asked-later shape later (x ∷ ys) row line a))
    where
      by : (h : Happens n) (cancels : Bool) → SumsUp shape pace e all array sized l left (rows_from shape all ys ++ (row_with shape all h x.tick cancels ++ rows_after shape all later))
          → ((row line : ℕ) → Asked (core_of h (core ys)) row line → Asked (core all) row line)
          → Passes (is_still_there shape (is_worn_at e array) table) (rows_from shape all ys) (row_with shape all h x.tick cancels) (rows_after shape all later)
      by (Core (Write row line bytes given answer)) cancels sums asked =
          ended-ends x.tick line (rows_from shape all ys ++ (row_with shape all (Core (Write row line bytes given answer)) x.tick cancels ++ rows_after shape all later)) (outcome_of shape all row)
          (outcome-ends (rows_from shape all ys ++ (row_with shape all (Core (Write row line bytes given answer)) x.tick cancels ++ rows_after shape all later)) row line sums (asked row line (inl (refl, refl))))
      by (Core (Read row line answer)) cancels sums asked =
          outcome-ends (rows_from shape all ys ++ (row_with shape all (Core (Read row line answer)) x.tick cancels ++ rows_after shape all later)) row line sums (asked row line (inl (refl, refl)))
      by (Core (Cut tearing)) false sums asked = refl
      by _ _ sums asked = tt

pub still_there_law : StillThereLaw
still_there_law n m e pace xs bank array sized l holds halted =
    walk bank.kept.shape xs (is_still_there bank.kept.shape (is_worn_at e array) (array_line bank.kept)) [] xs refl
    (still_at bank.kept.shape pace e xs (recounted e xs bank array holds halted) sized l (leaves e xs bank array holds halted) (array_line bank.kept) (agreeing (core xs) bank array holds).lines)
