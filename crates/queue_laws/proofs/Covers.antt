-- The bytes that the rows show as given by the queue are those of the accepted writes behind the last stored one.
use Rattle.std.proofs.Common.{◌≡◌, ℕ, ◌<◌, ◌≤◌, ◌==◌, ◌&&◌, ◌⊎◌, inl, inr, Bool, true, false, suc, List, [], ◌∷◌, ◌++◌, refl, sym, ap, ◌∙◌, subst, arith, cond, eqb, append_assoc}
use Rattle.std.{specs.List.list_any, specs.Prelude.nat_le, proofs.lemmas.Bool.{le-leb, lt-leb, and_left, and_right, or_from}, proofs.lemmas.List.Folds.list_any-append}
use Rattle.result_rows.specs.declared.Outcome.{Outcome}
use Rattle.result_rows.specs.declared.Outcome.TheVariants as out
use Rattle.masked_bytes.specs.Masked.{joined, none_given}
use Rattle.row_rules.specs.{Answers.{accepts, is_stored}, Queueing.{unstored, cover}, Rows.write_of, declared.Row.Row}
use Rattle.row_rules.specs.Answers as answers
use Rattle.bank_shape.specs.{declared.BankShape.BankShape, declared.pace.Pace.Pace}
use Rattle.bank_model.specs.{Events.{Write, Read, Cut, RowsBelow}, Lawful.{Lawful, MayCome}, Timing.{Happens, Core, TimedEvent, core, core_of, last_tick}}
use Rattle.bank_model.proofs.Rising.{RowsBelow-more}
use Rattle.bank_laws.{specs.Outcomes.{outcome_of, ended, row_with, rows_from}, proofs.Ending.{Onwards, accepting, write_outcome, outcome-accepts}}
use Rattle.bank_laws.proofs.{Later.{EndsAbove, stored_over}, Serves.onwards_at, Settling.{opens, lawful_before, stays}, Walking.rows_after, Wears.stored_up_to}
use Rattle.queue_laws.proofs.Floors.{since, floor_of, since-none, since-other, floor-bound, floor-skip, stored_case}

module _ {n : ℕ} where
  later_stored : (t tick : ℕ) (o : Outcome n) → ((u p : ℕ) → o ≡ out.Stored u p → t < u) → answers.stored_by t (ended tick o) ≡ false
  later_stored t tick (out.Stored at place) h = lt-leb at t (h at place refl)
  later_stored t tick _ h = refl

three_true : (a b c : Bool) → b ≡ true → c ≡ true → (a && (b && c)) ≡ a
three_true a b c h k = grind arith

one_true : (a b : Bool) → a ≡ true → (a && b) ≡ b
one_true a b h = grind arith

rows_before : {n m : ℕ} (mid now : List (TimedEvent n m)) (bound : ℕ) → RowsBelow (core (mid ++ now)) bound → RowsBelow (core now) bound
rows_before [] now bound b = b
rows_before {n} {m} (x ∷ mid) now bound b = by x.happens (λ bound b. rows_before mid now bound b) b
  where
    by : (h : Happens n) → ((bound : ℕ) → RowsBelow (core (mid ++ now)) bound → RowsBelow (core now) bound) → RowsBelow (core_of h (core (mid ++ now))) bound → RowsBelow (core now) bound
    by (Core (Write at line bytes given answer)) go b = RowsBelow-more (core now) at bound (omega (arith, b.0)) (go at b.1)
    by (Core (Read at line answer)) go b = RowsBelow-more (core now) at bound (omega (arith, b.0)) (go at b.1)
    by _ go b = go bound b

module _ {n m : ℕ} (shape : BankShape) (pace : Pace) (e : ℕ) (all later now : List (TimedEvent n m)) (t : ℕ) (r : 1 ≤ pace.read) (i : 1 ≤ pace.iter) (l : Lawful shape pace e all) (same : all ≡ later ++ now)
    (up : last_tick now ≤ t) (ends : EndsAbove t later) where
  whole : Lawful shape pace e (later ++ now)
  whole = subst (λ (xs : List (TimedEvent n m)). Lawful shape pace e xs) same l

  here : Lawful shape pace e now
  here = lawful_before shape pace e later now whole

  unstored_later : (row tick : ℕ) → ((u p : ℕ) → outcome_of shape now row ≡ out.Stored u p → ⊥) → answers.stored_by t (ended tick (outcome_of shape all row)) ≡ false
  unstored_later row tick isnt =
      later_stored t tick (outcome_of shape all row) (λ u p s. stored_over shape pace e t later now row u p ends (isnt u p) whole (sym (ap (λ xs. outcome_of shape xs row) same) ∙ s))

  -- a row is stored by the tick exactly where it is stored by now
  stored_same : (row tick : ℕ) → answers.stored_by t (ended tick (outcome_of shape all row)) ≡ is_stored (outcome_of shape now row)
  stored_same row tick = by (stored_case (outcome_of shape now row))
    where
      by : ((u : ℕ) × (p : ℕ) × (outcome_of shape now row ≡ out.Stored u p)) ⊎ (is_stored (outcome_of shape now row) ≡ false) → answers.stored_by t (ended tick (outcome_of shape all row)) ≡ is_stored (outcome_of shape now row)
      by (inl s) =
          let at_most : s.0 ≤ last_tick now = stored_up_to shape pace e now row s.0 s.1 r i here s.2 in
          let kept : outcome_of shape all row ≡ out.Stored s.0 s.1 =
          ap (λ xs. outcome_of shape xs row) same
          ∙ stays shape pace e later now row whole (λ un. let both : ◌≡◌ {A = Outcome n} (out.Stored s.0 s.1) out.Unset = sym s.2 ∙ un in absurd (cc)) ∙ s.2 in
          ap (λ (o : Outcome n). answers.stored_by t (ended tick o)) kept ∙ le-leb s.0 t (omega (arith, at_most, up)) ∙ sym (ap is_stored s.2)
      by (inr none) = unstored_later row tick (λ u p s. absurd (cc (none, ap is_stored s))) ∙ sym none

  -- which bytes no row that is out gives, by any test that says which row is stored by now
  pub unstored_by : (is_out : Outcome n → Bool) → ((row tick : ℕ) → is_out (ended tick (outcome_of shape all row)) ≡ is_stored (outcome_of shape now row)) → (line : ℕ) (mid ys : List (TimedEvent n m)) → now ≡ mid ++ ys → unstored is_out line (rows_from shape all ys) ≡ since (core ys) line (floor_of (outcome_of shape now) (core ys) line)
  unstored_by is_out out_is line mid [] split = refl
  unstored_by is_out out_is line mid (z ∷ ys) split =
      by z.happens z.cancels before.0 (onwards_at shape pace e all (later ++ mid) z ys l in_all) (unstored_by is_out out_is line (mid ++ z ∷ []) ys (split ∙ sym (append_assoc mid (z ∷ []) ys)))
    where
      before : Lawful shape pace e (z ∷ ys)
      before = lawful_before shape pace e mid (z ∷ ys) (subst (λ (xs : List (TimedEvent n m)). Lawful shape pace e xs) split here)

      in_all : all ≡ (later ++ mid) ++ z ∷ ys
      in_all = same ∙ ap (λ xs. later ++ xs) split ∙ sym (append_assoc later mid (z ∷ ys))

      by : (h : Happens n) (cancels : Bool) → MayCome shape pace e ys z h → Onwards shape all ys z.tick h
          → unstored is_out line (rows_from shape all ys) ≡ since (core ys) line (floor_of (outcome_of shape now) (core ys) line)
          → unstored is_out line (row_with shape all h z.tick cancels ++ rows_from shape all ys) ≡ since (core_of h (core ys)) line (floor_of (outcome_of shape now) (core_of h (core ys)) line)
      by (Core (Write at k bytes given answer)) cancels may on ih = kind (eqb k line) refl (is_stored (outcome_of shape now at)) refl
        where
          agrees : accepts (ended z.tick (outcome_of shape all at)) ≡ accepting answer
          agrees = outcome-accepts z.tick answer (ended z.tick (outcome_of shape all at)) (write_outcome shape pace e all ys z at k bytes given answer (opens shape pace e all l) may on)

          low : floor_of (outcome_of shape now) (core ys) line ≤ at
          low = floor-bound (outcome_of shape now) (core ys) at line may.asked

          kind : (b : Bool) → eqb k line ≡ b → (st : Bool) → is_stored (outcome_of shape now at) ≡ st
              → cond (k == line && is_out (ended z.tick (outcome_of shape all at))) (none_given n) (cond (k == line && accepts (ended z.tick (outcome_of shape all at))) (joined given (unstored is_out line (rows_from shape all ys))) (unstored is_out line (rows_from shape all ys)))
              ≡ since (Write at k bytes given answer ∷ core ys) line (cond (k == line && is_stored (outcome_of shape now at)) (suc at) (floor_of (outcome_of shape now) (core ys) line))
          kind true own true st =
              ap (λ c. cond c (none_given n) (cond (k == line && accepts (ended z.tick (outcome_of shape all at))) (joined given (unstored is_out line (rows_from shape all ys))) (unstored is_out line (rows_from shape all ys))))
              (one_true (k == line) _ own ∙ out_is at z.tick ∙ st)
              ∙ sym (ap (λ c. since (Write at k bytes given answer ∷ core ys) line (cond c (suc at) (floor_of (outcome_of shape now) (core ys) line))) (one_true (k == line) _ own ∙ st)
              ∙ since-none (Write at k bytes given answer ∷ core ys) (suc at) line (suc at) (omega arith, may.asked) (omega arith))
          kind true own false st =
              ap (λ c. cond c (none_given n) (cond (k == line && accepts (ended z.tick (outcome_of shape all at))) (joined given (unstored is_out line (rows_from shape all ys))) (unstored is_out line (rows_from shape all ys))))
              (and_right (k == line) _ (out_is at z.tick ∙ st))
              ∙ ap (λ c. cond c (joined given (unstored is_out line (rows_from shape all ys))) (unstored is_out line (rows_from shape all ys)))
              (one_true (k == line) _ own ∙ agrees ∙ sym (three_true (accepting answer) (k == line) (nat_le (floor_of (outcome_of shape now) (core ys) line) at) own (le-leb (floor_of (outcome_of shape now) (core ys) line) at low)))
              ∙ ap (λ g. cond (accepting answer && (k == line && nat_le (floor_of (outcome_of shape now) (core ys) line) at)) (joined given g) g) ih
              ∙ sym (ap (λ f. since (Write at k bytes given answer ∷ core ys) line f) (floor-skip (k == line && is_stored (outcome_of shape now at)) at (floor_of (outcome_of shape now) (core ys) line) (and_right (k == line) _ st)))
          kind false ne st is =
              ap (λ c. cond c (none_given n) (cond (k == line && accepts (ended z.tick (outcome_of shape all at))) (joined given (unstored is_out line (rows_from shape all ys))) (unstored is_out line (rows_from shape all ys))))
              (and_left (k == line) _ ne)
              ∙ ap (λ c. cond c (joined given (unstored is_out line (rows_from shape all ys))) (unstored is_out line (rows_from shape all ys))) (and_left (k == line) _ ne)
              ∙ ih
              ∙ sym (since-other given (since (core ys) line (floor_of (outcome_of shape now) (core ys) line)) (accepting answer) k at line (floor_of (outcome_of shape now) (core ys) line) ne)
              ∙ sym (ap (λ f. since (Write at k bytes given answer ∷ core ys) line f) (floor-skip (k == line && is_stored (outcome_of shape now at)) at (floor_of (outcome_of shape now) (core ys) line) (and_left (k == line) _ ne)))
      by (Core (Cut tearing)) true may on ih = ih
      by _ _ may on ih = ih

  unstored_is : (line : ℕ) → unstored (λ (o : Outcome n). answers.stored_by t o) line (rows_from shape all now) ≡ since (core now) line (floor_of (outcome_of shape now) (core now) line)
  unstored_is line = unstored_by (λ (o : Outcome n). answers.stored_by t o) stored_same line [] now refl

  -- no later row is stored by the tick
  none_after : (line : ℕ) (mid zs : List (TimedEvent n m)) → Lawful shape pace e (mid ++ zs) → ((bound : ℕ) → RowsBelow (core zs) bound → RowsBelow (core now) bound)
      → list_any (λ (q : Row n). write_of line q && answers.stored_by t q.outcome) (rows_after shape all mid) ≡ false
  none_after line [] zs lawful low = refl
  none_after line (x ∷ mid) zs lawful low =
      list_any-append (λ (q : Row n). write_of line q && answers.stored_by t q.outcome) (rows_after shape all mid) (row_with shape all x.happens x.tick x.cancels)
      ∙ or_from (list_any (λ (q : Row n). write_of line q && answers.stored_by t q.outcome) (rows_after shape all mid)) _ (none_after line mid zs lawful.1 low) (by x.happens x.cancels lawful.0)
    where
      by : (h : Happens n) (cancels : Bool) → MayCome shape pace e (mid ++ zs) x h → list_any (λ (q : Row n). write_of line q && answers.stored_by t q.outcome) (row_with shape all h x.tick cancels) ≡ false
      by (Core (Write at k bytes given answer)) cancels may =
          or_from (k == line && answers.stored_by t (ended x.tick (outcome_of shape all at))) false
          (and_right (k == line) _ (unstored_later at x.tick
          (λ u p s. let both : ◌≡◌ {A = Outcome n} (out.Stored u p) out.Unset = sym s ∙ (opens shape pace e now here).coming at (low at (rows_before mid zs at may.asked)) in absurd (cc)))) refl
      by (Core (Cut tearing)) true may = refl
      by _ _ may = refl

  -- what the rows show as given by the queue
  pub cover_is : (line : ℕ) (mid zs : List (TimedEvent n m)) → Lawful shape pace e (mid ++ zs) → ((bound : ℕ) → RowsBelow (core zs) bound → RowsBelow (core now) bound)
      → cover t line (rows_from shape all now) (rows_after shape all mid) ≡ since (core now) line (floor_of (outcome_of shape now) (core now) line)
  cover_is line mid zs lawful low =
      ap (λ b. cond b (none_given n) (unstored (λ (o : Outcome n). answers.stored_by t o) line (rows_from shape all now))) (none_after line mid zs lawful low) ∙ unstored_is line
