-- The writes that a row finds are those that stand in the queue, at any tick up to the next end of an action.
use Rattle.std.proofs.Common.{◌≡◌, ◌≢◌, ℕ, ◌≤◌, ◌==◌, inl, Bool, true, false, List, [], ◌∷◌, ◌++◌, refl, sym, ap, ◌∙◌, subst, cond, append_assoc, eq-eqb}
use Rattle.std.{specs.List.list_any, specs.Prelude.unwrap_or, proofs.lemmas.Bool.or_left}
use Rattle.result_rows.specs.declared.Outcome.TheVariants as out
use Rattle.masked_bytes.specs.Entries.{has_row}
use Rattle.row_rules.specs.{Answers.accepts, Queueing.pending, Rows.accepted_of, declared.Row.Row}
use Rattle.bank_shape.specs.{declared.BankShape.BankShape, declared.pace.Pace.Pace}
use Rattle.bank_model.specs.{Events.{Write, Cut}, History.queue, Lawful.{Lawful, MayCome}, Timing.{Happens, Core, TimedEvent, core, last_tick}, Told.{tick_by, tick_of_row}}
use Rattle.bank_laws.{specs.Outcomes.{outcome_with, outcome_of, ended, row_with, rows_from}, proofs.Counting.among}
use Rattle.bank_laws.proofs.{Ending.{Onwards, accepting, write_outcome, outcome-accepts}, Later.EndsAbove, Lines.Stands, Merging.{Fate, FateBy, fate, fate_new}}
use Rattle.bank_laws.proofs.{Pending.{stands_by, write_rows, writes_in, refused_set, gone, stands_same, stands_there, refused_same}, Serves.onwards_at}
use Rattle.bank_laws.proofs.{Settling.{opens, above_all, lawful_before, stays}, Walking.{rows_after, rows_after-more}}
use Rattle.queue_laws.proofs.{Order.tick_stays, Written.{Written, items, standing, Each, NumbersFall, cond_items, cond_each, written_by, written, IsEntry, standing-falls}}

module _ {n m : ℕ} (shape : BankShape) (pace : Pace) (e : ℕ) (all later now : List (TimedEvent n m)) (t : ℕ) (r : 1 ≤ pace.read) (i : 1 ≤ pace.iter) (l : Lawful shape pace e all) (same : all ≡ later ++ now)
    (up : last_tick now ≤ t) (ends : EndsAbove t later) where
  pub whole : Lawful shape pace e (later ++ now)
  whole = subst (λ (xs : List (TimedEvent n m)). Lawful shape pace e xs) same l

  pub here : Lawful shape pace e now
  here = lawful_before shape pace e later now whole

  -- the writes that stand, the newest first
  abbrev pub stood : List (TimedEvent n m) → List (Written n)
  stood ys = standing (λ row. has_row (queue shape (core now)) row) (written shape all ys)

  -- they are those that a row finds
  abbrev AreStood : List (TimedEvent n m) → List (TimedEvent n m) → Type 0
  AreStood mid ys = (pending t (rows_after shape all mid) (rows_from shape all ys) ≡ items (stood ys)) × Each (λ w. IsEntry shape all now w) (stood ys)

  are_stood : (mid ys : List (TimedEvent n m)) → now ≡ mid ++ ys → AreStood mid ys
  are_stood mid [] split = (refl, tt)
  are_stood mid (z ∷ ys) split =
      let rest : AreStood (mid ++ z ∷ []) ys = are_stood (mid ++ z ∷ []) ys (split ∙ sym (append_assoc mid (z ∷ []) ys)) in
      by z.happens z.cancels before.0 (onwards_at shape pace e all (later ++ mid) z ys l in_all)
      (λ row line f. subst (λ (xs : List (TimedEvent n m)). Fate shape xs (rows_after shape all mid) row line) (sym split) (fate shape pace e all later mid (z ∷ ys) row line l (opens shape pace e all l) in_split f))
      (λ row set. subst (λ (xs : List (TimedEvent n m)). outcome_of shape xs row ≢ out.Unset) (sym split) (λ un. set (sym (stays shape pace e mid (z ∷ ys) row there set) ∙ un)))
      (λ row came. ap (λ (xs : List (TimedEvent n m)). tick_of_row row xs) split ∙ tick_stays shape pace e mid (z ∷ ys) row there came)
      (subst (λ (rows : List (Row n)). pending t rows (rows_from shape all ys) ≡ items (stood ys)) (rows_after-more shape all mid z) rest.0) rest.1
    where
      there : Lawful shape pace e (mid ++ z ∷ ys)
      there = subst (λ (xs : List (TimedEvent n m)). Lawful shape pace e xs) split here

      before : Lawful shape pace e (z ∷ ys)
      before = lawful_before shape pace e mid (z ∷ ys) there

      in_split : all ≡ later ++ (mid ++ z ∷ ys)
      in_split = same ∙ ap (λ xs. later ++ xs) split

      in_all : all ≡ (later ++ mid) ++ z ∷ ys
      in_all = in_split ∙ sym (append_assoc later mid (z ∷ ys))

      by : (h : Happens n) (cancels : Bool) → MayCome shape pace e ys z h → Onwards shape all ys z.tick h → ((row line : ℕ) → FateBy shape ys z.tick h [] row line → Fate shape now (rows_after shape all mid) row line)
          → ((row : ℕ) → unwrap_or (outcome_with shape ys h z.tick row) (outcome_of shape ys row) ≢ out.Unset → outcome_of shape now row ≢ out.Unset)
          → ((row : ℕ) → among (write_rows h ++ writes_in ys) row ≡ true → tick_of_row row now ≡ tick_by row h z.tick (tick_of_row row ys))
          → pending t (row_with shape all h z.tick cancels ++ rows_after shape all mid) (rows_from shape all ys) ≡ items (stood ys) → Each (λ w. IsEntry shape all now w) (stood ys)
          → (pending t (rows_after shape all mid) (row_with shape all h z.tick cancels ++ rows_from shape all ys) ≡ items (standing (λ row. has_row (queue shape (core now)) row) (written_by shape all h z.tick ++ written shape all ys)))
          × Each (λ w. IsEntry shape all now w) (standing (λ row. has_row (queue shape (core now)) row) (written_by shape all h z.tick ++ written shape all ys))
      by (Core (Write at line bytes given answer)) cancels may on f g ticks ih each = (
        cond_items _ (has_row (queue shape (core now)) at) _ _ (stood ys) (kind (accepting answer) refl) ih,
        cond_each (λ w. IsEntry shape all now w) (has_row (queue shape (core now)) at) _ (stood ys)
            (λ stands. record {
              there = own stands (accepting answer) refl;
              came = sym (ticks at (or_left (at == at) _ (eq-eqb at at refl)) ∙ ap (λ b. cond b z.tick (tick_of_row at ys)) (eq-eqb at at refl));
              fate = refl;
            })
            each,
      )
        where
          agrees : accepts (ended z.tick (outcome_of shape all at)) ≡ accepting answer
          agrees = outcome-accepts z.tick answer (ended z.tick (outcome_of shape all at)) (write_outcome shape pace e all ys z at line bytes given answer (opens shape pace e all l) may on)

          fated : accepting answer ≡ true → Fate shape now (rows_after shape all mid) at line
          fated acc = f at line (inl (fate_new shape pace e all ys z at line bytes given answer before.1 may acc, refl))

          refused : accepting answer ≡ false → outcome_of shape now at ≢ out.Unset
          refused ref = g at (refused_set shape ys z.tick at line bytes given answer ref)

          kind : (b : Bool) → accepting answer ≡ b → stands_by t z.tick (list_any (accepted_of line) (rows_after shape all mid)) (outcome_of shape all at) ≡ has_row (queue shape (core now)) at
          kind true acc =
              stands_same shape pace e all later now t r i l same up ends at line z.tick
              (rows_after shape all mid) (fated acc)
          kind false ref =
              refused_same shape pace e all later now t r i l same up ends at z.tick
              (list_any (accepted_of line) (rows_after shape all mid)) (agrees ∙ ref) (refused ref)

          own : has_row (queue shape (core now)) at ≡ true → (b : Bool) → accepting answer ≡ b → Stands (queue shape (core now)) at line
          own stands true acc =
              stands_there shape pace e all later now t r i l same up ends at line (rows_after shape all mid)
              (fated acc) stands
          own stands false ref =
              absurd
              (cc (
                gone shape pace e all later now t r i l same up ends at (outcome_of shape now at)
                    (refused ref) refl,
                stands,
              ))
      by (Core (Cut tearing)) true may on f g ticks ih each = (ih, each)
      by _ _ may on f g ticks ih each = (ih, each)

  pub pending_is : pending t [] (rows_from shape all now) ≡ items (stood now)
  pending_is = (are_stood [] now refl).0

  pub stood_each : Each (λ w. IsEntry shape all now w) (stood now)
  stood_each = (are_stood [] now refl).1

  pub stood_fall : (bound : ℕ) × NumbersFall (stood now) bound
  stood_fall = let b = above_all shape pace e now here in (b.0, standing-falls shape all (λ row. has_row (queue shape (core now)) row) now b.0 b.1)
