-- The laws of the rows that are stored in time, and of all rows together.
use Rattle.std.proofs.Common.{◌≡◌, ℕ, ◌≤◌, Bool, true, false, List, [], ◌∷◌, ◌++◌, refl, sym, ◌∙◌}
use Rattle.std.proofs.lemmas.Bool.{lt-ltb, le-leb, and_from}
use Rattle.result_rows.specs.declared.Outcome.{Outcome}
use Rattle.result_rows.specs.declared.Outcome.TheVariants as out
use Rattle.masked_bytes.specs.Entries.{has_row}
use Rattle.row_rules.specs.{Ticking.{store_in_time, is_in_time}, declared.Asks.TheVariants.Writes, declared.Row.Row}
use Rattle.bank_shape.specs.{declared.BankShape.BankShape, declared.answer.WriteAnswer.WriteAnswer, declared.pace.Pace.Pace}
use Rattle.bank_shape.specs.declared.answer.WriteAnswer.TheVariants as wrote
use Rattle.bank_model.specs.{Events.{Write, Read, Cut}, History.queue, Lawful.{Lawful, MayCome}, Timing.{Happens, Core, TimedEvent, core, core_of}}
use Rattle.right_runs.specs.Banks.{rules_of}
use Rattle.bank_laws.{specs.Outcomes.{outcome_of, ended, row_with, rows_from}, proofs.Answering.merged-there, proofs.Ending.{Onwards, own_answer}}
use Rattle.bank_laws.proofs.{Fates.{new-push, new-merged}, Serves.{may_at, onwards_at}, Walking.{Passes, walk, rows_after}}
use Rattle.tick_laws.{specs.TickLaws.{is_apart, reads_in_time, stores_in_time, StoreTimeLaw, InTimeLaw}, proofs.Apart.apart_at, proofs.ReadTimes.read_at}
use Rattle.tick_laws.proofs.StoreTimes.{IsInTime, in_end}

module _ {n m : ℕ} (shape : BankShape) (pace : Pace) (e : ℕ) (all : List (TimedEvent n m)) where
  store_at : 1 ≤ pace.read → 1 ≤ pace.iter → 1 ≤ shape.psi → Lawful shape pace e all → (later : List (TimedEvent n m)) (x : TimedEvent n m) (ys : List (TimedEvent n m)) → all ≡ later ++ x ∷ ys
      → Passes (stores_in_time (rules_of e shape pace)) (rows_from shape all ys) (row_with shape all x.happens x.tick x.cancels) (rows_after shape all later)
  store_at r i some l later x ys same =
      by x.happens x.cancels (may_at shape pace e all later x ys l same) (onwards_at shape pace e all later x ys l same)
      (λ row u p there is. in_end shape pace e all later x ys row u p r i some l same there is)
    where
      -- a write that was refused isn't stored
      stands : (row line : ℕ) (bytes : List ℕ) (given : List Bool) (answer : WriteAnswer) → MayCome shape pace e ys x (Core (Write row line bytes given answer))
          → Onwards shape all ys x.tick (Core (Write row line bytes given answer)) → (u p : ℕ) → outcome_of shape all row ≡ out.Stored u p
          → has_row (queue shape (core_of (Core (Write row line bytes given answer)) (core ys))) row ≡ true
      stands row line bytes given wrote.Accepted may on u p is = new-push (queue shape (core ys)) (record { row = row; line = line; bytes = bytes; given = given })
      stands row line bytes given (wrote.Merged old) may on u p is = new-merged old row bytes given (queue shape (core ys)) (merged-there shape (core ys) line old may.may.2)
      stands row line bytes given wrote.Full may on u p is =
          let both : ◌≡◌ {A = Outcome n} (out.Full x.tick) (out.Stored u p) = sym (own_answer shape pace e all ys x (Core (Write row line bytes given wrote.Full)) row (out.Full x.tick) on refl (λ k. absurd (cc))) ∙ is in absurd (cc)
      stands row line bytes given wrote.Exhausted may on u p is =
          let both : ◌≡◌ {A = Outcome n} (out.Worn x.tick) (out.Stored u p) = sym (own_answer shape pace e all ys x (Core (Write row line bytes given wrote.Exhausted)) row (out.Worn x.tick) on refl (λ k. absurd (cc))) ∙ is in absurd (cc)

      in_time : (r : Row n) (before after : List (Row n)) (o : Outcome n) → ((u p : ℕ) → o ≡ out.Stored u p → IsInTime shape pace e all (rules_of e shape pace) r.tick u (before ++ r ∷ after) after)
          → store_in_time (rules_of e shape pace) r (ended x.tick o) before after ≡ true
      in_time r before after (out.Stored u p) h = let k = h u p refl in and_from _ _ (lt-ltb r.tick u k.late) (le-leb u _ k.soon)
      in_time r before after _ h = refl

      by : (h : Happens n) (cancels : Bool) → MayCome shape pace e ys x h → Onwards shape all ys x.tick h
          → ((row u p : ℕ) → has_row (queue shape (core_of h (core ys))) row ≡ true → outcome_of shape all row ≡ out.Stored u p
          → IsInTime shape pace e all (rules_of e shape pace) x.tick u (rows_from shape all ys ++ (row_with shape all h x.tick cancels ++ rows_after shape all later)) (rows_after shape all later))
          → Passes (stores_in_time (rules_of e shape pace)) (rows_from shape all ys) (row_with shape all h x.tick cancels) (rows_after shape all later)
      by (Core (Write row line bytes given answer)) cancels may on go =
          in_time (record { tick = x.tick; asks = Writes line bytes given; outcome = ended x.tick (outcome_of shape all row) }) (rows_from shape all ys) (rows_after shape all later) (outcome_of shape all row)
          (λ u p is. go row u p (stands row line bytes given answer may on u p is) is)
      by (Core (Read row line answer)) cancels may on go = refl
      by (Core (Cut tearing)) false may on go = refl
      by _ _ may on go = tt

  -- a row that passes the three tests is in time
  all_three : (h : Happens n) (tick : ℕ) (cancels : Bool) (before after : List (Row n)) → Passes (is_apart pace.read) before (row_with shape all h tick cancels) after
      → Passes (reads_in_time (rules_of e shape pace)) before (row_with shape all h tick cancels) after → Passes (stores_in_time (rules_of e shape pace)) before (row_with shape all h tick cancels) after
      → Passes (is_in_time (rules_of e shape pace)) before (row_with shape all h tick cancels) after
  all_three (Core (Write row line bytes given answer)) tick cancels before after far read store = and_from _ _ store far
  all_three (Core (Read row line answer)) tick cancels before after far read store = and_from _ _ read far
  all_three (Core (Cut tearing)) tick false before after far read store = and_from _ _ refl far
  all_three _ tick _ before after far read store = tt

pub store_time_law : StoreTimeLaw
store_time_law n m e shape pace xs sized l =
    walk shape xs (stores_in_time (rules_of e shape pace)) [] xs refl (store_at shape pace e xs sized.read sized.iter sized.psi l)

pub in_time_law : InTimeLaw
in_time_law n m e shape pace xs sized l still =
    walk shape xs (is_in_time (rules_of e shape pace)) [] xs refl (λ later x ys same.
    all_three shape pace e xs x.happens x.tick x.cancels _ _ (apart_at shape pace e xs later x ys sized.read sized.iter l same)
    (read_at shape pace e xs sized.read sized.iter l still.unawaited later x ys same) (store_at shape pace e xs sized.read sized.iter sized.psi l later x ys same))
