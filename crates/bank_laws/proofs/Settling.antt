-- A row has no outcome while it stands, and keeps the one that it gets.
use Rattle.std.proofs.Common.{◌≡◌, ◌≢◌, ℕ, ◌+◌, ◌<◌, ◌==◌, ◌⊎◌, inl, inr, Bool, true, false, List, [], ◌∷◌, ◌++◌, Some, None, drop, refl, sym, ◌∙◌, subst, arith, cond, eqb, eqb-true}
use Rattle.std.{specs.Prelude.unwrap_or, proofs.lemmas.Bool.ne_eqb}
use Rattle.bank_model.specs.{Events.{Write, Read, Serve, Begin, Iterate, Cut, RowsBelow, newest}, History.{awaited, begun, queue, waits, due_after}, Lawful.{Lawful, MayCome}}
use Rattle.bank_model.{specs.Timing.{Happens, Core, Regs, TimedEvent, core, core_of}, proofs.Begun.row-begun, proofs.Rising.RowsBelow-more}
use Rattle.result_rows.specs.declared.Outcome.{Outcome}
use Rattle.result_rows.specs.declared.Outcome.TheVariants as out
use Rattle.masked_bytes.{specs.Entries.{has_row, merged}, specs.declared.entry.Entry.Entry, proofs.Rows.{lacks-push, lacks-drop, lacks-merged, lacks-old}}
use Rattle.bank_shape.specs.{declared.BankShape.BankShape, declared.answer.Served.Served, declared.answer.Step.Step, declared.pace.Pace.Pace}
use Rattle.bank_shape.specs.declared.answer.WriteAnswer.TheVariants as wrote
use Rattle.bank_shape.specs.declared.answer.ReadAnswer.TheVariants as came
use Rattle.bank_shape.specs.declared.answer.Step.TheVariants as did
use Rattle.bank_laws.specs.{Outcomes.{on_row, outcome_with, outcome_of}, Settling.{AreOpen, OpenLaw, SetOnceLaw}, Standing.has_wait}
use Rattle.bank_laws.proofs.Answering.{IsHead, IsFirst, head-there, head-gone, first-there, first-gone, merged-there, stored-head, served-first}
use Rattle.bank_laws.proofs.{Entries.{differ, no_wait-push, no_wait-drop, either}, Standing.stand_apart}

-- a row that is there is another than one that isn't
unlike : (f : ℕ → Bool) (a b : ℕ) → f a ≡ true → f b ≡ false → (a == b) ≡ false
unlike f a b h k = ne_eqb a b (λ e. let t : f b ≡ true = subst (λ r. f r ≡ true) e h in absurd (cc))

unlike_back : (f : ℕ → Bool) (a b : ℕ) → f a ≡ true → f b ≡ false → (b == a) ≡ false
unlike_back f a b h k = ne_eqb b a (λ e. let t : f b ≡ true = subst (λ r. f r ≡ true) (sym e) h in absurd (cc))

module _ {n : ℕ} where
  -- another row's outcome changes nothing
  kept : (at row : ℕ) (t o : Outcome n) → (at == row) ≡ false → o ≡ out.Unset → unwrap_or (on_row at row t) o ≡ out.Unset
  kept at row t o ne is = subst (λ b. unwrap_or (cond b (Some t) None) o ≡ out.Unset) (sym ne) is

  kept_lost : (b : Bool) (t o : Outcome n) → b ≡ false → o ≡ out.Unset → unwrap_or (cond b (Some t) None) o ≡ out.Unset
  kept_lost b t o ne is = grind arith

  -- an event answers no row that has an outcome
  settled : (o : ℕ → Outcome n) (at row : ℕ) (t : Outcome n) → o at ≡ out.Unset → o row ≢ out.Unset → unwrap_or (on_row at row t) (o row) ≡ o row
  settled o at row t is set =
      elim (eqb at row) as (λ b. eqb at row ≡ b → unwrap_or (cond b (Some t) None) (o row) ≡ o row) [
        | true ↦ λ same. absurd (set (subst (λ r. o r ≡ out.Unset) (eqb-true at row same) is))
        | false ↦ λ other. refl
      ] refl

  settled_lost : (o : ℕ → Outcome n) (b : Bool) (row : ℕ) (t : Outcome n) → (b ≡ true → o row ≡ out.Unset) → o row ≢ out.Unset → unwrap_or (cond b (Some t) None) (o row) ≡ o row
  settled_lost o true row t is set = absurd (set (is refl))
  settled_lost o false row t is set = refl

module _ {n m : ℕ} (shape : BankShape) where
  -- what stands after an event, and what is not yet here, has no outcome
  record OpenBy (xs : List (TimedEvent n m)) (tick : ℕ) (h : Happens n) : Type 0 where
    queued : (row : ℕ) → has_row (queue shape (core_of h (core xs))) row ≡ true → unwrap_or (outcome_with shape xs h tick row) (outcome_of shape xs row) ≡ out.Unset
    waiting : (row : ℕ) → has_wait (waits shape (core_of h (core xs))) row ≡ true → unwrap_or (outcome_with shape xs h tick row) (outcome_of shape xs row) ≡ out.Unset
    coming : (row : ℕ) → RowsBelow (core_of h (core xs)) row → unwrap_or (outcome_with shape xs h tick row) (outcome_of shape xs row) ≡ out.Unset

  module _ (xs : List (TimedEvent n m)) (tick : ℕ) (o : AreOpen shape xs) where
    -- an event that answers its own row, which stands nowhere
    refused : (at row : ℕ) (t : Outcome n) → RowsBelow (core xs) at → (has_row (queue shape (core xs)) row ≡ true) ⊎ (has_wait (waits shape (core xs)) row ≡ true)
        → unwrap_or (on_row at row t) (outcome_of shape xs row) ≡ out.Unset
    refused at row t b (inl h) =
        kept at row t _ (unlike_back (has_row (queue shape (core xs))) row at h ((stand_apart shape (core xs) at b).queued_below at (omega arith))) (o.queued row h)
    refused at row t b (inr h) =
        kept at row t _ (unlike_back (has_wait (waits shape (core xs))) row at h ((stand_apart shape (core xs) at b).waiting_below at (omega arith))) (o.waiting row h)

    refused_later : (at row : ℕ) (t : Outcome n) → at < row → RowsBelow (core xs) at → unwrap_or (on_row at row t) (outcome_of shape xs row) ≡ out.Unset
    refused_later at row t lt b = kept at row t _ (differ at row lt) (o.coming row (RowsBelow-more (core xs) at row (omega arith) b))

    open_accepted : (row line : ℕ) (bytes : List ℕ) (given : List Bool) → RowsBelow (core xs) row → OpenBy xs tick (Core (Write row line bytes given wrote.Accepted))
    open_accepted row line bytes given b = record {
      queued = λ r h. either (has_row (queue shape (core xs)) r) (o.queued r)
          (λ no. either (eqb row r) (λ same. subst (λ r. outcome_of shape xs r ≡ out.Unset) (eqb-true row r same) (o.coming row b))
          (λ other. absurd (cc (lacks-push (queue shape (core xs)) (record { row = row; line = line; bytes = bytes; given = given }) r no other, h))));
      waiting = o.waiting;
      coming = λ r below. o.coming r (RowsBelow-more (core xs) row r (omega (arith, below.0)) b);
    }

    open_merged : (row line old : ℕ) (bytes : List ℕ) (given : List Bool) → RowsBelow (core xs) row → has_row (queue shape (core xs)) old ≡ true
        → OpenBy xs tick (Core (Write row line bytes given (wrote.Merged old)))
    open_merged row line old bytes given b there =
        let a = stand_apart shape (core xs) row b in
        let unlike_row : (row == old) ≡ false = unlike_back (has_row (queue shape (core xs))) old row there (a.queued_below row (omega arith)) in
        record {
          queued = λ r h.
              let gone : has_row (merged old row bytes given (queue shape (core xs))) old ≡ false = lacks-old old row bytes given (queue shape (core xs)) a.queued_apart unlike_row in
              kept old r _ _ (unlike_back (has_row (merged old row bytes given (queue shape (core xs)))) r old h gone)
              (either (has_row (queue shape (core xs)) r) (o.queued r)
              (λ no. either (eqb row r) (λ same. subst (λ r. outcome_of shape xs r ≡ out.Unset) (eqb-true row r same) (o.coming row b))
              (λ other. absurd (cc (lacks-merged old row bytes given (queue shape (core xs)) r no other, h)))));
          waiting = λ r h. kept old r _ _ (unlike_back (has_wait (waits shape (core xs))) r old h (a.one_place old there)) (o.waiting r h);
          coming = λ r below.
              let later : RowsBelow (core xs) r = RowsBelow-more (core xs) row r (omega (arith, below.0)) b in
              kept old r _ _ (unlike (has_row (queue shape (core xs))) old r there ((stand_apart shape (core xs) r later).queued_below r (omega arith))) (o.coming r later);
        }

    open_waiting : (row line : ℕ) → RowsBelow (core xs) row → OpenBy xs tick (Core (Read row line came.Waiting))
    open_waiting row line b = record {
      queued = o.queued;
      waiting = λ r h. either (has_wait (waits shape (core xs)) r) (o.waiting r)
          (λ no. either (eqb row r) (λ same. subst (λ r. outcome_of shape xs r ≡ out.Unset) (eqb-true row r same) (o.coming row b))
          (λ other. absurd (cc (no_wait-push (waits shape (core xs)) (awaited row line _ _) r no other, h))));
      coming = λ r below. o.coming r (RowsBelow-more (core xs) row r (omega (arith, below.0)) b);
    }

    -- a read that waits is answered, and waits no more
    open_served : (answer : Served n) (next : ℕ) → RowsBelow (core xs) next → IsFirst (waits shape (core xs)) answer.row → OpenBy xs tick (Core (Serve answer))
    open_served answer next b first =
        let a = stand_apart shape (core xs) next b in
        let there : has_wait (waits shape (core xs)) answer.row ≡ true = first-there (waits shape (core xs)) answer.row first in
        record {
          queued = λ r h. kept answer.row r _ _ (unlike (has_wait (waits shape (core xs))) answer.row r there (a.one_place r h)) (o.queued r h);
          waiting = λ r h.
              kept answer.row r _ _ (unlike_back (has_wait (drop 1 (waits shape (core xs)))) r answer.row h (first-gone (waits shape (core xs)) answer.row a.waiting_apart first))
              (either (has_wait (waits shape (core xs)) r) (o.waiting r) (λ no. absurd (cc (no_wait-drop (waits shape (core xs)) r no, h))));
          coming = λ r below. kept answer.row r _ _ (unlike (has_wait (waits shape (core xs))) answer.row r there ((stand_apart shape (core xs) r below).waiting_below r (omega arith))) (o.coming r below);
        }

    -- the head of the queue is stored
    head_queued : (row next r : ℕ) (t : Outcome n) → RowsBelow (core xs) next → IsHead (queue shape (core xs)) row → has_row (drop 1 (queue shape (core xs))) r ≡ true
        → unwrap_or (on_row row r t) (outcome_of shape xs r) ≡ out.Unset
    head_queued row next r t b head h =
        kept row r t _ (unlike_back (has_row (drop 1 (queue shape (core xs)))) r row h (head-gone (queue shape (core xs)) row (stand_apart shape (core xs) next b).queued_apart head))
        (either (has_row (queue shape (core xs)) r) (o.queued r) (λ no. absurd (cc (lacks-drop (queue shape (core xs)) r no, h))))

    head_waiting : (row next r : ℕ) (t : Outcome n) → RowsBelow (core xs) next → IsHead (queue shape (core xs)) row → has_wait (waits shape (core xs)) r ≡ true
        → unwrap_or (on_row row r t) (outcome_of shape xs r) ≡ out.Unset
    head_waiting row next r t b head h =
        kept row r t _ (unlike_back (has_wait (waits shape (core xs))) r row h ((stand_apart shape (core xs) next b).one_place row (head-there (queue shape (core xs)) row head))) (o.waiting r h)

    head_coming : (row r : ℕ) (t : Outcome n) → IsHead (queue shape (core xs)) row → RowsBelow (core xs) r
        → unwrap_or (on_row row r t) (outcome_of shape xs r) ≡ out.Unset
    head_coming row r t head below =
        kept row r t _ (unlike (has_row (queue shape (core xs))) row r (head-there (queue shape (core xs)) row head) ((stand_apart shape (core xs) r below).queued_below r (omega arith))) (o.coming r below)

    -- the queue's head is completed
    open_begun : (answer : Step) → (queue shape (Begin answer ∷ core xs) ≡ begun (due_after shape (core xs)) (newest (core xs)) (queue shape (core xs)))
        → ((r : ℕ) → outcome_with shape xs (Core (Begin answer)) tick r ≡ None) → OpenBy xs tick (Core (Begin answer))
    open_begun answer same none = record {
      queued = λ r h. rw (none r) (o.queued r (sym (row-begun (due_after shape (core xs)) (newest (core xs)) (queue shape (core xs)) r) ∙ subst (λ (q : List (Entry n)). has_row q r ≡ true) same h));
      waiting = λ r h. rw (none r) (o.waiting r h);
      coming = λ r below. rw (none r) (o.coming r below);
    }

    -- the reads that wait are lost
    open_cut : (tearing : Bool) (next : ℕ) → RowsBelow (core xs) next → OpenBy xs tick (Core (Cut tearing))
    open_cut tearing next b = record {
      queued = λ r h. kept_lost (has_wait (waits shape (core xs)) r) _ _ ((stand_apart shape (core xs) next b).one_place r h) (o.queued r h);
      waiting = λ r h. absurd (cc);
      coming = λ r below. kept_lost (has_wait (waits shape (core xs)) r) _ _ ((stand_apart shape (core xs) r below).waiting_below r (omega arith)) (o.coming r below);
    }

module _ {n m : ℕ} (shape : BankShape) (pace : Pace) (e : ℕ) where
  -- some row is above all rows of a lawful history
  pub above_all : (xs : List (TimedEvent n m)) → Lawful shape pace e xs → (next : ℕ) × RowsBelow (core xs) next
  above_all [] l = (0, tt)
  above_all (x ∷ xs) l = by x.happens (above_all xs l.1) l.0
    where
      by : (h : Happens n) → ((next : ℕ) × RowsBelow (core xs) next) → MayCome shape pace e xs x h → (next : ℕ) × RowsBelow (core_of h (core xs)) next
      by (Core (Write row line bytes given answer)) b may = (row + 1, (omega arith, may.asked))
      by (Core (Read row line answer)) b may = (row + 1, (omega arith, may.asked))
      by _ b may = b

  step_open : (xs : List (TimedEvent n m)) (x : TimedEvent n m) (h : Happens n) → Lawful shape pace e xs → AreOpen shape xs → MayCome shape pace e xs x h → OpenBy shape xs x.tick h
  step_open xs x (Core (Write row line bytes given wrote.Accepted)) l o may = open_accepted shape xs x.tick o row line bytes given may.asked
  step_open xs x (Core (Write row line bytes given (wrote.Merged old))) l o may =
      open_merged shape xs x.tick o row line old bytes given may.asked (merged-there shape (core xs) line old may.may.2)
  step_open xs x (Core (Read row line came.Waiting)) l o may = open_waiting shape xs x.tick o row line may.asked
  step_open xs x (Core (Serve answer)) l o may =
      let b = above_all xs l in open_served shape xs x.tick o answer b.0 b.1 (served-first shape (core xs) (waits shape (core xs)) answer may.may)
  step_open xs x (Core (Begin (did.Stored row place))) l o may =
      let b = above_all xs l in
      let head = stored-head shape (core xs) row place may.may.1 in
      record {
        queued = λ r h. head_queued shape xs x.tick o row b.0 r _ b.1 head h;
        waiting = λ r h. head_waiting shape xs x.tick o row b.0 r _ b.1 head h;
        coming = λ r below. head_coming shape xs x.tick o row r _ head below;
      }
  step_open xs x (Core (Begin answer)) l o may = open_begun shape xs x.tick o answer refl (λ r. refl)
  step_open xs x (Core (Iterate (did.Stored row place))) l o may =
      let b = above_all xs l in
      let head = stored-head shape (core xs) row place may.may.1 in
      record {
        queued = λ r h. head_queued shape xs x.tick o row b.0 r _ b.1 head h;
        waiting = λ r h. head_waiting shape xs x.tick o row b.0 r _ b.1 head h;
        coming = λ r below. head_coming shape xs x.tick o row r _ head below;
      }
  step_open xs x (Core (Cut tearing)) l o may = let b = above_all xs l in open_cut shape xs x.tick o tearing b.0 b.1
  step_open xs x (Core (Iterate _)) l o may = record { queued = o.queued; waiting = o.waiting; coming = o.coming }
  step_open xs x (Regs _) l o may = record { queued = o.queued; waiting = o.waiting; coming = o.coming }
  step_open xs x _ l o may = record {
    queued = λ r h. refused shape xs x.tick o _ r _ may.asked (inl h);
    waiting = λ r h. refused shape xs x.tick o _ r _ may.asked (inr h);
    coming = λ r below. refused_later shape xs x.tick o _ r _ below.0 may.asked;
  }

  pub opens : (xs : List (TimedEvent n m)) → Lawful shape pace e xs → AreOpen shape xs
  opens [] l = record { queued = λ row h. refl; waiting = λ row h. refl; coming = λ row h. refl }
  opens (x ∷ xs) l =
      let o = step_open xs x x.happens l.1 (opens xs l.1) l.0 in
      record { queued = o.queued; waiting = o.waiting; coming = o.coming }

  -- so an outcome stays over one more event
  pub step_stays : (xs : List (TimedEvent n m)) (x : TimedEvent n m) (h : Happens n) (row : ℕ) → Lawful shape pace e xs → AreOpen shape xs → MayCome shape pace e xs x h
      → outcome_of shape xs row ≢ out.Unset → unwrap_or (outcome_with shape xs h x.tick row) (outcome_of shape xs row) ≡ outcome_of shape xs row
  step_stays xs x (Core (Write at line bytes given (wrote.Merged old))) row l o may set =
      settled (outcome_of shape xs) old row _ (o.queued old (merged-there shape (core xs) line old may.may.2)) set
  step_stays xs x (Core (Write at line bytes given wrote.Full)) row l o may set = settled (outcome_of shape xs) at row _ (o.coming at may.asked) set
  step_stays xs x (Core (Write at line bytes given wrote.Exhausted)) row l o may set = settled (outcome_of shape xs) at row _ (o.coming at may.asked) set
  step_stays xs x (Core (Read at line came.Busy)) row l o may set = settled (outcome_of shape xs) at row _ (o.coming at may.asked) set
  step_stays xs x (Core (Read at line (came.Forwarded bytes))) row l o may set = settled (outcome_of shape xs) at row _ (o.coming at may.asked) set
  step_stays xs x (Core (Serve answer)) row l o may set =
      settled (outcome_of shape xs) answer.row row _ (o.waiting answer.row (first-there (waits shape (core xs)) answer.row (served-first shape (core xs) (waits shape (core xs)) answer may.may))) set
  step_stays xs x (Core (Begin (did.Stored at place))) row l o may set =
      settled (outcome_of shape xs) at row _ (o.queued at (head-there (queue shape (core xs)) at (stored-head shape (core xs) at place may.may.1))) set
  step_stays xs x (Core (Iterate (did.Stored at place))) row l o may set =
      settled (outcome_of shape xs) at row _ (o.queued at (head-there (queue shape (core xs)) at (stored-head shape (core xs) at place may.may.1))) set
  step_stays xs x (Core (Cut tearing)) row l o may set = settled_lost (outcome_of shape xs) (has_wait (waits shape (core xs)) row) row _ (o.waiting row) set
  step_stays xs x _ row l o may set = refl

  pub lawful_before : (later xs : List (TimedEvent n m)) → Lawful shape pace e (later ++ xs) → Lawful shape pace e xs
  lawful_before [] xs l = l
  lawful_before (x ∷ later) xs l = lawful_before later xs l.1

  pub stays : (later xs : List (TimedEvent n m)) (row : ℕ) → Lawful shape pace e (later ++ xs) → outcome_of shape xs row ≢ out.Unset
      → outcome_of shape (later ++ xs) row ≡ outcome_of shape xs row
  stays [] xs row l set = refl
  stays (x ∷ later) xs row l set =
      let before : outcome_of shape (later ++ xs) row ≡ outcome_of shape xs row = stays later xs row l.1 set in
      step_stays (later ++ xs) x x.happens row l.1 (opens (later ++ xs) l.1) l.0 (λ is. set (sym before ∙ is)) ∙ before

pub open_law : OpenLaw
open_law n m e shape pace xs l = opens shape pace e xs l

pub set_once_law : SetOnceLaw
set_once_law n m e shape pace later xs row l set = stays shape pace e later xs row l set
