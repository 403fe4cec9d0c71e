-- Where a row got its outcome: the store or the serve among the events.
use Rattle.std.proofs.Common.{◌≡◌, ◌≢◌, ℕ, inl, Bool, true, false, List, [], ◌∷◌, ◌++◌, Some, None, refl, sym, ap, subst, cond, eqb, eqb-true}
use Rattle.std.specs.Prelude.{unwrap_or}
use Rattle.result_rows.specs.declared.Outcome.{Outcome}
use Rattle.result_rows.specs.declared.Outcome.TheVariants as out
use Rattle.bank_shape.specs.{declared.BankShape.BankShape, declared.answer.Served.Served, declared.pace.Pace.Pace}
use Rattle.bank_shape.specs.declared.answer.WriteAnswer.TheVariants as wrote
use Rattle.bank_shape.specs.declared.answer.ReadAnswer.TheVariants as came
use Rattle.bank_shape.specs.declared.answer.Step.TheVariants as did
use Rattle.bank_model.specs.{After.stands_at_after, Answers.IsServed, Events.{BankEvent, Write, Read, Serve, Begin, Iterate, Cut}, History.{Awaited, waits}}
use Rattle.bank_model.specs.{Lawful.{Lawful, MayCome}, Timing.{Happens, Core, TimedEvent, core}}
use Rattle.bank_laws.{specs.Outcomes.{on_row, outcome_with, outcome_of}, specs.Standing.has_wait, specs.Ticks.ends_action, proofs.Asked.WaitsFor}
use Rattle.place_laws.proofs.Working.{IsStoreOf, done-store}

module _ {n : ℕ} where
  -- another answer than this leaves a row as it was
  not_this : (at row : ℕ) (t o last : Outcome n) → t ≢ last → unwrap_or (on_row at row t) o ≡ last → o ≡ last
  not_this at row t o last ne s = by (eqb at row) s
    where
      by : (b : Bool) → unwrap_or (cond b (Some t) None) o ≡ last → o ≡ last
      by true s = absurd (ne s)
      by false s = s

  not_lost : (b : Bool) (t o last : Outcome n) → t ≢ last → unwrap_or (cond b (Some t) None) o ≡ last → o ≡ last
  not_lost true t o last ne s = absurd (ne s)
  not_lost false t o last ne s = s

  -- a serve is of a read that waits, from the place where its line stands
  pub record IsServeOf (shape : BankShape) (h : List (BankEvent n)) (row place : ℕ) : Type 0 where
    pub line : ℕ
    pub waits_for : WaitsFor (waits shape h) row line
    pub place_is : place ≡ stands_at_after shape h line

  served-of : (shape : BankShape) (h : List (BankEvent n)) (answer : Served n) → IsServed shape h (waits shape h) answer → IsServeOf shape h answer.row answer.place
  served-of shape h answer s = by (waits shape h) refl s
    where
      by : (ws : List Awaited) → waits shape h ≡ ws → IsServed shape h ws answer → IsServeOf shape h answer.row answer.place
      by [] is s = absurd s
      by (w ∷ ws) is s = record {
        line = w.line;
        waits_for = subst (λ ws. WaitsFor ws answer.row w.line) (sym is) (inl (sym s.0, refl));
        place_is = s.1;
      }

module _ {n m : ℕ} (shape : BankShape) where
  -- the row was stored at this tick and place, by one of the events
  pub record IsStoredAt (all : List (TimedEvent n m)) (row u p : ℕ) : Type 0 where
    pub later : List (TimedEvent n m)
    pub event : TimedEvent n m
    pub before : List (TimedEvent n m)
    pub same : all ≡ later ++ event ∷ before
    pub ends : ends_action event.happens ≡ true
    pub tick : event.tick ≡ u
    pub store : IsStoreOf shape (core before) row p

  -- the row was read so
  pub record IsReadAt (all : List (TimedEvent n m)) (row u p : ℕ) : Type 0 where
    pub later : List (TimedEvent n m)
    pub event : TimedEvent n m
    pub before : List (TimedEvent n m)
    pub same : all ≡ later ++ event ∷ before
    pub ends : ends_action event.happens ≡ true
    pub tick : event.tick ≡ u
    pub serve : IsServeOf shape (core before) row p

  stored-more : (x : TimedEvent n m) (zs : List (TimedEvent n m)) (row u p : ℕ) → IsStoredAt zs row u p → IsStoredAt (x ∷ zs) row u p
  stored-more x zs row u p s = record { later = x ∷ s.later; event = s.event; before = s.before; same = ap (λ xs. x ∷ xs) s.same; ends = s.ends; tick = s.tick; store = s.store }

  read-more : (x : TimedEvent n m) (zs : List (TimedEvent n m)) (row u p : ℕ) → IsReadAt zs row u p → IsReadAt (x ∷ zs) row u p
  read-more x zs row u p s = record { later = x ∷ s.later; event = s.event; before = s.before; same = ap (λ xs. x ∷ xs) s.same; ends = s.ends; tick = s.tick; serve = s.serve }

module _ {n m : ℕ} (shape : BankShape) (pace : Pace) (e : ℕ) where
  store_now : (x : TimedEvent n m) (zs : List (TimedEvent n m)) (at place row u p : ℕ) → ends_action x.happens ≡ true → IsStoreOf shape (core zs) at place
      → (outcome_of shape zs row ≡ out.Stored u p → IsStoredAt shape zs row u p)
      → unwrap_or (on_row at row (out.Stored x.tick place)) (outcome_of shape zs row) ≡ out.Stored u p → IsStoredAt shape (x ∷ zs) row u p
  store_now x zs at place row u p ends store go s = by (eqb at row) refl s
    where
      by : (b : Bool) → eqb at row ≡ b → unwrap_or (cond b (Some (out.Stored x.tick place)) None) (outcome_of shape zs row) ≡ out.Stored u p → IsStoredAt shape (x ∷ zs) row u p
      by true is s =
          let its : place ≡ p = cc in
          record {
            later = [];
            event = x;
            before = zs;
            same = refl;
            ends = ends;
            tick = cc;
            store = subst (λ r. IsStoreOf shape (core zs) r p) (eqb-true at row is) (subst (λ p. IsStoreOf shape (core zs) at p) its store);
          }
      by false is s = stored-more shape x zs row u p (go s)

  pub stored-at : (all : List (TimedEvent n m)) (row u p : ℕ) → Lawful shape pace e all → outcome_of shape all row ≡ out.Stored u p → IsStoredAt shape all row u p
  stored-at [] row u p l s = absurd (cc)
  stored-at (x ∷ zs) row u p l s = by x.happens refl l.0 (λ s. stored-at zs row u p l.1 s) s
    where
      more : IsStoredAt shape zs row u p → IsStoredAt shape (x ∷ zs) row u p
      more s = stored-more shape x zs row u p s

      by : (h : Happens n) → x.happens ≡ h → MayCome shape pace e zs x h → (outcome_of shape zs row ≡ out.Stored u p → IsStoredAt shape zs row u p)
          → unwrap_or (outcome_with shape zs h x.tick row) (outcome_of shape zs row) ≡ out.Stored u p → IsStoredAt shape (x ∷ zs) row u p
      by (Core (Write at line bytes given (wrote.Merged old))) is may go s = more (go (not_this old row _ _ _ (λ k. absurd (cc)) s))
      by (Core (Write at line bytes given wrote.Full)) is may go s = more (go (not_this at row _ _ _ (λ k. absurd (cc)) s))
      by (Core (Write at line bytes given wrote.Exhausted)) is may go s = more (go (not_this at row _ _ _ (λ k. absurd (cc)) s))
      by (Core (Read at line came.Busy)) is may go s = more (go (not_this at row _ _ _ (λ k. absurd (cc)) s))
      by (Core (Read at line (came.Forwarded bytes))) is may go s = more (go (not_this at row _ _ _ (λ k. absurd (cc)) s))
      by (Core (Serve answer)) is may go s = more (go (not_this answer.row row _ _ _ (λ k. absurd (cc)) s))
      by (Core (Begin (did.Stored at place))) is may go s = store_now x zs at place row u p (ap ends_action is) (done-store shape (core zs) at place may.may.1) go s
      by (Core (Iterate (did.Stored at place))) is may go s = store_now x zs at place row u p (ap ends_action is) (done-store shape (core zs) at place may.may.1) go s
      by (Core (Cut tearing)) is may go s = more (go (not_lost (has_wait (waits shape (core zs)) row) _ _ _ (λ k. absurd (cc)) s))
      by _ is may go s = more (go s)

  serve_now : (x : TimedEvent n m) (zs : List (TimedEvent n m)) (answer : Served n) (row u p : ℕ) (bytes : List ℕ) → ends_action x.happens ≡ true → IsServeOf shape (core zs) answer.row answer.place
      → (outcome_of shape zs row ≡ out.Read u p bytes → IsReadAt shape zs row u p)
      → unwrap_or (on_row answer.row row (out.Read x.tick answer.place answer.bytes)) (outcome_of shape zs row) ≡ out.Read u p bytes → IsReadAt shape (x ∷ zs) row u p
  serve_now x zs answer row u p bytes ends serve go s = by (eqb answer.row row) refl s
    where
      by : (b : Bool) → eqb answer.row row ≡ b → unwrap_or (cond b (Some (out.Read x.tick answer.place answer.bytes)) None) (outcome_of shape zs row) ≡ out.Read u p bytes → IsReadAt shape (x ∷ zs) row u p
      by true is s =
          let its : answer.place ≡ p = cc in
          record {
            later = [];
            event = x;
            before = zs;
            same = refl;
            ends = ends;
            tick = cc;
            serve = subst (λ r. IsServeOf shape (core zs) r p) (eqb-true answer.row row is) (subst (λ p. IsServeOf shape (core zs) answer.row p) its serve);
          }
      by false is s = read-more shape x zs row u p (go s)

  pub read-at : (all : List (TimedEvent n m)) (row u p : ℕ) (bytes : List ℕ) → Lawful shape pace e all → outcome_of shape all row ≡ out.Read u p bytes → IsReadAt shape all row u p
  read-at [] row u p bytes l s = absurd (cc)
  read-at (x ∷ zs) row u p bytes l s = by x.happens refl l.0 (λ s. read-at zs row u p bytes l.1 s) s
    where
      more : IsReadAt shape zs row u p → IsReadAt shape (x ∷ zs) row u p
      more s = read-more shape x zs row u p s

      by : (h : Happens n) → x.happens ≡ h → MayCome shape pace e zs x h → (outcome_of shape zs row ≡ out.Read u p bytes → IsReadAt shape zs row u p)
          → unwrap_or (outcome_with shape zs h x.tick row) (outcome_of shape zs row) ≡ out.Read u p bytes → IsReadAt shape (x ∷ zs) row u p
      by (Core (Write at line some given (wrote.Merged old))) is may go s = more (go (not_this old row _ _ _ (λ k. absurd (cc)) s))
      by (Core (Write at line some given wrote.Full)) is may go s = more (go (not_this at row _ _ _ (λ k. absurd (cc)) s))
      by (Core (Write at line some given wrote.Exhausted)) is may go s = more (go (not_this at row _ _ _ (λ k. absurd (cc)) s))
      by (Core (Read at line came.Busy)) is may go s = more (go (not_this at row _ _ _ (λ k. absurd (cc)) s))
      by (Core (Read at line (came.Forwarded some))) is may go s = more (go (not_this at row _ _ _ (λ k. absurd (cc)) s))
      by (Core (Serve answer)) is may go s = serve_now x zs answer row u p bytes (ap ends_action is) (served-of shape (core zs) answer may.may) go s
      by (Core (Begin (did.Stored at place))) is may go s = more (go (not_this at row _ _ _ (λ k. absurd (cc)) s))
      by (Core (Iterate (did.Stored at place))) is may go s = more (go (not_this at row _ _ _ (λ k. absurd (cc)) s))
      by (Core (Cut tearing)) is may go s = more (go (not_lost (has_wait (waits shape (core zs)) row) _ _ _ (λ k. absurd (cc)) s))
      by _ is may go s = more (go s)
