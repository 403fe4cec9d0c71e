-- Events keep outcomes apart, and so every row of a table stands apart from those before it.
use Rattle.std.proofs.Common.{◌≡◌, ℕ, ◌+◌, ◌<◌, ◌≤◌, ◌⊎◌, inl, inr, Bool, true, false, List, [], ◌∷◌, ◌++◌, Some, None, drop, refl, sym, ◌∙◌, arith, cond, eqb, eqb-true}
use Rattle.std.{specs.List.list_all, specs.Prelude.unwrap_or, proofs.lemmas.Bool.{cases_lt, and_from}}
use Rattle.result_rows.specs.declared.Outcome.{Outcome}
use Rattle.result_rows.specs.declared.Outcome.TheVariants as out
use Rattle.row_rules.specs.{Ticking.apart, declared.Row.Row}
use Rattle.bank_shape.specs.{declared.BankShape.BankShape, declared.answer.Served.Served, declared.clock.Doing.TheVariants.{Serving, Beginning, Iterating}, declared.pace.Pace.Pace}
use Rattle.bank_shape.specs.declared.answer.WriteAnswer.TheVariants as wrote
use Rattle.bank_shape.specs.declared.answer.ReadAnswer.TheVariants as came
use Rattle.bank_shape.specs.declared.answer.Step.TheVariants as did
use Rattle.bank_model.specs.{Changes.change_after, Events.{Write, Read, Serve, Begin, Iterate, Cut, RowsBelow}, History.{Awaited, waits, in_progress}, Lawful.{Lawful, MayCome}}
use Rattle.bank_model.{specs.Running.{left_by, running_at}, specs.Timing.{Happens, Core, Regs, TimedEvent, core, core_of}, proofs.Rising.RowsBelow-more}
use Rattle.bank_laws.{specs.Outcomes.{on_row, outcome_with, outcome_of, ended, row_with, rows_from}, specs.Standing.has_wait, proofs.Answering.{IsFirst, served-first}}
use Rattle.bank_laws.proofs.{Entries.{either, no_wait-push}, Serves.may_at, Settling.{opens, above_all}, Walking.{Passes, walk, rows_after}}
use Rattle.tick_laws.{specs.TickLaws.{is_apart, ApartLaw}, proofs.Actions.{since, since_of, since-rises, end-since}}
use Rattle.tick_laws.proofs.Spacing.{Rising, waits_rise, takes_time, apart-right, ended-left, ended-right, AreSpaced, Plain, plain, stored, served}

module _ {n : ℕ} where
  plain_on : (o : ℕ → Outcome n) (at row : ℕ) (t : Outcome n) → takes_time t ≡ false → (unwrap_or (on_row at row t) (o row) ≡ o row) ⊎ (takes_time (unwrap_or (on_row at row t) (o row)) ≡ false)
  plain_on o at row t is = by (eqb at row)
    where
      by : (b : Bool) → (unwrap_or (cond b (Some t) None) (o row) ≡ o row) ⊎ (takes_time (unwrap_or (cond b (Some t) None) (o row)) ≡ false)
      by true = inr is
      by false = inl refl

  plain_lost : (o : Outcome n) (tick : ℕ) (b : Bool) → (unwrap_or (cond b (Some (out.Lost tick)) None) o ≡ o) ⊎ (takes_time (unwrap_or (cond b (Some (out.Lost tick)) None) o) ≡ false)
  plain_lost o tick b = grind arith

module _ {n m : ℕ} (shape : BankShape) (pace : Pace) (e : ℕ) where
  abbrev Spaced : List (TimedEvent n m) → Type 0
  Spaced xs = AreSpaced pace.read (outcome_of shape xs) (since_of shape pace xs) (in_progress (core xs)) (waits shape (core xs))

  abbrev SpacedBy : List (TimedEvent n m) → TimedEvent n m → Happens n → Type 0
  SpacedBy xs x h =
      AreSpaced pace.read (λ row. unwrap_or (outcome_with shape xs h x.tick row) (outcome_of shape xs row)) (since (left_by shape (core xs) (change_after shape xs) h (running_at shape pace xs x.tick)) x.tick)
      (in_progress (core_of h (core xs))) (waits shape (core_of h (core xs)))

  module _ (xs : List (TimedEvent n m)) (x : TimedEvent n m) (some : 1 ≤ pace.read) (l : Lawful shape pace e xs) (s : Spaced xs) where
    -- an event that ends nothing for a row, and leaves line write and reads as they were
    same : (h : Happens n) → since_of shape pace xs ≤ since (left_by shape (core xs) (change_after shape xs) h (running_at shape pace xs x.tick)) x.tick
        → Plain pace.read (outcome_of shape xs) (since_of shape pace xs) (in_progress (core xs)) (waits shape (core xs)) s (λ row. unwrap_or (outcome_with shape xs h x.tick row) (outcome_of shape xs row))
        → (in_progress (core_of h (core xs)) ≡ true → (in_progress (core xs) ≡ true) ⊎ (since_of shape pace xs + pace.read ≤ since (left_by shape (core xs) (change_after shape xs) h (running_at shape pace xs x.tick)) x.tick))
        → ((other : ℕ) → has_wait (waits shape (core_of h (core xs))) other ≡ true → (has_wait (waits shape (core xs)) other ≡ true) ⊎ ((row u p : ℕ) (b : List ℕ) → outcome_of shape xs row ≡ out.Read u p b → row < other))
        → SpacedBy xs x h
    same h rises new wr there =
        plain pace.read (outcome_of shape xs) (since_of shape pace xs) (in_progress (core xs)) (waits shape (core xs)) s _ (since (left_by shape (core xs) (change_after shape xs) h (running_at shape pace xs x.tick)) x.tick)
        (in_progress (core_of h (core xs))) (waits shape (core_of h (core xs))) new rises wr there

    newer : (row line : ℕ) (v : Awaited) → v.row ≡ row → RowsBelow (core xs) row → (other : ℕ) → has_wait (waits shape (core xs) ++ v ∷ []) other ≡ true
        → (has_wait (waits shape (core xs)) other ≡ true) ⊎ ((at u p : ℕ) (b : List ℕ) → outcome_of shape xs at ≡ out.Read u p b → at < other)
    newer row line v own below other there =
        either (has_wait (waits shape (core xs)) other) inl (λ no. either (eqb v.row other)
        (λ is. inr (λ at u p b read. under at u p b read (eqb-true v.row other is) (cases_lt at other)))
        (λ ne. absurd (cc (no_wait-push (waits shape (core xs)) v other no ne, there))))
      where
        under : (at u p : ℕ) (b : List ℕ) → outcome_of shape xs at ≡ out.Read u p b → v.row ≡ other → (at < other) ⊎ (other ≤ at) → at < other
        under at u p b read is (inl lt) = lt
        under at u p b read is (inr le) =
            let none : outcome_of shape xs at ≡ out.Unset = (opens shape pace e xs l).coming at (RowsBelow-more (core xs) row at (omega (arith, le, is, own)) below) in
            let both : ◌≡◌ {A = Outcome n} (out.Read u p b) out.Unset = sym read ∙ none in absurd (cc)

    at_serve : (answer : Served n) (ws : List Awaited) → AreSpaced pace.read (outcome_of shape xs) (since_of shape pace xs) (in_progress (core xs)) ws → Rising ws → IsFirst ws answer.row
        → x.tick ≡ since_of shape pace xs + pace.read
        → AreSpaced pace.read (λ row. unwrap_or (on_row answer.row row (out.Read x.tick answer.place answer.bytes)) (outcome_of shape xs row)) x.tick (in_progress (core xs)) (drop 1 ws)
    at_serve answer [] s r first end = absurd first
    at_serve answer (w ∷ ws) s r first end =
        served pace.read (outcome_of shape xs) (since_of shape pace xs) (in_progress (core xs)) w ws s answer.row x.tick answer.place answer.bytes some first end r.0

    step : (i : 1 ≤ pace.iter) (h : Happens n) → since_of shape pace xs ≤ since (left_by shape (core xs) (change_after shape xs) h (running_at shape pace xs x.tick)) x.tick → MayCome shape pace e xs x h → SpacedBy xs x h
    step i (Core (Write row line bytes given wrote.Accepted)) rises may = same (Core (Write row line bytes given wrote.Accepted)) rises (λ row. inl refl) inl (λ other. inl)
    step i (Core (Write row line bytes given (wrote.Merged old))) rises may =
        same (Core (Write row line bytes given (wrote.Merged old))) rises (λ at. plain_on (outcome_of shape xs) old at (out.Merged x.tick) refl) inl (λ other. inl)
    step i (Core (Write row line bytes given wrote.Full)) rises may =
        same (Core (Write row line bytes given wrote.Full)) rises (λ at. plain_on (outcome_of shape xs) row at (out.Full x.tick) refl) inl (λ other. inl)
    step i (Core (Write row line bytes given wrote.Exhausted)) rises may =
        same (Core (Write row line bytes given wrote.Exhausted)) rises (λ at. plain_on (outcome_of shape xs) row at (out.Worn x.tick) refl) inl (λ other. inl)
    step i (Core (Read row line came.Waiting)) rises may = same (Core (Read row line came.Waiting)) rises (λ at. inl refl) inl (newer row line _ refl may.asked)
    step i (Core (Read row line came.Busy)) rises may =
        same (Core (Read row line came.Busy)) rises (λ at. plain_on (outcome_of shape xs) row at (out.Busy x.tick) refl) inl (λ other. inl)
    step i (Core (Read row line (came.Forwarded bytes))) rises may =
        same (Core (Read row line (came.Forwarded bytes))) rises (λ at. plain_on (outcome_of shape xs) row at (out.Forwarded x.tick bytes) refl) inl (λ other. inl)
    step i (Core (Serve answer)) rises may =
        let b = above_all shape pace e xs l in
        at_serve answer (waits shape (core xs)) s (waits_rise shape (core xs) b.0 b.1) (served-first shape (core xs) (waits shape (core xs)) answer may.may) (end-since shape pace e xs x Serving may.on_time.0).1
    step i (Core (Begin (did.Stored row place))) rises may =
        let end : x.tick ≡ since_of shape pace xs + pace.read = (end-since shape pace e xs x Beginning may.on_time.0).1 in
        stored pace.read (outcome_of shape xs) (since_of shape pace xs) (in_progress (core xs)) (waits shape (core xs)) s row x.tick place some (omega (arith, end, some)) (inl (omega (arith, end)))
    step i (Core (Begin did.More)) rises may =
        let end : x.tick ≡ since_of shape pace xs + pace.read = (end-since shape pace e xs x Beginning may.on_time.0).1 in
        same (Core (Begin did.More)) rises (λ at. inl refl) (λ is. inr (omega (arith, end))) (λ other. inl)
    step i (Core (Iterate (did.Stored row place))) rises may =
        let end : x.tick ≡ since_of shape pace xs + pace.iter = (end-since shape pace e xs x Iterating may.on_time.0).1 in
        stored pace.read (outcome_of shape xs) (since_of shape pace xs) (in_progress (core xs)) (waits shape (core xs)) s row x.tick place some (omega (arith, end, i)) (inr may.may.0)
    step i (Core (Iterate did.More)) rises may = same (Core (Iterate did.More)) rises (λ at. inl refl) (λ is. inl may.may.0) (λ other. inl)
    step i (Core (Cut tearing)) rises may =
        same (Core (Cut tearing)) rises (λ at. plain_lost (outcome_of shape xs at) x.tick (has_wait (waits shape (core xs)) at)) (λ is. absurd (cc)) (λ other there. absurd (cc))
    step i (Core event) rises may = same (Core event) rises (λ at. inl refl) (λ is. absurd (cc)) (λ other. inl)
    step i (Regs event) rises may = same (Regs event) rises (λ at. inl refl) inl (λ other. inl)

  spaced : (xs : List (TimedEvent n m)) → 1 ≤ pace.read → 1 ≤ pace.iter → Lawful shape pace e xs → Spaced xs
  spaced [] r i l = record {
    stores = λ row u p is. absurd (cc);
    writing = λ is row u p k. absurd (cc);
    reads = λ row u p b is. absurd (cc);
    order = λ row u p b other is there. absurd (cc);
    pairs = λ lower upper lt. refl;
  }
  spaced (x ∷ xs) r i l =
      let s = step xs x r l.1 (spaced xs r i l.1) i x.happens (since-rises shape pace e xs x r i l) l.0 in
      record { stores = s.stores; writing = s.writing; reads = s.reads; order = s.order; pairs = s.pairs }

  -- an outcome is apart from those of all rows before
  apart_rows : (all zs : List (TimedEvent n m)) (bound : ℕ) (o : Outcome n) → RowsBelow (core zs) bound → ((lower : ℕ) → lower < bound → apart pace.read o (outcome_of shape all lower) ≡ true)
      → list_all (λ q. apart pace.read o q.outcome) (rows_from shape all zs) ≡ true
  apart_rows all [] bound o b far = refl
  apart_rows all (z ∷ zs) bound o b far = by z.happens z.cancels (λ bound b far. apart_rows all zs bound o b far) b
    where
      by : (h : Happens n) (cancels : Bool)
          → ((bound : ℕ) → RowsBelow (core zs) bound → ((lower : ℕ) → lower < bound → apart pace.read o (outcome_of shape all lower) ≡ true) → list_all (λ q. apart pace.read o q.outcome) (rows_from shape all zs) ≡ true)
          → RowsBelow (core_of h (core zs)) bound → list_all (λ q. apart pace.read o q.outcome) (row_with shape all h z.tick cancels ++ rows_from shape all zs) ≡ true
      by (Core (Write row line bytes given answer)) cancels go b =
          and_from _ _ (ended-right pace.read z.tick o (outcome_of shape all row) (far row b.0)) (go row b.1 (λ lower lt. far lower (let up : row < bound = b.0 in omega (arith, lt, up))))
      by (Core (Read row line answer)) cancels go b = and_from _ _ (far row b.0) (go row b.1 (λ lower lt. far lower (let up : row < bound = b.0 in omega (arith, lt, up))))
      by (Core (Cut tearing)) false go b = and_from _ _ (apart-right pace.read o (out.Cut z.tick) refl) (go bound b far)
      by _ _ go b = go bound b far

  -- the row of each event stands apart
  pub apart_at : (all later : List (TimedEvent n m)) (x : TimedEvent n m) (ys : List (TimedEvent n m)) → 1 ≤ pace.read → 1 ≤ pace.iter → Lawful shape pace e all → all ≡ later ++ x ∷ ys
      → Passes (is_apart pace.read) (rows_from shape all ys) (row_with shape all x.happens x.tick x.cancels) (rows_after shape all later)
  apart_at all later x ys r i l split = by x.happens x.cancels (may_at shape pace e all later x ys l split)
    where
      pairs : (lower upper : ℕ) → lower < upper → apart pace.read (outcome_of shape all upper) (outcome_of shape all lower) ≡ true
      pairs = (spaced all r i l).pairs

      by : (h : Happens n) (cancels : Bool) → MayCome shape pace e ys x h
          → Passes (is_apart pace.read) (rows_from shape all ys) (row_with shape all h x.tick cancels) (rows_after shape all later)
      by (Core (Write row line bytes given answer)) cancels may =
          apart_rows all ys row (ended x.tick (outcome_of shape all row)) may.asked (λ lower lt. ended-left pace.read x.tick (outcome_of shape all row) (outcome_of shape all lower) (pairs lower row lt))
      by (Core (Read row line answer)) cancels may = apart_rows all ys row (outcome_of shape all row) may.asked (λ lower lt. pairs lower row lt)
      by (Core (Cut tearing)) false may = all_cut ys
        where
          all_cut : (ys : List (TimedEvent n m)) → list_all (λ q. apart pace.read (out.Cut x.tick) q.outcome) (rows_from shape all ys) ≡ true
          all_cut ys = each (rows_from shape all ys)
            where
              each : (rows : List (Row n)) → list_all (λ q. apart pace.read (out.Cut x.tick) q.outcome) rows ≡ true
              each [] = refl
              each (q ∷ rows) = each rows
      by _ _ may = tt

pub apart_law : ApartLaw
apart_law n m e shape pace xs sized l =
    walk shape xs (is_apart pace.read) [] xs refl (λ later x ys same. apart_at shape pace e xs later x ys sized.read sized.iter l same)
