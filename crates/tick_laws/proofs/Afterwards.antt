-- The rows of later events, and the cuts among them.
use Rattle.std.proofs.Common.{◌≡◌, ℕ, ◌≤◌, ◌==◌, ◌&&◌, ◌||◌, not, Bool, true, false, List, [], ◌∷◌, ◌++◌, refl, sym, ap, ◌∙◌, arith, cond, append_assoc}
use Rattle.std.{specs.List.list_any, specs.Prelude.nat_le, proofs.lemmas.Bool.{le-leb, and_from}, proofs.lemmas.List.append-nil, proofs.lemmas.List.Folds.list_all-append}
use Rattle.row_rules.specs.{Rows.is_cut, Ticking.{no_cut_below, first_cut_at}, declared.Row.Row}
use Rattle.bank_shape.specs.{declared.BankShape.BankShape, declared.pace.Pace.Pace}
use Rattle.bank_model.specs.{Events.Cut, Lawful.Lawful, Timing.{Happens, Core, TimedEvent, last_tick}}
use Rattle.bank_laws.{specs.Outcomes.row_with, proofs.Later.last-later, proofs.Ticks.last_tick-rises, proofs.Walking.rows_after}

module _ {n : ℕ} where
  -- without a cut none is below a tick, and the first is among the rows behind
  pub none-below : (u : ℕ) (rows : List (Row n)) → list_any is_cut rows ≡ false → no_cut_below u rows ≡ true
  none-below u [] none = refl
  none-below u (q ∷ rows) none = by (is_cut q) none (λ k. none-below u rows k)
    where
      by : (b : Bool) → (b || list_any is_cut rows) ≡ false → (list_any is_cut rows ≡ false → no_cut_below u rows ≡ true) → ((not b || nat_le u q.tick) && no_cut_below u rows) ≡ true
      by true none go = absurd (cc)
      by false none go = go none

  pub first-behind : (u : ℕ) (rows more : List (Row n)) → list_any is_cut rows ≡ false → first_cut_at u (rows ++ more) ≡ first_cut_at u more
  first-behind u [] more none = refl
  first-behind u (q ∷ rows) more none = by (is_cut q) none (λ k. first-behind u rows more k)
    where
      by : (b : Bool) → (b || list_any is_cut rows) ≡ false → (list_any is_cut rows ≡ false → first_cut_at u (rows ++ more) ≡ first_cut_at u more)
          → cond b (q.tick == u) (first_cut_at u (rows ++ more)) ≡ first_cut_at u more
      by true none go = absurd (cc)
      by false none go = go none

module _ {n m : ℕ} (shape : BankShape) (all : List (TimedEvent n m)) where
  pub rows_after-append : (xs ys : List (TimedEvent n m)) → rows_after shape all (xs ++ ys) ≡ rows_after shape all ys ++ rows_after shape all xs
  rows_after-append [] ys = sym (append-nil (rows_after shape all ys))
  rows_after-append (x ∷ xs) ys =
      ap (λ rows. rows ++ row_with shape all x.happens x.tick x.cancels) (rows_after-append xs ys)
      ∙ append_assoc (rows_after shape all ys) (rows_after shape all xs) (row_with shape all x.happens x.tick x.cancels)

  -- the cuts behind an event come no earlier
  pub late-cuts : (pace : Pace) (e u : ℕ) (late zs : List (TimedEvent n m)) → 1 ≤ pace.read → 1 ≤ pace.iter → Lawful shape pace e (late ++ zs) → u ≤ last_tick zs → no_cut_below u (rows_after shape all late) ≡ true
  late-cuts pace e u [] zs r i l le = refl
  late-cuts pace e u (y ∷ late) zs r i l le =
      list_all-append (λ (q : Row n). not (is_cut q) || nat_le u q.tick) (rows_after shape all late) _
      ∙ and_from _ _ (late-cuts pace e u late zs r i l.1 le) (by y.happens y.cancels)
    where
      up : u ≤ y.tick
      up =
          let before : last_tick zs ≤ last_tick (late ++ zs) = last-later shape pace e late zs r i l.1 in
          let rises : last_tick (late ++ zs) ≤ y.tick = last_tick-rises shape pace e (late ++ zs) y r i l in
          omega (arith, le, before, rises)

      by : (h : Happens n) (cancels : Bool) → no_cut_below u (row_with shape all h y.tick cancels) ≡ true
      by (Core (Cut tearing)) false = and_from _ _ (le-leb u y.tick up) refl
      by _ _ = refl
