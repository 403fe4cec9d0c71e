-- Each store, move and retirement brings at most one change, and no change is written without one.
use Rattle.std.proofs.Common.{◌≡◌, ℕ, ◌+◌, ◌*◌, ◌≤◌, Bool, true, false, List, [], ◌∷◌, ◌++◌, Option, Some, None, refl, sym, ap, ◌∙◌, subst, arith}
use Rattle.std.{specs.Prelude.{is_some, nat_lt}, proofs.lemmas.Bool.lt-ltb}
use Rattle.row_rules.specs.Ticking.{writings}
use Rattle.bank_shape.specs.{Shape.{controls_of, if_array}, declared.BankShape.BankShape, declared.Home.Home, declared.pace.Pace.Pace}
use Rattle.bank_shape.specs.declared.Home.TheVariants as home
use Rattle.bank_shape.specs.declared.answer.Step.TheVariants as did
use Rattle.bank_shape.specs.declared.answer.Keep.TheVariants as keep
use Rattle.bank_model.specs.{Changes.{change_after, change_by, halted_after, halted_by, item_if}, Events.{Begin, Iterate}, History.has_exhausted, Lawful.{Lawful, MayCome}}
use Rattle.bank_model.specs.Timing.{Happens, Core, Regs, KeepBegin, KeepIterate, TimedEvent, core, core_of}
use Rattle.bank_laws.proofs.Changing.{halted-stops}
use Rattle.tick_laws.proofs.{Cancels.fine_before, Tallies.{stores_by, moves_by, retires_by, others_by, tally}}

-- one where a change stands, and one where line writes bring changes
abbrev pub stands : Option ℕ → ℕ
stands None = 0
stands (Some item) = 1

abbrev pub brought : Home → ℕ
brought home.Guarded = 0
brought home.Array = 1

item-brought : (at : Home) (item : ℕ) → stands (item_if at item) ≤ brought at
item-brought at item = grind arith

stands-some : (change : Option ℕ) → is_some change ≡ true → 1 ≤ stands change
stands-some change some = grind arith

sums : (g o a b p q r : ℕ) (s m t ss mm tt : ℕ) → o + a ≤ (t + b) + g * (s + m + t) → p + b ≤ q + r + g * (ss + mm + tt)
    → (o + p) + a ≤ (t + q) + r + g * ((s + ss) + (m + mm) + (t + tt))
sums g o a b p q r s m t ss mm tt h k = let d : g * ((s + ss) + (m + mm) + (t + tt)) ≡ g * (s + m + t) + g * (ss + mm + tt) = grind arith in omega (arith, h, k, d)

module _ {n m : ℕ} (shape : BankShape) (pace : Pace) (e : ℕ) where
  -- what is written stood before, and what stands was brought
  one_more : (zs : List (TimedEvent n m)) (y : TimedEvent n m) (h : Happens n) → MayCome shape pace e zs y h → has_exhausted (core_of h (core zs)) ≡ false
      → others_by h + stands (change_by shape (core zs) h (change_after shape zs)) ≤ (retires_by h + stands (change_after shape zs)) + brought shape.home * (stores_by h + moves_by h + retires_by h)
  one_more zs y (Core (Begin (did.Retired slot line))) may fine = absurd may.may.1
  one_more zs y (Core (Begin did.Exhausted)) may fine = absurd (cc)
  one_more zs y (Core (Iterate did.Exhausted)) may fine = absurd (cc)
  one_more zs y (Regs (KeepBegin keep.Done)) may fine = let k = stands-some (change_after shape zs) may.stands in omega (arith, k)
  one_more zs y (Regs (KeepIterate keep.Done)) may fine = let k = stands-some (change_after shape zs) may.stands in omega (arith, k)
  one_more zs y _ may fine = omega (arith, item-brought)

  pub others_few : (mid zs : List (TimedEvent n m)) → Lawful shape pace e (mid ++ zs) → has_exhausted (core (mid ++ zs)) ≡ false
      → tally others_by mid + stands (change_after shape (mid ++ zs)) ≤ tally retires_by mid + stands (change_after shape zs) + brought shape.home * (tally stores_by mid + tally moves_by mid + tally retires_by mid)
  others_few [] zs l fine = omega arith
  others_few (y ∷ mid) zs l fine =
      sums (brought shape.home) (others_by y.happens) (stands (change_after shape (y ∷ mid ++ zs))) (stands (change_after shape (mid ++ zs))) (tally others_by mid) (tally retires_by mid) (stands (change_after shape zs))
      (stores_by y.happens) (moves_by y.happens) (retires_by y.happens) (tally stores_by mid) (tally moves_by mid) (tally retires_by mid)
      (one_more (mid ++ zs) y y.happens l.0 fine) (others_few mid zs l.1 (fine_before y.happens (core (mid ++ zs)) fine))

  -- only a bank whose registers are kept in the array has changes
  pub stood : (zs : List (TimedEvent n m)) → Lawful shape pace e zs → stands (change_after shape zs) ≤ brought shape.home
  stood [] l = omega arith
  stood (z ∷ zs) l = by z.happens l.0 (stood zs l.1)
    where
      by : (h : Happens n) → MayCome shape pace e zs z h → stands (change_after shape zs) ≤ brought shape.home → stands (change_by shape (core zs) h (change_after shape zs)) ≤ brought shape.home
      by (Core (Begin did.More)) may le = le
      by (Core (Begin _)) may le = item-brought shape.home _
      by (Core (Iterate did.More)) may le = le
      by (Core (Iterate _)) may le = item-brought shape.home _
      by (Regs (KeepBegin keep.Done)) may le = omega arith
      by (Regs (KeepIterate keep.Done)) may le = omega arith
      by _ may le = le

  -- what has halted stands for good
  halted-some : (zs : List (TimedEvent n m)) → Lawful shape pace e zs → halted_after zs ≡ true → is_some (change_after shape zs) ≡ true
  halted-some [] l is = absurd (cc)
  halted-some (z ∷ zs) l is = by z.happens l.0 (halted-some zs l.1) is
    where
      clash : (change : Option ℕ) → change ≡ None → is_some change ≡ true → {goal : Bool} → goal ≡ true
      clash change is some = grind arith

      by : (h : Happens n) → MayCome shape pace e zs z h → (halted_after zs ≡ true → is_some (change_after shape zs) ≡ true) → halted_by h (halted_after zs) ≡ true
          → is_some (change_by shape (core zs) h (change_after shape zs)) ≡ true
      by (Core (Begin answer)) may ih is = clash (change_after shape zs) may.on_time.2 (ih is)
      by (Core (Iterate answer)) may ih is = clash (change_after shape zs) may.on_time.2 (ih is)
      by (Regs (KeepBegin answer)) may ih is = absurd (cc (may.may.1, is))
      by (Regs (KeepIterate keep.Done)) may ih is = absurd (cc (halted-stops shape pace e zs l.1 is, may.may.0))
      by (Regs (KeepIterate keep.Halted)) may ih is = may.stands
      by _ may ih is = ih is

  -- so where none stands none has halted
  pub written-runs : (zs : List (TimedEvent n m)) → Lawful shape pace e zs → change_after shape zs ≡ None → halted_after zs ≡ false
  written-runs zs l none = by (halted_after zs) (halted-some zs l)
    where
      by : (b : Bool) → (b ≡ true → is_some (change_after shape zs) ≡ true) → b ≡ false
      by true some = let k = some refl in let j : is_some (change_after shape zs) ≡ false = ap is_some none in absurd (cc)
      by false some = refl

-- the line writes that end up to a store, and that store
pub ends_few : (shape : BankShape) (change : Option ℕ) (s m t o w spares : ℕ) → stands change ≤ brought shape.home → s + 1 ≤ w → m ≤ s + 1 → t ≤ spares
    → o ≤ t + stands change + brought shape.home * (s + m + t) → (s + 1) + m + o ≤ writings (nat_lt 0 (controls_of shape)) * (2 * w + spares)
ends_few shape change s m t o w spares stood sw ms ts os = by shape.home refl
  where
    by : (at : Home) → shape.home ≡ at → (s + 1) + m + o ≤ writings (nat_lt 0 (controls_of shape)) * (2 * w + spares)
    by home.Guarded is =
        let g : brought shape.home ≡ 0 = ap brought is in
        let few : o ≤ t + stands change + 0 * (s + m + t) = subst (λ k. o ≤ t + stands change + k * (s + m + t)) g os in
        subst (λ k. (s + 1) + m + o ≤ writings (nat_lt 0 k) * (2 * w + spares)) (sym (ap (λ at. if_array at (shape.regions + shape.spares + 1)) is)) (omega (arith, few, g, stood, sw, ms, ts))
    by home.Array is =
        let g : brought shape.home ≡ 1 = ap brought is in
        let few : o ≤ t + stands change + 1 * (s + m + t) = subst (λ k. o ≤ t + stands change + k * (s + m + t)) g os in
        subst (λ b. (s + 1) + m + o ≤ writings b * (2 * w + spares))
        (sym (ap (λ at. nat_lt 0 (if_array at (shape.regions + shape.spares + 1))) is ∙ lt-ltb 0 (shape.regions + shape.spares + 1) (omega arith))) (omega (arith, few, g, stood, sw, ms, ts))
