-- When a begin is held up by a read that waits, and when something is chosen.
use Rattle.std.proofs.Common.{arith, ◌≡◌, ℕ, ◌==◌, ◌&&◌, ◌||◌, not, Bool, true, false, List, [], ◌∷◌, ◌++◌, Option, Some, None, refl, sym, ◌∙◌, cond, eqb, eqb-true}
use Rattle.std.{specs.List.list_any, specs.Prelude.nat_lt, proofs.lemmas.Bool.{eq-eqb, or_left, or_right}, proofs.lemmas.List.Folds.list_any-append}
use Rattle.masked_bytes.specs.{Entries.{has_row, merged, laid_on}, declared.entry.Entry.Entry}
use Rattle.bank_shape.specs.{Acting.{choice, chosen_by}, declared.BankShape.BankShape, declared.Work.TheVariants.Nothing, declared.clock.Action.Action, declared.clock.Doing.Doing}
use Rattle.bank_shape.specs.declared.clock.Doing.TheVariants.{Serving, Beginning, Iterating}
use Rattle.bank_model.specs.{After.{is_ready, is_store_of, due_work, work_after, may_begin_after}, Events.BankEvent}
use Rattle.bank_model.specs.{History.{Awaited, queue, waits, due_after, has_exhausted, in_progress}, Running.{busy_by, ready_by, started}, Timing.{same_doing, is_doing, is_empty}}

-- a read waits on the line of the queue's head
abbrev pub HeldUp : {n : ℕ} → List Awaited → List (Entry n) → Type 0
HeldUp ws [] = ⊥
HeldUp ws (e ∷ es) = list_any (λ w. w.line == e.line) ws ≡ true

-- no line write is in progress, and the store that is next waits for a read
pub record IsHeld {n : ℕ} (shape : BankShape) (h : List (BankEvent n)) : Type 0 where
  pub idle : in_progress h ≡ false
  pub due : due_after shape h ≡ None
  pub held : HeldUp (waits shape h) (queue shape h)

-- where a line write is in progress, a read waits, or a line write may be begun, something is chosen
chosen-some : (way reads busy ready : Bool) → (busy ≡ false → reads ≡ false → ready ≡ true) → (d : Doing) × (chosen_by way reads (choice busy ready) ≡ Some d)
chosen-some true true busy ready h = (Serving, refl)
chosen-some true false true ready h = (Iterating, refl)
chosen-some true false false true h = (Beginning, refl)
chosen-some true false false false h = let k : false ≡ true = h refl refl in absurd (cc)
chosen-some false reads true ready h = (Iterating, refl)
chosen-some false true false ready h = (Serving, refl)
chosen-some false false false true h = (Beginning, refl)
chosen-some false false false false h = let k : false ≡ true = h refl refl in absurd (cc)

module _ {n : ℕ} where
  pub held-reads : (ws : List Awaited) (es : List (Entry n)) → HeldUp ws es → not (is_empty ws) ≡ true
  held-reads ws es h = grind arith

  pub held-wait : (ws : List Awaited) (v : Awaited) (es : List (Entry n)) → HeldUp ws es → HeldUp (ws ++ v ∷ []) es
  held-wait ws v [] h = absurd h
  held-wait ws v (e ∷ es) h = list_any-append (λ (w : Awaited). w.line == e.line) ws (v ∷ []) ∙ or_left _ _ h

  pub held-push : (ws : List Awaited) (es : List (Entry n)) (x : Entry n) → HeldUp ws es → HeldUp ws (es ++ x ∷ [])
  held-push ws es x h = grind arith

  pub held-merged : (ws : List Awaited) (es : List (Entry n)) (old row : ℕ) (bytes : List ℕ) (given : List Bool) → HeldUp ws es → HeldUp ws (merged old row bytes given es)
  held-merged ws [] old row bytes given h = absurd h
  held-merged ws (e ∷ es) old row bytes given h =
      elim (eqb e.row old) as (λ b. HeldUp ws (cond b (laid_on row bytes given e ∷ es) (e ∷ merged old row bytes given es))) [ true ↦ h | false ↦ h ]

  -- a read on the line of the store that is next holds it up
  pub store-held : (shape : BankShape) (h : List (BankEvent n)) (line : ℕ) (v : Awaited) → v.line ≡ line → is_store_of line (work_after shape h) ≡ true
      → (due_after shape h ≡ None) × HeldUp (waits shape h ++ v ∷ []) (queue shape h)
  store-held shape h line v own is = by (has_exhausted h) (due_after shape h) (queue shape h) is
    where
      by : (b : Bool) (due : Option ℕ) (es : List (Entry n)) → is_store_of line (cond b Nothing (due_work shape h due es)) ≡ true → (due ≡ None) × HeldUp (waits shape h ++ v ∷ []) es
      by false None (e ∷ es) is = (
        refl,
        list_any-append (λ (w : Awaited). w.line == e.line) (waits shape h) (v ∷ [])
            ∙ or_right _ _ (or_left (v.line == e.line) false (eq-eqb v.line e.line (own ∙ sym (eqb-true e.line line is)))),
      )
      by _ _ _ is = absurd (cc)

  -- where the next store is held up nothing is begun
  pub held-begins_none : (shape : BankShape) (h : List (BankEvent n)) → IsHeld shape h → may_begin_after shape h ≡ true → ⊥
  held-begins_none shape h k may = by (in_progress h) (has_exhausted h) (due_after shape h) (queue shape h) k.due k.held may
    where
      clash : (b : Bool) → b ≡ true → not b ≡ true → ⊥
      clash b h k = grind arith

      by : (busy b : Bool) (due : Option ℕ) (es : List (Entry n)) → due ≡ None → HeldUp (waits shape h) es
          → (not busy && is_ready (waits shape h) (cond b Nothing (due_work shape h due es))) ≡ true → ⊥
      by false false None [] none held may = held
      by false false None (e ∷ es) none held may = clash (list_any (λ w. w.line == e.line) (waits shape h)) held may
      by _ _ _ es none held may = absurd (cc)

  -- where a write stands, and a spare was found for every worn line, a line write is in progress, a read waits, or one may be begun
  may-begin : (shape : BankShape) (h : List (BankEvent n)) (row : ℕ) → has_row (queue shape h) row ≡ true → has_exhausted h ≡ false → in_progress h ≡ false → not (is_empty (waits shape h)) ≡ false
      → may_begin_after shape h ≡ true
  may-begin shape h row there fine idle none = by (in_progress h) (has_exhausted h) (due_after shape h) (queue shape h) (waits shape h) there fine idle none
    where
      by : (busy b : Bool) (due : Option ℕ) (es : List (Entry n)) (ws : List Awaited) → has_row es row ≡ true → b ≡ false → busy ≡ false → not (is_empty ws) ≡ false
          → (not busy && is_ready ws (cond b Nothing (due_work shape h due es))) ≡ true
      by busy b due es ws there fine idle none = grind arith

  pub works : (way : Bool) (shape : BankShape) (h : List (BankEvent n)) (change : Option ℕ) (keeping halted : Bool) (row : ℕ) → has_row (queue shape h) row ≡ true → has_exhausted h ≡ false → halted ≡ false
      → (d : Doing)
      × (chosen_by way (not (is_empty (waits shape h))) (choice (busy_by change keeping (in_progress h)) (ready_by change (keeping || halted) (may_begin_after shape h))) ≡ Some d)
  works way shape h None keeping halted row there fine runs =
      chosen-some way (not (is_empty (waits shape h))) (in_progress h) (may_begin_after shape h) (λ idle none. may-begin shape h row there fine idle none)
  works way shape h (Some item) keeping halted row there fine runs =
      chosen-some way (not (is_empty (waits shape h))) keeping (not (keeping || halted)) (λ idle none. by keeping halted idle runs)
    where
      by : (keeping halted : Bool) → keeping ≡ false → halted ≡ false → not (keeping || halted) ≡ true
      by keeping halted idle runs = grind arith

-- what isn't a begin
started-not_begun : (d : Doing) (r : Option Action) (last tick : ℕ) → same_doing Beginning d ≡ false → is_doing Beginning r ≡ false → is_doing Beginning (started r (Some d) last tick) ≡ false
started-not_begun d (Some action) last tick other h = h
started-not_begun d None last tick other h = elim (nat_lt last tick) as (λ b. is_doing Beginning (cond b (Some (record { doing = d; first = last })) None) ≡ false) [ true ↦ other | false ↦ refl ]

pub not_begun-next : (way busy : Bool) (r : Option Action) (last tick : ℕ) → is_doing Beginning r ≡ false
    → is_doing Beginning (started r (Some (cond way Serving (cond busy Iterating Serving))) last tick) ≡ false
not_begun-next way busy r last tick h = started-not_begun (cond way Serving (cond busy Iterating Serving)) r last tick (by way busy) h
  where
    by : (way busy : Bool) → same_doing Beginning (cond way Serving (cond busy Iterating Serving)) ≡ false
    by way busy = grind arith
