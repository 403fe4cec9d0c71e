-- A region's moves follow its stores: one for each so many, but for the one that is due.
use Rattle.std.proofs.Common.{◌≡◌, ℕ, ◌+◌, ◌*◌, ◌/◌, ◌<◌, ◌≤◌, Bool, true, false, List, [], ◌∷◌, Option, Some, None, refl, sym, ap, ◌∙◌, subst, arith, cond, eqb, eqb-true}
use Rattle.std.{specs.Prelude.nat_le, proofs.lemmas.Bool.{leb-true, leb-false}}
use Rattle.bank_shape.specs.declared.BankShape.{BankShape}
use Rattle.bank_shape.specs.declared.answer.Step.TheVariants as did
use Rattle.bank_model.specs.{Answers.MayAll, Events.{BankEvent, Begin, Iterate, line_of_row}, History.{first_or, stores, stored_in, moved_in, due_after}}
use Rattle.masked_bytes.proofs.Counting.{one_if}
use Rattle.place_laws.proofs.Working.{IsStoreOf, done-store, done-move}

pub next_product : (psi k : ℕ) → psi * (k + 1) ≡ psi * k + psi
next_product psi k = grind arith

-- the bounds of one region after a store, whether it is of this region or not
stored_bounds : (psi own moved stored region : ℕ) (b : Bool) → eqb own region ≡ b → psi * moved ≤ stored → stored < psi * (moved + 1)
    → (psi * moved ≤ one_if b + stored) × (one_if b + stored ≤ psi * (moved + 1)) × (psi * (moved + 1) ≤ one_if b + stored → own ≡ region)
stored_bounds psi own moved stored region true is few below = (omega (arith, few), omega (arith, below), λ le. eqb-true own region is)
stored_bounds psi own moved stored region false is few below = (omega (arith, few), omega (arith, below), λ le. absurd (omega (arith, le, below)))

-- those after a move of the last store's region
moved_bounds : (psi own moved stored region : ℕ) (b : Bool) → 1 ≤ psi → eqb own region ≡ b → psi * moved ≤ stored → stored ≤ psi * (moved + 1) → (own ≡ region → psi * (moved + 1) ≤ stored)
    → (psi * (moved + 1) ≤ stored → own ≡ region)
    → (psi * (one_if b + moved) ≤ stored) × (stored ≤ psi * (one_if b + moved + 1)) × (psi * (one_if b + moved + 1) ≤ stored → own ≡ region)
moved_bounds psi own moved stored region true some is few near enough last =
    let due : psi * (moved + 1) ≤ stored = enough (eqb-true own region is) in
    let swapped : psi * (1 + moved) ≡ psi * (moved + 1) = ap (λ k. psi * k) (omega arith) in
    let next : psi * (1 + moved + 1) ≡ psi * (moved + 1) + psi = ap (λ k. psi * k) (omega arith) ∙ next_product psi (moved + 1) in
    (omega (arith, due, swapped), omega (arith, near, next), λ le. absurd (omega (arith, le, next, near, some)))
moved_bounds psi own moved stored region false some is few near enough last =
    let same : psi * (0 + moved) ≡ psi * moved = ap (λ k. psi * k) (omega arith) in
    let next : psi * (0 + moved + 1) ≡ psi * (moved + 1) = ap (λ k. psi * k) (omega arith) in
    (omega (arith, few, same), omega (arith, near, next), λ le. last (omega (arith, le, next)))

module _ {n : ℕ} (shape : BankShape) where
  -- the region of the last store
  abbrev pub last_region : List (BankEvent n) → ℕ
  last_region h = first_or 0 (stores h) / shape.lines

  -- each region's stores are those of its moves, and fewer than one move more but where that is due
  pub record KeepsMoves (h : List (BankEvent n)) : Type 0 where
    pub few : (region : ℕ) → shape.psi * moved_in shape.lines h region ≤ stored_in shape.lines h region
    pub near : (region : ℕ) → stored_in shape.lines h region ≤ shape.psi * (moved_in shape.lines h region + 1)
    pub last : (region : ℕ) → shape.psi * (moved_in shape.lines h region + 1) ≤ stored_in shape.lines h region → last_region h ≡ region

  -- where none is due each region has fewer
  pub none-due : (h : List (BankEvent n)) → KeepsMoves h → due_after shape h ≡ None → (region : ℕ) → stored_in shape.lines h region < shape.psi * (moved_in shape.lines h region + 1)
  none-due h keeps none region = by (nat_le (shape.psi * (moved_in shape.lines h region + 1)) (stored_in shape.lines h region)) refl
    where
      due : (r : ℕ) → last_region h ≡ r → nat_le (shape.psi * (moved_in shape.lines h r + 1)) (stored_in shape.lines h r) ≡ true → ◌≡◌ {A = Option ℕ} (Some (last_region h)) None
      due r is le =
          let there : nat_le (shape.psi * (moved_in shape.lines h (last_region h) + 1)) (stored_in shape.lines h (last_region h)) ≡ true =
          subst (λ r. nat_le (shape.psi * (moved_in shape.lines h r + 1)) (stored_in shape.lines h r) ≡ true) (sym is) le in
          sym (ap (λ b. cond b (Some (last_region h)) None) there) ∙ none

      by : (b : Bool) → nat_le (shape.psi * (moved_in shape.lines h region + 1)) (stored_in shape.lines h region) ≡ b → stored_in shape.lines h region < shape.psi * (moved_in shape.lines h region + 1)
      by true le =
          let same : last_region h ≡ region = keeps.last region (leb-true _ _ le) in
          let no : ◌≡◌ {A = Option ℕ} (Some (last_region h)) None = due region same le in
          absurd (cc)
      by false gt = leb-false _ _ gt

  -- where one is due it is the last store's, which has as many as one move more accounts for
  pub record IsDue (h : List (BankEvent n)) (region : ℕ) : Type 0 where
    pub own : last_region h ≡ region
    pub enough : shape.psi * (moved_in shape.lines h region + 1) ≤ stored_in shape.lines h region

  pub some-due : (h : List (BankEvent n)) (region : ℕ) → due_after shape h ≡ Some region → IsDue h region
  some-due h region is = by (nat_le (shape.psi * (moved_in shape.lines h (last_region h) + 1)) (stored_in shape.lines h (last_region h))) refl is
    where
      by : (b : Bool) → nat_le (shape.psi * (moved_in shape.lines h (last_region h) + 1)) (stored_in shape.lines h (last_region h)) ≡ b → cond b (Some (last_region h)) None ≡ Some region → IsDue h region
      by true le is =
          let same : last_region h ≡ region = cc in
          record {
            own = same;
            enough = subst (λ r. shape.psi * (moved_in shape.lines h r + 1) ≤ stored_in shape.lines h r) same (leb-true _ _ le);
          }
      by false le is = absurd (cc)

  keeps-stored : (h : List (BankEvent n)) (line : ℕ) → KeepsMoves h → due_after shape h ≡ None → (region : ℕ)
      → (shape.psi * moved_in shape.lines h region ≤ one_if (eqb (line / shape.lines) region) + stored_in shape.lines h region)
      × (one_if (eqb (line / shape.lines) region) + stored_in shape.lines h region ≤ shape.psi * (moved_in shape.lines h region + 1))
      × (shape.psi * (moved_in shape.lines h region + 1) ≤ one_if (eqb (line / shape.lines) region) + stored_in shape.lines h region → line / shape.lines ≡ region)
  keeps-stored h line keeps none region =
      stored_bounds shape.psi (line / shape.lines) (moved_in shape.lines h region) (stored_in shape.lines h region) region (eqb (line / shape.lines) region) refl (keeps.few region) (none-due h keeps none region)

  keeps-moved : 1 ≤ shape.psi → (h : List (BankEvent n)) (region : ℕ) → KeepsMoves h → due_after shape h ≡ Some region → (at : ℕ)
      → (shape.psi * (one_if (eqb (last_region h) at) + moved_in shape.lines h at) ≤ stored_in shape.lines h at)
      × (stored_in shape.lines h at ≤ shape.psi * (one_if (eqb (last_region h) at) + moved_in shape.lines h at + 1))
      × (shape.psi * (one_if (eqb (last_region h) at) + moved_in shape.lines h at + 1) ≤ stored_in shape.lines h at → last_region h ≡ at)
  keeps-moved some h region keeps due at =
      let is = some-due h region due in
      moved_bounds shape.psi (last_region h) (moved_in shape.lines h at) (stored_in shape.lines h at) at (eqb (last_region h) at) some refl (keeps.few at) (keeps.near at)
      (λ same. subst (λ r. shape.psi * (moved_in shape.lines h r + 1) ≤ stored_in shape.lines h r) (sym is.own ∙ same) is.enough) (keeps.last at)

  store_kept : (h : List (BankEvent n)) (row place : ℕ) → KeepsMoves h → IsStoreOf shape h row place → KeepsMoves (Iterate (did.Stored row place) ∷ h)
  store_kept h row place keeps store = record {
    few = λ region. (keeps-stored h (line_of_row row h) keeps store.due region).0;
    near = λ region. (keeps-stored h (line_of_row row h) keeps store.due region).1;
    last = λ region. (keeps-stored h (line_of_row row h) keeps store.due region).2;
  }

  pub keeps : (most : ℕ) (h : List (BankEvent n)) → 1 ≤ shape.psi → MayAll shape most h → KeepsMoves h
  keeps most [] some may = record {
    few = λ region. grind arith;
    near = λ region. omega arith;
    last = λ region le. absurd (omega (arith, le, next_product shape.psi 0));
  }
  keeps most (Begin (did.Stored row place) ∷ h) some may =
      let k = store_kept h row place (keeps most h some may.1) (done-store shape h row place may.0.1) in record { few = k.few; near = k.near; last = k.last }
  keeps most (Begin (did.Moved step) ∷ h) some may =
      let m = done-move shape h step may.0.1 in
      let k = keeps-moved some h m.region (keeps most h some may.1) m.due in
      record { few = λ at. (k at).0; near = λ at. (k at).1; last = λ at. (k at).2 }
  keeps most (Iterate (did.Stored row place) ∷ h) some may = store_kept h row place (keeps most h some may.1) (done-store shape h row place may.0.1)
  keeps most (Iterate (did.Moved step) ∷ h) some may =
      let m = done-move shape h step may.0.1 in
      let k = keeps-moved some h m.region (keeps most h some may.1) m.due in
      record { few = λ at. (k at).0; near = λ at. (k at).1; last = λ at. (k at).2 }
  keeps most (_ ∷ h) some may = let k = keeps most h some may.1 in record { few = k.few; near = k.near; last = k.last }
