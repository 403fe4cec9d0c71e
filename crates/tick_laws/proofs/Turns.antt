-- How long a read that waits still waits at most.
use Rattle.std.proofs.Common.{◌≡◌, ℕ, ◌+◌, ◌*◌, ◌≤◌, ◌==◌, ◌||◌, ◌⊎◌, inl, inr, not, suc, Bool, true, false, List, [], ◌∷◌, ◌++◌, Option, Some, None, length, refl, sym, ap, ◌∙◌, subst, arith, cond, eqb, eqb-true}
use Rattle.std.{specs.Prelude.{IfSome, max, nat_lt, if◌then◌else◌}, proofs.lemmas.Bool.eq-eqb}
use Rattle.bank_shape.specs.{Acting.{choice, chosen_by}, declared.clock.Action.Action, declared.clock.Doing.Doing, declared.clock.Doing.TheVariants.{Serving, Beginning, Iterating}}
use Rattle.bank_model.specs.{History.Awaited, Running.started, Timing.{same_doing, is_empty}}
use Rattle.bank_laws.specs.Standing.{has_wait, WaitsApart}
use Rattle.tick_laws.proofs.Actions.{Fits}

-- how long the reads up to one with this row take
abbrev pub turn : ℕ → ℕ → List Awaited → ℕ
turn read row [] = 0
turn read row (w ∷ ws) = if w.row == row then read else read + turn read row ws

-- the first read that waits isn't this one
abbrev pub NotFirst : List Awaited → ℕ → Type 0
NotFirst [] row = ⊥
NotFirst (w ∷ ws) row = (w.row == row) ≡ false

pub turn-some : (read row : ℕ) (ws : List Awaited) → has_wait ws row ≡ true → read ≤ turn read row ws
turn-some read row [] there = absurd (cc)
turn-some read row (w ∷ ws) there = by (w.row == row)
  where
    by : (b : Bool) → read ≤ cond b read (read + turn read row ws)
    by b = grind arith

pub turn-push : (read row : ℕ) (ws : List Awaited) (v : Awaited) → has_wait ws row ≡ true → turn read row (ws ++ v ∷ []) ≡ turn read row ws
turn-push read row [] v there = absurd (cc)
turn-push read row (w ∷ ws) v there = by (w.row == row) there (λ k. turn-push read row ws v k)
  where
    by : (b : Bool) → (b || has_wait ws row) ≡ true → (has_wait ws row ≡ true → turn read row (ws ++ v ∷ []) ≡ turn read row ws)
        → cond b read (read + turn read row (ws ++ v ∷ [])) ≡ cond b read (read + turn read row ws)
    by true there go = refl
    by false there go = ap (λ k. read + k) (go there)

more_turns : (k read : ℕ) → read + (k + 1) * read ≡ (suc k + 1) * read
more_turns k read = grind arith

pub turn-new : (read row : ℕ) (ws : List Awaited) (v : Awaited) → has_wait ws row ≡ false → v.row ≡ row → turn read row (ws ++ v ∷ []) ≡ (length ws + 1) * read
turn-new read row [] v lacks own = subst (λ b. cond b read (read + 0) ≡ (0 + 1) * read) (sym (eq-eqb v.row row own)) (omega arith)
turn-new read row (w ∷ ws) v lacks own = by (w.row == row) lacks (λ k. turn-new read row ws v k own)
  where
    by : (b : Bool) → (b || has_wait ws row) ≡ false → (has_wait ws row ≡ false → turn read row (ws ++ v ∷ []) ≡ (length ws + 1) * read)
        → cond b read (read + turn read row (ws ++ v ∷ [])) ≡ (length (w ∷ ws) + 1) * read
    by true lacks go = absurd (cc)
    by false lacks go = ap (λ k. read + k) (go lacks) ∙ more_turns (length ws) read

-- behind a serve of another the turn is nearer
pub turn-served : (read row : ℕ) (w : Awaited) (ws : List Awaited) → WaitsApart (w ∷ ws) → has_wait ws row ≡ true → turn read row (w ∷ ws) ≡ read + turn read row ws
turn-served read row w ws apart there = by (eqb w.row row) refl
  where
    by : (b : Bool) → eqb w.row row ≡ b → cond b read (read + turn read row ws) ≡ read + turn read row ws
    by true is = let lacks : has_wait ws row ≡ false = subst (λ r. has_wait ws r ≡ false) (eqb-true w.row row is) apart.0 in absurd (cc)
    by false is = refl

module _ (read iter work : ℕ) where
  -- what an action that isn't a serve still takes before a read may be served, `work` being the time of all its iterations
  abbrev pub owed_by : Bool → Doing → ℕ
  owed_by way Serving = 0
  owed_by true Beginning = read
  owed_by false Beginning = read + work
  owed_by true Iterating = iter
  owed_by false Iterating = work

  abbrev pub owes : Bool → Bool → Option Action → ℕ
  owes way busy (Some action) = owed_by way action.doing
  owes true busy None = 0
  owes false true None = work
  owes false false None = 0

-- what of that is done
abbrev pub paid : ℕ → Bool → Bool → ℕ → ℕ
paid iter true busy count = 0
paid iter false true count = count * iter
paid iter false false count = 0

pub chosen-reads : (way busy ready : Bool) → chosen_by way true (choice busy ready) ≡ Some (cond way Serving (cond busy Iterating Serving))
chosen-reads way busy ready = grind arith

pub owes-started : (read iter work : ℕ) (way busy : Bool) (r : Option Action) (last tick : ℕ)
    → owes read iter work way busy (started r (Some (cond way Serving (cond busy Iterating Serving))) last tick) ≡ owes read iter work way busy r
owes-started read iter work way busy (Some action) last tick = refl
owes-started read iter work way busy None last tick = by way busy
  where
    by : (way busy : Bool) → owes read iter work way busy (started None (Some (cond way Serving (cond busy Iterating Serving))) last tick) ≡ owes read iter work way busy None
    by true busy = elim (nat_lt last tick) as (λ b. owes read iter work true busy (cond b (Some (record { doing = Serving; first = last })) None) ≡ 0) [ true ↦ refl | false ↦ refl ]
    by false true = elim (nat_lt last tick) as (λ b. owes read iter work false true (cond b (Some (record { doing = Iterating; first = last })) None) ≡ work) [ true ↦ refl | false ↦ refl ]
    by false false = elim (nat_lt last tick) as (λ b. owes read iter work false false (cond b (Some (record { doing = Serving; first = last })) None) ≡ 0) [ true ↦ refl | false ↦ refl ]

-- how long a line write may hold up a read that comes
abbrev pub hold_up : ℕ → ℕ → ℕ → Bool → ℕ
hold_up read iter work true = max read iter
hold_up read iter work false = read + work

pub owes-most : (read iter work : ℕ) (way busy : Bool) (r : Option Action) → owes read iter work way busy r ≤ hold_up read iter work way
owes-most read iter work true busy None = omega arith
owes-most read iter work false true None = omega arith
owes-most read iter work false false None = omega arith
owes-most read iter work way busy (Some action) = by way action.doing
  where
    by : (way : Bool) (doing : Doing) → owed_by read iter work way doing ≤ hold_up read iter work way
    by way doing = grind arith

-- a read that isn't the first, or whose serve hasn't begun, or began no earlier than it came
abbrev pub NotEarly : ℕ → ℕ → List Awaited → Option Action → Type 0
NotEarly a row ws None = Unit {0}
NotEarly a row ws (Some action) = (a ≤ action.first) ⊎ ((same_doing Serving action.doing ≡ false) ⊎ NotFirst ws row)

pub started-not_early : (a row : ℕ) (ws : List Awaited) (r : Option Action) (d : Option Doing) (last tick : ℕ) → a ≤ last → NotEarly a row ws r → NotEarly a row ws (started r d last tick)
started-not_early a row ws (Some action) d last tick up k = k
started-not_early a row ws None None last tick up k = tt
started-not_early a row ws None (Some doing) last tick up k =
    elim (nat_lt last tick) as (λ b. NotEarly a row ws (cond b (Some (record { doing = doing; first = last })) None)) [ true ↦ inl up | false ↦ tt ]

not_first-push : (ws : List Awaited) (v : Awaited) (row : ℕ) → NotFirst ws row → NotFirst (ws ++ v ∷ []) row
not_first-push ws v row k = grind arith

pub not_early-push : (a row : ℕ) (ws : List Awaited) (v : Awaited) (r : Option Action) → NotEarly a row ws r → NotEarly a row (ws ++ v ∷ []) r
not_early-push a row ws v None k = tt
not_early-push a row ws v (Some action) (inl up) = inl up
not_early-push a row ws v (Some action) (inr (inl other)) = inr (inl other)
not_early-push a row ws v (Some action) (inr (inr later)) = inr (inr (not_first-push ws v row later))

-- as a read comes its serve hasn't begun
pub not_early-new : (a row : ℕ) (way busy : Bool) (ws : List Awaited) (v : Awaited) (r : Option Action) → has_wait ws row ≡ false
    → IfSome r (λ a. Fits way busy (not (is_empty ws)) a.doing) → NotEarly a row (ws ++ v ∷ []) r
not_early-new a row way busy ws v None lacks f = tt
not_early-new a row way busy ws v (Some action) lacks f = inr (by action.doing f)
  where
    behind : (ws : List Awaited) → has_wait ws row ≡ false → not (is_empty ws) ≡ true → NotFirst (ws ++ v ∷ []) row
    behind [] lacks some = absurd (cc)
    behind (w ∷ ws) lacks some = left (w.row == row) lacks
      where
        left : (b : Bool) → (b || has_wait ws row) ≡ false → b ≡ false
        left b lacks = grind arith

    by : (doing : Doing) → Fits way busy (not (is_empty ws)) doing → (same_doing Serving doing ≡ false) ⊎ NotFirst (ws ++ v ∷ []) row
    by Serving f = inr (behind ws lacks f.0)
    by _ f = inl refl
