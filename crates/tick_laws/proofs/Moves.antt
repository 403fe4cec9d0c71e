-- A gap moves at most once for each store, and once more where one was due.
use Rattle.std.proofs.Common.{◌≡◌, ◌≢◌, ℕ, ◌+◌, ◌*◌, ◌/◌, ◌<◌, ◌≤◌, ◌==◌, Bool, true, false, List, [], ◌∷◌, ◌++◌, Option, Some, None, length, refl, sym, ap, subst, arith, cond, eqb, eqb-true, length-append}
use Rattle.std.{specs.Prelude.nat_le, proofs.Math.Nat.mul-le-mul_left, proofs.lemmas.Bool.{leb-false, lt-leb, ne_eqb, eq-eqb, eqb-false}}
use Rattle.masked_bytes.specs.declared.entry.Entry.{Entry}
use Rattle.bank_shape.specs.{declared.BankShape.BankShape, declared.Work.TheVariants.Nothing, declared.pace.Pace.Pace}
use Rattle.bank_shape.specs.declared.answer.Step.TheVariants as did
use Rattle.bank_model.specs.{After.{work_after, due_work, due_moves}, Answers.IsDone, Events.{BankEvent, Begin, Iterate, line_of_row}}
use Rattle.bank_model.specs.{History.{first_or, stores, stored_in, moved_in, due_after, retired, queue, has_exhausted}, Lawful.{Lawful, MayCome}}
use Rattle.bank_model.{specs.Timing.{Happens, Core, TimedEvent, core, core_of}, proofs.Within.due_moves-few}
use Rattle.tick_laws.proofs.Tallies.{stores_by, moves_by, retires_by, tally}

module _ {n : ℕ} (shape : BankShape) (h : List (BankEvent n)) where
  -- a store is done where no move is due, and a move where one is
  pub done_store : (row place : ℕ) → IsDone shape h (work_after shape h) (did.Stored row place) → due_after shape h ≡ None
  done_store row place d = by (has_exhausted h) (due_after shape h) (queue shape h) d
    where
      by : (b : Bool) (due : Option ℕ) (q : List (Entry n)) → IsDone shape h (cond b Nothing (due_work shape h due q)) (did.Stored row place) → due ≡ None
      by b due q d = grind arith

  done_move : (move : _) → IsDone shape h (work_after shape h) (did.Moved move) → due_moves (due_after shape h) ≡ 1
  done_move move d = by (has_exhausted h) (due_after shape h) (queue shape h) d
    where
      by : (b : Bool) (due : Option ℕ) (q : List (Entry n)) → IsDone shape h (cond b Nothing (due_work shape h due q)) (did.Moved move) → due_moves due ≡ 1
      by b due q d = grind arith

-- a region has at most psi stores more than its moves account for, and only that of the last store has as many
record AreBalanced (psi : ℕ) (stored moved : ℕ → ℕ) (last : ℕ) : Type 0 where
  most : (region : ℕ) → stored region ≤ psi * (moved region + 1)
  others : (region : ℕ) → last ≢ region → stored region < psi * (moved region + 1)

module _ (psi : ℕ) (stored moved : ℕ → ℕ) (last : ℕ) (b : AreBalanced psi stored moved last) where
  after_store : (region : ℕ) → nat_le (psi * (moved last + 1)) (stored last) ≡ false → AreBalanced psi (λ at. cond (region == at) 1 0 + stored at) moved region
  after_store region free = record {
    most = λ at. by at (eqb region at);
    others = λ at ne. subst (λ c. cond c 1 0 + stored at < psi * (moved at + 1)) (sym (ne_eqb region at ne)) (let k : stored at < psi * (moved at + 1) = room at in omega (arith, k));
  }
    where
      room : (at : ℕ) → stored at < psi * (moved at + 1)
      room at = own (eqb last at) refl
        where
          own : (c : Bool) → eqb last at ≡ c → stored at < psi * (moved at + 1)
          own true is = subst (λ k. stored k < psi * (moved k + 1)) (eqb-true last at is) (leb-false (psi * (moved last + 1)) (stored last) free)
          own false is = b.others at (eqb-false last at is)

      by : (at : ℕ) (c : Bool) → cond c 1 0 + stored at ≤ psi * (moved at + 1)
      by at true = let k : stored at < psi * (moved at + 1) = room at in omega (arith, k)
      by at false = let k : stored at < psi * (moved at + 1) = room at in omega (arith, k)

  more_moves : (at : ℕ) → psi * (moved at + 1) ≤ psi * ((cond (last == at) 1 0 + moved at) + 1)
  more_moves at = by (last == at)
    where
      by : (c : Bool) → psi * (moved at + 1) ≤ psi * ((cond c 1 0 + moved at) + 1)
      by true = mul-le-mul_left {m = moved at + 1} {n = (1 + moved at) + 1} psi (omega arith)
      by false = mul-le-mul_left {m = moved at + 1} {n = (0 + moved at) + 1} psi (omega arith)

  after_move : AreBalanced psi stored (λ at. cond (last == at) 1 0 + moved at) last
  after_move = record {
    most = λ at. let k : stored at ≤ psi * (moved at + 1) = b.most at in let j = more_moves at in omega (arith, k, j);
    others = λ at ne. let k : stored at < psi * (moved at + 1) = b.others at ne in let j = more_moves at in omega (arith, k, j);
  }

  not-due : 1 ≤ psi → nat_le (psi * ((cond (last == last) 1 0 + moved last) + 1)) (stored last) ≡ false
  not-due some =
      subst (λ c. nat_le (psi * ((cond c 1 0 + moved last) + 1)) (stored last) ≡ false) (sym (eq-eqb last last refl))
      (lt-leb (psi * ((1 + moved last) + 1)) (stored last) (let k : stored last ≤ psi * (moved last + 1) = b.most last in next psi (moved last) (stored last) some k))
    where
      next : (psi k s : ℕ) → 1 ≤ psi → s ≤ psi * (k + 1) → s < psi * ((1 + k) + 1)
      next psi k s some le = let step : psi * ((1 + k) + 1) ≡ psi * (k + 1) + psi = grind arith in omega (arith, some, le, step)

none_flag : (b : Bool) (region : ℕ) → cond b (Some region) None ≡ None → b ≡ false
none_flag b region is = grind arith

module _ {n : ℕ} (shape : BankShape) where
  abbrev Balanced : List (BankEvent n) → Type 0
  Balanced h = AreBalanced shape.psi (λ at. stored_in shape.lines h at) (λ at. moved_in shape.lines h at) (first_or 0 (stores h) / shape.lines)

  free : (h : List (BankEvent n)) → due_after shape h ≡ None
      → nat_le (shape.psi * (moved_in shape.lines h (first_or 0 (stores h) / shape.lines) + 1)) (stored_in shape.lines h (first_or 0 (stores h) / shape.lines)) ≡ false
  free h is = none_flag _ (first_or 0 (stores h) / shape.lines) is

  moved_flag : (h : List (BankEvent n)) → 1 ≤ shape.psi → Balanced h
      → due_moves (cond (nat_le (shape.psi * ((cond ((first_or 0 (stores h) / shape.lines) == (first_or 0 (stores h) / shape.lines)) 1 0 + moved_in shape.lines h (first_or 0 (stores h) / shape.lines)) + 1))
      (stored_in shape.lines h (first_or 0 (stores h) / shape.lines))) (Some (first_or 0 (stores h) / shape.lines)) None) ≡ 0
  moved_flag h some b = ap (λ c. due_moves (cond c (Some (first_or 0 (stores h) / shape.lines)) None)) (not-due _ _ _ _ b some)

module _ {n m : ℕ} (shape : BankShape) (pace : Pace) (e : ℕ) where
  balanced : (xs : List (TimedEvent n m)) → 1 ≤ shape.psi → Lawful shape pace e xs → Balanced shape (core xs)
  balanced [] some l = record { most = λ at. omega arith; others = λ at ne. grind arith }
  balanced (x ∷ xs) some l = by x.happens l.0 (balanced xs some l.1)
    where
      by : (h : Happens n) → MayCome shape pace e xs x h → Balanced shape (core xs) → Balanced shape (core_of h (core xs))
      by (Core (Begin (did.Stored row place))) may b =
          let k = after_store _ _ _ _ b (line_of_row row (core xs) / shape.lines) (free shape (core xs) (done_store shape (core xs) row place may.may.1)) in record { most = k.most; others = k.others }
      by (Core (Begin (did.Moved move))) may b = let k = after_move _ _ _ _ b in record { most = k.most; others = k.others }
      by (Core (Iterate (did.Stored row place))) may b =
          let k = after_store _ _ _ _ b (line_of_row row (core xs) / shape.lines) (free shape (core xs) (done_store shape (core xs) row place may.may.1)) in record { most = k.most; others = k.others }
      by (Core (Iterate (did.Moved move))) may b = let k = after_move _ _ _ _ b in record { most = k.most; others = k.others }
      by _ may b = record { most = b.most; others = b.others }

  -- a move takes away what was due, and only a store brings it
  moves_step : (xs : List (TimedEvent n m)) (x : TimedEvent n m) (h : Happens n) → 1 ≤ shape.psi → Balanced shape (core xs) → MayCome shape pace e xs x h
      → moves_by h + due_moves (due_after shape (core_of h (core xs))) ≤ stores_by h + due_moves (due_after shape (core xs))
  moves_step xs x (Core (Begin (did.Moved move))) some b may =
      let was : due_moves (due_after shape (core xs)) ≡ 1 = done_move shape (core xs) move may.may.1 in let is = moved_flag shape (core xs) some b in omega (arith, was, is)
  moves_step xs x (Core (Iterate (did.Moved move))) some b may =
      let was : due_moves (due_after shape (core xs)) ≡ 1 = done_move shape (core xs) move may.may.1 in let is = moved_flag shape (core xs) some b in omega (arith, was, is)
  moves_step xs x _ some b may = omega (arith, due_moves-few)

  pub moves_few : (mid zs : List (TimedEvent n m)) → 1 ≤ shape.psi → Lawful shape pace e (mid ++ zs)
      → tally moves_by mid + due_moves (due_after shape (core (mid ++ zs))) ≤ tally stores_by mid + due_moves (due_after shape (core zs))
  moves_few [] zs some l = omega arith
  moves_few (y ∷ mid) zs some l =
      let before : tally moves_by mid + due_moves (due_after shape (core (mid ++ zs))) ≤ tally stores_by mid + due_moves (due_after shape (core zs)) = moves_few mid zs some l.1 in
      let step : moves_by y.happens + due_moves (due_after shape (core_of y.happens (core (mid ++ zs)))) ≤ stores_by y.happens + due_moves (due_after shape (core (mid ++ zs))) =
      moves_step (mid ++ zs) y y.happens some (balanced (mid ++ zs) some l.1) l.0 in
      sums (moves_by y.happens) (tally moves_by mid) (due_moves (due_after shape (core (y ∷ mid ++ zs)))) (stores_by y.happens) (tally stores_by mid) (due_moves (due_after shape (core zs))) (due_moves (due_after shape (core (mid ++ zs)))) before step
    where
      sums : (a b c d e f g : ℕ) → b + g ≤ e + f → a + c ≤ d + g → (a + b) + c ≤ (d + e) + f
      sums a b c d e f g h k = omega arith

  retires_step : (xs : List (TimedEvent n m)) (x : TimedEvent n m) (h : Happens n) → MayCome shape pace e xs x h → length (retired (core_of h (core xs))) ≡ retires_by h + length (retired (core xs))
  retires_step xs x (Core (Begin (did.Retired slot line))) may = absurd may.may.1
  retires_step xs x (Core (Iterate (did.Retired slot line))) may = let k : length (retired (core xs) ++ slot ∷ []) ≡ length (retired (core xs)) + 1 = length-append (retired (core xs)) (slot ∷ []) in omega (arith, k)
  retires_step xs x _ may = omega arith

  retired_few : (xs : List (TimedEvent n m)) → Lawful shape pace e xs → length (retired (core xs)) ≤ shape.spares
  retired_few [] l = omega arith
  retired_few (x ∷ xs) l = by x.happens l.0 (retired_few xs l.1) (retires_step xs x x.happens l.0)
    where
      by : (h : Happens n) → MayCome shape pace e xs x h → length (retired (core xs)) ≤ shape.spares → length (retired (core_of h (core xs))) ≡ retires_by h + length (retired (core xs))
          → length (retired (core_of h (core xs))) ≤ shape.spares
      by (Core (Begin answer)) may few is = omega (arith, few, is)
      by (Core (Iterate (did.Retired slot line))) may few is = let k : length (retired (core xs)) < shape.spares = may.may.1.2 in omega (arith, is, k)
      by _ may few is = few

  retires_sum : (mid zs : List (TimedEvent n m)) → Lawful shape pace e (mid ++ zs) → length (retired (core (mid ++ zs))) ≡ tally retires_by mid + length (retired (core zs))
  retires_sum [] zs l = omega arith
  retires_sum (y ∷ mid) zs l =
      let before : length (retired (core (mid ++ zs))) ≡ tally retires_by mid + length (retired (core zs)) = retires_sum mid zs l.1 in
      let step : length (retired (core (y ∷ mid ++ zs))) ≡ retires_by y.happens + length (retired (core (mid ++ zs))) = retires_step (mid ++ zs) y y.happens l.0 in
      omega (arith, before, step)

  pub retires_few : (mid zs : List (TimedEvent n m)) → Lawful shape pace e (mid ++ zs) → tally retires_by mid ≤ shape.spares
  retires_few mid zs l =
      let sum : length (retired (core (mid ++ zs))) ≡ tally retires_by mid + length (retired (core zs)) = retires_sum mid zs l in
      let few : length (retired (core (mid ++ zs))) ≤ shape.spares = retired_few (mid ++ zs) l in
      omega (arith, sum, few)
