-- The writes of a history with their rows' numbers, and which of them stand in the queue.
use Rattle.std.proofs.Common.{◌≡◌, ℕ, ◌<◌, ◌≤◌, Bool, true, false, suc, List, [], ◌∷◌, ◌++◌, length, refl, arith, cond}
use Rattle.result_rows.specs.declared.Outcome.{Outcome}
use Rattle.row_rules.specs.{declared.Asks.TheVariants.Writes, declared.Row.Row}
use Rattle.bank_shape.specs.declared.BankShape.{BankShape}
use Rattle.bank_model.specs.{Events.{Write, Read, RowsBelow}, History.queue, Timing.{Happens, Core, TimedEvent, core, core_of}, Told.tick_of_row}
use Rattle.bank_laws.{specs.Outcomes.{outcome_of, ended}, proofs.Counting.hits, proofs.Lines.Stands, proofs.Pending.{write_rows, writes_in}}

-- a write with its row's number, as its row shows it
pub record Written (n : ℕ) : Type 0 where
  pub row : ℕ
  pub tick : ℕ
  pub line : ℕ
  pub bytes : List ℕ
  pub given : List Bool
  pub outcome : Outcome n

module _ {n : ℕ} where
  abbrev pub item_of : Written n → Row n
  item_of w = record { tick = w.tick; asks = Writes w.line w.bytes w.given; outcome = w.outcome }

  -- the rows of these writes
  abbrev pub items : List (Written n) → List (Row n)
  items [] = []
  items (w ∷ ws) = item_of w ∷ items ws

  -- those whose row's number passes a test
  abbrev pub standing : (ℕ → Bool) → List (Written n) → List (Written n)
  standing p [] = []
  standing p (w ∷ ws) = cond (p w.row) (w ∷ standing p ws) (standing p ws)

  abbrev pub Each : (Written n → Type 0) → List (Written n) → Type 0
  Each P [] = Unit {0}
  Each P (w ∷ ws) = P w × Each P ws

  -- the numbers of the rows fall, and are below this one
  abbrev pub NumbersFall : List (Written n) → ℕ → Type 0
  NumbersFall [] bound = Unit {0}
  NumbersFall (w ∷ ws) bound = (w.row < bound) × NumbersFall ws w.row

  pub numbers-more : (ws : List (Written n)) (a b : ℕ) → a ≤ b → NumbersFall ws a → NumbersFall ws b
  numbers-more [] a b le f = tt
  numbers-more (w ∷ ws) a b le f = (omega (arith, f.0, le), f.1)

  pub cond_items : (a b : Bool) (w : Written n) (xs : List (Row n)) (ys : List (Written n)) → a ≡ b → xs ≡ items ys → cond a (item_of w ∷ xs) xs ≡ items (cond b (w ∷ ys) ys)
  cond_items a b w xs ys is same = grind arith

  pub cond_each : (P : Written n → Type 0) (b : Bool) (w : Written n) (ys : List (Written n)) → (b ≡ true → P w) → Each P ys → Each P (cond b (w ∷ ys) ys)
  cond_each P true w ys own rest = (own refl, rest)
  cond_each P false w ys own rest = rest

  cond_fall : (b : Bool) (w : Written n) (ys : List (Written n)) (bound : ℕ) → w.row < bound → NumbersFall ys w.row → NumbersFall (cond b (w ∷ ys) ys) bound
  cond_fall true w ys bound lt f = (lt, f)
  cond_fall false w ys bound lt f = numbers-more ys w.row bound (omega (arith, lt)) f

  cond_count : (b : Bool) (w : Written n) (ys : List (Written n)) (k : ℕ) → length (items ys) ≡ k → length (items (cond b (w ∷ ys) ys)) ≡ cond b (suc k) k
  cond_count b w ys k is = grind arith

module _ {n m : ℕ} (shape : BankShape) (all : List (TimedEvent n m)) where
  -- the writes of these events, where `all` is the whole history
  abbrev pub written_by : Happens n → ℕ → List (Written n)
  written_by (Core (Write row line bytes given answer)) tick =
      record { row = row; tick = tick; line = line; bytes = bytes; given = given; outcome = ended tick (outcome_of shape all row) } ∷ []
  written_by _ tick = []

  abbrev pub written : List (TimedEvent n m) → List (Written n)
  written [] = []
  written (x ∷ xs) = written_by x.happens x.tick ++ written xs

  -- a write stands in the queue after some events, and has its tick and its outcome
  pub record IsEntry (now : List (TimedEvent n m)) (w : Written n) : Type 0 where
    pub there : Stands (queue shape (core now)) w.row w.line
    pub came : w.tick ≡ tick_of_row w.row now
    pub fate : w.outcome ≡ ended w.tick (outcome_of shape all w.row)

  pub standing-falls : (p : ℕ → Bool) (ys : List (TimedEvent n m)) (bound : ℕ) → RowsBelow (core ys) bound → NumbersFall (standing p (written ys)) bound
  standing-falls p [] bound b = tt
  standing-falls p (y ∷ ys) bound b = by y.happens (λ bound b. standing-falls p ys bound b) b
    where
      by : (h : Happens n) → ((bound : ℕ) → RowsBelow (core ys) bound → NumbersFall (standing p (written ys)) bound) → RowsBelow (core_of h (core ys)) bound
          → NumbersFall (standing p (written_by h y.tick ++ written ys)) bound
      by (Core (Write at line bytes given answer)) go b = cond_fall (p at) _ (standing p (written ys)) bound b.0 (go at b.1)
      by (Core (Read at line answer)) go b = numbers-more (standing p (written ys)) at bound (omega (arith, b.0)) (go at b.1)
      by _ go b = go bound b

  pub standing-count : (p : ℕ → Bool) (ys : List (TimedEvent n m)) → length (items (standing p (written ys))) ≡ hits p (writes_in ys)
  standing-count p [] = refl
  standing-count p (y ∷ ys) = by y.happens (standing-count p ys)
    where
      by : (h : Happens n) → length (items (standing p (written ys))) ≡ hits p (writes_in ys) → length (items (standing p (written_by h y.tick ++ written ys))) ≡ hits p (write_rows h ++ writes_in ys)
      by (Core (Write at line bytes given answer)) go = cond_count (p at) _ (standing p (written ys)) (hits p (writes_in ys)) go
      by _ go = go
