-- The senses of one line among those of an event.
use Rattle.std.proofs.Common.{◌≡◌, ℕ, ◌==◌, ◌||◌, ◌&&◌, ◌≤◌, ◌<◌, ◌+◌, Bool, true, false, List, [], ◌∷◌, refl, sym, ap, ◌∙◌, subst, arith, cond, eq-eqb, eqb-true}
use Rattle.std.{specs.List.list_any, specs.Prelude.{zero, suc, All, map, filter, nat_le, nat_lt}, proofs.lemmas.Bool.{le-leb, lt-ltb, and_from, or_left, or_right}}
use Rattle.std.proofs.lemmas.List.Elements.{All-nil, All-cons, All-head, All-tail}
use Rattle.cell_rows.specs.declared.array.Sense.{Sense}
use Rattle.bank_shape.specs.{Shape.lines_in, declared.BankShape.BankShape}
use Rattle.bank_model.specs.Changes.{numbers_from}
use Rattle.bank_laws.specs.Laws.{log_of}

-- the senses of a line
abbrev pub own : {n m : ℕ} → ℕ → List (Sense n m) → List (Sense n m)
own line ss = filter (λ s. s.line == line) ss

-- whether a line is among these
abbrev pub among : ℕ → List ℕ → Bool
among line ls = list_any (λ l. l == line) ls

module _ {n m : ℕ} (line : ℕ) where
  -- a line of which there are no senses was not sensed
  pub own-none : (ss : List (Sense n m)) → own line ss ≡ [] → among line (map (λ s. s.line) ss) ≡ false
  own-none [] none = refl
  own-none (s ∷ ss) none = by (s.line == line) (λ k. own-none ss k) none
    where
      by : (b : Bool) → (own line ss ≡ [] → among line (map (λ s. s.line) ss) ≡ false) → cond b (s ∷ own line ss) (own line ss) ≡ [] → (b || among line (map (λ s. s.line) ss)) ≡ false
      by true rest none = absurd (cc)
      by false rest none = rest none

  pub own-lacks : (ss : List (Sense n m)) → among line (map (λ s. s.line) ss) ≡ false → own line ss ≡ []
  own-lacks [] none = refl
  own-lacks (s ∷ ss) none = by (s.line == line) (λ k. own-lacks ss k) none
    where
      by : (b : Bool) → (among line (map (λ s. s.line) ss) ≡ false → own line ss ≡ []) → (b || among line (map (λ s. s.line) ss)) ≡ false → cond b (s ∷ own line ss) (own line ss) ≡ []
      by true rest none = absurd (cc)
      by false rest none = rest none

  -- what holds of each sense, by its line, holds of the line's
  pub own-all : (tick : ℕ) (f : ℕ → ℕ) (ss : List (Sense n m)) → All (λ s. (s.tick ≡ tick) × (s.pulses ≡ f s.line)) ss → All (λ s. (s.tick ≡ tick) × (s.pulses ≡ f line)) (own line ss)
  own-all tick f [] a = All-nil (λ (s : Sense n m). (s.tick ≡ tick) × (s.pulses ≡ f line))
  own-all tick f (s ∷ ss) a =
      by (s.line == line) refl (own-all tick f ss (All-tail (λ (s : Sense n m). (s.tick ≡ tick) × (s.pulses ≡ f s.line)) s ss a)) (All-head (λ (s : Sense n m). (s.tick ≡ tick) × (s.pulses ≡ f s.line)) s ss a)
    where
      by : (b : Bool) → (s.line == line) ≡ b → All (λ s. (s.tick ≡ tick) × (s.pulses ≡ f line)) (own line ss) → (s.tick ≡ tick) × (s.pulses ≡ f s.line)
          → All (λ s. (s.tick ≡ tick) × (s.pulses ≡ f line)) (cond b (s ∷ own line ss) (own line ss))
      by true is rest here =
          All-cons (λ (s : Sense n m). (s.tick ≡ tick) × (s.pulses ≡ f line)) s (own line ss) (here.0, here.1 ∙ ap f (eqb-true s.line line is)) rest
      by false is rest here = rest

  pub own-kept : (g : ℕ → ℕ) (ss : List (Sense n m)) → All (λ s. s.pulses ≡ g s.line) ss → All (λ s. s.pulses ≡ g line) (own line ss)
  own-kept g [] a = All-nil (λ (s : Sense n m). s.pulses ≡ g line)
  own-kept g (s ∷ ss) a =
      by (s.line == line) refl (own-kept g ss (All-tail (λ (s : Sense n m). s.pulses ≡ g s.line) s ss a)) (All-head (λ (s : Sense n m). s.pulses ≡ g s.line) s ss a)
    where
      by : (b : Bool) → (s.line == line) ≡ b → All (λ s. s.pulses ≡ g line) (own line ss) → s.pulses ≡ g s.line → All (λ s. s.pulses ≡ g line) (cond b (s ∷ own line ss) (own line ss))
      by true is rest here = All-cons (λ (s : Sense n m). s.pulses ≡ g line) s (own line ss) (here ∙ ap g (eqb-true s.line line is)) rest
      by false is rest here = rest

  -- the senses of a bank's line are those in the bank's part of a log
  pub own-log : (shape : BankShape) (log : List (Sense n m)) → shape.base ≤ line → line < shape.base + lines_in shape → own line log ≡ own line (log_of shape log)
  own-log shape [] le lt = refl
  own-log shape (s ∷ log) le lt = by (s.line == line) refl (nat_le shape.base s.line && nat_lt s.line (shape.base + lines_in shape)) refl (own-log shape log le lt)
    where
      by : (b : Bool) → (s.line == line) ≡ b → (c : Bool) → (nat_le shape.base s.line && nat_lt s.line (shape.base + lines_in shape)) ≡ c → own line log ≡ own line (log_of shape log)
          → cond b (s ∷ own line log) (own line log) ≡ own line (cond c (s ∷ log_of shape log) (log_of shape log))
      by false is true its rest = rest ∙ sym (ap (λ b. cond b (s ∷ own line (log_of shape log)) (own line (log_of shape log))) is)
      by false is false its rest = rest
      by true is true its rest = ap (λ ss. s ∷ ss) rest ∙ sym (ap (λ b. cond b (s ∷ own line (log_of shape log)) (own line (log_of shape log))) is)
      by true is false its rest =
          let same : s.line ≡ line = eqb-true s.line line is in
          let inside : (nat_le shape.base s.line && nat_lt s.line (shape.base + lines_in shape)) ≡ true =
          subst (λ l. (nat_le shape.base l && nat_lt l (shape.base + lines_in shape)) ≡ true) (sym same)
          (and_from (nat_le shape.base line) _ (le-leb shape.base line le) (lt-ltb line (shape.base + lines_in shape) lt)) in
          absurd (cc)

-- the lines from one on are those from it up to their count
pub numbers-from : (from count line : ℕ) → among line (numbers_from from count) ≡ true → from ≤ line
numbers-from from zero line h = absurd (cc)
numbers-from from (suc count) line h = by (from == line) refl h (λ k. numbers-from (from + 1) count line k)
  where
    by : (b : Bool) → (from == line) ≡ b → (b || among line (numbers_from (from + 1) count)) ≡ true → (among line (numbers_from (from + 1) count) ≡ true → from + 1 ≤ line) → from ≤ line
    by true is h rest = let same : from ≡ line = eqb-true from line is in omega (arith, same)
    by false is h rest = let k : from + 1 ≤ line = rest h in omega (arith, k)

pub numbers-all : (from count item : ℕ) → item < count → among (from + item) (numbers_from from count) ≡ true
numbers-all from zero item lt = absurd (omega arith)
numbers-all from (suc count) zero lt = or_left (from == from + 0) _ (eq-eqb from (from + 0) (omega arith))
numbers-all from (suc count) (suc item) lt =
    or_right (from == from + suc item) _ (subst (λ k. among k (numbers_from (from + 1) count) ≡ true) (next from item) (numbers-all (from + 1) count item (omega (arith, lt))))
  where
    next : (from item : ℕ) → (from + 1) + item ≡ from + suc item
    next from item = omega arith
