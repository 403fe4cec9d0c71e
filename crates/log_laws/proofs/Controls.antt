-- Each cut has read every control line.
use Rattle.std.proofs.Common.{◌≡◌, ℕ, ◌+◌, ◌==◌, ◌&&◌, ◌||◌, Bool, true, false, List, [], ◌∷◌, ◌++◌, refl, sym, ap, ◌∙◌, subst, eq-eqb}
use Rattle.std.{specs.List.{list_any, list_all}, specs.Prelude.{All, map, nat_le, nat_lt}, proofs.lemmas.Bool.{and_from, or_left, or_right}}
use Rattle.std.proofs.{lemmas.List.Elements.{All-head, All-tail}, lemmas.List.Folds.list_any-append}
use Rattle.cell_rows.specs.declared.array.Sense.{Sense}
use Rattle.bank_shape.specs.{Shape.lines_in, declared.BankShape.BankShape, declared.pace.Pace.Pace}
use Rattle.bank_model.specs.{Adding.senses_of, Changes.all_controls, Events.{Write, Read, Cut}, Lawful.{Lawful, MayCome}, Sensing.{pulses_of, read_again}}
use Rattle.bank_model.specs.Timing.{Happens, Core, TimedEvent}
use Rattle.bank_laws.{specs.Laws.log_of, specs.Outcomes.{row_with, rows_from}, proofs.Serves.may_at, proofs.Walking.{Passes, walk, rows_after}}
use Rattle.right_runs.specs.Logs.{has_controls}
use Rattle.log_laws.{specs.Laws.ControlsLaw, proofs.Owning.among, proofs.Sensed.any-filter}

-- what holds of each line that is among these holds of them
all-among : (p : ℕ → Bool) (ls : List ℕ) → ((line : ℕ) → among line ls ≡ true → p line ≡ true) → list_all p ls ≡ true
all-among p [] each = refl
all-among p (l ∷ ls) each =
    and_from (p l) _ (each l (or_left (l == l) _ (eq-eqb l l refl))) (all-among p ls (λ line there. each line (or_right (l == line) _ there)))

module _ {n m : ℕ} where
  abbrev pub at_tick : ℕ → ℕ → Sense n m → Bool
  at_tick line tick s = s.line == line && s.tick == tick

  -- a line that was sensed has its sense
  sensed-there : (line tick : ℕ) (f : ℕ → ℕ) (ss : List (Sense n m)) → All (λ s. (s.tick ≡ tick) × (s.pulses ≡ f s.line)) ss → among line (map (λ s. s.line) ss) ≡ true → list_any (at_tick line tick) ss ≡ true
  sensed-there line tick f [] says there = absurd (cc)
  sensed-there line tick f (s ∷ ss) says there =
      by (s.line == line) (eq-eqb s.tick tick (All-head (λ (s : Sense n m). (s.tick ≡ tick) × (s.pulses ≡ f s.line)) s ss says).0) there
      (λ k. sensed-there line tick f ss (All-tail (λ (s : Sense n m). (s.tick ≡ tick) × (s.pulses ≡ f s.line)) s ss says) k)
    where
      by : (b : Bool) → (s.tick == tick) ≡ true → (b || among line (map (λ s. s.line) ss)) ≡ true → (among line (map (λ s. s.line) ss) ≡ true → list_any (at_tick line tick) ss ≡ true)
          → ((b && s.tick == tick) || list_any (at_tick line tick) ss) ≡ true
      by true at there rest = or_left (s.tick == tick) _ at
      by false at there rest = rest there

  any-later : (p : Sense n m → Bool) (later : List (TimedEvent n m)) (x : TimedEvent n m) (ys : List (TimedEvent n m)) → list_any p x.senses ≡ true → list_any p (senses_of (later ++ x ∷ ys)) ≡ true
  any-later p [] x ys there = list_any-append p (senses_of ys) x.senses ∙ or_right (list_any p (senses_of ys)) _ there
  any-later p (y ∷ later) x ys there = list_any-append p (senses_of (later ++ x ∷ ys)) y.senses ∙ or_left (list_any p (senses_of (later ++ x ∷ ys))) _ (any-later p later x ys there)

module _ {n m : ℕ} (shape : BankShape) (pace : Pace) (e : ℕ) (all : List (TimedEvent n m)) (log extra : List (Sense n m)) (l : Lawful shape pace e all) (shown : log_of shape log ≡ senses_of all ++ extra) where
  in-log : (p : Sense n m → Bool) → list_any p (senses_of all) ≡ true → list_any p log ≡ true
  in-log p there =
      any-filter p (λ s. nat_le shape.base s.line && nat_lt s.line (shape.base + lines_in shape)) log
      (ap (λ ss. list_any p ss) shown ∙ list_any-append p (senses_of all) extra ∙ or_left (list_any p (senses_of all)) _ there)

  controls_at : (later : List (TimedEvent n m)) (x : TimedEvent n m) (ys : List (TimedEvent n m)) → all ≡ later ++ x ∷ ys
      → Passes (has_controls shape log) (rows_from shape all ys) (row_with shape all x.happens x.tick x.cancels) (rows_after shape all later)
  controls_at later x ys same = by x.happens x.cancels refl (may_at shape pace e all later x ys l same)
    where
      by : (h : Happens n) (cancels : Bool) → x.cancels ≡ cancels → MayCome shape pace e ys x h
          → Passes (has_controls shape log) (rows_from shape all ys) (row_with shape all h x.tick cancels) (rows_after shape all later)
      by (Core (Write row line bytes given answer)) cancels is may = refl
      by (Core (Read row line answer)) cancels is may = refl
      by (Core (Cut tearing)) false is may =
          all-among (λ line. list_any (at_tick line x.tick) log) (all_controls shape) (λ line there.
          in-log (at_tick line x.tick)
          (subst (λ (xs : List (TimedEvent n m)). list_any (at_tick line x.tick) (senses_of xs) ≡ true) (sym same)
          (any-later (at_tick line x.tick) later x ys
          (sensed-there line x.tick (λ l. pulses_of (x ∷ ys) l) x.senses may.senses
          (ap (among line) (may.lines ∙ ap (read_again shape) is) ∙ there)))))
      by _ _ is may = tt

pub controls_law : ControlsLaw
controls_law n m e shape pace xs log extra l shown = walk shape xs (has_controls shape log) [] xs refl (λ later x ys same. controls_at shape pace e xs log extra l shown later x ys same)
