-- What was asked of a bank behind a part of its history, row by row.
use Rattle.std.proofs.Common.{◌≡◌, ℕ, Bool, false, List, [], ◌∷◌, ◌++◌, length, refl, sym, ap, subst, ◌∙◌, append_assoc}
use Rattle.std.{specs.Prelude.All, proofs.lemmas.List.Elements.{All-nil, All-cons}}
use Rattle.row_rules.specs.declared.Asks.TheVariants.{Reads, Writes, Cuts}
use Rattle.bank_shape.specs.{declared.BankShape.BankShape, declared.answer.ReadAnswer.ReadAnswer, declared.answer.WriteAnswer.WriteAnswer, declared.pace.Pace.Pace}
use Rattle.bank_model.specs.{Events.{Write, Read, Cut}, Lawful.{Lawful, MayCome}, Timing.{Happens, Core, TimedEvent}}
use Rattle.bank_laws.proofs.{Ending.Onwards, Serves.{may_at, onwards_at}}
use Rattle.module_laws.specs.Asking.{Asked, AreAsked, IsAsked}
use Rattle.settle_laws.proofs.Parting.{front-same, sized}

-- what holds of a row by the event with which it came, behind a part of a history, holds of each row that was asked behind that part
module _ {n m : ℕ} (shape : BankShape) (pace : Pace) (e : ℕ) (xs all : List (TimedEvent n m)) (l : Lawful shape pace e all) (Is : Asked n → Type 0)
    (writes : (later since : List (TimedEvent n m)) (x : TimedEvent n m) → all ≡ later ++ x ∷ (since ++ xs) → (row line : ℕ) (bytes : List ℕ) (given : List Bool) (answer : WriteAnswer)
    → MayCome shape pace e (since ++ xs) x (Core (Write row line bytes given answer)) → Onwards shape all (since ++ xs) x.tick (Core (Write row line bytes given answer))
    → Is (record { row = row; tick = x.tick; asks = Writes line bytes given }))
    (reads : (later since : List (TimedEvent n m)) (x : TimedEvent n m) → all ≡ later ++ x ∷ (since ++ xs) → (row line : ℕ) (answer : ReadAnswer n)
    → MayCome shape pace e (since ++ xs) x (Core (Read row line answer)) → Onwards shape all (since ++ xs) x.tick (Core (Read row line answer))
    → Is (record { row = row; tick = x.tick; asks = Reads line }))
    (cuts : (a : Asked n) → a.asks ≡ Cuts → Is a) where
  -- what was asked, in two parts: the history asked for the earlier one, and so it is of each row of the later one
  abbrev IsParted : List (Asked n) → Type 0
  IsParted asked = (late : List (Asked n)) × (early : List (Asked n)) × (asked ≡ late ++ early) × AreAsked xs early × All Is late

  grown : (a : Asked n) (asked : List (Asked n)) → Is a → IsParted asked → IsParted (a ∷ asked)
  grown a asked own p = (a ∷ p.0, p.1, ap (λ (asked : List (Asked n)). a ∷ asked) p.2, p.3, All-cons Is a p.0 own p.4)

  walk : (later since : List (TimedEvent n m)) → all ≡ later ++ (since ++ xs) → (asked : List (Asked n)) → AreAsked (since ++ xs) asked → IsParted asked
  walk later [] same asked are = ([], asked, refl, are, All-nil Is)
  walk later (x ∷ since) same asked are =
      by x.happens x.cancels asked (may_at shape pace e all later x (since ++ xs) l same) (onwards_at shape pace e all later x (since ++ xs) l same) are
      (λ rest own. walk (later ++ x ∷ []) since (same ∙ sym (append_assoc later (x ∷ []) (since ++ xs))) rest own)
    where
      by : (h : Happens n) (cancels : Bool) (asked : List (Asked n)) → MayCome shape pace e (since ++ xs) x h → Onwards shape all (since ++ xs) x.tick h
          → IsAsked h cancels x.tick (AreAsked (since ++ xs)) asked → ((rest : List (Asked n)) → AreAsked (since ++ xs) rest → IsParted rest) → IsParted asked
      by (Core (Write row line bytes given answer)) cancels [] may on are ih = absurd are
      by (Core (Write row line bytes given answer)) cancels (a ∷ asked) may on are ih =
          grown a asked (subst Is (sym are.0) (writes later since x same row line bytes given answer may on)) (ih asked are.1)
      by (Core (Read row line answer)) cancels [] may on are ih = absurd are
      by (Core (Read row line answer)) cancels (a ∷ asked) may on are ih = grown a asked (subst Is (sym are.0) (reads later since x same row line answer may on)) (ih asked are.1)
      by (Core (Cut tearing)) false [] may on are ih = absurd are
      by (Core (Cut tearing)) false (a ∷ asked) may on are ih = grown a asked (cuts a are.1) (ih asked are.2)
      by _ _ asked may on are ih = ih asked are

  pub each-later : (since : List (TimedEvent n m)) → all ≡ since ++ xs → (later asked : List (Asked n)) → AreAsked (since ++ xs) (later ++ asked) → AreAsked xs asked → All Is later
  each-later since same later asked both own =
      let p = walk [] since same (later ++ asked) both in
      let size : length asked ≡ length p.1 = sized xs asked own ∙ sym (sized xs p.1 p.3) in
      subst (All Is) (sym (front-same later asked p.0 p.1 p.2 size)) p.4
