-- What was asked of a bank behind a part of its history came with the events behind that part.
use Rattle.std.proofs.Common.{◌≡◌, ℕ, suc, ◌≤◌, cond, Bool, true, false, List, [], ◌∷◌, ◌++◌, length, take, refl, sym, ap, subst, ◌∙◌, length-append, arith}
use Rattle.std.{specs.Prelude.All, proofs.lemmas.List.take_at, proofs.lemmas.List.Elements.{All-head, All-tail, All-nil, All-cons}}
use Rattle.bank_model.specs.{Events.{Write, Read, Cut}, Timing.{Happens, Core, TimedEvent}}
use Rattle.module_laws.specs.Asking.{Asked, AreAsked, IsAsked}
use Rattle.settle_laws.proofs.Later.{IsLateRow, is_row}

-- lists whose rests are as long have the same front
pub front-same : {A : Type 0} (xs ys us vs : List A) → xs ++ ys ≡ us ++ vs → length ys ≡ length vs → xs ≡ us
front-same xs ys us vs same size =
    let whole : length (xs ++ ys) ≡ length (us ++ vs) = ap length same in
    let long : length us ≡ length xs = omega (arith, whole, size, length-append xs ys, length-append us vs) in
    sym (take_at xs ys (length xs) refl) ∙ ap (take (length xs)) same ∙ take_at us vs (length xs) long

-- a row comes no sooner than a tick
abbrev Late : {n : ℕ} → ℕ → Asked n → Type 0
Late tick a = tick ≤ a.tick

module _ {n m : ℕ} where
  -- how many of these events are rows
  pub rows-in : List (TimedEvent n m) → ℕ
  rows-in [] = 0
  rows-in (x ∷ xs) = cond (is_row x.happens x.cancels) (suc (rows-in xs)) (rows-in xs)

  -- so many were asked for
  pub sized : (xs : List (TimedEvent n m)) (asked : List (Asked n)) → AreAsked xs asked → length asked ≡ rows-in xs
  unfolding rows-in
  sized [] asked none = ap length none
  sized (x ∷ xs) asked is = by x.happens x.cancels asked is (λ rest are. sized xs rest are)
    where
      by : (h : Happens n) (cancels : Bool) (asked : List (Asked n)) → IsAsked h cancels x.tick (AreAsked xs) asked
          → ((rest : List (Asked n)) → AreAsked xs rest → length rest ≡ rows-in xs) → length asked ≡ cond (is_row h cancels) (suc (rows-in xs)) (rows-in xs)
      by (Core (Write row line bytes given answer)) cancels [] is rec = absurd is
      by (Core (Write row line bytes given answer)) cancels (a ∷ asked) is rec = ap suc (rec asked is.1)
      by (Core (Read row line answer)) cancels [] is rec = absurd is
      by (Core (Read row line answer)) cancels (a ∷ asked) is rec = ap suc (rec asked is.1)
      by (Core (Cut tearing)) false [] is rec = absurd is
      by (Core (Cut tearing)) false (a ∷ asked) is rec = ap suc (rec asked is.2)
      by _ _ asked is rec = rec asked is

  module _ (tick : ℕ) where
    abbrev LateRow : TimedEvent n m → Type 0
    LateRow x = IsLateRow tick x

    -- what was asked, in two parts: the history asked for the earlier one, and where each row of the later one is late, so are those of later events
    record IsParted (since xs : List (TimedEvent n m)) (asked : List (Asked n)) : Type 0 where
      late : List (Asked n)
      early : List (Asked n)
      whole : asked ≡ late ++ early
      before : AreAsked xs early
      behind : All (Late tick) late → All LateRow since

    parted : (since xs : List (TimedEvent n m)) (asked : List (Asked n)) → AreAsked (since ++ xs) asked → IsParted since xs asked
    parted [] xs asked is = record { late = []; early = asked; whole = refl; before = is; behind = λ all. All-nil LateRow }
    parted (x ∷ since) xs asked is =
        grown (by x.happens x.cancels asked is (λ rest are. parted since xs rest are))
      where
        Now : Happens n → Bool → List (Asked n) → Type 0
        Now h cancels asked =
            (late : List (Asked n)) × (early : List (Asked n)) × (asked ≡ late ++ early) × AreAsked xs early
            × (All (Late tick) late → (is_row h cancels ≡ true → tick ≤ x.tick) × All LateRow since)

        grown : Now x.happens x.cancels asked → IsParted (x ∷ since) xs asked
        grown now = record {
          late = now.0;
          early = now.1;
          whole = now.2;
          before = now.3;
          behind = λ all. (let both = now.4 all in All-cons LateRow x since both.0 both.1);
        }

        own : (h : Happens n) (cancels : Bool) (a : Asked n) (rest : List (Asked n)) → a.tick ≡ x.tick → IsParted since xs rest → Now h cancels (a ∷ rest)
        own h cancels a rest at p = (
          a ∷ p.late,
          p.early,
          ap (λ (asked : List (Asked n)). a ∷ asked) p.whole,
          p.before,
          λ all. ((λ is. (let late : tick ≤ a.tick = All-head (Late tick) a p.late all in omega (arith, late, at))), p.behind (All-tail (Late tick) a p.late all)),
        )

        none : (h : Happens n) (cancels : Bool) (asked : List (Asked n)) → is_row h cancels ≡ false → IsParted since xs asked → Now h cancels asked
        none h cancels asked off p =
            (p.late, p.early, p.whole, p.before, λ all. ((λ is. (let no : true ≡ false = sym is ∙ off in absurd (cc no))), p.behind all))

        by : (h : Happens n) (cancels : Bool) (asked : List (Asked n)) → IsAsked h cancels x.tick (AreAsked (since ++ xs)) asked
            → ((rest : List (Asked n)) → AreAsked (since ++ xs) rest → IsParted since xs rest) → Now h cancels asked
        by (Core (Write row line bytes given answer)) cancels [] is rec = absurd is
        by (Core (Write row line bytes given answer)) cancels (a ∷ asked) is rec =
            own (Core (Write row line bytes given answer)) cancels a asked (ap (λ (a : Asked n). a.tick) is.0) (rec asked is.1)
        by (Core (Read row line answer)) cancels [] is rec = absurd is
        by (Core (Read row line answer)) cancels (a ∷ asked) is rec = own (Core (Read row line answer)) cancels a asked (ap (λ (a : Asked n). a.tick) is.0) (rec asked is.1)
        by (Core (Cut tearing)) true asked is rec = none (Core (Cut tearing)) true asked refl (rec asked is)
        by (Core (Cut tearing)) false [] is rec = absurd is
        by (Core (Cut tearing)) false (a ∷ asked) is rec = own (Core (Cut tearing)) false a asked is.0 (rec asked is.2)
        by h cancels asked is rec = none h cancels asked refl (rec asked is)

    -- where a history asked for these rows, the later ones came with the later events
    pub later-rows : (since xs : List (TimedEvent n m)) (later asked : List (Asked n)) → AreAsked (since ++ xs) (later ++ asked) → AreAsked xs asked → All (Late tick) later → All LateRow since
    later-rows since xs later asked all own late =
        let p = parted since xs (later ++ asked) all in
        let size : length asked ≡ length p.early = sized xs asked own ∙ sym (sized xs p.early p.before) in
        p.behind (subst (All (Late tick)) (front-same later asked p.late p.early p.whole size) late)
