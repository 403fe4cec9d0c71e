-- A cut, or the read that cancels, is a row between the senses before and behind it.
use Rattle.std.proofs.Common.{◌≡◌, ℕ, ◌≤◌, ◌&&◌, Bool, true, false, List, [], ◌∷◌, ◌++◌, refl, sym, ap, ◌∙◌, subst, arith}
use Rattle.std.{specs.Prelude.{IsTrue, nat_le}, proofs.lemmas.Bool.{le-leb, and_from, or_left, or_right}, proofs.lemmas.List.Folds.list_any-append}
use Rattle.row_rules.specs.declared.Rules.{Rules}
use Rattle.bank_shape.specs.{Pausing.is_cancelling, declared.BankShape.BankShape, declared.pace.Pace.Pace}
use Rattle.bank_shape.specs.declared.answer.ReadAnswer.TheVariants as came
use Rattle.bank_model.specs.{Events.{BankEvent, Read, Cut}, Lawful.{Lawful, MayCome, IsRead}, Timing.{Happens, Core, Regs, TimedEvent}}
use Rattle.right_runs.specs.Logs.{is_broken}
use Rattle.bank_laws.{specs.Outcomes.{row_with, rows_from}, proofs.Settling.lawful_before}

between : (from at to : ℕ) → from ≤ at → at ≤ to → (nat_le from at && nat_le at to) ≡ true
between from at to le lt = and_from (nat_le from at) _ (le-leb from at le) (le-leb at to lt)

-- a read that begins to wait, behind a cancel
is_read-same : {n : ℕ} (h : BankEvent n) (tick at : ℕ) → IsRead tick at h → (at ≡ tick) × IsRead at at h
is_read-same (Read row line came.Waiting) tick at is = (is, refl)
is_read-same _ tick at is = absurd is

module _ {n m : ℕ} (shape : BankShape) (rules : Rules) where
  -- what an event's row breaks, the table has
  broken-there : (all pre : List (TimedEvent n m)) (x : TimedEvent n m) (xs : List (TimedEvent n m)) (from to : ℕ) → all ≡ pre ++ x ∷ xs
      → is_broken rules (row_with shape all x.happens x.tick x.cancels) from to ≡ true → is_broken rules (rows_from shape all all) from to ≡ true
  broken-there all pre x xs from to same b =
      subst (λ (zs : List (TimedEvent n m)). is_broken rules (rows_from shape all zs) from to ≡ true) (sym same) (on pre)
    where
      on : (pre : List (TimedEvent n m)) → is_broken rules (rows_from shape all (pre ++ x ∷ xs)) from to ≡ true
      on [] =
          list_any-append _ (row_with shape all x.happens x.tick x.cancels) (rows_from shape all xs)
          ∙ or_left (is_broken rules (row_with shape all x.happens x.tick x.cancels) from to) _ b
      on (y ∷ pre) =
          list_any-append _ (row_with shape all y.happens y.tick y.cancels) (rows_from shape all (pre ++ x ∷ xs))
          ∙ or_right (is_broken rules (row_with shape all y.happens y.tick y.cancels) from to) _ (on pre)

  cut_breaks : (all : List (TimedEvent n m)) (tick from to : ℕ) (tearing : Bool) → from ≤ tick → tick ≤ to
      → is_broken rules (row_with shape all (Core (Cut tearing)) tick false) from to ≡ true
  cut_breaks all tick from to tearing le lt = or_left (nat_le from tick && nat_le tick to) false (between from tick to le lt)

  read_breaks : (all : List (TimedEvent n m)) (h : BankEvent n) (tick from to : ℕ) (cancels : Bool) → is_cancelling rules.policy ≡ true → IsRead tick tick h → from ≤ tick → tick ≤ to
      → is_broken rules (row_with shape all (Core h) tick cancels) from to ≡ true
  read_breaks all (Read row line came.Waiting) tick from to cancels policy is le lt =
      or_left _ false (and_from (is_cancelling rules.policy && true) _ (and_from (is_cancelling rules.policy) true policy refl) (between from tick to le lt))
  read_breaks all _ tick from to cancels policy is le lt = absurd is

  split-end : (pre : List (TimedEvent n m)) (z x : TimedEvent n m) (xs : List (TimedEvent n m)) → (pre ++ z ∷ x ∷ xs) ≡ (pre ++ z ∷ []) ++ x ∷ xs
  split-end [] z x xs = refl
  split-end (y ∷ pre) z x xs = ap (λ zs. y ∷ zs) (split-end pre z x xs)

  -- a cut breaks off what runs at its tick
  pub cut-here : (all pre : List (TimedEvent n m)) (x : TimedEvent n m) (xs : List (TimedEvent n m)) (tearing : Bool) (from to : ℕ) → all ≡ pre ++ x ∷ xs → x.happens ≡ Core (Cut tearing) → x.cancels ≡ false
      → from ≤ x.tick → x.tick ≤ to → is_broken rules (rows_from shape all all) from to ≡ true
  cut-here all pre x xs tearing from to same is c le lt =
      broken-there all pre x xs from to same
      (subst (λ (h : Happens n). is_broken rules (row_with shape all h x.tick x.cancels) from to ≡ true) (sym is)
      (subst (λ b. is_broken rules (row_with shape all (Core (Cut tearing)) x.tick b) from to ≡ true) (sym c) (cut_breaks all x.tick from to tearing le lt)))

  -- and so does the read behind a cancel
  pub read-behind : (pace : Pace) (e : ℕ) (all pre : List (TimedEvent n m)) (z x : TimedEvent n m) (xs : List (TimedEvent n m)) (from to : ℕ)
      → Lawful shape pace e all → all ≡ pre ++ z ∷ x ∷ xs → is_cancelling rules.policy ≡ true → x.cancels ≡ true → from ≤ x.tick → x.tick ≤ to → is_broken rules (rows_from shape all all) from to ≡ true
  read-behind pace e all pre z x xs from to l same cancelling c le lt =
      behind z.happens (lawful_before shape pace e pre (z ∷ x ∷ xs) (subst (λ (zs : List (TimedEvent n m)). Lawful shape pace e zs) same l)).0 refl
    where
      behind : (h : Happens n) → MayCome shape pace e (x ∷ xs) z h → z.happens ≡ h → is_broken rules (rows_from shape all all) from to ≡ true
      behind (Core event) may its =
          let read = is_read-same event x.tick z.tick (may.behind c) in
          broken-there all pre z (x ∷ xs) from to same
          (subst (λ (h : Happens n). is_broken rules (row_with shape all h z.tick z.cancels) from to ≡ true) (sym its)
          (read_breaks all event z.tick from to z.cancels cancelling read.1 (omega (arith, read.0)) (omega (arith, read.0))))
      behind (Regs event) may its = absurd (cc (may.behind, c))

  pub cut-broken : (pace : Pace) (e : ℕ) (all pre : List (TimedEvent n m)) (z x : TimedEvent n m) (xs : List (TimedEvent n m)) (tearing : Bool) (from to : ℕ)
      → Lawful shape pace e all → all ≡ pre ++ z ∷ x ∷ xs → x.happens ≡ Core (Cut tearing)
      → (IsTrue x.cancels → is_cancelling rules.policy ≡ true) → from ≤ x.tick → x.tick ≤ to → is_broken rules (rows_from shape all all) from to ≡ true
  cut-broken pace e all pre z x xs tearing from to l same is cancelling le lt = by x.cancels refl
    where
      by : (b : Bool) → x.cancels ≡ b → is_broken rules (rows_from shape all all) from to ≡ true
      by true c = read-behind pace e all pre z x xs from to l same (cancelling c) c le lt
      by false c = cut-here all (pre ++ z ∷ []) x xs tearing from to (same ∙ split-end pre z x xs) is c le lt
