-- How the lines of a bank age over one event.
use Rattle.std.proofs.Common.{◌≡◌, ◌⊎◌, inl, inr, ℕ, ◌+◌, ◌-◌, ◌^◌, ◌<◌, ◌≤◌, ◌==◌, ◌&&◌, not, Bool, true, false, List, [], ◌∷◌, Option, Some, None, min, refl, sym, ap, ◌∙◌, subst, arith, cond}
use Rattle.std.{specs.Prelude.IsFalse, proofs.lemmas.Bool.cases_lt}
use Rattle.cell_rows.specs.Device.{CellBounds, LineState, ArrayState, IsBlank, counted}
use Rattle.bank_shape.specs.{Shape.{slots_of, lines_in, controls_from}, declared.BankShape.BankShape, declared.pace.Pace.Pace}
use Rattle.bank_model.specs.{After.target_after, Aging.{Ages, Endures, MissesUnspent, AreAged, most_aged}, Answers.MayAll, Changes.change_after}
use Rattle.bank_model.specs.{Events.{BankEvent, Begin, Iterate, Cut}, History.{goes_on, in_progress, iterated}, Lawful.MayCome, Running.running_at}
use Rattle.bank_model.specs.{Sensing.{is_at, most_steps, pulsed_by, torn_control}, Timing.{TimedEvent, Happens, Core, Regs, core, core_of}}
use Rattle.bank_model.specs.{Touching.{Sticks, Strikes, AreStruck, Touches, breaks_off}, Works.{works_on, held_on}}
use Rattle.bank_laws.proofs.{Counted.{counted-cases, pulses-few}, Targets.{WorkAfter, spares_work, working, target-same}}
use Rattle.bank_laws.proofs.Works.{tearing-going, kept-elsewhere, torn-elsewhere, idle-held, busy-held, held-same, going-held}
use Rattle.place_laws.proofs.Pulsing.{begins-idle}
use Rattle.clock_laws.proofs.Ranges.{ArePulses}

-- an event of the bank strikes its line so; one of a change strikes a control line
abbrev pub IsStruckBy : {n m : ℕ} → BankShape → List (BankEvent n) → Happens n → Option ℕ → ArrayState n m → ArrayState n m → Type 0
IsStruckBy shape h (Core event) pulsed old new = AreStruck shape h event pulsed old new
IsStruckBy shape h (Regs event) pulsed old new = Unit {0}

-- One line

-- a line has aged by so many line writes that ended on it, while that in progress has had so many iterations
pub record IsAged {n m : ℕ} (bounds : CellBounds) (works held : ℕ) (line : LineState n m) : Type 0 where
  pub age : Ages bounds (works + min held 1) line
  pub missed : MissesUnspent held works line

module _ {n m : ℕ} (bounds : CellBounds) (old new : LineState n m) where
  -- a cell that a pulse or a tear leaves live was live
  was-live : Sticks bounds old new → ((c : ℕ) → new.stuck c ≡ false) → (c : ℕ) → old.stuck c ≡ false
  was-live sticks none c = by (old.stuck c) refl
    where
      by : (b : Bool) → old.stuck c ≡ b → old.stuck c ≡ false
      by true is = absurd (cc (sticks.stays c is, none c))
      by false is = is

  module _ (works held : ℕ) (tearing : Bool) (sticks : Sticks bounds old new) (strikes : ((c : ℕ) → old.stuck c ≡ false) → Strikes bounds held tearing old new)
      (aged : IsAged bounds works held old) where
    -- a line write on the line that is pulsed or torn has spent one change of a cell at most
    struck-once : Ages bounds (works + 1) new
    struck-once = record {
      live = λ none c. spent (was-live sticks none) c (none c);
      stuck = λ c is. elim (cases_lt (works + 1) bounds.endures) [
        | inl less ↦
            let were : (c : ℕ) → old.stuck c ≡ false = were-live less in
            let hit = (strikes were).stuck c is in
            absurd (omega (arith, hit.1, aged.missed were c hit.0, less))
        | inr most ↦ most
      ];
    }
      where
        by : (were : (c : ℕ) → old.stuck c ≡ false) (c : ℕ)
            → ((new.spent c ≤ old.spent c) × (new.misses c ≤ old.misses c + 1)) ⊎ ((held ≤ old.misses c) × (new.spent c ≤ old.spent c + 1) × (IsFalse tearing → new.misses c ≡ 0))
            → new.spent c ≤ works + 1
        by were c (inl kept) = omega (arith, kept.0, aged.age.live were c)
        by were c (inr changed) = omega (arith, changed.1, aged.missed were c changed.0)

        spent : ((c : ℕ) → old.stuck c ≡ false) → (c : ℕ) → new.stuck c ≡ false → new.spent c ≤ works + 1
        spent were c live = by were c ((strikes were).live c live)

        were-live : works + 1 < bounds.endures → (c : ℕ) → old.stuck c ≡ false
        were-live less c = so (old.stuck c) refl
          where
            so : (b : Bool) → old.stuck c ≡ b → old.stuck c ≡ false
            so true is = let early : bounds.endures ≤ works + min held 1 = aged.age.stuck c is in absurd (omega (arith, early, less))
            so false is = is

    -- it has ended
    pub struck-ended : IsAged bounds (works + 1) 0 new
    struck-ended = record {
      age = record { live = λ none c. omega (arith, struck-once.live none c); stuck = λ c is. omega (arith, struck-once.stuck c is) };
      missed = λ none c often. struck-once.live none c;
    }

    -- or it goes on
    pub struck-going : IsFalse tearing → IsAged bounds works (held + 1) new
    struck-going whole = record {
      age = record { live = λ none c. omega (arith, struck-once.live none c); stuck = λ c is. omega (arith, struck-once.stuck c is) };
      missed = λ none c often. let were = was-live sticks none in by were c often ((strikes were).live c (none c));
    }
      where
        by : (were : (c : ℕ) → old.stuck c ≡ false) (c : ℕ) → held + 1 ≤ new.misses c
            → ((new.spent c ≤ old.spent c) × (new.misses c ≤ old.misses c + 1)) ⊎ ((held ≤ old.misses c) × (new.spent c ≤ old.spent c + 1) × (IsFalse tearing → new.misses c ≡ 0))
            → new.spent c ≤ works
        by were c often (inl kept) = omega (arith, kept.0, aged.missed were c (omega (arith, often, kept.1)))
        by were c often (inr changed) = absurd (omega (arith, often, changed.2 whole))

  -- and it endures as before
  pub endures-pulsed : Sticks bounds old new → old.pulses ≤ new.pulses → Endures bounds old → Endures bounds new
  endures-pulsed sticks more endures c is = by (old.stuck c) refl
    where
      by : (b : Bool) → old.stuck c ≡ b → bounds.endures ≤ new.pulses
      by true was = let early : bounds.endures ≤ old.pulses = endures c was in omega (arith, early, more)
      by false was = sticks.late c was is

-- a line that stays
module _ {n m : ℕ} (bounds : CellBounds) (works held : ℕ) (line : LineState n m) (aged : IsAged bounds works held line) where
  -- with the line write as it was
  pub aged-as : (next now : ℕ) → next ≡ works → now ≡ held → IsAged bounds next now line
  aged-as next now same alike =
      subst (λ (k : ℕ). IsAged bounds k now line) (sym same) (subst (λ (k : ℕ). IsAged bounds works k line) (sym alike) aged)

  -- or after one has ended
  pub aged-ended : (next : ℕ) → works + min held 1 ≤ next → IsAged bounds next 0 line
  aged-ended next more = record {
    age = record { live = λ none c. omega (arith, aged.age.live none c, more); stuck = λ c is. omega (arith, aged.age.stuck c is, more) };
    missed = λ none c often. omega (arith, aged.age.live none c, more);
  }

-- One event

module _ {n m : ℕ} (shape : BankShape) (pace : Pace) (e at : ℕ) (low : at < controls_from shape) (xs : List (TimedEvent n m)) (x : TimedEvent n m) (bounds : CellBounds) (old new : LineState n m)
    (past : MayAll shape (most_steps e) (core xs)) (same : is_at x.pulsed at ≡ false → new ≡ old)
    (sticks : is_at x.pulsed at ≡ true → Sticks bounds old new)
    (aged : IsAged bounds (works_on shape at (core xs)) (held_on shape at (core xs)) old) where
  abbrev works : ℕ
  works = works_on shape at (core xs)

  -- the line, as the event goes on
  abbrev Next : BankEvent n → Type 0
  Next event = IsAged bounds (works_on shape at (event ∷ core xs)) (held_on shape at (event ∷ core xs)) new

  -- if the event pulses it, the cells that it strikes have missed in every iteration
  abbrev IsStruck : Happens n → Type 0
  IsStruck (Core event) = is_at x.pulsed at ≡ true → ((c : ℕ) → old.stuck c ≡ false) → Strikes bounds (iterated (core xs)) (breaks_off event) old new
  IsStruck (Regs event) = Unit {0}

  -- it doesn't pulse this line
  untouched : (o : Option ℕ) → x.pulsed ≡ o → is_at o at ≡ false → (next now : ℕ) → IsAged bounds next now old → IsAged bounds next now new
  untouched o is off next now is_aged =
      subst (λ (line : LineState n m). IsAged bounds next now line) (sym (same (ap (λ o. is_at o at) is ∙ off))) is_aged

  -- an event that goes past the line write in progress
  quiet : (event : BankEvent n) → spares_work event ≡ true → x.pulsed ≡ None → in_progress (event ∷ core xs) ≡ in_progress (core xs) → iterated (event ∷ core xs) ≡ iterated (core xs)
      → works_on shape at (event ∷ core xs) ≡ works → Next event
  quiet event spares none busy count counts =
      untouched None none refl (works_on shape at (event ∷ core xs)) (held_on shape at (event ∷ core xs))
      (aged-as bounds works (held_on shape at (core xs)) old aged (works_on shape at (event ∷ core xs)) (held_on shape at (event ∷ core xs)) counts
      (held-same shape at (core xs) (most_steps e) event past spares busy count))

  -- with none in progress on the line, one more or none has ended
  idle-ended : (b : Bool) → held_on shape at (core xs) ≡ 0 → IsAged bounds (cond b 1 0 + works) 0 old
  idle-ended true none = aged-ended bounds works (held_on shape at (core xs)) old aged (1 + works) (omega (arith, none))
  idle-ended false none = aged-ended bounds works (held_on shape at (core xs)) old aged (0 + works) (omega (arith, none))

  more-works : IsAged bounds (works + 1) 0 new → IsAged bounds (1 + works) 0 new
  more-works is = let turned : works + 1 ≡ 1 + works = omega arith in subst (λ (k : ℕ). IsAged bounds k 0 new) turned is

  same-works : (held : ℕ) → IsAged bounds works held new → IsAged bounds (0 + works) held new
  same-works held is = let same : works ≡ 0 + works = omega arith in subst (λ (k : ℕ). IsAged bounds k held new) same is

  -- an iteration of this line, or of another one
  stepped : (going here : Bool) (k : ℕ) (o : Option ℕ) → x.pulsed ≡ o → is_at o at ≡ here → held_on shape at (core xs) ≡ cond here k 0
      → (is_at x.pulsed at ≡ true → ((c : ℕ) → old.stuck c ≡ false) → Strikes bounds k false old new)
      → IsAged bounds (cond (not going && here) 1 0 + works) (cond (going && here) (k + 1) 0) new
  stepped going here k o is on held strikes = grind arith

  -- a cut
  broken : (busy tearing here : Bool) (k : ℕ) (o : Option ℕ) → x.pulsed ≡ o → is_at o at ≡ (tearing && here) → held_on shape at (core xs) ≡ cond (busy && here) k 0
      → (tearing ≡ true → busy ≡ true) → (is_at x.pulsed at ≡ true → ((c : ℕ) → old.stuck c ≡ false) → Strikes bounds k true old new)
      → IsAged bounds (cond (busy && here) 1 0 + works) 0 new
  broken busy tearing here k o is on held tears strikes = grind arith

  pub ages-next : (h : Happens n) → MayCome shape pace e xs x h → IsStruck h
      → IsAged bounds (works_on shape at (core_of h (core xs))) (held_on shape at (core_of h (core xs))) new
  ages-next (Core (Begin answer)) may strikes =
      untouched None may.pulsed refl (works_on shape at (Begin answer ∷ core xs)) (held_on shape at (Begin answer ∷ core xs))
      (subst (λ (k : ℕ). IsAged bounds (works_on shape at (Begin answer ∷ core xs)) k old) (sym (none_held (goes_on answer && (target_after shape (Begin answer ∷ core xs) == at))))
      (idle-ended (not (goes_on answer) && (target_after shape (core xs) == at)) (idle-held shape at (core xs) (begins-idle shape (core xs) may.may.0))))
    where
      none_held : (b : Bool) → cond {A = ℕ} b 0 0 ≡ 0
      none_held b = grind arith
  ages-next (Core (Iterate answer)) may strikes =
      let busy : in_progress (core xs) ≡ true = may.may.0 in
      let work : WorkAfter shape (core xs) = working shape (most_steps e) (core xs) past busy in
      let held : cond (goes_on answer && (target_after shape (Iterate answer ∷ core xs) == at)) (iterated (core xs) + 1) 0
      ≡ cond (goes_on answer && (target_after shape (core xs) == at)) (iterated (core xs) + 1) 0 =
      going-held shape at (core xs) (Iterate answer) answer (iterated (core xs) + 1) (λ goes. (target-same shape (Iterate answer) (core xs) goes work).1) in
      subst (λ k. IsAged bounds (works_on shape at (Iterate answer ∷ core xs)) k new) (sym held)
      (stepped (goes_on answer) (target_after shape (core xs) == at) (iterated (core xs)) (Some (target_after shape (core xs))) may.pulsed refl
      (busy-held shape at (core xs) busy) strikes)
  ages-next (Core (Cut tearing)) may strikes =
      broken (in_progress (core xs)) tearing (target_after shape (core xs) == at) (iterated (core xs)) (pulsed_by shape (core xs) control (Cut tearing)) may.pulsed (struck_by tearing)
      refl (tearing-going tearing (in_progress (core xs)) may.may) strikes
    where
      control : Option ℕ
      control = torn_control shape (change_after shape xs) (running_at shape pace xs x.tick)

      struck_by : (b : Bool) → is_at (pulsed_by shape (core xs) control (Cut b)) at ≡ (b && (target_after shape (core xs) == at))
      struck_by true = refl
      struck_by false = torn-elsewhere shape at low (change_after shape xs) (running_at shape pace xs x.tick)
  ages-next (Core event) may strikes = quiet event refl may.pulsed refl refl refl
  ages-next (Regs event) may strikes = untouched _ may.pulsed (kept-elsewhere shape at low (change_after shape xs) event) works (held_on shape at (core xs)) aged

-- The lines of a bank

-- with a count below the greatest, one more pulse is no less
counted-more : (k : ℕ) → k ≤ 2 ^ 64 - 1 → k ≤ counted k
counted-more k few = elim (counted-cases k few) [ inl same ↦ omega (arith, same) | inr more ↦ omega (arith, more) ]

module _ {n m : ℕ} (shape : BankShape) (pace : Pace) (e : ℕ) (xs : List (TimedEvent n m)) (x : TimedEvent n m) (sensed : List ℕ) (tearing : Bool) (old new : ArrayState n m)
    (past : MayAll shape (most_steps e) (core xs)) (are : ArePulses shape xs old) (touches : Touches x.tick sensed x.pulsed tearing old new)
    (comes : MayCome shape pace e xs x x.happens) (strikes : IsStruckBy shape (core xs) x.happens x.pulsed old new)
    (was : AreAged shape (core xs) old) where
  endure-next : (line : ℕ) → line < lines_in shape → Endures old.bounds (new.line (shape.base + line))
  endure-next line below = by (is_at x.pulsed (shape.base + line)) refl
    where
      by : (b : Bool) → is_at x.pulsed (shape.base + line) ≡ b → Endures old.bounds (new.line (shape.base + line))
      by true is =
          let few : (old.line (shape.base + line)).pulses ≤ 2 ^ 64 - 1 = subst (λ k. k ≤ 2 ^ 64 - 1) (sym (are line below)) (pulses-few xs (shape.base + line)) in
          endures-pulsed old.bounds (old.line (shape.base + line)) (new.line (shape.base + line)) (touches.sticks (shape.base + line) is)
          (subst (λ k. (old.line (shape.base + line)).pulses ≤ k) (sym (touches.pulses (shape.base + line) is)) (counted-more (old.line (shape.base + line)).pulses few))
          (was.endure line below)
      by false is = subst (λ (l : LineState n m). Endures old.bounds l) (sym (touches.others (shape.base + line) is)) (was.endure line below)

  age-next : (line : ℕ) → line < slots_of shape + shape.spares
      → IsAged old.bounds (works_on shape (shape.base + line) (core (x ∷ xs))) (held_on shape (shape.base + line) (core (x ∷ xs))) (new.line (shape.base + line))
  age-next line below = by x.happens comes strikes
    where
      low : shape.base + line < controls_from shape
      low = omega (arith, below)

      by : (h : Happens n) → MayCome shape pace e xs x h → IsStruckBy shape (core xs) h x.pulsed old new
          → IsAged old.bounds (works_on shape (shape.base + line) (core_of h (core xs))) (held_on shape (shape.base + line) (core_of h (core xs))) (new.line (shape.base + line))
      by h may strikes =
          ages-next shape pace e (shape.base + line) low xs x old.bounds (old.line (shape.base + line)) (new.line (shape.base + line)) past
          (touches.others (shape.base + line)) (touches.sticks (shape.base + line))
          (record { age = was.age line below; missed = was.missed line below }) h may (struck h strikes)
        where
          struck : (h : Happens n) → IsStruckBy shape (core xs) h x.pulsed old new
              → IsStruck shape pace e (shape.base + line) low xs x old.bounds (old.line (shape.base + line)) (new.line (shape.base + line)) past
              (touches.others (shape.base + line)) (touches.sticks (shape.base + line)) (record { age = was.age line below; missed = was.missed line below }) h
          struck (Core event) strikes = strikes line below
          struck (Regs event) strikes = tt

  pub aged-next : AreAged shape (core (x ∷ xs)) new
  aged-next = record {
    endure = λ line below. subst (λ (bounds : CellBounds). Endures bounds (new.line (shape.base + line))) (sym touches.bounds) (endure-next line below);
    age = λ line below.
        subst (λ (bounds : CellBounds). Ages bounds (most_aged shape (shape.base + line) (core (x ∷ xs))) (new.line (shape.base + line))) (sym touches.bounds)
        (age-next line below).age;
    missed = λ line below. (age-next line below).missed;
  }

-- over another array in which each line of the bank is the same, and cells keep to the same bounds
pub aged-same : {n m : ℕ} (shape : BankShape) (h : List (BankEvent n)) (old new : ArrayState n m) → new.bounds ≡ old.bounds
    → ((line : ℕ) → line < lines_in shape → new.line (shape.base + line) ≡ old.line (shape.base + line)) → AreAged shape h old → AreAged shape h new
aged-same {n} {m} shape h old new bounds same was = record {
  endure = λ line below.
      subst (λ (bounds : CellBounds). Endures bounds (new.line (shape.base + line))) (sym bounds)
      (subst (λ (l : LineState n m). Endures old.bounds l) (sym (same line below)) (was.endure line below));
  age = λ line below.
      subst (λ (bounds : CellBounds). Ages bounds (most_aged shape (shape.base + line) h) (new.line (shape.base + line))) (sym bounds)
      (subst (λ (l : LineState n m). Ages old.bounds (most_aged shape (shape.base + line) h) l) (sym (same line (omega (arith, below)))) (was.age line below));
  missed = λ line below.
      subst (λ (l : LineState n m). MissesUnspent (held_on shape (shape.base + line) h) (works_on shape (shape.base + line) h) l)
      (sym (same line (omega (arith, below)))) (was.missed line below);
}

-- lines that were never pulsed
pub aged-first : {n m : ℕ} (shape : BankShape) (array : ArrayState n m) → ((line : ℕ) → line < lines_in shape → IsBlank (array.line (shape.base + line))) → AreAged {n = n} shape [] array
aged-first shape array blank = record {
  endure = λ line below c is. absurd (cc (is, (blank line below).stuck c));
  age = λ line below.
      let fresh = blank line (omega (arith, below)) in
      record { live = λ none c. omega (arith, fresh.spent c); stuck = λ c is. absurd (cc (is, fresh.stuck c)) };
  missed = λ line below none c often. let fresh = blank line (omega (arith, below)) in omega (arith, fresh.spent c);
}
