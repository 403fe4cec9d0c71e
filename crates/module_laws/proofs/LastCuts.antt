-- Where the last row is a power cut, at whose tick the bank still stands, its history ends with that cut.
use Rattle.std.proofs.Common.{◌≡◌, ℕ, ◌<◌, ◌≤◌, Bool, true, false, List, [], ◌∷◌, refl, sym, ap, ◌∙◌, arith}
use Rattle.std.proofs.lemmas.Bool.{false_from_ne_true}
use Rattle.row_rules.specs.{declared.Asks.Asks, declared.Asks.TheVariants.{Reads, Writes, Cuts}}
use Rattle.bank_shape.specs.{declared.BankShape.BankShape, declared.pace.Pace.Pace}
use Rattle.bank_model.specs.{Events.{BankEvent, Write, Read, Cut}, Lawful.{Lawful, MayCome, FollowsCancel, IsUncancelled, IsRead}}
use Rattle.bank_model.specs.{Timing.{Happens, Core, Regs, KeepCut, TimedEvent, last_tick}, Told.IsWhole}
use Rattle.bank_laws.{specs.Resting.IsCutOff, specs.Ticks.ends_action, proofs.Ticks.last-below}
use Rattle.module_laws.specs.{Asking.{Asked, IsAsked, AreAsked}, Serves.LastCutLaw}

module _ {n m : ℕ} (shape : BankShape) (pace : Pace) (e : ℕ) (r : 1 ≤ pace.read) (i : 1 ≤ pace.iter) where
  whole-core : (xs : List (TimedEvent n m)) (at : ℕ) (event : BankEvent n) → FollowsCancel shape pace xs at event → ((tick : ℕ) → IsRead tick at event → ⊥) → IsWhole xs
  whole-core [] at event f differs = tt
  whole-core (y ∷ ys) at event f differs = false_from_ne_true y.cancels (λ t. differs y.tick (f t))

  whole-regs : (xs : List (TimedEvent n m)) → IsUncancelled shape pace xs → IsWhole xs
  whole-regs [] u = tt
  whole-regs (y ∷ ys) u = u

  pub cut-last : (xs : List (TimedEvent n m)) (a : Asked n) (asked : List (Asked n)) → Lawful shape pace e xs → IsWhole xs → AreAsked xs (a ∷ asked) → a.asks ≡ Cuts
      → last_tick xs ≤ a.tick → IsCutOff xs × (last_tick xs ≡ a.tick)
  cut-last [] a asked l w are is le = absurd (cc)
  cut-last (x ∷ xs) a asked l w are is le = by (λ whole past low. cut-last xs a asked l.1 whole past is low) x.happens x.cancels refl refl l.0 are
    where
      Last : Type 0
      Last = IsCutOff (x ∷ xs) × (x.tick ≡ a.tick)

      Before : Type 0
      Before = IsWhole xs → AreAsked xs (a ∷ asked) → last_tick xs ≤ a.tick → IsCutOff xs × (last_tick xs ≡ a.tick)

      ended : Before → ends_action x.happens ≡ true → IsWhole xs → AreAsked xs (a ∷ asked) → Last
      ended before ends whole past =
          let lt : last_tick xs < x.tick = last-below shape pace e xs x r i l ends in
          let k = before whole past (omega (arith, lt, le)) in
          absurd (omega (arith, lt, le, k.1))

      by : Before → (h : Happens n) (c : Bool) → x.happens ≡ h → x.cancels ≡ c → MayCome shape pace e xs x h → IsAsked h c x.tick (AreAsked xs) (a ∷ asked) → Last
      by before (Core (Write row line bytes given answer)) c hs cs may past = let clash : ◌≡◌ {A = Asks n} (Writes line bytes given) Cuts = sym (ap (λ (q : Asked n). q.asks) past.0) ∙ is in absurd (cc)
      by before (Core (Read row line answer)) c hs cs may past = let clash : ◌≡◌ {A = Asks n} (Reads line) Cuts = sym (ap (λ (q : Asked n). q.asks) past.0) ∙ is in absurd (cc)
      by before (Core (Cut tearing)) false hs cs may past = ((tearing, hs, cs), sym past.0)
      by before (Core (Cut tearing)) true hs cs may past = absurd (cc (w, cs))
      by before (Core event) c hs cs may past = ended before (ap ends_action hs) (whole-core xs x.tick event may.behind (λ tick bad. bad)) past
      by before (Regs (KeepCut tearing)) c hs cs may past = absurd (cc (w, may.on_time.2))
      by before (Regs _) c hs cs may past = ended before (ap ends_action hs) (whole-regs xs may.behind) past

pub last_cut_law : LastCutLaw
last_cut_law n m e shape pace xs a asked r i l w are is le = (cut-last shape pace e r i xs a asked l w are is le).0
