-- A pulse or a tear leaves stuck what was stuck, and its cells stick no earlier than they endure.
use Rattle.std.proofs.Common.{◌≡◌, ◌⊎◌, inl, inr, ℕ, ◌+◌, ◌≤◌, Bool, true, false, refl, arith}
use Rattle.std.specs.Prelude.{IsFalse}
use Rattle.cell_rows.specs.{Device.{CellBounds, LineState, IsCellKept, CellPulsed, CellTorn, DeviceStep, TornStep}, Rows.cell, declared.row.Cells.Cells}
use Rattle.bank_model.specs.Touching.{Sticks, Strikes}

module _ {n m : ℕ} (bounds : CellBounds) (mask : Cells n m) (old new : LineState n m) where
  -- a cell that ends live isn't stuck
  torn-late : (c : ℕ) → new.stuck c ≡ true → CellTorn bounds old new c → bounds.endures ≤ new.pulses
  torn-late c is (inl live) = absurd (cc (is, live.0))
  torn-late c is (inr stuck) = stuck.2

  pulsed-late : (want : Cells n m) (c : ℕ) → new.stuck c ≡ true → CellPulsed bounds want old new c → bounds.endures ≤ new.pulses
  pulsed-late want c is (inl live) = absurd (cc (is, live.0))
  pulsed-late want c is (inr (inl live)) = absurd (cc (is, live.0))
  pulsed-late want c is (inr (inr stuck)) = stuck.2

  pub sticks-pulsed : (want : Cells n m) → DeviceStep bounds mask want old new → Sticks bounds old new
  sticks-pulsed want step = record { stays = λ c is. (step.stuck c is).0; late = λ c live is. by c live is (cell mask c) refl }
    where
      by : (c : ℕ) → old.stuck c ≡ false → new.stuck c ≡ true → (b : Bool) → cell mask c ≡ b → bounds.endures ≤ new.pulses
      by c live is true on = pulsed-late want c is (step.live c on live)
      by c live is false off = absurd (cc (is, live, (step.unmasked c off).stuck))

  pub sticks-torn : TornStep bounds mask old new → Sticks bounds old new
  sticks-torn step = record { stays = λ c is. (step.stuck c is).0; late = λ c live is. by c live is (cell mask c) refl }
    where
      by : (c : ℕ) → old.stuck c ≡ false → new.stuck c ≡ true → (b : Bool) → cell mask c ≡ b → bounds.endures ≤ new.pulses
      by c live is true on = torn-late c is (step.live c on live)
      by c live is false off = absurd (cc (is, live, (step.unmasked c off).stuck))

  -- on a line with no cell stuck, where the cells in the mask have missed so often
  module _ (missed : ℕ) (were : (c : ℕ) → old.stuck c ≡ false) (tried : (c : ℕ) → cell mask c ≡ true → missed ≤ old.misses c) where
    -- what becomes of a cell that is live then
    abbrev Live : Bool → ℕ → Type 0
    Live tearing c =
        ((new.spent c ≤ old.spent c) × (new.misses c ≤ old.misses c + 1))
        ⊎ ((missed ≤ old.misses c) × (new.spent c ≤ old.spent c + 1) × (IsFalse tearing → new.misses c ≡ 0))

    kept-live : (tearing : Bool) (c : ℕ) → IsCellKept old new c → Live tearing c
    kept-live tearing c kept = inl (omega (arith, kept.spent), omega (arith, kept.misses))

    pulsed-live : (want : Cells n m) (c : ℕ) → new.stuck c ≡ false → missed ≤ old.misses c → CellPulsed bounds want old new c → Live false c
    pulsed-live want c is often (inl (live, value, misses, spent)) = inr (often, spent, λ whole. misses)
    pulsed-live want c is often (inr (inl (live, value, misses, few, spent))) = inl (spent, omega (arith, misses))
    pulsed-live want c is often (inr (inr stuck)) = absurd (cc (is, stuck.0))

    torn-live : (c : ℕ) → new.stuck c ≡ false → missed ≤ old.misses c → CellTorn bounds old new c → Live true c
    torn-live c is often (inl (live, few, spent)) = inr (often, spent, λ whole. absurd (cc (whole)))
    torn-live c is often (inr stuck) = absurd (cc (is, stuck.0))

    pulsed-last : (want : Cells n m) (c : ℕ) → new.stuck c ≡ true → CellPulsed bounds want old new c → bounds.endures ≤ old.spent c + 1
    pulsed-last want c is (inl live) = absurd (cc (is, live.0))
    pulsed-last want c is (inr (inl live)) = absurd (cc (is, live.0))
    pulsed-last want c is (inr (inr stuck)) = stuck.1

    torn-last : (c : ℕ) → new.stuck c ≡ true → CellTorn bounds old new c → bounds.endures ≤ old.spent c + 1
    torn-last c is (inl live) = absurd (cc (is, live.0))
    torn-last c is (inr stuck) = stuck.1

    pub strikes-pulsed : (want : Cells n m) → DeviceStep bounds mask want old new → Strikes bounds missed false old new
    strikes-pulsed want step = record { live = λ c is. live c is (cell mask c) refl; stuck = λ c is. last c is (cell mask c) refl }
      where
        live : (c : ℕ) → new.stuck c ≡ false → (b : Bool) → cell mask c ≡ b → Live false c
        live c is true on = pulsed-live want c is (tried c on) (step.live c on (were c))
        live c is false off = kept-live false c (step.unmasked c off)

        last : (c : ℕ) → new.stuck c ≡ true → (b : Bool) → cell mask c ≡ b → (missed ≤ old.misses c) × (bounds.endures ≤ old.spent c + 1)
        last c is true on = (tried c on, pulsed-last want c is (step.live c on (were c)))
        last c is false off = absurd (cc (is, were c, (step.unmasked c off).stuck))

    pub strikes-torn : TornStep bounds mask old new → Strikes bounds missed true old new
    strikes-torn step = record { live = λ c is. live c is (cell mask c) refl; stuck = λ c is. last c is (cell mask c) refl }
      where
        live : (c : ℕ) → new.stuck c ≡ false → (b : Bool) → cell mask c ≡ b → Live true c
        live c is true on = torn-live c is (tried c on) (step.live c on (were c))
        live c is false off = kept-live true c (step.unmasked c off)

        last : (c : ℕ) → new.stuck c ≡ true → (b : Bool) → cell mask c ≡ b → (missed ≤ old.misses c) × (bounds.endures ≤ old.spent c + 1)
        last c is true on = (tried c on, torn-last c is (step.live c on (were c)))
        last c is false off = absurd (cc (is, were c, (step.unmasked c off).stuck))
