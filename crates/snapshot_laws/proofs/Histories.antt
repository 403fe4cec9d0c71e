-- That no line's pulses fall as a history goes on, nor the spares that were given, and what sums and maxima make of that.
use Rattle.std.proofs.Common.{◌≡◌, ℕ, zero, suc, ◌+◌, ◌-◌, ◌*◌, ◌/◌, ◌%◌, ◌^◌, ◌<◌, ◌≤◌, ◌==◌, if◌then◌else◌, min, Bool, true, false, List, [], ◌∷◌, ◌++◌, length, length-append, arith}
use Rattle.std.proofs.lemmas.Nat.{div-add-mod', le-div}
use Rattle.cell_rows.specs.{Device.{ArrayState, counted}, Told.most}
use Rattle.bank_shape.specs.declared.answer.Step.{Step}
use Rattle.bank_shape.specs.declared.answer.Step.TheVariants as did
use Rattle.bank_model.specs.{Events.{BankEvent, Begin, Iterate}, History.retired, Sensing.{is_at, pulses_of}, Timing.{Happens, Core, TimedEvent, core, core_of}}
use Rattle.run_text.specs.Pulses.{at_most_u64, pulses_of_first}
use Rattle.wear_totals.specs.Wear.{mean_of}

-- ---- pulses

least-up : (p q cap : ℕ) → p ≤ q → q ≤ cap → p ≤ min (q + 1) cap
least-up p q cap below few = omega (arith, below, few)

least-few : (q cap : ℕ) → min (q + 1) cap ≤ cap
least-few q cap = omega arith

-- ---- spares, by one event

module _ {n : ℕ} where
  begun-retired : (answer : Step) (h : List (BankEvent n)) → length (retired h) ≤ length (retired (Begin answer ∷ h))
  begun-retired (did.Retired slot line) h = omega (arith, length-append (retired h) (slot ∷ []))
  begun-retired _ h = omega arith

  gone-retired : (answer : Step) (h : List (BankEvent n)) → length (retired h) ≤ length (retired (Iterate answer ∷ h))
  gone-retired (did.Retired slot line) h = omega (arith, length-append (retired h) (slot ∷ []))
  gone-retired _ h = omega arith

  one-retired : (happens : Happens n) (h : List (BankEvent n)) → length (retired h) ≤ length (retired (core_of happens h))
  one-retired (Core (Begin answer)) h = begun-retired answer h
  one-retired (Core (Iterate answer)) h = gone-retired answer h
  one-retired _ h = omega arith

-- ---- histories

module _ {n m : ℕ} where
  pulses-few : (xs : List (TimedEvent n m)) (line : ℕ) → pulses_of xs line ≤ 2 ^ 64 - 1
  pulses-few [] line = omega arith
  pulses-few (x ∷ xs) line = by (is_at x.pulsed line) (pulses-few xs line)
    where
      by : (b : Bool) → pulses_of xs line ≤ 2 ^ 64 - 1 → (if b then counted (pulses_of xs line) else pulses_of xs line) ≤ 2 ^ 64 - 1
      by true few = least-few (pulses_of xs line) (2 ^ 64 - 1)
      by false few = few

  -- a line's pulses don't fall
  pub pulses-on : (added xs : List (TimedEvent n m)) (line : ℕ) → pulses_of xs line ≤ pulses_of (added ++ xs) line
  pulses-on [] xs line = omega arith
  pulses-on (x ∷ added) xs line = by (is_at x.pulsed line) (pulses-on added xs line)
    where
      by : (b : Bool) → pulses_of xs line ≤ pulses_of (added ++ xs) line → pulses_of xs line ≤ (if b then counted (pulses_of (added ++ xs) line) else pulses_of (added ++ xs) line)
      by true le = least-up (pulses_of xs line) (pulses_of (added ++ xs) line) (2 ^ 64 - 1) le (pulses-few (added ++ xs) line)
      by false le = le

  -- the spares that were given don't fall
  pub retired-on : (added xs : List (TimedEvent n m)) → length (retired (core xs)) ≤ length (retired (core (added ++ xs)))
  retired-on [] xs = omega arith
  retired-on (x ∷ added) xs = omega (arith, retired-on added xs, one-retired x.happens (core (added ++ xs)))

  -- how many were given in so many banks
  abbrev pub given_in : (ℕ → List (TimedEvent n m)) → ℕ → ℕ
  given_in h zero = 0
  given_in h (suc banks) = given_in h banks + length (retired (core (h banks)))

  pub given-on : (added h : ℕ → List (TimedEvent n m)) (banks : ℕ) → given_in h banks ≤ given_in (λ bank. added bank ++ h bank) banks
  given-on added h zero = omega arith
  given-on added h (suc banks) = omega (arith, given-on added h banks, retired-on (added banks) (h banks))

  -- ---- sums

  pub sum-on : (one later : ArrayState n m) (lines : ℕ) → ((line : ℕ) → line < lines → (one.line line).pulses ≤ (later.line line).pulses) → pulses_of_first one lines ≤ pulses_of_first later lines
  unfolding pulses_of_first
  sum-on one later zero each = omega arith
  sum-on one later (suc lines) each =
      let rest = sum-on one later lines (λ line below. each line (omega (arith, below))) in
      let own : (one.line lines).pulses ≤ (later.line lines).pulses = each lines (omega arith) in
      omega (arith, rest, own)

pub most-on : (one later : ℕ → ℕ) (count : ℕ) → ((at : ℕ) → at < count → one at ≤ later at) → most one count ≤ most later count
unfolding most
most-on one later zero each = omega arith
most-on one later (suc count) each =
    let rest = most-on one later count (λ at below. each at (omega (arith, below))) in
    let own : one count ≤ later count = each count (omega arith) in
    omega (arith, rest, own)

up-to : (p q cap : ℕ) → p ≤ q → min p cap ≤ min q cap
up-to p q cap le = omega (arith, le)

pub u64-on : (p q : ℕ) → p ≤ q → at_most_u64 p ≤ at_most_u64 q
u64-on p q le = up-to p q (2 ^ 64 - 1) le

pub mean-on : (p q lines : ℕ) → p ≤ q → mean_of p lines ≤ mean_of q lines
mean-on p q zero le = omega arith
mean-on p q (suc lines) le = by (suc lines == 0)
  where
    by : (b : Bool) → (if b then 0 else p / suc lines) ≤ (if b then 0 else q / suc lines)
    by true = omega arith
    by false =
        let whole : p / suc lines * suc lines + p % suc lines ≡ p = div-add-mod' p (suc lines) in
        le-div (p / suc lines) q (suc lines) (omega arith) (omega (arith, whole, le))
