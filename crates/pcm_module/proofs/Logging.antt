-- The senses of a bank's history are those of its lines in the log.
use Rattle.std.proofs.Common.{◌≡◌, ◌⊎◌, ℕ, ◌+◌, ◌<◌, ◌≤◌, ◌&&◌, Bool, true, false, cond, List, [], ◌∷◌, ◌++◌, refl, sym, ap, subst, ◌∙◌, inl, inr, append_assoc, append-nil, arith}
use Rattle.std.{specs.Prelude.{All, nat_le, nat_lt}, proofs.lemmas.Bool.{le-leb, lt-ltb, leb-true, and_from}, proofs.lemmas.List.Elements.{All-head, All-tail, filter-append}}
use Rattle.masked_bytes.proofs.Truth.{and_first, and_second}
use Rattle.cell_rows.specs.{Device.ArrayState, declared.array.Sense.Sense}
use Rattle.bank_shape.specs.{Shape.{lines_in, IsIn}, declared.BankShape.BankShape}
use Rattle.bank_model.specs.{Adding.{Adds, senses_of}, Timing.TimedEvent}
use Rattle.bank_laws.specs.Laws.{log_of}
use Rattle.clock_laws.specs.{Leads.Leads, State.ClockState}
use Rattle.log_laws.proofs.Within.{within_law}
use Rattle.pcm_module.specs.Replaying.{IsLogged}

-- no line of another bank is one of this
abbrev pub AreOff : BankShape → BankShape → Type 0
AreOff shape other = (line : ℕ) → IsIn other line → (line < shape.base) ⊎ (shape.base + lines_in shape ≤ line)

module _ {n m : ℕ} (shape : BankShape) where
  -- a sense of a line of the bank
  abbrev pub IsOwnSense : Sense n m → Type 0
  IsOwnSense s = IsIn shape s.line

  log_own : (senses : List (Sense n m)) → All IsOwnSense senses → log_of shape senses ≡ senses
  log_own [] own = refl
  log_own (s ∷ senses) own =
      let here : IsIn shape s.line = All-head IsOwnSense s senses own in
      ap (λ (b : Bool). cond b (s ∷ log_of shape senses) (log_of shape senses))
      (and_from (nat_le shape.base s.line) _ (le-leb shape.base s.line here.0) (lt-ltb s.line (shape.base + lines_in shape) here.1))
      ∙ ap (λ (rest : List (Sense n m)). s ∷ rest) (log_own senses (All-tail IsOwnSense s senses own))

  log_off : (other : BankShape) → AreOff shape other → (senses : List (Sense n m)) → All IsOwnSense senses → log_of other senses ≡ []
  log_off other off [] own = refl
  log_off other off (s ∷ senses) own =
      by (All-head IsOwnSense s senses own) (nat_le other.base s.line && nat_lt s.line (other.base + lines_in other)) refl (log_off other off senses (All-tail IsOwnSense s senses own))
    where
      by : IsIn shape s.line → (b : Bool) → (nat_le other.base s.line && nat_lt s.line (other.base + lines_in other)) ≡ b → log_of other senses ≡ []
          → cond b (s ∷ log_of other senses) (log_of other senses) ≡ []
      by here false is rest = rest
      by here true is rest =
          let low : other.base ≤ s.line = leb-true other.base s.line (and_first (nat_le other.base s.line) _ is) in
          let high : s.line + 1 ≤ other.base + lines_in other = omega (arith, leb-true _ _ (and_second (nat_le other.base s.line) _ is)) in
          elim (off s.line (low, omega arith)) [ inl below ↦ absurd (omega (arith, here.0)) | inr above ↦ absurd (omega (arith, here.1)) ]

senses-append : {n m : ℕ} (added xs : List (TimedEvent n m)) → senses_of (added ++ xs) ≡ senses_of xs ++ senses_of added
senses-append [] xs = sym (append-nil (senses_of xs))
senses-append (x ∷ added) xs = ap (λ s. s ++ x.senses) (senses-append added xs) ∙ append_assoc (senses_of xs) (senses_of added) x.senses

module _ {n m : ℕ} (shape : BankShape) (added : List (TimedEvent n m)) (old new : ArrayState n m) (adds : Adds shape added old new) (own : All (IsOwnSense shape) (senses_of added)) where
  -- the log of a bank gains the senses of its events
  pub logged_own : (xs : List (TimedEvent n m)) → IsLogged shape xs old → IsLogged shape (added ++ xs) new
  logged_own xs logged log told =
      let was = adds.log log told in
      ap (λ (l : List (Sense n m)). log_of shape l) was.2
      ∙ filter-append (λ s. nat_le shape.base s.line && nat_lt s.line (shape.base + lines_in shape)) was.0 (senses_of added)
      ∙ ap (λ (l : List (Sense n m)). l ++ log_of shape (senses_of added)) (logged was.0 was.1)
      ∙ ap (λ (l : List (Sense n m)). senses_of xs ++ l) (log_own shape (senses_of added) own)
      ∙ sym (senses-append added xs)

  -- that of another bank stays
  pub logged_off : (other : BankShape) (xs : List (TimedEvent n m)) → AreOff shape other → IsLogged other xs old → IsLogged other xs new
  logged_off other xs off logged log told =
      let was = adds.log log told in
      ap (λ (l : List (Sense n m)). log_of other l) was.2
      ∙ filter-append (λ s. nat_le other.base s.line && nat_lt s.line (other.base + lines_in other)) was.0 (senses_of added)
      ∙ ap (λ (l : List (Sense n m)). l ++ log_of other (senses_of added)) (logged was.0 was.1)
      ∙ ap (λ (l : List (Sense n m)). senses_of xs ++ l) (log_off shape other off (senses_of added) own)
      ∙ append-nil (senses_of xs)

module _ {n m e : ℕ} where
  -- each sense of a bank's history is of one of its lines
  pub senses_within : (xs : List (TimedEvent n m)) (clock : ClockState n m e) (array : ArrayState n m) → Leads xs clock array → All (IsOwnSense clock.bank.kept.shape) (senses_of xs)
  senses_within xs clock array leads =
      within_law n m e clock.bank.kept.shape clock.pace xs leads.holds.kept.shape.some_regions leads.holds.kept.shape.some_lines leads.lawful

  pub added_within : (added xs : List (TimedEvent n m)) (clock : ClockState n m e) (array : ArrayState n m) → Leads (added ++ xs) clock array → All (IsOwnSense clock.bank.kept.shape) (senses_of added)
  added_within added xs clock array leads =
      right (senses_of xs) (subst (λ s. All (IsOwnSense clock.bank.kept.shape) s) (senses-append added xs) (senses_within (added ++ xs) clock array leads))
    where
      right : (first : List (Sense n m)) → All (IsOwnSense clock.bank.kept.shape) (first ++ senses_of added) → All (IsOwnSense clock.bank.kept.shape) (senses_of added)
      right [] all = all
      right (s ∷ first) all = right first (All-tail (IsOwnSense clock.bank.kept.shape) s (first ++ senses_of added) all)
