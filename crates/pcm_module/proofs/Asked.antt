-- The rows of which a bank tells were asked of it.
use Rattle.std.proofs.Common.{◌≡◌, ℕ, ◌<◌, ◌==◌, ◌||◌, ◌&&◌, Bool, true, false, cond, List, [], ◌∷◌, map, Option, Some, None, refl, sym, subst, inl, inr}
use Rattle.std.specs.Prelude.{filter, IsSomeAnd, slice_get}
use Rattle.cell_rows.specs.Device.{ArrayState}
use Rattle.masked_bytes.specs.Entries.{has_row}
use Rattle.result_rows.specs.declared.Outcome.{Outcome}
use Rattle.row_rules.specs.{Table.is_of, declared.Asks.Asks, declared.Asks.TheVariants.{Reads, Writes, Cuts}}
use Rattle.bank_model.specs.Timing.{TimedEvent}
use Rattle.clock_laws.specs.{Standing.has_waiting, State.ClockState}
use Rattle.module_laws.specs.Asking.{Asked, asked_in, asked_of}
use Rattle.right_runs.specs.Banks.{bank_of_line, line_in_bank}
use Rattle.pcm_module.specs.{Replaying.{Replays, ReplaysIn, asked_in_bank}, State.ModuleState, Telling.{has_standing, comes_to, is_asked_of, rows_at}}
use Rattle.pcm_module.proofs.{Moving.standing_named, Naming.{is_numbered, names}, TakenRows.bank_there}

either : (a b c : Bool) → (a ≡ true → c ≡ true) → (b ≡ true → c ≡ true) → (a || b) ≡ true → c ≡ true
either true b c first second is = first refl
either false b c first second is = second is

in_rest : (a b : Bool) → b ≡ true → (a || b) ≡ true
in_rest true b is = refl
in_rest false b is = is

in_first : (a b : Bool) → a ≡ true → (a || b) ≡ true
in_first true b is = refl
in_first false b is = absurd (cc is)

module _ {n : ℕ} (home number : ℕ → ℕ) (bank row : ℕ) where
  named_head : (a : Asked n) (asked : List (Asked n)) → (names (asked_of home number bank asked) row ≡ true → is_asked_of home bank asked row ≡ true)
      → names (asked_of home number bank (a ∷ asked)) row ≡ true → is_asked_of home bank (a ∷ asked) row ≡ true
  named_head a asked rest = by a.asks
    where
      own : List (Asked n)
      own = filter (λ a. is_of home bank a.asks) asked

      P : Asks n → Type 0
      P asks =
          names (asked_of home number bank (record { row = a.row; tick = a.tick; asks = asks } ∷ asked)) row ≡ true
          → ((comes_to home bank asks && a.row == row) || is_asked_of home bank asked row) ≡ true

      cases : (asks : Asks n) → is_numbered (asked_in home number (record { row = a.row; tick = a.tick; asks = asks })).asks ≡ true → (here : Bool)
          → names (map (asked_in home number) (cond here (record { row = a.row; tick = a.tick; asks = asks } ∷ own) own)) row ≡ true
          → ((here && a.row == row) || is_asked_of home bank asked row) ≡ true
      cases asks numbered true is =
          either (a.row == row) (names (map (asked_in home number) own) row) ((a.row == row) || is_asked_of home bank asked row)
          (in_first (a.row == row) (is_asked_of home bank asked row)) (λ there. in_rest (a.row == row) (is_asked_of home bank asked row) (rest there))
          (subst (λ (b : Bool). ((b && a.row == row) || names (map (asked_in home number) own) row) ≡ true) numbered is)
      cases asks numbered false is = rest is

      by : (asks : Asks n) → P asks
      by (Reads line) = cases (Reads line) refl (home line == bank)
      by (Writes line bytes given) = cases (Writes line bytes given) refl (home line == bank)
      by Cuts = rest

module _ {n : ℕ} (home number : ℕ → ℕ) (bank row : ℕ) where
  -- a row with a number in a bank's history was asked of the bank
  named_asked : (asked : List (Asked n)) → names (asked_of home number bank asked) row ≡ true → is_asked_of home bank asked row ≡ true
  named_asked [] is = is
  named_asked (a ∷ asked) is = named_head home number bank row a asked (named_asked asked) is

module _ {n m e : ℕ} (h : ℕ → List (TimedEvent n m)) (asked : List (Asked n)) (module_ : ModuleState n m e) (array : ArrayState n m) (results : List (Outcome n)) (f : Replays h asked module_ array results)
    (bank : ℕ) (exists : bank < module_.shape.banks) where
  -- a row that stands in a bank was asked of it
  pub standing_asked : (row : ℕ) → rows_at module_ bank row ≡ true → is_asked_of (bank_of_line module_.shape module_.seed) bank asked row ≡ true
  standing_asked row stands = by (slice_get module_.banks bank) refl (f.banks bank exists)
    where
      by : (o : Option (ClockState n m e)) → slice_get module_.banks bank ≡ o → IsSomeAnd o (ReplaysIn module_ bank (h bank) asked array results)
          → is_asked_of (bank_of_line module_.shape module_.seed) bank asked row ≡ true
      by None is there = absurd there
      by (Some clock) is there =
          named_asked (bank_of_line module_.shape module_.seed) (line_in_bank module_.shape module_.seed) bank row asked
          (either (has_row clock.bank.kept.entries row) (has_waiting clock.bank.waiting row) (names (asked_in_bank module_ bank asked) row)
          (λ queued. standing_named (h bank) clock array there.leads (asked_in_bank module_ bank asked) there.arrived row (inl queued))
          (λ waits. standing_named (h bank) clock array there.leads (asked_in_bank module_ bank asked) there.arrived row (inr waits))
          (subst (λ (c : ClockState n m e). has_standing c.bank row ≡ true) (bank_there module_ bank clock is) stands))

  -- so was that, or the row that is taken, where that one comes to the bank, of those that were asked with it
  pub taking_asked : (a : Asked n) (row : ℕ) → comes_to (bank_of_line module_.shape module_.seed) bank a.asks ≡ true → (rows_at module_ bank row || a.row == row) ≡ true
      → is_asked_of (bank_of_line module_.shape module_.seed) bank (a ∷ asked) row ≡ true
  taking_asked a row comes is =
      let own : Bool = comes_to (bank_of_line module_.shape module_.seed) bank a.asks && a.row == row in
      let rest : Bool = is_asked_of (bank_of_line module_.shape module_.seed) bank asked row in
      either (rows_at module_ bank row) (a.row == row) (own || rest) (λ stands. in_rest own rest (standing_asked row stands))
      (λ same. in_first own rest (subst (λ (b : Bool). (b && a.row == row) ≡ true) (sym comes) same)) is
