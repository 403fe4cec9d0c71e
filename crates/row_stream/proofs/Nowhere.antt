-- Each row of a stream has its outcome, or stands in a bank; and the first tick behind which a row has one.
use Rattle.std.proofs.Common.{◌≡◌, ◌≢◌, ◌⊎◌, ℕ, ◌+◌, ◌<◌, ◌≤◌, ◌==◌, min, Bool, true, false, cond, List, [], ◌∷◌, ◌++◌, length, map, Option, Some, None, inl, inr, refl, sym, ap, subst, ◌∙◌, eq-eqb, arith}
use Rattle.std.{specs.Prelude.{All, IfSome, IsSomeAnd, filter, slice_get, unwrap_or}, proofs.lemmas.Bool.cases_eq}
use Rattle.std.proofs.lemmas.List.Elements.{All-head, All-tail, All-nil, All-cons}
use Rattle.cell_rows.specs.Device.{ArrayState}
use Rattle.trace_reader.specs.declared.event.Event.{Event}
use Rattle.result_rows.specs.{Outcomes.tick_of, declared.Outcome.Outcome}
use Rattle.result_rows.specs.declared.Outcome.TheVariants as out
use Rattle.row_rules.specs.{Lines.IsOfLines, Table.is_of, declared.Asks.Asks, declared.Asks.TheVariants.{Reads, Writes, Cuts}}
use Rattle.bank_shape.specs.{declared.clock.Action.Action, declared.pace.Pace.Pace}
use Rattle.bank_model.specs.Timing.{TimedEvent, ends}
use Rattle.module_shape.specs.{Limits.{IsShape, total_of}, declared.raw.RawShape.RawShape}
use Rattle.module_laws.specs.Asking.{Asked, asked_in, asked_of}
use Rattle.clock_laws.{specs.State.{ClockState, next_action}, proofs.Passing.ending_later_law}
use Rattle.bank_timing.specs.Extending.{IsQuiet, end_by, next_end, outcome_in}
use Rattle.right_runs.specs.Banks.{bank_of_line, line_in_bank}
use Rattle.run_laws.proofs.Mixing.{lines_law}
use Rattle.pcm_module.specs.{Asking.{asked_by, asked_for}, Replaying.{Replays, ReplaysIn}, Settling.IsAtTick, State.{ModuleState, bank_at, first_bank}}
use Rattle.pcm_module.specs.Telling.{has_standing, rows_at}
use Rattle.row_stream.{specs.Reaching.{CameBetween, CameBy, IsUnsetOrAt}, specs.Serving.IsFirstTurn, proofs.Ticks.{IsOrTells, done-between, done-by, done-there, first-told, own-done, told-own}}

-- the bank of a module that is there
pub at-bank : {n m e : ℕ} (module_ : ModuleState n m e) (bank : ℕ) (clock : ClockState n m e) → slice_get module_.banks bank ≡ Some clock → bank_at module_ bank ≡ clock
at-bank module_ bank clock is = ap (λ o. unwrap_or o (first_bank module_.shape bank)) is

-- it holds of a row in one of so many banks
abbrev Somewhere : (banks : ℕ) (P : ℕ → ℕ → Type 0) → ℕ → Type 0
Somewhere banks P row = (bank : ℕ) × (bank < banks) × P bank row

-- what holds of each row that was asked of each bank holds of each that was asked of the module, of some bank
module _ {n : ℕ} (bank_of line_in : ℕ → ℕ) (banks lines : ℕ) (exists : (line : ℕ) → line < lines → bank_of line < banks) (some : 0 < banks) (P : ℕ → ℕ → Type 0) where
  later-rows : (bank : ℕ) (a : Asked n) (rest : List (Asked n)) (own : Bool)
      → All (λ a. P bank a.row) (map (asked_in bank_of line_in) (cond own (a ∷ rest) rest)) → All (λ a. P bank a.row) (map (asked_in bank_of line_in) rest)
  later-rows bank a rest true all = All-tail (λ (a : Asked n). P bank a.row) (asked_in bank_of line_in a) (map (asked_in bank_of line_in) rest) all
  later-rows bank a rest false all = all

  in-bank : (row tick : ℕ) (asks : Asks n) (line : ℕ) (asked : List (Asked n)) → bank_of line < banks → (own : Bool) → own ≡ true
      → All (λ a. P (bank_of line) a.row)
      (map (asked_in bank_of line_in) (cond own (record { row = row; tick = tick; asks = asks } ∷ filter (λ b. is_of bank_of (bank_of line) b.asks) asked) (filter (λ b. is_of bank_of (bank_of line) b.asks) asked)))
      → Somewhere banks P row
  in-bank row tick asks line asked there true is all = (
    bank_of line,
    there,
    All-head (λ (a : Asked n). P (bank_of line) a.row) (asked_in bank_of line_in (record { row = row; tick = tick; asks = asks }))
        (map (asked_in bank_of line_in) (filter (λ b. is_of bank_of (bank_of line) b.asks) asked)) all,
  )
  in-bank row tick asks line asked there false is all = absurd (cc is)

  own-row : (row tick : ℕ) (asks : Asks n) (asked : List (Asked n)) → IsOfLines lines asks
      → ((bank : ℕ) → bank < banks → All (λ a. P bank a.row) (asked_of bank_of line_in bank (record { row = row; tick = tick; asks = asks } ∷ asked)))
      → Somewhere banks P row
  own-row row tick (Reads line) asked of all =
      in-bank row tick (Reads line) line asked (exists line of) (bank_of line == bank_of line) (eq-eqb (bank_of line) (bank_of line) refl) (all (bank_of line) (exists line of))
  own-row row tick (Writes line bytes given) asked of all =
      in-bank row tick (Writes line bytes given) line asked (exists line of) (bank_of line == bank_of line) (eq-eqb (bank_of line) (bank_of line) refl) (all (bank_of line) (exists line of))
  own-row row tick Cuts asked of all =
      (0, some, All-head (λ (a : Asked n). P 0 a.row) (asked_in bank_of line_in (record { row = row; tick = tick; asks = Cuts })) (map (asked_in bank_of line_in) (filter (λ b. is_of bank_of 0 b.asks) asked)) (all 0 some))

  each-somewhere : (asked : List (Asked n)) → All (λ a. IsOfLines lines a.asks) asked → ((bank : ℕ) → bank < banks → All (λ a. P bank a.row) (asked_of bank_of line_in bank asked)) → All (λ a. Somewhere banks P a.row) asked
  each-somewhere [] of all = All-nil (λ (a : Asked n). Somewhere banks P a.row)
  each-somewhere (a ∷ asked) of all =
      All-cons (λ (a : Asked n). Somewhere banks P a.row) a asked (own-row a.row a.tick a.asks asked (All-head (λ (a : Asked n). IsOfLines lines a.asks) a asked of) all)
      (each-somewhere asked (All-tail (λ (a : Asked n). IsOfLines lines a.asks) a asked of)
      (λ bank lt. later-rows bank a (filter (λ b. is_of bank_of bank b.asks) asked) (is_of bank_of bank a.asks) (all bank lt)))

below-right : (a b : ℕ) → min a b ≤ b
below-right a b = omega arith

above-both : (low a b : ℕ) → low < a → low < b → low < min a b
above-both low a b first second = omega (arith, first, second)

-- it is at most that tick
pub next-within : {n m e : ℕ} (to : ℕ) (clock : ClockState n m e) → next_end to clock ≤ to
next-within to clock = by (next_action clock)
  where
    by : (a : Option Action) → end_by to clock.pace a ≤ to
    by None = omega arith
    by (Some action) = below-right (ends clock.pace action) to

some-same : {X : Type 0} (x y : X) → Some x ≡ Some y → x ≡ y
some-same x y same = cc

-- a bank of which all have come to a tick has
pub at-tick : {n m e : ℕ} (tick : ℕ) (o : Option (ClockState n m e)) (clock : ClockState n m e) → o ≡ Some clock → IsSomeAnd o (IsAtTick tick) → clock.tick ≡ tick
at-tick {n} {m} {e} tick o clock is at = subst (λ (o : Option (ClockState n m e)). IsSomeAnd o (IsAtTick tick)) is at

-- what holds of each row of events holds of the one of a number
row-of : {n : ℕ} (P : ℕ → Type 0) (events : List (Event n)) → All (λ a. P a.row) (asked_for events) → (row : ℕ) → 1 ≤ row → row ≤ length events → P row
row-of P [] all row least most = absurd (omega (arith, least, most))
row-of {n = n} P (event ∷ below) all row least most = elim (cases_eq row (length below + 1)) [
  | inl same ↦ subst P (sym same) (All-head (λ (a : Asked n). P a.row) (asked_by (length below + 1) event) (asked_for below) all)
  | inr other ↦ row-of P below (All-tail (λ (a : Asked n). P a.row) (asked_by (length below + 1) event) (asked_for below) all) row least (omega (arith, most, other))
]

module _ {n m e : ℕ} (h : ℕ → List (TimedEvent n m)) (events : List (Event n)) (module_ : ModuleState n m e) (array : ArrayState n m) (results : List (Outcome n))
    (had : Replays h (asked_for events) module_ array results) (is : IsShape module_.shape) where
  -- a row has its outcome, or stands in a bank
  abbrev IsDoneIn : ℕ → ℕ → Type 0
  IsDoneIn bank row = (outcome_in results row ≢ out.Unset) ⊎ (rows_at module_ bank row ≡ true)

  done-in : (bank : ℕ) → bank < module_.shape.banks → All (λ a. IsDoneIn bank a.row) (asked_of (bank_of_line module_.shape module_.seed) (line_in_bank module_.shape module_.seed) bank (asked_for events))
  done-in bank exists = by (slice_get module_.banks bank) refl (had.banks bank exists)
    where
      own : List (Asked n)
      own = asked_of (bank_of_line module_.shape module_.seed) (line_in_bank module_.shape module_.seed) bank (asked_for events)

      by : (o : Option (ClockState n m e)) → slice_get module_.banks bank ≡ o → IsSomeAnd o (ReplaysIn module_ bank (h bank) (asked_for events) array results) → All (λ a. IsDoneIn bank a.row) own
      by None none there = absurd there
      by (Some clock) found there =
          let at : bank_at module_ bank ≡ clock = at-bank module_ bank clock found in
          let P : ClockState n m e → Type 0 = λ c. All (λ (a : Asked n). (outcome_in results a.row ≢ out.Unset) ⊎ (has_standing c.bank a.row ≡ true)) own in
          subst P (sym at) (own-done _ _ _ _ (h bank) own array results clock there)

  -- one that stands nowhere has its outcome
  pub known-nowhere : (row : ℕ) → 1 ≤ row → row ≤ length events → ((bank : ℕ) → bank < module_.shape.banks → rows_at module_ bank row ≡ false) → outcome_in results row ≢ out.Unset
  known-nowhere row least most nowhere =
      let some : 0 < module_.shape.banks = omega (arith, is.some_banks) in
      let all = each-somewhere (bank_of_line module_.shape module_.seed) (line_in_bank module_.shape module_.seed) module_.shape.banks (total_of module_.shape)
      (λ line lt. (lines_law module_.shape module_.seed is).exists line lt) some IsDoneIn (asked_for events) had.exist done-in in
      let found = row-of (λ row. Somewhere module_.shape.banks IsDoneIn row) events all row least most in
      elim found.2 [
        | inl known ↦ known
        | inr stands ↦ (let off : rows_at module_ found.0 row ≡ false = nowhere found.0 found.1 in let no : true ≡ false = sym stands ∙ off in absurd (cc no))
      ]

  -- the next action ends later
  pub next-later : (bank to : ℕ) (clock : ClockState n m e) → bank < module_.shape.banks → slice_get module_.banks bank ≡ Some clock → clock.tick < to → clock.tick < next_end to clock
  next-later bank to clock exists found before = by (slice_get module_.banks bank) found (had.banks bank exists)
    where
      own : ReplaysIn module_ bank (h bank) (asked_for events) array results clock → clock.tick < next_end to clock
      own there = so (next_action clock) refl
        where
          so : (a : Option Action) → next_action clock ≡ a → clock.tick < end_by to clock.pace a
          so None none = before
          so (Some action) some =
              let behind : IfSome (next_action clock) (λ a. clock.tick < ends clock.pace a) =
              ending_later_law n m e clock (subst (λ (p : Pace). 1 ≤ p.read) (sym there.paced) is.some_read_ticks) (subst (λ (p : Pace). 1 ≤ p.iter) (sym there.paced) is.some_iter_ticks) there.leads.told.to_come in
              above-both clock.tick (ends clock.pace action) to (subst (λ (a : Option Action). IfSome a (λ a. clock.tick < ends clock.pace a)) some behind) before

      by : (o : Option (ClockState n m e)) → o ≡ Some clock → IsSomeAnd o (ReplaysIn module_ bank (h bank) (asked_for events) array results) → clock.tick < next_end to clock
      by None none there = cc none
      by (Some was) same there =
          let is_clock : was ≡ clock = cc in
          own (subst (λ (c : ClockState n m e). ReplaysIn module_ bank (h bank) (asked_for events) array results c) is_clock there)

  -- and so does the first action in any bank
  first-behind : (limit tick bank : ℕ) (o : Option (ClockState n m e)) → module_.tick < limit → bank < module_.shape.banks → slice_get module_.banks bank ≡ o → IsSomeAnd o (IsAtTick module_.tick)
      → tick ≡ next_end limit (bank_at module_ bank) → module_.tick < tick
  first-behind limit tick bank None below exists none at ends = absurd at
  first-behind limit tick bank (Some clock) below exists found at ends =
      let stood : clock.tick ≡ module_.tick = at in
      let later = next-later bank limit clock exists found (omega (arith, stood, below)) in
      let same : tick ≡ next_end limit clock = ends ∙ ap (λ (c : ClockState n m e). next_end limit c) (at-bank module_ bank clock found) in
      omega (arith, later, same, stood)

  pub first-later : (limit tick : ℕ) → module_.tick < limit → ((bank : ℕ) → bank < module_.shape.banks → IsSomeAnd (slice_get module_.banks bank) (IsAtTick module_.tick)) → IsFirstTurn limit module_ tick
      → module_.tick < tick
  first-later limit tick below settled turn = elim turn.2 [
    | inl same ↦ omega (arith, same, below)
    | inr found ↦ first-behind limit tick found.0 (slice_get module_.banks found.0) below found.1 refl (settled found.0 found.1) found.2
  ]

  -- once all banks have come to a tick, ..
  module _ (new : ModuleState n m e) (after : ArrayState n m) (recorded : List (Outcome n)) (added : ℕ → List (TimedEvent n m))
      (now : Replays (λ bank. added bank ++ h bank) (asked_for events) new after recorded) (shape : new.shape ≡ module_.shape) (seeded : new.seed ≡ module_.seed)
      (reached : ℕ) (settled : (bank : ℕ) → bank < new.shape.banks → IsSomeAnd (slice_get new.banks bank) (IsAtTick reached)) where
    abbrev pub Own : ℕ → ℕ → ℕ → ClockState n m e → Type 0
    Own bank tick below next =
        ReplaysIn (record { shape = module_.shape; seed = module_.seed; banks = new.banks; tick = tick; rows_below = below; finished = new.finished }) bank (added bank ++ h bank) (asked_for events) after recorded next

    -- both of a bank: as it stood, and as it stands
    pub record WentOn (bank : ℕ) : Type 0 where
      pub clock : ClockState n m e
      pub next : ClockState n m e
      pub found : slice_get module_.banks bank ≡ Some clock
      pub stood : ReplaysIn module_ bank (h bank) (asked_for events) array results clock
      pub goes : Own bank new.tick new.rows_below next
      pub at : next.tick ≡ reached

    went-on : (bank : ℕ) → bank < module_.shape.banks → WentOn bank
    went-on bank exists =
        by (slice_get module_.banks bank) refl (had.banks bank exists) (slice_get new.banks bank) (moved (slice_get new.banks bank) (now.banks bank there)) (settled bank there)
      where
        there : bank < new.shape.banks
        there = subst (λ (r : RawShape). bank < r.banks) (sym shape) exists

        Of : RawShape → ℕ → Option (ClockState n m e) → Type 0
        Of raw seed o = IsSomeAnd o (ReplaysIn (record { shape = raw; seed = seed; banks = new.banks; tick = new.tick; rows_below = new.rows_below; finished = new.finished }) bank (added bank ++ h bank) (asked_for events) after recorded)

        moved : (o : Option (ClockState n m e)) → IsSomeAnd o (ReplaysIn new bank (added bank ++ h bank) (asked_for events) after recorded) → Of module_.shape module_.seed o
        moved o had = subst (λ (s : ℕ). Of module_.shape s o) seeded (subst (λ (r : RawShape). Of r new.seed o) shape had)

        by : (o : Option (ClockState n m e)) → slice_get module_.banks bank ≡ o → IsSomeAnd o (ReplaysIn module_ bank (h bank) (asked_for events) array results) → (p : Option (ClockState n m e)) → Of module_.shape module_.seed p
            → IsSomeAnd p (IsAtTick reached) → WentOn bank
        by None none had p own at = absurd had
        by (Some clock) found had None own at = absurd own
        by (Some clock) found had (Some next) own at = record { clock = clock; next = next; found = found; stood = had; goes = own; at = at }

    -- what each bank did more was of such a tick: so each row has the outcome that it had, or one of such a tick
    told-then : (Is : ℕ → Type 0) → ((bank : ℕ) → bank < module_.shape.banks → All (λ x. Is x.tick) (added bank))
        → (row : ℕ) → 1 ≤ row → row ≤ length events → IsOrTells Is (outcome_in results row) (outcome_in recorded row)
    told-then Is of row least most =
        let some : 0 < module_.shape.banks = omega (arith, is.some_banks) in
        let all = each-somewhere (bank_of_line module_.shape module_.seed) (line_in_bank module_.shape module_.seed) module_.shape.banks (total_of module_.shape)
        (λ line lt. (lines_law module_.shape module_.seed is).exists line lt) some (λ bank row. IsOrTells Is (outcome_in results row) (outcome_in recorded row)) (asked_for events) had.exist own in
        let found = row-of (λ row. Somewhere module_.shape.banks (λ bank row. IsOrTells Is (outcome_in results row) (outcome_in recorded row)) row) events all row least most in
        found.2
      where
        own : (bank : ℕ) → bank < module_.shape.banks
            → All (λ a. IsOrTells Is (outcome_in results a.row) (outcome_in recorded a.row)) (asked_of (bank_of_line module_.shape module_.seed) (line_in_bank module_.shape module_.seed) bank (asked_for events))
        own bank exists =
            let w = went-on bank exists in
            told-own _ _ _ _ (h bank) _ array results w.clock w.stood _ _ (added bank) after recorded w.next w.goes is.some_read_ticks is.some_iter_ticks Is (of bank exists)

    -- .. each row has the outcome that it had, or one that came by that tick
    pub told-by-then : (row : ℕ) → 1 ≤ row → row ≤ length events → (outcome_in recorded row ≡ outcome_in results row) ⊎ CameBy reached (outcome_in recorded row)
    told-by-then row least most = told-then (λ t. t ≤ reached) by row least most
      where
        by : (bank : ℕ) → bank < module_.shape.banks → All (λ x. x.tick ≤ reached) (added bank)
        by bank exists =
            let w = went-on bank exists in
            done-by _ _ _ _ (h bank) _ array results w.clock w.stood _ _ (added bank) after recorded w.next w.goes is.some_read_ticks is.some_iter_ticks reached w.at

    -- .. and where they all stood at an earlier one, behind that
    pub told-between : (low : ℕ) → low < reached → ((bank : ℕ) → bank < module_.shape.banks → IsSomeAnd (slice_get module_.banks bank) (IsAtTick low)) → ((bank : ℕ) → IsQuiet (added bank))
        → (row : ℕ) → 1 ≤ row → row ≤ length events → (outcome_in recorded row ≡ outcome_in results row) ⊎ CameBetween low reached (outcome_in recorded row)
    told-between low rises stood quiet row least most = told-then (λ t. (low < t) × (t ≤ reached)) by row least most
      where
        by : (bank : ℕ) → bank < module_.shape.banks → All (λ x. (low < x.tick) × (x.tick ≤ reached)) (added bank)
        by bank exists =
            let w = went-on bank exists in
            let at : w.clock.tick ≡ low = at-tick low (slice_get module_.banks bank) w.clock w.found (stood bank exists) in
            let later = next-later bank reached w.clock exists w.found (omega (arith, at, rises)) in
            done-between _ _ _ _ (h bank) _ array results w.clock w.stood _ _ (added bank) after recorded w.next w.goes is.some_read_ticks is.some_iter_ticks reached low reached (omega (arith, at, later)) (quiet bank) w.at

    -- .. and where no action ended before, in any bank, at that tick
    pub told-there : ((bank : ℕ) → IsQuiet (added bank)) → (to : ℕ) → ((bank : ℕ) → bank < module_.shape.banks → reached ≤ next_end to (bank_at module_ bank))
        → (row : ℕ) → 1 ≤ row → row ≤ length events → (outcome_in recorded row ≡ outcome_in results row) ⊎ (tick_of (outcome_in recorded row) ≡ Some reached)
    told-there quiet to none row least most = elim (told-then (λ t. t ≡ reached) by row least most) [
      | inl same ↦ inl same
      | inr when ↦ inr (when.2 ∙ ap Some when.1)
    ]
      where
        by : (bank : ℕ) → bank < module_.shape.banks → All (λ x. x.tick ≡ reached) (added bank)
        by bank exists =
            let w = went-on bank exists in
            let ends : reached ≤ next_end to w.clock = subst (λ (c : ClockState n m e). reached ≤ next_end to c) (at-bank module_ bank w.clock w.found) (none bank exists) in
            done-there _ _ _ _ (h bank) _ array results w.clock w.stood _ _ (added bank) after recorded w.next w.goes is.some_read_ticks is.some_iter_ticks to reached ends (quiet bank) w.at

    -- .. and where it is the one at which the next action ends of the bank where a row stood, the row has no outcome yet, or has it at that tick
    pub first-nowhere : ((bank : ℕ) → IsQuiet (added bank)) → (bank to row : ℕ) (clock : ClockState n m e) → bank < module_.shape.banks → slice_get module_.banks bank ≡ Some clock → rows_at module_ bank row ≡ true
        → reached ≡ next_end to clock → IsUnsetOrAt reached (outcome_in recorded row)
    first-nowhere quiet bank to row clock exists found stands ends =
        let w = went-on bank exists in
        let same : w.clock ≡ clock = some-same w.clock clock (sym w.found ∙ found) in
        let stood : has_standing w.clock.bank row ≡ true = subst (λ (c : ClockState n m e). has_standing c.bank row ≡ true) (at-bank module_ bank w.clock w.found) stands in
        first-told _ _ _ _ (h bank) _ array results w.clock w.stood _ _ (added bank) after recorded w.next w.goes is.some_read_ticks is.some_iter_ticks (quiet bank) to reached
        (ends ∙ ap (λ (c : ClockState n m e). next_end to c) (sym same)) w.at row stood
