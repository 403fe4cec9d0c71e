-- One bank takes a step, and the banks beside it stay.
use Rattle.std.proofs.Common.{◌≡◌, ◌≢◌, ℕ, ◌<◌, ◌≤◌, ◌==◌, ◌&&◌, Bool, true, false, if◌then◌else◌, cond, List, [], ◌∷◌, ◌++◌, map, Option, Some, None, refl, sym, ap, subst, ◌∙◌, inl, inr, eq-eqb, arith}
use Rattle.std.{specs.Prelude.{filter, All, IsSomeAnd, slice_get, slice_set}, proofs.lemmas.Bool.{ne_eqb, cases_lt, cases_eq, and_right, or_from}}
use Rattle.std.proofs.{lemmas.List.Elements.{All-nil, All-cons, All-weaker}, lemmas.Option.slice_get_within}
use Rattle.circular_buffer.proofs.Places.{slice_get-set_same, slice_get-set_other}
use Rattle.cell_rows.specs.Device.{ArrayState}
use Rattle.result_rows.specs.{Table.HasRow, declared.Outcome.Outcome}
use Rattle.row_rules.specs.Table.{is_of}
use Rattle.bank_shape.specs.declared.pace.Pace.{Pace}
use Rattle.bank_model.specs.Timing.{TimedEvent}
use Rattle.module_shape.{specs.Addresses.{ModuleShape, bank_shape, array_lines_of}, proofs.Bounds.banks_apart}
use Rattle.clock_laws.specs.{Standing.arrives_with, State.ClockState}
use Rattle.module_laws.specs.Asking.{Asked, AreAsked, asked_in, asked_of}
use Rattle.bank_timing.specs.Extending.{Extends, outcome_in}
use Rattle.pcm_module.{specs.Replaying.{BankReplays, RowsFall, outcome_so_far}, specs.Stepping.{IsAt, IsStep}, proofs.Logging.AreOff}
use Rattle.pcm_module.proofs.{Naming.{is_numbered, names, not_named, above_all, rows_of_bank_all, All-both}, Steps.{own_extends, other_replays}}

-- the lines of two banks of a module are apart
pub banks_off : (shape : ModuleShape) (bank other : ℕ) → bank ≢ other → AreOff (bank_shape shape bank) (bank_shape shape other)
banks_off shape bank other apart line there =
    elim (cases_lt bank other) [
      | inl before ↦ inr (omega (arith, there.0, banks_apart bank other (array_lines_of shape) before))
      | inr after ↦
          inl (omega (arith, there.1, banks_apart other bank (array_lines_of shape) (omega (arith, apart))))
    ]

-- a function with another value at one place
abbrev pub changed : {X : Type 0} → ℕ → X → (ℕ → X) → ℕ → X
changed at x f k = if k == at then x else f k

module _ {X : Type 0} (at : ℕ) (x : X) (f : ℕ → X) where
  pub changed_at : (k : ℕ) → k ≡ at → changed at x f k ≡ x
  changed_at k is = ap (λ b. if b then x else f k) (eq-eqb k at is)

  pub changed_off : (k : ℕ) → k ≢ at → changed at x f k ≡ f k
  changed_off k off = ap (λ b. if b then x else f k) (ne_eqb k at off)

-- histories of which one has grown
abbrev pub grows_at : {X : Type 0} → ℕ → List X → ℕ → List X
grows_at at added k = if k == at then added else []

module _ {X : Type 0} (at : ℕ) (added : List X) (h : ℕ → List X) where
  pub grown_at : grows_at at added at ++ h at ≡ added ++ h at
  grown_at = ap (λ b. (if b then added else []) ++ h at) (eq-eqb at at refl)

  pub grown_off : (k : ℕ) → k ≢ at → grows_at at added k ++ h k ≡ h k
  grown_off k off = ap (λ b. (if b then added else []) ++ h k) (ne_eqb k at off)

pub at_get : {X : Type 0} (P : X → Type 0) (o : Option X) (x : X) → o ≡ Some x → P x → IsSomeAnd o P
at_get P o x is p = subst (λ o. IsSomeAnd o P) (sym is) p

pub from_get : {X : Type 0} (P : X → Type 0) (o : Option X) (x : X) → o ≡ Some x → IsSomeAnd o P → P x
from_get P o x is p = subst (λ o. IsSomeAnd o P) is p

module _ {n m e : ℕ} (shape : ModuleShape) (pace : Pace) where
  -- each bank replays by its history what was asked of it
  abbrev pub AllReplay : ℕ → ℕ → (ℕ → List (TimedEvent n m)) → (ℕ → List (Asked n)) → ArrayState n m → List (Outcome n) → List (ClockState n m e) → Type 0
  AllReplay tick rows h owns array results banks =
      (bank : ℕ) → bank < shape.banks
      → IsSomeAnd (slice_get banks bank) (BankReplays (bank_shape shape bank) pace tick rows (h bank) (owns bank) array results)

  -- events at one bank leave each bank replaying: that one what is asked by then, and the others what they did
  pub all_extend : (tick rows later above bank : ℕ) (h grown : ℕ → List (TimedEvent n m)) (owns asked : ℕ → List (Asked n)) (own : List (Asked n)) (banks : List (ClockState n m e))
      (added : List (TimedEvent n m)) (clock next : ClockState n m e) (before after : ArrayState n m) (results recorded : List (Outcome n))
      → AllReplay tick rows h owns before results banks → bank < shape.banks → slice_get banks bank ≡ Some clock
      → Extends (h bank) added clock next before after results recorded → AreAsked (added ++ h bank) own → IsAt later above next recorded
      → (grown bank ≡ added ++ h bank) → ((other : ℕ) → other ≢ bank → grown other ≡ h other)
      → (asked bank ≡ own) → ((other : ℕ) → other ≢ bank → asked other ≡ owns other)
      → All (λ c. HasRow results c.row) own
      → All (λ c. is_numbered c.asks ≡ false → names own c.row ≡ false) own
      → All (λ c. outcome_in results c.row ≡ outcome_so_far (bank_shape shape bank) (h bank) c c.asks) own
      → ((other : ℕ) → other ≢ bank → All (λ c. HasRow results c.row) (owns other))
      → ((other : ℕ) → other ≢ bank → All (λ c. names own c.row ≡ false) (owns other))
      → tick ≤ later → rows ≤ above
      → AllReplay later above grown asked after recorded (slice_set banks bank next)
  all_extend tick rows later above bank h grown owns asked own banks added clock next before after results recorded all in_range is extends arrived at grown_is grown_off asked_is asked_off has cuts so_far others apart in_time below k exists =
      elim (cases_eq k bank) [
        | inl same ↦ at_get (P k) (slice_get (slice_set banks bank next) k) next
            (ap (λ j. slice_get (slice_set banks bank next) j) same ∙ slice_get-set_same banks bank next (slice_get_within banks bank clock is)) (here same)
        | inr off ↦ there off (slice_get banks k) refl (all k exists)
      ]
    where
      P : ℕ → ClockState n m e → Type 0
      P k = BankReplays (bank_shape shape k) pace later above (grown k) (asked k) after recorded

      first : BankReplays (bank_shape shape bank) pace tick rows (h bank) (owns bank) before results clock
      first = from_get (BankReplays (bank_shape shape bank) pace tick rows (h bank) (owns bank) before results) (slice_get banks bank) clock is (all bank in_range)

      here : k ≡ bank → P k next
      here same =
          subst (λ j. P j next) (sym same)
          (subst (λ xs. BankReplays (bank_shape shape bank) pace later above xs (asked bank) after recorded next) (sym grown_is)
          (subst (λ rows. BankReplays (bank_shape shape bank) pace later above (added ++ h bank) rows after recorded next) (sym asked_is)
          (own_extends (bank_shape shape bank) pace tick rows later above (h bank) added (owns bank) own clock next before after results recorded first extends arrived at has cuts so_far)))

      there : k ≢ bank → (o : Option (ClockState n m e)) → slice_get banks k ≡ o
          → IsSomeAnd o (BankReplays (bank_shape shape k) pace tick rows (h k) (owns k) before results) → IsSomeAnd (slice_get (slice_set banks bank next) k) (P k)
      there off None is f = absurd f
      there off (Some c) is f =
          at_get (P k) (slice_get (slice_set banks bank next) k) c (slice_get-set_other banks bank k next off ∙ is)
          (subst (λ xs. BankReplays (bank_shape shape k) pace later above xs (asked k) after recorded c) (sym (grown_off k off))
          (subst (λ rows. BankReplays (bank_shape shape k) pace later above (h k) rows after recorded c) (sym (asked_off k off))
          (other_replays (bank_shape shape k) (bank_shape shape bank) pace tick rows later above (h k) (h bank) added (owns k) c clock next before after results recorded f first.leads extends
          first.shaped (banks_off shape bank k (λ e. off (sym e)))
          (others k off)
          (All-weaker (λ (c : Asked n). names own c.row ≡ false) (λ (c : Asked n). arrives_with (added ++ h bank) c.row ≡ false)
          (λ c none. not_named c.row (added ++ h bank) own arrived none) (owns k) (apart k off))
          in_time below)))

  -- a row that arrives at one bank leaves each bank replaying: that one with the row, and the others what they did
  pub all_step : (tick rows later above bank : ℕ) (h grown : ℕ → List (TimedEvent n m)) (owns asked : ℕ → List (Asked n)) (banks : List (ClockState n m e))
      (added : List (TimedEvent n m)) (a : Asked n) (clock next : ClockState n m e) (before after : ArrayState n m) (results recorded : List (Outcome n))
      → AllReplay tick rows h owns before results banks → bank < shape.banks → slice_get banks bank ≡ Some clock
      → IsStep (h bank) added a clock next before after results recorded → IsAt later above next recorded
      → (grown bank ≡ added ++ h bank) → ((other : ℕ) → other ≢ bank → grown other ≡ h other)
      → (asked bank ≡ a ∷ owns bank) → ((other : ℕ) → other ≢ bank → asked other ≡ owns other)
      → All (λ c. HasRow results c.row) (a ∷ owns bank)
      → All (λ c. is_numbered c.asks ≡ false → names (a ∷ owns bank) c.row ≡ false) (a ∷ owns bank)
      → outcome_in results a.row ≡ outcome_so_far (bank_shape shape bank) (h bank) a a.asks
      → ((other : ℕ) → other ≢ bank → All (λ c. HasRow results c.row) (owns other))
      → ((other : ℕ) → other ≢ bank → All (λ c. names (a ∷ owns bank) c.row ≡ false) (owns other))
      → tick ≤ later → rows ≤ above
      → AllReplay later above grown asked after recorded (slice_set banks bank next)
  all_step tick rows later above bank h grown owns asked banks added a clock next before after results recorded all in_range is step at grown_is grown_off asked_is asked_off has cuts ready others apart in_time below =
      all_extend tick rows later above bank h grown owns asked (a ∷ owns bank) banks added clock next before after results recorded all in_range is step.extends
      (step.arrives (owns bank) first.arrived) at grown_is grown_off asked_is asked_off has cuts
      (All-cons (λ (c : Asked n). outcome_in results c.row ≡ outcome_so_far (bank_shape shape bank) (h bank) c c.asks) a (owns bank) ready first.recorded) others apart in_time below
    where
      first : BankReplays (bank_shape shape bank) pace tick rows (h bank) (owns bank) before results clock
      first = from_get (BankReplays (bank_shape shape bank) pace tick rows (h bank) (owns bank) before results) (slice_get banks bank) clock is (all bank in_range)

module _ {n : ℕ} (home number : ℕ → ℕ) where
  -- no other row of a bank has the number of a cut's row
  pub cuts_apart : (bank : ℕ) (asked : List (Asked n)) → RowsFall asked
      → All (λ c. is_numbered c.asks ≡ false → names (asked_of home number bank asked) c.row ≡ false) (asked_of home number bank asked)
  cuts_apart bank [] falls = All-nil (λ (c : Asked n). is_numbered c.asks ≡ false → names {n = n} [] c.row ≡ false)
  cuts_apart bank (a ∷ asked) falls = by (cuts_apart bank asked falls.1) (is_of home bank a.asks)
    where
      Apart : List (Asked n) → Asked n → Type 0
      Apart own c = is_numbered c.asks ≡ false → names own c.row ≡ false

      rest : List (Asked n)
      rest = asked_of home number bank asked

      by : All (Apart rest) rest → (own : Bool)
          → let all = map (asked_in home number) (cond own (a ∷ filter (λ a. is_of home bank a.asks) asked) (filter (λ a. is_of home bank a.asks) asked)) in All (Apart all) all
      by ih false = ih
      by ih true =
          All-cons (Apart (asked_in home number a ∷ rest)) (asked_in home number a) rest
          (λ none. or_from (is_numbered (asked_in home number a).asks && a.row == a.row) _ (ap (λ b. b && a.row == a.row) none) (above_all home number bank asked a.row falls.0))
          (All-both (Apart rest) (λ (c : Asked n). c.row < a.row) (Apart (asked_in home number a ∷ rest))
          (λ c apart lower none. or_from (is_numbered (asked_in home number a).asks && a.row == c.row) _
          (and_right (is_numbered (asked_in home number a).asks) (a.row == c.row) (ne_eqb a.row c.row (λ e. absurd (omega (arith, lower, e))))) (apart none))
          rest ih (rows_of_bank_all home number (λ r. r < a.row) bank asked falls.0))
