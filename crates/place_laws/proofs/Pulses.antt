-- All pulses of a bank, by its rows.
use Rattle.std.proofs.Common.{◌≡◌, ℕ, zero, suc, ◌+◌, ◌*◌, ◌<◌, ◌≤◌, ◌&&◌, Bool, true, false, List, [], ◌∷◌, ◌++◌, Option, Some, None, refl, sym, ap, ◌∙◌, subst, arith, sum_by, length}
use Rattle.std.{specs.Prelude.nat_lt, proofs.Math.Nat.mul-le-mul_left, proofs.lemmas.Bool.lt-ltb, proofs.lemmas.List.Sums.sum_by-cons}
use Rattle.row_rules.specs.{Answers.is_stored, Rows.{asks_write, is_cut}, Ticking.{tries, writings}, declared.Asks.TheVariants.{Reads, Writes, Cuts}, declared.Row.Row}
use Rattle.result_rows.specs.declared.Outcome.TheVariants as out
use Rattle.bank_shape.specs.{Pausing.is_cancelling, Shape.{is_array, if_array, controls_of, lines_in}, declared.BankShape.BankShape, declared.Home.Home, declared.pace.Pace.Pace}
use Rattle.bank_shape.specs.{declared.pace.Policy.Policy, declared.pace.Policy.TheVariants.{Pause, Plain, Cancel}}
use Rattle.bank_shape.specs.declared.Home.TheVariants as home
use Rattle.bank_model.specs.{After.due_moves, Answers.MayAll, Changes.{change_after, halted_after}, Events.{Write, Read, Cut}, History.{has_exhausted, retired, due_after}}
use Rattle.bank_model.specs.{Lawful.Lawful, Running.{over_by, busy_after, made_after, is_over, cancels_after}, Sensing.{most_steps, pulses_of}}
use Rattle.bank_model.specs.Timing.{Happens, Core, TimedEvent, core}
use Rattle.bank_laws.{specs.Laws.IsSized, specs.Outcomes.{outcome_of, ended, row_with, rows_from, table_of}, specs.Resting.IsStill, proofs.Waiting.may_all}
use Rattle.right_runs.specs.{Banks.rules_of, KeepsPlaces.{pulses_among, most_pulses}}
use Rattle.place_laws.{specs.PlaceLaws.PulsesLaw, proofs.Cancels.cancels-kept, proofs.Moves.next_product}
use Rattle.place_laws.proofs.{Pulsing.{ends_in, cancels_in, pulses_in, pulses-kept, held_by, held-idle}, Slots.retired-few, Storing.stored-counted, Tables.all-counted}
use Rattle.place_laws.proofs.Trying.{all_stores, all_moves, cuts_power, cuts_in, moves-few, causes, unwritten, each, ends-few}
use Rattle.masked_bytes.proofs.Counting.{one_if}

-- the same pulses of lines counted from a base
pulses-same : (f g : ℕ → ℕ) (base from n : ℕ) → ((line : ℕ) → line < from + n → f (base + line) ≡ g (base + line)) → pulses_among f (base + from) n ≡ pulses_among g (base + from) n
pulses-same f g base from zero each = refl
pulses-same f g base from (suc n) each =
    let step : base + from + 1 ≡ base + (from + 1) = omega arith in
    let next : (h : ℕ → ℕ) → pulses_among h (base + from + 1) n ≡ pulses_among h (base + (from + 1)) n = λ h. ap (λ k. pulses_among h k n) step in
    let rest : pulses_among f (base + (from + 1)) n ≡ pulses_among g (base + (from + 1)) n = pulses-same f g base (from + 1) n (λ line lt. each line (omega (arith, lt))) in
    omega (arith, each from (omega arith), next f, next g, rest)

-- how many line writes there were, ended or cancelled, where one is to be written still or one more may end
tries-few : (policy : Policy) (over : Bool) (ends cancels count most : ℕ) → ends ≤ most → (over ≡ false → ends + 1 ≤ most) → cancels ≤ 4 * ends + count → count ≤ 4 → (over ≡ true → count ≡ 0)
    → (is_cancelling policy ≡ false → cancels ≡ 0) → ends + cancels ≤ tries policy * most
tries-few Pause over ends cancels count most few room more four calm plain = omega (arith, few, plain refl)
tries-few Plain over ends cancels count most few room more four calm plain = omega (arith, few, plain refl)
tries-few Cancel true ends cancels count most few room more four calm plain = omega (arith, few, more, calm refl)
tries-few Cancel false ends cancels count most few room more four calm plain = omega (arith, room refl, more, four)

pub bounded : (steps times all most : ℕ) → all ≤ times * most → steps * all ≤ times * steps * most
bounded steps times all most le =
    let more : steps * all ≤ steps * (times * most) = mul-le-mul_left steps le in
    let swap : steps * (times * most) ≡ times * steps * most = grind arith in
    omega (arith, more, swap)

module _ {n m : ℕ} (shape : BankShape) (all : List (TimedEvent n m)) where
  -- the cuts by the rows are those by the events
  pub cuts-counted : (ys : List (TimedEvent n m)) → sum_by (λ (r : Row n). one_if (is_cut r)) (rows_from shape all ys) ≡ cuts_in ys
  cuts-counted [] = refl
  cuts-counted (x ∷ ys) = by x.happens x.cancels (cuts-counted ys)
    where
      after : Happens n → Bool → ℕ
      after h cancels = one_if (cuts_power h cancels) + cuts_in ys

      by : (h : Happens n) (cancels : Bool) → sum_by (λ (r : Row n). one_if (is_cut r)) (rows_from shape all ys) ≡ cuts_in ys
          → sum_by (λ (r : Row n). one_if (is_cut r)) (row_with shape all h x.tick cancels ++ rows_from shape all ys) ≡ after h cancels
      by (Core (Write row line bytes given answer)) cancels ih =
          omega (arith, ih, sum_by-cons (λ (r : Row n). one_if (is_cut r)) (record { tick = x.tick; asks = Writes line bytes given; outcome = ended x.tick (outcome_of shape all row) }) (rows_from shape all ys))
      by (Core (Read row line answer)) cancels ih =
          omega (arith, ih, sum_by-cons (λ (r : Row n). one_if (is_cut r)) (record { tick = x.tick; asks = Reads line; outcome = outcome_of shape all row }) (rows_from shape all ys))
      by (Core (Cut tearing)) false ih =
          omega (arith, ih, sum_by-cons (λ (r : Row n). one_if (is_cut r)) (record { tick = x.tick; asks = Cuts; outcome = out.Cut x.tick }) (rows_from shape all ys))
      by _ _ ih = omega (arith, ih)

module _ {n m : ℕ} (shape : BankShape) (pace : Pace) (e : ℕ) (all : List (TimedEvent n m)) (sized : IsSized shape pace) (l : Lawful shape pace e all) (still : IsStill shape all) where
  abbrev stores_by_rows : ℕ
  stores_by_rows = sum_by (λ (q : Row n). one_if (asks_write q.asks && is_stored q.outcome)) (table_of shape all)

  abbrev cuts_by_rows : ℕ
  cuts_by_rows = sum_by (λ (r : Row n). one_if (is_cut r)) (table_of shape all)

  -- what the rows say of the line writes
  rows_bound : ends_in all + cancels_in all ≤ tries pace.policy * (each shape * (2 * stores_by_rows + shape.spares + 1) + cuts_by_rows)
  rows_bound =
      let k = cancels-kept shape pace e all l in
      tries-few pace.policy (is_over shape all) (ends_in all) (cancels_in all) (cancels_after all) (each shape * (2 * stores_by_rows + shape.spares + 1) + cuts_by_rows)
      (omega (arith, few, within, cuts)) (λ going. room going) k.few k.most k.calm k.plain
    where
      may : MayAll shape (most_steps e) (core all)
      may = may_all shape pace e all l

      cuts : cuts_by_rows ≡ cuts_in all
      cuts = cuts-counted shape all all

      few : ends_in all + unwritten (change_after shape all) (halted_after all) ≤ each shape * causes (core all) + cuts_in all
      few = ends-few shape pace e all l

      stores : stores_by_rows ≡ all_stores (core all)
      stores = all-counted shape all ∙ stored-counted shape pace e (λ line. true) all l

      moves : all_moves (core all) + due_moves (due_after shape (core all)) ≤ all_stores (core all)
      moves = moves-few shape (most_steps e) (core all) sized.psi may

      spares : length (retired (core all)) ≤ shape.spares
      spares = retired-few shape (most_steps e) (core all) may

      at_most : (ex : Bool) → one_if ex ≤ 1
      at_most ex = grind arith

      within : each shape * causes (core all) ≤ each shape * (2 * stores_by_rows + shape.spares + 1)
      within = mul-le-mul_left (each shape) (omega (arith, stores, moves, spares, at_most (has_exhausted (core all))))

      one_each : 1 ≤ each shape
      one_each = by (is_array shape.home)
        where
          by : (b : Bool) → 1 ≤ writings b
          by b = grind arith

      room : is_over shape all ≡ false → ends_in all + 1 ≤ each shape * (2 * stores_by_rows + shape.spares + 1) + cuts_by_rows
      room going = by (change_after shape all) (halted_after all) going few
        where
          by : (change : Option ℕ) (halted : Bool) → over_by change halted (has_exhausted (core all)) ≡ false → ends_in all + unwritten change halted ≤ each shape * causes (core all) + cuts_in all
              → ends_in all + 1 ≤ each shape * (2 * stores_by_rows + shape.spares + 1) + cuts_by_rows
          by None halted fresh le =
              let less : each shape * (all_stores (core all) + all_moves (core all) + length (retired (core all))) ≤ each shape * (2 * stores_by_rows + shape.spares) =
              mul-le-mul_left (each shape) (omega (arith, stores, moves, spares)) in
              let more : each shape * (2 * stores_by_rows + shape.spares + 1) ≡ each shape * (2 * stores_by_rows + shape.spares) + each shape = next_product (each shape) (2 * stores_by_rows + shape.spares) in
              let none : each shape * causes (core all) ≡ each shape * (all_stores (core all) + all_moves (core all) + length (retired (core all))) =
              ap (λ k. each shape * k) (omega (arith, ap one_if fresh)) in
              omega (arith, le, less, more, none, one_each, cuts)
          by (Some item) true halted le = absurd (cc)
          by (Some item) false halted le = omega (arith, le, within, cuts)

  held_none : held_by (busy_after shape all) (made_after shape all) ≡ 0
  held_none = held-idle (busy_after shape all) (made_after shape all) still.rests

  -- each change is one of the bank whose registers are in the array
  twice_is : nat_lt 0 (controls_of shape) ≡ is_array shape.home
  twice_is = by shape.home
    where
      by : (where_ : Home) → nat_lt 0 (if_array where_ (shape.regions + shape.spares + 1)) ≡ is_array where_
      by home.Guarded = refl
      by home.Array = lt-ltb 0 (shape.regions + shape.spares + 1) (omega arith)

  pub events_bound : pulses_among (λ line. pulses_of all line) shape.base (lines_in shape) ≤ most_pulses (rules_of e shape pace) (table_of shape all)
  events_bound =
      let k = pulses-kept shape pace e shape.base (lines_in shape) all l in
      let bound : most_steps e * (ends_in all + cancels_in all) ≤ tries pace.policy * most_steps e * (each shape * (2 * stores_by_rows + shape.spares + 1) + cuts_by_rows) =
      bounded (most_steps e) (tries pace.policy) (ends_in all + cancels_in all) (each shape * (2 * stores_by_rows + shape.spares + 1) + cuts_by_rows) rows_bound in
      let few : pulses_in shape pace e shape.base (lines_in shape) all ≤ tries pace.policy * most_steps e * (each shape * (2 * stores_by_rows + shape.spares + 1) + cuts_by_rows) =
      omega (arith, k.few, held_none, bound) in
      subst (λ b. pulses_in shape pace e shape.base (lines_in shape) all ≤ tries pace.policy * most_steps e * (writings b * (2 * stores_by_rows + shape.spares + 1) + cuts_by_rows)) (sym twice_is) few

pub pulse_law : PulsesLaw
pulse_law n m e shape pace xs array sized l still leaves =
    let same : pulses_among (λ line. (array.line line).pulses) (shape.base + 0) (lines_in shape) ≡ pulses_among (λ line. pulses_of xs line) (shape.base + 0) (lines_in shape) =
    pulses-same (λ line. (array.line line).pulses) (λ line. pulses_of xs line) shape.base 0 (lines_in shape) (λ line lt. leaves.pulses line (omega (arith, lt))) in
    let first : (f : ℕ → ℕ) → pulses_among f (shape.base + 0) (lines_in shape) ≡ pulses_among f shape.base (lines_in shape) = λ f. ap (λ k. pulses_among f k (lines_in shape)) (omega arith) in
    omega (arith, same, first (λ line. (array.line line).pulses), first (λ line. pulses_of xs line), events_bound shape pace e xs sized l still)
