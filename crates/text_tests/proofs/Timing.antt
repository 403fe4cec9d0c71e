-- An outcome with a tick of at most 15 digits.
use Rattle.std.proofs.Common.{◌≡◌, ℕ, ◌^◌, true, List, [], ◌∷◌, length, Option, Some, None, refl, ap, sym, subst, arith}
use Rattle.std.{specs.Prelude.All, proofs.lemmas.Bool.ltb-true, proofs.lemmas.List.Elements.All-cons}
use Rattle.trace_reader.specs.{Events.AreEventsFor, declared.event.EventOp.TheVariants.{Write, Read}}
use Rattle.check_verdict.specs.Within.{AreWithin}
use Rattle.row_rules.specs.declared.Rules.{Rules}
use Rattle.result_rows.specs.{Outcomes.tick_of, declared.Outcome.Outcome}
use Rattle.result_check.specs.Checkable.{IsTimed, IsCheckable}
use Rattle.text_tests.specs.Timely.{is_below, is_timed}

pub timed_by : {n : ℕ} (o : Outcome n) → is_timed o ≡ true → IsTimed o
timed_by {n} o h = by (tick_of o) refl h
  where
    by : (t : Option ℕ) → tick_of o ≡ t → is_below t ≡ true → IsTimed o
    by None is h = absurd (cc)
    by (Some tick) is h = record { tick = tick; at = is; short = ltb-true tick (10 ^ 15) h }

-- two events in lines of one bank
timed_two : {n : ℕ} (first second : Outcome n) → is_timed first ≡ true → is_timed second ≡ true → All (λ o. IsTimed o) (first ∷ second ∷ [])
timed_two {n} first second h k =
    All-cons (λ (o : Outcome n). IsTimed o) first (second ∷ []) (timed_by first h) (All-cons (λ (o : Outcome n). IsTimed o) second [] (timed_by second k) (λ i d lt. absurd (omega (arith, lt))))

lawful_two : (n : ℕ) (bytes : List ℕ) → length bytes ≡ n
    → AreEventsFor {n = n} 4 0 (record { tick = 0; op = Write 0 bytes } ∷ record { tick = 100; op = Read 0 } ∷ [])
unfolding AreEventsFor
lawful_two n bytes size = (
  record { rises = omega arith; in_time = omega arith; op = (omega arith, size) },
  (record { rises = omega arith; in_time = omega arith; op = omega arith }, tt {0}),
)

pub two_checkable : (n : ℕ) (bytes : List ℕ) (first second : Outcome n) (outcomes : List (Outcome n)) (rules : Rules) → length bytes ≡ n → outcomes ≡ first ∷ second ∷ []
    → is_timed first ≡ true → is_timed second ≡ true → AreWithin rules
    → IsCheckable {n = n} (record { tick = 0; op = Write 0 bytes } ∷ record { tick = 100; op = Read 0 } ∷ []) outcomes (0 ∷ 0 ∷ 0 ∷ 0 ∷ []) rules
two_checkable n bytes first second outcomes rules size is h k within = record {
  within = within;
  lawful = lawful_two n bytes size;
  few = omega arith;
  rows = ap length is;
  timed = subst (λ (xs : List (Outcome n)). All (λ o. IsTimed o) xs) (sym is) (timed_two first second h k);
}
