-- Outcomes that were read are ones that can be checked.
use Rattle.std.proofs.Common.{◌≡◌, ℕ, zero, suc, ◌+◌, ◌≤◌, List, [], ◌∷◌, ◌++◌, length, map, refl, sym, arith}
use Rattle.std.{specs.List.range_with_len, specs.Prelude.All, proofs.lemmas.List.FromFn.{length-map-range_with_len, map-range_with_len_more}}
use Rattle.trace_reader.specs.{Events.AreEventsFor, Trace.most_rows, declared.event.Event.Event}
use Rattle.result_rows.specs.{declared.Op.Op, declared.Outcome.Outcome}
use Rattle.result_rows.specs.declared.Outcome.TheVariants as out
use Rattle.check_reader.specs.ResultRows.{MayStand, EachMayStand}
use Rattle.module_shape.specs.{Limits.total_of, declared.raw.RawShape.RawShape}
use Rattle.right_runs.specs.Banks.{bank_of_line, banks_of}
use Rattle.row_rules.specs.declared.Rules.{Rules}
use Rattle.check_verdict.specs.Within.{AreWithin}
use Rattle.result_check.specs.Checkable.{IsCheckable, IsTimed}
use Rattle.check_text.specs.Checked.{asks_in}

timed : {n : ℕ} (asked : Op) (outcome : Outcome n) → MayStand asked outcome → IsTimed outcome
timed asked out.Unset may = cc may.belongs
timed asked (out.Stored tick place) may = record { tick = tick; at = refl; short = may.tick tick refl }
timed asked (out.Merged tick) may = record { tick = tick; at = refl; short = may.tick tick refl }
timed asked (out.Queued tick) may = record { tick = tick; at = refl; short = may.tick tick refl }
timed asked (out.Full tick) may = record { tick = tick; at = refl; short = may.tick tick refl }
timed asked (out.Worn tick) may = record { tick = tick; at = refl; short = may.tick tick refl }
timed asked (out.Read tick place bytes) may = record { tick = tick; at = refl; short = may.tick tick refl }
timed asked (out.Forwarded tick bytes) may = record { tick = tick; at = refl; short = may.tick tick refl }
timed asked (out.Busy tick) may = record { tick = tick; at = refl; short = may.tick tick refl }
timed asked (out.Lost tick) may = record { tick = tick; at = refl; short = may.tick tick refl }
timed asked (out.Cut tick) may = record { tick = tick; at = refl; short = may.tick tick refl }

-- one more that all are
all_and : {A : Type 0} (P : A → Type 0) (x : A) (xs : List A) → P x → All P xs → All P (x ∷ xs)
all_and P x xs p all zero d below = p
all_and P x xs p all (suc k) d below = all k d (omega arith)

pub all_timed : {n : ℕ} (asks : List (Op × ℕ)) (outcomes : List (Outcome n)) → EachMayStand asks outcomes → All (λ outcome. IsTimed outcome) outcomes
unfolding EachMayStand
all_timed [] [] each = λ k d below. absurd (omega arith)
all_timed [] (outcome ∷ outcomes) each = absurd each
all_timed (ask ∷ asks) [] each = absurd each
all_timed {n = n} (ask ∷ asks) (outcome ∷ outcomes) each =
    all_and (λ (o : Outcome n). IsTimed o) outcome outcomes (timed ask.0 outcome each.0) (all_timed asks outcomes each.1)

-- what was read of a text can be checked
pub checkable : {n : ℕ} (raw : RawShape) (seed : ℕ) (events : List (Event n)) (outcomes : List (Outcome n)) (banks : List ℕ) (rules : Rules)
    → banks ≡ banks_of raw seed → AreWithin rules → AreEventsFor (total_of raw) 0 events → length events ≤ most_rows → length outcomes ≡ length events
    → EachMayStand (asks_in events) outcomes → IsCheckable events outcomes banks rules
checkable raw seed events outcomes banks rules are within lawful few rows each =
    let size : length banks ≡ total_of raw = rw are (length-map-range_with_len (bank_of_line raw seed) 0 (total_of raw)) in
    record { within = within; lawful = rw size lawful; few = few; rows = rows; timed = all_timed (asks_in events) outcomes each }

-- the bank of one line more
pub one_bank_more : (raw : RawShape) (seed line : ℕ) (banks : List ℕ) (bank : ℕ) → banks ≡ map (bank_of_line raw seed) (range_with_len 0 line) → bank ≡ bank_of_line raw seed line
    → banks ++ (bank ∷ []) ≡ map (bank_of_line raw seed) (range_with_len 0 (line + 1))
one_bank_more raw seed line banks bank are is =
    rw (are, is) (sym (map-range_with_len_more (bank_of_line raw seed) 0 line line (omega arith)))
