-- The table of a stream, by its numbered rows and by its events.
use Rattle.std.proofs.Common.{◌≡◌, ℕ, List, reverse, length, map, sym, ap, ◌∙◌}
use Rattle.std.proofs.lemmas.List.{length-reverse, reverse-reverse}
use Rattle.trace_reader.specs.declared.event.Event.{Event}
use Rattle.result_rows.specs.declared.Outcome.{Outcome}
use Rattle.module_laws.specs.Asking.{row_with}
use Rattle.bank_timing.specs.Extending.{outcome_in}
use Rattle.pcm_module.{specs.Asking.asked_for, proofs.Tables.rows-forwards}
use Rattle.row_stream.specs.Ending.{rows_of}

-- the numbered rows of events, the newest first, are their table
pub rows-are : {n : ℕ} (events : List (Event n)) (outcomes : List (Outcome n)) → length outcomes ≡ length events
    → map (row_with (outcome_in outcomes)) (asked_for events) ≡ rows_of events outcomes
rows-are {n = n} events outcomes size =
    ap (λ (es : List (Event n)). map (row_with (outcome_in outcomes)) (asked_for es)) (sym (reverse-reverse events))
    ∙ rows-forwards (reverse events) outcomes (size ∙ sym (length-reverse events))
