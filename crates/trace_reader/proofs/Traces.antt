-- How a trace is read, one record after the other.
use Rattle.std.proofs.Common.{◌≡◌, ℕ, ◌+◌, ◌<◌, ◌≤◌, List, [], ◌∷◌, ◌++◌, true, false, Bor, refl, sym, ap, ◌∙◌, arith, nat_lt}
use Rattle.std.{specs.Prelude.{Result, Ok, Err}, proofs.lemmas.Bool.Decides.nat_tests, proofs.lemmas.List.{append_assoc, append-nil}}
use Rattle.csv.specs.{Reading.{default_config, records, strip_bom}, declared.reader.Reader.Reader}
use Rattle.trace_reader.specs.{Records.HasLeft, Rows.event_of, Trace.{after_events, and_then_rows, event_before, events_of, fault_at, is_header, most_rows, rows_from, trace_of}}
use Rattle.trace_reader.specs.{declared.event.Event.Event, declared.fault.Kind.Kind, declared.fault.ParseFault.ParseFault}
use Rattle.trace_reader.specs.declared.fault.Kind.TheVariants as kind
use Rattle.trace_reader.specs.declared.fault.ParseFault.TheVariants as fault

pub after_events-nil : {n : ℕ} (r : Result (List (Event n)) ParseFault) → r ≡ after_events [] r
after_events-nil r = grind arith

-- where no events are in front
pub after_none : (n : ℕ) (events : List (Event n)) (r : Result (List (Event n)) ParseFault) → events ≡ [] → r ≡ after_events events r
after_none n events r none = rw none (after_events-nil r)

pub after_events-one : {n : ℕ} (events : List (Event n)) (event : Event n) (r : Result (List (Event n)) ParseFault) → after_events events (event_before event r) ≡ after_events (events ++ (event ∷ [])) r
after_events-one events event (Ok behind) = ap Ok (sym (append_assoc events (event ∷ []) behind))
after_events-one events event (Err fault) = refl

-- so far these events were read of rows that mean `total`, up to the row before this number, whose tick is `before`
pub record HasRead (n lines : ℕ) (total : Result (List (Event n)) ParseFault) (reader : Reader (Bor (List ℕ))) (events : List (Event n)) (number before : ℕ) : Type 0 where
  pub rows : List (List (List ℕ))
  pub left : HasLeft reader rows
  pub is : total ≡ after_events events (rows_from n lines number before rows)

pub begins : (n lines : ℕ) (reader : Reader (Bor (List ℕ))) (rows : List (List (List ℕ))) (events : List (Event n)) (number before : ℕ) → HasLeft reader rows
    → HasRead n lines (after_events events (rows_from n lines number before rows)) reader events number before
begins n lines reader rows events number before left = record { rows = rows; left = left; is = refl }

-- the header
trace_of-records : (n lines : ℕ) (bytes : List ℕ) (all : List (List (List ℕ))) → records default_config (strip_bom bytes) ≡ all → trace_of n lines bytes ≡ events_of n lines all
unfolding trace_of
trace_of-records n lines bytes all e = ap (events_of n lines) e

pub header-missing : (n lines : ℕ) (bytes : List ℕ) → records default_config (strip_bom bytes) ≡ [] → trace_of n lines bytes ≡ fault_at 0 kind.Header
unfolding events_of
header-missing n lines bytes e = trace_of-records n lines bytes [] e

pub header-wrong : (n lines : ℕ) (bytes : List ℕ) (first : List (List ℕ)) (rows : List (List (List ℕ))) → records default_config (strip_bom bytes) ≡ first ∷ rows → is_header first ≡ false → trace_of n lines bytes ≡ fault_at 0 kind.Header
unfolding events_of
header-wrong n lines bytes first rows e wrong = trace_of-records n lines bytes (first ∷ rows) e ∙ rw wrong refl

pub header-read : (n lines : ℕ) (bytes : List ℕ) (first : List (List ℕ)) (rows : List (List (List ℕ))) → records default_config (strip_bom bytes) ≡ first ∷ rows → is_header first ≡ true
    → trace_of n lines bytes ≡ rows_from n lines 1 0 rows
unfolding events_of
header-read n lines bytes first rows e header = trace_of-records n lines bytes (first ∷ rows) e ∙ rw header refl

-- no row more
pub rows-end : (n lines : ℕ) (total : Result (List (Event n)) ParseFault) (reader : Reader (Bor (List ℕ))) (events : List (Event n)) (number before : ℕ)
    → (h : HasRead n lines total reader events number before) → h.rows ≡ [] → total ≡ Ok events
unfolding rows_from
rows-end n lines total reader events number before h none =
    h.is ∙ ap (λ (rows : List (List (List ℕ))). after_events events (rows_from n lines number before rows)) none ∙ ap Ok (append-nil events)

-- a row more
pub rows_from-step : (n lines number before : ℕ) (fields : List (List ℕ)) (rest : List (List (List ℕ))) → number ≤ most_rows
    → rows_from n lines number before (fields ∷ rest) ≡ and_then_rows number (event_of n lines before fields) (λ event. rows_from n lines (number + 1) event.tick rest)
unfolding rows_from
rows_from-step n lines number before fields rest within =
    let allowed : nat_lt most_rows number ≡ false = grind (arith, nat_tests) in
    rw allowed refl

rows-next : (n lines : ℕ) (total : Result (List (Event n)) ParseFault) (reader : Reader (Bor (List ℕ))) (events : List (Event n)) (number before : ℕ) (fields : List (List ℕ)) (rest : List (List (List ℕ)))
    → (h : HasRead n lines total reader events number before) → h.rows ≡ fields ∷ rest → number ≤ most_rows
    → total ≡ after_events events (and_then_rows number (event_of n lines before fields) (λ event. rows_from n lines (number + 1) event.tick rest))
rows-next n lines total reader events number before fields rest h some within =
    h.is ∙ ap (λ (rows : List (List (List ℕ))). after_events events (rows_from n lines number before rows)) some
    ∙ ap (after_events events) (rows_from-step n lines number before fields rest within)

pub row-faulty : (n lines : ℕ) (total : Result (List (Event n)) ParseFault) (reader : Reader (Bor (List ℕ))) (events : List (Event n)) (number before : ℕ) (fields : List (List ℕ)) (rest : List (List (List ℕ))) (kind : Kind)
    → (h : HasRead n lines total reader events number before) → h.rows ≡ fields ∷ rest → number ≤ most_rows
    → event_of n lines before fields ≡ Err kind → total ≡ fault_at number kind
row-faulty n lines total reader events number before fields rest kind h some within e =
    rows-next n lines total reader events number before fields rest h some within
    ∙ ap (λ (r : Result (Event n) Kind). after_events events (and_then_rows number r (λ event. rows_from n lines (number + 1) event.tick rest))) e

pub row-read : (n lines : ℕ) (total : Result (List (Event n)) ParseFault) (reader new : Reader (Bor (List ℕ))) (events : List (Event n)) (number before : ℕ) (fields : List (List ℕ)) (rest : List (List (List ℕ))) (event : Event n)
    → (h : HasRead n lines total reader events number before) → h.rows ≡ fields ∷ rest → HasLeft new rest → number ≤ most_rows
    → event_of n lines before fields ≡ Ok event → HasRead n lines total new (events ++ (event ∷ [])) (number + 1) event.tick
row-read n lines total reader new events number before fields rest event h some left within e = record {
  rows = rest;
  left = left;
  is =
      rows-next n lines total reader events number before fields rest h some within
      ∙ ap (λ (r : Result (Event n) Kind). after_events events (and_then_rows number r (λ event. rows_from n lines (number + 1) event.tick rest))) e
      ∙ after_events-one events event (rows_from n lines (number + 1) event.tick rest);
}

-- a row too many
pub rows-too_many : (n lines : ℕ) (total : Result (List (Event n)) ParseFault) (reader : Reader (Bor (List ℕ))) (events : List (Event n)) (number before : ℕ) (fields : List (List ℕ)) (rest : List (List (List ℕ)))
    → (h : HasRead n lines total reader events number before) → h.rows ≡ fields ∷ rest → most_rows < number → total ≡ Err fault.TooMany
unfolding rows_from
rows-too_many n lines total reader events number before fields rest h some over =
    let more : nat_lt most_rows number ≡ true = grind (arith, nat_tests) in
    h.is ∙ ap (λ (rows : List (List (List ℕ))). after_events events (rows_from n lines number before rows)) some ∙ rw more refl

-- a row more of a text, of which no reader is kept
text-next : (n lines : ℕ) (total : Result (List (Event n)) ParseFault) (events : List (Event n)) (number before : ℕ) (fields : List (List ℕ)) (rest : List (List (List ℕ))) (r : Result (Event n) Kind)
    → total ≡ after_events events (rows_from n lines number before (fields ∷ rest)) → number ≤ most_rows → event_of n lines before fields ≡ r
    → total ≡ after_events events (and_then_rows number r (λ event. rows_from n lines (number + 1) event.tick rest))
text-next n lines total events number before fields rest r is within e =
    is ∙ ap (after_events events) (rows_from-step n lines number before fields rest within)
    ∙ ap (λ (r : Result (Event n) Kind). after_events events (and_then_rows number r (λ event. rows_from n lines (number + 1) event.tick rest))) e

pub text-faulty : (n lines : ℕ) (total : Result (List (Event n)) ParseFault) (events : List (Event n)) (number before : ℕ) (fields : List (List ℕ)) (rest : List (List (List ℕ))) (kind : Kind)
    → total ≡ after_events events (rows_from n lines number before (fields ∷ rest)) → number ≤ most_rows → event_of n lines before fields ≡ Err kind → total ≡ fault_at number kind
text-faulty n lines total events number before fields rest kind is within e = text-next n lines total events number before fields rest (Err kind) is within e

pub text-read : (n lines : ℕ) (total : Result (List (Event n)) ParseFault) (events : List (Event n)) (number before : ℕ) (fields : List (List ℕ)) (rest : List (List (List ℕ))) (event : Event n)
    → total ≡ after_events events (rows_from n lines number before (fields ∷ rest)) → number ≤ most_rows → event_of n lines before fields ≡ Ok event
    → total ≡ after_events (events ++ (event ∷ [])) (rows_from n lines (number + 1) event.tick rest)
text-read n lines total events number before fields rest event is within e =
    text-next n lines total events number before fields rest (Ok event) is within e
    ∙ after_events-one events event (rows_from n lines (number + 1) event.tick rest)
