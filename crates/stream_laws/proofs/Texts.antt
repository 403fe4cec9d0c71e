-- The text of events is read as these events.
use Rattle.std.proofs.Common.{◌≡◌, ℕ, ◌+◌, ◌≤◌, ◌==◌, List, [], ◌∷◌, length, map, false, refl, ap, ◌∙◌, arith}
use Rattle.std.{specs.Prelude.Ok, proofs.lemmas.Bool.Decides.nat_tests}
use Rattle.csv.specs.Records.{field_at}
use Rattle.csv.specs.declared.parser.State.TheVariants as st
use Rattle.trace_reader.specs.{Events.AreEventsFor, Trace.is_header, declared.event.Event.Event}
use Rattle.trace_gen.{specs.EventText.event_fields, specs.Generated.generated, specs.Laws.{AllHaveBytes, numbered_lines}, proofs.Lawful.long_generated_law}
use Rattle.trace_gen.proofs.Read.{event-read, header_fields, no-mark, text-records}
use Rattle.trace_stream.{specs.Laws.all_events, specs.Stream.{most_streamed, records_left, stream_of, stream_records, stream_rows}, proofs.Traces.asked-ok}
use Rattle.stream_laws.specs.Laws.{DrawnLaw, TextLaw}

rows-asked : (n lines rows before : ℕ) (events : List (Event n)) → lines ≤ numbered_lines → AreEventsFor lines before events → AllHaveBytes events → rows + length events ≤ most_streamed
    → stream_rows n lines rows before (map event_fields events) ≡ Ok (all_events events)
unfolding AreEventsFor AllHaveBytes stream_rows
rows-asked n lines rows before [] few for has fits = refl
rows-asked n lines rows before (event ∷ rest) few for has fits =
    let allowed : (rows == most_streamed) ≡ false = grind (arith, nat_tests) in
    let rest_fits : rows + 1 + length rest ≤ most_streamed = omega arith in
    rw (allowed, asked-ok n lines rows before (event_fields event) event (event-read n lines before event few for.0 has.0), rows-asked n lines (rows + 1) event.tick rest few for.1 has.1 rest_fits) refl

after-header : (n lines : ℕ) (rows : List (List (List ℕ))) → stream_records n lines (header_fields ∷ rows) ≡ stream_rows n lines 0 0 rows
unfolding stream_records is_header field_at
after-header n lines rows = refl

pub text_law : TextLaw
unfolding stream_of
text_law n lines events few for has fits =
    ap (λ (text : List ℕ). stream_records n lines (records_left st.StartRecord text)) (no-mark events)
    ∙ ap (stream_records n lines) (text-records n lines events few for has)
    ∙ after-header n lines (map event_fields events)
    ∙ rows-asked n lines 0 0 events few for has (omega arith)

pub drawn_law : DrawnLaw
drawn_law n seed lines mix some few is =
    let all = long_generated_law n seed lines mix some few is in
    let rows = is.few_rows in
    let many : length (generated n seed lines mix) ≡ mix.rows = all.rows in
    text_law n lines (generated n seed lines mix) (omega arith) all.lawful all.bytes (omega arith)
