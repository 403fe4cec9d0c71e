-- Streams of the parts of a trace are parts of a run.
use Rattle.std.proofs.Common.{◌≡◌, ℕ, ◌<◌, Bool, List, ◌++◌, sym, ap, ◌∙◌, subst}
use Rattle.cell_rows.specs.Device.{ArrayState}
use Rattle.trace_reader.specs.declared.event.Event.{Event}
use Rattle.module_shape.specs.{Addresses.{module_of, bank_shape}, Limits.{total_of}, declared.raw.RawShape.RawShape}
use Rattle.module_laws.specs.{Asking.{Asked, asked_of}, Serves.AreRecorded}
use Rattle.right_runs.specs.Banks.{bank_of_line, line_in_bank}
use Rattle.pcm_module.specs.{Asking.asked_for, State.bank_at}
use Rattle.run_laws.specs.Finishing.{IsFinishedTo}
use Rattle.trace_stream.specs.Asked.{events_in}
use Rattle.row_stream.specs.Ending.{HasEnded}
use Rattle.parted_laws.specs.Parted.{IsParted, Part, PartedLaw, ends_in}
use Rattle.parted_streams.specs.Streamed.{IsServedInParts, PartedStreamsLaw, Streamed, outcome_told, rows_joined}
use Rattle.parted_streams.proofs.Numbered.{came_there, numbered, rows_exist, rows_fall, rows_of_events, tables_same}

module _ {n m e : ℕ} (raw : RawShape) (seed : ℕ) (off : Bool) (part_of : ℕ → ℕ) (events : List (Event n)) (streams : ℕ → Streamed n m e)
    (array : ArrayState n m) (served : IsServedInParts raw seed off part_of events streams array) where
  abbrev home : ℕ → ℕ
  home = bank_of_line raw seed

  abbrev number : ℕ → ℕ
  number = line_in_bank raw seed

  stream_of : ℕ → Streamed n m e
  stream_of bank = streams (part_of bank)

  pub ended : (bank : ℕ) → let stream : Streamed n m e = streams (part_of bank) in
      HasEnded raw seed off stream.asked stream.module_ stream.array stream.places stream.told
  ended bank = (served.parts bank).ended

  abbrev parts : ℕ → Part n m e
  parts bank = record {
    histories = λ other. (ended bank).finished.0 other ++ (ended bank).history other;
    trace = asked_for (events_in (streams (part_of bank)).asked);
    banks = bank_at (streams (part_of bank)).module_;
    array = (streams (part_of bank)).array;
    outcome = outcome_told (streams (part_of bank));
  }

  finished : (bank : ℕ) → IsFinishedTo raw seed off (parts bank).histories (parts bank).trace (parts bank).banks (parts bank).array (parts bank).outcome
  finished bank = (ended bank).finished.1

  came : (bank : ℕ) → asked_of home number bank (numbered home part_of (part_of bank) events) ≡ asked_of home number bank (parts bank).trace
  came bank =
      came_there home part_of number bank events
      ∙ ap (λ (es : List (Event n)). asked_of home number bank (asked_for es)) (sym (served.parts bank).of_part)

  recorded : (bank : ℕ) → bank < raw.banks → AreRecorded (bank_shape (module_of raw) bank) ((parts bank).histories bank) (parts bank).outcome
      (asked_of home number bank (numbered home part_of (part_of bank) events))
  recorded bank few =
      subst (λ (it : List (Asked n)). AreRecorded (bank_shape (module_of raw) bank) ((parts bank).histories bank) (parts bank).outcome it) (sym (came bank))
      ((finished bank).recorded bank few)

  pub parted : IsParted raw seed off parts (rows_joined home part_of streams events) array
  parted = record {
    served = λ bank few. finished bank;
    banks = λ bank few. record {
      numbered = numbered home part_of (part_of bank) events;
      rows_of = rows_of_events home part_of streams (part_of bank) events;
      came = came bank;
      outcomes =
          tables_same home part_of streams number bank (bank_shape (module_of raw) bank) ((parts bank).histories bank) events (recorded bank few);
    };
    exist = rows_exist home part_of streams (total_of raw) events served.exist;
    ticks = rows_fall home part_of streams events served.ticks;
    joined = served.joined;
  }

pub parted_streams_law : PartedLaw → PartedStreamsLaw
parted_streams_law law n m e raw seed off part_of events streams array is served =
    let right =
    law n m e raw seed off (parts raw seed off part_of events streams array served) (rows_joined (bank_of_line raw seed) part_of streams events)
    array is (parted raw seed off part_of events streams array served) in
    (ends_in (parts raw seed off part_of events streams array served), right.0, right.1)
