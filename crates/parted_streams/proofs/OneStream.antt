-- A stream is one of a single part.
use Rattle.std.proofs.Common.{◌≡◌, ℕ, ◌≤◌, Bool, true, List, [], ◌∷◌, refl, sym, ap, ◌∙◌, cond}
use Rattle.std.{specs.Prelude.{All}, proofs.lemmas.List.Elements.{All-head, All-tail, All-nil, All-cons}}
use Rattle.trace_reader.specs.{declared.event.Event.Event, declared.event.EventOp.EventOp, declared.event.EventOp.TheVariants.{Read, Write, Mask, Cut}}
use Rattle.row_rules.specs.{Lines.IsOfLines}
use Rattle.trace_rows.specs.Rows.{asks_of}
use Rattle.module_shape.specs.Limits.{total_of}
use Rattle.module_laws.specs.{Asking.{Asked}, Serves.TicksFall}
use Rattle.right_runs.specs.Banks.{bank_of_line}
use Rattle.pcm_module.specs.Asking.{asked_for}
use Rattle.trace_stream.specs.Asked.{events_in}
use Rattle.parted_streams.specs.Streamed.{EventTicksFall, OneStreamLaw, events_of, is_for}

module _ {n : ℕ} (home : ℕ → ℕ) where
  for_it : (op : EventOp n) → is_for home (λ bank. 0) 0 op ≡ true
  for_it (Read line) = refl
  for_it (Write line bytes) = refl
  for_it (Mask line bytes given) = refl
  for_it Cut = refl

  -- it has all events
  pub all_of_it : (events : List (Event n)) → events ≡ events_of home (λ bank. 0) 0 events
  all_of_it [] = refl
  all_of_it (event ∷ below) =
      let rest : List (Event n) = events_of home (λ bank. 0) 0 below in
      ap (λ (others : List (Event n)). event ∷ others) (all_of_it below)
      ∙ sym (ap (λ (is : Bool). cond is (event ∷ rest) rest) (for_it event.op))

module _ {n : ℕ} where
  pub events_exist : (lines : ℕ) (events : List (Event n)) → All (λ asked. IsOfLines lines asked.asks) (asked_for events)
      → All (λ event. IsOfLines lines (asks_of event.op)) events
  events_exist lines [] all = All-nil (λ (event : Event n). IsOfLines lines (asks_of event.op))
  events_exist lines (event ∷ below) all =
      All-cons (λ (event : Event n). IsOfLines lines (asks_of event.op)) event below
      (All-head (λ (asked : Asked n). IsOfLines lines asked.asks) _ (asked_for below) all)
      (events_exist lines below (All-tail (λ (asked : Asked n). IsOfLines lines asked.asks) _ (asked_for below) all))

  events_below : (tick : ℕ) (events : List (Event n)) → All (λ asked. asked.tick ≤ tick) (asked_for events) → All (λ other. other.tick ≤ tick) events
  events_below tick [] all = All-nil (λ (other : Event n). other.tick ≤ tick)
  events_below tick (event ∷ below) all =
      All-cons (λ (other : Event n). other.tick ≤ tick) event below
      (All-head (λ (asked : Asked n). asked.tick ≤ tick) _ (asked_for below) all)
      (events_below tick below (All-tail (λ (asked : Asked n). asked.tick ≤ tick) _ (asked_for below) all))

  pub events_fall : (events : List (Event n)) → TicksFall (asked_for events) → EventTicksFall events
  events_fall [] falls = tt
  events_fall (event ∷ below) falls = (events_below event.tick below falls.0, events_fall below falls.1)

pub one_stream_law : OneStreamLaw
one_stream_law n m e raw seed off stream ended silent = record {
  parts = λ bank. record { ended = ended; of_part = all_of_it (bank_of_line raw seed) (events_in stream.asked) };
  exist = events_exist (total_of raw) (events_in stream.asked) ended.finished.1.exist;
  ticks = events_fall (events_in stream.asked) ended.finished.1.ticks;
  joined = record { size = ended.finished.1.size; own = λ bank line few from to. refl; bounds = λ bank few. refl; silent = silent };
}
