-- No event of a module is of another bank than one of all.
use Rattle.std.proofs.Common.{◌≡◌, ℕ, ◌<◌, ◌&&◌, Bool, true, List, [], ◌∷◌, refl, ap, ap₂, ◌∙◌, cond, arith}
use Rattle.std.proofs.lemmas.Bool.{le-leb}
use Rattle.trace_reader.specs.{Events.{AreEventsFor, IsOpFor}, declared.event.Event.Event, declared.event.EventOp.EventOp}
use Rattle.trace_reader.specs.declared.event.EventOp.TheVariants.{Read, Write, Mask, Cut}
use Rattle.module_shape.specs.{Limits.{IsShape, total_of}, declared.raw.RawShape.RawShape}
use Rattle.right_runs.specs.Banks.{bank_of_line}
use Rattle.run_laws.proofs.Mixing.{bank-exists}
use Rattle.drawn_parts.specs.Parts.{events_for, has_bank, is_for}
use Rattle.stream_laws.specs.Drawing.{EveryBankLaw, every_bank}

module _ (raw : RawShape) (seed : ℕ) (is : IsShape raw) where
  -- the bank of a line is one of all
  has-home : (line : ℕ) → line < total_of raw → has_bank every_bank (bank_of_line raw seed line) ≡ true
  has-home line low =
      let below = bank-exists raw seed is line low in
      ap₂ (λ (a : Bool) (b : Bool). a && b) (le-leb 0 (bank_of_line raw seed line) (omega arith)) (le-leb (bank_of_line raw seed line) 63 (omega (arith, below, is.few_banks)))

  -- so each event is one for them
  is-for : {n : ℕ} (op : EventOp n) → IsOpFor (total_of raw) op → is_for (bank_of_line raw seed) every_bank op ≡ true
  is-for (Read line) low = has-home line low
  is-for (Write line bytes) both = has-home line both.0
  is-for (Mask line bytes given) both = has-home line both.0
  is-for Cut all = refl

  all-for : {n : ℕ} (before : ℕ) (events : List (Event n)) → AreEventsFor (total_of raw) before events → events_for (bank_of_line raw seed) every_bank events ≡ events
  unfolding AreEventsFor
  all-for before [] lawful = refl
  all-for before (event ∷ rest) lawful =
      ap (λ (own : Bool). cond own (event ∷ events_for (bank_of_line raw seed) every_bank rest) (events_for (bank_of_line raw seed) every_bank rest)) (is-for event.op lawful.0.op)
      ∙ ap (λ events. event ∷ events) (all-for event.tick rest lawful.1)

pub every_bank_law : EveryBankLaw
every_bank_law n seed before raw events is lawful = all-for raw seed is before events lawful
