-- What a text decides of the stream that it is, and that settles ask for no event.
use Rattle.std.proofs.Common.{◌≡◌, ℕ, List, [], ◌∷◌, reverse, Option, refl, sym, ap, subst, ◌∙◌}
use Rattle.std.{specs.Prelude.{Ok, Err}, proofs.lemmas.List.reverse-reverse}
use Rattle.trace_reader.specs.declared.event.Event.{Event}
use Rattle.right_runs.specs.Runs.{RunsRightTo}
use Rattle.row_printer.specs.Printing.{table_of}
use Rattle.trace_stream.specs.{Asked.events_in, Stream.{front_of, stream_of}, declared.asked.Asked.Asked, declared.asked.Asked.TheVariants.{Happens, Settle, Query, Look, Peek, Until, UntilAny}}
use Rattle.row_stream.specs.{Asking.read_of, Ending.rows_of, Laws.{FaultyLaw, ReadLaw, SettleLaw, without_settles}}

module _ {S : Type 0} (left : S → Option (List ℕ)) (taken faults : S → ℕ) where
  pub one-end : ReadLaw left taken faults
  one-end n lines old new old2 new2 asked asked2 e read faulty of =
      let clash : Ok (reverse (read_of asked)) ≡ Err e = sym read.stream ∙ sym (ap (stream_of n lines) of.2) ∙ faulty.fault of.0 of.1 in
      cc clash

  pub one-fault : FaultyLaw left taken faults
  one-fault n lines old new old2 new2 asked asked2 e e2 one other text a b =
      let faults_meet : Err e ≡ Err e2 = sym (one.fault a.0 a.1) ∙ ap (stream_of n lines) (a.2 ∙ sym b.2) ∙ other.fault b.0 b.1 in
      let fronts_meet : reverse (read_of asked) ≡ reverse (read_of asked2) = sym (one.front a.0 a.1) ∙ ap (front_of n lines) (a.2 ∙ sym b.2) ∙ other.front b.0 b.1 in
      (cc faults_meet, sym (reverse-reverse (read_of asked)) ∙ ap reverse fronts_meet ∙ reverse-reverse (read_of asked2))

no-events : {n : ℕ} (asked : List (Asked n)) → events_in (without_settles asked) ≡ events_in asked
no-events [] = refl
no-events (Happens event ∷ before) = ap (λ events. event ∷ events) (no-events before)
no-events (Settle tick ∷ before) = no-events before
no-events (Query tick ∷ before) = no-events before
no-events (Look tick ∷ before) = no-events before
no-events (Peek peek ∷ before) = no-events before
no-events (Until until ∷ before) = no-events before
no-events (UntilAny until ∷ before) = no-events before

pub settle-law : SettleLaw
settle-law n m e raw seed off asked module_ array places told ended =
    let P : List (Event n) → Type 0 = λ events. RunsRightTo e raw seed off (rows_of events (table_of places told)) array ended.ends in
    (ended.ends, ended.are, subst P (sym (no-events asked)) ended.right)
