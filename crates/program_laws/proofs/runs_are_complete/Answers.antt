use Rattle.std.proofs.Common.{arith}
use Rattle.program_laws.proofs.Completing.{completeness}
use Rattle.program_laws.proofs.runs_are_complete.Goals as goal

pub returns : goal.returns
returns c =
    completeness c.generated_events_are_lawful.ensures c.reads_are_not_lost_without_cuts.ensures c.room_is_taken.ensures c.no_row_falls_short.ensures

pub generated_events_are_lawful-requires : goal.generated_events_are_lawful-requires
generated_events_are_lawful-requires c = grind arith

pub reads_are_not_lost_without_cuts-requires : goal.reads_are_not_lost_without_cuts-requires
reads_are_not_lost_without_cuts-requires c = grind arith

pub room_is_taken-requires : goal.room_is_taken-requires
room_is_taken-requires c = grind arith

pub no_row_falls_short-requires : goal.no_row_falls_short-requires
no_row_falls_short-requires c = grind arith
