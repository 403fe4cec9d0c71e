use Rattle.std.proofs.Common.{true}
use Rattle.image_laws.proofs.Staying.{stays_law}
use Rattle.image_laws.proofs.sensed_stops_stay_right.Goals as goal

pub returns : goal.returns
returns c = stays_law c.logs_keep_their_laws.ensures c.histories_leave_the_array.ensures c.bank_tables_are_those_of_histories.ensures true
