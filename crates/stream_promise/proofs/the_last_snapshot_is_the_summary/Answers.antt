use Rattle.stream_promise.proofs.Promise.{last-snapshot}
use Rattle.stream_promise.proofs.the_last_snapshot_is_the_summary.Goals as goal

pub returns : goal.returns
returns g c = last-snapshot
