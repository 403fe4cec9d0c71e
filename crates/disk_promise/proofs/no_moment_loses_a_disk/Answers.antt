use Rattle.disk_promise.proofs.Keeping.{disk-law}
use Rattle.disk_promise.proofs.no_moment_loses_a_disk.Goals as goal

pub returns : goal.returns
returns c = disk-law c.lines_that_agree_are_one_disk.ensures c.no_moment_loses_bytes.ensures
