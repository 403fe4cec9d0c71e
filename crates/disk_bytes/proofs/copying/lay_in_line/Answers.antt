use Rattle.std.proofs.Common.{arith}
use Rattle.disk_bytes.proofs.Laying.{laid_there}
use Rattle.disk_bytes.proofs.copying.lay_in_line.Goals as goal

pub returns : goal.returns
returns g c = laid_there c.args.line.now c.copy_from_slice.new.self c.args.bytes.now c.args.begin c.args.from c.args.count _ _
    (omega (arith, c.requires.room, c.told-line)) c.requires.given (omega arith) (omega arith) c.copy_from_slice.ensures.after
