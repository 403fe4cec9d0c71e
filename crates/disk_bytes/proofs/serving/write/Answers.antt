use Rattle.std.proofs.Common.{length, refl, arith}
use Rattle.atomic_sectors.proofs.Making.{at_end}
use Rattle.disk_bytes.specs.Parts.{HasPart}
use Rattle.disk_bytes.proofs.serving.write.Goals as goal

pub returns-in-Ok-clause-writes : goal.returns-in-Ok-clause-writes
returns-in-Ok-clause-writes g c before held = record {
  refused = grind arith;
  done = length c.args.bytes.now;
  made = refl;
  holds = c.in-Ok.ensures.written before held;
}

pub returns-in-Err-clause-writes : goal.returns-in-Err-clause-writes
returns-in-Err-clause-writes g c before held =
    let part = at_end (HasPart g.row.B c.args.disk.now.layout c.args.at c.args.bytes.now before) (g.L.Lines.made c.args.lines.now) (g.L.Lines.made c.write.new.lines) (c.write.ensures.moments before held) in
    record { refused = grind arith; done = part.0; made = part.1; holds = part.2 }
