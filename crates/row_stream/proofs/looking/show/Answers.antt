use Rattle.std.proofs.Common.{refl}
use Rattle.row_stream.proofs.looking.show.Goals as goal

pub returns-clause-looks : goal.returns-clause-looks
returns-clause-looks g c = record {
  rows = c.snapshot.ensures.rows;
  told = c.snapshot.ensures.told;
  prints = c.snapshot.ensures.prints;
  snapshots = λ ends are. (
    record { rows = c.rows.result; tick = c.args.tick; counts = c.counts.result; retired = c.retired.result; wear = c.array_wear.result },
    record { rows = c.rows.ensures; tick = refl; counts = c.counts.ensures; retired = (ends, are, c.retired.ensures ends are); wear = c.array_wear.ensures },
    c.snapshot.ensures.snapshots,
  );
}
