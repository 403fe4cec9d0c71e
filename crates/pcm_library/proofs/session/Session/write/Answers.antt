use Rattle.std.proofs.Common.{rules, arith}
use Rattle.trace_reader.proofs.Sizes.{event_fits}
use Rattle.pcm_library.proofs.session.Session.write.Goals as goal

pub event-requires : goal.event-requires
event-requires g c = (search rules, (event_fits g.row.B c.has_short_lines.ensures, (omega (arith, c.if-line-lines.false, c.lines.ensures), c.told-bytes)))
