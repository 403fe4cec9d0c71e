use Rattle.std.proofs.Common.{[], arith, rules}
use Rattle.disk_top.{specs.Serving.shown, proofs.Served.{fits-on, ready-on, served-on}}
use Rattle.disk_top.proofs.serving.serve.Goals as goal

pub serve_client-requires : goal.serve_client-requires
serve_client-requires g c = (
  omega arith,
  (
    search rules,
    (
      fits-on g.row.B c.args.plan c.in_ok-disk.disk.layout c.args.lines.now.module_.shape c.requires.line c.in_ok-disk.ensures.layout c.requires.new.1.shape c.requires.plan,
      ready-on c.in_ok-disk.disk c.args.lines.now c.requires.new.1.puts (c.in_ok-disk.ensures.ready [] (c.new_lines_are_whole_sectors.ensures g.row.B c.args.plan.layout).0),
    ),
  ),
)

pub returns-clause-served : goal.returns-clause-served
returns-clause-served g c = λ cuts new.
    let told = c.serve_client.ensures.session in
    served-on g.A.CellArray.state (record { plan = c.args.plan; cuts = cuts })
    (shown g.S.Source.left g.S.Source.taken g.S.Source.faults g.K.Sink.written g.K.Sink.faults c.args.source.now c.args.sink.now)
    (shown g.S.Source.left g.S.Source.taken g.S.Source.faults g.K.Sink.written g.K.Sink.faults c.serve_client.new.source c.serve_client.new.sink)
    c.args.lines.now c.serve_client.new.lines c.in_ok-disk.disk.layout c.serve_client.result c.in_ok-disk.ensures.layout new
    told.0 told.2 c.serve_client.ensures.has c.serve_client.ensures.kind c.serve_client.ensures.cuts
