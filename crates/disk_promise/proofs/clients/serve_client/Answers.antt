use Rattle.std.proofs.Common.{List, [], sym, subst}
use Rattle.atomic_sectors.specs.{Lines.stand, Sectors.Fits}
use Rattle.disk_rules.specs.{declared.DiskAnswer.DiskAnswer, declared.DiskRequest.DiskRequest}
use Rattle.disk_bytes.specs.Serving.{IsServed}
use Rattle.module_shape.specs.Limits.{total_of}
use Rattle.disk_lines.specs.{Lines.{Kind, writes_of}, Serving.bytes_by_rows}
use Rattle.disk_server.specs.Messages.{asked}
use Rattle.disk_promise.proofs.Keeping.{new-served}
use Rattle.disk_promise.proofs.clients.serve_client.Goals as goal

pub returns-clause-session : goal.returns-clause-session
returns-clause-session g c =
    let layout = c.args.disk.now.layout in
    let now = c.serve-ended.new.lines in
    let array = g.A.CellArray.state now.array in
    let session = c.serve-ended.ensures.session in
    let fits = subst (λ (kind : Kind). Fits g.row.B layout (total_of kind.shape)) (sym c.serve-ended.ensures.kind) c.requires.fits in
    let kept = λ (asked : List (DiskRequest × DiskAnswer)) (served : IsServed g.row.B layout asked (writes_of now.puts)).
    c.no_moment_loses_a_disk.ensures g.row.B g.row.M g.row.E now.module_ array now.heard layout asked c.stands.ensures.shape fits c.stands.ensures.has
    (record {
      writes = served.0;
      answers = served.1.answers;
      rows = c.lines_that_agree_are_one_disk.ensures g.row.B layout (total_of now.module_.shape) (stand g.row.B (writes_of now.puts)) (bytes_by_rows now.module_ now.heard) served.0
          fits (λ line exists. sym (c.stands.ensures.stands line exists)) served.1.lines;
    }) in (
      session,
      (λ earlier served. kept (asked session.messages earlier) (session.serves.answers earlier served)),
      (λ none. kept (asked session.messages [])
          (session.serves.answers [] (new-served c.new_lines_are_a_new_disk.ensures layout c.args.lines.now.puts none))),
    )
