use Rattle.std.proofs.Common.{List, [], sym, subst}
use Rattle.atomic_sectors.specs.Sectors.{Fits}
use Rattle.module_shape.specs.Limits.{total_of}
use Rattle.disk_rules.specs.{Disk.told, declared.DiskAnswer.DiskAnswer, declared.DiskRequest.DiskRequest}
use Rattle.disk_bytes.specs.Serving.{IsServed}
use Rattle.disk_lines.specs.{Lines.{Kind, writes_of}, Serving.IsDiskByRows}
use Rattle.disk_promise.{specs.Keeping.IsDiskKept, proofs.Keeping.{new-served, ok-so}}
use Rattle.disk_promise.proofs.serve_disk.Goals as goal

pub returns-clause-kept : goal.returns-clause-kept
returns-clause-kept g c =
    let layout = c.args.disk.now.layout in
    let now = c.serve_disk-served.new.lines in
    let array = g.A.CellArray.state now.array in
    let fits = subst (λ (kind : Kind). Fits g.row.B layout (total_of kind.shape)) (sym c.serve_disk-served.ensures.kind) c.requires.fits in
    let Was : List (DiskRequest × DiskAnswer) → Type 0 = λ asked. IsServed g.row.B layout asked (writes_of c.args.lines.now.puts) in
    let all = c.args.requests.now in
    ok-so (λ answers. (asked : List (DiskRequest × DiskAnswer)) → Was asked → IsDiskByRows now.module_ now.heard layout (told asked all answers.items))
    (λ answers. (asked : List (DiskRequest × DiskAnswer)) → Was asked → IsDiskKept now.module_ array now.heard layout (told asked all answers.items))
    (λ answers had asked served.
    c.no_moment_loses_a_disk.ensures g.row.B g.row.M g.row.E now.module_ array now.heard layout (told asked all answers.items) c.stands.ensures.shape
    fits c.serve_disk-served.ensures.has (had asked served))
    c.serve_disk-served.result c.serve_disk-served.ensures.served

pub returns-clause-new : goal.returns-clause-new
returns-clause-new g c none =
    let layout = c.args.disk.now.layout in
    let now = c.serve_disk-served.new.lines in
    let array = g.A.CellArray.state now.array in
    let fits = subst (λ (kind : Kind). Fits g.row.B layout (total_of kind.shape)) (sym c.serve_disk-served.ensures.kind) c.requires.fits in
    let Was : List (DiskRequest × DiskAnswer) → Type 0 = λ asked. IsServed g.row.B layout asked (writes_of c.args.lines.now.puts) in
    let all = c.args.requests.now in
    ok-so (λ answers. (asked : List (DiskRequest × DiskAnswer)) → Was asked → IsDiskByRows now.module_ now.heard layout (told asked all answers.items))
    (λ answers. IsDiskKept now.module_ array now.heard layout (told [] all answers.items))
    (λ answers had.
    c.no_moment_loses_a_disk.ensures g.row.B g.row.M g.row.E now.module_ array now.heard layout (told [] all answers.items) c.stands.ensures.shape
    fits c.serve_disk-served.ensures.has (had [] (new-served c.new_lines_are_a_new_disk.ensures layout c.args.lines.now.puts none)))
    c.serve_disk-served.result c.serve_disk-served.ensures.served
