use Rattle.std.proofs.Common.{List, sym, subst}
use Rattle.atomic_sectors.specs.Sectors.{Fits}
use Rattle.disk_rules.specs.{Disk.told, declared.DiskAnswer.DiskAnswer, declared.DiskRequest.DiskRequest}
use Rattle.disk_bytes.specs.Serving.{IsServed}
use Rattle.module_shape.specs.Limits.{total_of}
use Rattle.disk_lines.{specs.Lines.{Kind, writes_of}, specs.Serving.IsDiskByRows, proofs.Disks.{disk-by-rows, ok-so}}
use Rattle.disk_lines.proofs.serving.serve_disk.Goals as goal

pub returns-clause-served : goal.returns-clause-served
returns-clause-served g c =
    let layout = c.args.disk.now.layout in
    let now = c.serve_all-served.new.lines in
    let fits = subst (λ (kind : Kind). Fits g.row.B layout (total_of kind.shape)) (sym c.serve_all-served.ensures.kind) c.requires.fits in
    ok-so (λ answers. (asked : List (DiskRequest × DiskAnswer)) → IsServed g.row.B layout asked (writes_of c.args.lines.now.puts) → IsServed g.row.B layout (told asked c.args.requests.now answers.items) (writes_of now.puts))
    (λ answers. (asked : List (DiskRequest × DiskAnswer)) → IsServed g.row.B layout asked (writes_of c.args.lines.now.puts) → IsDiskByRows now.module_ now.heard layout (told asked c.args.requests.now answers.items))
    (λ answers had asked served. disk-by-rows c.lines_that_agree_are_one_disk.ensures now.module_ now.heard now.puts c.stands.ensures.stands layout fits (told asked c.args.requests.now answers.items) (had asked served))
    c.serve_all-served.result c.serve_all-served.ensures.served
