use Rattle.disk_bytes.proofs.Answering.{serves_read, serves_write}
use Rattle.disk_bytes.proofs.serving.serve.Goals as goal

pub returns-in-Read-clause-served : goal.returns-in-Read-clause-served
returns-in-Read-clause-served g c =
    serves_read g.row.B c.args.disk.now.layout c.args.request.now c.read.result (g.L.Lines.made c.args.lines.now) (g.L.Lines.made c.read.new.lines)
    c.in-Read.at c.in-Read.size c.in-Read.is c.read.ensures.made c.read.ensures.reads

pub returns-in-Write-clause-served : goal.returns-in-Write-clause-served
returns-in-Write-clause-served g c =
    serves_write g.row.B c.args.disk.now.layout c.args.request.now c.write.result (g.L.Lines.made c.args.lines.now) (g.L.Lines.made c.write.new.lines)
    c.in-Write.at c.in-Write.bytes c.as_slice.result.now c.in-Write.is c.as_slice.ensures.value c.write.ensures.writes
