use Rattle.std.proofs.Common.{◌≡◌, length, sym, ◌∙◌, ap, arith, None}
use Rattle.atomic_sectors.specs.Lines.{stand}
use Rattle.disk_rules.specs.{Disk.{refusal}, Standing.{disk_size}}
use Rattle.disk_bytes.proofs.{Answering.not_refused, Laying.written_back, Reading.bytes_read}
use Rattle.disk_bytes.proofs.serving.read.Goals as goal

pub returns-in-Ok-read-clause-reads : goal.returns-in-Ok-read-clause-reads
returns-in-Ok-read-clause-reads g c =
    let n = g.row.B in
    let layout = c.args.disk.now.layout in
    let stands = stand n (g.L.Lines.made c.args.lines.now) in
    let to = c.in-Ok.to in
    let bytes = c.read.new.to in
    let value : c.as_mut_slice.result.now ≡ to.items = c.as_mut_slice.ensures.value in
    let whole : to.len ≡ length to.items = sym c.as_mut_slice.ensures.len ∙ ap length value in
    let same : length bytes ≡ length to.items = c.read.ensures.length ∙ ap length value in
    let long : length bytes ≡ c.args.size = same ∙ c.in-Ok.ensures.count in
    let none : refusal (disk_size n layout) c.args.at c.args.size ≡ None = grind arith in
    let within = not_refused (disk_size n layout) c.args.at c.args.size none in
    record {
      refused = sym none;
      right = λ writes held.
          written_back to.len bytes to.items whole same
          ∙ bytes_read n layout stands bytes c.args.at c.args.size long within (λ i below. c.in-Ok-read.ensures.read i (omega (arith, c.read.ensures.length, below))) writes held;
    }
