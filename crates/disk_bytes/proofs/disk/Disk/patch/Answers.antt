use Rattle.std.proofs.Common.{◌≡◌, ℕ, ◌+◌, ◌-◌, ◌*◌, List, length, get_or, sym, ◌∙◌, ap}
use Rattle.atomic_sectors.specs.Lines.{stand}
use Rattle.disk_rules.specs.{Pieces.byte_in, Standing.{byte_of, sector_size}}
use Rattle.disk_bytes.proofs.{Laying.written_back, Patching.beside_same}
use Rattle.disk_bytes.proofs.disk.Disk.patch.Goals as goal

pub returns-clause-patched : goal.returns-clause-patched
returns-clause-patched g c y exists =
    let n = g.row.B in
    let layout = c.args.self.now.layout in
    let p = c.args.piece in
    let room = c.read_rest.new.self.room in
    let value : c.as_mut_slice.result.now ≡ room.items = c.as_mut_slice.ensures.value in
    let whole : room.len ≡ length room.items = sym c.as_mut_slice.ensures.len ∙ ap length value in
    let back = written_back room.len c.lay.new.lines room.items whole (c.lay.ensures.length ∙ ap length value) in
    ap (λ (ls : List (List ℕ)). byte_in n ls y) back ∙ c.lay.ensures.laid y
    ∙ beside_same p.begin (p.begin + p.size) y (get_or c.args.bytes.now (c.args.done + (y - p.begin)) 0) (byte_in n c.as_mut_slice.result.now y)
    (byte_of n layout (stand n (g.L.Lines.made c.args.lines.now)) (p.sector * sector_size n layout + y))
    (λ beside. ap (λ (ls : List (List ℕ)). byte_in n ls y) value ∙ c.in_ok-read_rest.ensures.rest y exists beside)
