use Rattle.std.proofs.Common.{refl, sym}
use Rattle.bank_core.proofs.{Begun.begins-copy, Sizes.{bank_fits, bytes_fits, cells_fits, running_fits, writer_fits}}
use Rattle.bank_core.proofs.bank.Bank.start_copy.Goals as goal

pub returns : goal.returns
returns g c =
    λ old new from held sound same.
    begins-copy c.args.region c.args.target c.args.step c.args.self.now c.start.new.self c.start.result c.begin-writer.result c.args.copied c.args.seen c.decode-bytes.result old new
    c.requires.next c.requires.place c.decode-bytes.ensures.bytes
    (record { writes = c.begin-writer.ensures.writes; begun = c.begin-writer.ensures.begun; bytes = c.begin-writer.ensures.bytes; few = c.begin-writer.ensures.steps })
    c.start.ensures.answer c.start.ensures.bank from held sound same

pub decode-bytes-requires : goal.decode-bytes-requires
decode-bytes-requires g c =
    (cells_fits c.requires.layout, (bytes_fits c.requires.layout, c.requires.layout))

pub begin-writer-requires : goal.begin-writer-requires
begin-writer-requires g c =
    let layout = c.requires.layout in
    (cells_fits layout, (bytes_fits layout, (writer_fits layout, layout)))

pub start-requires : goal.start-requires
start-requires g c =
    let begun = c.begin-writer.ensures.begun c.requires.sound.0 c.requires.sound.1 c.requires.sound.2 in
    let layout = c.requires.layout in
    (bank_fits layout, (running_fits layout, (c.requires.idle, (refl, (sym c.requires.next, begun)))))
