use Rattle.std.proofs.Common.{arith, ◌≡◌, refl, sym, ap, ◌∙◌}
use Rattle.power_recovery.{specs.Kept.{KeptState, next_work}, proofs.Frames.next_work-completed}
use Rattle.bank_core.{specs.Running.operation_of, proofs.Answering.IsBank-completed, proofs.Begun.begins-store, proofs.Heads.store-head-completed}
use Rattle.bank_core.proofs.Sizes.{bank_fits, bytes_fits, cells_fits, running_fits, writer_fits}
use Rattle.bank_core.proofs.bank.Bank.start_store.Goals as goal

pub invariant_of-self : goal.invariant_of-self
invariant_of-self g c =
    IsBank-completed g.row.M g.row.E c.self.inside.kept c.complete.new.self c.decode-under.result c.self.inside.waiting.items _ _
    c.complete.ensures.kept c.complete.ensures.in_range c.self.invariant

pub returns : goal.returns
returns g c =
    rw (← c.self.view_is)
    (λ old new held sound same.
    begins-store c.args.line c.args.slot c.args.target
    (record {
      kept = c.self.inside.kept;
      running = operation_of c.self.inside.running;
      waiting = c.self.inside.waiting.items;
      lost = c.self.inside.lost.items;
      rows_below = c.self.inside.rows_below;
    })
    c.start.new.self c.start.result c.begin-writer.result c.complete.new.self c.args.seen c.decode-under.result c.head_bytes-bytes.result old new
    (rw (← c.self.view_is) at c.requires.next) (rw (← c.self.view_is) at c.requires.place) c.decode-under.ensures.bytes c.complete.ensures.kept c.head_bytes-bytes.ensures
    (record { writes = c.begin-writer.ensures.writes; begun = c.begin-writer.ensures.begun; bytes = c.begin-writer.ensures.bytes; few = c.begin-writer.ensures.steps })
    c.start.ensures.answer c.start.ensures.bank held sound same)

pub decode-under-requires : goal.decode-under-requires
decode-under-requires g c =
    (cells_fits c.requires.layout, (bytes_fits c.requires.layout, c.requires.layout))

pub begin-writer-requires : goal.begin-writer-requires
begin-writer-requires g c =
    let layout = c.requires.layout in
    (cells_fits layout, (bytes_fits layout, (writer_fits layout, layout)))

pub start-requires : goal.start-requires
start-requires g c =
    let begun = c.begin-writer.ensures.begun c.requires.sound.0 c.requires.sound.1 c.requires.sound.2 in
    let idle = rw (← c.self.view_is) at c.requires.idle in
    let next = rw (← c.self.view_is) at c.requires.next in
    let still : next_work c.complete.new.self ≡ next_work c.self.inside.kept =
    ap (λ (k : KeptState g.row.B). next_work k) c.complete.ensures.kept ∙ next_work-completed c.self.inside.kept c.decode-under.result in
    let layout = c.requires.layout in
    (bank_fits layout, (running_fits layout, (idle, (refl, (sym next ∙ sym still, begun)))))

pub complete-requires : goal.complete-requires
complete-requires g c = grind arith

pub head_bytes-bytes-requires : goal.head_bytes-bytes-requires
head_bytes-bytes-requires g c = (
  bank_fits c.requires.layout,
  (
    bytes_fits c.requires.layout,
    store-head-completed c.self.inside.kept c.complete.new.self c.decode-under.result c.args.line c.args.slot
        (rw (← c.self.view_is) at c.requires.next) c.complete.ensures.kept,
  ),
)
