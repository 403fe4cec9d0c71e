use Rattle.std.proofs.Common.{◌≡◌, ◌<◌, length, sym, ap, subst, arith}
use Rattle.std.specs.Prelude.{true, replicate}
use Rattle.row_rules.specs.{Lines.IsOfLines, declared.Asks.Asks, declared.Asks.TheVariants.{Reads, Writes}}
use Rattle.check_verdict.specs.{Judged.a_row, Verdicts.bank_in}
use Rattle.trace_rows.specs.Rows.{asks_of}
use Rattle.result_check.{specs.Keeping.{IsNext, HasPassed}, proofs.Meeting.{next_of, may_take, fourth_below, few_wait}, proofs.Sizes.bytes_fit}
use Rattle.result_check.proofs.kept.KeptRows.take.Goals as goal
use Rattle.trace_reader.proofs.Sizes.{op_fits}
use Rattle.result_rows.proofs.Sizes.{outcome_fits}

pub take_read-requires : goal.take_read-requires
take_read-requires g c =
    let x = c.args.grounds in
    let m = c.requires.met.2 in
    let f = c.find_room-room.ensures in
    let s = c.find_room-room.new.self in
    let asked : asks_of c.args.event.now.op ≡ Reads c.in-Read.line = ap asks_of c.in-Read.is in
    let within : c.in-Read.line < length x.banks.now = subst (λ (a : Asks g.row.B). IsOfLines (length x.banks.now) a) asked c.requires.line in
    let below = m.among.reached in
    let k = f.knows m.from c.requires.met.0 m.passed_by (omega (arith, below)) m.knows in
    let bank = bank_in x.banks.now c.in-Read.line in
    let fourth = fourth_below x.rules.now x.banks.now c.args.event.now.tick bank s.banks.items c.args.self.now.joined c.requires.met.0 k below in
    let few = few_wait x.rules.now x.banks.now c.args.event.now.tick bank s.banks.items c.args.self.now.joined c.requires.met.0 k (omega (arith, below)) m.among.few in
    let may = may_take c.args.event.now.tick c.in-Read.line c.args.outcome.now c.args.self.now.banks.items s.banks.items c.args.self.now.lines.items s.lines.items
    c.requires.within c.requires.usable within c.requires.exist c.requires.lines m.among.brief m.among.reached f.number f.lines in
    (omega arith, (op_fits g.row.B c.requires.small, (outcome_fits g.row.B c.requires.small, (c.requires.small, (asked, (may, (fourth, few)))))))

pub take_write-requires : goal.take_write-requires
take_write-requires g c =
    let x = c.args.grounds in
    let m = c.requires.met.2 in
    let f = c.find_room-room.ensures in
    let s = c.find_room-room.new.self in
    let asked : asks_of c.args.event.now.op ≡ Writes c.in-Write.line c.in-Write.bytes (replicate g.row.B true) = ap asks_of c.in-Write.is in
    let within : c.in-Write.line < length x.banks.now = subst (λ (a : Asks g.row.B). IsOfLines (length x.banks.now) a) asked c.requires.line in
    let may = may_take c.args.event.now.tick c.in-Write.line c.args.outcome.now c.args.self.now.banks.items s.banks.items c.args.self.now.lines.items s.lines.items
    c.requires.within c.requires.usable within c.requires.exist c.requires.lines m.among.brief m.among.reached f.number f.lines in
    let fits = bytes_fit g.row.B c.requires.small in
    (omega arith, (op_fits g.row.B c.requires.small, (fits, (fits, (outcome_fits g.row.B c.requires.small, (c.requires.small, (asked, (may, (c.requires.cuts, c.requires.few)))))))))

pub take_write-requires-in-Mask : goal.take_write-requires-in-Mask
take_write-requires-in-Mask g c =
    let x = c.args.grounds in
    let m = c.requires.met.2 in
    let f = c.find_room-room.ensures in
    let s = c.find_room-room.new.self in
    let asked : asks_of c.args.event.now.op ≡ Writes c.in-Mask.line c.in-Mask.bytes c.in-Mask.given = ap asks_of c.in-Mask.is in
    let within : c.in-Mask.line < length x.banks.now = subst (λ (a : Asks g.row.B). IsOfLines (length x.banks.now) a) asked c.requires.line in
    let may = may_take c.args.event.now.tick c.in-Mask.line c.args.outcome.now c.args.self.now.banks.items s.banks.items c.args.self.now.lines.items s.lines.items
    c.requires.within c.requires.usable within c.requires.exist c.requires.lines m.among.brief m.among.reached f.number f.lines in
    let fits = bytes_fit g.row.B c.requires.small in
    (omega arith, (op_fits g.row.B c.requires.small, (fits, (fits, (outcome_fits g.row.B c.requires.small, (c.requires.small, (asked, (may, (c.requires.cuts, c.requires.few)))))))))

pub returns-in-Read-clause-passes : goal.returns-in-Read-clause-passes
returns-in-Read-clause-passes g c = λ before after m.
    let f = c.find_room-room.ensures in
    let s = c.find_room-room.new.self in
    c.take_read.ensures.passes before after (next_of s.banks.items s.joined s.lines.items c.find_room-room.result m f.room f.lines f.joined f.knows f.seen)

pub returns-in-Write-clause-passes : goal.returns-in-Write-clause-passes
returns-in-Write-clause-passes g c = λ before after m.
    let f = c.find_room-room.ensures in
    let s = c.find_room-room.new.self in
    c.take_write.ensures.passes before after (next_of s.banks.items s.joined s.lines.items c.find_room-room.result m f.room f.lines f.joined f.knows f.seen)

pub returns-in-Mask-clause-passes : goal.returns-in-Mask-clause-passes
returns-in-Mask-clause-passes g c = λ before after m.
    let f = c.find_room-room.ensures in
    let s = c.find_room-room.new.self in
    c.take_write-in-Mask.ensures.passes before after (next_of s.banks.items s.joined s.lines.items c.find_room-room.result m f.room f.lines f.joined f.knows f.seen)

pub returns-in-Cut-clause-passes : goal.returns-in-Cut-clause-passes
returns-in-Cut-clause-passes g c = λ before after m.
    let x = c.args.grounds in
    let e = c.args.event.now in
    let o = c.args.outcome.now in
    let f = c.find_room-room.ensures in
    let s = c.find_room-room.new.self in
    let new = c.take_cut.new.self in
    let asked = ap asks_of c.in-Cut.is in
    let next = next_of s.banks.items s.joined s.lines.items c.find_room-room.result m f.room f.lines f.joined f.knows f.seen in
    subst (λ (a : Asks g.row.B). HasPassed x.rules.now x.banks.now before (a_row e.tick a o) after c.take_cut.result new.banks.items new.joined new.lines.items) (sym asked)
    (c.take_cut.ensures.passes x.rules.now x.banks.now x.keys.now before after x.coming x.cuts.now
    (subst (λ (a : Asks g.row.B). IsNext x.rules.now x.banks.now x.keys.now before (a_row e.tick a o) after s.banks.items s.joined s.lines.items c.find_room-room.result x.coming x.cuts.now) asked next))
