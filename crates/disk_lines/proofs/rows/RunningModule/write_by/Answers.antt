use Rattle.std.proofs.Common.{rules, ◌≡◌, ◌∙◌, ◌+◌, ap, sym, subst, length, arith}
use Rattle.trace_reader.specs.Events.{IsOpFor}
use Rattle.module_shape.specs.{Limits.total_of, declared.raw.RawShape.RawShape}
use Rattle.disk_lines.{specs.Asking.SameLines, specs.Hearing.{events_in, table_in}, proofs.Asking.{later-still, same-still}, proofs.Disks.on-err, proofs.Staying.kind-row}
use Rattle.disk_lines.proofs.{Making.{lays-accepted, same-refused}, Reading.last-served}
use Rattle.disk_lines.proofs.rows.RunningModule.write_by.Goals as goal
use Rattle.bank_laws.specs.Outcomes.{ended}
use Rattle.row_rules.specs.Answers.{accepts}
use Rattle.pcm_module.specs.Asking.{asked_for}
use Rattle.read_moments.specs.Reads.{rows_by}

pub returns-in_err-tick-clause-same : goal.returns-in_err-tick-clause-same
returns-in_err-tick-clause-same g c =
    on-err c.from_residual-in_err-tick.result (SameLines c.args.self.now.module c.next_tick.new.self.module c.args.self.now.watch.heard c.next_tick.new.self.watch.heard)
    (same-still c.args.self.now.module c.make_room.new.self.module c.next_tick.new.self.module c.args.self.now.watch.heard c.make_room.new.self.watch.heard c.next_tick.new.self.watch.heard
    c.make_room.ensures.later c.make_room.ensures.same c.next_tick.ensures.same)

pub hand_in-requires : goal.hand_in-requires
hand_in-requires g c =
    let old = c.args.self.now in
    let room = c.make_room.new.self in
    let ready = c.next_tick.new.self in
    let later = later-still old.module room.module ready.module old.watch.heard room.watch.heard ready.watch.heard c.make_room.ensures.later c.next_tick.ensures.later in
    let lawful : IsOpFor (total_of ready.module.shape) c.args.op = subst (λ (raw : RawShape). IsOpFor (total_of raw) c.args.op) (sym later.shape) c.requires.lawful in
    search (rules, lawful)

pub returns-then-is_accepted-clause-lays : goal.returns-then-is_accepted-clause-lays
returns-then-is_accepted-clause-lays g c =
    let old = c.args.self.now in
    let room = c.make_room.new.self in
    let ready = c.next_tick.new.self in
    let later = later-still old.module room.module ready.module old.watch.heard room.watch.heard ready.watch.heard c.make_room.ensures.later c.next_tick.ensures.later in
    let same = same-still old.module room.module ready.module old.watch.heard room.watch.heard ready.watch.heard c.make_room.ensures.later c.make_room.ensures.same c.next_tick.ensures.same in
    lays-accepted old.module ready.module c.hand_in.new.self.module old.watch.heard ready.watch c.hand_in.new.self.watch later same
    c.in_ok-tick.tick c.args.op c.hand_in.ensures.takes c.args.place c.args.bytes.now c.args.given.now c.requires.writes
    (ap (λ o. accepts (ended c.in_ok-tick.tick o)) (sym c.last.ensures.last) ∙ sym (c.is_accepted.ensures c.in_ok-tick.tick) ∙ c.if-is_accepted.true)

pub returns-else-is_accepted-clause-same : goal.returns-else-is_accepted-clause-same
returns-else-is_accepted-clause-same g c =
    let old = c.args.self.now in
    let room = c.make_room.new.self in
    let ready = c.next_tick.new.self in
    let later = later-still old.module room.module ready.module old.watch.heard room.watch.heard ready.watch.heard c.make_room.ensures.later c.next_tick.ensures.later in
    let same = same-still old.module room.module ready.module old.watch.heard room.watch.heard ready.watch.heard c.make_room.ensures.later c.make_room.ensures.same c.next_tick.ensures.same in
    same-refused old.module ready.module c.hand_in.new.self.module old.watch.heard ready.watch c.hand_in.new.self.watch later same
    c.in_ok-tick.tick c.args.op c.hand_in.ensures.takes c.args.place c.args.bytes.now c.args.given.now c.requires.writes
    (ap (λ o. accepts (ended c.in_ok-tick.tick o)) (sym c.last.ensures.last) ∙ sym (c.is_accepted.ensures c.in_ok-tick.tick) ∙ c.if-is_accepted.false)

pub returns-else-is_accepted-clause-cause : goal.returns-else-is_accepted-clause-cause
returns-else-is_accepted-clause-cause g c =
    let after = c.hand_in.new.self in
    let ready = c.next_tick.new.self in
    let events = c.hand_in.ensures.takes.events in
    let number : after.watch.rows ≡ length (events_in ready.watch.heard) + 1 = omega (arith, c.last.ensures.counted, ap length events) in
    let not = ap (λ o. accepts (ended c.in_ok-tick.tick o)) (sym c.last.ensures.last) ∙ sym (c.is_accepted.ensures c.in_ok-tick.tick) ∙ c.if-is_accepted.false in
    let served =
    last-served c.no_answer_is_wrong_meanwhile.ensures after.module (g.A.CellArray.state after.array) after.watch.heard c.hand_in.ensures.has c.shape.ensures.in_range
    (record { tick = c.in_ok-tick.tick; op = c.args.op }) (events_in ready.watch.heard) events after.watch.rows number after.watch.last c.last.ensures.newest in
    let one = c.requires.writes.refused c.in_ok-tick.tick after.watch.last (rows_by (table_in after.watch.heard) (asked_for (events_in ready.watch.heard))) served not in
    omega (arith, c.hand_in.ensures.takes.refused, one, c.next_tick.ensures.later.refused, c.make_room.ensures.later.refused)

pub returns-then-is_accepted-clause-kind : goal.returns-then-is_accepted-clause-kind
returns-then-is_accepted-clause-kind g c =
    let ready = c.next_tick.new.self in
    let now = c.hand_in.new.self in
    let state = g.A.CellArray.state in
    kind-row ready.module now.module (state ready.array) (state now.array) ready.watch now.watch ready.cuts now.cuts c.hand_in.ensures.cuts c.hand_in.ensures.wear
    (record { tick = c.in_ok-tick.tick; op = c.args.op }) c.hand_in.ensures.takes c.requires.writes.no_cut c.in_ok-tick.ensures.quiet
    ∙ c.next_tick.ensures.kind ∙ c.make_room.ensures.kind

pub returns-else-is_accepted-clause-kind : goal.returns-else-is_accepted-clause-kind
returns-else-is_accepted-clause-kind g c =
    let ready = c.next_tick.new.self in
    let now = c.hand_in.new.self in
    let state = g.A.CellArray.state in
    kind-row ready.module now.module (state ready.array) (state now.array) ready.watch now.watch ready.cuts now.cuts c.hand_in.ensures.cuts c.hand_in.ensures.wear
    (record { tick = c.in_ok-tick.tick; op = c.args.op }) c.hand_in.ensures.takes c.requires.writes.no_cut c.in_ok-tick.ensures.quiet
    ∙ c.next_tick.ensures.kind ∙ c.make_room.ensures.kind
