use Rattle.std.proofs.Common.{◌∙◌, ◌==◌, ◌&&◌, ◌||◌, ap, sym}
use Rattle.std.specs.{List.list_all, Prelude.nat_lt}
use Rattle.check_judging.specs.Keys.{key, up_to}
use Rattle.check_verdict.{specs.Fitting.{is_behind_next, is_behind_store}, specs.Members.never, specs.declared.members.Member.Member, proofs.Apart.all-same}
use Rattle.check_verdict.proofs.queue.is_at_head.Goals as goal

pub returns-then-has_line : goal.returns-then-has_line
returns-then-has_line c =
    let stores = c.args.stores.now in
    let line = c.args.line in
    let tick = c.args.tick in
    let members = c.args.members.now in
    let next = c.next_key-next.result in
    c.all_behind_next.ensures
    ∙ all-same (is_behind_next next line) (is_behind_store stores line tick)
    (λ (m : Member). ap (λ b. (m.line == line) || ((m.end == never) || b))
    (sym (c.next_key-next.ensures (key line m.end)) ∙ ap (λ k. nat_lt (up_to k stores) (up_to (key line m.end) stores)) c.line_key.ensures)) members
    ∙ ap (λ b. b && list_all (is_behind_store stores line tick) members) c.if-has_line.ensures
