use Rattle.std.proofs.Common.{rules, ◌<◌, ◌≤◌, refl, sym, length}
use Rattle.masked_bytes.proofs.Queueing.{newest_index-within, candidate_index-newest}
use Rattle.protected_queue.proofs.{Accepting.{accept_answer-Some, accept_answer-room, accept_answer-full, IsQueue-append}, queue.Queue.accept.Goals.{in-Ok, in-Err}}
use Rattle.protected_queue.proofs.queue.Queue.accept.Goals as goal

pub merge-requires : goal.merge-requires
merge-requires g c =
    let few : g.row.B ≤ 128 = c.self.invariant.few_bytes in
    let there : c.in-Some.index < length c.args.self.now.entries =
    newest_index-within c.args.self.now.entries c.args.entry.line _ (candidate_index-newest c.args.head_busy c.args.self.now.entries c.args.entry.line _ (sym c.in-Some.ensures)) in
    search rules

pub invariant_of-self : goal.invariant_of-self
invariant_of-self g c =
    elim c.match-try_push_back.branch [
      | in-Ok w ↦ rw w.in-Ok.ensures.ok (IsQueue-append c.self.inside.ring.items c.self.inside.ring.capacity c.args.entry c.requires (w.in-Ok.ensures.variant.0 refl) c.self.invariant)
      | in-Err w ↦ rw w.in-Err.ensures.err.1 c.self.invariant
    ]

pub returns-in-Some-clause-answer : goal.returns-in-Some-clause-answer
returns-in-Some-clause-answer g c =
    rw (c.merge.ensures.row, accept_answer-Some c.args.self.now.cap c.args.head_busy c.args.self.now.entries c.args.entry.line _ (sym c.in-Some.ensures))

pub returns-after-try_push_back-clause-answer : goal.returns-after-try_push_back-clause-answer
returns-after-try_push_back-clause-answer g c =
    let none = rw (← c.self.view_is) at c.in-None.ensures in
    rw (← c.self.view_is)
    (elim c.match-try_push_back.branch [
      | in-Ok w ↦ rw (w.result-is, accept_answer-room c.self.inside.ring.capacity c.args.head_busy c.self.inside.ring.items c.args.entry.line (sym none) (w.in-Ok.ensures.variant.0 refl))
      | in-Err w ↦ rw (w.result-is, accept_answer-full c.self.inside.ring.capacity c.args.head_busy c.self.inside.ring.items c.args.entry.line (sym none) w.in-Err.ensures.variant.1)
    ])
