use Rattle.std.proofs.Common.{◌≡◌, ◌+◌, List, [], ◌∷◌, ◌++◌, length, take, sym, ◌∙◌, ap, subst, arith}
use Rattle.std.proofs.lemmas.List.{take_more, take_all, length-take-le}
use Rattle.atomic_sectors.{specs.Stops.RoseBy, specs.declared.layout.Layout.Layout, proofs.Stopping.rose-both}
use Rattle.disk_rules.specs.{Disk.told, declared.DiskAnswer.DiskAnswer, declared.DiskRequest.DiskRequest}
use Rattle.disk_bytes.{specs.Serving.{IsServed, stops_in}, proofs.Answering.{told-more, stops-more, length-more}}
use Rattle.disk_bytes.proofs.serving.serve_all.Goals as goal

pub loop-request-preserved : goal.loop-request-preserved
loop-request-preserved g c =
    let n = g.row.B in
    let layout = c.args.disk.now.layout in
    let i = c.loop-request.request-index in
    let requests = c.args.requests.now in
    let answers = c.loop-request.answers.items in
    let r = c.request-item.result in
    let a = c.serve-answer.result in
    let mid = g.L.Lines.made c.loop-request.lines in
    let new = g.L.Lines.made c.serve-answer.new.lines in
    let now = c.loop-request.invariant in
    let more : take i requests ++ r ∷ [] ≡ take (i + 1) requests = sym (take_more requests i r c.loop-request-test.true ∙ ap (λ q. take i requests ++ q ∷ []) (sym c.request-item.is)) in
    let items : c.push.new.self.items ≡ answers ++ a ∷ [] = c.in_ok-push.ensures.items in
    let long : length answers ≡ length (take i requests) = now.all ∙ sym (length-take-le i requests (omega (arith, c.loop-request-test.true))) in
    let one = subst (λ (l : Layout). (asked : List (DiskRequest × DiskAnswer)) → IsServed n l asked mid → IsServed n l ((r, a) ∷ asked) new) now.layout c.serve-answer.ensures.served in
    record {
      served = λ asked before.
          let next = one (told asked (take i requests) answers) (now.served asked before) in
          subst (λ (ws : List DiskAnswer). IsServed n layout (told asked (take (i + 1) requests) ws) new) (sym items)
          (subst (λ (rs : List DiskRequest). IsServed n layout (told asked rs (answers ++ a ∷ [])) new) more
          (subst (λ (h : List (DiskRequest × DiskAnswer)). IsServed n layout h new) (sym (told-more asked (take i requests) answers r a long)) next));
      all = ap length items ∙ length-more answers a ∙ ap (λ k. k + 1) now.all;
      ready = c.serve-answer.ensures.ready;
      layout = c.serve-answer.ensures.layout ∙ now.layout;
      stops = subst (λ k. RoseBy k (g.L.Lines.stops c.args.lines.now) (g.L.Lines.stops c.serve-answer.new.lines)) (sym (ap stops_in items ∙ stops-more answers a))
          (rose-both _ _ _ _ _ now.stops c.serve-answer.ensures.cause);
      kind = c.serve-answer.ensures.kind ∙ now.kind;
    }

pub returns-clause-served : goal.returns-clause-served
returns-clause-served g c asked before =
    let all : take c.loop-request.request-index c.args.requests.now ≡ c.args.requests.now = take_all c.loop-request.request-index c.args.requests.now c.loop-request-test.false in
    subst (λ (rs : List DiskRequest). IsServed g.row.B c.args.disk.now.layout (told asked rs c.loop-request.answers.items) (g.L.Lines.made c.loop-request.lines)) all
    (c.loop-request.invariant.served asked before)
