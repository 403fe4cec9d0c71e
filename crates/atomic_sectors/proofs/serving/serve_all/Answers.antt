use Rattle.std.proofs.Common.{◌≡◌, ◌+◌, List, [], ◌∷◌, ◌++◌, take, refl, sym, ◌∙◌, ap, subst}
use Rattle.std.proofs.lemmas.List.{take_more, take_all}
use Rattle.atomic_sectors.specs.{Serving.ServeAll, Stops.{RoseBy, stops_in}, declared.serving.SectorAnswer.SectorAnswer, declared.serving.SectorRequest.SectorRequest}
use Rattle.atomic_sectors.proofs.{Runs.{serve_more, whole_known}, Stopping.{stops-more, rose-both, rose-none}}
use Rattle.atomic_sectors.proofs.serving.serve_all.Goals as goal

pub loop-request-init : goal.loop-request-init
loop-request-init g c = record {
  known = c.requires.whole;
  stops = subst (λ (given : List (SectorAnswer g.row.B)). RoseBy (stops_in given) (g.L.Lines.stops c.args.lines.now) (g.L.Lines.stops c.args.lines.now))
      (sym c.new-answers.ensures.items) (rose-none _);
  kind = refl;
  served = λ before have. (before, subst (λ (given : List (SectorAnswer g.row.B)). ServeAll g.row.B c.args.layout.block [] given before before) (sym c.new-answers.ensures.items) refl, have);
}

pub returns-in_err-push-clause-whole : goal.returns-in_err-push-clause-whole
returns-in_err-push-clause-whole g c = whole_known g.row.B c.args.layout (g.L.Lines.made c.serve-answer.new.lines) c.serve-answer.result.1 c.serve-answer.ensures.known

pub loop-request-preserved : goal.loop-request-preserved
loop-request-preserved g c =
    let i = c.loop-request.request-index in
    let requests = c.args.requests.now in
    let r = c.request-item.result in
    let a = c.serve-answer.result.0 in
    let more : take i requests ++ r ∷ [] ≡ take (i + 1) requests = sym (take_more requests i r c.loop-request-test.true ∙ ap (λ q. take i requests ++ q ∷ []) (sym c.request-item.is)) in
    let items : c.push.new.self.items ≡ c.loop-request.answers.items ++ a ∷ [] = c.in_ok-push.ensures.items in
    record {
      known = c.serve-answer.ensures.known;
      stops = subst (λ k. RoseBy k (g.L.Lines.stops c.args.lines.now) (g.L.Lines.stops c.serve-answer.new.lines)) (sym (ap stops_in items ∙ stops-more c.loop-request.answers.items a))
          (rose-both _ _ _ _ _ c.loop-request.invariant.stops c.serve-answer.ensures.cause);
      kind = c.serve-answer.ensures.kind ∙ c.loop-request.invariant.kind;
      served = λ before have.
          let so_far = c.loop-request.invariant.served before have in
          let one = c.serve-answer.ensures.serves so_far.0 so_far.2 in
          let all = serve_more g.row.B c.args.layout.block (take i requests) c.loop-request.answers.items r a before so_far.0 one.0 so_far.1 one.1 in (
            one.0,
            subst (λ (rs : List (SectorRequest g.row.B)). ServeAll g.row.B c.args.layout.block rs c.push.new.self.items before one.0) more
                (subst (λ (given : List (SectorAnswer g.row.B)). ServeAll g.row.B c.args.layout.block (take i requests ++ r ∷ []) given before one.0) (sym items) all),
            one.2,
          );
    }

pub returns-clause-served : goal.returns-clause-served
returns-clause-served g c before have =
    let so_far = c.loop-request.invariant.served before have in
    let all : take c.loop-request.request-index c.args.requests.now ≡ c.args.requests.now = take_all c.loop-request.request-index c.args.requests.now c.loop-request-test.false in (
      so_far.0,
      subst (λ (rs : List (SectorRequest g.row.B)). ServeAll g.row.B c.args.layout.block rs c.loop-request.answers.items before so_far.0) all so_far.1,
      so_far.2,
    )

pub returns-clause-whole : goal.returns-clause-whole
returns-clause-whole g c = whole_known g.row.B c.args.layout (g.L.Lines.made c.loop-request.lines) c.loop-request.known c.loop-request.invariant.known
