use Rattle.std.proofs.Common.{List, ◌∷◌, inl, inr, sym, subst, ◌∙◌, arith}
use Rattle.atomic_sectors.specs.declared.layout.Layout.{Layout}
use Rattle.disk_rules.specs.{declared.DiskAnswer.DiskAnswer, declared.DiskRequest.DiskRequest}
use Rattle.disk_bytes.specs.Serving.{IsServed}
use Rattle.disk_server.proofs.Asking.{asked_again, asked_once}
use Rattle.disk_server.proofs.answering.ride.Goals as goal

pub returns-then-not-is_cut-clause-asked : goal.returns-then-not-is_cut-clause-asked
returns-then-not-is_cut-clause-asked g c = record {
  cuts = c.loop-cut._cut;
  rides = inl (sym c.is_cut.ensures ∙ c.if-not-is_cut.true);
  answers = c.loop-cut.invariant.asked.answers;
  stops = c.loop-cut.invariant.asked.stops;
}

pub loop-cut-init : goal.loop-cut-init
loop-cut-init g c = record {
  asked = asked_once g.row.B c.args.disk.now.layout c.args.request.now _ _ _ _ c.serve-answer.result c.serve-answer.ensures.served c.serve-answer.ensures.cause;
  ready = c.serve-answer.ensures.ready;
  layout = c.serve-answer.ensures.layout;
  kind = c.serve-answer.ensures.kind;
}

pub loop-cut-preserved : goal.loop-cut-preserved
loop-cut-preserved g c =
    let request = c.args.request.now in
    let answer = c.serve-answer-in-loop-cut.result in
    let mid = g.L.Lines.made c.loop-cut.lines in
    let new = g.L.Lines.made c.serve-answer-in-loop-cut.new.lines in
    let now = c.loop-cut.invariant in
    record {
      asked = asked_again g.row.B c.args.disk.now.layout request (g.L.Lines.made c.args.lines.now) mid new _ (g.L.Lines.stops c.loop-cut.lines) _ c.loop-cut._cut c.loop-cut.answer answer
          now.asked (sym c.is_cut.ensures ∙ c.if-not-is_cut.false)
          (subst (λ (l : Layout). (earlier : List (DiskRequest × DiskAnswer)) → IsServed g.row.B l earlier mid → IsServed g.row.B l ((request, answer) ∷ earlier) new) now.layout
          c.serve-answer-in-loop-cut.ensures.served) c.serve-answer-in-loop-cut.ensures.cause;
      ready = c.serve-answer-in-loop-cut.ensures.ready;
      layout = c.serve-answer-in-loop-cut.ensures.layout ∙ now.layout;
      kind = c.serve-answer-in-loop-cut.ensures.kind ∙ now.kind;
    }

pub returns-clause-asked : goal.returns-clause-asked
returns-clause-asked g c = record {
  cuts = c.loop-cut._cut;
  rides = inr (omega (arith, c.loop-cut.auto._cut-end));
  answers = c.loop-cut.invariant.asked.answers;
  stops = c.loop-cut.invariant.asked.stops;
}
