use Rattle.std.proofs.Common.{refl}
use Rattle.disk_server.proofs.Stepping.{flags_answered, none_left, option_answered, option_unanswered, request_answered, request_unanswered}
use Rattle.disk_server.proofs.session.step.Goals as goal

pub returns-in-Opening-clause-answers : goal.returns-in-Opening-clause-answers
returns-in-Opening-clause-answers g c =
    let came = c.in_ok-flags-in-Opening.ensures.came in
    flags_answered g.row.B c.args.disk.now.layout _ _ c.args.on_cut c.args.phase c.in-Opening.is c.in_ok-flags-in-Opening.flags came.0 came.1 refl refl refl

pub returns-in-Ok-clause-answers : goal.returns-in-Ok-clause-answers
returns-in-Ok-clause-answers g c =
    let chosen = c.in_ok-chosen-in-Choosing.chosen in
    let came = c.in_ok-chosen-in-Choosing.ensures.came in
    option_answered g.row.B c.args.disk.now.layout _ _ c.args.on_cut c.args.phase c.in-Choosing.zeros c.in-Choosing.is chosen.header came.0 came.1 came.2 came.4 refl refl
    c.size-size.result c.size-size.ensures c.next.result (c.next.ensures came.0 came.3) (c.in-Ok.ensures.ok came.0 came.2 came.3)

pub returns-in-Choosing-clause-stops : goal.returns-in-Choosing-clause-stops
returns-in-Choosing-clause-stops g c =
    let chosen = c.in_ok-chosen-in-Choosing.chosen in
    let came = c.in_ok-chosen-in-Choosing.ensures.came in
    option_unanswered g.row.B c.args.disk.now.layout _ _ c.args.on_cut c.args.phase c.in-Choosing.zeros c.in-Choosing.is chosen.header came.0 came.1 came.2 came.4 refl refl
    c.size-size.result c.size-size.ensures (c.in-Err.ensures.prefix came.0 came.2 came.3) c.in-Err.ensures.fault

pub returns-in-Ok-answer_request-clause-answers : goal.returns-in-Ok-answer_request-clause-answers
returns-in-Ok-answer_request-clause-answers g c =
    let came = c.in_ok-received-in-Serving.ensures.came in
    let received = c.in_ok-received-in-Serving.received in
    request_answered g.row.B c.args.disk.now.layout _ _ c.args.on_cut c.args.phase c.in-Serving.is received.header came.0 received.request came.1 came.2 came.3 came.4 came.5
    c.answer_request.result c.answer_request.ensures.answered c.in-Ok-answer_request.field-0 c.in-Ok-answer_request.is _ c.in-Serving.is

pub returns-in-Serving-clause-stops : goal.returns-in-Serving-clause-stops
returns-in-Serving-clause-stops g c =
    let came = c.in_ok-received-in-Serving.ensures.came in
    let received = c.in_ok-received-in-Serving.received in
    request_unanswered g.row.B c.args.disk.now.layout _ _ c.args.on_cut c.args.phase c.in-Serving.is received.header came.0 received.request came.1 came.2 came.3 came.4 came.5
    c.answer_request.result c.answer_request.ensures.answered c.in-Err-answer_request.field-0 c.in-Err-answer_request.is c.in-Err-answer_request.ensures.fault

pub returns-clause-stops : goal.returns-clause-stops
returns-clause-stops g c = none_left g.row.B c.args.disk.now.layout _ _ c.args.on_cut c.args.phase c.in-Over.is refl refl refl refl refl
