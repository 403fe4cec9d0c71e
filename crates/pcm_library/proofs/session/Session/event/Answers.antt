use Rattle.std.proofs.Common.{sym, ◌∙◌}
use Rattle.pcm_library.proofs.Answering.{may-answer, not-answer}
use Rattle.pcm_library.proofs.session.Session.event.Goals as goal

pub returns-in-None-clause-answer : goal.returns-in-None-clause-answer
returns-in-None-clause-answer g c = may-answer c.args.self.now c.args.event.now.tick c.take.result (sym c.may_come.ensures.exact ∙ c.in-None.is) c.take.ensures.answer

pub returns-in-Some-clause-answer : goal.returns-in-Some-clause-answer
returns-in-Some-clause-answer g c = not-answer c.args.self.now c.args.event.now.tick c.in-Some.refused (sym c.may_come.ensures.exact ∙ c.in-Some.is)
