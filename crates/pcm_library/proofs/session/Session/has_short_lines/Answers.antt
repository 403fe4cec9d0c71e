use Rattle.pcm_library.proofs.session.Session.has_short_lines.Goals as goal

pub returns : goal.returns
returns g c = c.self.invariant.layout.shape.1
