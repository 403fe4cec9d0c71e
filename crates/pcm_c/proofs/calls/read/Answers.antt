use Rattle.pcm_c.proofs.calls.read.Goals as goal

pub returns-clause-done : goal.returns-clause-done
returns-clause-done g c = λ done. let takes = c.read.ensures.takes (c.told.ensures.done done) in record {
  asked = takes.asked;
  serves = takes.serves;
  taken = takes.taken;
}
