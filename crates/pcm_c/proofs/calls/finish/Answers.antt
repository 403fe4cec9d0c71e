use Rattle.pcm_c.proofs.calls.finish.Goals as goal

pub returns-clause-done : goal.returns-clause-done
returns-clause-done g c = λ done. let is = c.told.ensures.done done in let e = c.finish.ensures in record {
  finished = e.finished is;
  asked = e.asked;
  off = e.off is;
  ended = e.ended is;
  taken = e.taken;
  wear = e.wear;
}
