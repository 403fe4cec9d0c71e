use Rattle.verdict_text.proofs.right_reads.say_forward.Goals as goal

pub returns : goal.returns
returns g c = rw c.in_ok-say_number.ensures at c.say_data_end.ensures
