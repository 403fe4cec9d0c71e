use Rattle.bank_timing.proofs.clocked.Timed.complete.Goals as goal

pub serve-requires : goal.serve-requires
serve-requires g c =
    let due = c.requires.due.ends in
    (assumption, record { ends = record { led = due.led; next = due.next; doing = c.in-Serving.is; within = due.within }; unset = c.requires.due.unset })

pub returns-in-Serving : goal.returns-in-Serving
returns-in-Serving g c = record { completes = c.serve.ensures.completes; goes_on = c.serve.ensures.goes_on }

pub begin-requires : goal.begin-requires
begin-requires g c =
    let due = c.requires.due.ends in
    (assumption, record { ends = record { led = due.led; next = due.next; doing = c.in-Beginning.is; within = due.within }; unset = c.requires.due.unset })

pub returns-in-Beginning : goal.returns-in-Beginning
returns-in-Beginning g c = record { completes = c.begin.ensures.completes; goes_on = c.begin.ensures.goes_on }

pub iterate-requires : goal.iterate-requires
iterate-requires g c =
    let due = c.requires.due.ends in
    (assumption, record { ends = record { led = due.led; next = due.next; doing = c.in-Iterating.is; within = due.within }; unset = c.requires.due.unset })

pub returns-in-Iterating : goal.returns-in-Iterating
returns-in-Iterating g c = record { completes = c.iterate.ensures.completes; goes_on = c.iterate.ensures.goes_on }
