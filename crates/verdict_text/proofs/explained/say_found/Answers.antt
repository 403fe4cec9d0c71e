use Rattle.check_telling.proofs.Sizes.{grounds_fits}
use Rattle.verdict_text.proofs.Sizes.{event_fits, results_fit}
use Rattle.verdict_text.proofs.explained.say_found.Goals as goal

pub say_read_facts-requires : goal.say_read_facts-requires
say_read_facts-requires g c =
    let small = c.requires.size in
    (event_fits g.row.B small, (results_fit, (grounds_fits g.row.B small, (small, c.requires.one_each))))
