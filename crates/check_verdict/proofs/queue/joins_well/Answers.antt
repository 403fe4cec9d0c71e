use Rattle.std.proofs.Common.{◌∙◌, ◌&&◌, ◌||◌, ◌==◌, sym, ap}
use Rattle.std.proofs.lemmas.Bool.{eq-eqb, ne_eqb, or_left}
use Rattle.check_verdict.{specs.Fitting.{precedes, follows}, proofs.Twins.{joins-apart, joins-alone, joins-paired}}
use Rattle.check_verdict.proofs.queue.joins_well.Goals as goal

pub returns-then-twins-eq0 : goal.returns-then-twins-eq0
returns-then-twins-eq0 c =
    let one = precedes c.args.all.now c.args.newest.now in
    joins-apart one c.args.others.now c.args.newest.now c.args.twins c.requires c.if-twins-eq0.true

pub returns-in-0 : goal.returns-in-0
returns-in-0 c =
    let one = precedes c.args.all.now c.args.newest.now in
    c.follows.ensures
    ∙ joins-alone one c.args.others.now c.args.newest.now c.args.twins c.requires (sym c.count_of.ensures ∙ c.in-0.is) c.if-twins-eq0.false

pub returns-then-twins-eq1 : goal.returns-then-twins-eq1
returns-then-twins-eq1 c =
    let one = precedes c.args.all.now c.args.newest.now in
    eq-eqb c.args.twins 1 c.if-twins-eq1.true
    ∙ sym (ap (λ b. b && ((c.args.twins == 1) || follows c.args.newest.now c.args.others.now)) (sym c.all_precede.ensures ∙ c.if-all_precede.true)
    ∙ or_left (c.args.twins == 1) (follows c.args.newest.now c.args.others.now) (eq-eqb c.args.twins 1 c.if-twins-eq1.true))
    ∙ joins-paired one c.args.others.now c.args.newest.now c.args.twins c.requires (sym c.count_of.ensures ∙ c.in-1.is)

pub returns-else-twins-eq1 : goal.returns-else-twins-eq1
returns-else-twins-eq1 c =
    let one = precedes c.args.all.now c.args.newest.now in
    c.follows-else-twins-eq1.ensures
    ∙ sym (ap (λ b. b && ((c.args.twins == 1) || follows c.args.newest.now c.args.others.now)) (sym c.all_precede.ensures ∙ c.if-all_precede.true)
    ∙ ap (λ b. b || follows c.args.newest.now c.args.others.now) (ne_eqb c.args.twins 1 c.if-twins-eq1.false))
    ∙ joins-paired one c.args.others.now c.args.newest.now c.args.twins c.requires (sym c.count_of.ensures ∙ c.in-1.is)
