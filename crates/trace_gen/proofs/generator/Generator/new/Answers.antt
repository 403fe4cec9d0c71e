use Rattle.std.proofs.Common.{rules}
use Rattle.trace_gen.{specs.Generated.IsLongMix, proofs.Lawful.long-mix}
use Rattle.trace_gen.proofs.generator.Generator.new.Goals as goal

pub long-requires : goal.long-requires
long-requires g c =
    let long : IsLongMix c.args.mix = long-mix c.args.mix c.requires.mix in
    search rules
