use Rattle.std.proofs.Common.{◌++◌}
use Rattle.pcm_image.{specs.Spelling.{u8, u16, u32, u64}, proofs.Steps.appended_twice}
use Rattle.large_image.specs.Spelling.{magic}
use Rattle.large_image.proofs.writing.write_head.Goals as goal

pub returns-clause-after : goal.returns-clause-after
returns-clause-after c =
    let head = c.args.head.now in
    let limits = u32 head.lines ++ (u16 head.spares ++ (u64 head.seed ++ u8 head.home)) in
    let sizes = u8 c.args.size ++ (u8 head.banks ++ u8 head.regions) in
    appended_twice c.args.text.now c.push.new.self c.write_limits.new.text magic (sizes ++ limits) c.push.ensures.after
    (appended_twice c.push.new.self c.push-2.new.self c.write_limits.new.text sizes limits c.push-2.ensures.after c.write_limits.ensures.after)
