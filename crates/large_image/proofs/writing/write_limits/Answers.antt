use Rattle.std.proofs.Common.{◌++◌, ◌∙◌, ap}
use Rattle.pcm_io.specs.Reserved.{appended}
use Rattle.pcm_image.{specs.Spelling.{u8, u16, u32, u64}, proofs.Steps.appended_twice}
use Rattle.large_image.proofs.writing.write_limits.Goals as goal

pub returns-clause-after : goal.returns-clause-after
returns-clause-after c =
    appended_twice c.args.text.now c.push.new.self c.push-4.new.self (u32 c.args.head.now.lines) (u16 c.args.head.now.spares ++ (u64 c.args.head.now.seed ++ u8 c.args.head.now.home))
    (c.push.ensures.after ∙ ap (λ bs. appended c.args.text.now bs) c.to_le_bytes.ensures)
    (appended_twice c.push.new.self c.push-2.new.self c.push-4.new.self (u16 c.args.head.now.spares) (u64 c.args.head.now.seed ++ u8 c.args.head.now.home)
    (c.push-2.ensures.after ∙ ap (λ bs. appended c.push.new.self bs) c.to_le_bytes-2.ensures)
    (appended_twice c.push-2.new.self c.push-3.new.self c.push-4.new.self (u64 c.args.head.now.seed) (u8 c.args.head.now.home)
    (c.push-3.ensures.after ∙ ap (λ bs. appended c.push-2.new.self bs) c.to_le_bytes-3.ensures) c.push-4.ensures.after))
