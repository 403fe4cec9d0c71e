-- Why words give no job, by why `clap` refuses them.
use Rattle.clap.specs.{declared.error.kind.ErrorKind.ErrorKind, declared.error.kind.ErrorKind.TheVariants.OutOfMemory}
use Rattle.command_line.specs.{declared.job.Refusal.Refusal, declared.job.Refusal.TheVariants.{Usage, NoMemory}}

-- memory ran out, or they are a faulty command line
abbrev pub refusal_by : ErrorKind → Refusal
refusal_by OutOfMemory = NoMemory
refusal_by _ = Usage
