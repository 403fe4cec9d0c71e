-- The line of a fault, as it is written.
use Rattle.std.proofs.Common.{◌≡◌, ◌≢◌, refl}
use Rattle.pcm_top.specs.{declared.fault.Fault.Fault, declared.fault.Fault.TheVariants.{Usage, Trace, Results, Image, Read, Write, TooLong, NoMemory}}
use Rattle.pcm_top.specs.FaultLines as check
use Rattle.view_top.specs.FaultLines.{fault_line, usage_text}

pub usage_line : (f : Fault) → f ≡ Usage → usage_text ≡ fault_line f
unfolding fault_line
usage_line f e = rw e refl

-- any other is told as by a check
pub other_line : (f : Fault) → f ≢ Usage → check.fault_line f ≡ fault_line f
unfolding fault_line
other_line Usage other = absurd (other refl)
other_line (Trace f) other = refl
other_line (Results row) other = refl
other_line (Image f) other = refl
other_line Read other = refl
other_line Write other = refl
other_line TooLong other = refl
other_line NoMemory other = refl
