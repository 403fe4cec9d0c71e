-- Steps one behind the other, of which each may have no value.
use Rattle.std.proofs.Common.{◌≡◌, Option, Some, None, ap, ◌∙◌}
use Rattle.command_line.specs.Options.{with_some}

-- a step with a value, and what the next one makes of it
pub some_step : {T U : Type 0} (one : Option T) (x : T) (next : T → Option U) (y : Option U) → one ≡ Some x → next x ≡ y → with_some one next ≡ y
some_step one x next y is then = ap (λ o. with_some o next) is ∙ then

-- a step with none
pub none_step : {T U : Type 0} (one : Option T) (next : T → Option U) → one ≡ None → with_some one next ≡ None
none_step one next is = ap (λ o. with_some o next) is
