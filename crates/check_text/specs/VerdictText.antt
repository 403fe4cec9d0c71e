-- The line of a verdict.
use Rattle.std.specs.Prelude.{ℕ, List, ◌++◌, codes, decimal}
use Rattle.check_verdict.specs.{declared.Rule.Rule, declared.Verdict.Verdict, declared.Verdict.TheVariants.{Yes, No}}
use Rattle.check_verdict.specs.declared.Rule.TheVariants as rule

-- the word for a rule
abbrev pub rule_word : Rule → List ℕ
rule_word rule.Serves = codes "serves"
rule_word rule.Queue = codes "queue"
rule_word rule.Worn = codes "worn"
rule_word rule.Tick = codes "tick"

-- a verdict names the row and the rule that it breaks
abbrev pub verdict_text : Verdict → List ℕ
verdict_text Yes = codes "ok\n"
verdict_text (No row one) = codes "row " ++ (decimal row ++ (codes ": " ++ (rule_word one ++ codes "\n")))
