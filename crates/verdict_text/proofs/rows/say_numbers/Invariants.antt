use Rattle.std.proofs.Common.{◌≡◌, drop}
use Rattle.verdict_text.specs.RowWords.{numbers_on}
use Rattle.verdict_text.proofs.rows.say_numbers.Given as goal

-- the numbers so far are said
abbrev pub invariant-loop-one : goal.invariant-loop-one
invariant-loop-one g l = numbers_on l.text.items (drop l.one-index l.rows) ≡ numbers_on l.fn.text.items l.rows
