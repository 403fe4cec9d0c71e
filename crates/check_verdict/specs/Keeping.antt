-- The rules of a row in the words of what a checker keeps.
use Rattle.std.specs.Prelude.{ℕ, ◌+◌, ◌==◌, ◌&&◌, Bool, true, false, not, Option, Some, None, nat_le, nat_lt, max, if◌then◌else◌}
use Rattle.bank_shape.specs.{declared.pace.Policy.Policy, declared.pace.Policy.TheVariants.{Pause, Plain, Cancel}}
use Rattle.row_rules.specs.{Ticking.attempt, declared.Rules.Rules}
use Rattle.result_rows.specs.declared.Outcome.{Outcome}
use Rattle.result_rows.specs.declared.Outcome.TheVariants as out

-- a tick is no later than the first cut, if there is one
abbrev pub before_cut : ℕ → Option ℕ → Bool
before_cut u None = true
before_cut u (Some cut) = nat_le u cut

-- it is that of the first cut
abbrev pub at_cut : ℕ → Option ℕ → Bool
at_cut u None = false
at_cut u (Some cut) = cut == u

-- a tick is below that at which the first worn row came, if there is one
abbrev pub before_worn : ℕ → Option ℕ → Bool
before_worn u None = true
before_worn u (Some worn) = not (nat_le worn u)

module _ {n : ℕ} where
  -- a stored write is stored before the first worn row came
  abbrev pub stored_early : Option ℕ → Outcome n → Bool
  stored_early worn (out.Stored u place) = before_worn u worn
  stored_early worn _ = true

  -- a read ends in time
  abbrev pub read_timely : ℕ → ℕ → ℕ → Option ℕ → Outcome n → Bool
  read_timely arrived read bound cut (out.Read u place bytes) = nat_le (arrived + read) u && (nat_le u bound && before_cut u cut)
  read_timely arrived read bound cut (out.Lost u) = at_cut u cut && nat_lt u bound
  read_timely arrived read bound cut _ = true

  -- a write is stored in time
  abbrev pub write_timely : ℕ → ℕ → Outcome n → Bool
  write_timely arrived latest (out.Stored u place) = nat_lt arrived u && nat_le u latest
  write_timely arrived latest _ = true

-- how long a read may find its bank busy with something else than reads, where four reads came since the last store or not
abbrev pub delay_by : Rules → Policy → Bool → ℕ
delay_by rules Pause four_came = max rules.read_ticks rules.iter_ticks
delay_by rules Plain four_came = attempt rules
delay_by rules Cancel four_came = if four_came then max rules.read_ticks rules.iter_ticks else 0

abbrev pub delay_kept : Rules → Bool → ℕ
delay_kept rules four_came = delay_by rules rules.policy four_came
