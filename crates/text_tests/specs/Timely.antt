-- Outcomes that the checker of results takes.
use Rattle.std.specs.Prelude.{ℕ, Bool, false, Option, Some, None, nat_lt, ◌^◌}
use Rattle.result_rows.specs.{Outcomes.tick_of, declared.Outcome.Outcome}

-- an outcome is set, and its tick has at most 15 digits
abbrev pub is_below : Option ℕ → Bool
is_below None = false
is_below (Some tick) = nat_lt tick (10 ^ 15)

abbrev pub is_timed : {n : ℕ} → Outcome n → Bool
is_timed outcome = is_below (tick_of outcome)
