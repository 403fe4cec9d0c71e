-- What an outcome says of a write.
use Rattle.std.specs.Prelude.{ℕ, Option, Some, None}
use Rattle.result_rows.specs.declared.Outcome.{Outcome}
use Rattle.result_rows.specs.declared.Outcome.TheVariants as out

-- when it is stored, if it is
abbrev pub stored_at : {n : ℕ} → Outcome n → Option ℕ
stored_at (out.Stored u place) = Some u
stored_at _ = None
