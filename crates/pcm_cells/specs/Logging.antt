-- A log of bounded length.
use Rattle.std.specs.Prelude.{ℕ, List, [], ◌∷◌, ◌++◌, length, nat_lt, if◌then◌else◌, Option, Some, None}
use Rattle.cell_rows.specs.declared.array.Sense.{Sense}

-- a log of at most `cap` senses after one more; a sense that doesn't fit ends the log
abbrev pub logged : {B M : ℕ} → ℕ → Sense B M → Option (List (Sense B M)) → Option (List (Sense B M))
logged cap sense None = None
logged cap sense (Some log) = if nat_lt (length log) cap then Some (log ++ sense ∷ []) else None

-- the log after these senses, the newest standing first
abbrev pub log_of : {B M : ℕ} → ℕ → List (Sense B M) → Option (List (Sense B M))
log_of cap [] = Some []
log_of cap (sense ∷ older) = logged cap sense (log_of cap older)
