-- What the keys of a table tell of a row's times.
use Rattle.std.specs.Prelude.{ℕ, ◌+◌, ◌-◌, ◌*◌, ◌==◌, Bool, false, List, Option, Some, None}
use Rattle.result_rows.specs.declared.Outcome.{Outcome}
use Rattle.result_rows.specs.declared.Outcome.TheVariants as out
use Rattle.row_rules.specs.{Ticking.longest, declared.Rules.Rules}
use Rattle.check_judging.specs.Keys.{key, up_to}
use Rattle.check_verdict.specs.Keeping.{delay_kept}

-- no store of a bank lies between the fourth last arrival and tick a
abbrev pub four_kept : List ℕ → ℕ → ℕ → Option ℕ → Bool
four_kept stores bank a None = false
four_kept stores bank a (Some d) = up_to (key bank d) stores == up_to (key bank a) stores

-- the tick by which a read that arrives at tick a has ended, behind so many that wait
abbrev pub bound_kept : Rules → List ℕ → ℕ → ℕ → Option ℕ → ℕ → ℕ
bound_kept rules stores bank a fourth count = a + delay_kept rules (four_kept stores bank a fourth) + (count + 1) * rules.read_ticks

-- the latest tick for a write that is stored at tick u
abbrev pub latest_kept : Rules → List ℕ → List ℕ → List ℕ → ℕ → ℕ → ℕ → ℕ
latest_kept rules stores reads cuts bank a u =
    a + longest rules (up_to (key bank u) stores - up_to (key bank a) stores) (up_to (key bank u) reads - up_to (key bank a) reads) (up_to u cuts)

-- a number of the tick at which a write is stored
abbrev pub at_store : {n : ℕ} → (ℕ → ℕ) → Outcome n → ℕ
at_store f (out.Stored u place) = f u
at_store f _ = 0
