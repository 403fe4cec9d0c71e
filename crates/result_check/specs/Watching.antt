-- What ends next in a bank.
use Rattle.std.specs.{List.list_all, Prelude.{◌≡◌, ℕ, List, [], ◌∷◌, IsTrue, nat_le, min}}
use Rattle.result_rows.specs.declared.Outcome.{Outcome}
use Rattle.result_rows.specs.declared.Outcome.TheVariants as out
use Rattle.check_verdict.specs.{Fitting.twins_in, Members.never, States.Facts}

-- the least of a tick and these
abbrev pub least_of : ℕ → List ℕ → ℕ
least_of first [] = first
least_of first (v ∷ vs) = least_of (min first v) vs

-- no write of a bank is stored below this tick, and no read is read
pub record NoneEndsBelow (tick : ℕ) (f : Facts) : Type 0 where
  pub stores : IsTrue (list_all (λ m. nat_le tick m.end) f.members)
  pub reads : IsTrue (list_all (λ v. nat_le tick v) f.waits)

-- nothing of a bank ends below a tick, and so many of its members have a later one of their line
pub record IsWatched (next twins : ℕ) (f : Facts) : Type 0 where
  pub ends : NoneEndsBelow next f
  pub pairs : twins ≡ twins_in f.members

-- when a read is read, or never
abbrev pub read_at : {n : ℕ} → Outcome n → ℕ
read_at (out.Read u place bytes) = u
read_at _ = never
