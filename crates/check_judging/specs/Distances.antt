-- How far a row's action lies from those of the rows before it.
use Rattle.std.specs.{List.list_all, Prelude.{◌≡◌, ℕ, ◌+◌, ◌==◌, not, ◌&&◌, ◌||◌, Bool, true, IsTrue, if◌then◌else◌, List, [], ◌∷◌, Option, Some, None, nat_le, nat_lt}}
use Rattle.result_rows.specs.declared.Outcome.{Outcome}
use Rattle.result_rows.specs.declared.Outcome.TheVariants as out
use Rattle.row_rules.specs.{Ticking.apart, declared.Row.Row}

-- the greater of a tick and another, if there is one
abbrev pub later_of : ℕ → Option ℕ → Option ℕ
later_of u None = Some u
later_of u (Some v) = if nat_le u v then Some v else Some u

-- that tick lies a distance or more below u, if there is one
abbrev pub is_far_below : ℕ → ℕ → Option ℕ → Bool
is_far_below read u None = true
is_far_below read u (Some v) = nat_le (v + read) u

module _ {n : ℕ} where
  -- with the tick of an outcome `stored` above t in front
  abbrev pub end_above : ℕ → Outcome n → List ℕ → List ℕ
  end_above t (out.Stored u place) more = if nat_lt t u then u ∷ more else more
  end_above t _ more = more

  -- the ticks above t at which these rows are stored
  abbrev pub ends_above : ℕ → List (Row n) → List ℕ
  ends_above t [] = []
  ends_above t (q ∷ rows) = end_above t q.outcome (ends_above t rows)

  abbrev pub wait_above : ℕ → Outcome n → List ℕ → List ℕ
  wait_above t (out.Read u place bytes) more = if nat_lt t u then u ∷ more else more
  wait_above t _ more = more

  -- the ticks above t at which these rows are read
  abbrev pub waits_above : ℕ → List (Row n) → List ℕ
  waits_above t [] = []
  waits_above t (q ∷ rows) = wait_above t q.outcome (waits_above t rows)

  abbrev pub end_to : ℕ → Outcome n → Option ℕ → Option ℕ
  end_to t (out.Stored u place) found = if nat_lt t u then found else later_of u found
  end_to t _ found = found

  -- the greatest tick up to t at which one of these rows is stored
  abbrev pub last_end : ℕ → List (Row n) → Option ℕ
  last_end t [] = None
  last_end t (q ∷ rows) = end_to t q.outcome (last_end t rows)

  abbrev pub read_to : Outcome n → Option ℕ → Option ℕ
  read_to (out.Read u place bytes) found = later_of u found
  read_to _ found = found

  -- the greatest tick at which one of these rows is read
  abbrev pub last_read : List (Row n) → Option ℕ
  last_read [] = None
  last_read (q ∷ rows) = read_to q.outcome (last_read rows)

  -- the tests of a row that is stored or read above t
  abbrev pub is_apart : ℕ → ℕ → Outcome n → List (Row n) → Bool
  is_apart read t (out.Stored u place) rows =
      is_far_below read u (last_end t rows)
      && (list_all (λ v. nat_le (u + read) v || nat_le (v + read) u) (ends_above t rows) && list_all (λ v. not (u == v)) (waits_above t rows))
  is_apart read t (out.Read u place bytes) rows = is_far_below read u (last_read rows) && list_all (λ v. not (u == v)) (ends_above t rows)
  is_apart read t _ rows = true

  -- a row is stored or read above t
  abbrev pub ends_behind : ℕ → Outcome n → Bool
  ends_behind t (out.Stored u place) = nat_lt t u
  ends_behind t (out.Read u place bytes) = nat_lt t u
  ends_behind t _ = true

abbrev pub ApartLaw : Type 0
ApartLaw =
    (n read t : ℕ) (o : Outcome n) (rows : List (Row n)) → IsTrue (ends_behind t o)
    → list_all (λ q. apart read o q.outcome) rows ≡ is_apart read t o rows
