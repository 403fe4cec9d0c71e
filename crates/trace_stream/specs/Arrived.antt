-- Bytes that came from a source and aren't read yet.
use Rattle.std.specs.Prelude.{◌≡◌, ℕ, List, [], Bool, true}

-- the bytes, and whether the source was seen to end
pub record Arrived : Type 0 where
  pub bytes : List ℕ
  pub ended : Bool

-- what may still come: nothing, once the source was seen to end
abbrev pub Comes : Bool → List ℕ → Type 0
Comes ended more = ended ≡ true → more ≡ []

-- behind the end nothing is taken, and the end stays
abbrev pub StaysEnded : Bool → List ℕ → Bool → Type 0
StaysEnded old bytes new = old ≡ true → (bytes ≡ []) × (new ≡ true)
