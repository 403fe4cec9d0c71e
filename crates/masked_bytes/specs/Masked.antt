-- Bytes of which some are given: a list of bytes beside a list that says which.
use Rattle.std.specs.{List.{list_all, list_any}, Prelude.{◌≡◌, ℕ, List, [], ◌∷◌, Bool, true, false, ◌||◌, ◌&&◌, ◌==◌, if◌then◌else◌, replicate, length, IsTrue}}

-- the given ones of these bytes over others
abbrev pub laid : List ℕ → List Bool → List ℕ → List ℕ
laid [] given under = under
laid (b ∷ bytes) [] under = under
laid (b ∷ bytes) (g ∷ given) [] = []
laid (b ∷ bytes) (g ∷ given) (u ∷ under) = (if g then b else u) ∷ laid bytes given under

-- what either gives
abbrev pub joined : List Bool → List Bool → List Bool
joined [] other = other
joined (g ∷ given) [] = g ∷ given
joined (g ∷ given) (o ∷ other) = (g || o) ∷ joined given other

-- no byte of n
abbrev pub none_given : ℕ → List Bool
none_given n = replicate n false

-- each byte of n
abbrev pub all_given : ℕ → List Bool
all_given n = replicate n true

-- whether every byte is given
abbrev pub gives_all : List Bool → Bool
gives_all given = list_all (λ g. g) given

-- whether some byte is given
abbrev pub gives_some : List Bool → Bool
gives_some given = list_any (λ g. g) given

-- whether each byte that is not given is 0
abbrev pub zero_elsewhere : List ℕ → List Bool → Bool
zero_elsewhere [] given = true
zero_elsewhere (b ∷ bytes) [] = true
zero_elsewhere (b ∷ bytes) (g ∷ given) = (g || b == 0) && zero_elsewhere bytes given

-- n bytes of which some are given, at least one; a byte that is not given is 0
pub record IsMasked (n : ℕ) (bytes : List ℕ) (given : List Bool) : Type 0 where
  pub bytes_len : length bytes ≡ n
  pub given_len : length given ≡ n
  pub some : IsTrue (gives_some given)
  pub others : IsTrue (zero_elsewhere bytes given)
