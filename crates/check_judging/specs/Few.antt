-- At most one element of a kind.
use Rattle.std.specs.{List.list_all, Prelude.{◌&&◌, ◌||◌, not, Bool, List, nat_le, count_by}}

-- at most one of these is an own one, and it passes a test
abbrev pub few_by : {A : Type 0} → (A → Bool) → (A → Bool) → List A → Bool
few_by own one xs = nat_le (count_by own xs) 1 && list_all (λ x. not (own x) || one x) xs
