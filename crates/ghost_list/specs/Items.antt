-- The items of a list that contracts see.
use Rattle.std.specs.Prelude.{List, [], ◌∷◌, ◌++◌}
use Rattle.ghost_list.specs.declared.GhostList.{GhostList, Empty, Behind'}

-- the items, the first of them first
abbrev pub items : {A : Type 0} → GhostList A → List A
items Empty = []
items (Behind' shape before item) = items before ++ item.value ∷ []

-- the items, the last of them first
abbrev pub newest : {A : Type 0} → GhostList A → List A
newest Empty = []
newest (Behind' shape before item) = item.value ∷ newest before
