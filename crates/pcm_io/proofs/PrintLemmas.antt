-- How the parts of a row are printed one behind the other.
use Rattle.std.proofs.Common.{◌≡◌, List, ℕ, [], ◌∷◌, ◌++◌, append_assoc}
use Rattle.std.specs.{List.join_with_byte, Prelude.codes}
use Rattle.pcm_io.specs.Reserved.{Reserved, appended}

-- four fields that were pushed one by one, with a comma behind each but the last, and LF at the end
pub pieces-row : (t : Reserved) (a b c d : List ℕ) →
    appended (appended (appended (appended (appended t (a ++ codes ",")) (b ++ codes ",")) (c ++ codes ",")) d) (codes "\n")
    ≡ appended t (join_with_byte 44 (a ∷ b ∷ c ∷ d ∷ []) ++ codes "\n")
pieces-row t a b c d = simp append_assoc
