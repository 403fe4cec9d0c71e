-- How a row is put together.
use Rattle.std.proofs.Common.{◌≡◌, ℕ, ◌^◌, ◌<◌, ◌≤◌, List, [], ◌∷◌, ◌++◌, length, append_assoc, arith}
use Rattle.std.specs.{List.join_with_byte, Prelude.{codes, decimal}}
use Rattle.pcm_io.{specs.Reserved.{Reserved, appended}, proofs.DigitLemmas.five_digits}

-- how many digits a number of 16 bits has
pub few_digits : (n : ℕ) → n < 2 ^ 16 → length (decimal n) ≤ 5
few_digits n bound = five_digits n (omega (arith, bound))

-- a row's number and a comma, and then four fields and LF
pub pieces-told : (t : Reserved) (a d e f g : List ℕ) →
    appended (appended t (a ++ codes ",")) (join_with_byte 44 (d ∷ e ∷ f ∷ g ∷ []) ++ codes "\n")
    ≡ appended t (join_with_byte 44 (a ∷ d ∷ e ∷ f ∷ g ∷ []) ++ codes "\n")
pieces-told t a d e f g = simp append_assoc

-- ten counts that were pushed one by one, with a comma behind each
pub pieces-counts : (t : Reserved) (a b d e f g h i j k : List ℕ) →
    appended (appended (appended (appended (appended (appended (appended (appended (appended (appended t (a ++ codes ",")) (b ++ codes ",")) (d ++ codes ",")) (e ++ codes ",")) (f ++ codes ",")) (g ++ codes ",")) (h ++ codes ",")) (i ++ codes ",")) (j ++ codes ",")) (k ++ codes ",")
    ≡ appended t (join_with_byte 44 (a ∷ b ∷ d ∷ e ∷ f ∷ g ∷ h ∷ i ∷ j ∷ k ∷ []) ++ codes ",")
pieces-counts t a b d e f g h i j k = simp append_assoc

-- the numbers of a snapshot, with its counts in one piece
pub pieces-snapshot : (t : Reserved) (a b counts d e f g h k : List ℕ) →
    appended (appended (appended (appended (appended (appended (appended (appended (appended (appended t (a ++ codes ",")) (b ++ codes ",")) counts) (d ++ codes ",")) (e ++ codes ",")) (f ++ codes ","))
    (g ++ codes ",")) (h ++ codes ",")) k) (codes "\n")
    ≡ appended t (a ++ codes "," ++ b ++ codes "," ++ counts ++ join_with_byte 44 (d ∷ e ∷ f ∷ g ∷ h ∷ k ∷ []) ++ codes "\n")
pieces-snapshot t a b counts d e f g h k = simp append_assoc

-- the line of a shape, number by number, and what it tells besides
pub pieces-shape : (t : Reserved) (word version comma a b d e f g h rest : List ℕ) →
    appended (appended (appended (appended (appended (appended (appended (appended (appended (appended (appended t word) (version ++ comma)) (a ++ codes " ")) (b ++ codes " ")) (d ++ codes " ")) (e ++ codes " ")) (f ++ codes " ")) (g ++ codes " ")) h) rest) (codes "\n")
    ≡ appended t (word ++ version ++ comma ++ join_with_byte 32 (a ∷ b ∷ d ∷ e ∷ f ∷ g ∷ h ∷ []) ++ rest ++ codes "\n")
pieces-shape t word version comma a b d e f g h rest = simp append_assoc

pub pieces-rest : (t : Reserved) (a b d e policy home : List ℕ) →
    appended (appended (appended (appended (appended (appended (appended (appended t (codes " ")) (a ++ codes " ")) (b ++ codes " ")) (d ++ codes " ")) (e ++ codes " ")) policy) (codes " ")) home
    ≡ appended t (codes " " ++ join_with_byte 32 (a ∷ b ∷ d ∷ e ∷ policy ∷ home ∷ []))
pieces-rest t a b d e policy home = simp append_assoc

-- the line of a peek
pub pieces-newest : (t : Reserved) (word a b bytes : List ℕ) →
    appended (appended (appended (appended (appended t word) (a ++ codes ",")) (b ++ codes ",")) bytes) (codes "\n")
    ≡ appended t (word ++ a ++ codes "," ++ b ++ codes "," ++ bytes ++ codes "\n")
pieces-newest t word a b bytes = simp append_assoc

-- the header and that line
pub pieces-head : (t : Reserved) (a b : List ℕ) → appended (appended t a) b ≡ appended t (a ++ b)
pieces-head t a b = simp append_assoc

-- the line of a look, whose counts of energy are one piece: its word, the tick and two commas, and numbers
pub pieces-wear : (t : Reserved) (word a commas b d e f k : List ℕ) →
    appended (appended (appended (appended (appended (appended (appended (appended t word) (a ++ commas)) (b ++ codes " ")) (d ++ codes " ")) (e ++ codes " ")) (f ++ codes " ")) k) (codes "\n")
    ≡ appended t (word ++ a ++ commas ++ join_with_byte 32 (b ∷ d ∷ e ∷ f ∷ k ∷ []) ++ codes "\n")
pieces-wear t word a commas b d e f k = simp append_assoc

-- the line of a bank, whose mark has a word of its own
pub pieces-bank : (t : Reserved) (a b d e word : List ℕ) →
    appended (appended (appended (appended (appended (appended (appended t (codes ",bank,")) (a ++ codes ",")) (b ++ codes ",")) (d ++ codes " ")) (e ++ codes " ")) word) (codes "\n")
    ≡ appended t (codes ",bank," ++ a ++ codes "," ++ b ++ codes "," ++ d ++ codes " " ++ e ++ codes " " ++ word ++ codes "\n")
pieces-bank t a b d e word = simp append_assoc
