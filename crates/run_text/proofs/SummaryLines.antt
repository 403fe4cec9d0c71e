-- The thirteen lines of a summary, put behind a text one by one.
use Rattle.std.proofs.Common.{ℕ, ◌≡◌, List, [], ◌++◌, append_assoc, append-nil}
use Rattle.pcm_io.specs.Reserved.{Reserved, appended}

pub thirteen_lines : (t : Reserved) (a b c d e f g h i j k l m : List ℕ) →
    appended (appended (appended (appended (appended (appended (appended (appended (appended (appended (appended (appended (appended t a) b) c) d) e) f) g) h) i) j) k) l) m
    ≡ appended t (a ++ (b ++ (c ++ (d ++ (e ++ (f ++ (g ++ (h ++ (i ++ (j ++ (k ++ (l ++ (m ++ [])))))))))))))
thirteen_lines t a b c d e f g h i j k l m = simp (append_assoc, append-nil)
