-- How many reads arrived since a tick, told by the fourth last of them.
use Rattle.std.specs.Prelude.{◌≡◌, ℕ, not, ◌&&◌, ◌||◌, Bool, false, IsTrue, if◌then◌else◌, List, [], ◌∷◌, nat_le, nat_lt}
use Rattle.row_rules.specs.{Answers.{is_answered, is_lost}, Rows.asks_read, Ticking.came_since, declared.Row.Row}
use Rattle.check_judging.specs.Rising.{falling}

-- the ticks at which those reads of these rows arrived that are read or lost, the newest first
abbrev pub came : {n : ℕ} → List (Row n) → List ℕ
came [] = []
came (q ∷ rows) = if asks_read q.asks && (is_answered q.outcome || is_lost q.outcome) then q.tick ∷ came rows else came rows

-- there are four of these, and the fourth is at least v
abbrev pub fourth_from : ℕ → List ℕ → Bool
fourth_from v (a ∷ b ∷ c ∷ d ∷ more) = nat_le v d
fourth_from v _ = false

abbrev pub FourthLaw : Type 0
FourthLaw = (n t v : ℕ) (rows : List (Row n)) → IsTrue (falling t rows) → nat_lt (came_since v rows) 4 ≡ not (fourth_from v (came rows))
