-- What is kept of a bank, with one row more.
use Rattle.row_rules.specs.{Answers.{is_stored, is_answered, is_lost}, Queueing.stands, Rows.{asks_read, accepted, asks_cut, line_of}, declared.Row.Row}
use Rattle.check_judging.specs.{Distances.later_of, Standing.is_own}
use Rattle.std.specs.Prelude.{◌≡◌, ℕ, ◌+◌, ◌<◌, ◌==◌, ◌&&◌, not, Bool, true, false, IsTrue, List, [], ◌∷◌, ◌++◌, Option, filter}
use Rattle.result_rows.specs.declared.Outcome.TheVariants as out
use Rattle.check_verdict.specs.{Kept.{sight, sight_of, KeptBank}, declared.members.Member.Member}

-- a member isn't merged into a write of this line
abbrev pub stays_beside : ℕ → Member → Bool
stays_beside line m = not (m.merged && (line == m.line))

-- an accepted write joins as the newest member, and the one that is merged into it leaves
abbrev pub JoinKeptLaw : Type 0
JoinKeptLaw =
    (n t : ℕ) (r : Row n) (rows : List (Row n)) (members : List Member) (waits : List ℕ) (lost : ℕ) (last_answer last_store : Option ℕ) (m : Member)
    → KeptBank t rows members waits lost last_answer last_store → IsTrue (is_own r) → IsTrue (accepted r) → IsTrue (stands t [] r) → sight m ≡ sight_of r
    → KeptBank t (r ∷ rows) (filter (stays_beside (line_of r.asks)) members ++ m ∷ []) waits lost last_answer last_store

-- behind a cut no read is still to be lost
abbrev pub CutKeptLaw : Type 0
CutKeptLaw =
    (n t : ℕ) (r : Row n) (rows : List (Row n)) (members : List Member) (waits : List ℕ) (lost at : ℕ) (last_answer last_store : Option ℕ)
    → KeptBank t rows members waits lost last_answer last_store → asks_cut r.asks ≡ true → r.outcome ≡ out.Cut at
    → KeptBank t (r ∷ rows) members waits 0 last_answer last_store

-- a read that is read joins those that wait
abbrev pub AnswerKeptLaw : Type 0
AnswerKeptLaw =
    (n t u place : ℕ) (bytes : List ℕ) (r : Row n) (rows : List (Row n)) (members : List Member) (waits : List ℕ) (lost : ℕ) (last_answer last_store : Option ℕ)
    → KeptBank t rows members waits lost last_answer last_store → asks_read r.asks ≡ true → r.outcome ≡ out.Read u place bytes → t < u
    → KeptBank t (r ∷ rows) members (waits ++ u ∷ []) lost (later_of u last_answer) last_store

-- and one that is lost
abbrev pub LossKeptLaw : Type 0
LossKeptLaw =
    (n t u : ℕ) (r : Row n) (rows : List (Row n)) (members : List Member) (waits : List ℕ) (lost : ℕ) (last_answer last_store : Option ℕ)
    → KeptBank t rows members waits lost last_answer last_store → asks_read r.asks ≡ true → r.outcome ≡ out.Lost u
    → KeptBank t (r ∷ rows) members waits (lost + 1) last_answer last_store

-- what is kept stays as it is behind a row that neither joins the queue nor waits
abbrev pub OtherKeptLaw : Type 0
OtherKeptLaw =
    (n t : ℕ) (r : Row n) (rows : List (Row n)) (members : List Member) (waits : List ℕ) (lost : ℕ) (last_answer last_store : Option ℕ)
    → KeptBank t rows members waits lost last_answer last_store → IsTrue (is_own r) → accepted r ≡ false → asks_cut r.asks ≡ false
    → is_stored r.outcome ≡ false → is_answered r.outcome ≡ false → is_lost r.outcome ≡ false
    → KeptBank t (r ∷ rows) members waits lost last_answer last_store
