-- What a contract sees of a write queue, and what accepting a write does to it.
use Rattle.std.specs.Prelude.{ℕ, ◌<◌, ◌≤◌, nat_lt, Bool, true, false, List, [], ◌∷◌, ◌++◌, length, Option, Some, None}
use Rattle.masked_bytes.specs.{Entries.{candidate_index, merged_at, row_at, AllMasked}, declared.entry.Entry.Entry}
use Rattle.protected_queue.specs.{declared.accept.Accept.Accept, declared.accept.Accept.TheVariants.{Pushed, Merged, Full}}

-- the entries, the oldest first, and how many there may be
pub record QueueState (n : ℕ) : Type 0 where
  pub entries : List (Entry n)
  pub cap : ℕ

-- what is true of every queue of lines of n bytes
pub record IsQueue (n : ℕ) (entries : List (Entry n)) (cap : ℕ) : Type 0 where
  pub some_bytes : 0 < n
  pub few_bytes : n ≤ 128
  pub some_room : 1 ≤ cap
  pub small : cap ≤ 256
  pub within : length entries ≤ cap
  pub masked : AllMasked entries

module _ {n : ℕ} where
  -- the answer to a write whose candidate stands at this index, by whether there is room for one more entry
  abbrev pub answer_by : Option ℕ → Bool → List (Entry n) → Accept
  answer_by (Some index) room es = Merged (row_at es index) index
  answer_by None true es = Pushed
  answer_by None false es = Full

  -- the answer to a write of a line
  abbrev pub accept_answer : ℕ → Bool → List (Entry n) → ℕ → Accept
  accept_answer cap busy es line = answer_by (candidate_index busy es line) (nat_lt (length es) cap) es

  abbrev pub accepted_by : Option ℕ → Bool → Entry n → List (Entry n) → List (Entry n)
  accepted_by (Some index) room e es = merged_at index e.row e.bytes e.given es
  accepted_by None true e es = es ++ e ∷ []
  accepted_by None false e es = es

  -- the entries after a write: merged into its candidate, or else behind the others where there is room
  abbrev pub accepted : ℕ → Bool → Entry n → List (Entry n) → List (Entry n)
  accepted cap busy e es = accepted_by (candidate_index busy es e.line) (nat_lt (length es) cap) e es
