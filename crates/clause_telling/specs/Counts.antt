-- What a bank did by the tick at which a write is told to be stored.
use Rattle.std.specs.Prelude.{◌≡◌, ℕ, ◌&&◌, ◌++◌, ◌∷◌, Bool, IsTrue, List, Option, Some, None, nat_le, nat_lt}
use Rattle.result_rows.specs.declared.Outcome.{Outcome}
use Rattle.result_rows.specs.declared.Outcome.TheVariants as out
use Rattle.row_rules.specs.{Answers.{stored_after, stored_by, read_after, read_by}, Rows.{asks_read, asks_write, is_cut}, declared.Row.Row, declared.Rules.Rules}
use Rattle.row_rules.specs.Ticking as ticking
use Rattle.check_verdict.specs.Judged.{beside, a_write}
use Rattle.check_telling.specs.{Clauses.latest, declared.facts.StoreCounts.StoreCounts}

module _ {n : ℕ} where
  -- a write that is stored above a tick and by another, a read that is read then, and a cut that comes by then
  abbrev pub is_stored_in : ℕ → ℕ → Row n → Bool
  is_stored_in above to q = asks_write q.asks && (stored_after above q.outcome && stored_by to q.outcome)

  abbrev pub is_read_in : ℕ → ℕ → Row n → Bool
  is_read_in above to q = asks_read q.asks && (read_after above q.outcome && read_by to q.outcome)

  abbrev pub is_cut_to : ℕ → Row n → Bool
  is_cut_to to q = is_cut q && nat_le q.tick to

  -- what is counted of a write that is stored at tick u, by its bank's rows before it, the newest first, and those behind it
  pub record Counts (rules : Rules) (r : Row n) (u : ℕ) (past later : List (Row n)) (c : StoreCounts) : Type 0 where
    pub stores : c.stores ≡ ticking.stores_in r.tick u (past ++ r ∷ later)
    pub reads : c.reads ≡ ticking.reads_in r.tick u (past ++ r ∷ later)
    pub cuts : c.cuts ≡ ticking.cuts_to u later
    pub latest_is : c.latest ≡ latest rules u r past later

  -- of a write of a line with an outcome in a whole table: it is told where the write is stored behind its arrival
  abbrev pub TellsCounts : Rules → List ℕ → ℕ → ℕ → List (Row n) → List (Row n) → Outcome n → Option StoreCounts → Type 0
  TellsCounts rules banks tick line before after o None = (u place : ℕ) → o ≡ out.Stored u place → IsTrue (nat_lt tick u) → ⊥
  TellsCounts rules banks tick line before after o (Some c) =
      (u place : ℕ) (bytes : List ℕ) (given : List Bool) → o ≡ out.Stored u place
      → Counts rules (a_write tick line bytes given o) u (beside banks line before) (beside banks line after) c
