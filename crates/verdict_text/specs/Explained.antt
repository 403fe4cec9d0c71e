-- An explanation as text, behind the line of its verdict.
use Rattle.std.specs.Prelude.{ℕ, List, ◌++◌, codes, decimal, Option, Some, None}
use Rattle.trace_reader.specs.declared.event.Event.{Event}
use Rattle.result_rows.specs.declared.Outcome.{Outcome}
use Rattle.row_rules.specs.declared.Rules.{Rules}
use Rattle.check_telling.specs.declared.Clause.{Clause}
use Rattle.check_telling.specs.declared.Clause.TheVariants as clause
use Rattle.clause_telling.specs.declared.room.Crowd.{Crowd}
use Rattle.verdict_telling.specs.{Offers.lines_of, declared.row.Explanation.Explanation, declared.row.Finds.Finds, declared.row.Finds.TheVariants.{Read, Write, Cut}}
use Rattle.verdict_text.specs.{ClauseWords.clause_words, ReadFacts.{own_on, read_facts_on}, RightLines.right_on, RoomFacts.crowd_on, RowWords.{answer_on, asks_on}}
use Rattle.verdict_text.specs.WriteFacts.{write_facts_on}

-- the bank of a row's line; a cut is of no bank
abbrev pub bank_on : List ℕ → Option ℕ → List ℕ
bank_on text None = text ++ codes "\n"
bank_on text (Some bank) = text ++ codes ", bank " ++ decimal bank ++ codes "\n"

-- the clause that a row breaks
abbrev pub breaks_on : List ℕ → Clause → List ℕ
breaks_on text broken = text ++ codes "  breaks " ++ clause_words broken ++ codes "\n"

module _ {n : ℕ} where
  -- what a row asked, and what it was told
  abbrev pub head_on : List ℕ → Option ℕ → Event n → Outcome n → List ℕ
  head_on text bank event outcome =
      answer_on (bank_on (asks_on (text ++ codes "  asks   ") event.op ++ codes " at tick " ++ decimal event.tick) bank ++ codes "  told   ") outcome
      ++ codes "\n"

  -- the same, and the clause that it breaks
  abbrev pub row_on : List ℕ → Option ℕ → Event n → Outcome n → Clause → List ℕ
  row_on text bank event outcome broken = breaks_on (head_on text bank event outcome) broken

  -- what is said of a row that is worn though its bank has accepted no write before it
  abbrev pub unearned_on : List ℕ → Option ℕ → Event n → Outcome n → List ℕ
  unearned_on text bank event outcome =
      head_on text bank event outcome ++ codes "  breaks Earned: a worn row has an accepted write of its bank before it\n"

  -- what a bank holds that holds more than it may, if one does
  abbrev pub room_on : Rules → List (Event n) → List (Outcome n) → List ℕ → Option (Crowd n) → List ℕ
  room_on rules events outcomes text None = text
  room_on rules events outcomes text (Some crowd) = crowd_on events outcomes text rules crowd

  module _ (rules : Rules) (events : List (Event n)) (outcomes : List (Outcome n)) (tick : ℕ) (e : Explanation n) where
    -- what breaks the clause
    abbrev pub found_on : List ℕ → Finds n → List ℕ
    found_on text (Read g) = read_facts_on events outcomes rules tick g text e.clause e.near e.stale
    found_on text (Write w) = write_facts_on events outcomes rules tick w text e.clause e.near e.counts
    found_on text Cut = own_on text tick

    abbrev pub facts_on : List ℕ → Clause → List ℕ
    facts_on text clause.Room = room_on rules events outcomes text e.crowd
    facts_on text _ = found_on text e.finds

    -- the same, and every outcome that would be right
    abbrev pub why_on : List ℕ → List ℕ
    why_on text = right_on (facts_on text e.clause) e.crowd (lines_of rules tick e.finds e.crowd)

  -- a row, its bank, and an explanation of it
  abbrev pub explained_on : List ℕ → Rules → List (Event n) → List (Outcome n) → Option ℕ → Event n → Outcome n → Explanation n → List ℕ
  explained_on text rules events outcomes bank event outcome e =
      why_on rules events outcomes event.tick e (row_on text bank event outcome e.clause)
