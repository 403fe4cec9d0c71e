-- What is told of the lowest row that breaks a rule.
use Rattle.std.specs.List.{list_any}
use Rattle.std.specs.Prelude.{◌≡◌, ◌≢◌, ℕ, ◌+◌, ◌-◌, ◌<◌, ◌≤◌, ◌^◌, Bool, true, false, IsTrue, List, [], All, Option, Some, None, drop, length, reverse, slice_get, take}
use Rattle.result_rows.specs.declared.Outcome.{Outcome}
use Rattle.result_rows.specs.declared.Outcome.TheVariants as out
use Rattle.row_rules.specs.{Lines.IsOfLines, declared.Asks.Asks, declared.Asks.TheVariants.{Reads, Writes, Cuts}, declared.Row.Row, declared.Rules.Rules}
use Rattle.check_judging.specs.Rising.{rising}
use Rattle.check_verdict.specs.{Fitting.all_brief, Judged.a_row, Verdicts.{bank_in, keeps, keeps_all, mates, verdict_of}, Within.AreWithin, declared.Rule.Rule}
use Rattle.check_verdict.specs.declared.Verdict.TheVariants.{Yes, No}
use Rattle.check_telling.specs.{Grounds.TellsRead, Standing.{first_at, mates_of}, WriteGrounds.TellsWrite, declared.facts.RowAt.RowAt, declared.facts.StoreCounts.StoreCounts}
use Rattle.clause_telling.specs.{Broken.first_clause, ByFinds.cut_clause, Counts.TellsCounts, Others.{is_near, stale_at}, Rooms.{HadRoom, TellsRoom}, declared.room.Crowd.Crowd}
use Rattle.verdict_telling.specs.{Offers.{Offer, lines_of, offers}, declared.row.Explanation.Explanation, declared.row.Finds.Finds}
use Rattle.verdict_telling.specs.declared.row.Finds.TheVariants as finds

abbrev pub late_of : Option StoreCounts → ℕ
late_of None = 0
late_of (Some c) = c.latest

abbrev pub is_some_row : Option RowAt → Bool
is_some_row None = false
is_some_row (Some one) = true

module _ {n : ℕ} where
  abbrev pub IsFew : List (Row n) → Type 0
  IsFew rows = length rows ≤ 400000

  -- the last of these rows, the newest first, before which the bytes that are answered were the line's newest
  abbrev pub stale_of : ℕ → Outcome n → List (Row n) → Option RowAt
  stale_of line (out.Read u place bytes) before = stale_at bytes line before
  stale_of line (out.Forwarded u bytes) before = stale_at bytes line before
  stale_of line _ before = None

  abbrev pub IsWriteOf : ℕ → Asks n → Type 0
  IsWriteOf line (Reads at) = ⊥
  IsWriteOf line (Writes at bytes given) = line ≡ at
  IsWriteOf line Cuts = ⊥

module _ {n : ℕ} (rules : Rules) (banks : List ℕ) (before : List (Row n)) where
  -- all that a row finds, by the rows before it and behind it, the oldest first
  abbrev pub TellsAsked : List (Row n) → ℕ → Asks n → Finds n → Type 0
  TellsAsked after tick (Reads line) (finds.Read g) = TellsRead rules banks tick line before after g
  TellsAsked after tick (Reads line) (finds.Write g) = ⊥
  TellsAsked after tick (Reads line) finds.Cut = ⊥
  TellsAsked after tick (Writes line bytes given) (finds.Read g) = ⊥
  TellsAsked after tick (Writes line bytes given) (finds.Write g) = TellsWrite rules banks tick line before after g
  TellsAsked after tick (Writes line bytes given) finds.Cut = ⊥
  TellsAsked after tick Cuts (finds.Read g) = ⊥
  TellsAsked after tick Cuts (finds.Write g) = ⊥
  TellsAsked after tick Cuts finds.Cut = Unit {0}

  -- the first row of its bank from which its action doesn't lie apart
  abbrev pub near_of : Asks n → Outcome n → Option RowAt
  near_of (Reads line) o = first_at (is_near rules.read_ticks o) (mates_of (bank_in banks) (bank_in banks line) 0 before)
  near_of (Writes line bytes given) o = first_at (is_near rules.read_ticks o) (mates_of (bank_in banks) (bank_in banks line) 0 before)
  near_of Cuts o = None

  -- what its bank did by the tick at which it is stored
  abbrev pub TellsStored : List (Row n) → ℕ → Asks n → Outcome n → Option StoreCounts → Type 0
  TellsStored after tick (Reads line) o counts = counts ≡ None
  TellsStored after tick (Writes line bytes given) o counts = TellsCounts rules banks tick line (reverse before) after o counts
  TellsStored after tick Cuts o counts = counts ≡ None

  abbrev pub stale_asked : Asks n → Outcome n → Option RowAt
  stale_asked (Reads line) o = stale_of line o (reverse before)
  stale_asked (Writes line bytes given) o = None
  stale_asked Cuts o = None

  -- a row breaks no rule with an outcome in its own's place, where all others are as they are told
  abbrev pub is_right : Row n → List (Row n) → Outcome n → Bool
  is_right one after o = keeps_all rules banks (reverse before) (a_row one.tick one.asks o) after

  -- one of these lines offers an outcome of it
  abbrev pub is_offered : Row n → List (Row n) → List Offer → Outcome n → Bool
  is_offered one after lines o = list_any (offers (mates banks one.asks (reverse before)) (mates banks one.asks after) o) lines

  -- the lines of a row that is explained so tell exactly the outcomes that are right, and there are none exactly where no outcome is
  pub record AreRight (one : Row n) (after : List (Row n)) (lines : List Offer) : Type 0 where
    pub exact : (o : Outcome n) → is_right one after o ≡ is_offered one after lines o
    pub some : lines ≢ [] → (o : Outcome n) × IsTrue (is_right one after o)

  -- of a row that breaks a rule: the first clause of it, the bank that has no room, all that the row finds, and what would be right
  pub record TellsRow (one : Row n) (after : List (Row n)) (rule : Rule) (e : Explanation n) : Type 0 where
    pub clause_is : first_clause rules banks rule (reverse before) one after ≡ Some e.clause
    pub crowd_is : TellsRoom rules banks one.tick (reverse before) e.crowd
    pub finds_are : TellsAsked after one.tick one.asks e.finds
    pub near_is : e.near ≡ near_of one.asks one.outcome
    pub counts_are : TellsStored after one.tick one.asks one.outcome e.counts
    pub stale_is : e.stale ≡ stale_asked one.asks one.outcome
    pub right : AreRight one after (lines_of rules one.tick e.finds e.crowd)

  abbrev pub TellsOne : Row n → List (Row n) → ℕ → Rule → Explanation n → Type 0
  TellsOne one after row rule e = (e.row ≡ row) × ((e.rule ≡ rule) × TellsRow one after rule e)

  -- a row may be told that breaks a rule, where those before it keep the rule on room and ticks don't fall
  pub record MayTell (one : Row n) (after : List (Row n)) (rule : Rule) : Type 0 where
    pub limits : AreWithin rules
    pub few : length before + length after < 400000
    pub own : IsOfLines (length banks) one.asks
    pub past : All (λ r. IsOfLines (length banks) r.asks) before
    pub later : All (λ r. IsOfLines (length banks) r.asks) after
    pub tick : one.tick < 2 ^ 50
    pub brief : IsTrue (all_brief before)
    pub breaks : keeps banks rules rule (reverse before) one after ≡ false
    pub had : HadRoom rules banks one.tick (reverse before)
    pub rises : IsTrue (rising one.tick after)

-- of a cut
pub record IsOfCut {n : ℕ} (one : Row n) (row : ℕ) (rule : Rule) (crowd : Option (Crowd n)) (e : Explanation n) : Type 0 where
  pub row_is : e.row ≡ row
  pub rule_is : e.rule ≡ rule
  pub clause_is : e.clause ≡ cut_clause one.tick one.outcome rule
  pub crowd_is : e.crowd ≡ crowd
  pub finds_are : e.finds ≡ finds.Cut
  pub near_is : e.near ≡ None
  pub counts_are : e.counts ≡ None
  pub stale_is : e.stale ≡ None

module _ {n : ℕ} (rules : Rules) (banks : List ℕ) (rows : List (Row n)) where
  -- what is told of the row at a number of a table
  abbrev pub TellsOf : ℕ → Rule → Explanation n → Type 0
  TellsOf row rule e =
      (e.row ≡ row) × ((e.rule ≡ rule) × ((q : Row n) → slice_get rows (row - 1) ≡ Some q → TellsRow rules banks (take (row - 1) rows) q (drop row rows) rule e))

  -- a table of which the verdict names a row and a rule
  pub record IsTold (row : ℕ) (rule : Rule) : Type 0 where
    pub limits : AreWithin rules
    pub few : length rows ≤ 400000
    pub lines : All (λ r. IsOfLines (length banks) r.asks) rows
    pub brief : IsTrue (all_brief rows)
    pub ticks : All (λ r. r.tick < 2 ^ 50) rows
    pub rises : IsTrue (rising 0 rows)
    pub named : verdict_of rules banks rows ≡ No row rule

  -- nothing where the verdict on these rows, the oldest first, is Yes; else the row and the rule of the verdict, and what is told of the row
  abbrev pub Explains : Option (Explanation n) → Type 0
  Explains None = verdict_of rules banks rows ≡ Yes
  Explains (Some e) = (verdict_of rules banks rows ≡ No e.row e.rule) × TellsOf e.row e.rule e
