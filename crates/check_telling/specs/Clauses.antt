-- The clauses of the rules: tests of a row, each of which is told by itself. A rule is kept exactly where each of its clauses holds.
use Rattle.std.specs.{List.{list_all, list_any}, Prelude.{◌≡◌, ℕ, ◌+◌, ◌==◌, ◌&&◌, ◌||◌, not, Bool, true, false, List, [], ◌∷◌, ◌++◌, nat_le, nat_lt, length, filter}}
use Rattle.masked_bytes.specs.Masked.{gives_all}
use Rattle.result_rows.specs.declared.Outcome.{Outcome}
use Rattle.result_rows.specs.declared.Outcome.TheVariants as out
use Rattle.row_rules.specs.Answers.{is_full, is_forwarded, is_busy, is_answered, is_lost, is_worn}
use Rattle.row_rules.specs.{Queueing.{pending, waiting, cover, is_at_head, is_refused, merge_fits, has_room}, Rows.{RowTest, asks_write, write_of}, Serving.{same_bytes, owed}}
use Rattle.row_rules.specs.{Ticking.{bound, longest, stores_in, reads_in, cuts_to, no_cut_below, first_cut_at, apart}, Wearing.{worn_row, store_fits}, declared.Asks.Asks}
use Rattle.row_rules.specs.{declared.Asks.TheVariants.{Reads, Writes, Cuts}, declared.Row.Row, declared.Rules.Rules}
use Rattle.check_verdict.specs.{Verdicts.{mates, all_have_room, keeps}, declared.Rule.Rule}
use Rattle.check_verdict.specs.declared.Rule.TheVariants as rule
use Rattle.check_telling.specs.declared.Clause.{Clause}
use Rattle.check_telling.specs.declared.Clause.TheVariants as clause

module _ {n : ℕ} where
  -- an outcome of the operation that a row asks for
  abbrev pub is_of_op : Asks n → Outcome n → Bool
  is_of_op (Writes line bytes given) (out.Stored at place) = true
  is_of_op (Writes line bytes given) (out.Merged at) = true
  is_of_op (Writes line bytes given) (out.Queued at) = true
  is_of_op (Writes line bytes given) (out.Full at) = true
  is_of_op (Writes line bytes given) (out.Worn at) = true
  is_of_op (Writes line bytes given) _ = false
  is_of_op (Reads line) (out.Read at place bytes) = true
  is_of_op (Reads line) (out.Forwarded at bytes) = true
  is_of_op (Reads line) (out.Busy at) = true
  is_of_op (Reads line) (out.Lost at) = true
  is_of_op (Reads line) _ = false
  is_of_op Cuts (out.Cut at) = true
  is_of_op Cuts _ = false

  -- what is decided at a row's arrival, or never, has the row's own tick
  abbrev pub has_own_tick : ℕ → Outcome n → Bool
  has_own_tick tick (out.Queued at) = at == tick
  has_own_tick tick (out.Full at) = at == tick
  has_own_tick tick (out.Worn at) = at == tick
  has_own_tick tick (out.Forwarded at bytes) = at == tick
  has_own_tick tick (out.Busy at) = at == tick
  has_own_tick tick (out.Cut at) = at == tick
  has_own_tick tick _ = true

  -- bytes that are answered are these
  abbrev pub has_bytes : List ℕ → Outcome n → Bool
  has_bytes newest (out.Read at place bytes) = same_bytes bytes newest
  has_bytes newest (out.Forwarded at bytes) = same_bytes bytes newest
  has_bytes newest _ = true

  -- a test of a write, by the writes that stand as it comes, and of a read, by whether the queue gives every byte of its line, whether
  -- its line is at the head, and whether as many reads wait as may
  abbrev pub write_test : (List (Row n) → ℕ → Bool) → List (Row n) → Row n → Asks n → Bool
  write_test test before r (Reads line) = true
  write_test test before r (Writes line bytes given) = test (pending r.tick [] before) line
  write_test test before r Cuts = true

  abbrev pub read_test : (Bool → Bool → Bool → Outcome n → Bool) → Rules → List (Row n) → Row n → Asks n → List (Row n) → Bool
  read_test test rules before r (Reads line) after =
      test (gives_all (cover r.tick line before after)) (is_at_head r.tick line (pending r.tick [] before) before after)
      (length (waiting r.tick [] before) == rules.reads) r.outcome
  read_test test rules before r (Writes line bytes given) after = true
  read_test test rules before r Cuts after = true

  -- a read is forwarded where the queue gives every byte
  abbrev pub forwards : Bool → Bool → Bool → Outcome n → Bool
  forwards covered at_head full o = not covered || is_forwarded o

  -- it is only there, or where its line is at the head
  abbrev pub forwards_only : Bool → Bool → Bool → Outcome n → Bool
  forwards_only covered at_head full o = not (is_forwarded o) || (covered || at_head)

  -- another is busy where as many wait as may
  abbrev pub refuses : Bool → Bool → Bool → Outcome n → Bool
  refuses covered at_head full o = covered || (is_forwarded o || (not full || is_busy o))

  -- it is only there
  abbrev pub refuses_only : Bool → Bool → Bool → Outcome n → Bool
  refuses_only covered at_head full o = covered || (is_forwarded o || (full || (is_answered o || is_lost o)))

  -- the latest tick for a write that is stored at tick u
  abbrev pub latest : Rules → ℕ → Row n → List (Row n) → List (Row n) → ℕ
  latest rules u r before after =
      let all = before ++ r ∷ after in
      r.tick + longest rules (stores_in r.tick u all) (reads_in r.tick u all) (cuts_to u after)

  -- a row isn't read or stored before it can be
  abbrev pub is_late_enough : Rules → ℕ → Asks n → Outcome n → Bool
  is_late_enough rules tick (Reads line) (out.Read u place bytes) = nat_le (tick + rules.read_ticks) u
  is_late_enough rules tick (Reads line) _ = true
  is_late_enough rules tick (Writes line bytes given) (out.Stored u place) = nat_lt tick u
  is_late_enough rules tick (Writes line bytes given) _ = true
  is_late_enough rules tick Cuts o = true

  -- nor later than its bound
  abbrev pub is_soon_enough : Rules → List (Row n) → Row n → Asks n → Outcome n → List (Row n) → Bool
  is_soon_enough rules before r (Reads line) (out.Read u place bytes) after = nat_le u (bound rules r.tick before after)
  is_soon_enough rules before r (Reads line) _ after = true
  is_soon_enough rules before r (Writes line bytes given) (out.Stored u place) after = nat_le u (latest rules u r before after)
  is_soon_enough rules before r (Writes line bytes given) _ after = true
  is_soon_enough rules before r Cuts o after = true

  -- a read isn't read behind a cut that came behind it
  abbrev pub is_before_cut : Asks n → Outcome n → List (Row n) → Bool
  is_before_cut (Reads line) (out.Read u place bytes) after = no_cut_below u after
  is_before_cut (Reads line) _ after = true
  is_before_cut (Writes line bytes given) o after = true
  is_before_cut Cuts o after = true

  -- a read is lost at the first cut behind it
  abbrev pub is_at_cut : Asks n → Outcome n → List (Row n) → Bool
  is_at_cut (Reads line) (out.Lost u) after = first_cut_at u after
  is_at_cut (Reads line) _ after = true
  is_at_cut (Writes line bytes given) o after = true
  is_at_cut Cuts o after = true

  -- before its time is up
  abbrev pub is_lost_soon : Rules → List (Row n) → Row n → Asks n → Outcome n → List (Row n) → Bool
  is_lost_soon rules before r (Reads line) (out.Lost u) after = nat_lt u (bound rules r.tick before after)
  is_lost_soon rules before r (Reads line) _ after = true
  is_lost_soon rules before r (Writes line bytes given) o after = true
  is_lost_soon rules before r Cuts o after = true

  -- a row's action lies apart from those of the rows before it
  abbrev pub lies_apart : Rules → List (Row n) → Row n → Bool
  lies_apart rules before r = list_all (λ q. apart rules.read_ticks r.outcome q.outcome) before

module _ {n : ℕ} (rules : Rules) (banks : List ℕ) where
  -- the test of each clause
  abbrev pub holds : Clause → RowTest n
  holds clause.OfItsOperation before r after = is_of_op r.asks r.outcome
  holds clause.AtItsTick before r after = has_own_tick r.tick r.outcome
  holds clause.NewestBytes before r after = has_bytes (owed before r.asks) r.outcome
  holds clause.Room before r after = all_have_room banks rules before r after && has_room rules r.tick (mates banks r.asks before)
  holds clause.FullWhereFull before r after = write_test (λ ps line. not (is_full r.outcome) || length ps == rules.writes) (mates banks r.asks before) r r.asks
  holds clause.FullWhereAlone before r after =
      write_test (λ ps line. not (is_full r.outcome) || is_refused r.tick ps (filter (write_of line) ps)) (mates banks r.asks before) r r.asks
  holds clause.MergedIntoNext before r after = write_test (λ ps line. merge_fits line r.outcome (mates banks r.asks after)) [] r r.asks
  holds clause.Forwarded before r after = read_test forwards rules (mates banks r.asks before) r r.asks (mates banks r.asks after)
  holds clause.ForwardedOnly before r after = read_test forwards_only rules (mates banks r.asks before) r r.asks (mates banks r.asks after)
  holds clause.Busy before r after = read_test refuses rules (mates banks r.asks before) r r.asks (mates banks r.asks after)
  holds clause.BusyOnly before r after = read_test refuses_only rules (mates banks r.asks before) r r.asks (mates banks r.asks after)
  holds clause.WornBehindWorn before r after = not (asks_write r.asks) || (not (list_any worn_row (mates banks r.asks before)) || is_worn r.outcome)
  holds clause.StoredBeforeWorn before r after =
      not (asks_write r.asks) || store_fits r.outcome (mates banks r.asks before) (mates banks r.asks after)
  holds clause.NotTooEarly before r after = is_late_enough rules r.tick r.asks r.outcome
  holds clause.NotTooLate before r after = is_soon_enough rules (mates banks r.asks before) r r.asks r.outcome (mates banks r.asks after)
  holds clause.ReadBeforeCut before r after = is_before_cut r.asks r.outcome (mates banks r.asks after)
  holds clause.LostAtCut before r after = is_at_cut r.asks r.outcome (mates banks r.asks after)
  holds clause.LostInTime before r after = is_lost_soon rules (mates banks r.asks before) r r.asks r.outcome (mates banks r.asks after)
  holds clause.Apart before r after = lies_apart rules (mates banks r.asks before) r

-- the clauses of a rule, in their order
abbrev pub clauses_of : Rule → List Clause
clauses_of rule.Serves = clause.OfItsOperation ∷ clause.AtItsTick ∷ clause.NewestBytes ∷ []
clauses_of rule.Queue =
    clause.Room ∷ clause.FullWhereFull ∷ clause.FullWhereAlone ∷ clause.MergedIntoNext ∷ clause.Forwarded ∷ clause.ForwardedOnly ∷ clause.Busy ∷ clause.BusyOnly ∷ []
clauses_of rule.Worn = clause.WornBehindWorn ∷ clause.StoredBeforeWorn ∷ []
clauses_of rule.Tick = clause.NotTooEarly ∷ clause.NotTooLate ∷ clause.ReadBeforeCut ∷ clause.LostAtCut ∷ clause.LostInTime ∷ clause.Apart ∷ []

-- a rule is kept exactly where each of its clauses holds
abbrev pub ClauseLaw : Type 0
ClauseLaw =
    (n : ℕ) (rules : Rules) (banks : List ℕ) (one : Rule) (before : List (Row n)) (r : Row n) (after : List (Row n))
    → keeps banks rules one before r after ≡ list_all (λ c. holds rules banks c before r after) (clauses_of one)

-- the clauses of a rule that a row breaks, in their order
abbrev pub broken_clauses : {n : ℕ} → Rules → List ℕ → Rule → List (Row n) → Row n → List (Row n) → List Clause
broken_clauses rules banks one before r after = filter (λ c. not (holds rules banks c before r after)) (clauses_of one)
