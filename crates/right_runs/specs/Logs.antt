-- What the senses of a log show of one row, and of one line.
use Rattle.std.specs.{List.{list_any, list_all}, Prelude.{ℕ, ◌==◌, ◌&&◌, Bool, List, true, ◌∷◌, ◌||◌, not, nat_le, ◌+◌, nat_lt, [], false, filter}}
use Rattle.cell_rows.specs.{declared.array.Sense.Sense, declared.row.Cells.Cells}
use Rattle.masked_bytes.specs.Masked.{laid}
use Rattle.result_rows.specs.declared.Outcome.{Outcome}
use Rattle.result_rows.specs.declared.Outcome.TheVariants as out
use Rattle.row_rules.specs.{Queueing.cover, Rows.{line_of, newest, RowTest, is_cut, asks_read}, Serving.same_bytes, Wearing.worn_row, declared.Row.Row, declared.Rules.Rules}
use Rattle.bank_shape.specs.{Pausing.is_cancelling, declared.BankShape.BankShape}
use Rattle.bank_model.specs.Changes.{all_controls}

module _ {n m : ℕ} (read_as : Cells n m → List ℕ) (log : List (Sense n m)) where
  -- a sense of the place at the tick, whose cells give these bytes
  abbrev pub is_sensed : ℕ → ℕ → (List ℕ → Bool) → Bool
  is_sensed place tick gives = list_any (λ s. s.line == place && (s.tick == tick && gives (read_as s.cells))) log

  -- a row with this outcome: a stored one's sense is read as the line's newest bytes, a read one's as its own, the queue's laid over
  abbrev pub outcome_sensed : List (Row n) → Row n → List (Row n) → Outcome n → Bool
  outcome_sensed before r after (out.Stored tick place) =
      is_sensed place tick (same_bytes (newest (r ∷ before) (line_of r.asks)))
  outcome_sensed before r after (out.Read tick place bytes) =
      is_sensed place tick (λ under. same_bytes bytes (laid (newest before (line_of r.asks)) (cover r.tick (line_of r.asks) before after) under))
  outcome_sensed before r after outcome = true

  -- a row that was read or stored has a sense in the log
  abbrev pub has_sense : RowTest n
  has_sense before r after = outcome_sensed before r after r.outcome

-- a cut has a sense of every control line at its tick
abbrev pub has_controls : {n m : ℕ} → BankShape → List (Sense n m) → RowTest n
has_controls shape log before r after =
    not (is_cut r) || list_all (λ line. list_any (λ s. s.line == line && s.tick == r.tick) log) (all_controls shape)

-- a cut, or under Cancel a read, from the first tick to the second
abbrev pub is_broken : {n : ℕ} → Rules → List (Row n) → ℕ → ℕ → Bool
is_broken rules rows from to =
    list_any (λ r. (is_cut r || (is_cancelling rules.policy && asks_read r.asks)) && (nat_le from r.tick && nat_le r.tick to)) rows

module _ {n m : ℕ} (rules : Rules) (rows : List (Row n)) where
  -- two senses of one line, one after the other: at most one pulse between them, and that an iteration, or broken off.
  -- Where an exhausted line is no longer pulsed, none behind a worn row
  abbrev pub follows : Bool → Sense n m → Sense n m → Bool
  follows wears s t =
      s.pulses == t.pulses
      || (s.pulses + 1 == t.pulses && ((nat_le (s.tick + rules.iter_ticks) t.tick || is_broken rules rows s.tick t.tick)
      && not (wears && list_any (λ r. worn_row r && nat_lt r.tick t.tick) rows)))

  -- one pulse behind this sense was torn by a cut; senses that were added since show it
  abbrev pub tears : ℕ → Sense n m → List (Sense n m) → Bool
  tears pulses s ts =
      s.pulses + 1 == pulses && (list_any (λ r. is_cut r && nat_le s.tick r.tick) rows && list_all (λ t. t.pulses == pulses) ts)

  -- the last sense shows the pulses of the end; or, where the power is off, all but one that was torn
  abbrev pub follow_on_to : Bool → Bool → ℕ → Sense n m → List (Sense n m) → Bool
  follow_on_to off wears pulses s [] = (off && tears pulses s []) || s.pulses == pulses
  follow_on_to off wears pulses s (t ∷ ts) = (off && tears pulses s (t ∷ ts)) || (follows wears s t && follow_on_to off wears pulses t ts)

  -- the same where the power isn't off
  abbrev pub follow_on : Bool → ℕ → Sense n m → List (Sense n m) → Bool
  follow_on = follow_on_to false

  -- the senses of one line, with its pulses in the end
  abbrev pub begins_unpulsed_to : Bool → Bool → ℕ → List (Sense n m) → Bool
  begins_unpulsed_to off wears pulses [] = pulses == 0
  begins_unpulsed_to off wears pulses (s ∷ ss) = s.pulses == 0 && follow_on_to off wears pulses s ss

  -- the same where the power isn't off
  abbrev pub begins_unpulsed : Bool → ℕ → List (Sense n m) → Bool
  begins_unpulsed = begins_unpulsed_to false

  -- what a log shows of a line that has so many pulses in the end
  abbrev pub is_line_fair_to : Bool → List (Sense n m) → Bool → ℕ → ℕ → Bool
  is_line_fair_to off log wears line pulses = begins_unpulsed_to off wears pulses (filter (λ s. s.line == line) log)

  -- the same where the power isn't off
  abbrev pub is_line_fair : List (Sense n m) → Bool → ℕ → ℕ → Bool
  is_line_fair = is_line_fair_to false
