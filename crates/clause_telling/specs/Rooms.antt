-- Whether the banks have room as a row comes: that is told by the bank of the row before it.
use Rattle.std.specs.{List.list_any, Prelude.{◌≡◌, ℕ, ◌≤◌, ◌||◌, not, Bool, true, false, if◌then◌else◌, IsTrue, List, [], ◌∷◌, ◌++◌, Option, Some, None, filter, length, reverse}}
use Rattle.row_rules.specs.{Lines.IsOfLines, Queueing.{pending, waiting, has_few, has_room, is_older}, Rows.{accepted_of, line_of}, Table.of_bank, declared.Asks.Asks}
use Rattle.row_rules.specs.{declared.Asks.TheVariants.{Reads, Writes, Cuts}, declared.Row.Row, declared.Rules.Rules}
use Rattle.check_verdict.specs.Verdicts.{all_have_room, bank_in}
use Rattle.check_telling.specs.{Clauses.holds, Standing.{row_at, rows_of}, declared.facts.RowAt.RowAt, declared.mates.Numbered.Numbered}
use Rattle.check_telling.specs.declared.Clause.TheVariants as clause
use Rattle.clause_telling.specs.declared.room.Crowd.{Crowd}

-- each write may stand
abbrev pub none_newer : Option RowAt → Bool
none_newer None = true
none_newer (Some one) = false

module _ {n : ℕ} where
  -- at most one of these is an accepted write of a line
  abbrev pub has_one : ℕ → List (Row n) → Bool
  has_one line [] = true
  has_one line (q ∷ rows) = if accepted_of line q then not (list_any (accepted_of line) rows) else has_one line rows

  -- a write is of another line than a newer one, or may stand with it
  abbrev pub may_stand : List (Row n) → ℕ → Row n → Row n → Bool
  may_stand all line newer q = not (accepted_of line q) || is_older all newer q

  -- the first of these writes that finds others of its line among those before it, with which it may not stand
  abbrev pub first_crowded : List (Row n) → List (Row n) → List (Numbered n) → Option RowAt
  first_crowded all earlier [] = None
  first_crowded all earlier (one ∷ told) =
      if has_few all one.row (filter (accepted_of (line_of one.row.asks)) earlier) then first_crowded all (earlier ++ one.row ∷ []) told else Some (row_at one)

  -- a bank that holds more than it may as a row comes at a tick, by its rows
  pub record IsCrowded (rules : Rules) (bank tick : ℕ) (past : List (Row n)) (c : Crowd n) : Type 0 where
    pub bank_is : c.bank ≡ bank
    pub stand : rows_of c.standing.items ≡ reverse (pending tick [] past)
    pub wait : rows_of c.waiting.items ≡ reverse (waiting tick [] past)
    pub newer_is : c.newer ≡ first_crowded (rows_of c.standing.items) [] c.standing.items

  -- a bank has room, or it is told
  abbrev pub IsRoomOf : Rules → ℕ → ℕ → List (Row n) → Option (Crowd n) → Type 0
  IsRoomOf rules bank tick past None = has_room rules tick past ≡ true
  IsRoomOf rules bank tick past (Some c) = (has_room rules tick past ≡ false) × IsCrowded rules bank tick past c

  abbrev pub bank_asked : List ℕ → Asks n → Option ℕ
  bank_asked banks (Reads line) = Some (bank_in banks line)
  bank_asked banks (Writes line bytes given) = Some (bank_in banks line)
  bank_asked banks Cuts = None

  -- the bank of the last of these rows, the newest first, unless that is a cut
  abbrev pub last_bank : List ℕ → List (Row n) → Option ℕ
  last_bank banks [] = None
  last_bank banks (p ∷ before) = bank_asked banks p.asks

  abbrev pub IsRoomOfLast : Rules → List ℕ → ℕ → List (Row n) → Option ℕ → Option (Crowd n) → Type 0
  IsRoomOfLast rules banks tick before None crowd = crowd ≡ None
  IsRoomOfLast rules banks tick before (Some bank) crowd = IsRoomOf rules bank tick (of_bank (bank_in banks) bank before) crowd

  -- the bank of the last row has room as a row comes at a tick, or it is told
  abbrev pub TellsRoom : Rules → List ℕ → ℕ → List (Row n) → Option (Crowd n) → Type 0
  TellsRoom rules banks tick before crowd = IsRoomOfLast rules banks tick before (last_bank banks before) crowd

  -- those before a row that comes at a tick keep the rule on room, if there are any
  abbrev pub HadRoom : Rules → List ℕ → ℕ → List (Row n) → Type 0
  HadRoom rules banks tick [] = Unit {0}
  HadRoom rules banks tick (p ∷ before) = (p.tick ≤ tick) × (IsOfLines (length banks) p.asks × IsTrue (all_have_room banks rules before p []))

  abbrev pub is_room : Option (Crowd n) → Bool
  is_room None = true
  is_room (Some c) = false

-- then a row finds room exactly where the bank of the row before it has room
abbrev pub RoomLaw : Type 0
RoomLaw =
    (n : ℕ) (rules : Rules) (banks : List ℕ) (before : List (Row n)) (r : Row n) (after : List (Row n)) (crowd : Option (Crowd n))
    → HadRoom rules banks r.tick before → IsOfLines (length banks) r.asks → TellsRoom rules banks r.tick before crowd
    → holds rules banks clause.Room before r after ≡ is_room crowd
