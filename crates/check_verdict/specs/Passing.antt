-- What the pass over the rows keeps, once some of them are passed.
use Rattle.std.specs.Prelude.{◌≡◌, ℕ, ◌<◌, ◌≤◌, ◌==◌, ◌⊎◌, Bool, true, false, IsTrue, if◌then◌else◌, List, ◌∷◌, Option, Some, None, length}
use Rattle.result_rows.specs.declared.Outcome.{Outcome}
use Rattle.row_rules.specs.{Queueing.has_room, Serving.may_have, Table.of_bank, declared.Asks.TheVariants.{Reads, Writes, Cuts}, declared.Row.Row, declared.Rules.Rules}
use Rattle.check_verdict.specs.{Fitting.{room_kept, is_brief}, Judged.{RoomIs, a_cut}, Members.never, States.{Facts, Stands, settled, cut_off}, Verdicts.{bank_in, all_have_room}}

-- a bank is that of the line of the last row, if that has one
abbrev pub is_joined : List ℕ → Option ℕ → ℕ → Bool
is_joined banks None bank = false
is_joined banks (Some line) bank = bank_in banks line == bank

-- these are the facts of each bank, at the tick to which it was settled, behind the rows before, the newest first, the last of which
-- came by this tick and has this line, if it has one; and each bank but that line's has room
pub record Passed {n : ℕ} (rules : Rules) (banks : List ℕ) (tick : ℕ) (at : ℕ → ℕ) (facts : ℕ → Facts) (joined : Option ℕ) (before : List (Row n)) : Type 0 where
  pub stand : (bank : ℕ) → Stands (at bank) (of_bank (bank_in banks) bank before) (facts bank)
  pub by : (bank : ℕ) → at bank ≤ tick
  pub room : (bank : ℕ) → is_joined banks joined bank ≡ false → IsTrue (has_room rules (at bank) (of_bank (bank_in banks) bank before))
  pub known : (line : ℕ) → joined ≡ Some line → line < length banks

-- whether the bank of the last row still holds no more than it may at a tick
abbrev pub joined_room : Rules → List ℕ → ℕ → (ℕ → Facts) → Option ℕ → Bool
joined_room rules banks tick facts None = true
joined_room rules banks tick facts (Some line) =
    room_kept rules.writes rules.reads (settled tick (facts (bank_in banks line))).members (settled tick (facts (bank_in banks line))).waits (settled tick (facts (bank_in banks line))).lost

-- each bank has room as a row comes exactly where that of the row before has
abbrev pub AllRoomLaw : Type 0
AllRoomLaw =
    (n tick : ℕ) (rules : Rules) (banks : List ℕ) (at : ℕ → ℕ) (facts : ℕ → Facts) (joined : Option ℕ) (before : List (Row n)) (r : Row n) (after : List (Row n)) (line : ℕ)
    → Passed rules banks tick at facts joined before → tick ≤ r.tick → r.tick < never → line < length banks
    → RoomIs rules banks line before r after (joined_room rules banks r.tick facts joined)

-- and as a cut comes
abbrev pub CutRoomLaw : Type 0
CutRoomLaw =
    (n tick : ℕ) (rules : Rules) (banks : List ℕ) (at : ℕ → ℕ) (facts : ℕ → Facts) (joined : Option ℕ) (before : List (Row n)) (r : Row n) (after : List (Row n))
    → Passed rules banks tick at facts joined before → tick ≤ r.tick → r.tick < never
    → all_have_room banks rules before r after ≡ joined_room rules banks r.tick facts joined

-- with another value at one index
abbrev pub put : {A : Type 0} → (ℕ → A) → ℕ → A → ℕ → A
put f at x k = if k == at then x else f k

-- once a bank is settled
abbrev pub SettleOneLaw : Type 0
SettleOneLaw =
    (n tick u bank : ℕ) (rules : Rules) (banks : List ℕ) (at : ℕ → ℕ) (facts : ℕ → Facts) (joined : Option ℕ) (before : List (Row n))
    → Passed rules banks tick at facts joined before → tick ≤ u → u < never
    → Passed rules banks u (put at bank u) (put facts bank (settled u (facts bank))) joined before

-- once the bank of the last row is seen to have room
abbrev pub RoomSeenLaw : Type 0
RoomSeenLaw =
    (n tick line : ℕ) (rules : Rules) (banks : List ℕ) (at : ℕ → ℕ) (facts : ℕ → Facts) (before : List (Row n))
    → Passed rules banks tick at facts (Some line) before → IsTrue (has_room rules (at (bank_in banks line)) (of_bank (bank_in banks) (bank_in banks line) before))
    → Passed rules banks tick at facts None before

-- behind a row of a line, with what is kept of its bank
abbrev pub RowPassesLaw : Type 0
RowPassesLaw =
    (n tick line : ℕ) (rules : Rules) (banks : List ℕ) (at : ℕ → ℕ) (facts : ℕ → Facts) (before : List (Row n)) (r : Row n) (f : Facts)
    → Passed rules banks tick at facts None before → line < length banks → at (bank_in banks line) ≡ tick → r.asks ≡ Reads line ⊎ ((bytes : List ℕ) × (given : List Bool) × (r.asks ≡ Writes line bytes given))
    → Stands tick (r ∷ of_bank (bank_in banks) (bank_in banks line) before) f
    → Passed rules banks tick at (put facts (bank_in banks line) f) (Some line) (r ∷ before)

-- behind a cut, once each bank is settled
abbrev pub CutPassedLaw : Type 0
CutPassedLaw =
    (n tick : ℕ) (outcome : Outcome n) (rules : Rules) (banks some : List ℕ) (at : ℕ → ℕ) (facts : ℕ → Facts) (before : List (Row n))
    → Passed rules banks tick at facts None before → ((bank : ℕ) → at bank ≡ tick) → IsTrue (may_have tick Cuts some outcome) → IsTrue (is_brief outcome)
    → Passed rules banks tick at (λ bank. cut_off (facts bank)) None (a_cut tick outcome ∷ before)
