-- A row's verdict in the words of the code is the rule that the row breaks first.
use Rattle.std.specs.Prelude.{◌≡◌, ℕ, ◌<◌, ◌≤◌, ◌^◌, Bool, IsTrue, List, IsPermutation, All}
use Rattle.result_rows.specs.declared.Outcome.{Outcome}
use Rattle.row_rules.specs.{Rows.newest, declared.Row.Row, declared.Rules.Rules}
use Rattle.check_judging.specs.{Cutting.cut_ticks, Keys.{reach, is_short, all_short, store_keys, read_keys}, Rising.rising, Runs.GivesSized}
use Rattle.check_verdict.specs.{Covering.KeptLine, Judged.{beside, a_write, a_read, RoomIs}, RowVerdicts.{coming_to, write_verdict, read_verdict}, States.{Facts, Stands}}
use Rattle.check_verdict.specs.{Tables.around, Verdicts.{bank_in, all_rules, broken_by}, declared.known.Keys.Keys, declared.lines.CheckedLine.CheckedLine}

-- keys of a whole table, around one of its rows
pub record HasKeys {n : ℕ} (banks : List ℕ) (before : List (Row n)) (r : Row n) (after : List (Row n)) (keys : Keys) : Type 0 where
  pub of_stores : IsPermutation (store_keys (bank_in banks) (around before r after)) keys.stores.items
  pub of_reads : IsPermutation (read_keys (bank_in banks) (around before r after)) keys.reads.items
  pub of_lines : IsPermutation (store_keys (λ line. line) (around before r after)) keys.lines.items
  pub short : IsTrue (all_short (around before r after))

-- a row of a line as it comes: what is kept of its bank, and that ticks don't fall behind it
pub record Comes {n : ℕ} (rules : Rules) (banks : List ℕ) (line : ℕ) (before : List (Row n)) (r : Row n) (after : List (Row n)) (f : Facts) : Type 0 where
  pub stands : Stands r.tick (beside banks line before) f
  pub later : IsTrue (rising r.tick (beside banks line after))
  pub short : IsTrue (is_short r.outcome)
  pub reached : r.tick < reach
  pub some : 0 < rules.read_ticks
  pub small : rules.read_ticks < 2 ^ 32

-- the verdict on a write is the rule that it breaks first
abbrev pub WriteVerdictLaw : Type 0
WriteVerdictLaw =
    (n tick line : ℕ) (bytes : List ℕ) (given : List Bool) (outcome : Outcome n) (rules : Rules) (banks some : List ℕ)
    (before after : List (Row n)) (f : Facts) (room : Bool) (keys : Keys)
    → let r = a_write tick line bytes given outcome in
    Comes rules banks line before r after f → RoomIs rules banks line before r after room → HasKeys banks before r after keys
    → broken_by rules banks all_rules before r after
    ≡ write_verdict rules (bank_in banks line) f some line r room keys (coming_to banks line after) (cut_ticks after)

-- the verdict on a read is the rule that it breaks first
abbrev pub ReadVerdictLaw : Type 0
ReadVerdictLaw =
    (n now tick line : ℕ) (outcome : Outcome n) (rules : Rules) (banks : List ℕ)
    (before after : List (Row n)) (f : Facts) (room : Bool) (keys : Keys) (kept : CheckedLine n)
    → let r = a_read tick line outcome in
    Comes rules banks line before r after f → RoomIs rules banks line before r after room → HasKeys banks before r after keys
    → KeptLine n now line (beside banks line before) kept.newest kept.unclosed kept.runs.items → now ≤ tick
    → All (λ r. GivesSized r) (beside banks line before) → kept.newest ≡ newest before line
    → broken_by rules banks all_rules before r after
    ≡ read_verdict rules (bank_in banks line) f kept line r room keys (coming_to banks line after) (cut_ticks after)
