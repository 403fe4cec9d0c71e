-- The answers that are right for a write and for a cut, where all other rows are as they are told.
use Rattle.std.specs.{List.{list_all, list_any}, Prelude.{◌≡◌, ℕ, ◌==◌, ◌&&◌, not, Bool, false, List, [], nat_le, nat_lt, length, filter}}
use Rattle.result_rows.specs.declared.Outcome.{Outcome}
use Rattle.result_rows.specs.declared.Outcome.TheVariants as out
use Rattle.row_rules.specs.{Queueing.{pending, is_refused, merges_at, has_room}, Rows.write_of, Ticking.apart, Wearing.{worn_row, worn_by}, declared.Row.Row, declared.Rules.Rules}
use Rattle.check_verdict.specs.{Judged.{beside, a_write, a_cut}, Verdicts.{all_have_room, keeps_all}}
use Rattle.check_telling.specs.Clauses.{latest}

-- a bank has found no spare before
abbrev pub is_worn_out : {n : ℕ} → List (Row n) → Bool
is_worn_out past = list_any worn_row past

-- a write of a line that comes at a tick finds the queue full, and none of its line to merge with
abbrev pub may_be_full : {n : ℕ} → Rules → ℕ → ℕ → List (Row n) → Bool
may_be_full rules tick line past =
    let ps = pending tick [] past in
    length ps == rules.writes && is_refused tick ps (filter (write_of line) ps)

-- a write may be stored at a tick: behind its arrival, by its bound, below the tick of every worn row, and apart from what came before
abbrev pub may_be_stored : {n : ℕ} → Rules → ℕ → Row n → List (Row n) → List (Row n) → Bool
may_be_stored rules u r past later =
    (not (worn_by u past) && not (worn_by u later))
    && ((nat_lt r.tick u && nat_le u (latest rules u r past later)) && list_all (λ q. apart rules.read_ticks r.outcome q.outcome) past)

-- the answers that are right for a write of these rows' bank: `worn` always; behind a worn row no other
abbrev pub is_right_write : {n : ℕ} → Rules → ℕ → Row n → Outcome n → List (Row n) → List (Row n) → Bool
is_right_write rules line r (out.Stored u place) past later = not (is_worn_out past) && may_be_stored rules u r past later
is_right_write rules line r (out.Merged u) past later = merges_at line u later && not (is_worn_out past)
is_right_write rules line r (out.Queued at) past later = at == r.tick && not (is_worn_out past)
is_right_write rules line r (out.Full at) past later = at == r.tick && (may_be_full rules r.tick line past && not (is_worn_out past))
is_right_write rules line r (out.Worn at) past later = at == r.tick
is_right_write rules line r _ past later = false

-- where the banks have room, a write keeps every rule exactly with these
abbrev pub RightWriteLaw : Type 0
RightWriteLaw =
    (n tick line : ℕ) (bytes : List ℕ) (given : List Bool) (outcome : Outcome n) (rules : Rules) (banks : List ℕ) (before after : List (Row n))
    → let r = a_write tick line bytes given outcome in
    keeps_all rules banks before r after
    ≡ ((all_have_room banks rules before r after && has_room rules tick (beside banks line before))
    && is_right_write rules line r outcome (beside banks line before) (beside banks line after))

-- the answer that is right for a cut
abbrev pub is_right_cut : {n : ℕ} → ℕ → Outcome n → Bool
is_right_cut tick (out.Cut at) = at == tick
is_right_cut tick _ = false

abbrev pub RightCutLaw : Type 0
RightCutLaw =
    (n tick : ℕ) (outcome : Outcome n) (rules : Rules) (banks : List ℕ) (before after : List (Row n))
    → keeps_all rules banks before (a_cut tick outcome) after ≡ (all_have_room banks rules before (a_cut tick outcome) after && is_right_cut tick outcome)
