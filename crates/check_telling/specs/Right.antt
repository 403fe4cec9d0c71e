-- The answers that are right for a read, where all other rows are as they are told.
use Rattle.std.specs.{List.list_all, Prelude.{◌≡◌, ℕ, ◌+◌, ◌<◌, ◌==◌, ◌&&◌, ◌||◌, not, Bool, false, IsTrue, List, [], Option, Some, None, nat_le, nat_lt, max, length, reverse}}
use Rattle.masked_bytes.specs.Masked.{gives_all}
use Rattle.result_rows.specs.declared.Outcome.{Outcome}
use Rattle.result_rows.specs.declared.Outcome.TheVariants as out
use Rattle.row_rules.specs.{Queueing.{pending, waiting, cover, is_at_head, has_room}, Rows.newest, Serving.same_bytes, Ticking.bound, declared.Row.Row, declared.Rules.Rules}
use Rattle.check_judging.specs.{Cutting.cut_ticks, Distances.{last_read, ends_above}, Rising.rising}
use Rattle.check_verdict.specs.{Judged.{beside, a_read}, Keeping.{before_cut, at_cut}, Timely.first_of_ticks, Verdicts.{all_have_room, keeps_all}}

-- what a read finds as it comes: the newest bytes of its line, whether the queue gives them all, and whether the line is at the head;
-- whether as many reads wait as may; the first and the last tick at which it may be read, the first cut behind it, and the ticks above its
-- own at which its bank stores what came before
pub record ReadGrounds : Type 0 where
  pub newest_bytes : List ℕ
  pub covered : Bool
  pub at_head : Bool
  pub full : Bool
  pub from : ℕ
  pub by : ℕ
  pub cut : Option ℕ
  pub taken : List ℕ

-- no sooner than a read takes, and so long behind the last read of the bank
abbrev pub earliest : ℕ → ℕ → Option ℕ → ℕ
earliest read tick None = tick + read
earliest read tick (Some v) = max (tick + read) (v + read)

-- each bank holds no more than it may as a read comes, and its own doesn't
abbrev pub find_room : {n : ℕ} → Rules → List ℕ → ℕ → ℕ → List (Row n) → List (Row n) → Bool
find_room {n} rules banks tick line before after =
    all_have_room banks rules before (a_read {n = n} tick line out.Unset) after && has_room rules tick (beside banks line before)

-- those of a read in its bank's table, where these are the newest bytes of its line
abbrev pub grounds_on : {n : ℕ} → Rules → ℕ → ℕ → List ℕ → List (Row n) → List (Row n) → ReadGrounds
grounds_on rules tick line bytes past later = record {
  newest_bytes = bytes;
  covered = gives_all (cover tick line past later);
  at_head = is_at_head tick line (pending tick [] past) past later;
  full = length (waiting tick [] past) == rules.reads;
  from = earliest rules.read_ticks tick (last_read past);
  by = bound rules tick past later;
  cut = first_of_ticks (cut_ticks later);
  taken = reverse (ends_above tick past);
}

abbrev pub read_grounds : {n : ℕ} → Rules → List ℕ → ℕ → ℕ → List (Row n) → List (Row n) → ReadGrounds
read_grounds rules banks tick line before after = grounds_on rules tick line (newest before line) (beside banks line before) (beside banks line after)

-- by these, the answers that are right
abbrev pub is_right_read : {n : ℕ} → ℕ → ReadGrounds → Outcome n → Bool
is_right_read tick g (out.Read u place bytes) =
    same_bytes bytes g.newest_bytes
    && (not g.covered && (not g.full && (nat_le g.from u && (nat_le u g.by && (before_cut u g.cut && list_all (λ v. not (u == v)) g.taken)))))
is_right_read tick g (out.Forwarded at bytes) = (at == tick && same_bytes bytes g.newest_bytes) && (g.covered || g.at_head)
is_right_read tick g (out.Busy at) = at == tick && (not g.covered && g.full)
is_right_read tick g (out.Lost u) = not g.covered && (not g.full && (at_cut u g.cut && nat_lt u g.by))
is_right_read tick g _ = false

-- where the banks have room, a read keeps every rule exactly with these; where one has none, with no answer
abbrev pub RightReadLaw : Type 0
RightReadLaw =
    (n tick line : ℕ) (outcome : Outcome n) (rules : Rules) (banks : List ℕ) (before after : List (Row n))
    → 0 < rules.read_ticks → IsTrue (rising tick (beside banks line after))
    → keeps_all rules banks before (a_read tick line outcome) after
    ≡ (find_room rules banks tick line before after && is_right_read tick (read_grounds rules banks tick line before after) outcome)
