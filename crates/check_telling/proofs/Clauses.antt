-- A rule is kept exactly where each of its clauses holds.
use Rattle.std.proofs.Common.{◌≡◌, ℕ, ◌+◌, ◌&&◌, ◌||◌, ◌==◌, not, Bool, true, false, List, [], length, refl, sym, ap, cond}
use Rattle.std.specs.{List.{list_all, list_any}, Prelude.{nat_le, nat_lt, filter}}
use Rattle.masked_bytes.{specs.Masked.gives_all, proofs.Truth.and_true}
use Rattle.result_rows.specs.declared.Outcome.{Outcome}
use Rattle.result_rows.specs.declared.Outcome.TheVariants as out
use Rattle.row_rules.specs.Answers.{is_full, is_forwarded, is_busy, is_answered, is_lost, is_worn}
use Rattle.row_rules.specs.{Queueing.{pending, waiting, cover, is_at_head, is_refused, merge_fits, has_room}, Rows.{asks_write, write_of, newest}, Serving.same_bytes}
use Rattle.row_rules.specs.{Ticking.{bound, no_cut_below, first_cut_at}, Wearing.{worn_row, store_fits}, declared.Asks.Asks, declared.Asks.TheVariants.{Reads, Writes, Cuts}}
use Rattle.row_rules.specs.{declared.Row.Row, declared.Rules.Rules}
use Rattle.check_verdict.specs.{Judged.{a_row, beside}, Verdicts.{mates, all_have_room, keeps}, declared.Rule.Rule}
use Rattle.check_verdict.specs.declared.Rule.TheVariants as rule
use Rattle.check_telling.specs.Clauses.{holds, clauses_of, latest, lies_apart, ClauseLaw}

-- a write's queue rule
writing : (a h f l r m : Bool) → (a && (h && ((f || (l && r)) && m))) ≡ ((a && h) && ((f || l) && ((f || r) && (m && true))))
writing false h f l r m = refl
writing true false f l r m = refl
writing true true true l r m = sym (and_true m)
writing true true false true true m = sym (and_true m)
writing true true false true false m = refl
writing true true false false r m = refl

-- what becomes of a read
reading : (covered forwarded head full busy ends : Bool)
    → cond covered forwarded (cond forwarded head (cond full busy ends))
    ≡ ((not covered || forwarded) && ((not forwarded || (covered || head)) && ((covered || (forwarded || (not full || busy))) && ((covered || (forwarded || (full || ends))) && true))))
reading true true head full busy ends = refl
reading true false head full busy ends = refl
reading false true head full busy ends = sym (and_true head)
reading false false head true busy ends = sym (and_true busy)
reading false false head false busy ends = sym (and_true ends)

grouped : (a h b c : Bool) → b ≡ c → (a && (h && b)) ≡ ((a && h) && c)
grouped false h b c is = refl
grouped true h b c is = ap (λ x. h && x) is

wearing : (w any worn fits : Bool) → (not w || ((not any || worn) && fits)) ≡ ((not w || (not any || worn)) && ((not w || fits) && true))
wearing false any worn fits = refl
wearing true any worn fits = ap (λ x. (not any || worn) && x) (sym (and_true fits))

three : (e l c p : Bool) → ((e && (l && c)) && p) ≡ (e && (l && (c && (p && true))))
three false l c p = refl
three true false c p = refl
three true true false p = refl
three true true true p = sym (and_true p)

two : (a s p : Bool) → ((a && s) && p) ≡ (a && (s && (p && true)))
two false s p = refl
two true false p = refl
two true true p = sym (and_true p)

module _ {n : ℕ} (rules : Rules) (banks : List ℕ) (before after : List (Row n)) (tick : ℕ) where
  abbrev Says : Rule → Asks n → Outcome n → Type 0
  Says one asks o = keeps banks rules one before (a_row tick asks o) after ≡ list_all (λ c. holds rules banks c before (a_row tick asks o) after) (clauses_of one)

  serves : (asks : Asks n) (o : Outcome n) → Says rule.Serves asks o
  serves (Writes line bytes given) out.Unset = refl
  serves (Writes line bytes given) (out.Stored at place) = refl
  serves (Writes line bytes given) (out.Merged at) = refl
  serves (Writes line bytes given) (out.Queued at) = sym (and_true (at == tick))
  serves (Writes line bytes given) (out.Full at) = sym (and_true (at == tick))
  serves (Writes line bytes given) (out.Worn at) = sym (and_true (at == tick))
  serves (Writes line bytes given) (out.Read at place some) = refl
  serves (Writes line bytes given) (out.Forwarded at some) = refl
  serves (Writes line bytes given) (out.Busy at) = refl
  serves (Writes line bytes given) (out.Lost at) = refl
  serves (Writes line bytes given) (out.Cut at) = refl
  serves (Reads line) out.Unset = refl
  serves (Reads line) (out.Stored at place) = refl
  serves (Reads line) (out.Merged at) = refl
  serves (Reads line) (out.Queued at) = refl
  serves (Reads line) (out.Full at) = refl
  serves (Reads line) (out.Worn at) = refl
  serves (Reads line) (out.Read at place some) = sym (and_true (same_bytes some (newest before line)))
  serves (Reads line) (out.Forwarded at some) = ap (λ b. (at == tick) && b) (sym (and_true (same_bytes some (newest before line))))
  serves (Reads line) (out.Busy at) = sym (and_true (at == tick))
  serves (Reads line) (out.Lost at) = refl
  serves (Reads line) (out.Cut at) = refl
  serves Cuts out.Unset = refl
  serves Cuts (out.Stored at place) = refl
  serves Cuts (out.Merged at) = refl
  serves Cuts (out.Queued at) = refl
  serves Cuts (out.Full at) = refl
  serves Cuts (out.Worn at) = refl
  serves Cuts (out.Read at place some) = refl
  serves Cuts (out.Forwarded at some) = refl
  serves Cuts (out.Busy at) = refl
  serves Cuts (out.Lost at) = refl
  serves Cuts (out.Cut at) = sym (and_true (at == tick))

  queues : (asks : Asks n) (o : Outcome n) → Says rule.Queue asks o
  queues (Writes line bytes given) o =
      let past = beside banks line before in
      let ps = pending tick [] past in
      writing (all_have_room banks rules before (a_row tick (Writes line bytes given) o) after) (has_room rules tick past)
      (not (is_full o)) (length ps == rules.writes) (is_refused tick ps (filter (write_of line) ps))
      (merge_fits line o (beside banks line after))
  queues (Reads line) o =
      let past = beside banks line before in
      let later = beside banks line after in
      grouped (all_have_room banks rules before (a_row tick (Reads line) o) after) (has_room rules tick past) _ _
      (reading (gives_all (cover tick line past later)) (is_forwarded o) (is_at_head tick line (pending tick [] past) past later)
      (length (waiting tick [] past) == rules.reads) (is_busy o) (is_answered o || is_lost o))
  queues Cuts o = grouped (all_have_room banks rules before (a_row tick Cuts o) after) (has_room {n = n} rules tick []) true true refl

  wears : (asks : Asks n) (o : Outcome n) → Says rule.Worn asks o
  wears asks o =
      wearing (asks_write asks) (list_any worn_row (mates banks asks before)) (is_worn o) (store_fits o (mates banks asks before) (mates banks asks after))

  ticks : (asks : Asks n) (o : Outcome n) → Says rule.Tick asks o
  ticks (Reads line) (out.Read u place some) =
      let past = beside banks line before in
      let later = beside banks line after in
      three (nat_le (tick + rules.read_ticks) u) (nat_le u (bound rules tick past later)) (no_cut_below u later)
      (lies_apart rules past (a_row tick (Reads line) (out.Read u place some)))
  ticks (Reads line) (out.Lost u) =
      let past = beside banks line before in
      let later = beside banks line after in
      two (first_cut_at u later) (nat_lt u (bound rules tick past later)) (lies_apart rules past (a_row tick (Reads line) (out.Lost u)))
  ticks (Reads line) out.Unset = sym (and_true _)
  ticks (Reads line) (out.Stored u place) = sym (and_true _)
  ticks (Reads line) (out.Merged u) = sym (and_true _)
  ticks (Reads line) (out.Queued u) = sym (and_true _)
  ticks (Reads line) (out.Full u) = sym (and_true _)
  ticks (Reads line) (out.Worn u) = sym (and_true _)
  ticks (Reads line) (out.Forwarded u some) = sym (and_true _)
  ticks (Reads line) (out.Busy u) = sym (and_true _)
  ticks (Reads line) (out.Cut u) = sym (and_true _)
  ticks (Writes line bytes given) (out.Stored u place) =
      let past = beside banks line before in
      let later = beside banks line after in
      let r = a_row tick (Writes line bytes given) (out.Stored u place) in
      two (nat_lt tick u) (nat_le u (latest rules u r past later)) (lies_apart rules past r)
  ticks (Writes line bytes given) out.Unset = sym (and_true _)
  ticks (Writes line bytes given) (out.Merged u) = sym (and_true _)
  ticks (Writes line bytes given) (out.Queued u) = sym (and_true _)
  ticks (Writes line bytes given) (out.Full u) = sym (and_true _)
  ticks (Writes line bytes given) (out.Worn u) = sym (and_true _)
  ticks (Writes line bytes given) (out.Read u place some) = sym (and_true _)
  ticks (Writes line bytes given) (out.Forwarded u some) = sym (and_true _)
  ticks (Writes line bytes given) (out.Busy u) = sym (and_true _)
  ticks (Writes line bytes given) (out.Lost u) = sym (and_true _)
  ticks (Writes line bytes given) (out.Cut u) = sym (and_true _)
  ticks Cuts o = sym (and_true _)

pub clause_law : ClauseLaw
clause_law n rules banks rule.Serves before r after = serves rules banks before after r.tick r.asks r.outcome
clause_law n rules banks rule.Queue before r after = queues rules banks before after r.tick r.asks r.outcome
clause_law n rules banks rule.Worn before r after = wears rules banks before after r.tick r.asks r.outcome
clause_law n rules banks rule.Tick before r after = ticks rules banks before after r.tick r.asks r.outcome
