-- The first clause that a read breaks, and a cut.
use Rattle.std.proofs.Common.{◌≡◌, ℕ, ◌+◌, ◌&&◌, ◌==◌, Bool, true, false, List, [], ◌∷◌, Option, Some, length, refl, sym, ap, ◌∙◌, cond}
use Rattle.std.specs.{List.list_all, Prelude.{nat_le, nat_lt}}
use Rattle.masked_bytes.specs.Masked.{gives_all}
use Rattle.result_rows.specs.declared.Outcome.{Outcome}
use Rattle.result_rows.specs.declared.Outcome.TheVariants as out
use Rattle.row_rules.specs.{Queueing.{pending, waiting, cover, is_at_head, has_room}, Rows.newest, Ticking.{bound, no_cut_below, first_cut_at}}
use Rattle.row_rules.specs.{declared.Asks.TheVariants.{Reads, Cuts}, declared.Row.Row, declared.Rules.Rules}
use Rattle.check_judging.{specs.Cutting.{cut_ticks, first_from, first_is}, specs.Rising.rising, proofs.Cuts.first_cut_law}
use Rattle.check_verdict.specs.{Judged.{beside, a_read, a_cut}, Keeping.{before_cut, at_cut}, Timely.first_of_ticks, Verdicts.all_have_room, declared.Rule.Rule}
use Rattle.check_verdict.specs.declared.Rule.TheVariants as rule
use Rattle.check_telling.specs.{Clauses.{holds, clauses_of, has_own_tick, has_bytes, is_of_op, forwards, forwards_only, refuses, refuses_only, lies_apart}, declared.Clause.Clause}
use Rattle.check_telling.proofs.Clauses.{clause_law}
use Rattle.check_telling.specs.declared.Clause.TheVariants as clause
use Rattle.clause_telling.{specs.Broken.first_broken, specs.ByFinds.{ReadClauseLaw, CutClauseLaw, is_of_read, read_tick_clause}, proofs.Bools.{one, three, four, five}}

before_first : (u : ℕ) (ticks : List ℕ) → first_from u ticks ≡ before_cut u (first_of_ticks ticks)
before_first u [] = refl
before_first u (c ∷ ticks) = refl

at_first : (u : ℕ) (ticks : List ℕ) → first_is u ticks ≡ at_cut u (first_of_ticks ticks)
at_first u [] = refl
at_first u (c ∷ ticks) = refl

of_read : {n : ℕ} (line : ℕ) (o : Outcome n) → is_of_op (Reads line) o ≡ is_of_read o
of_read line out.Unset = refl
of_read line (out.Stored u place) = refl
of_read line (out.Merged u) = refl
of_read line (out.Queued u) = refl
of_read line (out.Full u) = refl
of_read line (out.Worn u) = refl
of_read line (out.Read u place bytes) = refl
of_read line (out.Forwarded u bytes) = refl
of_read line (out.Busy u) = refl
of_read line (out.Lost u) = refl
of_read line (out.Cut u) = refl

module _ {n : ℕ} (rules : Rules) (banks : List ℕ) (before after : List (Row n)) (tick line : ℕ) (later_rises : rising tick (beside banks line after) ≡ true) where
  abbrev row : Outcome n → Row n
  row o = a_read tick line o

  abbrev past : List (Row n)
  past = beside banks line before

  abbrev later : List (Row n)
  later = beside banks line after

  abbrev Breaks : Rule → Outcome n → Type 0
  Breaks rule o = list_all (λ c. holds rules banks c before (row o) after) (clauses_of rule) ≡ false

  abbrev first : Rule → Outcome n → Option Clause
  first rule o = first_broken (λ c. holds rules banks c before (row o) after) (clauses_of rule)

  abbrev room : Outcome n → Bool
  room o = holds rules banks clause.Room before (row o) after

  abbrev covered : Bool
  covered = gives_all (cover tick line past later)

  abbrev head : Bool
  head = is_at_head tick line (pending tick [] past) past later

  abbrev full : Bool
  full = length (waiting tick [] past) == rules.reads

  abbrev by_tick : ℕ
  by_tick = bound rules tick past later

  abbrev cut : Option ℕ
  cut = first_of_ticks (cut_ticks later)

  serves : (o : Outcome n) → Breaks rule.Serves o
      → first rule.Serves o ≡ Some (cond (is_of_read o) (cond (has_own_tick tick o) clause.NewestBytes clause.AtItsTick) clause.OfItsOperation)
  serves o h =
      three (is_of_op (Reads line) o) (has_own_tick tick o) (has_bytes (newest before line) o) clause.OfItsOperation clause.AtItsTick clause.NewestBytes h
      ∙ ap (λ b. Some (cond b (cond (has_own_tick tick o) clause.NewestBytes clause.AtItsTick) clause.OfItsOperation)) (of_read line o)

  queues : (o : Outcome n) → Breaks rule.Queue o
      → first rule.Queue o
      ≡ Some (cond (room o) (cond (forwards covered head full o) (cond (forwards_only covered head full o) (cond (refuses covered head full o) clause.BusyOnly clause.Busy) clause.ForwardedOnly) clause.Forwarded) clause.Room)
  queues o h =
      five (room o) (forwards covered head full o) (forwards_only covered head full o) (refuses covered head full o) (refuses_only covered head full o)
      clause.Room clause.Forwarded clause.ForwardedOnly clause.Busy clause.BusyOnly h

  ends_read : (u place : ℕ) (bytes : List ℕ) → Breaks rule.Tick (out.Read u place bytes)
      → first rule.Tick (out.Read u place bytes)
      ≡ Some (cond (nat_le (tick + rules.read_ticks) u) (cond (nat_le u by_tick) (cond (before_cut u cut) clause.Apart clause.ReadBeforeCut) clause.NotTooLate) clause.NotTooEarly)
  ends_read u place bytes h =
      four (nat_le (tick + rules.read_ticks) u) (nat_le u by_tick) (no_cut_below u later) (lies_apart rules past (row (out.Read u place bytes)))
      clause.NotTooEarly clause.NotTooLate clause.ReadBeforeCut clause.Apart h
      ∙ ap (λ b. Some (cond (nat_le (tick + rules.read_ticks) u) (cond (nat_le u by_tick) (cond b clause.Apart clause.ReadBeforeCut) clause.NotTooLate) clause.NotTooEarly))
      ((first_cut_law n tick u later later_rises).below ∙ before_first u (cut_ticks later))

  ends_lost : (u : ℕ) → Breaks rule.Tick (out.Lost u)
      → first rule.Tick (out.Lost u) ≡ Some (cond (at_cut u cut) (cond (nat_lt u by_tick) clause.Apart clause.LostInTime) clause.LostAtCut)
  ends_lost u h =
      three (first_cut_at u later) (nat_lt u by_tick) (lies_apart rules past (row (out.Lost u))) clause.LostAtCut clause.LostInTime clause.Apart h
      ∙ ap (λ b. Some (cond b (cond (nat_lt u by_tick) clause.Apart clause.LostInTime) clause.LostAtCut)) ((first_cut_law n tick u later later_rises).at ∙ at_first u (cut_ticks later))

  ends : (o : Outcome n) → Breaks rule.Tick o → first rule.Tick o ≡ Some (read_tick_clause (tick + rules.read_ticks) by_tick cut o)
  ends (out.Read u place bytes) h = ends_read u place bytes h
  ends (out.Lost u) h = ends_lost u h
  ends out.Unset h = one (lies_apart rules past (row out.Unset)) clause.Apart h
  ends (out.Stored u place) h = one (lies_apart rules past (row (out.Stored u place))) clause.Apart h
  ends (out.Merged u) h = one (lies_apart rules past (row (out.Merged u))) clause.Apart h
  ends (out.Queued u) h = one (lies_apart rules past (row (out.Queued u))) clause.Apart h
  ends (out.Full u) h = one (lies_apart rules past (row (out.Full u))) clause.Apart h
  ends (out.Worn u) h = one (lies_apart rules past (row (out.Worn u))) clause.Apart h
  ends (out.Forwarded u bytes) h = one (lies_apart rules past (row (out.Forwarded u bytes))) clause.Apart h
  ends (out.Busy u) h = one (lies_apart rules past (row (out.Busy u))) clause.Apart h
  ends (out.Cut u) h = one (lies_apart rules past (row (out.Cut u))) clause.Apart h

pub read_clause_law : ReadClauseLaw
read_clause_law n tick line o rules banks rule.Serves before after rises h =
    serves rules banks before after tick line rises o (sym (clause_law n rules banks rule.Serves before (a_read tick line o) after) ∙ h)
read_clause_law n tick line o rules banks rule.Queue before after rises h =
    queues rules banks before after tick line rises o (sym (clause_law n rules banks rule.Queue before (a_read tick line o) after) ∙ h)
read_clause_law n tick line o rules banks rule.Worn before after rises h = absurd (cc)
read_clause_law n tick line o rules banks rule.Tick before after rises h =
    ends rules banks before after tick line rises o (sym (clause_law n rules banks rule.Tick before (a_read tick line o) after) ∙ h)

pub cut_clause_law : CutClauseLaw
cut_clause_law n tick o rules banks rule.Serves before after h =
    three (is_of_op Cuts o) (has_own_tick tick o) (has_bytes [] o) clause.OfItsOperation clause.AtItsTick clause.NewestBytes
    (sym (clause_law n rules banks rule.Serves before (a_cut tick o) after) ∙ h)
cut_clause_law n tick o rules banks rule.Queue before after h =
    one (all_have_room banks rules before (a_cut tick o) after && has_room {n = n} rules tick []) clause.Room (sym (clause_law n rules banks rule.Queue before (a_cut tick o) after) ∙ h)
cut_clause_law n tick o rules banks rule.Worn before after h = absurd (cc)
cut_clause_law n tick o rules banks rule.Tick before after h = absurd (cc)
