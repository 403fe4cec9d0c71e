-- The first clause that a write breaks.
use Rattle.std.proofs.Common.{◌≡◌, ℕ, ◌||◌, ◌==◌, not, Bool, true, false, List, [], Option, Some, length, refl, sym, ap, ◌∙◌, cond}
use Rattle.std.specs.{List.{list_all, list_any}, Prelude.{nat_le, nat_lt, filter}}
use Rattle.result_rows.specs.declared.Outcome.{Outcome}
use Rattle.result_rows.specs.declared.Outcome.TheVariants as out
use Rattle.row_rules.specs.{Answers.{is_full, is_worn}, Queueing.{pending, is_refused, merge_fits}, Rows.write_of, Wearing.{worn_row, store_fits}, declared.Asks.TheVariants.Writes}
use Rattle.row_rules.specs.{declared.Row.Row, declared.Rules.Rules}
use Rattle.check_verdict.specs.{Judged.{beside, a_write}, declared.Rule.Rule}
use Rattle.check_verdict.specs.declared.Rule.TheVariants as rule
use Rattle.check_telling.{specs.Clauses.{holds, clauses_of, has_own_tick, has_bytes, is_of_op, latest, lies_apart}, specs.declared.Clause.Clause, proofs.Clauses.clause_law}
use Rattle.check_telling.specs.declared.Clause.TheVariants as clause
use Rattle.clause_telling.{specs.Broken.first_broken, specs.ByFinds.{WriteClauseLaw, is_of_write, write_tick_clause}, proofs.Bools.{one, two, three, four}}

of_write : {n : ℕ} (line : ℕ) (bytes : List ℕ) (given : List Bool) (o : Outcome n) → is_of_op (Writes line bytes given) o ≡ is_of_write o
of_write line bytes given out.Unset = refl
of_write line bytes given (out.Stored u place) = refl
of_write line bytes given (out.Merged u) = refl
of_write line bytes given (out.Queued u) = refl
of_write line bytes given (out.Full u) = refl
of_write line bytes given (out.Worn u) = refl
of_write line bytes given (out.Read u place some) = refl
of_write line bytes given (out.Forwarded u some) = refl
of_write line bytes given (out.Busy u) = refl
of_write line bytes given (out.Lost u) = refl
of_write line bytes given (out.Cut u) = refl

-- where the first holds, the second may be told otherwise
in_place : {A : Type 0} (e x y : Bool) (a b c : A) → (e ≡ true → y ≡ x) → Some (cond e (cond x a b) c) ≡ Some (cond e (cond y a b) c)
in_place true x y a b c h = ap (λ z. Some (cond z a b)) (sym (h refl))
in_place false x y a b c h = refl

module _ {n : ℕ} (rules : Rules) (banks : List ℕ) (before after : List (Row n)) (tick line : ℕ) (bytes : List ℕ) (given : List Bool) where
  abbrev row : Outcome n → Row n
  row o = a_write tick line bytes given o

  abbrev past : List (Row n)
  past = beside banks line before

  abbrev later : List (Row n)
  later = beside banks line after

  abbrev Breaks : Rule → Outcome n → Type 0
  Breaks rule o = list_all (λ c. holds rules banks c before (row o) after) (clauses_of rule) ≡ false

  abbrev first : Rule → Outcome n → Option Clause
  first rule o = first_broken (λ c. holds rules banks c before (row o) after) (clauses_of rule)

  abbrev room : Outcome n → Bool
  room o = holds rules banks clause.Room before (row o) after

  abbrev full : Bool
  full = length (pending tick [] past) == rules.writes

  abbrev alone : Bool
  alone = is_refused tick (pending tick [] past) (filter (write_of line) (pending tick [] past))

  serves : (o : Outcome n) → Breaks rule.Serves o
      → first rule.Serves o ≡ Some (cond (is_of_write o) (cond (has_own_tick tick o) clause.NewestBytes clause.AtItsTick) clause.OfItsOperation)
  serves o h =
      three (is_of_op (Writes line bytes given) o) (has_own_tick tick o) (has_bytes [] o) clause.OfItsOperation clause.AtItsTick clause.NewestBytes h
      ∙ ap (λ b. Some (cond b (cond (has_own_tick tick o) clause.NewestBytes clause.AtItsTick) clause.OfItsOperation)) (of_write line bytes given o)

  queues : (o : Outcome n) → Breaks rule.Queue o
      → first rule.Queue o
      ≡ Some (cond (room o) (cond (not (is_full o) || full) (cond (not (is_full o) || alone) clause.MergedIntoNext clause.FullWhereAlone) clause.FullWhereFull) clause.Room)
  queues o h =
      four (room o) (not (is_full o) || full) (not (is_full o) || alone) (merge_fits line o later) clause.Room clause.FullWhereFull clause.FullWhereAlone clause.MergedIntoNext h

  wears : (o : Outcome n) → Breaks rule.Worn o
      → first rule.Worn o ≡ Some (cond (not (list_any worn_row past) || is_worn o) clause.StoredBeforeWorn clause.WornBehindWorn)
  wears o h = two (not (list_any worn_row past) || is_worn o) (store_fits o past later) clause.WornBehindWorn clause.StoredBeforeWorn h

  ends : (late : ℕ) (o : Outcome n) → ((u place : ℕ) → o ≡ out.Stored u place → nat_lt tick u ≡ true → late ≡ latest rules u (row o) past later)
      → Breaks rule.Tick o → first rule.Tick o ≡ Some (write_tick_clause tick late o)
  ends late (out.Stored u place) is h =
      let r = row (out.Stored u place) in
      three (nat_lt tick u) (nat_le u (latest rules u r past later)) (lies_apart rules past r) clause.NotTooEarly clause.NotTooLate clause.Apart h
      ∙ in_place (nat_lt tick u) (nat_le u (latest rules u r past later)) (nat_le u late) clause.Apart clause.NotTooLate clause.NotTooEarly (λ e. ap (nat_le u) (is u place refl e))
  ends late out.Unset is h = one (lies_apart rules past (row out.Unset)) clause.Apart h
  ends late (out.Merged u) is h = one (lies_apart rules past (row (out.Merged u))) clause.Apart h
  ends late (out.Queued u) is h = one (lies_apart rules past (row (out.Queued u))) clause.Apart h
  ends late (out.Full u) is h = one (lies_apart rules past (row (out.Full u))) clause.Apart h
  ends late (out.Worn u) is h = one (lies_apart rules past (row (out.Worn u))) clause.Apart h
  ends late (out.Read u place some) is h = one (lies_apart rules past (row (out.Read u place some))) clause.Apart h
  ends late (out.Forwarded u some) is h = one (lies_apart rules past (row (out.Forwarded u some))) clause.Apart h
  ends late (out.Busy u) is h = one (lies_apart rules past (row (out.Busy u))) clause.Apart h
  ends late (out.Lost u) is h = one (lies_apart rules past (row (out.Lost u))) clause.Apart h
  ends late (out.Cut u) is h = one (lies_apart rules past (row (out.Cut u))) clause.Apart h

pub write_clause_law : WriteClauseLaw
write_clause_law n tick line bytes given o late rules banks rule.Serves before after is h =
    serves rules banks before after tick line bytes given o (sym (clause_law n rules banks rule.Serves before (a_write tick line bytes given o) after) ∙ h)
write_clause_law n tick line bytes given o late rules banks rule.Queue before after is h =
    queues rules banks before after tick line bytes given o (sym (clause_law n rules banks rule.Queue before (a_write tick line bytes given o) after) ∙ h)
write_clause_law n tick line bytes given o late rules banks rule.Worn before after is h =
    wears rules banks before after tick line bytes given o (sym (clause_law n rules banks rule.Worn before (a_write tick line bytes given o) after) ∙ h)
write_clause_law n tick line bytes given o late rules banks rule.Tick before after is h =
    ends rules banks before after tick line bytes given late o is (sym (clause_law n rules banks rule.Tick before (a_write tick line bytes given o) after) ∙ h)
