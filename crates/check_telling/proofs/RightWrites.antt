-- The answers that are right for a write and for a cut.
use Rattle.std.proofs.Common.{◌≡◌, ℕ, ◌&&◌, ◌||◌, ◌==◌, not, Bool, true, false, List, [], ◌∷◌, length, refl, sym, ap, ◌∙◌, arith}
use Rattle.std.{specs.List.{list_all, list_any}, specs.Prelude.{nat_le, nat_lt, filter}, proofs.lemmas.Bool.le-leb}
use Rattle.masked_bytes.proofs.Truth.{and_true, and_false}
use Rattle.result_rows.specs.declared.Outcome.{Outcome}
use Rattle.result_rows.specs.declared.Outcome.TheVariants as out
use Rattle.row_rules.specs.{Queueing.{pending, is_refused, merges_at, has_room}, Rows.write_of, Ticking.apart, Wearing.{worn_row, worn_by}, declared.Row.Row, declared.Rules.Rules}
use Rattle.check_verdict.specs.{Judged.{beside, a_write, a_cut}, Verdicts.{all_have_room, keeps_all}}
use Rattle.check_telling.specs.{Clauses.latest, RightWrites.{is_right_write, is_right_cut, RightWriteLaw, RightCutLaw}}

-- the tests of the four rules, with what is left of each
stored : (a h any worn late p : Bool) → ((a && (h && (true && true))) && (((not any || false) && worn) && ((late && p) && true))) ≡ ((a && h) && (not any && (worn && (late && p))))
stored false h any worn late p = refl
stored true false any worn late p = refl
stored true true true worn late p = refl
stored true true false false late p = refl
stored true true false true late p = and_true (late && p)

merged : (a h m any p : Bool) → p ≡ true → ((a && (h && (true && m))) && (((not any || false) && true) && ((true && p) && true))) ≡ ((a && h) && (m && not any))
merged false h m any p is = refl
merged true false m any p is = refl
merged true true false any p is = refl
merged true true true true p is = refl
merged true true true false p is = ap (λ b. b && true) is

queued : (s a h any p : Bool) → p ≡ true → (s && ((a && (h && (true && true))) && (((not any || false) && true) && ((true && p) && true)))) ≡ ((a && h) && (s && not any))
queued false a h any p is = sym (and_false (a && h))
queued true false h any p is = refl
queued true true false any p is = refl
queued true true true true p is = refl
queued true true true false p is = ap (λ b. b && true) is

refused : (s a h l r any p : Bool) → p ≡ true
    → (s && ((a && (h && ((false || (l && r)) && true))) && (((not any || false) && true) && ((true && p) && true)))) ≡ ((a && h) && (s && ((l && r) && not any)))
refused false a h l r any p is = sym (and_false (a && h))
refused true false h l r any p is = refl
refused true true false l r any p is = refl
refused true true true false r any p is = refl
refused true true true true false any p is = refl
refused true true true true true true p is = refl
refused true true true true true false p is = ap (λ b. b && true) is

worn : (s a h any p : Bool) → p ≡ true → (s && ((a && (h && (true && true))) && (((not any || true) && true) && ((true && p) && true)))) ≡ ((a && h) && s)
worn false a h any p is = sym (and_false (a && h))
worn true false h any p is = refl
worn true true false any p is = refl
worn true true true true p is = ap (λ b. b && true) is
worn true true true false p is = ap (λ b. b && true) is

cut : (s a h : Bool) → h ≡ true → (s && ((a && (h && true)) && (true && (true && true)))) ≡ (a && s)
cut false a h is = sym (and_false a)
cut true false h is = refl
cut true true h is = ap (λ b. (b && true) && true) is

all_free : {A : Type 0} (p : A → Bool) (xs : List A) → ((x : A) → p x ≡ true) → list_all p xs ≡ true
all_free p [] f = refl
all_free p (x ∷ xs) f = ap (λ b. b && list_all p xs) (f x) ∙ all_free p xs f

module _ {n : ℕ} (rules : Rules) (banks : List ℕ) (before after : List (Row n)) (tick line : ℕ) (bytes : List ℕ) (given : List Bool) where
  abbrev past : List (Row n)
  past = beside banks line before

  abbrev later : List (Row n)
  later = beside banks line after

  abbrev rooms : Outcome n → Bool
  rooms o = all_have_room banks rules before (a_write tick line bytes given o) after

  abbrev own : Bool
  own = has_room rules tick past

  abbrev any : Bool
  any = list_any worn_row past

  abbrev apart_all : Outcome n → Bool
  apart_all o = list_all (λ q. apart rules.read_ticks o q.outcome) past

  right : (o : Outcome n) → keeps_all rules banks before (a_write tick line bytes given o) after ≡ ((rooms o && own) && is_right_write rules line (a_write tick line bytes given o) o past later)
  right (out.Stored u place) =
      let o : Outcome n = out.Stored u place in
      stored (rooms o) own any (not (worn_by u past) && not (worn_by u later)) (nat_lt tick u && nat_le u (latest rules u (a_write tick line bytes given o) past later)) (apart_all o)
  right (out.Merged u) =
      let o : Outcome n = out.Merged u in merged (rooms o) own (merges_at line u later) any (apart_all o) (all_free (λ (q : Row n). apart rules.read_ticks o q.outcome) past (λ q. refl))
  right (out.Queued at) =
      let o : Outcome n = out.Queued at in queued (at == tick) (rooms o) own any (apart_all o) (all_free (λ (q : Row n). apart rules.read_ticks o q.outcome) past (λ q. refl))
  right (out.Full at) =
      let o : Outcome n = out.Full at in
      let ps = pending tick [] past in
      refused (at == tick) (rooms o) own (length ps == rules.writes) (is_refused tick ps (filter (write_of line) ps)) any (apart_all o)
      (all_free (λ (q : Row n). apart rules.read_ticks o q.outcome) past (λ q. refl))
  right (out.Worn at) =
      let o : Outcome n = out.Worn at in worn (at == tick) (rooms o) own any (apart_all o) (all_free (λ (q : Row n). apart rules.read_ticks o q.outcome) past (λ q. refl))
  right out.Unset = sym (and_false (rooms out.Unset && own))
  right (out.Read u place some) = sym (and_false (rooms (out.Read u place some) && own))
  right (out.Forwarded u some) = sym (and_false (rooms (out.Forwarded u some) && own))
  right (out.Busy u) = sym (and_false (rooms (out.Busy u) && own))
  right (out.Lost u) = sym (and_false (rooms (out.Lost u) && own))
  right (out.Cut u) = sym (and_false (rooms (out.Cut u) && own))

pub right_write_law : RightWriteLaw
right_write_law n tick line bytes given outcome rules banks before after = right rules banks before after tick line bytes given outcome

module _ {n : ℕ} (rules : Rules) (banks : List ℕ) (before after : List (Row n)) (tick : ℕ) where
  empty : has_room {n = n} rules tick [] ≡ true
  empty = ap (λ b. b && (nat_le 0 rules.reads && true)) (le-leb 0 rules.writes (omega arith)) ∙ ap (λ b. b && true) (le-leb 0 rules.reads (omega arith))

  abbrev at_cut : Outcome n → Bool
  at_cut o = all_have_room banks rules before (a_cut tick o) after

  right_cut : (o : Outcome n) → keeps_all rules banks before (a_cut tick o) after ≡ (at_cut o && is_right_cut tick o)
  right_cut (out.Cut at) = cut (at == tick) (at_cut (out.Cut at)) (has_room {n = n} rules tick []) empty
  right_cut out.Unset = sym (and_false (at_cut out.Unset))
  right_cut (out.Stored u place) = sym (and_false (at_cut (out.Stored u place)))
  right_cut (out.Merged u) = sym (and_false (at_cut (out.Merged u)))
  right_cut (out.Queued u) = sym (and_false (at_cut (out.Queued u)))
  right_cut (out.Full u) = sym (and_false (at_cut (out.Full u)))
  right_cut (out.Worn u) = sym (and_false (at_cut (out.Worn u)))
  right_cut (out.Read u place some) = sym (and_false (at_cut (out.Read u place some)))
  right_cut (out.Forwarded u some) = sym (and_false (at_cut (out.Forwarded u some)))
  right_cut (out.Busy u) = sym (and_false (at_cut (out.Busy u)))
  right_cut (out.Lost u) = sym (and_false (at_cut (out.Lost u)))

pub right_cut_law : RightCutLaw
right_cut_law n tick outcome rules banks before after = right_cut rules banks before after tick outcome
