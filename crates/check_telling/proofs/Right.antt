-- The answers that are right for a read.
use Rattle.std.proofs.Common.{◌≡◌, ℕ, ◌+◌, ◌<◌, ◌≤◌, ◌&&◌, ◌||◌, ◌==◌, ◌⊎◌, inl, inr, not, Bool, true, false, List, [], ◌∷◌, Option, Some, None, length, refl, sym, ap, ◌∙◌, cond, arith}
use Rattle.std.{specs.List.list_all, specs.Prelude.{nat_le, nat_lt, max, reverse}, proofs.lemmas.Bool.{le-leb, lt-leb, lt-ltb, cases_lt}}
use Rattle.masked_bytes.{specs.Masked.gives_all, proofs.Truth.and_false}
use Rattle.result_rows.specs.declared.Outcome.{Outcome}
use Rattle.result_rows.specs.declared.Outcome.TheVariants as out
use Rattle.row_rules.specs.{Queueing.{pending, waiting, cover, is_at_head, has_room}, Rows.newest, Serving.same_bytes, Ticking.{bound, apart, no_cut_below, first_cut_at}}
use Rattle.row_rules.specs.{declared.Row.Row, declared.Rules.Rules}
use Rattle.check_judging.{specs.Cutting.{cut_ticks, first_from, first_is}, specs.Distances.{last_read, ends_above, is_far_below}, specs.Rising.rising, proofs.Apart.apart_law}
use Rattle.check_judging.proofs.Cuts.{first_cut_law}
use Rattle.check_verdict.specs.{Judged.{beside, a_read}, Keeping.{before_cut, at_cut}, Timely.first_of_ticks, Verdicts.{all_have_room, keeps_all}}
use Rattle.check_verdict.proofs.Apart.{all-reverse}
use Rattle.check_telling.specs.Right.{earliest, find_room, read_grounds, is_right_read, RightReadLaw}

before_first : (u : ℕ) (ticks : List ℕ) → first_from u ticks ≡ before_cut u (first_of_ticks ticks)
before_first u [] = refl
before_first u (c ∷ ticks) = refl

at_first : (u : ℕ) (ticks : List ℕ) → first_is u ticks ≡ at_cut u (first_of_ticks ticks)
at_first u [] = refl
at_first u (c ∷ ticks) = refl

max_fits : (a b u : ℕ) → a ≤ u → nat_le (max a b) u ≡ nat_le b u
max_fits a b u le = by (cases_lt u b)
  where
    by : (u < b) ⊎ (b ≤ u) → nat_le (max a b) u ≡ nat_le b u
    by (inl lt) = lt-leb (max a b) u (omega (arith, lt)) ∙ sym (lt-leb b u lt)
    by (inr ge) = le-leb (max a b) u (omega (arith, le, ge)) ∙ sym (le-leb b u ge)

-- a tick that is no sooner than a read takes
from_far : (read tick u : ℕ) (last : Option ℕ) → tick + read ≤ u → nat_le (earliest read tick last) u ≡ is_far_below read u last
from_far read tick u None le = le-leb (tick + read) u le
from_far read tick u (Some v) le = max_fits (tick + read) (v + read) u le

from_near : (read tick u : ℕ) (last : Option ℕ) → u < tick + read → nat_le (earliest read tick last) u ≡ false
from_near read tick u None lt = lt-leb (tick + read) u lt
from_near read tick u (Some v) lt = lt-leb (max (tick + read) (v + read)) u (omega (arith, lt))

shift : (b c far apart : Bool) → ((b && c) && (far && apart)) ≡ (far && (b && (c && apart)))
shift true true far apart = refl
shift true false true apart = refl
shift true false false apart = refl
shift false c true apart = refl
shift false c false apart = refl

-- the parts of a rule, where the row is read, forwarded, refused or lost
when_read : (s a h cov full x y : Bool) → x ≡ y
    → (s && ((a && (h && cond cov false (cond full false true))) && (true && (x && true)))) ≡ ((a && h) && (s && (not cov && (not full && y))))
when_read false a h cov full x y is = sym (and_false (a && h))
when_read true false h cov full x y is = refl
when_read true true false cov full x y is = refl
when_read true true true true full x y is = refl
when_read true true true false true x y is = refl
when_read true true true false false true y is = is
when_read true true true false false false y is = is

when_forwarded : (s a h cov head p : Bool) → p ≡ true
    → (s && ((a && (h && cond cov true head)) && (true && (p && true)))) ≡ ((a && h) && (s && (cov || head)))
when_forwarded false a h cov head p is = sym (and_false (a && h))
when_forwarded true false h cov head p is = refl
when_forwarded true true false cov head p is = refl
when_forwarded true true true true head p is = ap (λ b. b && true) is
when_forwarded true true true false true p is = ap (λ b. b && true) is
when_forwarded true true true false false p is = refl

when_busy : (s a h cov full p : Bool) → p ≡ true
    → (s && ((a && (h && cond cov false (cond full true false))) && (true && (p && true)))) ≡ ((a && h) && (s && (not cov && full)))
when_busy false a h cov full p is = sym (and_false (a && h))
when_busy true false h cov full p is = refl
when_busy true true false cov full p is = refl
when_busy true true true true full p is = refl
when_busy true true true false true p is = ap (λ b. b && true) is
when_busy true true true false false p is = refl

all_free : {A : Type 0} (p : A → Bool) (xs : List A) → ((x : A) → p x ≡ true) → list_all p xs ≡ true
all_free p [] f = refl
all_free p (x ∷ xs) f = ap (λ b. b && list_all p xs) (f x) ∙ all_free p xs f

both_true : (a p b : Bool) → p ≡ true → a ≡ b → (a && p) ≡ b
both_true true p b is same = is ∙ same
both_true false p b is same = same

module _ {n : ℕ} (rules : Rules) (banks : List ℕ) (before after : List (Row n)) (tick line : ℕ) (some : 0 < rules.read_ticks) (later_rises : rising tick (beside banks line after) ≡ true) where
  abbrev past : List (Row n)
  past = beside banks line before

  abbrev later : List (Row n)
  later = beside banks line after

  abbrev rooms : Bool
  rooms = all_have_room banks rules before (a_read {n = n} tick line out.Unset) after

  abbrev own_room : Bool
  own_room = has_room rules tick past

  abbrev covered : Bool
  covered = gives_all (cover tick line past later)

  abbrev head : Bool
  head = is_at_head tick line (pending tick [] past) past later

  abbrev full : Bool
  full = length (waiting tick [] past) == rules.reads

  abbrev by_tick : ℕ
  by_tick = bound rules tick past later

  abbrev answer : ℕ → ℕ → List ℕ → Outcome n
  answer u place bytes = out.Read u place bytes

  abbrev loss : ℕ → Outcome n
  loss u = out.Lost u

  abbrev spread : ℕ → Bool
  spread u = list_all (λ v. not (u == v)) (reverse (ends_above tick past))

  -- the times of a row that is read
  timely : (u place : ℕ) (bytes : List ℕ)
      → ((nat_le (tick + rules.read_ticks) u && (nat_le u by_tick && no_cut_below u later)) && list_all (λ q. apart rules.read_ticks (answer u place bytes) q.outcome) past)
      ≡ (nat_le (earliest rules.read_ticks tick (last_read past)) u
      && (nat_le u by_tick && (before_cut u (first_of_ticks (cut_ticks later)) && spread u)))
  timely u place bytes = by (cases_lt u (tick + rules.read_ticks))
    where
      by : (u < tick + rules.read_ticks) ⊎ (tick + rules.read_ticks ≤ u)
          → ((nat_le (tick + rules.read_ticks) u && (nat_le u by_tick && no_cut_below u later)) && list_all (λ q. apart rules.read_ticks (answer u place bytes) q.outcome) past)
          ≡ (nat_le (earliest rules.read_ticks tick (last_read past)) u
          && (nat_le u by_tick && (before_cut u (first_of_ticks (cut_ticks later)) && spread u)))
      by (inl lt) =
          ap (λ b. (b && (nat_le u by_tick && no_cut_below u later)) && list_all (λ q. apart rules.read_ticks (answer u place bytes) q.outcome) past)
          (lt-leb (tick + rules.read_ticks) u lt)
          ∙ sym (ap (λ b. b && (nat_le u by_tick && (before_cut u (first_of_ticks (cut_ticks later)) && spread u)))
          (from_near rules.read_ticks tick u (last_read past) lt))
      by (inr le) =
          let cuts : no_cut_below u later ≡ before_cut u (first_of_ticks (cut_ticks later))
          = (first_cut_law n tick u later later_rises).below ∙ before_first u (cut_ticks later) in
          let dist : list_all (λ q. apart rules.read_ticks (answer u place bytes) q.outcome) past
          ≡ (is_far_below rules.read_ticks u (last_read past) && spread u)
          = apart_law n rules.read_ticks tick (out.Read u place bytes) past (lt-ltb tick u (omega (arith, le, some)))
          ∙ ap (λ b. is_far_below rules.read_ticks u (last_read past) && b) (sym (all-reverse (λ v. not (u == v)) (ends_above tick past))) in
          ap (λ b. (b && (nat_le u by_tick && no_cut_below u later)) && list_all (λ q. apart rules.read_ticks (answer u place bytes) q.outcome) past)
          (le-leb (tick + rules.read_ticks) u le)
          ∙ ap (λ b. (nat_le u by_tick && b) && list_all (λ q. apart rules.read_ticks (answer u place bytes) q.outcome) past) cuts
          ∙ ap (λ b. (nat_le u by_tick && before_cut u (first_of_ticks (cut_ticks later))) && b) dist
          ∙ shift (nat_le u by_tick) (before_cut u (first_of_ticks (cut_ticks later))) (is_far_below rules.read_ticks u (last_read past)) _
          ∙ sym (ap (λ b. b && (nat_le u by_tick && (before_cut u (first_of_ticks (cut_ticks later)) && spread u)))
          (from_far rules.read_ticks tick u (last_read past) le))

  right : (o : Outcome n) → keeps_all rules banks before (a_read tick line o) after
      ≡ (find_room rules banks tick line before after && is_right_read tick (read_grounds rules banks tick line before after) o)
  right (out.Read u place bytes) =
      when_read (same_bytes bytes (newest before line)) rooms own_room covered full _ _ (timely u place bytes)
  right (out.Forwarded at bytes) =
      when_forwarded ((at == tick) && same_bytes bytes (newest before line)) rooms own_room covered head _
      (all_free (λ (q : Row n). apart rules.read_ticks (out.Forwarded at bytes) q.outcome) past (λ q. refl))
  right (out.Busy at) =
      when_busy (at == tick) rooms own_room covered full _ (all_free (λ (q : Row n). apart rules.read_ticks (out.Busy at) q.outcome) past (λ q. refl))
  right (out.Lost u) =
      when_read true rooms own_room covered full _ _
      (both_true (first_cut_at u later && nat_lt u by_tick) (list_all (λ q. apart rules.read_ticks (loss u) q.outcome) past)
      (at_cut u (first_of_ticks (cut_ticks later)) && nat_lt u by_tick)
      (all_free (λ (q : Row n). apart rules.read_ticks (out.Lost u) q.outcome) past (λ q. refl))
      (ap (λ b. b && nat_lt u by_tick) ((first_cut_law n tick u later later_rises).at ∙ at_first u (cut_ticks later))))
  right out.Unset = sym (and_false (rooms && own_room))
  right (out.Stored u place) = sym (and_false (rooms && own_room))
  right (out.Merged u) = sym (and_false (rooms && own_room))
  right (out.Queued u) = sym (and_false (rooms && own_room))
  right (out.Full u) = sym (and_false (rooms && own_room))
  right (out.Worn u) = sym (and_false (rooms && own_room))
  right (out.Cut u) = sym (and_false (rooms && own_room))

pub right_read_law : RightReadLaw
right_read_law n tick line outcome rules banks before after some rises = right rules banks before after tick line some rises outcome
