-- What is kept of a bank, as rows pass.
use Rattle.std.proofs.Common.{◌≡◌, ℕ, ◌≤◌, ◌&&◌, ◌||◌, Bool, true, false, List, [], ◌∷◌, refl, sym, ap, ◌∙◌, cond, arith}
use Rattle.std.{specs.List.list_any, specs.Prelude.{nat_le, nat_lt, not}, proofs.lemmas.Bool.{le-leb, leb-true, ltb-true, and_from, or_left}}
use Rattle.masked_bytes.proofs.Truth.{and_first, and_second}
use Rattle.result_rows.specs.declared.Outcome.{Outcome}
use Rattle.result_rows.specs.declared.Outcome.TheVariants as out
use Rattle.row_rules.specs.{Answers.{accepts, is_stored, is_answered, is_lost, is_merged, is_queued, is_worn, stored_after}, Queueing.has_room, Serving.may_have, Wearing.worn_row}
use Rattle.row_rules.specs.{declared.Asks.TheVariants.{Reads, Writes, Cuts}, declared.Row.Row, declared.Rules.Rules}
use Rattle.check_judging.{specs.Coming.came, specs.Distances.ends_behind, specs.Keys.reach, specs.Rising.falling, proofs.Nears.{near_stays, near_behind}}
use Rattle.check_verdict.specs.{Fitting.is_brief, Judged.{a_write, a_read, a_cut}, Kept.{sight, sight_of}}
use Rattle.check_verdict.specs.States.{Facts, Stands, with_member, cut_off, after_write, after_read, StandsLaterLaw, WritePassesLaw, ReadPassesLaw, CutPassesLaw}
use Rattle.check_verdict.{specs.declared.members.Member.Member, proofs.Joins.{join_kept_law, cut_kept_law}, proofs.OtherJoins.other_kept_law}
use Rattle.check_verdict.proofs.{ReadJoins.{answer_kept_law, loss_kept_law}, Settles.settle_kept_law, Tables.four_law}

-- ticks that don't rise from one on don't from a later one
falls_later : {n : ℕ} (t u : ℕ) → t ≤ u → (rows : List (Row n)) → falling t rows ≡ true → falling u rows ≡ true
falls_later t u le [] h = refl
falls_later t u le (q ∷ rows) h =
    and_from (nat_le q.tick u) _ (let k : q.tick ≤ t = leb-true q.tick t (and_first (nat_le q.tick t) _ h) in le-leb q.tick u (omega (arith, k, le))) (and_second (nat_le q.tick t) _ h)

pub stands_later_law : StandsLaterLaw
stands_later_law n t u rows f le below s = record {
  finds = record { kept = settle_kept_law n t u rows f.members f.waits f.lost f.last_answer f.last_store le below s.finds.kept; brief = s.finds.brief };
  near = near_stays t u rows le s.near;
  worn_is = s.worn_is;
  four = s.four;
  passed = falls_later t u le rows s.passed;
}

falls_on : {n : ℕ} (tick : ℕ) (rows : List (Row n)) → falling tick rows ≡ true → (nat_le tick tick && falling tick rows) ≡ true
falls_on tick rows h = and_from (nat_le tick tick) _ (le-leb tick tick (omega arith)) h

module _ {n : ℕ} (tick line : ℕ) (bytes : List ℕ) (given : List Bool) (rules : Rules) (rows : List (Row n)) (f : Facts) (s : Stands tick rows f) (room : has_room rules tick rows ≡ true) where
  -- an accepted write
  joins : (o : Outcome n) (m : Member) → (not (is_stored o) || true) ≡ true → (not (is_answered o) || false) ≡ true → accepts o ≡ true → is_brief o ≡ true
      → (accepts o && (stored_after tick o || (is_queued o || (is_merged o && true)))) ≡ true → is_worn o ≡ false
      → sight m ≡ sight_of (a_write tick line bytes given o) → Stands tick (a_write tick line bytes given o ∷ rows) (with_member line m f)
  joins o m own quiet is brief stood fresh shown = record {
    finds = record {
      kept = join_kept_law n tick (a_write tick line bytes given o) rows f.members f.waits f.lost f.last_answer f.last_store m s.finds.kept
          (and_from (not (is_stored o) || true) (not (is_answered o) || false) own quiet) is stood shown;
      brief = and_from (is_brief o) _ brief s.finds.brief;
    };
    near = near_behind rules tick (a_write tick line bytes given o) rows room;
    worn_is = s.worn_is ∙ ap (λ b. b || list_any worn_row rows) (sym fresh);
    four = (four_law n (a_write tick line bytes given o) rows f.first f.second f.third f.fourth s.four).1 refl;
    passed = falls_on tick rows s.passed;
  }

  -- one that was refused
  refused : (o : Outcome n) (worn : Bool) → accepts o ≡ false → is_stored o ≡ false → is_answered o ≡ false → is_lost o ≡ false → is_brief o ≡ true
      → worn ≡ (is_worn o || list_any worn_row rows)
      → Stands tick (a_write tick line bytes given o ∷ rows) (record {
        members = f.members;
        waits = f.waits;
        lost = f.lost;
        last_answer = f.last_answer;
        last_store = f.last_store;
        worn = worn;
        first = f.first;
        second = f.second;
        third = f.third;
        fourth = f.fourth;
      })
  refused o worn not_in unstored unread kept brief is = record {
    finds = record {
      kept = other_kept_law n tick (a_write tick line bytes given o) rows f.members f.waits f.lost f.last_answer f.last_store s.finds.kept
          (ap (λ b. (not b || true) && (not (is_answered o) || false)) unstored ∙ ap (λ b. not b || false) unread) not_in refl unstored unread kept;
      brief = and_from (is_brief o) _ brief s.finds.brief;
    };
    near = near_behind rules tick (a_write tick line bytes given o) rows room;
    worn_is = is;
    four = (four_law n (a_write tick line bytes given o) rows f.first f.second f.third f.fourth s.four).1 refl;
    passed = falls_on tick rows s.passed;
  }

-- what comes above a tick is still to come
abbrev or_none : Bool → Bool
or_none b = b || false

pub write_passes_law : WritePassesLaw
write_passes_law n tick line bytes given outcome rules rows f m some s room served brief above shown = by outcome served brief above shown
  where
    by : (o : Outcome n) → may_have tick (Writes line bytes given) some o ≡ true → is_brief o ≡ true → ends_behind tick o ≡ true
        → sight m ≡ sight_of (a_write tick line bytes given o) → Stands tick (a_write tick line bytes given o ∷ rows) (after_write line m o f)
    by (out.Stored u place) k b a is = joins tick line bytes given rules rows f s room (out.Stored u place) m refl refl refl b (or_left (nat_lt tick u) false a) refl is
    by (out.Merged u) k b a is = joins tick line bytes given rules rows f s room (out.Merged u) m refl refl refl b refl refl is
    by (out.Queued u) k b a is = joins tick line bytes given rules rows f s room (out.Queued u) m refl refl refl b refl refl is
    by (out.Full u) k b a is = refused tick line bytes given rules rows f s room (out.Full u) f.worn refl refl refl refl b s.worn_is
    by (out.Worn u) k b a is = refused tick line bytes given rules rows f s room (out.Worn u) true refl refl refl refl b refl
    by _ k b a is = absurd (cc)

module _ {n : ℕ} (tick line : ℕ) (rules : Rules) (rows : List (Row n)) (f : Facts) (s : Stands tick rows f) (room : has_room rules tick rows ≡ true) where
  -- a read that doesn't wait
  answered : (o : Outcome n) → is_stored o ≡ false → is_answered o ≡ false → is_lost o ≡ false → is_brief o ≡ true
      → Stands tick (a_read tick line o ∷ rows) f
  answered o unstored unread kept brief = record {
    finds = record {
      kept = other_kept_law n tick (a_read tick line o) rows f.members f.waits f.lost f.last_answer f.last_store s.finds.kept
          (ap (λ b. (not b || false) && (not (is_answered o) || true)) unstored ∙ ap (λ b. not b || true) unread) refl refl unstored unread kept;
      brief = and_from (is_brief o) _ brief s.finds.brief;
    };
    near = near_behind rules tick (a_read tick line o) rows room;
    worn_is = s.worn_is;
    four = (four_law n (a_read tick line o) rows f.first f.second f.third f.fourth s.four).1
        (ap (λ b. cond b (tick ∷ came rows) (came rows)) (ap (λ b. b || is_lost o) unread ∙ kept));
    passed = falls_on tick rows s.passed;
  }

pub read_passes_law : ReadPassesLaw
read_passes_law n tick line outcome rules rows f some s room served brief above = by outcome served brief above
  where
    by : (o : Outcome n) → may_have tick (Reads line) some o ≡ true → is_brief o ≡ true → ends_behind tick o ≡ true
        → Stands tick (a_read tick line o ∷ rows) (after_read tick o f)
    by (out.Read u place more) k b a = record {
      finds = record {
        kept = answer_kept_law n tick u place more (a_read tick line (out.Read u place more)) rows f.members f.waits f.lost f.last_answer f.last_store s.finds.kept refl refl (ltb-true tick u a);
        brief = and_from (nat_lt u reach) _ b s.finds.brief;
      };
      near = near_behind rules tick (a_read tick line (out.Read u place more)) rows room;
      worn_is = s.worn_is;
      four = (four_law n (a_read tick line (out.Read u place more)) rows f.first f.second f.third f.fourth s.four).0 refl;
      passed = falls_on tick rows s.passed;
    }
    by (out.Lost u) k b a = record {
      finds = record {
        kept = loss_kept_law n tick u (a_read tick line (out.Lost u)) rows f.members f.waits f.lost f.last_answer f.last_store s.finds.kept refl refl;
        brief = and_from (nat_lt u reach) _ b s.finds.brief;
      };
      near = near_behind rules tick (a_read tick line (out.Lost u)) rows room;
      worn_is = s.worn_is;
      four = (four_law n (a_read tick line (out.Lost u)) rows f.first f.second f.third f.fourth s.four).0 refl;
      passed = falls_on tick rows s.passed;
    }
    by (out.Forwarded u more) k b a = answered tick line rules rows f s room (out.Forwarded u more) refl refl refl b
    by (out.Busy u) k b a = answered tick line rules rows f s room (out.Busy u) refl refl refl b
    by _ k b a = absurd (cc)

pub cut_passes_law : CutPassesLaw
cut_passes_law n tick outcome rules rows f some s room served brief = by outcome served brief
  where
    by : (o : Outcome n) → may_have tick Cuts some o ≡ true → is_brief o ≡ true → Stands tick (a_cut tick o ∷ rows) (cut_off f)
    by (out.Cut u) k b = record {
      finds = record {
        kept = cut_kept_law n tick (a_cut tick (out.Cut u)) rows f.members f.waits f.lost u f.last_answer f.last_store s.finds.kept refl refl;
        brief = and_from (nat_lt u reach) _ b s.finds.brief;
      };
      near = near_behind rules tick (a_cut tick (out.Cut u)) rows room;
      worn_is = s.worn_is;
      four = (four_law n (a_cut tick (out.Cut u)) rows f.first f.second f.third f.fourth s.four).1 refl;
      passed = falls_on tick rows s.passed;
    }
    by _ k b = absurd (cc)
