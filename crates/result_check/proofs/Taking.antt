-- A row comes, and passes where it breaks no rule.
use Rattle.std.proofs.Common.{◌≡◌, ℕ, suc, ◌+◌, ◌<◌, ◌≤◌, ◌&&◌, ◌⊎◌, inl, inr, Bool, true, false, List, [], ◌∷◌, length, Option, Some, None, refl, sym, ap, ◌∙◌, cond, subst, arith}
use Rattle.std.{specs.Prelude.{All, slice_get, slice_set, nat_lt}, proofs.Math.ListN.length-set, proofs.lemmas.Bool.{eq-eqb, leb-true, le-leb}}
use Rattle.std.proofs.lemmas.List.Elements.{All-tail, All-filter}
use Rattle.masked_bytes.proofs.Truth.{and_first, and_second}
use Rattle.result_rows.specs.declared.Outcome.{Outcome}
use Rattle.result_rows.specs.declared.Outcome.TheVariants as out
use Rattle.row_rules.specs.{Queueing.has_room, Serving.may_have, Table.{is_of, of_bank}, declared.Asks.Asks, declared.Asks.TheVariants.{Reads, Writes, Cuts}, declared.Row.Row}
use Rattle.row_rules.specs.declared.Rules.{Rules}
use Rattle.check_judging.{specs.Cutting.cut_ticks, specs.Distances.ends_behind, specs.Rising.rising, specs.Runs.GivesSized, proofs.Sublists.room_stays_law}
use Rattle.check_verdict.specs.{Covering.KeptLine, Judged.{first_broken, beside, a_row, a_write, a_read, a_cut, RoomIs}, Keeping.{write_timely, read_timely}}
use Rattle.check_verdict.specs.{Kept.{sight, sight_of}, Members.never, Passing.{Passed, put}, RowVerdicts.{coming_to, is_apart, read_by, write_verdict, read_verdict}}
use Rattle.check_verdict.specs.{States.{Facts, Stands, settled, after_write, after_read, cut_off}, Timely.first_of_ticks, VerdictLaws.Comes}
use Rattle.check_verdict.specs.{Verdicts.{bank_in, all_rules, broken_by}, Within.AreWithin, declared.Rule.Rule, declared.known.Coming.Coming, declared.known.Keys.Keys}
use Rattle.check_verdict.{specs.declared.lines.CheckedLine.CheckedLine, specs.declared.members.Member.Member, proofs.Judged.judge_cut_law}
use Rattle.check_verdict.proofs.{Passing.{settle_one_law, row_passes_law, cut_passed_law}, States.{stands_later_law, write_passes_law, read_passes_law}}
use Rattle.check_verdict.proofs.VerdictLaws.{write_verdict_law, read_verdict_law, newest_beside}
use Rattle.result_check.{specs.Keeping.{facts_in, Knows, KnowsLines, MayTake, IsNext, HasPassed}, proofs.Keeping.{IsSettled, same_facts, put_set, facts_settled, bank_exists}}
use Rattle.result_check.proofs.{Lines.lines_stay, Rows.short_of_brief}

-- rows of a bank don't fall where all rows don't
rising_less : {n : ℕ} (s t : ℕ) (rows : List (Row n)) → t ≤ s → rising s rows ≡ true → rising t rows ≡ true
rising_less s t [] le h = refl
rising_less s t (q ∷ rows) le h =
    let a = leb-true s q.tick (and_first _ _ h) in
    ap (λ b. b && rising q.tick rows) (le-leb t q.tick (omega (arith, a, le))) ∙ and_second _ _ h

rising_of_bank : {n : ℕ} (bank_of : ℕ → ℕ) (bank t : ℕ) (rows : List (Row n)) → rising t rows ≡ true → rising t (of_bank bank_of bank rows) ≡ true
rising_of_bank bank_of bank t [] h = refl
rising_of_bank {n} bank_of bank t (q ∷ rows) h = by (is_of bank_of bank q.asks) (rising_of_bank bank_of bank q.tick rows (and_second _ _ h))
  where
    le : t ≤ q.tick
    le = leb-true t q.tick (and_first _ _ h)

    by : (b : Bool) → rising q.tick (of_bank bank_of bank rows) ≡ true → rising t (cond b (q ∷ of_bank bank_of bank rows) (of_bank bank_of bank rows)) ≡ true
    by true ih = ap (λ b. b && rising q.tick (of_bank bank_of bank rows)) (le-leb t q.tick le) ∙ ih
    by false ih = rising_less q.tick t (of_bank bank_of bank rows) le ih

-- no rule is broken
pub record BreaksNone (served room fits wear timely : Bool) : Type 0 where
  pub is_served : served ≡ true
  pub has_room : room ≡ true
  pub is_timely : timely ≡ true

none_broken : (served room fits wear timely : Bool) → first_broken served room fits wear timely ≡ None → BreaksNone served room fits wear timely
none_broken true true true true true is = record { is_served = refl; has_room = refl; is_timely = refl }
none_broken _ _ _ _ _ is = absurd (cc)

-- a row of a line comes
module _ {n : ℕ} {rules : Rules} {banks : List ℕ} {keys : Keys} {before : List (Row n)} {r : Row n} {after : List (Row n)} {kept : List Facts} {joined : Option ℕ} {lines : List (CheckedLine n)} {room : Bool} {coming : Coming} {cuts : List ℕ}
    (h : IsNext rules banks keys before r after kept joined lines room coming cuts) (line : ℕ) (within : line < length banks) where
  abbrev own : ℕ
  own = bank_in banks line

  abbrev f : Facts
  f = settled r.tick (facts_in kept own)

  below : r.tick < never
  below = let reached = h.among.reached in omega (arith, reached)

  pub own_stands : Stands r.tick (beside banks line before) f
  own_stands = stands_later_law n (h.knows.at own) r.tick (beside banks line before) (facts_in kept own) (h.knows.passed.by own) below (h.knows.passed.stand own)

  pub comes : AreWithin rules → Comes rules banks line before r after f
  comes limits = record {
    stands = own_stands;
    later = rising_of_bank (bank_in banks) own r.tick after h.among.later;
    short = short_of_brief r.outcome h.among.brief;
    reached = h.among.reached;
    some = limits.some_read;
    small = let few = limits.few_read in omega (arith, few);
  }

  pub own_room : room ≡ true → has_room rules r.tick (beside banks line before) ≡ true
  own_room yes_room = let k = h.seen yes_room in room_stays_law n (k.at own) r.tick rules (beside banks line before) (k.passed.by own) (k.passed.room own refl)

  pub room_is : RoomIs rules banks line before r after room
  room_is = record { all = h.all; own = own_room }

  -- and passes
  pub row_known : (kept1 kept2 : List Facts) (number : ℕ) (fb g : Facts) → own < length kept → IsSettled banks r.tick line kept kept1 number fb → kept2 ≡ slice_set kept1 own g → room ≡ true
      → (r.asks ≡ Reads line) ⊎ ((bytes : List ℕ) × (given : List Bool) × (r.asks ≡ Writes line bytes given))
      → Stands r.tick (r ∷ beside banks line before) g → Knows rules banks r.tick kept2 (Some line) (r ∷ before)
  row_known kept1 kept2 number fb g exists bank are has of stands =
      let k = h.seen has in
      let size : length kept1 ≡ length kept = ap length bank.settles ∙ length-set kept _ _ in
      let p1 = same_facts rules banks r.tick (put k.at own r.tick) (put (facts_in kept) own f) (facts_in kept1) None before
      (λ j. put_set kept own f exists j ∙ ap (λ xs. facts_in xs j) (sym bank.settles))
      (settle_one_law n r.tick r.tick own rules banks k.at (facts_in kept) None before k.passed (omega arith) below) in
      record {
        at = put k.at own r.tick;
        passed =
            same_facts rules banks r.tick (put k.at own r.tick) (put (facts_in kept1) own g) (facts_in kept2) (Some line) (r ∷ before)
            (λ j. put_set kept1 own g (omega (arith, size, exists)) j ∙ ap (λ xs. facts_in xs j) (sym are))
            (row_passes_law n r.tick line rules banks (put k.at own r.tick) (facts_in kept1) before r g p1 within (ap (λ b. cond b r.tick (k.at own)) (eq-eqb own own refl)) of stands);
      }

-- a write that is served and stored in time ends behind its arrival
write_ends : {n : ℕ} (tick line : ℕ) (bytes : List ℕ) (given : List Bool) (some : List ℕ) (latest : ℕ) (o : Outcome n)
    → may_have tick (Writes line bytes given) some o ≡ true → write_timely tick latest o ≡ true → ends_behind tick o ≡ true
write_ends tick line bytes given some latest (out.Stored u place) served timely = and_first (nat_lt tick u) _ timely
write_ends tick line bytes given some latest (out.Read u place more) served timely = absurd (cc)
write_ends tick line bytes given some latest _ served timely = refl

-- and a read that is served, and read in time
read_ends : {n : ℕ} (tick line read bound : ℕ) (cut : Option ℕ) (some : List ℕ) (o : Outcome n)
    → 0 < read → may_have tick (Reads line) some o ≡ true → read_timely tick read bound cut o ≡ true → ends_behind tick o ≡ true
read_ends tick line read bound cut some (out.Read u place more) pos served timely =
    let a = leb-true (tick + read) u (and_first _ _ timely) in le-leb (suc tick) u (omega (arith, a, pos))
read_ends tick line read bound cut some (out.Stored u place) pos served timely = absurd (cc)
read_ends tick line read bound cut some _ pos served timely = refl

-- a write: what the code finds, and what it leaves
pub write_taken : {n : ℕ} (rules : Rules) (banks : List ℕ) (keys : Keys) (before : List (Row n)) (tick line : ℕ) (bytes : List ℕ) (given : List Bool) (o : Outcome n) (after : List (Row n))
    (kept kept1 kept2 : List Facts) (joined joined2 : Option ℕ) (lines lines2 : List (CheckedLine n)) (room : Bool) (asks : Asks n) (some : List ℕ) (coming : Coming) (cuts : List ℕ) (number : ℕ) (broken : Option Rule) (fb : Facts)
    → asks ≡ Writes line bytes given → IsNext rules banks keys before (a_row tick asks o) after kept joined lines room coming cuts
    → MayTake rules banks keys tick line o kept lines → IsSettled banks tick line kept kept1 number fb
    → broken ≡ write_verdict rules number fb some line (a_row tick asks o) room keys coming cuts
    → (broken ≡ None → (m : Member) × (sight m ≡ sight_of (a_write tick line [] [] o)) × (kept2 ≡ slice_set kept1 number (after_write line m o (facts_in kept1 number))))
    → (broken ≡ None → joined2 ≡ Some line)
    → (broken ≡ None → KnowsLines banks tick lines before → KnowsLines banks tick lines2 (a_write tick line bytes given o ∷ before))
    → HasPassed rules banks before (a_row tick asks o) after broken kept2 joined2 lines2
write_taken {n} rules banks keys before tick line bytes given o after kept kept1 kept2 joined joined2 lines lines2 room asks some coming cuts number broken fb
    asked comes_next may bank result pass joins known = subst (λ (a : Asks n). HasPassed rules banks before (a_row tick a o) after broken kept2 joined2 lines2) (sym asked) (record {
      told = by_facts ∙ sym law;
      knows = λ none. knows none;
      lines_known = λ none. known none h.lines_known;
    })
  where
    r : Row n
    r = a_write tick line bytes given o

    h : IsNext rules banks keys before r after kept joined lines room coming cuts
    h = subst (λ (a : Asks n). IsNext rules banks keys before (a_row tick a o) after kept joined lines room coming cuts) asked comes_next

    b : ℕ
    b = bank_in banks line

    f : Facts
    f = settled tick (facts_in kept b)

    exists : b < length kept
    exists = bank_exists banks line (length kept) may.listed may.exist

    Told : Asks n → ℕ → Facts → Coming → List ℕ → Option Rule
    Told a k g x cs = write_verdict rules k g some line (a_row tick a o) room keys x cs

    law : broken_by rules banks all_rules before r after ≡ Told (Writes line bytes given) b f (coming_to banks line after) (cut_ticks after)
    law = write_verdict_law n tick line bytes given o rules banks some before after f room keys (comes h line may.listed may.within) (room_is h line may.listed) h.among.has

    by_facts : broken ≡ Told (Writes line bytes given) b f (coming_to banks line after) (cut_ticks after)
    by_facts =
        result ∙ ap (λ a. Told a number fb coming cuts) asked ∙ ap (λ k. Told (Writes line bytes given) k fb coming cuts) bank.here
        ∙ ap (λ g. Told (Writes line bytes given) b g coming cuts) bank.is ∙ ap (λ x. Told (Writes line bytes given) b f x cuts) h.among.brings
        ∙ ap (Told (Writes line bytes given) b f (coming_to banks line after)) (h.among.cuts_are refl)

    knows : broken ≡ None → Knows rules banks tick kept2 joined2 (r ∷ before)
    knows none =
        let breaks = none_broken _ _ _ _ _ (sym by_facts ∙ none) in
        let p = pass none in
        let same : facts_in kept1 b ≡ f = facts_settled kept kept1 b f exists bank.settles in
        let stands = write_passes_law n tick line bytes given o rules (beside banks line before) f p.0 some
        (own_stands h line may.listed) (own_room h line may.listed breaks.has_room) breaks.is_served h.among.brief
        (write_ends tick line bytes given some _ o breaks.is_served (and_first _ _ breaks.is_timely)) p.1 in
        subst (λ j. Knows rules banks tick kept2 j (r ∷ before)) (sym (joins none))
        (row_known h line may.listed kept1 kept2 number fb (after_write line p.0 o f) exists bank
        (p.2 ∙ ap (λ k. slice_set kept1 k (after_write line p.0 o (facts_in kept1 k))) bank.here ∙ ap (λ x. slice_set kept1 b (after_write line p.0 o x)) same)
        breaks.has_room (inr (bytes, given, refl)) stands)

-- a read
pub read_taken : {n : ℕ} (rules : Rules) (banks : List ℕ) (keys : Keys) (before : List (Row n)) (tick line : ℕ) (o : Outcome n) (after : List (Row n))
    (kept kept1 kept2 : List Facts) (joined joined2 : Option ℕ) (lines lines2 : List (CheckedLine n)) (room : Bool) (asks : Asks n) (coming : Coming) (cuts : List ℕ) (number : ℕ) (broken : Option Rule) (fb : Facts) (ln : CheckedLine n)
    → asks ≡ Reads line → IsNext rules banks keys before (a_row tick asks o) after kept joined lines room coming cuts
    → MayTake rules banks keys tick line o kept lines → IsSettled banks tick line kept kept1 number fb → slice_get lines line ≡ Some ln
    → broken ≡ read_verdict rules number fb ln line (a_row tick asks o) room keys coming cuts
    → (broken ≡ None → kept2 ≡ slice_set kept1 number (after_read tick o (facts_in kept1 number)))
    → (broken ≡ None → joined2 ≡ Some line) → (broken ≡ None → lines2 ≡ lines)
    → HasPassed rules banks before (a_row tick asks o) after broken kept2 joined2 lines2
read_taken {n} rules banks keys before tick line o after kept kept1 kept2 joined joined2 lines lines2 room asks coming cuts number broken fb ln
    asked comes_next may bank there result pass joins same_lines = subst (λ (a : Asks n). HasPassed rules banks before (a_row tick a o) after broken kept2 joined2 lines2) (sym asked) (record {
      told = by_facts ∙ sym law;
      knows = λ none. knows none;
      lines_known = λ none. lines_stay banks tick r before lines lines2 (λ l. refl) (same_lines none) h.lines_known;
    })
  where
    r : Row n
    r = a_read tick line o

    h : IsNext rules banks keys before r after kept joined lines room coming cuts
    h = subst (λ (a : Asks n). IsNext rules banks keys before (a_row tick a o) after kept joined lines room coming cuts) asked comes_next

    b : ℕ
    b = bank_in banks line

    f : Facts
    f = settled tick (facts_in kept b)

    exists : b < length kept
    exists = bank_exists banks line (length kept) may.listed may.exist

    Told : Asks n → ℕ → Facts → Coming → List ℕ → Option Rule
    Told a k g x cs = read_verdict rules k g ln line (a_row tick a o) room keys x cs

    k : KeptLine n tick line (beside banks line before) ln.newest ln.unclosed ln.runs.items
    k = h.lines_known line ln there

    sized : All (λ q. GivesSized q) (beside banks line before)
    sized = All-filter (λ (q : Row n). is_of (bank_in banks) b q.asks) (λ (q : Row n). GivesSized q) before (All-tail (λ (q : Row n). GivesSized q) r before h.among.sized)

    law : broken_by rules banks all_rules before r after ≡ Told (Reads line) b f (coming_to banks line after) (cut_ticks after)
    law = read_verdict_law n tick tick line o rules banks before after f room keys ln (comes h line may.listed may.within) (room_is h line may.listed) h.among.has
        k (omega arith) sized (k.newest_is ∙ newest_beside (bank_in banks) line before)

    by_facts : broken ≡ Told (Reads line) b f (coming_to banks line after) (cut_ticks after)
    by_facts =
        result ∙ ap (λ a. Told a number fb coming cuts) asked ∙ ap (λ j. Told (Reads line) j fb coming cuts) bank.here
        ∙ ap (λ g. Told (Reads line) b g coming cuts) bank.is ∙ ap (λ x. Told (Reads line) b f x cuts) h.among.brings
        ∙ ap (Told (Reads line) b f (coming_to banks line after)) (h.among.cuts_are refl)

    timely : Bool
    timely = read_timely tick rules.read_ticks (read_by rules b f keys tick) (first_of_ticks (cut_ticks after)) o

    apart : Bool
    apart = is_apart rules.read_ticks f o

    knows : broken ≡ None → Knows rules banks tick kept2 joined2 (r ∷ before)
    knows none =
        let breaks = none_broken (may_have tick (Reads line) ln.newest o) room _ true (timely && apart) (sym by_facts ∙ none) in
        let same : facts_in kept1 b ≡ f = facts_settled kept kept1 b f exists bank.settles in
        let pos = may.within.some_read in
        let stands = read_passes_law n tick line o rules (beside banks line before) f ln.newest
        (own_stands h line may.listed) (own_room h line may.listed breaks.has_room) breaks.is_served h.among.brief
        (read_ends tick line rules.read_ticks (read_by rules b f keys tick) (first_of_ticks (cut_ticks after)) ln.newest o pos breaks.is_served (and_first timely apart breaks.is_timely)) in
        subst (λ j. Knows rules banks tick kept2 j (r ∷ before)) (sym (joins none))
        (row_known h line may.listed kept1 kept2 number fb (after_read tick o f) exists bank
        (pass none ∙ ap (λ j. slice_set kept1 j (after_read tick o (facts_in kept1 j))) bank.here ∙ ap (λ x. slice_set kept1 b (after_read tick o x)) same)
        breaks.has_room (inl refl) stands)

-- a cut
pub cut_taken : {n : ℕ} (rules : Rules) (banks : List ℕ) (keys : Keys) (before : List (Row n)) (tick : ℕ) (o : Outcome n) (after : List (Row n))
    (kept kept2 : List Facts) (joined joined2 : Option ℕ) (lines lines2 : List (CheckedLine n)) (room : Bool) (coming : Coming) (cuts : List ℕ) (broken : Option Rule)
    → IsNext rules banks keys before (a_cut tick o) after kept joined lines room coming cuts → tick < never
    → broken ≡ first_broken (may_have tick Cuts [] o) room true true true
    → (broken ≡ None → (bank : ℕ) → facts_in kept2 bank ≡ cut_off (settled tick (facts_in kept bank)))
    → (broken ≡ None → joined2 ≡ None) → (broken ≡ None → lines2 ≡ lines)
    → HasPassed rules banks before (a_cut tick o) after broken kept2 joined2 lines2
cut_taken {n} rules banks keys before tick o after kept kept2 joined joined2 lines lines2 room coming cuts broken h below result pass joins same_lines = record {
  told = result ∙ sym law;
  knows = λ none. knows none;
  lines_known = λ none. lines_stay banks tick r before lines lines2 (λ l. refl) (same_lines none) h.lines_known;
}
  where
    r : Row n
    r = a_cut tick o

    law : broken_by rules banks all_rules before r after ≡ first_broken (may_have tick Cuts [] o) room true true true
    law = judge_cut_law n tick o rules banks [] before after room h.all

    knows : broken ≡ None → Knows rules banks tick kept2 joined2 (r ∷ before)
    knows none =
        let breaks = none_broken (may_have tick Cuts [] o) room true true true (sym result ∙ none) in
        let k = h.seen breaks.has_room in
        let settled_all : Passed rules banks tick (λ bank. tick) (λ bank. settled tick (facts_in kept bank)) None before = record {
          stand = λ bank. stands_later_law n (k.at bank) tick (of_bank (bank_in banks) bank before) (facts_in kept bank) (k.passed.by bank) below (k.passed.stand bank);
          by = λ bank. omega arith;
          room = λ bank differs. room_stays_law n (k.at bank) tick rules (of_bank (bank_in banks) bank before) (k.passed.by bank) (k.passed.room bank differs);
          known = k.passed.known;
        } in
        subst (λ j. Knows rules banks tick kept2 j (r ∷ before)) (sym (joins none)) (record {
          at = λ bank. tick;
          passed =
              same_facts rules banks tick (λ bank. tick) (λ bank. cut_off (settled tick (facts_in kept bank))) (facts_in kept2) None (r ∷ before) (λ bank. sym (pass none bank))
              (cut_passed_law n tick o rules banks [] (λ bank. tick) (λ bank. settled tick (facts_in kept bank)) before settled_all (λ bank. refl) breaks.is_served h.among.brief);
        })
