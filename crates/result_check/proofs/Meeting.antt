-- A row meets what is known behind the last one before it.
use Rattle.std.proofs.Common.{◌≡◌, ℕ, suc, ◌+◌, ◌<◌, ◌≤◌, Bool, true, false, List, [], ◌∷◌, length, Option, Some, None, refl, sym, ap, ◌∙◌, subst, cond, arith}
use Rattle.std.specs.Prelude.{All, IfSome}
use Rattle.result_rows.specs.declared.Outcome.{Outcome}
use Rattle.row_rules.specs.{Queueing.{waiting, awaits}, Table.{is_of, of_bank}, declared.Row.Row, declared.Rules.Rules}
use Rattle.check_judging.specs.Keys.{reach}
use Rattle.check_verdict.specs.{Fitting.is_brief, Members.never, Passing.joined_room, RowVerdicts.AreUsable, States.{Facts, settled}, Verdicts.bank_in, Within.AreWithin}
use Rattle.check_verdict.{specs.declared.known.Coming.Coming, specs.declared.known.Keys.Keys, specs.declared.lines.CheckedLine.CheckedLine, proofs.Numbers.numbers_law}
use Rattle.check_verdict.proofs.{Passing.cut_room_law, States.stands_later_law, VerdictLaws.came_below}
use Rattle.result_check.{specs.Keeping.{facts_in, Knows, KnowsLines, MayTake, IsNext, Meets}, proofs.Rows.short_of_brief}

-- lines are known later too
pub lines_later : {n : ℕ} (banks : List ℕ) (from tick : ℕ) (lines : List (CheckedLine n)) (before : List (Row n)) → from ≤ tick → KnowsLines banks from lines before → KnowsLines banks tick lines before
lines_later banks from tick lines before le k = λ l line is. let h = k l line is in record {
  newest_is = h.newest_is;
  open_is = h.open_is;
  held_is = λ t later. h.held_is t (omega (arith, le, later));
}

-- once the bank of the last row is settled
pub next_of : {n : ℕ} {rules : Rules} {banks : List ℕ} {keys : Keys} {before : List (Row n)} {r : Row n} {after : List (Row n)} {kept : List Facts} {joined : Option ℕ} {lines : List (CheckedLine n)} {coming : Coming} {cuts : List ℕ}
    (new : List Facts) (joined2 : Option ℕ) (lines2 : List (CheckedLine n)) (room : Bool) (h : Meets rules banks keys before r after kept joined lines coming cuts)
    → room ≡ joined_room rules banks r.tick (facts_in kept) joined → lines2 ≡ lines → joined2 ≡ joined
    → ((from : ℕ) (rows : List (Row n)) → from ≤ r.tick → r.tick < never → Knows rules banks from kept joined rows → Knows rules banks r.tick new joined rows)
    → ((from : ℕ) (rows : List (Row n)) → from ≤ r.tick → r.tick < never → Knows rules banks from kept joined rows → room ≡ true → Knows rules banks r.tick new None rows)
    → IsNext rules banks keys before r after new joined2 lines2 room coming cuts
next_of {n} {rules} {banks} {keys} {before} {r} {after} {kept} {joined} {lines} {coming} {cuts} new joined2 lines2 room h room_is same like knows seen = record {
  among = h.among;
  knows = subst (λ j. Knows rules banks r.tick new j before) (sym like) (knows h.from before h.passed_by below h.knows);
  seen = seen h.from before h.passed_by below h.knows;
  all = cut_room_law n h.from rules banks h.knows.at (facts_in kept) joined before r after h.knows.passed h.passed_by below ∙ sym room_is;
  lines_known = subst (λ (xs : List (CheckedLine n)). KnowsLines banks r.tick xs before) (sym same) (lines_later banks h.from r.tick lines before h.passed_by h.lines_known);
}
  where
    below : r.tick < never
    below = let reached = h.among.reached in omega (arith, reached)

-- a row of a line may be judged then
pub may_take : {n : ℕ} {rules : Rules} {banks : List ℕ} {keys : Keys} (tick line : ℕ) (outcome : Outcome n) (kept new : List Facts) (lines lines2 : List (CheckedLine n))
    → AreWithin rules → AreUsable keys → line < length banks → All (λ bank. bank < length kept) banks → length lines ≡ length banks → is_brief outcome ≡ true → tick < reach
    → length new ≡ length kept → lines2 ≡ lines → MayTake rules banks keys tick line outcome new lines2
may_take tick line outcome kept new lines lines2 limits usable within exist long brief reached size same = record {
  within = limits;
  usable = usable;
  listed = within;
  exist = λ i d lt. let e = exist i d lt in omega (arith, e, size);
  size = ap length same ∙ long;
  short = short_of_brief outcome brief;
  arrived = reached;
}

-- few reads wait
waits_few : {n : ℕ} (t : ℕ) (between rows : List (Row n)) → length (waiting t between rows) ≤ length rows
waits_few t between [] = omega arith
waits_few {n} t between (q ∷ rows) = by (awaits t between q) (waits_few t (q ∷ between) rows)
  where
    by : (b : Bool) → length (waiting t (q ∷ between) rows) ≤ length rows → length (cond b (q ∷ waiting t (q ∷ between) rows) (waiting t (q ∷ between) rows)) ≤ suc (length rows)
    by true le = omega (arith, le)
    by false le = omega (arith, le)

of_bank_few : {n : ℕ} (bank_of : ℕ → ℕ) (bank : ℕ) (rows : List (Row n)) → length (of_bank bank_of bank rows) ≤ length rows
of_bank_few bank_of bank [] = omega arith
of_bank_few {n} bank_of bank (q ∷ rows) = by (is_of bank_of bank q.asks) (of_bank_few bank_of bank rows)
  where
    by : (b : Bool) → length (of_bank bank_of bank rows) ≤ length rows → length (cond b (q ∷ of_bank bank_of bank rows) (of_bank bank_of bank rows)) ≤ suc (length rows)
    by true le = omega (arith, le)
    by false le = omega (arith, le)

-- a read may be judged
module _ {n : ℕ} (rules : Rules) (banks : List ℕ) (tick bank : ℕ) (kept : List Facts) (joined : Option ℕ) (before : List (Row n)) (k : Knows rules banks tick kept joined before) where
  pub fourth_below : tick < reach → IfSome (facts_in kept bank).fourth (λ came_at. came_at < reach)
  fourth_below below = by (facts_in kept bank).fourth refl
    where
      by : (o : Option ℕ) → (facts_in kept bank).fourth ≡ o → IfSome o (λ came_at. came_at < reach)
      by None is = tt
      by (Some d) is =
          let s = k.passed.stand bank in
          let low = k.passed.by bank in
          let le = came_below (k.at bank) (of_bank (bank_in banks) bank before) s.passed 3 d (sym s.four.at_4 ∙ is) in
          omega (arith, le, low, below)

  pub few_wait : tick < never → length before ≤ 400000 → length (settled tick (facts_in kept bank)).waits + (settled tick (facts_in kept bank)).lost ≤ 400000
  few_wait below few =
      let f = settled tick (facts_in kept bank) in
      let s = stands_later_law n (k.at bank) tick (of_bank (bank_in banks) bank before) (facts_in kept bank) (k.passed.by bank) below (k.passed.stand bank) in
      let number = (numbers_law n tick (of_bank (bank_in banks) bank before) f.members f.waits f.lost f.last_answer f.last_store s.finds.kept).reads in
      let a = waits_few tick [] (of_bank (bank_in banks) bank before) in
      let b = of_bank_few (bank_in banks) bank before in
      omega (arith, number, a, b, few)
