-- The row that a verdict names: those before it keep all rules, and ticks don't fall.
use Rattle.std.proofs.Common.{◌≡◌, ℕ, ◌-◌, ◌^◌, ◌<◌, ◌≤◌, ◌&&◌, Bool, true, false, List, [], ◌∷◌, ◌++◌, Some, length, take, drop, refl, sym, ap, ◌∙◌, subst, cond, arith}
use Rattle.std.{specs.List.list_all, specs.Prelude.{All, reverse}, proofs.Math.Seq.take-append_seam, proofs.lemmas.Bool.{le-leb, leb-true}, proofs.lemmas.List.reverse-reverse}
use Rattle.std.proofs.lemmas.List.Elements.{All-same, All-take}
use Rattle.masked_bytes.proofs.{Lists.turned, Truth.{and_first, and_second}}
use Rattle.result_rows.specs.declared.Outcome.{Outcome}
use Rattle.row_rules.specs.{Lines.IsOfLines, Rows.each_row, declared.Row.Row, declared.Rules.Rules}
use Rattle.trace_reader.{specs.Events.AreEventsFor, specs.declared.event.Event.Event, proofs.Lawful.lawful-first}
use Rattle.trace_rows.{specs.Rows.rows_with, proofs.Lines.lines-exist}
use Rattle.result_check.specs.Checkable.{IsCheckable}
use Rattle.check_judging.specs.Rising.{rising}
use Rattle.check_verdict.specs.{Fitting.all_brief, Verdicts.{all_rules, broken_by, keeps, keeps_all, verdict_of}, declared.Rule.Rule, declared.Verdict.TheVariants.No}
use Rattle.check_verdict.proofs.Lowest.{verdict_law}
use Rattle.check_verdict.specs.declared.Rule.TheVariants as rule
use Rattle.clause_telling.specs.Rooms.{HadRoom}
use Rattle.verdict_telling.{specs.Explained.{IsTold, MayTell}, proofs.Tables.{brief_front, brief_rows, one_of, parts_long, rest_of, rows_long, ticks_below}}

pub rises_from : {n : ℕ} (lines before : ℕ) (events : List (Event n)) (outcomes : List (Outcome n)) → AreEventsFor lines before events → rising before (rows_with events outcomes) ≡ true
rises_from lines before [] outcomes h = refl
rises_from lines before (e ∷ events) [] h = refl
rises_from lines before (e ∷ events) (o ∷ outcomes) h =
    let f = lawful-first lines before e events h in
    ap (λ b. b && rising e.tick (rows_with events outcomes)) (le-leb before e.tick f.0.rises) ∙ rises_from lines e.tick events outcomes f.1

module _ {n : ℕ} where
  -- behind a row of those whose ticks don't fall
  rising_behind : (t : ℕ) (xs : List (Row n)) (q : Row n) (ys : List (Row n)) → rising t (xs ++ q ∷ ys) ≡ true → rising q.tick ys ≡ true
  rising_behind t [] q ys h = and_second _ _ h
  rising_behind t (x ∷ xs) q ys h = rising_behind x.tick xs q ys (and_second _ _ h)

  drop_split : (xs : List (Row n)) (ys : List (Row n)) → drop (length xs) (xs ++ ys) ≡ ys
  drop_split [] ys = refl
  drop_split (x ∷ xs) ys = drop_split xs ys

  breaks_it : (rules : Rules) (banks : List ℕ) (some : List Rule) (one : Rule) (before : List (Row n)) (r : Row n) (after : List (Row n))
      → broken_by rules banks some before r after ≡ Some one → keeps banks rules one before r after ≡ false
  breaks_it rules banks [] one before r after h = absurd (cc)
  breaks_it rules banks (other ∷ some) one before r after h = step (keeps banks rules other before r after) refl h (breaks_it rules banks some one before r after)
    where
      step : (b : Bool) → keeps banks rules other before r after ≡ b → cond b (broken_by rules banks some before r after) (Some other) ≡ Some one
          → (broken_by rules banks some before r after ≡ Some one → keeps banks rules one before r after ≡ false) → keeps banks rules one before r after ≡ false
      step true is k ih = ih k
      step false is k ih = let same : other ≡ one = cc in subst (λ x. keeps banks rules x before r after ≡ false) same is

  -- those before a row keep the rule on room
  had_room : (rules : Rules) (banks : List ℕ) (rows below : List (Row n)) (one : Row n) (after : List (Row n)) → rows ≡ reverse below ++ one ∷ after → rising 0 rows ≡ true
      → All (λ r. IsOfLines (length banks) r.asks) rows → each_row (keeps_all rules banks) below (one ∷ after) ≡ true → HadRoom rules banks one.tick below
  had_room rules banks rows [] one after split rises lines kept = tt
  had_room rules banks rows (p ∷ below) one after split rises lines kept =
      let there : rows ≡ reverse below ++ p ∷ one ∷ after = split ∙ turned p below (one ∷ after) in
      let up = rising_behind 0 (reverse below) p (one ∷ after) (ap (rising 0) (sym there) ∙ rises) in
      let here : drop (length (reverse below)) rows ≡ p ∷ one ∷ after = ap (drop (length (reverse below))) there ∙ drop_split (reverse below) (p ∷ one ∷ after) in
      let all : list_all (λ x. keeps banks rules x below p (one ∷ after)) all_rules ≡ true = and_first _ _ kept in
      let queue : keeps banks rules rule.Queue below p (one ∷ after) ≡ true = and_first _ _ (and_second _ _ all) in (
        leb-true p.tick one.tick (and_first _ _ up),
        (one_of (λ (r : Row n). IsOfLines (length banks) r.asks) rows (length (reverse below)) p (one ∷ after) here lines, and_first _ _ queue),
      )

  pub may_tell : (rules : Rules) (banks : List ℕ) (rows : List (Row n)) (row : ℕ) (rule : Rule) (before : List (Row n)) (one : Row n) (after : List (Row n))
      → IsTold rules banks rows row rule → before ≡ take (row - 1) rows → drop (row - 1) rows ≡ one ∷ after → MayTell rules banks before one after rule
  may_tell rules banks rows row rule before one after told front here =
      let low = (verdict_law n rules banks rows).1 row rule told.named in
      let number = low.number in
      let place : row - 1 ≡ length low.below = omega (arith, number) in
      let below : before ≡ low.below = front ∙ ap (λ k. take k rows) place ∙ ap (take (length low.below)) low.split ∙ take-append_seam low.below (low.broken ∷ low.above) in
      let rest : one ∷ after ≡ low.broken ∷ low.above = sym here ∙ ap (λ k. drop k rows) place ∙ ap (drop (length low.below)) low.split ∙ drop_split low.below (low.broken ∷ low.above) in
      let is_one : low.broken ≡ one = head_same (sym rest) in
      let is_after : low.above ≡ after = tail_same (sym rest) in
      let split : rows ≡ before ++ one ∷ after = low.split ∙ ap (λ xs. xs ++ low.broken ∷ low.above) (sym below) ∙ ap (λ xs. before ++ xs) (sym rest) in
      let turned_split : rows ≡ reverse (reverse before) ++ one ∷ after = split ∙ ap (λ xs. xs ++ one ∷ after) (sym (reverse-reverse before)) in
      let kept : each_row (keeps_all rules banks) (reverse before) (one ∷ after) ≡ true
      = ap (λ xs. each_row (keeps_all rules banks) (reverse xs) (one ∷ after)) below ∙ ap (each_row (keeps_all rules banks) (reverse low.below)) rest ∙ low.kept in
      let broken : broken_by rules banks all_rules (reverse before) one after ≡ Some rule
      = ap (λ xs. broken_by rules banks all_rules (reverse xs) one after) below
      ∙ ap (λ q. broken_by rules banks all_rules (reverse low.below) q after) (sym is_one)
      ∙ ap (broken_by rules banks all_rules (reverse low.below) low.broken) (sym is_after) ∙ low.first in
      let long = parts_long rows (row - 1) one after here in
      let size = ap length front in
      let few = told.few in
      record {
        limits = told.limits;
        few = omega (arith, long, size, few);
        own = one_of (λ (r : Row n). IsOfLines (length banks) r.asks) rows (row - 1) one after here told.lines;
        past = All-same (λ (r : Row n). IsOfLines (length banks) r.asks) before (take (row - 1) rows) front (All-take (λ (r : Row n). IsOfLines (length banks) r.asks) (row - 1) rows told.lines);
        later = rest_of (λ (r : Row n). IsOfLines (length banks) r.asks) rows (row - 1) one after here told.lines;
        tick = one_of (λ (r : Row n). r.tick < 2 ^ 50) rows (row - 1) one after here told.ticks;
        brief = ap all_brief front ∙ brief_front (row - 1) rows told.brief;
        breaks = breaks_it rules banks all_rules rule (reverse before) one after broken;
        had = had_room rules banks rows (reverse before) one after turned_split told.rises told.lines kept;
        rises = rising_behind 0 before one after (ap (rising 0) (sym split) ∙ told.rises);
      }
    where
      head_same : {x y : Row n} {xs ys : List (Row n)} → x ∷ xs ≡ y ∷ ys → x ≡ y
      head_same h = cc

      tail_same : {x y : Row n} {xs ys : List (Row n)} → x ∷ xs ≡ y ∷ ys → xs ≡ ys
      tail_same h = cc

-- a table of which the verdict names a row is that of what may be checked
pub is_told : {n : ℕ} (events : List (Event n)) (outcomes : List (Outcome n)) (banks : List ℕ) (rules : Rules) (row : ℕ) (rule : Rule) (rows : List (Row n))
    → rows ≡ rows_with events outcomes → IsCheckable events outcomes banks rules → verdict_of rules banks (rows_with events outcomes) ≡ No row rule
    → IsTold rules banks rows row rule
is_told events outcomes banks rules row rule rows same may named =
    let long = rows_long events outcomes may.rows in
    let few : length events ≤ 400000 = may.few in
    subst (λ xs. IsTold rules banks xs row rule) (sym same)
    (record {
      limits = may.within;
      few = omega (arith, long, few);
      lines = lines-exist (length banks) 0 events outcomes may.lawful;
      brief = brief_rows events outcomes may.timed;
      ticks = ticks_below (length banks) 0 events outcomes may.lawful;
      rises = rises_from (length banks) 0 events outcomes may.lawful;
      named = named;
    })
