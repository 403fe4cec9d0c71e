-- That what a printer was told comes of the bank of a line, or bank by bank.
use Rattle.std.proofs.Common.{◌≡◌, ◌⊎◌, ℕ, zero, suc, ◌-◌, ◌<◌, ◌≤◌, ◌==◌, ◌||◌, Bool, true, false, List, [], ◌∷◌, ◌++◌, length, replicate, Option, Some, inl, inr, refl, sym, ap, subst, ◌∙◌, eqb-true, eq-eqb, append_assoc, arith}
use Rattle.std.{specs.Prelude.{All, unwrap_or}, proofs.lemmas.Bool.or_from, proofs.lemmas.List.{append-nil, length-replicate, get_or-replicate}}
use Rattle.std.proofs.{lemmas.List.Elements.{All-nil, All-cons, All-weaker}, lemmas.Option.slice_get-get_or}
use Rattle.masked_bytes.proofs.Truth.{neither_first, neither_second}
use Rattle.trace_reader.specs.declared.event.Event.{Event}
use Rattle.result_rows.{specs.Table.{HasRow, outcome_at, with_outcome}, specs.declared.Outcome.Outcome, proofs.TableLemmas.{length-with_outcome, outcome_at-with_outcome}}
use Rattle.row_rules.specs.Answers.{is_queued}
use Rattle.bank_timing.specs.{Extending.outcome_in, Telling.{IsKnownAt, Tells, TellsBy, TellsInTurn}}
use Rattle.module_shape.specs.declared.raw.RawShape.{RawShape}
use Rattle.right_runs.specs.Banks.{bank_of_line}
use Rattle.pcm_module.specs.{Asking.asked_for, Telling.{TellsOf, TellsByBanks, TellsInOrder, is_asked_of}}
use Rattle.row_printer.specs.{Printing.{Printing, PrintsOn, table_told}, Telling.{became, outcomes_in, recorded, tells, TellsOnce}, declared.told.Told.Told}
use Rattle.row_printer.{specs.declared.told.Told.TheVariants.{Became, Bank, Looked, Peeked, Settled}, proofs.Once.{open-untold, stays-told}, proofs.Telling.length-recorded}
use Rattle.row_stream.{specs.Serving.{ComeByBanks, ComeBehind, ComeInTurn, ComeOfBank}, proofs.Each.some-at, proofs.Growing.none}
use Rattle.row_stream.proofs.InTurn.{EachSo, Within, by-tick, each-all, from-first, within-both, within-later, within-one}

pub in_rest : (a b : Bool) → b ≡ true → (a || b) ≡ true
in_rest true b is = refl
in_rest false b is = is

module _ {n : ℕ} where
  outcomes-became : (told : List (Told n)) (outcomes : List (ℕ × Outcome n)) → outcomes_in (told ++ became outcomes) ≡ outcomes_in told ++ outcomes
  outcomes-became [] [] = refl
  outcomes-became [] (one ∷ outcomes) = ap (λ (rest : List (ℕ × Outcome n)). one ∷ rest) (outcomes-became [] outcomes)
  outcomes-became (Became row outcome ∷ told) outcomes = ap (λ (rest : List (ℕ × Outcome n)). (row, outcome) ∷ rest) (outcomes-became told outcomes)
  outcomes-became (Bank tick backlog ∷ told) outcomes = outcomes-became told outcomes
  outcomes-became (Looked tick wear ∷ told) outcomes = outcomes-became told outcomes
  outcomes-became (Peeked tick newest ∷ told) outcomes = outcomes-became told outcomes
  outcomes-became (Settled tick ∷ told) outcomes = outcomes-became told outcomes

  became-both : (xs ys : List (ℕ × Outcome n)) → became (xs ++ ys) ≡ became xs ++ became ys
  became-both [] ys = refl
  became-both (one ∷ xs) ys = ap (λ (rest : List (Told n)). Became one.0 one.1 ∷ rest) (became-both xs ys)

  tells-right : (xs ys : List (ℕ × Outcome n)) (row : ℕ) → tells ys row ≡ true → tells (xs ++ ys) row ≡ true
  tells-right [] ys row is = is
  tells-right (x ∷ xs) ys row is = in_rest (x.0 == row) (tells (xs ++ ys) row) (tells-right xs ys row is)

  untold-left : (xs ys : List (ℕ × Outcome n)) (row : ℕ) → tells (xs ++ ys) row ≡ false → tells xs row ≡ false
  untold-left [] ys row is = refl
  untold-left (x ∷ xs) ys row is =
      or_from (x.0 == row) (tells xs row) (neither_first (x.0 == row) (tells (xs ++ ys) row) is) (untold-left xs ys row (neither_second (x.0 == row) (tells (xs ++ ys) row) is))

  once-left : (most : ℕ) (xs ys : List (ℕ × Outcome n)) → TellsOnce most (xs ++ ys) → TellsOnce most xs
  once-left most [] ys once = tt
  once-left most (x ∷ xs) ys once = (once.0, once.1, once.2, untold-left xs ys x.0 once.3, once-left most xs ys once.4)

  -- a row that is told later wasn't told before
  later-untold : (most : ℕ) (xs ys : List (ℕ × Outcome n)) (row : ℕ) → TellsOnce most (xs ++ ys) → tells ys row ≡ true → tells xs row ≡ false
  later-untold most [] ys row once is = refl
  later-untold most (x ∷ xs) ys row once is = or_from (x.0 == row) (tells xs row) (by (x.0 == row) (eqb-true x.0 row)) (later-untold most xs ys row once.4 is)
    where
      by : (b : Bool) → (b ≡ true → x.0 ≡ row) → b ≡ false
      by true same =
          let no_way : false ≡ true = sym once.3 ∙ subst (λ (r : ℕ). tells (xs ++ ys) r ≡ true) (sym (same refl)) (tells-right xs ys row is) in absurd (cc no_way)
      by false same = refl

  -- a row that is told is one of the table
  told-within : (most : ℕ) (told : List (ℕ × Outcome n)) (row : ℕ) → TellsOnce most told → tells told row ≡ true → (1 ≤ row) × (row ≤ most)
  told-within most [] row once is = absurd (cc is)
  told-within most (x ∷ told) row once is = by (x.0 == row) (eqb-true x.0 row) (told-within most told row once.4) is
    where
      by : (b : Bool) → (b ≡ true → x.0 ≡ row) → (tells told row ≡ true → (1 ≤ row) × (row ≤ most)) → (b || tells told row) ≡ true → (1 ≤ row) × (row ≤ most)
      by true same rest is = subst (λ (r : ℕ). (1 ≤ r) × (r ≤ most)) (same refl) (once.0, once.1)
      by false same rest is = rest is

  each-told : (P : ℕ → Type 0) (told : List (ℕ × Outcome n)) → ((row : ℕ) → tells told row ≡ true → P row) → All (λ one. P one.0) told
  each-told P [] so = All-nil (λ (one : ℕ × Outcome n). P one.0)
  each-told P (x ∷ told) so =
      All-cons (λ (one : ℕ × Outcome n). P one.0) x told (so x.0 (ap (λ b. b || tells told x.0) (eq-eqb x.0 x.0 refl)))
      (each-told P told (λ row is. so row (in_rest (x.0 == row) (tells told row) is)))

  abbrev table : ℕ → List (ℕ × Outcome n) → List (Outcome n)
  table most told = recorded told (replicate most none)

  -- a table has of each row what was told of it
  abbrev EachIs : List (Outcome n) → List (ℕ × Outcome n) → Type 0
  EachIs now [] = Unit {0}
  EachIs now (one ∷ told) = (outcome_in now one.0 ≡ one.1) × EachIs now told

  each-is : (most : ℕ) (told : List (ℕ × Outcome n)) (before : List (Outcome n)) → TellsOnce most told → length before ≡ most → EachIs (recorded told before) told
  each-is most [] before once size = tt
  each-is most (one ∷ told) before once size =
      let next : List (Outcome n) = with_outcome before one.0 one.1 in
      let same : length next ≡ most = length-with_outcome before one.0 one.1 ∙ size in
      let was : HasRow before one.0 = record { above = once.0; within = subst (λ (k : ℕ). one.0 ≤ k) (sym size) once.1 } in
      let has : HasRow next one.0 = record { above = once.0; within = subst (λ (k : ℕ). one.0 ≤ k) (sym same) once.1 } in
      let is : outcome_at (recorded told next) one.0 ≡ Some one.1 = stays-told most told next one.0 once.4 same has once.3 ∙ outcome_at-with_outcome before one.0 one.1 was in
      (ap (λ (o : Option (Outcome n)). unwrap_or o none) is, each-is most told next once.4 same)

  each-right : (now : List (Outcome n)) (xs ys : List (ℕ × Outcome n)) → EachIs now (xs ++ ys) → EachIs now ys
  each-right now [] ys each = each
  each-right now (x ∷ xs) ys each = each-right now xs ys each.1

  each-so : (Are : Outcome n → Type 0) (now : List (Outcome n)) (told : List (ℕ × Outcome n)) → EachIs now told → ((row : ℕ) → tells told row ≡ true → Are (outcome_in now row)) → EachSo Are told
  each-so Are now [] each so = tt
  each-so Are now (one ∷ told) each so = (
    subst (λ (o : Outcome n). Are o) each.0 (so one.0 (ap (λ b. b || tells told one.0) (eq-eqb one.0 one.0 refl))),
    each-so Are now told each.1 (λ row is. so row (in_rest (one.0 == row) (tells told row) is)),
  )

  module _ (most : ℕ) (xs ys : List (ℕ × Outcome n)) (once : TellsOnce most (xs ++ ys)) where
    abbrev blank : List (Outcome n)
    blank = replicate most none

    size : length blank ≡ most
    size = length-replicate most none

    there : (row : ℕ) (told : List (ℕ × Outcome n)) → (1 ≤ row) × (row ≤ most) → HasRow (table most told) row
    there row told within = record { above = within.0; within = subst (λ (k : ℕ). row ≤ k) (sym (length-recorded told blank ∙ size)) within.1 }

    clash : (row : ℕ) → tells ys row ≡ true → outcome_in (table most (xs ++ ys)) row ≡ outcome_in (table most xs) row → ⊥
    clash row is same =
        let within : (1 ≤ row) × (row ≤ most) = told-within most (xs ++ ys) row once (tells-right xs ys row is) in
        let at_first : HasRow blank row = there row [] within in
        let below : row - 1 < most = omega (arith, within.0, within.1) in
        let here : row - 1 < length blank = rw size below in
        let was : outcome_at blank row ≡ Some none = slice_get-get_or blank (row - 1) none here ∙ ap Some (get_or-replicate most (row - 1) none none below) in
        let before : outcome_at (table most xs) row ≡ Some none = stays-told most xs blank row (once-left most xs ys once) size at_first (later-untold most xs ys row once is) ∙ was in
        let unset : outcome_in (table most (xs ++ ys)) row ≡ none = same ∙ ap (λ (o : Option (Outcome n)). unwrap_or o none) before in
        let now = some-at (table most (xs ++ ys)) (row - 1) (let w = there row (xs ++ ys) within in omega (arith, w.above, w.within)) in
        let still : outcome_at (table most (xs ++ ys)) row ≡ Some none = now.1 ∙ ap Some (sym (ap (λ (o : Option (Outcome n)). unwrap_or o none) now.1) ∙ unset) in
        let untold : tells (xs ++ ys) row ≡ false = open-untold most (xs ++ ys) blank row once size at_first still in
        let no_way : false ≡ true = sym untold ∙ tells-right xs ys row is in
        cc no_way

    stood : (row : ℕ) → tells ys row ≡ true → HasRow (table most xs) row
    stood row is = there row xs (told-within most (xs ++ ys) row once (tells-right xs ys row is))

    -- where a table changes in these rows alone, outcomes of these alone were told
    told-of : (rows : ℕ → Bool)
        → ((row : ℕ) → HasRow (table most xs) row → rows row ≡ false → outcome_in (table most (xs ++ ys)) row ≡ outcome_in (table most xs) row)
        → All (λ one. rows one.0 ≡ true) ys
    told-of rows others = each-told (λ row. rows row ≡ true) ys (λ row is. by row is (rows row) (others row))
      where
        by : (row : ℕ) → tells ys row ≡ true → (b : Bool) → (HasRow (table most xs) row → b ≡ false → outcome_in (table most (xs ++ ys)) row ≡ outcome_in (table most xs) row) → b ≡ true
        by row is true same = refl
        by row is false same = absurd (clash row is (same (stood row is) refl))

    -- where all that changes in a table is of a kind, all that was told is
    told-are : (Are : Outcome n → Type 0)
        → ((row : ℕ) → HasRow (table most xs) row
        → (outcome_in (table most (xs ++ ys)) row ≡ outcome_in (table most xs) row) ⊎ Are (outcome_in (table most (xs ++ ys)) row))
        → EachSo Are ys
    told-are Are changes =
        each-so Are (table most (xs ++ ys)) ys (each-right (table most (xs ++ ys)) xs ys (each-is most (xs ++ ys) blank once size)) (λ row is. by row is (changes row (stood row is)))
      where
        by : (row : ℕ) → tells ys row ≡ true
            → ((outcome_in (table most (xs ++ ys)) row ≡ outcome_in (table most xs) row) ⊎ Are (outcome_in (table most (xs ++ ys)) row)) → Are (outcome_in (table most (xs ++ ys)) row)
        by row is (inl same) = absurd (clash row is same)
        by row is (inr are) = are

-- outcomes were told that are so
pub record ToldSo {n : ℕ} (Are : List (ℕ × Outcome n) → Type 0) (old new : List (Told n)) : Type 0 where
  pub outcomes : List (ℕ × Outcome n)
  pub told : new ≡ old ++ became outcomes
  pub are : Are outcomes

pub told-both : {n : ℕ} (old between new : List (Told n)) (xs ys : List (ℕ × Outcome n)) → between ≡ old ++ became xs → new ≡ between ++ became ys → new ≡ old ++ became (xs ++ ys)
told-both {n = n} old between new xs ys first second =
    second ∙ ap (λ (t : List (Told n)). t ++ became ys) first ∙ append_assoc old (became xs) (became ys) ∙ ap (λ (t : List (Told n)). old ++ t) (sym (became-both xs ys))

module _ {n : ℕ} {S : Type 0} (written : S → Option (List ℕ)) (faults : S → ℕ) where
  abbrev Once : Printing n S → Type 0
  Once p = TellsOnce p.rows (outcomes_in p.told)

  -- what was told between two printers
  outcomes-on : (old new : Printing n S) (on : PrintsOn written faults old new) → outcomes_in new.told ≡ outcomes_in old.told ++ on.added
  outcomes-on old new on = ap outcomes_in on.told ∙ outcomes-became old.told on.added

  once-before : (old new : Printing n S) → PrintsOn written faults old new → Once new → Once old
  once-before old new on once =
      subst (λ (most : ℕ). TellsOnce most (outcomes_in old.told)) on.rows
      (once-left new.rows (outcomes_in old.told) on.added (subst (λ (told : List (ℕ × Outcome n)). TellsOnce new.rows told) (outcomes-on old new on) once))

  own-told : {ends : Bool} (rows : ℕ → Bool) (old new : Printing n S) (outcomes : List (ℕ × Outcome n)) → new.told ≡ old.told ++ became outcomes → Once new
      → (of : TellsOf (PrintsOn written faults) table_told ends rows old new) → All (λ one. rows one.0 ≡ true) outcomes
  own-told rows old new outcomes told once of =
      let whole = ap outcomes_in told ∙ outcomes-became old.told outcomes in
      told-of new.rows (outcomes_in old.told) outcomes
      (subst (λ (told : List (ℕ × Outcome n)). TellsOnce new.rows told) whole once) rows
      (subst (λ (told : List (ℕ × Outcome n)). (row : ℕ) → HasRow (table new.rows (outcomes_in old.told)) row → rows row ≡ false → outcome_in (table new.rows told) row ≡ outcome_in (table new.rows (outcomes_in old.told)) row) whole
      (subst (λ (most : ℕ). (row : ℕ) → HasRow (table most (outcomes_in old.told)) row → rows row ≡ false → outcome_in (table_told new) row ≡ outcome_in (table most (outcomes_in old.told)) row) (sym of.on.rows) of.others))

  -- what was told of a kind is of that kind
  kind-told : (Are : Outcome n → Type 0) (old new : Printing n S) → Once new → (of : Tells (PrintsOn written faults) table_told Are old new) → EachSo Are of.on.added
  kind-told Are old new once of =
      let whole = outcomes-on old new of.on in
      told-are new.rows (outcomes_in old.told) of.on.added
      (subst (λ (told : List (ℕ × Outcome n)). TellsOnce new.rows told) whole once) Are
      (subst (λ (told : List (ℕ × Outcome n)). (row : ℕ) → HasRow (table new.rows (outcomes_in old.told)) row
      → (outcome_in (table new.rows told) row ≡ outcome_in (table new.rows (outcomes_in old.told)) row) ⊎ Are (outcome_in (table new.rows told) row)) whole
      (subst (λ (most : ℕ). (row : ℕ) → HasRow (table most (outcomes_in old.told)) row
      → (outcome_in (table_told new) row ≡ outcome_in (table most (outcomes_in old.told)) row) ⊎ Are (outcome_in (table_told new) row)) (sym of.on.rows) of.rows))

  -- where each row of the table has the outcome that it had, or one of a kind, all that was told is of that kind
  pub are-told : (Are : Outcome n → Type 0) (old new : Printing n S) (outcomes : List (ℕ × Outcome n)) → new.told ≡ old.told ++ became outcomes → new.rows ≡ old.rows → Once new
      → ((row : ℕ) → HasRow (table_told old) row → (outcome_in (table_told new) row ≡ outcome_in (table_told old) row) ⊎ Are (outcome_in (table_told new) row))
      → All (λ one. Are one.1) outcomes
  are-told Are old new outcomes told rows once changes =
      let whole = ap outcomes_in told ∙ outcomes-became old.told outcomes in
      each-all Are outcomes
      (told-are new.rows (outcomes_in old.told) outcomes
      (subst (λ (told : List (ℕ × Outcome n)). TellsOnce new.rows told) whole once) Are
      (subst (λ (told : List (ℕ × Outcome n)). (row : ℕ) → HasRow (table new.rows (outcomes_in old.told)) row
      → (outcome_in (table new.rows told) row ≡ outcome_in (table new.rows (outcomes_in old.told)) row) ⊎ Are (outcome_in (table new.rows told) row)) whole
      (subst (λ (most : ℕ). (row : ℕ) → HasRow (table most (outcomes_in old.told)) row
      → (outcome_in (table_told new) row ≡ outcome_in (table most (outcomes_in old.told)) row) ⊎ Are (outcome_in (table_told new) row)) (sym rows) changes)))

  -- what was told tick by tick comes in the order of its ticks
  come-by-tick : (times to : ℕ) (old new : Printing n S) → Once new → TellsBy (PrintsOn written faults) table_told times to old new → ToldSo (Within 0 to) old.told new.told
  come-by-tick zero to old new once same = record { outcomes = []; told = sym (ap (λ (p : Printing n S). p.told) same) ∙ sym (append-nil old.told); are = from-first to }
  come-by-tick (suc times) to old new once steps =
      let between = steps.0 in
      let tick = steps.1 in
      let of = steps.4 in
      let earlier = come-by-tick times tick old between (once-before between new of.on once) steps.3 in
      record {
        outcomes = earlier.outcomes ++ of.on.added;
        told = told-both old.told between.told new.told earlier.outcomes of.on.added earlier.told of.on.told;
        are = within-later 0 tick to (earlier.outcomes ++ of.on.added) steps.2
            (within-both 0 tick tick earlier.outcomes of.on.added earlier.are
            (within-one tick of.on.added (kind-told (λ (o : Outcome n). IsKnownAt tick o) between new once of)));
      }

  -- and in the end behind it what stays queued
  come-in-turn : (ends : Bool) (old new : Printing n S) → Once new → TellsInTurn (PrintsOn written faults) table_told ends old new → ToldSo (ComeInTurn ends) old.told new.told
  come-in-turn false old new once turn =
      let known = come-by-tick turn.first.times turn.to old turn.between (subst (λ (p : Printing n S). Once p) (sym turn.left) once) turn.first.steps in
      record {
        outcomes = known.outcomes;
        told = sym (ap (λ (p : Printing n S). p.told) turn.left) ∙ known.told;
        are = by-tick 0 turn.to known.outcomes known.are;
      }
  come-in-turn true old new once turn =
      let between = turn.between in
      let of = turn.left in
      let known = come-by-tick turn.first.times turn.to old between (once-before between new of.on once) turn.first.steps in
      record {
        outcomes = known.outcomes ++ of.on.added;
        told = told-both old.told between.told new.told known.outcomes of.on.added known.told of.on.told;
        are = (
          known.outcomes,
          of.on.added,
          refl,
          by-tick 0 turn.to known.outcomes known.are,
          each-all (λ (o : Outcome n). is_queued o ≡ true) of.on.added (kind-told (λ (o : Outcome n). is_queued o ≡ true) between new once of),
        );
      }

  -- what was told of rows of one bank comes of it
  pub come-of-bank : (raw : RawShape) (seed : ℕ) (ends : Bool) (events : List (Event n)) (bank : ℕ) (rows : ℕ → Bool)
      → ((row : ℕ) → rows row ≡ true → is_asked_of (bank_of_line raw seed) bank (asked_for events) row ≡ true)
      → (old new : Printing n S) → Once new → TellsOf (PrintsOn written faults) table_told ends rows old new → ToldSo (ComeOfBank raw seed ends events bank) old.told new.told
  come-of-bank raw seed ends events bank rows asked old new once of =
      let turn = come-in-turn ends old new once of.in_turn in
      record {
        outcomes = turn.outcomes;
        told = turn.told;
        are = (
          All-weaker (λ (one : ℕ × Outcome n). rows one.0 ≡ true) (λ (one : ℕ × Outcome n). is_asked_of (bank_of_line raw seed) bank (asked_for events) one.0 ≡ true)
              (λ one is. asked one.0 is) turn.outcomes (own-told rows old new turn.outcomes turn.told once of),
          turn.are,
        );
      }

  module _ (raw : RawShape) (seed : ℕ) (events : List (Event n)) (rows : ℕ → ℕ → Bool)
      (asked : (bank : ℕ) → bank < raw.banks → (row : ℕ) → rows bank row ≡ true → is_asked_of (bank_of_line raw seed) bank (asked_for events) row ≡ true) where
    -- what was told bank by bank comes so
    pub come-by-banks : (ends : Bool) (banks : ℕ) (old new : Printing n S) → banks ≤ raw.banks → Once new → TellsByBanks (PrintsOn written faults) table_told ends rows banks old new
        → ToldSo (ComeByBanks raw seed ends events banks) old.told new.told
    come-by-banks ends zero old new few once same = record { outcomes = []; told = sym (ap (λ (p : Printing n S). p.told) same) ∙ sym (append-nil old.told); are = refl }
    come-by-banks ends (suc bank) old new few once order =
        let between = order.0 in
        let of = order.2 in
        let earlier = come-by-banks ends bank old between (omega (arith, few)) (once-before between new of.on once) order.1 in
        let own = come-of-bank raw seed ends events bank (rows bank) (asked bank (omega (arith, few))) between new once of in
        record {
          outcomes = earlier.outcomes ++ own.outcomes;
          told = told-both old.told between.told new.told earlier.outcomes own.outcomes earlier.told own.told;
          are = (earlier.outcomes, own.outcomes, refl, earlier.are, own.are);
        }

    -- so does what was told of a row that was taken
    pub come-in-order : (row : ℕ) (old new : Printing n S) → Once new → TellsInOrder (PrintsOn written faults) table_told rows raw.banks row old new
        → ToldSo (ComeBehind raw seed events row) old.told new.told
    come-in-order row old new once order =
        let between = order.0 in
        let of = order.2 in
        let banks = come-by-banks false raw.banks old between (omega arith) (once-before between new of.on once) order.1 in
        record {
          outcomes = banks.outcomes ++ of.on.added;
          told = told-both old.told between.told new.told banks.outcomes of.on.added banks.told of.on.told;
          are = (
            banks.outcomes,
            of.on.added,
            refl,
            banks.are,
            All-weaker (λ (one : ℕ × Outcome n). (row == one.0) ≡ true) (λ (one : ℕ × Outcome n). one.0 ≡ row)
                (λ one is. sym (eqb-true row one.0 is)) of.on.added (own-told (λ other. row == other) between new of.on.added of.on.told once of),
          );
        }
