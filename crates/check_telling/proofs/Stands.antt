-- Which of a bank's rows stand or wait, found the oldest first.
use Rattle.std.proofs.Common.{◌≡◌, ℕ, Bool, true, false, List, [], ◌∷◌, ◌++◌, refl, sym, ap, ◌∙◌, cond}
use Rattle.std.{specs.Prelude.{All, filter, reverse}, proofs.lemmas.List.{reverse-append, map-append, append-nil}}
use Rattle.std.proofs.lemmas.List.Elements.{All-filter, All-head, All-nil, All-push, All-same, All-tail}
use Rattle.masked_bytes.proofs.Lists.{turned}
use Rattle.row_rules.specs.{Queueing.{stands, pending, awaits, waiting}, declared.Row.Row}
use Rattle.check_judging.{specs.Steps.{stays_behind, waits_behind}, proofs.Steps.step_law}
use Rattle.check_verdict.proofs.Settles.{filter-reverse}
use Rattle.check_telling.specs.{Standing.{row_of, rows_of, IsNumbered, AreNumbered, with_write, with_read}, declared.mates.Numbered.Numbered}

module _ {n : ℕ} where
  -- a filter by rows alone
  kept : (f : Row n → Bool) (told : List (Numbered n)) → rows_of (filter (λ one. f one.row) told) ≡ filter f (rows_of told)
  kept f [] = refl
  kept f (one ∷ told) = by (f one.row) (kept f told)
    where
      by : (b : Bool) → rows_of (filter (λ one. f one.row) told) ≡ filter f (rows_of told)
          → rows_of (cond b (one ∷ filter (λ one. f one.row) told) (filter (λ one. f one.row) told)) ≡ cond b (one.row ∷ filter f (rows_of told)) (filter f (rows_of told))
      by true h = ap (λ xs. one.row ∷ xs) h
      by false h = h

  -- with one row more, of which a test says whether it joins
  joined : (joins : Bool) (f : Row n → Bool) (new : Numbered n) (told : List (Numbered n)) (these : List (Row n)) → rows_of told ≡ reverse these
      → rows_of (cond joins (filter (λ one. f one.row) told ++ new ∷ []) (filter (λ one. f one.row) told)) ≡ reverse (cond joins (new.row ∷ filter f these) (filter f these))
  joined true f new told these are =
      map-append row_of (filter (λ one. f one.row) told) (new ∷ [])
      ∙ ap (λ xs. xs ++ new.row ∷ []) (kept f told ∙ ap (filter f) are ∙ filter-reverse f these)
      ∙ sym (reverse-append (new.row ∷ []) (filter f these))
  joined false f new told these are = kept f told ∙ ap (filter f) are ∙ filter-reverse f these

  -- these, the oldest first, come one after another
  abbrev pub standing_on : ℕ → List (Numbered n) → List (Numbered n) → List (Numbered n)
  standing_on tick told [] = told
  standing_on tick told (one ∷ past) = standing_on tick (with_write tick one told) past

  abbrev pub waiting_on : ℕ → List (Numbered n) → List (Numbered n) → List (Numbered n)
  waiting_on tick told [] = told
  waiting_on tick told (one ∷ past) = waiting_on tick (with_read tick one told) past

  standing_are : (tick : ℕ) (past told : List (Numbered n)) (before : List (Row n)) → rows_of told ≡ reverse (pending tick [] before)
      → rows_of (standing_on tick told past) ≡ reverse (pending tick [] (reverse (rows_of past) ++ before))
  standing_are tick [] told before are = are
  standing_are tick (one ∷ past) told before are =
      standing_are tick past (with_write tick one told) (one.row ∷ before)
      (joined (stands tick [] one.row) (stays_behind one.row) one told (pending tick [] before) are ∙ ap reverse (sym (step_law n tick one.row before).writes))
      ∙ ap (λ xs. reverse (pending tick [] xs)) (sym (turned one.row (rows_of past) before))

  waiting_are : (tick : ℕ) (past told : List (Numbered n)) (before : List (Row n)) → rows_of told ≡ reverse (waiting tick [] before)
      → rows_of (waiting_on tick told past) ≡ reverse (waiting tick [] (reverse (rows_of past) ++ before))
  waiting_are tick [] told before are = are
  waiting_are tick (one ∷ past) told before are =
      waiting_are tick past (with_read tick one told) (one.row ∷ before)
      (joined (awaits tick [] one.row) (waits_behind one.row) one told (waiting tick [] before) are ∙ ap reverse (sym (step_law n tick one.row before).reads))
      ∙ ap (λ xs. reverse (waiting tick [] xs)) (sym (turned one.row (rows_of past) before))

  -- all that is told is of what came
  joins_all : (P : Numbered n → Type 0) (joins : Bool) (f : Numbered n → Bool) (new : Numbered n) (told : List (Numbered n)) → P new → All P told
      → All P (cond joins (filter f told ++ new ∷ []) (filter f told))
  joins_all P true f new told p all = All-push P (filter f told) new (All-filter f P told all) p
  joins_all P false f new told p all = All-filter f P told all

  standing_all : (P : Numbered n → Type 0) (tick : ℕ) (past told : List (Numbered n)) → All P past → All P told → All P (standing_on tick told past)
  standing_all P tick [] told of all = all
  standing_all P tick (one ∷ past) told of all =
      standing_all P tick past (with_write tick one told) (All-tail P one past of)
      (joins_all P (stands tick [] one.row) (λ old. stays_behind one.row old.row) one told (All-head P one past of) all)

  waiting_all : (P : Numbered n → Type 0) (tick : ℕ) (past told : List (Numbered n)) → All P past → All P told → All P (waiting_on tick told past)
  waiting_all P tick [] told of all = all
  waiting_all P tick (one ∷ past) told of all =
      waiting_all P tick past (with_read tick one told) (All-tail P one past of)
      (joins_all P (awaits tick [] one.row) (λ old. waits_behind one.row old.row) one told (All-head P one past of) all)

  pub standing_found : (tick : ℕ) (past told : List (Numbered n)) → told ≡ standing_on tick [] past → rows_of told ≡ reverse (pending tick [] (reverse (rows_of past)))
  standing_found tick past told is =
      ap rows_of is ∙ standing_are tick past [] [] refl ∙ ap (λ xs. reverse (pending tick [] xs)) (append-nil (reverse (rows_of past)))

  pub waiting_found : (tick : ℕ) (past told : List (Numbered n)) → told ≡ waiting_on tick [] past → rows_of told ≡ reverse (waiting tick [] (reverse (rows_of past)))
  waiting_found tick past told is =
      ap rows_of is ∙ waiting_are tick past [] [] refl ∙ ap (λ xs. reverse (waiting tick [] xs)) (append-nil (reverse (rows_of past)))

  pub standing_numbered : (tick above : ℕ) (table : List (Row n)) (past told : List (Numbered n)) → told ≡ standing_on tick [] past → AreNumbered above table past → AreNumbered above table told
  standing_numbered tick above table past told is of = All-same (λ one. IsNumbered above table one) told _ is (standing_all (λ one. IsNumbered above table one) tick past [] of (All-nil _))

  pub waiting_numbered : (tick above : ℕ) (table : List (Row n)) (past told : List (Numbered n)) → told ≡ waiting_on tick [] past → AreNumbered above table past → AreNumbered above table told
  waiting_numbered tick above table past told is of = All-same (λ one. IsNumbered above table one) told _ is (waiting_all (λ one. IsNumbered above table one) tick past [] of (All-nil _))
