-- The lines that were told up to that of a settle.
use Rattle.std.proofs.Common.{◌≡◌, ℕ, zero, suc, ◌+◌, List, [], ◌∷◌, ◌++◌, Some, refl, ap, arith}
use Rattle.cell_rows.specs.Device.{ArrayState}
use Rattle.result_rows.specs.declared.Outcome.{Outcome}
use Rattle.pcm_module.specs.State.{ModuleState, bank_at, stand_now}
use Rattle.row_printer.specs.{Telling.became, declared.told.PeekedLine.PeekedLine, declared.told.Told.Told, declared.told.Told.TheVariants.{Became, Bank, Looked, Peeked, Settled}}
use Rattle.trace_stream.specs.{declared.asked.Asked.Asked, declared.asked.Asked.TheVariants.{Happens, Settle, Query, Look, Peek, Until, UntilAny}}
use Rattle.row_stream.specs.{Answering.{backlog_of, banks_told}, Looking.wear_of, Serving.lines_of}
use Rattle.settle_laws.specs.Settles.{settled_at, settles_in, told_up_to}

module _ {n : ℕ} where
  -- how many of these lines are of settles
  abbrev pub settled-lines : List (Told n) → ℕ
  settled-lines [] = 0
  settled-lines (Became row outcome ∷ told) = settled-lines told
  settled-lines (Bank tick backlog ∷ told) = settled-lines told
  settled-lines (Looked tick wear ∷ told) = settled-lines told
  settled-lines (Peeked tick newest ∷ told) = settled-lines told
  settled-lines (Settled tick ∷ told) = suc (settled-lines told)

  pub settled-both : (xs ys : List (Told n)) → settled-lines (xs ++ ys) ≡ settled-lines xs + settled-lines ys
  settled-both [] ys = omega arith
  settled-both (Became row outcome ∷ xs) ys = settled-both xs ys
  settled-both (Bank tick backlog ∷ xs) ys = settled-both xs ys
  settled-both (Looked tick wear ∷ xs) ys = settled-both xs ys
  settled-both (Peeked tick newest ∷ xs) ys = settled-both xs ys
  settled-both (Settled tick ∷ xs) ys = let rest = settled-both xs ys in omega (arith, rest)

  pub became-none : (outcomes : List (ℕ × Outcome n)) → settled-lines (became outcomes) ≡ 0
  became-none [] = refl
  became-none (one ∷ outcomes) = became-none outcomes

  -- up to the line of the settle behind so many
  pub up-to : (front : List (Told n)) (tick : ℕ) (rest : List (Told n)) → told_up_to (suc (settled-lines front)) ((front ++ Settled tick ∷ []) ++ rest) ≡ front ++ Settled tick ∷ []
  up-to [] tick rest = refl
  up-to (Became row outcome ∷ front) tick rest = ap (λ (told : List (Told n)). Became row outcome ∷ told) (up-to front tick rest)
  up-to (Bank at backlog ∷ front) tick rest = ap (λ (told : List (Told n)). Bank at backlog ∷ told) (up-to front tick rest)
  up-to (Looked at wear ∷ front) tick rest = ap (λ (told : List (Told n)). Looked at wear ∷ told) (up-to front tick rest)
  up-to (Peeked at newest ∷ front) tick rest = ap (λ (told : List (Told n)). Peeked at newest ∷ told) (up-to front tick rest)
  up-to (Settled at ∷ front) tick rest = ap (λ (told : List (Told n)). Settled at ∷ told) (up-to front tick rest)

  -- a row that settles is one more
  pub settles-more : (row : Asked n) (before : List (Asked n)) (tick : ℕ) → settled_at row ≡ Some tick → settles_in (row ∷ before) ≡ suc (settles_in before)
  settles-more (Happens event) before tick is = absurd (cc is)
  settles-more _ before tick is = refl

  -- lines of which the last is of a settle at a tick, and no other
  pub record EndsSettled (tick : ℕ) (lines : List (Told n)) : Type 0 where
    pub front : List (Told n)
    pub whole : lines ≡ front ++ Settled tick ∷ []
    pub none : settled-lines front ≡ 0

  module _ {m e : ℕ} where
    banks-none : (module_ : ModuleState n m e) (tick banks : ℕ) → settled-lines (banks_told module_ tick banks) ≡ 0
    banks-none module_ tick zero = refl
    banks-none module_ tick (suc bank) =
        let before = banks-none module_ tick bank in
        let both = settled-both (banks_told module_ tick bank) (Bank tick (backlog_of bank (bank_at module_ bank)) ∷ []) in
        omega (arith, before, both)

    -- each row that settles has one line of a settle, and another none
    pub lines-settle : (row : Asked n) (before : List (Asked n)) (module_ : ModuleState n m e) (array : ArrayState n m)
        → settles_in (row ∷ before) ≡ settles_in before + settled-lines (lines_of row module_ array)
    lines-settle (Query tick) before module_ array =
        let none = banks-none module_ tick module_.shape.banks in
        let both = settled-both (banks_told module_ tick module_.shape.banks) (Settled tick ∷ []) in
        omega (arith, none, both)
    lines-settle _ before module_ array = omega arith

    -- and that stands last
    pub ends-settled : (row : Asked n) (tick : ℕ) (module_ : ModuleState n m e) (array : ArrayState n m) → settled_at row ≡ Some tick → EndsSettled tick (lines_of row module_ array)
    ends-settled (Happens event) tick module_ array is = absurd (cc is)
    ends-settled (Settle at) tick module_ array is =
        let same : at ≡ tick = cc in
        record { front = []; whole = ap (λ (t : ℕ). Settled t ∷ []) same; none = refl }
    ends-settled (Query at) tick module_ array is =
        let same : at ≡ tick = cc in
        record {
          front = banks_told module_ at module_.shape.banks;
          whole = ap (λ (t : ℕ). banks_told module_ at module_.shape.banks ++ Settled t ∷ []) same;
          none = banks-none module_ at module_.shape.banks;
        }
    ends-settled (Look at) tick module_ array is =
        let same : at ≡ tick = cc in
        record { front = Looked at (wear_of e array) ∷ []; whole = ap (λ (t : ℕ). Looked at (wear_of e array) ∷ Settled t ∷ []) same; none = refl }
    ends-settled (Peek peek) tick module_ array is =
        let same : peek.tick ≡ tick = cc in
        let newest : PeekedLine n = record { line = peek.line; bytes = stand_now module_ array peek.line } in
        record { front = Peeked peek.tick newest ∷ []; whole = ap (λ (t : ℕ). Peeked peek.tick newest ∷ Settled t ∷ []) same; none = refl }
    ends-settled (Until until) tick module_ array is =
        let same : until.reached ≡ tick = cc in
        record { front = []; whole = ap (λ (t : ℕ). Settled t ∷ []) same; none = refl }
    ends-settled (UntilAny until) tick module_ array is =
        let same : until.reached ≡ tick = cc in
        record { front = []; whole = ap (λ (t : ℕ). Settled t ∷ []) same; none = refl }
