-- What stands in front of the first fault of a streamed trace.
use Rattle.std.proofs.Common.{◌≡◌, ◌⊎◌, ℕ, suc, ◌+◌, ◌==◌, ◌&&◌, not, List, [], ◌∷◌, length, take, true, false, Bool, inl, inr, refl, sym, ap, subst, ◌∙◌, arith}
use Rattle.std.{specs.Prelude.{Result, Ok, Err}, proofs.lemmas.Bool.Decides.nat_tests}
use Rattle.trace_reader.specs.{Trace.is_header, declared.fault.Kind.Kind}
use Rattle.trace_stream.specs.{Asked.{asked_of, events_in, is_settle, rows_after, tick_asked}, Laws.{FrontFaultLaw, FrontLaw, StandsBehind, headless, records_of}}
use Rattle.trace_stream.specs.Stream.{asked_before, front_of, front_records, front_rows, is_past, most_streamed, stream_of, stream_records, stream_rows}
use Rattle.trace_stream.specs.{declared.asked.Asked.Asked, declared.asked.Asked.TheVariants.{Happens, Settle, Query, Look, Peek, Until, UntilAny}, declared.fault.StreamFault.StreamFault}
use Rattle.trace_stream.proofs.Rows.{front-asks, front-faulty, front-past, front-read, front-wrong, header-read, header-wrong, row-asks, row-faulty, row-none, row-past}
use Rattle.trace_stream.specs.declared.fault.StreamFault.TheVariants as fault

-- a row too many stands behind as many as there may be
past-most : (rows : ℕ) (fields : List (List ℕ)) → is_past rows fields ≡ true → rows ≡ most_streamed
past-most rows fields past = by (rows == most_streamed) refl past
  where
    by : (b : Bool) → (rows == most_streamed) ≡ b → (b && not (is_settle fields)) ≡ true → rows ≡ most_streamed
    by false is q = cc q
    by true is q = grind (arith, nat_tests)

-- all rows stand in front, or those in front of the fault, behind so many rows with a number
abbrev IsFront : {n : ℕ} → ℕ → Result (List (Asked n)) StreamFault → List (Asked n) → Type 0
IsFront rows (Ok all) front = front ≡ all
IsFront rows (Err e) front = StandsBehind (rows + length (events_in front)) e

front-before : {n : ℕ} (rows : ℕ) (asked : Asked n) (r : Result (List (Asked n)) StreamFault) (front : List (Asked n))
    → IsFront (rows_after rows asked) r front → IsFront rows (asked_before asked r) (asked ∷ front)
front-before rows asked (Ok all) front is = ap (λ rest. asked ∷ rest) is
front-before rows (Settle tick) (Err e) front is = is
front-before rows (Query tick) (Err e) front is = is
front-before rows (Look tick) (Err e) front is = is
front-before rows (Peek peek) (Err e) front is = is
front-before rows (Until until) (Err e) front is = is
front-before rows (UntilAny until) (Err e) front is = is
front-before rows (Happens event) (Err e) front is =
    let count : rows + 1 + length (events_in front) ≡ rows + length (events_in (Happens event ∷ front)) = omega arith in
    subst (λ (k : ℕ). StandsBehind k e) count is

module _ (n lines : ℕ) where
  -- with a record more there is the fault, where there is one
  abbrev Breaks : ℕ → ℕ → List (List (List ℕ)) → Result (List (Asked n)) StreamFault → Type 0
  Breaks rows before records (Ok all) = Unit {0}
  Breaks rows before records (Err e) = stream_rows n lines rows before records ≡ Err e

  -- first records ask what stands in front by themselves
  abbrev Alone : ℕ → ℕ → List (List (List ℕ)) → Result (List (Asked n)) StreamFault → Type 0
  Alone rows before all r =
      (count : ℕ) × (stream_rows n lines rows before (take count all) ≡ Ok (front_rows n lines rows before all)) × Breaks rows before (take (suc count) all) r

  -- and it is in front of the first fault
  abbrev IsAlone : ℕ → ℕ → List (List (List ℕ)) → Type 0
  IsAlone rows before all =
      Alone rows before all (stream_rows n lines rows before all) × IsFront rows (stream_rows n lines rows before all) (front_rows n lines rows before all)

  breaks-before : (rows before : ℕ) (fields : List (List ℕ)) (rest : List (List (List ℕ))) (asked : Asked n) → is_past rows fields ≡ false → asked_of n lines rows before fields ≡ Ok asked
      → (r : Result (List (Asked n)) StreamFault) → Breaks (rows_after rows asked) (tick_asked asked) rest r → Breaks rows before (fields ∷ rest) (asked_before asked r)
  breaks-before rows before fields rest asked past e (Ok all) is = tt
  breaks-before rows before fields rest asked past e (Err wrong) is = row-asks n lines rows before fields rest asked past e ∙ ap (asked_before asked) is

  rows-alone : (rows before : ℕ) (all : List (List (List ℕ))) → IsAlone rows before all
  unfolding stream_rows front_rows
  rows-alone rows before [] = ((0, refl, tt), refl)
  rows-alone rows before (fields ∷ rest) = by (is_past rows fields) refl (asked_of n lines rows before fields) refl (λ rows before. rows-alone rows before rest)
    where
      none : (wrong : StreamFault) → front_rows n lines rows before (fields ∷ rest) ≡ [] → stream_rows n lines rows before (fields ∷ []) ≡ Err wrong → Alone rows before (fields ∷ rest) (Err wrong)
      none wrong is breaks = (0, row-none n lines rows before ∙ ap Ok (sym is), breaks)

      by : (past : Bool) → is_past rows fields ≡ past → (r : Result (Asked n) Kind) → asked_of n lines rows before fields ≡ r → ((rows before : ℕ) → IsAlone rows before rest)
          → IsAlone rows before (fields ∷ rest)
      by true past r e more =
          let front = front-past n lines rows before fields rest past in
          let count : rows + 0 ≡ most_streamed = omega (arith, past-most rows fields past) in
          let alone = none fault.TooMany front (row-past n lines rows before fields [] past) in
          rw (row-past n lines rows before fields rest past) (alone, rw front count)
      by false past (Err kind) e more =
          let front = front-faulty n lines rows before fields rest kind past e in
          let count : rows + 1 ≡ rows + 0 + 1 = omega arith in
          let alone = none (fault.Trace (record { row = rows + 1; kind = kind })) front (row-faulty n lines rows before fields [] kind past e) in
          rw (row-faulty n lines rows before fields rest kind past e) (alone, rw front count)
      by false past (Ok asked) e more =
          let behind = more (rows_after rows asked) (tick_asked asked) in
          let left = stream_rows n lines (rows_after rows asked) (tick_asked asked) rest in
          let front = front-asks n lines rows before fields rest asked past e in
          let alone : Alone rows before (fields ∷ rest) (asked_before asked left) = (
            suc behind.0.0,
            row-asks n lines rows before fields (take behind.0.0 rest) asked past e ∙ ap (asked_before asked) behind.0.1 ∙ ap Ok (sym front),
            breaks-before rows before fields (take (suc behind.0.0) rest) asked past e left behind.0.2,
          ) in
          rw (row-asks n lines rows before fields rest asked past e)
          (alone, rw front (front-before rows asked left (front_rows n lines (rows_after rows asked) (tick_asked asked) rest) behind.1))

  -- so it is of a text
  abbrev OfText : List (List (List ℕ)) → Result (List (Asked n)) StreamFault → List (Asked n) → Type 0
  OfText all (Ok asked) front = front ≡ asked
  OfText all (Err e) front =
      ((e ≡ headless) × (front ≡ []))
      ⊎ (((count : ℕ) × (stream_records n lines (take count all) ≡ Ok front) × (stream_records n lines (take (suc count) all) ≡ Err e))
      × StandsBehind (length (events_in front)) e)

  of-rows : (first : List (List ℕ)) (rows : List (List (List ℕ))) (r : Result (List (Asked n)) StreamFault) → is_header first ≡ true
      → Alone 0 0 rows r → IsFront 0 r (front_rows n lines 0 0 rows) → OfText (first ∷ rows) r (front_rows n lines 0 0 rows)
  of-rows first rows (Ok all) right alone is = is
  of-rows first rows (Err e) right alone is =
      let count : 0 + length (events_in (front_rows n lines 0 0 rows)) ≡ length (events_in (front_rows n lines 0 0 rows)) = omega arith in
      inr (
        (
          suc alone.0,
          header-read n lines first (take alone.0 rows) right ∙ alone.1,
          header-read n lines first (take (suc alone.0) rows) right ∙ alone.2,
        ),
        subst (λ (k : ℕ). StandsBehind k e) count is,
      )

  records-front : (all : List (List (List ℕ))) → OfText all (stream_records n lines all) (front_records n lines all)
  unfolding stream_records front_records
  records-front [] = inl (refl, refl)
  records-front (first ∷ rows) = by (is_header first) refl
    where
      by : (b : Bool) → is_header first ≡ b → OfText (first ∷ rows) (stream_records n lines (first ∷ rows)) (front_records n lines (first ∷ rows))
      by false wrong = rw (header-wrong n lines first rows wrong, front-wrong n lines first rows wrong) (inl (refl, refl))
      by true right =
          let is = rows-alone 0 0 rows in
          rw (header-read n lines first rows right, front-read n lines first rows right) (of-rows first rows (stream_rows n lines 0 0 rows) right is.0 is.1)

  pub text-front : (bytes : List ℕ) → OfText (records_of bytes) (stream_of n lines bytes) (front_of n lines bytes)
  unfolding stream_of front_of
  text-front bytes = records-front (records_of bytes)

pub whole-front : FrontLaw
whole-front n lines bytes all is = subst (λ (r : Result (List (Asked n)) StreamFault). OfText n lines (records_of bytes) r (front_of n lines bytes)) is (text-front n lines bytes)

pub fault-front : FrontFaultLaw
fault-front n lines bytes e is = subst (λ (r : Result (List (Asked n)) StreamFault). OfText n lines (records_of bytes) r (front_of n lines bytes)) is (text-front n lines bytes)
