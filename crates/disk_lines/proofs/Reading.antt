-- The last row, as it stands: what a read is answered, and whether a write is refused.
use Rattle.std.proofs.Common.{◌≡◌, ℕ, ◌+◌, ◌==◌, ◌||◌, Bool, true, false, List, [], ◌∷◌, length, refl, sym, ap, ◌∙◌, subst}
use Rattle.std.{specs.Prelude.{IfSome, IsTrue}, proofs.lemmas.Bool.eqb-true}
use Rattle.cell_rows.specs.Device.{ArrayState}
use Rattle.trace_reader.specs.{declared.event.Event.Event, declared.event.EventOp.TheVariants.Read}
use Rattle.result_rows.specs.{Outcomes.bytes_of, declared.Outcome.Outcome}
use Rattle.result_rows.specs.declared.Outcome.TheVariants as out
use Rattle.row_rules.specs.{Answers.accepts, Rows.{each_row, newest}, Serving.{may_have, same_bytes}, declared.Asks.TheVariants.{Reads, Writes}, declared.Row.Row}
use Rattle.bank_laws.specs.Outcomes.{ended}
use Rattle.bank_timing.specs.Extending.{outcome_in}
use Rattle.module_shape.specs.Limits.{IsShape}
use Rattle.masked_bytes.proofs.Truth.{and_first, and_second}
use Rattle.pcm_module.specs.{Asking.asked_for, State.ModuleState}
use Rattle.answered_laws.specs.Answered.{is_open, is_served_so_far}
use Rattle.read_moments.specs.Reads.{ReadsLaw, rows_by}
use Rattle.disk_lines.specs.{Asking.{HasHeard, row_standing, rows_heard}, Hearing.{events_in, refuses_by, table_in}, declared.watch.Heard.Heard}

-- lists of the same bytes are the same
pub bytes-same : (xs ys : List ℕ) → same_bytes xs ys ≡ true → xs ≡ ys
bytes-same [] [] is = refl
bytes-same [] (y ∷ ys) is = absurd (cc is)
bytes-same (x ∷ xs) [] is = absurd (cc is)
bytes-same (x ∷ xs) (y ∷ ys) is =
    ap (λ (z : ℕ). z ∷ xs) (eqb-true x y (and_first (x == y) (same_bytes xs ys) is)) ∙ ap (λ (zs : List ℕ). y ∷ zs) (bytes-same xs ys (and_second (x == y) (same_bytes xs ys) is))

module _ {n : ℕ} where
  -- a read that is answered so has the newest bytes
  pub answer-newest : (tick line : ℕ) (bytes : List ℕ) (outcome : Outcome n) → (is_open outcome || may_have tick (Reads line) bytes outcome) ≡ true
      → IfSome (bytes_of outcome) (λ answer. answer ≡ bytes)
  answer-newest tick line bytes out.Unset is = tt
  answer-newest tick line bytes (out.Stored at place) is = tt
  answer-newest tick line bytes (out.Merged at) is = tt
  answer-newest tick line bytes (out.Queued at) is = tt
  answer-newest tick line bytes (out.Full at) is = tt
  answer-newest tick line bytes (out.Worn at) is = tt
  answer-newest tick line bytes (out.Read at place answer) is = bytes-same answer bytes is
  answer-newest tick line bytes (out.Forwarded at answer) is = bytes-same answer bytes (and_second (at == tick) (same_bytes answer bytes) is)
  answer-newest tick line bytes (out.Busy at) is = tt
  answer-newest tick line bytes (out.Lost at) is = tt
  answer-newest tick line bytes (out.Cut at) is = tt

  -- a write that isn't accepted is refused
  pub refused-write : (tick line : ℕ) (to : List ℕ) (given : List Bool) (bytes : List ℕ) (outcome : Outcome n)
      → (is_open (ended tick outcome) || may_have tick (Writes line to given) bytes (ended tick outcome)) ≡ true → accepts (ended tick outcome) ≡ false → refuses_by outcome ≡ 1
  refused-write tick line to given bytes out.Unset is not = absurd (cc not)
  refused-write tick line to given bytes (out.Stored at place) is not = absurd (cc not)
  refused-write tick line to given bytes (out.Merged at) is not = absurd (cc not)
  refused-write tick line to given bytes (out.Queued at) is not = absurd (cc not)
  refused-write tick line to given bytes (out.Full at) is not = refl
  refused-write tick line to given bytes (out.Worn at) is not = refl
  refused-write tick line to given bytes (out.Read at place answer) is not = absurd (cc is)
  refused-write tick line to given bytes (out.Forwarded at answer) is not = absurd (cc is)
  refused-write tick line to given bytes (out.Busy at) is not = absurd (cc is)
  refused-write tick line to given bytes (out.Lost at) is not = absurd (cc is)
  refused-write tick line to given bytes (out.Cut at) is not = absurd (cc is)

module _ {n m e : ℕ} (reads : ReadsLaw) (module_ : ModuleState n m e) (array : ArrayState n m) (heard : List (Heard n)) (has : HasHeard module_ array heard) (is : IsShape module_.shape)
    (event : Event n) (before : List (Event n)) (events : events_in heard ≡ event ∷ before) (row : ℕ) (number : row ≡ length before + 1) (last : Outcome n) (newest_is : outcome_in (table_in heard) row ≡ last) where
  abbrev pub others : List (Row n)
  others = rows_by (table_in heard) (asked_for before)

  all : IsTrue (each_row is_served_so_far (row_standing event last ∷ others) [])
  all =
      subst (λ (o : Outcome n). IsTrue (each_row is_served_so_far (row_standing event o ∷ others) [])) (ap (outcome_in (table_in heard)) (sym number) ∙ newest_is)
      (subst (λ (evs : List (Event n)). IsTrue (each_row is_served_so_far (rows_by (table_in heard) (asked_for evs)) [])) events
      (reads n m e has.history (asked_for (events_in heard)) module_ array (table_in heard) is has.served.replays))

  -- the last row is served so far
  pub last-served : is_served_so_far others (row_standing event last) [] ≡ true
  last-served = and_first (is_served_so_far others (row_standing event last) []) (each_row is_served_so_far others (row_standing event last ∷ [])) all

-- a read that was the last row is answered with the newest bytes
pub read-answers : {n m e : ℕ} (reads : ReadsLaw) (module_ : ModuleState n m e) (array : ArrayState n m) (heard : List (Heard n)) (has : HasHeard module_ array heard) (is : IsShape module_.shape)
    (tick place : ℕ) (before : List (Event n)) (events : events_in heard ≡ record { tick = tick; op = Read place } ∷ before) (row : ℕ) (number : row ≡ length before + 1) (last : Outcome n)
    (newest_is : outcome_in (table_in heard) row ≡ last) (bytes : List ℕ) → newest (rows_heard heard) place ≡ bytes → IfSome (bytes_of last) (λ answer. answer ≡ bytes)
read-answers {n} reads module_ array heard has is tick place before events row number last newest_is bytes same =
    subst (λ (b : List ℕ). IfSome (bytes_of last) (λ answer. answer ≡ b)) (sym (ap (λ (evs : List (Event n)). newest (rows_by (table_in heard) (asked_for evs)) place) events) ∙ same)
    (answer-newest tick place (newest (rows_by (table_in heard) (asked_for before)) place) last
    (last-served reads module_ array heard has is (record { tick = tick; op = Read place }) before events row number last newest_is))
