-- Each entry of a history's queue gives the newest bytes of its line as of its own write.
use Rattle.std.proofs.Common.{◌≡◌, ℕ, ◌==◌, ◌||◌, Bool, true, false, cond, if◌then◌else◌, List, [], ◌∷◌, ◌++◌, length, drop, slice_get, Option, Some, None, refl, sym, ap, subst, ◌∙◌, arith, eqb-true, eq-eqb}
use Rattle.std.{specs.Prelude.{IsTrue, IsSomeAnd}, proofs.lemmas.Bool.or_from, proofs.lemmas.List.length-replicate}
use Rattle.masked_bytes.specs.Entries.{Layer, no_layer, stacked, layer_by, layer_of, head_row, head_line, AllMasked, or_this, newest_row, candidate, laid_on, merged, has_row}
use Rattle.masked_bytes.specs.{Entries.RowsApart, Masked.{laid, joined, gives_all, IsMasked}, declared.entry.Entry.Entry}
use Rattle.masked_bytes.proofs.Layering.{length-laid, laid-again, laid-between, length-joined, laid-all_given, laid-none_given, all_given-gives_all, laid-laid}
use Rattle.masked_bytes.proofs.{Queueing.candidate-newest, Standing.layer_of-head, Truth.{neither_first, neither_second, differ_sym}}
use Rattle.bank_shape.specs.declared.BankShape.{BankShape}
use Rattle.bank_shape.specs.declared.answer.WriteAnswer.TheVariants as wrote
use Rattle.bank_shape.specs.declared.answer.Step.TheVariants as did
use Rattle.bank_model.specs.{Answers.{MayAll, head_busy_after}, Events.{BankEvent, Write, Read, Begin, Iterate, newest, up_to, RowsBelow}}
use Rattle.bank_model.{specs.History.{queue, begun, due_after, has_exhausted}, proofs.Newest.length-newest}
use Rattle.bank_laws.{specs.Pairs.{has_line, ArePaired}, proofs.Pairs.{no_candidate-rest, pair_law}, proofs.Standing.stand_apart}
use Rattle.bank_invariant.proofs.Taking.{answer_merged}
use Rattle.clock_laws.specs.Newest.{GiveNewest, EntryLaw}

-- an entry of n bytes changes nothing of what was newest as of its write; and if it is the newest of its line, that is newest now
pub record IsFresh {n : ℕ} (was now : List ℕ) (behind : Bool) (entry : Entry n) : Type 0 where
  pub bytes_len : length entry.bytes ≡ n
  pub given_len : length entry.given ≡ n
  pub over : laid entry.bytes entry.given was ≡ was
  pub latest : behind ≡ false → was ≡ now

-- what a write of a line changes
record Goes (row line : ℕ) (bytes : List ℕ) (given : List Bool) (was after : ℕ → ℕ → List ℕ) (now next : ℕ → List ℕ) : Type 0 where
  aside : (r at : ℕ) → (row == r) ≡ false → after r at ≡ was r at
  own : (at : ℕ) → after row at ≡ next at
  on : (at : ℕ) → (line == at) ≡ true → next at ≡ laid bytes given (now at)
  off : (at : ℕ) → (line == at) ≡ false → next at ≡ now at

module _ {n : ℕ} where
  abbrev pub AreFresh : (ℕ → ℕ → List ℕ) → (ℕ → List ℕ) → List (Entry n) → Type 0
  AreFresh was now [] = Unit {0}
  AreFresh was now (e ∷ es) = IsFresh (was e.row e.line) (now e.line) (has_line es e.line) e × AreFresh was now es

  -- A write

  -- entries of other rows stay so while nothing is newer
  fresh-aside : (row : ℕ) (was after : ℕ → ℕ → List ℕ) (now : ℕ → List ℕ) (es : List (Entry n)) → ((r at : ℕ) → (row == r) ≡ false → after r at ≡ was r at)
      → has_row es row ≡ false → AreFresh was now es → AreFresh after now es
  fresh-aside row was after now [] aside none fresh = tt
  fresh-aside row was after now (e ∷ es) aside none fresh =
      let same : was e.row e.line ≡ after e.row e.line = sym (aside e.row e.line (differ_sym e.row row (neither_first (e.row == row) (has_row es row) none))) in (
        subst (λ (bytes : List ℕ). IsFresh bytes (now e.line) (has_line es e.line) e) same fresh.0,
        fresh-aside row was after now es aside (neither_second (e.row == row) (has_row es row) none) fresh.1,
      )

  module _ (row line : ℕ) (bytes : List ℕ) (given : List Bool) (was after : ℕ → ℕ → List ℕ) (now next : ℕ → List ℕ) (goes : Goes row line bytes given was after now next) where
    -- one entry, of another row, behind which an entry of its line stands unless the write is of another line
    fresh-one : (e : Entry n) (behind later : Bool) → (e.row == row) ≡ false → (later ≡ false → (behind ≡ false) × ((line == e.line) ≡ false))
        → IsFresh (was e.row e.line) (now e.line) behind e → IsFresh (after e.row e.line) (next e.line) later e
    fresh-one e behind later other apart fresh =
        let same : after e.row e.line ≡ was e.row e.line = goes.aside e.row e.line (differ_sym e.row row other) in
        record {
          bytes_len = fresh.bytes_len;
          given_len = fresh.given_len;
          over = ap (λ under. laid e.bytes e.given under) same ∙ fresh.over ∙ sym same;
          latest = λ none. let off = apart none in same ∙ fresh.latest off.0 ∙ sym (goes.off e.line off.1);
        }

    fresh-accepted : (es : List (Entry n)) → has_row es row ≡ false → IsMasked n bytes given → AreFresh was now es
        → AreFresh after next (es ++ record { row = row; line = line; bytes = bytes; given = given } ∷ [])
    fresh-accepted [] none masked fresh =
        let is : next line ≡ laid bytes given (now line) = goes.on line (eq-eqb line line refl) in
        let own : after row line ≡ laid bytes given (now line) = goes.own line ∙ is in (
          record {
            bytes_len = masked.bytes_len;
            given_len = masked.given_len;
            over = ap (λ under. laid bytes given under) own ∙ laid-again bytes given (now line) ∙ sym own;
            latest = λ none. goes.own line;
          },
          tt,
        )
    fresh-accepted (e ∷ es) none masked fresh = (
      fresh-one e (has_line es e.line) (has_line (es ++ record { row = row; line = line; bytes = bytes; given = given } ∷ []) e.line)
          (neither_first (e.row == row) (has_row es row) none) (λ off. off_push es e.line off) fresh.0,
      fresh-accepted es (neither_second (e.row == row) (has_row es row) none) masked fresh.1,
    )
      where
        off_push : (es : List (Entry n)) (at : ℕ) → has_line (es ++ record { row = row; line = line; bytes = bytes; given = given } ∷ []) at ≡ false → (has_line es at ≡ false) × ((line == at) ≡ false)
        off_push [] at off = (refl, neither_first (line == at) false off)
        off_push (f ∷ es) at off =
            let rest = off_push es at (neither_second (f.line == at) _ off) in
            (or_from (f.line == at) (has_line es at) (neither_first (f.line == at) _ off) rest.0, rest.1)

    -- entries of other lines
    fresh-off : (es : List (Entry n)) → has_row es row ≡ false → has_line es line ≡ false → AreFresh was now es → AreFresh after next es
    fresh-off [] none off fresh = tt
    fresh-off (e ∷ es) none off fresh = (
      fresh-one e (has_line es e.line) (has_line es e.line) (neither_first (e.row == row) (has_row es row) none)
          (λ behind. (behind, differ_sym e.line line (neither_first (e.line == line) (has_line es line) off))) fresh.0,
      fresh-off es (neither_second (e.row == row) (has_row es row) none) (neither_second (e.line == line) (has_line es line) off) fresh.1,
    )

    -- the entry into which the write is merged
    fresh-laid : (e : Entry n) (behind : Bool) → e.line ≡ line → behind ≡ false → IsMasked n bytes given → length (now e.line) ≡ n
        → IsFresh (was e.row e.line) (now e.line) behind e → IsFresh (after row e.line) (next e.line) behind (laid_on row bytes given e)
    fresh-laid e behind at none masked len fresh =
        let is : next e.line ≡ laid bytes given (now e.line) = goes.on e.line (eq-eqb line e.line (sym at)) in
        let own : after row e.line ≡ laid bytes given (now e.line) = goes.own e.line ∙ is in
        let same : was e.row e.line ≡ now e.line = fresh.latest none in
        let still : laid e.bytes e.given (now e.line) ≡ now e.line = ap (λ under. laid e.bytes e.given under) (sym same) ∙ fresh.over ∙ same in
        record {
          bytes_len = length-laid bytes given e.bytes ∙ fresh.bytes_len;
          given_len = length-joined given e.given (masked.given_len ∙ sym fresh.given_len) ∙ fresh.given_len;
          over =
              ap (λ under. laid (laid bytes given e.bytes) (joined given e.given) under) own
              ∙ laid-laid bytes given e.bytes e.given (laid bytes given (now e.line))
              (masked.given_len ∙ sym masked.bytes_len) (fresh.bytes_len ∙ sym masked.bytes_len) (fresh.given_len ∙ sym masked.bytes_len)
              (length-laid bytes given (now e.line) ∙ len ∙ sym masked.bytes_len)
              ∙ laid-between bytes given e.bytes e.given (now e.line) still
              ∙ sym own;
          latest = λ none. goes.own e.line;
        }

    newest_row-there : (es : List (Entry n)) (old : ℕ) → newest_row es line ≡ Some old → (has_row es old ≡ true) × (has_line es line ≡ true)
    newest_row-there [] old is = cc
    newest_row-there (e ∷ es) old is = by (newest_row es line) (newest_row-there es old) (e.line == line) refl is
      where
        by : (rest : Option ℕ) → (rest ≡ Some old → (has_row es old ≡ true) × (has_line es line ≡ true)) → (b : Bool) → (e.line == line) ≡ b
            → or_this rest (cond b (Some e.row) None) ≡ Some old → (has_row (e ∷ es) old ≡ true) × (has_line (e ∷ es) line ≡ true)
        by rest there b at is = grind arith

    line-merged : (old at : ℕ) (es : List (Entry n)) → has_line (merged old row bytes given es) at ≡ has_line es at
    line-merged old at [] = refl
    line-merged old at (e ∷ es) = by (e.row == old) (line-merged old at es)
      where
        by : (b : Bool) → has_line (merged old row bytes given es) at ≡ has_line es at
            → has_line (if b then laid_on row bytes given e ∷ es else e ∷ merged old row bytes given es) at ≡ has_line (e ∷ es) at
        by true rest = refl
        by false rest = ap (λ b. (e.line == at) || b) rest

    fresh-merged : (old : ℕ) (es : List (Entry n)) → newest_row es line ≡ Some old → RowsApart es → has_row es row ≡ false → IsMasked n bytes given
        → ((at : ℕ) → length (now at) ≡ n) → AreFresh was now es → AreFresh after next (merged old row bytes given es)
    fresh-merged old [] is apart none masked len fresh = tt
    fresh-merged old (e ∷ es) is apart none masked len fresh =
        by (newest_row es line) refl (λ at. fresh-merged old es at apart.1 (neither_second (e.row == row) (has_row es row) none) masked len fresh.1) is
      where
        own : (b : Bool) → (e.line == line) ≡ b → newest_row es line ≡ None → cond b (Some e.row) None ≡ Some old → AreFresh after next (merged old row bytes given (e ∷ es))
        own true at alone is =
            let same : e.row ≡ old = cc in
            let there : e.line ≡ line = eqb-true e.line line at in
            let off : has_line es line ≡ false = no_candidate-rest es line None (ap (λ r. or_this r None) alone) in
            subst (λ (b : Bool). AreFresh after next (if b then laid_on row bytes given e ∷ es else e ∷ merged old row bytes given es)) (sym (eq-eqb e.row old same)) (
              fresh-laid e (has_line es e.line) there (ap (λ at. has_line es at) there ∙ off) masked (len e.line) fresh.0,
              fresh-off es (neither_second (e.row == row) (has_row es row) none) off fresh.1,
            )
        own false at alone is = cc

        by : (rest : Option ℕ) → newest_row es line ≡ rest → (newest_row es line ≡ Some old → AreFresh after next (merged old row bytes given es))
            → or_this rest (if e.line == line then Some e.row else None) ≡ Some old → AreFresh after next (merged old row bytes given (e ∷ es))
        by None alone rest is = own (e.line == line) refl alone is
        by (Some r) found rest is =
            let here : newest_row es line ≡ Some old = found ∙ is in
            let there = newest_row-there es old here in
            let other : (e.row == old) ≡ false = not-same (e.row == old) (eqb-true e.row old) there.0 in
            subst (λ (b : Bool). AreFresh after next (if b then laid_on row bytes given e ∷ es else e ∷ merged old row bytes given es)) (sym other) (
              fresh-one e (has_line es e.line) (has_line (merged old row bytes given es) e.line) (neither_first (e.row == row) (has_row es row) none)
                  (λ off.
                  let still : has_line es e.line ≡ false = sym (line-merged old e.line es) ∙ off in
                  (still, not-line (line == e.line) (eqb-true line e.line) still there.1)) fresh.0,
              rest here,
            )
          where
            not-same : (b : Bool) → (b ≡ true → e.row ≡ old) → has_row es old ≡ true → b ≡ false
            not-same false is there = refl
            not-same true is there = let bad : has_row es old ≡ false = ap (λ r. has_row es r) (sym (is refl)) ∙ apart.0 in cc

            not-line : (b : Bool) → (b ≡ true → line ≡ e.line) → has_line es e.line ≡ false → has_line es line ≡ true → b ≡ false
            not-line false is off there = refl
            not-line true is off there = let bad : has_line es line ≡ false = ap (λ at. has_line es at) (is refl) ∙ off in cc

  -- Begins and stores

  fresh-drop : (was : ℕ → ℕ → List ℕ) (now : ℕ → List ℕ) (es : List (Entry n)) → AreFresh was now es → AreFresh was now (drop 1 es)
  fresh-drop was now es fresh = grind arith

  -- an entry that gives every byte gives just what was newest as of its write
  whole-bytes : (was now : List ℕ) (behind : Bool) (e : Entry n) → IsFresh was now behind e → gives_all e.given ≡ true → length was ≡ n → e.bytes ≡ was
  whole-bytes was now behind e fresh all len =
      sym (laid-all_given n e.bytes was fresh.bytes_len len) ∙ ap (λ given. laid e.bytes given was) (sym (all_given-gives_all n e.given fresh.given_len all)) ∙ fresh.over

  -- over what is newest now, an entry gives what was newest as of its write, where it is the newest of its line or gives every byte
  laid-now : (was now : List ℕ) (behind : Bool) (e : Entry n) → IsFresh was now behind e → (behind ≡ true → gives_all e.given ≡ true) → length was ≡ n → length now ≡ n
      → laid e.bytes e.given now ≡ was
  laid-now was now false e fresh whole len len_now = ap (λ under. laid e.bytes e.given under) (sym (fresh.latest refl)) ∙ fresh.over
  laid-now was now true e fresh whole len len_now =
      ap (λ given. laid e.bytes given now) (all_given-gives_all n e.given fresh.given_len (whole refl)) ∙ laid-all_given n e.bytes now fresh.bytes_len len_now
      ∙ whole-bytes was now true e fresh (whole refl) len

  fresh-begun : (due : Option ℕ) (was : ℕ → ℕ → List ℕ) (now : ℕ → List ℕ) (es : List (Entry n)) → ArePaired es → ((r at : ℕ) → length (was r at) ≡ n) → ((at : ℕ) → length (now at) ≡ n)
      → AreFresh was now es → AreFresh was now (begun due now es)
  fresh-begun (Some region) was now es paired len len_now fresh = fresh
  fresh-begun None was now [] paired len len_now fresh = tt
  fresh-begun None was now (e ∷ es) paired len len_now fresh =
      let done : laid e.bytes e.given (now e.line) ≡ was e.row e.line =
      laid-now (was e.row e.line) (now e.line) (has_line es e.line) e fresh.0 paired.1 (len e.row e.line) (len_now e.line) in
      let long : length (laid e.bytes e.given (now e.line)) ≡ n = length-laid e.bytes e.given (now e.line) ∙ len_now e.line in (
        record {
          bytes_len = long;
          given_len = length-replicate n true;
          over = laid-all_given n (laid e.bytes e.given (now e.line)) (was e.row e.line) long (len e.row e.line) ∙ done;
          latest = fresh.0.latest;
        },
        fresh.1,
      )

  -- Histories

  -- what was newest of a line as of the write of a row
  abbrev pub newest_at : List (BankEvent n) → ℕ → ℕ → List ℕ
  newest_at h row line = newest (up_to row h) line

  length-newest_at : (h : List (BankEvent n)) (row line : ℕ) → length (newest_at h row line) ≡ n
  length-newest_at h row line = length-newest (up_to row h) line

  -- a write of a line changes what is newest, and what was as of its own row
  goes-on : (row line : ℕ) (bytes : List ℕ) (given : List Bool) (h : List (BankEvent n)) (event : BankEvent n)
      → ((r at : ℕ) → newest_at (event ∷ h) r at ≡ (if row == r then newest (event ∷ h) at else newest_at h r at))
      → ((at : ℕ) → newest (event ∷ h) at ≡ (if line == at then laid bytes given (newest h at) else newest h at))
      → Goes row line bytes given (newest_at h) (newest_at (event ∷ h)) (newest h) (newest (event ∷ h))
  goes-on row line bytes given h event named changes = record {
    aside = λ r at off. named r at ∙ ap (λ b. if b then newest (event ∷ h) at else newest_at h r at) off;
    own = λ at. named row at ∙ ap (λ b. if b then newest (event ∷ h) at else newest_at h row at) (eq-eqb row row refl);
    on = λ at is. changes at ∙ ap (λ b. if b then laid bytes given (newest h at) else newest h at) is;
    off = λ at is. changes at ∙ ap (λ b. if b then laid bytes given (newest h at) else newest h at) is;
  }

  newest_of-if : (b : Bool) (first other : List (BankEvent n)) (at : ℕ) → newest (if b then first else other) at ≡ (if b then newest first at else newest other at)
  newest_of-if b first other at = grind arith

  module _ (shape : BankShape) (most : ℕ) where
    begun-fresh : (h : List (BankEvent n)) → MayAll shape most h → AreFresh (newest_at h) (newest h) (queue shape h)
        → AreFresh (newest_at h) (newest h) (begun (due_after shape h) (newest h) (queue shape h))
    begun-fresh h may fresh =
        fresh-begun (due_after shape h) (newest_at h) (newest h) (queue shape h) (pair_law n most shape h may) (length-newest_at h) (length-newest h) fresh

    refused-fresh : (row line : ℕ) (bytes : List ℕ) (given : List Bool) (h : List (BankEvent n)) (event : BankEvent n) → RowsBelow h row
        → ((r at : ℕ) → newest_at (event ∷ h) r at ≡ (if row == r then newest (event ∷ h) at else newest_at h r at))
        → AreFresh (newest_at h) (newest h) (queue shape h) → AreFresh (newest_at (event ∷ h)) (newest h) (queue shape h)
    refused-fresh row line bytes given h event below named fresh =
        fresh-aside row (newest_at h) (newest_at (event ∷ h)) (newest h) (queue shape h)
        (λ r at off. named r at ∙ ap (λ b. if b then newest (event ∷ h) at else newest_at h r at) off)
        ((stand_apart shape h row below).queued_below row (omega arith)) fresh

    pub queue-fresh : (h : List (BankEvent n)) (bound : ℕ) → MayAll shape most h → RowsBelow h bound → AreFresh (newest_at h) (newest h) (queue shape h)
    queue-fresh [] bound may below = tt
    queue-fresh (Write row line bytes given wrote.Accepted ∷ h) bound may below =
        fresh-accepted row line bytes given (newest_at h) (newest_at (Write row line bytes given wrote.Accepted ∷ h)) (newest h) (newest (Write row line bytes given wrote.Accepted ∷ h))
        (goes-on row line bytes given h (Write row line bytes given wrote.Accepted) (λ r at. newest_of-if (row == r) _ _ at) (λ at. refl))
        (queue shape h) ((stand_apart shape h row below.1).queued_below row (omega arith)) may.0.1 (queue-fresh h row may.1 below.1)
    queue-fresh (Write row line bytes given (wrote.Merged old) ∷ h) bound may below =
        let told = answer_merged shape h (has_exhausted h) (candidate (head_busy_after shape h) (queue shape h) line) old may.0.2 in
        let apart = stand_apart shape h row below.1 in
        fresh-merged row line bytes given (newest_at h) (newest_at (Write row line bytes given (wrote.Merged old) ∷ h)) (newest h) (newest (Write row line bytes given (wrote.Merged old) ∷ h))
        (goes-on row line bytes given h (Write row line bytes given (wrote.Merged old)) (λ r at. newest_of-if (row == r) _ _ at) (λ at. refl))
        old (queue shape h) (candidate-newest (head_busy_after shape h) (queue shape h) line old told.1) apart.queued_apart (apart.queued_below row (omega arith)) may.0.1
        (length-newest h) (queue-fresh h row may.1 below.1)
    queue-fresh (Write row line bytes given wrote.Full ∷ h) bound may below =
        refused-fresh row line bytes given h (Write row line bytes given wrote.Full) below.1 (λ r at. newest_of-if (row == r) _ _ at) (queue-fresh h row may.1 below.1)
    queue-fresh (Write row line bytes given wrote.Exhausted ∷ h) bound may below =
        refused-fresh row line bytes given h (Write row line bytes given wrote.Exhausted) below.1 (λ r at. newest_of-if (row == r) _ _ at) (queue-fresh h row may.1 below.1)
    queue-fresh (Read row line answer ∷ h) bound may below = queue-fresh h row may.1 below.1
    queue-fresh (Begin (did.Stored row place) ∷ h) bound may below = fresh-drop (newest_at h) (newest h) (queue shape h) (queue-fresh h bound may.1 below)
    queue-fresh (Begin _ ∷ h) bound may below = begun-fresh h may.1 (queue-fresh h bound may.1 below)
    queue-fresh (Iterate (did.Stored row place) ∷ h) bound may below = fresh-drop (newest_at h) (newest h) (queue shape h) (queue-fresh h bound may.1 below)
    queue-fresh (_ ∷ h) bound may below = queue-fresh h bound may.1 below

  -- The head

  -- a head that gives every byte has the newest bytes of its line as of its own write
  pub head-bytes : (h : List (BankEvent n)) (es : List (Entry n)) (bytes : List ℕ) (line : ℕ) → AreFresh (newest_at h) (newest h) es
      → IsSomeAnd (slice_get es 0) (λ head. (head.line ≡ line) × (head.bytes ≡ bytes) × IsTrue (gives_all head.given)) → bytes ≡ newest_at h (head_row es) (head_line es)
  head-bytes h [] bytes line fresh some = absurd some
  head-bytes h (e ∷ es) bytes line fresh some =
      sym some.1 ∙ whole-bytes (newest_at h e.row e.line) (newest h e.line) (has_line es e.line) e fresh.0 some.2 (length-newest_at h e.row e.line)

  no_line-layer : (es : List (Entry n)) (line : ℕ) → has_line es line ≡ false → layer_of es line ≡ no_layer n
  no_line-layer [] line off = refl
  no_line-layer (e ∷ es) line off =
      ap (λ b. cond b (stacked (layer_of es line) (layer_by e)) (layer_of es line)) (neither_first (e.line == line) (has_line es line) off)
      ∙ no_line-layer es line (neither_second (e.line == line) (has_line es line) off)

  -- bytes over which the queue gives the newest ones of the head's line, and that the head doesn't change, were the newest as of its write
  pub head-under : (h : List (BankEvent n)) (es : List (Entry n)) (under : List ℕ) → AreFresh (newest_at h) (newest h) es → ArePaired es → AllMasked es → length under ≡ n
      → laid (layer_of es (head_line es)).bytes (layer_of es (head_line es)).given under ≡ newest h (head_line es)
      → IsSomeAnd (slice_get es 0) (λ head. laid head.bytes head.given under ≡ under) → under ≡ newest_at h (head_row es) (head_line es)
  head-under h [] under fresh paired masked len stands some = absurd some
  head-under h (e ∷ es) under fresh paired masked len stands some = by (has_line es e.line) refl
    where
      by : (b : Bool) → has_line es e.line ≡ b → under ≡ newest_at h e.row e.line
      by true behind =
          let whole : gives_all e.given ≡ true = paired.1 behind in
          sym some
          ∙ ap (λ given. laid e.bytes given under) (all_given-gives_all n e.given fresh.0.given_len whole) ∙ laid-all_given n e.bytes under fresh.0.bytes_len len
          ∙ whole-bytes (newest_at h e.row e.line) (newest h e.line) (has_line es e.line) e fresh.0 whole (length-newest_at h e.row e.line)
      by false alone =
          sym (laid-none_given n (no_layer n).bytes under)
          ∙ ap (λ (l : Layer). laid l.bytes l.given under) (sym (no_line-layer es e.line alone))
          ∙ ap (λ bytes. laid (layer_of es e.line).bytes (layer_of es e.line).given bytes) (sym some)
          ∙ sym (layer_of-head e es e.line under masked len refl)
          ∙ stands ∙ sym (fresh.0.latest alone)

  entries-newest : (h : List (BankEvent n)) (es : List (Entry n)) → AreFresh (newest_at h) (newest h) es → GiveNewest h es
  entries-newest h [] fresh = tt
  entries-newest h (e ∷ es) fresh = (fresh.0.over, entries-newest h es fresh.1)

pub entry_law : EntryLaw
entry_law n most bound shape h may below = entries-newest h (queue shape h) (queue-fresh shape most h bound may below)
