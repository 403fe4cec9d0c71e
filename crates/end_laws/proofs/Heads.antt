-- What the queue's head gives once a store of it was begun: every byte of its line, as they were newest when its own write came.
use Rattle.std.proofs.Common.{◌≡◌, ℕ, ◌<◌, ◌≤◌, ◌==◌, ◌||◌, inl, inr, Bool, true, false, List, [], ◌∷◌, ◌++◌, length, Option, Some, None, refl, sym, ap, ◌∙◌, subst, arith, cond, eqb, eqb-true}
use Rattle.std.{specs.Prelude.is_none, proofs.lemmas.Bool.{eq-eqb, ne_eqb, cases_lt}}
use Rattle.masked_bytes.specs.{Entries.{Layer, stacked, laid_on, merged, or_this, newest_row, has_row, RowsApart}, Masked.{laid, gives_all, IsMasked}, declared.entry.Entry.Entry}
use Rattle.masked_bytes.proofs.{Layering.{length-laid, length-joined, laid-laid, laid-all_given, all_given-gives_all, laid-again, laid-between}, Queueing.candidate-newest}
use Rattle.bank_shape.specs.{declared.BankShape.BankShape, declared.answer.Step.Step}
use Rattle.bank_shape.specs.declared.answer.WriteAnswer.TheVariants as wrote
use Rattle.bank_shape.specs.declared.answer.Step.TheVariants as did
use Rattle.bank_model.specs.{Answers.{MayAll, head_busy_after, write_answer}, Events.{BankEvent, Write, Read, Serve, Begin, Iterate, Cut, newest, up_to, RowsBelow}}
use Rattle.bank_model.{specs.History.{begun, queue, due_after}, proofs.Newest.length-newest}
use Rattle.bank_laws.{specs.Pairs.{has_line, ArePaired}, proofs.Answering.head-there}
use Rattle.bank_laws.proofs.{Lines.{Stands, stands-row, stands-line, newest-stands, merged-candidate, merges-stands}, Pairs.keeps_pairs, Standing.stand_apart}
use Rattle.queue_laws.{specs.EntryLaws.{line_written, given_by, last_write, is_head_begun}, proofs.Last.queue-last, proofs.Owned.{IsOwn, AreOwn, queue-own}}

pub above : (at row : ℕ) → row < at → (at == row) ≡ false
above at row lt = ne_eqb at row (λ is. omega (arith, lt, is))

module _ {n : ℕ} where
  written-either : (at bound row line l : ℕ) (h : List (BankEvent n)) (b : Bool) → eqb at row ≡ b → at < bound → (line_written row h ≡ Some line → row < at)
      → cond b (Some l) (line_written row h) ≡ Some line → row < bound
  written-either at bound row line l h true same below before is = omega (arith, eqb-true at row same, below)
  written-either at bound row line l h false other below before is = let low = before is in omega (arith, low, below)

  -- a row that was written is below the next
  pub written-below : (h : List (BankEvent n)) (bound row line : ℕ) → RowsBelow h bound → line_written row h ≡ Some line → row < bound
  written-below [] bound row line below is = absurd (cc)
  written-below (Write at l bytes given wrote.Full ∷ h) bound row line below is = let low = written-below h at row line below.1 is in omega (arith, low, below.0)
  written-below (Write at l bytes given wrote.Exhausted ∷ h) bound row line below is = let low = written-below h at row line below.1 is in omega (arith, low, below.0)
  written-below (Write at l bytes given _ ∷ h) bound row line below is = written-either at bound row line l h (eqb at row) refl below.0 (written-below h at row line below.1) is
  written-below (Read at l answer ∷ h) bound row line below is = let low = written-below h at row line below.1 is in omega (arith, low, below.0)
  written-below (_ ∷ h) bound row line below is = written-below h bound row line below is

  last-either : (at line row l : ℕ) (h : List (BankEvent n)) (b : Bool) → eqb l line ≡ b → RowsBelow h at → (last_write h line ≡ Some row → line_written row h ≡ Some line)
      → cond b (Some at) (last_write h line) ≡ Some row → cond (eqb at row) (Some l) (line_written row h) ≡ Some line
  last-either at line row l h true same below before is =
      let own : at ≡ row = cc is in ap (λ b. cond b (Some l) (line_written row h)) (eq-eqb at row own) ∙ ap Some (eqb-true l line same)
  last-either at line row l h false other below before is =
      let was = before is in
      ap (λ b. cond b (Some l) (line_written row h)) (above at row (written-below h at row line below was)) ∙ was

  -- the last write of a line was one of the line
  last-written : (h : List (BankEvent n)) (bound line row : ℕ) → RowsBelow h bound → last_write h line ≡ Some row → line_written row h ≡ Some line
  last-written [] bound line row below is = absurd (cc)
  last-written (Write at l bytes given wrote.Full ∷ h) bound line row below is = last-written h at line row below.1 is
  last-written (Write at l bytes given wrote.Exhausted ∷ h) bound line row below is = last-written h at line row below.1 is
  last-written (Write at l bytes given _ ∷ h) bound line row below is = last-either at line row l h (eqb l line) refl below.1 (last-written h at line row below.1) is
  last-written (Read at l answer ∷ h) bound line row below is = last-written h at line row below.1 is
  last-written (_ ∷ h) bound line row below is = last-written h bound line row below is

  since-either : (at line row l : ℕ) (bytes : List ℕ) (given : List Bool) (h whole : List (BankEvent n)) (b : Bool) → eqb l line ≡ b → RowsBelow h at
      → newest whole line ≡ cond (eqb l line) (laid bytes given (newest h line)) (newest h line)
      → (last_write h line ≡ Some row → newest (up_to row h) line ≡ newest h line) → cond b (Some at) (last_write h line) ≡ Some row
      → newest (cond (eqb at row) whole (up_to row h)) line ≡ newest whole line
  since-either at line row l bytes given h whole true same below laid_is before is =
      let own : at ≡ row = cc is in ap (λ b. newest (cond b whole (up_to row h)) line) (eq-eqb at row own)
  since-either at line row l bytes given h whole false other below laid_is before is =
      let low = written-below h at row line below (last-written h at line row below is) in
      ap (λ b. newest (cond b whole (up_to row h)) line) (above at row low) ∙ before is
      ∙ sym (laid_is ∙ ap (λ b. cond b (laid bytes given (newest h line)) (newest h line)) other)

  -- behind its last write nothing changes the newest bytes of a line
  newest-since : (h : List (BankEvent n)) (bound line row : ℕ) → RowsBelow h bound → last_write h line ≡ Some row → newest (up_to row h) line ≡ newest h line
  newest-since [] bound line row below is = absurd (cc)
  newest-since (Write at l bytes given wrote.Full ∷ h) bound line row below is =
      let low = written-below h at row line below.1 (last-written h at line row below.1 is) in
      ap (λ b. newest (cond b (Write at l bytes given wrote.Full ∷ h) (up_to row h)) line) (above at row low) ∙ newest-since h at line row below.1 is
  newest-since (Write at l bytes given wrote.Exhausted ∷ h) bound line row below is =
      let low = written-below h at row line below.1 (last-written h at line row below.1 is) in
      ap (λ b. newest (cond b (Write at l bytes given wrote.Exhausted ∷ h) (up_to row h)) line) (above at row low) ∙ newest-since h at line row below.1 is
  newest-since (Write at l bytes given answer ∷ h) bound line row below is =
      since-either at line row l bytes given h (Write at l bytes given answer ∷ h) (eqb l line) refl below.1 refl (newest-since h at line row below.1) is
  newest-since (Read at l answer ∷ h) bound line row below is = newest-since h at line row below.1 is
  newest-since (_ ∷ h) bound line row below is = newest-since h bound line row below is

-- what the write of a row and those merged into it give is among the newest bytes of its line as it came
record IsGiven (n : ℕ) (own : Layer) (newest : List ℕ) : Type 0 where
  bytes : length own.bytes ≡ n
  given : length own.given ≡ n
  stays : laid own.bytes own.given newest ≡ newest

module _ {n : ℕ} (shape : BankShape) where
  given-new : (line l : ℕ) (bytes : List ℕ) (given : List Bool) (under : List ℕ) → IsMasked n bytes given → l ≡ line
      → IsGiven n (record { bytes = bytes; given = given }) (cond (eqb l line) (laid bytes given under) under)
  given-new line l bytes given under m same =
      subst (λ b. IsGiven n (record { bytes = bytes; given = given }) (cond b (laid bytes given under) under)) (sym (eq-eqb l line same))
      (record { bytes = m.bytes_len; given = m.given_len; stays = laid-again bytes given under })

  given-over : (line l : ℕ) (bytes : List ℕ) (given : List Bool) (own : Layer) (under : List ℕ) → IsMasked n bytes given → length under ≡ n → l ≡ line
      → IsGiven n own under → IsGiven n (stacked (record { bytes = bytes; given = given }) own) (cond (eqb l line) (laid bytes given under) under)
  given-over line l bytes given own under m len same was =
      subst (λ b. IsGiven n (stacked (record { bytes = bytes; given = given }) own) (cond b (laid bytes given under) under)) (sym (eq-eqb l line same))
      (record {
        bytes = length-laid bytes given own.bytes ∙ was.bytes;
        given = length-joined given own.given (m.given_len ∙ sym was.given) ∙ was.given;
        stays = laid-laid bytes given own.bytes own.given (laid bytes given under)
            (m.given_len ∙ sym m.bytes_len) (was.bytes ∙ sym m.bytes_len) (was.given ∙ sym m.bytes_len) (length-laid bytes given under ∙ len ∙ sym m.bytes_len)
            ∙ laid-between bytes given own.bytes own.given under was.stays;
      })

  -- a row whose write is above it has the same behind it
  aside : (h : List (BankEvent n)) (at row line : ℕ) (whole : List (BankEvent n)) (layer : Layer) → row < at → IsGiven n (given_by row h) (newest (up_to row h) line)
      → IsGiven n (cond (eqb at row) layer (given_by row h)) (newest (cond (eqb at row) whole (up_to row h)) line)
  aside h at row line whole layer lt was =
      subst (λ b. IsGiven n (cond b layer (given_by row h)) (newest (cond b whole (up_to row h)) line)) (sym (above at row lt)) was

  unseen : (h : List (BankEvent n)) (at row line : ℕ) (whole : List (BankEvent n)) → row < at → IsGiven n (given_by row h) (newest (up_to row h) line)
      → IsGiven n (given_by row h) (newest (cond (eqb at row) whole (up_to row h)) line)
  unseen h at row line whole lt was =
      subst (λ b. IsGiven n (given_by row h) (newest (cond b whole (up_to row h)) line)) (sym (above at row lt)) was

  given-either : (at row line l : ℕ) (h whole : List (BankEvent n)) (layer : Layer) (b : Bool) → eqb at row ≡ b → RowsBelow h at
      → (l ≡ line → IsGiven n layer (newest whole line)) → (line_written row h ≡ Some line → IsGiven n (given_by row h) (newest (up_to row h) line))
      → cond b (Some l) (line_written row h) ≡ Some line
      → IsGiven n (cond (eqb at row) layer (given_by row h)) (newest (cond (eqb at row) whole (up_to row h)) line)
  given-either at row line l h whole layer true same below own before is =
      let its : l ≡ line = cc is in
      subst (λ b. IsGiven n (cond b layer (given_by row h)) (newest (cond b whole (up_to row h)) line)) (sym same) (own its)
  given-either at row line l h whole layer false other below own before is =
      aside h at row line whole layer (written-below h at row line below is) (before is)

  -- the entry that a write is merged into has its line's last write
  old-last : (most : ℕ) (h : List (BankEvent n)) (at l old : ℕ) → MayAll shape most h → RowsBelow h at → wrote.Merged old ≡ write_answer shape h l → last_write h l ≡ Some old
  old-last most h at l old may below m =
      queue-last shape l old most h at may below (candidate-newest (head_busy_after shape h) (queue shape h) l old (merged-candidate shape h l old m))

  given-stays : (most : ℕ) (h : List (BankEvent n)) (bound row line : ℕ) → MayAll shape most h → RowsBelow h bound → line_written row h ≡ Some line
      → IsGiven n (given_by row h) (newest (up_to row h) line)
  given-stays most [] bound row line may below is = absurd (cc)
  given-stays most (Write at l bytes given wrote.Accepted ∷ h) bound row line may below is =
      given-either at row line l h (Write at l bytes given wrote.Accepted ∷ h) (record { bytes = bytes; given = given }) (eqb at row) refl below.1
      (λ its. given-new line l bytes given (newest h line) may.0.1 its) (given-stays most h at row line may.1 below.1) is
  given-stays most (Write at l bytes given (wrote.Merged old) ∷ h) bound row line may below is =
      given-either at row line l h (Write at l bytes given (wrote.Merged old) ∷ h) (stacked (record { bytes = bytes; given = given }) (given_by old h)) (eqb at row) refl below.1
      (λ its.
      let last : last_write h line ≡ Some old = subst (λ k. last_write h k ≡ Some old) its (old-last most h at l old may.1 below.1 may.0.2) in
      let under : IsGiven n (given_by old h) (newest h line) =
      subst (λ under. IsGiven n (given_by old h) under) (newest-since h at line old below.1 last) (given-stays most h at old line may.1 below.1 (last-written h at line old below.1 last)) in
      given-over line l bytes given (given_by old h) (newest h line) may.0.1 (length-newest h line) its under)
      (given-stays most h at row line may.1 below.1) is
  given-stays most (Write at l bytes given wrote.Full ∷ h) bound row line may below is =
      unseen h at row line (Write at l bytes given wrote.Full ∷ h) (written-below h at row line below.1 is) (given-stays most h at row line may.1 below.1 is)
  given-stays most (Write at l bytes given wrote.Exhausted ∷ h) bound row line may below is =
      unseen h at row line (Write at l bytes given wrote.Exhausted ∷ h) (written-below h at row line below.1 is) (given-stays most h at row line may.1 below.1 is)
  given-stays most (Read at l answer ∷ h) bound row line may below is = given-stays most h at row line may.1 below.1 is
  given-stays most (_ ∷ h) bound row line may below is = given-stays most h bound row line may.1 below is

  -- The head

  -- an entry has the newest bytes of its line as its own write came
  abbrev pub IsWhole : List (BankEvent n) → Entry n → Type 0
  IsWhole h e = e.bytes ≡ newest (up_to e.row h) e.line

  abbrev pub HeadWhole : List (BankEvent n) → List (Entry n) → Type 0
  HeadWhole h [] = Unit {0}
  HeadWhole h (e ∷ es) = IsWhole h e

  whole-behind : (h : List (BankEvent n)) (e : Entry n) (at : ℕ) (whole : List (BankEvent n)) → e.row < at → IsWhole h e → e.bytes ≡ newest (cond (eqb at e.row) whole (up_to e.row h)) e.line
  whole-behind h e at whole lt was = was ∙ ap (λ b. newest (cond b whole (up_to e.row h)) e.line) (sym (above at e.row lt))

  -- laid over any bytes it changes nothing where it gives every byte
  full-laid : (e : Entry n) (under : List ℕ) → length e.bytes ≡ n → length e.given ≡ n → length under ≡ n → gives_all e.given ≡ true → laid e.bytes e.given under ≡ e.bytes
  full-laid e under bytes given len all =
      ap (λ g. laid e.bytes g under) (all_given-gives_all n e.given given all) ∙ laid-all_given n e.bytes under bytes len

  low-row : (q : List (Entry n)) (row at : ℕ) → ((r : ℕ) → at ≤ r → has_row q r ≡ false) → has_row q row ≡ true → row < at
  low-row q row at none there =
      elim (cases_lt row at) [
        | inl lt ↦ lt
        | inr ge ↦ absurd (cc (none row ge, there))
      ]

  -- a write behind the others
  whole-pushed : (h : List (BankEvent n)) (at l : ℕ) (bytes : List ℕ) (given : List Bool) (q : List (Entry n)) → ((r : ℕ) → at ≤ r → has_row q r ≡ false) → (q ≡ [] → ⊥)
      → HeadWhole h q → HeadWhole (Write at l bytes given wrote.Accepted ∷ h) (q ++ record { row = at; line = l; bytes = bytes; given = given } ∷ [])
  whole-pushed h at l bytes given [] none some was = absurd (some refl)
  whole-pushed h at l bytes given (e ∷ es) none some was =
      whole-behind h e at (Write at l bytes given wrote.Accepted ∷ h)
      (low-row (e ∷ es) e.row at none (head-there (e ∷ es) e.row refl)) was

  -- a write that is merged into one of them
  whole-merged : (h : List (BankEvent n)) (bound at l old : ℕ) (bytes : List ℕ) (given : List Bool) (q : List (Entry n)) → RowsBelow h bound → ((r : ℕ) → at ≤ r → has_row q r ≡ false)
      → RowsApart q → Stands q old l → last_write h l ≡ Some old → HeadWhole h q → HeadWhole (Write at l bytes given (wrote.Merged old) ∷ h) (merged old at bytes given q)
  whole-merged h bound at l old bytes given [] below none apart s last was = absurd s
  whole-merged h bound at l old bytes given (e ∷ es) below none apart s last was = by (eqb e.row old) refl
    where
      now : List (BankEvent n)
      now = Write at l bytes given (wrote.Merged old) ∷ h

      its-line : e.row ≡ old → Stands (e ∷ es) old l → l ≡ e.line
      its-line same (inl is) = sym is.1
      its-line same (inr rest) = absurd (cc (subst (λ r. has_row es r ≡ false) same apart.0, stands-row es old l rest))

      by : (b : Bool) → eqb e.row old ≡ b → HeadWhole now (cond b (laid_on at bytes given e ∷ es) (e ∷ merged old at bytes given es))
      by true is =
          let same : e.row ≡ old = eqb-true e.row old is in
          let its : l ≡ e.line = its-line same s in
          let own : last_write h e.line ≡ Some e.row = subst (λ k. last_write h k ≡ Some e.row) its (last ∙ ap Some (sym same)) in
          let then : e.bytes ≡ newest h e.line = was ∙ newest-since h bound e.line e.row below own in
          ap (λ under. laid bytes given under) then
          ∙ sym (ap (λ b. cond b (laid bytes given (newest h e.line)) (newest h e.line)) (eq-eqb l e.line its))
          ∙ sym (ap (λ b. newest (cond b now (up_to at h)) e.line) (eq-eqb at at refl))
      by false other =
          whole-behind h e at now
          (low-row (e ∷ es) e.row at none (head-there (e ∷ es) e.row refl)) was

  no-newest : (es : List (Entry n)) (line : ℕ) → has_line es line ≡ false → newest_row es line ≡ None
  no-newest es line none = by (newest_row es line) refl
    where
      by : (r : Option ℕ) → newest_row es line ≡ r → r ≡ None
      by None is = refl
      by (Some at) is = absurd (cc (none, stands-line es at line (newest-stands es line at is)))

  -- a store of it is begun
  module _ (most : ℕ) (h : List (BankEvent n)) (bound : ℕ) (may : MayAll shape most h) (below : RowsBelow h bound) where
    whole-completed : (e : Entry n) (es : List (Entry n)) (whole : Bool) → queue shape h ≡ e ∷ es → ArePaired (e ∷ es)
        → IsOwn (line_written e.row h) (given_by e.row h) whole e → (whole ≡ true → IsWhole h e)
        → laid e.bytes e.given (newest h e.line) ≡ newest (up_to e.row h) e.line
    whole-completed e es true is paired own was = full-laid e (newest h e.line) own.bytes own.given (length-newest h e.line) own.gives.0 ∙ was refl
    whole-completed e es false is paired own was = by (has_line es e.line) refl
      where
        stays : laid e.bytes e.given (newest (up_to e.row h) e.line) ≡ newest (up_to e.row h) e.line
        stays =
            ap (λ (layer : Layer). laid layer.bytes layer.given (newest (up_to e.row h) e.line)) own.gives
            ∙ (given-stays most h bound e.row e.line may below own.line).stays

        by : (b : Bool) → has_line es e.line ≡ b → laid e.bytes e.given (newest h e.line) ≡ newest (up_to e.row h) e.line
        by true another =
            let all = paired.1 another in
            full-laid e (newest h e.line) own.bytes own.given (length-newest h e.line) all
            ∙ sym (full-laid e (newest (up_to e.row h) e.line) own.bytes own.given (length-newest (up_to e.row h) e.line) all) ∙ stays
        by false alone =
            let newest_own : newest_row (e ∷ es) e.line ≡ Some e.row =
            ap (λ r. or_this r (cond (eqb e.line e.line) (Some e.row) None)) (no-newest es e.line alone) ∙ ap (λ b. cond b (Some e.row) None) (eq-eqb e.line e.line refl) in
            let last : last_write h e.line ≡ Some e.row = queue-last shape e.line e.row most h bound may below (ap (λ q. newest_row q e.line) is ∙ newest_own) in
            ap (λ under. laid e.bytes e.given under) (sym (newest-since h bound e.line e.row below last)) ∙ stays

    whole-begun : (due : Option ℕ) (q : List (Entry n)) (whole : Bool) → queue shape h ≡ q → ArePaired q
        → AreOwn (λ row. line_written row h) (λ row. given_by row h) whole q → (whole ≡ true → HeadWhole h q) → (is_none due || whole) ≡ true
        → HeadWhole h (begun due (newest h) q)
    whole-begun (Some region) q whole is paired own was some = was some
    whole-begun None [] whole is paired own was some = tt
    whole-begun None (e ∷ es) whole is paired own was some = whole-completed e es whole is paired own.0 was

  -- what comes behind it leaves it as it is
  whole-same : (h now : List (BankEvent n)) (q : List (Entry n)) → ((row : ℕ) → has_row q row ≡ true → up_to row now ≡ up_to row h) → HeadWhole h q → HeadWhole now q
  whole-same h now [] same was = tt
  whole-same h now (e ∷ es) same was =
      was
      ∙ ap (λ past. newest past e.line) (sym (same e.row (head-there (e ∷ es) e.row refl)))

  unchanged : (h : List (BankEvent n)) (at : ℕ) (whole : List (BankEvent n)) (q : List (Entry n)) → RowsBelow h at → ((r : ℕ) → at ≤ r → has_row q r ≡ false) → (row : ℕ) → has_row q row ≡ true
      → cond (eqb at row) whole (up_to row h) ≡ up_to row h
  unchanged h at whole q below none row there = ap (λ b. cond b whole (up_to row h)) (above at row (low-row q row at none there))

  begin-whole : (most : ℕ) (h : List (BankEvent n)) (bound : ℕ) (answer : Step) → MayAll shape most h → RowsBelow h bound → (is_head_begun shape h ≡ true → HeadWhole h (queue shape h))
      → (is_none (due_after shape h) || is_head_begun shape h) ≡ true → HeadWhole (Begin answer ∷ h) (begun (due_after shape h) (newest h) (queue shape h))
  begin-whole most h bound answer may below was is =
      whole-same h (Begin answer ∷ h) (begun (due_after shape h) (newest h) (queue shape h)) (λ row there. refl)
      (whole-begun most h bound may below (due_after shape h) (queue shape h) (is_head_begun shape h) refl (keeps_pairs shape most h may).paired (queue-own shape most h bound may below) was is)

  pub head-whole : (most : ℕ) (h : List (BankEvent n)) (bound : ℕ) → MayAll shape most h → RowsBelow h bound → is_head_begun shape h ≡ true → HeadWhole h (queue shape h)
  head-whole most [] bound may below is = tt
  head-whole most (Write at l bytes given wrote.Accepted ∷ h) bound may below is =
      whole-pushed h at l bytes given (queue shape h) ((stand_apart shape h at below.1).queued_below)
      (λ empty.
      let never : is_head_begun shape h ≡ false = subst (λ (q : List (Entry n)). AreOwn (λ row. line_written row h) (λ row. given_by row h) (is_head_begun shape h) q) empty (queue-own shape most h at may.1 below.1) in
      absurd (cc (never, is)))
      (head-whole most h at may.1 below.1 is)
  head-whole most (Write at l bytes given (wrote.Merged old) ∷ h) bound may below is =
      let apart = stand_apart shape h at below.1 in
      whole-merged h at at l old bytes given (queue shape h) below.1 apart.queued_below apart.queued_apart (merges-stands shape h l old may.0.2)
      (old-last most h at l old may.1 below.1 may.0.2) (head-whole most h at may.1 below.1 is)
  head-whole most (Write at l bytes given wrote.Full ∷ h) bound may below is =
      whole-same h (Write at l bytes given wrote.Full ∷ h) (queue shape h)
      (unchanged h at (Write at l bytes given wrote.Full ∷ h) (queue shape h) below.1 ((stand_apart shape h at below.1).queued_below)) (head-whole most h at may.1 below.1 is)
  head-whole most (Write at l bytes given wrote.Exhausted ∷ h) bound may below is =
      whole-same h (Write at l bytes given wrote.Exhausted ∷ h) (queue shape h)
      (unchanged h at (Write at l bytes given wrote.Exhausted ∷ h) (queue shape h) below.1 ((stand_apart shape h at below.1).queued_below)) (head-whole most h at may.1 below.1 is)
  head-whole most (Read at l answer ∷ h) bound may below is = whole-same h (Read at l answer ∷ h) (queue shape h) (λ row there. refl) (head-whole most h at may.1 below.1 is)
  head-whole most (Serve answer ∷ h) bound may below is = whole-same h (Serve answer ∷ h) (queue shape h) (λ row there. refl) (head-whole most h bound may.1 below is)
  head-whole most (Cut tearing ∷ h) bound may below is = whole-same h (Cut tearing ∷ h) (queue shape h) (λ row there. refl) (head-whole most h bound may.1 below is)
  head-whole most (Begin (did.Stored row place) ∷ h) bound may below is = absurd (cc)
  head-whole most (Begin answer ∷ h) bound may below is = begin-whole most h bound answer may.1 below (head-whole most h bound may.1 below) is
  head-whole most (Iterate (did.Stored row place) ∷ h) bound may below is = absurd (cc)
  head-whole most (Iterate answer ∷ h) bound may below is = whole-same h (Iterate answer ∷ h) (queue shape h) (λ row there. refl) (head-whole most h bound may.1 below is)
