-- Each entry of a history's queue has the line of its own write, and the bytes of its own writes.
use Rattle.std.proofs.Common.{◌≡◌, ℕ, zero, suc, ◌==◌, ◌||◌, ◌&&◌, inl, inr, not, Bool, true, false, List, [], ◌∷◌, ◌++◌, length, drop, slice_get, Option, Some, None, refl, sym, ap, subst, ◌∙◌, arith, cond, eqb, eqb-true}
use Rattle.std.{specs.Prelude.is_none, proofs.lemmas.Bool.{eq-eqb, ne_eqb}, proofs.lemmas.List.length-replicate}
use Rattle.masked_bytes.specs.{Entries.{Layer, stacked, laid_on, merged, completed_by, has_row, RowsApart}, Masked.{laid, IsMasked}, declared.entry.Entry.Entry}
use Rattle.masked_bytes.proofs.Layering.{length-laid, laid-again, laid-between, length-joined, laid-all_given, laid-laid, gives_all-all_given, all_given-gives_all}
use Rattle.masked_bytes.proofs.Truth.{neither_first, neither_second, and_second, differ_sym}
use Rattle.bank_shape.specs.{declared.BankShape.BankShape, declared.Work.TheVariants.Nothing}
use Rattle.bank_shape.specs.declared.answer.WriteAnswer.TheVariants as wrote
use Rattle.bank_shape.specs.declared.answer.Step.TheVariants as did
use Rattle.bank_model.specs.{After.{is_ready, due_work}, Answers.MayAll, Events.{BankEvent, Write, Read, Begin, Iterate, newest, RowsBelow}}
use Rattle.bank_model.{specs.History.{Awaited, begun, queue, waits, due_after, has_exhausted, in_progress}, proofs.Newest.length-newest}
use Rattle.bank_laws.proofs.{Lines.{Stands, stands-row, merges-stands}, Pairs.gives_all-joined, Standing.stand_apart}
use Rattle.queue_laws.specs.EntryLaws.{line_written, given_by, is_head_begun, Gives, EntryLineLaw, EntryBytesLaw}

-- Entries

-- an entry, where its own write has this line, its own writes give these bytes, and it was completed or not
pub record IsOwn {n : ℕ} (written : Option ℕ) (own : Layer) (whole : Bool) (e : Entry n) : Type 0 where
  pub line : written ≡ Some e.line
  pub own_bytes : length own.bytes ≡ n
  pub own_given : length own.given ≡ n
  pub bytes : length e.bytes ≡ n
  pub given : length e.given ≡ n
  pub gives : Gives whole own e

-- what the write of a row changes: nothing of the other rows
record Writes (row : ℕ) (lines after : ℕ → Option ℕ) (own next : ℕ → Layer) : Type 0 where
  line : (r : ℕ) → (row == r) ≡ false → after r ≡ lines r
  bytes : (r : ℕ) → (row == r) ≡ false → next r ≡ own r

module _ {n : ℕ} where
  -- it is laid under a write of its line that is merged into it
  gives-laid : (whole : Bool) (own : Layer) (row : ℕ) (bytes : List ℕ) (given : List Bool) (e : Entry n) → IsMasked n bytes given
      → length own.bytes ≡ n → length own.given ≡ n → length e.bytes ≡ n → length e.given ≡ n
      → Gives whole own e → Gives whole (stacked (record { bytes = bytes; given = given }) own) (laid_on row bytes given e)
  gives-laid false own row bytes given e m a b c d gives = ap (λ below. stacked (record { bytes = bytes; given = given }) below) gives
  gives-laid true own row bytes given e m a b c d gives = (
    gives_all-joined given e.given (m.given_len ∙ sym d) gives.0,
    laid-laid bytes given own.bytes own.given (laid bytes given e.bytes)
        (m.given_len ∙ sym m.bytes_len) (a ∙ sym m.bytes_len) (b ∙ sym m.bytes_len) (length-laid bytes given e.bytes ∙ c ∙ sym m.bytes_len)
        ∙ laid-between bytes given own.bytes own.given e.bytes gives.1,
  )

  own-laid : (written : Option ℕ) (own : Layer) (whole : Bool) (row line : ℕ) (bytes : List ℕ) (given : List Bool) (e : Entry n)
      → IsMasked n bytes given → e.line ≡ line
      → IsOwn written own whole e
      → IsOwn (Some line) (stacked (record { bytes = bytes; given = given }) own) whole (laid_on row bytes given e)
  own-laid written own whole row line bytes given e m at is = record {
    line = ap Some (sym at);
    own_bytes = length-laid bytes given own.bytes ∙ is.own_bytes;
    own_given = length-joined given own.given (m.given_len ∙ sym is.own_given) ∙ is.own_given;
    bytes = length-laid bytes given e.bytes ∙ is.bytes;
    given = length-joined given e.given (m.given_len ∙ sym is.given) ∙ is.given;
    gives = gives-laid whole own row bytes given e m is.own_bytes is.own_given is.bytes is.given is.gives;
  }

  -- a begin completes it
  completed-bytes : (whole : Bool) (own : Layer) (e : Entry n) (under : List ℕ) → length e.bytes ≡ n → length e.given ≡ n → length under ≡ n
      → Gives whole own e
      → laid own.bytes own.given (laid e.bytes e.given under) ≡ laid e.bytes e.given under
  completed-bytes false own e under a b c gives =
      ap (λ (l : Layer). laid l.bytes l.given (laid e.bytes e.given under)) (sym gives) ∙ laid-again e.bytes e.given under
  completed-bytes true own e under a b c gives =
      let same : laid e.bytes e.given under ≡ e.bytes =
      ap (λ given. laid e.bytes given under) (all_given-gives_all n e.given b gives.0) ∙ laid-all_given n e.bytes under a c in
      ap (λ bytes. laid own.bytes own.given bytes) same ∙ gives.1 ∙ sym same

  own-completed : (written : Option ℕ) (own : Layer) (whole : Bool) (e : Entry n) (under : List ℕ) → length under ≡ n
      → IsOwn written own whole e → IsOwn written own true (completed_by under e)
  own-completed written own whole e under len is = record {
    line = is.line;
    own_bytes = is.own_bytes;
    own_given = is.own_given;
    bytes = length-laid e.bytes e.given under ∙ len;
    given = length-replicate n true;
    gives = (gives_all-all_given n, completed-bytes whole own e under is.bytes is.given len is.gives);
  }

  -- The entries of a queue

  -- each of these entries is so, and not completed
  abbrev pub EachOwn : (ℕ → Option ℕ) → (ℕ → Layer) → List (Entry n) → Type 0
  EachOwn lines own [] = Unit {0}
  EachOwn lines own (e ∷ es) = IsOwn (lines e.row) (own e.row) false e × EachOwn lines own es

  -- but the head may be
  abbrev pub AreOwn : (ℕ → Option ℕ) → (ℕ → Layer) → Bool → List (Entry n) → Type 0
  AreOwn lines own whole [] = whole ≡ false
  AreOwn lines own whole (e ∷ es) = IsOwn (lines e.row) (own e.row) whole e × EachOwn lines own es

  each-own : (lines : ℕ → Option ℕ) (own : ℕ → Layer) (es : List (Entry n)) → EachOwn lines own es → AreOwn lines own false es
  each-own lines own es are = grind arith

  own-drop : (lines : ℕ → Option ℕ) (own : ℕ → Layer) (whole : Bool) (es : List (Entry n)) → AreOwn lines own whole es
      → AreOwn lines own false (drop 1 es)
  own-drop lines own whole [] are = refl
  own-drop lines own whole (e ∷ es) are = each-own lines own es are.1

  own-begun : (lines : ℕ → Option ℕ) (own : ℕ → Layer) (whole : Bool) (due : Option ℕ) (f : ℕ → List ℕ) (es : List (Entry n))
      → ((line : ℕ) → length (f line) ≡ n)
      → (due ≡ None → es ≡ [] → ⊥) → AreOwn lines own whole es → AreOwn lines own (is_none due || whole) (begun due f es)
  own-begun lines own whole (Some region) f es len some are = are
  own-begun lines own whole None f [] len some are = absurd (some refl refl)
  own-begun lines own whole None f (e ∷ es) len some are = (own-completed (lines e.row) (own e.row) whole e (f e.line) (len e.line) are.0, are.1)

  -- A write

  module _ (row : ℕ) (lines after : ℕ → Option ℕ) (own next : ℕ → Layer) (writes : Writes row lines after own next) where
    own-aside : (whole : Bool) (e : Entry n) → (e.row == row) ≡ false → IsOwn (lines e.row) (own e.row) whole e
        → IsOwn (after e.row) (next e.row) whole e
    own-aside whole e other is =
        let turned : (row == e.row) ≡ false = differ_sym e.row row other in
        subst (λ (l : Layer). IsOwn (after e.row) l whole e) (sym (writes.bytes e.row turned))
        (subst (λ (w : Option ℕ). IsOwn w (own e.row) whole e) (sym (writes.line e.row turned)) is)

    each-aside : (es : List (Entry n)) → has_row es row ≡ false → EachOwn lines own es → EachOwn after next es
    each-aside [] none are = tt
    each-aside (e ∷ es) none are = (own-aside false e (neither_first (e.row == row) _ none) are.0, each-aside es (neither_second (e.row == row) _ none) are.1)

    -- it is accepted
    each-pushed : (es : List (Entry n)) (x : Entry n) → has_row es row ≡ false → IsOwn (after x.row) (next x.row) false x
        → EachOwn lines own es → EachOwn after next (es ++ x ∷ [])
    each-pushed [] x none new are = (new, tt)
    each-pushed (e ∷ es) x none new are =
        (own-aside false e (neither_first (e.row == row) _ none) are.0, each-pushed es x (neither_second (e.row == row) _ none) new are.1)

    own-pushed : (whole : Bool) (es : List (Entry n)) (x : Entry n) → has_row es row ≡ false → IsOwn (after x.row) (next x.row) false x
        → AreOwn lines own whole es → AreOwn after next whole (es ++ x ∷ [])
    own-pushed whole [] x none new are = (subst (λ (b : Bool). IsOwn (after x.row) (next x.row) b x) (sym are) new, tt)
    own-pushed whole (e ∷ es) x none new are =
        (own-aside whole e (neither_first (e.row == row) _ none) are.0, each-pushed es x (neither_second (e.row == row) _ none) new are.1)

    -- it is merged into an entry of its line
    module _ (old line : ℕ) (bytes : List ℕ) (given : List Bool) (m : IsMasked n bytes given)
        (line_is : after row ≡ Some line) (bytes_are : next row ≡ stacked (record { bytes = bytes; given = given }) (own old)) where
      own-into : (whole : Bool) (e : Entry n) → e.row ≡ old → e.line ≡ line → IsOwn (lines e.row) (own e.row) whole e
          → IsOwn (after row) (next row) whole (laid_on row bytes given e)
      own-into whole e same at is =
          subst (λ (l : Layer). IsOwn (after row) l whole (laid_on row bytes given e)) (sym (bytes_are ∙ ap (λ r. stacked (record { bytes = bytes; given = given }) (own r)) (sym same)))
          (subst (λ (w : Option ℕ). IsOwn w (stacked (record { bytes = bytes; given = given }) (own e.row)) whole (laid_on row bytes given e)) (sym line_is)
          (own-laid (lines e.row) (own e.row) whole row line bytes given e m at is))

      -- the entry that stands there with the old row has the write's line
      its-line : (e : Entry n) (es : List (Entry n)) → has_row es e.row ≡ false → e.row ≡ old → Stands (e ∷ es) old line → e.line ≡ line
      its-line e es apart same (inl s) = s.1
      its-line e es apart same (inr s) = absurd (cc (subst (λ r. has_row es r ≡ false) same apart, stands-row es old line s))

      behind : (e : Entry n) (es : List (Entry n)) → (e.row == old) ≡ false → Stands (e ∷ es) old line → Stands es old line
      behind e es other (inl s) = absurd (cc (other, eq-eqb e.row old s.0))
      behind e es other (inr s) = s

      each-merged : (es : List (Entry n)) → has_row es row ≡ false → RowsApart es → Stands es old line → EachOwn lines own es
          → EachOwn after next (merged old row bytes given es)
      each-merged [] none apart s are = absurd s
      each-merged (e ∷ es) none apart s are =
          by (eqb e.row old) refl (λ t. each-merged es (neither_second (e.row == row) _ none) apart.1 t are.1)
        where
          by : (b : Bool) → eqb e.row old ≡ b → (Stands es old line → EachOwn after next (merged old row bytes given es))
              → EachOwn after next (cond b (laid_on row bytes given e ∷ es) (e ∷ merged old row bytes given es))
          by true is go =
              let same : e.row ≡ old = eqb-true e.row old is in
              (own-into false e same (its-line e es apart.0 same s) are.0, each-aside es (neither_second (e.row == row) _ none) are.1)
          by false is go = (own-aside false e (neither_first (e.row == row) _ none) are.0, go (behind e es is s))

      own-merged : (whole : Bool) (es : List (Entry n)) → has_row es row ≡ false → RowsApart es → Stands es old line
          → AreOwn lines own whole es → AreOwn after next whole (merged old row bytes given es)
      own-merged whole [] none apart s are = absurd s
      own-merged whole (e ∷ es) none apart s are =
          by (eqb e.row old) refl
        where
          by : (b : Bool) → eqb e.row old ≡ b
              → AreOwn after next whole (cond b (laid_on row bytes given e ∷ es) (e ∷ merged old row bytes given es))
          by true is =
              let same : e.row ≡ old = eqb-true e.row old is in
              (own-into whole e same (its-line e es apart.0 same s) are.0, each-aside es (neither_second (e.row == row) _ none) are.1)
          by false is =
              (own-aside whole e (neither_first (e.row == row) _ none) are.0, each-merged es (neither_second (e.row == row) _ none) apart.1 (behind e es is s) are.1)

-- Histories

module _ {n : ℕ} (shape : BankShape) where
  -- the entries of the queue after some events
  abbrev pub QueueOwn : List (BankEvent n) → Type 0
  QueueOwn h = AreOwn (λ row. line_written row h) (λ row. given_by row h) (is_head_begun shape h) (queue shape h)

  -- where a line write may be begun and no gap move is due, a head stands
  ready-head : (h : List (BankEvent n)) (b : Bool) (due : Option ℕ) (q : List (Entry n)) (ws : List Awaited)
      → is_ready ws (cond b Nothing (due_work shape h due q)) ≡ true
      → due ≡ None → q ≡ [] → ⊥
  ready-head h b due q ws r none empty = grind arith

  begun-own : (h : List (BankEvent n))
      → (not (in_progress h) && is_ready (waits shape h) (cond (has_exhausted h) Nothing (due_work shape h (due_after shape h) (queue shape h)))) ≡ true
      → QueueOwn h
      → AreOwn (λ row. line_written row h) (λ row. given_by row h) (is_none (due_after shape h) || is_head_begun shape h) (begun (due_after shape h) (newest h) (queue shape h))
  begun-own h may are =
      own-begun (λ row. line_written row h) (λ row. given_by row h) (is_head_begun shape h) (due_after shape h) (newest h) (queue shape h) (length-newest h)
      (ready-head h (has_exhausted h) (due_after shape h) (queue shape h) (waits shape h) (and_second (not (in_progress h)) _ may)) are

  pub queue-own : (most : ℕ) (h : List (BankEvent n)) (bound : ℕ) → MayAll shape most h → RowsBelow h bound → QueueOwn h
  queue-own most [] bound may below = refl
  queue-own most (Write row line bytes given wrote.Accepted ∷ h) bound may below =
      own-pushed row (λ r. line_written r h) (λ r. line_written r (Write row line bytes given wrote.Accepted ∷ h)) (λ r. given_by r h) (λ r. given_by r (Write row line bytes given wrote.Accepted ∷ h))
      (record { line = λ r off. ap (λ b. cond b (Some line) (line_written r h)) off; bytes = λ r off. ap (λ b. cond b (record { bytes = bytes; given = given }) (given_by r h)) off })
      (is_head_begun shape h) (queue shape h) (record { row = row; line = line; bytes = bytes; given = given })
      ((stand_apart shape h row below.1).queued_below row (omega arith)) new (queue-own most h row may.1 below.1)
    where
      one : (row == row) ≡ true
      one = eq-eqb row row refl

      its : given_by row (Write row line bytes given wrote.Accepted ∷ h) ≡ record { bytes = bytes; given = given }
      its = ap (λ b. cond b (record { bytes = bytes; given = given }) (given_by row h)) one

      new : IsOwn {n = n} (line_written row (Write row line bytes given wrote.Accepted ∷ h))
          (given_by row (Write row line bytes given wrote.Accepted ∷ h)) false (record { row = row; line = line; bytes = bytes; given = given })
      new = record {
        line = ap (λ b. cond b (Some line) (line_written row h)) one;
        own_bytes = ap (λ (l : Layer). length l.bytes) its ∙ may.0.1.bytes_len;
        own_given = ap (λ (l : Layer). length l.given) its ∙ may.0.1.given_len;
        bytes = may.0.1.bytes_len;
        given = may.0.1.given_len;
        gives = sym its;
      }
  queue-own most (Write row line bytes given (wrote.Merged old) ∷ h) bound may below =
      let apart = stand_apart shape h row below.1 in
      own-merged row (λ r. line_written r h) (λ r. line_written r (Write row line bytes given (wrote.Merged old) ∷ h)) (λ r. given_by r h) (λ r. given_by r (Write row line bytes given (wrote.Merged old) ∷ h))
      (record { line = λ r off. ap (λ b. cond b (Some line) (line_written r h)) off; bytes = λ r off. ap (λ b. cond b (stacked (record { bytes = bytes; given = given }) (given_by old h)) (given_by r h)) off })
      old line bytes given may.0.1 (ap (λ b. cond b (Some line) (line_written row h)) one) (ap (λ b. cond b (stacked (record { bytes = bytes; given = given }) (given_by old h)) (given_by row h)) one)
      (is_head_begun shape h) (queue shape h) (apart.queued_below row (omega arith)) apart.queued_apart (merges-stands shape h line old may.0.2) (queue-own most h row may.1 below.1)
    where
      one : (row == row) ≡ true
      one = eq-eqb row row refl
  queue-own most (Write row line bytes given _ ∷ h) bound may below = queue-own most h row may.1 below.1
  queue-own most (Read row line answer ∷ h) bound may below = queue-own most h row may.1 below.1
  queue-own most (Begin (did.Stored row place) ∷ h) bound may below = own-drop _ _ (is_head_begun shape h) (queue shape h) (queue-own most h bound may.1 below)
  queue-own most (Begin _ ∷ h) bound may below = begun-own h may.0.0 (queue-own most h bound may.1 below)
  queue-own most (Iterate (did.Stored row place) ∷ h) bound may below = own-drop _ _ (is_head_begun shape h) (queue shape h) (queue-own most h bound may.1 below)
  queue-own most (_ ∷ h) bound may below = queue-own most h bound may.1 below

module _ {n : ℕ} where
  -- the entry at a place
  each-at : (lines : ℕ → Option ℕ) (own : ℕ → Layer) (es : List (Entry n)) (place : ℕ) (e : Entry n) → EachOwn lines own es
      → slice_get es place ≡ Some e → IsOwn (lines e.row) (own e.row) false e
  each-at lines own [] place e are is = absurd (cc)
  each-at lines own (f ∷ es) zero e are is = let same : f ≡ e = cc in subst (λ (x : Entry n). IsOwn (lines x.row) (own x.row) false x) same are.0
  each-at lines own (f ∷ es) (suc place) e are is = each-at lines own es place e are.1 is

  own-at : (lines : ℕ → Option ℕ) (own : ℕ → Layer) (whole : Bool) (es : List (Entry n)) (place : ℕ) (e : Entry n)
      → AreOwn lines own whole es → slice_get es place ≡ Some e
      → IsOwn (lines e.row) (own e.row) (place == 0 && whole) e
  own-at lines own whole [] place e are is = absurd (cc)
  own-at lines own whole (f ∷ es) zero e are is = let same : f ≡ e = cc in subst (λ (x : Entry n). IsOwn (lines x.row) (own x.row) whole x) same are.0
  own-at lines own whole (f ∷ es) (suc place) e are is =
      let behind : (suc place == 0) ≡ false = ne_eqb (suc place) 0 (λ e. absurd (omega (arith, e))) in
      subst (λ (b : Bool). IsOwn (lines e.row) (own e.row) (b && whole) e) (sym behind) (each-at lines own es place e are.1 is)

pub entry_line_law : EntryLineLaw
entry_line_law n most bound place shape h entry may below is =
    (own-at (λ row. line_written row h) (λ row. given_by row h) (is_head_begun shape h) (queue shape h) place entry (queue-own shape most h bound may below) is).line

pub entry_bytes_law : EntryBytesLaw
entry_bytes_law n most bound place shape h entry may below is =
    (own-at (λ row. line_written row h) (λ row. given_by row h) (is_head_begun shape h) (queue shape h) place entry (queue-own shape most h bound may below) is).gives
