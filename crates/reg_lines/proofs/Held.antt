-- That the calls keep what ties the control lines to the array.
use Rattle.std.proofs.Common.{◌≡◌, ◌≢◌, ℕ, ◌+◌, ◌<◌, ◌≤◌, refl, sym, ap, subst, ◌∙◌, arith, Bool, true, false, Option, Some, None, eqb, eqb-true, eq-eqb}
use Rattle.std.specs.Prelude.{IfSome, IsSomeAnd, IsTrue, is_some}
use Rattle.cell_rows.specs.Device.{ArrayState, LineState}
use Rattle.ecp_line.specs.{Reading.{decode, IsSoundLine, IsWornLine}, Untouched.{HasUntouched, AreUntouched}}
use Rattle.line_writer.specs.{Writing.{Writes, IsProgress, HasBegun, IsWorn}, declared.writer.LineWriter.LineWriter, declared.writer.Progress.Progress}
use Rattle.line_writer.proofs.Untouched.{AreUntouched-same, AreUntouched-beside}
use Rattle.line_writer.specs.declared.writer.Progress.TheVariants as progress
use Rattle.bank_shape.specs.declared.answer.Keep.{Keep}
use Rattle.bank_shape.specs.declared.answer.Keep.TheVariants as keep
use Rattle.reg_lines.specs.{Keeping.{keep_from, kept_on, broken_off}, Regs.{RegsState, AreHeld, IsWritingOf}, Values.encoded, declared.Change.Change}
use Rattle.reg_lines.specs.declared.regs.RegLines.TheInside.{Inside}

-- what contracts see of control lines, by their fields
abbrev pub view_of : {n m e : ℕ} → Inside n m e → RegsState n m e
view_of inside = record { base = inside.base; items = inside.items; change = inside.change; halted = inside.halted; writer = inside.writer }

-- a line write that has just begun is not at a worn line
pub begun-goes : (p : Progress) → HasBegun p → keep_from p ≢ keep.Halted
begun-goes progress.More begun halted = cc
begun-goes progress.Stored begun halted = cc
begun-goes (progress.Worn cause) begun halted = begun

pub begun-fresh : (p : Progress) → HasBegun p → IsWorn p → ⊥
begun-fresh progress.More begun worn = worn
begun-fresh progress.Stored begun worn = worn
begun-fresh (progress.Worn cause) begun worn = begun

-- two items have two lines
items-apart : (base item other : ℕ) → eqb item other ≡ false → base + item ≢ base + other
items-apart base item other off same = let equal : item ≡ other = omega (arith, same) in let yes : eqb item other ≡ true = eq-eqb item other equal in cc

module _ {n m e : ℕ} where
  -- what a step leaves doesn't depend on the line write that was taken out for it
  pub kept-over : (answer : Keep) (now : LineWriter n m e) (regs : RegsState n m e) (taken : Option (LineWriter n m e))
      → kept_on answer now (record { base = regs.base; items = regs.items; change = regs.change; halted = regs.halted; writer = taken }) ≡ kept_on answer now regs
  kept-over keep.More now regs taken = refl
  kept-over keep.Done now regs taken = refl
  kept-over keep.Halted now regs taken = refl

  -- what a step of the writing of a change leaves
  pub record HasStepped (regs : RegsState n m e) (array : ArrayState n m) (change : Change) (writer : LineWriter n m e) : Type 0 where
    pub stands : regs.change ≡ Some change
    pub going : regs.halted ≡ false
    pub exist : regs.base + regs.items ≤ array.lines
    pub sound : (item : ℕ) → item < regs.items → IsSoundLine e (array.line (regs.base + item))
    pub unused : AreUntouched e array regs.base regs.items
    pub bytes : writer.bytes ≡ encoded n change.values
    pub writes : Writes writer (array.line (regs.base + change.item))
    pub worn : IsWorn writer.progress → IsWornLine e (array.line (regs.base + change.item))

  -- the control lines are held on
  pub held-stepped : (regs : RegsState n m e) (array : ArrayState n m) (change : Change) (writer : LineWriter n m e)
      → HasStepped regs array change writer → AreHeld (kept_on (keep_from writer.progress) writer regs) array
  held-stepped regs array change writer h = by writer.progress refl
    where
      by : (p : Progress) → writer.progress ≡ p → AreHeld (kept_on (keep_from p) writer regs) array
      by progress.More is = record {
        exist = h.exist;
        sound = h.sound;
        unused = h.unused;
        writing = rw h.stands (record { bytes = h.bytes; more = is; writes = h.writes });
        halted = λ yes. let no = sym h.going ∙ yes in cc;
      }
      by progress.Stored is = record { exist = h.exist; sound = h.sound; unused = h.unused; writing = tt; halted = λ yes. let no = sym h.going ∙ yes in cc }
      by (progress.Worn cause) is = record {
        exist = h.exist;
        sound = h.sound;
        unused = h.unused;
        writing = tt;
        halted = λ yes. rw h.stands (h.worn (subst IsWorn (sym is) tt));
      }

  -- where it is done, its line holds the values
  pub done-holds : (change : Change) (writer : LineWriter n m e) (line : LineState n m) → writer.bytes ≡ encoded n change.values → Writes writer line
      → keep_from writer.progress ≡ keep.Done → decode e line.held ≡ encoded n change.values
  done-holds change writer line bytes writes = by writer.progress refl
    where
      by : (p : Progress) → writer.progress ≡ p → keep_from p ≡ keep.Done → decode e line.held ≡ encoded n change.values
      by progress.More is done = cc
      by progress.Stored is done = (subst (λ (p : Progress). IsProgress writer line p) is writes.answer).2 ∙ bytes
      by (progress.Worn cause) is done = cc

  -- every other control line is as it was, and this one is sound
  pub sound-beside : (regs : RegsState n m e) (before after : ArrayState n m) (written : ℕ) → AreHeld regs before
      → ((at : ℕ) → at ≢ regs.base + written → after.line at ≡ before.line at) → IsSoundLine e (after.line (regs.base + written))
      → (item : ℕ) → item < regs.items → IsSoundLine e (after.line (regs.base + item))
  sound-beside regs before after written held others sound item below = by (eqb item written) refl
    where
      by : (b : Bool) → eqb item written ≡ b → IsSoundLine e (after.line (regs.base + item))
      by true is = subst (λ (i : ℕ). IsSoundLine e (after.line (regs.base + i))) (sym (eqb-true item written is)) sound
      by false is =
          subst (λ (l : LineState n m). IsSoundLine e l) (sym (others (regs.base + item) (items-apart regs.base item written is))) (held.sound item below)

  -- what a line write that goes on is to its line
  pub writing-of : (regs : RegsState n m e) (array : ArrayState n m) (change : Change) (writer : LineWriter n m e) → AreHeld regs array
      → regs.change ≡ Some change → regs.writer ≡ Some writer → IsWritingOf writer (array.line (regs.base + change.item)) change
  writing-of regs array change writer held stands runs =
      subst (λ (c : Option Change). IsSomeAnd c (λ change. IsWritingOf writer (array.line (regs.base + change.item)) change)) stands
      (subst (λ (w : Option (LineWriter n m e)). IfSome w (λ writer. IsSomeAnd regs.change (λ change. IsWritingOf writer (array.line (regs.base + change.item)) change))) runs held.writing)

  -- a sense leaves the lines, and so all that is held
  pub held-same : (regs : RegsState n m e) (before after : ArrayState n m) → AreHeld regs before → after.lines ≡ before.lines
      → ((item : ℕ) → item < regs.items → after.line (regs.base + item) ≡ before.line (regs.base + item)) → IfSome regs.change (λ change. change.item < regs.items)
      → AreHeld regs after
  held-same regs before after held lines same item = record {
    exist = rw lines held.exist;
    sound = λ i below. subst (λ (l : LineState n m). IsSoundLine e l) (sym (same i below)) (held.sound i below);
    unused = AreUntouched-same e before after regs.base regs.items same held.unused;
    writing = by-writer regs.writer regs.change item held.writing;
    halted = λ yes. by-halted regs.change item (held.halted yes);
  }
    where
      by-change : (writer : LineWriter n m e) (c : Option Change) → IfSome c (λ change. change.item < regs.items)
          → IsSomeAnd c (λ change. IsWritingOf writer (before.line (regs.base + change.item)) change)
          → IsSomeAnd c (λ change. IsWritingOf writer (after.line (regs.base + change.item)) change)
      by-change writer None i of = of
      by-change writer (Some change) i of = rw (same change.item i) of

      by-writer : (w : Option (LineWriter n m e)) (c : Option Change) → IfSome c (λ change. change.item < regs.items)
          → IfSome w (λ writer. IsSomeAnd c (λ change. IsWritingOf writer (before.line (regs.base + change.item)) change))
          → IfSome w (λ writer. IsSomeAnd c (λ change. IsWritingOf writer (after.line (regs.base + change.item)) change))
      by-writer None c i of = tt
      by-writer (Some writer) c i of = by-change writer c i of

      by-halted : (c : Option Change) → IfSome c (λ change. change.item < regs.items)
          → IsSomeAnd c (λ change. IsWornLine e (before.line (regs.base + change.item)))
          → IsSomeAnd c (λ change. IsWornLine e (after.line (regs.base + change.item)))
      by-halted None i worn = worn
      by-halted (Some change) i worn = rw (same change.item i) worn

  -- a cut ends the line write; the line that it tears is sound
  pub held-broken : (regs : RegsState n m e) (before after : ArrayState n m) (change : Change) → AreHeld regs before → regs.change ≡ Some change → regs.halted ≡ false
      → after.lines ≡ before.lines → ((at : ℕ) → at ≢ regs.base + change.item → after.line at ≡ before.line at)
      → IsSoundLine e (after.line (regs.base + change.item))
      → (HasUntouched e (before.line (regs.base + change.item)) → HasUntouched e (after.line (regs.base + change.item))) → AreHeld (broken_off regs) after
  held-broken regs before after change held stands going lines others sound unused = record {
    exist = rw lines held.exist;
    sound = sound-beside regs before after change.item held others sound;
    unused = AreUntouched-beside e before after (regs.base + change.item) regs.base regs.items others unused held.unused;
    writing = tt;
    halted = λ yes. let no = sym going ∙ yes in cc;
  }

  -- and one that tears none leaves every line
  pub held-stopped : (regs : RegsState n m e) (array : ArrayState n m) → AreHeld regs array → AreHeld (broken_off regs) array
  held-stopped regs array held = record { exist = held.exist; sound = held.sound; unused = held.unused; writing = tt; halted = held.halted }

  -- a change that is being written hasn't halted
  pub running-going : (regs : RegsState n m e) (writer : LineWriter n m e) → regs.writer ≡ Some writer → (IsTrue regs.halted → regs.writer ≡ None) → regs.halted ≡ false
  running-going regs writer runs idle = by regs.halted refl
    where
      by : (b : Bool) → regs.halted ≡ b → regs.halted ≡ false
      by true is = let no = sym runs ∙ idle is in cc
      by false is = is

-- a cut is torn only where something is written
pub quiet-cut : {A : Type 0} (tearing : Bool) (writer : Option A) → (IsTrue tearing → IsTrue (is_some writer)) → writer ≡ None → tearing ≡ false
quiet-cut false writer runs none = refl
quiet-cut true writer runs none = let no = sym (ap (λ w. is_some w) none) ∙ runs refl in cc

-- what is written is a change
pub written-stands : {A : Type 0} (writer : Option A) (change : Option Change) (w : A) → IfSome writer (λ w. IsTrue (is_some change)) → writer ≡ Some w → change ≡ None → ⊥
written-stands writer change w written is none =
    let some = subst (λ (o : Option _). IfSome o (λ w. IsTrue (is_some change))) is written in
    let no = sym (ap (λ c. is_some c) none) ∙ some in cc
