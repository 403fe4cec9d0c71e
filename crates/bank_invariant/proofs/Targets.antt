-- What stays while an array differs at most at the line that is being written, and that line is sound.
use Rattle.std.proofs.Common.{◌≡◌, ◌≢◌, ℕ, ◌+◌, ◌<◌, ◌≤◌, inl, inr, Bool, false, cond, List, [], ◌∷◌, length, slice_get, get_or, Option, Some, None, sym, ap, subst, ◌∙◌, arith}
use Rattle.std.{specs.Prelude.{IsTrue, IsSomeAnd, All}, proofs.lemmas.Bool.cases_eq, proofs.lemmas.List.Elements.All-weaker}
use Rattle.masked_bytes.specs.{Entries.{layer_of, AllMasked}, Masked.{laid, gives_all, all_given}, declared.entry.Entry.Entry}
use Rattle.masked_bytes.proofs.{Layering.{laid-all_given, all_given-gives_all}, Standing.layer_of-head}
use Rattle.cell_rows.specs.Device.{ArrayState, LineState}
use Rattle.ecp_line.{specs.ArrayLines.decoded, specs.Reading.{decode, IsSoundLine, IsWornLine}, specs.Untouched.AreUntouched, proofs.Bytes.length-decode}
use Rattle.program_verify.specs.{Programming.{IsRound, IsTear}, declared.prog.Prog.Prog}
use Rattle.line_writer.specs.{Orderly.{IsOrderly, AreOrderly}, Untouched.LeavesUnused, declared.writer.LineWriter.LineWriter}
use Rattle.line_writer.proofs.{Orderly.{orderly-round, orderly-tear, AreOrderly-beside}, Rounds.leaves-round, Untouched.{untouched-round, untouched-tear, AreUntouched-beside}}
use Rattle.spare_pool.{specs.Table.{line_by, used_by}, proofs.Lines.line_by-within}
use Rattle.bank_shape.specs.{Shape.{slots_of, slot_at, lines_in}, declared.Work.Work, declared.Work.TheVariants.{Nothing, Store, Copy}, declared.waiting.Waiting.Waiting}
use Rattle.bank_shape.proofs.Sizes.{slot_at-within}
use Rattle.start_gap.specs.{Rotation.move_by, declared.Move.Move}
use Rattle.power_recovery.specs.{Kept.{KeptState, IsKept, AllBelow, region_at, slot_of, array_line, stands_at, target_slot, due_region, due_work, next_work}, Slots.bank_lines}
use Rattle.power_recovery.proofs.{Bundle.due_region-Some, Placing.{slot_of-within, slot_of-apart, slot_of-off_gap}}
use Rattle.bank_invariant.specs.{Holds.stands_for, State.target_of, Tearing.DiffersAt, Tied.{IsUnderWay, AreSound, IsOf}}

-- the head is of this line and gives each byte of it
abbrev pub IsGivenWhole : {n : ℕ} → List (Entry n) → ℕ → Type 0
IsGivenWhole es line = IsSomeAnd (slice_get es 0) (λ head. (head.line ≡ line) × IsTrue (gives_all head.given))

-- what stands for such a line doesn't depend on its array line
pub laid-whole : {n : ℕ} (es : List (Entry n)) (line : ℕ) (any other : List ℕ) → AllMasked es → length any ≡ n → length other ≡ n → IsGivenWhole es line
    → laid (layer_of es line).bytes (layer_of es line).given any ≡ laid (layer_of es line).bytes (layer_of es line).given other
laid-whole [] line any other masked h k given = absurd given
laid-whole {n} (e ∷ es) line any other masked h k given =
    let all : e.given ≡ all_given n = all_given-gives_all n e.given masked.0.given_len given.1 in
    let over : (under : List ℕ) → length under ≡ n → laid e.bytes e.given under ≡ e.bytes =
    λ under size. ap (λ given. laid e.bytes given under) all ∙ laid-all_given n e.bytes under masked.0.bytes_len size in
    layer_of-head e es line any masked h given.0
    ∙ ap (λ under. laid (layer_of es line).bytes (layer_of es line).given under) (over any h ∙ sym (over other k))
    ∙ sym (layer_of-head e es line other masked k given.0)

-- The slot that a line write in progress writes: no bank line stands there, or only the head's, which is given whole, and no
-- read waits for it
pub record IsTargetOf {n : ℕ} (kept : KeptState n) (waiting : List (Waiting n)) (target slot : ℕ) : Type 0 where
  pub exists : slot < slots_of kept.shape
  pub place : target ≡ array_line kept slot
  pub whole : (line : ℕ) → line < bank_lines kept.shape → slot_of kept line ≡ slot → IsGivenWhole kept.entries line
  pub awaited : All (λ w. w.line < bank_lines kept.shape → slot_of kept w.line ≢ slot) waiting

module _ {n : ℕ} where
  -- What the next work is

  pub next_store-slot : (kept : KeptState n) (line slot : ℕ) (mark : Bool) (due : Option ℕ) (es : List (Entry n))
      → Store line slot ≡ cond mark Nothing (due_work due kept es) → slot ≡ slot_of kept line
  next_store-slot kept line slot false None (x ∷ es) e =
      let at : line ≡ x.line = cc in
      let place : slot ≡ slot_of kept x.line = cc in
      place ∙ ap (λ l. slot_of kept l) (sym at)
  next_store-slot kept line slot _ _ _ e = cc

  pub next_copy-region : (kept : KeptState n) (region : ℕ) (step : Move) (mark : Bool) (due : Option ℕ) (es : List (Entry n))
      → Copy region step ≡ cond mark Nothing (due_work due kept es) → (due ≡ Some region) × (step ≡ move_by (region_at kept region).rotation)
  next_copy-region kept region step false (Some at) es e =
      let same : region ≡ at = cc in
      let moves : step ≡ move_by (region_at kept at).rotation = cc in
      (ap (λ r. Some r) (sym same), moves ∙ ap (λ r. move_by (region_at kept r).rotation) (sym same))
  next_copy-region kept region step false None [] e = cc
  next_copy-region kept region step _ _ _ e = cc

  head-known : (es : List (Entry n)) (lines line : ℕ) → AllBelow es lines → IsGivenWhole es line → line < lines
  head-known [] lines line known given = absurd given
  head-known (x ∷ es) lines line known given = subst (λ (l : ℕ). l < lines) given.0 known.0

  whole_of : (kept : KeptState n) (line : ℕ) (bytes : List ℕ) (es : List (Entry n))
      → IsSomeAnd (slice_get es 0) (λ head. (head.line ≡ line) × (head.bytes ≡ bytes) × IsTrue (gives_all head.given)) → IsGivenWhole es line
  whole_of kept line bytes [] given = absurd given
  whole_of kept line bytes (x ∷ es) given = (given.0, given.2)

module _ {n m : ℕ} where
  -- a line write in progress writes such a slot
  pub running-target : (e : ℕ) (kept : KeptState n) (array : ArrayState n m) (waiting : List (Waiting n)) (bytes : List ℕ) (work : Work) (target : ℕ)
      → IsKept kept → work ≡ next_work kept → target ≡ target_of kept work → IsOf e kept array waiting bytes work
      → IsTargetOf kept waiting target (target_slot kept work)
  running-target e kept array waiting bytes Nothing target range next at of = absurd of
  running-target e kept array waiting bytes (Store line slot) target range next at of =
      let place : slot ≡ slot_of kept line = next_store-slot kept line slot kept.exhausted (due_region kept) kept.entries next in
      let whole : IsGivenWhole kept.entries line = whole_of kept line bytes kept.entries of.0 in
      let known : line < bank_lines kept.shape = head-known kept.entries (bank_lines kept.shape) line range.known whole in
      record {
        exists = subst (λ (s : ℕ). s < slots_of kept.shape) (sym place) (slot_of-within kept range line known);
        place = at;
        whole = λ other below same.
            let only : other ≡ line = slot_of-apart kept range line other known below (same ∙ place) in
            subst (λ (l : ℕ). IsGivenWhole kept.entries l) (sym only) whole;
        awaited = All-weaker (λ (w : Waiting n). w.line ≢ line) (λ (w : Waiting n). w.line < bank_lines kept.shape → slot_of kept w.line ≢ slot)
            (λ w off below same. off (slot_of-apart kept range line w.line known below (same ∙ place))) waiting of.1;
      }
  running-target e kept array waiting bytes (Copy region step) target range next at of =
      let moves = next_copy-region kept region step kept.exhausted (due_region kept) kept.entries next in
      let due = due_region-Some kept region range moves.0 in
      let own = range.regions region due.0 in
      let gap : step.to ≡ (region_at kept region).rotation.gap = ap (λ s. s.to) moves.1 in
      let within : step.to ≤ kept.shape.lines = omega (arith, gap, own.rotates, own.in_range.rotates.gap_within) in
      let off : (line : ℕ) → line < bank_lines kept.shape → slot_of kept line ≢ slot_at kept.shape region step.to =
      λ line below same. slot_of-off_gap kept range line region below due.0 (same ∙ ap (λ p. slot_at kept.shape region p) gap) in
      record {
        exists = slot_at-within kept.shape region step.to due.0 within;
        place = at;
        whole = λ line below same. absurd (off line below same);
        awaited = λ k d few below. off (get_or waiting k d).line below;
      }

  -- What stays

  -- another line is read as before
  pub decoded-other : (e target line : ℕ) (old new : ArrayState n m) → DiffersAt e target old new → line ≢ target → decoded e new line ≡ decoded e old line
  decoded-other e target line old new differs off = ap (λ (l : LineState n m). decode e l.held) (differs.others line off)

  -- and so is the line of another slot
  pub decoded-off : (e : ℕ) (kept : KeptState n) (waiting : List (Waiting n)) (target slot other : ℕ) (old new : ArrayState n m)
      → AreSound e kept old → IsTargetOf kept waiting target slot → DiffersAt e target old new → other < slots_of kept.shape → other ≢ slot
      → decoded e new (array_line kept other) ≡ decoded e old (array_line kept other)
  decoded-off e kept waiting target slot other old new sound is differs below off =
      decoded-other e target (array_line kept other) old new differs
      (λ same. off (sound.apart other slot below is.exists (same ∙ is.place)))

  -- each bank line is shown as before
  pub stands_for-differs : (e : ℕ) (kept : KeptState n) (waiting : List (Waiting n)) (target slot line : ℕ) (old new : ArrayState n m)
      → IsKept kept → AreSound e kept old → IsTargetOf kept waiting target slot → DiffersAt e target old new → line < bank_lines kept.shape
      → stands_for e kept new line ≡ stands_for e kept old line
  stands_for-differs e kept waiting target slot line old new range sound is differs below =
      elim (cases_eq (slot_of kept line) slot) [
        | inl same ↦
            laid-whole kept.entries line (decoded e new (stands_at kept line)) (decoded e old (stands_at kept line)) range.masked
            (length-decode e (new.line (stands_at kept line)).held) (length-decode e (old.line (stands_at kept line)).held) (is.whole line below same)
        | inr off ↦
            ap (λ under. laid (layer_of kept.entries line).bytes (layer_of kept.entries line).given under)
            (decoded-off e kept waiting target slot (slot_of kept line) old new sound is differs (slot_of-within kept range line below) off)
      ]

  -- and every line that is to be sound, unused or worn is so still
  pub AreSound-differs : (e : ℕ) (kept : KeptState n) (waiting : List (Waiting n)) (target slot : ℕ) (old new : ArrayState n m)
      → IsKept kept → AreSound e kept old → IsTargetOf kept waiting target slot → DiffersAt e target old new → AreSound e kept new
  AreSound-differs e kept waiting target slot old new range sound is differs =
      let within : line_by kept.table slot < kept.table.slots + used_by kept.table = line_by-within kept.table slot (omega (arith, is.exists, range.slots)) in
      record {
        apart = sound.apart;
        slots = λ at below. elim (cases_eq (array_line kept at) target) [
          | inl same ↦ subst (λ (line : ℕ). IsSoundLine e (new.line line)) (sym same) differs.sound
          | inr off ↦ subst (λ (l : LineState n m). IsSoundLine e l) (sym (differs.others (array_line kept at) off)) (sound.slots at below)
        ];
        spares = λ spare free exists.
            let off : kept.shape.base + slots_of kept.shape + spare ≢ target = λ same. omega (arith, same, is.place, within, free, range.slots) in
            subst (λ (l : LineState n m). IsSoundLine e l × (l.pulses ≡ 0)) (sym (differs.others (kept.shape.base + slots_of kept.shape + spare) off)) (sound.spares spare free exists);
        worn = λ line below unowned.
            let off : kept.shape.base + line ≢ target = λ same. unowned slot is.exists (omega (arith, same, is.place)) in
            subst (λ (l : LineState n m). IsWornLine e l) (sym (differs.others (kept.shape.base + line) off)) (sound.worn line below unowned);
      }

  -- and no unused check cell is touched
  pub AreUntouched-differs : (e target from lines : ℕ) (old new : ArrayState n m) → DiffersAt e target old new
      → AreUntouched e old from lines → AreUntouched e new from lines
  AreUntouched-differs e target from lines old new differs own =
      AreUntouched-beside e old new target from lines differs.others differs.unused own

  -- and each orderly line is orderly still
  pub AreOrderly-differs : (e target from lines : ℕ) (old new : ArrayState n m) → DiffersAt e target old new
      → AreOrderly old from lines → AreOrderly new from lines
  AreOrderly-differs e target from lines old new differs own =
      AreOrderly-beside old new target from lines differs.bounds differs.others differs.orderly own

  -- Where the premises come from

  -- a step of a line write changes no other line
  pub DiffersAt-round : (e line tick : ℕ) (writer : LineWriter n m e) (after : Prog n m) (old new : ArrayState n m) → IsUnderWay writer (old.line line)
      → IsRound line tick writer.prog after old new → IsSoundLine e (new.line line) → LeavesUnused e writer.prog → DiffersAt e line old new
  DiffersAt-round e line tick writer after old new under round sound leaves = record {
    others = λ at off. round.sense.line at ∙ round.others.others at off;
    lines = round.sense.lines ∙ round.others.lines;
    bounds = round.sense.bounds ∙ round.others.bounds;
    sound = sound;
    stuck = (leaves-round line tick writer.prog after old new round).stuck;
    unused = untouched-round e line tick writer.prog after old new round leaves;
    orderly = orderly-round writer line tick after old new under.more under.writes round;
  }

  -- nor does a tear of one
  pub DiffersAt-tear : (e line : ℕ) (writer : LineWriter n m e) (old new : ArrayState n m) → IsUnderWay writer (old.line line)
      → IsTear line writer.prog old new → IsSoundLine e (new.line line) → LeavesUnused e writer.prog → DiffersAt e line old new
  DiffersAt-tear e line writer old new under tear sound leaves = record {
    others = tear.others.others;
    lines = tear.others.lines;
    bounds = tear.others.bounds;
    sound = sound;
    stuck = λ number is. (tear.tear.stuck number is).0;
    unused = untouched-tear e line writer.prog old new tear leaves;
    orderly = orderly-tear writer line old new under.more under.writes tear;
  }

  -- the line that is written is one of the array
  pub target-exists : (kept : KeptState n) (waiting : List (Waiting n)) (target slot : ℕ) (array : ArrayState n m)
      → IsKept kept → kept.shape.base + lines_in kept.shape ≤ array.lines → IsTargetOf kept waiting target slot → target < array.lines
  target-exists kept waiting target slot array range lines is =
      let within : line_by kept.table slot < kept.table.slots + used_by kept.table = line_by-within kept.table slot (omega (arith, is.exists, range.slots)) in
      omega (arith, within, is.place, range.slots, range.spares, range.table.within, lines)

  -- and orderly
  pub target-orderly : (kept : KeptState n) (waiting : List (Waiting n)) (target slot : ℕ) (array : ArrayState n m)
      → IsKept kept → AreOrderly array kept.shape.base (slots_of kept.shape + kept.shape.spares) → IsTargetOf kept waiting target slot
      → IsOrderly array.bounds.misses (array.line target)
  target-orderly kept waiting target slot array range own is =
      let within : line_by kept.table slot < kept.table.slots + used_by kept.table = line_by-within kept.table slot (omega (arith, is.exists, range.slots)) in
      subst (λ (at : ℕ). IsOrderly array.bounds.misses (array.line at)) (sym is.place)
      (own (line_by kept.table slot) (omega (arith, within, range.slots, range.spares, range.table.within)))
