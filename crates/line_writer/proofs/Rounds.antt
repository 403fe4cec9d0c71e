-- What a round of the present phase and a tear leave, and that both keep the line sound.
use Rattle.std.proofs.Common.{◌≡◌, ℕ, ◌+◌, ◌-◌, ◌*◌, ◌<◌, Bool, true, false, not, List, sym, ap, ◌∙◌, subst, inl, inr, arith, ltb}
use Rattle.std.proofs.lemmas.Bool.{both_ways, and_parts, and_from, and_left, or_left, or_right, cases_Bool, lt-ltb, eqb-true, false_from_ne_true}
use Rattle.cell_rows.specs.{Device.{LineState, ArrayState, CellBounds, DeviceStep, TornStep, CellPulsed, CellTorn}, Rows.{cell, members}, declared.row.Cells.Cells}
use Rattle.program_verify.specs.{Programming.{Programs, IsGoing, IsRound, IsTear, is_wrong}, declared.prog.Prog.Prog}
use Rattle.ecp_line.{specs.Layout.{switch_cell, full_cell, activity_cell, Prefix, Sound, IsLayout}, specs.Reading.is_worn_line, proofs.Inert.some-to}
use Rattle.ecp_line.proofs.Places.{entry-order, activity-lt}
use Rattle.line_writer.specs.Phases.{IsClearing, IsFilling, IsPointing, IsSwitching, IsSwitched, IsStuckActivity}
use Rattle.line_writer.specs.{Writing.{IsInPhase, IsAfterRound, IsWriting, HasRound, Writes, IsProgress, IsWorn}, declared.writer.Cause.TheVariants.{TooMany, Activity}}
use Rattle.line_writer.specs.{declared.writer.LineWriter.LineWriter, declared.writer.Phase.Phase, declared.writer.Phase.TheVariants.{Clear, Fill, Point, Switch}}
use Rattle.line_writer.specs.{declared.writer.Progress.Progress, declared.writer.Progress.TheVariants.{More, Stored, Worn}}
use Rattle.line_writer.proofs.Keeping.{clearing-within, clearing-apart, clearing-kept, filling-apart, filling-full, filling-kept, pointer-cell, pointing-apart, pointing-kept}
use Rattle.line_writer.proofs.{Keeping.{switching-prefix, switching-unset, switching-set, switch-early, switch-last, early_or_last}, Leaving.{Leaves, Prefix-left}}

-- ---- pulses and tears

live-torn : {B M : ℕ} (bounds : CellBounds) (want : Cells B M) (old new : LineState B M) (n : ℕ) → CellPulsed bounds want old new n → CellTorn bounds old new n
live-torn bounds want old new n (inl (alive, value, misses, spent)) = inl (alive, omega (arith, misses), spent)
live-torn bounds want old new n (inr (inl (alive, value, misses, few, spent))) = inl (alive, few, omega (arith, spent))
live-torn bounds want old new n (inr (inr stuck)) = inr stuck

-- a pulse does nothing that a tear may not do
pub device-torn : {B M : ℕ} (bounds : CellBounds) (mask want : Cells B M) (old new : LineState B M) → DeviceStep bounds mask want old new → TornStep bounds mask old new
device-torn bounds mask want old new step = record {
  few = step.few;
  unmasked = step.unmasked;
  stuck = step.stuck;
  live = λ n on alive. live-torn bounds want old new n (step.live n on alive);
  pulses = step.pulses;
}

pub leaves-torn : {B M : ℕ} (bounds : CellBounds) (which : ℕ → Bool) (mask : Cells B M) (old new : LineState B M) → TornStep bounds mask old new → ((n : ℕ) → cell mask n ≡ true → which n ≡ true)
    → Leaves which (cell old.held) old.stuck (cell new.held) new.stuck
leaves-torn bounds which mask old new step within = record {
  others = λ n off. (step.unmasked n (false_from_ne_true _ (λ on. both_ways _ off (within n on)))).value;
  held = λ n at. (step.stuck n at).1;
  stuck = λ n at. (step.stuck n at).0;
}

mask-within : {B M : ℕ} (prog : Prog B M) (mask : Cells B M) → ((n : ℕ) → cell mask n ≡ is_wrong prog n) → (n : ℕ) → cell mask n ≡ true → cell prog.which n ≡ true
mask-within prog mask masked n on = (and_parts (cell prog.which n) _ (sym (masked n) ∙ on)).0

pub leaves-round : {B M : ℕ} (line tick : ℕ) (before after : Prog B M) (old new : ArrayState B M) → IsRound line tick before after old new
    → Leaves (cell before.which) (cell (old.line line).held) (old.line line).stuck (cell (new.line line).held) (new.line line).stuck
leaves-round {B} {M} line tick before after old new round =
    subst (λ (l : LineState B M). Leaves (cell before.which) (cell (old.line line).held) (old.line line).stuck (cell l.held) l.stuck) (sym (round.sense.line line))
    (leaves-torn old.bounds (cell before.which) round.mask (old.line line) (round.between.line line) (device-torn old.bounds round.mask before.want (old.line line) (round.between.line line) round.pulse)
    (mask-within before round.mask round.masked))

pub leaves-tear : {B M : ℕ} (line : ℕ) (prog : Prog B M) (old new : ArrayState B M) → IsTear line prog old new
    → Leaves (cell prog.which) (cell (old.line line).held) (old.line line).stuck (cell (new.line line).held) (new.line line).stuck
leaves-tear line prog old new torn = leaves-torn old.bounds (cell prog.which) torn.mask (old.line line) (new.line line) torn.tear (mask-within prog torn.mask torn.masked)

-- ---- phases

switched-kept : {B M : ℕ} (E w : ℕ) (want which f s g t : ℕ → Bool) → IsLayout B M E → Leaves which f s g t → IsSwitching B M E w want which f s → IsSwitched B M E w want which g t
switched-kept {B} {M} E w want which f s g t layout leaves phase = record {
  entry = phase.ready.entry;
  cells = phase.cells;
  one = phase.one;
  charged = switching-prefix B M E w want which f s g t leaves phase;
  on = switching-set B M E w want which f s g t layout leaves phase;
  off = switching-unset B M E w want which f s g t leaves phase;
}

pub phase-kept : {B M : ℕ} (E w : ℕ) (bytes : List ℕ) (phase : Phase) (prog : Prog B M) (f s g t : ℕ → Bool) → IsLayout B M E → Leaves (cell prog.which) f s g t
    → Prefix B M f s w → IsInPhase E w bytes phase prog f s → IsAfterRound E w bytes phase prog g t × Prefix B M g t w
phase-kept {B} {M} E w bytes Clear prog f s g t layout leaves before h = (
  clearing-kept B M E w (cell prog.want) (cell prog.which) f s g t layout leaves h,
  Prefix-left B M w (cell prog.which) f s g t leaves (clearing-apart B E w (cell prog.want) (cell prog.which) f h) before,
)
phase-kept {B} {M} E w bytes Fill prog f s g t layout leaves before h = (
  filling-kept B M E w bytes (cell prog.want) (cell prog.which) f s g t layout leaves h,
  Prefix-left B M w (cell prog.which) f s g t leaves (filling-apart B E w bytes (cell prog.want) (cell prog.which) f h) before,
)
phase-kept {B} {M} E w bytes Point prog f s g t layout leaves before h = (
  pointing-kept B M E w bytes (cell prog.want) (cell prog.which) f s g t layout leaves h,
  Prefix-left B M w (cell prog.which) f s g t leaves (pointing-apart B w (cell prog.which) h.cells) before,
)
phase-kept {B} {M} E w bytes Switch prog f s g t layout leaves before h = (
  switched-kept E w (cell prog.want) (cell prog.which) f s g t layout leaves h,
  λ j le. switching-prefix B M E w (cell prog.want) (cell prog.which) f s g t leaves h j (omega arith),
)

-- the facts of a phase speak of what is wanted, and not of the rounds made
same-wants : {B M : ℕ} (E w : ℕ) (bytes : List ℕ) (phase : Phase) (before after : Prog B M) (g t : ℕ → Bool) → after.want ≡ before.want → after.which ≡ before.which
    → IsAfterRound E w bytes phase before g t → IsAfterRound E w bytes phase after g t
same-wants {B} {M} E w bytes Clear before after g t want which h =
    subst (λ (a : Cells B M). IsClearing B E w (cell a) (cell after.which) g) (sym want) (subst (λ (b : Cells B M). IsClearing B E w (cell before.want) (cell b) g) (sym which) h)
same-wants {B} {M} E w bytes Fill before after g t want which h =
    subst (λ (a : Cells B M). IsFilling B E w bytes (cell a) (cell after.which) g) (sym want) (subst (λ (b : Cells B M). IsFilling B E w bytes (cell before.want) (cell b) g) (sym which) h)
same-wants {B} {M} E w bytes Point before after g t want which h =
    subst (λ (a : Cells B M). IsPointing B E w bytes (cell a) (cell after.which) g t) (sym want) (subst (λ (b : Cells B M). IsPointing B E w bytes (cell before.want) (cell b) g t) (sym which) h)
same-wants {B} {M} E w bytes Switch before after g t want which h =
    subst (λ (a : Cells B M). IsSwitched B M E w (cell a) (cell after.which) g t) (sym want) (subst (λ (b : Cells B M). IsSwitched B M E w (cell before.want) (cell b) g t) (sym which) h)

-- a round leads from what holds in a phase to what holds after a round of it
pub round-made : {B M E : ℕ} (writer : LineWriter B M E) (line tick : ℕ) (after : Prog B M) (old new : ArrayState B M) → IsLayout B M E → IsRound line tick writer.prog after old new
    → Programs after (new.line line) → IsWriting writer (old.line line) → HasRound {B = B} {M = M} {E = E} (record writer { prog = after }) (new.line line)
round-made {B} {M} {E} writer line tick after old new layout round programs h =
    let (phase, charged) = phase-kept E writer.entries writer.bytes writer.phase writer.prog (cell (old.line line).held) (old.line line).stuck (cell (new.line line).held) (new.line line).stuck
    layout (leaves-round line tick writer.prog after old new round) h.charged h.phase in
    record {
      prog = programs;
      most = h.most;
      charged = charged;
      phase = same-wants E writer.entries writer.bytes writer.phase writer.prog after (cell (new.line line).held) (new.line line).stuck round.want round.which phase;
    }

-- ---- sound lines

pub sound-after : {B M : ℕ} (E w : ℕ) (bytes : List ℕ) (phase : Phase) (prog : Prog B M) (f s : ℕ → Bool) → IsAfterRound E w bytes phase prog f s → Prefix B M f s w → Sound B M E f s
sound-after E w bytes Clear prog f s h before = λ j le. let e = h.entries in before j (omega arith)
sound-after E w bytes Fill prog f s h before = λ j le. let e = h.entries in before j (omega arith)
sound-after E w bytes Point prog f s h before = λ j le. let e = h.ready.most in before j (omega arith)
sound-after {B} {M} E w bytes Switch prog f s h before =
    elim (cases_Bool (f (switch_cell B E w))) as (λ _. Sound B M E f s) [
      | inl on ↦ λ j le. let e = (h.on on).0 in h.charged j (omega arith)
      | inr off ↦ λ j le. let e = (h.off off).ready.most in before j (omega arith)
    ]

sound-in : {B M : ℕ} (E w : ℕ) (bytes : List ℕ) (phase : Phase) (prog : Prog B M) (f s : ℕ → Bool) → IsInPhase E w bytes phase prog f s → Prefix B M f s w → Sound B M E f s
sound-in E w bytes Point prog f s h before j le = let e = h.ready.most in before j (omega arith)
sound-in E w bytes Switch prog f s h before j le = let e = h.ready.most in before j (omega arith)
sound-in E w bytes _ prog f s h before j le = let e = h.entries in before j (omega arith)

-- a line that is being written is sound
pub sound-writing : {B M E : ℕ} (writer : LineWriter B M E) (line : LineState B M) → IsWriting writer line → Sound B M E (cell line.held) line.stuck
sound-writing {E = E} writer line h = sound-in E writer.entries writer.bytes writer.phase writer.prog (cell line.held) line.stuck h.phase h.charged

pub sound-torn : {B M E : ℕ} (writer : LineWriter B M E) (line : ℕ) (old new : ArrayState B M) → IsLayout B M E → IsTear line writer.prog old new → IsWriting writer (old.line line)
    → Sound B M E (cell (new.line line).held) (new.line line).stuck
sound-torn {B} {M} {E} writer line old new layout torn h =
    let (phase, charged) = phase-kept E writer.entries writer.bytes writer.phase writer.prog (cell (old.line line).held) (old.line line).stuck (cell (new.line line).held) (new.line line).stuck
    layout (leaves-tear line writer.prog old new torn) h.charged h.phase in
    sound-after E writer.entries writer.bytes writer.phase writer.prog (cell (new.line line).held) (new.line line).stuck phase charged

-- ---- unused cells

unused-in : {B M : ℕ} (E w : ℕ) (bytes : List ℕ) (phase : Phase) (prog : Prog B M) (f s : ℕ → Bool) → IsLayout B M E → IsInPhase E w bytes phase prog f s
    → (n : ℕ) → full_cell B E < n → cell prog.which n ≡ true → ⊥
unused-in {B} {M} E w bytes Clear prog f s layout h n behind on =
    let (low, high) = clearing-within B E w (cell prog.want) (cell prog.which) f h n on in
    let two = layout.two in let most = layout.most in
    let order = entry-order B (E - 1) E (omega arith) in omega arith
unused-in {B} {M} E w bytes Fill prog f s layout h n behind on = filling-full B E w bytes (cell prog.want) (cell prog.which) f h n (omega arith) on
unused-in {B} {M} E w bytes Point prog f s layout h n behind on =
    let (low, high) = pointer-cell B w (cell prog.which) h.cells n on in
    let order = entry-order B w E h.ready.entry in omega arith
unused-in {B} {M} E w bytes Switch prog f s layout h n behind on =
    let at = eqb-true n (switch_cell B E w) (sym (h.cells n) ∙ on) in
    elim (early_or_last E w h.ready.entry) as (λ _. ⊥) [
      | inl early ↦
          let e = switch-early B E w early in
          let low = activity-lt B M E w layout early in
          let order = entry-order B (E - 1) E (omega arith) in omega arith
      | inr last ↦ let e = switch-last B E w last in omega arith
    ]

-- no unused cell is ever wanted
pub unused : {B M E : ℕ} (writer : LineWriter B M E) (line : LineState B M) → IsLayout B M E → IsWriting writer line → (n : ℕ) → full_cell B E < n → is_wrong writer.prog n ≡ false
unused {E = E} writer line layout h n behind =
    and_left (cell writer.prog.which n) _ (false_from_ne_true _ (unused-in E writer.entries writer.bytes writer.phase writer.prog (cell line.held) line.stuck layout h.phase n behind))

-- ---- answers

-- a write that is to go on has a round to make
pub going : {B M E : ℕ} (writer : LineWriter B M E) (line : LineState B M) → writer.progress ≡ More → Writes writer line → IsGoing writer.prog
going writer line more h = subst (λ (p : Progress). IsProgress writer line p) more h.answer

activity-worn : {B M : ℕ} (E c : ℕ) (held : Cells B M) (stuck : ℕ → Bool) → IsStuckActivity B E (cell held) stuck c → is_worn_line E held stuck ≡ true
activity-worn {B} {M} E c held stuck h =
    elim h.activity as (λ _. is_worn_line E held stuck ≡ true) [
      | inl full ↦ or_right (ltb E (members stuck (8 * (B + M)))) _ (or_left (stuck (full_cell B E)) _ (ap stuck (sym full) ∙ h.is))
      | inr (open_, i, l, at) ↦ or_right (ltb E (members stuck (8 * (B + M)))) _ (or_right (stuck (full_cell B E)) _
          (and_from (not (cell held (full_cell B E))) _ (ap not open_) (some-to (λ i. stuck (activity_cell B E + i)) (E - 1) i l (ap stuck (sym at) ∙ h.is))))
    ]

-- a line that was called worn is
pub worn : {B M E : ℕ} (writer : LineWriter B M E) (line : LineState B M) (progress : Progress) → IsProgress writer line progress → IsWorn progress → is_worn_line E line.held line.stuck ≡ true
worn writer line More h no_worn = absurd no_worn
worn writer line Stored h no_worn = absurd no_worn
worn {B} {M} {E} writer line (Worn TooMany) h is = or_left (ltb E (members line.stuck (8 * (B + M)))) _ (lt-ltb _ _ (h.1))
worn {B} {M} {E} writer line (Worn (Activity c)) h is = activity-worn E c line.held line.stuck (h.1)

-- what is known of a writer doesn't rest on the answer that it keeps
pub writing-with : {B M E : ℕ} (writer : LineWriter B M E) (line : LineState B M) (answer : Progress) → IsWriting writer line → IsWriting {B = B} {M = M} {E = E} (record writer { progress = answer }) line
writing-with writer line answer h = record { prog = h.prog; most = h.most; charged = h.charged; phase = h.phase }

pub progress-with : {B M E : ℕ} (writer : LineWriter B M E) (line : LineState B M) (answer progress : Progress) → IsProgress writer line progress
    → IsProgress {B = B} {M = M} {E = E} (record writer { progress = answer }) line progress
progress-with writer line answer progress h = grind arith
