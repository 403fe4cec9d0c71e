-- What a write does to a line of which no cell is stuck.
use Rattle.std.proofs.Common.{◌≡◌, ◌≢◌, ℕ, zero, suc, ◌+◌, ◌-◌, ◌*◌, ◌<◌, ◌≤◌, Bool, true, false, cond, List, refl, sym, ap, ◌∙◌, subst, inl, inr, arith}
use Rattle.std.proofs.lemmas.Bool.{and_left, and_parts, both_ways, cases_eq, false_from_ne_true}
use Rattle.cell_rows.specs.{Device.{ArrayState, LineState, CellBounds, CellTorn, TornStep, IsBlank}, Rows.{cell, members, xor}, declared.row.Cells.Cells}
use Rattle.ecp_line.{specs.Layout.{source_below, is_inert, Prefix}, proofs.Sources.source-none}
use Rattle.program_verify.specs.{Programming.{IsGoing, IsRound, IsTear}, declared.prog.Prog.Prog}
use Rattle.line_writer.specs.{Orderly.{IsLive, IsOrderly, AreOrderly}, Writing.{IsInPhase, Writes, phases_left, steps_left}, declared.writer.LineWriter.LineWriter}
use Rattle.line_writer.specs.{declared.writer.Phase.Phase, declared.writer.Phase.TheVariants.{Clear, Fill, Point, Switch}, declared.writer.Progress.TheVariants.More}
use Rattle.line_writer.proofs.{Keeping.clearing-within, Leaving.Leaves, Rounds.{going, device-torn, leaves-round, leaves-tear}}

-- none of so many numbers has the property
pub members-none : (has : ℕ → Bool) (n : ℕ) → ((k : ℕ) → k < n → has k ≡ false) → members has n ≡ 0
unfolding members
members-none has zero none = refl
members-none has (suc n) none =
    let one : Bool → ℕ = λ b. cond b 1 0 in
    let here : one (has n) ≡ 0 = ap one (none n (omega arith)) in
    omega (arith, here, members-none has n (λ k lt. none k (omega (arith, lt))))

inert-none : (B : ℕ) (f stuck : ℕ → Bool) (j n : ℕ) → stuck n ≡ false → is_inert B f stuck j n ≡ false
unfolding is_inert
inert-none B f stuck j n live = and_left (stuck n) _ live

-- no entry is active on a line with no cell stuck
none-charged : (B M : ℕ) (f stuck : ℕ → Bool) (w : ℕ) → ((n : ℕ) → stuck n ≡ false) → Prefix B M f stuck w → w ≡ 0
none-charged B M f stuck w live charged =
    let none : members (is_inert B f stuck w) (8 * (B + M)) ≡ 0 = members-none (is_inert B f stuck w) (8 * (B + M)) (λ n lt. inert-none B f stuck w n (live n)) in
    let most : w ≤ members (is_inert B f stuck w) (8 * (B + M)) = charged w (omega arith) in
    omega (arith, none, most)

differs-so : (a b : Bool) → b ≡ false → xor a b ≡ true → a ≡ true
differs-so true b none differs = refl
differs-so false b none differs = absurd (both_ways b none differs)

-- a write in progress on such a line pulses data cells alone, in its first programming of them
pub record IsPlain {B M E : ℕ} (writer : LineWriter B M E) : Type 0 where
  pub data_cells : (n : ℕ) → cell writer.prog.which n ≡ true → n < 8 * B
  pub left : steps_left writer ≡ (8 - writer.prog.rounds) + 24 * E
  pub rounds : writer.prog.rounds < 8

plain-phase : {B M : ℕ} (E w : ℕ) (bytes : List ℕ) (phase : Phase) (prog : Prog B M) (f stuck : ℕ → Bool)
    → ((n : ℕ) → stuck n ≡ false) → ((n : ℕ) → 8 * B ≤ n → f n ≡ false) → w ≡ 0 → ((n : ℕ) → cell prog.seen n ≡ f n) → IsGoing prog
    → IsInPhase E w bytes phase prog f stuck → ((n : ℕ) → cell prog.which n ≡ true → n < 8 * B) × (phases_left E phase w ≡ 3 * E)
plain-phase {B} {M} E w bytes Clear prog f stuck live checks none seen goes p =
    let (n, room, wrong) = goes.wrong in
    let (on, differs) = and_parts (cell prog.which n) _ wrong in
    let (low, high) = clearing-within B E w (cell prog.want) (cell prog.which) f p n on in
    let held : f n ≡ true = sym (seen n) ∙ differs-so (cell prog.seen n) (cell prog.want n) (p.zero n on) differs in
    absurd (both_ways (f n) (checks n (omega (arith, low))) held)
plain-phase {B} {M} E w bytes Fill prog f stuck live checks none seen goes p = (
  λ n on.
      let (x, below, at) = p.wanted.masked n on in
      let own : n ≡ x = subst (λ (k : ℕ). n ≡ source_below B f x k) none at ∙ source-none B f x in
      omega (arith, below, own),
  omega (arith, none),
)
plain-phase {B} {M} E w bytes Point prog f stuck live checks none seen goes p = absurd (both_ways _ (live _) p.charged)
plain-phase {B} {M} E w bytes Switch prog f stuck live checks none seen goes p = absurd (omega (arith, none-charged B M f stuck (w + 1) live p.charged))

pub plain : {B M E most : ℕ} (writer : LineWriter B M E) (line : LineState B M) → writer.progress ≡ More → Writes writer line → IsOrderly most line → IsLive line → IsPlain writer
plain {B} {M} {E} writer line more writes orderly live =
    let h = writes.writing in
    let goes : IsGoing writer.prog = going writer line more writes in
    let seen : ((n : ℕ) → cell writer.prog.seen n ≡ cell line.held n) = λ n. ap (λ (c : Cells B M). cell c n) (sym h.prog.seen) in
    let (cells, phases) = plain-phase E writer.entries writer.bytes writer.phase writer.prog (cell line.held) line.stuck live (orderly.checks live)
    (none-charged B M (cell line.held) line.stuck writer.entries live h.charged) seen goes h.phase in
    record { data_cells = cells; left = omega (arith, phases); rounds = goes.rounds }

-- a cell that a tear leaves live was live before, and has missed no more often than cells do
missed-torn : {B M : ℕ} (bounds : CellBounds) (mask : Cells B M) (old new : LineState B M) → TornStep bounds mask old new
    → ((n : ℕ) → old.stuck n ≡ false → old.misses n ≤ bounds.misses) → (n : ℕ) → new.stuck n ≡ false → new.misses n ≤ bounds.misses
missed-torn bounds mask old new step own n live = by (cell mask n) refl
  where
    torn : CellTorn bounds old new n → new.misses n ≤ bounds.misses
    torn (inl cell) = cell.1
    torn (inr stuck) = absurd (both_ways _ live stuck.0)

    by : (b : Bool) → cell mask n ≡ b → new.misses n ≤ bounds.misses
    by true on = torn (step.live n on (false_from_ne_true _ (λ stuck. both_ways _ live (step.stuck n stuck).0)))
    by false off =
        let kept = step.unmasked n off in
        omega (arith, kept.misses, own n (sym kept.stuck ∙ live))

-- so what it leaves is orderly
left-orderly : {B M E most : ℕ} (writer : LineWriter B M E) (old new : LineState B M) → writer.progress ≡ More → Writes writer old
    → Leaves (cell writer.prog.which) (cell old.held) old.stuck (cell new.held) new.stuck
    → ((n : ℕ) → new.stuck n ≡ false → new.misses n ≤ most) → IsOrderly most old → IsOrderly most new
left-orderly {B} writer old new more writes leaves missed orderly = record {
  checks = λ live number check.
      let before : IsLive old = live-before live in
      let within = plain writer old more writes orderly before in
      leaves.others number (false_from_ne_true _ (λ on. let lt = within.data_cells number on in absurd (omega (arith, lt, check))))
      ∙ orderly.checks before number check;
  missed = missed;
}
  where
    live-before : IsLive new → IsLive old
    live-before live number = false_from_ne_true _ (λ stuck. both_ways _ (live number) (leaves.stuck number stuck))

-- a round leaves an orderly line
pub orderly-round : {B M E : ℕ} (writer : LineWriter B M E) (line tick : ℕ) (after : Prog B M) (old new : ArrayState B M)
    → writer.progress ≡ More → Writes writer (old.line line) → IsRound line tick writer.prog after old new
    → IsOrderly old.bounds.misses (old.line line) → IsOrderly new.bounds.misses (new.line line)
orderly-round {B} {M} writer line tick after old new more writes round orderly =
    let missed : ((n : ℕ) → (new.line line).stuck n ≡ false → (new.line line).misses n ≤ old.bounds.misses) =
    subst (λ (l : LineState B M). (n : ℕ) → l.stuck n ≡ false → l.misses n ≤ old.bounds.misses) (sym (round.sense.line line))
    (missed-torn old.bounds round.mask (old.line line) (round.between.line line)
    (device-torn old.bounds round.mask writer.prog.want (old.line line) (round.between.line line) round.pulse) orderly.missed) in
    subst (λ (b : CellBounds). IsOrderly b.misses (new.line line)) (sym (round.sense.bounds ∙ round.others.bounds))
    (left-orderly writer (old.line line) (new.line line) more writes (leaves-round line tick writer.prog after old new round) missed orderly)

-- and so does a tear
pub orderly-tear : {B M E : ℕ} (writer : LineWriter B M E) (line : ℕ) (old new : ArrayState B M)
    → writer.progress ≡ More → Writes writer (old.line line) → IsTear line writer.prog old new
    → IsOrderly old.bounds.misses (old.line line) → IsOrderly new.bounds.misses (new.line line)
orderly-tear writer line old new more writes torn orderly =
    subst (λ (b : CellBounds). IsOrderly b.misses (new.line line)) (sym torn.others.bounds)
    (left-orderly writer (old.line line) (new.line line) more writes (leaves-tear line writer.prog old new torn)
    (missed-torn old.bounds torn.mask (old.line line) (new.line line) torn.tear orderly.missed) orderly)

-- a blank line is orderly
pub orderly-blank : {n m : ℕ} (most : ℕ) (line : LineState n m) → IsBlank line → IsOrderly most line
orderly-blank most line blank = record {
  checks = λ live number check. blank.held number;
  missed = λ number live. omega (arith, blank.misses number);
}

-- Lines of arrays

module _ {n m : ℕ} where
  pub AreOrderly-same : (old new : ArrayState n m) (from lines : ℕ) → new.bounds ≡ old.bounds
      → ((line : ℕ) → line < lines → new.line (from + line) ≡ old.line (from + line)) → AreOrderly old from lines → AreOrderly new from lines
  AreOrderly-same old new from lines bounds same own line below =
      subst (λ (b : CellBounds). IsOrderly b.misses (new.line (from + line))) (sym bounds)
      (subst (λ (l : LineState n m). IsOrderly old.bounds.misses l) (sym (same line below)) (own line below))

  -- where only one line may have changed, which is orderly if it was
  pub AreOrderly-beside : (old new : ArrayState n m) (target from lines : ℕ) → new.bounds ≡ old.bounds
      → ((line : ℕ) → line ≢ target → new.line line ≡ old.line line)
      → (IsOrderly old.bounds.misses (old.line target) → IsOrderly new.bounds.misses (new.line target)) → AreOrderly old from lines → AreOrderly new from lines
  AreOrderly-beside old new target from lines bounds others stays own line below =
      elim (cases_eq (from + line) target) [
        | inl same ↦
            subst (λ (at : ℕ). IsOrderly new.bounds.misses (new.line at)) (sym same)
            (stays (subst (λ (at : ℕ). IsOrderly old.bounds.misses (old.line at)) same (own line below)))
        | inr off ↦
            subst (λ (b : CellBounds). IsOrderly b.misses (new.line (from + line))) (sym bounds)
            (subst (λ (l : LineState n m). IsOrderly old.bounds.misses l) (sym (others (from + line) off)) (own line below))
      ]
