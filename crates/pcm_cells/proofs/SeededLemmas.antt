-- A seeded array keeps what every array keeps.
use Rattle.std.proofs.Common.{◌≡◌, ℕ, ◌+◌, ◌-◌, ◌%◌, ◌≤◌, ◌&&◌, ◌<◌, Bool, true, false, cond, eqb, slice_index, refl, sym, subst, ◌∙◌, ap, inl, inr, arith, ◌*◌, ◌≢◌, length, get_or, Some}
use Rattle.std.{specs.Prelude.{nat_lt, nat_le, bit_xor}, proofs.lemmas.Bool.{ltb-true, leb-true, lt-ltb}}
use Rattle.cell_rows.specs.{Device.{CellBounds, DeviceStep, TornStep, IsBlank, counted}, Rows.cell, declared.array.Wear.Wear, declared.row.Cells.Cells}
use Rattle.cell_rows.proofs.RowLemmas.{cell-zeros}
use Rattle.seeded_lines.specs.{Follows.Follows, Planes.{PlaneLine, plane_cell, digit}, Seeded.{LifeLine, endurance, IsDrawn, changed, pulsed, seeded, seeded_cell, lifeless}}
use Rattle.seeded_lines.{specs.declared.cell.CellState.CellState, specs.declared.seeded.SeededCell.SeededCell, proofs.PlaneLemmas.digit-zeros}
use Rattle.pcm_cells.{specs.Seeded.{life_state, bounds_of, SeededArray, Wears, seeded_line}, proofs.LineLemmas.{IsPulsed, IsTorn, KeepsTo, device_step, torn_step}}
use Rattle.seeded_words.specs.Words.{xoshiro_of, word_at}
use Rattle.line_pages.{specs.Paging.{seen, lines_seen}, specs.declared.pages.Pages.Pages, proofs.PagingLemmas.{lines_size, lines_at, lines_kept}}

-- a change takes the wanted value or sticks
changed_pulsed : (endures : ℕ) (last want : Bool) (old new : SeededCell) → (last ≡ true → old.left ≤ 1)
    → new ≡ cond last (record old { state = record { value = old.end; stuck = true; misses = 0 }; left = 0 }) (record old { state = record { value = want; stuck = false; misses = 0 }; left = old.left - 1 })
    → IsPulsed want endures old.state new.state (endures - old.left) (endures - new.left)
changed_pulsed endures true want old new few is = inr (inr (ap (λ (c : SeededCell). c.state.stuck) is, omega (arith, few refl)))
changed_pulsed endures false want old new few is =
    let left : new.left ≡ old.left - 1 = ap (λ (c : SeededCell). c.left) is in
    inl (ap (λ (c : SeededCell). c.state.stuck) is, ap (λ (c : SeededCell). c.state.value) is, ap (λ (c : SeededCell). c.state.misses) is, omega (arith, left))

-- a live cell misses or changes
missed_pulsed : (endures : ℕ) (few want : Bool) (old new : SeededCell) → old.state.stuck ≡ false
    → new ≡ cond few (record old { state = record old.state { misses = old.state.misses + 1 } }) (changed want old)
    → IsPulsed want endures old.state new.state (endures - old.left) (endures - new.left)
missed_pulsed endures true want old new live is =
    let left : new.left ≡ old.left = ap (λ (c : SeededCell). c.left) is in
    inr (inl (ap (λ (c : SeededCell). c.state.stuck) is ∙ live, ap (λ (c : SeededCell). c.state.value) is, ap (λ (c : SeededCell). c.state.misses) is, omega (arith, left)))
missed_pulsed endures false want old new live is = changed_pulsed endures (nat_le old.left 1) want old new (leb-true old.left 1) is

live_pulsed : (endures : ℕ) (want : Bool) (old new : SeededCell) → old.state.stuck ≡ false → new ≡ pulsed want old
    → IsPulsed want endures old.state new.state (endures - old.left) (endures - new.left)
live_pulsed endures want old new live is =
    missed_pulsed endures (nat_lt old.state.misses old.limit) want old new live
    (is ∙ ap (λ b. cond b old (cond (nat_lt old.state.misses old.limit) (record old { state = record old.state { misses = old.state.misses + 1 } }) (changed want old))) live)

torn_pulsed : (want : Bool) (endures : ℕ) (old new : CellState) (before after : ℕ) → IsPulsed want endures old new before after → IsTorn endures new before after
torn_pulsed want endures old new before after (inl (live, value, misses, spent)) = inl (live, spent)
torn_pulsed want endures old new before after (inr (inl (live, value, misses, spent))) = inl (live, omega (arith, spent))
torn_pulsed want endures old new before after (inr (inr stuck)) = inr stuck

-- a tear reaches a live cell or not
live_torn : (endures : ℕ) (missed want : Bool) (old new : SeededCell) → old.state.stuck ≡ false → new ≡ cond missed old (pulsed want old)
    → IsTorn endures new.state (endures - old.left) (endures - new.left)
live_torn endures true want old new live is =
    let left : new.left ≡ old.left = ap (λ (c : SeededCell). c.left) is in
    inl (ap (λ (c : SeededCell). c.state.stuck) is ∙ live, omega (arith, left))
live_torn endures false want old new live is =
    torn_pulsed want endures old.state new.state (endures - old.left) (endures - new.left) (live_pulsed endures want old new live is)

either_way : (b : Bool) (x y : SeededCell) → x.state ≡ y.state → (cond b x y).state ≡ y.state
either_way true x y e = e
either_way false x y e = refl

same_both : (b : Bool) (x : SeededCell) → cond b x x ≡ x
same_both true x = refl
same_both false x = refl

-- a stuck cell stays in any case
stuck_seeded : (tearing : Bool) (want : ℕ → Bool) (number : ℕ) (old : SeededCell) → old.state.stuck ≡ true → seeded tearing want number old ≡ old
stuck_seeded tearing want number old h =
    ap (λ b. cond (tearing && eqb (number % 2) 1) old (cond b old (cond (nat_lt old.state.misses old.limit) (record old { state = record old.state { misses = old.state.misses + 1 } }) (changed (want number) old)))) h
    ∙ same_both (tearing && eqb (number % 2) 1) old

-- a cell in a mask or in none follows its rule or stays
masked_follows : {B M : ℕ} (mask want : Cells B M) (tearing : Bool) (old new : LifeLine B M)
    → Follows (cell mask) (seeded tearing (cell want)) (seeded_cell old) (seeded_cell new)
    → (n : ℕ) → cell mask n ≡ true → seeded_cell new n ≡ seeded tearing (cell want) n (seeded_cell old n)
masked_follows mask want tearing old new follows n h =
    follows n ∙ ap (λ b. cond b (seeded tearing (cell want) n (seeded_cell old n)) (seeded_cell old n)) h

unmasked_stays : {B M : ℕ} (mask want : Cells B M) (tearing : Bool) (old new : LifeLine B M)
    → Follows (cell mask) (seeded tearing (cell want)) (seeded_cell old) (seeded_cell new)
    → (n : ℕ) → cell mask n ≡ false → seeded_cell new n ≡ seeded_cell old n
unmasked_stays mask want tearing old new follows n h =
    follows n ∙ ap (λ b. cond b (seeded tearing (cell want) n (seeded_cell old n)) (seeded_cell old n)) h

stuck_stays : {B M : ℕ} (mask want : Cells B M) (tearing : Bool) (old new : LifeLine B M)
    → Follows (cell mask) (seeded tearing (cell want)) (seeded_cell old) (seeded_cell new)
    → (n : ℕ) → cell old.line.stuck n ≡ true → plane_cell new.line n ≡ plane_cell old.line n
stuck_stays mask want tearing old new follows n h =
    ap (λ c. c.state) (follows n)
    ∙ either_way (cell mask n) (seeded tearing (cell want) n (seeded_cell old n)) (seeded_cell old n)
    (ap (λ c. c.state) (stuck_seeded tearing (cell want) n (seeded_cell old n) h))

-- what a cell of the row has spent
spent_within : {B M : ℕ} (bounds : CellBounds) (row : LifeLine B M) (n : ℕ) → n < 8 * (B + M)
    → (life_state bounds row).spent n ≡ bounds.endures - slice_index row.left n
spent_within {B} {M} bounds row n within = ap (λ b. cond b (bounds.endures - slice_index row.left n) 0) (lt-ltb n (8 * (B + M)) within)

-- a cell of which nothing changes has spent no more
spent_kept : {B M : ℕ} (bounds : CellBounds) (old new : LifeLine B M) (n : ℕ) → seeded_cell new n ≡ seeded_cell old n
    → (life_state bounds new).spent n ≡ (life_state bounds old).spent n
spent_kept {B} {M} bounds old new n same = ap (λ (c : SeededCell). cond (nat_lt n (8 * (B + M))) (bounds.endures - c.left) 0) same

pub seeded_device_step : {B M : ℕ} (bounds : CellBounds) (mask want : Cells B M) (old new : LifeLine B M) → bounds.misses ≤ 7
    → Follows (cell mask) (seeded false (cell want)) (seeded_cell old) (seeded_cell new)
    → ((n : ℕ) → cell mask n ≡ true → n < 8 * (B + M))
    → ((n : ℕ) → cell mask n ≡ true → KeepsTo bounds (life_state bounds new) n)
    → new.line.pulses ≡ counted old.line.pulses → DeviceStep bounds mask want (life_state bounds old) (life_state bounds new)
seeded_device_step bounds mask want old new few follows within keeps pulses =
    device_step bounds mask want (life_state bounds old) (life_state bounds new) few
    (λ n h. ap (λ c. c.state) (unmasked_stays mask want false old new follows n h))
    (λ n h. spent_kept bounds old new n (unmasked_stays mask want false old new follows n h))
    (stuck_stays mask want false old new follows)
    (λ n masked live.
    subst (λ k. IsPulsed (cell want n) bounds.endures (plane_cell old.line n) (plane_cell new.line n) k ((life_state bounds new).spent n)) (sym (spent_within bounds old n (within n masked)))
    (subst (λ k. IsPulsed (cell want n) bounds.endures (plane_cell old.line n) (plane_cell new.line n) (bounds.endures - slice_index old.left n) k) (sym (spent_within bounds new n (within n masked)))
    (live_pulsed bounds.endures (cell want n) (seeded_cell old n) (seeded_cell new n) live (masked_follows mask want false old new follows n masked))))
    keeps pulses

pub seeded_torn_step : {B M : ℕ} (bounds : CellBounds) (mask want : Cells B M) (old new : LifeLine B M) → bounds.misses ≤ 7
    → Follows (cell mask) (seeded true (cell want)) (seeded_cell old) (seeded_cell new)
    → ((n : ℕ) → cell mask n ≡ true → n < 8 * (B + M))
    → ((n : ℕ) → cell mask n ≡ true → KeepsTo bounds (life_state bounds new) n)
    → new.line.pulses ≡ counted old.line.pulses → TornStep bounds mask (life_state bounds old) (life_state bounds new)
seeded_torn_step bounds mask want old new few follows within keeps pulses =
    torn_step bounds mask (life_state bounds old) (life_state bounds new) few
    (λ n h. ap (λ c. c.state) (unmasked_stays mask want true old new follows n h))
    (λ n h. spent_kept bounds old new n (unmasked_stays mask want true old new follows n h))
    (stuck_stays mask want true old new follows)
    (λ n masked live.
    subst (λ k. IsTorn bounds.endures (plane_cell new.line n) k ((life_state bounds new).spent n)) (sym (spent_within bounds old n (within n masked)))
    (subst (λ k. IsTorn bounds.endures (plane_cell new.line n) (bounds.endures - slice_index old.left n) k) (sym (spent_within bounds new n (within n masked)))
    (live_torn bounds.endures (eqb (n % 2) 1) (cell want n) (seeded_cell old n) (seeded_cell new n) live (masked_follows mask want true old new follows n masked))))
    keeps pulses

pub drawn_is_blank : {B M : ℕ} (wear : Wear) (number : ℕ) (row : LifeLine B M) → IsDrawn wear number row → IsBlank (life_state (bounds_of (Some wear)) row)
drawn_is_blank {B} {M} wear number row drawn = record {
  held = λ n. ap (λ (line : PlaneLine B M). cell line.held n) drawn.line ∙ cell-zeros B M n;
  stuck = λ n. ap (λ (line : PlaneLine B M). cell line.stuck n) drawn.line ∙ cell-zeros B M n;
  misses = λ n. ap (λ (line : PlaneLine B M). digit line.misses n) drawn.line ∙ digit-zeros B M n;
  spent = λ n. unspent n (nat_lt n (8 * (B + M))) refl;
  pulses = ap (λ (line : PlaneLine B M). line.pulses) drawn.line;
}
  where
    unspent : (n : ℕ) (b : Bool) → nat_lt n (8 * (B + M)) ≡ b → cond b (wear.lo - slice_index row.left n) 0 ≡ 0
    unspent n true is =
        let left : slice_index row.left n ≡ endurance wear (word_at n (xoshiro_of (bit_xor wear.seed number))) =
        ap (λ (c : SeededCell). c.left) (drawn.cells n (ltb-true n (8 * (B + M)) is)) in
        omega (arith, left)
    unspent n false is = refl

-- a pulse or a tear of a line, as contracts see it
pub wears_lines : {B M : ℕ} (line : ℕ) (tearing : Bool) (mask want : Cells B M) (old new : Pages B M) (a b : SeededArray B M)
    → a.lines ≡ lines_seen old → b.lines ≡ lines_seen new → line < length old.grown
    → Follows (cell mask) (seeded tearing (cell want)) (seeded_cell (seen old line)) (seeded_cell (seen new line))
    → (seen new line).line.pulses ≡ counted (seen old line).line.pulses
    → ((n : ℕ) → n ≢ line → seen new n ≡ seen old n) → length new.grown ≡ length old.grown
    → Wears line tearing mask want a b
wears_lines {B} {M} line tearing mask want old new a b a_is b_is within cells pulses others size =
    let d : LifeLine B M = lifeless B M in
    let before : seeded_line a line ≡ seen old line = ap (λ xs. get_or xs line d) a_is ∙ lines_at old line d within in
    let after : seeded_line b line ≡ seen new line = ap (λ xs. get_or xs line d) b_is ∙ lines_at new line d (omega (arith, within, size)) in
    record {
      cells = λ n. ap (λ l. seeded_cell l n) after ∙ cells n ∙ ap (λ l. cond (cell mask n) (seeded tearing (cell want) n (seeded_cell l n)) (seeded_cell l n)) (sym before);
      pulses = ap (λ l. l.line.pulses) after ∙ pulses ∙ ap (λ l. counted l.line.pulses) (sym before);
      others = λ n apart.
          ap (λ xs. get_or xs n d) b_is ∙ lines_kept old new line n d size others apart ∙ ap (λ xs. get_or xs n d) (sym a_is);
      lines = ap length b_is ∙ lines_size new ∙ size ∙ sym (lines_size old) ∙ ap length (sym a_is);
    }
