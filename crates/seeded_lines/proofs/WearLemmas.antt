-- How the cells of a line are worn.
use Rattle.std.proofs.Common.{◌≡◌, ℕ, zero, suc, ◌+◌, ◌-◌, ◌*◌, ◌<◌, Bool, false, refl, sym, ◌∙◌, ap, arith, slice_index, Option, Some}
use Rattle.cell_rows.specs.{Device.LineState, Rows.{cell, members}, Told.{most, wear_told}, declared.array.Wear.Wear, declared.tells.CellWear.CellWear}
use Rattle.cell_rows.proofs.{Most.{most-none, most-same}, RowLemmas.cell-zeros}
use Rattle.seeded_lines.specs.{Drawn.{HaveSameLife, changes_of, changes_with, drawn_line, word_of}, Planes.PlaneLine, Seeded.{LifeLine, endurance}}
use Rattle.seeded_lines.{specs.declared.seeded.SeededCell.SeededCell, proofs.DrawnLemmas.drawn_is}

pub members-none : (has : ℕ → Bool) (n : ℕ) → ((k : ℕ) → has k ≡ false) → members has n ≡ 0
unfolding members
members-none has zero none = refl
members-none has (suc n) none = rw (members-none has n none, none n) refl

-- a line as it is drawn has no stuck cell
pub drawn_stuck : {B M : ℕ} (wear : Wear) (line : ℕ) (row : LifeLine B M) → row ≡ drawn_line B M wear line
    → members (cell row.line.stuck) (8 * (B + M)) ≡ 0
drawn_stuck {B} {M} wear line row is =
    members-none (cell row.line.stuck) (8 * (B + M))
    (λ n. ap (λ (l : LifeLine B M). cell l.line.stuck n) is ∙ ap (λ (l : PlaneLine B M). cell l.stuck n) (drawn_is B M wear line).line ∙ cell-zeros B M n)

-- each cell of it has all the changes that its word lets it live through
drawn_left : (B M : ℕ) (wear : Wear) (line n : ℕ) → n < 8 * (B + M)
    → slice_index (drawn_line B M wear line).left n ≡ endurance wear (word_of wear line n)
drawn_left B M wear line n within = ap (λ (c : SeededCell). c.left) ((drawn_is B M wear line).cells n within)

none_less : (x y : ℕ) → y ≡ x → x - y ≡ 0
none_less x y is = omega (arith, is)

-- so none has changed
pub drawn_changes : {B M : ℕ} (wear : Wear) (line : ℕ) (row : LifeLine B M) → row ≡ drawn_line B M wear line
    → most (changes_of wear line row) (8 * (B + M)) ≡ 0
drawn_changes {B} {M} wear line row is =
    most-none (changes_of wear line row) (8 * (B + M))
    (λ n within.
    none_less (endurance wear (word_of wear line n)) (slice_index row.left n)
    (ap (λ (l : LifeLine B M). slice_index l.left n) is ∙ drawn_left B M wear line n within))

-- what the cells of a line lack of those of the line as it is drawn
pub changes_since : {B M : ℕ} (wear : Wear) (line : ℕ) (drawn row : LifeLine B M) → HaveSameLife (drawn_line B M wear line) drawn
    → most (λ n. slice_index drawn.left n - slice_index row.left n) (8 * (B + M)) ≡ most (changes_of wear line row) (8 * (B + M))
changes_since {B} {M} wear line drawn row same =
    most-same (λ n. slice_index drawn.left n - slice_index row.left n) (changes_of wear line row) (8 * (B + M))
    (λ n within.
    ap (λ k. k - slice_index row.left n) (sym (ap (λ (c : SeededCell). c.left) (same.cells n)) ∙ drawn_left B M wear line n within))

-- the answer of an array, from that of the line as its page has it
pub told_wear : {B M : ℕ} (state : LineState B M) (wear : Option Wear) (given : Wear) (line : ℕ) (row seen : LifeLine B M) (told : CellWear) → wear ≡ Some given → row ≡ seen
    → state.stuck ≡ cell row.line.stuck
    → told.stuck ≡ members (cell seen.line.stuck) (8 * (B + M)) → told.changes ≡ most (changes_of given line seen) (8 * (B + M))
    → Some told ≡ wear_told state (changes_with wear line row)
told_wear {B} {M} state wear given line row seen told powered is stuck_is stuck changes =
    let counted : told.stuck ≡ members state.stuck (8 * (B + M)) =
    stuck ∙ ap (λ (l : LifeLine B M). members (cell l.line.stuck) (8 * (B + M))) (sym is) ∙ ap (λ (s : ℕ → Bool). members s (8 * (B + M))) (sym stuck_is) in
    let most_of : told.changes ≡ most (changes_of given line row) (8 * (B + M)) =
    changes ∙ ap (λ (l : LifeLine B M). most (changes_of given line l) (8 * (B + M))) (sym is) in
    same told (members state.stuck (8 * (B + M))) (most (changes_of given line row) (8 * (B + M))) counted most_of
    ∙ ap (λ (w : Option Wear). wear_told state (changes_with w line row)) (sym powered)
  where
    same : (own : CellWear) (s k : ℕ) → own.stuck ≡ s → own.changes ≡ k → Some own ≡ Some (record { stuck = s; changes = k })
    same own s k a b = ap (λ (n : ℕ). Some (record own { stuck = n })) a ∙ ap (λ (n : ℕ). Some (record own { stuck = s; changes = n })) b
