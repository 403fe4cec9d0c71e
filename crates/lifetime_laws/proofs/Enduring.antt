-- A line with no cell stuck isn't worn.
use Rattle.std.proofs.Common.{◌≡◌, ℕ, zero, suc, ◌+◌, ◌*◌, ◌-◌, ◌<◌, ◌≤◌, ◌&&◌, ◌||◌, not, Bool, false, refl, ap, ◌∙◌, arith}
use Rattle.std.{specs.Prelude.nat_lt, proofs.lemmas.Bool.{false_from_ne_true, le-ltb, or_from}}
use Rattle.cell_rows.specs.{Rows.{cell, members}, declared.row.Cells.Cells}
use Rattle.ecp_line.specs.{Layout.{IsLayout, width, some_below, full_cell, activity_cell}, Reading.is_worn_line}
use Rattle.line_writer.proofs.Orderly.{members-none}
use Rattle.lifetime_laws.specs.{Endurance.UnwornLaw, Lifetime.ControlsLaw}
use Rattle.right_runs.specs.LineWrites.{most_kept}
use Rattle.row_rules.specs.Ticking.{tries}
use Rattle.bank_shape.specs.Shape.{control_line}

none-below : (p : ℕ → Bool) (j : ℕ) → ((k : ℕ) → k < j → p k ≡ false) → some_below p j ≡ false
unfolding some_below
none-below p zero none = refl
none-below p (suc j) none =
    or_from (p j) (some_below p j) (none j (omega arith))
    (none-below p j (λ k lt. none k (omega (arith, lt))))

one_more : (d w : ℕ) → (d + 1) * w ≡ d * w + w
one_more d w = omega arith

-- a line with no cell stuck isn't worn
live-line : {B M : ℕ} (e : ℕ) (row : Cells B M) (stuck : ℕ → Bool) → IsLayout B M e → ((n : ℕ) → n < 8 * (B + M) → stuck n ≡ false) → is_worn_line e row stuck ≡ false
live-line {B} {M} e row stuck l none =
    let few : nat_lt e (members stuck (8 * (B + M))) ≡ false = ap (nat_lt e) (members-none stuck (8 * (B + M)) none) ∙ le-ltb e 0 (omega arith) in
    let full : stuck (full_cell B e) ≡ false = none (full_cell B e) (omega (arith, l.room)) in
    let active : some_below (λ i. stuck (activity_cell B e + i)) (e - 1) ≡ false =
    none-below (λ i. stuck (activity_cell B e + i)) (e - 1) (λ k lt. none (activity_cell B e + k) (within k lt)) in
    by (nat_lt e (members stuck (8 * (B + M)))) (stuck (full_cell B e)) (not (cell row (full_cell B e))) (some_below (λ i. stuck (activity_cell B e + i)) (e - 1)) few full active
  where
    by : (a b c d : Bool) → a ≡ false → b ≡ false → d ≡ false → (a || (b || (c && d))) ≡ false
    by a b c d h k i = grind arith

    within : (k : ℕ) → k < e - 1 → activity_cell B e + k < 8 * (B + M)
    within k lt =
        let split : e ≡ e - 1 + 1 = omega (arith, l.two) in
        let last : e * (width B + 1) ≡ (e - 1) * (width B + 1) + (width B + 1) = ap (λ x. x * (width B + 1)) split ∙ one_more (e - 1) (width B + 1) in
        omega (arith, last, l.room, l.most, lt)

pub unworn_law : UnwornLaw
unworn_law B M e array most line l late few =
    live-line e (array.line line).held (array.line line).stuck l
    (λ n within. false_from_ne_true ((array.line line).stuck n) (λ is. let le : array.bounds.endures ≤ most = late n is in absurd (omega (arith, le, few))))

pub controls_law : ControlsLaw
controls_law n m e shape array rules rows layout lines bears item lt =
    unworn_law n m e array (tries rules.policy * most_kept shape rows item) (control_line shape item) layout (lines.control_ages item lt).stuck (bears item lt)
