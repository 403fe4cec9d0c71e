-- One move takes one line into the gap and leaves all others; the same in closed form, for every number of moves.
use Rattle.std.proofs.Common.{◌≡◌, ◌≢◌, ℕ, Bool, true, false, cond, ◌+◌, ◌-◌, ◌*◌, ◌/◌, ◌%◌, ◌<◌, ◌≤◌, ◌==◌, if◌then◌else◌, nat_lt, inl, inr, sym, ◌∙◌, ap, arith}
use Rattle.std.proofs.{Math.Nat.{div-add-mod, add-mod-mod, mul-le-mul_left}, lemmas.Bool.cases_eq, lemmas.Bool.Decides.nat_tests, lemmas.Nat.{mod_below, div_below}}
use Rattle.start_gap.specs.Rotation.{Rotation, IsRotation, StandsFor, most_lines, turn, place_after, gap_after, below_gap, place_by, move_by, advanced}
use Rattle.start_gap.proofs.Turning.{remainder, advanced-end, advanced-further, gap-stands, place-stands, place_by-moved, place-apart, place-off_gap}

-- ---- one move by the registers

-- the lines turn by one where the gap goes round the end
turned_more : (n s line : ℕ) → 1 ≤ n → (line + (s + 1) % n) % n ≡ (if (line + s) % n == n - 1 then 0 else (line + s) % n + 1)
turned_more n s line some =
    let sum : n * ((line + s) / n) + (line + s) % n ≡ line + s = div-add-mod (line + s) n in
    let below : (line + s) % n < n = mod_below (line + s) n some in
    elim (cases_eq ((line + s) % n) (n - 1)) [
      | inl last ↦
          let test : ((line + s) % n == n - 1) ≡ true = grind (arith, nat_tests) in
          rw test (add-mod-mod line (s + 1) n ∙ remainder ((line + s) / n + 1) n 0 (line + (s + 1)) (omega arith) (omega (arith, sum, last)))
      | inr before ↦
          let test : ((line + s) % n == n - 1) ≡ false = grind (arith, nat_tests) in
          rw test (add-mod-mod line (s + 1) n ∙ remainder ((line + s) / n) n ((line + s) % n + 1) (line + (s + 1)) (omega arith) (omega (arith, sum)))
    ]

end_places : (n p q : ℕ) → p < n → q ≡ (if p == n - 1 then 0 else p + 1)
    → (if nat_lt q n then q else q + 1) ≡ (if (if nat_lt p 0 then p else p + 1) == n then 0 else (if nat_lt p 0 then p else p + 1))
end_places n p q h e = grind (arith, nat_tests)

further_places : (gap p : ℕ) → gap ≢ 0
    → (if nat_lt p (gap - 1) then p else p + 1) ≡ (if (if nat_lt p gap then p else p + 1) == gap - 1 then gap else (if nat_lt p gap then p else p + 1))
further_places gap p h = grind (arith, nat_tests)

-- the place below a gap is one of the region's
pub below_gap-within : (n gap : ℕ) → gap ≤ n → below_gap n gap ≤ n
below_gap-within n gap few = by (gap == 0)
  where
    by : (b : Bool) → cond b n (gap - 1) ≤ n
    by true = omega arith
    by false = omega (arith, few)

below_further : (n gap : ℕ) → gap ≢ 0 → below_gap n gap ≡ gap - 1
below_further n gap h = grind (arith, nat_tests)

-- the line below the gap goes into the gap
by_place : (r : Rotation) (line : ℕ) → IsRotation r
    → place_by (advanced r) line ≡ (if place_by r line == below_gap r.lines r.gap then r.gap else place_by r line)
by_place r line range =
    elim (cases_eq r.gap 0) [
      | inl end ↦
          ap (λ (s : Rotation). place_by s line) (advanced-end r end)
          ∙ rw end (end_places r.lines ((line + r.start) % r.lines) ((line + (r.start + 1) % r.lines) % r.lines) (mod_below _ r.lines range.some_lines)
          (turned_more r.lines r.start line range.some_lines))
      | inr more ↦
          ap (λ (s : Rotation). place_by s line) (advanced-further r more)
          ∙ further_places r.gap ((line + r.start) % r.lines) more
          ∙ ap (λ g. if place_by r line == g then r.gap else place_by r line) (sym (below_further r.lines r.gap more))
    ]

-- the next move takes its line into the gap, and leaves all others
pub place_by-advanced : (r : Rotation) (line : ℕ) → IsRotation r → line < r.lines
    → place_by (advanced r) line ≡ (if line == (move_by r).line then r.gap else place_by r line)
place_by-advanced r line range h =
    let exists : (move_by r).line < r.lines = omega (arith, range.some_lines) in
    elim (cases_eq line (move_by r).line) [
      | inl same ↦
          let test : (line == (move_by r).line) ≡ true = grind (arith, nat_tests) in
          let stands : place_by r line ≡ below_gap r.lines r.gap = ap (place_by r) same ∙ place_by-moved r range in
          let there : (place_by r line == below_gap r.lines r.gap) ≡ true = grind (arith, nat_tests) in
          by_place r line range ∙ ap (λ b. if b then r.gap else place_by r line) (there ∙ sym test)
      | inr other ↦
          let test : (line == (move_by r).line) ≡ false = grind (arith, nat_tests) in
          let stands : place_by r line ≢ below_gap r.lines r.gap
          = λ e. other (place-apart r line (move_by r).line h exists (e ∙ sym (place_by-moved r range))) in
          let there : (place_by r line == below_gap r.lines r.gap) ≡ false = grind (arith, nat_tests) in
          by_place r line range ∙ ap (λ b. if b then r.gap else place_by r line) (there ∙ sym test)
    ]

-- the registers stay in range
pub advanced-range : (r : Rotation) → IsRotation r → IsRotation (advanced r)
advanced-range r range =
    elim (cases_eq r.gap 0) [
      | inl end ↦ rw (advanced-end r end) record {
        some_lines = range.some_lines;
        few_lines = range.few_lines;
        start_below = mod_below (r.start + 1) r.lines range.some_lines;
        gap_within = omega arith;
      }
      | inr more ↦ rw (advanced-further r more) record {
        some_lines = range.some_lines;
        few_lines = range.few_lines;
        start_below = range.start_below;
        gap_within = omega (arith, range.gap_within);
      }
    ]

-- ---- the same in closed form

-- the registers after t moves
abbrev pub rotation_after : ℕ → ℕ → Rotation
rotation_after n t = record { lines = n; start = t % turn n / (n + 1); gap = n - t % turn n % (n + 1) }

pub rotation_after-range : (n t : ℕ) → 1 ≤ n → n ≤ most_lines → IsRotation (rotation_after n t)
rotation_after-range n t some few = record {
  some_lines = some;
  few_lines = few;
  start_below = div_below (t % turn n) (n + 1) n (omega arith) (mod_below t (turn n) (omega (arith, mul-le-mul_left n some)));
  gap_within = omega arith;
}

pub rotation_after-stands : (n t : ℕ) → StandsFor (rotation_after n t) t
rotation_after-stands n t = record {
  moves = omega (arith, div-add-mod (t % turn n) (n + 1), mod_below (t % turn n) (n + 1) (let some : 0 < n + 1 = omega arith in some));
}

-- no line has the gap, and no two lines have one place
pub place_after-off_gap : (n t line : ℕ) → 1 ≤ n → n ≤ most_lines → place_after n line t ≢ gap_after n t
place_after-off_gap n t line some few e =
    let r : Rotation = rotation_after n t in
    let range : IsRotation r = rotation_after-range n t some few in
    let stands : StandsFor r t = rotation_after-stands n t in
    place-off_gap r line (place-stands r t line range stands ∙ e ∙ sym (gap-stands r t range stands))

pub place_after-apart : (n t a b : ℕ) → 1 ≤ n → n ≤ most_lines → a < n → b < n → place_after n a t ≡ place_after n b t → a ≡ b
place_after-apart n t a b some few p q e =
    let r : Rotation = rotation_after n t in
    let range : IsRotation r = rotation_after-range n t some few in
    let stands : StandsFor r t = rotation_after-stands n t in
    place-apart r a b p q (place-stands r t a range stands ∙ e ∙ sym (place-stands r t b range stands))

-- the same, by the gap
pub places-end : (r : Rotation) → IsRotation r → r.gap ≡ 0 → (line : ℕ) → line < r.lines
    → place_by (record { lines = r.lines; start = (r.start + 1) % r.lines; gap = r.lines }) line
    ≡ (if line == (move_by r).line then r.gap else place_by r line)
places-end r range end line h = ap (λ (s : Rotation). place_by s line) (sym (advanced-end r end)) ∙ place_by-advanced r line range h

pub places-further : (r : Rotation) → IsRotation r → r.gap ≢ 0 → (line : ℕ) → line < r.lines
    → place_by (record { lines = r.lines; start = r.start; gap = r.gap - 1 }) line
    ≡ (if line == (move_by r).line then r.gap else place_by r line)
places-further r range more line h = ap (λ (s : Rotation). place_by s line) (sym (advanced-further r more)) ∙ place_by-advanced r line range h
