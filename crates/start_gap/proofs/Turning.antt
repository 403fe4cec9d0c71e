-- What the registers say, in closed form.
use Rattle.std.proofs.Common.{◌≡◌, ◌≢◌, ℕ, false, ◌+◌, ◌-◌, ◌*◌, ◌/◌, ◌%◌, ◌<◌, ◌≤◌, ◌==◌, inl, inr, refl, ◌∙◌, ap, arith}
use Rattle.std.proofs.{Math.Nat.{div-add-mod, mul-add-mod_self_right, mul-le-mul_left, mod-eq_of_lt}, lemmas.Bool.{cases_lt, cases_order, cases_eq}, lemmas.Bool.Decides.nat_tests}
use Rattle.std.proofs.lemmas.Nat.{div-mul-add, mod-mul-add, mod_below}
use Rattle.start_gap.specs.Rotation.{Rotation, IsRotation, StandsFor, turn, place_after, gap_after, move_after, place_by, move_by, advanced}

-- ---- numbers

-- a quotient and a remainder that are known
quotient : (a w b x : ℕ) → b < w → x ≡ a * w + b → x / w ≡ a
quotient a w b x h e = rw e (div-mul-add a w b h)

pub remainder : (a w b x : ℕ) → b < w → x ≡ a * w + b → x % w ≡ b
remainder a w b x h e = rw e (mod-mul-add a w b h)

-- t moves are k full turns, and s rounds of the gap, and d more
pub record Rounds (n k s d t : ℕ) : Type 0 where
  pub moves : t ≡ k * turn n + (s * (n + 1) + d)

pub in_rounds : (n s d t : ℕ) → t % turn n ≡ s * (n + 1) + d → Rounds n (t / turn n) s d t
in_rounds n s d t h = record { moves = omega (arith, div-add-mod t (turn n)) }

-- the moves of the present round, and those of the present walk over the lines
pub round : (n k s d t : ℕ) → d ≤ n → Rounds n k s d t → t % (n + 1) ≡ d
round n k s d t h e = remainder (k * n + s) (n + 1) d t (omega arith) (omega (arith, e.moves))

pub walk : (n k s d t : ℕ) → Rounds n k s d t → t % n ≡ (s + d) % n
walk n k s d t e =
    let split : t ≡ (k * (n + 1) + s) * n + (s + d) = omega (arith, e.moves)
    in rw split (mul-add-mod_self_right (k * (n + 1) + s) n (s + d))

-- a line's place before and behind the gap
place_before : (n k s d t line : ℕ) → 1 ≤ n → (line + s) % n + d < n → Rounds n k s d t → place_after n line t ≡ (line + s) % n
place_before n k s d t line some h e =
    let p : ℕ = (line + s) % n in
    let c : ℕ = (line + s) / n in
    let sum : n * c + p ≡ line + s = div-add-mod (line + s) n in
    let walks : (t + line) / n ≡ k * (n + 1) + s + c
    = quotient (k * (n + 1) + s + c) n (p + d) (t + line) h (omega (arith, e.moves, sum)) in
    remainder (k + c) (n + 1) p (line + (t + line) / n) (omega arith) (omega (arith, walks, sum))

place_behind : (n k s d t line : ℕ) → 1 ≤ n → d ≤ n → n ≤ (line + s) % n + d → Rounds n k s d t → place_after n line t ≡ (line + s) % n + 1
place_behind n k s d t line some few h e =
    let p : ℕ = (line + s) % n in
    let c : ℕ = (line + s) / n in
    let sum : n * c + p ≡ line + s = div-add-mod (line + s) n in
    let below : p < n = mod_below (line + s) n some in
    let walks : (t + line) / n ≡ k * (n + 1) + s + c + 1
    = quotient (k * (n + 1) + s + c + 1) n (p + d - n) (t + line) (omega arith) (omega (arith, e.moves, sum)) in
    remainder (k + c) (n + 1) (p + 1) (line + (t + line) / n) (omega arith) (omega (arith, walks, sum))

-- two lines that are turned alike are one
pub same_turned : (n s a b : ℕ) → a < n → b < n → (a + s) % n ≡ (b + s) % n → a ≡ b
same_turned n s a b p q e =
    let u : n * ((a + s) / n) + (a + s) % n ≡ a + s = div-add-mod (a + s) n in
    let v : n * ((b + s) / n) + (b + s) % n ≡ b + s = div-add-mod (b + s) n in
    elim (cases_order ((a + s) / n) ((b + s) / n)) [
      | inl same ↦ omega (arith, ap (λ x. n * x) same, u, v)
      | inr (inl less) ↦ omega (arith, mul-le-mul_left n less, u, v)
      | inr (inr more) ↦ omega (arith, mul-le-mul_left n more, u, v)
    ]

-- ---- registers

-- a line's place before and behind the gap
pub place_by-before : (r : Rotation) (line : ℕ) → (line + r.start) % r.lines < r.gap → place_by r line ≡ (line + r.start) % r.lines
place_by-before r line h = grind (arith, nat_tests)

pub place_by-behind : (r : Rotation) (line : ℕ) → r.gap ≤ (line + r.start) % r.lines → place_by r line ≡ (line + r.start) % r.lines + 1
place_by-behind r line h = grind (arith, nat_tests)

-- the line that was turned to this place
pub turned_back : (n s q : ℕ) → s ≤ n → q < n → ((q + n - s) % n + s) % n ≡ q
turned_back n s q p h =
    elim (cases_lt q s) [
      | inl less ↦
          let same : (q + n - s) % n ≡ q + n - s = mod-eq_of_lt (let below : q + n - s < n = omega arith in below) in
          remainder 1 n q ((q + n - s) % n + s) h (omega (arith, same))
      | inr more ↦
          let same : (q + n - s) % n ≡ q - s = remainder 1 n (q - s) (q + n - s) (omega arith) (omega arith) in
          remainder 0 n q ((q + n - s) % n + s) h (omega (arith, same))
    ]

pub line_before : (r : Rotation) (place : ℕ) → IsRotation r → place < r.gap
    → ((place + r.lines - r.start) % r.lines < r.lines) × (place_by r ((place + r.lines - r.start) % r.lines) ≡ place)
line_before r place range h =
    let back : ((place + r.lines - r.start) % r.lines + r.start) % r.lines ≡ place
    = turned_back r.lines r.start place (omega (arith, range.start_below)) (omega (arith, range.gap_within)) in
    (mod_below _ r.lines range.some_lines, place_by-before r _ (rw back h) ∙ back)

pub line_behind : (r : Rotation) (place : ℕ) → IsRotation r → r.gap < place → place ≤ r.lines
    → ((place - 1 + r.lines - r.start) % r.lines < r.lines) × (place_by r ((place - 1 + r.lines - r.start) % r.lines) ≡ place)
line_behind r place range h w =
    let back : ((place - 1 + r.lines - r.start) % r.lines + r.start) % r.lines ≡ place - 1
    = turned_back r.lines r.start (place - 1) (omega (arith, range.start_below)) (omega arith) in
    (mod_below _ r.lines range.some_lines, place_by-behind r _ (rw back (omega arith)) ∙ omega (arith, back))

-- the gap's place
pub gap-stands : (r : Rotation) (t : ℕ) → IsRotation r → StandsFor r t → r.gap ≡ gap_after r.lines t
gap-stands r t range stands =
    let e : t % (r.lines + 1) ≡ r.lines - r.gap
    = round r.lines (t / turn r.lines) r.start (r.lines - r.gap) t (omega arith) (in_rounds r.lines r.start (r.lines - r.gap) t stands.moves) in
    omega (arith, e, range.gap_within)

-- a line's place
pub place-stands : (r : Rotation) (t line : ℕ) → IsRotation r → StandsFor r t → place_by r line ≡ place_after r.lines line t
place-stands r t line range stands =
    let e : Rounds r.lines (t / turn r.lines) r.start (r.lines - r.gap) t = in_rounds r.lines r.start (r.lines - r.gap) t stands.moves in
    elim (cases_lt ((line + r.start) % r.lines) r.gap) [
      | inl before ↦
          let is : place_after r.lines line t ≡ (line + r.start) % r.lines
          = place_before r.lines (t / turn r.lines) r.start (r.lines - r.gap) t line range.some_lines (omega (arith, range.gap_within)) e in
          grind (arith, nat_tests, is)
      | inr behind ↦
          let is : place_after r.lines line t ≡ (line + r.start) % r.lines + 1
          = place_behind r.lines (t / turn r.lines) r.start (r.lines - r.gap) t line range.some_lines (omega arith) (omega (arith, range.gap_within)) e in
          grind (arith, nat_tests, is)
    ]

-- the next move
pub move-stands : (r : Rotation) (t : ℕ) → IsRotation r → StandsFor r t → move_by r ≡ move_after r.lines t
move-stands r t range stands =
    let gap : r.gap ≡ gap_after r.lines t = gap-stands r t range stands in
    let e : t % r.lines ≡ (r.start + (r.lines - r.gap)) % r.lines
    = walk r.lines (t / turn r.lines) r.start (r.lines - r.gap) t (in_rounds r.lines r.start (r.lines - r.gap) t stands.moves) in
    let sum : r.start + (r.lines - r.gap) ≡ r.start + r.lines - r.gap = omega (arith, range.gap_within) in
    let f : t % r.lines ≡ (r.start + r.lines - r.gap) % r.lines = e ∙ ap (λ x. x % r.lines) sum in
    rw (← gap, f) refl

-- the line that moves next stands below the gap
pub place_by-moved : (r : Rotation) → IsRotation r → place_by r (move_by r).line ≡ (move_by r).from
place_by-moved r range =
    let q : ℕ = (r.start + r.lines - r.gap) / r.lines in
    let sum : r.lines * q + (r.start + r.lines - r.gap) % r.lines ≡ r.start + r.lines - r.gap = div-add-mod (r.start + r.lines - r.gap) r.lines in
    let below : (r.start + r.lines - r.gap) % r.lines < r.lines = mod_below _ r.lines range.some_lines in
    elim (cases_eq r.gap 0) [
      | inl end ↦
          let walked : (r.start + r.lines - r.gap) % r.lines ≡ r.start
          = remainder 1 r.lines r.start (r.start + r.lines - r.gap) range.start_below (omega arith) in
          let turned : (r.lines - 1 - (r.start + r.lines - r.gap) % r.lines + r.start) % r.lines ≡ r.lines - 1
          = remainder 0 r.lines (r.lines - 1) (r.lines - 1 - (r.start + r.lines - r.gap) % r.lines + r.start)
          (omega (arith, range.some_lines)) (omega (arith, walked, range.start_below)) in
          place_by-behind r (move_by r).line (rw (turned, end) (omega arith)) ∙ grind (arith, nat_tests, turned, range.some_lines)
      | inr further ↦
          let turned : (r.lines - 1 - (r.start + r.lines - r.gap) % r.lines + r.start) % r.lines ≡ r.gap - 1
          = remainder q r.lines (r.gap - 1) (r.lines - 1 - (r.start + r.lines - r.gap) % r.lines + r.start)
          (omega (arith, range.gap_within)) (omega (arith, sum, below, range.gap_within)) in
          place_by-before r (move_by r).line (rw turned (omega arith)) ∙ grind (arith, nat_tests, turned)
    ]

-- two lines never have one place, and no line has the gap
pub place-apart : (r : Rotation) (a b : ℕ) → a < r.lines → b < r.lines → place_by r a ≡ place_by r b → a ≡ b
place-apart r a b p q e =
    let same : (a + r.start) % r.lines ≡ (b + r.start) % r.lines = grind (arith, nat_tests, e) in
    same_turned r.lines r.start a b p q same

pub place-off_gap : (r : Rotation) (line : ℕ) → place_by r line ≢ r.gap
place-off_gap r line e = grind (arith, nat_tests, e)

-- the registers after one more move, by the gap
pub advanced-end : (r : Rotation) → r.gap ≡ 0 → advanced r ≡ record { lines = r.lines; start = (r.start + 1) % r.lines; gap = r.lines }
advanced-end r e = rw e refl

pub advanced-further : (r : Rotation) → r.gap ≢ 0 → advanced r ≡ record { lines = r.lines; start = r.start; gap = r.gap - 1 }
advanced-further r h =
    let test : (r.gap == 0) ≡ false = grind (arith, nat_tests) in
    rw test refl

-- one more move, within a turn and at its end
next_in_turn : (m t u : ℕ) → u + 1 < m → t % m ≡ u → (t + 1) % m ≡ u + 1
next_in_turn m t u h e = remainder (t / m) m (u + 1) (t + 1) h (omega (arith, div-add-mod t m))

next_turn : (m t : ℕ) → 1 ≤ m → t % m ≡ m - 1 → (t + 1) % m ≡ 0
next_turn m t some e = remainder (t / m + 1) m 0 (t + 1) (omega arith) (omega (arith, div-add-mod t m))

-- what the registers of a turn come to
below_turn : (n s d : ℕ) → s < n → d ≤ n → s * (n + 1) + d < turn n
below_turn n s d p q = omega (arith, mul-le-mul_left (n + 1) p)

pub stands-within : (n s g t : ℕ) → s < n → 1 ≤ g → g ≤ n → t % turn n ≡ s * (n + 1) + (n - g) → (t + 1) % turn n ≡ s * (n + 1) + (n - (g - 1))
stands-within n s g t p q w e =
    let sum : s * (n + 1) + (n - g) + 1 ≡ s * (n + 1) + (n - (g - 1)) = omega arith in
    next_in_turn (turn n) t (s * (n + 1) + (n - g)) (rw sum (below_turn n s (n - (g - 1)) p (omega arith))) e ∙ sum

stands-round : (n s t : ℕ) → s + 1 < n → t % turn n ≡ s * (n + 1) + (n - 0) → (t + 1) % turn n ≡ (s + 1) * (n + 1) + (n - n)
stands-round n s t p e =
    let sum : s * (n + 1) + (n - 0) + 1 ≡ (s + 1) * (n + 1) + (n - n) = omega arith in
    next_in_turn (turn n) t (s * (n + 1) + (n - 0)) (rw sum (below_turn n (s + 1) (n - n) p (omega arith))) e ∙ sum

stands-turn : (n s t : ℕ) → s + 1 ≡ n → t % turn n ≡ s * (n + 1) + (n - 0) → (t + 1) % turn n ≡ 0 * (n + 1) + (n - n)
stands-turn n s t p e =
    let last : s * (n + 1) + (n - 0) ≡ turn n - 1 = omega (arith, ap (λ x. x * (n + 1)) p) in
    next_turn (turn n) t (omega (arith, mul-le-mul_left (n + 1) (let q : 1 ≤ n = omega arith in q))) (e ∙ last) ∙ omega arith

-- the registers after one more move stand for one more
pub stands-advanced : (r : Rotation) (t : ℕ) → IsRotation r → StandsFor r t → StandsFor (advanced r) (t + 1)
stands-advanced r t range stands =
    elim (cases_eq r.gap 0) [
      | inl end ↦ elim (cases_lt (r.start + 1) r.lines) [
        | inl less ↦
            let next : (r.start + 1) % r.lines ≡ r.start + 1 = mod-eq_of_lt less in
            let is : (t + 1) % turn r.lines ≡ (r.start + 1) * (r.lines + 1) + (r.lines - r.lines)
            = stands-round r.lines r.start t less (rw end at stands.moves) in
            record { moves = rw end (rw next is) }
        | inr last ↦
            let whole : r.start + 1 ≡ r.lines = omega (arith, range.start_below) in
            let next : (r.start + 1) % r.lines ≡ 0 = remainder 1 r.lines 0 (r.start + 1) (omega (arith, range.some_lines)) (omega arith) in
            let is : (t + 1) % turn r.lines ≡ 0 * (r.lines + 1) + (r.lines - r.lines)
            = stands-turn r.lines r.start t whole (rw end at stands.moves) in
            record { moves = rw end (rw next is) }
      ]
      | inr further ↦
          let is : (t + 1) % turn r.lines ≡ r.start * (r.lines + 1) + (r.lines - (r.gap - 1))
          = stands-within r.lines r.start r.gap t range.start_below (omega arith) range.gap_within stands.moves in
          record { moves = grind (arith, nat_tests, is) }
    ]

pub stands-end : (r : Rotation) (t : ℕ) → IsRotation r → r.gap ≡ 0 → StandsFor r t
    → StandsFor (record { lines = r.lines; start = (r.start + 1) % r.lines; gap = r.lines }) (t + 1)
stands-end r t range end stands = rw (advanced-end r end) at (stands-advanced r t range stands)

pub stands-further : (r : Rotation) (t : ℕ) → IsRotation r → r.gap ≢ 0 → StandsFor r t
    → StandsFor (record { lines = r.lines; start = r.start; gap = r.gap - 1 }) (t + 1)
stands-further r t range further stands = rw (advanced-further r further) at (stands-advanced r t range stands)
