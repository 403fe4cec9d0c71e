-- A line and a place determine one move of each turn, since n and n+1 share no factor.
use Rattle.std.proofs.Common.{◌≡◌, ℕ, ◌+◌, ◌-◌, ◌*◌, ◌/◌, ◌%◌, ◌<◌, ◌≤◌, inl, inr, sym, ◌∙◌, ap, arith}
use Rattle.std.proofs.{Math.Nat.{div-add-mod, mul-le-mul_left}, lemmas.Bool.{cases_lt, cases_order}, lemmas.Nat.{mod_below, div_below}}
use Rattle.start_gap.{specs.Rotation.turn, specs.Turn.{Copies, IsOnlyMove, HasEachPairOnce}, proofs.Turning.{Rounds, remainder, round, walk, in_rounds, same_turned, turned_back}}

-- two numbers of one turn with one remainder are one
same_in_turn : (m first a b : ℕ) → first ≤ a → a < first + m → first ≤ b → b < first + m → a % m ≡ b % m → a ≡ b
same_in_turn m first a b p q v w e =
    let x : m * (a / m) + a % m ≡ a = div-add-mod a m in
    let y : m * (b / m) + b % m ≡ b = div-add-mod b m in
    elim (cases_order (a / m) (b / m)) [
      | inl same ↦ omega (arith, ap (λ z. m * z) same, x, y)
      | inr (inl less) ↦ omega (arith, mul-le-mul_left m less, x, y)
      | inr (inr more) ↦ omega (arith, mul-le-mul_left m more, x, y)
    ]

-- where Start stands when the line moves into the place
abbrev pub start_at : ℕ → ℕ → ℕ → ℕ
start_at n line place = (n - 1 - line + n - (n - place)) % n

-- the number of that move in the first turn
abbrev pub move_at : ℕ → ℕ → ℕ → ℕ
move_at n line place = start_at n line place * (n + 1) + (n - place)

pub move_at-below : (n line place : ℕ) → 1 ≤ n → place ≤ n → move_at n line place < turn n
move_at-below n line place some p =
    omega (arith, mul-le-mul_left (n + 1) (mod_below (n - 1 - line + n - (n - place)) n some))

copies_at : (n line place t : ℕ) → 1 ≤ n → line < n → place ≤ n → t % turn n ≡ move_at n line place → Copies n line place t
copies_at n line place t some p q e =
    let rounds : Rounds n (t / turn n) (start_at n line place) (n - place) t = in_rounds n (start_at n line place) (n - place) t e in
    let gone : t % (n + 1) ≡ n - place = round n (t / turn n) (start_at n line place) (n - place) t (omega arith) rounds in
    let walked : t % n ≡ (start_at n line place + (n - place)) % n = walk n (t / turn n) (start_at n line place) (n - place) t rounds in
    let back : (start_at n line place + (n - place)) % n ≡ n - 1 - line = turned_back n (n - place) (n - 1 - line) (omega arith) (omega arith) in
    record { copied = omega (arith, walked, back); into = omega (arith, gone) }

only_at : (n line place t : ℕ) → 1 ≤ n → line < n → place ≤ n → Copies n line place t → t % turn n ≡ move_at n line place
only_at n line place t some p q c =
    let u : ℕ = t % turn n in
    let s : ℕ = u / (n + 1) in
    let d : ℕ = u % (n + 1) in
    let split : (n + 1) * s + d ≡ u = div-add-mod u (n + 1) in
    let few : d ≤ n = omega (arith, mod_below u (n + 1) (let pos : 0 < n + 1 = omega arith in pos)) in
    let rounds : Rounds n (t / turn n) s d t = in_rounds n s d t (omega (arith, split)) in
    let gone : t % (n + 1) ≡ d = round n (t / turn n) s d t few rounds in
    let place_is : d ≡ n - place = omega (arith, gone, c.into, few) in
    let walked : t % n ≡ (s + d) % n = walk n (t / turn n) s d t rounds in
    let line_is : t % n ≡ n - 1 - line = omega (arith, c.copied, mod_below t n some) in
    let back : (start_at n line place + (n - place)) % n ≡ n - 1 - line = turned_back n (n - place) (n - 1 - line) (omega arith) (omega arith) in
    let below : s < n = div_below u (n + 1) n (omega arith) (mod_below t (turn n) (omega (arith, mul-le-mul_left n some))) in
    let alike : (s + (n - place)) % n ≡ (start_at n line place + (n - place)) % n
    = ap (λ x. (s + x) % n) (sym place_is) ∙ sym walked ∙ line_is ∙ sym back in
    let same : s ≡ start_at n line place
    = same_turned n (n - place) s (start_at n line place) below (mod_below (n - 1 - line + n - (n - place)) n some) alike in
    omega (arith, split, place_is, ap (λ x. (n + 1) * x) same)

-- the move with this remainder is the only one of its turn
pub only_move : (n first line place t : ℕ) → 1 ≤ n → line < n → place ≤ n → first ≤ t → t < first + turn n
    → t % turn n ≡ move_at n line place → IsOnlyMove n first line place t
only_move n first line place t some p q v w e = record {
  begun = v;
  within = w;
  copies = copies_at n line place t some p q e;
  only = λ other x y c. same_in_turn (turn n) first other t x y v w (only_at n line place other some p q c ∙ sym e);
}

-- the first number from `first` on with a remainder
later : (m first u : ℕ) → u < first % m → u < m
    → (first ≤ first + (m - first % m + u)) × (first + (m - first % m + u) < first + m) × ((first + (m - first % m + u)) % m ≡ u)
later m first u h p =
    let split : m * (first / m) + first % m ≡ first = div-add-mod first m in
    let below : first % m < m = mod_below first m (omega arith) in
    (omega arith, omega arith, remainder (first / m + 1) m u (first + (m - first % m + u)) p (omega (arith, split, below)))

sooner : (m first u : ℕ) → first % m ≤ u → u < m
    → (first ≤ first + (u - first % m)) × (first + (u - first % m) < first + m) × ((first + (u - first % m)) % m ≡ u)
sooner m first u h p =
    let split : m * (first / m) + first % m ≡ first = div-add-mod first m in
    (omega arith, omega arith, remainder (first / m) m u (first + (u - first % m)) p (omega (arith, split)))

pub moves_later : (n first line place : ℕ) → 1 ≤ n → line < n → place ≤ n → move_at n line place < first % turn n
    → IsOnlyMove n first line place (first + (turn n - first % turn n + move_at n line place))
moves_later n first line place some p q h =
    let next = later (turn n) first (move_at n line place) h (move_at-below n line place some q) in
    only_move n first line place _ some p q next.0 next.1 next.2

pub moves_sooner : (n first line place : ℕ) → 1 ≤ n → line < n → place ≤ n → first % turn n ≤ move_at n line place
    → IsOnlyMove n first line place (first + (move_at n line place - first % turn n))
moves_sooner n first line place some p q h =
    let next = sooner (turn n) first (move_at n line place) h (move_at-below n line place some q) in
    only_move n first line place _ some p q next.0 next.1 next.2

pub has_each_pair_once : (n first : ℕ) → 1 ≤ n → HasEachPairOnce n first
has_each_pair_once n first some line place p q =
    elim (cases_lt (move_at n line place) (first % turn n)) [
      | inl less ↦ (first + (turn n - first % turn n + move_at n line place), moves_later n first line place some p q less)
      | inr more ↦ (first + (move_at n line place - first % turn n), moves_sooner n first line place some p q more)
    ]
