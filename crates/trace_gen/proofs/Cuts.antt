-- How many rows of a generated trace are cuts.
use Rattle.std.proofs.Common.{◌≡◌, ◌≢◌, ℕ, zero, suc, ◌+◌, ◌-◌, ◌*◌, ◌/◌, ◌%◌, ◌<◌, ◌≤◌, ◌==◌, Bool, true, false, cond, List, ◌∷◌, min, refl, sym, ap, ◌∙◌, inl, inr, arith, nat_le}
use Rattle.std.proofs.{Math.Nat.{div-mul-le_self, mod-lt, mul_comm, suc-mul, zero-div}, lemmas.Bool.{cases_Bool, cases_eq, cases_lt}, lemmas.Bool.Decides.nat_tests}
use Rattle.std.proofs.{lemmas.List.Sums.sum_by-cons, lemmas.Nat.{div-add-mod', div-mul-add, le-div}}
use Rattle.rand_core.specs.Stream.{Stream, next_u64}
use Rattle.trace_reader.specs.declared.event.Event.{Event}
use Rattle.trace_gen.specs.{Generated.{access_by, cut_distance, draws_write, event_drawn, events_drawn, is_cut_row, op_drawn}, Laws.{cuts_among, is_cut}, declared.mix.Mix.Mix}

quotient : (a w b x : ℕ) → b < w → x ≡ a * w + b → x / w ≡ a
quotient a w b x h e = rw e (div-mul-add a w b h)

-- a row behind another that isn't at a multiple of the distance
div-same : (d p : ℕ) → 1 ≤ p → suc d % p ≢ 0 → suc d / p ≡ d / p
div-same d p some other =
    let whole = div-add-mod' (suc d) p in
    let small : suc d % p < p = mod-lt (suc d) (omega arith) in
    sym (quotient (suc d / p) p (suc d % p - 1) d (omega arith) (omega arith))

-- and one that is
div-next-at : (q d p : ℕ) → 1 ≤ p → q * p ≡ suc d → q ≡ d / p + 1
div-next-at zero d p some e = absurd (omega arith)
div-next-at (suc k) d p some e =
    let split = suc-mul k p in
    let below : d / p ≡ k = quotient k p (p - 1) d (omega arith) (omega arith) in
    omega arith

div-next : (d p : ℕ) → 1 ≤ p → suc d % p ≡ 0 → suc d / p ≡ d / p + 1
div-next d p some same =
    let whole = div-add-mod' (suc d) p in
    div-next-at (suc d / p) d p some (omega arith)

-- one row more counts where it is a cut
abbrev counted : Mix → ℕ → ℕ
counted mix row = min (row / cut_distance mix) mix.cuts

row-counts : (mix : Mix) (done : ℕ) → cond (is_cut_row mix (suc done)) 1 0 + counted mix done ≡ counted mix (suc done)
unfolding is_cut_row
row-counts mix done =
    let p = cut_distance mix in
    let some : 1 ≤ p = omega arith in
    elim (cases_eq (suc done % p) 0) [
      | inl same ↦
          let next = div-next done p some same in
          let at : (suc done % p == 0) ≡ true = grind (arith, nat_tests) in
          elim (cases_Bool (nat_le (suc done / p) mix.cuts)) [
            | inl within ↦
                let few : suc done / p ≤ mix.cuts = grind (arith, nat_tests) in
                rw (at, within) (omega arith)
            | inr past ↦
                let many : mix.cuts < suc done / p = grind (arith, nat_tests) in
                rw (at, past) (omega arith)
          ]
      | inr other ↦
          let stays = div-same done p some other in
          let at : (suc done % p == 0) ≡ false = grind (arith, nat_tests) in
          rw at (omega arith)
    ]

-- a read or write is no cut
access-no_cut : (n lines : ℕ) (mix : Mix) (word : ℕ) (left : Stream) → is_cut (access_by n lines mix word left).0 ≡ false
unfolding access_by
access-no_cut n lines mix word left = elim (cases_Bool (draws_write mix word)) [
  | inl write ↦ rw write refl
  | inr read ↦ rw read refl
]

op-cut : (n lines : ℕ) (mix : Mix) (row : ℕ) (left : Stream) → is_cut (op_drawn n lines mix row left).0 ≡ is_cut_row mix row
unfolding op_drawn
op-cut n lines mix row left = elim (cases_Bool (is_cut_row mix row)) [
  | inl cut ↦ rw cut refl
  | inr other ↦ rw other (access-no_cut n lines mix (next_u64 left).0 (next_u64 left).1)
]

event-cut : (n lines : ℕ) (mix : Mix) (row before : ℕ) (left : Stream) → is_cut (event_drawn n lines mix row before left).0.op ≡ is_cut_row mix row
unfolding event_drawn
event-cut n lines mix row before left = op-cut n lines mix row (next_u64 left).1

-- one event more
cuts-more : {n : ℕ} (event : Event n) (rest : List (Event n)) (row : Bool) → is_cut event.op ≡ row → cuts_among (event ∷ rest) ≡ cond row 1 0 + cuts_among rest
cuts-more {n} event rest row is = sum_by-cons (λ (e : Event n). cond (is_cut e.op) 1 0) event rest ∙ ap (λ (b : Bool). cond b 1 0 + cuts_among rest) is

-- the cuts of the rows behind so many that are done
cuts-behind : (n lines : ℕ) (mix : Mix) (more done before : ℕ) (left : Stream) → cuts_among (events_drawn n lines mix more done before left) + counted mix done ≡ counted mix (done + more)
unfolding events_drawn
cuts-behind n lines mix zero done before left =
    let all : done + 0 ≡ done = omega arith in
    rw all (omega arith)
cuts-behind n lines mix (suc more) done before left =
    let drawn = event_drawn n lines mix (suc done) before left in
    let rest = cuts-behind n lines mix more (suc done) drawn.0.tick drawn.1 in
    let one = row-counts mix done in
    let all : suc done + more ≡ done + suc more = omega arith in
    let first = cuts-more drawn.0 (events_drawn n lines mix more (suc done) drawn.0.tick drawn.1) (is_cut_row mix (suc done)) (event-cut n lines mix (suc done) before left) in
    rw (← all) (omega arith)

-- all cuts have room
mono : (k c rows : ℕ) → k * (c + 1) ≤ rows → c * k ≤ rows
mono k c rows h =
    let a = mul_comm k (c + 1) in
    let one : c + 1 ≡ suc c = omega arith in
    let b : suc c * k ≡ c * k + k = suc-mul c k in
    let d : (c + 1) * k ≡ suc c * k = ap (λ (x : ℕ). x * k) one in
    omega arith

cuts-fit : (mix : Mix) → mix.cuts ≤ mix.rows → mix.cuts * cut_distance mix ≤ mix.rows
cuts-fit mix few =
    let k = mix.rows / (mix.cuts + 1) in
    elim (cases_lt k 1) [
      | inl none ↦
          let is : cut_distance mix ≡ 1 = omega arith in
          rw is (omega arith)
      | inr some ↦
          let is : cut_distance mix ≡ k = omega arith in
          rw is (mono k mix.cuts mix.rows (div-mul-le_self mix.rows (mix.cuts + 1)))
    ]

pub cuts-all : (n lines : ℕ) (mix : Mix) (before : ℕ) (left : Stream) → mix.cuts ≤ mix.rows → cuts_among (events_drawn n lines mix mix.rows 0 before left) ≡ mix.cuts
cuts-all n lines mix before left few =
    let counts = cuts-behind n lines mix mix.rows 0 before left in
    let p = cut_distance mix in
    let some : 0 < p = omega arith in
    let none : 0 / p ≡ 0 = zero-div p in
    let whole : 0 + mix.rows ≡ mix.rows = omega arith in
    let enough : mix.cuts ≤ mix.rows / p = le-div mix.cuts mix.rows p some (cuts-fit mix few) in
    let at : counted mix (0 + mix.rows) ≡ mix.cuts = rw whole (omega arith) in
    omega arith
