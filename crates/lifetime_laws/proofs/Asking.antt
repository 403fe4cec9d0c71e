-- More stores give no smaller bound: so what a trace asks for bounds what becomes of it.
use Rattle.std.proofs.Common.{◌≡◌, inl, inr, ℕ, ◌+◌, ◌*◌, ◌/◌, ◌%◌, ◌≤◌, ◌==◌, ◌&&◌, not, Bool, List, true, false, length, min, ap, arith, cond}
use Rattle.std.{specs.List.list_any, specs.Prelude.{count_by, nat_lt}, proofs.Math.Nat.{div-add-mod, mul-div-le, mul-le-mul_left}, proofs.lemmas.Bool.cases_lt}
use Rattle.std.proofs.lemmas.Nat.{le-div}
use Rattle.row_rules.specs.{Answers.is_stored, Rows.{asks_write, line_of, is_cut}, declared.Row.Row}
use Rattle.bank_shape.specs.{Shape.slot_moved, declared.BankShape.BankShape}
use Rattle.right_runs.specs.{LineWrites.{most_moves, most_kept}, Places.region_stores}
use Rattle.lifetime_laws.specs.{Lifetime.{other_stores, asked_writes, other_asked, most_hot_works, most_asked_works, most_asked_kept, AskedLaw}, Spread.{most_at, finding_at}}
use Rattle.lifetime_laws.proofs.{Counting.{one-few, passing-within}, Ranks.count-imp, Stays.{stay_law, tight_law}}
use Rattle.masked_bytes.proofs.Counting.{one_if}

most_at-more : (shape : BankShape) (a b : ℕ) → 1 ≤ shape.lines → 1 ≤ shape.psi → a ≤ b → most_at shape.lines shape.psi a ≤ most_at shape.lines shape.psi b
most_at-more shape a b some each le =
    let found : finding_at shape 0 0 a ≤ finding_at shape 0 0 b = passing-within (λ k. slot_moved shape 0 (k / shape.psi) == 0) a b le in
    omega (arith, tight_law shape a some each, found, stay_law shape 0 0 b some each)

quotient-more : (a b d : ℕ) → 1 ≤ d → a ≤ b → a / d ≤ b / d
quotient-more a b d some le =
    let under : d * (a / d) ≤ a = mul-div-le a d in
    let swap : a / d * d ≡ d * (a / d) = grind arith in
    le-div (a / d) b d some (omega (arith, under, swap, le))

-- quotients rounded up
rounds-more : (a b d : ℕ) → 1 ≤ d → a ≤ b → a / d + min 1 (a % d) ≤ b / d + min 1 (b % d)
rounds-more a b d some le =
    elim (cases_lt (a / d) (b / d)) [
      | inl lt ↦ omega (arith, lt)
      | inr ge ↦
          let same : a / d ≡ b / d = omega (arith, ge, quotient-more a b d some le) in
          let products : d * (a / d) ≡ d * (b / d) = ap (λ q. d * q) same in
          let first : d * (a / d) + a % d ≡ a = div-add-mod a d in
          let second : d * (b / d) + b % d ≡ b = div-add-mod b d in
          omega (arith, same, products, first, second, le)
    ]

fewer : (a b c : Bool) → one_if (a && (b && c)) ≤ one_if (a && b)
fewer true true c = one-few c
fewer _ _ c = omega arith

module _ {n : ℕ} (shape : BankShape) (rows : List (Row n)) (some : 1 ≤ shape.lines) (each : 1 ≤ shape.psi) where
  stores-few : (region : ℕ) → region_stores is_stored shape region rows ≤ asked_writes shape region rows
  stores-few region = count-imp _ _ rows (λ (q : Row n). fewer (asks_write q.asks) (line_of q.asks / shape.lines == region) (is_stored q.outcome))

  moves-few : (region : ℕ) → region_stores is_stored shape region rows / shape.psi ≤ asked_writes shape region rows / shape.psi
  moves-few region = quotient-more (region_stores is_stored shape region rows) (asked_writes shape region rows) shape.psi each (stores-few region)

  unhot : (a b c d : Bool) → one_if (a && (b && (c && d))) ≤ one_if (a && (b && c))
  unhot true true c d = fewer true c d
  unhot _ _ c d = omega arith

  works-few : (region : ℕ) (hot : List ℕ) → most_hot_works shape region hot rows ≤ most_asked_works shape region hot rows
  works-few region hot =
      let others : other_stores shape region hot rows ≤ other_asked shape region hot rows =
      count-imp _ _ rows (λ (q : Row n). unhot (asks_write q.asks) (line_of q.asks / shape.lines == region) (not (list_any (λ h. h == line_of q.asks) hot)) (is_stored q.outcome)) in
      let shares : length hot * most_at shape.lines shape.psi (region_stores is_stored shape region rows) ≤ length hot * most_at shape.lines shape.psi (asked_writes shape region rows) =
      mul-le-mul_left (length hot) (most_at-more shape (region_stores is_stored shape region rows) (asked_writes shape region rows) some each (stores-few region)) in
      let moves : most_moves shape.lines (region_stores is_stored shape region rows / shape.psi) ≤ most_moves shape.lines (asked_writes shape region rows / shape.psi) =
      rounds-more (region_stores is_stored shape region rows / shape.psi) (asked_writes shape region rows / shape.psi) (shape.lines + 1) (omega arith) (moves-few region) in
      omega (arith, others, shares, moves)

  kept-few : (item : ℕ) → most_kept shape rows item ≤ most_asked_kept shape rows item
  kept-few item = by (nat_lt item shape.regions)
    where
      by : (b : Bool) → cond b (region_stores is_stored shape item rows + region_stores is_stored shape item rows / shape.psi) 1 + count_by is_cut rows
          ≤ cond b (asked_writes shape item rows + asked_writes shape item rows / shape.psi) 1 + count_by is_cut rows
      by true = omega (arith, stores-few item, moves-few item)
      by false = omega arith

pub asked_law : AskedLaw
asked_law n shape rows some each = record { works = works-few shape rows some each; kept = kept-few shape rows some each }
