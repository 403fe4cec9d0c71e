-- Tests: the parts of a conjunction that is true and of a disjunction that is false, both with a part that is known, and numbers that
-- differ; for the crates above too.
use Rattle.std.proofs.Common.{arith, ◌≡◌, ℕ, ◌==◌, sym, not, Bool, true, false, ◌&&◌, ◌||◌}
use Rattle.std.proofs.lemmas.Bool.{and_parts, or_parts, ne_eqb, eqb-false}

pub and_first : (a b : Bool) → (a && b) ≡ true → a ≡ true
and_first a b both = (and_parts a b both).0

pub and_second : (a b : Bool) → (a && b) ≡ true → b ≡ true
and_second a b both = (and_parts a b both).1

pub neither_first : (a b : Bool) → (a || b) ≡ false → a ≡ false
neither_first a b neither = (or_parts a b neither).0

pub neither_second : (a b : Bool) → (a || b) ≡ false → b ≡ false
neither_second a b neither = (or_parts a b neither).1

pub or_rest : (a b : Bool) → a ≡ false → (a || b) ≡ true → b ≡ true
or_rest a b none either = grind arith

pub implied : (a b : Bool) → (a ≡ true → b ≡ true) → (not a || b) ≡ true
implied a b so = grind arith

pub and_true : (a : Bool) → (a && true) ≡ a
and_true a = grind arith

pub and_false : (a : Bool) → (a && false) ≡ false
and_false a = grind arith

pub or_false : (a : Bool) → (a || false) ≡ a
or_false a = grind arith

-- two numbers that differ, the other way round
pub differ_sym : (a b : ℕ) → (a == b) ≡ false → (b == a) ≡ false
differ_sym a b off = ne_eqb b a (λ same. eqb-false a b off (sym same))
