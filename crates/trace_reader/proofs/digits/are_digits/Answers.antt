use Rattle.std.proofs.Common.{◌≡◌, ◌∙◌, ◌<◌, ◌==◌, ℕ, false, leb, sym, subst, arith}
use Rattle.std.proofs.{lemmas.Bool.{eqb-true, leb-false, leb-true}, lemmas.Bool.Decides.nat_tests}
use Rattle.trace_reader.proofs.HexLanes.{none_of_mask, reach_mask, some_of_mask}
use Rattle.trace_reader.proofs.digits.are_digits.Goals as goal

positive : (m : ℕ) → (m == 0) ≡ false → 0 < m
positive m e = grind (arith, nat_tests)

pub returns-clause-all : goal.returns-clause-all
returns-clause-all c = λ none k low.
    let mask = reach_mask c.args.values 32 16 c.fits-values.0 (omega arith) in
    leb-false 16 _ (none_of_mask (leb 16) c.args.values (sym mask ∙ eqb-true _ _ none) k (omega (arith, c.fits-values.0)))

pub returns-clause-not_all : goal.returns-clause-not_all
returns-clause-not_all c = λ some.
    let mask = reach_mask c.args.values 32 16 c.fits-values.0 (omega arith) in
    let lane = some_of_mask (leb 16) c.args.values (positive _ (subst (λ m. (m == 0) ≡ false) mask some)) in
    (lane.0, omega (arith, lane.1, c.fits-values.0), leb-true 16 _ lane.2)
