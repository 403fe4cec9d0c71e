use Rattle.std.proofs.Common.{[], ◌∷◌, refl, arith}
use Rattle.std.proofs.lemmas.Result.{err_from_is_err_and}
use Rattle.pcm_io.proofs.ByteLemmas.{Takes-Takes}
use Rattle.trace_stream.{specs.Kept.LacksHeader, proofs.Requests.asks-again}
use Rattle.trace_stream.proofs.Marks.{begun-none, begun-one, begun-two, begun-first, begun-second, begun-third, begun-mark, lacks-none, lacks-one, lacks-two}
use Rattle.trace_stream.proofs.incoming.Incoming.begin.Goals as goal

pub returns-in_default-clause-ok : goal.returns-in_default-clause-ok
returns-in_default-clause-ok g c =
    let first = rw c.in_default.is at c.in_ok-first.ensures.takes in
    let asked = asks-again g.S.Source.left g.S.Source.taken LacksHeader _ _ _ 0 [] [] (refl, refl) lacks-none first (omega arith) in
    ([], first, begun-none c.of.result c.of.ensures, 1, asked)

pub returns-then-first-clause-ok : goal.returns-then-first-clause-ok
returns-then-first-clause-ok g c =
    let first = rw c.in-Some.is at c.in_ok-first.ensures.takes in
    let asked = asks-again g.S.Source.left g.S.Source.taken LacksHeader _ _ _ 0 [] (c.in-Some.first ∷ []) (refl, refl) lacks-none first (omega arith) in
    (c.in-Some.first ∷ [], first, (λ more comes. begun-first c.of-then-first.result c.in-Some.first c.of-then-first.ensures c.if-first.true more), 1, asked)

pub returns-in_default-2-clause-ok : goal.returns-in_default-2-clause-ok
returns-in_default-2-clause-ok g c =
    let first = rw c.in-Some.is at c.in_ok-first.ensures.takes in
    let second = rw c.in_default-2.is at c.in_ok-second.ensures.takes in
    let asked = asks-again g.S.Source.left g.S.Source.taken LacksHeader _ _ _ 0 [] (c.in-Some.first ∷ []) (refl, refl) lacks-none first (omega arith) in
    let twice = asks-again g.S.Source.left g.S.Source.taken LacksHeader _ _ _ 1 (c.in-Some.first ∷ []) [] asked (lacks-one _ c.if-first.false) second (omega arith) in
    (c.in-Some.first ∷ [], Takes-Takes _ _ _ _ _ _ _ _ first second, begun-one c.of-in_default-2.result c.in-Some.first c.of-in_default-2.ensures, 2, twice)

pub returns-then-second-clause-ok : goal.returns-then-second-clause-ok
returns-then-second-clause-ok g c =
    let first = rw c.in-Some.is at c.in_ok-first.ensures.takes in
    let second = rw c.in-Some-2.is at c.in_ok-second.ensures.takes in
    let asked = asks-again g.S.Source.left g.S.Source.taken LacksHeader _ _ _ 0 [] (c.in-Some.first ∷ []) (refl, refl) lacks-none first (omega arith) in
    let twice = asks-again g.S.Source.left g.S.Source.taken LacksHeader _ _ _ 1 (c.in-Some.first ∷ []) (c.in-Some-2.second ∷ []) asked (lacks-one _ c.if-first.false) second (omega arith) in (
      c.in-Some.first ∷ c.in-Some-2.second ∷ [],
      Takes-Takes _ _ _ _ _ _ _ _ first second,
      (λ more comes. begun-second c.of-then-second.result c.in-Some.first c.in-Some-2.second c.of-then-second.ensures c.if-second.true more),
      2,
      twice,
    )

pub returns-in_default-3-clause-ok : goal.returns-in_default-3-clause-ok
returns-in_default-3-clause-ok g c =
    let first = rw c.in-Some.is at c.in_ok-first.ensures.takes in
    let second = rw c.in-Some-2.is at c.in_ok-second.ensures.takes in
    let third = rw c.in_default-3.is at c.in_ok-third.ensures.takes in
    let asked = asks-again g.S.Source.left g.S.Source.taken LacksHeader _ _ _ 0 [] (c.in-Some.first ∷ []) (refl, refl) lacks-none first (omega arith) in
    let twice = asks-again g.S.Source.left g.S.Source.taken LacksHeader _ _ _ 1 (c.in-Some.first ∷ []) (c.in-Some-2.second ∷ []) asked (lacks-one _ c.if-first.false) second (omega arith) in
    let thrice = asks-again g.S.Source.left g.S.Source.taken LacksHeader _ _ _ 2 (c.in-Some.first ∷ c.in-Some-2.second ∷ []) [] twice (lacks-two _ _ c.if-first.false c.if-second.false) third (omega arith) in (
      c.in-Some.first ∷ c.in-Some-2.second ∷ [],
      Takes-Takes _ _ _ _ _ _ _ _ (Takes-Takes _ _ _ _ _ _ _ _ first second) third,
      begun-two c.of-in_default-3.result c.in-Some.first c.in-Some-2.second c.of-in_default-3.ensures,
      3,
      thrice,
    )

pub returns-then-third-clause-ok : goal.returns-then-third-clause-ok
returns-then-third-clause-ok g c =
    let first = rw c.in-Some.is at c.in_ok-first.ensures.takes in
    let second = rw c.in-Some-2.is at c.in_ok-second.ensures.takes in
    let third = rw c.in-Some-3.is at c.in_ok-third.ensures.takes in
    let asked = asks-again g.S.Source.left g.S.Source.taken LacksHeader _ _ _ 0 [] (c.in-Some.first ∷ []) (refl, refl) lacks-none first (omega arith) in
    let twice = asks-again g.S.Source.left g.S.Source.taken LacksHeader _ _ _ 1 (c.in-Some.first ∷ []) (c.in-Some-2.second ∷ []) asked (lacks-one _ c.if-first.false) second (omega arith) in
    let thrice = asks-again g.S.Source.left g.S.Source.taken LacksHeader _ _ _ 2 (c.in-Some.first ∷ c.in-Some-2.second ∷ []) (c.in-Some-3.third ∷ []) twice (lacks-two _ _ c.if-first.false c.if-second.false) third (omega arith) in (
      c.in-Some.first ∷ c.in-Some-2.second ∷ c.in-Some-3.third ∷ [],
      Takes-Takes _ _ _ _ _ _ _ _ (Takes-Takes _ _ _ _ _ _ _ _ first second) third,
      (λ more comes. begun-mark c.of-then-third.result c.in-Some.first c.in-Some-2.second c.in-Some-3.third c.of-then-third.ensures c.if-first.false c.if-second.false c.if-third.true more),
      3,
      thrice,
    )

pub returns-else-third-clause-ok : goal.returns-else-third-clause-ok
returns-else-third-clause-ok g c =
    let first = rw c.in-Some.is at c.in_ok-first.ensures.takes in
    let second = rw c.in-Some-2.is at c.in_ok-second.ensures.takes in
    let third = rw c.in-Some-3.is at c.in_ok-third.ensures.takes in
    let asked = asks-again g.S.Source.left g.S.Source.taken LacksHeader _ _ _ 0 [] (c.in-Some.first ∷ []) (refl, refl) lacks-none first (omega arith) in
    let twice = asks-again g.S.Source.left g.S.Source.taken LacksHeader _ _ _ 1 (c.in-Some.first ∷ []) (c.in-Some-2.second ∷ []) asked (lacks-one _ c.if-first.false) second (omega arith) in
    let thrice = asks-again g.S.Source.left g.S.Source.taken LacksHeader _ _ _ 2 (c.in-Some.first ∷ c.in-Some-2.second ∷ []) (c.in-Some-3.third ∷ []) twice (lacks-two _ _ c.if-first.false c.if-second.false) third (omega arith) in (
      c.in-Some.first ∷ c.in-Some-2.second ∷ c.in-Some-3.third ∷ [],
      Takes-Takes _ _ _ _ _ _ _ _ (Takes-Takes _ _ _ _ _ _ _ _ first second) third,
      (λ more comes. begun-third c.of-else-third.result c.in-Some.first c.in-Some-2.second c.in-Some-3.third c.of-else-third.ensures c.if-third.false more),
      3,
      thrice,
    )

pub returns-in_err-first-clause-sparing : goal.returns-in_err-first-clause-sparing
returns-in_err-first-clause-sparing g c =
    let fault = err_from_is_err_and c.from_residual.result c.from_residual.ensures.1 in
    rw fault.1 ([], c.in_err-first.ensures.untaken, lacks-none)

pub returns-in_err-second-clause-sparing : goal.returns-in_err-second-clause-sparing
returns-in_err-second-clause-sparing g c =
    let first = rw c.in-Some.is at c.in_ok-first.ensures.takes in
    let fault = err_from_is_err_and c.from_residual-in_err-second.result c.from_residual-in_err-second.ensures.1 in
    rw fault.1 (c.in-Some.first ∷ [], Takes-Takes _ _ _ _ _ _ _ _ first c.in_err-second.ensures.untaken, lacks-one _ c.if-first.false)

pub returns-in_err-third-clause-sparing : goal.returns-in_err-third-clause-sparing
returns-in_err-third-clause-sparing g c =
    let first = rw c.in-Some.is at c.in_ok-first.ensures.takes in
    let second = rw c.in-Some-2.is at c.in_ok-second.ensures.takes in
    let fault = err_from_is_err_and c.from_residual-in_err-third.result c.from_residual-in_err-third.ensures.1 in
    rw fault.1 (c.in-Some.first ∷ c.in-Some-2.second ∷ [], Takes-Takes _ _ _ _ _ _ _ _ (Takes-Takes _ _ _ _ _ _ _ _ first second) c.in_err-third.ensures.untaken, lacks-two _ _ c.if-first.false c.if-second.false)

-- a failed request gave nothing
pub returns-in_err-first-clause-asks : goal.returns-in_err-first-clause-asks
returns-in_err-first-clause-asks g c =
    let fault = err_from_is_err_and c.from_residual.result c.from_residual.ensures.1 in
    rw fault.1 (1, [], asks-again g.S.Source.left g.S.Source.taken LacksHeader _ _ _ 0 [] [] (refl, refl) lacks-none c.in_err-first.ensures.untaken (omega arith))

pub returns-in_err-second-clause-asks : goal.returns-in_err-second-clause-asks
returns-in_err-second-clause-asks g c =
    let first = rw c.in-Some.is at c.in_ok-first.ensures.takes in
    let second = c.in_err-second.ensures.untaken in
    let fault = err_from_is_err_and c.from_residual-in_err-second.result c.from_residual-in_err-second.ensures.1 in
    let asked = asks-again g.S.Source.left g.S.Source.taken LacksHeader _ _ _ 0 [] (c.in-Some.first ∷ []) (refl, refl) lacks-none first (omega arith) in
    let twice = asks-again g.S.Source.left g.S.Source.taken LacksHeader _ _ _ 1 (c.in-Some.first ∷ []) [] asked (lacks-one _ c.if-first.false) second (omega arith) in
    rw fault.1 (2, c.in-Some.first ∷ [], twice)

pub returns-in_err-third-clause-asks : goal.returns-in_err-third-clause-asks
returns-in_err-third-clause-asks g c =
    let first = rw c.in-Some.is at c.in_ok-first.ensures.takes in
    let second = rw c.in-Some-2.is at c.in_ok-second.ensures.takes in
    let third = c.in_err-third.ensures.untaken in
    let fault = err_from_is_err_and c.from_residual-in_err-third.result c.from_residual-in_err-third.ensures.1 in
    let asked = asks-again g.S.Source.left g.S.Source.taken LacksHeader _ _ _ 0 [] (c.in-Some.first ∷ []) (refl, refl) lacks-none first (omega arith) in
    let twice = asks-again g.S.Source.left g.S.Source.taken LacksHeader _ _ _ 1 (c.in-Some.first ∷ []) (c.in-Some-2.second ∷ []) asked (lacks-one _ c.if-first.false) second (omega arith) in
    let thrice = asks-again g.S.Source.left g.S.Source.taken LacksHeader _ _ _ 2 (c.in-Some.first ∷ c.in-Some-2.second ∷ []) [] twice (lacks-two _ _ c.if-first.false c.if-second.false) third (omega arith) in
    rw fault.1 (3, c.in-Some.first ∷ c.in-Some-2.second ∷ [], thrice)
