use Rattle.std.proofs.Common.{◌≡◌, ℕ, ◌+◌, ◌*◌, ◌/◌, ◌%◌, ◌<◌, ◌≤◌, List, [], length, get_or, ◌∙◌, ap, arith}
use Rattle.std.proofs.{lemmas.List.get_or_read, lemmas.Nat.{div_below, mod_below}}
use Rattle.disk_bytes.proofs.Laying.{fetched_more}
use Rattle.disk_bytes.proofs.copying.fetch.Goals as goal

pub loop-done-preserved : goal.loop-done-preserved
loop-done-preserved g c =
    let n = g.row.B in
    let lines = c.args.lines.now in
    let done = c.loop-done.done in
    let place = c.args.begin + done in
    let next = c.min-next.result in
    let below : place < length lines * n = omega (arith, c.requires.there, c.loop-done-test.true) in
    let there = div_below place n (length lines) c.requires.some below in
    let line : c.index-lines-place.result ≡ get_or lines (place / n) [] = get_or_read lines (place / n) c.index-lines-place.result there c.index-lines-place.is [] in
    let inside = mod_below place n c.requires.some in
    let ends : place % n + next ≤ n = omega (arith, inside, c.min-next.ensures) in
    let now = c.loop-done.invariant in
    let one = c.fetch_from_line.ensures in
    record {
      fetched = fetched_more n lines c.loop-done.to c.fetch_from_line.new.to c.args.begin c.args.from done next ends now.fetched
          (λ i within. one.fetched i within ∙ ap (λ (l : List ℕ). get_or l (place % n + i) 0) line) one.before;
      before = λ i below. one.before i (omega (arith, below)) ∙ now.before i below;
      within = omega (arith, c.min-next.ensures, c.loop-done-test.true);
      length = one.length ∙ now.length;
    }

pub returns-clause-fetched : goal.returns-clause-fetched
returns-clause-fetched g c i below = c.loop-done.invariant.fetched i (omega (arith, c.loop-done-test.false, below))
