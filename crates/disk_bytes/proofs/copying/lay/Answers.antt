use Rattle.std.proofs.Common.{◌≡◌, ◌+◌, ◌-◌, ◌*◌, ◌/◌, ◌%◌, ◌<◌, ◌≤◌, ◌&&◌, ltb, leb, if◌then◌else◌, length, get_or, sym, ◌∙◌, ap, subst, arith}
use Rattle.std.proofs.lemmas.Nat.{div_below, mod_below}
use Rattle.disk_rules.specs.Pieces.{byte_in}
use Rattle.disk_bytes.proofs.Laying.{bytes_laid, laid_more, length_set}
use Rattle.disk_bytes.proofs.copying.lay.Goals as goal

pub loop-done-preserved : goal.loop-done-preserved
loop-done-preserved g c =
    let n = g.row.B in
    let done = c.loop-done.done in
    let place = c.args.begin + done in
    let next = c.min-next.result in
    let bytes = c.args.bytes.now in
    let old = c.args.lines.now in
    let below : place < length old * n = omega (arith, c.requires.room, c.loop-done-test.true) in
    let there = div_below place n (length c.loop-done.lines) c.requires.some (subst (λ k. place < k * n) (sym c.loop-done.invariant.length) below) in
    let inside = mod_below place n c.requires.some in
    let ends : place % n + next ≤ n = omega (arith, inside, c.min-next.ensures) in
    record {
      laid = λ y.
          bytes_laid n c.loop-done.lines c.lay_in_line.new.line bytes place (c.args.from + done) next there ends c.lay_in_line.ensures y
          ∙ ap (λ u. if leb place y && ltb y (place + next) then get_or bytes (c.args.from + done + (y - place)) 0 else u) (c.loop-done.invariant.laid y)
          ∙ laid_more c.args.begin done next y (get_or bytes (c.args.from + done + (y - place)) 0) (get_or bytes (c.args.from + (y - c.args.begin)) 0) (byte_in n old y)
          (λ from. ap (λ k. get_or bytes k 0) (omega (arith, from)));
      within = omega (arith, c.min-next.ensures, c.loop-done-test.true);
      length = length_set c.loop-done.lines (place / n) c.lay_in_line.new.line ∙ c.loop-done.invariant.length;
    }

pub returns-clause-laid : goal.returns-clause-laid
returns-clause-laid g c y =
    let all : c.loop-done.done ≡ c.args.count = omega (arith, c.loop-done.invariant.within, c.loop-done-test.false) in
    subst (λ k. byte_in g.row.B c.loop-done.lines y
    ≡ (if leb c.args.begin y && ltb y (c.args.begin + k) then get_or c.args.bytes.now (c.args.from + (y - c.args.begin)) 0 else byte_in g.row.B c.args.lines.now y))
    all (c.loop-done.invariant.laid y)
