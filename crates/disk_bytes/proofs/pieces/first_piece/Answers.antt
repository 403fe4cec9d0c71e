use Rattle.std.proofs.Common.{◌≡◌, ◌*◌, ◌<◌, sym, subst, arith}
use Rattle.std.proofs.{Math.Nat.mul-pos, lemmas.Nat.div_below}
use Rattle.disk_bytes.proofs.pieces.first_piece.Goals as goal

pub overflow_cast-result : goal.overflow_cast-result
overflow_cast-result g c =
    let same : c.from.result ≡ c.args.layout.block = omega arith in
    let below : c.args.at < c.args.layout.sectors * (c.args.layout.block * g.row.B) = omega (arith, c.requires.left, c.requires.within) in
    let size = c.from.result * g.row.B in
    let some : 0 < size = mul-pos (omega (arith, same, c.requires.some)) (omega (arith, c.requires.words)) in
    let sector = div_below c.args.at size c.args.layout.sectors some (subst (λ b. c.args.at < c.args.layout.sectors * (b * g.row.B)) (sym same) below) in
    omega (arith, sector)
