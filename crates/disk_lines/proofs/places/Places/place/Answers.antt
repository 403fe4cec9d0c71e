use Rattle.std.proofs.Common.{◌≡◌, ℕ, ◌+◌, ◌*◌, ◌%◌, ◌^◌, ◌<◌, ◌∙◌, ap, sym, subst, arith}
use Rattle.std.proofs.{Math.Nat.mul_comm, lemmas.Nat.mul-add-lt}
use Rattle.feistel_map.specs.Network.{Network}
use Rattle.module_shape.{specs.Addresses.{module_of, lines_of}, specs.Limits.total_of, specs.declared.raw.RawShape.RawShape, proofs.Bounds.total-is}
use Rattle.disk_lines.{specs.Places.own_of, proofs.Placing.{bank-there, own-there}}
use Rattle.disk_lines.proofs.places.Places.place.Goals as goal

pub back-requires : goal.back-requires
back-requires c =
    let raw = c.self.inside.shape in
    let is = c.self.invariant.in_range in
    let exists = rw (← c.self.view_is) at c.requires in
    let within = mul-add-lt (c.args.line % raw.banks) (lines_of (module_of raw)) (own_of raw c.args.line) raw.banks (bank-there raw c.self.inside.seed is c.args.line) (own-there raw c.self.inside.seed is c.args.line exists) in
    let all : c.args.line % raw.banks * lines_of (module_of raw) + own_of raw c.args.line < total_of raw = omega (arith, within, total-is raw, mul_comm raw.banks (lines_of (module_of raw))) in
    let bits : total_of raw ≡ 2 ^ c.self.inside.feistel.bits = sym is.whole_bits ∙ ap (λ (net : Network). 2 ^ net.bits) (sym c.self.invariant.mixing) in
    subst (λ (r : RawShape). c.args.line % r.banks * lines_of (module_of r) + own_of r c.args.line < 2 ^ c.self.inside.feistel.bits) (sym c.raw-raw.ensures.same)
    (subst (λ (k : ℕ). c.args.line % raw.banks * lines_of (module_of raw) + own_of raw c.args.line < k) bits all)
