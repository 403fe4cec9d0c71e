-- By when a write is stored, in parts.
use Rattle.std.proofs.Common.{◌≡◌, ℕ, ◌+◌, ◌*◌, sym, ap, ◌∙◌, arith}
use Rattle.row_rules.specs.{Ticking.{attempt, tries, writings}, declared.Rules.Rules}
use Rattle.check_telling.specs.WriteGrounds.{IsBound}

in_parts : (o e sp rd w s c : ℕ) → o * (e * (2 * (1 + w) + sp) + c) + rd * (2 * s + c) ≡ o * (e * (2 + sp)) + w * (o * (e * 2)) + s * (2 * rd) + c * (o + rd)
in_parts o e sp rd w s c = grind arith

pub bound_is : (rules : Rules) (once each alone a_store : ℕ) → once ≡ tries rules.policy * attempt rules → each ≡ writings rules.twice
    → alone ≡ once * (each * (2 + rules.spares)) → a_store ≡ once * (each * 2)
    → IsBound rules (record { alone = alone; a_store = a_store; a_read = 2 * rules.read_ticks; a_cut = once + rules.read_ticks })
bound_is rules once each alone a_store o e a t = λ w s c.
    ap (λ x. x * (writings rules.twice * (2 * (1 + w) + rules.spares) + c) + rules.read_ticks * (2 * s + c)) (sym o)
    ∙ ap (λ x. once * (x * (2 * (1 + w) + rules.spares) + c) + rules.read_ticks * (2 * s + c)) (sym e)
    ∙ in_parts once each rules.spares rules.read_ticks w s c
    ∙ ap (λ x. x + w * (once * (each * 2)) + s * (2 * rules.read_ticks) + c * (once + rules.read_ticks)) (sym a)
    ∙ ap (λ x. alone + w * x + s * (2 * rules.read_ticks) + c * (once + rules.read_ticks)) (sym t)
