use Rattle.std.proofs.Common.{◌≡◌, ◌∙◌, sym, ap, length}
use Rattle.std.proofs.lemmas.List.{length-replicate}
use Rattle.pcm_cells.proofs.script.ScriptArray.renew.Goals as goal

pub invariant_of-self-2 : goal.invariant_of-self-2
invariant_of-self-2 g c =
    let made = c.in_ok-blank_lines.field-0 in
    let size : length made.items ≡ c.args.lines = ap length c.in_ok-blank_lines.ensures ∙ length-replicate c.args.lines _ in
    (rw size c.ranges.lines.fits, c.self.invariant.1, ap length c.in_ok-energies.ensures ∙ length-replicate c.args.lines _ ∙ sym size)
