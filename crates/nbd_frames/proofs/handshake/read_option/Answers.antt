use Rattle.std.proofs.Common.{Some, sym, ap, ◌∙◌}
use Rattle.nbd_frames.{specs.declared.handshake.OptionHeader.OptionHeader, proofs.Options.{found_so, only_so, read_so}}
use Rattle.nbd_frames.proofs.handshake.read_option.Goals as goal

pub returns-clause-found : goal.returns-clause-found
returns-clause-found c =
    let is = read_so c.args.bytes.now c.four_at.result c.four_at-2.result c.of.result c.of.ensures c.four_at.ensures c.four_at-2.ensures in
    found_so c.args.bytes.now _ c.told-bytes c.fits-bytes (sym c.eight_at.ensures ∙ c.if-eight_at-ne5280542401877725268.false) is

pub returns-clause-only : goal.returns-clause-only
returns-clause-only c header lawful spelled =
    let is = read_so c.args.bytes.now c.four_at.result c.four_at-2.result c.of.result c.of.ensures c.four_at.ensures c.four_at-2.ensures in
    ap (λ (h : OptionHeader). Some h) (only_so c.args.bytes.now _ header is lawful spelled)
