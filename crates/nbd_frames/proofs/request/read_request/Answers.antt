use Rattle.std.proofs.Common.{Some, sym, ap, ◌∙◌}
use Rattle.nbd_frames.{specs.declared.request.RequestHeader.RequestHeader, proofs.Requests.{found_so, only_so, read_so}}
use Rattle.nbd_frames.proofs.request.read_request.Goals as goal

pub returns-clause-found : goal.returns-clause-found
returns-clause-found c =
    let is = read_so c.args.bytes.now c.two_at.result c.two_at-2.result c.eight_at.result c.eight_at-2.result c.four_at-2.result c.of.result
    c.two_at.ensures c.of.ensures c.two_at-2.ensures c.eight_at.ensures c.eight_at-2.ensures c.four_at-2.ensures in
    found_so c.args.bytes.now _ c.told-bytes c.fits-bytes (sym c.four_at.ensures ∙ c.if-four_at-ne627086611.false) is

pub returns-clause-only : goal.returns-clause-only
returns-clause-only c header lawful spelled =
    let is = read_so c.args.bytes.now c.two_at.result c.two_at-2.result c.eight_at.result c.eight_at-2.result c.four_at-2.result c.of.result
    c.two_at.ensures c.of.ensures c.two_at-2.ensures c.eight_at.ensures c.eight_at-2.ensures c.four_at-2.ensures in
    ap (λ (h : RequestHeader). Some h) (only_so c.args.bytes.now _ header is lawful spelled)
