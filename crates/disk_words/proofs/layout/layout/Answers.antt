use Rattle.std.proofs.Common.{◌/◌}
use Rattle.disk_words.{specs.Layouts.line_bytes, proofs.Fitting.{fits-by, most-by}}
use Rattle.disk_words.proofs.layout.layout.Goals as goal

pub returns-clause-fits : goal.returns-clause-fits
returns-clause-fits c =
    fits-by (line_bytes c.args.line) c.line_bytes-bytes.result (c.args.sector / c.line_bytes-bytes.result) c.args.lines c.fitting.result
    c.line_bytes-bytes.ensures.bytes c.line_bytes-bytes.ensures.least c.line_bytes-bytes.ensures.most c.if-block-eq0.false c.if-lines-block.false c.requires.lines c.fitting.ensures.exact

pub returns-clause-most : goal.returns-clause-most
returns-clause-most c sectors fits =
    most-by (line_bytes c.args.line) c.line_bytes-bytes.result (c.args.sector / c.line_bytes-bytes.result) c.args.lines c.fitting.result
    c.line_bytes-bytes.ensures.bytes c.line_bytes-bytes.ensures.least c.if-block-eq0.false c.fitting.ensures.exact sectors fits
