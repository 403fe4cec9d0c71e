use Rattle.std.proofs.Common.{rules}
use Rattle.check_reader.proofs.Cuts.{cut_at-search}
use Rattle.check_reader.proofs.fields.cut.Goals as goal

pub returns-in_err-at : goal.returns-in_err-at
returns-in_err-at c =
    let cut = cut_at-search c.args.end c.args.bytes.now c.memchr.result c.memchr.ensures in
    search rules

pub returns : goal.returns
returns c =
    let cut = cut_at-search c.args.end c.args.bytes.now c.memchr.result c.memchr.ensures in
    search rules
