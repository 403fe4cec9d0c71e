use Rattle.std.proofs.Common.{◌≡◌, [], ◌∷◌, ◌++◌, ◌∙◌, ap, arith}
use Rattle.atomic_sectors.{specs.Recorded.behind, proofs.Recording.behind-push}
use Rattle.atomic_sectors.proofs.recorded.RecordedLines.put.Goals as goal

pub returns-clause-made : goal.returns-clause-made
returns-clause-made g c =
    let items : c.push.new.self.items ≡ c.args.self.now.puts.items ++ record { line = c.args.line; bytes = c.args.bytes.now; given = c.args.given.now } ∷ [] = grind arith in
    ap (behind []) items ∙ behind-push [] c.args.self.now.puts.items (record { line = c.args.line; bytes = c.args.bytes.now; given = c.args.given.now })
