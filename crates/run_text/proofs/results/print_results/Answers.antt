use Rattle.std.proofs.Common.{◌++◌, ◌∙◌, ap, rules}
use Rattle.text_printer.proofs.{Ending.tells-whole, Printed.{prints-same, prints-then}}
use Rattle.run_text.{specs.ResultText.rows_text, proofs.Rows.rows-whole}
use Rattle.run_text.proofs.results.print_results.Goals as goal

pub returns : goal.returns
returns g c =
    let w = g.K.Sink.written in
    let f = g.K.Sink.faults in
    let printed = prints-same w f _ _ _ _ (ap (λ bytes. bytes ++ rows_text 1 c.args.events.now c.args.results.now) c.header.ensures ∙ rows-whole c.args.events.now c.args.results.now)
    (prints-then w f _ _ _ _ _ c.push.ensures c.print_events.ensures) in
    tells-whole w f _ _ _ _ c.finish.result _ _ _ c.new-printer.ensures.printed printed c.finish.ensures (search (rules, printed.out))
