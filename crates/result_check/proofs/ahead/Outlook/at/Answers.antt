use Rattle.std.proofs.Common.{◌≡◌, ◌∙◌, length, Some, sym, ap, arith}
use Rattle.result_check.{specs.Coming.coming_for, specs.Finding.line_asked, proofs.Coming.{asked_below, looked_up}}
use Rattle.result_check.proofs.ahead.Outlook.at.Goals as goal
use Rattle.trace_rows.specs.Rows.{asks_of}
use Rattle.masked_bytes.proofs.Lists.{item-at}

pub returns-in-Some : goal.returns-in-Some
returns-in-Some g c = λ rows h.
    let is : line_asked (asks_of c.args.op.now) ≡ Some c.in-Some.line = cc in
    let o = c.args.self.now in
    let below = asked_below (asks_of c.args.op.now) c.in-Some.line (length c.args.banks.now) is c.requires.line in
    let a = c.requires.next in
    let b = c.requires.soonest in
    let d = c.requires.worn in
    let at_next = item-at o.next.items c.in-Some.line c.index.result.now (omega (arith, a, below)) c.index.ensures in
    let at_soon = item-at o.soonest.items c.in-Some.line c.index-in-Some.result.now (omega (arith, b, below)) c.index-in-Some.ensures in
    let at_worn = item-at o.worn.items c.bank_of.result c.index-in-Some-2.result.now (omega (arith, d)) c.index-in-Some-2.ensures in
    looked_up c.args.banks.now rows o.next.items o.soonest.items o.worn.items c.in-Some.line c.bank_of.result c.index.result.now c.index-in-Some.result.now c.index-in-Some-2.result.now h
    at_next at_soon at_worn c.bank_of.ensures
    ∙ sym (ap (λ l. coming_for c.args.banks.now l rows) is)
