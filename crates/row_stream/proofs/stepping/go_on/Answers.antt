use Rattle.std.proofs.Common.{◌≡◌, ◌∙◌, ◌&&◌, Bool, ap, refl, sym}
use Rattle.row_printer.specs.{Printing.table_told, Refusing.any_refused}
use Rattle.row_stream.proofs.stepping.go_on.Goals as goal

pub returns-clause-goes : goal.returns-clause-goes
returns-clause-goes g c = (refl, sym c.stops_behind.ensures ∙ c.if-stops_behind.false)

pub returns-clause-told : goal.returns-clause-told
returns-clause-told g c = record { rows = refl; told = refl; snapshots = refl; prints = refl }

pub returns-clause-writes : goal.returns-clause-writes
returns-clause-writes g c = record { prints = refl; printing = λ before first h. h; whole = λ is. absurd (is.1 c.args.behind refl); part = λ is. cc is }

pub returns-then-stops_behind-clause-goes : goal.returns-then-stops_behind-clause-goes
returns-then-stops_behind-clause-goes g c =
    let same : any_refused (table_told c.flush.new.self) ≡ any_refused (table_told c.args.out.now) = rw (c.flush.ensures.rows, c.flush.ensures.told) refl in
    (refl, ap (λ (b : Bool). c.args.stops && b) same ∙ sym c.stops_behind.ensures ∙ c.if-stops_behind.true)

pub returns-then-stops_behind-clause-told : goal.returns-then-stops_behind-clause-told
returns-then-stops_behind-clause-told g c = record { rows = c.flush.ensures.rows; told = c.flush.ensures.told; snapshots = c.flush.ensures.snapshots; prints = c.flush.ensures.prints }

pub returns-then-stops_behind-clause-writes : goal.returns-then-stops_behind-clause-writes
returns-then-stops_behind-clause-writes g c = record { prints = c.flush.ensures.prints; printing = c.flush.ensures.printing; whole = λ is. c.in-Ok.ensures.ok; part = λ is. cc is }

pub returns-in_default-clause-goes : goal.returns-in_default-clause-goes
returns-in_default-clause-goes g c =
    let same : any_refused (table_told c.flush.new.self) ≡ any_refused (table_told c.args.out.now) = rw (c.flush.ensures.rows, c.flush.ensures.told) refl in
    (refl, ap (λ (b : Bool). c.args.stops && b) same ∙ sym c.stops_behind.ensures ∙ c.if-stops_behind.true)

pub returns-in_default-clause-told : goal.returns-in_default-clause-told
returns-in_default-clause-told g c = record { rows = c.flush.ensures.rows; told = c.flush.ensures.told; snapshots = c.flush.ensures.snapshots; prints = c.flush.ensures.prints }

pub returns-in_default-clause-writes : goal.returns-in_default-clause-writes
returns-in_default-clause-writes g c = record { prints = c.flush.ensures.prints; printing = c.flush.ensures.printing; whole = λ is. absurd (is.0 refl); part = λ is. c.in_default.ensures.err }
