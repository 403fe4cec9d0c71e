use Rattle.std.proofs.Common.{Some, length, refl, sym, ◌∷◌, ◌<◌, subst, arith}
use Rattle.std.specs.Prelude.{slice_set}
use Rattle.result_rows.specs.declared.Outcome.{Outcome}
use Rattle.result_rows.specs.declared.Outcome.TheVariants as out
use Rattle.check_verdict.specs.Judged.{a_row}
use Rattle.result_check.{specs.Coming.IsOutlook, proofs.Coming.{written_is, outlook_stored, outlook_accepted, outlook_worn}}
use Rattle.result_check.proofs.ahead.Outlook.add_write.Goals as goal
use Rattle.masked_bytes.proofs.Lists.{item-at}

pub returns-in-Stored : goal.returns-in-Stored
returns-in-Stored g c =
    let old = c.args.self.now in
    let size = c.requires.soonest in
    let within : c.args.line < length old.soonest.items = omega (arith, size, c.requires.line) in
    λ rows asks is h. let w = written_is asks c.args.line is in
    subst (λ (o : Outcome g.row.B). IsOutlook c.args.banks.now (a_row c.args.tick asks o ∷ rows) (slice_set old.next.items c.args.line (Some c.args.tick)) (slice_set old.soonest.items c.args.line c.sooner_of-soonest.result) old.worn.items) (sym c.in-Stored.is)
    (subst (λ s. IsOutlook c.args.banks.now (a_row c.args.tick asks (out.Stored c.in-Stored.at c.in-Stored.place) ∷ rows) (slice_set old.next.items c.args.line (Some c.args.tick)) (slice_set old.soonest.items c.args.line s) old.worn.items) (sym c.sooner_of-soonest.ensures)
    (outlook_stored c.args.banks.now rows c.args.tick asks c.args.line w.0 w.1 w.2 old.next.items old.soonest.items old.worn.items h c.requires.line c.in-Stored.at c.in-Stored.place c.index.result.now
    (item-at old.soonest.items c.args.line c.index.result.now within c.index.ensures)))

pub returns-in-Worn : goal.returns-in-Worn
returns-in-Worn g c =
    let old = c.args.self.now in
    λ rows asks is h. let w = written_is asks c.args.line is in
    subst (λ (o : Outcome g.row.B). IsOutlook c.args.banks.now (a_row c.args.tick asks o ∷ rows) old.next.items old.soonest.items (slice_set old.worn.items c.bank_of.result (Some c.args.tick))) (sym c.in-Worn.is)
    (outlook_worn c.args.banks.now rows c.args.tick asks c.args.line w.0 w.1 w.2 old.next.items old.soonest.items old.worn.items h c.requires.line c.in-Worn.tick c.bank_of.result c.bank_of.ensures (omega arith))

pub returns-in-Merged : goal.returns-in-Merged
returns-in-Merged g c =
    let old = c.args.self.now in
    λ rows asks is h. let w = written_is asks c.args.line is in
    subst (λ (o : Outcome g.row.B). IsOutlook c.args.banks.now (a_row c.args.tick asks o ∷ rows) (slice_set old.next.items c.args.line (Some c.args.tick)) old.soonest.items old.worn.items) (sym c.in-Merged.is)
    (outlook_accepted c.args.banks.now rows c.args.tick asks c.args.line w.0 w.1 w.2 old.next.items old.soonest.items old.worn.items h c.requires.line (out.Merged c.in-Merged.tick) refl refl (λ line found. refl))

pub returns-in-Queued : goal.returns-in-Queued
returns-in-Queued g c =
    let old = c.args.self.now in
    λ rows asks is h. let w = written_is asks c.args.line is in
    subst (λ (o : Outcome g.row.B). IsOutlook c.args.banks.now (a_row c.args.tick asks o ∷ rows) (slice_set old.next.items c.args.line (Some c.args.tick)) old.soonest.items old.worn.items) (sym c.in-Queued.is)
    (outlook_accepted c.args.banks.now rows c.args.tick asks c.args.line w.0 w.1 w.2 old.next.items old.soonest.items old.worn.items h c.requires.line (out.Queued c.in-Queued.tick) refl refl (λ line found. refl))
