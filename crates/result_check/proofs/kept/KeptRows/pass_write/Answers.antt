use Rattle.std.proofs.Common.{◌≡◌, ◌∙◌, refl, sym, ap, subst}
use Rattle.std.specs.Prelude.{slice_set}
use Rattle.check_verdict.specs.{States.after_write, declared.lines.CheckedLine.CheckedLine}
use Rattle.result_check.{specs.Lines.IsLineBehind, proofs.Keeping.facts_got, proofs.Lists.some_same, proofs.Sizes.{line_fits, bytes_fit}}
use Rattle.result_check.proofs.kept.KeptRows.pass_write.Goals as goal
use Rattle.masked_bytes.proofs.Lists.{item-at}
use Rattle.result_rows.proofs.Sizes.{outcome_fits}

pub pass_line-requires : goal.pass_line-requires
pass_line-requires g c = (line_fits g.row.B c.requires.small, (bytes_fit g.row.B c.requires.small, (bytes_fit g.row.B c.requires.small, outcome_fits g.row.B c.requires.small)))

pub returns-clause-banks : goal.returns-clause-banks
returns-clause-banks g c =
    let member = c.member_of-member.result in
    let old = c.args.self.now in
    let got = facts_got old.banks.items c.args.bank c.index_mut.result.now (item-at old.banks.items c.args.bank c.index_mut.result.now c.requires.exist c.index_mut.ensures.value) in (
      member,
      c.member_of-member.ensures.sight,
      ap (slice_set old.banks.items c.args.bank)
          (c.in_ok-pass_write.ensures ∙ ap (λ l. after_write l member c.args.outcome.now c.index_mut.result.now) c.member_of-member.ensures.line
          ∙ ap (after_write c.args.line member c.args.outcome.now) (sym got)),
    )

pub returns-clause-lines : goal.returns-clause-lines
returns-clause-lines g c = λ old is.
    let same : c.index_mut-2.result.now ≡ old = some_same c.index_mut-2.result.now old (sym (item-at c.args.self.now.lines.items c.args.line c.index_mut-2.result.now c.requires.line c.index_mut-2.ensures.value) ∙ is) in
    record {
      new = c.pass_line.new.line;
      own = subst (λ (o : CheckedLine g.row.B). IsLineBehind g.row.B c.args.tick c.args.bytes.now c.args.given.now c.args.outcome.now o c.pass_line.new.line) same c.in_ok-pass_line.ensures;
      all = refl;
    }
