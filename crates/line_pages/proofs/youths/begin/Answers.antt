use Rattle.std.proofs.Common.{◌≡◌, ◌∙◌, rules, refl, sym, ap, subst, true, length, length-set, get_or-set_same, get_or-set_other, Some, None}
use Rattle.std.{specs.Prelude.is_some, proofs.lemmas.Option.same_Some}
use Rattle.seeded_lines.specs.Young.{IsBegun}
use Rattle.line_pages.{specs.PageTable.page_at, proofs.BegunLemmas.starts_kept, proofs.TierLemmas.is-there}
use Rattle.line_pages.proofs.youths.begin.Goals as goal

pub returns-then-not-has-clause-page : goal.returns-then-not-has-clause-page
returns-then-not-has-clause-page g c young at =
    let old = c.args.pages.now in
    let line = c.args.line in
    let none : page_at old line ≡ None = search rules in
    let own : c.begun.result ≡ young =
    same_Some c.begun.result young (sym (get_or-set_same old line (Some c.begun.result) None c.requires.exists) ∙ sym (ap (λ xs. page_at xs line) c.insert.ensures) ∙ at) in
    rw none (subst (IsBegun c.args.wear line) own c.begun.ensures)

pub returns-then-not-has-clause-has : goal.returns-then-not-has-clause-has
returns-then-not-has-clause-has g c = rw (c.insert.ensures, get_or-set_same c.args.pages.now c.args.line (Some c.begun.result) None c.requires.exists) refl

pub returns-then-not-has-clause-others : goal.returns-then-not-has-clause-others
returns-then-not-has-clause-others g c n apart =
    ap (λ xs. page_at xs n) c.insert.ensures ∙ get_or-set_other c.args.pages.now c.args.line n (Some c.begun.result) None apart

pub returns-then-not-has-clause-lines : goal.returns-then-not-has-clause-lines
returns-then-not-has-clause-lines g c = ap length c.insert.ensures ∙ length-set c.args.pages.now c.args.line (Some c.begun.result)

pub returns-else-not-has-clause-page : goal.returns-else-not-has-clause-page
returns-else-not-has-clause-page g c young at = starts_kept c.args.wear c.args.line (page_at c.args.pages.now c.args.line) young at

pub returns-else-not-has-clause-has : goal.returns-else-not-has-clause-has
returns-else-not-has-clause-has g c =
    let has : is_some (page_at c.args.pages.now c.args.line) ≡ true = search rules in
    is-there (page_at c.args.pages.now c.args.line) has
