use Rattle.std.proofs.Common.{◌≡◌, ◌∙◌, rules, refl, sym, ap, subst, length, length-set, get_or-set_same, Some, None}
use Rattle.line_pages.{specs.PageTable.page_at, specs.Paged.line_seen, specs.Paging.seen, specs.Youths.young_at, proofs.AgeLemmas.{grown_others, grown_seen, young_gone}}
use Rattle.line_pages.proofs.pages.Pages.grow.Goals as goal
use Rattle.seeded_lines.specs.{Drawn.HaveSameLife, Seeded.LifeLine}

pub returns-then-not-has-clause-has : goal.returns-then-not-has-clause-has
returns-then-not-has-clause-has g c = rw (c.insert.ensures, get_or-set_same c.args.self.now.grown c.args.line (Some c.drawn-page.result) None c.requires.exists) refl

pub returns-then-not-has-clause-page : goal.returns-then-not-has-clause-page
returns-then-not-has-clause-page g c =
    let old = c.args.self.now in
    let line = c.args.line in
    let none : page_at old.grown line ≡ None = search rules in
    let before : line_seen old.wear line (young_at old.young line) None ≡ seen old line = ap (line_seen old.wear line (young_at old.young line)) (sym none) in
    let after : c.drawn-page.result ≡ line_seen old.wear line (young_at c.remove.new.self line) (page_at c.insert.new.self line) =
    sym (ap (λ xs. line_seen old.wear line (young_at c.remove.new.self line) (page_at xs line)) c.insert.ensures
    ∙ grown_seen old.wear line (young_at c.remove.new.self line) old.grown c.drawn-page.result c.requires.exists) in
    subst (λ (l : LifeLine g.row.B g.row.M). HaveSameLife l (line_seen old.wear line (young_at c.remove.new.self line) (page_at c.insert.new.self line))) before
    (subst (HaveSameLife (line_seen old.wear line (young_at old.young line) None)) after c.drawn-page.ensures)

pub returns-then-not-has-clause-others : goal.returns-then-not-has-clause-others
returns-then-not-has-clause-others g c n apart =
    let old = c.args.self.now in
    ap (λ o. line_seen old.wear n o (page_at c.insert.new.self n)) (c.remove.ensures.others n apart)
    ∙ ap (λ xs. line_seen old.wear n (young_at old.young n) (page_at xs n)) c.insert.ensures
    ∙ grown_others old.wear c.args.line n (young_at old.young n) old.grown c.drawn-page.result apart

pub returns-then-not-has-clause-lines : goal.returns-then-not-has-clause-lines
returns-then-not-has-clause-lines g c = ap length c.insert.ensures ∙ length-set c.args.self.now.grown c.args.line (Some c.drawn-page.result)

pub returns-else-not-has-clause-page : goal.returns-else-not-has-clause-page
returns-else-not-has-clause-page g c = record { line = refl; cells = λ n. refl }

pub invariant_of-self : goal.invariant_of-self
invariant_of-self g c =
    let old = c.args.self.now in
    record {
      wears = old.wears;
      youth = old.youth;
      suits = c.remove.ensures.suits old.wear old.suits;
      young_pages = young_gone old.wear old.limit c.args.line (young_at old.young) (young_at c.remove.new.self) old.young_pages c.remove.ensures.others c.remove.ensures.gone;
      same_lines = c.remove.ensures.lines ∙ old.same_lines ∙ sym (ap length c.insert.ensures ∙ length-set old.grown c.args.line (Some c.drawn-page.result));
    }
