use Rattle.std.proofs.Common.{◌≡◌, ◌+◌, ◌-◌, ◌<◌, ◌∙◌, ap, subst, arith, add-one}
use Rattle.atomic_sectors.{specs.Lines.stand, specs.Sectors.{IsMapped, block_of, total, word_line}, proofs.Filling.is_free, proofs.Fitting.{sectors_few, line_stays}, proofs.Places.words_of}
use Rattle.atomic_sectors.proofs.sectors.Sectors.open.Goals as goal

pub loop-sector-preserved : goal.loop-sector-preserved
loop-sector-preserved g c =
    let lines = stand g.row.B (g.L.Lines.made c.args.lines.now) in
    let s = c.loop-sector.sector in
    let within : s < c.args.layout.sectors = c.loop-sector-test.true in
    let held : stand g.row.B (g.L.Lines.made c.args.lines.now) (word_line g.row.B c.args.layout s) ≡ c.next_word.new.held =
    subst (λ ws. stand g.row.B ws (word_line g.row.B c.args.layout s) ≡ c.next_word.new.held) c.loop-sector.invariant.made c.in_ok-next_word.ensures.held in
    let block : c.block_in.result ≡ block_of g.row.B c.args.layout lines s = c.block_in.ensures lines held in
    let exists = c.requires.whole.1.exists s within in
    let few = sectors_few g.row.B c.args.layout _ c.requires.fits in
    record {
      all = rw add-one (omega arith);
      used = rw add-one (omega (arith, block));
      all_few = omega (arith, few);
      used_few = omega (arith, few, block, exists);
      held = λ inside. ap lines (line_stays g.row.B c.args.layout s (words_of g.row.B c.requires.fits.words) inside) ∙ held;
      made = c.next_word.ensures.made ∙ c.loop-sector.invariant.made;
      stops = omega (arith, c.loop-sector.invariant.stops, c.next_word.ensures.never_falls);
      kind = c.next_word.ensures.kind ∙ c.loop-sector.invariant.kind;
    }

pub overflow_sub-result : goal.overflow_sub-result
overflow_sub-result g c =
    let lines = stand g.row.B (g.L.Lines.made c.args.lines.now) in
    let end : c.loop-sector.sector ≡ c.args.layout.sectors = omega arith in
    let all : c.loop-sector.all ≡ total c.args.layout.sectors (λ block. block) = c.loop-sector.invariant.all ∙ ap (λ k. total k (λ block. block)) end in
    let used : c.loop-sector.used ≡ total c.args.layout.sectors (block_of g.row.B c.args.layout lines) = c.loop-sector.invariant.used ∙ ap (λ k. total k (block_of g.row.B c.args.layout lines)) end in
    omega (arith, all, used, c.requires.whole.1.all)

pub returns-clause-free : goal.returns-clause-free
returns-clause-free g c =
    let lines = stand g.row.B (g.L.Lines.made c.args.lines.now) in
    let end : c.loop-sector.sector ≡ c.args.layout.sectors = omega arith in
    let all : c.loop-sector.all ≡ total c.args.layout.sectors (λ block. block) = c.loop-sector.invariant.all ∙ ap (λ k. total k (λ block. block)) end in
    let used : c.loop-sector.used ≡ total c.args.layout.sectors (block_of g.row.B c.args.layout lines) = c.loop-sector.invariant.used ∙ ap (λ k. total k (block_of g.row.B c.args.layout lines)) end in
    let is : c.loop-sector.all + c.args.layout.sectors - c.loop-sector.used ≡ c.loop-sector.all + c.from.result - c.loop-sector.used = omega arith in
    subst (λ free. IsMapped g.row.B c.args.layout lines free) is (is_free g.row.B c.args.layout lines c.loop-sector.all c.loop-sector.used c.requires.whole all used)
