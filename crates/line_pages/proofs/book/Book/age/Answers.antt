use Rattle.std.proofs.Common.{◌≡◌, ◌<◌, ◌/◌, ◌%◌, ◌∙◌, rules, sym, ap, subst, arith, length, length-set, get_or, set, List, vec_capacity, vec_len}
use Rattle.line_pages.{specs.Book.{Kept, pages_in}, proofs.BookLemmas.{chunk-exists, hold-set, pages-count, stands}}
use Rattle.line_pages.proofs.book.Book.age.Goals as goal
use Rattle.seeded_lines.proofs.SizeLemmas.{row_fits}

pub index_mut-chunk-requires : goal.index_mut-chunk-requires
index_mut-chunk-requires g c =
    let pages : pages_in c.self.inside.chunks.items ≡ c.args.self.now.pages = ap (λ (k : Kept g.row.T.Denot). k.pages) c.self.view_is in
    let len : vec_len c.self.inside.chunks ≡ length c.self.inside.chunks.items = search rules in
    let own = chunk-exists _ _ c.self.inside.chunks.items c.args.index c.self.invariant.0 (omega (arith, c.requires.exists, ap length pages, pages-count _ _ _ c.self.invariant.0, c.self.invariant.1)) in
    omega (arith, own, len)

pub index_mut-page-requires : goal.index_mut-page-requires
index_mut-page-requires g c =
    let pages : pages_in c.self.inside.chunks.items ≡ c.args.self.now.pages = ap (λ (k : Kept g.row.T.Denot). k.pages) c.self.view_is in
    let at = stands _ _ c.self.inside.chunks.items c.args.index c.index_mut-chunk.result.now c.self.invariant.0 (omega (arith, c.requires.exists, ap length pages, pages-count _ _ _ c.self.invariant.0)) in
    let len : vec_len c.index_mut-chunk.result.now ≡ length c.index_mut-chunk.result.now.items = search rules in
    let own = subst (λ v. c.args.index % 65536 < length v.items) (sym c.index_mut-chunk.ensures.value) at.page in
    omega (arith, own, len)

pub wear_page-requires : goal.wear_page-requires
wear_page-requires g c =
    let pages : pages_in c.self.inside.chunks.items ≡ c.args.self.now.pages = ap (λ (k : Kept g.row.T.Denot). k.pages) c.self.view_is in
    let at = stands _ _ c.self.inside.chunks.items c.args.index c.index_mut-chunk.result.now c.self.invariant.0 (omega (arith, c.requires.exists, ap length pages, pages-count _ _ _ c.self.invariant.0)) in
    let is =
    c.index_mut-page.ensures.value
    ∙ ap (λ v. get_or v.items (c.args.index % 65536) c.index_mut-page.result.now) c.index_mut-chunk.ensures.value
    ∙ sym (at.is c.index_mut-page.result.now)
    ∙ ap (λ (xs : List g.row.T.Denot). get_or xs c.args.index c.index_mut-page.result.now) pages in
    let shape = c.requires.shape in
    (row_fits shape, (shape, (c.requires.whole, c.requires.young c.index_mut-page.result.now is)))

pub returns-clause-ages : goal.returns-clause-ages
returns-clause-ages g c =
    let pages : pages_in c.self.inside.chunks.items ≡ c.args.self.now.pages = ap (λ (k : Kept g.row.T.Denot). k.pages) c.self.view_is in
    let at = stands _ _ c.self.inside.chunks.items c.args.index c.index_mut-chunk.result.now c.self.invariant.0 (omega (arith, c.requires.exists, ap length pages, pages-count _ _ _ c.self.invariant.0)) in
    record {
      before = c.index_mut-page.result.now;
      after = c.wear_page.new.page;
      was =
          c.index_mut-page.ensures.value
          ∙ ap (λ v. get_or v.items (c.args.index % 65536) c.index_mut-page.result.now) c.index_mut-chunk.ensures.value
          ∙ sym (at.is c.index_mut-page.result.now)
          ∙ ap (λ (xs : List g.row.T.Denot). get_or xs c.args.index c.index_mut-page.result.now) pages;
      is =
          at.set_is _ c.wear_page.new.page (ap (λ v. set v.items (c.args.index % 65536) c.wear_page.new.page) c.index_mut-chunk.ensures.value)
          ∙ ap (λ (xs : List g.row.T.Denot). set xs c.args.index c.wear_page.new.page) pages;
      cells = c.wear_page.ensures.cells;
      pulses = c.wear_page.ensures.pulses;
    }

pub invariant_of-self : goal.invariant_of-self
invariant_of-self g c = (
  hold-set _ _ c.self.inside.chunks.items (c.args.index / 65536) c.index_mut-chunk.result.now _ c.self.invariant.0
      (length-set c.index_mut-chunk.result.now.items (c.args.index % 65536) c.wear_page.new.page ∙ ap (λ v. length v.items) c.index_mut-chunk.ensures.value)
      (ap vec_capacity c.index_mut-chunk.ensures.value),
  c.self.invariant.1,
  c.self.invariant.2,
)
