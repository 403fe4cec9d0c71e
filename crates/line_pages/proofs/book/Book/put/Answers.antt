use Rattle.std.proofs.Common.{◌≡◌, ◌<◌, ◌/◌, ◌%◌, ◌∙◌, rules, sym, ap, subst, arith, length, length-set, set, List, vec_capacity, vec_len}
use Rattle.line_pages.{specs.Book.{Kept, pages_in}, proofs.BookLemmas.{chunk-exists, hold-set, pages-count, stands}}
use Rattle.line_pages.proofs.book.Book.put.Goals as goal

pub index_mut-chunk-requires : goal.index_mut-chunk-requires
index_mut-chunk-requires g c =
    let pages : pages_in c.self.inside.chunks.items ≡ c.args.self.now.pages = ap (λ (k : Kept g.row.T.Denot). k.pages) c.self.view_is in
    let len : vec_len c.self.inside.chunks ≡ length c.self.inside.chunks.items = search rules in
    let own = chunk-exists _ _ c.self.inside.chunks.items c.args.index c.self.invariant.0 (omega (arith, c.requires, ap length pages, pages-count _ _ _ c.self.invariant.0, c.self.invariant.1)) in
    omega (arith, own, len)

pub index_mut-requires : goal.index_mut-requires
index_mut-requires g c =
    let pages : pages_in c.self.inside.chunks.items ≡ c.args.self.now.pages = ap (λ (k : Kept g.row.T.Denot). k.pages) c.self.view_is in
    let at = stands _ _ c.self.inside.chunks.items c.args.index c.index_mut-chunk.result.now c.self.invariant.0 (omega (arith, c.requires, ap length pages, pages-count _ _ _ c.self.invariant.0)) in
    let len : vec_len c.index_mut-chunk.result.now ≡ length c.index_mut-chunk.result.now.items = search rules in
    let own = subst (λ v. c.args.index % 65536 < length v.items) (sym c.index_mut-chunk.ensures.value) at.page in
    omega (arith, own, len)

pub returns-clause-pages : goal.returns-clause-pages
returns-clause-pages g c =
    let pages : pages_in c.self.inside.chunks.items ≡ c.args.self.now.pages = ap (λ (k : Kept g.row.T.Denot). k.pages) c.self.view_is in
    let at = stands _ _ c.self.inside.chunks.items c.args.index c.index_mut-chunk.result.now c.self.invariant.0 (omega (arith, c.requires, ap length pages, pages-count _ _ _ c.self.invariant.0)) in
    at.set_is _ c.args.page (ap (λ v. set v.items (c.args.index % 65536) c.args.page) c.index_mut-chunk.ensures.value)
    ∙ ap (λ (xs : List g.row.T.Denot). set xs c.args.index c.args.page) pages

pub invariant_of-self : goal.invariant_of-self
invariant_of-self g c = (
  hold-set _ _ c.self.inside.chunks.items (c.args.index / 65536) c.index_mut-chunk.result.now _ c.self.invariant.0
      (length-set c.index_mut-chunk.result.now.items (c.args.index % 65536) c.args.page ∙ ap (λ v. length v.items) c.index_mut-chunk.ensures.value)
      (ap vec_capacity c.index_mut-chunk.ensures.value),
  c.self.invariant.1,
  c.self.invariant.2,
)
