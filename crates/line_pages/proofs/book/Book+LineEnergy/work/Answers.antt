use Rattle.std.proofs.Common.{◌≡◌, ◌<◌, ◌/◌, ◌%◌, ◌∙◌, rules, sym, ap, subst, arith, length, length-set, get_or, set, List, vec_capacity, vec_len}
use Rattle.std.proofs.lemmas.List.{get_or_default}
use Rattle.cell_rows.specs.{Energy.no_energy, declared.array.LineEnergy.LineEnergy}
use Rattle.line_pages.{specs.Book.{Kept, pages_in}, specs.Counting.worked, proofs.BookLemmas.{chunk-exists, hold-set, pages-count, stands}}
use Rattle.line_pages.proofs.book.Book+LineEnergy.work.Goals as goal

pub index_mut-chunk-requires : goal.index_mut-chunk-requires
index_mut-chunk-requires c =
    let pages : pages_in c.self.inside.chunks.items ≡ c.args.self.now.pages = ap (λ (k : Kept LineEnergy). k.pages) c.self.view_is in
    let len : vec_len c.self.inside.chunks ≡ length c.self.inside.chunks.items = search rules in
    let own = chunk-exists _ _ c.self.inside.chunks.items c.args.index c.self.invariant.0 (omega (arith, c.requires, ap length pages, pages-count _ _ _ c.self.invariant.0, c.self.invariant.1)) in
    omega (arith, own, len)

pub index_mut-page-requires : goal.index_mut-page-requires
index_mut-page-requires c =
    let pages : pages_in c.self.inside.chunks.items ≡ c.args.self.now.pages = ap (λ (k : Kept LineEnergy). k.pages) c.self.view_is in
    let at = stands _ _ c.self.inside.chunks.items c.args.index c.index_mut-chunk.result.now c.self.invariant.0 (omega (arith, c.requires, ap length pages, pages-count _ _ _ c.self.invariant.0)) in
    let len : vec_len c.index_mut-chunk.result.now ≡ length c.index_mut-chunk.result.now.items = search rules in
    let own = subst (λ v. c.args.index % 65536 < length v.items) (sym c.index_mut-chunk.ensures.value) at.page in
    omega (arith, own, len)

pub returns-clause-pages : goal.returns-clause-pages
returns-clause-pages c =
    let now = c.args.self.now.pages in
    let page = c.index_mut-page.result.now in
    let pages : pages_in c.self.inside.chunks.items ≡ now = ap (λ (k : Kept LineEnergy). k.pages) c.self.view_is in
    let at = stands _ _ c.self.inside.chunks.items c.args.index c.index_mut-chunk.result.now c.self.invariant.0 (omega (arith, c.requires, ap length pages, pages-count _ _ _ c.self.invariant.0)) in
    let own : page ≡ get_or now c.args.index no_energy =
    c.index_mut-page.ensures.value
    ∙ ap (λ v. get_or v.items (c.args.index % 65536) page) c.index_mut-chunk.ensures.value
    ∙ sym (at.is page)
    ∙ ap (λ (xs : List LineEnergy). get_or xs c.args.index page) pages
    ∙ sym (get_or_default now c.args.index no_energy page c.requires) in
    at.set_is _ c.worked.result (ap (λ v. set v.items (c.args.index % 65536) c.worked.result) c.index_mut-chunk.ensures.value)
    ∙ ap (λ (xs : List LineEnergy). set xs c.args.index c.worked.result) pages
    ∙ ap (λ (e : LineEnergy). set now c.args.index e) (c.worked.ensures ∙ ap (worked c.args.work) own)

pub invariant_of-self : goal.invariant_of-self
invariant_of-self c = (
  hold-set _ _ c.self.inside.chunks.items (c.args.index / 65536) c.index_mut-chunk.result.now _ c.self.invariant.0
      (length-set c.index_mut-chunk.result.now.items (c.args.index % 65536) c.worked.result ∙ ap (λ v. length v.items) c.index_mut-chunk.ensures.value)
      (ap vec_capacity c.index_mut-chunk.ensures.value),
  c.self.invariant.1,
  c.self.invariant.2,
)
