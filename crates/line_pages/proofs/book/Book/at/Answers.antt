use Rattle.std.proofs.Common.{◌≡◌, ◌<◌, ◌%◌, ◌∙◌, rules, sym, ap, subst, arith, length, get_or, List, vec_len}
use Rattle.line_pages.{specs.Book.{Kept, pages_in}, proofs.BookLemmas.{chunk-exists, pages-count, stands}}
use Rattle.line_pages.proofs.book.Book.at.Goals as goal

pub index-requires : goal.index-requires
index-requires g c =
    let pages : pages_in c.self.inside.chunks.items ≡ c.args.self.now.pages = ap (λ (k : Kept g.row.T.Denot). k.pages) c.self.view_is in
    let len : vec_len c.self.inside.chunks ≡ length c.self.inside.chunks.items = search rules in
    let own = chunk-exists _ _ c.self.inside.chunks.items c.args.index c.self.invariant.0 (omega (arith, c.requires, ap length pages, pages-count _ _ _ c.self.invariant.0, c.self.invariant.1)) in
    omega (arith, own, len)

pub index-requires-2 : goal.index-requires-2
index-requires-2 g c =
    let pages : pages_in c.self.inside.chunks.items ≡ c.args.self.now.pages = ap (λ (k : Kept g.row.T.Denot). k.pages) c.self.view_is in
    let at = stands _ _ c.self.inside.chunks.items c.args.index c.index.result.now c.self.invariant.0 (omega (arith, c.requires, ap length pages, pages-count _ _ _ c.self.invariant.0)) in
    let len : vec_len c.index.result.now ≡ length c.index.result.now.items = search rules in
    let own = subst (λ v. c.args.index % 65536 < length v.items) (sym c.index.ensures) at.page in
    omega (arith, own, len)

pub returns : goal.returns
returns g c =
    let pages : pages_in c.self.inside.chunks.items ≡ c.args.self.now.pages = ap (λ (k : Kept g.row.T.Denot). k.pages) c.self.view_is in
    let at = stands _ _ c.self.inside.chunks.items c.args.index c.index.result.now c.self.invariant.0 (omega (arith, c.requires, ap length pages, pages-count _ _ _ c.self.invariant.0)) in
    c.index-2.ensures
    ∙ ap (λ v. get_or v.items (c.args.index % 65536) c.index-2.result.now) c.index.ensures
    ∙ sym (at.is c.index-2.result.now)
    ∙ ap (λ (xs : List g.row.T.Denot). get_or xs c.args.index c.index-2.result.now) pages
