use Rattle.std.proofs.Common.{◌≡◌, ◌<◌, ◌∙◌, rules, sym, ap, subst, arith, length, [], ◌∷◌, ◌++◌, vec_capacity, vec_len}
use Rattle.line_pages.{specs.Book.{Kept, pages_in}, proofs.BookLemmas.{chunk-exists, pages-count, takes}}
use Rattle.line_pages.proofs.book.Book.push.Goals as goal

pub index_mut-chunk-requires : goal.index_mut-chunk-requires
index_mut-chunk-requires g c =
    let pages : length (pages_in c.self.inside.chunks.items) < c.self.inside.room = subst (λ (k : Kept g.row.T.Denot). length k.pages < k.room) (sym c.self.view_is) c.requires in
    let len : vec_len c.self.inside.chunks ≡ length c.self.inside.chunks.items = search rules in
    let own = chunk-exists _ _ c.self.inside.chunks.items c.self.inside.len c.self.invariant.0 (omega (arith, pages, pages-count _ _ _ c.self.invariant.0)) in
    omega (arith, own, len)

pub push_reserved-requires : goal.push_reserved-requires
push_reserved-requires g c =
    let pages : length (pages_in c.self.inside.chunks.items) < c.self.inside.room = subst (λ (k : Kept g.row.T.Denot). length k.pages < k.room) (sym c.self.view_is) c.requires in
    let at = takes _ _ c.self.inside.chunks.items c.index_mut-chunk.result.now c.self.invariant.0 (omega (arith, pages, pages-count _ _ _ c.self.invariant.0)) in
    let fits = subst (λ v. length v.items < vec_capacity v) (sym c.index_mut-chunk.ensures.value) at.fits in
    let len : vec_len c.index_mut-chunk.result.now ≡ length c.index_mut-chunk.result.now.items = search rules in
    omega (arith, fits, len)

pub returns-clause-pages : goal.returns-clause-pages
returns-clause-pages g c =
    let pages : length (pages_in c.self.inside.chunks.items) < c.self.inside.room = subst (λ (k : Kept g.row.T.Denot). length k.pages < k.room) (sym c.self.view_is) c.requires in
    let at = takes _ _ c.self.inside.chunks.items c.index_mut-chunk.result.now c.self.invariant.0 (omega (arith, pages, pages-count _ _ _ c.self.invariant.0)) in
    let items = c.push_reserved.ensures.items ∙ ap (λ v. v.items ++ c.args.page ∷ []) c.index_mut-chunk.ensures.value in
    let room = c.push_reserved.ensures.capacity ∙ ap vec_capacity c.index_mut-chunk.ensures.value in
    (at.more c.push_reserved.new.self c.args.page items room).1
    ∙ ap (λ (k : Kept g.row.T.Denot). k.pages ++ c.args.page ∷ []) c.self.view_is

pub invariant_of-self : goal.invariant_of-self
invariant_of-self g c =
    let pages : length (pages_in c.self.inside.chunks.items) < c.self.inside.room = subst (λ (k : Kept g.row.T.Denot). length k.pages < k.room) (sym c.self.view_is) c.requires in
    let low : c.self.inside.len < c.self.inside.room = omega (arith, pages, pages-count _ _ _ c.self.invariant.0) in
    let at = takes _ _ c.self.inside.chunks.items c.index_mut-chunk.result.now c.self.invariant.0 low in
    let items = c.push_reserved.ensures.items ∙ ap (λ v. v.items ++ c.args.page ∷ []) c.index_mut-chunk.ensures.value in
    let room = c.push_reserved.ensures.capacity ∙ ap vec_capacity c.index_mut-chunk.ensures.value in
    ((at.more c.push_reserved.new.self c.args.page items room).0, omega (arith, low), c.self.invariant.2)

pub overflow_add-self : goal.overflow_add-self
overflow_add-self g c =
    let few = c.self.invariant.2 in
    let len = c.self.invariant.1 in
    omega (arith, few, len)
