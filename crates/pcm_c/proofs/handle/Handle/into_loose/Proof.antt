-- `into_loose` puts the allocator beside the pointer.
use Rattle.std.proofs.Common.{◌≡◌, List, [], ◌∷◌, ◌++◌, refl, sym, ap, ◌∙◌, subst}
use Rattle.std.specs.{Box.Ownership.box_owns, Prelude.{Some, IsTrue, is_some}, contracts.impls.GlobalAllocator.TheImpl.ghosts, declared.alloc.Global.Global}
use Rattle.std.proofs.raw_atomic.Walks.{proved_at, leaves}
use Rattle.std.specs.contracts.alloc.Global as heap
use Rattle.std.proofs.alloc.Global.TheLaws as heap_laws
use mir.{Raw.raw as bare, Syntax.{impl, tnil, dnil}, Val.{Val, vptr, vstruct, vcons, vnil}}
use base.{Fml.ftrue, Logic.{SProp, ent, emp, id⊢, never, fst∗}}
use prog.Wp.{WpFn}
use types.{ByLocal.{alloc_all, pass_all, free_all, look_at, get, get_in, sets}, Kit.{‵, raw, ◌⊛◌, ◌$◌, ◌∵◌, !, qed, by, move, keep, split, fsplit, suffices, fjoin, rewrite, use0}}
use types.{Logic.sem, Part.{whole, sub, agg}, Run.{enter, of_opd, stop, fld, no_more, and_then, returns}}
use contract.{Monad.{fact, fact_i}, Running.tables}
use denote.{Exit.yes, Laws.shows, Memory.lone, RattleType.{RattleType, owns}, RawPtr.{Ptr, block_ptr, null_ptr, in_a_block}, Signature.{plain, types_at}}
use denote.{Steps.{nothing, heard, peeks}, Triple.Walked.{Stays, stay_dropped, walk_of, Goes-dropped}}
use Rattle.core.proofs.alloc.Calls.{Al, handle_tells}
use Rattle.pcm_c.proofs.{Steps.{H, R, opened}, Values.{both, Loose, loose_good, loose_in}, handle.Handle.TheLaws.lowers, handle.Handle.into_loose.Statement.statement}
use Rattle.pcm_c.specs.contracts.handle.Handle.into_loose as f
use Rattle.pcm_c.proofs.handle.Handle.into_loose.Code as code

abbrev Lo : RattleType
Lo = Loose R heap.the_row heap_laws.the_row_laws ghosts

abbrev al : Al
al = record { row = heap.the_row; laws = heap_laws.the_row_laws; g = ghosts; d = impl [] tnil dnil; drops = impl [] tnil dnil }

abbrev stayed : Stays f.ended.signature.params f.ended.kept
stayed = (stay_dropped (plain (λ _. H)) yes, (stay_dropped (plain (λ _. heap.the_row)) yes, tt))

pub into_loose_spec : {M : Type 1} → statement M
into_loose_spec 𝓤 𝓛 𝓜 𝓡 wired =
    let c = f.clauses 𝓛 𝓜.mem 𝓡.returns in let 𝓣 = tables 𝓤 𝓛.H 𝓜 𝓡 𝓡.env in let Z = heap.the_row in let LZ = heap_laws.the_row_laws in
    proved_at 𝓛 f.ended stayed c 𝓜 𝓡 (Goes-dropped 𝓛 0 (plain (λ _. H)) yes (λ κs x w. refl), (Goes-dropped 𝓛 0 (plain (λ _. heap.the_row)) yes (λ κs x w. refl), tt))
    f.Key.name code.function (code.unfolded 𝓤 𝓛.H 𝓜 𝓡 wired) (λ z are.
    let κs = z.0.0 in let h = z.0.3.0 in let a = z.0.3.1.0 in let us = z.0.4.0 in let avs = z.0.4.1.0 in
    let Post : Val → SProp 𝓤 = (walk_of 𝓛 f.ended stayed c).post z in let Run : List Val → SProp 𝓤 = λ ws. WpFn 𝓤 𝓛.H 𝓣.C 𝓣.Λ code.function ws Post in
    qed 𝓛 ((‵ ftrue ⊛ ‵ (owns (types_at f.signature.params κs) z.0.3 z.0.4)) ∷ raw (fact 𝓤 (IsTrue (is_some h.value))) ∷ []) ∵
    move ! (1 ∷ []) $ heard ! (IsTrue (is_some h.value)) (λ holds. split ! $ move ! (1 ∷ []) $ fsplit ! $
    peeks ! H _ (shows 𝓛 H) h us (λ is. fsplit ! $ move ! (1 ∷ []) $ opened ! h.heap h.at h.value holds (λ held stands.
    in_a_block ! h.at (λ p. box_owns (ghosts.dealloc_token h.heap) R p held) (fst∗ 𝓤 (never 𝓤) (sem 𝓛 (ghosts.dealloc_token h.heap (bare (lone R.mir)) null_ptr))) (λ b o e.
    move ! (2 ∷ []) $ fsplit ! $ handle_tells al ! a avs (λ hv ea fits.
    -- [the allocator; true; the value with its token; the fields; the tokens]
    let ws : us ≡ lowers.lowered (record h { at = block_ptr b o }) ∷ [] = lowers.val_is h us is ∙ ap (λ (p : Ptr). lowers.lowered (record h { at = p }) ∷ []) e in
    let w : Val = vstruct (vcons (vptr b o) vnil) in let typed = loose_good R Z LZ ghosts b o hv fits in
    suffices ! (Run (w ∷ hv ∷ [])) (subst (λ (vs : List Val). ent 𝓤 (Run (w ∷ hv ∷ [])) (Run vs)) (sym (λ i. ws i ++ (ea i ++ []))) (id⊢ 𝓤 (Run (w ∷ hv ∷ [])))) $
    enter ! 𝓣.C 𝓣.Λ code.function (w ∷ hv ∷ []) Post $ alloc_all ! (λ l. pass_all ! refl ((tt, (tt, tt)), (fits, tt)) $
    sets ! (of_opd ! (get_in ! (fld ! refl (stop !)) (sub ! 0 refl (whole !)))) refl (tt, tt) $
    sets ! (of_opd ! (get ! refl)) refl (tt, tt) $
    sets ! (agg ! (and_then ! (get ! refl) (and_then ! (get ! refl) (no_more !)))) refl typed $
    returns ! (look_at ! 0 refl) $ free_all ! refl $
    move ! (2 ∷ 0 ∷ []) $ rewrite ! 0 (λ (heap' : Global). ‵ (box_owns (ghosts.dealloc_token heap') R (block_ptr b o) held)) refl refl $ loose_in R Z LZ ghosts ! b o hv a held $
    -- [the loose box; true; the fields; the tokens]
    use0 𝓛 (raw (fact 𝓤 (h.value ≡ Some held))) (fact_i 𝓤 (h.value ≡ Some held) (emp 𝓤) stands) $ nothing ! $ nothing ! $ fjoin ! $ nothing ! $ fjoin ! $
    keep ! (5 ∷ 0 ∷ 2 ∷ 1 ∷ []) $ by ! (leaves 𝓛 f.ended stayed c z (both (vptr b o) hv) (record { at = block_ptr b o; alloc = a; value = held }) (tt, (tt, tt)) (tt, (tt, tt))))))))))
