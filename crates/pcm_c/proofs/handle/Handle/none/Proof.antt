-- `none` sets the pointer to null, and lets the allocator go, which has no byte.
use Rattle.std.proofs.Common.{◌≡◌, List, [], ◌∷◌, ◌++◌, refl, sym, subst, lit<}
use Rattle.std.{specs.Prelude.None, specs.contracts.impls.GlobalAllocator.TheImpl.ghosts, proofs.raw_atomic.Walks.{proved_at, leaves}}
use Rattle.std.specs.contracts.alloc.Global as heap
use Rattle.std.proofs.alloc.Global.TheLaws as heap_laws
use mir.{Syntax.{impl, tnil, dnil}, Val.{Val, vnull, vstruct, vcons, vnil}}
use base.{Fml.ftrue, Logic.{SProp, ent, emp, id⊢}}
use prog.Wp.{WpFn}
use types.{ByLocal.{alloc_all, pass_all, free_all, look_at, sets}, Kit.{‵, raw, ◌⊛◌, ◌$◌, ◌∵◌, !, qed, by, move, keep, split, fsplit, suffices, feq_i, fjoin, fpack, use0}}
use types.{Part.agg, Run.{enter, lit, no_more, and_then, returns}}
use contract.{Monad.{fact, fact_i}, Running.tables}
use denote.{Builtin.RawPtr, Exit.yes, RattleType.{Valss, owns}, RawPtr.null_ptr, Signature.{plain, types_at}, Steps.nothing, Struct.Owning.shape, Struct.Struct.within}
use denote.Triple.Walked.{Stays, stay_dropped, walk_of, Goes-dropped}
use Rattle.core.proofs.alloc.Calls.{Al, handle_tells}
use Rattle.pcm_c.{specs.declared.handle.Handle.Handle, proofs.handle.Handle.none.Statement.statement}
use Rattle.pcm_c.specs.contracts.handle.Handle as handle
use Rattle.pcm_c.specs.contracts.handle.Handle.none as f
use Rattle.pcm_c.proofs.handle.Handle.none.Code as code

abbrev al : Al
al = record { row = heap.the_row; laws = heap_laws.the_row_laws; g = ghosts; d = impl [] tnil dnil; drops = impl [] tnil dnil }

abbrev stayed : Stays f.ended.signature.params f.ended.kept
stayed = (stay_dropped (plain (λ _. heap.the_row)) yes, tt)

pub none_spec : {M : Type 1} → statement M
none_spec 𝓤 𝓛 𝓜 𝓡 wired =
    let c = f.clauses 𝓛 𝓜.mem 𝓡.returns in let 𝓣 = tables 𝓤 𝓛.H 𝓜 𝓡 𝓡.env in
    proved_at 𝓛 f.ended stayed c 𝓜 𝓡 (Goes-dropped 𝓛 0 (plain (λ _. heap.the_row)) yes (λ κs x w. refl), tt)
    f.Key.name code.function (code.unfolded 𝓤 𝓛.H 𝓜 𝓡 wired) (λ z are.
    let κs = z.0.0 in let a = z.0.3.0 in let avs = z.0.4.0 in
    let Post : Val → SProp 𝓤 = (walk_of 𝓛 f.ended stayed c).post z in let Run : List Val → SProp 𝓤 = λ ws. WpFn 𝓤 𝓛.H 𝓣.C 𝓣.Λ code.function ws Post in
    qed 𝓛 ((‵ ftrue ⊛ ‵ (owns (types_at f.signature.params κs) z.0.3 z.0.4)) ∷ raw ((c κs z.0.3).requires z.1) ∷ []) ∵ split ! $ move ! (1 ∷ []) $ fsplit ! $
    handle_tells al ! a avs (λ hv ea fits.
    -- [the allocator; what is left of the parameters; the tokens; the `requires`]
    suffices ! (Run (hv ∷ [])) (subst (λ (vs : List Val). ent 𝓤 (Run (hv ∷ [])) (Run vs)) (sym (λ i. ea i ++ [])) (id⊢ 𝓤 (Run (hv ∷ [])))) $
    enter ! 𝓣.C 𝓣.Λ code.function (hv ∷ []) Post $ alloc_all ! (λ l. pass_all ! refl (fits, tt) $
    sets ! (agg ! (and_then ! (lit ! tt) (no_more !))) refl (tt, (record { fits = lit< tt }, tt)) $
    returns ! (look_at ! 0 refl) $ free_all ! refl $
    let made : Handle = record { at = null_ptr; value = None; heap = a } in let u : Val = vstruct (vcons vnull vnil) in
    nothing ! $ nothing ! $ feq_i ! (List Val) (vnull ∷ []) (vnull ∷ []) refl $ fjoin ! $ feq_i ! (List Val) (u ∷ []) (u ∷ []) refl $ fjoin ! $
    fpack ! (Valss (RawPtr ∷ [])) (within (shape handle.the_type) (null_ptr, tt) (u ∷ [])) (vnull ∷ [], tt) $ fjoin ! $
    use0 𝓛 (raw (fact 𝓤 (made.value ≡ None))) (fact_i 𝓤 (made.value ≡ None) (emp 𝓤) refl) $ nothing ! $ nothing ! $ fjoin ! $
    keep ! (5 ∷ 0 ∷ 2 ∷ 1 ∷ []) $ by ! (leaves 𝓛 f.ended stayed c z u made (tt, tt) (tt, tt)))))
