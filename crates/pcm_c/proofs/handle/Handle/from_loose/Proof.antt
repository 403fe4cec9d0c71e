-- `from_loose` keeps the pointer, and lets the allocator go, which has no byte.
use Rattle.std.proofs.Common.{◌≡◌, List, [], ◌∷◌, ◌++◌, refl, sym, subst}
use Rattle.std.{specs.Prelude.Some, specs.contracts.impls.GlobalAllocator.TheImpl.ghosts, proofs.raw_atomic.Walks.{proved_at, leaves}}
use Rattle.std.specs.contracts.alloc.Global as heap
use Rattle.std.proofs.alloc.Global.TheLaws as heap_laws
use mir.Val.{Val, vptr, vstruct, vcons, vnil}
use base.{Fml.ftrue, Logic.{SProp, ent, emp, id⊢}}
use prog.Wp.{WpFn}
use types.ByLocal.{alloc_all, pass_all, free_all, look_at, get, get_in, sets}
use types.{Kit.{‵, raw, ◌⊛◌, ◌$◌, ◌∵◌, !, qed, by, move, keep, split, fsplit, suffices, feq_i, fjoin, fpack, use0}, Part.{whole, sub, agg}}
use types.Run.{enter, of_opd, stop, fld, no_more, and_then, returns}
use contract.{Monad.{fact, fact_i}, Running.tables}
use denote.{Builtin.RawPtr, Exit.yes, RattleType.{RattleType, Valss, owns}, RawPtr.block_ptr, Signature.{plain, types_at}, Steps.nothing, Struct.Owning.shape, Struct.Struct.within}
use denote.Triple.Walked.{Stays, stay_dropped, walk_of, Goes-dropped}
use Rattle.pcm_c.{specs.declared.handle.Handle.Handle, proofs.Steps.{R}, proofs.Values.{both, Loose, loose_good, loose_out}, proofs.handle.Handle.from_loose.Statement.statement}
use Rattle.pcm_c.specs.contracts.handle.Handle as handle
use Rattle.pcm_c.specs.contracts.handle.Handle.from_loose as f
use Rattle.pcm_c.proofs.handle.Handle.from_loose.Code as code

abbrev Lo : RattleType
Lo = Loose R heap.the_row heap_laws.the_row_laws ghosts

abbrev stayed : Stays f.ended.signature.params f.ended.kept
stayed = (stay_dropped (plain (λ _. Lo)) yes, tt)

pub from_loose_spec : {M : Type 1} → statement M
from_loose_spec 𝓤 𝓛 𝓜 𝓡 wired =
    let c = f.clauses 𝓛 𝓜.mem 𝓡.returns in let 𝓣 = tables 𝓤 𝓛.H 𝓜 𝓡 𝓡.env in let Z = heap.the_row in let LZ = heap_laws.the_row_laws in
    proved_at 𝓛 f.ended stayed c 𝓜 𝓡 (Goes-dropped 𝓛 0 (plain (λ _. Lo)) yes (λ κs x w. refl), tt)
    f.Key.name code.function (code.unfolded 𝓤 𝓛.H 𝓜 𝓡 wired) (λ z are.
    let κs = z.0.0 in let v = z.0.3.0 in let Post : Val → SProp 𝓤 = (walk_of 𝓛 f.ended stayed c).post z in let Run : List Val → SProp 𝓤 = λ ws. WpFn 𝓤 𝓛.H 𝓣.C 𝓣.Λ code.function ws Post in
    qed 𝓛 ((‵ ftrue ⊛ ‵ (owns (types_at f.signature.params κs) z.0.3 z.0.4)) ∷ raw ((c κs z.0.3).requires z.1) ∷ []) ∵ split ! $ move ! (1 ∷ []) $ fsplit ! $
    loose_out R Z LZ ghosts ! v z.0.4.0 (λ b o hv e ws fits.
    let w : Val = both (vptr b o) hv in let typed = loose_good R Z LZ ghosts b o hv fits in
    suffices ! (Run (w ∷ [])) (subst (λ (us : List Val). ent 𝓤 (Run (w ∷ [])) (Run us)) (sym (λ i. ws i ++ [])) (id⊢ 𝓤 (Run (w ∷ [])))) $
    enter ! 𝓣.C 𝓣.Λ code.function (w ∷ []) Post $ alloc_all ! (λ l. pass_all ! refl (typed, tt) $
    sets ! (of_opd ! (get_in ! (fld ! refl (stop !)) (sub ! 0 refl (whole !)))) refl (tt, tt) $
    sets ! (of_opd ! (get ! refl)) refl (tt, tt) $
    sets ! (agg ! (and_then ! (get ! refl) (no_more !))) refl (tt, (tt, tt)) $
    -- [the value with its token; the allocator; what is left of the parameters; the tokens; the `requires`]
    returns ! (look_at ! 0 refl) $ free_all ! refl $
    let made : Handle = record { at = block_ptr b o; value = Some v.value; heap = v.alloc } in let u : Val = vstruct (vcons (vptr b o) vnil) in
    nothing ! $ feq_i ! (List Val) (vptr b o ∷ []) (vptr b o ∷ []) refl $ fjoin ! $ feq_i ! (List Val) (u ∷ []) (u ∷ []) refl $ fjoin ! $
    fpack ! (Valss (RawPtr ∷ [])) (within (shape handle.the_type) (block_ptr b o, tt) (u ∷ [])) (vptr b o ∷ [], tt) $ fjoin ! $
    use0 𝓛 (raw (fact 𝓤 (made.value ≡ Some v.value))) (fact_i 𝓤 (made.value ≡ Some v.value) (emp 𝓤) refl) $ nothing ! $ nothing ! $ fjoin ! $
    keep ! (5 ∷ 0 ∷ 2 ∷ 1 ∷ []) $ by ! (leaves 𝓛 f.ended stayed c z u made (tt, tt) (tt, tt)))))
