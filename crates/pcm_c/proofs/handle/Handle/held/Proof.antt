-- `held` lends the module, and the handle follows it.
use Rattle.std.proofs.Common.{List, [], ◌∷◌, refl, sym, ap, ◌∙◌, MutBor}
use Rattle.std.{specs.Box.Ownership.box_owns, specs.Prelude.{IsTrue, is_some}, specs.contracts.impls.GlobalAllocator.TheImpl.ghosts, proofs.VecSteps.Shapes.after}
use Rattle.std.proofs.raw_atomic.Walks.{proved}
use base.{Fml.{GName, ftrue, flft}, Fraction.full_share, Logic.{never, fst∗}}
use mir.{Raw.raw as bare, Syntax.named, Val.{Val, vptr}}
use types.ByLocal.{alloc_all, pass_all, free_all, look_at, get, through, sets, sets_last, env}
use types.Kit.{by, ‵, raw, ◌⊛◌, some, later, at_ret, ◌$◌, ◌∵◌, !, qed, done, move, keep, use1, split, join, fsplit, fsplit3, fjoin, pick, await, rewrite, suffices, frame, group}
use types.{Logic.sem, Part.{whole, sub, look_in}, Run.{enter, of_opd, addr, load, stop, fld, first, blocks, exec, returns}}
use contract.{Monad.fact, Running.tables}
use denote.{Exit.no, Follow.{Part, lends_Part, follows}, Laws.shows, Memory.{cell_at, lone}, RawPtr.{Ptr, null_ptr, in_a_block}, Ref.{MutRef, mut_vals, mut_Tells}}
use denote.{Signature.{plain, mut_ref_to}, Steps.{nothing, heard, opens, peeks}, Triple.Walked.{Stays, walk_of, says, stay_dropped, Goes-spent_ref, ends_at}}
use Rattle.pcm_c.{specs.Lending.with_value, proofs.Steps.{H, R, Rest, back, opened}, proofs.handle.Handle.TheLaws.lowers, proofs.handle.Handle.held.Statement.statement}
use Rattle.pcm_c.specs.contracts.handle.Handle.held as f
use Rattle.pcm_c.proofs.handle.Handle.held.Code as code

abbrev stayed : Stays f.ended.signature.params f.ended.kept
stayed = (stay_dropped (mut_ref_to (0 ∷ []) tt (plain (λ _. H))) no, tt)

pub held_spec : {M : Type 1} → statement M
held_spec 𝓤 𝓛 𝓜 𝓡 wired =
    let c = f.clauses 𝓛 𝓜.mem 𝓡.returns in let W = walk_of 𝓛 f.ended stayed c in let 𝓣 = tables 𝓤 𝓛.H 𝓜 𝓡 𝓡.env in
    proved 𝓛 f.ended stayed c 𝓜 𝓡 (Goes-spent_ref 𝓛 1 (0 ∷ []) tt (plain (λ _. H)), tt)
    f.Key.name code.function (code.unfolded 𝓤 𝓛.H 𝓜 𝓡 wired)
    (λ κs. (mut_vals, tt)) (λ κs. (mut_Tells (named 0) κs.0 H, tt)) (λ κs qs bounds a _ are.
    let κ = κs.0 in let q = qs.0 in let rb = a.0.ref_ptr.0 in let ro = a.0.ref_ptr.1 in let γ = a.0.ghost_name in let h = a.0.now in let vs = mut_vals a.0 in
    let y : W.Ghost = ((κs, qs, bounds, a, (vs, tt)), tt) in
    qed 𝓛 (((‵ (flft κ q) ⊛ ‵ ftrue) ⊛ ‵ ((MutRef (named 0) κ H).own_val a.0 vs) ⊛ ‵ ftrue) ∷ raw (fact 𝓤 (IsTrue (is_some h.value))) ∷ []) ∵
    move ! (1 ∷ []) $ heard ! (IsTrue (is_some h.value)) (λ holds. split ! $ split ! $ move ! (2 ∷ []) $ split ! $ keep ! (0 ∷ 2 ∷ []) $
    enter ! _ _ _ _ _ $ alloc_all ! (λ l. pass_all ! refl ((tt, tt), tt) $
    fsplit3 ! $ move ! (1 ∷ 2 ∷ 3 ∷ []) $ opens ! tt H rb ro (λ us.
    move ! (1 ∷ []) $ peeks ! H _ (shows 𝓛 H) h us (λ is. fsplit ! $ move ! (1 ∷ []) $
    opened ! h.heap h.at h.value holds (λ held stands. in_a_block ! h.at (λ p. box_owns (ghosts.dealloc_token h.heap) R p held) (fst∗ 𝓤 (never 𝓤) (sem 𝓛 (ghosts.dealloc_token h.heap (bare (lone R.mir)) null_ptr))) (λ b o e. fsplit ! $
    let word = lowers.val_is h us is ∙ ap (λ (p : Ptr). lowers.lowered (record h { at = p }) ∷ []) e in
    let Cell = λ (ws : List Val). ‵ (cell_at full_share H.mir ws rb ro) in
    -- [the value; the token; what the fields own; the handle's cell; the open borrow, in three entries]
    rewrite ! 3 Cell word refl $
    first ! $ blocks ! $
    sets ! (of_opd ! (load ! (through ! refl (fld ! refl (stop !))) (look_in ! 3 (sub ! 0 refl (whole !))))) refl (tt, tt) $
    sets ! (of_opd ! (get ! refl)) refl (tt, tt) $
    sets_last ! (addr ! (through ! refl (stop !))) refl (tt, tt) $
    exec ! 𝓣.C 𝓣.Λ (env code.Mir.locals l) (after 1 (code.function).body) (at_ret _ (W.post y)) $
    sets ! (of_opd ! (get ! refl)) refl (tt, tt) $
    rewrite ! 3 Cell (sym word) refl $
    move ! (1 ∷ 2 ∷ []) $ fjoin ! $ move ! (0 ∷ 2 ∷ []) $ fjoin ! $ move ! (2 ∷ 3 ∷ 4 ∷ 1 ∷ 0 ∷ []) $ group ! 5 $
    use1 𝓛 (later (some (λ (γ' : GName). raw (Part 𝓛 H R (with_value h) (named 0) κ q rb ro b o γ (sem 𝓛 (Rest h us b o rb ro)) (back 𝓛 h us b o rb ro e) held γ'))))
    (lends_Part 𝓛 H R (with_value h) (named 0) κ q rb ro b o γ (sem 𝓛 (Rest h us b o rb ro)) (back 𝓛 h us b o rb ro e) (H.coded.code h) (H.coded.code h) held) $ await ! tt $ pick ! (λ γ'.
    returns ! (look_at ! 0 refl) $ free_all ! refl $ let r : MutBor R.Denot = record { ref_ptr = (b, o); ghost_name = γ'; now = held } in
    keep ! (0 ∷ []) $ by ! (qed 𝓛 (‵ ((MutRef (named 0) κ R).own_val r (vptr b o ∷ [])) ∷ ‵ (flft κ q) ∷ ‵ (follows H R γ γ' (with_value h)) ∷ []) ∵
    suffices ! _ (ends_at 𝓛 f.ended stayed c y (vptr b o) r (tt, tt) (tt, tt)) $
    nothing ! $ nothing ! $ fjoin ! $ join ! $ nothing ! $ move ! (2 ∷ 0 ∷ []) $ join ! $ join ! $ frame ! $ says ! stands $ done !)))))))))
