-- The machine values of a handle. Assumes `Logic`.
use Rattle.std.proofs.Common.{◌≡◌, ℕ, List, [], ◌∷◌, refl, sym}
use Rattle.std.specs.{Box.Ownership.box_owns, Prelude.{Option, Some, None, IsTrue, is_some}, contracts.impls.GlobalAllocator.TheImpl.ghosts, declared.alloc.Global.Global}
use Rattle.std.proofs.lemmas.Bool.{false≢true}
use seplogic.Ra.Ura.{Ura}
use mir.{Raw.raw as bare, Val.Val}
use base.{Fml.{Fml, fsep}, Fraction.full_share, Logic.{ent, sep}}
use types.{Kit.{Item, Goal, Seq, ‵, ◌$◌, ◌∵◌, !, qed, done, move, fsplit, fjoin, fpack, rewrite}, Logic.{Logic, sem}}
use denote.{Memory.{lone, cell_at, part_at, part_of, mem}, RattleType.RattleType, RawPtr.{Ptr, block_ptr}, Struct.Owning.shape, Struct.Struct.Struct}
use Rattle.pcm_c.specs.{Lending.with_value, Owning.owned, declared.handle.Handle.Handle, declared.held.Held.Held}
use Rattle.pcm_c.specs.contracts.held.Held as inner
use Rattle.pcm_c.specs.contracts.handle.Handle as handle

abbrev pub R : RattleType
R = inner.the_row

abbrev pub H : RattleType
H = handle.the_row

-- what the fields of a handle own at these machine values
abbrev pub Fields : Handle → List Val → Fml
Fields h us = (Struct (shape handle.the_type)).own_val (h.at, tt) us

-- all of the handle at (rb, ro) but its value
abbrev pub Rest : Handle → List Val → (b o rb ro : ℕ) → Fml
Rest h us b o rb ro = fsep (fsep (ghosts.dealloc_token h.heap (bare (lone R.mir)) (block_ptr b o)) (Fields h us)) (cell_at full_share H.mir us rb ro)

module _ {M : Type 1} {𝓤 : Ura M} {𝓛 : Logic 𝓤} {K : Type 0} {Γ : List (Item 𝓤)} {G : Goal 𝓤 𝓛.H} where
  -- a handle that holds a module owns its box
  pub opened : K → (heap : Global) (at : Ptr) (value : Option Held) → IsTrue (is_some value)
      → ((held : Held) → value ≡ Some held → Seq K 𝓛 (‵ (box_owns (ghosts.dealloc_token heap) R at held) ∷ Γ) G)
      → Seq K 𝓛 (‵ (owned heap at value) ∷ Γ) G
  opened t heap at (Some held) holds k = k held refl
  opened t heap at None holds k = absurd (false≢true holds)

module _ {M : Type 1} {𝓤 : Ura M} (𝓛 : Logic 𝓤) (h : Handle) (us : List Val) (b o rb ro : ℕ) where
  -- with any value in its place it is a handle of that
  pub back : h.at ≡ block_ptr b o → (w : R.Denot) → ent 𝓤 (sep 𝓤 (sem 𝓛 ((mem R).own_at w b o)) (sem 𝓛 (Rest h us b o rb ro))) (sem 𝓛 ((mem H).own_at (with_value h w) rb ro))
  unfolding part_of
  back at_b w =
      qed 𝓛 (‵ (part_at R full_share w b o) ∷ ‵ (Rest h us b o rb ro) ∷ []) ∵ move ! (1 ∷ []) $ fsplit ! $ fsplit ! $ move ! (3 ∷ 0 ∷ []) $ fjoin ! $
      rewrite ! 0 (λ (p : Ptr). ‵ (box_owns (ghosts.dealloc_token h.heap) R p w)) (sym at_b) refl $ move ! (1 ∷ 0 ∷ []) $ fjoin ! $ move ! (1 ∷ 0 ∷ []) $ fjoin ! $
      fpack ! (List Val) (λ vs. fsep (cell_at full_share H.mir vs rb ro) (H.own_val (with_value h w) vs)) us $ done !
