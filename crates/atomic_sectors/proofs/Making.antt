-- Moments of a call that makes one write more.
use Rattle.std.proofs.Common.{◌≡◌, List, [], ◌∷◌, ◌++◌, refl, sym, ap, subst, inl, inr}
use Rattle.atomic_sectors.specs.{Lines.Write, Moments.{AtEachMoment, IsMadeOrNot}}

module _ (P : List Write → Type 0) where
  only_start : (later earlier old : List Write) → [] ≡ later ++ earlier → P old → P (earlier ++ old)
  only_start [] [] old split here = here
  only_start [] (w ∷ earlier) old split here = cc
  only_start (w ∷ later) earlier old split here = cc

  -- before the first write
  pub at_start : (old : List Write) → P old → AtEachMoment P old old
  at_start old here = record { added = []; is = refl; each = λ later earlier split. only_start later earlier old split here }

  one_more : (w : Write) (added old : List Write) → ((later earlier : List Write) → added ≡ later ++ earlier → P (earlier ++ old)) → P (w ∷ (added ++ old))
      → (later earlier : List Write) → w ∷ added ≡ later ++ earlier → P (earlier ++ old)
  one_more w added old each here [] earlier split = subst (λ (ws : List Write). P (ws ++ old)) split here
  one_more w added old each here (x ∷ later) earlier split = each later earlier (cc)

  -- behind one more
  pub made_one : (old mid : List Write) (w : Write) → AtEachMoment P old mid → P (w ∷ mid) → AtEachMoment P old (w ∷ mid)
  made_one old mid w m here = record {
    added = w ∷ m.added;
    is = ap (λ (ws : List Write). w ∷ ws) m.is;
    each = one_more w m.added old m.each (subst (λ (ws : List Write). P (w ∷ ws)) m.is here);
  }

  -- behind one that was stopped
  pub made_or_not : (old mid new : List Write) (w : Write) → AtEachMoment P old mid → IsMadeOrNot w mid new → P (w ∷ mid) → AtEachMoment P old new
  made_or_not old mid new w m (inl not) here = subst (λ (ws : List Write). AtEachMoment P old ws) (sym not) m
  made_or_not old mid new w m (inr made) here = subst (λ (ws : List Write). AtEachMoment P old ws) (sym made) (made_one old mid w m here)

  -- behind the last
  pub at_end : (old new : List Write) → AtEachMoment P old new → P new
  at_end old new m = subst P (sym m.is) (m.each [] m.added refl)

-- what follows from P at each moment
pub so_too : (P Q : List Write → Type 0) (old new : List Write) → ((writes : List Write) → P writes → Q writes) → AtEachMoment P old new → AtEachMoment Q old new
so_too P Q old new follows m = record { added = m.added; is = m.is; each = λ later earlier split. follows (earlier ++ old) (m.each later earlier split) }
