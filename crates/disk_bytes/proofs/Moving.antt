-- Moments of two calls, one behind the other.
use Rattle.std.proofs.Common.{◌≡◌, List, [], ◌∷◌, ◌++◌, append_assoc, refl, sym, ◌∙◌, ap, subst}
use Rattle.atomic_sectors.specs.{Lines.Write, Moments.AtEachMoment}

module _ (P : List Write → Type 0) where
  both-each : (later_ones first_ones old : List Write) → ((later earlier : List Write) → first_ones ≡ later ++ earlier → P (earlier ++ old))
      → ((later earlier : List Write) → later_ones ≡ later ++ earlier → P (earlier ++ (first_ones ++ old)))
      → (later earlier : List Write) → later_ones ++ first_ones ≡ later ++ earlier → P (earlier ++ old)
  both-each [] first_ones old first second later earlier split = first later earlier split
  both-each (w ∷ later_ones) first_ones old first second [] earlier split =
      subst (λ (ws : List Write). P (ws ++ old)) split
      (subst P (sym (append_assoc (w ∷ later_ones) first_ones old)) (second [] (w ∷ later_ones) refl))
  both-each (w ∷ later_ones) first_ones old first second (x ∷ later) earlier split =
      both-each later_ones first_ones old first (λ l e is. second (w ∷ l) e (ap (λ (ws : List Write). w ∷ ws) is)) later earlier (cc)

  pub both : (old mid new : List Write) → AtEachMoment P old mid → AtEachMoment P mid new → AtEachMoment P old new
  both old mid new first second = record {
    added = second.added ++ first.added;
    is = second.is ∙ ap (λ (ws : List Write). second.added ++ ws) first.is ∙ sym (append_assoc second.added first.added old);
    each = both-each second.added first.added old first.each
        (λ later earlier split. subst (λ (ws : List Write). P (earlier ++ ws)) first.is (second.each later earlier split));
  }
