-- What is said of a write of a sector, by another name of its layout, its lines and the writes before it.
use Rattle.std.proofs.Common.{◌≡◌, ℕ, List, refl, sym, subst, inl, Option}
use Rattle.atomic_sectors.specs.{Lines.{Write, stand}, Moments.AtEachMoment, Sectors.{IsBeforeOrAfter, Have, with_sector, sector_line}, Serving.IsKnown}
use Rattle.atomic_sectors.{specs.declared.layout.Layout.Layout, specs.declared.sectors.Sectors.Sectors, proofs.Making.at_start, proofs.Runs.whole_known}

module _ (n : ℕ) (layout : Layout) where
  -- where nothing was written
  pub stays : (known : Option Sectors) (sector : ℕ) (room : List (List ℕ)) (old new : List Write) → IsKnown n layout old known → new ≡ old
      → AtEachMoment (IsBeforeOrAfter n layout sector room old) old new
  stays known sector room old new is same =
      let here : IsBeforeOrAfter n layout sector room old old = record { whole = whole_known n layout old known is; either = inl (λ s i exists within. refl) } in
      subst (λ (ws : List Write). AtEachMoment (IsBeforeOrAfter n layout sector room old) old ws) (sym same)
      (at_start (IsBeforeOrAfter n layout sector room old) old here)

  module _ (its : Layout) (sector : ℕ) (room from : List (List ℕ)) (old mid new : List Write) (layout_is : its ≡ layout) (from_is : from ≡ room) (mid_is : mid ≡ old) where
    pub carried : AtEachMoment (IsBeforeOrAfter n its sector from mid) mid new → AtEachMoment (IsBeforeOrAfter n layout sector room old) old new
    carried m =
        subst (λ (ws : List Write). AtEachMoment (IsBeforeOrAfter n layout sector room ws) ws new) mid_is
        (subst (λ (ls : List (List ℕ)). AtEachMoment (IsBeforeOrAfter n layout sector ls mid) mid new) from_is
        (subst (λ (l : Layout). AtEachMoment (IsBeforeOrAfter n l sector from mid) mid new) layout_is m))

    pub have_carried : Have n its (stand n new) (with_sector sector from (sector_line n its (stand n mid))) → Have n layout (stand n new) (with_sector sector room (sector_line n layout (stand n old)))
    have_carried h =
        subst (λ (ws : List Write). Have n layout (stand n new) (with_sector sector room (sector_line n layout (stand n ws)))) mid_is
        (subst (λ (ls : List (List ℕ)). Have n layout (stand n new) (with_sector sector ls (sector_line n layout (stand n mid)))) from_is
        (subst (λ (l : Layout). Have n l (stand n new) (with_sector sector from (sector_line n l (stand n mid)))) layout_is h))
