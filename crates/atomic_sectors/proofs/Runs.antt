-- What the sectors have behind a request.
use Rattle.std.proofs.Common.{◌≡◌, ◌⊎◌, ℕ, ◌==◌, if◌then◌else◌, List, [], ◌∷◌, ◌++◌, get_or, refl, sym, ◌∙◌, ap, subst, inl, inr, Option, Some, None}
use Rattle.atomic_sectors.specs.{Lines.{Write, stand}, Sectors.{sector_line, Have, IsWhole, with_sector}}
use Rattle.atomic_sectors.specs.{Serving.{Made, content, Serves, ServesRead, ServesWrite, ServeAll, IsKnown}, declared.layout.Layout.Layout, declared.lines.Stopped.Stopped as Why}
use Rattle.atomic_sectors.specs.{declared.sectors.Sectors.Sectors, declared.serving.SectorAnswer.SectorAnswer, declared.serving.SectorAnswer.TheVariants.Stopped, declared.serving.SectorRequest.SectorRequest}
use Rattle.atomic_sectors.specs.declared.serving.SectorRequest.TheVariants.{Read, Write as Writes}

module _ (n : ℕ) (layout : Layout) (old new : ℕ → List ℕ) (before : List Made) (have : Have n layout old (content n before)) where
  pub have_as_before : Have n layout new (sector_line n layout old) → Have n layout new (content n before)
  have_as_before same s i exists within = same s i exists within ∙ have s i exists within

  pub have_one_more : (m : Made) → Have n layout new (with_sector m.sector m.lines (sector_line n layout old)) → Have n layout new (content n (m ∷ before))
  have_one_more m same s i exists within =
      same s i exists within ∙ ap (λ (x : List ℕ). if s == m.sector then get_or m.lines i [] else x) (have s i exists within)

  pub stopped_by : (m : Made) (why : Why) → Have n layout new (sector_line n layout old) ⊎ Have n layout new (with_sector m.sector m.lines (sector_line n layout old))
      → (behind : List Made) × ServesWrite n m (Stopped why) before behind × Have n layout new (content n behind)
  stopped_by m why (inl not) = (before, inl refl, have_as_before not)
  stopped_by m why (inr made) = (m ∷ before, inr refl, have_one_more m made)

-- one request more
pub serve_more : (n block : ℕ) (requests : List (SectorRequest n)) (answers : List (SectorAnswer n)) (r : SectorRequest n) (a : SectorAnswer n) (before between behind : List Made)
    → ServeAll n block requests answers before between → Serves n block r a between behind → ServeAll n block (requests ++ r ∷ []) (answers ++ a ∷ []) before behind
serve_more n block [] [] r a before between behind all one = (behind, subst (λ (ms : List Made). Serves n block r a ms behind) all one, refl)
serve_more n block [] (b ∷ answers) r a before between behind all one = absurd all
serve_more n block (q ∷ requests) [] r a before between behind all one = absurd all
serve_more n block (q ∷ requests) (b ∷ answers) r a before between behind all one = (all.0, all.1, serve_more n block requests answers r a all.0 between behind all.2 one)

-- where sectors couldn't be opened
stays : (n block : ℕ) (r : SectorRequest n) (why : Why) (before : List Made) → Serves n block r (Stopped why) before before
stays n block (Read sector) why before = (refl, tt)
stays n block (Writes sector lines) why before = inl refl

module _ (n : ℕ) (layout : Layout) (old mid : List Write) (kept : mid ≡ old) where
  abbrev Step : SectorRequest n → SectorAnswer n → List Write → Type 0
  Step r a new =
      (before : List Made) → Have n layout (stand n old) (content n before)
      → (behind : List Made) × Serves n layout.block r a before behind × Have n layout (stand n new) (content n behind)

  pub not_opened : (r : SectorRequest n) (why : Why) → Step r (Stopped why) mid
  not_opened r why before have = (before, stays n layout.block r why before, subst (λ (ws : List Write). Have n layout (stand n ws) (content n before)) (sym kept) have)

  module _ (its : Layout) (same : its ≡ layout) where
    pub is_read : (r : SectorRequest n) (sector : ℕ) (a : SectorAnswer n) (new : List Write) → r ≡ Read sector → new ≡ mid
        → ((before : List Made) → Have n its (stand n mid) (content n before) → ServesRead n its.block sector a before) → Step r a new
    is_read r sector a new is made serves before have =
        let here = subst (λ (ws : List Write). Have n layout (stand n ws) (content n before)) (sym kept) have in
        let served = subst (λ (l : Layout). (ms : List Made) → Have n l (stand n mid) (content n ms) → ServesRead n l.block sector a ms) same serves before here in (
          before,
          subst (λ (q : SectorRequest n). Serves n layout.block q a before before) (sym is) (refl, served),
          subst (λ (ws : List Write). Have n layout (stand n ws) (content n before)) (sym made) here,
        )

    pub is_written : (r : SectorRequest n) (sector : ℕ) (lines : _) (a : SectorAnswer n) (new : List Write) → r ≡ Writes sector lines
        → ((before : List Made) → Have n its (stand n mid) (content n before)
        → (behind : List Made) × ServesWrite n (record { sector = sector; lines = lines.items }) a before behind × Have n its (stand n new) (content n behind))
        → Step r a new
    is_written r sector lines a new is serves before have =
        let here = subst (λ (ws : List Write). Have n layout (stand n ws) (content n before)) (sym kept) have in
        let served =
        subst (λ (l : Layout). (ms : List Made) → Have n l (stand n mid) (content n ms)
        → (behind : List Made) × ServesWrite n (record { sector = sector; lines = lines.items }) a ms behind × Have n l (stand n new) (content n behind)) same serves before here in
        (served.0, subst (λ (q : SectorRequest n). Serves n layout.block q a before served.0) (sym is) served.1, served.2)

-- what is known tells that the sectors are whole
pub whole_known : (n : ℕ) (layout : Layout) (writes : List Write) (known : Option Sectors) → IsKnown n layout writes known → IsWhole n layout (stand n writes)
whole_known n layout writes None known = known
whole_known n layout writes (Some s) known = (s.free, known.1)
