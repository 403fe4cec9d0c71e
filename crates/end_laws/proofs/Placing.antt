-- The accepted writes of a history by their places, each with the number of its row; those that stand are the queue's, in its order.
use Rattle.std.proofs.Common.{◌≡◌, ℕ, ◌==◌, ◌&&◌, ◌⊎◌, inl, inr, Bool, true, false, List, [], ◌∷◌, ◌++◌, Option, Some, None, refl, sym, ap, ◌∙◌, subst, cond, eqb, eqb-true}
use Rattle.std.proofs.lemmas.Bool.{eq-eqb}
use Rattle.masked_bytes.{specs.Entries.{has_row, laid_on, merged, completed_by}, specs.declared.entry.Entry.Entry, proofs.Truth.{and_first, or_rest}}
use Rattle.row_rules.specs.Answers.{is_merged}
use Rattle.bank_model.specs.History.{begun}
use Rattle.bank_laws.proofs.Lines.{Stands}
use Rattle.right_runs.specs.Queued.{QueuedWrite, merging, queued_after}

-- a write with the number of its row
pub record Numbered (n : ℕ) : Type 0 where
  pub row : ℕ
  pub write : QueuedWrite n

module _ {n : ℕ} where
  -- one that is merged with another gives it its place
  abbrev pub fits : ℕ → Numbered n → Bool
  fits line old = old.write.line == line && is_merged old.write.outcome

  abbrev pub merging_as : Numbered n → Numbered n → Numbered n
  merging_as w old = record { row = w.row; write = merging w.write old.write }

  abbrev pub put : Numbered n → List (Numbered n) → List (Numbered n)
  put w [] = w ∷ []
  put w (old ∷ ws) = cond (fits w.write.line old) (merging_as w old ∷ ws) (old ∷ put w ws)

  -- without the numbers
  abbrev pub writes : List (Numbered n) → List (QueuedWrite n)
  writes [] = []
  writes (w ∷ ws) = w.write ∷ writes ws

  pub writes-put : (w : Numbered n) (ws : List (Numbered n)) → writes (put w ws) ≡ queued_after w.write (writes ws)
  writes-put w [] = refl
  writes-put w (old ∷ ws) = by (fits w.write.line old) (writes-put w ws)
    where
      by : (b : Bool) → writes (put w ws) ≡ queued_after w.write (writes ws)
          → writes (cond b (merging_as w old ∷ ws) (old ∷ put w ws)) ≡ cond b (merging w.write old.write ∷ writes ws) (old.write ∷ queued_after w.write (writes ws))
      by true ih = refl
      by false ih = ap (λ rest. old.write ∷ rest) ih

  abbrev pub Each : (Numbered n → Type 0) → List (Numbered n) → Type 0
  Each P [] = Unit {0}
  Each P (w ∷ ws) = P w × Each P ws

  pub each-map : (P Q : Numbered n → Type 0) → ((w : Numbered n) → P w → Q w) → (ws : List (Numbered n)) → Each P ws → Each Q ws
  each-map P Q f [] all = tt
  each-map P Q f (w ∷ ws) all = (f w all.0, each-map P Q f ws all.1)

  pub each-both : (P Q : Numbered n → Type 0) (ws : List (Numbered n)) → Each P ws → Each Q ws → Each (λ w. P w × Q w) ws
  each-both P Q [] ps qs = tt
  each-both P Q (w ∷ ws) ps qs = ((ps.0, qs.0), each-both P Q ws ps.1 qs.1)

  -- these entries are those of the writes that aren't gone, in the same order
  abbrev pub Match : (ℕ → Type 0) → List (Entry n) → List (Numbered n) → Type 0
  Match gone es [] = es ≡ []
  Match gone es (w ∷ ws) =
      (gone w.row × Match gone es ws)
      ⊎ ((e : Entry n) × (rest : List (Entry n)) × (es ≡ e ∷ rest) × (e.row ≡ w.row) × (e.line ≡ w.write.line) × Match gone rest ws)

  -- a write stands, or is gone
  pub match-stands : (gone : ℕ → Type 0) (es : List (Entry n)) (ws : List (Numbered n)) → Match gone es ws → Each (λ w. Stands es w.row w.write.line ⊎ gone w.row) ws
  match-stands gone es [] m = tt
  match-stands gone es (w ∷ ws) (inl m) = (inr m.0, match-stands gone es ws m.1)
  match-stands gone es (w ∷ ws) (inr m) =
      let at : Stands es w.row w.write.line = subst (λ (q : List (Entry n)). Stands q w.row w.write.line) (sym m.2) (inl (m.3, m.4)) in
      (inl at, each-map _ _ (λ v s. by v s) ws (match-stands gone m.1 ws m.5))
    where
      by : (v : Numbered n) → Stands m.1 v.row v.write.line ⊎ gone v.row → Stands es v.row v.write.line ⊎ gone v.row
      by v (inl s) = inl (subst (λ (q : List (Entry n)). Stands q v.row v.write.line) (sym m.2) (inr s))
      by v (inr g) = inr g

  module _ (gone after : ℕ → Type 0) (stay : (row : ℕ) → gone row → after row) where
    pub match-stays : (es : List (Entry n)) (ws : List (Numbered n)) → Match gone es ws → Match after es ws
    match-stays es [] m = m
    match-stays es (w ∷ ws) (inl m) = inl (stay w.row m.0, match-stays es ws m.1)
    match-stays es (w ∷ ws) (inr m) = inr (m.0, m.1, m.2, m.3, m.4, match-stays m.1 ws m.5)

    -- a new entry
    match-push : (es : List (Entry n)) (ws : List (Numbered n)) (e : Entry n) (w : Numbered n) → e.row ≡ w.row → e.line ≡ w.write.line → Match gone es ws
        → Match after (es ++ e ∷ []) (ws ++ w ∷ [])
    match-push es [] e w row line m = inr (e, [], ap (λ (q : List (Entry n)). q ++ e ∷ []) m, row, line, refl)
    match-push es (v ∷ ws) e w row line (inl m) = inl (stay v.row m.0, match-push es ws e w row line m.1)
    match-push es (v ∷ ws) e w row line (inr m) =
        inr (m.0, m.1 ++ e ∷ [], ap (λ (q : List (Entry n)). q ++ e ∷ []) m.2, m.3, m.4, match-push m.1 ws e w row line m.5)

    -- a write that fits nowhere goes last
    put-last : (w : Numbered n) (ws : List (Numbered n)) → Each (λ v. fits w.write.line v ≡ false) ws → put w ws ≡ ws ++ w ∷ []
    put-last w [] none = refl
    put-last w (v ∷ ws) none =
        ap (λ b. cond b (merging_as w v ∷ ws) (v ∷ put w ws)) none.0 ∙ ap (λ rest. v ∷ rest) (put-last w ws none.1)

    pub match-accepted : (es : List (Entry n)) (ws : List (Numbered n)) (e : Entry n) (w : Numbered n) → e.row ≡ w.row → e.line ≡ w.write.line
        → Each (λ v. fits w.write.line v ≡ false) ws → Match gone es ws → Match after (es ++ e ∷ []) (put w ws)
    match-accepted es ws e w row line none m =
        subst (λ (l : List (Numbered n)). Match after (es ++ e ∷ []) l) (sym (put-last w ws none)) (match-push es ws e w row line m)

    -- the head goes
    pub match-drop : (e : Entry n) (es : List (Entry n)) (ws : List (Numbered n)) → after e.row → Match gone (e ∷ es) ws → Match after es ws
    match-drop e es [] goes m = absurd (cc)
    match-drop e es (w ∷ ws) goes (inl m) = inl (stay w.row m.0, match-drop e es ws goes m.1)
    match-drop e es (w ∷ ws) goes (inr m) =
        let head : m.0 ≡ e = cc m.2 in
        let rest : m.1 ≡ es = cc m.2 in
        inl (
          subst (λ row. after row) (ap (λ (x : Entry n). x.row) (sym head) ∙ m.3) goes,
          subst (λ (q : List (Entry n)). Match after q ws) rest (match-stays m.1 ws m.5),
        )

    -- a store of it is begun
    pub match-begun : (due : Option ℕ) (f : ℕ → List ℕ) (es : List (Entry n)) (ws : List (Numbered n)) → Match gone es ws → Match after (begun due f es) ws
    match-begun (Some region) f es ws m = match-stays es ws m
    match-begun None f [] ws m = match-stays [] ws m
    match-begun None f (e ∷ es) [] m = absurd (cc)
    match-begun None f (e ∷ es) (w ∷ ws) (inl m) = inl (stay w.row m.0, match-begun None f (e ∷ es) ws m.1)
    match-begun None f (e ∷ es) (w ∷ ws) (inr m) =
        let head : m.0 ≡ e = cc m.2 in
        let rest : m.1 ≡ es = cc m.2 in
        inr (
          completed_by (f e.line) e,
          es,
          refl,
          ap (λ (x : Entry n). x.row) (sym head) ∙ m.3,
          ap (λ (x : Entry n). x.line) (sym head) ∙ m.4,
          subst (λ (q : List (Entry n)). Match after q ws) rest (match-stays m.1 ws m.5),
        )

    -- a write is merged into the entry of a row, which alone fits
    module _ (w : Numbered n) (old : ℕ) (bytes : List ℕ) (given : List Bool) (unlike : (row : ℕ) → gone row → eqb row old ≡ false) where
      none-fits : (v : Numbered n) → gone v.row → fits w.write.line v ≡ eqb v.row old → fits w.write.line v ≡ false
      none-fits v g is = is ∙ unlike v.row g

      pub match-merged : (es : List (Entry n)) (ws : List (Numbered n)) → Each (λ v. fits w.write.line v ≡ eqb v.row old) ws
          → Stands es old w.write.line → Match gone es ws → Match after (merged old w.row bytes given es) (put w ws)
      match-merged es [] only s m = absurd (subst (λ (q : List (Entry n)). Stands q old w.write.line) m s)
      match-merged es (v ∷ ws) only s (inl m) =
          subst (λ b. Match after (merged old w.row bytes given es) (cond b (merging_as w v ∷ ws) (v ∷ put w ws))) (sym (none-fits v m.0 only.0))
          (inl (stay v.row m.0, match-merged es ws only.1 s m.1))
      match-merged es (v ∷ ws) only s (inr m) =
          subst (λ (q : List (Entry n)). Match after (merged old w.row bytes given q) (put w (v ∷ ws))) (sym m.2)
          (by (eqb m.0.row old) refl (λ rest. match-merged m.1 ws only.1 rest m.5) (subst (λ (q : List (Entry n)). Stands q old w.write.line) m.2 s) (only.0 ∙ ap (λ r. eqb r old) (sym m.3)))
        where
          by : (b : Bool) → eqb m.0.row old ≡ b → (Stands m.1 old w.write.line → Match after (merged old w.row bytes given m.1) (put w ws))
              → Stands (m.0 ∷ m.1) old w.write.line → fits w.write.line v ≡ eqb m.0.row old
              → Match after (cond b (laid_on w.row bytes given m.0 ∷ m.1) (m.0 ∷ merged old w.row bytes given m.1)) (put w (v ∷ ws))
          by true is go s only_v =
              let at : w.write.line ≡ v.write.line = sym (eqb-true v.write.line w.write.line (and_first (v.write.line == w.write.line) (is_merged v.write.outcome) (only_v ∙ is))) in
              subst (λ b. Match after (laid_on w.row bytes given m.0 ∷ m.1) (cond b (merging_as w v ∷ ws) (v ∷ put w ws))) (sym (only_v ∙ is))
              (inr (laid_on w.row bytes given m.0, m.1, refl, refl, m.4 ∙ sym at, match-stays m.1 ws m.5))
          by false is go s only_v =
              subst (λ b. Match after (m.0 ∷ merged old w.row bytes given m.1) (cond b (merging_as w v ∷ ws) (v ∷ put w ws))) (sym (only_v ∙ is))
              (inr (m.0, merged old w.row bytes given m.1, refl, m.3, m.4, go (behind s)))
            where
              behind : Stands (m.0 ∷ m.1) old w.write.line → Stands m.1 old w.write.line
              behind (inl at) = absurd (cc (is, eq-eqb m.0.row old at.0))
              behind (inr rest) = rest

  -- what holds of each write, holds of those behind one more
  module _ (P Q : Numbered n → Type 0) (stay : (v : Numbered n) → P v → Q v) (w : Numbered n) where
    pub each-accepted : (ws : List (Numbered n)) → Each (λ v. fits w.write.line v ≡ false) ws → Q w → Each P ws → Each Q (put w ws)
    each-accepted [] none own all = (own, tt)
    each-accepted (v ∷ ws) none own all =
        subst (λ b. Each Q (cond b (merging_as w v ∷ ws) (v ∷ put w ws))) (sym none.0) (stay v all.0, each-accepted ws none.1 own all.1)

    module _ (gone : ℕ → Type 0) (old : ℕ) (unlike : (row : ℕ) → gone row → eqb row old ≡ false) (own : (v : Numbered n) → P v → v.row ≡ old → Q (merging_as w v)) where
      pub each-merged : (es : List (Entry n)) (ws : List (Numbered n)) → Each (λ v. fits w.write.line v ≡ eqb v.row old) ws → has_row es old ≡ true → Match gone es ws
          → Each P ws → Each Q (put w ws)
      each-merged es [] only there m all = absurd (cc (ap (λ (q : List (Entry n)). has_row q old) m, there))
      each-merged es (v ∷ ws) only there (inl m) all =
          subst (λ b. Each Q (cond b (merging_as w v ∷ ws) (v ∷ put w ws))) (sym (only.0 ∙ unlike v.row m.0)) (stay v all.0, each-merged es ws only.1 there m.1 all.1)
      each-merged es (v ∷ ws) only there (inr m) all =
          by (eqb v.row old) refl
          (λ isnt.
          each-merged m.1 ws only.1 (or_rest (m.0.row == old) (has_row m.1 old) (ap (λ r. eqb r old) m.3 ∙ isnt) (subst (λ (q : List (Entry n)). has_row q old ≡ true) m.2 there)) m.5 all.1)
        where
          by : (b : Bool) → eqb v.row old ≡ b → (eqb v.row old ≡ false → Each Q (put w ws)) → Each Q (put w (v ∷ ws))
          by true is rest =
              subst (λ b. Each Q (cond b (merging_as w v ∷ ws) (v ∷ put w ws))) (sym (only.0 ∙ is)) (own v all.0 (eqb-true v.row old is), each-map P Q stay ws all.1)
          by false is rest = subst (λ b. Each Q (cond b (merging_as w v ∷ ws) (v ∷ put w ws))) (sym (only.0 ∙ is)) (stay v all.0, rest is)
