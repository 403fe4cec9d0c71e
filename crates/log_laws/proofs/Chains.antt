-- The senses of one line, one after the other.
use Rattle.std.proofs.Common.{◌≡◌, ℕ, ◌+◌, ◌==◌, ◌&&◌, ◌||◌, not, Bool, true, false, List, [], ◌∷◌, ◌++◌, refl, sym, ap, ◌∙◌, subst, eq-eqb}
use Rattle.std.{specs.List.list_any, specs.Prelude.{nat_le, nat_lt, All}, proofs.lemmas.Bool.{and_from, or_left, or_right}, proofs.lemmas.List.Elements.{All-head, All-tail}}
use Rattle.masked_bytes.proofs.Truth.{and_first, and_second}
use Rattle.cell_rows.specs.declared.array.Sense.{Sense}
use Rattle.row_rules.specs.{Wearing.worn_row, declared.Row.Row, declared.Rules.Rules}
use Rattle.right_runs.specs.Logs.{is_broken, follows, tears, follow_on, follow_on_to, begins_unpulsed, begins_unpulsed_to}

-- the last sense of a list that begins with this one
abbrev pub last_of : {n m : ℕ} → Sense n m → List (Sense n m) → Sense n m
last_of s [] = s
last_of s (t ∷ ts) = last_of t ts

pub last_of-more : {n m : ℕ} (s : Sense n m) (ss : List (Sense n m)) (t : Sense n m) (ts : List (Sense n m)) → last_of s (ss ++ t ∷ ts) ≡ last_of t ts
last_of-more s [] t ts = refl
last_of-more s (r ∷ ss) t ts = last_of-more r ss t ts

pub last_of-all : {n m : ℕ} (P : Sense n m → Type 0) (s : Sense n m) (ss : List (Sense n m)) → P s → All P ss → P (last_of s ss)
last_of-all P s [] p a = p
last_of-all P s (t ∷ ts) p a = last_of-all P t ts (All-head P t ts a) (All-tail P t ts a)

module _ {n m : ℕ} (rules : Rules) (rows : List (Row n)) (wears : Bool) where
  pub same_follows : (s t : Sense n m) → s.pulses ≡ t.pulses → follows rules rows wears s t ≡ true
  same_follows s t is = or_left (s.pulses == t.pulses) _ (eq-eqb s.pulses t.pulses is)

  -- a sense after one more pulse
  pub step_follows : (s t : Sense n m) → s.pulses + 1 ≡ t.pulses → (nat_le (s.tick + rules.iter_ticks) t.tick || is_broken rules rows s.tick t.tick) ≡ true
      → (wears && list_any (λ r. worn_row r && nat_lt r.tick t.tick) rows) ≡ false → follows rules rows wears s t ≡ true
  step_follows s t up apart fine =
      or_right (s.pulses == t.pulses) _ (and_from (s.pulses + 1 == t.pulses) _ (eq-eqb (s.pulses + 1) t.pulses up)
      (and_from (nat_le (s.tick + rules.iter_ticks) t.tick || is_broken rules rows s.tick t.tick) _ apart (ap not fine)))

  -- each of these senses follows the one before
  abbrev pub Follow : Sense n m → List (Sense n m) → Type 0
  Follow s ss = follow_on rules rows wears ((last_of s ss).pulses) s ss ≡ true

  follow-one : (s : Sense n m) (ss : List (Sense n m)) (t : Sense n m) → Follow s ss → follows rules rows wears (last_of s ss) t ≡ true
      → follow_on rules rows wears t.pulses s (ss ++ t ∷ []) ≡ true
  follow-one s [] t f k = and_from (follows rules rows wears s t) _ k (eq-eqb t.pulses t.pulses refl)
  follow-one s (r ∷ ss) t f k =
      and_from (follows rules rows wears s r) _ (and_first (follows rules rows wears s r) _ f) (follow-one r ss t (and_second (follows rules rows wears s r) _ f) k)

  same_chain : (p : ℕ) (s : Sense n m) (ts : List (Sense n m)) → s.pulses ≡ p → All (λ t. t.pulses ≡ p) ts → follow_on rules rows wears p s ts ≡ true
  same_chain p s [] is a = eq-eqb s.pulses p is
  same_chain p s (t ∷ ts) is a =
      let here : t.pulses ≡ p = All-head (λ (t : Sense n m). t.pulses ≡ p) t ts a in
      and_from (follows rules rows wears s t) _ (same_follows s t (is ∙ sym here)) (same_chain p t ts here (All-tail (λ (t : Sense n m). t.pulses ≡ p) t ts a))

  -- more senses with the same pulses
  pub follow-same : (p : ℕ) (s : Sense n m) (ss ts : List (Sense n m)) → Follow s ss → (last_of s ss).pulses ≡ p → All (λ t. t.pulses ≡ p) ts
      → follow_on rules rows wears p s (ss ++ ts) ≡ true
  follow-same p s [] ts f is a = same_chain p s ts is a
  follow-same p s (r ∷ ss) ts f is a =
      and_from (follows rules rows wears s r) _ (and_first (follows rules rows wears s r) _ f) (follow-same p r ss ts (and_second (follows rules rows wears s r) _ f) is a)

  -- more senses of one event
  pub follow-more : (p : ℕ) (s : Sense n m) (ss : List (Sense n m)) (t : Sense n m) (ts : List (Sense n m)) → Follow s ss
      → follows rules rows wears (last_of s ss) t ≡ true → t.pulses ≡ p → All (λ t. t.pulses ≡ p) ts → follow_on rules rows wears p s (ss ++ t ∷ ts) ≡ true
  follow-more p s [] t ts f k is a = and_from (follows rules rows wears s t) _ k (same_chain p t ts is a)
  follow-more p s (r ∷ ss) t ts f k is a =
      and_from (follows rules rows wears s r) _ (and_first (follows rules rows wears s r) _ f) (follow-more p r ss t ts (and_second (follows rules rows wears s r) _ f) k is a)

  -- the first senses of a line
  pub begin-same : (p : ℕ) (ts : List (Sense n m)) → p ≡ 0 → All (λ t. t.pulses ≡ p) ts → begins_unpulsed rules rows wears p ts ≡ true
  begin-same p [] is a = eq-eqb p 0 is
  begin-same p (t ∷ ts) is a =
      let here : t.pulses ≡ p = All-head (λ (t : Sense n m). t.pulses ≡ p) t ts a in
      and_from (t.pulses == 0) _ (eq-eqb t.pulses 0 (here ∙ is)) (same_chain p t ts here (All-tail (λ (t : Sense n m). t.pulses ≡ p) t ts a))

  -- senses that are alike
  pub follow-alike : (p : ℕ) (t : Sense n m) (ts : List (Sense n m)) → t.pulses ≡ p → All (λ t. t.pulses ≡ p) ts → Follow t ts
  follow-alike p t ts is a =
      subst (λ k. follow_on rules rows wears k t ts ≡ true) (sym (last_of-all (λ (t : Sense n m). t.pulses ≡ p) t ts is a)) (same_chain p t ts is a)

  -- a chain of senses is one where the power is off, too
  pub follow-off : (off : Bool) (p : ℕ) (s : Sense n m) (ss : List (Sense n m)) → follow_on rules rows wears p s ss ≡ true → follow_on_to rules rows off wears p s ss ≡ true
  follow-off off p s [] f = or_right _ _ f
  follow-off off p s (t ∷ ts) f =
      or_right _ _ (and_from (follows rules rows wears s t) _ (and_first (follows rules rows wears s t) _ f) (follow-off off p t ts (and_second (follows rules rows wears s t) _ f)))

  pub begin-off : (off : Bool) (p : ℕ) (ss : List (Sense n m)) → begins_unpulsed rules rows wears p ss ≡ true → begins_unpulsed_to rules rows off wears p ss ≡ true
  begin-off off p [] f = f
  begin-off off p (s ∷ ss) f = and_from (s.pulses == 0) _ (and_first (s.pulses == 0) _ f) (follow-off off p s ss (and_second (s.pulses == 0) _ f))

  -- one that ends with a torn pulse
  pub torn-end : (p : ℕ) (s : Sense n m) (ss ts : List (Sense n m)) → Follow s ss → tears rules rows p (last_of s ss) ts ≡ true
      → follow_on_to rules rows true wears p s (ss ++ ts) ≡ true
  torn-end p s [] [] f torn = or_left _ _ torn
  torn-end p s [] (t ∷ ts) f torn = or_left _ _ torn
  torn-end p s (r ∷ ss) ts f torn =
      or_right _ _ (and_from (follows rules rows wears s r) _ (and_first (follows rules rows wears s r) _ f) (torn-end p r ss ts (and_second (follows rules rows wears s r) _ f) torn))
