-- Of the writes that stand at most two have one line, and a refused write finds at most one of its line.
use Rattle.std.proofs.Common.{◌≡◌, ℕ, ◌<◌, ◌≤◌, ◌==◌, ◌⊎◌, inl, inr, not, Bool, true, false, List, [], ◌∷◌, refl, sym, ap, ◌∙◌, subst, arith, cond, eqb-true}
use Rattle.std.{specs.List.list_all, specs.Prelude.{nat_lt, filter}, proofs.lemmas.Bool.{lt-ltb, le-ltb, and_from}}
use Rattle.masked_bytes.{specs.declared.entry.Entry.Entry, proofs.Truth.and_first}
use Rattle.result_rows.specs.declared.Outcome.{Outcome}
use Rattle.result_rows.specs.declared.Outcome.TheVariants as out
use Rattle.row_rules.specs.{Answers.{accepts, is_merged, is_stored, stored_before}, Queueing.{none_before, is_older, has_few, pairs_few, is_refused}, Rows.{accepted_of, write_of}}
use Rattle.row_rules.specs.declared.Row.{Row}
use Rattle.bank_shape.specs.declared.BankShape.{BankShape}
use Rattle.bank_model.specs.{History.queue, Timing.{TimedEvent, core}, Told.tick_of_row}
use Rattle.bank_laws.{specs.Outcomes.{outcome_of, ended}, specs.Pairs.{has_line, LinesApart, ArePaired}, specs.Settling.AreOpen, proofs.Answering.{IsHead, head-there}}
use Rattle.bank_laws.proofs.Lines.{Stands, Covered, stands-row, stands-line, covered-stands}
use Rattle.queue_laws.proofs.{First.{NoneStored, NoneBelow, First, LeftAt}, Order.Leads, Written.{Written, item_of, items, Each, NumbersFall, numbers-more, IsEntry}}

-- a filtered list, by whether its first passes
pub filtered : {A : Type 0} (p : A → Bool) (x : A) (xs : List A) (P : List A → Type 0) → (p x ≡ true → P (x ∷ filter p xs)) → (p x ≡ false → P (filter p xs)) → P (filter p (x ∷ xs))
filtered {A} p x xs P pass fail = by (p x) pass fail
  where
    by : (b : Bool) → (b ≡ true → P (x ∷ filter p xs)) → (b ≡ false → P (filter p xs)) → P (cond b (x ∷ filter p xs) (filter p xs))
    by b pass fail = grind arith

module _ {n : ℕ} where
  apart_one : (es : List (Entry n)) (a b line : ℕ) → LinesApart es → Stands es a line → Stands es b line → a ≡ b
  apart_one [] a b line apart s t = absurd s
  apart_one (e ∷ es) a b line apart (inl s) (inl t) = sym s.0 ∙ t.0
  apart_one (e ∷ es) a b line apart (inl s) (inr t) = absurd (cc (subst (λ k. has_line es k ≡ false) s.1 apart.0, stands-line es b line t))
  apart_one (e ∷ es) a b line apart (inr s) (inl t) = absurd (cc (subst (λ k. has_line es k ≡ false) t.1 apart.0, stands-line es a line s))
  apart_one (e ∷ es) a b line apart (inr s) (inr t) = apart_one es a b line apart.1 s t

  -- of two entries of one line the lower is the head, and came before
  pair_first : (f : ℕ → ℕ) (es : List (Entry n)) (newer older line : ℕ) → ArePaired es → Leads f es → Stands es newer line → Stands es older line → older < newer
      → IsHead es older × Covered es older line × (f older < f newer)
  pair_first f [] newer older line p l s t lt = absurd s
  pair_first f (e ∷ es) newer older line p l (inl s) (inl t) lt = absurd (omega (arith, s.0, t.0, lt))
  pair_first f (e ∷ es) newer older line p l (inl s) (inr t) lt =
      let k = l older (subst (λ k. Stands es older k) (sym s.1) t) in absurd (omega (arith, s.0, k.0, lt))
  pair_first f (e ∷ es) newer older line p l (inr s) (inl t) lt =
      let k = l newer (subst (λ k. Stands es newer k) (sym t.1) s) in
      (sym t.0, inl (t.0, t.1, stands-line es newer line s), subst (λ r. f r < f newer) t.0 k.1)
  pair_first f (e ∷ es) newer older line p l (inr s) (inr t) lt =
      let same : newer ≡ older = apart_one es newer older line p.0 s t in absurd (omega (arith, same, lt))

  -- and there is no third
  pair_only : (es : List (Entry n)) (newer older third line : ℕ) → ArePaired es → IsHead es older → Stands es newer line → Stands es third line → older < newer → third < older → ⊥
  pair_only [] newer older third line p h s t lt less = h
  pair_only (e ∷ es) newer older third line p h (inl s) t lt less = omega (arith, s.0, h, lt)
  pair_only (e ∷ es) newer older third line p h (inr s) (inl t) lt less = omega (arith, t.0, h, less)
  pair_only (e ∷ es) newer older third line p h (inr s) (inr t) lt less = let same : newer ≡ third = apart_one es newer third line p.0 s t in omega (arith, same, lt, less)

  head_one : (es : List (Entry n)) (a b : ℕ) → IsHead es a → IsHead es b → a ≡ b
  head_one [] a b h k = absurd h
  head_one (e ∷ es) a b h k = h ∙ sym k

  pub not_stored_ended : (tick : ℕ) (o : Outcome n) → ((u p : ℕ) → o ≡ out.Stored u p → ⊥) → not (is_stored (ended tick o)) ≡ true
  not_stored_ended tick (out.Stored at place) h = absurd (h at place refl)
  not_stored_ended tick _ h = refl

  pub not_before_ended : (tick v : ℕ) (o : Outcome n) → ((u p : ℕ) → o ≡ out.Stored u p → v ≤ u) → not (stored_before v (ended tick o)) ≡ true
  not_before_ended tick v (out.Stored at place) h = ap not (le-ltb at v (h at place refl))
  not_before_ended tick v _ h = refl

-- what holds of a queue by now, and of its rows in the end
pub record StandsWell {n m : ℕ} (shape : BankShape) (all now : List (TimedEvent n m)) : Type 0 where
  pub open_now : AreOpen shape now
  pub open_all : AreOpen shape all
  pub paired : ArePaired (queue shape (core now))
  pub leads : Leads (λ row. tick_of_row row now) (queue shape (core now))
  pub first : (row : ℕ) → IsHead (queue shape (core now)) row → First shape now all row
  pub covered : (row line : ℕ) → Covered (queue shape (core now)) row line → Covered (queue shape (core all)) row line ⊎ ((u : ℕ) × (p : ℕ) × (outcome_of shape all row ≡ out.Stored u p))

module _ {n m : ℕ} (shape : BankShape) (all now : List (TimedEvent n m)) (k : StandsWell shape all now) where
  pub entry_unset : (w : Written n) → IsEntry shape all now w → outcome_of shape now w.row ≡ out.Unset
  entry_unset w is = k.open_now.queued w.row (stands-row (queue shape (core now)) w.row w.line is.there)

  none_stored : (ws : List (Written n)) → Each (λ w. IsEntry shape all now w) ws → NoneStored shape now (outcome_of shape all) → list_all (λ (q : Row n). not (is_stored q.outcome)) (items ws) ≡ true
  none_stored [] each none = refl
  none_stored (w ∷ ws) each none =
      and_from (not (is_stored w.outcome)) _
      (ap (λ (o : Outcome n). not (is_stored o)) each.0.fate ∙ not_stored_ended w.tick (outcome_of shape all w.row) (λ u p s. none w.row u p (entry_unset w each.0) s))
      (none_stored ws each.1 none)

  none_below : (v : ℕ) (ws : List (Written n)) → Each (λ w. IsEntry shape all now w) ws → NoneBelow shape now v (outcome_of shape all) → list_all (λ (q : Row n). not (stored_before v q.outcome)) (items ws) ≡ true
  none_below v [] each none = refl
  none_below v (w ∷ ws) each none =
      and_from (not (stored_before v w.outcome)) _
      (ap (λ (o : Outcome n). not (stored_before v o)) each.0.fate ∙ not_before_ended w.tick v (outcome_of shape all w.row) (λ u p s. none w.row u p (entry_unset w each.0) s))
      (none_below v ws each.1 none)

  -- before the head leaves no other is stored
  head_before : (w : Written n) (ws : List (Written n)) → IsEntry shape all now w → Each (λ w. IsEntry shape all now w) ws → IsHead (queue shape (core now)) w.row → none_before w.outcome (items ws) ≡ true
  head_before w ws is each head = ap (λ (o : Outcome n). none_before o (items ws)) is.fate ∙ by (k.first w.row head)
    where
      left : (v : ℕ) → LeftAt (outcome_of shape all w.row) v → NoneBelow shape now v (outcome_of shape all) → none_before (ended w.tick (outcome_of shape all w.row)) (items ws) ≡ true
      left v (inl merged) none = ap (λ (o : Outcome n). none_before (ended w.tick o) (items ws)) merged ∙ none_below v ws each none
      left v (inr stored) none = ap (λ (o : Outcome n). none_before (ended w.tick o) (items ws)) stored.1 ∙ none_below v ws each none

      by : First shape now all w.row → none_before (ended w.tick (outcome_of shape all w.row)) (items ws) ≡ true
      by (inl still) =
          ap (λ (o : Outcome n). none_before (ended w.tick o) (items ws)) (k.open_all.queued w.row (head-there (queue shape (core all)) w.row still.0)) ∙ none_stored ws each still.1
      by (inr gone) = left gone.0 gone.1 gone.3

  covered_not_merged : (w : Written n) (line : ℕ) → IsEntry shape all now w → Covered (queue shape (core now)) w.row line → not (is_merged w.outcome) ≡ true
  covered_not_merged w line is c = ap (λ (o : Outcome n). not (is_merged o)) is.fate ∙ by (k.covered w.row line c)
    where
      by : Covered (queue shape (core all)) w.row line ⊎ ((u : ℕ) × (p : ℕ) × (outcome_of shape all w.row ≡ out.Stored u p)) → not (is_merged (ended w.tick (outcome_of shape all w.row))) ≡ true
      by (inl c) = ap (λ (o : Outcome n). not (is_merged (ended w.tick o))) (k.open_all.queued w.row (stands-row (queue shape (core all)) w.row line (covered-stands (queue shape (core all)) w.row line c)))
      by (inr s) = ap (λ (o : Outcome n). not (is_merged (ended w.tick o))) s.2

  -- the lower of two entries of one line is older, as said
  is_elder : (newer older : Written n) (ws : List (Written n)) → IsEntry shape all now newer → IsEntry shape all now older → Each (λ w. IsEntry shape all now w) ws → older.line ≡ newer.line → older.row < newer.row
      → is_older (items ws) (item_of newer) (item_of older) ≡ true
  is_elder newer older ws is was each line lt =
      let f : IsHead (queue shape (core now)) older.row × Covered (queue shape (core now)) older.row newer.line × (tick_of_row older.row now < tick_of_row newer.row now) =
      pair_first (λ row. tick_of_row row now) (queue shape (core now)) newer.row older.row newer.line k.paired k.leads is.there (subst (λ l. Stands (queue shape (core now)) older.row l) line was.there) lt in
      and_from (nat_lt older.tick newer.tick) _ (lt-ltb older.tick newer.tick (omega (arith, f.2, is.came, was.came)))
      (and_from (not (is_merged older.outcome)) _ (covered_not_merged older newer.line was f.1) (head_before older ws was each f.0))

  no_third : (newer older : Written n) (vs : List (Written n)) → IsEntry shape all now newer → IsEntry shape all now older → Each (λ w. IsEntry shape all now w) vs → older.line ≡ newer.line → older.row < newer.row
      → NumbersFall vs older.row → filter (accepted_of newer.line) (items vs) ≡ []
  no_third newer older [] is was each line lt fall = refl
  no_third newer older (v ∷ vs) is was each line lt fall =
      filtered (accepted_of newer.line) (item_of v) (items vs) (λ rows. rows ≡ [])
      (λ hit.
      let own : v.line ≡ newer.line = eqb-true v.line newer.line (and_first (v.line == newer.line) (accepts v.outcome) hit) in
      let f = pair_first (λ row. tick_of_row row now) (queue shape (core now)) newer.row older.row newer.line k.paired k.leads is.there (subst (λ l. Stands (queue shape (core now)) older.row l) line was.there) lt in
      absurd (pair_only (queue shape (core now)) newer.row older.row v.row newer.line k.paired f.0 is.there (subst (λ l. Stands (queue shape (core now)) v.row l) own each.0.there) lt fall.0))
      (λ miss. no_third newer older vs is was each.1 line lt (numbers-more vs v.row older.row (omega (arith, fall.0)) fall.1))

  few : (newer : Written n) (vs ws : List (Written n)) → IsEntry shape all now newer → Each (λ w. IsEntry shape all now w) vs → Each (λ w. IsEntry shape all now w) ws → NumbersFall vs newer.row
      → has_few (items ws) (item_of newer) (filter (accepted_of newer.line) (items vs)) ≡ true
  few newer [] ws is each whole fall = refl
  few newer (v ∷ vs) ws is each whole fall =
      filtered (accepted_of newer.line) (item_of v) (items vs) (λ rows. has_few (items ws) (item_of newer) rows ≡ true)
      (λ hit.
      let own : v.line ≡ newer.line = eqb-true v.line newer.line (and_first (v.line == newer.line) (accepts v.outcome) hit) in
      subst (λ rows. has_few (items ws) (item_of newer) (item_of v ∷ rows) ≡ true) (sym (no_third newer v vs is each.0 each.1 own fall.0 fall.1)) (is_elder newer v ws is each.0 whole own fall.0))
      (λ miss. few newer vs ws is each.1 whole (numbers-more vs v.row newer.row (omega (arith, fall.0)) fall.1))

  -- at most two of the writes that stand have one line, and two only as said
  pub pairs_are_few : (vs ws : List (Written n)) (bound : ℕ) → Each (λ w. IsEntry shape all now w) vs → Each (λ w. IsEntry shape all now w) ws → NumbersFall vs bound → pairs_few (items ws) (items vs) ≡ true
  pairs_are_few [] ws bound each whole fall = refl
  pairs_are_few (v ∷ vs) ws bound each whole fall =
      and_from (has_few (items ws) (item_of v) (filter (accepted_of v.line) (items vs))) _ (few v vs ws each.0 each.1 whole fall.1) (pairs_are_few vs ws v.row each.1 whole fall.1)

  -- where only the head has a line, and came before a tick
  abbrev pub HeadAlone : ℕ → ℕ → Type 0
  HeadAlone line tick = (row : ℕ) → Stands (queue shape (core now)) row line → IsHead (queue shape (core now)) row × (tick_of_row row now < tick)

  no_second : (line tick : ℕ) (w : Written n) (vs : List (Written n)) → HeadAlone line tick → IsHead (queue shape (core now)) w.row → Each (λ w. IsEntry shape all now w) vs → NumbersFall vs w.row → filter (write_of line) (items vs) ≡ []
  no_second line tick w [] alone head each fall = refl
  no_second line tick w (v ∷ vs) alone head each fall =
      filtered (write_of line) (item_of v) (items vs) (λ rows. rows ≡ [])
      (λ hit.
      let own = alone v.row (subst (λ l. Stands (queue shape (core now)) v.row l) (eqb-true v.line line hit) each.0.there) in
      let same : v.row ≡ w.row = head_one (queue shape (core now)) v.row w.row own.0 head in absurd (omega (arith, same, fall.0)))
      (λ miss. no_second line tick w vs alone head each.1 (numbers-more vs v.row w.row (omega (arith, fall.0)) fall.1))

  -- a refused write finds no other write of the line, or the head
  pub refusal : (line tick : ℕ) (vs ws : List (Written n)) (bound : ℕ) → HeadAlone line tick → Each (λ w. IsEntry shape all now w) vs → Each (λ w. IsEntry shape all now w) ws → NumbersFall vs bound
      → is_refused tick (items ws) (filter (write_of line) (items vs)) ≡ true
  refusal line tick [] ws bound alone each whole fall = refl
  refusal line tick (v ∷ vs) ws bound alone each whole fall =
      filtered (write_of line) (item_of v) (items vs) (λ rows. is_refused tick (items ws) rows ≡ true)
      (λ hit.
      let own : IsHead (queue shape (core now)) v.row × (tick_of_row v.row now < tick) = alone v.row (subst (λ l. Stands (queue shape (core now)) v.row l) (eqb-true v.line line hit) each.0.there) in
      subst (λ rows. is_refused tick (items ws) (item_of v ∷ rows) ≡ true) (sym (no_second line tick v vs alone own.0 each.1 fall.1))
      (and_from (nat_lt v.tick tick) _ (lt-ltb v.tick tick (omega (arith, own.1, each.0.came))) (head_before v ws each.0 whole own.0)))
      (λ miss. refusal line tick vs ws v.row alone each.1 whole fall.1)
