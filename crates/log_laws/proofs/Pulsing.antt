-- What the senses of one line have shown after some events: all of its pulses, or all but that of a tear, whose line is the
-- target of the present work.
use Rattle.std.proofs.Common.{◌≡◌, ℕ, ◌≤◌, ◌-◌, ◌^◌, ◌==◌, ◌⊎◌, inl, inr, Bool, true, false, List, [], ◌∷◌, ◌++◌, Some, None, sym, ap, ◌∙◌, subst, arith}
use Rattle.std.{specs.Prelude.All, proofs.lemmas.List.append-nil, proofs.lemmas.List.Elements.{All-head, All-tail, All-weaker, filter-append}}
use Rattle.cell_rows.specs.{Device.counted, declared.array.Sense.Sense}
use Rattle.row_rules.specs.{declared.Row.Row, declared.Rules.Rules}
use Rattle.bank_shape.specs.{declared.BankShape.BankShape, declared.pace.Pace.Pace}
use Rattle.bank_model.specs.{Adding.senses_of, After.target_after, Changes.{change_after, keeping_after, halted_after, line_of_change}, History.in_progress, Running.running}
use Rattle.bank_model.specs.{Sensing.pulses_of, Timing.{TimedEvent, core, last_tick}}
use Rattle.right_runs.specs.Logs.{is_broken, follows, follow_on}
use Rattle.bank_laws.proofs.Targets.{WorkAfter}
use Rattle.log_laws.proofs.{Chains.{last_of, last_of-more, last_of-all, Follow, follow-more, follow-alike}, Firsts.BeganFrom, Owning.own}

module _ {n m : ℕ} (shape : BankShape) (pace : Pace) (rules : Rules) (rows : List (Row n)) (wears : Bool) (line : ℕ) (all : List (TimedEvent n m)) where
  -- the line is that of the line write that is to be begun: the bank's, or that of the change that stands
  abbrev pub Due : List (TimedEvent n m) → Type 0
  Due xs =
      ((change_after shape xs ≡ None) × WorkAfter shape (core xs) × (in_progress (core xs) ≡ false) × (target_after shape (core xs) ≡ line))
      ⊎ ((line_of_change shape (change_after shape xs) ≡ Some line) × (keeping_after xs ≡ false) × (halted_after xs ≡ false))

  -- or that of the line write that is in progress
  abbrev pub Busy : List (TimedEvent n m) → Type 0
  Busy xs =
      ((change_after shape xs ≡ None) × (in_progress (core xs) ≡ true) × (target_after shape (core xs) ≡ line))
      ⊎ ((line_of_change shape (change_after shape xs) ≡ Some line) × (keeping_after xs ≡ true))

  -- the line was torn behind this sense: it is that of the line write that is next
  pub record Torn (xs : List (TimedEvent n m)) (s : Sense n m) : Type 0 where
    pub up : pulses_of xs line ≡ counted s.pulses
    pub few : s.pulses ≤ 2 ^ 64 - 1
    pub due : Due xs
    pub broken : (pre : List (TimedEvent n m)) (z : TimedEvent n m) → all ≡ pre ++ z ∷ xs → (t : ℕ) → last_tick xs ≤ t → is_broken rules rows s.tick t ≡ true

  -- a line that wasn't sensed has no pulses, and is no target of a line write in progress
  pub record Unseen (xs : List (TimedEvent n m)) : Type 0 where
    pub none : own line (senses_of xs) ≡ []
    pub unpulsed : pulses_of xs line ≡ 0
    pub untouched : Busy xs → ⊥

  -- the senses of a line
  pub record Seen (xs : List (TimedEvent n m)) (s : Sense n m) (ss : List (Sense n m)) : Type 0 where
    pub is : own line (senses_of xs) ≡ s ∷ ss
    pub first : s.pulses ≡ 0
    pub follow : Follow rules rows wears s ss
    pub below : (last_of s ss).tick ≤ last_tick xs
    pub before : BeganFrom ((last_of s ss).tick) (running shape pace xs)
    pub now : (pulses_of xs line ≡ (last_of s ss).pulses) ⊎ Torn xs (last_of s ss)

  abbrev pub Shown : List (TimedEvent n m) → Type 0
  Shown xs = Unseen xs ⊎ ((s : Sense n m) × (ss : List (Sense n m)) × Seen xs s ss)

  own-more : (xs : List (TimedEvent n m)) (x : TimedEvent n m) → own line (senses_of (x ∷ xs)) ≡ own line (senses_of xs) ++ own line x.senses
  own-more xs x = filter-append (λ (s : Sense n m). s.line == line) (senses_of xs) x.senses

  own-quiet : (xs : List (TimedEvent n m)) (x : TimedEvent n m) → own line x.senses ≡ [] → own line (senses_of (x ∷ xs)) ≡ own line (senses_of xs)
  own-quiet xs x none = own-more xs x ∙ ap (λ ss. own line (senses_of xs) ++ ss) none ∙ append-nil (own line (senses_of xs))

  -- an event that neither senses nor pulses the line
  pub quiet : (xs : List (TimedEvent n m)) (x : TimedEvent n m) → own line x.senses ≡ [] → pulses_of (x ∷ xs) line ≡ pulses_of xs line → last_tick xs ≤ x.tick
      → ((p : ℕ) → p ≤ last_tick xs → BeganFrom p (running shape pace xs) → BeganFrom p (running shape pace (x ∷ xs)))
      → ((s : Sense n m) → Torn xs s → Torn (x ∷ xs) s) → (Unseen xs → Busy (x ∷ xs) → ⊥)
      → Shown xs → Shown (x ∷ xs)
  quiet xs x none same rises keeps torn untouched (inl u) = inl (record { none = own-quiet xs x none ∙ u.none; unpulsed = same ∙ u.unpulsed; untouched = untouched u })
  quiet xs x none same rises keeps torn untouched (inr v) =
      let s = v.2 in
      inr (
        v.0,
        v.1,
        record {
          is = own-quiet xs x none ∙ s.is;
          first = s.first;
          follow = s.follow;
          below = let le : (last_of v.0 v.1).tick ≤ last_tick xs = s.below in omega (arith, le, rises);
          before = keeps ((last_of v.0 v.1).tick) s.below s.before;
          now = by s.now;
        },
      )
    where
      by : (pulses_of xs line ≡ (last_of v.0 v.1).pulses) ⊎ Torn xs (last_of v.0 v.1) → (pulses_of (x ∷ xs) line ≡ (last_of v.0 v.1).pulses) ⊎ Torn (x ∷ xs) (last_of v.0 v.1)
      by (inl e) = inl (same ∙ e)
      by (inr t) = inr (torn (last_of v.0 v.1) t)

  -- an event that senses the line, once it has pulsed it or not
  pub noted : (xs : List (TimedEvent n m)) (x : TimedEvent n m) (t : Sense n m) (ts : List (Sense n m)) → own line x.senses ≡ t ∷ ts
      → All (λ s. (s.tick ≡ x.tick) × (s.pulses ≡ pulses_of (x ∷ xs) line)) (t ∷ ts) → running shape pace (x ∷ xs) ≡ None
      → (Unseen xs → pulses_of (x ∷ xs) line ≡ 0) → ((s : Sense n m) (ss : List (Sense n m)) → Seen xs s ss → follows rules rows wears (last_of s ss) t ≡ true)
      → Shown xs → Shown (x ∷ xs)
  noted xs x t ts are says ends unseen link shown = by shown
    where
      p : ℕ
      p = pulses_of (x ∷ xs) line

      pulses : All (λ s. s.pulses ≡ p) (t ∷ ts)
      pulses = All-weaker (λ (s : Sense n m). (s.tick ≡ x.tick) × (s.pulses ≡ p)) (λ s. s.pulses ≡ p) (λ s h. h.1) (t ∷ ts) says

      ticks : All (λ s. s.tick ≡ x.tick) (t ∷ ts)
      ticks = All-weaker (λ (s : Sense n m). (s.tick ≡ x.tick) × (s.pulses ≡ p)) (λ s. s.tick ≡ x.tick) (λ s h. h.0) (t ∷ ts) says

      t_pulses : t.pulses ≡ p
      t_pulses = All-head (λ (s : Sense n m). s.pulses ≡ p) t ts pulses

      ts_pulses : All (λ s. s.pulses ≡ p) ts
      ts_pulses = All-tail (λ (s : Sense n m). s.pulses ≡ p) t ts pulses

      last_pulses : (last_of t ts).pulses ≡ p
      last_pulses = last_of-all (λ (s : Sense n m). s.pulses ≡ p) t ts t_pulses ts_pulses

      last_sensed : (last_of t ts).tick ≡ x.tick
      last_sensed =
          last_of-all (λ (s : Sense n m). s.tick ≡ x.tick) t ts (All-head (λ (s : Sense n m). s.tick ≡ x.tick) t ts ticks) (All-tail (λ (s : Sense n m). s.tick ≡ x.tick) t ts ticks)

      began : (k : ℕ) → BeganFrom k (running shape pace (x ∷ xs))
      began k = subst (λ r. BeganFrom k r) (sym ends) tt

      whole : own line (senses_of (x ∷ xs)) ≡ own line (senses_of xs) ++ t ∷ ts
      whole = own-more xs x ∙ ap (λ ss. own line (senses_of xs) ++ ss) are

      by : Shown xs → Shown (x ∷ xs)
      by (inl u) =
          inr (
            t,
            ts,
            record {
              is = whole ∙ ap (λ ss. ss ++ t ∷ ts) u.none;
              first = t_pulses ∙ unseen u;
              follow = follow-alike rules rows wears p t ts t_pulses ts_pulses;
              below = omega (arith, last_sensed);
              before = began ((last_of t ts).tick);
              now = inl (sym last_pulses);
            },
          )
      by (inr v) =
          let s = v.2 in
          let last : last_of v.0 (v.1 ++ t ∷ ts) ≡ last_of t ts = last_of-more v.0 v.1 t ts in
          inr (
            v.0,
            v.1 ++ t ∷ ts,
            record {
              is = whole ∙ ap (λ ss. ss ++ t ∷ ts) s.is;
              first = s.first;
              follow =
                  subst (λ k. follow_on rules rows wears k v.0 (v.1 ++ t ∷ ts) ≡ true) (sym (ap (λ (s : Sense n m). s.pulses) last ∙ last_pulses))
                  (follow-more rules rows wears p v.0 v.1 t ts s.follow (link v.0 v.1 s) t_pulses ts_pulses);
              below = let at : (last_of v.0 (v.1 ++ t ∷ ts)).tick ≡ x.tick = ap (λ (s : Sense n m). s.tick) last ∙ last_sensed in omega (arith, at);
              before = began ((last_of v.0 (v.1 ++ t ∷ ts)).tick);
              now = inl (sym (ap (λ (s : Sense n m). s.pulses) last ∙ last_pulses));
            },
          )

  -- an event that tears the line
  pub tears : (xs : List (TimedEvent n m)) (x : TimedEvent n m) → own line x.senses ≡ [] → last_tick xs ≤ x.tick → running shape pace (x ∷ xs) ≡ None → (Unseen xs → ⊥)
      → ((s : Sense n m) → s.tick ≤ last_tick xs → (pulses_of xs line ≡ s.pulses) ⊎ Torn xs s → Torn (x ∷ xs) s) → Shown xs → Shown (x ∷ xs)
  tears xs x none rises ends unseen torn (inl u) = absurd (unseen u)
  tears xs x none rises ends unseen torn (inr v) =
      let s = v.2 in
      inr (
        v.0,
        v.1,
        record {
          is = own-quiet xs x none ∙ s.is;
          first = s.first;
          follow = s.follow;
          below = let le : (last_of v.0 v.1).tick ≤ last_tick xs = s.below in omega (arith, le, rises);
          before = subst (λ r. BeganFrom ((last_of v.0 v.1).tick) r) (sym ends) tt;
          now = inr (torn (last_of v.0 v.1) s.below s.now);
        },
      )
