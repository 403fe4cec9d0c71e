-- The banks of a module are drained one after the other.
use Rattle.std.proofs.Common.{◌≡◌, ◌≢◌, ℕ, ◌+◌, ◌<◌, ◌≤◌, nat_lt, Bool, true, false, List, [], ◌∷◌, ◌++◌, Option, Some, None, refl, sym, ap, subst, ◌∙◌, inl, inr, append_assoc, arith}
use Rattle.std.{specs.Prelude.{All, IsSomeAnd, slice_get, slice_set, unwrap_or}, proofs.Math.ListN.length-set, proofs.lemmas.Bool.{cases_eq, lt-ltb, ltb-true}}
use Rattle.std.proofs.lemmas.List.Elements.{All-weaker}
use Rattle.circular_buffer.proofs.Places.{slice_get-some, slice_get-set_same, slice_get-set_other}
use Rattle.cell_rows.specs.Device.{ArrayState}
use Rattle.masked_bytes.specs.Entries.{has_row}
use Rattle.result_rows.specs.{Table.HasRow, declared.Outcome.Outcome}
use Rattle.bank_shape.specs.{declared.BankShape.BankShape, declared.pace.Pace.Pace}
use Rattle.bank_model.specs.Timing.{TimedEvent, last_tick}
use Rattle.feistel_map.specs.Network.{Network}
use Rattle.module_shape.specs.{Addresses.{module_of, bank_shape}, Limits.IsShape}
use Rattle.clock_laws.specs.{Leads.Leads, Standing.{has_waiting, arrives_with}, State.ClockState}
use Rattle.module_laws.{specs.Asking.{Asked, AreAsked, asked_of}, proofs.LastCuts.cut-last}
use Rattle.row_rules.specs.{declared.Asks.Asks, declared.Asks.TheVariants.Cuts}
use Rattle.bank_timing.specs.{Draining.DrainsTo, Extending.{LeavesOthers, outcome_in}}
use Rattle.end_laws.specs.EndLaws.{IsEndOf}
use Rattle.right_runs.specs.{Banks.{pacing_in, bank_of_line, line_in_bank}, Ends.BankEnd}
use Rattle.run_laws.specs.Finishing.{IsFinishedTo}
use Rattle.pcm_module.specs.{Draining.{MayFinish, MayEnd, MayStop, IsDrainedTo, DrainedIf, AreDrained}, Replaying.{Replays, ReplaysIn, IsReplayed, asked_in_bank}}
use Rattle.pcm_module.{specs.Shaped.{IsModule, IsBankOf}, specs.State.{ModuleState, AreEndsOf, bank_at, first_bank}, proofs.Arriving.own_asked}
use Rattle.pcm_module.proofs.{Banks.{banks_off, changed, changed_at, changed_off, at_get, from_get, cuts_apart}, Becoming.own_falls, Beyond.{stays_same, stays_both, stays_by}}
use Rattle.pcm_module.proofs.{Ending.{own_drains, beside_replays, beside_drained}, Naming.{names, not_named, apart_rows, rows_of_bank_all}, TakenRows.{row_kept, bank_there}}

pub not_below : (k reached : ℕ) → reached ≤ k → nat_lt k reached ≡ false
not_below k reached h = by (nat_lt k reached) refl
  where
    by : (b : Bool) → nat_lt k reached ≡ b → b ≡ false
    by false is = refl
    by true is = absurd (omega (arith, h, ltb-true k reached is))

-- the next bank is reached alone
pub below_next : (k reached : ℕ) → k ≢ reached → nat_lt k (reached + 1) ≡ nat_lt k reached
below_next k reached off = by (nat_lt k reached) refl
  where
    by : (b : Bool) → nat_lt k reached ≡ b → nat_lt k (reached + 1) ≡ b
    by true is = lt-ltb k (reached + 1) (omega (arith, ltb-true k reached is))
    by false is = not_below k (reached + 1) (above (nat_lt k reached) is (lt-ltb k reached))
      where
        above : (b : Bool) → b ≡ false → (k < reached → b ≡ true) → reached + 1 ≤ k
        above b none then = omega (arith, off, not_less)
          where
            not_less : k < reached → ⊥
            not_less less = let is : b ≡ true = then less in cc

-- what holds of the bank that is there holds of the bank of that number
pub at_bank : {n m e : ℕ} (module_ : ModuleState n m e) (P : ClockState n m e → Type 0) (bank : ℕ) → IsSomeAnd (slice_get module_.banks bank) P → P (bank_at module_ bank)
at_bank {n = n} {m = m} {e = e} module_ P bank there = by (slice_get module_.banks bank) there
  where
    by : (o : Option (ClockState n m e)) → IsSomeAnd o P → P (unwrap_or o (first_bank module_.shape bank))
    by None p = absurd p
    by (Some clock) p = p

-- a power cut is of every bank
own_cut : {n : ℕ} (bank_of line_in : ℕ → ℕ) (bank : ℕ) (a : Asked n) (asked : List (Asked n)) → a.asks ≡ Cuts
    → asked_of bank_of line_in bank (a ∷ asked) ≡ record { row = a.row; tick = a.tick; asks = Cuts } ∷ asked_of bank_of line_in bank asked
own_cut bank_of line_in bank a asked is =
    ap (λ (q : Asks _). asked_of bank_of line_in bank (record { row = a.row; tick = a.tick; asks = q } ∷ asked)) is

-- where the last row was a power cut, each bank's history ends with it
may_stop : {n m e : ℕ} (off : Bool) (module_ : ModuleState n m e) → IsShape module_.shape → (bank : ℕ) (xs : List (TimedEvent n m)) (asked : List (Asked n)) (array : ArrayState n m)
    (results : List (Outcome n)) (clock : ClockState n m e) → MayEnd off module_.tick asked → ReplaysIn module_ bank xs asked array results clock → MayStop off xs
may_stop false module_ shaped bank xs asked array results clock ending f = tt
may_stop true module_ shaped bank xs [] array results clock ending f = absurd ending
may_stop {n} {m} {e} true module_ shaped bank xs (a ∷ asked) array results clock ending f =
    let own : AreAsked xs (record { row = a.row; tick = a.tick; asks = Cuts } ∷ asked_in_bank module_ bank asked) =
    subst (λ (q : List (Asked n)). AreAsked xs q) (own_cut (bank_of_line module_.shape module_.seed) (line_in_bank module_.shape module_.seed) bank a asked ending.1) f.arrived in
    let low : last_tick xs ≤ clock.tick = f.leads.told.now in
    let in_time : clock.tick ≤ module_.tick = f.in_time in
    (cut-last clock.bank.kept.shape clock.pace e (subst (λ (p : Pace). 1 ≤ p.read) (sym f.paced) shaped.some_read_ticks) (subst (λ (p : Pace). 1 ≤ p.iter) (sym f.paced) shaped.some_iter_ticks)
    xs (record { row = a.row; tick = a.tick; asks = Cuts }) (asked_in_bank module_ bank asked) f.leads.lawful f.leads.told.whole own refl (omega (arith, low, in_time, ending.0))).0

module _ {n m e : ℕ} (off : Bool) (module_ : ModuleState n m e) (before : ArrayState n m) (results : List (Outcome n)) where
  -- before the first bank
  pub drain_none : (banks : List (ClockState n m e)) → MayFinish off module_ banks before results → AreDrained off module_ 0 banks before before results results
  drain_none banks may = record {
    count = may.count;
    ahead = λ bank above. ap (λ (cs : List (ClockState n m e)). slice_get cs bank) (sym may.same);
    rows = refl;
    replays = λ h asked f ending. (
      (λ bank. []),
      λ k there.
          subst (λ (b : Bool). IsSomeAnd (slice_get banks k) (DrainedIf off module_ b k (h k) asked before results)) (sym (not_below k 0 (omega arith)))
          (subst (λ (cs : List (ClockState n m e)). IsSomeAnd (slice_get cs k) (ReplaysIn module_ k (h k) asked before results)) may.same (f.banks k there)),
    );
    others = λ row has nowhere. refl;
    stays = stays_same _ before;
  }

  module _ (reached : ℕ) (banks : List (ClockState n m e)) (between : ArrayState n m) (recorded : List (Outcome n)) (clock : ClockState n m e)
      (so_far : AreDrained off module_ reached banks before between results recorded) (exists : reached < module_.shape.banks) (is : slice_get banks reached ≡ Some clock) where
    -- the next bank still replays what was asked of it
    pub next_replays : (h : ℕ → List (TimedEvent n m)) (asked : List (Asked n)) (f : Replays h asked module_ before results) (ending : MayEnd off module_.tick asked)
        → ReplaysIn module_ reached ((so_far.replays h asked f ending).0 reached ++ h reached) asked between recorded clock
    next_replays h asked f ending =
        let went = so_far.replays h asked f ending in
        subst (λ (b : Bool). DrainedIf off module_ b reached (went.0 reached ++ h reached) asked between recorded clock) (not_below reached reached (omega arith))
        (from_get (DrainedIf off module_ (nat_lt reached reached) reached (went.0 reached ++ h reached) asked between recorded) (slice_get banks reached) clock is (went.1 reached exists))

    module _ (after : ArrayState n m) (ended : List (Outcome n)) (next : ClockState n m e) (in_range : IsShape module_.shape)
        (drains : (xs : List (TimedEvent n m)) → Leads xs clock between → MayStop off xs → (added : List (TimedEvent n m)) × DrainsTo off xs added clock next between after recorded ended) where
      module _ (h : ℕ → List (TimedEvent n m)) (asked : List (Asked n)) (f : Replays h asked module_ before results) (ending : MayEnd off module_.tick asked) where
        abbrev added : ℕ → List (TimedEvent n m)
        added = (so_far.replays h asked f ending).0

        abbrev went : ℕ → List (TimedEvent n m)
        went k = added k ++ h k

        abbrev own : ℕ → List (Asked n)
        own k = asked_in_bank module_ k asked

        abbrev shape_of : ℕ → BankShape
        shape_of k = bank_shape (module_of module_.shape) k

        first : ReplaysIn module_ reached (went reached) asked between recorded clock
        first = next_replays h asked f ending

        abbrev run : (more : List (TimedEvent n m)) × DrainsTo off (went reached) more clock next between after recorded ended
        run = drains (went reached) (next_replays h asked f ending).leads (may_stop off module_ in_range reached (went reached) asked between recorded clock ending (next_replays h asked f ending))

        abbrev later : ℕ → List (TimedEvent n m)
        later = changed reached (run.0 ++ added reached) added

        has_rows : (k : ℕ) → All (λ c. HasRow recorded c.row) (own k)
        has_rows k =
            rows_of_bank_all (bank_of_line module_.shape module_.seed) (line_in_bank module_.shape module_.seed) (λ r. HasRow recorded r) k asked
            (All-weaker (λ (c : Asked n). HasRow results c.row) (λ (c : Asked n). HasRow recorded c.row) (λ c has. row_kept results recorded c.row so_far.rows has) asked f.in_table)

        abbrev P : ℕ → ClockState n m e → Type 0
        P k = DrainedIf off module_ (nat_lt k (reached + 1)) k (later k ++ h k) asked after ended

        here : DrainedIf off module_ true reached (run.0 ++ went reached) asked after ended next
        here =
            own_drains off (went reached) run.0 clock next between after recorded ended first.leads run.1 (shape_of reached) (pacing_in module_.shape) module_.tick module_.rows_below (own reached)
            first (own_falls (bank_of_line module_.shape module_.seed) (line_in_bank module_.shape module_.seed) reached asked f.rows) (has_rows reached)
            (cuts_apart (bank_of_line module_.shape module_.seed) (line_in_bank module_.shape module_.seed) reached asked f.rows)

        -- a bank beside it
        beside : (k : ℕ) → k ≢ reached → (c : ClockState n m e) → (b : Bool) → DrainedIf off module_ b k (went k) asked between recorded c → DrainedIf off module_ b k (went k) asked after ended c
        beside k other c b = by b
          where
            apart : All (λ c. arrives_with (run.0 ++ went reached) c.row ≡ false) (own k)
            apart =
                All-weaker (λ (c : Asked n). names (own reached) c.row ≡ false) (λ (c : Asked n). arrives_with (run.0 ++ went reached) c.row ≡ false)
                (λ c none. not_named c.row (run.0 ++ went reached) (own reached) (own_asked run.0 (went reached) (own reached) run.1.quiet first.arrived) none) (own k)
                (apart_rows (bank_of_line module_.shape module_.seed) (line_in_bank module_.shape module_.seed) reached k (λ e. other (sym e)) asked f.rows)

            by : (b : Bool) → DrainedIf off module_ b k (went k) asked between recorded c → DrainedIf off module_ b k (went k) asked after ended c
            by true g =
                beside_drained off (went reached) run.0 clock next between after recorded ended first.leads run.1 (went k) c (own k) (shape_of reached) (shape_of k) (pacing_in module_.shape)
                first.shaped g.shaped (banks_off (module_of module_.shape) reached k (λ e. other (sym e))) (has_rows k) apart g
            by false g =
                beside_replays off (went reached) run.0 clock next between after recorded ended first.leads run.1 (went k) c (own k) (shape_of reached) (shape_of k) (pacing_in module_.shape)
                first.shaped g.shaped (banks_off (module_of module_.shape) reached k (λ e. other (sym e))) (has_rows k) apart module_.tick module_.rows_below g

        there_of : (k : ℕ) → k ≢ reached → (o : Option (ClockState n m e)) → slice_get banks k ≡ o
            → IsSomeAnd o (DrainedIf off module_ (nat_lt k reached) k (went k) asked between recorded) → IsSomeAnd (slice_get (slice_set banks reached next) k) (P k)
        there_of k other None at g = absurd g
        there_of k other (Some c) at g =
            at_get (P k) (slice_get (slice_set banks reached next) k) c (slice_get-set_other banks reached k next other ∙ at)
            (subst (λ (b : Bool). DrainedIf off module_ b k (later k ++ h k) asked after ended c) (sym (below_next k reached other))
            (subst (λ (a : List (TimedEvent n m)). DrainedIf off module_ (nat_lt k reached) k (a ++ h k) asked after ended c) (sym (changed_off reached (run.0 ++ added reached) added k other))
            (beside k other c (nat_lt k reached) g)))

        here_of : (k : ℕ) → k ≡ reached → IsSomeAnd (slice_get (slice_set banks reached next) k) (P k)
        here_of k same =
            subst (λ (j : ℕ). IsSomeAnd (slice_get (slice_set banks reached next) j) (P j)) (sym same)
            (at_get (P reached) (slice_get (slice_set banks reached next) reached) next (slice_get-set_same banks reached next (omega (arith, so_far.count, exists)))
            (subst (λ (b : Bool). DrainedIf off module_ b reached (later reached ++ h reached) asked after ended next) (sym (lt-ltb reached (reached + 1) (omega arith)))
            (subst (λ (a : List (TimedEvent n m)). DrainedIf off module_ true reached (a ++ h reached) asked after ended next) (sym (changed_at reached (run.0 ++ added reached) added reached refl))
            (subst (λ (xs : List (TimedEvent n m)). DrainedIf off module_ true reached xs asked after ended next) (sym (append_assoc run.0 (added reached) (h reached))) here))))

        replays_on : (k : ℕ) → k < module_.shape.banks → IsSomeAnd (slice_get (slice_set banks reached next) k) (P k)
        replays_on k there =
            elim (cases_eq k reached) [
              | inl same ↦ here_of k same
              | inr other ↦ there_of k other (slice_get banks k) refl ((so_far.replays h asked f ending).1 k there)
            ]

      -- it is drained
      pub drain_one : ((h : ℕ → List (TimedEvent n m)) × (asked : List (Asked n)) × Replays h asked module_ before results × MayEnd off module_.tick asked) → LeavesOthers clock.bank recorded ended
          → AreDrained off module_ (reached + 1) (slice_set banks reached next) before after results ended
      drain_one led leaves =
          let first = next_replays led.0 led.1 led.2 led.3 in
          let d = run led.0 led.1 led.2 led.3 in
          record {
            count = length-set banks reached next ∙ so_far.count;
            ahead = λ k above. slice_get-set_other banks reached k next (λ e. absurd (omega (arith, above, e))) ∙ so_far.ahead k (omega (arith, above));
            rows = d.1.rows ∙ so_far.rows;
            replays = λ h asked f ending. (later h asked f ending, replays_on h asked f ending);
            others = λ row has nowhere.
                let stood = subst (λ (c : ClockState n m e). (has_row c.bank.kept.entries row ≡ false) × (has_waiting c.bank.waiting row ≡ false))
                (bank_there module_ reached clock (sym (so_far.ahead reached (omega arith)) ∙ is)) (nowhere reached exists) in
                leaves row (row_kept results recorded row so_far.rows has) stood.0 stood.1 ∙ so_far.others row has nowhere;
            stays = stays_both _ before between after so_far.stays (stays_by (module_of module_.shape) reached clock.bank.kept.shape d.0 between after exists first.shaped d.1.adds);
          }

-- a module may be finished with the banks that it has
pub may_finish : {n m e : ℕ} {old now : ModuleState n m e} {network : Network} {before : ArrayState n m} {results : List (Outcome n)}
    → old ≡ now → IsModule old.shape old.seed network old.banks old.tick → IsReplayed now before results → MayFinish false old old.banks before results
may_finish {n = n} {m = m} {e = e} {before = before} {results = results} same inv led =
    record { same = refl; count = inv.count; in_time = inv.in_time; in_range = inv.in_range; led = let was = subst (λ (o : ModuleState n m e). IsReplayed o before results) (sym same) led in (was.0, was.1, was.2, tt) }

pub may_stop_all : {n m e : ℕ} {old : ModuleState n m e} {network : Network} {before : ArrayState n m} {results : List (Outcome n)}
    → IsModule old.shape old.seed network old.banks old.tick → (h : ℕ → List (TimedEvent n m)) (asked : List (Asked n)) → Replays h asked old before results → MayEnd true old.tick asked
    → MayFinish true old old.banks before results
may_stop_all inv h asked f cut = record { same = refl; count = inv.count; in_time = inv.in_time; in_range = inv.in_range; led = (h, asked, f, cut) }

module _ {n m e : ℕ} {off : Bool} {module_ : ModuleState n m e} {banks : List (ClockState n m e)} {before after : ArrayState n m} {results recorded : List (Outcome n)}
    (d : AreDrained off module_ module_.shape.banks banks before after results recorded) where
  abbrev drained_module : ModuleState n m e
  drained_module = record module_ { banks = banks; finished = true }

  module _ (h : ℕ → List (TimedEvent n m)) (asked : List (Asked n)) (f : Replays h asked module_ before results) (ending : MayEnd off module_.tick asked) where
    each : (k : ℕ) → k < module_.shape.banks
        → IsSomeAnd (slice_get banks k) (IsDrainedTo off (bank_shape (module_of module_.shape) k) (pacing_in module_.shape) ((d.replays h asked f ending).0 k ++ h k) (asked_in_bank module_ k asked) after recorded)
    each k there =
        subst (λ (b : Bool). IsSomeAnd (slice_get banks k) (DrainedIf off module_ b k ((d.replays h asked f ending).0 k ++ h k) asked after recorded)) (lt-ltb k module_.shape.banks there)
        ((d.replays h asked f ending).1 k there)

    drained_at : (k : ℕ) → k < module_.shape.banks
        → IsDrainedTo off (bank_shape (module_of module_.shape) k) (pacing_in module_.shape) ((d.replays h asked f ending).0 k ++ h k) (asked_in_bank module_ k asked) after recorded (bank_at drained_module k)
    drained_at k there =
        at_bank drained_module (IsDrainedTo off (bank_shape (module_of module_.shape) k) (pacing_in module_.shape) ((d.replays h asked f ending).0 k ++ h k) (asked_in_bank module_ k asked) after recorded) k (each k there)

    -- all banks are drained
    pub drain_every : (added : ℕ → List (TimedEvent n m)) × IsFinishedTo module_.shape module_.seed off (λ k. added k ++ h k) asked (bank_at drained_module) after (outcome_in recorded)
    drain_every = (
      (d.replays h asked f ending).0,
      record {
        size = d.stays.lines ∙ f.size;
        shapes = λ k there. (drained_at k there).shaped;
        paces = λ k there. (drained_at k there).paced;
        leads = λ k there. (drained_at k there).leads;
        idle = λ k there. (drained_at k there).idle;
        asked = λ k there. (drained_at k there).arrived;
        recorded = λ k there. (drained_at k there).recorded;
        ticks = f.ticks;
        exist = f.exist;
        log = λ log told k there. (drained_at k there).logged log told;
      },
    )

  -- ends of the banks of their numbers are ends of the banks that are there
  pub drained_ends : (ends : ℕ → BankEnd) → ((k : ℕ) → k < module_.shape.banks → IsEndOf (bank_at drained_module k).bank.kept (ends k)) → AreEndsOf drained_module ends
  drained_ends ends own k there =
      let clock = slice_get-some banks k (omega (arith, d.count, there)) in
      at_get (λ (c : ClockState n m e). IsEndOf c.bank.kept (ends k)) (slice_get banks k) clock.0 clock.1
      (subst (λ (c : ClockState n m e). IsEndOf c.bank.kept (ends k)) (bank_there drained_module k clock.0 clock.1) (own k there))

  -- a module whose banks were drained is still one
  pub module_drained : {network : Network} → IsModule module_.shape module_.seed network module_.banks module_.tick
      → ((h : ℕ → List (TimedEvent n m)) × (asked : List (Asked n)) × Replays h asked module_ before results × MayEnd off module_.tick asked)
      → IsModule module_.shape module_.seed network banks module_.tick
  module_drained is led = record {
    layout = is.layout;
    in_range = is.in_range;
    mixing = is.mixing;
    count = d.count;
    of_shape = λ k there. shaped k (slice_get banks k) ((d.replays led.0 led.1 led.2 led.3).0 k ++ led.0 k) (asked_in_bank module_ k led.1) (each led.0 led.1 led.2 led.3 k there);
    in_time = is.in_time;
  }
    where
      shaped : (k : ℕ) (o : Option (ClockState n m e)) (xs : List (TimedEvent n m)) (own : List (Asked n))
          → IsSomeAnd o (IsDrainedTo off (bank_shape (module_of module_.shape) k) (pacing_in module_.shape) xs own after recorded)
          → IsSomeAnd o (IsBankOf (bank_shape (module_of module_.shape) k))
      shaped k None xs own f = f
      shaped k (Some c) xs own f = record { shaped = f.shaped; kept = f.leads.holds.kept }

-- the bank that a loop over all banks has reached is one of them, and in the end all were
pub reached_bank : (i end count banks : ℕ) → i < end → end ≡ count → count ≡ banks → i < banks
reached_bank i end count banks less is all = omega (arith, less, is, all)

pub reached_all : (i end count banks : ℕ) → i ≤ end → end ≤ i → end ≡ count → count ≡ banks → i ≡ banks
reached_all i end count banks most past is all = omega (arith, most, past, is, all)

pub time_left : (tick last most : ℕ) → tick ≤ last → last ≤ most → tick ≤ most
time_left tick last most h k = omega (arith, h, k)
