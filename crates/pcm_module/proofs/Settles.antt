-- Banks of a module are brought to a tick one after the other.
use Rattle.std.proofs.Common.{◌≡◌, ◌≢◌, ◌⊎◌, ℕ, ◌+◌, ◌<◌, ◌≤◌, false, List, [], ◌++◌, Option, Some, None, refl, sym, ap, subst, ◌∙◌, inl, inr, append_assoc, arith}
use Rattle.std.{specs.Prelude.{All, IsSomeAnd, slice_get, slice_set}, proofs.Math.ListN.length-set, proofs.lemmas.Bool.cases_eq}
use Rattle.std.proofs.lemmas.List.Elements.{All-append, All-nil, All-weaker}
use Rattle.circular_buffer.proofs.Places.{slice_get-set_same, slice_get-set_other}
use Rattle.cell_rows.specs.Device.{ArrayState}
use Rattle.masked_bytes.specs.Entries.{has_row}
use Rattle.result_rows.specs.{Table.HasRow, declared.Outcome.Outcome}
use Rattle.bank_shape.specs.declared.BankShape.{BankShape}
use Rattle.bank_model.specs.Timing.{TimedEvent}
use Rattle.feistel_map.specs.Network.{Network}
use Rattle.module_shape.specs.Addresses.{module_of, bank_shape}
use Rattle.clock_laws.specs.{Leads.Leads, Standing.has_waiting, State.ClockState}
use Rattle.module_laws.specs.Asking.{Asked}
use Rattle.bank_timing.specs.Extending.{EndsAction, Extends, IsOpen, IsQuiet, LeavesOthers, last_tick}
use Rattle.right_runs.specs.Banks.{pacing_in, bank_of_line, line_in_bank}
use Rattle.pcm_module.specs.{Replaying.{BankReplays, Replays, ReplaysIn, IsReplayed, asked_in_bank}, Settling.{IsAtTick, MaySettle, AreSettled}, Shaped.{IsModule, IsBankOf}}
use Rattle.pcm_module.{specs.State.ModuleState, specs.Stepping.IsAt, proofs.Arriving.own_asked}
use Rattle.pcm_module.proofs.{Banks.{AllReplay, changed, changed_at, changed_off, at_get, from_get, all_extend, cuts_apart}, Beyond.{stays_same, stays_both, stays_by}}
use Rattle.pcm_module.proofs.{Moving.{untouched, open_kept}, Naming.{not_named, above_all, apart_rows, rows_of_bank_all}, Steps.later_replays, TakenRows.{row_kept, bank_there}}

module _ {n m e : ℕ} (tick : ℕ) (module_ : ModuleState n m e) (before : ArrayState n m) (results : List (Outcome n)) where
  abbrev home : ℕ → ℕ
  home = bank_of_line module_.shape module_.seed

  abbrev number : ℕ → ℕ
  number = line_in_bank module_.shape module_.seed

  abbrev shape_of : ℕ → BankShape
  shape_of k = bank_shape (module_of module_.shape) k

  -- before any bank has come
  pub settle_none : (came : ℕ → Type 0) → ((bank : ℕ) → came bank → ⊥) → (banks : List (ClockState n m e)) → MaySettle tick module_ banks before results
      → AreSettled tick module_ came banks before before results results
  settle_none came none banks may = record {
    count = may.count;
    ahead = λ bank off. ap (λ (cs : List (ClockState n m e)). slice_get cs bank) (sym may.same);
    settled = λ bank there. absurd (none bank there);
    rows = refl;
    replays = λ h asked f. (
      (λ bank. []),
      λ k there.
          later_replays (shape_of k) (pacing_in module_.shape) module_.tick tick module_.rows_below module_.rows_below (h k) (asked_in_bank module_ k asked) before results (slice_get banks k) may.forward (omega arith)
          (subst (λ (cs : List (ClockState n m e)). IsSomeAnd (slice_get cs k) (ReplaysIn module_ k (h k) asked before results)) may.same (f.banks k there)),
      λ k. All-nil EndsAction,
    );
    open_rows = λ row above is. is;
    others = λ row has nowhere. refl;
    stays = stays_same _ before;
  }

  module _ (came : ℕ → Type 0) (reached : ℕ) (banks : List (ClockState n m e)) (between : ArrayState n m) (recorded : List (Outcome n)) (clock : ClockState n m e)
      (so_far : AreSettled tick module_ came banks before between results recorded) (exists : reached < module_.shape.banks) (is : slice_get banks reached ≡ Some clock) where
    -- the next bank replays what was asked of it
    pub settle_replays : (h : ℕ → List (TimedEvent n m)) (asked : List (Asked n)) (f : Replays h asked module_ before results)
        → BankReplays (shape_of reached) (pacing_in module_.shape) tick module_.rows_below ((so_far.replays h asked f).0 reached ++ h reached) (asked_in_bank module_ reached asked) between recorded clock
    settle_replays h asked f =
        from_get (BankReplays (shape_of reached) (pacing_in module_.shape) tick module_.rows_below ((so_far.replays h asked f).0 reached ++ h reached) (asked_in_bank module_ reached asked) between recorded)
        (slice_get banks reached) clock is ((so_far.replays h asked f).1 reached exists)

    module _ (after : ArrayState n m) (ended : List (Outcome n)) (next : ClockState n m e) (at : IsAt tick module_.rows_below next ended)
        (ran : (xs : List (TimedEvent n m)) → Leads xs clock between → (added : List (TimedEvent n m)) × Extends xs added clock next between after recorded ended × IsQuiet added) where
      replays_on : (h : ℕ → List (TimedEvent n m)) (asked : List (Asked n)) → Replays h asked module_ before results
          → (added : ℕ → List (TimedEvent n m))
          × AllReplay (module_of module_.shape) (pacing_in module_.shape) tick module_.rows_below (λ k. added k ++ h k) (λ k. asked_in_bank module_ k asked) after ended (slice_set banks reached next)
          × ((k : ℕ) → IsQuiet (added k))
      replays_on h asked f =
          let went = so_far.replays h asked f in
          let first = settle_replays h asked f in
          let s = ran (went.0 reached ++ h reached) first.leads in
          let added : ℕ → List (TimedEvent n m) = changed reached (s.0 ++ went.0 reached) went.0 in
          let has : (k : ℕ) → All (λ c. HasRow recorded c.row) (asked_in_bank module_ k asked) =
          λ k. rows_of_bank_all home number (HasRow recorded) k asked
          (All-weaker (λ (c : Asked n). HasRow results c.row) (λ (c : Asked n). HasRow recorded c.row) (λ c there. row_kept results recorded c.row so_far.rows there) asked f.in_table) in (
            added,
            all_extend (module_of module_.shape) (pacing_in module_.shape) tick module_.rows_below tick module_.rows_below reached (λ k. went.0 k ++ h k) (λ k. added k ++ h k)
                (λ k. asked_in_bank module_ k asked) (λ k. asked_in_bank module_ k asked) (asked_in_bank module_ reached asked) banks s.0 clock next between after recorded ended
                went.1 exists is s.1 (own_asked s.0 (went.0 reached ++ h reached) (asked_in_bank module_ reached asked) s.2 first.arrived) at
                (ap (λ (a : List (TimedEvent n m)). a ++ h reached) (changed_at reached (s.0 ++ went.0 reached) went.0 reached refl) ∙ append_assoc s.0 (went.0 reached) (h reached))
                (λ k off. ap (λ (a : List (TimedEvent n m)). a ++ h k) (changed_off reached (s.0 ++ went.0 reached) went.0 k off))
                refl (λ k off. refl)
                (has reached) (cuts_apart home number reached asked f.rows) first.recorded
                (λ other off. has other)
                (λ other off. apart_rows home number reached other (λ e. off (sym e)) asked f.rows)
                (omega arith) (omega arith),
            (λ k. elim (cases_eq k reached) [
              | inl same ↦
                  subst (λ (xs : List (TimedEvent n m)). IsQuiet xs) (sym (changed_at reached (s.0 ++ went.0 reached) went.0 k same))
                  (All-append EndsAction s.0 (went.0 reached) s.2 (went.2 reached))
              | inr off ↦ subst (λ (xs : List (TimedEvent n m)). IsQuiet xs) (sym (changed_off reached (s.0 ++ went.0 reached) went.0 k off)) (went.2 k)
            ]),
          )

      -- the next bank has come to the tick
      pub settle_one : (with_it : ℕ → Type 0) → (came reached → ⊥) → ((k : ℕ) → with_it k → (k ≡ reached) ⊎ came k) → ((k : ℕ) → (with_it k → ⊥) → (k ≢ reached) × (came k → ⊥))
          → IsReplayed module_ before results → LeavesOthers clock.bank recorded ended → AreSettled tick module_ with_it (slice_set banks reached next) before after results ended
      settle_one with_it still_to_come either neither led leaves = record {
        count = length-set banks reached next ∙ so_far.count;
        ahead = λ k off. let both = neither k off in slice_get-set_other banks reached k next both.0 ∙ so_far.ahead k both.1;
        settled = λ k there. elim (either k there) [
          | inl same ↦
              subst (λ (j : ℕ). IsSomeAnd (slice_get (slice_set banks reached next) j) (IsAtTick tick)) (sym same)
              (at_get (IsAtTick tick) (slice_get (slice_set banks reached next) reached) next (slice_get-set_same banks reached next (omega (arith, so_far.count, exists))) at.now)
          | inr before_it ↦
              subst (λ (o : Option (ClockState n m e)). IsSomeAnd o (IsAtTick tick)) (sym (slice_get-set_other banks reached k next (λ e. still_to_come (subst came e before_it)))) (so_far.settled k before_it)
        ];
        rows = s.1.rows ∙ so_far.rows;
        replays = replays_on;
        open_rows = λ row above unset. still row above (so_far.open_rows row above unset);
        others = λ row has nowhere.
            let stood = subst (λ (c : ClockState n m e). (has_row c.bank.kept.entries row ≡ false) × (has_waiting c.bank.waiting row ≡ false))
            (bank_there module_ reached clock (sym (so_far.ahead reached still_to_come) ∙ is)) (nowhere reached exists) in
            leaves row (row_kept results recorded row so_far.rows has) stood.0 stood.1 ∙ so_far.others row has nowhere;
        stays = stays_both _ before between after so_far.stays (stays_by (module_of module_.shape) reached clock.bank.kept.shape s.0 between after exists first.shaped s.1.adds);
      }
        where
          first : BankReplays (shape_of reached) (pacing_in module_.shape) tick module_.rows_below ((so_far.replays led.0 led.1 led.2).0 reached ++ led.0 reached) (asked_in_bank module_ reached led.1) between recorded clock
          first = settle_replays led.0 led.1 led.2

          s : (added : List (TimedEvent n m)) × Extends ((so_far.replays led.0 led.1 led.2).0 reached ++ led.0 reached) added clock next between after recorded ended × IsQuiet added
          s = ran ((so_far.replays led.0 led.1 led.2).0 reached ++ led.0 reached) first.leads

          -- a row that is still to come stays open
          still : (row : ℕ) → module_.rows_below ≤ row → IsOpen recorded row → IsOpen ended row
          still row above unset =
              open_kept recorded ended row s.1.rows
              (untouched ((so_far.replays led.0 led.1 led.2).0 reached ++ led.0 reached) clock between first.leads s.0 next after recorded ended s.1 row unset.exists
              (not_named row (s.0 ++ ((so_far.replays led.0 led.1 led.2).0 reached ++ led.0 reached)) (asked_in_bank module_ reached led.1)
              (own_asked s.0 ((so_far.replays led.0 led.1 led.2).0 reached ++ led.0 reached) (asked_in_bank module_ reached led.1) s.2 first.arrived)
              (above_all home number reached led.1 row
              (All-weaker (λ (c : Asked n). c.row < module_.rows_below) (λ (c : Asked n). c.row < row) (λ c less. omega (arith, less, above)) led.1 led.2.below)))) unset

-- the banks below a number, and the next one
pub next_below : (reached k : ℕ) → k < reached + 1 → (k ≡ reached) ⊎ (k < reached)
next_below reached k below = elim (cases_eq k reached) [
  | inl same ↦ inl same
  | inr off ↦ inr (omega (arith, below, off))
]

pub not_next : (reached k : ℕ) → (k < reached + 1 → ⊥) → (k ≢ reached) × (k < reached → ⊥)
not_next reached k off = (λ e. off (omega (arith, e)), λ below. off (omega (arith, below)))

-- a module may be brought to a tick with the banks that it has
pub may_settle : {n m e : ℕ} {old now : ModuleState n m e} {network : Network} {tick : ℕ} {before : ArrayState n m} {results : List (Outcome n)}
    → old ≡ now → IsModule old.shape old.seed network old.banks old.tick → now.tick ≤ tick → tick ≤ last_tick → IsReplayed now before results → MaySettle tick old old.banks before results
may_settle {n = n} {m = m} {e = e} {tick = tick} {before = before} {results = results} same inv forward within led = record {
  same = refl;
  count = inv.count;
  forward = subst (λ (o : ModuleState n m e). o.tick ≤ tick) (sym same) forward;
  within = within;
  led = subst (λ (o : ModuleState n m e). IsReplayed o before results) (sym same) led;
}

module _ {n m e : ℕ} {tick : ℕ} {module_ : ModuleState n m e} {came : ℕ → Type 0} {banks : List (ClockState n m e)} {before after : ArrayState n m} {results recorded : List (Outcome n)}
    (d : AreSettled tick module_ came banks before after results recorded) (forward : module_.tick ≤ tick) where
  abbrev settled_module : ModuleState n m e
  settled_module = record module_ { banks = banks; tick = tick }

  -- the module is at the tick
  pub settle_every : (h : ℕ → List (TimedEvent n m)) (asked : List (Asked n)) → Replays h asked module_ before results
      → (added : ℕ → List (TimedEvent n m)) × Replays (λ k. added k ++ h k) asked settled_module after recorded × ((k : ℕ) → IsQuiet (added k))
  settle_every h asked f =
      let went = d.replays h asked f in (
        went.0,
        record {
          size = d.stays.lines ∙ f.size;
          banks = went.1;
          exist = f.exist;
          ticks = f.ticks;
          in_time = All-weaker (λ (c : Asked n). c.tick ≤ module_.tick) (λ (c : Asked n). c.tick ≤ tick) (λ c le. omega (arith, le, forward)) asked f.in_time;
          rows = f.rows;
          below = f.below;
          in_table = All-weaker (λ (c : Asked n). HasRow results c.row) (λ (c : Asked n). HasRow recorded c.row) (λ c has. row_kept results recorded c.row d.rows has) asked f.in_table;
        },
        went.2,
      )

  -- a module whose banks have come to a tick is still one
  pub module_settled : {network : Network} → IsModule module_.shape module_.seed network module_.banks module_.tick → tick ≤ last_tick → IsReplayed module_ before results
      → IsModule module_.shape module_.seed network banks tick
  module_settled is within led = record {
    layout = is.layout;
    in_range = is.in_range;
    mixing = is.mixing;
    count = d.count;
    of_shape = λ k there. shaped k (slice_get banks k) ((d.replays led.0 led.1 led.2).1 k there);
    in_time = within;
  }
    where
      shaped : (k : ℕ) (o : Option (ClockState n m e)) → IsSomeAnd o (ReplaysIn (record module_ { tick = tick }) k ((d.replays led.0 led.1 led.2).0 k ++ led.0 k) led.1 after recorded)
          → IsSomeAnd o (IsBankOf (bank_shape (module_of module_.shape) k))
      shaped k None f = f
      shaped k (Some c) f = record { shaped = f.shaped; kept = f.leads.holds.kept }
