-- A read or a write is taken by its own bank.
use Rattle.std.proofs.Common.{◌≡◌, ◌≢◌, ℕ, ◌+◌, ◌<◌, ◌≤◌, Bool, true, false, cond, List, ◌∷◌, ◌++◌, map, length, Some, refl, sym, ap, subst, ◌∙◌, arith}
use Rattle.std.{specs.Prelude.{filter, All, slice_get, slice_set, unwrap_or}, proofs.lemmas.List.Elements.{All-cons, All-weaker}}
use Rattle.cell_rows.specs.Device.{ArrayState}
use Rattle.masked_bytes.specs.Entries.{has_row}
use Rattle.result_rows.specs.{Table.HasRow, declared.Outcome.Outcome}
use Rattle.result_rows.specs.declared.Outcome.TheVariants as out
use Rattle.row_rules.specs.{Lines.IsOfLines, Table.is_of, declared.Asks.Asks, declared.Asks.TheVariants.{Reads, Writes, Cuts}}
use Rattle.bank_shape.specs.declared.BankShape.{BankShape}
use Rattle.bank_model.{specs.Timing.{TimedEvent, core}, proofs.Rising.RowsBelow-more}
use Rattle.bank_laws.{specs.Outcomes.outcome_of, specs.Settling.AreOpen, proofs.Settling.opens}
use Rattle.module_shape.specs.{Addresses.{module_of, bank_shape}, Limits.total_of}
use Rattle.clock_laws.specs.{Leads.Leads, Standing.has_waiting, State.ClockState}
use Rattle.module_laws.specs.Asking.{Asked, asked_in, AreAsked}
use Rattle.bank_timing.specs.Extending.{IsOpen, outcome_in}
use Rattle.right_runs.specs.Banks.{pacing_in, bank_of_line, line_in_bank}
use Rattle.pcm_module.specs.{Replaying.{BankReplays, Replays, IsReplayed, RowsFall, outcome_so_far, asked_in_bank}, State.{ModuleState, bank_at, first_bank}}
use Rattle.pcm_module.{specs.Stepping.{IsAt, IsStep}, specs.Taking.Takes, proofs.Banks.{grows_at, grown_at, grown_off, from_get, all_step, cuts_apart}, proofs.Beyond.stays_by}
use Rattle.pcm_module.proofs.{Moving.{untouched, left_alone, open_kept}, Naming.{is_numbered, names, not_named, above_all, apart_rows, rows_of_bank_all}}

-- a table keeps its rows
pub row_kept : {X : Type 0} (results recorded : List X) (row : ℕ) → length recorded ≡ length results → HasRow results row → HasRow recorded row
row_kept results recorded row rows has = record { above = has.above; within = subst (λ k. row ≤ k) (sym rows) has.within }

-- the bank of a module that is there
pub bank_there : {n m e : ℕ} (module_ : ModuleState n m e) (bank : ℕ) (clock : ClockState n m e) → slice_get module_.banks bank ≡ Some clock → bank_at module_ bank ≡ clock
bank_there module_ bank clock is = ap (λ o. unwrap_or o (first_bank module_.shape bank)) is

-- a row from the bound on has no outcome after a bank's history
pub unset_above : {n m e : ℕ} (shape : BankShape) (xs : List (TimedEvent n m)) (clock : ClockState n m e) (array : ArrayState n m) (row : ℕ)
    → Leads xs clock array → clock.bank.kept.shape ≡ shape → clock.bank.rows_below ≤ row → outcome_of shape xs row ≡ out.Unset
unset_above {n = n} {m = m} {e = e} shape xs clock array row leads shaped above =
    let o : AreOpen clock.bank.kept.shape xs = opens clock.bank.kept.shape clock.pace e xs leads.lawful in
    subst (λ (s : BankShape). outcome_of s xs row ≡ out.Unset) shaped
    (o.coming row (RowsBelow-more (core xs) clock.bank.rows_below row above leads.holds.rows))

module _ {n m e : ℕ} (a : Asked n) (old : ModuleState n m e) (bank : ℕ) (clock next : ClockState n m e) (before after : ArrayState n m) (results recorded : List (Outcome n))
    (own : is_of (bank_of_line old.shape old.seed) bank a.asks ≡ true)
    (elsewhere : (other : ℕ) → other ≢ bank → is_of (bank_of_line old.shape old.seed) other a.asks ≡ false)
    (numbered : is_numbered (asked_in (bank_of_line old.shape old.seed) (line_in_bank old.shape old.seed) a).asks ≡ true) (of_lines : IsOfLines (total_of old.shape) a.asks)
    (rises : old.tick ≤ a.tick) (above : old.rows_below ≤ a.row) (fresh : IsOpen results a.row)
    (exists : bank < old.shape.banks) (is : slice_get old.banks bank ≡ Some clock) (at : IsAt a.tick (a.row + 1) next recorded)
    (step : (xs : List (TimedEvent n m)) → Leads xs clock before
    → (added : List (TimedEvent n m)) × IsStep xs added (asked_in (bank_of_line old.shape old.seed) (line_in_bank old.shape old.seed) a) clock next before after results recorded) where
  abbrev after_row : ModuleState n m e
  after_row = record old { banks = slice_set old.banks bank next; tick = a.tick; rows_below = a.row + 1 }

  abbrev home : ℕ → ℕ
  home = bank_of_line old.shape old.seed

  abbrev number : ℕ → ℕ
  number = line_in_bank old.shape old.seed

  abbrev shape_of : ℕ → BankShape
  shape_of k = bank_shape (module_of old.shape) k

  abbrev placed : Asked n
  placed = asked_in home number a

  own_rows : (asked : List (Asked n)) → asked_in_bank old bank (a ∷ asked) ≡ placed ∷ asked_in_bank old bank asked
  own_rows asked =
      ap (λ (b : Bool). map (asked_in home number) (cond b (a ∷ filter (λ a. is_of home bank a.asks) asked) (filter (λ a. is_of home bank a.asks) asked))) own

  other_rows : (asked : List (Asked n)) (other : ℕ) → other ≢ bank → asked_in_bank old other (a ∷ asked) ≡ asked_in_bank old other asked
  other_rows asked other off =
      ap (λ (b : Bool). map (asked_in home number) (cond b (a ∷ filter (λ a. is_of home other a.asks) asked) (filter (λ a. is_of home other a.asks) asked))) (elsewhere other off)

  falls_on : (h : ℕ → List (TimedEvent n m)) (asked : List (Asked n)) → Replays h asked old before results → RowsFall (a ∷ asked)
  falls_on h asked f = (All-weaker (λ (b : Asked n). b.row < old.rows_below) (λ (b : Asked n). b.row < a.row) (λ b less. omega (arith, less, above)) asked f.below, f.rows)

  first_in : (h : ℕ → List (TimedEvent n m)) (asked : List (Asked n)) → Replays h asked old before results
      → BankReplays (shape_of bank) (pacing_in old.shape) old.tick old.rows_below (h bank) (asked_in_bank old bank asked) before results clock
  first_in h asked f =
      from_get (BankReplays (shape_of bank) (pacing_in old.shape) old.tick old.rows_below (h bank) (asked_in_bank old bank asked) before results)
      (slice_get old.banks bank) clock is (f.banks bank exists)

  ready : (xs : List (TimedEvent n m)) → outcome_of (shape_of bank) xs a.row ≡ out.Unset → outcome_in results a.row ≡ outcome_so_far (shape_of bank) xs placed placed.asks
  ready xs none = by placed.asks numbered
    where
      unset : outcome_in results a.row ≡ out.Unset
      unset = ap (λ o. unwrap_or o out.Unset) fresh.unset

      by : (asks : Asks n) → is_numbered asks ≡ true → outcome_in results a.row ≡ outcome_so_far (shape_of bank) xs placed asks
      by (Reads line) told = unset ∙ sym none
      by (Writes line bytes given) told = unset ∙ sym none
      by Cuts told = absurd (cc)

  replays_on : (h : ℕ → List (TimedEvent n m)) (asked : List (Asked n)) → Replays h asked old before results
      → (added : ℕ → List (TimedEvent n m)) × Replays (λ k. added k ++ h k) (a ∷ asked) after_row after recorded
  replays_on h asked f =
      let first = first_in h asked f in
      let went = step (h bank) first.leads in
      let owns : ℕ → List (Asked n) = λ k. asked_in_bank old k asked in
      let falls = falls_on h asked f in
      let added : ℕ → List (TimedEvent n m) = grows_at bank went.0 in
      let unset : outcome_of (shape_of bank) (h bank) a.row ≡ out.Unset
      = unset_above (shape_of bank) (h bank) clock before a.row first.leads first.shaped (omega (arith, first.below, above)) in
      let all =
      all_step (module_of old.shape) (pacing_in old.shape) old.tick old.rows_below a.tick (a.row + 1) bank h (λ k. added k ++ h k) owns (λ k. asked_in_bank old k (a ∷ asked))
      old.banks went.0 placed clock next before after results recorded f.banks exists is went.1 at
      (grown_at bank went.0 h) (grown_off bank went.0 h) (own_rows asked) (other_rows asked)
      (All-cons (λ (c : Asked n). HasRow results c.row) placed (owns bank) fresh.exists (rows_of_bank_all home number (HasRow results) bank asked f.in_table))
      (subst (λ own. All (λ c. is_numbered c.asks ≡ false → names own c.row ≡ false) own) (own_rows asked) (cuts_apart home number bank (a ∷ asked) falls))
      (ready (h bank) unset)
      (λ other off. rows_of_bank_all home number (HasRow results) other asked f.in_table)
      (λ other off.
      subst (λ own. All (λ c. names own c.row ≡ false) (owns other)) (own_rows asked)
      (subst (λ rows. All (λ c. names (asked_in_bank old bank (a ∷ asked)) c.row ≡ false) rows) (other_rows asked other off)
      (apart_rows home number bank other (λ e. off (sym e)) (a ∷ asked) falls)))
      rises (omega (arith, above)) in (
        added,
        record {
          size = went.1.extends.adds.lines ∙ f.size;
          banks = all;
          exist = All-cons (λ (c : Asked n). IsOfLines (total_of old.shape) c.asks) a asked of_lines f.exist;
          ticks = (All-weaker (λ (c : Asked n). c.tick ≤ old.tick) (λ (c : Asked n). c.tick ≤ a.tick) (λ c le. omega (arith, le, rises)) asked f.in_time, f.ticks);
          in_time = All-cons (λ (c : Asked n). c.tick ≤ a.tick) a asked (omega arith)
              (All-weaker (λ (c : Asked n). c.tick ≤ old.tick) (λ (c : Asked n). c.tick ≤ a.tick) (λ c le. omega (arith, le, rises)) asked f.in_time);
          rows = falls;
          below = All-cons (λ (c : Asked n). c.row < a.row + 1) a asked (omega arith)
              (All-weaker (λ (c : Asked n). c.row < old.rows_below) (λ (c : Asked n). c.row < a.row + 1) (λ c less. omega (arith, less, above)) asked f.below);
          in_table = All-cons (λ (c : Asked n). HasRow recorded c.row) a asked (row_kept results recorded a.row went.1.extends.rows fresh.exists)
              (All-weaker (λ (c : Asked n). HasRow results c.row) (λ (c : Asked n). HasRow recorded c.row) (λ c has. row_kept results recorded c.row went.1.extends.rows has) asked f.in_table);
        },
      )

  pub takes_one : IsReplayed old before results → Takes a old after_row before after results recorded
  takes_one led =
      let f = led.2 in
      let asked = led.1 in
      let first = first_in led.0 asked f in
      let went = step (led.0 bank) first.leads in
      record {
        shape = refl;
        seed = refl;
        tick = refl;
        rows = refl;
        going = refl;
        table = went.1.extends.rows;
        replays = replays_on;
        open_rows = λ other higher unset.
            open_kept results recorded other went.1.extends.rows
            (untouched (led.0 bank) clock before first.leads went.0 next after results recorded went.1.extends other unset.exists
            (not_named other (went.0 ++ led.0 bank) (asked_in_bank old bank (a ∷ asked))
            (subst (λ own. AreAsked (went.0 ++ led.0 bank) own) (sym (own_rows asked)) (went.1.arrives (asked_in_bank old bank asked) first.arrived))
            (above_all home number bank (a ∷ asked) other
            (All-cons (λ (c : Asked n). c.row < other) a asked higher
            (All-weaker (λ (c : Asked n). c.row < old.rows_below) (λ (c : Asked n). c.row < other) (λ c less. omega (arith, less, above, higher)) asked f.below))))) unset;
        others = λ other has off nowhere.
            let stood = subst (λ (c : ClockState n m e). (has_row c.bank.kept.entries other ≡ false) × (has_waiting c.bank.waiting other ≡ false)) (bank_there old bank clock is) (nowhere bank exists) in
            left_alone (led.0 bank) clock before first.leads went.0 next after results recorded went.1.extends other has stood.0 stood.1 (went.1.alone other off);
        stays = stays_by (module_of old.shape) bank clock.bank.kept.shape went.0 before after exists first.shaped went.1.extends.adds;
      }
