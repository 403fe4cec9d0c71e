-- A power cut reaches one bank after the other.
use Rattle.std.proofs.Common.{◌≡◌, ◌≢◌, ℕ, ◌+◌, ◌*◌, ◌<◌, ◌≤◌, Bool, true, false, if◌then◌else◌, List, [], ◌∷◌, ◌++◌, length, Option, Some, None, refl, sym, ap, subst, ◌∙◌, append_assoc, arith}
use Rattle.std.{specs.Prelude.{All, IsSomeAnd, slice_get, slice_set, nat_lt}, proofs.lemmas.Bool.lt-ltb, proofs.lemmas.List.Elements.{All-tail, All-cons, All-weaker}}
use Rattle.circular_buffer.proofs.Places.{slice_get-set_other}
use Rattle.cell_rows.specs.Device.{ArrayState}
use Rattle.masked_bytes.specs.Entries.{has_row}
use Rattle.result_rows.specs.{Table.HasRow, declared.Outcome.Outcome}
use Rattle.result_rows.specs.declared.Outcome.TheVariants as out
use Rattle.row_rules.specs.{Lines.IsOfLines, declared.Asks.TheVariants.Cuts}
use Rattle.bank_shape.specs.declared.BankShape.{BankShape}
use Rattle.bank_model.specs.Timing.{TimedEvent}
use Rattle.feistel_map.specs.Network.{Network}
use Rattle.module_shape.specs.{Addresses.{bank_shape, module_of, array_lines_of}, Limits.total_of, declared.raw.RawShape.RawShape}
use Rattle.clock_laws.specs.{Leads.Leads, Standing.has_waiting, State.ClockState}
use Rattle.module_laws.specs.Asking.{Asked}
use Rattle.bank_timing.specs.Extending.{IsOpen, outcome_in}
use Rattle.right_runs.specs.Banks.{pacing_in, bank_of_line, line_in_bank}
use Rattle.pcm_module.specs.{Replaying.{BankReplays, Replays, IsReplayed, RowsFall, asked_in_bank}, Shaped.IsModule, State.{ModuleState, StandsNowhere}, Stepping.{IsAt, IsStep}}
use Rattle.pcm_module.{specs.Taking.{Takes, StaysBeyond}, proofs.AsIf.{as_if, rows_as_if, own_there, other_there}}
use Rattle.pcm_module.proofs.{Banks.{AllReplay, changed, changed_at, changed_off, from_get, all_step, cuts_apart}, Beyond.{stays_same, stays_both, stays_by}}
use Rattle.pcm_module.proofs.{Draining.{not_below, below_next}, Moving.{untouched, left_alone, open_kept}}
use Rattle.pcm_module.proofs.{Naming.{is_numbered, names, not_named, above_all, apart_rows, rows_of_bank_all}, Steps.{stays_replayed, later_replays}}
use Rattle.pcm_module.proofs.TakenRows.{row_kept, bank_there}

-- what was asked of a bank while a cut has reached so many
abbrev pub up_to : {n : ℕ} → Asked n → ℕ → ℕ → List (Asked n) → List (Asked n)
up_to a reached bank asked = if nat_lt bank reached then a ∷ asked else asked

module _ {n m e : ℕ} (a : Asked n) (old : ModuleState n m e) (before : ArrayState n m) (results : List (Outcome n)) where
  -- a cut has reached so many banks
  pub record CutsUpTo (reached : ℕ) (banks : List (ClockState n m e)) (after : ArrayState n m) (recorded : List (Outcome n)) : Type 0 where
    pub ahead : (k : ℕ) → reached ≤ k → slice_get banks k ≡ slice_get old.banks k
    pub rows : length recorded ≡ length results
    pub outcome : outcome_in recorded a.row ≡ out.Cut a.tick
    pub open_rows : (other : ℕ) → a.row < other → IsOpen results other → IsOpen recorded other
    pub replays : (h : ℕ → List (TimedEvent n m)) (asked : List (Asked n)) → Replays h asked old before results
        → (added : ℕ → List (TimedEvent n m))
        × AllReplay (module_of old.shape) (pacing_in old.shape) a.tick a.row (λ k. added k ++ h k) (λ k. asked_in_bank old k (up_to a reached k asked)) after recorded banks
    pub others : (other : ℕ) → HasRow results other → other ≢ a.row → StandsNowhere old other → outcome_in recorded other ≡ outcome_in results other
    pub stays : StaysBeyond (old.shape.banks * array_lines_of (module_of old.shape)) before after

module _ {n m e : ℕ} (row tick : ℕ) (old : ModuleState n m e) (before : ArrayState n m) (results : List (Outcome n)) (rises : old.tick ≤ tick) (above : old.rows_below ≤ row) (fresh : HasRow results row) where
  abbrev the_cut : Asked n
  the_cut = record { row = row; tick = tick; asks = Cuts }

  abbrev home : ℕ → ℕ
  home = bank_of_line old.shape old.seed

  abbrev number : ℕ → ℕ
  number = line_in_bank old.shape old.seed

  abbrev shape_of : ℕ → BankShape
  shape_of k = bank_shape (module_of old.shape) k

  falls_on : (h : ℕ → List (TimedEvent n m)) (asked : List (Asked n)) → Replays h asked old before results → RowsFall (the_cut ∷ asked)
  falls_on h asked f = (All-weaker (λ (b : Asked n). b.row < old.rows_below) (λ (b : Asked n). b.row < row) (λ b less. omega (arith, less, above)) asked f.below, f.rows)

  rows_there : (h : ℕ → List (TimedEvent n m)) (asked : List (Asked n)) → Replays h asked old before results → (recorded : List (Outcome n)) → length recorded ≡ length results
      → All (λ c. HasRow recorded c.row) (the_cut ∷ asked)
  rows_there h asked f recorded rows =
      All-cons (λ (c : Asked n). HasRow recorded c.row) the_cut asked (row_kept results recorded row rows fresh)
      (All-weaker (λ (c : Asked n). HasRow results c.row) (λ (c : Asked n). HasRow recorded c.row) (λ c has. row_kept results recorded c.row rows has) asked f.in_table)

  -- before the first bank is reached, as if the cut's row had its outcome
  pub cut_none : CutsUpTo the_cut old before results 0 old.banks before (as_if row (out.Cut tick) results)
  cut_none = record {
    ahead = λ k from. refl;
    rows = rows_as_if row (out.Cut tick) results;
    outcome = own_there row (out.Cut tick) results fresh;
    open_rows = λ other higher is. open_kept results (as_if row (out.Cut tick) results) other (rows_as_if row (out.Cut tick) results) (same other is.exists.above (λ e. omega (arith, e, higher))) is;
    replays = λ h asked f. ((λ k. []), λ k there. each h asked f k (slice_get old.banks k) (f.banks k there));
    others = λ other has off nowhere. same other has.above off;
    stays = stays_same _ before;
  }
    where
      same : (other : ℕ) → 1 ≤ other → other ≢ row → outcome_in (as_if row (out.Cut tick) results) other ≡ outcome_in results other
      same other some off = other_there row (out.Cut tick) results other fresh.above some off

      each : (h : ℕ → List (TimedEvent n m)) (asked : List (Asked n)) → Replays h asked old before results → (k : ℕ) → (o : Option (ClockState n m e))
          → IsSomeAnd o (BankReplays (shape_of k) (pacing_in old.shape) old.tick old.rows_below (h k) (asked_in_bank old k asked) before results)
          → IsSomeAnd o (BankReplays (shape_of k) (pacing_in old.shape) tick row (h k) (asked_in_bank old k (up_to the_cut 0 k asked)) before (as_if row (out.Cut tick) results))
      each h asked f k None is = is
      each h asked f k (Some c) is =
          subst (λ rows. BankReplays (shape_of k) (pacing_in old.shape) tick row (h k) (asked_in_bank old k rows) before (as_if row (out.Cut tick) results) c)
          (sym (ap (λ b. if b then the_cut ∷ asked else asked) (not_below k 0 (omega arith))))
          (stays_replayed (shape_of k) (pacing_in old.shape) old.tick old.rows_below tick row (h k) (asked_in_bank old k asked) c before before results (as_if row (out.Cut tick) results) is is.leads is.logged (rows_as_if row (out.Cut tick) results)
          (rows_of_bank_all home number (λ r. outcome_in (as_if row (out.Cut tick) results) r ≡ outcome_in results r) k asked
          (All-weaker (λ (b : Asked n). HasRow results b.row × (b.row < old.rows_below)) (λ (b : Asked n). outcome_in (as_if row (out.Cut tick) results) b.row ≡ outcome_in results b.row)
          (λ b known. same b.row known.0.above (λ e. omega (arith, e, known.1, above))) asked
          (λ j d within. (f.in_table j d within, f.below j d within)))) rises (omega (arith, above)))

  all_up_to : (P : Asked n → Type 0) (reached k : ℕ) (asked : List (Asked n)) → All P (the_cut ∷ asked) → All P (up_to the_cut reached k asked)
  all_up_to P reached k asked all = by (nat_lt k reached)
    where
      by : (b : Bool) → All P (if b then the_cut ∷ asked else asked)
      by true = all
      by false = All-tail P the_cut asked all

  own_up_to : (reached : ℕ) (asked : List (Asked n)) → asked_in_bank old reached (up_to the_cut reached reached asked) ≡ asked_in_bank old reached asked
  own_up_to reached asked = ap (λ b. asked_in_bank old reached (if b then the_cut ∷ asked else asked)) (not_below reached reached (omega arith))

  apart_up_to : (reached other : ℕ) (asked : List (Asked n)) → RowsFall (the_cut ∷ asked) → other ≢ reached
      → All (λ c. names (the_cut ∷ asked_in_bank old reached asked) c.row ≡ false) (asked_in_bank old other (up_to the_cut reached other asked))
  apart_up_to reached other asked falls off = by (nat_lt other reached) (apart_rows home number reached other (λ e. off (sym e)) (the_cut ∷ asked) falls)
    where
      P : Asked n → Type 0
      P c = names (the_cut ∷ asked_in_bank old reached asked) c.row ≡ false

      by : (b : Bool) → All P (asked_in_bank old other (the_cut ∷ asked)) → All P (asked_in_bank old other (if b then the_cut ∷ asked else asked))
      by true all = all
      by false all = All-tail P the_cut (asked_in_bank old other asked) all

  -- what was asked of the bank that the cut reaches next, and of the others
  own_next : (reached : ℕ) (asked : List (Asked n))
      → asked_in_bank old reached (up_to the_cut (reached + 1) reached asked) ≡ the_cut ∷ asked_in_bank old reached (up_to the_cut reached reached asked)
  own_next reached asked =
      ap (λ b. asked_in_bank old reached (if b then the_cut ∷ asked else asked)) (lt-ltb reached (reached + 1) (omega arith))
      ∙ ap (λ (own : List (Asked n)). the_cut ∷ own) (sym (own_up_to reached asked))

  other_next : (reached : ℕ) (asked : List (Asked n)) (k : ℕ) → k ≢ reached
      → asked_in_bank old k (up_to the_cut (reached + 1) k asked) ≡ asked_in_bank old k (up_to the_cut reached k asked)
  other_next reached asked k off = ap (λ b. asked_in_bank old k (if b then the_cut ∷ asked else asked)) (below_next k reached off)

  module _ (reached : ℕ) (banks : List (ClockState n m e)) (between : ArrayState n m) (recorded : List (Outcome n)) (clock : ClockState n m e)
      (exists : reached < old.shape.banks) (is : slice_get banks reached ≡ Some clock)
      (so_far : CutsUpTo the_cut old before results reached banks between recorded) where
    -- the bank that is next replays what was asked of it
    pub cut_replays : (h : ℕ → List (TimedEvent n m)) (asked : List (Asked n)) (f : Replays h asked old before results)
        → BankReplays (shape_of reached) (pacing_in old.shape) tick row ((so_far.replays h asked f).0 reached ++ h reached) (asked_in_bank old reached asked) between recorded clock
    cut_replays h asked f =
        subst (λ own. BankReplays (shape_of reached) (pacing_in old.shape) tick row ((so_far.replays h asked f).0 reached ++ h reached) own between recorded clock) (own_up_to reached asked)
        (from_get (BankReplays (shape_of reached) (pacing_in old.shape) tick row ((so_far.replays h asked f).0 reached ++ h reached) (asked_in_bank old reached (up_to the_cut reached reached asked)) between recorded)
        (slice_get banks reached) clock is ((so_far.replays h asked f).1 reached exists))

    module _ (after : ArrayState n m) (ended : List (Outcome n)) (next : ClockState n m e) (at : IsAt tick row next ended)
        (step : (xs : List (TimedEvent n m)) → Leads xs clock between → (added : List (TimedEvent n m)) × IsStep xs added the_cut clock next between after recorded ended) where
      replays_on : (h : ℕ → List (TimedEvent n m)) (asked : List (Asked n)) → Replays h asked old before results
          → (added : ℕ → List (TimedEvent n m))
          × AllReplay (module_of old.shape) (pacing_in old.shape) tick row (λ k. added k ++ h k) (λ k. asked_in_bank old k (up_to the_cut (reached + 1) k asked)) after ended (slice_set banks reached next)
      replays_on h asked f =
          let went = so_far.replays h asked f in
          let first = cut_replays h asked f in
          let s = step (went.0 reached ++ h reached) first.leads in
          let falls = falls_on h asked f in
          let here = own_up_to reached asked in
          let added : ℕ → List (TimedEvent n m) = changed reached (s.0 ++ went.0 reached) went.0 in
          let has : (k : ℕ) → All (λ c. HasRow recorded c.row) (asked_in_bank old k (up_to the_cut reached k asked)) =
          λ k. rows_of_bank_all home number (HasRow recorded) k (up_to the_cut reached k asked) (all_up_to (λ (c : Asked n). HasRow recorded c.row) reached k asked (rows_there h asked f recorded so_far.rows)) in (
            added,
            all_step (module_of old.shape) (pacing_in old.shape) tick row tick row reached (λ k. went.0 k ++ h k) (λ k. added k ++ h k)
                (λ k. asked_in_bank old k (up_to the_cut reached k asked)) (λ k. asked_in_bank old k (up_to the_cut (reached + 1) k asked)) banks s.0 the_cut clock next between after recorded ended
                went.1 exists is s.1 at
                (ap (λ (a : List (TimedEvent n m)). a ++ h reached) (changed_at reached (s.0 ++ went.0 reached) went.0 reached refl) ∙ append_assoc s.0 (went.0 reached) (h reached))
                (λ k off. ap (λ (a : List (TimedEvent n m)). a ++ h k) (changed_off reached (s.0 ++ went.0 reached) went.0 k off))
                (own_next reached asked) (other_next reached asked)
                (All-cons (λ (c : Asked n). HasRow recorded c.row) the_cut (asked_in_bank old reached (up_to the_cut reached reached asked)) (row_kept results recorded row so_far.rows fresh) (has reached))
                (subst (λ own. All (λ c. is_numbered c.asks ≡ false → names (the_cut ∷ own) c.row ≡ false) (the_cut ∷ own)) (sym here) (cuts_apart home number reached (the_cut ∷ asked) falls))
                so_far.outcome
                (λ other off. has other)
                (λ other off. subst (λ own. All (λ c. names (the_cut ∷ own) c.row ≡ false) (asked_in_bank old other (up_to the_cut reached other asked))) (sym here) (apart_up_to reached other asked falls off))
                (omega arith) (omega arith),
          )

      -- the next bank is cut
      pub cut_one : IsReplayed old before results → CutsUpTo the_cut old before results (reached + 1) (slice_set banks reached next) after ended
      cut_one led = record {
        ahead = λ k from. slice_get-set_other banks reached k next (λ e. absurd (omega (arith, from, e))) ∙ so_far.ahead k (omega (arith, from));
        rows = s.1.extends.rows ∙ so_far.rows;
        outcome = still row (row_kept results recorded row so_far.rows fresh) (omega arith) ∙ so_far.outcome;
        open_rows = λ other higher before_it.
            let unset = so_far.open_rows other higher before_it in
            open_kept recorded ended other s.1.extends.rows (still other unset.exists (omega arith)) unset;
        replays = replays_on;
        others = λ other had off nowhere.
            let stood = subst (λ (c : ClockState n m e). (has_row c.bank.kept.entries other ≡ false) × (has_waiting c.bank.waiting other ≡ false))
            (bank_there old reached clock (sym (so_far.ahead reached (omega arith)) ∙ is)) (nowhere reached exists) in
            left_alone xs clock between first.leads s.0 next after recorded ended s.1.extends other (row_kept results recorded other so_far.rows had) stood.0 stood.1 (s.1.alone other off)
            ∙ so_far.others other had off nowhere;
        stays = stays_both _ before between after so_far.stays (stays_by (module_of old.shape) reached clock.bank.kept.shape s.0 between after exists first.shaped s.1.extends.adds);
      }
        where
          xs : List (TimedEvent n m)
          xs = (so_far.replays led.0 led.1 led.2).0 reached ++ led.0 reached

          first : BankReplays (shape_of reached) (pacing_in old.shape) tick row ((so_far.replays led.0 led.1 led.2).0 reached ++ led.0 reached) (asked_in_bank old reached led.1) between recorded clock
          first = cut_replays led.0 led.1 led.2

          s : (added : List (TimedEvent n m)) × IsStep ((so_far.replays led.0 led.1 led.2).0 reached ++ led.0 reached) added the_cut clock next between after recorded ended
          s = step ((so_far.replays led.0 led.1 led.2).0 reached ++ led.0 reached) first.leads

          -- the cut's row and those behind it keep their outcomes
          still : (r : ℕ) → HasRow recorded r → row ≤ r → outcome_in ended r ≡ outcome_in recorded r
          still r has high =
              untouched ((so_far.replays led.0 led.1 led.2).0 reached ++ led.0 reached) clock between first.leads s.0 next after recorded ended s.1.extends r has
              (not_named r (s.0 ++ ((so_far.replays led.0 led.1 led.2).0 reached ++ led.0 reached)) (the_cut ∷ asked_in_bank old reached led.1)
              (s.1.arrives (asked_in_bank old reached led.1) first.arrived)
              (above_all home number reached led.1 r
              (All-weaker (λ (c : Asked n). c.row < old.rows_below) (λ (c : Asked n). c.row < r) (λ c less. omega (arith, less, above, high)) led.1 led.2.below)))

  -- all banks are cut
  pub cut_every : (reached : ℕ) (banks : List (ClockState n m e)) (after : ArrayState n m) (recorded : List (Outcome n)) → reached ≡ old.shape.banks
      → CutsUpTo the_cut old before results reached banks after recorded
      → Takes the_cut old (record old { banks = banks; tick = tick; rows_below = row + 1 }) before after results recorded
  cut_every reached banks after recorded all so_far = record {
    shape = refl;
    seed = refl;
    tick = refl;
    rows = refl;
    going = refl;
    table = so_far.rows;
    replays = λ h asked f.
        let went = so_far.replays h asked f in (
          went.0,
          record {
            size = so_far.stays.lines ∙ f.size;
            banks = λ k there. subst (λ rows. IsSomeAnd (slice_get banks k) (BankReplays (shape_of k) (pacing_in old.shape) tick (row + 1) (went.0 k ++ h k) (asked_in_bank old k rows) after recorded))
                (ap (λ b. if b then the_cut ∷ asked else asked) (lt-ltb k reached (omega (arith, there, all))))
                (later_replays (shape_of k) (pacing_in old.shape) tick tick row (row + 1) (went.0 k ++ h k) (asked_in_bank old k (up_to the_cut reached k asked)) after recorded (slice_get banks k)
                (omega arith) (omega arith) (went.1 k there));
            exist = All-cons (λ (c : Asked n). IsOfLines (total_of old.shape) c.asks) the_cut asked tt f.exist;
            ticks = (All-weaker (λ (c : Asked n). c.tick ≤ old.tick) (λ (c : Asked n). c.tick ≤ tick) (λ c le. omega (arith, le, rises)) asked f.in_time, f.ticks);
            in_time = All-cons (λ (c : Asked n). c.tick ≤ tick) the_cut asked (omega arith)
                (All-weaker (λ (c : Asked n). c.tick ≤ old.tick) (λ (c : Asked n). c.tick ≤ tick) (λ c le. omega (arith, le, rises)) asked f.in_time);
            rows = falls_on h asked f;
            below = All-cons (λ (c : Asked n). c.row < row + 1) the_cut asked (omega arith)
                (All-weaker (λ (c : Asked n). c.row < old.rows_below) (λ (c : Asked n). c.row < row + 1) (λ c less. omega (arith, less, above)) asked f.below);
            in_table = rows_there h asked f recorded so_far.rows;
          },
        );
    open_rows = so_far.open_rows;
    others = so_far.others;
    stays = so_far.stays;
  }

-- while the cut goes from bank to bank, only the banks change; its own row is still open, and the banks are told of as if it weren't
pub record IsCutting {n m e : ℕ} (row tick reached : ℕ) (raw : RawShape) (seed : ℕ) (network : Network) (banks : List (ClockState n m e)) (now rows : ℕ) (finished : Bool)
    (old : ModuleState n m e) (before after : ArrayState n m) (results recorded : List (Outcome n)) : Type 0 where
  pub is : IsModule raw seed network banks now
  pub same : record { shape = raw; seed = seed; banks = old.banks; tick = now; rows_below = rows; finished = finished } ≡ old
  pub cuts : CutsUpTo (record { row = row; tick = tick; asks = Cuts }) old before results reached banks after (as_if row (out.Cut tick) recorded)
  pub fresh : IsOpen recorded row

pub in_list : (at banks raw items : ℕ) → at < banks → raw ≡ banks → items ≡ raw → at < items
in_list at banks raw items below same counted = omega arith
