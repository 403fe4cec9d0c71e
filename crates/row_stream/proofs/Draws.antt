-- How drawn rows are served.
use Rattle.std.proofs.Common.{◌≡◌, ℕ, ◌+◌, ◌<◌, ◌≤◌, Bool, true, false, List, [], ◌∷◌, ◌++◌, length, reverse, refl, sym, ap, ◌∙◌, subst, arith}
use Rattle.std.proofs.{Math.Nat.one-le-mul, lemmas.List.append-nil}
use Rattle.masked_bytes.proofs.Lists.{turned}
use Rattle.cell_rows.specs.Device.{ArrayState}
use Rattle.module_shape.specs.{Limits.{IsShape, total_of}, declared.raw.RawShape.RawShape}
use Rattle.pcm_module.specs.State.{ModuleState}
use Rattle.row_printer.specs.{Printing.table_of, Refusing.any_refused, declared.snapshot.Snapshot.Snapshot, declared.told.Shown.Shown, declared.told.Told.Told}
use Rattle.trace_reader.{specs.Events.{AreEventsFor, IsEventFor}, specs.declared.event.Event.Event, proofs.Lawful.lawful-first}
use Rattle.trace_gen.specs.{Generated.{IsLongMix, generated}, Laws.IsGenerated, declared.mix.Mix.Mix}
use Rattle.trace_stream.specs.{Asked.events_in, Laws.all_events, declared.asked.Asked.Asked, declared.asked.Asked.TheVariants.Happens}
use Rattle.feistel_map.specs.{Log2.log2, Network.{Network, network_of}}
use Rattle.right_runs.specs.Banks.{bank_of_line}
use Rattle.drawn_parts.{specs.Parts.drawn_for, specs.declared.Banks.Banks, proofs.Picking.{for-few, lawful-for}}
use Rattle.row_stream.specs.{Asking.{behind_of, behind_op}, Refusing.WentOn, Serving.{IsServing, told_before, told_so_far}, declared.stop.Behind.Behind}
use Rattle.row_stream.{specs.declared.stop.Behind.TheVariants.Nothing, proofs.Refusals.{went-first, went-on}}

-- a module has a line
pub total-some : (raw : RawShape) → IsShape raw → 1 ≤ total_of raw
total-some raw is =
    let some : 1 ≤ raw.lines = omega (arith, is.some_lines) in
    one-le-mul (one-le-mul is.some_banks is.some_regions) some

-- of all drawn events the first were served, and these are left
pub record HasDrawn {n m e : ℕ} (stops : Bool) (raw : RawShape) (seed : ℕ) (module_ : ModuleState n m e) (array : ArrayState n m) (places : ℕ) (told : List (Told n)) (shown : Shown) (snaps : List Snapshot)
    (all left : List (Event n)) (behind : Behind) : Type 0 where
  pub asked : List (Asked n)
  pub serving : IsServing raw seed asked module_ array places told shown snaps
  pub went : WentOn stops asked (told_so_far serving)
  pub stands : behind ≡ behind_of asked
  pub drawn : reverse asked ++ all_events left ≡ all_events all
  pub lawful : AreEventsFor (total_of raw) module_.tick left
  pub few : length (events_in asked) + length left ≤ 4000000000

module _ {n m e : ℕ} {stops : Bool} (raw : RawShape) (seed : ℕ) where
  pub drawn-first : (module_ : ModuleState n m e) (array : ArrayState n m) (places : ℕ) (told : List (Told n)) (shown : Shown) (snaps : List Snapshot) (left : List (Event n)) (lines own : ℕ) (banks : Banks) (mix : Mix)
      → IsServing raw seed [] module_ array places told shown snaps → lines ≡ total_of raw → IsLongMix mix → IsGenerated lines mix (generated n own lines mix) → left ≡ generated n own lines mix
      → HasDrawn stops raw seed module_ array places told shown snaps (drawn_for raw own banks (generated n own (total_of raw) mix)) (drawn_for raw own banks left) Nothing
  drawn-first module_ array places told shown snaps left lines own banks mix serving is long drawn same =
      let all : List (Event n) = generated n own (total_of raw) mix in
      let P : ℕ → Type 0 = λ k. IsGenerated k mix (generated n own k mix) in
      let home : ℕ → ℕ = bank_of_line raw own in
      let picked : List (Event n) = drawn_for raw own banks all in
      let Q : ℕ → Type 0 = λ tick. AreEventsFor (total_of raw) tick picked in
      let R : List (Event n) → Type 0 = λ events. HasDrawn stops raw seed module_ array places told shown snaps picked (drawn_for raw own banks events) Nothing in
      let right : IsGenerated (total_of raw) mix all = subst P is drawn in
      let left_is : left ≡ all = same ∙ ap (λ (k : ℕ). generated n own k mix) is in
      subst R (sym left_is) (record {
        asked = [];
        serving = serving;
        went = went-first stops (told_so_far serving);
        stands = refl;
        drawn = refl;
        lawful = subst Q (sym serving.tick) (lawful-for home banks (total_of raw) 0 all right.lawful);
        few = let few = for-few home banks all in omega (arith, few, right.rows, long.few_rows);
      })

  module _ (module_ : ModuleState n m e) (array : ArrayState n m) (places : ℕ) (told : List (Told n)) (shown : Shown) (snaps : List Snapshot) (all left : List (Event n)) (behind : Behind)
      (had : HasDrawn stops raw seed module_ array places told shown snaps all left behind) where
    pub drawn-few : places < 4294967295
    drawn-few = omega (arith, had.serving.counted, had.few)

    next-drawn : (event : Event n) (rest : List (Event n)) → left ≡ event ∷ rest → IsEventFor (total_of raw) module_.tick event × AreEventsFor (total_of raw) event.tick rest
    next-drawn event rest is =
        let P : List (Event n) → Type 0 = λ events. AreEventsFor (total_of raw) module_.tick events in
        lawful-first (total_of raw) module_.tick event rest (subst P is had.lawful)

    pub drawn-next : (event : Event n) (rest : List (Event n)) → left ≡ event ∷ rest → IsEventFor (total_of module_.shape) module_.tick event
    drawn-next event rest is =
        let P : RawShape → Type 0 = λ shape. IsEventFor (total_of shape) module_.tick event in
        subst P (sym had.serving.served.shape) (next-drawn event rest is).0

    pub drawn-more : (event : Event n) (rest : List (Event n)) → left ≡ event ∷ rest
        → (new : ModuleState n m e) (after : ArrayState n m) (places2 : ℕ) (told2 : List (Told n)) (shown2 : Shown) (snaps2 : List Snapshot) (stands : Behind)
        → ((old : IsServing raw seed had.asked module_ array places told shown snaps)
        → (now : IsServing raw seed (Happens event ∷ had.asked) new after places2 told2 shown2 snaps2) × (told_before (Happens event) had.asked (told_so_far now) ≡ told_so_far old))
        → (stops ≡ true → any_refused (table_of places told) ≡ false) → stands ≡ behind_op event.op
        → HasDrawn stops raw seed new after places2 told2 shown2 snaps2 all rest stands
    drawn-more event rest is new after places2 told2 shown2 snaps2 stands serves none behinds =
        let served = serves had.serving in
        let P : ℕ → Type 0 = λ tick. AreEventsFor (total_of raw) tick rest in
        let size : length left ≡ length rest + 1 = ap length is ∙ omega arith in
        record {
          asked = Happens event ∷ had.asked;
          serving = served.0;
          went = went-on had.serving served.0 served.1 stops none;
          stands = behinds;
          drawn = turned (Happens event) had.asked (all_events rest) ∙ ap (λ (events : List (Event n)). reverse had.asked ++ all_events events) (sym is) ∙ had.drawn;
          lawful = subst P (sym served.0.tick) (next-drawn event rest is).1;
          few = omega (arith, size, had.few);
        }

    -- none is left
    pub drawn-all : left ≡ [] → reverse had.asked ≡ all_events all
    drawn-all none =
        let P : List (Event n) → Type 0 = λ events. reverse had.asked ++ all_events events ≡ all_events all in
        sym (append-nil (reverse had.asked)) ∙ subst P none had.drawn

module _ {n : ℕ} (shape raw : RawShape) (network : Network) (bits own : ℕ) (banks : Banks) (old : List (Event n)) where
  -- the next event that is picked, by the randomiser of a seed
  pub next-for : (new : List (Event n)) (event : Event n) → shape ≡ raw → network ≡ network_of bits own → bits ≡ log2 (total_of shape)
      → ((seed : ℕ) → network ≡ network_of (log2 (total_of shape)) seed → drawn_for shape seed banks old ≡ event ∷ drawn_for shape seed banks new)
      → drawn_for raw own banks old ≡ event ∷ drawn_for raw own banks new
  next-for new event same keys size picks =
      let P : RawShape → Type 0 = λ shape. drawn_for shape own banks old ≡ event ∷ drawn_for shape own banks new in
      subst P same (picks own (keys ∙ ap (λ (b : ℕ). network_of b own) size))

  -- or there is none
  pub none-for : shape ≡ raw → network ≡ network_of bits own → bits ≡ log2 (total_of shape)
      → ((seed : ℕ) → network ≡ network_of (log2 (total_of shape)) seed → drawn_for shape seed banks old ≡ []) → drawn_for raw own banks old ≡ []
  none-for same keys size picks =
      let P : RawShape → Type 0 = λ shape. drawn_for shape own banks old ≡ [] in
      subst P same (picks own (keys ∙ ap (λ (b : ℕ). network_of b own) size))
