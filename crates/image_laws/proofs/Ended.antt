-- What is saved of a bank is that of its end: its counters are those of its stores by the rows, and its spares those of its table.
use Rattle.std.proofs.Common.{◌≡◌, ℕ, ◌+◌, ◌*◌, ◌/◌, ◌%◌, ◌<◌, ◌≤◌, ◌==◌, ◌&&◌, ◌||◌, ◌⊎◌, inl, inr, Bool, true, List, map, length, get_or, sym, ap, ◌∙◌, subst, arith, eqb-true}
use Rattle.std.proofs.{Math.ListN.get_or-map, Math.Nat.div-add-mod, lemmas.Bool.{cases_lt, or_cases}, lemmas.Nat.mul-le}
use Rattle.cell_rows.specs.Device.{ArrayState}
use Rattle.start_gap.specs.Rotation.{Rotation, StandsFor, turn}
use Rattle.row_rules.specs.{Answers.is_stored, declared.Row.Row}
use Rattle.bank_shape.specs.{Shape.slots_of, declared.BankShape.BankShape, declared.pace.Pace.Pace}
use Rattle.power_recovery.specs.Kept.{KeptState, region_at, no_region as no_kept}
use Rattle.bank_model.specs.{History.{moved_in, stored_in}, Lawful.Lawful, Sensing.most_steps, Timing.{TimedEvent, core}}
use Rattle.bank_invariant.specs.{Holds.Holds, State.BankState}
use Rattle.ecp_line.specs.ArrayLines.{is_worn_at}
use Rattle.bank_laws.{specs.Outcomes.table_of, proofs.Waiting.may_all}
use Rattle.right_runs.specs.{Ends.{is_moved_to, BankEnd}, Places.region_stores, Roles.used_spares, WornLines.may_leave}
use Rattle.place_laws.proofs.{Moved.region_stores-counted, Moves.keeps, Placed.{between_products, at_product}}
use Rattle.module_shape.specs.{Addresses.{module_of, bank_shape}, declared.raw.RawShape.RawShape}
use Rattle.end_laws.{specs.EndLaws.IsEndOf, proofs.Used.used-same}
use Rattle.pcm_image.specs.Standing.{no_region}
use Rattle.right_images.specs.{SavedBanks.SavesEnd, Saving.{head_of, saved_bank, saved_region}}
use Rattle.image_laws.proofs.Keeping.{registers-saved, slots-saved}
use Rattle.masked_bytes.proofs.Truth.{and_first}

-- two successive numbers leave different rests
next-rest : (a k : ℕ) → 2 ≤ k → (a + 1) % k ≡ a % k → ⊥
next-rest a k some same =
    let here : k * (a / k) + a % k ≡ a = div-add-mod a k in
    let next : k * ((a + 1) / k) + (a + 1) % k ≡ a + 1 = div-add-mod (a + 1) k in
    elim (cases_lt (a / k) ((a + 1) / k)) [
      | inl lt ↦
          let more : k * (a / k + 1) ≤ k * ((a + 1) / k) = mul-le k (a / k + 1) k ((a + 1) / k) (omega arith) (omega (arith, lt)) in
          let step : k * (a / k + 1) ≡ k * (a / k) + k = grind arith in
          omega (arith, here, next, same, more, step, some)
      | inr ge ↦
          let less : k * ((a + 1) / k) ≤ k * (a / k) = mul-le k ((a + 1) / k) k (a / k) (omega arith) (omega (arith, ge)) in
          omega (arith, here, next, same, less)
    ]

-- registers stand for one of two successive numbers of moves
one-count : (r : Rotation) (a b : ℕ) → 1 ≤ r.lines → StandsFor r a → StandsFor r b → (a ≡ b) ⊎ ((a + 1 ≡ b) ⊎ (b + 1 ≡ a)) → a ≡ b
one-count r a b some sa sb near = by near
  where
    long : 2 ≤ turn r.lines
    long =
        let product : 1 * 2 ≤ r.lines * (r.lines + 1) = mul-le 1 2 r.lines (r.lines + 1) (omega (arith, some)) (omega (arith, some)) in
        omega (arith, product)

    by : (a ≡ b) ⊎ ((a + 1 ≡ b) ⊎ (b + 1 ≡ a)) → a ≡ b
    by (inl same) = same
    by (inr (inl next)) = absurd (next-rest a (turn r.lines) long (ap (λ k. k % turn r.lines) next ∙ sb.moves ∙ sym sa.moves))
    by (inr (inr next)) = absurd (next-rest b (turn r.lines) long (ap (λ k. k % turn r.lines) next ∙ sa.moves ∙ sym sb.moves))

-- the number of moves by the rows is that of the history, or one off
moves-near : {n : ℕ} (off : Bool) (shape : BankShape) (worn : ℕ → Bool) (rows : List (Row n)) (region moves own : ℕ) → 1 ≤ shape.psi → is_moved_to off shape worn rows region moves ≡ true
    → shape.psi * own ≤ region_stores is_stored shape region rows → region_stores is_stored shape region rows ≤ shape.psi * (own + 1)
    → (moves ≡ own) ⊎ ((moves + 1 ≡ own) ⊎ (own + 1 ≡ moves))
moves-near off shape worn rows region moves own psi is few near = by moved counted
  where
    count : ℕ
    count = region_stores is_stored shape region rows

    moved : (moves ≡ count / shape.psi) ⊎ (moves + 1 ≡ count / shape.psi)
    moved =
        elim (or_cases (moves == count / shape.psi) (moves + 1 == count / shape.psi && (count % shape.psi == 0 && (off || may_leave shape worn))) is) [
          | inl all ↦ inl (eqb-true moves (count / shape.psi) all)
          | inr less ↦ inr (eqb-true (moves + 1) (count / shape.psi) (and_first _ _ less))
        ]

    counted : (own ≡ count / shape.psi) ⊎ (own + 1 ≡ count / shape.psi)
    counted =
        elim (cases_lt count (shape.psi * (own + 1))) [
          | inl lt ↦ inl (sym (between_products shape.psi own count few lt))
          | inr ge ↦ inr (sym (ap (λ k. k / shape.psi) (le-both count (shape.psi * (own + 1)) near ge) ∙ (at_product shape.psi own psi).1))
        ]
      where
        le-both : (a b : ℕ) → a ≤ b → b ≤ a → a ≡ b
        le-both a b p q = omega (arith, p, q)

    by : (moves ≡ count / shape.psi) ⊎ (moves + 1 ≡ count / shape.psi) → (own ≡ count / shape.psi) ⊎ (own + 1 ≡ count / shape.psi)
        → (moves ≡ own) ⊎ ((moves + 1 ≡ own) ⊎ (own + 1 ≡ moves))
    by (inl a) (inl b) = inl (omega (arith, a, b))
    by (inl a) (inr b) = inr (inr (omega (arith, a, b)))
    by (inr a) (inl b) = inr (inl (omega (arith, a, b)))
    by (inr a) (inr b) = inl (omega (arith, a, b))

module _ {n m e : ℕ} (off : Bool) (raw : RawShape) (seed bank : ℕ) (pace : Pace) (xs : List (TimedEvent n m)) (state : BankState n m e) (array : ArrayState n m) (end : BankEnd)
    (shape : state.kept.shape ≡ bank_shape (module_of raw) bank) (psi : 1 ≤ raw.psi) (l : Lawful state.kept.shape pace e xs) (holds : Holds (core xs) state array) (ends : IsEndOf state.kept end)
    (moved : (region : ℕ) → region < raw.regions → is_moved_to off state.kept.shape (is_worn_at e array) (table_of state.kept.shape xs) region (end.moves region) ≡ true) where
  abbrev kept : KeptState n
  kept = state.kept

  psi-same : kept.shape.psi ≡ raw.psi
  psi-same = ap (λ (s : BankShape). s.psi) shape

  count : (region : ℕ) → region_stores is_stored kept.shape region (table_of kept.shape xs) ≡ stored_in kept.shape.lines (core xs) region
  count region = region_stores-counted kept.shape pace e xs region l

  -- the moves of its end are those of its history
  moves-same : (region : ℕ) → region < raw.regions → end.moves region ≡ moved_in kept.shape.lines (core xs) region
  moves-same region lt =
      let some : region < kept.shape.regions = omega (arith, lt, ap (λ (s : BankShape). s.regions) shape) in
      let own = holds.kept.regions region some in
      let m = keeps kept.shape (most_steps e) (core xs) (omega (arith, psi, psi-same)) (may_all kept.shape pace e xs l) in
      one-count (region_at kept region).rotation (end.moves region) (moved_in kept.shape.lines (core xs) region) own.in_range.rotates.some_lines
      (ends.moves region some) (holds.regions region some).registers
      (moves-near off kept.shape (is_worn_at e array) (table_of kept.shape xs) region (end.moves region) (moved_in kept.shape.lines (core xs) region) (omega (arith, psi, psi-same)) (moved region lt)
      (omega (arith, count region, m.few region)) (omega (arith, count region, m.near region)))

  counters : (region : ℕ) → region < raw.regions
      → (get_or (map saved_region kept.regions) region no_region).counter + raw.psi * end.moves region ≡ region_stores is_stored (bank_shape (module_of raw) bank) region (table_of kept.shape xs)
  counters region lt =
      let some : region < kept.shape.regions = omega (arith, lt, ap (λ (s : BankShape). s.regions) shape) in
      ap (λ r. r.counter + raw.psi * end.moves region) (get_or-map saved_region kept.regions region no_kept)
      ∙ ap (λ k. (region_at kept region).counter + raw.psi * k) (moves-same region lt)
      ∙ ap (λ p. (region_at kept region).counter + p * moved_in kept.shape.lines (core xs) region) (sym psi-same)
      ∙ (holds.regions region some).counter ∙ sym (count region) ∙ ap (λ (s : BankShape). region_stores is_stored s region (table_of kept.shape xs)) shape

  retired : (line : ℕ) → line < slots_of kept.shape + length kept.table.replaced → ((slot : ℕ) → slot < slots_of kept.shape → end.table slot ≡ kept.shape.base + line → ⊥)
      → is_worn_at e array (kept.shape.base + line) ≡ true
  retired line lt none = holds.tied.sound.worn line lt (λ slot some same. none slot some (ends.table slot some ∙ ap (λ k. kept.shape.base + k) same))

  pub saves-end : SavesEnd (head_of raw seed) (bank_shape (module_of raw) bank) (is_worn_at e array) (table_of kept.shape xs) end (saved_bank kept)
  saves-end = record {
    registers = registers-saved raw seed bank kept holds.kept shape end ends;
    counters = counters;
    slots = slots-saved raw seed bank kept holds.kept shape end ends;
    used = used-same kept holds.kept end.table ends.table ∙ ap (λ (s : BankShape). used_spares s end.table) shape;
    retired = λ line lt none.
        subst (λ (s : BankShape). (line < slots_of s + length kept.table.replaced → ((slot : ℕ) → slot < slots_of s → end.table slot ≡ s.base + line → ⊥) → is_worn_at e array (s.base + line) ≡ true)) shape
        (retired line) lt none;
  }
