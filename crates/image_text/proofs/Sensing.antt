-- An array that is sensed line by line.
use Rattle.std.proofs.Common.{◌≡◌, ◌≢◌, ℕ, ◌+◌, inl, inr, arith, Bool, cond, Option, ◌∷◌, [], ◌++◌, refl, sym, ap, subst, ◌∙◌, append_assoc}
use Rattle.std.{specs.Prelude.nat_lt, proofs.lemmas.Bool.{cases_eq, cases_lt, le-ltb, lt-ltb}, proofs.lemmas.List.append-nil, proofs.lemmas.List.FromFn.map-range_with_len_more}
use Rattle.cell_rows.specs.{Device.{ArrayState, Senses, sense_of}, Energy.with_sense, declared.array.LineEnergy.LineEnergy, declared.array.Sense.Sense, declared.row.Cells.Cells}
use Rattle.pcm_image.specs.Saved.{IsSavedRow}
use Rattle.right_images.specs.SensedSince.{SensedSince, first_senses}
use Rattle.image_text.specs.Sensing.{SensesRows}

-- what is told of a line's energy where it was sensed, or was not
abbrev counted : Bool → Option LineEnergy → Option LineEnergy
counted sensed energy = cond sensed (with_sense energy) energy

pub sensed-none : {n m : ℕ} (array : ArrayState n m) → SensedSince 0 array array
sensed-none array = record {
  line = λ number. refl;
  lines = refl;
  tears = refl;
  wear = refl;
  bounds = refl;
  log = λ log told. (log, told, sym (append-nil log));
  energy = λ number. sym (ap (λ b. counted b (array.energy number)) (le-ltb number 0 (omega arith)));
}

-- another line than the one behind was sensed with it if it was before
also : (number count : ℕ) → number ≢ count → nat_lt number count ≡ nat_lt number (count + 1)
also number count other =
    elim (cases_lt number count) as (λ _. nat_lt number count ≡ nat_lt number (count + 1)) [
      | inl low ↦ lt-ltb number count low ∙ sym (lt-ltb number (count + 1) (omega (arith, low)))
      | inr high ↦ le-ltb number count high ∙ sym (le-ltb number (count + 1) (omega (arith, high, other)))
    ]

-- the line behind those that were sensed is sensed
sensed-more : {n m : ℕ} (first old new : ArrayState n m) (count : ℕ) → SensedSince count first old → Senses (sense_of count 0 (old.line count)) old new → SensedSince (count + 1) first new
sensed-more {n} {m} first old new count since senses = record {
  line = λ number. senses.line number ∙ since.line number;
  lines = senses.lines ∙ since.lines;
  tears = senses.tears ∙ since.tears;
  wear = senses.wear ∙ since.wear;
  bounds = senses.bounds ∙ since.bounds;
  log = λ log told.
      let last = senses.log log told in
      let had = since.log last.0 last.1 in
      let one : Sense n m = sense_of count 0 (old.line count) in
      let shows : one ≡ sense_of count 0 (first.line count) = ap (λ l. sense_of count 0 l) (since.line count) in (
        had.0,
        had.1,
        last.2 ∙ ap (λ l. l ++ one ∷ []) had.2 ∙ append_assoc had.0 (first_senses first count) (one ∷ [])
            ∙ ap (λ l. had.0 ++ l)
            (ap (λ s. first_senses first count ++ s ∷ []) shows ∙ sym (map-range_with_len_more (λ line. sense_of line 0 (first.line line)) 0 count count (omega arith))),
      );
  energy = λ number.
      elim (cases_eq number count) as (λ _. new.energy number ≡ counted (nat_lt number (count + 1)) (first.energy number)) [
        | inl same ↦
            let before : old.energy count ≡ first.energy count = since.energy count ∙ ap (λ b. counted b (first.energy count)) (le-ltb count count (omega arith)) in
            rw same
            (senses.energy.here ∙ ap with_sense before ∙ sym (ap (λ b. counted b (first.energy count)) (lt-ltb count (count + 1) (omega arith))))
        | inr other ↦ senses.energy.others number other ∙ since.energy number ∙ ap (λ b. counted b (first.energy number)) (also number count other)
      ];
}

pub senses-none : {n m : ℕ} (array : ArrayState n m) → SensesRows 0 array array
senses-none array = record { since = sensed-none array; rows = λ line lt. absurd (omega (arith, lt)) }

-- so is its row, which has the bytes of a line
pub senses-more : {n m : ℕ} (first old new : ArrayState n m) (count : ℕ) (row : Cells n m) → row ≡ (old.line count).held → IsSavedRow n m row
    → SensesRows count first old → Senses (sense_of count 0 (old.line count)) old new → SensesRows (count + 1) first new
senses-more {n} {m} first old new count row is fits had senses = record {
  since = sensed-more first old new count had.since senses;
  rows = λ line lt.
      subst (λ l. IsSavedRow n m l.held) (sym (senses.line line))
      (elim (cases_eq line count) [
        | inl same ↦ subst (λ k. IsSavedRow n m (old.line k).held) (sym same) (subst (λ r. IsSavedRow n m r) is fits)
        | inr other ↦ had.rows line (omega arith)
      ]);
}
