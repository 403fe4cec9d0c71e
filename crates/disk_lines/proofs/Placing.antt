-- The lines of a disk and those of its module are each other's.
use Rattle.std.proofs.Common.{◌≡◌, ℕ, ◌+◌, ◌*◌, ◌/◌, ◌%◌, ◌<◌, sym, ap, ◌∙◌, subst, arith}
use Rattle.std.proofs.{Math.Nat.{mul_comm, mul_assoc}, lemmas.Nat.{mod_below, mul-add-lt, div_below, div-add-mod', div-mul-add, mod-mul-add}}
use Rattle.module_shape.specs.{Addresses.{module_of, lines_of}, Limits.{IsShape, total_of}, declared.raw.RawShape.RawShape}
use Rattle.right_runs.specs.Banks.{bank_of_line, line_in_bank, line_named}
use Rattle.run_laws.{specs.FinishedLaws.AreNamed, proofs.Mixing.{are_named, bank-exists, line-exists}}
use Rattle.disk_lines.specs.Places.{ArePlaces, PlacesLaw, lies_at, own_of, place_of}

-- numbers of so many banks, regions and lines
module _ (banks regions lines : ℕ) (some_banks : 0 < banks) (some_regions : 0 < regions) (some_lines : 0 < lines) where
  abbrev round : ℕ → ℕ
  round line = line / banks

  module _ (line : ℕ) (exists : line < banks * regions * lines) where
    round-below : round line < lines * regions
    round-below =
        div_below line banks (lines * regions) some_banks
        (subst (λ (all : ℕ). line < all) (mul_assoc banks regions lines ∙ mul_comm banks (regions * lines) ∙ ap (λ (k : ℕ). k * banks) (mul_comm regions lines)) exists)

    offset-below : round line / regions < lines
    offset-below = div_below (round line) regions lines some_regions round-below

    pub own-below : round line % regions * lines + round line / regions < regions * lines
    own-below =
        subst (λ (all : ℕ). round line % regions * lines + round line / regions < all) (mul_comm lines regions)
        (mul-add-lt (round line % regions) lines (round line / regions) regions (mod_below (round line) regions some_regions) offset-below)

    -- the line by its bank and its number there
    pub back : ((round line % regions * lines + round line / regions) % lines * regions + (round line % regions * lines + round line / regions) / lines) * banks + line % banks ≡ line
    back =
        ap (λ (k : ℕ). (k * regions + (round line % regions * lines + round line / regions) / lines) * banks + line % banks) (mod-mul-add (round line % regions) lines (round line / regions) offset-below)
        ∙ ap (λ (k : ℕ). (round line / regions * regions + k) * banks + line % banks) (div-mul-add (round line % regions) lines (round line / regions) offset-below)
        ∙ ap (λ (k : ℕ). k * banks + line % banks) (div-add-mod' (round line) regions)
        ∙ div-add-mod' line banks

  module _ (bank own : ℕ) (few : bank < banks) (below : own < regions * lines) where
    abbrev at : ℕ
    at = own % lines * regions + own / lines

    region-below : own / lines < regions
    region-below = div_below own lines regions some_lines below

    at-below : at < regions * lines
    at-below = mul-add-lt (own % lines) regions (own / lines) lines (mod_below own lines some_lines) region-below

    pub there-below : at * banks + bank < banks * regions * lines
    there-below =
        subst (λ (all : ℕ). at * banks + bank < all) (sym (mul_assoc banks regions lines)) (mul-add-lt at banks bank (regions * lines) at-below few)

    pub there-bank : (at * banks + bank) % banks ≡ bank
    there-bank = mod-mul-add at banks bank few

    pub there-own : (at * banks + bank) / banks % regions * lines + (at * banks + bank) / banks / regions ≡ own
    there-own =
        ap (λ (k : ℕ). k % regions * lines + k / regions) (div-mul-add at banks bank few)
        ∙ ap (λ (k : ℕ). k * lines + at / regions) (mod-mul-add (own % lines) regions (own / lines) region-below)
        ∙ ap (λ (k : ℕ). own / lines * lines + k) (div-mul-add (own % lines) regions (own / lines) region-below)
        ∙ div-add-mod' own lines

module _ (raw : RawShape) (seed : ℕ) (is : IsShape raw) where
  some_banks : 0 < raw.banks
  some_banks = is.some_banks

  some_regions : 0 < raw.regions
  some_regions = is.some_regions

  some_lines : 0 < raw.lines
  some_lines = omega (arith, is.some_lines)

  named : AreNamed raw seed
  named = are_named raw seed is

  pub bank-there : (line : ℕ) → line % raw.banks < raw.banks
  bank-there line = mod_below line raw.banks some_banks

  pub own-there : (line : ℕ) → line < total_of raw → own_of raw line < lines_of (module_of raw)
  own-there line exists = own-below raw.banks raw.regions raw.lines some_banks some_regions some_lines line exists

  pub place-bank : (line : ℕ) → line < total_of raw → bank_of_line raw seed (place_of raw seed line) ≡ line % raw.banks
  place-bank line exists = named.bank (line % raw.banks) (own_of raw line) (own-there line exists)

  pub place-exists : (line : ℕ) → line < total_of raw → place_of raw seed line < total_of raw
  place-exists line exists = named.exists (line % raw.banks) (own_of raw line) (bank-there line) (own-there line exists)

  place-back : (line : ℕ) → line < total_of raw → lies_at raw (bank_of_line raw seed (place_of raw seed line)) (line_in_bank raw seed (place_of raw seed line)) ≡ line
  place-back line exists =
      ap (λ (bank : ℕ). lies_at raw bank (line_in_bank raw seed (place_of raw seed line))) (place-bank line exists)
      ∙ ap (lies_at raw (line % raw.banks)) (named.number (line % raw.banks) (own_of raw line) (own-there line exists))
      ∙ back raw.banks raw.regions raw.lines some_banks some_regions some_lines line exists

  pub place-apart : (line other : ℕ) → line < total_of raw → other < total_of raw → place_of raw seed line ≡ place_of raw seed other → line ≡ other
  place-apart line other exists also same =
      sym (place-back line exists) ∙ ap (λ (place : ℕ). lies_at raw (bank_of_line raw seed place) (line_in_bank raw seed place)) same ∙ place-back other also

  pub are_places : ArePlaces raw seed
  are_places = record {
    exists = place-exists;
    round = place-bank;
    apart = place-apart;
    each = λ place exists.
        let bank = bank_of_line raw seed place in
        let own = line_in_bank raw seed place in
        let few = bank-exists raw seed is place exists in
        let below = line-exists raw seed is place in (
          lies_at raw bank own,
          there-below raw.banks raw.regions raw.lines some_banks some_regions some_lines bank own few below,
          ap (λ (b : ℕ). line_named raw seed b (own_of raw (lies_at raw bank own))) (there-bank raw.banks raw.regions raw.lines some_banks some_regions some_lines bank own few below)
              ∙ ap (line_named raw seed bank) (there-own raw.banks raw.regions raw.lines some_banks some_regions some_lines bank own few below)
              ∙ named.named place,
        );
  }

pub places_law : PlacesLaw
places_law raw seed is = are_places raw seed is
