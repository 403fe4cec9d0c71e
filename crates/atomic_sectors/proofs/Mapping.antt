-- What stands in the sectors while the free block is written, and behind the write of a word.
use Rattle.std.proofs.Common.{◌≡◌, ◌≢◌, ℕ, ◌+◌, ◌-◌, ◌*◌, ◌/◌, ◌<◌, ◌≤◌, ◌==◌, List, ◌∷◌, length, refl, sym, ◌∙◌, ap, subst, arith, inl, inr, if◌then◌else◌}
use Rattle.std.proofs.lemmas.Bool.{cases_eq, eq-eqb, ne_eqb, cond-true, cond-false}
use Rattle.atomic_sectors.specs.{Lines.{Write, stand}, Numbers.number_at}
use Rattle.atomic_sectors.specs.Sectors.{word_line, word_at, word_write, Fits, word, block_of, sector_line, IsMapped, Have, KeepsOthers, StandFrom, with_sector}
use Rattle.atomic_sectors.{specs.declared.layout.Layout.Layout, proofs.Digits.{number_at-written, number_at-other}, proofs.Fitting.sectors_few}
use Rattle.atomic_sectors.proofs.{Places.{in_block, blocks_apart, words_apart}, Standing.{length-stand, stand-other, stand-same}, Totals.{total-same, total-changed}}

-- the block that a word means for a sector
abbrev pub block_by : ℕ → ℕ → ℕ
block_by sector word = if word == 0 then sector else word - 1

module _ (n : ℕ) (layout : Layout) (lines : ℕ) (fits : Fits n layout lines) where
  -- a word's four bytes are in its line
  pub word_within : (s : ℕ) → word_at n layout s + 4 ≤ n
  word_within s = grind arith

  -- the blocks end where the map begins
  pub before_map : (s : ℕ) → (layout.sectors + 1) * layout.block ≤ word_line n layout s
  before_map s = omega arith

  module _ (old : List Write) (free : ℕ) (mapped : IsMapped n layout (stand n old) free) where
    module _ (mid : List Write) (kept : KeepsOthers n (free * layout.block) layout.block old mid) where
      -- while the free block is written, no word changes,
      pub word-kept : (s : ℕ) → word n layout (stand n mid) s ≡ word n layout (stand n old) s
      word-kept s =
          let block : free * layout.block + layout.block ≤ word_line n layout s = omega (arith, in_block layout.block layout.sectors free (layout.block - 1) mapped.free_exists (omega (arith, fits.some)), before_map s, fits.some) in
          ap (λ (bytes : List ℕ). number_at bytes (word_at n layout s)) (kept (word_line n layout s) (inr block))

      pub block-kept : (s : ℕ) → block_of n layout (stand n mid) s ≡ block_of n layout (stand n old) s
      block-kept s = ap (block_by s) (word-kept s)

      -- and no line of a sector
      pub line-kept : (s i : ℕ) → s < layout.sectors → i < layout.block → stand n mid (block_of n layout (stand n old) s * layout.block + i) ≡ sector_line n layout (stand n old) s i
      line-kept s i exists within = kept _ (blocks_apart layout.block (block_of n layout (stand n old) s) free i (mapped.free_apart s exists) within)

      pub have-kept : Have n layout (stand n mid) (sector_line n layout (stand n old))
      have-kept s i exists within = ap (λ b. stand n mid (b * layout.block + i)) (block-kept s) ∙ line-kept s i exists within

      pub mapped-kept : IsMapped n layout (stand n mid) free
      mapped-kept = record {
        exists = λ s exists. subst (λ b. b ≤ layout.sectors) (sym (block-kept s)) (mapped.exists s exists);
        apart = λ s t s_exists t_exists same. mapped.apart s t s_exists t_exists (sym (block-kept s) ∙ same ∙ block-kept t);
        free_exists = mapped.free_exists;
        free_apart = λ s exists same. mapped.free_apart s exists (sym (block-kept s) ∙ same);
        all = ap (λ x. x + free) (total-same (block_of n layout (stand n mid)) (block_of n layout (stand n old)) layout.sectors (λ s exists. block-kept s)) ∙ mapped.all;
      }

      module _ (sector : ℕ) (is_one : sector < layout.sectors) where
        abbrev new : List Write
        new = word_write n layout sector (free + 1) ∷ mid

        -- behind the write of its word the sector stands in the block that was free,
        pub word-written : word n layout (stand n new) sector ≡ free + 1
        word-written =
            ap (λ (bytes : List ℕ). number_at bytes (word_at n layout sector)) (stand-same n (word_write n layout sector (free + 1)) mid (word_line n layout sector) refl)
            ∙ number_at-written n (word_at n layout sector) (free + 1) (stand n mid (word_line n layout sector)) (word_within sector) (length-stand n mid (word_line n layout sector))
            (omega (arith, mapped.free_exists, sectors_few n layout lines fits))

        pub block-written : block_of n layout (stand n new) sector ≡ free
        block-written = ap (block_by sector) word-written ∙ cond-false _ _ _ (ne_eqb (free + 1) 0 (omega arith)) ∙ omega arith

        -- and every other where it stood
        pub word-other : (s : ℕ) → s ≢ sector → word n layout (stand n new) s ≡ word n layout (stand n mid) s
        word-other s other = elim (cases_eq (word_line n layout sector) (word_line n layout s)) [
          | inl same ↦
              let quotient : s / (n / 4) ≡ sector / (n / 4) = omega (arith, same) in
              ap (λ (bytes : List ℕ). number_at bytes (word_at n layout s)) (stand-same n (word_write n layout sector (free + 1)) mid (word_line n layout s) same)
              ∙ number_at-other n (word_at n layout sector) (free + 1) (stand n mid (word_line n layout s)) (word_within sector) (length-stand n mid (word_line n layout s))
              (word_at n layout s) (words_apart (n / 4) s sector other quotient) (word_within s)
          | inr apart ↦ ap (λ (bytes : List ℕ). number_at bytes (word_at n layout s)) (stand-other n (word_write n layout sector (free + 1)) mid (word_line n layout s) apart)
        ]

        pub block-other : (s : ℕ) → s ≢ sector → block_of n layout (stand n new) s ≡ block_of n layout (stand n old) s
        block-other s other = ap (block_by s) (word-other s other) ∙ block-kept s

        -- no line of a block changes then
        pub line-other : (b i : ℕ) → b ≤ layout.sectors → i < layout.block → stand n new (b * layout.block + i) ≡ stand n mid (b * layout.block + i)
        line-other b i exists within =
            let h = in_block layout.block layout.sectors b i exists within in
            stand-other n (word_write n layout sector (free + 1)) mid (b * layout.block + i) (λ same. absurd (omega (arith, same, h, before_map sector)))

        pub have-written : (from : List (List ℕ)) → length from ≡ layout.block → StandFrom n (free * layout.block) from mid
            → Have n layout (stand n new) (with_sector sector from (sector_line n layout (stand n old)))
        have-written from long stands s i exists within = elim (cases_eq s sector) [
          | inl same ↦
              ap (λ t. stand n new (block_of n layout (stand n new) t * layout.block + i)) same
              ∙ ap (λ b. stand n new (b * layout.block + i)) block-written
              ∙ line-other free i mapped.free_exists within
              ∙ stands i (omega (arith, long, within))
              ∙ sym (cond-true _ _ _ (eq-eqb s sector same))
          | inr other ↦
              ap (λ b. stand n new (b * layout.block + i)) (block-other s other)
              ∙ line-other (block_of n layout (stand n old) s) i (mapped.exists s exists) within
              ∙ line-kept s i exists within
              ∙ sym (cond-false _ _ _ (ne_eqb s sector other))
        ]

        -- and the block where it stood is free
        pub mapped-written : IsMapped n layout (stand n new) (block_of n layout (stand n old) sector)
        mapped-written = record {
          exists = λ s exists. elim (cases_eq s sector) [
            | inl same ↦ subst (λ b. b ≤ layout.sectors) (sym block-written ∙ ap (block_of n layout (stand n new)) (sym same)) mapped.free_exists
            | inr other ↦ subst (λ b. b ≤ layout.sectors) (sym (block-other s other)) (mapped.exists s exists)
          ];
          apart = λ s t s_exists t_exists same. elim (cases_eq s sector) [
            | inl s_is ↦ elim (cases_eq t sector) [
              | inl t_is ↦ s_is ∙ sym t_is
              | inr t_other ↦ absurd (mapped.free_apart t t_exists (sym (block-other t t_other) ∙ sym same ∙ ap (block_of n layout (stand n new)) s_is ∙ block-written))
            ]
            | inr s_other ↦ elim (cases_eq t sector) [
              | inl t_is ↦ absurd (mapped.free_apart s s_exists (sym (block-other s s_other) ∙ same ∙ ap (block_of n layout (stand n new)) t_is ∙ block-written))
              | inr t_other ↦ mapped.apart s t s_exists t_exists (sym (block-other s s_other) ∙ same ∙ block-other t t_other)
            ]
          ];
          free_exists = mapped.exists sector is_one;
          free_apart = λ s exists same. elim (cases_eq s sector) [
            | inl s_is ↦ mapped.free_apart sector is_one (sym same ∙ ap (block_of n layout (stand n new)) s_is ∙ block-written)
            | inr other ↦ other (mapped.apart s sector exists is_one (sym (block-other s other) ∙ same))
          ];
          all =
              let changed = total-changed (block_of n layout (stand n new)) (block_of n layout (stand n old)) layout.sectors sector is_one (λ s exists other. block-other s other) in
              omega (arith, changed, block-written, mapped.all);
        }
