-- What follows where sectors fit on lines.
use Rattle.std.proofs.Common.{◌≡◌, ℕ, ◌+◌, ◌-◌, ◌*◌, ◌/◌, ◌^◌, ◌<◌, ◌≤◌, ap, arith}
use Rattle.atomic_sectors.{specs.Sectors.{Fits, word_at, word_line}, specs.declared.layout.Layout.Layout, proofs.Places.{blocks_few, words_before, in_block, words_of, same_line}}

module _ (n : ℕ) (layout : Layout) (count : ℕ) (fits : Fits n layout count) where
  -- there are fewer sectors than lines
  pub sectors_few : layout.sectors < 2 ^ 26
  sectors_few = omega (arith, blocks_few layout.block layout.sectors fits.some, fits.room, fits.few)

  -- the line of each sector's word is there
  pub word_there : (s : ℕ) → s < layout.sectors → word_line n layout s < count
  word_there s exists = omega (arith, words_before (n / 4) s layout.sectors (words_of n fits.words) (omega (arith, exists)), fits.room)

  -- and so is each line of a block
  pub block_there : (b i : ℕ) → b ≤ layout.sectors → i < layout.block → b * layout.block + i < count
  block_there b i exists within = omega (arith, in_block layout.block layout.sectors b i exists within, fits.room)

  pub block_fits : (b : ℕ) → b ≤ layout.sectors → b * layout.block + layout.block < count
  block_fits b exists =
      let last = in_block layout.block layout.sectors b (layout.block - 1) exists (omega (arith, fits.some)) in
      omega (arith, last, fits.some, fits.room)

-- a word that does not begin a line is in the line of the word before
pub line_stays : (n : ℕ) (layout : Layout) (s : ℕ) → 0 < n / 4 → 0 < word_at n layout (s + 1) → word_line n layout (s + 1) ≡ word_line n layout s
line_stays n layout s some inside = ap (λ q. (layout.sectors + 1) * layout.block + q) (same_line (n / 4) s some (omega (arith, inside)))
