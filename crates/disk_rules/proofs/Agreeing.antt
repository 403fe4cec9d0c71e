-- Lines that stand alike hold the same disk.
use Rattle.std.proofs.Common.{◌≡◌, ℕ, ◌+◌, ◌-◌, ◌*◌, ◌/◌, ◌%◌, ◌<◌, ◌≤◌, ◌==◌, if◌then◌else◌, List, get_or, sym, ◌∙◌, ap, subst, arith}
use Rattle.std.proofs.{Math.Nat.mul-pos, lemmas.Nat.{mod_below, div_below}}
use Rattle.atomic_sectors.specs.{Numbers.number_at, Sectors.{sector_line, block_of, word_line, word_at, Fits, IsMapped}, declared.layout.Layout.Layout}
use Rattle.atomic_sectors.proofs.{Fitting.{word_there, block_there}, Totals.total-same}
use Rattle.disk_rules.specs.{Agreeing.AgreeLaw, Disk.Written, Standing.{sector_size, HoldsDisk}}

module _ (n : ℕ) (layout : Layout) (count : ℕ) (fits : Fits n layout count) (one other : ℕ → List ℕ) (alike : (line : ℕ) → line < count → other line ≡ one line) where
  block_same : (s : ℕ) → s < layout.sectors → block_of n layout other s ≡ block_of n layout one s
  block_same s exists =
      ap (λ (l : List ℕ). if number_at l (word_at n layout s) == 0 then s else number_at l (word_at n layout s) - 1) (alike (word_line n layout s) (word_there n layout count fits s exists))

  line_same : (s i : ℕ) → s < layout.sectors → i < layout.block → block_of n layout one s ≤ layout.sectors → sector_line n layout other s i ≡ sector_line n layout one s i
  line_same s i exists within known =
      ap (λ b. other (b * layout.block + i)) (block_same s exists)
      ∙ alike (block_of n layout one s * layout.block + i) (block_there n layout count fits (block_of n layout one s) i known within)

  mapped_same : (free : ℕ) → IsMapped n layout one free → IsMapped n layout other free
  mapped_same free m = record {
    exists = λ s exists. subst (λ b. b ≤ layout.sectors) (sym (block_same s exists)) (m.exists s exists);
    apart = λ s t s_exists t_exists same. m.apart s t s_exists t_exists (sym (block_same s s_exists) ∙ same ∙ block_same t t_exists);
    free_exists = m.free_exists;
    free_apart = λ s exists same. m.free_apart s exists (sym (block_same s exists) ∙ same);
    all = ap (λ x. x + free) (total-same (block_of n layout other) (block_of n layout one) layout.sectors block_same) ∙ m.all;
  }

  pub holds_too : (writes : List Written) → HoldsDisk n layout one writes → HoldsDisk n layout other writes
  holds_too writes held =
      let some : 0 < sector_size n layout = mul-pos fits.some (omega (arith, fits.words)) in
      let bytes : 0 < n = omega (arith, fits.words) in
      record {
        whole = (held.whole.0, mapped_same held.whole.0 held.whole.1);
        bytes = λ x exists.
            let s = x / sector_size n layout in
            let there = div_below x (sector_size n layout) layout.sectors some exists in
            ap (λ (l : List ℕ). get_or l (x % sector_size n layout % n) 0)
            (line_same s (x % sector_size n layout / n) there (div_below (x % sector_size n layout) n layout.block bytes (mod_below x (sector_size n layout) some)) (held.whole.1.exists s there))
            ∙ held.bytes x exists;
      }

pub agree_law : AgreeLaw
agree_law n layout count one other writes fits alike held = holds_too n layout count fits one other alike writes held
