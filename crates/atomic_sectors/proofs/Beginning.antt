-- Lines to which nothing was written.
use Rattle.std.proofs.Common.{◌≡◌, ℕ, zero, suc, ◌+◌, [], get_or, replicate, refl, sym, ◌∙◌, ap, arith}
use Rattle.std.proofs.lemmas.Bool.{eq-eqb, cond-true}
use Rattle.atomic_sectors.specs.{Lines.stand, Numbers.number_at, Sectors.{word_at, block_of, IsMapped}, Serving.NewLaw, declared.layout.Layout.Layout}
use Rattle.atomic_sectors.proofs.Totals.{total-same}

zeros : (n i : ℕ) → get_or {A = ℕ} (replicate n 0) i 0 ≡ 0
zeros zero i = refl
zeros (suc n) zero = refl
zeros (suc n) (suc i) = zeros n i

no_number : (n at : ℕ) → number_at (replicate n 0) at ≡ 0
no_number n at = omega (arith, zeros n at, zeros n (at + 1), zeros n (at + 2), zeros n (at + 3))

own_block : (n : ℕ) (layout : Layout) (s : ℕ) → block_of n layout (stand n []) s ≡ s
own_block n layout s = cond-true _ _ _ (eq-eqb _ 0 (no_number n (word_at n layout s)))

pub mapped : (n : ℕ) (layout : Layout) → IsMapped n layout (stand n []) layout.sectors
mapped n layout = record {
  exists = λ s exists. omega (arith, own_block n layout s, exists);
  apart = λ s t s_exists t_exists same. sym (own_block n layout s) ∙ same ∙ own_block n layout t;
  free_exists = omega arith;
  free_apart = λ s exists same. absurd (omega (arith, own_block n layout s, same, exists));
  all = ap (λ k. k + layout.sectors) (total-same (block_of n layout (stand n [])) (λ block. block) layout.sectors (λ s exists. own_block n layout s));
}

pub new_law : NewLaw
new_law n layout = ((layout.sectors, mapped n layout), λ s i exists within. refl)
