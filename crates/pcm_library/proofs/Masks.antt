-- A masked write that gives some bytes, with 0 for the others.
use Rattle.std.proofs.Common.{◌≡◌, ℕ, zero, suc, Bool, true, List, length, replicate, refl, ◌∙◌, subst, sym}
use Rattle.std.proofs.lemmas.List.{length-replicate}
use Rattle.masked_bytes.{specs.Masked.{IsMasked, gives_some, laid, none_given, zero_elsewhere}, proofs.Layering.{joined-none_right, length-laid, zero_elsewhere-laid}}

-- zeros are 0 where no byte is given
zeros : (n : ℕ) → zero_elsewhere (replicate n 0) (none_given n) ≡ true
zeros zero = refl
zeros (suc n) = zeros n

pub masked-lawful : (n : ℕ) (bytes : List ℕ) (given : List Bool) → length bytes ≡ n → length given ≡ n → gives_some given ≡ true → IsMasked n (laid bytes given (replicate n 0)) given
masked-lawful n bytes given b g some =
    let z : length (replicate n 0) ≡ n = length-replicate n 0 in
    record {
      bytes_len = length-laid bytes given (replicate n 0) ∙ z;
      given_len = g;
      some = some;
      others =
          subst (λ (xs : List Bool). zero_elsewhere (laid bytes given (replicate n 0)) xs ≡ true) (joined-none_right n given g)
          (zero_elsewhere-laid bytes given (replicate n 0) (none_given n) (g ∙ sym b) (z ∙ sym b) (length-replicate n _ ∙ sym b) (zeros n));
    }
