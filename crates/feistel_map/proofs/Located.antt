-- An address determines its number, and is in range.
use Rattle.std.proofs.Common.{◌≡◌, ℕ, ◌+◌, ◌*◌, ◌/◌, ◌%◌, sym, ◌∙◌, ap}
use Rattle.std.proofs.{Math.Nat.{div-div-eq-div-mul, mul_comm}, lemmas.Nat.div-add-mod'}
use Rattle.feistel_map.specs.Addresses.{address_of, number_at}

pub number_at-address_of : (regions lines number : ℕ) → number_at regions lines (address_of regions lines number) ≡ number
number_at-address_of regions lines number =
    let quotient : number / (regions * lines) ≡ number / lines / regions
    = ap (λ n. number / n) (mul_comm regions lines) ∙ sym (div-div-eq-div-mul number lines regions) in
    let whole : number / (regions * lines) * regions + number / lines % regions ≡ number / lines
    = ap (λ n. n * regions + number / lines % regions) quotient ∙ div-add-mod' (number / lines) regions in
    ap (λ n. n * lines + number % lines) whole ∙ div-add-mod' number lines
