-- What is kept of a field, and of fields, when more comes.
use Rattle.std.proofs.Common.{◌≡◌, ℕ, ◌+◌, ◌-◌, ◌≤◌, List, ◌++◌, length, take, min, sym, ap, ◌∙◌, arith}
use Rattle.std.proofs.{Math.Seq.take-append-add, lemmas.List.take_min}

-- as many more bytes as there is room for
pub room-takes : (most : ℕ) (field run : List ℕ) (count : ℕ) → length field ≤ most → count ≡ min (length run) (most - length field)
    → field ++ take count run ≡ take most (field ++ run)
room-takes most field run count within is =
    let room = most - length field in
    let whole : length field + room ≡ most = omega arith in
    let least : count ≡ min room (length run) = omega arith in
    rw (least, take_min room run) (sym (take-append-add field run room) ∙ ap (λ (m : ℕ). take m (field ++ run)) whole)
