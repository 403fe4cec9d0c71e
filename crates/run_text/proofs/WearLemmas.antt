-- How long the rows of the wear report are.
use Rattle.std.proofs.Common.{ℕ, ◌+◌, ◌≡◌, List, [], ◌∷◌, ◌++◌, length, append_assoc, add-zero, suc, sym, refl, arith}
use Rattle.run_text.specs.WearText.{wear_row_text, wear_rows_text}
use Rattle.bank_shape.specs.declared.Role.{Role}

-- the rows of two lists
pub wear_rows_text-append : (array_line : ℕ) (first second : List (ℕ × ℕ × Role)) → wear_rows_text array_line (first ++ second) ≡ wear_rows_text array_line first ++ wear_rows_text (array_line + length first) second
wear_rows_text-append array_line [] second = rw (add-zero array_line) refl
wear_rows_text-append array_line (r ∷ rest) second =
    let number : (array_line + 1) + length rest ≡ array_line + suc (length rest) = omega arith in
    let later : wear_rows_text (array_line + 1) (rest ++ second) ≡ wear_rows_text (array_line + 1) rest ++ wear_rows_text (array_line + suc (length rest)) second =
    rw number at (wear_rows_text-append (array_line + 1) rest second) in
    rw later (sym (append_assoc (wear_row_text array_line r.0 r.1 r.2) (wear_rows_text (array_line + 1) rest) (wear_rows_text (array_line + suc (length rest)) second)))
