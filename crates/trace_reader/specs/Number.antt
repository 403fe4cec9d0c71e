-- Decimal numbers, as traces and options write them.
use Rattle.std.specs.{Char.is_ascii_digit, List.list_all, Prelude.{ℕ, List, length, Bool, ◌&&◌, nat_lt, nat_le, if◌then◌else◌, Option, Some, None}, Str.Parse.digits_value}

-- whether a text is 1 to `width` digits
unfoldable pub is_number : ℕ → List ℕ → Bool
is_number width text = nat_lt 0 (length text) && nat_le (length text) width && list_all is_ascii_digit text

-- the number that a text of 1 to `width` digits writes, if it is at most `most`
unfoldable pub number_of : ℕ → ℕ → List ℕ → Option ℕ
number_of width most text =
    if is_number width text && nat_le (digits_value 10 text) most then Some (digits_value 10 text) else None
