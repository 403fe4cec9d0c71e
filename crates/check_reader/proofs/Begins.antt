-- Where the line is that is the header of results.
use Rattle.std.proofs.Common.{◌≡◌, ℕ, ◌<◌, inl, inr, List, ◌++◌, length, drop, take, get_or, Bool, true, sym, ◌∙◌, arith}
use Rattle.std.{specs.Prelude.{IsTrue, ◌↔◌}, specs.Str.bytes_eq, proofs.Math.Seq.drop-cons}
use Rattle.check_reader.{specs.Splitting.{BeginsWithHeader, BeginResultsAt, EndsLine, IsHeaderAt, header_line}, proofs.Once.same_rest, proofs.Whole.begins_with}

-- the header's first byte
pub first_byte : (bytes : List ℕ) (at : ℕ) → at < length bytes → BeginsWithHeader (drop at bytes) → get_or bytes at 0 ≡ 114
first_byte bytes at within header =
    let here = drop-cons bytes at 0 within in
    let same = sym here ∙ header.1 in
    cc

-- the tests say it
pub header_cases : (bytes behind : List ℕ) → bytes_eq (take 35 bytes) header_line ≡ true → behind ≡ drop 35 bytes → bytes ≡ header_line ++ behind
header_cases bytes behind same is = begins_with header_line bytes behind same is

pub header_ends : (bytes behind : List ℕ) (ends : Bool) → bytes ≡ header_line ++ behind → IsTrue ends ↔ EndsLine behind → IsTrue ends ↔ BeginsWithHeader bytes
header_ends bytes behind ends text tells = (
  λ e. (behind, text, tells.0 e),
  λ header. tells.1 (rw (same_rest header_line header.0 behind (sym header.1 ∙ text)) at header.2),
)

pub header_first : (bytes : List ℕ) (at : ℕ) → IsHeaderAt bytes at → ((before : ℕ) → before < at → ¬ IsHeaderAt bytes before) → BeginResultsAt bytes at
header_first bytes at header none = record { header = inr header; within = omega (arith, header.within); first = none }

pub no_header : (bytes : List ℕ) (at : ℕ) → at ≡ length bytes → ((before : ℕ) → before < at → ¬ IsHeaderAt bytes before) → BeginResultsAt bytes at
no_header bytes at end none = record { header = inl end; within = omega arith; first = none }
