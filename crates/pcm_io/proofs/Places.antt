-- Bytes that are put in the place of others.
use Rattle.std.proofs.Common.{◌≡◌, ℕ, ◌+◌, List, ◌++◌, length, take, drop, ap, sym, ◌∙◌, arith}
use Rattle.std.proofs.Math.Seq.{take-add, take-append_seam}
use Rattle.pcm_io.specs.Reserved.{appended, reserved}

-- digits that were written so that they end behind the first bytes by as much as they are long stand behind these
pub put-behind : (at start : ℕ) (new old digits rest : List ℕ) → start + length digits ≡ at + length digits
    → drop start new ≡ digits ++ rest → take start new ≡ take start old → take (at + length digits) new ≡ take at old ++ digits
put-behind at start new old digits rest ends written before =
    let same : start ≡ at = omega (arith, ends) in
    let here : drop at new ≡ digits ++ rest = ap (λ k. drop k new) (sym same) ∙ written in
    let front : take at new ≡ take at old = ap (λ k. take k new) (sym same) ∙ before ∙ ap (λ k. take k old) same in
    take-add at (length digits) new ∙ ap (λ l. l ++ take (length digits) (drop at new)) front
    ∙ ap (λ l. take at old ++ take (length digits) l) here ∙ ap (λ l. take at old ++ l) (take-append_seam digits rest)

-- a text of the first bytes of some room, where these are in the place of others
pub with-bytes : (now buffer items digits : List ℕ) (at count : ℕ) → now ≡ buffer → count ≡ length digits → take (at + length digits) buffer ≡ take at items ++ digits
    → length buffer ≡ length items
    → appended (reserved (length now)) (take (at + count) now) ≡ appended (appended (reserved (length items)) (take at items)) digits
with-bytes now buffer items digits at count is many bytes long =
    ap (λ l. appended (reserved (length l)) (take (at + count) l)) is
    ∙ ap (λ k. appended (reserved (length buffer)) (take (at + k) buffer)) many
    ∙ ap (appended (reserved (length buffer))) bytes
    ∙ ap (λ k. appended (reserved k) (take at items ++ digits)) long
