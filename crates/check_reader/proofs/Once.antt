-- Bytes are read in one way: a row by its fields, and so all rows.
use Rattle.std.proofs.Common.{◌≡◌, ℕ, suc, ◌+◌, ◌^◌, ◌<◌, ◌≤◌, inl, inr, List, [], ◌∷◌, ◌++◌, length, drop, refl, sym, ap, ◌∙◌, arith}
use Rattle.std.proofs.Math.Seq.{drop-append_seam}
use Rattle.result_rows.specs.{RowText.{header_text, rows_text}, declared.Op.Op, declared.Outcome.Outcome}
use Rattle.check_reader.specs.{Fields.Fields, Parts.Shows, ReadOnce.{AreAsks, ReadOnceLaw}, ResultRows.{EachMayStand, rows_of, AreResults, IsRow, FailsAt, IsFault, Header, Later}}
use Rattle.check_reader.{specs.declared.fault.ResultFault.ResultFault, proofs.Rows.{row_fields_of, row_has_fields, row_tells}, proofs.Shown.shown_once}
use Rattle.check_reader.specs.declared.fault.ResultFault.TheVariants as fault

-- what stands behind the same beginning
pub same_rest : {A : Type 0} (front one other : List A) → front ++ one ≡ front ++ other → one ≡ other
same_rest front one other is = sym (drop-append_seam front one) ∙ ap (drop (length front)) is ∙ drop-append_seam front other

lines_behind : (ask : Op × ℕ) (asks : List (Op × ℕ)) → AreAsks (ask ∷ asks) → AreAsks asks
lines_behind ask asks fit = record { few = omega (arith, fit.few); lines = λ i one at. fit.lines (suc i) one at }

module _ {n : ℕ} (some : 1 ≤ n) where
  -- one row
  row_once : (row : ℕ) (ask : Op × ℕ) (bytes : List ℕ) (one other : Outcome n) (rest behind : List ℕ) → row < 2 ^ 64 → ask.1 < 2 ^ 64
      → IsRow row ask bytes one rest → IsRow row ask bytes other behind → (one ≡ other) × (rest ≡ behind)
  row_once row ask bytes one other rest behind row_fits line_fits is also =
      let f : Fields = row_fields_of row ask one rest in
      let found = row_has_fields row ask bytes one rest row_fits line_fits is in
      let tells = row_tells row ask bytes other behind f row_fits line_fits found also in
      let shows : Shows f one = record { word = refl; tick = refl; place = refl; digits = refl } in
      (shown_once ask.0 f one other some is.may shows also.may tells.shows, tells.behind)

  -- all rows
  rows_once : (row : ℕ) (asks : List (Op × ℕ)) (bytes : List ℕ) (one other : List (Outcome n)) → row + length asks < 2 ^ 64 → AreAsks asks
      → EachMayStand asks one → bytes ≡ rows_text row (rows_of asks one) → EachMayStand asks other → bytes ≡ rows_text row (rows_of asks other) → one ≡ other
  unfolding EachMayStand rows_of
  rows_once row [] bytes [] [] fits lines may is also same = refl
  rows_once row [] bytes [] (q ∷ other) fits lines may is also same = absurd also
  rows_once row [] bytes (p ∷ one) other fits lines may is also same = absurd may
  rows_once row (ask ∷ asks) bytes [] other fits lines may is also same = absurd may
  rows_once row (ask ∷ asks) bytes (p ∷ one) [] fits lines may is also same = absurd also
  rows_once row (ask ∷ asks) bytes (p ∷ one) (q ∷ other) fits lines may is also same =
      let line : ask.1 < 2 ^ 32 = lines.lines 0 ask refl in
      let rest : List ℕ = rows_text (row + 1) (rows_of asks one) in
      let behind : List ℕ = rows_text (row + 1) (rows_of asks other) in
      let first = row_once row ask bytes p q rest behind (omega arith) (omega arith) (record { may = may.0; text = is }) (record { may = also.0; text = same }) in
      let later = rows_once (row + 1) asks rest one other (omega arith) (lines_behind ask asks lines) may.1 refl also.1 first.1 in
      rw (first.0, later) refl

  -- the first row that isn't there
  fails_once : (row : ℕ) (asks : List (Op × ℕ)) (bytes : List ℕ) (one other : ℕ) → row + length asks < 2 ^ 64 → AreAsks asks
      → FailsAt n row asks bytes one → FailsAt n row asks bytes other → one ≡ other
  unfolding FailsAt
  fails_once row [] bytes one other fits lines h k = h.1 ∙ sym k.1
  fails_once row (ask ∷ asks) bytes one other fits lines (inl h) (inl k) = h.1 ∙ sym k.1
  fails_once row (ask ∷ asks) bytes one other fits lines (inl h) (inr k) = absurd (h.0 k.0 k.1 k.2)
  fails_once row (ask ∷ asks) bytes one other fits lines (inr h) (inl k) = absurd (k.0 h.0 h.1 h.2)
  fails_once row (ask ∷ asks) bytes one other fits lines (inr h) (inr k) =
      let line : ask.1 < 2 ^ 32 = lines.lines 0 ask refl in
      let first = row_once row ask bytes h.0 k.0 h.1 k.1 (omega arith) (omega arith) h.2 k.2 in
      fails_once (row + 1) asks h.1 one other (omega arith) (lines_behind ask asks lines) h.3 (rw first.1 k.3)

  -- where all rows are there, none isn't
  not_both : (row : ℕ) (asks : List (Op × ℕ)) (bytes : List ℕ) (outcomes : List (Outcome n)) (one : ℕ) → row + length asks < 2 ^ 64 → AreAsks asks
      → EachMayStand asks outcomes → bytes ≡ rows_text row (rows_of asks outcomes) → FailsAt n row asks bytes one → ⊥
  unfolding EachMayStand rows_of FailsAt
  not_both row [] bytes [] one fits lines may is h = h.0 is
  not_both row [] bytes (p ∷ outcomes) one fits lines may is h = absurd may
  not_both row (ask ∷ asks) bytes [] one fits lines may is h = absurd may
  not_both row (ask ∷ asks) bytes (p ∷ outcomes) one fits lines may is (inl h) =
      h.0 p (rows_text (row + 1) (rows_of asks outcomes)) (record { may = may.0; text = is })
  not_both row (ask ∷ asks) bytes (p ∷ outcomes) one fits lines may is (inr h) =
      let line : ask.1 < 2 ^ 32 = lines.lines 0 ask refl in
      let rest : List ℕ = rows_text (row + 1) (rows_of asks outcomes) in
      let first = row_once row ask bytes p h.0 rest h.1 (omega arith) (omega arith) (record { may = may.0; text = is }) h.2 in
      not_both (row + 1) asks rest outcomes one (omega arith) (lines_behind ask asks lines) may.1 refl (rw first.1 h.3)

-- a fault of the bytes
fault_once : (n : ℕ) (asks : List (Op × ℕ)) (bytes : List ℕ) (one other : ResultFault) → 1 ≤ n → AreAsks asks → IsFault n asks bytes one → IsFault n asks bytes other → one ≡ other
fault_once n asks bytes one other some fit (Header h) (Header k) = refl
fault_once n asks bytes one other some fit (Header h) (Later row rest is k) = absurd (h rest is)
fault_once n asks bytes one other some fit (Later row rest is h) (Header k) = absurd (k rest is)
fault_once n asks bytes one other some fit (Later row rest is h) (Later also behind same k) =
    let alike : rest ≡ behind = same_rest header_text rest behind (sym is ∙ same) in
    let fails : FailsAt n 1 asks rest also = rw alike k in
    ap (λ (r : ℕ). fault.Row r) (fails_once some 1 asks rest row also (omega (arith, fit.few)) fit h fails)

fault_apart : (n : ℕ) (asks : List (Op × ℕ)) (bytes : List ℕ) (outcomes : List (Outcome n)) (one : ResultFault) → 1 ≤ n → AreAsks asks → AreResults asks bytes outcomes → ¬ IsFault n asks bytes one
fault_apart n asks bytes outcomes one some fit are (Header h) = h (rows_text 1 (rows_of asks outcomes)) are.text
fault_apart n asks bytes outcomes one some fit are (Later row rest is h) =
    let alike : rest ≡ rows_text 1 (rows_of asks outcomes) = same_rest header_text rest (rows_text 1 (rows_of asks outcomes)) (sym is ∙ are.text) in
    not_both some 1 asks rest outcomes row (omega (arith, fit.few)) fit are.each alike h

pub read_once_law : ReadOnceLaw
read_once_law n asks bytes some fit = record {
  results = λ one other are also.
      rows_once some 1 asks (rows_text 1 (rows_of asks one)) one other (omega (arith, fit.few)) fit are.each refl also.each
      (same_rest header_text (rows_text 1 (rows_of asks one)) (rows_text 1 (rows_of asks other)) (sym are.text ∙ also.text));
  fault = λ one other h k. fault_once n asks bytes one other some fit h k;
  apart = λ outcomes one are h. fault_apart n asks bytes outcomes one some fit are h;
}
