-- How the rows of a report are written, piece after piece.
use Rattle.std.proofs.Common.{◌≡◌, ℕ, zero, suc, ◌+◌, ◌≤◌, inl, inr, List, [], ◌++◌, Option, refl, sym, ap, ◌∙◌, arith, append_assoc}
use Rattle.std.{specs.Io.KnownBytes.Appends, proofs.lemmas.Bool.cases_eq, proofs.lemmas.List.append-nil}
use Rattle.pcm_io.{specs.Giving.AppendsPrefix, specs.Reserved.{Reserved, appended}, proofs.ByteLemmas.Appends-Appends}
use Rattle.rotation_reports.specs.Rows.{rows_from}
use Rattle.run_text.specs.Gathering.{Flushes}
use Rattle.program_calls.proofs.Written.{AppendsPrefix-after}

-- the header and the first i rows are printed: some bytes are gone, and the others are in the text
pub record HasReported (header : List ℕ) (row : ℕ → List ℕ) (first i : ℕ) (text : Reserved) (before now : Option (List ℕ)) : Type 0 where
  pub gone : List ℕ
  pub sent : Appends before now gone
  pub is : gone ++ text.bytes ≡ header ++ rows_from row first i
  pub limit : text.limit ≡ 65536

pub reported-flushed : (header : List ℕ) (row : ℕ → List ℕ) (first i room : ℕ) (old new : Reserved) (a b c : Option (List ℕ))
    → HasReported header row first i old a b → Flushes room old new b c → HasReported header row first i new a c
reported-flushed header row first i room old new a b c h f = record {
  gone = h.gone ++ f.piece;
  sent = Appends-Appends a b c h.gone f.piece h.sent f.sent;
  is = append_assoc h.gone f.piece new.bytes ∙ ap (λ (xs : List ℕ). h.gone ++ xs) (sym f.kept) ∙ h.is;
  limit = f.limit ∙ h.limit;
}

pub reported-row : (header : List ℕ) (row : ℕ → List ℕ) (first i : ℕ) (text : Reserved) (a b : Option (List ℕ))
    → HasReported header row first i text a b → HasReported header row first (i + 1) (appended text (row (first + i))) a b
reported-row header row first i text a b h =
    let one : i + 1 ≡ suc i = omega arith in
    let whole : h.gone ++ (text.bytes ++ row (first + i)) ≡ header ++ (rows_from row first i ++ row (first + i)) =
    sym (append_assoc h.gone text.bytes (row (first + i)))
    ∙ ap (λ (xs : List ℕ). xs ++ row (first + i)) h.is
    ∙ append_assoc header (rows_from row first i) (row (first + i)) in
    record { gone = h.gone; sent = h.sent; is = rw one whole; limit = h.limit }

pub reported-last : (header : List ℕ) (row : ℕ → List ℕ) (first i count : ℕ) (text : Reserved) (a b c : Option (List ℕ))
    → i ≡ count → HasReported header row first i text a b → Appends b c text.bytes → Appends a c (header ++ rows_from row first count)
reported-last header row first i count text a b c all h last = rw (← all, ← h.is) (Appends-Appends a b c h.gone text.bytes h.sent last)

-- the rows behind the first i
rest-rows : (row : ℕ → List ℕ) (first i count : ℕ) → i ≤ count → (rest : List ℕ) × (rows_from row first i ++ rest ≡ rows_from row first count)
rest-rows row first i zero within =
    let none : i ≡ 0 = omega arith in
    ([], rw none refl)
rest-rows row first i (suc count) within =
    elim (cases_eq i (suc count)) [
      | inl same ↦ ([], rw same (append-nil (rows_from row first (suc count))))
      | inr other ↦
          let r = rest-rows row first i count (omega arith) in
          (r.0 ++ row (first + count), sym (append_assoc (rows_from row first i) r.0 (row (first + count))) ∙ ap (λ (xs : List ℕ). xs ++ row (first + count)) r.1)
    ]

pub reported-part : (header : List ℕ) (row : ℕ → List ℕ) (first i count : ℕ) (text : Reserved) (a b c : Option (List ℕ))
    → i ≤ count → HasReported header row first i text a b → AppendsPrefix b c text.bytes → AppendsPrefix a c (header ++ rows_from row first count)
reported-part header row first i count text a b c within h part =
    let r = rest-rows row first i count within in
    AppendsPrefix-after a b c h.gone text.bytes r.0 (header ++ rows_from row first count)
    (ap (λ (xs : List ℕ). xs ++ r.0) h.is ∙ append_assoc header (rows_from row first i) r.0 ∙ ap (λ (xs : List ℕ). header ++ xs) r.1) h.sent part
