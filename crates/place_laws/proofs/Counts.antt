-- How many writes of some lines are stored, by the rows' outcomes and by the events.
use Rattle.std.proofs.Common.{◌≡◌, ℕ, ◌+◌, ◌<◌, inl, inr, Bool, true, false, List, [], ◌∷◌, refl, ap, ◌∙◌, subst, arith, ◌==◌, ◌&&◌}
use Rattle.std.proofs.lemmas.Bool.{ne_eqb}
use Rattle.masked_bytes.proofs.Counting.{one_if}
use Rattle.bank_shape.specs.declared.answer.Step.TheVariants as did
use Rattle.bank_model.{specs.Events.{BankEvent, Write, Read, Begin, Iterate, RowsBelow, line_of_row}, proofs.Rising.RowsBelow-more}
use Rattle.bank_laws.proofs.Asked.{Wrote, wrote-asked, asked-below}

one-counted : (k b c : Bool) → b ≡ false → c ≡ true → one_if (k && c) ≡ one_if (k && b) + one_if k
one-counted k b c off on = grind arith

module _ {n : ℕ} where
  -- how many writes of these events have such a line and such a row
  abbrev pub writes_with : (ℕ → Bool) → (ℕ → Bool) → List (BankEvent n) → ℕ
  writes_with keep counts [] = 0
  writes_with keep counts (Write row line bytes given answer ∷ h) = one_if (keep line && counts row) + writes_with keep counts h
  writes_with keep counts (_ ∷ h) = writes_with keep counts h

  -- how many stores of these events are of such a line
  abbrev pub stores_with : (ℕ → Bool) → List (BankEvent n) → ℕ
  stores_with keep [] = 0
  stores_with keep (Begin (did.Stored row place) ∷ h) = one_if (keep (line_of_row row h)) + stores_with keep h
  stores_with keep (Iterate (did.Stored row place) ∷ h) = one_if (keep (line_of_row row h)) + stores_with keep h
  stores_with keep (_ ∷ h) = stores_with keep h

  pub writes-same : (keep f g : ℕ → Bool) (h : List (BankEvent n)) → ((row : ℕ) → f row ≡ g row) → writes_with keep f h ≡ writes_with keep g h
  writes-same keep f g [] same = refl
  writes-same keep f g (Write row line bytes given answer ∷ h) same =
      ap (λ b. one_if (keep line && b) + writes_with keep f h) (same row) ∙ ap (λ k. one_if (keep line && g row) + k) (writes-same keep f g h same)
  writes-same keep f g (_ ∷ h) same = writes-same keep f g h same

  writes-below : (keep f g : ℕ → Bool) (h : List (BankEvent n)) (at : ℕ) → RowsBelow h at → ((row : ℕ) → (at == row) ≡ false → f row ≡ g row) → writes_with keep f h ≡ writes_with keep g h
  writes-below keep f g [] at b same = refl
  writes-below keep f g (Write row line bytes given answer ∷ h) at b same =
      ap (λ b. one_if (keep line && b) + writes_with keep f h) (same row (ne_eqb at row (λ is. omega (arith, b.0, is))))
      ∙ ap (λ k. one_if (keep line && g row) + k) (writes-below keep f g h at (RowsBelow-more h row at (omega (arith, b.0)) b.1) same)
  writes-below keep f g (Read row line answer ∷ h) at b same = writes-below keep f g h at (RowsBelow-more h row at (omega (arith, b.0)) b.1) same
  writes-below keep f g (_ ∷ h) at b same = writes-below keep f g h at b same

  -- one more row counts, that of a write of this line
  pub writes-more : (keep f g : ℕ → Bool) (h : List (BankEvent n)) (next at line : ℕ) → RowsBelow h next → Wrote h at line → f at ≡ false → g at ≡ true
      → ((row : ℕ) → (at == row) ≡ false → g row ≡ f row) → writes_with keep g h ≡ writes_with keep f h + one_if (keep line)
  writes-more keep f g [] next at line b w off on same = absurd w
  writes-more keep f g (Write row of bytes given answer ∷ h) next at line b (inl w) off on same =
      let rest : writes_with keep g h ≡ writes_with keep f h = writes-below keep g f h at (subst (λ r. RowsBelow h r) w.0 b.1) same in
      let here : one_if (keep of && g row) ≡ one_if (keep of && f row) + one_if (keep of) =
      one-counted (keep of) (f row) (g row) (ap f w.0 ∙ off) (ap g w.0 ∙ on) in
      let its : one_if (keep of) ≡ one_if (keep line) = ap (λ l. one_if (keep l)) w.1 in
      omega (arith, rest, here, its)
  writes-more keep f g (Write row of bytes given answer ∷ h) next at line b (inr w) off on same =
      let below : at < row = asked-below h row at line b.1 (wrote-asked h at line w) in
      let here : one_if (keep of && g row) ≡ one_if (keep of && f row) = ap (λ b. one_if (keep of && b)) (same row (ne_eqb at row (λ is. omega (arith, below, is)))) in
      let rest : writes_with keep g h ≡ writes_with keep f h + one_if (keep line) = writes-more keep f g h row at line b.1 w off on same in
      omega (arith, rest, here)
  writes-more keep f g (Read row of answer ∷ h) next at line b w off on same = writes-more keep f g h row at line b.1 w off on same
  writes-more keep f g (_ ∷ h) next at line b w off on same = writes-more keep f g h next at line b w off on same
