-- The cuts behind a row, by their ticks.
use Rattle.std.specs.Prelude.{◌≡◌, ℕ, ◌==◌, Bool, true, false, IsTrue, if◌then◌else◌, List, [], ◌∷◌, nat_le, count_by}
use Rattle.row_rules.specs.{Rows.is_cut, Table.of_bank, Ticking.{no_cut_below, first_cut_at, cuts_to}, declared.Row.Row}
use Rattle.check_judging.specs.Rising.{rising}

-- the ticks of the cut rows among these
abbrev pub cut_ticks : {n : ℕ} → List (Row n) → List ℕ
cut_ticks [] = []
cut_ticks (q ∷ rows) = if is_cut q then q.tick ∷ cut_ticks rows else cut_ticks rows

-- the first of these ticks is u or above, if there is one
abbrev pub first_from : ℕ → List ℕ → Bool
first_from u [] = true
first_from u (c ∷ ticks) = nat_le u c

-- the first of these ticks is u
abbrev pub first_is : ℕ → List ℕ → Bool
first_is u [] = false
first_is u (c ∷ ticks) = c == u

-- what the rules ask of the cuts behind a row is told by their ticks, and but for the number by the first of them
pub record CutsTold {n : ℕ} (u : ℕ) (rows : List (Row n)) : Type 0 where
  pub below : no_cut_below u rows ≡ first_from u (cut_ticks rows)
  pub at : first_cut_at u rows ≡ first_is u (cut_ticks rows)
  pub number : cuts_to u rows ≡ count_by (λ c. nat_le c u) (cut_ticks rows)

abbrev pub FirstCutLaw : Type 0
FirstCutLaw = (n t u : ℕ) (rows : List (Row n)) → IsTrue (rising t rows) → CutsTold u rows

-- each bank's table has all cuts
abbrev pub CutsOfBankLaw : Type 0
CutsOfBankLaw = (n : ℕ) (bank_of : ℕ → ℕ) (bank : ℕ) (rows : List (Row n)) → cut_ticks (of_bank bank_of bank rows) ≡ cut_ticks rows
