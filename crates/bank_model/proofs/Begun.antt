-- The rows of the entries of a queue whose head is begun.
use Rattle.std.proofs.Common.{◌≡◌, ℕ, List, [], ◌∷◌, Option, Some, None, refl}
use Rattle.masked_bytes.specs.{Entries.{has_row, RowsApart}, declared.entry.Entry.Entry}
use Rattle.bank_model.specs.History.{begun}

module _ {n : ℕ} where
  -- the same rows stand in it
  pub row-begun : (due : Option ℕ) (f : ℕ → List ℕ) (es : List (Entry n)) (r : ℕ) → has_row (begun due f es) r ≡ has_row es r
  row-begun (Some region) f es r = refl
  row-begun None f [] r = refl
  row-begun None f (e ∷ es) r = refl

  -- and they stay apart
  pub apart-begun : (due : Option ℕ) (f : ℕ → List ℕ) (es : List (Entry n)) → RowsApart es → RowsApart (begun due f es)
  apart-begun (Some region) f es a = a
  apart-begun None f [] a = tt
  apart-begun None f (e ∷ es) a = a
