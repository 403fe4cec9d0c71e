-- The entries of a write queue, the oldest first.
use Rattle.std.specs.Prelude.{◌≡◌, ℕ, ◌==◌, ◌&&◌, ◌||◌, not, Bool, false, if◌then◌else◌, List, [], ◌∷◌, zero, suc, replicate, Option, Some, None}
use Rattle.masked_bytes.specs.{Masked.{laid, joined, none_given, all_given, IsMasked}, declared.entry.Entry.Entry}

-- bytes of which some are given
pub record Layer : Type 0 where
  pub bytes : List ℕ
  pub given : List Bool

-- n bytes of which none is given
abbrev pub no_layer : ℕ → Layer
no_layer n = record { bytes = replicate n 0; given = none_given n }

-- a layer over another
abbrev pub stacked : Layer → Layer → Layer
stacked top below = record { bytes = laid top.bytes top.given below.bytes; given = joined top.given below.given }

-- the first, or else the other
abbrev pub or_this : Option ℕ → Option ℕ → Option ℕ
or_this (Some first) other = Some first
or_this None other = other

-- the same index in a list with one more entry before it
abbrev pub one_further : Option ℕ → Option ℕ
one_further (Some index) = Some (suc index)
one_further None = None

module _ {n : ℕ} where
  -- what an entry gives
  abbrev pub layer_by : Entry n → Layer
  layer_by e = record { bytes = e.bytes; given = e.given }

  -- a line's entries laid over each other, the newest on top
  abbrev pub layer_of : List (Entry n) → ℕ → Layer
  layer_of [] line = no_layer n
  layer_of (e ∷ es) line = if e.line == line then stacked (layer_of es line) (layer_by e) else layer_of es line

  -- the row of the newest entry of a line
  abbrev pub newest_row : List (Entry n) → ℕ → Option ℕ
  newest_row [] line = None
  newest_row (e ∷ es) line = or_this (newest_row es line) (if e.line == line then Some e.row else None)

  -- its index
  abbrev pub newest_index : List (Entry n) → ℕ → Option ℕ
  newest_index [] line = None
  newest_index (e ∷ es) line = or_this (one_further (newest_index es line)) (if e.line == line then Some 0 else None)

  -- the row of the entry that a write of a line is merged into: the newest, unless it is the head and that is busy
  abbrev pub candidate : Bool → List (Entry n) → ℕ → Option ℕ
  candidate busy [] line = None
  candidate busy (e ∷ es) line = or_this (newest_row es line) (if not busy && e.line == line then Some e.row else None)

  -- its index
  abbrev pub candidate_index : Bool → List (Entry n) → ℕ → Option ℕ
  candidate_index busy [] line = None
  candidate_index busy (e ∷ es) line = or_this (one_further (newest_index es line)) (if not busy && e.line == line then Some 0 else None)

  -- these bytes over an entry, which becomes that of their row
  abbrev pub laid_on : ℕ → List ℕ → List Bool → Entry n → Entry n
  laid_on row bytes given e = record { row = row; line = e.line; bytes = laid bytes given e.bytes; given = joined given e.given }

  -- the entries after a write was merged into that of this row
  abbrev pub merged : ℕ → ℕ → List ℕ → List Bool → List (Entry n) → List (Entry n)
  merged old row bytes given [] = []
  merged old row bytes given (e ∷ es) =
      if e.row == old then laid_on row bytes given e ∷ es else e ∷ merged old row bytes given es

  -- the entries after a write was merged into that at this index
  abbrev pub merged_at : ℕ → ℕ → List ℕ → List Bool → List (Entry n) → List (Entry n)
  merged_at index row bytes given [] = []
  merged_at zero row bytes given (e ∷ es) = laid_on row bytes given e ∷ es
  merged_at (suc index) row bytes given (e ∷ es) = e ∷ merged_at index row bytes given es

  -- an entry with every byte given, those that it lacks from these
  abbrev pub completed_by : List ℕ → Entry n → Entry n
  completed_by under e = record { row = e.row; line = e.line; bytes = laid e.bytes e.given under; given = all_given n }

  -- the entries with the head completed
  abbrev pub completed : List ℕ → List (Entry n) → List (Entry n)
  completed under [] = []
  completed under (e ∷ es) = completed_by under e ∷ es

  abbrev pub head_line : List (Entry n) → ℕ
  head_line [] = 0
  head_line (e ∷ es) = e.line

  abbrev pub head_row : List (Entry n) → ℕ
  head_row [] = 0
  head_row (e ∷ es) = e.row

  -- the row of the entry at an index
  abbrev pub row_at : List (Entry n) → ℕ → ℕ
  row_at [] index = 0
  row_at (e ∷ es) zero = e.row
  row_at (e ∷ es) (suc index) = row_at es index

  -- whether some entry has this row
  abbrev pub has_row : List (Entry n) → ℕ → Bool
  has_row [] row = false
  has_row (e ∷ es) row = e.row == row || has_row es row

  -- no two entries have one row
  abbrev pub RowsApart : List (Entry n) → Type 0
  RowsApart [] = Unit {0}
  RowsApart (e ∷ es) = (has_row es e.row ≡ false) × RowsApart es

  -- each entry has n bytes, at least one of them given, and 0 where none is given
  abbrev pub AllMasked : List (Entry n) → Type 0
  AllMasked [] = Unit {0}
  AllMasked (e ∷ es) = IsMasked n e.bytes e.given × AllMasked es
