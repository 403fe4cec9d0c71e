-- Whether wearing out is earned, as far as rows tell.
use Rattle.std.specs.{List.list_any, Prelude.{ℕ, ◌+◌, ◌==◌, ◌&&◌, Bool, if◌then◌else◌, List, [], ◌∷◌, Option, Some, None}}
use Rattle.row_rules.specs.{Rows.accepted, Table.is_of, Wearing.is_wear_earned, declared.Row.Row}
use Rattle.check_verdict.specs.Verdicts.{bank_in, in_bank}

-- a bank is one of these
abbrev pub has_bank : ℕ → List ℕ → Bool
has_bank bank some = list_any (λ b. b == bank) some

module _ {n : ℕ} (banks : List ℕ) where
  -- a row is an accepted write of a bank
  abbrev pub takes : ℕ → Row n → Bool
  takes bank r = is_of (bank_in banks) bank r.asks && accepted r

  -- the lowest of these rows, the oldest first, that is worn though its bank has accepted no write before it. Those before them come the
  -- newest first
  abbrev pub unearned_from : ℕ → List (Row n) → List (Row n) → Option ℕ
  unearned_from row before [] = None
  unearned_from row before (r ∷ after) = if in_bank banks is_wear_earned before r after then unearned_from (row + 1) (r ∷ before) after else Some row

  -- that of a whole table, the oldest row first: no run has one
  abbrev pub unearned : List (Row n) → Option ℕ
  unearned rows = unearned_from 1 [] rows
