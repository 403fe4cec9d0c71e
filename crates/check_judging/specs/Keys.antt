-- Counting by the keys of a module's stored and read rows.
use Rattle.std.specs.{List.list_all, List.Sorted.IsPartitionPoint}
use Rattle.std.specs.Prelude.{◌≡◌, ℕ, ◌+◌, ◌*◌, ◌^◌, ◌<◌, ◌≤◌, Bool, true, false, IsTrue, if◌then◌else◌, List, [], ◌∷◌, nat_le, nat_lt, count_by, IsPermutation, length}
use Rattle.result_rows.specs.declared.Outcome.{Outcome}
use Rattle.result_rows.specs.declared.Outcome.TheVariants as out
use Rattle.row_rules.specs.{Rows.{asks_read, asks_write, line_of}, Table.of_bank, Ticking.{stores_in, reads_in}, declared.Row.Row}

-- ticks lie below this
abbrev pub reach : ℕ
reach = 2 ^ 50

-- a tick of a bank: of two keys of one bank the lesser has the lesser tick
abbrev pub key : ℕ → ℕ → ℕ
key bank tick = bank * reach + tick

-- a key is at most k
abbrev pub is_up_to : ℕ → ℕ → Bool
is_up_to k x = nat_le x k

-- how many of these are at most k
abbrev pub up_to : ℕ → List ℕ → ℕ
up_to k keys = count_by (λ x. nat_le x k) keys

module _ {n : ℕ} where
  -- the tick of a stored or a read row lies below the reach
  abbrev pub is_short : Outcome n → Bool
  is_short (out.Stored u index) = nat_lt u reach
  is_short (out.Read u index bytes) = nat_lt u reach
  is_short _ = true

  abbrev pub all_short : List (Row n) → Bool
  all_short rows = list_all (λ q. is_short q.outcome) rows

module _ {n : ℕ} (bank_of : ℕ → ℕ) where
  -- with the key of a stored write in front
  abbrev pub store_key : Row n → Outcome n → List ℕ → List ℕ
  store_key q (out.Stored u index) more = if asks_write q.asks then key (bank_of (line_of q.asks)) u ∷ more else more
  store_key q _ more = more

  abbrev pub store_keys : List (Row n) → List ℕ
  store_keys [] = []
  store_keys (q ∷ rows) = store_key q q.outcome (store_keys rows)

  -- with the key of a read that was read in front
  abbrev pub read_key : Row n → Outcome n → List ℕ → List ℕ
  read_key q (out.Read u index bytes) more = if asks_read q.asks then key (bank_of (line_of q.asks)) u ∷ more else more
  read_key q _ more = more

  abbrev pub read_keys : List (Row n) → List ℕ
  read_keys [] = []
  read_keys (q ∷ rows) = read_key q q.outcome (read_keys rows)

-- the index behind the keys up to k, in a sorted list with the same keys, is their number
abbrev pub IndexLaw : Type 0
IndexLaw =
    (k index : ℕ) (keys some : List ℕ) → IsPermutation some keys → IsPartitionPoint (λ x. nat_le x k ≡ true) (λ x. nat_le x k ≡ false) keys index
    → index ≤ length keys → index ≡ up_to k some

-- how many of a bank's rows are stored, or read, at ticks above a and at most u, is a difference of two such numbers
pub record CountsByKeys {n : ℕ} (bank_of : ℕ → ℕ) (bank a u : ℕ) (rows : List (Row n)) : Type 0 where
  pub stores : up_to (key bank a) (store_keys bank_of rows) + stores_in a u (of_bank bank_of bank rows) ≡ up_to (key bank u) (store_keys bank_of rows)
  pub reads : up_to (key bank a) (read_keys bank_of rows) + reads_in a u (of_bank bank_of bank rows) ≡ up_to (key bank u) (read_keys bank_of rows)

abbrev pub CountLaw : Type 0
CountLaw =
    (n : ℕ) (bank_of : ℕ → ℕ) (bank a u : ℕ) (rows : List (Row n)) → a ≤ u → u < reach → IsTrue (all_short rows)
    → CountsByKeys bank_of bank a u rows
