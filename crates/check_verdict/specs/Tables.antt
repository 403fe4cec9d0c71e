-- What sorted keys of a whole table tell of a row of it, and what the reads that came tell.
use Rattle.std.specs.Prelude.{◌≡◌, ℕ, ◌+◌, ◌<◌, ◌≤◌, ◌==◌, Bool, false, IsTrue, List, ◌∷◌, ◌++◌, Option, Some, None, IsPermutation, reverse, slice_get}
use Rattle.row_rules.specs.{Rows.asks_write, Serving.may_have, Table.of_bank, Ticking.{stores_in, reads_in, delay}, declared.Row.Row, declared.Rules.Rules}
use Rattle.check_judging.specs.{Coming.came, Keys.{reach, key, up_to, store_keys, read_keys, all_short}, Rising.falling, Standing.is_own}
use Rattle.check_verdict.specs.{Keeping.delay_kept, QueueLaws.KeysTell}

-- a whole table, the oldest row first, around one of its rows
abbrev pub around : {n : ℕ} → List (Row n) → Row n → List (Row n) → List (Row n)
around before r after = reverse before ++ r ∷ after

-- in the table of a bank, the numbers of stores and of reads in a span of ticks are differences of numbers of keys
pub record CountsTold {n : ℕ} (bank_of : ℕ → ℕ) (bank a u : ℕ) (before : List (Row n)) (r : Row n) (after : List (Row n)) (stores reads : List ℕ) : Type 0 where
  pub stored : up_to (key bank a) stores + stores_in a u (of_bank bank_of bank before ++ of_bank bank_of bank (r ∷ after)) ≡ up_to (key bank u) stores
  pub read : up_to (key bank a) reads + reads_in a u (of_bank bank_of bank before ++ of_bank bank_of bank (r ∷ after)) ≡ up_to (key bank u) reads

abbrev pub CountsToldLaw : Type 0
CountsToldLaw =
    (n : ℕ) (bank_of : ℕ → ℕ) (bank a u : ℕ) (before : List (Row n)) (r : Row n) (after : List (Row n)) (stores reads : List ℕ)
    → IsPermutation (store_keys bank_of (around before r after)) stores → IsPermutation (read_keys bank_of (around before r after)) reads
    → a ≤ u → u < reach → IsTrue (all_short (around before r after))
    → CountsTold bank_of bank a u before r after stores reads

-- around a row that is no write, the keys of all lines' stores tell of a line's
abbrev pub LineKeysLaw : Type 0
LineKeysLaw =
    (n : ℕ) (bank_of : ℕ → ℕ) (line t : ℕ) (before : List (Row n)) (r : Row n) (after : List (Row n)) (keys : List ℕ)
    → IsPermutation (store_keys (λ l. l) (around before r after)) keys → IsTrue (all_short (around before r after)) → asks_write r.asks ≡ false
    → KeysTell keys line t (of_bank bank_of (bank_of line) before ++ of_bank bank_of (bank_of line) after)

-- a row that may have its outcome has one of its own operation
abbrev pub OwnLaw : Type 0
OwnLaw = (n : ℕ) (r : Row n) (bytes : List ℕ) → IsTrue (may_have r.tick r.asks bytes r.outcome) → IsTrue (is_own r)

-- the last four of the reads that came, the newest first
pub record KeptFour {n : ℕ} (rows : List (Row n)) (first second third fourth : Option ℕ) : Type 0 where
  pub at_1 : first ≡ slice_get (came rows) 0
  pub at_2 : second ≡ slice_get (came rows) 1
  pub at_3 : third ≡ slice_get (came rows) 2
  pub at_4 : fourth ≡ slice_get (came rows) 3

-- four reads came since the last store up to tick a, where the fourth last came at a tick
abbrev pub four_came : {n : ℕ} → ℕ → Option ℕ → List (Row n) → Bool
four_came a None rows = false
four_came a (Some d) rows = stores_in d a rows == 0

-- how long a read may find its bank busy, by the fourth last of the reads that came
abbrev pub DelayLaw : Type 0
DelayLaw =
    (n t a : ℕ) (rules : Rules) (before after : List (Row n)) (first second third fourth : Option ℕ)
    → KeptFour before first second third fourth → IsTrue (falling t before)
    → delay rules rules.policy a before after ≡ delay_kept rules (four_came a fourth (before ++ after))

-- what is kept of the reads that came, behind one that is read or lost, and behind any other row
abbrev pub FourLaw : Type 0
FourLaw =
    (n : ℕ) (r : Row n) (rows : List (Row n)) (first second third fourth : Option ℕ)
    → KeptFour rows first second third fourth
    → (came (r ∷ rows) ≡ r.tick ∷ came rows → KeptFour (r ∷ rows) (Some r.tick) first second third)
    × (came (r ∷ rows) ≡ came rows → KeptFour (r ∷ rows) first second third fourth)
