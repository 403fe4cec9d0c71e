-- Tests of an outcome: which it is, and by which tick it came.
use Rattle.std.specs.Prelude.{ℕ, Bool, true, false, nat_lt, nat_le}
use Rattle.result_rows.specs.declared.Outcome.{Outcome}
use Rattle.result_rows.specs.declared.Outcome.TheVariants as out

module _ {n : ℕ} where
  abbrev pub is_stored : Outcome n → Bool
  is_stored (out.Stored tick place) = true
  is_stored _ = false

  abbrev pub is_merged : Outcome n → Bool
  is_merged (out.Merged tick) = true
  is_merged _ = false

  abbrev pub is_queued : Outcome n → Bool
  is_queued (out.Queued tick) = true
  is_queued _ = false

  abbrev pub is_full : Outcome n → Bool
  is_full (out.Full tick) = true
  is_full _ = false

  abbrev pub is_worn : Outcome n → Bool
  is_worn (out.Worn tick) = true
  is_worn _ = false

  abbrev pub is_answered : Outcome n → Bool
  is_answered (out.Read tick place bytes) = true
  is_answered _ = false

  abbrev pub is_forwarded : Outcome n → Bool
  is_forwarded (out.Forwarded tick bytes) = true
  is_forwarded _ = false

  abbrev pub is_busy : Outcome n → Bool
  is_busy (out.Busy tick) = true
  is_busy _ = false

  abbrev pub is_lost : Outcome n → Bool
  is_lost (out.Lost tick) = true
  is_lost _ = false

  -- the outcome of a write that was accepted: it was stored, merged into a later one, or stands in the queue at the end
  abbrev pub accepts : Outcome n → Bool
  accepts (out.Stored tick place) = true
  accepts (out.Merged tick) = true
  accepts (out.Queued tick) = true
  accepts _ = false

  -- stored at a tick above t
  abbrev pub stored_after : ℕ → Outcome n → Bool
  stored_after t (out.Stored tick place) = nat_lt t tick
  stored_after t _ = false

  -- stored at tick t or below
  abbrev pub stored_by : ℕ → Outcome n → Bool
  stored_by t (out.Stored tick place) = nat_le tick t
  stored_by t _ = false

  -- stored at a tick below t
  abbrev pub stored_before : ℕ → Outcome n → Bool
  stored_before t (out.Stored tick place) = nat_lt tick t
  stored_before t _ = false

  -- read at a tick above t
  abbrev pub read_after : ℕ → Outcome n → Bool
  read_after t (out.Read tick place bytes) = nat_lt t tick
  read_after t _ = false

  -- read at tick t or below
  abbrev pub read_by : ℕ → Outcome n → Bool
  read_by t (out.Read tick place bytes) = nat_le tick t
  read_by t _ = false
