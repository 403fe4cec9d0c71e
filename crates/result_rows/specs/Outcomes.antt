-- What an outcome says: which operation it is of, and its word, tick, place and bytes.
use Rattle.std.specs.Prelude.{ℕ, List, [], Option, Some, None, codes}
use Rattle.result_rows.specs.{declared.Op.Op, declared.Outcome.Outcome}
use Rattle.result_rows.specs.declared.Op.TheVariants as op
use Rattle.result_rows.specs.declared.Outcome.TheVariants as out

module _ {n : ℕ} where
  -- the operation that an outcome belongs to; none where it isn't set
  abbrev pub op_of : Outcome n → Option Op
  op_of out.Unset = None
  op_of (out.Stored tick place) = Some op.Write
  op_of (out.Merged tick) = Some op.Write
  op_of (out.Queued tick) = Some op.Write
  op_of (out.Full tick) = Some op.Write
  op_of (out.Worn tick) = Some op.Write
  op_of (out.Read tick place bytes) = Some op.Read
  op_of (out.Forwarded tick bytes) = Some op.Read
  op_of (out.Busy tick) = Some op.Read
  op_of (out.Lost tick) = Some op.Read
  op_of (out.Cut tick) = Some op.Cut

  -- the word that is printed for an outcome
  abbrev pub outcome_word : Outcome n → List ℕ
  outcome_word out.Unset = []
  outcome_word (out.Stored tick place) = codes "stored"
  outcome_word (out.Merged tick) = codes "merged"
  outcome_word (out.Queued tick) = codes "queued"
  outcome_word (out.Full tick) = codes "full"
  outcome_word (out.Worn tick) = codes "worn"
  outcome_word (out.Read tick place bytes) = codes "read"
  outcome_word (out.Forwarded tick bytes) = codes "forwarded"
  outcome_word (out.Busy tick) = codes "busy"
  outcome_word (out.Lost tick) = codes "lost"
  outcome_word (out.Cut tick) = codes "cut"

  -- the tick of an outcome
  abbrev pub tick_of : Outcome n → Option ℕ
  tick_of out.Unset = None
  tick_of (out.Stored tick place) = Some tick
  tick_of (out.Merged tick) = Some tick
  tick_of (out.Queued tick) = Some tick
  tick_of (out.Full tick) = Some tick
  tick_of (out.Worn tick) = Some tick
  tick_of (out.Read tick place bytes) = Some tick
  tick_of (out.Forwarded tick bytes) = Some tick
  tick_of (out.Busy tick) = Some tick
  tick_of (out.Lost tick) = Some tick
  tick_of (out.Cut tick) = Some tick

  -- the array line that holds a stored write, or that was sensed for a read
  abbrev pub place_of : Outcome n → Option ℕ
  place_of (out.Stored tick place) = Some place
  place_of (out.Read tick place bytes) = Some place
  place_of _ = None

  -- the bytes that a read answered
  abbrev pub bytes_of : Outcome n → Option (List ℕ)
  bytes_of (out.Read tick place bytes) = Some bytes
  bytes_of (out.Forwarded tick bytes) = Some bytes
  bytes_of _ = None
