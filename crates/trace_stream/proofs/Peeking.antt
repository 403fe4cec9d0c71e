-- A peek is read as a read of its line is.
use Rattle.std.proofs.Common.{◌≡◌, ℕ, ◌==◌, List, length, Bool, true, false, Option, Some, None, nat_lt, refl, ap, sym, subst, ◌∙◌}
use Rattle.std.specs.Prelude.{codes, if◌then◌else◌, Result, Ok, Err}
use Rattle.trace_reader.specs.Rows.{event_at, line_of, op_of, or_fault, read_of, row_of, text_at, tick_of}
use Rattle.trace_reader.specs.{declared.event.Event.Event, declared.event.EventOp.EventOp, declared.event.EventOp.TheVariants.Read, declared.fault.Kind.Kind}
use Rattle.trace_reader.specs.declared.fault.Kind.TheVariants as kind
use Rattle.trace_stream.specs.{Asked.peek_of, declared.asked.Peek.Peek as Peeked}

-- an event is a read, and this is what it asks for as a peek; of a fault it is that
abbrev pub IsPeekOf : {n : ℕ} → Result (Event n) Kind → Result Peeked Kind → Type 0
IsPeekOf (Ok event) peek = (line : ℕ) × (event.op ≡ Read line) × (peek ≡ Ok (record { tick = event.tick; line = line }))
IsPeekOf (Err fault) peek = peek ≡ Err fault

module _ (n lines : ℕ) where
  reads : (line payload : List ℕ) → op_of n lines (codes "R") line payload ≡ or_fault (line_of lines line) kind.Line (λ line. if length payload == 0 then Ok (Read line) else Err kind.Payload)
  unfolding op_of read_of
  reads line payload = refl

  pub peek-read : (before : ℕ) (fields : List (List ℕ)) → IsPeekOf (row_of n lines before (text_at fields 0) (codes "R") (text_at fields 2) (text_at fields 3)) (peek_of lines before fields)
  unfolding peek_of
  peek-read before fields = rw (reads (text_at fields 2) (text_at fields 3)) (by (tick_of (text_at fields 0)) (line_of lines (text_at fields 2)) (length (text_at fields 3) == 0))
    where
      at : (tick : ℕ) (early : Bool) (line : Option ℕ) (none : Bool)
          → IsPeekOf {n = n} (if early then Err kind.Order else event_at tick (or_fault line kind.Line (λ line. if none then Ok (Read line) else Err kind.Payload)))
          (if early then Err kind.Order else or_fault line kind.Line (λ line. if none then Ok (record { tick = tick; line = line }) else Err kind.Payload))
      at tick true line none = refl
      at tick false None none = refl
      at tick false (Some line) true = (line, refl, refl)
      at tick false (Some line) false = refl

      by : (tick line : Option ℕ) (none : Bool)
          → IsPeekOf {n = n} (or_fault tick kind.Tick (λ tick. if nat_lt tick before then Err kind.Order else event_at tick (or_fault line kind.Line (λ line. if none then Ok (Read line) else Err kind.Payload))))
          (or_fault tick kind.Tick (λ tick. if nat_lt tick before then Err kind.Order else or_fault line kind.Line (λ line. if none then Ok (record { tick = tick; line = line }) else Err kind.Payload)))
      by None line none = refl
      by (Some tick) line none = at tick (nat_lt tick before) line none

-- and so by fields that are those of the record
pub peek-by : (lines before : ℕ) (fields : List (List ℕ)) (tick line payload : List ℕ) (r s : Result (Event 1) Kind) → tick ≡ text_at fields 0 → line ≡ text_at fields 2 → payload ≡ text_at fields 3
    → r ≡ row_of 1 lines before tick (codes "R") line payload → r ≡ s → IsPeekOf s (peek_of lines before fields)
peek-by lines before fields tick line payload r s is_tick is_line is_payload is same =
    let all : r ≡ row_of 1 lines before (text_at fields 0) (codes "R") (text_at fields 2) (text_at fields 3) =
    is ∙ ap (λ (t : List ℕ). row_of 1 lines before t (codes "R") line payload) is_tick
    ∙ ap (λ (t : List ℕ). row_of 1 lines before (text_at fields 0) (codes "R") t payload) is_line
    ∙ ap (λ (t : List ℕ). row_of 1 lines before (text_at fields 0) (codes "R") (text_at fields 2) t) is_payload in
    subst (λ (r : Result (Event 1) Kind). IsPeekOf r (peek_of lines before fields)) (sym all ∙ same) (peek-read 1 lines before fields)

-- the line of the read is that of the peek
pub same-line : (tick line other : ℕ) (op : EventOp 1) (peek : Result Peeked Kind) → op ≡ Read line → op ≡ Read other → peek ≡ Ok (record { tick = tick; line = line })
    → Ok (record { tick = tick; line = other }) ≡ peek
same-line tick line other op peek is also h =
    let same : line ≡ other = cc in
    rw (← same) (sym h)
