-- A row that has come whole, of plain bytes.
use Rattle.std.proofs.Common.{◌≡◌, ℕ, zero, suc, ◌+◌, ◌-◌, ◌<◌, ◌≤◌, ◌==◌, List, [], ◌∷◌, ◌++◌, length, take, drop, get_or, Bool, true, false, Some, inl, refl, sym, ap, subst, ◌∙◌, arith}
use Rattle.std.{specs.List.list_all, specs.Prelude.{option_map, codes, Ok, Err}, specs.Str.bytes_eq, proofs.lemmas.Bool.Decides.nat_tests}
use Rattle.std.proofs.{lemmas.List.{append-nil, get_or-take, get_or_append_left, length-append, length-drop, length-take-le}, lemmas.List.Elements.All-from_get_or}
use Rattle.std.proofs.{lemmas.List.Sums.list_all-from_AllPass, lemmas.Slice.Eq.bytes_eq-Decides}
use Rattle.csv.specs.{Machine.next_record, Reading.default_config, Records.field_at}
use Rattle.csv.specs.declared.parser.State.TheVariants as st
use Rattle.trace_reader.specs.{Plain.{IsField, IsPlainRow, fields_in, is_plain, piece}, Rows.event_of, declared.event.Event.Event, declared.fault.Kind.Kind}
use Rattle.trace_reader.{specs.declared.plain.PlainRow.PlainRow, proofs.PlainRows.plain-next}
use Rattle.trace_stream.specs.{Arrived.Arrived, Asked.{IsAskedFor, asked_event, asked_of, is_event_word, is_settle, is_settle_word}, Kept.{FindsKept, kept_fields}}
use Rattle.trace_stream.specs.Stream.{AsksNext, HasFault, HasFront, IsPlainNext, Standing, asked_from, front_from, is_past, most_streamed}
use Rattle.trace_stream.{specs.declared.asked.Asked.TheVariants.Happens, proofs.Judging.asked-kept, proofs.KeptRecords.{kept_read, next_kept-is}, proofs.Lawful.asked-lawful}
use Rattle.trace_stream.proofs.Rows.{asks-faulty, asks-some, no-front}
use Rattle.trace_stream.specs.declared.fault.StreamFault.TheVariants as fault

-- the first bytes, each of which passes
pub all_first : (q : ℕ → Bool) (d : List ℕ) (n : ℕ) → n ≤ length d → ((k : ℕ) → k < n → q (get_or d k 0) ≡ true) → list_all q (take n d) ≡ true
all_first q d n within each =
    let size : length (take n d) ≡ n = length-take-le n d within in
    list_all-from_AllPass q (take n d)
    (All-from_get_or (λ x. q x ≡ true) (take n d) 0
    (λ k low. subst (λ x. q x ≡ true) (sym (get_or-take n d k 0 (omega (arith, low, size)))) (each k (omega (arith, low, size)))))

-- what stands behind changes nothing of a row
field-behind : (bytes more : List ℕ) (from at end : ℕ) → IsField bytes from at end → IsField (bytes ++ more) from at end
field-behind bytes more from at end field =
    let long = length-append bytes more in
    let within = field.within in
    record {
      order = field.order;
      within = omega arith;
      ends = get_or_append_left bytes more 0 at within ∙ field.ends;
      plain = λ k first low. subst (λ x. is_plain x ≡ true) (sym (get_or_append_left bytes more 0 k (omega arith))) (field.plain k first low);
    }

row-behind : (bytes more : List ℕ) (row : PlainRow) → IsPlainRow bytes 0 row → IsPlainRow (bytes ++ more) 0 row
row-behind bytes more row plain = record {
  tick = field-behind bytes more 0 row.tick 44 plain.tick;
  op = field-behind bytes more (row.tick + 1) row.op 44 plain.op;
  line = field-behind bytes more (row.op + 1) row.line 44 plain.line;
  payload = field-behind bytes more (row.line + 1) row.payload 10 plain.payload;
}

drop-before : (n : ℕ) (xs ys : List ℕ) → n ≤ length xs → drop n (xs ++ ys) ≡ drop n xs ++ ys
drop-before zero xs ys within = refl
drop-before (suc n) [] ys within = absurd (omega arith)
drop-before (suc n) (x ∷ xs) ys within = drop-before n xs ys (omega arith)

take-before : (n : ℕ) (xs ys : List ℕ) → n ≤ length xs → take n (xs ++ ys) ≡ take n xs
take-before zero xs ys within = refl
take-before (suc n) [] ys within = absurd (omega arith)
take-before (suc n) (x ∷ xs) ys within = ap (λ (t : List ℕ). x ∷ t) (take-before n xs ys (omega arith))

piece-behind : (bytes more : List ℕ) (from at end : ℕ) → IsField bytes from at end → piece (bytes ++ more) from at ≡ piece bytes from at
piece-behind bytes more from at end field =
    let order = field.order in
    let within = field.within in
    let left : length (drop from bytes) ≡ length bytes - from = length-drop from bytes in
    ap (take (at - from)) (drop-before from bytes more (omega arith)) ∙ take-before (at - from) (drop from bytes) more (omega arith)

fields-behind : (bytes more : List ℕ) (row : PlainRow) → IsPlainRow bytes 0 row → fields_in (bytes ++ more) 0 row ≡ fields_in bytes 0 row
fields-behind bytes more row plain =
    rw (
      piece-behind bytes more 0 row.tick 44 plain.tick,
      piece-behind bytes more (row.tick + 1) row.op 44 plain.op,
      piece-behind bytes more (row.op + 1) row.line 44 plain.line,
      piece-behind bytes more (row.line + 1) row.payload 10 plain.payload,
    ) refl

-- it is the next record, whatever may still come behind
pub plain-found : (bytes : List ℕ) (row : PlainRow) (new : Arrived) → IsPlainRow bytes 0 row → new.bytes ≡ drop (row.payload + 1) bytes
    → FindsKept true st.StartRecord (bytes ++ []) (kept_fields (fields_in bytes 0 row)) st.StartRecord new
plain-found bytes row new plain left = λ more comes.
    let within = plain.payload.within in
    let found = plain-next (bytes ++ more) 0 row (row-behind bytes more row plain) in
    let next : next_record default_config st.StartRecord [] [] (bytes ++ more) ≡ Some (fields_in bytes 0 row, st.StartRecord, new.bytes ++ more) =
    found ∙ ap (λ fields. Some (fields, st.StartRecord, drop (row.payload + 1) (bytes ++ more))) (fields-behind bytes more row plain)
    ∙ ap (λ (rest : List ℕ). Some (fields_in bytes 0 row, st.StartRecord, rest)) (drop-before (row.payload + 1) bytes more (omega arith) ∙ ap (λ (rest : List ℕ). rest ++ more) (sym left)) in
    inl (rw (append-nil bytes) (next_kept-is st.StartRecord (bytes ++ more) ∙ ap (option_map kept_read) next))

-- a read, a write or a cut is none of the other words, and so doesn't settle
other-word : (op word : List ℕ) → is_event_word op ≡ true → is_event_word word ≡ false → bytes_eq op word ≡ false
other-word op word event other = by (bytes_eq op word) refl
  where
    by : (b : Bool) → bytes_eq op word ≡ b → b ≡ false
    by true e =
        let clash : false ≡ true = sym other ∙ subst (λ (o : List ℕ). is_event_word o ≡ true) ((bytes_eq-Decides op word).0 e) event in
        cc clash
    by false e = refl

word-settles : (op : List ℕ) → is_event_word op ≡ true → is_settle_word op ≡ false
word-settles op event = rw (other-word op (codes "S") event refl, other-word op (codes "Q") event refl, other-word op (codes "L") event refl, other-word op (codes "U") event refl, other-word op (codes "P") event refl) refl

event-settles : (a op b c : List ℕ) → is_event_word op ≡ true → is_settle (a ∷ op ∷ b ∷ c ∷ []) ≡ false
unfolding field_at
event-settles a op b c event = word-settles op event

pub event-asked : (n lines rows before : ℕ) (bytes : List ℕ) (row : PlainRow) → is_event_word (piece bytes (row.tick + 1) row.op) ≡ true
    → asked_of n lines rows before (fields_in bytes 0 row) ≡ asked_event (event_of n lines before (fields_in bytes 0 row))
unfolding asked_of
event-asked n lines rows before bytes row event = rw (event-settles _ _ _ _ event) refl

-- and it isn't one too many
pub few-past : (rows : ℕ) (fields : List (List ℕ)) → rows < most_streamed → is_past rows fields ≡ false
few-past rows fields few =
    let other : (rows == most_streamed) ≡ false = grind (arith, nat_tests) in
    rw other refl

-- what is kept of the row asks for its event, or has its fault
module _ (n : ℕ) (old : Standing) (row : PlainRow) (small : n ≤ 128) (next : IsPlainNext old row) where
  abbrev pub of_row : List (List ℕ)
  of_row = fields_in old.arrived.bytes 0 row

  abbrev pub kept : List (List ℕ)
  kept = kept_fields of_row

  kept-asked : asked_of n old.lines old.rows old.tick kept ≡ asked_event (event_of n old.lines old.tick of_row)
  kept-asked = asked-kept n old.lines old.rows old.tick of_row small ∙ event-asked n old.lines old.rows old.tick old.arrived.bytes row next.event

  kept-found : (new : Standing) → new.state ≡ st.StartRecord → new.arrived.bytes ≡ drop (row.payload + 1) old.arrived.bytes
      → FindsKept true old.state (old.arrived.bytes ++ []) kept new.state new.arrived
  kept-found new state left = rw (next.starts, state) (plain-found old.arrived.bytes row new.arrived next.plain left)

  pub plain-asks : (new : Standing) (event : Event n) → event_of n old.lines old.tick of_row ≡ Ok event
      → new.state ≡ st.StartRecord → new.arrived.bytes ≡ drop (row.payload + 1) old.arrived.bytes
      → new.rows ≡ old.rows + 1 → new.tick ≡ event.tick → new.lines ≡ old.lines → AsksNext old [] (Some (Happens event)) new
  plain-asks new event is state left rows tick lines =
      asks-some n old new [] kept (Happens event) small (kept-found new state left) (kept-asked ∙ ap asked_event is) (few-past old.rows kept next.few) rows tick lines

  pub plain-lawful : (event : Event n) → 1 ≤ old.lines → event_of n old.lines old.tick of_row ≡ Ok event → IsAskedFor old.lines old.tick (Happens event)
  plain-lawful event some is = asked-lawful n old.lines old.rows old.tick kept (Happens event) some (kept-asked ∙ ap asked_event is)

  pub plain-faulty : (new : Standing) (kind : Kind) → event_of n old.lines old.tick of_row ≡ Err kind
      → new.state ≡ st.StartRecord → new.arrived.bytes ≡ drop (row.payload + 1) old.arrived.bytes
      → HasFault (asked_from n old) [] (fault.Trace (record { row = old.rows + 1; kind = kind })) new.arrived.ended
      × HasFront (front_from n old) [] [] new.arrived.ended
  plain-faulty new kind is state left =
      let found = kept-found new state left in
      let asks = kept-asked ∙ ap asked_event is in
      let within = few-past old.rows kept next.few in
      (asks-faulty n old new [] kept kind small found asks within, no-front n old new [] kept kind small found asks within)
