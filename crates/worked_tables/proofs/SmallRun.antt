-- The worked run is right, and altered ones are not.
use Rattle.std.proofs.Common.{◌≡◌, ℕ, zero, suc, ◌+◌, ◌*◌, ◌/◌, ◌%◌, ◌<◌, ◌≤◌, ◌==◌, ◌&&◌, if◌then◌else◌, Bool, true, false, List, [], ◌∷◌, ◌++◌, inl, inr, lit<, lit≤, refl, sym, ap, ◌∙◌, subst, arith, cond}
use Rattle.std.{specs.Int.bit_at, specs.List.list_any, specs.Prelude.{nat_lt, nat_eq, slice_index}, proofs.lemmas.Bool.cases_eq, proofs.lemmas.Nat.Bits.bit_at-zero}
use Rattle.masked_bytes.proofs.Truth.{and_first, and_second}
use Rattle.rand_core.specs.{Steps.stream_of, Stream.next_u64}
use Rattle.seeded_words.specs.Words.{stream_after, word_at}
use Rattle.cell_rows.specs.declared.array.Sense.{Sense}
use Rattle.cell_rows.specs.Rows as cells
use Rattle.ecp_line.specs.{ArrayLines.{is_worn_at, decoded}, Reading.decode, Untouched.HasUntouched}
use Rattle.ecp_line.specs.Layout as layout
use Rattle.row_rules.specs.{Rows.each_row, Serving.is_served, Table.KeepsRows, Wearing.worn_row, declared.Row.Row}
use Rattle.worked_tables.specs.Runs.{small, reading, misplaced, first_bank, second_bank, senses, holding, ended, touched, forgotten, NeverRight, unmoved, hammered, strained}
use Rattle.worked_tables.specs.{Runs.{cut_short, emptied, queueing, first_byte, both_bytes, stored_so_far, unpulsed}, TableExamples.whole}
use Rattle.module_shape.specs.Addresses.{module_of, bank_shape}
use Rattle.right_runs.specs.{Banks.{bank_of_line, line_in_bank, line_named, rules_in}, Ends.{is_moved, BankEnd, EndsWith, IsRemapped, QueueEndsTo, is_kept_line, place_by_table}}
use Rattle.right_runs.specs.{KeepsLines.KeepsLines, KeepsLog.KeepsLog, KeepsPlaces.KeepsPlaces, Logs.is_line_fair}
use Rattle.right_runs.specs.{Queued.{QueueEntry, QueuedWrite, entries_by, first_again, queued_writes}, Runs.{EndsTo, RunsRight, StopsRight}, Tables.{finds_room_in, table_in}}

pub where_8_is : (bank_of_line small 0 8 ≡ 1) × (line_in_bank small 0 8 ≡ 5) × (line_named small 0 1 5 ≡ 8)
unfolding next_u64 stream_of stream_after word_at
where_8_is = (refl, refl, refl)

pub first_table : (written other : ℕ) → table_in small 0 0 (reading written other) ≡ first_bank other
unfolding next_u64 stream_of stream_after word_at
first_table written other = refl

pub second_table : (written other : ℕ) → table_in small 0 1 (reading written other) ≡ second_bank written
unfolding next_u64 stream_of stream_after word_at
second_table written other = refl

-- each of so many numbers from one on passes a test
abbrev each_from : (ℕ → Bool) → ℕ → ℕ → Bool
each_from test from zero = true
each_from test from (suc n) = test from && each_from test (from + 1) n

each-from : (test : ℕ → Bool) (n from at : ℕ) → each_from test from n ≡ true → from ≤ at → at < from + n → test at ≡ true
each-from test zero from at all low high = absurd (omega (arith, low, high))
each-from test (suc n) from at all low high =
    elim (cases_eq at from) [
      | inl is ↦ ap test is ∙ and_first (test from) _ all
      | inr other ↦ each-from test n (from + 1) at (and_second (test from) _ all) (omega (arith, low, other)) (omega (arith, high))
    ]

-- the worked rows
abbrev rows : List (Row 2)
rows = reading 0x11 0

first_rows : KeepsRows (rules_in 1 small 0) (first_bank 0)
first_rows = record { served = refl; queue = refl; wear = refl; earned = refl; ticks = refl }

second_rows : KeepsRows (rules_in 1 small 1) (second_bank 0x11)
second_rows = record { served = refl; queue = refl; wear = refl; earned = refl; ticks = refl }

first_places : KeepsPlaces 1 (bank_shape (module_of small) 0) ended (rules_in 1 small 0) (first_bank 0)
unfolding layout.width layout.some_below cells.cell cells.members lib.Count.count_trailing_zeros
first_places = record { worn = refl; pulses = lit≤ tt; placed = refl; taken = refl }

second_places : KeepsPlaces 1 (bank_shape (module_of small) 1) ended (rules_in 1 small 1) (second_bank 0x11)
unfolding layout.width layout.some_below cells.cell cells.members lib.Count.count_trailing_zeros
second_places = record { worn = refl; pulses = lit≤ tt; placed = refl; taken = refl }

-- the one line that was pulsed has one pulse, and one line write may take 40
few_pulses : (at : ℕ) → (ended.line at).pulses ≤ 1
few_pulses at = by (at == 17)
  where
    by : (b : Bool) → (cond b (holding 0x11 1) (holding 0 0)).pulses ≤ 1
    by true = lit≤ tt
    by false = lit≤ tt

few_spent : (at c : ℕ) → (ended.line at).spent c ≤ 1
few_spent at c = by (at == 17)
  where
    by : (b : Bool) → (cond b (holding 0x11 1) (holding 0 0)).spent c ≤ 1
    by true = lit≤ tt
    by false = lit≤ tt

none_stuck : (at c : ℕ) → (ended.line at).stuck c ≡ false
none_stuck at c = by (at == 17)
  where
    by : (b : Bool) → (cond b (holding 0x11 1) (holding 0 0)).stuck c ≡ false
    by true = refl
    by false = refl

first_lines : KeepsLines (bank_shape (module_of small) 0) ended (rules_in 1 small 0) (first_bank 0)
first_lines = record {
  pulses = λ slot exists. omega (arith, few_pulses ((bank_shape (module_of small) 0).base + slot));
  ages = λ slot exists. record { live = λ none c. omega (arith, few_spent ((bank_shape (module_of small) 0).base + slot) c); stuck = λ c is. absurd (cc (is, none_stuck ((bank_shape (module_of small) 0).base + slot) c)) };
  controls = λ item exists. absurd (omega (arith, exists));
  control_ages = λ item exists. absurd (omega (arith, exists));
}

second_lines : KeepsLines (bank_shape (module_of small) 1) ended (rules_in 1 small 1) (second_bank 0x11)
second_lines = record {
  pulses = λ slot exists. omega (arith, few_pulses ((bank_shape (module_of small) 1).base + slot));
  ages = λ slot exists. record { live = λ none c. omega (arith, few_spent ((bank_shape (module_of small) 1).base + slot) c); stuck = λ c is. absurd (cc (is, none_stuck ((bank_shape (module_of small) 1).base + slot) c)) };
  controls = λ item exists. absurd (omega (arith, exists));
  control_ages = λ item exists. absurd (omega (arith, exists));
}

-- a line of a bank is shown by the log
abbrev shows : ℕ → List (Row 2) → ℕ → Bool
shows bank rs line =
    is_line_fair (rules_in 1 small bank) rs senses
    (nat_lt line (bank * 11 + 11)) line (ended.line line).pulses

first_log : KeepsLog 1 (bank_shape (module_of small) 0) ended (rules_in 1 small 0) (first_bank 0) senses
unfolding decode layout.number layout.source_below layout.active layout.width layout.leading layout.some_below cells.cell cells.members lib.Count.count_trailing_zeros
first_log = record { sensed = refl; lines = λ line low high. each-from (shows 0 (first_bank 0)) 11 0 line refl low high; controls = refl }

second_log : KeepsLog 1 (bank_shape (module_of small) 1) ended (rules_in 1 small 1) (second_bank 0x11) senses
unfolding decode layout.number layout.source_below layout.active layout.width layout.leading layout.some_below cells.cell cells.members lib.Count.count_trailing_zeros
second_log = record { sensed = refl; lines = λ line low high. each-from (shows 1 (second_bank 0x11)) 11 11 line refl low high; controls = refl }

-- a line's newest bytes are there
abbrev is_there : ℕ → List (Row 2) → ℕ → Bool
is_there bank rs line =
    is_kept_line rs [] line (decoded 1 ended (place_by_table (bank_shape (module_of small) bank) (unmoved bank).moves (unmoved bank).table line))

abbrev is_right_moved : ℕ → List (Row 2) → ℕ → Bool
is_right_moved bank rs region = is_moved (bank_shape (module_of small) bank) (is_worn_at 1 ended) rs region 0

remapped : (bank : ℕ) → IsRemapped (bank_shape (module_of small) bank) (is_worn_at 1 ended) (unmoved bank).table
remapped bank = record { apart = λ slot other below also same. omega (arith, same); lines = λ slot below. inl refl }

-- no write is queued, and none was refused
empty : (bank : ℕ) (rs : List (Row 2)) → queued_writes rs ≡ [] → list_any worn_row rs ≡ false
    → QueueEndsTo false (bank_shape (module_of small) bank) (is_worn_at 1 ended) rs (unmoved bank)
empty bank rs none unworn = record {
  begun = false;
  entries = sym (ap (λ (ws : List (QueuedWrite 2)). entries_by false ws) none);
  some = λ is. absurd (cc);
  none_due = λ is. absurd (cc);
  again = λ is. absurd (cc (ap (λ (ws : List (QueuedWrite 2)). first_again ws) none, is));
  refused = λ is moved. absurd (cc (unworn, is));
  left = λ on some moved. absurd (some none);
}

first_end : EndsWith (bank_shape (module_of small) 0) (is_worn_at 1 ended) (decoded 1 ended) (first_bank 0) (unmoved 0)
unfolding decode layout.number layout.source_below layout.active layout.width layout.leading layout.some_below cells.cell cells.members lib.Count.count_trailing_zeros
first_end = record {
  lines = remapped 0;
  moved = λ region below. each-from (is_right_moved 0 (first_bank 0)) 2 0 region refl (omega arith) below;
  queue = empty 0 (first_bank 0) refl refl;
  kept = λ line below. each-from (is_there 0 (first_bank 0)) 8 0 line refl (omega arith) below;
  stored = refl;
}

second_end : EndsWith (bank_shape (module_of small) 1) (is_worn_at 1 ended) (decoded 1 ended) (second_bank 0x11) (unmoved 1)
unfolding decode layout.number layout.source_below layout.active layout.width layout.leading layout.some_below cells.cell cells.members lib.Count.count_trailing_zeros
second_end = record {
  lines = remapped 1;
  moved = λ region below. each-from (is_right_moved 1 (second_bank 0x11)) 2 0 region refl (omega arith) below;
  queue = empty 1 (second_bank 0x11) refl refl;
  kept = λ line below. each-from (is_there 1 (second_bank 0x11)) 8 0 line refl (omega arith) below;
  stored = refl;
}

-- ---- the run

-- what is so of the first bank and of the second is so of each
each_bank : (P : ℕ → Type 0) → P 0 → P 1 → (bank : ℕ) → bank < 2 → P bank
each_bank P first second bank few =
    elim (cases_eq bank 0) [
      | inl is ↦ subst P (sym is) first
      | inr other ↦ let one : 1 ≡ bank = omega (arith, few, other) in subst P one second
    ]

-- what is so of the rows of a bank is so of the bank's table
each_table : (P : ℕ → List (Row 2) → Type 0) → P 0 (first_bank 0) → P 1 (second_bank 0x11) → (bank : ℕ) → bank < 2 → P bank (table_in small 0 bank rows)
each_table P first second =
    each_bank (λ bank. P bank (table_in small 0 bank rows)) (subst (λ (rs : List (Row 2)). P 0 rs) (sym (first_table 0x11 0)) first)
    (subst (λ (rs : List (Row 2)). P 1 rs) (sym (second_table 0x11 0)) second)

served : each_row is_served rows [] ≡ true
served = refl

room : (bank : ℕ) → bank < 2 → each_row (finds_room_in (bank_of_line small 0) (line_in_bank small 0) (rules_in 1 small bank) bank) rows [] ≡ true
unfolding next_u64 stream_of stream_after word_at
room = each_bank (λ bank. each_row (finds_room_in (bank_of_line small 0) (line_in_bank small 0) (rules_in 1 small bank) bank) rows [] ≡ true) refl refl

-- the cells behind number 21 are unused
full_is : layout.full_cell 2 1 ≡ 21
unfolding layout.width lib.Count.count_trailing_zeros
full_is = refl

no_more : (b byte : ℕ) → 1 < byte → slice_index (whole b ++ 0 ∷ []) byte ≡ 0
no_more b zero past = absurd (omega (arith, past))
no_more b (suc zero) past = absurd (omega (arith, past))
no_more b (suc (suc zero)) past = refl
no_more b (suc (suc (suc byte))) past = refl

untouched : (b pulses : ℕ) → HasUntouched 1 (holding b pulses)
unfolding cells.cell
untouched b pulses number behind = record {
  held =
      ap (λ (x : ℕ). nat_eq (bit_at x (number % 8)) 1) (no_more b (number / 8) (omega (arith, behind, full_is)))
      ∙ ap (λ (x : ℕ). nat_eq x 1) (bit_at-zero (number % 8));
  live = refl;
  unmissed = refl;
}

unused : (line : ℕ) → HasUntouched 1 (ended.line line)
unused line = by (line == 17)
  where
    by : (b : Bool) → HasUntouched 1 (if b then holding 0x11 1 else holding 0 0)
    by true = untouched 0x11 1
    by false = untouched 0 0

pub is_right : RunsRight 1 small 0 rows ended unmoved
is_right = record {
  size = refl;
  serves = record {
    served = served;
    banks = each_table (λ bank rs. KeepsRows (rules_in 1 small bank) rs) first_rows second_rows;
    room = room;
    places = each_table (λ bank rs. KeepsPlaces 1 (bank_shape (module_of small) bank) ended (rules_in 1 small bank) rs) first_places second_places;
    lines = each_table (λ bank rs. KeepsLines (bank_shape (module_of small) bank) ended (rules_in 1 small bank) rs) first_lines second_lines;
  };
  sensed = λ log told.
      let same : senses ≡ log = cc in
      subst (λ (log : List (Sense 2 1)). (bank : ℕ) → bank < 2 → KeepsLog 1 (bank_shape (module_of small) bank) ended (rules_in 1 small bank) (table_in small 0 bank rows) log) same
      (each_table (λ bank rs. KeepsLog 1 (bank_shape (module_of small) bank) ended (rules_in 1 small bank) rs senses) first_log second_log);
  end = each_table (λ bank rs. EndsWith (bank_shape (module_of small) bank) (is_worn_at 1 ended) (decoded 1 ended) rs (unmoved bank)) first_end second_end;
  unused = λ line below. unused line;
}

-- ---- runs that aren't right

-- a read of bytes that its line doesn't have
pub stale_is_wrong : NeverRight (reading 0 0)
stale_is_wrong m e array ends right = absurd (cc (right.serves.served))

-- a read of another line's place, in another bank
pub misplaced_is_wrong : (ends : ℕ → BankEnd) → RunsRight 1 small 0 misplaced ended ends → ⊥
unfolding next_u64 stream_of stream_after word_at layout.width layout.some_below cells.cell cells.members lib.Count.count_trailing_zeros
misplaced_is_wrong ends right = absurd (cc ((right.serves.places 0 (lit< tt)).placed))

-- an array of which an unused check cell was pulsed
pub touched_is_wrong : RunsRight 1 small 0 rows touched unmoved → ⊥
unfolding cells.cell
touched_is_wrong right = let held = (right.unused 3 (lit< tt) 22 (omega (arith, full_is))).held in absurd cc

-- an array that hasn't kept what was written
pub forgotten_is_wrong : RunsRight 1 small 0 rows forgotten unmoved → ⊥
unfolding next_u64 stream_of stream_after word_at decode layout.number layout.source_below layout.active layout.width layout.leading layout.some_below cells.cell cells.members lib.Count.count_trailing_zeros
forgotten_is_wrong right = absurd (cc ((right.end 1 (lit< tt)).kept 5 (lit< tt)))

-- an array line that was pulsed more often than its slot's stores account for, though not more than its bank's do
pub hammered_is_wrong : RunsRight 1 small 0 rows hammered unmoved → ⊥
unfolding next_u64 stream_of stream_after word_at
hammered_is_wrong right = let many : 100 ≤ 80 = (right.serves.lines 1 (lit< tt)).pulses 6 (lit< tt) in absurd (omega (arith, many))

-- one with no cell stuck of which a cell changed more often than its stores account for, though it was pulsed no more often than it might be
pub strained_is_wrong : RunsRight 1 small 0 rows strained unmoved → ⊥
unfolding next_u64 stream_of stream_after word_at
strained_is_wrong right = let many : 10 ≤ 2 = ((right.serves.lines 1 (lit< tt)).ages 6 (lit< tt)).live (λ c. refl) 0 in absurd (omega (arith, many))

-- where the array lost the bytes of a line, and the power stays off, the queue gives both of them
pub lost_are_queued : (queue : List QueueEntry) → StopsRight 1 small 0 cut_short emptied (queueing queue) → queue ≡ both_bytes
unfolding next_u64 stream_of stream_after word_at decode layout.number layout.source_below layout.active layout.width layout.leading layout.some_below cells.cell cells.members lib.Count.count_trailing_zeros
lost_are_queued queue right = by (right.end 1 (lit< tt)).queue.begun (right.end 1 (lit< tt)).queue.entries ((right.end 1 (lit< tt)).kept 5 (lit< tt))
  where
    gives : Bool → List QueueEntry
    gives begun = entries_by begun (queued_writes (table_in small 0 1 cut_short))

    by : (begun : Bool) → queue ≡ gives begun → is_kept_line (table_in small 0 1 cut_short) queue 5 (whole 0) ≡ true → queue ≡ both_bytes
    by true is kept = is
    by false is kept =
        let no : ◌≡◌ {A = Bool} false true = subst (λ (q : List QueueEntry). is_kept_line (table_in small 0 1 cut_short) q 5 (whole 0) ≡ true) is kept in
        absurd (cc)

-- so one that gives the first byte alone is refused
pub lost_is_wrong : StopsRight 1 small 0 cut_short emptied (queueing first_byte) → ⊥
lost_is_wrong right =
    let no : ◌≡◌ {A = List Bool} (true ∷ false ∷ []) (true ∷ true ∷ []) = ap first_given (lost_are_queued first_byte right) in
    absurd (cc)
  where
    first_given : List QueueEntry → List Bool
    first_given [] = []
    first_given (entry ∷ entries) = entry.gives.given

-- ---- while more may come

-- an array that was never pulsed has what was stored in no line
pub unpulsed_is_wrong : (ends : ℕ → BankEnd) → EndsTo 1 small 0 true stored_so_far unpulsed ends → ⊥
unfolding next_u64 stream_of stream_after word_at decode layout.number layout.source_below layout.active layout.width layout.leading layout.some_below cells.cell cells.members lib.Count.count_trailing_zeros
unpulsed_is_wrong ends right = by (right 1 (lit< tt)).queue.begun (ends 1).queue (right 1 (lit< tt)).queue.entries ((right 1 (lit< tt)).kept 5 (lit< tt))
  where
    by : (begun : Bool) (queue : List QueueEntry) → queue ≡ entries_by begun (queued_writes (table_in small 0 1 stored_so_far))
        → is_kept_line (table_in small 0 1 stored_so_far) queue 5 (whole 0) ≡ true → ⊥
    by true queue is kept =
        let no : ◌≡◌ {A = Bool} false true = subst (λ (q : List QueueEntry). is_kept_line (table_in small 0 1 stored_so_far) q 5 (whole 0) ≡ true) is kept in
        cc no
    by false queue is kept =
        let no : ◌≡◌ {A = Bool} false true = subst (λ (q : List QueueEntry). is_kept_line (table_in small 0 1 stored_so_far) q 5 (whole 0) ≡ true) is kept in
        cc no
