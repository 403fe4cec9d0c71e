-- The lines of a write, and that of a cut, tell exactly the outcomes that are right.
use Rattle.std.proofs.Common.{◌≡◌, ℕ, ◌+◌, ◌<◌, ◌≤◌, ◌==◌, ◌&&◌, ◌||◌, not, Bool, true, false, List, [], ◌∷◌, ◌++◌, Option, Some, None, length, refl, sym, ap, ◌∙◌, cond, subst, arith}
use Rattle.std.specs.{List.{list_all, list_any}, Prelude.{count_by, nat_le, nat_lt, option_to_list, reverse}}
use Rattle.std.proofs.lemmas.Bool.{leb-true, leb-false, le-leb, lt-leb, lt-ltb, le-ltb, ltb-true, ltb-false}
use Rattle.masked_bytes.proofs.{Counting.{count-append, count-cons}, Truth.{and_false, and_first, and_second, and_true, or_false}}
use Rattle.result_rows.specs.declared.Outcome.{Outcome}
use Rattle.result_rows.specs.declared.Outcome.TheVariants as out
use Rattle.row_rules.specs.{Answers.{stored_after, stored_by, read_after, read_by}, Queueing.{has_room, merges_at, pending}, Rows.{accepted_of, asks_read, asks_write}}
use Rattle.row_rules.specs.{Table.{is_of, of_bank}, Ticking.{apart, cuts_to, longest, reads_in, stores_in}, Wearing.{worn_by, worn_row}, declared.Row.Row, declared.Rules.Rules}
use Rattle.check_judging.{specs.Distances.{end_to, ends_above, is_far_below, last_end, later_of, waits_above}, specs.Rising.rising, proofs.Apart.apart_law}
use Rattle.check_verdict.{specs.Judged.{a_cut, a_write, beside}, specs.Verdicts.{all_have_room, bank_in}, specs.declared.Rule.Rule, proofs.Apart.all-reverse}
use Rattle.check_verdict.proofs.{Fits.any-reverse, Settles.filter-reverse}
use Rattle.check_telling.specs.{Clauses.latest, RightWrites.{RightCutLaw, RightWriteLaw, is_right_cut, is_right_write, may_be_full}}
use Rattle.check_telling.specs.{Standing.{first_at, mates_of, row_at, rows_of, tick_at}, WriteGrounds.{TellsWrite, by_bound}, declared.facts.RowAt.RowAt}
use Rattle.check_telling.specs.{declared.mates.Numbered.Numbered, declared.writes.WriteGrounds.WriteGrounds}
use Rattle.clause_telling.{specs.Rooms.{TellsRoom, is_room}, specs.declared.room.Crowd.Crowd, proofs.Rooms.room_law}
use Rattle.verdict_telling.specs.Explained.{MayTell, is_offered, is_right, is_some_row}
use Rattle.verdict_telling.specs.Offers.{Offer, Stores, Merged, Queued, Full, Stored, Worn, is_below, is_none_of, line_if, lines_of, may_store, merged_line, offers, stored_line}
use Rattle.verdict_telling.{specs.Offers.{unless_worn, write_lines}, proofs.Banks.{rising_of_bank, rows_are, worn_is}, proofs.Lines.any_if}
use Rattle.verdict_telling.specs.declared.row.Finds.TheVariants as finds

-- how much a test counts
abbrev tally : Bool → ℕ
tally b = cond b 1 0

-- a row is told that comes at this tick
abbrev is_next : ℕ → Option RowAt → Bool
is_next u None = false
is_next u (Some one) = one.tick == u

module _ {n : ℕ} where
  -- ---- worn rows

  -- where no row is worn, none is by a tick
  none_by : (u : ℕ) (rows : List (Row n)) → list_any worn_row rows ≡ false → worn_by u rows ≡ false
  none_by u [] h = refl
  none_by u (q ∷ rows) h = by (worn_row q) h (none_by u rows)
    where
      by : (b : Bool) → (b || list_any worn_row rows) ≡ false → (list_any worn_row rows ≡ false → worn_by u rows ≡ false) → ((b && nat_le q.tick u) || worn_by u rows) ≡ false
      by true h k = absurd (cc)
      by false h k = k h

  -- nor is one by a tick below those of all
  none_yet : (u t : ℕ) (rows : List (Row n)) → u < t → rising t rows ≡ true → worn_by u rows ≡ false
  none_yet u t [] lt h = refl
  none_yet u t (q ∷ rows) lt h =
      let le : t ≤ q.tick = leb-true t q.tick (and_first _ _ h) in
      let over : u < q.tick = omega (arith, lt, le) in
      by (worn_row q) (nat_le q.tick u) (lt-leb q.tick u over) (none_yet u q.tick rows over (and_second _ _ h))
    where
      by : (b c : Bool) → c ≡ false → worn_by u rows ≡ false → ((b && c) || worn_by u rows) ≡ false
      by true c e k = ap (λ x. x || worn_by u rows) e ∙ k
      by false c e k = k

  -- a tick lies below that of the first worn row where no row is worn by then
  before_worn : (u t : ℕ) (told : List (Numbered n)) → rising t (rows_of told) ≡ true → is_below u (tick_at (first_at worn_row told)) ≡ not (worn_by u (rows_of told))
  before_worn u t [] h = refl
  before_worn u t (one ∷ told) h = by (worn_row one.row) (before_worn u one.row.tick told (and_second _ _ h))
    where
      late : (c : Bool) → nat_le one.row.tick u ≡ c → nat_lt u one.row.tick ≡ not (c || worn_by u (rows_of told))
      late true e = le-ltb u one.row.tick (leb-true one.row.tick u e)
      late false e =
          let over : u < one.row.tick = leb-false one.row.tick u e in
          lt-ltb u one.row.tick over ∙ sym (ap not (none_yet u one.row.tick (rows_of told) over (and_second _ _ h)))

      by : (b : Bool) → is_below u (tick_at (first_at worn_row told)) ≡ not (worn_by u (rows_of told))
          → is_below u (tick_at (cond b (Some (row_at one)) (first_at worn_row told))) ≡ not ((b && nat_le one.row.tick u) || worn_by u (rows_of told))
      by true k = late (nat_le one.row.tick u) refl
      by false k = k

  -- ---- the next accepted write

  at_next : (line u : ℕ) (told : List (Numbered n)) → is_next u (first_at (accepted_of line) told) ≡ merges_at line u (rows_of told)
  at_next line u [] = refl
  at_next line u (one ∷ told) = by (accepted_of line one.row) (at_next line u told)
    where
      by : (b : Bool) → is_next u (first_at (accepted_of line) told) ≡ merges_at line u (rows_of told)
          → is_next u (cond b (Some (row_at one)) (first_at (accepted_of line) told)) ≡ cond b (one.row.tick == u) (merges_at line u (rows_of told))
      by true h = refl
      by false h = h

  -- ---- counts

  -- a row between others counts beside them
  between : (p : Row n → Bool) (past : List (Row n)) (r : Row n) (later : List (Row n)) → count_by p (past ++ r ∷ later) ≡ count_by p (past ++ later) + tally (p r)
  between p past r later =
      let a = count-append p past (r ∷ later) in
      let b = count-cons p r later in
      let c = count-append p past later in
      omega (arith, a, b, c)

  abbrev is_stored_in : ℕ → ℕ → Row n → Bool
  is_stored_in above to q = asks_write q.asks && (stored_after above q.outcome && stored_by to q.outcome)

-- both tests of a write that is stored: its own ticks, and those of other rows
stored : (any low high s late told p q : Bool) → (any ≡ false → low ≡ false) → (s ≡ true → late ≡ told) → (s ≡ true → p ≡ q)
    → (not any && ((not low && high) && ((s && late) && p))) ≡ (not any && (high && ((s && told) && q)))
stored true low high s late told p q a b c = refl
stored false low high s late told p q a b c = ap (λ x. (not x && high) && ((s && late) && p)) (a refl) ∙ by s b c
  where
    by : (s : Bool) → (s ≡ true → late ≡ told) → (s ≡ true → p ≡ q) → (high && ((s && late) && p)) ≡ (high && ((s && told) && q))
    by false b c = refl
    by true b c = ap (λ x. high && (x && p)) (b refl) ∙ ap (λ x. high && (told && x)) (c refl)

-- a store lies behind the greatest of those up to an earlier tick
abbrev IsLow : ℕ → Option ℕ → Type 0
IsLow t None = Unit {0}
IsLow t (Some v) = v ≤ t

low_of : {n : ℕ} (t : ℕ) (rows : List (Row n)) → IsLow t (last_end t rows)
low_of t [] = tt
low_of {n} t (q ∷ rows) = ends q.outcome (last_end t rows) (low_of t rows)
  where
    greater : (u : ℕ) (found : Option ℕ) → u ≤ t → IsLow t found → IsLow t (later_of u found)
    greater u None le h = le
    greater u (Some v) le h = by (nat_le u v)
      where
        by : (b : Bool) → IsLow t (cond b (Some v) (Some u))
        by true = h
        by false = le

    ends : (o : Outcome n) (found : Option ℕ) → IsLow t found → IsLow t (end_to t o found)
    ends (out.Stored u place) found h = by (nat_lt t u) refl
      where
        by : (b : Bool) → nat_lt t u ≡ b → IsLow t (cond b found (later_of u found))
        by true e = h
        by false e = greater u found (ltb-false t u e) h
    ends _ found h = h

abbrev is_far : ℕ → ℕ → ℕ → Bool
is_far read u v = nat_le (u + read) v || nat_le (v + read) u

far_from_last : (read t u : ℕ) (found : Option ℕ) (ticks : List ℕ) → t < u → IsLow t found
    → (is_far_below read u found && list_all (is_far read u) ticks) ≡ list_all (is_far read u) (option_to_list found ++ ticks)
far_from_last read t u None ticks lt low = refl
far_from_last read t u (Some v) ticks lt low = ap (λ b. (b || nat_le (v + read) u) && list_all (is_far read u) ticks) (sym (lt-leb (u + read) v (omega (arith, lt, low))))

-- ---- the lines of a write

abbrev is_merged : (Offer → Bool) → Option RowAt → Bool
is_merged p None = false
is_merged p (Some next) = p (Merged next.tick)

none_merged : (p : Offer → Bool) (next : Option RowAt) → ((t : ℕ) → p (Merged t) ≡ false) → is_merged p next ≡ false
none_merged p None off = refl
none_merged p (Some next) off = off next.tick

and_swap : (a b : Bool) → (a && b) ≡ (b && a)
and_swap true true = refl
and_swap true false = refl
and_swap false true = refl
and_swap false false = refl

and_last : (a b c : Bool) → (a && (b && c)) ≡ (c && (a && b))
and_last true b c = and_swap b c
and_last false b true = refl
and_last false b false = refl

or_group : (a b c : Bool) → (a && (b && c)) ≡ ((a && b) && c)
or_group true b c = refl
or_group false b c = refl

module _ {n : ℕ} (w : WriteGrounds n) (tick read : ℕ) where
  abbrev lines : Option RowAt → List Offer
  lines worn = unless_worn w tick read worn (Worn tick ∷ [])

  -- what a test finds in them where no row before is worn
  parts : (p : Offer → Bool)
      → list_any p (lines None)
      ≡ (p (Stored (stored_line w tick read)) || (is_merged p w.next || (p (Queued tick) || ((p (Full tick) && (w.full && w.alone)) || (p (Worn tick) || false)))))
  parts p =
      ap (λ b. p (Stored (stored_line w tick read)) || b)
      (by w.next ∙ ap (λ b. is_merged p w.next || (p (Queued tick) || b)) (any_if p (w.full && w.alone) (Full tick) (Worn tick ∷ [])))
    where
      by : (next : Option RowAt)
          → list_any p (merged_line next (Queued tick ∷ line_if (w.full && w.alone) (Full tick) (Worn tick ∷ [])))
          ≡ (is_merged p next || list_any p (Queued tick ∷ line_if (w.full && w.alone) (Full tick) (Worn tick ∷ [])))
      by None = refl
      by (Some next) = refl

  -- behind a worn row there is no line but `worn`
  finish : (p : Offer → Bool) (x any : Bool) → list_any p (lines None) ≡ x → p (Worn tick) ≡ false → (worn : Option RowAt) → is_some_row worn ≡ any
      → (not any && x) ≡ list_any p (lines worn)
  finish p x any is off None e = ap (λ b. not b && x) (sym e) ∙ sym is
  finish p x any is off (Some one) e = ap (λ b. not b && x) (sym e) ∙ sym (ap (λ b. b || false) off)

module _ {n : ℕ} (rules : Rules) (banks : List ℕ) (before after : List (Row n)) (tick line : ℕ) (w : WriteGrounds n)
    (tells : TellsWrite rules banks tick line before after w) (rises : rising tick (beside banks line after) ≡ true) where
  abbrev past : List (Row n)
  past = beside banks line (reverse before)

  abbrev later : List (Row n)
  later = beside banks line after

  abbrev store : Stores
  store = stored_line w tick rules.read_ticks

  any : is_some_row w.worn_before ≡ list_any worn_row past
  any =
      ap is_some_row tells.before_is ∙ worn_is (mates_of (bank_in banks) (bank_in banks line) 0 before)
      ∙ ap (list_any worn_row) (rows_are (bank_in banks) (bank_in banks line) 0 before)
      ∙ sym (ap (list_any worn_row) (filter-reverse (λ (r : Row n). is_of (bank_in banks) (bank_in banks line) r.asks) before)
      ∙ any-reverse worn_row (of_bank (bank_in banks) (bank_in banks line) before))

  behind : rows_of (mates_of (bank_in banks) (bank_in banks line) (length before + 1) after) ≡ later
  behind = rows_are (bank_in banks) (bank_in banks line) (length before + 1) after

  worn : (u : ℕ) → is_below u (tick_at w.worn_behind) ≡ not (worn_by u later)
  worn u =
      ap (λ found. is_below u (tick_at found)) tells.behind_is
      ∙ before_worn u tick (mates_of (bank_in banks) (bank_in banks line) (length before + 1) after) (ap (rising tick) behind ∙ rises)
      ∙ ap (λ xs. not (worn_by u xs)) behind

  next : (u : ℕ) → is_next u w.next ≡ merges_at line u later
  next u = ap (is_next u) tells.next_is ∙ at_next line u (mates_of (bank_in banks) (bank_in banks line) (length before + 1) after) ∙ ap (merges_at line u) behind

  full : (w.full && w.alone) ≡ may_be_full rules tick line past
  full =
      ap (λ b. b && w.alone) tells.finds.full_is
      ∙ ap (λ b. length (pending tick [] past) == rules.writes && b) tells.finds.alone_is

  -- by when a write is stored
  abbrev latest_at : ℕ → ℕ
  latest_at u = tick + by_bound w.bound (stores_in tick u (past ++ later)) (reads_in tick u (past ++ later)) (cuts_to u later)

  late : (u place : ℕ) (bytes : List ℕ) (given : List Bool) → nat_lt tick u ≡ true
      → latest rules u (a_write tick line bytes given (out.Stored u place)) past later ≡ latest_at u
  late u place bytes given lt =
      let r : Row n = a_write tick line bytes given (out.Stored u place) in
      let own : is_stored_in tick u r ≡ true = ap (λ b. b && nat_le u u) lt ∙ le-leb u u (omega arith) in
      let one : tally (is_stored_in tick u r) ≡ 1 = ap tally own in
      let s : stores_in tick u (past ++ r ∷ later) ≡ 1 + stores_in tick u (past ++ later) = between (is_stored_in tick u) past r later ∙ omega (arith, one) in
      let c : reads_in tick u (past ++ r ∷ later) ≡ reads_in tick u (past ++ later)
      = between (λ q. asks_read q.asks && (read_after tick q.outcome && read_by u q.outcome)) past r later ∙ omega arith in
      ap (λ k. tick + longest rules k (reads_in tick u (past ++ r ∷ later)) (cuts_to u later)) s
      ∙ ap (λ k. tick + longest rules (1 + stores_in tick u (past ++ later)) k (cuts_to u later)) c
      ∙ ap (λ k. tick + k) (tells.finds.bound_is (stores_in tick u (past ++ later)) (reads_in tick u (past ++ later)) (cuts_to u later))

  -- how far it lies from what came before
  far : (u place : ℕ) → nat_lt tick u ≡ true
      → list_all (λ q. apart rules.read_ticks (out.Stored u place) q.outcome) past ≡ (list_all (is_far rules.read_ticks u) store.far && is_none_of u store.but)
  far u place lt =
      let read = rules.read_ticks in
      let other = λ (v : ℕ). not (u == v) in
      let stores : list_all (is_far read u) w.stores.items ≡ list_all (is_far read u) (ends_above tick past)
      = ap (list_all (is_far read u)) tells.finds.stores_are ∙ all-reverse (is_far read u) (ends_above tick past) in
      let reads : list_all other w.reads.items ≡ list_all other (waits_above tick past) = ap (list_all other) tells.finds.reads_are ∙ all-reverse other (waits_above tick past) in
      let low : IsLow tick w.last_store = subst (IsLow tick) (sym tells.finds.last_is) (low_of tick past) in
      apart_law n read tick (out.Stored u place) past lt
      ∙ ap (λ found. is_far_below read u found && (list_all (is_far read u) (ends_above tick past) && list_all other (waits_above tick past))) (sym tells.finds.last_is)
      ∙ ap (λ b. is_far_below read u w.last_store && (b && list_all other (waits_above tick past))) (sym stores)
      ∙ ap (λ b. is_far_below read u w.last_store && (list_all (is_far read u) w.stores.items && b)) (sym reads)
      ∙ or_group (is_far_below read u w.last_store) (list_all (is_far read u) w.stores.items) (list_all other w.reads.items)
      ∙ ap (λ b. b && list_all other w.reads.items) (far_from_last read tick u w.last_store w.stores.items (ltb-true tick u lt) low)

  abbrev offer : Outcome n → Offer → Bool
  offer o = offers past later o

  -- no line but `worn` is of another outcome's kind
  none : (o : Outcome n) → ((t : ℕ) → offer o (Merged t) ≡ false) → offer o (Stored store) ≡ false → offer o (Queued tick) ≡ false → offer o (Full tick) ≡ false
      → list_any (offer o) (lines w tick rules.read_ticks None) ≡ (offer o (Worn tick) || false)
  none o m s q f =
      parts w tick rules.read_ticks (offer o)
      ∙ ap (λ b. b || (is_merged (offer o) w.next || (offer o (Queued tick) || ((offer o (Full tick) && (w.full && w.alone)) || (offer o (Worn tick) || false))))) s
      ∙ ap (λ b. b || (offer o (Queued tick) || ((offer o (Full tick) && (w.full && w.alone)) || (offer o (Worn tick) || false)))) (none_merged (offer o) w.next m)
      ∙ ap (λ b. b || ((offer o (Full tick) && (w.full && w.alone)) || (offer o (Worn tick) || false))) q
      ∙ ap (λ b. (b && (w.full && w.alone)) || (offer o (Worn tick) || false)) f

  -- an outcome of another operation
  other : (o : Outcome n) → ((t : ℕ) → offer o (Merged t) ≡ false) → offer o (Stored store) ≡ false → offer o (Queued tick) ≡ false → offer o (Full tick) ≡ false
      → offer o (Worn tick) ≡ false → false ≡ list_any (offer o) (write_lines w tick rules.read_ticks)
  other o m s q f x =
      sym (and_false (not (list_any worn_row past)))
      ∙ finish w tick rules.read_ticks (offer o) false (list_any worn_row past) (none o m s q f ∙ ap (λ b. b || false) x) x w.worn_before any

  pub write_lines_tell : (bytes : List ℕ) (given : List Bool) (o : Outcome n)
      → is_right_write rules line (a_write tick line bytes given o) o past later ≡ list_any (offer o) (write_lines w tick rules.read_ticks)
  write_lines_tell bytes given (out.Stored u place) =
      let o : Outcome n = out.Stored u place in
      let apart_is = list_all (is_far rules.read_ticks u) store.far && is_none_of u store.but in
      let found : list_any (offer o) (lines w tick rules.read_ticks None) ≡ may_store past later store u
      = parts w tick rules.read_ticks (offer o) ∙ ap (λ b. may_store past later store u || (b || false)) (none_merged (offer o) w.next (λ t. refl)) ∙ or_false (may_store past later store u) in
      stored (list_any worn_row past) (worn_by u past) (not (worn_by u later)) (nat_lt tick u) (nat_le u (latest rules u (a_write tick line bytes given o) past later))
      (nat_le u (latest_at u)) (list_all (λ q. apart rules.read_ticks o q.outcome) past) apart_is (none_by u past)
      (λ lt. ap (nat_le u) (late u place bytes given lt)) (far u place)
      ∙ ap (λ b. not (list_any worn_row past) && (b && ((nat_lt tick u && nat_le u (latest_at u)) && apart_is))) (sym (worn u))
      ∙ finish w tick rules.read_ticks (offer o) (may_store past later store u) (list_any worn_row past) found refl w.worn_before any
  write_lines_tell bytes given (out.Merged u) =
      let o : Outcome n = out.Merged u in
      let found : list_any (offer o) (lines w tick rules.read_ticks None) ≡ is_next u w.next = parts w tick rules.read_ticks (offer o) ∙ or_false (is_merged (offer o) w.next) ∙ merges w.next in
      and_swap (merges_at line u later) (not (list_any worn_row past)) ∙ ap (λ b. not (list_any worn_row past) && b) (sym (next u))
      ∙ finish w tick rules.read_ticks (offer o) (is_next u w.next) (list_any worn_row past) found refl w.worn_before any
    where
      merges : (found : Option RowAt) → is_merged (offer (out.Merged u)) found ≡ is_next u found
      merges None = refl
      merges (Some one) = refl
  write_lines_tell bytes given (out.Queued u) =
      let o : Outcome n = out.Queued u in
      let found : list_any (offer o) (lines w tick rules.read_ticks None) ≡ (u == tick)
      = parts w tick rules.read_ticks (offer o) ∙ ap (λ b. b || ((u == tick) || false)) (none_merged (offer o) w.next (λ t. refl)) ∙ or_false (u == tick) in
      and_swap (u == tick) (not (list_any worn_row past))
      ∙ finish w tick rules.read_ticks (offer o) (u == tick) (list_any worn_row past) found refl w.worn_before any
  write_lines_tell bytes given (out.Full u) =
      let o : Outcome n = out.Full u in
      let found : list_any (offer o) (lines w tick rules.read_ticks None) ≡ (u == tick && (w.full && w.alone))
      = parts w tick rules.read_ticks (offer o) ∙ ap (λ b. b || ((u == tick && (w.full && w.alone)) || false)) (none_merged (offer o) w.next (λ t. refl))
      ∙ or_false (u == tick && (w.full && w.alone)) in
      and_last (u == tick) (may_be_full rules tick line past) (not (list_any worn_row past))
      ∙ ap (λ b. not (list_any worn_row past) && (u == tick && b)) (sym full)
      ∙ finish w tick rules.read_ticks (offer o) (u == tick && (w.full && w.alone)) (list_any worn_row past) found refl w.worn_before any
  write_lines_tell bytes given (out.Worn u) = by w.worn_before
    where
      by : (worn : Option RowAt) → (u == tick) ≡ list_any (offer (out.Worn u)) (lines w tick rules.read_ticks worn)
      by None = sym (none (out.Worn u) (λ t. refl) refl refl refl ∙ or_false (u == tick))
      by (Some one) = sym (or_false (u == tick))
  write_lines_tell bytes given out.Unset = other out.Unset (λ t. refl) refl refl refl refl
  write_lines_tell bytes given (out.Read u place some) = other (out.Read u place some) (λ t. refl) refl refl refl refl
  write_lines_tell bytes given (out.Forwarded u some) = other (out.Forwarded u some) (λ t. refl) refl refl refl refl
  write_lines_tell bytes given (out.Busy u) = other (out.Busy u) (λ t. refl) refl refl refl refl
  write_lines_tell bytes given (out.Lost u) = other (out.Lost u) (λ t. refl) refl refl refl refl
  write_lines_tell bytes given (out.Cut u) = other (out.Cut u) (λ t. refl) refl refl refl refl

-- so they do where the row is told, as far as the banks have room
module _ {n : ℕ} (rules : Rules) (banks : List ℕ) (before after : List (Row n)) (tick : ℕ) (own : Outcome n) (rule : Rule) where
  pub write_exact : RightWriteLaw → (line : ℕ) (bytes : List ℕ) (given : List Bool) (w : WriteGrounds n) (crowd : Option (Crowd n))
      → MayTell rules banks before (a_write tick line bytes given own) after rule → TellsRoom rules banks tick (reverse before) crowd
      → TellsWrite rules banks tick line before after w → (o : Outcome n)
      → is_right rules banks before (a_write tick line bytes given own) after o
      ≡ is_offered rules banks before (a_write tick line bytes given own) after (lines_of rules tick (finds.Write w) crowd) o
  write_exact law line bytes given w crowd may room tells o =
      let r : Row n = a_write tick line bytes given o in
      law n tick line bytes given o rules banks (reverse before) after
      ∙ ap (λ b. b && is_right_write rules line r o (beside banks line (reverse before)) (beside banks line after))
      (room_law n rules banks (reverse before) (a_write tick line bytes given own) after crowd may.had may.own room)
      ∙ by crowd
    where
      by : (crowd : Option (Crowd n)) → (is_room crowd && is_right_write rules line (a_write tick line bytes given o) o (beside banks line (reverse before)) (beside banks line after))
          ≡ is_offered rules banks before (a_write tick line bytes given own) after (lines_of rules tick (finds.Write w) crowd) o
      by None =
          write_lines_tell rules banks before after tick line w tells (rising_of_bank (bank_in banks) (bank_in banks line) tick after may.rises) bytes given o
      by (Some c) = refl

  empty : has_room {n = n} rules tick [] ≡ true
  empty = ap (λ b. b && (nat_le 0 rules.reads && true)) (le-leb 0 rules.writes (omega arith)) ∙ ap (λ b. b && true) (le-leb 0 rules.reads (omega arith))

  pub cut_exact : RightCutLaw → (crowd : Option (Crowd n)) → MayTell rules banks before (a_cut tick own) after rule → TellsRoom rules banks tick (reverse before) crowd → (o : Outcome n)
      → is_right rules banks before (a_cut tick own) after o ≡ is_offered rules banks before (a_cut tick own) after (lines_of rules tick finds.Cut crowd) o
  cut_exact law crowd may room o =
      let all = all_have_room banks rules (reverse before) (a_cut tick own) after in
      law n tick o rules banks (reverse before) after
      ∙ ap (λ b. b && is_right_cut tick o)
      (sym (and_true all) ∙ ap (λ b. all && b) (sym empty) ∙ room_law n rules banks (reverse before) (a_cut tick own) after crowd may.had may.own room)
      ∙ by crowd o
    where
      by : (crowd : Option (Crowd n)) (o : Outcome n) → (is_room crowd && is_right_cut tick o)
          ≡ is_offered rules banks before (a_cut tick own) after (lines_of rules tick finds.Cut crowd) o
      by (Some c) o = refl
      by None (out.Cut u) = sym (or_false (u == tick))
      by None out.Unset = refl
      by None (out.Stored u place) = refl
      by None (out.Merged u) = refl
      by None (out.Queued u) = refl
      by None (out.Full u) = refl
      by None (out.Worn u) = refl
      by None (out.Read u place some) = refl
      by None (out.Forwarded u some) = refl
      by None (out.Busy u) = refl
      by None (out.Lost u) = refl
