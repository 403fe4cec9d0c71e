-- Whether the banks have room.
use Rattle.std.proofs.Common.{◌≡◌, ℕ, zero, suc, ◌≤◌, ◌<◌, ◌&&◌, ◌||◌, ◌==◌, not, Bool, true, false, List, [], ◌∷◌, ◌++◌, Option, Some, None, length, refl, sym, ap, ◌∙◌, cond, subst, arith, append_assoc, append-nil}
use Rattle.std.{specs.List.{list_all, list_any}, specs.Prelude.{drop, filter, nat_le, nat_lt, reverse}, proofs.lemmas.Bool.{eq-eqb, eqb-true, le-leb}}
use Rattle.std.proofs.lemmas.List.{length-map, length-reverse, reverse-append, reverse-reverse}
use Rattle.masked_bytes.proofs.{Lists.turned, Truth.{and_true, and_false, and_first, and_second, or_false}}
use Rattle.result_rows.specs.declared.Outcome.{Outcome}
use Rattle.row_rules.specs.{Answers.is_merged, Lines.IsOfLines, Queueing.{pending, waiting, has_few, has_room, is_older, pairs_few}, Rows.{accepted_of, line_of}}
use Rattle.row_rules.specs.{Table.{is_of, of_bank}, declared.Asks.Asks, declared.Asks.TheVariants.{Reads, Writes, Cuts}, declared.Row.Row, declared.Rules.Rules}
use Rattle.check_judging.proofs.Sublists.{room_stays_law, room_behind_cut_law}
use Rattle.check_verdict.{specs.Judged.a_row, specs.Verdicts.{bank_in, mates}, proofs.Settles.filter-reverse}
use Rattle.check_telling.{specs.Standing.{row_at, rows_of, row_of}, specs.declared.facts.RowAt.RowAt, specs.declared.mates.Numbered.Numbered, proofs.FindsWrites.none_turned}
use Rattle.check_telling.proofs.Folds.{done}
use Rattle.clause_telling.specs.Rooms.{has_one, may_stand, first_crowded, none_newer, bank_asked, last_bank, IsRoomOf, IsRoomOfLast, TellsRoom, is_room, RoomLaw}
use Rattle.clause_telling.specs.declared.room.Crowd.{Crowd}

module _ {n : ℕ} where
  -- the bank of the last row
  abbrev pub last_on : List ℕ → Option ℕ → List (Row n) → Option ℕ
  last_on banks found [] = found
  last_on banks found (q ∷ rows) = last_on banks (bank_asked banks q.asks) rows

  last_is : (banks : List ℕ) (rows earlier : List (Row n)) → last_on banks (last_bank banks earlier) rows ≡ last_bank banks (reverse rows ++ earlier)
  last_is banks [] earlier = refl
  last_is banks (q ∷ rows) earlier = last_is banks rows (q ∷ earlier) ∙ ap (last_bank banks) (sym (turned q rows earlier))

  pub last_done : (banks : List ℕ) (i : ℕ) (found : Option ℕ) (rows : List (Row n)) → length rows ≤ i → last_on banks found (drop i rows) ≡ last_on banks None rows
      → found ≡ last_bank banks (reverse rows)
  last_done banks i found rows le is =
      done (last_on banks) i found (last_on banks None rows) rows (λ b. refl) le is ∙ last_is banks rows [] ∙ ap (last_bank banks) (append-nil (reverse rows))

  -- where none of these is an accepted write of a line
  none_left : (line : ℕ) (rows : List (Row n)) → list_any (accepted_of line) rows ≡ false → filter (accepted_of line) rows ≡ []
  none_left line [] h = refl
  none_left line (q ∷ rows) h = step (accepted_of line q) (none_left line rows) h
    where
      step : (b : Bool) → (list_any (accepted_of line) rows ≡ false → filter (accepted_of line) rows ≡ []) → (b || list_any (accepted_of line) rows) ≡ false
          → cond b (q ∷ filter (accepted_of line) rows) (filter (accepted_of line) rows) ≡ []
      step true k h = absurd (cc)
      step false k h = k h

  all_others : (all : List (Row n)) (line : ℕ) (newer : Row n) (rows : List (Row n)) → list_any (accepted_of line) rows ≡ false → list_all (may_stand all line newer) rows ≡ true
  all_others all line newer [] h = refl
  all_others all line newer (q ∷ rows) h = step (accepted_of line q) (all_others all line newer rows) h
    where
      step : (b : Bool) → (list_any (accepted_of line) rows ≡ false → list_all (may_stand all line newer) rows ≡ true) → (b || list_any (accepted_of line) rows) ≡ false
          → ((not b || is_older all newer q) && list_all (may_stand all line newer) rows) ≡ true
      step true k h = absurd (cc)
      step false k h = k h

  two_of_line : (all : List (Row n)) (line : ℕ) (newer first : Row n) (rows : List (Row n)) → list_any (accepted_of line) rows ≡ true
      → has_few all newer (first ∷ filter (accepted_of line) rows) ≡ false
  two_of_line all line newer first [] h = absurd (cc)
  two_of_line all line newer first (q ∷ rows) h = step (accepted_of line q) (two_of_line all line newer first rows) h
    where
      step : (b : Bool) → (list_any (accepted_of line) rows ≡ true → has_few all newer (first ∷ filter (accepted_of line) rows) ≡ false) → (b || list_any (accepted_of line) rows) ≡ true
          → has_few all newer (first ∷ cond b (q ∷ filter (accepted_of line) rows) (filter (accepted_of line) rows)) ≡ false
      step true k h = refl
      step false k h = k h

  with_first : (all : List (Row n)) (line : ℕ) (newer q : Row n) (rows : List (Row n)) (any : Bool) → list_any (accepted_of line) rows ≡ any
      → has_few all newer (q ∷ filter (accepted_of line) rows) ≡ (not any && (is_older all newer q && list_all (may_stand all line newer) rows))
  with_first all line newer q rows true is = two_of_line all line newer q rows is
  with_first all line newer q rows false is =
      ap (λ xs. has_few all newer (q ∷ xs)) (none_left line rows is)
      ∙ sym (ap (λ b. is_older all newer q && b) (all_others all line newer rows is) ∙ and_true (is_older all newer q))

  few_is : (all : List (Row n)) (line : ℕ) (newer : Row n) (rows : List (Row n))
      → has_few all newer (filter (accepted_of line) rows) ≡ (has_one line rows && list_all (may_stand all line newer) rows)
  few_is all line newer [] = refl
  few_is all line newer (q ∷ rows) = step (accepted_of line q) (few_is all line newer rows) (with_first all line newer q rows (list_any (accepted_of line) rows) refl)
    where
      step : (b : Bool) → has_few all newer (filter (accepted_of line) rows) ≡ (has_one line rows && list_all (may_stand all line newer) rows)
          → has_few all newer (q ∷ filter (accepted_of line) rows)
          ≡ (not (list_any (accepted_of line) rows) && (is_older all newer q && list_all (may_stand all line newer) rows))
          → has_few all newer (cond b (q ∷ filter (accepted_of line) rows) (filter (accepted_of line) rows))
          ≡ (cond b (not (list_any (accepted_of line) rows)) (has_one line rows) && ((not b || is_older all newer q) && list_all (may_stand all line newer) rows))
      step true h f = f
      step false h f = h

  pub few_then : (all : List (Row n)) (newer : Row n) (rows : List (Row n)) (line : ℕ) (found : Bool) → line ≡ line_of newer.asks → has_one line rows ≡ true
      → found ≡ list_all (may_stand all line newer) rows → found ≡ has_few all newer (filter (accepted_of (line_of newer.asks)) rows)
  few_then all newer rows line found l h is =
      is ∙ ap (λ b. b && list_all (may_stand all line newer) rows) (sym h) ∙ sym (few_is all line newer rows) ∙ ap (λ k. has_few all newer (filter (accepted_of k) rows)) l

  pub few_else : (all : List (Row n)) (newer : Row n) (rows : List (Row n)) (line : ℕ) (found : Bool) → line ≡ line_of newer.asks → found ≡ has_one line rows → found ≡ false
      → found ≡ has_few all newer (filter (accepted_of (line_of newer.asks)) rows)
  few_else all newer rows line found l is h =
      h ∙ ap (λ b. b && list_all (may_stand all line newer) rows) (sym (sym is ∙ h)) ∙ sym (few_is all line newer rows) ∙ ap (λ k. has_few all newer (filter (accepted_of k) rows)) l

  -- in either order
  few_turned : (all : List (Row n)) (newer : Row n) (found : List (Row n)) → has_few all newer (reverse found) ≡ has_few all newer found
  few_turned all newer [] = refl
  few_turned all newer (q ∷ []) = refl
  few_turned all newer (q ∷ another ∷ rest) = long (reverse (q ∷ another ∷ rest)) (length-reverse (q ∷ another ∷ rest))
    where
      long : (xs : List (Row n)) → length xs ≡ suc (suc (length rest)) → has_few all newer xs ≡ false
      long [] h = absurd (omega (arith, h))
      long (x ∷ []) h = absurd (omega (arith, h))
      long (x ∷ y ∷ xs) h = refl

  older_turned : (all : List (Row n)) (newer older : Row n) → is_older (reverse all) newer older ≡ is_older all newer older
  older_turned all newer older = ap (λ b. nat_lt older.tick newer.tick && (not (is_merged older.outcome) && b)) (none_turned older.outcome all)

  few_all : (all : List (Row n)) (newer : Row n) (found : List (Row n)) → has_few (reverse all) newer found ≡ has_few all newer found
  few_all all newer [] = refl
  few_all all newer (q ∷ []) = older_turned all newer q
  few_all all newer (q ∷ another ∷ rest) = refl

  pairs_all : (all ps : List (Row n)) → pairs_few (reverse all) ps ≡ pairs_few all ps
  pairs_all all [] = refl
  pairs_all all (q ∷ older) =
      ap (λ b. b && pairs_few (reverse all) older) (few_all all q (filter (accepted_of (line_of q.asks)) older))
      ∙ ap (λ b. has_few all q (filter (accepted_of (line_of q.asks)) older) && b) (pairs_all all older)

  -- each write may stand exactly where pairs are as they may be
  crowded_is : (all earlier : List (Row n)) (told : List (Numbered n))
      → pairs_few all (reverse (earlier ++ rows_of told)) ≡ (none_newer (first_crowded all earlier told) && pairs_few all (reverse earlier))
  crowded_is all earlier [] = ap (λ xs. pairs_few all (reverse xs)) (append-nil earlier)
  crowded_is all earlier (one ∷ told) =
      let few = has_few all one.row (filter (accepted_of (line_of one.row.asks)) earlier) in
      let same : has_few all one.row (filter (accepted_of (line_of one.row.asks)) (reverse earlier)) ≡ few
      = ap (has_few all one.row) (filter-reverse (accepted_of (line_of one.row.asks)) earlier) ∙ few_turned all one.row (filter (accepted_of (line_of one.row.asks)) earlier) in
      ap (λ xs. pairs_few all (reverse xs)) (sym (append_assoc earlier (one.row ∷ []) (rows_of told)))
      ∙ crowded_is all (earlier ++ one.row ∷ []) told
      ∙ ap (λ xs. none_newer (first_crowded all (earlier ++ one.row ∷ []) told) && pairs_few all xs) (reverse-append earlier (one.row ∷ []))
      ∙ ap (λ b. none_newer (first_crowded all (earlier ++ one.row ∷ []) told) && (b && pairs_few all (reverse earlier))) same
      ∙ joined few (first_crowded all (earlier ++ one.row ∷ []) told) (row_at one) (pairs_few all (reverse earlier))
    where
      joined : (b : Bool) (o : Option RowAt) (one : RowAt) (p : Bool) → (none_newer o && (b && p)) ≡ (none_newer (cond b o (Some one)) && p)
      joined true o one p = refl
      joined false o one p = and_false (none_newer o)

  pub pairs_stand : (ps : List (Row n)) (told : List (Numbered n)) → rows_of told ≡ reverse ps → none_newer (first_crowded (rows_of told) [] told) ≡ pairs_few ps ps
  pairs_stand ps told is =
      sym (and_true (none_newer (first_crowded (rows_of told) [] told))) ∙ sym (crowded_is (rows_of told) [] told)
      ∙ ap (λ xs. pairs_few xs (reverse xs)) is ∙ ap (pairs_few (reverse ps)) (reverse-reverse ps) ∙ pairs_all ps ps

  long_as : (told : List (Numbered n)) (these : List (Row n)) → rows_of told ≡ reverse these → length told ≡ length these
  long_as told these are = sym (length-map told row_of) ∙ ap length are ∙ length-reverse these

  -- what is found of a bank says whether it has room
  pub room_is : (rules : Rules) (tick : ℕ) (past : List (Row n)) (stand wait told : List (Numbered n)) (newer : Option RowAt) (stands waits : ℕ) (fits : Bool)
      → rows_of stand ≡ reverse (pending tick [] past) → rows_of wait ≡ reverse (waiting tick [] past) → told ≡ stand → stands ≡ length stand → waits ≡ length wait
      → newer ≡ first_crowded (rows_of told) [] told → fits ≡ (nat_le stands rules.writes && (nat_le waits rules.reads && none_newer newer))
      → fits ≡ has_room rules tick past
  room_is rules tick past stand wait told newer stands waits fits s w d l k f is =
      let ps = pending tick [] past in
      is ∙ ap (λ x. nat_le x rules.writes && (nat_le waits rules.reads && none_newer newer)) (l ∙ long_as stand ps s)
      ∙ ap (λ x. nat_le (length ps) rules.writes && (nat_le x rules.reads && none_newer newer)) (k ∙ long_as wait (waiting tick [] past) w)
      ∙ ap (λ x. nat_le (length ps) rules.writes && (nat_le (length (waiting tick [] past)) rules.reads && x)) (ap none_newer f ∙ pairs_stand ps told (ap rows_of d ∙ s))

  pub newer_of : (stand told : List (Numbered n)) (newer : Option RowAt) → told ≡ stand → newer ≡ first_crowded (rows_of told) [] told → newer ≡ first_crowded (rows_of stand) [] stand
  newer_of stand told newer d f = f ∙ ap (λ xs. first_crowded (rows_of xs) [] xs) d

  pub room_told : (rules : Rules) (banks : List ℕ) (tick bank : ℕ) (before : List (Row n)) (past : List (Numbered n)) (crowd : Option (Crowd n))
      → last_bank banks (reverse before) ≡ Some bank → rows_of past ≡ of_bank (bank_in banks) bank before
      → IsRoomOf rules bank tick (reverse (rows_of past)) crowd → TellsRoom rules banks tick (reverse before) crowd
  room_told rules banks tick bank before past crowd h p is =
      subst (λ o. IsRoomOfLast rules banks tick (reverse before) o crowd) (sym h)
      (subst (λ xs. IsRoomOf rules bank tick xs crowd) (ap reverse p ∙ sym (filter-reverse (λ (r : Row n). is_of (bank_in banks) bank r.asks) before)) is)

-- of all banks and one of them
absorb : (x m : Bool) → (x && (x || m)) ≡ (x || false)
absorb true m = refl
absorb false m = refl

or_true : (x : Bool) → true ≡ (x || true)
or_true true = refl
or_true false = refl

again : (x l : Bool) → ((x && l) && x) ≡ (x && l)
again true true = refl
again true false = refl
again false l = refl

assoc : (x l y : Bool) → ((x && l) && y) ≡ (x && (l && y))
assoc true l y = refl
assoc false l y = refl

module _ (f : ℕ → Bool) (k : ℕ) where
  absorbed : (bs : List ℕ) → list_any (λ b. k == b) bs ≡ true → (list_all f bs && f k) ≡ list_all f bs
  absorbed [] h = absurd (cc)
  absorbed (b ∷ bs) h = step (k == b) refl h (absorbed bs)
    where
      step : (e : Bool) → (k == b) ≡ e → (e || list_any (λ b. k == b) bs) ≡ true → (list_any (λ b. k == b) bs ≡ true → (list_all f bs && f k) ≡ list_all f bs)
          → ((f b && list_all f bs) && f k) ≡ (f b && list_all f bs)
      step true is h ih = ap (λ x. (f b && list_all f bs) && f x) (eqb-true k b is) ∙ again (f b) (list_all f bs)
      step false is h ih = assoc (f b) (list_all f bs) (f k) ∙ ap (λ x. f b && x) (ih h)

  all_is : (g : ℕ → Bool) (bs : List ℕ) → ((b : ℕ) → (k == b) ≡ false → g b ≡ true → f b ≡ true) → list_all g bs ≡ true
      → list_all f bs ≡ (f k || not (list_any (λ b. k == b) bs))
  all_is g [] each all = or_true (f k)
  all_is g (b ∷ bs) each all = step (k == b) refl (all_is g bs each (and_second _ _ all))
    where
      step : (e : Bool) → (k == b) ≡ e → list_all f bs ≡ (f k || not (list_any (λ b. k == b) bs)) → (f b && list_all f bs) ≡ (f k || not (e || list_any (λ b. k == b) bs))
      step true is ih =
          ap (λ x. f x && list_all f bs) (sym (eqb-true k b is)) ∙ ap (λ x. f k && x) ih ∙ absorb (f k) (not (list_any (λ b. k == b) bs))
      step false is ih = ap (λ x. x && list_all f bs) (each b is (and_first _ _ all)) ∙ ih

all_true : (f g : ℕ → Bool) (bs : List ℕ) → ((b : ℕ) → g b ≡ true → f b ≡ true) → list_all g bs ≡ true → list_all f bs ≡ true
all_true f g [] each all = refl
all_true f g (b ∷ bs) each all = ap (λ x. x && list_all f bs) (each b (and_first _ _ all)) ∙ all_true f g bs each (and_second _ _ all)

always : (f : ℕ → Bool) (bs : List ℕ) → ((b : ℕ) → f b ≡ true) → list_all f bs ≡ true
always f [] each = refl
always f (b ∷ bs) each = ap (λ x. x && list_all f bs) (each b) ∙ always f bs each

-- a line's bank is one of the banks
has_bank : (banks : List ℕ) (line : ℕ) → line < length banks → list_any (λ b. bank_in banks line == b) banks ≡ true
has_bank [] line lt = absurd (omega (arith, lt))
has_bank (b ∷ bs) zero lt = ap (λ x. x || list_any (λ c. b == c) bs) (eq-eqb b b refl)
has_bank (b ∷ bs) (suc line) lt = step (bank_in bs line == b) (has_bank bs line (omega (arith, lt)))
  where
    step : (e : Bool) → list_any (λ c. bank_in bs line == c) bs ≡ true → (e || list_any (λ c. bank_in bs line == c) bs) ≡ true
    step true h = refl
    step false h = h

no_rows : (n : ℕ) (rules : Rules) (tick : ℕ) → has_room {n = n} rules tick [] ≡ true
no_rows n rules tick = ap (λ b. b && (nat_le 0 rules.reads && true)) (le-leb 0 rules.writes (omega arith)) ∙ ap (λ b. b && true) (le-leb 0 rules.reads (omega arith))

module _ {n : ℕ} (rules : Rules) (banks : List ℕ) (tick : ℕ) where
  -- of a bank among some rows
  abbrev room_in : List (Row n) → ℕ → Bool
  room_in rows bank = has_room rules tick (of_bank (bank_in banks) bank rows)

  own_room : (asks : Asks n) (rows : List (Row n)) → IsOfLines (length banks) asks
      → (list_all (room_in rows) banks && has_room rules tick (mates banks asks rows)) ≡ list_all (room_in rows) banks
  own_room (Reads line) rows of = absorbed (room_in rows) (bank_in banks line) banks (has_bank banks line of)
  own_room (Writes line bytes given) rows of = absorbed (room_in rows) (bank_in banks line) banks (has_bank banks line of)
  own_room Cuts rows of = ap (λ b. list_all (room_in rows) banks && b) (no_rows n rules tick) ∙ and_true (list_all (room_in rows) banks)

  told_is : (bank : ℕ) (past : List (Row n)) (crowd : Option (Crowd n)) → IsRoomOf rules bank tick past crowd → has_room rules tick past ≡ is_room crowd
  told_is bank past None h = h
  told_is bank past (Some c) h = h.0

  none_told : (crowd : Option (Crowd n)) → crowd ≡ None → true ≡ is_room crowd
  none_told None h = refl
  none_told (Some c) h = absurd (cc)

  -- behind a row that found room
  abbrev had : List (Row n) → ℕ → ℕ → Bool
  had before then bank = has_room rules then (of_bank (bank_in banks) bank before)

  of_line : (then line : ℕ) (asks : Asks n) (o : Outcome n) (before : List (Row n)) → bank_asked banks asks ≡ Some (bank_in banks line) → line < length banks
      → ((b : ℕ) → (bank_in banks line == b) ≡ is_of (bank_in banks) b asks)
      → then ≤ tick → list_all (had before then) banks ≡ true → list_all (room_in (a_row then asks o ∷ before)) banks ≡ room_in (a_row then asks o ∷ before) (bank_in banks line)
  of_line then line asks o before is lt own le all =
      let k = bank_in banks line in
      all_is (room_in (a_row then asks o ∷ before)) k (had before then) banks
      (λ b other h.
      ap (λ c. has_room rules tick (cond c (a_row then asks o ∷ of_bank (bank_in banks) b before) (of_bank (bank_in banks) b before))) (sym (own b) ∙ other)
      ∙ room_stays_law n then tick rules (of_bank (bank_in banks) b before) le h) all
      ∙ ap (λ x. room_in (a_row then asks o ∷ before) k || not x) (has_bank banks line lt) ∙ or_false (room_in (a_row then asks o ∷ before) k)

  of_cut : (then : ℕ) (o : Outcome n) (before : List (Row n)) → then ≤ tick → list_all (had before then) banks ≡ true → list_all (room_in (a_row then Cuts o ∷ before)) banks ≡ true
  of_cut then o before le all =
      all_true (room_in (a_row then Cuts o ∷ before)) (had before then) banks
      (λ b h. room_behind_cut_law n tick rules (a_row then Cuts o) (of_bank (bank_in banks) b before) refl (room_stays_law n then tick rules (of_bank (bank_in banks) b before) le h)) all

  by_last : (then : ℕ) (asks : Asks n) (o : Outcome n) (before : List (Row n)) (crowd : Option (Crowd n)) → then ≤ tick → IsOfLines (length banks) asks
      → list_all (had before then) banks ≡ true → IsRoomOfLast rules banks tick (a_row then asks o ∷ before) (bank_asked banks asks) crowd
      → list_all (room_in (a_row then asks o ∷ before)) banks ≡ is_room crowd
  by_last then (Reads line) o before crowd le of all told =
      of_line then line (Reads line) o before refl of (λ b. refl) le all ∙ told_is (bank_in banks line) (of_bank (bank_in banks) (bank_in banks line) (a_row then (Reads line) o ∷ before)) crowd told
  by_last then (Writes line bytes given) o before crowd le of all told =
      of_line then line (Writes line bytes given) o before refl of (λ b. refl) le all
      ∙ told_is (bank_in banks line) (of_bank (bank_in banks) (bank_in banks line) (a_row then (Writes line bytes given) o ∷ before)) crowd told
  by_last then Cuts o before crowd le of all told = of_cut then o before le all ∙ none_told crowd told

pub room_law : RoomLaw
room_law n rules banks [] r after crowd had of told =
    own_room rules banks r.tick r.asks [] of ∙ always (room_in {n = n} rules banks r.tick []) banks (λ b. no_rows n rules r.tick) ∙ none_told rules banks r.tick crowd told
room_law n rules banks (p ∷ before) r after crowd had of told =
    own_room rules banks r.tick r.asks (p ∷ before) of ∙ by_last rules banks r.tick p.tick p.asks p.outcome before crowd had.0 had.1.0 had.1.1 told
