-- What a right run says of each row.
use Rattle.std.proofs.Common.{◌≡◌, ℕ, ◌+◌, ◌*◌, ◌<◌, ◌≤◌, ◌||◌, Bool, true, false, List, [], ◌∷◌, ◌++◌, map, length, Some, refl, ap, ◌∙◌, subst, arith}
use Rattle.std.{specs.Option.ForSome, specs.Prelude.{All, nat_lt}, proofs.lemmas.Bool.lt-ltb, proofs.lemmas.List.Elements.{All-nil, All-head, All-tail}}
use Rattle.masked_bytes.proofs.Truth.{and_second}
use Rattle.bank_shape.{specs.Shape.controls_of, proofs.Sizes.if_array-le}
use Rattle.cell_rows.specs.Device.{ArrayState}
use Rattle.result_rows.specs.Outcomes.{op_of, place_of}
use Rattle.result_rows.specs.declared.Op.TheVariants as op
use Rattle.run_text.specs.Shortfall.{is_short, any_short}
use Rattle.row_rules.specs.{Answers.{accepts, is_queued, is_lost}, Lines.IsOfLines, Queueing.{pending, has_room, is_queue_fair}, Rows.{line_of, is_cut, op_asked}}
use Rattle.row_rules.specs.{Serving.{is_served, owed}, declared.Asks.Asks, declared.Asks.TheVariants.{Reads, Writes, Cuts}, declared.Row.Row}
use Rattle.ecp_line.specs.ArrayLines.{is_worn_at}
use Rattle.right_runs.specs.{Banks.{bank_of_line, line_in_bank, rules_in}, Ends.BankEnd, Places.is_placed, Runs.RunsRight, Tables.table_in, WornLines.{is_taken, may_leave}}
use Rattle.module_shape.specs.{Addresses.{module_of, array_lines_of, bank_shape}, Limits.{IsShape, total_of}, declared.raw.RawShape.RawShape}
use Rattle.module_shape.proofs.Bounds.{array_lines_few, array_lines_small, banks_apart}
use Rattle.run_laws.specs.RowsOfRuns.{LinesExist, NoCuts, HasRoom, FindsPlace, OwnOutcomesLaw, PlacesExistLaw, FewArrayLinesLaw, NoneLostLaw, RoomIsTakenLaw, NoneShortLaw}
use Rattle.run_laws.proofs.Facts.{IsOfBank, own_outcome, placed-of_bank, cut-nowhere, IsKept, reads-kept, uncut_in_bank, unread-kept, IsBusyFair, busy-fair, taken-parts}
use Rattle.run_laws.proofs.{Facts.{read-unshort, write-unshort, cut-unshort}, Lifting.{Each, each-passes, each-all, each-at, each-of, both, with_all, lifted, InOwnBank}}
use Rattle.run_laws.proofs.Mixing.{bank-exists, line-exists}

-- a row has an outcome of its own operation
abbrev IsOwn : {n : ℕ} → Row n → Type 0
IsOwn r = op_of r.outcome ≡ Some (op_asked r.asks)

pub own_outcomes_law : OwnOutcomesLaw
own_outcomes_law n m e raw seed rows array ends right =
    each-all (λ before r. IsOwn r) IsOwn (λ before r h. h) rows
    (each-passes (λ before r. IsOwn r) is_served
    (λ before r after h. own_outcome r.tick r.asks (owed before r.asks) r.outcome h) rows [] right.serves.served)

-- each array line's number is a u32
pub array_lines_fit : (raw : RawShape) → IsShape raw → raw.banks * array_lines_of (module_of raw) ≤ 67248192
array_lines_fit raw is =
    array_lines_few raw.banks raw.regions raw.lines raw.spares (controls_of (module_of raw).bank) is.few_banks is.few_regions is.few_spares is.few_in_all
    (if_array-le raw.home (raw.regions + raw.spares + 1))

pub few_array_lines_law : FewArrayLinesLaw
few_array_lines_law raw is small =
    array_lines_small raw.banks raw.regions raw.lines raw.spares (controls_of (module_of raw).bank) small.few_banks small.few_regions is.few_spares small.few_in_all
    (if_array-le raw.home (raw.regions + raw.spares + 1))

module _ {n m : ℕ} (e : ℕ) (raw : RawShape) (seed : ℕ) (rows : List (Row n)) (array : ArrayState n m) (ends : ℕ → BankEnd)
    (is : IsShape raw) (exist : LinesExist raw rows) (right : RunsRight e raw seed rows array ends) where
  -- in a bank's table
  abbrev IsPlacedIn : ℕ → List (Row n) → Row n → Type 0
  IsPlacedIn bank before r = line_of r.asks < raw.regions * raw.lines → ForSome (place_of r.outcome) (λ place. IsOfBank (bank_shape (module_of raw) bank) place)

  placed_in : (bank : ℕ) → bank < raw.banks → Each (IsPlacedIn bank) (table_in raw seed bank rows)
  placed_in bank few =
      each-passes (IsPlacedIn bank) (is_placed (bank_shape (module_of raw) bank) (is_worn_at e array))
      (λ before r after h of. placed-of_bank (bank_shape (module_of raw) bank) (is_worn_at e array) (line_of r.asks) (before ++ r ∷ after) r.outcome (omega (arith, is.some_lines)) of h)
      (table_in raw seed bank rows) [] (right.serves.places bank few).placed

  of_module : (bank place : ℕ) → bank < raw.banks → IsOfBank (bank_shape (module_of raw) bank) place → place < raw.banks * array_lines_of (module_of raw)
  of_module bank place few of = omega (arith, of.below, banks_apart bank raw.banks (array_lines_of (module_of raw)) few)

  abbrev At : (ℕ → List (Row n) → Row n → Type 0) → List (Row n) → Row n → Asks n → Type 0
  At P before r asks = InOwnBank raw.banks (total_of raw) (bank_of_line raw seed) (line_in_bank raw seed) (bank-exists raw seed is) P before r asks

  -- a fact of each row of each bank's table, for the rows of the module
  lift : (P : ℕ → List (Row n) → Row n → Type 0) → ((bank : ℕ) → bank < raw.banks → Each (P bank) (table_in raw seed bank rows)) → Each (λ before r. At P before r r.asks) rows
  lift P h = lifted raw.banks (total_of raw) (bank_of_line raw seed) (line_in_bank raw seed) (bank-exists raw seed is) P rows exist h

  own : All IsOwn rows
  own = own_outcomes_law n m e raw seed rows array ends right

  -- ---- places

  abbrev InModule : Row n → Type 0
  InModule r = ForSome (place_of r.outcome) (λ place. place < raw.banks * array_lines_of (module_of raw))

  place_exists : (before : List (Row n)) (r : Row n) (asks : Asks n) → At IsPlacedIn before r asks → IsOfLines (total_of raw) asks → op_of r.outcome ≡ Some (op_asked asks) → InModule r
  place_exists before r (Reads line) placed of mine =
      λ place at. of_module (bank_of_line raw seed line) place (bank-exists raw seed is line of) (placed (line-exists raw seed is line) place at)
  place_exists before r (Writes line bytes given) placed of mine =
      λ place at. of_module (bank_of_line raw seed line) place (bank-exists raw seed is line of) (placed (line-exists raw seed is line) place at)
  place_exists before r Cuts placed of mine = λ place at. absurd (cut-nowhere r.outcome mine place at)

  pub places_exist : All InModule rows
  places_exist =
      each-all (λ before r. (At IsPlacedIn before r r.asks × IsOfLines (total_of raw) r.asks) × IsOwn r) InModule
      (λ before r h. place_exists before r r.asks h.0.0 h.0.1 h.1) rows
      (with_all (λ before r. At IsPlacedIn before r r.asks × IsOfLines (total_of raw) r.asks) IsOwn rows
      (with_all (λ before r. At IsPlacedIn before r r.asks) (λ r. IsOfLines (total_of raw) r.asks) rows (lift IsPlacedIn placed_in) exist) own)

  -- ---- lost reads

  abbrev NotLost : Row n → Type 0
  NotLost r = is_lost r.outcome ≡ false

  abbrev IsKeptIn : ℕ → List (Row n) → Row n → Type 0
  IsKeptIn bank = IsKept

  row_kept : (before : List (Row n)) (r : Row n) (asks : Asks n) → At IsKeptIn before r asks → op_of r.outcome ≡ Some (op_asked asks) → NotLost r
  row_kept before r (Reads line) kept mine = kept refl
  row_kept before r (Writes line bytes given) kept mine = unread-kept r.outcome op.Write mine (λ same. absurd (cc same))
  row_kept before r Cuts kept mine = unread-kept r.outcome op.Cut mine (λ same. absurd (cc same))

  kept_in : NoCuts rows → (bank : ℕ) → bank < raw.banks → Each IsKept (table_in raw seed bank rows)
  kept_in none bank few =
      reads-kept (rules_in e raw bank) (table_in raw seed bank rows) []
      (uncut_in_bank (bank_of_line raw seed) (line_in_bank raw seed) bank rows none) (All-nil (λ (r : Row n). is_cut r ≡ false)) (right.serves.banks bank few).ticks

  pub none_lost : NoCuts rows → All NotLost rows
  none_lost none =
      each-all (λ before r. At IsKeptIn before r r.asks × IsOwn r) NotLost (λ before r h. row_kept before r r.asks h.0 h.1) rows
      (with_all (λ before r. At IsKeptIn before r r.asks) IsOwn rows (lift IsKeptIn (kept_in none)) own)

  -- ---- writes that find room

  abbrev IsTakenIn : ℕ → List (Row n) → Row n → Type 0
  IsTakenIn bank before r = is_taken (rules_in e raw bank) (bank_shape (module_of raw) bank) (is_worn_at e array) before r [] ≡ true

  taken_in : (bank : ℕ) → bank < raw.banks → Each (IsTakenIn bank) (table_in raw seed bank rows)
  taken_in bank few =
      each-passes (IsTakenIn bank) (is_taken (rules_in e raw bank) (bank_shape (module_of raw) bank) (is_worn_at e array)) (λ before r after h. h)
      (table_in raw seed bank rows) [] (right.serves.places bank few).taken

  taken : Each (λ before r. At IsTakenIn before r r.asks) rows
  taken = lift IsTakenIn taken_in

  write_taken : (before : List (Row n)) (r : Row n) (line : ℕ) (bytes : List ℕ) (given : List Bool) → At IsTakenIn before r (Writes line bytes given)
      → HasRoom e raw seed array before r.tick line → (accepts r.outcome ≡ true) × (is_queued r.outcome ≡ false)
  write_taken before r line bytes given takes room =
      taken-parts (nat_lt (length (pending r.tick [] (table_in raw seed (bank_of_line raw seed line) before))) raw.writes)
      (may_leave (bank_shape (module_of raw) (bank_of_line raw seed line)) (is_worn_at e array)) (accepts r.outcome) (is_queued r.outcome)
      (lt-ltb (length (pending r.tick [] (table_in raw seed (bank_of_line raw seed line) before))) raw.writes room.free) room.unworn takes

  pub room_taken : (later before : List (Row n)) (r : Row n) (line : ℕ) (bytes : List ℕ) (given : List Bool) → rows ≡ later ++ r ∷ before → r.asks ≡ Writes line bytes given
      → HasRoom e raw seed array before r.tick line → (accepts r.outcome ≡ true) × (is_queued r.outcome ≡ false)
  room_taken later before r line bytes given same is room =
      let here : At IsTakenIn before r r.asks =
      each-at (λ before r. At IsTakenIn before r r.asks) later r before (subst (λ (rs : List (Row n)). Each (λ before r. At IsTakenIn before r r.asks) rs) same taken) in
      write_taken before r line bytes given (subst (λ (asks : Asks n). At IsTakenIn before r asks) is here) room

  -- ---- rows that fall short

  abbrev IsBusyFairIn : ℕ → List (Row n) → Row n → Type 0
  IsBusyFairIn bank = IsBusyFair raw.reads

  busy_in : (bank : ℕ) → bank < raw.banks → Each (IsBusyFair raw.reads) (table_in raw seed bank rows)
  busy_in bank few =
      each-passes (IsBusyFair raw.reads) (is_queue_fair (rules_in e raw bank))
      (λ before r after h. busy-fair (rules_in e raw bank) r r.asks (pending r.tick [] before) before after (and_second (has_room (rules_in e raw bank) r.tick before) _ h))
      (table_in raw seed bank rows) [] (right.serves.banks bank few).queue

  abbrev NotShort : Row n → Type 0
  NotShort r = is_short r.outcome ≡ false

  row_unshort : (before : List (Row n)) (r : Row n) (asks : Asks n) → At IsTakenIn before r asks → At IsBusyFairIn before r asks
      → FindsPlace e raw seed array before r.tick asks → op_of r.outcome ≡ Some (op_asked asks) → NotLost r → NotShort r
  row_unshort before r (Reads line) takes busy finds mine kept = read-unshort r.outcome mine kept (λ is. let full = busy refl is in omega (arith, full, finds))
  row_unshort before r (Writes line bytes given) takes busy finds mine kept =
      let both = write_taken before r line bytes given takes finds in
      write-unshort r.outcome both.0 both.1
  row_unshort before r Cuts takes busy finds mine kept = cut-unshort r.outcome mine

  none_any : (rs : List (Row n)) → All NotShort rs → any_short (map (λ r. r.outcome) rs) ≡ false
  none_any [] all = refl
  none_any (r ∷ rs) all =
      ap (λ (b : Bool). b || any_short (map (λ r. r.outcome) rs)) (All-head NotShort r rs all) ∙ none_any rs (All-tail NotShort r rs all)

  pub none_short : NoCuts rows → ((later before : List (Row n)) (r : Row n) → rows ≡ later ++ r ∷ before → FindsPlace e raw seed array before r.tick r.asks)
      → any_short (map (λ r. r.outcome) rows) ≡ false
  none_short none finds =
      none_any rows
      (each-all (λ before r. (((At IsTakenIn before r r.asks × At IsBusyFairIn before r r.asks) × FindsPlace e raw seed array before r.tick r.asks) × IsOwn r) × NotLost r) NotShort
      (λ before r h. row_unshort before r r.asks h.0.0.0.0 h.0.0.0.1 h.0.0.1 h.0.1 h.1) rows
      (with_all (λ before r. ((At IsTakenIn before r r.asks × At IsBusyFairIn before r r.asks) × FindsPlace e raw seed array before r.tick r.asks) × IsOwn r) NotLost rows
      (with_all (λ before r. (At IsTakenIn before r r.asks × At IsBusyFairIn before r r.asks) × FindsPlace e raw seed array before r.tick r.asks) IsOwn rows
      (both (λ before r. At IsTakenIn before r r.asks × At IsBusyFairIn before r r.asks) (λ before r. FindsPlace e raw seed array before r.tick r.asks) rows
      (both (λ before r. At IsTakenIn before r r.asks) (λ before r. At IsBusyFairIn before r r.asks) rows taken (lift IsBusyFairIn busy_in))
      (each-of (λ before r. FindsPlace e raw seed array before r.tick r.asks) rows finds [] rows refl)) own) (none_lost none)))

pub places_exist_law : PlacesExistLaw
places_exist_law n m e raw seed rows array ends is exist right = places_exist e raw seed rows array ends is exist right

pub none_lost_law : NoneLostLaw
none_lost_law n m e raw seed rows array ends is exist none right = none_lost e raw seed rows array ends is exist right none

pub room_is_taken_law : RoomIsTakenLaw
room_is_taken_law n m e raw seed rows array ends is exist right later before r line bytes given same asks room =
    room_taken e raw seed rows array ends is exist right later before r line bytes given same asks room

pub none_short_law : NoneShortLaw
none_short_law n m e raw seed rows array ends is exist none right finds = none_short e raw seed rows array ends is exist right none finds
