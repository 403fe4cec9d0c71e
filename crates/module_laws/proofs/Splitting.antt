-- Where a bank's history stands as a row of its module comes, so that the row finds what the bank holds there.
use Rattle.std.proofs.Common.{◌≡◌, ℕ, ◌<◌, ◌≤◌, ◌⊎◌, inl, inr, Bool, true, false, List, [], ◌∷◌, ◌++◌, map, refl, sym, ap, ◌∙◌, subst, cond, arith, append_assoc, le_refl}
use Rattle.std.{specs.Prelude.{filter, All}, proofs.lemmas.Bool.{cases_lt, and_from}, proofs.lemmas.List.Elements.{All-head, All-tail, All-nil, All-cons, All-append, All-weaker}}
use Rattle.result_rows.specs.declared.Outcome.{Outcome}
use Rattle.row_rules.specs.{Queueing.has_room, Rows.each_row, Table.is_of, declared.Row.Row}
use Rattle.bank_shape.specs.{declared.BankShape.BankShape, declared.pace.Pace.Pace}
use Rattle.bank_model.specs.{Events.{Write, Read, Cut}, Lawful.Lawful, Timing.{Happens, Core, TimedEvent, last_tick}}
use Rattle.bank_laws.{specs.Laws.IsSized, specs.Outcomes.rows_from, specs.Resting.IsStill, specs.Room.RoomLaw, proofs.Settling.lawful_before, proofs.Ticks.last_tick-rises}
use Rattle.right_runs.specs.{Banks.rules_of, Tables.{bank_table, finds_room_in}}
use Rattle.module_laws.specs.{Asking.{Asked, row_with, asked_in, asked_of, AreAsked, IsAsked}, Serves.{AreRecorded, TicksFall, last_outcome, RoomByBankLaw}}
use Rattle.module_laws.proofs.Tables.{rows_of_asked, rows_are}

abbrev By : {n : ℕ} → ℕ → Asked n → Type 0
By tick b = b.tick ≤ tick

too_late : {n : ℕ} (tick at : ℕ) (b : Asked n) (asked : List (Asked n)) → All (By tick) (b ∷ asked) → b.tick ≡ at → tick < at → ⊥
too_late tick at b asked all same late = let early = All-head (By tick) b asked all in omega (arith, early, same, late)

module _ {n m : ℕ} (shape : BankShape) (pace : Pace) (e : ℕ) (read : 1 ≤ pace.read) (iter : 1 ≤ pace.iter) where
  -- a part of a history behind the row of this tick, and the events since then
  pub record IsSplit (tick : ℕ) (asked : List (Asked n)) (xs : List (TimedEvent n m)) : Type 0 where
    pub since : List (TimedEvent n m)
    pub past : List (TimedEvent n m)
    pub whole : xs ≡ since ++ past
    pub asked_before : AreAsked past asked
    pub before : last_tick past ≤ tick
    pub behind : All (λ x. tick ≤ x.tick) since

  abbrev Since : ℕ → TimedEvent n m → Type 0
  Since tick x = tick ≤ x.tick

  -- with one event more since then
  one_more : (tick : ℕ) (asked : List (Asked n)) (x : TimedEvent n m) (xs : List (TimedEvent n m)) → tick ≤ x.tick → IsSplit tick asked xs → IsSplit tick asked (x ∷ xs)
  one_more tick asked x xs late s = record {
    since = x ∷ s.since;
    past = s.past;
    whole = ap (λ (ys : List (TimedEvent n m)). x ∷ ys) s.whole;
    asked_before = s.asked_before;
    before = s.before;
    behind = All-cons (Since tick) x s.since late s.behind;
  }

  -- behind its arrival
  just_before : (a : Asked n) (asked : List (Asked n)) (x : TimedEvent n m) (xs : List (TimedEvent n m)) → Lawful shape pace e (x ∷ xs) → a.tick ≡ x.tick → AreAsked xs asked
      → IsSplit a.tick asked (x ∷ xs) × (a.tick ≤ x.tick)
  just_before a asked x xs l at are = (
    record {
      since = x ∷ [];
      past = xs;
      whole = refl;
      asked_before = are;
      before = let up = last_tick-rises shape pace e xs x read iter l in omega (arith, up, at);
      behind = All-cons (Since a.tick) x [] (omega (arith, at)) (All-nil (Since a.tick));
    },
    omega (arith, at),
  )

  -- a row of this bank splits its history at its arrival
  own_split : (a : Asked n) (asked : List (Asked n)) (xs : List (TimedEvent n m)) → Lawful shape pace e xs → AreAsked xs (a ∷ asked)
      → IsSplit a.tick asked xs × (a.tick ≤ last_tick xs)
  own_split a asked [] l are = absurd (cc)
  own_split a asked (x ∷ xs) l are =
      by x.happens x.cancels are (λ later. own_split a asked xs l.1 later)
    where
      later : IsSplit a.tick asked xs × (a.tick ≤ last_tick xs) → IsSplit a.tick asked (x ∷ xs) × (a.tick ≤ x.tick)
      later s =
          let up = last_tick-rises shape pace e xs x read iter l in
          let late : a.tick ≤ x.tick = omega (arith, s.1, up) in
          (one_more a.tick asked x xs late s.0, late)

      by : (h : Happens n) (cancels : Bool) → IsAsked h cancels x.tick (AreAsked xs) (a ∷ asked) → (AreAsked xs (a ∷ asked) → IsSplit a.tick asked xs × (a.tick ≤ last_tick xs))
          → IsSplit a.tick asked (x ∷ xs) × (a.tick ≤ x.tick)
      by (Core (Write row line bytes given answer)) cancels are ih = just_before a asked x xs l (ap (λ (b : Asked n). b.tick) are.0) are.1
      by (Core (Read row line answer)) cancels are ih = just_before a asked x xs l (ap (λ (b : Asked n). b.tick) are.0) are.1
      by (Core (Cut tearing)) false are ih = just_before a asked x xs l are.0 are.2
      by _ _ are ih = later (ih are)

  -- a row of another bank splits it at its tick
  other_split : (tick : ℕ) (asked : List (Asked n)) (xs : List (TimedEvent n m)) → AreAsked xs asked → All (By tick) asked → IsSplit tick asked xs
  other_split tick asked [] are all = record {
    since = [];
    past = [];
    whole = refl;
    asked_before = are;
    before = omega arith;
    behind = All-nil (Since tick);
  }
  other_split tick asked (x ∷ xs) are all = at (λ later. other_split tick asked xs later all) (cases_lt tick x.tick)
    where
      by : (h : Happens n) (cancels : Bool) → tick < x.tick → (asked : List (Asked n)) → All (By tick) asked → IsAsked h cancels x.tick (AreAsked xs) asked
          → (AreAsked xs asked → IsSplit tick asked xs) → IsSplit tick asked (x ∷ xs)
      by (Core (Write row line bytes given answer)) cancels late [] all are ih = absurd are
      by (Core (Write row line bytes given answer)) cancels late (b ∷ asked) all are ih = absurd (too_late tick x.tick b asked all (ap (λ (b : Asked n). b.tick) are.0) late)
      by (Core (Read row line answer)) cancels late [] all are ih = absurd are
      by (Core (Read row line answer)) cancels late (b ∷ asked) all are ih = absurd (too_late tick x.tick b asked all (ap (λ (b : Asked n). b.tick) are.0) late)
      by (Core (Cut tearing)) false late [] all are ih = absurd are
      by (Core (Cut tearing)) false late (b ∷ asked) all are ih = absurd (too_late tick x.tick b asked all are.0 late)
      by _ _ late asked all are ih = one_more tick asked x xs (omega (arith, late)) (ih are)

      at : (AreAsked xs asked → IsSplit tick asked xs) → (tick < x.tick) ⊎ (x.tick ≤ tick) → IsSplit tick asked (x ∷ xs)
      at ih (inr early) = record {
        since = [];
        past = x ∷ xs;
        whole = refl;
        asked_before = are;
        before = early;
        behind = All-nil (Since tick);
      }
      at ih (inl late) = by x.happens x.cancels late asked all are ih

module _ {n : ℕ} (bank_of line_in : ℕ → ℕ) (bank : ℕ) where
  -- what is asked of a bank comes no later than what is asked of all
  early_of : (tick : ℕ) (asked : List (Asked n)) → All (By tick) asked → All (By tick) (asked_of bank_of line_in bank asked)
  early_of tick [] all = All-nil (By tick)
  early_of tick (a ∷ asked) all =
      by (is_of bank_of bank a.asks) (early_of tick asked (All-tail (By tick) a asked all))
    where
      by : (own : Bool) → All (By tick) (asked_of bank_of line_in bank asked)
          → All (By tick) (map (asked_in bank_of line_in) (cond own (a ∷ filter (λ a. is_of bank_of bank a.asks) asked) (filter (λ a. is_of bank_of bank a.asks) asked)))
      by true ih = All-cons (By tick) (asked_in bank_of line_in a) (asked_of bank_of line_in bank asked) (All-head (By tick) a asked all) ih
      by false ih = ih

module _ {n m : ℕ} (e : ℕ) (shape : BankShape) (pace : Pace) (bank_of line_in : ℕ → ℕ) (bank : ℕ) (outcome : ℕ → Outcome n)
    (room : RoomLaw n m) (sized : IsSized shape pace) (xs : List (TimedEvent n m)) (l : Lawful shape pace e xs) (idle : IsStill shape xs) where
  abbrev IsRight : Asked n → Type 0
  IsRight a = outcome a.row ≡ last_outcome shape xs a a.asks

  -- what stands behind a row is asked of the bank, and the row splits the history
  split_at : (a : Asked n) (asked : List (Asked n)) (own : Bool) (ys : List (TimedEvent n m)) → is_of bank_of bank a.asks ≡ own → Lawful shape pace e ys
      → AreAsked ys (asked_of bank_of line_in bank (a ∷ asked)) → All (By a.tick) asked
      → IsSplit shape pace e sized.read sized.iter a.tick (asked_of bank_of line_in bank asked) ys
  split_at a asked true ys is ly are all =
      (own_split shape pace e sized.read sized.iter (asked_in bank_of line_in a) (asked_of bank_of line_in bank asked) ys ly
      (subst (λ (b : Bool). AreAsked ys (map (asked_in bank_of line_in) (cond b (a ∷ filter (λ a. is_of bank_of bank a.asks) asked) (filter (λ a. is_of bank_of bank a.asks) asked)))) is are)).0
  split_at a asked false ys is ly are all =
      other_split shape pace e sized.read sized.iter a.tick (asked_of bank_of line_in bank asked) ys
      (subst (λ (b : Bool). AreAsked ys (map (asked_in bank_of line_in) (cond b (a ∷ filter (λ a. is_of bank_of bank a.asks) asked) (filter (λ a. is_of bank_of bank a.asks) asked)))) is are)
      (early_of bank_of line_in bank a.tick asked all)

  rest_right : (a : Asked n) (asked : List (Asked n)) (own : Bool)
      → All IsRight (map (asked_in bank_of line_in) (cond own (a ∷ filter (λ a. is_of bank_of bank a.asks) asked) (filter (λ a. is_of bank_of bank a.asks) asked)))
      → All IsRight (asked_of bank_of line_in bank asked)
  rest_right a asked true all = All-tail IsRight (asked_in bank_of line_in a) (asked_of bank_of line_in bank asked) all
  rest_right a asked false all = all

  every_row : (asked : List (Asked n)) (newer ys : List (TimedEvent n m)) (tick : ℕ) (after : List (Row n)) → xs ≡ newer ++ ys → All (λ x. tick ≤ x.tick) newer
      → All (By tick) asked → TicksFall asked → AreAsked ys (asked_of bank_of line_in bank asked) → AreRecorded shape xs outcome (asked_of bank_of line_in bank asked)
      → each_row (finds_room_in bank_of line_in (rules_of e shape pace) bank) (map (row_with outcome) asked) after ≡ true
  every_row [] newer ys tick after same late early falls are rec = refl
  every_row (a ∷ asked) newer ys tick after same late early falls are rec =
      let ly : Lawful shape pace e ys = lawful_before shape pace e newer ys (subst (λ (xs : List (TimedEvent n m)). Lawful shape pace e xs) same l) in
      let s = split_at a asked (is_of bank_of bank a.asks) ys refl ly are falls.0 in
      let newer' : List (TimedEvent n m) = newer ++ s.since in
      let same' : xs ≡ newer' ++ s.past = same ∙ ap (λ (zs : List (TimedEvent n m)). newer ++ zs) s.whole ∙ sym (append_assoc newer s.since s.past) in
      let first = All-head (By tick) a asked early in
      let late' : All (λ x. a.tick ≤ x.tick) newer' =
      All-append (λ x. a.tick ≤ x.tick) newer s.since (All-weaker (λ x. tick ≤ x.tick) (λ x. a.tick ≤ x.tick) (λ x h. omega (arith, first, h)) newer late) s.behind in
      let rest : AreRecorded shape xs outcome (asked_of bank_of line_in bank asked) = rest_right a asked (is_of bank_of bank a.asks) rec in
      let rows : bank_table bank_of line_in bank (map (row_with outcome) asked) ≡ rows_from shape xs s.past =
      rows_of_asked bank_of line_in bank outcome asked ∙ rows_are shape xs outcome s.past (asked_of bank_of line_in bank asked) s.asked_before rest in
      and_from _ _
      (ap (λ (rs : List (Row n)). has_room (rules_of e shape pace) a.tick rs) rows
      ∙ ap (λ (zs : List (TimedEvent n m)). has_room (rules_of e shape pace) a.tick (rows_from shape zs s.past)) same'
      ∙ room e shape pace s.past newer' a.tick sized (subst (λ (zs : List (TimedEvent n m)). Lawful shape pace e zs) same' l) (subst (λ (zs : List (TimedEvent n m)). IsStill shape zs) same' idle) s.before late')
      (every_row asked newer' s.past a.tick (row_with outcome a ∷ after) same' late' falls.0 falls.1 s.asked_before rest)

abbrev last_of : {n : ℕ} → List (Asked n) → ℕ
last_of [] = 0
last_of (a ∷ asked) = a.tick

all_by : {n : ℕ} (asked : List (Asked n)) → TicksFall asked → All (By (last_of asked)) asked
all_by [] falls = All-nil (By 0)
all_by (a ∷ asked) falls = All-cons (By a.tick) a asked (le_refl a.tick) falls.0

pub room_law : RoomByBankLaw
room_law n m e shape pace bank_of line_in bank xs asked outcome room sized l idle falls are rec =
    every_row e shape pace bank_of line_in bank outcome room sized xs l idle asked [] xs (last_of asked) [] refl (All-nil (λ x. last_of asked ≤ x.tick)) (all_by asked falls) falls are rec
