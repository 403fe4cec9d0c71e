-- What was known of a bank's rows when its history had come so far, and what is known of them later.
use Rattle.std.proofs.Common.{◌≡◌, ℕ, ◌≤◌, ◌==◌, ◌&&◌, ◌||◌, cond, Bool, true, false, List, [], ◌∷◌, ◌++◌, map, get_or, Option, Some, None, refl, sym, ap, subst, ◌∙◌, arith, eqb-true}
use Rattle.std.{specs.Prelude.{All, IfSome, filter}, proofs.lemmas.List.Elements.{All-head, All-tail, All-nil, All-cons}}
use Rattle.result_rows.specs.{Outcomes.tick_of, declared.Outcome.Outcome}
use Rattle.result_rows.specs.declared.Outcome.TheVariants as out
use Rattle.row_rules.specs.{Table.is_of, declared.Asks.Asks, declared.Asks.TheVariants.{Reads, Writes, Cuts}}
use Rattle.bank_shape.specs.{declared.BankShape.BankShape, declared.pace.Pace.Pace}
use Rattle.bank_model.specs.{Events.{Write, Read, Cut}, Lawful.Lawful, Timing.{Happens, Core, TimedEvent, last_tick}}
use Rattle.bank_laws.proofs.{Settling.lawful_before, Ticks.{last_tick-rises, ticks-up_to}}
use Rattle.module_laws.specs.Asking.{Asked, AreAsked, IsAsked, asked_in, asked_of}
use Rattle.pcm_module.specs.{Replaying.outcome_so_far, Telling.{comes_to, is_asked_of}}
use Rattle.settle_laws.{specs.Settles.IsFrom, specs.Turns.is_decided, proofs.Banks.{IsRight, each-right, known_of}, proofs.Deciding.decided-by}

module _ {n : ℕ} where
  pub from-before : (early tick : ℕ) (o : Outcome n) → early ≤ tick → IsFrom tick o → IsFrom early o
  from-before early tick out.Unset low from = absurd from
  from-before early tick (out.Queued at) low from = tt
  from-before early tick (out.Stored at place) low from = omega (arith, low, from)
  from-before early tick (out.Merged at) low from = omega (arith, low, from)
  from-before early tick (out.Full at) low from = omega (arith, low, from)
  from-before early tick (out.Worn at) low from = omega (arith, low, from)
  from-before early tick (out.Read at place bytes) low from = omega (arith, low, from)
  from-before early tick (out.Forwarded at bytes) low from = omega (arith, low, from)
  from-before early tick (out.Busy at) low from = omega (arith, low, from)
  from-before early tick (out.Lost at) low from = omega (arith, low, from)
  from-before early tick (out.Cut at) low from = omega (arith, low, from)

  -- of two outcomes at a tick the one that was known comes no later than the other
  pub from-told : (tick : ℕ) (told now : Outcome n) → IfSome (tick_of told) (λ at. at ≤ tick) → IsFrom tick now → IfSome (tick_of told) (λ at. IsFrom at now)
  from-told tick told now low from = by (tick_of told) low
    where
      by : (o : Option ℕ) → IfSome o (λ at. at ≤ tick) → IfSome o (λ at. IsFrom at now)
      by None low = tt
      by (Some at) low = from-before at tick now low from

  -- what holds of each row that was asked of a bank holds of one of that number
  module _ (home number : ℕ → ℕ) (bank : ℕ) (P : ℕ → Type 0) where
    abbrev Holds : Asked n → Type 0
    Holds a = P a.row

    one-of : (a : Asked n) (asks : Asks n) (rest : List (Asked n)) (row : ℕ)
        → All Holds (map (asked_in home number) (cond (is_of home bank asks) (a ∷ filter (λ (b : Asked n). is_of home bank b.asks) rest) (filter (λ (b : Asked n). is_of home bank b.asks) rest)))
        → (comes_to home bank asks && a.row == row) ≡ true → P row
    one-of a (Reads line) rest row all is = by (home line == bank) all is
      where
        by : (own : Bool) → All Holds (map (asked_in home number) (cond own (a ∷ filter (λ (b : Asked n). is_of home bank b.asks) rest) (filter (λ (b : Asked n). is_of home bank b.asks) rest)))
            → (own && a.row == row) ≡ true → P row
        by true all is = subst P (eqb-true a.row row is) (All-head Holds (asked_in home number a) (map (asked_in home number) (filter (λ (b : Asked n). is_of home bank b.asks) rest)) all)
        by false all is = absurd (cc is)
    one-of a (Writes line bytes given) rest row all is = by (home line == bank) all is
      where
        by : (own : Bool) → All Holds (map (asked_in home number) (cond own (a ∷ filter (λ (b : Asked n). is_of home bank b.asks) rest) (filter (λ (b : Asked n). is_of home bank b.asks) rest)))
            → (own && a.row == row) ≡ true → P row
        by true all is = subst P (eqb-true a.row row is) (All-head Holds (asked_in home number a) (map (asked_in home number) (filter (λ (b : Asked n). is_of home bank b.asks) rest)) all)
        by false all is = absurd (cc is)
    one-of a Cuts rest row all is = absurd (cc is)

    rest-of : (a : Asked n) (rest : List (Asked n)) (own : Bool)
        → All Holds (map (asked_in home number) (cond own (a ∷ filter (λ (b : Asked n). is_of home bank b.asks) rest) (filter (λ (b : Asked n). is_of home bank b.asks) rest)))
        → All Holds (asked_of home number bank rest)
    rest-of a rest true all = All-tail Holds (asked_in home number a) (map (asked_in home number) (filter (λ (b : Asked n). is_of home bank b.asks) rest)) all
    rest-of a rest false all = all

    pub of-bank-row : (asked : List (Asked n)) → All Holds (asked_of home number bank asked) → (row : ℕ) → is_asked_of home bank asked row ≡ true → P row
    of-bank-row [] all row is = absurd (cc is)
    of-bank-row (a ∷ rest) all row is =
        by (comes_to home bank a.asks && a.row == row) refl is (of-bank-row rest (rest-of a rest (is_of home bank a.asks) all) row)
      where
        by : (own : Bool) → (comes_to home bank a.asks && a.row == row) ≡ own → (own || is_asked_of home bank rest row) ≡ true → (is_asked_of home bank rest row ≡ true → P row) → P row
        by true own is ih = one-of a a.asks rest row all own
        by false own is ih = ih is

module _ {n m : ℕ} where
  -- a row comes at the tick of its event
  asked-low : (tick : ℕ) (xs : List (TimedEvent n m)) (asked : List (Asked n)) → AreAsked xs asked → All (λ (x : TimedEvent n m). x.tick ≤ tick) xs → All (λ (a : Asked n). a.tick ≤ tick) asked
  asked-low tick [] asked none low = subst (λ (rest : List (Asked n)). All (λ (a : Asked n). a.tick ≤ tick) rest) (sym none) (All-nil (λ (a : Asked n). a.tick ≤ tick))
  asked-low tick (x ∷ xs) asked is low =
      by x.happens x.cancels asked is (λ rest are. asked-low tick xs rest are (All-tail (λ (x : TimedEvent n m). x.tick ≤ tick) x xs low))
    where
      own : (a : Asked n) (rest : List (Asked n)) → a.tick ≡ x.tick → All (λ (a : Asked n). a.tick ≤ tick) rest → All (λ (a : Asked n). a.tick ≤ tick) (a ∷ rest)
      own a rest at all = let first : x.tick ≤ tick = All-head (λ (x : TimedEvent n m). x.tick ≤ tick) x xs low in All-cons (λ (a : Asked n). a.tick ≤ tick) a rest (omega (arith, at, first)) all

      by : (h : Happens n) (cancels : Bool) (asked : List (Asked n)) → IsAsked h cancels x.tick (AreAsked xs) asked
          → ((rest : List (Asked n)) → AreAsked xs rest → All (λ (a : Asked n). a.tick ≤ tick) rest) → All (λ (a : Asked n). a.tick ≤ tick) asked
      by (Core (Write row line bytes given answer)) cancels [] is ih = absurd is
      by (Core (Write row line bytes given answer)) cancels (a ∷ asked) is ih = own a asked (ap (λ (a : Asked n). a.tick) is.0) (ih asked is.1)
      by (Core (Read row line answer)) cancels [] is ih = absurd is
      by (Core (Read row line answer)) cancels (a ∷ asked) is ih = own a asked (ap (λ (a : Asked n). a.tick) is.0) (ih asked is.1)
      by (Core (Cut tearing)) false [] is ih = absurd is
      by (Core (Cut tearing)) false (a ∷ asked) is ih = own a asked is.0 (ih asked is.2)
      by _ _ asked is ih = ih asked is

  -- events come no sooner than those before them
  since-last : (shape : BankShape) (pace : Pace) (e : ℕ) (since xs : List (TimedEvent n m)) → 1 ≤ pace.read → 1 ≤ pace.iter → Lawful shape pace e (since ++ xs)
      → (last_tick xs ≤ last_tick (since ++ xs)) × All (λ (x : TimedEvent n m). last_tick xs ≤ x.tick) since
  since-last shape pace e [] xs read iter l = (omega arith, All-nil (λ (x : TimedEvent n m). last_tick xs ≤ x.tick))
  since-last shape pace e (x ∷ since) xs read iter l =
      let before = since-last shape pace e since xs read iter l.1 in
      let rises : last_tick (since ++ xs) ≤ x.tick = last_tick-rises shape pace e (since ++ xs) x read iter l in
      let low : last_tick xs ≤ x.tick = omega (arith, before.0, rises) in
      (low, All-cons (λ (x : TimedEvent n m). last_tick xs ≤ x.tick) x since low before.1)

-- what was known of the rows of a bank when its history had come so far, and what is known of them later: with a tick between
pub record IsTurned {n : ℕ} (tick : ℕ) (by_then in_the_end : ℕ → Outcome n) (asked : List (Asked n)) : Type 0 where
  pub right : All (λ (a : Asked n). IsRight tick (by_then a.row) (in_the_end a.row)) asked
  pub low : All (λ (a : Asked n). a.tick ≤ tick) asked
  pub decided : All (λ (a : Asked n). is_decided (in_the_end a.row) ≡ true → by_then a.row ≡ in_the_end a.row) asked

pub bank-turned : {n m : ℕ} (e : ℕ) (shape : BankShape) (pace : Pace) (xs since : List (TimedEvent n m)) (asked : List (Asked n)) (over : Bool) (by_then in_the_end : ℕ → Outcome n)
    → 1 ≤ pace.read → 1 ≤ pace.iter → Lawful shape pace e (since ++ xs) → AreAsked xs asked
    → All (λ (a : Asked n). by_then a.row ≡ outcome_so_far shape xs a a.asks) asked
    → All (λ (a : Asked n). in_the_end a.row ≡ known_of over shape (since ++ xs) a a.asks) asked
    → IsTurned (last_tick xs) by_then in_the_end asked
bank-turned {n = n} {m = m} e shape pace xs since asked over by_then in_the_end read iter l are before after =
    let up : All (λ (x : TimedEvent n m). x.tick ≤ last_tick xs) xs = ticks-up_to shape pace e xs read iter (lawful_before shape pace e since xs l) in
    let low = asked-low (last_tick xs) xs asked are up in
    record {
      right = each-right e shape pace xs since l (last_tick xs) up (since-last shape pace e since xs read iter l).1 over asked by_then in_the_end before after low;
      low = low;
      decided = λ k d below.
          by (get_or asked k d) (before k d below) (after k d below) (decided-by shape pace e since xs l over asked are k d below);
    }
  where
    by : (a : Asked n) → by_then a.row ≡ outcome_so_far shape xs a a.asks → in_the_end a.row ≡ known_of over shape (since ++ xs) a a.asks
        → (is_decided (known_of over shape (since ++ xs) a a.asks) ≡ true → outcome_so_far shape xs a a.asks ≡ known_of over shape (since ++ xs) a a.asks)
        → is_decided (in_the_end a.row) ≡ true → by_then a.row ≡ in_the_end a.row
    by a before after knows is = before ∙ knows (sym (ap is_decided after) ∙ is) ∙ sym after
