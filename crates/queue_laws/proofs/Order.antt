-- Entries of one line stand in the order of their rows and of their ticks, and a busy head came before the last tick.
use Rattle.std.proofs.Common.{◌≡◌, ℕ, ◌<◌, ◌≤◌, ◌==◌, ◌&&◌, ◌⊎◌, inl, inr, not, Bool, true, false, List, [], ◌∷◌, ◌++◌, Option, Some, None, drop, refl, sym, ap, ◌∙◌, subst, arith, cond, eqb, eqb-true, eq-eqb}
use Rattle.std.proofs.lemmas.Bool.{or_left, or_right, and_from}
use Rattle.masked_bytes.specs.{Entries.{has_row, RowsApart, merged, laid_on, newest_row, candidate, or_this}, declared.entry.Entry.Entry}
use Rattle.masked_bytes.proofs.Truth.{and_first, and_second, or_rest}
use Rattle.bank_shape.specs.{Kinds.is_store, declared.BankShape.BankShape, declared.Work.TheVariants.Nothing, declared.answer.WriteAnswer.WriteAnswer, declared.pace.Pace.Pace}
use Rattle.bank_shape.specs.declared.answer.WriteAnswer.TheVariants as wrote
use Rattle.bank_shape.specs.declared.answer.Step.TheVariants as did
use Rattle.bank_model.specs.{After.due_work, Answers.head_busy_after, Events.{BankEvent, Write, Read, Begin, Iterate, Cut, newest}}
use Rattle.bank_model.specs.{History.{begun, queue, due_after, has_exhausted, in_progress}, Lawful.{Lawful, MayCome}, Sensing.most_steps}
use Rattle.bank_model.specs.{Timing.{Happens, Core, Regs, KeepCut, TimedEvent, core, core_of, last_tick}, Told.{tick_by, tick_of_row}}
use Rattle.bank_laws.{specs.Pairs.{has_line, ArePaired}, specs.Ticks.ends_action, proofs.Answering.{newest_row-there, merged-there}, proofs.Asked.{pushed-stands, merged-stands}}
use Rattle.bank_laws.proofs.{Counting.{among, Falling}, Entries.{either, differ_back}, Lines.{Stands, stands-row, stands-line, newest-line, merged-candidate}}
use Rattle.bank_laws.proofs.Pairs.{HeadFull, HasWork, KeepsPairs, keeps_pairs, busy-full, no_candidate-head, accepted-none}
use Rattle.bank_laws.proofs.{Pending.{write_rows, writes_in, writes-fall, queue-asked}, Standing.stand_apart, Ticks.{last_tick-rises, last-below}, Waiting.may_all}

pub below_among : (xs : List ℕ) (bound row : ℕ) → Falling xs bound → among xs row ≡ true → row < bound
below_among [] bound row f there = absurd (cc)
below_among (x ∷ xs) bound row f there =
    either (x == row) (λ is. let same : x ≡ row = eqb-true x row is in omega (arith, f.0, same))
    (λ ne. let less : row < x = below_among xs x row f.1 (or_rest (x == row) _ ne there) in omega (arith, f.0, less))

among_after : (xs ys : List ℕ) (row : ℕ) → among ys row ≡ true → among (xs ++ ys) row ≡ true
among_after [] ys row h = h
among_after (x ∷ xs) ys row h = or_right (x == row) _ (among_after xs ys row h)

pub among_later : {n m : ℕ} (later zs : List (TimedEvent n m)) (row : ℕ) → among (writes_in zs) row ≡ true → among (writes_in (later ++ zs)) row ≡ true
among_later [] zs row h = h
among_later (x ∷ later) zs row h = among_after (write_rows x.happens) (writes_in (later ++ zs)) row (among_later later zs row h)

module _ {n : ℕ} where
  -- behind the head the rows of its line are greater, and so are their numbers, such as ticks
  abbrev pub Leads : (ℕ → ℕ) → List (Entry n) → Type 0
  Leads f [] = Unit {0}
  Leads f (e ∷ es) = (row : ℕ) → Stands es row e.line → (e.row < row) × (f e.row < f row)

  -- the number of the head's row is below a bound
  abbrev pub HeadBefore : (ℕ → ℕ) → ℕ → List (Entry n) → Type 0
  HeadBefore f bound [] = Unit {0}
  HeadBefore f bound (e ∷ es) = f e.row < bound

  leads-same : (f g : ℕ → ℕ) (es : List (Entry n)) → ((row : ℕ) → has_row es row ≡ true → f row ≡ g row) → Leads g es → Leads f es
  leads-same f g [] same l = tt
  leads-same f g (e ∷ es) same l =
      λ row s.
      let k = l row s in
      let own : f e.row ≡ g e.row = same e.row (or_left (e.row == e.row) _ (eq-eqb e.row e.row refl)) in
      let other : f row ≡ g row = same row (or_right (e.row == row) _ (stands-row es row e.line s)) in
      (k.0, omega (arith, k.1, own, other))

  -- New entries

  leads-push : (f : ℕ → ℕ) (es : List (Entry n)) (x : Entry n) → Leads f es → ((e : Entry n) (rest : List (Entry n)) → es ≡ e ∷ rest → x.line ≡ e.line → (e.row < x.row) × (f e.row < f x.row)) → Leads f (es ++ x ∷ [])
  leads-push f [] x l new = λ row s. absurd s
  leads-push f (e ∷ es) x l new = λ row s. by row (pushed-stands es x row e.line s)
    where
      by : (row : ℕ) → Stands es row e.line ⊎ ((x.row ≡ row) × (x.line ≡ e.line)) → (e.row < row) × (f e.row < f row)
      by row (inl s) = l row s
      by row (inr s) = subst (λ r. (e.row < r) × (f e.row < f r)) s.0 (new e es refl s.1)

  -- Merged entries

  -- where a write merges: into an entry behind the head, or into the head
  abbrev pub MergesInto : Bool → Entry n → List (Entry n) → ℕ → ℕ → Type 0
  MergesInto busy e es line old = (newest_row es line ≡ Some old) ⊎ ((newest_row es line ≡ None) × (e.row ≡ old) × (e.line ≡ line) × (busy ≡ false))

  pub merges_into : (busy : Bool) (e : Entry n) (es : List (Entry n)) (line old : ℕ) → candidate busy (e ∷ es) line ≡ Some old → MergesInto busy e es line old
  merges_into busy e es line old c = by (newest_row es line) refl c
    where
      own : (busy b : Bool) → newest_row es line ≡ None → eqb e.line line ≡ b → cond (not busy && b) (Some e.row) None ≡ Some old → MergesInto busy e es line old
      own busy b none is h = grind arith

      by : (r : Option ℕ) → newest_row es line ≡ r → or_this r (cond (not busy && eqb e.line line) (Some e.row) None) ≡ Some old → MergesInto busy e es line old
      by (Some row) is h = inl (is ∙ h)
      by None is h = own busy (eqb e.line line) is refl h

  -- the head stays where a write merges into an entry behind it
  pub behind : (e : Entry n) (es : List (Entry n)) (line old : ℕ) → RowsApart (e ∷ es) → newest_row es line ≡ Some old → (e.row == old) ≡ false
  behind e es line old apart new = either (e.row == old) (λ is. absurd (cc (subst (λ r. has_row es r ≡ false) (eqb-true e.row old is) apart.0, newest_row-there es line old new))) (λ ne. ne)

  leads-merged : (f : ℕ → ℕ) (busy : Bool) (old new line : ℕ) (bytes : List ℕ) (given : List Bool) (es : List (Entry n)) → RowsApart es → candidate busy es line ≡ Some old
      → old < new → f old ≤ f new → Leads f es → Leads f (merged old new bytes given es)
  leads-merged f busy old new line bytes given [] apart c lt le l = tt
  leads-merged f busy old new line bytes given (e ∷ es) apart c lt le l = by (merges_into busy e es line old c)
    where
      rest : (row : ℕ) → Stands es row e.line ⊎ ((new ≡ row) × Stands es old e.line) → (e.row < row) × (f e.row < f row)
      rest row x1 = grind arith

      by : MergesInto busy e es line old → Leads f (merged old new bytes given (e ∷ es))
      by (inl new_is) =
          subst (λ b. Leads f (cond b (laid_on new bytes given e ∷ es) (e ∷ merged old new bytes given es))) (sym (behind e es line old apart new_is))
          (λ row s. rest row (merged-stands old new bytes given es row e.line s))
      by (inr own) =
          subst (λ b. Leads f (cond b (laid_on new bytes given e ∷ es) (e ∷ merged old new bytes given es))) (sym (subst (λ r. (e.row == r) ≡ true) own.1 (eq-eqb e.row e.row refl)))
          (λ row s. absurd (cc (stands-line es row e.line s, subst (λ k. has_line es k ≡ false) (sym own.2) (newest-line es line own.0))))

  head-merged : (f : ℕ → ℕ) (bound old new line : ℕ) (bytes : List ℕ) (given : List Bool) (es : List (Entry n)) → RowsApart es → candidate true es line ≡ Some old → HeadBefore f bound es → HeadBefore f bound (merged old new bytes given es)
  head-merged f bound old new line bytes given [] apart c b = tt
  head-merged f bound old new line bytes given (e ∷ es) apart c b = by (merges_into true e es line old c)
    where
      by : MergesInto true e es line old → HeadBefore f bound (merged old new bytes given (e ∷ es))
      by (inl new_is) = subst (λ b. HeadBefore f bound (cond b (laid_on new bytes given e ∷ es) (e ∷ merged old new bytes given es))) (sym (behind e es line old apart new_is)) b
      by (inr own) = absurd (cc (own.3))

  -- Begun and stored entries

  leads-begun : (f : ℕ → ℕ) (due : Option ℕ) (fill : ℕ → List ℕ) (es : List (Entry n)) → Leads f es → Leads f (begun due fill es)
  leads-begun f due fill es l = grind arith

  leads-drop : (f : ℕ → ℕ) (es : List (Entry n)) → ArePaired es → Leads f (drop 1 es)
  leads-drop f (e ∷ g ∷ es) p = λ row s. absurd (cc (p.0.0, stands-line es row g.line s))
  leads-drop f _ p = tt

  -- The head's number

  head-all : (f : ℕ → ℕ) (bound : ℕ) (es : List (Entry n)) → ((row : ℕ) → f row < bound) → HeadBefore f bound es
  head-all f bound [] h = tt
  head-all f bound (e ∷ es) h = h e.row

  head-more : (f g : ℕ → ℕ) (a b : ℕ) (es : List (Entry n)) → a ≤ b → ((row : ℕ) → has_row es row ≡ true → f row ≡ g row) → HeadBefore g a es → HeadBefore f b es
  head-more f g a b es le same h = grind arith

  head-push : (f : ℕ → ℕ) (bound : ℕ) (es : List (Entry n)) (x : Entry n) → HeadFull es → HeadBefore f bound es → HeadBefore f bound (es ++ x ∷ [])
  head-push f bound es x full h = grind arith

  -- a store is in progress after a new entry or a merged one only where it was before
  store-push : (shape : BankShape) (h k : List (BankEvent n)) (b : Bool) (due : Option ℕ) (es : List (Entry n)) (x : Entry n) → HasWork b due es
      → is_store (cond b Nothing (due_work shape h due (es ++ x ∷ []))) ≡ true → is_store (cond b Nothing (due_work shape k due es)) ≡ true
  store-push shape h k b due es x w s = grind arith

  store-merged : (shape : BankShape) (h k : List (BankEvent n)) (b : Bool) (due : Option ℕ) (old new : ℕ) (bytes : List ℕ) (given : List Bool) (es : List (Entry n))
      → is_store (cond b Nothing (due_work shape h due (merged old new bytes given es))) ≡ true → is_store (cond b Nothing (due_work shape k due es)) ≡ true
  store-merged shape h k b due old new bytes given es s = grind arith

  store-same : (shape : BankShape) (h k : List (BankEvent n)) (b : Bool) (due : Option ℕ) (es : List (Entry n))
      → is_store (cond b Nothing (due_work shape h due es)) ≡ true → is_store (cond b Nothing (due_work shape k due es)) ≡ true
  store-same shape h k b due es s = grind arith

pick_tick : (b : Bool) (tick old : ℕ) → old ≤ tick → cond b tick old ≤ tick
pick_tick b tick old le = grind arith

module _ {n m : ℕ} (shape : BankShape) (pace : Pace) (e : ℕ) where
  -- the tick of a write that came stays
  tick_step : (zs : List (TimedEvent n m)) (x : TimedEvent n m) (h : Happens n) (row : ℕ) → MayCome shape pace e zs x h → among (writes_in zs) row ≡ true → tick_by row h x.tick (tick_of_row row zs) ≡ tick_of_row row zs
  tick_step zs x (Core (Write at line bytes given answer)) row may there =
      ap (λ b. cond b x.tick (tick_of_row row zs)) (differ_back row at (below_among (writes_in zs) at row (writes-fall zs at may.asked) there))
  tick_step zs x _ row may there = refl

  pub tick_stays : (later zs : List (TimedEvent n m)) (row : ℕ) → Lawful shape pace e (later ++ zs) → among (writes_in zs) row ≡ true → tick_of_row row (later ++ zs) ≡ tick_of_row row zs
  tick_stays [] zs row l there = refl
  tick_stays (x ∷ later) zs row l there = tick_step (later ++ zs) x x.happens row l.0 (among_later later zs row there) ∙ tick_stays later zs row l.1 there

  pub tick_up_to : (zs : List (TimedEvent n m)) (row : ℕ) → 1 ≤ pace.read → 1 ≤ pace.iter → Lawful shape pace e zs → tick_of_row row zs ≤ last_tick zs
  tick_up_to [] row r i l = omega arith
  tick_up_to (x ∷ zs) row r i l =
      let before : tick_of_row row zs ≤ last_tick zs = tick_up_to zs row r i l.1 in
      let rises : last_tick zs ≤ x.tick = last_tick-rises shape pace e zs x r i l in
      by x.happens (omega (arith, before, rises))
    where
      by : (h : Happens n) → tick_of_row row zs ≤ x.tick → tick_by row h x.tick (tick_of_row row zs) ≤ x.tick
      by (Core (Write at line bytes given answer)) le = pick_tick (eqb at row) x.tick (tick_of_row row zs) le
      by _ le = le

  -- the entries of a line stand in order, and a busy head came before the last tick
  pub record InOrder (zs : List (TimedEvent n m)) : Type 0 where
    pub leads : Leads (λ row. tick_of_row row zs) (queue shape (core zs))
    pub busy : head_busy_after shape (core zs) ≡ true → HeadBefore (λ row. tick_of_row row zs) (last_tick zs) (queue shape (core zs))

  record OrderBy (zs : List (TimedEvent n m)) (x : TimedEvent n m) (h : Happens n) : Type 0 where
    leads : Leads (λ row. tick_by row h x.tick (tick_of_row row zs)) (queue shape (core_of h (core zs)))
    busy : head_busy_after shape (core_of h (core zs)) ≡ true → HeadBefore (λ row. tick_by row h x.tick (tick_of_row row zs)) x.tick (queue shape (core_of h (core zs)))

  module _ (zs : List (TimedEvent n m)) (x : TimedEvent n m) (r : 1 ≤ pace.read) (i : 1 ≤ pace.iter) (l : Lawful shape pace e (x ∷ zs)) (o : InOrder zs) where
    rises : last_tick zs ≤ x.tick
    rises = last_tick-rises shape pace e zs x r i l

    pairs : KeepsPairs shape (core zs)
    pairs = keeps_pairs shape (most_steps e) (core zs) (may_all shape pace e zs l.1)

    -- the ticks of what stands are as before
    kept : (h : Happens n) → MayCome shape pace e zs x h → (row : ℕ) → has_row (queue shape (core zs)) row ≡ true → tick_by row h x.tick (tick_of_row row zs) ≡ tick_of_row row zs
    kept h may row there = tick_step zs x h row may (queue-asked shape zs row there)

    quiet : (h : Happens n) → MayCome shape pace e zs x h → queue shape (core_of h (core zs)) ≡ queue shape (core zs) → (head_busy_after shape (core_of h (core zs)) ≡ true → head_busy_after shape (core zs) ≡ true) → OrderBy zs x h
    quiet h may same was = record {
      leads = subst (λ (es : List (Entry n)). Leads (λ row. tick_by row h x.tick (tick_of_row row zs)) es) (sym same)
          (leads-same (λ row. tick_by row h x.tick (tick_of_row row zs)) (λ row. tick_of_row row zs) (queue shape (core zs)) (kept h may) o.leads);
      busy = λ b. subst (λ (es : List (Entry n)). HeadBefore (λ row. tick_by row h x.tick (tick_of_row row zs)) x.tick es) (sym same)
          (head-more (λ row. tick_by row h x.tick (tick_of_row row zs)) (λ row. tick_of_row row zs) (last_tick zs) x.tick (queue shape (core zs)) rises (kept h may) (o.busy (was b)));
    }

    still : (k : List (BankEvent n)) → (in_progress (core zs) && is_store (cond (has_exhausted (core zs)) Nothing (due_work shape k (due_after shape (core zs)) (queue shape (core zs))))) ≡ true → head_busy_after shape (core zs) ≡ true
    still k b =
        and_from (in_progress (core zs)) _ (and_first (in_progress (core zs)) _ b)
        (store-same shape k (core zs) (has_exhausted (core zs)) (due_after shape (core zs))
        (queue shape (core zs)) (and_second (in_progress (core zs)) _ b))

    -- an action that ends is above every tick
    ends : (h : Happens n) → ((row : ℕ) → tick_by row h x.tick (tick_of_row row zs) ≡ tick_of_row row zs) → last_tick zs < x.tick → Leads (λ row. tick_by row h x.tick (tick_of_row row zs)) (queue shape (core_of h (core zs))) → OrderBy zs x h
    ends h same lt leads = record {
      leads = leads;
      busy = λ b. head-all (λ row. tick_by row h x.tick (tick_of_row row zs)) x.tick (queue shape (core_of h (core zs))) (λ row. let up : tick_of_row row zs ≤ last_tick zs = tick_up_to zs row r i l.1 in omega (arith, up, lt, same row));
    }

    busy_head : head_busy_after shape (core zs) ≡ true → HeadFull (queue shape (core zs))
    busy_head b =
        busy-full shape (core zs) (has_exhausted (core zs)) (due_after shape (core zs)) (queue shape (core zs)) (pairs.working (and_first (in_progress (core zs)) _ b)) (and_second (in_progress (core zs)) _ b)

    came_before : (at line : ℕ) (bytes : List ℕ) (given : List Bool) (answer : WriteAnswer) → MayCome shape pace e zs x (Core (Write at line bytes given answer)) → (row : ℕ) → has_row (queue shape (core zs)) row ≡ true → row < at
    came_before at line bytes given answer may row there = below_among (writes_in zs) at row (writes-fall zs at may.asked) (queue-asked shape zs row there)

    own_tick : (at old : ℕ) → cond (eqb at at) x.tick old ≡ x.tick
    own_tick at old = ap (λ b. cond b x.tick old) (eq-eqb at at refl)

    new_behind : (at line : ℕ) (bytes : List ℕ) (given : List Bool) → MayCome shape pace e zs x (Core (Write at line bytes given wrote.Accepted)) → (head : Entry n) (rest : List (Entry n)) → queue shape (core zs) ≡ head ∷ rest
        → line ≡ head.line → (head.row < at) × (cond (eqb at head.row) x.tick (tick_of_row head.row zs) < cond (eqb at at) x.tick (tick_of_row at zs))
    new_behind at line bytes given may head rest is same =
        let there : has_row (queue shape (core zs)) head.row ≡ true = subst (λ (es : List (Entry n)). has_row es head.row ≡ true) (sym is) (or_left (head.row == head.row) _ (eq-eqb head.row head.row refl)) in
        let none : candidate (head_busy_after shape (core zs)) (head ∷ rest) line ≡ None =
        subst (λ (es : List (Entry n)). candidate (head_busy_after shape (core zs)) es line ≡ None) is (accepted-none shape (core zs) line may.may.2) in
        let busy : head_busy_after shape (core zs) ≡ true = no_candidate-head (head_busy_after shape (core zs)) head rest line none (subst (λ k. (line == k) ≡ true) same (eq-eqb line line refl)) in
        let before : tick_of_row head.row zs < last_tick zs = subst (λ (es : List (Entry n)). HeadBefore (λ row. tick_of_row row zs) (last_tick zs) es) is (o.busy busy) in
        let own : cond (eqb at head.row) x.tick (tick_of_row head.row zs) ≡ tick_of_row head.row zs = kept (Core (Write at line bytes given wrote.Accepted)) may head.row there in
        let new : cond (eqb at at) x.tick (tick_of_row at zs) ≡ x.tick = own_tick at (tick_of_row at zs) in
        (came_before at line bytes given wrote.Accepted may head.row there, omega (arith, before, own, new, rises))

    accepted : (at line : ℕ) (bytes : List ℕ) (given : List Bool) → MayCome shape pace e zs x (Core (Write at line bytes given wrote.Accepted)) → OrderBy zs x (Core (Write at line bytes given wrote.Accepted))
    accepted at line bytes given may = record {
      leads = leads-push (λ row. cond (eqb at row) x.tick (tick_of_row row zs)) (queue shape (core zs)) (record { row = at; line = line; bytes = bytes; given = given })
          (leads-same (λ row. cond (eqb at row) x.tick (tick_of_row row zs)) (λ row. tick_of_row row zs) (queue shape (core zs)) (kept (Core (Write at line bytes given wrote.Accepted)) may) o.leads)
          (new_behind at line bytes given may);
      busy = λ b.
          let was : head_busy_after shape (core zs) ≡ true =
          and_from (in_progress (core zs)) _ (and_first (in_progress (core zs)) _ b)
          (store-push shape (Write at line bytes given wrote.Accepted ∷ core zs) (core zs) (has_exhausted (core zs)) (due_after shape (core zs)) (queue shape (core zs)) (record { row = at; line = line; bytes = bytes; given = given })
          (pairs.working (and_first (in_progress (core zs)) _ b)) (and_second (in_progress (core zs)) _ b)) in
          head-push (λ row. cond (eqb at row) x.tick (tick_of_row row zs)) x.tick (queue shape (core zs)) (record { row = at; line = line; bytes = bytes; given = given }) (busy_head was)
          (head-more (λ row. cond (eqb at row) x.tick (tick_of_row row zs)) (λ row. tick_of_row row zs) (last_tick zs) x.tick (queue shape (core zs)) rises (kept (Core (Write at line bytes given wrote.Accepted)) may) (o.busy was));
    }

    merges : (at line old : ℕ) (bytes : List ℕ) (given : List Bool) → MayCome shape pace e zs x (Core (Write at line bytes given (wrote.Merged old))) → OrderBy zs x (Core (Write at line bytes given (wrote.Merged old)))
    merges at line old bytes given may = record {
      leads =
          let le : tick_of_row old zs ≤ last_tick zs = tick_up_to zs old r i l.1 in
          let was : cond (eqb at old) x.tick (tick_of_row old zs) ≡ tick_of_row old zs = kept (Core (Write at line bytes given (wrote.Merged old))) may old there in
          let new : cond (eqb at at) x.tick (tick_of_row at zs) ≡ x.tick = own_tick at (tick_of_row at zs) in
          leads-merged (λ row. cond (eqb at row) x.tick (tick_of_row row zs)) (head_busy_after shape (core zs)) old at line bytes given (queue shape (core zs)) apart into (came_before at line bytes given (wrote.Merged old) may old there)
          (omega (arith, le, was, new, rises))
          (leads-same (λ row. cond (eqb at row) x.tick (tick_of_row row zs)) (λ row. tick_of_row row zs) (queue shape (core zs)) (kept (Core (Write at line bytes given (wrote.Merged old))) may) o.leads);
      busy = λ b.
          let was : head_busy_after shape (core zs) ≡ true =
          and_from (in_progress (core zs)) _ (and_first (in_progress (core zs)) _ b)
          (store-merged shape (Write at line bytes given (wrote.Merged old) ∷ core zs) (core zs) (has_exhausted (core zs)) (due_after shape (core zs)) old at bytes given (queue shape (core zs)) (and_second (in_progress (core zs)) _ b)) in
          head-merged (λ row. cond (eqb at row) x.tick (tick_of_row row zs)) x.tick old at line bytes given (queue shape (core zs)) apart
          (subst (λ b. candidate b (queue shape (core zs)) line ≡ Some old) was into)
          (head-more (λ row. cond (eqb at row) x.tick (tick_of_row row zs)) (λ row. tick_of_row row zs) (last_tick zs) x.tick (queue shape (core zs)) rises (kept (Core (Write at line bytes given (wrote.Merged old))) may) (o.busy was));
    }
      where
        into : candidate (head_busy_after shape (core zs)) (queue shape (core zs)) line ≡ Some old
        into = merged-candidate shape (core zs) line old may.may.2

        apart : RowsApart (queue shape (core zs))
        apart = (stand_apart shape (core zs) at may.asked).queued_apart

        there : has_row (queue shape (core zs)) old ≡ true
        there = merged-there shape (core zs) line old may.may.2

    step : (h : Happens n) → MayCome shape pace e zs x h → (ends_action h ≡ true → last_tick zs < x.tick) → OrderBy zs x h
    step (Core (Write at line bytes given wrote.Accepted)) may lt = accepted at line bytes given may
    step (Core (Write at line bytes given (wrote.Merged old))) may lt = merges at line old bytes given may
    step (Core (Write at line bytes given wrote.Full)) may lt = quiet (Core (Write at line bytes given wrote.Full)) may refl (still (Write at line bytes given wrote.Full ∷ core zs))
    step (Core (Write at line bytes given wrote.Exhausted)) may lt = quiet (Core (Write at line bytes given wrote.Exhausted)) may refl (still (Write at line bytes given wrote.Exhausted ∷ core zs))
    step (Core (Read at line answer)) may lt = quiet (Core (Read at line answer)) may refl (still (Read at line answer ∷ core zs))
    step (Core (Begin (did.Stored at place))) may lt = ends (Core (Begin (did.Stored at place))) (λ row. refl) (lt refl) (leads-drop (λ row. tick_of_row row zs) (queue shape (core zs)) pairs.paired)
    step (Core (Begin answer)) may lt =
        ends (Core (Begin answer)) (λ row. refl) (lt refl) (leads-begun (λ row. tick_of_row row zs) (due_after shape (core zs)) (newest (core zs)) (queue shape (core zs)) o.leads)
    step (Core (Iterate (did.Stored at place))) may lt = ends (Core (Iterate (did.Stored at place))) (λ row. refl) (lt refl) (leads-drop (λ row. tick_of_row row zs) (queue shape (core zs)) pairs.paired)
    step (Core (Cut tearing)) may lt = quiet (Core (Cut tearing)) may refl (λ b. absurd (cc))
    step (Regs (KeepCut tearing)) may lt = quiet (Regs (KeepCut tearing)) may refl (λ b. b)
    step h may lt = ends h (λ row. refl) (lt refl) o.leads

  pub in_order : (zs : List (TimedEvent n m)) → 1 ≤ pace.read → 1 ≤ pace.iter → Lawful shape pace e zs → InOrder zs
  in_order [] r i l = record { leads = tt; busy = λ b. tt }
  in_order (x ∷ zs) r i l =
      let s = step zs x r i l (in_order zs r i l.1) x.happens l.0 (λ is. last-below shape pace e zs x r i l is) in
      record { leads = s.leads; busy = s.busy }
