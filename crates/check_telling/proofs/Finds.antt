-- What a read finds in its bank.
use Rattle.std.proofs.Common.{◌≡◌, ℕ, suc, ◌+◌, ◌<◌, ◌≤◌, ◌^◌, ◌&&◌, ◌||◌, ◌==◌, ◌++◌, Bool, true, false, List, [], ◌∷◌, Option, Some, None, length, refl, sym, ap, ◌∙◌, cond, subst, arith}
use Rattle.std.{specs.List.{list_all, list_any}, specs.Prelude.{filter, nat_le, reverse, IfSome}, proofs.lemmas.Bool.ltb-true, proofs.lemmas.List.{length-reverse, length-map}}
use Rattle.masked_bytes.{specs.Masked.gives_all, proofs.Truth.{and_first, and_second}}
use Rattle.result_rows.specs.declared.Outcome.{Outcome}
use Rattle.result_rows.specs.declared.Outcome.TheVariants as out
use Rattle.row_rules.specs.{Queueing.{pending, waiting, awaits, cover, is_first, is_at_head, next_store}, Rows.{is_cut, write_of}, Table.{is_of, of_bank}, Ticking.{bound, delay}}
use Rattle.row_rules.specs.{declared.Row.Row, declared.Rules.Rules}
use Rattle.row_rules.specs.Rows as spec
use Rattle.check_judging.specs.{Cutting.cut_ticks, Distances.{last_read, ends_above, later_of}, Keys.reach}
use Rattle.check_verdict.{specs.Fitting.{all_brief, is_brief}, specs.Judged.beside, specs.Timely.first_of_ticks, specs.Verdicts.bank_in, proofs.Apart.all-reverse}
use Rattle.check_verdict.proofs.{Fits.any-reverse, Settles.filter-reverse}
use Rattle.check_telling.specs.{Givers.givers, Grounds.{IsOfBank, TellsRead}, Right.{ReadGrounds, earliest, grounds_on}}
use Rattle.check_telling.specs.{Standing.{first_at, mates_of, row_at, row_of, rows_of, tick_at, AreNumbered}, Steps.{is_ahead, leaves_later}, declared.grounds.Grounds.Grounds}
use Rattle.check_telling.specs.{declared.mates.Numbered.Numbered, declared.newest.Newest.Newest}

later_small : (u : ℕ) (found : Option ℕ) → u < reach → IfSome found (λ v. v < reach) → IfSome (later_of u found) (λ v. v < reach)
later_small u None lt h = lt
later_small u (Some v) lt h = by (nat_le u v)
  where
    by : (b : Bool) → IfSome (cond b (Some v) (Some u)) (λ w. w < reach)
    by true = h
    by false = lt

widen : (found : Option ℕ) → IfSome found (λ v. v < reach) → IfSome found (λ v. v < 2 ^ 60)
widen None h = tt
widen (Some v) h = omega (arith, h)

module _ {n : ℕ} where
  pub waiting_few : (tick : ℕ) (between rows : List (Row n)) → length (waiting tick between rows) ≤ length rows
  waiting_few tick between [] = omega arith
  waiting_few tick between (q ∷ rows) = by (awaits tick between q) (waiting_few tick (q ∷ between) rows)
    where
      by : (b : Bool) → length (waiting tick (q ∷ between) rows) ≤ length rows → length (cond b (q ∷ waiting tick (q ∷ between) rows) (waiting tick (q ∷ between) rows)) ≤ suc (length rows)
      by true h = omega (arith, h)
      by false h = omega (arith, h)

  last_small : (rows : List (Row n)) → all_brief rows ≡ true → IfSome (last_read rows) (λ v. v < reach)
  last_small [] h = tt
  last_small (q ∷ rows) h = by q.outcome (and_first _ _ h) (last_small rows (and_second _ _ h))
    where
      by : (o : Outcome n) → is_brief o ≡ true → IfSome (last_read rows) (λ v. v < reach) → IfSome (last_read ((record { tick = q.tick; asks = q.asks; outcome = o }) ∷ rows)) (λ v. v < reach)
      by (out.Read u place bytes) b h = later_small u (last_read rows) (ltb-true u reach b) h
      by out.Unset b h = h
      by (out.Stored u place) b h = h
      by (out.Merged u) b h = h
      by (out.Queued u) b h = h
      by (out.Full u) b h = h
      by (out.Worn u) b h = h
      by (out.Forwarded u bytes) b h = h
      by (out.Busy u) b h = h
      by (out.Lost u) b h = h
      by (out.Cut u) b h = h

  pub last_below : (rows : List (Row n)) (found : Option ℕ) → all_brief rows ≡ true → found ≡ last_read (reverse rows) → IfSome found (λ v. v < 2 ^ 60)
  last_below rows found h is =
      widen found (subst (λ o. IfSome o (λ v. v < reach)) (sym is) (last_small (reverse rows) (all-reverse (λ (q : Row n). is_brief q.outcome) rows ∙ h)))

  -- the first cut's tick
  pub cut_at : (later : List (Numbered n)) → tick_at (first_at is_cut later) ≡ first_of_ticks (cut_ticks (rows_of later))
  cut_at [] = refl
  cut_at (one ∷ later) = by (is_cut one.row) (cut_at later)
    where
      by : (b : Bool) → tick_at (first_at is_cut later) ≡ first_of_ticks (cut_ticks (rows_of later))
          → tick_at (cond b (Some (row_at one)) (first_at is_cut later)) ≡ first_of_ticks (cond b (one.row.tick ∷ cut_ticks (rows_of later)) (cut_ticks (rows_of later)))
      by true h = refl
      by false h = h

  first_is : (line : ℕ) (next : Option ℕ) (rows : List (Row n)) → list_all (λ q. write_of line q || leaves_later next q.outcome) rows ≡ is_first line next rows
  first_is line None rows = refl
  first_is line (Some u) rows = refl

  head_found : (tick line : ℕ) (past later stand : List (Row n)) (next : Option ℕ) → stand ≡ reverse (pending tick [] past) → next ≡ next_store tick line (past ++ later)
      → (list_any (write_of line) stand && list_all (λ q. write_of line q || leaves_later next q.outcome) stand) ≡ is_at_head tick line (pending tick [] past) past later
  head_found tick line past later stand next is at =
      let ps = pending tick [] past in
      ap (λ xs. list_any (write_of line) xs && list_all (λ q. write_of line q || leaves_later next q.outcome) xs) is
      ∙ ap (λ b. b && list_all (λ q. write_of line q || leaves_later next q.outcome) (reverse ps)) (any-reverse (write_of line) ps)
      ∙ ap (λ b. list_any (write_of line) ps && b) (all-reverse (λ q. write_of line q || leaves_later next q.outcome) ps ∙ first_is line next ps)
      ∙ ap (λ o. list_any (write_of line) ps && is_first line o ps) at

  -- the number of rows that are told
  pub told_long : (told : List (Numbered n)) (these : List (Row n)) → rows_of told ≡ reverse these → length told ≡ length these
  told_long told these are = sym (length-map told row_of) ∙ ap length are ∙ length-reverse these

  -- all of it
  pub grounds_found : (rules : Rules) (tick line : ℕ) (bytes : List ℕ) (past later : List (Row n)) (stand wait : List (Numbered n)) (given : List Bool) (next last cut : Option ℕ)
      (covered head : Bool) (waits from by_tick : ℕ) (taken : List ℕ)
      → given ≡ cover tick line past later → covered ≡ gives_all given → rows_of stand ≡ reverse (pending tick [] past) → next ≡ next_store tick line (past ++ later)
      → head ≡ (list_any (write_of line) (rows_of stand) && list_all (λ q. write_of line q || leaves_later next q.outcome) (rows_of stand))
      → rows_of wait ≡ reverse (waiting tick [] past) → waits ≡ length wait → last ≡ last_read past → from ≡ earliest rules.read_ticks tick last
      → by_tick ≡ bound rules tick past later → cut ≡ first_of_ticks (cut_ticks later) → taken ≡ reverse (ends_above tick past)
      → record { newest_bytes = bytes; covered = covered; at_head = head; full = waits == rules.reads; from = from; by = by_tick; cut = cut; taken = taken }
      ≡ grounds_on rules tick line bytes past later
  grounds_found rules tick line bytes past later stand wait given next last cut covered head waits from by_tick taken g c s nx h w k l f b ct t =
      let first : covered ≡ gives_all (cover tick line past later) = c ∙ ap gives_all g in
      let second : head ≡ is_at_head tick line (pending tick [] past) past later = h ∙ head_found tick line past later (rows_of stand) next s nx in
      let third : (waits == rules.reads) ≡ (length (waiting tick [] past) == rules.reads) = ap (λ x. x == rules.reads) (k ∙ told_long wait (waiting tick [] past) w) in
      let fourth : from ≡ earliest rules.read_ticks tick (last_read past) = f ∙ ap (earliest rules.read_ticks tick) l in
      same first second third fourth b ct t
    where
      made : Bool → Bool → Bool → ℕ → ℕ → Option ℕ → List ℕ → ReadGrounds
      made c h f a b o t = record { newest_bytes = bytes; covered = c; at_head = h; full = f; from = a; by = b; cut = o; taken = t }

      same : {c1 c2 h1 h2 f1 f2 : Bool} {a1 a2 b1 b2 : ℕ} {o1 o2 : Option ℕ} {t1 t2 : List ℕ} → c1 ≡ c2 → h1 ≡ h2 → f1 ≡ f2 → a1 ≡ a2 → b1 ≡ b2 → o1 ≡ o2 → t1 ≡ t2
          → made c1 h1 f1 a1 b1 o1 t1 ≡ made c2 h2 f2 a2 b2 o2 t2
      same c h f a b o t = cc

  -- of the rows of a bank
  brief_some : (p : Row n → Bool) (rows : List (Row n)) → all_brief rows ≡ true → all_brief (filter p rows) ≡ true
  brief_some p [] h = refl
  brief_some p (q ∷ rows) h = by (p q) (brief_some p rows (and_second _ _ h))
    where
      by : (b : Bool) → all_brief (filter p rows) ≡ true → all_brief (cond b (q ∷ filter p rows) (filter p rows)) ≡ true
      by true k = ap (λ b. b && all_brief (filter p rows)) (and_first _ _ h) ∙ k
      by false k = k

  some_few : (p : Row n → Bool) (rows : List (Row n)) → length (filter p rows) ≤ length rows
  some_few p [] = omega arith
  some_few p (q ∷ rows) = by (p q) (some_few p rows)
    where
      by : (b : Bool) → length (filter p rows) ≤ length rows → length (cond b (q ∷ filter p rows) (filter p rows)) ≤ suc (length rows)
      by true h = omega (arith, h)
      by false h = omega (arith, h)

  pub past_brief : (bank_of : ℕ → ℕ) (bank : ℕ) (before : List (Row n)) (past : List (Numbered n)) → rows_of past ≡ of_bank bank_of bank before → all_brief before ≡ true
      → all_brief (rows_of past) ≡ true
  past_brief bank_of bank before past is h = ap all_brief is ∙ brief_some (λ r. is_of bank_of bank r.asks) before h

  pub past_few : (bank_of : ℕ → ℕ) (bank most : ℕ) (before : List (Row n)) (past : List (Numbered n)) → rows_of past ≡ of_bank bank_of bank before → length before ≤ most
      → length past ≤ most
  past_few bank_of bank most before past is h =
      let a = length-map past row_of in
      let b = ap length is in
      let c = some_few (λ r. is_of bank_of bank r.asks) before in
      omega (arith, a, b, c, h)

  -- what is told of a bank's rows, told of a whole table
  pub told_of_all : (rules : Rules) (banks : List ℕ) (tick line bank : ℕ) (before after : List (Row n)) (newest : Newest n) (past later : List (Numbered n)) (g : Grounds n)
      → bank ≡ bank_in banks line → rows_of past ≡ of_bank (bank_in banks) bank before → rows_of later ≡ of_bank (bank_in banks) bank after
      → later ≡ mates_of (bank_in banks) bank (length before + 1) after
      → AreNumbered 0 before past → newest.bytes ≡ spec.newest (reverse before) line → newest.givers ≡ givers (reverse before) line
      → IsOfBank rules tick line newest past later g → TellsRead rules banks tick line before after g
  told_of_all rules banks tick line bank before after newest past later g at p l exact numbered bytes numbers is =
      let earlier : reverse (rows_of past) ≡ beside banks line (reverse before)
      = ap reverse (p ∙ ap (λ b. of_bank (bank_in banks) b before) at) ∙ sym (filter-reverse (λ (r : Row n). is_of (bank_in banks) (bank_in banks line) r.asks) before) in
      let behind : rows_of later ≡ beside banks line after = l ∙ ap (λ b. of_bank (bank_in banks) b after) at in
      record {
        grounds =
            is.grounds ∙ ap (λ xs. grounds_on rules tick line xs (reverse (rows_of past)) (rows_of later)) bytes
            ∙ ap (λ xs. grounds_on rules tick line (spec.newest (reverse before) line) xs (rows_of later)) earlier
            ∙ ap (λ xs. grounds_on rules tick line (spec.newest (reverse before) line) (beside banks line (reverse before)) xs) behind;
        givers_are = ap (λ (w : Newest n). w.givers) is.newest_is ∙ numbers;
        stand = is.stand ∙ ap (λ xs. reverse (pending tick [] xs)) earlier;
        wait = is.wait ∙ ap (λ xs. reverse (waiting tick [] xs)) earlier;
        stand_numbers = is.stand_numbers 0 before numbered;
        wait_numbers = is.wait_numbers 0 before numbered;
        ahead_is =
            is.ahead_is
            ∙ ap (λ xs. first_at (is_ahead line (next_store tick line (xs ++ rows_of later))) g.standing.items) earlier
            ∙ ap (λ xs. first_at (is_ahead line (next_store tick line (beside banks line (reverse before) ++ xs))) g.standing.items) behind;
        delay_is =
            is.delay_is ∙ ap (λ xs. delay rules rules.policy tick xs (rows_of later)) earlier
            ∙ ap (λ xs. delay rules rules.policy tick (beside banks line (reverse before)) xs) behind;
        cut_is = is.cut_is ∙ ap (first_at is_cut) (exact ∙ ap (λ b. mates_of (bank_in banks) b (length before + 1) after) at);
      }
