-- What is told of a row is what it finds.
use Rattle.std.proofs.Common.{◌≡◌, ℕ, suc, ◌-◌, ◌==◌, ◌≤◌, Bool, true, List, [], ◌∷◌, Option, Some, None, length, refl, sym, ap, ◌∙◌, subst, arith}
use Rattle.std.specs.{List.list_any, Prelude.{drop, filter, nat_lt, reverse, slice_get, take}}
use Rattle.result_rows.specs.declared.Outcome.{Outcome}
use Rattle.result_rows.specs.declared.Outcome.TheVariants as out
use Rattle.row_rules.specs.{Queueing.{pending, is_refused}, Rows.write_of, Table.{is_of, of_bank}, Wearing.worn_row, declared.Asks.Asks}
use Rattle.row_rules.specs.{declared.Asks.TheVariants.{Reads, Writes, Cuts}, declared.Row.Row, declared.Rules.Rules}
use Rattle.check_verdict.specs.{Judged.{a_cut, a_read, a_row, a_write, beside}, Verdicts.{bank_in, verdict_of}, declared.Rule.Rule, declared.Verdict.TheVariants.No}
use Rattle.check_verdict.proofs.{Fits.any-reverse, Settles.filter-reverse}
use Rattle.check_telling.specs.{Clauses.{holds, latest}, Grounds.{TellsRead, grounds_of}, Right.RightReadLaw, RightWrites.{RightCutLaw, RightWriteLaw}}
use Rattle.check_telling.specs.{Standing.{first_at, mates_of}, WriteGrounds.TellsWrite, declared.Clause.Clause, declared.facts.RowAt.RowAt, declared.facts.StoreCounts.StoreCounts}
use Rattle.check_telling.specs.{declared.grounds.Grounds.Grounds, declared.writes.WriteGrounds.WriteGrounds}
use Rattle.check_telling.specs.declared.Clause.TheVariants as clause
use Rattle.clause_telling.specs.{ByFinds.{read_clause, write_clause}, Counts.TellsCounts, Others.is_near, Rooms.{TellsRoom, is_room}, declared.room.Crowd.Crowd}
use Rattle.clause_telling.proofs.{ReadClauses.{read_clause_law, cut_clause_law}, Rooms.room_law, WriteClauses.write_clause_law}
use Rattle.verdict_telling.specs.Explained.{AreRight, Explains, MayTell, TellsAsked, TellsOf, TellsOne, TellsRow, IsWriteOf, IsOfCut, is_some_row, late_of, stale_of}
use Rattle.verdict_telling.{specs.Offers.lines_of, specs.declared.row.Explanation.Explanation, specs.declared.row.Finds.Finds, proofs.Banks.{rising_of_bank, rows_are, worn_is}}
use Rattle.verdict_telling.proofs.{Rightly.{cut_right, read_right, write_right}, Tables.{behind, same_one, there}}
use Rattle.verdict_telling.specs.declared.row.Finds.TheVariants as finds

module _ {n : ℕ} (rules : Rules) (banks : List ℕ) (before after : List (Row n)) (row : ℕ) (rule : Rule) where
  -- whether a row finds room
  room_found : (one : Row n) (crowd : Option (Crowd n)) → MayTell rules banks before one after rule → TellsRoom rules banks one.tick (reverse before) crowd
      → holds rules banks clause.Room (reverse before) one after ≡ is_room crowd
  room_found one crowd may told = room_law n rules banks (reverse before) one after crowd may.had may.own told

  of_read : RightReadLaw → (tick line : ℕ) (o : Outcome n) (c : Clause) (crowd : Option (Crowd n)) (room : Bool) (g : Grounds n) (near stale : Option RowAt)
      → MayTell rules banks before (a_read tick line o) after rule → TellsRoom rules banks tick (reverse before) crowd → room ≡ is_room crowd
      → TellsRead rules banks tick line before after g → c ≡ read_clause rules tick (grounds_of g) room o rule
      → near ≡ first_at (is_near rules.read_ticks o) (mates_of (bank_in banks) (bank_in banks line) 0 before) → stale ≡ stale_of line o (reverse before)
      → TellsOne rules banks before (a_read tick line o) after row rule
      (record { row = row; rule = rule; clause = c; crowd = crowd; finds = finds.Read g; near = near; counts = None; stale = stale })
  of_read law tick line o c crowd room g near stale may told free tells is near_is stale_is =
      let one : Row n = a_read tick line o in (
        refl,
        (
          refl,
          record {
            clause_is =
                read_clause_law n tick line o rules banks rule (reverse before) after (rising_of_bank (bank_in banks) (bank_in banks line) tick after may.rises) may.breaks
                ∙ ap (λ w. Some (read_clause rules tick w (holds rules banks clause.Room (reverse before) one after) o rule)) (sym tells.grounds)
                ∙ ap (λ b. Some (read_clause rules tick (grounds_of g) b o rule)) (room_found one crowd may told ∙ sym free) ∙ ap Some (sym is);
            crowd_is = told;
            finds_are = tells;
            near_is = near_is;
            counts_are = refl;
            stale_is = stale_is;
            right = read_right rules banks before after tick o rule law line g crowd may told tells;
          },
        ),
      )

  pub read_tells : RightReadLaw → (one : Row n) (line : ℕ) (c : Clause) (crowd : Option (Crowd n)) (room : Bool) (g : Grounds n) (near stale : Option RowAt) → one.asks ≡ Reads line
      → MayTell rules banks before one after rule → TellsRoom rules banks one.tick (reverse before) crowd → room ≡ is_room crowd
      → TellsRead rules banks one.tick line before after g → c ≡ read_clause rules one.tick (grounds_of g) room one.outcome rule
      → near ≡ first_at (is_near rules.read_ticks one.outcome) (mates_of (bank_in banks) (bank_in banks line) 0 before) → stale ≡ stale_of line one.outcome (reverse before)
      → TellsOne rules banks before one after row rule
      (record { row = row; rule = rule; clause = c; crowd = crowd; finds = finds.Read g; near = near; counts = None; stale = stale })
  read_tells law one line c crowd room g near stale asks may told free tells is near_is stale_is =
      let same : one ≡ a_read one.tick line one.outcome = ap (λ a. a_row one.tick a one.outcome) asks in
      subst (λ (q : Row n). TellsOne rules banks before q after row rule (record { row = row; rule = rule; clause = c; crowd = crowd; finds = finds.Read g; near = near; counts = None; stale = stale }))
      (sym same)
      (of_read law one.tick line one.outcome c crowd room g near stale (subst (λ (q : Row n). MayTell rules banks before q after rule) same may) told free tells is near_is stale_is)

  late_is : (tick line : ℕ) (bytes : List ℕ) (given : List Bool) (o : Outcome n) (counts : Option StoreCounts) → TellsCounts rules banks tick line (reverse before) after o counts
      → (u place : ℕ) → o ≡ out.Stored u place → nat_lt tick u ≡ true
      → late_of counts ≡ latest rules u (a_write tick line bytes given o) (beside banks line (reverse before)) (beside banks line after)
  late_is tick line bytes given o None told u place is lt = absurd (told u place is lt)
  late_is tick line bytes given o (Some k) told u place is lt = (told u place bytes given is).latest_is

  of_write : RightWriteLaw → (tick line : ℕ) (bytes : List ℕ) (given : List Bool) (o : Outcome n) (c : Clause) (crowd : Option (Crowd n)) (room worn : Bool) (late : ℕ) (g : WriteGrounds n)
      (near : Option RowAt) (counts : Option StoreCounts)
      → MayTell rules banks before (a_write tick line bytes given o) after rule → TellsRoom rules banks tick (reverse before) crowd → room ≡ is_room crowd
      → TellsWrite rules banks tick line before after g → worn ≡ is_some_row g.worn_before → late ≡ late_of counts → TellsCounts rules banks tick line (reverse before) after o counts
      → c ≡ write_clause tick room g.full g.alone worn late o rule
      → near ≡ first_at (is_near rules.read_ticks o) (mates_of (bank_in banks) (bank_in banks line) 0 before)
      → TellsOne rules banks before (a_write tick line bytes given o) after row rule
      (record { row = row; rule = rule; clause = c; crowd = crowd; finds = finds.Write g; near = near; counts = counts; stale = None })
  of_write law tick line bytes given o c crowd room worn late g near counts may told free tells w l k is near_is =
      let one : Row n = a_write tick line bytes given o in
      let past = beside banks line (reverse before) in
      let ps = pending tick [] past in
      let alone = is_refused tick ps (filter (write_of line) ps) in
      let any : list_any worn_row past ≡ worn
      = ap (list_any worn_row) (filter-reverse (λ (r : Row n). is_of (bank_in banks) (bank_in banks line) r.asks) before)
      ∙ any-reverse worn_row (of_bank (bank_in banks) (bank_in banks line) before)
      ∙ ap (list_any worn_row) (sym (rows_are (bank_in banks) (bank_in banks line) 0 before)) ∙ sym (worn_is (mates_of (bank_in banks) (bank_in banks line) 0 before))
      ∙ sym (w ∙ ap is_some_row tells.before_is) in (
        refl,
        (
          refl,
          record {
            clause_is =
                write_clause_law n tick line bytes given o late rules banks rule (reverse before) after (λ u place e lt. l ∙ late_is tick line bytes given o counts k u place e lt) may.breaks
                ∙ ap (λ b. Some (write_clause tick b (length ps == rules.writes) alone (list_any worn_row past) late o rule)) (room_found one crowd may told ∙ sym free)
                ∙ ap (λ b. Some (write_clause tick room b alone (list_any worn_row past) late o rule)) (sym tells.finds.full_is)
                ∙ ap (λ b. Some (write_clause tick room g.full b (list_any worn_row past) late o rule)) (sym tells.finds.alone_is)
                ∙ ap (λ b. Some (write_clause tick room g.full g.alone b late o rule)) any ∙ ap Some (sym is);
            crowd_is = told;
            finds_are = tells;
            near_is = near_is;
            counts_are = k;
            stale_is = refl;
            right = write_right rules banks before after tick o rule law line bytes given g crowd may told tells;
          },
        ),
      )

  pub write_tells : RightWriteLaw → (one : Row n) (line : ℕ) (c : Clause) (crowd : Option (Crowd n)) (room worn : Bool) (late : ℕ) (g : WriteGrounds n) (near : Option RowAt) (counts : Option StoreCounts)
      → IsWriteOf line one.asks
      → MayTell rules banks before one after rule → TellsRoom rules banks one.tick (reverse before) crowd → room ≡ is_room crowd
      → TellsWrite rules banks one.tick line before after g → worn ≡ is_some_row g.worn_before → late ≡ late_of counts
      → TellsCounts rules banks one.tick line (reverse before) after one.outcome counts → c ≡ write_clause one.tick room g.full g.alone worn late one.outcome rule
      → near ≡ first_at (is_near rules.read_ticks one.outcome) (mates_of (bank_in banks) (bank_in banks line) 0 before)
      → TellsOne rules banks before one after row rule
      (record { row = row; rule = rule; clause = c; crowd = crowd; finds = finds.Write g; near = near; counts = counts; stale = None })
  write_tells law one line c crowd room worn late g near counts of may told free tells w l k is near_is =
      by one.asks of may
    where
      told_as : Explanation n
      told_as = record { row = row; rule = rule; clause = c; crowd = crowd; finds = finds.Write g; near = near; counts = counts; stale = None }

      by : (asks : Asks n) → IsWriteOf line asks → MayTell rules banks before (a_row one.tick asks one.outcome) after rule
          → TellsOne rules banks before (a_row one.tick asks one.outcome) after row rule told_as
      by (Reads at) of m = absurd of
      by Cuts of m = absurd of
      by (Writes at bytes given) of m =
          subst (λ j. TellsOne rules banks before (a_write one.tick j bytes given one.outcome) after row rule told_as) of
          (of_write law one.tick line bytes given one.outcome c crowd room worn late g near counts
          (subst (λ j. MayTell rules banks before (a_write one.tick j bytes given one.outcome) after rule) (sym of) m) told free tells w l k is near_is)

  of_cut : RightCutLaw → (tick : ℕ) (o : Outcome n) (crowd : Option (Crowd n)) (e : Explanation n) → MayTell rules banks before (a_cut tick o) after rule
      → TellsRoom rules banks tick (reverse before) crowd → IsOfCut (a_cut tick o) row rule crowd e → TellsOne rules banks before (a_cut tick o) after row rule e
  of_cut law tick o crowd e may told is = (
    is.row_is,
    (
      is.rule_is,
      record {
        clause_is = cut_clause_law n tick o rules banks rule (reverse before) after may.breaks ∙ ap Some (sym is.clause_is);
        crowd_is = subst (TellsRoom rules banks tick (reverse before)) (sym is.crowd_is) told;
        finds_are = subst (λ (f : Finds n). cut_finds f) (sym is.finds_are) tt;
        near_is = is.near_is;
        counts_are = is.counts_are;
        stale_is = is.stale_is;
        right =
            subst (λ (f : Finds n). AreRight rules banks before (a_cut tick o) after (lines_of rules tick f e.crowd)) (sym is.finds_are)
            (subst (λ c. AreRight rules banks before (a_cut tick o) after (lines_of rules tick finds.Cut c)) (sym is.crowd_is) (cut_right rules banks before after tick o rule law crowd may told));
      },
    ),
  )
    where
      cut_finds : Finds n → Type 0
      cut_finds f = TellsAsked rules banks before after tick Cuts f

  pub cut_tells : RightCutLaw → (one : Row n) (crowd : Option (Crowd n)) (e : Explanation n) → one.asks ≡ Cuts → MayTell rules banks before one after rule
      → TellsRoom rules banks one.tick (reverse before) crowd → IsOfCut one row rule crowd e → TellsOne rules banks before one after row rule e
  cut_tells law one crowd e asks may told is =
      let same : one ≡ a_cut one.tick one.outcome = ap (λ a. a_row one.tick a one.outcome) asks in
      subst (λ (q : Row n). TellsOne rules banks before q after row rule e) (sym same)
      (of_cut law one.tick one.outcome crowd e (subst (λ (q : Row n). MayTell rules banks before q after rule) same may) told (subst (λ (q : Row n). IsOfCut q row rule crowd e) same is))

module _ {n : ℕ} (rules : Rules) (banks : List ℕ) (rows : List (Row n)) where
  -- what is told of a row between others is told of the one at its number
  pub tells_of : (row : ℕ) (rule : Rule) (before : List (Row n)) (one : Row n) (after : List (Row n)) (e : Explanation n) → 1 ≤ row → before ≡ take (row - 1) rows
      → drop (row - 1) rows ≡ one ∷ after → TellsOne rules banks before one after row rule e → TellsOf rules banks rows row rule e
  tells_of row rule before one after e some front here is =
      let next : suc (row - 1) ≡ row = omega (arith, some) in
      let rest : after ≡ drop row rows = sym (behind rows (row - 1) one after here) ∙ ap (λ k. drop k rows) next in (
        is.0,
        (
          is.1.0,
          λ q at.
              subst (λ (p : Row n). TellsRow rules banks (take (row - 1) rows) p (drop row rows) rule e) (same_one q one (sym at ∙ there rows (row - 1) one after here))
              (subst (λ xs. TellsRow rules banks xs one (drop row rows) rule e) front (subst (λ xs. TellsRow rules banks before one xs rule e) rest is.1.1)),
        ),
      )

  pub explains_it : (row : ℕ) (rule : Rule) (e : Explanation n) → verdict_of rules banks rows ≡ No row rule → TellsOf rules banks rows row rule e → Explains rules banks rows (Some e)
  explains_it row rule e is told = (
    is ∙ ap (λ k. No k rule) (sym told.0) ∙ ap (No e.row) (sym told.1.0),
    (
      refl,
      (
        refl,
        λ q at.
            subst (λ x. TellsRow rules banks (take (e.row - 1) rows) q (drop e.row rows) x e) (sym told.1.0)
            (subst (λ k. TellsRow rules banks (take (k - 1) rows) q (drop k rows) rule e) (sym told.0) (told.1.1 q (ap (λ k. slice_get rows (k - 1)) (sym told.0) ∙ at))),
      ),
    ),
  )
