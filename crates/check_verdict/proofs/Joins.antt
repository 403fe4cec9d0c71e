-- What is kept of a bank, with one row more.
use Rattle.std.proofs.Common.{◌≡◌, ℕ, ◌+◌, ◌==◌, ◌&&◌, ◌||◌, Bool, true, false, List, [], ◌∷◌, ◌++◌, Option, refl, sym, ap, ◌∙◌, cond, arith}
use Rattle.std.{specs.List.list_any, specs.Prelude.{nat_lt, not, reverse, map, filter}, proofs.lemmas.Bool.and_from, proofs.lemmas.List.{reverse-append, map-append}}
use Rattle.masked_bytes.proofs.Truth.{and_first, and_second, and_true, or_false}
use Rattle.result_rows.specs.declared.Outcome.{Outcome}
use Rattle.result_rows.specs.declared.Outcome.TheVariants as out
use Rattle.row_rules.specs.{Answers.{accepts, is_stored, is_answered, is_merged, is_queued, is_lost, stored_after}, Queueing.pending}
use Rattle.row_rules.specs.{Rows.{asks_read, asks_write, asks_write_of, asks_cut, accepted, accepted_of, is_cut, line_of}, declared.Asks.Asks}
use Rattle.row_rules.specs.{declared.Asks.TheVariants.{Reads, Writes, Cuts}, declared.Row.Row}
use Rattle.check_judging.specs.{Distances.{later_of, is_far_below, wait_above, waits_above, end_to, last_end, read_to, last_read}, Lost.lost_since, Standing.is_own}
use Rattle.check_judging.{specs.Steps.stays_behind, proofs.Steps.step_law, proofs.Sublists.{cut_accepts, cut_stands}}
use Rattle.check_verdict.specs.{Joined.{stays_beside, JoinKeptLaw, CutKeptLaw}, Kept.{sight, sight_of, Shows}, declared.members.Member.Member}
use Rattle.check_verdict.proofs.Settles.{filter-map, filter-same, filter-reverse}

pub filter-all : {A : Type 0} (xs : List A) (p : A → Bool) → ((x : A) → p x ≡ true) → filter p xs ≡ xs
filter-all [] p all = refl
filter-all (x ∷ xs) p all = ap (λ b. cond b (x ∷ filter p xs) (filter p xs)) (all x) ∙ ap (λ ys. x ∷ ys) (filter-all xs p all)

module _ {n : ℕ} where
  -- where no cut is between, none is lost
  pub lost_same : (some other rows : List (Row n)) → list_any is_cut some ≡ list_any is_cut other → lost_since some rows ≡ lost_since other rows
  lost_same some other [] same = refl
  lost_same some other (q ∷ rows) same =
      ap (λ b. cond (asks_read q.asks && (is_lost q.outcome && not b)) 1 0 + lost_since (q ∷ some) rows) same
      ∙ ap (λ k. cond (asks_read q.asks && (is_lost q.outcome && not (list_any is_cut other))) 1 0 + k) (lost_same (q ∷ some) (q ∷ other) rows (ap (λ b. is_cut q || b) same))

  lost_none : (some rows : List (Row n)) → list_any is_cut some ≡ true → lost_since some rows ≡ 0
  lost_none some [] cut = refl
  lost_none some (q ∷ rows) cut =
      let k : lost_since (q ∷ some) rows ≡ 0 = lost_none (q ∷ some) rows (either (is_cut q) cut) in
      ap (λ b. cond (asks_read q.asks && (is_lost q.outcome && not b)) 1 0 + lost_since (q ∷ some) rows) cut ∙ by (asks_read q.asks) (is_lost q.outcome) k
    where
      either : (a : Bool) → list_any is_cut some ≡ true → (a || list_any is_cut some) ≡ true
      either true h = refl
      either false h = h

      by : (a b : Bool) → lost_since (q ∷ some) rows ≡ 0 → (cond (a && (b && false)) 1 0 + lost_since (q ∷ some) rows) ≡ 0
      by true true k = omega (arith, k)
      by true false k = omega (arith, k)
      by false b k = omega (arith, k)

  -- the newest member shows the newest row
  show_more : (members : List Member) (m : Member) (r : Row n) (rows : List (Row n)) → Shows members rows → sight m ≡ sight_of r → Shows (members ++ m ∷ []) (r ∷ rows)
  show_more members m r rows shows is =
      map-append sight members (m ∷ []) ∙ ap (λ ss. ss ++ sight m ∷ []) shows ∙ ap (λ s. reverse (map sight_of rows) ++ s ∷ []) is
      ∙ sym (reverse-append (sight_of r ∷ []) (map sight_of rows))

  -- an accepted write is of its line
  of_line : (r : Row n) → accepted r ≡ true → (line : ℕ) → accepted_of line r ≡ (line_of r.asks == line)
  of_line r is line = by r.asks is
    where
      by : (asks : Asks n) → (asks_write asks && accepts r.outcome) ≡ true → (asks_write_of line asks && accepts r.outcome) ≡ (line_of asks == line)
      by (Reads at) k = absurd (cc)
      by (Writes at bytes given) k = ap (λ b. (at == line) && b) k ∙ and_true (at == line)
      by Cuts k = absurd (cc)

  show_beside : (r : Row n) → accepted r ≡ true → (members : List Member) (rows : List (Row n)) → Shows members rows
      → Shows (filter (stays_beside (line_of r.asks)) members) (filter (stays_behind r) rows)
  show_beside r is members rows shows =
      filter-map (λ s. not (s.merged && (line_of r.asks == s.line))) sight members
      ∙ ap (filter (λ s. not (s.merged && (line_of r.asks == s.line)))) shows
      ∙ filter-reverse (λ s. not (s.merged && (line_of r.asks == s.line))) (map sight_of rows)
      ∙ ap reverse (sym (filter-map (λ s. not (s.merged && (line_of r.asks == s.line))) sight_of rows))
      ∙ ap (λ qs. reverse (map sight_of qs))
      (sym (filter-same (stays_behind r) (λ q. not (is_merged q.outcome && (line_of r.asks == line_of q.asks)))
      (λ q. ap (λ b. not (is_merged q.outcome && b)) (of_line r is (line_of q.asks))) rows))

  -- a write's outcome adds nothing to reads
  pub no_wait : (t : ℕ) (o : Outcome n) (waits : List ℕ) → is_answered o ≡ false → wait_above t o waits ≡ waits
  no_wait t (out.Read u place bytes) waits h = absurd (cc)
  no_wait t _ waits h = refl

  pub no_answer : (o : Outcome n) (last : Option ℕ) → is_answered o ≡ false → read_to o last ≡ last
  no_answer (out.Read u place bytes) last h = absurd (cc)
  no_answer _ last h = refl

  accepts_unanswered : (o : Outcome n) → accepts o ≡ true → is_answered o ≡ false
  accepts_unanswered (out.Stored u place) h = refl
  accepts_unanswered (out.Merged u) h = refl
  accepts_unanswered (out.Queued u) h = refl
  accepts_unanswered _ h = absurd (cc)

  -- what stands isn't stored yet
  not_yet : (t : ℕ) (m : Bool) (o : Outcome n) (last : Option ℕ) → accepts o ≡ true → (stored_after t o || (is_queued o || (is_merged o && m))) ≡ true → end_to t o last ≡ last
  not_yet t m (out.Stored u place) last a h = ap (λ b. cond b last (later_of u last)) (sym (or_false (nat_lt t u)) ∙ h)
  not_yet t m _ last a h = refl

  writes_only : (asks : Asks n) → asks_write asks ≡ true → (asks_read asks ≡ false) × (asks_cut asks ≡ false)
  writes_only (Reads line) h = absurd (cc)
  writes_only (Writes line bytes given) h = (refl, refl)
  writes_only Cuts h = absurd (cc)

pub not_both : (a : Bool) → not (a && false) ≡ true
not_both true = refl
not_both false = refl

no_read : {n : ℕ} (asks : Asks n) → asks_cut asks ≡ true → asks_read asks ≡ false
no_read (Reads line) h = absurd (cc)
no_read (Writes line bytes given) h = absurd (cc)
no_read Cuts h = refl

own_cut : {n at : ℕ} (asks : Asks n) (o : Outcome n) → o ≡ out.Cut at → ((not (is_stored o) || asks_write asks) && (not (is_answered o) || asks_read asks)) ≡ true
own_cut asks o is = ap (λ p. (not (is_stored p) || asks_write asks) && (not (is_answered p) || asks_read asks)) is

pub join_kept_law : JoinKeptLaw
join_kept_law n t r rows members waits lost last_answer last_store m kept own is stood shown =
    let write = and_first (asks_write r.asks) (accepts r.outcome) is in
    let ok = and_second (asks_write r.asks) (accepts r.outcome) is in
    let only = writes_only r.asks write in
    let quiet = accepts_unanswered r.outcome ok in
    record {
      own = and_from (is_own r) _ own kept.own;
      writes =
          show_more (filter (stays_beside (line_of r.asks)) members) m r (filter (stays_behind r) (pending t [] rows)) (show_beside r is members (pending t [] rows) kept.writes) shown
          ∙ ap (λ qs. reverse (map sight_of qs))
          (sym ((step_law n t r rows).writes ∙ ap (λ b. cond b (r ∷ filter (stays_behind r) (pending t [] rows)) (filter (stays_behind r) (pending t [] rows))) stood));
      to_come = kept.to_come ∙ ap reverse (sym (no_wait t r.outcome (waits_above t rows) quiet));
      losing =
          kept.losing
          ∙ sym (ap (λ b. cond (b && (is_lost r.outcome && true)) 1 0 + lost_since (r ∷ []) rows) only.0
          ∙ (let k : lost_since (r ∷ []) rows ≡ lost_since [] rows = lost_same (r ∷ []) [] rows (ap (λ b. b || false) only.1) in omega (arith, k)));
      answered = λ read u. kept.answered read u ∙ ap (is_far_below read u) (sym (no_answer r.outcome (last_read rows) quiet));
      stored = λ read u. kept.stored read u ∙ ap (is_far_below read u) (sym (not_yet t true r.outcome (last_end t rows) ok (and_second (accepted r) _ stood)));
    }

pub cut_kept_law : CutKeptLaw
cut_kept_law n t r rows members waits lost at last_answer last_store kept cut is =
    let free : (line : ℕ) → accepted_of line r ≡ false = λ line. cut_accepts line r cut in
    record {
      own = and_from (is_own r) _ (own_cut r.asks r.outcome is) kept.own;
      writes =
          kept.writes
          ∙ ap (λ qs. reverse (map sight_of qs))
          (sym ((step_law n t r rows).writes
          ∙ ap (λ b. cond b (r ∷ filter (stays_behind r) (pending t [] rows)) (filter (stays_behind r) (pending t [] rows))) (cut_stands t r cut)
          ∙ filter-all (pending t [] rows) (stays_behind r) (λ q. ap (λ b. not (is_merged q.outcome && b)) (free (line_of q.asks)) ∙ not_both (is_merged q.outcome))));
      to_come = kept.to_come ∙ ap reverse (sym (ap (λ o. wait_above t o (waits_above t rows)) is));
      losing =
          let k : lost_since (r ∷ []) rows ≡ 0 = lost_none (r ∷ []) rows (ap (λ b. b || false) cut) in
          let j : cond (asks_read r.asks && (is_lost r.outcome && true)) 1 0 + lost_since (r ∷ []) rows ≡ 0 + lost_since (r ∷ []) rows =
          ap (λ b. cond (b && (is_lost r.outcome && true)) 1 0 + lost_since (r ∷ []) rows) (no_read r.asks cut) in
          sym (j ∙ omega (arith, k));
      answered = λ read u. kept.answered read u ∙ ap (λ o. is_far_below read u (read_to o (last_read rows))) (sym is);
      stored = λ read u. kept.stored read u ∙ ap (λ o. is_far_below read u (end_to t o (last_end t rows))) (sym is);
    }
