-- The rule on the queue, by what is kept of a bank.
use Rattle.std.proofs.Common.{◌≡◌, ℕ, ◌+◌, ◌<◌, ◌==◌, ◌&&◌, ◌||◌, Bool, true, false, List, [], ◌∷◌, ◌++◌, Some, length, refl, sym, ap, ◌∙◌, cond, arith}
use Rattle.std.{specs.List.{list_all, list_any}, specs.Prelude.{nat_lt, not, reverse, filter}, proofs.lemmas.Bool.{ltb-true, ne_eqb}}
use Rattle.masked_bytes.{specs.Masked.gives_all, proofs.Truth.{and_first, and_second, or_false}}
use Rattle.result_rows.specs.declared.Outcome.{Outcome}
use Rattle.result_rows.specs.declared.Outcome.TheVariants as out
use Rattle.row_rules.specs.Answers.{accepts, is_full, is_merged, is_queued, stored_after}
use Rattle.row_rules.specs.Queueing.{stands, pending, cover, merges_at, merge_fits, next_store, is_first, is_refused, read_fits}
use Rattle.row_rules.specs.{Rows.{asks_write, accepted, accepted_of, write_of, line_of}, declared.Row.Row}
use Rattle.check_judging.{specs.Counting.line_stores, specs.Distances.ends_behind, specs.Heads.end_of, specs.Keys.reach, specs.Standing.at_end, proofs.Counts.first_by_count_law}
use Rattle.check_verdict.specs.{Fitting.{comes_at, is_of, stores_between, at_head_kept, merge_kept, refused_kept, is_brief, all_brief}, Kept.Shows, Members.never}
use Rattle.check_verdict.{specs.QueueLaws.{next_accepted, KeysTell, RoomKeptLaw, WriteFitsLaw, ReadFitsLaw}, specs.declared.members.Member.Member, proofs.Apart.shown}
use Rattle.check_verdict.proofs.Fits.{all-where, any-where, any-reverse, flat_any, turned, stands_accepted, stands_all, write_of_line, refusal_shown, room_shown}
use Rattle.check_verdict.proofs.Numbers.{numbers_law}

pub room_kept_law : RoomKeptLaw
room_kept_law n t rules rows members waits lost last_answer last_store found near = room_shown rules t rows members waits lost last_answer last_store found.kept found.brief near

module _ {n : ℕ} where
  -- the first accepted write of the line
  merges : (line tick : ℕ) (rows : List (Row n)) → merges_at line tick rows ≡ comes_at tick (next_accepted line rows)
  merges line tick [] = refl
  merges line tick (q ∷ rows) = by (accepted_of line q) (merges line tick rows)
    where
      by : (b : Bool) → merges_at line tick rows ≡ comes_at tick (next_accepted line rows)
          → cond b (q.tick == tick) (merges_at line tick rows) ≡ comes_at tick (cond b (Some q.tick) (next_accepted line rows))
      by true ih = refl
      by false ih = ih

  merging : (line : ℕ) (o : Outcome n) (after : List (Row n)) → merge_fits line o after ≡ merge_kept (next_accepted line after) o
  merging line (out.Merged v) after = merges line v after
  merging line _ after = refl

  -- what stands at a tick is stored above it, if at all
  stood : (t : ℕ) (w m : Bool) (o : Outcome n) → ((w && accepts o) && (stored_after t o || (is_queued o || (is_merged o && m)))) ≡ true → ends_behind t o ≡ true
  stood t w m (out.Stored v place) h = sym (or_false (nat_lt t v)) ∙ and_second (w && true) _ h
  stood t w m (out.Read v place bytes) h = let k : false ≡ true = and_second w false (and_first (w && false) _ h) in absurd (cc)
  stood t w m _ h = refl

  stands_above : (t : ℕ) (between rows : List (Row n)) → list_all (λ q. ends_behind t q.outcome) (pending t between rows) ≡ true
  stands_above t between [] = refl
  stands_above t between (q ∷ rows) = by (stands t between q) (λ h. stood t (asks_write q.asks) (not (list_any (accepted_of (line_of q.asks)) between)) q.outcome h) (stands_above t (q ∷ between) rows)
    where
      by : (b : Bool) → (b ≡ true → ends_behind t q.outcome ≡ true) → list_all (λ q. ends_behind t q.outcome) (pending t (q ∷ between) rows) ≡ true
          → list_all (λ q. ends_behind t q.outcome) (cond b (q ∷ pending t (q ∷ between) rows) (pending t (q ∷ between) rows)) ≡ true
      by true f ih = ap (λ c. c && list_all (λ q. ends_behind t q.outcome) (pending t (q ∷ between) rows)) (f refl) ∙ ih
      by false f ih = ih

  -- what is known of each row that stands
  abbrev Known : ℕ → Row n → Bool
  Known t q = accepted q && (is_brief q.outcome && ends_behind t q.outcome)

  known : (t : ℕ) (rows : List (Row n)) → list_all accepted rows ≡ true → all_brief rows ≡ true → list_all (λ q. ends_behind t q.outcome) rows ≡ true → list_all (Known t) rows ≡ true
  known t [] a b c = refl
  known t (q ∷ rows) a b c =
      ap (λ x. (x && (is_brief q.outcome && ends_behind t q.outcome)) && list_all (Known t) rows) (and_first (accepted q) _ a)
      ∙ ap (λ x. (x && ends_behind t q.outcome) && list_all (Known t) rows) (and_first (is_brief q.outcome) _ b)
      ∙ ap (λ x. x && list_all (Known t) rows) (and_first (ends_behind t q.outcome) _ c)
      ∙ known t rows (and_second (accepted q) _ a) (and_second (is_brief q.outcome) _ b) (and_second (ends_behind t q.outcome) _ c)

  module _ (keys : List ℕ) (line t : ℕ) (rows : List (Row n)) (tell : KeysTell keys line t rows) where
    told : (o : Outcome n) → is_brief o ≡ true → ends_behind t o ≡ true
        → at_end (λ e. nat_lt 0 (line_stores line t e rows)) o ≡ ((end_of never o == never) || stores_between keys line t (end_of never o))
    told (out.Stored v place) b c =
        let k : v < reach = ltb-true v reach b in
        let l : t < v = ltb-true t v c in
        sym (tell v (omega (arith, l)) k) ∙ ap (λ x. x || stores_between keys line t v) (sym (ne_eqb v never (λ e. omega (arith, e, k))))
    told _ b c = refl

    behind : (q : Row n) → Known t q ≡ true
        → (write_of line q || at_end (λ e. nat_lt 0 (line_stores line t e rows)) q.outcome)
        ≡ ((line_of q.asks == line) || ((end_of never q.outcome == never) || stores_between keys line t (end_of never q.outcome)))
    behind q w =
        let rest = and_second (accepted q) _ w in
        ap (λ b. b || at_end (λ e. nat_lt 0 (line_stores line t e rows)) q.outcome) (write_of_line line q (and_first (accepted q) _ w))
        ∙ ap (λ b. (line_of q.asks == line) || b) (told q.outcome (and_first (is_brief q.outcome) _ rest) (and_second (is_brief q.outcome) _ rest))

    head_shown : (members : List Member) (ps : List (Row n)) → Shows members ps → list_all (Known t) ps ≡ true
        → (list_any (write_of line) ps && is_first line (next_store t line rows) ps) ≡ at_head_kept keys line t members
    head_shown members ps shows all =
        ap (λ b. b && is_first line (next_store t line rows) ps)
        (any-where (Known t) (write_of line) (λ q. line_of q.asks == line) (λ q w. write_of_line line q (and_first (accepted q) _ w)) ps all
        ∙ flat_any (λ s. s.line == line) (λ q. line_of q.asks == line) (reverse members) ps (λ q. refl) (turned members ps shows)
        ∙ any-reverse (is_of line) members)
        ∙ ap (λ b. list_any (is_of line) members && b)
        (first_by_count_law n t line rows ps
        ∙ all-where (Known t) (λ q. write_of line q || at_end (λ e. nat_lt 0 (line_stores line t e rows)) q.outcome)
        (λ q. (line_of q.asks == line) || ((end_of never q.outcome == never) || stores_between keys line t (end_of never q.outcome))) behind ps all
        ∙ shown (λ s. (s.line == line) || ((s.end == never) || stores_between keys line t s.end))
        (λ q. (line_of q.asks == line) || ((end_of never q.outcome == never) || stores_between keys line t (end_of never q.outcome))) members ps (λ q. refl) shows)

pub write_fits_law : WriteFitsLaw
write_fits_law n line bytes given rules before r after members waits lost last_answer last_store found =
    let numbers = numbers_law n r.tick before members waits lost last_answer last_store found.kept in
    ap (λ k. (not (is_full r.outcome) || ((k == rules.writes) && is_refused r.tick (pending r.tick [] before) (filter (write_of line) (pending r.tick [] before)))) && merge_fits line r.outcome after) numbers.writes
    ∙ ap (λ b. (not (is_full r.outcome) || ((length members == rules.writes) && b)) && merge_fits line r.outcome after)
    (refusal_shown r.tick line members (pending r.tick [] before) found.kept.writes (stands_accepted r.tick [] before) (stands_all (λ q. is_brief q.outcome) r.tick [] before found.brief))
    ∙ ap (λ b. (not (is_full r.outcome) || ((length members == rules.writes) && refused_kept r.tick line members)) && b) (merging line r.outcome after)

pub read_fits_law : ReadFitsLaw
read_fits_law n line rules before r after members waits keys lost last_answer last_store found tell =
    let numbers = numbers_law n r.tick before members waits lost last_answer last_store found.kept in
    ap (λ k. read_fits rules.reads k (gives_all (cover r.tick line before after)) (list_any (write_of line) (pending r.tick [] before) && is_first line (next_store r.tick line (before ++ after)) (pending r.tick [] before)) r.outcome) numbers.reads
    ∙ ap (λ b. read_fits rules.reads (length waits + lost) (gives_all (cover r.tick line before after)) b r.outcome)
    (head_shown keys line r.tick (before ++ after) tell members (pending r.tick [] before) found.kept.writes
    (known r.tick (pending r.tick [] before) (stands_accepted r.tick [] before) (stands_all (λ q. is_brief q.outcome) r.tick [] before found.brief) (stands_above r.tick [] before)))
