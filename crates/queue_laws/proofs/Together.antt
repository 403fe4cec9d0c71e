-- All that the rows show of the queue and of the waiting reads, together.
use Rattle.std.proofs.Common.{arith, ◌≡◌, ℕ, ◌==◌, ◌&&◌, ◌||◌, not, Bool, true, false, List, [], ◌∷◌, length}
use Rattle.std.{specs.Prelude.{nat_le, filter}, proofs.lemmas.Bool.and_from}
use Rattle.masked_bytes.{specs.Masked.gives_all, proofs.Truth.{and_first, and_second}}
use Rattle.row_rules.specs.{Answers.is_full, Queueing.{pending, waiting, cover, is_refused, is_at_head, read_fits, merge_fits, queue_fits, is_queue_fair}}
use Rattle.row_rules.specs.{Rows.{RowTest, each_row, asks_read, asks_write, line_of, write_of}, declared.Asks.Asks, declared.Row.Row, declared.Rules.Rules}
use Rattle.row_rules.proofs.Passing.{passes_both}
use Rattle.right_runs.specs.Banks.{rules_of}
use Rattle.bank_laws.{specs.Outcomes.table_of, specs.RowLaws.{is_room_fair, is_wait_fair, is_merge_fair}, proofs.Merging.merge_law, proofs.Pending.queue_law}
use Rattle.bank_laws.proofs.Waiting.{wait_law}
use Rattle.queue_laws.{specs.QueueLaws.{finds_pairs_few, is_refusal_fair, is_forward_fair, QueueFairLaw}, proofs.Forwards.forward_law, proofs.Rooms.{pairs_few_law, refusal_law}}

either_way : (a b c : Bool) → (not a || b) ≡ true → (not a || c) ≡ true → (not a || (b && c)) ≡ true
either_way true b c h k = and_from b c h k
either_way false b c h k = h

module _ {n : ℕ} where
  each-weaker : (p q : RowTest n) (rows after : List (Row n)) → ((before : List (Row n)) (r : Row n) (after : List (Row n)) → p before r after ≡ true → q before r after ≡ true) → each_row p rows after ≡ true → each_row q rows after ≡ true
  each-weaker p q [] after weaker h = h
  each-weaker p q (r ∷ before) after weaker h =
      and_from (q before r after) _ (weaker before r after (and_first (p before r after) _ h)) (each-weaker p q before (r ∷ after) weaker (and_second (p before r after) _ h))

  -- a row's own answer fits, by the laws one by one
  fits : (rules : Rules) (ps ws : List (Row n)) (r : Row n) (asks : Asks n) (before after : List (Row n)) → (not (asks_write asks && is_full r.outcome) || length ps == rules.writes) ≡ true
      → (not (asks_write asks && is_full r.outcome) || is_refused r.tick ps (filter (write_of (line_of asks)) ps)) ≡ true → (not (asks_write asks) || merge_fits (line_of asks) r.outcome after) ≡ true
      → (not (asks_read asks) || read_fits rules.reads (length ws) (gives_all (cover r.tick (line_of asks) before after)) (is_at_head r.tick (line_of asks) ps before after) r.outcome) ≡ true
      → queue_fits rules ps ws r asks before after ≡ true
  fits rules ps ws r asks before after room refused merge read = grind arith

  -- the tests of a row, one by one
  abbrev all_tests : Rules → RowTest n
  all_tests rules before r after =
      (is_room_fair rules.writes before r after && is_wait_fair rules.reads before r after)
      && ((is_merge_fair before r after && finds_pairs_few before r after) && (is_refusal_fair before r after && is_forward_fair rules.reads before r after))

  fair : (rules : Rules) (before : List (Row n)) (r : Row n) (after : List (Row n)) → all_tests rules before r after ≡ true → is_queue_fair rules before r after ≡ true
  fair rules before r after h =
      let first : (is_room_fair rules.writes before r after && is_wait_fair rules.reads before r after) ≡ true = and_first (is_room_fair rules.writes before r after && is_wait_fair rules.reads before r after) _ h in
      let rest : ((is_merge_fair before r after && finds_pairs_few before r after) && (is_refusal_fair before r after && is_forward_fair rules.reads before r after)) ≡ true =
      and_second (is_room_fair rules.writes before r after && is_wait_fair rules.reads before r after) _ h in
      let second : (is_merge_fair before r after && finds_pairs_few before r after) ≡ true = and_first (is_merge_fair before r after && finds_pairs_few before r after) _ rest in
      let third : (is_refusal_fair before r after && is_forward_fair rules.reads before r after) ≡ true = and_second (is_merge_fair before r after && finds_pairs_few before r after) _ rest in
      let room : is_room_fair rules.writes before r after ≡ true = and_first (is_room_fair rules.writes before r after) _ first in
      let wait : is_wait_fair rules.reads before r after ≡ true = and_second (is_room_fair rules.writes before r after) _ first in
      and_from _ _
      (and_from (nat_le (length (pending r.tick [] before)) rules.writes) _ (and_first (nat_le (length (pending r.tick [] before)) rules.writes) _ room)
      (and_from (nat_le (length (waiting r.tick [] before)) rules.reads) _ (and_first (nat_le (length (waiting r.tick [] before)) rules.reads) _ wait)
      (and_second (is_merge_fair before r after) (finds_pairs_few before r after) second)))
      (fits rules (pending r.tick [] before) (waiting r.tick [] before) r r.asks before after (and_second (nat_le (length (pending r.tick [] before)) rules.writes) _ room) (and_first (is_refusal_fair before r after) _ third)
      (and_first (is_merge_fair before r after) _ second) (and_second (is_refusal_fair before r after) _ third))

pub queue_fair_law : QueueFairLaw
queue_fair_law n m e shape pace xs sized l idle =
    each-weaker (all_tests (rules_of e shape pace)) (is_queue_fair (rules_of e shape pace)) (table_of shape xs) [] (fair (rules_of e shape pace))
    (passes_both _ _ (table_of shape xs) [] (passes_both (is_room_fair shape.writes) (is_wait_fair shape.reads) (table_of shape xs) [] (queue_law n m e shape pace xs sized l) (wait_law n m e shape pace xs sized l idle))
    (passes_both _ _ (table_of shape xs) [] (passes_both is_merge_fair finds_pairs_few (table_of shape xs) [] (merge_law n m e shape pace xs l) (pairs_few_law n m e shape pace xs sized l idle))
    (passes_both is_refusal_fair (is_forward_fair shape.reads) (table_of shape xs) [] (refusal_law n m e shape pace xs sized l idle) (forward_law n m e shape pace xs sized l idle))))
