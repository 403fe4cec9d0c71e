-- Rows that are apart stay so.
use Rattle.std.proofs.Common.{◌≡◌, ℕ, ◌+◌, ◌<◌, ◌≤◌, ◌==◌, ◌||◌, nat_lt, Bool, true, false, List, [], ◌∷◌, ◌++◌, length, map, drop, Option, Some, None, refl, sym, ap, subst, ◌∙◌, arith}
use Rattle.std.proofs.lemmas.List.{map_push, drop-map}
use Rattle.masked_bytes.specs.{Entries.{candidate_index, completed, merged, row_at}, declared.entry.Entry.Entry}
use Rattle.masked_bytes.proofs.Queueing.{newest_index-within, candidate_index-newest, merged-row_at}
use Rattle.protected_queue.specs.Queue.{accepted, accepted_by}
use Rattle.bank_model.specs.History.{Awaited}
use Rattle.bank_laws.specs.Standing.{has_wait, WaitsApart, AreRowsApart}
use Rattle.bank_laws.proofs.Standing as rows
use Rattle.bank_shape.specs.declared.waiting.Waiting.{Waiting}
use Rattle.clock_laws.specs.Standing.{has_waiting, WaitingApart, AreApart, StayApartLaw}

-- a read that waits, as a history tells it
abbrev awaiting_of : {n : ℕ} → Waiting n → Awaited
awaiting_of w = record { row = w.row; line = w.line; newest = []; kept = w.kept; given = w.given }

module _ {n : ℕ} where
  same_wait : (ws : List (Waiting n)) (row : ℕ) → has_wait (map awaiting_of ws) row ≡ has_waiting ws row
  same_wait [] row = refl
  same_wait (w ∷ ws) row = ap (λ b. (w.row == row) || b) (same_wait ws row)

  waits_to : (ws : List (Waiting n)) → WaitingApart ws → WaitsApart (map awaiting_of ws)
  waits_to [] apart = tt
  waits_to (w ∷ ws) apart = (same_wait ws w.row ∙ apart.0, waits_to ws apart.1)

  waits_from : (ws : List (Waiting n)) → WaitsApart (map awaiting_of ws) → WaitingApart ws
  waits_from [] apart = tt
  waits_from (w ∷ ws) apart = (sym (same_wait ws w.row) ∙ apart.0, waits_from ws apart.1)

  rows_to : (es : List (Entry n)) (ws : List (Waiting n)) (next : ℕ) → AreApart es ws next → AreRowsApart es (map awaiting_of ws) next
  rows_to es ws next apart = record {
    queued_below = apart.queued_below;
    waiting_below = λ row below. same_wait ws row ∙ apart.waiting_below row below;
    queued_apart = apart.queued_apart;
    waiting_apart = waits_to ws apart.waiting_apart;
    one_place = λ row there. same_wait ws row ∙ apart.one_place row there;
  }

  rows_from : (es : List (Entry n)) (ws : List (Waiting n)) (next : ℕ) → AreRowsApart es (map awaiting_of ws) next → AreApart es ws next
  rows_from es ws next apart = record {
    queued_below = apart.queued_below;
    waiting_below = λ row below. sym (same_wait ws row) ∙ apart.waiting_below row below;
    queued_apart = apart.queued_apart;
    waiting_apart = waits_from ws apart.waiting_apart;
    one_place = λ row there. sym (same_wait ws row) ∙ apart.one_place row there;
  }

  rises : (es : List (Entry n)) (ws : List (Waiting n)) (next bound : ℕ) → next ≤ bound → AreApart es ws next → AreApart es ws bound
  rises es ws next bound more apart = rows_from es ws bound (rows.later es (map awaiting_of ws) next bound more (rows_to es ws next apart))

  taken : (cap : ℕ) (busy : Bool) (entry : Entry n) (es : List (Entry n)) (ws : List (Waiting n)) → AreApart es ws entry.row → AreApart (accepted cap busy entry es) ws (entry.row + 1)
  taken cap busy entry es ws apart = by (candidate_index busy es entry.line) (nat_lt (length es) cap) (λ i is. newest_index-within es entry.line i (candidate_index-newest busy es entry.line i is))
    where
      by : (p : Option ℕ) (room : Bool) → ((i : ℕ) → p ≡ Some i → i < length es) → AreApart (accepted_by p room entry es) ws (entry.row + 1)
      by (Some i) room within =
          subst (λ (fs : List (Entry n)). AreApart fs ws (entry.row + 1)) (merged-row_at es i entry.row entry.bytes entry.given apart.queued_apart (within i refl))
          (rows_from (merged (row_at es i) entry.row entry.bytes entry.given es) ws (entry.row + 1)
          (rows.merges es (map awaiting_of ws) (row_at es i) entry.row entry.bytes entry.given (entry.row + 1) (omega arith) (rows_to es ws entry.row apart)))
      by None true within =
          rows_from (es ++ entry ∷ []) ws (entry.row + 1) (rows.accepted es (map awaiting_of ws) entry (entry.row + 1) (omega arith) (rows_to es ws entry.row apart))
      by None false within = rises es ws entry.row (entry.row + 1) (omega arith) apart

  waits : (es : List (Entry n)) (ws : List (Waiting n)) (w : Waiting n) → AreApart es ws w.row → AreApart es (ws ++ w ∷ []) (w.row + 1)
  waits es ws w apart =
      rows_from es (ws ++ w ∷ []) (w.row + 1)
      (subst (λ (vs : List Awaited). AreRowsApart es vs (w.row + 1)) (sym (map_push awaiting_of ws w))
      (rows.waiting es (map awaiting_of ws) (awaiting_of w) (w.row + 1) (omega arith) (rows_to es ws w.row apart)))

  served : (es : List (Entry n)) (ws : List (Waiting n)) (next : ℕ) → AreApart es ws next → AreApart es (drop 1 ws) next
  served es ws next apart =
      rows_from es (drop 1 ws) next
      (subst (λ (vs : List Awaited). AreRowsApart es vs next) (drop-map awaiting_of 1 ws) (rows.served es (map awaiting_of ws) next (rows_to es ws next apart)))

  whole : (es : List (Entry n)) (ws : List (Waiting n)) (next : ℕ) (under : List ℕ) → AreApart es ws next → AreApart (completed under es) ws next
  whole [] ws next under apart = apart
  whole (e ∷ es) ws next under apart = record {
    queued_below = apart.queued_below;
    waiting_below = apart.waiting_below;
    queued_apart = apart.queued_apart;
    waiting_apart = apart.waiting_apart;
    one_place = apart.one_place;
  }

pub stay_apart_law : StayApartLaw
stay_apart_law n es ws next apart = record {
  rises = λ bound more. rises es ws next bound more apart;
  taken = λ cap busy entry below. taken cap busy entry es ws (rises es ws next entry.row below apart);
  waits = λ w below. waits es ws w (rises es ws next w.row below apart);
  served = served es ws next apart;
  completed = λ under. whole es ws next under apart;
  stored = rows_from (drop 1 es) ws next (rows.stored es (map awaiting_of ws) next (rows_to es ws next apart));
  cut = rows_from es [] next (rows.dropped es (map awaiting_of ws) next (rows_to es ws next apart));
}
