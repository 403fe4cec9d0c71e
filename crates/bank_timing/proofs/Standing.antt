-- Rows that stand have no outcome still while others are set.
use Rattle.std.proofs.Common.{◌≡◌, ◌≢◌, ℕ, ◌<◌, ◌==◌, Bool, true, false, List, [], ◌∷◌, length, drop, refl, sym, ap, ◌∙◌, arith, eq-eqb}
use Rattle.std.proofs.lemmas.Bool.{or_left, or_right}
use Rattle.result_rows.specs.{Table.{HasRow, with_outcome}, declared.Outcome.Outcome}
use Rattle.masked_bytes.specs.{Entries.{has_row, head_row, completed}, declared.entry.Entry.Entry}
use Rattle.bank_shape.specs.declared.waiting.Waiting.{Waiting}
use Rattle.clock_laws.specs.Standing.{has_waiting, AreApart}
use Rattle.bank_timing.{specs.Extending.StandOpen, proofs.Rows.open-set}

pub clash : (b : Bool) → b ≡ true → b ≡ false → ⊥
clash true here there = cc
clash false here there = cc

-- two rows of which one has what the other lacks are two
pub apart-by : (test : ℕ → Bool) (row at : ℕ) → test row ≡ true → test at ≡ false → row ≢ at
apart-by test row at has lacks = λ same. clash (test row) has (ap test same ∙ lacks)

module _ {n : ℕ} where
  pub has-head : (e : Entry n) (es : List (Entry n)) → has_row (e ∷ es) e.row ≡ true
  has-head e es = or_left (e.row == e.row) (has_row es e.row) (eq-eqb e.row e.row refl)

  pub head-there : (es : List (Entry n)) → 0 < length es → has_row es (head_row es) ≡ true
  head-there [] some = absurd (omega arith)
  head-there (e ∷ es) some = has-head e es

  pub waits-head : (w : Waiting n) (ws : List (Waiting n)) → has_waiting (w ∷ ws) w.row ≡ true
  waits-head w ws = or_left (w.row == w.row) (has_waiting ws w.row) (eq-eqb w.row w.row refl)

  pub has-completed : (under : List ℕ) (es : List (Entry n)) (row : ℕ) → has_row (completed under es) row ≡ has_row es row
  has-completed under [] row = refl
  has-completed under (e ∷ es) row = refl

  -- while a row is set that neither stands nor waits
  pub stay-unset : (es : List (Entry n)) (ws : List (Waiting n)) (results : List (Outcome n)) (at : ℕ) (o : Outcome n)
      → HasRow results at → has_row es at ≡ false → has_waiting ws at ≡ false → StandOpen es ws results → StandOpen es ws (with_outcome results at o)
  stay-unset es ws results at o has unqueued unawaited unset = record {
    queued = λ row there. open-set results at o row has (apart-by (has_row es) row at there unqueued) (unset.queued row there);
    waiting = λ row there. open-set results at o row has (apart-by (has_waiting ws) row at there unawaited) (unset.waiting row there);
  }

  -- once the first that waits is served
  pub served-unset : (es : List (Entry n)) (w : Waiting n) (ws : List (Waiting n)) (next : ℕ) (results : List (Outcome n)) (o : Outcome n)
      → AreApart es (w ∷ ws) next → StandOpen es (w ∷ ws) results → StandOpen es ws (with_outcome results w.row o)
  served-unset es w ws next results o apart unset =
      let here = unset.waiting w.row (waits-head w ws) in
      stay-unset es ws results w.row o here.exists (unqueued (has_row es w.row) refl) apart.waiting_apart.0
      (record { queued = unset.queued; waiting = λ row there. unset.waiting row (or_right (w.row == row) (has_waiting ws row) there) })
    where
      unqueued : (b : Bool) → has_row es w.row ≡ b → has_row es w.row ≡ false
      unqueued false is = is
      unqueued true is = absurd (clash (has_waiting (w ∷ ws) w.row) (waits-head w ws) (apart.one_place w.row is))

  -- once the head is stored
  pub stored-unset : (es : List (Entry n)) (ws : List (Waiting n)) (next : ℕ) (results : List (Outcome n)) (o : Outcome n)
      → 0 < length es → AreApart es ws next → StandOpen es ws results → StandOpen (drop 1 es) ws (with_outcome results (head_row es) o)
  stored-unset [] ws next results o some apart unset = absurd (omega arith)
  stored-unset (e ∷ es) ws next results o some apart unset =
      let here = unset.queued e.row (has-head e es) in
      stay-unset es ws results e.row o here.exists apart.queued_apart.0 (apart.one_place e.row (has-head e es))
      (record { queued = λ row there. unset.queued row (or_right (e.row == row) (has_row es row) there); waiting = unset.waiting })

  pub completed-unset : (under : List ℕ) (es : List (Entry n)) (ws : List (Waiting n)) (results : List (Outcome n)) → StandOpen es ws results → StandOpen (completed under es) ws results
  completed-unset under es ws results unset = record { queued = λ row there. unset.queued row (sym (has-completed under es row) ∙ there); waiting = unset.waiting }
