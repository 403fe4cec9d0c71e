-- A whole run is a run in one part.
use Rattle.std.proofs.Common.{ℕ, ◌≤◌, List, [], ◌∷◌, map, refl}
use Rattle.std.{proofs.lemmas.List.Elements.All-map}
use Rattle.result_rows.specs.declared.Outcome.{Outcome}
use Rattle.row_rules.specs.{Lines.IsOfLines, declared.Row.Row}
use Rattle.module_shape.specs.Limits.{total_of}
use Rattle.module_laws.specs.{Asking.{Asked, row_with}, Serves.TicksFall}
use Rattle.parted_laws.specs.Parted.{AreRowsOf, OnePartLaw, RowTicksFall}

module _ {n : ℕ} (outcome : ℕ → Outcome n) where
  same_rows : (asked : List (Asked n)) → AreRowsOf asked (map (row_with outcome) asked)
  same_rows [] = tt
  same_rows (a ∷ asked) = (refl, refl, same_rows asked)

  rows_fall : (asked : List (Asked n)) → TicksFall asked → RowTicksFall (map (row_with outcome) asked)
  rows_fall [] falls = tt
  rows_fall (a ∷ asked) falls = (All-map (λ (q : Row n). q.tick ≤ a.tick) (row_with outcome) asked falls.0, rows_fall asked falls.1)

pub one_part_law : OnePartLaw
one_part_law n m e raw seed off part served silent = record {
  served = λ bank few. served;
  banks = λ bank few. record { numbered = part.trace; rows_of = same_rows part.outcome part.trace; came = refl; outcomes = refl };
  exist = All-map (λ (r : Row n). IsOfLines (total_of raw) r.asks) (row_with part.outcome) part.trace served.exist;
  ticks = rows_fall part.outcome part.trace served.ticks;
  joined = record { size = served.size; own = λ bank line few from to. refl; bounds = λ bank few. refl; silent = silent };
}
