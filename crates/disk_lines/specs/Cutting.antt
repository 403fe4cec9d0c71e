-- When the power is cut.
use Rattle.std.specs.Prelude.{◌≡◌, ℕ, ◌+◌, max, List, [], ◌∷◌, ◌++◌, drop, replicate}
use Rattle.trace_reader.specs.declared.event.Event.{Event}
use Rattle.disk_lines.specs.{Hearing.{cuts_by, events_in}, declared.cuts.Cuts.Cuts, declared.watch.Heard.Heard}

-- when cuts come, from a tick on, that are asked for at these ticks: in their order, each at its own tick, or at once where that is past
abbrev pub come_from : ℕ → List ℕ → List ℕ
come_from now [] = []
come_from now (tick ∷ more) = max tick now ∷ come_from (max tick now) more

-- the cuts that have yet to come, and those behind the next one
abbrev pub left_of : Cuts → List ℕ
left_of cuts = drop cuts.came cuts.ticks.items

abbrev pub left_behind : Cuts → List ℕ
left_behind cuts = drop (cuts.came + 1) cuts.ticks.items

module _ {n : ℕ} where
  -- the ticks of the power cuts among rows, the newest of which stands first, and behind them others
  abbrev pub cuts_then : List (Event n) → List ℕ → List ℕ
  cuts_then [] others = others
  cuts_then (event ∷ before) others = cuts_then before (replicate (cuts_by event.op) event.tick ++ others)

  -- when the power is cut in all: as it was, among the rows that came, and from a tick on as it has yet to be
  abbrev pub all_cuts : ℕ → List (Heard n) → Cuts → List ℕ
  all_cuts tick heard cuts = cuts_then (events_in heard) (come_from tick (left_of cuts))

  -- the power was cut at the first of these ticks, by the rows that came, as often as they say; and the others have yet to come: none is left out whose tick is past
  pub record CutsCome (cuts : List ℕ) (heard : List (Heard n)) (tick : ℕ) : Type 0 where
    pub left : List ℕ
    pub are : cuts ≡ cuts_then (events_in heard) (come_from tick left)
