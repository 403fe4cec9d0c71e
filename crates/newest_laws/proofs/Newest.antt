-- The newest bytes of a line are those of its accepted writes, laid over each other.
use Rattle.std.proofs.Common.{◌≡◌, ℕ, Bool, true, false, cond, List, [], ◌∷◌, map, refl, sym, ap, ◌∙◌}
use Rattle.std.specs.Prelude.{filter, replicate}
use Rattle.masked_bytes.specs.{Entries.Layer, Masked.laid}
use Rattle.result_rows.specs.declared.Outcome.{Outcome}
use Rattle.row_rules.specs.{Rows.{accepted_of, lay_row, newest}, declared.Asks.Asks, declared.Asks.TheVariants.{Reads, Writes, Cuts}, declared.Row.Row}
use Rattle.newest_laws.specs.Newest.{CutsLaw, WritesLaw, given_in, without_cuts, writes_of}

module _ (n : ℕ) where
  -- bytes laid over each other, the newest on top
  abbrev laid-all : List Layer → List ℕ
  laid-all [] = replicate n 0
  laid-all (top ∷ below) = laid top.bytes top.given (laid-all below)

  module _ (line : ℕ) where
    pub as-laid : (rows : List (Row n)) → newest rows line ≡ laid-all (writes_of line rows)
    as-laid [] = refl
    as-laid (r ∷ rows) = by (accepted_of line r) (as-laid rows)
      where
        by : (own : Bool) → newest rows line ≡ laid-all (writes_of line rows)
            → (cond own (laid (given_in r).bytes (given_in r).given (newest rows line)) (newest rows line))
            ≡ laid-all (map given_in (cond own (r ∷ filter (accepted_of line) rows) (filter (accepted_of line) rows)))
        by true ih = ap (λ (under : List ℕ). laid (given_in r).bytes (given_in r).given under) ih
        by false ih = ih

    -- a cut lays nothing
    uncut : (rows : List (Row n)) → newest (without_cuts rows) line ≡ newest rows line
    uncut [] = refl
    uncut (r ∷ rows) = by r.tick r.asks r.outcome (uncut rows)
      where
        by : (tick : ℕ) (asks : Asks n) (outcome : Outcome n) → newest (without_cuts rows) line ≡ newest rows line
            → newest (without_cuts (record { tick = tick; asks = asks; outcome = outcome } ∷ rows)) line ≡ newest (record { tick = tick; asks = asks; outcome = outcome } ∷ rows) line
        by tick (Reads at) outcome ih = ih
        by tick (Writes at bytes given) outcome ih = ap (lay_row line (record { tick = tick; asks = Writes at bytes given; outcome = outcome })) ih
        by tick Cuts outcome ih = ih

pub writes_law : WritesLaw
writes_law n rows other line same = as-laid n line rows ∙ ap (laid-all n) same ∙ sym (as-laid n line other)

pub cuts_law : CutsLaw
cuts_law n rows other line same = sym (uncut n line rows) ∙ ap (λ (rs : List (Row n)). newest rs line) same ∙ uncut n line other
